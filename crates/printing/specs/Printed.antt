-- What is printed of a call's answer, in the measuring program's words.
use Rattle.std.specs.Prelude.{List, ◌∷◌, ◌++◌, ℕ, codes, Option, Some, None, Result, Ok, Err, option_map}
use Rattle.std.specs.Fmt.{decimal, signed_decimal}
use Rattle.definitions.specs.Vocabulary.{Error, BoundingBox, Rectangle, RenderedDimensions}
use Rattle.definitions.specs.Refusals.{error_number, code_point}

abbrev pub refusal_text : Error → List ℕ
refusal_text e = codes "no " ++ decimal (error_number e) ++ 32 ∷ decimal (code_point e)

abbrev pub area_text : Rectangle → List ℕ
area_text r =
    signed_decimal r.top_left.x ++ 32 ∷ signed_decimal r.top_left.y
    ++ 32 ∷ decimal r.size.width ++ 32 ∷ decimal r.size.height

abbrev pub box_text : BoundingBox → List ℕ
box_text (Some r) = area_text r
box_text None = codes "none"

abbrev pub dimensions_text : RenderedDimensions → List ℕ
dimensions_text d = signed_decimal d.advance.x ++ 32 ∷ signed_decimal d.advance.y ++ 32 ∷ box_text d.bounding_box

-- `ok` and the value, as it prints itself, or the refusal
abbrev pub answer_text : {T : Type 0} → (T → Option (List ℕ)) → Result T Error → Option (List ℕ)
answer_text text (Ok value) = option_map (λ (t : List ℕ). codes "ok " ++ t) (text value)
answer_text text (Err e) = Some (refusal_text e)
