-- Laws of pictures: glyphs in a row are one picture above the other, and nothing is drawn outside the box. Assumes nothing.
use Rattle.integers.proofs.Prelude.{◌≡◌, refl, sym, Bool, true, false, ◌&&◌, List, [], ◌∷◌, ◌++◌, ℕ, ◌+◌, ◌*◌, ℤ, pos, nat_abs, ◌-ℤ◌, le_z, lt_z, get_or}
use Rattle.integers.specs.Integers.{pick}
use Rattle.integers.proofs.Laws.{zarith}
use Rattle.integers.proofs.Choices.{impossible}
use Rattle.definitions.specs.Vocabulary.{Rectangle, BoundingBox, None, Some, GlyphReader, FontColor}
use Rattle.definitions.specs.Geometry.{left, top, right, bottom, Inside, InsideBox}
use Rattle.definitions.specs.Text.{Placed, box_of, join_all}
use Rattle.definitions.specs.Picture.{Paint, keep, put, above, paint_of, covers, rectangle_picture, box_picture, text_picture}
use Rattle.definitions.proofs.TextLaws.{Each}
use Rattle.definitions.proofs.JoinLaws.{join_contains_left, join_contains_right}

pub above_keep : (p : Paint) → above p keep ≡ p
above_keep keep = refl
above_keep (put c) = refl

above_assoc : (p q r : Paint) → above (above p q) r ≡ above p (above q r)
above_assoc keep q r = refl
above_assoc (put c) q r = refl

-- ---- what is covered, and what is not

-- A rectangle of 2 × 1 pixels at (1, 1), along its row and across it: each edge, and the pixel past it.
pub edges : let r : Rectangle = record { top_left = record { x = pos 1; y = pos 1 }; size = record { width = 2; height = 1 } } in
    (covers r (pos 0) (pos 1) ∷ covers r (pos 1) (pos 1) ∷ covers r (pos 2) (pos 1) ∷ covers r (pos 3) (pos 1)
    ∷ covers r (pos 1) (pos 0) ∷ covers r (pos 1) (pos 2) ∷ [])
    ≡ (false ∷ true ∷ true ∷ false ∷ false ∷ false ∷ [])
edges = refl

all_four : (a b c d : Bool) → (a && b && c && d) ≡ true → ((a ≡ true) × (b ≡ true)) × ((c ≡ true) × (d ≡ true))
all_four true true true true e = ((refl, refl), (refl, refl))
all_four true true true false e = impossible cc
all_four true true false d e = impossible cc
all_four true false c d e = impossible cc
all_four false b c d e = impossible cc

pub covers_inside : (column row : ℤ) (r : Rectangle) → covers r column row ≡ true → Inside column row r
covers_inside column row r e =
    let h = all_four (le_z (left r) column) (lt_z column (right r)) (le_z (top r) row) (lt_z row (bottom r)) e in
    record { from_left = omega zarith; to_right = omega zarith; from_top = omega zarith; to_bottom = omega zarith }

pub inside_covers : (column row : ℤ) (r : Rectangle) → Inside column row r → covers r column row ≡ true
inside_covers column row r h =
    let a : le_z (left r) column ≡ true = omega (zarith, h.from_left) in
    let b : lt_z column (right r) ≡ true = omega (zarith, h.to_right) in
    let c : le_z (top r) row ≡ true = omega (zarith, h.from_top) in
    let d : lt_z row (bottom r) ≡ true = omega (zarith, h.to_bottom) in
    rw (a, b, c, d)

module _ (color : FontColor) (column row : ℤ) where
  pub rectangle_inside : (bits : List ℕ) (r : Rectangle) → Inside column row r
      → rectangle_picture color bits r column row
      ≡ paint_of color (get_or bits (nat_abs (row -ℤ top r) * r.size.width + nat_abs (column -ℤ left r)) 0)
  rectangle_inside bits r h = rw (inside_covers column row r h)

  -- A glyph's picture keeps what lies outside its box.
  pub rectangle_outside : (bits : List ℕ) (r : Rectangle) → (Inside column row r → ⊥) → rectangle_picture color bits r column row ≡ keep
  rectangle_outside bits r out = by (covers r column row) refl
    where
      by : (t : Bool) → covers r column row ≡ t
          → pick t (paint_of color (get_or bits (nat_abs (row -ℤ top r) * r.size.width + nat_abs (column -ℤ left r)) 0)) keep ≡ keep
      by true e = absurd (out (covers_inside column row r e))
      by false e = refl

  pub box_outside : (bits : List ℕ) (b : BoundingBox) → (InsideBox column row b → ⊥) → box_picture color bits b column row ≡ keep
  box_outside bits None out = refl
  box_outside bits (Some r) out = rectangle_outside bits r out

module _ (color : FontColor) (pixels_of : GlyphReader → List ℕ) where
  pub picture_append : (ps qs : List Placed) (column row : ℤ)
      → text_picture color pixels_of (ps ++ qs) column row
      ≡ above (text_picture color pixels_of qs column row) (text_picture color pixels_of ps column row)
  unfolding text_picture
  picture_append [] qs column row = sym (above_keep (text_picture color pixels_of qs column row))
  picture_append (p ∷ ps) qs column row =
      rw (picture_append ps qs column row)
      (above_assoc (text_picture color pixels_of qs column row) (text_picture color pixels_of ps column row) (box_picture color (pixels_of p.glyph) (box_of p) column row))

  -- A text's picture keeps what lies outside the text's box, and everything where there is none.
  pub picture_outside : (ps : List Placed) (column row : ℤ) → (InsideBox column row (join_all ps) → ⊥) → text_picture color pixels_of ps column row ≡ keep
  unfolding text_picture join_all
  picture_outside [] column row out = refl
  picture_outside (p ∷ ps) column row out =
      rw (
        picture_outside ps column row (λ i. out (join_contains_right column row (box_of p) (join_all ps) i)),
        box_outside color column row (pixels_of p.glyph) (box_of p) (λ i. out (join_contains_left column row (box_of p) (join_all ps) i)),
      )

-- Glyphs that have the same pixels make the same picture.
pub same_pixels_picture : (color : FontColor) (a b : GlyphReader → List ℕ) (ps : List Placed) → Each (λ p. a p.glyph ≡ b p.glyph) ps
    → (column row : ℤ) → text_picture color a ps column row ≡ text_picture color b ps column row
unfolding text_picture
same_pixels_picture color a b [] h column row = refl
same_pixels_picture color a b (p ∷ ps) h column row = rw (same_pixels_picture color a b ps h.1 column row, h.0)
