-- How a call's outcome reaches a caller in C: a status, and ten numbers stored in the slice `out`.
use Rattle.std.specs.Prelude.{◌≡◌, List, [], ◌∷◌, ◌++◌, Option, Some, None, ℕ, ℤ, pos}
use lib.Seq.{sets}
use Rattle.definitions.specs.Vocabulary.{Error, BoundingBox, Point, Rectangle, RenderedDimensions, LookupSteps}
use Rattle.definitions.specs.Refusals.{Outcome, success, refused, error_number, code_point}
use Rattle.definitions.specs.Lookup.{no_steps}
use Rattle.definitions.specs.Text.{point}
use Rattle.definitions.specs.Font.{u8g2}
use Rattle.definitions.specs.Sums.{sums}
use Rattle.c_values.specs.declared.reply.Reply.{Reply}
use Rattle.c_codes.specs.declared.Meaning.{Meaning}

-- A refusal: its number (SPECIFICATION, Refusals) as the status, the code point, and zeros.
abbrev pub refused_reply : ℕ → ℕ → Reply
refused_reply n c = record {
  status = n;
  code_point = pos c;
  x = pos 0;
  y = pos 0;
  boxed = pos 0;
  left = pos 0;
  top = pos 0;
  width = pos 0;
  height = pos 0;
}

abbrev pub error_reply : Error → Reply
error_reply e = refused_reply (error_number e) (code_point e)

abbrev pub boxed_reply : Point → Rectangle → Reply
boxed_reply advance r = record {
  status = 0;
  code_point = pos 0;
  x = advance.x;
  y = advance.y;
  boxed = pos 1;
  left = r.top_left.x;
  top = r.top_left.y;
  width = pos r.size.width;
  height = pos r.size.height;
}

abbrev pub bounds_reply : Point → BoundingBox → Reply
bounds_reply advance (Some r) = boxed_reply advance r
bounds_reply advance None = record {
  status = 0;
  code_point = pos 0;
  x = advance.x;
  y = advance.y;
  boxed = pos 0;
  left = pos 0;
  top = pos 0;
  width = pos 0;
  height = pos 0;
}

-- What succeeds with a value of its own shape, or is refused.
abbrev pub reply_by : {A : Type 0} → (A → Reply) → Outcome A → Reply
reply_by shape (success a) = shape a
reply_by shape (refused n c) = refused_reply n c

abbrev pub rectangle_reply : Rectangle → Reply
rectangle_reply = boxed_reply (point (pos 0) (pos 0))

abbrev pub box_reply : Outcome Rectangle → Reply
box_reply = reply_by rectangle_reply

abbrev pub dimensions_reply : RenderedDimensions → Reply
dimensions_reply d = bounds_reply d.advance d.bounding_box

abbrev pub text_reply : Outcome RenderedDimensions → Reply
text_reply = reply_by dimensions_reply

abbrev pub bounding_box_reply : BoundingBox → Reply
bounding_box_reply = bounds_reply (point (pos 0) (pos 0))

abbrev pub aligned_reply : Outcome BoundingBox → Reply
aligned_reply = reply_by bounding_box_reply

-- A reply, and the steps of the lookups that go with it ..
pub record Counted : Type 0 where
  pub reply : Reply
  pub steps : LookupSteps

abbrev pub counted : Reply → LookupSteps → Counted
counted r steps = record { reply = r; steps = steps }

-- .. of a call on a text
abbrev pub with_sums : {A : Type 0} → List ℕ → List ℕ → (Outcome A → Reply) → Outcome A → Counted
with_sums font text reply o = counted (reply o) (sums (u8g2 font) text o)

-- .. and of a call that looks nothing up
abbrev pub without_steps : Reply → Counted
without_steps r = counted r no_steps

-- The eight numbers of a reply, and the two of the steps.
abbrev pub values : Reply → List ℤ
values r =
    r.code_point ∷ r.x ∷ r.y ∷ r.boxed ∷ r.left ∷ r.top ∷ r.width ∷ r.height ∷ []

abbrev pub step_values : LookupSteps → List ℤ
step_values q = pos q.records ∷ pos q.entries ∷ []

-- The numbers stored in front of what stands there.
abbrev pub stored : Counted → List ℤ → List ℤ
stored a out = sets out 0 (values a.reply ++ step_values a.steps)

-- What a call comes to by its codes: status 255 and nothing stored where one has no meaning.
abbrev pub status : Option Meaning → (Meaning → Counted) → ℕ
status None answer = 255
status (Some m) answer = (answer m).reply.status

abbrev pub stored_reply : Option Meaning → (Meaning → Counted) → List ℤ → List ℤ
stored_reply None answer out = out
stored_reply (Some m) answer out = stored (answer m) out

abbrev pub Answers : Option Meaning → (Meaning → Counted) → ℕ → List ℤ → List ℤ → Type 0
Answers codes answer r before after = (r ≡ status codes answer) × (after ≡ stored_reply codes answer before)

-- What the framebuffer holds after drawing: as it was where a code has no meaning.
abbrev pub drawn_by : Option Meaning → (Meaning → List ℕ) → List ℕ → List ℕ
drawn_by None drawn buffer = buffer
drawn_by (Some m) drawn buffer = drawn m
