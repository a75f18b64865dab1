-- What the screen shows before the first reading: rubbish, and background wherever a reading can stand.
use Rattle.std.specs.Prelude.{◌≡◌, List, ℕ, zero, suc, ◌+◌, ◌%◌, ◌<◌, pos, replicate}
use Rattle.definitions.specs.Vocabulary.{RenderedDimensions, Place}
use Rattle.definitions.specs.Refusals.{success}
use Rattle.definitions.specs.Geometry.{InsideBox}
use Rattle.definitions.specs.Framebuffer.{map_at, per_byte, in_byte, byte_at, size_in_bytes}
use Rattle.definitions.specs.Agreement.{pixel}
use Rattle.redraw_checks.specs.Drawing.{measured, ground_of}
use Rattle.redraw.specs.Redraw.{AllOf, cleared_by}
use Rattle.sheet_ground.specs.Readings.{reading}

abbrev pub rubbish_at : ℕ → ℕ
rubbish_at i = 96 + i % 101

unfoldable pub rubbish : ℕ → List ℕ
rubbish bytes = map_at (λ i old. rubbish_at i) 0 (replicate bytes 0)

-- The boxes that the first k readings measure are filled with the background; where measuring refuses one, nothing is.
unfoldable pub cleared_to : List ℕ → Place → ℕ → List ℕ → List ℕ
cleared_to font place zero bytes = bytes
cleared_to font place (suc k) bytes =
    cleared_by place.framebuffer place.background (measured font (reading place k)) (cleared_to font place k bytes)

abbrev pub ground : List ℕ → Place → List ℕ
ground font place = cleared_to font place 901 (rubbish (size_in_bytes place.framebuffer))

-- Every pixel is background in the box of each of the first n readings ..
abbrev pub ClearTo : ℕ → List ℕ → Place → List ℕ → Type 0
ClearTo n font place bytes =
    (k : ℕ) → k < n → (d : RenderedDimensions) → measured font (reading place k) ≡ success d
    → AllOf place.background (ground_of place bytes) d.bounding_box

-- .. and what lies in none of these boxes is rubbish, a pixel of its byte.
abbrev pub RubbishBeside : ℕ → List ℕ → Place → List ℕ → Type 0
RubbishBeside n font place bytes =
    (column row : ℕ) → column < place.framebuffer.width → row < place.framebuffer.height
    → ((k : ℕ) → k < n → (d : RenderedDimensions) → measured font (reading place k) ≡ success d
    → InsideBox (pos column) (pos row) d.bounding_box → ⊥)
    → let p = place.framebuffer in
    pixel (ground_of place bytes) bytes column row ≡ in_byte p.format (row % per_byte p.format) (rubbish_at (byte_at p column row))

-- The ground, and both.
pub record GroundLaid (font : List ℕ) (place : Place) (bytes : List ℕ) : Type 0 where
  pub laid : bytes ≡ ground font place
  pub clear : ClearTo 901 font place bytes
  pub beside : RubbishBeside 901 font place bytes
