-- What the program promises of a sheet, and the room that it needs.
use Rattle.std.specs.Prelude.{◌≡◌, Bool, List, ℕ, length}
use Rattle.definitions.specs.Vocabulary.{Place}
use Rattle.sheet_ground.specs.Readings.{PlaceFits}
use Rattle.sheet_ground.specs.Ground.{ground as ground_of, ClearTo}
use Rattle.readings.specs.Sheet.{screen_at, totals_to, Sound}
use Rattle.sheet_program.specs.declared.values.Sheet.{Sheet}

-- The framebuffers of a sheet have one size, the place's.
pub record Buffers (place : Place) (ground screen alone : ℕ) : Type 0 where
  pub fits : PlaceFits ground place
  pub as_screen : ground ≡ screen
  pub as_alone : ground ≡ alone

-- Room for the largest: ground, screen and alone.
pub record LargeBuffers (a b c : ℕ) : Type 0 where
  pub ground : a ≡ 65536
  pub screen : b ≡ 65536
  pub alone : c ≡ 65536

-- The screen begins as the ground.
pub record Begins (place : Place) (ground screen alone : List ℕ) : Type 0 where
  pub buffers : Buffers place (length ground) (length screen) (length alone)
  pub begins : screen ≡ ground

-- What the loop leaves: the totals and the screen after all readings, sound on a ground that is clear for them.
pub record Runs (narrow : Bool) (font : List ℕ) (place : Place) (ground screen : List ℕ) (sheet : Sheet) : Type 0 where
  pub totals : sheet.totals ≡ totals_to narrow font place ground 901
  pub left : screen ≡ (screen_at narrow font place ground 901).bytes
  pub sound : ClearTo 901 font place ground → Sound narrow font place ground sheet.totals

-- A sheet has the totals of its definition, and is sound.
pub record SheetOf (narrow : Bool) (font : List ℕ) (place : Place) (sheet : Sheet) : Type 0 where
  pub totals : sheet.totals ≡ totals_to narrow font place (ground_of font place) 901
  pub sound : Sound narrow font place (ground_of font place) sheet.totals
