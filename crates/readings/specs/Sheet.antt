-- The sheet: each reading drawn over the one before by the step of the gauge, and the screen compared with what it is to show.
use Rattle.std.specs.Prelude.{◌≡◌, Bool, false, List, [], ℕ, zero, suc, ◌+◌, ◌<◌, Option, None, Some}
use Rattle.integers.specs.Integers.{pick}
use Rattle.definitions.specs.Vocabulary.{Framebuffer, PixelFormat, Bytes, Packed, RenderedDimensions, Place}
use Rattle.definitions.specs.Framebuffer.{unpacked, BufferFits}
use Rattle.definitions.specs.Refusals.{Outcome, outcome}
use Rattle.redraw_checks.specs.Drawing.{drawn, ground_of}
use Rattle.buffers.specs.Differences.{differences}
use Rattle.sight.specs.declared.Sight.{Sight}
use Rattle.sight.specs.Sights.{sight_of}
use Rattle.sheet_totals.specs.declared.Totals.{Totals}
use Rattle.sheet_totals.specs.Totals.{no_totals, whole_one, part_one, unseen_one, refused_one, tallied}
use Rattle.redraw.specs.Redraw.{reading_on, redrawn, taken}
use Rattle.faulty_step.specs.Fault.{step_buffer}
use Rattle.readings.specs.declared.values.Found.{Found}
use Rattle.sheet_ground.specs.Readings.{reading_text, reading}

-- ---- one reading after the other

-- what the screen holds, and the number of the reading that the next step is to clear, if there is one
pub record SheetState : Type 0 where
  pub old : Option ℕ
  pub bytes : List ℕ

-- the text of that reading; where there is none, no text
abbrev pub shown_text : Option ℕ → List ℕ
shown_text None = []
shown_text (Some k) = reading_text k

abbrev pub screen_of : Option ℕ → List ℕ → SheetState
screen_of old bytes = record { old = old; bytes = bytes }

-- reading k over what the screen holds
abbrev pub answer_on : List ℕ → Place → SheetState → ℕ → Outcome RenderedDimensions
answer_on font place s k = redrawn font (shown_text s.old) (reading place k) place.background (ground_of place s.bytes)

abbrev pub screen_after : Bool → List ℕ → Place → SheetState → ℕ → SheetState
screen_after narrow font place s k = record {
  old = pick (taken (answer_on font place s k)) (Some k) s.old;
  bytes = step_buffer narrow font (shown_text s.old) (reading place k) place.background (ground_of place s.bytes);
}

-- what the screen is to show after reading k: that reading alone on the ground, whole, or the ground if the reading is refused
abbrev pub wanted : List ℕ → Place → List ℕ → ℕ → List ℕ
wanted font place ground k = reading_on font (reading place k) (ground_of place ground)

-- the pixels that are compared: packed ones are unpacked, and in bytes each byte is one, however many there are
abbrev pub compared : PixelFormat → Framebuffer → List ℕ → List ℕ
compared Bytes p buffer = buffer
compared Packed p buffer = unpacked p buffer

-- in how many of them two buffers differ
abbrev pub apart : Framebuffer → List ℕ → List ℕ → ℕ
apart p a b = differences (compared p.format p a) (compared p.format p b)

-- What comparing asks of a buffer: only unpacking goes by the framebuffer's size.
abbrev pub Comparable : PixelFormat → ℕ → Framebuffer → Type 0
Comparable Bytes n p = Unit {0}
Comparable Packed n p = BufferFits n p

-- the pixels in which it differs from that
abbrev pub differing : List ℕ → Place → List ℕ → SheetState → ℕ → ℕ
differing font place ground s k = apart place.framebuffer s.bytes (wanted font place ground k)

-- the screen before reading k
unfoldable pub screen_at : Bool → List ℕ → Place → List ℕ → ℕ → SheetState
screen_at narrow font place ground zero = record { old = None; bytes = ground }
screen_at narrow font place ground (suc k) = screen_after narrow font place (screen_at narrow font place ground k) k

-- What is found of a step: its answer, the reading to clear next, and how many pixels differ.
pub record Finds (narrow : Bool) (font : List ℕ) (place : Place) (ground : List ℕ) (s : SheetState) (k : ℕ) (found : Found) (exit : List ℕ) : Type 0 where
  pub answer : outcome found.answer ≡ answer_on font place s k
  pub old : found.old ≡ (screen_after narrow font place s k).old
  pub bytes : exit ≡ (screen_after narrow font place s k).bytes
  pub differing : found.differing ≡ differing font place ground (screen_after narrow font place s k) k

-- ---- the totals

-- of the first n readings
unfoldable pub totals_to : Bool → List ℕ → Place → List ℕ → ℕ → Totals
totals_to narrow font place ground zero = no_totals
totals_to narrow font place ground (suc k) =
    tallied (totals_to narrow font place ground k)
    (sight_of place.framebuffer (answer_on font place (screen_at narrow font place ground k) k))
    (differing font place ground (screen_at narrow font place ground (suc k)) k)

-- what is seen of a reading that is drawn alone on the ground
abbrev pub seen_alone : List ℕ → Place → List ℕ → ℕ → Option Sight
seen_alone font place ground k = sight_of place.framebuffer (drawn font (reading place k) (ground_of place ground))

-- of how many of the first n that is so
unfoldable pub alone_to : (Option Sight → ℕ) → List ℕ → Place → List ℕ → ℕ → ℕ
alone_to one font place ground zero = 0
alone_to one font place ground (suc k) = alone_to one font place ground k + one (seen_alone font place ground k)

-- ---- what a sheet is to be

-- Every reading is counted once, by what is seen of it when it is drawn alone, and answers what it then answers. Without the fault
-- the screen shows after each reading what it is to show, so that none differs and a refused one leaves the field empty.
pub record Sound (narrow : Bool) (font : List ℕ) (place : Place) (ground : List ℕ) (t : Totals) : Type 0 where
  pub all : t.whole + t.part + t.unseen + t.refused ≡ 901
  pub whole : t.whole ≡ alone_to whole_one font place ground 901
  pub part : t.part ≡ alone_to part_one font place ground 901
  pub unseen : t.unseen ≡ alone_to unseen_one font place ground 901
  pub refused : t.refused ≡ alone_to refused_one font place ground 901
  pub each_answers : (k : ℕ) → k < 901
      → answer_on font place (screen_at narrow font place ground k) k ≡ drawn font (reading place k) (ground_of place ground)
  pub none_differs : narrow ≡ false → t.differing ≡ 0
  pub each_shown : narrow ≡ false → (k : ℕ) → k < 901 → (screen_at narrow font place ground (suc k)).bytes ≡ wanted font place ground k
