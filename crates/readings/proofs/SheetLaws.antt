-- The sheet, reading by reading: each step answers as drawing the reading alone on the ground does, and without the fault the screen
-- shows after each what it is to show. Both are the laws of the step (StepsLaws of redraw), reading by reading. Assumes nothing.
use Rattle.integers.proofs.Prelude.{◌≡◌, refl, sym, ap, subst, ◌∙◌, Bool, true, false, List, [], ◌∷◌, ◌++◌, ℕ, zero, suc, ◌+◌, ◌≤◌, ◌<◌, dec_lt, arith}
use Rattle.integers.proofs.Prelude.{length}
use Rattle.integers.proofs.Choices.{impossible}
use Rattle.integers.specs.Integers.{pick}
use Rattle.std.specs.Prelude.{Option, None, Some, ◌||◌}
use Rattle.definitions.specs.Vocabulary.{RenderedDimensions, Transparent, Place}
use Rattle.definitions.specs.Refusals.{Outcome, success, refused, Cause, any_applies, outcome}
use Rattle.definitions.specs.Header.{font_causes}
use Rattle.definitions.specs.Utf8.{table, row_of, first_character, decode_from}
use Rattle.definitions.specs.Font.{u8g2}
use Rattle.definitions.specs.Framebuffer.{unpacked, framebuffer_cause, BufferFits}
use Rattle.definitions.proofs.FramebufferLaws.{size_fits}
use Rattle.definitions.specs.Limits.{text_cause, position_cause, color_off, color_cause, background_cause}
use Rattle.angles.specs.AngleText.{degrees_then, angle_text}
use Rattle.redraw_checks.specs.Drawing.{asked, drawn, after, ground_of}
use Rattle.buffers.specs.Differences.{differences}
use Rattle.sight.specs.declared.Sight.{Sight}
use Rattle.sight.specs.Sights.{sight_of}
use Rattle.sheet_totals.specs.declared.Totals.{Totals}
use Rattle.sheet_totals.specs.Totals.{no_totals, whole_one, part_one, unseen_one, refused_one, tallied, Few}
use Rattle.sheet_totals.proofs.TotalsLaws.{at_most, one}
use Rattle.redraw_checks.specs.Checks.{redraw_causes}
use Rattle.redraw.specs.Redraw.{whole_or, reading_on, redrawn, redrawn_buffer, taken}
use Rattle.redraw.specs.Steps.{Setting, setting_of, Reading, reading_of, in_setting, ground_in, Screen, alone, showing, ClearFor}
use Rattle.redraw.proofs.RedrawLaws.{drawn_measured, causes_of, drawn_early, drawn_late}
use Rattle.buffers.proofs.DifferenceLaws.{none_if_same}
use Rattle.redraw.proofs.StepsLaws.{Sized, bare_sized, answers_alone, sized_next, length_left, length_reading, Shown, bare_shown, nothing_shown, step_shows}
use Rattle.faulty_step.specs.Fault.{to_fill, step_buffer}
use Rattle.readings.specs.declared.values.Found.{Found}
use Rattle.sheet_ground.specs.Readings.{reading_text, reading}
use Rattle.sheet_ground.specs.Ground.{ClearTo}
use Rattle.faulty_step.proofs.NarrowLaws.{faultless}
use Rattle.readings.specs.Sheet.{SheetState, shown_text, screen_of, answer_on, screen_after, wanted, compared, apart, differing, screen_at}
use Rattle.readings.specs.Sheet.{Finds, totals_to, alone_to, Sound}
use Rattle.readings.proofs.ComparedLaws.{apart_unpacked}

-- ---- the texts

fine_to : ℕ → Bool
fine_to zero = true
fine_to (suc k) = pick (text_cause (reading_text k)).applies false (fine_to k)

each_to : (n : ℕ) → fine_to n ≡ true → (k : ℕ) → k < n → (text_cause (reading_text k)).applies ≡ false
unfolding fine_to
each_to zero e k h = absurd (omega arith)
each_to (suc n) e k h = by (text_cause (reading_text n)).applies refl (each_to n) (dec_lt k n)
  where
    by : (b : Bool) → (text_cause (reading_text n)).applies ≡ b → (fine_to n ≡ true → (k : ℕ) → k < n → (text_cause (reading_text k)).applies ≡ false) → Dec (k < n)
        → (text_cause (reading_text k)).applies ≡ false
    by true a below d = impossible cc
    by false a below (yes p) = below (rw a at e) k p
    by false a below (no p) = let last : n ≡ k = omega arith in subst (λ (j : ℕ). (text_cause (reading_text j)).applies ≡ false) last a

-- computed for all of them
all_fine : fine_to 901 ≡ true
unfolding fine_to angle_text degrees_then decode_from first_character row_of table
all_fine = refl

-- No reading's text is refused for itself.
fine : (k : ℕ) → k < 901 → (text_cause (reading_text k)).applies ≡ false
fine = each_to 901 all_fine

applies_behind : (cs : List Cause) (c : Cause) (ds : List Cause) → c.applies ≡ true → any_applies (cs ++ c ∷ ds) ≡ true
applies_behind [] c ds e = rw e refl
applies_behind (x ∷ cs) c ds e = by x.applies (applies_behind cs c ds e)
  where
    by : (b : Bool) → any_applies (cs ++ c ∷ ds) ≡ true → (b || any_applies (cs ++ c ∷ ds)) ≡ true
    by true h = refl
    by false h = h

module _ (narrow : Bool) (font : List ℕ) (place : Place) (ground : List ℕ) (takes : color_off place.framebuffer.format (Transparent place.background) ≡ false) where
  abbrev setting : Setting
  setting = setting_of font place

  abbrev in_color : ℕ → Reading
  in_color k = reading_of (reading_text k) place.style.color

  -- what the screen shows with that reading standing: it alone on the ground, or the ground where there is none
  abbrev standing : Option ℕ → List ℕ
  standing old = reading_on font (asked place (shown_text old)) (ground_of place ground)

  -- ---- what is known of a screen, with the fault or without

  -- The reading that it is to show is `old`; where there is none, that is the text without letters.
  record Known (s : SheetState) : Type 0 where
    old : Reading
    text_is : old.text ≡ shown_text s.old
    sized : Sized setting ground record { old = old; bytes = s.bytes }
    shows : reading_on font (in_setting setting old) (ground_in setting ground) ≡ standing s.old

  unfoldable start_known : Known (screen_of None ground)
  start_known = record {
    old = reading_of [] (Transparent 0);
    text_is = refl;
    sized = bare_sized setting ground takes;
    shows = nothing_shown setting ground (Transparent 0) ∙ sym (nothing_shown setting ground place.style.color);
  }

  module _ {s : SheetState} (known : Known s) (k : ℕ) where
    -- Whatever it is drawn over, a reading is answered as alone on the ground.
    as_alone : answer_on font place s k ≡ drawn font (reading place k) (ground_of place ground)
    as_alone =
        ap (λ (t : List ℕ). redrawn font t (reading place k) place.background (ground_of place s.bytes)) (sym known.text_is)
        ∙ answers_alone setting ground known.sized (in_color k)

    abbrev is_taken : Bool
    is_taken = taken (alone setting ground (in_color k))

    next_old : (screen_after narrow font place s k).old ≡ pick is_taken (Some k) s.old
    next_old = ap (λ (o : Outcome RenderedDimensions). pick (taken o) (Some k) s.old) as_alone

    next_length : length (screen_after narrow font place s k).bytes ≡ length s.bytes
    unfolding step_buffer
    next_length =
        length_left setting ground (in_color k) s.bytes (any_applies (redraw_causes font (shown_text s.old) (reading place k) place.background (ground_of place s.bytes)))
        (to_fill narrow (alone setting s.bytes (reading_of (shown_text s.old) place.style.color)))

    unfoldable next_known : Known (screen_after narrow font place s k)
    next_known = record {
      old = pick is_taken (in_color k) known.old;
      text_is = texts is_taken ∙ sym (ap shown_text next_old);
      sized = sized_next setting ground known.sized (in_color k) refl next_length;
      shows = shown is_taken ∙ sym (ap standing next_old);
    }
      where
        texts : (b : Bool) → (pick b (in_color k) known.old).text ≡ shown_text (pick b (Some k) s.old)
        texts true = refl
        texts false = known.text_is

        shown : (b : Bool) → reading_on font (in_setting setting (pick b (in_color k) known.old)) (ground_in setting ground) ≡ standing (pick b (Some k) s.old)
        shown true = refl
        shown false = known.shows

    -- Without the fault it shows it.
    module _ (honest : narrow ≡ false) (clear : ClearFor setting ground (in_color k)) (h : Shown setting ground record { old = known.old; bytes = s.bytes }) where
      next_bytes_are : (screen_after narrow font place s k).bytes ≡ (pick is_taken (showing setting ground (in_color k)) record { old = known.old; bytes = s.bytes }).bytes
      next_bytes_are =
          ap (λ (b : Bool). step_buffer b font (shown_text s.old) (reading place k) place.background (ground_of place s.bytes)) honest
          ∙ faultless font (shown_text s.old) (reading place k) place.background (ground_of place s.bytes)
          ∙ ap (λ (t : List ℕ). redrawn_buffer font t (reading place k) place.background (ground_of place s.bytes)) (sym known.text_is)
          ∙ ap (λ (s : Screen). s.bytes) (step_shows setting ground known.sized h (in_color k))

      next_shown : Shown setting ground record { old = pick is_taken (in_color k) known.old; bytes = (screen_after narrow font place s k).bytes }
      next_shown = by is_taken next_bytes_are
        where
          by : (b : Bool) → (screen_after narrow font place s k).bytes ≡ (pick b (showing setting ground (in_color k)) record { old = known.old; bytes = s.bytes }).bytes
              → Shown setting ground record { old = pick b (in_color k) known.old; bytes = (screen_after narrow font place s k).bytes }
          by true e = record { is = e; clear = clear }
          by false e = record { is = e ∙ h.is; clear = h.clear }

  -- ---- all readings

  abbrev before : ℕ → SheetState
  before k = screen_at narrow font place ground k

  unfoldable all_known : (k : ℕ) → Known (before k)
  unfolding screen_at
  all_known zero = start_known
  all_known (suc k) = next_known (all_known k) k

  -- Where the ground is as long as the framebuffer, the pixels that differ are those that differ unpacked, whatever the format.
  pub differing_unpacked : BufferFits (length ground) place.framebuffer → (k : ℕ)
      → differing font place ground (before (suc k)) k
      ≡ differences (unpacked place.framebuffer (before (suc k)).bytes) (unpacked place.framebuffer (wanted font place ground k))
  differing_unpacked fits k =
      let screen : length (before (suc k)).bytes ≡ length ground = (all_known (suc k)).sized.as_long in
      let shown : length (wanted font place ground k) ≡ length ground = length_reading setting ground (in_color k) ground in
      let p = place.framebuffer in
      apart_unpacked p (before (suc k)).bytes (wanted font place ground k)
      (subst (λ (n : ℕ). BufferFits n p) (sym screen) fits) (subst (λ (n : ℕ). BufferFits n p) (sym shown) fits)

  -- ---- a reading that one of the causes 1 to 6 and 9 refuses

  abbrev causes : ℕ → List Cause
  causes k = causes_of font (reading place k) (ground_of place ground)

  -- A cause that applies to one reading applies to all.
  same_cause : (j k : ℕ) → j < 901 → k < 901 → any_applies (causes j) ≡ any_applies (causes k)
  same_cause j k h i =
      ap
      (λ (b : Bool).
      any_applies
      (font_causes font
      ++ framebuffer_cause place.framebuffer ground
      ∷ record { number = 4; applies = b }
      ∷ position_cause place.position place.line_height
      ∷ color_cause place.framebuffer.format place.style.color
      ∷ background_cause place.style.color (u8g2 font).background
      ∷ []))
      (fine j h ∙ sym (fine k i))

  -- Then none is taken, and the screen is to show none.
  never_taken : {i : ℕ} → i < 901 → any_applies (causes i) ≡ true → (k : ℕ) → k ≤ 901 → (before k).old ≡ None
  unfolding screen_at
  never_taken h e zero l = refl
  never_taken {i} h e (suc k) l =
      let early = drawn_early font (reading place k) (ground_of place ground) (same_cause k i (omega arith) h ∙ e) in
      next_old (all_known k) k ∙ rw early (never_taken h e k (omega arith))

  not_drawn : (o : Outcome RenderedDimensions) (drawing : List ℕ) → taken o ≡ false → whole_or o drawing ground ≡ ground
  not_drawn (success d) drawing e = impossible cc
  not_drawn (refused n c) drawing e = refl

  -- So what is to be cleared next shows the same as reading k.
  same_shown : (k : ℕ) → k < 901 → standing (before (suc k)).old ≡ wanted font place ground k
  unfolding screen_at
  same_shown k h = by (any_applies (causes k)) refl
    where
      by : (b : Bool) → any_applies (causes k) ≡ b → standing (before (suc k)).old ≡ wanted font place ground k
      by true a =
          let early = drawn_early font (reading place k) (ground_of place ground) a in
          ap standing (never_taken h a (suc k) (omega arith))
          ∙ nothing_shown setting ground place.style.color
          ∙ sym (not_drawn (drawn font (reading place k) (ground_of place ground)) (after font (reading place k) (ground_of place ground)) early)
      by false a =
          let late = drawn_late font (reading place k) (ground_of place ground) a in
          let this : (before (suc k)).old ≡ Some k = next_old (all_known k) k ∙ rw late in
          ap standing this

  -- ---- a ground that is not as long as the framebuffer, which cause 3 refuses

  module _ (off : (framebuffer_cause place.framebuffer ground).applies ≡ true) where
    off_as : (bytes : List ℕ) → length bytes ≡ length ground → (framebuffer_cause place.framebuffer bytes).applies ≡ true
    off_as bytes e = rw e off

    -- No step writes, ..
    stays : (k : ℕ) → (before k).bytes ≡ ground
    unfolding screen_at step_buffer
    stays zero = refl
    stays (suc k) =
        let size : (framebuffer_cause place.framebuffer (before k).bytes).applies ≡ true = off_as (before k).bytes (ap length (stays k)) in
        let refuses =
        applies_behind (font_causes font) (framebuffer_cause place.framebuffer (before k).bytes)
        (text_cause (shown_text (before k).old)
        ∷ text_cause (reading_text k)
        ∷ position_cause place.position place.line_height
        ∷ color_cause place.framebuffer.format place.style.color
        ∷ color_cause place.framebuffer.format (Transparent place.background)
        ∷ background_cause place.style.color (u8g2 font).background
        ∷ [])
        size
        in
        rw refuses (stays k)

    -- .. and no reading is drawn.
    wanted_none : (k : ℕ) → wanted font place ground k ≡ ground
    wanted_none k =
        not_drawn (drawn font (reading place k) (ground_of place ground)) (after font (reading place k) (ground_of place ground))
        (drawn_early font (reading place k) (ground_of place ground)
        (applies_behind (font_causes font) (framebuffer_cause place.framebuffer ground)
        (text_cause (reading_text k)
        ∷ position_cause place.position place.line_height
        ∷ color_cause place.framebuffer.format place.style.color
        ∷ background_cause place.style.color (u8g2 font).background
        ∷ [])
        off))

    none_apart : (k : ℕ) → differing font place ground (before (suc k)) k
        ≡ differences (unpacked place.framebuffer (before (suc k)).bytes) (unpacked place.framebuffer (wanted font place ground k))
    none_apart k =
        let p = place.framebuffer in
        let shown = wanted font place ground k in
        let same : (before (suc k)).bytes ≡ shown = stays (suc k) ∙ sym (wanted_none k) in
        ap (λ (l : List ℕ). apart p l shown) same
        ∙ none_if_same (compared p.format p shown)
        ∙ sym (ap (λ (l : List ℕ). differences (unpacked p l) (unpacked p shown)) same ∙ none_if_same (unpacked p shown))

  -- Whatever the ground and the format, the pixels that differ are those that differ unpacked.
  pub unpacked_differing : (k : ℕ)
      → differing font place ground (before (suc k)) k
      ≡ differences (unpacked place.framebuffer (before (suc k)).bytes) (unpacked place.framebuffer (wanted font place ground k))
  unpacked_differing k = by (framebuffer_cause place.framebuffer ground).applies refl
    where
      by : (b : Bool) → (framebuffer_cause place.framebuffer ground).applies ≡ b
          → differing font place ground (before (suc k)) k
          ≡ differences (unpacked place.framebuffer (before (suc k)).bytes) (unpacked place.framebuffer (wanted font place ground k))
      by true e = none_apart e k
      by false e = differing_unpacked (size_fits place.framebuffer ground e) k

  module _ (honest : narrow ≡ false) (clear : ClearTo 901 font place ground) where
    clear_for : (k : ℕ) → k < 901 → ClearFor setting ground (in_color k)
    clear_for k h d e = clear k h d (drawn_measured font (reading place k) (ground_of place ground) d e)

    all_shown : (k : ℕ) → k ≤ 901 → Shown setting ground record { old = (all_known k).old; bytes = (before k).bytes }
    unfolding screen_at all_known start_known next_known
    all_shown zero h = bare_shown setting ground
    all_shown (suc k) h = next_shown (all_known k) k honest (clear_for k (omega arith)) (all_shown k (omega arith))

    as_wanted : (k : ℕ) → k < 901 → (before (suc k)).bytes ≡ wanted font place ground k
    as_wanted k h = (all_shown (suc k) (omega arith)).is ∙ (all_known (suc k)).shows ∙ same_shown k h

    none_differing : (k : ℕ) → k < 901 → differing font place ground (before (suc k)) k ≡ 0
    none_differing k h =
        let p = place.framebuffer in
        ap (λ (l : List ℕ). apart p l (wanted font place ground k)) (as_wanted k h)
        ∙ none_if_same (compared p.format p (wanted font place ground k))

  -- ---- the totals

  abbrev totals : ℕ → Totals
  totals k = totals_to narrow font place ground k

  pub each_counted : (k : ℕ) → (totals k).whole + (totals k).part + (totals k).unseen + (totals k).refused ≡ k
  unfolding totals_to
  each_counted zero = refl
  each_counted (suc k) = omega (arith, one (sight_of place.framebuffer (answer_on font place (before k) k)), each_counted k)

  -- a total that each reading adds to by what is seen of it
  counted_alone : (total : Totals → ℕ) (count : Option Sight → ℕ) → total no_totals ≡ 0
      → ((t : Totals) (s : Option Sight) (n : ℕ) → total (tallied t s n) ≡ total t + count s)
      → (k : ℕ) → total (totals k) ≡ alone_to count font place ground k
  unfolding totals_to alone_to
  counted_alone total count none adds zero = none
  counted_alone total count none adds (suc k) =
      adds (totals k) (sight_of place.framebuffer (answer_on font place (before k) k)) (differing font place ground (screen_at narrow font place ground (suc k)) k)
      ∙ rw (counted_alone total count none adds k, as_alone (all_known k) k)

  none_differs : narrow ≡ false → ClearTo 901 font place ground → (k : ℕ) → k ≤ 901 → (totals k).differing ≡ 0
  unfolding totals_to
  none_differs honest clear zero h = refl
  none_differs honest clear (suc k) h =
      let e = none_differing honest clear k (omega arith) in
      rw e (omega (arith, none_differs honest clear k (omega arith)))

  differing_few : (k : ℕ) → (totals k).differing ≤ k
  unfolding totals_to
  differing_few zero = omega arith
  differing_few (suc k) = omega (arith, at_most (differing font place ground (before (suc k)) k), differing_few k)

  pub sound : ClearTo 901 font place ground → Sound narrow font place ground (totals 901)
  sound clear = record {
    all = each_counted 901;
    whole = counted_alone (λ t. t.whole) whole_one refl (λ t s n. refl) 901;
    part = counted_alone (λ t. t.part) part_one refl (λ t s n. refl) 901;
    unseen = counted_alone (λ t. t.unseen) unseen_one refl (λ t s n. refl) 901;
    refused = counted_alone (λ t. t.refused) refused_one refl (λ t s n. refl) 901;
    each_answers = λ k h. as_alone (all_known k) k;
    none_differs = λ honest. none_differs honest clear 901 (omega arith);
    each_shown = λ honest. as_wanted honest clear;
  }

  -- ---- as the loop goes

  pub few : {k : ℕ} {t : Totals} → k < 901 → t ≡ totals k → Few t
  few {k} {t} h e = record {
    whole = omega (arith, ap (λ (t : Totals). t.whole) e, each_counted k);
    part = omega (arith, ap (λ (t : Totals). t.part) e, each_counted k);
    unseen = omega (arith, ap (λ (t : Totals). t.unseen) e, each_counted k);
    refused = omega (arith, ap (λ (t : Totals). t.refused) e, each_counted k);
    differing = omega (arith, ap (λ (t : Totals). t.differing) e, differing_few k);
  }

  pub start_screen : screen_of None ground ≡ before 0
  unfolding screen_at
  start_screen = refl

  pub start_totals : no_totals ≡ totals 0
  unfolding totals_to
  start_totals = refl

  -- one reading more
  module _ {k : ℕ} {old : Option ℕ} {bytes exit : List ℕ} {found : Found} (here : screen_of old bytes ≡ before k) (finds : Finds narrow font place ground (screen_of old bytes) k found exit) where
    after_is : screen_after narrow font place (screen_of old bytes) k ≡ before (k + 1)
    unfolding screen_at
    after_is =
        let suc_is : suc k ≡ k + 1 = omega arith in
        ap (λ (s : SheetState). screen_after narrow font place s k) here ∙ ap before suc_is

    pub next_screen : screen_of found.old exit ≡ before (k + 1)
    next_screen =
        ap (λ (old : Option ℕ). screen_of old exit) finds.old ∙ ap (screen_of (screen_after narrow font place (screen_of old bytes) k).old) finds.bytes ∙ after_is

    pub next_totals : {t next : Totals} → t ≡ totals k
        → next ≡ tallied t (sight_of place.framebuffer (outcome found.answer)) found.differing → next ≡ totals (k + 1)
    unfolding totals_to
    next_totals {t} {next} e h =
        let suc_is : suc k ≡ k + 1 = omega arith in
        h
        ∙ ap (λ (t : Totals). tallied t (sight_of place.framebuffer (outcome found.answer)) found.differing) e
        ∙ ap (λ (o : Outcome RenderedDimensions). tallied (totals k) (sight_of place.framebuffer o) found.differing)
        (finds.answer ∙ ap (λ (s : SheetState). answer_on font place s k) here)
        ∙ ap (tallied (totals k) (sight_of place.framebuffer (answer_on font place (before k) k)))
        (finds.differing ∙ ap (λ (s : SheetState). differing font place ground s k) (after_is ∙ ap before (sym suc_is)))
        ∙ ap totals suc_is
