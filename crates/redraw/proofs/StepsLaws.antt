-- The step on a screen that shows the old reading on a ground, and any number of steps. Assumes nothing.
use Rattle.integers.proofs.Prelude.{◌≡◌, refl, sym, ap, subst, ◌∙◌, Bool, true, false, List, [], ◌∷◌, ◌++◌, map, ℕ, pos}
use Rattle.integers.proofs.Prelude.{length}
use Rattle.integers.specs.Integers.{pick}
use Rattle.definitions.specs.Vocabulary.{PixelFormat, Bytes, Packed, None, Point, RenderedDimensions, FontColor, Transparent}
use Rattle.definitions.specs.Vocabulary.{HorizontalAlignment}
use Rattle.types.specs.declared.style.HorizontalAlignment.TheVariants.{Left, Center, Right}
use Rattle.definitions.specs.Refusals.{Outcome, success, refused, unless_refused, any_applies}
use Rattle.definitions.specs.Header.{font_causes}
use Rattle.definitions.specs.Utf8.{decode_from}
use Rattle.definitions.specs.Picture.{text_picture}
use Rattle.definitions.specs.Framebuffer.{shown, framebuffer_cause}
use Rattle.definitions.specs.Text.{Answer, join_all, Layout, point, letters, lines, line_by_line, aligned_line, dimensions}
use Rattle.definitions.specs.Limits.{text_cause, position_cause, color_off, background_off}
use Rattle.definitions.specs.Font.{u8g2, pixels_of}
use Rattle.definitions.specs.Calls.{drawn_text, draw, draw_buffer}
use Rattle.redraw_checks.specs.Drawing.{Drawing, asks, after}
use Rattle.definitions.proofs.FramebufferLaws.{shown_blank}
use Rattle.definitions.proofs.RefusalLaws.{succeeded}
use Rattle.definitions.proofs.CausesLaws.{draw_passes}
use Rattle.redraw_checks.specs.Checks.{redraw_causes}
use Rattle.redraw.specs.Redraw.{whole_or, reading_on, AllOf, cleared_by, redrawn, redrawn_buffer, taken}
use Rattle.redraw.specs.Steps.{Setting, Reading, in_setting, ground_in, Screen, reading_of, bare, step_answer, step_on, steps_on, answers}
use Rattle.redraw.specs.Steps.{alone, last_taken, showing, ClearFor, ClearForAll, Allowed, LeavesReading}
use Rattle.redraw.proofs.RedrawLaws.{sized_causes, causes_of, length_after, fill_restores, same_answer, length_cleared}
use Rattle.redraw.proofs.RedrawLaws.{refused_early, drawn_early, drawn_late, same_causes, redrawn_is}
use Rattle.redraw_checks.proofs.ChecksLaws.{step_passes}

-- What drawing answers does not depend on the colours, if they are allowed.
module _ (f : Setting) (bytes text : List ℕ) where
  -- by whether 9 and 6 refuse them
  abbrev answered_by : Bool → Bool → Outcome RenderedDimensions
  answered_by nine six =
      unless_refused
      (font_causes f.font
      ++ framebuffer_cause f.framebuffer bytes
      ∷ text_cause text
      ∷ position_cause f.position f.line_height
      ∷ record { number = 9; applies = nine }
      ∷ record { number = 6; applies = six }
      ∷ [])
      (dimensions (drawn_text (u8g2 f.font) (asks (in_setting f (reading_of text (Transparent 0))))))

  in_any : (c : FontColor) → Allowed f c → alone f bytes (reading_of text c) ≡ answered_by false false
  unfolding draw
  in_any c allows =
      ap (λ (nine : Bool). answered_by nine (background_off c (u8g2 f.font).background)) allows.0
      ∙ ap (answered_by false) allows.1

  same_color : (c d : FontColor) → Allowed f c → Allowed f d → alone f bytes (reading_of text c) ≡ alone f bytes (reading_of text d)
  same_color c d allows also = in_any c allows ∙ sym (in_any d also)

-- Every framebuffer has the colour 0.
zero_in : (format : PixelFormat) → color_off format (Transparent 0) ≡ false
zero_in Bytes = refl
zero_in Packed = refl

-- a line without letters, in any alignment
abbrev no_glyphs : Layout
no_glyphs = record { glyphs = []; advance = success (point (pos 0) (pos 0)) }

no_letters : (a : HorizontalAlignment) (measured answers : ℕ → Answer) (origin : Point) → aligned_line a measured answers origin (point (pos 0) (pos 0)) [] ≡ no_glyphs
unfolding letters
no_letters Left measured answers origin = refl
no_letters Center measured answers origin = refl
no_letters Right measured answers origin = refl

-- ---- what every step keeps

module _ (f : Setting) (ground : List ℕ) where
  -- The screen has the ground's length, what is to be cleared is a text in a colour that is allowed, and what clears it a colour that the
  -- framebuffer has.
  pub record Sized (s : Screen) : Type 0 where
    pub as_long : length s.bytes ≡ length ground
    pub fine : (text_cause s.old.text).applies ≡ false
    pub allowed : Allowed f s.old.color
    pub clears : color_off f.framebuffer.format (Transparent f.background) ≡ false

  pub bare_sized : color_off f.framebuffer.format (Transparent f.background) ≡ false → Sized (bare ground)
  unfolding decode_from
  bare_sized clears = record { as_long = refl; fine = refl; allowed = (zero_in f.framebuffer.format, refl); clears = clears }

  module _ {s : Screen} (z : Sized s) (r : Reading) where
    same_size : any_applies (causes_of f.font (in_setting f r) (ground_in f s.bytes)) ≡ any_applies (causes_of f.font (in_setting f r) (ground_in f ground))
    same_size = ap (λ (bytes : ℕ). any_applies (sized_causes f.font (in_setting f r) f.framebuffer bytes)) z.as_long

    -- A step answers what drawing the reading alone on the ground does.
    pub answers_alone : step_answer f s r ≡ alone f ground r
    answers_alone =
        redrawn_is f.font (in_setting f r) (ground_in f s.bytes) s.old.text f.background z.fine z.clears
        ∙ same_answer f.font (in_setting f r) f.framebuffer s.bytes ground z.as_long

    -- What follows a step that took the reading if drawing it alone is not refused by a cause.
    pub sized_next : {t : Screen} → t.old ≡ pick (taken (alone f ground r)) r s.old → length t.bytes ≡ length s.bytes → Sized t
    sized_next {t} e l = by (any_applies (causes_of f.font (in_setting f r) (ground_in f ground))) refl
      where
        kept : s.old ≡ t.old → Sized t
        kept same = record {
          as_long = l ∙ z.as_long;
          fine = subst (λ (o : Reading). (text_cause o.text).applies ≡ false) same z.fine;
          allowed = subst (λ (o : Reading). Allowed f o.color) same z.allowed;
          clears = z.clears;
        }

        by : (b : Bool) → any_applies (causes_of f.font (in_setting f r) (ground_in f ground)) ≡ b → Sized t
        by true k =
            let early = drawn_early f.font (in_setting f r) (ground_in f ground) k in
            kept (sym (e ∙ rw early))
        by false k =
            let late = drawn_late f.font (in_setting f r) (ground_in f ground) k in
            let same : r ≡ t.old = sym (e ∙ rw late) in
            let o = draw_passes f.font (asks (in_setting f r)) r.color (ground_in f ground) k in
            record {
              as_long = l ∙ z.as_long;
              fine = subst (λ (o : Reading). (text_cause o.text).applies ≡ false) same o.limited.text_in;
              allowed = subst (λ (o : Reading). Allowed f o.color) same (o.bits_in, o.color_in);
              clears = z.clears;
            }

    -- ---- by whether a cause applies

    pub refused_step : any_applies (causes_of f.font (in_setting f r) (ground_in f ground)) ≡ true → step_on f s r ≡ s
    unfolding redrawn_buffer
    refused_step k =
        let early : taken (step_answer f s r) ≡ false = ap taken answers_alone ∙ drawn_early f.font (in_setting f r) (ground_in f ground) k in
        let applies = same_causes f.font (in_setting f r) (ground_in f s.bytes) s.old.text f.background z.fine z.clears ∙ same_size ∙ k in
        rw (early, applies)

    module _ (k : any_applies (causes_of f.font (in_setting f r) (ground_in f ground)) ≡ false) where
      -- the old reading, as the step finds it
      old_alone : alone f s.bytes record { text = s.old.text; color = r.color } ≡ alone f ground s.old
      old_alone =
          let o = draw_passes f.font (asks (in_setting f r)) r.color (ground_in f ground) k in
          same_answer f.font (in_setting f record { text = s.old.text; color = r.color }) f.framebuffer s.bytes ground z.as_long
          ∙ same_color f ground s.old.text r.color s.old.color (o.bits_in, o.color_in) z.allowed

      pub taken_step : step_on f s r
          ≡ record {
            old = r;
            bytes = reading_on f.font (in_setting f r) (ground_in f (cleared_by f.framebuffer f.background (alone f ground s.old) s.bytes));
          }
      unfolding redrawn_buffer
      taken_step =
          let late : taken (step_answer f s r) ≡ true = ap taken answers_alone ∙ drawn_late f.font (in_setting f r) (ground_in f ground) k in
          let applies = same_causes f.font (in_setting f r) (ground_in f s.bytes) s.old.text f.background z.fine z.clears ∙ same_size ∙ k in
          rw (late, applies, old_alone)

  -- ---- on a screen that shows the old reading on the ground

  pub record Shown (s : Screen) : Type 0 where
    pub is : s.bytes ≡ reading_on f.font (in_setting f s.old) (ground_in f ground)
    pub clear : ClearFor f ground s.old

  module _ {s : Screen} (z : Sized s) (h : Shown s) (r : Reading) where
    abbrev old : Drawing
    old = in_setting f s.old

    -- filling the box of a reading that draws brings the ground back; where it does not draw, the ground is there
    restored : (o : Outcome RenderedDimensions) → alone f ground s.old ≡ o
        → cleared_by f.framebuffer f.background o (whole_or o (after f.font old (ground_in f ground)) ground) ≡ ground
    restored (success d) e = fill_restores f.font old (ground_in f ground) d e f.background z.clears (h.clear d e)
    restored (refused n c) e = refl

    -- The step leaves what the new reading shows on that ground; refused by a cause, it leaves the screen as it was.
    pub step_shows : step_on f s r ≡ pick (taken (alone f ground r)) (showing f ground r) s
    step_shows = by (any_applies (causes_of f.font (in_setting f r) (ground_in f ground))) refl
      where
        by : (b : Bool) → any_applies (causes_of f.font (in_setting f r) (ground_in f ground)) ≡ b → step_on f s r ≡ pick (taken (alone f ground r)) (showing f ground r) s
        by true k = refused_step z r k ∙ rw (drawn_early f.font (in_setting f r) (ground_in f ground) k)
        by false k =
            let back = ap (cleared_by f.framebuffer f.background (alone f ground s.old)) h.is ∙ restored (alone f ground s.old) refl in
            taken_step z r k
            ∙ ap (λ (bytes : List ℕ). record { old = r; bytes = reading_on f.font (in_setting f r) (ground_in f bytes) }) back
            ∙ rw (drawn_late f.font (in_setting f r) (ground_in f ground) k)

    -- .. and then as much is known of the screen.
    pub shown_next : ClearFor f ground r → Shown (step_on f s r)
    shown_next clear = subst Shown (sym step_shows) (by (taken (alone f ground r)))
      where
        by : (b : Bool) → Shown (pick b (showing f ground r) s)
        by true = record { is = refl; clear = clear }
        by false = h

  length_whole : (o : Outcome RenderedDimensions) (a b : List ℕ) → length a ≡ length b → length (whole_or o a b) ≡ length b
  length_whole (success d) a b e = e
  length_whole (refused n c) a b e = refl

  pub length_reading : (r : Reading) (bytes : List ℕ) → length (reading_on f.font (in_setting f r) (ground_in f bytes)) ≡ length bytes
  length_reading r bytes = length_whole (alone f bytes r) (after f.font (in_setting f r) (ground_in f bytes)) bytes (length_after f.font (in_setting f r) (ground_in f bytes))

  -- whatever is filled, and whether a cause applies or not
  pub length_left : (r : Reading) (bytes : List ℕ) (b : Bool) (o : Outcome RenderedDimensions)
      → length (pick b bytes (reading_on f.font (in_setting f r) (ground_in f (cleared_by f.framebuffer f.background o bytes)))) ≡ length bytes
  length_left r bytes true o = refl
  length_left r bytes false o =
      length_reading r (cleared_by f.framebuffer f.background o bytes) ∙ length_cleared f.framebuffer f.background o bytes

  pub length_step : (s : Screen) (r : Reading) → length (step_on f s r).bytes ≡ length s.bytes
  unfolding redrawn_buffer
  length_step s r =
      length_left r s.bytes (any_applies (redraw_causes f.font s.old.text (in_setting f r) f.background (ground_in f s.bytes)))
      (alone f s.bytes (reading_of s.old.text r.color))

  -- ---- any number of steps

  next_old : {s : Screen} → Sized s → (r : Reading) → (step_on f s r).old ≡ pick (taken (alone f ground r)) r s.old
  next_old {s} z r = ap (λ (o : Outcome RenderedDimensions). pick (taken o) r s.old) (answers_alone z r)

  all_show : (rs : List Reading) (s : Screen) → Sized s → Shown s → ClearForAll f ground rs → steps_on f s rs ≡ showing f ground (last_taken f ground s.old rs)
  unfolding steps_on last_taken
  all_show [] s z h clear = ap (λ (bytes : List ℕ). record { old = s.old; bytes = bytes }) h.is
  all_show (r ∷ rs) s z h clear =
      all_show rs (step_on f s r) (sized_next z r (next_old z r) (length_step s r)) (shown_next z h r clear.0) clear.1
      ∙ ap (λ (old : Reading). showing f ground (last_taken f ground old rs)) (next_old z r)

  -- The text without letters has no glyphs ..
  bare_text : (color : FontColor) → drawn_text (u8g2 f.font) (asks (in_setting f (reading_of [] color))) ≡ no_glyphs
  unfolding lines line_by_line decode_from
  bare_text color = no_letters f.align _ _ _

  abbrev painted : FontColor → Layout → List ℕ
  painted color l = shown f.framebuffer (text_picture color (pixels_of (u8g2 f.font)) l.glyphs) ground

  -- .. and shows nothing, in any colour.
  bare_drawn : (color : FontColor) → after f.font (in_setting f (reading_of [] color)) (ground_in f ground) ≡ ground
  unfolding draw_buffer text_picture
  bare_drawn color = by (any_applies (causes_of f.font (in_setting f (reading_of [] color)) (ground_in f ground)))
    where
      by : (b : Bool) → pick b ground (painted color (drawn_text (u8g2 f.font) (asks (in_setting f (reading_of [] color))))) ≡ ground
      by true = refl
      by false = ap (painted color) (bare_text color) ∙ shown_blank f.framebuffer ground

  pub nothing_shown : (color : FontColor) → reading_on f.font (in_setting f (reading_of [] color)) (ground_in f ground) ≡ ground
  nothing_shown color = whole (alone f ground (reading_of [] color))
    where
      whole : (o : Outcome RenderedDimensions) → whole_or o (after f.font (in_setting f (reading_of [] color)) (ground_in f ground)) ground ≡ ground
      whole (success d) = bare_drawn color
      whole (refused n c) = refl

  pub bare_shown : Shown (bare ground)
  unfolding draw join_all
  bare_shown = record {
    is = sym (nothing_shown (Transparent 0));
    clear = λ d e. no_box d (sym (ap dimensions (bare_text (Transparent 0))) ∙ (succeeded _ d (causes_of f.font (in_setting f (bare ground).old) (ground_in f ground)) e).1);
  }
    where
      no_box : (d : RenderedDimensions) → success record { advance = point (pos 0) (pos 0); bounding_box = None } ≡ success d
          → AllOf f.background (ground_in f ground) d.bounding_box
      no_box d e =
          let same : record { advance = point (pos 0) (pos 0); bounding_box = None } ≡ d = cc in
          subst (λ (d : RenderedDimensions). AllOf f.background (ground_in f ground) d.bounding_box) same (λ column row c k i. absurd i)

  -- What each of them answers is what drawing it alone on the ground does.
  all_answer : (rs : List Reading) (s : Screen) → Sized s → answers f s rs ≡ map (alone f ground) rs
  unfolding answers
  all_answer [] s z = refl
  all_answer (r ∷ rs) s z = cc (answers_alone z r, all_answer rs (step_on f s r) (sized_next z r (next_old z r) (length_step s r)))

  -- The background is a colour that the framebuffer has.
  module _ (clears : color_off f.framebuffer.format (Transparent f.background) ≡ false) (rs : List Reading) where
    pub readings_answer : answers f (bare ground) rs ≡ map (alone f ground) rs
    readings_answer = all_answer rs (bare ground) (bare_sized clears)

    -- After the steps of any readings, refused ones among them, the screen shows the last one that none of the causes 1 to 6 and 9
    -- refuses, whole or not at all, on the ground, if the ground is background where the readings stand.
    pub readings_show : ClearForAll f ground rs → steps_on f (bare ground) rs ≡ showing f ground (last_taken f ground (bare ground).old rs)
    readings_show clear = all_show rs (bare ground) (bare_sized clears) bare_shown clear

-- ---- one step, from what the code leaves

module _ (f : Setting) (old : List ℕ) (r : Reading) {entry exit : List ℕ} {answer : Outcome RenderedDimensions}
    (answered : answer ≡ redrawn f.font old (in_setting f r) f.background (ground_in f entry))
    (shown : exit ≡ redrawn_buffer f.font old (in_setting f r) f.background (ground_in f entry)) where
  pub leaves_reading : LeavesReading f old r entry answer exit
  unfolding redrawn redrawn_buffer
  leaves_reading ground color allowed clear was =
      by (any_applies (redraw_causes f.font old (in_setting f r) f.background (ground_in f entry))) refl
    where
      late : (z : Sized f ground record { old = reading_of old color; bytes = entry }) (b : Bool) → taken (alone f ground r) ≡ b → exit
          ≡ pick (taken answer) (reading_on f.font (in_setting f r) (ground_in f ground)) entry
      late z b e =
          let h : Shown f ground record { old = reading_of old color; bytes = entry } = record { is = was; clear = clear } in
          let same : taken answer ≡ b = ap taken (answered ∙ answers_alone f ground z r) ∙ e in
          shown ∙ ap (λ (s : Screen). s.bytes) (step_shows f ground z h r) ∙ both b e same
        where
          both : (b : Bool) → taken (alone f ground r) ≡ b → taken answer ≡ b
              → (pick (taken (alone f ground r)) (showing f ground r) record { old = reading_of old color; bytes = entry }).bytes
              ≡ pick (taken answer) (reading_on f.font (in_setting f r) (ground_in f ground)) entry
          both true e k = rw (e, k)
          both false e k = rw (e, k)

      by : (b : Bool) → any_applies (redraw_causes f.font old (in_setting f r) f.background (ground_in f entry)) ≡ b
          → exit ≡ pick (taken answer) (reading_on f.font (in_setting f r) (ground_in f ground)) entry
      by true k =
          let early : taken answer ≡ false = ap taken answered
          ∙ refused_early _ (redraw_causes f.font old (in_setting f r) f.background (ground_in f entry))
          (refl, (refl, (refl, (refl, (refl, (refl, (refl, (refl, (refl, tt))))))))) k in
          shown ∙ rw (k, early)
      by false k =
          let passes = step_passes f.font old (in_setting f r) f.background (ground_in f entry) k in
          late record {
            as_long = ap length was ∙ length_reading f ground (reading_of old color) ground;
            fine = passes.old_in;
            allowed = allowed;
            clears = passes.clears;
          } (taken (alone f ground r)) refl
