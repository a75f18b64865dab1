-- Filling the box of a reading that was drawn on the background colour brings back what the framebuffer held before: inside the
-- box it was that colour, and outside nothing had changed (SPECIFICATION, Agreement). And what the step answers, by its
-- causes. Assumes nothing.
use Rattle.integers.proofs.Prelude.{◌≡◌, refl, sym, ap, subst, ◌∙◌, Bool, true, false, ◌||◌, not, ◌⊎◌, inl, inr, List, [], ◌∷◌, ◌++◌, ℕ}
use Rattle.integers.proofs.Prelude.{◌<◌, arith, eqb, pos, length}
use Rattle.integers.proofs.Choices.{impossible}
use Rattle.integers.specs.Integers.{pick}
use Rattle.definitions.specs.Vocabulary.{Framebuffer, BoundingBox, None, Some, RenderedDimensions, Transparent}
use Rattle.definitions.specs.Refusals.{Outcome, success, refused, Cause, unless_refused, any_applies}
use Rattle.definitions.specs.Header.{font_causes}
use Rattle.definitions.specs.Geometry.{InsideBox}
use Rattle.definitions.specs.Font.{u8g2, pixels_of}
use Rattle.definitions.specs.Picture.{Paint, keep, put, Picture, covers, text_picture}
use Rattle.definitions.specs.Framebuffer.{over, stored, shown, size_in_bytes, size_off, framebuffer_cause, BufferFits}
use Rattle.definitions.specs.Text.{join_all, dimensions}
use Rattle.definitions.specs.Limits.{text_cause, position_cause, color_off, color_cause, background_cause}
use Rattle.definitions.specs.Calls.{code_points_of, origin, draw_causes, drawn_text, draw, draw_buffer}
use Rattle.definitions.specs.Agreement.{Ground, on, pixel, width, height, results, plain_box, Agree}
use Rattle.redraw_checks.specs.Drawing.{Drawing, asks, with_text, drawn, after, measured}
use Rattle.definitions.proofs.ByteLaws.{over_keep}
use Rattle.definitions.proofs.FramebufferLaws.{length_shown, shown_at, size_fits, on_framebuffer, EveryPixel, onto, shown_shown, shown_same}
use Rattle.definitions.proofs.PictureLaws.{covers_inside, inside_covers}
use Rattle.definitions.proofs.UnpackLaws.{color_stored}
use Rattle.definitions.proofs.RefusalLaws.{none_applies, succeeded, stopped}
use Rattle.definitions.proofs.CausesLaws.{LimitsPass, limits_off, DrawPasses, draw_passes, draw_off}
use Rattle.definitions.proofs.LetterRefusals.{Late, late, late_drawn}
use Rattle.definitions.proofs.Agreement.{alone}
use Rattle.framebuffer.specs.Areas.{fill_picture}
use Rattle.redraw_checks.proofs.ChecksLaws.{StepPasses, step_passes}
use Rattle.redraw.specs.Redraw.{whole_or, reading_on, AllOf, cleared_by, Cleared, redrawn, RedrawnFilling, redrawn_buffer, taken}
use Rattle.renderer.specs.declared.letters.Context.{Context}
use Rattle.renderer.specs.Texts.{counted_with, drawn_with}
use Rattle.renderer.proofs.RenderLaws.{drawn_unrefused}
use Rattle.checks.specs.Origins.{pen_of}
use Rattle.checks.specs.Setups.{Refuse}
use Rattle.redraw_checks.specs.Checks.{redraw_causes}

-- Of what `redraw` ensures: the answer, what is shown, and what that leaves of a reading.
abbrev pub shown_by : {A B C : Type 0} → A × (B × C) → B
shown_by ensured = ensured.1.0

-- the causes of drawing on a framebuffer whose buffer has so many bytes
abbrev pub sized_causes : List ℕ → Drawing → Framebuffer → ℕ → List Cause
sized_causes font r p bytes =
    font_causes font
    ++ record { number = 3; applies = size_off p || not (eqb bytes (size_in_bytes p)) }
    ∷ text_cause r.text
    ∷ position_cause r.position r.line_height
    ∷ color_cause p.format r.color
    ∷ background_cause r.color (u8g2 font).background
    ∷ []

-- .. and on a ground
abbrev pub causes_of : List ℕ → Drawing → Ground → List Cause
causes_of font r p = draw_causes (u8g2 font) (asks r) r.color p.framebuffer p.before

-- what the text of a drawing shows
abbrev picture_of : List ℕ → Drawing → Picture
picture_of font r = text_picture r.color (pixels_of (u8g2 font)) (drawn_text (u8g2 font) (asks r)).glyphs

-- the framebuffer keeps its length
length_by : (t : Bool) (p : Framebuffer) (picture : Picture) (before : List ℕ)
    → length (pick t before (shown p picture before)) ≡ length before
length_by true p picture before = refl
length_by false p picture before = length_shown p picture before

pub length_after : (font : List ℕ) (r : Drawing) (p : Ground) → length (after font r p) ≡ length p.before
unfolding draw_buffer
length_after font r p = length_by (any_applies (causes_of font r p)) p.framebuffer (picture_of font r) p.before

-- ---- a drawing that succeeds

module _ (font : List ℕ) (r : Drawing) (p : Ground) (d : RenderedDimensions) (succeeds : drawn font r p ≡ success d) where
  unrefused : any_applies (causes_of font r p) ≡ false
  unfolding draw
  unrefused = (succeeded (dimensions (drawn_text (u8g2 font) (asks r))) d (causes_of font r p) succeeds).0

  passes : DrawPasses font (asks r) r.color p
  passes = draw_passes font (asks r) r.color p unrefused

  agreed : Agree plain_box p p (results (u8g2 font) (u8g2 font) (asks r) r.color p p) d
  agreed = alone (u8g2 font) (asks r) refl r.color p d (limits_off font (asks r) p passes.limited) succeeds

  -- it is measured alike
  pub drawn_measured : measured font r ≡ success d
  drawn_measured = agreed.first_measures

  fits : BufferFits (length p.before) p.framebuffer
  fits = size_fits p.framebuffer p.before passes.limited.size_in

  module _ (color : ℕ) (clears : color_off p.framebuffer.format (Transparent color) ≡ false) (ground : AllOf color p d.bounding_box) where
    -- inside the box the fill puts the colour, which was there; outside it keeps what the drawing kept
    restored : (box : BoundingBox) → box ≡ d.bounding_box → (column row : ℕ) → column < width p → row < height p
        → over (stored p.framebuffer.format (fill_picture color box (pos column) (pos row))) (pixel p (after font r p) column row)
        ≡ pixel p p.before column row
    restored None e column row c k =
        over_keep p.framebuffer.format (pixel p (after font r p) column row)
        ∙ agreed.first_kept column row c k (λ i. subst (InsideBox (pos column) (pos row)) (sym e) i)
    restored (Some b) e column row c k = by (covers b (pos column) (pos row)) refl
      where
        by : (t : Bool) → covers b (pos column) (pos row) ≡ t
            → over (stored p.framebuffer.format (pick t (put color) keep)) (pixel p (after font r p) column row)
            ≡ pixel p p.before column row
        by true h =
            ap (λ (x : Paint). over x (pixel p (after font r p) column row)) (color_stored p.framebuffer.format (Transparent color) clears 1)
            ∙ sym (ground column row c k (subst (InsideBox (pos column) (pos row)) e (covers_inside (pos column) (pos row) b h)))
        by false h =
            over_keep p.framebuffer.format (pixel p (after font r p) column row)
            ∙ agreed.first_kept column row c k (λ i. outside h (subst (InsideBox (pos column) (pos row)) (sym e) i))
          where
            outside : covers b (pos column) (pos row) ≡ false → InsideBox (pos column) (pos row) (Some b) → ⊥
            outside h i = let z : true ≡ false = sym (inside_covers (pos column) (pos row) b i) ∙ h in let q : ◌≡◌ {A = ℕ} 0 1 = cc in omega arith

    -- the box filled on what was drawn
    abbrev filled : Picture
    filled = fill_picture color d.bounding_box

    abbrev both : Picture
    both = onto filled (picture_of font r)

    at_once : shown p.framebuffer filled (after font r p) ≡ shown p.framebuffer both p.before
    unfolding draw_buffer
    at_once = rw unrefused (shown_shown p.framebuffer filled (picture_of font r) p.before)

    pub fill_restores : shown p.framebuffer filled (after font r p) ≡ p.before
    fill_restores = at_once ∙ shown_same p.framebuffer fits.some both p.before at
      where
        at : EveryPixel p.framebuffer (length p.before) (λ column row.
            over (stored p.framebuffer.format (both (pos column) (pos row))) (pixel p p.before column row) ≡ pixel p p.before column row)
        at column row c h =
            sym (shown_at p.framebuffer both p.before column row c h)
            ∙ ap (λ (bytes : List ℕ). pixel p bytes column row) (sym at_once)
            ∙ shown_at p.framebuffer filled (after font r p) column row c (omega (arith, h, length_after font r p))
            ∙ restored d.bounding_box refl column row c (on_framebuffer fits column row c h)

-- What drawing answers depends on the framebuffer's length, and not on what it holds.
pub same_answer : (font : List ℕ) (r : Drawing) (p : Framebuffer) (a b : List ℕ) → length a ≡ length b → drawn font r (on p a) ≡ drawn font r (on p b)
unfolding draw
same_answer font r p a b l =
    ap (λ (bytes : ℕ). unless_refused (sized_causes font r p bytes) (dimensions (drawn_text (u8g2 font) (asks r)))) l

-- ---- the step

module _ {A : Type 0} (rest : Outcome A) where
  -- causes that are tested twice change nothing
  twice : (cs : List Cause) → unless_refused cs (unless_refused cs rest) ≡ unless_refused cs rest
  twice [] = refl
  twice (c ∷ cs) = by c.applies refl (twice cs)
    where
      by : (t : Bool) → c.applies ≡ t → unless_refused cs (unless_refused cs rest) ≡ unless_refused cs rest
          → pick c.applies (refused c.number 0) (unless_refused cs (pick c.applies (refused c.number 0) (unless_refused cs rest)))
          ≡ pick c.applies (refused c.number 0) (unless_refused cs rest)
      by true e later = rw e
      by false e later = rw e later

pub length_cleared : (p : Framebuffer) (color : ℕ) (o : Outcome RenderedDimensions) (bytes : List ℕ)
    → length (cleared_by p color o bytes) ≡ length bytes
length_cleared p color (success d) bytes = length_shown p (fill_picture color d.bounding_box) bytes
length_cleared p color (refused n c) bytes = refl

-- whichever of the causes applies, the step is not taken: none of them is 7 or 8
abbrev pub Early : List Cause → Type 0
Early [] = Unit {0}
Early (c ∷ cs) = (taken (refused c.number 0) ≡ false) × Early cs

pub refused_early : (rest : Outcome RenderedDimensions) (cs : List Cause) → Early cs → any_applies cs ≡ true → taken (unless_refused cs rest) ≡ false
refused_early rest [] h e = impossible cc
refused_early rest (c ∷ cs) h e = by c.applies refl (refused_early rest cs h.1)
  where
    by : (t : Bool) → c.applies ≡ t → (any_applies cs ≡ true → taken (unless_refused cs rest) ≡ false)
        → taken (pick c.applies (refused c.number 0) (unless_refused cs rest)) ≡ false
    by true k later = rw k h.0
    by false k later = rw k (later (rw k at e))

late_taken : (o : Outcome RenderedDimensions) → Late o → taken o ≡ true
late_taken (success d) h = refl
late_taken (refused n c) (late h b) = by h
  where
    by : (n ≡ 7) ⊎ (n ≡ 8) → (eqb n 7 || eqb n 8) ≡ true
    by (inl e) = rw e
    by (inr e) = rw e

module _ (font : List ℕ) (r : Drawing) (p : Ground) where
  abbrev causes : List Cause
  causes = causes_of font r p

  -- a drawing by whether one of its causes applies
  pub drawn_early : any_applies causes ≡ true → taken (drawn font r p) ≡ false
  unfolding draw
  drawn_early e = refused_early _ causes (refl, (refl, (refl, (refl, (refl, (refl, (refl, tt))))))) e

  pub drawn_late : any_applies causes ≡ false → taken (drawn font r p) ≡ true
  unfolding draw
  drawn_late e =
      let l = drawn_text (u8g2 font) (asks r) in
      ap taken (none_applies (dimensions l) causes e)
      ∙ late_taken (dimensions l) (late_drawn font false r.line_height r.align (origin (u8g2 font) (asks r)) (code_points_of r.text) (join_all l.glyphs))

  module _ (old : List ℕ) (background : ℕ) (fine : (text_cause old).applies ≡ false)
      (clears : color_off p.framebuffer.format (Transparent background) ≡ false) where
    -- The old text being one that can be drawn, and what clears it a colour of the framebuffer, the step is refused as the drawing is ..
    pub same_causes : any_applies (redraw_causes font old r background p) ≡ any_applies causes
    same_causes = rw (fine, clears)

    -- .. and answers as the drawing does.
    pub redrawn_is : redrawn font old r background p ≡ drawn font r p
    unfolding redrawn draw
    redrawn_is =
        let l = dimensions (drawn_text (u8g2 font) (asks r)) in
        rw (fine, clears) (twice l causes)

-- ---- the step, as the code goes

-- a reading with another box
abbrev pub with_box : (BoundingBox → BoundingBox) → Outcome RenderedDimensions → Outcome RenderedDimensions
with_box fill (success d) = success record { advance = d.advance; bounding_box = fill d.bounding_box }
with_box fill (refused n c) = refused n c

own_box : (o : Outcome RenderedDimensions) → with_box (λ b. b) o ≡ o
own_box (success d) = refl
own_box (refused n c) = refl

module _ (font old : List ℕ) (new : Drawing) (background : ℕ) (p : Ground) where
  abbrev step_causes : List Cause
  step_causes = redraw_causes font old new background p

  -- refused by one of its causes
  module _ {n c : ℕ} (e : Refuse step_causes n c) where
    is_refused : (any_applies step_causes ≡ true) × (unless_refused step_causes (drawn font new p) ≡ refused n c)
    is_refused = stopped (tt {0}) (drawn font new p) step_causes e

    pub stops : refused n c ≡ redrawn font old new background p
    unfolding redrawn
    stops = sym is_refused.1

    pub stays : {fills : BoundingBox → BoundingBox → Type 0} → RedrawnFilling fills font old new background p p.before
    stays = record {
      refuses = λ on. refl;
      clears = λ off. (let z : false ≡ true = sym off ∙ is_refused.0 in impossible cc);
    }

  -- .. or by none of them
  module _ (unrefused : any_applies step_causes ≡ false) where
    off : StepPasses font old new background p
    off = step_passes font old new background p unrefused

    abbrev limited : LimitsPass font (asks new) p
    limited = off.passes.limited

    -- another text in its place, or another buffer of its size
    with_part : (text bytes : List ℕ) → (text_cause text).applies ≡ false → (framebuffer_cause p.framebuffer bytes).applies ≡ false
        → any_applies (causes_of font (with_text text new) (on p.framebuffer bytes)) ≡ false
    with_part text bytes t s =
        draw_off font (asks (with_text text new)) new.color (on p.framebuffer bytes) record {
          limited = record { length_in = limited.length_in; header_in = limited.header_in; size_in = s; text_in = t; place_in = limited.place_in };
          bits_in = off.passes.bits_in;
          color_in = off.passes.color_in;
        }

    old_off : any_applies (causes_of font (with_text old new) p) ≡ false
    old_off = with_part old p.before off.old_in limited.size_in

    new_off : any_applies (causes_of font new p) ≡ false
    new_off = with_part new.text p.before limited.text_in limited.size_in

    -- the framebuffer once the old reading is cleared
    cleared_off : (between : List ℕ) → length between ≡ length p.before → any_applies (causes_of font new (on p.framebuffer between)) ≡ false
    cleared_off between l =
        let size = ap (λ (n : ℕ). size_off p.framebuffer || not (eqb n (size_in_bytes p.framebuffer))) l ∙ limited.size_in in
        with_part new.text between limited.text_in size

    -- what the code counts and draws: the texts by their pens
    abbrev counted : List ℕ → Outcome RenderedDimensions
    counted text = counted_with font text new.align (pen_of font (asks (with_text text new)))

    abbrev context : Context
    context = record { color = new.color; framebuffer = p.framebuffer }

    abbrev new_on : List ℕ → List ℕ
    new_on bytes = drawn_with font new.text new.align (pen_of font (asks new)) context bytes

    pub answers : {answer : Outcome RenderedDimensions} → answer ≡ counted new.text → answer ≡ redrawn font old new background p
    unfolding redrawn
    answers e =
        e ∙ (drawn_unrefused font (asks new) new.color p.framebuffer p.before new_off).0
        ∙ sym (none_applies (drawn font new p) step_causes unrefused)

    pub leaves : {fills : BoundingBox → BoundingBox → Type 0} (between : List ℕ) {exit : List ℕ} → Cleared fills p.framebuffer background (counted old) p.before between
        → length between ≡ length p.before → exit ≡ whole_or (counted new.text) (new_on between) between
        → RedrawnFilling fills font old new background p exit
    leaves {fills} between {exit} e l h =
        let old_drawn = drawn_unrefused font (asks (with_text old new)) new.color p.framebuffer p.before old_off in
        let new_drawn = drawn_unrefused font (asks new) new.color p.framebuffer between (cleared_off between l) in
        let cleared = subst (λ (o : Outcome RenderedDimensions). Cleared fills p.framebuffer background o p.before between) old_drawn.0 e in
        let is = h
        ∙ ap (λ (o : Outcome RenderedDimensions). whole_or o (new_on between) between) new_drawn.0
        ∙ ap (λ (l : List ℕ). whole_or (drawn font new (on p.framebuffer between)) l between) new_drawn.1 in
        record { refuses = λ on. (let z : false ≡ true = sym unrefused ∙ on in impossible cc); clears = λ off. (between, cleared, is) }

  -- What the step leaves where `fill` says what is filled of each box, and that makes `filled` of the old reading.
  module _ {fills : BoundingBox → BoundingBox → Type 0} (fill : BoundingBox → BoundingBox)
      (is_fill : (box filled : BoundingBox) → fills box filled → filled ≡ fill box) where
    cleared_as : (o : Outcome RenderedDimensions) (bytes : List ℕ) → Cleared fills p.framebuffer background o p.before bytes
        → bytes ≡ cleared_by p.framebuffer background (with_box fill o) p.before
    cleared_as (success d) bytes c =
        c.2 ∙ ap (λ (b : BoundingBox). shown p.framebuffer (fill_picture background b) p.before) (is_fill d.bounding_box c.0 c.1)
    cleared_as (refused n m) bytes c = c

    pub left_by : {filled : Outcome RenderedDimensions} {exit : List ℕ} → with_box fill (drawn font (with_text old new) p) ≡ filled
        → RedrawnFilling fills font old new background p exit
        → exit ≡ pick (any_applies step_causes) p.before
        (reading_on font new (on p.framebuffer (cleared_by p.framebuffer background filled p.before)))
    left_by {filled} {exit} e h = by (any_applies step_causes) h.refuses h.clears
      where
        by : (b : Bool) → (b ≡ true → exit ≡ p.before)
            → (b ≡ false → (between : List ℕ) × Cleared fills p.framebuffer background (drawn font (with_text old new) p) p.before between
            × (exit ≡ reading_on font new (on p.framebuffer between)))
            → exit ≡ pick b p.before (reading_on font new (on p.framebuffer (cleared_by p.framebuffer background filled p.before)))
        by true refuses clears = refuses refl
        by false refuses clears =
            let c = clears refl in
            let between = cleared_as (drawn font (with_text old new) p) c.0 c.1
            ∙ ap (λ (o : Outcome RenderedDimensions). cleared_by p.framebuffer background o p.before) e in
            c.2 ∙ ap (λ (b : List ℕ). reading_on font new (on p.framebuffer b)) between

  -- Where that is the box itself, the step is the gauge's.
  pub left_whole : {fills : BoundingBox → BoundingBox → Type 0} {exit : List ℕ} → ((box filled : BoundingBox) → fills box filled → filled ≡ box)
      → RedrawnFilling fills font old new background p exit → exit ≡ redrawn_buffer font old new background p
  unfolding redrawn_buffer
  left_whole is_box h = left_by (λ b. b) is_box (own_box (drawn font (with_text old new) p)) h
