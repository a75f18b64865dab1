-- The causes are tested in the definition's order: the framebuffer and the old text between the font and the new text, and the
-- colours last.
use Rattle.std.proofs.lemmas.Result.{err_from_is_err_and}
use Rattle.integers.proofs.Prelude.{◌≡◌, refl, sym, ap, ◌∙◌, false, List, [], ◌∷◌, w8, SFits, to_z-of_z, rules}
use Rattle.definitions.specs.Vocabulary.{Point, Transparent}
use Rattle.definitions.specs.Refusals.{Cause, any_applies}
use Rattle.definitions.specs.Header.{Opened}
use Rattle.definitions.specs.Framebuffer.{framebuffer_cause}
use Rattle.definitions.specs.Limits.{text_cause, color_off, color_cause, background_off, background_cause}
use Rattle.definitions.specs.Font.{u8g2}
use Rattle.definitions.specs.Calls.{Request}
use Rattle.definitions.proofs.OpenedLaws.{opened}
use Rattle.definitions.proofs.RefusalLaws.{or_false, each_off}
use Rattle.checks.specs.Origins.{place_causes}
use Rattle.checks.proofs.OriginLaws.{origin_read, placed_checked}
use Rattle.checks.proofs.LimitLaws.{color_is}
use Rattle.definitions.proofs.FramebufferLaws.{size_fits}
use Rattle.checks.proofs.SetupLaws.{refused_at, refused_after, font_refused, between_refused, place_refused, last_refused, none_refused}
use Rattle.redraw_checks.specs.Drawing.{Drawing, asks, asked, with_text}
use Rattle.redraw_checks.proofs.check_step.Goals as goal
use Rattle.redraw_checks.proofs.ChecksLaws.{refused_either}
use Rattle.redraw_checks.proofs.check_step.Goals.{Start, In_ok-font, Else-has_bad_size, Else-has_bad_text, Else-has_unsupported_colors}

module _ (c : Start) where
  abbrev new : Drawing
  new = asked c.args.place c.args.new_text.now

  abbrev between : List Cause
  between = framebuffer_cause c.args.place.framebuffer c.args.buffer.now ∷ text_cause c.args.old_text.now ∷ []

  abbrev ink : Cause
  ink = color_cause c.args.place.framebuffer.format c.args.place.style.color

  abbrev clearing : Cause
  clearing = color_cause c.args.place.framebuffer.format (Transparent c.args.place.background)

  abbrev allowance : Cause
  allowance = background_cause c.args.place.style.color (u8g2 c.args.font.now).background

  abbrev color : List Cause
  color = ink ∷ clearing ∷ allowance ∷ []

-- the framebuffer has its size, the old text can be drawn
size_in : (c : Else-has_bad_size) → (framebuffer_cause c.args.place.framebuffer c.args.buffer.now).applies ≡ false
size_in c = sym c.has_bad_size.ensures ∙ c.if-has_bad_size.false

old_in : (c : Else-has_bad_text) → (text_cause c.args.old_text.now).applies ≡ false
old_in c = sym c.has_bad_text.ensures ∙ c.if-has_bad_text.false

-- each of the colours is one that the framebuffer has
colors_in : (c : Else-has_unsupported_colors) → let p = c.args.place in
    (color_off p.framebuffer.format p.style.color ≡ false) × (color_off p.framebuffer.format (Transparent p.background) ≡ false)
colors_in c = or_false _ _ (sym c.has_unsupported_colors.ensures ∙ c.if-has_unsupported_colors.false)

-- the answer to the colour is the cause's
color_tested : (c : In_ok-font) → let a = c.args in (background_cause a.place.style.color (u8g2 a.font.now).background).applies
    ≡ background_off a.place.style.color c.in_ok-font.font.head.supports_background_color
color_tested c = sym (color_is (opened _ c.in_ok-font.font.head c.in_ok-font.ensures.1) c.args.place.style.color)

pub returns-in_err-font : goal.returns-in_err-font
returns-in_err-font c =
    let s = (goal.at.returns-in_err-font c).Start in
    let p = err_from_is_err_and c.from_residual.result c.from_residual.ensures.1 in
    rw (p.1, p.2) (font_refused c.args.font.now (between s) (asks (new s)) (color s) c.in_err-font.ensures)

pub returns-then-has_bad_size : goal.returns-then-has_bad_size
returns-then-has_bad_size c =
    let s = (goal.at.returns-then-has_bad_size c).Start in
    between_refused c.args.font.now (between s) (asks (new s)) (color s) c.in_ok-font.ensures.1
    (refused_at (framebuffer_cause c.args.place.framebuffer c.args.buffer.now) (text_cause c.args.old_text.now ∷ [])
    (sym c.has_bad_size.ensures ∙ c.if-has_bad_size.true))

pub returns-then-has_bad_text : goal.returns-then-has_bad_text
returns-then-has_bad_text c =
    let s = (goal.at.returns-then-has_bad_text c).Start in
    let e = (goal.at.returns-then-has_bad_text c).Else-has_bad_size in
    between_refused c.args.font.now (between s) (asks (new s)) (color s) c.in_ok-font.ensures.1
    (refused_after (framebuffer_cause c.args.place.framebuffer c.args.buffer.now ∷ []) (text_cause c.args.old_text.now ∷ []) (rw (size_in e) refl)
    (refused_at (text_cause c.args.old_text.now) [] (sym c.has_bad_text.ensures ∙ c.if-has_bad_text.true)))

pub returns-in_err-setup : goal.returns-in_err-setup
returns-in_err-setup c =
    let s = (goal.at.returns-in_err-setup c).Start in
    let e = (goal.at.returns-in_err-setup c).Else-has_bad_size in
    let o = (goal.at.returns-in_err-setup c).Else-has_bad_text in
    let p = err_from_is_err_and c.from_residual-in_err-setup.result c.from_residual-in_err-setup.ensures.1 in
    rw (p.1, p.2)
    (place_refused c.args.font.now (between s) (asks (new s)) (color s) c.in_ok-font.ensures.1 (rw (size_in e, old_in o) refl) c.in_err-setup.ensures)

pub returns-then-has_unsupported_colors : goal.returns-then-has_unsupported_colors
returns-then-has_unsupported_colors c =
    let s = (goal.at.returns-then-has_unsupported_colors c).Start in
    let e = (goal.at.returns-then-has_unsupported_colors c).Else-has_bad_size in
    let o = (goal.at.returns-then-has_unsupported_colors c).Else-has_bad_text in
    last_refused c.args.font.now (between s) (asks (new s)) (color s) c.in_ok-font.ensures.1 (rw (size_in e, old_in o) refl) c.in_ok-setup.ensures.0
    (refused_either 9 (ink s).applies (clearing s).applies (allowance s ∷ [])
    (sym c.has_unsupported_colors.ensures ∙ c.if-has_unsupported_colors.true))

pub returns-then-has_bad_color : goal.returns-then-has_bad_color
returns-then-has_bad_color c =
    let s = (goal.at.returns-then-has_bad_color c).Start in
    let e = (goal.at.returns-then-has_bad_color c).Else-has_bad_size in
    let o = (goal.at.returns-then-has_bad_color c).Else-has_bad_text in
    let k = (goal.at.returns-then-has_bad_color c).In_ok-font in
    let b = colors_in (goal.at.returns-then-has_bad_color c).Else-has_unsupported_colors in
    last_refused c.args.font.now (between s) (asks (new s)) (color s) c.in_ok-font.ensures.1 (rw (size_in e, old_in o) refl) c.in_ok-setup.ensures.0
    (refused_after (ink s ∷ clearing s ∷ []) (allowance s ∷ []) (rw (b.0, b.1) refl)
    (refused_at (allowance s) []
    (color_tested k ∙ sym c.has_bad_color.ensures ∙ c.if-has_bad_color.true)))

pub returns : goal.returns
returns c =
    let s = (goal.at.returns c).Start in
    let e = (goal.at.returns c).Else-has_bad_size in
    let t = (goal.at.returns c).Else-has_bad_text in
    let k = rw c.in_ok-font.ensures.0 at c.in_ok-setup.ensures.1 in
    let font = c.args.font.now in
    let head = c.in_ok-font.font.head in
    let up : SFits w8 head.ascent = search rules in
    let down : SFits w8 head.descent = search rules in
    let r : Request = asks (with_text c.args.old_text.now (new s)) in
    let known : Opened font head = opened _ head c.in_ok-font.ensures.1 in
    let placed : any_applies (place_causes r) ≡ false = rw (old_in t, (each_off (place_causes (asks (new s))) c.in_ok-setup.ensures.0).1.0) refl in
    let is = c.new-old_pen.ensures
    ∙ ap (λ (o : Point). record { origin = o; line_height = r.line_height; ignore_unknown_chars = false }) (simp (to_z-of_z, up, down) at c.text_origin-old_origin.ensures) in
    let b = colors_in (goal.at.returns c).Else-has_unsupported_colors in
    let allowed = color_tested (goal.at.returns c).In_ok-font ∙ sym c.has_bad_color.ensures ∙ c.if-has_bad_color.false in
    let none : any_applies (color s) ≡ false = rw (b.0, b.1, allowed) refl in (
      none_refused font (between s) (asks (new s)) (color s) c.in_ok-font.ensures.1 (rw (size_in e, old_in t) refl) c.in_ok-setup.ensures.0 none,
      record {
        old_set = record {
          bytes = c.in_ok-font.ensures.0;
          pen = is ∙ ap (λ (o : Point). record { origin = o; line_height = r.line_height; ignore_unknown_chars = false }) (origin_read known r);
          checked = rw is (placed_checked head.ascent head.descent r up down placed);
        };
        new_set = record { bytes = c.in_ok-font.ensures.0; pen = k.pen; checked = k.checked };
        fits = size_fits c.args.place.framebuffer c.args.buffer.now (size_in e);
      },
    )
