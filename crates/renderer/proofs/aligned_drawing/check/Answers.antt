-- The causes are tested in the definition's order: the framebuffer between the font and the text, and the colours last.
use Rattle.std.proofs.lemmas.Result.{err_from_is_err_and}
use Rattle.integers.proofs.Prelude.{◌≡◌, refl, sym, subst, ◌∙◌, false, List, [], ◌∷◌, ℕ}
use Rattle.definitions.specs.Refusals.{Cause, any_applies}
use Rattle.definitions.specs.Font.{u8g2}
use Rattle.definitions.specs.Framebuffer.{framebuffer_cause}
use Rattle.definitions.specs.Limits.{color_off, color_cause, background_off, background_cause}
use Rattle.definitions.specs.Calls.{Request, plain}
use Rattle.definitions.proofs.OpenedLaws.{opened}
use Rattle.checks.specs.Setups.{SetFor}
use Rattle.checks.proofs.LimitLaws.{color_is}
use Rattle.definitions.proofs.FramebufferLaws.{size_fits}
use Rattle.checks.proofs.SetupLaws.{refused_at, refused_after, font_refused, between_refused, place_refused, last_refused, none_refused}
use Rattle.renderer.proofs.aligned_drawing.check.Goals as goal
use Rattle.renderer.proofs.aligned_drawing.check.Goals.{Start, Else-has_bad_size, Else-has_unsupported_color, In_ok-font}

module _ (c : Start) where
  abbrev asked : Request
  asked = plain c.args.text.now c.args.placement c.args.style.vertical_pos

  abbrev size : List Cause
  size = framebuffer_cause c.args.framebuffer c.args.buffer.now ∷ []

  abbrev ink : Cause
  ink = color_cause c.args.framebuffer.format c.args.style.color

  abbrev allowance : Cause
  allowance = background_cause c.args.style.color (u8g2 c.args.font.now).background

  abbrev color : List Cause
  color = ink ∷ allowance ∷ []

-- the framebuffer has its size
size_in : (c : Else-has_bad_size) → (framebuffer_cause c.args.framebuffer c.args.buffer.now).applies ≡ false
size_in c = sym c.has_bad_size.ensures ∙ c.if-has_bad_size.false

-- its pixels take the colours
ink_in : (c : Else-has_unsupported_color) → color_off c.args.framebuffer.format c.args.style.color ≡ false
ink_in c = sym c.has_unsupported_color.ensures ∙ c.if-has_unsupported_color.false

-- the answer to the colour is the cause's
color_tested : (c : In_ok-font) → let a = c.args in (background_cause a.style.color (u8g2 a.font.now).background).applies
    ≡ background_off a.style.color c.in_ok-font.font.head.supports_background_color
color_tested c = sym (color_is (opened _ c.in_ok-font.font.head c.in_ok-font.ensures.1) c.args.style.color)

pub returns-in_err-font : goal.returns-in_err-font
returns-in_err-font c =
    let s = (goal.at.returns-in_err-font c).Start in
    let p = err_from_is_err_and c.from_residual.result c.from_residual.ensures.1 in
    rw (p.1, p.2) (font_refused c.args.font.now (size s) (asked s) (color s) c.in_err-font.ensures)

pub returns-then-has_bad_size : goal.returns-then-has_bad_size
returns-then-has_bad_size c =
    let s = (goal.at.returns-then-has_bad_size c).Start in
    between_refused c.args.font.now (size s) (asked s) (color s) c.in_ok-font.ensures.1
    (refused_at (framebuffer_cause c.args.framebuffer c.args.buffer.now) [] (sym c.has_bad_size.ensures ∙ c.if-has_bad_size.true))

pub returns-in_err-setup : goal.returns-in_err-setup
returns-in_err-setup c =
    let s = (goal.at.returns-in_err-setup c).Start in
    let e = (goal.at.returns-in_err-setup c).Else-has_bad_size in
    let p = err_from_is_err_and c.from_residual-in_err-setup.result c.from_residual-in_err-setup.ensures.1 in
    rw (p.1, p.2) (place_refused c.args.font.now (size s) (asked s) (color s) c.in_ok-font.ensures.1 (rw (size_in e) refl) c.in_err-setup.ensures)

pub returns-then-has_unsupported_color : goal.returns-then-has_unsupported_color
returns-then-has_unsupported_color c =
    let s = (goal.at.returns-then-has_unsupported_color c).Start in
    let e = (goal.at.returns-then-has_unsupported_color c).Else-has_bad_size in
    last_refused c.args.font.now (size s) (asked s) (color s) c.in_ok-font.ensures.1 (rw (size_in e) refl) c.in_ok-setup.ensures.0
    (refused_at (ink s) (allowance s ∷ []) (sym c.has_unsupported_color.ensures ∙ c.if-has_unsupported_color.true))

pub returns-then-has_bad_color : goal.returns-then-has_bad_color
returns-then-has_bad_color c =
    let s = (goal.at.returns-then-has_bad_color c).Start in
    let e = (goal.at.returns-then-has_bad_color c).Else-has_bad_size in
    let k = (goal.at.returns-then-has_bad_color c).In_ok-font in
    let b = ink_in (goal.at.returns-then-has_bad_color c).Else-has_unsupported_color in
    last_refused c.args.font.now (size s) (asked s) (color s) c.in_ok-font.ensures.1 (rw (size_in e) refl) c.in_ok-setup.ensures.0
    (refused_after (ink s ∷ []) (allowance s ∷ []) (rw b refl)
    (refused_at (allowance s) [] (color_tested k ∙ sym c.has_bad_color.ensures ∙ c.if-has_bad_color.true)))

pub returns : goal.returns
returns c =
    let s = (goal.at.returns c).Start in
    let e = (goal.at.returns c).Else-has_bad_size in
    let k = (goal.at.returns c).In_ok-font in
    let b = ink_in (goal.at.returns c).Else-has_unsupported_color in
    let none : any_applies (color s) ≡ false = rw (b, color_tested k ∙ sym c.has_bad_color.ensures ∙ c.if-has_bad_color.false) refl in (
      none_refused c.args.font.now (size s) (asked s) (color s) c.in_ok-font.ensures.1 (rw (size_in e) refl) c.in_ok-setup.ensures.0 none,
      record {
        set = subst (λ (b : List ℕ). SetFor b (asked s) c.in_ok-setup.setup) c.in_ok-font.ensures.0 c.in_ok-setup.ensures.1;
        fits = size_fits c.args.framebuffer c.args.buffer.now (size_in e);
      },
    )
