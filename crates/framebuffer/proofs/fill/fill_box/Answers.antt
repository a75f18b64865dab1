-- `fill_box` meets its contract: no box is the blank picture. Assumes nothing.
use Rattle.integers.proofs.Prelude.{sym, ap, ◌∙◌}
use Rattle.definitions.specs.Vocabulary.{BoundingBox}
use Rattle.definitions.specs.Framebuffer.{shown}
use Rattle.framebuffer.specs.Areas.{fill_picture}
use Rattle.definitions.proofs.FramebufferLaws.{shown_blank}
use Rattle.framebuffer.proofs.fill.fill_box.Goals as goal

pub returns-in_default : goal.returns-in_default
returns-in_default c =
    let a = c.args in
    sym (ap (λ (b : BoundingBox). shown a.framebuffer (fill_picture a.color b) a.buffer.now) c.in_default.is ∙ shown_blank a.framebuffer a.buffer.now)
