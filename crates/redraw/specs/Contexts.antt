-- What a place is drawn with, and on what.
use Rattle.definitions.specs.Vocabulary.{Place}
use Rattle.renderer.specs.declared.letters.Context.{Context}

abbrev pub context_of : Place → Context
context_of place = record { color = place.style.color; framebuffer = place.framebuffer }
