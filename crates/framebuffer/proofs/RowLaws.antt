-- Which pixels lie outside a rectangle. Assumes nothing.
use Rattle.integers.proofs.Prelude.{◌≡◌, false, ℤ}
use Rattle.integers.proofs.Choices.{impossible}
use Rattle.definitions.specs.Vocabulary.{Rectangle}
use Rattle.definitions.specs.Geometry.{Inside}
use Rattle.definitions.specs.Picture.{covers}
use Rattle.definitions.proofs.PictureLaws.{inside_covers}

-- a rectangle covers a pixel, or the pixel does not lie in it
pub outside : (r : Rectangle) (column row : ℤ) → covers r column row ≡ false → Inside column row r → ⊥
outside r column row e h = let k = inside_covers column row r h in impossible cc
