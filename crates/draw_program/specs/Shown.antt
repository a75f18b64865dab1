-- What is shown of a drawing.
use Rattle.std.specs.Prelude.{IfSome, Result, Ok, Err}
use Rattle.definitions.specs.Vocabulary.{PixelFormat, Size}
use Rattle.definitions.specs.Framebuffer.{size_in_bytes, BufferFits}
use Rattle.pixels.specs.Rooms.{room_for}
use Rattle.pictures.specs.declared.whole.Drawing.{Drawing}
use Rattle.pictures.specs.declared.whole.DrawError.{DrawError}

-- A framebuffer holds a box of that size.
abbrev pub Held : PixelFormat → Size → Type 0
Held format size = let p = room_for format size.width size.height in BufferFits (size_in_bytes p) p

-- what the program must know of a drawing to show it
abbrev pub Showable : PixelFormat → Result Drawing DrawError → Type 0
Showable format (Ok d) = IfSome d.size (Held format)
Showable format (Err e) = Unit {0}
