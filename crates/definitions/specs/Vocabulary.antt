-- The declared types under one roof, and the variants whose names are theirs alone.
pub use Rattle.std.specs.Prelude.{Option, None, Some}
pub use Rattle.types.specs.declared.error.Error.{Error}
pub use Rattle.types.specs.declared.font_reader.FontReader.{FontReader}
pub use Rattle.types.specs.declared.framebuffer.Framebuffer.{Framebuffer}
pub use Rattle.types.specs.declared.framebuffer.PixelFormat.{PixelFormat}
pub use Rattle.types.specs.declared.framebuffer.PixelFormat.TheVariants.{Bytes, Packed}
pub use Rattle.types.specs.declared.geometry.Point.{Point}
pub use Rattle.types.specs.declared.geometry.Size.{Size}
pub use Rattle.types.specs.declared.geometry.Rectangle.{Rectangle}
pub use Rattle.types.specs.declared.geometry.RenderedDimensions.{RenderedDimensions}
pub use Rattle.types.specs.declared.glyph_reader.GlyphReader.{GlyphReader}
pub use Rattle.types.specs.declared.place.Place.{Place}
pub use Rattle.types.specs.declared.results.Report.{Report}
pub use Rattle.types.specs.declared.steps.LookupSteps.{LookupSteps}
pub use Rattle.types.specs.declared.style.FontColor.{FontColor}
pub use Rattle.types.specs.declared.style.FontColor.TheVariants.{Transparent, WithBackground}
pub use Rattle.types.specs.declared.style.FontStyle.{FontStyle}
pub use Rattle.types.specs.declared.style.Placement.{Placement}
pub use Rattle.types.specs.declared.style.HorizontalAlignment.{HorizontalAlignment}
pub use Rattle.types.specs.declared.style.VerticalPosition.{VerticalPosition}

-- The bounding box of what is drawn: none where nothing is.
abbrev pub BoundingBox : Type 0
BoundingBox = Option Rectangle
