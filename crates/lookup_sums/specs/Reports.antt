-- Reports that are made of what a call comes to.
use Rattle.std.specs.Prelude.{Result, Ok, Err, eqb}
use Rattle.integers.specs.Integers.{pick}
use Rattle.definitions.specs.Vocabulary.{Error, BoundingBox, RenderedDimensions, LookupSteps, Report}
use Rattle.definitions.specs.Refusals.{error_number}
use Rattle.definitions.specs.Lookup.{no_steps}

-- of a text that a character stops: the sum is kept with 7 alone
abbrev pub stopped_report : Error → LookupSteps → Report RenderedDimensions
stopped_report e sum = record { result = Err e; steps = pick (eqb (error_number e) 7) sum no_steps }

-- of a call that is refused before its first character: no steps
abbrev pub refused_report : Error → Report RenderedDimensions
refused_report e = record { result = Err e; steps = no_steps }

-- of an aligned call: the box of the dimensions, and their steps
abbrev pub box_result : Result RenderedDimensions Error → Result BoundingBox Error
box_result (Ok d) = Ok d.bounding_box
box_result (Err e) = Err e

abbrev pub box_report : Report RenderedDimensions → Report BoundingBox
box_report r = record { result = box_result r.result; steps = r.steps }
