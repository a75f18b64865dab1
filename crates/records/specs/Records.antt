-- How the code's answer to a record is read as that of the definitions.
use Rattle.definitions.specs.Lookup.{Record, here, next, last, end, cut}
use Rattle.records.specs.declared.Record.{Record as Code-as-Record}
use Rattle.records.specs.declared.Record.TheVariants.{Here, Next, Last, End, Cut}

abbrev pub as_record : Code-as-Record → Record
as_record (Here n) = here n
as_record (Next jump) = next jump
as_record Last = last
as_record End = end
as_record Cut = cut
