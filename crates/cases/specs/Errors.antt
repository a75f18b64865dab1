-- Why a case cannot be answered, in words.
use Rattle.std.specs.Prelude.{List, ℕ, codes}
use Rattle.cases.specs.declared.reader.CaseError.{CaseError}
use Rattle.cases.specs.declared.reader.CaseError.TheVariants.{EndsTooEarly, UnknownCode, OutOfMemory}

abbrev pub error_text : CaseError → List ℕ
error_text EndsTooEarly = codes "the file of cases ends too early"
error_text UnknownCode = codes "a case has a number without a meaning"
error_text OutOfMemory = codes "there is no memory for a case"
