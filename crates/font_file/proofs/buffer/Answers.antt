-- `font_file::buffer` meets its contract. The length is a law of `replicate`: to count a mebibyte of zeros takes more stack than
-- the checker has. Assumes nothing.
use Rattle.std.proofs.Common.{ℕ, sym}
use Rattle.std.proofs.Math.ListN.{length-replicate}
use Rattle.font_file.proofs.buffer.Goals as goal

pub returns : goal.returns
returns c = sym (length-replicate {A = ℕ} 1048577 0)
