-- What a record of two bytes' code answers, by its code. Assumes nothing.
use Rattle.integers.proofs.Prelude.{◌≡◌, ◌∙◌, List, ℕ, ◌+◌, ◌<◌, eqb, length, drop, get_or, eq-eqb, ne_eqb}
use Rattle.std.proofs.Common.{◌≢◌}
use Rattle.integers.specs.Integers.{pick}
use Rattle.definitions.specs.Header.{big_endian16}
use Rattle.definitions.specs.Lookup.{next, last, cut, here, record16}
use Rattle.definitions.proofs.LookupLaws.{record16_at, record16_cut, record16_zero, record16_short}

module _ (c : ℕ) (font : List ℕ) (at : ℕ) (some : big_endian16 font at ≢ 0) where
  pub record16_ends : at + 2 ≡ length font → record16 c (drop at font) ≡ cut
  record16_ends h = record16_cut c font at h ∙ simp (ne_eqb _ _ some)

  module _ (h : at + 2 < length font) where
    pub record16_found : big_endian16 font at ≡ c → record16 c (drop at font) ≡ here 3
    record16_found e = record16_at c font at h ∙ simp (ne_eqb _ _ some, eq-eqb _ _ e)

    pub record16_passed : big_endian16 font at ≢ c
        → record16 c (drop at font) ≡ pick (eqb (get_or font (at + 2) 0) 0) last (next (get_or font (at + 2) 0))
    record16_passed n = record16_at c font at h ∙ simp (ne_eqb _ _ some, ne_eqb _ _ n)

-- .. by one name, as the proof of `read_record` takes them.
pub ruleset record16_says = (record16_short, record16_zero, record16_ends, record16_found, record16_passed)
