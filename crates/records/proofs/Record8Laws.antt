-- Where both bytes of a record of one byte's code are there: what it answers, by its jump and its code. Assumes nothing.
use Rattle.integers.proofs.Prelude.{◌≡◌, ◌∙◌, List, ℕ, ◌+◌, ◌<◌, length, drop, get_or, eq-eqb, ne_eqb}
use Rattle.std.proofs.Common.{◌≢◌}
use Rattle.definitions.specs.Lookup.{next, end, here, record8}
use Rattle.definitions.proofs.LookupLaws.{record8_at, record8_cut}

module _ (c : ℕ) (font : List ℕ) (at : ℕ) (h : at + 1 < length font) where
  pub record8_ends : get_or font (at + 1) 0 ≡ 0 → record8 c (drop at font) ≡ end
  record8_ends z = record8_at c font at h ∙ simp (eq-eqb _ _ z)

  module _ (more : get_or font (at + 1) 0 ≢ 0) where
    pub record8_found : get_or font at 0 ≡ c → record8 c (drop at font) ≡ here 2
    record8_found e = record8_at c font at h ∙ simp (ne_eqb _ _ more, eq-eqb _ _ e)

    pub record8_passed : get_or font at 0 ≢ c → record8 c (drop at font) ≡ next (get_or font (at + 1) 0)
    record8_passed n = record8_at c font at h ∙ simp (ne_eqb _ _ more, ne_eqb _ _ n)

-- .. by one name, as the proof of `read_record` takes them.
pub ruleset record8_says = (record8_cut, record8_ends, record8_found, record8_passed)
