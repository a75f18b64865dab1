-- Reading the parts of a byte string, one after the other. Assumes nothing.
use Rattle.std.proofs.Common.{◌≡◌, refl, sym, subst, ◌∙◌, ℕ, suc, ◌+◌, ◌-◌, ◌≤◌, ◌<◌, List, [], ◌++◌, length, drop, append_assoc, append-nil, arith}
use Rattle.cases.specs.Strings.{number, HasPart, IsPart, part, parts, behind_parts, HasParts, next_part, IsString}

-- What was read of n parts of a file, and what of the file is left, from which k parts more are to be read.
pub record Reached (n : ℕ) (file bytes rest : List ℕ) (k : ℕ) : Type 0 where
  pub is : parts n file ≡ bytes ++ parts k rest
  pub behind : behind_parts n file ≡ behind_parts k rest
  pub there : HasParts k rest → HasParts n file
  pub onward : HasParts n file → HasParts k rest

pub begins : {n end : ℕ} {file bytes rest : List ℕ} → end ≡ n → bytes ≡ [] → rest ≡ file → Reached n file bytes rest (end - 0)
begins {n} {end} {file} e b f =
    let all : end - 0 ≡ n = omega arith in
    rw (all, b, f) record { is = refl; behind = refl; there = λ h. h; onward = λ h. h }

module _ {n : ℕ} {file bytes rest : List ℕ} where
  after_part : {k : ℕ} {more after : List ℕ} → Reached n file bytes rest (suc k) → IsPart rest more after → Reached n file (bytes ++ more) after k
  after_part {k = k} r p = rw (p.is, p.rest) record {
    is = r.is ∙ sym (append_assoc bytes (part rest) (parts k (next_part rest)));
    behind = r.behind;
    there = λ h. r.there (p.there, h);
    onward = λ h. (r.onward h).1;
  }

  module _ (i end : ℕ) (r : Reached n file bytes rest (end - i)) where
    one_more : i < end → Reached n file bytes rest (suc (end - (i + 1)))
    one_more h = subst (Reached n file bytes rest) (omega arith) r

    pub next : {more now after : List ℕ} → i < end → IsPart rest more after → now ≡ bytes ++ more → Reached n file now after (end - (i + 1))
    next {after = after} h p e = subst (λ (l : List ℕ). Reached n file l after (end - (i + 1))) (sym e) (after_part (one_more h) p)

    -- what fails at a part that is there
    pub stopped : {P : Type 0} → i < end → (HasPart rest → P) → HasParts n file → P
    stopped h f p = f ((one_more h).onward p).0

    at_end : end ≤ i → Reached n file bytes rest 0
    at_end h = subst (Reached n file bytes rest) (omega arith) r

pub ends : {before bytes rest : List ℕ} (i end : ℕ) → Reached (number before) (drop 4 before) bytes rest (end - i) → end ≤ i
    → 4 ≤ length before → IsString before bytes rest
ends {bytes = bytes} i end r h long =
    let e = at_end i end r h in
    record { there = record { count = long; all = e.there tt }; is = sym (e.is ∙ append-nil bytes); rest = sym e.behind }
