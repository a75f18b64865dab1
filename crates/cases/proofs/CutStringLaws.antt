-- Reading the parts of a byte string into a room, one after the other. Assumes nothing.
use Rattle.std.proofs.Common.{◌≡◌, ap, subst, ℕ, suc, ◌+◌, ◌-◌, ◌<◌, true, false, List, [], ◌++◌, take, arith}
use Rattle.cases.specs.Reading.{Position, begin_of, is_beyond, passed, number_or_zero}
use Rattle.cases.specs.Strings.{part_at, parts_at, next_part_at, behind_parts_at, one_is_beyond, string, behind_string}
use Rattle.cases.proofs.CutLaws.{Holds, more}

-- What the room has of n parts that begin at p, and where the reader stands, from which k parts more are to be read.
pub record Reached (room n : ℕ) (p : Position) (bytes : List ℕ) (q : Position) (k : ℕ) : Type 0 where
  pub holds : Holds room (parts_at n p) bytes (parts_at k q)
  pub behind : behind_parts_at n p ≡ behind_parts_at k q
  pub beyond : one_is_beyond n p ≡ one_is_beyond k q
  pub file : q.file ≡ p.file

module _ {room n : ℕ} {p : Position} {bytes : List ℕ} {q : Position} (i end : ℕ) (r : Reached room n p bytes q (end - i)) where
  one_more : i < end → Reached room n p bytes q (suc (end - (i + 1)))
  one_more h = subst (Reached room n p bytes q) (omega arith) r

  pub next : {now : List ℕ} {after : Position} → i < end → is_beyond q ≡ false → now ≡ take room (bytes ++ part_at q)
      → after ≡ next_part_at q → Reached room n p now after (end - (i + 1))
  next h within is on =
      let s = one_more h in
      rw on record {
        holds = more (part_at q) (parts_at (end - (i + 1)) (next_part_at q)) s.holds is;
        behind = s.behind;
        beyond = rw within at s.beyond;
        file = s.file;
      }

  -- a part begins beyond the last place
  pub stopped : i < end → is_beyond q ≡ true → one_is_beyond n p ≡ true
  stopped h far = let s = one_more h in rw far at s.beyond

-- there the string is empty, and the file begins anew
pub empty : (room : ℕ) (p : Position) → one_is_beyond (number_or_zero p) (passed 4 p) ≡ true → [] ≡ string room p
empty room p e = rw e

pub anew : (p : Position) {bytes : List ℕ} → one_is_beyond (number_or_zero p) (passed 4 p) ≡ true → bytes ≡ p.file
    → begin_of bytes ≡ behind_string p
anew p e f = rw e (ap begin_of f)
