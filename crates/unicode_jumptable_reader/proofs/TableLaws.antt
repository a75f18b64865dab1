-- The jump table entry by entry, in the terms of the code: what a test shows of the definition. Assumes nothing.
use Rattle.integers.proofs.Prelude.{◌≡◌, refl, ◌∙◌, List, [], ℕ, zero, suc, ◌+◌, ◌*◌, ◌/◌, ◌≤◌, ◌<◌, arith, length, take, drop, get_or, lt-ltb, le-ltb}
use Rattle.integers.proofs.Prelude.{length-drop, drop-drop, get_or-take, get_or-drop, add-zero}
use Rattle.std.specs.Simd.{first_chunks}
use Rattle.definitions.specs.Header.{big_endian16}
use Rattle.definitions.specs.Lookup.{sum, none, jump_table}
use Rattle.definitions.proofs.LookupLaws.{table_at, table_ends}

-- The rest of the table from the entry k on, with the sum so far, answers as the whole table does.
pub record SummedTo (table : List ℕ) (c total k : ℕ) : Type 0 where
  pub small : total ≤ 65535 * k
  pub same : jump_table c 0 0 table ≡ jump_table c total k (drop (4 * k) table)

-- The whole entries of a table are its bytes, four by four.
pub entry_is : (n k : ℕ) (table : List ℕ) → k < n → get_or (first_chunks 4 n table) k [] ≡ take 4 (drop (4 * k) table)
entry_is zero k table h = absurd (omega arith)
entry_is (suc n) zero table h = refl
entry_is (suc n) (suc k) table h =
    let e : 4 + 4 * k ≡ 4 * suc k = omega arith in
    entry_is n k (drop 4 table) (omega arith) ∙ rw (drop-drop (4 * k) 4 table, e) refl

module _ (table entry : List ℕ) (at : ℕ) (is : entry ≡ take 4 (drop at table)) where
  -- a byte and a number of an entry are the table's
  byte_is : (j : ℕ) → j < 4 → get_or entry j 0 ≡ get_or table (at + j) 0
  byte_is j h = rw is (get_or-take 4 (drop at table) j 0 h ∙ get_or-drop at table j 0)

  number_is : (j : ℕ) → j < 3 → big_endian16 entry j ≡ big_endian16 table (at + j)
  number_is j h =
      let e : at + (j + 1) ≡ at + j + 1 = omega arith in
      rw (byte_is j (omega arith), byte_is (j + 1) (omega arith), e) refl

module _ (table : List ℕ) (c total n k : ℕ) where
  pub table_end : length table / 4 ≤ k → jump_table c total n (drop (4 * k) table) ≡ none n
  table_end h = table_ends c total n (drop (4 * k) table) (omega (arith, length-drop (4 * k) table))

  -- `entries` are the table's, and k is one of them
  module _ (entries : List (List ℕ)) (are : entries ≡ first_chunks 4 (length table / 4) table) (h : k < length table / 4) where
    abbrev entry : List ℕ
    entry = get_or entries k []

    is : entry ≡ take 4 (drop (4 * k) table)
    is = rw are (entry_is (length table / 4) k table h)

    distance : big_endian16 entry 0 ≡ big_endian16 table (4 * k)
    distance = simp add-zero at (number_is table entry (4 * k) is 0 (omega arith))

    limit : big_endian16 entry 2 ≡ big_endian16 table (4 * k + 2)
    limit = number_is table entry (4 * k) is 2 (omega arith)

    pub table_found : c ≤ big_endian16 entry 2 → jump_table c total n (drop (4 * k) table) ≡ sum (total + big_endian16 entry 0) (n + 1)
    table_found p =
        let t = le-ltb (big_endian16 entry 2) c p in
        rw distance (table_at c total n table (4 * k) (omega arith) ∙ simp (rw limit at t) refl)

    pub table_next : big_endian16 entry 2 < c
        → jump_table c total n (drop (4 * k) table) ≡ jump_table c (total + big_endian16 entry 0) (n + 1) (drop (4 * (k + 1)) table)
    table_next p =
        let t = lt-ltb (big_endian16 entry 2) c p in
        let e : 4 * (k + 1) ≡ 4 * k + 4 = omega arith in
        rw (distance, e) (table_at c total n table (4 * k) (omega arith) ∙ simp (rw limit at t) refl)
