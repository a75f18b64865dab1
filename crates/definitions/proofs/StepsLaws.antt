-- The steps of a lookup (request A1). In one lookup the records are "at most the font's length less 23", and so, for themselves, are
-- "four times the entries". Assumes nothing.
use Rattle.integers.proofs.Prelude.{◌≡◌, refl, Bool, true, false, List, [], ◌∷◌, ℕ, zero, suc, ◌+◌, ◌-◌, ◌*◌, ◌≤◌, arith, ltb, leb, length, drop}
use Rattle.integers.proofs.Prelude.{length-drop, leb-true}
use Rattle.integers.specs.Integers.{pick}
use Rattle.definitions.specs.Vocabulary.{LookupSteps}
use Rattle.definitions.specs.Header.{header}
use Rattle.definitions.specs.Lookup.{Search, found, missing, short, Record, here, next, last, end, cut, record8, record16, looked, follow, chain}
use Rattle.definitions.specs.Lookup.{Distance, sum, none, jump_table, chain_start, table_start, no_steps, after_entries, from_table, search, steps_of}

-- The record that is found counts, and so does one with code 0 that ends the chain of two-byte codes. One with jump 0 counts there
-- too; up to 255 it does not (request A3).
pub found_counts : chain (record8 45) no_steps 0 0 (45 ∷ 5 ∷ []) ≡ found 2 record { records = 1; entries = 0 }
unfolding chain record8
found_counts = refl

pub zero_counts : chain (record16 256) no_steps 0 0 (0 ∷ 0 ∷ []) ≡ missing record { records = 1; entries = 0 }
unfolding chain record16
zero_counts = refl

pub jump_0_counts : chain (record16 256) no_steps 0 0 (1 ∷ 1 ∷ 0 ∷ []) ≡ missing record { records = 1; entries = 0 }
unfolding chain record16
jump_0_counts = refl

pub jump_0_does_not : chain (record8 45) no_steps 0 0 (33 ∷ 2 ∷ 45 ∷ 0 ∷ []) ≡ missing record { records = 1; entries = 0 }
unfolding chain record8
jump_0_does_not = refl

-- An entry of which a byte is missing does not.
pub partial_does_not : jump_table 256 0 0 (0 ∷ 4 ∷ 0 ∷ 0 ∷ 0 ∷ 4 ∷ 255 ∷ []) ≡ none 1
unfolding jump_table
partial_does_not = refl

-- what holds of the steps of a search that has any
abbrev Of : (LookupSteps → Type 0) → Search → Type 0
Of P (found at steps) = P steps
Of P (missing steps) = P steps
Of P short = Unit {0}

of_weaker : {P Q : LookupSteps → Type 0} → ((q : LookupSteps) → P q → Q q) → (s : Search) → Of P s → Of Q s
of_weaker f (found at q) h = f q h
of_weaker f (missing q) h = f q h
of_weaker f short h = tt

-- ---- the chain: a record takes a byte at least

chain_steps : (look : List ℕ → Record) (steps : LookupSteps) (at n : ℕ) (s : List ℕ)
    → Of (λ q. (q.records + n ≤ steps.records + length s) × (q.entries ≡ steps.entries)) (chain look steps at n s)
unfolding chain
chain_steps look steps at n [] = tt
chain_steps look steps at (suc n) (b ∷ s) = of_weaker (λ q h. (omega arith, h.1)) (chain look steps (suc at) n s) (chain_steps look steps (suc at) n s)
chain_steps look steps at zero (b ∷ s) = by (λ n. chain_steps look (looked steps) (suc at) n s) (look (b ∷ s))
  where
    by : ((n : ℕ) → Of (λ q. (q.records + n ≤ steps.records + 1 + length s) × (q.entries ≡ steps.entries)) (chain look (looked steps) (suc at) n s))
        → (r : Record) → Of (λ q. (q.records + 0 ≤ steps.records + length (b ∷ s)) × (q.entries ≡ steps.entries))
        (follow r steps at (λ jump. chain look (looked steps) (suc at) (jump - 1) s))
    by later (here n) = (omega arith, refl)
    by later (next jump) = of_weaker (λ q h. (omega arith, h.1)) (chain look (looked steps) (suc at) (jump - 1) s) (later (jump - 1))
    by later last = (omega arith, refl)
    by later end = (omega arith, refl)
    by later cut = tt

-- ---- the jump table: an entry takes four bytes

abbrev entries_of : Distance → ℕ
entries_of (sum d n) = n
entries_of (none n) = n

table_entries : (c total n : ℕ) (s : List ℕ) → 4 * entries_of (jump_table c total n s) ≤ 4 * n + length s
unfolding jump_table
table_entries c total n [] = omega arith
table_entries c total n (a ∷ []) = omega arith
table_entries c total n (a ∷ b ∷ []) = omega arith
table_entries c total n (a ∷ b ∷ d ∷ []) = omega arith
table_entries c total n (a ∷ b ∷ d ∷ e ∷ s) = by (table_entries c (total + (a * 256 + b)) (n + 1) s) (ltb (d * 256 + e) c)
  where
    rest : Distance
    rest = jump_table c (total + (a * 256 + b)) (n + 1) s

    by : 4 * entries_of rest ≤ 4 * (n + 1) + length s → (t : Bool)
        → 4 * entries_of (pick t rest (sum (total + (a * 256 + b)) (n + 1))) ≤ 4 * n + length (a ∷ b ∷ d ∷ e ∷ s)
    by h true = omega arith
    by h false = omega arith

-- ---- the lookup

-- Stated with a sum, so that no difference is cut off at 0.
pub record Bounded (font : List ℕ) (q : LookupSteps) : Type 0 where
  pub records : q.records + 23 ≤ length font
  pub entries : 4 * q.entries + 23 ≤ length font

module _ (font : List ℕ) (c : ℕ) (least : 23 ≤ length font) where
  none_bounded : Bounded font no_steps
  none_bounded = record { records = omega arith; entries = omega arith }

  of_bounded : (s : Search) → Of (Bounded font) s → Bounded font (steps_of s)
  of_bounded (found at q) h = h
  of_bounded (missing q) h = h
  of_bounded short h = none_bounded

  from_table_lem : (table : ℕ) → 23 ≤ table → table ≤ length font → (d : Distance) → 4 * entries_of d ≤ length (drop table font)
      → Of (Bounded font) (from_table font table c d)
  from_table_lem table low high (none n) h = record { records = omega arith; entries = omega (arith, length-drop table font) }
  from_table_lem table low high (sum d n) h =
      of_weaker
      (λ q k. record { records = omega arith; entries = omega (arith, length-drop table font) })
      (chain (record16 c) (after_entries n) 0 (table + d) font)
      (chain_steps (record16 c) (after_entries n) 0 (table + d) font)

  low_start : 23 ≤ chain_start (header font) c
  low_start = by (leb 97 c) (leb 65 c)
    where
      by : (s t : Bool) → 23 ≤ pick s (23 + (header font).array_offset_lower_a) (pick t (23 + (header font).array_offset_upper_a) 23)
      by true t = omega arith
      by false true = omega arith
      by false false = omega arith

  search_of : Of (Bounded font) (search font c)
  unfolding search
  search_of = by (leb c 255) (leb c 65535) (leb (table_start (header font)) (length font)) refl
    where
      by : (t u v : Bool) → leb (table_start (header font)) (length font) ≡ v
          → Of (Bounded font)
          (pick t (chain (record8 c) no_steps 0 (chain_start (header font) c) font)
          (pick u
          (pick v (from_table font (table_start (header font)) c (jump_table c 0 0 (drop (table_start (header font)) font))) short)
          (missing no_steps)))
      by true u v e =
          of_weaker
          (λ q k. record { records = omega (arith, low_start); entries = omega arith })
          (chain (record8 c) no_steps 0 (chain_start (header font) c) font)
          (chain_steps (record8 c) no_steps 0 (chain_start (header font) c) font)
      by false false v e = none_bounded
      by false true true e =
          let s = drop (table_start (header font)) font in
          from_table_lem (table_start (header font)) (omega arith) (leb-true _ _ e) (jump_table c 0 0 s) (omega (arith, table_entries c 0 0 s))
      by false true false e = tt

  pub steps_bounded : Bounded font (steps_of (search font c))
  steps_bounded = of_bounded (search font c) search_of
