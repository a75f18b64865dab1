-- Laws of the lookup. The chain and the jump table are walked over the font's bytes by definition, so each walk ends with
-- the bytes: there is no number of steps, and no law that one suffices is needed. Assumes nothing.
use Rattle.integers.proofs.Prelude.{◌≡◌, refl, sym, ap, ◌∙◌, Bool, true, false, List, [], ◌∷◌, ◌++◌, ℕ, zero, suc, ◌+◌, ◌-◌, ◌*◌, ◌≤◌, ◌<◌, zero-add}
use Rattle.integers.proofs.Prelude.{suc-add, add-zero, dec_lt, add-one, arith, T, ltb, leb, eqb, lit<, length, drop, length-drop, length-append}
use Rattle.integers.proofs.Prelude.{list_get_or_append, drop_of_length-le, drop-cons, drop-append-le, leb-true, le-leb, lt-leb, eq-eqb}
use Rattle.integers.proofs.Prelude.{eqb-false}
use Rattle.integers.proofs.Choices.{impossible, of_pick}
use Rattle.definitions.specs.Vocabulary.{FontReader, LookupSteps}
use Rattle.integers.specs.Integers.{pick}
use Rattle.definitions.specs.Header.{byte, big_endian16, header}
use Rattle.definitions.specs.Lookup.{found, missing, short, Record, here, next, last, end, cut, record8, record16, looked, follow, chain}
use Rattle.definitions.specs.Lookup.{Distance, sum, none, jump_table, chain_start, table_start, no_steps, after_entries, from_table, search_table, search}

-- Up to 255 a record with jump 0 is not found, since its jump comes first (request A3); and without its jump nothing is known.
pub jump_first : record8 45 (45 ∷ 0 ∷ []) ≡ end
unfolding record8
jump_first = refl

pub jump_missing : record8 0 (0 ∷ []) ≡ cut
unfolding record8
jump_missing = refl

-- From 256 on it is found.
pub code_first_lem : record16 256 (1 ∷ 0 ∷ 0 ∷ []) ≡ here 3
unfolding record16
code_first_lem = refl

-- The table is walked on where a distance leads past the end: an entry with a limit of 0, and then one that answers.
pub past_the_end : jump_table 256 0 0 (255 ∷ 255 ∷ 0 ∷ 0 ∷ 0 ∷ 0 ∷ 1 ∷ 0 ∷ []) ≡ sum 65535 2
unfolding jump_table
past_the_end = refl

not_missing : {Q : Type 0} {p : ℕ} {r q : LookupSteps} → missing r ≡ found p q → Q
not_missing e = impossible cc

not_short : {Q : Type 0} {p : ℕ} {q : LookupSteps} → short ≡ found p q → Q
not_short e = impossible cc

-- What is left of a font at `at` begins with the byte there, and what is left after k bytes more with the byte there.
first : (s : List ℕ) (at : ℕ) → at < length s → drop at s ≡ byte s at ∷ drop (at + 1) s
first s at h = rw (add-one, drop-cons s at 0)

later : (s : List ℕ) (at k : ℕ) → at + k < length s → drop (at + k) s ≡ byte s (at + k) ∷ drop (at + suc k) s
later s at k h = let e : at + k + 1 ≡ at + suc k = omega arith in rw e at (first s (at + k) h)

-- ---- the chain, whichever way it looks at a record

-- What the walk needs of that way.
pub record Looks (look : List ℕ → Record) : Type 0 where
  pub longer : (s more : List ℕ) → (look s ≡ cut → ⊥) → look (s ++ more) ≡ look s
  pub within : (s : List ℕ) (n : ℕ) → look s ≡ here n → n ≤ length s
  pub moves : (s : List ℕ) → look s ≡ next 0 → ⊥
  pub empty : look [] ≡ cut

module _ {look : List ℕ → Record} (l : Looks look) where
  skip : (steps : LookupSteps) (at n m : ℕ) (s : List ℕ) → n ≤ length s → chain look steps at (n + m) s ≡ chain look steps (at + n) m (drop n s)
  unfolding chain
  skip steps at zero m s h = rw (zero-add, add-zero)
  skip steps at (suc n) m [] h = absurd (omega arith)
  skip steps at (suc n) m (b ∷ s) h =
      let e : suc at + n ≡ at + suc n = omega arith in
      rw suc-add (skip steps (suc at) n m s (omega arith) ∙ ap (λ (k : ℕ). chain look steps k m (drop n s)) e)

  pub chain_past : (steps : LookupSteps) (at n : ℕ) (s : List ℕ) → length s ≤ n → chain look steps at n s ≡ short
  unfolding chain
  chain_past steps at n [] h = refl
  chain_past steps at zero (b ∷ s) h = absurd (omega arith)
  chain_past steps at (suc n) (b ∷ s) h = chain_past steps (suc at) n s (omega arith)

  -- Record by record, as a loop goes: `at` is where the record begins.
  module _ (steps : LookupSteps) (font : List ℕ) (at : ℕ) where
    pub chain_at : chain look steps 0 at font ≡ follow (look (drop at font)) steps at (λ jump. chain look (looked steps) 0 (at + jump) font)
    unfolding chain
    chain_at = by (dec_lt at (length font))
      where
        by : Dec (at < length font)
            → chain look steps 0 at font ≡ follow (look (drop at font)) steps at (λ jump. chain look (looked steps) 0 (at + jump) font)
        by (no h) =
            let e : drop at font ≡ [] = drop_of_length-le font {i = at} (omega arith) in
            chain_past steps 0 at font (omega arith) ∙ rw (e, l.empty)
        by (yes h) =
            (rw (add-zero, zero-add) at (skip steps 0 at 0 font (omega arith)))
            ∙ rw (first font at h) (look_at (look (byte font at ∷ drop (at + 1) font)) refl)
          where
            look_at : (r : Record) → look (byte font at ∷ drop (at + 1) font) ≡ r
                → follow r steps at (λ jump. chain look (looked steps) (suc at) (jump - 1) (drop (at + 1) font))
                ≡ follow r steps at (λ jump. chain look (looked steps) 0 (at + jump) font)
            look_at (here n) e = refl
            look_at (next zero) e = absurd (l.moves _ e)
            look_at (next (suc j)) e =
                let n : at + 1 + (suc j - 1) ≡ at + suc j = omega arith in
                let m : 0 + (at + 1) ≡ suc at = omega arith in
                sym (rw (n, m) at (skip (looked steps) 0 (at + 1) (suc j - 1) font (omega arith)))
            look_at last e = refl
            look_at end e = refl
            look_at cut e = refl

  pub chain_within : (steps : LookupSteps) (at n : ℕ) (s : List ℕ) (p : ℕ) (q : LookupSteps) → chain look steps at n s ≡ found p q → p ≤ at + length s
  unfolding chain
  chain_within steps at n [] p q e = not_short e
  chain_within steps at (suc n) (b ∷ s) p q e = omega (arith, chain_within steps (suc at) n s p q e)
  chain_within steps at zero (b ∷ s) p q e = by (λ n. chain_within (looked steps) (suc at) n s p q) (look (b ∷ s)) refl e
    where
      by : ((n : ℕ) → chain look (looked steps) (suc at) n s ≡ found p q → p ≤ suc at + length s)
          → (r : Record) → look (b ∷ s) ≡ r → follow r steps at (λ jump. chain look (looked steps) (suc at) (jump - 1) s) ≡ found p q
          → p ≤ at + length (b ∷ s)
      by later (here n) r e = let k : at + n ≡ p = cc in omega (arith, l.within (b ∷ s) n r)
      by later (next j) r e = omega (arith, later (j - 1) e)
      by later last r e = not_missing e
      by later end r e = not_missing e
      by later cut r e = not_short e

  pub chain_longer : (steps : LookupSteps) (at n : ℕ) (s more : List ℕ) (p : ℕ) (q : LookupSteps)
      → chain look steps at n s ≡ found p q → chain look steps at n (s ++ more) ≡ found p q
  unfolding chain
  chain_longer steps at n [] more p q e = not_short e
  chain_longer steps at (suc n) (b ∷ s) more p q e = chain_longer steps (suc at) n s more p q e
  chain_longer steps at zero (b ∷ s) more p q e = by (λ n. chain_longer (looked steps) (suc at) n s more p q) (look (b ∷ s)) refl e
    where
      by : ((n : ℕ) → chain look (looked steps) (suc at) n s ≡ found p q → chain look (looked steps) (suc at) n (s ++ more) ≡ found p q)
          → (r : Record) → look (b ∷ s) ≡ r → follow r steps at (λ jump. chain look (looked steps) (suc at) (jump - 1) s) ≡ found p q
          → follow (look ((b ∷ s) ++ more)) steps at (λ jump. chain look (looked steps) (suc at) (jump - 1) (s ++ more)) ≡ found p q
      by rest (here n) r e = rw (l.longer (b ∷ s) more (λ c. impossible cc), r) e
      by rest (next j) r e = rw (l.longer (b ∷ s) more (λ c. impossible cc), r) (rest (j - 1) e)
      by rest last r e = not_missing e
      by rest end r e = not_missing e
      by rest cut r e = not_short e

-- ---- a record

-- a record that is neither found nor the last is followed by another, further on
jump_moves : (j : ℕ) → pick (eqb j 0) last (next j) ≡ next 0 → ⊥
jump_moves j = of_pick (eqb j 0) (λ t e. impossible cc) (λ t e. let z : j ≡ 0 = cc in eqb-false j 0 t z)

jump_not_here : {Q : Type 0} {n : ℕ} (j : ℕ) → pick (eqb j 0) last (next j) ≡ here n → Q
jump_not_here j = of_pick (eqb j 0) (λ t e. impossible cc) (λ t e. impossible cc)

module _ (c : ℕ) where
  longer8 : (s more : List ℕ) → (record8 c s ≡ cut → ⊥) → record8 c (s ++ more) ≡ record8 c s
  unfolding record8
  longer8 [] more h = absurd (h refl)
  longer8 (a ∷ []) more h = absurd (h refl)
  longer8 (a ∷ j ∷ s) more h = refl

  within8 : (s : List ℕ) (n : ℕ) → record8 c s ≡ here n → n ≤ length s
  unfolding record8
  within8 [] n e = impossible cc
  within8 (a ∷ []) n e = impossible cc
  within8 (a ∷ j ∷ s) n e =
      of_pick (eqb j 0) (λ t q. impossible cc)
      (λ t. of_pick (eqb a c) (λ u q. let z : 2 ≡ n = cc in omega arith) (λ u q. impossible cc)) e

  moves8 : (s : List ℕ) → record8 c s ≡ next 0 → ⊥
  unfolding record8
  moves8 [] e = impossible cc
  moves8 (a ∷ []) e = impossible cc
  moves8 (a ∷ j ∷ s) e =
      of_pick (eqb j 0) (λ t q. impossible cc)
      (λ t. of_pick (eqb a c) (λ u q. impossible cc) (λ u q. let z : j ≡ 0 = cc in eqb-false j 0 t z)) e

  pub looks8 : Looks (record8 c)
  unfolding record8
  looks8 = record { longer = longer8; within = within8; moves = moves8; empty = refl }

  longer16 : (s more : List ℕ) → (record16 c s ≡ cut → ⊥) → record16 c (s ++ more) ≡ record16 c s
  unfolding record16
  longer16 [] more h = absurd (h refl)
  longer16 (a ∷ []) more h = absurd (h refl)
  longer16 (a ∷ b ∷ []) more h = by more (eqb (a * 256 + b) 0) refl
    where
      by : (more : List ℕ) (t : Bool) → eqb (a * 256 + b) 0 ≡ t → record16 c (a ∷ b ∷ more) ≡ pick t last cut
      by [] t e = rw e
      by (j ∷ more) true e = rw e
      by (j ∷ more) false e = absurd (h (rw e))
  longer16 (a ∷ b ∷ j ∷ s) more h = refl

  within16 : (s : List ℕ) (n : ℕ) → record16 c s ≡ here n → n ≤ length s
  unfolding record16
  within16 [] n e = impossible cc
  within16 (a ∷ []) n e = impossible cc
  within16 (a ∷ b ∷ []) n e = of_pick (eqb (a * 256 + b) 0) (λ t q. impossible cc) (λ t q. impossible cc) e
  within16 (a ∷ b ∷ j ∷ s) n e =
      of_pick (eqb (a * 256 + b) 0) (λ t q. impossible cc)
      (λ t. of_pick (eqb (a * 256 + b) c) (λ u q. let z : 3 ≡ n = cc in omega arith) (λ u. jump_not_here j)) e

  moves16 : (s : List ℕ) → record16 c s ≡ next 0 → ⊥
  unfolding record16
  moves16 [] e = impossible cc
  moves16 (a ∷ []) e = impossible cc
  moves16 (a ∷ b ∷ []) e = of_pick (eqb (a * 256 + b) 0) (λ t q. impossible cc) (λ t q. impossible cc) e
  moves16 (a ∷ b ∷ j ∷ s) e =
      of_pick (eqb (a * 256 + b) 0) (λ t q. impossible cc) (λ t. of_pick (eqb (a * 256 + b) c) (λ u q. impossible cc) (λ u. jump_moves j)) e

  pub looks16 : Looks (record16 c)
  unfolding record16
  looks16 = record { longer = longer16; within = within16; moves = moves16; empty = refl }

-- The record at a byte of a font, by its bytes.
module _ (c : ℕ) (font : List ℕ) (at : ℕ) where
  pub record8_at : at + 1 < length font
      → record8 c (drop at font)
      ≡ pick (eqb (byte font (at + 1)) 0) end (pick (eqb (byte font at) c) (here 2) (next (byte font (at + 1))))
  unfolding record8
  record8_at h = let h₀ : at < length font = omega arith in rw (first font at h₀, later font at 1 h)

  pub record8_cut : length font ≤ at + 1 → record8 c (drop at font) ≡ cut
  unfolding record8
  record8_cut h = by (drop at font) (omega (arith, length-drop at font))
    where
      by : (s : List ℕ) → length s ≤ 1 → record8 c s ≡ cut
      by [] h = refl
      by (a ∷ []) h = refl
      by (a ∷ b ∷ s) h = absurd (omega arith)

  pub record16_at : at + 2 < length font
      → record16 c (drop at font)
      ≡ pick (eqb (big_endian16 font at) 0) last
      (pick (eqb (big_endian16 font at) c) (here 3)
      (pick (eqb (byte font (at + 2)) 0) last (next (byte font (at + 2)))))
  unfolding record16
  record16_at h =
      let h₀ : at < length font = omega arith in
      let h₁ : at + 1 < length font = omega arith in
      rw (first font at h₀, later font at 1 h₁, later font at 2 h)

  pub record16_cut : at + 2 ≡ length font → record16 c (drop at font) ≡ pick (eqb (big_endian16 font at) 0) last cut
  unfolding record16
  record16_cut h =
      let h₀ : at < length font = omega arith in
      let h₁ : at + 1 < length font = omega arith in
      let e : drop (at + 2) font ≡ [] = drop_of_length-le font {i = at + 2} (omega arith) in
      rw (first font at h₀, later font at 1 h₁, e)

  -- code 0, with its jump or without
  pub record16_zero : at + 2 ≤ length font → big_endian16 font at ≡ 0 → record16 c (drop at font) ≡ last
  record16_zero h e = by (dec_lt (at + 2) (length font))
    where
      by : Dec (at + 2 < length font) → record16 c (drop at font) ≡ last
      by (yes p) = record16_at p ∙ simp (eq-eqb (big_endian16 font at) 0 e)
      by (no p) = record16_cut (omega arith) ∙ simp (eq-eqb (big_endian16 font at) 0 e)

  pub record16_short : length font ≤ at + 1 → record16 c (drop at font) ≡ cut
  unfolding record16
  record16_short h = by (drop at font) (omega (arith, length-drop at font))
    where
      by : (s : List ℕ) → length s ≤ 1 → record16 c s ≡ cut
      by [] h = refl
      by (a ∷ []) h = refl
      by (a ∷ b ∷ s) h = absurd (omega arith)

-- ---- the jump table

pub table_ends : (c total n : ℕ) (s : List ℕ) → length s < 4 → jump_table c total n s ≡ none n
unfolding jump_table
table_ends c total n [] h = refl
table_ends c total n (a ∷ []) h = refl
table_ends c total n (a ∷ b ∷ []) h = refl
table_ends c total n (a ∷ b ∷ d ∷ []) h = refl
table_ends c total n (a ∷ b ∷ d ∷ e ∷ s) h = absurd (omega arith)

pub table_at : (c total n : ℕ) (font : List ℕ) (at : ℕ) → at + 4 ≤ length font
    → jump_table c total n (drop at font)
    ≡ pick (ltb (big_endian16 font (at + 2)) c)
    (jump_table c (total + big_endian16 font at) (n + 1) (drop (at + 4) font))
    (sum (total + big_endian16 font at) (n + 1))
unfolding jump_table
table_at c total n font at h =
    let h₀ : at < length font = omega arith in
    let h₁ : at + 1 < length font = omega arith in
    let h₂ : at + 2 < length font = omega arith in
    let h₃ : at + 3 < length font = omega arith in
    let k : at + 2 + 1 ≡ at + 3 = omega arith in
    rw (first font at h₀, later font at 1 h₁, later font at 2 h₂, later font at 3 h₃, k)

not_none : {Q : Type 0} {d m n : ℕ} → none m ≡ sum d n → Q
not_none e = impossible cc

pub table_longer : (c total n : ℕ) (s more : List ℕ) (d m : ℕ) → jump_table c total n s ≡ sum d m → jump_table c total n (s ++ more) ≡ sum d m
unfolding jump_table
table_longer c total n [] more d m e = not_none e
table_longer c total n (a ∷ []) more d m e = not_none e
table_longer c total n (a ∷ b ∷ []) more d m e = not_none e
table_longer c total n (a ∷ b ∷ f ∷ []) more d m e = not_none e
table_longer c total n (a ∷ b ∷ f ∷ g ∷ s) more d m e =
    of_pick (ltb (f * 256 + g) c) (λ t q. rw t (table_longer c (total + (a * 256 + b)) (n + 1) s more d m q)) (λ t q. rw t q) e

-- ---- the whole lookup

module _ (font : List ℕ) (c : ℕ) where
  pub search_above : 65535 < c → search font c ≡ missing no_steps
  unfolding search
  search_above h = let k : 255 < c = omega arith in simp (lt-leb c 255 k, lt-leb c 65535 h)

  module _ (head : FontReader) (read : head ≡ header font) where
    pub search_chain : c ≤ 255 → search font c ≡ chain (record8 c) no_steps 0 (chain_start head c) font
    unfolding search
    search_chain h = rw (read, le-leb c 255 h)

    pub search_table_lem : 255 < c → c ≤ 65535 → search font c ≡ search_table font (table_start head) c
    unfolding search
    search_table_lem h k = rw (read, lt-leb c 255 h, le-leb c 65535 k)

module _ (font : List ℕ) (table c : ℕ) where
  pub table_past : length font < table → search_table font table c ≡ short
  table_past h = rw (lt-leb table (length font) h)

  module _ (h : table ≤ length font) where
    pub table_none : (n : ℕ) → jump_table c 0 0 (drop table font) ≡ none n → search_table font table c ≡ missing (after_entries n)
    table_none n e = rw (le-leb table (length font) h, e)

    pub table_sum : (d n : ℕ) → jump_table c 0 0 (drop table font) ≡ sum d n
        → search_table font table c ≡ chain (record16 c) (after_entries n) 0 (table + d) font
    table_sum d n e = rw (le-leb table (length font) h, e)

-- A glyph that is found begins within the font, or at its end.
table_within : (font : List ℕ) (table c : ℕ) (d : Distance) (p : ℕ) (q : LookupSteps) → from_table font table c d ≡ found p q → p ≤ length font
table_within font table c (none n) p q e = not_missing e
table_within font table c (sum d n) p q e = omega (arith, chain_within (looks16 c) (after_entries n) 0 (table + d) font p q e)

pub search_within : (font : List ℕ) (c p : ℕ) (q : LookupSteps) → search font c ≡ found p q → p ≤ length font
unfolding search
search_within font c p q e =
    of_pick (leb c 255) (λ t k. omega (arith, chain_within (looks8 c) no_steps 0 (chain_start (header font) c) font p q k))
    (λ t. of_pick (leb c 65535)
    (λ u. of_pick (leb (table_start (header font)) (length font))
    (λ v. table_within font (table_start (header font)) c (jump_table c 0 0 (drop (table_start (header font)) font)) p q)
    (λ v. not_short))
    (λ u. not_missing)) e

-- ---- a longer font, whose first bytes are the font's
module _ (font more : List ℕ) where
  pub byte_longer : (i : ℕ) → i < length font → byte (font ++ more) i ≡ byte font i
  byte_longer i h = list_get_or_append font more 0 i h

  module _ (least : 23 ≤ length font) where
    head_byte : (i : ℕ) → T (ltb i 23) → byte (font ++ more) i ≡ byte font i
    head_byte i t = let h : i < 23 = lit< t in byte_longer i (omega arith)

    pub header_longer : header (font ++ more) ≡ header font
    unfolding header
    header_longer =
        simp (
          head_byte 0 tt,
          head_byte 1 tt,
          head_byte 2 tt,
          head_byte 3 tt,
          head_byte 4 tt,
          head_byte 5 tt,
          head_byte 6 tt,
          head_byte 7 tt,
          head_byte 8 tt,
          head_byte 9 tt,
          head_byte 10 tt,
          head_byte 11 tt,
          head_byte 12 tt,
          head_byte 13 tt,
          head_byte 14 tt,
          head_byte 15 tt,
          head_byte 16 tt,
          head_byte 17 tt,
          head_byte 18 tt,
          head_byte 19 tt,
          head_byte 20 tt,
          head_byte 21 tt,
          head_byte 22 tt,
        )

    from_table_longer : (table c : ℕ) (d d' : Distance) (p : ℕ) (q : LookupSteps) → ((m n : ℕ) → d ≡ sum m n → d' ≡ sum m n)
        → from_table font table c d ≡ found p q
        → from_table (font ++ more) table c d' ≡ found p q
    from_table_longer table c (none n) d' p q same e = not_missing e
    from_table_longer table c (sum d n) d' p q same e = rw (same d n refl) (chain_longer (looks16 c) (after_entries n) 0 (table + d) font more p q e)

    search_table_longer : (table c p : ℕ) (q : LookupSteps) → search_table font table c ≡ found p q → search_table (font ++ more) table c ≡ found p q
    search_table_longer table c p q e =
        of_pick (leb table (length font))
        (λ v k.
        let l = leb-true table (length font) v in
        let w = le-leb table (length (font ++ more)) (omega (arith, length-append font more)) in
        rw (w, drop-append-le table font more l)
        (from_table_longer table c (jump_table c 0 0 (drop table font)) _ p q (table_longer c 0 0 (drop table font) more) k))
        (λ v. not_short) e

    -- A glyph that is found is found at the same byte and by the same steps.
    pub search_longer : (c p : ℕ) (q : LookupSteps) → search font c ≡ found p q → search (font ++ more) c ≡ found p q
    unfolding search
    search_longer c p q e =
        of_pick (leb c 255)
        (λ t k. rw (t, header_longer) (chain_longer (looks8 c) no_steps 0 (chain_start (header font) c) font more p q k))
        (λ t. of_pick (leb c 65535)
        (λ u k. rw (t, u, header_longer) (search_table_longer (table_start (header font)) c p q k))
        (λ u. not_missing)) e
