-- The first line of a text, in bytes and in code points. Assumes nothing.
use Rattle.integers.proofs.Prelude.{◌≡◌, refl, ap, ◌∙◌, Bool, true, false, List, [], ◌∷◌, ◌++◌, ℕ, suc, ◌+◌, ◌-◌, ◌≤◌, ◌<◌, arith, eqb, length, take, drop}
use Rattle.integers.proofs.Prelude.{length-append, length-drop, take_all, eqb-true, ltb, ltb-true, ltb-false}
use Rattle.std.specs.List.{position_or_len, position}
use Rattle.std.proofs.Common.{cond, not, Some, None}
use Rattle.integers.proofs.Choices.{impossible}
use Rattle.integers.specs.Integers.{pick}
use Rattle.definitions.specs.Utf8.{encode, encode_all, Scalars, nil, cons, characters, decode, newlines}
use Rattle.definitions.specs.Text.{first, lines}
use Rattle.definitions.proofs.Utf8Laws.{decoded, decode_encode_all, newlines_encode}
use Rattle.renderer.specs.Lines.{line_of, rest_of}

-- ---- a list

pub line_level : (cs : List ℕ) → newlines (line_of cs) ≡ 0
unfolding line_of newlines
line_level [] = refl
line_level (c ∷ cs) = by (eqb c 10) refl (line_level cs)
  where
    by : (t : Bool) → eqb c 10 ≡ t → newlines (line_of cs) ≡ 0 → newlines (pick t [] (c ∷ line_of cs)) ≡ 0
    by true k e = refl
    by false k e = rw k (omega (arith, e))

-- without a newline it is all of the text
pub line_whole : (cs : List ℕ) → newlines cs ≡ 0 → line_of cs ≡ cs
unfolding line_of newlines
line_whole [] e = refl
line_whole (c ∷ cs) e = by (eqb c 10) e (line_whole cs)
  where
    by : (t : Bool) → pick t 1 0 + newlines cs ≡ 0 → (newlines cs ≡ 0 → line_of cs ≡ cs) → pick t [] (c ∷ line_of cs) ≡ c ∷ cs
    by true e rest = absurd (omega arith)
    by false e rest = rw (rest (omega arith))

-- with one it is followed by it
pub record Split (cs : List ℕ) : Type 0 where
  pub parts : cs ≡ line_of cs ++ 10 ∷ rest_of cs
  pub lines_are : lines cs ≡ first (line_of cs) (lines (rest_of cs))
  pub fewer : newlines cs ≡ 1 + newlines (rest_of cs)

pub split : (cs : List ℕ) → 1 ≤ newlines cs → Split cs
unfolding line_of rest_of newlines lines
split [] h = absurd (omega arith)
split (c ∷ cs) h = by (eqb c 10) refl h (split cs)
  where
    by : (t : Bool) → eqb c 10 ≡ t → 1 ≤ pick t 1 0 + newlines cs → (1 ≤ newlines cs → Split cs) → Split (c ∷ cs)
    by true k h rest = let ten : c ≡ 10 = eqb-true c 10 k in record { parts = rw (k, ten); lines_are = rw k; fewer = rw k }
    by false k h rest =
        let s = rest (omega arith) in
        record { parts = rw k (ap (λ (l : List ℕ). c ∷ l) s.parts); lines_are = rw (k, s.lines_are); fewer = rw k (omega (arith, s.fewer)) }

pub rest_shorter : (s : List ℕ) → 1 ≤ newlines s → length (rest_of s) < length s
rest_shorter s h = omega (arith, ap length (split s h).parts, length-append (line_of s) (10 ∷ rest_of s))

pub line_short : (s : List ℕ) → length (line_of s) ≤ length s
unfolding line_of
line_short [] = omega arith
line_short (b ∷ s) = by (eqb b 10) (line_short s)
  where
    by : (t : Bool) → length (line_of s) ≤ length s → length (pick t [] (b ∷ line_of s)) ≤ length (b ∷ s)
    by true h = omega arith
    by false h = omega arith

-- it is the first part of the text
pub line_taken : (s : List ℕ) → take (length (line_of s)) s ≡ line_of s
unfolding line_of
line_taken [] = refl
line_taken (b ∷ s) = by (eqb b 10) (line_taken s)
  where
    by : (t : Bool) → take (length (line_of s)) s ≡ line_of s → take (length (pick t [] (b ∷ line_of s))) (b ∷ s) ≡ pick t [] (b ∷ line_of s)
    by true e = refl
    by false e = rw e

-- .. and what comes after it begins with a newline, or is nothing
pub rest_dropped : (s : List ℕ) → drop (length (line_of s) + 1) s ≡ rest_of s
unfolding line_of rest_of
rest_dropped [] = refl
rest_dropped (b ∷ s) = by (eqb b 10) (rest_dropped s)
  where
    by : (t : Bool) → drop (length (line_of s) + 1) s ≡ rest_of s → drop (length (pick t [] (b ∷ line_of s)) + 1) (b ∷ s) ≡ pick t s (rest_of s)
    by true e = refl
    by false e = let n : suc (length (line_of s)) + 1 ≡ suc (length (line_of s) + 1) = omega arith in rw n e

pub last_line : (s : List ℕ) → length s ≤ length (line_of s) → newlines s ≡ 0
unfolding line_of newlines
last_line [] h = refl
last_line (b ∷ s) h = by (eqb b 10) h (last_line s)
  where
    by : (t : Bool) → length (b ∷ s) ≤ length (pick t [] (b ∷ line_of s)) → (length s ≤ length (line_of s) → newlines s ≡ 0) → pick t 1 0 + newlines s ≡ 0
    by true h rest = absurd (omega arith)
    by false h rest = omega (arith, rest (omega arith))

pub more_lines : (s : List ℕ) → length (line_of s) < length s → 1 ≤ newlines s
unfolding line_of newlines
more_lines [] h = absurd (omega arith)
more_lines (b ∷ s) h = by (eqb b 10) h (more_lines s)
  where
    by : (t : Bool) → length (pick t [] (b ∷ line_of s)) < length (b ∷ s) → (length (line_of s) < length s → 1 ≤ newlines s) → 1 ≤ pick t 1 0 + newlines s
    by true h rest = omega arith
    by false h rest = omega (arith, rest (omega arith))

-- ---- as its end is looked for

newline_there : (s : List ℕ) → position_or_len (λ b. eqb b 10) s ≡ length (line_of s)
unfolding line_of
newline_there [] = refl
newline_there (b ∷ s) = by (eqb b 10) (newline_there s)
  where
    by : (t : Bool) → position_or_len (λ b. eqb b 10) s ≡ length (line_of s)
        → cond (not t) (1 + position_or_len (λ b. eqb b 10) s) 0 ≡ length (pick t [] (b ∷ line_of s))
    by true e = refl
    by false e = omega (arith, e)

module _ (s : List ℕ) where
  found : {end : ℕ} → Some end ≡ position (λ b. eqb b 10) s → (end ≡ length (line_of s)) × (end < length s)
  found {end} e = by (ltb (position_or_len (λ b. eqb b 10) s) (length s)) refl e
    where
      by : (t : Bool) → ltb (position_or_len (λ b. eqb b 10) s) (length s) ≡ t → Some end ≡ cond t (Some (position_or_len (λ b. eqb b 10) s)) None
          → (end ≡ length (line_of s)) × (end < length s)
      by true k e =
          let same : end ≡ position_or_len (λ b. eqb b 10) s = cc in
          (same ∙ newline_there s, omega (arith, same, ltb-true _ _ k))
      by false k e = impossible cc

  none_found : None ≡ position (λ b. eqb b 10) s → length s ≤ length (line_of s)
  none_found e = by (ltb (position_or_len (λ b. eqb b 10) s) (length s)) refl e
    where
      by : (t : Bool) → ltb (position_or_len (λ b. eqb b 10) s) (length s) ≡ t → None ≡ cond t (Some (position_or_len (λ b. eqb b 10) s)) None
          → length s ≤ length (line_of s)
      by true k e = impossible cc
      by false k e = omega (arith, newline_there s, ltb-false _ _ k)

  pub found_line : {end : ℕ} → Some end ≡ position (λ b. eqb b 10) s → (take end s ≡ line_of s) × (end < length s)
  found_line e = let f = found e in (rw f.0 (line_taken s), f.1)

  -- as it is lent
  pub found_rest : {end : ℕ} → Some end ≡ position (λ b. eqb b 10) s
      → (1 ≤ newlines s) × (take (length s - (end + 1)) (drop (end + 1) s) ≡ rest_of s)
  found_rest {end} e =
      let f = found e in
      (more_lines s (omega arith), take_all _ _ (omega (arith, length-drop (end + 1) s)) ∙ rw f.0 (rest_dropped s))

  pub no_newline : None ≡ position (λ b. eqb b 10) s → newlines s ≡ 0
  no_newline e = last_line s (none_found e)

  pub whole_line : None ≡ position (λ b. eqb b 10) s → line_of s ≡ s
  whole_line e = line_whole s (no_newline e)

pub ruleset first_lines = (found_line, found_rest, no_newline, whole_line)

-- ---- bytes and code points have the same first line

append_line : (a s : List ℕ) → newlines a ≡ 0 → (line_of (a ++ s) ≡ a ++ line_of s) × (rest_of (a ++ s) ≡ rest_of s)
unfolding line_of rest_of newlines
append_line [] s e = (refl, refl)
append_line (b ∷ a) s e = by (eqb b 10) e (append_line a s)
  where
    by : (t : Bool) → pick t 1 0 + newlines a ≡ 0 → (newlines a ≡ 0 → (line_of (a ++ s) ≡ a ++ line_of s) × (rest_of (a ++ s) ≡ rest_of s))
        → (pick t [] (b ∷ line_of (a ++ s)) ≡ b ∷ a ++ line_of s) × (pick t (a ++ s) (rest_of (a ++ s)) ≡ rest_of s)
    by true e rest = absurd (omega arith)
    by false e rest = let r = rest (omega arith) in (rw r.0, r.1)

encoded_line : (cs : List ℕ) → (line_of (encode_all cs) ≡ encode_all (line_of cs)) × (rest_of (encode_all cs) ≡ encode_all (rest_of cs))
unfolding line_of rest_of encode_all newlines encode
encoded_line [] = (refl, refl)
encoded_line (c ∷ cs) = by (eqb c 10) refl (encoded_line cs)
  where
    by : (t : Bool) → eqb c 10 ≡ t → (line_of (encode_all cs) ≡ encode_all (line_of cs)) × (rest_of (encode_all cs) ≡ encode_all (rest_of cs))
        → (line_of (encode c ++ encode_all cs) ≡ encode_all (pick t [] (c ∷ line_of cs))) × (rest_of (encode c ++ encode_all cs) ≡ encode_all (pick t cs (rest_of cs)))
    by true k r =
        let ten : c ≡ 10 = eqb-true c 10 k in
        rw ten (refl, refl)
    by false k r =
        let none : newlines (encode c) ≡ 0 = newlines_encode c ∙ rw k in
        let b = append_line (encode c) (encode_all cs) none in
        (b.0 ∙ ap (λ (l : List ℕ). encode c ++ l) r.0, b.1 ∙ r.1)

scalars_line : {cs : List ℕ} → Scalars cs → Scalars (line_of cs) × Scalars (rest_of cs)
unfolding line_of rest_of
scalars_line nil = (nil, nil)
scalars_line (cons {c} {cs} h hs) = by (eqb c 10) (scalars_line hs)
  where
    by : (t : Bool) → Scalars (line_of cs) × Scalars (rest_of cs) → Scalars (pick t [] (c ∷ line_of cs)) × Scalars (pick t cs (rest_of cs))
    by true r = (nil, hs)
    by false r = (cons h r.0, r.1)

module _ (s : List ℕ) {cs : List ℕ} (e : decode s ≡ characters cs) where
  pub line_decoded : decode (line_of s) ≡ characters (line_of cs)
  line_decoded =
      let d = decoded s e in
      ap (λ (b : List ℕ). decode (line_of b)) d.0 ∙ ap decode (encoded_line cs).0 ∙ decode_encode_all (scalars_line d.1).0

  pub rest_decoded : decode (rest_of s) ≡ characters (rest_of cs)
  rest_decoded =
      let d = decoded s e in
      ap (λ (b : List ℕ). decode (rest_of b)) d.0 ∙ ap decode (encoded_line cs).1 ∙ decode_encode_all (scalars_line d.1).1
