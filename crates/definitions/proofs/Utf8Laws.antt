-- Decoding a text. A text decodes exactly to the code points of which it is the encoding (`decoded`, `decode_encode_all`). A
-- loop over its characters needs, at a position: what was read there (`position`, `next`), that the text is not UTF-8
-- (`not_utf8_lem`), and the end (`at_end`). Assumes nothing.
use Rattle.integers.proofs.Prelude.{◌≡◌, refl, sym, ap, subst, ◌∙◌, true, false, inl, inr, List, [], ◌∷◌, ◌++◌, ℕ, zero, suc, ◌+◌, ◌-◌, ◌/◌, ◌%◌, ◌≤◌}
use Rattle.integers.proofs.Prelude.{◌<◌, arith, eqb, length, drop, length-append, length-drop, take-append-drop, drop_of_length-le}
use Rattle.integers.proofs.Prelude.{drop-cons, drop-drop, drop-append_seam, ne_eqb}
use Rattle.integers.proofs.Choices.{impossible}
use Rattle.definitions.specs.Utf8.{Character, character, malformed, first_character, Scalar, encode, encode_all, Scalars, nil, cons, Decoded, characters, not_utf8}
use Rattle.definitions.specs.Utf8.{prepend, decode_from, decode, is_utf8, code_points, newlines}
use Rattle.definitions.proofs.Utf8Rows.{if_less}
use Rattle.definitions.proofs.Utf8Encoding.{encode_one, encode_two, encode_three, encode_four, encode_some, head, first_encode}

-- ---- the code points of bytes

pub skipped : (n : ℕ) (s : List ℕ) → decode_from n s ≡ decode (drop n s)
unfolding decode_from
skipped zero s = refl
skipped (suc n) [] = refl
skipped (suc n) (b ∷ s) = skipped n s

-- A character at the head: its code point, and then those of the bytes after it.
pub decode_first : (s : List ℕ) {c k : ℕ} → first_character s ≡ character c k → decode s ≡ prepend c (decode (drop k s))
unfolding decode_from
decode_first [] {c} {k} e = let h = head [] e in absurd (omega arith)
decode_first (b ∷ s) {c} {k} e = rw e (ap (prepend c) (skipped (k - 1) s ∙ ap decode (sym (after_first k (head (b ∷ s) e).some))))
  where
    after_first : (k : ℕ) → 1 ≤ k → drop k (b ∷ s) ≡ drop (k - 1) s
    after_first zero h = absurd (omega arith)
    after_first (suc k) h = let e : suc k - 1 ≡ k = omega arith in rw e

-- the code points after the first
pub record After (c : ℕ) (d : Decoded) (cs : List ℕ) : Type 0 where
  pub rest : List ℕ
  pub is : cs ≡ c ∷ rest
  pub decoded : d ≡ characters rest

prepended : (c : ℕ) (d : Decoded) (cs : List ℕ) → prepend c d ≡ characters cs → After c d cs
prepended c (characters rest) cs e = record { rest = rest; is = cc; decoded = refl }
prepended c not_utf8 cs e = impossible cc

pub utf8_characters : (d : Decoded) → is_utf8 d ≡ true → d ≡ characters (code_points d)
utf8_characters (characters cs) e = refl
utf8_characters not_utf8 e = impossible cc

-- The encoding of a scalar value decodes to it, and what follows does not matter.
pub decode_encode : (c : ℕ) (rest : List ℕ) → Scalar c → decode (encode c ++ rest) ≡ prepend c (decode rest)
decode_encode c rest h =
    decode_first (encode c ++ rest) (first_encode c rest h)
    ∙ ap (λ (l : List ℕ). prepend c (decode l)) (drop-append_seam (encode c) rest)

-- The caller's loop, at a position of a text.
module _ (text : List ℕ) (at : ℕ) where
  -- a character of k bytes there, of code point c
  pub record Position (c k : ℕ) : Type 0 where
    pub some : 1 ≤ k
    pub most : k ≤ 4
    pub within : at + k ≤ length text
    pub code : c ≤ 0x10FFFF
    pub decoded : decode (drop at text) ≡ prepend c (decode (drop (at + k) text))

  scalar_most : {c : ℕ} → Scalar c → c ≤ 0x10FFFF
  scalar_most (inl h) = omega arith
  scalar_most (inr h) = h.1

  pub position : {c k : ℕ} → first_character (drop at text) ≡ character c k → Position c k
  position {c} {k} e =
      let h = head (drop at text) e in
      record {
        some = h.some;
        most = h.most;
        within = omega (arith, h.within, h.some, length-drop at text);
        code = scalar_most h.scalar;
        decoded = decode_first (drop at text) e ∙ ap (λ (l : List ℕ). prepend c (decode l)) (drop-drop k at text);
      }

  pub not_utf8_lem : at < length text → first_character (drop at text) ≡ malformed → decode (drop at text) ≡ not_utf8
  unfolding decode_from
  not_utf8_lem h e = let e' = rw (drop-cons text at 0) at e in rw (drop-cons text at 0, e')

  pub at_end : length text ≤ at → decode (drop at text) ≡ characters []
  unfolding decode_from
  at_end h = rw (drop_of_length-le text h)

  -- Of a text that decodes, the code points from here on are this one and those from the next position on.
  pub next : {c k : ℕ} {cs : List ℕ} → first_character (drop at text) ≡ character c k → decode (drop at text) ≡ characters cs
      → After c (decode (drop (at + k) text)) cs
  next {c} {k} {cs} e d = prepended c (decode (drop (at + k) text)) cs (sym (position e).decoded ∙ d)

  pub none_malformed : {cs : List ℕ} → at < length text → decode (drop at text) ≡ characters cs → first_character (drop at text) ≡ malformed → ⊥
  none_malformed h d e = let f = not_utf8_lem h e in impossible cc

-- ---- a text and its code points: each is had from the other

pub decode_encode_all : {cs : List ℕ} → Scalars cs → decode (encode_all cs) ≡ characters cs
unfolding encode_all decode_from
decode_encode_all nil = refl
decode_encode_all (cons {c} {cs} h hs) = decode_encode c (encode_all cs) h ∙ ap (prepend c) (decode_encode_all hs)

abbrev Encoded : ℕ → Type 0
Encoded n = (s cs : List ℕ) → length s ≤ n → decode s ≡ characters cs → (s ≡ encode_all cs) × Scalars cs

encoded_none : (cs : List ℕ) → decode [] ≡ characters cs → ([] ≡ encode_all cs) × Scalars cs
unfolding decode_from encode_all
encoded_none cs e = let z : [] ≡ cs = cc in subst (λ (l : List ℕ). ([] ≡ encode_all l) × Scalars l) z (refl, nil)

joined : {s t u v : List ℕ} → s ≡ u → t ≡ v → s ++ t ≡ u ++ v
joined e f = cc

encoded_next : (n : ℕ) → Encoded n → Encoded (suc n)
unfolding encode_all
encoded_next n again [] cs h e = encoded_none cs e
encoded_next n again (b ∷ s) cs h e = by (first_character (b ∷ s)) refl
  where
    by : (x : Character) → first_character (b ∷ s) ≡ x → (b ∷ s ≡ encode_all cs) × Scalars cs
    by (character c k) f =
        let p = head (b ∷ s) f in
        let r = prepended c (decode (drop k (b ∷ s))) cs (sym (decode_first (b ∷ s) f) ∙ e) in
        let rest = again (drop k (b ∷ s)) r.rest (omega (arith, length-drop k (b ∷ s), p.some)) r.decoded in
        subst (λ (l : List ℕ). (b ∷ s ≡ encode_all l) × Scalars l) (sym r.is)
        (sym (take-append-drop k (b ∷ s)) ∙ joined p.bytes rest.0, cons p.scalar rest.1)
    by malformed f = absurd (none_malformed (b ∷ s) 0 (omega arith) e f)

encoded : (n : ℕ) → Encoded n
encoded zero [] cs h e = encoded_none cs e
encoded zero (b ∷ s) cs h e = absurd (omega arith)
encoded (suc n) s cs h e = encoded_next n (encoded n) s cs h e

pub decoded : (s : List ℕ) {cs : List ℕ} → decode s ≡ characters cs → (s ≡ encode_all cs) × Scalars cs
decoded s {cs} e = encoded (length s) s cs (omega arith) e

-- There are no more characters than bytes.
encoded_length : (cs : List ℕ) → length cs ≤ length (encode_all cs)
unfolding encode_all
encoded_length [] = omega arith
encoded_length (c ∷ cs) = omega (arith, length-append (encode c) (encode_all cs), encoded_length cs, encode_some c)

pub character_count : (s : List ℕ) {cs : List ℕ} → decode s ≡ characters cs → length cs ≤ length s
character_count s {cs} e = omega (arith, ap length (decoded s e).0, encoded_length cs)

-- ---- newlines: the byte 10 is no part of a longer sequence, so bytes and code points have as many

pub newlines_append : (s t : List ℕ) → newlines (s ++ t) ≡ newlines s + newlines t
unfolding newlines
newlines_append [] t = omega arith
newlines_append (b ∷ s) t = omega (arith, newlines_append s t)

pub newlines_encode : (c : ℕ) → newlines (encode c) ≡ newlines (c ∷ [])
unfolding newlines
newlines_encode c =
    if_less c 0x80 (λ h. rw (encode_one c (omega arith))) (λ one.
    if_less c 0x800 (λ h. rw (encode_two c one (omega arith)) (simp (ne (0xC0 + c / 64) (omega arith), late (c % 64), ne c one))) (λ two.
    if_less c 0x10000 (λ h.
    rw (encode_three c two (omega arith)) (simp (ne (0xE0 + c / 4096) (omega arith), late (c / 64 % 64), late (c % 64), ne c one))) (λ three.
    rw (encode_four c three) (simp (ne (0xF0 + c / 262144) (omega arith), late (c / 4096 % 64), late (c / 64 % 64), late (c % 64), ne c one)))))
  where
    ne : (b : ℕ) → 0x80 ≤ b → eqb b 10 ≡ false
    ne b h = ne_eqb b 10 (λ e. omega arith)

    late : (b : ℕ) → eqb (0x80 + b) 10 ≡ false
    late b = ne_eqb (0x80 + b) 10 (λ e. omega arith)

newlines_encode_all : (cs : List ℕ) → newlines (encode_all cs) ≡ newlines cs
unfolding encode_all newlines
newlines_encode_all [] = refl
newlines_encode_all (c ∷ cs) = omega (arith, newlines_append (encode c) (encode_all cs), newlines_encode c, newlines_encode_all cs)

pub newlines_decoded : (text : List ℕ) {cs : List ℕ} → decode text ≡ characters cs → newlines text ≡ newlines cs
newlines_decoded text {cs} e = ap newlines (decoded text e).0 ∙ newlines_encode_all cs
