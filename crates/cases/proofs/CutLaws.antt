-- A list that is cut at a room, and what is appended to it piece by piece. Assumes nothing.
use Rattle.std.proofs.Common.{◌≡◌, refl, sym, ap, subst, ◌∙◌, ℕ, zero, suc, ◌+◌, ◌-◌, ◌≤◌, min, arith}
use Rattle.std.proofs.Common.{List, [], ◌∷◌, ◌++◌, length, take, append_assoc, append-nil}
use Rattle.std.proofs.lemmas.List.{length-take, length-take-le, take_all, take-append-le, take_min}
use Rattle.std.proofs.Math.Nat.{min_comm}
use Rattle.std.proofs.Math.Seq.{take-append-add}
use Rattle.std.specs.List.{repeat}
use borrow.Rule.Slice.PartMut.{put_mid, post_of}

-- what is cut before more is appended is cut alike
take-take-append : (n : ℕ) (xs ys : List ℕ) → take n (take n xs ++ ys) ≡ take n (xs ++ ys)
take-take-append zero xs ys = refl
take-take-append (suc n) [] ys = refl
take-take-append (suc n) (x ∷ xs) ys = ap (λ (l : List ℕ). x ∷ l) (take-take-append n xs ys)

-- what comes behind a list is cut at what that leaves of the room
take-append : {m : ℕ} (n : ℕ) (xs ys : List ℕ) → length xs ≡ m → m ≤ n → take n (xs ++ ys) ≡ xs ++ take (n - m) ys
take-append {m} n xs ys e h =
    let long : n ≡ length xs + (n - m) = omega arith in
    subst (λ (k : ℕ). take k (xs ++ ys) ≡ xs ++ take (n - m) ys) (sym long) (take-append-add xs ys (n - m))

-- what is written of a piece behind others, where it is as much as there is room for
pub cut_behind : (room piece written : List ℕ) (k : ℕ) {len n left most : ℕ} → length room ≡ most → len ≤ most → n ≤ length written
    → take n written ≡ take left piece → left ≡ most - len
    → take (len + n) (put_mid len k room written) ≡ take most (take len room ++ piece)
cut_behind room piece written k {len} {n} {left} {most} e h short w m =
    let long : length (take len room) ≡ len = length-take-le len room (omega arith) in
    let begun : take (len + n) (put_mid len k room written) ≡ take len room ++ take n (written ++ post_of len k room) =
    ap (λ (m : ℕ). take (m + n) (put_mid len k room written)) (sym long)
    ∙ take-append-add (take len room) (written ++ post_of len k room) n in
    let here : take n (written ++ post_of len k room) ≡ take (most - len) piece =
    take-append-le n written (post_of len k room) short ∙ w ∙ ap (λ (i : ℕ). take i piece) m in
    begun ∙ ap (λ (l : List ℕ). take len room ++ l) here ∙ sym (take-append most (take len room) piece long h)

-- as many bytes of a piece as it has and as there is room for
pub cut_piece : (room piece written : List ℕ) (k : ℕ) {len n most : ℕ} → length room ≡ most → len ≤ most
    → n ≡ min (length piece) (most - len) → written ≡ take n piece
    → take (len + n) (put_mid len k room written) ≡ take most (take len room ++ piece)
cut_piece room piece written k {len} {n} {most} e h m w =
    let least : n ≡ min (most - len) (length piece) = m ∙ min_comm (length piece) (most - len) in
    let long : length written ≡ n = ap length w ∙ length-take-le n piece (omega arith) in
    cut_behind room piece written k e h (omega arith)
    (take_all n written (omega arith) ∙ w ∙ ap (λ (m : ℕ). take m piece) least ∙ take_min (most - len) piece) refl

repeat-nil : (n : ℕ) → repeat {A = ℕ} n [] ≡ []
repeat-nil zero = refl
repeat-nil (suc n) = repeat-nil n

-- What a room is to have of a list: what it has, and then what is still to come.
pub record Holds (room : ℕ) (all bytes coming : List ℕ) : Type 0 where
  pub is : take room all ≡ take room (bytes ++ coming)
  pub fits : length bytes ≤ room

module _ {room : ℕ} {all bytes : List ℕ} where
  -- a piece came
  pub more : (piece coming : List ℕ) {now : List ℕ} → Holds room all bytes (piece ++ coming) → now ≡ take room (bytes ++ piece)
      → Holds room all now coming
  more piece coming {now} h e = record {
    is = h.is ∙ ap (take room) (sym (append_assoc bytes piece coming))
        ∙ sym (take-take-append room (bytes ++ piece) coming) ∙ ap (λ (l : List ℕ). take room (l ++ coming)) (sym e);
    fits = omega (arith, ap length e, length-take room (bytes ++ piece));
  }

  pub again : (piece : List ℕ) {n k : ℕ} {now : List ℕ} → Holds room all bytes (repeat n piece) → n ≡ suc k
      → now ≡ take room (bytes ++ piece) → Holds room all now (repeat k piece)
  again piece {k = k} h e = more piece (repeat k piece) (subst (λ (n : ℕ). Holds room all bytes (repeat n piece)) e h)

  -- nothing is to come
  done : Holds room all bytes [] → bytes ≡ take room all
  done h = sym (h.is ∙ ap (take room) (append-nil bytes) ∙ take_all room bytes h.fits)

  pub none : (n : ℕ) (piece : List ℕ) → length piece ≡ 0 → Holds room all bytes (repeat n piece) → bytes ≡ take room all
  none n [] e h = done (subst (Holds room all bytes) (repeat-nil n) h)
  none n (x ∷ xs) e h = absurd (omega arith)

  -- there is no room for it
  pub full : {coming : List ℕ} → Holds room all bytes coming → room ≤ length bytes → bytes ≡ take room all
  full {coming} h long = sym (h.is ∙ take-append-le room bytes coming long ∙ take_all room bytes h.fits)
