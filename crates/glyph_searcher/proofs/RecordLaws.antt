-- What a record comes to in the chain, whichever the width of its code. Its answer stands first, as the code's read of it ensures.
-- Assumes nothing.
use Rattle.integers.proofs.Prelude.{◌≡◌, sym, ap, ◌∙◌, List, [], ℕ, zero, suc, ◌+◌, ◌<◌, dec_lt, arith, length, drop}
use Rattle.integers.proofs.Prelude.{drop_of_length-le}
use Rattle.integers.proofs.Choices.{impossible}
use Rattle.definitions.specs.Vocabulary.{LookupSteps}
use Rattle.definitions.specs.Lookup.{found, missing, short, Record, here, next, last, end, cut, looked, follow, chain}
use Rattle.definitions.proofs.LookupLaws.{Looks, chain_at}

module _ {look : List ℕ → Record} (looks : Looks look) (font : List ℕ) (at : ℕ) where
  pub followed : (steps : LookupSteps) {r : Record} → r ≡ look (drop at font)
      → chain look steps 0 at font ≡ follow r steps at (λ jump. chain look (looked steps) 0 (at + jump) font)
  followed steps e =
      chain_at looks steps font at
      ∙ ap (λ (r : Record). follow r steps at (λ jump. chain look (looked steps) 0 (at + jump) font)) (sym e)

  -- A record that another one follows begins before the font's end, and the other further on.
  pub further : (jump : ℕ) → next jump ≡ look (drop at font) → (at < length font) × (0 < jump)
  further jump e = (before (dec_lt at (length font)), moves jump e)
    where
      before : Dec (at < length font) → at < length font
      before (yes h) = h
      before (no h) =
          let end : drop at font ≡ [] = drop_of_length-le font {i = at} (omega arith) in
          let seen : look (drop at font) ≡ cut = ap look end ∙ looks.empty in
          impossible cc

      moves : (jump : ℕ) → next jump ≡ look (drop at font) → 0 < jump
      moves zero e = absurd (looks.moves (drop at font) (sym e))
      moves (suc n) e = omega arith

  -- .. and what the chain comes to, case by case
  module _ (steps : LookupSteps) where
    pub comes_here : (n : ℕ) → here n ≡ look (drop at font) → chain look steps 0 at font ≡ found (at + n) (looked steps)
    comes_here n e = followed steps e

    pub comes_next : (jump : ℕ) → next jump ≡ look (drop at font)
        → chain look steps 0 at font ≡ chain look (looked steps) 0 (at + jump) font
    comes_next jump e = followed steps e

    pub comes_last : last ≡ look (drop at font) → chain look steps 0 at font ≡ missing (looked steps)
    comes_last e = followed steps e

    pub comes_end : end ≡ look (drop at font) → chain look steps 0 at font ≡ missing steps
    comes_end e = followed steps e

    pub comes_cut : cut ≡ look (drop at font) → chain look steps 0 at font ≡ short
    comes_cut e = followed steps e

  pub next_further : (jump : ℕ) → next jump ≡ look (drop at font) → (at < length font) × (0 < jump)
  next_further jump e = further jump e

-- .. by one name
pub ruleset records_come = (comes_here, comes_next, comes_last, comes_end, comes_cut, next_further)
