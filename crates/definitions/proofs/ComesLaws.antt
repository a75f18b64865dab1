-- What causes leave of a call: its answer, and what the framebuffer then holds, as a call goes through its tests. Assumes nothing.
use Rattle.integers.proofs.Prelude.{◌≡◌, refl, subst, Bool, true, false, List, [], ◌∷◌, ◌++◌, ℕ}
use Rattle.integers.specs.Integers.{pick}
use Rattle.integers.proofs.Choices.{impossible}
use Rattle.definitions.specs.Refusals.{Outcome, success, refused, Cause, unless_refused, any_applies}
use Rattle.definitions.proofs.RefusalLaws.{or_false}

pub record Comes {A : Type 0} (cs : List Cause) (rest : Outcome A) (before after : List ℕ) (answer : Outcome A) (bytes : List ℕ) : Type 0 where
  pub answered : answer ≡ unless_refused cs rest
  pub held : bytes ≡ pick (any_applies cs) before after

module _ {A : Type 0} {rest : Outcome A} {before after : List ℕ} where
  pub comes_none : Comes [] rest before after rest after
  comes_none = record { answered = refl; held = refl }

  pub comes_off : (c : Cause) {cs : List Cause} {answer : Outcome A} {bytes : List ℕ} → c.applies ≡ false
      → Comes cs rest before after answer bytes → Comes (c ∷ cs) rest before after answer bytes
  comes_off c e k = record { answered = rw e k.answered; held = rw e k.held }

  pub comes_on : (c : Cause) (cs : List Cause) → c.applies ≡ true → Comes (c ∷ cs) rest before after (refused c.number 0) before
  comes_on c cs e = record { answered = rw e; held = rw e }

  pub comes_passed : (cs : List Cause) {ds : List Cause} {answer : Outcome A} {bytes : List ℕ} → any_applies cs ≡ false
      → Comes ds rest before after answer bytes → Comes (cs ++ ds) rest before after answer bytes
  comes_passed [] e k = k
  comes_passed (c ∷ cs) e k = let h = or_false c.applies (any_applies cs) e in comes_off c h.0 (comes_passed cs h.1 k)

  pub comes_stopped : {B : Type 0} (b : B) (cs ds : List Cause) {n m : ℕ} → unless_refused cs (success b) ≡ refused n m
      → Comes (cs ++ ds) rest before after (refused n m) before
  comes_stopped b [] ds e = impossible cc
  comes_stopped b (c ∷ cs) ds {n} {m} e = by c.applies refl (comes_stopped b cs ds)
    where
      by : (t : Bool) → c.applies ≡ t → (unless_refused cs (success b) ≡ refused n m → Comes (cs ++ ds) rest before after (refused n m) before)
          → Comes (c ∷ (cs ++ ds)) rest before after (refused n m) before
      by true k later =
          let same : ◌≡◌ {A = Outcome A} (refused c.number 0) (refused n m) = cc (rw k at e) in
          subst (λ (o : Outcome A). Comes (c ∷ (cs ++ ds)) rest before after o before) same (comes_on c (cs ++ ds) k)
      by false k later = comes_off c k (later (rw k at e))
