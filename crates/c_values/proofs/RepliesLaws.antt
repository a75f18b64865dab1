-- A call's answer, from what its codes mean and what it stored; and for a call that draws, what it left on the framebuffer.
use Rattle.integers.proofs.Prelude.{◌≡◌, sym, ap, ◌∙◌, List, ℕ, ℤ}
use Rattle.definitions.specs.Vocabulary.{LookupSteps}
use Rattle.std.specs.Prelude.{Option, Some}
use Rattle.c_codes.specs.declared.Meaning.{Meaning}
use Rattle.c_values.specs.declared.reply.Reply.{Reply}
use Rattle.c_values.specs.Replies.{Counted, counted, Answers, stored, drawn_by}

-- `read` is what the codes were read as.
module _ {read codes : Option Meaning} (is : read ≡ codes) (answer : Meaning → Counted) (before : List ℤ) where
  -- what was stored, and its status
  abbrev Stored : Reply → LookupSteps → ℕ → List ℤ → Type 0
  Stored r q status after = (status ≡ r.status) × (after ≡ stored (counted r q) before)

  pub answers : {m : Meaning} {r : Reply} {q : LookupSteps} {status : ℕ} {after : List ℤ}
      → read ≡ Some m → r ≡ (answer m).reply → q ≡ (answer m).steps → Stored r q status after → Answers codes answer status before after
  answers k f g h =
      let e = sym is ∙ k in
      (simp e (h.0 ∙ ap (λ (x : Reply). x.status) f), simp e (rw (f, g) at h.1))

  module _ (drawing : Meaning → List ℕ) (buffer : List ℕ) where
    pub drawn : {m : Meaning} {r : Reply} {q : LookupSteps} {status : ℕ} {after : List ℤ} {left : List ℕ}
        → read ≡ Some m → r ≡ (answer m).reply → q ≡ (answer m).steps → Stored r q status after → left ≡ drawing m
        → Answers codes answer status before after × (left ≡ drawn_by codes drawing buffer)
    drawn k f g h d = let e = sym is ∙ k in (answers k f g h, simp e d)
