-- `read` meets its contract: each argument is one word more. Assumes nothing.
use Rattle.std.proofs.Common.{◌≡◌, refl, ap, ◌∙◌, sym, List, ℕ, [], ◌∷◌, ◌++◌, Result, Ok, arith}
use Rattle.std.proofs.lemmas.Grind.{common_steps, fold-append}
use Rattle.draw_options.specs.declared.Options.{Options}
use Rattle.draw_options.specs.declared.UnknownWord.{UnknownWord}
use Rattle.draw_options.specs.Words.{with_next, with_word, with_words, no_words}
use Rattle.draw_options.proofs.read.Goals as goal

no_words_lem : Ok no_words ≡ with_words no_words []
no_words_lem = refl

one_more : {o : Options} (words : List (List ℕ)) (word : List ℕ) → Ok o ≡ with_words no_words words → with_word o word ≡ with_words no_words (words ++ word ∷ [])
one_more words word e = ap (λ (r : Result Options UnknownWord). with_next r word) e ∙ sym (fold-append with_next (Ok no_words) words (word ∷ []))

pub loop-word-preserved : goal.loop-word-preserved
loop-word-preserved g c =
    let words = c.loop-word.invariant.2 in
    let word = c.as_str.result.now in
    let next = one_more words.0 word words.1 in
    (tt, tt, (words.0 ++ word ∷ [], grind (arith, common_steps, next)))

pub returns-in_err-options : goal.returns-in_err-options
returns-in_err-options g c =
    let words = c.loop-word.invariant.2 in
    let word = c.as_str.result.now in
    let next = one_more words.0 word words.1 in
    (words.0 ++ word ∷ [], grind (arith, common_steps, next))
