-- Each argument is one word more, and none so far is wrong. Assumes nothing.
use Rattle.std.proofs.Common.{◌≡◌, List, ℕ, Ok}
use Rattle.draw_options.specs.Words.{with_words, no_words}
use Rattle.draw_options.proofs.read.Given as goal

abbrev pub invariant-loop-word : goal.invariant-loop-word
invariant-loop-word g l =
    (goal.iterator-loop-word g).can_next l.word-iterator
    × (goal.iterator-loop-word g).is_finite l.word-iterator
    × ((words : List (List ℕ)) × (Ok l.options ≡ with_words no_words words))
