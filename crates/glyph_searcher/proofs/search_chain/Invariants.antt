-- The loop's invariant: the chain from `at` on, with the records so far, answers as the chain from `start` on does. The measure is
-- what is left of the font, since a jump that is not 0 moves on; so there are no more records than bytes passed.
use Rattle.integers.proofs.Prelude.{◌≡◌, List, ℕ, ◌-◌, ◌≤◌, length}
use Rattle.definitions.specs.Vocabulary.{LookupSteps}
use Rattle.definitions.specs.Lookup.{Record, after_entries, chain}
use Rattle.glyph_searcher.proofs.search_chain.Given as goal

abbrev pub steps_so : ℕ → ℕ → LookupSteps
steps_so records entries = record { records = records; entries = entries }

pub record FollowedTo (look : List ℕ → Record) (font : List ℕ) (start entries at passed : ℕ) : Type 0 where
  pub small : at ≤ 1048831
  pub few : passed ≤ at
  pub same : chain look (after_entries entries) 0 start font ≡ chain look (steps_so passed entries) 0 at font

abbrev pub invariant-loop-n : goal.invariant-loop-n
invariant-loop-n g l = FollowedTo (g.W.CharWidth.says l.ch) l.font l.start l.entries l.at l.records

abbrev pub decreases-loop-n : goal.decreases-loop-n
decreases-loop-n g l = length l.font - l.at
