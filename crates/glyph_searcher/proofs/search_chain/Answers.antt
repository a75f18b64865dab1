-- What a record says is what the chain comes to there (RecordLaws), by the law of its width. Assumes nothing.
use Rattle.integers.proofs.Prelude.{◌≡◌, ◌∙◌, ap, sym, List, ℕ, arith}
use Rattle.definitions.specs.Lookup.{Record, Search, after_entries, chain}
use Rattle.std.proofs.Common.{rules}
use Rattle.glyph_searcher.specs.Answers.{search_report}
use Rattle.glyph_searcher.proofs.RecordLaws.{followed, further}
use Rattle.glyph_searcher.proofs.search_chain.Invariants.{FollowedTo, steps_so}
use Rattle.glyph_searcher.proofs.search_chain.Goals as goal

-- What the chain comes to from `at` on is the answer.
answers : (ch : ℕ) {look : List ℕ → Record} {font : List ℕ} {start entries at passed : ℕ} {s : Search}
    → FollowedTo look font start entries at passed → chain look (steps_so passed entries) 0 at font ≡ s
    → search_report ch s ≡ search_report ch (chain look (after_entries entries) 0 start font)
answers ch f e = ap (search_report ch) (sym (f.same ∙ e))

pub returns-in-Here : goal.returns-in-Here
returns-in-Here g c =
    let looks = g.met.W.CharWidth.looks c.args.ch in
    let e = answers c.args.ch c.loop-n.invariant (followed looks _ _ _ c.in-Here.ensures) in
    search rules

pub loop-n-preserved : goal.loop-n-preserved
loop-n-preserved g c =
    let looks = g.met.W.CharWidth.looks c.args.ch in
    let moves = further looks c.args.font.now c.loop-n.at c.in-Next.jump c.in-Next.ensures in
    record {
      small = omega (arith, c.from-at.ensures, moves);
      few = omega (arith, c.from-at.ensures, moves);
      same = rw c.from-at.ensures (c.loop-n.invariant.same ∙ followed looks _ _ _ c.in-Next.ensures);
    }

pub returns-in-Last : goal.returns-in-Last
returns-in-Last g c =
    let looks = g.met.W.CharWidth.looks c.args.ch in
    let e = answers c.args.ch c.loop-n.invariant (followed looks _ _ _ c.in-Last.ensures) in
    search rules

pub returns-in-End : goal.returns-in-End
returns-in-End g c =
    let looks = g.met.W.CharWidth.looks c.args.ch in
    let e = answers c.args.ch c.loop-n.invariant (followed looks _ _ _ c.in-End.ensures) in
    search rules

pub returns-in-Cut : goal.returns-in-Cut
returns-in-Cut g c =
    let looks = g.met.W.CharWidth.looks c.args.ch in
    let e = answers c.args.ch c.loop-n.invariant (followed looks _ _ _ c.in-Cut.ensures) in
    search rules
