-- The search's answer decides; a glyph that is found begins within the font.
use Rattle.std.specs.Prelude.{Result, Err, IfOk, MatchResult}
use Rattle.integers.proofs.Prelude.{◌≡◌, refl, sym, ap, subst, ◌∙◌, List, ℕ, ◌≤◌, ◌*◌, length}
use Rattle.definitions.specs.Refusals.{outcome}
use Rattle.definitions.specs.Vocabulary.{Error, FontReader, GlyphReader, Report}
use Rattle.definitions.specs.Header.{Opened}
use Rattle.definitions.specs.Lookup.{Search, found, missing, short, search as lookup, steps_of}
use Rattle.definitions.specs.Glyph.{fields, from_search, glyph}
use Rattle.definitions.proofs.LookupLaws.{search_within}
use Rattle.glyph_searcher.specs.Answers.{search_report}
use Rattle.answers.specs.Lookups.{LookedUp}
use Rattle.answers.proofs.lookup.retrieve_glyph_data.Goals as goal

-- What the search answers is what the lookup brings.
module _ {font : List ℕ} {head : FontReader} (o : Opened font head) (c : ℕ) (r : Result GlyphReader Error) where
  brought : {s : Search} → s ≡ lookup font c → outcome r ≡ from_search font c s → LookedUp font c record { result = r; steps = steps_of s }
  unfolding glyph
  brought e a = record { answered = a ∙ ap (from_search font c) e; counted = ap steps_of e }

  -- what a report leads to
  abbrev Leads : Report ℕ → Type 0
  Leads f =
      MatchResult f.result (λ start. outcome r ≡ fields font head c (start * 8)) (λ e. r ≡ Err e)
      → LookedUp font c record { result = r; steps = f.steps }

  looked : (s : Search) → s ≡ lookup font c → Leads (search_report c s)
  looked (found at q) e m = brought e (m ∙ ap (λ (h : FontReader). fields font h c (at * 8)) o.read)
  looked (missing q) e m = brought e (ap outcome m)
  looked short e m = brought e (ap outcome m)

  came : {f : Report ℕ} → f ≡ search_report c (lookup font c) → Leads f
  came e = subst Leads (sym e) (looked _ refl)

found_within : (font : List ℕ) (c : ℕ) (s : Search) → s ≡ lookup font c → IfOk (search_report c s).result (λ start. start ≤ length font)
found_within font c (found at q) e = search_within _ _ _ _ (sym e)
found_within font c (missing q) e = tt
found_within font c short e = tt

pub read_glyph-requires : goal.read_glyph-requires
read_glyph-requires c = rw c.search-found.ensures (found_within c.args.font.now.bytes.now c.args.ch _ refl)

pub returns : goal.returns
returns c = came c.args.font.now.opened c.args.ch c.read_glyph.result c.search-found.ensures c.read_glyph.ensures
