-- What the tests of a call on a text leave of it: those of the font, then others, then those of the text and its place, then the
-- last. Assumes nothing.
use Rattle.integers.proofs.Prelude.{◌≡◌, sym, ◌∙◌, true, false, List, [], ◌∷◌, ◌++◌, ℕ}
use Rattle.definitions.specs.Vocabulary.{FontReader}
use Rattle.definitions.specs.Refusals.{success, refused, Cause, unless_refused, any_applies}
use Rattle.definitions.specs.Header.{header, font_causes}
use Rattle.definitions.specs.Calls.{Request, open_font}
use Rattle.definitions.proofs.RefusalLaws.{passed, parts_any}
use Rattle.definitions.proofs.ComesLaws.{comes_on, comes_stopped}
use Rattle.definitions.proofs.OpenedLaws.{passes_font}
use Rattle.checks.specs.Origins.{place_causes}
use Rattle.checks.specs.Setups.{Refuse}

-- The first of them does.
pub refused_at : (c : Cause) (cs : List Cause) → c.applies ≡ true → Refuse (c ∷ cs) c.number 0
refused_at c cs e = sym (comes_on {rest = success (tt {0})} {before = []} {after = []} c cs e).answered

-- Causes that do not apply may come before, and others after.
pub refused_after : (cs ds : List Cause) {n c : ℕ} → any_applies cs ≡ false → Refuse ds n c → Refuse (cs ++ ds) n c
refused_after cs ds off e = passed (success (tt {0})) cs ds off ∙ e

pub refused_before : {A : Type 0} (a : A) (cs ds : List Cause) {n c : ℕ} → unless_refused cs (success a) ≡ refused n c → Refuse (cs ++ ds) n c
refused_before a cs ds e = sym (comes_stopped {rest = success (tt {0})} {before = []} {after = []} a cs ds e).answered

module _ (font : List ℕ) (between : List Cause) (r : Request) (last : List Cause) where
  abbrev causes : List Cause
  causes = font_causes font ++ (between ++ (place_causes r ++ last))

  pub font_refused : {n c : ℕ} → open_font font ≡ refused n c → Refuse causes n c
  unfolding open_font
  font_refused e = refused_before (header font) (font_causes font) (between ++ (place_causes r ++ last)) e

  module _ {head : FontReader} (opens : open_font font ≡ success head) where
    after_font : {n c : ℕ} → Refuse (between ++ (place_causes r ++ last)) n c → Refuse causes n c
    after_font e = refused_after (font_causes font) (between ++ (place_causes r ++ last)) (passes_font font opens) e

    pub between_refused : {n c : ℕ} → Refuse between n c → Refuse causes n c
    between_refused e = after_font (refused_before tt between (place_causes r ++ last) e)

    module _ (fine : any_applies between ≡ false) where
      after_between : {n c : ℕ} → Refuse (place_causes r ++ last) n c → Refuse causes n c
      after_between e = after_font (refused_after between (place_causes r ++ last) fine e)

      pub place_refused : {n c : ℕ} → Refuse (place_causes r) n c → Refuse causes n c
      place_refused e = after_between (refused_before tt (place_causes r) last e)

      module _ (placed : any_applies (place_causes r) ≡ false) where
        pub last_refused : {n c : ℕ} → Refuse last n c → Refuse causes n c
        last_refused e = after_between (refused_after (place_causes r) last placed e)

        pub none_refused : any_applies last ≡ false → any_applies causes ≡ false
        none_refused e =
            parts_any (font_causes font) (between ++ (place_causes r ++ last)) (passes_font font opens)
            (parts_any between (place_causes r ++ last) fine (parts_any (place_causes r) last placed e))
