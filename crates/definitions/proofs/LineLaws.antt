-- What the end of a line tells of its letters; and lines one after the other, counted and shown as a loop goes. Assumes nothing.
use Rattle.integers.proofs.Prelude.{◌≡◌, refl, sym, ap, subst, ◌∙◌, Bool, true, false, ◌⊎◌, inl, inr, List, [], ◌∷◌, ◌++◌, ℕ, eqb, pos, ◌+ℤ◌}
use Rattle.integers.proofs.Choices.{impossible}
use Rattle.definitions.specs.Vocabulary.{Point, RenderedDimensions, GlyphReader, FontColor, HorizontalAlignment, Framebuffer}
use Rattle.definitions.specs.Refusals.{Outcome, success, refused}
use Rattle.definitions.specs.Geometry.{join}
use Rattle.definitions.specs.Runs.{Pixels, pixels, cut}
use Rattle.definitions.specs.Text.{Answer, shows, nothing, stops, answer, Placed, box_of, join_all, Layout, point, place, letters, Lines, last, first, newline, line_by_line}
use Rattle.definitions.specs.Text.{horizontal_offset, with_offset, moved_line}
use Rattle.definitions.specs.Font.{Font, measured_answer, with_runs, drawable, drawn_answer}
use Rattle.definitions.specs.Picture.{box_picture, text_picture}
use Rattle.definitions.specs.Framebuffer.{shown}
use Rattle.definitions.proofs.JoinLaws.{join_assoc}
use Rattle.definitions.proofs.FramebufferLaws.{shown_shown, shown_blank}
use Rattle.definitions.proofs.TextLaws.{join_append, dimensions_from, Each}

-- ---- letters

-- a letter after which the line goes on
abbrev pub Passes : (ℕ → Answer) → ℕ → Type 0
Passes answers c = (n k : ℕ) → answers c ≡ stops n k → ⊥

-- The letters before the one that stopped the line, and that one: it blames k.
pub record StoppedAt (answers : ℕ → Answer) (l : List ℕ) (n k : ℕ) : Type 0 where
  pub read : List ℕ
  pub letter : ℕ
  pub rest : List ℕ
  pub is : l ≡ read ++ letter ∷ rest
  pub stops_there : answers letter ≡ stops n k
  pub passed : Each (Passes answers) read

module _ (answers : ℕ → Answer) (origin : Point) where
  -- Letters leave the line's height.
  level_place : (l : List ℕ) → ((advance end : Point) → (letters answers origin advance l).advance ≡ success end → end.y ≡ advance.y)
      → (a : Answer) (advance end : Point) → (place origin advance a (λ next. letters answers origin next l)).advance ≡ success end → end.y ≡ advance.y
  level_place l rest (shows g) advance end e = rest (point (advance.x +ℤ g.advance) advance.y) end e
  level_place l rest nothing advance end e = rest advance end e
  level_place l rest (stops n c) advance end e = impossible cc

  pub letters_level : (l : List ℕ) (advance end : Point) → (letters answers origin advance l).advance ≡ success end → end.y ≡ advance.y
  unfolding letters
  letters_level [] advance end e = let same : advance ≡ end = cc in ap (λ (p : Point). p.y) (sym same)
  letters_level (c ∷ l) advance end e = level_place l (letters_level l) (answers c) advance end e

  -- Where they succeed, each of them passes ..
  passes_place : (c : ℕ) (l : List ℕ) → ((advance end : Point) → (letters answers origin advance l).advance ≡ success end → Each (Passes answers) l)
      → (a : Answer) → answers c ≡ a → (advance end : Point) → (place origin advance a (λ next. letters answers origin next l)).advance ≡ success end
      → Each (Passes answers) (c ∷ l)
  passes_place c l rest (shows g) k advance end e = ((λ n m s. impossible cc), rest (point (advance.x +ℤ g.advance) advance.y) end e)
  passes_place c l rest nothing k advance end e = ((λ n m s. impossible cc), rest advance end e)
  passes_place c l rest (stops n m) k advance end e = impossible cc

  pub letters_pass : (l : List ℕ) (advance end : Point) → (letters answers origin advance l).advance ≡ success end → Each (Passes answers) l
  unfolding letters
  letters_pass [] advance end e = tt
  letters_pass (c ∷ l) advance end e = passes_place c l (letters_pass l) (answers c) refl advance end e

  -- .. and else one of them stops the line.
  further : {n k c : ℕ} {l : List ℕ} → Passes answers c → StoppedAt answers l n k → StoppedAt answers (c ∷ l) n k
  further {n} {k} {c} p s = record {
    read = c ∷ s.read;
    letter = s.letter;
    rest = s.rest;
    is = ap (λ (l : List ℕ). c ∷ l) s.is;
    stops_there = s.stops_there;
    passed = (p, s.passed);
  }

  stops_place : {n k : ℕ} (c : ℕ) (l : List ℕ) → ((advance : Point) → (letters answers origin advance l).advance ≡ refused n k → StoppedAt answers l n k)
      → (a : Answer) → answers c ≡ a → (advance : Point) → (place origin advance a (λ next. letters answers origin next l)).advance ≡ refused n k
      → StoppedAt answers (c ∷ l) n k
  stops_place c l rest (shows g) h advance e = further (λ m j s. impossible cc) (rest (point (advance.x +ℤ g.advance) advance.y) e)
  stops_place c l rest nothing h advance e = further (λ m j s. impossible cc) (rest advance e)
  stops_place {n} {k} c l rest (stops m j) h advance e =
      let number : m ≡ n = cc in
      let blamed : j ≡ k = cc in
      record { read = []; letter = c; rest = l; is = refl; stops_there = rw (sym number, sym blamed) h; passed = tt }

  pub letters_stop : (l : List ℕ) {n k : ℕ} (advance : Point) → (letters answers origin advance l).advance ≡ refused n k → StoppedAt answers l n k
  unfolding letters
  letters_stop [] advance e = impossible cc
  letters_stop (c ∷ l) advance e = stops_place c l (letters_stop l) (answers c) refl advance e

-- ---- a line that is measured, and then drawn

-- where the lines of an aligned text are measured from
abbrev start : Point
start = point (pos 0) (pos 0)

each_at : (P : ℕ → Type 0) (xs : List ℕ) (c : ℕ) (ys : List ℕ) → Each P (xs ++ c ∷ ys) → P c
each_at P [] c ys h = h.0
each_at P (x ∷ xs) c ys h = each_at P xs c ys h.1

module _ (font : Font) (skip : Bool) where
  abbrev measured : ℕ → Answer
  measured = measured_answer font skip

  abbrev drawn : ℕ → Answer
  drawn = drawn_answer font skip

  -- What stops in drawing stops in measuring, but for runs that are cut off.
  stop_or_cut : (c : ℕ) {n k : ℕ} → drawn c ≡ stops n k → (measured c ≡ stops n k) ⊎ (n ≡ 8)
  stop_or_cut c {n} {k} e = by (font.glyph c) e
    where
      runs : (g : GlyphReader) (p : Pixels) (s : Bool) → answer s (with_runs c g p) ≡ stops n k → n ≡ 8
      runs g (pixels ps) s e = impossible cc
      runs g cut true e = cc
      runs g cut false e = cc

      by : (o : Outcome GlyphReader) → answer skip (drawable font c o) ≡ stops n k → (answer skip o ≡ stops n k) ⊎ (n ≡ 8)
      by (success g) e = inr (runs g (font.pixels g) skip e)
      by (refused m j) e = inl e

  -- So a line that was measured is stopped by 8 alone.
  pub drawn_eight : (l : List ℕ) (there here end from : Point) {n k : ℕ} → (letters measured here from l).advance ≡ success end
      → (advance : Point) → (letters drawn there advance l).advance ≡ refused n k → n ≡ 8
  drawn_eight l there here end from {n} {k} m advance e = by (letters_stop drawn there l advance e)
    where
      by : StoppedAt drawn l n k → n ≡ 8
      by s = go (stop_or_cut s.letter s.stops_there)
        where
          passed : Passes measured s.letter
          passed = each_at (Passes measured) s.read s.letter s.rest (subst (Each (Passes measured)) s.is (letters_pass measured here l from end m))

          go : (measured s.letter ≡ stops n k) ⊎ (n ≡ 8) → n ≡ 8
          go (inl h) = absurd (passed n k h)
          go (inr h) = h

  module _ (a : HorizontalAlignment) (origin advance : Point) (l : List ℕ) where
    abbrev line : Layout
    line = letters measured start start l

    abbrev moved : Outcome Point → Layout
    moved o = with_offset a line o (λ x. letters drawn (point (origin.x +ℤ x) origin.y) advance l)

    abbrev there : Point → Point
    there end = point (origin.x +ℤ horizontal_offset a (join_all line.glyphs) end.x) origin.y

    -- it is drawn if it is measured
    pub moved_passes : (end : Point) → (moved_line a measured drawn origin advance l).advance ≡ success end → Each (Passes measured) l
    moved_passes end e = by line.advance refl e
      where
        by : (o : Outcome Point) → line.advance ≡ o → (moved o).advance ≡ success end → Each (Passes measured) l
        by (success to) m e = letters_pass measured start l start to m
        by (refused n k) m e = impossible cc

    pub moved_level : (end : Point) → (moved_line a measured drawn origin advance l).advance ≡ success end → end.y ≡ advance.y
    moved_level end e = by line.advance e
      where
        by : (o : Outcome Point) → (moved o).advance ≡ success end → end.y ≡ advance.y
        by (success to) e = letters_level drawn (there to) l advance end e
        by (refused n k) e = impossible cc

    -- 7 is met in measuring
    pub moved_stops : {n k : ℕ} → (moved_line a measured drawn origin advance l).advance ≡ refused n k → eqb n 7 ≡ true → StoppedAt measured l n k
    moved_stops {n} {k} e seven = by line.advance refl e
      where
        by : (o : Outcome Point) → line.advance ≡ o → (moved o).advance ≡ refused n k → StoppedAt measured l n k
        by (success to) m e =
            let eight : n ≡ 8 = drawn_eight l (there to) start to start m advance e in
            let not : eqb 8 7 ≡ true = subst (λ (i : ℕ). eqb i 7 ≡ true) eight seven in
            impossible cc
        by (refused j i) m e =
            let number : j ≡ n = cc in
            let blamed : i ≡ k = cc in
            letters_stop measured start l start (m ∙ rw (number, blamed))

-- ---- lines one after the other

module _ (p : Framebuffer) (color : FontColor) (pixels_of : GlyphReader → List ℕ) where
  abbrev pub painted : List Placed → List ℕ → List ℕ
  painted ps buffer = shown p (text_picture color pixels_of ps) buffer

  pub painted_append : (ps qs : List Placed) (buffer : List ℕ) → painted (ps ++ qs) buffer ≡ painted qs (painted ps buffer)
  unfolding text_picture
  painted_append [] qs buffer = ap (painted qs) (sym (shown_blank p buffer))
  painted_append (g ∷ ps) qs buffer =
      let box = box_picture color (pixels_of g.glyph) (box_of g) in
      sym (shown_shown p (text_picture color pixels_of (ps ++ qs)) box buffer)
      ∙ painted_append ps qs (shown p box buffer)
      ∙ ap (painted qs) (shown_shown p (text_picture color pixels_of ps) box buffer)

  module _ (line : Point → List ℕ → Layout) (line_height : ℕ) where
    -- what lines come to from the dimensions so far on, and what they leave
    abbrev pub counted_from : RenderedDimensions → Lines → Outcome RenderedDimensions
    counted_from d ls = dimensions_from d.bounding_box (line_by_line line line_height d.advance ls)

    abbrev pub painted_from : RenderedDimensions → Lines → List ℕ → List ℕ
    painted_from d ls buffer = painted (line_by_line line line_height d.advance ls).glyphs buffer

    module _ (d : RenderedDimensions) (l : List ℕ) where
      abbrev done : Layout
      done = line d.advance l

      -- after a line, with another to come
      abbrev pub below : Point → RenderedDimensions
      below end = record { advance = newline line_height end; bounding_box = join d.bounding_box (join_all done.glyphs) }

      pub counted_on : (ls : Lines) {end : Point} → done.advance ≡ success end → counted_from d (first l ls) ≡ counted_from (below end) ls
      unfolding line_by_line
      counted_on ls e = rw e (rw (join_append, join_assoc))

      pub painted_on : (ls : Lines) {end : Point} → done.advance ≡ success end → (buffer : List ℕ)
          → painted_from d (first l ls) buffer ≡ painted_from (below end) ls (painted done.glyphs buffer)
      unfolding line_by_line
      painted_on ls {end} e buffer = rw e (painted_append done.glyphs (line_by_line line line_height (newline line_height end) ls).glyphs buffer)

      -- a line that is stopped is the last
      pub stopped_first : (ls : Lines) {n k : ℕ} → done.advance ≡ refused n k → line_by_line line line_height d.advance (first l ls) ≡ done
      unfolding line_by_line
      stopped_first ls e = rw e

      pub is_last : line_by_line line line_height d.advance (last l) ≡ done
      unfolding line_by_line
      is_last = refl
