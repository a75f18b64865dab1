-- A letter refuses a text with 7 or 8 and with its own code point, and never with the number of a cause that is tested before the
-- letters. Assumes nothing.
use Rattle.integers.proofs.Prelude.{◌≡◌, refl, sym, ap, subst, ◌∙◌, Bool, true, false, ◌&&◌, ◌⊎◌, inl, inr, List, [], ◌∷◌, map, ℕ, ◌*◌, eqb, ℤ, ◌+ℤ◌, pos}
use Rattle.integers.specs.Integers.{pick}
use Rattle.integers.proofs.Choices.{impossible}
use Rattle.definitions.specs.Vocabulary.{FontReader, BoundingBox, Point, GlyphReader, HorizontalAlignment}
use Rattle.types.specs.declared.style.HorizontalAlignment.TheVariants.{Left, Center, Right}
use Rattle.definitions.specs.Refusals.{Outcome, success, refused, and_then}
use Rattle.definitions.specs.Header.{header}
use Rattle.definitions.specs.Bits.{Read, got, ends, read_at}
use Rattle.definitions.specs.Lookup.{Search, found, missing, short, search as lookup}
use Rattle.definitions.specs.Glyph.{unless_ends, fields, from_search, glyph}
use Rattle.definitions.specs.Text.{Answer, shows, nothing, stops, answer, Layout, point, dimensions_of, place, letters}
use Rattle.definitions.specs.Text.{Lines, last, first, lines, newline, then_lines, line_by_line, with_offset, moved_line, aligned_line, aligned}
use Rattle.definitions.specs.Runs.{Pixels, pixels, cut}
use Rattle.definitions.specs.Font.{Font, u8g2, with_runs, drawable, measured_answer, drawn_answer}

-- success, or a letter's refusal, which blames the letter for a number
pub data LateAt {A : Type 0} (Blamed : ℕ → ℕ → Type 0) : Outcome A → Type 0 where
  none : {a : A} → LateAt Blamed (success a)
  late : {n c : ℕ} → (n ≡ 7) ⊎ (n ≡ 8) → Blamed n c → LateAt Blamed (refused n c)

-- .. some letter
abbrev pub Late : {A : Type 0} → Outcome A → Type 0
Late o = LateAt (λ n c. Unit {0}) o

-- .. the letter c
abbrev LateFor : {A : Type 0} → ℕ → Outcome A → Type 0
LateFor c o = LateAt (λ n k. k ≡ c) o

late_on : {A B : Type 0} {Blamed : ℕ → ℕ → Type 0} (o : Outcome A) → LateAt Blamed o → (rest : A → Outcome B) → ((a : A) → LateAt Blamed (rest a))
    → LateAt Blamed (and_then o rest)
late_on (success a) h rest k = k a
late_on (refused n c) (late h b) rest k = late h b

-- ---- a glyph

late_field : (font : List ℕ) (c b at : ℕ) (rest : ℕ → Outcome GlyphReader) → ((n : ℕ) → LateFor c (rest n)) → LateFor c (unless_ends c (read_at font at b) rest)
late_field font c b at rest h = by (read_at font at b)
  where
    by : (r : Read) → LateFor c (unless_ends c r rest)
    by (got n) = h n
    by ends = late (inr refl) refl

late_fields : (font : List ℕ) (head : FontReader) (c at : ℕ) → LateFor c (fields font head c at)
unfolding fields
late_fields font head c at =
    late_field font c _ _ _ (λ w.
    late_field font c _ _ _ (λ h.
    late_field font c _ _ _ (λ x.
    late_field font c _ _ _ (λ y.
    late_field font c _ _ _ (λ d. none)))))

late_search : (font : List ℕ) (c : ℕ) (s : Search) → LateFor c (from_search font c s)
late_search font c (found start steps) = late_fields font (header font) c (start * 8)
late_search font c (missing steps) = late (inl refl) refl
late_search font c short = late (inr refl) refl

late_glyph : (font : List ℕ) (c : ℕ) → LateFor c (glyph font c)
unfolding glyph
late_glyph font c = late_search font c (lookup font c)

late_runs : (c : ℕ) (g : GlyphReader) (p : Pixels) → LateFor c (with_runs c g p)
late_runs c g (pixels ps) = none
late_runs c g cut = late (inr refl) refl

late_drawable : (font : Font) (c : ℕ) (o : Outcome GlyphReader) → LateFor c o → LateFor c (drawable font c o)
late_drawable font c o h = late_on o h (λ g. with_runs c g (font.pixels g)) (λ g. late_runs c g (font.pixels g))

-- ---- a text

-- Skipping hides 7 alone.
pub skips_seven : map (answer true) (refused 7 65 ∷ refused 8 65 ∷ []) ≡ nothing ∷ stops 8 65 ∷ []
skips_seven = refl

data LateAnswer (c : ℕ) : Answer → Type 0 where
  goes_on : {g : GlyphReader} → LateAnswer c (shows g)
  skipped : LateAnswer c nothing
  ends_late : {n k : ℕ} → (n ≡ 7) ⊎ (n ≡ 8) → k ≡ c → LateAnswer c (stops n k)

late_answer : (skip : Bool) (c : ℕ) (o : Outcome GlyphReader) → LateFor c o → LateAnswer c (answer skip o)
late_answer skip c (success g) h = goes_on
late_answer skip c (refused n k) (late h b) = by (skip && eqb n 7)
  where
    by : (t : Bool) → LateAnswer c (pick t nothing (stops n k))
    by true = skipped
    by false = ends_late h b

late_measured_answer : (font : List ℕ) (skip : Bool) (c : ℕ) → LateAnswer c (measured_answer (u8g2 font) skip c)
late_measured_answer font skip c = late_answer skip c (glyph font c) (late_glyph font c)

late_drawn_answer : (font : List ℕ) (skip : Bool) (c : ℕ) → LateAnswer c (drawn_answer (u8g2 font) skip c)
late_drawn_answer font skip c =
    late_answer skip c (drawable (u8g2 font) c (glyph font c)) (late_drawable (u8g2 font) c (glyph font c) (late_glyph font c))

-- A letter that stops the text in measuring stops it in drawing.
stops_drawn : (font : Font) (skip : Bool) (c : ℕ) {n k : ℕ} → measured_answer font skip c ≡ stops n k → drawn_answer font skip c ≡ stops n k
stops_drawn font skip c {n} {k} e = by (font.glyph c) e
  where
    by : (o : Outcome GlyphReader) → answer skip o ≡ stops n k → answer skip (drawable font c o) ≡ stops n k
    by (success g) e = impossible cc
    by (refused m j) e = e

blames : {c n k : ℕ} (a : Answer) → LateAnswer c a → a ≡ stops n k → ((n ≡ 7) ⊎ (n ≡ 8)) × (k ≡ c)
blames (shows g) h e = impossible cc
blames nothing h e = impossible cc
blames {c} {n} {k} (stops m j) (ends_late h b) e =
    let same : m ≡ n = cc in
    let at : j ≡ k = cc in
    (subst (λ (i : ℕ). (i ≡ 7) ⊎ (i ≡ 8)) same h, sym at ∙ b)

-- What stops a text, in measuring and in drawing, is the letter that is blamed.
module _ (font : List ℕ) (skip : Bool) (c : ℕ) {n k : ℕ} where
  measured_late : measured_answer (u8g2 font) skip c ≡ stops n k → ((n ≡ 7) ⊎ (n ≡ 8)) × (k ≡ c)
  measured_late e = blames (measured_answer (u8g2 font) skip c) (late_measured_answer font skip c) e

  drawn_late : drawn_answer (u8g2 font) skip c ≡ stops n k → ((n ≡ 7) ⊎ (n ≡ 8)) × (k ≡ c)
  drawn_late e = blames (drawn_answer (u8g2 font) skip c) (late_drawn_answer font skip c) e

  pub measured_blames : measured_answer (u8g2 font) skip c ≡ stops n k → k ≡ c
  measured_blames e = (measured_late e).1

  pub drawn_blames : drawn_answer (u8g2 font) skip c ≡ stops n k → k ≡ c
  drawn_blames e = (drawn_late e).1

-- What is so of each letter that stops is so of what stops the text.
module _ (Blamed : ℕ → ℕ → Type 0) where
  abbrev Heard : (ℕ → Answer) → Type 0
  Heard answers = (c n k : ℕ) → answers c ≡ stops n k → ((n ≡ 7) ⊎ (n ≡ 8)) × Blamed n k

  module _ (answers : ℕ → Answer) (each : Heard answers) (origin : Point) where
    late_place : (c : ℕ) (advance : Point) (a : Answer) → answers c ≡ a → (rest : Point → Layout) → ((next : Point) → LateAt Blamed (rest next).advance)
        → LateAt Blamed (place origin advance a rest).advance
    late_place c advance (shows g) e rest k = k (point _ _)
    late_place c advance nothing e rest k = k advance
    late_place c advance (stops n m) e rest k = let h = each c n m e in late h.0 h.1

    late_letters : (l : List ℕ) (advance : Point) → LateAt Blamed (letters answers origin advance l).advance
    unfolding letters
    late_letters [] advance = none
    late_letters (c ∷ l) advance = late_place c advance (answers c) refl (λ next. letters answers origin next l) (late_letters l)

  late_then : (line : Layout) → LateAt Blamed line.advance → (o : Outcome Point) (rest : Point → Layout) → ((next : Point) → LateAt Blamed (rest next).advance)
      → LateAt Blamed (then_lines line o rest).advance
  late_then line h (success next) rest k = k next
  late_then line h (refused n c) rest k = h

  -- A line that is measured first is stopped by a letter in measuring, or in drawing.
  late_offset : (a : HorizontalAlignment) (line : Layout) (o : Outcome Point) → LateAt Blamed o → (rest : ℤ → Layout) → ((x : ℤ) → LateAt Blamed (rest x).advance)
      → LateAt Blamed (with_offset a line o rest).advance
  late_offset a line (success end) h rest k = k _
  late_offset a line (refused n c) h rest k = h

  module _ (measured answers : ℕ → Answer) (in_measuring : Heard measured) (in_drawing : Heard answers) (line_height : ℕ) (origin : Point) where
    -- as `moved_line` measures it, and as it then draws it
    abbrev alone : List ℕ → Layout
    alone l = letters measured (point (pos 0) (pos 0)) (point (pos 0) (pos 0)) l

    late_moved : (a : HorizontalAlignment) (advance : Point) (l : List ℕ) → LateAt Blamed (moved_line a measured answers origin advance l).advance
    late_moved a advance l =
        late_offset a (alone l) (alone l).advance (late_letters measured in_measuring (point (pos 0) (pos 0)) l (point (pos 0) (pos 0)))
        (λ x. letters answers (point (origin.x +ℤ x) origin.y) advance l)
        (λ x. late_letters answers in_drawing (point (origin.x +ℤ x) origin.y) l advance)

    late_line : (a : HorizontalAlignment) (advance : Point) (l : List ℕ) → LateAt Blamed (aligned_line a measured answers origin advance l).advance
    late_line Left advance l = late_letters answers in_drawing origin l advance
    late_line Center advance l = late_moved Center advance l
    late_line Right advance l = late_moved Right advance l

    late_lines : (a : HorizontalAlignment) (ls : Lines) (advance : Point) → LateAt Blamed (line_by_line (aligned_line a measured answers origin) line_height advance ls).advance
    unfolding line_by_line
    late_lines a (last l) advance = late_line a advance l
    late_lines a (first l ls) advance =
        late_then (aligned_line a measured answers origin advance l) (late_line a advance l) (aligned_line a measured answers origin advance l).advance
        (λ end. line_by_line (aligned_line a measured answers origin) line_height (newline line_height end) ls) (λ end. late_lines a ls (newline line_height end))

module _ (font : List ℕ) (skip : Bool) (line_height : ℕ) (a : HorizontalAlignment) (origin : Point) (cs : List ℕ) where
  abbrev drawn_as : Layout
  drawn_as = aligned (measured_answer (u8g2 font) skip) (drawn_answer (u8g2 font) skip) line_height a origin cs

  -- A drawn text's letters come to no other number.
  pub late_drawn : (b : BoundingBox) → Late (dimensions_of b drawn_as.advance)
  late_drawn b =
      late_on drawn_as.advance
      (late_lines (λ n c. Unit {0}) (measured_answer (u8g2 font) skip) (drawn_answer (u8g2 font) skip)
      (λ c n k e. ((measured_late font skip c e).0, tt)) (λ c n k e. ((drawn_late font skip c e).0, tt)) line_height origin a (lines cs) (point _ _))
      (λ a. success record { advance = a; bounding_box = b })
      (λ a. none)

  -- What refuses a drawn text, in whatever alignment, is the number that its letter stops with in plain drawing.
  pub refused_by : {n c : ℕ} → drawn_as.advance ≡ refused n c → drawn_answer (u8g2 font) skip c ≡ stops n c
  refused_by {n} {c} e =
      by drawn_as.advance e
      (late_lines (λ m k. drawn_answer (u8g2 font) skip k ≡ stops m k) (measured_answer (u8g2 font) skip) (drawn_answer (u8g2 font) skip)
      (λ d m k e. let h = measured_late font skip d e in (h.0, rw h.1 (stops_drawn (u8g2 font) skip d e ∙ ap (stops m) h.1)))
      (λ d m k e. let h = drawn_late font skip d e in (h.0, rw h.1 (e ∙ ap (stops m) h.1)))
      line_height origin a (lines cs) (point _ _))
    where
      by : (o : Outcome Point) → o ≡ refused n c → LateAt (λ m k. drawn_answer (u8g2 font) skip k ≡ stops m k) o → drawn_answer (u8g2 font) skip c ≡ stops n c
      by (success p) e h = impossible cc
      by (refused m k) e (late i h) =
          let same : m ≡ n = cc in
          let at : k ≡ c = cc in
          rw (sym same, sym at) h
