-- Letters that answer alike are laid out alike, whatever other code points answer. Assumes nothing.
use Rattle.integers.proofs.Prelude.{◌≡◌, refl, Bool, true, false, List, [], ◌∷◌, ℕ, ℤ, pos, ◌+ℤ◌, eqb}
use Rattle.integers.specs.Integers.{pick}
use Rattle.definitions.specs.Vocabulary.{Point, HorizontalAlignment}
use Rattle.types.specs.declared.style.HorizontalAlignment.TheVariants.{Left, Center, Right}
use Rattle.definitions.specs.Refusals.{Outcome, success, refused}
use Rattle.definitions.specs.Text.{Answer, shows, nothing, stops, Layout, Lines, last, first, to_first, point, place, letters, lines}
use Rattle.definitions.specs.Text.{newline, then_lines, join_all, line_by_line, horizontal_offset, with_offset, moved_line, aligned_line, aligned}
use Rattle.definitions.proofs.TextLaws.{Each, each_map}

-- ---- what comes after a letter, after a line, and after a line's offset is known

pub after_letter : (origin advance : Point) (a : Answer) {rest rest' : Point → Layout} → ((next : Point) → rest next ≡ rest' next)
    → place origin advance a rest ≡ place origin advance a rest'
after_letter origin advance (shows g) same = rw (same (point (advance.x +ℤ g.advance) advance.y))
after_letter origin advance nothing same = same advance
after_letter origin advance (stops n c) same = refl

pub after_line : (line : Layout) (o : Outcome Point) {rest rest' : Point → Layout} → ((end : Point) → rest end ≡ rest' end)
    → then_lines line o rest ≡ then_lines line o rest'
after_line line (success end) same = rw (same end)
after_line line (refused n c) same = refl

pub after_offset : (a : HorizontalAlignment) (line : Layout) (o : Outcome Point) {rest rest' : ℤ → Layout} → ((x : ℤ) → rest x ≡ rest' x)
    → with_offset a line o rest ≡ with_offset a line o rest'
after_offset a line (success end) same = same (horizontal_offset a (join_all line.glyphs) end.x)
after_offset a line (refused n c) same = refl

-- ---- what is so of each line

abbrev EachLine : (List ℕ → Type 0) → Lines → Type 0
EachLine P (last l) = P l
EachLine P (first l ls) = P l × EachLine P ls

-- What is so of each code point but newlines is so of each letter of the lines.
module _ (P : ℕ → Type 0) where
  to_first_lem : (c : ℕ) → P c → (ls : Lines) → EachLine (Each P) ls → EachLine (Each P) (to_first c ls)
  to_first_lem c p (last l) h = (p, h)
  to_first_lem c p (first l ls) h = ((p, h.0), h.1)

  of_lines : (cs : List ℕ) → Each (λ c. eqb c 10 ≡ false → P c) cs → EachLine (Each P) (lines cs)
  unfolding lines
  of_lines [] h = tt
  of_lines (c ∷ cs) h = by (of_lines cs h.1) (eqb c 10) refl
    where
      by : EachLine (Each P) (lines cs) → (t : Bool) → eqb c 10 ≡ t → EachLine (Each P) (pick t (first [] (lines cs)) (to_first c (lines cs)))
      by rest true e = (tt, rest)
      by rest false e = to_first_lem c (h.0 e) (lines cs) rest

-- ---- lines that come to the same

module _ (line line' : Point → List ℕ → Layout) (P : List ℕ → Type 0) (same : (l : List ℕ) → P l → (advance : Point) → line advance l ≡ line' advance l)
    (line_height : ℕ) where
  lines_alike : (ls : Lines) → EachLine P ls → (advance : Point) → line_by_line line line_height advance ls ≡ line_by_line line' line_height advance ls
  unfolding line_by_line
  lines_alike (last l) h advance = same l h advance
  lines_alike (first l ls) h advance =
      rw (same l h.0 advance)
      (after_line (line' advance l) (line' advance l).advance (λ end. lines_alike ls h.1 (newline line_height end)))

-- ---- letters that answer alike

letters_alike : (f g : ℕ → Answer) (origin : Point) (l : List ℕ) → Each (λ c. f c ≡ g c) l
    → (advance : Point) → letters f origin advance l ≡ letters g origin advance l
unfolding letters
letters_alike f g origin [] h advance = refl
letters_alike f g origin (c ∷ l) h advance = rw h.0 (after_letter origin advance (g c) (letters_alike f g origin l h.1))

module _ (measured answers measured' answers' : ℕ → Answer) where
  abbrev pub Alike : ℕ → Type 0
  Alike c = (measured c ≡ measured' c) × (answers c ≡ answers' c)

  module _ (origin : Point) where
    -- The line is measured alike, so it is moved alike.
    moved_alike : (a : HorizontalAlignment) (l : List ℕ) → Each Alike l → (advance : Point)
        → moved_line a measured answers origin advance l ≡ moved_line a measured' answers' origin advance l
    moved_alike a l h advance =
        let start = point (pos 0) (pos 0) in
        let line = letters measured' start start l in
        rw (letters_alike measured measured' start l (each_map Alike (λ c. measured c ≡ measured' c) (λ c k. k.0) l h) start)
        (after_offset a line line.advance
        (λ x. letters_alike answers answers' _ l (each_map Alike (λ c. answers c ≡ answers' c) (λ c k. k.1) l h) advance))

    line_alike : (a : HorizontalAlignment) (l : List ℕ) → Each Alike l → (advance : Point)
        → aligned_line a measured answers origin advance l ≡ aligned_line a measured' answers' origin advance l
    line_alike Left l h advance = letters_alike answers answers' origin l (each_map Alike (λ c. answers c ≡ answers' c) (λ c k. k.1) l h) advance
    line_alike Center l h advance = moved_alike Center l h advance
    line_alike Right l h advance = moved_alike Right l h advance

    pub aligned_alike : (line_height : ℕ) (a : HorizontalAlignment) (cs : List ℕ) → Each (λ c. eqb c 10 ≡ false → Alike c) cs
        → aligned measured answers line_height a origin cs ≡ aligned measured' answers' line_height a origin cs
    aligned_alike line_height a cs h =
        lines_alike (aligned_line a measured answers origin) (aligned_line a measured' answers' origin) (Each Alike) (line_alike a) line_height
        (lines cs) (of_lines Alike cs h) (point (pos 0) (pos 0))
