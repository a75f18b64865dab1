-- A name padded with U+0000 (request A3): where unknown characters are skipped and the font has no glyph for U+0000, every call comes to
-- what it comes to without the padding, and leaves the same framebuffer. Assumes nothing.
use Rattle.integers.proofs.Prelude.{◌≡◌, refl, ap, ◌∙◌, Bool, true, false, List, [], ◌∷◌, ◌++◌, append_assoc, ℕ, zero, suc, ◌+◌, ◌≤◌, arith, inl}
use Rattle.integers.proofs.Prelude.{pos, eqb, length, replicate, length-append, length-replicate, le-ltb}
use Rattle.integers.specs.Integers.{pick, signed8}
use Rattle.definitions.specs.Vocabulary.{Point, Framebuffer, FontColor, HorizontalAlignment}
use Rattle.types.specs.declared.style.HorizontalAlignment.TheVariants.{Left, Center, Right}
use Rattle.definitions.specs.Refusals.{refused}
use Rattle.definitions.specs.Header.{header, header_off}
use Rattle.definitions.specs.Lookup.{record8, chain, search}
use Rattle.definitions.specs.Glyph.{glyph}
use Rattle.definitions.specs.Utf8.{characters, prepend, decode_from, decode, is_utf8, code_points, newlines, encode, encode_all, Scalars, nil, cons}
use Rattle.definitions.specs.Text.{Answer, nothing, Layout, Lines, last, first, to_first, point, letters, lines, newline, line_by_line, moved_line, aligned_line, aligned}
use Rattle.definitions.specs.Limits.{text_cause}
use Rattle.definitions.specs.Font.{Font, u8g2, measured_answer, drawn_answer}
use Rattle.definitions.specs.Calls.{Request, code_points_of, origin, laid, measured_text, drawn_text, measure, measure_aligned, draw, draw_buffer, draw_aligned}
use Rattle.definitions.specs.FontT.{T}
use Rattle.definitions.proofs.Utf8Laws.{utf8_characters, decode_encode, decoded, newlines_append}
use Rattle.definitions.proofs.AlikeLaws.{after_letter, after_line, after_offset}

-- ---- letters behind a text that show nothing

-- the lines of a text with more behind it
abbrev behind : List ℕ → Lines → Lines
behind ds (last l) = last (l ++ ds)
behind ds (first l ls) = first l (behind ds ls)

module _ (ds : List ℕ) (line : lines ds ≡ last ds) where
  to_first_behind : (c : ℕ) (ls : Lines) → to_first c (behind ds ls) ≡ behind ds (to_first c ls)
  to_first_behind c (last l) = refl
  to_first_behind c (first l ls) = refl

  lines_behind : (cs : List ℕ) → lines (cs ++ ds) ≡ behind ds (lines cs)
  unfolding lines
  lines_behind [] = line
  lines_behind (c ∷ cs) = rw (lines_behind cs) (by (eqb c 10))
    where
      by : (t : Bool) → pick t (first [] (behind ds (lines cs))) (to_first c (behind ds (lines cs))) ≡ behind ds (pick t (first [] (lines cs)) (to_first c (lines cs)))
      by true = refl
      by false = to_first_behind c (lines cs)

  module _ (each : Point → List ℕ → Layout) (same : (l : List ℕ) (advance : Point) → each advance (l ++ ds) ≡ each advance l) (line_height : ℕ) where
    by_line_behind : (ls : Lines) (advance : Point) → line_by_line each line_height advance (behind ds ls) ≡ line_by_line each line_height advance ls
    unfolding line_by_line
    by_line_behind (last l) advance = same l advance
    by_line_behind (first l ls) advance =
        after_line (each advance l) (each advance l).advance (λ end. by_line_behind ls (newline line_height end))

-- ---- zeros behind a text

letters_zeros : (f : ℕ → Answer) → f 0 ≡ nothing → (at : Point) (n : ℕ) (l : List ℕ) (advance : Point)
    → letters f at advance (l ++ replicate n 0) ≡ letters f at advance l
unfolding letters
letters_zeros f h at zero [] advance = refl
letters_zeros f h at (suc n) [] advance = rw h (letters_zeros f h at n [] advance)
letters_zeros f h at n (c ∷ l) advance = after_letter at advance (f c) (letters_zeros f h at n l)

lines_zeros : (n : ℕ) → lines (replicate n 0) ≡ last (replicate n 0)
unfolding lines
lines_zeros zero = refl
lines_zeros (suc n) = rw (lines_zeros n)

newlines_zeros : (n : ℕ) → newlines (replicate n 0) ≡ 0
unfolding newlines
newlines_zeros zero = refl
newlines_zeros (suc n) = omega (arith, newlines_zeros n)

module _ (measured answers : ℕ → Answer) (m : measured 0 ≡ nothing) (d : answers 0 ≡ nothing) (at : Point) (n : ℕ) where
  moved_zeros : (a : HorizontalAlignment) (l : List ℕ) (advance : Point)
      → moved_line a measured answers at advance (l ++ replicate n 0) ≡ moved_line a measured answers at advance l
  moved_zeros a l advance =
      let start = point (pos 0) (pos 0) in
      let line = letters measured start start l in
      rw (letters_zeros measured m start n l start) (after_offset a line line.advance (λ x. letters_zeros answers d _ n l advance))

  line_zeros : (a : HorizontalAlignment) (l : List ℕ) (advance : Point)
      → aligned_line a measured answers at advance (l ++ replicate n 0) ≡ aligned_line a measured answers at advance l
  line_zeros Left l advance = letters_zeros answers d at n l advance
  line_zeros Center l advance = moved_zeros Center l advance
  line_zeros Right l advance = moved_zeros Right l advance

  aligned_zeros : (line_height : ℕ) (a : HorizontalAlignment) (cs : List ℕ)
      → aligned measured answers line_height a at (cs ++ replicate n 0) ≡ aligned measured answers line_height a at cs
  aligned_zeros line_height a cs =
      rw (lines_behind (replicate n 0) (lines_zeros n) cs)
      (by_line_behind (replicate n 0) (lines_zeros n) (aligned_line a measured answers at) (line_zeros a) line_height (lines cs) (point (pos 0) (pos 0)))

-- ---- zero bytes behind a text are zeros behind its code points

decode_zeros : (n : ℕ) → decode (replicate n 0) ≡ characters (replicate n 0)
unfolding decode_from encode
decode_zeros zero = refl
decode_zeros (suc n) = decode_encode 0 (replicate n 0) (inl (omega arith)) ∙ ap (prepend 0) (decode_zeros n)

decode_padded : {cs : List ℕ} (n : ℕ) → Scalars cs → decode (encode_all cs ++ replicate n 0) ≡ characters (cs ++ replicate n 0)
unfolding encode_all
decode_padded n nil = decode_zeros n
decode_padded n (cons {c} {cs} h hs) =
    rw (append_assoc (encode c) (encode_all cs) (replicate n 0)) (decode_encode c (encode_all cs ++ replicate n 0) h ∙ ap (prepend c) (decode_padded n hs))

-- ---- the calls

abbrev pub padded : ℕ → Request → Request
padded n r = record {
  text = r.text ++ replicate n 0;
  position = r.position;
  anchor = r.anchor;
  align = r.align;
  line_height = r.line_height;
  skip = r.skip;
}

-- The padded text is one that a call takes.
module _ (r : Request) (n : ℕ) (utf8 : is_utf8 (decode r.text) ≡ true) (fits : length r.text + n ≤ 4096) where
  decoded_padded : decode (r.text ++ replicate n 0) ≡ characters (code_points_of r.text ++ replicate n 0)
  decoded_padded =
      let d = decoded r.text (utf8_characters (decode r.text) utf8) in
      ap (λ (t : List ℕ). decode (t ++ replicate n 0)) d.0 ∙ decode_padded n d.1

  code_points_lem : code_points_of (r.text ++ replicate n 0) ≡ code_points_of r.text ++ replicate n 0
  code_points_lem = ap code_points decoded_padded

  same_cause : text_cause (r.text ++ replicate n 0) ≡ text_cause r.text
  same_cause =
      let long = le-ltb 4096 (length (r.text ++ replicate n 0)) (omega (arith, length-append r.text (replicate n 0), length-replicate {A = ℕ} n 0)) in
      let short = le-ltb 4096 (length r.text) (omega arith) in
      rw (long, short, decoded_padded, utf8)

  -- Unknown characters are skipped, and U+0000 is one.
  module _ (f : Font) (skips : r.skip ≡ true) (unknown : f.glyph 0 ≡ refused 7 0) where
    same_origin : origin f (padded n r) ≡ origin f r
    same_origin =
        let e : newlines (code_points_of r.text ++ replicate n 0) ≡ newlines (code_points_of r.text) =
        omega (arith, newlines_append (code_points_of r.text) (replicate n 0), newlines_zeros n) in
        rw (code_points_lem, e)

    same_laid : (measured answers : ℕ → Answer) → measured 0 ≡ nothing → answers 0 ≡ nothing → laid f (padded n r) measured answers ≡ laid f r measured answers
    same_laid measured answers m d =
        rw (same_origin, code_points_lem) (aligned_zeros measured answers m d (origin f r) n r.line_height r.align (code_points_of r.text))

    skipped_measured : measured_answer f r.skip 0 ≡ nothing
    skipped_measured = rw (skips, unknown)

    skipped_drawn : drawn_answer f r.skip 0 ≡ nothing
    skipped_drawn = rw (skips, unknown)

    same_measured : measured_text f (padded n r) ≡ measured_text f r
    same_measured = same_laid (measured_answer f r.skip) (measured_answer f r.skip) skipped_measured skipped_measured

    same_drawn : drawn_text f (padded n r) ≡ drawn_text f r
    same_drawn = same_laid (measured_answer f r.skip) (drawn_answer f r.skip) skipped_measured skipped_drawn

    pub padded_measures : measure f (padded n r) ≡ measure f r
    unfolding measure
    padded_measures = rw (same_cause, same_measured)

    pub padded_measures_aligned : measure_aligned f (padded n r) ≡ measure_aligned f r
    unfolding measure_aligned
    padded_measures_aligned = rw (same_cause, same_measured)

    module _ (color : FontColor) (p : Framebuffer) (buffer : List ℕ) where
      pub padded_draws : draw f (padded n r) color p buffer ≡ draw f r color p buffer
      unfolding draw
      padded_draws = rw (same_cause, same_drawn)

      pub padded_draws_aligned : draw_aligned f (padded n r) color p buffer ≡ draw_aligned f r color p buffer
      unfolding draw_aligned
      padded_draws_aligned = rw (same_cause, same_drawn)

      pub padded_buffer : draw_buffer f (padded n r) color p buffer ≡ draw_buffer f r color p buffer
      unfolding draw_buffer
      padded_buffer = rw (same_cause, same_drawn)

-- U+0000 is unknown in T, so a padded name is the name there.
pub padded_in_t : (r : Request) (n : ℕ) → is_utf8 (decode r.text) ≡ true → length r.text + n ≤ 4096 → r.skip ≡ true
    → measure (u8g2 T) (padded n r) ≡ measure (u8g2 T) r
unfolding T header header_off signed8 glyph search record8 chain
padded_in_t r n utf8 fits skips = padded_measures r n utf8 fits (u8g2 T) skips refl
