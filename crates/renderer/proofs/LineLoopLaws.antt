-- The loop over a text's lines: what holds where a line begins, and what the line makes of it. Assumes nothing.
use Rattle.integers.proofs.Prelude.{◌≡◌, refl, sym, ap, subst, ◌∙◌, Bool, true, false, List, [], ◌∷◌, ◌++◌, append_assoc, ℕ, ◌+◌, ◌*◌, ◌≤◌, arith, eqb, pos, ◌+ℤ◌, ◌≤ℤ◌}
use Rattle.integers.proofs.Prelude.{zero, suc, length, drop, length-append, take-append-drop}
use Rattle.integers.proofs.Laws.{zarith, plus}
use Rattle.integers.specs.Integers.{pick}
use Rattle.integers.proofs.Choices.{impossible}
use Rattle.definitions.specs.Vocabulary.{Framebuffer, Point, RenderedDimensions, LookupSteps, HorizontalAlignment, Report}
use Rattle.types.specs.declared.style.HorizontalAlignment.TheVariants.{Left, Center, Right}
use Rattle.definitions.specs.Refusals.{Outcome, success, refused, outcome}
use Rattle.definitions.specs.Lookup.{no_steps}
use Rattle.definitions.specs.Geometry.{join}
use Rattle.definitions.specs.Utf8.{characters, decode, code_points, is_utf8, newlines}
use Rattle.definitions.specs.Text.{Answer, stops, Layout, join_all, point, dimensions_of, dimensions, Lines, lines, newline, line_by_line}
use Rattle.definitions.specs.TextSteps.{newline_step, start}
use Rattle.definitions.specs.Font.{u8g2, pixels_of}
use Rattle.definitions.specs.Picture.{text_picture}
use Rattle.definitions.specs.Framebuffer.{BufferFits}
use Rattle.definitions.specs.Calls.{code_points_of}
use Rattle.definitions.specs.Sums.{plus_steps, total, up_to, counted, sums, Fits32}
use Rattle.definitions.proofs.Agreement.{dimensions_success}
use Rattle.definitions.proofs.FramebufferLaws.{length_shown}
use Rattle.definitions.proofs.LetterRefusals.{measured_blames}
use Rattle.definitions.proofs.LineLaws.{Passes, StoppedAt, moved_passes, moved_level, moved_stops, painted, below, counted_on, painted_on, stopped_first, is_last}
use Rattle.definitions.proofs.SumsLaws.{total_append, total_newline, up_to_first, total_fits, counted_shorter}
use Rattle.definitions.proofs.TextLaws.{dimensions_from, lines_last, Each, each_append}
use Rattle.definitions.proofs.Utf8Laws.{character_count, newlines_decoded}
use Rattle.checks.specs.Origins.{Checked}
use Rattle.checks.proofs.OriginLaws.{as_line}
use Rattle.layout.specs.Ranges.{Near, Within}
use Rattle.layout.proofs.LoopLaws.{reached_start}
use Rattle.layout.proofs.MeasureLaws.{checked_characters, within_start}
use Rattle.layout.proofs.SumLoopLaws.{GoesOn, Summed, summed_start}
use Rattle.renderer.specs.declared.letters.Context.{Context}
use Rattle.renderer.specs.declared.lines.LineSetting.{LineSetting}
use Rattle.renderer.specs.Lines.{line_of, rest_of}
use Rattle.renderer.specs.Texts.{measured_by, line_laid, DrawableLine, LineDrawn, Moves, laid_with, TextDrawn}
use Rattle.renderer.proofs.FirstLineLaws.{line_level, line_whole, Split, split, line_short, line_taken, line_decoded, rest_decoded}

go_on : (answers : ℕ → Answer) (cs : List ℕ) → Each (Passes answers) cs → Each (GoesOn answers) cs
go_on answers [] h = tt
go_on answers (c ∷ cs) h = ((λ n k e. h.0 n k e.1), go_on answers cs h.1)

apart : (bs cs ds : List ℕ) → (bs ++ (cs ++ 10 ∷ [])) ++ ds ≡ bs ++ (cs ++ 10 ∷ ds)
apart bs cs ds = append_assoc bs (cs ++ 10 ∷ []) ds ∙ ap (λ (l : List ℕ). bs ++ l) (append_assoc cs (10 ∷ []) ds)

-- a letter of a line is no newline
no_newline : (cs : List ℕ) (c : ℕ) (ds : List ℕ) → newlines (cs ++ c ∷ ds) ≡ 0 → eqb c 10 ≡ false
unfolding newlines
no_newline [] c ds e = by (eqb c 10) e
  where
    by : (t : Bool) → pick t 1 0 + newlines ds ≡ 0 → t ≡ false
    by true e = absurd (omega arith)
    by false e = refl
no_newline (d ∷ cs) c ds e = no_newline cs c ds (omega (arith, e))

-- what stops a line is none of the letters that were passed
module _ (answers : ℕ → Answer) {n k : ℕ} (stop : answers k ≡ stops n k) where
  not_read : eqb k 10 ≡ false → (cs : List ℕ) → Each (GoesOn answers) cs → Each (λ d. d ≡ k → ⊥) cs
  not_read letter [] h = tt
  not_read letter (c ∷ cs) h = ((λ e. h.0 n k (rw e (letter, stop))), not_read letter cs h.1)

  not_passed : (cs : List ℕ) → Each (Passes answers) cs → Each (λ d. d ≡ k → ⊥) cs
  not_passed [] h = tt
  not_passed (c ∷ cs) h = ((λ e. h.0 n k (rw e stop)), not_passed cs h.1)

module _ (font text before : List ℕ) (s : LineSetting) (context : Context) where
  abbrev line_height : ℕ
  line_height = s.pen.line_height

  abbrev line : Point → List ℕ → Layout
  line = line_laid font s.horizontal_align s.pen

  -- what code points come to from the dimensions so far on, and what they leave
  abbrev from : RenderedDimensions → List ℕ → Layout
  from d cs = line_by_line line line_height d.advance (lines cs)

  abbrev counts : RenderedDimensions → List ℕ → Outcome RenderedDimensions
  counts d cs = dimensions_from d.bounding_box (from d cs)

  abbrev shows : Layout → List ℕ → List ℕ
  shows l buffer = painted context.framebuffer context.color (pixels_of (u8g2 font)) l.glyphs buffer

  -- What is left of the text leads from here to where the whole text leads from its start.
  pub record LinesTo (buffer : List ℕ) (d : RenderedDimensions) (sum : LookupSteps) (here : List ℕ) : Type 0 where
    pub summed : Summed font (measured_by font s.pen) text sum here
    pub room : Within line_height 0 summed.reached.rest d
    pub kept : length buffer ≡ length before
    pub counted : counts start (code_points_of text) ≡ counts d summed.reached.rest
    pub shown : shows (from start (code_points_of text)) before ≡ shows (from d summed.reached.rest) buffer

  -- where lines are moved, this is the aligned text
  laid : (a : HorizontalAlignment) → Moves a → laid_with font text a s.pen
      ≡ line_by_line (line_laid font a s.pen) line_height (point (pos 0) (pos 0)) (lines (code_points_of text))
  laid Left m = absurd m
  laid Center m = refl
  laid Right m = refl

  pub as_text : Moves s.horizontal_align → (r : Report RenderedDimensions) {after : List ℕ} → outcome r.result ≡ counts start (code_points_of text)
      → after ≡ shows (from start (code_points_of text)) before → r.steps ≡ sums (u8g2 font) text (outcome r.result)
      → TextDrawn font text s.horizontal_align s.pen context before after r
  as_text m r c p q =
      let is = laid s.horizontal_align m in
      record {
        told = record { counted = c ∙ ap dimensions (sym is); summed = q };
        shown = p ∙ ap (λ (l : Layout). shows l before) (sym is);
      }

  pub lines_begin : Checked text s.pen.origin line_height → LinesTo before start no_steps text
  unfolding summed_start reached_start
  lines_begin k = record {
    summed = summed_start (checked_characters (as_line k));
    room = within_start (as_line k);
    kept = refl;
    counted = refl;
    shown = refl;
  }

  module _ {buffer : List ℕ} {d : RenderedDimensions} {sum : LookupSteps} {here : List ℕ} (i : LinesTo buffer d sum here) where
    -- the code points to come, those of the line, and its bytes
    abbrev rest : List ℕ
    rest = i.summed.reached.rest

    abbrev bytes : List ℕ
    bytes = line_of here

    decoded : decode here ≡ characters rest
    decoded = i.summed.reached.decoded

    line_chars : code_points_of bytes ≡ line_of rest
    line_chars = ap code_points (line_decoded here decoded)

    few : length (line_of rest) ≤ length bytes
    few = character_count bytes (line_decoded here decoded)

    inside : i.summed.reached.read + length bytes ≤ length text
    inside = omega (arith, line_short here, i.summed.reached.inside)

    same_newlines : newlines here ≡ newlines rest
    same_newlines = newlines_decoded here decoded

    pub line_drawable : {p : Framebuffer} → Checked text s.pen.origin line_height → BufferFits (length before) p
        → {lent : List ℕ} → lent ≡ bytes → DrawableLine lent s d p (length buffer)
    line_drawable {p} k fits is = subst (λ (b : List ℕ). DrawableLine b s d p (length buffer)) (sym is) record {
      checked = record {
        short = omega (arith, k.short, inside);
        utf8 = ap is_utf8 (line_decoded here decoded);
        line = k.line;
        left = k.left;
        right = k.right;
        top = k.top;
        bottom = k.bottom;
      };
      one = ap newlines line_chars ∙ line_level rest;
      room = subst (λ (cs : List ℕ). Within line_height 0 cs d) (sym line_chars) record {
        advance = record {
          left = i.room.advance.left;
          right = i.room.advance.right;
          top = i.room.advance.top;
          bottom = lower;
        };
        box = i.room.box;
      };
      fits = subst (λ (n : ℕ). BufferFits n p) (sym i.kept) fits;
    }
      where
        none : newlines (line_of rest) * line_height ≡ 0
        none = ap (λ (n : ℕ). n * line_height) (line_level rest) ∙ omega arith

        lower : (d.advance.y +ℤ pos (newlines (line_of rest) * line_height)) ≤ℤ pos 268431360
        lower =
            omega (zarith, i.room.advance.bottom, none, plus d.advance.y (pos (newlines (line_of rest) * line_height)), plus d.advance.y (pos (newlines rest * line_height)))

    -- ---- the line was drawn

    module _ {lent : List ℕ} (is : lent ≡ bytes) {buffer' : List ℕ} (r : Report RenderedDimensions) (l : LineDrawn font lent s d context buffer buffer' r) where
      abbrev done : Layout
      done = line d.advance (line_of rest)

      chars : code_points_of lent ≡ line_of rest
      chars = ap code_points_of is ∙ line_chars

      comes_to : outcome r.result ≡ dimensions_from d.bounding_box done
      comes_to = l.counted ∙ ap (λ (cs : List ℕ). dimensions_from d.bounding_box (line d.advance cs)) chars

      left : buffer' ≡ shows done buffer
      left = l.painted ∙ ap (λ (cs : List ℕ). shows (line d.advance cs) buffer) chars

      steps : r.steps ≡ total (u8g2 font).steps (counted (outcome r.result) (line_of rest))
      steps = l.summed ∙ ap (λ (cs : List ℕ). total (u8g2 font).steps (counted (outcome r.result) cs)) chars

      with_line_lem : (cs : List ℕ) {q : LookupSteps} → q ≡ total (u8g2 font).steps cs → plus_steps sum q ≡ total (u8g2 font).steps (i.summed.read ++ cs)
      with_line_lem cs {q} e =
          ap (λ (x : LookupSteps). plus_steps x q) i.summed.is
          ∙ ap (plus_steps (total (u8g2 font).steps i.summed.read)) e
          ∙ sym (total_append (u8g2 font).steps i.summed.read cs)

      -- a line without a newline is the last
      only_line : newlines rest ≡ 0 → from d rest ≡ done
      only_line none =
          ap (line_by_line line line_height d.advance) (lines_last rest none)
          ∙ is_last context.framebuffer context.color (pixels_of (u8g2 font)) line line_height d rest
          ∙ ap (line d.advance) (sym (line_whole rest none))

      -- with the steps of the line the sum fits
      pub line_fits : {q : LookupSteps} → r.steps ≡ q → 23 ≤ length font → length font ≤ 1048576 → length text ≤ 4096 → Fits32 (plus_steps sum q)
      line_fits {q} e least most short =
          let cs = counted (outcome r.result) (line_of rest) in
          subst Fits32 (sym (with_line_lem cs (sym e ∙ steps)))
          (total_fits font least most (i.summed.read ++ cs)
          (omega (arith, length-append i.summed.read cs, counted_shorter (outcome r.result) (line_of rest), few, inside, i.summed.reached.within.0, short)))

      -- it succeeded
      module _ {longer : RenderedDimensions} (goes : outcome r.result ≡ success longer) {q sum' : LookupSteps} (brought : r.steps ≡ q) (sums_up : sum' ≡ plus_steps sum q) where
        ends : (done.advance ≡ success longer.advance) × (join d.bounding_box (join_all done.glyphs) ≡ longer.bounding_box)
        ends = dimensions_success (join d.bounding_box (join_all done.glyphs)) done.advance longer (sym comes_to ∙ goes)

        all_brought : q ≡ total (u8g2 font).steps (line_of rest)
        all_brought = sym brought ∙ steps ∙ ap (λ (o : Outcome RenderedDimensions). total (u8g2 font).steps (counted o (line_of rest))) goes

        module _ (over : newlines here ≡ 0) where
          no_more : newlines rest ≡ 0
          no_more = sym same_newlines ∙ over

          all : line_of rest ≡ rest
          all = line_whole rest no_more

          last_from : from d rest ≡ done
          last_from = only_line no_more

          pub last_counted : success longer ≡ counts start (code_points_of text)
          last_counted = sym goes ∙ comes_to ∙ ap (dimensions_from d.bounding_box) (sym last_from) ∙ sym i.counted

          pub last_shown : buffer' ≡ shows (from start (code_points_of text)) before
          last_shown = left ∙ ap (λ (l : Layout). shows l buffer) (sym last_from) ∙ sym i.shown

          pub last_summed : sum' ≡ total (u8g2 font).steps (code_points_of text)
          last_summed =
              sums_up ∙ with_line_lem (line_of rest) all_brought
              ∙ ap (total (u8g2 font).steps) (ap (λ (cs : List ℕ). i.summed.read ++ cs) all ∙ sym i.summed.reached.same)

        module _ (more : 1 ≤ newlines here) where
          parted : Split rest
          parted = split rest (omega (arith, more, same_newlines))

          passes : Each (Passes (measured_by font s.pen)) (line_of rest)
          passes = moved_passes (u8g2 font) s.pen.ignore_unknown_chars s.horizontal_align s.pen.origin d.advance (line_of rest) longer.advance ends.0

          level : longer.advance.y ≡ d.advance.y
          level = moved_level (u8g2 font) s.pen.ignore_unknown_chars s.horizontal_align s.pen.origin d.advance (line_of rest) longer.advance ends.0

          after : i.summed.reached.read + length bytes + 1 + length (rest_of here) ≡ length text
          after = omega (arith, i.summed.reached.inside, ap length (split here more).parts, length-append bytes (10 ∷ rest_of here))

          next_summed : Summed font (measured_by font s.pen) text sum' (rest_of here)
          next_summed = record {
            read = i.summed.read ++ (line_of rest ++ 10 ∷ []);
            reached = record {
              read = i.summed.reached.read + length bytes + 1;
              rest = rest_of rest;
              inside = after;
              decoded = rest_decoded here decoded;
              within = (
                omega (arith, length-append i.summed.read (line_of rest ++ 10 ∷ []), length-append (line_of rest) (10 ∷ []), few, i.summed.reached.within.0),
                each_append (GoesOn (measured_by font s.pen)) i.summed.read (line_of rest ++ 10 ∷ []) i.summed.reached.within.1
                    (each_append (GoesOn (measured_by font s.pen)) (line_of rest) (10 ∷ []) (go_on (measured_by font s.pen) (line_of rest) passes) ((λ n k e. impossible cc), tt)),
              );
              same = i.summed.reached.same
                  ∙ ap (λ (cs : List ℕ). i.summed.read ++ cs) parted.parts
                  ∙ sym (apart i.summed.read (line_of rest) (rest_of rest));
            };
            is = sums_up
                ∙ ap (λ (x : LookupSteps). plus_steps x q) i.summed.is
                ∙ ap (plus_steps (total (u8g2 font).steps i.summed.read)) all_brought
                ∙ sym (total_newline (u8g2 font).steps i.summed.read (line_of rest));
          }

          next_is : below context.framebuffer context.color (pixels_of (u8g2 font)) line line_height d (line_of rest) longer.advance ≡ newline_step line_height longer
          next_is = rw ends.1

          taller : newlines rest * line_height ≡ line_height + newlines (rest_of rest) * line_height
          taller = ap (λ (n : ℕ). n * line_height) parted.fewer ∙ omega arith

          next_room : Within line_height 0 (rest_of rest) (newline_step line_height longer)
          next_room = record {
            advance = record {
              left = omega zarith;
              right = omega zarith;
              top = omega (zarith, level, i.room.advance.top, plus longer.advance.y (pos line_height));
              bottom = omega (
                zarith,
                level,
                taller,
                i.room.advance.bottom,
                plus longer.advance.y (pos line_height),
                plus (longer.advance.y +ℤ pos line_height) (pos (newlines (rest_of rest) * line_height)),
                plus d.advance.y (pos (newlines rest * line_height)),
              );
            };
            box = l.reach longer goes;
          }

          -- the next line begins behind the newline
          next_line_lem : LinesTo buffer' (newline_step line_height longer) sum' (rest_of here)
          unfolding next_summed
          next_line_lem =
              let lay = line_by_line line line_height in
              record {
                summed = next_summed;
                room = next_room;
                kept = ap length left ∙ length_shown context.framebuffer (text_picture context.color (pixels_of (u8g2 font)) done.glyphs) buffer ∙ i.kept;
                counted = i.counted
                    ∙ ap (λ (ls : Lines). dimensions_from d.bounding_box (lay d.advance ls)) parted.lines_are
                    ∙ counted_on context.framebuffer context.color (pixels_of (u8g2 font)) line line_height d (line_of rest) (lines (rest_of rest)) ends.0
                    ∙ ap (λ (e : RenderedDimensions). dimensions_from e.bounding_box (lay e.advance (lines (rest_of rest)))) next_is;
                shown = i.shown
                    ∙ ap (λ (ls : Lines). shows (lay d.advance ls) buffer) parted.lines_are
                    ∙ painted_on context.framebuffer context.color (pixels_of (u8g2 font)) line line_height d (line_of rest) (lines (rest_of rest)) ends.0 buffer
                    ∙ ap (λ (b : List ℕ). shows (lay (newline line_height longer.advance) (lines (rest_of rest))) b) (sym left);
              }

          pub next_turn : {next : RenderedDimensions} → next ≡ newline_step line_height longer → {tail : List ℕ} → tail ≡ rest_of here → LinesTo buffer' next sum' tail
          next_turn e {tail} k =
              subst (λ (x : RenderedDimensions). LinesTo buffer' x sum' tail) (sym e)
              (subst (λ (l : List ℕ). LinesTo buffer' (newline_step line_height longer) sum' l) (sym k) next_line_lem)

          -- .. and there is room to go there
          pub next_near : Near longer.advance.y
          next_near =
              let t = i.room.advance.top in
              let b = i.room.advance.bottom in
              record { low = omega (zarith, level); high = omega (zarith, level, plus d.advance.y (pos (newlines rest * line_height))) }

      -- it was stopped
      module _ {n k : ℕ} (stopped : outcome r.result ≡ refused n k) where
        ended : done.advance ≡ refused n k
        ended = came done.advance (sym comes_to ∙ stopped)
          where
            came : (o : Outcome Point) → dimensions_of (join d.bounding_box (join_all done.glyphs)) o ≡ refused n k → o ≡ refused n k
            came (success end) e = impossible cc
            came (refused m j) e = cc

        stopped_from : from d rest ≡ done
        stopped_from = by (newlines rest) refl
          where
            by : (m : ℕ) → newlines rest ≡ m → from d rest ≡ done
            by zero e = only_line e
            by (suc m) e =
                ap (line_by_line line line_height d.advance) (split rest (omega arith)).lines_are
                ∙ stopped_first context.framebuffer context.color (pixels_of (u8g2 font)) line line_height d (line_of rest) (lines (rest_of rest)) ended

        pub stopped_counted : refused n k ≡ counts start (code_points_of text)
        stopped_counted = sym stopped ∙ comes_to ∙ ap (dimensions_from d.bounding_box) (sym stopped_from) ∙ sym i.counted

        pub stopped_shown : buffer' ≡ shows (from start (code_points_of text)) before
        stopped_shown = left ∙ ap (λ (l : Layout). shows l buffer) (sym stopped_from) ∙ sym i.shown

        -- with 7 the letter was not met before
        module _ (seven : eqb n 7 ≡ true) where
          at_letter : StoppedAt (measured_by font s.pen) (line_of rest) n k
          at_letter = moved_stops (u8g2 font) s.pen.ignore_unknown_chars s.horizontal_align s.pen.origin d.advance (line_of rest) ended seven

          blamed : k ≡ at_letter.letter
          blamed = measured_blames font s.pen.ignore_unknown_chars at_letter.letter at_letter.stops_there

          line_is : line_of rest ≡ at_letter.read ++ k ∷ at_letter.rest
          line_is = at_letter.is ∙ ap (λ (c : ℕ). at_letter.read ++ c ∷ at_letter.rest) (sym blamed)

          stop : measured_by font s.pen k ≡ stops n k
          stop = ap (measured_by font s.pen) blamed ∙ at_letter.stops_there

          not_in_line : Each (λ c. c ≡ k → ⊥) at_letter.read
          not_in_line = not_passed (measured_by font s.pen) stop at_letter.read at_letter.passed

          not_before : Each (λ c. c ≡ k → ⊥) i.summed.read
          not_before =
              not_read (measured_by font s.pen) stop
              (no_newline at_letter.read k at_letter.rest (ap newlines (sym line_is) ∙ line_level rest)) i.summed.read i.summed.reached.within.1

          in_line : up_to k (line_of rest) ≡ at_letter.read ++ k ∷ []
          in_line = ap (up_to k) line_is ∙ up_to_first at_letter.read k at_letter.rest not_in_line

          in_text : up_to k (code_points_of text) ≡ i.summed.read ++ (at_letter.read ++ k ∷ [])
          in_text =
              let tail = drop (length (line_of rest)) rest in
              ap (up_to k)
              (i.summed.reached.same
              ∙ ap (λ (cs : List ℕ). i.summed.read ++ cs) (sym (take-append-drop (length (line_of rest)) rest) ∙ ap (λ (cs : List ℕ). cs ++ tail) (line_taken rest ∙ line_is)
              ∙ append_assoc at_letter.read (k ∷ at_letter.rest) tail)
              ∙ sym (append_assoc i.summed.read at_letter.read (k ∷ (at_letter.rest ++ tail))))
              ∙ up_to_first (i.summed.read ++ at_letter.read) k (at_letter.rest ++ tail)
              (each_append (λ c. c ≡ k → ⊥) i.summed.read at_letter.read not_before not_in_line)
              ∙ append_assoc i.summed.read at_letter.read (k ∷ [])

        pub stopped_summed : {q sum' : LookupSteps} → r.steps ≡ q → sum' ≡ plus_steps sum q → {o : Outcome RenderedDimensions} → o ≡ refused n k
            → pick (eqb n 7) sum' no_steps ≡ sums (u8g2 font) text o
        unfolding total
        stopped_summed {q} {sum'} brought sums_up e = rw e (by (eqb n 7) refl)
          where
            by : (t : Bool) → eqb n 7 ≡ t → pick t sum' no_steps ≡ total (u8g2 font).steps (pick t (up_to k (code_points_of text)) [])
            by true seven =
                let mine : q ≡ total (u8g2 font).steps (up_to k (line_of rest)) =
                sym brought ∙ steps ∙ ap (λ (o : Outcome RenderedDimensions). total (u8g2 font).steps (counted o (line_of rest))) stopped
                ∙ ap (λ (t : Bool). total (u8g2 font).steps (pick t (up_to k (line_of rest)) [])) seven in
                sums_up
                ∙ with_line_lem ((at_letter seven).read ++ k ∷ []) (mine ∙ ap (total (u8g2 font).steps) (in_line seven))
                ∙ ap (total (u8g2 font).steps) (sym (in_text seven))
            by false other = refl
