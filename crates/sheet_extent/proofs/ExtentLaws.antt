-- The edges of all readings: each reading lies between them, and so on the framebuffer that is made for them. Assumes nothing.
use Rattle.integers.proofs.Prelude.{◌≡◌, refl, sym, ap, subst, ◌∙◌, Bool, true, false, List, ℕ, zero, suc, ◌+◌, ◌-◌, ◌≤◌, ◌<◌, ◌^◌, min, max, dec_lt, arith}
use Rattle.integers.proofs.Prelude.{ℤ, pos, negsuc, nat_abs, ◌+ℤ◌, ◌-ℤ◌, mag, lt_z, ◌≤ℤ◌, ◌<ℤ◌, w32, w64, SFits, hbits, to_z, of_z, to_z-of_z}
use Rattle.integers.proofs.Choices.{impossible}
use Rattle.std.specs.Prelude.{cond, Option}
use Rattle.std.specs.Int.{int_min, int_max}
use Rattle.integers.specs.Integers.{pick, min_z, max_z}
use Rattle.integers.proofs.Laws.{zarith, up, down, plus, minus, size, min_is, max_is, range, stored}
use Rattle.definitions.specs.Vocabulary.{Framebuffer, PixelFormat, Bytes, Packed, BoundingBox, None, Some, Point, Rectangle}
use Rattle.definitions.specs.Vocabulary.{RenderedDimensions, Transparent, HorizontalAlignment, VerticalPosition, Place}
use Rattle.definitions.specs.Refusals.{Outcome, success, refused}
use Rattle.definitions.specs.Geometry.{left, top, right, bottom, InsideBox}
use Rattle.definitions.specs.TextSteps.{moved_box}
use Rattle.sheet_extent.specs.declared.values.Extent.{Extent}
use Rattle.sheet_extent.specs.declared.values.Options.{Options}
use Rattle.definitions.specs.Font.{u8g2}
use Rattle.definitions.specs.Framebuffer.{size_in_bytes}
use Rattle.definitions.specs.Limits.{color_off}
use Rattle.definitions.specs.Calls.{placed, request}
use Rattle.definitions.proofs.MovedLaws.{measured_at_zero_lem}
use Rattle.pixels.specs.Rooms.{room_for}
use Rattle.pixels.proofs.RoomLaws.{holds_rows, room_fits}
use Rattle.sheet_ground.specs.Readings.{reading_text, PlaceFits}
use Rattle.sheet_extent.specs.Extent.{at_origin, widened, with_box, with_reading, extent_of, Within, HoldsReadings, NearEdge, NearExtent, AllMeasured}
use Rattle.sight.specs.Sights.{OnFramebuffer}
use Rattle.sheet_extent.specs.Extent.{before_zero, inside, position_for, side_of, side, background_of, place_at, place_for, Uncut, AllSeen}

-- ---- the library's lesser and greater are the definitions'

least : (a b : ℤ) → int_min a b ≡ min_z a b
least a b = by (lt_z b a) (lt_z a b) refl refl
  where
    by : (s t : Bool) → lt_z b a ≡ s → lt_z a b ≡ t → cond s b a ≡ pick t a b
    by true true e f = omega zarith
    by true false e f = refl
    by false true e f = refl
    by false false e f = omega zarith

most : (a b : ℤ) → int_max a b ≡ max_z a b
most a b = by (lt_z b a) (lt_z a b) refl refl
  where
    by : (s t : Bool) → lt_z b a ≡ s → lt_z a b ≡ t → cond s a b ≡ pick t b a
    by true true e f = omega zarith
    by true false e f = refl
    by false true e f = refl
    by false false e f = omega zarith

-- ---- between the edges

module _ (e : Extent) (r : Rectangle) where
  own : Within r (widened e r)
  own = record {
    from_left = omega (zarith, min_is e.left (left r));
    from_top = omega (zarith, min_is e.top (top r));
    to_right = omega (zarith, max_is e.right (right r));
    to_bottom = omega (zarith, max_is e.bottom (bottom r));
  }

  others : (q : Rectangle) → Within q e → Within q (widened e r)
  others q w = record {
    from_left = omega (zarith, w.from_left, min_is e.left (left r));
    from_top = omega (zarith, w.from_top, min_is e.top (top r));
    to_right = omega (zarith, w.to_right, max_is e.right (right r));
    to_bottom = omega (zarith, w.to_bottom, max_is e.bottom (bottom r));
  }

-- Edges of 32 bits leave them in reach.
near_first : {edge start : ℤ} → NearEdge edge → SFits w32 start → NearEdge (min_z edge start)
near_first {edge} {start} a f = record { low = omega (zarith, min_is edge start, range f); high = omega (zarith, min_is edge start, range f) }

near_last : {edge start : ℤ} {len : ℕ} → NearEdge edge → SFits w32 start → len < 2 ^ 32 → NearEdge (max_z edge (start +ℤ pos len))
near_last {edge} {start} {len} a f h =
    let m = max_is edge (start +ℤ pos len) in
    record { low = omega (zarith, m, plus start (pos len), range f); high = omega (zarith, m, plus start (pos len), range f) }

pub near_widened : (e : Extent) (r : Rectangle) → NearExtent e → SFits w32 (left r) → SFits w32 (top r) → r.size.width < 2 ^ 32 → r.size.height < 2 ^ 32
    → NearExtent (widened e r)
near_widened e r n f g w h = record {
  left = near_first n.left f;
  top = near_first n.top g;
  right = near_last n.right f w;
  bottom = near_last n.bottom g h;
}

-- an edge as the code stores it: a choice between one of 64 bits and one that a call made of 32 bits
module _ {chosen made e l : ℤ} (ok : mag chosen < 2 ^ hbits w64) (ok' : mag made < 2 ^ hbits w64) (f : SFits w64 e) where
  pub least_stored : chosen ≡ int_min (to_z w64 (of_z w64 e)) (to_z w64 (of_z w64 made)) → made ≡ l → to_z w64 (of_z w64 chosen) ≡ min_z e l
  least_stored h k = stored w64 ok (h ∙ rw (stored w64 ok' k, to_z-of_z f) (least e l))

  pub most_stored : chosen ≡ int_max (to_z w64 (of_z w64 e)) (to_z w64 (of_z w64 made)) → made ≡ l → to_z w64 (of_z w64 chosen) ≡ max_z e l
  most_stored h k = stored w64 ok (h ∙ rw (stored w64 ok' k, to_z-of_z f) (most e l))

pub four_edges : (e : Extent) (r : Rectangle) {a b c d : ℤ} → a ≡ min_z e.left (left r) → b ≡ min_z e.top (top r) → c ≡ max_z e.right (right r) → d ≡ max_z e.bottom (bottom r)
    → record { left = a; top = b; right = c; bottom = d } ≡ widened e r
four_edges e r h i j k = cc

own_box : (e : Extent) (b : BoundingBox) (r : Rectangle) → b ≡ Some r → Within r (with_box e b)
own_box e None r h = impossible cc
own_box e (Some q) r h = let same : q ≡ r = cc in subst (λ (x : Rectangle). Within r (widened e x)) (sym same) (own e r)

other_box : (e : Extent) (b : BoundingBox) (q : Rectangle) → Within q e → Within q (with_box e b)
other_box e None q w = w
other_box e (Some r) q w = others e r q w

other_reading : (e : Extent) (o : Outcome RenderedDimensions) (q : Rectangle) → Within q e → Within q (with_reading e o)
other_reading e (success d) q w = other_box e d.bounding_box q w
other_reading e (refused n c) q w = w

module _ (font : List ℕ) (v : VerticalPosition) (a : HorizontalAlignment) where
  holds_next : (n : ℕ) (e : Extent) → HoldsReadings n font v a e → HoldsReadings (suc n) font v a (with_reading e (at_origin font v a n))
  holds_next n e holds k h d m r b = by (dec_lt k n)
    where
      by : Dec (k < n) → Within r (with_reading e (at_origin font v a n))
      by (yes p) = other_reading e (at_origin font v a n) r (holds k p d m r b)
      by (no p) =
          let last : k ≡ n = omega arith in
          let here : at_origin font v a n ≡ success d = ap (at_origin font v a) (sym last) ∙ m in
          subst (λ (o : Outcome RenderedDimensions). Within r (with_reading e o)) (sym here) (own_box e d.bounding_box r b)

  pub all_between : (n : ℕ) → HoldsReadings n font v a (extent_of font v a n)
  unfolding extent_of
  all_between zero = λ k h. absurd (omega arith)
  all_between (suc n) = holds_next n (extent_of font v a n) (all_between n)

  -- as the loop goes
  pub record MeasuredTo (k : ℕ) (e : Extent) : Type 0 where
    pub edges : e ≡ extent_of font v a k
    pub near : NearExtent e

  pub no_readings : {e : Extent} → e ≡ record { left = pos 0; top = pos 0; right = pos 0; bottom = pos 0 } → MeasuredTo 0 e
  unfolding extent_of
  no_readings h =
      let zero : NearEdge (pos 0) = record { low = omega zarith; high = omega zarith } in
      record { edges = h; near = rw h record { left = zero; top = zero; right = zero; bottom = zero } }

  pub next_reading : (k : ℕ) {e next : Extent} → e ≡ extent_of font v a k → next ≡ with_reading e (at_origin font v a k) → next ≡ extent_of font v a (k + 1)
  unfolding extent_of
  next_reading k e h =
      let suc_is : suc k ≡ k + 1 = omega arith in
      h ∙ ap (λ (x : Extent). with_reading x (at_origin font v a k)) e ∙ ap (extent_of font v a) suc_is

  pub all_readings : {k : ℕ} {e : Extent} → k ≡ 901 → MeasuredTo k e → AllMeasured font v a e
  all_readings {k} {e} all m =
      let is : e ≡ extent_of font v a 901 = m.edges ∙ ap (extent_of font v a) all in
      record { edges = is; between = subst (HoldsReadings 901 font v a) (sym is) (all_between 901); near = m.near }

  -- the origin is no further than the last edges
  past_box : (e : Extent) (b : BoundingBox) → (pos 0 ≤ℤ e.right) × (pos 0 ≤ℤ e.bottom) → (pos 0 ≤ℤ (with_box e b).right) × (pos 0 ≤ℤ (with_box e b).bottom)
  past_box e None h = h
  past_box e (Some r) h = (omega (zarith, h.0, max_is e.right (right r)), omega (zarith, h.1, max_is e.bottom (bottom r)))

  past_reading : (e : Extent) (o : Outcome RenderedDimensions) → (pos 0 ≤ℤ e.right) × (pos 0 ≤ℤ e.bottom)
      → (pos 0 ≤ℤ (with_reading e o).right) × (pos 0 ≤ℤ (with_reading e o).bottom)
  past_reading e (success d) h = past_box e d.bounding_box h
  past_reading e (refused n c) h = h

  past_origin : (n : ℕ) → (pos 0 ≤ℤ (extent_of font v a n).right) × (pos 0 ≤ℤ (extent_of font v a n).bottom)
  unfolding extent_of
  past_origin zero = (omega zarith, omega zarith)
  past_origin (suc n) = past_reading (extent_of font v a n) (at_origin font v a n) (past_origin n)

-- ---- on the framebuffer

side_limits : (z : ℤ) → (1 ≤ side_of z) × (side_of z ≤ 256)
side_limits (pos n) = (omega arith, omega arith)
side_limits (negsuc n) = (omega arith, omega arith)

pub side_most : (start end : ℤ) → side start end ≤ 256
side_most start end = (side_limits (start +ℤ end +ℤ pos 3)).1

background_taken : (f : PixelFormat) → color_off f (Transparent (background_of f)) ≡ false
background_taken Bytes = refl
background_taken Packed = refl

place_fits : (o : Options) (p : Point) (e : Extent) → PlaceFits (size_in_bytes (place_at o p e).framebuffer) (place_at o p e)
place_fits o p e =
    let w = side_limits (p.x +ℤ e.right +ℤ pos 3) in
    record { fits = room_fits o.format (side p.x e.right) (side p.y e.bottom) w.0 w.1 (side_most p.y e.bottom); takes = background_taken o.format }

uncut_side : (z : ℤ) → z ≤ℤ pos 256 → z ≤ℤ pos (side_of z)
uncut_side (pos n) h = omega zarith
uncut_side (negsuc n) h = omega zarith

before_is : (z : ℤ) → before_zero z ≡ min 1000 (down z - up z)
before_is (pos n) = omega arith
before_is (negsuc n) = omega arith

module _ (z : ℤ) where
  side_is : side_of z ≡ max 1 (min 256 (up z - down z))
  side_is = by z
    where
      by : (z : ℤ) → side_of z ≡ max 1 (min 256 (up z - down z))
      by (pos n) = omega arith
      by (negsuc n) = omega arith

  -- an edge before 0, or at it
  pub before : negsuc 999 ≤ℤ z → z ≤ℤ pos 0 → nat_abs (pos 0 -ℤ z) ≡ before_zero z
  before low high = omega (zarith, before_is z, minus (pos 0) z, size (pos 0 -ℤ z))

  pub clamped_side : nat_abs (int_max (pos 1) (int_min z (pos 256))) ≡ side_of z
  clamped_side =
      let low = min_z z (pos 256) in
      rw (least z (pos 256), most (pos 1) low) (omega (zarith, side_is, min_is z (pos 256), max_is (pos 1) low, size (max_z (pos 1) low)))

-- along one side: what lies between the edges, moved to the place, lies between 0 and the side's length
module _ (first last at : ℤ) (from : first ≤ℤ at) (to : at <ℤ last) (past : pos 0 ≤ℤ last) (uncut : (inside first +ℤ last +ℤ pos 3) ≤ℤ pos 256) where
  stands : pos 0 ≤ℤ (inside first +ℤ at)
  stands = omega (zarith, before_is first, plus (inside first) at, plus (inside first) last, plus (inside first +ℤ last) (pos 3))

  ends : (inside first +ℤ at) <ℤ pos (side (inside first) last)
  ends =
      let s = uncut_side (inside first +ℤ last +ℤ pos 3) uncut in
      omega (zarith, plus (inside first) at, plus (inside first) last, plus (inside first +ℤ last) (pos 3))

-- the same for a column or row of a moved span
module _ (first last start : ℤ) (len : ℕ) (column : ℤ) (from : first ≤ℤ start) (to : (start +ℤ pos len) ≤ℤ last) (past : pos 0 ≤ℤ last)
    (uncut : (inside first +ℤ last +ℤ pos 3) ≤ℤ pos 256)
    (i : (inside first +ℤ start) ≤ℤ column) (j : column <ℤ ((inside first +ℤ start) +ℤ pos len)) where
  abbrev at : ℤ
  at = column -ℤ inside first

  back : inside first +ℤ at ≡ column
  back = omega (zarith, minus column (inside first), plus (inside first) at)

  pub seen : (pos 0 ≤ℤ column) × (column <ℤ pos (side (inside first) last))
  seen =
      let f : first ≤ℤ at = omega (zarith, minus column (inside first), plus (inside first) start) in
      let t : at <ℤ last = omega (zarith, minus column (inside first), plus (inside first) start, plus (inside first +ℤ start) (pos len), plus start (pos len)) in
      (subst (λ (z : ℤ). pos 0 ≤ℤ z) back (stands first last at f t past uncut), subst (λ (z : ℤ). z <ℤ pos (side (inside first) last)) back (ends first last at f t past uncut))

module _ (font : List ℕ) (o : Options) (nowhere : o.at ≡ None) where
  abbrev edges : Extent
  edges = extent_of font o.vertical_pos o.horizontal_align 901

  abbrev there : Place
  there = place_at o (position_for None edges) edges

  on_framebuffer : Uncut there edges → (b : BoundingBox) → ((r : Rectangle) → b ≡ Some r → Within r edges) → (column row : ℤ)
      → InsideBox column row (moved_box there.position.x there.position.y b) → OnFramebuffer there.framebuffer column row
  on_framebuffer uncut None between column row i = absurd i
  on_framebuffer uncut (Some r) between column row i =
      let w = between r refl in
      let z = past_origin font o.vertical_pos o.horizontal_align 901 in
      let c = seen edges.left edges.right (left r) r.size.width column w.from_left w.to_right z.0 uncut.0 i.from_left i.to_right in
      let l = seen edges.top edges.bottom (top r) r.size.height row w.from_top w.to_bottom z.1 uncut.1 i.from_top i.to_bottom in
      record { from_left = c.0; to_right = c.1; from_top = l.0; to_bottom = omega (zarith, l.1, holds_rows o.format (side (inside edges.top) edges.bottom)) }

  pub all_seen : Uncut (place_for font o) edges → AllSeen font (place_for font o)
  unfolding place_for
  all_seen = rw nowhere (λ uncut k h d m column row i.
      let q = measured_at_zero_lem (u8g2 font) (request (reading_text k) (placed there.position 0 false) o.vertical_pos o.horizontal_align) d m in
      on_framebuffer uncut q.0.bounding_box (λ r b. all_between font o.vertical_pos o.horizontal_align 901 k h q.0 q.1.0 r b) column row
      (subst (InsideBox column row) q.1.1 i))

-- ---- as the code goes

pub both : {A B C : Type 0} (f : A → B → C) {a b : A} {c d : B} → a ≡ b → c ≡ d → f a c ≡ f b d
both f {a} {b} {c} {d} e h = ap (λ x. f x c) e ∙ ap (f b) h

-- where no place is asked for
pub seen_position : {at : Option Point} (e : Extent) {x y : ℤ} → at ≡ None → x ≡ inside e.left → y ≡ inside e.top
    → record { x = x; y = y } ≡ position_for at e
seen_position e w h k = rw w (cc (h, k))

-- a place with that background and framebuffer
abbrev place_in : ℕ → Framebuffer → Options → Point → Place
place_in background framebuffer o p = record {
  position = p;
  style = record { color = Transparent 0; vertical_pos = o.vertical_pos };
  horizontal_align = o.horizontal_align;
  line_height = 0;
  background = background;
  framebuffer = framebuffer;
}

pub is_place : (font : List ℕ) (o : Options) {e : Extent} {p : Point} {width height background : ℕ} {framebuffer : Framebuffer}
    → e ≡ extent_of font o.vertical_pos o.horizontal_align 901 → p ≡ position_for o.at e
    → width ≡ side p.x e.right → height ≡ side p.y e.bottom → background ≡ background_of o.format → framebuffer ≡ room_for o.format width height
    → place_in background framebuffer o p ≡ place_for font o
unfolding place_for
is_place font o {e} {p} {width} {height} {background} {framebuffer} h i j k b f =
    ap (λ (n : ℕ). place_in n framebuffer o p) b
    ∙ ap (λ (q : Framebuffer). place_in (background_of o.format) q o p) (f ∙ both (room_for o.format) j k)
    ∙ ap (λ (q : Point). place_at o q e) i
    ∙ ap (λ (x : Extent). place_at o (position_for o.at x) x) h

pub fits_for : (font : List ℕ) (o : Options) → PlaceFits (size_in_bytes (place_for font o).framebuffer) (place_for font o)
unfolding place_for
fits_for font o =
    let e = extent_of font o.vertical_pos o.horizontal_align 901 in
    place_fits o (position_for o.at e) e
