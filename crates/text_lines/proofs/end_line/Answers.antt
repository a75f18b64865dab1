-- Where there is room, the sums fit and the moved box lies within the reach of joining.
use Rattle.std.proofs.Common.{rules, ◌≡◌, sym, subst, ℤ, ◌+ℤ◌, w32, FitsSigned, to_z, of_z}
use Rattle.integers.proofs.Prelude.{to_z-of_z}
use Rattle.definitions.specs.Vocabulary.{BoundingBox, Point, HorizontalAlignment}
use Rattle.definitions.specs.Geometry.{InReach}
use Rattle.definitions.specs.Text.{horizontal_offset}
use Rattle.definitions.specs.TextSteps.{LineState, moved_box}
use Rattle.layout.specs.Ranges.{LineHasRoom}
use Rattle.layout.proofs.RangeLaws.{near_fits}
use Rattle.text_lines.specs.Lines.{Movable}
use Rattle.text_lines.proofs.LinesLaws.{x_near, column_near, moved_in_reach}
use Rattle.text_lines.proofs.end_line.Goals as goal

module _ {origin : Point} {s : LineState} (room : LineHasRoom origin s) (a : HorizontalAlignment) (f : FitsSigned w32 origin.x) (g : FitsSigned w32 origin.y)
    {r : ℤ} (h : FitsSigned w32 r) (e : r ≡ horizontal_offset a s.line.bounding_box (to_z w32 (of_z w32 s.line.advance.x))) where
  abbrev offset : ℤ
  offset = horizontal_offset a s.line.bounding_box s.line.advance.x

  -- by how much the line is moved
  offset_is : to_z w32 (of_z w32 r) ≡ offset
  offset_is = let k = near_fits (x_near room) in simp (to_z-of_z, h) (simp (to_z-of_z, k) at e)

  abbrev x : ℤ
  x = to_z w32 (of_z w32 (to_z w32 (of_z w32 origin.x) +ℤ to_z w32 (of_z w32 r)))

  abbrev y : ℤ
  y = to_z w32 (of_z w32 (to_z w32 (of_z w32 origin.y) +ℤ to_z w32 (of_z w32 s.y)))

  x_is : x ≡ origin.x +ℤ offset
  x_is = simp (offset_is, to_z-of_z, f) (simp (to_z-of_z, near_fits (column_near room a)))

  y_is : y ≡ origin.y +ℤ s.y
  y_is = simp (to_z-of_z, g, near_fits room.y) (simp (to_z-of_z, near_fits room.row))

  can_move : Movable s.line.bounding_box x y
  can_move = simp (x_is, y_is) record { box = room.line; right = column_near room a; down = room.row }

  -- the line at its place
  module _ {b : BoundingBox} (at : b ≡ moved_box x y s.line.bounding_box) where
    line_is : b ≡ moved_box (origin.x +ℤ offset) (origin.y +ℤ s.y) s.line.bounding_box
    line_is = simp (x_is, y_is) at at

    line_in_reach : InReach b
    line_in_reach = subst InReach (sym line_is) (moved_in_reach s.line.bounding_box (column_near room a) room.row room.line)

pub move_box-line_there-requires : goal.move_box-line_there-requires
move_box-line_there-requires c =
    let f : FitsSigned w32 c.args.origin.x = search rules in
    let g : FitsSigned w32 c.args.origin.y = search rules in
    can_move c.requires c.args.horizontal_align f g record { sfits = c.compute_horizontal_offset-offset.type_inv } c.compute_horizontal_offset-offset.ensures

pub combine_bounding_boxes-requires : goal.combine_bounding_boxes-requires
combine_bounding_boxes-requires c =
    let f : FitsSigned w32 c.args.origin.x = search rules in
    let g : FitsSigned w32 c.args.origin.y = search rules in
    let h : FitsSigned w32 c.compute_horizontal_offset-offset.result = record { sfits = c.compute_horizontal_offset-offset.type_inv } in
    let ended : InReach c.args.state.bounding_box = c.requires.box in
    let line : InReach c.move_box-line_there.result = line_in_reach c.requires c.args.horizontal_align f g h c.compute_horizontal_offset-offset.ensures
    c.move_box-line_there.ensures in
    search rules

pub returns : goal.returns
returns c =
    let f : FitsSigned w32 c.args.origin.x = search rules in
    let g : FitsSigned w32 c.args.origin.y = search rules in
    let h : FitsSigned w32 c.compute_horizontal_offset-offset.result = record { sfits = c.compute_horizontal_offset-offset.type_inv } in
    simp
    (c.combine_bounding_boxes.ensures, line_is c.requires c.args.horizontal_align f g h c.compute_horizontal_offset-offset.ensures c.move_box-line_there.ensures)
