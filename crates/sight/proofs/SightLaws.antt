-- What a sight says of the pixels of the text's box: seen whole, each of them lies on the framebuffer; not seen, none does.
-- Assumes nothing.
use Rattle.integers.proofs.Prelude.{◌≡◌, refl, ◌⊎◌, inl, inr, ℕ, ℤ, pos, ◌+ℤ◌, ◌≤ℤ◌, ◌<ℤ◌, le_z, lt_z}
use Rattle.integers.proofs.Choices.{impossible, of_pick}
use Rattle.integers.proofs.Laws.{zarith}
use Rattle.definitions.specs.Vocabulary.{Framebuffer, BoundingBox, None, Some}
use Rattle.definitions.specs.Geometry.{InsideBox, left, top}
use Rattle.sight.specs.declared.Sight.{Sight}
use Rattle.sight.specs.declared.Sight.TheVariants.{Whole, Part, Unseen}
use Rattle.sight.specs.Sights.{side_seen, both_seen, box_seen, OnFramebuffer}

-- ---- in one direction

module _ (start : ℤ) (len side : ℕ) where
  side_whole : side_seen start len side ≡ Whole → (pos 0 ≤ℤ start) × ((start +ℤ pos len) ≤ℤ pos side)
  side_whole =
      of_pick (le_z (start +ℤ pos len) (pos 0)) (λ _ e. impossible cc)
      (λ _. of_pick (le_z (pos side) start) (λ _ e. impossible cc)
      (λ _. of_pick (lt_z start (pos 0)) (λ _ e. impossible cc)
      (λ from. of_pick (lt_z (pos side) (start +ℤ pos len)) (λ _ e. impossible cc) (λ to _. (omega zarith, omega zarith)))))

  side_unseen : (z : ℤ) → start ≤ℤ z → z <ℤ (start +ℤ pos len) → pos 0 ≤ℤ z → z <ℤ pos side → side_seen start len side ≡ Unseen → ⊥
  side_unseen z from to first last =
      of_pick (le_z (start +ℤ pos len) (pos 0)) (λ t _. omega zarith)
      (λ _. of_pick (le_z (pos side) start) (λ t _. omega zarith)
      (λ _. of_pick (lt_z start (pos 0)) (λ _ e. impossible cc)
      (λ _. of_pick (lt_z (pos side) (start +ℤ pos len)) (λ _ e. impossible cc) (λ _ e. impossible cc))))

-- ---- in both

both_whole : (a b : Sight) → both_seen a b ≡ Whole → (a ≡ Whole) × (b ≡ Whole)
both_whole Whole b e = (refl, e)
both_whole Part Whole e = impossible cc
both_whole Part Part e = impossible cc
both_whole Part Unseen e = impossible cc
both_whole Unseen b e = impossible cc

both_unseen : (a b : Sight) → both_seen a b ≡ Unseen → (a ≡ Unseen) ⊎ (b ≡ Unseen)
both_unseen Whole b e = inr e
both_unseen Part Whole e = impossible cc
both_unseen Part Part e = impossible cc
both_unseen Part Unseen e = inr refl
both_unseen Unseen b e = inl refl

-- ---- the pixels of the box

module _ (p : Framebuffer) (column row : ℤ) where
  pub whole_on : (box : BoundingBox) → box_seen p box ≡ Whole → InsideBox column row box → OnFramebuffer p column row
  whole_on None e i = absurd i
  whole_on (Some r) e i =
      let w = both_whole (side_seen (left r) r.size.width p.width) (side_seen (top r) r.size.height p.height) e in
      let x = side_whole (left r) r.size.width p.width w.0 in
      let y = side_whole (top r) r.size.height p.height w.1 in
      record {
        from_left = omega (zarith, i.from_left, x.0);
        to_right = omega (zarith, i.to_right, x.1);
        from_top = omega (zarith, i.from_top, y.0);
        to_bottom = omega (zarith, i.to_bottom, y.1);
      }

  pub unseen_off : (box : BoundingBox) → box_seen p box ≡ Unseen → InsideBox column row box → OnFramebuffer p column row → ⊥
  unseen_off None e i o = i
  unseen_off (Some r) e i o = by (both_unseen (side_seen (left r) r.size.width p.width) (side_seen (top r) r.size.height p.height) e)
    where
      by : (side_seen (left r) r.size.width p.width ≡ Unseen) ⊎ (side_seen (top r) r.size.height p.height ≡ Unseen) → ⊥
      by (inl x) = side_unseen (left r) r.size.width p.width column i.from_left i.to_right o.from_left o.to_right x
      by (inr y) = side_unseen (top r) r.size.height p.height row i.from_top i.to_bottom o.from_top o.to_bottom y
