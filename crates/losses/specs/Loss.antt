-- A loss is what one fault of a plan takes away: links that are lost in a direction. It is kept as a number: the coordinates of a node, four bits each,
-- and a kind.
use Rattle.std.specs.Prelude.{ℕ, zero, suc, ◌+◌, ◌-◌, ◌*◌, ◌/◌, ◌%◌, Bool, false, cond, not, ◌&&◌, ◌||◌, List, get_or, ltb, eqb}
use Rattle.shape.specs.declared.shape.Shape.{Shape}
use Rattle.shape.specs.declared.shape.Coords.{Coords}
use Rattle.shape.specs.Shape.{extent_of, coord_of}
use Rattle.machine.specs.declared.leg.Mode.{Mode}
use Rattle.machine.specs.Number.{coords_of}
use Rattle.machine.specs.Hop.{dir_dim}
use Rattle.machine.specs.ByCoords.{moved_at}
use Rattle.legs.specs.Crossing.{can_cross}

abbrev pub loss_at : ℕ → Coords
loss_at w = record { x = w % 16; y = w / 16 % 16; z = w / 256 % 16 }

-- Kinds 0 to 5: the link that leaves the node in this direction is lost that way. 6, 7, 8: the link that leaves it in X+, Y+, Z+ is lost both ways.
-- 9: the node's links are lost, both ways. 10 and more: nothing.
abbrev pub loss_kind : ℕ → ℕ
loss_kind w = w / 4096

-- The plus direction of kinds 6, 7, 8.
abbrev pub plus_of : ℕ → ℕ
plus_of kind = 2 * (kind - 6)

abbrev pub same_coords : Coords → Coords → Bool
same_coords c t = eqb c.x t.x && (eqb c.y t.y && eqb c.z t.z)

-- The link that leaves u in the direction `plus` is the one that leaves node n in direction d, that way or back.
unfoldable pub names_both : Shape → Coords → ℕ → ℕ → ℕ → Bool
names_both s u plus n d = (eqb plus d && same_coords u (coords_of s n)) || (eqb (plus + 1) d && same_coords u (moved_at s (coords_of s n) d))

-- The link that leaves node n in direction d is one of u's.
unfoldable pub names_node : Shape → Coords → ℕ → ℕ → Bool
names_node s u n d = same_coords u (coords_of s n) || same_coords u (moved_at s (coords_of s n) d)

-- The loss w takes away the link that leaves node n in direction d.
unfoldable pub names : Shape → ℕ → ℕ → ℕ → Bool
names s w n d =
    cond (ltb (loss_kind w) 6) (eqb (loss_kind w) d && same_coords (loss_at w) (coords_of s n))
    (cond (ltb (loss_kind w) 9) (names_both s (loss_at w) (plus_of (loss_kind w)) n d)
    (cond (eqb (loss_kind w) 9) (names_node s (loss_at w) n d) false))

unfoldable pub some_below : ℕ → (ℕ → Bool) → Bool
some_below zero f = false
some_below (suc n) f = f n || some_below n f

-- Every link is sound but those that one of the first n losses takes away.
unfoldable pub sound_but : Shape → List ℕ → ℕ → ℕ → ℕ → Bool
sound_but s losses n u d = not (some_below n (λ i. names s (get_or losses i 0) u d))

-- ---- what of it a leg from a to t in mode m can cross
-- The link that leaves u in the direction `plus`, either way.
unfoldable pub link_meets : (ℕ → Bool) → Mode → Shape → Coords → ℕ → Coords → Coords → Bool
link_meets ties m s u plus a t =
    can_cross ties m s u plus a t || (ltb (coord_of u (dir_dim plus)) (extent_of s (dir_dim plus)) && can_cross ties m s (moved_at s u plus) (plus + 1) a t)

-- The links of u along a dimension: the one that leaves it in plus, and the one that comes to it so.
unfoldable pub links_meet : (ℕ → Bool) → Mode → Shape → Coords → ℕ → Coords → Coords → Bool
links_meet ties m s u plus a t = link_meets ties m s u plus a t || link_meets ties m s (moved_at s u (plus + 1)) plus a t

-- Any link of u, which is a node of the shape.
unfoldable pub node_meets : (ℕ → Bool) → Mode → Shape → Coords → Coords → Coords → Bool
node_meets ties m s u a t = links_meet ties m s u 0 a t || (links_meet ties m s u 2 a t || links_meet ties m s u 4 a t)

-- The loss lies on the leg.
unfoldable pub loss_meets : (ℕ → Bool) → Mode → Shape → ℕ → Coords → Coords → Bool
loss_meets ties m s w a t =
    cond (ltb (loss_kind w) 6) (can_cross ties m s (loss_at w) (loss_kind w) a t)
    (cond (ltb (loss_kind w) 9) (link_meets ties m s (loss_at w) (plus_of (loss_kind w)) a t)
    (cond (eqb (loss_kind w) 9) (node_meets ties m s (loss_at w) a t) false))

-- One of the first n losses does.
unfoldable pub on_leg : (ℕ → Bool) → Mode → Shape → List ℕ → ℕ → Coords → Coords → Bool
on_leg ties m s losses n a t = some_below n (λ i. loss_meets ties m s (get_or losses i 0) a t)
