-- What document 01 says of hops, as theorems about the definitions.
use Prim.Native.Nat.{ℕ, ◌+◌, ◌*◌, ◌≤◌, ◌<◌}
use mathlib.Core.Bool.{Bool, true, false, cond, not, ◌&&◌}
use mathlib.Core.Path.{◌≡◌, refl, sym, ap, ◌∙◌}
use mathlib.Core.Logic.{◌⊎◌}
use native.Mathlib.Omega.{arith}
use lib.Dec.{leb}
use borrow.Author.Tests.{eqb-true, eqb-false, eq-eqb, le-leb, leb-true}
use Rattle.theory.proofs.Bools.{and_true}
use Rattle.shape.specs.declared.shape.Shape.{Shape}
use Rattle.shape.specs.declared.shape.Coords.{Coords}
use Rattle.shape.specs.declared.shape.Dim.{Dim}
use Rattle.shape.specs.declared.shape.Dim.TheVariants.{X, Y, Z}
use Rattle.shape.specs.Shape.{shape_error, extent_of, coord_of, wrapped_in, put}
use Rattle.shape.specs.Axis.{place}
use Rattle.machine.specs.Number.{node_count, number_of, coords_of}
use Rattle.machine.specs.Hop.{dir_dim, dir_plus, plus_dir, minus_dir, dir_of, opposite, along, part, hops, link, neighbour, useful, half, toward, same, first_direction}
use Rattle.machine.specs.ByCoords.{useful_along, link_along, moved_along, moved_at}
use Rattle.machine.proofs.Directions.{opposite_is}
use Rattle.machine.proofs.Numbers.{number_coords, inside}
use Rattle.shape.proofs.AxisLaws.{axis_symmetric, axis_zero, axis_self, axis_some, half_both, both_half, axis_step, axis_triangle, back_place, back_link}
use Rattle.shape.proofs.Runs.{one_taken}
use Rattle.machine.proofs.ByCoords.{inside_at, along_small, hops_at_law, hops_put, neighbour_coords, plus_of_law, minus_of}

pub useful_link : (s : Shape) (n t dir : ℕ) → useful s n t dir ≡ true → link s n dir ≡ true
unfolding useful
useful_link s n t dir e = (and_true (link s n dir) _ e).0

-- a useful hop leaves exactly one hop fewer
pub useful_lowers : (s : Shape) (n t dir : ℕ) → useful s n t dir ≡ true → hops s (neighbour s n dir) t + 1 ≡ hops s n t
unfolding useful
useful_lowers s n t dir e = eqb-true _ _ (and_true (link s n dir) _ e).1

pub useful_of : (s : Shape) (n t dir : ℕ) → link s n dir ≡ true → hops s (neighbour s n dir) t + 1 ≡ hops s n t → useful s n t dir ≡ true
unfolding useful
useful_of s n t dir l e = rw (l, eq-eqb (hops s (neighbour s n dir) t + 1) (hops s n t) e)

pub hops_symmetric : (s : Shape) (n t : ℕ) → hops s n t ≡ hops s t n
unfolding hops
hops_symmetric s n t = rw (one X, one Y, one Z)
  where
    one : (d : Dim) → part s n t d ≡ part s t n d
    one d = axis_symmetric (extent_of s d) (wrapped_in s d) (coord_of (coords_of s n) d) (coord_of (coords_of s t) d)

pub part_self : (s : Shape) (n : ℕ) (d : Dim) → part s n n d ≡ 0
part_self s n d = axis_self (extent_of s d) (wrapped_in s d) (coord_of (coords_of s n) d)

pub hops_self : (s : Shape) (n : ℕ) → hops s n n ≡ 0
unfolding hops
hops_self s n = rw (part_self s n X, part_self s n Y, part_self s n Z)

same_coords_law : (c t : Coords) → ((d : Dim) → coord_of c d ≡ coord_of t d) → c ≡ t
same_coords_law c t e = λ i. record { x = e X i; y = e Y i; z = e Z i }

module _ (s : Shape) (h : shape_error s ≡ 0) (n t : ℕ) (hn : n < node_count s) (ht : t < node_count s) where
  pub hops_most : hops s n t ≤ 45
  unfolding hops
  hops_most =
      let i = inside s h n hn in
      let j = inside s h t ht in
      omega (arith, along_small s h (coords_of s n) (coords_of s t) i j X, along_small s h (coords_of s n) (coords_of s t) i j Y, along_small s h (coords_of s n) (coords_of s t) i j Z)

  pub same_node : ((d : Dim) → coord_of (coords_of s n) d ≡ coord_of (coords_of s t) d) → n ≡ t
  same_node e = sym (number_coords s h n) ∙ ap (number_of s) (same_coords_law (coords_of s n) (coords_of s t) e) ∙ number_coords s h t

  pub hops_zero : hops s n t ≡ 0 → n ≡ t
  unfolding hops
  hops_zero e = same_node one
    where
      none : (d : Dim) → part s n t d ≡ 0
      none X = omega arith
      none Y = omega arith
      none Z = omega arith

      one : (d : Dim) → coord_of (coords_of s n) d ≡ coord_of (coords_of s t) d
      one d = axis_zero (extent_of s d) (wrapped_in s d) _ _ (inside_at s _ (inside s h n hn) d) (inside_at s _ (inside s h t ht) d) (none d)

  -- ---- a dimension where the coordinates differ has a useful direction
  some_useful : (d : Dim) → same s n t d ≡ false → (useful s n t (plus_dir d) ≡ true) ⊎ (useful s n t (minus_dir d) ≡ true)
  some_useful d e =
      rw (plus_of_law s h n hn t d, minus_of s h n hn t d)
      (axis_some (extent_of s d) (wrapped_in s d) _ _ (inside_at s _ (inside s h n hn) d) (inside_at s _ (inside s h t ht) d) (eqb-false _ _ e))

  -- ---- half a ring is left exactly where both directions are useful
  pub half_is : (d : Dim) → half s n t d ≡ true → (wrapped_in s d ≡ true) × (2 * part s n t d ≡ extent_of s d)
  half_is d e =
      let both = and_true (useful s n t (plus_dir d)) (useful s n t (minus_dir d)) e in
      both_half (extent_of s d) (wrapped_in s d) (along s n d) (along s t d) (inside_at s _ (inside s h n hn) d) (inside_at s _ (inside s h t ht) d) (sym (plus_of_law s h n hn t d) ∙ both.0) (sym (minus_of s h n hn t d) ∙ both.1)

  pub is_half : (d : Dim) → wrapped_in s d ≡ true → 2 * part s n t d ≡ extent_of s d → half s n t d ≡ true
  is_half d r e = rw (plus_of_law s h n hn t d, minus_of s h n hn t d, one true, one false)
    where
      one : (plus : Bool) → useful_along s (coords_of s n) (coords_of s t) d plus ≡ true
      one plus = rw r (half_both (extent_of s d) (along s n d) (along s t d) plus (inside_at s _ (inside s h n hn) d) (inside_at s _ (inside s h t ht) d) (rw r at e))

  way_useful : (d : Dim) (plus : Bool) → useful s n t (dir_of d plus) ≡ cond plus (useful s n t (plus_dir d)) (useful s n t (minus_dir d))
  way_useful d true = refl
  way_useful d false = refl

  -- toward another node the deterministic direction is useful by any rule for half a ring, so some direction is
  toward_useful : (ties : ℕ → Bool) (d : Dim) → same s n t d ≡ false → useful s n t (toward ties s n t d) ≡ true
  unfolding toward
  toward_useful ties d e =
      let plus = useful s n t (plus_dir d) in
      let minus = useful s n t (minus_dir d) in
      let way = cond (plus && minus) (ties (along s n d)) plus in
      way_useful d way ∙ one_taken plus minus (ties (along s n d)) way (some_useful d e) refl

  pub first_useful : (ties : ℕ → Bool) → (n ≡ t → ⊥) → useful s n t (first_direction ties s n t) ≡ true
  unfolding first_direction
  first_useful ties ne = go (same s n t X) (same s n t Y) (same s n t Z) refl refl refl
    where
      go : (a b c : Bool) → same s n t X ≡ a → same s n t Y ≡ b → same s n t Z ≡ c → useful s n t (cond (not a) (toward ties s n t X) (cond (not b) (toward ties s n t Y) (cond (not c) (toward ties s n t Z) 6))) ≡ true
      go false b c ea eb ec = toward_useful ties X ea
      go true false c ea eb ec = toward_useful ties Y eb
      go true true false ea eb ec = toward_useful ties Z ec
      go true true true ea eb ec = absurd (ne (same_node all))
        where
          all : (d : Dim) → coord_of (coords_of s n) d ≡ coord_of (coords_of s t) d
          all X = eqb-true _ _ ea
          all Y = eqb-true _ _ eb
          all Z = eqb-true _ _ ec

-- ---- back over the same link
pub put_at : (c : Coords) (d : Dim) (v : ℕ) → coord_of (put c d v) d ≡ v
put_at c X v = refl
put_at c Y v = refl
put_at c Z v = refl

put_back : (c : Coords) (d : Dim) (v : ℕ) → put (put c d v) d (coord_of c d) ≡ c
put_back c X v = refl
put_back c Y v = refl
put_back c Z v = refl

neighbour_from : (s : Shape) (n dir : ℕ) → neighbour s n dir ≡ number_of s (moved_along s (coords_of s n) (dir_dim dir) (dir_plus dir))
unfolding neighbour
neighbour_from s n dir = refl

module _ (s : Shape) (h : shape_error s ≡ 0) (n dir : ℕ) (hn : n < node_count s) where
  back_coords : moved_along s (moved_along s (coords_of s n) (dir_dim dir) (dir_plus dir)) (dir_dim dir) (not (dir_plus dir)) ≡ coords_of s n
  back_coords =
      let d = dir_dim dir in
      rw (put_at (coords_of s n) d _, back_place (extent_of s d) (coord_of (coords_of s n) d) (dir_plus dir) (inside_at s _ (inside s h n hn) d))
      (put_back (coords_of s n) d _)

  -- Also where there is no link: past an end a place is the other end's.
  pub there_and_back : dir ≤ 5 → neighbour s (neighbour s n dir) (opposite dir) ≡ n
  unfolding moved_at
  there_and_back low =
      let o = opposite_is dir low in
      neighbour_from s (neighbour s n dir) (opposite dir) ∙ rw (neighbour_coords s h n hn dir, o.dim, o.way, back_coords) (number_coords s h n)

module _ (s : Shape) (h : shape_error s ≡ 0) (n dir : ℕ) (hn : n < node_count s) (l : link s n dir ≡ true) where
  pub low : dir ≤ 5
  unfolding link
  low = leb-true dir 5 (and_true (leb dir 5) _ l).0

  pub held : link_along s (coords_of s n) (dir_dim dir) (dir_plus dir) ≡ true
  unfolding link
  held = (and_true (leb dir 5) _ l).1

  pub link_back : link s (neighbour s n dir) (opposite dir) ≡ true
  unfolding link moved_at
  link_back =
      let o = opposite_is dir low in
      let d = dir_dim dir in
      rw (neighbour_coords s h n hn dir, o.dim, o.way, le-leb (opposite dir) 5 o.low, put_at (coords_of s n) d _)
      (back_link (extent_of s d) (wrapped_in s d) _ (dir_plus dir) (inside_at s _ (inside s h n hn) d) held)

  pub neighbour_back : neighbour s (neighbour s n dir) (opposite dir) ≡ n
  neighbour_back = there_and_back s h n dir hn low

  -- a hop changes the hops to any node by one at most
  pub hops_step : (t : ℕ) → t < node_count s → hops s n t ≤ hops s (neighbour s n dir) t + 1
  unfolding moved_at
  hops_step t ht =
      let d = dir_dim dir in
      let c = coords_of s n in
      let v = place (extent_of s d) (coord_of c d) (dir_plus dir) in
      let one = axis_step (extent_of s d) (wrapped_in s d) (coord_of c d) (coord_of (coords_of s t) d) (dir_plus dir) (inside_at s c (inside s h n hn) d) (inside_at s _ (inside s h t ht) d) held in
      let sum = hops_put s c (coords_of s t) d v in
      rw (hops_at_law s n t, hops_at_law s (neighbour s n dir) t, neighbour_coords s h n hn dir) (omega arith)

-- No way by another node is shorter, in any dimension.
module _ (s : Shape) (h : shape_error s ≡ 0) (n v t : ℕ) (hn : n < node_count s) (hv : v < node_count s) (ht : t < node_count s) where
  pub part_triangle : (d : Dim) → part s n t d ≤ part s n v d + part s v t d
  part_triangle d =
      axis_triangle (part s n v d) (extent_of s d) (wrapped_in s d) _ _ _ (inside_at s _ (inside s h n hn) d) (inside_at s _ (inside s h v hv) d) (inside_at s _ (inside s h t ht) d) refl

  pub triangle : hops s n t ≤ hops s n v + hops s v t
  unfolding hops
  triangle = omega (arith, part_triangle X, part_triangle Y, part_triangle Z)
