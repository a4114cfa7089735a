-- Hops by coordinates are the hops of the nodes with these coordinates.
use Prim.Native.Nat.{ℕ, ◌+◌, ◌/◌, ◌%◌, ◌≤◌, ◌<◌}
use mathlib.Core.Bool.{Bool, true, false, ◌&&◌, and_assoc}
use mathlib.Core.Path.{◌≡◌, refl, sym, ap, ◌∙◌}
use native.Mathlib.Omega.{arith}
use lib.Dec.{leb, eqb}
use borrow.Author.Tests.{eq-eqb, ne_eqb, lt-ltb, le-ltb}
use Rattle.theory.proofs.Bools.{eqb_same}
use Rattle.theory.proofs.Cases.{by_le}
use Rattle.shape.specs.declared.shape.Shape.{Shape}
use Rattle.shape.specs.declared.shape.Coords.{Coords}
use Rattle.shape.specs.declared.shape.Dim.{Dim}
use Rattle.shape.specs.declared.shape.Dim.TheVariants.{X, Y, Z}
use Rattle.machine.specs.declared.leg.Mode.{Mode}
use Rattle.machine.specs.declared.leg.Mode.TheVariants.{Adaptive, Deterministic}
use Rattle.shape.specs.Shape.{shape_error, extent_of, coord_of, wrapped_in, put}
use Rattle.machine.specs.Number.{node_count, number_of, coords_of, Inside}
use Rattle.shape.specs.Axis.{axis_hops, place, axis_useful}
use Rattle.shape.specs.Steps.{goes}
use Rattle.machine.specs.Hop.{dir_dim, dir_plus, plus_dir, minus_dir, hops, link, neighbour, useful, toward, first_direction}
use Rattle.machine.specs.Torus.{allowed_by}
use Rattle.machine.specs.ByCoords.{in_dim, hops_along, link_along, useful_along, hops_at, link_at, moved_at, useful_at, toward_at, first_at, allowed_at}
use Rattle.shape.proofs.Shapes.{sound}
use Rattle.machine.proofs.Numbers.{number_below, coords_number, number_fits, inside}
use Rattle.shape.proofs.AxisLaws.{place_below, axis_below}

-- ---- coordinates within the extents
pub inside_at : (s : Shape) (c : Coords) → Inside s c → (d : Dim) → coord_of c d < extent_of s d
inside_at s c i X = i.x
inside_at s c i Y = i.y
inside_at s c i Z = i.z

pub inside_put : (s : Shape) (c : Coords) → Inside s c → (d : Dim) (v : ℕ) → v < extent_of s d → Inside s (put c d v)
inside_put s c i X v h = record { x = h; y = i.y; z = i.z }
inside_put s c i Y v h = record { x = i.x; y = h; z = i.z }
inside_put s c i Z v h = record { x = i.x; y = i.y; z = h }

pub inside_moved : (s : Shape) (c : Coords) → Inside s c → (dir : ℕ) → Inside s (moved_at s c dir)
unfolding moved_at
inside_moved s c i dir = let d = dir_dim dir in inside_put s c i d _ (place_below (extent_of s d) (coord_of c d) (dir_plus dir) (inside_at s c i d))

pub along_below : (s : Shape) (c t : Coords) → Inside s c → Inside s t → (d : Dim) → hops_along s c t d < extent_of s d
along_below s c t i j d = axis_below (extent_of s d) (wrapped_in s d) (coord_of c d) (coord_of t d) (inside_at s c i d) (inside_at s t j d)

-- One coordinate changed changes that dimension's part of the sum.
pub hops_put :
    (s : Shape) (c t : Coords) (d : Dim) (v : ℕ) →
    hops_at s (put c d v) t + hops_along s c t d ≡ hops_at s c t + axis_hops (extent_of s d) (wrapped_in s d) v (coord_of t d)
unfolding hops_at
hops_put s c t X v = omega arith
hops_put s c t Y v = omega arith
hops_put s c t Z v = omega arith

-- ---- values chosen by the dimension of a direction
dim_cases : (P : ℕ → Dim → Type 0) → ((dir : ℕ) → dir / 2 ≡ 0 → P dir X) → ((dir : ℕ) → dir / 2 ≡ 1 → P dir Y) → ((dir : ℕ) → 2 ≤ dir / 2 → P dir Z) → (dir : ℕ) → P dir (dir_dim dir)
unfolding dir_dim
dim_cases P x y z dir =
    by_le 2 dir
    (λ a. rw (le-ltb dir 2 a) (by_le 4 dir (λ b. rw (le-ltb dir 4 b) (z dir (omega arith))) (λ b. rw (lt-ltb dir 4 b) (y dir (omega arith)))))
    (λ a. rw (lt-ltb dir 2 a) (x dir (omega arith)))

pub in_dim_law : (f : Dim → ℕ) (dir : ℕ) → in_dim dir (f X) (f Y) (f Z) ≡ f (dir_dim dir)
in_dim_law f =
    dim_cases (λ dir d. in_dim dir (f X) (f Y) (f Z) ≡ f d)
    (λ dir e. rw (eq-eqb (dir / 2) 0 e))
    (λ dir e. rw (ne_eqb (dir / 2) 0 (λ z. omega arith), eq-eqb (dir / 2) 1 e))
    (λ dir e. rw (ne_eqb (dir / 2) 0 (λ z. omega arith), ne_eqb (dir / 2) 1 (λ z. omega arith)))

pub put_dim : (c : Coords) (v dir : ℕ) → ◌≡◌ {A = Coords} (record { x = in_dim dir v c.x c.x; y = in_dim dir c.y v c.y; z = in_dim dir c.z c.z v }) (put c (dir_dim dir) v)
put_dim c v =
    dim_cases (λ dir d. ◌≡◌ {A = Coords} (record { x = in_dim dir v c.x c.x; y = in_dim dir c.y v c.y; z = in_dim dir c.z c.z v }) (put c d v))
    (λ dir e. rw (eq-eqb (dir / 2) 0 e))
    (λ dir e. rw (ne_eqb (dir / 2) 0 (λ z. omega arith), eq-eqb (dir / 2) 1 e))
    (λ dir e. rw (ne_eqb (dir / 2) 0 (λ z. omega arith), ne_eqb (dir / 2) 1 (λ z. omega arith)))

pub moved_dim :
    (s : Shape) (c : Coords) (dir p next : ℕ) →
    p ≡ in_dim dir c.x c.y c.z →
    next ≡ place (extent_of s (dir_dim dir)) p (dir_plus dir) →
    ◌≡◌ {A = Coords} (record { x = in_dim dir next c.x c.x; y = in_dim dir c.y next c.y; z = in_dim dir c.z c.z next }) (moved_at s c dir)
unfolding moved_at
moved_dim s c dir p next ep en = put_dim c next dir ∙ rw (en, ep, in_dim_law (coord_of c) dir)

abbrev wrap_bit : Shape → Dim → ℕ
wrap_bit s X = s.wrap % 2
wrap_bit s Y = s.wrap / 2 % 2
wrap_bit s Z = s.wrap / 4 % 2

wrap_bit_law : (s : Shape) (d : Dim) → eqb (wrap_bit s d) 1 ≡ wrapped_in s d
wrap_bit_law s X = refl
wrap_bit_law s Y = refl
wrap_bit_law s Z = refl

pub wrapped_dim : (s : Shape) (dir : ℕ) → eqb (in_dim dir (s.wrap % 2) (s.wrap / 2 % 2) (s.wrap / 4 % 2)) 1 ≡ wrapped_in s (dir_dim dir)
wrapped_dim s dir = ap (λ b. eqb b 1) (in_dim_law (wrap_bit s) dir) ∙ wrap_bit_law s (dir_dim dir)

-- ---- the definitions by numbers, read by coordinates
pub hops_at_law : (s : Shape) (n t : ℕ) → hops s n t ≡ hops_at s (coords_of s n) (coords_of s t)
unfolding hops hops_at
hops_at_law s n t = refl

pub link_at_law : (s : Shape) (n dir : ℕ) → link s n dir ≡ link_at s (coords_of s n) dir
unfolding link link_at
link_at_law s n dir = refl

neighbour_at : (s : Shape) (n dir : ℕ) → neighbour s n dir ≡ number_of s (moved_at s (coords_of s n) dir)
unfolding neighbour moved_at
neighbour_at s n dir = refl

-- A hop leaves one hop fewer where it does so in its own dimension.
lowers :
    (s : Shape) (c t : Coords) (dir : ℕ) →
    (link_at s c dir && eqb (hops_at s (moved_at s c dir) t + 1) (hops_at s c t)) ≡ useful_at s c t dir
unfolding useful_at axis_useful link_at moved_at
lowers s c t dir =
    let d = dir_dim dir in
    let v = place (extent_of s d) (coord_of c d) (dir_plus dir) in
    let e = hops_put s c t d v in
    rw (eqb_same (hops_at s (put c d v) t + 1) (hops_at s c t) (axis_hops (extent_of s d) (wrapped_in s d) v (coord_of t d) + 1) (hops_along s c t d) (λ q. omega arith) (λ q. omega arith))
    (and_assoc (leb dir 5) (link_along s c d (dir_plus dir)) _)

-- The direction of a deterministic leg is that of the first dimension where the coordinates differ.
module _ (ties : ℕ → Bool) (s : Shape) (c t : Coords) where
  pub first_x : (c.x ≡ t.x → ⊥) → first_at ties s c t ≡ toward_at ties s c t X
  unfolding first_at
  first_x ne = rw (ne_eqb c.x t.x ne)

  pub first_y : c.x ≡ t.x → (c.y ≡ t.y → ⊥) → first_at ties s c t ≡ toward_at ties s c t Y
  unfolding first_at
  first_y e ne = rw (eq-eqb c.x t.x e, ne_eqb c.y t.y ne)

  pub first_z : c.x ≡ t.x → c.y ≡ t.y → (c.z ≡ t.z → ⊥) → first_at ties s c t ≡ toward_at ties s c t Z
  unfolding first_at
  first_z e f ne = rw (eq-eqb c.x t.x e, eq-eqb c.y t.y f, ne_eqb c.z t.z ne)

module _ (s : Shape) (h : shape_error s ≡ 0) where
  pub along_small : (c t : Coords) → Inside s c → Inside s t → (d : Dim) → hops_along s c t d ≤ 15
  along_small c t i j d = omega (arith, along_below s c t i j d, (sound s h d).high)

  module _ (n : ℕ) (hn : n < node_count s) where
    pub neighbour_coords : (dir : ℕ) → coords_of s (neighbour s n dir) ≡ moved_at s (coords_of s n) dir
    neighbour_coords dir = rw (neighbour_at s n dir) (coords_number s h _ (inside_moved s (coords_of s n) (inside s h n hn) dir))

    pub neighbour_below : (dir : ℕ) → neighbour s n dir < node_count s
    neighbour_below dir = rw (neighbour_at s n dir) (number_below s h _ (inside_moved s (coords_of s n) (inside s h n hn) dir))

    -- The node number that the code computes from the coordinates after the hop.
    pub neighbour_number : (dir : ℕ) → number_of s (moved_at s (coords_of s n) dir) % 65536 ≡ neighbour s n dir
    neighbour_number dir = number_fits s h _ (inside_moved s (coords_of s n) (inside s h n hn) dir) ∙ sym (neighbour_at s n dir)

    module _ (t : ℕ) where
      pub useful_at_law : (dir : ℕ) → useful s n t dir ≡ useful_at s (coords_of s n) (coords_of s t) dir
      unfolding useful
      useful_at_law dir = rw (hops_at_law s (neighbour s n dir) t, neighbour_coords dir, hops_at_law s n t, link_at_law s n dir) (lowers s (coords_of s n) (coords_of s t) dir)

      pub plus_of_law : (d : Dim) → useful s n t (plus_dir d) ≡ useful_along s (coords_of s n) (coords_of s t) d true
      unfolding useful_at dir_dim
      plus_of_law X = useful_at_law 0
      plus_of_law Y = useful_at_law 2
      plus_of_law Z = useful_at_law 4

      pub minus_of : (d : Dim) → useful s n t (minus_dir d) ≡ useful_along s (coords_of s n) (coords_of s t) d false
      unfolding useful_at dir_dim
      minus_of X = useful_at_law 1
      minus_of Y = useful_at_law 3
      minus_of Z = useful_at_law 5

      module _ (ties : ℕ → Bool) where
        pub toward_at_law : (d : Dim) → toward ties s n t d ≡ toward_at ties s (coords_of s n) (coords_of s t) d
        unfolding toward goes
        toward_at_law d = rw (plus_of_law d, minus_of d)

        pub first_at_law : first_direction ties s n t ≡ first_at ties s (coords_of s n) (coords_of s t)
        unfolding first_direction first_at
        first_at_law = rw (toward_at_law X, toward_at_law Y, toward_at_law Z)

        pub allowed_at_law : (m : Mode) (dir : ℕ) → allowed_by ties m s n t dir ≡ allowed_at ties m s (coords_of s n) (coords_of s t) dir
        unfolding allowed_by allowed_at
        allowed_at_law Adaptive dir = useful_at_law dir
        allowed_at_law Deterministic dir = rw first_at_law
