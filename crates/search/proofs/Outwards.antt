-- The order outward from a node.
use Prim.Native.Nat.{ℕ, ◌+◌, ◌*◌, ◌<◌}
use native.Mathlib.Omega.{arith}
use mathlib.Core.Path.{◌≡◌, sym, ◌∙◌}
use mathlib.Core.Logic.{◌⊎◌, inl, inr}
use Rattle.theory.proofs.Cases.{by_le}
use Rattle.shape.specs.declared.shape.Shape.{Shape}
use Rattle.shape.specs.declared.shape.Coords.{Coords}
use Rattle.shape.specs.declared.shape.Dim.TheVariants.{X, Y, Z}
use Rattle.shape.specs.Shape.{shape_error, wrapped_in}
use Rattle.shape.proofs.Shapes.{sound}
use Rattle.shape.proofs.AxisLaws.{axis_below, axis_zero}
use Rattle.machine.specs.Number.{node_count, coords_of, number_of, Inside}
use Rattle.machine.specs.Hop.{hops}
use Rattle.machine.proofs.Numbers.{inside, number_coords}
use Rattle.machine.proofs.Laws.{part_triangle}
use Rattle.search.specs.Outward.{row_hops, place_hops, rank_of}

-- What bounds the places of a rank.
pub record Places (s : Shape) (A c : Coords) : Type 0 where
  pub x : c.x < 16
  pub row : c.y + 16 * c.z < 256
  pub y : c.y < 16
  pub level : place_hops s A c.x < 16
  pub hops : row_hops s A c.y c.z < 31

pub places : (s : Shape) → shape_error s ≡ 0 → (A c : Coords) → Inside s A → Inside s c → Places s A c
places s h A c a i =
    let x = (sound s h X).high in
    let y = (sound s h Y).high in
    let z = (sound s h Z).high in
    let hx = axis_below s.x (wrapped_in s X) A.x c.x a.x i.x in
    let hy = axis_below s.y (wrapped_in s Y) A.y c.y a.y i.y in
    let hz = axis_below s.z (wrapped_in s Z) A.z c.z a.z i.z in
    record { x = omega (arith, i.x); row = omega (arith, i.y, i.z); y = omega (arith, i.y); level = omega (arith, i.x); hops = omega (arith, i.y, i.z) }

rows_equal : (s : Shape) (A : Coords) (y z y' z' : ℕ) → y ≡ y' → z ≡ z' → row_hops s A y z ≡ row_hops s A y' z'
rows_equal s A y z y' z' ey ez = rw (ey, ez)

pub same_node : (s : Shape) → shape_error s ≡ 0 → (v w : ℕ) → (coords_of s v).x ≡ (coords_of s w).x → (coords_of s v).y ≡ (coords_of s w).y → (coords_of s v).z ≡ (coords_of s w).z → v ≡ w
unfolding number_of
same_node s h v w ex ey ez = sym (number_coords s h v) ∙ rw (ex, ey, ez) (number_coords s h w)

-- A node on the shortest ways to D comes before D, or it is D.
pub onward :
    (s : Shape) → shape_error s ≡ 0 → (S v D : ℕ) → S < node_count s → v < node_count s → D < node_count s → hops s S v + hops s v D ≡ hops s S D →
    (v ≡ D) ⊎ (rank_of s (coords_of s S) (coords_of s v) < rank_of s (coords_of s S) (coords_of s D))
unfolding rank_of hops
onward s h S v D h_s hv h_d way =
    let tx = part_triangle s h S v D h_s hv h_d X in
    let ty = part_triangle s h S v D h_s hv h_d Y in
    let tz = part_triangle s h S v D h_s hv h_d Z in
    let iv = inside s h v hv in
    let iD = inside s h D h_d in
    let pv = places s h (coords_of s S) (coords_of s v) (inside s h S h_s) iv in
    let pD = places s h (coords_of s S) (coords_of s D) (inside s h S h_s) iD in
    let u = coords_of s v in
    let e = coords_of s D in
    by_le (row_hops s (coords_of s S) e.y e.z) (row_hops s (coords_of s S) u.y u.z)
    (λ far.
    let ey : u.y ≡ e.y = axis_zero s.y (wrapped_in s Y) u.y e.y iv.y iD.y (omega arith) in
    let ez : u.z ≡ e.z = axis_zero s.z (wrapped_in s Z) u.z e.z iv.z iD.z (omega arith) in
    by_le (place_hops s (coords_of s S) e.x) (place_hops s (coords_of s S) u.x)
    (λ here.
    let ex : u.x ≡ e.x = axis_zero s.x (wrapped_in s X) u.x e.x iv.x iD.x (omega arith) in
    inl (same_node s h v D ex ey ez))
    (λ less. inr (omega (arith, pv.x, pD.x, rows_equal s (coords_of s S) u.y u.z e.y e.z ey ez))))
    (λ less. inr (omega (arith, pv.x, pv.row, pv.level, pD.x)))

-- Two nodes of one rank are one node.
pub same_rank :
    (s : Shape) → shape_error s ≡ 0 → (S v w : ℕ) → S < node_count s → v < node_count s → w < node_count s → rank_of s (coords_of s S) (coords_of s v) ≡ rank_of s (coords_of s S) (coords_of s w) → v ≡ w
unfolding rank_of
same_rank s h S v w h_s hv hw e =
    let a = places s h (coords_of s S) (coords_of s v) (inside s h S h_s) (inside s h v hv) in
    let b = places s h (coords_of s S) (coords_of s w) (inside s h S h_s) (inside s h w hw) in
    let r : row_hops s (coords_of s S) (coords_of s v).y (coords_of s v).z ≡ row_hops s (coords_of s S) (coords_of s w).y (coords_of s w).z = omega (arith, a.x, a.row, a.level, b.x, b.row, b.level) in
    let row : (coords_of s v).y + 16 * (coords_of s v).z ≡ (coords_of s w).y + 16 * (coords_of s w).z = omega (arith, a.x, a.level, b.x, b.level) in
    same_node s h v w (omega (arith, a.x, b.x)) (omega (arith, a.y, b.y)) (omega (arith, a.y, b.y))
