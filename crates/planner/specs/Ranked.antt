-- The code's own steps: what is known of the nodes that are noted.
use Rattle.std.specs.Prelude.{ℕ, ◌-◌, ◌≤◌, ◌<◌, ◌≡◌, ◌⊎◌, true, false, cond, not, ◌&&◌, List, ltb, leb, eqb, length, get_or}
use Rattle.shape.specs.declared.shape.Shape.{Shape}
use Rattle.shape.specs.declared.shape.Coords.{Coords}
use Rattle.machine.specs.Number.{node_count, coords_of}
use Rattle.plan.specs.Layout.{shape_of}
use Rattle.rows.specs.Bits.{bit}
use Rattle.rows.specs.Rows.{in_rows, in_set}
use Rattle.search.specs.Number.{unclear}
use Rattle.search.specs.Outward.{place_hops, row_hops, rank_of}
use Rattle.notes.specs.Known.{NoteTo}
use Rattle.planner.specs.Known.{Work, Unskipped, TwoOf}

-- A node's place in the order in which they are noted.
abbrev pub rank : List ℕ → ℕ → ℕ → ℕ
rank p S w = rank_of (shape_of p) (coords_of (shape_of p) S) (coords_of (shape_of p) w)

-- The nodes of a lower rank than K that are not in the set `skip` have their notes and two vias; the others have none.
pub record Noting (p work : List ℕ) (S : ℕ) (skip notes twos : List ℕ) (K : ℕ) : Type 0 where
  pub long : length notes ≡ 4096
  pub wide : length twos ≡ 4096
  pub made : Work p work → (w : ℕ) → w < node_count (shape_of p) → rank p S w < K → in_set (shape_of p) skip 0 w ≡ false → NoteTo p S w (get_or notes w 0)
  pub left : (w : ℕ) → w < node_count (shape_of p) → (K ≤ rank p S w) ⊎ (in_set (shape_of p) skip 0 w ≡ true) → get_or notes w 0 ≡ unclear
  pub two :
      Work p work → (w : ℕ) → w < node_count (shape_of p) → rank p S w < K → in_set (shape_of p) skip 0 w ≡ false → Unskipped p S skip w → TwoOf p S notes twos w

-- The places at k hops in X whose node in the row y, z is not in the set `skip`.
abbrev pub LevelWord : Shape → Coords → List ℕ → ℕ → ℕ → ℕ → ℕ → Type 0
LevelWord s A skip y z k word =
    (x : ℕ) → x < 16 → bit word x ≡ (ltb x s.x && (eqb (place_hops s A x) k && not (in_rows skip 0 (record { x = x; y = y; z = z }))))

-- The places in Y at r hops, of a plane at `far` hops; `rows` has the places at each number of hops.
unfoldable pub due_in : List ℕ → ℕ → ℕ → ℕ
due_in rows far r = cond (ltb r far) 0 (cond (leb 16 (r - far)) 0 (get_or rows (r - far) 0))

-- The places in Y whose row of the plane z is at r hops.
abbrev pub PlaneWord : Shape → Coords → ℕ → ℕ → ℕ → Type 0
PlaneWord s A z r word = (y : ℕ) → y < 16 → bit word y ≡ (ltb y s.y && eqb (row_hops s A y z) r)
