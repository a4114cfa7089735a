-- The code's own steps: marks in the table.
use Rattle.std.specs.Prelude.{ℕ, zero, suc, ◌+◌, ◌/◌, ◌%◌, ◌^◌, ◌<◌, ◌≡◌, Bool, cond, List, length, get_or, set, eqb}
use Rattle.shape.specs.declared.shape.Shape.{Shape}
use Rattle.machine.specs.Hop.{link, neighbour, opposite}
use Rattle.plan.specs.declared.layout.Fault.{Fault}
use Rattle.plan.specs.Kinds.{node_kind, kind_dir}
use Rattle.dead.specs.Dead.{some, names}

unfoldable pub any_names : List Fault → ℕ → ℕ → ℕ → Bool
any_names fs n d to = some (λ f. names f n d to) fs

abbrev pub odd : ℕ → Bool
odd x = eqb (x % 2) 1

-- The number with bit d set.
unfoldable pub with_bit : ℕ → ℕ → ℕ
with_bit v d = cond (odd (v / 2 ^ d)) v (v + 2 ^ d)

-- A table of 4,096 numbers of six bits.
pub record Marks (t : List ℕ) : Type 0 where
  pub long : length t ≡ 4096
  pub small : (n : ℕ) → get_or t n 0 < 64

unfoldable pub mark_bit : List ℕ → ℕ → ℕ → List ℕ
mark_bit t n d = set t n (with_bit (get_or t n 0) d)

-- The link leaving node n in direction d, at both its ends.
unfoldable pub mark_link : Shape → List ℕ → ℕ → ℕ → List ℕ
mark_link s t n d = cond (link s n d) (mark_bit (mark_bit t n d) (neighbour s n d) (opposite d)) t

-- The links leaving node n in k directions from d on.
unfoldable pub mark_from : Shape → List ℕ → ℕ → ℕ → ℕ → List ℕ
mark_from s t n d zero = t
mark_from s t n d (suc k) = mark_link s (mark_from s t n d k) n (d + k)

-- The links that a fault makes dead.
unfoldable pub mark_fault : Shape → List ℕ → Fault → List ℕ
mark_fault s t f = cond (node_kind f.kind) (mark_from s t f.node 0 6) (mark_from s t f.node (kind_dir f.kind) 1)

-- The node that a fault makes dead.
unfoldable pub mark_node : List ℕ → Fault → List ℕ
mark_node t f = cond (node_kind f.kind) (set t f.node 1) t
