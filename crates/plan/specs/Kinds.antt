-- The kinds of a fault.
use Rattle.std.specs.Prelude.{ℕ, Bool, ltb, eqb}
use Rattle.shape.specs.declared.shape.Dim.{Dim}
use Rattle.shape.specs.declared.shape.Dim.TheVariants.{X, Y, Z}
use Rattle.machine.specs.Hop.{pick_dim, plus_dir}

-- Kinds 0, 1, 2: the link leaving that node in X+, Y+, Z+.
abbrev pub link_kind : ℕ → Bool
link_kind k = ltb k 3

unfoldable pub kind_dim : ℕ → Dim
kind_dim k = pick_dim (eqb k 0) X (pick_dim (eqb k 1) Y Z)

unfoldable pub kind_dir : ℕ → ℕ
kind_dir k = plus_dir (kind_dim k)

-- Kind 3: the node.
abbrev pub node_kind : ℕ → Bool
node_kind k = eqb k 3
