-- The losses of a plan: one for each fault, in the faults' order.
use Rattle.std.specs.Prelude.{ℕ, ◌+◌, ◌*◌, ◌/◌, ◌≤◌, ◌<◌, ◌≡◌, cond, List, get_or}
use Rattle.shape.specs.declared.shape.Shape.{Shape}
use Rattle.machine.specs.Number.{coords_of}
use Rattle.plan.specs.declared.layout.Fault.{Fault}
use Rattle.plan.specs.Layout.{shape_of, fault_count, fault_at}
use Rattle.plan.specs.Kinds.{node_kind, kind_dir}
use Rattle.plan.specs.Checks.{large, most_faults}
use Rattle.plan.specs.Reading.{is_plan}

-- Kinds 0, 1, 2, 'the link leaving that node in X+, Y+, Z+', dead both ways: 6, 7, 8. Kind 3, the node: 9, all its links.
unfoldable pub kept_kind : ℕ → ℕ
kept_kind k = cond (node_kind k) 9 (6 + kind_dir k / 2)

-- The coordinates of the fault's node, four bits each, and the kind.
unfoldable pub word_of : Shape → Fault → ℕ
word_of s f = let c = coords_of s f.node in c.x + 16 * c.y + 256 * c.z + 4096 * kept_kind f.kind

-- The first `count` of these words are the losses of the plan p; it has none where a check declines it.
pub record AreLosses (p words : List ℕ) (count : ℕ) : Type 0 where
  pub counted : count ≡ cond (is_plan large p) (fault_count p) 0
  pub few : count ≤ most_faults
  pub each : (i : ℕ) → i < count → get_or words i 0 ≡ word_of (shape_of p) (fault_at p i)
