-- 'A dead link is dead both ways. A dead node makes all its links dead. Dead is what a plan's faults of kinds 0 to 3 name, and those links; every
-- other node or link is sound.' A link is asked for by a node and a direction: the link that leaves the node in this direction.
use Rattle.std.specs.Prelude.{ℕ, ◌+◌, ◌*◌, Bool, false, not, cond, ◌&&◌, ◌||◌, List, [], ◌∷◌, eqb}
use Rattle.shape.specs.declared.shape.Shape.{Shape}
use Rattle.machine.specs.Hop.{link, neighbour, opposite}
use Rattle.machine.specs.Node.{is_node}
use Rattle.plan.specs.declared.layout.Fault.{Fault}
use Rattle.plan.specs.Layout.{shape_of, faults_of}
use Rattle.plan.specs.Kinds.{link_kind, node_kind, kind_dir}
use Rattle.plan.specs.Checks.{Limits}
use Rattle.plan.specs.Reading.{is_plan}

-- Some fault of the list is such.
unfoldable pub some : (Fault → Bool) → List Fault → Bool
some such [] = false
some such (f ∷ fs) = such f || some such fs

-- Kind 3: the node.
unfoldable pub names_node : Fault → ℕ → Bool
names_node f n = node_kind f.kind && eqb f.node n

unfoldable pub dead_node : List Fault → ℕ → Bool
dead_node fs n = some (λ f. names_node f n) fs

-- Kinds 0, 1, 2: the link leaving that node in X+, Y+, Z+, dead both ways. It leaves node n in direction d, to the node `to`: that way, or back.
unfoldable pub names_link : Fault → ℕ → ℕ → ℕ → Bool
names_link f n d to =
    let plus = kind_dir f.kind in
    link_kind f.kind && ((eqb d plus && eqb f.node n) || (eqb d (opposite plus) && eqb f.node to))

-- A dead node makes all its links dead.
unfoldable pub names : Fault → ℕ → ℕ → ℕ → Bool
names f n d to = (names_node f n || names_node f to) || names_link f n d to

unfoldable pub dead_link : Shape → List Fault → ℕ → ℕ → Bool
dead_link s fs n d = link s n d && some (λ f. names f n d (neighbour s n d)) fs

-- Every other link is sound.
unfoldable pub sound : Shape → List Fault → ℕ → ℕ → Bool
sound s fs n d = link s n d && not (dead_link s fs n d)

-- ---- what is answered of a plan sheet: no where a check declines the sheet or there is no such node
abbrev pub node_answer : Limits → List ℕ → ℕ → Bool
node_answer L s n = is_plan L s && dead_node (faults_of s) n

abbrev pub link_answer : Limits → List ℕ → ℕ → ℕ → Bool
link_answer L s n d = is_plan L s && (is_node (shape_of s) n && dead_link (shape_of s) (faults_of s) n d)

-- ---- a byte for each node
abbrev pub bit_of : Bool → ℕ
bit_of b = cond b 1 0

-- The number with these bits, the first lowest.
unfoldable pub value_of : List Bool → ℕ
value_of [] = 0
value_of (b ∷ bs) = bit_of b + 2 * value_of bs

-- Bit d for each direction d.
unfoldable pub bits : (ℕ → Bool) → ℕ
bits f = value_of (f 0 ∷ f 1 ∷ f 2 ∷ f 3 ∷ f 4 ∷ f 5 ∷ [])

-- Bit d is set where the link leaving node n in direction d is dead.
unfoldable pub mask_of : Shape → List Fault → ℕ → ℕ
mask_of s fs n = bits (dead_link s fs n)

abbrev pub mask_answer : Limits → List ℕ → ℕ → ℕ
mask_answer L s n = cond (is_plan L s && is_node (shape_of s) n) (mask_of (shape_of s) (faults_of s) n) 0
