-- From what the code's calls give to what it answers.
use Prim.Native.Nat.{ℕ, ◌+◌, ◌-◌, ◌≤◌, ◌<◌}
use native.Mathlib.Omega.{arith}
use mathlib.Core.Path.{◌≡◌, refl, sym, ◌∙◌}
use mathlib.Core.Bool.{Bool, true, false, ◌&&◌}
use mathlib.Core.List.{List}
use Rattle.theory.proofs.Bools.{and_true}
use Rattle.shape.specs.declared.shape.Shape.{Shape}
use Rattle.machine.specs.Hop.{link, neighbour, opposite}
use Rattle.machine.specs.Node.{is_node}
use Rattle.machine.specs.Node as N
use Rattle.machine.proofs.Nodes.{node_of}
use Rattle.plan.specs.declared.layout.Fault.{Fault}
use Rattle.plan.specs.Layout.{shape_of, faults_of}
use Rattle.plan.specs.Kinds.{node_kind, kind_dir}
use Rattle.plan.specs.Checks.{Limits, plan_error, fault_exists}
use Rattle.plan.specs.Reading.{is_plan}
use Rattle.plan.proofs.Readings.{is_plan_law, is_no_plan}
use Rattle.dead.specs.Dead.{dead_link, link_answer}
use Rattle.dead.specs.Steps.{any_names, mark_bit, mark_link, mark_from, mark_fault}
use Rattle.dead.proofs.Links.{opposite_low}
use Rattle.dead.proofs.Table.{next_below}

-- ---- a link marked at both its ends
module _ (s : Shape) (n d : ℕ) (h : is_node s n ≡ true) where
  module _ (q o : ℕ) (eq : q ≡ N.neighbour_answer s n d) (eo : o ≡ opposite d) where
    other_end : q ≡ neighbour s n d
    other_end = eq ∙ rw h

    pub other_below : d ≤ 5 → (q < 4096) × (o ≤ 5)
    other_below k = (rw other_end (next_below s n (node_of s n h) d), rw eo (opposite_low d k))

    pub marked : (u t w : List ℕ) → u ≡ mark_bit t n d → w ≡ mark_bit u q o → (r : Bool) → r ≡ N.link_answer s n d → r ≡ true → w ≡ mark_link s t n d
    unfolding mark_link
    marked u t w eu ew r er yes-link =
        let l = (and_true (is_node s n) (link s n d) (sym er ∙ yes-link)).1 in
        ew ∙ rw (eu, other_end, eo, l)

  pub unmarked : (t : List ℕ) (r : Bool) → r ≡ N.link_answer s n d → r ≡ false → t ≡ mark_link s t n d
  unfolding mark_link
  unmarked t r er no_link =
      let l : link s n d ≡ false = sym (er ∙ rw h) ∙ no_link in
      rw l

-- ---- the links of a fault
pub exists_node : (s : Shape) (f : Fault) → fault_exists s f ≡ true → is_node s f.node ≡ true
unfolding fault_exists
exists_node s f h = (and_true (is_node s f.node) _ h).0

module _ (s : Shape) (f : Fault) (t w : List ℕ) where
  pub whole_node : node_kind f.kind ≡ true → w ≡ mark_from s t f.node 0 6 → w ≡ mark_fault s t f
  unfolding mark_fault
  whole_node h e = e ∙ rw h

  pub one_link : (d : ℕ) → node_kind f.kind ≡ false → d ≡ kind_dir f.kind → w ≡ mark_from s t f.node d (d + 1 - d) → w ≡ mark_fault s t f
  unfolding mark_fault
  one_link d h ed e =
      let one : d + 1 - d ≡ 1 = omega arith in
      e ∙ rw (one, h, ed)

-- ---- single questions
module _ (L : Limits) (s : List ℕ) (n d : ℕ) where
  pub declined_link : (e : ℕ) → e ≡ plan_error L s → (e ≡ 0 → ⊥) → false ≡ link_answer L s n d
  declined_link e h k = rw (is_no_plan L s e h k)

  no_link_test : (p a l x : Bool) → (a && l) ≡ false → false ≡ (p && (a && (l && x)))
  no_link_test false a l x h = refl
  no_link_test true false l x h = refl
  no_link_test true true l x h = rw h

  module _ (m : Shape) (em : m ≡ shape_of s) (r : Bool) (er : r ≡ N.link_answer m n d) where
    pub no_link : r ≡ false → false ≡ link_answer L s n d
    unfolding dead_link
    no_link h = no_link_test (is_plan L s) (is_node (shape_of s) n) (link (shape_of s) n d) _ (rw (← em) (sym er ∙ h))

    pub link_answer_law : (e : ℕ) → e ≡ plan_error L s → e ≡ 0 → r ≡ true → (q : ℕ) → q ≡ N.neighbour_answer m n d → (b : Bool) → b ≡ any_names (faults_of s) n d q → b ≡ link_answer L s n d
    unfolding dead_link any_names
    link_answer_law e ee z h q eq b eb =
        let both = and_true (is_node m n) (link m n d) (sym er ∙ h) in
        let to : q ≡ neighbour (shape_of s) n d = eq ∙ rw (both.0, em) in
        let node : is_node (shape_of s) n ≡ true = rw (← em) both.0 in
        let there : link (shape_of s) n d ≡ true = rw (← em) both.1 in
        eb ∙ rw (is_plan_law L s e ee z, node, there, to)
