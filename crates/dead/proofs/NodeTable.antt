-- The table of dead nodes, fault by fault.
use Prim.Native.Nat.{ℕ, ◌+◌, ◌-◌, ◌≤◌, ◌<◌}
use native.Mathlib.Omega.{arith}
use native.Mathlib.Decide.{ℕ_discrete}
use mathlib.Core.Path.{◌≡◌, refl, sym, ◌∙◌}
use mathlib.Core.Bool.{◌||◌}
use mathlib.Core.List.{List, [], ◌∷◌}
use lib.ListN.{get_or, set, length, length-set, replicate}
use lib.Seq.{get_or-set_same, get_or-set_other}
use lib.Dec.{eqb}
use borrow.Author.Tests.{eq-eqb, ne_eqb}
use Rattle.theory.proofs.Cases.{test}
use Rattle.sheet.specs.Bytes.{list_from}
use Rattle.sheet.proofs.Records.{from_cons, from_none}
use Rattle.sheet.proofs.Fill.{get_d_same}
use Rattle.plan.specs.declared.layout.Fault.{Fault}
use Rattle.plan.specs.Kinds.{node_kind}
use Rattle.plan.specs.Layout.{shape_of, fault_count, fault_at, faults_of}
use Rattle.plan.specs.Checks.{Limits, torus_plans, plan_error}
use Rattle.plan.specs.Reading.{is_plan}
use Rattle.plan.proofs.Listed.{fault_exists_law}
use Rattle.plan.proofs.Readings.{is_no_plan}
use Rattle.dead.specs.Dead.{some, names_node, dead_node, bit_of, node_answer}
use Rattle.dead.specs.Steps.{mark_node}
use Rattle.dead.proofs.Links.{exists_of}
use Rattle.dead.proofs.Table.{node_below}

-- The table t of the faults fs.
pub record Nodes (fs : List Fault) (t : List ℕ) : Type 0 where
  pub long : length t ≡ 4096
  pub is : (n : ℕ) → get_or t n 0 ≡ bit_of (dead_node fs n)

no_nodes : Nodes [] (replicate 4096 0)
unfolding dead_node some
no_nodes = record { long = refl; is = λ n. get_d_same {A = ℕ} 0 4096 n }

one_more : (f : Fault) (fs : List Fault) (t : List ℕ) → f.node < 4096 → Nodes fs t → Nodes (f ∷ fs) (mark_node t f)
unfolding dead_node some mark_node names_node
one_more f fs t h x =
    test (node_kind f.kind)
    (λ k. record { long = rw k (length-set t f.node 1 ∙ x.long); is = λ n. rw k (marked n (ℕ_discrete n f.node)) })
    (λ k. record { long = rw k x.long; is = λ n. rw k (x.is n) })
  where
    marked : (n : ℕ) → Dec (n ≡ f.node) → get_or (set t f.node 1) n 0 ≡ bit_of (eqb f.node n || dead_node fs n)
    marked n (yes p) = rw (p, get_or-set_same t f.node 1 0 (omega (arith, x.long)), eq-eqb f.node f.node refl)
    marked n (no q) = rw (get_or-set_other t f.node n 1 0 q, ne_eqb f.node n (λ e. q (sym e))) (x.is n)

-- ---- the loop, from the last fault to the first
pub record Marking (L : Limits) (s : List ℕ) (t : List ℕ) (i : ℕ) : Type 0 where
  pub plan : plan_error L s ≡ 0
  pub within : i ≤ fault_count s
  pub nodes : Nodes (list_from (fault_at s) i (fault_count s - i)) t

module _ (L : Limits) (s : List ℕ) where
  pub begin : plan_error L s ≡ 0 → (i : ℕ) → i ≡ fault_count s → Marking L s (replicate 4096 0) i
  begin h i c = record { plan = h; within = omega arith; nodes = rw (from_none (fault_at s) i (fault_count s) (omega arith)) no_nodes }

  module _ (t : List ℕ) (i : ℕ) (g : Marking L s t i) where
    pub below : (f : Fault) → f ≡ fault_at s (i - 1) → 0 < i → f.node < 4096
    below f e h =
        let z = exists_of (shape_of s) (fault_at s (i - 1)) (fault_exists_law torus_plans L s g.plan (i - 1) (omega (arith, g.within))) in
        rw e (node_below (shape_of s) (fault_at s (i - 1)).node z.node)

    pub onward : (f : Fault) (next : List ℕ) → f ≡ fault_at s (i - 1) → next ≡ mark_node t f → 0 < i → Marking L s next (i - 1)
    onward f next e q h =
        let b : i - 1 + 1 ≡ i = omega arith in
        let more : list_from (fault_at s) (i - 1) (fault_count s - (i - 1)) ≡ f ∷ list_from (fault_at s) i (fault_count s - i) = from_cons (fault_at s) (i - 1) (fault_count s) (omega (arith, g.within)) ∙ rw (b, e) in
        record { plan = g.plan; within = omega (arith, g.within); nodes = rw (more, q) (one_more f _ t (below f e h) g.nodes) }

    pub ended : i ≡ 0 → (n : ℕ) → get_or t n 0 ≡ bit_of (node_answer L s n)
    unfolding faults_of is_plan
    ended z n =
        let e : fault_count s - i ≡ fault_count s = omega arith in
        g.nodes.is n ∙ rw (e, z, eq-eqb (plan_error L s) 0 g.plan)

pub declined_nodes : (L : Limits) (s : List ℕ) (e : ℕ) → e ≡ plan_error L s → (e ≡ 0 → ⊥) → (n : ℕ) → get_or (replicate 4096 0) n 0 ≡ bit_of (node_answer L s n)
declined_nodes L s e h k n = get_d_same {A = ℕ} 0 4096 n ∙ rw (is_no_plan L s e h k)
