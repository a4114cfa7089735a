-- The links that a plan's losses leave sound are the plan's sound links.
use Prim.Native.Nat.{ℕ, ◌+◌, ◌-◌, ◌*◌, ◌/◌, ◌<◌}
use native.Mathlib.Omega.{arith}
use mathlib.Core.Path.{◌≡◌, refl, sym, ap, ◌∙◌, subst}
use mathlib.Core.Bool.{Bool, true, false, not, ◌&&◌, ◌||◌}
use mathlib.Core.Logic.{⊎_elim}
use mathlib.Core.List.{List}
use lib.ListN.{get_or}
use lib.Dec.{eqb}
use Rattle.theory.proofs.Bools.{eqb_same}
use Rattle.theory.proofs.Cases.{test}
use Rattle.shape.specs.declared.shape.Shape.{Shape}
use Rattle.shape.specs.declared.shape.Coords.{Coords}
use Rattle.shape.specs.declared.shape.Dim.{Dim}
use Rattle.shape.specs.declared.shape.Dim.TheVariants.{X, Y, Z}
use Rattle.machine.specs.Number.{node_count, coords_of, Inside}
use Rattle.machine.specs.Hop.{plus_dir, opposite, link, neighbour}
use Rattle.machine.specs.ByCoords.{moved_at}
use Rattle.machine.proofs.ByCoords.{neighbour_coords}
use Rattle.plan.specs.declared.layout.Fault.{Fault}
use Rattle.plan.specs.Layout.{shape_of, fault_count, fault_at, faults_of}
use Rattle.plan.specs.Kinds.{link_kind, node_kind, kind_dim, kind_dir}
use Rattle.plan.specs.Checks.{large, torus_plans, fault_exists, plan_error}
use Rattle.plan.proofs.Listed.{fault_exists_law}
use Rattle.plan.proofs.Readings.{is_plan_law}
use Rattle.dead.specs.Dead as Dead
use Rattle.dead.specs.Dead.{dead_link}
use Rattle.dead.proofs.Links.{kind_low, names_of_node, names_of_link, exists_of}
use Rattle.dead.proofs.Laws.{sound_or_dead}
use Rattle.choice.specs.Pair.{sound_in}
use Rattle.losses.specs.Loss.{loss_at, loss_kind, plus_of, same_coords, names_both, names_node, names, some_below, sound_but}
use Rattle.losses.specs.OfPlan.{kept_kind, word_of, AreLosses}
use Rattle.losses.proofs.SomeBelow.{some_listed}
use Rattle.losses.proofs.Same.{same_nodes}
use Rattle.losses.proofs.ByKind.{names_both_law, names_all}
use Rattle.losses.proofs.Parts.{at_inside, kind_is, at_is}

-- ---- the kinds of links
plus_kept : (d : Dim) → 2 * (6 + plus_dir d / 2 - 6) ≡ plus_dir d
plus_kept X = refl
plus_kept Y = refl
plus_kept Z = refl

plus_back : (d : Dim) → opposite (plus_dir d) ≡ plus_dir d + 1
unfolding opposite
plus_back X = refl
plus_back Y = refl
plus_back Z = refl

kept_node : (k : ℕ) → node_kind k ≡ true → kept_kind k ≡ 9
unfolding kept_kind
kept_node k h = rw h

kept_link : (k : ℕ) → node_kind k ≡ false → kept_kind k ≡ 6 + kind_dir k / 2
unfolding kept_kind
kept_link k h = rw h

eqb_turn : (a b : ℕ) → eqb a b ≡ eqb b a
eqb_turn a b = eqb_same a b b a sym sym

-- ---- a fault's word names what the fault names
module _ (s : Shape) (f : Fault) (x : fault_exists s f ≡ true) (n d : ℕ) (hn : n < node_count s) where
  here : same_coords (loss_at (word_of s f)) (coords_of s n) ≡ eqb f.node n
  here = ap (λ (c : Coords). same_coords c (coords_of s n)) (at_is s f x) ∙ same_nodes s (exists_of s f x).node.sound f.node n

  there : same_coords (loss_at (word_of s f)) (moved_at s (coords_of s n) d) ≡ eqb f.node (neighbour s n d)
  there =
      let h = (exists_of s f x).node.sound in
      ap (λ (c : Coords). same_coords c (moved_at s (coords_of s n) d)) (at_is s f x)
      ∙ ap (λ (c : Coords). same_coords (coords_of s f.node) c) (sym (neighbour_coords s h n hn d))
      ∙ same_nodes s h f.node (neighbour s n d)

  names_node_law : node_kind f.kind ≡ true → names s (word_of s f) n d ≡ Dead.names f n d (neighbour s n d)
  unfolding names_node
  names_node_law k =
      names_all s (word_of s f) n d (kind_is s f x ∙ kept_node f.kind k)
      ∙ ap (λ (b : Bool). b || same_coords (loss_at (word_of s f)) (moved_at s (coords_of s n) d)) here
      ∙ ap (λ (b : Bool). eqb f.node n || b) there
      ∙ sym (names_of_node f n d (neighbour s n d) k)

  names_link_law : node_kind f.kind ≡ false → link_kind f.kind ≡ true → names s (word_of s f) n d ≡ Dead.names f n d (neighbour s n d)
  unfolding names_both kind_dir
  names_link_law k l =
      let e : loss_kind (word_of s f) ≡ 6 + kind_dir f.kind / 2 = kind_is s f x ∙ kept_link f.kind k in
      let p : plus_of (loss_kind (word_of s f)) ≡ kind_dir f.kind = ap plus_of e ∙ plus_kept (kind_dim f.kind) in
      let plus = kind_dir f.kind in
      let low = kind_low f.kind in
      names_both_law s (word_of s f) n d (omega arith) (omega arith)
      ∙ ap (λ (q : ℕ). names_both s (loss_at (word_of s f)) q n d) p
      ∙ ap (λ (b : Bool). (eqb plus d && b) || (eqb (plus + 1) d && same_coords (loss_at (word_of s f)) (moved_at s (coords_of s n) d))) here
      ∙ ap (λ (b : Bool). (eqb plus d && eqb f.node n) || (eqb (plus + 1) d && b)) there
      ∙ ap (λ (b : Bool). (b && eqb f.node n) || (eqb (plus + 1) d && eqb f.node (neighbour s n d))) (eqb_turn plus d)
      ∙ ap (λ (b : Bool). (eqb d plus && eqb f.node n) || (b && eqb f.node (neighbour s n d))) (eqb_turn (plus + 1) d ∙ ap (eqb d) (sym (plus_back (kind_dim f.kind))))
      ∙ sym (names_of_link f n d (neighbour s n d) k l)

  names_is : names s (word_of s f) n d ≡ Dead.names f n d (neighbour s n d)
  names_is =
      test (node_kind f.kind) names_node_law
      (λ k. ⊎_elim (λ a. names_node_law a) (λ a. names_link_law k a.0) (exists_of s f x).kind)

-- ---- a plan's losses
module _ (p : List ℕ) (h : plan_error large p ≡ 0) (words : List ℕ) (count : ℕ) (a : AreLosses p words count) where
  pub count_is : count ≡ fault_count p
  count_is = a.counted ∙ rw (is_plan_law large p (plan_error large p) refl h)

  -- They are of nodes.
  pub loss_inside : (i : ℕ) → i < count → Inside (shape_of p) (loss_at (get_or words i 0))
  loss_inside i l =
      let x = fault_exists_law torus_plans large p h i (omega (arith, count_is)) in
      let e = ap loss_at (a.each i l) ∙ at_is (shape_of p) (fault_at p i) x in
      subst (λ (c : Coords). Inside (shape_of p) c) (sym e) (at_inside (shape_of p) (fault_at p i) x)

  pub sound_but_law : (n d : ℕ) → n < node_count (shape_of p) → link (shape_of p) n d ≡ true → sound_but (shape_of p) words count n d ≡ sound_in p n d
  unfolding sound_but dead_link faults_of
  sound_but_law n d hn l =
      let s = shape_of p in
      let same : (i : ℕ) → i < count → names s (get_or words i 0) n d ≡ Dead.names (fault_at p i) n d (neighbour s n d) = λ i b. ap (λ (w : ℕ). names s w n d) (a.each i b) ∙ names_is s (fault_at p i) (fault_exists_law torus_plans large p h i (omega (arith, count_is))) n d hn in
      let lost = some_listed (λ f. Dead.names f n d (neighbour s n d)) (fault_at p) count (λ i. names s (get_or words i 0) n d) same in
      let dead : some_below count (λ i. names s (get_or words i 0) n d) ≡ dead_link s (faults_of p) n d = lost ∙ rw (count_is, l) in
      ap not dead
      ∙ sym (sound_or_dead s (faults_of p) n d l)
