-- What a fault names, seen from its own node: the links that leave it, each at both its ends.
use Prim.Native.Nat.{ℕ, zero, suc, ◌+◌, ◌≤◌, ◌<◌}
use native.Mathlib.Omega.{arith}
use mathlib.Core.Path.{◌≡◌, refl, sym, ap, ◌∙◌}
use mathlib.Core.Logic.{◌⊎◌, inl, inr, ⊎_elim}
use mathlib.Core.Bool.{Bool, true, false, ◌&&◌, ◌||◌, false≢true}
use lib.Dec.{eqb, leb, lit≤}
use borrow.Author.Tests.{eq-eqb, eqb-true, leb-true, le-ltb}
use Rattle.theory.proofs.Bools.{and_true, same_test}
use Rattle.theory.proofs.Cases.{by_order}
use Rattle.shape.specs.declared.shape.Shape.{Shape}
use Rattle.shape.specs.declared.shape.Dim.{Dim}
use Rattle.shape.specs.declared.shape.Dim.TheVariants.{X, Y, Z}
use Rattle.machine.specs.Hop.{plus_dir, link, neighbour, opposite}
use Rattle.machine.specs.Node.{is_node}
use Rattle.machine.proofs.Nodes.{Node, node_of}
use Rattle.machine.proofs.Directions.{opposite_is, opposite_twice}
use Rattle.machine.proofs.Laws.{link_back, neighbour_back}
use Rattle.plan.specs.declared.layout.Fault.{Fault}
use Rattle.plan.specs.Kinds.{link_kind, node_kind, kind_dim, kind_dir}
use Rattle.plan.specs.Checks.{fault_exists}
use Rattle.dead.specs.Dead.{names_node, names_link, names}
use Rattle.dead.proofs.Bools.{or_off, either_of, left_true, right_true, both_true}

-- ---- directions
pub opposite_low : (d : ℕ) → d ≤ 5 → opposite d ≤ 5
opposite_low d h = (opposite_is d h).low

pub link_low : (s : Shape) (n d : ℕ) → link s n d ≡ true → d ≤ 5
unfolding link
link_low s n d l = leb-true d 5 (and_true (leb d 5) _ l).0

plus_low : (d : Dim) → plus_dir d ≤ 4
plus_low X = lit≤ tt
plus_low Y = lit≤ tt
plus_low Z = lit≤ tt

pub kind_low : (k : ℕ) → kind_dir k ≤ 4
unfolding kind_dir
kind_low k = plus_low (kind_dim k)

-- ---- the link leaving node m in direction e, at both its ends
unfoldable pub joins : Shape → ℕ → ℕ → ℕ → ℕ → Bool
joins s m e n d = link s m e && ((eqb n m && eqb d e) || (eqb n (neighbour s m e) && eqb d (opposite e)))

-- The links leaving node m in k directions from e on.
unfoldable pub joins_from : Shape → ℕ → ℕ → ℕ → ℕ → ℕ → Bool
joins_from s m e zero n d = false
joins_from s m e (suc k) n d = joins_from s m e k n d || joins s m (e + k) n d

-- The link leaving n in direction d is that one.
abbrev pub IsLink : Shape → ℕ → ℕ → ℕ → ℕ → Type 0
IsLink s m e n d = ((n ≡ m) × (d ≡ e)) ⊎ ((neighbour s n d ≡ m) × (d ≡ opposite e))

module _ (s : Shape) (m : ℕ) (hm : Node s m) where
  joins_is : (e n d : ℕ) → joins s m e n d ≡ true → (link s n d ≡ true) × IsLink s m e n d
  unfolding joins
  joins_is e n d t =
      let l = and_true (link s m e) _ t in
      ⊎_elim
      (λ (a : (eqb n m && eqb d e) ≡ true). let b = and_true (eqb n m) (eqb d e) a in
      let en = eqb-true n m b.0 in
      let ed = eqb-true d e b.1 in
      (rw (en, ed) l.0, inl (en, ed)))
      (λ (a : (eqb n (neighbour s m e) && eqb d (opposite e)) ≡ true). let b = and_true (eqb n (neighbour s m e)) (eqb d (opposite e)) a in
      let en = eqb-true n (neighbour s m e) b.0 in
      let ed = eqb-true d (opposite e) b.1 in
      (rw (en, ed) (link_back s hm.sound m e hm.below l.0), inr (rw (en, ed) (neighbour_back s hm.sound m e hm.below l.0), ed)))
      (either_of (eqb n m && eqb d e) _ l.1)

  module _ (n : ℕ) (hn : Node s n) (d : ℕ) (l : link s n d ≡ true) where
    joins_there : n ≡ m → joins s m d n d ≡ true
    unfolding joins
    joins_there e = both_true (link s m d) _ (rw (← e) l) (left_true (eqb n m && eqb d d) _ (both_true (eqb n m) (eqb d d) (eq-eqb n m e) (eq-eqb d d refl)))

    joins_back : neighbour s n d ≡ m → joins s m (opposite d) n d ≡ true
    unfolding joins
    joins_back e =
        let o = opposite d in
        both_true (link s m o) _ (rw (← e) (link_back s hn.sound n d hn.below l))
        (right_true (eqb n m && eqb d o) _
        (both_true (eqb n (neighbour s m o)) (eqb d (opposite o))
        (eq-eqb n (neighbour s m o) (rw (← e) (sym (neighbour_back s hn.sound n d hn.below l))))
        (eq-eqb d (opposite o) (sym (opposite_twice d (link_low s n d l))))))

from_of : (s : Shape) (m e k j n d : ℕ) → e ≤ j → j < e + k → joins s m j n d ≡ true → joins_from s m e k n d ≡ true
unfolding joins_from
from_of s m e zero j n d l h t = absurd (omega arith)
from_of s m e (suc k) j n d l h t =
    by_order j (e + k)
    (λ a. left_true (joins_from s m e k n d) _ (from_of s m e k j n d l a t))
    (λ a. right_true (joins_from s m e k n d) (joins s m (e + k) n d) (rw (← a) t))
    (λ a. absurd (omega arith))

-- One of the directions from e on.
record Some (s : Shape) (m e k n d : ℕ) : Type 0 where
  at : ℕ
  from : e ≤ at
  below : at < e + k
  joined : joins s m at n d ≡ true

from_is : (s : Shape) (m e k n d : ℕ) → joins_from s m e k n d ≡ true → Some s m e k n d
unfolding joins_from
from_is s m e zero n d t = absurd (false≢true t)
from_is s m e (suc k) n d t =
    ⊎_elim
    (λ (a : joins_from s m e k n d ≡ true). let x = from_is s m e k n d a in record { at = x.at; from = x.from; below = omega (arith, x.below); joined = x.joined })
    (λ a. record { at = e + k; from = omega arith; below = omega arith; joined = a })
    (either_of (joins_from s m e k n d) _ t)

-- ---- what a fault names, by its kind
module _ (f : Fault) (n d to : ℕ) where
  pub names_of_node : node_kind f.kind ≡ true → names f n d to ≡ (eqb f.node n || eqb f.node to)
  unfolding names names_node names_link
  names_of_node h =
      let e = eqb-true f.kind 3 h in
      rw (h, le-ltb f.kind 3 (omega arith)) (or_off (eqb f.node n || eqb f.node to))

  pub names_of_link : node_kind f.kind ≡ false → link_kind f.kind ≡ true → names f n d to ≡ ((eqb d (kind_dir f.kind) && eqb f.node n) || (eqb d (opposite (kind_dir f.kind)) && eqb f.node to))
  unfolding names names_node names_link
  names_of_link h l = rw (h, l)

-- What is known of a fault that exists.
pub record Exists (s : Shape) (f : Fault) : Type 0 where
  pub node : Node s f.node
  pub kind : (node_kind f.kind ≡ true) ⊎ ((link_kind f.kind ≡ true) × (link s f.node (kind_dir f.kind) ≡ true))

pub exists_of : (s : Shape) (f : Fault) → fault_exists s f ≡ true → Exists s f
unfolding fault_exists
exists_of s f h =
    let p = and_true (is_node s f.node) _ h in
    record {
      node = node_of s f.node p.0;
      kind = ⊎_elim (λ (a : node_kind f.kind ≡ true). inl a) (λ a. inr (and_true (link_kind f.kind) _ a)) (either_of (node_kind f.kind) _ p.1);
    }

-- ---- the fault makes the link dead that leaves n in direction d
unfoldable pub kills : Shape → Fault → ℕ → ℕ → Bool
kills s f n d = link s n d && names f n d (neighbour s n d)

module _ (s : Shape) (f : Fault) (x : Exists s f) (n : ℕ) (hn : Node s n) (d : ℕ) where
  -- Kind 3: every link of the node.
  pub node_kills : node_kind f.kind ≡ true → joins_from s f.node 0 6 n d ≡ kills s f n d
  unfolding kills
  node_kills h =
      same_test (joins_from s f.node 0 6 n d) (link s n d && names f n d (neighbour s n d))
      (λ t.
      let y = from_is s f.node 0 6 n d t in
      let j = joins_is s f.node x.node y.at n d y.joined in
      both_true (link s n d) _ j.0
      (rw (names_of_node f n d (neighbour s n d) h)
      (⊎_elim
      (λ (a : (n ≡ f.node) × (d ≡ y.at)). left_true (eqb f.node n) _ (eq-eqb f.node n (sym a.0)))
      (λ a. right_true (eqb f.node n) _ (eq-eqb f.node (neighbour s n d) (sym a.0)))
      j.1)))
      (λ t.
      let l = and_true (link s n d) _ t in
      let low = link_low s n d l.0 in
      ⊎_elim
      (λ (a : eqb f.node n ≡ true). from_of s f.node 0 6 d n d (omega arith) (omega arith) (joins_there s f.node x.node n hn d l.0 (sym (eqb-true f.node n a))))
      (λ a. from_of s f.node 0 6 (opposite d) n d (omega arith) (omega (arith, opposite_low d low)) (joins_back s f.node x.node n hn d l.0 (sym (eqb-true f.node (neighbour s n d) a))))
      (either_of (eqb f.node n) _ (rw (names_of_node f n d (neighbour s n d) h) at l.1)))

  -- Kinds 0, 1, 2: the one link.
  pub link_kills : node_kind f.kind ≡ false → link_kind f.kind ≡ true → joins_from s f.node (kind_dir f.kind) 1 n d ≡ kills s f n d
  unfolding kills
  link_kills h k =
      let plus = kind_dir f.kind in
      let low = kind_low f.kind in
      same_test (joins_from s f.node plus 1 n d) (link s n d && names f n d (neighbour s n d))
      (λ t.
      let y = from_is s f.node plus 1 n d t in
      let at : y.at ≡ plus = omega (arith, y.from, y.below) in
      let j = joins_is s f.node x.node y.at n d y.joined in
      both_true (link s n d) _ j.0
      (rw (names_of_link f n d (neighbour s n d) h k)
      (⊎_elim
      (λ (a : (n ≡ f.node) × (d ≡ y.at)). left_true (eqb d plus && eqb f.node n) _ (both_true (eqb d plus) _ (eq-eqb d plus (a.1 ∙ at)) (eq-eqb f.node n (sym a.0))))
      (λ a. right_true (eqb d plus && eqb f.node n) _ (both_true (eqb d (opposite plus)) _ (eq-eqb d (opposite plus) (a.1 ∙ ap opposite at)) (eq-eqb f.node (neighbour s n d) (sym a.0))))
      j.1)))
      (λ t.
      let l = and_true (link s n d) _ t in
      ⊎_elim
      (λ (a : (eqb d plus && eqb f.node n) ≡ true).
      let b = and_true (eqb d plus) _ a in
      let e = eqb-true d plus b.0 in
      from_of s f.node plus 1 d n d (omega arith) (omega arith) (joins_there s f.node x.node n hn d l.0 (sym (eqb-true f.node n b.1))))
      (λ a.
      let b = and_true (eqb d (opposite plus)) _ a in
      let e : opposite d ≡ plus = ap opposite (eqb-true d (opposite plus) b.0) ∙ opposite_twice plus (omega arith) in
      from_of s f.node plus 1 (opposite d) n d (omega arith) (omega arith) (joins_back s f.node x.node n hn d l.0 (sym (eqb-true f.node (neighbour s n d) b.1))))
      (either_of (eqb d plus && eqb f.node n) _ (rw (names_of_link f n d (neighbour s n d) h k) at l.1)))
