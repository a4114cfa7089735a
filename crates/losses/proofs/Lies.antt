-- A loss lies on a leg exactly if the leg can cross a link that the loss takes away.
use Prim.Native.Nat.{ℕ, ◌+◌, ◌≤◌, ◌<◌}
use mathlib.Core.Path.{◌≡◌, refl, sym, ap, ◌∙◌, subst}
use mathlib.Core.Logic.{⊎_elim}
use mathlib.Core.Bool.{Bool, true, ◌&&◌, ◌||◌, false≢true}
use lib.Dec.{leb, ltb, eqb}
use borrow.Author.Tests.{eqb-true, eq-eqb, ltb-true, lt-ltb, leb-true}
use Rattle.theory.proofs.Bools.{and_true}
use Rattle.shape.specs.declared.shape.Shape.{Shape}
use Rattle.shape.specs.declared.shape.Coords.{Coords}
use Rattle.shape.specs.declared.shape.Dim.{Dim}
use Rattle.shape.specs.declared.shape.Dim.TheVariants.{X, Y, Z}
use Rattle.shape.specs.Shape.{shape_error, extent_of, coord_of}
use Rattle.machine.specs.declared.leg.Mode.{Mode}
use Rattle.machine.specs.declared.leg.Mode.TheVariants.{Adaptive, Deterministic}
use Rattle.machine.specs.Number.{node_count, number_of, coords_of, Inside}
use Rattle.machine.specs.Hop.{plus_dir, dir_dim}
use Rattle.machine.specs.ByCoords.{moved_at}
use Rattle.machine.proofs.Numbers.{inside, number_below, coords_number}
use Rattle.machine.proofs.ByCoords.{inside_at, inside_moved}
use Rattle.dead.proofs.Bools.{either_of, left_true, right_true, both_true}
use Rattle.legs.specs.Crossing.{adaptive_crosses, deterministic_crosses, can_cross}
use Rattle.legs.proofs.Clearing.{met_inside}
use Rattle.losses.specs.Loss.{loss_at, loss_kind, same_coords, names_both, names_node, names, link_meets, links_meet, node_meets, loss_meets}
use Rattle.losses.proofs.Same.{same_is, is_same}
use Rattle.losses.proofs.ByKind.{by_kind, names_one, names_both_law, names_all, names_none, meets_one, meets_both, meets_all, meets_none}
use Rattle.losses.proofs.Back.{there_back, minus_plus, plus_guard, plus_of_kind}
use Rattle.losses.proofs.Links.{both_is, is_there, is_back, links_name, node_names, node_ends, ends_links}

cross_low : (ties : ℕ → Bool) (m : Mode) (s : Shape) (u : Coords) (d : ℕ) (a t : Coords) → can_cross ties m s u d a t ≡ true → d ≤ 5
unfolding can_cross adaptive_crosses deterministic_crosses
cross_low ties Adaptive s u d a t e = leb-true d 5 (and_true (leb d 5) _ e).0
cross_low ties Deterministic s u d a t e = leb-true d 5 (and_true (leb d 5) _ e).0

module _ (ties : ℕ → Bool) (m : Mode) (s : Shape) (h : shape_error s ≡ 0) (a t : ℕ) (ha : a < node_count s) (ht : t < node_count s) where
  abbrev crosses : Coords → ℕ → Bool
  crosses u d = can_cross ties m s u d (coords_of s a) (coords_of s t)

  -- A link that is such, and that the leg can cross.
  pub record Met (such : ℕ → ℕ → Bool) : Type 0 where
    pub node : ℕ
    pub dir : ℕ
    pub below : node < node_count s
    pub named : such node dir ≡ true
    pub crossed : crosses (coords_of s node) dir ≡ true

  -- The test b: there is one.
  pub record Lies (such : ℕ → ℕ → Bool) (b : Bool) : Type 0 where
    pub met : b ≡ true → Met such
    pub lies : (n d : ℕ) → n < node_count s → such n d ≡ true → crosses (coords_of s n) d ≡ true → b ≡ true

  at_node : (u : Coords) (d : ℕ) → crosses u d ≡ true → (n : ℕ) × (n < node_count s) × (coords_of s n ≡ u)
  at_node u d e =
      let i = met_inside ties m s u d (coords_of s a) (coords_of s t) (inside s h a ha) (inside s h t ht) e in
      (number_of s u, number_below s h u i, coords_number s h u i)

  -- ---- of two kinds, of the same links
  lies_or : (such other : ℕ → ℕ → Bool) (b c : Bool) → Lies such b → Lies other c → Lies (λ n d. such n d || other n d) (b || c)
  lies_or such other b c x y = record {
    met = λ e. ⊎_elim
        (λ (l : b ≡ true). let w = x.met l in record { node = w.node; dir = w.dir; below = w.below; named = left_true (such w.node w.dir) _ w.named; crossed = w.crossed })
        (λ r. let w = y.met r in record { node = w.node; dir = w.dir; below = w.below; named = right_true (such w.node w.dir) _ w.named; crossed = w.crossed })
        (either_of b c e);
    lies = λ n d l e q. ⊎_elim (λ (z : such n d ≡ true). left_true b c (x.lies n d l z q)) (λ z. right_true b c (y.lies n d l z q)) (either_of (such n d) _ e);
  }

  lies_by :
      (such other : ℕ → ℕ → Bool) (b c : Bool) →
      ((n d : ℕ) → n < node_count s → such n d ≡ true → other n d ≡ true) →
      ((n d : ℕ) → n < node_count s → d ≤ 5 → other n d ≡ true → such n d ≡ true) →
      c ≡ b → Lies such b → Lies other c
  lies_by such other b c to from e x = record {
    met = λ z. let w = x.met (sym e ∙ z) in record { node = w.node; dir = w.dir; below = w.below; named = to w.node w.dir w.below w.named; crossed = w.crossed };
    lies = λ n d l z q. e ∙ x.lies n d l (from n d l (cross_low ties m s (coords_of s n) d (coords_of s a) (coords_of s t) q) z) q;
  }

  lies_is : (such other : ℕ → ℕ → Bool) (b c : Bool) → ((n d : ℕ) → other n d ≡ such n d) → c ≡ b → Lies such b → Lies other c
  lies_is such other b c same e x = lies_by such other b c (λ n d l z. same n d ∙ z) (λ n d l k z. sym (same n d) ∙ z) e x

  -- ---- one way
  one_lies : (u : Coords) (k : ℕ) → Lies (λ n d. eqb k d && same_coords u (coords_of s n)) (crosses u k)
  one_lies u k = record {
    met = λ e. let n = at_node u k e in record {
      node = n.0;
      dir = k;
      below = n.1;
      named = both_true (eqb k k) _ (eq-eqb k k refl) (is_same u (coords_of s n.0) (sym n.2));
      crossed = subst (λ (c : Coords). crosses c k ≡ true) (sym n.2) e;
    };
    lies = λ n d l e q.
        let p = and_true (eqb k d) _ e in
        ap (λ (c : Coords). crosses c k) (same_is u (coords_of s n) p.1) ∙ ap (crosses (coords_of s n)) (eqb-true k d p.0) ∙ q;
  }

  -- ---- a link both ways
  module _ (u : Coords) (k : Dim) where
    abbrev plus : ℕ
    plus = plus_dir k

    abbrev backward : Bool
    backward = ltb (coord_of u (dir_dim plus)) (extent_of s (dir_dim plus)) && crosses (moved_at s u plus) (plus + 1)

    met_there : crosses u plus ≡ true → Met (names_both s u plus)
    met_there e = let n = at_node u plus e in record {
      node = n.0;
      dir = plus;
      below = n.1;
      named = is_there s u plus n.0 plus refl (sym n.2);
      crossed = subst (λ (c : Coords). crosses c plus ≡ true) (sym n.2) e;
    }

    met_back : backward ≡ true → Met (names_both s u plus)
    met_back e =
        let p = and_true (ltb (coord_of u (dir_dim plus)) (extent_of s (dir_dim plus))) _ e in
        let low = ltb-true (coord_of u k) (extent_of s k) (sym (plus_guard s u k) ∙ p.0) in
        let n = at_node (moved_at s u plus) (plus + 1) p.1 in
        record {
          node = n.0;
          dir = plus + 1;
          below = n.1;
          named = is_back s u plus n.0 (plus + 1) refl (sym (there_back s u k low) ∙ ap (λ (c : Coords). moved_at s c (plus + 1)) (sym n.2));
          crossed = subst (λ (c : Coords). crosses c (plus + 1) ≡ true) (sym n.2) p.1;
        }

    back_crosses : (n d : ℕ) → n < node_count s → plus + 1 ≡ d → u ≡ moved_at s (coords_of s n) d → crosses (coords_of s n) d ≡ true → backward ≡ true
    back_crosses n d l p q e =
        let j = inside s h n l in
        let at : u ≡ moved_at s (coords_of s n) (plus + 1) = q ∙ ap (moved_at s (coords_of s n)) (sym p) in
        let on : moved_at s u plus ≡ coords_of s n = ap (λ (c : Coords). moved_at s c plus) at ∙ minus_plus s (coords_of s n) j k in
        let i : Inside s u = subst (λ (c : Coords). Inside s c) (sym at) (inside_moved s (coords_of s n) j (plus + 1)) in
        both_true (ltb (coord_of u (dir_dim plus)) (extent_of s (dir_dim plus))) _
        (lt-ltb _ _ (inside_at s u i (dir_dim plus)))
        (ap (λ (c : Coords). crosses c (plus + 1)) on ∙ ap (crosses (coords_of s n)) p ∙ e)

    link_lies : Lies (names_both s u plus) (link_meets ties m s u plus (coords_of s a) (coords_of s t))
    unfolding link_meets
    link_lies = record {
      met = λ e. ⊎_elim met_there met_back (either_of (crosses u plus) backward e);
      lies = λ n d l e q. ⊎_elim
          (λ (x : (plus ≡ d) × (u ≡ coords_of s n)). left_true (crosses u plus) backward (ap (λ (c : Coords). crosses c plus) x.1 ∙ ap (crosses (coords_of s n)) x.0 ∙ q))
          (λ x. right_true (crosses u plus) backward (back_crosses n d l x.0 x.1 q))
          (both_is s u plus n d e);
    }

  links_lie : (u : Coords) (k : Dim) → Lies (links_name s u k) (links_meet ties m s u (plus_dir k) (coords_of s a) (coords_of s t))
  unfolding links_name links_meet
  links_lie u k =
      lies_or (names_both s u (plus_dir k)) (names_both s (moved_at s u (plus_dir k + 1)) (plus_dir k))
      (link_meets ties m s u (plus_dir k) (coords_of s a) (coords_of s t))
      (link_meets ties m s (moved_at s u (plus_dir k + 1)) (plus_dir k) (coords_of s a) (coords_of s t))
      (link_lies u k) (link_lies (moved_at s u (plus_dir k + 1)) k)

  -- ---- a node
  nodes_lie : (u : Coords) → Lies (node_names s u) (node_meets ties m s u (coords_of s a) (coords_of s t))
  unfolding node_names node_meets
  nodes_lie u =
      let meets : Dim → Bool = λ k. links_meet ties m s u (plus_dir k) (coords_of s a) (coords_of s t) in
      lies_or (links_name s u X) (λ n d. links_name s u Y n d || links_name s u Z n d) (meets X) (meets Y || meets Z) (links_lie u X)
      (lies_or (links_name s u Y) (links_name s u Z) (meets Y) (meets Z) (links_lie u Y) (links_lie u Z))

  node_lies : (u : Coords) → Inside s u → Lies (names_node s u) (node_meets ties m s u (coords_of s a) (coords_of s t))
  node_lies u i =
      lies_by (node_names s u) (names_node s u) _ _
      (λ n d l e. node_ends s u i n d (inside s h n l) e)
      (λ n d l low e. ends_links s u i n (inside s h n l) d low e)
      refl (nodes_lie u)

  -- ---- any loss; one of a whole node is of a node
  pub loss_lies : (w : ℕ) → (loss_kind w ≡ 9 → Inside s (loss_at w)) → Lies (names s w) (loss_meets ties m s w (coords_of s a) (coords_of s t))
  loss_lies w i =
      let A = coords_of s a in
      let T = coords_of s t in
      by_kind (loss_kind w)
      (λ l. lies_is (λ n d. eqb (loss_kind w) d && same_coords (loss_at w) (coords_of s n)) (names s w) _ _ (λ n d. names_one s w n d l) (meets_one ties m s w A T l) (one_lies (loss_at w) (loss_kind w)))
      (λ l g.
      let k = plus_of_kind (loss_kind w) l g in
      lies_is (names_both s (loss_at w) (plus_dir k.0)) (names s w) _ _
      (λ n d. names_both_law s w n d l g ∙ ap (λ (p : ℕ). names_both s (loss_at w) p n d) k.1)
      (meets_both ties m s w A T l g ∙ ap (λ (p : ℕ). link_meets ties m s (loss_at w) p A T) k.1)
      (link_lies (loss_at w) k.0))
      (λ e. lies_is (names_node s (loss_at w)) (names s w) _ _ (λ n d. names_all s w n d e) (meets_all ties m s w A T e) (node_lies (loss_at w) (i e)))
      (λ l. record {
        met = λ e. absurd (false≢true (sym (meets_none ties m s w A T l) ∙ e));
        lies = λ n d b e q. absurd (false≢true (sym (names_none s w n d l) ∙ e));
      })
