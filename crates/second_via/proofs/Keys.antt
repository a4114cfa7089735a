-- The least number of a value and its node is the lowest node of the least value.
use Prim.Native.Nat.{ℕ, min, ◌+◌, ◌-◌, ◌*◌, ◌%◌, ◌≤◌, ◌<◌}
use native.Mathlib.Omega.{arith}
use mathlib.Core.Path.{◌≡◌, refl, sym, ap, ◌∙◌}
use mathlib.Core.Logic.{inl, inr, ⊎_elim}
use mathlib.Core.Bool.{Bool, true, false}
use mathlib.Core.List.{List}
use lib.ListN.{length, get_or}
use borrow.Author.Tests.{eq-eqb, ne_eqb}
use Rattle.theory.proofs.Bools.{and_true}
use Rattle.theory.proofs.Cases.{by_le}
use Rattle.shape.specs.declared.shape.Shape.{Shape}
use Rattle.shape.specs.declared.shape.Coords.{Coords}
use Rattle.shape.specs.declared.shape.Dim.TheVariants.{X}
use Rattle.shape.specs.Shape.{shape_error}
use Rattle.shape.proofs.Shapes.{sound}
use Rattle.machine.specs.Number.{node_count, number_of, coords_of, Inside}
use Rattle.machine.proofs.Numbers.{number_below, coords_number, number_coords, number_fits, inside}
use Rattle.rows.specs.Bits.{bit}
use Rattle.search.specs.FirstVia.{has_rows, in_all, is_via}
use Rattle.search.specs.RowNumber.{Lowers}
use Rattle.search.proofs.Lowering.{lower_same}
use Rattle.search.proofs.Seeking.{clash, count_all, parts, whole, test_is, meet_bit}
use Rattle.second_via.specs.Least.{LeastAt}
use Rattle.second_via.specs.Nodes.{first_of, key_of, RowKeys, SpaceKeys}
use Rattle.second_via.proofs.Going.{all_at}

-- ---- one node
-- The lesser of its key and the best.
pub lesser_key : (a k best r : ℕ) → a ≡ k → r ≡ min a best → Lowers best r (λ n. n ≡ k)
lesser_key a k best r e q = record {
  low = omega arith;
  each = λ n f. omega arith;
  one = by_le best a (λ l. inl (omega arith)) (λ l. inr (omega arith));
}

-- ---- a row's first node
pub row_number_law : (s : Shape) (c : Coords) → first_of s c.y c.z + c.x ≡ number_of s c
unfolding number_of
row_number_law s c = omega arith

pub row_node : (s : Shape) → shape_error s ≡ 0 → (v : ℕ) → first_of s (coords_of s v).y (coords_of s v).z + (coords_of s v).x ≡ v
row_node s h v = row_number_law s (coords_of s v) ∙ number_coords s h v

pub record First (s : Shape) (y z first : ℕ) : Type 0 where
  pub is : first ≡ first_of s y z
  pub fits : first + s.x ≤ 4096

pub first_is : (s : Shape) → shape_error s ≡ 0 → (y z first : ℕ) → y < s.y → z < s.z → first ≡ number_of s (record { x = 0; y = y; z = z }) % 65536 → First s y z first
unfolding number_of
first_is s h y z first hy hz e =
    let low = (sound s h X).low in
    let i : Inside s (record { x = 0; y = y; z = z }) = record { x = omega arith; y = hy; z = hz } in
    let q : first ≡ first_of s y z = e ∙ number_fits s h (record { x = 0; y = y; z = z }) i ∙ omega arith in
    let l = number_below s h (record { x = s.x - 1; y = y; z = z }) (record { x = omega arith; y = hy; z = hz }) in
    record { is = q; fits = omega (arith, l, count_all s h) }

pub row_at : (len word first start : ℕ) (values : List ℕ) (best r : ℕ) → first ≡ start → Lowers best r (RowKeys len word first values) → Lowers best r (RowKeys len word start values)
row_at len word first start values best r e w = rw e at w

-- ---- all nodes
pub record NodeKey (n : ℕ) (passes : ℕ → Bool) (values : List ℕ) (k : ℕ) : Type 0 where
  pub v : ℕ
  pub below : v < n
  pub is : passes v ≡ true
  pub key : k ≡ key_of values v

module _ (n : ℕ) (passes : ℕ → Bool) (values : List ℕ) (bound : ℕ) where
  pub no_node : ((v : ℕ) → v < n → passes v ≡ false) → LeastAt n passes values bound 4096
  no_node none_is = record {
    most = omega arith;
    found = λ l. absurd (omega arith);
    each = λ v l e k. clash (passes v) e (none_is v l);
    first = λ v l k m. absurd (omega arith);
  }

  module _ (small : n ≤ 4096) (k : ℕ) (w : Lowers (bound * 4096) k (NodeKey n passes values)) where
    pub none_below : bound * 4096 ≤ k → LeastAt n passes values bound 4096
    unfolding key_of
    none_below h = record {
      most = omega arith;
      found = λ l. absurd (omega arith);
      each = λ v l e m. absurd (omega (arith, w.each (key_of values v) (record { v = v; below = l; is = e; key = refl })));
      first = λ v l m q. absurd (omega arith);
    }

    node_found : NodeKey n passes values k → k < bound * 4096 → LeastAt n passes values bound (k % 4096)
    unfolding key_of
    node_found p h =
        let l = p.below in
        let e : k ≡ get_or values p.v 0 * 4096 + p.v = p.key in
        let q : k % 4096 ≡ p.v = omega arith in
        rw q (record {
          most = omega arith;
          found = λ m. (l, p.is, omega arith);
          each = λ v m i b. (omega arith, omega (arith, w.each (key_of values v) (record { v = v; below = m; is = i; key = refl })));
          first = λ v m b j i. omega (arith, w.each (key_of values v) (record { v = v; below = m; is = i; key = refl }));
        })

    pub least_found : k < bound * 4096 → LeastAt n passes values bound (k % 4096)
    least_found h = ⊎_elim (λ e. absurd (omega arith)) (λ p. node_found p h) w.one

-- ---- the nodes of all planes are those that pass
module _ (s : Shape) (bx by bz : ℕ) (from to : List ℕ) (at : ℕ) (values : List ℕ) where
  pub wrong_shape : (bound : ℕ) → (shape_error s ≡ 0 → ⊥) → LeastAt (node_count s) (is_via s bx by bz from to at) values bound 4096
  unfolding is_via
  wrong_shape bound ne = no_node _ _ values bound (λ v l. rw (ne_eqb (shape_error s) 0 ne))

  pub short_run : (bound : ℕ) → shape_error s ≡ 0 → has_rows (length to) at 256 ≡ false → LeastAt (node_count s) (is_via s bx by bz from to at) values bound 4096
  unfolding is_via
  short_run bound h e = no_node _ _ values bound (λ v l. rw (eq-eqb (shape_error s) 0 h, e))

  module _ (h : shape_error s ≡ 0) (run : has_rows (length to) at 256 ≡ true) where
    via_is : (v : ℕ) → is_via s bx by bz from to at v ≡ in_all s bx by bz from to at v
    unfolding is_via
    via_is v = rw (eq-eqb (shape_error s) 0 h, run)

    there : (n : ℕ) → SpaceKeys s bx by bz from to at values n → NodeKey (node_count s) (is_via s bx by bz from to at) values n
    unfolding number_of
    there n p =
        let row = p.has.has in
        let c : Coords = record { x = row.i; y = p.has.i; z = p.i } in
        let i : Inside s (record { x = row.i; y = p.has.i; z = p.i }) = record { x = row.inside; y = p.has.inside; z = p.inside } in
        let bits = sym (meet_bit bx by bz from to at (16 * p.i + p.has.i) row.i) ∙ row.is in
        let bit_x = (and_true (bit bx row.i) _ (and_true _ _ bits).0).0 in
        record {
          v = number_of s c;
          below = number_below s h c i;
          is = via_is (number_of s c) ∙ test_is bx by bz from to at s (number_of s c) ∙ rw (coords_number s h c i) (whole bx by bz from to at c (record { x = bit_x; y = p.has.is; z = p.is; met = row.is }));
          key = row.has ∙ ap (key_of values) (omega arith);
        }

    here : (n : ℕ) → NodeKey (node_count s) (is_via s bx by bz from to at) values n → SpaceKeys s bx by bz from to at values n
    here n p =
        let i = inside s h p.v p.below in
        let w = parts bx by bz from to at (coords_of s p.v) (sym (test_is bx by bz from to at s p.v) ∙ sym (via_is p.v) ∙ p.is) in
        all_at _ _ _ _ n i.z w.z
        (all_at _ _ _ _ n i.y w.y
        (all_at _ _ _ _ n i.x w.met (p.key ∙ ap (key_of values) (sym (row_node s h p.v)))))

    nodes_of : (known k : ℕ) → Lowers known k (SpaceKeys s bx by bz from to at values) → Lowers known k (NodeKey (node_count s) (is_via s bx by bz from to at) values)
    nodes_of known k w = lower_same known k w there here

    pub none_least : (bound k : ℕ) → Lowers (bound * 4096) k (SpaceKeys s bx by bz from to at values) → bound * 4096 ≤ k → LeastAt (node_count s) (is_via s bx by bz from to at) values bound 4096
    none_least bound k w = none_below _ _ values bound (count_all s h) k (nodes_of _ k w)

    pub least_is : (bound k : ℕ) → Lowers (bound * 4096) k (SpaceKeys s bx by bz from to at values) → k < bound * 4096 → LeastAt (node_count s) (is_via s bx by bz from to at) values bound (k % 4096)
    least_is bound k w = least_found _ _ values bound (count_all s h) k (nodes_of _ k w)
