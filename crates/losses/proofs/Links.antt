-- Which links a loss both ways takes away, and that the links of a node are two along each dimension.
use Prim.Native.Nat.{ℕ, ◌+◌, ◌≤◌}
use mathlib.Core.Path.{◌≡◌, refl, sym, ap, ◌∙◌}
use mathlib.Core.Logic.{◌⊎◌, inl, inr, ⊎_elim}
use mathlib.Core.Bool.{Bool, true, ◌&&◌, ◌||◌}
use lib.Dec.{eqb}
use borrow.Author.Tests.{eqb-true, eq-eqb}
use Rattle.theory.proofs.Bools.{and_true}
use Rattle.shape.specs.declared.shape.Shape.{Shape}
use Rattle.shape.specs.declared.shape.Coords.{Coords}
use Rattle.shape.specs.declared.shape.Dim.{Dim}
use Rattle.shape.specs.declared.shape.Dim.TheVariants.{X, Y, Z}
use Rattle.machine.specs.Number.{coords_of, Inside}
use Rattle.machine.specs.Hop.{plus_dir}
use Rattle.machine.specs.ByCoords.{moved_at}
use Rattle.dead.proofs.Bools.{either_of, left_true, right_true, both_true}
use Rattle.losses.specs.Loss.{same_coords, names_both, names_node}
use Rattle.losses.proofs.Same.{same_is, is_same}
use Rattle.losses.proofs.Back.{plus_minus, minus_plus, by_plus}

-- The link that leaves u in the direction `plus` is the one that leaves node n in direction d: that way, or back.
abbrev pub IsLink : Shape → Coords → ℕ → ℕ → ℕ → Type 0
IsLink s u plus n d = ((plus ≡ d) × (u ≡ coords_of s n)) ⊎ ((plus + 1 ≡ d) × (u ≡ moved_at s (coords_of s n) d))

module _ (s : Shape) (u : Coords) (plus n d : ℕ) where
  pub both_is : names_both s u plus n d ≡ true → IsLink s u plus n d
  unfolding names_both
  both_is e =
      ⊎_elim
      (λ (x : (eqb plus d && same_coords u (coords_of s n)) ≡ true). let p = and_true (eqb plus d) _ x in inl (eqb-true plus d p.0, same_is u (coords_of s n) p.1))
      (λ x. let p = and_true (eqb (plus + 1) d) _ x in inr (eqb-true (plus + 1) d p.0, same_is u (moved_at s (coords_of s n) d) p.1))
      (either_of (eqb plus d && same_coords u (coords_of s n)) _ e)

  pub is_there : plus ≡ d → u ≡ coords_of s n → names_both s u plus n d ≡ true
  unfolding names_both
  is_there p q = left_true (eqb plus d && same_coords u (coords_of s n)) _ (both_true (eqb plus d) _ (eq-eqb plus d p) (is_same u (coords_of s n) q))

  pub is_back : plus + 1 ≡ d → u ≡ moved_at s (coords_of s n) d → names_both s u plus n d ≡ true
  unfolding names_both
  is_back p q =
      right_true (eqb plus d && same_coords u (coords_of s n)) _
      (both_true (eqb (plus + 1) d) _ (eq-eqb (plus + 1) d p) (is_same u (moved_at s (coords_of s n) d) q))

-- ---- the links of a node, by dimension
unfoldable pub links_name : Shape → Coords → Dim → ℕ → ℕ → Bool
links_name s u k n d = names_both s u (plus_dir k) n d || names_both s (moved_at s u (plus_dir k + 1)) (plus_dir k) n d

unfoldable pub node_names : Shape → Coords → ℕ → ℕ → Bool
node_names s u n d = links_name s u X n d || (links_name s u Y n d || links_name s u Z n d)

module _ (s : Shape) (u : Coords) (i : Inside s u) (n d : ℕ) (j : Inside s (coords_of s n)) where
  abbrev c : Coords
  c = coords_of s n

  ends : (u ≡ c) ⊎ (u ≡ moved_at s c d) → names_node s u n d ≡ true
  unfolding names_node
  ends e =
      ⊎_elim
      (λ (x : u ≡ c). left_true (same_coords u c) _ (is_same u c x))
      (λ x. right_true (same_coords u c) _ (is_same u (moved_at s c d) x))
      e

  ends_of : names_node s u n d ≡ true → (u ≡ c) ⊎ (u ≡ moved_at s c d)
  unfolding names_node
  ends_of e = ⊎_elim (λ (x : same_coords u c ≡ true). inl (same_is u c x)) (λ x. inr (same_is u (moved_at s c d) x)) (either_of (same_coords u c) _ e)

  links_ends : (k : Dim) → links_name s u k n d ≡ true → names_node s u n d ≡ true
  unfolding links_name
  links_ends k e =
      let plus = plus_dir k in
      let v = moved_at s u (plus + 1) in
      ends
      (⊎_elim
      (λ (x : names_both s u plus n d ≡ true). ⊎_elim (λ (y : (plus ≡ d) × (u ≡ c)). inl y.1) (λ y. inr y.1) (both_is s u plus n d x))
      (λ x. ⊎_elim
      (λ (y : (plus ≡ d) × (v ≡ c)). inr (sym (minus_plus s u i k) ∙ ap (λ (b : Coords). moved_at s b plus) y.1 ∙ ap (moved_at s c) y.0))
      (λ y. inl (sym (minus_plus s u i k) ∙ ap (λ (b : Coords). moved_at s b plus) (y.1 ∙ ap (moved_at s c) (sym y.0)) ∙ minus_plus s c j k))
      (both_is s v plus n d x))
      (either_of (names_both s u plus n d) _ e))

  pub node_ends : node_names s u n d ≡ true → names_node s u n d ≡ true
  unfolding node_names
  node_ends e =
      ⊎_elim
      (links_ends X)
      (λ x. ⊎_elim (links_ends Y) (links_ends Z) (either_of (links_name s u Y n d) _ x))
      (either_of (links_name s u X n d) _ e)

  links_node : (k : Dim) → links_name s u k n d ≡ true → node_names s u n d ≡ true
  unfolding node_names
  links_node X e = left_true (links_name s u X n d) _ e
  links_node Y e = right_true (links_name s u X n d) _ (left_true (links_name s u Y n d) _ e)
  links_node Z e = right_true (links_name s u X n d) _ (right_true (links_name s u Y n d) _ e)

-- A node's link in a direction is one of its dimension's two.
module _ (s : Shape) (u : Coords) (i : Inside s u) (n : ℕ) (j : Inside s (coords_of s n)) where
  pub ends_links : (d : ℕ) → d ≤ 5 → names_node s u n d ≡ true → node_names s u n d ≡ true
  unfolding links_name
  ends_links =
      by_plus (λ d. names_node s u n d ≡ true → node_names s u n d ≡ true)
      (λ k e.
      let plus = plus_dir k in
      let v = moved_at s u (plus + 1) in
      links_node s u i n plus j k
      (⊎_elim
      (λ (x : u ≡ coords_of s n). left_true (names_both s u plus n plus) _ (is_there s u plus n plus refl x))
      (λ x. right_true (names_both s u plus n plus) _ (is_there s v plus n plus refl (ap (λ (b : Coords). moved_at s b (plus + 1)) x ∙ plus_minus s (coords_of s n) j k)))
      (ends_of s u i n plus j e)))
      (λ k e.
      let plus = plus_dir k in
      let v = moved_at s u (plus + 1) in
      links_node s u i n (plus + 1) j k
      (⊎_elim
      (λ (x : u ≡ coords_of s n). right_true (names_both s u plus n (plus + 1)) _ (is_back s v plus n (plus + 1) refl (ap (λ (b : Coords). moved_at s b (plus + 1)) x)))
      (λ x. left_true (names_both s u plus n (plus + 1)) _ (is_back s u plus n (plus + 1) refl x))
      (ends_of s u i n (plus + 1) j e)))
