-- The torus meets the laws of machines, by any rule for half a ring.
use Prim.Native.Nat.{ℕ, ◌<◌, ◌≤◌}
use native.Mathlib.Omega.{arith}
use mathlib.Core.Path.{◌≡◌, refl, sym}
use mathlib.Core.Bool.{Bool, true}
use lib.Dec.{eqb, leb}
use borrow.Author.Tests.{leb-true, le-leb, eqb-true, eqb-false, eq-eqb}
use Rattle.theory.specs.Machine.{Laws}
use Rattle.theory.proofs.Cases.{test}
use Rattle.shape.specs.declared.shape.Shape.{Shape}
use Rattle.machine.specs.declared.leg.Mode.{Mode}
use Rattle.machine.specs.declared.leg.Mode.TheVariants.{Adaptive, Deterministic}
use Rattle.shape.specs.Shape.{shape_error}
use Rattle.machine.specs.Number.{node_count}
use Rattle.machine.specs.Hop.{link, useful, along, same, rule, first_direction}
use Rattle.shape.specs.declared.shape.Dim.{Dim}
use Rattle.shape.specs.declared.shape.Dim.TheVariants.{X, Y, Z}
use Rattle.machine.specs.Torus.{allowed_by, torus_by, torus}
use Rattle.theory.proofs.Bools.{and_true}
use Rattle.machine.proofs.ByCoords.{neighbour_below}
use Rattle.machine.proofs.Laws.{useful_link, useful_lowers, hops_self, hops_zero, first_useful}

-- To itself a deterministic leg has no direction.
first_same : (ties : ℕ → Bool) (s : Shape) (n : ℕ) → first_direction ties s n n ≡ 6
unfolding first_direction
first_same ties s n = rw (same_at X, same_at Y, same_at Z)
  where
    same_at : (d : Dim) → same s n n d ≡ true
    same_at d = eq-eqb (along s n d) (along s n d) refl

link_named : (s : Shape) (n dir : ℕ) → link s n dir ≡ true → dir < 6
unfolding link
link_named s n dir e = omega (arith, leb-true dir 5 (and_true (leb dir 5) _ e).0)

module _ (s : Shape) (h : shape_error s ≡ 0) (n t : ℕ) (hn : n < node_count s) (ht : t < node_count s) where
  pub allowed_by_useful : (ties : ℕ → Bool) (m : Mode) (dir : ℕ) → allowed_by ties m s n t dir ≡ true → useful s n t dir ≡ true
  unfolding allowed_by
  allowed_by_useful ties Adaptive dir e = e
  allowed_by_useful ties Deterministic dir e =
      let d : dir ≡ first_direction ties s n t = eqb-true dir _ (and_true (leb dir 5) _ e).1 in
      let low : dir ≤ 5 = leb-true dir 5 (and_true (leb dir 5) _ e).0 in
      test (eqb n t)
      (λ q. let z = first_same ties s n in let w : first_direction ties s n t ≡ first_direction ties s n n = rw (eqb-true n t q) in absurd (omega arith))
      (λ q. rw d (first_useful s h n t hn ht ties (eqb-false n t q)))

  pub allowed_useful : (m : Mode) (dir : ℕ) → allowed_by rule m s n t dir ≡ true → useful s n t dir ≡ true
  allowed_useful m dir e = allowed_by_useful rule m dir e

  useful_named : (dir : ℕ) → useful s n t dir ≡ true → dir < 6
  useful_named dir e = link_named s n dir (useful_link s n t dir e)

  -- A deterministic leg's one direction.
  first_allowed : (ties : ℕ → Bool) → first_direction ties s n t ≤ 5 → allowed_by ties Deterministic s n t (first_direction ties s n t) ≡ true
  unfolding allowed_by
  first_allowed ties l = rw (le-leb (first_direction ties s n t) 5 l) (eq-eqb (first_direction ties s n t) (first_direction ties s n t) refl)

  onward : (ties : ℕ → Bool) (m : Mode) → (t ≡ n → ⊥) → (d : ℕ) × (d < 6) × (allowed_by ties m s n t d ≡ true)
  unfolding allowed_by
  onward ties Adaptive ne = let u = first_useful s h n t hn ht ties (λ e. ne (sym e)) in (first_direction ties s n t, useful_named _ u, u)
  onward ties Deterministic ne =
      let l = useful_named _ (first_useful s h n t hn ht ties (λ e. ne (sym e))) in
      (first_direction ties s n t, l, first_allowed ties (omega arith))

pub torus_by_laws : (ties : ℕ → Bool) (s : Shape) → shape_error s ≡ 0 → Laws (torus_by ties s)
torus_by_laws ties s h = record {
  named = λ l p d at end a. useful_named s h p l.target at end d (allowed_by_useful s h p l.target at end ties l.mode d a);
  inside = λ l p d at end a. neighbour_below s h p at d;
  nearer = λ l p d at end a. omega (arith, useful_lowers s p l.target d (allowed_by_useful s h p l.target at end ties l.mode d a));
  there = λ p at. hops_self s p;
  here = λ p t at end z. sym (hops_zero s h p t at end z);
  onward = λ l p at end ne. onward s h p l.target at end ties l.mode ne;
}

pub torus_laws : (s : Shape) → shape_error s ≡ 0 → Laws (torus s)
torus_laws s h = torus_by_laws rule s h
