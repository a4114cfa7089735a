-- The list of losses is made in words of 0, so 0 stands behind it, and it gives its words back.
use Prim.Native.Nat.{ℕ, ◌+◌, ◌-◌, ◌≤◌, ◌<◌}
use Rattle.std.specs.Prelude.{take, drop, ◌++◌}
use Rattle.std.proofs.lemmas.List.{length-take-le, drop-set-lt, drop-drop, drop-replicate, take-append-drop}
use native.Mathlib.Omega.{arith}
use mathlib.Core.Path.{◌≡◌, refl, sym, ap, ◌∙◌}
use mathlib.Core.List.{List}
use lib.ListN.{set, length, replicate}
use Rattle.shape.specs.declared.shape.Shape.{Shape}
use Rattle.plan.specs.declared.layout.Fault.{Fault}
use Rattle.plan.specs.Layout.{shape_of, fault_count, fault_at}
use Rattle.plan.specs.Checks.{large, plan_error}
use Rattle.losses.specs.OfPlan.{word_of}
use Rattle.losses.specs.Lists.{InWords}
use Rattle.losses.proofs.Listing as Listed
use Rattle.losses.proofs.Listing.{Listing, few}

-- The loop: the words of the first i faults of n are there, and 0 behind them.
pub record Filling (p : List ℕ) (s : Shape) (n : ℕ) (words : List ℕ) (i : ℕ) : Type 0 where
  pub listed : Listing p s n words i
  pub rest : drop i words ≡ replicate (256 - i) 0

module _ (p : List ℕ) (s : Shape) (n : ℕ) where
  pub begin : plan_error large p ≡ 0 → s ≡ shape_of p → n ≡ fault_count p → Filling p s n (replicate 256 0) 0
  begin h es en = record { listed = Listed.begin p s n h es en; rest = refl }

  module _ (words : List ℕ) (i : ℕ) (g : Filling p s n words i) where
    pub onward : (f : Fault) (w : ℕ) → f ≡ fault_at p i → w ≡ word_of s f → i < n → Filling p s n (set words i w) (i + 1)
    onward f w e q l = record {
      listed = Listed.onward p s n words i g.listed f w e q l;
      rest = drop-set-lt (i + 1) words i w (omega arith) ∙ sym (drop-drop 1 i words) ∙ ap (drop 1) g.rest ∙ drop-replicate 1 (256 - i) 0 ∙ ap (λ m. replicate m 0) (omega arith);
    }

    pub filled : n ≤ i → InWords words n
    filled l =
        let most : n ≤ 256 = few p s n words i g.listed in
        let e : n ≡ i = omega (arith, g.listed.within) in
        let c : length (take n words) ≡ n = length-take-le n words (omega (arith, g.listed.long, most)) in
        record {
          few = most;
          filled = sym (take-append-drop n words) ∙ ap (λ (t : List ℕ). take n words ++ t) (rw (c, e) g.rest);
          counted = c;
        }
