-- Whether some fault of a sheet is such, by the numbers of its faults.
use Prim.Native.Nat.{ℕ, zero, suc}
use native.Mathlib.Numerals.{add-one}
use mathlib.Core.Path.{◌≡◌, refl, ap}
use mathlib.Core.Bool.{Bool, ◌||◌}
use mathlib.Core.List.{List}
use Rattle.std.specs.List.{list_any, range_with_len}
use Rattle.sheet.specs.Bytes.{list_from}
use Rattle.plan.specs.declared.layout.Fault.{Fault}
use Rattle.plan.specs.Layout.{fault_count, fault_at, faults_of}
use Rattle.dead.specs.Dead.{some}

module _ (such : Fault → Bool) (s : List ℕ) where
  some_from : (n i : ℕ) → list_any (λ k. such (fault_at s k)) (range_with_len i n) ≡ some such (list_from (fault_at s) i n)
  unfolding some list_from
  some_from zero i = refl
  some_from (suc n) i = ap (λ r. such (fault_at s i) || r) (rw (add-one i) (some_from n (suc i)))

  pub some_fault : (r : Bool) (n : ℕ) → r ≡ list_any (λ k. such (fault_at s k)) (range_with_len 0 n) → n ≡ fault_count s → r ≡ some such (faults_of s)
  unfolding faults_of
  some_fault r n e q = rw (← q, e) (some_from n 0)
