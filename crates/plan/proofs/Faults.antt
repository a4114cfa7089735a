-- Checks 7 and 8 over a list of faults, and what each of the faults that they accept is.
use Prim.Native.Nat.{ℕ, ◌+◌, ◌-◌, ◌≤◌, ◌<◌}
use native.Mathlib.Omega.{arith}
use mathlib.Core.Path.{◌≡◌, refl, sym, ap, ◌∙◌}
use mathlib.Core.Bool.{Bool, true, false, ◌&&◌, ◌||◌}
use mathlib.Core.List.{List, ◌∷◌}
use lib.Dec.{ltb}
use Rattle.std.specs.Prelude.{Option, Some, None}
use Rattle.numbers.specs.Numbers.{no_such_fault, fault_not_above}
use Rattle.sheet.specs.Bytes.{list_from}
use Rattle.sheet.proofs.Records.{from_cons, from_none}
use Rattle.shape.specs.declared.shape.Shape.{Shape}
use Rattle.plan.specs.declared.layout.Fault.{Fault}
use Rattle.plan.specs.Layout.{fault_count, fault_at, faults_of}
use Rattle.plan.specs.Checks.{Rules, fault_good, fault_key, faults_error}
use Rattle.plan.specs.Steps.{least_after}

-- The node is asked for once more where the link is.
pub asked_twice : (a b c l : Bool) → (a && (b || (c && (a && l)))) ≡ (a && (b || (c && l)))
asked_twice true b c l = refl
asked_twice false b c l = refl

-- The checks of the faults fs, and of a fault f.
module _ (R : Rules) (last : ℕ) (m : Shape) where
  abbrev checked : ℕ → List Fault → ℕ
  checked least fs = faults_error R last m least fs

  abbrev good : Fault → Bool
  good f = fault_good R last m f

  -- The ways of a fault through them.
  module _ (least : ℕ) (f : Fault) (fs : List Fault) where
    missing : good f ≡ false → checked least (f ∷ fs) ≡ no_such_fault
    unfolding faults_error
    missing h = rw h

    no_rise : good f ≡ true → ltb (fault_key f) least ≡ true → checked least (f ∷ fs) ≡ fault_not_above
    unfolding faults_error
    no_rise h k = rw (h, k)

    passed : good f ≡ true → ltb (fault_key f) least ≡ false → checked least (f ∷ fs) ≡ checked (fault_key f + 1) fs
    unfolding faults_error
    passed h k = rw (h, k)

  -- The loop: with i of n faults passed, checks 7 and 8 of all are those of the faults left.
  pub record Checking (s : List ℕ) (n : ℕ) (before : Option Fault) (i : ℕ) : Type 0 where
    pub count : n ≡ fault_count s
    pub rest : checked 0 (faults_of s) ≡ checked (least_after before) (list_from (fault_at s) i (n - i))

  module _ (s : List ℕ) (n : ℕ) where
    pub begin : n ≡ fault_count s → Checking s n None 0
    unfolding faults_of
    begin e = record { count = e; rest = let z : n - 0 ≡ fault_count s = omega arith in rw z }

    module _ (before : Option Fault) (i : ℕ) (g : Checking s n before i) where
      pub ended : n ≤ i → 0 ≡ checked 0 (faults_of s)
      unfolding faults_error
      ended h = sym (g.rest ∙ ap (checked (least_after before)) (from_none (fault_at s) i n h))

      module _ (f : Fault) (e : f ≡ fault_at s i) (h : i < n) where
        turn : checked 0 (faults_of s) ≡ checked (least_after before) (f ∷ list_from (fault_at s) (i + 1) (n - (i + 1)))
        turn = g.rest ∙ ap (checked (least_after before)) (from_cons (fault_at s) i n h) ∙ rw e

        pub refused : good f ≡ false → no_such_fault ≡ checked 0 (faults_of s)
        refused x = sym (turn ∙ missing (least_after before) f _ x)

        module _ (x : good f ≡ true) where
          pub refused_order : ltb (fault_key f) (least_after before) ≡ true → fault_not_above ≡ checked 0 (faults_of s)
          refused_order l = sym (turn ∙ no_rise (least_after before) f _ x l)

          pub onward : ltb (fault_key f) (least_after before) ≡ false → Checking s n (Some f) (i + 1)
          onward l = record { count = g.count; rest = turn ∙ passed (least_after before) f _ x l }
