-- The note where no via on the shortest ways has two clear adaptive legs: by the lowest there with one deterministic leg, then with two.
use Prim.Native.Nat.{ℕ, ◌+◌, ◌*◌, ◌≤◌, ◌<◌}
use native.Mathlib.Omega.{arith}
use mathlib.Core.Path.{◌≡◌, refl}
use mathlib.Core.Logic.{⊎_elim}
use mathlib.Core.Bool.{true, false}
use mathlib.Core.List.{List}
use borrow.Author.Tests.{lt-ltb, le-ltb, le-leb, lt-leb}
use Rattle.theory.proofs.Cases.{test, by_le, by_order}
use Rattle.machine.specs.declared.leg.Mode.TheVariants.{Adaptive, Deterministic}
use Rattle.machine.specs.Number.{node_count}
use Rattle.plan.specs.Layout.{shape_of}
use Rattle.plan.specs.Checks.{large, plan_error}
use Rattle.search.specs.Number.{unclear}
use Rattle.notes.specs.Known.{is_clear, NoteTo, OnWay, LowestVia, Blocked, lower, via_note}
use Rattle.notes.proofs.Values.{worth, way_worth, worth_least, worth_none, worth_one, worth_two, not_below, few, by_lowest, dets, least}

module _ (p : List ℕ) (S D : ℕ) (h : plan_error large p ≡ 0) (h_s : S < node_count (shape_of p)) (h_d : D < node_count (shape_of p)) (blocked : Blocked p S D) where
  -- No via has the least value.
  none_least : (u : ℕ) → u < node_count (shape_of p) → worth p S D h h_s h_d u < least p S D h h_s h_d + 1 → ⊥
  none_least u l g = blocked.ways u l (worth_none p S D h h_s h_d u l (omega (arith, worth_least p S D h h_s h_d u l)))

  module _ (first second : ℕ) (lf : LowestVia p Adaptive Deterministic S D first) (ls : LowestVia p Deterministic Adaptive S D second) where
    -- The lower of the two, with one deterministic leg.
    not_lower : (v : ℕ) → v ≤ first → v ≤ second → (u : ℕ) → u < node_count (shape_of p) → is_clear p Deterministic S u ≡ true → is_clear p Deterministic u D ≡ true →
        worth p S D h h_s h_d u ≡ least p S D h h_s h_d + 1 → v ≤ u
    not_lower v a b u l o k e =
        ⊎_elim (λ w. omega (arith, not_below p S D h h_s h_d Adaptive Deterministic first u lf l w)) (λ w. omega (arith, not_below p S D h h_s h_d Deterministic Adaptive second u ls l w))
        (worth_one p S D h h_s h_d u l o k e)

    by_first : first < 4096 → first ≤ second → NoteTo p S D (4096 * 1 + first)
    by_first m k =
        let f = lf.found m in
        let w = f.1 in
        let no-adaptive : is_clear p Adaptive first D ≡ false = test (is_clear p Adaptive first D) (λ t. absurd (blocked.ways first f.0 (record { out = w.out; back = t; sum = w.sum }))) (λ t. t) in
        let o : dets p S D h h_s h_d S first ≡ 0 = rw w.out refl in
        let b : dets p S D h h_s h_d first D ≡ 1 = rw no-adaptive refl in
        by_lowest p S D h h_s h_d Adaptive Deterministic first 1 f.0 w (omega (arith, way_worth p S D h h_s h_d Adaptive Deterministic first f.0 w))
        (λ u l o b g. none_least u l g) (not_lower first (omega arith) k)

    by_second : second < 4096 → second ≤ first → NoteTo p S D (4096 * 1 + second)
    by_second m k =
        let f = ls.found m in
        let w = f.1 in
        let no-adaptive : is_clear p Adaptive S second ≡ false = test (is_clear p Adaptive S second) (λ t. absurd (blocked.ways second f.0 (record { out = t; back = w.back; sum = w.sum }))) (λ t. t) in
        let o : dets p S D h h_s h_d S second ≡ 1 = rw no-adaptive refl in
        let b : dets p S D h h_s h_d second D ≡ 0 = rw w.back refl in
        by_lowest p S D h h_s h_d Deterministic Adaptive second 1 f.0 w (omega (arith, way_worth p S D h h_s h_d Deterministic Adaptive second f.0 w))
        (λ u l o b g. none_least u l g) (not_lower second k (omega arith))

    pub one_note : (r : ℕ) → r ≡ via_note (lower first second) 1 → lower first second < 4096 → NoteTo p S D r
    unfolding lower via_note
    one_note r e m = by_le first second
        (λ k. let q : lower first second ≡ first = rw (le-leb first second k) refl in let m1 : first < 4096 = omega arith in rw (e, q, lt-ltb first 4096 m1) (by_first m1 k))
        (λ k. let q : lower first second ≡ second = rw (lt-leb first second k) refl in let m1 : second < 4096 = omega arith in rw (e, q, lt-ltb second 4096 m1) (by_second m1 (omega arith)))

    -- There is neither: the lowest with two.
    module _ (third : ℕ) (lt : LowestVia p Deterministic Deterministic S D third) (none : 4096 ≤ lower first second) where
      both_none : (4096 ≤ first) × (4096 ≤ second)
      unfolding lower
      both_none = by_le first second
          (λ k. let q : lower first second ≡ first = rw (le-leb first second k) refl in (omega arith, omega arith))
          (λ k. let q : lower first second ≡ second = rw (lt-leb first second k) refl in (omega arith, omega arith))

      no_first : (u : ℕ) → u < node_count (shape_of p) → OnWay p Adaptive Deterministic S D u → ⊥
      no_first u l o = lf.before u l (omega (arith, few p S D h h_s h_d, both_none.0)) o

      no_second : (u : ℕ) → u < node_count (shape_of p) → OnWay p Deterministic Adaptive S D u → ⊥
      no_second u l o = ls.before u l (omega (arith, few p S D h h_s h_d, both_none.1)) o

      by_third : third < 4096 → NoteTo p S D (4096 * 2 + third)
      by_third m =
          let f = lt.found m in
          let w = f.1 in
          let no-out : is_clear p Adaptive S third ≡ false = test (is_clear p Adaptive S third) (λ t. absurd (no_first third f.0 (record { out = t; back = w.back; sum = w.sum }))) (λ t. t) in
          let no-back : is_clear p Adaptive third D ≡ false = test (is_clear p Adaptive third D) (λ t. absurd (no_second third f.0 (record { out = w.out; back = t; sum = w.sum }))) (λ t. t) in
          let o : dets p S D h h_s h_d S third ≡ 1 = rw no-out refl in
          let b : dets p S D h h_s h_d third D ≡ 1 = rw no-back refl in
          by_lowest p S D h h_s h_d Deterministic Deterministic third 2 f.0 w (omega (arith, way_worth p S D h h_s h_d Deterministic Deterministic third f.0 w))
          (λ u l o b g. by_order (worth p S D h h_s h_d u) (least p S D h h_s h_d + 1)
          (λ k. none_least u l k)
          (λ q. ⊎_elim (no_first u l) (no_second u l) (worth_one p S D h h_s h_d u l o b q))
          (λ k. omega arith))
          (λ u l o b q. not_below p S D h h_s h_d Deterministic Deterministic third u lt l (worth_two p S D h h_s h_d u l o b q))

      pub two_note : (r : ℕ) → r ≡ via_note third 2 → r < unclear → NoteTo p S D r
      unfolding via_note
      two_note r e low = by_le 4096 third
          (λ k. let q : via_note third 2 ≡ unclear = rw (le-ltb third 4096 k) refl in absurd (omega arith))
          (λ k. rw (e, lt-ltb third 4096 k) (by_third k))
