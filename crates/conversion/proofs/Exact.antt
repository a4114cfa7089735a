-- 17 is given exactly where some entry cannot be kept.
use Prim.Native.Nat.{ℕ, ◌+◌}
use mathlib.Core.Path.{◌≡◌, refl, sym, ◌∙◌}
use mathlib.Core.Bool.{true, false}
use mathlib.Core.List.{List}
use native.Mathlib.Omega.{arith}
use Rattle.numbers.specs.Numbers.{entry_not_kept}
use Rattle.theory.proofs.Cases.{test}
use Rattle.sheet.specs.Bytes.{list_from}
use Rattle.plan.specs.Layout.{shape_of}
use Rattle.plan.specs.Checks.{Limits}
use Rattle.routes.specs.Layout.{first, source, entry_count, entry_in, entries_in}
use Rattle.routes.specs.Checks.{error_in}
use Rattle.routes.specs.Said.{said_by}
use Rattle.conversion.specs.Keeping.{all_kept, first_lost}
use Rattle.conversion.specs.Converting.{keep_error, lost_entry}
use Rattle.conversion.specs.Kept.{Stands, FirstOf, Exact}
use Rattle.conversion.proofs.Standing.{all_stand, stand_all, first_lost_law}
use Rattle.conversion.proofs.Kept.{Old, old_of}

module _ (L : Limits) (p s : List ℕ) (good : error_in first L p s ≡ 0) where
  old : Old L p s
  old = old_of L p s good

  when_kept : all_kept (shape_of p) (source s) (entries_in first s) ≡ true → keep_error L p s ≡ 0
  unfolding keep_error
  when_kept k = rw (good, k)

  when_lost : all_kept (shape_of p) (source s) (entries_in first s) ≡ false → keep_error L p s ≡ entry_not_kept
  unfolding keep_error
  when_lost k = rw (good, k)

  kept_when : keep_error L p s ≡ 0 → all_kept (shape_of p) (source s) (entries_in first s) ≡ true
  kept_when h = test (all_kept (shape_of p) (source s) (entries_in first s)) (λ k. k) (λ k. absurd (omega (arith, h, when_lost k)))

  lost_when : keep_error L p s ≡ entry_not_kept → all_kept (shape_of p) (source s) (entries_in first s) ≡ false
  lost_when h = test (all_kept (shape_of p) (source s) (entries_in first s)) (λ k. absurd (omega (arith, h, when_kept k))) (λ k. k)

  lost_is : all_kept (shape_of p) (source s) (entries_in first s) ≡ false → lost_entry L p s ≡ first_lost (shape_of p) (source s) (entries_in first s)
  unfolding lost_entry
  lost_is k = rw (good, k)

  named : keep_error L p s ≡ entry_not_kept → FirstOf (entry_count s) (λ i. Stands (shape_of p) (source s) (said_by (entry_in first s i))) (lost_entry L p s)
  named h =
      let k = lost_when h in
      let r = first_lost_law (shape_of p) (source s) old.from (entry_in first s) (entry_count s) 0 0 old.entries k in
      let zero_is : (j : ℕ) → 0 + j ≡ j = λ j. omega arith in
      rw (lost_is k) (record {
        below = r.below;
        fails = λ w. r.fails (rw (zero_is _) w);
        before = λ j b. rw (zero_is j) at (r.before j b);
      })

  -- The theorem.
  pub conversion_exact : Exact L p s
  conversion_exact = record {
    kept = (
      λ h. all_stand (shape_of p) (source s) old.from (entries_in first s) 0 old.entries (kept_when h),
      λ w. when_kept (stand_all (shape_of p) (source s) old.from (entries_in first s) 0 old.entries w),
    );
    otherwise = λ ne. test (all_kept (shape_of p) (source s) (entries_in first s)) (λ k. absurd (ne (when_kept k))) when_lost;
    named = named;
  }
