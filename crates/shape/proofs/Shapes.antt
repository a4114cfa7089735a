-- What a shape that no check declines is.
use Prim.Native.Nat.{ℕ, ◌*◌, ◌≤◌}
use mathlib.Core.Bool.{Bool, true, false}
use mathlib.Core.Path.{◌≡◌}
use native.Mathlib.Nat.{mul-le-mul}
use lib.Dec.{ltb}
use borrow.Author.Tests.{ltb-false}
use Rattle.numbers.specs.Numbers.{extent_outside, wrong_wrap}
use Rattle.theory.specs.Checks.{declined, ◌then◌}
use Rattle.theory.proofs.Checks.{then_zero, declined_zero}
use Rattle.theory.proofs.Bools.{or_false}
use Rattle.shape.specs.declared.shape.Shape.{Shape}
use Rattle.shape.specs.declared.shape.Dim.{Dim}
use Rattle.shape.specs.declared.shape.Dim.TheVariants.{X, Y, Z}
use Rattle.shape.specs.Shape.{extent_of, wrapped_in, bad_extent, bad_wrap, bad_extents, bad_wraps, shape_error}

-- One dimension of such a shape.
pub record Axis (len : ℕ) (ring : Bool) : Type 0 where
  pub low : 1 ≤ len
  pub high : len ≤ 16
  pub three : ring ≡ true → 3 ≤ len

wrap_of : (n : ℕ) (w : Bool) → bad_wrap n w ≡ false → w ≡ true → 3 ≤ n
wrap_of n true h e = ltb-false n 3 h
wrap_of n false h e = absurd (mathlib.Core.Bool.false≢true e)

axis : (n : ℕ) (w : Bool) → bad_extent n ≡ false → bad_wrap n w ≡ false → Axis n w
axis n w e h =
    let out = or_false (ltb n 1) (ltb 16 n) e in
    record { low = ltb-false n 1 out.0; high = ltb-false 16 n out.1; three = wrap_of n w h }

-- Neither check 5 nor check 6 declines.
neither : (s : Shape) → shape_error s ≡ 0 → (bad_extents s ≡ false) × (bad_wraps s ≡ false)
unfolding shape_error
neither s h =
    let extents = then_zero (declined (bad_extents s) extent_outside) (declined (bad_wraps s) wrong_wrap then 0) h in
    let wraps = then_zero (declined (bad_wraps s) wrong_wrap) 0 extents.1 in
    (declined_zero (bad_extents s) _ extents.0, declined_zero (bad_wraps s) _ wraps.0)

extents : (s : Shape) → bad_extents s ≡ false → (d : Dim) → bad_extent (extent_of s d) ≡ false
unfolding bad_extents
extents s e X = (or_false (bad_extent s.x) _ e).0
extents s e Y = (or_false (bad_extent s.y) _ (or_false (bad_extent s.x) _ e).1).0
extents s e Z = (or_false (bad_extent s.y) _ (or_false (bad_extent s.x) _ e).1).1

wraps : (s : Shape) → bad_wraps s ≡ false → (d : Dim) → bad_wrap (extent_of s d) (wrapped_in s d) ≡ false
unfolding bad_wraps
wraps s e X = (or_false (bad_wrap s.x (wrapped_in s X)) _ e).0
wraps s e Y = (or_false (bad_wrap s.y (wrapped_in s Y)) _ (or_false (bad_wrap s.x (wrapped_in s X)) _ e).1).0
wraps s e Z =
    (or_false (bad_wrap s.z (wrapped_in s Z)) _ (or_false (bad_wrap s.y (wrapped_in s Y)) _ (or_false (bad_wrap s.x (wrapped_in s X)) _ e).1).1).0

pub sound : (s : Shape) → shape_error s ≡ 0 → (d : Dim) → Axis (extent_of s d) (wrapped_in s d)
sound s h d = let n = neither s h in axis (extent_of s d) (wrapped_in s d) (extents s n.0 d) (wraps s n.1 d)

pub plane_most : (s : Shape) → shape_error s ≡ 0 → s.x * s.y ≤ 256
plane_most s h = mul-le-mul (sound s h X).high (sound s h Y).high

pub count_most : (s : Shape) → shape_error s ≡ 0 → s.x * s.y * s.z ≤ 4096
count_most s h = mul-le-mul (plane_most s h) (sound s h Z).high
