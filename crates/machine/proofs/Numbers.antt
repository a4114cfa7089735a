-- Node numbers and coordinates: each is the other's inverse, and coordinates are found by two divisions from the top.
use Prim.Native.Nat.{ℕ, ◌+◌, ◌*◌, ◌/◌, ◌%◌, ◌≤◌, ◌<◌}
use mathlib.Core.Path.{◌≡◌, refl, ◌∙◌}
use native.Mathlib.Nat.{mul_comm, mul_assoc, mul_left_comm, mul-pos, mul-le-mul, mul-le-mul_left, mod-lt, mod-eq_of_lt, div-eq_of_lt, mod-add-div, div-lt_iff_lt-mul, div-div-eq-div-mul, add-mul-mod_self_left, add-mul-div_left, zero-add}
use native.Mathlib.Omega.{arith}
use lib.Arith.{digits_lt, digits_div, digits_mod, mod-mul}
use Rattle.shape.specs.declared.shape.Shape.{Shape}
use Rattle.shape.specs.declared.shape.Coords.{Coords}
use Rattle.shape.specs.declared.shape.Dim.TheVariants.{X, Y, Z}
use Rattle.shape.specs.Shape.{shape_error}
use Rattle.machine.specs.Number.{node_count, number_of, coords_of, Inside}
use Rattle.machine.specs.Division.{coords_by}
use Rattle.shape.proofs.Shapes.{sound, count_most}
use Rattle.machine.proofs.Division.{times_is, rest_is}

-- ---- the sums and products of a node number, of bytes of any size
pub inner_product : (b z : ℕ) → b ≤ 255 → z ≤ 255 → b * z ≤ 65025
inner_product b z hb hz = mul-le-mul hb hz

pub outer_product : (a y b z : ℕ) → a ≤ 255 → y ≤ 255 → b ≤ 255 → z ≤ 255 → a * (y + b * z) ≤ 16646400
outer_product a y b z ha hy hb hz = let inner : y + b * z ≤ 65280 = omega (arith, inner_product b z hb hz) in mul-le-mul ha inner

pub count_product : (a b c : ℕ) → a ≤ 255 → b ≤ 255 → c ≤ 255 → a * b * c ≤ 16581375
count_product a b c ha hb hc = mul-le-mul (inner_product a b ha hb) hc

pub count_small : (s : Shape) → shape_error s ≡ 0 → node_count s ≤ 4096
unfolding node_count
count_small s h = count_most s h

-- ---- two digits
pub digits_below : (x a m k : ℕ) → x < a → m < k → x + a * m < a * k
digits_below x a m k hx hm = omega (arith, digits_lt hm hx, mul_comm m a, mul_comm k a)

pub low_digit : (x a m : ℕ) → x < a → (x + a * m) % a ≡ x
low_digit x a m h = add-mul-mod_self_left x a m ∙ mod-eq_of_lt h

pub high_digit : (x a m : ℕ) → x < a → (x + a * m) / a ≡ m
high_digit x a m h = add-mul-div_left x m {y = a} (omega arith) ∙ rw (div-eq_of_lt h) (zero-add m)

-- ---- a number's coordinates, by the plane and then the row
module _ (n a b : ℕ) (ha : 0 < a) (hb : 0 < b) where
  rest : n % (a * b) ≡ n / a % b * a + n % a
  rest = rw (mul_comm a b) (mod-mul n hb ha)

  pub rest_mod : n % (a * b) % a ≡ n % a
  rest_mod = rw rest (digits_mod (n / a % b) (mod-lt n ha))

  pub rest_div : n % (a * b) / a ≡ n / a % b
  rest_div = rw rest (digits_div (n / a % b) (mod-lt n ha))

  pub rest_below : n % (a * b) < a * b
  rest_below = mod-lt n (mul-pos ha hb)

reversed : (x y z : ℕ) → x * y * z ≡ z * y * x
reversed x y z = simp (mul_comm, mul_left_comm)

module _ (s : Shape) (h : shape_error s ≡ 0) where
  pub number_below : (c : Coords) → Inside s c → number_of s c < node_count s
  unfolding number_of node_count
  number_below c i =
      omega (arith, mul_assoc s.x s.y s.z, digits_below c.x s.x (c.y + s.y * c.z) (s.y * s.z) i.x (digits_below c.y s.y c.z s.z i.y i.z))

  pub coords_number : (c : Coords) → Inside s c → coords_of s (number_of s c) ≡ c
  unfolding number_of coords_of
  coords_number c i = simp (low_digit, high_digit, i.x, i.y)

  pub number_coords : (n : ℕ) → number_of s (coords_of s n) ≡ n
  unfolding number_of coords_of
  number_coords n = simp mod-add-div

  pub inside : (n : ℕ) → n < node_count s → Inside s (coords_of s n)
  unfolding node_count coords_of
  inside n hn = record {
    x = mod-lt n (sound s h X).low;
    y = mod-lt (n / s.x) (sound s h Y).low;
    z = (div-lt_iff_lt-mul (sound s h Y).low).1 ((div-lt_iff_lt-mul (sound s h X).low).1 (rw (reversed s.x s.y s.z) at hn));
  }

  -- ---- the two divisions of the code
  plane_turns : (n : ℕ) → n < node_count s → n < 16 * (s.x * s.y)
  unfolding node_count
  plane_turns n hn = omega (arith, mul-le-mul_left (s.x * s.y) (sound s h Z).high)

  row_turns : (n r : ℕ) → r ≡ n % (s.x * s.y) → r < 16 * s.x
  row_turns n r e =
      omega (arith, e, rest_below n s.x s.y (sound s h X).low (sound s h Y).low, mul-le-mul_left s.x (sound s h Y).high)

  -- The code's subtractions give a node's coordinates.
  pub coords_by_law : (n : ℕ) → n < node_count s → coords_by s n ≡ coords_of s n
  unfolding coords_by coords_of
  coords_by_law n hn =
      let hx = (sound s h X).low in
      let hy = (sound s h Y).low in
      let plane = plane_turns n hn in
      let row = row_turns n _ refl in
      let small : n % s.x < 256 = omega (arith, mod-lt n hx, (sound s h X).high) in
      rw (rest_is n (s.x * s.y) plane, times_is n (s.x * s.y) plane, rest_is _ s.x row, times_is _ s.x row, rest_mod n s.x s.y hx hy, rest_div n s.x s.y hx hy, div-div-eq-div-mul n s.x s.y, mod-eq_of_lt small)

  pub number_fits : (c : Coords) → Inside s c → number_of s c % 65536 ≡ number_of s c
  unfolding node_count
  number_fits c i = mod-eq_of_lt (omega (arith, number_below c i, count_most s h))
