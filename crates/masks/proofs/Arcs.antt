-- Ranges as bits, turned round a ring.
use Prim.Native.Nat.{ℕ, ◌-◌, ◌*◌, ◌/◌, ◌%◌, ◌^◌, ◌≤◌, ◌<◌}
use native.Mathlib.Omega.{arith}
use mathlib.Core.Path.{◌≡◌, ap, ◌∙◌}
use mathlib.Core.Bool.{Bool, ◌||◌}
use lib.Bits.{bit_and, bit_or, and_le_r}
use lib.Pow.{pow_mono, pow_pos, shl_exact}
use Rattle.shape.specs.Steps.{ahead}
use Rattle.shape.proofs.AxisLaws.{ahead_is}
use Rattle.rows.specs.Bits.{bit, row_of}
use Rattle.rows.proofs.Bits.{row_below, row_bit}
use Rattle.rows.proofs.Combined.{row_same, or_rows, range_row, turned_row}
use Rattle.masks.specs.Ranges.{in_range}

pub ones_is : (n : ℕ) → n ≤ 16 → ((1 * 2 ^ n) % 4294967296 ≡ 2 ^ n) × (0 < (1 * 2 ^ n) % 4294967296) × ((1 * 2 ^ n) % 4294967296 ≤ 65536)
ones_is n h =
    let e : (1 * 2 ^ n) % 4294967296 ≡ 1 * 2 ^ n = shl_exact {a = 1} 1 n 32 (omega arith) (omega arith) in
    let most : 2 ^ n ≤ 65536 = pow_mono {i = n} {j = 16} h in
    (e ∙ omega arith, omega (arith, pow_pos n), omega arith)

pub range_is : (lo hi a b r : ℕ) → lo ≤ 16 → a ≡ 2 ^ hi - 1 → b ≡ 2 ^ lo - 1 → r ≡ bit_and a (65535 - b) → (n : ℕ) → hi ≤ n → n ≤ 16 → r ≡ row_of (in_range lo hi) n
unfolding in_range
range_is lo hi a b r h ea eb er n hn hm = er ∙ rw (ea, eb) (range_row lo hi n h hn hm)

pub up_is : (m p len : ℕ) → len ≤ 16 → p < len → m < 2 ^ len → (m * 2 ^ p) % 4294967296 ≡ m * 2 ^ p
up_is m p len h hp hm = shl_exact {a = m} 16 p 32 (omega (arith, pow_mono {i = len} {j = 16} h)) (omega arith)

pub turned_small : (v n r : ℕ) → n ≤ 16 → r ≡ 2 ^ n - 1 → bit_and v r < 65536
turned_small v n r h e = omega (arith, and_le_r v r, pow_mono {i = n} {j = 16} h, pow_pos n)

pub turned_is : (m p len up r : ℕ) → len ≤ 16 → p < len → m < 2 ^ len → up ≡ (m * 2 ^ p) % 4294967296 → r ≡ 2 ^ len - 1 → bit_and (bit_or up (up / 2 ^ len)) r ≡ row_of (λ x. bit m (ahead len p x)) len
turned_is m p len up r h hp hm eu er = rw (er, eu, up_is m p len h hp hm) (turned_row m p len hp hm)

pub row_fits : (f : ℕ → Bool) (len m : ℕ) → m ≡ row_of f len → m < 2 ^ len
row_fits f len m e = rw e (row_below f len)

-- The bits of a row, turned.
pub row_turned : (f : ℕ → Bool) (len p m r : ℕ) → p < len → m ≡ row_of f len → r ≡ row_of (λ x. bit m (ahead len p x)) len → r ≡ row_of (λ x. f (ahead len p x)) len
row_turned f len p m r hp e q = q ∙ row_same _ _ len (λ x l. ap (λ (t : ℕ). bit t (ahead len p x)) e ∙ row_bit f len (ahead len p x) (ahead_is len p x hp l).below)

pub two_ranges : (lo hi low high len a b : ℕ) → len ≤ 16 → hi ≤ len → high ≤ len → ((n : ℕ) → hi ≤ n → n ≤ 16 → a ≡ row_of (in_range lo hi) n) → ((n : ℕ) → high ≤ n → n ≤ 16 → b ≡ row_of (in_range low high) n) → bit_or a b ≡ row_of (λ x. in_range lo hi x || in_range low high x) len
two_ranges lo hi low high len a b h hh hg f g = rw (f len hh h, g len hg h) (or_rows (in_range lo hi) (in_range low high) len)

pub hops_up : (len p q : ℕ) → p ≤ q → q < len → (q - p ≡ ahead len p q) × (q - p < len)
unfolding ahead
hops_up len p q h hq = (rw (borrow.Author.Tests.le-leb p q h), omega arith)

pub hops_round : (len p q : ℕ) → q < p → p < len → (len - (p - q) ≡ ahead len p q) × (len - (p - q) < len)
unfolding ahead
hops_round len p q h hp = (rw (borrow.Author.Tests.lt-leb p q h), omega arith)
