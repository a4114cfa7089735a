-- A mask cut to the places of a dimension; whether a run is long enough.
use Prim.Native.Nat.{ℕ, ◌+◌, ◌-◌, ◌*◌, ◌/◌, ◌%◌, ◌^◌, ◌≤◌, ◌<◌}
use native.Mathlib.Omega.{arith}
use native.Mathlib.Nat.{div-add-mod'}
use mathlib.Core.Path.{◌≡◌, sym, ap, ◌∙◌}
use mathlib.Core.Bool.{true, false}
use lib.Bits.{bit_and, and_mask, mask_lt}
use lib.Dec.{leb}
use lib.Pow.{shl_exact, pow_mono, pow_pos}
use borrow.Author.Tests.{le-leb, lt-leb, leb-true}
use Rattle.theory.proofs.Cases.{by_le}
use Rattle.rows.specs.Bits.{bit}
use Rattle.rows.proofs.Bits.{bit_low}
use Rattle.search.specs.FirstVia.{has_rows}
use Rattle.search.specs.Planes.{Clipped}

-- The number past len bits, in 32.
pub past_is : (len : ℕ) → len ≤ 16 → ((1 * 2 ^ len) % 4294967296 ≡ 2 ^ len) × (1 ≤ 2 ^ len) × (2 ^ len ≤ 65536)
past_is len h =
    let e : (1 * 2 ^ len) % 4294967296 ≡ 1 * 2 ^ len = shl_exact {a = 1} 1 len 32 (omega arith) (omega arith) in
    let most : 2 ^ len ≤ 65536 = pow_mono {i = len} {j = 16} h in
    (e ∙ omega arith, pow_pos len, most)

keeps : (len mask i : ℕ) → i < len → bit (bit_and mask (2 ^ len - 1)) i ≡ bit mask i
keeps len mask i l =
    ap (λ (m : ℕ). bit m i) (and_mask mask len) ∙ sym (bit_low (mask / 2 ^ len) len (mask % 2 ^ len) i l)
    ∙ ap (λ (m : ℕ). bit m i) (div-add-mod' mask (2 ^ len))

pub clipped : (len mask : ℕ) → len ≤ 16 → Clipped len mask (bit_and mask ((1 * 2 ^ len) % 4294967296 - 1))
clipped len mask h = rw (past_is len h).0 (record { below = mask_lt mask len; keeps = keeps len mask })

pub rows_short : (len at n : ℕ) → len < n → false ≡ has_rows len at n
unfolding has_rows
rows_short len at n h = sym (lt-leb (at + n) len (omega arith))

pub rows_left : (len at n : ℕ) → n ≤ len → leb at (len - n) ≡ has_rows len at n
unfolding has_rows
rows_left len at n h =
    by_le at (len - n)
    (λ l. le-leb at (len - n) l ∙ sym (le-leb (at + n) len (omega arith)))
    (λ l. lt-leb at (len - n) l ∙ sym (lt-leb (at + n) len (omega arith)))

pub rows_fit : (len at n : ℕ) → has_rows len at n ≡ true → at + n ≤ len
unfolding has_rows
rows_fit len at n e = leb-true (at + n) len e
