use mathlib.Core.Path.{◌≡◌, refl}
use Prim.Native.Nat.{ℕ, ◌+◌, ◌-◌}
use native.Mathlib.Omega.{arith}
use Rattle.routes.proofs.Lookups.{part_of}
use Rattle.routes.proofs.lookup.lookup.Goals as goal

as_long : (at n : ℕ) → at + n - at ≡ n
as_long at n = omega arith

pub returns : goal.returns
returns c = part_of _ _ _ _ _ c.entry_part-part.result c.entry_part-part.ensures.value (record { block = refl; offset = omega arith; bytes = rw (as_long c.entry_part-part.result.start c.entry_part-part.result.size) })
