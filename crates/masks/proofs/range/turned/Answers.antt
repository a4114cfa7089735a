use Prim.Native.Nat.{◌*◌, ◌/◌, ◌%◌, ◌^◌}
use lib.Bits.{bit_or}
use native.Mathlib.Omega.{arith}
use mathlib.Core.Path.{refl}
use Rattle.masks.proofs.Arcs.{turned_small, turned_is}
use Rattle.masks.proofs.range.turned.Goals as goal

-- src/range.rt:35:5
pub overflow_cast-result : goal.overflow_cast-result
overflow_cast-result c = let m = c.args.m in let p = c.args.p in let len = c.args.len in omega (arith, turned_small (bit_or ((m * 2 ^ p) % 4294967296) ((m * 2 ^ p) % 4294967296 / 2 ^ len)) len c.ones.result c.requires.0 c.ones.ensures.0)

-- src/range.rt:29:1
pub returns : goal.returns
returns c = turned_is _ _ _ _ _ c.requires.0 c.requires.1 c.requires.2 refl c.ones.ensures.0
