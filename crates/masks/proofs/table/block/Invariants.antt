use Prim.Native.Nat.{◌/◌, ◌%◌}
use Rattle.rows.proofs.Taking.{Filled}
use Rattle.masks.specs.End.{begins}
use Rattle.masks.specs.Masks.{mask_of}
use Rattle.masks.proofs.table.block.Given as goal

abbrev pub invariant-loop-j : goal.invariant-loop-j
invariant-loop-j l = Filled (λ j. mask_of l.fn.mode (begins l.fn.end) l.fn.axis.len l.fn.axis.ring (j / 16) (j % 16) l.fn.at) 96 l.masks l.j
