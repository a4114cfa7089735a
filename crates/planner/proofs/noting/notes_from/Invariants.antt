use Prim.Native.Nat.{◌*◌}
use mathlib.Core.Path.{◌≡◌}
use lib.ListN.{length}
use Rattle.planner.specs.Ranked.{Noting}
use Rattle.planner.proofs.noting.notes_from.Given as goal

abbrev pub invariant-loop-r : goal.invariant-loop-r
invariant-loop-r l = (length l.near ≡ 256) × Noting l.fn.source.known.plan.now l.fn.source.known.work.now l.fn.source.node l.skip l.notes l.twos (65536 * l.r)
