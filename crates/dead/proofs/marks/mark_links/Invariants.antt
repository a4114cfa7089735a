use Prim.Native.Nat.{◌-◌}
use mathlib.Core.Path.{◌≡◌}
use Rattle.dead.specs.Steps.{mark_from}
use Rattle.dead.proofs.marks.mark_links.Given as goal

abbrev pub invariant-loop-dir : goal.invariant-loop-dir
invariant-loop-dir l = l.masks ≡ mark_from l.shape l.initial.masks l.node l.first (l.dir - l.first)
