use lib.Dec.{leb}
use Prim.Native.Nat.{◌+◌, ◌-◌, ◌/◌}
use native.Mathlib.Omega.{arith}
use Rattle.masks.proofs.Spans.{ring_span}
use Rattle.masks.proofs.RowMasks.{pick_most}
use Rattle.masks.proofs.span.ring_span.Goals as goal

-- src/span.rt:39:5
pub arcs-requires : goal.arcs-requires
arcs-requires c = let a = c.args in let p = c.requires in let w = c.hops-u.ensures in let k = c.hops-u.result in let t = pick_most (leb k (a.len / 2)) (k + 1) 1 a.len _ c.pick-top.ensures (omega arith) (omega arith) in let u = pick_most (leb (a.len - a.len / 2) k) k a.len 16 _ c.pick-low.ensures (omega arith) (omega arith) in (p.0, p.1, omega arith, t, u, omega arith)

-- src/span.rt:31:1
pub returns : goal.returns
returns c = ring_span _ _ _ _ _ _ _ c.requires.1 c.requires.2 c.hops-u.ensures.0 c.pick-top.ensures c.pick-low.ensures c.arcs.ensures
