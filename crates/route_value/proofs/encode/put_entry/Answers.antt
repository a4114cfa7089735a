use native.Mathlib.Omega.{arith}
use lib.ListN.{length-set}
use Rattle.route_value.proofs.Forms.{entry_stored}
use Rattle.route_value.proofs.encode.put_entry.Goals as goal

pub bounds-bytes-at-2 : goal.bounds-bytes-at-2
bounds-bytes-at-2 c = simp length-set (omega arith)

pub bounds-bytes-at-3 : goal.bounds-bytes-at-3
bounds-bytes-at-3 c = simp length-set (omega arith)

pub bounds-bytes-at-4 : goal.bounds-bytes-at-4
bounds-bytes-at-4 c = simp length-set (omega arith)

pub bounds-bytes-at-5 : goal.bounds-bytes-at-5
bounds-bytes-at-5 c = simp length-set (omega arith)

pub bounds-bytes-at-6 : goal.bounds-bytes-at-6
bounds-bytes-at-6 c = simp length-set (omega arith)

pub bounds-bytes-at-7 : goal.bounds-bytes-at-7
bounds-bytes-at-7 c = simp length-set (omega arith)

pub returns : goal.returns
returns c = entry_stored _ _ _ _ _ _ _ _ _ c.upper.ensures c.lower.ensures c.upper-2.ensures c.lower-2.ensures c.upper-3.ensures c.lower-3.ensures
