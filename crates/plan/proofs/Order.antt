-- The order of faults, by node, then kind, is that of their keys.
use Prim.Native.Nat.{◌+◌, ◌<◌}
use native.Mathlib.Omega.{arith}
use mathlib.Core.Path.{◌≡◌}
use borrow.Author.Tests.{lt-ltb, le-ltb, eq-eqb, ne_eqb}
use lib.Dec.{ltb}
use Rattle.std.specs.Ordering.{partial_le}
use Rattle.theory.proofs.Cases.{by_order}
use Rattle.plan.specs.declared.layout.Fault.{Fault}
use Rattle.plan.specs.contracts.layout.FaultPartialOrd.TheImpl.{partial_cmp-value}
use Rattle.plan.specs.Checks.{fault_key}

pub above : (f b : Fault) → f.kind < 256 → b.kind < 256 → partial_le partial_cmp-value.it f b ≡ ltb (fault_key f) (fault_key b + 1)
unfolding fault_key
above f b hf hb =
    by_order f.node b.node
    (λ a. rw (lt-ltb f.node b.node a, lt-ltb (fault_key f) (fault_key b + 1) (omega arith)))
    (λ a.
    rw (le-ltb f.node b.node (omega arith), eq-eqb f.node b.node a)
    (by_order f.kind b.kind
    (λ k. rw (lt-ltb f.kind b.kind k, lt-ltb (fault_key f) (fault_key b + 1) (omega arith)))
    (λ k. rw (le-ltb f.kind b.kind (omega arith), eq-eqb f.kind b.kind k, lt-ltb (fault_key f) (fault_key b + 1) (omega arith)))
    (λ k. rw (le-ltb f.kind b.kind (omega arith), ne_eqb f.kind b.kind (λ e. omega arith), le-ltb (fault_key f) (fault_key b + 1) (omega arith)))))
    (λ a. rw (le-ltb f.node b.node (omega arith), ne_eqb f.node b.node (λ e. omega arith), le-ltb (fault_key f) (fault_key b + 1) (omega arith)))
