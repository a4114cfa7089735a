use Rattle.conversion.proofs.Halves.{coords_is}
use native.Mathlib.Omega.{arith}
use mathlib.Core.Path.{sym, ◌∙◌}
use Rattle.conversion.proofs.Losing.{next_nodes, begin, refused, stays, finds, ended_kept, ended_lost}
use Rattle.conversion.proofs.judge.judge_entries.Goals as goal
use Rattle.conversion.proofs.judge.judge_entries.Goals.{then-not-entry_kept, else-not-entry_kept}

all_3 : {A B C : Type 0} → A × (B × C) → record { dest_value : A; via_value : B; second_value : C }
all_3 p = record { dest_value = p.0; via_value = p.1.0; second_value = p.1.1 }

pub loop-i-init : goal.loop-i-init
loop-i-init c = begin _ _ _ _ c.count_in-i-end.ensures

pub returns-then-not-next_good : goal.returns-then-not-next_good
returns-then-not-next_good c = refused _ _ _ _ _ _ _ c.loop-i.invariant _ c.old_entry-e.ensures c.loop-i-test.true (sym c.next_good.ensures ∙ c.if-not-next_good.true)

pub entry_kept-requires : goal.entry_kept-requires
entry_kept-requires c = all_3 (next_nodes _ _ _ _ c.requires (sym c.next_good.ensures ∙ c.if-not-next_good.false))

pub loop-i-preserved : goal.loop-i-preserved
loop-i-preserved c =
    let e = c.old_entry-e.ensures in
    let good = sym c.next_good.ensures ∙ c.if-not-next_good.false in
    let here = coords_is _ _ c.requires _ c.coords-at.ensures in
    elim c.if-not-entry_kept.branch [
      | then-not-entry_kept w ↦
          rw (w.lost-is, w.or-lost.ensures) (finds _ _ _ _ _ _ _ c.loop-i.invariant _ e c.loop-i-test.true good (omega arith) (sym (c.entry_kept.ensures _ here) ∙ w.if-not-entry_kept.true))
      | else-not-entry_kept w ↦
          rw w.lost-is (stays _ _ _ _ _ _ _ c.loop-i.invariant _ e c.loop-i-test.true good (omega arith) (sym (c.entry_kept.ensures _ here) ∙ w.if-not-entry_kept.false))
    ]

pub returns-in-None : goal.returns-in-None
returns-in-None c = ended_kept _ _ _ _ _ _ _ c.loop-i.invariant c.loop-i-test.false c.in-None.is

pub returns-in-Some : goal.returns-in-Some
returns-in-Some c = ended_lost _ _ _ _ _ _ _ c.loop-i.invariant c.loop-i-test.false _ c.in-Some.is
