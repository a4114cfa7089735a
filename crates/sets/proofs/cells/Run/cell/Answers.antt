use native.Mathlib.Omega.{arith}
use borrow.Author.Tests.{ne_eqb}
use Rattle.masks.specs.Cell.{cell}
use Rattle.sets.proofs.cells.Run.cell.Goals as goal

pub returns-in-0 : goal.returns-in-0
unfolding cell
returns-in-0 c = rw c.in-0.is c.passes_before.ensures

pub returns-in-1 : goal.returns-in-1
unfolding cell
returns-in-1 c = rw c.in-1.is c.takes.ensures

pub returns-in-2 : goal.returns-in-2
unfolding cell
returns-in-2 c = rw c.in-2.is c.takes-in-2.ensures

pub returns-in-3 : goal.returns-in-3
unfolding cell
returns-in-3 c = rw c.in-3.is c.passes_behind.ensures

pub returns-in-4 : goal.returns-in-4
unfolding cell
returns-in-4 c = rw c.in-4.is c.takes_link.ensures

pub returns-in_default : goal.returns-in_default
unfolding cell
returns-in_default c =
    let k = c.args.column in
    rw (ne_eqb k 0 (λ e. omega arith), ne_eqb k 1 (λ e. omega arith), ne_eqb k 2 (λ e. omega arith), ne_eqb k 3 (λ e. omega arith), ne_eqb k 4 (λ e. omega arith)) c.takes_links.ensures
