use native.Mathlib.Omega.{arith}
use borrow.Author.Rules.{rules}
use Rattle.planner.proofs.Running.{run_begin, run_turned, run_full, run_long, run_done}
use Rattle.planner.proofs.boards.boards_from.Goals as goal

pub loop-next-init : goal.loop-next-init
loop-next-init c = run_begin _ _ _ _ _

pub slice_bounds-write_board-count : goal.slice_bounds-write_board-count
slice_bounds-write_board-count c = omega (arith, c.loop-next.invariant.within, c.loop-next.invariant.long)

pub write_board-requires : goal.write_board-requires
write_board-requires c = record { masked = c.requires.masked; source_bound = let e = c.requires.all_value in omega arith }

pub returns-in_default : goal.returns-in_default
returns-in_default c = run_full _ _ _ _ _ _ _ _ c.loop-next.invariant (omega arith) _ _ c.write_board.ensures.size_in_bounds (search rules) c.write_board.ensures.boarded c.in_default.is c.requires.all_value.1

pub loop-next-preserved : goal.loop-next-preserved
loop-next-preserved c = run_turned _ _ _ _ _ _ _ _ c.loop-next.invariant (omega arith) _ _ c.write_board.ensures.size_in_bounds (search rules) c.write_board.ensures.boarded _ c.in-Some.is

pub shape_of-out : goal.shape_of-out
shape_of-out c = c.loop-next.invariant.long

pub returns : goal.returns
returns c = run_done _ _ _ _ _ _ _ _ c.loop-next.invariant (let e = c.requires.all_value in omega arith) c.requires.all_value.1
