use native.Mathlib.Omega.{arith}
use mathlib.Core.Path.{◌∙◌}
use Rattle.planner.proofs.Boarding.{board_small, dead_board, board_at, step_fits, board_written}
use Rattle.planner.proofs.boards.write_board.Goals as goal

pub bounds-known-source : goal.bounds-known-source
bounds-known-source c = board_small c.args.known.now.prepared c.requires.source_bound

pub returns-then-known-source-ne0 : goal.returns-then-known-source-ne0
returns-then-known-source-ne0 c = record { size_in_bounds = omega arith; boarded = λ _. dead_board c.args.known.now.prepared c.requires.source_bound c.if-known-source-ne0.true _ }

pub routes_from-entries-requires : goal.routes_from-entries-requires
routes_from-entries-requires c = let k = board_at c.args.known.now.prepared c.requires.source_bound c.if-known-source-ne0.false _ _ _ c.gather-adaptive.result c.gather-deterministic.result c.requires.masked c.coords-a.ensures c.gather-adaptive.ensures c.gather-deterministic.ensures in
    record { at = k.1.0; ended = k.1.1.0; ended_2 = k.1.1.1.0; source_value = k.1.1.1.1; most_bytes_in_bounds = omega arith }

pub returns : goal.returns
returns c = record { size_in_bounds = step_fits _ _ _ _ _ _ c.put_made.ensures _ c.ok.ensures.value; boarded = λ sets. board_written c.args.known.now.prepared c.requires.source_bound c.if-known-source-ne0.false _ _ _ _ _ c.routes_from-entries.ensures sets c.put_made.ensures _ c.ok.ensures.value }
