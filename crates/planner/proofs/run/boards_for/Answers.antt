use native.Mathlib.Omega.{arith}
use mathlib.Core.Path.{refl, sym, ◌∙◌}
use Rattle.std.proofs.lemmas.Result.{err_from_is_err_and}
use Rattle.planner.proofs.Checking.{refused_boards, few_boards, enough_boards}
use Rattle.planner.proofs.run.boards_for.Goals as goal

pub returns-in_err-check_run : goal.returns-in_err-check_run
returns-in_err-check_run c =
    let p = err_from_is_err_and c.from_residual.result c.from_residual.ensures.1 in
    rw (p.1, p.2) (record { value = refused_boards _ _ _ _ c.in_err-check_run.ensures; number = c.in_err-check_run.ensures })

pub returns-then-words-words_for : goal.returns-then-words-words_for
returns-then-words-words_for c = let ok = sym c.in_ok-check_run.ensures in record { value = few_boards _ _ _ ok _ _ _ c.shape_in.ensures c.count-all.ensures c.words_for.ensures (omega arith); number = sym ok }

pub returns : goal.returns
returns c = let ok = sym c.in_ok-check_run.ensures in record { value = enough_boards _ _ _ ok _ _ _ c.shape_in.ensures c.count-all.ensures c.words_for.ensures (omega arith); number = sym ok }
