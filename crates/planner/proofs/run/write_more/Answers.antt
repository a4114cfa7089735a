use native.Mathlib.Omega.{arith}
use mathlib.Core.Path.{sym, ◌∙◌}
use Rattle.std.proofs.lemmas.Result.{err_from_is_err_and}
use Rattle.planner.proofs.Checking.{accepted_run, board_of, boards_known, refused_run, written_run}
use Rattle.planner.proofs.run.write_more.Goals as goal

pub returns-in_err-all : goal.returns-in_err-all
returns-in_err-all c =
    let p = err_from_is_err_and c.from_residual.result c.from_residual.ensures.1 in
    λ _. rw (p.1, p.2) (refused_run _ _ _ _ _ c.in_err-all.ensures.value c.in_err-all.ensures.number)

pub more_boards-requires : goal.more_boards-requires
more_boards-requires c = let k = boards_known _ _ _ _ c.in_ok-all.ensures.value in (accepted_run _ _ k.error, k.boards_are, k.enough, omega (arith, board_of _ _ k.error, k.boards_are))

pub returns : goal.returns
returns c = λ filled. written_run _ _ _ _ _ (boards_known _ _ _ _ c.in_ok-all.ensures.value) _ _ _ _ (c.more_boards.ensures filled) c.ended.ensures
