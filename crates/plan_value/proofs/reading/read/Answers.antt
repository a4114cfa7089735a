use mathlib.Core.Path.{sym}
use Rattle.std.proofs.lemmas.Result.{err_from_is_err_and}
use Rattle.numbers.proofs.Refusals.{passed, refused}
use Rattle.plan_value.specs.Reading.{plan_of}
use Rattle.plan_value.proofs.reading.read.Goals as goal

pub returns-in_err-check-clause-value : goal.returns-in_err-check-clause-value
returns-in_err-check-clause-value c =
    let p = err_from_is_err_and c.from_residual.result c.from_residual.ensures.1 in
    rw (p.1, p.2) (refused _ _ _ c.in_err-check.ensures)

pub faults_in-requires : goal.faults_in-requires
faults_in-requires c = sym c.in_ok-check.ensures

pub returns-clause-value : goal.returns-clause-value
unfolding plan_of
returns-clause-value c = rw (c.count_in.ensures, c.weights_in.ensures, c.shape_in.ensures, c.version_in.ensures, c.faults_in.ensures) (passed _ _ c.in_ok-check.ensures)
