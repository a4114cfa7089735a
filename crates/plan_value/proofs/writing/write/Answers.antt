use mathlib.Core.Path.{sym}
use native.Mathlib.Omega.{arith}
use Rattle.sheet.proofs.Outputs.{refused}
use Rattle.plan.specs.Checks.{large, torus_plans}
use Rattle.plan_value.proofs.Writings.{unknown_version, too_many}
use Rattle.plan_value.proofs.writing.write.Goals as goal

pub returns-then-not-is_known : goal.returns-then-not-is_known
returns-then-not-is_known c = refused _ _ _ _ (sym (unknown_version c.args.plan torus_plans large c.args.out.now _ c.is_known.ensures c.if-not-is_known.true))

pub returns-then-count-gt-MOST_FAULTS : goal.returns-then-count-gt-MOST_FAULTS
returns-then-count-gt-MOST_FAULTS c = refused _ _ _ _ (sym (too_many c.args.plan torus_plans large c.args.out.now _ c.is_known.ensures c.if-not-is_known.false c.if-count-gt-MOST_FAULTS.true (omega arith)))
