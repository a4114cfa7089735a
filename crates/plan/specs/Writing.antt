-- Writing a plan sheet back.
use Rattle.std.specs.Prelude.{ℕ, List}
use Rattle.sheet.specs.Output.{room_error}
use Rattle.plan.specs.Checks.{Limits, plan_error}

-- Writing back a sheet checks as its reading does, then 12.
abbrev pub write_error : Limits → List ℕ → List ℕ → ℕ
write_error L s o = room_error (plan_error L s) s o
