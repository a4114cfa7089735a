-- What planning a pair answers, and what a route sheet says of a destination: a choice, or the number of the refusal.
use Rattle.std.specs.Prelude.{ℕ, zero, suc}
use Rattle.choice.specs.Choice.{Choice}

pub data Answer : Type 0 where
  Given : Choice → Answer
  Refused : ℕ → Answer

-- The number with which the checks decline, or the answer.
unfoldable pub answered : ℕ → Answer → Answer
answered zero a = a
answered (suc e) a = Refused (suc e)
