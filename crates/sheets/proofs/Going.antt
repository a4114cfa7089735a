-- What holds holds of each answer.
use Rattle.std.specs.Prelude.{Option, Some, None, IfSome}

pub of_each : {X P : Type 0} (r : Option X) → P → IfSome r (λ _. P)
of_each None p = tt
of_each (Some x) p = p
