use native.Mathlib.Omega.{arith}
use Rattle.all_sheets.proofs.Enough.{always_made}
use Rattle.all_sheets.proofs.Inputs.{sets_input}
use Rattle.all_sheets.proofs.input.sets_of_input.Goals as goal

both : {A B : Type 0} → A × B → record { sets_made : A; value : B }
both p = record { sets_made = p.0; value = p.1 }

pub returns : goal.returns
returns c = both (let made = sets_input _ _ _ _ _ c.front.ensures.result_value c.make_sets.ensures in (made, always_made _ _ _ _ (omega arith) made))
