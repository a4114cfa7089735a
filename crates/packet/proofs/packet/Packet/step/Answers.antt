use Rattle.packet.proofs.Answers.{step_told}
use Rattle.packet.proofs.packet.Packet.step.Goals as goal

both : {A B : Type 0} → A × B → record { value : A; answer_value : B }
both p = record { value = p.0; answer_value = p.1 }

pub returns : goal.returns
returns c = both (step_told _ _ _ _ c.hop.ensures c.stepped.ensures)
