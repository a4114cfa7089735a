-- The answers, read as this paper's numbers and values.
use Rattle.std.specs.Prelude.{ℕ}
use Rattle.numbers.specs.Refusals.{number, refusal, answer}
use Rattle.theory.specs.Packet as T
use Rattle.packet.specs.declared.packet.Packet.{Packet}
use Rattle.packet.specs.declared.stepper.Stepped.{Stepped}
use Rattle.packet.specs.declared.stepper.Ending.{Ending}
use Rattle.packet.specs.declared.stepper.Ending.TheVariants.{Arrived, NotAllowed, UsedUp}
use Rattle.packet.specs.declared.stepper.Walked.{Walked}

unfoldable pub told : T.Stepped Packet → Stepped
told w = record { packet = w.packet; answer = answer w.number tt }

-- How a walk ended, read as the paper's ending, and so its number.
abbrev pub ending_of : Ending → T.Ending
ending_of Ending.Arrived = T.Arrived
ending_of Ending.NotAllowed = T.NotAllowed
ending_of Ending.UsedUp = T.UsedUp
ending_of (Ending.Refused e) = T.Declined (number e)

abbrev pub ending_number : Ending → ℕ
ending_number e = T.walk_number (ending_of e)

-- And toward the enum.
abbrev pub ended_as : T.Ending → Ending
ended_as T.Arrived = Arrived
ended_as T.NotAllowed = NotAllowed
ended_as T.UsedUp = UsedUp
ended_as (T.Declined e) = Ending.Refused (refusal e)

unfoldable pub told_walk : T.Walked Packet → Walked
told_walk w = record { packet = w.packet; hops = w.hops; ending = ended_as w.ending }
