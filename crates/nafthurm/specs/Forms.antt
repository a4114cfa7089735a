-- The values that cross, as the proved calls' own: numbers in place of enums.
use Rattle.std.specs.Prelude.{ℕ, cond, ◌&&◌, List, [], ◌∷◌, get_or, replicate, eqb, Result, Ok, Err}
use Rattle.shape.specs.declared.shape.Shape.{Shape}
use Rattle.weights.specs.declared.weights.Weights.{Weights}
use Rattle.machine.specs.declared.leg.Leg.{Leg}
use Rattle.machine.specs.declared.leg.Mode.{Mode}
use Rattle.machine.specs.declared.leg.Mode.TheVariants.{Adaptive, Deterministic}
use Rattle.machine.specs.Torus.{leg}
use Rattle.packet.specs.declared.packet.Packet.{Packet}
use Rattle.packet.specs.declared.stepper.Stepped.{Stepped}
use Rattle.packet.specs.declared.stepper.Ending.{Ending}
use Rattle.packet.specs.declared.stepper.Walked.{Walked}
use Rattle.packet.specs.Packet.{most_legs, no_leg, packet_with}
use Rattle.packet.specs.New.{legs_to, new_packet}
use Rattle.numbers.specs.declared.Refusal.{Refusal}
use Rattle.numbers.specs.Refusals.{number, answer_number}
use Rattle.packet.specs.Answers.{ending_number}
use Rattle.choice.specs.declared.outcome.Outcome.{Outcome}
use Rattle.choice.specs.Choice.{det}
use Rattle.choice.specs.Answer.{answered}
use Rattle.choice.specs.Outcome.{outcome_number, told_as}
use Rattle.sheet.specs.Output.{written_size}
use Rattle.planner.specs.declared.run.Run.{Run}
use Rattle.planner.specs.declared.run.RunRefusal.{RunRefusal}
use Rattle.planner.specs.Run.{few_words, run_error, answer_of}
use Rattle.routes.specs.declared.layout.Entry.{Entry}
use Rattle.routes.specs.Said.{said_by, entry_for, heard}
use Rattle.nafthurm.specs.declared.forms.ShapeForm.{ShapeForm}
use Rattle.nafthurm.specs.declared.forms.WeightsForm.{WeightsForm}
use Rattle.nafthurm.specs.declared.forms.LegForm.{LegForm}
use Rattle.nafthurm.specs.declared.forms.PacketForm.{PacketForm}
use Rattle.nafthurm.specs.declared.forms.SteppedForm.{SteppedForm}
use Rattle.nafthurm.specs.declared.forms.WalkedForm.{WalkedForm}
use Rattle.nafthurm.specs.declared.forms.WrittenForm.{WrittenForm}
use Rattle.nafthurm.specs.declared.forms.ConvertedForm.{ConvertedForm}
use Rattle.nafthurm.specs.declared.forms.RunForm.{RunForm}
use Rattle.nafthurm.specs.declared.forms.PartForm.{PartForm}
use Rattle.nafthurm.specs.declared.forms.RouteForm.{RouteForm}
use Rattle.nafthurm.specs.declared.forms.PlannedForm.{PlannedForm}

unfoldable pub shape_of : ShapeForm → Shape
shape_of f = record { x = f.x; y = f.y; z = f.z; wrap = f.wrap }

unfoldable pub shape_for : Shape → ShapeForm
shape_for s = record { x = s.x; y = s.y; z = s.z; wrap = s.wrap }

unfoldable pub weights_for : Weights → WeightsForm
weights_for w = record { x = w.x; y = w.y; z = w.z }

-- 0 adaptive; any other byte deterministic.
abbrev pub mode_of : ℕ → Mode
mode_of m = cond (eqb m 0) Adaptive Deterministic

abbrev pub leg_of : LegForm → Leg
leg_of l = record { target = l.target; mode = mode_of l.mode }

abbrev pub no_form : LegForm
no_form = record { target = 0; mode = 0 }

unfoldable pub packet_of : PacketForm → Packet
packet_of q =
    record {
      source = q.source;
      node = q.node;
      legs = leg_of (get_or q.legs 0 no_form) ∷ leg_of (get_or q.legs 1 no_form) ∷ leg_of (get_or q.legs 2 no_form) ∷ [];
      count = q.count;
      mark = q.mark;
    }

-- A packet that a call returns or leaves has the source, the array of legs and the count that were lent.
abbrev pub packet_for : PacketForm → Packet → PacketForm
packet_for lent q = record { source = lent.source; node = q.node; legs = lent.legs; count = lent.count; mark = q.mark }

unfoldable pub stepped_for : PacketForm → Stepped → SteppedForm
stepped_for lent w = record { packet = packet_for lent w.packet; number = answer_number w.answer }

abbrev pub ending_for : Ending → ℕ
ending_for Ending.Arrived = 0
ending_for Ending.NotAllowed = 1
ending_for Ending.UsedUp = 2
ending_for (Ending.Refused e) = 3

unfoldable pub walked_for : PacketForm → Walked → WalkedForm
walked_for lent w = record { packet = packet_for lent w.packet; number = ending_number w.ending; ending = ending_for w.ending; hops = w.hops }

unfoldable pub written_for : Result ℕ Refusal → WrittenForm
written_for w = record { number = answer_number w; size = written_size w }

unfoldable pub converted_for : Result ℕ Refusal → ℕ → ConvertedForm
converted_for w i = record { number = answer_number w; entry = i; size = written_size w }

-- The number of too small a workspace is 255, which no refusal has.
abbrev pub run_refusal_for : RunRefusal → ℕ
run_refusal_for (RunRefusal.Refused e) = number e
run_refusal_for RunRefusal.FewWords = 255

unfoldable pub run_for : Result Run RunRefusal → RunForm
run_for (Ok run) = record { number = 0; next = run.next; size = run.size }
run_for (Err e) = record { number = run_refusal_for e; next = 0; size = 0 }

-- That number of a run from a board on, with a workspace of so many words, into so many bytes.
unfoldable pub run_form_number : List ℕ → ℕ → ℕ → ℕ → ℕ
run_form_number p from words room = cond (eqb (run_error p from) 0 && few_words p words) 255 (answer_of p from words room)

abbrev pub part_for : ℕ → ℕ → PartForm
part_for at len = record { start = at; size = len }

-- The kind and the two vias as in the entry of a sheet.
unfoldable pub route_for : Outcome → RouteForm
route_for o = let e = entry_for 0 (heard 0 o) in record { number = outcome_number o; kind = e.kind; via = e.via ∷ e.second ∷ [] }

-- The length, 0 for a refusal.
abbrev pub length_for : Outcome → ℕ
length_for (Outcome.Given r len) = len
length_for (Outcome.Refused e) = 0

unfoldable pub planned_for : Outcome → PlannedForm
planned_for o = record { route = route_for o; length = length_for o }

-- The route to D that a form says, and the number of a refusal where it has one. A form says no length.
abbrev pub entry_in : ℕ → RouteForm → Entry
entry_in D f = record { dest = D; kind = f.kind; via = get_or f.via 0 0; second = get_or f.via 1 0 }

unfoldable pub outcome_in : ℕ → RouteForm → Outcome
outcome_in D f = told_as 0 (answered f.number (said_by (entry_in D f)))

-- The new packet of a route from S to D; of a refusal a packet that every call declines.
unfoldable pub packet_in : ℕ → ℕ → Outcome → Packet
packet_in S D (Outcome.Given r len) = new_packet S (legs_to D r)
packet_in S D (Outcome.Refused e) = packet_with S S (replicate most_legs (leg D Adaptive)) 255 0

-- A packet that was made here, and not lent.
abbrev pub leg_for : Leg → LegForm
leg_for l = record { target = l.target; mode = det l.mode }

unfoldable pub made_for : Packet → PacketForm
made_for q =
    record {
      source = q.source;
      node = q.node;
      legs = leg_for (get_or q.legs 0 no_leg) ∷ leg_for (get_or q.legs 1 no_leg) ∷ leg_for (get_or q.legs 2 no_leg) ∷ [];
      count = q.count;
      mark = q.mark;
    }
