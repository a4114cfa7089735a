-- The causes as the code's enum, and the numbers of its answers.
use Rattle.std.specs.Prelude.{ℕ, zero, suc, ◌-◌, List, [], ◌∷◌, get_or, Result, Ok, Err}
use Rattle.numbers.specs.declared.Refusal.{Refusal}
use Rattle.numbers.specs.declared.Refusal.TheVariants.{PlanShort, PlanVersionUnknown, ManyFaults, WrongLength, ExtentOutside, WrongWrap, NoSuchFault, FaultNotAbove, NodeOutside, DeadEnd, NoClearChoice, OutputShort, WrongRouteSheet, WrongPacket, NotAllowed, WeightOutside, EntryNotKept, NotBack}
use Rattle.numbers.specs.Numbers.{plan_short, plan_version_unknown, many_faults, wrong_length, extent_outside, wrong_wrap, no_such_fault, fault_not_above, node_outside, dead_end, no_clear_choice, output_short, wrong_route_sheet, wrong_packet, not_allowed, weight_outside, entry_not_kept, not_back}

-- The number of a cause.
abbrev pub number : Refusal → ℕ
number PlanShort = plan_short
number PlanVersionUnknown = plan_version_unknown
number ManyFaults = many_faults
number WrongLength = wrong_length
number ExtentOutside = extent_outside
number WrongWrap = wrong_wrap
number NoSuchFault = no_such_fault
number FaultNotAbove = fault_not_above
number NodeOutside = node_outside
number DeadEnd = dead_end
number NoClearChoice = no_clear_choice
number OutputShort = output_short
number WrongRouteSheet = wrong_route_sheet
number WrongPacket = wrong_packet
number NotAllowed = not_allowed
number WeightOutside = weight_outside
number EntryNotKept = entry_not_kept
number NotBack = not_back

-- All causes, by their numbers from 1 on.
abbrev pub causes : List Refusal
causes = PlanShort ∷ PlanVersionUnknown ∷ ManyFaults ∷ WrongLength ∷ ExtentOutside ∷ WrongWrap ∷ NoSuchFault ∷ FaultNotAbove ∷ NodeOutside ∷ DeadEnd ∷ NoClearChoice ∷ OutputShort ∷ WrongRouteSheet ∷ WrongPacket ∷ NotAllowed ∷ WeightOutside ∷ EntryNotKept ∷ NotBack ∷ []

-- The cause with a number.
abbrev pub refusal : ℕ → Refusal
refusal n = get_or causes (n - 1) PlanShort

-- The number of an answer: 0, or that of the cause for which it declines.
abbrev pub answer_number : {A : Type 0} → Result A Refusal → ℕ
answer_number (Ok a) = 0
answer_number (Err e) = number e

-- A number as such an answer: with 0 the value.
unfoldable pub answer : {A : Type 0} → ℕ → A → Result A Refusal
answer zero a = Ok a
answer (suc e) a = Err (refusal (suc e))
