-- The code's own steps.
use Rattle.std.specs.Prelude.{ℕ, zero, suc, ◌+◌, ◌≡◌, Option, Some, None, List, [], ◌∷◌, ◌++◌, length, get_or, set}
use Rattle.machine.specs.Node.{count_answer}
use Rattle.plan.specs.Layout.{shape_of, fault_count}
use Rattle.packet.specs.declared.route.Route.{Route}
use Rattle.choice.specs.declared.outcome.Outcome.{Outcome}
use Rattle.routes.specs.Said.{entry_for, heard}
use Rattle.planner.specs.Outcomes.{no_outcome}
use Rattle.listing_text.specs.declared.lent.Lent.{Lent}
use Rattle.listing_text.specs.declared.said.Head.{Head}
use Rattle.listing_text.specs.Decimal.{decimal}
use Rattle.listing_text.specs.Text.{dash, line, head_line}

-- The output o with the bytes s from the place at on, as far as there is room.
unfoldable pub put_all : List ℕ → ℕ → List ℕ → List ℕ
put_all o at [] = o
put_all o at (b ∷ s) = put_all (set o at b) (suc at) s

-- s was written into o from the place at on, which left t, and r is the next place.
pub record Put (o t : List ℕ) (at r : ℕ) (s : List ℕ) : Type 0 where
  pub bytes : t ≡ put_all o at s
  pub next : r ≡ at + length s

-- s was written into the lent bytes w, which are v then: the same bytes, with a place behind s.
pub record Wrote (w v : Lent) (s : List ℕ) : Type 0 where
  pub same : v.out.ghost_name ≡ w.out.ghost_name
  pub put : Put w.out.now v.out.now w.at v.at s

unfoldable pub field_text : Option ℕ → List ℕ
field_text (Some n) = decimal n
field_text None = dash

-- The kind as in the entry of a sheet.
abbrev pub kind_in : Outcome → ℕ
kind_in o = (entry_for 0 (heard 0 o)).kind

abbrev pub via_by : Route → Option ℕ
via_by (Route.Direct m) = None
via_by (Route.Via v m n) = Some v
via_by (Route.Vias v u m n o) = Some v

abbrev pub via_in : Outcome → Option ℕ
via_in (Outcome.Given r len) = via_by r
via_in (Outcome.Refused e) = None

abbrev pub second_by : Route → Option ℕ
second_by (Route.Direct m) = None
second_by (Route.Via v m n) = None
second_by (Route.Vias v u m n o) = Some u

abbrev pub second_in : Outcome → Option ℕ
second_in (Outcome.Given r len) = second_by r
second_in (Outcome.Refused e) = None

abbrev pub length_in : Outcome → Option ℕ
length_in (Outcome.Given r len) = Some len
length_in (Outcome.Refused e) = None

unfoldable pub outcome_line : ℕ → Outcome → List ℕ
outcome_line D o = line (decimal D ∷ decimal (kind_in o) ∷ field_text (via_in o) ∷ field_text (second_in o) ∷ field_text (length_in o) ∷ [])

unfoldable pub outcome_lines : List Outcome → ℕ → List ℕ
outcome_lines os zero = []
outcome_lines os (suc n) = outcome_lines os n ++ outcome_line n (get_or os n no_outcome)

-- What the first line says of a plan; the node count is 0 of a shape that a check declines.
unfoldable pub head_of : List ℕ → ℕ → Head
head_of p S = record { source = S; nodes = count_answer (shape_of p); faults = fault_count p }

unfoldable pub outcomes_text : Head → List Outcome → List ℕ
outcomes_text h os = head_line h.source h.nodes h.faults ++ outcome_lines os h.nodes
