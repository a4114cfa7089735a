-- 'The listing program': its text, for its input. It is a program of the large caller.
use Rattle.std.specs.Prelude.{ℕ, zero, suc, List, [], ◌∷◌, ◌++◌, length, drop, ltb}
use Rattle.numbers.specs.Numbers.{plan_short}
use Rattle.theory.specs.Checks.{declined, ◌then◌}
use Rattle.sheet.specs.Bytes.{word}
use Rattle.machine.specs.Number.{node_count}
use Rattle.plan.specs.Layout.{shape_of, fault_count}
use Rattle.plan.specs.Checks.{large}
use Rattle.choice.specs.Choice.{vias_of, length_from}
use Rattle.choice.specs.Answer.{Answer, Given, Refused}
use Rattle.choice.specs.Pair.{far_in, pair}
use Rattle.routes.specs.Kinds.{kind_of, refused_kind}
use Rattle.planned_sheet.specs.Sheet.{source_error}
use Rattle.listing_text.specs.Decimal.{decimal}

-- A two-byte source, then a plan sheet.
abbrev pub source_in : List ℕ → ℕ
source_in i = word i 0

abbrev pub plan_in : List ℕ → List ℕ
plan_in i = drop 2 i

-- After the plan's checks the source is checked for 9, then 10. Under two bytes is 1.
unfoldable pub listing_error : List ℕ → ℕ
listing_error i = declined (ltb (length i) 2) plan_short then source_error large (plan_in i) (source_in i)

-- The bytes of a blank, of the newline that ends a line, and of `-`.
abbrev pub blank : ℕ
blank = 32

abbrev pub newline : ℕ
newline = 10

abbrev pub dash : List ℕ
dash = 45 ∷ []

-- A line of fields, with a blank between two.
unfoldable pub line : List (List ℕ) → List ℕ
line [] = newline ∷ []
line (f ∷ []) = f ++ newline ∷ []
line (f ∷ (g ∷ fs)) = f ++ blank ∷ line (g ∷ fs)

-- It prints source, node count, fault count.
unfoldable pub head_line : ℕ → ℕ → ℕ → List ℕ
head_line S nodes faults = line (decimal S ∷ decimal nodes ∷ decimal faults ∷ [])

-- Kind (0 for direct adaptive).
unfoldable pub kind_text : Answer → List ℕ
kind_text (Given c) = decimal (kind_of c)
kind_text (Refused e) = decimal (refused_kind e)

-- Two via fields, each `-` if absent.
abbrev pub first_text : List ℕ → List ℕ
first_text [] = dash
first_text (v ∷ vs) = decimal v

abbrev pub second_text : List ℕ → List ℕ
second_text [] = dash
second_text (v ∷ vs) = first_text vs

unfoldable pub via_text : Answer → List ℕ
via_text (Given c) = first_text (vias_of c)
via_text (Refused e) = dash

unfoldable pub second_via_text : Answer → List ℕ
second_via_text (Given c) = second_text (vias_of c)
second_via_text (Refused e) = dash

-- Length, from the source S, or `-` (kinds 160 and 176). `far p t` is the distance from p to t: the last field is by weight.
unfoldable pub length_text : (ℕ → ℕ → ℕ) → ℕ → Answer → List ℕ
length_text far S (Given c) = decimal (length_from far S c)
length_text far S (Refused e) = dash

-- The line of the destination D, for which planning answers a.
unfoldable pub dest_line : (ℕ → ℕ → ℕ) → ℕ → ℕ → Answer → List ℕ
dest_line far S D a = line (decimal D ∷ kind_text a ∷ via_text a ∷ second_via_text a ∷ length_text far S a ∷ [])

-- A line for each node below n in rising order, the source included.
unfoldable pub dest_lines : List ℕ → ℕ → ℕ → List ℕ
dest_lines p S zero = []
dest_lines p S (suc n) = dest_lines p S n ++ dest_line (far_in p) S n (pair large p S n)

-- A refusal is the one line `refused` and the number.
abbrev pub refused_word : List ℕ
refused_word = 114 ∷ 101 ∷ 102 ∷ 117 ∷ 115 ∷ 101 ∷ 100 ∷ []

unfoldable pub refusal : ℕ → List ℕ
refusal e = line (refused_word ∷ decimal e ∷ [])

abbrev pub text_of : ℕ → List ℕ → ℕ → List ℕ
text_of zero p S = head_line S (node_count (shape_of p)) (fault_count p) ++ dest_lines p S (node_count (shape_of p))
text_of (suc e) p S = refusal (suc e)

-- The whole text for the input.
unfoldable pub listing_of : List ℕ → List ℕ
listing_of i = text_of (listing_error i) (plan_in i) (source_in i)
