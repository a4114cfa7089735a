-- The lines, as they are written and as they are defined.
use Prim.Native.Nat.{ℕ, zero, suc, ◌+◌, ◌*◌, ◌≤◌, ◌<◌}
use native.Mathlib.Numerals.{add-one}
use native.Mathlib.Omega.{arith}
use mathlib.Core.Path.{◌≡◌, refl}
use mathlib.Core.List.{List, [], ◌∷◌, ◌++◌, append_assoc}
use lib.ListN.{get_or}
use borrow.Author.Tests.{ne_eqb}
use Rattle.numbers.specs.Numbers.{dead_end, no_clear_choice}
use Rattle.numbers.specs.Refusals.{number, refusal as cause}
use Rattle.theory.proofs.Cases.{by_le}
use Rattle.shape.specs.declared.shape.Shape.{Shape}
use Rattle.machine.specs.declared.leg.Mode.{Mode}
use Rattle.machine.specs.Torus.{leg}
use Rattle.packet.specs.New.{legs_to}
use Rattle.plan.specs.Checks.{large}
use Rattle.choice.specs.declared.outcome.Outcome.{Outcome}
use Rattle.choice.specs.Choice.{Choice, AdmitsIn, vias_of, modes_of}
use Rattle.choice.specs.Answer.{Answer, Given, Refused}
use Rattle.choice.specs.Pair.{far_in, pair}
use Rattle.choice.specs.Outcome.{told, told_as}
use Rattle.choice.proofs.Told.{number-refusal, refusal_past}
use Rattle.routes.specs.Kinds.{kind_of, refused_kind}
use Rattle.routes.specs.Said.{entry_for, heard}
use Rattle.routes.proofs.Saying.{admitted_legs}
use Rattle.std.proofs.Common.{Option, Some}
use Rattle.listing_text.specs.declared.lent.Lent.{Lent}
use Rattle.listing_text.specs.Decimal.{decimal}
use Rattle.listing_text.specs.Text.{blank, newline, line, head_line, refused_word, refusal, kind_text, via_text, second_via_text, length_text, dest_line, dest_lines}
use Rattle.planner.specs.Outcomes.{no_outcome}
use Rattle.listing_text.specs.Steps.{Wrote, field_text, kind_in, via_in, second_in, length_in, outcome_line, outcome_lines}
use Rattle.listing_text.proofs.Puts.{wrote_none, wrote_then}

line_more : (f g : List ℕ) (fs : List (List ℕ)) → (f ++ blank ∷ []) ++ line (g ∷ fs) ≡ line (f ∷ (g ∷ fs))
unfolding line
line_more f g fs = append_assoc f (blank ∷ []) (line (g ∷ fs))

-- A field with its blank, then the rest of the line.
pub field_then : {w v u : Lent} (f g : List ℕ) (fs : List (List ℕ)) → Wrote w v (f ++ blank ∷ []) → Wrote v u (line (g ∷ fs)) → Wrote w u (line (f ∷ (g ∷ fs)))
field_then f g fs p q = rw (line_more f g fs) at (wrote_then p q)

-- The last field, with the newline.
pub last_field : {w v : Lent} (f : List ℕ) → Wrote w v (f ++ newline ∷ []) → Wrote w v (line (f ∷ []))
unfolding line
last_field f p = p

-- The first line, from its three fields.
pub head_put :
    {w v u x : Lent} (a b c : ℕ) →
    Wrote w v (field_text (Some a) ++ blank ∷ []) →
    Wrote v u (field_text (Some b) ++ blank ∷ []) →
    Wrote u x (field_text (Some c) ++ newline ∷ []) →
    Wrote w x (head_line a b c)
unfolding head_line field_text
head_put a b c p q x = field_then (decimal a) (decimal b) (decimal c ∷ []) p (field_then (decimal b) (decimal c) [] q (last_field (decimal c) x))

-- The line of a destination, from its five fields.
pub line_put :
    {w v u x y z : Lent} (D K : ℕ) (via second len : Option ℕ) (a : Outcome) →
    K ≡ kind_in a →
    via ≡ via_in a →
    second ≡ second_in a →
    len ≡ length_in a →
    Wrote w v (field_text (Some D) ++ blank ∷ []) →
    Wrote v u (field_text (Some K) ++ blank ∷ []) →
    Wrote u x (field_text via ++ blank ∷ []) →
    Wrote x y (field_text second ++ blank ∷ []) →
    Wrote y z (field_text len ++ newline ∷ []) →
    Wrote w z (outcome_line D a)
unfolding outcome_line field_text
line_put D K via second len a ek ev es el p q f g h =
    rw (← ek, ← ev, ← es, ← el)
    (field_then (decimal D) (decimal K) (field_text via ∷ field_text second ∷ field_text len ∷ []) p
    (field_then (decimal K) (field_text via) (field_text second ∷ field_text len ∷ []) q
    (field_then (field_text via) (field_text second) (field_text len ∷ []) f
    (field_then (field_text second) (field_text len) [] g (last_field (field_text len) h)))))

-- A refusal, from its word and its number.
pub refusal_put : {w v u : Lent} (e : ℕ) → Wrote w v (refused_word ++ blank ∷ []) → Wrote v u (field_text (Some e) ++ newline ∷ []) → Wrote w u (refusal e)
unfolding refusal field_text
refusal_put e p q = field_then refused_word (decimal e) [] p (last_field (decimal e) q)

-- ---- the lines of the destinations, one after the other
module _ (w : Lent) (all : ℕ) (os : List Outcome) where
  pub record Writing (v : Lent) (d : ℕ) : Type 0 where
    pub small : all ≤ 4096
    pub near : v.at ≤ 18 + 30 * d
    pub wrote : Wrote w v (outcome_lines os d)

  pub begin : w.at ≤ 18 → all ≤ 4096 → Writing w 0
  unfolding outcome_lines
  begin h k = record { small = k; near = omega arith; wrote = wrote_none w }

  pub onward : (v u : Lent) (d : ℕ) → Writing v d → Wrote v u (outcome_line d (get_or os d no_outcome)) → u.at ≤ v.at + 30 → Writing u (d + 1)
  unfolding outcome_lines
  onward v u d g p h =
      record {
        small = g.small;
        near = omega (arith, g.near);
        wrote = rw add-one (wrote_then g.wrote p);
      }

  pub ended : (v : Lent) (d : ℕ) → Writing v d → d ≡ all → Wrote w v (outcome_lines os all)
  ended v d g e = rw e at g.wrote

-- The line of what is told is the line of the answer: of a refusal and of an admitted choice.
abbrev pub LineTold : (ℕ → ℕ → ℕ) → ℕ → Answer → Type 0
LineTold far S a = (D : ℕ) → outcome_line D (told far S a) ≡ dest_line far S D a

-- Of any number: one that no cause has reads as the first cause, and neither has a kind.
same_kind : (e : ℕ) → refused_kind (number (cause e)) ≡ refused_kind e
unfolding refused_kind
same_kind zero = refl
same_kind (suc e) =
    by_le (suc e) 18
    (λ l. rw (number-refusal (suc e) (omega arith) (omega arith)))
    (λ g. rw (refusal_past (suc e) g, ne_eqb (suc e) dead_end (λ z. omega arith), ne_eqb (suc e) no_clear_choice (λ z. omega arith)))

pub refused_told : (far : ℕ → ℕ → ℕ) (S e : ℕ) → LineTold far S (Refused e)
unfolding outcome_line dest_line told told_as heard entry_for field_text kind_text via_text second_via_text length_text
refused_told far S e D = rw (same_kind e)

pub dead_told : (far : ℕ → ℕ → ℕ) (S : ℕ) → LineTold far S (Refused dead_end)
dead_told far S = refused_told far S dead_end

pub unclear_told : (far : ℕ → ℕ → ℕ) (S : ℕ) → LineTold far S (Refused no_clear_choice)
unclear_told far S = refused_told far S no_clear_choice

one_told_law : (far : ℕ → ℕ → ℕ) (S T : ℕ) (m : Mode) → LineTold far S (Given (leg T m ∷ []))
unfolding outcome_line dest_line told told_as heard entry_for legs_to vias_of modes_of kind_of field_text kind_text via_text second_via_text length_text
one_told_law far S T m D = refl

two_told_law : (far : ℕ → ℕ → ℕ) (S T v : ℕ) (m n : Mode) → LineTold far S (Given (leg v m ∷ leg T n ∷ []))
unfolding outcome_line dest_line told told_as heard entry_for legs_to vias_of modes_of kind_of field_text kind_text via_text second_via_text length_text
two_told_law far S T v m n D = refl

three_told : (far : ℕ → ℕ → ℕ) (S T v u : ℕ) (m n o : Mode) → LineTold far S (Given (leg v m ∷ leg u n ∷ leg T o ∷ []))
unfolding outcome_line dest_line told told_as heard entry_for legs_to vias_of modes_of kind_of field_text kind_text via_text second_via_text length_text
three_told far S T v u m n o D = refl

pub choice_told : (far : ℕ → ℕ → ℕ) (s : Shape) (S T : ℕ) (c : Choice) → AdmitsIn s S T c → LineTold far S (Given c)
choice_told far s S T c a = admitted_legs (λ c. LineTold far S (Given c)) s S T (one_told_law far S T) (λ v m n _. two_told_law far S T v m n) (λ v u m n o _. three_told far S T v u m n o) c a

pub lines_told :
    (os : List Outcome) (p : List ℕ) (S n : ℕ) →
    ((d : ℕ) → d < n → LineTold (far_in p) S (pair large p S d)) →
    ((d : ℕ) → d < n → get_or os d no_outcome ≡ told (far_in p) S (pair large p S d)) →
    outcome_lines os n ≡ dest_lines p S n
unfolding outcome_lines dest_lines
lines_told os p S zero l h = refl
lines_told os p S (suc n) l h = rw (lines_told os p S n (λ d k. l d (omega arith)) (λ d k. h d (omega arith)), h n (omega arith), l n (omega arith) n)
