-- What planning answers for every destination of a source: one by one.
use Prim.Native.Nat.{ℕ, ◌≤◌, ◌<◌}
use native.Mathlib.Omega.{arith}
use mathlib.Core.Path.{◌≡◌, refl, sym, ap, ◌∙◌}
use mathlib.Core.Bool.{Bool, true, false, cond}
use mathlib.Core.List.{List}
use lib.ListN.{get_or, set, replicate}
use lib.Dec.{ltb}
use borrow.Author.Tests.{eq-eqb, ne_eqb, lt-ltb}
use Rattle.sheet.proofs.Fill as Fill
use Rattle.sheet.proofs.Fill.{Filling}
use Rattle.shape.specs.declared.shape.Shape.{Shape}
use Rattle.shape.specs.declared.shape.Coords.{Coords}
use Rattle.shape.specs.declared.shape.Dim.TheVariants.{X}
use Rattle.shape.specs.Shape.{shape_error}
use Rattle.shape.proofs.Shapes.{sound}
use Rattle.machine.specs.Number.{node_count}
use Rattle.plan.specs.Layout.{shape_of}
use Rattle.plan.specs.Checks.{large, plan_error}
use Rattle.dead.proofs.Table.{is_node_law}
use Rattle.choice.specs.declared.outcome.Outcome.{Outcome}
use Rattle.choice.specs.Answer.{Answer, Given, Refused}
use Rattle.choice.specs.Outcome.{told, outcome_number}
use Rattle.choice.specs.Pair.{far_in, pair}
use Rattle.planner.specs.declared.outside.At.{At}
use Rattle.planner.specs.Outside.{place_of, Stands, Following}
use Rattle.choice_number.specs.Told.{pick_outcome}
use Rattle.notes.specs.Known.{IsAt}
use Rattle.planner.specs.Known.{Ready}
use Rattle.planned_sheet.specs.Sheet.{source_error}
use Rattle.planner.specs.Outcomes.{no_outcome, outcome_at}
use Rattle.notes.proofs.Knowing.{shape_ok, nodes_few}
use Rattle.planned_sheet.proofs.Planning.{Source, source_of, no_error, answer_is}
use Rattle.planner.proofs.Standing.{starts, stands_end, node_small}
use Rattle.planner.proofs.Writing.{node_known}

abbrev pub answer : List ℕ → ℕ → ℕ → Outcome
answer p S d = told (far_in p) S (pair large p S d)

-- Nothing where a check declines the source.
pub declined : (p : List ℕ) (S e : ℕ) → e ≡ source_error large p S → (e ≡ 0 → ⊥) → (d : ℕ) → get_or (replicate 4096 no_outcome) d no_outcome ≡ outcome_at large p S d
unfolding outcome_at
declined p S e q n d = Fill.get_d_same no_outcome 4096 d ∙ sym (rw (ne_eqb (source_error large p S) 0 (λ z. n (q ∙ z))))

picked : (b : Bool) (x y : Outcome) → cond b x y ≡ pick_outcome b x y
picked true x y = refl
picked false x y = refl

-- ---- all that holds at a turn
pub record Asking (p : List ℕ) (s : Shape) (S : ℕ) (outcomes : List Outcome) (at : At) : Type 0 where
  pub stands : Stands s at
  pub inside : at.z < s.z → at.x < s.x
  pub filled : Filling no_outcome (answer p S) 4096 (node_count (shape_of p)) outcomes at.node

module _ {p : List ℕ} {s : Shape} {words : List ℕ} {count : ℕ} {dead ta td work : List ℕ} {S : ℕ} {a : Coords} {fa fd : List ℕ} (ready : Ready p s words count dead ta td work S a fa fd) where
  same : s ≡ shape_of p
  same = ready.prepared.of_plan.shape

  accepted : plan_error large p ≡ 0
  accepted = ready.prepared.of_plan.plan

  pub sound_shape : shape_error s ≡ 0
  sound_shape = rw same (shape_ok p accepted)

  pub begun : Asking p s S (replicate 4096 no_outcome) (record { node = 0; x = 0; y = 0; z = 0 })
  begun = record {
    stands = starts s sound_shape;
    inside = λ _. (sound s sound_shape X).low;
    filled = Fill.begin no_outcome (answer p S) 4096 (node_count (shape_of p)) (nodes_few (shape_of p) (shape_ok p accepted));
  }

  module _ (outcomes : List Outcome) (at : At) (g : Asking p s S outcomes at) where
    module _ (l : at.z < s.z) where
      pub is_at : (t : Coords) → t ≡ place_of at → IsAt p at.node t
      is_at t e = node_known ready at g.stands (g.inside l) l t e

      pub place : at.node < 4096
      place = node_small s sound_shape at g.stands (g.inside l) l

      pub turn : (o : Outcome) (r : At) → o ≡ answer p S at.node → Following s at r → Asking p s S (set outcomes at.node o) r
      turn o r e next =
          let n = Fill.onward no_outcome (answer p S) 4096 (node_count (shape_of p)) outcomes at.node g.filled o e (is_at (place_of at) refl).node in
          record { stands = next.stands; inside = next.inside; filled = rw next.node n }

    pub done : s.z ≤ at.z → (d : ℕ) → get_or outcomes d no_outcome ≡ outcome_at large p S d
    unfolding outcome_at
    done m d =
        let e : at.node ≡ node_count (shape_of p) = stands_end s sound_shape at g.stands m ∙ ap node_count same in
        let z = no_error large p S (record { plan = accepted; node = is_node_law (shape_of p) S (record { sound = shape_ok p accepted; below = ready.source.node }); alive = ready.alive }) in
        g.filled.filled d ∙ rw (e, eq-eqb (source_error large p S) 0 z) (picked (ltb d (node_count (shape_of p))) (answer p S d) no_outcome)

-- ---- the numbers of the refusals
refused_same : (m n : ℕ) → Refused m ≡ Refused n → m ≡ n
refused_same m n e = cc

told_refused : (p : List ℕ) (S : ℕ) → Source large p S → (d : ℕ) → d < node_count (shape_of p) → (n : ℕ) → pair large p S d ≡ Refused n → outcome_number (answer p S d) ≡ n
unfolding told
told_refused p S source d l =
    answer_is large p S source d (is_node_law (shape_of p) d (record { sound = shape_ok p source.plan; below = l })) (λ a. (n : ℕ) → a ≡ Refused n → outcome_number (told (far_in p) S a) ≡ n)
    (λ n e. refused_same 10 n e)
    (λ n e. refused_same 11 n e)
    (λ c g n e. let z : ◌≡◌ {A = ℕ} 0 1 = cc in absurd (omega arith))

pub numbered :
    (p : List ℕ) (S : ℕ) (outcomes : List Outcome) → ((d : ℕ) → get_or outcomes d no_outcome ≡ outcome_at large p S d) →
    record {
      value : (d : ℕ) → get_or outcomes d no_outcome ≡ outcome_at large p S d;
      number : (d n : ℕ) → source_error large p S ≡ 0 → d < node_count (shape_of p) → pair large p S d ≡ Refused n → outcome_number (get_or outcomes d no_outcome) ≡ n;
    }
unfolding outcome_at
numbered p S outcomes value = record {
  value = value;
  number = λ d n h l e.
      let is : outcome_at large p S d ≡ answer p S d = rw (eq-eqb (source_error large p S) 0 h, lt-ltb d (node_count (shape_of p)) l) refl in
      ap outcome_number (value d ∙ is) ∙ told_refused p S (source_of large p S h) d l n e;
}
