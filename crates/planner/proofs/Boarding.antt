-- A board's turn in a run.
use Prim.Native.Nat.{ℕ, ◌*◌, ◌≤◌, ◌<◌}
use native.Mathlib.Omega.{arith}
use mathlib.Core.Path.{◌≡◌, refl, sym, ap, ◌∙◌}
use mathlib.Core.Bool.{true, false}
use mathlib.Core.List.{List, ◌++◌}
use lib.ListN.{length, get_or, drop}
use Rattle.theory.proofs.Cases.{test}
use Rattle.std.specs.Prelude.{Option, Some, IfSome, Result, Ok, Err}
use Rattle.std.specs.Result.{result_ok}
use Rattle.numbers.specs.declared.Refusal.{Refusal}
use Rattle.numbers.specs.declared.Refusal.TheVariants.{OutputShort}
use Rattle.numbers.specs.Refusals.{answer}
use Rattle.sheet.specs.Output.{room_error, out_after}
use Rattle.sheet.proofs.Outputs.{Put, no_room, room}
use Rattle.shape.specs.declared.shape.Shape.{Shape}
use Rattle.shape.specs.declared.shape.Coords.{Coords}
use Rattle.machine.specs.declared.leg.Mode.TheVariants.{Adaptive, Deterministic}
use Rattle.machine.specs.Number.{node_count}
use Rattle.machine.specs.Node.{coords_answer}
use Rattle.plan.specs.Layout.{shape_of, faults_of}
use Rattle.plan.specs.Checks.{large, plan_error}
use Rattle.dead.specs.Dead.{dead_node, bit_of, node_answer}
use Rattle.dead.proofs.Table.{is_node_law}
use Rattle.route_value.specs.Making.{PutMade}
use Rattle.losses.specs.OfPlan.{AreLosses}
use Rattle.masks.specs.Masks.{gather_at, Ended, Masked}
use Rattle.planned_sheet.specs.Sheet.{source_error, planned_sheet}
use Rattle.notes.specs.Known.{OfPlan, IsAt}
use Rattle.planner.specs.Known.{Work, Prepared, Listed}
use Rattle.planner.specs.Steps.{Boarded}
use Rattle.notes.proofs.Knowing.{shape_ok, nodes_few}
use Rattle.planner.proofs.Destination.{dead_byte}
use Rattle.notes.proofs.Destination.{gathered_at}
use Rattle.planner.proofs.Filling.{at_coords}
use Rattle.planned_sheet.proofs.Planning.{Source, source_of, no_error}
use Rattle.planner.proofs.Writing.{sheet_put}

-- What is made of a plan once a run.
pub run_plan : (p : List ℕ) (s : Shape) (words : List ℕ) (count : ℕ) → plan_error large p ≡ 0 → s ≡ shape_of p → AreLosses p words count → OfPlan p s words count
run_plan p s words count h es l = record { plan = h; shape = es; losses = l }

pub run_prepared :
    (p : List ℕ) (s : Shape) (words : List ℕ) (count : ℕ) (dead ta td work : List ℕ) (all : ℕ) → OfPlan p s words count → ((n : ℕ) → get_or dead n 0 ≡ bit_of (node_answer large p n)) →
    Masked Adaptive false s ta → Masked Deterministic false s td → (all ≡ node_count (shape_of p)) × (512 * all ≤ length work) → Prepared p s words count dead ta td work
run_prepared p s words count dead ta td work all k nodes ma md fits = record { of_plan = k; nodes = nodes; adaptive = ma; deterministic = md; room = λ _. rw fits.0 at fits.1 }

-- The bytes of a sheet are lent ones.
pub step_fits : (S n : ℕ) (made o : List ℕ) (w : Result ℕ Refusal) (t : List ℕ) → PutMade S n made o w t → (r : Option ℕ) → r ≡ result_ok w → IfSome r (λ size. size ≤ length o)
step_fits S n made o (Ok k) t put r e = rw e (put.fits k refl)
step_fits S n made o (Err k) t put r e = rw e tt

-- The sheet s of a sound source, which turns the lent bytes o into t.
module _ (p : List ℕ) (S : ℕ) (sound : source_error large p S ≡ 0) (o t : List ℕ) (w : Result ℕ Refusal) (made : Put (room_error (source_error large p S) (planned_sheet large p S) o) (planned_sheet large p S) o w t) where
  abbrev s : List ℕ
  s = planned_sheet large p S

  abbrev e : ℕ
  e = source_error large p S

  refusal : room_error e s o ≡ 12 → (w ≡ Err OutputShort) × (t ≡ o)
  unfolding answer out_after
  refusal h = (made.value ∙ rw h refl, made.out_after ∙ rw h refl)

  fitting : length s ≤ length o → (w ≡ Ok (length s)) × (t ≡ s ++ drop (length s) o)
  unfolding answer out_after
  fitting l = let h = room e s o sound l in (made.value ∙ rw h refl, made.out_after ∙ rw h refl)

  boarded : Boarded p S o (result_ok w) t
  boarded = record {
    dead = λ n. absurd (n sound);
    fits = λ h l. let k = fitting l in (ap result_ok k.0, k.1);
    full = λ h l. let k = refusal (no_room e s o h l) in (ap result_ok k.0, k.1);
  }

module _ {p : List ℕ} {s : Shape} {words : List ℕ} {count : ℕ} {dead ta td work : List ℕ} (k : Prepared p s words count dead ta td work) {S : ℕ} (l : S < node_count (shape_of p)) where
  pub board_small : S < 4096
  board_small = omega (arith, nodes_few (shape_of p) (shape_ok p k.of_plan.plan))

  dead_is : get_or dead S 0 ≡ bit_of (dead_node (faults_of p) S)
  dead_is = dead_byte p dead k.of_plan.plan k.nodes S

  pub dead_board : (get_or dead S 0 ≡ 0 → ⊥) → (o : List ℕ) → Boarded p S o (Some 0) o
  dead_board n o =
      let no : source_error large p S ≡ 0 → ⊥ = λ e. n (dead_is ∙ ap bit_of (source_of large p S e).alive) in
      record { dead = λ _. (refl, refl); fits = λ e m. absurd (no e); full = λ e m. absurd (no e) }

  module _ (z : get_or dead S 0 ≡ 0) where
    source : Source large p S
    source = record {
      plan = k.of_plan.plan;
      node = is_node_law (shape_of p) S (record { sound = shape_ok p k.of_plan.plan; below = l });
      alive = test (dead_node (faults_of p) S) (λ d. let q : ◌≡◌ {A = ℕ} 1 0 = sym (dead_is ∙ ap bit_of d) ∙ z in absurd (omega arith)) (λ d. d);
    }

    -- The masks of the source, from those of all sources.
    pub board_at :
        (sa sd : List ℕ) (a : Coords) (adaptive deterministic : List ℕ) → Masked Adaptive true s sa × Masked Deterministic true s sd → a ≡ coords_answer s S →
        ((i : ℕ) → i < 288 → get_or adaptive i 0 ≡ gather_at sa a i) → ((i : ℕ) → i < 288 → get_or deterministic i 0 ≡ gather_at sd a i) →
        Prepared p s words count dead ta td work × (IsAt p S a × (Ended Adaptive true s a adaptive × (Ended Deterministic true s a deterministic × (dead_node (faults_of p) S ≡ false))))
    board_at sa sd a adaptive deterministic m e ga gd =
        let h = k.of_plan.plan in
        let at = at_coords p h s S a k.of_plan.shape l e in
        (k, (at, (gathered_at p s S a sa adaptive h at Adaptive true m.0 ga, (gathered_at p s S a sd deterministic h at Deterministic true m.1 gd, source.alive))))

    pub board_written :
        (n : ℕ) (made o t : List ℕ) (w : Result ℕ Refusal) → Listed p work S made n → Work p work → PutMade S n made o w t → (r : Option ℕ) → r ≡ result_ok w → Boarded p S o r t
    board_written n made o t w listed sets put r e =
        let sound = no_error large p S source in
        rw e (boarded p S sound o t w (sheet_put p S o sound made n (listed.held sets) listed.many w t put))
