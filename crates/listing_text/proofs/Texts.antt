-- The text that is written is the listing of the input.
use Prim.Native.Nat.{ℕ, zero, suc, ◌≤◌, ◌<◌}
use mathlib.Core.Path.{◌≡◌, refl, ap}
use mathlib.Core.List.{List}
use lib.ListN.{get_or}
use Rattle.numbers.specs.declared.Refusal.{Refusal}
use Rattle.numbers.specs.Refusals.{number}
use Rattle.sheet.proofs.Outputs.{of_number}
use Rattle.machine.specs.Number.{node_count}
use Rattle.machine.specs.Node.{count_answer}
use Rattle.plan.specs.Layout.{shape_of}
use Rattle.plan.specs.Checks.{large}
use Rattle.choice.specs.Pair.{far_in, pair}
use Rattle.choice.specs.declared.outcome.Outcome.{Outcome}
use Rattle.planner.specs.Outcomes.{no_outcome, outcome_at}
use Rattle.planned_sheet.proofs.Planning.{source_of, answer_is}
use Rattle.listing_text.specs.declared.lent.Lent.{Lent}
use Rattle.listing_text.specs.declared.said.Head.{Head}
use Rattle.listing_text.specs.Text.{source_in, plan_in, listing_error, head_line, refusal, text_of, listing_of}
use Rattle.listing_text.specs.Steps.{Wrote, head_of, outcome_lines, outcomes_text}
use Rattle.listing_text.proofs.Puts.{wrote_then}
use Rattle.listing_text.proofs.Lines.{LineTold, dead_told, unclear_told, choice_told, lines_told}
use Rattle.listing_text.proofs.Sources.{count_small, source_sound, counted, node_below, planned_all}

-- The first line, then the others.
pub text_put : {w v u : Lent} (h : Head) (os : List Outcome) → Wrote w v (head_line h.source h.nodes h.faults) → Wrote v u (outcome_lines os h.nodes) → Wrote w u (outcomes_text h os)
unfolding outcomes_text
text_put h os p q = wrote_then p q

pub head_small : (p : List ℕ) (S : ℕ) (h : Head) → h ≡ head_of p S → h.nodes ≤ 4096
unfolding head_of
head_small p S h e = count_small (shape_of p) h.nodes (ap (λ (x : Head). x.nodes) e)

module _ (i : List ℕ) where
  pub refused_text : (r : Refusal) → number r ≡ listing_error i → refusal (number r) ≡ listing_of i
  unfolding listing_of
  refused_text r h = rw (← h) (of_number (λ n. refusal n ≡ text_of n (plan_in i) (source_in i)) (λ k. refl) r)

  module _ (ok : listing_error i ≡ 0) where
    all_nodes : count_answer (shape_of (plan_in i)) ≡ node_count (shape_of (plan_in i))
    all_nodes = counted (plan_in i) (source_in i) (source_sound i ok) (count_answer (shape_of (plan_in i))) refl

    line_told : (d : ℕ) → d < node_count (shape_of (plan_in i)) → LineTold (far_in (plan_in i)) (source_in i) (pair large (plan_in i) (source_in i) d)
    line_told d h =
        let p = plan_in i in
        let S = source_in i in
        let s = shape_of p in
        let ok = source_sound i ok in
        answer_is large p S (source_of large p S ok) d (node_below p S ok d h) (LineTold (far_in p) S) (dead_told (far_in p) S) (unclear_told (far_in p) S) (choice_told (far_in p) s S d)

    accepted_text :
        (os : List Outcome) →
        ((d : ℕ) → get_or os d no_outcome ≡ outcome_at large (plan_in i) (source_in i) d) →
        outcomes_text (head_of (plan_in i) (source_in i)) os ≡ listing_of i
    unfolding outcomes_text head_of listing_of
    accepted_text os h = rw (ok, all_nodes, lines_told os (plan_in i) (source_in i) (node_count (shape_of (plan_in i))) line_told (planned_all (plan_in i) (source_in i) (source_sound i ok) os h))

    pub planned_text :
        (p : List ℕ) (S : ℕ) (head : Head) (os : List Outcome) →
        p ≡ plan_in i →
        S ≡ source_in i →
        head ≡ head_of p S →
        ((d : ℕ) → get_or os d no_outcome ≡ outcome_at large p S d) →
        outcomes_text head os ≡ listing_of i
    planned_text p S head os ep eS eh h = rw (eh, ep, eS) (accepted_text os (rw (ep, eS) at h))
