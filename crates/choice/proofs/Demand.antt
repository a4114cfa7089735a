-- Demand 3 holds of what planning a pair answers.
use Prim.Native.Nat.{ℕ, suc, ◌≤◌}
use native.Mathlib.Omega.{arith}
use mathlib.Core.Path.{◌≡◌, refl, sym, ap, ◌∙◌}
use mathlib.Core.Bool.{true, false}
use mathlib.Core.List.{List, [], ◌∷◌}
use mathlib.Core.Option.{Option, none, some}
use lib.ListN.{length}
use Rattle.numbers.specs.Numbers.{no_clear_choice}
use Rattle.theory.specs.Machine.{end_by, sum_by, hops_of}
use Rattle.theory.proofs.Plan.{ReadAs, planned_is}
use Rattle.shape.specs.declared.shape.Shape.{Shape}
use Rattle.machine.specs.Number.{node_count}
use Rattle.machine.specs.Node.{is_node}
use Rattle.machine.specs.Torus.{leg, torus}
use Rattle.machine.proofs.Nodes.{node_of}
use Rattle.machine.proofs.Torus.{torus_laws}
use Rattle.packet.specs.declared.route.Route.{Route}
use Rattle.legs.specs.Backward.{backward}
use Rattle.legs.proofs.Backward.{torus_backward}
use Rattle.packet.specs.Packet.{kept, WellStored}
use Rattle.packet.specs.New.{legs_to, new_packet}
use Rattle.packet.proofs.Stored.{kept_laws, check_laws}
use Rattle.packet.proofs.New.{new_is}
use Rattle.weights.specs.declared.weights.Weights.{Weights}
use Rattle.weights.specs.Weights.{ones}
use Rattle.weights.specs.Distance.{distance}
use Rattle.weights.proofs.Laws.{distance_ones}
use Rattle.plan.specs.Layout.{shape_of, weights_of, faults_of}
use Rattle.plan.specs.Checks.{Limits, plan_error}
use Rattle.dead.specs.Dead.{dead_node}
use Rattle.choice.specs.Choice.{Choice, most_vias, vias_of, AdmitsIn, choices, length_from, before}
use Rattle.choice.specs.Answer.{Answer, Given, Refused, answered}
use Rattle.choice.specs.Outcome.{told, told_as}
use Rattle.choice.specs.Pair.{sound_in, far_in, route_by, route_in, pair_error, chosen, pair}
use Rattle.choice.specs.Demand.{Tells, PlannedIn, Demand}
use Rattle.choice.proofs.Lists.{vias_legs}
use Rattle.choice.proofs.Keys.{leg_inj, before_order}
use Rattle.choice.proofs.Listed.{admits_lists, lists_admits}
use Rattle.choice.proofs.AtTorus.{admits_inside}

-- What `chosen` answers.
given_inj : (c e : Choice) → Given c ≡ Given e → c ≡ e
given_inj c e q = cc

not_given : {X : Type 0} (c : Choice) (e : ℕ) → Refused e ≡ Given c → X
not_given c e q = let z : ◌≡◌ {A = ℕ} 0 1 = cc in absurd (omega arith)

chosen_read : (a : Answer) (o : Option Choice) → a ≡ chosen o → ReadAs o (a ≡ Refused no_clear_choice) (λ c. a ≡ Given c)
chosen_read a none e = record {
  refuses = λ _. e;
  none = λ _. refl;
  gives = λ c h. let z : ◌≡◌ {A = ℕ} 0 1 = cc in absurd (omega arith);
  some = λ c g. not_given c no_clear_choice (sym e ∙ g);
}
chosen_read a (some c) e = record {
  refuses = λ h. let z : ◌≡◌ {A = ℕ} 0 1 = cc in absurd (omega arith);
  none = λ h. not_given c no_clear_choice (sym h ∙ e);
  gives = λ k h. let q : c ≡ k = cc in e ∙ ap Given q;
  some = λ k g. ap some (given_inj c k (sym e ∙ g));
}

-- An admitted choice has one leg, two or three, of which the last is to D.
module _ (w : Weights) (s : Shape) (S D : ℕ) (a : Answer) where
  -- With weights of 1 a length is the hops.
  length_hops : w ≡ ones → (p : ℕ) (c : Choice) → length_from (distance w s) p c ≡ hops_of (torus s) p c
  unfolding sum_by
  length_hops e p [] = refl
  length_hops e p (l ∷ ls) = omega (arith, ap (λ v. distance v s p l.target) e, distance_ones s p l.target, length_hops e l.target ls)

  pub admits_tells : (c : Choice) → AdmitsIn s S D c → a ≡ Given c → Tells w s S D a c
  unfolding end_by vias_of legs_to told told_as
  admits_tells [] h e = let z : ◌≡◌ {A = ℕ} 0 1 = ap length (h.self h.ends) in absurd (omega arith)
  admits_tells (l ∷ []) h e =
      let last : leg D l.mode ≡ l = leg_inj D l.target l.mode l.mode (sym h.ends) refl in
      record { route = Route.Direct l.mode; legs = ap (λ x. x ∷ []) last; told = rw e; hops = λ o. length_hops o S _ }
  admits_tells (l ∷ m ∷ []) h e =
      let last : leg D m.mode ≡ m = leg_inj D m.target m.mode m.mode (sym h.ends) refl in
      record { route = Route.Via l.target l.mode m.mode; legs = ap (λ x. l ∷ x ∷ []) last; told = rw e; hops = λ o. length_hops o S _ }
  admits_tells (l ∷ m ∷ n ∷ []) h e =
      let last : leg D n.mode ≡ n = leg_inj D n.target n.mode n.mode (sym h.ends) refl in
      record { route = Route.Vias l.target m.target l.mode m.mode n.mode; legs = ap (λ x. l ∷ m ∷ x ∷ []) last; told = rw e; hops = λ o. length_hops o S _ }
  admits_tells (l ∷ m ∷ n ∷ o ∷ ls) h e = let few = h.few in absurd (omega arith)

pub admits_few : (s : Shape) (S D : ℕ) (c : Choice) → AdmitsIn s S D c → length c ≤ suc most_vias
admits_few s S D [] h = omega arith
admits_few s S D (l ∷ ls) h = omega (arith, vias_legs (l ∷ ls) (omega arith), h.few)

module _ (L : Limits) (p : List ℕ) (S D : ℕ) (e : plan_error L p ≡ 0) (h_s : is_node (shape_of p) S ≡ true) (h_d : is_node (shape_of p) D ≡ true) (dS : dead_node (faults_of p) S ≡ false) (dD : dead_node (faults_of p) D ≡ false) where
  -- None of the plan's checks, 9 and 10 declines.
  pub pair_chosen : pair L p S D ≡ chosen (route_in p S D)
  unfolding pair pair_error answered
  pair_chosen = rw (e, h_s, h_d, dS, dD)

  -- Of every answer that says what `route_in` finds.
  pub found_planned : (a : Answer) → a ≡ chosen (route_in p S D) → PlannedIn p S D a
  unfolding route_by
  found_planned a is =
      let s = shape_of p in
      let from = node_of s S h_s in
      let to = node_of s D h_d in
      let planned =
      planned_is (torus s) (torus_laws s from.sound) (backward s) (torus_backward s from.sound) (kept s) (kept_laws s) WellStored (check_laws s from.sound) (sound_in p)
      (before (far_in p) S) (before_order (far_in p) S) (AdmitsIn s S D) (choices s S D) (λ c. (admits_lists most_vias (node_count s) S D c, lists_admits most_vias (node_count s) S D c))
      S D from.below (admits_inside s S D to.below) (λ c h. h.ends)
      (new_packet S) (λ c h. new_is s S c (admits_few s S D c h))
      (a ≡ Refused no_clear_choice) (λ c. a ≡ Given c) (chosen_read a (route_in p S D) is) in
      record { planned = planned; tells = λ c g. admits_tells (weights_of p) s S D a c (planned.routed c g).admitted g }

  pub demand : Demand L p S D
  demand = found_planned (pair L p S D) pair_chosen
