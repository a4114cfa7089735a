-- The worked lines hold, and those with weights; and the theorem on planning a pair speaks of machine W, and of a plan with weights.
use Prim.Native.Nat.{ℕ}
use mathlib.Core.Path.{◌≡◌, refl, ap, ◌∙◌}
use mathlib.Core.Bool.{true, false}
use mathlib.Core.Option as Option
use mathlib.Core.List.{List, [], ◌∷◌}
use Rattle.theory.specs.Machine.{end_by, sum_by}
use Rattle.theory.specs.Clear.{every, clear_by, clear_in, clear}
use Rattle.theory.specs.Choice.{lex, earlier, best}
use Rattle.theory.specs.Plan.{planned}
use Rattle.shape.specs.Shape.{shape_error, bad_extents, bad_wraps}
use Rattle.shape.specs.Axis.{axis_hops, has_link, place}
use Rattle.machine.specs.Number.{node_count, number_of, coords_of}
use Rattle.machine.specs.Hop.{dir_dim, opposite, link, neighbour, hops, useful, rule, toward, first_direction}
use Rattle.machine.specs.Node.{is_node}
use Rattle.machine.specs.declared.leg.Mode.TheVariants.{Adaptive}
use Rattle.machine.specs.Torus.{allowed_by, leg, torus}
use Rattle.machine.proofs.Nodes.{node_of}
use Rattle.packet.specs.declared.route.Route.{Route}
use Rattle.weights.specs.Weights.{bad_weights, weight_error}
use Rattle.weights.specs.Distance.{distance}
use Rattle.sheet.specs.Bytes.{list_from}
use Rattle.sheet.specs.Head.{version, length_field, bytes_after, length_is}
use Rattle.plan.specs.Layout.{layout_of, shape_of, weights_by, fault_count, fault_at, faults_of}
use Rattle.plan.specs.Kinds.{kind_dim, kind_dir}
use Rattle.plan.specs.Checks.{large, fault_good, fault_key, faults_error, plan_error_by, fault_exists, plan_error}
use Rattle.plan.specs.Worked.{W}
use Rattle.dead.specs.Dead.{some, names_node, dead_node, names_link, names, dead_link, sound}
use Rattle.choice.specs.Choice.{Choice, targets_of, vias_of, modes_of, dets_of, key_of, over, after, direct, legs_by, misses, different, kept, choices_by}
use Rattle.choice.specs.declared.outcome.Outcome.{Outcome}
use Rattle.choice.specs.Further.{better, alone, followed}
use Rattle.choice.specs.Answer.{Given, answered}
use Rattle.choice.specs.Outcome.{told, told_as}
use Rattle.choice.specs.Pair.{sound_in, far_in, route_by, pair_error, chosen, pair}
use Rattle.choice.specs.Demand.{Demand}
use Rattle.choice.specs.Worked.{tells, Worked}
use Rattle.choice.specs.Weighed.{machine, Weighed}
use Rattle.choice.proofs.AtTorus.{far_lengths}
use Rattle.choice.proofs.Computed.{onward, one_first, two_first, two_first_law}
use Rattle.choice.proofs.Demand.{pair_chosen, demand}

-- By laws, where the choices are many: what a route tells that is computed without the list of all choices.
module _ (p : List ℕ) (S D : ℕ) where
  abbrev route : Option.Option Choice
  route = two_first (far_in p) (clear (torus (shape_of p)) (sound_in p)) (node_count (shape_of p)) S D

  told_by :
      (c : Choice) (outcome : Outcome) → route ≡ Option.some c → told (far_in p) S (Given c) ≡ outcome →
      plan_error large p ≡ 0 → is_node (shape_of p) S ≡ true → is_node (shape_of p) D ≡ true → dead_node (faults_of p) S ≡ false → dead_node (faults_of p) D ≡ false → tells p S D ≡ outcome
  told_by c outcome is same e h_s h_d dS dD =
      let from = node_of (shape_of p) S h_s in
      let to = node_of (shape_of p) D h_d in
      let found = two_first_law (far_in p) (shape_of p) (far_lengths large p e) from.sound (sound_in p) S from.below D to.below ∙ is in
      ap (told (far_in p) S) (pair_chosen large p S D e h_s h_d dS dD) ∙ (ap (λ o. told (far_in p) S (chosen o)) found ∙ same)

w_0_1_route : route W 0 1 ≡ Option.some (leg 3 Adaptive ∷ leg 2 Adaptive ∷ leg 1 Adaptive ∷ [])
unfolding end_by sum_by every clear_in clear lex earlier best axis_hops has_link place node_count number_of coords_of dir_dim opposite link neighbour hops useful rule toward first_direction allowed_by list_from version layout_of shape_of weights_by distance fault_count fault_at faults_of kind_dim kind_dir some names_node dead_node names_link names dead_link sound targets_of vias_of modes_of dets_of key_of over better alone followed onward one_first two_first
w_0_1_route = refl

w_0_1_told : told (far_in W) 0 (Given (leg 3 Adaptive ∷ leg 2 Adaptive ∷ leg 1 Adaptive ∷ [])) ≡ Outcome.Given (Route.Vias 3 2 Adaptive Adaptive Adaptive) 3
unfolding sum_by axis_hops node_count coords_of version layout_of shape_of weights_by distance told told_as
w_0_1_told = refl

w_0_1 : tells W 0 1 ≡ Outcome.Given (Route.Vias 3 2 Adaptive Adaptive Adaptive) 3
unfolding shape_error bad_extents bad_wraps node_count is_node list_from version length_field bytes_after length_is layout_of shape_of weights_by bad_weights weight_error fault_count fault_at faults_of kind_dim kind_dir coords_of has_link link dir_dim fault_good fault_key faults_error plan_error_by fault_exists some names_node dead_node
w_0_1 = told_by W 0 1 (leg 3 Adaptive ∷ leg 2 Adaptive ∷ leg 1 Adaptive ∷ []) (Outcome.Given (Route.Vias 3 2 Adaptive Adaptive Adaptive) 3) w_0_1_route w_0_1_told refl refl refl refl refl

w_0_2_route : route W 0 2 ≡ Option.some (leg 3 Adaptive ∷ leg 2 Adaptive ∷ [])
unfolding end_by sum_by every clear_in clear lex earlier best axis_hops has_link place node_count number_of coords_of dir_dim opposite link neighbour hops useful rule toward first_direction allowed_by list_from version layout_of shape_of weights_by distance fault_count fault_at faults_of kind_dim kind_dir some names_node dead_node names_link names dead_link sound targets_of vias_of modes_of dets_of key_of over better alone followed onward one_first two_first
w_0_2_route = refl

w_0_2_told : told (far_in W) 0 (Given (leg 3 Adaptive ∷ leg 2 Adaptive ∷ [])) ≡ Outcome.Given (Route.Via 3 Adaptive Adaptive) 2
unfolding sum_by axis_hops node_count coords_of version layout_of shape_of weights_by distance told told_as
w_0_2_told = refl

w_0_2 : tells W 0 2 ≡ Outcome.Given (Route.Via 3 Adaptive Adaptive) 2
unfolding shape_error bad_extents bad_wraps node_count is_node list_from version length_field bytes_after length_is layout_of shape_of weights_by bad_weights weight_error fault_count fault_at faults_of kind_dim kind_dir coords_of has_link link dir_dim fault_good fault_key faults_error plan_error_by fault_exists some names_node dead_node
w_0_2 = told_by W 0 2 (leg 3 Adaptive ∷ leg 2 Adaptive ∷ []) (Outcome.Given (Route.Via 3 Adaptive Adaptive) 2) w_0_2_route w_0_2_told refl refl refl refl refl

w_0_7_route : route W 0 7 ≡ Option.some (leg 7 Adaptive ∷ [])
unfolding end_by sum_by every clear_in clear lex earlier best axis_hops has_link place node_count number_of coords_of dir_dim opposite link neighbour hops useful rule toward first_direction allowed_by list_from version layout_of shape_of weights_by distance fault_count fault_at faults_of kind_dim kind_dir some names_node dead_node names_link names dead_link sound targets_of vias_of modes_of dets_of key_of over better alone followed onward one_first two_first
w_0_7_route = refl

w_0_7_told : told (far_in W) 0 (Given (leg 7 Adaptive ∷ [])) ≡ Outcome.Given (Route.Direct Adaptive) 2
unfolding sum_by axis_hops node_count coords_of version layout_of shape_of weights_by distance told told_as
w_0_7_told = refl

w_0_7 : tells W 0 7 ≡ Outcome.Given (Route.Direct Adaptive) 2
unfolding shape_error bad_extents bad_wraps node_count is_node list_from version length_field bytes_after length_is layout_of shape_of weights_by bad_weights weight_error fault_count fault_at faults_of kind_dim kind_dir coords_of has_link link dir_dim fault_good fault_key faults_error plan_error_by fault_exists some names_node dead_node
w_0_7 = told_by W 0 7 (leg 7 Adaptive ∷ []) (Outcome.Given (Route.Direct Adaptive) 2) w_0_7_route w_0_7_told refl refl refl refl refl

by_hops_route : route (machine 1) 0 1 ≡ Option.some (leg 5 Adaptive ∷ leg 6 Adaptive ∷ leg 1 Adaptive ∷ [])
unfolding end_by sum_by every clear_in clear lex earlier best axis_hops has_link place node_count number_of coords_of dir_dim opposite link neighbour hops useful rule toward first_direction allowed_by list_from version layout_of shape_of weights_by distance fault_count fault_at faults_of kind_dim kind_dir some names_node dead_node names_link names dead_link sound targets_of vias_of modes_of dets_of key_of over better alone followed onward one_first two_first
by_hops_route = refl

by_hops_told : told (far_in (machine 1)) 0 (Given (leg 5 Adaptive ∷ leg 6 Adaptive ∷ leg 1 Adaptive ∷ [])) ≡ Outcome.Given (Route.Vias 5 6 Adaptive Adaptive Adaptive) 3
unfolding sum_by axis_hops node_count coords_of version layout_of shape_of weights_by distance told told_as
by_hops_told = refl

by_hops : tells (machine 1) 0 1 ≡ Outcome.Given (Route.Vias 5 6 Adaptive Adaptive Adaptive) 3
unfolding shape_error bad_extents bad_wraps node_count is_node list_from version length_field bytes_after length_is layout_of shape_of weights_by bad_weights weight_error fault_count fault_at faults_of kind_dim kind_dir coords_of has_link link dir_dim fault_good fault_key faults_error plan_error_by fault_exists some names_node dead_node
by_hops = told_by (machine 1) 0 1 (leg 5 Adaptive ∷ leg 6 Adaptive ∷ leg 1 Adaptive ∷ []) (Outcome.Given (Route.Vias 5 6 Adaptive Adaptive Adaptive) 3) by_hops_route by_hops_told refl refl refl refl refl

by_weight_route : route (machine 2) 0 1 ≡ Option.some (leg 3 Adaptive ∷ leg 1 Adaptive ∷ [])
unfolding end_by sum_by every clear_in clear lex earlier best axis_hops has_link place node_count number_of coords_of dir_dim opposite link neighbour hops useful rule toward first_direction allowed_by list_from version layout_of shape_of weights_by distance fault_count fault_at faults_of kind_dim kind_dir some names_node dead_node names_link names dead_link sound targets_of vias_of modes_of dets_of key_of over better alone followed onward one_first two_first
by_weight_route = refl

by_weight_told : told (far_in (machine 2)) 0 (Given (leg 3 Adaptive ∷ leg 1 Adaptive ∷ [])) ≡ Outcome.Given (Route.Via 3 Adaptive Adaptive) 4
unfolding sum_by axis_hops node_count coords_of version layout_of shape_of weights_by distance told told_as
by_weight_told = refl

by_weight : tells (machine 2) 0 1 ≡ Outcome.Given (Route.Via 3 Adaptive Adaptive) 4
unfolding shape_error bad_extents bad_wraps node_count is_node list_from version length_field bytes_after length_is layout_of shape_of weights_by bad_weights weight_error fault_count fault_at faults_of kind_dim kind_dir coords_of has_link link dir_dim fault_good fault_key faults_error plan_error_by fault_exists some names_node dead_node
by_weight = told_by (machine 2) 0 1 (leg 3 Adaptive ∷ leg 1 Adaptive ∷ []) (Outcome.Given (Route.Via 3 Adaptive Adaptive) 4) by_weight_route by_weight_told refl refl refl refl refl

pub worked : Worked
unfolding end_by sum_by every clear_by clear_in clear lex earlier best planned shape_error bad_extents bad_wraps axis_hops has_link place node_count number_of coords_of dir_dim opposite link neighbour hops useful rule toward first_direction is_node allowed_by list_from version length_field bytes_after length_is layout_of shape_of weights_by bad_weights weight_error distance fault_count fault_at faults_of kind_dim kind_dir fault_good fault_key faults_error plan_error_by fault_exists some names_node dead_node names_link names dead_link sound targets_of vias_of modes_of dets_of key_of over after direct legs_by misses different kept choices_by answered told told_as route_by pair_error pair
worked = record {
  w_0_1 = w_0_1;
  w_0_2 = w_0_2;
  w_0_7 = w_0_7;
  w_0_0 = refl;
  ring_of_4 = refl;
  ring_of_5 = refl;
  open_2 = refl;
  dead_node_law = refl;
  extent_16 = refl;
  extent_17 = refl;
  wrapped_3 = refl;
  wrapped_2 = refl;
}

pub weighed : Weighed
unfolding end_by sum_by every clear_by clear_in clear lex earlier best planned shape_error bad_extents bad_wraps axis_hops has_link place node_count number_of coords_of dir_dim opposite link neighbour hops useful rule toward first_direction is_node allowed_by list_from version length_field bytes_after length_is layout_of shape_of weights_by bad_weights weight_error distance fault_count fault_at faults_of kind_dim kind_dir fault_good fault_key faults_error plan_error_by fault_exists some names_node dead_node names_link names dead_link sound targets_of vias_of modes_of dets_of key_of over after direct legs_by misses different kept choices_by answered told told_as route_by pair_error pair
weighed = record {
  by_hops = by_hops;
  by_weight = by_weight;
  weight_8 = refl;
  weight_9 = refl;
  weight_0 = refl;
  kind_4 = refl;
  both = refl;
  bytes_12 = refl;
  bytes_11 = refl;
  version_3 = refl;
}

-- What the theorem assumes holds of W, 0 and 1.
pub w_demand : Demand large W 0 1
unfolding shape_error bad_extents bad_wraps node_count is_node list_from version length_field bytes_after length_is layout_of shape_of weights_by bad_weights weight_error distance fault_count fault_at faults_of kind_dim kind_dir coords_of has_link link dir_dim fault_good fault_key faults_error plan_error_by fault_exists some names_node dead_node
w_demand = demand large W 0 1 refl refl refl refl refl

-- And of a plan with weights.
pub weighed_demand : Demand large (machine 2) 0 1
unfolding shape_error bad_extents bad_wraps node_count is_node list_from version length_field bytes_after length_is layout_of shape_of weights_by bad_weights weight_error distance fault_count fault_at faults_of kind_dim kind_dir coords_of has_link link dir_dim fault_good fault_key faults_error plan_error_by fault_exists some names_node dead_node
weighed_demand = demand large (machine 2) 0 1 refl refl refl refl refl
