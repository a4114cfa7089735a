-- Planning from node 0 of machine W writes the sheet of the documents, byte by byte. Of each destination little is computed, and laws do the rest: the
-- choices of up to two vias are many.
use Prim.Native.Nat.{ℕ, suc, ◌<◌}
use native.Mathlib.Omega.{arith}
use mathlib.Core.Path.{◌≡◌, refl, sym, ap, ◌∙◌}
use mathlib.Core.Bool.{true, false}
use mathlib.Core.Option as Option
use mathlib.Core.List.{List, [], ◌∷◌}
use Rattle.theory.specs.Machine.{end_by, sum_by}
use Rattle.theory.specs.Clear.{every, clear_by, clear_in, clear}
use Rattle.theory.specs.Choice.{lex, earlier, best}
use Rattle.shape.specs.Shape.{shape_error, bad_extents, bad_wraps}
use Rattle.shape.specs.Axis.{axis_hops, has_link, place}
use Rattle.machine.specs.declared.leg.Mode.TheVariants.{Adaptive}
use Rattle.machine.specs.Number.{node_count, number_of, coords_of}
use Rattle.machine.specs.Hop.{dir_dim, opposite, link, neighbour, hops, useful, rule, toward, first_direction}
use Rattle.machine.specs.Node.{is_node}
use Rattle.machine.specs.Torus.{allowed_by, leg, torus}
use Rattle.packet.specs.New.{legs_to}
use Rattle.weights.specs.Weights.{bad_weights, weight_error}
use Rattle.weights.specs.Distance.{distance}
use Rattle.sheet.specs.Bytes.{list_from}
use Rattle.sheet.specs.Head.{version}
use Rattle.sheet.specs.Records.{records_bytes}
use Rattle.plan.specs.Layout.{layout_of, shape_of, weights_by, fault_count, fault_at, faults_of}
use Rattle.plan.specs.Kinds.{kind_dim, kind_dir}
use Rattle.plan.specs.Checks.{large}
use Rattle.plan.specs.Worked.{W}
use Rattle.plan.proofs.Worked.{w_accepted}
use Rattle.dead.specs.Dead.{some, names_node, dead_node, names_link, names, dead_link, sound}
use Rattle.dead.proofs.Table.{is_node_law}
use Rattle.choice.specs.Choice.{Choice, length_from, targets_of, vias_of, modes_of, dets_of, key_of, over, after, direct, legs_by, misses, different, kept, choices_by}
use Rattle.choice.specs.Answer.{Given}
use Rattle.choice.specs.Further.{first_by}
use Rattle.choice.specs.Pair.{sound_in, far_in, chosen, pair}
use Rattle.choice.proofs.AtTorus.{far_lengths, two_enough}
use Rattle.choice.proofs.Worked as Choice
use Rattle.routes.specs.declared.layout.Entry.{Entry}
use Rattle.routes.specs.Kinds.{bits_of, kind_of}
use Rattle.routes.specs.Said.{entry_for, heard}
use Rattle.route_value.specs.Writing.{head_bytes, sheet_bytes}
use Rattle.route_value.specs.Worked.{sheet_w}
use Rattle.planned_sheet.specs.Sheet.{entries_from, planned_sheet}
use Rattle.planned_sheet.proofs.Planning.{Source, pair_alive}
use Rattle.planned_sheet.proofs.Unlisted.{direct_clear, unclear_listed, clear_unlisted}
use Rattle.planned_sheet.proofs.Listing.{entry_is}

-- ---- what is computed
abbrev by_via : ℕ → ℕ → Choice
by_via v D = leg v Adaptive ∷ leg D Adaptive ∷ []

-- D is no direct destination, and of the choices with at most one via the first is by v, adaptive and of the least length.
record Via (v D : ℕ) : Type 0 where
  unclear : direct_clear W 0 D ≡ false
  alive : dead_node (faults_of W) D ≡ false
  first : first_by (far_in W) (clear (torus (shape_of W)) (sound_in W)) 1 (node_count (shape_of W)) 0 D ≡ Option.some (by_via v D)
  short : length_from (far_in W) 0 (by_via v D) ≡ far_in W 0 D

record Computed : Type 0 where
  shape : shape_error (shape_of W) ≡ 0
  nodes : node_count (shape_of W) ≡ 16
  alive : dead_node (faults_of W) 0 ≡ false
  to_0 : direct_clear W 0 0 ≡ true
  to_1 : direct_clear W 0 1 ≡ false
  to_2 : Via 3 2
  to_3 : direct_clear W 0 3 ≡ true
  to_4 : direct_clear W 0 4 ≡ true
  to_5 : Via 4 5
  to_6 : Via 3 6
  to_7 : direct_clear W 0 7 ≡ true
  to_8 : direct_clear W 0 8 ≡ true
  to_9 : Via 4 9
  to_10 : Via 3 10
  to_11 : direct_clear W 0 11 ≡ true
  to_12 : direct_clear W 0 12 ≡ true
  to_13 : Via 12 13
  to_14 : Via 3 14
  to_15 : direct_clear W 0 15 ≡ true

computed : Computed
unfolding end_by sum_by every clear_by clear_in clear lex earlier best shape_error bad_extents bad_wraps axis_hops has_link place node_count number_of coords_of dir_dim opposite link neighbour hops useful rule toward first_direction allowed_by list_from version layout_of shape_of weights_by bad_weights weight_error distance fault_count fault_at faults_of kind_dim kind_dir some names_node dead_node names_link names dead_link sound targets_of vias_of modes_of dets_of key_of over after direct legs_by misses different kept choices_by first_by
computed = record {
  shape = refl;
  nodes = refl;
  alive = refl;
  to_0 = refl;
  to_1 = refl;
  to_2 = record { unclear = refl; alive = refl; first = refl; short = refl };
  to_3 = refl;
  to_4 = refl;
  to_5 = record { unclear = refl; alive = refl; first = refl; short = refl };
  to_6 = record { unclear = refl; alive = refl; first = refl; short = refl };
  to_7 = refl;
  to_8 = refl;
  to_9 = record { unclear = refl; alive = refl; first = refl; short = refl };
  to_10 = record { unclear = refl; alive = refl; first = refl; short = refl };
  to_11 = refl;
  to_12 = refl;
  to_13 = record { unclear = refl; alive = refl; first = refl; short = refl };
  to_14 = record { unclear = refl; alive = refl; first = refl; short = refl };
  to_15 = refl;
}

-- ---- the entries
below : (D : ℕ) → D < 16 → D < node_count (shape_of W)
below D l = rw computed.nodes l

node : (D : ℕ) → D < 16 → is_node (shape_of W) D ≡ true
node D l = is_node_law (shape_of W) D (record { sound = computed.shape; below = below D l })

source : Source large W 0
source = record { plan = w_accepted; node = node 0 (omega arith); alive = computed.alive }

-- The entries from D on, of n destinations.
abbrev From : ℕ → ℕ → List Entry → Type 0
From D n es = entries_from large W 0 D n ≡ es

nil : From 16 0 []
unfolding entries_from
nil = refl

skipped : (D n : ℕ) (es : List Entry) → D < 16 → direct_clear W 0 D ≡ true → From (suc D) n es → From D (suc n) es
unfolding entries_from
skipped D n es l h rest = rw (clear_unlisted W 0 source D (node D l) h) rest

listed : (D n : ℕ) (e : Entry) (es : List Entry) → D < 16 → direct_clear W 0 D ≡ false → entry_for D (pair large W 0 D) ≡ e → From (suc D) n es → From D (suc n) (e ∷ es)
unfolding entries_from
listed D n e es l h is rest = rw (unclear_listed W 0 source D (node D l) h, is, rest)

abbrev entry : ℕ → ℕ → Entry
entry v D = record { dest = D; kind = 16; via = v; second = 0 }

entry_via : (v D : ℕ) → entry_for D (Given (by_via v D)) ≡ entry v D
unfolding entry_for vias_of modes_of kind_of bits_of
entry_via v D = refl

by_via_law : (v D n : ℕ) (es : List Entry) → D < 16 → Via v D → From (suc D) n es → From D (suc n) (entry v D ∷ es)
unfolding dets_of
by_via_law v D n es l h rest =
    let route = two_enough (far_in W) (shape_of W) (far_lengths large W w_accepted) computed.shape (sound_in W) 0 D (below 0 (omega arith)) (below D l) (by_via v D) h.first h.short refl in
    let pair_is : pair large W 0 D ≡ Given (by_via v D) = pair_alive large W 0 source D (node D l) h.alive ∙ ap chosen route in
    listed D n (entry v D) es l h.unclear (ap (entry_for D) pair_is ∙ entry_via v D) rest

-- 0 to 1 by 3 and 2, all adaptive.
abbrev entry_1 : Entry
entry_1 = record { dest = 1; kind = 32; via = 3; second = 2 }

entry_to_1 : entry_for 1 (pair large W 0 1) ≡ entry_1
unfolding entry_for heard legs_to vias_of modes_of kind_of bits_of
entry_to_1 = sym (entry_is W 0 source 1 (node 1 (omega arith))) ∙ ap (λ o. entry_for 1 (heard 1 o)) (Choice.worked).w_0_1

from_8 : From 8 8 (entry 4 9 ∷ entry 3 10 ∷ entry 12 13 ∷ entry 3 14 ∷ [])
from_8 =
    let c = computed in
    skipped 8 7 _ (omega arith) c.to_8
    (by_via_law 4 9 6 _ (omega arith) c.to_9
    (by_via_law 3 10 5 _ (omega arith) c.to_10
    (skipped 11 4 _ (omega arith) c.to_11
    (skipped 12 3 _ (omega arith) c.to_12
    (by_via_law 12 13 2 _ (omega arith) c.to_13
    (by_via_law 3 14 1 _ (omega arith) c.to_14
    (skipped 15 0 _ (omega arith) c.to_15 nil)))))))

from_0 : From 0 16 (entry_1 ∷ entry 3 2 ∷ entry 4 5 ∷ entry 3 6 ∷ entry 4 9 ∷ entry 3 10 ∷ entry 12 13 ∷ entry 3 14 ∷ [])
from_0 =
    let c = computed in
    skipped 0 15 _ (omega arith) c.to_0
    (listed 1 14 entry_1 _ (omega arith) c.to_1 entry_to_1
    (by_via_law 3 2 13 _ (omega arith) c.to_2
    (skipped 3 12 _ (omega arith) c.to_3
    (skipped 4 11 _ (omega arith) c.to_4
    (by_via_law 4 5 10 _ (omega arith) c.to_5
    (by_via_law 3 6 9 _ (omega arith) c.to_6
    (skipped 7 8 _ (omega arith) c.to_7 from_8)))))))

pub w_sheet : planned_sheet large W 0 ≡ sheet_w
unfolding planned_sheet sheet_bytes head_bytes records_bytes
w_sheet = rw (computed.nodes, from_0)
