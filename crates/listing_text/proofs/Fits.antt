-- How long a text can be: a first line of up to 14 bytes and 4,096 lines of up to 23.
use Prim.Native.Nat.{ℕ, zero, suc, ◌+◌, ◌*◌, ◌≤◌, ◌<◌}
use native.Mathlib.Omega.{arith}
use mathlib.Core.Path.{◌≡◌, refl}
use mathlib.Core.Bool.{not}
use mathlib.Core.List.{List, [], ◌∷◌, ◌++◌}
use lib.ListN.{length, length-append}
use lib.Dec.{ltb}
use Rattle.numbers.specs.Numbers.{plan_short, node_outside, dead_end}
use Rattle.theory.specs.Machine.{sum_by}
use Rattle.machine.specs.declared.leg.Mode.{Mode}
use Rattle.machine.specs.declared.leg.Mode.TheVariants.{Adaptive, Deterministic}
use Rattle.machine.specs.Number.{node_count}
use Rattle.machine.specs.Node.{is_node}
use Rattle.machine.specs.Torus.{leg}
use Rattle.machine.proofs.Nodes.{Node, node_of}
use Rattle.plan.specs.Layout.{shape_of, fault_count, faults_of}
use Rattle.plan.specs.Checks.{large, plan_error}
use Rattle.plan.proofs.Most.{then_most, check_most, plan_most}
use Rattle.plan.proofs.Plans.{within_large}
use Rattle.dead.specs.Dead.{dead_node}
use Rattle.choice.specs.Choice.{AdmitsIn, vias_of, modes_of, length_from}
use Rattle.choice.specs.Answer.{Answer, Given, Refused}
use Rattle.choice.specs.Search.{Lengths}
use Rattle.choice.specs.Pair.{far_in, pair}
use Rattle.choice.proofs.AtTorus.{far_lengths}
use Rattle.routes.specs.Kinds.{bits_of, kind_of, refused_kind}
use Rattle.routes.proofs.Saying.{admitted_legs}
use Rattle.planned_sheet.specs.Sheet.{source_error}
use Rattle.planned_sheet.proofs.Planning.{Source, source_of, answer_is}
use Rattle.listing_text.specs.Decimal.{decimal}
use Rattle.listing_text.specs.Text.{source_in, plan_in, listing_error, line, head_line, kind_text, first_text, second_text, via_text, second_via_text, length_text, dest_line, dest_lines, refused_word, refusal, listing_of}
use Rattle.listing_text.proofs.Decimals.{at_most_2, at_most_3, at_most_4}
use Rattle.listing_text.proofs.Sources.{source_sound, node_below}

-- ---- numbers of refusals
listing_most : (i : List ℕ) → listing_error i ≤ 16
unfolding listing_error source_error
listing_most i =
    check_most 16 (ltb (length i) 2) plan_short _ (omega arith)
    (then_most 16 (plan_error large (plan_in i)) _ (omega (arith, plan_most large (plan_in i)))
    (check_most 16 (not (is_node (shape_of (plan_in i)) (source_in i))) node_outside _ (omega arith)
    (check_most 16 (dead_node (faults_of (plan_in i)) (source_in i)) dead_end 0 (omega arith) (omega arith))))

-- ---- lines
line_length : (f g : List ℕ) (fs : List (List ℕ)) → length (line (f ∷ (g ∷ fs))) ≡ length f + 1 + length (line (g ∷ fs))
unfolding line
line_length f g fs = simp length-append (omega arith)

last_length : (f : List ℕ) → length (line (f ∷ [])) ≡ length f + 1
unfolding line
last_length f = simp length-append (omega arith)

refusal_short : (e : ℕ) → e ≤ 16 → length (refusal e) ≤ 11
unfolding refusal
refusal_short e h =
    omega (arith, line_length refused_word (decimal e) [], last_length (decimal e), at_most_2 e (omega arith))

head_short : (S n f : ℕ) → S < 4096 → n ≤ 4096 → f ≤ 256 → length (head_line S n f) ≤ 14
unfolding head_line
head_short S n f a b c =
    omega (arith, line_length (decimal S) (decimal n) (decimal f ∷ []), line_length (decimal n) (decimal f) [], last_length (decimal f), at_most_4 S (omega arith), at_most_4 n (omega arith), at_most_3 f (omega arith))

-- An answer whose vias, where it has them, are nodes', whose kind has at most two digits and whose length has at most four; or a refusal whose kind has at
-- most three.
abbrev Small : (ℕ → ℕ → ℕ) → ℕ → Answer → Type 0
Small far S (Given c) = (kind_of c < 100) × (length (first_text (vias_of c)) ≤ 4) × (length (second_text (vias_of c)) ≤ 4) × (length_from far S c < 10000)
Small far S (Refused e) = refused_kind e < 1000

fields_short : (far : ℕ → ℕ → ℕ) (S : ℕ) (a : Answer) → Small far S a → length (kind_text a) + length (via_text a) + length (second_via_text a) + length (length_text far S a) ≤ 14
unfolding kind_text via_text second_via_text length_text
fields_short far S (Given c) h = omega (arith, at_most_2 (kind_of c) h.0, h.1, h.2, at_most_4 (length_from far S c) h.3)
fields_short far S (Refused e) h = omega (arith, at_most_3 (refused_kind e) h)

line_short : (far : ℕ → ℕ → ℕ) (S D : ℕ) (a : Answer) → D < 4096 → Small far S a → length (dest_line far S D a) ≤ 23
unfolding dest_line
line_short far S D a d h =
    omega (arith, line_length (decimal D) (kind_text a) (via_text a ∷ second_via_text a ∷ length_text far S a ∷ []), line_length (kind_text a) (via_text a) (second_via_text a ∷ length_text far S a ∷ []), line_length (via_text a) (second_via_text a) (length_text far S a ∷ []), line_length (second_via_text a) (length_text far S a) [], last_length (length_text far S a), at_most_4 D (omega arith), fields_short far S a h)

-- ---- answers
module _ (p : List ℕ) (S : ℕ) (ok : source_error large p S ≡ 0) (D : ℕ) (to : D < node_count (shape_of p)) where
  abbrev from : Source large p S
  from = source_of large p S ok

  from_node : Node (shape_of p) S
  from_node = node_of (shape_of p) S from.node

  F : Lengths (shape_of p) (far_in p)
  F = far_lengths large p from.plan

  -- A node has at most four digits.
  four : (v : ℕ) → v < node_count (shape_of p) → length (decimal v) ≤ 4
  four v h = at_most_4 v (omega (arith, h, (within_large p from.plan).nodes))

  one_small : (m : Mode) → Small (far_in p) S (Given (leg D m ∷ []))
  unfolding kind_of bits_of vias_of modes_of sum_by
  one_small m = (kind m, omega arith, omega arith, omega (arith, F.most S D from_node.below to))
    where
      kind : (m : Mode) → kind_of (leg D m ∷ []) < 100
      kind Adaptive = omega arith
      kind Deterministic = omega arith

  two_small : (v : ℕ) (m n : Mode) → AdmitsIn (shape_of p) S D (leg v m ∷ leg D n ∷ []) → Small (far_in p) S (Given (leg v m ∷ leg D n ∷ []))
  unfolding kind_of bits_of vias_of modes_of sum_by
  two_small v m n a =
      let via : v < node_count (shape_of p) = a.inside.0 in (
        kind m n,
        four v via,
        omega arith,
        omega (arith, F.most S v from_node.below via, F.most v D via to),
      )
    where
      kind : (m n : Mode) → kind_of (leg v m ∷ leg D n ∷ []) < 100
      kind Adaptive Adaptive = omega arith
      kind Adaptive Deterministic = omega arith
      kind Deterministic Adaptive = omega arith
      kind Deterministic Deterministic = omega arith

  three_small : (v u : ℕ) (m n o : Mode) → AdmitsIn (shape_of p) S D (leg v m ∷ leg u n ∷ leg D o ∷ []) → Small (far_in p) S (Given (leg v m ∷ leg u n ∷ leg D o ∷ []))
  unfolding kind_of bits_of vias_of modes_of sum_by
  three_small v u m n o a =
      let via : v < node_count (shape_of p) = a.inside.0 in
      let second : u < node_count (shape_of p) = a.inside.1.0 in (
        kind m n o,
        four v via,
        four u second,
        omega (arith, F.most S v from_node.below via, F.most v u via second, F.most u D second to),
      )
    where
      kind : (m n o : Mode) → kind_of (leg v m ∷ leg u n ∷ leg D o ∷ []) < 100
      kind Adaptive Adaptive Adaptive = omega arith
      kind Adaptive Adaptive Deterministic = omega arith
      kind Adaptive Deterministic Adaptive = omega arith
      kind Adaptive Deterministic Deterministic = omega arith
      kind Deterministic Adaptive Adaptive = omega arith
      kind Deterministic Adaptive Deterministic = omega arith
      kind Deterministic Deterministic Adaptive = omega arith
      kind Deterministic Deterministic Deterministic = omega arith

  pair_small : Small (far_in p) S (pair large p S D)
  unfolding refused_kind
  pair_small =
      answer_is large p S from D (node_below p S ok D to) (Small (far_in p) S) (omega arith) (omega arith)
      (admitted_legs (λ c. Small (far_in p) S (Given c)) (shape_of p) S D one_small two_small three_small)

module _ (p : List ℕ) (S : ℕ) (ok : source_error large p S ≡ 0) where
  abbrev s : Source large p S
  s = source_of large p S ok

  most : node_count (shape_of p) ≤ 4096
  most = (within_large p s.plan).nodes

  lines_short : (n : ℕ) → n ≤ node_count (shape_of p) → length (dest_lines p S n) ≤ 23 * n
  unfolding dest_lines
  lines_short zero h = omega arith
  lines_short (suc n) h =
      omega (arith, length-append (dest_lines p S n) (dest_line (far_in p) S n (pair large p S n)), lines_short n (omega arith), line_short (far_in p) S n (pair large p S n) (omega (arith, most)) (pair_small p S ok n (omega arith)))

  abbrev first : List ℕ
  first = head_line S (node_count (shape_of p)) (fault_count p)

  accepted_short : length (first ++ dest_lines p S (node_count (shape_of p))) ≤ 94222
  accepted_short =
      omega (arith, length-append first (dest_lines p S (node_count (shape_of p))), lines_short (node_count (shape_of p)) (omega arith), most, head_short S (node_count (shape_of p)) (fault_count p) (omega (arith, most, (node_of (shape_of p) S s.node).below)) most (within_large p s.plan).faults)

pub listing_fits : (i : List ℕ) → length (listing_of i) ≤ 94222
unfolding listing_of
listing_fits i = go (listing_error i) refl
  where
    go : (e : ℕ) → listing_error i ≡ e → length (listing_of i) ≤ 94222
    go zero h = rw h (accepted_short (plan_in i) (source_in i) (source_sound i h))
    go (suc e) h = rw h (omega (arith, refusal_short (suc e) (omega (arith, h, listing_most i))))
