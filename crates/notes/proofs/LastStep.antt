-- The note by the least number of all vias.
use Prim.Native.Nat.{ℕ, ◌+◌, ◌-◌, ◌*◌, ◌/◌, ◌%◌, ◌≤◌, ◌<◌}
use native.Mathlib.Omega.{arith}
use mathlib.Core.Path.{◌≡◌, refl, ap, ◌∙◌}
use mathlib.Core.Logic.{◌⊎◌, inl, ⊎_elim}
use mathlib.Core.Bool.{true}
use mathlib.Core.List.{List}
use lib.Arith.{digits_div, digits_mod}
use borrow.Author.Tests.{le-leb, lt-leb, le-ltb}
use Rattle.theory.specs.Clear.{clear}
use Rattle.theory.proofs.Cases.{test, by_le, by_order}
use Rattle.shape.specs.declared.shape.Shape.{Shape}
use Rattle.shape.specs.declared.shape.Coords.{Coords}
use Rattle.shape.specs.Shape.{shape_error}
use Rattle.machine.specs.declared.leg.Mode.TheVariants.{Adaptive, Deterministic}
use Rattle.machine.specs.Number.{node_count}
use Rattle.machine.specs.Torus.{torus}
use Rattle.weights.specs.declared.weights.Weights.{Weights}
use Rattle.plan.specs.Layout.{shape_of, weights_of}
use Rattle.plan.specs.Checks.{large}
use Rattle.choice.specs.Pair.{sound_in, far_in}
use Rattle.choice.specs.Search.{Lengths}
use Rattle.choice.proofs.AtTorus.{far_lengths}
use Rattle.search.specs.Number.{unclear, det_of, via_number}
use Rattle.search.specs.BestVia.{number_in, LeastOf}
use Rattle.search.proofs.OfNodes as OfNodes
use Rattle.choice_number.specs.Note.{value_by}
use Rattle.choice_number.proofs.ThirdLeg.{det_of_low, node_small}
use Rattle.notes.specs.Known.{is_clear, NoteTo, note_of, Faring}
use Rattle.notes.proofs.Knowing.{weights_ok, shape_ok}

-- A number's places: the value and the via.
record Places (k value v : ℕ) : Type 0 where
  worth : k / 16384 ≡ value
  via : k % 8192 / 2 ≡ v

places : (k len d v f : ℕ) → k ≡ len * 65536 + (d * 16384 + (8192 + (v * 2 + f))) → v < 4096 → f < 2 → Places k (4 * len + d) v
places k len d v f e hv hf =
    let e₁ : k ≡ (4 * len + d) * 16384 + (8192 + (v * 2 + f)) = omega arith in
    let e₂ : k ≡ (8 * len + 2 * d + 1) * 8192 + (v * 2 + f) = omega arith in
    record {
      worth = rw e₁ (digits_div (4 * len + d) {m = 16384} {r = 8192 + (v * 2 + f)} (omega arith));
      via = rw e₂ (rw (digits_mod (8 * len + 2 * d + 1) {m = 8192} {r = v * 2 + f} (omega arith)) (digits_div v {m = 2} {r = f} hf));
    }

module _ (p : List ℕ) (w : Weights) (s : Shape) (S D : ℕ) (a t : Coords) (fa fd to : List ℕ) (at : ℕ) (g : Faring p w s S D a t fa fd to at) where
  ok : shape_error (shape_of p) ≡ 0
  ok = shape_ok p g.plan

  F : Lengths (shape_of p) (far_in p)
  F = far_lengths large p g.plan

  abbrev number : ℕ → ℕ
  number v = via_number (far_in p S v + far_in p v D) v (is_clear p Adaptive S v) (is_clear p Deterministic S v) (is_clear p Adaptive v D) (is_clear p Deterministic v D)

  abbrev worth : ℕ → ℕ
  worth v = value_by (far_in p) (clear (torus (shape_of p)) (sound_in p)) S v D

  number_is : (v : ℕ) → v < node_count (shape_of p) → number_in w s a t fa fd to at v ≡ number v
  number_is v l =
      rw (g.weights, g.shape, g.source.at, g.target.at)
      (OfNodes.number_is (weights_of p) (weights_ok p g.plan) (shape_of p) ok S D g.source.node g.target.node fa fd to at g.both.room v
      ∙ rw (g.adaptive v l, g.deterministic v l, g.both.adaptive v l, g.both.deterministic v l))

  count_is : node_count s ≡ node_count (shape_of p)
  count_is = ap node_count g.shape

  -- The number of a via with clear legs; of another it is above all of those.
  both_clear : (v : ℕ) → is_clear p Deterministic S v ≡ true → is_clear p Deterministic v D ≡ true →
      number v ≡ (far_in p S v + far_in p v D) * 65536 + ((det_of (is_clear p Adaptive S v) + det_of (is_clear p Adaptive v D)) * 16384 + (8192 + (v * 2 + det_of (is_clear p Adaptive S v))))
  unfolding via_number
  both_clear v o b = rw (o, b) refl

  low_clear : (v : ℕ) → number v < unclear → (is_clear p Deterministic S v ≡ true) × (is_clear p Deterministic v D ≡ true)
  unfolding via_number
  low_clear v k = test (is_clear p Deterministic S v)
      (λ o. test (is_clear p Deterministic v D) (λ b. (o, b)) (λ b. let z : number v ≡ unclear = rw (o, b) refl in absurd (omega arith)))
      (λ o. let z : number v ≡ unclear = rw o refl in absurd (omega arith))

  read_back : (v k : ℕ) → v < node_count (shape_of p) → is_clear p Deterministic S v ≡ true → is_clear p Deterministic v D ≡ true → k ≡ number v → (k / 16384 ≡ worth v) × (k % 8192 / 2 ≡ v)
  unfolding value_by
  read_back v k l o b e =
      let q = places k (far_in p S v + far_in p v D) (det_of (is_clear p Adaptive S v) + det_of (is_clear p Adaptive v D)) v (det_of (is_clear p Adaptive S v)) (e ∙ both_clear v o b) (node_small (shape_of p) ok v l) (omega (arith, det_of_low (is_clear p Adaptive S v))) in
      (q.worth, q.via)

  number_flat : (v : ℕ) → is_clear p Deterministic S v ≡ true → is_clear p Deterministic v D ≡ true → number v ≡ 16384 * worth v + (8192 + (v * 2 + det_of (is_clear p Adaptive S v)))
  unfolding value_by
  number_flat v o b = omega (arith, both_clear v o b)

  worth_small : (v : ℕ) → v < node_count (shape_of p) → worth v ≤ 2882
  unfolding value_by
  worth_small v l =
      omega (arith, F.most S v g.source.node l, F.most v D l g.target.node, det_of_low (is_clear p Adaptive S v), det_of_low (is_clear p Adaptive v D))

  worth_least : (v : ℕ) → v < node_count (shape_of p) → 4 * far_in p S D ≤ worth v
  unfolding value_by
  worth_least v l = omega (arith, F.triangle S v D g.source.node l g.target.node)

  module _ (k len : ℕ) (el : len ≡ far_in p S D) (best : LeastOf (node_count s) (number_in w s a t fa fd to at) k) where
    -- No via's number is below it.
    each : (v : ℕ) → v < node_count (shape_of p) → k ≤ number v
    each v l = omega (arith, best.each v (omega (arith, count_is)), number_is v l)

    record Of : Type 0 where
      u : ℕ
      below : u < node_count (shape_of p)
      out : is_clear p Deterministic S u ≡ true
      back : is_clear p Deterministic u D ≡ true
      is : k ≡ number u

    of : k < unclear → Of
    of low = ⊎_elim (λ e. absurd (omega arith))
        (λ n.
        let l : n.v < node_count (shape_of p) = omega (arith, n.below, count_is) in
        let is : k ≡ number n.v = n.is ∙ number_is n.v l in
        let c = low_clear n.v (omega arith) in
        record { u = n.v; below = l; out = c.0; back = c.1; is = is })
        best.one

    -- Numbers and notes have the same order.
    not_above : (o : Of) (v : ℕ) → v < node_count (shape_of p) → is_clear p Deterministic S v ≡ true → is_clear p Deterministic v D ≡ true → 4096 * worth o.u + o.u ≤ 4096 * worth v + v
    not_above o v l c d =
        let up = each v l in
        let mine = number_flat o.u o.out o.back in
        let its = number_flat v c d in
        let f = det_of_low (is_clear p Adaptive S o.u) in
        let e = det_of_low (is_clear p Adaptive S v) in
        let small = node_small (shape_of p) ok v l in
        let low = node_small (shape_of p) ok o.u o.below in
        let is = o.is in
        by_order (worth o.u) (worth v) (λ q. omega arith) (λ q. omega arith) (λ q. absurd (omega arith))

    pub least_note : (r : ℕ) → r ≡ note_of k len → NoteTo p S D r
    unfolding note_of
    least_note r e = by_le unclear k
        (λ high.
        let q : r ≡ unclear = rw (e, le-leb unclear k high) refl in
        record {
          real = λ low. absurd (omega arith);
          least = λ v l o b. absurd (omega (arith, each v l, number_flat v o b, worth_small v l, node_small (shape_of p) ok v l, det_of_low (is_clear p Adaptive S v)));
        })
        (λ low.
        let o = of low in
        let back = read_back o.u k o.below o.out o.back o.is in
        let up = worth_least o.u o.below in
        let over : 4 * len ≤ k / 16384 = omega (arith, back.0) in
        let q : r ≡ 4096 * (k / 16384 - 4 * len) + k % 8192 / 2 = rw (e, lt-leb unclear k low, le-ltb (k / 16384) (4 * len) over) refl in
        let is : r + 4096 * (4 * far_in p S D) ≡ 4096 * worth o.u + o.u = omega (arith, back.0, back.1) in
        record {
          real = λ _. record { v = o.u; below = o.below; out = o.out; back = o.back; is = is };
          least = λ v l c d. inl (omega (arith, is, not_above o v l c d));
        })
