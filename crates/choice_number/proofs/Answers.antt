-- A note, and what a second via can reach, read back, is what planning the pair answers.
use Prim.Native.Nat.{ℕ, ◌+◌, ◌-◌, ◌*◌, ◌/◌, ◌%◌, ◌<◌, ◌≤◌}
use native.Mathlib.Omega.{arith}
use mathlib.Core.Path.{◌≡◌, refl, ap, ◌∙◌}
use mathlib.Core.Bool.{Bool, true, false}
use lib.Arith.{digits_div, digits_mod}
use lib.Dec.{eqb}
use borrow.Author.Tests.{le-leb, lt-leb}
use Rattle.theory.specs.Machine.{sum_by}
use Rattle.theory.specs.Clear.{clear}
use Rattle.theory.proofs.Cases.{by_le}
use Rattle.shape.specs.declared.shape.Shape.{Shape}
use Rattle.shape.specs.Shape.{shape_error}
use Rattle.machine.specs.declared.leg.Mode.TheVariants.{Adaptive, Deterministic}
use Rattle.machine.specs.Number.{node_count}
use Rattle.machine.specs.Torus.{leg, torus}
use Rattle.choice.specs.declared.outcome.Outcome.{Outcome}
use Rattle.choice.specs.Choice.{Choice}
use Rattle.choice.specs.Search.{Lengths}
use Rattle.choice.specs.Outcome.{told, told_as}
use Rattle.choice.specs.Pair.{route_by, chosen}
use Rattle.search.specs.Number.{unclear, det_of}
use Rattle.choice_number.specs.Note.{value_by, Note, bound_by, reach_by}
use Rattle.choice_number.specs.Told.{mode_of, one_told, two_told}
use Rattle.choice_number.proofs.ThirdLeg as Third
use Rattle.choice_number.proofs.ThirdLeg.{TwoVias, value, node_small, det_of_low}

-- The mode of the leg whose share of the deterministic legs is left.
left_mode : (a b : Bool) (n : ℕ) → n ≡ det_of a + det_of b → mode_of (eqb n (det_of a)) ≡ mode_of b
left_mode true true n e = rw e refl
left_mode true false n e = rw e refl
left_mode false true n e = rw e refl
left_mode false false n e = rw e refl

middle_mode : (a b c : Bool) (n : ℕ) → n ≡ det_of a + det_of b + det_of c → mode_of (eqb n (det_of a + det_of c)) ≡ mode_of b
middle_mode true true true n e = rw e refl
middle_mode true true false n e = rw e refl
middle_mode true false true n e = rw e refl
middle_mode true false false n e = rw e refl
middle_mode false true true n e = rw e refl
middle_mode false true false n e = rw e refl
middle_mode false false true n e = rw e refl
middle_mode false false false n e = rw e refl

-- The places of a number.
record Places (x len d v : ℕ) : Type 0 where
  via : x % 4096 ≡ v
  dets : x / 4096 % 4 ≡ d
  long : x / 16384 ≡ len

fits : (n m : ℕ) → n ≡ m → m < 65536 → n % 65536 ≡ m
fits n m e l = rw e (mod_small m l)
  where
    mod_small : (m : ℕ) → m < 65536 → m % 65536 ≡ m
    mod_small m l = omega arith

places : (x len dets v : ℕ) → x ≡ 4096 * (4 * len + dets) + v → dets < 4 → v < 4096 → Places x len dets v
places x len dets v e d l =
    let e₁ : x ≡ (len * 4 + dets) * 4096 + v = omega arith in
    let e₂ : x ≡ len * 16384 + (dets * 4096 + v) = omega arith in
    record {
      via = rw e₁ (digits_mod (len * 4 + dets) {m = 4096} {r = v} l);
      dets = rw e₁ (rw (digits_div (len * 4 + dets) {m = 4096} {r = v} l) (digits_mod len {m = 4} {r = dets} d));
      long = rw e₂ (digits_div len {m = 16384} {r = dets * 4096 + v} (omega arith));
    }

module _ (far : ℕ → ℕ → ℕ) (s : Shape) (F : Lengths s far) (h : shape_error s ≡ 0) (sound : ℕ → ℕ → Bool) (S D : ℕ) (h_s : S < node_count s) (h_d : D < node_count s)
    (blocked : clear (torus s) sound (leg D Deterministic) S ≡ false) where
  abbrev answer : Outcome
  answer = told far S (chosen (route_by far s sound S D))

  -- ---- by one via, or by none
  module _ (own : ℕ) (note : Note far (clear (torus s) sound) (node_count s) S D own)
      (above : (u w : ℕ) (c : Choice) → TwoVias far s F h sound S D h_s h_d blocked u w c → bound_by far S D own ≤ 4096 * value far S c) where
    refused : unclear ≤ own → (len : ℕ) (first : Bool) → one_told own len first ≡ answer
    unfolding one_told told
    refused high len first = rw (le-leb unclear own high, Third.by_none far s F h sound S D h_s h_d blocked own note above high) refl

    given : (low : own < unclear) (len : ℕ) → len ≡ far S D → (first : Bool) → first ≡ clear (torus s) sound (leg (own % 4096) Adaptive) S → one_told own len first ≡ answer
    unfolding one_told told told_as sum_by value_by
    given low len el first ef =
        let r = Third.via far s F h sound S D h_s h_d blocked own note above low in
        let v = r.v in
        let small = node_small s h v r.below in
        let up = F.triangle S v D h_s r.below h_d in
        let most1 = F.most S v h_s r.below in
        let most2 = F.most v D r.below h_d in
        let a = clear (torus s) sound (leg v Adaptive) S in
        let b = clear (torus s) sound (leg D Adaptive) v in
        let d1 = det_of_low a in
        let d2 = det_of_low b in
        let is = r.is in
        let over = far S v + far v D - far S D in
        let k = places own over (det_of a + det_of b) v (omega arith) (omega arith) small in
        let ev : own % 4096 ≡ v = k.via in
        let ed : own / 4096 % 4 ≡ det_of a + det_of b = k.dets in
        let en : (len + own / 16384) % 65536 ≡ far S v + (far v D + 0) = fits (len + own / 16384) (far S v + (far v D + 0)) (omega (arith, k.long)) (omega arith) in
        let ea : first ≡ a = ef ∙ ap (λ x. clear (torus s) sound (leg x Adaptive) S) ev in
        rw (lt-leb unclear own low, Third.by_one far s F h sound S D h_s h_d blocked own note above low, ea, ev, en, left_mode a b (own / 4096 % 4) ed) refl

    pub one_answer : (len : ℕ) → len ≡ far S D → (first : Bool) → (own < unclear → first ≡ clear (torus s) sound (leg (own % 4096) Adaptive) S) → one_told own len first ≡ answer
    one_answer len el first ef = by_le unclear own (λ high. refused high len first) (λ low. given low len el first (ef low))

  -- ---- by two vias
  module _ (notes : ℕ → ℕ) (noted : (w : ℕ) → w < node_count s → Note far (clear (torus s) sound) (node_count s) S w (notes w)) (w : ℕ) (lw : w < node_count s)
      (better : reach_by far (clear (torus s) sound) S D (notes w) w < bound_by far S D (notes D))
      (each : (x : ℕ) → x < node_count s → reach_by far (clear (torus s) sound) S D (notes x) x < bound_by far S D (notes D) → reach_by far (clear (torus s) sound) S D (notes w) w ≤ reach_by far (clear (torus s) sound) S D (notes x) x)
      (first : (x : ℕ) → x < w → reach_by far (clear (torus s) sound) S D (notes x) x < bound_by far S D (notes D) → reach_by far (clear (torus s) sound) S D (notes w) w < reach_by far (clear (torus s) sound) S D (notes x) x) where
    pub two_answer :
        (x : ℕ) → x ≡ reach_by far (clear (torus s) sound) S D (notes w) w → (one three : Bool) → one ≡ clear (torus s) sound (leg (x % 4096) Adaptive) S → three ≡ clear (torus s) sound (leg D Adaptive) w → two_told x w one three ≡ answer
    unfolding two_told told told_as sum_by value_by
    two_answer x ex one three e1 e3 =
        let r = Third.reached far s F h sound S D h_s h_d blocked notes noted w lw better each first in
        let v = r.v in
        let small = node_small s h v r.below in
        let most1 = F.most S v h_s r.below in
        let most2 = F.most v w r.below lw in
        let most3 = F.most w D lw h_d in
        let a = clear (torus s) sound (leg v Adaptive) S in
        let b = clear (torus s) sound (leg w Adaptive) v in
        let c = clear (torus s) sound (leg D Adaptive) w in
        let d1 = det_of_low a in
        let d2 = det_of_low b in
        let d3 = det_of_low c in
        let is = ex ∙ r.number in
        let k = places x (far S v + far v w + far w D) (det_of a + det_of b + det_of c) v (omega arith) (omega arith) small in
        let ev : x % 4096 ≡ v = k.via in
        let ed : x / 4096 % 4 ≡ det_of a + det_of b + det_of c = k.dets in
        let en : x / 16384 % 65536 ≡ far S v + (far v w + (far w D + 0)) = fits (x / 16384) (far S v + (far v w + (far w D + 0))) (omega (arith, k.long)) (omega arith) in
        let ea : one ≡ a = e1 ∙ ap (λ x. clear (torus s) sound (leg x Adaptive) S) ev in
        rw (Third.by_two far s F h sound S D h_s h_d blocked notes noted w lw better each first, ea, e3, ev, en, middle_mode a b c (x / 4096 % 4) ed) refl
