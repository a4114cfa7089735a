-- The last step: what each node as second via can reach, against the best via by itself, gives the route.
use Prim.Native.Nat.{ℕ, ◌+◌, ◌*◌, ◌%◌, ◌≤◌, ◌<◌}
use native.Mathlib.Omega.{arith}
use mathlib.Core.Path.{◌≡◌, refl, ap, ◌∙◌}
use mathlib.Core.Bool.{Bool, true}
use mathlib.Core.List.{List}
use lib.ListN.{length, get_or, replicate}
use borrow.Author.Tests.{lt-ltb}
use Rattle.theory.specs.Clear.{clear}
use Rattle.theory.proofs.Cases.{by_le}
use Rattle.shape.specs.declared.shape.Shape.{Shape}
use Rattle.shape.specs.declared.shape.Coords.{Coords}
use Rattle.shape.specs.Shape.{shape_error}
use Rattle.machine.specs.declared.leg.Mode.TheVariants.{Adaptive, Deterministic}
use Rattle.machine.specs.Number.{node_count, coords_of}
use Rattle.machine.specs.Torus.{torus}
use Rattle.machine.proofs.Numbers.{inside}
use Rattle.weights.specs.declared.weights.Weights.{Weights}
use Rattle.weights.proofs.ByCoords.{distance_at_law}
use Rattle.plan.specs.Layout.{shape_of, weights_of}
use Rattle.plan.specs.Checks.{large, plan_error}
use Rattle.choice.specs.declared.outcome.Outcome.{Outcome}
use Rattle.choice.specs.Pair.{sound_in, far_in}
use Rattle.choice.specs.Search.{Lengths}
use Rattle.choice.proofs.AtTorus.{far_lengths}
use Rattle.search.specs.Number.{unclear}
use Rattle.rows.specs.Rows.{in_product}
use Rattle.search.specs.FirstVia.{is_via}
use Rattle.search.specs.Near.{NearWays}
use Rattle.search.proofs.OfNodes.{askable_at}
use Rattle.second_via.specs.Least.{LeastAt}
use Rattle.second_via.specs.Reach.{reaches, reach_in}
use Rattle.choice_number.specs.Note.{reach_by, bound_of, over_of, bound_by}
use Rattle.choice_number.specs.Told.{one_told, two_told}
use Rattle.choice_number.proofs.ThirdLeg as Third
use Rattle.choice_number.proofs.Answers.{one_answer, two_answer}
use Rattle.notes.specs.Known.{is_clear, NoteTo}
use Rattle.notes.proofs.Knowing.{weights_ok, shape_ok}
use Rattle.notes.proofs.OnWays.{passes_is, is_passes}
use Rattle.first_clear.specs.Known.{route_told, Reaching}
use Rattle.first_clear.proofs.Twos.{in_every}

low_place : (x k v : ℕ) → x ≡ 4096 * k + v → v < 4096 → x % 4096 ≡ v
low_place x k v e l = omega arith

-- The via of a note is a node.
pub note_via : (p : List ℕ) (S D note : ℕ) → plan_error large p ≡ 0 → NoteTo p S D note → note < unclear → note % 4096 < node_count (shape_of p)
note_via p S D note h own low =
    let r = own.real low in
    let e : note % 4096 ≡ r.v = omega (arith, r.is, Third.node_small (shape_of p) (shape_ok p h) r.v r.below) in
    omega (arith, r.below)

module _ (p : List ℕ) (w : Weights) (s : Shape) (S D len : ℕ) (a t : Coords) (bx by bz : ℕ) (fa : List ℕ) (note : ℕ) (to : List ℕ) (at : ℕ) (notes : List ℕ)
    (g : Reaching p w s S D len a t bx by bz fa note to at notes) where
  ok : shape_error (shape_of p) ≡ 0
  ok = shape_ok p g.apart.plan

  F : Lengths (shape_of p) (far_in p)
  F = far_lengths large p g.apart.plan

  h_s : S < node_count (shape_of p)
  h_s = g.apart.source

  h_d : D < node_count (shape_of p)
  h_d = g.apart.target

  count_is : node_count s ≡ node_count (shape_of p)
  count_is = ap node_count g.apart.shape

  abbrev every : List ℕ
  every = replicate 256 65535

  abbrev note_at : ℕ → ℕ
  note_at x = get_or notes x 0

  abbrev reach : ℕ → ℕ
  reach x = reach_by (far_in p) (clear (torus (shape_of p)) (sound_in p)) S D (note_at x) x

  abbrev inside_it : ℕ → Type 0
  inside_it x = in_product bx by bz (coords_of (shape_of p) x) ≡ true

  -- The element of a node of the product.
  reach_is : (x : ℕ) → x < node_count (shape_of p) → inside_it x → reach_in w s a t bx by bz notes to at x ≡ reach x
  unfolding reach_in reaches reach_by
  reach_is x l i =
      rw (g.weights, g.apart.shape, g.source.at, g.target.at)
      (rw (
        askable_at (weights_of p) (weights_ok p g.apart.plan) (shape_of p) ok S D h_s h_d (length to) at g.both.room,
        lt-ltb x (node_count (shape_of p)) l,
        i,
        g.both.deterministic x l i,
        g.both.adaptive x l i,
        distance_at_law (weights_of p) (shape_of p) S x,
        distance_at_law (weights_of p) (shape_of p) x D,
      ) refl)

  pub own_note : NoteTo p S D note
  own_note = rw g.own (g.noted D h_d)

  bound_is : bound_of note len ≡ bound_by (far_in p) S D (note_at D)
  bound_is = ap (λ x. bound_of x len) g.own ∙ ap (bound_of (note_at D)) g.apart.distance

  -- A node below the bound is in the product, and has a clear leg to D.
  bound_low : bound_by (far_in p) S D (note_at D) ≤ unclear
  bound_low = Third.bound_most (far_in p) (shape_of p) F ok (sound_in p) S D h_s h_d g.blocked (note_at D) (g.noted D h_d)

  here : NearWays (weights_of p) (shape_of p) (coords_of (shape_of p) S) (coords_of (shape_of p) D) (over_of (note_at D)) bx by bz
  here = rw (g.weights, g.apart.shape, g.source.at, g.target.at, g.own) at g.near

  within : (x : ℕ) → x < node_count (shape_of p) → reach x < bound_by (far_in p) S D (note_at D) → inside_it x
  within x l low = here.each (coords_of (shape_of p) x) (inside (shape_of p) ok x l)
      (rw (distance_at_law (weights_of p) (shape_of p) S x, distance_at_law (weights_of p) (shape_of p) x D, distance_at_law (weights_of p) (shape_of p) S D)
      (Third.reach_near (far_in p) (clear (torus (shape_of p)) (sound_in p)) S D (note_at x) x (note_at D) bound_low low))

  back_clear : (x : ℕ) → x < node_count (shape_of p) → reach x < bound_by (far_in p) S D (note_at D) → is_clear p Deterministic x D ≡ true
  back_clear x l low = (Third.reach_low (far_in p) (clear (torus (shape_of p)) (sound_in p)) S D (note_at x) x (omega (arith, bound_low))).0

  module _ (reached : List ℕ) (are : (x : ℕ) → x < 4096 → get_or reached x 0 ≡ reach_in w s a t bx by bz notes to at x) (bound : ℕ) (eb : bound ≡ bound_of note len)
      (second : ℕ) (least : LeastAt (node_count s) (is_via s bx by bz every to (at + 256)) reached bound second) where
    element : (x : ℕ) → x < node_count (shape_of p) → inside_it x → get_or reached x 0 ≡ reach x
    element x l i = are x (Third.node_small (shape_of p) ok x l) ∙ reach_is x l i

    bound_here : bound ≡ bound_by (far_in p) S D (note_at D)
    bound_here = eb ∙ bound_is

    passing : (x : ℕ) → x < node_count (shape_of p) → reach x < bound_by (far_in p) S D (note_at D) → is_via s bx by bz every to (at + 256) x ≡ true
    passing x l low =
        is_passes p s bx by bz every to (at + 256) g.apart.shape g.apart.plan (omega (arith, g.both.room)) x
        (record { box = within x l low; out = in_every (shape_of p) ok x l; back = g.both.deterministic x l (within x l low) ∙ back_clear x l low })

    module _ (found : second < 4096) where
      pub node_here : second < node_count (shape_of p)
      node_here = omega (arith, (least.found found).0, count_is)

      pub second_inside : inside_it second
      second_inside = (passes_is p s bx by bz every to (at + 256) g.apart.shape g.apart.plan (omega (arith, g.both.room)) second (least.found found).1).box

      second_is : get_or reached second 0 ≡ reach second
      second_is = element second node_here second_inside

      better : reach second < bound_by (far_in p) S D (note_at D)
      better = omega (arith, second_is, (least.found found).2, bound_here)

      each_here : (x : ℕ) → x < node_count (shape_of p) → reach x < bound_by (far_in p) S D (note_at D) → reach second ≤ reach x
      each_here x l low = omega (arith, element x l (within x l low), second_is, (least.each x (omega (arith, count_is)) (passing x l low) (omega (arith, element x l (within x l low), bound_here))).1)

      first_here : (x : ℕ) → x < second → reach x < bound_by (far_in p) S D (note_at D) → reach second < reach x
      first_here x q low = let l : x < node_count (shape_of p) = omega (arith, node_here) in omega (arith, element x l (within x l low), second_is, least.first x (omega (arith, count_is)) q found (passing x l low))

      pub by_second : (first third : Bool) → first ≡ is_clear p Adaptive S (get_or reached second 0 % 4096) → third ≡ is_clear p Adaptive second D → (r : Outcome) → r ≡ two_told (get_or reached second 0) second first third → r ≡ route_told p S D
      by_second first third e1 e3 r er =
          er ∙ two_answer (far_in p) (shape_of p) F ok (sound_in p) S D h_s h_d g.blocked note_at g.noted second node_here better each_here first_here
          (get_or reached second 0) second_is first third e1 e3

      pub via_known : get_or reached second 0 % 4096 < node_count (shape_of p)
      via_known =
          let r = Third.reached (far_in p) (shape_of p) F ok (sound_in p) S D h_s h_d g.blocked note_at g.noted second node_here better each_here first_here in
          let e : get_or reached second 0 % 4096 ≡ r.v = low_place (get_or reached second 0) _ r.v (second_is ∙ r.number) (Third.node_small (shape_of p) ok r.v r.below) in
          omega (arith, r.below)

    module _ (none : 4096 ≤ second) where
      none_better : (x : ℕ) → x < node_count (shape_of p) → bound_by (far_in p) S D (note_at D) ≤ reach x
      none_better x l = by_le (bound_by (far_in p) S D (note_at D)) (reach x) (λ k. k)
          (λ low. absurd (omega (arith, (least.each x (omega (arith, count_is)) (passing x l low) (omega (arith, element x l (within x l low), bound_here))).0)))

      pub by_first : (first : Bool) → (note < unclear → first ≡ is_clear p Adaptive S (note % 4096)) → (r : Outcome) → r ≡ one_told note len first → r ≡ route_told p S D
      by_first first ef r er =
          er ∙ ap (λ x. one_told x len first) g.own
          ∙ one_answer (far_in p) (shape_of p) F ok (sound_in p) S D h_s h_d g.blocked (note_at D) (g.noted D h_d)
          (Third.above_two (far_in p) (shape_of p) F ok (sound_in p) S D h_s h_d g.blocked note_at g.noted none_better)
          len g.apart.distance first (λ low. ef (omega (arith, g.own)) ∙ ap (λ x. is_clear p Adaptive S (x % 4096)) g.own)
