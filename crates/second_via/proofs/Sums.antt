-- The sums of all planes are what each node reaches.
use Prim.Native.Nat.{ℕ, ◌+◌, ◌*◌, ◌≤◌, ◌<◌}
use native.Mathlib.Omega.{arith}
use mathlib.Core.Path.{◌≡◌, refl, sym, ◌∙◌}
use mathlib.Core.Logic.{⊎_elim}
use mathlib.Core.Bool.{Bool, true, false}
use mathlib.Core.List.{List}
use lib.Bits.{bit_and}
use lib.Dec.{ltb}
use lib.ListN.{length, get_or, replicate, get_or-replicate}
use borrow.Author.Tests.{lt-ltb, le-ltb, ltb-true}
use Rattle.theory.proofs.Bools.{and_true}
use Rattle.theory.proofs.Cases.{test}
use Rattle.shape.specs.declared.shape.Shape.{Shape}
use Rattle.shape.specs.declared.shape.Coords.{Coords}
use Rattle.shape.specs.declared.axis.Axis.{Axis}
use Rattle.shape.specs.declared.shape.Dim.TheVariants.{X, Y, Z}
use Rattle.shape.specs.Shape.{shape_error, wrapped_in, axis_of}
use Rattle.shape.proofs.Shapes.{sound}
use Rattle.machine.specs.Number.{node_count, number_of, coords_of, Inside}
use Rattle.machine.proofs.Numbers.{number_below, coords_number, inside}
use Rattle.weights.specs.declared.weights.Weights.{Weights}
use Rattle.weights.specs.Steps.{distance_at}
use Rattle.weights.proofs.Good.{good}
use Rattle.rows.specs.Bits.{bit}
use Rattle.rows.specs.Rows.{in_set, in_product}
use Rattle.rows.proofs.Bits.{bit_and_law}
use Rattle.search.specs.BestVia.{askable}
use Rattle.search.specs.Number.{unclear, det_of}
use Rattle.search.specs.PartOf.{PartsOf}
use Rattle.search.proofs.AllVias.{asks, parts_asked, length_parts}
use Rattle.search.proofs.Seeking.{clash, in_run}
use Rattle.second_via.specs.Nodes.{sum_of, Stored, RowSums, SpaceSums}
use Rattle.second_via.specs.Reach.{reaches, reach_in}
use Rattle.second_via.proofs.Going.{all_at}
use Rattle.second_via.proofs.Keys.{row_number_law, row_node}

-- With the number of the row's first node as the code has it.
pub sums_at :
    (len word adaptive first start : ℕ) (notes xs : List ℕ) (part : ℕ) (old new : List ℕ) → first ≡ start →
    Stored old new (RowSums len word adaptive first notes xs part) → Stored old new (RowSums len word adaptive start notes xs part)
sums_at len word adaptive first start notes xs part old new e w = rw e at w

pub no_sum : (note len : ℕ) (adaptive : Bool) → unclear ≤ note → unclear ≡ sum_of note len adaptive
unfolding sum_of
no_sum note len adaptive l = rw (le-ltb note unclear l)

pub a_sum : (note len : ℕ) (adaptive : Bool) (mode : ℕ) → note < unclear → mode ≡ det_of adaptive → note + 4096 * (4 * len + mode) ≡ sum_of note len adaptive
unfolding sum_of
a_sum note len adaptive mode l e = rw (lt-ltb note unclear l, e)

-- An array that is `unclear` throughout.
pub all_unclear : (w : ℕ) → w < 4096 → get_or (replicate 4096 unclear) w 0 ≡ unclear
all_unclear w l = get_or-replicate 4096 w unclear 0 l

-- What is not asked.
pub not_asked :
    (k : Weights) (s : Shape) (A T : Coords) (bx by bz : ℕ) (notes to : List ℕ) (at : ℕ) → askable k s A T (length to) at ≡ false →
    (w : ℕ) → unclear ≡ reach_in k s A T bx by bz notes to at w
unfolding reach_in reaches
not_asked k s A T bx by bz notes to at e w = rw e

pub unreached :
    (k : Weights) (s : Shape) (A T : Coords) (bx by bz : ℕ) (notes to : List ℕ) (at : ℕ) → askable k s A T (length to) at ≡ false →
    (w : ℕ) → w < 4096 → get_or (replicate 4096 unclear) w 0 ≡ reach_in k s A T bx by bz notes to at w
unreached k s A T bx by bz notes to at e w l = all_unclear w l ∙ not_asked k s A T bx by bz notes to at e w

module _
    (k : Weights) (s : Shape) (A T : Coords) (bx by bz : ℕ) (notes to : List ℕ) (at : ℕ) (ask : askable k s A T (length to) at ≡ true) (xs ys zs : List ℕ)
    (wx : PartsOf k.x s.x (wrapped_in s X) A.x T.x xs) (wy : PartsOf k.y s.y (wrapped_in s Y) A.y T.y ys) (wz : PartsOf k.z s.z (wrapped_in s Z) A.z T.z zs) where
  h : shape_error s ≡ 0
  h = (asks k s A T (length to) at ask).sound

  length_is_law : (c : Coords) → Inside s c → distance_at k s A c + distance_at k s c T ≡ get_or zs c.z 0 + get_or ys c.y 0 + get_or xs c.x 0
  length_is_law c i = length_parts k s A T c ∙ rw (wx.each c.x i.x, wy.each c.y i.y, wz.each c.z i.z)

  -- What node w has.
  abbrev sum_at : ℕ → ℕ
  sum_at w = sum_of (get_or notes w 0) (distance_at k s A (coords_of s w) + distance_at k s (coords_of s w) T) (in_set s to at w)

  record Meets (w n : ℕ) : Type 0 where
    below : ltb w (node_count s) ≡ true
    box : in_product bx by bz (coords_of s w) ≡ true
    leg : in_set s to (at + 256) w ≡ true
    sum : n ≡ sum_at w

  reach_is : (w n : ℕ) → Meets w n → n ≡ reach_in k s A T bx by bz notes to at w
  unfolding reach_in reaches sum_of
  reach_is w n m = m.sum ∙ rw (ask, m.below, m.box, m.leg)

  meets : (c : Coords) → Inside s c → (n : ℕ) → bit bz c.z ≡ true → bit by c.y ≡ true → bit (bit_and bx (get_or to (at + (16 * c.z + c.y) + 256) 0)) c.x ≡ true →
      n ≡ sum_of (get_or notes (number_of s c) 0) (get_or zs c.z 0 + get_or ys c.y 0 + get_or xs c.x 0) (bit (get_or to (at + (16 * c.z + c.y)) 0) c.x) → Meets (number_of s c) n
  unfolding in_set in_product
  meets c i n ez ey ex f =
      let b = and_true (bit bx c.x) _ (sym (bit_and_law bx (get_or to (at + (16 * c.z + c.y) + 256) 0) c.x) ∙ ex) in
      record {
        below = lt-ltb (number_of s c) (node_count s) (number_below s h c i);
        box = rw (coords_number s h c i, b.0, ey, ez);
        leg = rw (coords_number s h c i) (in_run to (at + 256) (at + (16 * c.z + c.y) + 256) c (omega arith) ∙ b.1);
        sum = rw (coords_number s h c i, length_is_law c i, in_run to at (at + (16 * c.z + c.y)) c refl) f;
      }

  there : (w n : ℕ) → SpaceSums s xs ys zs bx by bz notes to at (record { node = w; value = n }) → Meets w n
  there w n p =
      let row = p.has.has in
      let c : Coords = record { x = row.i; y = p.has.i; z = p.i } in
      let e : w ≡ number_of s c = row.has.at ∙ row_number_law s c in
      rw e (meets c (record { x = row.inside; y = p.has.inside; z = p.inside }) n p.is p.has.is row.is (row.has.sum ∙ rw (row_number_law s c)))

  here : (w : ℕ) → ltb w (node_count s) ≡ true → in_product bx by bz (coords_of s w) ≡ true → in_set s to (at + 256) w ≡ true →
      SpaceSums s xs ys zs bx by bz notes to at (record { node = w; value = sum_at w })
  unfolding in_set in_product
  here w l a b =
      let px = and_true (bit bx (coords_of s w).x) _ a in
      let py = and_true (bit by (coords_of s w).y) _ px.1 in
      let i = inside s h w (ltb-true w (node_count s) l) in
      let e = row_node s h w in
      all_at _ _ _ _ _ i.z py.1
      (all_at _ _ _ _ _ i.y py.0
      (all_at _ _ _ _ _ i.x
      (bit_and_law bx (get_or to (at + (16 * (coords_of s w).z + (coords_of s w).y) + 256) 0) (coords_of s w).x
      ∙ rw (px.0, ← in_run to (at + 256) (at + (16 * (coords_of s w).z + (coords_of s w).y) + 256) (coords_of s w) (omega arith), b))
      (record { at = sym e; sum = rw (e, length_is_law (coords_of s w) i, in_run to at (at + (16 * (coords_of s w).z + (coords_of s w).y)) (coords_of s w) refl) })))

  -- The array that was `unclear` throughout.
  module _ (old new : List ℕ) (stored : Stored old new (SpaceSums s xs ys zs bx by bz notes to at)) (long : length old ≡ 4096) (empty : (w : ℕ) → w < 4096 → get_or old w 0 ≡ unclear) where
    outside : (w : ℕ) → w < 4096 → unclear ≡ reach_in k s A T bx by bz notes to at w → ((n : ℕ) → Meets w n → ⊥) → get_or new w 0 ≡ reach_in k s A T bx by bz notes to at w
    outside w l e not-met = ⊎_elim (λ q. q ∙ empty w l ∙ e) (λ p. absurd (not-met _ (there w _ p))) (stored.other w (omega (arith, long)))

    pub all_reached : (w : ℕ) → w < 4096 → get_or new w 0 ≡ reach_in k s A T bx by bz notes to at w
    unfolding reach_in reaches
    all_reached w l =
        test (ltb w (node_count s))
        (λ a. test (in_product bx by bz (coords_of s w))
        (λ b. test (in_set s to (at + 256) w)
        (λ d. reach_is w _ (there w _ (stored.each w _ (omega (arith, long)) (here w a b d))))
        (λ d. outside w l (rw (ask, a, b, d)) (λ n m. clash _ m.leg d)))
        (λ b. outside w l (rw (ask, a, b)) (λ n m. clash _ m.box b)))
        (λ a. outside w l (rw (ask, a)) (λ n m. clash _ m.below a))

-- With the dimensions as the code has them.
pub reached :
    (k : Weights) (s : Shape) (A T : Coords) (bx by bz : ℕ) (notes to : List ℕ) (at : ℕ) → askable k s A T (length to) at ≡ true → (xs ys zs : List ℕ) (a b c : Axis) →
    a ≡ axis_of s X → b ≡ axis_of s Y → c ≡ axis_of s Z →
    (k.x ≤ 8 → a.len ≤ 16 → A.x < a.len → T.x < a.len → PartsOf k.x a.len a.ring A.x T.x xs) →
    (k.y ≤ 8 → b.len ≤ 16 → A.y < b.len → T.y < b.len → PartsOf k.y b.len b.ring A.y T.y ys) →
    (k.z ≤ 8 → c.len ≤ 16 → A.z < c.len → T.z < c.len → PartsOf k.z c.len c.ring A.z T.z zs) →
    (old new : List ℕ) → Stored old new (SpaceSums s xs ys zs bx by bz notes to at) → length old ≡ 4096 → ((w : ℕ) → w < 4096 → get_or old w 0 ≡ unclear) →
    (w : ℕ) → w < 4096 → get_or new w 0 ≡ reach_in k s A T bx by bz notes to at w
reached k s A T bx by bz notes to at ask xs ys zs a b c ea eb ec px py pz =
    let q = asks k s A T (length to) at ask in
    all_reached k s A T bx by bz notes to at ask xs ys zs
    (parts_asked k.x s X a A.x T.x xs ea px (good k q.weights X).high (sound s q.sound X).high q.source.x q.target.x)
    (parts_asked k.y s Y b A.y T.y ys eb py (good k q.weights Y).high (sound s q.sound Y).high q.source.y q.target.y)
    (parts_asked k.z s Z c A.z T.z zs ec pz (good k q.weights Z).high (sound s q.sound Z).high q.source.z q.target.z)
