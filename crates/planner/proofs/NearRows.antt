-- The losses that can lie on the shortest ways to the destinations of a row.
use Prim.Native.Nat.{ℕ, zero, suc, ◌+◌, ◌*◌, ◌/◌, ◌≤◌, ◌<◌, min}
use native.Mathlib.Omega.{arith}
use mathlib.Core.Path.{◌≡◌, refl, sym, ap, ◌∙◌}
use mathlib.Core.Bool.{Bool, true, false, ◌||◌, true≢false}
use mathlib.Core.List.{List}
use lib.ListN.{length, take, get_or}
use lib.Seq.{get_or-take, length-take-le}
use Rattle.theory.proofs.Bools.{and_true}
use Rattle.theory.proofs.Cases.{test, by_le}
use Rattle.sheet.specs.Bytes.{list_from}
use Rattle.sheet.proofs.Records.{from_at}
use Rattle.shape.specs.declared.shape.Shape.{Shape}
use Rattle.shape.specs.declared.shape.Coords.{Coords}
use Rattle.shape.specs.Shape.{shape_error}
use Rattle.machine.specs.declared.leg.Mode.{Mode}
use Rattle.machine.specs.declared.leg.Mode.TheVariants.{Adaptive, Deterministic}
use Rattle.machine.specs.Number.{node_count, coords_of, Inside}
use Rattle.machine.specs.Hop.{rule, hops}
use Rattle.machine.proofs.Numbers.{inside}
use Rattle.plan.specs.Layout.{shape_of}
use Rattle.rows.specs.Bits.{bit}
use Rattle.rows.specs.Rows.{in_product}
use Rattle.rows.specs.declared.product.Places.{Places}
use Rattle.masks.specs.Span.{box_of}
use Rattle.masks.specs.Masks.{end_at, ends_at, Ended}
use Rattle.losses.specs.Loss.{some_below, loss_meets, on_leg}
use Rattle.losses.proofs.Modes.{more_met}
use Rattle.sets.specs.Sift.{reaches, Sifted}
use Rattle.sets.proofs.Sets.{loss_bit}
use Rattle.sets.proofs.Sifting.{missed}
use Rattle.notes.specs.Known.{OfPlan, IsAt, NearLosses}
use Rattle.planner.specs.Known.{NearRow}
use Rattle.notes.proofs.Knowing.{shape_ok}
use Rattle.notes.proofs.Destination.{is_box, small_at}

-- The masks of two ends in one row are the same in Y and Z.
row_masks : (m : Mode) (from : Bool) (s : Shape) (t u : Coords) → t.y ≡ u.y → t.z ≡ u.z → (i : ℕ) → 96 ≤ i → i < 288 → ends_at m from s t i ≡ ends_at m from s u i
unfolding ends_at end_at
row_masks m from s t u y z i l h =
    by_le 192 i
    (λ g. let d : i / 96 ≡ 2 = omega arith in rw (d, z))
    (λ g. let d : i / 96 ≡ 1 = omega arith in rw (d, y))

in_parts : (bx by bz : ℕ) (c : Coords) → in_product bx by bz c ≡ true → (bit by c.y ≡ true) × (bit bz c.z ≡ true)
unfolding in_product
in_parts bx by bz c h = and_true (bit by c.y) (bit bz c.z) (and_true (bit bx c.x) _ h).1

box_row : (s : Shape) (a t u : Coords) → t.y ≡ u.y → t.z ≡ u.z → ((box_of s a t).y ≡ (box_of s a u).y) × ((box_of s a t).z ≡ (box_of s a u).z)
unfolding box_of
box_row s a t u y z = (rw y, rw z)

module _ (p : List ℕ) (s : Shape) (words : List ℕ) (count : ℕ) (k : OfPlan p s words count) (S : ℕ) (a : Coords) (from : IsAt p S a) where
  ok : shape_error (shape_of p) ≡ 0
  ok = shape_ok p k.plan

  -- The losses sifted for the row of t.
  module _ (D : ℕ) (t : Coords) (to : IsAt p D t) (masks : List ℕ) (full : Ended Adaptive false s t masks) (b : Places) (eb : b ≡ box_of s a t) (old kept : List ℕ) (found : ℕ) (long : length old ≡ 256)
      (sifted : Sifted b.y b.z masks words (min count 256) old kept found) where
    module _ (E : ℕ) (l : E < node_count (shape_of p)) (y : (coords_of (shape_of p) E).y ≡ t.y) (z : (coords_of (shape_of p) E).z ≡ t.z) where
      abbrev e : Coords
      e = coords_of (shape_of p) E

      ie : Inside (shape_of p) e
      ie = inside (shape_of p) ok E l

      abbrev others : List ℕ
      others = list_from (ends_at Adaptive false (shape_of p) e) 0 288

      ended : Ended Adaptive false (shape_of p) e others
      ended i h = from_at (ends_at Adaptive false (shape_of p) e) 288 0 i 0 h ∙ ap (ends_at Adaptive false (shape_of p) e) (omega arith)

      agree : (i : ℕ) → 96 ≤ i → i < 288 → get_or others i 0 ≡ get_or masks i 0
      agree i g h = ended i h ∙ row_masks Adaptive false (shape_of p) e t y z i g h ∙ sym (full i h ∙ ap (λ (q : Shape). ends_at Adaptive false q t i) k.shape)

      -- A loss that is left out lies on no leg to E, in either mode.
      module _ (v : ℕ) (h : v < node_count (shape_of p)) (w : hops (shape_of p) S v + hops (shape_of p) v E ≡ hops (shape_of p) S E) where
        abbrev c : Coords
        c = coords_of (shape_of p) v

        ic : Inside (shape_of p) c
        ic = inside (shape_of p) ok v h

        at_row : (bit b.y c.y ≡ true) × (bit b.z c.z ≡ true)
        at_row =
            let parts = in_parts _ _ _ c ((is_box p s S E a e k.plan k.shape from (record { node = l; at = refl }) (box_of s a e) refl v h).1 w) in
            let same = box_row s a e t y z in (
              ap (λ (q : Places). bit q.y c.y) eb ∙ ap (λ (q : ℕ). bit q c.y) (sym same.0) ∙ parts.0,
              ap (λ (q : Places). bit q.z c.z) eb ∙ ap (λ (q : ℕ). bit q c.z) (sym same.1) ∙ parts.1,
            )

        adaptive_missed : (x : ℕ) → reaches b.y b.z masks x ≡ false → loss_meets rule Adaptive (shape_of p) x c e ≡ false
        adaptive_missed x left = sym (loss_bit Adaptive false (shape_of p) ok e ie others ended c ic x) ∙ missed b.y b.z masks others agree c at_row.0 at_row.1 x left

        loss_missed : (m : Mode) (x : ℕ) → reaches b.y b.z masks x ≡ false → loss_meets rule m (shape_of p) x c e ≡ false
        loss_missed Adaptive x r = adaptive_missed x r
        loss_missed Deterministic x r =
            test (loss_meets rule Deterministic (shape_of p) x c e)
            (λ met. absurd (true≢false (sym (more_met rule (shape_of p) c e ic ie x met) ∙ adaptive_missed x r)))
            (λ met. met)

        same_losses : (m : Mode) → on_leg rule m (shape_of p) kept found c e ≡ on_leg rule m (shape_of p) words count c e
        unfolding on_leg
        same_losses m =
            let few : min count 256 ≡ count = omega (arith, k.losses.few) in
            sifted.same long (λ x. loss_meets rule m (shape_of p) x c e) (loss_missed m) ∙ rw few

      row_near : NearLosses p S E words count kept found
      row_near = record { few = omega (arith, sifted.few); same = λ m v h w. same_losses v h w m }

    pub sifted_row : (work : List ℕ) → NearRow p work S words count kept found (t.y + 16 * t.z)
    sifted_row work = record {
      few = omega (arith, sifted.few, k.losses.few);
      each = λ none E l e.
          let at = small_at p D t k.plan to in
          let there = small_at p E _ k.plan (record { node = l; at = refl }) in
          row_near E l (omega (arith, e, at.1, there.1)) (omega (arith, e, at.1, there.1));
    }

-- With sets to all nodes no losses are needed.
pub none_near : (p work : List ℕ) (S : ℕ) (words : List ℕ) (count : ℕ) (near : List ℕ) (row : ℕ) → (length work ≡ 0 → ⊥) → NearRow p work S words count near 0 row
none_near p work S words count near row ne = record { few = omega arith; each = λ z. absurd (ne z) }

-- The same of a slice of just these losses.
below_same : (n : ℕ) (f g : ℕ → Bool) → ((i : ℕ) → i < n → f i ≡ g i) → some_below n f ≡ some_below n g
unfolding some_below
below_same zero f g e = refl
below_same (suc n) f g e = ap (λ x. x || some_below n f) (e n (omega arith)) ∙ ap (λ x. g n || x) (below_same n f g (λ i l. e i (omega arith)))

module _ (p work : List ℕ) (S : ℕ) (words : List ℕ) (count : ℕ) (near : List ℕ) (n row : ℕ) where
  pub row_taken : n ≤ length near → NearRow p work S words count near n row → NearRow p work S words count (take n near) (length (take n near)) row
  unfolding on_leg
  row_taken room g =
      let long : length (take n near) ≡ n = length-take-le n near room in
      rw long (record {
        few = g.few;
        each = λ none D l e.
            let at = g.each none D l e in
            record {
              few = at.few;
              same = λ m v h w. below_same n _ _ (λ i b. ap (λ x. loss_meets rule m (shape_of p) x (coords_of (shape_of p) v) (coords_of (shape_of p) D)) (get_or-take n near i 0 b)) ∙ at.same m v h w;
            };
      })

  pub near_row_law : NearRow p work S words count near n row → (D : ℕ) (t : Coords) → IsAt p D t → t.y + 16 * t.z ≡ row → length work ≡ 0 → NearLosses p S D words count near n
  near_row_law g D t to e z = g.each z D to.node (ap (λ (c : Coords). c.y + 16 * c.z) (sym to.at) ∙ e)
