-- The lowest via on the shortest ways with clear legs, by two sets of nodes.
use Prim.Native.Nat.{ℕ, ◌+◌, ◌≤◌, ◌<◌}
use native.Mathlib.Omega.{arith}
use mathlib.Core.Path.{◌≡◌, sym, ap, ◌∙◌}
use mathlib.Core.Bool.{true, ◌&&◌, true≢false}
use mathlib.Core.List.{List}
use lib.ListN.{length}
use lib.Dec.{eqb}
use borrow.Author.Tests.{eq-eqb, le-leb}
use Rattle.theory.proofs.Bools.{and_true}
use Rattle.shape.specs.declared.shape.Shape.{Shape}
use Rattle.shape.specs.Shape.{shape_error}
use Rattle.machine.specs.declared.leg.Mode.{Mode}
use Rattle.machine.specs.Number.{node_count, coords_of}
use Rattle.plan.specs.Layout.{shape_of}
use Rattle.plan.specs.Checks.{large, plan_error}
use Rattle.rows.specs.Rows.{in_set, in_product}
use Rattle.search.specs.FirstVia.{has_rows, in_all, is_via, FirstOf}
use Rattle.notes.specs.Known.{FromSet, ToBetween, LowestVia, IsBox}
use Rattle.notes.proofs.Knowing.{shape_ok}

-- ---- the nodes of a product that pass the test
module _ (p : List ℕ) (s : Shape) (bx by bz : ℕ) (fa to : List ℕ) (at : ℕ) (es : s ≡ shape_of p) (h : plan_error large p ≡ 0) (room : at + 256 ≤ length to) where
  -- A node passes exactly if it is in the product and in both sets.
  pub record Passes (v : ℕ) : Type 0 where
    pub box : in_product bx by bz (coords_of (shape_of p) v) ≡ true
    pub out : in_set (shape_of p) fa 0 v ≡ true
    pub back : in_set (shape_of p) to at v ≡ true

  pub passes_is : (v : ℕ) → is_via s bx by bz fa to at v ≡ true → Passes v
  unfolding is_via in_all
  passes_is v e =
      let e1 = rw es at e in
      let all = (and_true (eqb (shape_error (shape_of p)) 0 && has_rows (length to) at 256) _ e1).1 in
      let one = and_true (in_product bx by bz (coords_of (shape_of p) v)) _ all in
      let two = and_true (in_set (shape_of p) fa 0 v) _ one.1 in
      record { box = one.0; out = two.0; back = two.1 }

  pub is_passes : (v : ℕ) → Passes v → is_via s bx by bz fa to at v ≡ true
  unfolding is_via in_all has_rows
  is_passes v b = rw (es, eq-eqb (shape_error (shape_of p)) 0 (shape_ok p h), le-leb (at + 256) (length to) room, b.box, b.out, b.back)

-- ---- the first of them
module _ (p : List ℕ) (s : Shape) (m n : Mode) (S D bx by bz : ℕ) (fa to : List ℕ) (at : ℕ) (es : s ≡ shape_of p) (h : plan_error large p ≡ 0) (room : at + 256 ≤ length to)
    (via : ℕ) (first : FirstOf (node_count s) (is_via s bx by bz fa to at) via) where
  count_is : node_count s ≡ node_count (shape_of p)
  count_is = ap node_count es

  -- The product is the box: the nodes that pass are on the shortest ways with two clear legs, and below the first one all such nodes pass.
  pub box_lowest : IsBox p S D bx by bz → FromSet p m S fa → ToBetween p n S D to at → LowestVia p m n S D via
  box_lowest box out back = record {
    found = λ k.
        let f = first.found k in
        let l : via < node_count (shape_of p) = omega (arith, f.0, count_is) in
        let b = passes_is p s bx by bz fa to at es h room via f.1 in
        let sum = (box via l).0 b.box in
        (l, record { out = sym (out via l) ∙ b.out; back = sym (back via l sum) ∙ b.back; sum = sum });
    before = λ v l k w.
        true≢false
        (sym (is_passes p s bx by bz fa to at es h room v (record { box = (box v l).1 w.sum; out = out v l ∙ w.out; back = back v l w.sum ∙ w.back }))
        ∙ first.before v (omega (arith, count_is)) k);
  }
