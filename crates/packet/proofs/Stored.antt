-- The stored packet: its route in the array, its checks, and that it meets the laws of marked packets on the torus or mesh of every accepted shape.
use Prim.Native.Nat.{ℕ, zero, suc, ◌+◌, ◌≤◌, ◌<◌}
use native.Mathlib.Omega.{arith}
use mathlib.Core.Path.{◌≡◌, refl, ap, ◌∙◌}
use mathlib.Core.Bool.{false}
use mathlib.Core.List.{List, [], ◌∷◌}
use lib.ListN.{length, drop, get_or}
use lib.Dec.{ltb, leb}
use borrow.Author.Tests.{le-ltb, lt-leb, ltb-false, leb-false}
use Rattle.numbers.specs.Numbers.{wrong_packet}
use Rattle.theory.specs.Checks.{declined}
use Rattle.theory.specs.Machine.{Inside}
use Rattle.theory.specs.Marks.{MarkLaws, CheckLaws}
use Rattle.theory.proofs.Bools.{or_false}
use Rattle.theory.proofs.Checks.{then_zero, declined_zero}
use Rattle.theory.proofs.Marks.{leg_below}
use Rattle.shape.specs.declared.shape.Shape.{Shape}
use Rattle.machine.specs.declared.leg.Leg.{Leg}
use Rattle.shape.specs.Shape.{shape_error}
use Rattle.machine.specs.Number.{node_count}
use Rattle.machine.specs.Torus.{torus}
use Rattle.packet.specs.declared.packet.Packet.{Packet}
use Rattle.packet.specs.Packet.{most_legs, no_leg, legs_from, route_of, outside, bad_packet, packet_error, kept, WellStored}
use Rattle.packet.specs.Steps.{leg_at, Fine}

-- ---- the route in its array
route_at : (a : List Leg) (k i n : ℕ) → i < n → (ls : List Leg) × (drop i (legs_from a k n) ≡ get_or a (k + i) no_leg ∷ ls)
unfolding legs_from
route_at a k i zero h = absurd (omega arith)
route_at a k zero (suc n) h = let e : k ≡ k + 0 = omega arith in (legs_from a (suc k) n, ap (λ j. get_or a j no_leg ∷ legs_from a (suc k) n) e)
route_at a k (suc i) (suc n) h =
    let rest = route_at a (suc k) i n (omega arith) in
    let e : suc k + i ≡ k + suc i = omega arith in
    (rest.0, rest.1 ∙ ap (λ j. get_or a j no_leg ∷ rest.0) e)

pub route_past : (a : List Leg) (k i n : ℕ) → n ≤ i → drop i (legs_from a k n) ≡ []
unfolding legs_from
route_past a k zero zero h = refl
route_past a k (suc i) zero h = refl
route_past a k zero (suc n) h = absurd (omega arith)
route_past a k (suc i) (suc n) h = route_past a (suc k) i n (omega arith)

pub length_route : (a : List Leg) (k n : ℕ) → length (legs_from a k n) ≡ n
unfolding legs_from
length_route a k zero = refl
length_route a k (suc n) = ap suc (length_route a (suc k) n)

-- Leg number i, with the legs behind it.
pub leg_of_law : (q : Packet) (i : ℕ) → i < q.count → (ls : List Leg) × (drop i (route_of q) ≡ leg_at q i ∷ ls)
leg_of_law q i h =
    let w = route_at q.legs 0 i q.count h in
    let e : 0 + i ≡ i = omega arith in
    (w.0, w.1 ∙ ap (λ j. get_or q.legs j no_leg ∷ w.0) e)

pub leg_node : (s : Shape) (q : Packet) (i : ℕ) → Inside (torus s) (route_of q) → i < q.count → (leg_at q i).target < node_count s
leg_node s q i inside h = let w = leg_of_law q i h in leg_below (torus s) (route_of q) i (leg_at q i) w.0 inside w.1

-- ---- 14
inside_none : (s : Shape) (ls : List Leg) → Inside (torus s) ls → outside (node_count s) ls ≡ false
unfolding outside
inside_none s [] i = refl
inside_none s (l ∷ ls) i = rw (lt-leb (node_count s) l.target i.0) (inside_none s ls i.1)

none_inside : (s : Shape) (ls : List Leg) → outside (node_count s) ls ≡ false → Inside (torus s) ls
unfolding outside
none_inside s [] e = tt
none_inside s (l ∷ ls) e =
    let both = or_false (leb (node_count s) l.target) _ e in
    (leb-false _ _ both.0, none_inside s ls both.1)

-- ---- packets that nothing declines
pub fine_error : (s : Shape) (q : Packet) → Fine s q → packet_error s q ≡ 0
unfolding packet_error bad_packet
fine_error s q f =
    rw (f.sound, le-ltb most_legs q.count f.few, le-ltb q.count q.mark f.mark, lt-leb (node_count s) q.source f.source, lt-leb (node_count s) q.node f.node, inside_none s (route_of q) f.route)

pub fine_of : (s : Shape) (q : Packet) → packet_error s q ≡ 0 → Fine s q
unfolding packet_error bad_packet
fine_of s q e =
    let six = then_zero (shape_error s) _ e in
    let bad = declined_zero (bad_packet s q) _ (then_zero (declined (bad_packet s q) wrong_packet) 0 six.1).0 in
    let a = or_false (ltb most_legs q.count) _ bad in
    let b = or_false (ltb q.count q.mark) _ a.1 in
    let c = or_false (leb (node_count s) q.source) _ b.1 in
    let d = or_false (leb (node_count s) q.node) _ c.1 in
    record {
      sound = six.0;
      few = ltb-false _ _ a.0;
      mark = ltb-false _ _ b.0;
      source = leb-false _ _ c.0;
      node = leb-false _ _ d.0;
      route = none_inside s (route_of q) d.1;
    }

-- ---- the laws
pub kept_laws : (s : Shape) → MarkLaws (kept s)
kept_laws s = record {
  source_put = λ q n m. refl;
  route_put = λ q n m. refl;
  node_put = λ q n m. refl;
  mark_put = λ q n m. refl;
  put_put = λ q n m n' m'. refl;
  put_same = λ q. refl;
}

pub check_laws : (s : Shape) → shape_error s ≡ 0 → CheckLaws (torus s) (kept s) WellStored
check_laws s h = record {
  good_put = λ q n m g. g;
  passes = λ q g f. fine_error s q (record { sound = h; few = g; mark = omega (arith, f.mark, length_route q.legs 0 q.count); source = f.source; node = f.node; route = f.route });
  good = λ q e. (fine_of s q e).few;
  formed = λ q e. let f = fine_of s q e in record { source = f.source; node = f.node; route = f.route; mark = omega (arith, f.mark, length_route q.legs 0 q.count) };
}
