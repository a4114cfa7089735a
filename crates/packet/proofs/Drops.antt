-- Drops as the code makes them, one at a time.
use Prim.Native.Nat.{ℕ, zero, suc, ◌+◌, ◌<◌, ◌≤◌}
use native.Mathlib.Omega.{arith}
use native.Mathlib.Numerals.{add-one}
use mathlib.Core.Path.{◌≡◌, refl, sym, ap, ◌∙◌}
use mathlib.Core.Bool.{Bool, true, false, cond, ◌||◌}
use mathlib.Core.List.{List, [], ◌∷◌}
use lib.ListN.{length, get_or, take, drop}
use lib.Seq.{drop-cons}
use Rattle.std.specs.List.{list_any}
use lib.Dec.{ltb, leb, eqb}
use borrow.Author.Tests.{eqb-true, eqb-false, lt-ltb, le-ltb, ltb-true}
use Rattle.numbers.specs.Numbers.{wrong_packet}
use Rattle.std.specs.Prelude.{Option, Some, None, Ok, Err, MatchOption}
use Rattle.numbers.specs.declared.Refusal.{Refusal}
use Rattle.numbers.specs.Refusals.{number, answer}
use Rattle.numbers.proofs.Refusals.{answer-0, answer-number}
use Rattle.theory.specs.Machine.{dropped, allows}
use Rattle.theory.specs.Marks.{settle, hop}
use Rattle.theory.proofs.Bools.{and_true}
use Rattle.theory.proofs.Cases.{by_le}
use Rattle.theory.proofs.Checks.{declines, then_cond}
use Rattle.theory.proofs.Drops.{Settled, dropped_settled}
use Rattle.theory.proofs.Marks.{drop_settle, settle_within, settle_none, settle_next}
use Rattle.shape.specs.declared.shape.Shape.{Shape}
use Rattle.machine.specs.declared.leg.Leg.{Leg}
use Rattle.shape.specs.Shape.{shape_error}
use Rattle.machine.specs.Number.{node_count}
use Rattle.machine.specs.Hop.{rule}
use Rattle.machine.specs.Torus.{allowed_by, torus}
use Rattle.machine.proofs.ByCoords.{neighbour_below}
use Rattle.packet.specs.declared.packet.Packet.{Packet}
use Rattle.packet.specs.Packet.{most_legs, no_leg, legs_from, route_of, put, outside, bad_packet, packet_error, kept}
use Rattle.packet.specs.Steps.{front_of, front_if, ends_here, settled, Fine, moved}
use Rattle.packet.proofs.Stored.{route_past, length_route, leg_of_law, leg_node}

abbrev tg : Leg → ℕ
tg l = l.target

-- The legs left.
abbrev pub legs_left : Packet → List Leg
legs_left q = drop q.mark (route_of q)

-- ---- the current leg
pub front_none : (q : Packet) → front_if q ≡ None → q.count ≤ q.mark
front_none q e = by_le q.count q.mark (λ h. h) (λ h. let none = rw (lt-ltb q.mark q.count h) at e in absurd (grind arith))

pub front_some : (q : Packet) (l : Leg) → front_if q ≡ Some l → (q.mark < q.count) × (l ≡ front_of q)
front_some q l e =
    by_le q.count q.mark
    (λ h. let some = rw (le-ltb q.mark q.count h) at e in absurd (grind arith))
    (λ h. let some = rw (lt-ltb q.mark q.count h) at e in (h, grind arith))

-- A cause has a number.
pub some_number : (e : Refusal) → number e ≡ 0 → ⊥
some_number e h =
    let same : answer 0 (tt {0}) ≡ Err e = rw (← h) (answer-number e (tt {0})) in
    let done : answer 0 (tt {0}) ≡ Ok (tt {0}) = answer-0 (tt {0}) in
    absurd (grind arith)

-- ---- the packet with the drops stored
abbrev settled_mark : Packet → ℕ
settled_mark q = settle tg (route_of q) q.node q.mark

-- Its legs left are those that are judged.
pub settled_legs : (q : Packet) → legs_left (settled q) ≡ dropped tg q.node (legs_left q)
unfolding settled
settled_legs q = drop_settle tg (route_of q) q.node q.mark

mark_put : (q : Packet) (m : ℕ) → m ≡ q.mark → put q q.node m ≡ q
mark_put q m e = λ i. put q q.node (e i)

-- Where the current leg's target is another node, or no leg is left, nothing is dropped.
pub settled_same : (q : Packet) → q.mark < q.count → ((front_of q).target ≡ q.node → ⊥) → settled q ≡ q
unfolding settled
settled_same q h ne =
    let free : Settled tg q.node (legs_left q) = rw (leg_of_law q q.mark h).1 ne in
    mark_put q (settled_mark q) (settle_none tg (route_of q) q.node q.mark free)

settled_none : (q : Packet) → q.count ≤ q.mark → settled q ≡ q
unfolding settled
settled_none q h =
    let free : Settled tg q.node (legs_left q) = rw (route_past q.legs 0 q.mark q.count h) tt in
    mark_put q (settled_mark q) (settle_none tg (route_of q) q.node q.mark free)

-- ---- the loop of drops
pub record Dropping (from q : Packet) : Type 0 where
  pub few : q.count ≤ most_legs
  pub same : settled q ≡ settled from

pub dropping : (q : Packet) → q.count ≤ most_legs → Dropping q q
dropping q h = record { few = h; same = refl }

pub ends_front : (q : Packet) (o : Option Leg) (r : Bool) → o ≡ front_if q → MatchOption o (r ≡ false) (λ l. r ≡ eqb l.target q.node) → r ≡ ends_here q
unfolding ends_here
ends_front q o r e m =
    by_le q.count q.mark
    (λ h. let none : o ≡ None = e ∙ rw (le-ltb q.mark q.count h) in rw (le-ltb q.mark q.count h) (rw none at m))
    (λ h. let some : o ≡ Some (front_of q) = e ∙ rw (lt-ltb q.mark q.count h) in rw (lt-ltb q.mark q.count h) (rw some at m))

pub record Ends (q : Packet) : Type 0 where
  pub left : q.mark < q.count
  pub here : (front_of q).target ≡ q.node

pub ends_here_law : (q : Packet) → ends_here q ≡ true → Ends q
unfolding ends_here
ends_here_law q e = let b = and_true (ltb q.mark q.count) _ e in record { left = ltb-true _ _ b.0; here = eqb-true _ _ b.1 }

pub dropping_on : (from q : Packet) → Dropping from q → ends_here q ≡ true → Dropping from (put q q.node (q.mark + 1))
unfolding settled
dropping_on from q d e =
    let h = ends_here_law q e in
    let w = leg_of_law q q.mark h.left in
    let next : settle tg (route_of q) q.node q.mark ≡ settle tg (route_of q) q.node (suc q.mark) = settle_next tg (route_of q) q.node q.mark (front_of q) w.0 w.1 h.here in
    record { few = d.few; same = rw add-one (sym (ap (put q q.node) next)) ∙ d.same }

here_none : (q : Packet) → ends_here q ≡ false → settled q ≡ q
unfolding ends_here
here_none q e =
    by_le q.count q.mark
    (λ h. settled_none q h)
    (λ h. settled_same q h (eqb-false (front_of q).target q.node (rw (lt-ltb q.mark q.count h) at e)))

pub dropping_all : (from q : Packet) → Dropping from q → ends_here q ≡ false → q ≡ settled from
dropping_all from q d e = sym (here_none q e) ∙ d.same

-- Dropping again changes nothing.
pub settled_again : (q : Packet) → settled (settled q) ≡ settled q
unfolding settled
settled_again q =
    let free : Settled tg q.node (drop (settled_mark q) (route_of q)) = rw (drop_settle tg (route_of q) q.node q.mark) (dropped_settled tg q.node (legs_left q)) in
    ap (put q q.node) (settle_none tg (route_of q) q.node (settled_mark q) free)

-- ---- packets that nothing declines
pub fine_settled : (s : Shape) (q : Packet) → Fine s q → Fine s (settled q)
unfolding settled
fine_settled s q f = record {
  sound = f.sound;
  few = f.few;
  mark = let n = length_route q.legs 0 q.count in rw n at (settle_within tg (route_of q) q.node q.mark (omega (arith, f.mark, n)));
  source = f.source;
  node = f.node;
  route = f.route;
}

pub fine_moved : (s : Shape) (q : Packet) (d : ℕ) → Fine s q → Fine s (moved s q d)
fine_moved s q d f = record { sound = f.sound; few = f.few; mark = f.mark; source = f.source; node = neighbour_below s f.sound q.node f.node d; route = f.route }

-- The current leg's target is a node.
pub fine_front : (s : Shape) (q : Packet) → Fine s q → q.mark < q.count → (front_of q).target < node_count s
fine_front s q f h = leg_node s q q.mark f.route h

-- What its mode allows; with no leg left, nothing.
pub allows_front : (s : Shape) (q : Packet) (d : ℕ) → q.mark < q.count → allows (torus s) q.node (legs_left q) d ≡ allowed_by rule (front_of q).mode s q.node (front_of q).target d
unfolding allows
allows_front s q d h = rw (leg_of_law q q.mark h).1

pub allows_none : (s : Shape) (q : Packet) (d : ℕ) → q.count ≤ q.mark → allows (torus s) q.node (legs_left q) d ≡ false
unfolding allows
allows_none s q d h = rw (route_past q.legs 0 q.mark q.count h)

-- ---- the checks as the code makes them
legs_taken : (a : List Leg) (k n : ℕ) → k + n ≤ length a → legs_from a k n ≡ take n (drop k a)
unfolding legs_from
legs_taken a k zero h = refl
legs_taken a k (suc n) h = rw (drop-cons a k no_leg (omega arith)) (ap (λ ls. get_or a k no_leg ∷ ls) (legs_taken a (suc k) n (omega arith)))

outside_any : (nodes : ℕ) (ls : List Leg) → list_any (λ l. leb nodes l.target) ls ≡ outside nodes ls
unfolding outside
outside_any nodes [] = refl
outside_any nodes (l ∷ ls) = ap (λ b. leb nodes l.target || b) (outside_any nodes ls)

pub any_outside : (nodes : ℕ) (q : Packet) (b : Bool) → q.count ≤ length q.legs → b ≡ list_any (λ l. leb nodes l.target) (take q.count q.legs) → b ≡ outside nodes (route_of q)
any_outside nodes q b h e = e ∙ outside_any nodes (take q.count q.legs) ∙ ap (outside nodes) (sym (legs_taken q.legs 0 q.count (omega arith)))

pub error_shape : (s : Shape) (q : Packet) (e : Refusal) → number e ≡ shape_error s → number e ≡ packet_error s q
unfolding packet_error
error_shape s q e h = rw (← h) (sym (declines (number e) _ (some_number e)))

pub error_many : (s : Shape) (q : Packet) → 0 ≡ shape_error s → most_legs < q.count → wrong_packet ≡ packet_error s q
unfolding packet_error bad_packet
error_many s q h k = rw (← h, lt-ltb most_legs q.count k)

pub error_rest :
    (s : Shape) (q : Packet) (nodes : ℕ) (legs named out bad : Bool) →
    0 ≡ shape_error s →
    q.count ≤ most_legs →
    nodes ≡ node_count s →
    legs ≡ outside nodes (route_of q) →
    named ≡ (leb nodes q.node || legs) →
    out ≡ (leb nodes q.source || named) →
    bad ≡ (ltb q.count q.mark || out) →
    cond bad wrong_packet 0 ≡ packet_error s q
unfolding packet_error bad_packet
error_rest s q nodes legs named out bad h k e el en eo eb =
    rw (eb, eo, en, el, e, ← h, le-ltb most_legs q.count k)
    (sym (then_cond (ltb q.count q.mark || (leb (node_count s) q.source || (leb (node_count s) q.node || outside (node_count s) (route_of q)))) _ 0))

-- ---- the hop as the code makes it
pub hop_is : (s : Shape) (q : Packet) (d : ℕ) → settled (moved s (settled q) d) ≡ hop (torus s) (kept s) q d
unfolding settled hop
hop_is s q d = refl
