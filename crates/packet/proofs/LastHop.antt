-- Taking back as the code makes it: the leg of the last hop, and what the call answers.
use Prim.Native.Nat.{ℕ, zero, suc, ◌-◌, ◌%◌, ◌≤◌, ◌<◌}
use native.Mathlib.Omega.{arith}
use mathlib.Core.Path.{◌≡◌, refl, sym, ap, ◌∙◌}
use mathlib.Core.Bool.{Bool, true, false, cond, not}
use mathlib.Core.Option as M
use lib.ListN.{drop}
use lib.Dec.{eqb}
use borrow.Author.Tests.{eq-eqb, ne_eqb, lt-ltb, le-ltb}
use Rattle.std.specs.Prelude.{Some, None, Result, Ok, Err}
use Rattle.numbers.specs.declared.Refusal.{Refusal}
use Rattle.numbers.specs.Refusals.{number}
use Rattle.theory.specs.Marks.{passed}
use Rattle.theory.specs.Back.{last_leg, take_back, back}
use Rattle.theory.proofs.Cases.{test, by_le}
use Rattle.theory.proofs.Marks.{here, begins_first, begins_below}
use Rattle.shape.specs.declared.shape.Shape.{Shape}
use Rattle.shape.specs.declared.shape.Coords.{Coords}
use Rattle.machine.specs.declared.leg.Leg.{Leg}
use Rattle.machine.specs.Number.{node_count, number_of, coords_of}
use Rattle.machine.specs.Division.{coords_by}
use Rattle.machine.specs.Hop.{opposite, rule}
use Rattle.machine.specs.ByCoords.{moved_at}
use Rattle.machine.specs.Torus.{torus}
use Rattle.machine.proofs.Numbers.{coords_by_law}
use Rattle.machine.proofs.ByCoords.{neighbour_coords, neighbour_number}
use Rattle.legs.specs.Crossing.{can_cross}
use Rattle.legs.specs.Backward.{against, backward}
use Rattle.packet.specs.declared.packet.Packet.{Packet}
use Rattle.packet.specs.Packet.{route_of, put, packet_error, kept}
use Rattle.packet.specs.Steps.{leg_at, ends_here, Fine, Gives}
use Rattle.packet.specs.LastHop.{begin_at, number_if, last_of, came_on}
use Rattle.packet.proofs.Stored.{route_past, leg_of_law, leg_node, fine_error}
use Rattle.packet.proofs.Drops.{some_number}

abbrev tg : Leg → ℕ
tg l = l.target

-- ---- where a leg begins
pub begin_first : (q : Packet) (i : ℕ) → i ≡ 0 → q.source ≡ begin_at q i
begin_first q i e = rw e (sym (begins_first tg q.source (route_of q)))

pub begin_next : (q : Packet) (i : ℕ) (l : Leg) → (i ≡ 0 → ⊥) → i ≤ q.count → l ≡ leg_at q (i - 1) → l.target ≡ begin_at q i
begin_next q i l ne h e =
    let w = leg_of_law q (i - 1) (omega arith) in
    let k = here tg q.source (route_of q) (i - 1) (leg_at q (i - 1)) w.0 w.1 in
    let back : suc (i - 1) ≡ i = omega arith in
    rw e (sym (rw back at k.ends))

-- ---- the leg of the last hop, from the mark down
pub record Down (q : Packet) (i : ℕ) : Type 0 where
  pub most : i ≤ q.mark
  pub same : last_of q q.mark ≡ last_of q i

pub down_begin : (q : Packet) → Down q q.mark
down_begin q = record { most = omega arith; same = refl }

pub down_found : (q : Packet) (i b : ℕ) → Down q i → b ≡ begin_at q i → (b ≡ q.node → ⊥) → Some i ≡ last_of q q.mark
unfolding last_leg
down_found q zero b d e ne = rw (d.same, ne_eqb (begin_at q 0) q.node (λ z. ne (e ∙ z)))
down_found q (suc i) b d e ne = rw (d.same, ne_eqb (begin_at q (suc i)) q.node (λ z. ne (e ∙ z)))

pub down_on : (q : Packet) (i b : ℕ) → Down q i → b ≡ begin_at q i → b ≡ q.node → Down q (i - 1)
unfolding last_leg
down_on q zero b d e h = d
down_on q (suc i) b d e h =
    let m = d.most in
    let less : i ≡ suc i - 1 = omega arith in
    rw (← less) (record { most = omega arith; same = d.same ∙ rw (eq-eqb (begin_at q (suc i)) q.node (sym e ∙ h)) })

pub down_end : (q : Packet) (i b : ℕ) → Down q i → i ≤ 0 → b ≡ begin_at q i → b ≡ q.node → None ≡ last_of q q.mark
unfolding last_leg
down_end q zero b d h e eb = rw (d.same, eq-eqb (begin_at q 0) q.node (sym e ∙ eb))
down_end q (suc i) b d h e eb = absurd (omega arith)

-- ---- the test of the last hop, from the coordinates of its leg's ends
pub came_is :
    (s : Shape) (q : Packet) (u : Coords) (dir i : ℕ) (l : Leg) (b : ℕ) (at to : Coords) (r : Bool) →
    Fine s q → i < q.count → l ≡ leg_at q i → b ≡ begin_at q i → at ≡ coords_by s b → to ≡ coords_by s l.target → r ≡ can_cross rule l.mode s u dir at to → r ≡ came_on s q u dir i
unfolding came_on
came_is s q u dir i l b at to r f h el eb ea et er =
    let start : begin_at q i < node_count s = begins_below (torus s) q.source (route_of q) i f.source f.route in
    er ∙ rw (ea, et, el, eb, coords_by_law s f.sound (begin_at q i) start, coords_by_law s f.sound (leg_at q i).target (leg_node s q i f.route h))

-- ---- taking back
if_none : (o : M.Option ℕ) → number_if o ≡ None → o ≡ M.none
if_none M.none e = refl
if_none (M.some i) e = absurd (grind arith)

if_some : (o : M.Option ℕ) (i : ℕ) → number_if o ≡ Some i → o ≡ M.some i
if_some M.none i e = absurd (grind arith)
if_some (M.some j) i e = ap M.some (grind arith)

passed_here : (q : Packet) → eqb (passed tg q.node (drop q.mark (route_of q))) 0 ≡ not (ends_here q)
unfolding ends_here passed
passed_here q =
    by_le q.count q.mark
    (λ h. rw (le-ltb q.mark q.count h, route_past q.legs 0 q.mark q.count h))
    (λ h.
    let w = leg_of_law q q.mark h in
    rw (lt-ltb q.mark q.count h, w.1) (test (eqb (leg_at q q.mark).target q.node) (λ t. rw t (ne_eqb (suc (passed tg q.node w.0)) 0 (λ z. omega arith))) (λ t. rw t)))

module _ (s : Shape) (q : Packet) (dir : ℕ) where
  abbrev taken : M.Option Packet
  taken = take_back (torus s) (backward s) (kept s) q dir

  abbrev pub Back : Result Packet Refusal → Type 0
  Back r = Gives q (back (torus s) (backward s) (kept s) q dir) r

  pub back_refused : (e : Refusal) → number e ≡ packet_error s q → Back (Err e)
  unfolding back
  back_refused e h = rw (← h, ne_eqb (number e) 0 (some_number e)) (record { packet = refl; number = refl })

  module _ (f : Fine s q) where
    none_back : taken ≡ M.none → Back (Err Refusal.NotBack)
    unfolding back
    none_back e = rw (fine_error s q f, e) (record { packet = refl; number = refl })

    pub back_here : ends_here q ≡ true → Back (Err Refusal.NotBack)
    unfolding take_back
    back_here h = none_back (rw (passed_here q, h))

    module _ (h : ends_here q ≡ false) where
      pub back_first : last_of q q.mark ≡ None → Back (Err Refusal.NotBack)
      unfolding take_back
      back_first e = none_back (rw (passed_here q, h, if_none (last_leg (begin_at q) q.node q.mark) e))

      module _ (last : ℕ) (el : last_of q q.mark ≡ Some last) where
        leg_is : last_leg (begin_at q) q.node q.mark ≡ M.some last
        leg_is = if_some (last_leg (begin_at q) q.node q.mark) last el

        pub back_past : q.count ≤ last → Back (Err Refusal.NotBack)
        unfolding take_back
        back_past k = none_back (rw (passed_here q, h, leg_is, route_past q.legs 0 last q.count k))

        -- With the place before.
        module _ (k : last < q.count) (at u : Coords) (o : ℕ) (ea : at ≡ coords_by s q.node) (eo : o ≡ opposite dir) (eu : u ≡ moved_at s at o) where
          place : u ≡ coords_of s (against s q.node dir)
          unfolding against
          place = eu ∙ rw (eo, ea, coords_by_law s f.sound q.node f.node) (sym (neighbour_coords s f.sound q.node f.node (opposite dir)))

          node_before : number_of s u % 65536 ≡ against s q.node dir
          unfolding against
          node_before = rw (eu, eo, ea, coords_by_law s f.sound q.node f.node) (neighbour_number s f.sound q.node f.node (opposite dir))

          taken_by : taken ≡ cond (came_on s q u dir last) (M.some (put q (against s q.node dir) last)) M.none
          unfolding take_back came_on
          taken_by = rw (passed_here q, h, leg_is, (leg_of_law q last k).1, place)

          pub back_off : came_on s q u dir last ≡ false → Back (Err Refusal.NotBack)
          back_off n = none_back (taken_by ∙ rw n)

          pub back_done : came_on s q u dir last ≡ true → (n : ℕ) (p : Packet) → n ≡ number_of s u % 65536 → p ≡ put q n last → Back (Ok p)
          unfolding back
          back_done y n p en ep =
              let node : n ≡ against s q.node dir = en ∙ node_before in
              rw (ep, node, fine_error s q f, taken_by, y) (record { packet = refl; number = refl })
