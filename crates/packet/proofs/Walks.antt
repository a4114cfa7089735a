-- The step and the walk's loop.
use Prim.Native.Nat.{ℕ, suc, ◌+◌, ◌-◌, ◌%◌, ◌≤◌, ◌<◌}
use mathlib.Core.Bool.{Bool, true, false}
use mathlib.Core.List.{List, [], ◌∷◌}
use mathlib.Core.Path.{◌≡◌, refl, sym, ap, ◌∙◌}
use native.Mathlib.Omega.{arith}
use native.Mathlib.Numerals.{add-one}
use lib.ListN.{length, get_or, drop, drop_of_length-le}
use lib.Seq.{drop-cons}
use lib.Dec.{leb}
use borrow.Author.Tests.{ne_eqb, le-leb, lt-leb, leb-false}
use Rattle.std.specs.Prelude.{Some, None, Ok, Err}
use Rattle.numbers.specs.declared.Refusal.{Refusal}
use Rattle.numbers.specs.Refusals.{number}
use Rattle.numbers.proofs.Refusals.{refusal-number}
use Rattle.theory.specs.Machine.{allows}
use Rattle.theory.proofs.Cases.{by_le}
use Rattle.theory.specs.Packet as T
use Rattle.theory.specs.Marks.{hop}
use Rattle.shape.specs.declared.shape.Shape.{Shape}
use Rattle.shape.specs.declared.shape.Coords.{Coords}
use Rattle.machine.specs.declared.leg.Leg.{Leg}
use Rattle.machine.specs.Number.{number_of}
use Rattle.machine.specs.Division.{coords_by}
use Rattle.machine.specs.Hop.{rule}
use Rattle.machine.specs.ByCoords.{moved_at, allowed_at}
use Rattle.machine.specs.Torus.{torus}
use Rattle.machine.specs.Ways.{allowed_in, taken}
use Rattle.packet.specs.declared.packet.Packet.{Packet}
use Rattle.packet.specs.declared.course.Course.{Course}
use Rattle.packet.specs.declared.stepper.Ending.{Ending}
use Rattle.packet.specs.declared.stepper.Ending.TheVariants.{Arrived, NotAllowed, UsedUp}
use Rattle.packet.specs.Packet.{put, packet_error, kept, stored}
use Rattle.packet.specs.Answers.{ended_as, told_walk}
use Rattle.packet.specs.Steps.{front_of, front_if, settled, moved, Fine, Gives}
use Rattle.packet.specs.Course.{packet_of, end_of, course_of, ways_of, On, kept_of, walked}
use Rattle.packet.proofs.Stored.{route_past, leg_of_law, fine_error}
use Rattle.packet.proofs.Drops.{some_number, front_none, front_some, legs_left, settled_legs, settled_again, hop_is, fine_settled, fine_moved, allows_none}
use Rattle.packet.proofs.Courses.{ends_allow, ends_moved, packet_on, on_allows, some_hops, hop_stays, hop_ends}

-- The directions allowed of the packet with its drops stored.
abbrev pub goes_to : Shape → Packet → ℕ → Bool
goes_to s q d = allows (torus s) q.node (legs_left q) d

-- The code's test of a direction is the theory's.
may_go_law : (s : Shape) (q : Packet) (d : ℕ) → goes_to s (settled q) d ≡ T.may_go (torus s) (stored s) q d
unfolding settled
may_go_law s q d = ap (λ ls. allows (torus s) q.node ls d) (settled_legs q)

-- ---- the step
pub step_refused : (s : Shape) (q : Packet) (d : ℕ) (e : Refusal) → number e ≡ packet_error s q → Gives q (T.step (torus s) (stored s) q d) (Err e)
unfolding T.step
step_refused s q d e h = rw (← h, ne_eqb (number e) 0 (some_number e)) (record { packet = refl; number = refl })

-- A packet that no check declines, with its drops stored.
pub ready_fine : (s : Shape) (q : Packet) → Fine s q → (ready : Packet) → ready ≡ settled q → Fine s ready
ready_fine s q f ready er = rw er (fine_settled s q f)

module _ (s : Shape) (q : Packet) (f : Fine s q) (ready : Packet) (er : ready ≡ settled q) (d : ℕ) where
  judged : (b : Bool) → goes_to s ready d ≡ b → T.may_go (torus s) (stored s) q d ≡ b
  judged b h = sym (may_go_law s q d) ∙ ap (λ r. goes_to s r d) (sym er) ∙ h

  stays : goes_to s ready d ≡ false → Gives q (T.step (torus s) (stored s) q d) (Err Refusal.NotAllowed)
  unfolding T.step T.tried
  stays h = rw (fine_error s q f, judged false h) (record { packet = refl; number = refl })

  pub step_arrived : front_if ready ≡ None → Gives q (T.step (torus s) (stored s) q d) (Err Refusal.NotAllowed)
  step_arrived e = stays (allows_none s ready d (front_none ready e))

  -- The code's test, from the coordinates of its leg's ends.
  module _
      (front : Leg) (is : front_if ready ≡ Some front) (at to : Coords) (ea : at ≡ coords_by s ready.node) (et : to ≡ coords_by s front.target)
      (b : Bool) (eb : b ≡ allowed_at rule front.mode s at to d) where
    left : ready.mark < ready.count
    left = (front_some ready front is).0

    ef : front ≡ front_of ready
    ef = (front_some ready front is).1

    by_ends : goes_to s ready d ≡ b
    by_ends = sym (eb ∙ rw ef (ends_allow s ready (ready_fine s q f ready er) left at to ea (et ∙ rw ef) d))

    pub step_declined : b ≡ false → Gives q (T.step (torus s) (stored s) q d) (Err Refusal.NotAllowed)
    step_declined h = stays (by_ends ∙ h)

    pub step_hopped :
        b ≡ true → (place : Coords) (n : ℕ) (next : Packet) → place ≡ moved_at s at d → n ≡ number_of s place % 65536 →
        next ≡ settled (put ready n ready.mark) → Gives q (T.step (torus s) (stored s) q d) (Ok next)
    unfolding T.step T.tried
    step_hopped h place n next ep en ex =
        let at_hop : next ≡ hop (torus s) (kept s) q d = ex ∙ rw (ends_moved s ready (ready_fine s q f ready er) left at to ea (et ∙ rw ef) d n place ep en, er) (hop_is s q d) in
        rw (fine_error s q f, judged b by_ends ∙ h, at_hop) (record { packet = refl; number = refl })

-- ---- the walk
pub walk_refused :
    (s : Shape) (q : Packet) (ds : List ℕ) (e : Refusal) → number e ≡ packet_error s q → let w = T.walk (torus s) (stored s) q ds in
    (walked q 0 (Ending.Refused e) ≡ told_walk w) × ((number e ≡ T.walk_number w.ending) × (0 ≤ length ds))
unfolding told_walk T.walk
walk_refused s q ds e h = rw (← h, ne_eqb (number e) 0 (some_number e), refusal-number e) (refl, (refl, omega arith))

pub walk_is : (s : Shape) (q : Packet) (ds : List ℕ) → Fine s q → T.walk (torus s) (stored s) q ds ≡ T.goes (torus s) (stored s) q ds
unfolding T.walk
walk_is s q ds f = rw (fine_error s q f)

-- A walk that goes on after k hops.
abbrev after : ℕ → T.Walked Packet → T.Walked Packet
after k w = record { packet = w.packet; hops = k + w.hops; ending = w.ending }

-- After k hops from lent the packet is as it would be handed back, and p is that with the drops stored, which the course carries.
pub record Going (s : Shape) (dirs : List ℕ) (lent p : Packet) (c : Course) (ws : List ℕ) (k : ℕ) : Type 0 where
  pub on : On s p c ws
  pub rest_kept : put lent p.node p.mark ≡ p
  pub within : k ≤ length dirs
  pub stores : settled (kept_of lent k p) ≡ p
  pub rest : after k (T.goes (torus s) (stored s) (kept_of lent k p) (drop k dirs)) ≡ T.goes (torus s) (stored s) lent dirs

-- The packet that the code makes of what it carries.
abbrev pub Carried : Shape → List ℕ → Packet → Course → List ℕ → ℕ → Type 0
Carried s dirs lent c ws k = Going s dirs lent (packet_of s lent c ws) c ws k

carried : (s : Shape) (dirs : List ℕ) (lent p : Packet) (c : Course) (ws : List ℕ) (k : ℕ) → Going s dirs lent p c ws k → Carried s dirs lent c ws k
carried s dirs lent p c ws k g = rw (packet_on s p c ws g.on lent g.rest_kept) g

settled_kept : (q : Packet) → put q (settled q).node (settled q).mark ≡ settled q
unfolding settled
settled_kept q = refl

after_0 : (w : T.Walked Packet) → after 0 w ≡ w
after_0 w = λ i. record { packet = w.packet; hops = none w.hops i; ending = w.ending }
  where
    none : (n : ℕ) → 0 + n ≡ n
    none n = omega arith

kept_none : (lent q : Packet) → kept_of lent 0 q ≡ lent
unfolding kept_of
kept_none lent q = refl

kept_some : (lent q : Packet) (k : ℕ) → kept_of lent (k + 1) q ≡ q
unfolding kept_of
kept_some lent q k = rw (ne_eqb (k + 1) 0 (λ e. omega arith))

pub begin : (s : Shape) (q : Packet) (f : Fine s q) (c : Course) (ws : List ℕ) → (c ≡ course_of s (settled q)) × (ws ≡ ways_of s (settled q)) → (dirs : List ℕ) → Carried s dirs q c ws 0
begin s q f c ws e dirs = carried s dirs q (settled q) c ws 0 (record {
  on = record { fine = fine_settled s q f; course = e.0; ways = e.1 };
  rest_kept = settled_kept q;
  within = omega arith;
  stores = rw (kept_none q (settled q));
  rest = rw (kept_none q (settled q)) (after_0 _);
})

-- No leg is left exactly if the packet has arrived.
none_left : (q : Packet) → T.is_none (legs_left q) ≡ leb q.count q.mark
none_left q =
    by_le q.count q.mark
    (λ h. rw (route_past q.legs 0 q.mark q.count h, le-leb q.count q.mark h))
    (λ h. rw ((leg_of_law q q.mark h).1, lt-leb q.count q.mark h))

arrived_is : (s : Shape) (q : Packet) → T.arrived (torus s) (stored s) q ≡ leb (settled q).count (settled q).mark
unfolding settled
arrived_is s q = ap T.is_none (sym (settled_legs q)) ∙ none_left (settled q)

at_end : (s : Shape) (q : Packet) (ds : List ℕ) → T.arrived (torus s) (stored s) q ≡ true → T.goes (torus s) (stored s) q ds ≡ record { packet = q; hops = 0; ending = T.Arrived }
unfolding T.goes
at_end s q [] e = rw e
at_end s q (d ∷ ds) e = rw e

add_zero : (k : ℕ) → k + 0 ≡ k
add_zero k = omega arith

add_suc : (k h : ℕ) → k + suc h ≡ k + 1 + h
add_suc k h = omega arith

module _ (s : Shape) (dirs : List ℕ) (lent : Packet) (c : Course) (ws : List ℕ) (k : ℕ) (g : Carried s dirs lent c ws k) where
  abbrev p : Packet
  p = packet_of s lent c ws

  abbrev q : Packet
  q = kept_of lent k p

  abbrev pub End : Ending → Type 0
  End e = walked q k e ≡ told_walk (T.goes (torus s) (stored s) lent dirs)

  ending : (e : T.Ending) → T.goes (torus s) (stored s) q (drop k dirs) ≡ record { packet = q; hops = 0; ending = e } → End (ended_as e)
  unfolding told_walk
  ending e h = sym (rw (← g.rest, h, add_zero k))

  arrived_on : T.arrived (torus s) (stored s) q ≡ leb lent.count c.mark
  unfolding packet_of
  arrived_on = arrived_is s q ∙ ap (λ r. leb r.count r.mark) g.stores

  may_go_on : (d : ℕ) → goes_to s p d ≡ T.may_go (torus s) (stored s) q d
  may_go_on d = ap (λ r. goes_to s r d) (sym g.stores) ∙ may_go_law s q d

  pub has_arrived : leb lent.count c.mark ≡ true → End Arrived
  has_arrived e = ending T.Arrived (at_end s q (drop k dirs) (arrived_on ∙ e))

  pub used_up : length dirs ≤ k → leb lent.count c.mark ≡ false → End UsedUp
  unfolding T.goes
  used_up h e = ending T.UsedUp (rw (drop_of_length-le dirs h, arrived_on, e))

  module _ (h : k < length dirs) (e : leb lent.count c.mark ≡ false) where
    refused : goes_to s p (get_or dirs k 0) ≡ false → End NotAllowed
    unfolding T.goes
    refused a = ending T.NotAllowed (rw (drop-cons dirs k 0 h, arrived_on, e, sym (may_go_on (get_or dirs k 0)) ∙ a))

    -- One hop further.
    next : Packet
    next = settled (moved s p (get_or dirs k 0))

    next_is : next ≡ hop (torus s) (kept s) q (get_or dirs k 0)
    unfolding next
    next_is = ap (λ r. settled (moved s r (get_or dirs k 0))) (sym g.stores) ∙ hop_is s q (get_or dirs k 0)

    goes_next : goes_to s p (get_or dirs k 0) ≡ true → after (k + 1) (T.goes (torus s) (stored s) next (drop (k + 1) dirs)) ≡ T.goes (torus s) (stored s) lent dirs
    unfolding T.goes
    goes_next a = sym (rw (← g.rest, drop-cons dirs k 0 h, arrived_on, e, sym (may_go_on (get_or dirs k 0)) ∙ a, ← next_is, add_suc k _, add-one))

    next_kept : put lent next.node next.mark ≡ next
    unfolding next settled packet_of
    next_kept = refl

    onward : (c' : Course) (ws' : List ℕ) → goes_to s p (get_or dirs k 0) ≡ true → On s (settled (moved s p (get_or dirs k 0))) c' ws' → Carried s dirs lent c' ws' (k + 1)
    unfolding next
    onward c' ws' t on = carried s dirs lent next c' ws' (k + 1) (record {
      on = on;
      rest_kept = next_kept;
      within = omega arith;
      stores = rw (kept_some lent next k) (settled_again _);
      rest = rw (kept_some lent next k) (goes_next t);
    })

    -- ---- as the code goes on: with the hops left after the direction was tried
    abbrev d : ℕ
    d = get_or dirs k 0

    some : p.mark < p.count
    unfolding packet_of
    some = leb-false lent.count c.mark e

    allows_is : allowed_in c.mode ws d ≡ goes_to s p d
    allows_is = on_allows s p c ws g.on some d

    pub tried_refused : (ws' : List ℕ) → ws' ≡ taken c.mode ws d → allowed_in c.mode ws d ≡ false → walked (kept_of lent k (packet_of s lent c ws')) k NotAllowed ≡ told_walk (T.goes (torus s) (stored s) lent dirs)
    tried_refused ws' ew a =
        let same : ws' ≡ ws = ew ∙ rw a in
        rw same (refused (sym allows_is ∙ a))

    module _ (a : allowed_in c.mode ws d ≡ true) where
      abbrev less : Course
      less = record { mark = c.mark; mode = c.mode; hops = c.hops - 1; to = c.to }

      pub one_hop : 0 < c.hops
      one_hop = some_hops s p c ws g.on some d a

      pub tried_stays : (ws' : List ℕ) → ws' ≡ taken c.mode ws d → (c.hops - 1 ≡ 0 → ⊥) → Carried s dirs lent less ws' (k + 1)
      tried_stays ws' ew more = rw ew (onward less (taken c.mode ws d) (sym allows_is ∙ a) (hop_stays s p c ws g.on some d a more))

      -- At the end of a leg.
      module _ (z : c.hops - 1 ≡ 0) (r : Packet) (er : r ≡ end_of s lent less) where
        end_is : r ≡ moved s p d
        end_is = er ∙ hop_ends s p c ws g.on some d a lent g.rest_kept z

        pub end_fine : Fine s r
        end_fine = rw end_is (fine_moved s p d g.on.fine)

        pub tried_ends : (c' : Course) (ws' : List ℕ) → (c' ≡ course_of s (settled r)) × (ws' ≡ ways_of s (settled r)) → Carried s dirs lent c' ws' (k + 1)
        tried_ends c' ws' h = onward c' ws' (sym allows_is ∙ a) (rw (← end_is) (record { fine = fine_settled s r end_fine; course = h.0; ways = h.1 }))
