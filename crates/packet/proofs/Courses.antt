-- What a walk carries stays what its packet says.
use Prim.Native.Nat.{ℕ, ◌+◌, ◌-◌, ◌%◌, ◌<◌}
use native.Mathlib.Omega.{arith}
use mathlib.Core.Path.{◌≡◌, refl, sym, ap, ◌∙◌}
use mathlib.Core.Bool.{Bool, true, false, cond}
use mathlib.Core.List.{List}
use lib.Dec.{leb}
use borrow.Author.Tests.{le-ltb, lt-ltb, le-leb, lt-leb, leb-false}
use Rattle.std.specs.Prelude.{unwrap_or}
use Rattle.theory.specs.Machine.{allows}
use Rattle.theory.proofs.Cases.{by_le}
use Rattle.shape.specs.declared.shape.Shape.{Shape}
use Rattle.shape.specs.declared.shape.Coords.{Coords}
use Rattle.shape.specs.Shape.{shape_error}
use Rattle.machine.specs.declared.leg.Leg.{Leg}
use Rattle.machine.specs.declared.leg.Mode.{Mode}
use Rattle.machine.specs.Number.{node_count, coords_of, number_of, Inside}
use Rattle.machine.specs.Division.{coords_by}
use Rattle.machine.specs.Hop.{hops, neighbour, rule}
use Rattle.machine.specs.Torus.{allowed_by, torus}
use Rattle.machine.specs.ByCoords.{hops_at, moved_at, allowed_at}
use Rattle.machine.specs.Ways.{ways_at, allowed_in, taken}
use Rattle.machine.proofs.Numbers.{coords_by_law, number_coords, number_fits, inside}
use Rattle.machine.proofs.ByCoords.{hops_at_law, neighbour_coords, neighbour_number, neighbour_below, allowed_at_law}
use Rattle.machine.proofs.Laws.{useful_lowers, hops_self, hops_zero}
use Rattle.machine.proofs.Torus.{allowed_useful}
use Rattle.machine.proofs.HopsLeft.{standing_is, ways_allow, ways_moved}
use Rattle.packet.specs.declared.packet.Packet.{Packet}
use Rattle.packet.specs.declared.course.Course.{Course}
use Rattle.packet.specs.Packet.{no_leg, put}
use Rattle.packet.specs.Steps.{front_of, front_if, front_or, settled, moved, Fine}
use Rattle.packet.specs.Course.{packet_of, end_of, course_of, ways_of, On}
use Rattle.packet.proofs.Drops.{legs_left, settled_same, fine_moved, fine_front, allows_front}

-- ---- the front leg
pub front_unwrap : (q : Packet) → unwrap_or (front_if q) no_leg ≡ front_or q
unfolding front_or
front_unwrap q =
    by_le q.count q.mark
    (λ h. rw (le-ltb q.mark q.count h, le-leb q.count q.mark h))
    (λ h. rw (lt-ltb q.mark q.count h, lt-leb q.count q.mark h))

front_of_some : (q : Packet) → q.mark < q.count → front_of q ≡ front_or q
unfolding front_or
front_of_some q h = rw (lt-leb q.count q.mark h)

-- Its target is a node, also of the leg of zeros.
front_node : (s : Shape) (q : Packet) → Fine s q → (front_or q).target < node_count s
unfolding front_or
front_node s q f = go (leb q.count q.mark) refl
  where
    go : (b : Bool) → leb q.count q.mark ≡ b → (cond b no_leg (front_of q)).target < node_count s
    go true e = omega (arith, f.node)
    go false e = fine_front s q f (leb-false q.count q.mark e)

front_moved : (s : Shape) (q : Packet) (d : ℕ) → front_or (moved s q d) ≡ front_or q
unfolding front_or
front_moved s q d = refl

-- A node's number, worked out from its coordinates.
node_number : (s : Shape) (n : ℕ) → shape_error s ≡ 0 → n < node_count s → number_of s (coords_of s n) % 65536 ≡ n
node_number s n h hn = number_fits s h (coords_of s n) (inside s h n hn) ∙ number_coords s h n

-- ---- a hop as the code makes it, from the coordinates of its leg's ends
module _ (s : Shape) (q : Packet) (f : Fine s q) (h : q.mark < q.count) (at to : Coords) (ea : at ≡ coords_by s q.node) (et : to ≡ coords_by s (front_of q).target) where
  pub ends_allow : (d : ℕ) → allowed_at rule (front_of q).mode s at to d ≡ allows (torus s) q.node (legs_left q) d
  ends_allow d =
      rw (ea, et, coords_by_law s f.sound q.node f.node, coords_by_law s f.sound (front_of q).target (fine_front s q f h))
      (sym (allows_front s q d h ∙ allowed_at_law s f.sound q.node f.node (front_of q).target rule (front_of q).mode d))

  pub ends_moved : (d n : ℕ) (next : Coords) → next ≡ moved_at s at d → n ≡ number_of s next % 65536 → put q n q.mark ≡ moved s q d
  ends_moved d n next en eq =
      let e : n ≡ neighbour s q.node d = eq ∙ rw (en, ea, coords_by_law s f.sound q.node f.node) (neighbour_number s f.sound q.node f.node d) in
      ap (λ n. put q n q.mark) e

-- ---- the course of a packet
module _ (s : Shape) (q : Packet) (f : Fine s q) where
  -- The packet lent is one of which q has another node and mark.
  pub packet_course : (lent : Packet) → put lent q.node q.mark ≡ q → packet_of s lent (course_of s q) (ways_of s q) ≡ q
  unfolding packet_of course_of ways_of
  packet_course lent e =
      rw (standing_is rule (front_or q).mode s (coords_of s q.node) (coords_of s (front_or q).target) (inside s f.sound q.node f.node) (inside s f.sound (front_or q).target (front_node s q f)) f.sound, node_number s q.node f.sound f.node) e

  -- As the code makes it.
  pub of_course :
      (front : Leg) (mode : Mode) (at to : Coords) (n : ℕ) (ws : List ℕ) →
      front ≡ front_or q →
      mode ≡ front.mode →
      at ≡ coords_by s q.node →
      to ≡ coords_by s front.target →
      n ≡ hops_at s at to →
      ws ≡ ways_at rule mode s at to →
      (◌≡◌ {A = Course} (record { mark = q.mark; mode = mode; hops = n; to = to }) (course_of s q)) × (ws ≡ ways_of s q)
  unfolding course_of ways_of
  of_course front mode at to n ws ef em ea et en ew =
      let here = coords_by_law s f.sound q.node f.node in
      let there = coords_by_law s f.sound (front_or q).target (front_node s q f) in
      (rw (en, et, em, ea, ef, here, there, hops_at_law s q.node (front_or q).target), rw (ew, et, em, ea, ef, here, there))

-- ---- one hop
module _ (s : Shape) (q : Packet) (c : Course) (ws : List ℕ) (on : On s q c ws) where
  abbrev target : ℕ
  target = (front_or q).target

  pub mark_is : c.mark ≡ q.mark
  unfolding course_of
  mark_is = ap (λ c. c.mark) on.course

  mode_is : c.mode ≡ (front_or q).mode
  unfolding course_of
  mode_is = ap (λ c. c.mode) on.course

  hops_are : c.hops ≡ hops s q.node target
  unfolding course_of
  hops_are = ap (λ c. c.hops) on.course

  to_is : c.to ≡ coords_of s target
  unfolding course_of
  to_is = ap (λ c. c.to) on.course

  ways_are : ws ≡ ways_at rule (front_or q).mode s (coords_of s q.node) (coords_of s target)
  unfolding ways_of
  ways_are = on.ways

  pub packet_on : (lent : Packet) → put lent q.node q.mark ≡ q → packet_of s lent c ws ≡ q
  packet_on lent e = rw (on.course, on.ways) (packet_course s q on.fine lent e)

  module _ (some : q.mark < q.count) (d : ℕ) where
    sound : shape_error s ≡ 0
    sound = on.fine.sound

    here : Inside s (coords_of s q.node)
    here = inside s sound q.node on.fine.node

    there : Inside s (coords_of s target)
    there = inside s sound target (front_node s q on.fine)

    front_is : front_of q ≡ front_or q
    front_is = front_of_some q some

    -- The directions allowed.
    by_mode : allowed_in c.mode ws d ≡ allowed_by rule (front_or q).mode s q.node target d
    by_mode =
        rw (mode_is, ways_are)
        (ways_allow rule (front_or q).mode s (coords_of s q.node) (coords_of s target) here there d
        ∙ sym (allowed_at_law s sound q.node on.fine.node target rule (front_or q).mode d))

    pub on_allows : allowed_in c.mode ws d ≡ allows (torus s) q.node (legs_left q) d
    on_allows = by_mode ∙ sym (allows_front s q d some ∙ rw front_is)

    -- A hop that is allowed leaves one hop fewer: at none the leg's target is reached, and legs are dropped.
    module _ (a : allowed_in c.mode ws d ≡ true) where
      fewer : hops s (neighbour s q.node d) target + 1 ≡ c.hops
      fewer = useful_lowers s q.node target d (allowed_useful s sound q.node target on.fine.node (front_node s q on.fine) (front_or q).mode d (sym by_mode ∙ a)) ∙ sym hops_are

      pub some_hops : 0 < c.hops
      some_hops = omega (arith, fewer)

      ways_next : taken c.mode ws d ≡ ways_of s (moved s q d)
      unfolding ways_of
      ways_next =
          let b : allowed_in (front_or q).mode (ways_at rule (front_or q).mode s (coords_of s q.node) (coords_of s target)) d ≡ true = rw (mode_is, ways_are) at a in
          rw (mode_is, ways_are, ways_moved rule (front_or q).mode s (coords_of s q.node) (coords_of s target) here there d b, front_moved s q d, neighbour_coords s sound q.node on.fine.node d)

      pub hop_stays : (c.hops - 1 ≡ 0 → ⊥) → On s (settled (moved s q d)) (record { mark = c.mark; mode = c.mode; hops = c.hops - 1; to = c.to }) (taken c.mode ws d)
      unfolding course_of
      hop_stays more = rw (settled_same (moved s q d) some other) (record {
        fine = fine_moved s q d on.fine;
        course = rw (mark_is, mode_is, to_is, front_moved s q d, ← fewer, less);
        ways = ways_next;
      })
        where
          less : hops s (neighbour s q.node d) target + 1 - 1 ≡ hops s (neighbour s q.node d) target
          less = omega arith

          none : neighbour s q.node d ≡ target → hops s (neighbour s q.node d) target ≡ 0
          none e = rw e (hops_self s target)

          other : (front_of (moved s q d)).target ≡ neighbour s q.node d → ⊥
          other e = more (omega (arith, fewer, none (sym e ∙ ap (λ l. l.target) front_is)))

      pub hop_ends : (lent : Packet) → put lent q.node q.mark ≡ q → c.hops - 1 ≡ 0 → end_of s lent (record { mark = c.mark; mode = c.mode; hops = c.hops - 1; to = c.to }) ≡ moved s q d
      unfolding end_of
      hop_ends lent el z =
          let e : neighbour s q.node d ≡ target = hops_zero s sound (neighbour s q.node d) target (neighbour_below s sound q.node on.fine.node d) (front_node s q on.fine) (omega (arith, fewer)) in
          rw (mark_is, to_is, node_number s target sound (front_node s q on.fine), ← e) (ap (λ r. put r (neighbour s q.node d) q.mark) el)
