-- The notes of the nodes outward from the source: what is true at each turn.
use Prim.Native.Nat.{ℕ, ◌+◌, ◌-◌, ◌*◌, ◌%◌, ◌≤◌, ◌<◌}
use native.Mathlib.Omega.{arith}
use mathlib.Core.Path.{◌≡◌, refl, sym, ap, ◌∙◌}
use mathlib.Core.Logic.{inl, inr, ⊎_elim}
use mathlib.Core.Bool.{Bool, true, false, not, ◌&&◌, true≢false}
use mathlib.Core.List.{List}
use lib.Bits.{bit_and}
use lib.Dec.{ltb, eqb}
use lib.ListN.{length, get_or, set, length-set, replicate, length-replicate, get_or-replicate}
use lib.Seq.{get_or-set_same, get_or-set_other}
use borrow.Author.Tests.{lt-ltb, ltb-true, le-ltb, lt-leb, le-leb, eq-eqb, ne_eqb, eqb-true, eqb-false}
use Rattle.theory.proofs.Bools.{and_true}
use Rattle.theory.proofs.Cases.{test, by_le, by_order}
use Rattle.shape.specs.declared.shape.Shape.{Shape}
use Rattle.shape.specs.declared.shape.Coords.{Coords}
use Rattle.shape.specs.declared.shape.Dim.TheVariants.{X, Y, Z}
use Rattle.shape.specs.Shape.{shape_error, wrapped_in}
use Rattle.shape.specs.Axis.{axis_hops}
use Rattle.shape.proofs.Shapes.{sound}
use Rattle.shape.proofs.AxisLaws.{axis_below}
use Rattle.machine.specs.declared.leg.Mode.TheVariants.{Adaptive}
use Rattle.machine.specs.Number.{node_count, coords_of, number_of, Inside}
use Rattle.machine.specs.Hop.{hops}
use Rattle.machine.proofs.Numbers.{number_below, coords_number, number_fits, inside}
use Rattle.plan.specs.Layout.{shape_of}
use Rattle.plan.specs.Checks.{large, plan_error}
use Rattle.rows.specs.Bits.{bit, row_of}
use Rattle.rows.specs.NextSet.{NextSet}
use Rattle.rows.specs.Rows.{in_rows, in_set}
use Rattle.rows.proofs.Bits.{bit_and_law, bit_past, bit_not, row_bit, row_past}
use Rattle.search.specs.Number.{unclear}
use Rattle.search.specs.Outward.{hops_row, rank_at, row_hops, place_hops, rank_of}
use Rattle.search.proofs.Outwards.{Places, places, onward, same_rank}
use Rattle.notes.specs.Known.{is_clear, IsAt, NoteTo}
use Rattle.notes.proofs.Knowing.{shape_ok, nodes_few, all_bits}
use Rattle.first_clear.specs.Known.{NotedBetween, TwoTo}
use Rattle.planner.specs.Known.{Work, Ready, Unskipped, NotesMade, TwosMade}
use Rattle.planner.specs.Ranked.{rank, Noting, LevelWord, PlaneWord, due_in}

-- A node needs no note where the direct adaptive leg to it is clear.
no_need : (p : List ℕ) (S w x : ℕ) → x ≡ unclear → is_clear p Adaptive S w ≡ true → NoteTo p S w x
no_need p S w x e c = record { real = λ q. absurd (omega arith); least = λ v lv o b. inr (inl c) }

pub goes_on : (word x x' : ℕ) → NextSet word (x + 1) x' → x < 16 → x < x'
goes_on word x x' n l = by_le 16 x' (λ q. omega arith) (λ q. omega (arith, (n.set q).0))

pub same_noting : (p work : List ℕ) (S : ℕ) (skip notes twos : List ℕ) (K L : ℕ) → K ≡ L → Noting p work S skip notes twos K → Noting p work S skip notes twos L
same_noting p work S skip notes twos K L e g = rw (← e) g

-- The places of a rank that lies between two of one level.
record Digits (R Q P W r q k x x' : ℕ) : Type 0 where
  hops : R ≡ r
  row : Q ≡ q
  level : P ≡ k
  from : x ≤ W
  below : W < x'

digits :
    (R Q P W r q k x x' : ℕ) → Q < 256 → P < 16 → W < 16 → q < 256 → k < 16 → x' ≤ 16 → 65536 * r + 256 * q + 16 * k + x ≤ 65536 * R + 256 * Q + 16 * P + W →
    65536 * R + 256 * Q + 16 * P + W < 65536 * r + 256 * q + 16 * k + x' → Digits R Q P W r q k x x'
digits R Q P W r q k x x' hQ hP hW hq hk hx low high =
    let up : r ≤ R = omega arith in
    let down : R ≤ r = omega arith in
    let e : R ≡ r = omega arith in
    let up' : q ≤ Q = omega arith in
    let down' : Q ≤ q = omega arith in
    let e' : Q ≡ q = omega arith in
    let up'' : k ≤ P = omega arith in
    let down'' : P ≤ k = omega arith in
    let e'' : P ≡ k = omega arith in
    record { hops = e; row = e'; level = e''; from = omega arith; below = omega arith }

record Rows (R Q r q q' : ℕ) : Type 0 where
  hops : R ≡ r
  from : q ≤ Q
  below : Q < q'

rows_between :
    (R Q P W r q q' : ℕ) → Q < 256 → P < 16 → W < 16 → q' ≤ 256 → 65536 * r + 256 * q ≤ 65536 * R + 256 * Q + 16 * P + W → 65536 * R + 256 * Q + 16 * P + W < 65536 * r + 256 * q' → Rows R Q r q q'
rows_between R Q P W r q q' hQ hP hW hq low high =
    let up : r ≤ R = omega arith in
    let down : R ≤ r = omega arith in
    let e : R ≡ r = omega arith in
    record { hops = e; from = omega arith; below = omega arith }

in_plane : (c d y y' z : ℕ) → y + 16 * z ≤ c + 16 * d → c + 16 * d < y' + 16 * z → c < 16 → y' ≤ 16 → d ≡ z
in_plane c d y y' z low high h most = let up : z ≤ d = omega arith in let down : d ≤ z = omega arith in omega arith

-- Hops in Y that are what is left of r, and hops in Y and Z that are r.
same_test : (h k far r : ℕ) → far ≡ k → far ≤ r → eqb h (r - far) ≡ eqb (h + k) r
same_test h k far r e up = test (eqb (h + k) r)
    (λ t. let q = eqb-true (h + k) r t in rw t (eq-eqb h (r - far) (omega arith)))
    (λ t. rw t (ne_eqb h (r - far) (λ q. eqb-false (h + k) r t (omega arith))))

bit_none : (x : ℕ) → bit 0 x ≡ false
bit_none x = bit_past 0 0 x (omega arith) (omega arith)

place_y : (y z y' z' : ℕ) → y + 16 * z ≡ y' + 16 * z' → y < 16 → y' < 16 → (y ≡ y') × (z ≡ z')
place_y y z y' z' e h h' = let up : z ≤ z' = omega arith in let down : z' ≤ z = omega arith in (omega arith, omega arith)

module _ {p : List ℕ} {s : Shape} {words : List ℕ} {count : ℕ} {dead ta td work : List ℕ} {S : ℕ} {a : Coords} {fa fd : List ℕ} (ready : Ready p s words count dead ta td work S a fa fd) where
  accepted : plan_error large p ≡ 0
  accepted = ready.prepared.of_plan.plan

  ok : shape_error (shape_of p) ≡ 0
  ok = shape_ok p accepted

  same : s ≡ shape_of p
  same = ready.prepared.of_plan.shape

  few : node_count (shape_of p) ≤ 4096
  few = nodes_few (shape_of p) ok

  pub shape_sound : shape_error s ≡ 0
  shape_sound = rw same ok

  abbrev at : ℕ → Coords
  at w = coords_of (shape_of p) w

  -- The rank of a node, by its coordinates.
  rank_is : (D : ℕ) (t : Coords) → IsAt p D t → rank_of s a t ≡ rank p S D
  rank_is D t to = rw (same, ready.source.at, to.at) refl

  -- The node at some coordinates.
  pub is_at : (t : Coords) → Inside s t → (D : ℕ) → D ≡ number_of s t % 65536 → IsAt p D t
  is_at t i D e =
      let j : Inside (shape_of p) t = rw same at i in
      let q : D ≡ number_of (shape_of p) t = e ∙ rw same (number_fits (shape_of p) ok t j) in
      record { node = rw q (number_below (shape_of p) ok t j); at = rw q (sym (coords_number (shape_of p) ok t j)) }

  source_in_law : Inside s a
  source_in_law = rw (same, ready.source.at) (inside (shape_of p) ok S ready.source.node)

  bounds : (w : ℕ) → w < node_count (shape_of p) → Places (shape_of p) (at S) (at w)
  bounds w l = places (shape_of p) ok (at S) (at w) (inside (shape_of p) ok S ready.source.node) (inside (shape_of p) ok w l)

  module _ (skip : List ℕ) where
    abbrev skips : ℕ → Bool
    skips w = in_set (shape_of p) skip 0 w

    module _ (notes twos : List ℕ) (K : ℕ) (g : Noting p work S skip notes twos K) where
      -- No node that is not in the set lies between two ranks.
      pub pass : (L : ℕ) → K ≤ L → ((w : ℕ) → w < node_count (shape_of p) → K ≤ rank p S w → rank p S w < L → skips w ≡ true) → Noting p work S skip notes twos L
      pass L up none = record {
        long = g.long;
        wide = g.wide;
        made = λ k w l b o. by_le K (rank p S w) (λ q. absurd (true≢false (sym (none w l q b) ∙ o))) (λ q. g.made k w l q o);
        left = λ w l o. g.left w l (⊎_elim (λ q. inl (omega arith)) (λ q. inr q) o);
        two = λ k w l b o. by_le K (rank p S w) (λ q. absurd (true≢false (sym (none w l q b) ∙ o))) (λ q. g.two k w l q o);
      }

      -- One node.
      module _ (D : ℕ) (t : Coords) (to : IsAt p D t) (eK : K ≡ rank_of s a t) (free : in_rows skip 0 t ≡ false) (x : ℕ) (note : Work p work → NoteTo p S D x) where
        here : rank p S D ≡ K
        here = sym (eK ∙ rank_is D t to)

        open_here : skips D ≡ false
        unfolding in_set
        open_here = ap (in_rows skip 0) (sym to.at) ∙ free

        abbrev noted : List ℕ
        noted = set notes D x

        mine : get_or noted D 0 ≡ x
        mine = get_or-set_same notes D x 0 (omega (arith, to.node, few, g.long))

        other : (w : ℕ) → (w ≡ D → ⊥) → get_or noted w 0 ≡ get_or notes w 0
        other w ne = get_or-set_other notes D w x 0 ne

        apart : (w : ℕ) → rank p S w < K → w ≡ D → ⊥
        apart w b e = omega (arith, here, ap (rank p S) e)

        -- What lies on the shortest ways to it is noted.
        pub between : Work p work → Unskipped p S skip D → NotedBetween p S D noted
        between k all v l way = ⊎_elim
            (λ (e : v ≡ D). rw (e, mine) (note k))
            (λ b.
            let low : rank p S v < K = omega (arith, here) in
            rw (other v (apart v low))
            (test (skips v)
            (λ y. ⊎_elim (λ o. absurd (true≢false (sym y ∙ o))) (λ c. no_need p S v _ (g.left v l (inr y)) c) (all v l way))
            (λ o. g.made k v l low o)))
            (onward (shape_of p) ok S v D ready.source.node l to.node way)

        pub turn : (n : ℕ) → (Work p work → NotedBetween p S D noted → is_clear p Adaptive S D ≡ false → 4096 ≤ get_or noted D 0 → TwoTo p S D n) →
            Noting p work S skip noted (set twos D n) (rank_of s a t + 1)
        turn n pair =
            let new : get_or (set twos D n) D 0 ≡ n = get_or-set_same twos D n 0 (omega (arith, to.node, few, g.wide)) in
            let is : (w : ℕ) → w < node_count (shape_of p) → rank p S w ≡ K → w ≡ D = λ w l e. same_rank (shape_of p) ok S w D ready.source.node l to.node (e ∙ sym here) in
            record {
              long = length-set notes D x ∙ g.long;
              wide = length-set twos D n ∙ g.wide;
              made = λ k w l b o. by_order (rank p S w) K
                  (λ q. rw (other w (apart w q)) (g.made k w l q o))
                  (λ q. rw (is w l q, mine) (note k))
                  (λ q. absurd (omega arith));
              left = λ w l o.
                  let ne : w ≡ D → ⊥ = λ e. ⊎_elim (λ q. omega (arith, here, ap (rank p S) e)) (λ q. true≢false (sym q ∙ ap skips e ∙ open_here)) o in
                  other w ne ∙ g.left w l (⊎_elim (λ q. inl (omega arith)) (λ q. inr q) o);
              two = λ k w l b o all. by_order (rank p S w) K
                  (λ q c m. rw (get_or-set_other twos D w n 0 (apart w q)) (g.two k w l q o all c (rw (other w (apart w q)) at m)))
                  (λ q. let e = is w l q in rw (e, new) (pair k (between k (rw e at all))))
                  (λ q. absurd (omega arith));
            }

    -- ---- a row
    module _ (y z r : ℕ) (ly : y < s.y) (lz : z < s.z) (er : r ≡ row_hops s a y z) where
      hy : y < 16
      hy = omega (arith, (sound s shape_sound Y).high)

      hz : z < 16
      hz = omega (arith, (sound s shape_sound Z).high)

      pub row_fits : 16 * z + y < 256
      row_fits = omega (arith, hy, hz)

      pub in_row : Inside s (record { x = 0; y = y; z = z })
      in_row = record { x = (sound s shape_sound X).low; y = ly; z = lz }

      -- What a word of the row says of its places.
      pub record Free (k x : ℕ) : Type 0 where
        pub inside : x < s.x
        pub level : place_hops s a x ≡ k
        pub clear_of : in_rows skip 0 (record { x = x; y = y; z = z }) ≡ false

      not_false : (b : Bool) → not b ≡ true → b ≡ false
      not_false true e = sym e
      not_false false e = refl

      pub free : (k word : ℕ) → LevelWord s a skip y z k word → (x : ℕ) → x < 16 → bit word x ≡ true → Free k x
      free k word lw x l b =
          let u = and_true (ltb x s.x) _ (sym (lw x l) ∙ b) in
          let v = and_true (eqb (place_hops s a x) k) _ u.1 in
          record { inside = ltb-true x s.x u.0; level = eqb-true (place_hops s a x) k v.0; clear_of = not_false _ v.1 }

      pub free_rank : (k x : ℕ) → Free k x → rank_at r y z k x ≡ rank_of s a (record { x = x; y = y; z = z })
      unfolding rank_of
      free_rank k x f = rw (er, f.level) refl

      -- A place whose bit is not set is in the set, where it is at k hops.
      shut : (k word : ℕ) → LevelWord s a skip y z k word → (x : ℕ) → x < 16 → bit word x ≡ false → x < s.x → place_hops s a x ≡ k → in_rows skip 0 (record { x = x; y = y; z = z }) ≡ true
      shut k word lw x l b i e = test (in_rows skip 0 (record { x = x; y = y; z = z })) (λ c. c)
          (λ c. let q : bit word x ≡ true = lw x l ∙ rw (lt-ltb x s.x i, eq-eqb (place_hops s a x) k e, c) in absurd (true≢false (sym q ∙ b)))

      pub to_next : (k word x x' : ℕ) → k < 16 → LevelWord s a skip y z k word → x ≤ x' → x' ≤ 16 → ((i : ℕ) → x ≤ i → i < x' → bit word i ≡ false) →
          (notes twos : List ℕ) → Noting p work S skip notes twos (rank_at r y z k x) → Noting p work S skip notes twos (rank_at r y z k x')
      unfolding rank_of in_set
      to_next k word x x' hk lw up most none notes twos g = pass notes twos (rank_at r y z k x) g (rank_at r y z k x') (omega arith)
          (λ w l low high.
          let q = bounds w l in
          let i = inside (shape_of p) ok w l in
          let c = at w in
          let d =
          digits (row_hops (shape_of p) (at S) c.y c.z) (c.y + 16 * c.z) (place_hops (shape_of p) (at S) c.x) c.x r (y + 16 * z) k x x' q.row q.level q.x (omega (arith, hy, hz)) hk most low high in
          let e = place_y c.y c.z y z d.row q.y hy in
          let ek' : place_hops s a c.x ≡ k = rw (same, ready.source.at) d.level in
          let lx : c.x < s.x = rw same i.x in
          rw (e.0, e.1) (shut k word lw c.x q.x (none c.x d.from d.below) lx ek'))

      -- The word of a level.
      pub level_word : (levels : List ℕ) (k left word : ℕ) → get_or levels k 0 ≡ hops_row s.x (wrapped_in s X) a.x k → get_or skip (16 * z + y) 0 < 65536 → left ≡ 65535 - get_or skip (16 * z + y) 0 →
          word ≡ bit_and (get_or levels k 0) left → LevelWord s a skip y z k word
      unfolding hops_row in_rows
      level_word levels k left word el small ef ew x l =
          let row : 16 * z + y ≡ 0 + (y + 16 * z) = omega arith in
          rw ew
          (bit_and_law (get_or levels k 0) left x
          ∙ rw (el, ef, bit_not 16 (get_or skip (16 * z + y) 0) x small l, row)
          (by_le s.x x
          (λ out. rw (row_past (λ c. eqb (place_hops s a c) k) s.x x out, le-ltb x s.x out) refl)
          (λ in'. rw (row_bit (λ c. eqb (place_hops s a c) k) s.x x in', lt-ltb x s.x in') refl)))

      -- A row whose nodes are all in the set.
      pub row_full : (left : ℕ) → get_or skip (16 * z + y) 0 < 65536 → left ≡ 65535 - get_or skip (16 * z + y) 0 → left ≡ 0 →
          (notes twos : List ℕ) → Noting p work S skip notes twos (rank_at r y z 0 0) → Noting p work S skip notes twos (rank_at r y z 16 0)
      unfolding rank_of in_set in_rows
      row_full left small ef none notes twos g = pass notes twos (rank_at r y z 0 0) g (rank_at r y z 16 0) (omega arith)
          (λ w l low high.
          let q = bounds w l in
          let c = at w in
          let d = rows_between (row_hops (shape_of p) (at S) c.y c.z) (c.y + 16 * c.z) (place_hops (shape_of p) (at S) c.x) c.x r (y + 16 * z) (y + 16 * z + 1) q.row q.level q.x (omega (arith, hy, hz)) (omega arith) (omega arith) in
          let row : 0 + (c.y + 16 * c.z) ≡ 16 * z + y = omega (arith, d.from, d.below) in
          let full : get_or skip (16 * z + y) 0 ≡ 65535 = omega arith in
          rw (row, full) (all_bits c.x q.x))

    -- ---- a plane
    module _ (z r word : ℕ) (lz : z < s.z) (pw : PlaneWord s a z r word) where
      z_small : z < 16
      z_small = omega (arith, (sound s shape_sound Z).high)

      pub due : (y : ℕ) → y < 16 → bit word y ≡ true → (y < s.y) × (z < s.z) × (r ≡ row_hops s a y z)
      due y l b =
          let u = and_true (ltb y s.y) _ (sym (pw y l) ∙ b) in
          (ltb-true y s.y u.0, lz, sym (eqb-true (row_hops s a y z) r u.1))

      pub to_row : (y y' : ℕ) → y ≤ y' → y' ≤ 16 → ((i : ℕ) → y ≤ i → i < y' → bit word i ≡ false) →
          (notes twos : List ℕ) → Noting p work S skip notes twos (65536 * r + 256 * (y + 16 * z)) → Noting p work S skip notes twos (65536 * r + 256 * (y' + 16 * z))
      unfolding rank_of
      to_row y y' up most none notes twos g = pass notes twos (65536 * r + 256 * (y + 16 * z)) g (65536 * r + 256 * (y' + 16 * z)) (omega arith)
          (λ w l low high.
          let q = bounds w l in
          let i = inside (shape_of p) ok w l in
          let c = at w in
          let d = rows_between (row_hops (shape_of p) (at S) c.y c.z) (c.y + 16 * c.z) (place_hops (shape_of p) (at S) c.x) c.x r (y + 16 * z) (y' + 16 * z) q.row q.level q.x (omega (arith, z_small)) low high in
          let e : c.z ≡ z = in_plane c.y c.z y y' z d.from d.below q.y most in
          let ly : c.y < s.y = rw same i.y in
          let at-r : row_hops s a c.y z ≡ r = rw (same, ready.source.at, ← e) d.hops in
          let set : bit word c.y ≡ true = pw c.y q.y ∙ rw (lt-ltb c.y s.y ly, eq-eqb (row_hops s a c.y z) r at-r) refl in
          absurd (true≢false (sym set ∙ none c.y (omega (arith, d.from, e)) (omega (arith, d.below, e)))))

    -- No plane is left.
    pub planes_done : (r z : ℕ) → s.z ≤ z → z ≤ s.z → (notes twos : List ℕ) → Noting p work S skip notes twos (65536 * r + 4096 * z) → Noting p work S skip notes twos (65536 * (r + 1))
    unfolding rank_of
    planes_done r z up down notes twos g = pass notes twos (65536 * r + 4096 * z) g (65536 * (r + 1)) (omega (arith, (sound s shape_sound Z).high))
        (λ w l low high.
        let q = bounds w l in
        let i = inside (shape_of p) ok w l in
        let c = at w in
        let d = rows_between (row_hops (shape_of p) (at S) c.y c.z) (c.y + 16 * c.z) (place_hops (shape_of p) (at S) c.x) c.x r (16 * z) 256 q.row q.level q.x (omega arith) (omega arith) (omega arith) in
        let lz : c.z < s.z = rw same i.z in
        absurd (omega (arith, d.from, q.y)))

    -- The word of a plane.
    pub plane_word : (rows : List ℕ) → ((k : ℕ) → k < 16 → get_or rows k 0 ≡ hops_row s.y (wrapped_in s Y) a.y k) →
        (z r far word : ℕ) → z < s.z → far ≡ axis_hops s.z (wrapped_in s Z) a.z z → word ≡ due_in rows far r → PlaneWord s a z r word
    unfolding due_in hops_row
    plane_word rows are z r far word lz ef ew y l =
        let hops-y = axis_hops s.y (wrapped_in s Y) a.y y in
        let none : (word ≡ 0) → ((y < s.y) → (row_hops s a y z ≡ r) → ⊥) → bit word y ≡ (ltb y s.y && eqb (row_hops s a y z) r) =
        λ e never. rw e (bit_none y ∙ by_le s.y y
        (λ out. rw (le-ltb y s.y out) refl)
        (λ in'. rw (lt-ltb y s.y in', ne_eqb (row_hops s a y z) r (never in')) refl)) in
        by_le far r
        (λ up. by_le 16 (r - far)
        (λ over. none (ew ∙ rw (le-ltb r far up, le-leb 16 (r - far) over) refl)
        (λ in' q. omega (arith, axis_below s.y (wrapped_in s Y) a.y y source_in_law.y in', (sound s shape_sound Y).high)))
        (λ few.
        let e : word ≡ row_of (λ c. eqb (axis_hops s.y (wrapped_in s Y) a.y c) (r - far)) s.y = ew ∙ rw (le-ltb r far up, lt-leb 16 (r - far) few) (are (r - far) few) in
        rw e (by_le s.y y
        (λ out. rw (row_past (λ c. eqb (axis_hops s.y (wrapped_in s Y) a.y c) (r - far)) s.y y out, le-ltb y s.y out) refl)
        (λ in'. rw (row_bit (λ c. eqb (axis_hops s.y (wrapped_in s Y) a.y c) (r - far)) s.y y in', lt-ltb y s.y in') (same_test hops-y (axis_hops s.z (wrapped_in s Z) a.z z) far r ef up)))))
        (λ low. none (ew ∙ rw (lt-ltb r far low) refl) (λ in' q. omega arith))

    pub begun : (twos : List ℕ) → length twos ≡ 4096 → Noting p work S skip (replicate 4096 unclear) twos 0
    begun twos wide = record {
      long = length-replicate 4096 unclear;
      wide = wide;
      made = λ k w l b. absurd (omega arith);
      left = λ w l o. get_or-replicate 4096 w unclear 0 (omega (arith, few));
      two = λ k w l b. absurd (omega arith);
    }

    pub done : (notes twos : List ℕ) → Noting p work S skip notes twos (65536 * 31) → Work p work → NotesMade p S skip notes × TwosMade p S skip notes twos
    unfolding rank_of
    done notes twos g k =
        let all : (w : ℕ) → w < node_count (shape_of p) → rank p S w < 65536 * 31 = λ w l. let q = bounds w l in omega (arith, q.x, q.row, q.level, q.hops) in (
          record {
            outside = λ w l o. g.made k w l (all w l) o;
            direct = λ w l c. test (skips w) (λ y. no_need p S w _ (g.left w l (inr y)) c) (λ o. g.made k w l (all w l) o);
          },
          record { each = λ w l o un. g.two k w l (all w l) o un },
        )
