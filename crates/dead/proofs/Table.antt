-- The table of masks, fault by fault.
use Prim.Native.Nat.{ℕ, zero, suc, ◌+◌, ◌-◌, ◌/◌, ◌^◌, ◌≤◌, ◌<◌}
use native.Mathlib.Omega.{arith}
use native.Mathlib.Decide.{ℕ_discrete}
use mathlib.Core.Path.{◌≡◌, refl, sym, ap, ◌∙◌}
use mathlib.Core.Logic.{⊎_elim}
use mathlib.Core.Bool.{Bool, true, false, cond, ◌&&◌, ◌||◌, false≢true}
use mathlib.Core.List.{List, [], ◌∷◌}
use lib.ListN.{get_or, set, length-set, replicate}
use lib.Seq.{get_or-set_same, get_or-set_other}
use lib.Dec.{eqb}
use borrow.Author.Tests.{eq-eqb, ne_eqb}
use Rattle.theory.proofs.Cases.{test}
use Rattle.sheet.specs.Bytes.{list_from}
use Rattle.sheet.proofs.Records.{from_cons, from_none}
use Rattle.sheet.proofs.Fill.{get_d_same}
use Rattle.shape.specs.declared.shape.Shape.{Shape}
use Rattle.shape.proofs.Shapes.{count_most}
use Rattle.machine.specs.Number.{node_count}
use Rattle.machine.specs.Hop.{link, neighbour, opposite}
use Rattle.machine.specs.Node.{is_node}
use Rattle.machine.proofs.Nodes.{Node, node_of}
use Rattle.machine.proofs.ByCoords.{neighbour_below}
use Rattle.plan.specs.declared.layout.Fault.{Fault}
use Rattle.plan.specs.Kinds.{link_kind, node_kind, kind_dir}
use Rattle.plan.specs.Layout.{shape_of, fault_count, fault_at, faults_of}
use Rattle.plan.specs.Checks.{Limits, torus_plans, fault_exists, plan_error}
use Rattle.plan.specs.Reading.{is_plan}
use Rattle.plan.proofs.Listed.{fault_exists_law}
use Rattle.plan.proofs.Readings.{is_no_plan}
use Rattle.dead.specs.Dead.{some, names, dead_link, bits, mask_of, mask_answer}
use Rattle.dead.specs.Steps.{odd, with_bit, Marks, mark_bit, mark_link, mark_from, mark_fault}
use Rattle.dead.proofs.Bools.{or_off, or_join, or_swap}
use Rattle.dead.proofs.Bits.{bits_set, bits_same, bits_at, bits_none, with_small}
use Rattle.dead.proofs.Links.{opposite_low, kind_low, joins, joins_from, exists_of, kills, node_kills, link_kills}

-- ---- the table keeps its length and its six bits
pub node_below : (s : Shape) (n : ℕ) → Node s n → n < 4096
unfolding node_count
node_below s n h = omega (arith, h.below, count_most s h.sound)

pub bit_marks : (t : List ℕ) (n d : ℕ) → Marks t → n < 4096 → d ≤ 5 → Marks (mark_bit t n d)
unfolding mark_bit
bit_marks t n d m h k = record { long = length-set t n _ ∙ m.long; small = λ j. go j (ℕ_discrete j n) }
  where
    go : (j : ℕ) → Dec (j ≡ n) → get_or (set t n (with_bit (get_or t n 0) d)) j 0 < 64
    go j (yes p) = rw (p, get_or-set_same t n (with_bit (get_or t n 0) d) 0 (omega (arith, m.long))) (with_small (get_or t n 0) d (m.small n) k)
    go j (no q) = rw (get_or-set_other t n j (with_bit (get_or t n 0) d) 0 q) (m.small j)

module _ (s : Shape) (n : ℕ) (hn : Node s n) where
  pub next_below : (d : ℕ) → neighbour s n d < 4096
  next_below d = node_below s (neighbour s n d) (record { sound = hn.sound; below = neighbour_below s hn.sound n hn.below d })

  pub link_marks : (t : List ℕ) (d : ℕ) → Marks t → d ≤ 5 → Marks (mark_link s t n d)
  unfolding mark_link
  link_marks t d m k =
      test (link s n d)
      (λ e. rw e (bit_marks (mark_bit t n d) (neighbour s n d) (opposite d) (bit_marks t n d m (node_below s n hn) k) (next_below d) (opposite_low d k)))
      (λ e. rw e m)

-- One direction more.
pub from_more : (s : Shape) (start t next : List ℕ) (n first d : ℕ) → first ≤ d → t ≡ mark_from s start n first (d - first) → next ≡ mark_link s t n d → next ≡ mark_from s start n first (d + 1 - first)
unfolding mark_from
from_more s start t next n first d h e q =
    let e₁ : d + 1 - first ≡ suc (d - first) = omega arith in
    let e₂ : first + (d - first) ≡ d = omega arith in
    q ∙ rw (e, e₁, e₂)

-- ---- the table says of each node's links what g says
module _ (s : Shape) where
  pub record Table (g : ℕ → ℕ → Bool) (t : List ℕ) : Type 0 where
    pub marks : Marks t
    pub is : (n : ℕ) → get_or t n 0 ≡ cond (is_node s n) (bits (g n)) 0

  pub none : Table (λ n d. false) (replicate 4096 0)
  none = record {
    marks = record { long = refl; small = λ n. rw (get_d_same {A = ℕ} 0 4096 n) (omega arith) };
    is = λ n. get_d_same {A = ℕ} 0 4096 n ∙ zeros (is_node s n);
  }
    where
      zeros : (b : Bool) → 0 ≡ cond b (bits (λ d. false)) 0
      zeros true = sym bits_none
      zeros false = refl

  pub same : (g h : ℕ → ℕ → Bool) (t : List ℕ) → ((n d : ℕ) → Node s n → d ≤ 5 → g n d ≡ h n d) → Table g t → Table h t
  same g h t e x = record { marks = x.marks; is = λ n. x.is n ∙ test (is_node s n) (λ b. rw b (bits_same (g n) (h n) (λ d k. e n d (node_of s n b) k))) (λ b. rw b) }

  module _ (g : ℕ → ℕ → Bool) (t : List ℕ) (x : Table g t) where
    bit_table : (m e : ℕ) → is_node s m ≡ true → e ≤ 5 → Table (λ n d. g n d || (eqb n m && eqb d e)) (mark_bit t m e)
    unfolding mark_bit
    bit_table m e hm k = record { marks = bit_marks t m e x.marks below k; is = λ n. go n (ℕ_discrete n m) }
      where
        below : m < 4096
        below = node_below s m (node_of s m hm)

        here : get_or t m 0 ≡ bits (g m)
        here = x.is m ∙ rw hm

        go : (n : ℕ) → Dec (n ≡ m) → get_or (set t m (with_bit (get_or t m 0) e)) n 0 ≡ cond (is_node s n) (bits (λ d. g n d || (eqb n m && eqb d e))) 0
        go n (yes p) =
            rw (p, hm, eq-eqb m m refl, get_or-set_same t m (with_bit (get_or t m 0) e) 0 (omega (arith, below, x.marks.long)), here) (bits_set (g m) e k)
        go n (no q) =
            get_or-set_other t m n (with_bit (get_or t m 0) e) 0 q
            ∙ x.is n
            ∙ ap (λ (b : ℕ). cond (is_node s n) b 0) (bits_same (g n) (λ d. g n d || (eqb n m && eqb d e)) (λ d l. rw (ne_eqb n m q) (sym (or_off (g n d)))))

pub is_node_law : (s : Shape) (n : ℕ) → Node s n → is_node s n ≡ true
unfolding is_node
is_node_law s n h = rw (eq-eqb _ 0 h.sound, borrow.Author.Tests.lt-ltb n (node_count s) h.below)

next_node : (s : Shape) (n d : ℕ) → Node s n → is_node s (neighbour s n d) ≡ true
next_node s n d h = is_node_law s (neighbour s n d) (record { sound = h.sound; below = neighbour_below s h.sound n h.below d })

module _ (s : Shape) (m : ℕ) (hm : Node s m) where
  link_table : (g : ℕ → ℕ → Bool) (t : List ℕ) → Table s g t → (e : ℕ) → e ≤ 5 → Table s (λ n d. g n d || joins s m e n d) (mark_link s t m e)
  unfolding mark_link joins
  link_table g t x e k =
      test (link s m e)
      (λ l. rw l
      (same s _ (λ n d. g n d || ((eqb n m && eqb d e) || (eqb n (neighbour s m e) && eqb d (opposite e)))) (mark_bit (mark_bit t m e) (neighbour s m e) (opposite e)) (λ n d hn b. or_join (g n d) (eqb n m && eqb d e) _)
      (bit_table s (λ n d. g n d || (eqb n m && eqb d e)) (mark_bit t m e) (bit_table s g t x m e (is_node_law s m hm) k) (neighbour s m e) (opposite e) (next_node s m e hm) (opposite_low e k))))
      (λ l. rw l (same s g (λ n d. g n d || false) t (λ n d hn b. sym (or_off (g n d))) x))

  from_table : (g : ℕ → ℕ → Bool) (t : List ℕ) → Table s g t → (e k : ℕ) → e + k ≤ 6 → Table s (λ n d. g n d || joins_from s m e k n d) (mark_from s t m e k)
  unfolding mark_from joins_from
  from_table g t x e zero h = same s g (λ n d. g n d || false) t (λ n d hn b. sym (or_off (g n d))) x
  from_table g t x e (suc k) h =
      same s (λ n d. (g n d || joins_from s m e k n d) || joins s m (e + k) n d) (λ n d. g n d || (joins_from s m e k n d || joins s m (e + k) n d)) (mark_link s (mark_from s t m e k) m (e + k)) (λ n d hn b. or_join (g n d) (joins_from s m e k n d) _)
      (link_table (λ n d. g n d || joins_from s m e k n d) (mark_from s t m e k) (from_table g t x e k (omega arith)) (e + k) (omega arith))

-- One fault more.
module _ (s : Shape) (f : Fault) (y : fault_exists s f ≡ true) where
  kind_of_law : node_kind f.kind ≡ false → link_kind f.kind ≡ true
  kind_of_law h = ⊎_elim (λ (a : node_kind f.kind ≡ true). absurd (false≢true (sym h ∙ a))) (λ a. a.0) (exists_of s f y).kind

  pub fault_table : (g : ℕ → ℕ → Bool) (t : List ℕ) → Table s g t → Table s (λ n d. g n d || kills s f n d) (mark_fault s t f)
  unfolding mark_fault
  fault_table g t x =
      let z = exists_of s f y in
      let m = f.node in
      test (node_kind f.kind)
      (λ h. rw h (same s (λ n d. g n d || joins_from s m 0 6 n d) (λ n d. g n d || kills s f n d) (mark_from s t m 0 6) (λ n d hn b. ap (◌||◌ (g n d)) (node_kills s f z n hn d h)) (from_table s m z.node g t x 0 6 (omega arith))))
      (λ h. rw h (same s (λ n d. g n d || joins_from s m (kind_dir f.kind) 1 n d) (λ n d. g n d || kills s f n d) (mark_from s t m (kind_dir f.kind) 1) (λ n d hn b. ap (◌||◌ (g n d)) (link_kills s f z n hn d h (kind_of_law h))) (from_table s m z.node g t x (kind_dir f.kind) 1 (omega (arith, kind_low f.kind)))))

-- ---- the loop, from the last fault to the first
and_off : (a : Bool) → (a && false) ≡ false
and_off true = refl
and_off false = refl

pub record Marking (L : Limits) (s : List ℕ) (m : Shape) (t : List ℕ) (i : ℕ) : Type 0 where
  pub plan : plan_error L s ≡ 0
  pub shape : m ≡ shape_of s
  pub within : i ≤ fault_count s
  pub table : Table m (dead_link m (list_from (fault_at s) i (fault_count s - i))) t

module _ (L : Limits) (s : List ℕ) (m : Shape) where
  pub begin : plan_error L s ≡ 0 → m ≡ shape_of s → (i : ℕ) → i ≡ fault_count s → Marking L s m (replicate 4096 0) i
  unfolding dead_link some
  begin h e i c = record {
    plan = h;
    shape = e;
    within = omega arith;
    table = rw (from_none (fault_at s) i (fault_count s) (omega arith)) (same m (λ n d. false) (dead_link m []) (replicate 4096 0) (λ n d hn b. sym (and_off (link m n d))) (none m));
  }

  module _ (t : List ℕ) (i : ℕ) (g : Marking L s m t i) where
    pub exists : (f : Fault) → f ≡ fault_at s (i - 1) → 0 < i → fault_exists m f ≡ true
    exists f e h = rw (e, g.shape) (fault_exists_law torus_plans L s g.plan (i - 1) (omega (arith, g.within)))

    pub onward : (f : Fault) (next : List ℕ) → f ≡ fault_at s (i - 1) → next ≡ mark_fault m t f → 0 < i → Marking L s m next (i - 1)
    unfolding dead_link some kills
    onward f next e q h =
        let rest = list_from (fault_at s) i (fault_count s - i) in
        let b : i - 1 + 1 ≡ i = omega arith in
        let more : list_from (fault_at s) (i - 1) (fault_count s - (i - 1)) ≡ f ∷ rest = from_cons (fault_at s) (i - 1) (fault_count s) (omega (arith, g.within)) ∙ rw (b, e) in
        record {
          plan = g.plan;
          shape = g.shape;
          within = omega (arith, g.within);
          table =
              rw (more, q)
              (same m (λ n d. dead_link m rest n d || kills m f n d) (dead_link m (f ∷ rest)) (mark_fault m t f) (λ n d hn b. or_swap (link m n d) (names f n d (neighbour m n d)) (some (λ x. names x n d (neighbour m n d)) rest))
              (fault_table m f (exists f e h) (dead_link m rest) t g.table));
        }

    pub ended : i ≡ 0 → (n : ℕ) → get_or t n 0 ≡ mask_answer L s n
    unfolding faults_of mask_of is_plan
    ended z n =
        let e : fault_count s - i ≡ fault_count s = omega arith in
        g.table.is n ∙ rw (e, z, g.shape, eq-eqb (plan_error L s) 0 g.plan)

pub declined_masks : (L : Limits) (s : List ℕ) (e : ℕ) → e ≡ plan_error L s → (e ≡ 0 → ⊥) → (n : ℕ) → get_or (replicate 4096 0) n 0 ≡ mask_answer L s n
declined_masks L s e h k n = get_d_same {A = ℕ} 0 4096 n ∙ rw (is_no_plan L s e h k)

-- Bit d of a node's mask says whether the link leaving it in direction d is dead.
pub mask_bit : (s : Shape) (fs : List Fault) (n d : ℕ) → d ≤ 5 → odd (mask_of s fs n / 2 ^ d) ≡ dead_link s fs n d
unfolding mask_of
mask_bit s fs n d h = bits_at (dead_link s fs n) d h
