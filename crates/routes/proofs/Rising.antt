-- What the entries that check 13 accepts are: of nodes, rising strictly, and at most 4,095.
use Prim.Native.Nat.{ℕ, zero, suc, ◌+◌, ◌≤◌, ◌<◌}
use native.Mathlib.Omega.{arith}
use mathlib.Core.Path.{◌≡◌}
use mathlib.Core.Bool.{true, not, ◌&&◌}
use mathlib.Core.List.{List, [], ◌∷◌}
use lib.ListN.{length, get_or}
use lib.Dec.{eqb}
use borrow.Author.Tests.{eqb-true, eqb-false, not-true}
use Rattle.theory.proofs.Bools.{and_true}
use Rattle.theory.proofs.Cases.{test, by_order}
use Rattle.sheet.specs.Bytes.{list_from}
use Rattle.shape.specs.declared.shape.Shape.{Shape}
use Rattle.shape.proofs.Shapes.{count_most}
use Rattle.machine.specs.Number.{node_count}
use Rattle.machine.specs.Node.{is_node}
use Rattle.machine.proofs.Nodes.{node_of}
use Rattle.routes.specs.declared.layout.Entry.{Entry}
use Rattle.routes.specs.Layout.{EntryFits, no_entry, most_entries}
use Rattle.routes.specs.Kinds.{plain_kind, via_kind, vias_kind}
use Rattle.routes.specs.Checks.{is_via, via_good, entry_good, entries_good, routes_good}
use Rattle.routes.proofs.Entries.{cons}

-- Each of the entries fits.
abbrev pub AllFit : List Entry → Type 0
AllFit es = (i : ℕ) → i < length es → EntryFits (get_or es i no_entry)

-- Destinations rise strictly, from least on.
abbrev pub Rising : ℕ → List Entry → Type 0
Rising least [] = Unit {0}
Rising least (e ∷ es) = (least ≤ e.dest) × Rising (e.dest + 1) es

module _ (m : Shape) (S : ℕ) where
  pub record Good (e : Entry) : Type 0 where
    pub dest : e.dest < node_count m
    pub other : e.dest ≡ S → ⊥
    pub via : e.via < node_count m
    pub second : e.second < node_count m

  node_via : (D v : ℕ) → is_via m S D v ≡ true → v < node_count m
  unfolding is_via
  node_via D v h = (node_of m v (and_true (is_node m v) _ h).0).below

  -- An absent via is 0, which is a node as well.
  vias_below : (e : Entry) → 0 < node_count m → via_good m S e ≡ true → (e.via < node_count m) × (e.second < node_count m)
  unfolding via_good
  vias_below e some h =
      test (vias_kind e.kind)
      (λ t.
      let p = and_true (is_via m S e.dest e.via) _ (rw t at h) in
      (node_via e.dest e.via p.0, node_via e.dest e.second (and_true (is_via m S e.dest e.second) _ p.1).0))
      (λ t. test (via_kind e.kind)
      (λ u.
      let p = and_true (is_via m S e.dest e.via) _ (rw (t, u) at h) in
      (node_via e.dest e.via p.0, none e.second p.1))
      (λ u.
      let p = and_true (plain_kind e.kind) _ (rw (t, u) at h) in
      let q = and_true (eqb e.via 0) _ p.1 in
      (none e.via q.0, none e.second q.1)))
    where
      none : (v : ℕ) → eqb v 0 ≡ true → v < node_count m
      none v z = let k = eqb-true v 0 z in omega arith

  pub good_entry : (e : Entry) → entry_good m S e ≡ true → Good e
  unfolding entry_good
  good_entry e h =
      let p = and_true (is_node m e.dest && not (eqb e.dest S)) _ h in
      let q = and_true (is_node m e.dest) _ p.0 in
      let d = (node_of m e.dest q.0).below in
      let v = vias_below e (omega arith) p.1 in
      record { dest = d; other = eqb-false e.dest S (not-true _ q.1); via = v.0; second = v.1 }

  -- Each of the entries is good.
  pub each_good : (f : ℕ → Entry) (n i least : ℕ) → entries_good m S least (list_from f i n) ≡ true → (j : ℕ) → i ≤ j → j < i + n → entry_good m S (f j) ≡ true
  unfolding list_from
  each_good f zero i least h j a b = absurd (omega arith)
  each_good f (suc n) i least h j a b =
      let c = cons m S least (f i) _ h in
      by_order i j
      (λ k. each_good f n (suc i) ((f i).dest + 1) c.later j (omega arith) (omega arith))
      (λ k. rw (← k) c.here)
      (λ k. absurd (omega arith))

  rising : (es : List Entry) (least : ℕ) → entries_good m S least es ≡ true → Rising least es
  rising [] least h = tt
  rising (e ∷ es) least h = let c = cons m S least e es h in (c.rises, rising es (e.dest + 1) c.later)

  fit : node_count m ≤ 4096 → (es : List Entry) (least : ℕ) → entries_good m S least es ≡ true → AllFit es
  fit b [] least h i k = absurd (omega arith)
  fit b (e ∷ es) least h zero k = let g = good_entry e (cons m S least e es h).here in let v = g.via in let u = g.second in record { dest = omega arith; via = omega arith; second = omega arith }
  fit b (e ∷ es) least h (suc i) k = fit b es (e.dest + 1) (cons m S least e es h).later i (omega arith)

  -- The nodes from least on, without the source, are enough for them.
  room : S < node_count m → (es : List Entry) (least : ℕ) → least ≤ node_count m → entries_good m S least es ≡ true → (length es + least ≤ node_count m) × (least ≤ S → length es + 1 + least ≤ node_count m)
  room b [] least l h = (omega arith, λ k. omega arith)
  room b (e ∷ es) least l h =
      let c = cons m S least e es h in
      let g = good_entry e c.here in
      let up = c.rises in
      let dest = g.dest in
      let r = room b es (e.dest + 1) (omega arith) c.later in
      by_order e.dest S
      (λ k. let z = r.1 (omega arith) in (omega arith, λ w. omega arith))
      (λ k. absurd (g.other k))
      (λ k. let z = r.0 in (omega arith, λ w. omega arith))

-- Routes that check 13 accepts.
pub record Routed (m : Shape) (S : ℕ) (es : List Entry) : Type 0 where
  pub source : S < 65536
  pub few : length es ≤ most_entries
  pub fit : AllFit es
  pub rising : Rising 0 es

pub routed : (m : Shape) (S : ℕ) (es : List Entry) → routes_good m S es ≡ true → Routed m S es
unfolding routes_good node_count
routed m S es h =
    let p = and_true (is_node m S) _ h in
    let n = node_of m S p.0 in
    let most = count_most m n.sound in
    let below = n.below in
    let r = (room m S below es 0 (omega arith) p.1).1 (omega arith) in
    record { source = omega arith; few = omega arith; fit = fit m S most es 0 p.1; rising = rising m S es 0 p.1 }
