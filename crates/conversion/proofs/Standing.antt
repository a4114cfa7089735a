-- What the entries of a good version 1 sheet say, and which of it stands as it was.
use Prim.Native.Nat.{ℕ, zero, suc, ◌+◌, ◌<◌}
use native.Mathlib.Omega.{arith}
use mathlib.Core.Path.{◌≡◌, refl, sym, ◌∙◌}
use mathlib.Core.Logic.{◌↔◌, ⊎_elim}
use mathlib.Core.Bool.{true, false, true≢false}
use mathlib.Core.List.Memᴰ
use mathlib.Core.List.{List, [], ◌∷◌, Memᴰ}
use lib.Dec.{eqb}
use Rattle.theory.proofs.Bools.{and_true}
use Rattle.theory.proofs.Cases.{test}
use Rattle.sheet.specs.Bytes.{list_from}
use Rattle.shape.specs.declared.shape.Shape.{Shape}
use Rattle.machine.specs.Node.{is_node}
use Rattle.machine.proofs.Nodes.{node_of}
use Rattle.routes.specs.declared.layout.Entry.{Entry}
use Rattle.routes.specs.Checks.{entry_good, entries_good}
use Rattle.routes.specs.Said.{said_by}
use Rattle.routes.specs.Says.{says_of}
use Rattle.routes.proofs.Entries.{cons}
use Rattle.routes.proofs.Rising.{good_entry}
use Rattle.conversion.specs.Keeping.{entry_kept, all_kept, first_lost}
use Rattle.conversion.specs.Kept.{Stands, FirstOf}
use Rattle.conversion.proofs.Legs.{adaptive_kept, answer_kept_law}
use Rattle.conversion.proofs.Said.{inside_said}

module _ (m : Shape) (S : ℕ) (h_s : is_node m S ≡ true) where
  -- An entry is kept exactly if what it says stands.
  pub entry_stands : (e : Entry) → entry_good m S e ≡ true → (entry_kept m S e ≡ true) ↔ Stands m S (said_by e)
  unfolding entry_kept
  entry_stands e h =
      let n = node_of m S h_s in
      let g = good_entry m S e h in
      answer_kept_law m n.sound S (said_by e) n.below (inside_said m e g.dest g.via g.second)

  -- A destination, listed or not.
  pub says_stands : (D : ℕ) (es : List Entry) (least : ℕ) → entries_good m S least es ≡ true → all_kept m S es ≡ true → Stands m S (says_of es D)
  unfolding says_of all_kept
  says_stands D [] least g k = (adaptive_kept m (node_of m S h_s).sound D S, tt)
  says_stands D (e ∷ es) least g k =
      let c = cons m S least e es g in
      let both = and_true (entry_kept m S e) _ k in
      test (eqb e.dest D)
      (λ t. rw t ((entry_stands e c.here).0 both.0))
      (λ t. rw t (says_stands D es (e.dest + 1) c.later both.1))

  -- All entries.
  pub all_stand : (es : List Entry) (least : ℕ) → entries_good m S least es ≡ true → all_kept m S es ≡ true → (e : Entry) → Memᴰ e es → Stands m S (said_by e)
  unfolding all_kept
  all_stand [] least g k e h = absurd (Memᴰ.not-nil h)
  all_stand (x ∷ es) least g k e h =
      let c = cons m S least x es g in
      let both = and_true (entry_kept m S x) _ k in
      ⊎_elim
      (λ q. rw q ((entry_stands x c.here).0 both.0))
      (λ t. all_stand es (x.dest + 1) c.later both.1 e t)
      (Memᴰ.cases_cons h)

  pub stand_all : (es : List Entry) (least : ℕ) → entries_good m S least es ≡ true → ((e : Entry) → Memᴰ e es → Stands m S (said_by e)) → all_kept m S es ≡ true
  unfolding all_kept
  stand_all [] least g w = refl
  stand_all (x ∷ es) least g w =
      let c = cons m S least x es g in
      rw ((entry_stands x c.here).1 (w x (Memᴰ.head refl)), stand_all es (x.dest + 1) c.later (λ e t. w e (Memᴰ.tail t)))

  -- The first that does not stand.
  pub first_lost_law :
      (f : ℕ → Entry) (n i least : ℕ) → entries_good m S least (list_from f i n) ≡ true → all_kept m S (list_from f i n) ≡ false →
      FirstOf n (λ j. Stands m S (said_by (f (i + j)))) (first_lost m S (list_from f i n))
  unfolding list_from all_kept first_lost
  first_lost_law f zero i least g k = absurd (true≢false k)
  first_lost_law f (suc n) i least g k =
      let c = cons m S least (f i) (list_from f (suc i) n) g in
      let one = entry_stands (f i) c.here in
      let here : i + 0 ≡ i = omega arith in
      test (entry_kept m S (f i))
      (λ t.
      let r = first_lost_law f n (suc i) ((f i).dest + 1) c.later (rw t at k) in
      let at : (j : ℕ) → i + (j + 1) ≡ suc i + j = λ j. omega arith in
      rw t (record {
        below = omega (arith, r.below);
        fails = λ w. r.fails (rw (at _) at w);
        before = λ j h. earlier t r j h;
      }))
      (λ t. rw t (record {
        below = omega arith;
        fails = λ w. absurd (true≢false (sym (one.1 (rw here at w)) ∙ t));
        before = λ j h. absurd (omega arith);
      }))
    where
      earlier :
          entry_kept m S (f i) ≡ true → FirstOf n (λ j. Stands m S (said_by (f (suc i + j)))) (first_lost m S (list_from f (suc i) n)) →
          (j : ℕ) → j < first_lost m S (list_from f (suc i) n) + 1 → Stands m S (said_by (f (i + j)))
      earlier t r zero h =
          let z : i + 0 ≡ i = omega arith in
          rw z ((entry_stands (f i) (cons m S least (f i) (list_from f (suc i) n) g).here).0 t)
      earlier t r (suc j) h = let z : i + suc j ≡ suc i + j = omega arith in rw z (r.before j (omega arith))
