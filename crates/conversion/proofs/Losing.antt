-- One pass over the entries: check 13, and the first entry that cannot be kept.
use Prim.Native.Nat.{ℕ, ◌+◌, ◌-◌, ◌≤◌, ◌<◌}
use native.Mathlib.Omega.{arith}
use mathlib.Core.Path.{◌≡◌, refl, sym, ap, ◌∙◌}
use mathlib.Core.Bool.{Bool, true, false}
use mathlib.Core.List.{List, [], ◌∷◌}
use lib.ListN.{length}
use lib.Dec.{leb}
use Rattle.std.specs.Prelude.{Option, Some, None, Ok, Err}
use Rattle.std.specs.Option.{option_or}
use Rattle.std.proofs.lemmas.Option.{none-some}
use Rattle.numbers.specs.declared.Refusal.TheVariants.{WrongRouteSheet}
use Rattle.theory.proofs.Bools.{and_true}
use Rattle.theory.proofs.Cases.{test}
use Rattle.sheet.specs.Bytes.{list_from}
use Rattle.sheet.proofs.Records.{from_cons, from_none, from_length}
use Rattle.shape.specs.declared.shape.Shape.{Shape}
use Rattle.machine.specs.Node.{is_node}
use Rattle.machine.proofs.Nodes.{is_node_law}
use Rattle.routes.specs.declared.layout.Entry.{Entry}
use Rattle.routes.specs.Layout.{first, entry_count, entry_in, entries_in}
use Rattle.routes.specs.Checks.{next_good, entries_good}
use Rattle.routes.proofs.Entries as Entries
use Rattle.routes.proofs.Entries.{Checking}
use Rattle.routes.proofs.Rising.{good_entry}
use Rattle.conversion.specs.Keeping.{entry_kept, all_kept, first_lost}
use Rattle.conversion.specs.declared.judge.NotConverted.TheVariants.{Refused, Lost}
use Rattle.conversion.specs.Steps.{Judged}

module _ (m : Shape) (S : ℕ) where
  first_here : (e : Entry) (es : List Entry) → entry_kept m S e ≡ false → first_lost m S (e ∷ es) ≡ 0
  unfolding first_lost
  first_here e es k = rw k

  first_later : (e : Entry) (es : List Entry) → entry_kept m S e ≡ true → first_lost m S (e ∷ es) ≡ first_lost m S es + 1
  unfolding first_lost
  first_later e es k = rw k

  -- All can be kept exactly if none is the first that cannot.
  pub first_most : (es : List Entry) → first_lost m S es ≤ length es
  unfolding first_lost
  first_most [] = omega arith
  first_most (e ∷ es) = test (entry_kept m S e) (λ k. rw k (omega (arith, first_most es))) (λ k. rw k (omega arith))

  pub all_kept_law : (es : List Entry) → length es ≤ first_lost m S es → all_kept m S es ≡ true
  unfolding first_lost all_kept
  all_kept_law [] h = refl
  all_kept_law (e ∷ es) h =
      test (entry_kept m S e)
      (λ k. rw k (all_kept_law es (let z = rw k at h in omega arith)))
      (λ k. absurd (let z = rw k at h in omega arith))

  pub some_lost : (es : List Entry) → first_lost m S es < length es → all_kept m S es ≡ false
  unfolding first_lost all_kept
  some_lost [] h = absurd (omega arith)
  some_lost (e ∷ es) h =
      test (entry_kept m S e)
      (λ k. rw k (some_lost es (let z = rw k at h in omega arith)))
      (λ k. rw k)

one_of : (o : Option ℕ) (i : ℕ) → option_or o (Some i) ≡ None → ⊥
one_of None i h = none-some i (sym h)
one_of (Some k) i h = none-some k (sym h)

-- What is judged of entries: not good, all kept, or one lost.
module _ (good : Bool) (m : Shape) (S : ℕ) (s : List ℕ) where
  pub judged_wrong : good ≡ false → Judged good m S s (Err (Refused WrongRouteSheet))
  judged_wrong h = record { number = rw h; entry = rw h }

  pub judged_kept : good ≡ true → all_kept m S (entries_in first s) ≡ true → Judged good m S s (Ok tt)
  judged_kept h k = record { number = rw (h, k); entry = rw (h, k) }

  pub judged_lost : good ≡ true → all_kept m S (entries_in first s) ≡ false → (i : ℕ) → first_lost m S (entries_in first s) ≡ i → Judged good m S s (Err (Lost i))
  judged_lost h k i is = record { number = rw (h, k); entry = rw (h, k, is) }

-- The ends of an entry that check 13 accepts are nodes.
pub next_nodes : (m : Shape) (S least : ℕ) (e : Entry) → is_node m S ≡ true → next_good m S least e ≡ true → (is_node m e.dest ≡ true) × ((is_node m e.via ≡ true) × (is_node m e.second ≡ true))
unfolding next_good
next_nodes m S least e h_s x =
    let g = good_entry m S e (and_true (leb least e.dest) _ x).1 in
    (is_node_law m S h_s e.dest g.dest, (is_node_law m S h_s e.via g.via, is_node_law m S h_s e.second g.second))

-- With i of n entries passed, and the first of them that cannot be kept.
pub record Losing (s : List ℕ) (m : Shape) (S n least : ℕ) (lost : Option ℕ) (i : ℕ) : Type 0 where
  pub checking : Checking (entry_in first s) s m S n least i
  pub found : (k : ℕ) → lost ≡ Some k → (k < n) × (first_lost m S (entries_in first s) ≡ k)
  pub rest : lost ≡ None → first_lost m S (entries_in first s) ≡ i + first_lost m S (list_from (entry_in first s) i (n - i))

module _ (s : List ℕ) (m : Shape) (S n : ℕ) where
  pub begin : n ≡ entry_count s → Losing s m S n 0 None 0
  begin e = record {
    checking = Entries.begin (entry_in first s) s m S n e;
    found = λ k q. absurd (none-some k q);
    rest = λ _. let z : n - 0 ≡ entry_count s = omega arith in rw z (omega arith);
  }

  module _ (least : ℕ) (lost : Option ℕ) (i : ℕ) (g : Losing s m S n least lost i) where
    good : n ≤ i → entries_good m S 0 (entries_in first s) ≡ true
    good h = sym (Entries.ended (entry_in first s) s m S n least i g.checking h)

    size : length (entries_in first s) ≡ n
    size = from_length (entry_in first s) (entry_count s) 0 ∙ sym g.checking.count

    pub ended_kept : n ≤ i → lost ≡ None → Judged (entries_good m S 0 (entries_in first s)) m S s (Ok tt)
    unfolding first_lost
    ended_kept h q =
        let none : first_lost m S (list_from (entry_in first s) i (n - i)) ≡ 0 = ap (first_lost m S) (from_none (entry_in first s) i n h) in
        judged_kept _ m S s (good h) (all_kept_law m S (entries_in first s) (omega (arith, g.rest q, none, size)))

    pub ended_lost : n ≤ i → (k : ℕ) → lost ≡ Some k → Judged (entries_good m S 0 (entries_in first s)) m S s (Err (Lost k))
    ended_lost h k q =
        let f = g.found k q in
        judged_lost _ m S s (good h) (some_lost m S (entries_in first s) (omega (arith, f.0, f.1, size))) k f.1

    module _ (e : Entry) (q : e ≡ entry_in first s i) (h : i < n) where
      pub refused : next_good m S least e ≡ false → Judged (entries_good m S 0 (entries_in first s)) m S s (Err (Refused WrongRouteSheet))
      refused x = judged_wrong _ m S s (sym (Entries.refused (entry_in first s) s m S n least i g.checking e q h x))

      turn : lost ≡ None → first_lost m S (entries_in first s) ≡ i + first_lost m S (e ∷ list_from (entry_in first s) (i + 1) (n - (i + 1)))
      turn z = g.rest z ∙ ap (λ (l : List Entry). i + first_lost m S l) (from_cons (entry_in first s) i n h) ∙ rw q

      module _ (x : next_good m S least e ≡ true) (b : e.dest < 65536) where
        checked : Checking (entry_in first s) s m S n (e.dest + 1) (i + 1)
        checked = Entries.onward (entry_in first s) s m S n least i g.checking e q h x b

        pub stays : entry_kept m S e ≡ true → Losing s m S n (e.dest + 1) lost (i + 1)
        stays k = record {
          checking = checked;
          found = g.found;
          rest = λ z. omega (arith, turn z, first_later m S e (list_from (entry_in first s) (i + 1) (n - (i + 1))) k);
        }

        -- It is the first, unless one was found before.
        pub finds : entry_kept m S e ≡ false → Losing s m S n (e.dest + 1) (option_or lost (Some i)) (i + 1)
        finds k = record {
          checking = checked;
          found = λ j w. go lost refl j w;
          rest = λ w. absurd (one_of lost i w);
        }
          where
            go : (o : Option ℕ) → lost ≡ o → (j : ℕ) → option_or o (Some i) ≡ Some j → (j < n) × (first_lost m S (entries_in first s) ≡ j)
            go None z j w = let same : i ≡ j = cc in (omega arith, omega (arith, turn z, first_here m S e (list_from (entry_in first s) (i + 1) (n - (i + 1))) k))
            go (Some x) z j w = g.found j (z ∙ w)
