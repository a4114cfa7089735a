-- Entries that say a choice or a refusal: they are read back, and check 13 accepts them.
use Prim.Native.Nat.{ℕ, zero, suc, ◌<◌}
use native.Mathlib.Omega.{arith}
use mathlib.Core.Path.{◌≡◌, refl, sym, ap, subst}
use mathlib.Core.Bool.{true, false}
use mathlib.Core.List.{[], ◌∷◌}
use lib.Dec.{eqb}
use borrow.Author.Tests.{eq-eqb, ne_eqb, lt-ltb}
use Rattle.numbers.specs.Numbers.{dead_end, no_clear_choice}
use Rattle.numbers.specs.Refusals.{number, refusal}
use Rattle.theory.specs.Machine.{end_by}
use Rattle.theory.proofs.Cases.{by_le}
use Rattle.shape.specs.declared.shape.Shape.{Shape}
use Rattle.machine.specs.declared.leg.Mode.{Mode}
use Rattle.machine.specs.declared.leg.Mode.TheVariants.{Adaptive, Deterministic}
use Rattle.machine.specs.Number.{node_count}
use Rattle.machine.specs.Node.{is_node}
use Rattle.machine.specs.Torus.{leg}
use Rattle.machine.proofs.Nodes.{node_of}
use Rattle.packet.specs.New.{legs_to}
use Rattle.choice.specs.declared.outcome.Outcome.{Outcome}
use Rattle.choice.specs.Choice.{Choice, AdmitsIn, vias_of, targets_of, modes_of}
use Rattle.choice.specs.Answer.{Given, Refused}
use Rattle.choice.specs.Outcome.{told, told_as}
use Rattle.choice.proofs.Told.{number-refusal, refusal_past}
use Rattle.routes.specs.declared.layout.Entry.{Entry}
use Rattle.routes.specs.Kinds.{bits_of, kind_of, refused_kind, plain_kind, via_kind, vias_kind}
use Rattle.routes.specs.Said.{mode_by, said_with, said_by, entry_for, heard}
use Rattle.routes.specs.Checks.{is_via, via_good, entry_good}

-- What holds of one leg to D, of two legs of which the second is to D, and of three of which the third is, holds of every admitted choice.
pub admitted_legs :
    (Q : Choice → Type 0) (s : Shape) (S D : ℕ) →
    ((m : Mode) → Q (leg D m ∷ [])) →
    ((v : ℕ) (m n : Mode) → AdmitsIn s S D (leg v m ∷ leg D n ∷ []) → Q (leg v m ∷ leg D n ∷ [])) →
    ((v u : ℕ) (m n o : Mode) → AdmitsIn s S D (leg v m ∷ leg u n ∷ leg D o ∷ []) → Q (leg v m ∷ leg u n ∷ leg D o ∷ [])) →
    (c : Choice) → AdmitsIn s S D c → Q c
unfolding end_by vias_of
admitted_legs Q s S D one two three [] a = absurd (none (a.self a.ends))
  where
    size : Choice → ℕ
    size [] = 0
    size (l ∷ ls) = 1

    none : ◌≡◌ {A = Choice} [] (leg D Adaptive ∷ []) → ⊥
    none e = let z : ◌≡◌ {A = ℕ} 0 1 = ap size e in absurd (omega arith)
admitted_legs Q s S D one two three (l ∷ []) a = let e : D ≡ l.target = sym a.ends in rw e at (one l.mode)
admitted_legs Q s S D one two three (l ∷ m ∷ []) a =
    let is : ◌≡◌ {A = Choice} (l ∷ m ∷ []) (leg l.target l.mode ∷ leg D m.mode ∷ []) = ap (λ t. l ∷ leg t m.mode ∷ []) a.ends in
    subst Q (sym is) (two l.target l.mode m.mode (subst (AdmitsIn s S D) is a))
admitted_legs Q s S D one two three (l ∷ m ∷ n ∷ []) a =
    let is : ◌≡◌ {A = Choice} (l ∷ m ∷ n ∷ []) (leg l.target l.mode ∷ leg m.target m.mode ∷ leg D n.mode ∷ []) = ap (λ t. l ∷ m ∷ leg t n.mode ∷ []) a.ends in
    subst Q (sym is) (three l.target m.target l.mode m.mode n.mode (subst (AdmitsIn s S D) is a))
admitted_legs Q s S D one two three (l ∷ m ∷ n ∷ o ∷ ls) a = let h = a.few in absurd (omega arith)

-- A refusal that the code's enum has no cause for has no kind either.
refused_kept : (D e : ℕ) → entry_for D (Refused (number (refusal e))) ≡ entry_for D (Refused e)
unfolding entry_for refused_kind
refused_kept D e =
    by_le 1 e
    (λ a. by_le e 18
    (λ b. rw (number-refusal e (omega arith) (omega arith)))
    (λ b. rw (refusal_past e b, ne_eqb e dead_end (λ z. omega arith), ne_eqb e no_clear_choice (λ z. omega arith))))
    (λ a. let z : e ≡ 0 = omega arith in rw z)

-- The entry of an answer, from the code's enum of it.
module _ (far : ℕ → ℕ → ℕ) where
  pub entry_told : (s : Shape) (S D : ℕ) (c : Choice) → AdmitsIn s S D c → entry_for D (heard D (told far S (Given c))) ≡ entry_for D (Given c)
  unfolding heard told told_as legs_to
  entry_told s S D c a = admitted_legs (λ c. entry_for D (heard D (told far S (Given c))) ≡ entry_for D (Given c)) s S D (λ m. refl) (λ v m n _. refl) (λ v u m n o _. refl) c a

  pub refusal_told : (S D e : ℕ) → entry_for D (heard D (told far S (Refused e))) ≡ entry_for D (Refused e)
  unfolding heard told
  refusal_told S D e = refused_kept D e

-- A kind that tells no route.
pub refused_with : (n k len : ℕ) (e : Entry) → 2 < n → Outcome.Refused (refusal n) ≡ told_as len (said_with n k e)
unfolding told_as
refused_with zero k len e h = absurd (omega arith)
refused_with (suc zero) k len e h = absurd (omega arith)
refused_with (suc (suc zero)) k len e h = absurd (omega arith)
refused_with (suc (suc (suc n))) k len e h = refl

-- An entry says what it was made for.
module _ (D : ℕ) where
  abbrev Said : Choice → Type 0
  Said c = said_by (entry_for D (Given c)) ≡ Given c

  one_said : (m : Mode) → Said (leg D m ∷ [])
  unfolding said_by mode_by entry_for vias_of modes_of kind_of bits_of
  one_said Adaptive = refl
  one_said Deterministic = refl

  two_said : (v : ℕ) (m n : Mode) → Said (leg v m ∷ leg D n ∷ [])
  unfolding said_by mode_by entry_for vias_of modes_of kind_of bits_of
  two_said v Adaptive Adaptive = refl
  two_said v Adaptive Deterministic = refl
  two_said v Deterministic Adaptive = refl
  two_said v Deterministic Deterministic = refl

  three_said : (v u : ℕ) (m n o : Mode) → Said (leg v m ∷ leg u n ∷ leg D o ∷ [])
  unfolding said_by mode_by entry_for vias_of modes_of kind_of bits_of
  three_said v u Adaptive Adaptive Adaptive = refl
  three_said v u Adaptive Adaptive Deterministic = refl
  three_said v u Adaptive Deterministic Adaptive = refl
  three_said v u Adaptive Deterministic Deterministic = refl
  three_said v u Deterministic Adaptive Adaptive = refl
  three_said v u Deterministic Adaptive Deterministic = refl
  three_said v u Deterministic Deterministic Adaptive = refl
  three_said v u Deterministic Deterministic Deterministic = refl

  pub says_choice : (s : Shape) (S : ℕ) (c : Choice) → AdmitsIn s S D c → said_by (entry_for D (Given c)) ≡ Given c
  says_choice s S c a = admitted_legs Said s S D one_said (λ v m n _. two_said v m n) (λ v u m n o _. three_said v u m n o) c a

  pub says_dead : said_by (entry_for D (Refused dead_end)) ≡ Refused dead_end
  unfolding said_by entry_for refused_kind
  says_dead = refl

  pub says_none : said_by (entry_for D (Refused no_clear_choice)) ≡ Refused no_clear_choice
  unfolding said_by entry_for refused_kind
  says_none = refl

-- ---- the entry of an admitted choice that is not direct and adaptive, of 10 and of 11 is good
module _ (s : Shape) (S D : ℕ) (node : is_node s D ≡ true) (other : D ≡ S → ⊥) where
  via_is : (v : ℕ) → v < node_count s → (S ≡ v → ⊥) → (v ≡ D → ⊥) → is_via s S D v ≡ true
  unfolding is_via is_node
  via_is v b x y = rw (ne_eqb v S (λ e. x (sym e)), ne_eqb v D y, lt-ltb v (node_count s) b, eq-eqb _ 0 (node_of s D node).sound)

  abbrev ViaGood : Choice → Type 0
  ViaGood c = via_good s S (entry_for D (Given c)) ≡ true

  one_good : (m : Mode) → ((leg D m ∷ []) ≡ (leg D Adaptive ∷ []) → ⊥) → ViaGood (leg D m ∷ [])
  unfolding via_good entry_for vias_of modes_of kind_of bits_of plain_kind via_kind vias_kind
  one_good Adaptive h = absurd (h refl)
  one_good Deterministic h = refl

  two_kinds : (v : ℕ) (m n : Mode) → is_via s S D v ≡ true → ViaGood (leg v m ∷ leg D n ∷ [])
  unfolding via_good entry_for vias_of modes_of kind_of bits_of via_kind vias_kind
  two_kinds v Adaptive Adaptive h = rw h
  two_kinds v Adaptive Deterministic h = rw h
  two_kinds v Deterministic Adaptive h = rw h
  two_kinds v Deterministic Deterministic h = rw h

  two_good : (v : ℕ) (m n : Mode) → AdmitsIn s S D (leg v m ∷ leg D n ∷ []) → ViaGood (leg v m ∷ leg D n ∷ [])
  unfolding vias_of targets_of
  two_good v m n a =
      let x = a.apart (λ e. other (sym e)) in
      two_kinds v m n (via_is v a.inside.0 x.0.0 x.1.0.0)

  three_kinds : (v u : ℕ) (m n o : Mode) → is_via s S D v ≡ true → is_via s S D u ≡ true → eqb v u ≡ false → ViaGood (leg v m ∷ leg u n ∷ leg D o ∷ [])
  unfolding via_good entry_for vias_of modes_of kind_of bits_of vias_kind
  three_kinds v u Adaptive Adaptive Adaptive h k d = rw (h, k, d)
  three_kinds v u Adaptive Adaptive Deterministic h k d = rw (h, k, d)
  three_kinds v u Adaptive Deterministic Adaptive h k d = rw (h, k, d)
  three_kinds v u Adaptive Deterministic Deterministic h k d = rw (h, k, d)
  three_kinds v u Deterministic Adaptive Adaptive h k d = rw (h, k, d)
  three_kinds v u Deterministic Adaptive Deterministic h k d = rw (h, k, d)
  three_kinds v u Deterministic Deterministic Adaptive h k d = rw (h, k, d)
  three_kinds v u Deterministic Deterministic Deterministic h k d = rw (h, k, d)

  three_good : (v u : ℕ) (m n o : Mode) → AdmitsIn s S D (leg v m ∷ leg u n ∷ leg D o ∷ []) → ViaGood (leg v m ∷ leg u n ∷ leg D o ∷ [])
  unfolding vias_of targets_of
  three_good v u m n o a =
      let x = a.apart (λ e. other (sym e)) in
      three_kinds v u m n o
      (via_is v a.inside.0 x.0.0 x.1.0.1.0)
      (via_is u a.inside.1.0 x.0.1.0 x.1.1.0.0)
      (ne_eqb v u x.1.0.0)

  pub choice_good : (c : Choice) → AdmitsIn s S D c → (c ≡ leg D Adaptive ∷ [] → ⊥) → entry_good s S (entry_for D (Given c)) ≡ true
  unfolding entry_good entry_for
  choice_good c a h =
      rw (node, ne_eqb D S other)
      (admitted_legs (λ c. (c ≡ leg D Adaptive ∷ [] → ⊥) → ViaGood c) s S D one_good (λ v m n a _. two_good v m n a) (λ v u m n o a _. three_good v u m n o a) c a h)

  pub dead_good : entry_good s S (entry_for D (Refused dead_end)) ≡ true
  unfolding entry_good entry_for refused_kind via_good plain_kind via_kind vias_kind
  dead_good = rw (node, ne_eqb D S other)

  pub none_good : entry_good s S (entry_for D (Refused no_clear_choice)) ≡ true
  unfolding entry_good entry_for refused_kind via_good plain_kind via_kind vias_kind
  none_good = rw (node, ne_eqb D S other)
