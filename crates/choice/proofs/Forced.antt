-- The modes of the first clear choice are forced: adaptive wherever the leg is clear so. The mode order never decides. For any number of vias.
use Prim.Native.Nat.{ℕ, suc, ◌+◌, ◌<◌, ◌≤◌}
use native.Mathlib.Omega.{arith}
use mathlib.Core.Path.{◌≡◌, refl, sym, ap, ◌∙◌}
use mathlib.Core.Bool.{Bool, true, true≢false}
use mathlib.Core.List.{[], ◌∷◌, ◌++◌, append_assoc}
use mathlib.Core.Option.{some}
use lib.ListN.{length}
use Rattle.theory.specs.Machine.{end_by, sum_by}
use Rattle.theory.specs.Clear.{clear_by}
use Rattle.theory.specs.Choice.{First}
use Rattle.theory.proofs.Bools.{and_true}
use Rattle.theory.proofs.Cases.{test}
use Rattle.theory.proofs.Choice.{lex_less, lex_same, best_is, first_not_later}
use Rattle.machine.specs.declared.leg.Leg.{Leg}
use Rattle.machine.specs.declared.leg.Mode.{Mode}
use Rattle.machine.specs.declared.leg.Mode.TheVariants.{Adaptive, Deterministic}
use Rattle.machine.specs.Torus.{leg}
use Rattle.choice.specs.Choice.{Choice, targets_of, dets_of, end_from, length_from, key_of, before, Admits, choices_by}
use Rattle.choice.specs.Further.{clear_choice, first_by, better}
use Rattle.choice.specs.Search.{Forced}
use Rattle.choice.proofs.Lists.{vias_legs, end_behind, below_vias, below_targets}
use Rattle.choice.proofs.Keys.{before_order}
use Rattle.choice.proofs.Listed.{admits_lists, lists_admits}

-- One leg in the other mode: what stays.
module _ (t : ℕ) (ls : Choice) where
  abbrev with_mode : Choice → Mode → Choice
  with_mode a m = a ++ (leg t m ∷ ls)

  mode_length : (far : ℕ → ℕ → ℕ) (p : ℕ) (a : Choice) → length_from far p (with_mode a Adaptive) ≡ length_from far p (with_mode a Deterministic)
  unfolding sum_by
  mode_length far p [] = refl
  mode_length far p (x ∷ a) = ap (λ r. far p x.target + r) (mode_length far x.target a)

  mode_dets : (a : Choice) → suc (dets_of (with_mode a Adaptive)) ≡ dets_of (with_mode a Deterministic)
  unfolding dets_of
  mode_dets [] = omega arith
  mode_dets (x ∷ a) = omega (arith, mode_dets a)

  mode_targets : (a : Choice) → targets_of (with_mode a Adaptive) ≡ targets_of (with_mode a Deterministic)
  unfolding targets_of
  mode_targets [] = refl
  mode_targets (x ∷ a) = ap (λ r. x.target ∷ r) (mode_targets a)

  mode_end : (p : ℕ) (a : Choice) → end_from p (with_mode a Adaptive) ≡ end_from p (with_mode a Deterministic)
  unfolding end_by
  mode_end p [] = refl
  mode_end p (x ∷ a) = mode_end x.target a

  mode_count : (a : Choice) → (1 ≤ length (with_mode a Adaptive)) × (length (with_mode a Adaptive) ≡ length (with_mode a Deterministic))
  mode_count [] = (omega arith, refl)
  mode_count (x ∷ a) = (omega arith, ap suc (mode_count a).1)

  mode_clear : (clear : Leg → ℕ → Bool) (p : ℕ) (a : Choice) → clear_choice clear p (with_mode a Deterministic) ≡ true → clear (leg t Adaptive) (end_from p a) ≡ true → clear_choice clear p (with_mode a Adaptive) ≡ true
  unfolding clear_by end_by
  mode_clear clear p [] h k = rw (k, (and_true (clear (leg t Deterministic) p) (clear_choice clear t ls) h).1)
  mode_clear clear p (x ∷ a) h k = let b = and_true (clear x p) (clear_choice clear x.target (with_mode a Deterministic)) h in rw (b.0, mode_clear clear x.target a b.1 k)

clear_at : (clear : Leg → ℕ → Bool) (p : ℕ) (a : Choice) (l : Leg) (ls : Choice) → clear_choice clear p (a ++ (l ∷ ls)) ≡ true → clear l (end_from p a) ≡ true
unfolding clear_by end_by
clear_at clear p [] l ls h = (and_true (clear l p) (clear_choice clear l.target ls) h).0
clear_at clear p (x ∷ a) l ls h = clear_at clear x.target a l ls (and_true (clear x p) (clear_choice clear x.target (a ++ (l ∷ ls))) h).1

module _ (far : ℕ → ℕ → ℕ) (clear : Leg → ℕ → Bool) (k n S D : ℕ) (target : D < n) where
  abbrev IsFirst : Choice → Type 0
  IsFirst c = First (before far S) (clear_choice clear S) (choices_by k n S D) c

  mode_before : (t : ℕ) (a ls : Choice) → before far S (with_mode t ls a Adaptive) (with_mode t ls a Deterministic) ≡ true
  unfolding key_of
  mode_before t a ls =
      let one = mode_length t ls far S a in
      let two = mode_dets t ls a in
      lex_same (length_from far S (with_mode t ls a Adaptive)) (length_from far S (with_mode t ls a Deterministic)) _ _ one
      ∙ lex_less (dets_of (with_mode t ls a Adaptive)) (dets_of (with_mode t ls a Deterministic)) _ _ (omega arith)

  mode_admits : (t : ℕ) (a ls : Choice) → Admits k n S D (with_mode t ls a Deterministic) → Admits k n S D (with_mode t ls a Adaptive)
  unfolding dets_of
  mode_admits t a ls adm =
      let count = mode_count t ls a in
      let some = count.0 in
      let same = count.1 in
      let one = vias_legs (with_mode t ls a Adaptive) some in
      let two = vias_legs (with_mode t ls a Deterministic) (omega arith) in
      let few = adm.few in
      let all = below_targets n S (with_mode t ls a Deterministic) (rw adm.ends target) adm.inside in
      let dets = mode_dets t ls a in
      record {
        ends = mode_end t ls S a ∙ adm.ends;
        few = omega arith;
        inside = below_vias n (with_mode t ls a Adaptive) (rw (mode_targets t ls a) all);
        apart = λ ne. rw (mode_targets t ls a) (adm.apart ne);
        self = λ e. let q : dets_of (with_mode t ls a Deterministic) ≡ 0 = ap dets_of (adm.self e) in absurd (omega arith);
      }

  forced_one : (t : ℕ) (m : Mode) (a ls : Choice) → IsFirst (with_mode t ls a m) → better clear (end_from S a) t ≡ some (leg t m)
  unfolding better
  forced_one t Adaptive a ls f = rw (clear_at clear S a (leg t Adaptive) ls f.passes)
  forced_one t Deterministic a ls f = test (clear (leg t Adaptive) (end_from S a))
      (λ h.
      let adm = mode_admits t a ls (lists_admits k n S D (with_mode t ls a Deterministic) f.listed) in
      let later = first_not_later (before far S) (before_order far S) (clear_choice clear S) (choices_by k n S D) (with_mode t ls a Deterministic) (with_mode t ls a Adaptive) f
      (admits_lists k n S D (with_mode t ls a Adaptive) adm) (mode_clear t ls clear S a f.passes h) in
      absurd (true≢false (sym (mode_before t a ls) ∙ later)))
      (λ h. rw (h, clear_at clear S a (leg t Deterministic) ls f.passes))

  forced_from : (a b : Choice) → IsFirst (a ++ b) → Forced clear (end_from S a) b
  forced_from a [] f = tt
  forced_from a (l ∷ ls) f =
      let on : IsFirst ((a ++ (l ∷ [])) ++ ls) = rw (append_assoc a (l ∷ []) ls) f in
      let rest : Forced clear (end_from S (a ++ (l ∷ []))) ls = forced_from (a ++ (l ∷ [])) ls on in
      (forced_one l.target l.mode a ls f, rw (end_behind S a l) at rest)

  -- Each leg of the first clear choice is in its better clear mode.
  pub modes_forced : (c : Choice) → first_by far clear k n S D ≡ some c → Forced clear S c
  unfolding first_by end_by
  modes_forced c e = forced_from [] c ((best_is (before far S) (before_order far S) (clear_choice clear S) (choices_by k n S D)).chosen c e)
