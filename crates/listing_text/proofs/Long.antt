-- Input past the longest that is accepted: its first 783 bytes, a source and one byte more than the longest plan sheet, decide the text.
use Prim.Native.Nat.{ℕ, zero, suc, ◌≤◌}
use native.Mathlib.Omega.{arith}
use mathlib.Core.Path.{◌≡◌, refl, sym, ap, ◌∙◌}
use mathlib.Core.List.{List, [], ◌∷◌}
use lib.ListN.{length, take, length-take, length-drop}
use Rattle.theory.proofs.Checks.{declines}
use Rattle.sheet.proofs.Inputs.{DecidedBy}
use Rattle.plan.specs.Checks.{large, plan_error}
use Rattle.plan_input.proofs.Long.{long_declined, error_decided}
use Rattle.planned_sheet.specs.Sheet.{source_error}
use Rattle.listing_text.specs.Text.{plan_in, listing_error, refusal, listing_of}
use Rattle.listing_text.proofs.Sources.{has_source}

refused_with : (i : List ℕ) (e : ℕ) → listing_error i ≡ e → (e ≡ 0 → ⊥) → listing_of i ≡ refusal e
unfolding listing_of
refused_with i zero h n = absurd (n refl)
refused_with i (suc e) h n = rw h

long_text : (i : List ℕ) → 783 ≤ length i → listing_of i ≡ refusal (plan_error large (plan_in i))
unfolding source_error
long_text i h =
    let no = long_declined large (plan_in i) (omega (arith, length-drop 2 i)) in
    refused_with i (plan_error large (plan_in i)) (has_source i (omega arith) ∙ declines (plan_error large (plan_in i)) _ no) no

plan_in_front : (k : ℕ) (i : List ℕ) → plan_in (take (suc (suc k)) i) ≡ take k (plan_in i)
plan_in_front zero [] = refl
plan_in_front (suc k) [] = refl
plan_in_front zero (a ∷ []) = refl
plan_in_front (suc k) (a ∷ []) = refl
plan_in_front k (a ∷ (b ∷ i)) = refl

pub listing_decided : DecidedBy 783 listing_of
listing_decided zero i h l = absurd (omega arith)
listing_decided (suc zero) i h l = absurd (omega arith)
listing_decided (suc (suc k)) i h l =
    long_text (take (suc (suc k)) i) (omega (arith, length-take (suc (suc k)) i))
    ∙ ap (λ p. refusal (plan_error large p)) (plan_in_front k i)
    ∙ ap refusal (error_decided large k (plan_in i) (omega arith) (omega (arith, length-drop 2 i)))
    ∙ sym (long_text i (omega arith))
