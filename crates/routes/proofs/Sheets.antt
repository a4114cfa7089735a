-- Laws of check 13: what an accepted sheet is.
use Prim.Native.Nat.{ℕ, suc, ◌+◌, ◌*◌, ◌≤◌, ◌<◌}
use native.Mathlib.Nat.{mul-suc, mul-le-mul_left, mul-le-mul_right}
use native.Mathlib.Omega.{arith}
use mathlib.Core.Path.{◌≡◌, refl, sym, ◌∙◌}
use mathlib.Core.Bool.{true, false, not, ◌&&◌}
use mathlib.Core.List.{List}
use lib.ListN.{length}
use lib.Dec.{leb, eqb}
use borrow.Author.Tests.{leb-true, eqb-true, not-false}
use Rattle.std.specs.Prelude.{Result, Ok, Err, is_err}
use Rattle.std.proofs.lemmas.Bool.{false≢true}
use Rattle.numbers.specs.declared.Refusal.{Refusal}
use Rattle.numbers.specs.Refusals.{number, answer_number}
use Rattle.numbers.proofs.Refusals.{number-range}
use Rattle.theory.specs.Checks.{◌then◌}
use Rattle.theory.proofs.Checks.{then_zero, declined_zero}
use Rattle.theory.proofs.Bools.{and_true}
use Rattle.sheet.specs.Head.{version, length_field}
use Rattle.sheet.specs.Output.{room_error}
use Rattle.sheet.proofs.Heads.{length_field_law, length_sheet}
use Rattle.sheet.proofs.Outputs.{not_0, Put, refused, unread}
use Rattle.plan.specs.Layout.{shape_of}
use Rattle.plan.specs.Checks.{Limits, plan_error}
use Rattle.routes.specs.declared.layout.Format.{Format}
use Rattle.routes.specs.Layout.{format_of, source, entry_count, entries_at, entry_size, entry_place, entry_at, entries_in, entries_of, size_after}
use Rattle.routes.specs.Checks.{head_good, routes_good, good_in, error_in, sheet_error}

-- An answer with a number.
module _ {A : Type 0} (r : Result A Refusal) (n : ℕ) (is : answer_number r ≡ n) where
  pub failed : is_err r ≡ true → n ≡ 0 → ⊥
  failed h z = go r (is ∙ z) h
    where
      go : (r : Result A Refusal) → answer_number r ≡ 0 → is_err r ≡ true → ⊥
      go (Ok a) q h = absurd (false≢true h)
      go (Err e) q h = let l = (number-range e).0 in omega arith

  pub stood : is_err r ≡ false → n ≡ 0
  stood h = sym is ∙ go r h
    where
      go : (r : Result A Refusal) → is_err r ≡ false → answer_number r ≡ 0
      go (Ok a) h = refl
      go (Err e) h = absurd (false≢true (sym h))

-- What writing answers and leaves where a check declines.
pub put_declined : (e : ℕ) (s o : List ℕ) (r : Refusal) → number r ≡ e → Put (room_error e s o) s o (Err r) o
put_declined e s o r h = refused (room_error e s o) r s o (h ∙ sym (unread e s o (λ z. not_0 r (h ∙ z))))

-- The entries in the sheet's own format.
pub own_entries : (s : List ℕ) → entries_of s ≡ entries_in (format_of s) s
unfolding entries_of entry_at
own_entries s = refl

-- What a good head says.
pub record Head (F : Format) (s : List ℕ) : Type 0 where
  pub long : entries_at ≤ length s
  pub version : version s ≡ F.version
  pub field : length_field s ≡ size_after F (entry_count s)
  pub sized : length s ≡ entries_at + entry_size F * entry_count s

pub head_of : (F : Format) (s : List ℕ) → head_good F s ≡ true → Head F s
unfolding head_good
head_of F s h =
    let n = size_after F (entry_count s) in
    let p = and_true (leb entries_at (length s) && eqb (version s) F.version) _ h in
    let q = and_true (leb entries_at (length s)) _ p.0 in
    let long = leb-true entries_at (length s) q.0 in
    record {
      long = long;
      version = eqb-true (version s) F.version q.1;
      field = length_field_law s n p.1;
      sized = omega (arith, length_sheet s n p.1 (omega arith));
    }

-- A size of an entry, with any number of vias in a byte, times any number in two.
pub size_most : (v n : ℕ) → v < 256 → n < 65536 → (3 + 2 * v) * n ≤ 33619455
size_most v n hv hn =
    let a : (3 + 2 * v) * n ≤ 513 * n = mul-le-mul_right n (omega arith) in
    omega (arith, a)

-- The bytes of each entry are there.
pub place_fits : (F : Format) (s : List ℕ) (i : ℕ) → Head F s → i < entry_count s → entry_place F i + entry_size F ≤ length s
place_fits F s i h l =
    let most : entry_size F * suc i ≤ entry_size F * entry_count s = mul-le-mul_left (entry_size F) (omega arith) in
    omega (arith, h.sized, mul-suc (entry_size F) i, most)

-- A sheet that the plan's checks and 13 accept, in a format and in its own.
pub record AcceptedIn (F : Format) (L : Limits) (p s : List ℕ) : Type 0 where
  pub plan : plan_error L p ≡ 0
  pub head_good_law : head_good F s ≡ true
  pub head : Head F s
  pub routes : routes_good (shape_of p) (source s) (entries_in F s) ≡ true

pub record Accepted (L : Limits) (p s : List ℕ) : Type 0 where
  pub plan : plan_error L p ≡ 0
  pub head : Head (format_of s) s
  pub routes : routes_good (shape_of p) (source s) (entries_of s) ≡ true

pub accepted_in : (F : Format) (L : Limits) (p s : List ℕ) → error_in F L p s ≡ 0 → AcceptedIn F L p s
unfolding error_in good_in
accepted_in F L p s h =
    let q = then_zero (plan_error L p) _ h in
    let good = not-false _ (declined_zero (not (good_in F (shape_of p) s)) 12 q.1) in
    let r = and_true (head_good F s) _ good in
    record { plan = q.0; head_good_law = r.0; head = head_of F s r.0; routes = r.1 }

pub accepted : (L : Limits) (p s : List ℕ) → sheet_error L p s ≡ 0 → Accepted L p s
unfolding sheet_error
accepted L p s h =
    let a = accepted_in (format_of s) L p s h in
    record { plan = a.plan; head = a.head; routes = rw (own_entries s) a.routes }
