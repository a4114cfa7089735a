-- What is written from a place on.
use Prim.Native.Nat.{ℕ, suc, ◌+◌, ◌/◌, ◌%◌, ◌≤◌, ◌<◌}
use native.Mathlib.Omega.{arith}
use mathlib.Core.Path.{◌≡◌, refl, sym, ap, ◌∙◌}
use mathlib.Core.List.{List, [], ◌∷◌, ◌++◌}
use lib.ListN.{length, set, get_or, take, drop, length-set, length-append}
use lib.Seq.{take-suc}
use native.Mathlib.Numerals.{add-one}
use Rattle.std.proofs.Common.{Ok, Err}
use Rattle.numbers.specs.declared.Refusal.TheVariants.{OutputShort}
use Rattle.sheet.specs.Output.{room_error}
use Rattle.sheet.proofs.Outputs as sheet
use Rattle.sheet.proofs.Outputs.{refused, no_room, copied}
use Rattle.listing_text.specs.Decimal.{decimal}
use Rattle.listing_text.specs.declared.lent.Lent.{Lent}
use Rattle.listing_text.specs.Steps.{put_all, Put, Wrote}
use Rattle.listing_text.proofs.Decimals.{one_digit, more_digits, at_most_5}

put_append : (o : List ℕ) (at : ℕ) (s t : List ℕ) → put_all o at (s ++ t) ≡ put_all (put_all o at s) (at + length s) t
unfolding put_all
put_append o at [] t = ap (λ (k : ℕ). put_all o k t) (omega arith)
put_append o at (b ∷ s) t = put_append (set o at b) (suc at) s t ∙ ap (λ (k : ℕ). put_all (put_all (set o at b) (suc at) s) k t) (omega arith)

pub put_length : (o : List ℕ) (at : ℕ) (s : List ℕ) → length (put_all o at s) ≡ length o
unfolding put_all
put_length o at [] = refl
put_length o at (b ∷ s) = put_length (set o at b) (suc at) s ∙ simp length-set

pub put_none : (o : List ℕ) (at : ℕ) → Put o o at at []
unfolding put_all
put_none o at = record { bytes = refl; next = omega arith }

pub put_one : (o t : List ℕ) (at r b : ℕ) → t ≡ set o at b → r ≡ at + 1 → Put o t at r (b ∷ [])
unfolding put_all
put_one o t at r b e n = record { bytes = e; next = n }

pub put_then : {o t u : List ℕ} {at k r : ℕ} {s w : List ℕ} → Put o t at k s → Put t u k r w → Put o u at r (s ++ w)
put_then {o} {t} {u} {at} {k} {r} {s} {w} p q =
    record {
      bytes = q.bytes ∙ rw (p.bytes, p.next) (sym (put_append o at s w));
      next = omega (arith, p.next, q.next, length-append s w);
    }

pub put_same : {o t : List ℕ} {at r : ℕ} {s : List ℕ} → Put o t at r s → length t ≡ length o
put_same {o} {t} {at} {r} {s} p = ap length p.bytes ∙ put_length o at s

-- ---- at the front
put_behind : (x : ℕ) (o : List ℕ) (at : ℕ) (s : List ℕ) → put_all (x ∷ o) (suc at) s ≡ x ∷ put_all o at s
unfolding put_all
put_behind x o at [] = refl
put_behind x o at (b ∷ s) = put_behind x (set o at b) (suc at) s

put_front : (o s : List ℕ) → length s ≤ length o → put_all o 0 s ≡ s ++ drop (length s) o
unfolding put_all
put_front o [] h = refl
put_front [] (b ∷ s) h = absurd (omega arith)
put_front (x ∷ o) (b ∷ s) h = put_behind b o 0 s ∙ ap (λ (l : List ℕ). b ∷ l) (put_front o s (omega arith))

-- ---- the text s, whose length n is known from writing it elsewhere, into the lent bytes o
module _ (z t o s : List ℕ) (n : ℕ) (counted : Put z t 0 n s) where
  pub too_short : length o < n → sheet.Put (room_error 0 s o) s o (Err OutputShort) o
  too_short h = refused (room_error 0 s o) OutputShort s o (sym (no_room 0 s o refl (omega (arith, counted.next))))

  pub wrote : n ≤ length o → (u : List ℕ) (m : ℕ) → Put o u 0 m s → sheet.Put (room_error 0 s o) s o (Ok m) u
  wrote h u m p =
      let fits : length s ≤ length o = omega (arith, counted.next) in
      copied 0 s o refl fits m u (omega (arith, p.next)) (p.bytes ∙ put_front o s fits)

-- ---- by lent bytes
pub wrote_none : (w : Lent) → Wrote w w []
wrote_none w = record { same = refl; put = put_none w.out.now w.at }

pub wrote_one : (w v : Lent) (b : ℕ) → v.out.ghost_name ≡ w.out.ghost_name → v.out.now ≡ set w.out.now w.at b → v.at ≡ w.at + 1 → Wrote w v (b ∷ [])
wrote_one w v b g e n = record { same = g; put = put_one w.out.now v.out.now w.at v.at b e n }

pub wrote_then : {w v u : Lent} {s t : List ℕ} → Wrote w v s → Wrote v u t → Wrote w u (s ++ t)
wrote_then p q = record { same = q.same ∙ p.same; put = put_then p.put q.put }

-- One byte more of a text.
pub wrote_more : {w v u : Lent} (s : List ℕ) (i : ℕ) → i < length s → Wrote w v (take i s) → Wrote v u (get_or s i 0 ∷ []) → Wrote w u (take (i + 1) s)
wrote_more s i h p q = rw (add-one, take-suc s i 0 h) (wrote_then p q)

-- ---- a number's digits
pub wrote_digit : {w v : Lent} (n : ℕ) → n < 10 → Wrote w v ((48 + n) ∷ []) → Wrote w v (decimal n)
wrote_digit n h p = rw (one_digit n h) p

pub wrote_digits : {w v u : Lent} (n : ℕ) → 10 ≤ n → Wrote w v (decimal (n / 10)) → Wrote v u ((48 + n % 10) ∷ []) → Wrote w u (decimal n)
wrote_digits n h p q = rw (more_digits n h) (wrote_then p q)

pub decimal_end : {w v : Lent} {n : ℕ} → Wrote w v (decimal n) → n < 65536 → v.at ≤ w.at + 5
decimal_end {w} {v} {n} p h = omega (arith, p.put.next, at_most_5 n (omega arith))
