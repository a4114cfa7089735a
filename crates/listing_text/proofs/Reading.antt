-- The listing of an input that was read into a buffer.
use Prim.Native.Nat.{ℕ, ◌≤◌}
use native.Mathlib.Omega.{arith}
use mathlib.Core.Path.{◌≡◌, refl, ap, ◌∙◌}
use mathlib.Core.List.{List}
use lib.ListN.{length, take}
use Rattle.std.proofs.Common.{Result, Ok, Err}
use Rattle.std.specs.Result.{result_unwrap_or}
use Rattle.numbers.specs.declared.Refusal.{Refusal}
use Rattle.sheet.specs.Input.{ReadInto}
use Rattle.sheet.specs.Output.{room_error, written, out_after}
use Rattle.sheet.proofs.Inputs.{read_whole}
use Rattle.sheet.proofs.Outputs.{size_written, not_refused, bytes_written, front_written}
use Rattle.listing_text.specs.Text.{listing_of}
use Rattle.listing_text.proofs.Long.{listing_decided}
use Rattle.listing_text.proofs.Fits.{listing_fits}

-- The buffer has the bytes that decide, and the lent bytes have room for the longest text.
module _
    (input : List ℕ) (size : ℕ) (i o t : List ℕ) (w : Result ℕ Refusal) (read : i ≡ take size input)
    (made : (w ≡ written (room_error 0 (listing_of i) o) (listing_of i)) × (t ≡ out_after (room_error 0 (listing_of i) o) (listing_of i) o))
    (buffer : 783 ≤ length input) (long : 94222 ≤ length o) where
  abbrev s : List ℕ
  s = listing_of i

  fits : length s ≤ length o
  fits = omega (arith, listing_fits i)

  same : listing_of i ≡ listing_of (take size input)
  same = ap listing_of read

  abbrev Listed : ℕ → Type 0
  Listed r = (r ≡ length (listing_of (take size input))) × ((t ≡ out_after 0 (listing_of (take size input)) o) × ((whole : List ℕ) → ReadInto whole input size → take r t ≡ listing_of whole))

  listed_ok : (k r : ℕ) → w ≡ Ok k → r ≡ k → Listed r
  listed_ok k r e q =
      let n : r ≡ length s = q ∙ size_written 0 s o refl fits w t made k e in (
        n ∙ ap length same,
        (
          bytes_written 0 s o refl fits w t made ∙ ap (λ l. out_after 0 l o) same,
          λ whole h. ap (λ m. take m t) n ∙ front_written 0 s o refl fits w t made ∙ same ∙ read_whole 783 listing_of listing_decided whole input size buffer h,
        ),
      )

  pub listed : (r : ℕ) → r ≡ result_unwrap_or w 0 → Listed r
  listed r q = go w refl
    where
      go : (x : Result ℕ Refusal) → w ≡ x → Listed r
      go (Ok n) e = listed_ok n r e (q ∙ ap (λ y. result_unwrap_or y 0) e)
      go (Err x) e = absurd (not_refused 0 s o refl fits w t made x e)
