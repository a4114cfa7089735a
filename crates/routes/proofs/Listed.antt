-- What a list of entries says of a destination.
use Prim.Native.Nat.{ℕ, zero, suc, ◌+◌, ◌≤◌, ◌<◌}
use native.Mathlib.Omega.{arith}
use mathlib.Core.Path.{◌≡◌, refl, ◌∙◌}
use mathlib.Core.Logic.{⊎_elim}
use mathlib.Core.List.Memᴰ
use mathlib.Core.List.{List, [], ◌∷◌, Memᴰ}
use lib.ListN.{length, get_or}
use borrow.Author.Tests.{eq-eqb, ne_eqb}
use Rattle.machine.specs.declared.leg.Mode.TheVariants.{Adaptive}
use Rattle.machine.specs.Torus.{leg}
use Rattle.choice.specs.Answer.{Given}
use Rattle.routes.specs.declared.layout.Entry.{Entry}
use Rattle.routes.specs.Layout.{no_entry}
use Rattle.routes.specs.Said.{said_by}
use Rattle.routes.specs.Lookup.{find}
use Rattle.routes.specs.Says.{says_of}
use Rattle.routes.proofs.Finding.{here, later}
use Rattle.routes.proofs.Rising.{Rising}

-- No entry is below the least destination.
above : (es : List Entry) (least : ℕ) → Rising least es → (e : Entry) → Memᴰ e es → least ≤ e.dest
above [] least r e h = absurd (Memᴰ.not-nil h)
above (x ∷ es) least r e h =
    let a = r.0 in
    ⊎_elim (λ q. rw q a) (λ t. let b = above es (x.dest + 1) r.1 e t in omega arith) (Memᴰ.cases_cons h)

-- Where destinations rise strictly, an entry is the one found for its destination.
pub says_listed : (es : List Entry) (least : ℕ) → Rising least es → (e : Entry) → Memᴰ e es → says_of es e.dest ≡ said_by e
unfolding says_of
says_listed [] least r e h = absurd (Memᴰ.not-nil h)
says_listed (x ∷ es) least r e h =
    ⊎_elim
    (λ q. rw (← q, eq-eqb e.dest e.dest refl))
    (λ t. let b = above es (x.dest + 1) r.1 e t in rw (ne_eqb x.dest e.dest (omega arith)) (says_listed es (x.dest + 1) r.1 e t))
    (Memᴰ.cases_cons h)

-- A destination that no entry has is direct and adaptive.
pub says_unlisted : (es : List Entry) (d : ℕ) → ((e : Entry) → Memᴰ e es → e.dest ≡ d → ⊥) → says_of es d ≡ Given (leg d Adaptive ∷ [])
unfolding says_of
says_unlisted [] d h = refl
says_unlisted (x ∷ es) d h = rw (ne_eqb x.dest d (h x (Memᴰ.head refl))) (says_unlisted es d (λ e t. h e (Memᴰ.tail t)))

-- The same of its number.
above_at : (es : List Entry) (least : ℕ) → Rising least es → (i : ℕ) → i < length es → least ≤ (get_or es i no_entry).dest
above_at [] least r i h = absurd (omega arith)
above_at (x ∷ es) least r zero h = r.0
above_at (x ∷ es) least r (suc i) h = let a = r.0 in let b = above_at es (x.dest + 1) r.1 i (omega arith) in omega arith

pub find_listed : (es : List Entry) (least : ℕ) → Rising least es → (i : ℕ) → i < length es → find es (get_or es i no_entry).dest ≡ i
find_listed [] least r i h = absurd (omega arith)
find_listed (x ∷ es) least r zero h = here x es x.dest refl
find_listed (x ∷ es) least r (suc i) h =
    let b = above_at es (x.dest + 1) r.1 i (omega arith) in
    later x es (get_or es i no_entry).dest (λ z. omega arith) ∙ omega (arith, find_listed es (x.dest + 1) r.1 i (omega arith))

pub find_unlisted : (es : List Entry) (d : ℕ) → ((e : Entry) → Memᴰ e es → e.dest ≡ d → ⊥) → find es d ≡ length es
unfolding find
find_unlisted [] d h = refl
find_unlisted (x ∷ es) d h =
    later x es d (h x (Memᴰ.head refl)) ∙ omega (arith, find_unlisted es d (λ e t. h e (Memᴰ.tail t)))
