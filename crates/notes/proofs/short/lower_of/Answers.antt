use Prim.Native.Nat.{ℕ, min, ◌≤◌, ◌<◌}
use native.Mathlib.Omega.{arith}
use mathlib.Core.Path.{◌≡◌, refl, sym, ◌∙◌}
use borrow.Author.Tests.{le-leb, lt-leb}
use Rattle.std.specs.Prelude.{Option, None, Some, IfSome, unwrap_or}
use Rattle.theory.proofs.Cases.{by_le}
use Rattle.notes.specs.Known.{lower}
use Rattle.notes.proofs.short.lower_of.Goals as goal
use Rattle.notes.proofs.short.lower_of.Goals.{in_default-via-in-Some+in_default, in_default-via-in_default}

lower_min : (v w : ℕ) → min v w ≡ lower v w
unfolding lower
lower_min v w = by_le v w (λ l. rw (le-leb v w l) (omega arith)) (λ l. rw (lt-leb v w l) (omega arith))

no_first : (o : Option ℕ) → IfSome o (λ v. v < 4096) → unwrap_or o 4096 ≡ lower 4096 (unwrap_or o 4096)
unfolding lower
no_first None h = refl
no_first (Some w) h = rw (lt-leb 4096 w h) refl

pub returns-in_default-clause-value : goal.returns-in_default-clause-value
returns-in_default-clause-value c =
    elim c.in_default.branch [
      | in_default-via-in-Some+in_default w ↦ let q = w.in_default in let l = rw q.is-0 at c.requires.0 in rw (c.or.ensures, q.is-0, q.is-1) (omega (arith, lower_min q.field-0-0 4096, l))
      | in_default-via-in_default w ↦ rw (c.or.ensures, w.in_default.is-0) (no_first _ c.requires.1)
    ]

pub returns-clause-value : goal.returns-clause-value
returns-clause-value c = c.min.ensures ∙ rw (c.in-Some-Some.is-0, c.in-Some-Some.is-1) (lower_min _ _)
