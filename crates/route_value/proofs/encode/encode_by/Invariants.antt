use Prim.Native.Nat.{ℕ, ◌<◌}
use mathlib.Core.Path.{◌≡◌}
use Rattle.routes.specs.declared.layout.Entry.{Entry}
use Rattle.route_value.proofs.Forms.{Encoded}
use Rattle.route_value.proofs.encode.encode_by.Given as goal

abbrev pub invariant-loop-i : goal.invariant-loop-i
invariant-loop-i g l =
    (f : ℕ → Entry) → ((i : ℕ) (e : Entry) → i < l.count → goal.F-post g l.entry i e → e ≡ f i) → Encoded l.count f l.initial.bytes l.bytes l.i
