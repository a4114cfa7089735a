-- What a written sheet says.
use Prim.Native.Nat.{ℕ}
use native.Mathlib.Omega.{arith}
use mathlib.Core.Path.{◌≡◌}
use mathlib.Core.Bool.{true}
use mathlib.Core.List.{List}
use Rattle.machine.specs.Node.{is_node}
use Rattle.plan.specs.Layout.{shape_of}
use Rattle.plan.specs.Checks.{Limits, plan_error}
use Rattle.choice.specs.Answer.{answered}
use Rattle.routes.specs.declared.layout.Entry.{Entry}
use Rattle.routes.specs.Checks.{routes_good, error_in, sheet_error}
use Rattle.routes.specs.Lookup.{lookup_error}
use Rattle.routes.specs.Says.{says_of, says}
use Rattle.routes.proofs.Rising.{routed}
use Rattle.route_value.specs.Writing.{sheet_bytes}
use Rattle.route_value.proofs.Writings.{sheet_good_law, entries_read}

-- The sheet of good routes is accepted, and says what its entries say.
module _ (L : Limits) (p : List ℕ) (S : ℕ) (es : List Entry) (plan : plan_error L p ≡ 0) (good : routes_good (shape_of p) S es ≡ true) where
  pub written_accepted : sheet_error L p (sheet_bytes S es) ≡ 0
  unfolding sheet_error error_in
  written_accepted =
      let r = routed (shape_of p) S es good in
      rw (plan, sheet_good_law S es (shape_of p) r.source r.few r.fit, good)

  pub written_says : (d : ℕ) → is_node (shape_of p) d ≡ true → says L p (sheet_bytes S es) d ≡ says_of es d
  unfolding says lookup_error answered
  written_says d n =
      let r = routed (shape_of p) S es good in
      let few = r.few in
      rw (written_accepted, n, entries_read S es (omega arith) r.fit)
