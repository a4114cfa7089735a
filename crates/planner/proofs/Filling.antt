-- A workspace is filled with both sets to each node, one after the other.
use Prim.Native.Nat.{ℕ, ◌+◌, ◌*◌, ◌≤◌, ◌<◌}
use native.Mathlib.Omega.{arith}
use mathlib.Core.Path.{◌≡◌, refl, ◌∙◌}
use mathlib.Core.Logic.{inl}
use mathlib.Core.Bool.{false}
use mathlib.Core.List.{List}
use lib.ListN.{length, get_or}
use Rattle.theory.proofs.Cases.{by_le}
use Rattle.shape.specs.declared.shape.Shape.{Shape}
use Rattle.shape.specs.declared.shape.Coords.{Coords}
use Rattle.machine.specs.declared.leg.Mode.TheVariants.{Adaptive, Deterministic}
use Rattle.machine.specs.Number.{node_count}
use Rattle.machine.specs.Node.{coords_answer}
use Rattle.plan.specs.Layout.{shape_of}
use Rattle.plan.specs.Checks.{large, plan_error}
use Rattle.dead.proofs.Table.{is_node_law}
use Rattle.masks.specs.Masks.{gather_at, Masked}
use Rattle.notes.specs.Known.{OfPlan, IsAt, BothTo, ToEnd}
use Rattle.planner.specs.Known.{Filled}
use Rattle.notes.specs.Rows.{Elsewhere}
use Rattle.notes.proofs.Knowing.{shape_ok, other_set}
use Rattle.notes.proofs.Destination.{gathered_at}

-- The sets to the nodes before n stand in the run.
pub record Filling (p : List ℕ) (n : ℕ) (old work : List ℕ) : Type 0 where
  pub long : length work ≡ length old
  pub each : (D : ℕ) → D < n → BothTo p D work (512 * D)

pub none_filled : (p old : List ℕ) → Filling p 0 old old
none_filled p old = record { long = refl; each = λ D l. absurd (omega arith) }

module _ (p : List ℕ) (h : plan_error large p ≡ 0) where
  pub at_coords : (s : Shape) (n : ℕ) (c : Coords) → s ≡ shape_of p → n < node_count (shape_of p) → c ≡ coords_answer s n → IsAt p n c
  at_coords s n c e l q = record { node = l; at = q ∙ rw (e, is_node_law (shape_of p) n (record { sound = shape_ok p h; below = l })) }

  -- Both sets to a node that stand elsewhere stay.
  kept : (D at there : ℕ) (old new : List ℕ) → Elsewhere at 512 old new → there + 512 ≤ at → BothTo p D old there → BothTo p D new there
  kept D at there old new g apart b = record {
    room = omega (arith, g.long, b.room);
    adaptive = λ v l. other_set (shape_of p) (shape_ok p h) at 512 there old new g (inl (omega arith)) v l ∙ b.adaptive v l;
    deterministic = λ v l. other_set (shape_of p) (shape_ok p h) at 512 (there + 256) old new g (inl (omega arith)) v l ∙ b.deterministic v l;
  }

  pub one_filled : (n at : ℕ) (old mid new : List ℕ) → at ≡ 512 * n → Filling p n old mid → BothTo p n new at → Elsewhere at 512 mid new → Filling p (n + 1) old new
  one_filled n at old mid new e g b r = record {
    long = r.long ∙ g.long;
    each = λ D l. by_le n D
        (λ k. let q : D ≡ n = omega arith in rw (q, ← e) b)
        (λ k. kept D at (512 * D) mid new r (omega arith) (g.each D k));
  }

-- What both sets to the node n are made of.
pub to_fill :
    (p : List ℕ) (s : Shape) (words : List ℕ) (count : ℕ) (ta td : List ℕ) (n : ℕ) (c : Coords) (adaptive deterministic : List ℕ) →
    OfPlan p s words count → Masked Adaptive false s ta → Masked Deterministic false s td → n < node_count (shape_of p) → c ≡ coords_answer s n →
    ((i : ℕ) → i < 288 → get_or adaptive i 0 ≡ gather_at ta c i) → ((i : ℕ) → i < 288 → get_or deterministic i 0 ≡ gather_at td c i) →
    ToEnd p s words count n c adaptive deterministic
to_fill p s words count ta td n c adaptive deterministic k ma md l ec ga gd =
    let at = at_coords p k.plan s n c k.shape l ec in
    record {
      of_plan = k;
      node = at;
      adaptive = gathered_at p s n c ta adaptive k.plan at Adaptive false ma ga;
      deterministic = gathered_at p s n c td deterministic k.plan at Deterministic false md gd;
    }

pub all_filled : (p : List ℕ) (n : ℕ) (old work : List ℕ) → node_count (shape_of p) ≤ n → Filling p n old work → Filled p work
all_filled p n old work m g = record { each = λ D l. g.each D (omega arith) }
