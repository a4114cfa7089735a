-- A fault's word: its parts, and that it fits.
use Prim.Native.Nat.{ℕ, ◌+◌, ◌*◌, ◌/◌, ◌%◌, ◌<◌}
use native.Mathlib.Omega.{arith}
use mathlib.Core.Path.{◌≡◌, ◌∙◌}
use mathlib.Core.Bool.{true}
use Rattle.shape.specs.declared.shape.Shape.{Shape}
use Rattle.shape.specs.declared.shape.Coords.{Coords}
use Rattle.shape.specs.declared.shape.Dim.TheVariants.{X, Y, Z}
use Rattle.shape.specs.Shape.{shape_error}
use Rattle.shape.proofs.Shapes.{sound}
use Rattle.machine.specs.Number.{coords_of, Inside}
use Rattle.machine.specs.Node.{coords_answer}
use Rattle.machine.proofs.Numbers.{inside}
use Rattle.plan.specs.declared.layout.Fault.{Fault}
use Rattle.plan.specs.Checks.{fault_exists}
use Rattle.dead.proofs.Links.{exists_of}
use Rattle.dead.proofs.Answers.{exists_node}
use Rattle.losses.specs.Loss.{loss_at, loss_kind}
use Rattle.losses.specs.OfPlan.{kept_kind, word_of}

-- Coordinates of four bits each.
pub record Small (c : Coords) : Type 0 where
  pub x : c.x < 16
  pub y : c.y < 16
  pub z : c.z < 16

pub inside_small : (s : Shape) → shape_error s ≡ 0 → (c : Coords) → Inside s c → Small c
inside_small s h c i = record {
  x = omega (arith, i.x, (sound s h X).high);
  y = omega (arith, i.y, (sound s h Y).high);
  z = omega (arith, i.z, (sound s h Z).high);
}

-- ---- the parts of such a number
module _ (x y z k : ℕ) (hx : x < 16) (hy : y < 16) (hz : z < 16) where
  kind_part : (x + 16 * y + 256 * z + 4096 * k) / 4096 ≡ k
  kind_part = omega arith

  x_part : (x + 16 * y + 256 * z + 4096 * k) % 16 ≡ x
  x_part = omega arith

  y_part : (x + 16 * y + 256 * z + 4096 * k) / 16 % 16 ≡ y
  y_part = let e : (x + 16 * y + 256 * z + 4096 * k) / 16 ≡ y + 16 * z + 256 * k = omega arith in rw e (omega arith)

  z_part : (x + 16 * y + 256 * z + 4096 * k) / 256 % 16 ≡ z
  z_part = let e : (x + 16 * y + 256 * z + 4096 * k) / 256 ≡ z + 16 * k = omega arith in rw e (omega arith)

-- ---- of a fault that exists
module _ (s : Shape) (f : Fault) (h : fault_exists s f ≡ true) where
  pub at_inside : Inside s (coords_of s f.node)
  at_inside = let n = (exists_of s f h).node in inside s n.sound f.node n.below

  at_small : Small (coords_of s f.node)
  at_small = inside_small s (exists_of s f h).node.sound (coords_of s f.node) at_inside

  -- The coordinates that the code is given.
  module _ (c : Coords) (e : c ≡ coords_answer s f.node) where
    there : c ≡ coords_of s f.node
    there = e ∙ rw (exists_node s f h)

    pub given_small : Small c
    given_small = rw there at_small

    pub word_is : (k : ℕ) → k ≡ kept_kind f.kind → c.x + 16 * c.y + 256 * c.z + 4096 * k ≡ word_of s f
    unfolding word_of
    word_is k ek = rw (there, ek)

  pub kind_is : loss_kind (word_of s f) ≡ kept_kind f.kind
  unfolding word_of
  kind_is = let c = coords_of s f.node in let i = at_small in kind_part c.x c.y c.z (kept_kind f.kind) i.x i.y i.z

  pub at_is : loss_at (word_of s f) ≡ coords_of s f.node
  unfolding word_of
  at_is =
      let c = coords_of s f.node in
      let k = kept_kind f.kind in
      let i = at_small in
      rw (x_part c.x c.y c.z k i.x i.y i.z, y_part c.x c.y c.z k i.x i.y i.z, z_part c.x c.y c.z k i.x i.y i.z)
