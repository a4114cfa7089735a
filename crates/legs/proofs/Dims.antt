-- A test of all three dimensions, and their order.
use mathlib.Core.Bool.{Bool, true, ◌&&◌}
use mathlib.Core.Path.{◌≡◌, refl}
use denote.Enum.Bare.{sameb}
use Rattle.std.specs.Ordering.{partial_lt}
use Rattle.theory.proofs.Bools.{and_true}
use Rattle.shape.specs.declared.shape.Dim.{Dim}
use Rattle.shape.specs.declared.shape.Dim.TheVariants.{X, Y, Z}
use Rattle.shape.specs.Shape.{same_dim, before_dim}
use Rattle.shape.specs.contracts.shape.Dim.{the_type}
use Rattle.shape.specs.contracts.shape.DimPartialOrd.TheImpl.{partial_cmp-value}

pub all_of : (f : Dim → Bool) → (f X && (f Y && f Z)) ≡ true → (d : Dim) → f d ≡ true
all_of f h X = (and_true (f X) _ h).0
all_of f h Y = (and_true (f Y) _ (and_true (f X) _ h).1).0
all_of f h Z = (and_true (f Y) _ (and_true (f X) _ h).1).1

pub of_all : (f : Dim → Bool) → ((d : Dim) → f d ≡ true) → (f X && (f Y && f Z)) ≡ true
of_all f h = rw (h X, h Y, h Z)

-- `==` and `<` of the code.
pub same_dims : (k d : Dim) → sameb the_type k d ≡ same_dim k d
same_dims X X = refl
same_dims X Y = refl
same_dims X Z = refl
same_dims Y X = refl
same_dims Y Y = refl
same_dims Y Z = refl
same_dims Z X = refl
same_dims Z Y = refl
same_dims Z Z = refl

pub before_dims : (k d : Dim) → partial_lt (partial_cmp-value).it k d ≡ before_dim k d
before_dims X X = refl
before_dims X Y = refl
before_dims X Z = refl
before_dims Y X = refl
before_dims Y Y = refl
before_dims Y Z = refl
before_dims Z X = refl
before_dims Z Y = refl
before_dims Z Z = refl
