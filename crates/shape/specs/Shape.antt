-- 'The machine': extents and wrap with checks 5 and 6, and coordinates.
use Rattle.std.specs.Prelude.{ℕ, ◌/◌, ◌%◌, Bool, true, false, ◌&&◌, ◌||◌, ltb, eqb}
use Rattle.numbers.specs.Numbers.{extent_outside, wrong_wrap}
use Rattle.theory.specs.Checks.{declined, ◌then◌}
use Rattle.shape.specs.declared.axis.Axis.{Axis}
use Rattle.shape.specs.declared.shape.Shape.{Shape}
use Rattle.shape.specs.declared.shape.Coords.{Coords}
use Rattle.shape.specs.declared.shape.Dim.{Dim}
use Rattle.shape.specs.declared.shape.Dim.TheVariants.{X, Y, Z}

-- Three dimensions X, Y, Z with extents a, b, c.
abbrev pub extent_of : Shape → Dim → ℕ
extent_of s X = s.x
extent_of s Y = s.y
extent_of s Z = s.z

-- A dimension is open or wrapped: bits 0, 1, 2 of the wrap byte.
abbrev pub wrapped_in : Shape → Dim → Bool
wrapped_in s X = eqb (s.wrap % 2) 1
wrapped_in s Y = eqb (s.wrap / 2 % 2) 1
wrapped_in s Z = eqb (s.wrap / 4 % 2) 1

-- A dimension by itself.
abbrev pub axis_of : Shape → Dim → Axis
axis_of s d = record { len = extent_of s d; ring = wrapped_in s d }

-- An extent outside 1 to 16.
abbrev pub bad_extent : ℕ → Bool
bad_extent n = ltb n 1 || ltb 16 n

unfoldable pub bad_extents : Shape → Bool
bad_extents s = bad_extent s.x || (bad_extent s.y || bad_extent s.z)

-- Wrap on an extent below 3.
abbrev pub bad_wrap : ℕ → Bool → Bool
bad_wrap n wrapped = wrapped && ltb n 3

-- Or a spare wrap bit set.
unfoldable pub bad_wraps : Shape → Bool
bad_wraps s = bad_wrap s.x (wrapped_in s X) || (bad_wrap s.y (wrapped_in s Y) || (bad_wrap s.z (wrapped_in s Z) || ltb 7 s.wrap))

-- Checks 5 and 6.
unfoldable pub shape_error : Shape → ℕ
shape_error s = declined (bad_extents s) extent_outside then declined (bad_wraps s) wrong_wrap then 0

-- The coordinate in a dimension.
abbrev pub coord_of : Coords → Dim → ℕ
coord_of c X = c.x
coord_of c Y = c.y
coord_of c Z = c.z

-- The coordinates with that of one dimension changed.
abbrev pub put : Coords → Dim → ℕ → Coords
put c X v = record { x = v; y = c.y; z = c.z }
put c Y v = record { x = c.x; y = v; z = c.z }
put c Z v = record { x = c.x; y = c.y; z = v }

abbrev pub same_dim : Dim → Dim → Bool
same_dim X X = true
same_dim X Y = false
same_dim X Z = false
same_dim Y X = false
same_dim Y Y = true
same_dim Y Z = false
same_dim Z X = false
same_dim Z Y = false
same_dim Z Z = true

-- In the order X, Y, Z.
abbrev pub before_dim : Dim → Dim → Bool
before_dim X X = false
before_dim X Y = true
before_dim X Z = true
before_dim Y X = false
before_dim Y Y = false
before_dim Y Z = true
before_dim Z X = false
before_dim Z Y = false
before_dim Z Z = false
