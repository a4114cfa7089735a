-- The loops that seek the lowest via: through the rows of a plane, and through the planes.
use Prim.Native.Nat.{ℕ, suc, ◌+◌, ◌-◌, ◌*◌, ◌/◌, ◌%◌, ◌^◌, ◌≤◌, ◌<◌}
use native.Mathlib.Omega.{arith}
use native.Mathlib.Nat.{mul-le-mul_left, mul-suc, mul-le-mul}
use mathlib.Core.Path.{◌≡◌, refl, sym, ap, ◌∙◌}
use mathlib.Core.Logic.{◌⊎◌, inl, inr, ⊎_elim}
use mathlib.Core.Bool.{Bool, true, false, true≢false, ◌&&◌}
use mathlib.Core.List.{List}
use lib.Bits.{bit_and, and_le_l}
use lib.ListN.{length, get_or}
use lib.Pow.{pow_mono}
use borrow.Author.Tests.{eq-eqb, ne_eqb}
use Rattle.theory.proofs.Bools.{and_true}
use Rattle.theory.proofs.Cases.{test, by_le, by_order}
use Rattle.shape.specs.declared.shape.Shape.{Shape}
use Rattle.shape.specs.declared.shape.Coords.{Coords}
use Rattle.shape.specs.declared.shape.Dim.TheVariants.{X, Y, Z}
use Rattle.shape.specs.Shape.{shape_error}
use Rattle.shape.proofs.Shapes.{sound, count_most}
use Rattle.machine.specs.Number.{node_count, number_of, coords_of, Inside}
use Rattle.machine.proofs.Numbers.{number_below, coords_number, number_coords, inside, low_digit, high_digit, digits_below}
use Rattle.rows.specs.Bits.{bit}
use Rattle.rows.specs.Rows.{in_rows, in_set, in_product}
use Rattle.rows.specs.NextSet.{NextSet}
use Rattle.rows.proofs.Bits.{bit_and_law, bit_past, same_bits}
use Rattle.rows.proofs.LowestBit.{none_set}
use Rattle.search.specs.FirstVia.{has_rows, in_all, is_via, FirstOf}
use Rattle.search.specs.Planes.{Clipped, meet, InPlane}

pub clash : {A : Type 0} (b : Bool) → b ≡ true → b ≡ false → A
clash b e f = absurd (true≢false (sym e ∙ f))

-- ---- a node's bit in the rows of a set, and of a set in a run
pub in_set_law : (rows : List ℕ) (c : Coords) → in_rows rows 0 c ≡ bit (get_or rows (16 * c.z + c.y) 0) c.x
unfolding in_rows
in_set_law rows c = let e : 0 + (c.y + 16 * c.z) ≡ 16 * c.z + c.y = omega arith in ap (λ (r : ℕ). bit (get_or rows r 0) c.x) e

pub in_run : (rows : List ℕ) (at r : ℕ) (c : Coords) → r ≡ at + (16 * c.z + c.y) → in_rows rows at c ≡ bit (get_or rows r 0) c.x
unfolding in_rows
in_run rows at r c e = let f : at + (c.y + 16 * c.z) ≡ r = omega arith in ap (λ (r : ℕ). bit (get_or rows r 0) c.x) f

-- ---- in a plane
module _ (bx by base : ℕ) (from to : List ℕ) (at : ℕ) where
  pub record Plane (y : ℕ) : Type 0 where
    pub most : y ≤ 16
    pub listed : y < 16 → bit by y ≡ true
    pub before : (i : ℕ) → i < y → bit by i ≡ true → meet bx from to at (base + i) ≡ 0

  pub plane_begin : (y : ℕ) → NextSet by 0 y → Plane y
  plane_begin y n = record { most = n.most; listed = λ l. (n.set l).1; before = λ i l e. clash (bit by i) e (n.skip i (omega arith) l) }

  pub plane_onward : (y w : ℕ) → Plane y → meet bx from to at (base + y) ≡ 0 → NextSet by (y + 1) w → Plane w
  plane_onward y w p e n = record {
    most = n.most;
    listed = λ l. (n.set l).1;
    before = λ i l g. by_order i y (λ k. p.before i k g) (λ k. rw k e) (λ k. clash (bit by i) g (n.skip i (omega arith) l));
  }

  pub plane_found : (y : ℕ) → Plane y → (meet bx from to at (base + y) ≡ 0 → ⊥) → InPlane bx by base from to at y
  plane_found y p ne = record { most = p.most; listed = p.listed; some = λ q. ne; before = p.before }

  pub plane_none : (y : ℕ) → Plane y → 16 ≤ y → InPlane bx by base from to at 16
  plane_none y p l = record { most = omega arith; listed = λ q. absurd (omega arith); some = λ q. absurd (omega arith); before = λ i j. p.before i (omega arith) }

-- A turn of either loop goes on.
pub further : (mask y w : ℕ) → NextSet mask (y + 1) w → y < 16 → 16 - w < 16 - y
further mask y w n l = by_le 16 w (λ k. omega arith) (λ k. let s = (n.set k).0 in omega arith)

-- ---- two digits
lex : (a x m x0 m0 : ℕ) → x < a → x0 < a → x + a * m < x0 + a * m0 → (m < m0) ⊎ ((m ≡ m0) × (x < x0))
lex a x m x0 m0 hx h0 l =
    by_order m m0 inl
    (λ e. inr (e, omega (arith, ap (λ (k : ℕ). a * k) e)))
    (λ g. absurd (omega (arith, mul-le-mul_left a (step m0 m g), mul-suc a m0)))
  where
    step : (p q : ℕ) → p < q → suc p ≤ q
    step p q h = h

pub count_all : (s : Shape) → shape_error s ≡ 0 → node_count s ≤ 4096
unfolding node_count
count_all s h = count_most s h

-- The steps of the number of a row's first node do not overflow.
pub row_steps : (s : Shape) → shape_error s ≡ 0 → (y z : ℕ) → y < s.y → z < s.z → (s.y * z < 256) × (y + s.y * z < 256) × (s.x * (y + s.y * z) < 4096)
row_steps s h y z hy hz =
    let row : y + s.y * z < s.y * s.z = digits_below y s.y z s.z hy hz in
    let rows : s.y * s.z ≤ 256 = mul-le-mul (sound s h Y).high (sound s h Z).high in
    let most : y + s.y * z ≤ 255 = omega arith in
    let all : s.x * (y + s.y * z) ≤ 16 * 255 = mul-le-mul (sound s h X).high most in
    (omega arith, omega arith, omega arith)

-- ---- through the planes
pub record Space (bx by bz : ℕ) (from to : List ℕ) (at z : ℕ) : Type 0 where
  pub most : z ≤ 16
  pub listed : z < 16 → bit bz z ≡ true
  pub before : (k : ℕ) → k < z → bit bz k ≡ true → (i : ℕ) → i < 16 → bit by i ≡ true → meet bx from to at (16 * k + i) ≡ 0

module _ (bx by bz : ℕ) (from to : List ℕ) (at : ℕ) where
  pub space_begin : (z : ℕ) → NextSet bz 0 z → Space bx by bz from to at z
  space_begin z n = record { most = n.most; listed = λ l. (n.set l).1; before = λ k l e. clash (bit bz k) e (n.skip k (omega arith) l) }

  pub space_onward : (z w y : ℕ) → Space bx by bz from to at z → InPlane bx by (16 * z) from to at y → 16 ≤ y → NextSet bz (z + 1) w → Space bx by bz from to at w
  space_onward z w y p q l n = record {
    most = n.most;
    listed = λ j. (n.set j).1;
    before = λ k j e. by_order k z (λ g. p.before k g e) (λ g. rw g (λ i m. q.before i (omega arith))) (λ g. clash (bit bz k) e (n.skip k (omega arith) j));
  }

  pub meet_bit : (r x : ℕ) → bit (meet bx from to at r) x ≡ ((bit bx x && bit (get_or from r 0) x) && bit (get_or to (at + r) 0) x)
  meet_bit r x = bit_and_law (bit_and bx (get_or from r 0)) (get_or to (at + r) 0) x ∙ rw (bit_and_law bx (get_or from r 0) x)

  not_empty : (r x : ℕ) → bit (meet bx from to at r) x ≡ true → meet bx from to at r ≡ 0 → ⊥
  not_empty r x e f = clash (bit (meet bx from to at r) x) e (ap (λ (m : ℕ). bit m x) f ∙ none_set x)

  -- A node of all three sets, by its coordinates.
  pub record Parts (c : Coords) : Type 0 where
    pub x : bit bx c.x ≡ true
    pub y : bit by c.y ≡ true
    pub z : bit bz c.z ≡ true
    pub met : bit (meet bx from to at (16 * c.z + c.y)) c.x ≡ true

  abbrev pub all_of : Coords → Bool
  all_of c = in_product bx by bz c && (in_rows from 0 c && in_rows to at c)

  pub parts : (c : Coords) → all_of c ≡ true → Parts c
  unfolding in_product
  parts c e =
      let a = and_true (in_product bx by bz c) _ e in
      let b = and_true (bit bx c.x) _ a.0 in
      let d = and_true (bit by c.y) _ b.1 in
      let g = and_true (in_rows from 0 c) _ a.1 in
      record { x = b.0; y = d.0; z = d.1; met = meet_bit (16 * c.z + c.y) c.x ∙ rw (b.0, ← in_set_law from c, ← in_run to at (at + (16 * c.z + c.y)) c refl, g.0, g.1) }

  pub whole : (c : Coords) → Parts c → all_of c ≡ true
  unfolding in_product
  whole c p =
      let bits = sym (meet_bit (16 * c.z + c.y) c.x) ∙ p.met in
      let a = and_true (bit bx c.x && bit (get_or from (16 * c.z + c.y) 0) c.x) _ bits in
      let b = and_true (bit bx c.x) _ a.0 in
      rw (in_set_law from c, in_run to at (at + (16 * c.z + c.y)) c refl, p.x, p.y, p.z, b.1, a.1)

  pub test_is : (s : Shape) (v : ℕ) → in_all s bx by bz from to at v ≡ all_of (coords_of s v)
  unfolding in_all in_set
  test_is s v = refl

  module _ (s : Shape) (h : shape_error s ≡ 0) (hx : bx < 2 ^ s.x) (hy : by < 2 ^ s.y) (hz : bz < 2 ^ s.z) where
    low : (y : ℕ) → y < s.y → y < 16
    low y l = omega (arith, (sound s h Y).high)

    pub space_none : (z : ℕ) → Space bx by bz from to at z → 16 ≤ z → FirstOf (node_count s) (in_all s bx by bz from to at) 4096
    space_none z p l = record {
      most = omega arith;
      found = λ q. absurd (omega arith);
      before = λ v k q. test (in_all s bx by bz from to at v)
          (λ e.
          let w = parts (coords_of s v) (sym (test_is s v) ∙ e) in
          let i = inside s h v k in
          absurd (not_empty _ _ w.met (p.before _ (omega (arith, i.z, (sound s h Z).high)) w.z _ (low _ i.y) w.y)))
          (λ e. e);
    }

    -- ---- a via found
    module _ (x y z : ℕ) (p : Space bx by bz from to at z) (lz : z < 16) (w : InPlane bx by (16 * z) from to at y) (ly : y < 16) (n : NextSet (meet bx from to at (16 * z + y)) 0 x) where
      abbrev here : Coords
      here = record { x = x; y = y; z = z }

      small : meet bx from to at (16 * z + y) < 2 ^ 16
      small =
          let k : 2 ^ s.x ≤ 2 ^ 16 = pow_mono (sound s h X).high in
          omega (arith, and_le_l (bit_and bx (get_or from (16 * z + y) 0)) (get_or to (at + (16 * z + y)) 0), and_le_l bx (get_or from (16 * z + y) 0))

      x_set : x < 16
      x_set =
          by_le 16 x
          (λ l. absurd (w.some ly (same_bits 16 (meet bx from to at (16 * z + y)) 0 small (omega arith) (λ i k. n.skip i (omega arith) (omega arith) ∙ sym (none_set i)))))
          (λ l. l)

      bits : ((bit bx x && bit (get_or from (16 * z + y) 0) x) && bit (get_or to (at + (16 * z + y)) 0) x) ≡ true
      bits = sym (meet_bit (16 * z + y) x) ∙ (n.set x_set).1

      bit_x : bit bx x ≡ true
      bit_x = (and_true (bit bx x) _ (and_true (bit bx x && bit (get_or from (16 * z + y) 0) x) _ bits).0).0

      below : (len mask i : ℕ) → mask < 2 ^ len → bit mask i ≡ true → i < len
      below len mask i l e = by_le len i (λ k. clash (bit mask i) e (bit_past len mask i l k)) (λ k. k)

      pub inside_here : Inside s here
      inside_here = record { x = below s.x bx x hx bit_x; y = below s.y by y hy (w.listed ly); z = below s.z bz z hz (p.listed lz) }

      all_here : all_of here ≡ true
      all_here = whole here (record { x = bit_x; y = w.listed ly; z = p.listed lz; met = (n.set x_set).1 })

      -- No via comes before it.
      earlier : (c : Coords) → Inside s c → number_of s c < number_of s here → all_of c ≡ true → ⊥
      unfolding number_of
      earlier c i l e =
          let q = parts c e in
          ⊎_elim
          (λ less. ⊎_elim
          (λ lower. not_empty _ _ q.met (p.before _ lower q.z _ (low _ i.y) q.y))
          (λ same. not_empty _ _ q.met (ap (λ (k : ℕ). meet bx from to at (16 * k + c.y)) same.0 ∙ w.before _ same.1 q.y))
          (lex s.y c.y c.z y z i.y inside_here.y less))
          (λ same.
          let ey : c.y ≡ y = sym (low_digit c.y s.y c.z i.y) ∙ ap (λ (k : ℕ). k % s.y) same.0 ∙ low_digit y s.y z inside_here.y in
          let ez : c.z ≡ z = sym (high_digit c.y s.y c.z i.y) ∙ ap (λ (k : ℕ). k / s.y) same.0 ∙ high_digit y s.y z inside_here.y in
          let e : 16 * c.z + c.y ≡ 16 * z + y = omega arith in
          clash (bit (meet bx from to at (16 * z + y)) c.x) (rw e at q.met) (n.skip c.x (omega arith) same.1))
          (lex s.x c.x (c.y + s.y * c.z) x (y + s.y * z) i.x inside_here.x l)

      pub space_found : FirstOf (node_count s) (in_all s bx by bz from to at) (x + s.x * (y + s.y * z))
      unfolding number_of
      space_found =
          let l = number_below s h here inside_here in
          record {
            most = omega (arith, l, count_all s h);
            found = λ q. (l, test_is s (number_of s here) ∙ ap all_of (coords_number s h here inside_here) ∙ all_here);
            before = λ v k q. test (in_all s bx by bz from to at v)
                (λ e. absurd (earlier (coords_of s v) (inside s h v k) (rw (number_coords s h v) q) (sym (test_is s v) ∙ e)))
                (λ e. e);
          }

      -- The last step of its number does not overflow.
      pub number_step : x + s.x * (y + s.y * z) < 4096
      unfolding number_of
      number_step = let l : x + s.x * (y + s.y * z) < node_count s = number_below s h here inside_here in omega (arith, l, count_all s h)

-- ---- of any input
first_same : (n r : ℕ) (f g : ℕ → Bool) → ((v : ℕ) → v < n → f v ≡ g v) → FirstOf n f r → FirstOf n g r
first_same n r f g e w = record {
  most = w.most;
  found = λ l. let k = w.found l in (k.0, sym (e r k.0) ∙ k.1);
  before = λ v l k. sym (e v l) ∙ w.before v l k;
}

first_none : (n : ℕ) (f : ℕ → Bool) → ((v : ℕ) → f v ≡ false) → FirstOf n f 4096
first_none n f e = record { most = omega arith; found = λ l. absurd (omega arith); before = λ v l k. e v }

module _ (s : Shape) (bx by bz : ℕ) (from to : List ℕ) (at : ℕ) where
  pub wrong_shape : (shape_error s ≡ 0 → ⊥) → FirstOf (node_count s) (is_via s bx by bz from to at) 4096
  unfolding is_via
  wrong_shape ne = first_none _ _ (λ v. rw (ne_eqb (shape_error s) 0 ne))

  pub short_run : shape_error s ≡ 0 → has_rows (length to) at 256 ≡ false → FirstOf (node_count s) (is_via s bx by bz from to at) 4096
  unfolding is_via
  short_run h e = first_none _ _ (λ v. rw (eq-eqb (shape_error s) 0 h, e))

  -- With the masks cut to the shape.
  pub cut :
      (x y z r : ℕ) → shape_error s ≡ 0 → has_rows (length to) at 256 ≡ true → Clipped s.x bx x → Clipped s.y by y → Clipped s.z bz z →
      FirstOf (node_count s) (in_all s x y z from to at) r → FirstOf (node_count s) (is_via s bx by bz from to at) r
  unfolding is_via in_all in_product
  cut x y z r h e cx cy cz =
      first_same _ r _ _
      (λ v l. let i = inside s h v l in rw (eq-eqb (shape_error s) 0 h, e, cx.keeps _ i.x, cy.keeps _ i.y, cz.keeps _ i.z))
