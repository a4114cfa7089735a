-- The hops left of a leg, direction by direction: which hops they allow, how a hop changes them, and where the packet stands.
use Prim.Native.Nat.{ℕ, ◌+◌, ◌-◌, ◌≤◌, ◌<◌}
use mathlib.Core.Bool.{Bool, true, false, cond, not, ◌&&◌, true≢false}
use mathlib.Core.List.{List}
use mathlib.Core.Logic.{◌⊎◌, inl, inr, ⊎_elim}
use mathlib.Core.Path.{◌≡◌, refl, sym, ap, ◌∙◌}
use native.Mathlib.Nat.{mod-eq_of_lt}
use native.Mathlib.Omega.{arith}
use lib.ListN.{get_or}
use lib.Dec.{leb, eqb}
use borrow.Author.Tests.{eqb-true, eqb-false, eq-eqb, ne_eqb, le-leb, lt-leb, leb-true, not-true}
use Rattle.theory.proofs.Bools.{and_true, same_test}
use Rattle.theory.proofs.Cases.{test, by_le}
use Rattle.shape.specs.declared.shape.Shape.{Shape}
use Rattle.shape.specs.declared.shape.Coords.{Coords}
use Rattle.shape.specs.declared.shape.Dim.{Dim}
use Rattle.shape.specs.declared.shape.Dim.TheVariants.{X, Y, Z}
use Rattle.machine.specs.declared.leg.Mode.{Mode}
use Rattle.machine.specs.declared.leg.Mode.TheVariants.{Adaptive, Deterministic}
use Rattle.shape.specs.Shape.{shape_error, extent_of, wrapped_in, coord_of}
use Rattle.shape.specs.Axis.{axis_hops, axis_useful, place}
use Rattle.shape.specs.Steps.{goes}
use Rattle.shape.proofs.Shapes.{sound}
use Rattle.shape.proofs.AxisLaws.{axis_below, axis_zero, axis_self, axis_some, place_below, useful_less, plus_leads, minus_leads}
use Rattle.shape.proofs.Runs.{goes_useful, back_useless, kept}
use Rattle.machine.specs.Number.{Inside}
use Rattle.machine.specs.Hop.{dir_of, opposite}
use Rattle.machine.specs.ByCoords.{goes_along, moved_along, moved_at, useful_at, allowed_at}
use Rattle.machine.specs.Ways.{opens, way_of, way_along, ways_at, once_round, place_before, standing_at, none_before, in_turn, allowed_in, hop_taken, taken}
use Rattle.machine.proofs.Directions.{Direction, direction, by_direction, opposite_is}
use Rattle.machine.proofs.ByCoords.{inside_at}
use Rattle.machine.proofs.OneDirection.{FirstDim, dim_x, dim_y, dim_z, allowed_leads, leads_along, leads_allowed}

pub opposite_below : (dir : ℕ) → dir ≤ 5 → opposite dir < 6
opposite_below dir low = omega (arith, (opposite_is dir low).low)

none_named : (m : Mode) (ws : List ℕ) (dir : ℕ) → 5 < dir → allowed_in m ws dir ≡ false
unfolding allowed_in
none_named m ws dir h = rw (lt-leb dir 5 h)

-- ---- one dimension
zero_both : (b : Bool) → ◌≡◌ {A = ℕ} (cond b 0 0) 0
zero_both true = refl
zero_both false = refl

some_cond : (b : Bool) (n : ℕ) → (cond b n 0 ≡ 0 → ⊥) → b ≡ true
some_cond true n h = refl
some_cond false n h = absurd (h refl)

chosen : (plus g : Bool) → cond plus g (not g) ≡ true → g ≡ plus
chosen true g e = e
chosen false g e = not-true g e

module _ (ties : ℕ → Bool) (m : Mode) (len : ℕ) (ring : Bool) (q : ℕ) (hq : q < len) where
  abbrev may : ℕ → Bool → Bool
  may p plus = opens ties m len ring p q plus

  abbrev way : ℕ → Bool → ℕ
  way p plus = way_of ties m len ring p q plus

  -- At q no hop is left.
  way_here : (plus : Bool) → way q plus ≡ 0
  way_here plus = rw (axis_self len ring q) (zero_both (may q plus))

  way_apart : (p : ℕ) (plus : Bool) → (way p plus ≡ 0 → ⊥) → p ≡ q → ⊥
  way_apart p plus some e = some (rw e (way_here plus))

  module _ (p : ℕ) (hp : p < len) where
    open_useful_law : (plus : Bool) → (p ≡ q → ⊥) → may p plus ≡ true → axis_useful len ring p q plus ≡ true
    unfolding opens
    open_useful_law plus ne = by m
      where
        by : (m : Mode) → opens ties m len ring p q plus ≡ true → axis_useful len ring p q plus ≡ true
        by Adaptive e = e
        by Deterministic e = goes_useful ties len ring p q plus hp hq ne (chosen plus (goes ties len ring p q) e)

    some_open : (p ≡ q → ⊥) → (may p true ≡ true) ⊎ (may p false ≡ true)
    unfolding opens
    some_open ne = by m
      where
        either : (g : Bool) → (g ≡ true) ⊎ (not g ≡ true)
        either true = inl refl
        either false = inr refl

        by : (m : Mode) → (opens ties m len ring p q true ≡ true) ⊎ (opens ties m len ring p q false ≡ true)
        by Adaptive = axis_some len ring p q hp hq ne
        by Deterministic = either (goes ties len ring p q)

    -- Elsewhere a way that is open has hops left, and one of the two is open.
    way_open : (plus : Bool) → may p plus ≡ true → way p plus ≡ axis_hops len ring p q
    way_open plus e = rw e

    pub open_way : (plus : Bool) → (p ≡ q → ⊥) → may p plus ≡ true → way p plus ≡ 0 → ⊥
    open_way plus ne e z = ne (axis_zero len ring p q hp hq (sym (way_open plus e) ∙ z))

    pub none_here : way p true ≡ 0 → way p false ≡ 0 → p ≡ q
    none_here a b = test (eqb p q) (eqb-true p q) (λ z. let ne = eqb-false p q z in absurd (⊎_elim (λ e. open_way true ne e a) (λ e. open_way false ne e b) (some_open ne)))

    -- ---- a hop along the dimension
    module _ (plus : Bool) (ne : p ≡ q → ⊥) (e : may p plus ≡ true) where
      abbrev next : ℕ
      next = place len p plus

      useful : axis_useful len ring p q plus ≡ true
      useful = open_useful_law plus ne e

      stays : (next ≡ q → ⊥) → (may next plus ≡ true) × (may next (not plus) ≡ false)
      unfolding opens
      stays more = by m e
        where
          ways : (plus g : Bool) → g ≡ plus → (cond plus g (not g) ≡ true) × (cond (not plus) g (not g) ≡ false)
          ways true g f = rw f (refl, refl)
          ways false g f = rw f (refl, refl)

          only : (plus : Bool) → (axis_useful len ring next q true ≡ true) ⊎ (axis_useful len ring next q false ≡ true) → axis_useful len ring next q (not plus) ≡ false → axis_useful len ring next q plus ≡ true
          only true some b = ⊎_elim (λ z. z) (λ z. absurd (true≢false (sym z ∙ b))) some
          only false some b = ⊎_elim (λ z. absurd (true≢false (sym z ∙ b))) (λ z. z) some

          by : (m : Mode) → opens ties m len ring p q plus ≡ true → (opens ties m len ring next q plus ≡ true) × (opens ties m len ring next q (not plus) ≡ false)
          by Adaptive f = let b = back_useless len ring p q plus hp hq useful in (only plus (axis_some len ring next q (place_below len p plus hp) hq more) b, b)
          by Deterministic f = ways plus _ (kept ties len ring p q plus hp hq ne (chosen plus (goes ties len ring p q) f) more)

      pub one_less : way p plus - 1 ≡ way next plus
      one_less =
          let less : way p plus - 1 ≡ axis_hops len ring next q = rw (way_open plus e) (omega (arith, useful_less len ring p q plus useful)) in
          less ∙ test (eqb next q)
          (λ z. let h = eqb-true next q z in rw h (axis_self len ring q ∙ sym (way_here plus)))
          (λ z. rw (stays (eqb-false next q z)).0)

      pub none_back : way next (not plus) ≡ 0
      none_back =
          test (eqb next q)
          (λ z. rw (eqb-true next q z) (way_here (not plus)))
          (λ z. rw (stays (eqb-false next q z)).1)

    -- ---- where the packet stands
    once_is : (sum : ℕ) → (sum ≡ p) ⊎ (sum ≡ p + len) → once_round len sum ≡ p
    unfolding once_round
    once_is sum = ⊎_elim (λ e. rw (lt-leb len sum (omega arith)) e) (λ e. rw (le-leb len sum (omega arith)) (omega arith))

    pub place_is : len ≤ 256 → place_before len q (way p true) (way p false) ≡ p
    unfolding place_before
    place_is small = rw (once_is (q + cond (eqb (way p true) 0) (way p false) (len - way p true)) sum) (mod-eq_of_lt (omega arith))
      where
        leads : (plus : Bool) → (way p plus ≡ 0 → ⊥) → axis_useful len ring p q plus ≡ true
        leads plus some = open_useful_law plus (way_apart p plus some) (some_cond (may p plus) (axis_hops len ring p q) some)

        hops : (plus : Bool) → (way p plus ≡ 0 → ⊥) → way p plus ≡ axis_hops len ring p q
        hops plus some = way_open plus (some_cond (may p plus) (axis_hops len ring p q) some)

        sum : (q + cond (eqb (way p true) 0) (way p false) (len - way p true) ≡ p) ⊎ (q + cond (eqb (way p true) 0) (way p false) (len - way p true) ≡ p + len)
        sum =
            test (eqb (way p true) 0)
            (λ a. rw a (test (eqb (way p false) 0)
            (λ b. let e = none_here (eqb-true (way p true) 0 a) (eqb-true (way p false) 0 b) in inl (omega (arith, eqb-true (way p false) 0 b)))
            (λ b. let some = eqb-false (way p false) 0 b in ⊎_elim (λ e. inl (omega (arith, hops false some))) (λ e. inr (omega (arith, hops false some))) (minus_leads len ring p q hp hq (leads false some)))))
            (λ a.
            let some = eqb-false (way p true) 0 a in
            let low = axis_below len ring p q hp hq in
            rw a (⊎_elim (λ e. inr (omega (arith, hops true some))) (λ e. inl (omega (arith, hops true some))) (plus_leads len ring p q hp hq (leads true some))))

-- ---- all directions
module _ (ties : ℕ → Bool) (m : Mode) (s : Shape) where
  at_direction : (c t : Coords) (d : Dim) (plus : Bool) → get_or (ways_at ties m s c t) (dir_of d plus) 0 ≡ way_along ties m s c t d plus
  unfolding ways_at
  at_direction c t X true = refl
  at_direction c t X false = refl
  at_direction c t Y true = refl
  at_direction c t Y false = refl
  at_direction c t Z true = refl
  at_direction c t Z false = refl

  module _ (c t : Coords) (i : Inside s c) (j : Inside s t) where
    -- A hop that the leg may take changes the hops left as the code does.
    moved_along_law : (d : Dim) (plus : Bool) → (coord_of c d ≡ coord_of t d → ⊥) → opens ties m (extent_of s d) (wrapped_in s d) (coord_of c d) (coord_of t d) plus ≡ true → hop_taken (ways_at ties m s c t) (dir_of d plus) ≡ ways_at ties m s (moved_along s c d plus) t
    unfolding hop_taken ways_at opposite
    moved_along_law d plus ne e = by d plus (one_less ties m (extent_of s d) (wrapped_in s d) (coord_of t d) (inside_at s t j d) (coord_of c d) (inside_at s c i d) plus ne e) (none_back ties m (extent_of s d) (wrapped_in s d) (coord_of t d) (inside_at s t j d) (coord_of c d) (inside_at s c i d) plus ne e)
      where
        after : Dim → Bool → Bool → ℕ
        after d plus way = way_of ties m (extent_of s d) (wrapped_in s d) (place (extent_of s d) (coord_of c d) plus) (coord_of t d) way

        by : (d : Dim) (plus : Bool) → way_along ties m s c t d plus - 1 ≡ after d plus plus → after d plus (not plus) ≡ 0 → hop_taken (ways_at ties m s c t) (dir_of d plus) ≡ ways_at ties m s (moved_along s c d plus) t
        by X true a b = rw (a, b)
        by X false a b = rw (a, b)
        by Y true a b = rw (a, b)
        by Y false a b = rw (a, b)
        by Z true a b = rw (a, b)
        by Z false a b = rw (a, b)

    pub standing_is : shape_error s ≡ 0 → standing_at s (ways_at ties m s c t) t ≡ c
    unfolding standing_at ways_at
    standing_is h = λ k. record { x = one X k; y = one Y k; z = one Z k }
      where
        one : (d : Dim) → place_before (extent_of s d) (coord_of t d) (way_along ties m s c t d true) (way_along ties m s c t d false) ≡ coord_of c d
        one d = place_is ties m (extent_of s d) (wrapped_in s d) (coord_of t d) (inside_at s t j d) (coord_of c d) (inside_at s c i d) (omega (arith, (sound s h d).high))

-- ---- a hop has hops left exactly if the leg allows it
some_left : (u : Bool) (n : ℕ) → (u ≡ true → n ≡ 0 → ⊥) → (not (eqb (cond u n 0) 0) && true) ≡ u
some_left true n f = rw (ne_eqb n 0 (f refl))
some_left false n f = refl

module _ (ties : ℕ → Bool) (s : Shape) (c t : Coords) (i : Inside s c) (j : Inside s t) where
  adaptive_along_law : (d : Dim) (plus : Bool) → allowed_in Adaptive (ways_at ties Adaptive s c t) (dir_of d plus) ≡ allowed_at ties Adaptive s c t (dir_of d plus)
  unfolding allowed_in in_turn allowed_at useful_at opens
  adaptive_along_law d plus =
      let w = direction d plus in
      rw (at_direction ties Adaptive s c t d plus, w.dim, w.way) (ap (λ b. leb (dir_of d plus) 5 && b) (useful_left d plus))
    where
      useful_left : (d : Dim) (plus : Bool) → (not (eqb (way_along ties Adaptive s c t d plus) 0) && true) ≡ axis_useful (extent_of s d) (wrapped_in s d) (coord_of c d) (coord_of t d) plus
      useful_left d plus = some_left _ _ (λ u z. omega (arith, useful_less (extent_of s d) (wrapped_in s d) (coord_of c d) (coord_of t d) plus u))

  -- Along a dimension of a deterministic leg.
  abbrev way_to : Dim → Bool → ℕ
  way_to d plus = way_along ties Deterministic s c t d plus

  abbrev ways : List ℕ
  ways = ways_at ties Deterministic s c t

  done_along : (d : Dim) → (eqb (way_to d true) 0 && eqb (way_to d false) 0) ≡ true → coord_of c d ≡ coord_of t d
  done_along d e =
      let both = and_true (eqb (way_to d true) 0) (eqb (way_to d false) 0) e in
      none_here ties Deterministic (extent_of s d) (wrapped_in s d) (coord_of t d) (inside_at s t j d) (coord_of c d) (inside_at s c i d) (eqb-true _ 0 both.0) (eqb-true _ 0 both.1)

  along_done : (d : Dim) → coord_of c d ≡ coord_of t d → (eqb (way_to d true) 0 && eqb (way_to d false) 0) ≡ true
  along_done d e = rw (none true, none false)
    where
      none : (plus : Bool) → eqb (way_to d plus) 0 ≡ true
      none plus = eq-eqb (way_to d plus) 0 (rw e (way_here ties Deterministic (extent_of s d) (wrapped_in s d) (coord_of t d) (inside_at s t j d) plus))

  first_of : (d : Dim) (plus : Bool) → (coord_of c d ≡ coord_of t d → ⊥) → none_before ways (dir_of d plus) ≡ true → FirstDim c t d
  unfolding none_before ways_at
  first_of X plus ne e = dim_x c t ne
  first_of Y true ne e = dim_y c t (done_along X (and_true _ true e).0) ne
  first_of Y false ne e = dim_y c t (done_along X (and_true _ true e).0) ne
  first_of Z true ne e = let both = and_true (eqb (way_to X true) 0 && eqb (way_to X false) 0) (eqb (way_to Y true) 0 && eqb (way_to Y false) 0) e in dim_z c t (done_along X both.0) (done_along Y both.1) ne
  first_of Z false ne e = let both = and_true (eqb (way_to X true) 0 && eqb (way_to X false) 0) (eqb (way_to Y true) 0 && eqb (way_to Y false) 0) e in dim_z c t (done_along X both.0) (done_along Y both.1) ne

  of_first : (d : Dim) (plus : Bool) → FirstDim c t d → none_before ways (dir_of d plus) ≡ true
  unfolding none_before ways_at
  of_first X true f = refl
  of_first X false f = refl
  of_first Y true f = rw (along_done X (f.done X refl))
  of_first Y false f = rw (along_done X (f.done X refl))
  of_first Z true f = rw (along_done X (f.done X refl), along_done Y (f.done Y refl))
  of_first Z false f = rw (along_done X (f.done X refl), along_done Y (f.done Y refl))

  in_goes : (d : Dim) (plus : Bool) → goes_along ties s c t d ≡ plus → opens ties Deterministic (extent_of s d) (wrapped_in s d) (coord_of c d) (coord_of t d) plus ≡ true
  unfolding opens
  in_goes d true e = e
  in_goes d false e = rw e

  goes_in : (d : Dim) (plus : Bool) → opens ties Deterministic (extent_of s d) (wrapped_in s d) (coord_of c d) (coord_of t d) plus ≡ true → goes_along ties s c t d ≡ plus
  unfolding opens
  goes_in d plus e = chosen plus (goes_along ties s c t d) e

  deterministic_along_law : (d : Dim) (plus : Bool) → allowed_in Deterministic ways (dir_of d plus) ≡ allowed_at ties Deterministic s c t (dir_of d plus)
  unfolding allowed_in in_turn
  deterministic_along_law d plus = same_test _ _ there back
    where
      w : Direction d plus (dir_of d plus)
      w = direction d plus

      left : get_or ways (dir_of d plus) 0 ≡ way_to d plus
      left = at_direction ties Deterministic s c t d plus

      there : allowed_in Deterministic ways (dir_of d plus) ≡ true → allowed_at ties Deterministic s c t (dir_of d plus) ≡ true
      there e =
          let more = and_true (not (eqb (get_or ways (dir_of d plus) 0) 0)) (none_before ways (dir_of d plus)) (and_true (leb (dir_of d plus) 5) _ e).1 in
          let some : way_to d plus ≡ 0 → ⊥ = rw left at (eqb-false (get_or ways (dir_of d plus) 0) 0 (not-true _ more.0)) in
          let ne = way_apart ties Deterministic (extent_of s d) (wrapped_in s d) (coord_of t d) (inside_at s t j d) (coord_of c d) plus some in
          let goes = goes_in d plus (some_cond _ _ some) in
          leads_allowed ties s c t (dir_of d plus) (rw goes at (leads_along ties s c t d (first_of d plus ne more.1)))

      back : allowed_at ties Deterministic s c t (dir_of d plus) ≡ true → allowed_in Deterministic ways (dir_of d plus) ≡ true
      back e =
          let k = allowed_leads ties s c t (dir_of d plus) e in
          let f : FirstDim c t d = rw w.dim at k.first in
          let goes : goes_along ties s c t d ≡ plus = rw (w.dim, w.way) at k.way in
          let some = open_way ties Deterministic (extent_of s d) (wrapped_in s d) (coord_of t d) (inside_at s t j d) (coord_of c d) (inside_at s c i d) plus f.apart (in_goes d plus goes) in
          rw (k.low, left, ne_eqb (way_to d plus) 0 some) (of_first d plus f)

-- ---- of every direction
moved_is : (s : Shape) (c : Coords) (d : Dim) (plus : Bool) → moved_at s c (dir_of d plus) ≡ moved_along s c d plus
unfolding moved_at
moved_is s c d plus = let w = direction d plus in rw (w.dim, w.way)

module _ (ties : ℕ → Bool) (m : Mode) (s : Shape) (c t : Coords) (i : Inside s c) (j : Inside s t) where
  pub ways_allow : (dir : ℕ) → allowed_in m (ways_at ties m s c t) dir ≡ allowed_at ties m s c t dir
  unfolding allowed_at useful_at
  ways_allow dir =
      by_le dir 5
      (λ low. by_direction (λ dir. allowed_in m (ways_at ties m s c t) dir ≡ allowed_at ties m s c t dir) (along m) dir low)
      (λ high. none_named m (ways_at ties m s c t) dir high ∙ sym (none m high))
    where
      along : (m : Mode) (d : Dim) (plus : Bool) → allowed_in m (ways_at ties m s c t) (dir_of d plus) ≡ allowed_at ties m s c t (dir_of d plus)
      along Adaptive d plus = adaptive_along_law ties s c t i j d plus
      along Deterministic d plus = deterministic_along_law ties s c t i j d plus

      none : (m : Mode) → 5 < dir → allowed_at ties m s c t dir ≡ false
      none Adaptive high = rw (lt-leb dir 5 high)
      none Deterministic high = rw (lt-leb dir 5 high)

  -- After a hop that is allowed they are those of the place that it leads to.
  pub ways_moved : (dir : ℕ) → allowed_in m (ways_at ties m s c t) dir ≡ true → taken m (ways_at ties m s c t) dir ≡ ways_at ties m s (moved_at s c dir) t
  unfolding allowed_in
  ways_moved dir a = rw a (by_direction (λ dir. allowed_in m (ways_at ties m s c t) dir ≡ true → hop_taken (ways_at ties m s c t) dir ≡ ways_at ties m s (moved_at s c dir) t) along dir (leb-true dir 5 (and_true (leb dir 5) _ a).0) a)
    where
      along : (d : Dim) (plus : Bool) → allowed_in m (ways_at ties m s c t) (dir_of d plus) ≡ true → hop_taken (ways_at ties m s c t) (dir_of d plus) ≡ ways_at ties m s (moved_at s c (dir_of d plus)) t
      along d plus e =
          let left = (and_true (not (eqb (get_or (ways_at ties m s c t) (dir_of d plus) 0) 0)) _ (and_true (leb (dir_of d plus) 5) _ e).1).0 in
          let some : way_along ties m s c t d plus ≡ 0 → ⊥ = rw (at_direction ties m s c t d plus) at (eqb-false (get_or (ways_at ties m s c t) (dir_of d plus) 0) 0 (not-true _ left)) in
          moved_along_law ties m s c t i j d plus (way_apart ties m (extent_of s d) (wrapped_in s d) (coord_of t d) (inside_at s t j d) (coord_of c d) plus some) (some_cond _ _ some)
          ∙ ap (λ at. ways_at ties m s at t) (sym (moved_is s c d plus))
