-- Along a deterministic walk, with any rule for half a ring: where the travel in a dimension begins, and that the rule which looks at the present node and the
-- one which remembers the leg's start give one walk.
use Prim.Native.Nat.{ℕ, ◌*◌, ◌<◌}
use mathlib.Core.Bool.{Bool, true, false, not, ◌||◌, false≢true, true≢false}
use mathlib.Core.List.{List, [], ◌∷◌}
use mathlib.Core.Path.{◌≡◌, refl, sym, ap, ◌∙◌}
use borrow.Author.Tests.{eqb-false}
use Rattle.theory.specs.Clear.{Allows, lead}
use Rattle.theory.specs.Alike.{SameWalks}
use Rattle.theory.proofs.Bools.{and_true, or_false}
use Rattle.theory.proofs.Cases.{test}
use Rattle.theory.proofs.Alike.{same_walks}
use Rattle.shape.specs.declared.shape.Shape.{Shape}
use Rattle.shape.specs.declared.shape.Coords.{Coords}
use Rattle.shape.specs.declared.shape.Dim.{Dim}
use Rattle.shape.specs.declared.shape.Dim.TheVariants.{X, Y, Z}
use Rattle.shape.specs.Shape.{shape_error, extent_of, wrapped_in, coord_of, put, same_dim, before_dim}
use Rattle.shape.specs.Axis.{place}
use Rattle.shape.proofs.Runs.{goes_useful, back_useless, under_half, kept}
use Rattle.machine.specs.declared.leg.Mode.TheVariants.{Deterministic}
use Rattle.machine.specs.Number.{node_count, coords_of}
use Rattle.machine.specs.Hop.{dir_dim, dir_plus, dir_of, plus_dir, along, part, half, useful, same, toward, first_direction, neighbour}
use Rattle.machine.specs.ByCoords.{goes_along, useful_along}
use Rattle.machine.specs.Torus.{allowed_by, torus_by, leg}
use Rattle.machine.specs.Begins.{travelled, Begins, toward_from, allowed_from, torus_from}
use Rattle.machine.proofs.Numbers.{inside}
use Rattle.machine.proofs.ByCoords.{inside_at, neighbour_below, plus_of_law, minus_of, toward_at_law}
use Rattle.machine.proofs.Laws.{put_at}
use Rattle.machine.proofs.OneDirection.{Leads, leads_at, moved}

pub same_dim_law : (j d : Dim) → same_dim j d ≡ true → j ≡ d
same_dim_law X X e = refl
same_dim_law X Y e = absurd (false≢true e)
same_dim_law X Z e = absurd (false≢true e)
same_dim_law Y X e = absurd (false≢true e)
same_dim_law Y Y e = refl
same_dim_law Y Z e = absurd (false≢true e)
same_dim_law Z X e = absurd (false≢true e)
same_dim_law Z Y e = absurd (false≢true e)
same_dim_law Z Z e = refl

put_else : (c : Coords) (j d : Dim) (v : ℕ) → same_dim j d ≡ false → coord_of (put c j v) d ≡ coord_of c d
put_else c X X v e = absurd (true≢false e)
put_else c X Y v e = refl
put_else c X Z v e = refl
put_else c Y X v e = refl
put_else c Y Y v e = absurd (true≢false e)
put_else c Y Z v e = refl
put_else c Z X v e = refl
put_else c Z Y v e = refl
put_else c Z Z v e = absurd (true≢false e)

module _ (ties : ℕ → Bool) (s : Shape) (h : shape_error s ≡ 0) (t : ℕ) (ht : t < node_count s) where
  -- ---- one hop
  module _ (n dir : ℕ) (hn : n < node_count s) (a : allowed_by ties Deterministic s n t dir ≡ true) where
    abbrev j : Dim
    j = dir_dim dir

    abbrev next : ℕ
    next = neighbour s n dir

    leads : Leads ties s (coords_of s n) (coords_of s t) dir
    leads = leads_at ties s h n dir hn t a

    -- The hop is along one dimension, the first that is not done.
    pub hop_else : (d : Dim) → same_dim j d ≡ false → along s next d ≡ along s n d
    hop_else d e = ap (λ c. coord_of c d) (moved s h n dir hn) ∙ put_else (coords_of s n) j d _ e

    hop_along : along s next j ≡ place (extent_of s j) (along s n j) (dir_plus dir)
    hop_along = ap (λ c. coord_of c j) (moved s h n dir hn) ∙ put_at (coords_of s n) j _

    hop_stays : (d : Dim) → along s n d ≡ along s t d → along s next d ≡ along s t d
    hop_stays d e =
        test (same_dim j d)
        (λ q. absurd (leads.first.apart (rw (same_dim_law j d q) e)))
        (λ q. hop_else d q ∙ e)

    here : (d : Dim) → along s n d < extent_of s d
    here d = inside_at s (coords_of s n) (inside s h n hn) d

    there : (d : Dim) → along s t d < extent_of s d
    there d = inside_at s (coords_of s t) (inside s h t ht) d

    useful_here : useful_along s (coords_of s n) (coords_of s t) j (dir_plus dir) ≡ true
    useful_here = goes_useful ties (extent_of s j) (wrapped_in s j) (along s n j) (along s t j) (dir_plus dir) (here j) (there j) leads.first.apart leads.way

    hop_below : wrapped_in s j ≡ true → 2 * part s next t j < extent_of s j
    hop_below r = rw hop_along (under_half (extent_of s j) (wrapped_in s j) (along s n j) (along s t j) (dir_plus dir) (here j) (there j) useful_here r)

    hop_kept : (d : Dim) → (along s next d ≡ along s t d → ⊥) → goes_along ties s (coords_of s next) (coords_of s t) d ≡ goes_along ties s (coords_of s n) (coords_of s t) d
    hop_kept d ne =
        test (same_dim j d)
        (λ q. rw (sym (same_dim_law j d q)) (hop_on (λ e. ne (rw (sym (same_dim_law j d q)) e))))
        (λ q. rw (hop_else d q))
      where
        hop_on : (along s next j ≡ along s t j → ⊥) → goes_along ties s (coords_of s next) (coords_of s t) j ≡ goes_along ties s (coords_of s n) (coords_of s t) j
        hop_on more =
            rw hop_along (kept ties (extent_of s j) (wrapped_in s j) (along s n j) (along s t j) (dir_plus dir) (here j) (there j) leads.first.apart leads.way (λ e. more (hop_along ∙ e)) ∙ sym leads.way)

    -- Where half a ring is left after it, the hop was not along that dimension, and as much was left before it.
    way_both : (d : Dim) (plus : Bool) → half s next t d ≡ true → useful_along s (coords_of s next) (coords_of s t) d plus ≡ true
    way_both d true e = sym (plus_of_law s h next (neighbour_below s h n hn dir) t d) ∙ (and_true (useful s next t (plus_dir d)) _ e).0
    way_both d false e = sym (minus_of s h next (neighbour_below s h n hn dir) t d) ∙ (and_true (useful s next t (plus_dir d)) _ e).1

    pub hop_half : (d : Dim) → half s next t d ≡ true → along s next d ≡ along s n d
    hop_half d e =
        test (same_dim j d)
        (λ q. absurd (true≢false (sym (way_both j (not (dir_plus dir)) (rw (same_dim_law j d q) e)) ∙ gone)))
        (λ q. hop_else d q)
      where
        gone : useful_along s (coords_of s next) (coords_of s t) j (not (dir_plus dir)) ≡ false
        gone = rw hop_along (back_useless (extent_of s j) (wrapped_in s j) (along s n j) (along s t j) (dir_plus dir) (here j) (there j) useful_here)

    pub hop_halved : (d : Dim) → half s next t d ≡ true → half s n t d ≡ true
    hop_halved d e =
        let one : (plus : Bool) → useful_along s (coords_of s n) (coords_of s t) d plus ≡ true = λ plus. rw (sym (hop_half d e)) (way_both d plus e) in
        rw (plus_of_law s h n hn t d, minus_of s h n hn t d, one true, one false)

  -- ---- walks
  abbrev Walked : ℕ → List ℕ → Type 0
  Walked n ds = Allows (torus_by ties s) (leg t Deterministic) n ds

  abbrev ends : ℕ → List ℕ → ℕ
  ends n ds = lead (torus_by ties s) n ds

  stays : (n : ℕ) (ds : List ℕ) → n < node_count s → Walked n ds → (d : Dim) → along s n d ≡ along s t d → along s (ends n ds) d ≡ along s t d
  unfolding lead
  stays n [] hn w d e = e
  stays n (dir ∷ ds) hn w d e = stays (neighbour s n dir) ds (neighbour_below s h n hn dir) w.1 d (hop_stays n dir hn w.0 d e)

  begins_more : (n dir : ℕ) (ds : List ℕ) → n < node_count s → Walked n (dir ∷ ds) → (d : Dim) → Begins ties s (neighbour s n dir) t ds d → Begins ties s n t (dir ∷ ds) d
  unfolding lead travelled
  begins_more n dir ds hn w d b = record {
    until = λ e. let o = or_false (same_dim (dir_dim dir) d) (travelled d ds) e in b.until o.1 ∙ hop_else n dir hn w.0 d o.0;
    after = λ e f k. test (travelled d ds) (λ q. b.after q f k) (λ q. first_done q e f k);
    below = λ e r. test (travelled d ds) (λ q. b.below q r) (λ q. first_below q e r);
    kept = λ e. goes_on e;
  }
    where
      next : ℕ
      next = neighbour s n dir

      hm : next < node_count s
      hm = neighbour_below s h n hn dir

      with_it : travelled d ds ≡ false → (same_dim (dir_dim dir) d || travelled d ds) ≡ true → dir_dim dir ≡ d
      with_it q e = same_dim_law (dir_dim dir) d (test (same_dim (dir_dim dir) d) (λ z. z) (λ z. absurd (true≢false (sym e ∙ rw (z, q)))))

      first_done : travelled d ds ≡ false → (same_dim (dir_dim dir) d || travelled d ds) ≡ true → (f : Dim) → before_dim f d ≡ true → along s (ends next ds) f ≡ along s t f
      first_done q e f k = stays n (dir ∷ ds) hn w f ((leads n dir hn w.0).first.done f (rw (with_it q e) k))

      first_below : travelled d ds ≡ false → (same_dim (dir_dim dir) d || travelled d ds) ≡ true → wrapped_in s d ≡ true → 2 * part s (ends next ds) t d < extent_of s d
      first_below q e r = rw (b.until q) (rw (sym (with_it q e)) (hop_below n dir hn w.0 (rw (with_it q e) r)))

      goes_on : same s (ends next ds) t d ≡ false → toward ties s (ends next ds) t d ≡ toward ties s n t d
      goes_on e =
          b.kept e ∙ toward_at_law s h next hm t ties d
          ∙ ap (dir_of d) (hop_kept n dir hn w.0 d (λ z. eqb-false _ _ e (stays next ds hm w.1 d z)))
          ∙ sym (toward_at_law s h n hn t ties d)

  pub half_begins : (a : ℕ) (ds : List ℕ) → a < node_count s → Allows (torus_by ties s) (leg t Deterministic) a ds → (d : Dim) → Begins ties s a t ds d
  unfolding lead travelled
  half_begins a [] ha w d = record { until = λ e. refl; after = λ e. absurd (false≢true e); below = λ e. absurd (false≢true e); kept = λ e. refl }
  half_begins a (dir ∷ ds) ha w d = begins_more a dir ds ha w d (half_begins (neighbour s a dir) ds (neighbour_below s h a ha dir) w.1 d)

  -- ---- the rule that remembers the start, a
  module _ (a : ℕ) where
    -- Where half a ring is left, the coordinate is the start's.
    abbrev Tied : ℕ → Type 0
    Tied n = (d : Dim) → half s n t d ≡ true → along s n d ≡ along s a d

    tied_on : (n dir : ℕ) → n < node_count s → allowed_by ties Deterministic s n t dir ≡ true → Tied n → Tied (neighbour s n dir)
    tied_on n dir hn w k d e = hop_half n dir hn w d e ∙ k d (hop_halved n dir hn w d e)

    toward_from_law : (n : ℕ) → Tied n → (d : Dim) → toward_from ties a s n t d ≡ toward ties s n t d
    unfolding toward
    toward_from_law n k d = test (half s n t d) (λ q. rw (q, k d q)) (λ q. rw q)

    allowed_from_law : (n dir : ℕ) → Tied n → allowed_from ties a Deterministic s n t dir ≡ allowed_by ties Deterministic s n t dir
    unfolding allowed_from allowed_by first_direction
    allowed_from_law n dir k = rw (toward_from_law n k X, toward_from_law n k Y, toward_from_law n k Z)

    pub walk_by_start : a < node_count s → SameWalks (torus_by ties s) (torus_from ties a s) (leg t Deterministic) a
    walk_by_start ha =
        same_walks (torus_by ties s) (λ l p d. allowed_from ties a l.mode s p l.target d) (leg t Deterministic) (λ n. (n < node_count s) × Tied n)
        (λ n dir k. sym (allowed_from_law n dir k.1))
        (λ n dir k w. (neighbour_below s h n k.0 dir, tied_on n dir k.0 w k.1))
        a (ha, λ d e. refl)
