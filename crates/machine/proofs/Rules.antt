-- Two rules for half a ring: a deterministic leg has the same walks by both exactly where they agree on each half ring that it travels.
use Prim.Native.Nat.{ℕ, zero, suc, ◌<◌}
use native.Mathlib.Omega.{arith}
use mathlib.Core.Bool.{Bool, true}
use mathlib.Core.List.{[], ◌∷◌}
use mathlib.Core.Path.{◌≡◌, refl, sym, ap, ◌∙◌}
use Rattle.theory.specs.Alike.{SameWalks}
use Rattle.theory.proofs.Bools.{and_true}
use Rattle.theory.proofs.Cases.{test}
use Rattle.theory.proofs.Alike.{same_walks, walks_on}
use Rattle.shape.specs.declared.shape.Shape.{Shape}
use Rattle.shape.specs.declared.shape.Dim.{Dim}
use Rattle.shape.specs.declared.shape.Dim.TheVariants.{X, Y, Z}
use Rattle.shape.specs.Shape.{shape_error, same_dim}
use Rattle.shape.specs.Steps.{goes}
use Rattle.machine.specs.declared.leg.Mode.TheVariants.{Deterministic}
use Rattle.machine.specs.Number.{node_count, coords_of}
use Rattle.machine.specs.Hop.{dir_dim, plus_dir, along, hops, half, useful, toward, first_direction, neighbour}
use Rattle.machine.specs.ByCoords.{goes_along}
use Rattle.machine.specs.Torus.{allowed_by, torus_by, leg}
use Rattle.machine.proofs.ByCoords.{neighbour_below, plus_of_law, minus_of}
use Rattle.machine.proofs.Laws.{hops_self, useful_lowers}
use Rattle.machine.proofs.OneDirection.{leads_at}
use Rattle.machine.proofs.Torus.{torus_by_laws}
use Rattle.machine.proofs.Begins.{same_dim_law, hop_else, hop_half, hop_halved}

module _ (s : Shape) (h : shape_error s ≡ 0) (t : ℕ) (ht : t < node_count s) where
  -- At half a ring the way is the rule's.
  half_goes : (ties : ℕ → Bool) (n : ℕ) → n < node_count s → (d : Dim) → half s n t d ≡ true → goes_along ties s (coords_of s n) (coords_of s t) d ≡ ties (along s n d)
  unfolding goes
  half_goes ties n hn d e =
      let both = and_true (useful s n t (plus_dir d)) _ e in
      rw (sym (plus_of_law s h n hn t d) ∙ both.0, sym (minus_of s h n hn t d) ∙ both.1)

  -- How much is left in a dimension goes by the coordinate there.
  half_along : (n m : ℕ) → n < node_count s → m < node_count s → (d : Dim) → along s m d ≡ along s n d → half s m t d ≡ half s n t d
  half_along n m hn hm d e = rw (plus_of_law s h n hn t d, minus_of s h n hn t d, plus_of_law s h m hm t d, minus_of s h m hm t d, e)

  module _ (u v : ℕ → Bool) where
    -- The rules agree on each half ring that is left at n.
    abbrev pub Agree : ℕ → Type 0
    Agree n = (d : Dim) → half s n t d ≡ true → u (along s n d) ≡ v (along s n d)

    toward_agree : (n : ℕ) → Agree n → (d : Dim) → toward u s n t d ≡ toward v s n t d
    unfolding toward
    toward_agree n k d = test (half s n t d) (λ q. rw (q, k d q)) (λ q. rw q)

    allowed_agree : (n dir : ℕ) → Agree n → allowed_by u Deterministic s n t dir ≡ allowed_by v Deterministic s n t dir
    unfolding allowed_by first_direction
    allowed_agree n dir k = rw (toward_agree n k X, toward_agree n k Y, toward_agree n k Z)

    agree_on : (n dir : ℕ) → n < node_count s → allowed_by u Deterministic s n t dir ≡ true → Agree n → Agree (neighbour s n dir)
    agree_on n dir hn w k d e = rw (hop_half u s h t ht n dir hn w d e) (k d (hop_halved u s h t ht n dir hn w d e))

    abbrev Same : ℕ → Type 0
    Same n = SameWalks (torus_by u s) (torus_by v s) (leg t Deterministic) n

    pub agree_walks : (a : ℕ) → a < node_count s → Agree a → Same a
    agree_walks a ha k =
        same_walks (torus_by u s) (λ l p d. allowed_by v l.mode s p l.target d) (leg t Deterministic) (λ n. (n < node_count s) × Agree n)
        (λ n dir q. allowed_agree n dir q.1)
        (λ n dir q w. (neighbour_below s h n q.0 dir, agree_on n dir q.0 w q.1))
        a (ha, k)

    -- And where the walks are the same the rules agree: the walk takes the dimensions in turn, and on the way to a half ring its coordinate stays.
    same_agree : (left n : ℕ) → n < node_count s → hops s n t ≡ left → Same n → Agree n
    same_agree zero n hn z w d e = absurd (omega (arith, useful_lowers s n t (plus_dir d) (and_true (useful s n t (plus_dir d)) _ e).0))
    same_agree (suc left) n hn z w d e =
        let L = torus_by_laws u s h in
        let away : t ≡ n → ⊥ = λ q. absurd (omega (arith, z, hops_self s n, ap (hops s n) q)) in
        let go = L.onward (leg t Deterministic) n hn ht away in
        let dir = go.0 in
        let next = neighbour s n dir in
        let hm = neighbour_below s h n hn dir in
        let one = leads_at u s h n dir hn t go.2 in
        let two = leads_at v s h n dir hn t ((w (dir ∷ [])).0 (go.2, tt)).0 in
        test (same_dim (dir_dim dir) d)
        (λ q.
        let j = same_dim_law (dir_dim dir) d q in
        let here : half s n t (dir_dim dir) ≡ true = rw j e in
        rw (← j) (sym (half_goes u n hn (dir_dim dir) here) ∙ one.way ∙ sym two.way ∙ half_goes v n hn (dir_dim dir) here))
        (λ q.
        let stays = hop_else u s h t ht n dir hn go.2 d q in
        let fewer = L.nearer (leg t Deterministic) n dir hn ht go.2 in
        rw (← stays) (same_agree left next hm (omega (arith, fewer, z)) (walks_on (torus_by u s) (λ l p d. allowed_by v l.mode s p l.target d) (leg t Deterministic) n dir go.2 w) d (half_along n next hn hm d stays ∙ e)))

    pub walks_agree : (a : ℕ) → a < node_count s → Same a → Agree a
    walks_agree a ha w = same_agree (hops s a t) a ha refl w
