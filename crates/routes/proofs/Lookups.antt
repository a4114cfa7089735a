-- The part that a lookup gives, and what its companion answers.
use Prim.Native.Nat.{ℕ, zero, suc, ◌+◌, ◌/◌, ◌≤◌, ◌<◌}
use native.Mathlib.Omega.{arith}
use mathlib.Core.Path.{◌≡◌, refl, sym, ap, ◌∙◌}
use mathlib.Core.Bool.{Bool, true, false, not, cond, ◌&&◌}
use mathlib.Core.List.{List, [], ◌∷◌}
use lib.ListN.{length}
use lib.Dec.{ltb, leb, eqb}
use denote.Ref.{Bor}
use borrow.Author.Tests.{eq-eqb, ne_eqb, lt-ltb, le-ltb, ltb-true, leb-true, eqb-true, not-false}
use Rattle.std.specs.Prelude.{Option, Some, None, option_map}
use Rattle.std.proofs.lemmas.Option.{cond_some, none-some}
use Rattle.numbers.specs.declared.Refusal.{Refusal}
use Rattle.numbers.specs.Refusals.{number}
use Rattle.theory.specs.Machine.{sum_by}
use Rattle.theory.proofs.Bools.{and_true}
use Rattle.theory.proofs.Checks.{then_zero, declined_zero}
use Rattle.theory.proofs.Cases.{test, by_le}
use Rattle.sheet.specs.Bytes.{list_from}
use Rattle.shape.specs.declared.shape.Shape.{Shape}
use Rattle.machine.specs.declared.leg.Mode.TheVariants.{Adaptive}
use Rattle.machine.specs.Node.{is_node, are_pair}
use Rattle.machine.specs.Torus.{leg}
use Rattle.machine.proofs.Nodes.{is_node_law}
use Rattle.weights.specs.declared.weights.Weights.{Weights}
use Rattle.weights.specs.Weights.{weight_error}
use Rattle.weights.specs.Distance.{distance, distance_answer}
use Rattle.plan.specs.Layout.{shape_of, weights_of}
use Rattle.plan.specs.Checks.{Limits, torus_plans}
use Rattle.plan.proofs.Plans as Plans
use Rattle.packet.specs.declared.route.Route.{Route}
use Rattle.choice.specs.declared.outcome.Outcome.{Outcome}
use Rattle.choice.specs.Answer.{Given, Refused, answered}
use Rattle.choice.specs.Outcome.{told, told_as, outcome_number, told_number}
use Rattle.choice.proofs.Told.{number-refusal, answered_refused, refused-told}
use Rattle.choice.specs.Pair.{far_in}
use Rattle.routes.specs.declared.layout.Entry.{Entry}
use Rattle.routes.specs.declared.lookup.Part.{Part}
use Rattle.routes.specs.Layout.{format_of, source, entry_count, entry_size, entry_place, entry_at, entries_of}
use Rattle.routes.specs.Kinds.{plain_kind, via_kind, vias_kind}
use Rattle.routes.specs.Checks.{via_good, entry_good, routes_good, sheet_error}
use Rattle.routes.specs.Said.{mode_by, said_with, said_by}
use Rattle.routes.specs.Lookup.{find, find_entry, lookup_error, is_listed, PartOf, part_start, part_length, part_for}
use Rattle.routes.specs.Says.{says_of, says}
use Rattle.routes.specs.Steps.{found_in, or_direct, length_via, length_vias, length_by}
use Rattle.routes.proofs.Sheets.{place_fits, Accepted, accepted}
use Rattle.routes.proofs.Rising.{good_entry, each_good}

-- Whether there is an entry for a destination, and its number.
module _ (s : List ℕ) (d : ℕ) where
  listed : (i : ℕ) → Some i ≡ find_entry s d → (ltb (find (entries_of s) d) (entry_count s) ≡ true) × (find (entries_of s) d ≡ i)
  unfolding find_entry
  listed i q = cond_some _ _ _ (sym q)

  not_listed : None ≡ find_entry s d → ltb (find (entries_of s) d) (entry_count s) ≡ false
  unfolding find_entry
  not_listed q = test (ltb (find (entries_of s) d) (entry_count s)) (λ t. absurd (none-some (find (entries_of s) d) (rw t at q))) (λ t. t)

module _ (L : Limits) (p s : List ℕ) (d : ℕ) where
  pub looked_up : lookup_error L p s d ≡ 0 → Accepted L p s
  unfolding lookup_error
  looked_up h = accepted L p s (then_zero (sheet_error L p s) _ h).0

  -- Not listed: no bytes, at the sheet's start.
  abbrev Made : Part → Type 0
  Made r = (r ≡ part_for L p s d) × (r.start + r.size ≤ length s)

  none : is_listed L p s d ≡ false → Made (record { start = 0; size = 0 })
  unfolding part_for part_start part_length
  none h = (rw h, omega arith)

  pub declined_part : (lookup_error L p s d ≡ 0 → ⊥) → Made (record { start = 0; size = 0 })
  unfolding is_listed
  declined_part h = none (rw (ne_eqb (lookup_error L p s d) 0 h))

  module _ (h : lookup_error L p s d ≡ 0) where
    pub unlisted_part : None ≡ find_entry s d → Made (record { start = 0; size = 0 })
    unfolding is_listed
    unlisted_part q = none (rw (eq-eqb (lookup_error L p s d) 0 h, not_listed s d q))

    pub listed_part : (i : ℕ) → Some i ≡ find_entry s d → Made (record { start = entry_place (format_of s) i; size = entry_size (format_of s) })
    unfolding part_for part_start part_length is_listed
    listed_part i q =
        let l = listed s d i q in
        (rw (eq-eqb (lookup_error L p s d) 0 h, l.0, l.1), place_fits (format_of s) s i (looked_up h).head (ltb-true i (entry_count s) (rw l.1 at l.0)))

-- The part is those bytes of the sheet.
pub part_of :
    (L : Limits) (p : List ℕ) (s r : Bor (List ℕ)) (d : ℕ) (w : Part) → w ≡ part_for L p s.now d →
    PartOf s r w.start w.size → PartOf s r (part_start L p s.now d) (part_length L p s.now d)
unfolding part_for
part_of L p s r d w e k = rw (← ap (λ (x : Part). x.start) e, ← ap (λ (x : Part). x.size) e) k

-- What the entries say is what the one found says.
ltb_suc : (a n : ℕ) → ltb (a + 1) (suc n) ≡ ltb a n
ltb_suc a n = by_le n a (λ h. rw (le-ltb (a + 1) (suc n) (omega arith), le-ltb a n h)) (λ h. rw (lt-ltb (a + 1) (suc n) (omega arith), lt-ltb a n h))

found_says : (f : ℕ → Entry) (d n i : ℕ) → let k = find (list_from f i n) d in or_direct d (cond (ltb k n) (Some (f (i + k))) None) ≡ says_of (list_from f i n) d
unfolding list_from find says_of or_direct
found_says f d zero i = refl
found_says f d (suc n) i =
    test (eqb (f i).dest d)
    (λ t. let z : i + 0 ≡ i = omega arith in rw (t, lt-ltb 0 (suc n) (omega arith), z))
    (λ t.
    let k = find (list_from f (suc i) n) d in
    let z : i + (k + 1) ≡ suc i + k = omega arith in
    rw (t, ltb_suc k n, z) (found_says f d n (suc i)))

map_cond : (f : ℕ → Entry) (b : Bool) (k : ℕ) → option_map f (cond b (Some k) None) ≡ cond b (Some (f k)) None
map_cond f true k = refl
map_cond f false k = refl

found_as : (s : List ℕ) (d : ℕ) → or_direct d (found_in s d) ≡ says_of (entries_of s) d
unfolding found_in find_entry entries_of
found_as s d =
    let k = find (entries_of s) d in
    let z : k ≡ 0 + k = omega arith in
    ap (or_direct d) (map_cond (entry_at s) (ltb k (entry_count s)) k)
    ∙ ap (λ (i : ℕ). or_direct d (cond (ltb k (entry_count s)) (Some (entry_at s i)) None)) z
    ∙ found_says (entry_at s) d (entry_count s) 0

-- ---- the route, with its length from the source
module _ (w : Weights) (hw : weight_error w ≡ 0) (m : Shape) (S : ℕ) (source : is_node m S ≡ true) where
  -- To one node, by another, and by two.
  between : (a t : ℕ) → is_node m a ≡ true → is_node m t ≡ true → distance_answer w m a t ≡ distance w m a t
  unfolding distance_answer are_pair
  between a t ha ht = rw (ha, ht, eq-eqb (weight_error w) 0 hw)

  one_leg : (t : ℕ) → is_node m t ≡ true → distance_answer w m S t ≡ distance w m S t + 0
  one_leg t h = rw (between S t source h) (omega arith)

  two_legs : (v t : ℕ) → is_node m v ≡ true → is_node m t ≡ true → length_via w m S v t ≡ distance w m S v + (distance w m v t + 0)
  two_legs v t hv ht = rw (between S v source hv, between v t hv ht) (omega arith)

  three_legs : (v u t : ℕ) → is_node m v ≡ true → is_node m u ≡ true → is_node m t ≡ true → length_vias w m S v u t ≡ distance w m S v + (distance w m v u + (distance w m u t + 0))
  three_legs v u t hv hu ht = rw (between S v source hv, between v u hv hu, between u t hu ht) (omega arith)

  -- By how many vias the kind tells.
  abbrev length_with : ℕ → Entry → ℕ
  length_with n e = cond (eqb n 2) (length_vias w m S e.via e.second e.dest) (cond (eqb n 1) (length_via w m S e.via e.dest) (distance_answer w m S e.dest))

  told_with : (n k : ℕ) (e : Entry) → is_node m e.dest ≡ true → is_node m e.via ≡ true → is_node m e.second ≡ true → told_as (length_with n e) (said_with n k e) ≡ told (distance w m) S (said_with n k e)
  unfolding told_as told sum_by
  told_with zero k e hd hv hu = ap (λ n. Outcome.Given (Route.Direct (mode_by k)) n) (one_leg e.dest hd)
  told_with (suc zero) k e hd hv hu = ap (λ n. Outcome.Given (Route.Via e.via (mode_by k) (mode_by (k / 2))) n) (two_legs e.via e.dest hv hd)
  told_with (suc (suc zero)) k e hd hv hu = ap (λ n. Outcome.Given (Route.Vias e.via e.second (mode_by k) (mode_by (k / 2)) (mode_by (k / 4))) n) (three_legs e.via e.second e.dest hv hu hd)
  told_with (suc (suc (suc n))) k e hd hv hu = refl

  told_good : (e : Entry) → entry_good m S e ≡ true → told_as (length_by w m S e) (said_by e) ≡ told (distance w m) S (said_by e)
  unfolding length_by said_by
  told_good e h =
      let g = good_entry m S e h in
      told_with (e.kind / 16) e.kind e (is_node_law m S source e.dest g.dest) (is_node_law m S source e.via g.via) (is_node_law m S source e.second g.second)

  told_direct : (d : ℕ) → is_node m d ≡ true → Outcome.Given (Route.Direct Adaptive) (distance_answer w m S d) ≡ told (distance w m) S (Given (leg d Adaptive ∷ []))
  unfolding told told_as sum_by
  told_direct d h = ap (λ n. Outcome.Given (Route.Direct Adaptive) n) (one_leg d h)

-- What is found is good.
abbrev FoundGood : Shape → ℕ → Option Entry → Type 0
FoundGood m S (Some e) = entry_good m S e ≡ true
FoundGood m S None = Unit {0}

-- The number that it says: of a refusal as its kind has it.
kind_most : (m : Shape) (S : ℕ) (e : Entry) → entry_good m S e ≡ true → e.kind < 256
unfolding entry_good via_good plain_kind via_kind vias_kind
kind_most m S e h =
    let p = (and_true (is_node m e.dest && not (eqb e.dest S)) _ h).1 in
    test (vias_kind e.kind)
    (λ t. let k = leb-true e.kind 39 (and_true (leb 32 e.kind) _ t).1 in omega arith)
    (λ t. test (via_kind e.kind)
    (λ u. let k = leb-true e.kind 19 (and_true (leb 16 e.kind) _ u).1 in omega arith)
    (λ u. plain e.kind (and_true (plain_kind e.kind) _ (rw (t, u) at p)).0))
  where
    plain : (k : ℕ) → plain_kind k ≡ true → k < 256
    plain k h =
        test (eqb k 1)
        (λ a. let z = eqb-true k 1 a in omega arith)
        (λ a. test (eqb k 160)
        (λ b. let z = eqb-true k 160 b in omega arith)
        (λ b. let z = eqb-true k 176 (rw (a, b) at h) in omega arith))

number_with : (n k len : ℕ) (e : Entry) → n < 19 → outcome_number (told_as len (said_with n k e)) ≡ told_number (said_with n k e)
unfolding told_as
number_with zero k len e b = refl
number_with (suc zero) k len e b = refl
number_with (suc (suc zero)) k len e b = refl
number_with (suc (suc (suc n))) k len e b = number-refusal (suc (suc (suc n))) (omega arith) b

number_said : (len : ℕ) (e : Entry) → e.kind < 256 → outcome_number (told_as len (said_by e)) ≡ told_number (said_by e)
unfolding said_by
number_said len e b = number_with (e.kind / 16) e.kind len e (omega arith)

module _ (L : Limits) (p s : List ℕ) (d : ℕ) where
  module _ (e : Refusal) (h : number e ≡ lookup_error L p s d) where
    says_refused : says L p s d ≡ Refused (lookup_error L p s d)
    unfolding says
    says_refused = answered_refused e (lookup_error L p s d) _ h

    pub refused : Outcome.Refused e ≡ told (far_in p) (source s) (says L p s d)
    refused = rw says_refused (refused-told (far_in p) (source s) _ e h)

    pub refused_number : number e ≡ told_number (says L p s d)
    refused_number = rw says_refused h

  module _ (h : lookup_error L p s d ≡ 0) where
    abbrev w : Weights
    w = weights_of p

    weighed : weight_error w ≡ 0
    weighed = (Plans.accepted torus_plans L p (looked_up L p s d h).plan).weights

    abbrev m : Shape
    m = shape_of p

    abbrev S : ℕ
    S = source s

    source_node : is_node m S ≡ true
    unfolding routes_good
    source_node = (and_true (is_node m S) _ (looked_up L p s d h).routes).0

    dest_node : is_node m d ≡ true
    unfolding lookup_error
    dest_node = not-false _ (declined_zero (not (is_node m d)) _ (then_zero (sheet_error L p s) _ h).1)

    found_good : (f : Option Entry) → f ≡ found_in s d → FoundGood m S f
    unfolding found_in find_entry routes_good entries_of
    found_good f e = rw e (go (ltb i (entry_count s)) refl)
      where
        i : ℕ
        i = find (entries_of s) d

        go : (b : Bool) → ltb i (entry_count s) ≡ b → FoundGood m S (option_map (entry_at s) (cond b (Some i) None))
        go true t = each_good m S (entry_at s) (entry_count s) 0 0 (and_true (is_node m S) _ (looked_up L p s d h).routes).1 i (omega arith) (omega (arith, ltb-true i (entry_count s) t))
        go false t = tt

    said : (f : Option Entry) → f ≡ found_in s d → or_direct d f ≡ says L p s d
    unfolding says answered
    said f e = rw (h, e, found_as s d)

    module _ (e : Entry) (q : Some e ≡ found_in s d) where
      pub said_found : told_as (length_by w m S e) (said_by e) ≡ told (distance w m) S (says L p s d)
      unfolding or_direct
      said_found = told_good w weighed m S source_node e (found_good (Some e) q) ∙ ap (told (distance w m) S) (said (Some e) q)

      pub found_number : (len : ℕ) → outcome_number (told_as len (said_by e)) ≡ told_number (says L p s d)
      unfolding or_direct
      found_number len = number_said len e (kind_most m S e (found_good (Some e) q)) ∙ ap told_number (said (Some e) q)

    module _ (q : None ≡ found_in s d) where
      pub said_direct : Outcome.Given (Route.Direct Adaptive) (distance_answer w m S d) ≡ told (distance w m) S (says L p s d)
      unfolding or_direct
      said_direct = told_direct w weighed m S source_node d dest_node ∙ ap (told (distance w m) S) (said None q)

      pub direct_number : 0 ≡ told_number (says L p s d)
      unfolding or_direct
      direct_number = ap told_number (said None q)
