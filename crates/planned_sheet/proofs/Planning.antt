-- What is planned from a sound source: the answers for its destinations, their entries, and what their sheet says.
use Prim.Native.Nat.{ℕ, zero, suc, ◌+◌, ◌≤◌, ◌<◌}
use native.Mathlib.Omega.{arith}
use mathlib.Core.Path.{◌≡◌, refl, sym, ap, ◌∙◌}
use mathlib.Core.Bool.{Bool, true, false, not, true≢false, false≢true}
use mathlib.Core.List.{List, [], ◌∷◌}
use mathlib.Core.Option.{Option, none, some}
use lib.ListN.{length, take}
use borrow.Author.Tests.{eq-eqb, ne_eqb}
use Rattle.std.specs.Prelude.{Ok}
use Rattle.numbers.specs.Numbers.{node_outside, dead_end, no_clear_choice}
use Rattle.theory.specs.Checks.{declined, ◌then◌}
use Rattle.theory.proofs.Cases.{test, by_order}
use Rattle.sheet.specs.Output.{room_error, out_after}
use Rattle.machine.specs.declared.leg.Mode.{Mode}
use Rattle.machine.specs.declared.leg.Mode.TheVariants.{Adaptive, Deterministic}
use Rattle.machine.specs.Number.{node_count}
use Rattle.machine.specs.Node.{is_node}
use Rattle.machine.specs.Torus.{leg}
use Rattle.machine.proofs.Nodes.{node_of}
use Rattle.plan.specs.Layout.{shape_of, faults_of}
use Rattle.plan.specs.Checks.{Limits, plan_error}
use Rattle.dead.specs.Dead.{dead_node}
use Rattle.dead.proofs.Table.{is_node_law}
use Rattle.choice.specs.Choice.{Choice, AdmitsIn}
use Rattle.choice.specs.Answer.{Answer, Given, Refused, answered}
use Rattle.choice.specs.Pair.{sound_in, far_in, route_in, pair_error, chosen, pair}
use Rattle.choice.proofs.AtTorus.{far_lengths, empty_adaptive, direct_first}
use Rattle.choice.proofs.Demand.{pair_chosen, found_planned, demand}
use Rattle.routes.specs.declared.layout.Entry.{Entry}
use Rattle.routes.specs.Layout.{most_entries}
use Rattle.routes.specs.Said.{said_by, entry_for}
use Rattle.routes.specs.Checks.{entry_good, entries_good, routes_good, sheet_error}
use Rattle.routes.specs.Says.{says_of, says}
use Rattle.routes.proofs.Rising.{routed}
use Rattle.routes.proofs.Entries.{passed}
use Rattle.routes.proofs.Saying.{admitted_legs, says_choice, says_dead, says_none, choice_good, dead_good, none_good}
use Rattle.route_value.specs.Reading.{reading}
use Rattle.route_value.specs.Value.{routes_with}
use Rattle.route_value.proofs.Written.{written_accepted, written_says}
use Rattle.route_value.proofs.RoundTrips.{good_written_read}
use Rattle.planned_sheet.specs.Sheet.{source_error, lists, entries_from, planned_sheet}
use Rattle.planned_sheet.specs.Demand.{SheetDemand}

-- A sound source of an accepted plan.
pub record Source (L : Limits) (p : List ℕ) (S : ℕ) : Type 0 where
  pub plan : plan_error L p ≡ 0
  pub node : is_node (shape_of p) S ≡ true
  pub alive : dead_node (faults_of p) S ≡ false

accepts : (e : ℕ) (a b : Bool) → (e then declined (not a) node_outside then declined b dead_end then 0) ≡ 0 → (e ≡ 0) × (a ≡ true) × (b ≡ false)
accepts zero true false h = (refl, refl, refl)
accepts zero true true h = absurd (omega arith)
accepts zero false b h = absurd (omega arith)
accepts (suc e) a b h = absurd (omega arith)

pub source_of : (L : Limits) (p : List ℕ) (S : ℕ) → source_error L p S ≡ 0 → Source L p S
unfolding source_error
source_of L p S h =
    let k = accepts (plan_error L p) (is_node (shape_of p) S) (dead_node (faults_of p) S) h in
    record { plan = k.0; node = k.1; alive = k.2 }

pub no_error : (L : Limits) (p : List ℕ) (S : ℕ) → Source L p S → source_error L p S ≡ 0
unfolding source_error
no_error L p S s = rw (s.plan, s.node, s.alive)

lists_not : (D : ℕ) (c : Choice) → lists (Given c) ≡ true → c ≡ leg D Adaptive ∷ [] → ⊥
unfolding lists
lists_not D c h e = false≢true (rw e at h)

unlisted_direct : (D : ℕ) (m : Mode) → lists (Given (leg D m ∷ [])) ≡ false → Given (leg D m ∷ []) ≡ Given (leg D Adaptive ∷ [])
unfolding lists
unlisted_direct D Adaptive h = refl
unlisted_direct D Deterministic h = absurd (true≢false h)

lists_refused : (D e : ℕ) → lists (Refused e) ≡ false → Refused e ≡ Given (leg D Adaptive ∷ [])
unfolding lists
lists_refused D e h = absurd (true≢false h)

lists_vias : (D v u : ℕ) (m n o : Mode) → lists (Given (leg v m ∷ leg u n ∷ leg D o ∷ [])) ≡ false → Given (leg v m ∷ leg u n ∷ leg D o ∷ []) ≡ Given (leg D Adaptive ∷ [])
unfolding lists
lists_vias D v u m n o h = absurd (true≢false h)

lists_via : (D v : ℕ) (m n : Mode) → lists (Given (leg v m ∷ leg D n ∷ [])) ≡ false → Given (leg v m ∷ leg D n ∷ []) ≡ Given (leg D Adaptive ∷ [])
unfolding lists
lists_via D v m n h = absurd (true≢false h)

entry_dest : (d : ℕ) (x : Answer) → (entry_for d x).dest ≡ d
unfolding entry_for
entry_dest d (Given c) = refl
entry_dest d (Refused e) = refl

module _ (L : Limits) (p : List ℕ) (S : ℕ) (s : Source L p S) where
  module _ (D : ℕ) (node : is_node (shape_of p) D ≡ true) where
    pub pair_dead : dead_node (faults_of p) D ≡ true → pair L p S D ≡ Refused dead_end
    unfolding pair pair_error answered
    pair_dead d = rw (s.plan, s.node, node, s.alive, d)

    pub pair_alive : dead_node (faults_of p) D ≡ false → pair L p S D ≡ chosen (route_in p S D)
    pair_alive d = pair_chosen L p S D s.plan s.node node s.alive d

    -- A destination's answer is 10, 11 or an admitted choice.
    pub answer_is : (Q : Answer → Type 0) → Q (Refused dead_end) → Q (Refused no_clear_choice) → ((c : Choice) → AdmitsIn (shape_of p) S D c → Q (Given c)) → Q (pair L p S D)
    answer_is Q dead none_clear route =
        test (dead_node (faults_of p) D)
        (λ d. rw (pair_dead d) dead)
        (λ d. by_chosen (route_in p S D) (pair_alive d) (λ c g. ((demand L p S D s.plan s.node node s.alive d).planned.routed c g).admitted))
      where
        by_chosen : (o : Option Choice) → pair L p S D ≡ chosen o → ((c : Choice) → pair L p S D ≡ Given c → AdmitsIn (shape_of p) S D c) → Q (pair L p S D)
        by_chosen none e admitted = rw e none_clear
        by_chosen (some c) e admitted = rw e (route c (admitted c e))

    -- A destination not listed is direct and adaptive.
    pub unlisted : lists (pair L p S D) ≡ false → pair L p S D ≡ Given (leg D Adaptive ∷ [])
    unlisted =
        answer_is (λ x. lists x ≡ false → x ≡ Given (leg D Adaptive ∷ [])) (lists_refused D dead_end) (lists_refused D no_clear_choice)
        (admitted_legs (λ c. lists (Given c) ≡ false → Given c ≡ Given (leg D Adaptive ∷ [])) (shape_of p) S D (unlisted_direct D) (λ v m n _. lists_via D v m n) (λ v u m n o _. lists_vias D v u m n o))

    -- An entry says what it was made for.
    entry_says : said_by (entry_for D (pair L p S D)) ≡ pair L p S D
    entry_says =
        answer_is (λ x. said_by (entry_for D x) ≡ x) (says_dead D) (says_none D) (λ c a. says_choice D (shape_of p) S c a)

    entry_good_law : (D ≡ S → ⊥) → lists (pair L p S D) ≡ true → entry_good (shape_of p) S (entry_for D (pair L p S D)) ≡ true
    entry_good_law ne =
        answer_is (λ x. lists x ≡ true → entry_good (shape_of p) S (entry_for D x) ≡ true)
        (λ _. dead_good (shape_of p) S D node ne)
        (λ _. none_good (shape_of p) S D node ne)
        (λ c a l. choice_good (shape_of p) S D node ne c a (lists_not D c l))

  -- The source is never listed.
  pub self_unlisted : lists (pair L p S S) ≡ false
  unfolding lists
  self_unlisted =
      let k = node_of (shape_of p) S s.node in
      let clear = empty_adaptive (shape_of p) k.sound (sound_in p) S k.below in
      let route : route_in p S S ≡ some (leg S Adaptive ∷ []) = direct_first (far_in p) (shape_of p) (far_lengths L p s.plan) k.sound (sound_in p) S S k.below k.below clear in
      rw (pair_alive S s.node s.alive, route)

  listed_other : (D : ℕ) → lists (pair L p S D) ≡ true → D ≡ S → ⊥
  listed_other D l e = true≢false (sym (rw e at l) ∙ self_unlisted)

  in_plan : (D : ℕ) → D < node_count (shape_of p) → is_node (shape_of p) D ≡ true
  in_plan D l = is_node_law (shape_of p) D (record { sound = (node_of (shape_of p) S s.node).sound; below = l })

  -- ---- the entries, from a destination on
  entries_good_law : (n D least : ℕ) → least ≤ D → D + n ≤ node_count (shape_of p) → entries_good (shape_of p) S least (entries_from L p S D n) ≡ true
  unfolding entries_from entries_good
  entries_good_law zero D least h k = refl
  entries_good_law (suc n) D least h k =
      let x = pair L p S D in
      let at = entry_dest D x in
      test (lists x)
      (λ l. rw l
      (passed (shape_of p) S least (entry_for D x) (entries_from L p S (suc D) n) (omega arith) (entry_good_law D (in_plan D (omega arith)) (listed_other D l) l)
      ∙ rw at (entries_good_law n (suc D) (D + 1) (omega arith) (omega arith))))
      (λ l. rw l (entries_good_law n (suc D) least (omega arith) (omega arith)))

  says_before : (n D d : ℕ) → d < D → says_of (entries_from L p S D n) d ≡ Given (leg d Adaptive ∷ [])
  unfolding entries_from says_of
  says_before zero D d h = refl
  says_before (suc n) D d h =
      let x = pair L p S D in
      test (lists x)
      (λ l. rw (l, ne_eqb (entry_for D x).dest d (λ e. omega (arith, entry_dest D x))) (says_before n (suc D) d (omega arith)))
      (λ l. rw l (says_before n (suc D) d (omega arith)))

  says_from : (n D d : ℕ) → D ≤ d → d < D + n → D + n ≤ node_count (shape_of p) → says_of (entries_from L p S D n) d ≡ pair L p S d
  unfolding entries_from says_of
  says_from zero D d h k m = absurd (omega arith)
  says_from (suc n) D d h k m =
      let x = pair L p S D in
      test (lists x)
      (λ l. by_order D d
      (λ g. rw (l, ne_eqb (entry_for D x).dest d (λ e. omega (arith, entry_dest D x))) (says_from n (suc D) d (omega arith) (omega arith) (omega arith)))
      (λ g. rw (l, eq-eqb (entry_for D x).dest d (entry_dest D x ∙ g)) (entry_says D (in_plan D (omega arith)) ∙ ap (λ m. pair L p S m) g))
      (λ g. absurd (omega arith)))
      (λ l. by_order D d
      (λ g. rw l (says_from n (suc D) d (omega arith) (omega arith) (omega arith)))
      (λ g. rw l (says_before n (suc D) d (omega arith) ∙ ap (λ m. Given (leg m Adaptive ∷ [])) (sym g) ∙ sym (unlisted D (in_plan D (omega arith)) l) ∙ ap (λ m. pair L p S m) g))
      (λ g. absurd (omega arith)))

  -- ---- the whole sheet
  abbrev all : List Entry
  all = entries_from L p S 0 (node_count (shape_of p))

  routes_good_law : routes_good (shape_of p) S all ≡ true
  unfolding routes_good
  routes_good_law = rw s.node (entries_good_law (node_count (shape_of p)) 0 0 (omega arith) (omega arith))

  pub sheet_few : length all ≤ most_entries
  sheet_few = (routed (shape_of p) S all routes_good_law).few

  pub sheet_accepted : sheet_error L p (planned_sheet L p S) ≡ 0
  unfolding planned_sheet
  sheet_accepted = written_accepted L p S all s.plan routes_good_law

  -- A sheet written is read back as the same routes.
  pub sheet_says : (D : ℕ) → is_node (shape_of p) D ≡ true → says L p (planned_sheet L p S) D ≡ pair L p S D
  unfolding planned_sheet
  sheet_says D n = written_says L p S all s.plan routes_good_law D n ∙ says_from (node_count (shape_of p)) 0 D (omega arith) (omega (arith, (node_of (shape_of p) D n).below)) (omega arith)

  -- And by the definition of reading, from the bytes that writing it leaves in the output.
  pub sheet_read :
      (o : List ℕ) → length (planned_sheet L p S) ≤ length o →
      let w = take (length (planned_sheet L p S)) (out_after (room_error (source_error L p S) (planned_sheet L p S) o) (planned_sheet L p S) o) in
      reading (sheet_error L p w) w ≡ Ok (routes_with S (entries_from L p S 0 (node_count (shape_of p))))
  unfolding planned_sheet
  sheet_read o l = good_written_read L p S all s.plan routes_good_law (source_error L p S) o (no_error L p S s) l

  pub sheet_demand : (D : ℕ) → is_node (shape_of p) D ≡ true → dead_node (faults_of p) D ≡ false → SheetDemand L p S D
  sheet_demand D n d = found_planned L p S D s.plan s.node n s.alive d (says L p (planned_sheet L p S) D) (sheet_says D n ∙ pair_alive D n d)
