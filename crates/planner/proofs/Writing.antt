-- Writing the sheet of a source: its entries, one by one.
use Prim.Native.Nat.{ℕ, ◌+◌, ◌-◌, ◌≤◌, ◌<◌}
use native.Mathlib.Omega.{arith}
use mathlib.Core.Path.{◌≡◌, refl, sym, ap, ◌∙◌}
use mathlib.Core.Bool.{false}
use mathlib.Core.List.{List, [], ◌∷◌, ◌++◌}
use lib.ListN.{length, get_or, length-append}
use Rattle.std.specs.Prelude.{Result, Err}
use Rattle.numbers.specs.declared.Refusal.{Refusal}
use Rattle.numbers.specs.Refusals.{number}
use Rattle.sheet.specs.Output.{room_error}
use Rattle.sheet.proofs.Outputs.{Put, not_0, refused, unread}
use Rattle.shape.specs.declared.shape.Shape.{Shape}
use Rattle.shape.specs.declared.shape.Coords.{Coords}
use Rattle.shape.specs.declared.shape.Dim.TheVariants.{X}
use Rattle.shape.specs.Shape.{shape_error}
use Rattle.shape.proofs.Shapes.{sound}
use Rattle.machine.specs.declared.leg.Mode.TheVariants.{Adaptive, Deterministic}
use Rattle.machine.specs.Number.{node_count, number_of, coords_of}
use Rattle.rows.specs.Rows.{in_set}
use Rattle.machine.specs.Node.{coords_answer}
use Rattle.machine.proofs.Nodes.{node_of}
use Rattle.plan.specs.Layout.{shape_of, faults_of}
use Rattle.plan.specs.Checks.{large, plan_error}
use Rattle.dead.specs.Dead.{dead_node, bit_of, node_answer}
use Rattle.dead.proofs.Table.{is_node_law}
use Rattle.choice.specs.declared.outcome.Outcome.{Outcome}
use Rattle.choice.specs.Outcome.{told}
use Rattle.choice.specs.Pair.{far_in, pair}
use Rattle.routes.specs.declared.layout.Entry.{Entry}
use Rattle.routes.specs.Layout.{most_entries, most_bytes}
use Rattle.routes.specs.Said.{entry_for, heard}
use Rattle.planner.specs.declared.outside.At.{At}
use Rattle.planner.specs.Outside.{place_of, Stands, NextOutside}
use Rattle.route_value.specs.Making.{Holds, Added, PutMade}
use Rattle.route_value.proofs.InPlace.{none_held}
use Rattle.losses.specs.OfPlan.{AreLosses}
use Rattle.masks.specs.Masks.{Masked}
use Rattle.notes.specs.Known.{is_clear, IsAt}
use Rattle.planner.specs.Known.{Work, Prepared, Ready, Listed}
use Rattle.planned_sheet.specs.Sheet.{source_error, entries_from, planned_sheet}
use Rattle.notes.proofs.Knowing.{shape_ok, nodes_few}
use Rattle.planner.proofs.Standing.{starts, stands_end, stands_below, stands_node, stands_at}
use Rattle.planned_sheet.proofs.Planning.{Source, source_of, sheet_few}
use Rattle.planned_sheet.proofs.Listing as Lists
use Rattle.planned_sheet.proofs.Listing.{Listing, begin, entered, passed, ended}

-- ---- all that holds at a turn
pub record Going (p : List ℕ) (s : Shape) (work : List ℕ) (S : ℕ) (fa bytes : List ℕ) (listed : ℕ) (at : At) : Type 0 where
  pub stands : Stands s at
  pub out : at.z < s.z → (at.x < s.x) × (in_set s fa 0 at.node ≡ false)
  pub entries : List Entry
  pub listing : Listing p S entries at.node
  pub held : Work p work → Holds entries bytes
  pub long : length entries ≡ listed

module _ {p : List ℕ} {s : Shape} {words : List ℕ} {count : ℕ} {dead ta td work : List ℕ} {S : ℕ} {a : Coords} {fa fd : List ℕ} (ready : Ready p s words count dead ta td work S a fa fd) where
  abbrev same : s ≡ shape_of p
  same = ready.prepared.of_plan.shape

  abbrev accepted : plan_error large p ≡ 0
  accepted = ready.prepared.of_plan.plan

  pub ok : shape_error s ≡ 0
  ok = rw same (shape_ok p accepted)

  source : Source large p S
  source = record { plan = accepted; node = is_node_law (shape_of p) S (record { sound = shape_ok p accepted; below = ready.source.node }); alive = ready.alive }

  pub node_known : (at : At) → Stands s at → at.x < s.x → at.z < s.z → (t : Coords) → t ≡ place_of at → IsAt p at.node t
  node_known at g hx hz t e = record { node = rw same at (stands_node s ok at g hx hz); at = e ∙ sym (stands_at s ok at g hx hz) ∙ ap (λ m. coords_of m at.node) same }

  module _ (bytes : List ℕ) (listed : ℕ) (from r : At) (stand : Stands s from) (next : NextOutside s fa from r) (entries : List Entry) (before : Listing p S entries from.node) (held : Work p work → Holds entries bytes) (long : length entries ≡ listed) where
    found : Going p s work S fa bytes listed r
    found =
        let few = stands_below s ok r next.stands in
        let up = next.onward in
        let n = node_count_same in
        let e : from.node + (r.node - from.node) ≡ r.node = omega arith in
        record {
          stands = next.stands;
          out = next.found;
          entries = entries;
          listing = rw (← e) (passed p S source entries (r.node - from.node) from.node (omega arith)
              (λ v x y. sym (ready.adaptive v (omega arith)) ∙ rw (← same) (next.skipped v x (omega arith))) before);
          held = held;
          long = long;
        }
      where
        node_count_same : node_count s ≡ node_count (shape_of p)
        node_count_same = ap node_count same

  module _ (bytes : List ℕ) (listed : ℕ) (at : At) (g : Going p s work S fa bytes listed at) where
    pub few : listed ≤ most_entries
    few = omega (arith, Lists.few p S source g.entries at.node g.listing, g.long)

    module _ (l : at.z < s.z) where
      pub is_at : (t : Coords) → t ≡ place_of at → IsAt p at.node t
      is_at t e = node_known (at) g.stands (g.out l).0 l t e

      pub unclear : is_clear p Adaptive S at.node ≡ false
      unclear = sym (ready.adaptive at.node (is_at (place_of at) refl).node) ∙ rw (← same) (g.out l).1

      pub roomy : listed < most_entries
      roomy = omega (arith, (entered p S source g.entries at.node g.listing (is_at (place_of at) refl).node unclear _ _ refl refl).0, g.long)

      pub places : (at.x < 16) × (at.node < 4096)
      places = (omega (arith, (g.out l).0, (sound s ok X).high), omega (arith, (is_at (place_of at) refl).node, nodes_few (shape_of p) (shape_ok p accepted)))

      pub after : Stands s (record { node = at.node + 1; x = at.x + 1; y = at.y; z = at.z })
      unfolding number_of
      after = record { node = omega (arith, g.stands.node); x = omega (arith, (g.out l).0); y = g.stands.y; z = g.stands.z; end = λ e. absurd (omega arith) }

      pub turn :
          (o : Outcome) (e : Entry) (after-bytes : List ℕ) (r : At) → (Work p work → o ≡ told (far_in p) S (pair large p S at.node)) → e ≡ entry_for at.node (heard at.node o) →
          Added bytes listed e after-bytes → NextOutside s fa (record { node = at.node + 1; x = at.x + 1; y = at.y; z = at.z }) r →
          Going p s work S fa after-bytes (listed + 1) r
      turn o e after-bytes r eo ee put next =
          let f : Outcome → Entry = λ x. entry_for at.node (heard at.node x) in
          let is : Entry = f (told (far_in p) S (pair large p S at.node)) in
          let n = entered p S source g.entries at.node g.listing (is_at (place_of at) refl).node unclear _ is refl refl in
          let long : length (g.entries ++ (is ∷ [])) ≡ listed + 1 = omega (arith, length-append g.entries (is ∷ []), g.long) in
          found after-bytes (listed + 1) _ r after next (g.entries ++ (is ∷ [])) n.1
          (λ w. let same : e ≡ is = ee ∙ ap f (eo w) in rw (← same) (put g.entries (g.held w) g.long roomy)) long

    pub done : s.z ≤ at.z → Listed p work S bytes listed
    done m =
        let e = stands_end s ok at g.stands m in
        let n : node_count s ≡ node_count (shape_of p) = ap node_count same in
        let all = ended p S g.entries at.node g.listing (omega arith) in
        record { held = λ w. rw (← all) (g.held w); many = sym g.long ∙ ap length all }

  pub begun : (bytes : List ℕ) → most_bytes ≤ length bytes → (r : At) → NextOutside s fa (record { node = 0; x = 0; y = 0; z = 0 }) r → Going p s work S fa bytes 0 r
  begun bytes b r next = found bytes 0 _ r (starts s ok) next [] (begin p S) (λ _. none_held bytes b) refl

-- What is made of a plan for its sound source S.
module _ (p : List ℕ) (S : ℕ) (h : source_error large p S ≡ 0) where
  pub planned_prepared :
      (s : Shape) (words : List ℕ) (count : ℕ) (dead ta td : List ℕ) → s ≡ shape_of p → AreLosses p words count → ((n : ℕ) → get_or dead n 0 ≡ bit_of (node_answer large p n)) →
      Masked Adaptive false s ta → Masked Deterministic false s td → Prepared p s words count dead ta td []
  planned_prepared s words count dead ta td es l nodes ma md = record {
    of_plan = record { plan = (source_of large p S h).plan; shape = es; losses = l };
    nodes = nodes;
    adaptive = ma;
    deterministic = md;
    room = λ ne. absurd (ne refl);
  }

  pub planned_at : (s : Shape) (a : Coords) → s ≡ shape_of p → a ≡ coords_answer s S → IsAt p S a
  planned_at s a es c = let k = source_of large p S h in record { node = (node_of (shape_of p) S k.node).below; at = c ∙ rw (es, k.node) }

  pub planned_alive : dead_node (faults_of p) S ≡ false
  planned_alive = (source_of large p S h).alive

-- ---- the sheet in lent bytes
module _ (p : List ℕ) (S : ℕ) (o : List ℕ) where
  pub sheet_refused : (e : Refusal) → number e ≡ source_error large p S → Put (room_error (source_error large p S) (planned_sheet large p S) o) (planned_sheet large p S) o (Err e) o
  sheet_refused e q = refused _ e (planned_sheet large p S) o (q ∙ sym (unread (source_error large p S) (planned_sheet large p S) o (λ z. not_0 e (q ∙ z))))

  pub sheet_put :
      source_error large p S ≡ 0 → (bytes : List ℕ) (count : ℕ) → Holds (entries_from large p S 0 (node_count (shape_of p))) bytes → count ≡ length (entries_from large p S 0 (node_count (shape_of p))) →
      (w : Result ℕ Refusal) (t : List ℕ) → PutMade S count bytes o w t → Put (room_error (source_error large p S) (planned_sheet large p S) o) (planned_sheet large p S) o w t
  unfolding planned_sheet
  sheet_put none bytes count held n w t put =
      let few = sheet_few large p S (source_of large p S none) in
      let made = put.made (entries_from large p S 0 (node_count (shape_of p))) held (sym n) (omega (arith, few)) in
      rw none (record { value = made.0; number = put.number (entries_from large p S 0 (node_count (shape_of p))) held (sym n) (omega (arith, few)); out_after = made.1 })
