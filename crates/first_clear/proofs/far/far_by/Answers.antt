use native.Mathlib.Omega.{arith}
use mathlib.Core.Path.{◌∙◌}
use Rattle.first_clear.proofs.Reaches.{own_note, note_via, via_known, node_here, second_inside, by_second, by_first}
use Rattle.first_clear.proofs.Dests.{member, first_leg}
use Rattle.first_clear.proofs.far.far_by.Goals as goal

pub returns-in-Some : goal.returns-in-Some
returns-in-Some c = λ p S D notes g each. let found = c.in-Some.ensures.node in let here = node_here p _ _ S D _ _ _ _ _ _ _ _ _ _ _ g _ each _ c.bound-limit.ensures _ c.in-Some.ensures.first found in let leg = first_leg p _ S _ _ _ _ _ g.apart.plan g.apart.shape g.out (via_known p _ _ S D _ _ _ _ _ _ _ _ _ _ _ g _ each _ c.bound-limit.ensures _ c.in-Some.ensures.first found) c.via_in.ensures c.coords.ensures (c.has-first.ensures (omega arith)) in let back = member p _ _ _ _ _ _ g.apart.plan g.apart.shape here c.coords-in-Some.ensures (c.has-third.ensures (omega (arith, g.both.room))) ∙ g.both.adaptive _ here (second_inside p _ _ S D _ _ _ _ _ _ _ _ _ _ _ g _ each _ c.bound-limit.ensures _ c.in-Some.ensures.first found) in by_second p _ _ S D _ _ _ _ _ _ _ _ _ _ _ g _ each _ c.bound-limit.ensures _ c.in-Some.ensures.first found _ _ leg back _ c.by_two.ensures

pub returns : goal.returns
returns c = λ p S D notes g each. by_first p _ _ S D _ _ _ _ _ _ _ _ _ _ _ g _ each _ c.bound-limit.ensures _ c.in_default.ensures.first (omega arith) _ (λ low. first_leg p _ S _ _ _ _ _ g.apart.plan g.apart.shape g.out (note_via p S D _ g.apart.plan (own_note p _ _ S D _ _ _ _ _ _ _ _ _ _ _ g) low) c.via_in-2.ensures c.coords-2.ensures (c.has-first-2.ensures (omega arith))) _ c.by_one.ensures
