use native.Mathlib.Omega.{arith}
use Rattle.first_clear.proofs.Dests.{first_leg}
use Rattle.first_clear.proofs.Steps.{by_two, directly, by_one_leg, not_straight, given_near, none_near}
use Rattle.first_clear.proofs.Reaches.{note_via}
use Rattle.first_clear.proofs.near.near_outcome.Goals as goal

pub returns-then-two-lt-UNCLEAR : goal.returns-then-two-lt-UNCLEAR
returns-then-two-lt-UNCLEAR c = λ p S D g. given_near p S D _ (by_two p _ S D _ _ _ _ _ g c.if-two-lt-UNCLEAR.true)

pub returns-then-straight : goal.returns-then-straight
returns-then-straight c = λ p S D g. given_near p S D _ (directly p _ S D _ _ _ _ _ g c.if-two-lt-UNCLEAR.false c.if-straight.true)

pub returns-then-note-lt8192 : goal.returns-then-note-lt8192
returns-then-note-lt8192 c = λ p S D g. let low = c.if-note-lt8192.true in let leg = first_leg p _ S _ _ _ _ _ g.apart.plan g.apart.shape g.out (note_via p S D _ g.apart.plan g.own (omega (arith, low))) c.via_in.ensures c.coords.ensures (c.has-first.ensures (omega arith)) in given_near p S D _ (by_one_leg p _ S D _ _ _ _ _ g c.if-two-lt-UNCLEAR.false c.if-straight.false low _ leg _ c.by_one.ensures)

pub returns : goal.returns
returns c = λ p S D g. none_near p S D (not_straight p _ S D _ _ _ _ _ g c.if-straight.false)
