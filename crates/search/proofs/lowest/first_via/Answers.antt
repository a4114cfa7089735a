use native.Mathlib.Omega.{arith}
use Rattle.search.proofs.Seeking.{space_found, space_none, inside_here, row_steps, number_step}
use Rattle.search.proofs.lowest.first_via.Goals as goal

pub overflow_mul-result-in-Some-in_plane : goal.overflow_mul-result-in-Some-in_plane
overflow_mul-result-in-Some-in_plane c =
    let i = c.loop-z.invariant in
    let s = c.in-Some.ensures.steps.2 in
    let e = c.in-Some-in_plane.is in
    let q = c.in_plane.ensures in
    let h = c.requires in
    let k = inside_here _ _ _ _ _ _ _ h.shape_value h.bx_bound.0 h.bx_bound.1 h.bx_bound.2 _ _ _ (rw (← s.0) at i.2) (omega (arith, s.1, i.1)) (rw e at q.first) (rw e at q.small) c.next_set-x.ensures in
    omega (arith, row_steps _ h.shape_value _ _ k.y k.z)

pub overflow_add-result-in-Some-in_plane : goal.overflow_add-result-in-Some-in_plane
overflow_add-result-in-Some-in_plane c =
    let i = c.loop-z.invariant in
    let s = c.in-Some.ensures.steps.2 in
    let e = c.in-Some-in_plane.is in
    let q = c.in_plane.ensures in
    let h = c.requires in
    omega (arith, number_step _ _ _ _ _ _ _ h.shape_value h.bx_bound.0 h.bx_bound.1 h.bx_bound.2 _ _ _ (rw (← s.0) at i.2) (omega (arith, s.1, i.1)) (rw e at q.first) (rw e at q.small) c.next_set-x.ensures)

pub returns-in-Some-in_plane-clause-node : goal.returns-in-Some-in_plane-clause-node
returns-in-Some-in_plane-clause-node c =
    let i = c.loop-z.invariant in
    let s = c.in-Some.ensures.steps.2 in
    let e = c.in-Some-in_plane.is in
    let q = c.in_plane.ensures in
    let h = c.requires in
    number_step _ _ _ _ _ _ _ h.shape_value h.bx_bound.0 h.bx_bound.1 h.bx_bound.2 _ _ _ (rw (← s.0) at i.2) (omega (arith, s.1, i.1)) (rw e at q.first) (rw e at q.small) c.next_set-x.ensures

pub returns-in-Some-in_plane-clause-first : goal.returns-in-Some-in_plane-clause-first
returns-in-Some-in_plane-clause-first c =
    let i = c.loop-z.invariant in
    let s = c.in-Some.ensures.steps.2 in
    let e = c.in-Some-in_plane.is in
    let q = c.in_plane.ensures in
    let h = c.requires in
    space_found _ _ _ _ _ _ _ h.shape_value h.bx_bound.0 h.bx_bound.1 h.bx_bound.2 _ _ _ (rw (← s.0) at i.2) (omega (arith, s.1, i.1)) (rw e at q.first) (rw e at q.small) c.next_set-x.ensures

pub returns-clause-first : goal.returns-clause-first
returns-clause-first c =
    let i = c.loop-z.invariant in
    let h = c.requires in
    space_none _ _ _ _ _ _ _ h.shape_value h.bx_bound.0 h.bx_bound.1 h.bx_bound.2 _ i.2 (omega (arith, c.in-None.ensures.steps.2, i.1))
