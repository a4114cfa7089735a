use Prim.Native.Nat.{ℕ, suc, ◌+◌, ◌<◌}
use mathlib.Core.Path.{◌≡◌, refl, ◌∙◌}
use mathlib.Core.List.{List, ◌++◌}
use lib.ListN.{length, length-set, set, get_or, take, drop}
use lib.Seq.{paste-suc, take-length}
use native.Mathlib.Numerals.{add-one}
use native.Mathlib.Omega.{arith}
use Rattle.sheet.proofs.output.copy.Goals as goal

one_more : (o s : List ℕ) (i : ℕ) → i < length s → i < length o → set (take i s ++ drop i o) i (get_or s i 0) ≡ take (suc i) s ++ drop (suc i) o
one_more o s i ls lo =
    let here : 0 + i ≡ i = omega arith in
    let next : 0 + suc i ≡ suc i = omega arith in
    let more : set (take i s ++ drop (0 + i) o) (0 + i) (get_or s i 0) ≡ take (suc i) s ++ drop (0 + suc i) o = paste-suc o 0 s i 0 (omega arith) (omega arith) in
    rw (next, here) at more

pub loop-i-init : goal.loop-i-init
loop-i-init c = (refl, refl)

pub loop-i-preserved : goal.loop-i-preserved
loop-i-preserved c =
    let l = c.loop-i in
    (rw (l.invariant.0, add-one) (one_more c.args.out.now c.args.s.now l.i (omega arith) (omega arith)), simp length-set l.invariant.1)

pub returns : goal.returns
returns c =
    let all : c.loop-i.i ≡ length c.args.s.now = omega arith in
    c.loop-i.invariant.0 ∙ rw (all, take-length c.args.s.now)
