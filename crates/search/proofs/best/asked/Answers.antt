use Rattle.shape.specs.declared.shape.Dim.TheVariants.{X, Y, Z}
use Rattle.shape.proofs.Shapes.{sound}
use Rattle.search.proofs.AllVias.{asks, levels_small, parts_asked, all_vias}
use Rattle.search.proofs.PlaneLaws.{ready}
use Rattle.weights.proofs.Good.{good}
use Rattle.search.proofs.best.asked.Goals as goal

pub levels-xs-requires : goal.levels-xs-requires
levels-xs-requires c = let a = asks _ _ _ _ _ _ c.requires in rw c.axis.ensures ((sound _ a.sound X).high, a.source.x, a.target.x)

pub invariant_of-sets : goal.invariant_of-sets
invariant_of-sets c = let a = asks _ _ _ _ _ _ c.requires in let g = good _ a.weights X in record { ready = ready _ _ _ _ _ _ a.sound (g.low, g.high) (rw (c.unwrap_or.ensures) c.level.ensures.first) (levels_small _ _ _ _ _ (sound _ a.sound X).high (rw c.axis.ensures at c.levels-xs.ensures)) a.run }

pub through-requires : goal.through-requires
through-requires c = let a = asks _ _ _ _ _ _ c.requires in (a.source, a.target)

pub returns : goal.returns
returns c =
    let a = asks _ _ _ _ _ _ c.requires in
    let ys = parts_asked _ c.args.ends.shape Y _ _ _ _ c.axis-2.ensures c.parts_along-ys.ensures (good _ a.weights Y).high (sound _ a.sound Y).high a.source.y a.target.y in
    let zs = parts_asked _ c.args.ends.shape Z _ _ _ _ c.axis-3.ensures c.parts_along-zs.ensures (good _ a.weights Z).high (sound _ a.sound Z).high a.source.z a.target.z in
    all_vias _ _ _ _ _ _ _ _ c.requires _ _ _ (rw c.axis.ensures at c.levels-xs.ensures) ys zs _ c.through.ensures
