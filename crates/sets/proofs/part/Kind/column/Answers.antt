use Rattle.sets.specs.Part.{dim_number}
use Rattle.sets.proofs.Taking.{dim_low, column_is}
use Rattle.sets.proofs.part.Kind.column.Goals as goal

pub returns-clause-value : goal.returns-clause-value
returns-clause-value c = (column_is c.args.self.number (dim_number c.args.d) _ c.args.self.few (dim_low c.args.d) c.columns.ensures).0

pub returns-clause-upper_bound : goal.returns-clause-upper_bound
returns-clause-upper_bound c = (column_is c.args.self.number (dim_number c.args.d) _ c.args.self.few (dim_low c.args.d) c.columns.ensures).1
