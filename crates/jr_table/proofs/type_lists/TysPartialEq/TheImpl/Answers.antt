use Rattle.std.proofs.lemmas.Bool.Decides.{same_from_decides}
use Rattle.jr_table.specs.SameKeys.{same_types, types_decide}
use Rattle.jr_table.proofs.type_lists.TysPartialEq.TheImpl.Goals as goal

pub eq-tells : goal.eq-tells
eq-tells c = same_from_decides c.result (same_types c.args.self.now c.args.other.now) c.ensures (types_decide c.args.self.now c.args.other.now)
