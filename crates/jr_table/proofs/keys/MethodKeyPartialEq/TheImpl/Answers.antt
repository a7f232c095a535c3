use Rattle.std.proofs.lemmas.Bool.Decides.{same_from_decides}
use Rattle.jr_table.specs.KeyView.{method_key_of}
use Rattle.jr_table.specs.SameKeys.{same_method, method_decides}
use Rattle.jr_table.proofs.keys.MethodKeyPartialEq.TheImpl.Goals as goal

pub eq-tells : goal.eq-tells
eq-tells c =
    let left = method_key_of c.args.self.now in
    let right = method_key_of c.args.other.now in
    same_from_decides c.result (same_method left right) c.ensures (method_decides left right)
