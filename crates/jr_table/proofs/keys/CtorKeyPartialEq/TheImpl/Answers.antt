use Rattle.std.proofs.lemmas.Bool.Decides.{same_from_decides}
use Rattle.jr_table.specs.KeyView.{ctor_key_of}
use Rattle.jr_table.specs.SameKeys.{same_ctor, ctor_decides}
use Rattle.jr_table.proofs.keys.CtorKeyPartialEq.TheImpl.Goals as goal

pub eq-tells : goal.eq-tells
eq-tells c =
    let left = ctor_key_of c.args.self.now in
    let right = ctor_key_of c.args.other.now in
    same_from_decides c.result (same_ctor left right) c.ensures (ctor_decides left right)
