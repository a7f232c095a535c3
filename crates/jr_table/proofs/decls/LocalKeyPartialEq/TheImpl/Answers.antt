use Rattle.std.proofs.lemmas.Bool.Decides.{same_from_decides}
use Rattle.jr_table.specs.KeyView.{local_key_of}
use Rattle.jr_table.specs.SameDecls.{same_local, local_decides}
use Rattle.jr_table.proofs.decls.LocalKeyPartialEq.TheImpl.Goals as goal

pub eq-tells : goal.eq-tells
eq-tells c =
    let left = local_key_of c.args.self.now in
    let right = local_key_of c.args.other.now in
    same_from_decides c.result (same_local left right) c.ensures (local_decides left right)
