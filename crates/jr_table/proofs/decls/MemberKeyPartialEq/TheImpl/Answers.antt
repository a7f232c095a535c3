use Rattle.std.proofs.lemmas.Bool.Decides.{same_from_decides}
use Rattle.jr_table.specs.KeyView.{member_key_of}
use Rattle.jr_table.specs.SameDecls.{same_member, member_decides}
use Rattle.jr_table.proofs.decls.MemberKeyPartialEq.TheImpl.Goals as goal

pub eq-tells : goal.eq-tells
eq-tells c =
    let left = member_key_of c.args.self.now in
    let right = member_key_of c.args.other.now in
    same_from_decides c.result (same_member left right) c.ensures (member_decides left right)
