use Rattle.std.proofs.Common.{ap}
use Rattle.jr_table.specs.Decls.{method, constructor}
use Rattle.jr_table.specs.KeyView.{member_key_of, ctor_key_of, method_key_of}
use Rattle.jr_table.specs.SameKeys.{same_method, method_decides, same_ctor, ctor_decides}
use Rattle.jr_table.proofs.SameArms.{told, arm, one_method, one_constructor}
use Rattle.jr_table.proofs.decls.MemberKeyPartialEq.eq.Goals as goal

pub returns-in-Method-Method : goal.returns-in-Method-Method
returns-in-Method-Method c =
    let left = method_key_of c.in-Method-Method.left in
    let right = method_key_of c.in-Method-Method.right in
    arm method one_method (member_key_of c.args.self.now) (member_key_of c.args.other.now) left right (ap member_key_of c.in-Method-Method.is-0) (ap member_key_of c.in-Method-Method.is-1)
    (told c.eq-in-Method-Method.result (same_method left right) c.eq-in-Method-Method.ensures (method_decides left right))

pub returns-in-Ctor-Ctor : goal.returns-in-Ctor-Ctor
returns-in-Ctor-Ctor c =
    let left = ctor_key_of c.in-Ctor-Ctor.left in
    let right = ctor_key_of c.in-Ctor-Ctor.right in
    arm constructor one_constructor (member_key_of c.args.self.now) (member_key_of c.args.other.now) left right (ap member_key_of c.in-Ctor-Ctor.is-0) (ap member_key_of c.in-Ctor-Ctor.is-1)
    (told c.eq-in-Ctor-Ctor.result (same_ctor left right) c.eq-in-Ctor-Ctor.ensures (ctor_decides left right))
