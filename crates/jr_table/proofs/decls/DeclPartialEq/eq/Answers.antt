use Rattle.std.proofs.Common.{ap}
use Rattle.jr_table.specs.Decls.{method_decl, constructor_decl, local_decl}
use Rattle.jr_table.specs.KeyView.{decl_of, ctor_key_of, local_key_of, method_key_of}
use Rattle.jr_table.specs.SameKeys.{same_method, method_decides, same_ctor, ctor_decides}
use Rattle.jr_table.specs.SameDecls.{same_local, local_decides}
use Rattle.jr_table.proofs.SameArms.{told, arm, one_method_decl, one_constructor_decl, one_local_decl}
use Rattle.jr_table.proofs.decls.DeclPartialEq.eq.Goals as goal

pub returns-in-Method-Method : goal.returns-in-Method-Method
returns-in-Method-Method c =
    let left = method_key_of c.in-Method-Method.left in
    let right = method_key_of c.in-Method-Method.right in
    arm method_decl one_method_decl (decl_of c.args.self.now) (decl_of c.args.other.now) left right (ap decl_of c.in-Method-Method.is-0) (ap decl_of c.in-Method-Method.is-1)
    (told c.eq-in-Method-Method.result (same_method left right) c.eq-in-Method-Method.ensures (method_decides left right))

pub returns-in-Ctor-Ctor : goal.returns-in-Ctor-Ctor
returns-in-Ctor-Ctor c =
    let left = ctor_key_of c.in-Ctor-Ctor.left in
    let right = ctor_key_of c.in-Ctor-Ctor.right in
    arm constructor_decl one_constructor_decl (decl_of c.args.self.now) (decl_of c.args.other.now) left right (ap decl_of c.in-Ctor-Ctor.is-0) (ap decl_of c.in-Ctor-Ctor.is-1)
    (told c.eq-in-Ctor-Ctor.result (same_ctor left right) c.eq-in-Ctor-Ctor.ensures (ctor_decides left right))

pub returns-in-Local-Local : goal.returns-in-Local-Local
returns-in-Local-Local c =
    let left = local_key_of c.in-Local-Local.left in
    let right = local_key_of c.in-Local-Local.right in
    arm local_decl one_local_decl (decl_of c.args.self.now) (decl_of c.args.other.now) left right (ap decl_of c.in-Local-Local.is-0) (ap decl_of c.in-Local-Local.is-1)
    (told c.eq-in-Local-Local.result (same_local left right) c.eq-in-Local-Local.ensures (local_decides left right))
