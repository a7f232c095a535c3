use Rattle.std.proofs.Common.{◌↔◌, IsTrue, sym, subst}
use Rattle.jr_table.specs.KeyView.{decl_of}
use Rattle.jr_lookup.specs.ScopeView.{scope_of}
use Rattle.std.specs.Result.{IfOk}
use Rattle.jr_spell.specs.ReferenceView.{reference_of}
use Rattle.jr_spell.specs.Binds.{BindsAlone}
use Rattle.jr_spell.proofs.binding.alone.Goals as goal

pub returns-in-Method : goal.returns-in-Method
returns-in-Method c =
    let rows = c.args.table.now in
    let s = scope_of c.args.scope.now in
    let r = reference_of c.args.reference.now in
    let d = decl_of c.args.target.now in
    subst (λ t. IfOk c.on_super.result (λ b. IsTrue b ↔ BindsAlone rows s r d (decl_of t))) (sym c.in-Method.is) c.on_super.ensures

pub returns-in-Ctor : goal.returns-in-Ctor
returns-in-Ctor c =
    let rows = c.args.table.now in
    let s = scope_of c.args.scope.now in
    let r = reference_of c.args.reference.now in
    let d = decl_of c.args.target.now in
    subst (λ t. IfOk c.as_constructor.result (λ b. IsTrue b ↔ BindsAlone rows s r d (decl_of t))) (sym c.in-Ctor.is) c.as_constructor.ensures
