use Rattle.std.proofs.Common.{◌↔◌, IsTrue, subst}
use Rattle.jr_table.specs.KeyView.{decl_of}
use Rattle.jr_lookup.specs.ScopeView.{scope_of}
use Rattle.std.specs.Result.{IfOk}
use Rattle.jr_spell.specs.ReferenceView.{reference_of}
use Rattle.jr_spell.specs.Binds.{BindsConstructor}
use Rattle.jr_spell.proofs.binding.as_constructor.Goals as goal

pub returns-in-None : goal.returns-in-None
returns-in-None c =
    let rows = c.args.table.now in
    let s = scope_of c.args.scope.now in
    let r = reference_of c.args.reference.now in
    let d = decl_of c.args.target.now in
    subst (λ o. IfOk c.as_super_constructor.result (λ b. IsTrue b ↔ BindsConstructor rows s r d o)) c.in-None.ensures c.as_super_constructor.ensures

pub returns-in-Some : goal.returns-in-Some
returns-in-Some c =
    let rows = c.args.table.now in
    let s = scope_of c.args.scope.now in
    let r = reference_of c.args.reference.now in
    let d = decl_of c.args.target.now in
    subst (λ o. IfOk c.is_ctor.result (λ b. IsTrue b ↔ BindsConstructor rows s r d o)) c.in-Some.ensures c.is_ctor.ensures
