use Rattle.std.proofs.Common.{sym, subst, ◌∙◌}
use Rattle.std.specs.Prelude.{IfSome}
use Rattle.jr_table.specs.KeyView.{method_key_of}
use Rattle.jr_table.specs.Decls.{method_decl}
use Rattle.jr_table.specs.SameDecls.{same_decl}
use Rattle.jr_images.specs.MethodIndex.{FindsMethods}
use Rattle.jr_images.specs.DeclSets.{AreMethods}
use Rattle.jr_images.proofs.MethodWalks.{in_all}
use Rattle.jr_images.proofs.decl_sets.DeclSet.has_method.Goals as goal

pub returns-in-None : goal.returns-in-None
returns-in-None c = c.any_method.ensures ∙ in_all (same_decl (method_decl (method_key_of c.args.key.now))) c.self.inside.decls.items _ _ c.as_slice.ensures.value c.self.view_is

pub has-requires : goal.has-requires
has-requires c =
    let are = subst (λ o. IfSome o (AreMethods c.self.inside.decls.items)) c.in-Some.is c.self.invariant in
    subst (λ ds. FindsMethods ds c.in-Some.methods) (sym c.as_slice-in-Some.ensures.value) are.found

pub returns-in-Some : goal.returns-in-Some
returns-in-Some c = c.has.ensures ∙ in_all (same_decl (method_decl (method_key_of c.args.key.now))) c.self.inside.decls.items _ _ c.as_slice-in-Some.ensures.value c.self.view_is
