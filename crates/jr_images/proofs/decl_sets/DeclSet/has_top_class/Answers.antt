use Rattle.std.proofs.Common.{refl, sym, subst, ◌∙◌}
use Rattle.std.specs.Prelude.{IfSome}
use Rattle.jr_table.specs.Prelude.{top_key}
use Rattle.jr_table.specs.Decls.{class_decl}
use Rattle.jr_table.specs.SameDecls.{same_decl}
use Rattle.jr_images.specs.DeclSets.{AreMethods}
use Rattle.jr_images.proofs.MethodWalks.{in_all, none_such}
use Rattle.jr_images.proofs.decl_sets.DeclSet.has_top_class.Goals as goal

pub returns-in-None : goal.returns-in-None
returns-in-None c = c.any_top_class.ensures ∙ in_all (same_decl (class_decl (top_key c.args.name.now))) c.self.inside.decls.items _ _ c.as_slice.ensures.value c.self.view_is

pub returns-in-Some : goal.returns-in-Some
returns-in-Some c =
    let ds = c.self.inside.decls.items in
    let are = subst (λ o. IfSome o (AreMethods ds)) c.in-Some.is c.self.invariant in
    sym (sym (in_all (same_decl (class_decl (top_key c.args.name.now))) ds ds _ refl c.self.view_is) ∙ none_such ds (class_decl (top_key c.args.name.now)) refl are.none)
