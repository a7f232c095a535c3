use Rattle.std.proofs.Common.{◌≡◌, ℕ, Option, Some, false, option_map, refl, sym, ap, subst, ◌∙◌, arith}
use Rattle.jr_ast.specs.declared.operators.ModWord.{ModWord}
use Rattle.jr_ast.specs.declared.operators.ModWord.TheVariants as word
use Rattle.jr_table.specs.Resolving.{HasWord}
use Rattle.jr_table.specs.DeclaredItems.{DeclaredField, DeclaredInit, field_item}
use Rattle.jr_table.specs.Faults.{InitIsBad}
use Rattle.jr_build_declared.specs.DeclarationFaults.{IsLeastAt}
use Rattle.jr_build_declared.specs.DeclaredView.{field_declaration_of, init_declaration_of}
use Rattle.jr_build_declared.proofs.Earliest.{inside}
use Rattle.jr_build_declared.proofs.declaration_faults.field_init_at.Goals as goal

bad_there : (f : DeclaredField) (i : DeclaredInit) → f.init ≡ Some i → i.is_simple ≡ false
    → HasWord f.modifiers word.Static → IsLeastAt (InitIsBad (field_item f)) (Some i.at)
bad_there f i is bad static = (
  (static, (i, is, bad, refl)),
  λ b (w, (j, e, s, at)).
      let same = ap (λ (x : DeclaredInit). x.at) (inside i j (sym is ∙ e)) ∙ at in omega (arith, same),
)

pub returns-then-has_word : goal.returns-then-has_word
returns-then-has_word c = bad_there (field_declaration_of c.args.field.now) (init_declaration_of c.in-Some.init)
    (ap (option_map init_declaration_of) c.in-Some.is) c.if-init.false
    (subst (λ ws. HasWord ws word.Static) c.deref.ensures.value (c.has_word.ensures.0 c.if-has_word.true))
