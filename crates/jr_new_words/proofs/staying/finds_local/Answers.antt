use Rattle.std.proofs.Common.{Option, ℕ, sym, subst, ◌∙◌}
use Rattle.std.specs.Prelude.{◌≡◌, Some, IfSome}
use Rattle.jr_new_words.specs.Mappings.{number_by}
use Rattle.jr_new_words.specs.Scopes.{mapping_of}
use Rattle.jr_new_words.proofs.staying.finds_local.Goals as goal

pub returns-in-Some : goal.returns-in-Some
returns-in-Some c = λ t.
    let s = c.args.scopes.now in (
      c.in-Some.to,
      subst (λ (o : Option ℕ). IfSome o (λ n. number_by (mapping_of s).locals c.args.number ≡ Some n)) c.in-Some.is c.number_if_kept.ensures,
      sym c.number_named.ensures ∙ c.is_number.ensures.0 t,
    )
