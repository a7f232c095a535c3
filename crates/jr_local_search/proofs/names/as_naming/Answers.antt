use Rattle.std.proofs.Common.{◌≡◌, ◌∙◌, ap, sym, Some, None, Bool, option_map, if◌then◌else◌}
use Rattle.jr_ast.specs.View.{expr_of}
use Rattle.jr_piece_search.specs.StatementView.{found_of}
use Rattle.jr_local_search.specs.NamingView.{naming_there, named_in}
use Rattle.jr_local_search.proofs.Descents.{if_true, if_false}
use Rattle.jr_local_search.proofs.names.as_naming.Goals as goal

pub returns-then-is_name : goal.returns-then-is_name
returns-then-is_name c =
    let x = found_of c.in-Some.found in
    sym (ap (λ o. named_in c.args.span (option_map found_of o)) c.in-Some.is ∙ if_true _ (Some (naming_there c.args.span x)) None (sym c.is_name.ensures ∙ c.if-is_name.true))

pub returns-else-is_name : goal.returns-else-is_name
returns-else-is_name c =
    let x = found_of c.in-Some.found in
    sym (ap (λ o. named_in c.args.span (option_map found_of o)) c.in-Some.is ∙ if_false _ (Some (naming_there c.args.span x)) None (sym c.is_name.ensures ∙ c.if-is_name.false))
