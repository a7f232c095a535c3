use Rattle.std.proofs.Common.{◌≡◌, ◌∙◌, ap, sym, option_map}
use Rattle.jr_ast.specs.View.{stmts_of}
use Rattle.jr_table.specs.Context.{local_key}
use Rattle.jr_local_search.specs.Descending.{at_of}
use Rattle.jr_local_search.specs.Walking.{declaration_of}
use Rattle.jr_local_search.proofs.FirstNamed.{in_scope, declared_there, numbers}
use Rattle.jr_local_search.proofs.taken.first_taken.Goals as goal

pub returns-in-Some : goal.returns-in-Some
returns-in-Some c = λ p at. in_scope c.args.name.now (at_of c.args.at) (stmts_of c.args.held.now) p at c.in-Some.number c.in-Some.is

pub returns-in_ok-declaration-in-None : goal.returns-in_ok-declaration-in-None
returns-in_ok-declaration-in-None c = λ p at.
    declared_there c.args.name.now (at_of c.args.at) (stmts_of c.args.held.now) p at c.declared_names.ensures c.in-None.is (option_map declaration_of c.in_ok-declaration-in-None.declaration) c.in_ok-declaration-in-None.ensures
    ∙ ap (option_map (local_key p.context)) (numbers c.in_ok-declaration-in-None.declaration ∙ sym c.number_of.ensures)
