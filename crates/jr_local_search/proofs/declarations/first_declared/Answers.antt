use Rattle.std.proofs.Common.{◌∙◌, ◌+◌}
use Rattle.jr_ast.specs.View.{stmts_of}
use Rattle.jr_table.specs.Context.{locals_in_row}
use Rattle.jr_local_search.specs.Declarations.{declarations_in, named}
use Rattle.jr_local_search.specs.Walking.{walk_of}
use Rattle.jr_local_search.proofs.Walks as walks
use Rattle.jr_local_search.proofs.declarations.first_declared.Goals as goal

pub returns : goal.returns
returns c =
    let b = stmts_of c.args.list.now in
    c.met.ensures ∙ walks.what_is_met (named c.args.name.now) (declarations_in c.args.next b) (c.args.next + locals_in_row b) (walk_of c.in_ok-walk.walk) c.in_ok-walk.ensures
