use Rattle.std.proofs.Common.{◌≡◌, ◌+◌, ◌∙◌, subst, arith}
use Rattle.jr_ast.specs.View.{stmts_of}
use Rattle.jr_table.specs.Context.{locals_in_row}
use Rattle.jr_local_search.specs.declared.declarations.Walk as raw
use Rattle.jr_local_search.specs.Declarations.{declarations_in, nobody}
use Rattle.jr_local_search.specs.Walking.{Walks, walk_of, declaration_of}
use Rattle.jr_local_search.proofs.Walks as walks
use Rattle.jr_local_search.proofs.declarations.count_locals.Goals as goal

pub returns-in-Met : goal.returns-in-Met
returns-in-Met c =
    let b = stmts_of c.args.list.now in
    walks.nobody_met (declarations_in 0 b) (0 + locals_in_row b) (declaration_of c.in-Met.declaration)
    (subst (λ (r : raw.Walk). Walks nobody (declarations_in 0 b) (0 + locals_in_row b) (walk_of r)) c.in-Met.is c.in_ok-walk.ensures)

pub returns-in-Behind : goal.returns-in-Behind
returns-in-Behind c =
    let b = stmts_of c.args.list.now in
    let h = (subst (λ (r : raw.Walk). Walks nobody (declarations_in 0 b) (0 + locals_in_row b) (walk_of r)) c.in-Behind.is c.in_ok-walk.ensures).1 in
    omega (arith, h)

pub returns-in-Last : goal.returns-in-Last
returns-in-Last c =
    let b = stmts_of c.args.list.now in
    absurd (subst (λ (r : raw.Walk). Walks nobody (declarations_in 0 b) (0 + locals_in_row b) (walk_of r)) c.in-Last.is c.in_ok-walk.ensures)
