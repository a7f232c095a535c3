use Rattle.std.proofs.Common.{◌≡◌, ◌+◌, None, subst}
use Rattle.jr_ast.specs.View.{stmt_of}
use Rattle.jr_table.specs.Context.{locals_in}
use Rattle.jr_local_search.specs.declared.declarations.Walk as raw
use Rattle.jr_local_search.specs.Declarations.{declarations, nobody}
use Rattle.jr_local_search.specs.Walking.{Walks, walk_of, declaration_of}
use Rattle.jr_local_search.proofs.Walks as walks
use Rattle.jr_local_search.proofs.declarations.behind_stmt.Goals as goal

pub returns-in-Met : goal.returns-in-Met
returns-in-Met c =
    let s = stmt_of c.args.of.now in
    walks.nobody_met (declarations None c.args.next s) (c.args.next + locals_in s) (declaration_of c.in-Met.declaration)
    (subst (λ (r : raw.Walk). Walks nobody (declarations None c.args.next s) (c.args.next + locals_in s) (walk_of r)) c.in-Met.is c.in_ok-walk.ensures)

pub returns-in-Behind : goal.returns-in-Behind
returns-in-Behind c =
    let s = stmt_of c.args.of.now in
    (subst (λ (r : raw.Walk). Walks nobody (declarations None c.args.next s) (c.args.next + locals_in s) (walk_of r)) c.in-Behind.is c.in_ok-walk.ensures).1

pub returns-in-Last : goal.returns-in-Last
returns-in-Last c =
    let s = stmt_of c.args.of.now in
    absurd (subst (λ (r : raw.Walk). Walks nobody (declarations None c.args.next s) (c.args.next + locals_in s) (walk_of r)) c.in-Last.is c.in_ok-walk.ensures)
