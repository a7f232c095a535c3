use Rattle.std.proofs.Common.{◌≡◌, ◌∙◌, ◌+◌, ◌==◌, ℕ, ap, sym, if◌then◌else◌}
use Rattle.jr_ast.specs.View.{stmt_of, else_of}
use Rattle.jr_table.specs.Context.{locals_in}
use Rattle.jr_local_search.specs.Descending.{at_of, in_stmt, ended, else_step as behind_else}
use Rattle.jr_local_search.proofs.Descents.{apart, if_false}
use Rattle.jr_local_search.proofs.scopes.branch_step.Goals as goal

pub returns : goal.returns
returns c = λ name m e.
    let at = at_of c.args.at in
    let n = c.args.next in
    let k = c.args.wanted in
    let yes = stmt_of c.args.yes.now in
    let o = else_of c.args.no.now in
    c.else_step.ensures name ∙ ap (λ (j : ℕ). behind_else name at j o) c.in_ok-behind.ensures
    ∙ sym (if_false (k == 0) (ended at) (if k == 1 then in_stmt at n yes else behind_else name at (n + locals_in yes) o) (apart k 0 c.if-wanted-eq0.false)
    ∙ if_false (k == 1) (in_stmt at n yes) (behind_else name at (n + locals_in yes) o) (apart k 1 c.if-wanted-eq1.false))
