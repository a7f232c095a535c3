use Rattle.std.proofs.Common.{◌∙◌, ◌==◌, ℕ, ap, sym, if◌then◌else◌}
use Rattle.jr_ast.specs.View.{stmt_of, else_of}
use Rattle.jr_local_search.proofs.Descents.{apart, if_false}
use Rattle.jr_local_parts.specs.Descending.{standing, past, at_part, ended, else_step as behind_else}
use Rattle.jr_local_parts.proofs.elements.branch_step.Goals as goal

pub returns : goal.returns
returns c = λ x.
    let p = standing x c.args.next c.args.at in
    let k = c.args.wanted in
    let yes = stmt_of c.args.yes.now in
    let o = else_of c.args.no.now in
    c.else_step.ensures x ∙ ap (λ (j : ℕ). behind_else (standing x j c.args.at) o) c.in_ok-behind.ensures
    ∙ sym (if_false (k == 0) (ended x) (if k == 1 then at_part p yes else behind_else (past yes p) o) (apart k 0 c.if-wanted-eq0.false)
    ∙ if_false (k == 1) (at_part p yes) (behind_else (past yes p) o) (apart k 1 c.if-wanted-eq1.false))
