use Rattle.std.proofs.Common.{ap, ◌∙◌}
use Rattle.jr_ast.specs.View.{stmt_of, stmts_of}
use Rattle.jr_pstmt.specs.StatementMachine.{with_stmt}
use Rattle.jr_pstmt.proofs.ListFrames.{stmts-append}
use Rattle.jr_pstmt.proofs.places.Place.add.Goals as goal

pub returns-clause-all : goal.returns-clause-all
returns-clause-all c =
    let old = c.args.self.now.stmts.items in
    ap stmts_of c.in_ok-push.ensures.items ∙ stmts-append old c.into_inner.result ∙ ap (λ x. with_stmt (stmts_of old) (stmt_of x)) c.into_inner.ensures
