use Rattle.std.proofs.Common.{◌≡◌, ℕ, ◌≤◌, sym, subst}
use Rattle.std.specs.Prelude.{IfSome}
use Rattle.jr_ast.specs.StatementTree as statement
use Rattle.jr_ast.specs.View.{stmt_of, stmts_of}
use Rattle.jr_piece_sites.proofs.Reaching.{how_many}
use Rattle.jr_reading_tests.proofs.parts.holds.Goals as goal

pub returns-in-Some : goal.returns-in-Some
returns-in-Some c t =
    let body = c.in-Some.body.now in
    let h = c.are_in.ensures t in
    let is = subst (λ r. IfSome r (λ b. stmt_of c.args.of.now ≡ statement.block c.args.of.now.mark (stmts_of b.now))) c.in-Some.is c.block_of.ensures in
    (stmts_of body, is, h.0, subst (λ (n : ℕ). c.args.to ≤ n) (sym (how_many body)) h.1)
