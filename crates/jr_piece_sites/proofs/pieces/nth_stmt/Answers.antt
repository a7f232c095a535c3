use Rattle.std.proofs.Common.{Bor, option_map, ap, sym, ◌∙◌}
use Rattle.jr_ast.specs.declared.stmts.Stmt.{Stmt}
use Rattle.jr_ast.specs.View.{stmt_of}
use Rattle.jr_piece_sites.specs.Pieces as pure
use Rattle.jr_piece_sites.proofs.Places as place
use Rattle.jr_piece_sites.proofs.pieces.nth_stmt.Goals as goal

pub returns-in-None : goal.returns-in-None
returns-in-None g c =
    ap (λ o. option_map (λ (s : Stmt g.row.A.Denot). pure.stmt (stmt_of s)) (option_map (λ (x : Bor (Stmt g.row.A.Denot)). x.now) o)) (sym c.in-None.is)
    ∙ ap (option_map (λ (s : Stmt g.row.A.Denot). pure.stmt (stmt_of s))) c.nth.ensures ∙ place.stmt_view c.args.body.now c.args.number

pub returns-in-Some : goal.returns-in-Some
returns-in-Some g c =
    ap (λ o. option_map (λ (s : Stmt g.row.A.Denot). pure.stmt (stmt_of s)) (option_map (λ (x : Bor (Stmt g.row.A.Denot)). x.now) o)) (sym c.in-Some.is)
    ∙ ap (option_map (λ (s : Stmt g.row.A.Denot). pure.stmt (stmt_of s))) c.nth.ensures ∙ place.stmt_view c.args.body.now c.args.number
