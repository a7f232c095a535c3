use Rattle.std.proofs.Common.{None, Bor, option_map, ap, ◌∙◌, arith}
use Rattle.jr_ast.specs.declared.exprs.Expr.{Expr}
use Rattle.jr_ast.specs.View.{expr_of, exprs_of}
use Rattle.jr_piece_sites.specs.Parts as pure
use Rattle.jr_piece_sites.proofs.Places as place
use Rattle.jr_piece_sites.proofs.parts.nth_behind.Goals as goal

pub returns-in-None : goal.returns-in-None
returns-in-None g c = place.behind_off None (pure.nth (exprs_of c.args.args.now)) c.args.front c.args.number (omega (arith, c.in-None.ensures))

pub returns-in-Some : goal.returns-in-Some
returns-in-Some g c =
    let args = c.args.args.now in
    let n = c.in-Some.number in
    place.after (λ (x : Bor (Expr g.row.A.Denot)). x.now) expr_of c.nth.result ∙ ap (option_map expr_of) c.nth.ensures ∙ place.nth_view args n
    ∙ place.behind_at None (pure.nth (exprs_of args)) c.args.front c.args.number n c.in-Some.ensures.0 c.in-Some.ensures.1
