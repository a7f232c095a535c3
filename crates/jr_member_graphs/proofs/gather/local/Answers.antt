use Rattle.jr_ast.specs.View.{expr_of}
use Rattle.jr_expr_sites.specs.KnownFacts.{meaning_at}
use Rattle.jr_expr_sites.specs.StepView.{given}
use Rattle.jr_member_graphs.specs.Notes.{exp_locals}
use Rattle.jr_member_graphs.proofs.Gathered as gathered
use Rattle.jr_member_graphs.proofs.gather.local.Goals as goal

pub gather_expr-requires : goal.gather_expr-requires
gather_expr-requires g c = record { fits = c.requires.fits }

pub returns : goal.returns
returns g c =
    let G = given g.F.Facts.decls g.F.Facts.types c.args.here.now in
    gathered.begun_more G.member c.args.steps.now.items c.gather_expr.new.steps.items c.args.begins.now.items c.push.new.self.items (record { base = c.args.at; of = c.args.init })
    (exp_locals g.A.Mark.span_from (meaning_at G) c.args.at (expr_of c.args.init.now)) c.in_ok-gather_expr.ensures c.in_ok-push.ensures.items
