use Rattle.std.proofs.Common.{List, ◌++◌, sym, ap, subst, ◌∙◌}
use Rattle.std.proofs.lemmas.List.{append-nil}
use Rattle.jr_ast.specs.declared.exprs.Expr.{Expr}
use Rattle.jr_ast.specs.View.{exprs_of, args_of}
use Rattle.jr_bind_expr.specs.Fits.{FitsExps}
use Rattle.jr_cfg.specs.MemberRoutes.{FitsArgs}
use Rattle.jr_expr_sites.specs.KnownFacts.{meaning_at}
use Rattle.jr_expr_sites.specs.Routes.{begins_by}
use Rattle.jr_expr_sites.specs.StepView.{given}
use Rattle.jr_expr_sites.proofs.Walking.{on_ok_then}
use Rattle.jr_member_graphs.specs.Notes.{args_locals, exps_locals}
use Rattle.jr_member_graphs.specs.NotesView.{noted}
use Rattle.jr_member_graphs.proofs.Gathered as gathered
use Rattle.jr_member_graphs.proofs.gather.gather_args.Goals as goal

pub returns-in-None : goal.returns-in-None
returns-in-None g c =
    let T = g.A.Mark.span_from in
    let G = given g.F.Facts.decls g.F.Facts.types c.args.here.now in
    let old = noted G.member c.args.steps.now.items in
    sym (ap (λ (v : _). old ++ args_locals T (meaning_at G) c.args.at (args_of v)) c.in-None.is ∙ append-nil old)

pub exprs-requires : goal.exprs-requires
exprs-requires g c =
    let T = g.A.Mark.span_from in
    let F = g.A.Mark.fits_at in
    let whole = subst (λ (v : _). FitsArgs T F c.args.at (args_of v)) c.in-Some.is c.requires.fits in
    record { fits = subst (λ (xs : List (Expr g.row.A.Denot)). FitsExps (begins_by T) F c.args.at (exprs_of xs)) (sym c.deref.ensures.value) whole }

pub returns-in-Some : goal.returns-in-Some
returns-in-Some g c =
    let T = g.A.Mark.span_from in
    let G = given g.F.Facts.decls g.F.Facts.types c.args.here.now in
    let old = noted G.member c.args.steps.now.items in
    on_ok_then c.exprs.result (λ h. gathered.exps_noted G T c.no_path-path.result.steps.items 0 c.args.at (exprs_of c.deref.result.now) c.args.steps.now.items c.exprs.new.out.items h
    ∙ ap (λ (xs : List (Expr g.row.A.Denot)). old ++ exps_locals T (meaning_at G) c.args.at (exprs_of xs)) c.deref.ensures.value
    ∙ sym (ap (λ (v : _). old ++ args_locals T (meaning_at G) c.args.at (args_of v)) c.in-Some.is)) c.exprs.ensures
