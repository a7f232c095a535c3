use Rattle.std.proofs.Common.{Option, ◌++◌, sym, ap, subst, ◌∙◌}
use Rattle.std.specs.Prelude.{option_map}
use Rattle.std.proofs.lemmas.List.{append-nil}
use Rattle.jr_ast.specs.declared.exprs.Expr.{Expr}
use Rattle.jr_ast.specs.View.{expr_of}
use Rattle.jr_bind_expr.specs.Fits.{FitsMaybe}
use Rattle.jr_expr_sites.specs.KnownFacts.{meaning_at}
use Rattle.jr_expr_sites.specs.Routes.{begins_by}
use Rattle.jr_expr_sites.specs.StepView.{given}
use Rattle.jr_expr_sites.proofs.Walking.{on_ok_then}
use Rattle.jr_member_graphs.specs.Notes.{maybe_locals}
use Rattle.jr_member_graphs.specs.NotesView.{noted}
use Rattle.jr_member_graphs.proofs.gather.returned.Goals as goal

pub returns-in-None : goal.returns-in-None
returns-in-None g c =
    let T = g.A.Mark.span_from in
    let G = given g.F.Facts.decls g.F.Facts.types c.args.here.now in
    let old = noted G.member c.args.steps.now.items in
    sym (ap (λ (v : Option (Expr g.row.A.Denot)). old ++ maybe_locals T (meaning_at G) c.args.at (option_map expr_of v)) c.in-None.is ∙ append-nil old)

pub gather_expr-requires : goal.gather_expr-requires
gather_expr-requires g c =
    record { fits = subst (λ (v : Option (Expr g.row.A.Denot)). FitsMaybe (begins_by g.A.Mark.span_from) g.A.Mark.fits_at c.args.at (option_map expr_of v)) c.in-Some.is c.requires.fits }

pub returns-in-Some : goal.returns-in-Some
returns-in-Some g c =
    let T = g.A.Mark.span_from in
    let G = given g.F.Facts.decls g.F.Facts.types c.args.here.now in
    let old = noted G.member c.args.steps.now.items in
    on_ok_then c.gather_expr.result (λ h. h ∙ sym (ap (λ (v : Option (Expr g.row.A.Denot)). old ++ maybe_locals T (meaning_at G) c.args.at (option_map expr_of v)) c.in-Some.is)) c.gather_expr.ensures
