use Rattle.std.proofs.Common.{ℕ, List, ◌++◌, Option, Vec, Global, false, sym, ap, subst, ◌∙◌}
use Rattle.std.proofs.lemmas.List.{append-nil}
use Rattle.std.proofs.lemmas.Result.{IfOk-weaker}
use Rattle.jr_ast.specs.declared.exprs.Expr.{Expr}
use Rattle.jr_ast.specs.View.{exprs_of, args_of}
use Rattle.jr_table.specs.HeadRules.{plain}
use Rattle.jr_table.specs.Notes.{when, breaks}
use Rattle.jr_table.specs.HeadNotes.{lacks_super_ctor}
use Rattle.jr_table.specs.Walks.{args_notes, super_args_notes}
use Rattle.jr_table.specs.declared.rules.Rule.TheVariants as rule
use Rattle.jr_bind_expr.specs.Places.{context_of, member_of}
use Rattle.jr_bind_expr.specs.Logs.{notes_of, Adds}
use Rattle.jr_bind_expr.specs.Fits.{FitsExps}
use Rattle.jr_bind_parts.specs.PartFits.{FitsMaybeArgs}
use Rattle.jr_bind_parts.specs.Supers.{written_notes, super_notes}
use Rattle.jr_bind_expr.proofs.Adding.{adds_exact}
use Rattle.jr_bind_parts.specs.TypedFlow.{args_slots}
use Rattle.jr_bind_expr.specs.TypedSlots.{row_slots}
use Rattle.jr_bind_expr.proofs.Oks.{IfOk-any}
use Rattle.jr_bind_parts.proofs.supers.put_super.Goals as goal

pub returns-in-None-clause-notes : goal.returns-in-None-clause-notes
unfolding context_of
returns-in-None-clause-notes g c =
    let B = λ (m : g.row.A.Denot) (b : ℕ). (g.A.Mark.span_from m b).from in
    let rows = c.args.table.now in
    let p = c.args.place.now in
    let k = member_of p in
    let old = notes_of rows k c.args.log.now.items in
    let new = notes_of rows k c.put_implicit.new.log.items in
    let own = when (lacks_super_ctor rows (plain k false)) (breaks c.args.at_name rule.SuperCtor) in
    IfOk-weaker c.put_implicit.result _ _ (λ u h.
    subst (λ (o : Option (Vec (Expr g.row.A.Denot) Global)). Adds old (super_notes rows (context_of p) c.args.super_at c.args.at_name (args_of o) ++ super_args_notes B rows (context_of p) c.args.at (args_of o)) new) (sym c.in-None.is)
    (adds_exact old _ new (h ∙ ap (λ ns. old ++ ns) (sym (append-nil own))))) c.put_implicit.ensures

pub returns-in-Some-clause-notes : goal.returns-in-Some-clause-notes
unfolding context_of
returns-in-Some-clause-notes g c =
    let B = λ (m : g.row.A.Denot) (b : ℕ). (g.A.Mark.span_from m b).from in
    let rows = c.args.table.now in
    let p = c.args.place.now in
    let k = member_of p in
    let old = notes_of rows k c.args.log.now.items in
    let new = notes_of rows k c.put_written.new.log.items in
    IfOk-weaker c.put_written.result _ _ (λ u h.
    subst (λ (o : Option (Vec (Expr g.row.A.Denot) Global)). Adds old (super_notes rows (context_of p) c.args.super_at c.args.at_name (args_of o) ++ super_args_notes B rows (context_of p) c.args.at (args_of o)) new) (sym c.in-Some.is)
    (subst (λ (xs : List (Expr g.row.A.Denot)). Adds old (written_notes rows (context_of p) c.args.super_at (exprs_of xs) ++ args_notes B rows (context_of p) c.args.at (exprs_of xs)) new) c.as_slice.ensures.value h)) c.put_written.ensures.notes

pub put_written-requires-clause-fits : goal.put_written-requires-clause-fits
put_written-requires-clause-fits g c =
    let B = λ (m : g.row.A.Denot) (b : ℕ). (g.A.Mark.span_from m b).from in
    let F = g.A.Mark.fits_at in
    let fits = subst (λ (o : Option (Vec (Expr g.row.A.Denot) Global)). FitsMaybeArgs B F c.args.at (args_of o)) c.in-Some.is c.requires.fits in
    subst (λ (xs : List (Expr g.row.A.Denot)). FitsExps B F c.args.at (exprs_of xs)) (sym c.as_slice.ensures.value) fits

pub returns-in-None-clause-slots : goal.returns-in-None-clause-slots
returns-in-None-clause-slots g c =
    let front = c.args.types.now in
    IfOk-any c.put_implicit.result _ (sym (append-nil front) ∙ sym (ap (λ (o : Option (Vec (Expr g.row.A.Denot) Global)). front ++ args_slots c.args.table.now (context_of c.args.place.now) (args_of o)) c.in-None.is))

pub returns-in-Some-clause-slots : goal.returns-in-Some-clause-slots
returns-in-Some-clause-slots g c =
    let rows = c.args.table.now in
    let ctx = context_of c.args.place.now in
    let front = c.args.types.now in
    IfOk-weaker c.put_written.result _ _ (λ u h. h ∙ ap (λ (xs : List (Expr g.row.A.Denot)). front ++ row_slots rows ctx (exprs_of xs)) c.as_slice.ensures.value
    ∙ sym (ap (λ (o : Option (Vec (Expr g.row.A.Denot) Global)). front ++ args_slots rows ctx (args_of o)) c.in-Some.is)) c.put_written.ensures.slots
