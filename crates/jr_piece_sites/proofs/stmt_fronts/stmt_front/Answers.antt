use Rattle.std.proofs.Common.{◌≡◌, option_map, ap, sym, subst, ◌∙◌}
use Rattle.jr_text.specs.declared.spans.Span.{Span}
use Rattle.jr_ast.specs.View.{expr_of, stmt_of}
use Rattle.jr_ast.proofs.Rows.{stmt_mark_is}
use Rattle.jr_bind_expr.specs.Fits.{FitsStmt}
use Rattle.jr_expr_sites.specs.StepView.{given}
use Rattle.jr_expr_sites.specs.Routes.{begins_by}
use Rattle.jr_ast.specs.StatementTree as statement
use Rattle.jr_piece_sites.specs.Fronts.{branch_front}
use Rattle.jr_piece_sites.proofs.Growths as growth
use Rattle.jr_ast.specs.View.{word_of, type_of, else_of, stmt_kind, stmt_row, held_else}
use Rattle.jr_ast.proofs.Rows.{stmt_kind-If, stmt_kind-Block, stmt_kind-Sync}
use Rattle.jr_piece_sites.proofs.Fitting.{stmt_own}
use Rattle.jr_piece_sites.proofs.StmtArms as arm
use Rattle.jr_piece_sites.proofs.stmt_fronts.stmt_front.Goals as goal

pub span-at-requires : goal.span-at-requires
span-at-requires g c = subst (λ (m : g.row.A.Denot). g.A.Mark.fits_at m c.args.base) (stmt_mark_is c.args.of.now) (stmt_own g.A.Mark.span_from g.A.Mark.fits_at c.args.base (stmt_of c.args.of.now) c.requires.fits)

pub branch_front-requires : goal.branch_front-requires
unfolding stmt_kind stmt_row held_else
branch_front-requires g c =
    let T = g.A.Mark.span_from in
    let F = g.A.Mark.fits_at in
    let base = c.args.base in
    let m = c.args.of.now.mark in
    let at = c.span-at.result.from in
    let start : at ≡ begins_by T m base = ap (λ (z : Span). z.from) c.span-at.ensures in
    let f = arm.branch_fits T base m at start F (expr_of c.in-If.test) c.deref.result.now c.in-If.yes.value (else_of c.in-If.field-2) c.deref.ensures (subst (λ (x : statement.Stmt g.row.A.Denot). FitsStmt (begins_by T) F base x) (ap (stmt_kind m) c.in-If.is ∙ stmt_kind-If _ m c.in-If.test c.in-If.yes c.in-If.field-2) c.requires.fits) in
    record { fits = f.0; fits_yes = f.1 }

pub loop_front-requires : goal.loop_front-requires
unfolding stmt_kind stmt_row held_else
loop_front-requires g c =
    let T = g.A.Mark.span_from in
    let F = g.A.Mark.fits_at in
    let base = c.args.base in
    let m = c.args.of.now.mark in
    let at = c.span-at.result.from in
    let start : at ≡ begins_by T m base = ap (λ (z : Span). z.from) c.span-at.ensures in
    record { fits = arm.loop_fits T base m at start F (expr_of c.in-While.test) (stmt_of c.in-While.field-1.value) (subst (λ (x : statement.Stmt g.row.A.Denot). FitsStmt (begins_by T) F base x) (ap (stmt_kind m) c.in-While.is) c.requires.fits) }

pub put_stmts-requires : goal.put_stmts-requires
unfolding stmt_kind stmt_row held_else
put_stmts-requires g c =
    let T = g.A.Mark.span_from in
    let F = g.A.Mark.fits_at in
    let base = c.args.base in
    let m = c.args.of.now.mark in
    let at = c.span-at.result.from in
    let start : at ≡ begins_by T m base = ap (λ (z : Span). z.from) c.span-at.ensures in
    record { fits = arm.block_fits T base m at start F c.deref-in-Block.result.now c.in-Block.body.items c.deref-in-Block.ensures.value (subst (λ (x : statement.Stmt g.row.A.Denot). FitsStmt (begins_by T) F base x) (ap (stmt_kind m) c.in-Block.is ∙ stmt_kind-Block _ m c.in-Block.body) c.requires.fits) }

pub sync_front-requires : goal.sync_front-requires
unfolding stmt_kind stmt_row held_else
sync_front-requires g c =
    let T = g.A.Mark.span_from in
    let F = g.A.Mark.fits_at in
    let base = c.args.base in
    let m = c.args.of.now.mark in
    let at = c.span-at.result.from in
    let start : at ≡ begins_by T m base = ap (λ (z : Span). z.from) c.span-at.ensures in
    let f = arm.sync_fits T base m at start F (expr_of c.in-Sync.object) c.deref-in-Sync.result.now c.in-Sync.body.items c.deref-in-Sync.ensures.value (subst (λ (x : statement.Stmt g.row.A.Denot). FitsStmt (begins_by T) F base x) (ap (stmt_kind m) c.in-Sync.is ∙ stmt_kind-Sync _ m c.in-Sync.object c.in-Sync.body) c.requires.fits) in
    record { fits = f.0; fits_body = f.1 }

pub returns-in-Local : goal.returns-in-Local
unfolding stmt_kind stmt_row held_else
returns-in-Local g c =
    let T = g.A.Mark.span_from in
    let G = given g.F.Facts.decls g.F.Facts.types c.args.here.now in
    let path = c.args.path.now.steps.items in
    let old = c.args.out.now.items in
    let n = c.args.number in
    let base = c.args.base in
    let i = c.args.part in
    let m = c.args.of.now.mark in
    let at = c.span-at.result.from in
    let start : at ≡ begins_by T m base = ap (λ (z : Span). z.from) c.span-at.ensures in
    subst (λ (x : statement.Stmt g.row.A.Denot). arm.Whole T base m at start G n path i old x n old) (sym (ap (stmt_kind m) c.in-Local.is)) (arm.local_put T base m at start G n path i old c.in-Local.is_final (type_of c.in-Local.ty) (word_of c.in-Local.name) (expr_of c.in-Local.init))

pub returns-in-Eval : goal.returns-in-Eval
unfolding stmt_kind stmt_row held_else
returns-in-Eval g c =
    let T = g.A.Mark.span_from in
    let G = given g.F.Facts.decls g.F.Facts.types c.args.here.now in
    let path = c.args.path.now.steps.items in
    let old = c.args.out.now.items in
    let n = c.args.number in
    let base = c.args.base in
    let i = c.args.part in
    let m = c.args.of.now.mark in
    let at = c.span-at.result.from in
    let start : at ≡ begins_by T m base = ap (λ (z : Span). z.from) c.span-at.ensures in
    subst (λ (x : statement.Stmt g.row.A.Denot). arm.Whole T base m at start G n path i old x n old) (sym (ap (stmt_kind m) c.in-Eval.is)) (arm.eval_put T base m at start G n path i old (expr_of c.in-Eval.field-0))

pub returns-in-Return : goal.returns-in-Return
unfolding stmt_kind stmt_row held_else
returns-in-Return g c =
    let T = g.A.Mark.span_from in
    let G = given g.F.Facts.decls g.F.Facts.types c.args.here.now in
    let path = c.args.path.now.steps.items in
    let old = c.args.out.now.items in
    let n = c.args.number in
    let base = c.args.base in
    let i = c.args.part in
    let m = c.args.of.now.mark in
    let at = c.span-at.result.from in
    let start : at ≡ begins_by T m base = ap (λ (z : Span). z.from) c.span-at.ensures in
    subst (λ (x : statement.Stmt g.row.A.Denot). arm.Whole T base m at start G n path i old x n old) (sym (ap (stmt_kind m) c.in-Return.is)) (arm.return_put T base m at start G n path i old (option_map expr_of c.in-Return.field-0))

pub returns-in-Empty : goal.returns-in-Empty
unfolding stmt_kind stmt_row held_else
returns-in-Empty g c =
    let T = g.A.Mark.span_from in
    let G = given g.F.Facts.decls g.F.Facts.types c.args.here.now in
    let path = c.args.path.now.steps.items in
    let old = c.args.out.now.items in
    let n = c.args.number in
    let base = c.args.base in
    let i = c.args.part in
    let m = c.args.of.now.mark in
    let at = c.span-at.result.from in
    let start : at ≡ begins_by T m base = ap (λ (z : Span). z.from) c.span-at.ensures in
    subst (λ (x : statement.Stmt g.row.A.Denot). arm.Whole T base m at start G n path i old x n old) (sym (ap (stmt_kind m) c.in-Empty.is)) (arm.empty_put T base m at start G n path i old)

pub returns-in-If : goal.returns-in-If
unfolding stmt_kind stmt_row held_else
returns-in-If g c =
    let T = g.A.Mark.span_from in
    let G = given g.F.Facts.decls g.F.Facts.types c.args.here.now in
    let path = c.args.path.now.steps.items in
    let old = c.args.out.now.items in
    let n = c.args.number in
    let base = c.args.base in
    let i = c.args.part in
    let m = c.args.of.now.mark in
    let at = c.span-at.result.from in
    let start : at ≡ begins_by T m base = ap (λ (z : Span). z.from) c.span-at.ensures in
    let new = c.branch_front.new.out.items in
    growth.if_ok_then c.branch_front.result (λ k p. subst (λ (x : statement.Stmt g.row.A.Denot). arm.Whole T base m at start G n path i old x k new) (sym (ap (stmt_kind m) c.in-If.is ∙ stmt_kind-If _ m c.in-If.test c.in-If.yes c.in-If.field-2)) (arm.branch_put T base m at start G n path i old (expr_of c.in-If.test) c.deref.result.now c.in-If.yes.value (else_of c.in-If.field-2) k new c.deref.ensures p)) c.branch_front.ensures

pub returns-in_ok-loop_front-in-While : goal.returns-in_ok-loop_front-in-While
unfolding stmt_kind stmt_row held_else
returns-in_ok-loop_front-in-While g c =
    let T = g.A.Mark.span_from in
    let G = given g.F.Facts.decls g.F.Facts.types c.args.here.now in
    let path = c.args.path.now.steps.items in
    let old = c.args.out.now.items in
    let n = c.args.number in
    let base = c.args.base in
    let i = c.args.part in
    let m = c.args.of.now.mark in
    let at = c.span-at.result.from in
    let start : at ≡ begins_by T m base = ap (λ (z : Span). z.from) c.span-at.ensures in
    let new = c.loop_front.new.out.items in
    subst (λ (x : statement.Stmt g.row.A.Denot). arm.Whole T base m at start G n path i old x n new) (sym (ap (stmt_kind m) c.in-While.is)) (arm.loop_put T base m at start G n path i old (expr_of c.in-While.test) (stmt_of c.in-While.field-1.value) new c.in_ok-loop_front-in-While.ensures)

pub returns-in-Block : goal.returns-in-Block
unfolding stmt_kind stmt_row held_else
returns-in-Block g c =
    let T = g.A.Mark.span_from in
    let G = given g.F.Facts.decls g.F.Facts.types c.args.here.now in
    let path = c.args.path.now.steps.items in
    let old = c.args.out.now.items in
    let n = c.args.number in
    let base = c.args.base in
    let i = c.args.part in
    let m = c.args.of.now.mark in
    let at = c.span-at.result.from in
    let start : at ≡ begins_by T m base = ap (λ (z : Span). z.from) c.span-at.ensures in
    let new = c.put_stmts.new.out.items in
    growth.if_ok_then c.put_stmts.result (λ k p. subst (λ (x : statement.Stmt g.row.A.Denot). arm.Whole T base m at start G n path i old x k new) (sym (ap (stmt_kind m) c.in-Block.is ∙ stmt_kind-Block _ m c.in-Block.body)) (arm.block_put T base m at start G n path i old c.deref-in-Block.result.now c.in-Block.body.items k new c.deref-in-Block.ensures.value p)) c.put_stmts.ensures

pub returns-in-Sync : goal.returns-in-Sync
unfolding stmt_kind stmt_row held_else
returns-in-Sync g c =
    let T = g.A.Mark.span_from in
    let G = given g.F.Facts.decls g.F.Facts.types c.args.here.now in
    let path = c.args.path.now.steps.items in
    let old = c.args.out.now.items in
    let n = c.args.number in
    let base = c.args.base in
    let i = c.args.part in
    let m = c.args.of.now.mark in
    let at = c.span-at.result.from in
    let start : at ≡ begins_by T m base = ap (λ (z : Span). z.from) c.span-at.ensures in
    let new = c.sync_front.new.out.items in
    growth.if_ok_then c.sync_front.result (λ k p. subst (λ (x : statement.Stmt g.row.A.Denot). arm.Whole T base m at start G n path i old x k new) (sym (ap (stmt_kind m) c.in-Sync.is ∙ stmt_kind-Sync _ m c.in-Sync.object c.in-Sync.body)) (arm.sync_put T base m at start G n path i old (expr_of c.in-Sync.object) c.deref-in-Sync.result.now c.in-Sync.body.items k new c.deref-in-Sync.ensures.value p)) c.sync_front.ensures
