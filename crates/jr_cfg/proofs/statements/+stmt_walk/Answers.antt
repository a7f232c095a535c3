use Rattle.std.proofs.Common.{◌≡◌, ◌+◌, ℕ, List, [], ◌∷◌, ◌++◌, ◌-◌, Option, ap, sym, refl, subst, ◌∙◌, arith}
use Rattle.std.specs.Prelude.{option_map}
use Rattle.std.specs.Global.{Global}
use Rattle.std.specs.declared.boxed.Box.{Box}
use Rattle.jr_text.specs.declared.spans.Span.{Span}
use Rattle.jr_ast.specs.StatementTree as statement
use Rattle.jr_ast.specs.declared.stmts.Stmt.{Stmt}
use Rattle.jr_ast.specs.View.{word_of, expr_of, stmt_of, stmts_of, else_of, stmt_kind, stmt_row, held_else}
use Rattle.jr_ast.proofs.Rows.{stmt_kind-If, stmt_kind-Block, stmt_kind-Sync}
use Rattle.jr_ast.proofs.Sizes.{stmt_size, stmts_size, else_size}
use Rattle.jr_table.specs.Context.{locals_in, locals_in_else}
use Rattle.jr_bind_expr.specs.Fits.{FitsStmt, FitsElse}
use Rattle.jr_cfg.specs.declared.statements.Last.{Last}
use Rattle.jr_cfg.specs.declared.statements.Reached.{Reached}
use Rattle.jr_cfg.specs.declared.statements.Reached.TheVariants as reached
use Rattle.jr_cfg.specs.declared.statements.Ending.TheVariants as ending
use Rattle.jr_expr_sites.specs.Steps as step
use Rattle.jr_expr_sites.specs.StepView.{given}
use Rattle.jr_expr_sites.specs.Routes.{begins_by}
use Rattle.jr_cfg.specs.StatementRoutes as route
use Rattle.jr_cfg.specs.StatementRoutes.{Passed, Leaves, IsLastOf, HeadWalked, BranchWalked, endings_steps}
use Rattle.jr_expr_sites.proofs.Walking.{Seen}
use Rattle.jr_cfg.proofs.Standing as standing
use Rattle.jr_cfg.proofs.Limbs as limb
use Rattle.jr_cfg.proofs.statements.+stmt_walk.Goals as goal

pub head-span-span-requires : goal.head-span-span-requires
head-span-span-requires g t c =
    limb.own_fits_stmt (begins_by g.A.Mark.span_from) g.A.Mark.fits_at c.args.base c.args.of.now c.requires.fits

pub head-local-requires : goal.head-local-requires
unfolding stmt_size stmts_size else_size stmt_kind stmt_row held_else
head-local-requires g t c =
    let T = g.A.Mark.span_from in
    let F = g.A.Mark.fits_at in
    let base = c.args.base in
    let m = c.args.of.now.mark in
    let at = c.span-span.result.from in
    let start : at ≡ (T m base).from = ap (λ (z : Span). z.from) c.span-span.ensures in
    let p = limb.local_fits T F base m at start _ _ (word_of c.in-Local.name) (expr_of c.in-Local.init) (subst (λ (x : statement.Stmt g.row.A.Denot). FitsStmt (begins_by T) F base x) (ap (stmt_kind m) c.in-Local.is) c.requires.fits) in
    record { fits = p.0; fits_name = p.1 }

pub head-operand-requires : goal.head-operand-requires
unfolding stmt_size stmts_size else_size stmt_kind stmt_row held_else
head-operand-requires g t c =
    let T = g.A.Mark.span_from in
    let F = g.A.Mark.fits_at in
    let base = c.args.base in
    let m = c.args.of.now.mark in
    let at = c.span-span.result.from in
    let start : at ≡ (T m base).from = ap (λ (z : Span). z.from) c.span-span.ensures in
    record { fits = limb.eval_fits T F base m at start (expr_of c.in-Eval.value) (subst (λ (x : statement.Stmt g.row.A.Denot). FitsStmt (begins_by T) F base x) (ap (stmt_kind m) c.in-Eval.is) c.requires.fits) }

pub head-branch-alloc-requires : goal.head-branch-alloc-requires
unfolding stmt_size stmts_size else_size stmt_kind stmt_row held_else
head-branch-alloc-requires g t c =
    let T = g.A.Mark.span_from in
    let F = g.A.Mark.fits_at in
    let base = c.args.base in
    let m = c.args.of.now.mark in
    let at = c.span-span.result.from in
    let start : at ≡ (T m base).from = ap (λ (z : Span). z.from) c.span-span.ensures in
    let p = limb.branch_fits T F base m at start (expr_of c.in-If.test) c.deref.result.now c.in-If.yes.value (else_of c.in-If.no) c.deref.ensures (subst (λ (x : statement.Stmt g.row.A.Denot). FitsStmt (begins_by T) F base x) (ap (stmt_kind m) c.in-If.is ∙ stmt_kind-If _ m c.in-If.test c.in-If.yes c.in-If.no) c.requires.fits) in
    λ κs o. (limb.falls_both _ _ _ _ t (ap (λ (x : Stmt g.row.A.Denot). stmt_size (stmt_of x)) c.deref.ensures) (ap stmt_size (ap (stmt_kind m) c.in-If.is ∙ stmt_kind-If _ m c.in-If.test c.in-If.yes c.in-If.no)) c.decreases, (o.0, (o.1, (p.0, (p.1, p.2)))))

pub head-operand-requires-in-While : goal.head-operand-requires-in-While
unfolding stmt_size stmts_size else_size stmt_kind stmt_row held_else
head-operand-requires-in-While g t c =
    let T = g.A.Mark.span_from in
    let F = g.A.Mark.fits_at in
    let base = c.args.base in
    let m = c.args.of.now.mark in
    let at = c.span-span.result.from in
    let start : at ≡ (T m base).from = ap (λ (z : Span). z.from) c.span-span.ensures in
    record { fits = (limb.loop_fits T F base m at start (expr_of c.in-While.test) c.in-While.body.value c.in-While.body.value refl (subst (λ (x : statement.Stmt g.row.A.Denot). FitsStmt (begins_by T) F base x) (ap (stmt_kind m) c.in-While.is) c.requires.fits)).0 }

pub head-returned-requires : goal.head-returned-requires
unfolding stmt_size stmts_size else_size stmt_kind stmt_row held_else
head-returned-requires g t c =
    let T = g.A.Mark.span_from in
    let F = g.A.Mark.fits_at in
    let base = c.args.base in
    let m = c.args.of.now.mark in
    let at = c.span-span.result.from in
    let start : at ≡ (T m base).from = ap (λ (z : Span). z.from) c.span-span.ensures in
    record { fits = limb.return_fits T F base m at start (option_map expr_of c.in-Return.value) (subst (λ (x : statement.Stmt g.row.A.Denot). FitsStmt (begins_by T) F base x) (ap (stmt_kind m) c.in-Return.is) c.requires.fits) }

pub head-stmts-requires : goal.head-stmts-requires
unfolding stmt_size stmts_size else_size stmt_kind stmt_row held_else
head-stmts-requires g t c =
    let T = g.A.Mark.span_from in
    let F = g.A.Mark.fits_at in
    let G = given g.F.Facts.decls g.F.Facts.types c.args.here.now in
    let path = c.args.path.now.steps.items in
    let n = c.args.number in
    let base = c.args.base in
    let m = c.args.of.now.mark in
    let at = c.span-span.result.from in
    let start : at ≡ (T m base).from = ap (λ (z : Span). z.from) c.span-span.ensures in
    let old = c.args.out.now.items in
    let same = c.deref-in-Block.ensures.value in
    λ κs o. (limb.falls_one _ _ _ 2 t (ap (λ (x : List (Stmt g.row.A.Denot)). stmts_size (stmts_of x)) same) (ap stmt_size (ap (stmt_kind m) c.in-Block.is ∙ stmt_kind-Block _ m c.in-Block.body)) c.decreases (omega arith), (o.0, (o.1, limb.block_fits T F base m at start c.deref-in-Block.result.now c.in-Block.body.items same (subst (λ (x : statement.Stmt g.row.A.Denot). FitsStmt (begins_by T) F base x) (ap (stmt_kind m) c.in-Block.is ∙ stmt_kind-Block _ m c.in-Block.body) c.requires.fits))))

pub head-sync-requires : goal.head-sync-requires
unfolding stmt_size stmts_size else_size stmt_kind stmt_row held_else
head-sync-requires g t c =
    let T = g.A.Mark.span_from in
    let F = g.A.Mark.fits_at in
    let G = given g.F.Facts.decls g.F.Facts.types c.args.here.now in
    let path = c.args.path.now.steps.items in
    let n = c.args.number in
    let base = c.args.base in
    let m = c.args.of.now.mark in
    let at = c.span-span.result.from in
    let start : at ≡ (T m base).from = ap (λ (z : Span). z.from) c.span-span.ensures in
    let old = c.args.out.now.items in
    let same = c.deref-in-Sync.ensures.value in
    let p = limb.sync_fits T F base m at start (expr_of c.in-Sync.object) c.deref-in-Sync.result.now c.in-Sync.body.items same (subst (λ (x : statement.Stmt g.row.A.Denot). FitsStmt (begins_by T) F base x) (ap (stmt_kind m) c.in-Sync.is ∙ stmt_kind-Sync _ m c.in-Sync.object c.in-Sync.body) c.requires.fits) in
    λ κs o. (limb.falls_one _ _ _ 3 t (ap (λ (x : List (Stmt g.row.A.Denot)). stmts_size (stmts_of x)) same) (ap stmt_size (ap (stmt_kind m) c.in-Sync.is ∙ stmt_kind-Sync _ m c.in-Sync.object c.in-Sync.body)) c.decreases (omega arith), (o.0, (o.1, (p.0, p.1))))

pub head-returns-in_ok-number-in-Local : goal.head-returns-in_ok-number-in-Local
unfolding stmt_size stmts_size else_size stmt_kind stmt_row held_else
head-returns-in_ok-number-in-Local g t c =
    let T = g.A.Mark.span_from in
    let F = g.A.Mark.fits_at in
    let G = given g.F.Facts.decls g.F.Facts.types c.args.here.now in
    let path = c.args.path.now.steps.items in
    let n = c.args.number in
    let base = c.args.base in
    let m = c.args.of.now.mark in
    let at = c.span-span.result.from in
    let start : at ≡ (T m base).from = ap (λ (z : Span). z.from) c.span-span.ensures in
    let old = c.args.out.now.items in
    let new = c.local.new.out.items in
    subst (λ (x : statement.Stmt g.row.A.Denot). HeadWalked T F G n path base x (reached.Behind c.in_ok-number-in-Local.number) old new) (sym (ap (stmt_kind m) c.in-Local.is)) (limb.local_gives T F G n path base m at start old _ _ (word_of c.in-Local.name) (expr_of c.in-Local.init) c.in_ok-number-in-Local.number new c.in_ok-number-in-Local.ensures c.in_ok-local-in-Local.ensures)

pub head-returns-in_ok-operand-in-Eval : goal.head-returns-in_ok-operand-in-Eval
unfolding stmt_size stmts_size else_size stmt_kind stmt_row held_else
head-returns-in_ok-operand-in-Eval g t c =
    let T = g.A.Mark.span_from in
    let F = g.A.Mark.fits_at in
    let G = given g.F.Facts.decls g.F.Facts.types c.args.here.now in
    let path = c.args.path.now.steps.items in
    let n = c.args.number in
    let base = c.args.base in
    let m = c.args.of.now.mark in
    let at = c.span-span.result.from in
    let start : at ≡ (T m base).from = ap (λ (z : Span). z.from) c.span-span.ensures in
    let old = c.args.out.now.items in
    let new = c.operand.new.out.items in
    subst (λ (x : statement.Stmt g.row.A.Denot). HeadWalked T F G n path base x (reached.Behind n) old new) (sym (ap (stmt_kind m) c.in-Eval.is)) (limb.eval_gives T F G n path base m at start old (expr_of c.in-Eval.value) new c.in_ok-operand-in-Eval.ensures)

pub head-returns-in_ok-returned-in-Return : goal.head-returns-in_ok-returned-in-Return
unfolding stmt_size stmts_size else_size stmt_kind stmt_row held_else
head-returns-in_ok-returned-in-Return g t c =
    let T = g.A.Mark.span_from in
    let F = g.A.Mark.fits_at in
    let G = given g.F.Facts.decls g.F.Facts.types c.args.here.now in
    let path = c.args.path.now.steps.items in
    let n = c.args.number in
    let base = c.args.base in
    let m = c.args.of.now.mark in
    let at = c.span-span.result.from in
    let start : at ≡ (T m base).from = ap (λ (z : Span). z.from) c.span-span.ensures in
    let old = c.args.out.now.items in
    let new = c.returned.new.out.items in
    subst (λ (x : statement.Stmt g.row.A.Denot). HeadWalked T F G n path base x (reached.Behind n) old new) (sym (ap (stmt_kind m) c.in-Return.is)) (limb.return_gives T F G n path base m at start old (option_map expr_of c.in-Return.value) new c.in_ok-returned-in-Return.ensures)

pub head-returns-in_ok-number-in-Block : goal.head-returns-in_ok-number-in-Block
unfolding stmt_size stmts_size else_size stmt_kind stmt_row held_else
head-returns-in_ok-number-in-Block g t c =
    let T = g.A.Mark.span_from in
    let F = g.A.Mark.fits_at in
    let G = given g.F.Facts.decls g.F.Facts.types c.args.here.now in
    let path = c.args.path.now.steps.items in
    let n = c.args.number in
    let base = c.args.base in
    let m = c.args.of.now.mark in
    let at = c.span-span.result.from in
    let start : at ≡ (T m base).from = ap (λ (z : Span). z.from) c.span-span.ensures in
    let old = c.args.out.now.items in
    let new = c.stmts.new.out.items in
    subst (λ (x : statement.Stmt g.row.A.Denot). HeadWalked T F G n path base x (reached.Behind c.in_ok-number-in-Block.number) old new) (sym (ap (stmt_kind m) c.in-Block.is ∙ stmt_kind-Block _ m c.in-Block.body)) (limb.block_gives T F G n path base m at start old c.deref-in-Block.result.now c.in-Block.body.items c.in_ok-number-in-Block.number new c.deref-in-Block.ensures.value c.in_ok-number-in-Block.ensures)

pub head-returns-in_ok-number-in-Sync : goal.head-returns-in_ok-number-in-Sync
unfolding stmt_size stmts_size else_size stmt_kind stmt_row held_else
head-returns-in_ok-number-in-Sync g t c =
    let T = g.A.Mark.span_from in
    let F = g.A.Mark.fits_at in
    let G = given g.F.Facts.decls g.F.Facts.types c.args.here.now in
    let path = c.args.path.now.steps.items in
    let n = c.args.number in
    let base = c.args.base in
    let m = c.args.of.now.mark in
    let at = c.span-span.result.from in
    let start : at ≡ (T m base).from = ap (λ (z : Span). z.from) c.span-span.ensures in
    let old = c.args.out.now.items in
    let new = c.sync.new.out.items in
    subst (λ (x : statement.Stmt g.row.A.Denot). HeadWalked T F G n path base x (reached.Behind c.in_ok-number-in-Sync.number) old new) (sym (ap (stmt_kind m) c.in-Sync.is ∙ stmt_kind-Sync _ m c.in-Sync.object c.in-Sync.body)) (limb.sync_gives T F G n path base m at start old c.saturating_sub-last.result (c.saturating_sub-last.ensures ∙ ap (λ (z : Span). z.to - 1) c.span-span.ensures) (expr_of c.in-Sync.object) c.deref-in-Sync.result.now c.in-Sync.body.items c.in_ok-number-in-Sync.number new c.deref-in-Sync.ensures.value c.in_ok-number-in-Sync.ensures)

pub head-returns-in_ok-put_nothing-in-Empty : goal.head-returns-in_ok-put_nothing-in-Empty
unfolding stmt_size stmts_size else_size stmt_kind stmt_row held_else
head-returns-in_ok-put_nothing-in-Empty g t c =
    let T = g.A.Mark.span_from in
    let F = g.A.Mark.fits_at in
    let G = given g.F.Facts.decls g.F.Facts.types c.args.here.now in
    let path = c.args.path.now.steps.items in
    let n = c.args.number in
    let base = c.args.base in
    let m = c.args.of.now.mark in
    let at = c.span-span.result.from in
    let start : at ≡ (T m base).from = ap (λ (z : Span). z.from) c.span-span.ensures in
    let old = c.args.out.now.items in
    let new = c.put_nothing.new.out.items in
    subst (λ (x : statement.Stmt g.row.A.Denot). HeadWalked T F G n path base x (reached.Behind n) old new) (sym (ap (stmt_kind m) c.in-Empty.is)) (limb.empty_gives T F G n path base m at start old new (c.in_ok-put_nothing-in-Empty.ensures G))

pub head-returns-in_ok-last-in-If : goal.head-returns-in_ok-last-in-If
unfolding stmt_size stmts_size else_size stmt_kind stmt_row held_else
head-returns-in_ok-last-in-If g t c =
    let T = g.A.Mark.span_from in
    let F = g.A.Mark.fits_at in
    let G = given g.F.Facts.decls g.F.Facts.types c.args.here.now in
    let path = c.args.path.now.steps.items in
    let n = c.args.number in
    let base = c.args.base in
    let m = c.args.of.now.mark in
    let at = c.span-span.result.from in
    let start : at ≡ (T m base).from = ap (λ (z : Span). z.from) c.span-span.ensures in
    let old = c.args.out.now.items in
    let new = c.branch-alloc.new.out.items in
    let l = c.in_ok-last-in-If.last in
    subst (λ (x : statement.Stmt g.row.A.Denot). HeadWalked T F G n path base x (reached.To l) old new) (sym (ap (stmt_kind m) c.in-If.is ∙ stmt_kind-If _ m c.in-If.test c.in-If.yes c.in-If.no)) (limb.branch_reaches T F G n path base m at start old (expr_of c.in-If.test) c.deref.result.now c.in-If.yes.value (else_of c.in-If.no) l new c.deref.ensures c.in_ok-last-in-If.ensures)

pub head-returns-in_ok-operand-in-While : goal.head-returns-in_ok-operand-in-While
unfolding stmt_size stmts_size else_size stmt_kind stmt_row held_else
head-returns-in_ok-operand-in-While g t c =
    let T = g.A.Mark.span_from in
    let F = g.A.Mark.fits_at in
    let G = given g.F.Facts.decls g.F.Facts.types c.args.here.now in
    let path = c.args.path.now.steps.items in
    let n = c.args.number in
    let base = c.args.base in
    let m = c.args.of.now.mark in
    let at = c.span-span.result.from in
    let start : at ≡ (T m base).from = ap (λ (z : Span). z.from) c.span-span.ensures in
    let old = c.args.out.now.items in
    let new = c.operand-in-While.new.out.items in
    let l : Last g.row.A.Denot = record { of = c.deref-in-While.result; step = 1; at = at; number = n; ending = ending.Turn } in
    let fits = (limb.loop_fits T F base m at start (expr_of c.in-While.test) c.in-While.body.value c.in-While.body.value refl (subst (λ (x : statement.Stmt g.row.A.Denot). FitsStmt (begins_by T) F base x) (ap (stmt_kind m) c.in-While.is) c.requires.fits)).1 in
    subst (λ (x : statement.Stmt g.row.A.Denot). HeadWalked T F G n path base x (reached.To l) old new) (sym (ap (stmt_kind m) c.in-While.is)) (limb.loop_reaches T F G n path base m at start old (expr_of c.in-While.test) l c.in-While.body.value c.put.new.out.items new c.deref-in-While.ensures refl refl refl refl fits (c.in_ok-put-in-While.ensures G.member) c.in_ok-operand-in-While.ensures)

pub branch-operand-requires : goal.branch-operand-requires
branch-operand-requires g t c =
    record { fits = c.requires.fits }

pub branch-stmt-requires : goal.branch-stmt-requires
branch-stmt-requires g t c =
    λ κs o. (omega (arith, c.decreases), (o.0, (o.1, c.requires.fits_yes)))

pub branch-returns-in-None : goal.branch-returns-in-None
branch-returns-in-None g t c =
    let T = g.A.Mark.span_from in
    let F = g.A.Mark.fits_at in
    let G = given g.F.Facts.decls g.F.Facts.types c.args.here.now in
    let path = c.args.path.now.steps.items in
    let n = c.args.number in
    let at = c.args.at in
    let e = expr_of c.args.test.now in
    let x = stmt_of c.args.yes.now in
    let old = c.args.out.now.items in
    let one = c.operand.new.out.items in
    subst (λ (o : (Option (Box (Stmt g.row.A.Denot) Global))). BranchWalked T F G n path at e x (else_of o) (record { of = c.args.yes; step = 1; at = at; number = n; ending = ending.Yes }) old one) (sym c.in-None.is)
    (standing.yes_left T F G n path at e x old one c.in_ok-operand.ensures c.requires.fits_yes)

pub branch-returns-in_ok-number-in-Some : goal.branch-returns-in_ok-number-in-Some
branch-returns-in_ok-number-in-Some g t c =
    let T = g.A.Mark.span_from in
    let F = g.A.Mark.fits_at in
    let G = given g.F.Facts.decls g.F.Facts.types c.args.here.now in
    let path = c.args.path.now.steps.items in
    let n = c.args.number in
    let at = c.args.at in
    let e = expr_of c.args.test.now in
    let x = stmt_of c.args.yes.now in
    let old = c.args.out.now.items in
    let one = c.operand.new.out.items in
    let two = c.stmt.new.out.items in
    let k = c.in_ok-number-in-Some.number in
    let z = stmt_of c.in-Some.no.value in
    let fits = subst (λ (o : (Option (Box (Stmt g.row.A.Denot) Global))). FitsElse (begins_by T) F at (else_of o)) c.in-Some.is c.requires.fits_no in
    let p = subst (λ (q : List ℕ). Passed G (route.Numbered T n q at x) (route.stmt T q at x) (n + locals_in x) k one two) c.in_ok-place-in-Some.ensures c.in_ok-number-in-Some.ensures in
    let left = standing.no_left T F G n path at e x z k old one two c.in_ok-operand.ensures fits p in
    subst (λ (o : (Option (Box (Stmt g.row.A.Denot) Global))). BranchWalked T F G n path at e x (else_of o) (record { of = c.deref.result; step = 2; at = at; number = k; ending = ending.No }) old two) (sym c.in-Some.is)
    (subst (λ (y : Stmt g.row.A.Denot). IsLastOf T (stmt_of y) x (statement.otherwise z) × Leaves T F G (n + locals_in x + locals_in_else (statement.otherwise z)) (standing.Branching T F G n path at e x (statement.otherwise z)) (route.branch T path at e x (statement.otherwise z)) (stmt_of y) k (path ++ 2 ∷ []) at (step.fork ∷ step.row ∷ []) old two) (sym c.deref.ensures) left)

pub sync-operand-requires : goal.sync-operand-requires
sync-operand-requires g t c =
    record { fits = c.requires.fits }

pub sync-lock_check-requires : goal.sync-lock_check-requires
sync-lock_check-requires g t c =
    record { fits = c.requires.fits }

pub sync-stmts-requires : goal.sync-stmts-requires
sync-stmts-requires g t c =
    λ κs o. (omega (arith, c.decreases), (o.0, (o.1, c.requires.fits_body)))

pub sync-returns : goal.sync-returns
sync-returns g t c =
    let T = g.A.Mark.span_from in
    let G = given g.F.Facts.decls g.F.Facts.types c.args.here.now in
    let path = c.args.path.now.steps.items in
    limb.sync_walked T G c.args.number path c.args.at c.args.last (expr_of c.args.object.now) (stmts_of c.args.body.now) c.in_ok-after.after c.args.out.now.items c.operand.new.out.items c.lock_check.new.out.items c.put.new.out.items c.stmts.new.out.items c.put-2.new.out.items c.put_row.new.out.items c.put_row-2.new.out.items c.in_ok-operand.ensures (c.in_ok-lock_check.ensures (path ++ 0 ∷ [])) (c.in_ok-put.ensures G.member) c.in_ok-after.ensures (c.in_ok-put-2.ensures G.member) (c.in_ok-put_row.ensures G.member) (c.in_ok-put_row-2.ensures G.member)

pub stmt-head-requires : goal.stmt-head-requires
stmt-head-requires g t c =
    let l = c.loop-endings in
    let s = l.invariant.size in
    λ κs o. (omega (arith, s, c.decreases), (o.0, (o.1, l.invariant.left.fits)))

pub stmt-loop-endings-init : goal.stmt-loop-endings-init
stmt-loop-endings-init g t c =
    let T = g.A.Mark.span_from in
    let F = g.A.Mark.fits_at in
    let G = given g.F.Facts.decls g.F.Facts.types c.args.here.now in
    let path = c.args.path.now.steps.items in
    let x = stmt_of c.args.of.now in
    let n = c.args.number in
    let base = c.args.base in
    let old = c.args.out.now.items in
    let same = c.in_ok-extend_from_slice.ensures.items ∙ ap (λ (l : List ℕ). l ++ c.as_slice.result.now) c.new.ensures.items ∙ c.as_slice.ensures.value in
    let begun : endings_steps c.new-endings.result.items ≡ [] = ap endings_steps c.new-endings.ensures.items in
    record {
      size = omega arith;
      left = subst (λ (s : Seen). Leaves T F G (n + locals_in x) (route.Numbered T n path base x) (route.stmt T path base x) x n c.extend_from_slice.new.self.items base s old old) (sym begun)
          (subst (λ (q : List ℕ). Leaves T F G (n + locals_in x) (route.Numbered T n path base x) (route.stmt T path base x) x n q base [] old old) (sym same) (standing.leaves_all T F G n path base x old c.requires.fits));
    }

pub stmt-loop-endings-smaller : goal.stmt-loop-endings-smaller
stmt-loop-endings-smaller g t c =
    let T = g.A.Mark.span_from in
    let F = g.A.Mark.fits_at in
    let G = given g.F.Facts.decls g.F.Facts.types c.args.here.now in
    let l = c.loop-endings in
    let p = subst (λ (r : Reached g.row.A.Denot). HeadWalked T F G l.number l.place.steps.items l.base (stmt_of l.of.now) r l.out.items c.head.new.out.items) c.in-To.is c.in_ok-reached.ensures in
    standing.last_smaller T (stmt_of c.in-To.last.of.now) (stmt_of l.of.now) p.0

pub stmt-loop-endings-preserved : goal.stmt-loop-endings-preserved
stmt-loop-endings-preserved g t c =
    let T = g.A.Mark.span_from in
    let F = g.A.Mark.fits_at in
    let G = given g.F.Facts.decls g.F.Facts.types c.args.here.now in
    let path = c.args.path.now.steps.items in
    let l = c.loop-endings in
    let x = stmt_of c.args.of.now in
    let n = c.args.number in
    let base = c.args.base in
    let old = c.args.out.now.items in
    let to = c.in-To.last in
    let p = subst (λ (r : Reached g.row.A.Denot). HeadWalked T F G l.number l.place.steps.items l.base (stmt_of l.of.now) r l.out.items c.head.new.out.items) c.in-To.is c.in_ok-reached.ensures in
    let s = standing.last_smaller T (stmt_of to.of.now) (stmt_of l.of.now) p.0 in
    let fits = l.invariant.size in
    record {
      size = omega (arith, s, fits);
      left = standing.leaves_then T F G (n + locals_in x) (route.Numbered T n path base x) (route.stmt T path base x) (stmt_of l.of.now) l.number l.place.steps.items l.base (endings_steps l.endings.items) old l.out.items l.invariant.left
          to c.head.new.out.items (endings_steps c.push-in-To.new.self.items) c.push.new.self.items (standing.one_ending l.endings.items c.push-in-To.new.self.items to.ending c.in_ok-push-in-To-2.ensures.items) c.in_ok-push-in-To.ensures.items p.1;
    }

pub stmt-returns-in-Behind : goal.stmt-returns-in-Behind
stmt-returns-in-Behind g t c =
    let T = g.A.Mark.span_from in
    let F = g.A.Mark.fits_at in
    let G = given g.F.Facts.decls g.F.Facts.types c.args.here.now in
    let path = c.args.path.now.steps.items in
    let l = c.loop-endings in
    let x = stmt_of c.args.of.now in
    let n = c.args.number in
    let base = c.args.base in
    let old = c.args.out.now.items in
    let p = subst (λ (r : Reached g.row.A.Denot). HeadWalked T F G l.number l.place.steps.items l.base (stmt_of l.of.now) r l.out.items c.head.new.out.items) c.in-Behind.is c.in_ok-reached.ensures in
    standing.leaves_behind T F G (n + locals_in x) (route.Numbered T n path base x) (route.stmt T path base x) (stmt_of l.of.now) l.number l.place.steps.items l.base (endings_steps l.endings.items) old l.out.items l.invariant.left c.in-Behind.number c.head.new.out.items c.put_endings.new.out.items (c.in_ok-put_endings-in-Behind.ensures G.member) p

pub stmts-stmt-requires : goal.stmts-stmt-requires
stmts-stmt-requires g t c =
    let T = g.A.Mark.span_from in
    let F = g.A.Mark.fits_at in
    let G = given g.F.Facts.decls g.F.Facts.types c.args.here.now in
    let path = c.args.path.now.steps.items in
    let n = c.args.number in
    let at = c.args.at in
    let body = c.args.body.now in
    let i = c.loop-of.of-index in
    let x = c.of-item.result in
    let l = c.loop-of in
    λ κs o. (limb.falls_item body i x t c.loop-of-test.true c.of-item.is c.decreases, (o.0, (o.1, (limb.item_fits T F G n path c.args.first at body i x c.loop-of-test.true c.of-item.is l.invariant.fits).0)))

pub stmts-loop-of-init : goal.stmts-loop-of-init
stmts-loop-of-init g t c =
    let T = g.A.Mark.span_from in
    let F = g.A.Mark.fits_at in
    let G = given g.F.Facts.decls g.F.Facts.types c.args.here.now in
    let path = c.args.path.now.steps.items in
    limb.going_all T F G c.args.number path c.args.first c.args.at c.args.body.now c.args.out.now.items c.requires.fits

pub stmts-loop-of-preserved : goal.stmts-loop-of-preserved
stmts-loop-of-preserved g t c =
    let T = g.A.Mark.span_from in
    let F = g.A.Mark.fits_at in
    let G = given g.F.Facts.decls g.F.Facts.types c.args.here.now in
    let path = c.args.path.now.steps.items in
    let n = c.args.number in
    let at = c.args.at in
    let body = c.args.body.now in
    let i = c.loop-of.of-index in
    let x = c.of-item.result in
    let l = c.loop-of in
    let p = subst (λ (q : List ℕ). Passed G (route.Numbered T l.after q at (stmt_of x)) (route.stmt T q at (stmt_of x)) (l.after + locals_in (stmt_of x)) c.in_ok-after.after l.out.items c.stmt.new.out.items) c.in_ok-place.ensures c.in_ok-after.ensures in
    limb.going_more T F G n path c.args.first at body c.args.out.now.items l.out.items c.stmt.new.out.items l.after c.in_ok-after.after l.step c.in_ok-step.step i x c.loop-of-test.true c.of-item.is c.in_ok-step.ensures l.invariant p

pub stmts-returns : goal.stmts-returns
stmts-returns g t c =
    let T = g.A.Mark.span_from in
    let F = g.A.Mark.fits_at in
    let G = given g.F.Facts.decls g.F.Facts.types c.args.here.now in
    let path = c.args.path.now.steps.items in
    let l = c.loop-of in
    limb.going_done T F G c.args.number path c.args.first c.args.at c.args.body.now c.args.out.now.items l.out.items c.put_nothing.new.out.items c.put_rows.new.out.items l.after l.step l.of-index _ c.loop-of-test.false l.auto.of-index-end refl l.invariant (c.in_ok-put_nothing.ensures G) (c.in_ok-put_rows.ensures G.member)
