use Rattle.std.proofs.Common.{◌≡◌, ◌+◌, ℕ, List, [], ◌∷◌, ◌++◌, Option, refl, ap, sym, subst, ◌∙◌, drop, arith}
use Rattle.std.specs.Prelude.{option_map}
use Rattle.std.proofs.lemmas.Result.{IfOk-weaker}
use Rattle.std.specs.Global.{Global}
use Rattle.std.specs.declared.boxed.Box.{Box}
use Rattle.jr_text.specs.declared.spans.Span.{Span}
use Rattle.jr_ast.specs.StatementTree as statement
use Rattle.jr_ast.specs.declared.stmts.Stmt.{Stmt}
use Rattle.jr_ast.specs.View.{word_of, type_of, expr_of, stmt_of, stmts_of, else_of, stmt_kind, stmt_row, held_else}
use Rattle.jr_ast.proofs.Rows.{stmt_kind-If, stmt_kind-Block, stmt_kind-Sync}
use Rattle.jr_ast.proofs.Sizes.{stmt_size, stmts_size, else_size}
use Rattle.jr_table.specs.Context.{locals_in, locals_in_else}
use Rattle.jr_bind_parts.proofs.Bodies.{own_fits_stmt}
use Rattle.jr_new_bodies.specs.OutputView.{gathered}
use Rattle.jr_new_bodies.specs.Ready.{StmtReady, ElseReady}
use Rattle.jr_new_bodies.specs.declared.statements.Reached.{Reached}
use Rattle.jr_new_bodies.specs.declared.statements.Reached.TheVariants as reached
use Rattle.jr_new_bodies.specs.Bodies.{StmtGathers}
use Rattle.jr_new_bodies.specs.Lasts.{Leaves, IsLastOf, BranchPasses, HeadPasses}
use Rattle.jr_new_bodies.proofs.Leaving as leaving
use Rattle.jr_new_bodies.proofs.Limbs as limb
use Rattle.jr_new_bodies.proofs.Moving.{deep_there}
use Rattle.jr_new_bodies.proofs.Bodying as body
use Rattle.jr_new_bodies.proofs.statements.+stmt_walk.Goals as goal

pub head-span-at-requires : goal.head-span-at-requires
head-span-at-requires g t c =
    own_fits_stmt (λ (k : g.row.A.Denot) (b : ℕ). (g.A.Mark.span_from k b).from) g.A.Mark.fits_at c.args.base c.args.of.now c.requires.ready.0

pub head-local-requires : goal.head-local-requires
unfolding stmt_size stmts_size else_size stmt_kind stmt_row held_else
head-local-requires g t c =
    let T = g.A.Mark.span_from in
    let F = g.A.Mark.fits_at in
    let h = c.args.here.now in
    let n = c.args.number in
    let path = c.args.path.now.steps.items in
    let base = c.args.base in
    let m = c.args.of.now.mark in
    let at = c.span-at.result.from in
    let start : at ≡ (T m base).from = ap (λ (z : Span). z.from) c.span-at.ensures in
    let old = gathered c.args.out.now in
    let ready = subst (λ (x : statement.Stmt g.row.A.Denot). StmtReady T F h n path base x) (ap (stmt_kind m) c.in-Local.is) c.requires.ready in
    let p = limb.local_needs T F h n path base m at start c.in-Local.is_final (type_of c.in-Local.ty) (word_of c.in-Local.name) (expr_of c.in-Local.init) ready in
    record { known = c.requires.known; fits = p.0; bound = p.1.0; fits_name = p.1.1.0; ready = p.1.1.1 }

pub head-eval-requires-clause-ready : goal.head-eval-requires-clause-ready
unfolding stmt_size stmts_size else_size stmt_kind stmt_row held_else
head-eval-requires-clause-ready g t c =
    let T = g.A.Mark.span_from in
    let F = g.A.Mark.fits_at in
    let h = c.args.here.now in
    let n = c.args.number in
    let path = c.args.path.now.steps.items in
    let base = c.args.base in
    let m = c.args.of.now.mark in
    let at = c.span-at.result.from in
    let start : at ≡ (T m base).from = ap (λ (z : Span). z.from) c.span-at.ensures in
    let old = gathered c.args.out.now in
    let ready = subst (λ (x : statement.Stmt g.row.A.Denot). StmtReady T F h n path base x) (ap (stmt_kind m) c.in-Eval.is) c.requires.ready in
    limb.eval_needs T F h n path base m at start (expr_of c.in-Eval.value) ready

pub head-branch-alloc-requires : goal.head-branch-alloc-requires
unfolding stmt_size stmts_size else_size stmt_kind stmt_row held_else
head-branch-alloc-requires g t c =
    let T = g.A.Mark.span_from in
    let F = g.A.Mark.fits_at in
    let h = c.args.here.now in
    let n = c.args.number in
    let path = c.args.path.now.steps.items in
    let base = c.args.base in
    let m = c.args.of.now.mark in
    let at = c.span-at.result.from in
    let start : at ≡ (T m base).from = ap (λ (z : Span). z.from) c.span-at.ensures in
    let old = gathered c.args.out.now in
    let ready = subst (λ (x : statement.Stmt g.row.A.Denot). StmtReady T F h n path base x) (ap (stmt_kind m) c.in-If.is ∙ stmt_kind-If _ m c.in-If.test c.in-If.yes c.in-If.no) c.requires.ready in
    λ κs o. (limb.falls_both _ _ _ _ t (ap (λ (x : Stmt g.row.A.Denot). stmt_size (stmt_of x)) c.deref.ensures) (ap stmt_size (ap (stmt_kind m) c.in-If.is ∙ stmt_kind-If _ m c.in-If.test c.in-If.yes c.in-If.no)) c.decreases, (o, (c.requires.known, limb.branch_needs T F h n path base m at start (expr_of c.in-If.test) c.deref.result.now c.in-If.yes.value (else_of c.in-If.no) c.deref.ensures ready)))

pub head-operand-requires : goal.head-operand-requires
unfolding stmt_size stmts_size else_size stmt_kind stmt_row held_else
head-operand-requires g t c =
    let T = g.A.Mark.span_from in
    let F = g.A.Mark.fits_at in
    let h = c.args.here.now in
    let n = c.args.number in
    let path = c.args.path.now.steps.items in
    let base = c.args.base in
    let m = c.args.of.now.mark in
    let at = c.span-at.result.from in
    let start : at ≡ (T m base).from = ap (λ (z : Span). z.from) c.span-at.ensures in
    let old = gathered c.args.out.now in
    let ready = subst (λ (x : statement.Stmt g.row.A.Denot). StmtReady T F h n path base x) (ap (stmt_kind m) c.in-While.is) c.requires.ready in
    let r = limb.turns_needs T F h n path base m at start (expr_of c.in-While.test) c.in-While.body.value c.in-While.body.value refl ready in
    record { known = c.requires.known; ready = r.0 }

pub head-maybe-requires-clause-ready : goal.head-maybe-requires-clause-ready
unfolding stmt_size stmts_size else_size stmt_kind stmt_row held_else
head-maybe-requires-clause-ready g t c =
    let T = g.A.Mark.span_from in
    let F = g.A.Mark.fits_at in
    let h = c.args.here.now in
    let n = c.args.number in
    let path = c.args.path.now.steps.items in
    let base = c.args.base in
    let m = c.args.of.now.mark in
    let at = c.span-at.result.from in
    let start : at ≡ (T m base).from = ap (λ (z : Span). z.from) c.span-at.ensures in
    let old = gathered c.args.out.now in
    let ready = subst (λ (x : statement.Stmt g.row.A.Denot). StmtReady T F h n path base x) (ap (stmt_kind m) c.in-Return.is) c.requires.ready in
    limb.return_needs T F h n path base m at start (option_map expr_of c.in-Return.value) ready

pub head-stmts-requires : goal.head-stmts-requires
unfolding stmt_size stmts_size else_size stmt_kind stmt_row held_else
head-stmts-requires g t c =
    let T = g.A.Mark.span_from in
    let F = g.A.Mark.fits_at in
    let h = c.args.here.now in
    let n = c.args.number in
    let path = c.args.path.now.steps.items in
    let base = c.args.base in
    let m = c.args.of.now.mark in
    let at = c.span-at.result.from in
    let start : at ≡ (T m base).from = ap (λ (z : Span). z.from) c.span-at.ensures in
    let old = gathered c.args.out.now in
    let ready = subst (λ (x : statement.Stmt g.row.A.Denot). StmtReady T F h n path base x) (ap (stmt_kind m) c.in-Block.is ∙ stmt_kind-Block _ m c.in-Block.body) c.requires.ready in
    λ κs o. (limb.falls_one _ _ _ 2 t (ap (λ (x : List (Stmt g.row.A.Denot)). stmts_size (stmts_of x)) c.deref-in-Block.ensures.value) (ap stmt_size (ap (stmt_kind m) c.in-Block.is ∙ stmt_kind-Block _ m c.in-Block.body)) c.decreases (omega arith), (o, (c.requires.known, limb.block_needs T F h n path base m at start c.deref-in-Block.result.now c.in-Block.body.items c.deref-in-Block.ensures.value ready)))

pub head-sync-requires : goal.head-sync-requires
unfolding stmt_size stmts_size else_size stmt_kind stmt_row held_else
head-sync-requires g t c =
    let T = g.A.Mark.span_from in
    let F = g.A.Mark.fits_at in
    let h = c.args.here.now in
    let n = c.args.number in
    let path = c.args.path.now.steps.items in
    let base = c.args.base in
    let m = c.args.of.now.mark in
    let at = c.span-at.result.from in
    let start : at ≡ (T m base).from = ap (λ (z : Span). z.from) c.span-at.ensures in
    let old = gathered c.args.out.now in
    let ready = subst (λ (x : statement.Stmt g.row.A.Denot). StmtReady T F h n path base x) (ap (stmt_kind m) c.in-Sync.is ∙ stmt_kind-Sync _ m c.in-Sync.object c.in-Sync.body) c.requires.ready in
    λ κs o. (limb.falls_one _ _ _ 3 t (ap (λ (x : List (Stmt g.row.A.Denot)). stmts_size (stmts_of x)) c.deref-in-Sync.ensures.value) (ap stmt_size (ap (stmt_kind m) c.in-Sync.is ∙ stmt_kind-Sync _ m c.in-Sync.object c.in-Sync.body)) c.decreases (omega arith), (o, (c.requires.known, limb.sync_needs T F h n path base m at start (expr_of c.in-Sync.object) c.deref-in-Sync.result.now c.in-Sync.body.items c.deref-in-Sync.ensures.value ready)))

pub head-returns-in_ok-number-in-Local : goal.head-returns-in_ok-number-in-Local
unfolding stmt_size stmts_size else_size stmt_kind stmt_row held_else
head-returns-in_ok-number-in-Local g t c =
    let T = g.A.Mark.span_from in
    let F = g.A.Mark.fits_at in
    let h = c.args.here.now in
    let n = c.args.number in
    let path = c.args.path.now.steps.items in
    let base = c.args.base in
    let m = c.args.of.now.mark in
    let at = c.span-at.result.from in
    let start : at ≡ (T m base).from = ap (λ (z : Span). z.from) c.span-at.ensures in
    let old = gathered c.args.out.now in
    let new = gathered c.local.new.out in
    subst (λ (x : statement.Stmt g.row.A.Denot). HeadPasses T F n h path base x (reached.Behind c.in_ok-number-in-Local.number) c.local.new.here old new) (sym (ap (stmt_kind m) c.in-Local.is)) (limb.local_returns T F h n path base m at start c.in-Local.is_final (type_of c.in-Local.ty) (word_of c.in-Local.name) (expr_of c.in-Local.init) c.in_ok-number-in-Local.number c.local.new.here old new c.in_ok-number-in-Local.ensures)

pub head-returns-in_ok-number-in-Block : goal.head-returns-in_ok-number-in-Block
unfolding stmt_size stmts_size else_size stmt_kind stmt_row held_else
head-returns-in_ok-number-in-Block g t c =
    let T = g.A.Mark.span_from in
    let F = g.A.Mark.fits_at in
    let h = c.args.here.now in
    let n = c.args.number in
    let path = c.args.path.now.steps.items in
    let base = c.args.base in
    let m = c.args.of.now.mark in
    let at = c.span-at.result.from in
    let start : at ≡ (T m base).from = ap (λ (z : Span). z.from) c.span-at.ensures in
    let old = gathered c.args.out.now in
    let new = gathered c.stmts.new.out in
    subst (λ (x : statement.Stmt g.row.A.Denot). HeadPasses T F n h path base x (reached.Behind c.in_ok-number-in-Block.number) c.stmts.new.here old new) (sym (ap (stmt_kind m) c.in-Block.is ∙ stmt_kind-Block _ m c.in-Block.body)) (limb.block_returns T F h n path base m at start c.deref-in-Block.result.now c.in-Block.body.items c.in_ok-number-in-Block.number c.stmts.new.here old new c.deref-in-Block.ensures.value c.in_ok-number-in-Block.ensures)

pub head-returns-in_ok-number-in-Sync : goal.head-returns-in_ok-number-in-Sync
unfolding stmt_size stmts_size else_size stmt_kind stmt_row held_else
head-returns-in_ok-number-in-Sync g t c =
    let T = g.A.Mark.span_from in
    let F = g.A.Mark.fits_at in
    let h = c.args.here.now in
    let n = c.args.number in
    let path = c.args.path.now.steps.items in
    let base = c.args.base in
    let m = c.args.of.now.mark in
    let at = c.span-at.result.from in
    let start : at ≡ (T m base).from = ap (λ (z : Span). z.from) c.span-at.ensures in
    let old = gathered c.args.out.now in
    let new = gathered c.sync.new.out in
    subst (λ (x : statement.Stmt g.row.A.Denot). HeadPasses T F n h path base x (reached.Behind c.in_ok-number-in-Sync.number) c.sync.new.here old new) (sym (ap (stmt_kind m) c.in-Sync.is ∙ stmt_kind-Sync _ m c.in-Sync.object c.in-Sync.body)) (limb.sync_returns T F h n path base m at start (expr_of c.in-Sync.object) c.deref-in-Sync.result.now c.in-Sync.body.items c.in_ok-number-in-Sync.number c.sync.new.here old new c.deref-in-Sync.ensures.value c.in_ok-number-in-Sync.ensures)

pub head-returns-in_ok-eval-in-Eval : goal.head-returns-in_ok-eval-in-Eval
unfolding stmt_size stmts_size else_size stmt_kind stmt_row held_else
head-returns-in_ok-eval-in-Eval g t c =
    let T = g.A.Mark.span_from in
    let F = g.A.Mark.fits_at in
    let h = c.args.here.now in
    let n = c.args.number in
    let path = c.args.path.now.steps.items in
    let base = c.args.base in
    let m = c.args.of.now.mark in
    let at = c.span-at.result.from in
    let start : at ≡ (T m base).from = ap (λ (z : Span). z.from) c.span-at.ensures in
    let old = gathered c.args.out.now in
    let new = gathered c.eval.new.out in
    subst (λ (x : statement.Stmt g.row.A.Denot). HeadPasses T F n h path base x (reached.Behind n) h old new) (sym (ap (stmt_kind m) c.in-Eval.is)) (limb.eval_returns T F h n path base m at start c.requires.known (expr_of c.in-Eval.value) old new c.in_ok-eval-in-Eval.ensures)

pub head-returns-in_ok-maybe-in-Return : goal.head-returns-in_ok-maybe-in-Return
unfolding stmt_size stmts_size else_size stmt_kind stmt_row held_else
head-returns-in_ok-maybe-in-Return g t c =
    let T = g.A.Mark.span_from in
    let F = g.A.Mark.fits_at in
    let h = c.args.here.now in
    let n = c.args.number in
    let path = c.args.path.now.steps.items in
    let base = c.args.base in
    let m = c.args.of.now.mark in
    let at = c.span-at.result.from in
    let start : at ≡ (T m base).from = ap (λ (z : Span). z.from) c.span-at.ensures in
    let old = gathered c.args.out.now in
    let new = gathered c.maybe.new.out in
    subst (λ (x : statement.Stmt g.row.A.Denot). HeadPasses T F n h path base x (reached.Behind n) h old new) (sym (ap (stmt_kind m) c.in-Return.is)) (limb.return_returns T F h n path base m at start c.requires.known (option_map expr_of c.in-Return.value) old new c.in_ok-maybe-in-Return.ensures)

pub head-returns-in-Empty : goal.head-returns-in-Empty
unfolding stmt_size stmts_size else_size stmt_kind stmt_row held_else
head-returns-in-Empty g t c =
    let T = g.A.Mark.span_from in
    let F = g.A.Mark.fits_at in
    let h = c.args.here.now in
    let n = c.args.number in
    let path = c.args.path.now.steps.items in
    let base = c.args.base in
    let m = c.args.of.now.mark in
    let at = c.span-at.result.from in
    let start : at ≡ (T m base).from = ap (λ (z : Span). z.from) c.span-at.ensures in
    let old = gathered c.args.out.now in
    let new = old in
    subst (λ (x : statement.Stmt g.row.A.Denot). HeadPasses T F n h path base x (reached.Behind n) h old new) (sym (ap (stmt_kind m) c.in-Empty.is)) (limb.empty_returns T F h n path base m at start c.requires.known old)

pub sync-operand-requires : goal.sync-operand-requires
sync-operand-requires g t c =
    record { known = c.requires.known; ready = c.requires.ready.0 }

pub sync-stmts-requires : goal.sync-stmts-requires
sync-stmts-requires g t c =
    λ κs o. (omega (arith, c.decreases), (o, (c.requires.known, c.requires.ready.1)))

pub sync-returns : goal.sync-returns
sync-returns g t c =
    IfOk-weaker c.stmts.result _ _ (λ k y. record { number = y.number; goes = y.goes; gives = (gathered c.operand.new.out, c.in_ok-operand.ensures, y.gives) }) c.stmts.ensures

pub stmts-stmt-requires : goal.stmts-stmt-requires
stmts-stmt-requires g t c =
    let T = g.A.Mark.span_from in
    let F = g.A.Mark.fits_at in
    let h = c.args.here.now in
    let path = c.args.path.now.steps.items in
    let i = c.loop-of.of-index in
    let x = c.of-item.result in
    let l = c.loop-of in
    λ κs o. (
      limb.falls_item c.args.body.now i x t c.loop-of-test.true c.of-item.is c.decreases,
      (
        o,
        (
          l.invariant.going.known,
          subst (λ (q : List ℕ). StmtReady T F l.here l.after q c.args.at (stmt_of x)) (sym c.in_ok-place.ensures) (body.item_ready T F c.args.number h path c.args.at c.args.body.now (gathered c.args.out.now) i x c.loop-of-test.true c.of-item.is l.after l.here l.step (gathered l.out) l.invariant.going),
        ),
      ),
    )

pub stmts-loop-of-init : goal.stmts-loop-of-init
stmts-loop-of-init g t c =
    let T = g.A.Mark.span_from in
    let F = g.A.Mark.fits_at in
    let h = c.args.here.now in
    let path = c.args.path.now.steps.items in
    record { depth = c.depth-depth.ensures; own = c.own-own.ensures; going = body.going_start T F c.args.number h path c.args.at (stmts_of c.args.body.now) (gathered c.args.out.now) c.args.first c.requires.known c.requires.ready }

pub stmts-loop-of-preserved : goal.stmts-loop-of-preserved
stmts-loop-of-preserved g t c =
    let T = g.A.Mark.span_from in
    let F = g.A.Mark.fits_at in
    let h = c.args.here.now in
    let path = c.args.path.now.steps.items in
    let i = c.loop-of.of-index in
    let x = c.of-item.result in
    let l = c.loop-of in
    record {
      depth = l.invariant.depth;
      own = l.invariant.own;
      going = subst (λ (k : ℕ). body.Going T F c.args.number h path c.args.at (stmts_of c.args.body.now) (gathered c.args.out.now) c.in_ok-after.after c.stmt.new.here k (gathered c.stmt.new.out) (stmts_of (drop (i + 1) c.args.body.now))) (sym c.in_ok-step.ensures)
          (body.item_goes T F c.args.number h path c.args.at c.args.body.now (gathered c.args.out.now) i x c.loop-of-test.true c.of-item.is l.after c.in_ok-after.after l.here c.stmt.new.here l.step (gathered l.out) (gathered c.stmt.new.out) l.invariant.going c.in_ok-after.ensures);
    }

pub stmts-cut_back-requires : goal.stmts-cut_back-requires
stmts-cut_back-requires g t c =
    let l = c.loop-of in
    record { known = l.invariant.going.known; deep = deep_there c.args.here.now l.here c.depth-depth.result c.requires.known l.invariant.going.mapping l.invariant.depth }

pub stmts-returns : goal.stmts-returns
stmts-returns g t c =
    let T = g.A.Mark.span_from in
    let F = g.A.Mark.fits_at in
    let h = c.args.here.now in
    let path = c.args.path.now.steps.items in
    let l = c.loop-of in
    body.list_ends T F c.args.number h path c.args.at c.args.body.now (gathered c.args.out.now) l.of-index c.loop-of-test.false l.after l.here c.cut_back.new.here l.step (gathered l.out) c.depth-depth.result c.own-own.result l.invariant.going l.invariant.depth l.invariant.own c.in_ok-cut_back.ensures

pub head-returns-in_ok-last-in-If : goal.head-returns-in_ok-last-in-If
unfolding stmt_size stmts_size else_size stmt_kind stmt_row held_else
head-returns-in_ok-last-in-If g t c =
    let T = g.A.Mark.span_from in
    let F = g.A.Mark.fits_at in
    let h = c.args.here.now in
    let n = c.args.number in
    let path = c.args.path.now.steps.items in
    let base = c.args.base in
    let m = c.args.of.now.mark in
    let at = c.span-at.result.from in
    let start : at ≡ (T m base).from = ap (λ (z : Span). z.from) c.span-at.ensures in
    let old = gathered c.args.out.now in
    let new = gathered c.branch-alloc.new.out in
    subst (λ (x : statement.Stmt g.row.A.Denot). HeadPasses T F n h path base x (reached.To c.in_ok-last-in-If.last) c.branch-alloc.new.here old new) (sym (ap (stmt_kind m) c.in-If.is ∙ stmt_kind-If _ m c.in-If.test c.in-If.yes c.in-If.no)) (limb.branch_leaves T F h n path base m at start (expr_of c.in-If.test) c.deref.result.now c.in-If.yes.value (else_of c.in-If.no) c.in_ok-last-in-If.last c.branch-alloc.new.here old new c.deref.ensures c.in_ok-last-in-If.ensures)

pub head-returns-in_ok-operand-in-While : goal.head-returns-in_ok-operand-in-While
unfolding stmt_size stmts_size else_size stmt_kind stmt_row held_else
head-returns-in_ok-operand-in-While g t c =
    let T = g.A.Mark.span_from in
    let F = g.A.Mark.fits_at in
    let h = c.args.here.now in
    let n = c.args.number in
    let path = c.args.path.now.steps.items in
    let base = c.args.base in
    let m = c.args.of.now.mark in
    let at = c.span-at.result.from in
    let start : at ≡ (T m base).from = ap (λ (z : Span). z.from) c.span-at.ensures in
    let old = gathered c.args.out.now in
    let new = gathered c.operand.new.out in
    let ready = subst (λ (x : statement.Stmt g.row.A.Denot). StmtReady T F h n path base x) (ap (stmt_kind m) c.in-While.is) c.requires.ready in
    let r = limb.turns_needs T F h n path base m at start (expr_of c.in-While.test) c.deref-in-While.result.now c.in-While.body.value c.deref-in-While.ensures ready in
    subst (λ (x : statement.Stmt g.row.A.Denot). HeadPasses T F n h path base x (reached.To (record { of = c.deref-in-While.result; step = 1; at = at; number = n })) h old new) (sym (ap (stmt_kind m) c.in-While.is)) (limb.loop_leaves T F h n path base m at start (expr_of c.in-While.test) c.deref-in-While.result.now c.in-While.body.value old new c.deref-in-While.ensures c.requires.known c.in_ok-operand-in-While.ensures r.1)

pub stmt-head-requires : goal.stmt-head-requires
stmt-head-requires g t c = λ κs o. (omega (arith, c.decreases), (o, (c.requires.known, c.requires.ready)))

pub stmt-inner-requires : goal.stmt-inner-requires
stmt-inner-requires g t c =
    let x = stmt_of c.args.of.now in
    let y = stmt_of c.in-To.last.of.now in
    let p = subst (λ (r : Reached g.row.A.Denot). HeadPasses g.A.Mark.span_from g.A.Mark.fits_at c.args.number c.args.here.now c.args.path.now.steps.items c.args.base (stmt_of c.args.of.now) r c.head.new.here (gathered c.args.out.now) (gathered c.head.new.out)) c.in-To.is c.in_ok-number.ensures in
    let s = leaving.last_smaller y x p.0 in
    λ κs o. (omega (arith, s, c.decreases), (o, (p.1.goes.known, p.1.ready)))

pub stmt-returns-in-Behind : goal.stmt-returns-in-Behind
stmt-returns-in-Behind g t c = subst (λ (r : Reached g.row.A.Denot). HeadPasses g.A.Mark.span_from g.A.Mark.fits_at c.args.number c.args.here.now c.args.path.now.steps.items c.args.base (stmt_of c.args.of.now) r c.head.new.here (gathered c.args.out.now) (gathered c.head.new.out)) c.in-Behind.is c.in_ok-number.ensures

pub stmt-returns-in-To : goal.stmt-returns-in-To
stmt-returns-in-To g t c =
    let x = stmt_of c.args.of.now in
    let l = c.in-To.last in
    let h = c.args.here.now in
    let T = g.A.Mark.span_from in
    let F = g.A.Mark.fits_at in
    let old = gathered c.args.out.now in
    let path = c.args.path.now.steps.items in
    let p = subst (λ (r : Reached g.row.A.Denot). HeadPasses g.A.Mark.span_from g.A.Mark.fits_at c.args.number c.args.here.now c.args.path.now.steps.items c.args.base (stmt_of c.args.of.now) r c.head.new.here (gathered c.args.out.now) (gathered c.head.new.out)) c.in-To.is c.in_ok-number.ensures in
    IfOk-weaker c.inner.result _ _ (λ k y. leaving.stmt_passes T F h c.args.number c.args.base x old (stmt_of l.of.now) l.number (path ++ l.step ∷ []) l.at c.head.new.here (gathered c.head.new.out) p.0 p.1 k c.inner.new.here (gathered c.inner.new.out) y) c.inner.ensures

pub branch-operand-requires : goal.branch-operand-requires
branch-operand-requires g t c =
    record { known = c.requires.known; ready = c.requires.ready.0 }

pub branch-inner-requires : goal.branch-inner-requires
branch-inner-requires g t c =
    λ κs o. (omega (arith, c.decreases), (o, (c.requires.known, c.requires.ready.1.0)))

pub branch-returns-in-None : goal.branch-returns-in-None
branch-returns-in-None g t c =
    let T = g.A.Mark.span_from in
    let F = g.A.Mark.fits_at in
    let h = c.args.here.now in
    let n = c.args.number in
    let path = c.args.path.now.steps.items in
    let e = expr_of c.args.test.now in
    let x = stmt_of c.args.yes.now in
    let old = gathered c.args.out.now in
    let one = gathered c.operand.new.out in
    subst (λ (o : (Option (Box (Stmt g.row.A.Denot) Global))). BranchPasses T F n h path c.args.at e x (else_of o) (record { of = c.args.yes; step = 1; at = c.args.at; number = n }) h old one) (sym c.in-None.is)
    (leaving.yes_left T F h n path c.args.at e x old one c.requires.known c.in_ok-operand.ensures c.requires.ready.1.0)

pub branch-returns-in_ok-number-in-Some : goal.branch-returns-in_ok-number-in-Some
branch-returns-in_ok-number-in-Some g t c =
    let T = g.A.Mark.span_from in
    let F = g.A.Mark.fits_at in
    let h = c.args.here.now in
    let n = c.args.number in
    let path = c.args.path.now.steps.items in
    let at = c.args.at in
    let e = expr_of c.args.test.now in
    let x = stmt_of c.args.yes.now in
    let old = gathered c.args.out.now in
    let one = gathered c.operand.new.out in
    let two = gathered c.inner.new.out in
    let i = c.inner.new.here in
    let k = c.in_ok-number-in-Some.number in
    let r = subst (λ (o : (Option (Box (Stmt g.row.A.Denot) Global))). ElseReady T F h (n + locals_in x) (path ++ 2 ∷ []) at (else_of o)) c.in-Some.is c.requires.ready.1.1 in
    let left = leaving.no_left T F h n path at e x (stmt_of c.in-Some.no.value) k i old one two c.in_ok-operand.ensures r c.in_ok-number-in-Some.ensures in
    subst (λ (o : (Option (Box (Stmt g.row.A.Denot) Global))). BranchPasses T F n h path at e x (else_of o) (record { of = c.deref.result; step = 2; at = at; number = k }) i old two) (sym c.in-Some.is)
    (subst (λ (y : Stmt g.row.A.Denot). IsLastOf (stmt_of y) x (statement.otherwise (stmt_of c.in-Some.no.value)) × Leaves T F h (n + locals_in x + locals_in_else (statement.otherwise (stmt_of c.in-Some.no.value))) (leaving.Branching T F h n path at e x (statement.otherwise (stmt_of c.in-Some.no.value)) old) (stmt_of y) k (path ++ 2 ∷ []) at i two) (sym c.deref.ensures) left)

pub inner-head-requires : goal.inner-head-requires
inner-head-requires g t c =
    let l = c.loop-place in
    let s = l.invariant.size in
    λ κs o. (omega (arith, s, c.decreases), (o, (l.invariant.left.goes.known, l.invariant.left.ready)))

pub inner-loop-place-init : goal.inner-loop-place-init
inner-loop-place-init g t c =
    let T = g.A.Mark.span_from in
    let F = g.A.Mark.fits_at in
    let h = c.args.here.now in
    record {
      depth = c.depth-depth.ensures;
      own = c.own-own.ensures;
      size = omega arith;
      left = subst (λ (q : List ℕ). Leaves T F h (c.args.number + locals_in (stmt_of c.args.of.now)) (λ new. StmtGathers T h c.args.number c.args.base (stmt_of c.args.of.now) (gathered c.args.out.now) new) (stmt_of c.args.of.now) c.args.number q c.args.base h (gathered c.args.out.now)) (sym c.in_ok-place.ensures)
          (leaving.leaves_all T F h c.args.number (c.args.path.now.steps.items ++ c.args.step ∷ []) c.args.base (stmt_of c.args.of.now) (gathered c.args.out.now) c.requires.known c.requires.ready);
    }

pub inner-loop-place-smaller : goal.inner-loop-place-smaller
inner-loop-place-smaller g t c =
    let l = c.loop-place in
    let p = subst (λ (r : Reached g.row.A.Denot). HeadPasses g.A.Mark.span_from g.A.Mark.fits_at l.number l.here l.place.steps.items l.base (stmt_of l.of.now) r c.head.new.here (gathered l.out) (gathered c.head.new.out)) c.in-To.is c.in_ok-number.ensures in
    leaving.last_smaller (stmt_of c.in-To.last.of.now) (stmt_of l.of.now) p.0

pub inner-loop-place-preserved : goal.inner-loop-place-preserved
inner-loop-place-preserved g t c =
    let T = g.A.Mark.span_from in
    let F = g.A.Mark.fits_at in
    let h = c.args.here.now in
    let n = c.args.number in
    let x = stmt_of c.args.of.now in
    let old = gathered c.args.out.now in
    let l = c.loop-place in
    let to = c.in-To.last in
    let p = subst (λ (r : Reached g.row.A.Denot). HeadPasses T F l.number l.here l.place.steps.items l.base (stmt_of l.of.now) r c.head.new.here (gathered l.out) (gathered c.head.new.out)) c.in-To.is c.in_ok-number.ensures in
    let s = leaving.last_smaller (stmt_of to.of.now) (stmt_of l.of.now) p.0 in
    let fits = l.invariant.size in
    record {
      depth = l.invariant.depth;
      own = l.invariant.own;
      size = omega (arith, s, fits);
      left = subst (λ (q : List ℕ). Leaves T F h (n + locals_in x) (λ new. StmtGathers T h n c.args.base x old new) (stmt_of to.of.now) to.number q to.at c.head.new.here (gathered c.head.new.out)) (sym c.in_ok-push-in-To.ensures.items)
          (leaving.leaves_then T F h (n + locals_in x) (λ new. StmtGathers T h n c.args.base x old new) (stmt_of l.of.now) l.number l.place.steps.items l.base l.here (gathered l.out) l.invariant.left (stmt_of to.of.now) to.number (l.place.steps.items ++ to.step ∷ []) to.at c.head.new.here (gathered c.head.new.out) p.1);
    }

pub inner-cut_back-requires : goal.inner-cut_back-requires
inner-cut_back-requires g t c =
    let T = g.A.Mark.span_from in
    let F = g.A.Mark.fits_at in
    let l = c.loop-place in
    let p = subst (λ (r : Reached g.row.A.Denot). HeadPasses T F l.number l.here l.place.steps.items l.base (stmt_of l.of.now) r c.head.new.here (gathered l.out) (gathered c.head.new.out)) c.in-Behind.is c.in_ok-number.ensures in
    record {
      known = p.goes.known;
      deep = deep_there c.args.here.now c.head.new.here c.depth-depth.result c.requires.known (p.goes.mapping ∙ l.invariant.left.goes.mapping) l.invariant.depth;
    }

pub inner-returns-in-Behind : goal.inner-returns-in-Behind
inner-returns-in-Behind g t c =
    let T = g.A.Mark.span_from in
    let F = g.A.Mark.fits_at in
    let l = c.loop-place in
    let p = subst (λ (r : Reached g.row.A.Denot). HeadPasses T F l.number l.here l.place.steps.items l.base (stmt_of l.of.now) r c.head.new.here (gathered l.out) (gathered c.head.new.out)) c.in-Behind.is c.in_ok-number.ensures in
    leaving.inner_ends T F c.args.here.now c.args.number c.args.base (stmt_of c.args.of.now) (gathered c.args.out.now) (stmt_of l.of.now) l.number l.place.steps.items l.base l.here (gathered l.out) c.depth-depth.result c.own-own.result l.invariant.depth l.invariant.own l.invariant.left c.in-Behind.number c.head.new.here c.cut_back.new.here (gathered c.head.new.out) p c.in_ok-cut_back-in-Behind.ensures
