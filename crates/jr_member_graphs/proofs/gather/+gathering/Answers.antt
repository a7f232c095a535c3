use Rattle.std.proofs.Common.{◌≡◌, List, Option, ap, sym, refl, subst, ◌∙◌, arith}
use Rattle.std.specs.Prelude.{option_map}
use Rattle.std.specs.Global.{Global}
use Rattle.std.specs.declared.boxed.Box.{Box}
use Rattle.jr_text.specs.declared.spans.Span.{Span}
use Rattle.jr_ast.specs.StatementTree as statement
use Rattle.jr_ast.specs.declared.stmts.Stmt.{Stmt}
use Rattle.jr_ast.specs.View.{word_of, expr_of, stmt_of, stmts_of, else_of, stmt_kind, stmt_row, held_else}
use Rattle.jr_ast.proofs.Rows.{stmt_kind-If, stmt_kind-Block, stmt_kind-Sync}
use Rattle.jr_ast.proofs.Sizes.{stmt_size, stmts_size, else_size}
use Rattle.jr_bind_expr.specs.Fits.{FitsStmt, FitsElse}
use Rattle.jr_expr_sites.specs.KnownFacts.{meaning_at}
use Rattle.jr_expr_sites.specs.StepView.{given}
use Rattle.jr_expr_sites.specs.Routes.{begins_by}
use Rattle.jr_expr_sites.proofs.Walking.{on_ok_then}
use Rattle.jr_member_graphs.specs.declared.gather.Last.{Last}
use Rattle.jr_member_graphs.specs.declared.gather.Reached.{Reached}
use Rattle.jr_member_graphs.specs.declared.gather.Reached.TheVariants as reached
use Rattle.jr_member_graphs.specs.Gathering.{HeadGathered, BranchGathered}
use Rattle.jr_member_graphs.specs.Notes.{wrote, exp_locals, maybe_locals, stmts_notes}
use Rattle.jr_member_graphs.specs.NotesView.{notes_in}
use Rattle.jr_member_graphs.proofs.Gathered as gathered
use Rattle.jr_member_graphs.proofs.gather.+gathering.Goals as goal

pub head-span-at-requires : goal.head-span-at-requires
head-span-at-requires g t c = gathered.own_fits_stmt (begins_by g.A.Mark.span_from) g.A.Mark.fits_at c.args.base c.args.of.now c.requires.fits

pub head-local-requires : goal.head-local-requires
unfolding stmt_size stmts_size else_size stmt_kind stmt_row held_else
head-local-requires g t c =
    let T = g.A.Mark.span_from in
    let F = g.A.Mark.fits_at in
    let G = given g.F.Facts.decls g.F.Facts.types c.args.here.now in
    let base = c.args.base in
    let m = c.args.of.now.mark in
    let at = c.span-at.result.from in
    let start : at ≡ (T m base).from = ap (λ (z : Span). z.from) c.span-at.ensures in
    record { fits = gathered.local_fits T F base m at start _ _ (word_of c.in-Local.name) (expr_of c.in-Local.init) (subst (λ (x : statement.Stmt g.row.A.Denot). FitsStmt (begins_by T) F base x) (ap (stmt_kind m) c.in-Local.is) c.requires.fits) }

pub head-gather_expr-requires : goal.head-gather_expr-requires
unfolding stmt_size stmts_size else_size stmt_kind stmt_row held_else
head-gather_expr-requires g t c =
    let T = g.A.Mark.span_from in
    let F = g.A.Mark.fits_at in
    let G = given g.F.Facts.decls g.F.Facts.types c.args.here.now in
    let base = c.args.base in
    let m = c.args.of.now.mark in
    let at = c.span-at.result.from in
    let start : at ≡ (T m base).from = ap (λ (z : Span). z.from) c.span-at.ensures in
    record { fits = gathered.eval_fits T F base m at start (expr_of c.in-Eval.value) (subst (λ (x : statement.Stmt g.row.A.Denot). FitsStmt (begins_by T) F base x) (ap (stmt_kind m) c.in-Eval.is) c.requires.fits) }

pub head-branch-alloc-requires : goal.head-branch-alloc-requires
unfolding stmt_size stmts_size else_size stmt_kind stmt_row held_else
head-branch-alloc-requires g t c =
    let T = g.A.Mark.span_from in
    let F = g.A.Mark.fits_at in
    let G = given g.F.Facts.decls g.F.Facts.types c.args.here.now in
    let base = c.args.base in
    let m = c.args.of.now.mark in
    let at = c.span-at.result.from in
    let start : at ≡ (T m base).from = ap (λ (z : Span). z.from) c.span-at.ensures in
    let p = gathered.branch_fits T F base m at start (expr_of c.in-If.test) c.deref.result.now c.in-If.yes.value (else_of c.in-If.no) c.deref.ensures (subst (λ (x : statement.Stmt g.row.A.Denot). FitsStmt (begins_by T) F base x) (ap (stmt_kind m) c.in-If.is ∙ stmt_kind-If _ m c.in-If.test c.in-If.yes c.in-If.no) c.requires.fits) in
    λ κs o. (gathered.falls_both _ _ _ _ t (ap (λ (x : Stmt g.row.A.Denot). stmt_size (stmt_of x)) c.deref.ensures) (ap stmt_size (ap (stmt_kind m) c.in-If.is ∙ stmt_kind-If _ m c.in-If.test c.in-If.yes c.in-If.no)) c.decreases, (o.0, (o.1, (p.0, (p.1, p.2)))))

pub head-gather_expr-requires-in-While : goal.head-gather_expr-requires-in-While
unfolding stmt_size stmts_size else_size stmt_kind stmt_row held_else
head-gather_expr-requires-in-While g t c =
    let T = g.A.Mark.span_from in
    let F = g.A.Mark.fits_at in
    let G = given g.F.Facts.decls g.F.Facts.types c.args.here.now in
    let base = c.args.base in
    let m = c.args.of.now.mark in
    let at = c.span-at.result.from in
    let start : at ≡ (T m base).from = ap (λ (z : Span). z.from) c.span-at.ensures in
    record { fits = (gathered.loop_fits T F base m at start (expr_of c.in-While.test) c.in-While.body.value c.in-While.body.value refl (subst (λ (x : statement.Stmt g.row.A.Denot). FitsStmt (begins_by T) F base x) (ap (stmt_kind m) c.in-While.is) c.requires.fits)).0 }

pub head-returned-requires : goal.head-returned-requires
unfolding stmt_size stmts_size else_size stmt_kind stmt_row held_else
head-returned-requires g t c =
    let T = g.A.Mark.span_from in
    let F = g.A.Mark.fits_at in
    let G = given g.F.Facts.decls g.F.Facts.types c.args.here.now in
    let base = c.args.base in
    let m = c.args.of.now.mark in
    let at = c.span-at.result.from in
    let start : at ≡ (T m base).from = ap (λ (z : Span). z.from) c.span-at.ensures in
    record { fits = gathered.return_fits T F base m at start (option_map expr_of c.in-Return.value) (subst (λ (x : statement.Stmt g.row.A.Denot). FitsStmt (begins_by T) F base x) (ap (stmt_kind m) c.in-Return.is) c.requires.fits) }

pub head-stmts-requires : goal.head-stmts-requires
unfolding stmt_size stmts_size else_size stmt_kind stmt_row held_else
head-stmts-requires g t c =
    let T = g.A.Mark.span_from in
    let F = g.A.Mark.fits_at in
    let G = given g.F.Facts.decls g.F.Facts.types c.args.here.now in
    let base = c.args.base in
    let m = c.args.of.now.mark in
    let at = c.span-at.result.from in
    let start : at ≡ (T m base).from = ap (λ (z : Span). z.from) c.span-at.ensures in
    let same = c.deref-in-Block.ensures.value in
    λ κs o. (gathered.falls_one _ _ _ 2 t (ap (λ (x : List (Stmt g.row.A.Denot)). stmts_size (stmts_of x)) same) (ap stmt_size (ap (stmt_kind m) c.in-Block.is ∙ stmt_kind-Block _ m c.in-Block.body)) c.decreases (omega arith), (o.0, (o.1, gathered.block_fits T F base m at start c.deref-in-Block.result.now c.in-Block.body.items same (subst (λ (x : statement.Stmt g.row.A.Denot). FitsStmt (begins_by T) F base x) (ap (stmt_kind m) c.in-Block.is ∙ stmt_kind-Block _ m c.in-Block.body) c.requires.fits))))

pub head-sync-requires : goal.head-sync-requires
unfolding stmt_size stmts_size else_size stmt_kind stmt_row held_else
head-sync-requires g t c =
    let T = g.A.Mark.span_from in
    let F = g.A.Mark.fits_at in
    let G = given g.F.Facts.decls g.F.Facts.types c.args.here.now in
    let base = c.args.base in
    let m = c.args.of.now.mark in
    let at = c.span-at.result.from in
    let start : at ≡ (T m base).from = ap (λ (z : Span). z.from) c.span-at.ensures in
    let same = c.deref-in-Sync.ensures.value in
    let p = gathered.sync_fits T F base m at start (expr_of c.in-Sync.object) c.deref-in-Sync.result.now c.in-Sync.body.items same (subst (λ (x : statement.Stmt g.row.A.Denot). FitsStmt (begins_by T) F base x) (ap (stmt_kind m) c.in-Sync.is ∙ stmt_kind-Sync _ m c.in-Sync.object c.in-Sync.body) c.requires.fits) in
    λ κs o. (gathered.falls_one _ _ _ 3 t (ap (λ (x : List (Stmt g.row.A.Denot)). stmts_size (stmts_of x)) same) (ap stmt_size (ap (stmt_kind m) c.in-Sync.is ∙ stmt_kind-Sync _ m c.in-Sync.object c.in-Sync.body)) c.decreases (omega arith), (o.0, (o.1, (p.0, p.1))))

pub head-returns-in_ok-local-in-Local : goal.head-returns-in_ok-local-in-Local
unfolding stmt_size stmts_size else_size stmt_kind stmt_row held_else
head-returns-in_ok-local-in-Local g t c =
    let T = g.A.Mark.span_from in
    let F = g.A.Mark.fits_at in
    let G = given g.F.Facts.decls g.F.Facts.types c.args.here.now in
    let base = c.args.base in
    let m = c.args.of.now.mark in
    let at = c.span-at.result.from in
    let start : at ≡ (T m base).from = ap (λ (z : Span). z.from) c.span-at.ensures in
    let steps = c.args.steps.now.items in
    let begins = c.args.begins.now.items in
    let old = notes_in G.member steps begins in
    let now = notes_in G.member c.local.new.steps.items c.local.new.begins.items in
    subst (λ (x : statement.Stmt g.row.A.Denot). HeadGathered T F (meaning_at G) base x reached.Behind old now) (sym (ap (stmt_kind m) c.in-Local.is))
    (gathered.local_gives T F base m at start (meaning_at G) old now _ _ (word_of c.in-Local.name) (expr_of c.in-Local.init) c.in_ok-local-in-Local.ensures)

pub head-returns-in_ok-gather_expr-in-Eval : goal.head-returns-in_ok-gather_expr-in-Eval
unfolding stmt_size stmts_size else_size stmt_kind stmt_row held_else
head-returns-in_ok-gather_expr-in-Eval g t c =
    let T = g.A.Mark.span_from in
    let F = g.A.Mark.fits_at in
    let G = given g.F.Facts.decls g.F.Facts.types c.args.here.now in
    let base = c.args.base in
    let m = c.args.of.now.mark in
    let at = c.span-at.result.from in
    let start : at ≡ (T m base).from = ap (λ (z : Span). z.from) c.span-at.ensures in
    let steps = c.args.steps.now.items in
    let begins = c.args.begins.now.items in
    let old = notes_in G.member steps begins in
    let now = notes_in G.member c.gather_expr.new.steps.items begins in
    subst (λ (x : statement.Stmt g.row.A.Denot). HeadGathered T F (meaning_at G) base x reached.Behind old now) (sym (ap (stmt_kind m) c.in-Eval.is))
    (gathered.eval_gives T F base m at start (meaning_at G) old now (expr_of c.in-Eval.value) (gathered.wrote_more G.member steps c.gather_expr.new.steps.items begins (exp_locals T (meaning_at G) at (expr_of c.in-Eval.value)) c.in_ok-gather_expr-in-Eval.ensures))

pub head-returns-in_ok-returned-in-Return : goal.head-returns-in_ok-returned-in-Return
unfolding stmt_size stmts_size else_size stmt_kind stmt_row held_else
head-returns-in_ok-returned-in-Return g t c =
    let T = g.A.Mark.span_from in
    let F = g.A.Mark.fits_at in
    let G = given g.F.Facts.decls g.F.Facts.types c.args.here.now in
    let base = c.args.base in
    let m = c.args.of.now.mark in
    let at = c.span-at.result.from in
    let start : at ≡ (T m base).from = ap (λ (z : Span). z.from) c.span-at.ensures in
    let steps = c.args.steps.now.items in
    let begins = c.args.begins.now.items in
    let old = notes_in G.member steps begins in
    let now = notes_in G.member c.returned.new.steps.items begins in
    subst (λ (x : statement.Stmt g.row.A.Denot). HeadGathered T F (meaning_at G) base x reached.Behind old now) (sym (ap (stmt_kind m) c.in-Return.is))
    (gathered.return_gives T F base m at start (meaning_at G) old now (option_map expr_of c.in-Return.value) (gathered.wrote_more G.member steps c.returned.new.steps.items begins (maybe_locals T (meaning_at G) at (option_map expr_of c.in-Return.value)) c.in_ok-returned-in-Return.ensures))

pub head-returns-in_ok-stmts-in-Block : goal.head-returns-in_ok-stmts-in-Block
unfolding stmt_size stmts_size else_size stmt_kind stmt_row held_else
head-returns-in_ok-stmts-in-Block g t c =
    let T = g.A.Mark.span_from in
    let F = g.A.Mark.fits_at in
    let G = given g.F.Facts.decls g.F.Facts.types c.args.here.now in
    let base = c.args.base in
    let m = c.args.of.now.mark in
    let at = c.span-at.result.from in
    let start : at ≡ (T m base).from = ap (λ (z : Span). z.from) c.span-at.ensures in
    let steps = c.args.steps.now.items in
    let begins = c.args.begins.now.items in
    let old = notes_in G.member steps begins in
    let now = notes_in G.member c.stmts.new.steps.items c.stmts.new.begins.items in
    subst (λ (x : statement.Stmt g.row.A.Denot). HeadGathered T F (meaning_at G) base x reached.Behind old now) (sym (ap (stmt_kind m) c.in-Block.is ∙ stmt_kind-Block _ m c.in-Block.body))
    (gathered.block_gives T F base m at start (meaning_at G) old now c.deref-in-Block.result.now c.in-Block.body.items c.deref-in-Block.ensures.value c.in_ok-stmts-in-Block.ensures)

pub head-returns-in_ok-sync-in-Sync : goal.head-returns-in_ok-sync-in-Sync
unfolding stmt_size stmts_size else_size stmt_kind stmt_row held_else
head-returns-in_ok-sync-in-Sync g t c =
    let T = g.A.Mark.span_from in
    let F = g.A.Mark.fits_at in
    let G = given g.F.Facts.decls g.F.Facts.types c.args.here.now in
    let base = c.args.base in
    let m = c.args.of.now.mark in
    let at = c.span-at.result.from in
    let start : at ≡ (T m base).from = ap (λ (z : Span). z.from) c.span-at.ensures in
    let steps = c.args.steps.now.items in
    let begins = c.args.begins.now.items in
    let old = notes_in G.member steps begins in
    let now = notes_in G.member c.sync.new.steps.items c.sync.new.begins.items in
    subst (λ (x : statement.Stmt g.row.A.Denot). HeadGathered T F (meaning_at G) base x reached.Behind old now) (sym (ap (stmt_kind m) c.in-Sync.is ∙ stmt_kind-Sync _ m c.in-Sync.object c.in-Sync.body))
    (gathered.sync_gives T F base m at start (meaning_at G) old now (expr_of c.in-Sync.object) c.deref-in-Sync.result.now c.in-Sync.body.items c.deref-in-Sync.ensures.value c.in_ok-sync-in-Sync.ensures)

pub head-returns-in-Empty : goal.head-returns-in-Empty
unfolding stmt_size stmts_size else_size stmt_kind stmt_row held_else
head-returns-in-Empty g t c =
    let T = g.A.Mark.span_from in
    let F = g.A.Mark.fits_at in
    let G = given g.F.Facts.decls g.F.Facts.types c.args.here.now in
    let base = c.args.base in
    let m = c.args.of.now.mark in
    let at = c.span-at.result.from in
    let start : at ≡ (T m base).from = ap (λ (z : Span). z.from) c.span-at.ensures in
    let steps = c.args.steps.now.items in
    let begins = c.args.begins.now.items in
    let old = notes_in G.member steps begins in
    let now = old in
    subst (λ (x : statement.Stmt g.row.A.Denot). HeadGathered T F (meaning_at G) base x reached.Behind old now) (sym (ap (stmt_kind m) c.in-Empty.is))
    (gathered.empty_gives T F base m at start (meaning_at G) old now refl)

pub head-returns-in_ok-last-in-If : goal.head-returns-in_ok-last-in-If
unfolding stmt_size stmts_size else_size stmt_kind stmt_row held_else
head-returns-in_ok-last-in-If g t c =
    let T = g.A.Mark.span_from in
    let F = g.A.Mark.fits_at in
    let G = given g.F.Facts.decls g.F.Facts.types c.args.here.now in
    let base = c.args.base in
    let m = c.args.of.now.mark in
    let at = c.span-at.result.from in
    let start : at ≡ (T m base).from = ap (λ (z : Span). z.from) c.span-at.ensures in
    let steps = c.args.steps.now.items in
    let begins = c.args.begins.now.items in
    let old = notes_in G.member steps begins in
    let now = notes_in G.member c.branch-alloc.new.steps.items c.branch-alloc.new.begins.items in
    let l = c.in_ok-last-in-If.last in
    subst (λ (x : statement.Stmt g.row.A.Denot). HeadGathered T F (meaning_at G) base x (reached.To l) old now) (sym (ap (stmt_kind m) c.in-If.is ∙ stmt_kind-If _ m c.in-If.test c.in-If.yes c.in-If.no))
    (gathered.branch_reaches T F base m at start (meaning_at G) old now (expr_of c.in-If.test) c.deref.result.now c.in-If.yes.value (else_of c.in-If.no) l c.deref.ensures c.in_ok-last-in-If.ensures)

pub head-returns-in_ok-gather_expr-in-While : goal.head-returns-in_ok-gather_expr-in-While
unfolding stmt_size stmts_size else_size stmt_kind stmt_row held_else
head-returns-in_ok-gather_expr-in-While g t c =
    let T = g.A.Mark.span_from in
    let F = g.A.Mark.fits_at in
    let G = given g.F.Facts.decls g.F.Facts.types c.args.here.now in
    let base = c.args.base in
    let m = c.args.of.now.mark in
    let at = c.span-at.result.from in
    let start : at ≡ (T m base).from = ap (λ (z : Span). z.from) c.span-at.ensures in
    let steps = c.args.steps.now.items in
    let begins = c.args.begins.now.items in
    let old = notes_in G.member steps begins in
    let more = c.gather_expr-in-While.new.steps.items in
    let now = notes_in G.member more begins in
    let l : Last g.row.A.Denot = record { of = c.deref-in-While.result; at = at } in
    let fits = (gathered.loop_fits T F base m at start (expr_of c.in-While.test) c.in-While.body.value c.in-While.body.value refl (subst (λ (x : statement.Stmt g.row.A.Denot). FitsStmt (begins_by T) F base x) (ap (stmt_kind m) c.in-While.is) c.requires.fits)).1 in
    subst (λ (x : statement.Stmt g.row.A.Denot). HeadGathered T F (meaning_at G) base x (reached.To l) old now) (sym (ap (stmt_kind m) c.in-While.is))
    (gathered.loop_reaches T F base m at start (meaning_at G) old now (expr_of c.in-While.test) l c.in-While.body.value c.deref-in-While.ensures refl fits
    (gathered.wrote_more G.member steps more begins (exp_locals T (meaning_at G) at (expr_of c.in-While.test)) c.in_ok-gather_expr-in-While.ensures))

pub branch-gather_expr-requires : goal.branch-gather_expr-requires
branch-gather_expr-requires g t c = record { fits = c.requires.fits }

pub branch-stmt-requires : goal.branch-stmt-requires
branch-stmt-requires g t c = λ κs o. (omega (arith, c.decreases), (o.0, (o.1, c.requires.fits_yes)))

pub branch-returns-in-None : goal.branch-returns-in-None
branch-returns-in-None g t c =
    let T = g.A.Mark.span_from in
    let F = g.A.Mark.fits_at in
    let G = given g.F.Facts.decls g.F.Facts.types c.args.here.now in
    let M = meaning_at G in
    let at = c.args.at in
    let e = expr_of c.args.test.now in
    let x = stmt_of c.args.yes.now in
    let begins = c.args.begins.now.items in
    let old = notes_in G.member c.args.steps.now.items begins in
    let more = c.gather_expr.new.steps.items in
    let one = notes_in G.member more begins in
    let test = gathered.wrote_more G.member c.args.steps.now.items more begins (exp_locals T M at e) c.in_ok-gather_expr.ensures in
    subst (λ (o : (Option (Box (Stmt g.row.A.Denot) Global))). BranchGathered T F M at e x (else_of o) (record { of = c.args.yes; at = at }) old one) (sym c.in-None.is)
    (gathered.yes_left T F M at e x old one test c.requires.fits_yes)

pub branch-returns-in_ok-stmt-in-Some : goal.branch-returns-in_ok-stmt-in-Some
branch-returns-in_ok-stmt-in-Some g t c =
    let T = g.A.Mark.span_from in
    let F = g.A.Mark.fits_at in
    let G = given g.F.Facts.decls g.F.Facts.types c.args.here.now in
    let M = meaning_at G in
    let at = c.args.at in
    let e = expr_of c.args.test.now in
    let x = stmt_of c.args.yes.now in
    let begins = c.args.begins.now.items in
    let old = notes_in G.member c.args.steps.now.items begins in
    let more = c.gather_expr.new.steps.items in
    let one = notes_in G.member more begins in
    let two = notes_in G.member c.stmt.new.steps.items c.stmt.new.begins.items in
    let test = gathered.wrote_more G.member c.args.steps.now.items more begins (exp_locals T M at e) c.in_ok-gather_expr.ensures in
    let z = stmt_of c.in-Some.no.value in
    let fits = subst (λ (o : (Option (Box (Stmt g.row.A.Denot) Global))). FitsElse (begins_by T) F at (else_of o)) c.in-Some.is c.requires.fits_no in
    let left = gathered.no_left T F M at e x old one test z two fits c.in_ok-stmt-in-Some.ensures in
    subst (λ (o : (Option (Box (Stmt g.row.A.Denot) Global))). BranchGathered T F M at e x (else_of o) (record { of = c.deref.result; at = at }) old two) (sym c.in-Some.is)
    (subst (λ (y : Stmt g.row.A.Denot). gathered.LeavesOf T F M at e x old one test (statement.otherwise z) two (stmt_of y)) (sym c.deref.ensures) left)

pub sync-gather_expr-requires : goal.sync-gather_expr-requires
sync-gather_expr-requires g t c = record { fits = c.requires.fits }

pub sync-stmts-requires : goal.sync-stmts-requires
sync-stmts-requires g t c = λ κs o. (omega (arith, c.decreases), (o.0, (o.1, c.requires.fits_body)))

pub sync-returns : goal.sync-returns
sync-returns g t c =
    let T = g.A.Mark.span_from in
    let G = given g.F.Facts.decls g.F.Facts.types c.args.here.now in
    let M = meaning_at G in
    let at = c.args.at in
    let e = expr_of c.args.object.now in
    let begins = c.args.begins.now.items in
    let old = notes_in G.member c.args.steps.now.items begins in
    let more = c.gather_expr.new.steps.items in
    let test = gathered.wrote_more G.member c.args.steps.now.items more begins (exp_locals T M at e) c.in_ok-gather_expr.ensures in
    on_ok_then c.stmts.result (λ h. gathered.then_more old (notes_in G.member more begins) (notes_in G.member c.stmts.new.steps.items c.stmts.new.begins.items) (wrote (exp_locals T M at e)) (stmts_notes T M at (stmts_of c.args.body.now)) test h) c.stmts.ensures

pub stmt-head-requires : goal.stmt-head-requires
stmt-head-requires g t c =
    let l = c.loop-reached in
    let s = l.invariant.size in
    λ κs o. (omega (arith, s, c.decreases), (o.0, (o.1, l.invariant.left.fits)))

pub stmt-loop-reached-init : goal.stmt-loop-reached-init
stmt-loop-reached-init g t c = record { size = omega arith; left = record { fits = c.requires.fits; notes = refl } }

pub stmt-loop-reached-smaller : goal.stmt-loop-reached-smaller
stmt-loop-reached-smaller g t c =
    let T = g.A.Mark.span_from in
    let F = g.A.Mark.fits_at in
    let G = given g.F.Facts.decls g.F.Facts.types c.args.here.now in
    let l = c.loop-reached in
    let old = notes_in G.member l.steps.items l.begins.items in
    let now = notes_in G.member c.head.new.steps.items c.head.new.begins.items in
    let p = subst (λ (r : Reached g.row.A.Denot). HeadGathered T F (meaning_at G) l.base (stmt_of l.of.now) r old now) c.in-To.is c.in_ok-reached.ensures in
    gathered.last_smaller T (stmt_of c.in-To.last.of.now) (stmt_of l.of.now) p.0

pub stmt-loop-reached-preserved : goal.stmt-loop-reached-preserved
stmt-loop-reached-preserved g t c =
    let T = g.A.Mark.span_from in
    let F = g.A.Mark.fits_at in
    let G = given g.F.Facts.decls g.F.Facts.types c.args.here.now in
    let l = c.loop-reached in
    let old = notes_in G.member l.steps.items l.begins.items in
    let now = notes_in G.member c.head.new.steps.items c.head.new.begins.items in
    let p = subst (λ (r : Reached g.row.A.Denot). HeadGathered T F (meaning_at G) l.base (stmt_of l.of.now) r old now) c.in-To.is c.in_ok-reached.ensures in
    let s = gathered.last_smaller T (stmt_of c.in-To.last.of.now) (stmt_of l.of.now) p.0 in
    let size = l.invariant.size in
    record { size = omega (arith, s, size); left = record { fits = p.1.fits; notes = p.1.notes ∙ l.invariant.left.notes } }

pub stmt-returns-in-Behind : goal.stmt-returns-in-Behind
stmt-returns-in-Behind g t c =
    let T = g.A.Mark.span_from in
    let F = g.A.Mark.fits_at in
    let G = given g.F.Facts.decls g.F.Facts.types c.args.here.now in
    let l = c.loop-reached in
    let old = notes_in G.member l.steps.items l.begins.items in
    let now = notes_in G.member c.head.new.steps.items c.head.new.begins.items in
    let p = subst (λ (r : Reached g.row.A.Denot). HeadGathered T F (meaning_at G) l.base (stmt_of l.of.now) r old now) c.in-Behind.is c.in_ok-reached.ensures in
    p ∙ l.invariant.left.notes

pub stmts-stmt-requires : goal.stmts-stmt-requires
stmts-stmt-requires g t c =
    let T = g.A.Mark.span_from in
    let F = g.A.Mark.fits_at in
    let G = given g.F.Facts.decls g.F.Facts.types c.args.here.now in
    let body = c.args.body.now in
    let l = c.loop-of in
    let i = l.of-index in
    let x = c.of-item.result in
    λ κs o. (gathered.falls_item body i x t c.loop-of-test.true c.of-item.is c.decreases, (o.0, (o.1, (gathered.item_fits T F (meaning_at G) c.args.at body i x c.loop-of-test.true c.of-item.is l.invariant.fits).0)))

pub stmts-loop-of-init : goal.stmts-loop-of-init
stmts-loop-of-init g t c = record { fits = c.requires.fits; notes = refl }

pub stmts-loop-of-preserved : goal.stmts-loop-of-preserved
stmts-loop-of-preserved g t c =
    let T = g.A.Mark.span_from in
    let F = g.A.Mark.fits_at in
    let G = given g.F.Facts.decls g.F.Facts.types c.args.here.now in
    let l = c.loop-of in
    gathered.going_more T F (meaning_at G) c.args.at c.args.body.now (notes_in G.member c.args.steps.now.items c.args.begins.now.items) (notes_in G.member l.steps.items l.begins.items) (notes_in G.member c.stmt.new.steps.items c.stmt.new.begins.items)
    l.of-index c.of-item.result c.loop-of-test.true c.of-item.is l.invariant c.in_ok-stmt.ensures

pub stmts-returns : goal.stmts-returns
stmts-returns g t c =
    let T = g.A.Mark.span_from in
    let F = g.A.Mark.fits_at in
    let G = given g.F.Facts.decls g.F.Facts.types c.args.here.now in
    let l = c.loop-of in
    gathered.going_done T F (meaning_at G) c.args.at c.args.body.now (notes_in G.member c.args.steps.now.items c.args.begins.now.items) (notes_in G.member l.steps.items l.begins.items) l.of-index c.loop-of-test.false l.invariant
