use Rattle.std.proofs.Common.{ℕ, ◌+◌, List, [], ◌∷◌, ◌++◌, ap, sym, subst}
use Rattle.jr_ast.specs.View.{expr_of, stmt_of}
use Rattle.jr_cover.specs.Spots.{spot_stmt}
use Rattle.jr_cover.specs.Ways.{size}
use Rattle.jr_expr_sites.specs.StepView.{given}
use Rattle.jr_expr_sites.specs.KnownFacts.{Others, known_of}
use Rattle.jr_expr_sites.specs.Routes.{begins_by, ends_by, spots}
use Rattle.jr_expr_sites.specs.Routes as route
use Rattle.jr_cfg.specs.StatementRoutes as list
use Rattle.jr_piece_sites.proofs.Counting as counting
use Rattle.jr_table.specs.Context.{locals_in}
use Rattle.jr_cfg.specs.StatementRoutes.{Passed, Numbered}
use Rattle.jr_piece_sites.specs.Fronts.{branch_front}
use Rattle.jr_piece_sites.specs.Pieces.{branch_locals}
use Rattle.jr_piece_sites.proofs.Growths as growth
use Rattle.jr_piece_sites.proofs.stmt_fronts.branch_front.Goals as goal

pub operand-requires : goal.operand-requires
operand-requires g c = record { fits = c.requires.fits }

pub stmt-requires : goal.stmt-requires
stmt-requires g c = record { fits = c.requires.fits_yes }

pub returns-then-part-eq0 : goal.returns-then-part-eq0
returns-then-part-eq0 g c =
    let T = g.A.Mark.span_from in
    let G = given g.F.Facts.decls g.F.Facts.types c.args.here.now in
    let path = c.args.path.now.steps.items in
    let old = c.args.out.now.items in
    let at = c.args.at in
    let n = c.args.number in
    let i = c.args.part in
    let test = expr_of c.args.test.now in
    let yes = stmt_of c.args.yes.now in
    let so = Numbered T n (path ++ 1 ∷ []) at yes in
    let whole = λ (j : ℕ) (o : Others). branch_front (known_of G o) (spots T (path ++ 0 ∷ []) at test) (spot_stmt (begins_by T) (ends_by T) yes at (path ++ 1 ∷ [])) j in
    growth.to_as G so so (λ o. 0) (whole i) n (n + branch_locals yes i) n old old (λ o h. h) (λ o. ap (λ (j : ℕ). whole j o) (sym c.if-part-eq0.true)) (growth.no_locals_0 yes n i c.if-part-eq0.true) (growth.not_moved G so n old)

pub returns-then-part-eq1 : goal.returns-then-part-eq1
returns-then-part-eq1 g c =
    let T = g.A.Mark.span_from in
    let G = given g.F.Facts.decls g.F.Facts.types c.args.here.now in
    let path = c.args.path.now.steps.items in
    let old = c.args.out.now.items in
    let at = c.args.at in
    let n = c.args.number in
    let i = c.args.part in
    let test = expr_of c.args.test.now in
    let yes = stmt_of c.args.yes.now in
    let so = Numbered T n (path ++ 1 ∷ []) at yes in
    let w = λ (o : Others). size (route.exp T (path ++ 0 ∷ []) at test G o) in
    let whole = λ (j : ℕ) (o : Others). branch_front (known_of G o) (spots T (path ++ 0 ∷ []) at test) (spot_stmt (begins_by T) (ends_by T) yes at (path ++ 1 ∷ [])) j in
    let new = c.operand.new.out.items in
    growth.to_as G so so w (whole i) n (n + branch_locals yes i) n old new (λ o h. h) (λ o. ap (λ (j : ℕ). whole j o) (sym c.if-part-eq1.true)) (growth.no_locals_1 yes n i c.if-part-eq1.true)
    (growth.walked_to G so w n old new (counting.walk_grows G (route.exp T (path ++ 0 ∷ []) at test) old new c.in_ok-operand.ensures))

pub returns : goal.returns
returns g c =
    let T = g.A.Mark.span_from in
    let G = given g.F.Facts.decls g.F.Facts.types c.args.here.now in
    let path = c.args.path.now.steps.items in
    let old = c.args.out.now.items in
    let at = c.args.at in
    let n = c.args.number in
    let i = c.args.part in
    let test = expr_of c.args.test.now in
    let yes = stmt_of c.args.yes.now in
    let so = Numbered T n (path ++ 1 ∷ []) at yes in
    let w = λ (o : Others). size (route.exp T (path ++ 0 ∷ []) at test G o) in
    let whole = λ (j : ℕ) (o : Others). branch_front (known_of G o) (spots T (path ++ 0 ∷ []) at test) (spot_stmt (begins_by T) (ends_by T) yes at (path ++ 1 ∷ [])) j in
    let mid = c.operand.new.out.items in
    let new = c.stmt.new.out.items in
    let passed = λ (q : List ℕ) (k : ℕ). Passed G (Numbered T n q at yes) (list.stmt T q at yes) (n + locals_in yes) k mid new in
    growth.if_ok_then c.stmt.result (λ k p. growth.to_as G so so (λ o. w o + size (list.stmt T (path ++ 1 ∷ []) at yes G o)) (whole i) (n + locals_in yes) (n + branch_locals yes i) k old new (λ o h. h)
    (λ o. growth.branch_more (known_of G o) (spots T (path ++ 0 ∷ []) at test) (spot_stmt (begins_by T) (ends_by T) yes at (path ++ 1 ∷ [])) i c.if-part-eq0.false c.if-part-eq1.false) (growth.more_locals yes n i c.if-part-eq0.false c.if-part-eq1.false)
    (growth.after_walk G so w (λ o. size (list.stmt T (path ++ 1 ∷ []) at yes G o)) (n + locals_in yes) k old mid new (counting.walk_grows G (route.exp T (path ++ 0 ∷ []) at test) old mid c.in_ok-operand.ensures)
    (growth.passed_to G so (list.stmt T (path ++ 1 ∷ []) at yes) (n + locals_in yes) k mid new (subst (λ (q : List ℕ). passed q k) c.in_ok-place.ensures p)))) c.stmt.ensures
