use Rattle.std.proofs.Common.{◌≡◌, ℕ, length, Some, ap, sym, subst, ◌∙◌}
use Rattle.std.specs.Prelude.{IfOk}
use Rattle.jr_text.specs.declared.spans.Span.{Span}
use Rattle.jr_ast.specs.Marks.{member_mark}
use Rattle.jr_ast.specs.View.{member_of}
use Rattle.jr_ast.proofs.Rows.{member_mark_is}
use Rattle.jr_table.specs.KeyView.{member_key_of}
use Rattle.jr_cover.specs.Sites.{stmt_way}
use Rattle.jr_cfg.specs.MemberRoutes.{known}
use Rattle.jr_cfg.specs.MemberRoutes as member_route
use Rattle.jr_expr_sites.specs.KnownFacts.{Given, known_of, place}
use Rattle.jr_expr_sites.specs.Routes.{begins_by}
use Rattle.jr_piece_sites.specs.Leads.{spots_of}
use Rattle.jr_piece_sites.specs.Pieces as pure
use Rattle.jr_piece_sites.specs.Pieces.{piece_at}
use Rattle.jr_piece_sites.proofs.Fitting.{member_own}
use Rattle.jr_piece_sites.proofs.Leading as leading
use Rattle.jr_piece_sites.proofs.SpottedPaths as spotted_path
use Rattle.jr_piece_sites.proofs.Descents as down
use Rattle.jr_piece_sites.proofs.Growths as growth
use Rattle.jr_effect.specs.Within.{Within}
use Rattle.jr_pieces.specs.Before.{stmt_before}
use Rattle.jr_piece_sites.specs.Fronts.{before}
use Rattle.jr_piece_sites.proofs.WaysDown.{stmt_counts}
use Rattle.jr_piece_sites.proofs.Withins as within
use Rattle.jr_piece_sites.proofs.before.sites_before.Goals as goal

pub span-requires : goal.span-requires
span-requires g c =
    subst (λ (x : g.row.A.Denot). g.A.Mark.fits_at x c.args.base) (member_mark_is c.args.member.now) (member_own g.A.Mark.span_from g.A.Mark.fits_at c.args.base (member_of c.args.member.now) c.requires.fits)

pub count_before-requires : goal.count_before-requires
count_before-requires g c = record { fits = c.requires.fits; start = ap (λ (z : Span). z.from) c.span.ensures; at = c.requires.at }

pub returns-clause-exact : goal.returns-clause-exact
returns-clause-exact g c o numbers x at =
    let T = g.A.Mark.span_from in
    let m = member_of c.args.member.now in
    let base = c.args.base in
    let facts = c.args.facts.now in
    let K = known T c.args.table.now (g.F.Facts.key facts) (g.F.Facts.decls facts) (g.F.Facts.types facts) c.args.never_null.now base m in
    let G : Given = record { rows = c.args.table.now; member = member_key_of c.member.result.now; start = c.span.result.from; decls = g.F.Facts.decls facts; types = g.F.Facts.types facts; never_null = c.args.never_null.now } in
    let start : c.span.result.from ≡ begins_by T (member_mark m) base = ap (λ (z : Span). z.from) c.span.ensures ∙ ap (λ (x : g.row.A.Denot). begins_by T x base) (sym (member_mark_is c.args.member.now)) in
    let same : G ≡ K = (λ i. record { rows = c.args.table.now; member = c.member.ensures i; start = start i; decls = g.F.Facts.decls facts; types = g.F.Facts.types facts; never_null = c.args.never_null.now }) in
    let path = c.args.path.now.steps.items in
    subst (λ (q : Given). IfOk c.count_before.result (λ n. n ≡ before (known_of q o) x path)) same (c.count_before.ensures o numbers x at)

pub returns-clause-of_expression : goal.returns-clause-of_expression
returns-clause-of_expression g c o numbers s at e way is =
    let T = g.A.Mark.span_from in
    let m = member_of c.args.member.now in
    let base = c.args.base in
    let facts = c.args.facts.now in
    let K = known T c.args.table.now (g.F.Facts.key facts) (g.F.Facts.decls facts) (g.F.Facts.types facts) c.args.never_null.now base m in
    let G : Given = record { rows = c.args.table.now; member = member_key_of c.member.result.now; start = c.span.result.from; decls = g.F.Facts.decls facts; types = g.F.Facts.types facts; never_null = c.args.never_null.now } in
    let start : c.span.result.from ≡ begins_by T (member_mark m) base = ap (λ (z : Span). z.from) c.span.ensures ∙ ap (λ (x : g.row.A.Denot). begins_by T x base) (sym (member_mark_is c.args.member.now)) in
    let same : G ≡ K = (λ i. record { rows = c.args.table.now; member = c.member.ensures i; start = start i; decls = g.F.Facts.decls facts; types = g.F.Facts.types facts; never_null = c.args.never_null.now }) in
    let x = leading.stmt_leads (pure.member (spots_of T base m)) (spotted_path.owner T m base c.requires.at.0) c.args.outer.now.steps.items s at in
    subst (λ (q : Given). IfOk c.count_before.result (λ n. n ≡ length (stmt_before (known_of q o) way))) same
    (growth.if_ok_then c.count_before.result (λ n h. h ∙ ap (before (known_of G o) (pure.stmt s)) (sym is) ∙ stmt_counts (known_of G o) s way) (c.count_before.ensures o numbers (pure.stmt s) x))

pub returns-clause-of_statement : goal.returns-clause-of_statement
returns-clause-of_statement g c o numbers s at z there =
    let T = g.A.Mark.span_from in
    let m = member_of c.args.member.now in
    let base = c.args.base in
    let facts = c.args.facts.now in
    let K = known T c.args.table.now (g.F.Facts.key facts) (g.F.Facts.decls facts) (g.F.Facts.types facts) c.args.never_null.now base m in
    let G : Given = record { rows = c.args.table.now; member = member_key_of c.member.result.now; start = c.span.result.from; decls = g.F.Facts.decls facts; types = g.F.Facts.types facts; never_null = c.args.never_null.now } in
    let start : c.span.result.from ≡ begins_by T (member_mark m) base = ap (λ (z : Span). z.from) c.span.ensures ∙ ap (λ (x : g.row.A.Denot). begins_by T x base) (sym (member_mark_is c.args.member.now)) in
    let same : G ≡ K = (λ i. record { rows = c.args.table.now; member = c.member.ensures i; start = start i; decls = g.F.Facts.decls facts; types = g.F.Facts.types facts; never_null = c.args.never_null.now }) in
    let path = c.args.path.now.steps.items in
    let x = leading.stmt_leads (pure.member (spots_of T base m)) (spotted_path.owner T m base c.requires.at.0) c.args.outer.now.steps.items s at in
    let y = leading.stmt_leads (pure.stmt s) tt path z there in
    subst (λ (q : Given). IfOk c.count_before.result (λ n. Within (stmt_way (known_of q o) z) (stmt_way (known_of q o) s) n)) same
    (growth.if_ok_then c.count_before.result (λ n h. subst (λ (k : ℕ). Within (stmt_way (known_of G o) z) (stmt_way (known_of G o) s) k) (sym h) (within.stmt_within (known_of G o) z path s y)) (c.count_before.ensures o numbers (pure.stmt s) x))

pub returns-clause-in_member : goal.returns-clause-in_member
returns-clause-in_member g c o numbers none z there k super_at =
    let T = g.A.Mark.span_from in
    let m = member_of c.args.member.now in
    let base = c.args.base in
    let facts = c.args.facts.now in
    let K = known T c.args.table.now (g.F.Facts.key facts) (g.F.Facts.decls facts) (g.F.Facts.types facts) c.args.never_null.now base m in
    let G : Given = record { rows = c.args.table.now; member = member_key_of c.member.result.now; start = c.span.result.from; decls = g.F.Facts.decls facts; types = g.F.Facts.types facts; never_null = c.args.never_null.now } in
    let start : c.span.result.from ≡ begins_by T (member_mark m) base = ap (λ (z : Span). z.from) c.span.ensures ∙ ap (λ (x : g.row.A.Denot). begins_by T x base) (sym (member_mark_is c.args.member.now)) in
    let same : G ≡ K = (λ i. record { rows = c.args.table.now; member = c.member.ensures i; start = start i; decls = g.F.Facts.decls facts; types = g.F.Facts.types facts; never_null = c.args.never_null.now }) in
    let path = c.args.path.now.steps.items in
    let whole = pure.member (spots_of T base m) in
    let x : piece_at whole c.args.outer.now.steps.items ≡ Some whole = ap (piece_at whole) none ∙ down.step_end whole in
    let y = leading.stmt_leads whole (spotted_path.owner T m base c.requires.at.0) path z there in
    subst (λ (q : Given). IfOk c.count_before.result (λ n. Within (stmt_way (known_of q o) z) (member_route.member T super_at base k m q o) n)) same
    (growth.if_ok_then c.count_before.result (λ n h. subst (λ (j : ℕ). Within (stmt_way (known_of G o) z) (member_route.member T super_at base k m G o) j) (sym h)
    (within.member_within (known_of G o) z path (λ _. k) (λ _. place G (member_route.called_at T super_at base m)) (spots_of T base m) y)) (c.count_before.ensures o numbers whole x))
