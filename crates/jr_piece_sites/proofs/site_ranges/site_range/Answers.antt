use Rattle.std.proofs.Common.{◌≡◌, ℕ, ◌+◌, Option, ap, sym, subst, ◌∙◌}
use Rattle.std.specs.Prelude.{IfOk, option_and_then}
use Rattle.jr_text.specs.declared.spans.Span.{Span}
use Rattle.jr_ast.specs.Marks.{member_mark}
use Rattle.jr_ast.specs.View.{member_of}
use Rattle.jr_ast.proofs.Rows.{member_mark_is}
use Rattle.jr_table.specs.KeyView.{member_key_of}
use Rattle.jr_cover.specs.Spots.{Spot}
use Rattle.jr_cover.specs.Sites.{exp_way, stmt_way}
use Rattle.jr_cover.specs.Ways.{sites_of}
use Rattle.jr_cfg.specs.MemberRoutes.{known}
use Rattle.jr_cfg.specs.MemberRoutes as member_route
use Rattle.jr_expr_sites.specs.KnownFacts.{Given, known_of, place}
use Rattle.jr_expr_sites.specs.Routes.{begins_by}
use Rattle.jr_pieces.specs.Before.{StmtEvaluated}
use Rattle.jr_piece_sites.specs.Extents.{HasRange, piece_size}
use Rattle.jr_piece_sites.specs.Fronts.{before}
use Rattle.jr_piece_sites.specs.Leads.{spots_of}
use Rattle.jr_piece_sites.specs.Pieces as pure
use Rattle.jr_piece_sites.specs.Pieces.{Piece, piece_at}
use Rattle.jr_piece_sites.proofs.Descents.{through}
use Rattle.jr_piece_sites.proofs.Fitting.{member_own}
use Rattle.jr_piece_sites.proofs.Growths.{if_ok_then}
use Rattle.jr_piece_sites.proofs.Leading as leading
use Rattle.jr_piece_sites.proofs.SpottedPaths as spotted_path
use Rattle.jr_piece_sites.proofs.Standings.{expression_has, within_has}
use Rattle.jr_piece_sites.proofs.WayPaths as way_path
use Rattle.jr_piece_sites.proofs.WaysDown.{stmt_counts}
use Rattle.jr_piece_sites.proofs.Withins.{member_within}
use Rattle.jr_piece_sites.proofs.site_ranges.site_range.Goals as goal

pub span-requires : goal.span-requires
span-requires g c =
    subst (λ (x : g.row.A.Denot). g.A.Mark.fits_at x c.args.base) (member_mark_is c.args.member.now) (member_own g.A.Mark.span_from g.A.Mark.fits_at c.args.base (member_of c.args.member.now) c.requires.fits)

pub range_at-requires : goal.range_at-requires
range_at-requires g c = record { fits = c.requires.fits; start = ap (λ (z : Span). z.from) c.span.ensures; at = c.requires.at }

pub returns-clause-exact : goal.returns-clause-exact
returns-clause-exact g c o numbers x there =
    let T = g.A.Mark.span_from in
    let m = member_of c.args.member.now in
    let base = c.args.base in
    let facts = c.args.facts.now in
    let K = known T c.args.table.now (g.F.Facts.key facts) (g.F.Facts.decls facts) (g.F.Facts.types facts) c.args.never_null.now base m in
    let G : Given = record { rows = c.args.table.now; member = member_key_of c.member.result.now; start = c.span.result.from; decls = g.F.Facts.decls facts; types = g.F.Facts.types facts; never_null = c.args.never_null.now } in
    let start : c.span.result.from ≡ begins_by T (member_mark m) base = ap (λ (z : Span). z.from) c.span.ensures ∙ ap (λ (x : g.row.A.Denot). begins_by T x base) (sym (member_mark_is c.args.member.now)) in
    let same : G ≡ K = (λ i. record { rows = c.args.table.now; member = c.member.ensures i; start = start i; decls = g.F.Facts.decls facts; types = g.F.Facts.types facts; never_null = c.args.never_null.now }) in
    let whole = pure.member (spots_of T base m) in
    subst (λ (q : Given). IfOk c.range_at.result (λ r. (r.from ≡ before (known_of q o) whole c.args.path.now.steps.items) × (r.to ≡ r.from + piece_size (known_of q o) x))) same
    (c.range_at.ensures o numbers x there)

pub returns-clause-of_statement : goal.returns-clause-of_statement
returns-clause-of_statement g c o numbers z there k super_at =
    let T = g.A.Mark.span_from in
    let m = member_of c.args.member.now in
    let base = c.args.base in
    let facts = c.args.facts.now in
    let K = known T c.args.table.now (g.F.Facts.key facts) (g.F.Facts.decls facts) (g.F.Facts.types facts) c.args.never_null.now base m in
    let G : Given = record { rows = c.args.table.now; member = member_key_of c.member.result.now; start = c.span.result.from; decls = g.F.Facts.decls facts; types = g.F.Facts.types facts; never_null = c.args.never_null.now } in
    let start : c.span.result.from ≡ begins_by T (member_mark m) base = ap (λ (z : Span). z.from) c.span.ensures ∙ ap (λ (x : g.row.A.Denot). begins_by T x base) (sym (member_mark_is c.args.member.now)) in
    let same : G ≡ K = (λ i. record { rows = c.args.table.now; member = c.member.ensures i; start = start i; decls = g.F.Facts.decls facts; types = g.F.Facts.types facts; never_null = c.args.never_null.now }) in
    let whole = pure.member (spots_of T base m) in
    let path = c.args.path.now.steps.items in
    let X = known_of G o in
    let w = λ (q : Given). member_route.member T super_at base k m q o in
    let y = leading.stmt_leads whole (spotted_path.owner T m base c.requires.at.0) path z there in
    let at = member_within X z path (λ _. k) (λ _. place G (member_route.called_at T super_at base m)) (spots_of T base m) y in
    subst (λ (q : Given). IfOk c.range_at.result (λ r. HasRange (sites_of (w q)) (sites_of (stmt_way (known_of q o) z)) r.from r.to)) same
    (if_ok_then c.range_at.result (λ r h. within_has (stmt_way X z) (w G) (before X whole path) r.from r.to at h.0 h.1) (c.range_at.ensures o numbers (pure.stmt z) y))

pub returns-clause-of_expression : goal.returns-clause-of_expression
returns-clause-of_expression g c o numbers outer rest is s there e way goes evaluated k super_at =
    let T = g.A.Mark.span_from in
    let m = member_of c.args.member.now in
    let base = c.args.base in
    let facts = c.args.facts.now in
    let K = known T c.args.table.now (g.F.Facts.key facts) (g.F.Facts.decls facts) (g.F.Facts.types facts) c.args.never_null.now base m in
    let G : Given = record { rows = c.args.table.now; member = member_key_of c.member.result.now; start = c.span.result.from; decls = g.F.Facts.decls facts; types = g.F.Facts.types facts; never_null = c.args.never_null.now } in
    let start : c.span.result.from ≡ begins_by T (member_mark m) base = ap (λ (z : Span). z.from) c.span.ensures ∙ ap (λ (x : g.row.A.Denot). begins_by T x base) (sym (member_mark_is c.args.member.now)) in
    let same : G ≡ K = (λ i. record { rows = c.args.table.now; member = c.member.ensures i; start = start i; decls = g.F.Facts.decls facts; types = g.F.Facts.types facts; never_null = c.args.never_null.now }) in
    let whole = pure.member (spots_of T base m) in
    let X = known_of G o in
    let w = λ (q : Given). member_route.member T super_at base k m q o in
    let back = subst (λ (q : Given). StmtEvaluated (known_of q o) way) (sym same) evaluated in
    let y = leading.stmt_leads whole (spotted_path.owner T m base c.requires.at.0) outer s there in
    let at = member_within X s outer (λ _. k) (λ _. place G (member_route.called_at T super_at base m)) (spots_of T base m) y in
    let on = λ (p : Option (Piece Spot)). option_and_then (λ (x : Piece Spot). piece_at x rest) p in
    let found = ap (piece_at whole) is ∙ through outer rest whole ∙ ap on y ∙ ap (piece_at (pure.stmt s)) (sym goes) ∙ way_path.stmt_leads e s way in
    let front = ap (before X whole) is ∙ way_path.both_paths X outer rest whole (pure.stmt s) y
    ∙ ap (λ (n : ℕ). before X whole outer + n) (ap (before X (pure.stmt s)) (sym goes) ∙ stmt_counts X s way) in
    subst (λ (q : Given). IfOk c.range_at.result (λ r. HasRange (sites_of (w q)) (sites_of (exp_way (known_of q o) e)) r.from r.to)) same
    (if_ok_then c.range_at.result (λ r h. expression_has X s way back (w G) (before X whole outer) r.from r.to at (h.0 ∙ front) h.1) (c.range_at.ensures o numbers (pure.exp e) found))
