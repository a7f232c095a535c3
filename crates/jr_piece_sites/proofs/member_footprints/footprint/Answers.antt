use Rattle.std.proofs.Common.{◌≡◌, ℕ, List, Some, option_map, ap, sym, subst, ◌∙◌}
use Rattle.std.specs.Prelude.{IfOk}
use Rattle.std.proofs.lemmas.Option.{none-some, same_Some}
use Rattle.jr_text.specs.declared.spans.Span.{Span}
use Rattle.jr_ast.specs.Tree as tree
use Rattle.jr_ast.specs.Marks.{member_mark}
use Rattle.jr_ast.specs.View.{member_of, expr_of}
use Rattle.jr_ast.proofs.Rows.{member_mark_is}
use Rattle.jr_table.specs.KeyView.{member_key_of}
use Rattle.jr_cover.specs.Spots.{Spot, spot_exp}
use Rattle.jr_cfg.specs.MemberRoutes.{known}
use Rattle.jr_expr_sites.specs.KnownFacts.{Given}
use Rattle.jr_expr_sites.specs.Routes.{begins_by, ends_by}
use Rattle.jr_piece_sites.specs.Leads.{spots_of}
use Rattle.jr_piece_sites.specs.Pieces as pure
use Rattle.jr_piece_sites.specs.Pieces.{spotted, piece_at}
use Rattle.jr_piece_sites.specs.PieceView.{piece_of}
use Rattle.jr_piece_sites.proofs.Fitting.{member_own}
use Rattle.jr_piece_sites.proofs.Leading as leading
use Rattle.jr_piece_sites.proofs.SpottedPaths as spotted_path
use Rattle.jr_piece_sites.specs.Leads.{of_exp}
use Rattle.jr_piece_sites.specs.Footprints.{IsFootprint}
use Rattle.jr_piece_sites.proofs.member_footprints.footprint.Goals as goal

pub span-requires : goal.span-requires
span-requires g c =
    subst (λ (x : g.row.A.Denot). g.A.Mark.fits_at x c.args.base) (member_mark_is c.args.member.now) (member_own g.A.Mark.span_from g.A.Mark.fits_at c.args.base (member_of c.args.member.now) c.requires.fits)

pub unreachable-requires : goal.unreachable-requires
unreachable-requires g c =
    let T = g.A.Mark.span_from in
    let m = member_of c.args.member.now in
    let base = c.args.base in
    let path = c.args.path.now.steps.items in
    let x = pure.member (spots_of T base m) in
    let at = spotted_path.exp_at T m base path c.requires.at in
    let e = at.0 in
    let leads = at.1 in
    let all = subst (λ (q : List ℕ). option_map (λ p. spotted T p.base q (piece_of p.of)) c.piece_at.result ≡ piece_at x q) c.deref.ensures.value c.piece_at.ensures.spots in
    none-some (pure.exp e) (subst (λ r. option_map (λ p. spotted T p.base path (piece_of p.of)) r ≡ piece_at x path) c.in-None.is all ∙ leads)

pub unreachable-requires-in-Stmt : goal.unreachable-requires-in-Stmt
unreachable-requires-in-Stmt g c =
    let T = g.A.Mark.span_from in
    let m = member_of c.args.member.now in
    let base = c.args.base in
    let path = c.args.path.now.steps.items in
    let x = pure.member (spots_of T base m) in
    let at = spotted_path.exp_at T m base path c.requires.at in
    let e = at.0 in
    let leads = at.1 in
    let f = c.in-Some.found in
    let y = piece_of f.of in
    let all = subst (λ (q : List ℕ). option_map (λ p. spotted T p.base q (piece_of p.of)) c.piece_at.result ≡ piece_at x q) c.deref.ensures.value c.piece_at.ensures.spots in
    let found : Some (spotted T f.base path y) ≡ piece_at x path = subst (λ r. option_map (λ p. spotted T p.base path (piece_of p.of)) r ≡ piece_at x path) c.in-Some.is all in
    let there : spotted T f.base path y ≡ pure.exp e = same_Some (spotted T f.base path y) (pure.exp e) (found ∙ leads) in
    leading.no_stmt _ e (subst (λ k. spotted T f.base path (piece_of k) ≡ pure.exp e) c.in-Stmt.is there)

pub unreachable-requires-in-Member : goal.unreachable-requires-in-Member
unreachable-requires-in-Member g c =
    let T = g.A.Mark.span_from in
    let m = member_of c.args.member.now in
    let base = c.args.base in
    let path = c.args.path.now.steps.items in
    let x = pure.member (spots_of T base m) in
    let at = spotted_path.exp_at T m base path c.requires.at in
    let e = at.0 in
    let leads = at.1 in
    let f = c.in-Some.found in
    let y = piece_of f.of in
    let all = subst (λ (q : List ℕ). option_map (λ p. spotted T p.base q (piece_of p.of)) c.piece_at.result ≡ piece_at x q) c.deref.ensures.value c.piece_at.ensures.spots in
    let found : Some (spotted T f.base path y) ≡ piece_at x path = subst (λ r. option_map (λ p. spotted T p.base path (piece_of p.of)) r ≡ piece_at x path) c.in-Some.is all in
    let there : spotted T f.base path y ≡ pure.exp e = same_Some (spotted T f.base path y) (pure.exp e) (found ∙ leads) in
    leading.no_member _ e (subst (λ k. spotted T f.base path (piece_of k) ≡ pure.exp e) c.in-Member.is there)

pub returns : goal.returns
returns g c o e at =
    let T = g.A.Mark.span_from in
    let m = member_of c.args.member.now in
    let base = c.args.base in
    let facts = c.args.facts.now in
    let K = known T c.args.table.now (g.F.Facts.key facts) (g.F.Facts.decls facts) (g.F.Facts.types facts) c.args.never_null.now base m in
    let G : Given = record { rows = c.args.table.now; member = member_key_of c.member.result.now; start = c.span.result.from; decls = g.F.Facts.decls facts; types = g.F.Facts.types facts; never_null = c.args.never_null.now } in
    let start : c.span.result.from ≡ begins_by T (member_mark m) base = ap (λ (z : Span). z.from) c.span.ensures ∙ ap (λ (x : g.row.A.Denot). begins_by T x base) (sym (member_mark_is c.args.member.now)) in
    let same : G ≡ K = (λ i. record { rows = c.args.table.now; member = c.member.ensures i; start = start i; decls = g.F.Facts.decls facts; types = g.F.Facts.types facts; never_null = c.args.never_null.now }) in
    let path = c.args.path.now.steps.items in
    let x = pure.member (spots_of T base m) in
    let owner = spotted_path.owner T m base c.requires.at.0 in
    let f = c.in-Some.found in
    let y = piece_of f.of in
    let all = subst (λ (q : List ℕ). option_map (λ p. spotted T p.base q (piece_of p.of)) c.piece_at.result ≡ piece_at x q) c.deref.ensures.value c.piece_at.ensures.spots in
    let found : Some (spotted T f.base path y) ≡ piece_at x path = subst (λ r. option_map (λ p. spotted T p.base path (piece_of p.of)) r ≡ piece_at x path) c.in-Some.is all in
    let leads = leading.exp_leads x owner path e at in
    let there : spotted T f.base path y ≡ pure.exp e = same_Some (spotted T f.base path y) (pure.exp e) (found ∙ leads) in
    let own = expr_of c.in-Expr.of.now in
    let d = spot_exp (begins_by T) (ends_by T) own f.base path in
    let one : d ≡ e = leading.one_exp d e (subst (λ k. spotted T f.base path (piece_of k) ≡ pure.exp e) c.in-Expr.is there) in
    subst (λ (q : Given). IfOk c.expr_footprint.result (λ v. IsFootprint q o (of_exp e) v.items)) same
    (subst (λ (b : tree.Exp Spot). IfOk c.expr_footprint.result (λ v. IsFootprint G o (of_exp b) v.items)) one (c.expr_footprint.ensures o))
