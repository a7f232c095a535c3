use Rattle.std.proofs.Common.{◌≡◌, ◌-◌, List, [], map, refl, ap, sym, subst, ◌∙◌}
use Rattle.std.specs.Prelude.{IfOk, IfSome}
use Rattle.std.proofs.lemmas.Option.{none-some, same_Some}
use Rattle.jr_text.specs.declared.spans.Span.{Span}
use Rattle.jr_ast.specs.Nodes as nodes
use Rattle.jr_ast.specs.Marks.{member_mark}
use Rattle.jr_ast.specs.View.{member_of}
use Rattle.jr_ast.proofs.Rows.{member_mark_is}
use Rattle.jr_table.specs.KeyView.{member_key_of}
use Rattle.jr_cover.specs.Spots.{Spot}
use Rattle.jr_cover.specs.Ways.{sites_of}
use Rattle.jr_sites.specs.SiteView.{placed_of}
use Rattle.jr_cfg.specs.Placed.{placed}
use Rattle.jr_cfg.specs.MemberRoutes.{known}
use Rattle.jr_expr_sites.specs.KnownFacts.{Given, known_of}
use Rattle.jr_expr_sites.specs.Routes.{begins_by}
use Rattle.jr_piece_sites.specs.Leads.{spots_of, AreParts, AllStmts}
use Rattle.jr_piece_sites.specs.Pieces as pure
use Rattle.jr_piece_sites.specs.Pieces.{Piece, spotted}
use Rattle.jr_piece_sites.specs.PieceView.{piece_of}
use Rattle.jr_piece_sites.proofs.Fitting.{member_own}
use Rattle.jr_piece_sites.proofs.Leading as leading
use Rattle.jr_piece_sites.proofs.SpottedPaths as spotted_path
use Rattle.jr_piece_sites.proofs.Descents as down
use Rattle.jr_code.specs.RunKeys.{RunKeys}
use Rattle.jr_cover.specs.Sites.{Site, stmts_way}
use Rattle.jr_piece_sites.specs.Descent.{Descended}
use Rattle.jr_piece_sites.specs.PartSites.{parts_sites}
use Rattle.jr_piece_sites.proofs.Putting.{all_there}
use Rattle.jr_piece_sites.proofs.member_footprints.footprint_of.Goals as goal

pub span-requires : goal.span-requires
span-requires g c =
    subst (λ (x : g.row.A.Denot). g.A.Mark.fits_at x c.args.base) (member_mark_is c.args.member.now) (member_own g.A.Mark.span_from g.A.Mark.fits_at c.args.base (member_of c.args.member.now) c.requires.fits)

pub reach-requires : goal.reach-requires
reach-requires g c = record { fits = c.requires.fits; begins = ap (λ (z : Span). z.from) c.span.ensures }

pub unreachable-requires : goal.unreachable-requires
unreachable-requires g c =
    let T = g.A.Mark.span_from in
    let m = member_of c.args.member.now in
    let base = c.args.base in
    let list = c.args.list.now.steps.items in
    let parts = spotted_path.parts_at T m base list c.args.from c.args.to c.requires.at in
    let z = parts.of in
    let leads = parts.leads in
    none-some z (c.in_ok-reached.ensures.none (sym c.in-None.is) ∙ leads)

pub parts_footprint-requires : goal.parts_footprint-requires
parts_footprint-requires g c =
    let T = g.A.Mark.span_from in
    let F = g.A.Mark.fits_at in
    let m = member_of c.args.member.now in
    let base = c.args.base in
    let facts = c.args.facts.now in
    let G : Given = record { rows = c.args.table.now; member = member_key_of c.member.result.now; start = c.span.result.from; decls = g.F.Facts.decls facts; types = g.F.Facts.types facts; never_null = c.args.never_null.now } in
    let start : c.span.result.from ≡ begins_by T (member_mark m) base = ap (λ (z : Span). z.from) c.span.ensures ∙ ap (λ (x : g.row.A.Denot). begins_by T x base) (sym (member_mark_is c.args.member.now)) in
    let list = c.args.list.now.steps.items in
    let parts = spotted_path.parts_at T m base list c.args.from c.args.to c.requires.at in
    let z = parts.of in
    let leads = parts.leads in
    let first = subst (λ r. IfSome r (λ f. Descended T F G 0 base [] (pure.member m) list [] f.number f.base (piece_of f.of) list c.new-passed.result.items c.reach.new.out.items)) c.in-Some.is c.in_ok-reached.ensures.found in
    let f = c.in-Some.found in
    let here = spotted T f.base list (piece_of f.of) in
    let same_piece : here ≡ z = same_Some here z (sym (down.step_end here) ∙ first.leads ∙ leads) in
    let there = subst (λ (q : Piece Spot). AllStmts q c.args.from (c.args.to - c.args.from)) (sym same_piece) parts.all in
    record {
      fits = first.fits;
      start = first.start;
      ordered = spotted_path.ordered m list c.args.from c.args.to c.requires.at;
      all = all_there T (piece_of f.of) f.base list c.args.from (c.args.to - c.args.from) there;
    }

pub returns : goal.returns
returns g c o numbers n at ss is =
    let T = g.A.Mark.span_from in
    let F = g.A.Mark.fits_at in
    let m = member_of c.args.member.now in
    let base = c.args.base in
    let facts = c.args.facts.now in
    let K = known T c.args.table.now (g.F.Facts.key facts) (g.F.Facts.decls facts) (g.F.Facts.types facts) c.args.never_null.now base m in
    let G : Given = record { rows = c.args.table.now; member = member_key_of c.member.result.now; start = c.span.result.from; decls = g.F.Facts.decls facts; types = g.F.Facts.types facts; never_null = c.args.never_null.now } in
    let start : c.span.result.from ≡ begins_by T (member_mark m) base = ap (λ (z : Span). z.from) c.span.ensures ∙ ap (λ (x : g.row.A.Denot). begins_by T x base) (sym (member_mark_is c.args.member.now)) in
    let same : G ≡ K = (λ i. record { rows = c.args.table.now; member = c.member.ensures i; start = start i; decls = g.F.Facts.decls facts; types = g.F.Facts.types facts; never_null = c.args.never_null.now }) in
    let list = c.args.list.now.steps.items in
    let x = pure.member (spots_of T base m) in
    let parts = spotted_path.parts_at T m base list c.args.from c.args.to c.requires.at in
    let z = parts.of in
    let leads = parts.leads in
    let first = subst (λ r. IfSome r (λ f. Descended T F G 0 base [] (pure.member m) list [] f.number f.base (piece_of f.of) list c.new-passed.result.items c.reach.new.out.items)) c.in-Some.is c.in_ok-reached.ensures.found in
    let f = c.in-Some.found in
    let here = spotted T f.base list (piece_of f.of) in
    let same_piece : here ≡ z = same_Some here z (sym (down.step_end here) ∙ first.leads ∙ leads) in
    let count = c.args.to - c.args.from in
    let node : nodes.Node Spot = pure.node_of z in
    let one : node ≡ n = same_Some node n (sym (leading.node_leads list x z leads) ∙ at) in
    let mine = subst (λ (q : nodes.Node Spot). AreParts q c.args.from c.args.to ss) (sym one) is in
    let X = known_of G o in
    let sites : parts_sites X here c.args.from count ≡ sites_of (stmts_way X ss) = ap (λ (q : Piece Spot). parts_sites X q c.args.from count) same_piece ∙ (leading.parts_are X z c.args.from count ss mine.are mine.all).1 in
    subst (λ (q : Given). IfOk c.parts_footprint.result (λ v. map placed_of v.items ≡ map (placed q) (sites_of (stmts_way (known_of q o) ss)))) same
    (subst (λ (l : List (Site RunKeys)). IfOk c.parts_footprint.result (λ v. map placed_of v.items ≡ map (placed G) l)) sites (c.parts_footprint.ensures o (first.numbers o (refl, numbers))))
