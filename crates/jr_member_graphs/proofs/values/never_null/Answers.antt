use Rattle.std.proofs.Common.{◌≡◌, Bool, ap, sym, subst, ◌∙◌}
use Rattle.std.specs.Prelude.{◌↔◌, IsTrue}
use Rattle.jr_text.specs.declared.spans.Span.{Span}
use Rattle.jr_ast.specs.View.{expr_of, member_of}
use Rattle.jr_ast.specs.Marks.{member_mark}
use Rattle.jr_ast.proofs.Rows.{member_mark_is}
use Rattle.jr_table.specs.KeyView.{member_key_of}
use Rattle.jr_expr_sites.specs.KnownFacts.{Given, known_of, is_never_null}
use Rattle.jr_expr_sites.specs.Routes.{begins_by, spots}
use Rattle.jr_member_graphs.specs.MemberLocals.{NeverNullIn}
use Rattle.jr_member_graphs.specs.OwnFlags.{own, spotted}
use Rattle.jr_member_graphs.proofs.MemberFlags.{sites_fit}
use Rattle.jr_member_graphs.proofs.NoNulls.{no_null_in_runs}
use Rattle.jr_member_graphs.proofs.Telling.{own_tells}
use Rattle.jr_member_graphs.proofs.values.never_null.Goals as goal

pub span-requires : goal.span-requires
span-requires g c =
    subst (λ (x : g.row.A.Denot). g.A.Mark.fits_at x c.args.base) (member_mark_is c.args.member.now) (sites_fit g.A.Mark.span_from g.A.Mark.fits_at c.args.base (member_of c.args.member.now) c.requires.fits)

pub is_never_null-requires : goal.is_never_null-requires
is_never_null-requires g c = record { fits = c.requires.fits_value }

pub returns-clause-exact : goal.returns-clause-exact
returns-clause-exact g c o path =
    let T = g.A.Mark.span_from in
    let m = member_of c.args.member.now in
    let base = c.args.base in
    let facts = c.args.facts.now in
    let e = spots T path c.args.at (expr_of c.args.of.now) in
    let K = own T c.args.table.now (g.F.Facts.key facts) (g.F.Facts.decls facts) (g.F.Facts.types facts) base m in
    let G : Given = record { rows = c.args.table.now; member = member_key_of c.member.result.now; start = c.span.result.from; decls = g.F.Facts.decls facts; types = g.F.Facts.types facts; never_null = c.args.flags.now } in
    let start : c.span.result.from ≡ begins_by T (member_mark m) base = ap (λ (z : Span). z.from) c.span.ensures ∙ ap (λ (x : g.row.A.Denot). begins_by T x base) (sym (member_mark_is c.args.member.now)) in
    let same : G ≡ K = (λ i. record { rows = c.args.table.now; member = c.member.ensures i; start = start i; decls = g.F.Facts.decls facts; types = g.F.Facts.types facts; never_null = c.requires.own i }) in
    let told : c.is_never_null.result ≡ is_never_null K e = c.is_never_null.ensures path ∙ ap (λ (x : Given). is_never_null x e) same in
    subst (λ (b : Bool). IsTrue b ↔ NeverNullIn (known_of K o) (spotted T base m) e) (sym told) (own_tells T c.args.table.now (g.F.Facts.key facts) (g.F.Facts.decls facts) (g.F.Facts.types facts) base m o e)

pub returns-clause-runs : goal.returns-clause-runs
returns-clause-runs g c holds path o numbers bound is_bound =
    let T = g.A.Mark.span_from in
    let m = member_of c.args.member.now in
    let facts = c.args.facts.now in
    let e = spots T path c.args.at (expr_of c.args.of.now) in
    let K = own T c.args.table.now (g.F.Facts.key facts) (g.F.Facts.decls facts) (g.F.Facts.types facts) c.args.base m in
    no_null_in_runs T K o c.args.base m numbers bound e ((returns-clause-exact g c o path).0 holds) is_bound
