use Rattle.std.proofs.Common.{◌≡◌, sym, ap, subst}
use Rattle.jr_table.specs.KeyView.{local_key_of}
use Rattle.jr_table.specs.Decls.{LocalKey, MemberKey, local_decl}
use Rattle.jr_table.specs.Found.{one}
use Rattle.jr_scopes.specs.Helds.{key_of}
use Rattle.jr_bind_expr.specs.Places.{context_of, member_of}
use Rattle.jr_bind_expr.specs.Abouts.{IsAbout}
use Rattle.jr_bind_expr.proofs.Abouting.{local_about, foreign_about}
use Rattle.jr_bind_expr.proofs.abouts.about_key.Goals as goal

pub returns-then-eq : goal.returns-then-eq
returns-then-eq c =
    let rows = c.args.table.now in
    let p = c.args.place.now in
    let same : local_key_of c.args.key.now ≡ key_of (member_of p) c.args.key.now.number = ap (λ (k : MemberKey). key_of k c.args.key.now.number) (c.eq.ensures.0 c.if-eq.true) in
    subst (λ (q : LocalKey). IsAbout rows (context_of p) (one (local_decl q)) c.about_local.result) (sym same)
    (subst (IsAbout rows (context_of p) (one (local_decl (key_of (member_of p) c.args.key.now.number)))) (sym c.about_local.ensures) (local_about rows p c.requires c.args.key.now.number))

pub returns-else-eq : goal.returns-else-eq
returns-else-eq c =
    let rows = c.args.table.now in
    let p = c.args.place.now in
    subst (IsAbout rows (context_of p) (one (local_decl (local_key_of c.args.key.now)))) (sym c.nothing.ensures)
    (foreign_about rows p c.requires (local_key_of c.args.key.now) (λ e. let t = c.eq.ensures.1 e in let f = c.if-eq.false in absurd cc))
