use Rattle.std.proofs.Common.{sym, subst}
use Rattle.jr_table.specs.Decls.{local_decl}
use Rattle.jr_table.specs.Found.{one}
use Rattle.jr_scopes.specs.Helds.{key_of}
use Rattle.jr_bind_expr.specs.Places.{context_of, member_of}
use Rattle.jr_bind_expr.specs.Findings.{found_of}
use Rattle.jr_bind_expr.specs.Abouts.{IsAbout}
use Rattle.jr_bind_expr.proofs.Abouting.{local_about}
use Rattle.jr_bind_expr.proofs.abouts.about_finding.Goals as goal

pub returns-in-Local : goal.returns-in-Local
returns-in-Local c =
    let rows = c.args.table.now in
    let p = c.args.place.now in
    subst (λ f. IsAbout rows (context_of p) (found_of rows (member_of p) f) c.about_local.result) (sym c.in-Local.is)
    (subst (IsAbout rows (context_of p) (one (local_decl (key_of (member_of p) c.in-Local.number)))) (sym c.about_local.ensures) (local_about rows p c.requires c.in-Local.number))
