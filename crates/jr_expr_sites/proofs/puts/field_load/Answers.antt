use Rattle.std.proofs.Common.{◌≡◌, refl, sym, ap, ◌∙◌}
use Rattle.jr_table.specs.KeyView.{field_key_of}
use Rattle.jr_cover.specs.Sites as sites
use Rattle.jr_expr_sites.specs.Meanings as pure
use Rattle.jr_expr_sites.specs.KnownFacts.{meaning_at, place}
use Rattle.jr_expr_sites.specs.StepView.{given, meaning_view}
use Rattle.jr_expr_sites.proofs.Walking.{on_ok_then}
use Rattle.jr_expr_sites.proofs.Names.{via, field_is}
use Rattle.jr_expr_sites.proofs.puts.field_load.Goals as goal

pub returns-in-Local : goal.returns-in-Local
returns-in-Local g c =
    let G = given g.F.Facts.decls g.F.Facts.types c.args.here.now in
    let R = sites.field_load (place G c.args.at) in
    let at = c.args.at in
    let old = c.args.out.now.items in
    let means : meaning_view c.meaning_at.result ≡ meaning_at G at = c.meaning_at.ensures in
    on_ok_then c.put_nothing.result (λ h o. via G at R (pure.local c.in-Local.field-0) (R (pure.variable_of G.rows (pure.local c.in-Local.field-0))) old c.put_nothing.new.out.items (sym means ∙ ap meaning_view c.in-Local.is) refl (h o)) (c.put_nothing.ensures G)

pub returns-in-Field : goal.returns-in-Field
returns-in-Field g c =
    let G = given g.F.Facts.decls g.F.Facts.types c.args.here.now in
    let R = sites.field_load (place G c.args.at) in
    let at = c.args.at in
    let old = c.args.out.now.items in
    let means : meaning_view c.meaning_at.result ≡ meaning_at G at = c.meaning_at.ensures in
    on_ok_then c.put_site.result (λ h o. via G at R (pure.field (field_key_of c.in-Field.key.now)) (sites.at_place (place G at) (sites.loads (field_key_of c.in-Field.key.now))) old c.put_site.new.out.items (sym means ∙ ap meaning_view c.in-Field.is) (field_is R (sites.at_place (place G at) (sites.loads (field_key_of c.in-Field.key.now))) (pure.is_static_field G.rows (field_key_of c.in-Field.key.now)) (field_key_of c.in-Field.key.now) refl refl) (h o)) (c.put_site.ensures G)

pub returns-in-Class : goal.returns-in-Class
returns-in-Class g c =
    let G = given g.F.Facts.decls g.F.Facts.types c.args.here.now in
    let R = sites.field_load (place G c.args.at) in
    let at = c.args.at in
    let old = c.args.out.now.items in
    let means : meaning_view c.meaning_at.result ≡ meaning_at G at = c.meaning_at.ensures in
    on_ok_then c.put_nothing-in-Class.result (λ h o. via G at R (pure.class) (R (pure.variable_of G.rows pure.class)) old c.put_nothing-in-Class.new.out.items (sym means ∙ ap meaning_view c.in-Class.is) refl (h o)) (c.put_nothing-in-Class.ensures G)

pub returns-in-Nothing : goal.returns-in-Nothing
returns-in-Nothing g c =
    let G = given g.F.Facts.decls g.F.Facts.types c.args.here.now in
    let R = sites.field_load (place G c.args.at) in
    let at = c.args.at in
    let old = c.args.out.now.items in
    let means : meaning_view c.meaning_at.result ≡ meaning_at G at = c.meaning_at.ensures in
    on_ok_then c.put_nothing-in-Nothing.result (λ h o. via G at R (pure.nothing) (R (pure.variable_of G.rows pure.nothing)) old c.put_nothing-in-Nothing.new.out.items (sym means ∙ ap meaning_view c.in-Nothing.is) refl (h o)) (c.put_nothing-in-Nothing.ensures G)
