use Rattle.std.proofs.Common.{◌≡◌, sym, ap, ◌∙◌}
use Rattle.jr_expr_sites.specs.Meanings as pure
use Rattle.jr_expr_sites.specs.KnownFacts.{meaning_at}
use Rattle.jr_expr_sites.specs.StepView.{given, meaning_view}
use Rattle.jr_expr_sites.proofs.checks.is_class.Goals as goal

pub returns-in-Class : goal.returns-in-Class
returns-in-Class g c =
    let G = given g.F.Facts.decls g.F.Facts.types c.args.here.now in
    let means : meaning_view c.meaning_at.result ≡ meaning_at G c.args.at = c.meaning_at.ensures in
    sym (ap pure.is_class (sym means ∙ ap meaning_view c.in-Class.is))

pub returns-in-Local : goal.returns-in-Local
returns-in-Local g c =
    let G = given g.F.Facts.decls g.F.Facts.types c.args.here.now in
    let means : meaning_view c.meaning_at.result ≡ meaning_at G c.args.at = c.meaning_at.ensures in
    sym (ap pure.is_class (sym means ∙ ap meaning_view c.in-Local.is))

pub returns-in-Field : goal.returns-in-Field
returns-in-Field g c =
    let G = given g.F.Facts.decls g.F.Facts.types c.args.here.now in
    let means : meaning_view c.meaning_at.result ≡ meaning_at G c.args.at = c.meaning_at.ensures in
    sym (ap pure.is_class (sym means ∙ ap meaning_view c.in-Field.is))

pub returns-in-Nothing : goal.returns-in-Nothing
returns-in-Nothing g c =
    let G = given g.F.Facts.decls g.F.Facts.types c.args.here.now in
    let means : meaning_view c.meaning_at.result ≡ meaning_at G c.args.at = c.meaning_at.ensures in
    sym (ap pure.is_class (sym means ∙ ap meaning_view c.in-Nothing.is))
