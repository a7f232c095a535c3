use Rattle.std.proofs.Common.{map, sym, ap, ◌∙◌}
use Rattle.jr_table.specs.KeyView.{decl_of}
use Rattle.jr_dispatch.proofs.Belows.{ok_then}
use Rattle.jr_dispatch.proofs.Connected.{lone}
use Rattle.jr_dispatch.proofs.families.family.Goals as goal

pub returns-in-Class : goal.returns-in-Class
returns-in-Class c =
    ok_then c.alone.result _ _
    (λ ds e. lone c.args.table.now (decl_of c.args.target.now) (map decl_of ds.items) (λ k s. let z = sym (ap decl_of c.in-Class.is) ∙ s in absurd cc) e) c.alone.ensures

pub returns-in-Field : goal.returns-in-Field
returns-in-Field c =
    ok_then c.alone-in-Field.result _ _
    (λ ds e. lone c.args.table.now (decl_of c.args.target.now) (map decl_of ds.items) (λ k s. let z = sym (ap decl_of c.in-Field.is) ∙ s in absurd cc) e) c.alone-in-Field.ensures

pub returns-in-Ctor : goal.returns-in-Ctor
returns-in-Ctor c =
    ok_then c.alone-in-Ctor.result _ _
    (λ ds e. lone c.args.table.now (decl_of c.args.target.now) (map decl_of ds.items) (λ k s. let z = sym (ap decl_of c.in-Ctor.is) ∙ s in absurd cc) e) c.alone-in-Ctor.ensures

pub returns-in-Local : goal.returns-in-Local
returns-in-Local c =
    ok_then c.alone-in-Local.result _ _
    (λ ds e. lone c.args.table.now (decl_of c.args.target.now) (map decl_of ds.items) (λ k s. let z = sym (ap decl_of c.in-Local.is) ∙ s in absurd cc) e) c.alone-in-Local.ensures
