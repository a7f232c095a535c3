use Rattle.std.proofs.Common.{map, sym, ap, subst, ◌∙◌}
use Rattle.jr_table.specs.KeyView.{decl_of}
use Rattle.jr_images.specs.Refusals.{IsMethod}
use Rattle.jr_dispatch.proofs.Telling.{told_method, no_method}
use Rattle.jr_dispatch.proofs.preludes.prelude_method.Goals as goal

pub returns-in-Method-clause-told : goal.returns-in-Method-clause-told
returns-in-Method-clause-told c =
    (told_method c.args.table.now (map decl_of c.args.family.now) (decl_of c.args.target.now) c.args.new.now (subst IsMethod (sym (ap decl_of c.in-Method.is)) tt) c.requires _ c.family_told.result
    c.family_told.ensures.some c.family_told.ensures.none).0

pub returns-in-Method-clause-none : goal.returns-in-Method-clause-none
returns-in-Method-clause-none c =
    (told_method c.args.table.now (map decl_of c.args.family.now) (decl_of c.args.target.now) c.args.new.now (subst IsMethod (sym (ap decl_of c.in-Method.is)) tt) c.requires _ c.family_told.result
    c.family_told.ensures.some c.family_told.ensures.none).1

pub returns-in-Class-clause-none : goal.returns-in-Class-clause-none
returns-in-Class-clause-none c = λ text. no_method c.args.table.now (decl_of c.args.target.now) c.args.new.now text (λ k s. let z = sym (ap decl_of c.in-Class.is) ∙ s in absurd cc)

pub returns-in-Field-clause-none : goal.returns-in-Field-clause-none
returns-in-Field-clause-none c = λ text. no_method c.args.table.now (decl_of c.args.target.now) c.args.new.now text (λ k s. let z = sym (ap decl_of c.in-Field.is) ∙ s in absurd cc)

pub returns-in-Ctor-clause-none : goal.returns-in-Ctor-clause-none
returns-in-Ctor-clause-none c = λ text. no_method c.args.table.now (decl_of c.args.target.now) c.args.new.now text (λ k s. let z = sym (ap decl_of c.in-Ctor.is) ∙ s in absurd cc)

pub returns-in-Local-clause-none : goal.returns-in-Local-clause-none
returns-in-Local-clause-none c = λ text. no_method c.args.table.now (decl_of c.args.target.now) c.args.new.now text (λ k s. let z = sym (ap decl_of c.in-Local.is) ∙ s in absurd cc)
