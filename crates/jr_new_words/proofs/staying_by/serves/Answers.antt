use Rattle.std.proofs.Common.{sym, subst}
use Rattle.std.specs.Prelude.{IsTrue}
use Rattle.jr_table.specs.KeyView.{decl_of}
use Rattle.jr_new_words.specs.declared.ways.Way as raw
use Rattle.jr_new_words.specs.Ways.{way_of}
use Rattle.jr_new_words.specs.StayingBy.{Serves}
use Rattle.jr_new_words.proofs.staying_by.serves.Goals as goal

pub returns-in-FieldOn : goal.returns-in-FieldOn
returns-in-FieldOn c =
    subst (λ (w : raw.Way). IsTrue c.is_field_on_value.result → Serves c.args.table.now (way_of w) c.args.name.now (decl_of c.args.decl.now)) (sym c.in-FieldOn.is) c.is_field_on_value.ensures

pub returns-in-FieldThrough : goal.returns-in-FieldThrough
returns-in-FieldThrough c =
    subst (λ (w : raw.Way). IsTrue c.is_field_behind.result → Serves c.args.table.now (way_of w) c.args.name.now (decl_of c.args.decl.now)) (sym c.in-FieldThrough.is) c.is_field_behind.ensures

pub returns-in-MethodNamed : goal.returns-in-MethodNamed
returns-in-MethodNamed c =
    subst (λ (w : raw.Way). IsTrue c.is_method.result → Serves c.args.table.now (way_of w) c.args.name.now (decl_of c.args.decl.now)) (sym c.in-MethodNamed.is) c.is_method.ensures

pub returns-in-MethodOn : goal.returns-in-MethodOn
returns-in-MethodOn c =
    subst (λ (w : raw.Way). IsTrue c.is_method_on_value.result → Serves c.args.table.now (way_of w) c.args.name.now (decl_of c.args.decl.now)) (sym c.in-MethodOn.is) c.is_method_on_value.ensures

pub returns-in-MethodThrough : goal.returns-in-MethodThrough
returns-in-MethodThrough c =
    subst (λ (w : raw.Way). IsTrue c.is_method_behind.result → Serves c.args.table.now (way_of w) c.args.name.now (decl_of c.args.decl.now)) (sym c.in-MethodThrough.is) c.is_method_behind.ensures

pub returns-in-CtorOf : goal.returns-in-CtorOf
returns-in-CtorOf c =
    subst (λ (w : raw.Way). IsTrue c.is_ctor.result → Serves c.args.table.now (way_of w) c.args.name.now (decl_of c.args.decl.now)) (sym c.in-CtorOf.is) c.is_ctor.ensures

pub returns-in-TypeNamed : goal.returns-in-TypeNamed
returns-in-TypeNamed c =
    subst (λ (w : raw.Way). IsTrue c.is_class.result → Serves c.args.table.now (way_of w) c.args.name.now (decl_of c.args.decl.now)) (sym c.in-TypeNamed.is) c.is_class.ensures
