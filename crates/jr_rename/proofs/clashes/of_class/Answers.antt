use Rattle.std.proofs.Common.{List, true≢false, sym, subst, ◌∙◌, ap}
use Rattle.std.specs.Prelude.{option_map}
use Rattle.std.proofs.lemmas.Result.{IfOk-weaker}
use Rattle.jr_table.specs.Decls.{Decl}
use Rattle.jr_table.specs.Rows.{Row}
use Rattle.jr_table.specs.Entries.{name_of}
use Rattle.jr_table.specs.KeyView.{decl_of}
use Rattle.jr_table.specs.TypeView.{class_key_of}
use Rattle.jr_bind.specs.Programs.{units_of}
use Rattle.jr_program_laws.specs.FileParts.{begins}
use Rattle.jr_rename.specs.Answered.{Tells}
use Rattle.jr_rename.specs.RowAnswers.{TellsClass}
use Rattle.jr_rename.proofs.RowLaws.{class_named, class_tells}
use Rattle.jr_rename.proofs.clashes.of_class.Goals as goal

pub returns-then-has_name : goal.returns-then-has_name
returns-then-has_name g c =
    let p = g.V.View.program c.args.view.now in
    let k = class_key_of c.args.class.now in
    let named = c.has_name.ensures.0 c.if-has_name.true in
    IfOk-weaker c.itself.result _ _ (λ o h. class_named begins p.rows (units_of p) c.args.new.now (decl_of c.args.target.now) k c.requires named (option_map decl_of o) h) c.itself.ensures

pub returns : goal.returns
returns g c =
    let p = g.V.View.program c.args.view.now in
    let k = class_key_of c.args.class.now in
    IfOk-weaker c.class_told.result _ _ (λ o h.
    subst (λ (d : Decl). Tells begins p.rows (units_of p) d c.args.new.now (option_map decl_of o)) (sym c.requires)
    (class_tells begins p.rows (units_of p) c.args.new.now k (λ e. true≢false (sym (c.has_name.ensures.1 (ap name_of c.requires ∙ e)) ∙ c.if-has_name.false)) (option_map decl_of o)
    (subst (λ (rows : List Row). TellsClass rows k c.args.new.now (option_map decl_of o)) c.table.ensures h))) c.class_told.ensures
