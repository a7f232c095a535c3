use Rattle.std.proofs.Common.{List, map, true≢false, sym, subst, ◌∙◌}
use Rattle.std.specs.Prelude.{option_map}
use Rattle.std.proofs.lemmas.Result.{IfOk-weaker}
use Rattle.jr_table.specs.Rows.{Row}
use Rattle.jr_table.specs.KeyView.{decl_of}
use Rattle.jr_bind.specs.Programs.{units_of}
use Rattle.jr_program_laws.specs.FileParts.{begins}
use Rattle.jr_rename.specs.RowClashes.{OneTakesPlace}
use Rattle.jr_rename.specs.RowAnswers.{IsFirstOf}
use Rattle.jr_rename.proofs.RowLaws.{member_named, member_tells}
use Rattle.jr_rename.proofs.clashes.of_member.Goals as goal

pub returns-then-has_name : goal.returns-then-has_name
returns-then-has_name g c =
    let p = g.V.View.program c.args.view.now in
    let named = c.has_name.ensures.0 c.if-has_name.true in
    IfOk-weaker c.itself.result _ _ (λ o h. member_named begins p.rows (units_of p) c.args.new.now (decl_of c.args.target.now) c.requires.member named (option_map decl_of o) h) c.itself.ensures

pub returns : goal.returns
returns g c =
    let p = g.V.View.program c.args.view.now in
    let ds = map decl_of c.args.renamed.now in
    IfOk-weaker c.member_told.result _ _ (λ o h.
    member_tells begins p.rows (units_of p) c.args.new.now (decl_of c.args.target.now) ds c.requires.renamed c.requires.member (λ e. true≢false (sym (c.has_name.ensures.1 e) ∙ c.if-has_name.false)) (option_map decl_of o)
    (subst (λ (rows : List Row). IsFirstOf rows (OneTakesPlace ds c.args.new.now) (option_map decl_of o)) c.table.ensures h)) c.member_told.ensures
