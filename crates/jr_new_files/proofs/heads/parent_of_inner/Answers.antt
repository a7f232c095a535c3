use Rattle.std.proofs.Common.{◌≡◌, List, ℕ, None, Some, false, sym, ap, subst, ◌∙◌}
use Rattle.std.proofs.lemmas.Result.{IfOk-weaker}
use Rattle.jr_ast.specs.View.{type_of}
use Rattle.jr_table.specs.Decls.{MemberKey, head}
use Rattle.jr_table.specs.Prelude.{top_key}
use Rattle.jr_table.specs.HeadRules.{plain}
use Rattle.jr_new_bodies.specs.OutputView.{gathered}
use Rattle.jr_new_files.specs.Walking.{rows_of, mapping_of}
use Rattle.jr_new_files.specs.Ready.{TypeReady}
use Rattle.jr_new_files.specs.PartEffects.{TypeGathers, ParentGathers}
use Rattle.jr_new_files.proofs.heads.parent_of_inner.Goals as goal

pub declared_type-done-requires : goal.declared_type-done-requires
declared_type-done-requires c =
    let w = c.args.of.now in
    let name : c.in_ok-name.name ≡ c.args.outer.now = c.in_ok-name.ensures ∙ c.as_str.ensures in
    record { walked = c.requires.walked; ready = subst (λ (n : List ℕ). TypeReady (rows_of w) (plain (head (top_key n)) false) c.args.at (type_of c.args.ty.now)) (sym name) c.requires.ready }

pub returns : goal.returns
returns c =
    let w = c.args.of.now in
    let name : c.in_ok-name.name ≡ c.args.outer.now = c.in_ok-name.ensures ∙ c.as_str.ensures in
    IfOk-weaker c.declared_type-done.result _ _ (λ _ x. subst (λ (n : List ℕ). TypeGathers (rows_of w) (mapping_of w) (plain (head (top_key n)) false) c.args.at (type_of c.args.ty.now) (gathered c.args.out.now) (gathered c.declared_type-done.new.out)) name x) c.declared_type-done.ensures
