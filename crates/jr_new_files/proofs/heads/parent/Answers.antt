use Rattle.std.proofs.Common.{◌≡◌, List, ℕ, Option, None, Some, sym, ap, subst, ◌∙◌}
use Rattle.std.proofs.lemmas.Result.{IfOk-weaker}
use Rattle.std.specs.Prelude.{option_map}
use Rattle.jr_ast.specs.View.{type_of}
use Rattle.jr_new_bodies.specs.OutputView.{gathered}
use Rattle.jr_new_files.specs.Walking.{rows_of, mapping_of}
use Rattle.jr_new_files.specs.Ready.{ParentReady}
use Rattle.jr_new_files.specs.PartEffects.{ParentGathers}
use Rattle.jr_new_files.proofs.heads.parent.Goals as goal

pub parent_of_top-requires : goal.parent_of_top-requires
parent_of_top-requires c =
    let w = c.args.of.now in
    record { walked = c.requires.walked; ready = subst (λ (o : Option (List ℕ)). ParentReady (rows_of w) o c.args.at (type_of c.args.ty.now)) c.in-None.is c.requires.ready }

pub parent_of_inner-requires : goal.parent_of_inner-requires
parent_of_inner-requires c =
    let w = c.args.of.now in
    record { walked = c.requires.walked; ready = subst (λ (o : Option (List ℕ)). ParentReady (rows_of w) o c.args.at (type_of c.args.ty.now)) c.in-Some.is c.requires.ready }

pub returns-in-None : goal.returns-in-None
returns-in-None c =
    let w = c.args.of.now in
    IfOk-weaker c.parent_of_top.result _ _ (λ _ x. subst (λ (o : Option (List ℕ)). ParentGathers (rows_of w) (mapping_of w) o c.args.at (type_of c.args.ty.now) (gathered c.args.out.now) (gathered c.parent_of_top.new.out)) (sym c.in-None.is) x) c.parent_of_top.ensures

pub returns-in-Some : goal.returns-in-Some
returns-in-Some c =
    let w = c.args.of.now in
    IfOk-weaker c.parent_of_inner.result _ _ (λ _ x. subst (λ (o : Option (List ℕ)). ParentGathers (rows_of w) (mapping_of w) o c.args.at (type_of c.args.ty.now) (gathered c.args.out.now) (gathered c.parent_of_inner.new.out)) (sym c.in-Some.is) x) c.parent_of_inner.ensures
