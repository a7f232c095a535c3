use Rattle.std.proofs.Common.{Option, None, false, sym, subst}
use Rattle.std.proofs.lemmas.Result.{IfOk-weaker}
use Rattle.std.specs.Prelude.{option_map}
use Rattle.jr_text.specs.declared.spans.Span.{Span}
use Rattle.jr_ast.specs.declared.parts.TypeRef.{TypeRef}
use Rattle.jr_ast.specs.View.{type_of}
use Rattle.jr_table.specs.HeadRules.{plain}
use Rattle.jr_new_bodies.specs.OutputView.{gathered}
use Rattle.jr_new_files.specs.Walking.{key_of, rows_of, mapping_of}
use Rattle.jr_new_files.specs.Ready.{ResultReady}
use Rattle.jr_new_files.specs.PartEffects.{ResultGathers}
use Rattle.jr_new_files.proofs.Giving.{result_none, result_some}
use Rattle.jr_new_files.proofs.methods.result_type.Goals as goal

pub declared_type-requires : goal.declared_type-requires
declared_type-requires c =
    let w = c.args.of.now in
    record { walked = c.requires.walked; ready = subst (λ (o : Option (TypeRef Span)). ResultReady (rows_of w) (plain (key_of w) false) c.args.at (option_map type_of o)) c.in-Some.is c.requires.ready }

pub returns-in-None : goal.returns-in-None
returns-in-None c =
    let w = c.args.of.now in
    let old = gathered c.args.out.now in
    subst (λ (o : Option (TypeRef Span)). ResultGathers (rows_of w) (mapping_of w) (key_of w) c.args.at (option_map type_of o) old old) (sym c.in-None.is) (result_none (rows_of w) (mapping_of w) (key_of w) c.args.at old)

pub returns-in-Some : goal.returns-in-Some
returns-in-Some c =
    let w = c.args.of.now in
    let old = gathered c.args.out.now in
    let new = gathered c.declared_type.new.out in
    IfOk-weaker c.declared_type.result _ _ (λ _ x. subst (λ (o : Option (TypeRef Span)). ResultGathers (rows_of w) (mapping_of w) (key_of w) c.args.at (option_map type_of o) old new) (sym c.in-Some.is)
    (result_some (rows_of w) (mapping_of w) (key_of w) c.args.at (type_of c.in-Some.ty) old new x)) c.declared_type.ensures
