use Rattle.std.proofs.Common.{◌≡◌, List, ℕ, Option, None, Some, sym, ap, subst, ◌∙◌}
use Rattle.std.proofs.lemmas.Result.{IfOk-weaker}
use Rattle.std.specs.Prelude.{option_map}
use Rattle.jr_text.specs.declared.spans.Span.{Span}
use Rattle.jr_ast.specs.declared.parts.TypeRef.{TypeRef}
use Rattle.jr_ast.specs.View.{type_of}
use Rattle.jr_new_bodies.specs.OutputView.{gathered}
use Rattle.jr_new_files.specs.Walking.{rows_of, mapping_of}
use Rattle.jr_new_files.specs.Ready.{MaybeParentReady}
use Rattle.jr_new_files.specs.PartEffects.{MaybeParentGathers}
use Rattle.jr_new_files.proofs.Giving.{parent_none, parent_some}
use Rattle.jr_new_files.proofs.heads.maybe_parent.Goals as goal

pub parent-requires : goal.parent-requires
parent-requires c =
    let w = c.args.of.now in
    record { walked = c.requires.walked; ready = subst (λ (o : Option (TypeRef Span)). MaybeParentReady (rows_of w) c.args.outer.now c.args.at (option_map type_of o)) c.in-Some.is c.requires.ready }

pub returns-in-None : goal.returns-in-None
returns-in-None c =
    let w = c.args.of.now in
    let outer = c.args.outer.now in
    let old = gathered c.args.out.now in
    subst (λ (o : Option (TypeRef Span)). MaybeParentGathers (rows_of w) (mapping_of w) outer c.args.at (option_map type_of o) old old) (sym c.in-None.is) (parent_none (rows_of w) (mapping_of w) outer c.args.at old)

pub returns-in-Some : goal.returns-in-Some
returns-in-Some c =
    let w = c.args.of.now in
    let outer = c.args.outer.now in
    let old = gathered c.args.out.now in
    let new = gathered c.parent.new.out in
    IfOk-weaker c.parent.result _ _ (λ _ x. subst (λ (o : Option (TypeRef Span)). MaybeParentGathers (rows_of w) (mapping_of w) outer c.args.at (option_map type_of o) old new) (sym c.in-Some.is)
    (parent_some (rows_of w) (mapping_of w) outer c.args.at (type_of c.in-Some.ty) old new x)) c.parent.ensures
