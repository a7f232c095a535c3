-- What extract and inline local make of a list changes the text in order.
use Rattle.std.proofs.Common.{◌≡◌, ℕ, List, Some, ap, subst}
use Rattle.std.specs.Prelude.{slice_get}
use Rattle.jr_text.specs.declared.spans.Span.{Span}
use Rattle.jr_ast.specs.StatementTree as statement
use Rattle.jr_grammar.specs.Layout.{itself}
use Rattle.jr_bind.specs.Programs.{File, Program, IsProgram}
use Rattle.jr_rewrite.specs.Respellings.{Change}
use Rattle.jr_rewrite.specs.Rewritten.{Rewritten}
use Rattle.jr_rewrite.specs.Edited.{AreInOrder}
use Rattle.jr_new_bodies.specs.Effects.{Effect}
use Rattle.jr_plan.specs.Transforms.{Lost, Transform, IsFit}
use Rattle.jr_plan.proofs.Planned.{plans_read}
use Rattle.jr_local.specs.Texts.{HasText}
use Rattle.jr_local.specs.Extracted as extracted
use Rattle.jr_local.specs.Inlined as inlined
use Rattle.jr_local_texts.specs.Fitting.{ExtractsFit, InlinesFit}
use Rattle.jr_local_texts.proofs.Fronts.{is_fit}
use Rattle.jr_untouched_parts.specs.Around.{IsWhole}
use Rattle.jr_untouched_parts.specs.Locals.{ExtractsAreWhole, InlinesAreWhole, ExtractsAreInOrder, InlinesAreInOrder}

-- of any transformation that fits, and whose file is this
in_order : (p : Program Span) → IsProgram itself (λ m b. Unit {0}) p → (t : Transform) → IsFit p t → (also : List Lost) (file : ℕ) (o : Rewritten (statement.Stmts Span)) → IsWhole p t also file o
    → (g : File Span) → slice_get p.files file ≡ Some g → AreInOrder 0 o.changes
in_order p program t fit also file o whole g at =
    let read = plans_read p t fit whole.becomes file g whole.own at whole.stands (program.reads file g at) in
    subst (λ (cs : List Change). AreInOrder 0 cs) (ap (λ (e : Effect). e.changes) whole.effect) read.in_order

pub extracts_are_in_order : ExtractsAreWhole → ExtractsFit → ExtractsAreInOrder
extracts_are_in_order wholes fits p program file from to name is_name f spelled o puts =
    let t = (extracted.extract_local p file from to name).transform f in
    in_order p program t (is_fit p t (fits p program file from to name is_name f spelled)) (extracted.lost_type p file from to name f) file o (wholes p program file from to name f o puts) f.is_text.0 f.is_text.1

pub inlines_are_in_order : InlinesAreWhole → InlinesFit → InlinesAreInOrder
inlines_are_in_order wholes fits p program file at f o goes =
    let t = (inlined.inline_local p file at).transform f in
    in_order p program t (is_fit p t (fits p program file at f)) (inlined.lost_copies p file at f) file o (wholes p program file at f o goes) f.is_text.0 f.is_text.1
