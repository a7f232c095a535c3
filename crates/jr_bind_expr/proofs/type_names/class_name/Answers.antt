use Rattle.std.proofs.Common.{◌≡◌, ℕ, List, Option, [], ◌∷◌, ◌++◌, sym, ap, ◌∙◌, append_assoc}
use Rattle.std.specs.Prelude.{option_map}
use Rattle.std.proofs.lemmas.Result.{IfOk-weaker}
use Rattle.jr_text.specs.declared.spans.Span.{Span}
use Rattle.jr_ast.specs.declared.names.Ident.{Ident}
use Rattle.jr_ast.specs.View.{word_of}
use Rattle.jr_table.specs.Entries.{class_number}
use Rattle.jr_table.specs.Context.{scope_of, outer_text}
use Rattle.jr_table.specs.Lookup.{shown, find_type_named}
use Rattle.jr_table.specs.Meanings.{class_found, named_class}
use Rattle.jr_table.specs.Binding.{type}
use Rattle.jr_table.specs.Notes.{Note, found_note}
use Rattle.jr_bind_expr.specs.declared.findings.Sought.TheVariants as sought
use Rattle.jr_bind_expr.specs.Places.{context_of, member_of}
use Rattle.jr_bind_expr.specs.Logs.{notes_of}
use Rattle.jr_bind_expr.specs.Named.{inner_answer, plain_notes, named_notes}
use Rattle.jr_bind_expr.proofs.Scoped.{place_class}
use Rattle.jr_bind_expr.proofs.Naming.{put_is, inner_is, inner_class_is}
use Rattle.jr_bind_expr.proofs.type_names.class_name.Goals as goal

pub returns-in_ok-class-in-Some-clause-class : goal.returns-in_ok-class-in-Some-clause-class
returns-in_ok-class-in-Some-clause-class g c =
    let rows = c.args.table.now in
    let p = c.args.place.now in
    let s = scope_of (context_of p) in
    let name = c.args.name.now.name in
    let outer = c.in-Some.outer.name in
    let is : c.in_ok-class-in-Some.class ≡ option_map (class_number rows) (class_found (find_type_named rows s outer)) = c.in_ok-class-in-Some.ensures.class in
    let same = inner_class_is rows s p.class (place_class rows p c.requires.knows) outer name c.in_ok-class-in-Some.class is
    ∙ sym (ap (λ (o : Option (Ident g.row.A.Denot)). option_map (class_number rows) (named_class rows s (outer_text (option_map word_of o)) name)) c.in-Some.is) in
    IfOk-weaker c.inner_class.result _ _ (λ k h. h ∙ same) c.inner_class.ensures.class

pub returns-in_ok-class-in-Some-clause-notes : goal.returns-in_ok-class-in-Some-clause-notes
returns-in_ok-class-in-Some-clause-notes g c =
    let B = λ (m : g.row.A.Denot) (b : ℕ). (g.A.Mark.span_from m b).from in
    let rows = c.args.table.now in
    let p = c.args.place.now in
    let k = member_of p in
    let s = scope_of (context_of p) in
    let w = c.args.name.now in
    let o = c.in-Some.outer in
    let class = c.in_ok-class-in-Some.class in
    let is : class ≡ option_map (class_number rows) (class_found (find_type_named rows s o.name)) = c.in_ok-class-in-Some.ensures.class in
    let old = notes_of rows k c.args.log.now.items in
    let answer = inner_answer rows p.class class w.name in
    let first : ℕ → List Note = λ at. plain_notes rows s at o.name in
    let from : c.span-at_name-in-Some.result.from ≡ B w.mark c.args.at = ap (λ (z : Span). z.from) c.span-at_name-in-Some.ensures in
    let from_outer : c.span-at_outer.result.from ≡ B o.mark c.args.at = ap (λ (z : Span). z.from) c.span-at_outer.ensures in
    let found = inner_is rows s p.class (place_class rows p c.requires.knows) o.name w.name class is in
    let same = (λ i. first (from_outer i) ++ found_note (from i) type (found i) ∷ []) ∙ sym (ap (λ (x : Option (Ident g.row.A.Denot)). named_notes B rows s c.args.at (option_map word_of x) (word_of w)) c.in-Some.is) in
    IfOk-weaker c.inner_class.result _ _
    (λ u h. put_is rows k c.span-at_name-in-Some.result.from sought.Type answer c.plain_class-in-Some.new.log.items c.inner_class.new.log.items h
    ∙ ap (λ xs. xs ++ found_note c.span-at_name-in-Some.result.from type (shown rows answer) ∷ []) c.in_ok-class-in-Some.ensures.notes
    ∙ append_assoc old (first c.span-at_outer.result.from) (found_note c.span-at_name-in-Some.result.from type (shown rows answer) ∷ [])
    ∙ ap (λ more. old ++ more) same)
    c.inner_class.ensures.notes
