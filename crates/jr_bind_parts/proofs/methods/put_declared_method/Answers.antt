use Rattle.std.proofs.Common.{◌≡◌, ℕ, List, ◌++◌, false, map, sym, ap, ◌∙◌, append_assoc}
use Rattle.std.proofs.lemmas.Result.{IfOk-weaker}
use Rattle.std.specs.Prelude.{option_map}
use Rattle.jr_text.specs.declared.spans.Span.{Span}
use Rattle.jr_ast.specs.View.{word_of, type_of, param_of}
use Rattle.jr_table.specs.Entries.{class_of_member}
use Rattle.jr_table.specs.HeadRules.{plain}
use Rattle.jr_table.specs.Notes.{Note, breaks, when, is_object_method}
use Rattle.jr_table.specs.HeadNotes.{result_references, param_references, override_notes}
use Rattle.jr_table.specs.declared.rules.Rule.TheVariants as rule
use Rattle.jr_bind_expr.specs.Places.{member_of}
use Rattle.jr_bind_expr.specs.Logs.{notes_of}
use Rattle.jr_bind_parts.specs.DeclarationArms.{missing_notes}
use Rattle.jr_bind_expr.proofs.Scoped.{class_is}
use Rattle.jr_bind_parts.proofs.Declaring.{declared_append}
use Rattle.jr_bind_parts.proofs.methods.put_declared_method.Goals as goal

-- five puts, one behind the other
joined : (old a b x y z l l' m m' n : List Note) → l ≡ old ++ a → l' ≡ l ++ b → m ≡ l' ++ x → m' ≡ m ++ y → n ≡ m' ++ z → n ≡ old ++ ((a ++ b) ++ (x ++ (y ++ z)))
joined old a b x y z l l' m m' n ha hb hx hy hz =
    hz ∙ ap (λ ns. ns ++ z) (hy ∙ ap (λ ns. ns ++ y) (hx ∙ ap (λ ns. ns ++ x) (hb ∙ ap (λ ns. ns ++ b) ha ∙ append_assoc old a b)))
    ∙ append_assoc ((old ++ (a ++ b)) ++ x) y z ∙ append_assoc (old ++ (a ++ b)) x (y ++ z) ∙ append_assoc old (a ++ b) (x ++ (y ++ z))

pub returns : goal.returns
returns g c =
    let B = λ (m : g.row.A.Denot) (b : ℕ). (g.A.Mark.span_from m b).from in
    let rows = c.args.table.now in
    let p = c.args.place.now in
    let k = member_of p in
    let at = c.args.at in
    let t = option_map type_of c.args.ret.now in
    let w = word_of c.args.name.now in
    let ps = map param_of c.args.params.now in
    let here = class_is rows (class_of_member k) p.class c.requires.knows.class in
    let place : c.span-at_name.result.from ≡ B w.mark at = ap (λ (z : Span). z.from) c.span-at_name.ensures in
    let named = c.is_object_method-is_broken.ensures ∙ ap is_object_method c.as_str.ensures in
    IfOk-weaker c.put_when.result _ _ (λ u h.
    joined _ _ _ _ _ _ _ _ _ _ _ (c.in_ok-put_result.ensures k (plain k false) here) (c.in_ok-put_params.ensures k (plain k false) here) c.in_ok-put_missing.ensures c.in_ok-put_override.ensures h
    ∙ (λ i. notes_of rows k c.args.log.now.items ++ (sym (declared_append (result_references B rows (plain k false) at t) (param_references B rows (plain k false) at ps)) i
    ++ (missing_notes (place i) t c.args.completes ++ (override_notes rows k (place i) ++ when (named i) (breaks (place i) rule.ObjectMethod)))))) c.put_when.ensures
