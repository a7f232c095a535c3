use Rattle.std.proofs.Common.{◌≡◌, ℕ, Option, Some, None, sym, ap, subst, ◌∙◌}
use Rattle.std.proofs.lemmas.Result.{IfOk-weaker}
use Rattle.std.specs.Prelude.{option_map}
use Rattle.jr_text.specs.declared.spans.Span.{Span}
use Rattle.jr_ast.specs.Tree as tree
use Rattle.jr_ast.specs.declared.names.Ident.{Ident}
use Rattle.jr_ast.specs.View.{word_of, type_of, type_kind}
use Rattle.jr_table.specs.Meanings.{type_references}
use Rattle.jr_bind_parts.specs.DeclaredTypes.{PutsReferences, PutsDotted}
use Rattle.jr_bind_parts.proofs.Declaring.{plain_found}
use Rattle.jr_bind_parts.proofs.declared.put_type.Goals as goal

pub returns-in-None : goal.returns-in-None
returns-in-None g c =
    let B = λ (m : g.row.A.Denot) (b : ℕ). (g.A.Mark.span_from m b).from in
    let F = g.A.Mark.fits_at in
    let rows = c.args.table.now in
    let class = c.args.class in
    let base = c.args.base in
    let old = c.args.log.now.items in
    let m = c.args.of.now.mark in
    let w = word_of c.in-Named.name in
    let start = ap (λ (z : Span). z.from) c.span-at.ensures in
    let whole : type_of c.args.of.now ≡ tree.named m None w = ap (type_kind m) c.in-Named.is ∙ ap (λ (o : Option (Ident g.row.A.Denot)). tree.named m (option_map word_of o) w) c.in-None.is in
    IfOk-weaker c.put_declared.result _ _ (λ u h.
    subst (λ (t : tree.TypeName g.row.A.Denot). PutsReferences rows class (λ d. type_references B rows d base t) old c.put_declared.new.log.items) (sym whole)
    (plain_found rows class c.span.result.from (B w.mark (B m base)) w.text c.type_at-answer.result old c.put_declared.new.log.items (ap (λ (z : Span). z.from) c.span.ensures ∙ ap (λ (n : ℕ). B w.mark n) start) c.type_at-answer.ensures h)) c.put_declared.ensures

pub returns-in-Some : goal.returns-in-Some
returns-in-Some g c =
    let B = λ (m : g.row.A.Denot) (b : ℕ). (g.A.Mark.span_from m b).from in
    let F = g.A.Mark.fits_at in
    let rows = c.args.table.now in
    let class = c.args.class in
    let base = c.args.base in
    let old = c.args.log.now.items in
    let m = c.args.of.now.mark in
    let w = word_of c.in-Named.name in
    let first = word_of c.in-Some.outer in
    let start = ap (λ (z : Span). z.from) c.span-at.ensures in
    let whole : type_of c.args.of.now ≡ tree.named m (Some first) w = ap (type_kind m) c.in-Named.is ∙ ap (λ (o : Option (Ident g.row.A.Denot)). tree.named m (option_map word_of o) w) c.in-Some.is in
    IfOk-weaker c.put_dotted.result _ _ (λ u h.
    subst (λ (t : tree.TypeName g.row.A.Denot). PutsReferences rows class (λ d. type_references B rows d base t) old c.put_dotted.new.log.items) (sym whole)
    (subst (λ (n : ℕ). PutsDotted B rows class n first w old c.put_dotted.new.log.items) start h)) c.put_dotted.ensures
