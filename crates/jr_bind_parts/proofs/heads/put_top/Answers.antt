use Rattle.std.proofs.Common.{◌≡◌, ℕ, ◌++◌, Option, None, sym, ap, subst, ◌∙◌}
use Rattle.std.proofs.lemmas.Result.{IfOk-weaker}
use Rattle.std.proofs.lemmas.List.{append-nil}
use Rattle.std.specs.Prelude.{option_map}
use Rattle.jr_text.specs.declared.spans.Span.{Span}
use Rattle.jr_ast.specs.Tree as tree
use Rattle.jr_ast.specs.declared.names.Ident.{Ident}
use Rattle.jr_ast.specs.View.{word_of, type_of, type_kind}
use Rattle.jr_table.specs.Lookup.{shown}
use Rattle.jr_table.specs.HeadNotes.{top_found, declared_note}
use Rattle.jr_bind_expr.specs.Logs.{notes_of}
use Rattle.jr_bind_parts.specs.DeclaredTypes.{PutsDeclared}
use Rattle.jr_bind_parts.specs.Heads.{PutsTop}
use Rattle.jr_bind_parts.proofs.heads.put_top.Goals as goal

pub returns-in-None : goal.returns-in-None
returns-in-None g c =
    let B = λ (m : g.row.A.Denot) (b : ℕ). (g.A.Mark.span_from m b).from in
    let rows = c.args.table.now in
    let base = c.args.base in
    let old = c.args.log.now.items in
    let m = c.args.of.now.mark in
    let w = word_of c.in-Named.name in
    let start = ap (λ (z : Span). z.from) c.span-at.ensures in
    let place : c.span-at_name.result.from ≡ B w.mark (B m base) = ap (λ (z : Span). z.from) c.span-at_name.ensures ∙ ap (λ (n : ℕ). B w.mark n) start in
    let whole : type_of c.args.of.now ≡ tree.named m None w = ap (type_kind m) c.in-Named.is ∙ ap (λ (o : Option (Ident g.row.A.Denot)). tree.named m (option_map word_of o) w) c.in-None.is in
    IfOk-weaker c.put_declared.result
    (λ u. PutsDeclared rows c.span-at_name.result.from (shown rows c.top.result) old c.put_declared.new.log.items)
    (λ u. PutsTop B rows base (type_of c.args.of.now) old c.put_declared.new.log.items) (λ u h.
    subst (λ (t : tree.TypeName g.row.A.Denot). PutsTop B rows base t old c.put_declared.new.log.items) (sym whole)
    (λ k. h k ∙ (λ i. notes_of rows k old ++ declared_note (place i) (c.top.ensures i))
    ∙ ap (λ ns. notes_of rows k old ++ ns) (sym (append-nil (declared_note (B w.mark (B m base)) (top_found rows w.text)))))) c.put_declared.ensures
