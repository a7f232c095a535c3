use Rattle.std.proofs.Common.{◌≡◌, false, sym, ap, ◌∙◌, subst, Some}
use Rattle.jr_table.specs.declared.answers.Answer.{Answer}
use Rattle.jr_table.specs.Lookup.{shown}
use Rattle.jr_bind_expr.specs.Arms.{is_nothing}
use Rattle.jr_bind_expr.specs.Findings.{sought_of}
use Rattle.jr_bind.specs.ErrorView.{found_rule}
use Rattle.jr_bind.proofs.Telling.{rule_one, rule_none, rule_many, rule_private, rule_static}
use Rattle.jr_bind.proofs.errors.found_rule.Goals as goal

pub returns-in-One : goal.returns-in-One
returns-in-One c =
    let rows = c.args.table.now in
    let q = sought_of c.args.sought in
    let some = subst (λ (a : Answer). is_nothing (shown rows a) ≡ false) c.in-One.is (sym c.is_nothing.ensures ∙ c.if-is_nothing.false) in
    rule_one rows q c.in-One.field-0 some ∙ sym (ap (λ (a : Answer). found_rule q (shown rows a)) c.in-One.is)

pub returns-in-Nothing : goal.returns-in-Nothing
returns-in-Nothing c =
    let rows = c.args.table.now in
    let q = sought_of c.args.sought in
    ap Some c.missing-in-Nothing.ensures ∙ rule_none rows q ∙ sym (ap (λ (a : Answer). found_rule q (shown rows a)) c.in-Nothing.is)

pub returns-in-Many : goal.returns-in-Many
returns-in-Many c =
    let rows = c.args.table.now in
    let q = sought_of c.args.sought in
    let some = subst (λ (a : Answer). is_nothing (shown rows a) ≡ false) c.in-Many.is (sym c.is_nothing.ensures ∙ c.if-is_nothing.false) in
    rule_many rows q c.in-Many.field-0 c.in-Many.field-1 some ∙ sym (ap (λ (a : Answer). found_rule q (shown rows a)) c.in-Many.is)

pub returns-in-NotAccessible : goal.returns-in-NotAccessible
returns-in-NotAccessible c =
    let rows = c.args.table.now in
    let q = sought_of c.args.sought in
    let some = subst (λ (a : Answer). is_nothing (shown rows a) ≡ false) c.in-NotAccessible.is (sym c.is_nothing.ensures ∙ c.if-is_nothing.false) in
    rule_private rows q c.in-NotAccessible.field-0 some ∙ sym (ap (λ (a : Answer). found_rule q (shown rows a)) c.in-NotAccessible.is)

pub returns-in-FromStatic : goal.returns-in-FromStatic
returns-in-FromStatic c =
    let rows = c.args.table.now in
    let q = sought_of c.args.sought in
    let some = subst (λ (a : Answer). is_nothing (shown rows a) ≡ false) c.in-FromStatic.is (sym c.is_nothing.ensures ∙ c.if-is_nothing.false) in
    rule_static rows q c.in-FromStatic.field-0 some ∙ sym (ap (λ (a : Answer). found_rule q (shown rows a)) c.in-FromStatic.is)
