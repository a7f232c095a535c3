use Rattle.std.proofs.Common.{ℕ, sym, ◌∙◌}
use Rattle.jr_bind_parts.proofs.Statics.{static_here, static_behind, no_static}
use Rattle.jr_new_files.proofs.words.is_static.Goals as goal

pub returns-then-is_static_word : goal.returns-then-is_static_word
returns-then-is_static_word g c =
    let B = λ (m : g.row.A.Denot) (b : ℕ). (g.A.Mark.span_from m b).from in
    static_here B c.args.modifiers.now c.loop-modifier.modifier-index c.modifier-item.result c.loop-modifier-test.true c.modifier-item.is (sym c.is_static_word.ensures ∙ c.if-is_static_word.true) ∙ c.loop-modifier.invariant

pub loop-modifier-preserved : goal.loop-modifier-preserved
loop-modifier-preserved g c =
    let B = λ (m : g.row.A.Denot) (b : ℕ). (g.A.Mark.span_from m b).from in
    static_behind B c.args.modifiers.now c.loop-modifier.modifier-index c.modifier-item.result c.loop-modifier-test.true c.modifier-item.is (sym c.is_static_word.ensures ∙ c.if-is_static_word.false) ∙ c.loop-modifier.invariant

pub returns : goal.returns
returns g c =
    let B = λ (m : g.row.A.Denot) (b : ℕ). (g.A.Mark.span_from m b).from in
    no_static B c.args.modifiers.now c.loop-modifier.modifier-index c.loop-modifier-test.false ∙ c.loop-modifier.invariant
