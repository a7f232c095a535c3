use Rattle.std.proofs.Common.{◌↔◌, IsTrue, subst}
use Rattle.jr_table.specs.Context.{NamesClass}
use Rattle.jr_lookup.specs.ScopeView.{scope_of}
use Rattle.jr_spell.specs.ReferenceView.{reference_of}
use Rattle.jr_spell.specs.Binds.{front_word, last_word}
use Rattle.std.specs.Result.{IfOk}
use Rattle.jr_spell.proofs.binding.as_written.Goals as goal

pub returns : goal.returns
returns c =
    let rows = c.args.table.now in
    let s = scope_of c.args.scope.now in
    let r = reference_of c.args.reference.now in
    subst (λ k. IfOk c.is_type_text.result (λ b. IsTrue b ↔ NamesClass rows s (front_word r.asked) (last_word r.asked) k)) c.declaring_class.ensures c.is_type_text.ensures
