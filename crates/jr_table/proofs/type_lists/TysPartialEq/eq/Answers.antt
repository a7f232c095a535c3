use Rattle.std.proofs.Common.{sym, ◌∙◌}
use Rattle.jr_table.specs.TypeView.{ty_of}
use Rattle.jr_table.specs.SameKeys.{same_ty, same_types, types_decide}
use Rattle.jr_table.proofs.SameLists.{pointwise-on}
use Rattle.jr_table.proofs.type_lists.TysPartialEq.eq.Goals as goal

pub returns : goal.returns
returns c =
    let is = c.eq.ensures ∙ pointwise-on ty_of same_ty c.as_slice.result.now c.as_slice-2.result.now ∙ (λ i. same_types (c.as_slice.ensures i) (c.as_slice-2.ensures i)) in
    let decides = types_decide c.args.self.now c.args.other.now in
    (λ t. decides.0 (sym is ∙ t), λ e. is ∙ decides.1 e)
