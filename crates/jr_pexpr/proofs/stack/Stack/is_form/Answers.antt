use Rattle.std.proofs.Common.{◌∙◌, List, ap, sym, refl}
use Rattle.std.specs.Option.{option_copied}
use Rattle.std.specs.Prelude.{slice_get}
use Rattle.jr_pexpr.specs.declared.frames.Frame.{Frame}
use Rattle.jr_pexpr.specs.Machine.{is_bottom}
use Rattle.jr_pexpr.specs.Stacks.{is_form}
use Rattle.jr_pexpr.proofs.Stacks.{outermost}
use Rattle.jr_pexpr.proofs.stack.Stack.is_form.Goals as goal

pub returns-in-Some : goal.returns-in-Some
returns-in-Some c =
    c.is_bottom.ensures
    ∙ sym (outermost (is_form c.args.is_statement) is_bottom (λ f. refl) (λ f g fs. refl) c.args.self.now.frames.items _
    (sym (ap option_copied (sym c.in-Some.is) ∙ c.first.ensures.value ∙ ap (λ (fs : List Frame). slice_get fs 0) c.deref.ensures.value)))
