use Rattle.std.proofs.Common.{◌∙◌, ◌-◌, List, length, ap, sym}
use Rattle.std.specs.Option.{option_copied}
use Rattle.std.specs.Prelude.{slice_get}
use Rattle.jr_pexpr.specs.declared.frames.Frame.{Frame}
use Rattle.jr_pexpr.specs.Machine.{needed}
use Rattle.jr_pexpr.proofs.Stacks.{innermost}
use Rattle.jr_pexpr.proofs.stack.Stack.least_level.Goals as goal

pub returns-in-Some : goal.returns-in-Some
returns-in-Some c =
    c.needs.ensures
    ∙ ap needed (sym (innermost c.args.self.now.frames.items _
    (sym (ap option_copied (sym c.in-Some.is) ∙ c.last.ensures.value ∙ ap (λ (fs : List Frame). slice_get fs (length fs - 1)) c.deref.ensures.value))))
