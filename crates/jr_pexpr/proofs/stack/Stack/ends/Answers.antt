use Rattle.std.proofs.Common.{◌∙◌, ◌≡◌, ◌-◌, ◌&&◌, ◌==◌, Bool, Some, List, length, ap, sym}
use Rattle.std.specs.Option.{option_copied}
use Rattle.std.specs.Prelude.{slice_get}
use Rattle.jr_pexpr.specs.declared.frames.Frame.{Frame}
use Rattle.jr_pexpr.proofs.Stacks.{ends_then, ends_else}
use Rattle.jr_pexpr.proofs.stack.Stack.ends.Goals as goal

pub returns-then-ends_when : goal.returns-then-ends_when
returns-then-ends_when c =
    let fs = c.args.self.now.frames.items in
    let at : slice_get fs (length fs - 1) ≡ Some c.in-Some.frame.now = sym (ap option_copied (sym c.in-Some.is) ∙ c.last.ensures.value ∙ ap (λ (fs : List Frame). slice_get fs (length fs - 1)) c.deref.ensures.value) in
    ends_then c.args.is_target fs c.in-Some.frame.now c.args.self.now.waiting at c.args.self.now.counted (sym c.ends_when.ensures ∙ c.if-ends_when.true)

pub returns-else-ends_when : goal.returns-else-ends_when
returns-else-ends_when c =
    let fs = c.args.self.now.frames.items in
    let at : slice_get fs (length fs - 1) ≡ Some c.in-Some.frame.now = sym (ap option_copied (sym c.in-Some.is) ∙ c.last.ensures.value ∙ ap (λ (fs : List Frame). slice_get fs (length fs - 1)) c.deref.ensures.value) in
    ap (λ (b : Bool). b && (c.args.self.now.waiting == 1)) c.ends_when-else-ends_when.ensures
    ∙ ends_else c.args.is_target fs c.in-Some.frame.now c.args.self.now.waiting at c.args.self.now.counted (sym c.ends_when.ensures ∙ c.if-ends_when.false)
