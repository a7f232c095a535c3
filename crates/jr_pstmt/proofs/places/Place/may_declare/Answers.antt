use Rattle.std.proofs.Common.{◌∙◌, ◌-◌, List, length, ap, sym}
use Rattle.std.specs.Option.{option_copied}
use Rattle.std.specs.Prelude.{slice_get}
use Rattle.jr_pstmt.specs.declared.frames.Frame.{Frame}
use Rattle.jr_pstmt.proofs.ListFrames.{may_declare_in}
use Rattle.jr_pstmt.proofs.places.Place.may_declare.Goals as goal

pub returns-in-Some : goal.returns-in-Some
returns-in-Some c =
    c.is_list.ensures
    ∙ may_declare_in c.args.self.now.frames.items _
    (sym (ap option_copied (sym c.in-Some.is) ∙ c.last.ensures.value ∙ ap (λ (fs : List Frame). slice_get fs (length fs - 1)) c.deref.ensures.value))
