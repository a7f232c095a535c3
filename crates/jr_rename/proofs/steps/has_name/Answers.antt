use Rattle.std.proofs.Common.{sym, ◌∙◌}
use Rattle.std.proofs.lemmas.Slice.Eq.{bytes_eq-Decides}
use Rattle.jr_rename.proofs.Naming.{has, told_is}
use Rattle.jr_rename.proofs.steps.has_name.Goals as goal

pub returns : goal.returns
returns g c =
    let p = g.V.View.program c.args.view.now in
    let told = c.name.result.now in
    let d = bytes_eq-Decides told c.as_str.result.now in (
      λ h. has p c.args.name.now c.args.number told c.name.ensures (d.0 (sym c.eq.ensures ∙ h) ∙ c.as_str.ensures),
      λ h. c.eq.ensures ∙ d.1 (told_is p c.args.name.now c.args.number told c.name.ensures h ∙ sym c.as_str.ensures),
    )
