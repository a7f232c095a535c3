use Rattle.std.proofs.Common.{◌≡◌, ap, subst, ◌∙◌}
use Rattle.std.specs.Prelude.{OnOk}
use Rattle.jr_names.specs.DeclTexts.{member_text}
use Rattle.jr_dependence_lines.specs.Tallies.{PutsGraph}
use Rattle.jr_dependence_lines.proofs.file_lines.put_bound.Goals as goal

pub returns : goal.returns
returns c =
    let head : c.as_str.result.now ≡ member_text c.args.bound.now.bound.member = c.as_str.ensures.value ∙ c.in_ok-head.ensures ∙ ap member_text c.member.ensures in
    subst (λ h. OnOk c.put_graph.result (PutsGraph h c.args.bound.now.start c.args.graph.now c.args.tally.now c.put_graph.new.tally)) head c.put_graph.ensures
