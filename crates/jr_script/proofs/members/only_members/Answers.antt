use Rattle.std.proofs.Common.{OnOk, subst}
use Rattle.serde_json.specs.View.{view, members_view}
use Rattle.jr_script.specs.Steps.{HasOnly}
use Rattle.jr_script.proofs.MemberLaws.{object_from}
use Rattle.jr_script.proofs.NameLaws.{texts_of}
use Rattle.jr_script.proofs.members.only_members.Goals as goal

pub returns-in-Some-clause-ok : goal.returns-in-Some-clause-ok
returns-in-Some-clause-ok c =
    subst (λ d. OnOk c.only_names.result (HasOnly d (texts_of c.args.names.now))) (object_from (view c.args.element.now) (members_view c.in-Some.members.now.entries) c.in-Some.ensures) c.only_names.ensures.ok
