use Rattle.std.proofs.Common.{sym, subst}
use Rattle.std.specs.Prelude.{IfOk}
use Rattle.jr_lex.specs.Replacing.{IsName}
use Rattle.jr_members.specs.PartView.{written_of}
use Rattle.jr_names.specs.ReplyView.{outcome_of}
use Rattle.jr_local_finds.specs.ValueView.{chosen_of}
use Rattle.jr_extract_local.specs.Plans.{Plans}
use Rattle.jr_extract_local.proofs.Selected.{is_there, member_of}
use Rattle.jr_extract_local.proofs.plans.of_selected.Goals as goal

pub written_at-written-requires : goal.written_at-written-requires
written_at-written-requires g c =
    let of = c.args.request in is_there (g.V.View.program c.args.view.now) of.file of.from of.to of.name.now (chosen_of c.args.selected.now) c.args.number c.requires.found written_of c.args.members.now c.requires.members

pub target_of-target-requires : goal.target_of-target-requires
target_of-target-requires g c =
    let of = c.args.request in
    record {
      file = c.requires.file;
      written = member_of (g.V.View.program c.args.view.now) of.file of.from of.to of.name.now (chosen_of c.args.selected.now) c.args.number c.requires.found written_of c.args.members.now c.requires.members c.written_at-written.result.now c.written_at-written.ensures;
      found = c.requires.found;
    }

pub of_target-requires : goal.of_target-requires
of_target-requires g c = record {
  name = subst (λ r. IsName r.name.now) (sym c.target_of-target.ensures.request) c.requires.name;
  target = c.target_of-target.ensures.target;
}

pub returns : goal.returns
returns g c =
    let p = g.V.View.program c.args.view.now in
    subst (λ r. IfOk c.of_target.result (λ o. Plans p r.file r.from r.to r.name.now (outcome_of o))) c.target_of-target.ensures.request c.of_target.ensures
