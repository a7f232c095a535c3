use Rattle.std.proofs.Common.{refl, ap, ◌∙◌}
use Rattle.jr_table.specs.Errors.{Part, part_mark}
use Rattle.jr_members.specs.PartView.{written_of}
use Rattle.jr_local_finds.specs.ValueView.{chosen_of}
use Rattle.jr_local_finds.proofs.ExtractPlaces.{is_bound_there}
use Rattle.jr_extract_lists.proofs.FoundTargets.{text_is, lexes_are}
use Rattle.jr_extract_lists.proofs.targets.target_of.Goals as goal

pub bound-facts-requires : goal.bound-facts-requires
bound-facts-requires g c =
    let p = g.V.View.program c.args.view.now in
    let of = c.args.request in
    is_bound_there p of.file of.from of.to (chosen_of c.args.selected.now) c.requires.found.selected.has

pub member_in-member-requires : goal.member_in-member-requires
member_in-member-requires g c = c.requires.written.is_member

pub returns-clause-target : goal.returns-clause-target
returns-clause-target g c =
    let p = g.V.View.program c.args.view.now in
    let of = c.args.request in
    record {
      program = c.keeps_program.ensures;
      chosen = chosen_of c.args.selected.now;
      found = c.requires.found;
      written = written_of c.args.written.now;
      member_is = c.requires.written;
      part = c.member_in-member.ensures;
      value = refl;
      type = refl;
      path = refl;
      list = refl;
      code = refl;
      bound = c.bound-facts.ensures;
      is_static = c.has_no_object-is_static.ensures;
      from = c.first_byte-from.ensures ∙ ap (λ (q : Part _). (part_mark q).from) c.member_in-member.ensures;
      keys = refl;
      before = c.table-table.ensures;
      after = c.table-table.ensures;
      text = text_is p of.file c.text-text.result.now c.requires.file c.text-text.ensures;
      lexes = lexes_are p of.file c.text-text.result.now c.items-items.result.now c.requires.file c.text-text.ensures c.items-items.ensures;
    }

pub returns-clause-request : goal.returns-clause-request
returns-clause-request g c = refl
