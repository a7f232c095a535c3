use Rattle.std.proofs.Common.{map, None, ap, sym, ◌∙◌}
use Rattle.jr_table.specs.KeyView.{member_key_of}
use Rattle.jr_scopes.specs.Helds.{held_of, local_of}
use Rattle.jr_new_words.specs.MappingView.{keys_of, numbers_of}
use Rattle.jr_new_words.specs.Mappings.{Mapping, class_by}
use Rattle.jr_new_words.specs.Scopes.{context_of}
use Rattle.jr_new_words.proofs.Images.{rows_are}
use Rattle.jr_new_words.proofs.Growing.{first_new, first_deep, first_depths}
use Rattle.jr_new_words.proofs.scopes.Scopes.begin_with.Goals as goal

pub returns-clause-kept : goal.returns-clause-kept
returns-clause-kept c =
    let t = c.args.tables.now in
    let k = member_key_of c.args.member.now in
    let m : Mapping = record { keys = keys_of t.keys; locals = numbers_of c.args.numbers; new = t.after.now } in
    let none = ap (map held_of) c.new.ensures.locals in
    record {
      rows = rows_are (keys_of t.keys) t.before.now t.after.now c.requires.tables;
      images = c.requires.tables;
      class = c.bare-before.ensures.class ∙ c.in_ok-copy.ensures ∙ c.class_of_member-class.ensures;
      no_locals = c.bare-before.ensures.locals;
      image = c.in_ok-image.ensures;
      image_class = c.bare-after.ensures.class ∙ c.in_ok-class_to.ensures ∙ ap (class_by (keys_of t.keys)) c.class_of_member-class.ensures;
      image_static = c.bare-after.ensures.is_static ∙ sym c.bare-before.ensures.is_static;
      image_locals = c.bare-after.ensures.locals;
      tracked = c.new.ensures.tracked;
      renamed_tracked = c.new-2.ensures.tracked;
      renamed = first_new m k c.requires.bare _ _ none (ap (map held_of) c.new-2.ensures.locals);
      deep = first_deep m.locals c.requires.bare _ none;
      depths = first_depths m m.locals k _ _ none c.new-3.ensures.items;
    }

pub returns-clause-context : goal.returns-clause-context
unfolding context_of
returns-clause-context c = λ i. record {
  member = member_key_of c.args.member.now;
  is_static = c.bare-before.ensures.is_static i;
  locals = map (local_of (member_key_of c.args.member.now)) (map held_of (c.new.ensures.locals i));
  own = None;
}
