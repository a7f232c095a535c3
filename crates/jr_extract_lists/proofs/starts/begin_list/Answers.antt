use Rattle.std.proofs.Common.{map}
use Rattle.jr_rewrite.specs.ChangeView.{changes_of}
use Rattle.jr_new_words.specs.ChoiceView.{lost_of}
use Rattle.jr_new_bodies.specs.Effects.{Effect}
use Rattle.jr_extract_lists.proofs.starts.begin_list.Goals as goal

pub returns : goal.returns
returns c = λ i.
    let made : Effect = record {
      changes = changes_of (c.in_ok-changes.ensures i);
      respelled = c.in_ok-all.ensures i;
      losses = map lost_of c.args.piece.losses.items;
    } in
    made
