use Rattle.std.proofs.Common.{subst}
use Rattle.std.specs.Result.{IfOk}
use Rattle.jr_table.specs.Keys.{ClassKey}
use Rattle.jr_table.specs.Found.{Found}
use Rattle.jr_new_words.specs.Mappings.{FindsNext, StandsSo}
use Rattle.jr_new_words.specs.FrontView.{in_front_of}
use Rattle.jr_new_words.specs.Scopes.{rows_of, mapping_of, context_of}
use Rattle.jr_new_words.proofs.class_words.next_word.Goals as goal

pub returns : goal.returns
returns c =
    let s = c.args.scopes.now in
    subst (λ (m : ClassKey). IfOk c.next_named.result (λ w. (f : Found) × FindsNext (rows_of s) (mapping_of s) (context_of s) (in_front_of c.args.front.now) m.name f × StandsSo (rows_of s) (mapping_of s) (context_of s) f (in_front_of w))) c.in_ok-image.ensures c.next_named.ensures
