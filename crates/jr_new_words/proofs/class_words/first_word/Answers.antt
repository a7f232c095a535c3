use Rattle.std.proofs.Common.{subst}
use Rattle.std.specs.Result.{IfOk}
use Rattle.jr_table.specs.Keys.{ClassKey}
use Rattle.jr_table.specs.Found.{Found}
use Rattle.jr_table.specs.Lookup.{FindsLeft}
use Rattle.jr_new_words.specs.Mappings.{StandsSo}
use Rattle.jr_new_words.specs.FrontView.{in_front_of}
use Rattle.jr_new_words.specs.Scopes.{rows_of, mapping_of, context_of, rows_to, place_to}
use Rattle.jr_new_words.proofs.class_words.first_word.Goals as goal

pub returns : goal.returns
returns c =
    let s = c.args.scopes.now in
    subst (λ (m : ClassKey). IfOk c.first_named.result (λ w. (f : Found) × FindsLeft (rows_to s) (place_to s) m.name f × StandsSo (rows_of s) (mapping_of s) (context_of s) f (in_front_of w))) c.in_ok-image.ensures c.first_named.ensures
