use Rattle.std.proofs.Common.{subst}
use Rattle.std.specs.Result.{IfOk}
use Rattle.jr_table.specs.Keys.{ClassKey}
use Rattle.jr_table.specs.TypeView.{class_key_of}
use Rattle.jr_new_words.specs.ChoiceView.{choice_of}
use Rattle.jr_new_words.specs.Chosen.{MemberClassBehind}
use Rattle.jr_new_words.specs.FrontView.{in_front_of}
use Rattle.jr_new_words.specs.Scopes.{rows_of, mapping_of, context_of}
use Rattle.jr_new_words.proofs.classes.leading_in.Goals as goal

pub returns : goal.returns
returns c =
    let s = c.args.scopes.now in
    subst (λ (n : ClassKey). IfOk c.leading_behind.result (λ h. MemberClassBehind (rows_of s) (mapping_of s) (context_of s) c.args.at (in_front_of c.args.front.now) n c.args.old.now (class_key_of c.args.key.now) (choice_of h)))
    c.in_ok-on.ensures c.leading_behind.ensures
