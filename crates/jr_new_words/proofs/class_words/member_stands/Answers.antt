use Rattle.std.proofs.lemmas.Result.{IfOk-weaker}
use Rattle.jr_table.specs.TypeView.{class_key_of}
use Rattle.jr_table.specs.Lookup.{FindsLeftOf, shown}
use Rattle.jr_new_words.specs.Scopes.{rows_to, place_to}
use Rattle.jr_new_words.proofs.Kept.{moved}
use Rattle.jr_new_words.proofs.class_words.member_stands.Goals as goal

pub returns : goal.returns
returns c =
    let s = c.args.scopes.now in
    let k = class_key_of c.args.class.now in
    let name = c.args.name.now in
    let a = c.next_answer.result in
    let finds : FindsLeftOf (rows_to s) (place_to s) k name (shown (rows_to s) a) = moved s c.requires (λ rows x. FindsLeftOf rows x k name (shown rows a)) c.next_answer.ensures in
    IfOk-weaker c.answer_stands.result _ _ (λ w h. (shown (rows_to s) a, finds, h)) c.answer_stands.ensures
