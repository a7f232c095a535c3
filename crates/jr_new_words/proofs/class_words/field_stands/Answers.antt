use Rattle.std.proofs.Common.{sym}
use Rattle.std.proofs.lemmas.Result.{IfOk-weaker}
use Rattle.jr_table.specs.TypeView.{class_key_of}
use Rattle.jr_table.specs.Lookup.{FindsFieldIn, shown}
use Rattle.jr_lookup.specs.ScopeView.{scope_of}
use Rattle.jr_new_words.specs.Scopes.{rows_to, place_to}
use Rattle.jr_new_words.proofs.Kept.{moved}
use Rattle.jr_new_words.proofs.class_words.field_stands.Goals as goal

pub returns : goal.returns
returns c =
    let s = c.args.scopes.now in
    let table = s.programs.after.now in
    let k = class_key_of c.args.class.now in
    let name = c.args.name.now in
    let a = c.field_answer.result in
    let keys = c.lookups_are_exact.ensures.keys table c.keeps_rows.ensures in
    let here = (keys.field_in (scope_of s.after) k name (shown table a)).0 (sym c.field_answer.ensures) in
    let finds : FindsFieldIn (rows_to s) (place_to s) k name (shown (rows_to s) a) = moved s c.requires (λ rows x. FindsFieldIn rows x k name (shown rows a)) here in
    IfOk-weaker c.answer_stands.result _ _ (λ w h. (shown (rows_to s) a, finds, h)) c.answer_stands.ensures
