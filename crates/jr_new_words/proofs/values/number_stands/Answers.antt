use Rattle.std.proofs.Common.{sym}
use Rattle.std.proofs.lemmas.Result.{IfOk-weaker}
use Rattle.jr_scopes.specs.Helds.{held_of}
use Rattle.jr_scopes.specs.Tracked.{helds_of}
use Rattle.jr_new_words.specs.FrontView.{in_front_of}
use Rattle.jr_new_words.specs.Mappings.{member_to}
use Rattle.jr_new_words.specs.Scopes.{rows_of, mapping_of, member_of, context_of}
use Rattle.jr_new_words.proofs.ValuesInFront as values
use Rattle.jr_new_words.proofs.values.number_stands.Goals as goal

pub returns-in-None : goal.returns-in-None
unfolding context_of
returns-in-None c =
    let s = c.args.scopes.now in
    values.no_local (rows_of s) (mapping_of s) (context_of s) (member_to (mapping_of s) (member_of s)) (helds_of s.renamed) (sym c.requires.renamed) c.args.number (sym c.in-None.ensures)

pub returns-in-Some : goal.returns-in-Some
unfolding context_of
returns-in-Some c =
    let s = c.args.scopes.now in
    let h = held_of c.in-Some.held.now in
    IfOk-weaker c.held_value.result _ _ (λ w v. values.local_value (rows_of s) (mapping_of s) (context_of s) (member_to (mapping_of s) (member_of s)) (helds_of s.renamed) (sym c.requires.renamed) c.args.number h (sym c.in-Some.ensures) (in_front_of w) v) c.held_value.ensures
