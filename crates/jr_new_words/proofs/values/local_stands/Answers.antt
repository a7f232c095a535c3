use Rattle.std.proofs.Common.{◌≡◌, sym, ap, subst, ◌∙◌}
use Rattle.std.specs.Result.{IfOk}
use Rattle.jr_table.specs.KeyView.{local_key_of}
use Rattle.jr_table.specs.Decls.{LocalKey, MemberKey, local_decl}
use Rattle.jr_table.specs.Found.{one}
use Rattle.jr_scopes.specs.Helds.{key_of}
use Rattle.jr_scopes.specs.Tracked.{helds_of}
use Rattle.jr_new_words.specs.Mappings.{member_to, StandsSo}
use Rattle.jr_new_words.specs.FrontView.{in_front_of}
use Rattle.jr_new_words.specs.Scopes.{rows_of, mapping_of, member_of, context_of}
use Rattle.jr_new_words.proofs.ValuesInFront as values
use Rattle.jr_new_words.proofs.values.local_stands.Goals as goal

pub returns-then-eq : goal.returns-then-eq
returns-then-eq c =
    let s = c.args.scopes.now in
    let n = c.args.key.now.number in
    let same : local_key_of c.args.key.now ≡ key_of (member_to (mapping_of s) (member_of s)) n = ap (λ (k : MemberKey). key_of k n) (c.eq.ensures.0 c.if-eq.true ∙ c.requires.image) in
    subst (λ (k : LocalKey). IfOk c.number_stands.result (λ w. StandsSo (rows_of s) (mapping_of s) (context_of s) (one (local_decl k)) (in_front_of w))) (sym same) c.number_stands.ensures

pub returns-else-eq : goal.returns-else-eq
unfolding context_of
returns-else-eq c =
    let s = c.args.scopes.now in
    values.foreign (rows_of s) (mapping_of s) (context_of s) (member_to (mapping_of s) (member_of s)) (helds_of s.renamed) (sym c.requires.renamed) (local_key_of c.args.key.now)
    (λ e. let t = c.eq.ensures.1 (e ∙ sym c.requires.image) in let f = c.if-eq.false in absurd cc)
