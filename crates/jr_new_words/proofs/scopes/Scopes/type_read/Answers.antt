use Rattle.std.proofs.Common.{sym, ap, ◌∙◌}
use Rattle.std.specs.Prelude.{option_map}
use Rattle.jr_scopes.specs.Helds.{key_of}
use Rattle.jr_new_words.specs.Mappings.{type_for}
use Rattle.jr_new_words.specs.MappingView.{gone_of}
use Rattle.jr_new_words.specs.Scopes.{member_of}
use Rattle.jr_new_words.proofs.Kept.{own_last}
use Rattle.jr_new_words.proofs.scopes.Scopes.type_read.Goals as goal

pub returns : goal.returns
returns c =
    let s = c.args.self.now in
    let k = member_of s in
    c.type_for.ensures k ∙ ap (type_for (gone_of c.args.gone.now)) (ap (option_map (key_of k)) c.number_named.ensures ∙ sym (own_last s c.args.name.now))
