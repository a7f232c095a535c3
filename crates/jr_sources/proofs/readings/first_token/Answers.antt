use Rattle.std.proofs.Common.{◌≡◌, get_or, sym, ◌∙◌}
use Rattle.std.proofs.lemmas.Option.{slice_get-get_or}
use Rattle.jr_lex.specs.declared.items.Item.{Item}
use Rattle.jr_lex.specs.declared.items.ItemKind.TheVariants as item
use Rattle.jr_lex.specs.declared.items.TokenKind.TheVariants as token
use Rattle.jr_sources.proofs.FirstTokens.{at_token}
use Rattle.jr_sources.proofs.readings.first_token.Goals as goal

abbrev none : Item
none = record { kind = item.Token token.Word; span = record { from = 0; to = 0 } }

pub returns-in-Token : goal.returns-in-Token
returns-in-Token c =
    sym (at_token c.args.items.now c.loop-item.item-index (get_or c.args.items.now c.loop-item.item-index none) (slice_get-get_or c.args.items.now c.loop-item.item-index none c.loop-item-test.true) c.in-Token.field-0 c.in-Token.is)
    ∙ c.loop-item.invariant
