use Rattle.jr_lex.specs.Places.{ItemsPlaced}
use Rattle.jr_grammar.specs.Tokens.{placed_of}
use Rattle.jr_program_laws.specs.PlaceLaws.{FilesAreInOrder}
use Rattle.std.proofs.Common.{length}
use Rattle.jr_program_laws.proofs.ItemTokens.{tokens_rise, tokens_within}
use Rattle.jr_program_laws.proofs.FileOrder.{unit_order}
use Rattle.jr_program_laws.proofs.place_laws.files_are_in_order.Goals as goal

in_order : ItemsPlaced → FilesAreInOrder
in_order placed units file text items is = unit_order is.unit (placed_of text items) (length text) (tokens_rise text placed items is.lexes) (tokens_within text placed items is.lexes) is.is.marks

pub returns : goal.returns
returns c = in_order c.items_are_placed.ensures.items
