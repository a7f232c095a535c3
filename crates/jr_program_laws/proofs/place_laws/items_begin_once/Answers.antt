use Rattle.jr_program_laws.proofs.ItemTokens as ItemTokens
use Rattle.jr_program_laws.proofs.place_laws.items_begin_once.Goals as goal

pub returns : goal.returns
returns c text items lexes i j x y e f same = ItemTokens.items_begin_once text c.items_are_placed.ensures.items items lexes i j x y e f same
