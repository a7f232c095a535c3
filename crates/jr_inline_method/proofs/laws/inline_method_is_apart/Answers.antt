use Rattle.jr_inline_method.proofs.Apart as apart
use Rattle.jr_inline_method.proofs.laws.inline_method_is_apart.Goals as goal

pub returns : goal.returns
returns c = apart.inline_method_is_apart
