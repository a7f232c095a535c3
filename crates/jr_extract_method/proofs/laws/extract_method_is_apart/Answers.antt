use Rattle.jr_extract_method.proofs.Apart as apart
use Rattle.jr_extract_method.proofs.laws.extract_method_is_apart.Goals as goal

pub returns : goal.returns
returns c = apart.extract_method_is_apart
