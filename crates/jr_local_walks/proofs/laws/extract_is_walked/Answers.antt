use Rattle.jr_local_walks.proofs.Extracting as extracting
use Rattle.jr_local_walks.proofs.laws.extract_is_walked.Goals as goal

pub returns : goal.returns
returns c = extracting.extract_is_walked
