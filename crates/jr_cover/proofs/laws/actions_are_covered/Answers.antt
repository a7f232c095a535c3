use Rattle.std.proofs.Common.{IsTrue}
use Rattle.jr_cover.proofs.Cover as cover
use Rattle.jr_cover.proofs.Depending as laws
use Rattle.jr_cover.proofs.laws.actions_are_covered.Goals as goal

pub returns : goal.returns
returns g c = λ X is_outside w P has start answers fuel. laws.covers P.rows (λ p. IsTrue (is_outside p)) w _ (cover.actions_follow_edges X is_outside w P has start answers fuel)
