use Rattle.std.proofs.Common.{IsTrue}
use Rattle.jr_effect.proofs.RunCovers.{trace_covered}
use Rattle.jr_effect.proofs.laws.lists_cover.Goals as goal

pub returns : goal.returns
returns g c X is_outside w P has key local one_key one_local edges same list exact start answers fuel =
    trace_covered P.rows key local one_key one_local w edges same list exact (λ p. IsTrue (is_outside p)) _ (c.actions_are_covered.ensures X is_outside w P has start answers fuel)
