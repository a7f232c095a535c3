use Rattle.jr_code.proofs.OneBody.{all_once}
use Rattle.jr_code.proofs.laws.code_is_one.Goals as goal

pub returns : goal.returns
returns g c begins ends rows super_at are = all_once begins ends rows are (c.lookups_are_exact.ensures.one rows are)
    (λ d. c.types_are_exact.ensures.bound rows are (c.lookups_are_exact.ensures.keys rows are) d) super_at
