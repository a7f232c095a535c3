use Rattle.std.proofs.Common.{◌≡◌, ◌∙◌, ap, Option, Bool, ℕ}
use Rattle.jr_local_search.specs.Scopes.{AtElement}
use Rattle.jr_local_search.specs.Descending.{or_next}
use Rattle.jr_local_search.proofs.scopes.past.Goals as goal

pub returns : goal.returns
returns c =
    let named : c.or_next-named.result ≡ or_next c.args.at.named _ c.args.at.next = c.or_next-named.ensures ∙ ap (λ (b : Bool). or_next c.args.at.named b c.args.at.next) c.declares.ensures in
    λ i. record { next = c.in_ok-next.ensures i; named = named i }
