use Rattle.std.proofs.Common.{ℕ, List, Some, cond, ap, ◌∙◌}
use Rattle.std.proofs.lemmas.Result.{on_ok_weaker}
use Rattle.std.specs.Str.{bytes_eq}
use Rattle.jr_index.specs.Names.{named}
use Rattle.jr_scopes.specs.Numbers.{placed}
use Rattle.jr_scopes.specs.Tracked.{name_in, number_in, same_number}
use Rattle.jr_scopes.proofs.Tracking.{finds_push}
use Rattle.jr_scopes.proofs.indexing.PlaceIndex.put.Goals as goal

pub returns : goal.returns
returns c =
    let index = c.args.self.now in
    let ks = c.args.known.now in
    let last = c.args.last.now in
    let place = c.in_ok-place.place in
    let names = finds_push name_in bytes_eq (named index.names) (named c.put.new.self) ks last place c.requires.names c.in_ok-place.ensures
    (λ q. c.in_ok-_before.ensures.put q ∙ ap (λ (n : List ℕ). cond (bytes_eq n q) (Some place) (named index.names q)) c.as_str.ensures) in
    on_ok_weaker c.put-2.result (λ put. record {
      names = names;
      numbers = finds_push number_in same_number (placed index.numbers) (placed c.put-2.new.self) ks last place c.requires.numbers c.in_ok-place.ensures put;
    }) c.put-2.ensures
