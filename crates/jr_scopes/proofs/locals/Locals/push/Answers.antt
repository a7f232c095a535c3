use Rattle.std.proofs.Common.{◌∷◌, [], ◌++◌, sym, ap, subst, ◌∙◌}
use Rattle.std.specs.Str.{bytes_eq}
use Rattle.jr_scopes.specs.declared.restoring.Known.{Known}
use Rattle.jr_scopes.specs.Tracked.{name_in, number_in, same_number, KnowsEarlier, IsIndexed}
use Rattle.jr_scopes.proofs.Tracking.{earlier_push}
use Rattle.jr_scopes.proofs.locals.Locals.push.Goals as goal

pub returns-clause-tracked : goal.returns-clause-tracked
returns-clause-tracked c =
    let ks = c.args.self.now.known.items in
    let last : Known = record { held = c.args.held; named = c.place_named.result; numbered = c.place_numbered.result } in
    let pushed = sym c.in_ok-push.ensures.items in
    record {
      names = subst (KnowsEarlier name_in bytes_eq (λ k. k.named)) pushed (earlier_push name_in bytes_eq (λ k. k.named) ks last c.requires.names c.place_named.ensures);
      numbers = subst (KnowsEarlier number_in same_number (λ k. k.numbered)) pushed (earlier_push number_in same_number (λ k. k.numbered) ks last c.requires.numbers c.place_numbered.ensures);
      indexed = subst (IsIndexed c.index_behind.new.index) (ap (λ all. all ++ last ∷ []) c.deref.ensures.value ∙ pushed) c.in_ok-index_behind.ensures;
    }
