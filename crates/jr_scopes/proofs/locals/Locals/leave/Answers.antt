use Rattle.std.proofs.Common.{◌∷◌, [], ◌++◌, subst, eqb-true}
use Rattle.std.proofs.lemmas.Result.{on_ok_weaker}
use Rattle.std.specs.Cmp.Lexicographic.{bytes_decides}
use Rattle.std.specs.Str.{bytes_eq}
use Rattle.jr_index.specs.Names.{named}
use Rattle.jr_scopes.specs.Numbers.{placed}
use Rattle.jr_scopes.specs.Tracked.{name_in, number_in, same_number, KnowsEarlier, Finds, IsIndexed}
use Rattle.jr_scopes.proofs.Tracking.{earlier_pop, finds_pop}
use Rattle.jr_scopes.proofs.locals.Locals.leave.Goals as goal

pub returns-in-Some-index-clause-tracked : goal.returns-in-Some-index-clause-tracked
returns-in-Some-index-clause-tracked c =
    let all = c.args.self.now.known.items in
    let ks = c.pop.new.self.items in
    let last = c.in-Some.last in
    let old = c.in-Some-index.index in
    let new = c.restore.new.self in
    let popped = c.in-Some.ensures.items in
    let names = subst (KnowsEarlier name_in bytes_eq (λ k. k.named)) popped c.requires.names in
    let numbers = subst (KnowsEarlier number_in same_number (λ k. k.numbered)) popped c.requires.numbers in
    let finds : Finds old (ks ++ last ∷ []) = subst (Finds old) popped (subst (λ index. IsIndexed index all) c.in-Some-index.is c.requires.indexed) in
    on_ok_weaker c.restore.result (λ put. record {
      names = earlier_pop name_in bytes_eq (λ k. k.named) ks last names;
      numbers = earlier_pop number_in same_number (λ k. k.numbered) ks last numbers;
      indexed = record {
        names = finds_pop name_in bytes_eq (λ k. k.named) (λ a b h. (bytes_decides a b).0 h) (named old.names) (named new.names) ks last finds.names names put.names;
        numbers = finds_pop number_in same_number (λ k. k.numbered) (λ a b h. eqb-true a b h) (placed old.numbers) (placed new.numbers) ks last finds.numbers numbers put.numbers;
      };
    }) c.restore.ensures
