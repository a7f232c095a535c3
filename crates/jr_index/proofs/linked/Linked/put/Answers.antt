use Rattle.std.proofs.Common.{◌<◌, ℕ, Option, ap, subst, ◌∙◌}
use Rattle.std.specs.Prelude.{option_and_then, IfSome}
use Rattle.std.proofs.lemmas.List.{length-set}
use Rattle.jr_index.specs.NameTable.{owners}
use Rattle.jr_index.specs.Linked.{place_of}
use Rattle.jr_index.proofs.Linking.{unowned, one_more}
use Rattle.jr_index.proofs.Setting.{set_at, set_there}
use Rattle.jr_index.proofs.linked.Linked.put.Goals as goal

pub put-requires : goal.put-requires
put-requires c = subst (λ o. IfSome o (λ k. k < owners c.args.self.now.firsts)) c.in-Some.is c.requires.owned

pub returns-in_default : goal.returns-in_default
returns-in_default c ps most at known = unowned ps most c.args.number (place_of c.args.place) at c.args.self.now c.in_default.is known

pub returns : goal.returns
returns c ps most at known =
    let ends = c.args.self.now.nexts.items in
    let same : Option ℕ → Option ℕ = λ o. o in
    one_more ps most c.args.number (place_of c.args.place) at c.args.self.now _ c.in-Some.owner c.in-Some.is c.in_ok-next.ensures.found
    (ap (option_and_then same) (set_at ends c.args.number c.in_ok-next.next c.requires.few) ∙ c.in_ok-next.ensures.before)
    (λ j n. ap (option_and_then same) (set_there ends c.args.number j c.in_ok-next.next n))
    c.in_ok-next.ensures.owners (length-set ends c.args.number c.in_ok-next.next) known
