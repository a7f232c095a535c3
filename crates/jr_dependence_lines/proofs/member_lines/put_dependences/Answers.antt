use Rattle.std.proofs.Common.{◌<◌, List, length, sym, ap, subst}
use Rattle.std.specs.Prelude.{All}
use Rattle.std.proofs.lemmas.Result.{on_ok_weaker}
use Rattle.jr_dependences.specs.declared.dependence.Dependence.{Dependence}
use Rattle.jr_dependence_lines.specs.Tallies.{all_told}
use Rattle.jr_dependence_lines.proofs.Counting.{puts_as}
use Rattle.jr_dependence_lines.proofs.Listing.{all_within}
use Rattle.jr_dependence_lines.proofs.member_lines.put_dependences.Goals as goal

pub put_lines-requires : goal.put_lines-requires
put_lines-requires c =
    let n = length c.args.texts.now.places.now in
    subst (λ (l : List Dependence). All (λ d. (d.first < n) × (d.second < n)) l) (sym c.deref.ensures.value)
    (all_within c.args.of.now n c.requires c.in_ok-list.list.items (record { ordered = c.in_ok-list.ensures.ordered; exact = c.in_ok-list.ensures.exact }))

pub returns : goal.returns
returns c =
    let head = c.args.texts.now.head.now in
    let places = c.args.texts.now.places.now in
    let list = c.in_ok-list.list.items in
    on_ok_weaker c.put_lines.result
    (λ h. (list, record { ordered = c.in_ok-list.ensures.ordered; exact = c.in_ok-list.ensures.exact }, puts_as c.args.tally.now c.put_lines.new.tally _ (all_told head places list) (ap (all_told head places) c.deref.ensures.value) h))
    c.put_lines.ensures
