use Rattle.std.proofs.Common.{Option, ◌∙◌, ap, sym, subst, map, option_map, ℕ}
use Rattle.jr_table.specs.Faults.{Place, ParamTwice, params_of}
use Rattle.jr_table.specs.Keys.{ClassKey, Ty}
use Rattle.jr_table.specs.DeclaredItems.{Written}
use Rattle.jr_table.specs.Resolving.{Means}
use Rattle.jr_build_rows.specs.declared.signatures.Signature as raw
use Rattle.jr_build_hierarchy.specs.HierarchyView.{hierarchy_of}
use Rattle.jr_build_places.specs.Places.{place_of, IsEarlier}
use Rattle.jr_build_declared.specs.DeclarationFaults.{IsLeastAt}
use Rattle.jr_build_rows.specs.Signatures.{TwiceMemberAt, number_under, member_twice}
use Rattle.jr_build_declared.specs.DeclaredView.{declaration_of, item_of}
use Rattle.jr_build_rows.specs.TypeFaults.{lesser}
use Rattle.jr_build_declared.proofs.Earliest as earliest
use Rattle.jr_build_declared.proofs.DeclarationFaultLaws as laws
use Rattle.jr_build_rows.proofs.TwiceMemberLaws as members
use Rattle.jr_build_rows.proofs.twice_members.twice_member.Goals as goal

pub loop-number-init : goal.loop-number-init
loop-number-init c = record {
  first = earliest.none_among (map declaration_of c.args.declarations.now) (TwiceMemberAt (map declaration_of c.args.declarations.now));
  index = members.none_known (map declaration_of c.args.declarations.now) (hierarchy_of c.args.h.now) c.new-index.result c.new-index.ensures;
}

pub loop-number-preserved : goal.loop-number-preserved
loop-number-preserved c =
    let declarations = map declaration_of c.args.declarations.now in
    let h = hierarchy_of c.args.h.now in
    let n = c.loop-number.number in
    let declaration = c.index-declarations-number.result in
    let item = item_of declaration.item in
    let at = earliest.map_stands declaration_of c.args.declarations.now n declaration c.loop-number-test.true c.index-declarations-number.is in
    let again = members.again_or_not declarations h c.requires.known n item c.in_ok-signature.signature c.loop-number.index c.in_ok-before.before
    c.in_ok-signature.ensures c.in_ok-before.ensures.before c.loop-number.invariant.index in
    let in_params = subst (λ ps. IsLeastAt (ParamTwice ps) c.in_ok-in_params.in_params) c.params_of.ensures c.in_ok-in_params.ensures in
    let own = subst (IsLeastAt (TwiceMemberAt declarations n item)) (sym (c.lesser_of-at.ensures ∙ ap (λ o. lesser o c.in_ok-in_params.in_params) c.member_twice_at.ensures))
    (members.twice_or_not declarations h c.requires.known n item (member_twice item c.in_ok-before.before) c.in_ok-in_params.in_params again in_params) in
    let E : Option Place → Type 0 = λ o. IsEarlier (option_map place_of c.loop-number.first) o
    (option_map place_of c.earlier-first.result) in
    record {
      first = earliest.one_more declarations (TwiceMemberAt declarations) n declaration.file item (option_map place_of c.loop-number.first)
          c.lesser_of-at.result (option_map place_of c.earlier-first.result) at c.loop-number.invariant.first own
          (subst E c.in_file.ensures c.earlier-first.ensures);
      index = members.one_known declarations h n declaration.file n item c.in_ok-signature.signature c.loop-number.index c.put.new.self at
          c.in_ok-signature.ensures c.in_ok-before.ensures.put c.loop-number.invariant.index;
    }

pub returns : goal.returns
returns c = λ packages. members.twice_members (map declaration_of c.args.declarations.now) packages c.loop-number.number
    (laws.past c.args.declarations.now c.loop-number.number c.loop-number-test.false)
    (option_map place_of c.loop-number.first) c.loop-number.invariant.first
