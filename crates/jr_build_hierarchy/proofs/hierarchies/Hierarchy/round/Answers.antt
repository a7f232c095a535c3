use Rattle.std.proofs.Common.{◌≡◌, ◌<◌, refl, sym, map, length}
use Rattle.std.proofs.lemmas.List.{length-map}
use Rattle.jr_table.specs.Faults.{At}
use Rattle.jr_build_declared.specs.DeclaredView.{declaration_of, item_of}
use Rattle.jr_build_hierarchy.specs.HierarchyView.{hierarchy_of}
use Rattle.jr_build_declared.proofs.Earliest.{map_stands}
use Rattle.jr_build_declared.proofs.DeclarationFaultLaws.{past}
use Rattle.jr_build_hierarchy.proofs.HierarchyLaws.{parents_size}
use Rattle.jr_build_hierarchy.proofs.Rounds.{in_reach, none_settled, all_settled, still_knows, not_more, one_settled, one_fewer}
use Rattle.jr_build_hierarchy.proofs.hierarchies.Hierarchy.round.Goals as goal

pub loop-number-init : goal.loop-number-init
loop-number-init c = record {
  knows = c.requires.knows;
  settled = λ e. none_settled (map declaration_of c.args.declarations.now) (hierarchy_of c.args.self.now);
  no_more = λ e. refl;
  fewer = λ e. absurd cc;
}

pub tell-told-requires : goal.tell-told-requires
tell-told-requires c = parents_size c.loop-number.self c.loop-number.number
    (in_reach (map declaration_of c.args.declarations.now) (hierarchy_of c.loop-number.self) c.loop-number.invariant.knows c.loop-number.number (simp length-map c.loop-number-test.true))

pub loop-number-preserved : goal.loop-number-preserved
loop-number-preserved c =
    let declarations = map declaration_of c.args.declarations.now in
    let n = c.loop-number.number in
    let declaration = c.index-declarations-number.result in
    let item = item_of declaration.item in
    let old = hierarchy_of c.loop-number.self in
    let new = hierarchy_of c.tell-told.new.self in
    let first = hierarchy_of c.args.self.now in
    let at : At declarations n declaration.file item = record { stands = map_stands declaration_of c.args.declarations.now n declaration c.loop-number-test.true c.index-declarations-number.is } in
    let i = c.loop-number.invariant in
    record {
      knows = still_knows declarations old new first n declaration.file item c.loop-number.found c.tell-told.result at c.tell-told.ensures.told c.tell-told.ensures.answers i.knows;
      settled = one_settled declarations old new first n declaration.file item c.loop-number.found c.tell-told.result at c.tell-told.ensures.told c.tell-told.ensures.answers i.knows i.settled;
      no_more = not_more declarations old new first n declaration.file item c.loop-number.found c.tell-told.result at c.tell-told.ensures.told c.tell-told.ensures.answers i.knows i.no_more;
      fewer = one_fewer declarations old new first n declaration.file item c.loop-number.found c.tell-told.result at c.tell-told.ensures.told c.tell-told.ensures.answers i.knows i.no_more i.fewer;
    }

pub returns-clause-knows : goal.returns-clause-knows
returns-clause-knows c = c.loop-number.invariant.knows

pub returns-clause-settled : goal.returns-clause-settled
returns-clause-settled c = λ e. all_settled (map declaration_of c.args.declarations.now) (hierarchy_of c.loop-number.self) c.loop-number.number (past c.args.declarations.now c.loop-number.number c.loop-number-test.false) (c.loop-number.invariant.settled e)

pub returns-clause-fewer : goal.returns-clause-fewer
returns-clause-fewer c = λ e. c.loop-number.invariant.fewer e
