use Rattle.std.proofs.Common.{◌≡◌, ◌<◌, length, map, sym, subst}
use Rattle.std.proofs.lemmas.List.{length-map}
use borrow.Author.Tests.{ltb-true}
use Rattle.jr_table.specs.Faults.{At}
use Rattle.jr_build_declared.specs.DeclaredView.{declaration_of, item_of}
use Rattle.jr_build_hierarchy.specs.HierarchyView.{hierarchy_of}
use Rattle.jr_build_hierarchy.specs.Superclasses.{KnowsTops}
use Rattle.jr_build_declared.proofs.Earliest.{map_stands}
use Rattle.jr_build_hierarchy.proofs.HierarchyLaws.{comes_early, parents_size}
use Rattle.jr_build_hierarchy.proofs.Rounds.{in_reach}
use Rattle.jr_build_hierarchy.proofs.Telling.{holds_on}
use Rattle.jr_build_hierarchy.proofs.hierarchies.Hierarchy.tell_at.Goals as goal

pub tell-told-requires : goal.tell-told-requires
tell-told-requires c =
    let less : c.args.number < length c.args.declarations.now = ltb-true _ _ (sym c.in-Some.ensures.lookup.0) in
    parents_size c.args.self.now c.args.number
    (in_reach (map declaration_of c.args.declarations.now) (hierarchy_of c.args.self.now) c.requires c.args.number (simp length-map less))

pub returns-in-Some : goal.returns-in-Some
returns-in-Some c =
    let declarations = map declaration_of c.args.declarations.now in
    let declaration = c.in-Some.declaration.now in
    let less : c.args.number < length c.args.declarations.now = ltb-true _ _ (sym c.in-Some.ensures.lookup.0) in
    let at : At declarations c.args.number declaration.file (item_of declaration.item) = record { stands = map_stands declaration_of c.args.declarations.now c.args.number declaration less c.in-Some.ensures.lookup.1 } in
    subst (KnowsTops declarations) (sym c.tell-told.ensures.told)
    (holds_on declarations comes_early (hierarchy_of c.args.self.now) c.requires c.args.number declaration.file (item_of declaration.item) at)
