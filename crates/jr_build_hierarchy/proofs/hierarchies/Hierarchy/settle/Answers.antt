use Rattle.std.proofs.Common.{map}
use Rattle.jr_build_declared.specs.DeclaredView.{declaration_of}
use Rattle.jr_build_hierarchy.specs.HierarchyView.{hierarchy_of}
use Rattle.jr_build_hierarchy.proofs.HierarchyLaws.{comes_early}
use Rattle.jr_build_hierarchy.proofs.Settling.{all_known}
use Rattle.jr_build_hierarchy.proofs.hierarchies.Hierarchy.settle.Goals as goal

pub returns-then-not-found : goal.returns-then-not-found
returns-then-not-found c =
    all_known (map declaration_of c.args.declarations.now) (hierarchy_of c.round-found.new.self) comes_early c.round-found.ensures.knows (c.round-found.ensures.settled c.if-not-found.true)
