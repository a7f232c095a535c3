use Rattle.std.proofs.Common.{map}
use Rattle.jr_build_declared.specs.DeclaredView.{declaration_of}
use Rattle.jr_build_hierarchy.proofs.HierarchyLaws.{knows_tops}
use Rattle.jr_build_hierarchy.proofs.superclasses.with_tops.Goals as goal

pub returns : goal.returns
returns c = knows_tops (map declaration_of c.args.declarations.now) c.in_ok-hierarchy.hierarchy c.in_ok-hierarchy-2.field-0 c.in_ok-hierarchy.ensures c.in_ok-hierarchy-2.ensures
