use Rattle.std.proofs.Common.{◌≡◌, ap, Some}
use Rattle.jr_build_hierarchy.specs.HierarchyView.{hierarchy_of}
use Rattle.jr_build_hierarchy.specs.Hierarchies.{with_parent}
use Rattle.jr_build_hierarchy.proofs.hierarchies.Hierarchy.tell.Goals as goal

pub returns-in-Some-clause-told : goal.returns-in-Some-clause-told
unfolding hierarchy_of
returns-in-Some-clause-told c = ap (with_parent (hierarchy_of c.args.self.now) c.args.number) c.in-Some.ensures
