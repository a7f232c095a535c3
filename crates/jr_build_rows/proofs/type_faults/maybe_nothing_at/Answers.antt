use Rattle.std.proofs.Common.{option_map, sym, ap, subst}
use Rattle.jr_build_hierarchy.specs.HierarchyView.{hierarchy_of}
use Rattle.jr_build_declared.specs.DeclarationFaults.{IsLeastAt}
use Rattle.jr_build_declared.specs.DeclaredView.{declaration_key_of, written_of}
use Rattle.jr_build_rows.specs.TypeFaults.{MaybeNothing}
use Rattle.jr_build_rows.proofs.TypeFaultLaws.{one_written}
use Rattle.jr_build_rows.proofs.type_faults.maybe_nothing_at.Goals as goal

pub returns-in-Some : goal.returns-in-Some
returns-in-Some c = subst (λ o. IsLeastAt (MaybeNothing (hierarchy_of c.args.h.now)
    (declaration_key_of c.args.of.now) (option_map written_of o)) c.nothing_at.result) (sym c.in-Some.is)
    (one_written (hierarchy_of c.args.h.now) (declaration_key_of c.args.of.now)
    (written_of c.in-Some.written) c.nothing_at.result c.nothing_at.ensures)
