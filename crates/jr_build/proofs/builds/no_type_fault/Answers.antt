use Rattle.std.proofs.Common.{map, sym, ap, subst}
use Rattle.std.proofs.lemmas.Result.{err_from_is_err_and}
use Rattle.jr_build.specs.Builds.{IsCleanBelow, IsFoundFault}
use Rattle.jr_build_hierarchy.specs.HierarchyView.{hierarchy_of}
use Rattle.jr_build_declared.specs.DeclaredView.{declaration_of}
use Rattle.jr_build.proofs.Cleaning.{err_clean, err_fault}
use Rattle.jr_build.proofs.builds.no_type_fault.Goals as goal

pub returns-in_err-none_of : goal.returns-in_err-none_of
returns-in_err-none_of c =
    let ss = map declaration_of c.args.declarations.now in
    let p = err_from_is_err_and c.from_residual.result c.from_residual.ensures.1 in
    record {
      clean = λ packages below. err_clean c.from_residual.result _ p.0 p.1;
      fault = λ packages below.
          err_fault c.from_residual.result (IsFoundFault packages ss) _ p.0 p.1 p.2
          (c.in_err-none_of.ensures.fault packages ss below (c.no_superclass.ensures packages));
    }

pub returns-in_err-cycle : goal.returns-in_err-cycle
returns-in_err-cycle c =
    let ss = map declaration_of c.args.declarations.now in
    let p = err_from_is_err_and c.from_residual-in_err-cycle.result c.from_residual-in_err-cycle.ensures.1 in
    record {
      clean = λ packages below. err_clean c.from_residual-in_err-cycle.result _ p.0 p.1;
      fault = λ packages below. err_fault c.from_residual-in_err-cycle.result (IsFoundFault packages ss) _ p.0 p.1 p.2 tt;
    }

pub returns-in_err-none_of-2 : goal.returns-in_err-none_of-2
returns-in_err-none_of-2 c =
    let ss = map declaration_of c.args.declarations.now in
    let p = err_from_is_err_and c.from_residual-in_err-none_of-2.result c.from_residual-in_err-none_of-2.ensures.1 in
    record {
      clean = λ packages below. err_clean c.from_residual-in_err-none_of-2.result _ p.0 p.1;
      fault = λ packages below.
          let b1 = c.in_ok-none_of.ensures.clean packages ss below (c.no_superclass.ensures packages) in
          err_fault c.from_residual-in_err-none_of-2.result (IsFoundFault packages ss) _ p.0 p.1 p.2
          (c.in_err-none_of-2.ensures.fault packages ss b1 (c.in_ok-cycle.ensures packages));
    }

pub returns-in_err-none_of-3 : goal.returns-in_err-none_of-3
returns-in_err-none_of-3 c =
    let ss = map declaration_of c.args.declarations.now in
    let p = err_from_is_err_and c.from_residual-in_err-none_of-3.result c.from_residual-in_err-none_of-3.ensures.1 in
    record {
      clean = λ packages below. err_clean c.from_residual-in_err-none_of-3.result _ p.0 p.1;
      fault = λ packages below.
          let b1 = c.in_ok-none_of.ensures.clean packages ss below (c.no_superclass.ensures packages) in
          let b2 = c.in_ok-none_of-2.ensures.clean packages ss b1 (c.in_ok-cycle.ensures packages) in
          err_fault c.from_residual-in_err-none_of-3.result (IsFoundFault packages ss) _ p.0 p.1 p.2
          (c.in_err-none_of-3.ensures.fault packages ss b2 (c.no_type.ensures packages));
    }

pub returns-in_err-twice_member : goal.returns-in_err-twice_member
returns-in_err-twice_member c =
    let ss = map declaration_of c.args.declarations.now in
    let p = err_from_is_err_and c.from_residual-in_err-twice_member.result c.from_residual-in_err-twice_member.ensures.1 in
    record {
      clean = λ packages below. err_clean c.from_residual-in_err-twice_member.result _ p.0 p.1;
      fault = λ packages below. err_fault c.from_residual-in_err-twice_member.result (IsFoundFault packages ss) _ p.0 p.1 p.2 tt;
    }

pub returns : goal.returns
returns c =
    let ss = map declaration_of c.args.declarations.now in
    record {
      clean = λ packages below.
          let b1 = c.in_ok-none_of.ensures.clean packages ss below (c.no_superclass.ensures packages) in
          let b2 = c.in_ok-none_of-2.ensures.clean packages ss b1 (c.in_ok-cycle.ensures packages) in
          let b3 = c.in_ok-none_of-3.ensures.clean packages ss b2 (c.no_type.ensures packages) in
          c.none_of-4.ensures.clean packages ss b3 (c.in_ok-twice_member.ensures packages);
      fault = λ packages below.
          let b1 = c.in_ok-none_of.ensures.clean packages ss below (c.no_superclass.ensures packages) in
          let b2 = c.in_ok-none_of-2.ensures.clean packages ss b1 (c.in_ok-cycle.ensures packages) in
          let b3 = c.in_ok-none_of-3.ensures.clean packages ss b2 (c.no_type.ensures packages) in
          c.none_of-4.ensures.fault packages ss b3 (c.in_ok-twice_member.ensures packages);
    }

pub no_type-requires : goal.no_type-requires
no_type-requires c = c.hierarchies_are_exact.ensures.means (map declaration_of c.args.declarations.now)
    (hierarchy_of c.args.h.now) c.requires.known

pub twice_member-requires-clause-known : goal.twice_member-requires-clause-known
twice_member-requires-clause-known c = c.hierarchies_are_exact.ensures.means
    (map declaration_of c.args.declarations.now) (hierarchy_of c.args.h.now) c.requires.known
