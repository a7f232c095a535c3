use Rattle.std.proofs.Common.{map, sym, ap, subst}
use Rattle.std.proofs.lemmas.Result.{err_from_is_err_and}
use Rattle.jr_build.specs.Builds.{IsCleanBelow, IsFoundFault}
use Rattle.jr_build_hierarchy.specs.HierarchyView.{hierarchy_of}
use Rattle.jr_build_declared.specs.DeclaredView.{declaration_of}
use Rattle.jr_build.proofs.Cleaning.{err_clean, err_fault}
use Rattle.jr_build.proofs.builds.no_declaration_fault.Goals as goal

pub returns-in_err-member_type_name : goal.returns-in_err-member_type_name
returns-in_err-member_type_name c =
    let ss = map declaration_of c.args.declarations.now in
    let p = err_from_is_err_and c.from_residual.result c.from_residual.ensures.1 in
    record {
      clean = λ packages below. err_clean c.from_residual.result _ p.0 p.1;
      fault = λ packages below. err_fault c.from_residual.result (IsFoundFault packages ss) _ p.0 p.1 p.2 tt;
    }

pub returns-in_err-none_of : goal.returns-in_err-none_of
returns-in_err-none_of c =
    let ss = map declaration_of c.args.declarations.now in
    let p = err_from_is_err_and c.from_residual-in_err-none_of.result c.from_residual-in_err-none_of.ensures.1 in
    record {
      clean = λ packages below. err_clean c.from_residual-in_err-none_of.result _ p.0 p.1;
      fault = λ packages below.
          err_fault c.from_residual-in_err-none_of.result (IsFoundFault packages ss) _ p.0 p.1 p.2
          (c.in_err-none_of.ensures.fault packages ss below (c.in_ok-member_type_name.ensures packages));
    }

pub returns-in_err-none_of-2 : goal.returns-in_err-none_of-2
returns-in_err-none_of-2 c =
    let ss = map declaration_of c.args.declarations.now in
    let p = err_from_is_err_and c.from_residual-in_err-none_of-2.result c.from_residual-in_err-none_of-2.ensures.1 in
    record {
      clean = λ packages below. err_clean c.from_residual-in_err-none_of-2.result _ p.0 p.1;
      fault = λ packages below.
          let b1 = c.in_ok-none_of.ensures.clean packages ss below (c.in_ok-member_type_name.ensures packages) in
          err_fault c.from_residual-in_err-none_of-2.result (IsFoundFault packages ss) _ p.0 p.1 p.2
          (c.in_err-none_of-2.ensures.fault packages ss b1 (c.bad_modifiers.ensures packages));
    }

pub returns : goal.returns
returns c =
    let ss = map declaration_of c.args.declarations.now in
    record {
      clean = λ packages below.
          let b1 = c.in_ok-none_of.ensures.clean packages ss below (c.in_ok-member_type_name.ensures packages) in
          let b2 = c.in_ok-none_of-2.ensures.clean packages ss b1 (c.bad_modifiers.ensures packages) in
          c.none_of-3.ensures.clean packages ss b2 (c.static_init.ensures packages);
      fault = λ packages below.
          let b1 = c.in_ok-none_of.ensures.clean packages ss below (c.in_ok-member_type_name.ensures packages) in
          let b2 = c.in_ok-none_of-2.ensures.clean packages ss b1 (c.bad_modifiers.ensures packages) in
          c.none_of-3.ensures.fault packages ss b2 (c.static_init.ensures packages);
    }
