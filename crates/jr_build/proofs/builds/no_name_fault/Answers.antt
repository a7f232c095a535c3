use Rattle.std.proofs.Common.{map, sym, ap, subst}
use Rattle.std.proofs.lemmas.Result.{err_from_is_err_and}
use Rattle.jr_ast.specs.View.{unit_of}
use Rattle.jr_build.specs.Builds.{IsCleanBelow, IsFoundFault}
use Rattle.jr_build_hierarchy.specs.HierarchyView.{hierarchy_of}
use Rattle.jr_build_declared.specs.Packages.{lines_of}
use Rattle.jr_build_declared.specs.DeclaredView.{declaration_of}
use Rattle.jr_build.proofs.Cleaning.{none_first, err_clean, err_fault}
use Rattle.jr_build.proofs.builds.no_name_fault.Goals as goal

pub returns-in_err-none_of : goal.returns-in_err-none_of
returns-in_err-none_of g c =
    let pk = lines_of c.args.words.now (map unit_of c.args.units.now) in
    let ss = map declaration_of c.args.declarations.now in
    let p = err_from_is_err_and c.from_residual.result c.from_residual.ensures.1 in
    record {
      clean = err_clean c.from_residual.result _ p.0 p.1;
      fault = err_fault c.from_residual.result (IsFoundFault pk ss) _ p.0 p.1 p.2
          (c.in_err-none_of.ensures.fault pk ss (none_first pk ss) (c.package_differs.ensures ss));
    }

pub returns-in_err-none_of-2 : goal.returns-in_err-none_of-2
returns-in_err-none_of-2 g c =
    let pk = lines_of c.args.words.now (map unit_of c.args.units.now) in
    let ss = map declaration_of c.args.declarations.now in
    let p = err_from_is_err_and c.from_residual-in_err-none_of-2.result c.from_residual-in_err-none_of-2.ensures.1 in
    let b2 = c.in_ok-none_of.ensures.clean pk ss (none_first pk ss) (c.package_differs.ensures ss) in
    record {
      clean = err_clean c.from_residual-in_err-none_of-2.result _ p.0 p.1;
      fault = err_fault c.from_residual-in_err-none_of-2.result (IsFoundFault pk ss) _ p.0 p.1 p.2
          (c.in_err-none_of-2.ensures.fault pk ss b2 (c.prelude_name.ensures pk));
    }

pub returns-in_err-twice_class : goal.returns-in_err-twice_class
returns-in_err-twice_class g c =
    let pk = lines_of c.args.words.now (map unit_of c.args.units.now) in
    let ss = map declaration_of c.args.declarations.now in
    let p = err_from_is_err_and c.from_residual-in_err-twice_class.result c.from_residual-in_err-twice_class.ensures.1 in
    record {
      clean = err_clean c.from_residual-in_err-twice_class.result _ p.0 p.1;
      fault = err_fault c.from_residual-in_err-twice_class.result (IsFoundFault pk ss) _ p.0 p.1 p.2 tt;
    }

pub returns : goal.returns
returns g c =
    let pk = lines_of c.args.words.now (map unit_of c.args.units.now) in
    let ss = map declaration_of c.args.declarations.now in
    let b2 = c.in_ok-none_of.ensures.clean pk ss (none_first pk ss) (c.package_differs.ensures ss) in
    let b3 = c.in_ok-none_of-2.ensures.clean pk ss b2 (c.prelude_name.ensures pk) in
    record {
      clean = c.none_of-3.ensures.clean pk ss b3 (c.in_ok-twice_class.ensures pk);
      fault = c.none_of-3.ensures.fault pk ss b3 (c.in_ok-twice_class.ensures pk);
    }
