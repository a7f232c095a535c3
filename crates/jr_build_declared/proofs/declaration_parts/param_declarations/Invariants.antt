use Rattle.std.proofs.Common.{◌≡◌, ◌++◌, drop, map}
use Rattle.jr_ast.specs.View.{param_of}
use Rattle.jr_build_declared.specs.Fitting.{begins_by}
use Rattle.jr_table.specs.DeclaredItems.{param_declaration}
use Rattle.jr_build_declared.specs.DeclaredView.{param_declaration_of}
use Rattle.jr_build_declared.proofs.declaration_parts.param_declarations.Given as goal

-- the declarations so far, with those that are left, are all
abbrev pub invariant-loop-param : goal.invariant-loop-param
invariant-loop-param g l =
    map param_declaration_of l.declarations.items ++ map (param_declaration (begins_by g.A.Mark.span_from) l.base) (map param_of (drop l.param-index l.params))
    ≡ map (param_declaration (begins_by g.A.Mark.span_from) l.base) (map param_of l.params)
