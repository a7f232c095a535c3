use Rattle.std.proofs.Common.{◌≡◌, ◌++◌, drop, map}
use Rattle.std.specs.Prelude.{option_map}
use Rattle.jr_build_hierarchy.specs.HierarchyView.{hierarchy_of, meaning_of}
use Rattle.jr_build_rows.specs.Signatures.{meanings}
use Rattle.jr_build_declared.specs.DeclaredView.{declaration_key_of, param_declaration_of}
use Rattle.jr_build_rows.proofs.signatures.meanings_of.Given as goal

-- the types so far, with those that are left, are all
abbrev pub invariant-loop-param : goal.invariant-loop-param
invariant-loop-param l =
    option_map (λ ts. map meaning_of l.list.items ++ ts) (meanings (hierarchy_of l.h) (declaration_key_of l.of) (map param_declaration_of (drop l.param-index l.params)))
    ≡ meanings (hierarchy_of l.h) (declaration_key_of l.of) (map param_declaration_of l.params)
