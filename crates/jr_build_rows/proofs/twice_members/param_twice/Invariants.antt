use Rattle.std.proofs.Common.{ℕ, List, map}
use Rattle.jr_index.specs.Names.{named}
use Rattle.jr_build_declared.specs.DeclarationFaults.{IsLeastAt}
use Rattle.jr_build_declared.specs.DeclaredView.{param_declaration_of}
use Rattle.jr_build_rows.proofs.TwiceParamLaws.{TwiceIn, Knows}
use Rattle.jr_build_rows.proofs.twice_members.param_twice.Given as goal

-- it is the least among the parameters so far, whose names are known
abbrev pub invariant-loop-param : goal.invariant-loop-param
invariant-loop-param l = record {
  least : IsLeastAt (TwiceIn (map param_declaration_of l.params) l.param-index) l.least;
  known : (q : List ℕ) → Knows (map param_declaration_of l.params) l.param-index q (named l.names q);
}
