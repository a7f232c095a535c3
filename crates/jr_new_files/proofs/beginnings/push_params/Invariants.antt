use Rattle.std.proofs.Common.{◌≡◌, drop, map}
use Rattle.jr_ast.specs.View.{param_of}
use Rattle.jr_table.specs.TypeView.{ty_of}
use Rattle.jr_new_words.specs.Scopes.{IsKept, AreBeside, locals_in}
use Rattle.jr_new_files.specs.Walking.{held_params}
use Rattle.jr_new_files.proofs.Placing.{Goes}
use Rattle.jr_new_files.proofs.beginnings.push_params.Given as goal

abbrev pub invariant-loop-param : goal.invariant-loop-param
invariant-loop-param l = record {
  kept : IsKept l.scopes;
  beside : AreBeside l.fn.scopes l.scopes;
  own : l.scopes.own ≡ l.fn.scopes.own;
  locals : Goes (held_params 0 (map param_of l.params) (map ty_of l.types)) (locals_in l.scopes) l.number (map param_of (drop l.param-index l.params)) (map ty_of l.rest);
}
