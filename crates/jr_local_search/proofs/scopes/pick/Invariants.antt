use Rattle.std.proofs.Common.{◌≡◌, drop}
use Rattle.jr_ast.specs.View.{stmts_of}
use Rattle.jr_local_search.specs.Descending.{at_of, pick as chosen}
use Rattle.jr_local_search.proofs.scopes.pick.Given as goal

-- what is picked from here on is what is picked from the first element on
abbrev pub invariant-loop-of : goal.invariant-loop-of
invariant-loop-of l = chosen l.name (at_of l.fn.at) l.first l.wanted (stmts_of l.list)
    ≡ chosen l.name (at_of l.at) l.number l.wanted (stmts_of (drop l.of-index l.list))
