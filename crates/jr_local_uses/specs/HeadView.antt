-- The pure head that that of the calls stands for.
use Rattle.jr_ast.specs.View.{expr_of, stmts_of}
use Rattle.jr_local_uses.specs.declared.namings.Head as raw
use Rattle.jr_local_uses.specs.Heads.{Head}

abbrev pub head_of : raw.Head → Head
head_of x =
    record { size = x.size; init = expr_of x.init.now; rest = stmts_of x.rest.now }
