-- The pure values that those of the calls stand for.
use Rattle.jr_ast.specs.View.{stmts_of}
use Rattle.jr_bodies.specs.CodeView.{code_of}
use Rattle.jr_local_asked.specs.declared.declarations.DeclaredLocal as raw
use Rattle.jr_local_asked.specs.Declaring.{DeclaredLocal}

abbrev pub declared_of : raw.DeclaredLocal → DeclaredLocal
declared_of x =
    record { member = x.member; code = code_of x.code; list = stmts_of x.list.now }
