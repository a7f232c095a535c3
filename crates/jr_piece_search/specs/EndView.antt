-- The pure ends that those of the walk stand for.
use Rattle.jr_ast.specs.View.{stmt_of}
use Rattle.jr_piece_search.specs.declared.returns.End as raw
use Rattle.jr_piece_search.specs.declared.returns.End.TheVariants as kind
use Rattle.jr_piece_search.specs.Ends.{End, found, nothing, last}

abbrev pub end_of : raw.End → End
end_of (kind.Found x) = found x
end_of kind.Nothing = nothing
end_of (kind.Last s) = last (stmt_of s.now)
