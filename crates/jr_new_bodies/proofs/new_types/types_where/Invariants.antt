use Rattle.std.proofs.Common.{◌≡◌, ◌++◌, Some, drop}
use Rattle.jr_ast.specs.View.{exprs_of}
use Rattle.jr_new_words.specs.Mappings.{types_where}
use Rattle.jr_new_words.specs.MappingView.{gone_of}
use Rattle.jr_new_bodies.specs.Known.{context_of}
use Rattle.jr_new_bodies.specs.MeaningView.{types_of}
use Rattle.jr_new_bodies.proofs.new_types.types_where.Given as goal

abbrev pub invariant-loop-part : goal.invariant-loop-part
invariant-loop-part g l = types_of l.then.items ++ types_where (Some (gone_of l.gone)) (context_of l.here) (exprs_of (drop l.part-index l.parts)) (types_of l.rest)
    ≡ types_where (Some (gone_of l.gone)) (context_of l.here) (exprs_of l.parts) (types_of l.types)
