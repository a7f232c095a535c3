use Rattle.std.proofs.Common.{Option, sym, ap}
use Rattle.std.specs.Prelude.{option_map}
use Rattle.jr_text.specs.declared.spans.Span.{Span}
use Rattle.jr_ast.specs.declared.parts.TypeRef.{TypeRef}
use Rattle.jr_ast.specs.View.{type_of}
use Rattle.jr_table.specs.TypesAt.{count_type}
use Rattle.jr_new_files.proofs.methods.has_type.Goals as goal

pub returns-in-None : goal.returns-in-None
returns-in-None c = λ rows. ap (λ (o : Option (TypeRef Span)). count_type rows (option_map type_of o)) (sym c.in-None.is)

pub returns-in-Some : goal.returns-in-Some
returns-in-Some c = λ rows. ap (λ (o : Option (TypeRef Span)). count_type rows (option_map type_of o)) (sym c.in-Some.is)
