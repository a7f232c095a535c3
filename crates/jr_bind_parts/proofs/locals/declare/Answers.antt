use Rattle.std.proofs.Common.{Some, refl}
use Rattle.jr_ast.specs.View.{word_of, type_of}
use Rattle.jr_bind_parts.proofs.LocalSteps.{declared_context, declared_knows}
use Rattle.jr_bind_parts.proofs.locals.declare.Goals as goal

pub returns-clause-context : goal.returns-clause-context
returns-clause-context g c = declared_context c.args.place.now c.push.new.self _ c.in_ok-push.ensures.locals (type_of c.args.ty.now) c.held_type-ty.ensures (word_of c.args.name.now) refl refl

pub returns-clause-knows : goal.returns-clause-knows
returns-clause-knows g c = declared_knows c.args.place.now c.push.new.self _ c.in_ok-push.ensures.locals (type_of c.args.ty.now) c.held_type-ty.ensures c.args.table.now c.keeps_rows.ensures c.in_ok-push.ensures.tracked c.requires.knows (Some c.args.number) c.requires.kind
