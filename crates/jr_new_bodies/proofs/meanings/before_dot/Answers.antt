use Rattle.jr_ast.specs.View.{expr_of}
use Rattle.jr_new_bodies.specs.Known.{context_of}
use Rattle.jr_new_bodies.proofs.Typed.{value_is}
use Rattle.jr_new_bodies.proofs.meanings.before_dot.Goals as goal

pub named_class-requires : goal.named_class-requires
named_class-requires g c = record { fits = c.requires.ready.0; sound = c.requires.ready.1; refers = c.requires.ready.2 }

pub returns-in-None : goal.returns-in-None
returns-in-None g c = value_is c.args.here.now (context_of c.args.here.now) c.args.path.now.steps.items (expr_of c.args.of.now) c.value_at.result c.in-None.ensures c.requires.ready.3 c.value_at.ensures
