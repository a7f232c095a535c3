use Rattle.std.proofs.Common.{ap, ◌∙◌}
use Rattle.jr_new_words.specs.Mappings.{type_read}
use Rattle.jr_new_words.specs.MappingView.{gone_of}
use Rattle.jr_new_bodies.specs.Known.{context_of}
use Rattle.jr_new_bodies.proofs.new_types.type_read.Goals as goal

pub returns-in-None : goal.returns-in-None
returns-in-None g c = ap (type_read (gone_of c.args.gone.now) (context_of c.args.here.now)) c.in-None.ensures

pub returns-in-Some : goal.returns-in-Some
returns-in-Some g c = c.type_read.ensures ∙ ap (type_read (gone_of c.args.gone.now) (context_of c.args.here.now)) c.in-Some.ensures
