use Rattle.std.proofs.Common.{arith}
use Rattle.jr_members.specs.PartView.{written_of}
use Rattle.jr_new_words.specs.MappingView.{mapping_in}
use Rattle.jr_new_files.proofs.Putting.{put_nowhere, put_there}
use Rattle.jr_new_files.proofs.files.put_member.Goals as goal

pub returns-in_ok-part : goal.returns-in_ok-part
returns-in_ok-part g c =
    put_there (g.V.View.program c.args.view.now) (mapping_in c.args.tables.now) (written_of c.args.of.now) c.args.outputs.now.items c.index_mut-out.result.now c.part.new.out (omega (arith, c.if-file-len.true, c.len.ensures)) c.index_mut-out.ensures.value
    c.in_ok-part.ensures

pub returns-else-file-len : goal.returns-else-file-len
returns-else-file-len g c = put_nowhere (g.V.View.program c.args.view.now) (mapping_in c.args.tables.now) (written_of c.args.of.now) c.args.outputs.now.items (omega (arith, c.if-file-len.false, c.len.ensures))
