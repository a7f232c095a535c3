use Rattle.std.specs.Prelude.{option_map}
use Rattle.std.proofs.lemmas.Result.{IfOk-weaker}
use Rattle.std.proofs.lemmas.Bool.{iff_false}
use Rattle.jr_table.specs.KeyView.{local_key_of}
use Rattle.jr_members.specs.PartView.{written_of}
use Rattle.jr_local_asked.specs.DeclaredView.{declared_of}
use Rattle.jr_local_asked.proofs.Declares.{of_its_member, of_other_member}
use Rattle.jr_local_asked.proofs.declarations.in_file.Goals as goal

pub returns-then-eq : goal.returns-then-eq
returns-then-eq c =
    IfOk-weaker c.in_part.result _ _ (λ o h. of_its_member c.args.file c.args.number (local_key_of c.args.key.now) (written_of c.args.written.now) c.requires (c.eq.ensures.0 c.if-eq.true) (option_map declared_of o) h) c.in_part.ensures

pub returns-else-eq : goal.returns-else-eq
returns-else-eq c = of_other_member c.args.file c.args.number (local_key_of c.args.key.now) (written_of c.args.written.now) (iff_false c.eq.ensures c.if-eq.false)
