use Rattle.std.proofs.Common.{ap, arith}
use Rattle.jr_new_words.specs.MappingView.{numbers_of}
use Rattle.jr_new_words.specs.Scopes.{mapping_of, member_of, locals_in}
use Rattle.jr_new_words.proofs.Growing.{count_all}
use Rattle.jr_new_words.proofs.scopes.Scopes.images_in.Goals as goal

pub returns-in-AllStay : goal.returns-in-AllStay
returns-in-AllStay c =
    let s = c.args.self.now in
    let within = c.requires.within in
    count_all (mapping_of s) (member_of s) (locals_in s) c.args.depth (ap numbers_of c.in-AllStay.is) (omega (arith, within))
