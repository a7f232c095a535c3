use Rattle.std.proofs.Common.{◌≡◌, ◌<◌, length, map, Some, sym, ◌∙◌, arith}
use Rattle.jr_ast.specs.View.{unit_of}
use Rattle.std.proofs.lemmas.List.{length-map}
use Rattle.jr_sources.proofs.WholeProgram.{texts_files, length-files}
use Rattle.jr_sources.proofs.whole.text_in.Goals as goal

pub text-requires : goal.text-requires
text-requires c =
    let us = map unit_of c.args.units.now in
    let n = length-files c.args.sources.now us (length-map c.args.units.now unit_of ∙ c.requires.many) in
    let lt = c.requires.file in
    omega (arith, n, lt)

pub returns : goal.returns
returns c = texts_files c.args.sources.now (map unit_of c.args.units.now) (length-map c.args.units.now unit_of ∙ c.requires.many) c.args.file ∙ c.text.ensures
