use Rattle.std.proofs.Common.{◌≡◌, ◌<◌, length, map, subst, ◌∙◌, arith}
use Rattle.jr_ast.specs.View.{unit_of}
use Rattle.std.proofs.lemmas.List.{length-map}
use Rattle.std.specs.Prelude.{IfSome}
use Rattle.jr_sources.specs.Sources.{HasName}
use Rattle.jr_sources.proofs.WholeProgram.{names_files, length-files}
use Rattle.jr_sources.proofs.whole.name_in.Goals as goal

pub unwrap-requires : goal.unwrap-requires
unwrap-requires c =
    let us = map unit_of c.args.units.now in
    let n = length-files c.args.sources.now us (length-map c.args.units.now unit_of ∙ c.requires.many) in
    let lt = c.requires.file in
    c.name.ensures.within (omega (arith, n, lt))

pub returns : goal.returns
returns c = names_files c.args.sources.now (map unit_of c.args.units.now) (length-map c.args.units.now unit_of ∙ c.requires.many) c.args.file ∙ subst (λ o. IfSome o (λ s. HasName c.args.sources.now c.args.file s.now)) c.unwrap.ensures c.name.ensures.name
