use Rattle.std.proofs.Common.{List, length, map, refl, sym, subst, ◌∙◌}
use Rattle.std.specs.Prelude.{slice_get, IfSome}
use Rattle.std.proofs.lemmas.List.{length-map}
use Rattle.std.proofs.lemmas.Option.{slice_get_read}
use Rattle.jr_text.specs.declared.spans.Span.{Span}
use Rattle.jr_lex.specs.declared.items.Item.{Item}
use Rattle.jr_lex.specs.Lexes.{Lexes}
use Rattle.jr_ast.specs.View.{unit_of}
use Rattle.jr_bind.specs.Programs.{File}
use Rattle.jr_sources.specs.Whole.{files_of}
use Rattle.jr_sources.proofs.WholeProgram.{file_within, items_files}
use Rattle.jr_sources.proofs.whole.items_in.Goals as goal

pub bounds-tokens-file : goal.bounds-tokens-file
bounds-tokens-file c = file_within c.args.sources.now (map unit_of c.args.units.now) c.args.tokens.now (length-map c.args.units.now unit_of ∙ c.requires.many) c.requires.lexed c.args.file c.requires.file

pub returns : goal.returns
returns c =
    let ss = c.args.sources.now in
    let us = map unit_of c.args.units.now in
    let ts = c.args.tokens.now in
    let within = file_within ss us ts (length-map c.args.units.now unit_of ∙ c.requires.many) c.requires.lexed c.args.file c.requires.file in
    let there = slice_get_read ts (length ts) c.args.file c.index-tokens-file.result refl within c.index-tokens-file.is in
    subst (λ (items : List Item). IfSome (slice_get (files_of ss us) c.args.file) (λ (f : File Span). Lexes f.text items)) (sym c.items.ensures)
    (items_files ss us ts c.requires.lexed c.args.file c.index-tokens-file.result there)
