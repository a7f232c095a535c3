use Rattle.std.proofs.Common.{◌≡◌, ◌≤◌, ℕ, List, length, map, sym, ap, subst, ◌∙◌, arith}
use Rattle.std.specs.Prelude.{Option}
use Rattle.std.proofs.lemmas.List.{length-map}
use Rattle.jr_ast.specs.View.{unit_of}
use Rattle.jr_table.specs.DeclaredItems.{declarations_of}
use Rattle.jr_table.specs.Faults.{PackageLine, IsClean, IsFirstFault}
use Rattle.jr_table.specs.Names.{kind_name}
use Rattle.jr_build.specs.Builds.{IsFoundFault}
use Rattle.jr_build_declared.specs.Packages.{lines_of}
use Rattle.jr_build.specs.declared.faults.BuildFault.{BuildFault}
use Rattle.jr_program_laws.specs.FileParts.{begins}
use Rattle.jr_sources.proofs.Analysing.{counts}
use Rattle.jr_sources.proofs.Binding.{table_of}
use Rattle.jr_sources.proofs.ReadUnits.{units_headed}
use Rattle.jr_sources.proofs.DeclarationFiles.{lines_are}
use Rattle.jr_sources.proofs.SourceFaults.{source_fault}
use Rattle.jr_sources.proofs.Spans.{units_fit}
use Rattle.jr_sources.proofs.programs.analyse_units.Goals as goal

pub build-requires-clause-few : goal.build-requires-clause-few
build-requires-clause-few g c =
    let n = (counts c.args.sources.now (map unit_of c.args.files.now.units.now) c.args.files.now.words.now c.requires.read).0 in
    let m = length-map c.args.files.now.units.now unit_of in
    let few : length c.args.sources.now ≤ 256 = c.requires.valid.few in
    omega (arith, n, m, few)

pub build-requires-clause-words : goal.build-requires-clause-words
build-requires-clause-words g c =
    let n = counts c.args.sources.now (map unit_of c.args.files.now.units.now) c.args.files.now.words.now c.requires.read in
    n.1 ∙ sym n.0 ∙ length-map c.args.files.now.units.now unit_of

pub build-requires-clause-fits : goal.build-requires-clause-fits
build-requires-clause-fits g c = units_fit _ (map unit_of c.args.files.now.units.now)

pub build-requires-clause-heads : goal.build-requires-clause-heads
build-requires-clause-heads g c = units_headed c.args.sources.now (map unit_of c.args.files.now.units.now) c.args.files.now.words.now c.requires.read

pub bind_all-requires-clause-table : goal.bind_all-requires-clause-table
bind_all-requires-clause-table g c =
    let us = map unit_of c.args.files.now.units.now in
    let clean = subst (λ (ps : List (Option PackageLine)). IsClean ps (declarations_of begins us)) (sym (lines_are us c.args.files.now.words.now)) c.in-Ok.ensures.clean in
    table_of c.text_has_one_reading.ensures c.args.sources.now us c.args.files.now.words.now (record { read = c.requires.read; clean = clean }) _ c.in-Ok.ensures.rows

pub returns-in-Err-At-clause-analysed : goal.returns-in-Err-At-clause-analysed
returns-in-Err-At-clause-analysed g c =
    let us = map unit_of c.args.files.now.units.now in
    let found : IsFirstFault (lines_of c.args.files.now.words.now us) (declarations_of begins us) c.in-Err-At.kind (record { file = c.in-Err-At.file; at = c.in-Err-At.at }) = subst (λ (f : BuildFault). IsFoundFault (lines_of c.args.files.now.words.now us) (declarations_of begins us) f) c.in-Err-At.field-0-is c.in-Err-At.ensures.fault in
    let named : c.name.result.now ≡ kind_name c.in-Err-At.kind = c.name.ensures ∙ ap kind_name c.in-Err-At.kind-is in
    source_fault c.args.sources.now us c.args.files.now.words.now c.requires.read c.in-Err-At.kind c.in-Err-At.file c.in-Err-At.at found _ c.in-Err-At.file-is c.in-Err-At.at-is named
