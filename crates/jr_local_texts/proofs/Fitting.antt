-- Extract local and inline local owe nothing more.
use Rattle.std.proofs.Common.{[], inl, refl}
use Rattle.jr_text.specs.declared.spans.Span.{Span}
use Rattle.jr_ast.specs.Marks.{stmt_mark}
use Rattle.jr_members.specs.WrittenLaws.{MembersAreWritten}
use Rattle.jr_images.specs.TextLaws.{RowsAreNamed}
use Rattle.jr_local.specs.Soundness.{RegionsAreSound}
use Rattle.jr_local.specs.Selecting.{element}
use Rattle.jr_local.specs.Extracted as extracted
use Rattle.jr_local.specs.Inlined as inlined
use Rattle.jr_moved_texts.proofs.Tiling.{text_tiled}
use Rattle.jr_local_texts.specs.Fitting.{ExtractsFit, InlinesFit}
use Rattle.jr_local_texts.proofs.KeptNames.{rows_named, rows_undotted, same_named}
use Rattle.jr_local_texts.proofs.NamedTypes.{type_named}
use Rattle.jr_local_texts.proofs.Fronts.{fronted_from}
use Rattle.jr_local_texts.proofs.ExtractFit as extract
use Rattle.jr_local_texts.proofs.InlineFit as inline
use Rattle.jr_local_texts.proofs.Used.{extract_spots_apart, inline_spots_apart}

pub extracts_fit : MembersAreWritten Span → RowsAreNamed Span → RegionsAreSound → ExtractsFit
extracts_fit written names sound p program file from to name is_name f spelled =
    let x = f.selected in
    let named = type_named p.rows (rows_named names p program) (extracted.from_there p file from to name x) refl (element x).at.context from (stmt_mark (element x).stmt) x.type f.type f.writes spelled in
    record {
      sound = (sound p.rows program.are_rows (rows_undotted names p program) (extracted.made p file from to name x) name x.type).around;
      named = same_named p.rows (rows_named names p program);
      spots = extract.spots_suit p program written names file from to name is_name f named;
      fronted = λ n g items e lexes. fronted_from (extracted.Fronted p file from to name x n) items 0 g.text (text_tiled g.text items lexes)
          (λ at k lt ends. inl (record { text = g.text; items = items; is_text = (g, e, refl); lexes = lexes; ends = ends }));
      apart = extract_spots_apart p file from to name f;
    }

pub inlines_fit : MembersAreWritten Span → RowsAreNamed Span → RegionsAreSound → InlinesFit
inlines_fit written names sound p program file at f = record {
  sound = (sound p.rows program.are_rows (rows_undotted names p program) f.asked.key [] f.type).left_out;
  named = same_named p.rows (rows_named names p program);
  spots = inline.spots_suit p program written names file at f;
  fronted = λ n g items e lexes. fronted_from (inlined.Fronted p file at f.asked f.type f.text f.items f.copies f.gone n) items 0 g.text (text_tiled g.text items lexes)
      (λ byte k lt ends. inl (record { text = g.text; items = items; is_text = (g, e, refl); lexes = lexes; ends = ends }));
  apart = inline_spots_apart p file at f;
}
