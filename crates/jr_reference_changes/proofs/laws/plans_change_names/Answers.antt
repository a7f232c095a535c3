use Rattle.std.proofs.Common.{◌≡◌, List, Some, sym, ap, subst, ◌∙◌}
use Rattle.std.specs.Prelude.{slice_get, option_map}
use Rattle.std.proofs.lemmas.Option.{slice_get-map, same_Some}
use Rattle.jr_text.specs.declared.spans.Span.{Span}
use Rattle.jr_text.specs.Edits.{Entry}
use Rattle.jr_lex.specs.declared.items.Item.{Item}
use Rattle.jr_grammar.specs.Layout.{Layouts}
use Rattle.jr_grammar.specs.MemberLayout.{unit_layouts}
use Rattle.jr_grammar.specs.Stands.{StandInOrder}
use Rattle.jr_grammar.specs.Tokens.{placed_of}
use Rattle.jr_bind.specs.Programs.{File, units_of}
use Rattle.jr_program_laws.proofs.ItemTokens.{tokens_rise}
use Rattle.jr_rewrite.specs.Edited.{entries_of}
use Rattle.jr_reference_changes.specs.Names.{IsOnNames}
use Rattle.jr_reference_changes.proofs.ItemNames.{on_names}
use Rattle.jr_reference_changes.proofs.PlannedPlaces.{its_edits, planned_unit, edit_of, entry_of, spelled}
use Rattle.jr_reference_changes.proofs.laws.plans_change_names.Goals as goal

pub returns : goal.returns
returns c p text file at new edits renaming respelled is number f es i e items there of stands lexes =
    let unit : slice_get (units_of p) number ≡ Some f.unit = slice_get-map (λ (x : File Span). x.unit) p.files number ∙ ap (option_map (λ (x : File Span). x.unit)) there in
    let o = planned_unit c.rows_are_named.ensures.rows c.renamings_stay_fair.ensures c.rows_are_named.ensures.names c.types_are_exact.ensures.bound c.lookups_are_exact.ensures.keys c.lookups_are_exact.ensures.one p text file at new edits renaming respelled is number f.unit unit in
    let r = is.program.reads number f there in
    let same : r.items ≡ items = c.one_answer.ensures.items f.text r.items items r.lexes lexes in
    let spans = subst (λ (x : Layouts Span). StandInOrder x (placed_of f.text r.items)) (c.marks_are_one.ensures.spans.parts 0 (unit_layouts f.unit)) r.spans in
    let marks = subst (λ (xs : List Item). StandInOrder (unit_layouts f.unit) (placed_of f.text xs)) same spans in
    let apart = o.placed.apart (placed_of f.text items) (tokens_rise f.text c.items_are_placed.ensures.items items lexes) marks in
    let own : es ≡ entries_of o.result.changes = same_Some es (entries_of o.result.changes) (sym of ∙ its_edits edits is.planned.becomes.files is.planned.edits_are number o.result o.made) in
    let change = entry_of o.result.changes 0 i e (subst (λ (xs : List Entry). slice_get xs i ≡ Some e) own stands) in
    let place = edit_of (spelled p is.planned.found.g) o.placed.places.all change.0 ((o.placed.places.edits change.0).0 change.1.0) in
    subst (λ (s : Span). IsOnNames items s) change.1.1 (on_names f.text c.items_are_placed.ensures.items items lexes change.0.span (apart.names place.0 place.1 place.2.0 change.0 place.2.1))
