use Rattle.std.proofs.Common.{◌≡◌, ℕ, List, Option, map, length, sym, ap, ◌∙◌}
use Rattle.jr_table.specs.declared.rows.Row as raw
use Rattle.jr_table.specs.KeyView.{decl_of}
use Rattle.jr_table.specs.RowView.{row_of}
use Rattle.jr_table.specs.Entries.{number_of, top_class}
use Rattle.jr_table.specs.ClassIndex.{class_place, place_in}
use Rattle.jr_table.proofs.SameMaps.{map-map}
use Rattle.jr_table.proofs.Walking.{as_long}
use Rattle.jr_table.proofs.class_index.places.Goals as goal

pub returns : goal.returns
returns c =
    let rows = c.args.rows.now in
    let all = map row_of rows in
    c.in_ok-places.ensures
    ∙ ap (λ (find : List ℕ → Option ℕ). map (λ (r : raw.Row). class_place find (length rows) (decl_of r.decl)) rows) (λ i q. c.in_ok-tops.ensures q i)
    ∙ ap (λ (n : ℕ). map (λ (r : raw.Row). class_place (λ q. number_of all (top_class q)) n (decl_of r.decl)) rows) (sym (as_long row_of rows))
    ∙ sym (map-map row_of (place_in all) rows)
