use Rattle.std.proofs.Common.{List, Option, sym, ap, subst, ◌∙◌}
use Rattle.std.specs.Prelude.{option_map, slice_get}
use Rattle.std.specs.Result.{IfOk}
use Rattle.jr_table.specs.Rows.{Row}
use Rattle.jr_table.specs.Found.{Found, one, nothing}
use Rattle.jr_table.specs.Lookup.{shown_one}
use Rattle.jr_images.specs.Words.{neither}
use Rattle.jr_new_words.specs.Mappings.{StandsSo}
use Rattle.jr_new_words.specs.FrontView.{in_front_of}
use Rattle.jr_new_words.specs.Scopes.{rows_of, mapping_of, context_of}
use Rattle.jr_new_words.proofs.ClassesInFront.{stands_neither}
use Rattle.jr_new_words.proofs.values.row_stands.Goals as goal

-- what the row of the number declares
abbrev declared : Option Row → Found
declared o = shown_one one (option_map (λ (r : Row). r.decl) o)

pub declared_stands-requires-clause-row : goal.declared_stands-requires-clause-row
declared_stands-requires-clause-row c = ap (λ (rows : List Row). slice_get rows c.args.number) (sym c.requires.rows) ∙ sym c.in-Some.ensures

pub returns-in-None : goal.returns-in-None
returns-in-None c =
    let s = c.args.scopes.now in
    let none = c.in-None.ensures ∙ ap (λ (rows : List Row). slice_get rows c.args.number) c.requires.rows in
    subst (λ (o : Option Row). StandsSo (rows_of s) (mapping_of s) (context_of s) (declared o) neither) none (stands_neither (rows_of s) (mapping_of s) (context_of s) nothing (λ d e. cc))

pub returns-in-Some : goal.returns-in-Some
returns-in-Some c =
    let s = c.args.scopes.now in
    let some = c.in-Some.ensures ∙ ap (λ (rows : List Row). slice_get rows c.args.number) c.requires.rows in
    subst (λ (o : Option Row). IfOk c.declared_stands.result (λ w. StandsSo (rows_of s) (mapping_of s) (context_of s) (declared o) (in_front_of w))) some c.declared_stands.ensures
