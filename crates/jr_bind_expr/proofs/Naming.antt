-- Written types: what their names find, and the notes on them.
use Rattle.std.proofs.Common.{◌≡◌, ℕ, List, [], ◌∷◌, ◌++◌, map, Option, Some, None, refl, ap, ◌∙◌, append_assoc}
use Rattle.std.proofs.lemmas.List.{map-append}
use Rattle.std.specs.Prelude.{option_map, option_and_then}
use Rattle.jr_table.specs.declared.answers.Answer.{Answer}
use Rattle.jr_table.specs.Keys.{ClassKey}
use Rattle.jr_table.specs.Decls.{MemberKey}
use Rattle.jr_table.specs.Rows.{Row}
use Rattle.jr_table.specs.Entries.{class_number}
use Rattle.jr_table.specs.Found.{Found}
use Rattle.jr_table.specs.Scope.{Scope}
use Rattle.jr_table.specs.Lookup.{shown, find_type_named, find_type_of}
use Rattle.jr_table.specs.Meanings.{class_found, named_class, find_in}
use Rattle.jr_table.specs.Notes.{Note, found_note}
use Rattle.jr_bind_expr.specs.declared.findings.Note as raw
use Rattle.jr_bind_expr.specs.declared.findings.Sought as raw_sought
use Rattle.jr_bind_expr.specs.declared.findings.Finding.TheVariants as finding
use Rattle.jr_bind_expr.specs.declared.findings.Note.TheVariants.{Finds}
use Rattle.jr_bind_expr.specs.Findings.{sought_of, note_of}
use Rattle.jr_bind_expr.specs.Logs.{notes_of}
use Rattle.jr_bind_expr.specs.Named.{PutsFound, inner_answer}
use Rattle.jr_bind_expr.proofs.Numbers.{types_are}

module _ (rows : List Row) where
  -- one note more
  pub put_is : (k : MemberKey) (at : ℕ) (q : raw_sought.Sought) (a : Answer) (old new : List raw.Note) → PutsFound at q a old new → notes_of rows k new ≡ notes_of rows k old ++ found_note at (sought_of q) (shown rows a) ∷ []
  put_is k at q a old new h = ap (map (note_of rows k)) h ∙ map-append (note_of rows k) old (Finds at q (finding.Rows a) ∷ [])

  -- one note, and others behind it
  pub puts : (k : MemberKey) (n : raw.Note) (x : Note) (more : List Note) (old new : List raw.Note) (last : List Note) → new ≡ old ++ n ∷ [] → note_of rows k n ≡ x → last ≡ notes_of rows k new ++ more → last ≡ notes_of rows k old ++ x ∷ more
  puts k n x more old new last h is behind =
      behind ∙ ap (λ xs. notes_of rows k xs ++ more) h ∙ ap (λ xs. xs ++ more) (map-append (note_of rows k) old (n ∷ [])) ∙ append_assoc (notes_of rows k old) (note_of rows k n ∷ []) more ∙ ap (λ y. notes_of rows k old ++ y ∷ more) is

  module _ (s : Scope) (p : ℕ) (here : class_number rows s.class ≡ p) (outer name : List ℕ) (class : Option ℕ) (is : class ≡ option_map (class_number rows) (class_found (find_type_named rows s outer))) where
    -- the member class of a class that is named
    pub inner_is : shown rows (inner_answer rows p class name) ≡ find_in (class_found (find_type_named rows s outer)) (λ k. find_type_of rows s k name)
    inner_is = ap (λ o. shown rows (inner_answer rows p o name)) is ∙ types_are rows s p here (class_found (find_type_named rows s outer)) name

    in_found : (o : Option ClassKey) (f : ClassKey → Found) → class_found (find_in o f) ≡ option_and_then (λ k. class_found (f k)) o
    in_found None f = refl
    in_found (Some k) f = refl

    pub inner_class_is : option_map (class_number rows) (class_found (shown rows (inner_answer rows p class name))) ≡ option_map (class_number rows) (named_class rows s (Some outer) name)
    inner_class_is = ap (λ f. option_map (class_number rows) (class_found f)) inner_is ∙ ap (option_map (class_number rows)) (in_found (class_found (find_type_named rows s outer)) (λ k. find_type_of rows s k name))
