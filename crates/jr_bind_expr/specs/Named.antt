-- What a written type's names find, and the notes on them.
use Rattle.std.specs.Prelude.{◌≡◌, ℕ, List, [], ◌∷◌, ◌++◌, Option, Some, None}
use Rattle.jr_ast.specs.Tree as tree
use Rattle.jr_table.specs.declared.answers.Answer.{Answer}
use Rattle.jr_table.specs.Rows.{Row}
use Rattle.jr_table.specs.Entries.{entries_of}
use Rattle.jr_table.specs.Scope.{Scope}
use Rattle.jr_table.specs.Fields.{find_member_type}
use Rattle.jr_table.specs.Lookup.{find_type_named, find_type_of}
use Rattle.jr_table.specs.Meanings.{class_found, find_in}
use Rattle.jr_table.specs.Binding.{type}
use Rattle.jr_table.specs.Notes.{Note, found_note}
use Rattle.jr_bind_expr.specs.declared.findings.Note as raw
use Rattle.jr_bind_expr.specs.declared.findings.Note.TheVariants.{Finds}
use Rattle.jr_bind_expr.specs.declared.findings.Sought as raw_sought
use Rattle.jr_bind_expr.specs.declared.findings.Finding.TheVariants as finding
use Rattle.jr_bind_expr.specs.Numbered.{in_class}

-- one note more, of what is found by the numbers of rows
abbrev pub PutsFound : ℕ → raw_sought.Sought → Answer → (old new : List raw.Note) → Type 0
PutsFound at q a old new = new ≡ old ++ Finds at q (finding.Rows a) ∷ []

-- the member class of a class, if there is one, at a place of class p
abbrev pub inner_answer : List Row → ℕ → Option ℕ → List ℕ → Answer
inner_answer rows p class name =
    in_class class (λ c. find_member_type (entries_of rows) p c name)

abbrev pub plain_notes : List Row → Scope → ℕ → List ℕ → List Note
plain_notes rows s at name = found_note at type (find_type_named rows s name) ∷ []

module _ {A : Type 0} (begins : A → ℕ → ℕ) where
  abbrev pub named_notes : List Row → Scope → (at : ℕ) → Option (tree.Word A) → tree.Word A
      → List Note
  named_notes rows s at None w = plain_notes rows s (begins w.mark at) w.text
  named_notes rows s at (Some o) w = plain_notes rows s (begins o.mark at) o.text
      ++ found_note (begins w.mark at) type (find_in (class_found (find_type_named rows s o.text))
      (λ k. find_type_of rows s k w.text)) ∷ []
