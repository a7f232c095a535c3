-- Notes on the types of declarations: exact.
use Rattle.std.specs.Prelude.{
  ◌≡◌,
  ℕ,
  List,
  [],
  ◌∷◌,
  ◌++◌,
  Option,
  Some,
  None,
  Bool,
  true,
  false,
  if◌then◌else◌,
}
use Rattle.jr_ast.specs.Tree as tree
use Rattle.jr_ast.specs.MemberTree as syntax
use Rattle.jr_table.specs.declared.answers.Answer.{Answer}
use Rattle.jr_table.specs.Decls.{MemberKey}
use Rattle.jr_table.specs.Rows.{Row}
use Rattle.jr_table.specs.Found.{Found, one, nothing, many, not_accessible, from_static}
use Rattle.jr_table.specs.Entries.{class_number}
use Rattle.jr_table.specs.Lookup.{find_type_named, find_type_of}
use Rattle.jr_table.specs.Context.{Context, scope_of}
use Rattle.jr_table.specs.Binding.{type}
use Rattle.jr_table.specs.Meanings.{class_found, find_in, Reference, reference}
use Rattle.jr_table.specs.HeadNotes.{declared_note, declared_notes}
use Rattle.jr_bind_expr.specs.declared.findings.Note as raw
use Rattle.jr_bind_expr.specs.declared.findings.Note.TheVariants.{Finds}
use Rattle.jr_bind_expr.specs.declared.findings.Sought.TheVariants as sought
use Rattle.jr_bind_expr.specs.declared.findings.Finding.TheVariants as finding
use Rattle.jr_bind_expr.specs.Logs.{notes_of}
use Rattle.jr_bind_expr.specs.Fits.{FitsType}

-- what is noted of a reference in a declaration: what it is bound to, or what isn't accessible
abbrev pub is_told : Found → Bool
is_told (one d) = true
is_told (not_accessible d) = true
is_told nothing = false
is_told (many d e) = false
is_told (from_static d) = false

abbrev pub PutsIf : Bool → (at : ℕ) → Answer → (old new : List raw.Note) → Type 0
PutsIf is_told at a old new =
    new ≡ old ++ (if is_told then Finds at sought.Type (finding.Rows a) ∷ [] else [])

-- one note more, or none, of what a reference in a declaration finds
abbrev pub PutsDeclared : List Row → (at : ℕ) → Found → (old new : List raw.Note) → Type 0
PutsDeclared rows at f old new =
    (k : MemberKey) → notes_of rows k new ≡ notes_of rows k old ++ declared_note at f

-- the notes on these references more, which are seen from class number `class`
abbrev pub PutsReferences : List Row → (class : ℕ) → (Context → List Reference)
    → (old new : List raw.Note) → Type 0
PutsReferences rows class references old new = (k : MemberKey) (c : Context)
    → class_number rows (scope_of c).class ≡ class
    → notes_of rows k new ≡ notes_of rows k old ++ declared_notes (references c)

module _ {A : Type 0} (begins : A → ℕ → ℕ) (Fits : A → ℕ → Type 0) where
  abbrev pub FitsParams : (at : ℕ) → List (syntax.Param A) → Type 0
  FitsParams at [] = Unit {0}
  FitsParams at (p ∷ ps) =
      Fits p.mark at × FitsType begins Fits (begins p.mark at) p.type × FitsParams at ps

  abbrev pub FitsMaybeType : (at : ℕ) → Option (tree.TypeName A) → Type 0
  FitsMaybeType at None = Unit {0}
  FitsMaybeType at (Some t) = FitsType begins Fits at t

-- the notes on a member type's name behind that of its class
abbrev pub PutsDotted : {A : Type 0} (begins : A → ℕ → ℕ) → List Row → (class at : ℕ)
    → (outer name : tree.Word A) → (old new : List raw.Note) → Type 0
PutsDotted begins rows class at o w old new = (k : MemberKey) (c : Context)
    → class_number rows (scope_of c).class ≡ class
    → notes_of rows k new ≡ notes_of rows k old ++ declared_notes (reference (begins o.mark at) type
    (find_type_named rows (scope_of c) o.text)
    ∷ reference (begins w.mark at) type
    (find_in (class_found (find_type_named rows (scope_of c) o.text))
    (λ j. find_type_of rows (scope_of c) j w.text))
    ∷ [])
