-- What extract and inline local make of the list of their statement they make of the program: all
-- around it is as it was.
use Rattle.std.specs.Prelude.{◌≡◌, ℕ, List, []}
use Rattle.jr_text.specs.declared.spans.Span.{Span}
use Rattle.jr_lex.specs.Replacing.{IsName}
use Rattle.jr_ast.specs.StatementTree as statement
use Rattle.jr_grammar.specs.Layout.{itself}
use Rattle.jr_bind.specs.Programs.{Program, IsProgram}
use Rattle.jr_rewrite.specs.Rewritten.{Rewritten}
use Rattle.jr_rewrite.specs.Edited.{AreInOrder}
use Rattle.jr_pieces.specs.Nearest.{Element}
use Rattle.jr_local.specs.Selecting.{element}
use Rattle.jr_local.specs.Inlining as inlining
use Rattle.jr_local.specs.Extracted as extracted
use Rattle.jr_local.specs.Inlined as inlined
use Rattle.jr_untouched_parts.specs.Around.{IsWhole}

-- what becomes of the list from the statement on, by extract local
abbrev pub PutsThere : (p : Program Span) (file from to : ℕ) (name : List ℕ)
    → extracted.Found p file from to name → Rewritten (statement.Stmts Span) → Type 0
PutsThere p file from to name f o = let x : Element f.selected.value = element f.selected in
    extracted.Puts p file from to name f.selected f.text f.items f.type x.at.next x.at.context
    x.at.base x.stmt x.rest o

abbrev pub ExtractsAreWhole : Type 0
ExtractsAreWhole = (p : Program Span) → IsProgram itself (λ m b. Unit {0}) p → (file from to : ℕ)
    (name : List ℕ) (f : extracted.Found p file from to name) (o : Rewritten (statement.Stmts Span))
    → PutsThere p file from to name f o
    → IsWhole p ((extracted.extract_local p file from to name).transform f)
    (extracted.lost_type p file from to name f) file o

-- Where nothing of the type is lost, and the name is an identifier, the changes are in order.
abbrev pub ExtractsAreInOrder : Type 0
ExtractsAreInOrder = (p : Program Span) → IsProgram itself (λ m b. Unit {0}) p
    → (file from to : ℕ) (name : List ℕ) → IsName name → (f : extracted.Found p file from to name)
    → f.type.losses ≡ [] → (o : Rewritten (statement.Stmts Span))
    → PutsThere p file from to name f o → AreInOrder 0 o.changes

-- what becomes of the list from the declaration on, by inline local
abbrev pub GoesThere : (p : Program Span) (file at : ℕ) → inlined.Found p file at
    → Rewritten (statement.Stmts Span) → Type 0
GoesThere p file at f o =
    let x : Element f.asked.declared.init = inlining.element f.asked.declared in
    inlined.Goes p file at f.asked f.type f.text f.items f.copies f.gone x.at.next x.at.context
    x.at.base x.stmt x.rest o

abbrev pub InlinesAreWhole : Type 0
InlinesAreWhole = (p : Program Span) → IsProgram itself (λ m b. Unit {0}) p → (file at : ℕ)
    (f : inlined.Found p file at) (o : Rewritten (statement.Stmts Span))
    → GoesThere p file at f o
    → IsWhole p ((inlined.inline_local p file at).transform f)
    (inlined.lost_copies p file at f) file o

abbrev pub InlinesAreInOrder : Type 0
InlinesAreInOrder = (p : Program Span) → IsProgram itself (λ m b. Unit {0}) p → (file at : ℕ)
    (f : inlined.Found p file at) (o : Rewritten (statement.Stmts Span))
    → GoesThere p file at f o → AreInOrder 0 o.changes
