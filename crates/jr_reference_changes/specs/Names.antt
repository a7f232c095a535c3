-- Which bytes of a text a rename changes: words, with what stands between them in a name.
use Rattle.std.specs.Prelude.{◌≡◌, ℕ, ◌<◌, ◌≤◌, ◌⊎◌, List, Some, slice_get}
use Rattle.jr_text.specs.declared.spans.Span.{Span}
use Rattle.jr_text.specs.Edits.{Entry}
use Rattle.jr_lex.specs.declared.items.Item.{Item}
use Rattle.jr_lex.specs.declared.items.ItemKind.{ItemKind}
use Rattle.jr_lex.specs.declared.items.ItemKind.TheVariants.{Token, Blank, Comment}
use Rattle.jr_lex.specs.declared.items.TokenKind.TheVariants.{Word, Keyword, Mark}
use Rattle.jr_lex.specs.declared.items.Keyword.TheVariants.{Super}
use Rattle.jr_lex.specs.declared.items.Symbol.TheVariants.{Dot}
use Rattle.jr_lex.specs.Lexes.{Lexes}
use Rattle.jr_table.specs.Decls.{Decl}
use Rattle.jr_bind.specs.Programs.{File, Program}
use Rattle.jr_rename_laws.specs.PlanLaws.{IsPlanIn}

-- a word, `super`, a dot, a blank or a comment
abbrev pub IsOfName : ItemKind → Type 0
IsOfName k = (k ≡ Token Word) ⊎ ((k ≡ Token (Keyword Super)) ⊎ ((k ≡ Token (Mark Dot))
    ⊎ ((k ≡ Blank) ⊎ (k ≡ Comment))))

-- they have a byte in common, or the place of the empty one lies inside the other
abbrev pub Meet : Span → Span → Type 0
Meet a b = (a.from < b.to) × (b.from < a.to)

-- each item that the span meets lies within it, and is one of these
abbrev pub IsOnNames : List Item → Span → Type 0
IsOnNames items s = (i : ℕ) (x : Item) → slice_get items i ≡ Some x → Meet x.span s
    → (s.from ≤ x.span.from) × ((x.span.to ≤ s.to) × IsOfName x.kind)

-- so are all edits of the files
abbrev pub AreOnNames : Program Span → (edits : List (List Entry)) → Type 0
AreOnNames p edits = (number : ℕ) (f : File Span) (es : List Entry) (i : ℕ) (e : Entry)
    (items : List Item) → slice_get p.files number ≡ Some f → slice_get edits number ≡ Some es
    → slice_get es i ≡ Some e → Lexes f.text items → IsOnNames items e.span

-- whatever rename is planned
abbrev pub PlansChangeNames : Type 0
PlansChangeNames = (p : Program Span) (text : List ℕ) (file at : ℕ) (new : List ℕ)
    (edits : List (List Entry)) (renaming : List (Decl × Decl)) (respelled : ℕ)
    → (is : IsPlanIn p text file at new edits renaming respelled) → AreOnNames p edits
