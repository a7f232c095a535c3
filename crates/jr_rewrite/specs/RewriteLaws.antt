-- What holds of each rewriting of a file.
use Rattle.std.specs.Prelude.{◌≡◌, ℕ, List}
use Rattle.jr_text.specs.declared.spans.Span.{Span}
use Rattle.jr_text.specs.Edits.{AreEdits, FitsIn}
use Rattle.jr_text.specs.Splices.{splice}
use Rattle.jr_ast.specs.MemberTree.{Unit as UnitTree}
use Rattle.jr_grammar.specs.Bare.{bare_unit}
use Rattle.jr_grammar.specs.Units.{OneUnit}
use Rattle.jr_grammar.specs.Reads.{Reads, ReadsWithSpans}
use Rattle.jr_table.specs.Keys.{ClassKey}
use Rattle.jr_table.specs.DeclaredItems.{DeclaredItem}
use Rattle.jr_rewrite.specs.Rewritten.{Rewritten}
use Rattle.jr_rewrite.specs.Edited.{entries_of, AreInOrder}
use Rattle.jr_rewrite.specs.Suitable.{all_suitable}
use Rattle.jr_rewrite.specs.Rewrites.{RewritesUnit}

-- the changes are in order, and edits that fit the text, and what they make of it reads as the new
-- tree
pub record IsRewritten {A : Type 0} (bytes : List ℕ) (o : Rewritten (UnitTree A)) : Type 0 where
  pub in_order : AreInOrder 0 o.changes
  pub edits : AreEdits (entries_of o.changes)
  pub fits : FitsIn bytes (entries_of o.changes)
  pub reads : Reads (splice bytes (entries_of o.changes)) o.tree

-- Where each choice suits its place, the text of a rewritten file reads as its new tree.
abbrev pub RewritingsRead : {A : Type 0} → (A → ℕ → Span) → Type 0
RewritingsRead {A} tells =
    (new_name : ClassKey → List ℕ → List ℕ) (declarations : List DeclaredItem) (bytes : List ℕ)
    (unit : UnitTree A) (o : Rewritten (UnitTree A)) → ReadsWithSpans tells bytes unit
    → RewritesUnit tells (all_suitable new_name) declarations unit o → IsRewritten bytes o

-- Whatever tree the new text is read as, it is the new one but for its marks, where no two units
-- spell the same tokens and no text is cut in two ways.
abbrev pub RewritingsAreOne : (A B : Type 0) → Type 0
RewritingsAreOne A B =
    OneUnit → (bytes : List ℕ) (o : Rewritten (UnitTree A)) (other : UnitTree B)
    → IsRewritten bytes o → Reads (splice bytes (entries_of o.changes)) other
    → bare_unit other ≡ bare_unit o.tree
