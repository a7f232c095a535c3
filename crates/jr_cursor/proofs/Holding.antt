-- Identifiers among the items of a text.
use Rattle.std.proofs.Common.{◌≡◌, ℕ, ◌≤◌, List, Some, sym, subst}
use Rattle.std.specs.Prelude.{slice_get}
use Rattle.jr_lex.specs.declared.items.Item.{Item}
use Rattle.jr_lex.specs.Lexes.{Lexes}
use Rattle.jr_images.specs.Targets.{HoldsIdentifier}
use Rattle.jr_cursor.specs.Words.{IsHolder}

pub held : (text : List ℕ) (items : List Item) (at from : ℕ) → Lexes text items → IsHolder items at from → HoldsIdentifier text at from
held text items at from l h = record {
  items = items;
  lexes = l;
  number = h.0;
  holder = h.1;
  stands = h.2;
  is = h.3.0;
  begins = h.4;
  behind = subst (λ f. f ≤ at) h.4 h.3.1;
  inside = h.3.2;
}

pub holder_of : (text : List ℕ) (items : List Item) (at from : ℕ) (h : HoldsIdentifier text at from) → items ≡ h.items → IsHolder items at from
holder_of text items at from h e =
    (h.number, h.holder, subst (λ xs. slice_get xs h.number ≡ Some h.holder) (sym e) h.stands, (h.is, subst (λ f. f ≤ at) (sym h.begins) h.behind, h.inside), h.begins)
