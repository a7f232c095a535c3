-- Where the tokens of a text that is rewritten stand in the new one.
use Rattle.std.specs.Prelude.{◌≡◌, ◌⊎◌, ℕ, ◌+◌, ◌-◌, List, [], ◌∷◌}
use Rattle.jr_text.specs.declared.spans.Span.{Span}
use Rattle.jr_text.specs.Edits.{Entry}
use Rattle.jr_text.specs.Splices.{splice, IsUntouched, moved_to}
use Rattle.jr_lex.specs.declared.items.Item.{Item}
use Rattle.jr_lex.specs.Lexes.{Lexes}
use Rattle.jr_ast.specs.MemberTree.{Unit as UnitTree}
use Rattle.jr_grammar.specs.Tokens.{Placed, placed_of}
use Rattle.jr_grammar.specs.Stands.{Tokens}
use Rattle.jr_grammar.specs.Reads.{ReadsWithSpans}
use Rattle.jr_table.specs.Keys.{ClassKey}
use Rattle.jr_table.specs.DeclaredItems.{DeclaredItem}
use Rattle.jr_rewrite.specs.Rewritten.{Rewritten}
use Rattle.jr_rewrite.specs.Edited.{entries_of}
use Rattle.jr_rewrite.specs.Suitable.{all_suitable}
use Rattle.jr_rewrite.specs.Rewrites.{RewritesUnit}

-- a span as long, from where its first byte has moved to
abbrev pub moved_span : List Entry → Span → Span
moved_span es s = record { from = moved_to es s.from; to = moved_to es s.from + (s.to - s.from) }

-- the token is one of them
abbrev pub Among : Placed Span → Tokens → Type 0
Among p [] = ⊥
Among p (q ∷ qs) = (q ≡ p) ⊎ Among p qs

-- the token in the text that these edits make
abbrev pub moved_token : List Entry → Placed Span → Placed Span
moved_token es p = record { mark = moved_span es p.mark; token = p.token }

-- In a file that is rewritten by choices that suit, each token whose first byte no change touches
-- is a token of the new text, moved.
abbrev pub UntouchedTokensMove : {A : Type 0} → (A → ℕ → Span) → Type 0
UntouchedTokensMove {A} tells =
    (new_name : ClassKey → List ℕ → List ℕ) (declarations : List DeclaredItem) (bytes : List ℕ)
    (unit : UnitTree A) (o : Rewritten (UnitTree A)) → (h : ReadsWithSpans tells bytes unit)
    → RewritesUnit tells (all_suitable new_name) declarations unit o → (items : List Item)
    → Lexes (splice bytes (entries_of o.changes)) items → (p : Placed Span)
    → Among p (placed_of bytes h.items) → IsUntouched (entries_of o.changes) p.mark.from
    → Among (moved_token (entries_of o.changes) p)
    (placed_of (splice bytes (entries_of o.changes)) items)
