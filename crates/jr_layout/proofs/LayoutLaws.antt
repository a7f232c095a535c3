-- What is put in front of a class's brace, from the gap before the brace.
use Rattle.std.proofs.Common.{◌≡◌, ℕ, List, ◌∷◌, ◌++◌, ◌∙◌, ap, inl, inr}
use Rattle.jr_text.specs.declared.spans.Span.{Span}
use Rattle.jr_layout.specs.Lines.{IsIndent, IsFirstOnLine}
use Rattle.jr_layout.specs.Layouts.{IsGap, IsClassEnd}

pub class_end_first : (bytes : List ℕ) (at : ℕ) (member : List ℕ) (indent : Span) (gap put : List ℕ) → IsIndent bytes at indent → IsGap bytes at gap → put ≡ 32 ∷ 32 ∷ 32 ∷ 32 ∷ (member ++ gap) → IsClassEnd bytes at member put
class_end_first bytes at member indent gap put i (inl line) e = inl (gap, line, e)
class_end_first bytes at member indent gap put i (inr (other, g)) e = absurd (other (indent, i))

pub class_end_else : (bytes : List ℕ) (at : ℕ) (member : List ℕ) (gap put : List ℕ) → ¬ IsFirstOnLine bytes at → IsGap bytes at gap → put ≡ 32 ∷ (member ++ gap) → IsClassEnd bytes at member put
class_end_else bytes at member gap put other (inl line) e = absurd (other (line.indent, line.indents))
class_end_else bytes at member gap put other (inr (n, g)) e = inr (other, e ∙ ap (λ x. 32 ∷ (member ++ x)) g)
