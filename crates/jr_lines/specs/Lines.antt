-- What is shown of a file's bindings: a line for each reference that is bound, and one for each
-- rule that is broken.
use Rattle.std.specs.Prelude.{
  ◌≡◌,
  ℕ,
  ◌+◌,
  ◌*◌,
  ◌<◌,
  ◌⊎◌,
  ◌↔◌,
  List,
  [],
  ◌∷◌,
  ◌++◌,
  length,
  sum_by,
  codes,
  decimal,
}
use Rattle.jr_table.specs.Decls.{Decl}
use Rattle.jr_table.specs.Names.{rule_name}
use Rattle.jr_table.specs.Errors.{rule_rank}
use Rattle.jr_table.specs.declared.rules.Rule.{Rule}
use Rattle.jr_names.specs.DeclTexts.{decl_text}

pub data Line : Type 0 where
  -- what stands there is bound to the declaration
  reference : (at : ℕ) (name : List ℕ) (decl : Decl) → Line
  -- the rule is broken there
  broken : (at : ℕ) (of : Rule) → Line

abbrev pub line_at : Line → ℕ
line_at (reference at name decl) = at
line_at (broken at of) = at

-- at one place a reference stands before what is broken, and that in the order of the rules
abbrev pub line_rank : Line → ℕ
line_rank (reference at name decl) = 0
line_rank (broken at of) = rule_rank of

abbrev pub line_text : Line → List ℕ
line_text (reference at name decl) =
    decimal at ++ codes " " ++ name ++ codes " " ++ decl_text decl
line_text (broken at of) = decimal at ++ codes " error " ++ rule_name of

-- how many bytes lines have
abbrev pub bytes_of : List (List ℕ) → ℕ
bytes_of lines = sum_by (λ (l : List ℕ). length l) lines

-- ---- their order

abbrev pub ComesBefore : Line → Line → Type 0
ComesBefore l m =
    (line_at l < line_at m) ⊎ ((line_at l ≡ line_at m) × (line_rank l < line_rank m))

abbrev pub AreInOrder : List Line → Type 0
AreInOrder [] = Unit {0}
AreInOrder (l ∷ []) = Unit {0}
AreInOrder (l ∷ m ∷ ls) = ComesBefore l m × AreInOrder (m ∷ ls)

abbrev pub Among : List Line → Line → Type 0
Among [] l = ⊥
Among (x ∷ xs) l = (x ≡ l) ⊎ Among xs l

-- exactly these, each once, by place
pub record AreLines (Has : Line → Type 0) (lines : List Line) : Type 0 where
  pub in_order : AreInOrder lines
  pub exact : (l : Line) → Among lines l ↔ Has l

-- ---- for private clauses

-- a number by which lines are in order, since there are fewer than thirty-two rules
abbrev pub order_number : Line → ℕ
order_number l = line_at l * 32 + line_rank l

-- no two of one place and rank
abbrev pub AreApart : List Line → Type 0
AreApart lines = (l m : Line) → Among lines l → Among lines m → line_at l ≡ line_at m
    → line_rank l ≡ line_rank m → l ≡ m
