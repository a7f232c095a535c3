-- What a tree spells, part by part: the parts of each node, one behind the other, are tokens of its
-- own and further nodes.
use Rattle.std.specs.Prelude.{ℕ, List, [], ◌∷◌, ◌++◌}
use Rattle.jr_text.specs.declared.spans.Span.{Span}
use Rattle.jr_grammar.specs.Tokens.{Token}

infixr 30 ◌then◌
mutual
  pub data Layout (A : Type 0) : Type 0 where
    token : (which : Token) → Layout A
    node : (mark : A) (parts : Layouts A) → Layout A
    -- parts that are no node of their own, as the arguments of a call
    row : (parts : Layouts A) → Layout A

  pub data Layouts (A : Type 0) : Type 0 where
    done : Layouts A
    ◌then◌ : (first : Layout A) (rest : Layouts A) → Layouts A

abbrev mutual
  -- the tokens
  pub laid : {A : Type 0} → Layout A → List Token
  laid (token t) = t ∷ []
  laid (node m parts) = all_laid parts
  laid (row parts) = all_laid parts

  pub all_laid : {A : Type 0} → Layouts A → List Token
  all_laid done = []
  all_laid (x then xs) = laid x ++ all_laid xs

-- a mark that is a span tells it, wherever the parent begins
abbrev pub itself : Span → ℕ → Span
itself s base = s

-- With marks that tell spans, each node's from where its parent begins: the same with these spans.
module _ {A : Type 0} (tells : A → ℕ → Span) where
  abbrev mutual
    -- the parent begins at `base`
    pub spans_from : ℕ → Layout A → Layout Span
    spans_from base (token t) = token t
    spans_from base (node m parts) = node (tells m base) (all_spans_from (tells m base).from parts)
    spans_from base (row parts) = row (all_spans_from base parts)

    pub all_spans_from : ℕ → Layouts A → Layouts Span
    all_spans_from base done = done
    all_spans_from base (x then xs) = spans_from base x then all_spans_from base xs
