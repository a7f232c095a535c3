-- What binding says of the nodes of a body, by their spans, as far as their sites ask for it. No
-- two expressions of a body have one span, and no two words.
use Rattle.std.specs.Prelude.{
  ◌≡◌,
  ◌↔◌,
  ◌⊎◌,
  ℕ,
  ◌+◌,
  ◌-◌,
  Bool,
  true,
  IsTrue,
  List,
  [],
  ◌∷◌,
  ◌++◌,
  Option,
  Some,
  None,
}
use Rattle.std.specs.List.{position_or_len}
use Rattle.jr_text.specs.declared.spans.Span.{Span}
use Rattle.jr_ast.specs.Tree as tree
use Rattle.jr_ast.specs.StatementTree as statement
use Rattle.jr_grammar.specs.Layout.{itself}
use Rattle.jr_table.specs.Keys.{Ty}
use Rattle.jr_expr_types.specs.Slots.{find_type}
use Rattle.jr_bind.specs.Bounds.{decl_in}
use Rattle.jr_bind.specs.Programs.{Program}
use Rattle.jr_code.specs.RunKeys.{RunKeys, Place}
use Rattle.jr_cover.specs.Facts.{Facts, Variable, is_local}
use Rattle.jr_cover.specs.Sites.{Known}
use Rattle.jr_cover.specs.NeverNullTrees.{NeverNull}
use Rattle.jr_expr_sites.specs.Meanings.{Meaning, meaning_of, variable_of, is_class}
use Rattle.jr_expr_sites.specs.KnownFacts.{is_checked}
use Rattle.jr_pieces.specs.Ways.{ListWay}
use Rattle.jr_pieces.specs.Finding.{same_span, find_list}
use Rattle.jr_pieces.specs.Nearest.{nearest}
use Rattle.jr_pieces.specs.Uses as uses
use Rattle.jr_pieces.specs.Uses.{list_use}
use Rattle.jr_local.specs.Bodies.{begins, Body}

-- the words that declare locals, in text order, and so in the order of the locals' numbers
abbrev mutual
  pub words_of : statement.Stmt Span → List Span
  words_of (statement.local m is_final t w e) = w.mark ∷ []
  words_of (statement.eval m e) = []
  words_of (statement.branch m c s o) = words_of s ++ words_behind o
  words_of (statement.loop m c s) = words_of s
  words_of (statement.return m e) = []
  words_of (statement.block m b) = words_in b
  words_of (statement.sync m e b) = words_in b
  words_of (statement.empty m) = []

  -- behind `else`
  pub words_behind : statement.Else Span → List Span
  words_behind statement.no_else = []
  words_behind (statement.otherwise s) = words_of s

  pub words_in : statement.Stmts Span → List Span
  words_in statement.end = []
  words_in (statement.more s ss) = words_of s ++ words_in ss

module _ (p : Program Span) (b : Body) where
  abbrev pub place : ℕ → Place
  place at = record { member = b.key; at = at }

  -- ---- words and casts

  -- what the reference means that begins at the byte; binding counts from the member's first one
  abbrev pub meaning_at : ℕ → Meaning
  meaning_at at = meaning_of (decl_in b.bound.references (at - b.at.base))

  abbrev pub variable_at : Span → Option (Variable RunKeys)
  variable_at s = variable_of p.rows (meaning_at s.from)

  abbrev pub type_at : List ℕ → Option Ty
  type_at path = find_type b.bound.types path

  -- may the cast to which the path leads fail? Its operand is its child behind the type
  abbrev pub may_fail : Option (List ℕ) → Bool
  may_fail None = true
  may_fail (Some path) = is_checked p.rows (type_at (path ++ 1 ∷ [])) (type_at path)

  -- the path to the expression of a span
  abbrev pub path_to : Span → Option (List ℕ)
  path_to s = find_list itself s b.at.base b.front b.list

  -- Sites ask for no more: which method is called, which constructor, and which class a literal
  -- means.
  abbrev pub facts : Facts RunKeys Span
  facts = record {
    first = λ s. place s.from;
    last = λ s. place (s.to - 1);
    variable = variable_at;
    called = λ s. None;
    created = λ s. None;
    class = λ s. None;
    is_checked = λ s. may_fail (path_to s);
    number = λ s. b.at.next + position_or_len (same_span s) (words_in b.list);
  }

  -- ---- values that are never null

  -- a statement of a list in the body declares the local of the number, and this is its initializer
  pub record Declares (n : ℕ) (init : tree.Exp Span) : Type 0 where
    pub way : ListWay init b.list
    pub mark : Span
    pub is_final : Bool
    pub type : tree.TypeName Span
    pub word : tree.Word Span
    pub is : (nearest begins b.at way).stmt ≡ statement.local mark is_final type word init
    pub number : (nearest begins b.at way).at.next ≡ n

  -- `=`, `op=`, `++` or `--` in the body assigns the local
  pub record Assigns (n : ℕ) : Type 0 where
    pub at : tree.Exp Span
    pub way : ListWay at b.list
    pub mark : Span
    pub word : tree.Word Span
    pub is : at ≡ tree.name mark word
    pub local : variable_at word.mark ≡ Some (is_local n)
    pub used : (list_use way ≡ uses.assigned) ⊎ (list_use way ≡ uses.changed)

  -- `this`, `new`, a string, a class literal, these in parentheses, and a local that is never
  -- assigned behind its declaration, and whose initializer is never null and names no local of the
  -- same or a higher number
  pub record IsNeverNull (e : tree.Exp Span) : Type 0 where
    pub init : ℕ → Option (tree.Exp Span)
    pub is_assigned : ℕ → Bool
    pub declared : (n : ℕ) (i : tree.Exp Span) → (init n ≡ Some i) ↔ Declares n i
    pub assigned : (n : ℕ) → (is_assigned n ≡ true) ↔ Assigns n
    pub never : NeverNull facts init is_assigned e

  -- the test tells whether a value is never null
  abbrev pub TellsNeverNull : (never_null : tree.Exp Span → Bool) → Type 0
  TellsNeverNull never_null = (e : tree.Exp Span) → IsTrue (never_null e) ↔ IsNeverNull e

  -- ---- all of it

  abbrev pub known : (never_null : tree.Exp Span → Bool) → Known RunKeys Span
  known never_null = record {
    facts = facts;
    is_class = λ s. is_class (meaning_at s.from);
    never_null = never_null;
  }
