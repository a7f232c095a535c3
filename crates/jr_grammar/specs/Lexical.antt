-- Trees that may stand in a text: each word is an identifier, each string has right escapes, and
-- each number is within its limit.
use Rattle.std.specs.Prelude.{◌≡◌, ◌≤◌, ℕ, Bool, true, List, [], ◌∷◌}
use Rattle.std.specs.Str.{IsUtf8, chars}
use Rattle.jr_lex.specs.Replacing.{IsName}
use Rattle.jr_lex.specs.Strings.{is_content, is_escape}
use Rattle.jr_ast.specs.Tree.{Exp}
use Rattle.jr_ast.specs.StatementTree.{Stmt}
use Rattle.jr_ast.specs.MemberTree.{Member, Unit as UnitTree}
use Rattle.jr_grammar.specs.Tokens.{Token, word, keyword, integer, text, symbol}
use Rattle.jr_grammar.specs.Spelling.{toks}
use Rattle.jr_grammar.specs.Shape.{Shaped}
use Rattle.jr_grammar.specs.StatementSpelling.{stmt_toks}
use Rattle.jr_grammar.specs.StatementShape.{StmtShaped}
use Rattle.jr_grammar.specs.MemberSpelling.{member_toks, unit_toks}
use Rattle.jr_grammar.specs.MemberShape.{MemberShaped, UnitShaped}

-- what may stand between the quotation marks of a string (JLS 3.10.5)
pub record IsWritten (bytes : List ℕ) : Type 0 where
  pub is_text : IsUtf8 bytes
  pub escapes : is_content is_escape (chars bytes) ≡ true

-- a token that a text may have (JLS 3.8 to 3.12)
abbrev pub IsLexical : Token → Type 0
IsLexical (word t) = IsName t
IsLexical (keyword k) = Unit {0}
IsLexical (integer n) = n ≤ 2147483648
IsLexical (text s) = IsWritten s
IsLexical (symbol s) = Unit {0}

abbrev pub AreLexical : List Token → Type 0
AreLexical [] = Unit {0}
AreLexical (t ∷ ts) = IsLexical t × AreLexical ts

-- ---- trees of the grammar: shaped, and of such tokens

pub record IsGrammarExpression {A : Type 0} (tree : Exp A) : Type 0 where
  pub shaped : Shaped tree
  pub lexical : AreLexical (toks tree)

pub record IsGrammarStatement {A : Type 0} (stmt : Stmt A) : Type 0 where
  pub shaped : StmtShaped stmt
  pub lexical : AreLexical (stmt_toks stmt)

-- of the class that has the name; `nested` says whether that class is itself a member class
pub record IsGrammarMember {A : Type 0} (nested : Bool) (name : List ℕ)
    (member : Member A) : Type 0 where
  pub shaped : MemberShaped nested name member
  pub lexical : AreLexical (member_toks member)

pub record IsGrammarUnit {A : Type 0} (unit : UnitTree A) : Type 0 where
  pub shaped : UnitShaped unit
  pub lexical : AreLexical (unit_toks unit)
