-- The tokens that members, classes and compilation units spell (JLS 7.3, 8).
use Rattle.std.specs.Prelude.{List, [], ◌∷◌, ◌++◌, Option, Some, None}
use Rattle.jr_lex.specs.declared.items.Keyword.{Keyword}
use Rattle.jr_lex.specs.declared.items.Keyword.TheVariants.{Class as ClassWord, Extends, Package}
use Rattle.jr_lex.specs.declared.items.Keyword.TheVariants.{Super, Void, Public as PublicWord}
use Rattle.jr_lex.specs.declared.items.Keyword.TheVariants.{Protected as ProtectedWord}
use Rattle.jr_lex.specs.declared.items.Keyword.TheVariants.{Private as PrivateWord}
use Rattle.jr_lex.specs.declared.items.Keyword.TheVariants.{Static as StaticWord}
use Rattle.jr_lex.specs.declared.items.Keyword.TheVariants.{Final as FinalWord}
use Rattle.jr_lex.specs.declared.items.Keyword.TheVariants.{Volatile as VolatileWord}
use Rattle.jr_lex.specs.declared.items.Keyword.TheVariants.{Synchronized as SynchronizedWord}
use Rattle.jr_lex.specs.declared.items.Symbol.TheVariants.{OpenParen, CloseParen, OpenBrace}
use Rattle.jr_lex.specs.declared.items.Symbol.TheVariants.{CloseBrace, Semicolon, Comma, Dot}
use Rattle.jr_lex.specs.declared.items.Symbol.TheVariants.{Equals}
use Rattle.jr_ast.specs.declared.operators.ModWord.{ModWord}
use Rattle.jr_ast.specs.declared.operators.ModWord.TheVariants.{Public, Protected, Private, Static}
use Rattle.jr_ast.specs.declared.operators.ModWord.TheVariants.{Final, Volatile, Synchronized}
use Rattle.jr_ast.specs.Tree.{Word, TypeName, Exp, Exps}
use Rattle.jr_ast.specs.MemberTree.{Modifier, Param, Class, class, Member, field, method}
use Rattle.jr_ast.specs.MemberTree.{constructor, inner, Members, end, more, Unit as UnitTree}
use Rattle.jr_grammar.specs.Tokens.{Token, word, keyword, symbol}
use Rattle.jr_grammar.specs.Spelling.{type_toks, toks, args_toks}
use Rattle.jr_grammar.specs.StatementSpelling.{final_toks, stmts_toks}

-- JLS 8.1.1, 8.3.1, 8.4.3, 8.8.3
abbrev pub modifier_keyword : ModWord → Keyword
modifier_keyword Public = PublicWord
modifier_keyword Protected = ProtectedWord
modifier_keyword Private = PrivateWord
modifier_keyword Static = StaticWord
modifier_keyword Final = FinalWord
modifier_keyword Volatile = VolatileWord
modifier_keyword Synchronized = SynchronizedWord

abbrev pub modifiers_toks : {A : Type 0} → List (Modifier A) → List Token
modifiers_toks [] = []
modifiers_toks (m ∷ ms) = keyword (modifier_keyword m.word) ∷ modifiers_toks ms

-- JLS 8.4.1
abbrev pub param_toks : {A : Type 0} → Param A → List Token
param_toks p = final_toks p.is_final ++ (type_toks p.type ++ (word p.name.text ∷ []))

-- parameters behind others
abbrev pub more_params_toks : {A : Type 0} → List (Param A) → List Token
more_params_toks [] = []
more_params_toks (p ∷ ps) = symbol Comma ∷ (param_toks p ++ more_params_toks ps)

-- with a comma between two
abbrev pub params_toks : {A : Type 0} → List (Param A) → List Token
params_toks [] = []
params_toks (p ∷ ps) = param_toks p ++ more_params_toks ps

-- a field's initializer (JLS 8.3.2)
abbrev pub init_toks : {A : Type 0} → Option (Exp A) → List Token
init_toks None = []
init_toks (Some e) = symbol Equals ∷ toks e

-- a type, or `void` (JLS 8.4.5)
abbrev pub result_toks : {A : Type 0} → Option (TypeName A) → List Token
result_toks None = keyword Void ∷ []
result_toks (Some t) = type_toks t

-- the call of a constructor of the superclass (JLS 8.8.7.1)
abbrev pub super_toks : {A : Type 0} → Option (Exps A) → List Token
super_toks None = []
super_toks (Some es) = keyword Super ∷ symbol OpenParen
    ∷ (args_toks es ++ (symbol CloseParen ∷ symbol Semicolon ∷ []))

-- JLS 8.1.4
abbrev pub extends_toks : {A : Type 0} → Option (TypeName A) → List Token
extends_toks None = []
extends_toks (Some t) = keyword Extends ∷ type_toks t

abbrev mutual
  pub class_toks : {A : Type 0} → Class A → List Token
  class_toks (class m ms w parent all) =
      modifiers_toks ms ++ (keyword ClassWord ∷ word w.text
      ∷ (extends_toks parent ++ (symbol OpenBrace
      ∷ (members_toks all ++ (symbol CloseBrace ∷ [])))))

  pub member_toks : {A : Type 0} → Member A → List Token
  member_toks (field m ms t w init) =
      modifiers_toks ms ++ (type_toks t
      ++ (word w.text ∷ (init_toks init ++ (symbol Semicolon ∷ []))))
  member_toks (method m ms t w ps body) =
      modifiers_toks ms ++ (result_toks t
      ++ (word w.text ∷ symbol OpenParen
      ∷ (params_toks ps ++ (symbol CloseParen ∷ symbol OpenBrace
      ∷ (stmts_toks body ++ (symbol CloseBrace ∷ []))))))
  member_toks (constructor m ms w ps args body) =
      modifiers_toks ms ++ (word w.text ∷ symbol OpenParen
      ∷ (params_toks ps ++ (symbol CloseParen ∷ symbol OpenBrace
      ∷ (super_toks args ++ (stmts_toks body ++ (symbol CloseBrace ∷ []))))))
  member_toks (inner m c) = class_toks c

  pub members_toks : {A : Type 0} → Members A → List Token
  members_toks end = []
  members_toks (more d ds) = member_toks d ++ members_toks ds

-- ---- units

-- words with a dot between two, behind others
abbrev pub more_words_toks : {A : Type 0} → List (Word A) → List Token
more_words_toks [] = []
more_words_toks (w ∷ ws) = symbol Dot ∷ word w.text ∷ more_words_toks ws

-- a package's declaration; no words stand for none (JLS 7.4)
abbrev pub package_toks : {A : Type 0} → List (Word A) → List Token
package_toks [] = []
package_toks (w ∷ ws) = keyword Package ∷ word w.text
    ∷ (more_words_toks ws ++ (symbol Semicolon ∷ []))

abbrev pub classes_toks : {A : Type 0} → List (Class A) → List Token
classes_toks [] = []
classes_toks (c ∷ cs) = class_toks c ++ classes_toks cs

abbrev pub unit_toks : {A : Type 0} → UnitTree A → List Token
unit_toks u = package_toks u.package_name ++ classes_toks u.classes
