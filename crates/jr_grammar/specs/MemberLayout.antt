-- The parts of members, classes and compilation units (JLS 7.3, 8).
use Rattle.std.specs.Prelude.{List, [], ◌∷◌, Option, Some, None}
use Rattle.jr_lex.specs.declared.items.Keyword.TheVariants.{Class as ClassWord, Extends, Package}
use Rattle.jr_lex.specs.declared.items.Keyword.TheVariants.{Super, Void}
use Rattle.jr_lex.specs.declared.items.Symbol.TheVariants.{OpenParen, CloseParen, OpenBrace}
use Rattle.jr_lex.specs.declared.items.Symbol.TheVariants.{CloseBrace, Semicolon, Comma, Dot}
use Rattle.jr_lex.specs.declared.items.Symbol.TheVariants.{Equals}
use Rattle.jr_ast.specs.Tree.{Word, TypeName, Exp, Exps}
use Rattle.jr_ast.specs.MemberTree as M
use Rattle.jr_ast.specs.MemberTree.{Modifier, Param, Class, class, Member, field, method}
use Rattle.jr_ast.specs.MemberTree.{constructor, inner, Members, Unit as UnitTree}
use Rattle.jr_grammar.specs.Tokens.{keyword, symbol}
use Rattle.jr_grammar.specs.Layout.{Layout, token, node, row, Layouts, done, ◌then◌}
use Rattle.jr_grammar.specs.MemberSpelling.{modifier_keyword}
use Rattle.jr_grammar.specs.ExpressionLayout.{word_layout, type_layout, exp_layout, args_layout}
use Rattle.jr_grammar.specs.StatementLayout.{final_layout, stmts_layout}

abbrev pub modifier_layout : {A : Type 0} → Modifier A → Layout A
modifier_layout x = node x.mark (token (keyword (modifier_keyword x.word)) then done)

abbrev pub modifiers_layout : {A : Type 0} → List (Modifier A) → Layout A
modifiers_layout [] = row done
modifiers_layout (x ∷ xs) = row (modifier_layout x then modifiers_layout xs then done)

abbrev pub param_layout : {A : Type 0} → Param A → Layout A
param_layout x =
    node x.mark (final_layout x.is_final then type_layout x.type then word_layout x.name then done)

-- parameters behind others
abbrev pub more_params_layout : {A : Type 0} → List (Param A) → Layout A
more_params_layout [] = row done
more_params_layout (x ∷ xs) = row (token (symbol Comma) then param_layout x
    then more_params_layout xs then done)

-- with a comma between two
abbrev pub params_layout : {A : Type 0} → List (Param A) → Layout A
params_layout [] = row done
params_layout (x ∷ xs) = row (param_layout x then more_params_layout xs then done)

-- a field's initializer (JLS 8.3.2)
abbrev pub init_layout : {A : Type 0} → Option (Exp A) → Layout A
init_layout None = row done
init_layout (Some e) = row (token (symbol Equals) then exp_layout e then done)

-- a type, or `void` (JLS 8.4.5)
abbrev pub result_layout : {A : Type 0} → Option (TypeName A) → Layout A
result_layout None = row (token (keyword Void) then done)
result_layout (Some t) = row (type_layout t then done)

-- the call of a constructor of the superclass (JLS 8.8.7.1)
abbrev pub parent_call_layout : {A : Type 0} → Option (Exps A) → Layout A
parent_call_layout None = row done
parent_call_layout (Some es) =
    row (token (keyword Super) then token (symbol OpenParen) then args_layout es
    then token (symbol CloseParen)
    then token (symbol Semicolon) then done)

-- JLS 8.1.4
abbrev pub extends_layout : {A : Type 0} → Option (TypeName A) → Layout A
extends_layout None = row done
extends_layout (Some t) = row (token (keyword Extends) then type_layout t then done)

abbrev mutual
  pub class_layout : {A : Type 0} → Class A → Layout A
  class_layout (class m ms w parent all) =
      node m (modifiers_layout ms then token (keyword ClassWord) then word_layout w
      then extends_layout parent
      then token (symbol OpenBrace) then members_layout all
      then token (symbol CloseBrace) then done)

  pub member_layout : {A : Type 0} → Member A → Layout A
  member_layout (field m ms t w init) =
      node m (modifiers_layout ms then type_layout t then word_layout w then init_layout init
      then token (symbol Semicolon) then done)
  member_layout (method m ms t w xs body) =
      node m (modifiers_layout ms then result_layout t then word_layout w
      then token (symbol OpenParen)
      then params_layout xs then token (symbol CloseParen) then token (symbol OpenBrace)
      then stmts_layout body
      then token (symbol CloseBrace) then done)
  member_layout (constructor m ms w xs args body) =
      node m (modifiers_layout ms then word_layout w then token (symbol OpenParen)
      then params_layout xs
      then token (symbol CloseParen) then token (symbol OpenBrace) then parent_call_layout args
      then stmts_layout body then token (symbol CloseBrace) then done)
  member_layout (inner m c) = node m (class_layout c then done)

  pub members_layout : {A : Type 0} → Members A → Layout A
  members_layout M.end = row done
  members_layout (M.more d ds) = row (member_layout d then members_layout ds then done)

-- ---- units

-- words behind others
abbrev pub more_words_layout : {A : Type 0} → List (Word A) → Layout A
more_words_layout [] = row done
more_words_layout (w ∷ ws) = row (token (symbol Dot) then word_layout w
    then more_words_layout ws then done)

-- a package's declaration; no words stand for none (JLS 7.4)
abbrev pub package_layout : {A : Type 0} → List (Word A) → Layout A
package_layout [] = row done
package_layout (w ∷ ws) =
    row (token (keyword Package) then word_layout w then more_words_layout ws
    then token (symbol Semicolon)
    then done)

abbrev pub classes_layout : {A : Type 0} → List (Class A) → Layout A
classes_layout [] = row done
classes_layout (c ∷ cs) = row (class_layout c then classes_layout cs then done)

-- A unit's own mark is its file, whatever its tokens.
abbrev pub unit_layouts : {A : Type 0} → UnitTree A → Layouts A
unit_layouts u = package_layout u.package_name then classes_layout u.classes then done
