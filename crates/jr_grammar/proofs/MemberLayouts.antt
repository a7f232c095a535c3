-- The same of members, classes and units.
use Rattle.std.proofs.Common.{◌≡◌, List, [], ◌∷◌, ◌++◌, Option, Some, None, map, option_map, refl}
use Rattle.jr_lex.specs.declared.items.Keyword.TheVariants.{Class as ClassWord, Extends, Package, Super}
use Rattle.jr_lex.specs.declared.items.Symbol.TheVariants.{OpenParen, CloseParen, OpenBrace, CloseBrace, Semicolon, Comma, Dot, Equals}
use Rattle.jr_ast.specs.Tree.{Word, TypeName, Exp, Exps}
use Rattle.jr_ast.specs.MemberTree as M
use Rattle.jr_ast.specs.MemberTree.{Modifier, Param, Class, class, Member, field, method, constructor, inner, Members, Unit as UnitTree}
use Rattle.jr_ast.specs.Remarked.{map_word, map_modifier, map_type, map_param, map_exp, map_exps, map_class, map_member, map_members, map_unit}
use Rattle.jr_grammar.specs.Tokens.{word, keyword, symbol}
use Rattle.jr_grammar.specs.MemberSpelling.{modifier_keyword, modifiers_toks, param_toks, more_params_toks, params_toks, init_toks, result_toks, super_toks, extends_toks, class_toks, member_toks, members_toks, more_words_toks, package_toks, classes_toks, unit_toks}
use Rattle.jr_grammar.specs.Layout.{token, node, row, done, ◌then◌, laid, all_laid}
use Rattle.jr_grammar.specs.ExpressionLayout.{word_layout}
use Rattle.jr_grammar.specs.MemberLayout.{modifier_layout, modifiers_layout, param_layout, more_params_layout, params_layout, init_layout, result_layout, parent_call_layout, extends_layout, class_layout, member_layout, members_layout, more_words_layout, package_layout, classes_layout, unit_layouts}
use Rattle.jr_grammar.proofs.Layouts.{map_layout, map_layouts}
use Rattle.jr_grammar.proofs.ExpressionLayouts.{ends, type_laid, exp_laid, args_laid, type_layout-map, exp_layout-map, args_layout-map}
use Rattle.jr_grammar.proofs.StatementLayouts.{final_laid, stmts_laid, final_layout-map, stmts_layout-map}

-- ---- spelling

modifiers_laid : {A : Type 0} (x : List (Modifier A)) → laid (modifiers_layout x) ≡ modifiers_toks x
modifiers_laid [] = refl
modifiers_laid (x ∷ xs) = λ i. keyword (modifier_keyword x.word) ∷ ends _ _ (modifiers_laid xs) i

param_laid : {A : Type 0} (x : Param A) → laid (param_layout x) ≡ param_toks x
param_laid {A} x = λ i. final_laid A x.is_final i ++ (type_laid x.type i ++ (word x.name.text ∷ []))

more_params_laid : {A : Type 0} (x : List (Param A)) → laid (more_params_layout x) ≡ more_params_toks x
more_params_laid [] = refl
more_params_laid (x ∷ xs) = λ i. symbol Comma ∷ (param_laid x i ++ ends _ _ (more_params_laid xs) i)

params_laid : {A : Type 0} (x : List (Param A)) → laid (params_layout x) ≡ params_toks x
params_laid [] = refl
params_laid (x ∷ xs) = λ i. param_laid x i ++ ends _ _ (more_params_laid xs) i

init_laid : {A : Type 0} (x : Option (Exp A)) → laid (init_layout x) ≡ init_toks x
init_laid None = refl
init_laid (Some e) = λ i. symbol Equals ∷ ends _ _ (exp_laid e) i

result_laid : {A : Type 0} (x : Option (TypeName A)) → laid (result_layout x) ≡ result_toks x
result_laid None = refl
result_laid (Some t) = λ i. ends _ _ (type_laid t) i

parent_call_laid : {A : Type 0} (x : Option (Exps A)) → laid (parent_call_layout x) ≡ super_toks x
parent_call_laid None = refl
parent_call_laid (Some es) = λ i. keyword Super ∷ (symbol OpenParen ∷ (args_laid es i ++ symbol CloseParen ∷ symbol Semicolon ∷ []))

extends_laid : {A : Type 0} (x : Option (TypeName A)) → laid (extends_layout x) ≡ extends_toks x
extends_laid None = refl
extends_laid (Some t) = λ i. keyword Extends ∷ ends _ _ (type_laid t) i

mutual
  pub class_laid : {A : Type 0} (x : Class A) → laid (class_layout x) ≡ class_toks x
  class_laid (class m ms w parent all) = λ i. modifiers_laid ms i ++ (keyword ClassWord ∷ (word w.text ∷ (extends_laid parent i ++ (symbol OpenBrace ∷ (members_laid all i ++ symbol CloseBrace ∷ [])))))

  pub member_laid : {A : Type 0} (x : Member A) → laid (member_layout x) ≡ member_toks x
  member_laid (field m ms t w init) = λ i. modifiers_laid ms i ++ (type_laid t i ++ (word w.text ∷ (init_laid init i ++ symbol Semicolon ∷ [])))
  member_laid (method m ms t w xs body) = λ i. modifiers_laid ms i ++ (result_laid t i ++ (word w.text ∷ (symbol OpenParen ∷ (params_laid xs i ++ (symbol CloseParen ∷ (symbol OpenBrace ∷ (stmts_laid body i ++ symbol CloseBrace ∷ [])))))))
  member_laid (constructor m ms w xs args body) = λ i. modifiers_laid ms i ++ (word w.text ∷ (symbol OpenParen ∷ (params_laid xs i ++ (symbol CloseParen ∷ (symbol OpenBrace ∷ (parent_call_laid args i ++ (stmts_laid body i ++ symbol CloseBrace ∷ [])))))))
  member_laid (inner m c) = λ i. ends _ _ (class_laid c) i

  members_laid : {A : Type 0} (x : Members A) → laid (members_layout x) ≡ members_toks x
  members_laid M.end = refl
  members_laid (M.more d ds) = λ i. member_laid d i ++ ends _ _ (members_laid ds) i

more_words_laid : {A : Type 0} (x : List (Word A)) → laid (more_words_layout x) ≡ more_words_toks x
more_words_laid [] = refl
more_words_laid (w ∷ ws) = λ i. symbol Dot ∷ word w.text ∷ ends _ _ (more_words_laid ws) i

package_laid : {A : Type 0} (x : List (Word A)) → laid (package_layout x) ≡ package_toks x
package_laid [] = refl
package_laid (w ∷ ws) = λ i. keyword Package ∷ (word w.text ∷ (more_words_laid ws i ++ symbol Semicolon ∷ []))

classes_laid : {A : Type 0} (x : List (Class A)) → laid (classes_layout x) ≡ classes_toks x
classes_laid [] = refl
classes_laid (c ∷ cs) = λ i. class_laid c i ++ ends _ _ (classes_laid cs) i

pub unit_laid : {A : Type 0} (u : UnitTree A) → all_laid (unit_layouts u) ≡ unit_toks u
unit_laid u = λ i. package_laid u.package_name i ++ ends _ _ (classes_laid u.classes) i

-- ---- marks

modifiers_layout-map : {A B : Type 0} (h : A → B) (x : List (Modifier A)) → map_layout h (modifiers_layout x) ≡ modifiers_layout (map (map_modifier h) x)
modifiers_layout-map h [] = refl
modifiers_layout-map h (x ∷ xs) = λ i. row (modifier_layout (map_modifier h x) then modifiers_layout-map h xs i then done)

param_layout-map : {A B : Type 0} (h : A → B) (x : Param A) → map_layout h (param_layout x) ≡ param_layout (map_param h x)
param_layout-map h x = λ i. node (h x.mark) (final_layout-map h x.is_final i then type_layout-map h x.type i then word_layout (map_word h x.name) then done)

more_params_layout-map : {A B : Type 0} (h : A → B) (x : List (Param A)) → map_layout h (more_params_layout x) ≡ more_params_layout (map (map_param h) x)
more_params_layout-map h [] = refl
more_params_layout-map h (x ∷ xs) = λ i. row (token (symbol Comma) then param_layout-map h x i then more_params_layout-map h xs i then done)

params_layout-map : {A B : Type 0} (h : A → B) (x : List (Param A)) → map_layout h (params_layout x) ≡ params_layout (map (map_param h) x)
params_layout-map h [] = refl
params_layout-map h (x ∷ xs) = λ i. row (param_layout-map h x i then more_params_layout-map h xs i then done)

init_layout-map : {A B : Type 0} (h : A → B) (x : Option (Exp A)) → map_layout h (init_layout x) ≡ init_layout (option_map (map_exp h) x)
init_layout-map h None = refl
init_layout-map h (Some e) = λ i. row (token (symbol Equals) then exp_layout-map h e i then done)

result_layout-map : {A B : Type 0} (h : A → B) (x : Option (TypeName A)) → map_layout h (result_layout x) ≡ result_layout (option_map (map_type h) x)
result_layout-map h None = refl
result_layout-map h (Some t) = λ i. row (type_layout-map h t i then done)

parent_call_layout-map : {A B : Type 0} (h : A → B) (x : Option (Exps A)) → map_layout h (parent_call_layout x) ≡ parent_call_layout (option_map (map_exps h) x)
parent_call_layout-map h None = refl
parent_call_layout-map h (Some es) = λ i. row (token (keyword Super) then token (symbol OpenParen) then args_layout-map h es i then token (symbol CloseParen) then token (symbol Semicolon) then done)

extends_layout-map : {A B : Type 0} (h : A → B) (x : Option (TypeName A)) → map_layout h (extends_layout x) ≡ extends_layout (option_map (map_type h) x)
extends_layout-map h None = refl
extends_layout-map h (Some t) = λ i. row (token (keyword Extends) then type_layout-map h t i then done)

mutual
  unfolding map_class map_member map_members

  pub class_layout-map : {A B : Type 0} (h : A → B) (x : Class A) → map_layout h (class_layout x) ≡ class_layout (map_class h x)
  class_layout-map h (class m ms w parent all) = λ i. node (h m) (modifiers_layout-map h ms i then token (keyword ClassWord) then word_layout (map_word h w) then extends_layout-map h parent i then token (symbol OpenBrace) then members_layout-map h all i then token (symbol CloseBrace) then done)

  pub member_layout-map : {A B : Type 0} (h : A → B) (x : Member A) → map_layout h (member_layout x) ≡ member_layout (map_member h x)
  member_layout-map h (field m ms t w init) = λ i. node (h m) (modifiers_layout-map h ms i then type_layout-map h t i then word_layout (map_word h w) then init_layout-map h init i then token (symbol Semicolon) then done)
  member_layout-map h (method m ms t w xs body) = λ i. node (h m) (modifiers_layout-map h ms i then result_layout-map h t i then word_layout (map_word h w) then token (symbol OpenParen) then params_layout-map h xs i then token (symbol CloseParen) then token (symbol OpenBrace) then stmts_layout-map h body i then token (symbol CloseBrace) then done)
  member_layout-map h (constructor m ms w xs args body) = λ i. node (h m) (modifiers_layout-map h ms i then word_layout (map_word h w) then token (symbol OpenParen) then params_layout-map h xs i then token (symbol CloseParen) then token (symbol OpenBrace) then parent_call_layout-map h args i then stmts_layout-map h body i then token (symbol CloseBrace) then done)
  member_layout-map h (inner m c) = λ i. node (h m) (class_layout-map h c i then done)

  members_layout-map : {A B : Type 0} (h : A → B) (x : Members A) → map_layout h (members_layout x) ≡ members_layout (map_members h x)
  members_layout-map h M.end = refl
  members_layout-map h (M.more d ds) = λ i. row (member_layout-map h d i then members_layout-map h ds i then done)

more_words_layout-map : {A B : Type 0} (h : A → B) (x : List (Word A)) → map_layout h (more_words_layout x) ≡ more_words_layout (map (map_word h) x)
more_words_layout-map h [] = refl
more_words_layout-map h (w ∷ ws) = λ i. row (token (symbol Dot) then word_layout (map_word h w) then more_words_layout-map h ws i then done)

package_layout-map : {A B : Type 0} (h : A → B) (x : List (Word A)) → map_layout h (package_layout x) ≡ package_layout (map (map_word h) x)
package_layout-map h [] = refl
package_layout-map h (w ∷ ws) = λ i. row (token (keyword Package) then word_layout (map_word h w) then more_words_layout-map h ws i then token (symbol Semicolon) then done)

classes_layout-map : {A B : Type 0} (h : A → B) (x : List (Class A)) → map_layout h (classes_layout x) ≡ classes_layout (map (map_class h) x)
classes_layout-map h [] = refl
classes_layout-map h (c ∷ cs) = λ i. row (class_layout-map h c i then classes_layout-map h cs i then done)

pub unit_layouts-map : {A B : Type 0} (h : A → B) (u : UnitTree A) → map_layouts h (unit_layouts u) ≡ unit_layouts (map_unit h u)
unit_layouts-map h u = λ i. package_layout-map h u.package_name i then classes_layout-map h u.classes i then done
