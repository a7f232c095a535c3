-- A member, class or unit with the marks of its parts.
use Rattle.std.proofs.Common.{◌≡◌, List, [], ◌∷◌, drop, Option, Some, None, map, option_map, refl}
use Rattle.jr_text.specs.declared.spans.Span.{Span}
use Rattle.jr_lex.specs.declared.items.Keyword.TheVariants.{Class as ClassWord, Extends, Package, Super}
use Rattle.jr_lex.specs.declared.items.Symbol.TheVariants.{OpenParen, CloseParen, OpenBrace, CloseBrace, Semicolon, Comma, Dot, Equals}
use Rattle.jr_ast.specs.Tree.{Word, TypeName, Exp, Exps}
use Rattle.jr_ast.specs.MemberTree as M
use Rattle.jr_ast.specs.MemberTree.{Modifier, Param, Class, class, Member, field, method, constructor, inner, Members, Unit as UnitTree}
use Rattle.jr_ast.specs.Remarked.{map_word, map_modifier, map_type, map_param, map_exp, map_exps, map_class, map_member, map_members, map_unit}
use Rattle.jr_grammar.specs.Tokens.{keyword, symbol}
use Rattle.jr_grammar.specs.Layout.{Layout, token, node, row, Layouts, done, ◌then◌}
use Rattle.jr_grammar.specs.ExpressionLayout.{word_layout, type_layout, exp_layout, args_layout}
use Rattle.jr_grammar.specs.StatementLayout.{final_layout, stmts_layout}
use Rattle.jr_grammar.specs.MemberLayout.{modifier_layout, modifiers_layout, param_layout, more_params_layout, params_layout, init_layout, result_layout, parent_call_layout, extends_layout, class_layout, member_layout, members_layout, more_words_layout, package_layout, classes_layout, unit_layouts}
use Rattle.jr_grammar.specs.Bare.{Bare, no_mark}
use Rattle.jr_grammar.specs.Stands.{Tokens, span_of}
use Rattle.jr_grammar.proofs.Layouts.{front, back, lay, lay_all, mark_of, parts_of, part0, part1, part2, part3, part4, part5, part6, part7}
use Rattle.jr_grammar.proofs.ExpressionMarks.{word_at, type_at, exp_at, args_at, type_again, exp_again, args_again, type_stays, exp_stays, args_stays, type_bare, exp_bare, args_bare}
use Rattle.jr_grammar.proofs.StatementMarks.{stmts_at, stmts_again, final_stays, stmts_stays, stmts_bare}

-- ---- its marks are those of the parts

abbrev modifier_at : {A B : Type 0} → B → Modifier A → Layout B → Modifier B
modifier_at d x y = record { mark = mark_of d y; word = x.word }

abbrev modifiers_at : {A B : Type 0} → B → List (Modifier A) → Layout B → List (Modifier B)
modifiers_at d [] y = []
modifiers_at d (x ∷ xs) y = (modifier_at d x (part0 (parts_of y))) ∷ (modifiers_at d xs (part1 (parts_of y)))

abbrev param_at : {A B : Type 0} → B → Param A → Layout B → Param B
param_at d x y = record { mark = mark_of d y; is_final = x.is_final; type = type_at d x.type (part1 (parts_of y)); name = word_at d x.name (part2 (parts_of y)) }

abbrev more_params_at : {A B : Type 0} → B → List (Param A) → Layout B → List (Param B)
more_params_at d [] y = []
more_params_at d (x ∷ xs) y = (param_at d x (part1 (parts_of y))) ∷ (more_params_at d xs (part2 (parts_of y)))

abbrev params_at : {A B : Type 0} → B → List (Param A) → Layout B → List (Param B)
params_at d [] y = []
params_at d (x ∷ xs) y = (param_at d x (part0 (parts_of y))) ∷ (more_params_at d xs (part1 (parts_of y)))

abbrev init_at : {A B : Type 0} → B → Option (Exp A) → Layout B → Option (Exp B)
init_at d None y = None
init_at d (Some e) y = Some (exp_at d e (part1 (parts_of y)))

abbrev result_at : {A B : Type 0} → B → Option (TypeName A) → Layout B → Option (TypeName B)
result_at d None y = None
result_at d (Some t) y = Some (type_at d t (part0 (parts_of y)))

abbrev parent_call_at : {A B : Type 0} → B → Option (Exps A) → Layout B → Option (Exps B)
parent_call_at d None y = None
parent_call_at d (Some es) y = Some (args_at d es (part2 (parts_of y)))

abbrev extends_at : {A B : Type 0} → B → Option (TypeName A) → Layout B → Option (TypeName B)
extends_at d None y = None
extends_at d (Some t) y = Some (type_at d t (part1 (parts_of y)))

abbrev mutual
  pub class_at : {A B : Type 0} → B → Class A → Layout B → Class B
  class_at d (class m ms w parent all) y = class (mark_of d y) (modifiers_at d ms (part0 (parts_of y))) (word_at d w (part2 (parts_of y))) (extends_at d parent (part3 (parts_of y))) (members_at d all (part5 (parts_of y)))

  pub member_at : {A B : Type 0} → B → Member A → Layout B → Member B
  member_at d (field m ms t w init) y = field (mark_of d y) (modifiers_at d ms (part0 (parts_of y))) (type_at d t (part1 (parts_of y))) (word_at d w (part2 (parts_of y))) (init_at d init (part3 (parts_of y)))
  member_at d (method m ms t w xs body) y = method (mark_of d y) (modifiers_at d ms (part0 (parts_of y))) (result_at d t (part1 (parts_of y))) (word_at d w (part2 (parts_of y))) (params_at d xs (part4 (parts_of y))) (stmts_at d body (part7 (parts_of y)))
  member_at d (constructor m ms w xs args body) y = constructor (mark_of d y) (modifiers_at d ms (part0 (parts_of y))) (word_at d w (part1 (parts_of y))) (params_at d xs (part3 (parts_of y))) (parent_call_at d args (part6 (parts_of y))) (stmts_at d body (part7 (parts_of y)))
  member_at d (inner m c) y = inner (mark_of d y) (class_at d c (part0 (parts_of y)))

  pub members_at : {A B : Type 0} → B → Members A → Layout B → Members B
  members_at d M.end y = M.end
  members_at d (M.more x xs) y = M.more (member_at d x (part0 (parts_of y))) (members_at d xs (part1 (parts_of y)))

abbrev more_words_at : {A B : Type 0} → B → List (Word A) → Layout B → List (Word B)
more_words_at d [] y = []
more_words_at d (w ∷ ws) y = (word_at d w (part1 (parts_of y))) ∷ (more_words_at d ws (part2 (parts_of y)))

abbrev package_at : {A B : Type 0} → B → List (Word A) → Layout B → List (Word B)
package_at d [] y = []
package_at d (w ∷ ws) y = (word_at d w (part1 (parts_of y))) ∷ (more_words_at d ws (part2 (parts_of y)))

abbrev classes_at : {A B : Type 0} → B → List (Class A) → Layout B → List (Class B)
classes_at d [] y = []
classes_at d (c ∷ cs) y = (class_at d c (part0 (parts_of y))) ∷ (classes_at d cs (part1 (parts_of y)))

-- with a mark of its own
abbrev pub unit_at : {A B : Type 0} → B → UnitTree A → Layouts B → UnitTree B
unit_at m u ys = record { mark = m; package_name = package_at m u.package_name (part0 ys); classes = classes_at m u.classes (part1 ys) }

-- ---- with its own marks it is itself

modifiers_again : {A : Type 0} (d : A) (x : List (Modifier A)) → modifiers_at d (map (map_modifier no_mark) x) (modifiers_layout x) ≡ x
modifiers_again d [] = refl
modifiers_again d (x ∷ xs) = λ i. x ∷ (modifiers_again d xs i)

param_again : {A : Type 0} (d : A) (x : Param A) → param_at d (map_param no_mark x) (param_layout x) ≡ x
param_again d x = λ i. record { mark = x.mark; is_final = x.is_final; type = type_again d x.type i; name = x.name }

more_params_again : {A : Type 0} (d : A) (x : List (Param A)) → more_params_at d (map (map_param no_mark) x) (more_params_layout x) ≡ x
more_params_again d [] = refl
more_params_again d (x ∷ xs) = λ i. (param_again d x i) ∷ (more_params_again d xs i)

params_again : {A : Type 0} (d : A) (x : List (Param A)) → params_at d (map (map_param no_mark) x) (params_layout x) ≡ x
params_again d [] = refl
params_again d (x ∷ xs) = λ i. (param_again d x i) ∷ (more_params_again d xs i)

init_again : {A : Type 0} (d : A) (x : Option (Exp A)) → init_at d (option_map (map_exp no_mark) x) (init_layout x) ≡ x
init_again d None = refl
init_again d (Some e) = λ i. Some (exp_again d e i)

result_again : {A : Type 0} (d : A) (x : Option (TypeName A)) → result_at d (option_map (map_type no_mark) x) (result_layout x) ≡ x
result_again d None = refl
result_again d (Some t) = λ i. Some (type_again d t i)

parent_call_again : {A : Type 0} (d : A) (x : Option (Exps A)) → parent_call_at d (option_map (map_exps no_mark) x) (parent_call_layout x) ≡ x
parent_call_again d None = refl
parent_call_again d (Some es) = λ i. Some (args_again d es i)

extends_again : {A : Type 0} (d : A) (x : Option (TypeName A)) → extends_at d (option_map (map_type no_mark) x) (extends_layout x) ≡ x
extends_again d None = refl
extends_again d (Some t) = λ i. Some (type_again d t i)

mutual
  unfolding map_class map_member map_members

  pub class_again : {A : Type 0} (d : A) (x : Class A) → class_at d (map_class no_mark x) (class_layout x) ≡ x
  class_again d (class m ms w parent all) = λ i. class m (modifiers_again d ms i) w (extends_again d parent i) (members_again d all i)

  pub member_again : {A : Type 0} (d : A) (x : Member A) → member_at d (map_member no_mark x) (member_layout x) ≡ x
  member_again d (field m ms t w init) = λ i. field m (modifiers_again d ms i) (type_again d t i) w (init_again d init i)
  member_again d (method m ms t w xs body) = λ i. method m (modifiers_again d ms i) (result_again d t i) w (params_again d xs i) (stmts_again d body i)
  member_again d (constructor m ms w xs args body) = λ i. constructor m (modifiers_again d ms i) w (params_again d xs i) (parent_call_again d args i) (stmts_again d body i)
  member_again d (inner m c) = λ i. inner m (class_again d c i)

  members_again : {A : Type 0} (d : A) (x : Members A) → members_at d (map_members no_mark x) (members_layout x) ≡ x
  members_again d M.end = refl
  members_again d (M.more x xs) = λ i. M.more (member_again d x i) (members_again d xs i)

more_words_again : {A : Type 0} (d : A) (x : List (Word A)) → more_words_at d (map (map_word no_mark) x) (more_words_layout x) ≡ x
more_words_again d [] = refl
more_words_again d (w ∷ ws) = λ i. w ∷ (more_words_again d ws i)

package_again : {A : Type 0} (d : A) (x : List (Word A)) → package_at d (map (map_word no_mark) x) (package_layout x) ≡ x
package_again d [] = refl
package_again d (w ∷ ws) = λ i. w ∷ (more_words_again d ws i)

classes_again : {A : Type 0} (d : A) (x : List (Class A)) → classes_at d (map (map_class no_mark) x) (classes_layout x) ≡ x
classes_again d [] = refl
classes_again d (c ∷ cs) = λ i. (class_again d c i) ∷ (classes_again d cs i)

pub unit_again : {A : Type 0} (u : UnitTree A) → unit_at u.mark (map_unit no_mark u) (unit_layouts u) ≡ u
unit_again u = λ i. record { mark = u.mark; package_name = package_again u.mark u.package_name i; classes = classes_again u.mark u.classes i }

-- ---- its parts are those

modifiers_stays : {A : Type 0} (d : Span) (x : List (Modifier A)) (ps : Tokens) → modifiers_layout (modifiers_at d x (lay (modifiers_layout x) ps)) ≡ lay (modifiers_layout x) ps
modifiers_stays d [] ps = refl
modifiers_stays d (x ∷ xs) ps = λ i. row (lay (modifier_layout x) (front (modifier_layout x) ps) then modifiers_stays d xs (front (modifiers_layout xs) (back (modifier_layout x) ps)) i then done)

param_stays : {A : Type 0} (d : Span) (x : Param A) (ps : Tokens) → param_layout (param_at d x (lay (param_layout x) ps)) ≡ lay (param_layout x) ps
param_stays {A} d x ps = λ i. node (span_of ps) (final_stays A x.is_final (front (final_layout {A = A} x.is_final) ps) i then type_stays d x.type (front (type_layout x.type) (back (final_layout {A = A} x.is_final) ps)) i then lay (word_layout x.name) (front (word_layout x.name) (back (type_layout x.type) (back (final_layout {A = A} x.is_final) ps))) then done)

more_params_stays : {A : Type 0} (d : Span) (x : List (Param A)) (ps : Tokens) → more_params_layout (more_params_at d x (lay (more_params_layout x) ps)) ≡ lay (more_params_layout x) ps
more_params_stays d [] ps = refl
more_params_stays d (x ∷ xs) ps = λ i. row (token (symbol Comma) then param_stays d x (front (param_layout x) (drop 1 ps)) i then more_params_stays d xs (front (more_params_layout xs) (back (param_layout x) (drop 1 ps))) i then done)

params_stays : {A : Type 0} (d : Span) (x : List (Param A)) (ps : Tokens) → params_layout (params_at d x (lay (params_layout x) ps)) ≡ lay (params_layout x) ps
params_stays d [] ps = refl
params_stays d (x ∷ xs) ps = λ i. row (param_stays d x (front (param_layout x) ps) i then more_params_stays d xs (front (more_params_layout xs) (back (param_layout x) ps)) i then done)

init_stays : {A : Type 0} (d : Span) (x : Option (Exp A)) (ps : Tokens) → init_layout (init_at d x (lay (init_layout x) ps)) ≡ lay (init_layout x) ps
init_stays d None ps = refl
init_stays d (Some e) ps = λ i. row (token (symbol Equals) then exp_stays d e (front (exp_layout e) (drop 1 ps)) i then done)

result_stays : {A : Type 0} (d : Span) (x : Option (TypeName A)) (ps : Tokens) → result_layout (result_at d x (lay (result_layout x) ps)) ≡ lay (result_layout x) ps
result_stays d None ps = refl
result_stays d (Some t) ps = λ i. row (type_stays d t (front (type_layout t) ps) i then done)

parent_call_stays : {A : Type 0} (d : Span) (x : Option (Exps A)) (ps : Tokens) → parent_call_layout (parent_call_at d x (lay (parent_call_layout x) ps)) ≡ lay (parent_call_layout x) ps
parent_call_stays d None ps = refl
parent_call_stays d (Some es) ps = λ i. row (token (keyword Super) then token (symbol OpenParen) then args_stays d es (front (args_layout es) (drop 1 (drop 1 ps))) i then token (symbol CloseParen) then token (symbol Semicolon) then done)

extends_stays : {A : Type 0} (d : Span) (x : Option (TypeName A)) (ps : Tokens) → extends_layout (extends_at d x (lay (extends_layout x) ps)) ≡ lay (extends_layout x) ps
extends_stays d None ps = refl
extends_stays d (Some t) ps = λ i. row (token (keyword Extends) then type_stays d t (front (type_layout t) (drop 1 ps)) i then done)

mutual
  pub class_stays : {A : Type 0} (d : Span) (x : Class A) (ps : Tokens) → class_layout (class_at d x (lay (class_layout x) ps)) ≡ lay (class_layout x) ps
  class_stays d (class m ms w parent all) ps = λ i. node (span_of ps) (modifiers_stays d ms (front (modifiers_layout ms) ps) i then token (keyword ClassWord) then lay (word_layout w) (front (word_layout w) (drop 1 (back (modifiers_layout ms) ps))) then extends_stays d parent (front (extends_layout parent) (back (word_layout w) (drop 1 (back (modifiers_layout ms) ps)))) i then token (symbol OpenBrace) then members_stays d all (front (members_layout all) (drop 1 (back (extends_layout parent) (back (word_layout w) (drop 1 (back (modifiers_layout ms) ps)))))) i then token (symbol CloseBrace) then done)

  pub member_stays : {A : Type 0} (d : Span) (x : Member A) (ps : Tokens) → member_layout (member_at d x (lay (member_layout x) ps)) ≡ lay (member_layout x) ps
  member_stays d (field m ms t w init) ps = λ i. node (span_of ps) (modifiers_stays d ms (front (modifiers_layout ms) ps) i then type_stays d t (front (type_layout t) (back (modifiers_layout ms) ps)) i then lay (word_layout w) (front (word_layout w) (back (type_layout t) (back (modifiers_layout ms) ps))) then init_stays d init (front (init_layout init) (back (word_layout w) (back (type_layout t) (back (modifiers_layout ms) ps)))) i then token (symbol Semicolon) then done)
  member_stays d (method m ms t w xs body) ps = λ i. node (span_of ps) (modifiers_stays d ms (front (modifiers_layout ms) ps) i then result_stays d t (front (result_layout t) (back (modifiers_layout ms) ps)) i then lay (word_layout w) (front (word_layout w) (back (result_layout t) (back (modifiers_layout ms) ps))) then token (symbol OpenParen) then params_stays d xs (front (params_layout xs) (drop 1 (back (word_layout w) (back (result_layout t) (back (modifiers_layout ms) ps))))) i then token (symbol CloseParen) then token (symbol OpenBrace) then stmts_stays d body (front (stmts_layout body) (drop 1 (drop 1 (back (params_layout xs) (drop 1 (back (word_layout w) (back (result_layout t) (back (modifiers_layout ms) ps)))))))) i then token (symbol CloseBrace) then done)
  member_stays d (constructor m ms w xs args body) ps = λ i. node (span_of ps) (modifiers_stays d ms (front (modifiers_layout ms) ps) i then lay (word_layout w) (front (word_layout w) (back (modifiers_layout ms) ps)) then token (symbol OpenParen) then params_stays d xs (front (params_layout xs) (drop 1 (back (word_layout w) (back (modifiers_layout ms) ps)))) i then token (symbol CloseParen) then token (symbol OpenBrace) then parent_call_stays d args (front (parent_call_layout args) (drop 1 (drop 1 (back (params_layout xs) (drop 1 (back (word_layout w) (back (modifiers_layout ms) ps))))))) i then stmts_stays d body (front (stmts_layout body) (back (parent_call_layout args) (drop 1 (drop 1 (back (params_layout xs) (drop 1 (back (word_layout w) (back (modifiers_layout ms) ps)))))))) i then token (symbol CloseBrace) then done)
  member_stays d (inner m c) ps = λ i. node (span_of ps) (class_stays d c (front (class_layout c) ps) i then done)

  members_stays : {A : Type 0} (d : Span) (x : Members A) (ps : Tokens) → members_layout (members_at d x (lay (members_layout x) ps)) ≡ lay (members_layout x) ps
  members_stays d M.end ps = refl
  members_stays d (M.more x xs) ps = λ i. row (member_stays d x (front (member_layout x) ps) i then members_stays d xs (front (members_layout xs) (back (member_layout x) ps)) i then done)

more_words_stays : {A : Type 0} (d : Span) (x : List (Word A)) (ps : Tokens) → more_words_layout (more_words_at d x (lay (more_words_layout x) ps)) ≡ lay (more_words_layout x) ps
more_words_stays d [] ps = refl
more_words_stays d (w ∷ ws) ps = λ i. row (token (symbol Dot) then lay (word_layout w) (front (word_layout w) (drop 1 ps)) then more_words_stays d ws (front (more_words_layout ws) (back (word_layout w) (drop 1 ps))) i then done)

package_stays : {A : Type 0} (d : Span) (x : List (Word A)) (ps : Tokens) → package_layout (package_at d x (lay (package_layout x) ps)) ≡ lay (package_layout x) ps
package_stays d [] ps = refl
package_stays d (w ∷ ws) ps = λ i. row (token (keyword Package) then lay (word_layout w) (front (word_layout w) (drop 1 ps)) then more_words_stays d ws (front (more_words_layout ws) (back (word_layout w) (drop 1 ps))) i then token (symbol Semicolon) then done)

classes_stays : {A : Type 0} (d : Span) (x : List (Class A)) (ps : Tokens) → classes_layout (classes_at d x (lay (classes_layout x) ps)) ≡ lay (classes_layout x) ps
classes_stays d [] ps = refl
classes_stays d (c ∷ cs) ps = λ i. row (class_stays d c (front (class_layout c) ps) i then classes_stays d cs (front (classes_layout cs) (back (class_layout c) ps)) i then done)

pub unit_stays : {A : Type 0} (m : Span) (u : UnitTree A) (ps : Tokens) → unit_layouts (unit_at m u (lay_all (unit_layouts u) ps)) ≡ lay_all (unit_layouts u) ps
unit_stays m u ps = λ i. package_stays m u.package_name (front (package_layout u.package_name) ps) i then classes_stays m u.classes (front (classes_layout u.classes) (back (package_layout u.package_name) ps)) i then done

-- ---- without marks it is as before

modifiers_bare : {B : Type 0} (d : B) (x : List (Modifier Bare)) (y : Layout B) → map (map_modifier no_mark) (modifiers_at d x y) ≡ x
modifiers_bare d [] y = refl
modifiers_bare d (x ∷ xs) y = λ i. x ∷ (modifiers_bare d xs (part1 (parts_of y)) i)

param_bare : {B : Type 0} (d : B) (x : Param Bare) (y : Layout B) → map_param no_mark (param_at d x y) ≡ x
param_bare d x y = λ i. record { mark = tt; is_final = x.is_final; type = type_bare d x.type (part1 (parts_of y)) i; name = x.name }

more_params_bare : {B : Type 0} (d : B) (x : List (Param Bare)) (y : Layout B) → map (map_param no_mark) (more_params_at d x y) ≡ x
more_params_bare d [] y = refl
more_params_bare d (x ∷ xs) y = λ i. (param_bare d x (part1 (parts_of y)) i) ∷ (more_params_bare d xs (part2 (parts_of y)) i)

params_bare : {B : Type 0} (d : B) (x : List (Param Bare)) (y : Layout B) → map (map_param no_mark) (params_at d x y) ≡ x
params_bare d [] y = refl
params_bare d (x ∷ xs) y = λ i. (param_bare d x (part0 (parts_of y)) i) ∷ (more_params_bare d xs (part1 (parts_of y)) i)

init_bare : {B : Type 0} (d : B) (x : Option (Exp Bare)) (y : Layout B) → option_map (map_exp no_mark) (init_at d x y) ≡ x
init_bare d None y = refl
init_bare d (Some e) y = λ i. Some (exp_bare d e (part1 (parts_of y)) i)

result_bare : {B : Type 0} (d : B) (x : Option (TypeName Bare)) (y : Layout B) → option_map (map_type no_mark) (result_at d x y) ≡ x
result_bare d None y = refl
result_bare d (Some t) y = λ i. Some (type_bare d t (part0 (parts_of y)) i)

parent_call_bare : {B : Type 0} (d : B) (x : Option (Exps Bare)) (y : Layout B) → option_map (map_exps no_mark) (parent_call_at d x y) ≡ x
parent_call_bare d None y = refl
parent_call_bare d (Some es) y = λ i. Some (args_bare d es (part2 (parts_of y)) i)

extends_bare : {B : Type 0} (d : B) (x : Option (TypeName Bare)) (y : Layout B) → option_map (map_type no_mark) (extends_at d x y) ≡ x
extends_bare d None y = refl
extends_bare d (Some t) y = λ i. Some (type_bare d t (part1 (parts_of y)) i)

mutual
  unfolding map_class map_member map_members

  pub class_bare : {B : Type 0} (d : B) (x : Class Bare) (y : Layout B) → map_class no_mark (class_at d x y) ≡ x
  class_bare d (class m ms w parent all) y = λ i. class m (modifiers_bare d ms (part0 (parts_of y)) i) w (extends_bare d parent (part3 (parts_of y)) i) (members_bare d all (part5 (parts_of y)) i)

  pub member_bare : {B : Type 0} (d : B) (x : Member Bare) (y : Layout B) → map_member no_mark (member_at d x y) ≡ x
  member_bare d (field m ms t w init) y = λ i. field m (modifiers_bare d ms (part0 (parts_of y)) i) (type_bare d t (part1 (parts_of y)) i) w (init_bare d init (part3 (parts_of y)) i)
  member_bare d (method m ms t w xs body) y = λ i. method m (modifiers_bare d ms (part0 (parts_of y)) i) (result_bare d t (part1 (parts_of y)) i) w (params_bare d xs (part4 (parts_of y)) i) (stmts_bare d body (part7 (parts_of y)) i)
  member_bare d (constructor m ms w xs args body) y = λ i. constructor m (modifiers_bare d ms (part0 (parts_of y)) i) w (params_bare d xs (part3 (parts_of y)) i) (parent_call_bare d args (part6 (parts_of y)) i) (stmts_bare d body (part7 (parts_of y)) i)
  member_bare d (inner m c) y = λ i. inner m (class_bare d c (part0 (parts_of y)) i)

  members_bare : {B : Type 0} (d : B) (x : Members Bare) (y : Layout B) → map_members no_mark (members_at d x y) ≡ x
  members_bare d M.end y = refl
  members_bare d (M.more x xs) y = λ i. M.more (member_bare d x (part0 (parts_of y)) i) (members_bare d xs (part1 (parts_of y)) i)

more_words_bare : {B : Type 0} (d : B) (x : List (Word Bare)) (y : Layout B) → map (map_word no_mark) (more_words_at d x y) ≡ x
more_words_bare d [] y = refl
more_words_bare d (w ∷ ws) y = λ i. w ∷ (more_words_bare d ws (part2 (parts_of y)) i)

package_bare : {B : Type 0} (d : B) (x : List (Word Bare)) (y : Layout B) → map (map_word no_mark) (package_at d x y) ≡ x
package_bare d [] y = refl
package_bare d (w ∷ ws) y = λ i. w ∷ (more_words_bare d ws (part2 (parts_of y)) i)

classes_bare : {B : Type 0} (d : B) (x : List (Class Bare)) (y : Layout B) → map (map_class no_mark) (classes_at d x y) ≡ x
classes_bare d [] y = refl
classes_bare d (c ∷ cs) y = λ i. (class_bare d c (part0 (parts_of y)) i) ∷ (classes_bare d cs (part1 (parts_of y)) i)

pub unit_bare : {B : Type 0} (m : B) (u : UnitTree Bare) (ys : Layouts B) → map_unit no_mark (unit_at m u ys) ≡ u
unit_bare m u ys = λ i. record { mark = tt; package_name = package_bare m u.package_name (part0 ys) i; classes = classes_bare m u.classes (part1 ys) i }
