-- A tree with other marks is printed alike.
use Rattle.std.proofs.Common.{◌≡◌, List, [], ◌∷◌, ◌++◌, Option, Some, None, map, option_map, refl}
use Rattle.std.specs.Prelude.{codes}
use Rattle.jr_lex.specs.Words.{keyword_text}
use Rattle.jr_ast.specs.Tree.{Word, TypeName, int, boolean, named, Exp, number, truth, null, string, name, field, super_field, this, class_literal, call, super_call, create, paren, cast, unary, bump, binary, assign, compound, Target, no_target, on, Exps, end, more}
use Rattle.jr_ast.specs.StatementTree as S
use Rattle.jr_ast.specs.MemberTree as M
use Rattle.jr_ast.specs.Remarked.{map_word, map_type, map_exp, map_target, map_exps, map_stmt, map_else, map_stmts, map_modifier, map_param, map_member, map_class, map_members}
use Rattle.jr_grammar.specs.MemberSpelling.{modifier_keyword}
use Rattle.jr_print.specs.ExpressionText.{printed_name, printed_type, printed_unary, before_text, behind_text, printed_binary, printed_compound, printed_dot, printed, printed_target, printed_args, printed_more}
use Rattle.jr_print.specs.StatementText.{printed_final, printed_return, printed_stmt, printed_else, printed_stmts}
use Rattle.jr_print.specs.MemberText.{printed_modifiers, printed_param, printed_more_params, printed_params, printed_init, printed_result, printed_super, printed_extends, printed_class, printed_member, printed_members}

-- ---- expressions

type-map : {A B : Type 0} (h : A → B) (t : TypeName A) → printed_type (map_type h t) ≡ printed_type t
type-map h (int m) = refl
type-map h (boolean m) = refl
type-map h (named m None w) = refl
type-map h (named m (Some o) w) = refl

dot-map : {A B : Type 0} (h : A → B) (e : Exp A) → printed_dot (map_exp h e) ≡ printed_dot e
unfolding map_exp map_exps map_target
dot-map h (number m n) = refl
dot-map h _ = refl

mutual
  unfolding map_exp map_exps map_target

  pub printed-map : {A B : Type 0} (h : A → B) (e : Exp A) → printed (map_exp h e) ≡ printed e
  printed-map h (number m n) = refl
  printed-map h (truth m b) = refl
  printed-map h (null m) = refl
  printed-map h (string m s) = refl
  printed-map h (name m w) = refl
  printed-map h (field m e w) = λ i. printed-map h e i ++ dot-map h e i ++ w.text
  printed-map h (super_field m w) = refl
  printed-map h (this m) = refl
  printed-map h (class_literal m t) = λ i. type-map h t i ++ codes ".class"
  printed-map h (call m t w es) = λ i. printed_target-map h t i ++ w.text ++ codes "(" ++ printed_args-map h es i ++ codes ")"
  printed-map h (super_call m w es) = λ i. codes "super." ++ w.text ++ codes "(" ++ printed_args-map h es i ++ codes ")"
  printed-map h (create m t es) = λ i. codes "new " ++ type-map h t i ++ codes "(" ++ printed_args-map h es i ++ codes ")"
  printed-map h (paren m e) = λ i. codes "(" ++ printed-map h e i ++ codes ")"
  printed-map h (cast m t e) = λ i. codes "(" ++ type-map h t i ++ codes ") " ++ printed-map h e i
  printed-map h (unary m o e) = λ i. printed_unary o (printed-map h e i)
  printed-map h (bump m o e) = λ i. before_text o ++ printed-map h e i ++ behind_text o
  printed-map h (binary m o l r) = λ i. printed-map h l i ++ printed_binary o ++ printed-map h r i
  printed-map h (assign m t e) = λ i. printed-map h t i ++ codes " = " ++ printed-map h e i
  printed-map h (compound m o t e) = λ i. printed-map h t i ++ printed_compound o ++ printed-map h e i

  printed_target-map : {A B : Type 0} (h : A → B) (t : Target A) → printed_target (map_target h t) ≡ printed_target t
  printed_target-map h no_target = refl
  printed_target-map h (on e) = λ i. printed-map h e i ++ dot-map h e i

  printed_args-map : {A B : Type 0} (h : A → B) (es : Exps A) → printed_args (map_exps h es) ≡ printed_args es
  printed_args-map h end = refl
  printed_args-map h (more e es) = λ i. printed-map h e i ++ printed_more-map h es i

  printed_more-map : {A B : Type 0} (h : A → B) (es : Exps A) → printed_more (map_exps h es) ≡ printed_more es
  printed_more-map h end = refl
  printed_more-map h (more e es) = λ i. codes ", " ++ printed-map h e i ++ printed_more-map h es i

-- ---- statements

return-map : {A B : Type 0} (h : A → B) (value : Option (Exp A)) → printed_return (option_map (map_exp h) value) ≡ printed_return value
return-map h None = refl
return-map h (Some e) = λ i. codes "return " ++ printed-map h e i ++ codes ";"

mutual
  unfolding map_stmt map_else map_stmts

  pub printed_stmt-map : {A B : Type 0} (h : A → B) (s : S.Stmt A) → printed_stmt (map_stmt h s) ≡ printed_stmt s
  printed_stmt-map h (S.local m f t w e) = λ i. printed_final f ++ type-map h t i ++ codes " " ++ w.text ++ codes " = " ++ printed-map h e i ++ codes ";"
  printed_stmt-map h (S.eval m e) = λ i. printed-map h e i ++ codes ";"
  printed_stmt-map h (S.branch m c first other) = λ i. codes "if (" ++ printed-map h c i ++ codes ") " ++ printed_stmt-map h first i ++ printed_else-map h other i
  printed_stmt-map h (S.loop m c body) = λ i. codes "while (" ++ printed-map h c i ++ codes ") " ++ printed_stmt-map h body i
  printed_stmt-map h (S.return m value) = return-map h value
  printed_stmt-map h (S.block m body) = λ i. codes "{" ++ printed_stmts-map h body i ++ codes " }"
  printed_stmt-map h (S.sync m e body) = λ i. codes "synchronized (" ++ printed-map h e i ++ codes ") {" ++ printed_stmts-map h body i ++ codes " }"
  printed_stmt-map h (S.empty m) = refl

  printed_else-map : {A B : Type 0} (h : A → B) (o : S.Else A) → printed_else (map_else h o) ≡ printed_else o
  printed_else-map h S.no_else = refl
  printed_else-map h (S.otherwise s) = λ i. codes " else " ++ printed_stmt-map h s i

  printed_stmts-map : {A B : Type 0} (h : A → B) (ss : S.Stmts A) → printed_stmts (map_stmts h ss) ≡ printed_stmts ss
  printed_stmts-map h S.end = refl
  printed_stmts-map h (S.more s ss) = λ i. codes " " ++ printed_stmt-map h s i ++ printed_stmts-map h ss i

-- ---- members

modifiers-map : {A B : Type 0} (h : A → B) (ms : List (M.Modifier A)) → printed_modifiers (map (map_modifier h) ms) ≡ printed_modifiers ms
modifiers-map h [] = refl
modifiers-map h (m ∷ ms) = λ i. keyword_text (modifier_keyword m.word) ++ codes " " ++ modifiers-map h ms i

param-map : {A B : Type 0} (h : A → B) (p : M.Param A) → printed_param (map_param h p) ≡ printed_param p
param-map h p = λ i. printed_final p.is_final ++ type-map h p.type i ++ codes " " ++ p.name.text

more_params-map : {A B : Type 0} (h : A → B) (ps : List (M.Param A)) → printed_more_params (map (map_param h) ps) ≡ printed_more_params ps
more_params-map h [] = refl
more_params-map h (p ∷ ps) = λ i. codes ", " ++ param-map h p i ++ more_params-map h ps i

params-map : {A B : Type 0} (h : A → B) (ps : List (M.Param A)) → printed_params (map (map_param h) ps) ≡ printed_params ps
params-map h [] = refl
params-map h (p ∷ ps) = λ i. param-map h p i ++ more_params-map h ps i

init-map : {A B : Type 0} (h : A → B) (init : Option (Exp A)) → printed_init (option_map (map_exp h) init) ≡ printed_init init
init-map h None = refl
init-map h (Some e) = λ i. codes " = " ++ printed-map h e i

result-map : {A B : Type 0} (h : A → B) (t : Option (TypeName A)) → printed_result (option_map (map_type h) t) ≡ printed_result t
result-map h None = refl
result-map h (Some t) = type-map h t

super-map : {A B : Type 0} (h : A → B) (args : Option (Exps A)) → printed_super (option_map (map_exps h) args) ≡ printed_super args
super-map h None = refl
super-map h (Some es) = λ i. codes " super(" ++ printed_args-map h es i ++ codes ");"

extends-map : {A B : Type 0} (h : A → B) (parent : Option (TypeName A)) → printed_extends (option_map (map_type h) parent) ≡ printed_extends parent
extends-map h None = refl
extends-map h (Some t) = λ i. codes " extends " ++ type-map h t i

mutual
  unfolding map_class map_member map_members

  printed_class-map : {A B : Type 0} (h : A → B) (c : M.Class A) → printed_class (map_class h c) ≡ printed_class c
  printed_class-map h (M.class m ms w parent all) = λ i. modifiers-map h ms i ++ codes "class " ++ w.text ++ extends-map h parent i ++ codes " {" ++ printed_members-map h all i ++ codes " }"

  pub printed_member-map : {A B : Type 0} (h : A → B) (d : M.Member A) → printed_member (map_member h d) ≡ printed_member d
  printed_member-map h (M.field m ms t w init) = λ i. modifiers-map h ms i ++ type-map h t i ++ codes " " ++ w.text ++ init-map h init i ++ codes ";"
  printed_member-map h (M.method m ms t w ps body) =
      λ i. modifiers-map h ms i ++ result-map h t i ++ codes " " ++ w.text ++ codes "(" ++ params-map h ps i ++ codes ") {" ++ printed_stmts-map h body i ++ codes " }"
  printed_member-map h (M.constructor m ms w ps args body) =
      λ i. modifiers-map h ms i ++ w.text ++ codes "(" ++ params-map h ps i ++ codes ") {" ++ super-map h args i ++ printed_stmts-map h body i ++ codes " }"
  printed_member-map h (M.inner m c) = printed_class-map h c

  printed_members-map : {A B : Type 0} (h : A → B) (ds : M.Members A) → printed_members (map_members h ds) ≡ printed_members ds
  printed_members-map h M.end = refl
  printed_members-map h (M.more d ds) = λ i. codes " " ++ printed_member-map h d i ++ printed_members-map h ds i
