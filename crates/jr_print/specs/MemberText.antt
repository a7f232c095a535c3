-- The text that members and classes are printed as.
use Rattle.std.specs.Prelude.{ℕ, codes, List, [], ◌∷◌, ◌++◌, Option, Some, None}
use Rattle.jr_lex.specs.Words.{keyword_text}
use Rattle.jr_ast.specs.Tree.{TypeName, Exp, Exps}
use Rattle.jr_ast.specs.MemberTree.{Modifier, Param, Class, class, Member, field, method}
use Rattle.jr_ast.specs.MemberTree.{constructor, inner, Members, end, more}
use Rattle.jr_grammar.specs.MemberSpelling.{modifier_keyword}
use Rattle.jr_print.specs.ExpressionText.{printed_type, printed, printed_args}
use Rattle.jr_print.specs.StatementText.{printed_variable, printed_stmts}

-- each modifier with one space behind it
abbrev pub printed_modifiers : {A : Type 0} → List (Modifier A) → List ℕ
printed_modifiers [] = []
printed_modifiers (m ∷ ms) = keyword_text (modifier_keyword m.word) ++ codes " "
    ++ printed_modifiers ms

abbrev pub printed_param : {A : Type 0} → Param A → List ℕ
printed_param p = printed_variable p.is_final p.type p.name

-- parameters behind others
abbrev pub printed_more_params : {A : Type 0} → List (Param A) → List ℕ
printed_more_params [] = []
printed_more_params (p ∷ ps) = codes ", " ++ printed_param p ++ printed_more_params ps

-- with a comma and one space between two
abbrev pub printed_params : {A : Type 0} → List (Param A) → List ℕ
printed_params [] = []
printed_params (p ∷ ps) = printed_param p ++ printed_more_params ps

-- a field's initializer
abbrev pub printed_init : {A : Type 0} → Option (Exp A) → List ℕ
printed_init None = []
printed_init (Some e) = codes " = " ++ printed e

-- a type, or `void`
abbrev pub printed_result : {A : Type 0} → Option (TypeName A) → List ℕ
printed_result None = codes "void"
printed_result (Some t) = printed_type t

-- the written call of a constructor of the superclass, as the first statement of a body
abbrev pub printed_super : {A : Type 0} → Option (Exps A) → List ℕ
printed_super None = []
printed_super (Some es) = codes " super(" ++ printed_args es ++ codes ");"

abbrev pub printed_extends : {A : Type 0} → Option (TypeName A) → List ℕ
printed_extends None = []
printed_extends (Some t) = codes " extends " ++ printed_type t

abbrev mutual
  pub printed_class : {A : Type 0} → Class A → List ℕ
  printed_class (class m ms w parent all) =
      printed_modifiers ms ++ codes "class " ++ w.text ++ printed_extends parent ++ codes " {"
      ++ printed_members all ++ codes " }"

  pub printed_member : {A : Type 0} → Member A → List ℕ
  printed_member (field m ms t w init) =
      printed_modifiers ms ++ printed_type t ++ codes " " ++ w.text
      ++ printed_init init ++ codes ";"
  printed_member (method m ms t w ps body) =
      printed_modifiers ms ++ printed_result t ++ codes " " ++ w.text ++ codes "("
      ++ printed_params ps ++ codes ") {" ++ printed_stmts body ++ codes " }"
  printed_member (constructor m ms w ps args body) =
      printed_modifiers ms ++ w.text ++ codes "(" ++ printed_params ps ++ codes ") {"
      ++ printed_super args ++ printed_stmts body ++ codes " }"
  printed_member (inner m c) = printed_class c

  -- what stands in a class's body, which has one space before each member and one before its `}`
  pub printed_members : {A : Type 0} → Members A → List ℕ
  printed_members end = []
  printed_members (more d ds) = codes " " ++ printed_member d ++ printed_members ds
