-- The shape of statements, members, classes and units doesn't depend on marks.
use Rattle.std.proofs.Common.{◌≡◌, ℕ, Bool, true, false, List, [], ◌∷◌, Option, Some, None, map, option_map, refl, sym, ap, ◌∙◌}
use Rattle.jr_ast.specs.Tree.{TypeName, Exp, Exps}
use Rattle.jr_ast.specs.StatementTree.{Stmt, local, eval, branch, loop, return, block, sync, empty, Else as Otherwise, no_else, otherwise, Stmts, end, more}
use Rattle.jr_ast.specs.MemberTree as M
use Rattle.jr_ast.specs.MemberTree.{Class, class, Member, field, method, constructor, inner, Members, Unit as UnitTree}
use Rattle.jr_grammar.proofs.Remarked.{holds_alike, IsNamed-map, IsStatementForm-map, ShapedBehind-map, AllShaped-map}
use Rattle.jr_grammar.specs.StatementShape.{IsNoDeclaration, TakesNoElse, EndsTaken, ShapedValue, StmtShaped, ElseShaped, StmtsShaped}
use Rattle.jr_grammar.specs.MemberShape.{IsParent, IsNamedAs, ShapedArgs, HoldsClasses, ClassShaped, MemberShaped, MembersShaped, ClassesShaped, UnitShaped}
use Rattle.jr_ast.specs.Remarked.{map_type, map_exp, map_exps, map_stmt, map_else, map_stmts, map_member, map_class, map_members, map_unit}
use Rattle.jr_grammar.specs.IgnoresMarks.{StatementIgnoresMarks, MemberIgnoresMarks, UnitIgnoresMarks}
use Rattle.jr_grammar.specs.Layout.{laid, all_laid}
use Rattle.jr_grammar.specs.StatementSpelling.{stmt_toks, stmts_toks}
use Rattle.jr_grammar.specs.MemberSpelling.{member_toks, unit_toks}
use Rattle.jr_grammar.specs.StatementLayout.{stmt_layout, stmts_layout}
use Rattle.jr_grammar.specs.MemberLayout.{member_layout, unit_layouts}
use Rattle.jr_grammar.proofs.Layouts.{laid-map, all_laid-map}
use Rattle.jr_grammar.proofs.StatementLayouts.{stmt_laid, stmts_laid, stmt_layout-map, stmts_layout-map}
use Rattle.jr_grammar.proofs.MemberLayouts.{member_laid, unit_laid, member_layout-map, unit_layouts-map}

-- ---- statements

ShapedValue-map : {A B : Type 0} (h : A → B) (o : Option (Exp A)) → ShapedValue (option_map (map_exp h) o) ≡ ShapedValue o
unfolding map_stmt map_else map_stmts map_class map_member map_members
ShapedValue-map h None = refl
ShapedValue-map h (Some e) = ShapedBehind-map h false e

IsNoDeclaration-map : {A B : Type 0} (h : A → B) (s : Stmt A) → IsNoDeclaration (map_stmt h s) ≡ IsNoDeclaration s
unfolding map_stmt map_else map_stmts map_class map_member map_members
IsNoDeclaration-map h (local m f t w e) = refl
IsNoDeclaration-map h _ = refl

mutual
  unfolding map_stmt map_else map_stmts map_class map_member map_members

  TakesNoElse-map : {A B : Type 0} (h : A → B) (s : Stmt A) → TakesNoElse (map_stmt h s) ≡ TakesNoElse s
  TakesNoElse-map h (branch m c first other) = EndsTaken-map h other
  TakesNoElse-map h (loop m c body) = TakesNoElse-map h body
  TakesNoElse-map h _ = refl

  EndsTaken-map : {A B : Type 0} (h : A → B) (o : Otherwise A) → EndsTaken (map_else h o) ≡ EndsTaken o
  EndsTaken-map h no_else = refl
  EndsTaken-map h (otherwise s) = TakesNoElse-map h s

mutual
  unfolding map_stmt map_else map_stmts map_class map_member map_members

  pub StmtShaped-map : {A B : Type 0} (h : A → B) (s : Stmt A) → StmtShaped (map_stmt h s) ≡ StmtShaped s
  StmtShaped-map h (local m f t w e) = ShapedBehind-map h false e
  StmtShaped-map h (eval m e) = λ i. IsStatementForm-map h e i × ShapedBehind-map h false e i
  StmtShaped-map h (branch m c first other) = λ i. ShapedBehind-map h false c i × IsNoDeclaration-map h first i × StmtShaped-map h first i × ElseShaped-map h first other i
  StmtShaped-map h (loop m c body) = λ i. ShapedBehind-map h false c i × IsNoDeclaration-map h body i × StmtShaped-map h body i
  StmtShaped-map h (return m value) = ShapedValue-map h value
  StmtShaped-map h (block m body) = StmtsShaped-map h body
  StmtShaped-map h (sync m e body) = λ i. ShapedBehind-map h false e i × StmtsShaped-map h body i
  StmtShaped-map h (empty m) = refl

  ElseShaped-map : {A B : Type 0} (h : A → B) (first : Stmt A) (o : Otherwise A) → ElseShaped (map_stmt h first) (map_else h o) ≡ ElseShaped first o
  ElseShaped-map h first no_else = refl
  ElseShaped-map h first (otherwise s) = λ i. TakesNoElse-map h first i × IsNoDeclaration-map h s i × StmtShaped-map h s i

  pub StmtsShaped-map : {A B : Type 0} (h : A → B) (ss : Stmts A) → StmtsShaped (map_stmts h ss) ≡ StmtsShaped ss
  StmtsShaped-map h end = refl
  StmtsShaped-map h (more s ss) = λ i. StmtShaped-map h s i × StmtsShaped-map h ss i

-- ---- members, classes and units

IsParent-map : {A B : Type 0} (h : A → B) (o : Option (TypeName A)) → IsParent (option_map (map_type h) o) ≡ IsParent o
unfolding map_stmt map_else map_stmts map_class map_member map_members
IsParent-map h None = refl
IsParent-map h (Some t) = IsNamed-map h t

ShapedArgs-map : {A B : Type 0} (h : A → B) (o : Option (Exps A)) → ShapedArgs (option_map (map_exps h) o) ≡ ShapedArgs o
unfolding map_stmt map_else map_stmts map_class map_member map_members
ShapedArgs-map h None = refl
ShapedArgs-map h (Some es) = AllShaped-map h es

mutual
  unfolding map_stmt map_else map_stmts map_class map_member map_members

  pub ClassShaped-map : {A B : Type 0} (h : A → B) (nested : Bool) (c : Class A) → ClassShaped nested (map_class h c) ≡ ClassShaped nested c
  ClassShaped-map h nested (class m ms w parent all) = λ i. IsParent-map h parent i × MembersShaped-map h nested w.text all i

  pub MemberShaped-map : {A B : Type 0} (h : A → B) (nested : Bool) (name : List ℕ) (d : Member A) → MemberShaped nested name (map_member h d) ≡ MemberShaped nested name d
  MemberShaped-map h nested name (field m ms t w init) = ShapedValue-map h init
  MemberShaped-map h nested name (method m ms t w ps body) = StmtsShaped-map h body
  MemberShaped-map h nested name (constructor m ms w ps args body) = λ i. IsNamedAs name w × ShapedArgs-map h args i × StmtsShaped-map h body i
  MemberShaped-map h nested name (inner m c) = λ i. HoldsClasses nested × ClassShaped-map h true c i

  pub MembersShaped-map : {A B : Type 0} (h : A → B) (nested : Bool) (name : List ℕ) (ds : Members A) → MembersShaped nested name (map_members h ds) ≡ MembersShaped nested name ds
  MembersShaped-map h nested name M.end = refl
  MembersShaped-map h nested name (M.more d ds) = λ i. MemberShaped-map h nested name d i × MembersShaped-map h nested name ds i

ClassesShaped-map : {A B : Type 0} (h : A → B) (cs : List (Class A)) → ClassesShaped (map (map_class h) cs) ≡ ClassesShaped cs
ClassesShaped-map h [] = refl
ClassesShaped-map h (c ∷ cs) = λ i. ClassShaped-map h false c i × ClassesShaped-map h cs i

pub UnitShaped-map : {A B : Type 0} (h : A → B) (u : UnitTree A) → UnitShaped (map_unit h u) ≡ UnitShaped u
unfolding map_stmt map_else map_stmts map_class map_member map_members
UnitShaped-map h u = ClassesShaped-map h u.classes

-- ---- spelling

stmt_toks-map : {A B : Type 0} (h : A → B) (s : Stmt A) → stmt_toks (map_stmt h s) ≡ stmt_toks s
stmt_toks-map h s = sym (stmt_laid (map_stmt h s)) ∙ ap laid (sym (stmt_layout-map h s)) ∙ laid-map h (stmt_layout s) ∙ stmt_laid s

stmts_toks-map : {A B : Type 0} (h : A → B) (ss : Stmts A) → stmts_toks (map_stmts h ss) ≡ stmts_toks ss
stmts_toks-map h ss = sym (stmts_laid (map_stmts h ss)) ∙ ap laid (sym (stmts_layout-map h ss)) ∙ laid-map h (stmts_layout ss) ∙ stmts_laid ss

member_toks-map : {A B : Type 0} (h : A → B) (d : Member A) → member_toks (map_member h d) ≡ member_toks d
member_toks-map h d = sym (member_laid (map_member h d)) ∙ ap laid (sym (member_layout-map h d)) ∙ laid-map h (member_layout d) ∙ member_laid d

unit_toks-map : {A B : Type 0} (h : A → B) (u : UnitTree A) → unit_toks (map_unit h u) ≡ unit_toks u
unit_toks-map h u = sym (unit_laid (map_unit h u)) ∙ ap all_laid (sym (unit_layouts-map h u)) ∙ all_laid-map h (unit_layouts u) ∙ unit_laid u

-- ---- the laws

pub statement_ignores_marks : {A B : Type 0} → StatementIgnoresMarks A B
statement_ignores_marks = record {
  spelling = stmt_toks-map;
  shape = λ h s. holds_alike _ _ (StmtShaped-map h s);
  list_spelling = stmts_toks-map;
  list_shape = λ h ss. holds_alike _ _ (StmtsShaped-map h ss);
}

pub member_ignores_marks : {A B : Type 0} → MemberIgnoresMarks A B
member_ignores_marks = record { spelling = member_toks-map; shape = λ h nested name d. holds_alike _ _ (MemberShaped-map h nested name d) }

pub unit_ignores_marks : {A B : Type 0} → UnitIgnoresMarks A B
unit_ignores_marks = record { spelling = unit_toks-map; shape = λ h u. holds_alike _ _ (UnitShaped-map h u) }
