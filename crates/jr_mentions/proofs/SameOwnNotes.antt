-- The notes on an expression itself that avoids the names.
use Rattle.std.proofs.Common.{◌≡◌, ℕ, List, ◌++◌, refl, ap, None}
use Rattle.std.specs.Prelude.{◌&&◌, is_some, if◌then◌else◌}
use Rattle.jr_ast.specs.Tree as tree
use Rattle.jr_ast.specs.Marks.{exp_mark}
use Rattle.jr_table.specs.Keys.{int}
use Rattle.jr_table.specs.Decls.{Decl}
use Rattle.jr_table.specs.Rows.{Row}
use Rattle.jr_table.specs.Lookup.{find_variable}
use Rattle.jr_table.specs.Context.{Context, scope_of}
use Rattle.jr_table.specs.Binding.{Role}
use Rattle.jr_table.specs.Meanings.{written_type, type_of, types_of, class_name_of, class_on, field_found, call_found, target_found, own_superclass, at_word}
use Rattle.jr_table.specs.Notes.{breaks, reference_notes, unless, when, is_ty, are_ty, takes_one, is_final_decl, is_fixed, is_forward, called_notes, is_constant, is_this, is_fixed_behind, object_notes, member_notes, operand_notes, final_notes, target_notes, forward_notes, call_notes, own_notes}
use Rattle.jr_table.specs.declared.rules.Rule.TheVariants as rule
use Rattle.jr_mentions.specs.Apart.{IsOther, IsClean, IsCleanMember}
use Rattle.jr_mentions.specs.Alike.{Finds, LookAlike}
use Rattle.jr_mentions.specs.Avoids.{AvoidsExp, AvoidsTarget, AvoidsRow}
use Rattle.jr_mentions.proofs.SameMeanings.{superclasses, writtens, fields, calls, types, class_names, row_types, on_classes, targets, refs}
use Rattle.jr_mentions.proofs.SameTests.{found_tests, moved, suits_at, comparable_at, takes_at, final_decls, fixed_decls, constants_found, forward_decls, through_at}

module _ (names : List (List ℕ)) (rows after : List Row) (alike : LookAlike names rows after) where
  -- members of the class of an expression, and of the superclass

  fields_on : {A : Type 0} (c : Context) (e : tree.Exp A) (name : List ℕ) → AvoidsExp names e → IsOther names name → Finds names (field_found rows c (class_on rows c e) name) (field_found after c (class_on after c e) name)
  fields_on c e name h other = moved names (field_found rows c (class_on rows c e) name) (field_found after c (class_on rows c e) name) (field_found after c (class_on after c e) name)
      (fields names rows after alike c (class_on rows c e) name other) (ap (λ o. field_found after c o name) (on_classes names rows after alike c e h))

  fields_above : (c : Context) (name : List ℕ) → IsOther names name → Finds names (field_found rows c (own_superclass rows c) name) (field_found after c (own_superclass after c) name)
  fields_above c name other = moved names (field_found rows c (own_superclass rows c) name) (field_found after c (own_superclass rows c) name) (field_found after c (own_superclass after c) name)
      (fields names rows after alike c (own_superclass rows c) name other) (ap (λ o. field_found after c o name) (superclasses names rows after alike (scope_of c).class))

  calls_above : {A : Type 0} (c : Context) (name : List ℕ) (args : tree.Exps A) → IsOther names name → AvoidsRow names args
      → Finds names (call_found rows c (own_superclass rows c) name (types_of rows c args)) (call_found after c (own_superclass after c) name (types_of after c args))
  calls_above c name args other h = moved names (call_found rows c (own_superclass rows c) name (types_of rows c args)) (call_found after c (own_superclass rows c) name (types_of rows c args))
      (call_found after c (own_superclass after c) name (types_of after c args)) (calls names rows after alike c (own_superclass rows c) name (types_of rows c args) other)
      (λ i. call_found after c (superclasses names rows after alike (scope_of c).class i) name (row_types names rows after alike c args h i))

  targets_on : {A : Type 0} (c : Context) (to : tree.Target A) (name : List ℕ) (args : tree.Exps A) → AvoidsTarget names to → IsOther names name → AvoidsRow names args
      → Finds names (target_found rows c to name (types_of rows c args)) (target_found after c to name (types_of after c args))
  targets_on c to name args avoids other h = moved names (target_found rows c to name (types_of rows c args)) (target_found after c to name (types_of rows c args))
      (target_found after c to name (types_of after c args)) (targets names rows after alike c to name (types_of rows c args) avoids other)
      (ap (λ ts. target_found after c to name ts) (row_types names rows after alike c args h))

  pub constants : {A : Type 0} (c : Context) (e : tree.Exp A) → AvoidsExp names e → is_constant rows c e ≡ is_constant after c e
  unfolding is_constant AvoidsExp
  constants c (tree.number m n) h = refl
  constants c (tree.truth m b) h = refl
  constants c (tree.null m) h = refl
  constants c (tree.string m s) h = refl
  constants c (tree.name m w) h = constants_found names rows after alike c (find_variable rows (scope_of c) w.text) (find_variable after (scope_of c) w.text) (alike.variable (scope_of c) w.text h)
  constants c (tree.field m e w) h = λ i. is_some (class_names names rows after alike c e h.0 i)
      && constants_found names rows after alike c (field_found rows c (class_on rows c e) w.text) (field_found after c (class_on after c e) w.text) (fields_on c e w.text h.0 h.1) i
  constants c (tree.super_field m w) h = refl
  constants c (tree.this m) h = refl
  constants c (tree.class_literal m t) h = refl
  constants c (tree.call m to w args) h = refl
  constants c (tree.super_call m w args) h = refl
  constants c (tree.create m t args) h = refl
  constants c (tree.paren m e) h = constants c e h
  constants c (tree.cast m t e) h = constants c e h
  constants c (tree.unary m o e) h = constants c e h
  constants c (tree.bump m o e) h = refl
  constants c (tree.binary m o l r) h = λ i. constants c l h.0 i && constants c r h.1 i
  constants c (tree.assign m l r) h = refl
  constants c (tree.compound m o l r) h = refl

  this_same : {A : Type 0} (c : Context) (e : tree.Exp A) → is_this rows c e ≡ is_this after c e
  this_same c (tree.number m n) = refl
  this_same c (tree.truth m b) = refl
  this_same c (tree.null m) = refl
  this_same c (tree.string m s) = refl
  this_same c (tree.name m w) = refl
  this_same c (tree.field m e w) = refl
  this_same c (tree.super_field m w) = refl
  this_same c (tree.this m) = refl
  this_same c (tree.class_literal m t) = refl
  this_same c (tree.call m to w args) = refl
  this_same c (tree.super_call m w args) = refl
  this_same c (tree.create m t args) = refl
  this_same c (tree.paren m e) = refl
  this_same c (tree.cast m t e) = refl
  this_same c (tree.unary m o e) = refl
  this_same c (tree.bump m o e) = refl
  this_same c (tree.binary m o l r) = refl
  this_same c (tree.assign m l r) = refl
  this_same c (tree.compound m o l r) = refl

  behind : {A : Type 0} (c : Context) (e : tree.Exp A) (d : Decl) → IsClean names d → is_fixed_behind rows c e d ≡ is_fixed_behind after c e d
  behind c e d clean = λ i. if this_same c e i then fixed_decls names rows after alike c d clean i else final_decls names rows after alike c d clean i

  module _ {A : Type 0} (begins : A → ℕ → ℕ) (c : Context) (this : IsCleanMember names c.member) (role : Role) (base : ℕ) where
    objects : (e : tree.Exp A) → object_notes begins rows c role base e ≡ object_notes begins after c role base e
    objects (tree.number m n) = refl
    objects (tree.truth m b) = refl
    objects (tree.null m) = refl
    objects (tree.string m s) = refl
    objects (tree.name m w) = refl
    objects (tree.field m e w) = refl
    objects (tree.super_field m w) = refl
    objects (tree.this m) = refl
    objects (tree.class_literal m t) = refl
    objects (tree.call m to w args) = refl
    objects (tree.super_call m w args) = refl
    objects (tree.create m t args) = refl
    objects (tree.paren m e) = refl
    objects (tree.cast m t e) = refl
    objects (tree.unary m o e) = refl
    objects (tree.bump m o e) = refl
    objects (tree.binary m o l r) = refl
    objects (tree.assign m l r) = refl
    objects (tree.compound m o l r) = refl

    members : (e : tree.Exp A) → AvoidsExp names e → member_notes begins rows c role base e ≡ member_notes begins after c role base e
    unfolding AvoidsExp AvoidsTarget
    members (tree.number m n) h = refl
    members (tree.truth m b) h = refl
    members (tree.null m) h = refl
    members (tree.string m s) h = refl
    members (tree.name m w) h = refl
    members (tree.field m e w) h = through_at names rows after alike (at_word begins m base w) (class_name_of rows c e) (class_name_of after c e) (class_names names rows after alike c e h.0)
        (field_found rows c (class_on rows c e) w.text) (field_found after c (class_on after c e) w.text) (fields_on c e w.text h.0 h.1)
    members (tree.super_field m w) h = through_at names rows after alike (at_word begins m base w) None None refl
        (field_found rows c (own_superclass rows c) w.text) (field_found after c (own_superclass after c) w.text) (fields_above c w.text h)
    members (tree.this m) h = refl
    members (tree.class_literal m t) h = refl
    members (tree.call m tree.no_target w args) h = refl
    members (tree.call m (tree.on e) w args) h = through_at names rows after alike (at_word begins m base w) (class_name_of rows c e) (class_name_of after c e) (class_names names rows after alike c e h.0)
        (target_found rows c (tree.on e) w.text (types_of rows c args)) (target_found after c (tree.on e) w.text (types_of after c args)) (targets_on c (tree.on e) w.text args h.0 h.1 h.2)
    members (tree.super_call m w args) h = through_at names rows after alike (at_word begins m base w) None None refl
        (call_found rows c (own_superclass rows c) w.text (types_of rows c args)) (call_found after c (own_superclass after c) w.text (types_of after c args)) (calls_above c w.text args h.0 h.1)
    members (tree.create m t args) h = refl
    members (tree.paren m e) h = refl
    members (tree.cast m t e) h = refl
    members (tree.unary m o e) h = refl
    members (tree.bump m o e) h = refl
    members (tree.binary m o l r) h = refl
    members (tree.assign m l r) h = refl
    members (tree.compound m o l r) h = refl

    operands : (e : tree.Exp A) → AvoidsExp names e → operand_notes begins rows c role base e ≡ operand_notes begins after c role base e
    unfolding AvoidsExp
    operands (tree.number m n) h = refl
    operands (tree.truth m b) h = refl
    operands (tree.null m) h = refl
    operands (tree.string m s) h = refl
    operands (tree.name m w) h = refl
    operands (tree.field m e w) h = refl
    operands (tree.super_field m w) h = refl
    operands (tree.this m) h = refl
    operands (tree.class_literal m t) h = refl
    operands (tree.call m to w args) h = refl
    operands (tree.super_call m w args) h = refl
    operands (tree.create m t args) h = refl
    operands (tree.paren m e) h = refl
    operands (tree.cast m t e) h = λ i. unless (comparable_at names rows after alike (written_type rows (scope_of c) t) (type_of rows c e) (written_type after (scope_of c) t) (type_of after c e)
        (writtens names rows after alike (scope_of c) t) (types names rows after alike c e h) i) (breaks (begins m base) rule.BadCast)
    operands (tree.unary m o e) h = λ i. unless (takes_one o (types names rows after alike c e h i)) (breaks (begins m base) rule.Operands)
    operands (tree.bump m o e) h = λ i. unless (is_ty int (types names rows after alike c e h i)) (breaks (begins m base) rule.Operands)
    operands (tree.binary m o l r) h = λ i. unless (takes_at names rows after alike o (type_of rows c l) (type_of rows c r) (type_of after c l) (type_of after c r)
        (types names rows after alike c l h.0) (types names rows after alike c r h.1) i) (breaks (begins m base) rule.Operands)
    operands (tree.assign m l r) h = λ i. unless (suits_at names rows after alike (type_of rows c r) (type_of rows c l) (type_of after c r) (type_of after c l)
        (types names rows after alike c r h.1) (types names rows after alike c l h.0) i) (breaks (begins (exp_mark r) (begins m base)) rule.TypeMismatch)
    operands (tree.compound m o l r) h = λ i. unless (are_ty int (types names rows after alike c l h.0 i) (types names rows after alike c r h.1 i)) (breaks (begins m base) rule.Operands)

    finals : (from : ℕ) (e : tree.Exp A) → AvoidsExp names e → final_notes begins rows c role base from e ≡ final_notes begins after c role base from e
    unfolding AvoidsExp
    finals from (tree.number m n) h = refl
    finals from (tree.truth m b) h = refl
    finals from (tree.null m) h = refl
    finals from (tree.string m s) h = refl
    finals from (tree.name m w) h = λ i. when (found_tests names (is_fixed rows c) (is_fixed after c) (fixed_decls names rows after alike c)
        (find_variable rows (scope_of c) w.text) (find_variable after (scope_of c) w.text) (alike.variable (scope_of c) w.text h) i) (breaks (at_word begins m from w) rule.FinalAssigned)
    finals from (tree.field m e w) h = λ i. when (found_tests names (is_fixed_behind rows c e) (is_fixed_behind after c e) (behind c e)
        (field_found rows c (class_on rows c e) w.text) (field_found after c (class_on after c e) w.text) (fields_on c e w.text h.0 h.1) i) (breaks (at_word begins m from w) rule.FinalAssigned)
    finals from (tree.super_field m w) h = λ i. when (found_tests names (is_final_decl rows c) (is_final_decl after c) (final_decls names rows after alike c)
        (field_found rows c (own_superclass rows c) w.text) (field_found after c (own_superclass after c) w.text) (fields_above c w.text h) i) (breaks (at_word begins m from w) rule.FinalAssigned)
    finals from (tree.this m) h = refl
    finals from (tree.class_literal m t) h = refl
    finals from (tree.call m to w args) h = refl
    finals from (tree.super_call m w args) h = refl
    finals from (tree.create m t args) h = refl
    finals from (tree.paren m e) h = refl
    finals from (tree.cast m t e) h = refl
    finals from (tree.unary m o e) h = refl
    finals from (tree.bump m o e) h = refl
    finals from (tree.binary m o l r) h = refl
    finals from (tree.assign m l r) h = refl
    finals from (tree.compound m o l r) h = refl

    assigned : (e : tree.Exp A) → AvoidsExp names e → target_notes begins rows c role base e ≡ target_notes begins after c role base e
    unfolding AvoidsExp
    assigned (tree.number m n) h = refl
    assigned (tree.truth m b) h = refl
    assigned (tree.null m) h = refl
    assigned (tree.string m s) h = refl
    assigned (tree.name m w) h = refl
    assigned (tree.field m e w) h = refl
    assigned (tree.super_field m w) h = refl
    assigned (tree.this m) h = refl
    assigned (tree.class_literal m t) h = refl
    assigned (tree.call m to w args) h = refl
    assigned (tree.super_call m w args) h = refl
    assigned (tree.create m t args) h = refl
    assigned (tree.paren m e) h = refl
    assigned (tree.cast m t e) h = refl
    assigned (tree.unary m o e) h = refl
    assigned (tree.bump m o e) h = finals (begins m base) e h
    assigned (tree.binary m o l r) h = refl
    assigned (tree.assign m l r) h = finals (begins m base) l h.0
    assigned (tree.compound m o l r) h = finals (begins m base) l h.0

    forwards : (e : tree.Exp A) → AvoidsExp names e → forward_notes begins rows c role base e ≡ forward_notes begins after c role base e
    unfolding AvoidsExp
    forwards (tree.number m n) h = refl
    forwards (tree.truth m b) h = refl
    forwards (tree.null m) h = refl
    forwards (tree.string m s) h = refl
    forwards (tree.name m w) h = λ i. when (found_tests names (is_forward rows c) (is_forward after c) (forward_decls names rows after alike c this)
        (find_variable rows (scope_of c) w.text) (find_variable after (scope_of c) w.text) (alike.variable (scope_of c) w.text h) i) (breaks (at_word begins m base w) rule.Forward)
    forwards (tree.field m e w) h = refl
    forwards (tree.super_field m w) h = refl
    forwards (tree.this m) h = refl
    forwards (tree.class_literal m t) h = refl
    forwards (tree.call m to w args) h = refl
    forwards (tree.super_call m w args) h = refl
    forwards (tree.create m t args) h = refl
    forwards (tree.paren m e) h = refl
    forwards (tree.cast m t e) h = refl
    forwards (tree.unary m o e) h = refl
    forwards (tree.bump m o e) h = refl
    forwards (tree.binary m o l r) h = refl
    forwards (tree.assign m l r) h = refl
    forwards (tree.compound m o l r) h = refl

    called : (e : tree.Exp A) → AvoidsExp names e → call_notes begins rows c role base e ≡ call_notes begins after c role base e
    called (tree.number m n) h = refl
    called (tree.truth m b) h = refl
    called (tree.null m) h = refl
    called (tree.string m s) h = refl
    called (tree.name m w) h = refl
    called (tree.field m e w) h = refl
    called (tree.super_field m w) h = refl
    called (tree.this m) h = refl
    called (tree.class_literal m t) h = refl
    called (tree.call m to w args) h = λ i. called_notes role (at_word begins m base w) w.text (types names rows after alike c (tree.call m to w args) h i)
    called (tree.super_call m w args) h = λ i. called_notes role (at_word begins m base w) w.text (types names rows after alike c (tree.super_call m w args) h i)
    called (tree.create m t args) h = refl
    called (tree.paren m e) h = refl
    called (tree.cast m t e) h = refl
    called (tree.unary m o e) h = refl
    called (tree.bump m o e) h = refl
    called (tree.binary m o l r) h = refl
    called (tree.assign m l r) h = refl
    called (tree.compound m o l r) h = refl

    -- the notes on an expression itself
    pub own : (e : tree.Exp A) → AvoidsExp names e → own_notes begins rows c role base e ≡ own_notes begins after c role base e
    unfolding own_notes
    own e h = λ i. reference_notes (refs names rows after alike begins c role base e h i) ++ (objects e i ++ (members e h i ++ (operands e h i ++ (assigned e h i ++ (forwards e h i ++ called e h i)))))
