-- Of rows that look alike, what refers to none of the names has the same types, and its references
-- find the same.
use Rattle.std.proofs.Common.{◌≡◌, ℕ, List, [], ◌∷◌, Option, Some, None, Bool, refl, sym, ap, ◌∙◌}
use Rattle.std.specs.Prelude.{option_map, option_and_then, false}
use Rattle.jr_ast.specs.Tree as tree
use Rattle.jr_table.specs.Keys.{ClassKey, Ty, class}
use Rattle.jr_table.specs.Decls.{Decl, class_decl, field_decl, method_decl, constructor_decl, local_decl}
use Rattle.jr_table.specs.Rows.{Row}
use Rattle.jr_table.specs.Found.{Found, one, nothing, many, not_accessible, from_static}
use Rattle.jr_table.specs.Scope.{Scope}
use Rattle.jr_table.specs.Lookup.{find_variable}
use Rattle.jr_table.specs.Context.{LocalType, known, written, Local, Context, scope_of, outer_text}
use Rattle.jr_table.specs.Binding.{Role, value, left, statement, variable, type}
use Rattle.jr_table.specs.Binding as sought
use Rattle.jr_table.specs.Meanings.{row_of, test_row, class_found, named_class, written_type, type_of_local, local_of_key, type_of_decl, superclass_of, type_of_found, class_in, on_class, find_in, with_first, or_type, find_left, find_left_of, created, field_found, call_found, plain_call_found, ctor_found, own_superclass, created_class, type_of, class_name_of, target_found, types_of, class_on, reference, at_word, type_references, name_reference, left_reference, dotted_reference, references}
use Rattle.jr_mentions.specs.Apart.{IsOther, IsClean}
use Rattle.jr_mentions.specs.Alike.{Told, told, IsCleanFound, Finds, LookAlike}
use Rattle.jr_mentions.specs.Avoids.{AvoidsExp, AvoidsTarget, AvoidsRow}

-- what a row tells, asked of the row and of what it tells
by_told : {X : Type 0} (f : Told → Option X) (o : Option Row)
    → option_and_then (λ (r : Row). f (told r)) o ≡ option_and_then f (option_map told o)
by_told f None = refl
by_told f (Some r) = refl

abbrev tests_told : (Told → Bool) → Option Told → Bool
tests_told f None = false
tests_told f (Some t) = f t

by_test : (f : Told → Bool) (o : Option Row)
    → test_row (λ r. f (told r)) o ≡ tests_told f (option_map told o)
by_test f None = refl
by_test f (Some r) = refl

-- what is found, and further on the same by another way
pub along : {names : List (List ℕ)} {f g h : Found} → Finds names f g → g ≡ h → Finds names f h
along p e = record { same = p.same ∙ e; clean = p.clean }

module _ (names : List (List ℕ)) (rows after : List Row) (alike : LookAlike names rows after) where
  -- what rows of clean declarations tell
  pub tolds : {X : Type 0} (f : Told → Option X) (d : Decl) → IsClean names d
      → option_and_then (λ (r : Row). f (told r)) (row_of rows d)
      ≡ option_and_then (λ (r : Row). f (told r)) (row_of after d)
  tolds f d clean = by_told f (row_of rows d) ∙ ap (option_and_then f) (alike.row d clean)
      ∙ sym (by_told f (row_of after d))

  pub tests : (f : Told → Bool) (d : Decl) → IsClean names d
      → test_row (λ r. f (told r)) (row_of rows d) ≡ test_row (λ r. f (told r)) (row_of after d)
  tests f d clean = by_test f (row_of rows d) ∙ ap (tests_told f) (alike.row d clean)
      ∙ sym (by_test f (row_of after d))

  pub superclasses : (k : ClassKey) → superclass_of rows k ≡ superclass_of after k
  superclasses k = tolds (λ (t : Told). t.parent) (class_decl k) tt

  pub named_classes : (s : Scope) (outer : Option (List ℕ)) (name : List ℕ)
      → named_class rows s outer name ≡ named_class after s outer name
  named_classes s None name = ap class_found (alike.type_named s name)
  named_classes s (Some outer) name = λ i. option_and_then
      (λ o. class_found (alike.type_of s o name i)) (class_found (alike.type_named s outer i))

  pub writtens : {A : Type 0} (s : Scope) (t : tree.TypeName A)
      → written_type rows s t ≡ written_type after s t
  writtens s (tree.int m) = refl
  writtens s (tree.boolean m) = refl
  writtens s (tree.named m outer w) =
      ap (option_map class) (named_classes s (outer_text outer) w.text)

  pub created_classes : {A : Type 0} (c : Context) (of : tree.TypeName A)
      → created_class rows c of ≡ created_class after c of
  created_classes c of = ap class_in (writtens (scope_of c) of)

  pub local_types : (s : Scope) (t : LocalType) → type_of_local rows s t ≡ type_of_local after s t
  local_types s (known t) = refl
  local_types s (written outer name) = ap (option_map class) (named_classes s outer name)

  types_of_maybe : (s : Scope) (o : Option Local)
      → option_and_then (λ (l : Local). type_of_local rows s l.type) o
      ≡ option_and_then (λ (l : Local). type_of_local after s l.type) o
  types_of_maybe s None = refl
  types_of_maybe s (Some l) = local_types s l.type

  pub decl_types : (c : Context) (d : Decl) → IsClean names d
      → type_of_decl rows c d ≡ type_of_decl after c d
  decl_types c (local_decl k) clean = types_of_maybe (scope_of c) (local_of_key k c.locals)
  decl_types c (class_decl k) clean = tolds (λ (t : Told). t.type) (class_decl k) clean
  decl_types c (field_decl k) clean = tolds (λ (t : Told). t.type) (field_decl k) clean
  decl_types c (method_decl k) clean = tolds (λ (t : Told). t.type) (method_decl k) clean
  decl_types c (constructor_decl k) clean = tolds (λ (t : Told). t.type) (constructor_decl k) clean

  -- lookups where a class and the types of arguments may be missing
  pub fields : (c : Context) (o : Option ClassKey) (name : List ℕ) → IsOther names name
      → Finds names (field_found rows c o name) (field_found after c o name)
  fields c None name other = record { same = refl; clean = tt }
  fields c (Some k) name other = alike.field_in (scope_of c) k name other

  pub calls : (c : Context) (o : Option ClassKey) (name : List ℕ) (ts : Option (List Ty))
      → IsOther names name
      → Finds names (call_found rows c o name ts) (call_found after c o name ts)
  calls c None name ts other = record { same = refl; clean = tt }
  calls c (Some k) name None other = record { same = refl; clean = tt }
  calls c (Some k) name (Some ts) other = alike.method_of (scope_of c) k name ts other

  pub plain_calls : (c : Context) (name : List ℕ) (ts : Option (List Ty)) → IsOther names name
      → Finds names (plain_call_found rows c name ts) (plain_call_found after c name ts)
  plain_calls c name None other = record { same = refl; clean = tt }
  plain_calls c name (Some ts) other = alike.method_named (scope_of c) name ts other

  pub ctors : (c : Context) (o : Option ClassKey) (ts : Option (List Ty))
      → Finds names (ctor_found rows c o ts) (ctor_found after c o ts)
  ctors c None ts = record { same = refl; clean = tt }
  ctors c (Some k) None = record { same = refl; clean = tt }
  ctors c (Some k) (Some ts) = alike.ctor_of (scope_of c) k ts

  -- and with another class, or other types, of the rows after
  pub fields_to : (c : Context) (o p : Option ClassKey) (name : List ℕ) → IsOther names name
      → o ≡ p → Finds names (field_found rows c o name) (field_found after c p name)
  fields_to c o p name other e =
      along (fields c o name other) (λ i. field_found after c (e i) name)

  pub calls_to : (c : Context) (o p : Option ClassKey) (name : List ℕ) (ts us : Option (List Ty))
      → IsOther names name → o ≡ p → ts ≡ us
      → Finds names (call_found rows c o name ts) (call_found after c p name us)
  calls_to c o p name ts us other e h =
      along (calls c o name ts other) (λ i. call_found after c (e i) name (h i))

  pub plain_calls_to : (c : Context) (name : List ℕ) (ts us : Option (List Ty))
      → IsOther names name → ts ≡ us
      → Finds names (plain_call_found rows c name ts) (plain_call_found after c name us)
  plain_calls_to c name ts us other h =
      along (plain_calls c name ts other) (λ i. plain_call_found after c name (h i))

  pub ctors_to : (c : Context) (o p : Option ClassKey) (ts us : Option (List Ty)) → o ≡ p → ts ≡ us
      → Finds names (ctor_found rows c o ts) (ctor_found after c p us)
  ctors_to c o p ts us e h = along (ctors c o ts) (λ i. ctor_found after c (e i) (h i))

  -- what stands before a dot
  pub lefts : (s : Scope) (name : List ℕ) → IsOther names name
      → find_left rows s name ≡ find_left after s name
  unfolding find_left
  lefts s name other =
      λ i. or_type ((alike.variable s name other).same i) (alike.type_named s name i)

  pub lefts_of : (s : Scope) (k : ClassKey) (name : List ℕ) → IsOther names name
      → find_left_of rows s k name ≡ find_left_of after s k name
  unfolding find_left_of
  lefts_of s k name other =
      λ i. or_type ((alike.field_in s k name other).same i) (alike.type_of s k name i)

  found_type : (c : Context) (f : Found) → IsCleanFound names f
      → type_of_found rows c f ≡ type_of_found after c f
  found_type c (one d) clean = decl_types c d clean
  found_type c nothing clean = refl
  found_type c (many d e) clean = refl
  found_type c (not_accessible d) clean = refl
  found_type c (from_static d) clean = refl

  pub found_types : (c : Context) (f g : Found) → Finds names f g
      → type_of_found rows c f ≡ type_of_found after c g
  found_types c f g p = found_type c f p.clean ∙ ap (type_of_found after c) p.same

  module _ {A : Type 0} where
    mutual
      unfolding type_of class_name_of target_found types_of AvoidsExp AvoidsTarget AvoidsRow

      pub types : (c : Context) (e : tree.Exp A) → AvoidsExp names e
          → type_of rows c e ≡ type_of after c e
      types c (tree.number m n) a = refl
      types c (tree.truth m b) a = refl
      types c (tree.null m) a = refl
      types c (tree.string m s) a = refl
      types c (tree.this m) a = refl
      types c (tree.class_literal m of) a = refl
      types c (tree.name m w) a =
          found_types c (find_variable rows (scope_of c) w.text) (find_variable after (scope_of c) w.text)
          (alike.variable (scope_of c) w.text a)
      types c (tree.field m e w) a =
          found_types c (field_found rows c (on_class (class_name_of rows c e) (type_of rows c e)) w.text)
          (field_found after c (on_class (class_name_of after c e) (type_of after c e)) w.text)
          (fields_to c (on_class (class_name_of rows c e) (type_of rows c e))
          (on_class (class_name_of after c e) (type_of after c e)) w.text a.1
          (λ i. on_class (class_names c e a.0 i) (types c e a.0 i)))
      types c (tree.super_field m w) a =
          found_types c (field_found rows c (own_superclass rows c) w.text)
          (field_found after c (own_superclass after c) w.text)
          (fields_to c (own_superclass rows c) (own_superclass after c) w.text a
          (superclasses (scope_of c).class))
      types c (tree.call m to w args) a =
          found_types c (target_found rows c to w.text (types_of rows c args))
          (target_found after c to w.text (types_of after c args))
          (targets_to c to w.text (types_of rows c args) (types_of after c args) a.0 a.1
          (row_types c args a.2))
      types c (tree.super_call m w args) a =
          found_types c (call_found rows c (own_superclass rows c) w.text (types_of rows c args))
          (call_found after c (own_superclass after c) w.text (types_of after c args))
          (calls_to c (own_superclass rows c) (own_superclass after c) w.text (types_of rows c args)
          (types_of after c args) a.0 (superclasses (scope_of c).class) (row_types c args a.1))
      types c (tree.create m of args) a = λ i. created (created_classes c of i)
          ((ctors_to c (created_class rows c of) (created_class after c of) (types_of rows c args)
          (types_of after c args) (created_classes c of) (row_types c args a)).same i)
      types c (tree.paren m e) a = types c e a
      types c (tree.cast m of e) a = writtens (scope_of c) of
      types c (tree.unary m o e) a = refl
      types c (tree.bump m o e) a = refl
      types c (tree.binary m o l r) a = refl
      types c (tree.assign m l r) a = types c l a.0
      types c (tree.compound m o l r) a = refl

      pub class_names : (c : Context) (e : tree.Exp A) → AvoidsExp names e
          → class_name_of rows c e ≡ class_name_of after c e
      class_names c (tree.name m w) a = ap class_found (lefts (scope_of c) w.text a)
      class_names c (tree.field m e w) a = λ i. option_and_then
          (λ o. class_found (lefts_of (scope_of c) o w.text a.1 i)) (class_names c e a.0 i)
      class_names c (tree.number m n) a = refl
      class_names c (tree.truth m b) a = refl
      class_names c (tree.null m) a = refl
      class_names c (tree.string m s) a = refl
      class_names c (tree.this m) a = refl
      class_names c (tree.class_literal m of) a = refl
      class_names c (tree.super_field m w) a = refl
      class_names c (tree.call m to w args) a = refl
      class_names c (tree.super_call m w args) a = refl
      class_names c (tree.create m of args) a = refl
      class_names c (tree.paren m e) a = refl
      class_names c (tree.cast m of e) a = refl
      class_names c (tree.unary m o e) a = refl
      class_names c (tree.bump m o e) a = refl
      class_names c (tree.binary m o l r) a = refl
      class_names c (tree.assign m l r) a = refl
      class_names c (tree.compound m o l r) a = refl

      pub targets_to : (c : Context) (to : tree.Target A) (name : List ℕ) (ts us : Option (List Ty))
          → AvoidsTarget names to → IsOther names name → ts ≡ us
          → Finds names (target_found rows c to name ts) (target_found after c to name us)
      targets_to c tree.no_target name ts us a other h = plain_calls_to c name ts us other h
      targets_to c (tree.on e) name ts us a other h =
          calls_to c (on_class (class_name_of rows c e) (type_of rows c e))
          (on_class (class_name_of after c e) (type_of after c e)) name ts us other
          (λ i. on_class (class_names c e a i) (types c e a i)) h

      pub row_types : (c : Context) (es : tree.Exps A) → AvoidsRow names es
          → types_of rows c es ≡ types_of after c es
      row_types c tree.end a = refl
      row_types c (tree.more e es) a = λ i. with_first (types c e a.0 i) (row_types c es a.1 i)

    pub targets : (c : Context) (to : tree.Target A) (name : List ℕ) (ts : Option (List Ty))
        → AvoidsTarget names to → IsOther names name
        → Finds names (target_found rows c to name ts) (target_found after c to name ts)
    targets c to name ts a other = targets_to c to name ts ts a other refl

    pub on_classes : (c : Context) (e : tree.Exp A) → AvoidsExp names e
        → class_on rows c e ≡ class_on after c e
    on_classes c e a = λ i. on_class (class_names c e a i) (types c e a i)

  -- references
  module _ {A : Type 0} (begins : A → ℕ → ℕ) where
    pub type_refs : (c : Context) (base : ℕ) (t : tree.TypeName A)
        → type_references begins rows c base t ≡ type_references begins after c base t
    type_refs c base (tree.int m) = refl
    type_refs c base (tree.boolean m) = refl
    type_refs c base (tree.named m None w) = λ i.
        reference (at_word begins m base w) type (alike.type_named (scope_of c) w.text i) ∷ []
    type_refs c base (tree.named m (Some o) w) = λ i.
        reference (at_word begins m base o) type (alike.type_named (scope_of c) o.text i)
        ∷ reference (at_word begins m base w) type
        (find_in (class_found (alike.type_named (scope_of c) o.text i))
        (λ k. alike.type_of (scope_of c) k w.text i))
        ∷ []

    pub name_refs : (c : Context) (role : Role) (at : ℕ) (name : List ℕ) → IsOther names name
        → name_reference begins rows c role at name ≡ name_reference begins after c role at name
    name_refs c left at name other = λ i. reference at type (lefts (scope_of c) name other i)
    name_refs c value at name other =
        λ i. reference at variable ((alike.variable (scope_of c) name other).same i)
    name_refs c statement at name other =
        λ i. reference at variable ((alike.variable (scope_of c) name other).same i)

    left_ref : (c : Context) (at : ℕ) (o on : Option ClassKey) (name : List ℕ) → IsOther names name
        → left_reference begins rows c at o on name ≡ left_reference begins after c at o on name
    left_ref c at (Some o) on name other =
        λ i. reference at type (lefts_of (scope_of c) o name other i)
    left_ref c at None on name other = λ i. reference at variable ((fields c on name other).same i)

    pub dotted_refs : (c : Context) (role : Role) (at : ℕ) (e : tree.Exp A) (name : List ℕ)
        → AvoidsExp names e → IsOther names name
        → dotted_reference begins rows c role at e name ≡ dotted_reference begins after c role at e name
    dotted_refs c left at e name a other =
        left_ref c at (class_name_of rows c e) (class_on rows c e) name other
        ∙ (λ i. left_reference begins after c at (class_names c e a i) (on_classes c e a i) name)
    dotted_refs c value at e name a other = λ i. reference at variable
        ((fields_to c (class_on rows c e) (class_on after c e) name other (on_classes c e a)).same i)
    dotted_refs c statement at e name a other = λ i. reference at variable
        ((fields_to c (class_on rows c e) (class_on after c e) name other (on_classes c e a)).same i)

    pub refs : (c : Context) (role : Role) (base : ℕ) (e : tree.Exp A) → AvoidsExp names e
        → references begins rows c role base e ≡ references begins after c role base e
    unfolding AvoidsExp AvoidsTarget AvoidsRow
    refs c role base (tree.name m w) a = λ i. name_refs c role (at_word begins m base w) w.text a i ∷ []
    refs c role base (tree.field m e w) a =
        λ i. dotted_refs c role (at_word begins m base w) e w.text a.0 a.1 i ∷ []
    refs c role base (tree.super_field m w) a = λ i. reference (at_word begins m base w) variable
        ((fields_to c (own_superclass rows c) (own_superclass after c) w.text a
        (superclasses (scope_of c).class)).same i) ∷ []
    refs c role base (tree.class_literal m of) a = type_refs c (begins m base) of
    refs c role base (tree.call m to w args) a = λ i. reference (at_word begins m base w) sought.method
        ((targets_to c to w.text (types_of rows c args) (types_of after c args) a.0 a.1
        (row_types c args a.2)).same i) ∷ []
    refs c role base (tree.super_call m w args) a =
        λ i. reference (at_word begins m base w) sought.method
        ((calls_to c (own_superclass rows c) (own_superclass after c) w.text (types_of rows c args)
        (types_of after c args) a.0 (superclasses (scope_of c).class) (row_types c args a.1)).same i) ∷ []
    refs c role base (tree.create m of args) a = λ i. reference (begins m base) sought.method
        ((ctors_to c (created_class rows c of) (created_class after c of) (types_of rows c args)
        (types_of after c args) (created_classes c of) (row_types c args a)).same i)
        ∷ type_refs c (begins m base) of i
    refs c role base (tree.cast m of e) a = type_refs c (begins m base) of
    refs c role base (tree.number m n) a = refl
    refs c role base (tree.truth m b) a = refl
    refs c role base (tree.null m) a = refl
    refs c role base (tree.string m s) a = refl
    refs c role base (tree.this m) a = refl
    refs c role base (tree.paren m e) a = refl
    refs c role base (tree.unary m o e) a = refl
    refs c role base (tree.bump m o e) a = refl
    refs c role base (tree.binary m o l r) a = refl
    refs c role base (tree.assign m l r) a = refl
    refs c role base (tree.compound m o l r) a = refl
