-- Classes, members and compilation units whose parts are replaced.
use Rattle.std.proofs.Common.{◌≡◌, ℕ, zero, suc, ◌+◌, ◌-◌, ◌≤◌, List, [], ◌∷◌, Option, Some, None, Vec, Global, length, slice_set, option_map, option_and_then, map, refl, sym, ap, ◌∙◌, arith}
use Rattle.std.specs.List.{slice_get}
use Rattle.std.proofs.lemmas.List.{length-map}
use Rattle.jr_ast.specs.declared.names.Ident.{Ident}
use Rattle.jr_ast.specs.declared.parts.Modifier.{Modifier}
use Rattle.jr_ast.specs.declared.parts.Param.{Param}
use Rattle.jr_ast.specs.declared.parts.TypeRef.{TypeRef}
use Rattle.jr_ast.specs.declared.exprs.Expr.{Expr}
use Rattle.jr_ast.specs.declared.stmts.Stmt.{Stmt}
use Rattle.jr_ast.specs.declared.members.Class.{Class, out-Class, roll-Class}
use Rattle.jr_ast.specs.declared.members.Member.{Member}
use Rattle.jr_ast.specs.declared.members.MemberKind as kind
use Rattle.jr_ast.specs.declared.members.Unit.{Unit}
use Rattle.jr_ast.specs.Tree as tree
use Rattle.jr_ast.specs.StatementTree as statement
use Rattle.jr_ast.specs.MemberTree as declared
use Rattle.jr_ast.specs.Nodes as pure
use Rattle.jr_ast.specs.View.{word_of, modifier_of, type_of, param_of, expr_of, exprs_of, args_of, stmt_of, stmts_of, class_of, member_of, member_kind, members_of, unit_of}
use Rattle.jr_paths_nodes.specs.With.{get_from, first_member, first_parent_arg, first_in_method, first_in_constructor, with_exp_among, with_maybe, with_member_from, with_class_from}
use Rattle.jr_paths_nodes.specs.With.{class_with_member, member_with_class, member_with_stmt, member_with_exp, unit_with_class}
use Rattle.jr_paths_nodes.specs.MemberLent.{members_begin, init_begins, args_place, body_place, left_of, names_of, at_place, with_stmt_left, with_arg_left}
use Rattle.jr_ast.proofs.Rows.{class_of-out, class_of-roll}
use Rattle.jr_paths_nodes.proofs.MemberPlaces.{left_three, left_more, method_first, got, got-nil, got_map, got_left, stmts_with_left, args_with_left, member_in_class, stmt_in_method, stmt_in_constructor, exp_in_field, exp_in_constructor, none_among, past_one, only_one}
use Rattle.jr_paths_nodes.proofs.RowKinds.{each-field, each-method, each-constructor}

module _ (A : Type 0) where
  -- the number of a class's first member
  begins_is : (x : Class A) → members_begin (class_of x) ≡ first_member (map modifier_of (out-Class A x).modifiers.items) (option_map type_of (out-Class A x).parent)
  begins_is x = ap members_begin (class_of-out A x)

  modifiers_counted : (mods : Vec (Modifier A) Global) (n : ℕ) → n ≡ mods.len → n ≡ length (map modifier_of mods.items)
  modifiers_counted mods n e = e ∙ mods.ok.0 ∙ sym (length-map mods.items modifier_of)

  pub begins_none : (x : Class A) (n : ℕ) → n ≡ (out-Class A x).modifiers.len → (out-Class A x).parent ≡ None → n + 1 ≡ members_begin (class_of x)
  begins_none x n e none =
      ap (λ k. k + 1) (modifiers_counted (out-Class A x).modifiers n e)
      ∙ sym (ap (λ t. first_member (map modifier_of (out-Class A x).modifiers.items) (option_map type_of t)) none) ∙ sym (begins_is x)

  pub begins_some : (x : Class A) (n : ℕ) (t : TypeRef A) → n ≡ (out-Class A x).modifiers.len → (out-Class A x).parent ≡ Some t → n + 2 ≡ members_begin (class_of x)
  begins_some x n t e some =
      ap (λ k. k + 2) (modifiers_counted (out-Class A x).modifiers n e)
      ∙ sym (ap (λ t. first_member (map modifier_of (out-Class A x).modifiers.items) (option_map type_of t)) some) ∙ sym (begins_is x)

  -- a class with these members
  abbrev pub of_members : Class A → Vec (Member A) Global → Class A
  of_members x all = roll-Class A (record { mark = (out-Class A x).mark; modifiers = (out-Class A x).modifiers; name = (out-Class A x).name; parent = (out-Class A x).parent; members = all })

  of_members_is : (x : Class A) (all : Vec (Member A) Global)
      → class_of (of_members x all) ≡ declared.class (out-Class A x).mark (map modifier_of (out-Class A x).modifiers.items) (word_of (out-Class A x).name) (option_map type_of (out-Class A x).parent) (members_of all.items)
  of_members_is x all = class_of-roll A (out-Class A x).mark (out-Class A x).modifiers (out-Class A x).name (out-Class A x).parent all

  pub class_write : (x : Class A) (new : Vec (Member A) Global) (first number : ℕ) (w : Member A) → first ≡ members_begin (class_of x)
      → members_of new.items ≡ with_member_from first (members_of (out-Class A x).members.items) number (member_of w)
      → class_of (of_members x new) ≡ class_with_member (class_of x) number (member_of w)
  unfolding class_with_member
  class_write x new first number w begins e =
      let build = declared.class (out-Class A x).mark (map modifier_of (out-Class A x).modifiers.items) (word_of (out-Class A x).name) (option_map type_of (out-Class A x).parent) in
      let old = members_of (out-Class A x).members.items in
      of_members_is x new ∙ ap build (e ∙ ap (λ f. with_member_from f old number (member_of w)) (begins ∙ begins_is x))
      ∙ sym (ap (λ c. class_with_member c number (member_of w)) (class_of-out A x))

  pub class_same : (x : Class A) (new : Vec (Member A) Global) → new.items ≡ (out-Class A x).members.items → class_of (of_members x new) ≡ class_of x
  class_same x new e =
      let build = declared.class (out-Class A x).mark (map modifier_of (out-Class A x).modifiers.items) (word_of (out-Class A x).name) (option_map type_of (out-Class A x).parent) in
      of_members_is x new ∙ ap (λ ms. build (members_of ms)) e ∙ sym (class_of-out A x)

  members_get : (a : ℕ) (xs : List (Member A)) (i : ℕ) → got pure.as_member a (pure.members (members_of xs)) i ≡ get_from a (map member_of xs) i
  members_get zero [] i = refl
  members_get zero (x ∷ xs) zero = refl
  members_get zero (x ∷ xs) (suc i) = members_get zero xs i
  members_get (suc a) xs zero = refl
  members_get (suc a) xs (suc i) = members_get a xs i

  abbrev member_in : declared.Class A → ℕ → Option (declared.Member A)
  member_in c number = option_and_then pure.as_member (slice_get (pure.class_children c) number)

  pub class_get : (x : Class A) (first number : ℕ) → first ≡ members_begin (class_of x)
      → get_from first (map member_of (out-Class A x).members.items) number ≡ member_in (class_of x) number
  unfolding pure.class_children
  class_get x first number begins =
      let mods = map modifier_of (out-Class A x).modifiers.items in
      let t = option_map type_of (out-Class A x).parent in
      let items = (out-Class A x).members.items in
      ap (λ f. get_from f (map member_of items) number) (begins ∙ begins_is x) ∙ sym (members_get (first_member mods t) items number)
      ∙ sym (member_in_class mods (word_of (out-Class A x).name) t (members_of items) number) ∙ sym (ap (λ c. member_in c number) (class_of-out A x))

  -- classes of a compilation unit
  set-classes : (w : Class A) (xs : List (Class A)) (i : ℕ) → map class_of (slice_set xs i w) ≡ slice_set (map class_of xs) i (class_of w)
  set-classes w [] i = refl
  set-classes w (x ∷ xs) zero = refl
  set-classes w (x ∷ xs) (suc i) = ap (λ l. class_of x ∷ l) (set-classes w xs i)

  pub set_class_from : (w : Class A) (first : ℕ) (xs : List (Class A)) (number : ℕ) → first ≤ number
      → map class_of (slice_set xs (number - first) w) ≡ with_class_from first (map class_of xs) number (class_of w)
  set_class_from w zero xs number h = ap (λ i. map class_of (slice_set xs i w)) (omega arith) ∙ set-classes w xs number
  set_class_from w (suc first) xs zero h = absurd (omega (h, arith))
  set_class_from w (suc first) xs (suc number) h = ap (λ i. map class_of (slice_set xs i w)) (omega arith) ∙ set_class_from w first xs number (omega (h, arith))

  words_counted : (u : Unit A) (n : ℕ) → n ≡ u.package.len → n ≡ length (map word_of u.package.items)
  words_counted u n e = e ∙ u.package.ok.0 ∙ sym (length-map u.package.items word_of)

  pub unit_write : (u : Unit A) (new : Vec (Class A) Global) (first number : ℕ) (w : Class A) → first ≡ u.package.len
      → map class_of new.items ≡ with_class_from first (map class_of u.classes.items) number (class_of w)
      → unit_of (record u { classes = new }) ≡ unit_with_class (unit_of u) number (class_of w)
  unit_write u new first number w counted e =
      ap (λ (cs : List (declared.Class A)). record (unit_of u) { classes = cs })
      (e ∙ ap (λ f. with_class_from f (map class_of u.classes.items) number (class_of w)) (words_counted u first counted))

  pub unit_same : (u : Unit A) (new : Vec (Class A) Global) → new.items ≡ u.classes.items → unit_of (record u { classes = new }) ≡ unit_of u
  unit_same u new e = ap (λ (xs : List (Class A)). record (unit_of u) { classes = map class_of xs }) e

  classes_get : (a : ℕ) (cs : List (declared.Class A)) (i : ℕ) → got pure.as_class a (map pure.class cs) i ≡ get_from a cs i
  classes_get zero [] i = refl
  classes_get zero (c ∷ cs) zero = refl
  classes_get zero (c ∷ cs) (suc i) = classes_get zero cs i
  classes_get (suc a) cs zero = refl
  classes_get (suc a) cs (suc i) = classes_get a cs i

  pub unit_get : (u : Unit A) (first number : ℕ) → first ≡ u.package.len
      → get_from first (map class_of u.classes.items) number ≡ option_and_then pure.as_class (pure.child_of (pure.unit (unit_of u)) number)
  unit_get u first number counted =
      let words = map word_of u.package.items in
      let cs = map class_of u.classes.items in
      let same : length words ≡ 0 + length words = omega arith in
      ap (λ f. get_from f cs number) (words_counted u first counted) ∙ sym (classes_get (length words) cs number)
      ∙ ap (λ f. got pure.as_class f (map pure.class cs) number) same
      ∙ sym (got_map pure.as_class pure.word words 0 (map pure.class cs) number (λ w. refl))

  -- members
  abbrev pub class_in : declared.Member A → ℕ → Option (declared.Class A)
  class_in m number = option_and_then pure.as_class (slice_get (pure.member_children m) number)

  abbrev pub stmt_in : declared.Member A → ℕ → Option (statement.Stmt A)
  stmt_in m number = option_and_then pure.as_stmt (slice_get (pure.member_children m) number)

  abbrev pub exp_in : declared.Member A → ℕ → Option (tree.Exp A)
  exp_in m number = option_and_then pure.as_exp (slice_get (pure.member_children m) number)

  abbrev Mods : Type 0
  Mods = Vec (Modifier A) Global

  abbrev Params : Type 0
  Params = Vec (Param A) Global

  abbrev Body : Type 0
  Body = Vec (Stmt A) Global

  abbrev Args : Type 0
  Args = Option (Vec (Expr A) Global)

  pub inner_write : (m : A) (c new : Class A) (number : ℕ) → number ≡ 0 → member_kind m (kind.Inner new) ≡ member_with_class (member_kind m (kind.Inner c)) number (class_of new)
  unfolding member_kind member_with_class
  inner_write m c new number h = sym (ap (λ i. member_with_class (declared.inner m (class_of c)) i (class_of new)) h)

  pub inner_get : (m : A) (c : Class A) (number : ℕ) → number ≡ 0 → Some (class_of c) ≡ class_in (member_kind m (kind.Inner c)) number
  unfolding member_kind pure.member_children
  inner_get m c number h = sym (ap (class_in (declared.inner m (class_of c))) h)

  pub field_no_class : (m : A) (mods : Mods) (t : TypeRef A) (i : Ident A) (e : Option (Expr A)) (number : ℕ) → None ≡ class_in (member_kind m (kind.Field mods t i e)) number
  unfolding member_kind pure.member_children
  field_no_class m mods t i e number =
      none_among pure.as_class (pure.member_children (member_kind m (kind.Field mods t i e)))
      (each-field (λ n. pure.as_class n ≡ None) (λ d. refl) (λ w. refl) (λ t. refl) (λ e. refl) (map modifier_of mods.items) (type_of t) (word_of i) (option_map expr_of e)) number

  pub field_no_stmt : (m : A) (mods : Mods) (t : TypeRef A) (i : Ident A) (e : Option (Expr A)) (number : ℕ) → None ≡ stmt_in (member_kind m (kind.Field mods t i e)) number
  unfolding member_kind pure.member_children
  field_no_stmt m mods t i e number =
      none_among pure.as_stmt (pure.member_children (member_kind m (kind.Field mods t i e)))
      (each-field (λ n. pure.as_stmt n ≡ None) (λ d. refl) (λ w. refl) (λ t. refl) (λ e. refl) (map modifier_of mods.items) (type_of t) (word_of i) (option_map expr_of e)) number

  pub method_no_class : (m : A) (mods : Mods) (t : Option (TypeRef A)) (i : Ident A) (ps : Params) (body : Body) (number : ℕ) → None ≡ class_in (member_kind m (kind.Method mods t i ps body)) number
  unfolding member_kind pure.member_children
  method_no_class m mods t i ps body number =
      none_among pure.as_class (pure.member_children (member_kind m (kind.Method mods t i ps body)))
      (each-method (λ n. pure.as_class n ≡ None) (λ d. refl) (λ w. refl) (λ t. refl) (λ p. refl) (λ s. refl) (map modifier_of mods.items) (option_map type_of t) (word_of i) (map param_of ps.items) (stmts_of body.items)) number

  pub method_no_exp : (m : A) (mods : Mods) (t : Option (TypeRef A)) (i : Ident A) (ps : Params) (body : Body) (number : ℕ) → None ≡ exp_in (member_kind m (kind.Method mods t i ps body)) number
  unfolding member_kind pure.member_children
  method_no_exp m mods t i ps body number =
      none_among pure.as_exp (pure.member_children (member_kind m (kind.Method mods t i ps body)))
      (each-method (λ n. pure.as_exp n ≡ None) (λ d. refl) (λ w. refl) (λ t. refl) (λ p. refl) (λ s. refl) (map modifier_of mods.items) (option_map type_of t) (word_of i) (map param_of ps.items) (stmts_of body.items)) number

  pub ctor_no_class : (m : A) (mods : Mods) (i : Ident A) (ps : Params) (args : Args) (body : Body) (number : ℕ) → None ≡ class_in (member_kind m (kind.Ctor mods i ps args body)) number
  unfolding member_kind pure.member_children
  ctor_no_class m mods i ps args body number =
      none_among pure.as_class (pure.member_children (member_kind m (kind.Ctor mods i ps args body)))
      (each-constructor (λ n. pure.as_class n ≡ None) (λ d. refl) (λ w. refl) (λ p. refl) (λ e. refl) (λ s. refl) (map modifier_of mods.items) (word_of i) (map param_of ps.items) (args_of args) (stmts_of body.items)) number

  pub inner_no_class : (m : A) (c : Class A) (number : ℕ) → (number ≡ 0 → ⊥) → None ≡ class_in (member_kind m (kind.Inner c)) number
  unfolding member_kind pure.member_children
  inner_no_class m c number h = past_one pure.as_class (pure.class (class_of c)) number h

  pub inner_no_stmt : (m : A) (c : Class A) (number : ℕ) → None ≡ stmt_in (member_kind m (kind.Inner c)) number
  unfolding member_kind pure.member_children
  inner_no_stmt m c number = only_one pure.as_stmt (pure.class (class_of c)) number refl

  pub inner_no_exp : (m : A) (c : Class A) (number : ℕ) → None ≡ exp_in (member_kind m (kind.Inner c)) number
  unfolding member_kind pure.member_children
  inner_no_exp m c number = only_one pure.as_exp (pure.class (class_of c)) number refl

  -- where the parts of a constructor and of a method begin
  params_counted : (ps : Params) (n : ℕ) → n ≡ ps.len → n ≡ length (map param_of ps.items)
  params_counted ps n e = e ∙ ps.ok.0 ∙ sym (length-map ps.items param_of)

  pub given_counted : (args : Vec (Expr A) Global) (n : ℕ) → n ≡ args.len → n ≡ length (pure.exps (exprs_of args.items))
  given_counted args n e = e ∙ args.ok.0 ∙ go args.items
    where
      go : (xs : List (Expr A)) → length xs ≡ length (pure.exps (exprs_of xs))
      go [] = refl
      go (x ∷ xs) = ap suc (go xs)

  pub args_placed : (m : A) (mods : Mods) (i : Ident A) (ps : Params) (args : Args) (body : Body) (a c number : ℕ) (x y z : Option ℕ)
      → a ≡ mods.len → c ≡ ps.len → x ≡ left_of a number → y ≡ option_and_then (left_of 1) x → z ≡ option_and_then (left_of c) y
      → z ≡ args_place (member_kind m (kind.Ctor mods i ps args body)) number
  unfolding member_kind
  args_placed m mods i ps args body a c number x y z mods_counted ps_counted first second third =
      left_three a 1 c number x y z first second third
      ∙ ap (λ k. left_of (k + (1 + c)) number) (modifiers_counted mods a mods_counted)
      ∙ ap (λ k. left_of (length (map modifier_of mods.items) + (1 + k)) number) (params_counted ps c ps_counted)

  pub ctor_placed : (m : A) (mods : Mods) (i : Ident A) (ps : Params) (args : Args) (body : Body) (b number : ℕ) (x y : Option ℕ)
      → b ≡ length (pure.args_children (args_of args)) → x ≡ args_place (member_kind m (kind.Ctor mods i ps args body)) number → y ≡ option_and_then (left_of b) x
      → y ≡ body_place (member_kind m (kind.Ctor mods i ps args body)) number
  unfolding member_kind
  ctor_placed m mods i ps args body b number x y counted first second =
      let a = first_parent_arg (map modifier_of mods.items) (map param_of ps.items) in
      left_more a b number x y first second ∙ ap (λ k. left_of (a + k) number) counted

  pub method_placed : (m : A) (mods : Mods) (t : Option (TypeRef A)) (i : Ident A) (ps : Params) (body : Body) (a b c number : ℕ) (x y z : Option ℕ)
      → a ≡ mods.len → b ≡ names_of t → c ≡ ps.len → x ≡ left_of a number → y ≡ option_and_then (left_of b) x → z ≡ option_and_then (left_of c) y
      → z ≡ body_place (member_kind m (kind.Method mods t i ps body)) number
  unfolding member_kind
  method_placed m mods t i ps body a b c number x y z mods_counted names_counted ps_counted first second third =
      let ds = map modifier_of mods.items in
      left_three a b c number x y z first second third
      ∙ ap (λ k. left_of (k + (b + c)) number) (modifiers_counted mods a mods_counted)
      ∙ ap (λ k. left_of (length ds + (k + c)) number) (names_counted ∙ names_mapped t)
      ∙ ap (λ k. left_of (length ds + (names_of (option_map type_of t) + k)) number) (params_counted ps c ps_counted)
      ∙ ap (λ k. left_of k number) (method_first ds (option_map type_of t) (map param_of ps.items))
    where
      names_mapped : (t : Option (TypeRef A)) → names_of t ≡ names_of (option_map type_of t)
      names_mapped None = refl
      names_mapped (Some t) = refl

  -- a statement of a body
  pub method_write : (m : A) (mods : Mods) (t : Option (TypeRef A)) (i : Ident A) (ps : Params) (old new : Body) (place : Option ℕ) (number : ℕ) (w : Stmt A)
      → place ≡ body_place (member_kind m (kind.Method mods t i ps old)) number → stmts_of new.items ≡ with_stmt_left (stmts_of old.items) place (stmt_of w)
      → member_kind m (kind.Method mods t i ps new) ≡ member_with_stmt (member_kind m (kind.Method mods t i ps old)) number (stmt_of w)
  unfolding member_kind member_with_stmt
  method_write m mods t i ps old new place number w placed e =
      let ds = map modifier_of mods.items in
      let ts = option_map type_of t in
      let qs = map param_of ps.items in
      let ss = stmts_of old.items in
      ap (declared.method m ds ts (word_of i) qs) (e ∙ ap (λ p. with_stmt_left ss p (stmt_of w)) placed ∙ stmts_with_left (first_in_method ds ts qs) ss number (stmt_of w))

  pub method_same : (m : A) (mods : Mods) (t : Option (TypeRef A)) (i : Ident A) (ps : Params) (old new : Body) → stmts_of new.items ≡ stmts_of old.items
      → member_kind m (kind.Method mods t i ps new) ≡ member_kind m (kind.Method mods t i ps old)
  unfolding member_kind
  method_same m mods t i ps old new e = ap (declared.method m (map modifier_of mods.items) (option_map type_of t) (word_of i) (map param_of ps.items)) e

  pub method_get : (m : A) (mods : Mods) (t : Option (TypeRef A)) (i : Ident A) (ps : Params) (body : Body) (place : Option ℕ) (number : ℕ)
      → place ≡ body_place (member_kind m (kind.Method mods t i ps body)) number
      → at_place pure.as_stmt (pure.stmts (stmts_of body.items)) place ≡ stmt_in (member_kind m (kind.Method mods t i ps body)) number
  unfolding member_kind pure.member_children
  method_get m mods t i ps body place number placed =
      let ds = map modifier_of mods.items in
      let ts = option_map type_of t in
      let qs = map param_of ps.items in
      let ss = pure.stmts (stmts_of body.items) in
      ap (at_place pure.as_stmt ss) placed ∙ got_left pure.as_stmt (first_in_method ds ts qs) ss number ∙ sym (stmt_in_method ds ts (word_of i) qs (stmts_of body.items) number)

  pub ctor_write : (m : A) (mods : Mods) (i : Ident A) (ps : Params) (args : Args) (old new : Body) (place : Option ℕ) (number : ℕ) (w : Stmt A)
      → place ≡ body_place (member_kind m (kind.Ctor mods i ps args old)) number → stmts_of new.items ≡ with_stmt_left (stmts_of old.items) place (stmt_of w)
      → member_kind m (kind.Ctor mods i ps args new) ≡ member_with_stmt (member_kind m (kind.Ctor mods i ps args old)) number (stmt_of w)
  unfolding member_kind member_with_stmt
  ctor_write m mods i ps args old new place number w placed e =
      let ds = map modifier_of mods.items in
      let qs = map param_of ps.items in
      let ss = stmts_of old.items in
      ap (declared.constructor m ds (word_of i) qs (args_of args))
      (e ∙ ap (λ p. with_stmt_left ss p (stmt_of w)) placed ∙ stmts_with_left (first_in_constructor ds qs (args_of args)) ss number (stmt_of w))

  pub ctor_same : (m : A) (mods : Mods) (i : Ident A) (ps : Params) (args : Args) (old new : Body) → stmts_of new.items ≡ stmts_of old.items
      → member_kind m (kind.Ctor mods i ps args new) ≡ member_kind m (kind.Ctor mods i ps args old)
  unfolding member_kind
  ctor_same m mods i ps args old new e = ap (declared.constructor m (map modifier_of mods.items) (word_of i) (map param_of ps.items) (args_of args)) e

  pub ctor_get : (m : A) (mods : Mods) (i : Ident A) (ps : Params) (args : Args) (body : Body) (place : Option ℕ) (number : ℕ)
      → place ≡ body_place (member_kind m (kind.Ctor mods i ps args body)) number
      → at_place pure.as_stmt (pure.stmts (stmts_of body.items)) place ≡ stmt_in (member_kind m (kind.Ctor mods i ps args body)) number
  unfolding member_kind pure.member_children
  ctor_get m mods i ps args body place number placed =
      let ds = map modifier_of mods.items in
      let qs = map param_of ps.items in
      let ss = pure.stmts (stmts_of body.items) in
      ap (at_place pure.as_stmt ss) placed ∙ got_left pure.as_stmt (first_in_constructor ds qs (args_of args)) ss number
      ∙ sym (stmt_in_constructor ds (word_of i) qs (args_of args) (stmts_of body.items) number)

  -- an argument of a written `super(..)`
  pub args_write : (m : A) (mods : Mods) (i : Ident A) (ps : Params) (old new : Args) (body : Body) (place : Option ℕ) (number : ℕ) (w : Expr A)
      → place ≡ args_place (member_kind m (kind.Ctor mods i ps old body)) number → args_of new ≡ with_arg_left (args_of old) place (expr_of w)
      → member_kind m (kind.Ctor mods i ps new body) ≡ member_with_exp (member_kind m (kind.Ctor mods i ps old body)) number (expr_of w)
  unfolding member_kind member_with_exp
  args_write m mods i ps old new body place number w placed e =
      let ds = map modifier_of mods.items in
      let qs = map param_of ps.items in
      ap (λ es. declared.constructor m ds (word_of i) qs es (stmts_of body.items))
      (e ∙ ap (λ p. with_arg_left (args_of old) p (expr_of w)) placed ∙ args_with_left (first_parent_arg ds qs) (args_of old) number (expr_of w))

  pub args_same : (m : A) (mods : Mods) (i : Ident A) (ps : Params) (old new : Args) (body : Body) → args_of new ≡ args_of old
      → member_kind m (kind.Ctor mods i ps new body) ≡ member_kind m (kind.Ctor mods i ps old body)
  unfolding member_kind
  args_same m mods i ps old new body e = ap (λ es. declared.constructor m (map modifier_of mods.items) (word_of i) (map param_of ps.items) es (stmts_of body.items)) e

  pub args_get : (m : A) (mods : Mods) (i : Ident A) (ps : Params) (args : Args) (body : Body) (place : Option ℕ) (number : ℕ)
      → place ≡ args_place (member_kind m (kind.Ctor mods i ps args body)) number
      → at_place pure.as_exp (pure.args_children (args_of args)) place ≡ exp_in (member_kind m (kind.Ctor mods i ps args body)) number
  unfolding member_kind pure.member_children
  args_get m mods i ps args body place number placed =
      let ds = map modifier_of mods.items in
      let qs = map param_of ps.items in
      let es = pure.args_children (args_of args) in
      ap (at_place pure.as_exp es) placed ∙ got_left pure.as_exp (first_parent_arg ds qs) es number
      ∙ sym (exp_in_constructor ds (word_of i) qs (args_of args) (stmts_of body.items) number)

  -- the initial value of a field
  pub field_write : (m : A) (mods : Mods) (t : TypeRef A) (i : Ident A) (old new : Option (Expr A)) (first number : ℕ) (w : Expr A)
      → first ≡ init_begins (member_kind m (kind.Field mods t i old)) → option_map expr_of new ≡ with_maybe first (option_map expr_of old) number (expr_of w)
      → member_kind m (kind.Field mods t i new) ≡ member_with_exp (member_kind m (kind.Field mods t i old)) number (expr_of w)
  unfolding member_kind member_with_exp
  field_write m mods t i old new first number w begins e =
      ap (declared.field m (map modifier_of mods.items) (type_of t) (word_of i)) (e ∙ ap (λ f. with_maybe f (option_map expr_of old) number (expr_of w)) begins)

  pub field_same : (m : A) (mods : Mods) (t : TypeRef A) (i : Ident A) (old new : Option (Expr A)) → option_map expr_of new ≡ option_map expr_of old
      → member_kind m (kind.Field mods t i new) ≡ member_kind m (kind.Field mods t i old)
  unfolding member_kind
  field_same m mods t i old new e = ap (declared.field m (map modifier_of mods.items) (type_of t) (word_of i)) e

  pub field_get : (m : A) (mods : Mods) (t : TypeRef A) (i : Ident A) (init : Option (Expr A)) (first number : ℕ) → first ≡ init_begins (member_kind m (kind.Field mods t i init))
      → option_and_then pure.as_exp (get_from first (pure.maybe (option_map pure.exp (option_map expr_of init))) number) ≡ exp_in (member_kind m (kind.Field mods t i init)) number
  unfolding member_kind pure.member_children
  field_get m mods t i init first number begins =
      let ds = map modifier_of mods.items in
      let row = pure.maybe (option_map pure.exp (option_map expr_of init)) in
      ap (λ f. got pure.as_exp f row number) begins ∙ sym (exp_in_field ds (type_of t) (word_of i) row number)

  -- a statement of a row
  stmts_get : (xs : List (Stmt A)) (i : ℕ) → slice_get (map stmt_of xs) i ≡ option_and_then pure.as_stmt (slice_get (pure.stmts (stmts_of xs)) i)
  stmts_get [] i = refl
  stmts_get (x ∷ xs) zero = refl
  stmts_get (x ∷ xs) (suc i) = stmts_get xs i

  pub stmt_at_place : (xs : List (Stmt A)) (i : ℕ) (place : Option ℕ) → place ≡ Some i → slice_get (map stmt_of xs) i ≡ at_place pure.as_stmt (pure.stmts (stmts_of xs)) place
  stmt_at_place xs i place e = stmts_get xs i ∙ sym (ap (at_place pure.as_stmt (pure.stmts (stmts_of xs))) e)

  exps_get : (xs : List (Expr A)) (i : ℕ) → slice_get (map expr_of xs) i ≡ option_and_then pure.as_exp (slice_get (pure.exps (exprs_of xs)) i)
  exps_get [] i = refl
  exps_get (x ∷ xs) zero = refl
  exps_get (x ∷ xs) (suc i) = exps_get xs i

  pub arg_at_place : (args : Args) (v : Vec (Expr A) Global) (i : ℕ) (place : Option ℕ) → args ≡ Some v → place ≡ Some i
      → slice_get (map expr_of v.items) i ≡ at_place pure.as_exp (pure.args_children (args_of args)) place
  arg_at_place args v i place is placed =
      exps_get v.items i ∙ sym (ap (at_place pure.as_exp (pure.exps (exprs_of v.items))) placed) ∙ sym (ap (λ a. at_place pure.as_exp (pure.args_children (args_of a)) place) is)

  pub arg_set : (args : Args) (v new : Vec (Expr A) Global) (i : ℕ) (place : Option ℕ) (w : Expr A) → args ≡ Some v → place ≡ Some i
      → exprs_of new.items ≡ with_exp_among (exprs_of v.items) i (expr_of w) → Some (exprs_of new.items) ≡ with_arg_left (args_of args) place (expr_of w)
  arg_set args v new i place w is placed e =
      ap Some e ∙ sym (ap (λ p. with_arg_left (Some (exprs_of v.items)) p (expr_of w)) placed) ∙ sym (ap (λ a. with_arg_left (args_of a) place (expr_of w)) is)

  -- an initial value that may be missing
  pub init_none : (init : Option (Expr A)) (first number : ℕ) → (number ≡ first → ⊥)
      → None ≡ option_and_then pure.as_exp (get_from first (pure.maybe (option_map pure.exp (option_map expr_of init))) number)
  init_none None first number h = sym (got-nil pure.as_exp first number)
  init_none (Some x) zero zero h = absurd (h refl)
  init_none (Some x) zero (suc number) h = refl
  init_none (Some x) (suc first) zero h = refl
  init_none (Some x) (suc first) (suc number) h = init_none (Some x) first number (λ e. h (ap suc e))

  init_at : (init : Option (Expr A)) (first : ℕ) → option_map expr_of init ≡ option_and_then pure.as_exp (get_from first (pure.maybe (option_map pure.exp (option_map expr_of init))) first)
  init_at None first = sym (got-nil pure.as_exp first first)
  init_at (Some x) zero = refl
  init_at (Some x) (suc first) = init_at (Some x) first

  pub init_get : (init : Option (Expr A)) (first number : ℕ) → number ≡ first
      → option_map expr_of init ≡ option_and_then pure.as_exp (get_from first (pure.maybe (option_map pure.exp (option_map expr_of init))) number)
  init_get init first number h = init_at init first ∙ sym (ap (λ i. option_and_then pure.as_exp (get_from first (pure.maybe (option_map pure.exp (option_map expr_of init))) i)) h)

  with_init : (init : Option (tree.Exp A)) (first : ℕ) (x : tree.Exp A) → option_map (λ (e : tree.Exp A). x) init ≡ with_maybe first init first x
  with_init None first x = refl
  with_init (Some e) zero x = refl
  with_init (Some e) (suc first) x = with_init (Some e) first x

  pub init_set : (init new : Option (Expr A)) (first number : ℕ) (w : Expr A) → number ≡ first → option_map expr_of new ≡ option_map (λ (x : Expr A). expr_of w) init
      → option_map expr_of new ≡ with_maybe first (option_map expr_of init) number (expr_of w)
  init_set init new first number w h e =
      e ∙ mapped init ∙ with_init (option_map expr_of init) first (expr_of w) ∙ sym (ap (λ i. with_maybe first (option_map expr_of init) i (expr_of w)) h)
    where
      mapped : (init : Option (Expr A)) → option_map (λ (x : Expr A). expr_of w) init ≡ option_map (λ (e : tree.Exp A). expr_of w) (option_map expr_of init)
      mapped None = refl
      mapped (Some x) = refl
