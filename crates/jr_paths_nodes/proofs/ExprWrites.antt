-- Expressions whose parts are replaced.
use Rattle.std.proofs.Common.{◌≡◌, Bool, ℕ, zero, suc, List, [], ◌∷◌, Option, Some, None, Vec, Global, option_map, option_and_then, map, refl, sym, ap, ◌∙◌}
use Rattle.std.specs.List.{slice_get}
use Rattle.std.specs.declared.boxed.Box.{Box}
use Rattle.jr_ast.specs.declared.names.Ident.{Ident}
use Rattle.jr_ast.specs.declared.operators.UnOp.{UnOp}
use Rattle.jr_ast.specs.declared.operators.BinOp.{BinOp}
use Rattle.jr_ast.specs.declared.operators.BumpOp.{BumpOp}
use Rattle.jr_ast.specs.declared.parts.TypeRef.{TypeRef}
use Rattle.jr_ast.specs.declared.exprs.Expr.{Expr}
use Rattle.jr_ast.specs.declared.exprs.ExprKind as expr
use Rattle.jr_ast.specs.Tree as tree
use Rattle.jr_ast.specs.Nodes as pure
use Rattle.jr_ast.specs.View.{word_of, type_of, expr_of, expr_kind, exprs_of}
use Rattle.jr_paths_nodes.specs.With.{get_from, with_exp, with_exp_from, with_target, first_argument, arguments_begin}
use Rattle.jr_ast.proofs.Rows.{expr_kind-Call, expr_kind-Call_on, expr_kind-SuperCall, expr_kind-New}

abbrev Held : Type 0 → Type 0
Held A = Option (Box (Expr A) Global)

module _ {A : Type 0} where
  abbrev pub exp_in : tree.Exp A → ℕ → Option (tree.Exp A)
  exp_in e number = option_and_then pure.as_exp (slice_get (pure.exp_children e) number)

  abbrev held_of : Held A → tree.Target A
  held_of None = tree.no_target
  held_of (Some b) = tree.on (expr_of b.value)

  call_is : (m : A) (h : Held A) (i : Ident A) (args : Vec (Expr A) Global) → expr_kind m (expr.Call h i args) ≡ tree.call m (held_of h) (word_of i) (exprs_of args.items)
  call_is m None i args = expr_kind-Call A m i args
  call_is m (Some b) i args = expr_kind-Call_on A m b i args

  target_set : (old new : Held A) (w : Expr A) → option_map (λ (b : Box (Expr A) Global). expr_of b.value) new ≡ option_map (λ (b : Box (Expr A) Global). expr_of w) old
      → held_of new ≡ with_target (held_of old) 0 (expr_of w)
  target_set None None w e = refl
  target_set None (Some b) w e = absurd (cc e)
  target_set (Some b) None w e = absurd (cc e)
  target_set (Some b) (Some n) w e = ap tree.on (cc e)

  args_keep : (to : tree.Target A) (args : tree.Exps A) (x : tree.Exp A) → args ≡ with_exp_from (first_argument to) args 0 x
  args_keep tree.no_target args x = refl
  args_keep (tree.on e) args x = refl

  target_keep : (to : tree.Target A) (number : ℕ) (x : tree.Exp A) → (number ≡ 0 → ⊥) → to ≡ with_target to number x
  target_keep tree.no_target number x h = refl
  target_keep (tree.on e) zero x h = absurd (h refl)
  target_keep (tree.on e) (suc number) x h = refl

  -- what a call is made on
  pub held_writes : (m : A) (old new : Held A) (i : Ident A) (args : Vec (Expr A) Global) (w : Expr A) (number : ℕ) → number ≡ 0
      → option_map (λ (b : Box (Expr A) Global). expr_of b.value) new ≡ option_map (λ (b : Box (Expr A) Global). expr_of w) old
      → expr_kind m (expr.Call new i args) ≡ with_exp (expr_kind m (expr.Call old i args)) number (expr_of w)
  unfolding with_exp
  held_writes m old new i args w number is e =
      let x = expr_of w in
      call_is m new i args
      ∙ ap (λ t. tree.call m t (word_of i) (exprs_of args.items)) (target_set old new w e)
      ∙ ap (tree.call m (with_target (held_of old) 0 x) (word_of i)) (args_keep (held_of old) (exprs_of args.items) x)
      ∙ sym (ap (λ n. with_exp (expr_kind m (expr.Call old i args)) n x) is ∙ ap (λ t. with_exp t 0 x) (call_is m old i args))

  -- an argument of a call
  pub args_write : (m : A) (h : Held A) (i : Ident A) (old new : Vec (Expr A) Global) (first number : ℕ) (w : Expr A) → (number ≡ 0 → ⊥)
      → first ≡ arguments_begin (expr_kind m (expr.Call h i old)) → exprs_of new.items ≡ with_exp_from first (exprs_of old.items) number (expr_of w)
      → expr_kind m (expr.Call h i new) ≡ with_exp (expr_kind m (expr.Call h i old)) number (expr_of w)
  unfolding with_exp
  args_write m h i old new first number w past begins e =
      let x = expr_of w in
      let place : first ≡ first_argument (held_of h) = begins ∙ ap arguments_begin (call_is m h i old) in
      call_is m h i new
      ∙ ap (tree.call m (held_of h) (word_of i)) (e ∙ ap (λ f. with_exp_from f (exprs_of old.items) number x) place)
      ∙ ap (λ t. tree.call m t (word_of i) (with_exp_from (first_argument (held_of h)) (exprs_of old.items) number x)) (target_keep (held_of h) number x past)
      ∙ sym (ap (λ t. with_exp t number x) (call_is m h i old))

  pub args_same : (m : A) (h : Held A) (i : Ident A) (old new : Vec (Expr A) Global) → new.items ≡ old.items → expr_kind m (expr.Call h i new) ≡ expr_kind m (expr.Call h i old)
  args_same m h i old new e = call_is m h i new ∙ ap (λ xs. tree.call m (held_of h) (word_of i) (exprs_of xs)) e ∙ sym (call_is m h i old)

  exps_get : (xs : List (Expr A)) (i : ℕ) → slice_get (map expr_of xs) i ≡ option_and_then pure.as_exp (slice_get (pure.exps (exprs_of xs)) i)
  exps_get [] i = refl
  exps_get (x ∷ xs) zero = refl
  exps_get (x ∷ xs) (suc i) = exps_get xs i

  pub held_get : (m : A) (h : Held A) (i : Ident A) (args : Vec (Expr A) Global) (number : ℕ) → number ≡ 0
      → option_map (λ (b : Box (Expr A) Global). expr_of b.value) h ≡ exp_in (expr_kind m (expr.Call h i args)) number
  unfolding pure.exp_children
  held_get m None i args number is = sym (ap (exp_in (expr_kind m (expr.Call None i args))) is ∙ ap (λ e. exp_in e 0) (call_is m None i args))
  held_get m (Some b) i args number is = sym (ap (exp_in (expr_kind m (expr.Call (Some b) i args))) is ∙ ap (λ e. exp_in e 0) (call_is m (Some b) i args))

  call_get : (m : A) (i : tree.Word A) (to : tree.Target A) (xs : List (Expr A)) (number : ℕ) → (number ≡ 0 → ⊥)
      → get_from (first_argument to) (map expr_of xs) number ≡ exp_in (tree.call m to i (exprs_of xs)) number
  unfolding pure.exp_children
  call_get m i to xs zero past = absurd (past refl)
  call_get m i tree.no_target xs (suc number) past = exps_get xs number
  call_get m i (tree.on e) xs (suc zero) past = refl
  call_get m i (tree.on e) xs (suc (suc number)) past = exps_get xs number

  pub args_get : (m : A) (h : Held A) (i : Ident A) (args : Vec (Expr A) Global) (first number : ℕ) → (number ≡ 0 → ⊥)
      → first ≡ arguments_begin (expr_kind m (expr.Call h i args)) → get_from first (map expr_of args.items) number ≡ exp_in (expr_kind m (expr.Call h i args)) number
  args_get m h i args first number past begins =
      let same : first ≡ first_argument (held_of h) = begins ∙ ap arguments_begin (call_is m h i args) in
      ap (λ f. get_from f (map expr_of args.items) number) same
      ∙ call_get m (word_of i) (held_of h) args.items number past
      ∙ sym (ap (λ e. exp_in e number) (call_is m h i args))

  -- behind a first child that is no expression
  behind : (x : pure.Node A) (xs : List (Expr A)) (number : ℕ) → pure.as_exp x ≡ None
      → get_from 1 (map expr_of xs) number ≡ option_and_then pure.as_exp (slice_get (x ∷ pure.exps (exprs_of xs)) number)
  behind x xs zero h = sym h
  behind x xs (suc number) h = exps_get xs number

  pub super_get : (m : A) (i : Ident A) (args : Vec (Expr A) Global) (number : ℕ) → get_from 1 (map expr_of args.items) number ≡ exp_in (expr_kind m (expr.SuperCall i args)) number
  unfolding pure.exp_children
  super_get m i args number = behind (pure.word (word_of i)) args.items number refl ∙ sym (ap (λ e. exp_in e number) (expr_kind-SuperCall A m i args))

  pub new_get : (m : A) (t : Box (TypeRef A) Global) (args : Vec (Expr A) Global) (number : ℕ) → get_from 1 (map expr_of args.items) number ≡ exp_in (expr_kind m (expr.New t args)) number
  unfolding pure.exp_children
  new_get m t args number = behind (pure.type (type_of t.value)) args.items number refl ∙ sym (ap (λ e. exp_in e number) (expr_kind-New A m t args))

  pub super_write : (m : A) (i : Ident A) (old new : Vec (Expr A) Global) (number : ℕ) (w : Expr A) → exprs_of new.items ≡ with_exp_from 1 (exprs_of old.items) number (expr_of w)
      → expr_kind m (expr.SuperCall i new) ≡ with_exp (expr_kind m (expr.SuperCall i old)) number (expr_of w)
  unfolding with_exp
  super_write m i old new number w e =
      expr_kind-SuperCall A m i new ∙ ap (tree.super_call m (word_of i)) e ∙ sym (ap (λ t. with_exp t number (expr_of w)) (expr_kind-SuperCall A m i old))

  pub super_same : (m : A) (i : Ident A) (old new : Vec (Expr A) Global) → new.items ≡ old.items → expr_kind m (expr.SuperCall i new) ≡ expr_kind m (expr.SuperCall i old)
  super_same m i old new e = expr_kind-SuperCall A m i new ∙ ap (λ xs. tree.super_call m (word_of i) (exprs_of xs)) e ∙ sym (expr_kind-SuperCall A m i old)

  pub new_write : (m : A) (t : Box (TypeRef A) Global) (old new : Vec (Expr A) Global) (number : ℕ) (w : Expr A) → exprs_of new.items ≡ with_exp_from 1 (exprs_of old.items) number (expr_of w)
      → expr_kind m (expr.New t new) ≡ with_exp (expr_kind m (expr.New t old)) number (expr_of w)
  unfolding with_exp
  new_write m t old new number w e =
      expr_kind-New A m t new ∙ ap (tree.create m (type_of t.value)) e ∙ sym (ap (λ k. with_exp k number (expr_of w)) (expr_kind-New A m t old))

  pub new_same : (m : A) (t : Box (TypeRef A) Global) (old new : Vec (Expr A) Global) → new.items ≡ old.items → expr_kind m (expr.New t new) ≡ expr_kind m (expr.New t old)
  new_same m t old new e = expr_kind-New A m t new ∙ ap (λ xs. tree.create m (type_of t.value) (exprs_of xs)) e ∙ sym (expr_kind-New A m t old)

  -- one expression in a box
  pub field_of : (m : A) (b new : Box (Expr A) Global) (i : Ident A) (number : ℕ) → number ≡ 0 → expr_kind m (expr.Field new i) ≡ with_exp (expr_kind m (expr.Field b i)) number (expr_of new.value)
  unfolding expr_kind with_exp
  field_of m b new i number is = sym (ap (λ n. with_exp (expr_kind m (expr.Field b i)) n (expr_of new.value)) is)

  pub field_of_get : (m : A) (b : Box (Expr A) Global) (i : Ident A) (number : ℕ) → number ≡ 0 → Some (expr_of b.value) ≡ exp_in (expr_kind m (expr.Field b i)) number
  unfolding expr_kind pure.exp_children
  field_of_get m b i number is = sym (ap (exp_in (expr_kind m (expr.Field b i))) is)

  pub paren_of : (m : A) (b new : Box (Expr A) Global) (number : ℕ) → number ≡ 0 → expr_kind m (expr.Paren new) ≡ with_exp (expr_kind m (expr.Paren b)) number (expr_of new.value)
  unfolding expr_kind with_exp
  paren_of m b new number is = sym (ap (λ n. with_exp (expr_kind m (expr.Paren b)) n (expr_of new.value)) is)

  pub paren_of_get : (m : A) (b : Box (Expr A) Global) (number : ℕ) → number ≡ 0 → Some (expr_of b.value) ≡ exp_in (expr_kind m (expr.Paren b)) number
  unfolding expr_kind pure.exp_children
  paren_of_get m b number is = sym (ap (exp_in (expr_kind m (expr.Paren b))) is)

  pub cast_of : (m : A) (t : Box (TypeRef A) Global) (b new : Box (Expr A) Global) (number : ℕ) → number ≡ 1 → expr_kind m (expr.Cast t new) ≡ with_exp (expr_kind m (expr.Cast t b)) number (expr_of new.value)
  unfolding expr_kind with_exp
  cast_of m t b new number is = sym (ap (λ n. with_exp (expr_kind m (expr.Cast t b)) n (expr_of new.value)) is)

  pub cast_of_get : (m : A) (t : Box (TypeRef A) Global) (b : Box (Expr A) Global) (number : ℕ) → number ≡ 1 → Some (expr_of b.value) ≡ exp_in (expr_kind m (expr.Cast t b)) number
  unfolding expr_kind pure.exp_children
  cast_of_get m t b number is = sym (ap (exp_in (expr_kind m (expr.Cast t b))) is)

  pub unary_of : (m : A) (op : UnOp) (b new : Box (Expr A) Global) (number : ℕ) → number ≡ 0 → expr_kind m (expr.Unary op new) ≡ with_exp (expr_kind m (expr.Unary op b)) number (expr_of new.value)
  unfolding expr_kind with_exp
  unary_of m op b new number is = sym (ap (λ n. with_exp (expr_kind m (expr.Unary op b)) n (expr_of new.value)) is)

  pub unary_of_get : (m : A) (op : UnOp) (b : Box (Expr A) Global) (number : ℕ) → number ≡ 0 → Some (expr_of b.value) ≡ exp_in (expr_kind m (expr.Unary op b)) number
  unfolding expr_kind pure.exp_children
  unary_of_get m op b number is = sym (ap (exp_in (expr_kind m (expr.Unary op b))) is)

  pub bump_of : (m : A) (op : BumpOp) (b new : Box (Expr A) Global) (number : ℕ) → number ≡ 0 → expr_kind m (expr.Bump op new) ≡ with_exp (expr_kind m (expr.Bump op b)) number (expr_of new.value)
  unfolding expr_kind with_exp
  bump_of m op b new number is = sym (ap (λ n. with_exp (expr_kind m (expr.Bump op b)) n (expr_of new.value)) is)

  pub bump_of_get : (m : A) (op : BumpOp) (b : Box (Expr A) Global) (number : ℕ) → number ≡ 0 → Some (expr_of b.value) ≡ exp_in (expr_kind m (expr.Bump op b)) number
  unfolding expr_kind pure.exp_children
  bump_of_get m op b number is = sym (ap (exp_in (expr_kind m (expr.Bump op b))) is)

  pub binary_left : (m : A) (op : BinOp) (b new : Box (Expr A) Global) (c : Box (Expr A) Global) (number : ℕ) → number ≡ 0 → expr_kind m (expr.Binary op new c) ≡ with_exp (expr_kind m (expr.Binary op b c)) number (expr_of new.value)
  unfolding expr_kind with_exp
  binary_left m op b new c number is = sym (ap (λ n. with_exp (expr_kind m (expr.Binary op b c)) n (expr_of new.value)) is)

  pub binary_left_get : (m : A) (op : BinOp) (b : Box (Expr A) Global) (c : Box (Expr A) Global) (number : ℕ) → number ≡ 0 → Some (expr_of b.value) ≡ exp_in (expr_kind m (expr.Binary op b c)) number
  unfolding expr_kind pure.exp_children
  binary_left_get m op b c number is = sym (ap (exp_in (expr_kind m (expr.Binary op b c))) is)

  pub binary_right : (m : A) (op : BinOp) (b : Box (Expr A) Global) (c new : Box (Expr A) Global) (number : ℕ) → number ≡ 1 → expr_kind m (expr.Binary op b new) ≡ with_exp (expr_kind m (expr.Binary op b c)) number (expr_of new.value)
  unfolding expr_kind with_exp
  binary_right m op b c new number is = sym (ap (λ n. with_exp (expr_kind m (expr.Binary op b c)) n (expr_of new.value)) is)

  pub binary_right_get : (m : A) (op : BinOp) (b : Box (Expr A) Global) (c : Box (Expr A) Global) (number : ℕ) → number ≡ 1 → Some (expr_of c.value) ≡ exp_in (expr_kind m (expr.Binary op b c)) number
  unfolding expr_kind pure.exp_children
  binary_right_get m op b c number is = sym (ap (exp_in (expr_kind m (expr.Binary op b c))) is)

  pub assign_to : (m : A) (b new : Box (Expr A) Global) (c : Box (Expr A) Global) (number : ℕ) → number ≡ 0 → expr_kind m (expr.Assign new c) ≡ with_exp (expr_kind m (expr.Assign b c)) number (expr_of new.value)
  unfolding expr_kind with_exp
  assign_to m b new c number is = sym (ap (λ n. with_exp (expr_kind m (expr.Assign b c)) n (expr_of new.value)) is)

  pub assign_to_get : (m : A) (b : Box (Expr A) Global) (c : Box (Expr A) Global) (number : ℕ) → number ≡ 0 → Some (expr_of b.value) ≡ exp_in (expr_kind m (expr.Assign b c)) number
  unfolding expr_kind pure.exp_children
  assign_to_get m b c number is = sym (ap (exp_in (expr_kind m (expr.Assign b c))) is)

  pub assign_value : (m : A) (b : Box (Expr A) Global) (c new : Box (Expr A) Global) (number : ℕ) → number ≡ 1 → expr_kind m (expr.Assign b new) ≡ with_exp (expr_kind m (expr.Assign b c)) number (expr_of new.value)
  unfolding expr_kind with_exp
  assign_value m b c new number is = sym (ap (λ n. with_exp (expr_kind m (expr.Assign b c)) n (expr_of new.value)) is)

  pub assign_value_get : (m : A) (b : Box (Expr A) Global) (c : Box (Expr A) Global) (number : ℕ) → number ≡ 1 → Some (expr_of c.value) ≡ exp_in (expr_kind m (expr.Assign b c)) number
  unfolding expr_kind pure.exp_children
  assign_value_get m b c number is = sym (ap (exp_in (expr_kind m (expr.Assign b c))) is)

  pub compound_to : (m : A) (op : BinOp) (b new : Box (Expr A) Global) (c : Box (Expr A) Global) (number : ℕ) → number ≡ 0 → expr_kind m (expr.Compound op new c) ≡ with_exp (expr_kind m (expr.Compound op b c)) number (expr_of new.value)
  unfolding expr_kind with_exp
  compound_to m op b new c number is = sym (ap (λ n. with_exp (expr_kind m (expr.Compound op b c)) n (expr_of new.value)) is)

  pub compound_to_get : (m : A) (op : BinOp) (b : Box (Expr A) Global) (c : Box (Expr A) Global) (number : ℕ) → number ≡ 0 → Some (expr_of b.value) ≡ exp_in (expr_kind m (expr.Compound op b c)) number
  unfolding expr_kind pure.exp_children
  compound_to_get m op b c number is = sym (ap (exp_in (expr_kind m (expr.Compound op b c))) is)

  pub compound_value : (m : A) (op : BinOp) (b : Box (Expr A) Global) (c new : Box (Expr A) Global) (number : ℕ) → number ≡ 1 → expr_kind m (expr.Compound op b new) ≡ with_exp (expr_kind m (expr.Compound op b c)) number (expr_of new.value)
  unfolding expr_kind with_exp
  compound_value m op b c new number is = sym (ap (λ n. with_exp (expr_kind m (expr.Compound op b c)) n (expr_of new.value)) is)

  pub compound_value_get : (m : A) (op : BinOp) (b : Box (Expr A) Global) (c : Box (Expr A) Global) (number : ℕ) → number ≡ 1 → Some (expr_of c.value) ≡ exp_in (expr_kind m (expr.Compound op b c)) number
  unfolding expr_kind pure.exp_children
  compound_value_get m op b c number is = sym (ap (exp_in (expr_kind m (expr.Compound op b c))) is)

  -- no child of these numbers
  pub field_none : (m : A) (b : Box (Expr A) Global) (i : Ident A) (number : ℕ) → (number ≡ 0 → ⊥) → None ≡ exp_in (expr_kind m (expr.Field b i)) number
  unfolding expr_kind pure.exp_children
  field_none m b i zero h = absurd (h refl)
  field_none m b i (suc zero) h = refl
  field_none m b i (suc (suc number)) h = refl

  pub paren_none : (m : A) (b : Box (Expr A) Global) (number : ℕ) → (number ≡ 0 → ⊥) → None ≡ exp_in (expr_kind m (expr.Paren b)) number
  unfolding expr_kind pure.exp_children
  paren_none m b zero h = absurd (h refl)
  paren_none m b (suc number) h = refl

  pub cast_none : (m : A) (t : Box (TypeRef A) Global) (b : Box (Expr A) Global) (number : ℕ) → (number ≡ 1 → ⊥) → None ≡ exp_in (expr_kind m (expr.Cast t b)) number
  unfolding expr_kind pure.exp_children
  cast_none m t b zero h = refl
  cast_none m t b (suc zero) h = absurd (h refl)
  cast_none m t b (suc (suc number)) h = refl

  pub unary_none : (m : A) (op : UnOp) (b : Box (Expr A) Global) (number : ℕ) → (number ≡ 0 → ⊥) → None ≡ exp_in (expr_kind m (expr.Unary op b)) number
  unfolding expr_kind pure.exp_children
  unary_none m op b zero h = absurd (h refl)
  unary_none m op b (suc number) h = refl

  pub bump_none : (m : A) (op : BumpOp) (b : Box (Expr A) Global) (number : ℕ) → (number ≡ 0 → ⊥) → None ≡ exp_in (expr_kind m (expr.Bump op b)) number
  unfolding expr_kind pure.exp_children
  bump_none m op b zero h = absurd (h refl)
  bump_none m op b (suc number) h = refl

  pub binary_none : (m : A) (op : BinOp) (b : Box (Expr A) Global) (c : Box (Expr A) Global) (number : ℕ) → (number ≡ 0 → ⊥) → (number ≡ 1 → ⊥) → None ≡ exp_in (expr_kind m (expr.Binary op b c)) number
  unfolding expr_kind pure.exp_children
  binary_none m op b c zero h k = absurd (h refl)
  binary_none m op b c (suc zero) h k = absurd (k refl)
  binary_none m op b c (suc (suc number)) h k = refl

  pub assign_none : (m : A) (b : Box (Expr A) Global) (c : Box (Expr A) Global) (number : ℕ) → (number ≡ 0 → ⊥) → (number ≡ 1 → ⊥) → None ≡ exp_in (expr_kind m (expr.Assign b c)) number
  unfolding expr_kind pure.exp_children
  assign_none m b c zero h k = absurd (h refl)
  assign_none m b c (suc zero) h k = absurd (k refl)
  assign_none m b c (suc (suc number)) h k = refl

  pub compound_none : (m : A) (op : BinOp) (b : Box (Expr A) Global) (c : Box (Expr A) Global) (number : ℕ) → (number ≡ 0 → ⊥) → (number ≡ 1 → ⊥) → None ≡ exp_in (expr_kind m (expr.Compound op b c)) number
  unfolding expr_kind pure.exp_children
  compound_none m op b c zero h k = absurd (h refl)
  compound_none m op b c (suc zero) h k = absurd (k refl)
  compound_none m op b c (suc (suc number)) h k = refl

  pub number_none : (m : A) (n : ℕ) (number : ℕ) → None ≡ exp_in (expr_kind m (expr.Int n)) number
  unfolding expr_kind pure.exp_children
  number_none m n number = refl

  pub truth_none : (m : A) (b : Bool) (number : ℕ) → None ≡ exp_in (expr_kind m (expr.Bool b)) number
  unfolding expr_kind pure.exp_children
  truth_none m b number = refl

  pub null_none : (m : A) (number : ℕ) → None ≡ exp_in (expr_kind m expr.Null) number
  unfolding expr_kind pure.exp_children
  null_none m number = refl

  pub text_none : (m : A) (n : List ℕ) (number : ℕ) → None ≡ exp_in (expr_kind m (expr.Text n)) number
  unfolding expr_kind pure.exp_children
  text_none m n number = refl

  pub this_none : (m : A) (number : ℕ) → None ≡ exp_in (expr_kind m expr.This) number
  unfolding expr_kind pure.exp_children
  this_none m number = refl

  pub simple_none : (m : A) (i : Ident A) (number : ℕ) → None ≡ exp_in (expr_kind m (expr.Simple i)) number
  unfolding expr_kind pure.exp_children
  simple_none m i zero = refl
  simple_none m i (suc number) = refl

  pub super_field_none : (m : A) (i : Ident A) (number : ℕ) → None ≡ exp_in (expr_kind m (expr.SuperField i)) number
  unfolding expr_kind pure.exp_children
  super_field_none m i zero = refl
  super_field_none m i (suc number) = refl

  pub class_lit_none : (m : A) (t : TypeRef A) (number : ℕ) → None ≡ exp_in (expr_kind m (expr.ClassLit t)) number
  unfolding expr_kind pure.exp_children
  class_lit_none m t zero = refl
  class_lit_none m t (suc number) = refl
