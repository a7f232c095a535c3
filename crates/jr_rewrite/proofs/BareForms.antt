-- Which trees have a tree as their bare one.
use Rattle.std.proofs.Common.{◌≡◌, ℕ, Bool, List, Option, Some, None, refl}
use Rattle.std.specs.Prelude.{option_map}
use Rattle.jr_ast.specs.declared.operators.UnOp.{UnOp}
use Rattle.jr_ast.specs.declared.operators.BinOp.{BinOp}
use Rattle.jr_ast.specs.declared.operators.BumpOp.{BumpOp}
use Rattle.jr_ast.specs.Tree as tree
use Rattle.jr_ast.specs.StatementTree as statement
use Rattle.jr_ast.specs.Remarked.{map_exp, map_exps, map_target, map_stmt, map_else, map_stmts}
use Rattle.jr_grammar.specs.Bare.{Bare, no_mark, bare, bare_word, bare_type, bare_target, bare_args, bare_stmt, bare_stmts}

abbrev pub bare_else : {A : Type 0} → statement.Else A → statement.Else Bare
bare_else = map_else no_mark

abbrev pub bare_maybe : {A : Type 0} → Option (tree.Exp A) → Option (tree.Exp Bare)
bare_maybe = option_map bare

module _ {D : Type 0} where
  -- ---- expressions

  pub number_back : (y : tree.Exp D) (n : ℕ) → bare y ≡ tree.number tt n → (k : D) × (y ≡ tree.number k n)
  unfolding map_exp map_exps map_target
  number_back (tree.number k n') n q = (let q_n : n' ≡ n = cc in (k, (λ i. tree.number k (q_n i))))
  number_back _ n q = absurd cc

  pub truth_back : (y : tree.Exp D) (b : Bool) → bare y ≡ tree.truth tt b → (k : D) × (y ≡ tree.truth k b)
  unfolding map_exp map_exps map_target
  truth_back (tree.truth k b') b q = (let q_b : b' ≡ b = cc in (k, (λ i. tree.truth k (q_b i))))
  truth_back _ b q = absurd cc

  pub null_back : (y : tree.Exp D) → bare y ≡ tree.null tt → (k : D) × (y ≡ tree.null k)
  unfolding map_exp map_exps map_target
  null_back (tree.null k) q = (k, refl)
  null_back _ q = absurd cc

  pub string_back : (y : tree.Exp D) (s : List ℕ) → bare y ≡ tree.string tt s → (k : D) × (y ≡ tree.string k s)
  unfolding map_exp map_exps map_target
  string_back (tree.string k s') s q = (let q_s : s' ≡ s = cc in (k, (λ i. tree.string k (q_s i))))
  string_back _ s q = absurd cc

  pub name_back : (y : tree.Exp D) (w : tree.Word Bare) → bare y ≡ tree.name tt w → (k : D) × (w' : tree.Word D) × (y ≡ tree.name k w') × (bare_word w' ≡ w)
  unfolding map_exp map_exps map_target
  name_back (tree.name k w') w q = (let q_w : bare_word w' ≡ w = cc in (k, w', refl, q_w))
  name_back _ w q = absurd cc

  pub field_back : (y : tree.Exp D) (e : tree.Exp Bare) (w : tree.Word Bare) → bare y ≡ tree.field tt e w → (k : D) × (e' : tree.Exp D) × (w' : tree.Word D) × (y ≡ tree.field k e' w') × (bare e' ≡ e) × (bare_word w' ≡ w)
  unfolding map_exp map_exps map_target
  field_back (tree.field k e' w') e w q = (let q_e : bare e' ≡ e = cc in let q_w : bare_word w' ≡ w = cc in (k, e', w', refl, q_e, q_w))
  field_back _ e w q = absurd cc

  pub super_field_back : (y : tree.Exp D) (w : tree.Word Bare) → bare y ≡ tree.super_field tt w → (k : D) × (w' : tree.Word D) × (y ≡ tree.super_field k w') × (bare_word w' ≡ w)
  unfolding map_exp map_exps map_target
  super_field_back (tree.super_field k w') w q = (let q_w : bare_word w' ≡ w = cc in (k, w', refl, q_w))
  super_field_back _ w q = absurd cc

  pub this_back : (y : tree.Exp D) → bare y ≡ tree.this tt → (k : D) × (y ≡ tree.this k)
  unfolding map_exp map_exps map_target
  this_back (tree.this k) q = (k, refl)
  this_back _ q = absurd cc

  pub class_literal_back : (y : tree.Exp D) (t : tree.TypeName Bare) → bare y ≡ tree.class_literal tt t → (k : D) × (t' : tree.TypeName D) × (y ≡ tree.class_literal k t') × (bare_type t' ≡ t)
  unfolding map_exp map_exps map_target
  class_literal_back (tree.class_literal k t') t q = (let q_t : bare_type t' ≡ t = cc in (k, t', refl, q_t))
  class_literal_back _ t q = absurd cc

  pub call_back : (y : tree.Exp D) (to : tree.Target Bare) (w : tree.Word Bare) (es : tree.Exps Bare) → bare y ≡ tree.call tt to w es → (k : D) × (to' : tree.Target D) × (w' : tree.Word D) × (es' : tree.Exps D) × (y ≡ tree.call k to' w' es') × (bare_target to' ≡ to) × (bare_word w' ≡ w) × (bare_args es' ≡ es)
  unfolding map_exp map_exps map_target
  call_back (tree.call k to' w' es') to w es q = (let q_to : bare_target to' ≡ to = cc in let q_w : bare_word w' ≡ w = cc in let q_es : bare_args es' ≡ es = cc in (k, to', w', es', refl, q_to, q_w, q_es))
  call_back _ to w es q = absurd cc

  pub super_call_back : (y : tree.Exp D) (w : tree.Word Bare) (es : tree.Exps Bare) → bare y ≡ tree.super_call tt w es → (k : D) × (w' : tree.Word D) × (es' : tree.Exps D) × (y ≡ tree.super_call k w' es') × (bare_word w' ≡ w) × (bare_args es' ≡ es)
  unfolding map_exp map_exps map_target
  super_call_back (tree.super_call k w' es') w es q = (let q_w : bare_word w' ≡ w = cc in let q_es : bare_args es' ≡ es = cc in (k, w', es', refl, q_w, q_es))
  super_call_back _ w es q = absurd cc

  pub create_back : (y : tree.Exp D) (t : tree.TypeName Bare) (es : tree.Exps Bare) → bare y ≡ tree.create tt t es → (k : D) × (t' : tree.TypeName D) × (es' : tree.Exps D) × (y ≡ tree.create k t' es') × (bare_type t' ≡ t) × (bare_args es' ≡ es)
  unfolding map_exp map_exps map_target
  create_back (tree.create k t' es') t es q = (let q_t : bare_type t' ≡ t = cc in let q_es : bare_args es' ≡ es = cc in (k, t', es', refl, q_t, q_es))
  create_back _ t es q = absurd cc

  pub paren_back : (y : tree.Exp D) (e : tree.Exp Bare) → bare y ≡ tree.paren tt e → (k : D) × (e' : tree.Exp D) × (y ≡ tree.paren k e') × (bare e' ≡ e)
  unfolding map_exp map_exps map_target
  paren_back (tree.paren k e') e q = (let q_e : bare e' ≡ e = cc in (k, e', refl, q_e))
  paren_back _ e q = absurd cc

  pub cast_back : (y : tree.Exp D) (t : tree.TypeName Bare) (e : tree.Exp Bare) → bare y ≡ tree.cast tt t e → (k : D) × (t' : tree.TypeName D) × (e' : tree.Exp D) × (y ≡ tree.cast k t' e') × (bare_type t' ≡ t) × (bare e' ≡ e)
  unfolding map_exp map_exps map_target
  cast_back (tree.cast k t' e') t e q = (let q_t : bare_type t' ≡ t = cc in let q_e : bare e' ≡ e = cc in (k, t', e', refl, q_t, q_e))
  cast_back _ t e q = absurd cc

  pub unary_back : (y : tree.Exp D) (op : UnOp) (e : tree.Exp Bare) → bare y ≡ tree.unary tt op e → (k : D) × (e' : tree.Exp D) × (y ≡ tree.unary k op e') × (bare e' ≡ e)
  unfolding map_exp map_exps map_target
  unary_back (tree.unary k op' e') op e q = (let q_op : op' ≡ op = cc in let q_e : bare e' ≡ e = cc in (k, e', (λ i. tree.unary k (q_op i) e'), q_e))
  unary_back _ op e q = absurd cc

  pub bump_back : (y : tree.Exp D) (op : BumpOp) (e : tree.Exp Bare) → bare y ≡ tree.bump tt op e → (k : D) × (e' : tree.Exp D) × (y ≡ tree.bump k op e') × (bare e' ≡ e)
  unfolding map_exp map_exps map_target
  bump_back (tree.bump k op' e') op e q = (let q_op : op' ≡ op = cc in let q_e : bare e' ≡ e = cc in (k, e', (λ i. tree.bump k (q_op i) e'), q_e))
  bump_back _ op e q = absurd cc

  pub binary_back : (y : tree.Exp D) (op : BinOp) (l : tree.Exp Bare) (r : tree.Exp Bare) → bare y ≡ tree.binary tt op l r → (k : D) × (l' : tree.Exp D) × (r' : tree.Exp D) × (y ≡ tree.binary k op l' r') × (bare l' ≡ l) × (bare r' ≡ r)
  unfolding map_exp map_exps map_target
  binary_back (tree.binary k op' l' r') op l r q = (let q_op : op' ≡ op = cc in let q_l : bare l' ≡ l = cc in let q_r : bare r' ≡ r = cc in (k, l', r', (λ i. tree.binary k (q_op i) l' r'), q_l, q_r))
  binary_back _ op l r q = absurd cc

  pub assign_back : (y : tree.Exp D) (l : tree.Exp Bare) (r : tree.Exp Bare) → bare y ≡ tree.assign tt l r → (k : D) × (l' : tree.Exp D) × (r' : tree.Exp D) × (y ≡ tree.assign k l' r') × (bare l' ≡ l) × (bare r' ≡ r)
  unfolding map_exp map_exps map_target
  assign_back (tree.assign k l' r') l r q = (let q_l : bare l' ≡ l = cc in let q_r : bare r' ≡ r = cc in (k, l', r', refl, q_l, q_r))
  assign_back _ l r q = absurd cc

  pub compound_back : (y : tree.Exp D) (op : BinOp) (l : tree.Exp Bare) (r : tree.Exp Bare) → bare y ≡ tree.compound tt op l r → (k : D) × (l' : tree.Exp D) × (r' : tree.Exp D) × (y ≡ tree.compound k op l' r') × (bare l' ≡ l) × (bare r' ≡ r)
  unfolding map_exp map_exps map_target
  compound_back (tree.compound k op' l' r') op l r q = (let q_op : op' ≡ op = cc in let q_l : bare l' ≡ l = cc in let q_r : bare r' ≡ r = cc in (k, l', r', (λ i. tree.compound k (q_op i) l' r'), q_l, q_r))
  compound_back _ op l r q = absurd cc

  pub no_target_back : (y : tree.Target D) → bare_target y ≡ tree.no_target → y ≡ tree.no_target
  unfolding map_exp map_exps map_target
  no_target_back tree.no_target q = refl
  no_target_back _ q = absurd cc

  pub on_back : (y : tree.Target D) (e : tree.Exp Bare) → bare_target y ≡ tree.on e → (e' : tree.Exp D) × (y ≡ tree.on e') × (bare e' ≡ e)
  unfolding map_exp map_exps map_target
  on_back (tree.on e') e q = (e', refl, cc)
  on_back _ e q = absurd cc

  pub end_back : (y : tree.Exps D) → bare_args y ≡ tree.end → y ≡ tree.end
  unfolding map_exp map_exps map_target
  end_back tree.end q = refl
  end_back _ q = absurd cc

  pub more_back : (y : tree.Exps D) (e : tree.Exp Bare) (es : tree.Exps Bare) → bare_args y ≡ tree.more e es
      → (e' : tree.Exp D) × (es' : tree.Exps D) × (y ≡ tree.more e' es') × (bare e' ≡ e) × (bare_args es' ≡ es)
  unfolding map_exp map_exps map_target
  more_back (tree.more e' es') e es q = (e', es', refl, cc, cc)
  more_back _ e es q = absurd cc

  pub none_back : (y : Option (tree.Exp D)) → bare_maybe y ≡ None → y ≡ None
  none_back None q = refl
  none_back (Some e') q = absurd cc

  pub some_back : (y : Option (tree.Exp D)) (e : tree.Exp Bare) → bare_maybe y ≡ Some e → (e' : tree.Exp D) × (y ≡ Some e') × (bare e' ≡ e)
  some_back None e q = absurd cc
  some_back (Some e') e q = (e', refl, cc)

  -- ---- statements

  pub local_back_stmt : (y : statement.Stmt D) (f : Bool) (t : tree.TypeName Bare) (w : tree.Word Bare) (e : tree.Exp Bare) → bare_stmt y ≡ statement.local tt f t w e → (k : D) × (t' : tree.TypeName D) × (w' : tree.Word D) × (e' : tree.Exp D) × (y ≡ statement.local k f t' w' e') × (bare_type t' ≡ t) × (bare_word w' ≡ w) × (bare e' ≡ e)
  unfolding map_stmt map_else map_stmts
  local_back_stmt (statement.local k f' t' w' e') f t w e q = (let q_f : f' ≡ f = cc in let q_t : bare_type t' ≡ t = cc in let q_w : bare_word w' ≡ w = cc in let q_e : bare e' ≡ e = cc in (k, t', w', e', (λ i. statement.local k (q_f i) t' w' e'), q_t, q_w, q_e))
  local_back_stmt _ f t w e q = absurd cc

  pub eval_back_stmt : (y : statement.Stmt D) (e : tree.Exp Bare) → bare_stmt y ≡ statement.eval tt e → (k : D) × (e' : tree.Exp D) × (y ≡ statement.eval k e') × (bare e' ≡ e)
  unfolding map_stmt map_else map_stmts
  eval_back_stmt (statement.eval k e') e q = (let q_e : bare e' ≡ e = cc in (k, e', refl, q_e))
  eval_back_stmt _ e q = absurd cc

  pub branch_back_stmt : (y : statement.Stmt D) (e : tree.Exp Bare) (s : statement.Stmt Bare) (o : statement.Else Bare) → bare_stmt y ≡ statement.branch tt e s o → (k : D) × (e' : tree.Exp D) × (s' : statement.Stmt D) × (o' : statement.Else D) × (y ≡ statement.branch k e' s' o') × (bare e' ≡ e) × (bare_stmt s' ≡ s) × (bare_else o' ≡ o)
  unfolding map_stmt map_else map_stmts
  branch_back_stmt (statement.branch k e' s' o') e s o q = (let q_e : bare e' ≡ e = cc in let q_s : bare_stmt s' ≡ s = cc in let q_o : bare_else o' ≡ o = cc in (k, e', s', o', refl, q_e, q_s, q_o))
  branch_back_stmt _ e s o q = absurd cc

  pub loop_back_stmt : (y : statement.Stmt D) (e : tree.Exp Bare) (s : statement.Stmt Bare) → bare_stmt y ≡ statement.loop tt e s → (k : D) × (e' : tree.Exp D) × (s' : statement.Stmt D) × (y ≡ statement.loop k e' s') × (bare e' ≡ e) × (bare_stmt s' ≡ s)
  unfolding map_stmt map_else map_stmts
  loop_back_stmt (statement.loop k e' s') e s q = (let q_e : bare e' ≡ e = cc in let q_s : bare_stmt s' ≡ s = cc in (k, e', s', refl, q_e, q_s))
  loop_back_stmt _ e s q = absurd cc

  pub return_back_stmt : (y : statement.Stmt D) (x : Option (tree.Exp Bare)) → bare_stmt y ≡ statement.return tt x → (k : D) × (x' : Option (tree.Exp D)) × (y ≡ statement.return k x') × (bare_maybe x' ≡ x)
  unfolding map_stmt map_else map_stmts
  return_back_stmt (statement.return k x') x q = (let q_x : bare_maybe x' ≡ x = cc in (k, x', refl, q_x))
  return_back_stmt _ x q = absurd cc

  pub block_back_stmt : (y : statement.Stmt D) (ss : statement.Stmts Bare) → bare_stmt y ≡ statement.block tt ss → (k : D) × (ss' : statement.Stmts D) × (y ≡ statement.block k ss') × (bare_stmts ss' ≡ ss)
  unfolding map_stmt map_else map_stmts
  block_back_stmt (statement.block k ss') ss q = (let q_ss : bare_stmts ss' ≡ ss = cc in (k, ss', refl, q_ss))
  block_back_stmt _ ss q = absurd cc

  pub sync_back_stmt : (y : statement.Stmt D) (e : tree.Exp Bare) (ss : statement.Stmts Bare) → bare_stmt y ≡ statement.sync tt e ss → (k : D) × (e' : tree.Exp D) × (ss' : statement.Stmts D) × (y ≡ statement.sync k e' ss') × (bare e' ≡ e) × (bare_stmts ss' ≡ ss)
  unfolding map_stmt map_else map_stmts
  sync_back_stmt (statement.sync k e' ss') e ss q = (let q_e : bare e' ≡ e = cc in let q_ss : bare_stmts ss' ≡ ss = cc in (k, e', ss', refl, q_e, q_ss))
  sync_back_stmt _ e ss q = absurd cc

  pub empty_back_stmt : (y : statement.Stmt D) → bare_stmt y ≡ statement.empty tt → (k : D) × (y ≡ statement.empty k)
  unfolding map_stmt map_else map_stmts
  empty_back_stmt (statement.empty k) q = (k, refl)
  empty_back_stmt _ q = absurd cc

  pub no_else_back : (y : statement.Else D) → bare_else y ≡ statement.no_else → y ≡ statement.no_else
  unfolding map_stmt map_else map_stmts
  no_else_back statement.no_else q = refl
  no_else_back _ q = absurd cc

  pub otherwise_back : (y : statement.Else D) (s : statement.Stmt Bare) → bare_else y ≡ statement.otherwise s → (s' : statement.Stmt D) × (y ≡ statement.otherwise s') × (bare_stmt s' ≡ s)
  unfolding map_stmt map_else map_stmts
  otherwise_back (statement.otherwise s') s q = (s', refl, cc)
  otherwise_back _ s q = absurd cc

  pub end_back_stmts : (y : statement.Stmts D) → bare_stmts y ≡ statement.end → y ≡ statement.end
  unfolding map_stmt map_else map_stmts
  end_back_stmts statement.end q = refl
  end_back_stmts _ q = absurd cc

  pub more_back_stmts : (y : statement.Stmts D) (s : statement.Stmt Bare) (ss : statement.Stmts Bare) → bare_stmts y ≡ statement.more s ss
      → (s' : statement.Stmt D) × (ss' : statement.Stmts D) × (y ≡ statement.more s' ss') × (bare_stmt s' ≡ s) × (bare_stmts ss' ≡ ss)
  unfolding map_stmt map_else map_stmts
  more_back_stmts (statement.more s' ss') s ss q = (s', ss', refl, cc, cc)
  more_back_stmts _ s ss q = absurd cc
