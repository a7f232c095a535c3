-- Statements whose parts are replaced.
use Rattle.std.proofs.Common.{◌≡◌, Bool, ℕ, zero, suc, List, [], ◌∷◌, Option, Some, None, Vec, Global, option_map, option_and_then, map, refl, sym, ap, ◌∙◌}
use Rattle.std.specs.List.{slice_get}
use Rattle.std.specs.declared.boxed.Box.{Box}
use Rattle.jr_ast.specs.declared.names.Ident.{Ident}
use Rattle.jr_ast.specs.declared.parts.TypeRef.{TypeRef}
use Rattle.jr_ast.specs.declared.exprs.Expr.{Expr}
use Rattle.jr_ast.specs.declared.stmts.Stmt.{Stmt}
use Rattle.jr_ast.specs.declared.stmts.StmtKind as stmt
use Rattle.jr_ast.specs.StatementTree as statement
use Rattle.jr_ast.specs.Tree as tree
use Rattle.jr_ast.specs.Nodes as pure
use Rattle.jr_ast.specs.View.{expr_of, stmt_of, stmt_kind, stmts_of}
use Rattle.jr_paths_nodes.specs.With.{get_from, stmt_with_stmt, stmt_with_exp, with_stmt_from, with_else, with_maybe}
use Rattle.jr_ast.proofs.Rows.{stmt_kind-Block, stmt_kind-Sync}

abbrev Held : Type 0 → Type 0
Held A = Option (Box (Stmt A) Global)

module _ {A : Type 0} where
  abbrev pub stmt_in : statement.Stmt A → ℕ → Option (statement.Stmt A)
  stmt_in s number = option_and_then pure.as_stmt (slice_get (pure.stmt_children s) number)

  abbrev pub exp_in : statement.Stmt A → ℕ → Option (tree.Exp A)
  exp_in s number = option_and_then pure.as_exp (slice_get (pure.stmt_children s) number)

  abbrev pub else_of : Held A → statement.Else A
  else_of None = statement.no_else
  else_of (Some b) = statement.otherwise (stmt_of b.value)

  if_is : (m : A) (c : Expr A) (then : Box (Stmt A) Global) (h : Held A) → stmt_kind m (stmt.If c then h) ≡ statement.branch m (expr_of c) (stmt_of then.value) (else_of h)
  unfolding stmt_kind
  if_is m c then None = refl
  if_is m c then (Some b) = refl

  pub if_condition : (m : A) (c new : Expr A) (then : Box (Stmt A) Global) (h : Held A) (number : ℕ) → number ≡ 0
      → stmt_kind m (stmt.If new then h) ≡ stmt_with_exp (stmt_kind m (stmt.If c then h)) number (expr_of new)
  unfolding stmt_with_exp
  if_condition m c new then h number is =
      if_is m new then h ∙ sym (ap (λ n. stmt_with_exp (stmt_kind m (stmt.If c then h)) n (expr_of new)) is ∙ ap (λ s. stmt_with_exp s 0 (expr_of new)) (if_is m c then h))

  pub if_then : (m : A) (c : Expr A) (then new : Box (Stmt A) Global) (h : Held A) (number : ℕ) → number ≡ 1
      → stmt_kind m (stmt.If c new h) ≡ stmt_with_stmt (stmt_kind m (stmt.If c then h)) number (stmt_of new.value)
  unfolding stmt_with_stmt
  if_then m c then new h number is =
      if_is m c new h ∙ sym (ap (λ n. stmt_with_stmt (stmt_kind m (stmt.If c then h)) n (stmt_of new.value)) is ∙ ap (λ s. stmt_with_stmt s 1 (stmt_of new.value)) (if_is m c then h))

  pub if_then_get : (m : A) (c : Expr A) (then : Box (Stmt A) Global) (h : Held A) (number : ℕ) → number ≡ 1 → Some (stmt_of then.value) ≡ stmt_in (stmt_kind m (stmt.If c then h)) number
  unfolding pure.stmt_children
  if_then_get m c then h number is = sym (ap (stmt_in (stmt_kind m (stmt.If c then h))) is ∙ ap (λ s. stmt_in s 1) (if_is m c then h))

  pub if_condition_get : (m : A) (c : Expr A) (then : Box (Stmt A) Global) (h : Held A) (number : ℕ) → number ≡ 0 → Some (expr_of c) ≡ exp_in (stmt_kind m (stmt.If c then h)) number
  unfolding pure.stmt_children
  if_condition_get m c then h number is = sym (ap (exp_in (stmt_kind m (stmt.If c then h))) is ∙ ap (λ s. exp_in s 0) (if_is m c then h))

  else_set : (old new : Held A) (w : Stmt A) → option_map (λ (b : Box (Stmt A) Global). stmt_of b.value) new ≡ option_map (λ (b : Box (Stmt A) Global). stmt_of w) old
      → else_of new ≡ with_else (else_of old) 2 (stmt_of w)
  else_set None None w e = refl
  else_set None (Some b) w e = absurd (cc e)
  else_set (Some b) None w e = absurd (cc e)
  else_set (Some b) (Some n) w e = ap statement.otherwise (cc e)

  pub if_else : (m : A) (c : Expr A) (then : Box (Stmt A) Global) (old new : Held A) (w : Stmt A) (number : ℕ) → number ≡ 2
      → option_map (λ (b : Box (Stmt A) Global). stmt_of b.value) new ≡ option_map (λ (b : Box (Stmt A) Global). stmt_of w) old
      → stmt_kind m (stmt.If c then new) ≡ stmt_with_stmt (stmt_kind m (stmt.If c then old)) number (stmt_of w)
  unfolding stmt_with_stmt
  if_else m c then old new w number is e =
      if_is m c then new ∙ ap (statement.branch m (expr_of c) (stmt_of then.value)) (else_set old new w e)
      ∙ sym (ap (λ n. stmt_with_stmt (stmt_kind m (stmt.If c then old)) n (stmt_of w)) is ∙ ap (λ s. stmt_with_stmt s 2 (stmt_of w)) (if_is m c then old))

  pub else_get : (m : A) (c : Expr A) (then : Box (Stmt A) Global) (h : Held A) (number : ℕ) → number ≡ 2
      → option_map (λ (b : Box (Stmt A) Global). stmt_of b.value) h ≡ stmt_in (stmt_kind m (stmt.If c then h)) number
  unfolding pure.stmt_children
  else_get m c then None number is = sym (ap (stmt_in (stmt_kind m (stmt.If c then None))) is ∙ ap (λ s. stmt_in s 2) (if_is m c then None))
  else_get m c then (Some b) number is = sym (ap (stmt_in (stmt_kind m (stmt.If c then (Some b)))) is ∙ ap (λ s. stmt_in s 2) (if_is m c then (Some b)))

  past_if : (e : tree.Exp A) (s : statement.Stmt A) (o : statement.Else A) (number : ℕ) → (number ≡ 1 → ⊥) → (number ≡ 2 → ⊥)
      → None ≡ option_and_then pure.as_stmt (slice_get (pure.exp e ∷ (pure.stmt s ∷ pure.else_children o)) number)
  past_if e s o zero h k = refl
  past_if e s o (suc zero) h k = absurd (h refl)
  past_if e s o (suc (suc zero)) h k = absurd (k refl)
  past_if e s statement.no_else (suc (suc (suc number))) h k = refl
  past_if e s (statement.otherwise t) (suc (suc (suc number))) h k = refl

  pub if_none : (m : A) (c : Expr A) (then : Box (Stmt A) Global) (h : Held A) (number : ℕ) → (number ≡ 1 → ⊥) → (number ≡ 2 → ⊥) → None ≡ stmt_in (stmt_kind m (stmt.If c then h)) number
  unfolding pure.stmt_children
  if_none m c then h number one two =
      past_if (expr_of c) (stmt_of then.value) (else_of h) number one two ∙ ap (λ s. stmt_in s number) (sym (if_is m c then h))

  no_exp_past : (e : tree.Exp A) (s : statement.Stmt A) (o : statement.Else A) (number : ℕ) → (number ≡ 0 → ⊥)
      → None ≡ option_and_then pure.as_exp (slice_get (pure.exp e ∷ (pure.stmt s ∷ pure.else_children o)) number)
  no_exp_past e s o zero h = absurd (h refl)
  no_exp_past e s o (suc zero) h = refl
  no_exp_past e s statement.no_else (suc (suc number)) h = refl
  no_exp_past e s (statement.otherwise t) (suc (suc zero)) h = refl
  no_exp_past e s (statement.otherwise t) (suc (suc (suc number))) h = refl

  pub if_no_exp : (m : A) (c : Expr A) (then : Box (Stmt A) Global) (h : Held A) (number : ℕ) → (number ≡ 0 → ⊥) → None ≡ exp_in (stmt_kind m (stmt.If c then h)) number
  unfolding pure.stmt_children
  if_no_exp m c then h number zero_not =
      no_exp_past (expr_of c) (stmt_of then.value) (else_of h) number zero_not ∙ ap (λ s. exp_in s number) (sym (if_is m c then h))

  stmts_get : (xs : List (Stmt A)) (i : ℕ) → slice_get (map stmt_of xs) i ≡ option_and_then pure.as_stmt (slice_get (pure.stmts (stmts_of xs)) i)
  stmts_get [] i = refl
  stmts_get (x ∷ xs) zero = refl
  stmts_get (x ∷ xs) (suc i) = stmts_get xs i

  behind : (e : tree.Exp A) (xs : List (Stmt A)) (number : ℕ) → get_from 1 (map stmt_of xs) number ≡ option_and_then pure.as_stmt (slice_get (pure.exp e ∷ pure.stmts (stmts_of xs)) number)
  behind e xs zero = refl
  behind e xs (suc number) = stmts_get xs number

  no_exp_among : (xs : List (Stmt A)) (i : ℕ) → None ≡ option_and_then pure.as_exp (slice_get (pure.stmts (stmts_of xs)) i)
  no_exp_among [] i = refl
  no_exp_among (x ∷ xs) zero = refl
  no_exp_among (x ∷ xs) (suc i) = no_exp_among xs i

  no_exp_behind : (e : tree.Exp A) (xs : List (Stmt A)) (number : ℕ) → (number ≡ 0 → ⊥) → None ≡ option_and_then pure.as_exp (slice_get (pure.exp e ∷ pure.stmts (stmts_of xs)) number)
  no_exp_behind e xs zero h = absurd (h refl)
  no_exp_behind e xs (suc number) h = no_exp_among xs number

  pub block_get : (m : A) (body : Vec (Stmt A) Global) (number : ℕ) → get_from 0 (map stmt_of body.items) number ≡ stmt_in (stmt_kind m (stmt.Block body)) number
  unfolding pure.stmt_children
  block_get m body number = stmts_get body.items number ∙ sym (ap (λ s. stmt_in s number) (stmt_kind-Block A m body))

  pub block_no_exp : (m : A) (body : Vec (Stmt A) Global) (number : ℕ) → None ≡ exp_in (stmt_kind m (stmt.Block body)) number
  unfolding pure.stmt_children
  block_no_exp m body number = no_exp_among body.items number ∙ sym (ap (λ s. exp_in s number) (stmt_kind-Block A m body))

  pub sync_get : (m : A) (lock : Expr A) (body : Vec (Stmt A) Global) (number : ℕ) → get_from 1 (map stmt_of body.items) number ≡ stmt_in (stmt_kind m (stmt.Sync lock body)) number
  unfolding pure.stmt_children
  sync_get m lock body number = behind (expr_of lock) body.items number ∙ sym (ap (λ s. stmt_in s number) (stmt_kind-Sync A m lock body))

  pub sync_no_exp : (m : A) (lock : Expr A) (body : Vec (Stmt A) Global) (number : ℕ) → (number ≡ 0 → ⊥) → None ≡ exp_in (stmt_kind m (stmt.Sync lock body)) number
  unfolding pure.stmt_children
  sync_no_exp m lock body number h = no_exp_behind (expr_of lock) body.items number h ∙ sym (ap (λ s. exp_in s number) (stmt_kind-Sync A m lock body))

  pub sync_lock_get : (m : A) (lock : Expr A) (body : Vec (Stmt A) Global) (number : ℕ) → number ≡ 0 → Some (expr_of lock) ≡ exp_in (stmt_kind m (stmt.Sync lock body)) number
  unfolding pure.stmt_children
  sync_lock_get m lock body number is = sym (ap (exp_in (stmt_kind m (stmt.Sync lock body))) is ∙ ap (λ s. exp_in s 0) (stmt_kind-Sync A m lock body))

  pub block_write : (m : A) (old new : Vec (Stmt A) Global) (number : ℕ) (w : Stmt A) → stmts_of new.items ≡ with_stmt_from 0 (stmts_of old.items) number (stmt_of w)
      → stmt_kind m (stmt.Block new) ≡ stmt_with_stmt (stmt_kind m (stmt.Block old)) number (stmt_of w)
  unfolding stmt_with_stmt
  block_write m old new number w e = stmt_kind-Block A m new ∙ ap (statement.block m) e ∙ sym (ap (λ s. stmt_with_stmt s number (stmt_of w)) (stmt_kind-Block A m old))

  pub block_same : (m : A) (old new : Vec (Stmt A) Global) → new.items ≡ old.items → stmt_kind m (stmt.Block new) ≡ stmt_kind m (stmt.Block old)
  block_same m old new e = stmt_kind-Block A m new ∙ ap (λ xs. statement.block m (stmts_of xs)) e ∙ sym (stmt_kind-Block A m old)

  pub sync_write : (m : A) (lock : Expr A) (old new : Vec (Stmt A) Global) (number : ℕ) (w : Stmt A) → stmts_of new.items ≡ with_stmt_from 1 (stmts_of old.items) number (stmt_of w)
      → stmt_kind m (stmt.Sync lock new) ≡ stmt_with_stmt (stmt_kind m (stmt.Sync lock old)) number (stmt_of w)
  unfolding stmt_with_stmt
  sync_write m lock old new number w e =
      stmt_kind-Sync A m lock new ∙ ap (statement.sync m (expr_of lock)) e ∙ sym (ap (λ s. stmt_with_stmt s number (stmt_of w)) (stmt_kind-Sync A m lock old))

  pub sync_same : (m : A) (lock : Expr A) (old new : Vec (Stmt A) Global) → new.items ≡ old.items → stmt_kind m (stmt.Sync lock new) ≡ stmt_kind m (stmt.Sync lock old)
  sync_same m lock old new e = stmt_kind-Sync A m lock new ∙ ap (λ xs. statement.sync m (expr_of lock) (stmts_of xs)) e ∙ sym (stmt_kind-Sync A m lock old)

  pub sync_lock : (m : A) (lock new : Expr A) (body : Vec (Stmt A) Global) (number : ℕ) → number ≡ 0
      → stmt_kind m (stmt.Sync new body) ≡ stmt_with_exp (stmt_kind m (stmt.Sync lock body)) number (expr_of new)
  unfolding stmt_with_exp
  sync_lock m lock new body number is =
      stmt_kind-Sync A m new body
      ∙ sym (ap (λ n. stmt_with_exp (stmt_kind m (stmt.Sync lock body)) n (expr_of new)) is ∙ ap (λ s. stmt_with_exp s 0 (expr_of new)) (stmt_kind-Sync A m lock body))

  pub while_condition : (m : A) (c new : Expr A) (body : Box (Stmt A) Global) (number : ℕ) → number ≡ 0
      → stmt_kind m (stmt.While new body) ≡ stmt_with_exp (stmt_kind m (stmt.While c body)) number (expr_of new)
  unfolding stmt_kind stmt_with_exp
  while_condition m c new body number is = sym (ap (λ n. stmt_with_exp (stmt_kind m (stmt.While c body)) n (expr_of new)) is)

  pub while_condition_get : (m : A) (c : Expr A) (body : Box (Stmt A) Global) (number : ℕ) → number ≡ 0 → Some (expr_of c) ≡ exp_in (stmt_kind m (stmt.While c body)) number
  unfolding stmt_kind pure.stmt_children
  while_condition_get m c body number is = sym (ap (exp_in (stmt_kind m (stmt.While c body))) is)

  pub while_body : (m : A) (c : Expr A) (body new : Box (Stmt A) Global) (number : ℕ) → number ≡ 1
      → stmt_kind m (stmt.While c new) ≡ stmt_with_stmt (stmt_kind m (stmt.While c body)) number (stmt_of new.value)
  unfolding stmt_kind stmt_with_stmt
  while_body m c body new number is = sym (ap (λ n. stmt_with_stmt (stmt_kind m (stmt.While c body)) n (stmt_of new.value)) is)

  pub while_body_get : (m : A) (c : Expr A) (body : Box (Stmt A) Global) (number : ℕ) → number ≡ 1 → Some (stmt_of body.value) ≡ stmt_in (stmt_kind m (stmt.While c body)) number
  unfolding stmt_kind pure.stmt_children
  while_body_get m c body number is = sym (ap (stmt_in (stmt_kind m (stmt.While c body))) is)

  pub local_init : (m : A) (f : Bool) (t : TypeRef A) (i : Ident A) (x new : Expr A) (number : ℕ) → number ≡ 2
      → stmt_kind m (stmt.Local f t i new) ≡ stmt_with_exp (stmt_kind m (stmt.Local f t i x)) number (expr_of new)
  unfolding stmt_kind stmt_with_exp
  local_init m f t i x new number is = sym (ap (λ n. stmt_with_exp (stmt_kind m (stmt.Local f t i x)) n (expr_of new)) is)

  pub local_init_get : (m : A) (f : Bool) (t : TypeRef A) (i : Ident A) (x : Expr A) (number : ℕ) → number ≡ 2 → Some (expr_of x) ≡ exp_in (stmt_kind m (stmt.Local f t i x)) number
  unfolding stmt_kind pure.stmt_children
  local_init_get m f t i x number is = sym (ap (exp_in (stmt_kind m (stmt.Local f t i x))) is)

  pub eval_of : (m : A) (x new : Expr A) (number : ℕ) → number ≡ 0 → stmt_kind m (stmt.Eval new) ≡ stmt_with_exp (stmt_kind m (stmt.Eval x)) number (expr_of new)
  unfolding stmt_kind stmt_with_exp
  eval_of m x new number is = sym (ap (λ n. stmt_with_exp (stmt_kind m (stmt.Eval x)) n (expr_of new)) is)

  pub eval_of_get : (m : A) (x : Expr A) (number : ℕ) → number ≡ 0 → Some (expr_of x) ≡ exp_in (stmt_kind m (stmt.Eval x)) number
  unfolding stmt_kind pure.stmt_children
  eval_of_get m x number is = sym (ap (exp_in (stmt_kind m (stmt.Eval x))) is)

  -- the value of a `return`
  value_set : (old new : Option (Expr A)) (w : Expr A) → option_map expr_of new ≡ option_map (λ (x : Expr A). expr_of w) old
      → option_map expr_of new ≡ with_maybe 0 (option_map expr_of old) 0 (expr_of w)
  value_set None new w e = e
  value_set (Some x) new w e = e

  pub return_write : (m : A) (old new : Option (Expr A)) (w : Expr A) (number : ℕ) → number ≡ 0
      → option_map expr_of new ≡ option_map (λ (x : Expr A). expr_of w) old
      → stmt_kind m (stmt.Return new) ≡ stmt_with_exp (stmt_kind m (stmt.Return old)) number (expr_of w)
  unfolding stmt_kind stmt_with_exp
  return_write m old new w number is e =
      ap (statement.return m) (value_set old new w e) ∙ sym (ap (λ n. stmt_with_exp (stmt_kind m (stmt.Return old)) n (expr_of w)) is)

  pub return_get : (m : A) (h : Option (Expr A)) (number : ℕ) → number ≡ 0 → option_map expr_of h ≡ exp_in (stmt_kind m (stmt.Return h)) number
  unfolding stmt_kind pure.stmt_children
  return_get m None number is = sym (ap (exp_in (stmt_kind m (stmt.Return None))) is)
  return_get m (Some x) number is = sym (ap (exp_in (stmt_kind m (stmt.Return (Some x)))) is)

  pub return_none : (m : A) (h : Option (Expr A)) (number : ℕ) → (number ≡ 0 → ⊥) → None ≡ exp_in (stmt_kind m (stmt.Return h)) number
  unfolding stmt_kind pure.stmt_children
  return_none m None number h = refl
  return_none m (Some x) zero h = absurd (h refl)
  return_none m (Some x) (suc number) h = refl

  pub return_no_stmt : (m : A) (h : Option (Expr A)) (number : ℕ) → None ≡ stmt_in (stmt_kind m (stmt.Return h)) number
  unfolding stmt_kind pure.stmt_children
  return_no_stmt m None number = refl
  return_no_stmt m (Some x) zero = refl
  return_no_stmt m (Some x) (suc number) = refl

  -- no child of these numbers
  pub while_no_stmt : (m : A) (c : Expr A) (body : Box (Stmt A) Global) (number : ℕ) → (number ≡ 1 → ⊥) → None ≡ stmt_in (stmt_kind m (stmt.While c body)) number
  unfolding stmt_kind pure.stmt_children
  while_no_stmt m c body zero h = refl
  while_no_stmt m c body (suc zero) h = absurd (h refl)
  while_no_stmt m c body (suc (suc number)) h = refl

  pub while_no_exp : (m : A) (c : Expr A) (body : Box (Stmt A) Global) (number : ℕ) → (number ≡ 0 → ⊥) → None ≡ exp_in (stmt_kind m (stmt.While c body)) number
  unfolding stmt_kind pure.stmt_children
  while_no_exp m c body zero h = absurd (h refl)
  while_no_exp m c body (suc zero) h = refl
  while_no_exp m c body (suc (suc number)) h = refl

  pub local_no_stmt : (m : A) (f : Bool) (t : TypeRef A) (i : Ident A) (x : Expr A) (number : ℕ) → None ≡ stmt_in (stmt_kind m (stmt.Local f t i x)) number
  unfolding stmt_kind pure.stmt_children
  local_no_stmt m f t i x zero = refl
  local_no_stmt m f t i x (suc zero) = refl
  local_no_stmt m f t i x (suc (suc zero)) = refl
  local_no_stmt m f t i x (suc (suc (suc number))) = refl

  pub local_no_exp : (m : A) (f : Bool) (t : TypeRef A) (i : Ident A) (x : Expr A) (number : ℕ) → (number ≡ 2 → ⊥) → None ≡ exp_in (stmt_kind m (stmt.Local f t i x)) number
  unfolding stmt_kind pure.stmt_children
  local_no_exp m f t i x zero h = refl
  local_no_exp m f t i x (suc zero) h = refl
  local_no_exp m f t i x (suc (suc zero)) h = absurd (h refl)
  local_no_exp m f t i x (suc (suc (suc number))) h = refl

  pub eval_no_stmt : (m : A) (x : Expr A) (number : ℕ) → None ≡ stmt_in (stmt_kind m (stmt.Eval x)) number
  unfolding stmt_kind pure.stmt_children
  eval_no_stmt m x zero = refl
  eval_no_stmt m x (suc number) = refl

  pub eval_no_exp : (m : A) (x : Expr A) (number : ℕ) → (number ≡ 0 → ⊥) → None ≡ exp_in (stmt_kind m (stmt.Eval x)) number
  unfolding stmt_kind pure.stmt_children
  eval_no_exp m x zero h = absurd (h refl)
  eval_no_exp m x (suc number) h = refl

  pub empty_no_stmt : (m : A) (number : ℕ) → None ≡ stmt_in (stmt_kind m stmt.Empty) number
  unfolding stmt_kind pure.stmt_children
  empty_no_stmt m number = refl

  pub empty_no_exp : (m : A) (number : ℕ) → None ≡ exp_in (stmt_kind m stmt.Empty) number
  unfolding stmt_kind pure.stmt_children
  empty_no_exp m number = refl
