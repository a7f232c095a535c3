-- The slots of each kind of statement, and how many parts it has.
use Rattle.std.proofs.Common.{◌≡◌, ℕ, suc, ◌+◌, ◌<◌, ◌≤◌, List, [], ◌∷◌, ◌++◌, length, get_or, drop, Option, Some, None, refl, sym, ap, ◌∙◌, arith}
use Rattle.std.proofs.lemmas.List.{append_assoc, append-nil, drop_all}
use Rattle.jr_ast.specs.Tree as tree
use Rattle.jr_ast.specs.StatementTree as statement
use Rattle.jr_ast.specs.declared.stmts.Stmt.{Stmt}
use Rattle.jr_ast.specs.View.{stmt_of, stmts_of}
use Rattle.jr_table.specs.Rows.{Row}
use Rattle.jr_table.specs.Context.{Context, after, locals_in}
use Rattle.jr_expr_types.specs.Slots.{Slot}
use Rattle.jr_expr_types.specs.Trees.{Tree, Parts, none, put, count, flat, flats}
use Rattle.jr_expr_types.specs.TypedTrees.{exp_tree, put_maybe, stmt_parts, put_else, put_stmts, stmt_tree}
use Rattle.jr_bind_parts.specs.TypedFlow.{maybe_count, else_count, body_count, maybe_slots, else_slots, body_slots}
use Rattle.jr_bind_expr.proofs.Steps.{left_is}
use Rattle.jr_bind_expr.proofs.TypedParts.{start, add}

-- parts that stand in one row

module _ {A : Type 0} (rows : List Row) where
  pub maybe_flats : (c : Context) (ps : Parts) (e : Option (tree.Exp A)) → flats (put_maybe rows c ps e) ≡ flats ps ++ maybe_slots rows c e
  unfolding flats
  maybe_flats c ps None = sym (append-nil (flats ps))
  maybe_flats c ps (Some e) = refl

  pub maybe_counted : (c : Context) (ps : Parts) (e : Option (tree.Exp A)) → count (put_maybe rows c ps e) ≡ count ps + maybe_count e
  maybe_counted c ps None = omega arith
  maybe_counted c ps (Some e) = omega arith

  pub else_flats : (n : ℕ) (c : Context) (ps : Parts) (x : statement.Else A) → flats (put_else rows ps n c x) ≡ flats ps ++ else_slots rows n c x
  unfolding flats put_else
  else_flats n c ps statement.no_else = sym (append-nil (flats ps))
  else_flats n c ps (statement.otherwise x) = refl

  pub else_counted : (n : ℕ) (c : Context) (ps : Parts) (x : statement.Else A) → count (put_else rows ps n c x) ≡ count ps + else_count x
  unfolding put_else
  else_counted n c ps statement.no_else = omega arith
  else_counted n c ps (statement.otherwise x) = omega arith

  pub body_flats : (n : ℕ) (c : Context) (ps : Parts) (xs : statement.Stmts A) → flats (put_stmts rows ps n c xs) ≡ flats ps ++ body_slots rows n c xs
  unfolding flats put_stmts
  body_flats n c ps statement.end = sym (append-nil (flats ps))
  body_flats n c ps (statement.more x xs) = body_flats (n + locals_in x) (after n c x) (put ps (stmt_tree rows n c x)) xs
      ∙ append_assoc (flats ps) (flat (stmt_tree rows n c x)) (body_slots rows (n + locals_in x) (after n c x) xs)

  pub body_counted : (n : ℕ) (c : Context) (ps : Parts) (xs : statement.Stmts A) → count (put_stmts rows ps n c xs) ≡ count ps + body_count xs
  unfolding put_stmts
  body_counted n c ps statement.end = omega arith
  body_counted n c ps (statement.more x xs) = let h = body_counted (n + locals_in x) (after n c x) (put ps (stmt_tree rows n c x)) xs in omega (arith, h)

pub body_length : {A : Type 0} (xs : List (Stmt A)) → length xs ≡ body_count (stmts_of xs)
body_length [] = refl
body_length (x ∷ xs) = ap suc (body_length xs)

-- a row more
pub add_more : (front : List Slot) (ps qs : Parts) (row now next : List Slot) → flats qs ≡ flats ps ++ row → now ≡ front ++ flats ps → next ≡ now ++ row → next ≡ front ++ flats qs
add_more front ps qs row now next flat_is is more = more ∙ ap (λ xs. xs ++ row) is ∙ append_assoc front (flats ps) row ∙ ap (λ xs. front ++ xs) (sym flat_is)

module _ {A : Type 0} (rows : List Row) (number : ℕ) (c : Context) (m : A) where
  pub return_counted : (e : Option (tree.Exp A)) (n : ℕ) → n ≡ maybe_count e → n ≡ count (stmt_parts rows number c (statement.return m e))
  unfolding stmt_parts
  return_counted e n h = let k = maybe_counted rows c none e in omega (arith, h, k)

  pub branch_counted : (e : tree.Exp A) (x : statement.Stmt A) (other : statement.Else A) (n : ℕ) → n ≡ else_count other + 2 → n ≡ count (stmt_parts rows number c (statement.branch m e x other))
  unfolding stmt_parts
  branch_counted e x other n h =
      let k = else_counted rows (number + locals_in x) c (put (put none (exp_tree rows c e)) (stmt_tree rows number c x)) other in
      omega (arith, h, k)

  pub block_counted : (body : statement.Stmts A) (n : ℕ) → n ≡ body_count body → n ≡ count (stmt_parts rows number c (statement.block m body))
  unfolding stmt_parts
  block_counted body n h = let k = body_counted rows number c none body in omega (arith, h, k)

  pub sync_counted : (e : tree.Exp A) (body : statement.Stmts A) (n : ℕ) → n ≡ body_count body + 1 → n ≡ count (stmt_parts rows number c (statement.sync m e body))
  unfolding stmt_parts
  sync_counted e body n h = let k = body_counted rows number c (put none (exp_tree rows c e)) body in omega (arith, h, k)

-- behind what was there stand the parts of a statement
module _ {A : Type 0} (rows : List Row) (number : ℕ) (c : Context) (front : List Slot) (m : A) where
  abbrev E : tree.Exp A → Tree
  E e = exp_tree rows c e

  abbrev X : statement.Stmt A → Tree
  X x = stmt_tree rows number c x

  one_more : (e : tree.Exp A) (mid : List Slot) → mid ≡ front ++ flat (E e) → mid ≡ front ++ flats (put none (E e))
  one_more e mid h = add front none (E e) front mid (start front) h

  pub eval_slots : (e : tree.Exp A) (new : List Slot) → new ≡ front ++ flat (E e) → new ≡ front ++ flats (stmt_parts rows number c (statement.eval m e))
  unfolding stmt_parts
  eval_slots e new h = one_more e new h

  pub return_slots : (e : Option (tree.Exp A)) (new : List Slot) → new ≡ front ++ maybe_slots rows c e → new ≡ front ++ flats (stmt_parts rows number c (statement.return m e))
  unfolding stmt_parts
  return_slots e new h = add_more front none (put_maybe rows c none e) (maybe_slots rows c e) front new (maybe_flats rows c none e) (start front) h

  pub loop_slots : (e : tree.Exp A) (x : statement.Stmt A) (mid new : List Slot) → mid ≡ front ++ flat (E e) → new ≡ mid ++ flat (X x)
      → new ≡ front ++ flats (stmt_parts rows number c (statement.loop m e x))
  unfolding stmt_parts
  loop_slots e x mid new h k = add front (put none (E e)) (X x) mid new (one_more e mid h) k

  pub branch_slots : (e : tree.Exp A) (x : statement.Stmt A) (other : statement.Else A) (b : ℕ) (d : Context) (first second new : List Slot)
      → first ≡ front ++ flat (E e) → second ≡ first ++ flat (X x) → b ≡ number + locals_in x → d ≡ c → new ≡ second ++ else_slots rows b d other
      → new ≡ front ++ flats (stmt_parts rows number c (statement.branch m e x other))
  unfolding stmt_parts
  branch_slots e x other b d first second new h k is here l =
      let ps = put (put none (E e)) (X x) in
      add_more front ps (put_else rows ps (number + locals_in x) c other) (else_slots rows (number + locals_in x) c other) second new
      (else_flats rows (number + locals_in x) c ps other) (add front (put none (E e)) (X x) first second (one_more e first h) k)
      (l ∙ (λ i. second ++ else_slots rows (is i) (here i) other))

  pub block_slots : (body : statement.Stmts A) (new : List Slot) → new ≡ front ++ body_slots rows number c body → new ≡ front ++ flats (stmt_parts rows number c (statement.block m body))
  unfolding stmt_parts
  block_slots body new h = add_more front none (put_stmts rows none number c body) (body_slots rows number c body) front new (body_flats rows number c none body) (start front) h

  pub sync_slots : (e : tree.Exp A) (body : statement.Stmts A) (mid new : List Slot) → mid ≡ front ++ flat (E e) → new ≡ mid ++ body_slots rows number c body
      → new ≡ front ++ flats (stmt_parts rows number c (statement.sync m e body))
  unfolding stmt_parts
  sync_slots e body mid new h k =
      let ps = put none (E e) in
      add_more front ps (put_stmts rows ps number c body) (body_slots rows number c body) mid new (body_flats rows number c ps body) (one_more e mid h) k

-- a list: what is made, with what is left, is all
module _ {A : Type 0} (rows : List Row) (body : List (Stmt A)) (i : ℕ) where
  pub next_body : (x : Stmt A) → i < length body → x ≡ get_or body i x → (b b' : ℕ) (c c' : Context) (all now next : List Slot)
      → b' ≡ b + locals_in (stmt_of x) → c' ≡ after b c (stmt_of x) → next ≡ now ++ flat (stmt_tree rows b c (stmt_of x))
      → now ++ body_slots rows b c (stmts_of (drop i body)) ≡ all → next ++ body_slots rows b' c' (stmts_of (drop (i + 1) body)) ≡ all
  next_body x lt is b b' c c' all now next count here more so_far =
      (λ j. more j ++ body_slots rows (count j) (here j) (stmts_of (drop (i + 1) body)))
      ∙ append_assoc now (flat (stmt_tree rows b c (stmt_of x))) (body_slots rows (b + locals_in (stmt_of x)) (after b c (stmt_of x)) (stmts_of (drop (i + 1) body)))
      ∙ ap (λ xs. now ++ body_slots rows b c (stmts_of xs)) (sym (left_is body i x lt is)) ∙ so_far

  pub body_ends : length body ≤ i → (b : ℕ) (c : Context) (all now : List Slot) → now ++ body_slots rows b c (stmts_of (drop i body)) ≡ all → now ≡ all
  body_ends past b c all now so_far = sym (append-nil now) ∙ ap (λ xs. now ++ body_slots rows b c (stmts_of xs)) (sym (drop_all i body past)) ∙ so_far
