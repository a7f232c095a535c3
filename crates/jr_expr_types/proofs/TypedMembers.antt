-- In the tree of types of a member a path leads to a type exactly where it leads to an expression
-- that has it.
use Rattle.std.proofs.Common.{◌≡◌, ℕ, zero, suc, ◌+◌, ◌<◌, ◌≤◌, List, [], ◌∷◌, ◌++◌, length, map, Option, Some, None, Bool, true, false, refl, sym, ap, subst, ◌∙◌, inl, inr, arith}
use Rattle.std.specs.Prelude.{◌↔◌, ◌⊎◌, slice_get, option_and_then, option_map, ◌==◌, if◌then◌else◌}
use Rattle.jr_ast.specs.Tree as tree
use Rattle.jr_ast.specs.StatementTree as statement
use Rattle.jr_ast.specs.MemberTree as syntax
use Rattle.jr_ast.specs.Nodes.{exp, exp_at}
use Rattle.jr_table.specs.Keys.{Ty}
use Rattle.jr_table.specs.Decls.{MemberKey}
use Rattle.jr_table.specs.Rows.{Row}
use Rattle.jr_table.specs.Context.{Context, local_of, in_own, after, locals_in}
use Rattle.jr_table.specs.Binding.{HasType}
use Rattle.jr_table.specs.Meanings.{type_of}
use Rattle.jr_table.specs.HeadRules.{plain, with_parameters, is_static_member}
use Rattle.jr_table.specs.Errors.{member_part}
use Rattle.jr_table.specs.TypesAt.{TypeBelow, TypeInMaybe, TypeInRow, TypeInStmt, TypeInElse, TypeInStmts, count_args, count_super, TypeInSuper, count_type, TypeAt}
use Rattle.jr_expr_types.specs.Trees.{Tree, node, Parts, none, put, count, part_at, parts_of, type_at}
use Rattle.jr_expr_types.specs.TypedTrees.{leaf, put_leaf, put_leaves, exp_tree, put_row, put_maybe, put_args, stmt_tree, stmt_parts, put_else, put_stmts, put_type, member_parts, part_tree}
use Rattle.jr_expr_types.proofs.Listing.{listed, listed_at}
use Rattle.jr_expr_types.proofs.TypedExps.{leaf_typeless, typed_exp}
use Rattle.std.proofs.lemmas.List.{append_assoc}

-- by a step to a part, and from there
abbrev StepsTo : Option Tree → List ℕ → Ty → Type 0
StepsTo o path t = option_and_then (λ (x : Tree). type_at x path) o ≡ Some t

nowhere : (path : List ℕ) (t : Ty) → StepsTo None path t → ⊥
nowhere path t h = absurd cc

in_leaf : (path : List ℕ) (t : Ty) → StepsTo (Some leaf) path t → ⊥
in_leaf path t h = let e = leaf_typeless path in absurd cc

-- lists joined
join_left : {X : Type 0} (xs ys : List X) (i : ℕ) (x : X) → slice_get xs i ≡ Some x → slice_get (xs ++ ys) i ≡ Some x
join_left [] ys i x e = absurd cc
join_left (y ∷ xs) ys zero x e = e
join_left (y ∷ xs) ys (suc i) x e = join_left xs ys i x e

join_right : {X : Type 0} (xs ys : List X) (i j : ℕ) → i ≡ length xs + j → slice_get (xs ++ ys) i ≡ slice_get ys j
join_right [] ys i j e = ap (slice_get ys) (let f : i ≡ j = omega (arith, e) in f)
join_right (x ∷ xs) ys zero j e = absurd (omega (arith, e))
join_right (x ∷ xs) ys (suc i) j e = join_right xs ys i j (omega (arith, e))

-- a step into joined lists
record Further (xs ys : List Tree) (i : ℕ) (path : List ℕ) (t : Ty) : Type 0 where
  step : ℕ
  is : i ≡ length xs + step
  there : StepsTo (slice_get ys step) path t

in_joined : (xs ys : List Tree) (i : ℕ) (path : List ℕ) (t : Ty) → StepsTo (slice_get (xs ++ ys) i) path t → StepsTo (slice_get xs i) path t ⊎ Further xs ys i path t
in_joined [] ys i path t h = inr (record { step = i; is = omega arith; there = h })
in_joined (x ∷ xs) ys zero path t h = inl h
in_joined (x ∷ xs) ys (suc i) path t h = elim (in_joined xs ys i path t h) [
  | inl a ↦ inl a
  | inr b ↦ inr (record { step = b.step; is = (let e = b.is in omega (arith, e)); there = b.there })
]

further_in : (xs ys : List Tree) (i : ℕ) (path : List ℕ) (t : Ty) → Further xs ys i path t → StepsTo (slice_get (xs ++ ys) i) path t
further_in xs ys i path t h = ap (option_and_then (λ (x : Tree). type_at x path)) (join_right xs ys i h.step h.is) ∙ h.there

left_in : (xs ys : List Tree) (i : ℕ) (path : List ℕ) (t : Ty) → StepsTo (slice_get xs i) path t → StepsTo (slice_get (xs ++ ys) i) path t
left_in [] ys i path t h = absurd cc
left_in (x ∷ xs) ys zero path t h = h
left_in (x ∷ xs) ys (suc i) path t h = left_in xs ys i path t h

-- leaves
leaf_list : ℕ → List Tree
leaf_list zero = []
leaf_list (suc n) = leaf ∷ leaf_list n

leaves_long : (n : ℕ) → length (leaf_list n) ≡ n
unfolding leaf_list
leaves_long zero = refl
leaves_long (suc n) = ap suc (leaves_long n)

no_leaf : (n i : ℕ) (path : List ℕ) (t : Ty) → StepsTo (slice_get (leaf_list n) i) path t → ⊥
unfolding leaf_list
no_leaf zero i path t h = absurd cc
no_leaf (suc n) zero path t h = in_leaf path t h
no_leaf (suc n) (suc i) path t h = no_leaf n i path t h

listed_join : (ps : Parts) (xs ys : List Tree) → listed (listed ps xs) ys ≡ listed ps (xs ++ ys)
listed_join ps [] ys = refl
listed_join ps (x ∷ xs) ys = listed_join (put ps x) xs ys

leaf_last : (n : ℕ) → leaf_list n ++ leaf ∷ [] ≡ leaf_list (suc n)
unfolding leaf_list
leaf_last zero = refl
leaf_last (suc n) = ap (λ ts. leaf ∷ ts) (leaf_last n)

abbrev leaves : ℕ → Parts
leaves n = listed none (leaf_list n)

no_leaves : none ≡ leaves 0
unfolding leaf_list
no_leaves = refl

one_leaf : (n : ℕ) → put_leaf (leaves n) ≡ leaves (suc n)
one_leaf n = listed_join none (leaf_list n) (leaf ∷ []) ∙ ap (listed none) (leaf_last n)

more_leaves : (n k : ℕ) → put_leaves n (leaves k) ≡ leaves (n + k)
more_leaves zero k = let e : 0 + k ≡ k = omega arith in sym (ap leaves e)
more_leaves (suc n) k = ap put_leaf (more_leaves n k) ∙ one_leaf (n + k) ∙ (let e : suc (n + k) ≡ suc n + k = omega arith in ap leaves e)

first_leaves : (n : ℕ) → put_leaves n none ≡ leaves n
first_leaves n = ap (put_leaves n) no_leaves ∙ more_leaves n 0 ∙ (let e : n + 0 ≡ n = omega arith in ap leaves e)

-- in a node without a type, by its parts as a list
in_node : (ps : Parts) (ts : List Tree) → ps ≡ listed none ts → (In : List ℕ → Type 0) (t : Ty) → (In [] → ⊥) → ((step : ℕ) (path : List ℕ) → StepsTo (slice_get ts step) path t ↔ In (step ∷ path))
    → (path : List ℕ) → (type_at (node None ps) path ≡ Some t) ↔ In path
unfolding type_at
in_node ps ts is In t none_here steps [] = (λ h. absurd cc, λ b. absurd (none_here b))
in_node ps ts is In t none_here steps (i ∷ path) =
    let same = ap (λ qs. part_at qs i) is ∙ listed_at ts i in
    (λ h. (steps i path).0 (sym (ap (option_and_then (λ (x : Tree). type_at x path)) same) ∙ h), λ b. ap (option_and_then (λ (x : Tree). type_at x path)) same ∙ (steps i path).1 b)

module _ {A : Type 0} (rows : List Row) (exact : (c : Context) (e : tree.Exp A) (t : Ty) → (type_of rows c e ≡ Some t) ↔ HasType rows c e t) where
  -- expressions
  found : (c : Context) (path : List ℕ) (e : tree.Exp A) (t : Ty) (o : Option (tree.Exp A)) → exp_at (exp e) path ≡ o → option_and_then (type_of rows c) o ≡ Some t → TypeBelow rows c e path t
  found c path e t None is h = absurd cc
  found c path e t (Some x) is h = (x, is, (exact c x t).0 h)

  below : (c : Context) (e : tree.Exp A) (path : List ℕ) (t : Ty) → (type_at (exp_tree rows c e) path ≡ Some t) ↔ TypeBelow rows c e path t
  below c e path t = (
    λ h. found c path e t (exp_at (exp e) path) refl (sym (typed_exp rows c path e) ∙ h),
    λ b. typed_exp rows c path e ∙ ap (option_and_then (type_of rows c)) b.1 ∙ (exact c b.0 t).1 b.2,
  )

  -- rows of expressions
  abbrev row_list : Context → tree.Exps A → List Tree
  row_list c tree.end = []
  row_list c (tree.more e es) = exp_tree rows c e ∷ row_list c es

  row_listed : (c : Context) (ps : Parts) (es : tree.Exps A) → put_row rows c ps es ≡ listed ps (row_list c es)
  unfolding put_row
  row_listed c ps tree.end = refl
  row_listed c ps (tree.more e es) = row_listed c (put ps (exp_tree rows c e)) es

  in_row : (c : Context) (es : tree.Exps A) (step : ℕ) (path : List ℕ) (t : Ty) → StepsTo (slice_get (row_list c es) step) path t ↔ TypeInRow rows c es step path t
  in_row c tree.end step path t = (λ h. absurd cc, λ b. absurd b)
  in_row c (tree.more e es) zero path t = below c e path t
  in_row c (tree.more e es) (suc step) path t = in_row c es step path t

  abbrev maybe_list : Context → Option (tree.Exp A) → List Tree
  maybe_list c None = []
  maybe_list c (Some e) = exp_tree rows c e ∷ []

  maybe_listed : (c : Context) (ps : Parts) (o : Option (tree.Exp A)) → put_maybe rows c ps o ≡ listed ps (maybe_list c o)
  maybe_listed c ps None = refl
  maybe_listed c ps (Some e) = refl

  in_maybe : (c : Context) (o : Option (tree.Exp A)) (step : ℕ) (path : List ℕ) (t : Ty) → StepsTo (slice_get (maybe_list c o) step) path t ↔ TypeInMaybe rows c o step path t
  in_maybe c None zero path t = (λ h. absurd cc, λ b. absurd b)
  in_maybe c None (suc step) path t = (λ h. absurd cc, λ b. absurd b)
  in_maybe c (Some e) zero path t = below c e path t
  in_maybe c (Some e) (suc step) path t = (λ h. absurd cc, λ b. absurd b)

  abbrev args_list : Context → Option (tree.Exps A) → List Tree
  args_list c None = []
  args_list c (Some args) = row_list c args

  args_listed : (c : Context) (ps : Parts) (o : Option (tree.Exps A)) → put_args rows c ps o ≡ listed ps (args_list c o)
  args_listed c ps None = refl
  args_listed c ps (Some args) = row_listed c ps args

  row_long : (c : Context) (es : tree.Exps A) → length (row_list c es) ≡ count_args rows es
  row_long c tree.end = refl
  row_long c (tree.more e es) = ap suc (row_long c es)

  args_long : (c : Context) (o : Option (tree.Exps A)) → length (args_list c o) ≡ count_super rows o
  args_long c None = refl
  args_long c (Some args) = row_long c args

  in_args : (c : Context) (o : Option (tree.Exps A)) (step : ℕ) (path : List ℕ) (t : Ty) → StepsTo (slice_get (args_list c o) step) path t ↔ TypeInSuper rows c o step path t
  in_args c None step path t = (λ h. absurd cc, λ b. absurd b)
  in_args c (Some args) step path t = in_row c args step path t

  -- statements
  abbrev stmts_list : (number : ℕ) → Context → statement.Stmts A → List Tree
  stmts_list number c statement.end = []
  stmts_list number c (statement.more x xs) = stmt_tree rows number c x ∷ stmts_list (number + locals_in x) (after number c x) xs

  abbrev else_list : (number : ℕ) → Context → statement.Else A → List Tree
  else_list number c statement.no_else = []
  else_list number c (statement.otherwise x) = stmt_tree rows number c x ∷ []

  abbrev stmt_list : (number : ℕ) → Context → statement.Stmt A → List Tree
  stmt_list number c (statement.local m f u w e) = leaf ∷ leaf ∷ exp_tree rows (in_own c (local_of c number f u w)) e ∷ []
  stmt_list number c (statement.eval m e) = exp_tree rows c e ∷ []
  stmt_list number c (statement.branch m e x other) = exp_tree rows c e ∷ stmt_tree rows number c x ∷ else_list (number + locals_in x) c other
  stmt_list number c (statement.loop m e x) = exp_tree rows c e ∷ stmt_tree rows number c x ∷ []
  stmt_list number c (statement.return m e) = maybe_list c e
  stmt_list number c (statement.block m body) = stmts_list number c body
  stmt_list number c (statement.sync m e body) = exp_tree rows c e ∷ stmts_list number c body
  stmt_list number c (statement.empty m) = []

  stmts_listed : (ps : Parts) (number : ℕ) (c : Context) (xs : statement.Stmts A) → put_stmts rows ps number c xs ≡ listed ps (stmts_list number c xs)
  unfolding stmt_parts put_else put_stmts
  stmts_listed ps number c statement.end = refl
  stmts_listed ps number c (statement.more x xs) = stmts_listed (put ps (stmt_tree rows number c x)) (number + locals_in x) (after number c x) xs

  stmt_listed : (number : ℕ) (c : Context) (x : statement.Stmt A) → stmt_parts rows number c x ≡ listed none (stmt_list number c x)
  unfolding stmt_parts put_else put_stmts
  stmt_listed number c (statement.local m f u w e) = refl
  stmt_listed number c (statement.eval m e) = refl
  stmt_listed number c (statement.branch m e x statement.no_else) = refl
  stmt_listed number c (statement.branch m e x (statement.otherwise y)) = refl
  stmt_listed number c (statement.loop m e x) = refl
  stmt_listed number c (statement.return m e) = maybe_listed c none e
  stmt_listed number c (statement.block m body) = stmts_listed none number c body
  stmt_listed number c (statement.sync m e body) = stmts_listed (put none (exp_tree rows c e)) number c body
  stmt_listed number c (statement.empty m) = refl

  not_here : (number : ℕ) (c : Context) (x : statement.Stmt A) (t : Ty) → TypeInStmt rows number c x [] t → ⊥
  unfolding TypeInStmt TypeInElse TypeInStmts
  not_here number c (statement.local m f u w e) t h = absurd h
  not_here number c (statement.eval m e) t h = absurd h
  not_here number c (statement.branch m e x other) t h = absurd h
  not_here number c (statement.loop m e x) t h = absurd h
  not_here number c (statement.return m None) t h = absurd h
  not_here number c (statement.return m (Some e)) t h = absurd h
  not_here number c (statement.block m body) t h = absurd h
  not_here number c (statement.sync m e body) t h = absurd h
  not_here number c (statement.empty m) t h = absurd h

  mutual
    unfolding TypeInStmt TypeInElse TypeInStmts

    stmt_steps : (number : ℕ) (c : Context) (x : statement.Stmt A) (t : Ty) (step : ℕ) (path : List ℕ) → StepsTo (slice_get (stmt_list number c x) step) path t ↔ TypeInStmt rows number c x (step ∷ path) t
    stmt_steps number c (statement.local m f u w e) t zero path = (λ h. absurd (in_leaf path t h), λ b. absurd b)
    stmt_steps number c (statement.local m f u w e) t (suc zero) path = (λ h. absurd (in_leaf path t h), λ b. absurd b)
    stmt_steps number c (statement.local m f u w e) t (suc (suc zero)) path = below (in_own c (local_of c number f u w)) e path t
    stmt_steps number c (statement.local m f u w e) t (suc (suc (suc n))) path = (λ h. absurd (nowhere path t h), λ b. absurd b)
    stmt_steps number c (statement.eval m e) t zero path = below c e path t
    stmt_steps number c (statement.eval m e) t (suc n) path = (λ h. absurd (nowhere path t h), λ b. absurd b)
    stmt_steps number c (statement.branch m e x other) t zero path = below c e path t
    stmt_steps number c (statement.branch m e x other) t (suc zero) path =
        in_node (stmt_parts rows number c x) (stmt_list number c x) (stmt_listed number c x) (λ p. TypeInStmt rows number c x p t) t (not_here number c x t) (stmt_steps number c x t) path
    stmt_steps number c (statement.branch m e x other) t (suc (suc zero)) path = else_steps (number + locals_in x) c other t path
    stmt_steps number c (statement.branch m e x statement.no_else) t (suc (suc (suc n))) path = (λ h. absurd (nowhere path t h), λ b. absurd b)
    stmt_steps number c (statement.branch m e x (statement.otherwise y)) t (suc (suc (suc n))) path = (λ h. absurd (nowhere path t h), λ b. absurd b)
    stmt_steps number c (statement.loop m e x) t zero path = below c e path t
    stmt_steps number c (statement.loop m e x) t (suc zero) path =
        in_node (stmt_parts rows number c x) (stmt_list number c x) (stmt_listed number c x) (λ p. TypeInStmt rows number c x p t) t (not_here number c x t) (stmt_steps number c x t) path
    stmt_steps number c (statement.loop m e x) t (suc (suc n)) path = (λ h. absurd (nowhere path t h), λ b. absurd b)
    stmt_steps number c (statement.return m None) t zero path = (λ h. absurd (nowhere path t h), λ b. absurd b)
    stmt_steps number c (statement.return m None) t (suc n) path = (λ h. absurd (nowhere path t h), λ b. absurd b)
    stmt_steps number c (statement.return m (Some e)) t zero path = below c e path t
    stmt_steps number c (statement.return m (Some e)) t (suc n) path = (λ h. absurd (nowhere path t h), λ b. absurd b)
    stmt_steps number c (statement.block m body) t step path = stmts_steps number c body t step path
    stmt_steps number c (statement.sync m e body) t zero path = below c e path t
    stmt_steps number c (statement.sync m e body) t (suc step) path = stmts_steps number c body t step path
    stmt_steps number c (statement.empty m) t zero path = (λ h. absurd (nowhere path t h), λ b. absurd b)
    stmt_steps number c (statement.empty m) t (suc n) path = (λ h. absurd (nowhere path t h), λ b. absurd b)

    else_steps : (number : ℕ) (c : Context) (x : statement.Else A) (t : Ty) (path : List ℕ) → StepsTo (slice_get (else_list number c x) 0) path t ↔ TypeInElse rows number c x path t
    else_steps number c statement.no_else t path = (λ h. absurd (nowhere path t h), λ b. absurd b)
    else_steps number c (statement.otherwise x) t path =
        in_node (stmt_parts rows number c x) (stmt_list number c x) (stmt_listed number c x) (λ p. TypeInStmt rows number c x p t) t (not_here number c x t) (stmt_steps number c x t) path

    stmts_steps : (number : ℕ) (c : Context) (xs : statement.Stmts A) (t : Ty) (step : ℕ) (path : List ℕ) → StepsTo (slice_get (stmts_list number c xs) step) path t ↔ TypeInStmts rows number c xs step path t
    stmts_steps number c statement.end t step path = (λ h. absurd (nowhere path t h), λ b. absurd b)
    stmts_steps number c (statement.more x xs) t zero path =
        in_node (stmt_parts rows number c x) (stmt_list number c x) (stmt_listed number c x) (λ p. TypeInStmt rows number c x p t) t (not_here number c x t) (stmt_steps number c x t) path
    stmts_steps number c (statement.more x xs) t (suc step) path = stmts_steps (number + locals_in x) (after number c x) xs t step path

-- members
behind_leaves : (n : ℕ) (ts : List Tree) (i : ℕ) (path : List ℕ) (t : Ty) → StepsTo (slice_get (leaf_list n ++ ts) i) path t → (step : ℕ) × (i ≡ n + step) × StepsTo (slice_get ts step) path t
behind_leaves n ts i path t h = elim (in_joined (leaf_list n) ts i path t h) [
  | inl a ↦ absurd (no_leaf n i path t a)
  | inr b ↦ (let e = b.is in let l = leaves_long n in (b.step, omega (arith, e, l), b.there))
]

leaves_before : (n : ℕ) (ts : List Tree) (i step : ℕ) (path : List ℕ) (t : Ty) → i ≡ n + step → StepsTo (slice_get ts step) path t → StepsTo (slice_get (leaf_list n ++ ts) i) path t
leaves_before n ts i step path t e h = let l = leaves_long n in further_in (leaf_list n) ts i path t (record { step = step; is = omega (arith, e, l); there = h })

module _ {A : Type 0} (begins : A → ℕ → ℕ) (rows : List Row) (exact : (c : Context) (e : tree.Exp A) (t : Ty) → (type_of rows c e ≡ Some t) ↔ HasType rows c e t) where
  field_listed : (k : MemberKey) (m : A) (mods : List (syntax.Modifier A)) (u : tree.TypeName A) (w : tree.Word A) (init : Option (tree.Exp A))
      → member_parts begins rows k (syntax.field m mods u w init) ≡ listed none (leaf_list (length mods + 2) ++ maybe_list rows exact (plain k (is_static_member begins mods)) init)
  field_listed k m mods u w init =
      let c = plain k (is_static_member begins mods) in
      let two : suc (suc (length mods)) ≡ length mods + 2 = omega arith in
      let before = ap put_leaf (ap put_leaf (first_leaves (length mods)) ∙ one_leaf (length mods)) ∙ one_leaf (suc (length mods)) ∙ ap leaves two in
      ap (λ ps. put_maybe rows c ps init) before ∙ maybe_listed rows exact c (leaves (length mods + 2)) init ∙ listed_join none (leaf_list (length mods + 2)) (maybe_list rows exact c init)

  type_leaves : (n : ℕ) (u : Option (tree.TypeName A)) → put_type rows (leaves n) u ≡ leaves (n + count_type rows u)
  type_leaves n None = let e : n ≡ n + 0 = omega arith in ap leaves e
  type_leaves n (Some u) = one_leaf n ∙ (let e : suc n ≡ n + 1 = omega arith in ap leaves e)

  method_listed : (k : MemberKey) (m : A) (mods : List (syntax.Modifier A)) (u : Option (tree.TypeName A)) (w : tree.Word A) (ps : List (syntax.Param A)) (body : statement.Stmts A)
      → member_parts begins rows k (syntax.method m mods u w ps body)
      ≡ listed none (leaf_list (length mods + count_type rows u + 1 + length ps) ++ stmts_list rows exact (length ps) (with_parameters k (is_static_member begins mods) ps) body)
  method_listed k m mods u w ps body =
      let c = with_parameters k (is_static_member begins mods) ps in
      let n = length mods + count_type rows u in
      let sum : length ps + suc n ≡ n + 1 + length ps = omega arith in
      let before = ap (put_leaves (length ps)) (ap put_leaf (ap (λ qs. put_type rows qs u) (first_leaves (length mods)) ∙ type_leaves (length mods) u) ∙ one_leaf n) ∙ more_leaves (length ps) (suc n) ∙ ap leaves sum in
      ap (λ qs. put_stmts rows qs (length ps) c body) before ∙ stmts_listed rows exact (leaves (n + 1 + length ps)) (length ps) c body
      ∙ listed_join none (leaf_list (n + 1 + length ps)) (stmts_list rows exact (length ps) c body)

  ctor_listed : (k : MemberKey) (m : A) (mods : List (syntax.Modifier A)) (w : tree.Word A) (ps : List (syntax.Param A)) (args : Option (tree.Exps A)) (body : statement.Stmts A)
      → member_parts begins rows k (syntax.constructor m mods w ps args body)
      ≡ listed none (leaf_list (length mods + 1 + length ps) ++ (args_list rows exact (with_parameters k true ps) args ++ stmts_list rows exact (length ps) (with_parameters k false ps) body))
  ctor_listed k m mods w ps args body =
      let c = with_parameters k true ps in
      let d = with_parameters k false ps in
      let n = length mods in
      let sum : length ps + suc n ≡ n + 1 + length ps = omega arith in
      let before = ap (put_leaves (length ps)) (ap put_leaf (first_leaves n) ∙ one_leaf n) ∙ more_leaves (length ps) (suc n) ∙ ap leaves sum in
      ap (λ qs. put_stmts rows (put_args rows c qs args) (length ps) d body) before
      ∙ ap (λ qs. put_stmts rows qs (length ps) d body) (args_listed rows exact c (leaves (n + 1 + length ps)) args ∙ listed_join none (leaf_list (n + 1 + length ps)) (args_list rows exact c args))
      ∙ stmts_listed rows exact (listed none (leaf_list (n + 1 + length ps) ++ args_list rows exact c args)) (length ps) d body
      ∙ listed_join none (leaf_list (n + 1 + length ps) ++ args_list rows exact c args) (stmts_list rows exact (length ps) d body)
      ∙ ap (listed none) (append_assoc (leaf_list (n + 1 + length ps)) (args_list rows exact c args) (stmts_list rows exact (length ps) d body))

  nothing_at_once : (k : MemberKey) (x : syntax.Member A) (t : Ty) → TypeAt begins rows k x [] t → ⊥
  nothing_at_once k (syntax.field m mods u w init) t h = absurd h
  nothing_at_once k (syntax.method m mods u w ps body) t h = absurd h
  nothing_at_once k (syntax.constructor m mods w ps args body) t h = absurd h
  nothing_at_once k (syntax.inner m of) t h = absurd h

  pub typed_member : (k : MemberKey) (x : syntax.Member A) (path : List ℕ) (t : Ty) → (type_at (part_tree begins rows k (member_part x)) path ≡ Some t) ↔ TypeAt begins rows k x path t
  typed_member k (syntax.field m mods u w init) path t =
      let c = plain k (is_static_member begins mods) in
      let n = length mods + 2 in
      in_node _ _ (field_listed k m mods u w init) (λ p. TypeAt begins rows k (syntax.field m mods u w init) p t) t (nothing_at_once k (syntax.field m mods u w init) t)
      (λ i p. (
        λ h. (let b = behind_leaves n (maybe_list rows exact c init) i p t h in (b.0, b.1, (in_maybe rows exact c init b.0 p t).0 b.2)),
        λ b. leaves_before n (maybe_list rows exact c init) i b.0 p t b.1 ((in_maybe rows exact c init b.0 p t).1 b.2),
      )) path
  typed_member k (syntax.method m mods u w ps body) path t =
      let c = with_parameters k (is_static_member begins mods) ps in
      let n = length mods + count_type rows u + 1 + length ps in
      in_node _ _ (method_listed k m mods u w ps body) (λ p. TypeAt begins rows k (syntax.method m mods u w ps body) p t) t (nothing_at_once k (syntax.method m mods u w ps body) t)
      (λ i p. (
        λ h. (let b = behind_leaves n (stmts_list rows exact (length ps) c body) i p t h in (b.0, b.1, (stmts_steps rows exact (length ps) c body t b.0 p).0 b.2)),
        λ b. leaves_before n (stmts_list rows exact (length ps) c body) i b.0 p t b.1 ((stmts_steps rows exact (length ps) c body t b.0 p).1 b.2),
      )) path
  typed_member k (syntax.constructor m mods w ps args body) path t =
      let c = with_parameters k true ps in
      let d = with_parameters k false ps in
      let n = length mods + 1 + length ps in
      let xs = args_list rows exact c args in
      let ys = stmts_list rows exact (length ps) d body in
      let l = args_long rows exact c args in
      in_node _ _ (ctor_listed k m mods w ps args body) (λ p. TypeAt begins rows k (syntax.constructor m mods w ps args body) p t) t (nothing_at_once k (syntax.constructor m mods w ps args body) t)
      (λ i p. (
        λ h. (let b = behind_leaves n (xs ++ ys) i p t h in
            elim (in_joined xs ys b.0 p t b.2) [
              | inl a ↦ inl (b.0, b.1, (in_args rows exact c args b.0 p t).0 a)
              | inr r ↦ inr (let e = b.1 in let f = r.is in (r.step, omega (arith, e, f, l), (stmts_steps rows exact (length ps) d body t r.step p).0 r.there))
            ]),
        λ s. elim s [
          | inl a ↦ leaves_before n (xs ++ ys) i a.0 p t a.1 (left_in xs ys a.0 p t ((in_args rows exact c args a.0 p t).1 a.2))
          | inr b ↦ (let e = b.1 in leaves_before n (xs ++ ys) i (count_super rows args + b.0) p t (omega (arith, e))
              (further_in xs ys (count_super rows args + b.0) p t (record { step = b.0; is = omega (arith, l); there = (stmts_steps rows exact (length ps) d body t b.0 p).1 b.2 })))
        ],
      )) path
  typed_member k (syntax.inner m of) path t =
      in_node none [] refl (λ p. TypeAt begins rows k (syntax.inner m of) p t) t (nothing_at_once k (syntax.inner m of) t)
      (λ i p. (λ h. absurd (nowhere p t h), λ b. absurd b)) path
