-- What a walk rests on holds of the parts of a node.
use Rattle.std.proofs.Common.{◌≡◌, ℕ, zero, suc, ◌+◌, Bool, List, [], ◌∷◌, ◌++◌, Some, sym, subst, inl, inr, arith}
use Rattle.std.specs.Prelude.{◌↔◌, option_and_then, slice_get}
use Rattle.std.proofs.lemmas.List.{append_assoc}
use Rattle.jr_text.specs.declared.spans.Span.{Span}
use Rattle.jr_ast.specs.Tree as tree
use Rattle.jr_ast.specs.StatementTree as statement
use Rattle.jr_ast.specs.declared.operators.UnOp.{UnOp}
use Rattle.jr_ast.specs.declared.operators.BinOp.{BinOp}
use Rattle.jr_ast.specs.declared.operators.BumpOp.{BumpOp}
use Rattle.jr_ast.specs.Nodes.{exps, as_exp, node_at, exp_children}
use Rattle.jr_table.specs.Keys.{Ty}
use Rattle.jr_table.specs.Rows.{Row}
use Rattle.jr_table.specs.Context.{Context, local_of, in_own, after, locals_in}
use Rattle.jr_table.specs.Binding.{Role, value, left, HasType}
use Rattle.jr_table.specs.Binding as role
use Rattle.jr_table.specs.Somewhere.{Somewhere, InTarget, InRow, InStmt, InElse, InStmts}
use Rattle.jr_table.specs.TypesAt.{TypeBelow, TypeInRow, TypeInStmt, TypeInElse, TypeInStmts}
use Rattle.jr_expr_types.specs.Slots.{Slot, find_type}
use Rattle.jr_bind.specs.Bounds.{Bound}
use Rattle.jr_bind_expr.specs.Fits.{FitsExp, FitsTarget, FitsExps, FitsStmt, FitsElse, FitsStmts}
use Rattle.jr_pieces.specs.Finding.{behind_target}
use Rattle.jr_new_bodies.specs.Known.{SoundRow, RefersRowIn, TypesRowIn}
use Rattle.jr_new_bodies.specs.Ready.{ExpReadyIn, StmtReadyIn, StmtsReadyIn}

-- ---- types by path

abbrev Tells : List Slot → List ℕ → (List ℕ → Ty → Type 0) → Type 0
Tells types path P = (q : List ℕ) (t : Ty) → (find_type types (path ++ q) ≡ Some t) ↔ P q t

-- of a part, by what is known of the node
part : (types : List Slot) (path : List ℕ) (i : ℕ) (P : List ℕ → Ty → Type 0) → ((q : List ℕ) (t : Ty) → (find_type types (path ++ i ∷ q) ≡ Some t) ↔ P q t) → Tells types (path ++ i ∷ []) P
part types path i P at q t = subst (λ p. (find_type types p ≡ Some t) ↔ P q t) (sym (append_assoc path (i ∷ []) q)) (at q t)

both : {P Q R : Type 0} → P ↔ Q → Q ↔ R → P ↔ R
both a b = (λ x. b.0 (a.0 x), λ x. a.1 (b.1 x))

module _ {A : Type 0} (rows : List Row) (c : Context) where
  -- the type of an argument, by its number
  abbrev BelowRow : tree.Exps A → (step : ℕ) → List ℕ → Ty → Type 0
  BelowRow es step q t = (x : tree.Exp A) × (option_and_then as_exp (option_and_then (λ n. node_at n q) (slice_get (exps es) step)) ≡ Some x) × HasType rows c x t

  row_below : (es : tree.Exps A) (step : ℕ) (q : List ℕ) (t : Ty) → BelowRow es step q t ↔ TypeInRow rows c es step q t
  row_below tree.end step q t = (λ x. let e = x.1 in absurd cc, λ x. absurd x)
  row_below (tree.more e es) zero q t = (λ x. x, λ x. x)
  row_below (tree.more e es) (suc n) q t = row_below es n q t

abbrev TypeOf : Bound → List ℕ → Ty → Type 0
TypeOf b p t = find_type b.types p ≡ Some t

module _ {A : Type 0} (rows : List Row) (b : Bound) (c : Context) (path : List ℕ) where
  -- the arguments of a node, before which one part stands, or two
  row_one : (es : tree.Exps A) → ((step : ℕ) (q : List ℕ) (t : Ty) → TypeOf b (path ++ suc step ∷ q) t ↔ BelowRow rows c es step q t) → TypesRowIn rows b c path 1 es
  row_one es at n step is lt q t =
      let e : suc step ≡ n = omega (arith, is) in
      both (subst (λ k. TypeOf b (path ++ k ∷ q) t ↔ BelowRow rows c es step q t) e (at step q t)) (row_below rows c es step q t)

  row_two : (es : tree.Exps A) → ((step : ℕ) (q : List ℕ) (t : Ty) → TypeOf b (path ++ suc (suc step) ∷ q) t ↔ BelowRow rows c es step q t) → TypesRowIn rows b c path 2 es
  row_two es at n step is lt q t =
      let e : suc (suc step) ≡ n = omega (arith, is) in
      both (subst (λ k. TypeOf b (path ++ k ∷ q) t ↔ BelowRow rows c es step q t) e (at step q t)) (row_below rows c es step q t)

-- ---- expressions

module _ {A : Type 0} (tells : A → ℕ → Span) (Fits : A → ℕ → Type 0) (rows : List Row) (b : Bound) (from : ℕ) where
  abbrev pub begins : A → ℕ → ℕ
  begins m base = (tells m base).from

  abbrev pub ExpReady : Context → Role → (path : List ℕ) → (base : ℕ) → tree.Exp A → Type 0
  ExpReady c r path base e = ExpReadyIn tells Fits rows b from c r path base e

  -- arguments, which are parts of the node from a number on
  abbrev pub RowReady : Context → (path : List ℕ) → (first at : ℕ) → tree.Exps A → Type 0
  RowReady c path first at es = FitsExps begins Fits at es × SoundRow begins rows c at es × RefersRowIn begins rows b from c at es × TypesRowIn rows b c path first es

  module _ (c : Context) (r : Role) (path : List ℕ) (base : ℕ) (m : A) where
    abbrev Whole : tree.Exp A → Type 0
    Whole e = ExpReady c r path base e

    abbrev Part : Role → (step : ℕ) → tree.Exp A → Type 0
    Part s step e = ExpReady c s (path ++ step ∷ []) (begins m base) e

    abbrev Args : (first : ℕ) → tree.Exps A → Type 0
    Args first es = RowReady c path first (begins m base) es

    pub of_field : (e : tree.Exp A) (w : tree.Word A) → Whole (tree.field m e w) → Part left 0 e
    unfolding FitsExp FitsTarget FitsExps Somewhere InTarget InRow node_at exp_children
    of_field e w (fits, sound, refers, types) = (fits.1, λ i k x. sound i k (inr x), λ i d x. refers i d (inr x), part b.types path 0 (λ q t. TypeBelow rows c e q t) (λ q t. types (0 ∷ q) t))

    pub of_target : (e : tree.Exp A) (w : tree.Word A) (es : tree.Exps A) → Whole (tree.call m (tree.on e) w es) → Part left 0 e
    unfolding FitsExp FitsTarget FitsExps Somewhere InTarget InRow node_at exp_children
    of_target e w es (fits, sound, refers, types) = (fits.1, λ i k x. sound i k (inr (inl x)), λ i d x. refers i d (inr (inl x)), part b.types path 0 (λ q t. TypeBelow rows c e q t) (λ q t. types (0 ∷ q) t))

    pub of_arguments : (to : tree.Target A) (w : tree.Word A) (es : tree.Exps A) → Whole (tree.call m to w es) → Args (behind_target to) es
    unfolding FitsExp FitsTarget FitsExps Somewhere InTarget InRow node_at exp_children
    of_arguments tree.no_target w es (fits, sound, refers, types) = (fits.3, λ i k x. sound i k (inr (inr x)), λ i d x. refers i d (inr (inr x)), row_one rows b c path es (λ step q t. types (suc step ∷ q) t))
    of_arguments (tree.on e) w es (fits, sound, refers, types) = (fits.3, λ i k x. sound i k (inr (inr x)), λ i d x. refers i d (inr (inr x)), row_two rows b c path es (λ step q t. types (suc (suc step) ∷ q) t))

    pub of_super_call : (w : tree.Word A) (es : tree.Exps A) → Whole (tree.super_call m w es) → Args 1 es
    unfolding FitsExp FitsTarget FitsExps Somewhere InTarget InRow node_at exp_children
    of_super_call w es (fits, sound, refers, types) = (fits.2, λ i k x. sound i k (inr x), λ i d x. refers i d (inr x), row_one rows b c path es (λ step q t. types (suc step ∷ q) t))

    pub of_create : (u : tree.TypeName A) (es : tree.Exps A) → Whole (tree.create m u es) → Args 1 es
    unfolding FitsExp FitsTarget FitsExps Somewhere InTarget InRow node_at exp_children
    of_create u es (fits, sound, refers, types) = (fits.2, λ i k x. sound i k (inr x), λ i d x. refers i d (inr x), row_one rows b c path es (λ step q t. types (suc step ∷ q) t))

    pub of_paren : (e : tree.Exp A) → Whole (tree.paren m e) → Part value 0 e
    unfolding FitsExp FitsTarget FitsExps Somewhere InTarget InRow node_at exp_children
    of_paren e (fits, sound, refers, types) = (fits.1, λ i k x. sound i k (inr x), λ i d x. refers i d (inr x), part b.types path 0 (λ q t. TypeBelow rows c e q t) (λ q t. types (0 ∷ q) t))

    pub of_cast : (u : tree.TypeName A) (e : tree.Exp A) → Whole (tree.cast m u e) → Part value 1 e
    unfolding FitsExp FitsTarget FitsExps Somewhere InTarget InRow node_at exp_children
    of_cast u e (fits, sound, refers, types) = (fits.2, λ i k x. sound i k (inr x), λ i d x. refers i d (inr x), part b.types path 1 (λ q t. TypeBelow rows c e q t) (λ q t. types (1 ∷ q) t))

    pub of_unary : (o : UnOp) (e : tree.Exp A) → Whole (tree.unary m o e) → Part value 0 e
    unfolding FitsExp FitsTarget FitsExps Somewhere InTarget InRow node_at exp_children
    of_unary o e (fits, sound, refers, types) = (fits.1, λ i k x. sound i k (inr x), λ i d x. refers i d (inr x), part b.types path 0 (λ q t. TypeBelow rows c e q t) (λ q t. types (0 ∷ q) t))

    pub of_bump : (o : BumpOp) (e : tree.Exp A) → Whole (tree.bump m o e) → Part value 0 e
    unfolding FitsExp FitsTarget FitsExps Somewhere InTarget InRow node_at exp_children
    of_bump o e (fits, sound, refers, types) = (fits.1, λ i k x. sound i k (inr x), λ i d x. refers i d (inr x), part b.types path 0 (λ q t. TypeBelow rows c e q t) (λ q t. types (0 ∷ q) t))

    pub of_binary : (o : BinOp) (x y : tree.Exp A) → Whole (tree.binary m o x y) → Part value 0 x × Part value 1 y
    unfolding FitsExp FitsTarget FitsExps Somewhere InTarget InRow node_at exp_children
    of_binary o x y (fits, sound, refers, types) = (
      (fits.1, λ i k z. sound i k (inr (inl z)), λ i d z. refers i d (inr (inl z)), part b.types path 0 (λ q t. TypeBelow rows c x q t) (λ q t. types (0 ∷ q) t)),
      (fits.2, λ i k z. sound i k (inr (inr z)), λ i d z. refers i d (inr (inr z)), part b.types path 1 (λ q t. TypeBelow rows c y q t) (λ q t. types (1 ∷ q) t)),
    )

    pub of_assign : (x y : tree.Exp A) → Whole (tree.assign m x y) → Part value 0 x × Part value 1 y
    unfolding FitsExp FitsTarget FitsExps Somewhere InTarget InRow node_at exp_children
    of_assign x y (fits, sound, refers, types) = (
      (fits.1, λ i k z. sound i k (inr (inl z)), λ i d z. refers i d (inr (inl z)), part b.types path 0 (λ q t. TypeBelow rows c x q t) (λ q t. types (0 ∷ q) t)),
      (fits.2, λ i k z. sound i k (inr (inr z)), λ i d z. refers i d (inr (inr z)), part b.types path 1 (λ q t. TypeBelow rows c y q t) (λ q t. types (1 ∷ q) t)),
    )

    pub of_compound : (o : BinOp) (x y : tree.Exp A) → Whole (tree.compound m o x y) → Part value 0 x × Part value 1 y
    unfolding FitsExp FitsTarget FitsExps Somewhere InTarget InRow node_at exp_children
    of_compound o x y (fits, sound, refers, types) = (
      (fits.1, λ i k z. sound i k (inr (inl z)), λ i d z. refers i d (inr (inl z)), part b.types path 0 (λ q t. TypeBelow rows c x q t) (λ q t. types (0 ∷ q) t)),
      (fits.2, λ i k z. sound i k (inr (inr z)), λ i d z. refers i d (inr (inr z)), part b.types path 1 (λ q t. TypeBelow rows c y q t) (λ q t. types (1 ∷ q) t)),
    )

  -- of a row the first, and the others
  module _ (c : Context) (path : List ℕ) (first at : ℕ) (e : tree.Exp A) (es : tree.Exps A) where
    pub first_of_row : RowReady c path first at (tree.more e es) → ExpReady c value (path ++ first ∷ []) at e
    unfolding FitsExp FitsTarget FitsExps Somewhere InTarget InRow
    first_of_row (fits, sound, refers, types) = (fits.0, λ i k x. sound i k (inl x), λ i d x. refers i d (inl x), part b.types path first (λ q t. TypeBelow rows c e q t) (λ q t. types first 0 (omega arith) (omega arith) q t))

    pub rest_of_row : RowReady c path first at (tree.more e es) → RowReady c path (suc first) at es
    unfolding FitsExp FitsTarget FitsExps Somewhere InTarget InRow
    rest_of_row (fits, sound, refers, types) = (fits.1, λ i k x. sound i k (inr x), λ i d x. refers i d (inr x), λ n step is lt q t. types n (suc step) (omega (arith, is)) (omega (arith, lt)) q t)

  -- ---- statements

  abbrev pub StmtReady : (n : ℕ) → Context → (path : List ℕ) → (base : ℕ) → statement.Stmt A → Type 0
  StmtReady n c path base x = StmtReadyIn tells Fits rows b from n c path base x

  abbrev pub ListReady : (n : ℕ) → Context → (path : List ℕ) → (first base : ℕ) → statement.Stmts A → Type 0
  ListReady n c path first base xs = StmtsReadyIn tells Fits rows b from n c path first base xs

  module _ (n : ℕ) (c : Context) (path : List ℕ) (base : ℕ) (m : A) where
    abbrev Of : statement.Stmt A → Type 0
    Of x = StmtReady n c path base x

    abbrev Exp : Context → Role → (step : ℕ) → tree.Exp A → Type 0
    Exp d r step e = ExpReady d r (path ++ step ∷ []) (begins m base) e

    abbrev Those : (first : ℕ) → statement.Stmts A → Type 0
    Those first xs = ListReady n c path first (begins m base) xs

    pub of_local : (f : Bool) (u : tree.TypeName A) (w : tree.Word A) (e : tree.Exp A) → Of (statement.local m f u w e) → Exp (in_own c (local_of c n f u w)) value 2 e
    unfolding FitsStmt FitsElse FitsStmts InStmt InElse InStmts TypeInStmt TypeInElse TypeInStmts
    of_local f u w e (fits, sound, refers, types) = (fits.3, λ i k z. sound i k (inr z), λ i d z. refers i d (inr z), part b.types path 2 (λ q t. TypeBelow rows (in_own c (local_of c n f u w)) e q t) (λ q t. types (2 ∷ q) t))

    pub of_eval : (e : tree.Exp A) → Of (statement.eval m e) → Exp c role.statement 0 e
    unfolding FitsStmt FitsElse FitsStmts InStmt InElse InStmts TypeInStmt TypeInElse TypeInStmts
    of_eval e (fits, sound, refers, types) = (fits.1, λ i k z. sound i k (inr z), λ i d z. refers i d (inr z), part b.types path 0 (λ q t. TypeBelow rows c e q t) (λ q t. types (0 ∷ q) t))

    pub of_condition : (e : tree.Exp A) (x : statement.Stmt A) (o : statement.Else A) → Of (statement.branch m e x o) → Exp c value 0 e
    unfolding FitsStmt FitsElse FitsStmts InStmt InElse InStmts TypeInStmt TypeInElse TypeInStmts
    of_condition e x o (fits, sound, refers, types) = (fits.1, λ i k z. sound i k (inr (inl z)), λ i d z. refers i d (inr (inl z)), part b.types path 0 (λ q t. TypeBelow rows c e q t) (λ q t. types (0 ∷ q) t))

    pub of_then : (e : tree.Exp A) (x : statement.Stmt A) (o : statement.Else A) → Of (statement.branch m e x o) → StmtReady n c (path ++ 1 ∷ []) (begins m base) x
    unfolding FitsStmt FitsElse FitsStmts InStmt InElse InStmts TypeInStmt TypeInElse TypeInStmts
    of_then e x o (fits, sound, refers, types) = (fits.2, λ i k z. sound i k (inr (inr (inl z))), λ i d z. refers i d (inr (inr (inl z))), part b.types path 1 (λ q t. TypeInStmt rows n c x q t) (λ q t. types (1 ∷ q) t))

    pub of_else : (e : tree.Exp A) (x y : statement.Stmt A) → Of (statement.branch m e x (statement.otherwise y)) → StmtReady (n + locals_in x) c (path ++ 2 ∷ []) (begins m base) y
    unfolding FitsStmt FitsElse FitsStmts InStmt InElse InStmts TypeInStmt TypeInElse TypeInStmts
    of_else e x y (fits, sound, refers, types) = (fits.3, λ i k z. sound i k (inr (inr (inr z))), λ i d z. refers i d (inr (inr (inr z))), part b.types path 2 (λ q t. TypeInStmt rows (n + locals_in x) c y q t) (λ q t. types (2 ∷ q) t))

    pub of_turning : (e : tree.Exp A) (x : statement.Stmt A) → Of (statement.loop m e x) → Exp c value 0 e
    unfolding FitsStmt FitsElse FitsStmts InStmt InElse InStmts TypeInStmt TypeInElse TypeInStmts
    of_turning e x (fits, sound, refers, types) = (fits.1, λ i k z. sound i k (inr (inl z)), λ i d z. refers i d (inr (inl z)), part b.types path 0 (λ q t. TypeBelow rows c e q t) (λ q t. types (0 ∷ q) t))

    pub of_body : (e : tree.Exp A) (x : statement.Stmt A) → Of (statement.loop m e x) → StmtReady n c (path ++ 1 ∷ []) (begins m base) x
    unfolding FitsStmt FitsElse FitsStmts InStmt InElse InStmts TypeInStmt TypeInElse TypeInStmts
    of_body e x (fits, sound, refers, types) = (fits.2, λ i k z. sound i k (inr (inr z)), λ i d z. refers i d (inr (inr z)), part b.types path 1 (λ q t. TypeInStmt rows n c x q t) (λ q t. types (1 ∷ q) t))

    pub of_returned : (e : tree.Exp A) → Of (statement.return m (Some e)) → Exp c value 0 e
    unfolding FitsStmt FitsElse FitsStmts InStmt InElse InStmts TypeInStmt TypeInElse TypeInStmts
    of_returned e (fits, sound, refers, types) = (fits.1, λ i k z. sound i k (inr z), λ i d z. refers i d (inr z), part b.types path 0 (λ q t. TypeBelow rows c e q t) (λ q t. types (0 ∷ q) t))

    pub of_block : (xs : statement.Stmts A) → Of (statement.block m xs) → Those 0 xs
    unfolding FitsStmt FitsElse FitsStmts InStmt InElse InStmts TypeInStmt TypeInElse TypeInStmts
    of_block xs (fits, sound, refers, types) =
        (fits.1, λ i k z. sound i k (inr (inr z)), λ i d z. refers i d (inr (inr z)), λ k step is q t. let e : step ≡ k = omega (arith, is) in subst (λ i. (find_type b.types (path ++ i ∷ q) ≡ Some t) ↔ TypeInStmts rows n c xs step q t) e (types (step ∷ q) t))

    pub of_lock : (e : tree.Exp A) (xs : statement.Stmts A) → Of (statement.sync m e xs) → Exp c value 0 e
    unfolding FitsStmt FitsElse FitsStmts InStmt InElse InStmts TypeInStmt TypeInElse TypeInStmts
    of_lock e xs (fits, sound, refers, types) = (fits.1, λ i k z. sound i k (inr (inl z)), λ i d z. refers i d (inr (inl z)), part b.types path 0 (λ q t. TypeBelow rows c e q t) (λ q t. types (0 ∷ q) t))

    pub of_locked : (e : tree.Exp A) (xs : statement.Stmts A) → Of (statement.sync m e xs) → Those 1 xs
    unfolding FitsStmt FitsElse FitsStmts InStmt InElse InStmts TypeInStmt TypeInElse TypeInStmts
    of_locked e xs (fits, sound, refers, types) =
        (fits.2, λ i k z. sound i k (inr (inr (inr z))), λ i d z. refers i d (inr (inr (inr z))), λ k step is q t. let e : suc step ≡ k = omega (arith, is) in subst (λ i. (find_type b.types (path ++ i ∷ q) ≡ Some t) ↔ TypeInStmts rows n c xs step q t) e (types (suc step ∷ q) t))

  -- of a list the first, and those behind it
  module _ (n : ℕ) (c : Context) (path : List ℕ) (first base : ℕ) (x : statement.Stmt A) (xs : statement.Stmts A) where
    pub first_of_list : ListReady n c path first base (statement.more x xs) → StmtReady n c (path ++ first ∷ []) base x
    unfolding FitsStmt FitsElse FitsStmts InStmt InElse InStmts TypeInStmt TypeInElse TypeInStmts
    first_of_list (fits, sound, refers, types) = (fits.0, λ i k z. sound i k (inl z), λ i d z. refers i d (inl z), part b.types path first (λ q t. TypeInStmt rows n c x q t) (λ q t. types first 0 (omega arith) q t))

    pub rest_of_list : (next : ℕ) → next ≡ suc first → ListReady n c path first base (statement.more x xs) → ListReady (n + locals_in x) (after n c x) path next base xs
    unfolding FitsStmt FitsElse FitsStmts InStmt InElse InStmts TypeInStmt TypeInElse TypeInStmts
    rest_of_list next behind (fits, sound, refers, types) = (fits.1, λ i k z. sound i k (inr z), λ i d z. refers i d (inr z), λ k j is q t. types k (suc j) (omega (arith, is, behind)) q t)
