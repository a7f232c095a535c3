-- Where the parts of classes and members stand among their children.
use Rattle.std.proofs.Common.{◌≡◌, ℕ, zero, suc, ◌+◌, ◌-◌, ◌≤◌, ◌<◌, List, [], ◌∷◌, ◌++◌, Option, Some, None, length, option_map, option_and_then, map, refl, sym, ap, ◌∙◌, add-zero, arith}
use Rattle.std.specs.List.{slice_get}
use Rattle.jr_ast.specs.Tree as tree
use Rattle.jr_ast.specs.StatementTree as statement
use Rattle.jr_ast.specs.MemberTree as declared
use Rattle.jr_ast.specs.Nodes as pure
use Rattle.jr_paths_nodes.specs.With.{get_from, first_member, first_init, first_parent_arg, first_in_method, first_in_constructor, with_stmt_from, with_exp_from, with_parent_args}
use Rattle.jr_paths_nodes.specs.MemberLent.{left_of, names_of, at_place, with_stmt_left, with_arg_left}
use Rattle.jr_paths_nodes.proofs.Picks.{Each}

-- numbers once children are passed over
pub left_at : (count number : ℕ) → count ≤ number → Some (number - count) ≡ left_of count number
left_at zero number h = ap Some (omega arith)
left_at (suc count) zero h = absurd (omega (h, arith))
left_at (suc count) (suc number) h = ap Some (omega arith) ∙ left_at count number (omega (h, arith))

pub left_none : (count number : ℕ) → number < count → None ≡ left_of count number
left_none zero number h = absurd (omega (h, arith))
left_none (suc count) zero h = refl
left_none (suc count) (suc number) h = left_none count number (omega (h, arith))

pub left_sum : (a b number : ℕ) → option_and_then (left_of b) (left_of a number) ≡ left_of (a + b) number
left_sum zero b number = let same : b ≡ 0 + b = omega arith in ap (λ k. left_of k number) same
left_sum (suc a) b zero = let same : suc (a + b) ≡ suc a + b = omega arith in ap (λ k. left_of k 0) same
left_sum (suc a) b (suc number) = let same : suc (a + b) ≡ suc a + b = omega arith in left_sum a b number ∙ ap (λ k. left_of k (suc number)) same

-- three parts in turn
pub left_three : (a b c number : ℕ) (x y z : Option ℕ) → x ≡ option_and_then (left_of a) (Some number) → y ≡ option_and_then (left_of b) x → z ≡ option_and_then (left_of c) y
    → z ≡ left_of (a + (b + c)) number
left_three a b c number x y z first second third =
    let same : (a + b) + c ≡ a + (b + c) = omega arith in
    third ∙ ap (option_and_then (left_of c)) (second ∙ ap (option_and_then (left_of b)) first ∙ left_sum a b number) ∙ left_sum (a + b) c number ∙ ap (λ k. left_of k number) same

pub left_more : (a b number : ℕ) (x y : Option ℕ) → x ≡ left_of a number → y ≡ option_and_then (left_of b) x → y ≡ left_of (a + b) number
left_more a b number x y first second = second ∙ ap (option_and_then (left_of b)) first ∙ left_sum a b number

pub method_first : {A : Type 0} (mods : List (declared.Modifier A)) (t : Option (tree.TypeName A)) (ps : List (declared.Param A))
    → length mods + (names_of t + length ps) ≡ first_in_method mods t ps
method_first mods None ps = refl
method_first mods (Some t) ps = refl

-- what an item is as one of a kind, behind items that are of no such kind
module _ {X Y : Type 0} (f : X → Option Y) where
  abbrev pub got : ℕ → List X → ℕ → Option Y
  got a xs i = option_and_then f (get_from a xs i)

  pub got-nil : (a i : ℕ) → got a [] i ≡ None
  got-nil zero i = refl
  got-nil (suc a) zero = refl
  got-nil (suc a) (suc i) = got-nil a i

  pub got_one : (a : ℕ) (y : X) (rest : List X) (i : ℕ) → f y ≡ None → got a (y ∷ rest) i ≡ got (suc a) rest i
  got_one zero y rest zero h = h
  got_one zero y rest (suc i) h = refl
  got_one (suc a) y rest zero h = refl
  got_one (suc a) y rest (suc i) h = got_one a y rest i h

  pub got_map : {Z : Type 0} (g : Z → X) (zs : List Z) (a : ℕ) (rest : List X) (i : ℕ) → ((z : Z) → f (g z) ≡ None) → got a (map g zs ++ rest) i ≡ got (a + length zs) rest i
  got_map g [] a rest i none = ap (λ k. got k rest i) (sym (add-zero a))
  got_map g (z ∷ zs) a rest i none =
      let e : suc a + length zs ≡ a + suc (length zs) = omega arith in
      got_one a (g z) (map g zs ++ rest) i (none z) ∙ got_map g zs (suc a) rest i none ∙ ap (λ k. got k rest i) e

  pub got_left : (a : ℕ) (xs : List X) (i : ℕ) → at_place f xs (left_of a i) ≡ got a xs i
  got_left zero xs i = refl
  got_left (suc a) xs zero = refl
  got_left (suc a) xs (suc i) = got_left a xs i

module _ {A : Type 0} where
  pub stmts_with_left : (first : ℕ) (ss : statement.Stmts A) (number : ℕ) (x : statement.Stmt A) → with_stmt_left ss (left_of first number) x ≡ with_stmt_from first ss number x
  stmts_with_left zero ss number x = refl
  stmts_with_left (suc first) ss zero x = refl
  stmts_with_left (suc first) ss (suc number) x = stmts_with_left first ss number x

  exps_with_left : (first : ℕ) (es : tree.Exps A) (number : ℕ) (x : tree.Exp A) → with_arg_left (Some es) (left_of first number) x ≡ Some (with_exp_from first es number x)
  exps_with_left zero es number x = refl
  exps_with_left (suc first) es zero x = refl
  exps_with_left (suc first) es (suc number) x = exps_with_left first es number x

  pub args_with_left : (first : ℕ) (args : Option (tree.Exps A)) (number : ℕ) (x : tree.Exp A) → with_arg_left args (left_of first number) x ≡ with_parent_args first args number x
  args_with_left first None number x = refl
  args_with_left first (Some es) number x = exps_with_left first es number x

  no_exp_among : (ss : statement.Stmts A) (a i : ℕ) → got pure.as_exp a (pure.stmts ss) i ≡ None
  no_exp_among statement.end a i = got-nil pure.as_exp a i
  no_exp_among (statement.more s ss) zero zero = refl
  no_exp_among (statement.more s ss) zero (suc i) = no_exp_among ss zero i
  no_exp_among (statement.more s ss) (suc a) zero = refl
  no_exp_among (statement.more s ss) (suc a) (suc i) = no_exp_among (statement.more s ss) a i

  exps_in_front : (es : tree.Exps A) (ss : statement.Stmts A) (a i : ℕ) → got pure.as_exp a (pure.exps es ++ pure.stmts ss) i ≡ got pure.as_exp a (pure.exps es) i
  exps_in_front tree.end ss a i = no_exp_among ss a i ∙ sym (got-nil pure.as_exp a i)
  exps_in_front (tree.more e es) ss zero zero = refl
  exps_in_front (tree.more e es) ss zero (suc i) = exps_in_front es ss zero i
  exps_in_front (tree.more e es) ss (suc a) zero = refl
  exps_in_front (tree.more e es) ss (suc a) (suc i) = exps_in_front (tree.more e es) ss a i

  args_in_front : (args : Option (tree.Exps A)) (ss : statement.Stmts A) (a i : ℕ)
      → got pure.as_exp a (pure.args_children args ++ pure.stmts ss) i ≡ got pure.as_exp a (pure.args_children args) i
  args_in_front None ss a i = no_exp_among ss a i ∙ sym (got-nil pure.as_exp a i)
  args_in_front (Some es) ss a i = exps_in_front es ss a i

  past_exps : (es : tree.Exps A) (a : ℕ) (rest : List (pure.Node A)) (i : ℕ) → got pure.as_stmt a (pure.exps es ++ rest) i ≡ got pure.as_stmt (a + length (pure.exps es)) rest i
  past_exps tree.end a rest i = ap (λ k. got pure.as_stmt k rest i) (sym (add-zero a))
  past_exps (tree.more e es) a rest i =
      let same : suc a + length (pure.exps es) ≡ a + suc (length (pure.exps es)) = omega arith in
      got_one pure.as_stmt a (pure.exp e) (pure.exps es ++ rest) i refl ∙ past_exps es (suc a) rest i ∙ ap (λ k. got pure.as_stmt k rest i) same

  past_args : (args : Option (tree.Exps A)) (a : ℕ) (rest : List (pure.Node A)) (i : ℕ)
      → got pure.as_stmt a (pure.args_children args ++ rest) i ≡ got pure.as_stmt (a + length (pure.args_children args)) rest i
  past_args None a rest i = ap (λ k. got pure.as_stmt k rest i) (sym (add-zero a))
  past_args (Some es) a rest i = past_exps es a rest i

  -- behind modifiers, and a name with parameters
  past_modifiers : {Y : Type 0} (f : pure.Node A → Option Y) (mods : List (declared.Modifier A)) (rest : List (pure.Node A)) (i : ℕ) → ((m : declared.Modifier A) → f (pure.modifier m) ≡ None)
      → got f 0 (map pure.modifier mods ++ rest) i ≡ got f (length mods) rest i
  past_modifiers f mods rest i none =
      let same : 0 + length mods ≡ length mods = omega arith in
      got_map f pure.modifier mods 0 rest i none ∙ ap (λ k. got f k rest i) same

  past_params : {Y : Type 0} (f : pure.Node A → Option Y) (a : ℕ) (w : tree.Word A) (ps : List (declared.Param A)) (rest : List (pure.Node A)) (i : ℕ)
      → f (pure.word w) ≡ None → ((p : declared.Param A) → f (pure.param p) ≡ None)
      → got f a (pure.word w ∷ (map pure.param ps ++ rest)) i ≡ got f (a + (1 + length ps)) rest i
  past_params f a w ps rest i no_word no_param =
      let same : suc a + length ps ≡ a + (1 + length ps) = omega arith in
      got_one f a (pure.word w) (map pure.param ps ++ rest) i no_word ∙ got_map f pure.param ps (suc a) rest i no_param ∙ ap (λ k. got f k rest i) same

  -- members of a class
  pub member_in_class : (mods : List (declared.Modifier A)) (w : tree.Word A) (t : Option (tree.TypeName A)) (ms : declared.Members A) (i : ℕ)
      → got pure.as_member 0 (map pure.modifier mods ++ (pure.word w ∷ (pure.maybe (option_map pure.type t) ++ pure.members ms))) i ≡ got pure.as_member (first_member mods t) (pure.members ms) i
  member_in_class mods w None ms i =
      let same : suc (length mods) ≡ length mods + 1 = omega arith in
      let f = pure.as_member in
      past_modifiers f mods (pure.word w ∷ pure.members ms) i (λ m. refl) ∙ got_one f (length mods) (pure.word w) (pure.members ms) i refl
      ∙ ap (λ k. got f k (pure.members ms) i) same
  member_in_class mods w (Some t) ms i =
      let same : suc (suc (length mods)) ≡ length mods + 2 = omega arith in
      let f = pure.as_member in
      past_modifiers f mods (pure.word w ∷ (pure.type t ∷ pure.members ms)) i (λ m. refl) ∙ got_one f (length mods) (pure.word w) (pure.type t ∷ pure.members ms) i refl
      ∙ got_one f (suc (length mods)) (pure.type t) (pure.members ms) i refl ∙ ap (λ k. got f k (pure.members ms) i) same

  -- statements of a body
  pub stmt_in_method : (mods : List (declared.Modifier A)) (t : Option (tree.TypeName A)) (w : tree.Word A) (ps : List (declared.Param A)) (ss : statement.Stmts A) (i : ℕ)
      → got pure.as_stmt 0 (map pure.modifier mods ++ (pure.maybe (option_map pure.type t) ++ (pure.word w ∷ (map pure.param ps ++ pure.stmts ss)))) i
      ≡ got pure.as_stmt (first_in_method mods t ps) (pure.stmts ss) i
  stmt_in_method mods None w ps ss i =
      let f = pure.as_stmt in
      past_modifiers f mods (pure.word w ∷ (map pure.param ps ++ pure.stmts ss)) i (λ m. refl) ∙ past_params f (length mods) w ps (pure.stmts ss) i refl (λ p. refl)
  stmt_in_method mods (Some t) w ps ss i =
      let same : suc (length mods) + (1 + length ps) ≡ length mods + (2 + length ps) = omega arith in
      let f = pure.as_stmt in
      let named = pure.word w ∷ (map pure.param ps ++ pure.stmts ss) in
      past_modifiers f mods (pure.type t ∷ named) i (λ m. refl) ∙ got_one f (length mods) (pure.type t) named i refl
      ∙ past_params f (suc (length mods)) w ps (pure.stmts ss) i refl (λ p. refl) ∙ ap (λ k. got f k (pure.stmts ss) i) same

  pub stmt_in_constructor : (mods : List (declared.Modifier A)) (w : tree.Word A) (ps : List (declared.Param A)) (args : Option (tree.Exps A)) (ss : statement.Stmts A) (i : ℕ)
      → got pure.as_stmt 0 (map pure.modifier mods ++ (pure.word w ∷ (map pure.param ps ++ (pure.args_children args ++ pure.stmts ss)))) i
      ≡ got pure.as_stmt (first_in_constructor mods ps args) (pure.stmts ss) i
  stmt_in_constructor mods w ps args ss i =
      let f = pure.as_stmt in
      let rest = pure.args_children args ++ pure.stmts ss in
      past_modifiers f mods (pure.word w ∷ (map pure.param ps ++ rest)) i (λ m. refl) ∙ past_params f (length mods) w ps rest i refl (λ p. refl)
      ∙ past_args args (length mods + (1 + length ps)) (pure.stmts ss) i

  -- expressions of a field, of a constructor
  pub exp_in_field : (mods : List (declared.Modifier A)) (t : tree.TypeName A) (w : tree.Word A) (init : List (pure.Node A)) (i : ℕ)
      → got pure.as_exp 0 (map pure.modifier mods ++ (pure.type t ∷ (pure.word w ∷ init))) i ≡ got pure.as_exp (first_init mods) init i
  exp_in_field mods t w init i =
      let same : suc (suc (length mods)) ≡ length mods + 2 = omega arith in
      let f = pure.as_exp in
      past_modifiers f mods (pure.type t ∷ (pure.word w ∷ init)) i (λ m. refl) ∙ got_one f (length mods) (pure.type t) (pure.word w ∷ init) i refl
      ∙ got_one f (suc (length mods)) (pure.word w) init i refl ∙ ap (λ k. got f k init i) same

  pub exp_in_constructor : (mods : List (declared.Modifier A)) (w : tree.Word A) (ps : List (declared.Param A)) (args : Option (tree.Exps A)) (ss : statement.Stmts A) (i : ℕ)
      → got pure.as_exp 0 (map pure.modifier mods ++ (pure.word w ∷ (map pure.param ps ++ (pure.args_children args ++ pure.stmts ss)))) i
      ≡ got pure.as_exp (first_parent_arg mods ps) (pure.args_children args) i
  exp_in_constructor mods w ps args ss i =
      let f = pure.as_exp in
      let rest = pure.args_children args ++ pure.stmts ss in
      past_modifiers f mods (pure.word w ∷ (map pure.param ps ++ rest)) i (λ m. refl) ∙ past_params f (length mods) w ps rest i refl (λ p. refl)
      ∙ args_in_front args ss (length mods + (1 + length ps)) i

-- no child is of a kind
pub none_among : {X Y : Type 0} (f : X → Option Y) (xs : List X) → Each (λ x. f x ≡ None) xs → (i : ℕ) → None ≡ option_and_then f (slice_get xs i)
none_among {X} f xs none i = go (slice_get xs i) refl
  where
    go : (o : Option X) → slice_get xs i ≡ o → None ≡ option_and_then f o
    go None e = refl
    go (Some x) e = sym (none i x e)

pub past_one : {X Y : Type 0} (f : X → Option Y) (x : X) (number : ℕ) → (number ≡ 0 → ⊥) → None ≡ option_and_then f (slice_get (x ∷ []) number)
past_one f x zero h = absurd (h refl)
past_one f x (suc number) h = refl

pub only_one : {X Y : Type 0} (f : X → Option Y) (x : X) (number : ℕ) → f x ≡ None → None ≡ option_and_then f (slice_get (x ∷ []) number)
only_one f x zero h = sym h
only_one f x (suc number) h = refl
