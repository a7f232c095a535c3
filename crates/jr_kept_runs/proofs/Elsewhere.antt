-- An image of code is one wherever the new code stands: its places are free.
use Rattle.std.proofs.Common.{◌≡◌, ℕ, List, None, sym, subst, ◌∙◌}
use Rattle.jr_runs.specs.Values.{Value}
use Rattle.jr_runs.specs.Core as core
use Rattle.jr_runs.specs.Rows as core_rows
use Rattle.jr_runs.specs.KeyMaps.{KeyMap, value_image}
use Rattle.jr_table.specs.Keys.{ClassKey, FieldKey, MethodKey, CtorKey}
use Rattle.jr_code.specs.RunKeys.{RunKeys}
use Rattle.jr_code.specs.Coded.{Code, TargetCode}
use Rattle.jr_code.specs.CodedStatements.{StatementCode, ListCode}
use Rattle.jr_code.specs.CodedMembers.{MemberCode}
use Rattle.jr_kept_runs.proofs.KeptCode.{ToExp, ToTarget, ToExps, literal_to, this_to, read_to, assign_to, compound_to, bump_to, signed_to, binary_to, both_to, either_to, cast_to, static_call_to, instance_call_to, super_call_to, create_to, super_constructor_to, local_to, static_field_to, field_of_to, end_to, more_to, ToStmt, ToStmts, declare_to, eval_to, branch_to, loop_to, return_to, return_nothing_to, block_to, sync_to, empty_to, no_more_to, list_to, ToCode, ToMethod}
use Rattle.jr_kept_runs.proofs.SameMarks.{no_places, no_target_places, no_row_places}
use Rattle.jr_kept_runs.proofs.SameBodies.{no_stmt_places, no_list_places, IsElsewhere, MethodElsewhere}

module _ (r : KeyMap RunKeys) (R : core_rows.Rows RunKeys) (n : ℕ) where
  abbrev E : Code → Code → Type 0
  E x z = ToExp r R n x z

  abbrev T : TargetCode → TargetCode → Type 0
  T x z = ToTarget r R n x z

  abbrev L : core.Exps RunKeys → core.Exps RunKeys → Type 0
  L x z = ToExps r R n x z

  -- without places
  mutual
    bare_exp : (x y : Code) → E x y → E x (no_places y)
    bare_exp x y (literal_to p q v) = literal_to p None v
    bare_exp x y (this_to p q) = this_to p None
    bare_exp x y (read_to p q t t' f) = read_to p None t (no_target_places t') (bare_target t t' f)
    bare_exp x y (assign_to p q t t' e e' f h) = assign_to p None t (no_target_places t') e (no_places e') (bare_target t t' f) (bare_exp e e' h)
    bare_exp x y (compound_to p q o t t' e e' f h) = compound_to p None o t (no_target_places t') e (no_places e') (bare_target t t' f) (bare_exp e e' h)
    bare_exp x y (bump_to p q o t t' f) = bump_to p None o t (no_target_places t') (bare_target t t' f)
    bare_exp x y (signed_to p q o e e' h) = signed_to p None o e (no_places e') (bare_exp e e' h)
    bare_exp x y (binary_to p q o a a' b b' f h) = binary_to p None o a (no_places a') b (no_places b') (bare_exp a a' f) (bare_exp b b' h)
    bare_exp x y (both_to p q a a' b b' f h) = both_to p None a (no_places a') b (no_places b') (bare_exp a a' f) (bare_exp b b' h)
    bare_exp x y (either_to p q a a' b b' f h) = either_to p None a (no_places a') b (no_places b') (bare_exp a a' f) (bare_exp b b' h)
    bare_exp x y (cast_to p q c e e' h) = cast_to p None c e (no_places e') (bare_exp e e' h)
    bare_exp x y (static_call_to p q m es es' has h) = static_call_to p None m es (no_row_places es') has (bare_row es es' h)
    bare_exp x y (instance_call_to p q e e' m es es' has f h) = instance_call_to p None e (no_places e') m es (no_row_places es') has (bare_exp e e' f) (bare_row es es' h)
    bare_exp x y (super_call_to p q e e' m es es' has f h) = super_call_to p None e (no_places e') m es (no_row_places es') has (bare_exp e e' f) (bare_row es es' h)
    bare_exp x y (create_to p q c k es es' has h) = create_to p None c k es (no_row_places es') has (bare_row es es' h)
    bare_exp x y (super_constructor_to p q e e' k es es' has f h) = super_constructor_to p None e (no_places e') k es (no_row_places es') has (bare_exp e e' f) (bare_row es es' h)

    bare_target : (x y : TargetCode) → T x y → T x (no_target_places y)
    bare_target x y (local_to p q i below) = local_to p None i below
    bare_target x y (static_field_to p q f) = static_field_to p None f
    bare_target x y (field_of_to p q e e' f h) = field_of_to p None e (no_places e') f (bare_exp e e' h)

    bare_row : (x y : core.Exps RunKeys) → L x y → L x (no_row_places y)
    bare_row x y end_to = end_to
    bare_row x y (more_to e e' es es' f h) = more_to e (no_places e') es (no_row_places es') (bare_exp e e' f) (bare_row es es' h)

  -- and with others
  mutual
    placed_exp : (x y z : Code) → E x y → y ≡ no_places z → E x z
    placed_exp x y (core.literal k u) (literal_to p q v) e = let same : value_image r v ≡ u = cc in subst (λ (w : Value RunKeys). E (core.literal p v) (core.literal k w)) same (literal_to p k v)
    placed_exp x y (core.this k) (this_to p q) e = this_to p k
    placed_exp x y (core.read k u) (read_to p q t t' f) e = let same : t' ≡ no_target_places u = cc in read_to p k t u (placed_target t t' u f same)
    placed_exp x y (core.assign k u w) (assign_to p q t t' a a' f h) e =
        let same : t' ≡ no_target_places u = cc in let value : a' ≡ no_places w = cc in assign_to p k t u a w (placed_target t t' u f same) (placed_exp a a' w h value)
    placed_exp x y (core.compound k l u w) (compound_to p q o t t' a a' f h) e =
        let same : t' ≡ no_target_places u = cc in let value : a' ≡ no_places w = cc in let op : o ≡ l = cc in
        subst (λ j. E (core.compound p o t a) (core.compound k j u w)) op (compound_to p k o t u a w (placed_target t t' u f same) (placed_exp a a' w h value))
    placed_exp x y (core.bump k l u) (bump_to p q o t t' f) e =
        let same : t' ≡ no_target_places u = cc in let op : o ≡ l = cc in subst (λ j. E (core.bump p o t) (core.bump k j u)) op (bump_to p k o t u (placed_target t t' u f same))
    placed_exp x y (core.signed k l w) (signed_to p q o a a' h) e =
        let value : a' ≡ no_places w = cc in let op : o ≡ l = cc in subst (λ j. E (core.signed p o a) (core.signed k j w)) op (signed_to p k o a w (placed_exp a a' w h value))
    placed_exp x y (core.binary k l u w) (binary_to p q o a a' b b' f h) e =
        let first : a' ≡ no_places u = cc in let second : b' ≡ no_places w = cc in let op : o ≡ l = cc in
        subst (λ j. E (core.binary p o a b) (core.binary k j u w)) op (binary_to p k o a u b w (placed_exp a a' u f first) (placed_exp b b' w h second))
    placed_exp x y (core.both k u w) (both_to p q a a' b b' f h) e = let first : a' ≡ no_places u = cc in let second : b' ≡ no_places w = cc in both_to p k a u b w (placed_exp a a' u f first) (placed_exp b b' w h second)
    placed_exp x y (core.either k u w) (either_to p q a a' b b' f h) e = let first : a' ≡ no_places u = cc in let second : b' ≡ no_places w = cc in either_to p k a u b w (placed_exp a a' u f first) (placed_exp b b' w h second)
    placed_exp x y (core.cast k l w) (cast_to p q c a a' h) e =
        let value : a' ≡ no_places w = cc in let key : r.class c ≡ l = cc in subst (λ (j : ClassKey). E (core.cast p c a) (core.cast k j w)) key (cast_to p k c a w (placed_exp a a' w h value))
    placed_exp x y (core.static_call k l ws) (static_call_to p q m es es' has h) e =
        let row : es' ≡ no_row_places ws = cc in let key : r.method m ≡ l = cc in subst (λ (j : MethodKey). E (core.static_call p m es) (core.static_call k j ws)) key (static_call_to p k m es ws has (placed_row es es' ws h row))
    placed_exp x y (core.instance_call k w l ws) (instance_call_to p q a a' m es es' has f h) e =
        let value : a' ≡ no_places w = cc in let row : es' ≡ no_row_places ws = cc in let key : r.method m ≡ l = cc in
        subst (λ (j : MethodKey). E (core.instance_call p a m es) (core.instance_call k w j ws)) key (instance_call_to p k a w m es ws has (placed_exp a a' w f value) (placed_row es es' ws h row))
    placed_exp x y (core.super_call k w l ws) (super_call_to p q a a' m es es' has f h) e =
        let value : a' ≡ no_places w = cc in let row : es' ≡ no_row_places ws = cc in let key : r.method m ≡ l = cc in
        subst (λ (j : MethodKey). E (core.super_call p a m es) (core.super_call k w j ws)) key (super_call_to p k a w m es ws has (placed_exp a a' w f value) (placed_row es es' ws h row))
    placed_exp x y (core.create k l o ws) (create_to p q c m es es' has h) e =
        let row : es' ≡ no_row_places ws = cc in let key : r.class c ≡ l = cc in let ctor : r.constructor m ≡ o = cc in
        subst (λ (j : ClassKey). E (core.create p c m es) (core.create k j o ws)) key (subst (λ (j : CtorKey). E (core.create p c m es) (core.create k (r.class c) j ws)) ctor (create_to p k c m es ws has (placed_row es es' ws h row)))
    placed_exp x y (core.super_constructor k w l ws) (super_constructor_to p q a a' m es es' has f h) e =
        let value : a' ≡ no_places w = cc in let row : es' ≡ no_row_places ws = cc in let key : r.constructor m ≡ l = cc in
        subst (λ (j : CtorKey). E (core.super_constructor p a m es) (core.super_constructor k w j ws)) key (super_constructor_to p k a w m es ws has (placed_exp a a' w f value) (placed_row es es' ws h row))
    placed_exp x y _ (literal_to p q v) e = absurd cc
    placed_exp x y _ (this_to p q) e = absurd cc
    placed_exp x y _ (read_to p q t t' f) e = absurd cc
    placed_exp x y _ (assign_to p q t t' a a' f h) e = absurd cc
    placed_exp x y _ (compound_to p q o t t' a a' f h) e = absurd cc
    placed_exp x y _ (bump_to p q o t t' f) e = absurd cc
    placed_exp x y _ (signed_to p q o a a' h) e = absurd cc
    placed_exp x y _ (binary_to p q o a a' b b' f h) e = absurd cc
    placed_exp x y _ (both_to p q a a' b b' f h) e = absurd cc
    placed_exp x y _ (either_to p q a a' b b' f h) e = absurd cc
    placed_exp x y _ (cast_to p q c a a' h) e = absurd cc
    placed_exp x y _ (static_call_to p q m es es' has h) e = absurd cc
    placed_exp x y _ (instance_call_to p q a a' m es es' has f h) e = absurd cc
    placed_exp x y _ (super_call_to p q a a' m es es' has f h) e = absurd cc
    placed_exp x y _ (create_to p q c m es es' has h) e = absurd cc
    placed_exp x y _ (super_constructor_to p q a a' m es es' has f h) e = absurd cc

    placed_target : (x y z : TargetCode) → T x y → y ≡ no_target_places z → T x z
    placed_target x y (core.local k j) (local_to p q i below) e = let same : i ≡ j = cc in subst (λ (l : ℕ). T (core.local p i) (core.local k l)) same (local_to p k i below)
    placed_target x y (core.static_field k j) (static_field_to p q f) e = let same : r.field f ≡ j = cc in subst (λ (l : FieldKey). T (core.static_field p f) (core.static_field k l)) same (static_field_to p k f)
    placed_target x y (core.field_of k w j) (field_of_to p q a a' f h) e =
        let same : r.field f ≡ j = cc in let value : a' ≡ no_places w = cc in subst (λ (l : FieldKey). T (core.field_of p a f) (core.field_of k w l)) same (field_of_to p k a w f (placed_exp a a' w h value))
    placed_target x y _ (local_to p q i below) e = absurd cc
    placed_target x y _ (static_field_to p q f) e = absurd cc
    placed_target x y _ (field_of_to p q a a' f h) e = absurd cc

    placed_row : (x y z : core.Exps RunKeys) → L x y → y ≡ no_row_places z → L x z
    placed_row x y core.Exps.end end_to e = end_to
    placed_row x y (core.Exps.more w ws) (more_to a a' es es' f h) e = let value : a' ≡ no_places w = cc in let row : es' ≡ no_row_places ws = cc in more_to a w es ws (placed_exp a a' w f value) (placed_row es es' ws h row)
    placed_row x y (core.Exps.more w ws) end_to e = absurd cc
    placed_row x y core.Exps.end (more_to a a' es es' f h) e = absurd cc

  -- new code is an image wherever it stands
  pub exp_elsewhere : (x y z : Code) → no_places z ≡ no_places y → E x y → E x z
  exp_elsewhere x y z e h = placed_exp x (no_places y) z (bare_exp x y h) (sym e)

  -- ---- statements

  abbrev S : StatementCode → StatementCode → Type 0
  S s t = ToStmt r R n s t

  abbrev B : ListCode → ListCode → Type 0
  B s t = ToStmts r R n s t

  mutual
    bare_stmt : (x y : StatementCode) → S x y → S x (no_stmt_places y)
    bare_stmt x y (declare_to p q m a b below h) = declare_to p None m a (no_places b) below (bare_exp a b h)
    bare_stmt x y (eval_to p q a b h) = eval_to p None a (no_places b) (bare_exp a b h)
    bare_stmt x y (branch_to p q a b s t u v h i j) = branch_to p None a (no_places b) s (no_stmt_places t) u (no_stmt_places v) (bare_exp a b h) (bare_stmt s t i) (bare_stmt u v j)
    bare_stmt x y (loop_to p q a b s t h i) = loop_to p None a (no_places b) s (no_stmt_places t) (bare_exp a b h) (bare_stmt s t i)
    bare_stmt x y (return_to p q a b h) = return_to p None a (no_places b) (bare_exp a b h)
    bare_stmt x y (return_nothing_to p q) = return_nothing_to p None
    bare_stmt x y (block_to p q ns s t h) = block_to p None ns s (no_list_places t) (bare_list s t h)
    bare_stmt x y (sync_to p q u v a b s t h i) = sync_to p q None None a (no_places b) s (no_list_places t) (bare_exp a b h) (bare_list s t i)
    bare_stmt x y (empty_to p q) = empty_to p None

    bare_list : (x y : ListCode) → B x y → B x (no_list_places y)
    bare_list x y no_more_to = no_more_to
    bare_list x y (list_to s t u v h i) = list_to s (no_stmt_places t) u (no_list_places v) (bare_stmt s t h) (bare_list u v i)

  mutual
    placed_stmt : (x y z : StatementCode) → S x y → y ≡ no_stmt_places z → S x z
    placed_stmt x y (core.declare k l w) (declare_to p q m a b below h) e =
        let value : b ≡ no_places w = cc in let number : m ≡ l = cc in subst (λ (j : ℕ). S (core.declare p m a) (core.declare k j w)) number (declare_to p k m a w below (placed_exp a b w h value))
    placed_stmt x y (core.eval k w) (eval_to p q a b h) e = let value : b ≡ no_places w = cc in eval_to p k a w (placed_exp a b w h value)
    placed_stmt x y (core.branch k w f g) (branch_to p q a b s t u v h i j) e =
        let value : b ≡ no_places w = cc in let first : t ≡ no_stmt_places f = cc in let second : v ≡ no_stmt_places g = cc in
        branch_to p k a w s f u g (placed_exp a b w h value) (placed_stmt s t f i first) (placed_stmt u v g j second)
    placed_stmt x y (core.loop k w f) (loop_to p q a b s t h i) e =
        let value : b ≡ no_places w = cc in let first : t ≡ no_stmt_places f = cc in loop_to p k a w s f (placed_exp a b w h value) (placed_stmt s t f i first)
    placed_stmt x y (core.return k w) (return_to p q a b h) e = let value : b ≡ no_places w = cc in return_to p k a w (placed_exp a b w h value)
    placed_stmt x y (core.return_nothing k) (return_nothing_to p q) e = return_nothing_to p k
    placed_stmt x y (core.block k ms f) (block_to p q ns s t h) e =
        let first : t ≡ no_list_places f = cc in let numbers : ns ≡ ms = cc in subst (λ (j : List ℕ). S (core.block p ns s) (core.block k j f)) numbers (block_to p k ns s f (placed_list s t f h first))
    placed_stmt x y (core.sync k l w f) (sync_to p q u v a b s t h i) e =
        let value : b ≡ no_places w = cc in let first : t ≡ no_list_places f = cc in sync_to p q k l a w s f (placed_exp a b w h value) (placed_list s t f i first)
    placed_stmt x y (core.empty k) (empty_to p q) e = empty_to p k
    placed_stmt x y _ (declare_to p q m a b below h) e = absurd cc
    placed_stmt x y _ (eval_to p q a b h) e = absurd cc
    placed_stmt x y _ (branch_to p q a b s t u v h i j) e = absurd cc
    placed_stmt x y _ (loop_to p q a b s t h i) e = absurd cc
    placed_stmt x y _ (return_to p q a b h) e = absurd cc
    placed_stmt x y _ (return_nothing_to p q) e = absurd cc
    placed_stmt x y _ (block_to p q ns s t h) e = absurd cc
    placed_stmt x y _ (sync_to p q u v a b s t h i) e = absurd cc
    placed_stmt x y _ (empty_to p q) e = absurd cc

    placed_list : (x y z : ListCode) → B x y → y ≡ no_list_places z → B x z
    placed_list x y core.Stmts.end no_more_to e = no_more_to
    placed_list x y (core.Stmts.more f g) (list_to s t u v h i) e =
        let first : t ≡ no_stmt_places f = cc in let rest : v ≡ no_list_places g = cc in list_to s f u g (placed_stmt s t f h first) (placed_list u v g i rest)
    placed_list x y (core.Stmts.more f g) no_more_to e = absurd cc
    placed_list x y core.Stmts.end (list_to s t u v h i) e = absurd cc

  pub stmt_elsewhere : (x y z : StatementCode) → no_stmt_places z ≡ no_stmt_places y → S x y → S x z
  stmt_elsewhere x y z e h = placed_stmt x (no_stmt_places y) z (bare_stmt x y h) (sym e)

  pub list_elsewhere : (x y z : ListCode) → no_list_places z ≡ no_list_places y → B x y → B x z
  list_elsewhere x y z e h = placed_list x (no_list_places y) z (bare_list x y h) (sym e)

-- ---- members

module _ (r : KeyMap RunKeys) (R : core_rows.Rows RunKeys) where
  pub code_elsewhere : (x y z : MemberCode) → IsElsewhere z y → ToCode r R x y → ToCode r R x z
  code_elsewhere x y z e h = record { size = h.size; params = e.params ∙ h.params; below = h.below; body = list_elsewhere r R h.size x.body y.body z.body e.body h.body }

  pub method_elsewhere : (x y z : core.Method RunKeys) → MethodElsewhere z y → ToMethod r R x y → ToMethod r R x z
  method_elsewhere (core.written x) (core.written y) (core.written z) e h = code_elsewhere x y z e h
  method_elsewhere core.starts core.starts core.starts e h = tt
  method_elsewhere (core.written x) (core.written y) core.starts e h = absurd e
  method_elsewhere (core.written x) core.starts z e h = absurd h
  method_elsewhere core.starts (core.written y) z e h = absurd h
  method_elsewhere core.starts core.starts (core.written z) e h = absurd e
