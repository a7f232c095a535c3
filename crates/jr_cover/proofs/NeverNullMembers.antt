-- What is never null by the trees of a member gives no null. Its derivation names some locals; these
-- are the set for which the member's code is careful.
use Rattle.std.proofs.Common.{◌≡◌, ◌⊎◌, ℕ, Bool, true, false, ◌||◌, nat_eq, List, [], ◌∷◌, Option, Some, None, refl, sym, ap, subst, ◌∙◌, inl, inr, ⊎_elim}
use Rattle.std.proofs.lemmas.Bool.{cases_eq, eq-eqb, ne_eqb, false_from_ne_true}
use Rattle.jr_ast.specs.Tree as tree
use Rattle.jr_ast.specs.StatementTree as statement
use Rattle.jr_runs.specs.Keys.{Keys, At}
use Rattle.jr_runs.specs.Values.{Value, int, truth, text, class_object, object}
use Rattle.jr_runs.specs.Values as values
use Rattle.jr_cover.specs.Facts.{Facts}
use Rattle.jr_runs.specs.Core as core
use Rattle.jr_runs.specs.Core.{Exp, Target, Exps, Stmt, Stmts, Code}
use Rattle.jr_cover.specs.Translation.{exp_code, exps_code, named_target, read_of, create_at, class_literal_at}
use Rattle.jr_cover.specs.StatementTranslation.{stmt_code, else_code, stmts_code}
use Rattle.jr_runs.specs.MemberTranslation.{is_synchronized, monitor, locked, in_front}
use Rattle.jr_cover.specs.MemberTranslation.{is_static, parent_args}
use Rattle.jr_cover.specs.Ways.{Way, sites_of}
use Rattle.jr_cover.specs.Sites.{Site, Known, exp_way, exps_way}
use Rattle.jr_cover.specs.Evaluated.{is_never_null}
use Rattle.jr_cover.specs.NeverNull.{IsFree, CarefulExp, CarefulTarget, CarefulExps, CarefulStmt, CarefulStmts, NoParam}
use Rattle.jr_cover.specs.NeverNullTrees.{NeverNull, this, create, string, class_literal, paren, local}
use Rattle.jr_cover.specs.Footprints.{WritesNone}
use Rattle.jr_cover.specs.NeverNullMembers.{WrittenIn, ExpAssigns, ArgsAssign, StmtAssigns, ElseAssigns, StmtsAssign, StmtDeclares, ElseDeclares, StmtsDeclare, IsBound, LocalsAre, AllCareful, HasBody, of_method, of_constructor, NeverNullGivesNoNull, NeverNullInitializersGiveNoNull}
use Rattle.jr_cover.proofs.NeverNullRuns.{never_null_is_not_null}
use Rattle.jr_cover.proofs.PieceWrites.{exp_spares, exps_spare}
use Rattle.jr_cover.proofs.Apart.{none_some, same_one, false_true}

abbrev no_local : ℕ → Bool
no_local n = false

-- ---- the locals that a derivation names

abbrev is_among : ℕ → List ℕ → Bool
is_among i [] = false
is_among i (n ∷ ns) = nat_eq n i || is_among i ns

true_or : (b c : Bool) → c ≡ true → (b || c) ≡ true
true_or true c e = refl
true_or false c e = e

among_more : (n i : ℕ) (ns : List ℕ) → is_among i ns ≡ true → is_among i (n ∷ ns) ≡ true
among_more n i ns e = true_or (nat_eq n i) (is_among i ns) e

among_first : (n : ℕ) (ns : List ℕ) → is_among n (n ∷ ns) ≡ true
among_first n ns = ap (λ b. b || is_among n ns) (eq-eqb n n refl)

module _ {K : Keys} where
  -- with more such locals more is never null
  more_never : (N M : ℕ → Bool) → ((i : ℕ) → N i ≡ true → M i ≡ true) → (c : Exp K) → is_never_null N c ≡ true → is_never_null M c ≡ true
  more_never N M i (core.literal p (text t)) h = h
  more_never N M i (core.literal p (class_object c)) h = h
  more_never N M i (core.literal p (int z)) h = h
  more_never N M i (core.literal p (truth b)) h = h
  more_never N M i (core.literal p values.null) h = h
  more_never N M i (core.literal p (object n c)) h = h
  more_never N M i (core.this p) h = h
  more_never N M i (core.read p (core.local q n)) h = i n h
  more_never N M i (core.read p (core.static_field q f)) h = h
  more_never N M i (core.read p (core.field_of q e f)) h = h
  more_never N M i (core.assign p t e) h = h
  more_never N M i (core.compound p o t e) h = h
  more_never N M i (core.bump p o t) h = h
  more_never N M i (core.signed p o e) h = h
  more_never N M i (core.binary p o a b) h = h
  more_never N M i (core.both p a b) h = h
  more_never N M i (core.either p a b) h = h
  more_never N M i (core.cast p c e) h = h
  more_never N M i (core.static_call p m es) h = h
  more_never N M i (core.instance_call p e m es) h = h
  more_never N M i (core.super_call p e m es) h = h
  more_never N M i (core.create p c k es) h = h
  more_never N M i (core.super_constructor p e k es) h = h

  module _ {A : Type 0} (F : Facts K A) (init : ℕ → Option (tree.Exp A)) (is_assigned : ℕ → Bool) where
    -- what is known of each local of N
    abbrev Kept : (ℕ → Bool) → ℕ → Type 0
    Kept N i = (e : tree.Exp A) × (is_assigned i ≡ false) × (init i ≡ Some e) × (is_never_null N (exp_code F e) ≡ true)

    record Chained (e : tree.Exp A) : Type 0 where
      names : List ℕ
      known : (i : ℕ) → is_among i names ≡ true → Kept (λ j. is_among j names) i
      never : is_never_null (λ j. is_among j names) (exp_code F e) ≡ true

    kept_more : (n : ℕ) (ns : List ℕ) (i : ℕ) → Kept (λ j. is_among j ns) i → Kept (λ j. is_among j (n ∷ ns)) i
    kept_more n ns i k = (k.0, k.1, k.2, more_never (λ j. is_among j ns) (λ j. is_among j (n ∷ ns)) (λ j e. among_more n j ns e) (exp_code F k.0) k.3)

    chained : ((n : ℕ) (e : tree.Exp A) → init n ≡ Some e → IsBound F e) → (e : tree.Exp A) → NeverNull F init is_assigned e → IsBound F e → Chained e
    chained bound _ (this a) b = record { names = []; known = λ i h. false_true h; never = refl }
    chained bound _ (create a t es) b = record {
      names = [];
      known = λ i h. false_true h;
      never = ap (λ k. is_never_null (λ j. false) (create_at (F.first a) k (exps_code F es))) b.1;
    }
    chained bound _ (string a s) b = record { names = []; known = λ i h. false_true h; never = refl }
    chained bound _ (class_literal a t) b = record {
      names = [];
      known = λ i h. false_true h;
      never = ap (λ c. is_never_null {K = K} (λ j. false) (class_literal_at (F.first a) c)) b.1;
    }
    chained bound _ (paren a e d) b = let k = chained bound e d b in record { names = k.names; known = k.known; never = k.never }
    chained bound _ (local a w n e v u i below d) b =
        let k = chained bound e d (bound n e i) in
        let N : ℕ → Bool = λ j. is_among j (n ∷ k.names) in
        let own : Kept N n = (e, u, i, more_never (λ j. is_among j k.names) N (λ j h. among_more n j k.names h) (exp_code F e) k.never) in
        record {
          names = n ∷ k.names;
          known = λ j h. ⊎_elim
              (λ (q : n ≡ j). subst (λ z. Kept N z) q own)
              (λ (q : n ≡ j → ⊥). kept_more n k.names j (k.known j (sym (ap (λ c. c || is_among j k.names) (ne_eqb n j q)) ∙ h)))
              (cases_eq n j);
          never = ap (λ z. is_never_null N (read_of (F.first a) (named_target (F.first w.mark) z))) v ∙ among_first n k.names;
        }

  -- ---- the code of a member is careful

  module _ {A : Type 0} (X : Known K A) (N : ℕ → Bool) where
    written : (w : Way (Site K)) → ((n : ℕ) → WrittenIn n w → N n ≡ false) → WritesNone N (sites_of w)
    written w h i s n e q = h n (i, s, e, q)

    exp_careful : (e : tree.Exp A) → ((n : ℕ) → ExpAssigns X n e → N n ≡ false) → CarefulExp N (exp_code X.facts e)
    exp_careful e h = exp_spares N X e (written (exp_way X e) h)

    args_careful : (args : Option (tree.Exps A)) → ((n : ℕ) → ArgsAssign X n args → N n ≡ false) → CarefulExps N (parent_args X.facts args)
    args_careful None h = tt
    args_careful (Some es) h = exps_spare N X es (written (exps_way X es) h)

    mutual
      stmt_careful : (s : statement.Stmt A) → ((n : ℕ) → StmtAssigns X n s → N n ≡ false) → ((n : ℕ) (e : tree.Exp A) → StmtDeclares X.facts n e s → N n ≡ true → is_never_null N (exp_code X.facts e) ≡ true) → CarefulStmt N (stmt_code X.facts s)
      stmt_careful (statement.local a is_final t w e) h g = (exp_careful e h, g (X.facts.number w.mark) e (refl, refl))
      stmt_careful (statement.eval a e) h g = exp_careful e h
      stmt_careful (statement.branch a c s o) h g = (exp_careful c (λ n k. h n (inl k)), stmt_careful s (λ n k. h n (inr (inl k))) (λ n e k. g n e (inl k)), else_careful o (λ n k. h n (inr (inr k))) (λ n e k. g n e (inr k)))
      stmt_careful (statement.loop a c s) h g = (exp_careful c (λ n k. h n (inl k)), stmt_careful s (λ n k. h n (inr k)) g)
      stmt_careful (statement.return a None) h g = tt
      stmt_careful (statement.return a (Some e)) h g = exp_careful e h
      stmt_careful (statement.block a b) h g = stmts_careful b h g
      stmt_careful (statement.sync a e b) h g = (exp_careful e (λ n k. h n (inl k)), stmts_careful b (λ n k. h n (inr k)) g)
      stmt_careful (statement.empty a) h g = tt

      else_careful : (o : statement.Else A) → ((n : ℕ) → ElseAssigns X n o → N n ≡ false) → ((n : ℕ) (e : tree.Exp A) → ElseDeclares X.facts n e o → N n ≡ true → is_never_null N (exp_code X.facts e) ≡ true) → CarefulStmt N (else_code X.facts o)
      else_careful statement.no_else h g = tt
      else_careful (statement.otherwise s) h g = stmt_careful s h g

      stmts_careful : (b : statement.Stmts A) → ((n : ℕ) → StmtsAssign X n b → N n ≡ false) → ((n : ℕ) (e : tree.Exp A) → StmtsDeclare X.facts n e b → N n ≡ true → is_never_null N (exp_code X.facts e) ≡ true) → CarefulStmts N (stmts_code X.facts b)
      stmts_careful statement.end h g = tt
      stmts_careful (statement.more s b) h g = (stmt_careful s (λ n k. h n (inl k)) (λ n e k. g n e (inl k)), stmts_careful b (λ n k. h n (inr k)) (λ n e k. g n e (inr k)))

  locked_careful : (N : ℕ → Bool) (is_locked : Bool) (p q : At K) (c : K.class) (is_shared : Bool) (b : Stmts K) → CarefulStmts N b → CarefulStmts N (locked is_locked p q (monitor c is_shared) b)
  locked_careful N true p q c true b h = ((tt, h), tt)
  locked_careful N true p q c false b h = ((tt, h), tt)
  locked_careful N false p q c is_shared b h = h

  fields_careful : (N : ℕ → Bool) (ss : List (Stmt K)) (b : Stmts K) → AllCareful N ss → CarefulStmts N b → CarefulStmts N (in_front ss b)
  fields_careful N [] b h g = g
  fields_careful N (s ∷ ss) b h g = (h.0, fields_careful N ss b h.1 g)

  module _ {A : Type 0} (X : Known K A) (init : ℕ → Option (tree.Exp A)) (is_assigned : ℕ → Bool) (args : Option (tree.Exps A)) (body : statement.Stmts A) (params : ℕ) (locals : LocalsAre X init is_assigned params args body)
      (N : ℕ → Bool) (known : (i : ℕ) → N i ≡ true → Kept X.facts init is_assigned N i) where
    not_assigned : (n : ℕ) → ArgsAssign X n args ⊎ StmtsAssign X n body → N n ≡ false
    not_assigned n h = false_from_ne_true (N n) (λ e. absurd (false_true (sym (known n e).1 ∙ locals.assigns n h)))

    as_declared : (n : ℕ) (e : tree.Exp A) → StmtsDeclare X.facts n e body → N n ≡ true → is_never_null N (exp_code X.facts e) ≡ true
    as_declared n e h t =
        let k = known n t in
        let q : k.0 ≡ e = same_one k.0 e (sym k.2 ∙ locals.declares n e h) in
        subst (λ z. is_never_null N (exp_code X.facts z) ≡ true) q k.3

    no_parameter : NoParam N params
    no_parameter n h = false_from_ne_true (N n) (λ e. let k = known n e in none_some k.0 (sym (locals.parameters n h) ∙ k.2))

    body_careful : CarefulStmts N (stmts_code X.facts body)
    body_careful = stmts_careful X N body (λ n h. not_assigned n (inr h)) as_declared

    code_careful : (c : Code K) → HasBody X.facts args body c → CarefulStmts N c.body
    code_careful c (of_method class a modifiers name ps e) = subst (λ (z : Code K). CarefulStmts N z.body) (sym e)
        (locked_careful N (is_synchronized modifiers) (Some (X.facts.first name.mark)) (Some (X.facts.last a)) class (is_static modifiers) (stmts_code X.facts body) body_careful)
    code_careful c (of_constructor p fields ps f e) = subst (λ (z : Code K). CarefulStmts N z.body) (sym e)
        ((tt, args_careful X N args (λ n h. not_assigned n (inl h))), fields_careful N fields (stmts_code X.facts body) (f N) body_careful)

  -- ---- without locals each code is careful

  mutual
    exp_none : (e : Exp K) → CarefulExp no_local e
    exp_none (core.literal p v) = tt
    exp_none (core.this p) = tt
    exp_none (core.read p t) = target_none t
    exp_none (core.assign p t e) = (free_none t, target_none t, exp_none e)
    exp_none (core.compound p o t e) = (free_none t, target_none t, exp_none e)
    exp_none (core.bump p o t) = (free_none t, target_none t)
    exp_none (core.signed p o e) = exp_none e
    exp_none (core.binary p o a b) = (exp_none a, exp_none b)
    exp_none (core.both p a b) = (exp_none a, exp_none b)
    exp_none (core.either p a b) = (exp_none a, exp_none b)
    exp_none (core.cast p c e) = exp_none e
    exp_none (core.static_call p m es) = exps_none es
    exp_none (core.instance_call p e m es) = (exp_none e, exps_none es)
    exp_none (core.super_call p e m es) = (exp_none e, exps_none es)
    exp_none (core.create p c k es) = exps_none es
    exp_none (core.super_constructor p e k es) = (exp_none e, exps_none es)

    free_none : (t : Target K) → IsFree no_local t
    free_none (core.local p n) = refl
    free_none (core.static_field p f) = tt
    free_none (core.field_of p e f) = tt

    target_none : (t : Target K) → CarefulTarget no_local t
    target_none (core.local p n) = tt
    target_none (core.static_field p f) = tt
    target_none (core.field_of p e f) = exp_none e

    exps_none : (es : Exps K) → CarefulExps no_local es
    exps_none core.Exps.end = tt
    exps_none (core.Exps.more e es) = (exp_none e, exps_none es)

  mutual
    stmt_none : (s : Stmt K) → CarefulStmt no_local s
    stmt_none (core.declare p n e) = (exp_none e, λ h. false_true h)
    stmt_none (core.eval p e) = exp_none e
    stmt_none (core.branch p c a b) = (exp_none c, stmt_none a, stmt_none b)
    stmt_none (core.loop p c b) = (exp_none c, stmt_none b)
    stmt_none (core.return p e) = exp_none e
    stmt_none (core.return_nothing p) = tt
    stmt_none (core.block p ns b) = stmts_none b
    stmt_none (core.sync p q e b) = (exp_none e, stmts_none b)
    stmt_none (core.empty p) = tt

    stmts_none : (b : Stmts K) → CarefulStmts no_local b
    stmts_none core.Stmts.end = tt
    stmts_none (core.Stmts.more s b) = (stmt_none s, stmts_none b)

  -- what is never null without locals
  never_alone : {A : Type 0} (F : Facts K A) (is_assigned : ℕ → Bool) (e : tree.Exp A) → NeverNull F (λ n. None) is_assigned e → IsBound F e → is_never_null no_local (exp_code F e) ≡ true
  never_alone F is_assigned _ (this a) b = refl
  never_alone F is_assigned _ (create a t es) b = ap (λ k. is_never_null no_local (create_at (F.first a) k (exps_code F es))) b.1
  never_alone F is_assigned _ (string a s) b = refl
  never_alone F is_assigned _ (class_literal a t) b = ap (λ c. is_never_null {K = K} no_local (class_literal_at (F.first a) c)) b.1
  never_alone F is_assigned _ (paren a e d) b = never_alone F is_assigned e d b
  never_alone F is_assigned _ (local a w n e v u i below d) b = none_some e i

pub never_null_gives_no_null : {C F M Q L A : Type 0} → NeverNullGivesNoNull C F M Q L A
never_null_gives_no_null P sound X init is_assigned args body c has locals class params result typed e d b me vs receiver fit l m v evaluated gives =
    let k = chained X.facts init is_assigned locals.bound e d b in
    let N : ℕ → Bool = λ j. is_among j k.names in
    never_null_is_not_null P sound N class params result c typed (code_careful X init is_assigned args body c.params locals N k.known c has) (no_parameter X init is_assigned args body c.params locals N k.known) me vs receiver fit
    (exp_code X.facts e) l m v evaluated k.never gives

pub initializers_give_no_null : {C F M Q L A : Type 0} → NeverNullInitializersGiveNoNull C F M Q L A
initializers_give_no_null P sound F is_assigned c class params result typed e d b me vs receiver fit l m v evaluated gives =
    never_null_is_not_null P sound no_local class params result c typed (stmts_none c.body) (λ n h. refl) me vs receiver fit (exp_code F e) l m v evaluated (never_alone F is_assigned e d b) gives
