-- Statements side by side: what is known at a place goes to what is known at its image.
use Rattle.std.proofs.Common.{◌≡◌, ℕ, zero, suc, ◌+◌, List, [], ◌∷◌, ◌++◌, Option, Some, None, Bool, refl, sym, ap, subst, ◌∙◌}
use Rattle.std.specs.Prelude.{slice_get}
use Rattle.jr_text.specs.declared.spans.Span.{Span}
use Rattle.jr_ast.specs.Tree as tree
use Rattle.jr_ast.specs.StatementTree as statement
use Rattle.jr_table.specs.Keys.{Ty}
use Rattle.jr_table.specs.Decls.{MemberKey, local_decl}
use Rattle.jr_table.specs.Rows.{Row}
use Rattle.jr_table.specs.Scope.{Scope}
use Rattle.jr_table.specs.Context.{Context, Local, LocalType, known, written, scope_of, local_of, local_key, local_type, with_local, in_own, after, locals_in, IsLocalType, WritesType}
use Rattle.jr_table.specs.Binding.{Role, value}
use Rattle.jr_table.specs.Binding as role
use Rattle.jr_rewrite.specs.Respellings.{Choice, text_of}
use Rattle.jr_rewrite.specs.Rewritten.{Rewritten, within, joined, word_to}
use Rattle.jr_rewrite.specs.Rewrites.{Choosing, RewritesExp, RewritesType, RewritesMaybe, RewritesStmt, RewritesElse, RewritesStmts, TransformsStmt, TransformsElse, TransformsStmts}
use Rattle.jr_rewrite.specs.Along.{Along, AlongMaybe, AlongStmt, AlongElse, AlongStmts}
use Rattle.jr_images.specs.Images.{Renaming, name_to, type_to, rows_to}
use Rattle.jr_images.specs.Spelling.{renamed, spelling}
use Rattle.jr_images.specs.Standing.{LocalTo, LocalsTo, ContextTo}
use Rattle.jr_images.specs.Keeping.{IsKept, IsTypeKept, IsWritten}
use Rattle.jr_images.proofs.Chosen.{renamed_text, left_none, right_none, lost_none}
use Rattle.jr_images.proofs.World.{World}
use Rattle.jr_images.proofs.Types.{written_kept}
use Rattle.jr_images.proofs.Alongside.{along}

-- ---- a local more

module _ {A : Type 0} where
  -- the type of a local is the one that is written
  pub local_written : (rows : List Row) (s : Scope) (t : tree.TypeName A) (u : Ty) → IsLocalType rows s (local_type t) u → WritesType rows s t u
  local_written rows s (tree.int m) u h = h
  local_written rows s (tree.boolean m) u h = h
  local_written rows s (tree.named m o v) u h = h

  pub written_local : (rows : List Row) (s : Scope) (t : tree.TypeName A) (u : Ty) → WritesType rows s t u → IsLocalType rows s (local_type t) u
  written_local rows s (tree.int m) u h = h
  written_local rows s (tree.boolean m) u h = h
  written_local rows s (tree.named m o v) u h = h

-- types of locals look at the class of the place alone
more_scope : (rows : List Row) (c : Context) (x : Local) (u : LocalType) (t : Ty) → IsLocalType rows (scope_of c) u t → IsLocalType rows (scope_of (with_local c x)) u t
more_scope rows c x (known k) t h = h
more_scope rows c x (written None name) t h = h
more_scope rows c x (written (Some o) name) t h = h

less_scope : (rows : List Row) (c : Context) (x : Local) (u : LocalType) (t : Ty) → IsLocalType rows (scope_of (with_local c x)) u t → IsLocalType rows (scope_of c) u t
less_scope rows c x (known k) t h = h
less_scope rows c x (written None name) t h = h
less_scope rows c x (written (Some o) name) t h = h

last_own : (k : MemberKey) (ls : List Local) (l : Local) → ((i : ℕ) (x : Local) → slice_get ls i ≡ Some x → x.key.member ≡ k) → l.key.member ≡ k
    → (i : ℕ) (x : Local) → slice_get (ls ++ l ∷ []) i ≡ Some x → x.key.member ≡ k
last_own k [] l each own zero x e = let p : l ≡ x = cc in subst (λ (y : Local). y.key.member ≡ k) p own
last_own k [] l each own (suc i) x e = absurd cc
last_own k (y ∷ ls) l each own zero x e = each 0 x e
last_own k (y ∷ ls) l each own (suc i) x e = last_own k ls l (λ j z f. each (suc j) z f) own i x e

module _ (g : Renaming) (rows : List Row) where
  module _ (c d : Context) (x y : Local) where
    wider : (l m : Local) → LocalTo g rows (scope_of c) (scope_of d) l m → LocalTo g rows (scope_of (with_local c x)) (scope_of (with_local d y)) l m
    wider l m h = record {
      named = h.named;
      key = h.key;
      final = h.final;
      init = h.init;
      type = λ t i. more_scope (rows_to g rows) d y m.type (type_to g t) (h.type t (less_scope rows c x l.type t i));
    }

    one_more : (ls ms : List Local) → LocalsTo g rows (scope_of c) (scope_of d) ls ms → LocalTo g rows (scope_of c) (scope_of d) x y
        → LocalsTo g rows (scope_of (with_local c x)) (scope_of (with_local d y)) (ls ++ x ∷ []) (ms ++ y ∷ [])
    one_more [] [] h e = (wider x y e, tt)
    one_more [] (m ∷ ms) h e = absurd h
    one_more (l ∷ ls) [] h e = absurd h
    one_more (l ∷ ls) (m ∷ ms) h e = (wider l m h.0, one_more ls ms h.1 e)

    pub with_more : ContextTo g rows c d → LocalTo g rows (scope_of c) (scope_of d) x y → x.key.member ≡ c.member → ContextTo g rows (with_local c x) (with_local d y)
    with_more stand to own = record {
      member = stand.member;
      static = stand.static;
      locals = one_more c.locals d.locals stand.locals to;
      own = last_own c.member c.locals x stand.own own;
    }

    pub own_more : ContextTo g rows c d → LocalTo g rows (scope_of c) (scope_of d) x y → x.key.member ≡ c.member → ContextTo g rows (in_own c x) (in_own d y)
    own_more stand to own = record {
      member = stand.member;
      static = stand.static;
      locals = one_more c.locals d.locals stand.locals to;
      own = last_own c.member c.locals x stand.own own;
    }

-- ---- statements

module _ {A : Type 0} (tells : A → ℕ → Span) (rows : List Row) (g : Renaming) (super_at : Context → ℕ) (worlds : (c d : Context) → ContextTo g rows c d → World A rows g c d) where
  abbrev Chosen : Choosing A
  Chosen = spelling (λ m b. (tells m b).from) rows g super_at

  abbrev Keeps : Context → Context → Role → (base : ℕ) → tree.Exp A → (base' : ℕ) → tree.Exp A → Type 0
  Keeps = IsKept (λ m b. (tells m b).from) (λ m b. (tells m b).from) g rows

  abbrev Writes : Context → Context → (base : ℕ) → tree.TypeName A → (base' : ℕ) → tree.TypeName A → Type 0
  Writes = IsWritten (λ m b. (tells m b).from) (λ m b. (tells m b).from) g rows

  abbrev SideStmt : (n : ℕ) (c d : Context) (b i : ℕ) → statement.Stmt A → statement.Stmt A → Type 0
  SideStmt n c d b i x y = AlongStmt (λ m b. (tells m b).from) (λ m b. (tells m b).from) Keeps Writes n c d b i x y

  module _ (c d : Context) (stand : ContextTo g rows c d) where
    -- a local that is declared has become one
    pub new_local : (n : ℕ) (final : Bool) (t u : tree.TypeName A) (w : tree.Word A) (h : Choice) → ((k : Ty) → WritesType rows (scope_of c) t k → WritesType (rows_to g rows) (scope_of d) u (type_to g k))
        → h ≡ renamed w.text (name_to g (local_decl (local_key c n)) w.text)
        → LocalTo g rows (scope_of c) (scope_of d) (local_of c n final t w) (local_of d n final u (word_to h w))
    new_local n final t u w h goes is = record {
      named = ap (λ (x : Choice). text_of x w.text) is ∙ renamed_text w.text (name_to g (local_decl (local_key c n)) w.text);
      key = λ i. record { member = stand.member i; number = n };
      final = refl;
      init = refl;
      type = λ k typing. written_local (rows_to g rows) (scope_of d) u (type_to g k) (goes k (local_written rows (scope_of c) t k typing));
    }

    types_go : (b : ℕ) (t : tree.TypeName A) (p : Rewritten (tree.TypeName A)) → RewritesType tells Chosen c b t p → p.losses ≡ []
        → IsTypeKept g rows (scope_of c) (scope_of d) t p.tree
    types_go b t p made none = written_kept tells rows g c d (worlds c d stand) super_at b t p made none

    goes_along : (r : Role) (b i : ℕ) (e : tree.Exp A) (o : Rewritten (tree.Exp A)) → RewritesExp tells Chosen c r b e o → o.losses ≡ []
        → Along (λ m b. (tells m b).from) (λ m b. (tells m b).from) Keeps Writes c d r b i e o.tree
    goes_along r b i e o made none = along tells rows g c d (worlds c d stand) super_at r b i e o made none

    pub maybe_along : (b i : ℕ) (e : Option (tree.Exp A)) (o : Rewritten (Option (tree.Exp A))) → RewritesMaybe tells Chosen c b e o → o.losses ≡ []
        → AlongMaybe (λ m b. (tells m b).from) (λ m b. (tells m b).from) Keeps Writes c d b i e o.tree
    maybe_along b i None o is none = ap (λ (z : Rewritten (Option (tree.Exp A))). z.tree) is
    maybe_along b i (Some e) o (p, made, is) none = (
      p.tree,
      ap (λ (z : Rewritten (Option (tree.Exp A))). z.tree) is,
      goes_along value b i e p made (lost_none o (within (λ (x : tree.Exp A). Some x) p) is none),
    )

    -- behind a statement
    pub after_to : (n : ℕ) (b : ℕ) (x : statement.Stmt A) (q : Rewritten (statement.Stmt A)) → RewritesStmt tells Chosen n c b x q → q.losses ≡ [] → ContextTo g rows (after n c x) (after n d q.tree)
    unfolding TransformsStmt
    after_to n b (statement.local m f t w e) q (p, v, z, types, (h, declared, word), inner, is) none =
        let all = lost_none q (joined (λ (u : tree.TypeName A × tree.Word A) x. statement.local m f u.0 u.1 x) (joined (λ u z. (u, z)) p v) z) is none in
        let there = ap (λ (y : Rewritten (statement.Stmt A)). y.tree) is ∙ ap (λ (y : Rewritten (tree.Word A)). statement.local m f p.tree y.tree z.tree) word in
        subst (λ (y : statement.Stmt A). ContextTo g rows (with_local c (local_of c n f t w)) (after n d y)) (sym there)
        (with_more g rows c d (local_of c n f t w) (local_of d n f p.tree (word_to h w)) stand
        (new_local n f t p.tree w h (types_go _ t p types (left_none p.losses v.losses (left_none (p.losses ++ v.losses) z.losses all))).means declared) refl)
    after_to n b (statement.eval m e) q (p, inner, is) none = subst (λ (y : Rewritten (statement.Stmt A)). ContextTo g rows c (after n d y.tree)) (sym is) stand
    after_to n b (statement.branch m e x other) q (p, y, z, inner, one_side, other_side, is) none = subst (λ (y : Rewritten (statement.Stmt A)). ContextTo g rows c (after n d y.tree)) (sym is) stand
    after_to n b (statement.loop m e x) q (p, y, inner, body, is) none = subst (λ (y : Rewritten (statement.Stmt A)). ContextTo g rows c (after n d y.tree)) (sym is) stand
    after_to n b (statement.return m e) q (p, inner, is) none = subst (λ (y : Rewritten (statement.Stmt A)). ContextTo g rows c (after n d y.tree)) (sym is) stand
    after_to n b (statement.block m body) q (p, inner, is) none = subst (λ (y : Rewritten (statement.Stmt A)). ContextTo g rows c (after n d y.tree)) (sym is) stand
    after_to n b (statement.sync m e body) q (p, y, inner, rest, is) none = subst (λ (y : Rewritten (statement.Stmt A)). ContextTo g rows c (after n d y.tree)) (sym is) stand
    after_to n b (statement.empty m) q is none = subst (λ (y : Rewritten (statement.Stmt A)). ContextTo g rows c (after n d y.tree)) (sym is) stand

  mutual
    unfolding TransformsStmt TransformsElse TransformsStmts AlongStmt AlongElse AlongStmts

    pub stmt_along : (n : ℕ) (c d : Context) → ContextTo g rows c d → (b i : ℕ) (x : statement.Stmt A) (q : Rewritten (statement.Stmt A)) → RewritesStmt tells Chosen n c b x q → q.losses ≡ [] → SideStmt n c d b i x q.tree
    stmt_along n c d stand b i (statement.local m f t w e) q (p, v, z, types, (h, declared, word), inner, is) none =
        let all = lost_none q (joined (λ (u : tree.TypeName A × tree.Word A) x. statement.local m f u.0 u.1 x) (joined (λ u z. (u, z)) p v) z) is none in
        let goes = types_go c d stand _ t p types (left_none p.losses v.losses (left_none (p.losses ++ v.losses) z.losses all)) in (
          m,
          p.tree,
          word_to h w,
          z.tree,
          ap (λ (y : Rewritten (statement.Stmt A)). y.tree) is ∙ ap (λ (y : Rewritten (tree.Word A)). statement.local m f p.tree y.tree z.tree) word,
          goes,
          goes_along (in_own c (local_of c n f t w)) (in_own d (local_of d n f p.tree (word_to h w)))
              (own_more g rows c d (local_of c n f t w) (local_of d n f p.tree (word_to h w)) stand (new_local c d stand n f t p.tree w h goes.means declared) refl)
              value _ _ e z inner (right_none (p.losses ++ v.losses) z.losses all),
        )
    stmt_along n c d stand b i (statement.eval m e) q (p, inner, is) none =
        (m, p.tree, ap (λ (y : Rewritten (statement.Stmt A)). y.tree) is, goes_along c d stand role.statement _ _ e p inner (lost_none q (within (λ x. statement.eval m x) p) is none))
    stmt_along n c d stand b i (statement.branch m e x other) q (p, y, z, inner, one_side, other_side, is) none =
        let all = lost_none q (joined (λ (u : tree.Exp A × statement.Stmt A) v. statement.branch m u.0 u.1 v) (joined (λ u v. (u, v)) p y) z) is none in
        let front = left_none (p.losses ++ y.losses) z.losses all in (
          m,
          p.tree,
          y.tree,
          z.tree,
          ap (λ (y : Rewritten (statement.Stmt A)). y.tree) is,
          goes_along c d stand value _ _ e p inner (left_none p.losses y.losses front),
          stmt_along n c d stand _ _ x y one_side (right_none p.losses y.losses front),
          else_along (n + locals_in x) c d stand _ _ other z other_side (right_none (p.losses ++ y.losses) z.losses all),
        )
    stmt_along n c d stand b i (statement.loop m e x) q (p, y, inner, body, is) none = let all = lost_none q (joined (λ u v. statement.loop m u v) p y) is none in
        (m, p.tree, y.tree, ap (λ (y : Rewritten (statement.Stmt A)). y.tree) is, goes_along c d stand value _ _ e p inner (left_none p.losses y.losses all), stmt_along n c d stand _ _ x y body (right_none p.losses y.losses all))
    stmt_along n c d stand b i (statement.return m e) q (p, inner, is) none =
        (m, p.tree, ap (λ (y : Rewritten (statement.Stmt A)). y.tree) is, maybe_along c d stand _ _ e p inner (lost_none q (within (λ x. statement.return m x) p) is none))
    stmt_along n c d stand b i (statement.block m body) q (p, inner, is) none =
        (m, p.tree, ap (λ (y : Rewritten (statement.Stmt A)). y.tree) is, stmts_along n c d stand _ _ body p inner (lost_none q (within (λ x. statement.block m x) p) is none))
    stmt_along n c d stand b i (statement.sync m e body) q (p, y, inner, rest, is) none = let all = lost_none q (joined (λ u v. statement.sync m u v) p y) is none in
        (m, p.tree, y.tree, ap (λ (y : Rewritten (statement.Stmt A)). y.tree) is, goes_along c d stand value _ _ e p inner (left_none p.losses y.losses all), stmts_along n c d stand _ _ body y rest (right_none p.losses y.losses all))
    stmt_along n c d stand b i (statement.empty m) q is none = (m, ap (λ (y : Rewritten (statement.Stmt A)). y.tree) is)

    pub else_along : (n : ℕ) (c d : Context) → ContextTo g rows c d → (b i : ℕ) (x : statement.Else A) (q : Rewritten (statement.Else A)) → RewritesElse tells Chosen n c b x q → q.losses ≡ []
        → AlongElse (λ m b. (tells m b).from) (λ m b. (tells m b).from) Keeps Writes n c d b i x q.tree
    else_along n c d stand b i statement.no_else q is none = ap (λ (y : Rewritten (statement.Else A)). y.tree) is
    else_along n c d stand b i (statement.otherwise x) q (p, inner, is) none =
        (p.tree, ap (λ (y : Rewritten (statement.Else A)). y.tree) is, stmt_along n c d stand b i x p inner (lost_none q (within (λ y. statement.otherwise y) p) is none))

    pub stmts_along : (n : ℕ) (c d : Context) → ContextTo g rows c d → (b i : ℕ) (xs : statement.Stmts A) (q : Rewritten (statement.Stmts A)) → RewritesStmts tells Chosen n c b xs q → q.losses ≡ []
        → AlongStmts (λ m b. (tells m b).from) (λ m b. (tells m b).from) Keeps Writes n c d b i xs q.tree
    stmts_along n c d stand b i statement.end q is none = ap (λ (y : Rewritten (statement.Stmts A)). y.tree) is
    stmts_along n c d stand b i (statement.more x xs) q (p, z, inner, rest, is) none = let all = lost_none q (joined (λ y ys. statement.more y ys) p z) is none in (
      p.tree,
      z.tree,
      ap (λ (y : Rewritten (statement.Stmts A)). y.tree) is,
      stmt_along n c d stand b i x p inner (left_none p.losses z.losses all),
      stmts_along (n + locals_in x) (after n c x) (after n d p.tree) (after_to c d stand n b x p inner (left_none p.losses z.losses all)) b i xs z rest (right_none p.losses z.losses all),
    )
