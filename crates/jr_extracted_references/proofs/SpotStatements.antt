-- Statements of a region side by side, as in jr_kept_references (`RegionStatements`, of which this is the
-- case that `L` is what the spot makes): what a spot makes of a list is told by what is known where the list
-- begins.
use Rattle.std.proofs.Common.{◌≡◌, ℕ, ◌+◌, List, [], ◌++◌, Option, Some, None, refl, ap, subst, ◌∙◌, inl, inr}
use Rattle.jr_text.specs.declared.spans.Span.{Span}
use Rattle.jr_ast.specs.Tree as tree
use Rattle.jr_ast.specs.StatementTree as statement
use Rattle.jr_table.specs.Decls.{local_decl}
use Rattle.jr_table.specs.Rows.{Row}
use Rattle.jr_table.specs.Context.{Context, scope_of, local_of, local_key, in_own, after, locals_in}
use Rattle.jr_table.specs.Binding.{Role, value}
use Rattle.jr_table.specs.Binding as role
use Rattle.jr_rewrite.specs.Respellings.{Choice, text_of}
use Rattle.jr_rewrite.specs.Rewritten.{Rewritten, within, joined, word_to}
use Rattle.jr_rewrite.specs.Spots.{Asks, level, a_statement, Spotted, nowhere, spotted, OrList}
use Rattle.jr_rewrite.specs.Rewrites.{Choosing, RewritesType, TransformsPart, TransformsMaybe, TransformsStmt, TransformsElse, TransformsStmts, TransformsList}
use Rattle.jr_images.specs.Regions.{Region}
use Rattle.jr_images.specs.Spelling.{choosing}
use Rattle.jr_images.proofs.Chosen.{renamed_text, left_none, right_none, lost_none}
use Rattle.jr_kept_references.specs.InRegions.{name_in, StandsFor}
use Rattle.jr_kept_references.specs.KeptInRegions.{IsTypeKeptIn, IsKeptIn, PartsBecome}
use Rattle.jr_kept_references.specs.AlongSpots.{SpotStands, PartAlong}
use Rattle.jr_kept_references.specs.StatementsAlong.{ListSpotStands, ListStays, MaybeBeside, StmtBeside, ElseBeside, StmtsBeside, ListBeside}
use Rattle.jr_kept_references.specs.RegionPlaces.{Standing, AreStanding}
use Rattle.jr_kept_references.proofs.RegionWorlds.{RegionWorld}
use Rattle.jr_kept_references.proofs.RegionTypes.{written_kept}
use Rattle.jr_kept_references.proofs.RegionAlong.{part_side, along}

module _ {A : Type 0} (tells : A → ℕ → Span) (rows : List Row) (R : Region A) (super_at : Context → ℕ) (S : Spotted A) (At : Standing A)
    (stands : AreStanding tells rows R (choosing (λ m b. (tells m b).from) rows R super_at) S At) (parts : (c d : Context) → At.Known c d → PartsBecome (λ m b. (tells m b).from) rows R S c d)
    (worlds : (c d : Context) → StandsFor R rows c d → RegionWorld A rows R c d)
    (L : (next next2 : ℕ) → Context → Context → (base : ℕ) → statement.Stmts A → (base2 : ℕ) → statement.Stmts A → Type 0)
    (meets : (n z : ℕ) (c d : Context) (b i : ℕ) (xs : statement.Stmts A) (q : Rewritten (statement.Stmts A)) → At.Lists n z c d xs → ListSpotStands S n z c d b xs i q.tree → L n z c d b xs i q.tree) where
  abbrev Chosen : Choosing A
  Chosen = choosing (λ m b. (tells m b).from) rows R super_at

  abbrev Keeps : Context → Context → Role → (base : ℕ) → tree.Exp A → (base' : ℕ) → tree.Exp A → Type 0
  Keeps c d r b e i y = IsKeptIn (λ m b. (tells m b).from) rows R c d r b e i y

  abbrev Writes : Context → Context → (base : ℕ) → tree.TypeName A → (base' : ℕ) → tree.TypeName A → Type 0
  Writes c d b t i u = IsTypeKeptIn R rows (scope_of c) (scope_of d) t u

  abbrev SidePart : Asks → Context → Context → Role → (b i : ℕ) → tree.Exp A → tree.Exp A → Type 0
  SidePart = PartAlong (λ m b. (tells m b).from) (λ m b. (tells m b).from) Keeps Writes (SpotStands S)

  abbrev SideStmt : (n z : ℕ) (c d : Context) (b i : ℕ) → statement.Stmt A → statement.Stmt A → Type 0
  SideStmt = StmtBeside (λ m b. (tells m b).from) (λ m b. (tells m b).from) Keeps Writes (SpotStands S) L

  abbrev SideElse : (n z : ℕ) (c d : Context) (b i : ℕ) → statement.Else A → statement.Else A → Type 0
  SideElse = ElseBeside (λ m b. (tells m b).from) (λ m b. (tells m b).from) Keeps Writes (SpotStands S) L

  abbrev SideStmts : (n z : ℕ) (c d : Context) (b i : ℕ) → statement.Stmts A → statement.Stmts A → Type 0
  SideStmts = StmtsBeside (λ m b. (tells m b).from) (λ m b. (tells m b).from) Keeps Writes (SpotStands S) L

  abbrev SideList : (n z : ℕ) (c d : Context) (b i : ℕ) → statement.Stmts A → statement.Stmts A → Type 0
  SideList = ListBeside (λ m b. (tells m b).from) (λ m b. (tells m b).from) Keeps Writes (SpotStands S) L

  -- what is known of two programs at a place that is known
  world : (c d : Context) → At.Known c d → RegionWorld A rows R c d
  world c d stand = worlds c d (stands.stand c d stand)

  -- an expression, and a written type, at a place that stands for another
  part_along : (c d : Context) → At.Known c d → (k : Asks) (r : Role) (b i : ℕ) (e : tree.Exp A) (o : Rewritten (tree.Exp A)) → TransformsPart tells Chosen S k c r b e o → o.losses ≡ []
      → SidePart k c d r b i e o.tree
  part_along c d stand k r b i e o made none =
      part_side tells rows R c d (world c d stand) super_at S (parts c d stand) k r b i e o made none (λ x. along tells rows R c d (world c d stand) super_at S (parts c d stand) r b i e o x none)

  types_go : (c d : Context) → At.Known c d → (b : ℕ) (t : tree.TypeName A) (p : Rewritten (tree.TypeName A)) → RewritesType tells Chosen c b t p → p.losses ≡ []
      → IsTypeKeptIn R rows (scope_of c) (scope_of d) t p.tree
  types_go c d stand b t p made none = written_kept tells rows R c d (world c d stand) super_at b t p made none

  pub maybe_beside : (c d : Context) → At.Known c d → (b i : ℕ) (e : Option (tree.Exp A)) (o : Rewritten (Option (tree.Exp A))) → TransformsMaybe tells Chosen S c b e o → o.losses ≡ []
      → MaybeBeside (λ m b. (tells m b).from) (λ m b. (tells m b).from) Keeps Writes (SpotStands S) L c d b i e o.tree
  maybe_beside c d stand b i None o is none = ap (λ (z : Rewritten (Option (tree.Exp A))). z.tree) is
  maybe_beside c d stand b i (Some e) o (p, made, is) none = (
    p.tree,
    ap (λ (z : Rewritten (Option (tree.Exp A))). z.tree) is,
    part_along c d stand (level 0) value b i e p made (lost_none o (within (λ (x : tree.Exp A). Some x) p) is none),
  )

  -- node by node, or as a spot has it
  pub list_side : (n z : ℕ) (c d : Context) (b i : ℕ) (xs : statement.Stmts A) → At.Lists n z c d xs → (q : Rewritten (statement.Stmts A)) → TransformsList tells Chosen S n c b xs q → q.losses ≡ []
      → (TransformsStmts tells Chosen S n c b xs q → ListStays S n c b xs → SideStmts n z c d b i xs q.tree) → SideList n z c d b i xs q.tree
  list_side n z c d b i xs at q made none by_node = by S made (λ stays. stays) (λ spot. meets n z c d b i xs q at spot)
    where
      by : (s : Spotted A) → OrList s n c b xs q (TransformsStmts tells Chosen S n c b xs q) → (ListStays s n c b xs → ListStays S n c b xs) → (ListSpotStands s n z c d b xs i q.tree → L n z c d b xs i q.tree) → SideList n z c d b i xs q.tree
      by nowhere inner to is = inl (by_node inner (to tt))
      by (spotted s) (inl (stays, inner)) to is = inl (by_node inner (to stays))
      by (spotted s) (inr spot) to is = inr (is (q, spot, none, refl))

  mutual
    unfolding TransformsStmt TransformsElse TransformsStmts StmtBeside ElseBeside StmtsBeside

    pub stmt_beside : (n z : ℕ) (c d : Context) (b i : ℕ) (x : statement.Stmt A) → At.Single n z c d x → (q : Rewritten (statement.Stmt A)) → TransformsStmt tells Chosen S n c b x q → q.losses ≡ [] → SideStmt n z c d b i x q.tree
    stmt_beside n z c d b i (statement.local m f t w e) at q (p, v, y, types, (h, declared, word), inner, is) none =
        let all = lost_none q (joined (λ (u : tree.TypeName A × tree.Word A) x. statement.local m f u.0 u.1 x) (joined (λ u z. (u, z)) p v) y) is none in
        let goes = types_go c d (stands.known n z c d (statement.local m f t w e) at) ((tells m b).from) t p types (left_none p.losses v.losses (left_none (p.losses ++ v.losses) y.losses all)) in
        let named = ap (λ (x : Choice). text_of x w.text) declared ∙ renamed_text w.text (name_in R (local_decl (local_key c n)) w.text) in (
          m,
          p.tree,
          word_to h w,
          y.tree,
          ap (λ (y : Rewritten (statement.Stmt A)). y.tree) is ∙ ap (λ (u : Rewritten (tree.Word A)). statement.local m f p.tree u.tree y.tree) word,
          goes,
          part_along (in_own c (local_of c n f t w)) (in_own d (local_of d z f p.tree (word_to h w)))
              (stands.in_initializer n z c d m f t p.tree w (word_to h w) e at goes.means named)
              (level 0) value ((tells m b).from) ((tells m i).from) e y inner (right_none (p.losses ++ v.losses) y.losses all),
        )
    stmt_beside n z c d b i (statement.eval m e) at q (p, inner, is) none = (
      m,
      p.tree,
      ap (λ (y : Rewritten (statement.Stmt A)). y.tree) is,
      part_along c d (stands.known n z c d (statement.eval m e) at) a_statement role.statement ((tells m b).from) ((tells m i).from) e p inner (lost_none q (within (λ x. statement.eval m x) p) is none),
    )
    stmt_beside n z c d b i (statement.branch m e x other) at q (p, y, r, inner, one_side, other_side, is) none =
        let all = lost_none q (joined (λ (u : tree.Exp A × statement.Stmt A) v. statement.branch m u.0 u.1 v) (joined (λ u v. (u, v)) p y) r) is none in
        let front = left_none (p.losses ++ y.losses) r.losses all in
        let body = right_none p.losses y.losses front in (
          m,
          p.tree,
          y.tree,
          r.tree,
          ap (λ (y : Rewritten (statement.Stmt A)). y.tree) is,
          part_along c d (stands.known n z c d (statement.branch m e x other) at) (level 0) value ((tells m b).from) ((tells m i).from) e p inner (left_none p.losses y.losses front),
          stmt_beside n z c d ((tells m b).from) ((tells m i).from) x (stands.in_branch n z c d m e x other at) y one_side body,
          else_beside (n + locals_in x) (z + locals_in y.tree) c d ((tells m b).from) ((tells m i).from) other
              (λ u is_else. stands.in_else n z c d ((tells m b).from) m e x u y (subst (λ (l : statement.Else A). At.Single n z c d (statement.branch m e x l)) is_else at) (one_side, body))
              r other_side (right_none (p.losses ++ y.losses) r.losses all),
        )
    stmt_beside n z c d b i (statement.loop m e x) at q (p, y, inner, body, is) none = let all = lost_none q (joined (λ u v. statement.loop m u v) p y) is none in (
      m,
      p.tree,
      y.tree,
      ap (λ (y : Rewritten (statement.Stmt A)). y.tree) is,
      part_along c d (stands.known n z c d (statement.loop m e x) at) (level 0) value ((tells m b).from) ((tells m i).from) e p inner (left_none p.losses y.losses all),
      stmt_beside n z c d ((tells m b).from) ((tells m i).from) x (stands.in_loop n z c d m e x at) y body (right_none p.losses y.losses all),
    )
    stmt_beside n z c d b i (statement.return m e) at q (p, inner, is) none = (
      m,
      p.tree,
      ap (λ (y : Rewritten (statement.Stmt A)). y.tree) is,
      maybe_beside c d (stands.known n z c d (statement.return m e) at) ((tells m b).from) ((tells m i).from) e p inner (lost_none q (within (λ x. statement.return m x) p) is none),
    )
    stmt_beside n z c d b i (statement.block m body) at q (p, inner, is) none = let all = lost_none q (within (λ x. statement.block m x) p) is none in (
      m,
      p.tree,
      ap (λ (y : Rewritten (statement.Stmt A)). y.tree) is,
      list_side n z c d ((tells m b).from) ((tells m i).from) body (stands.in_block n z c d m body at) p inner all (λ x stays. stmts_beside n z c d ((tells m b).from) ((tells m i).from) body (stands.in_block n z c d m body at) stays p x all),
    )
    stmt_beside n z c d b i (statement.sync m e body) at q (p, y, inner, rest, is) none =
        let all = lost_none q (joined (λ u v. statement.sync m u v) p y) is none in let back = right_none p.losses y.losses all in (
          m,
          p.tree,
          y.tree,
          ap (λ (y : Rewritten (statement.Stmt A)). y.tree) is,
          part_along c d (stands.known n z c d (statement.sync m e body) at) (level 0) value ((tells m b).from) ((tells m i).from) e p inner (left_none p.losses y.losses all),
          list_side n z c d ((tells m b).from) ((tells m i).from) body (stands.in_sync n z c d m e body at) y rest back (λ x stays. stmts_beside n z c d ((tells m b).from) ((tells m i).from) body (stands.in_sync n z c d m e body at) stays y x back),
        )
    stmt_beside n z c d b i (statement.empty m) at q is none = (m, ap (λ (y : Rewritten (statement.Stmt A)). y.tree) is)

    pub else_beside : (n z : ℕ) (c d : Context) (b i : ℕ) (x : statement.Else A) → ((y : statement.Stmt A) → x ≡ statement.otherwise y → At.Single n z c d y) → (q : Rewritten (statement.Else A)) → TransformsElse tells Chosen S n c b x q → q.losses ≡ [] → SideElse n z c d b i x q.tree
    else_beside n z c d b i statement.no_else at q is none = ap (λ (y : Rewritten (statement.Else A)). y.tree) is
    else_beside n z c d b i (statement.otherwise x) at q (p, inner, is) none =
        (p.tree, ap (λ (y : Rewritten (statement.Else A)). y.tree) is, stmt_beside n z c d b i x (at x refl) p inner (lost_none q (within (λ y. statement.otherwise y) p) is none))

    pub stmts_beside : (n z : ℕ) (c d : Context) (b i : ℕ) (xs : statement.Stmts A) → At.Lists n z c d xs → ListStays S n c b xs → (q : Rewritten (statement.Stmts A)) → TransformsStmts tells Chosen S n c b xs q → q.losses ≡ [] → SideStmts n z c d b i xs q.tree
    stmts_beside n z c d b i statement.end at stays q is none = ap (λ (y : Rewritten (statement.Stmts A)). y.tree) is
    stmts_beside n z c d b i (statement.more x xs) at stays q (p, y, inner, rest, is) none =
        let all = lost_none q (joined (λ y ys. statement.more y ys) p y) is none in
        let front = left_none p.losses y.losses all in
        let back = right_none p.losses y.losses all in (
          p.tree,
          y.tree,
          ap (λ (y : Rewritten (statement.Stmts A)). y.tree) is,
          stmt_beside n z c d b i x (stands.first n z c d b x xs at stays) p inner front,
          list_side (n + locals_in x) (z + locals_in p.tree) (after n c x) (after z d p.tree) b i xs (stands.behind n z c d b x xs p at stays (inner, front)) y rest back
              (λ u there. stmts_beside (n + locals_in x) (z + locals_in p.tree) (after n c x) (after z d p.tree) b i xs (stands.behind n z c d b x xs p at stays (inner, front)) there y u back),
        )
