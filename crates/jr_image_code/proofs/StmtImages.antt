-- Statements: the code of rewritten statements is the image of the code of the old ones.
use Rattle.std.proofs.Common.{◌≡◌, ◌<◌, ◌≤◌, ℕ, zero, suc, ◌+◌, List, [], ◌∷◌, ◌++◌, Option, Some, None, Bool, refl, sym, ap, subst, ◌∙◌, inl, inr, map, arith}
use Rattle.std.specs.Prelude.{slice_get, option_map}
use Rattle.std.proofs.lemmas.Option.{slice_get-map}
use Rattle.jr_text.specs.declared.spans.Span.{Span}
use Rattle.jr_ast.specs.Tree as tree
use Rattle.jr_ast.specs.StatementTree as statement
use Rattle.jr_runs.specs.Keys as core_keys
use Rattle.jr_runs.specs.Core as core
use Rattle.jr_runs.specs.Rows as core_rows
use Rattle.jr_runs.specs.KeyMaps.{KeyMap}
use Rattle.jr_table.specs.Keys.{Ty, int, boolean}
use Rattle.jr_table.specs.Decls.{local_decl, LocalKey}
use Rattle.jr_table.specs.Rows.{Row}
use Rattle.jr_table.specs.Entries.{IsRowOf}
use Rattle.jr_table.specs.Found.{one}
use Rattle.jr_table.specs.Scope.{ScopeLocal}
use Rattle.jr_table.specs.Lookup.{FindsVariable}
use Rattle.jr_table.specs.Context.{known as known_type}
use Rattle.jr_table.specs.Context.{Context, Local, local_type, scope_of, scope_local, local_of, local_key, in_own, after, locals_in, locals_in_else, locals_in_row}
use Rattle.jr_table.specs.Binding.{Role, value}
use Rattle.jr_table.specs.Binding as role
use Rattle.jr_rewrite.specs.Respellings.{Choice, text_of}
use Rattle.jr_rewrite.specs.Rewritten.{Rewritten, within, joined, word_to}
use Rattle.jr_rewrite.specs.Spots.{Asks, level, a_statement, Spotted, nowhere, spotted, OrList}
use Rattle.jr_rewrite.specs.Rewrites.{Choosing, TransformsPart, TransformsMaybe, TransformsStmt, TransformsElse, TransformsStmts, TransformsList}
use Rattle.jr_images.specs.Regions.{Region}
use Rattle.jr_images.specs.Spelling.{choosing}
use Rattle.jr_images.proofs.Chosen.{renamed_text, left_none, right_none, lost_none}
use Rattle.jr_kept_references.proofs.RegionWorlds.{RegionWorld}
use Rattle.jr_kept_references.specs.InRegions.{rows_in, name_in, StandsFor}
use Rattle.jr_kept_references.specs.KeptInRegions.{PartsBecome}
use Rattle.jr_kept_references.specs.StatementsAlong.{ListSpotStands, ListStays}
use Rattle.jr_kept_references.specs.RegionPlaces.{Standing, AreStanding}
use Rattle.jr_kept_references.proofs.RegionTypes.{written_kept}
use Rattle.jr_code.specs.RunKeys.{RunKeys, Place}
use Rattle.jr_code.specs.Coded.{Code, ExpCode}
use Rattle.jr_code.specs.CodedStatements.{numbers, StatementCode, ListCode, ReturnCode, StmtCode, ElseCode, StmtsCode}
use Rattle.jr_image_code.specs.KnownPlaces.{IsKnown, IsPlace}
use Rattle.jr_image_code.specs.CodeRelations.{Relations, AreStmtsRelated}
use Rattle.jr_image_code.specs.CodedSpots.{CastsCoded, GoesByImages, SpotsCoded, AreBelow, ListsCoded, StatementsCoded}
use Rattle.jr_image_code.proofs.ExpImages.{part_goals, images, shown_row}

one_more_below : (size : ℕ) (ls : List Local) (l : Local) → AreBelow size ls → l.key.number < size → AreBelow size (ls ++ l ∷ [])
one_more_below size [] l each own zero x e = let p : l ≡ x = cc in subst (λ (y : Local). y.key.number < size) p own
one_more_below size [] l each own (suc i) x e = absurd cc
one_more_below size (y ∷ ls) l each own zero x e = each 0 x e
one_more_below size (y ∷ ls) l each own (suc i) x e = one_more_below size ls l (λ j z f. each (suc j) z f) own i x e

abbrev pub HasNoRows : List Row → Type 0
HasNoRows rows = (k : LocalKey) (j : ℕ) → IsRowOf rows (local_decl k) j → ⊥

found_below : (size : ℕ) (c : Context) → AreBelow size c.locals → (place : ℕ) (x : ScopeLocal) → slice_get (map scope_local c.locals) place ≡ Some x → x.key.number < size
found_below size c below place x e = by (slice_get c.locals place) refl
  where
    by : (o : Option Local) → slice_get c.locals place ≡ o → x.key.number < size
    by None is = absurd (let p = sym e ∙ slice_get-map scope_local c.locals place ∙ ap (option_map scope_local) is in cc)
    by (Some l) is = let p : Some x ≡ Some (scope_local l) = sym e ∙ slice_get-map scope_local c.locals place ∙ ap (option_map scope_local) is in
        let same : x ≡ scope_local l = cc in subst (λ (y : ScopeLocal). y.key.number < size) (sym same) (below place l is)

-- a local that is found is one of them
pub number_below : (rows : List Row) → HasNoRows rows → (size : ℕ) (c : Context) → AreBelow size c.locals → (k : LocalKey) (name : List ℕ) → FindsVariable rows (scope_of c) name (one (local_decl k)) → k.number < size
number_below rows no_rows size c below k name (inl (j, found, is)) =
    let same : k ≡ j = cc in subst (λ (y : LocalKey). y.number < size) (found.is ∙ sym same) (found_below size c below found.place found.local found.stands)
number_below rows no_rows size c below k name (inr (none, (a, finds, shows))) = let r = shown_row rows a (local_decl k) shows in absurd (no_rows k r.0 r.1)

module _ {A : Type 0} (tells : A → ℕ → Span) (last : A → ℕ → ℕ) (rows : List Row) (R : Region A) (super_at : Context → ℕ) (S : Spotted A) (At : Standing A)
    (stands : AreStanding tells rows R (choosing (λ m b. (tells m b).from) rows R super_at) S At) (parts : (c d : Context) → At.Known c d → PartsBecome (λ m b. (tells m b).from) rows R S c d) (worlds : (c d : Context) → StandsFor R rows c d → RegionWorld A rows R c d)
    (keys : KeyMap RunKeys) (D : core_rows.Rows RunKeys) (X : Relations) (by_images : GoesByImages rows R keys D X) (stmts : AreStmtsRelated keys D X) (no_rows : HasNoRows rows)
    (casts : (c d : Context) → IsPlace rows c → At.Known c d → CastsCoded tells rows R X (choosing (λ m b. (tells m b).from) rows R super_at) S c d)
    (spots : (c d : Context) → At.Known c d → SpotsCoded (λ m b. (tells m b).from) rows R X S c d) (size : ℕ)
    (coded : StatementsCoded tells last rows R X (choosing (λ m b. (tells m b).from) rows R super_at) S At size) where
  abbrev begins : A → ℕ → ℕ
  begins m b = (tells m b).from

  abbrev Chosen : Choosing A
  Chosen = choosing (λ m b. (tells m b).from) rows R super_at

  abbrev StmtGoal : (n z : ℕ) (c d : Context) → (b : ℕ) → statement.Stmt A → statement.Stmt A → Type 0
  StmtGoal n z c d b x y = (i : ℕ) (s t : StatementCode) → StmtCode begins last rows n c b x s → StmtCode begins last (rows_in R) z d i y t → X.stmt s t

  abbrev ElseGoal : (n z : ℕ) (c d : Context) → (b : ℕ) → statement.Else A → statement.Else A → Type 0
  ElseGoal n z c d b x y = (i : ℕ) (s t : StatementCode) → ElseCode begins last rows n c b x s → ElseCode begins last (rows_in R) z d i y t → X.stmt s t

  abbrev StmtsGoal : (n z : ℕ) (c d : Context) → (b : ℕ) → statement.Stmts A → statement.Stmts A → Type 0
  StmtsGoal n z c d b x y = ListsCoded tells last rows R X Chosen S At size n z c d b x y

  by : (s u t v : StatementCode) → s ≡ u → t ≡ v → X.stmt u v → X.stmt s t
  by s u t v a b h = subst (λ (x : StatementCode). X.stmt x t) (sym a) (subst (λ (y : StatementCode). X.stmt u y) (sym b) h)

  list_by : (s u t v : ListCode) → s ≡ u → t ≡ v → X.stmts u v → X.stmts s t
  list_by s u t v a b h = subst (λ (x : ListCode). X.stmts x t) (sym a) (subst (λ (y : ListCode). X.stmts u y) (sym b) h)

  declared_by : (p q : core_keys.At RunKeys) (n z : ℕ) (x y : Code) (s t : StatementCode) → s ≡ core.declare p n x → t ≡ core.declare q z y → X.mine n × X.free n × (z ≡ X.at n) → X.exp x y → X.stmt s t
  declared_by p q n z x y s t a b stays h = by s (core.declare p n x) t (core.declare q (X.at n) y) a (b ∙ ap (λ (k : ℕ). core.declare q k y) stays.2) (stmts.of_declare p q n x y stays.0 stays.1 h)

  -- what is known of two programs at a place that is known
  pub world : (c d : Context) → At.Known c d → RegionWorld A rows R c d
  world c d stand = worlds c d (stands.stand c d stand)

  -- an expression at a place that stands for another
  pub exp_image : (c d : Context) → At.Known c d → AreBelow size c.locals → IsPlace rows c → (k : Asks) (r : Role) (b : ℕ) (e : tree.Exp A) (o : Rewritten (tree.Exp A))
      → TransformsPart tells Chosen S k c r b e o → o.losses ≡ [] → (i : ℕ) (x z : Code) → ExpCode begins rows c b e x → ExpCode begins (rows_in R) d i o.tree z → X.exp x z
  exp_image c d stand below place k r b e o made none i x z old new =
      let w = world c d stand in
      let locals = coded.locals c d stand below in
      (part_goals tells rows R c d w keys D X by_images locals super_at S (casts c d place stand) (parts c d stand) (spots c d stand) k r b e o made none
      (λ inner own. images tells rows R c d w keys D X by_images locals super_at S (casts c d place stand) (parts c d stand) (spots c d stand) r b e o inner own none)).0
      i x z old new

  return_image : (c d : Context) → At.Known c d → AreBelow size c.locals → IsPlace rows c → (b : ℕ) (e : Option (tree.Exp A)) (o : Rewritten (Option (tree.Exp A))) → TransformsMaybe tells Chosen S c b e o → o.losses ≡ []
      → (i : ℕ) (p q : Place) (s t : StatementCode) → ReturnCode begins last rows c b p e s → ReturnCode begins last (rows_in R) d i q o.tree t → X.stmt s t
  return_image c d stand below place b None o is none i p q s t old new =
      by s _ t _ old (subst (λ (y : Rewritten (Option (tree.Exp A))). ReturnCode begins last (rows_in R) d i q y.tree t) is new) (stmts.of_return_nothing (Some p) (Some q))
  return_image c d stand below place b (Some e) o (x, made, is) none i p q s t (z, code, old) new =
      let n = subst (λ (y : Rewritten (Option (tree.Exp A))). ReturnCode begins last (rows_in R) d i q y.tree t) is new in
      by s _ t _ old n.2 (stmts.of_return (Some p) (Some q) z n.0 (exp_image c d stand below place (level 0) value b e x made (lost_none o (within (λ (y : tree.Exp A). Some y) x) is none) i z n.0 code n.1))

  move : (n z : ℕ) (c d : Context) (b : ℕ) (x : statement.Stmt A) (o p : Rewritten (statement.Stmt A)) → o ≡ p → StmtGoal n z c d b x p.tree → StmtGoal n z c d b x o.tree
  move n z c d b x o p is goal = subst (λ (y : Rewritten (statement.Stmt A)). StmtGoal n z c d b x y.tree) (sym is) goal

  -- a declaration has its number below
  behind : (n : ℕ) (c : Context) (x : statement.Stmt A) → AreBelow size c.locals → n + locals_in x ≤ size → AreBelow size (after n c x).locals
  unfolding locals_in
  behind n c (statement.local m f t w e) below fits = one_more_below size c.locals (local_of c n f t w) below (omega (arith, fits))
  behind n c (statement.eval m e) below fits = below
  behind n c (statement.branch m e x other) below fits = below
  behind n c (statement.loop m e x) below fits = below
  behind n c (statement.return m e) below fits = below
  behind n c (statement.block m body) below fits = below
  behind n c (statement.sync m e body) below fits = below
  behind n c (statement.empty m) below fits = below

  -- a place stays one
  more_known : (ls : List Local) (l : Local) → ((i : ℕ) (x : Local) → slice_get ls i ≡ Some x → (u : Ty) → x.type ≡ known_type u → IsKnown rows u) → ((u : Ty) → l.type ≡ known_type u → IsKnown rows u)
      → (i : ℕ) (x : Local) → slice_get (ls ++ l ∷ []) i ≡ Some x → (u : Ty) → x.type ≡ known_type u → IsKnown rows u
  more_known [] l each own zero x e u is = (let p : l ≡ x = cc in own u (ap (λ (y : Local). y.type) p ∙ is))
  more_known [] l each own (suc i) x e u is = absurd cc
  more_known (y ∷ ls) l each own zero x e u is = each 0 x e u is
  more_known (y ∷ ls) l each own (suc i) x e u is = more_known ls l (λ j z f. each (suc j) z f) own i x e u is

  written_known : (t : tree.TypeName A) (u : Ty) → local_type t ≡ known_type u → IsKnown rows u
  written_known (tree.int m) u e k is = absurd (let p : int ≡ u = cc in let q = p ∙ is in cc)
  written_known (tree.boolean m) u e k is = absurd (let p : boolean ≡ u = cc in let q = p ∙ is in cc)
  written_known (tree.named m o w) u e k is = absurd cc

  place_own : (c : Context) (n : ℕ) (f : Bool) (t : tree.TypeName A) (w : tree.Word A) → IsPlace rows c → IsPlace rows (in_own c (local_of c n f t w))
  place_own c n f t w place = record { class = place.class; locals = more_known c.locals (local_of c n f t w) place.locals (written_known t) }

  place_behind : (n : ℕ) (c : Context) (x : statement.Stmt A) → IsPlace rows c → IsPlace rows (after n c x)
  place_behind n c (statement.local m f t w e) place = record { class = place.class; locals = more_known c.locals (local_of c n f t w) place.locals (written_known t) }
  place_behind n c (statement.eval m e) place = place
  place_behind n c (statement.branch m e x other) place = place
  place_behind n c (statement.loop m e x) place = place
  place_behind n c (statement.return m e) place = place
  place_behind n c (statement.block m body) place = place
  place_behind n c (statement.sync m e body) place = place
  place_behind n c (statement.empty m) place = place

  -- node by node, or as a spot has it
  pub list_goals : (n z : ℕ) (c d : Context) (b : ℕ) (xs : statement.Stmts A) → At.Lists n z c d xs → AreBelow size c.locals → IsPlace rows c → (q : Rewritten (statement.Stmts A)) → TransformsList tells Chosen S n c b xs q → q.losses ≡ []
      → n + locals_in_row xs ≤ size → (TransformsStmts tells Chosen S n c b xs q → ListStays S n c b xs → StmtsGoal n z c d b xs q.tree) → StmtsGoal n z c d b xs q.tree
  list_goals n z c d b xs at below place q made none fits by_node = by_spots S made (λ stays. stays) (λ spot. coded.lists n z c d b xs 0 q.tree at spot below place fits)
    where
      by_spots : (s : Spotted A) → OrList s n c b xs q (TransformsStmts tells Chosen S n c b xs q) → (ListStays s n c b xs → ListStays S n c b xs) → (ListSpotStands s n z c d b xs 0 q.tree → StmtsGoal n z c d b xs q.tree) → StmtsGoal n z c d b xs q.tree
      by_spots nowhere inner to is = by_node inner (to tt)
      by_spots (spotted s) (inl (stays, inner)) to is = by_node inner (to stays)
      by_spots (spotted s) (inr spot) to is = is (q, spot, none, refl)

  mutual
    unfolding TransformsStmt TransformsElse TransformsStmts StmtCode ElseCode StmtsCode locals_in locals_in_else locals_in_row

    pub stmt_images : (n z : ℕ) (c d : Context) (b : ℕ) (x : statement.Stmt A) → At.Single n z c d x → AreBelow size c.locals → IsPlace rows c → (q : Rewritten (statement.Stmt A)) → TransformsStmt tells Chosen S n c b x q → q.losses ≡ []
        → n + locals_in x ≤ size → StmtGoal n z c d b x q.tree
    stmt_images n z c d b (statement.local m f t w e) at below place q (p, v, y, types, (h, declared, word), inner, is) none fits =
        let all = lost_none q (joined (λ (u : tree.TypeName A × tree.Word A) x. statement.local m f u.0 u.1 x) (joined (λ u z. (u, z)) p v) y) is none in
        let goes = written_kept tells rows R c d (world c d (stands.known n z c d (statement.local m f t w e) at)) super_at _ t p types (left_none p.losses v.losses (left_none (p.losses ++ v.losses) y.losses all)) in
        let named = ap (λ (x : Choice). text_of x w.text) declared ∙ renamed_text w.text (name_in R (local_decl (local_key c n)) w.text) in
        let there = ap (λ (y : Rewritten (statement.Stmt A)). y.tree) is ∙ ap (λ (u : Rewritten (tree.Word A)). statement.local m f p.tree u.tree y.tree) word in
        let small : n < size = omega (arith, fits) in
        subst (λ (y : statement.Stmt A). StmtGoal n z c d b (statement.local m f t w e) y) (sym there) (λ i s u (x, code, old) (l, new_code, new).
        declared_by _ _ n z x l s u old new (coded.declared n z c d m f t w e at small)
        (exp_image (in_own c (local_of c n f t w)) (in_own d (local_of d z f p.tree (word_to h w)))
        (stands.in_initializer n z c d m f t p.tree w (word_to h w) e at goes.means named)
        (one_more_below size c.locals (local_of c n f t w) below small) (place_own c n f t w place) (level 0) value _ e y inner
        (right_none (p.losses ++ v.losses) y.losses all) _ x l code new_code))
    stmt_images n z c d b (statement.eval m e) at below place q (p, inner, is) none fits =
        move n z c d b (statement.eval m e) q (within (λ x. statement.eval m x) p) is (λ i s t (x, code, old) (y, new_code, new).
        by s _ t _ old new (stmts.of_eval _ _ x y (exp_image c d (stands.known n z c d (statement.eval m e) at) below place a_statement role.statement _ e p inner (lost_none q (within (λ x. statement.eval m x) p) is none) _ x y code new_code)))
    stmt_images n z c d b (statement.branch m e x other) at below place q (p, y, r, inner, one_side, other_side, is) none fits =
        let all = lost_none q (joined (λ (u : tree.Exp A × statement.Stmt A) v. statement.branch m u.0 u.1 v) (joined (λ u v. (u, v)) p y) r) is none in
        let front = left_none (p.losses ++ y.losses) r.losses all in
        let body = right_none p.losses y.losses front in
        move n z c d b (statement.branch m e x other) q (joined (λ (u : tree.Exp A × statement.Stmt A) v. statement.branch m u.0 u.1 v) (joined (λ u v. (u, v)) p y) r) is (λ i s t (a, k, l, code, stmt, last_one, old) (o, u, v, new_code, new_stmt, new_last, new).
        by s _ t _ old new (stmts.of_branch _ _ a o k u l v (exp_image c d (stands.known n z c d (statement.branch m e x other) at) below place (level 0) value _ e p inner (left_none p.losses y.losses front) _ a o code new_code)
        (stmt_images n z c d _ x (stands.in_branch n z c d m e x other at) below place y one_side body (omega (arith, fits)) _ k u stmt new_stmt)
        (else_images (n + locals_in x) (z + locals_in y.tree) c d _ other (λ f is_else. stands.in_else n z c d _ m e x f y (subst (λ (g : statement.Else A). At.Single n z c d (statement.branch m e x g)) is_else at) (one_side, body)) below place r other_side (right_none (p.losses ++ y.losses) r.losses all) (omega (arith, fits)) _ l v last_one new_last)))
    stmt_images n z c d b (statement.loop m e x) at below place q (p, y, inner, body, is) none fits =
        let all = lost_none q (joined (λ u v. statement.loop m u v) p y) is none in
        move n z c d b (statement.loop m e x) q (joined (λ u v. statement.loop m u v) p y) is (λ i s t (a, k, code, stmt, old) (o, u, new_code, new_stmt, new).
        by s _ t _ old new (stmts.of_loop _ _ a o k u (exp_image c d (stands.known n z c d (statement.loop m e x) at) below place (level 0) value _ e p inner (left_none p.losses y.losses all) _ a o code new_code)
        (stmt_images n z c d _ x (stands.in_loop n z c d m e x at) below place y body (right_none p.losses y.losses all) fits _ k u stmt new_stmt)))
    stmt_images n z c d b (statement.return m e) at below place q (p, inner, is) none fits =
        move n z c d b (statement.return m e) q (within (λ x. statement.return m x) p) is (λ i s t old new.
        return_image c d (stands.known n z c d (statement.return m e) at) below place _ e p inner (lost_none q (within (λ x. statement.return m x) p) is none) _ _ _ s t old new)
    stmt_images n z c d b (statement.block m body) at below place q (p, inner, is) none fits =
        let all = lost_none q (within (λ x. statement.block m x) p) is none in
        move n z c d b (statement.block m body) q (within (λ x. statement.block m x) p) is (λ i s t (k, list, old) (u, new_list, new).
        by s _ t _ old new (stmts.of_block _ _ (numbers n (locals_in_row body)) (numbers z (locals_in_row p.tree)) k u (coded.block n z c d _ m body p at inner all fits)
        (list_goals n z c d _ body (stands.in_block n z c d m body at) below place p inner all fits (λ x held. stmts_images n z c d _ body (stands.in_block n z c d m body at) held below place p x all fits) _ k u list new_list)))
    stmt_images n z c d b (statement.sync m e body) at below place q (p, y, inner, rest, is) none fits =
        let all = lost_none q (joined (λ u v. statement.sync m u v) p y) is none in
        let back = right_none p.losses y.losses all in
        move n z c d b (statement.sync m e body) q (joined (λ u v. statement.sync m u v) p y) is (λ i s t (a, k, code, list, old) (o, u, new_code, new_list, new).
        by s _ t _ old new (stmts.of_sync _ _ _ _ a o k u (exp_image c d (stands.known n z c d (statement.sync m e body) at) below place (level 0) value _ e p inner (left_none p.losses y.losses all) _ a o code new_code)
        (list_goals n z c d _ body (stands.in_sync n z c d m e body at) below place y rest back fits (λ x held. stmts_images n z c d _ body (stands.in_sync n z c d m e body at) held below place y x back fits) _ k u list new_list)))
    stmt_images n z c d b (statement.empty m) at below place q is none fits = move n z c d b (statement.empty m) q _ is (λ i s t old new. by s _ t _ old new (stmts.of_empty _ _))

    pub else_images : (n z : ℕ) (c d : Context) (b : ℕ) (x : statement.Else A) → ((y : statement.Stmt A) → x ≡ statement.otherwise y → At.Single n z c d y) → AreBelow size c.locals → IsPlace rows c → (q : Rewritten (statement.Else A)) → TransformsElse tells Chosen S n c b x q → q.losses ≡ []
        → n + locals_in_else x ≤ size → ElseGoal n z c d b x q.tree
    else_images n z c d b statement.no_else at below place q is none fits = subst (λ (y : Rewritten (statement.Else A)). ElseGoal n z c d b statement.no_else y.tree) (sym is) (λ i s t old new. by s _ t _ old new (stmts.of_empty None None))
    else_images n z c d b (statement.otherwise x) at below place q (p, inner, is) none fits = subst (λ (y : Rewritten (statement.Else A)). ElseGoal n z c d b (statement.otherwise x) y.tree) (sym is) (λ i s t old new.
        stmt_images n z c d b x (at x refl) below place p inner (lost_none q (within (λ y. statement.otherwise y) p) is none) fits i s t old new)

    pub stmts_images : (n z : ℕ) (c d : Context) (b : ℕ) (xs : statement.Stmts A) → At.Lists n z c d xs → ListStays S n c b xs → AreBelow size c.locals → IsPlace rows c → (q : Rewritten (statement.Stmts A)) → TransformsStmts tells Chosen S n c b xs q → q.losses ≡ []
        → n + locals_in_row xs ≤ size → StmtsGoal n z c d b xs q.tree
    stmts_images n z c d b statement.end at held below place q is none fits = subst (λ (y : Rewritten (statement.Stmts A)). StmtsGoal n z c d b statement.end y.tree) (sym is) (λ i s t old new. list_by s _ t _ old new stmts.of_no_stmts)
    stmts_images n z c d b (statement.more x xs) at held below place q (p, y, inner, rest, is) none fits =
        let all = lost_none q (joined (λ y ys. statement.more y ys) p y) is none in
        let front = left_none p.losses y.losses all in
        let back = right_none p.losses y.losses all in
        let fits_here : n + locals_in x ≤ size = omega (arith, fits) in
        let fits_behind : (n + locals_in x) + locals_in_row xs ≤ size = omega (arith, fits) in
        let next = stands.behind n z c d b x xs p at held (inner, front) in
        subst (λ (u : Rewritten (statement.Stmts A)). StmtsGoal n z c d b (statement.more x xs) u.tree) (sym is) (λ i s t (a, k, stmt, list, old) (o, u, new_stmt, new_list, new).
        list_by s _ t _ old new (stmts.of_more_stmts a o k u (stmt_images n z c d b x (stands.first n z c d b x xs at held) below place p inner front fits_here i a o stmt new_stmt)
        (list_goals (n + locals_in x) (z + locals_in p.tree) (after n c x) (after z d p.tree) b xs next (behind n c x below fits_here) (place_behind n c x place) y rest back fits_behind
        (λ v there. stmts_images (n + locals_in x) (z + locals_in p.tree) (after n c x) (after z d p.tree) b xs next there (behind n c x below fits_here) (place_behind n c x place) y v back fits_behind) i k u list new_list)))

  -- a list, node by node or as a spot has it
  pub list_images : (n z : ℕ) (c d : Context) (b : ℕ) (xs : statement.Stmts A) → At.Lists n z c d xs → AreBelow size c.locals → IsPlace rows c → (q : Rewritten (statement.Stmts A)) → TransformsList tells Chosen S n c b xs q → q.losses ≡ []
      → n + locals_in_row xs ≤ size → StmtsGoal n z c d b xs q.tree
  list_images n z c d b xs at below place q made none fits = list_goals n z c d b xs at below place q made none fits (λ x held. stmts_images n z c d b xs at held below place q x none fits)
