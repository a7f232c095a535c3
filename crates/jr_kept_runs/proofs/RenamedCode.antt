-- The code of what a rename rewrites is kept: a rename is the case of one region without spots, and code that is kept is a relation
-- that holds of a node where it holds of its parts.
use Rattle.std.proofs.Common.{◌≡◌, ◌<◌, ℕ, ◌+◌, List, [], Option, Some, None, false, refl, sym, ap, subst, ◌∙◌, length, arith}
use Rattle.jr_text.specs.declared.spans.Span.{Span}
use Rattle.jr_ast.specs.Tree as tree
use Rattle.jr_ast.specs.StatementTree as statement
use Rattle.jr_ast.specs.MemberTree as syntax
use Rattle.jr_runs.specs.Keys.{At as At_of}
use Rattle.jr_runs.specs.Core as core
use Rattle.jr_runs.specs.Rows as core_rows
use Rattle.jr_runs.specs.KeyMaps.{KeyMap}
use Rattle.jr_runs.specs.MemberTranslation.{in_front}
use Rattle.jr_table.specs.Keys.{ClassKey, MethodKey, CtorKey, Ty}
use Rattle.jr_table.specs.Decls.{MemberKey, head, method, constructor, LocalKey, class_decl, constructor_decl}
use Rattle.jr_table.specs.Rows.{Row}
use Rattle.jr_table.specs.Prelude.{top_key}
use Rattle.jr_table.specs.Entries.{IsRowOf}
use Rattle.jr_table.specs.Conditions.{AreRows}
use Rattle.jr_table.specs.Keyed.{IsAssignable}
use Rattle.jr_table.specs.DeclaredItems.{DeclaredItem}
use Rattle.jr_table.specs.Errors.{InMembers}
use Rattle.jr_table.specs.Context.{Context, scope_of, after, locals_in, locals_in_else, locals_in_row}
use Rattle.jr_table.specs.HeadRules.{plain}
use Rattle.jr_table.specs.Binding.{HasType}
use Rattle.jr_table.specs.BindingLaws.{IsBound}
use Rattle.jr_spell.specs.Rebound.{AreFronts}
use Rattle.jr_members.specs.WrittenMembers.{decl_of_member}
use Rattle.jr_rewrite.specs.Rewritten.{Rewritten}
use Rattle.jr_rewrite.specs.Spots.{nowhere}
use Rattle.jr_rewrite.specs.Rewrites.{Choosing, RewritesStmt, RewritesElse, RewritesStmts, RewritesMember, RewritesMembers, TransformsStmt, TransformsElse, TransformsStmts}
use Rattle.jr_images.specs.Images.{Renaming, class_to, method_to, ctor_to, member_to, local_to, type_to, scope_to, rows_to}
use Rattle.jr_images.specs.Regions.{region_of}
use Rattle.jr_images.specs.Spelling.{spelling}
use Rattle.jr_images.specs.Standing.{ContextTo}
use Rattle.jr_images.specs.RenameLaws.{IsFair}
use Rattle.jr_images.proofs.Places.{scope_image}
use Rattle.jr_images.proofs.World.{World}
use Rattle.jr_images.proofs.Members.{plain_to}
use Rattle.jr_kept_references.specs.InRegions.{StandsFor}
use Rattle.jr_kept_references.proofs.RegionWorlds.{RegionWorld}
use Rattle.jr_kept_references.proofs.Renamed.{same_type, world_of}
use Rattle.jr_kept_references.specs.RegionPlaces.{Standing}
use Rattle.jr_kept_references.proofs.RenamedPlaces.{At as Places, renamed_stand, renamed_begin, renamed_walk}
use Rattle.jr_code.specs.RunKeys.{RunKeys}
use Rattle.jr_code.specs.RunRows.{HasRow}
use Rattle.jr_code.specs.CodedStatements.{numbers, StatementCode, ListCode}
use Rattle.jr_code.specs.CodedMembers.{ImplicitFinds, MethodCoded, ConstructorCoded, InitsCoded}
use Rattle.jr_image_code.specs.KnownPlaces.{IsKnown, IsPlace}
use Rattle.jr_image_code.specs.KeysIn.{MapsAs, AreDeclared, CastsStay}
use Rattle.jr_image_code.specs.CodeRelations.{Relations, AreExpsRelated, AreStmtsRelated}
use Rattle.jr_image_code.specs.CodedSpots.{CastsCoded, GoesByImages, StatementsCoded}
use Rattle.jr_image_code.specs.MemberCodes.{CodesTo, MethodsTo, AllTo}
use Rattle.jr_image_code.proofs.StmtImages.{HasNoRows, number_below}
use Rattle.jr_image_code.proofs.MemberImages as general
use Rattle.jr_image_code.proofs.MemberImages.{Of}
use Rattle.jr_image_code.proofs.ConstructorImages as constructors
use Rattle.jr_image_code.proofs.InitImages as initializers
use Rattle.jr_image_code.proofs.Renamed.{words_stay, no_spots, casts_alike}
use Rattle.jr_kept_runs.specs.KeysTo.{keys_to}
use Rattle.jr_kept_runs.specs.CastsAgree.{CastsAgree}
use Rattle.jr_kept_runs.proofs.KeptCode.{ToExp, ToTarget, ToExps, ToStmt, ToStmts, ToCode, ToMethod, literal_to, this_to, read_to, assign_to, compound_to, bump_to, signed_to, binary_to, both_to, either_to, cast_to, static_call_to, instance_call_to, super_call_to, create_to, super_constructor_to, local_to as kept_local, static_field_to, field_of_to, end_to, more_to, declare_to, eval_to, branch_to, loop_to, return_to, return_nothing_to, block_to, sync_to, empty_to, no_more_to, list_to}

-- ---- kept code, as relations

module _ (keys : KeyMap RunKeys) (D : core_rows.Rows RunKeys) (size : ℕ) where
  abbrev pub Kept : Relations
  Kept = record {
    exp = ToExp keys D size;
    target = ToTarget keys D size;
    exps = ToExps keys D size;
    stmt = ToStmt keys D size;
    stmts = ToStmts keys D size;
    own = Unit {0};
    mine = λ n. n < size;
    free = λ n. Unit {0};
    at = λ n. n;
    block = λ ns ms. ms ≡ ns;
  }

  kept_exps : AreExpsRelated keys D Kept
  kept_exps = record {
    of_literal = λ p q v. literal_to p q v;
    of_this = λ own p q. this_to p q;
    of_read = λ p q t u h. read_to p q t u h;
    of_assign = λ p q t u x z h free i. assign_to p q t u x z h i;
    of_compound = λ p q op t u x z h free i. compound_to p q op t u x z h i;
    of_bump = λ p q op t u h free. bump_to p q op t u h;
    of_signed = λ p q op x z h. signed_to p q op x z h;
    of_binary = λ p q op x z y v h i. binary_to p q op x z y v h i;
    of_both = λ p q x z y v h i. both_to p q x z y v h i;
    of_either = λ p q x z y v h i. either_to p q x z y v h i;
    of_cast = λ p q k x z h. cast_to p q k x z h;
    of_static_call = λ p q k es fs has h. static_call_to p q k es fs has h;
    of_instance_call = λ p q x z k es fs has h i. instance_call_to p q x z k es fs has h i;
    of_super_call = λ p q x z k es fs has h i. super_call_to p q x z k es fs has h i;
    of_create = λ p q k c es fs has h. create_to p q k c es fs has h;
    of_super_constructor = λ p q x z c es fs has h i. super_constructor_to p q x z c es fs has h i;
    of_local = λ p q n mine. kept_local p q n mine;
    of_static_field = λ p q f. static_field_to p q f;
    of_field = λ p q x z f h. field_of_to p q x z f h;
    of_no_exps = end_to;
    of_more_exps = λ x z es fs h i. more_to x z es fs h i;
  }

  kept_stmts : AreStmtsRelated keys D Kept
  kept_stmts = record {
    of_declare = λ p q n x z mine free h. declare_to p q n x z mine h;
    of_eval = λ p q x z h. eval_to p q x z h;
    of_branch = λ p q x z s t u v h i j. branch_to p q x z s t u v h i j;
    of_loop = λ p q x z s t h i. loop_to p q x z s t h i;
    of_return = λ p q x z h. return_to p q x z h;
    of_return_nothing = λ p q. return_nothing_to p q;
    of_block = λ p q ns ms s t same h. subst (λ (z : List ℕ). ToStmt keys D size (core.block p ns s) (core.block q z t)) (sym same) (block_to p q ns s t h);
    of_sync = λ p q u v x z s t h i. sync_to p q u v x z s t h i;
    of_empty = λ p q. empty_to p q;
    of_no_stmts = no_more_to;
    of_more_stmts = λ s t u v h i. list_to s t u v h i;
  }

  code_of : (x z : core.Code RunKeys) → CodesTo Kept size x z → ToCode keys D x z
  code_of x z h = record { size = size; params = h.0; below = h.1; body = h.2 }

  method_of : (x z : core.Method RunKeys) → MethodsTo Kept size x z → ToMethod keys D x z
  method_of (core.written x) (core.written z) h = code_of x z h
  method_of core.starts core.starts h = tt
  method_of (core.written x) core.starts h = absurd h
  method_of core.starts (core.written z) h = absurd h

-- ---- as many locals are declared

module _ {A : Type 0} (tells : A → ℕ → Span) (C : Choosing A) where
  mutual
    unfolding TransformsStmt TransformsElse TransformsStmts locals_in locals_in_else locals_in_row

    same_count : (n : ℕ) (c : Context) (b : ℕ) (x : statement.Stmt A) (q : Rewritten (statement.Stmt A)) → RewritesStmt tells C n c b x q → locals_in q.tree ≡ locals_in x
    same_count n c b (statement.local m f t w e) q (p, v, z, types, declared, inner, is) = ap (λ (y : Rewritten (statement.Stmt A)). locals_in y.tree) is
    same_count n c b (statement.eval m e) q (p, inner, is) = ap (λ (y : Rewritten (statement.Stmt A)). locals_in y.tree) is
    same_count n c b (statement.branch m e x other) q (p, y, z, inner, one_side, other_side, is) = ap (λ (u : Rewritten (statement.Stmt A)). locals_in u.tree) is
        ∙ (λ i. same_count n c _ x y one_side i + same_count_else (n + locals_in x) c _ other z other_side i)
    same_count n c b (statement.loop m e x) q (p, y, inner, body, is) = ap (λ (u : Rewritten (statement.Stmt A)). locals_in u.tree) is ∙ same_count n c _ x y body
    same_count n c b (statement.return m e) q (p, inner, is) = ap (λ (y : Rewritten (statement.Stmt A)). locals_in y.tree) is
    same_count n c b (statement.block m body) q (p, inner, is) = ap (λ (y : Rewritten (statement.Stmt A)). locals_in y.tree) is ∙ same_count_row n c _ body p inner
    same_count n c b (statement.sync m e body) q (p, y, inner, rest, is) = ap (λ (u : Rewritten (statement.Stmt A)). locals_in u.tree) is ∙ same_count_row n c _ body y rest
    same_count n c b (statement.empty m) q is = ap (λ (y : Rewritten (statement.Stmt A)). locals_in y.tree) is

    same_count_else : (n : ℕ) (c : Context) (b : ℕ) (x : statement.Else A) (q : Rewritten (statement.Else A)) → RewritesElse tells C n c b x q → locals_in_else q.tree ≡ locals_in_else x
    same_count_else n c b statement.no_else q is = ap (λ (y : Rewritten (statement.Else A)). locals_in_else y.tree) is
    same_count_else n c b (statement.otherwise x) q (p, inner, is) = ap (λ (y : Rewritten (statement.Else A)). locals_in_else y.tree) is ∙ same_count n c b x p inner

    same_count_row : (n : ℕ) (c : Context) (b : ℕ) (xs : statement.Stmts A) (q : Rewritten (statement.Stmts A)) → RewritesStmts tells C n c b xs q → locals_in_row q.tree ≡ locals_in_row xs
    same_count_row n c b statement.end q is = ap (λ (y : Rewritten (statement.Stmts A)). locals_in_row y.tree) is
    same_count_row n c b (statement.more x xs) q (p, z, inner, rest, is) = ap (λ (y : Rewritten (statement.Stmts A)). locals_in_row y.tree) is
        ∙ (λ i. same_count n c b x p inner i + same_count_row (n + locals_in x) (after n c x) b xs z rest i)

-- ---- members

module _ {A : Type 0} (tells : A → ℕ → Span) (last : A → ℕ → ℕ) (rows : List Row) (g : Renaming) (super_at : Context → ℕ) (worlds : (c d : Context) → ContextTo g rows c d → World A rows g c d)
    (fair : IsFair rows g) (bound_old : (c : Context) → IsBound A rows c) (bound_new : (d : Context) → IsBound A (rows_to g rows) d) (fronts : (d : Context) → AreFronts A (rows_to g rows) d)
    (keys : KeyMap RunKeys) (maps : MapsAs keys (keys_to g) rows) (R : core_rows.Rows RunKeys) (has : AreDeclared rows R) (no_rows : HasNoRows rows)
    (casts : CastsAgree rows (rows_to g rows) (type_to g)) (known : (c : Context) → IsPlace rows c → (e : tree.Exp A) (t : Ty) → HasType rows c e t → IsKnown rows t) (places places' : MemberKey → ℕ)
    (are : AreRows rows) (implicit : (c d : Context) → scope_of d ≡ scope_to g c → (q n : CtorKey) → ImplicitFinds rows c q → ImplicitFinds (rows_to g rows) d n → n ≡ ctor_to g q) where
  abbrev begins : A → ℕ → ℕ
  begins m b = (tells m b).from

  abbrev Chosen : Choosing A
  Chosen = spelling (λ m b. (tells m b).from) rows g super_at

  -- places of a rename
  abbrev At : Standing A
  At = Places tells rows g super_at worlds

  -- what is known of all places is known of those that stand for one another
  region_worlds : (c d : Context) → StandsFor (region_of {A = A} rows g) rows c d → RegionWorld A rows (region_of rows g) c d
  region_worlds c d stand =
      let k = head (top_key []) in
      let s = plain_to tells rows g super_at worlds k false in
      let w = worlds (plain k false) (plain (member_to g k) false) s in
      let base = world_of rows g (plain k false) (plain (member_to g k) false) s fair w in
      record {
        one_old = w.one_old;
        one_new = w.one_new;
        old = bound_old c;
        new = bound_new d;
        rebind = w.rebind;
        classes = w.classes;
        fronts = fronts d;
        images = base.images;
        args = base.args;
        types = base.types;
        stand = stand;
      }

  alike : (c : Context) → IsPlace rows c → CastsStay rows (region_of {A = A} rows g) c
  alike c place e t u type is_known = (
    λ h. subst (λ (z : Ty). IsAssignable (rows_to g rows) (type_to g t) z) (same_type rows g u) (casts.forth t u h),
    λ h. casts.back t u (known c place e t type) is_known (subst (λ (z : Ty). IsAssignable (rows_to g rows) (type_to g t) z) (sym (same_type rows g u)) h),
  )

  -- what an implicit `super()` finds
  implicit_at : (c d : Context) → At.Known c d → (q n : CtorKey) → ImplicitFinds rows c q → ImplicitFinds (rows_to g rows) d n → n ≡ ctor_to g q
  implicit_at c d stand = implicit c d (scope_image g rows c d stand)

  module _ (size : ℕ) where
    casts_stay : (c d : Context) → IsPlace rows c → At.Known c d → CastsCoded tells rows (region_of rows g) (Kept keys R size) Chosen nowhere c d
    casts_stay c d place stand = casts_alike tells rows g (Kept keys R size) Chosen c d (alike c place)

    goes : GoesByImages {A = A} rows (region_of rows g) keys R (Kept keys R size)
    goes = record { maps = maps; has = has; words = words_stay rows g; exps = kept_exps keys R size }

    number_stays : (k m : LocalKey) → Some (local_to g k) ≡ Some m → m.number ≡ k.number
    number_stays k m image = (let same : local_to g k ≡ m = cc in ap (λ (l : LocalKey). l.number) (sym same))

    coded : StatementsCoded tells last rows (region_of rows g) (Kept keys R size) Chosen nowhere At size
    coded = record {
      locals = λ c d stand below k m name finds image. (number_below rows no_rows size c below k name finds, number_stays k m image);
      declared = λ n z c d m f t w e at small. (small, tt, sym at.0);
      block = λ n z c d b m xs q at made none fits. (λ i. numbers (sym at.0 i) (same_count_row tells Chosen n c b xs q made i));
      lists = λ n z c d b xs i ys at spot. absurd spot;
    }

  pub method_image : (k : MethodKey) (j : ℕ) → IsRowOf rows (class_decl k.class) j → ((t : Ty) → Of t k.params → IsKnown rows t) → (base : ℕ) (m : A) (mods : List (syntax.Modifier A)) (t : Option (tree.TypeName A)) (w : tree.Word A) (ps : List (syntax.Param A)) (body : statement.Stmts A)
      → (o : Rewritten (syntax.Member A)) → RewritesMember tells Chosen (method k) base (syntax.method m mods t w ps body) o → o.losses ≡ [] → (i : ℕ) (x y : core.Method RunKeys)
      → MethodCoded begins last rows places k base (syntax.method m mods t w ps body) x → MethodCoded begins last (rows_to g rows) places' (method_to g k) i o.tree y → ToMethod keys R x y
  method_image k j row types base m mods t w ps body o made none i x y old new =
      let size = length ps + locals_in_row body in
      method_of keys R size x y (general.method_image tells last rows (region_of rows g) super_at nowhere At (renamed_stand tells rows g super_at worlds) (renamed_begin tells rows g super_at worlds) (λ c d stand. refl) region_worlds
      keys R (Kept keys R size) (goes size) (kept_stmts keys R size) no_rows (casts_stay size) (λ i o stand. no_spots begins rows g (Kept keys R size) tt (λ n. tt) i o) size (coded size) tt places places'
      k refl j row types base m mods t w ps body tt (omega arith) o made none i x y old new)

  pub in_front_image : (size : ℕ) (ss ts : List StatementCode) (x y : ListCode) → AllTo (Kept keys R size) ss ts → ToStmts keys R size x y → ToStmts keys R size (in_front ss x) (in_front ts y)
  in_front_image size ss ts x y all h = constructors.in_front_image tells last rows (region_of rows g) super_at nowhere At (renamed_stand tells rows g super_at worlds) (renamed_begin tells rows g super_at worlds) (λ c d stand. refl) region_worlds
      keys R (Kept keys R size) (goes size) (kept_stmts keys R size) no_rows (casts_stay size) (λ i o stand. no_spots begins rows g (Kept keys R size) tt (λ n. tt) i o) size (coded size) tt places places' are implicit_at ss ts x y all h

  pub implicit_row : (c : Context) (q : CtorKey) → ImplicitFinds rows c q → (j : ℕ) × IsRowOf rows (constructor_decl q) j
  implicit_row c q finds = constructors.implicit_row tells last rows (region_of rows g) super_at nowhere At (renamed_stand tells rows g super_at worlds) (renamed_begin tells rows g super_at worlds) (λ c d stand. refl) region_worlds
      keys R (Kept keys R 0) (goes 0) (kept_stmts keys R 0) no_rows (casts_stay 0) (λ i o stand. no_spots begins rows g (Kept keys R 0) tt (λ n. tt) i o) 0 (coded 0) tt places places' are implicit_at c q finds

  pub parent_by : (size : ℕ) (q n : CtorKey) (j : ℕ) → IsRowOf rows (constructor_decl q) j → n ≡ ctor_to g q → (p o : At_of RunKeys) (es fs : core.Exps RunKeys) → ToExps keys R size es fs → (s t : StatementCode)
      → s ≡ core.eval p (core.super_constructor p (core.this None) q es) → t ≡ core.eval o (core.super_constructor o (core.this None) n fs) → ToStmt keys R size s t
  parent_by size q n j row is p o es fs args s t a b = constructors.parent_by tells last rows (region_of rows g) super_at nowhere At (renamed_stand tells rows g super_at worlds) (renamed_begin tells rows g super_at worlds) (λ c d stand. refl) region_worlds
      keys R (Kept keys R size) (goes size) (kept_stmts keys R size) no_rows (casts_stay size) (λ i o stand. no_spots begins rows g (Kept keys R size) tt (λ n. tt) i o) size (coded size) tt places places' are implicit_at q n j row is p o es fs args s t a b

  pub constructor_image : (k : CtorKey) → HasRow rows (class_decl k.class) → ((t : Ty) → Of t k.params → IsKnown rows t) → (base : ℕ) (m : A) (mods : List (syntax.Modifier A)) (w : tree.Word A) (ps : List (syntax.Param A)) (args : Option (tree.Exps A)) (body : statement.Stmts A)
      → (o : Rewritten (syntax.Member A)) → RewritesMember tells Chosen (constructor k) base (syntax.constructor m mods w ps args body) o → o.losses ≡ [] → (i : ℕ) (ss ts : List StatementCode)
      → ((size : ℕ) → AllTo (Kept keys R size) ss ts) → (x y : core.Code RunKeys)
      → ConstructorCoded begins last rows places k base ss (syntax.constructor m mods w ps args body) x → ConstructorCoded begins last (rows_to g rows) places' (ctor_to g k) i ts o.tree y → ToCode keys R x y
  constructor_image k row types base m mods w ps args body o made none i ss ts inits x y old new =
      let size = length ps + locals_in_row body in
      code_of keys R size x y (constructors.constructor_image tells last rows (region_of rows g) super_at nowhere At (renamed_stand tells rows g super_at worlds) (renamed_begin tells rows g super_at worlds) (λ c d stand. refl) region_worlds
      keys R (Kept keys R size) (goes size) (kept_stmts keys R size) no_rows (casts_stay size) (λ i o stand. no_spots begins rows g (Kept keys R size) tt (λ n. tt) i o) size (coded size) tt places places' are implicit_at
      k row types base m mods w ps args body tt (omega arith) o made none i ss ts (inits size) x y old new)

  -- ---- initializers

  module _ (declarations : List DeclaredItem) where
    -- of members of any size
    abbrev pub Inits : List StatementCode → List StatementCode → Type 0
    Inits ss ts = (size : ℕ) → AllTo (Kept keys R size) ss ts

    -- what the members declare has a row
    abbrev pub Rowed : (b : ℕ) → ClassKey → syntax.Members A → Type 0
    Rowed b of ms = (k : MemberKey) → InMembers (λ m b. (tells m b).from) declarations (λ k b part. Unit {0}) b of ms k → HasRow rows (decl_of_member k)

    pub inits_walk : (of of' : ClassKey) → of' ≡ class_to g of → HasRow rows (class_decl of) → (b : ℕ) (ms : syntax.Members A) (q : Rewritten (syntax.Members A)) → RewritesMembers tells Chosen declarations b of ms q → q.losses ≡ []
        → Rowed b of ms → (ss ts : List StatementCode) → InitsCoded begins last rows places of b ms ss → InitsCoded begins last (rows_to g rows) places' of' b q.tree ts → Inits ss ts
    inits_walk of of' to owner b ms q made none written ss ts old new size = initializers.inits_walk tells last rows (region_of rows g) super_at nowhere At (renamed_stand tells rows g super_at worlds) (renamed_begin tells rows g super_at worlds) (λ c d stand. refl) region_worlds
        keys R (Kept keys R size) (goes size) (kept_stmts keys R size) no_rows (casts_stay size) (λ i o stand. no_spots begins rows g (Kept keys R size) tt (λ n. tt) i o) size (coded size) tt places places' declarations (renamed_walk tells rows g super_at worlds declarations) (λ k row. refl) (λ of of' to b xs ys at spot. absurd spot)
        of of' to owner b ms tt tt q made none written ss ts old new
