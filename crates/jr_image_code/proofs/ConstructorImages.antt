-- Constructors: the code of a rewritten one is the image of the code of the old one.
use Rattle.std.proofs.Common.{◌≡◌, ◌≤◌, ℕ, ◌+◌, List, [], ◌∷◌, ◌++◌, Option, Some, None, true, false, sym, ap, subst, ◌∙◌, inl, inr, length, arith}
use Rattle.jr_text.specs.declared.spans.Span.{Span}
use Rattle.jr_ast.specs.Tree as tree
use Rattle.jr_ast.specs.StatementTree as statement
use Rattle.jr_ast.specs.MemberTree as syntax
use Rattle.jr_runs.specs.Keys.{At as At_of}
use Rattle.jr_runs.specs.Core as core
use Rattle.jr_runs.specs.Rows as core_rows
use Rattle.jr_runs.specs.KeyMaps.{KeyMap}
use Rattle.jr_runs.specs.MemberTranslation.{in_front}
use Rattle.jr_table.specs.Keys.{CtorKey, Ty}
use Rattle.jr_table.specs.Decls.{MemberKey, Decl, class_decl, constructor_decl}
use Rattle.jr_table.specs.Decls as member
use Rattle.jr_table.specs.Rows.{Row}
use Rattle.jr_table.specs.Entries.{IsRowOf}
use Rattle.jr_table.specs.Conditions.{AreRows}
use Rattle.jr_table.specs.Found.{one}
use Rattle.jr_table.specs.Context.{Context, scope_of, locals_in_row}
use Rattle.jr_table.specs.HeadRules.{with_parameters}
use Rattle.jr_table.specs.Binding.{HaveTypes, SuperCtorFinds}
use Rattle.jr_spell.specs.declared.references.RefForm.TheVariants as ref
use Rattle.jr_spell.specs.Binds.{Binds}
use Rattle.jr_rewrite.specs.Respellings.{Choice}
use Rattle.jr_rewrite.specs.Rewritten.{Rewritten, joined, losses_of}
use Rattle.jr_rewrite.specs.Spots.{Spotted}
use Rattle.jr_rewrite.specs.Rewrites.{Choosing, TransformsSuper, TransformsMember}
use Rattle.jr_images.specs.Regions.{Region}
use Rattle.jr_images.specs.Spelling.{choosing, reference, SuperCtorChoice}
use Rattle.jr_images.proofs.Chosen.{left_none, right_none, lost_some, lost_none}
use Rattle.jr_images.proofs.Forms.{one_form}
use Rattle.jr_code.proofs.OneFound.{super_once as one_super}
use Rattle.jr_kept_references.proofs.RegionWorlds.{RegionWorld}
use Rattle.jr_kept_references.proofs.RegionTypes.{to_scope}
use Rattle.jr_kept_references.specs.InRegions.{rows_in, ctor_in, member_in, StandsFor}
use Rattle.jr_kept_references.specs.KeptInRegions.{PartsBecome}
use Rattle.jr_kept_references.specs.RegionPlaces.{Standing, AreStanding, AreBeginning}
use Rattle.jr_kept_references.proofs.RegionExpressions.{kept_row}
use Rattle.jr_code.specs.RunKeys.{RunKeys, Place}
use Rattle.jr_code.specs.RunRows.{HasRow}
use Rattle.jr_code.specs.CodedStatements.{StatementCode, ListCode, StmtsCode}
use Rattle.jr_code.specs.CodedMembers.{ImplicitFinds, ParentCoded, ConstructorCoded}
use Rattle.jr_image_code.specs.KnownPlaces.{IsKnown, IsPlace}
use Rattle.jr_image_code.specs.CodeRelations.{Relations, AreStmtsRelated}
use Rattle.jr_image_code.specs.CodedSpots.{CastsCoded, GoesByImages, SpotsCoded, AreBelow, StatementsCoded}
use Rattle.jr_image_code.specs.MemberCodes.{CodesTo, AllTo}
use Rattle.jr_image_code.proofs.ExpImages.{shown_row, row_images}
use Rattle.jr_image_code.proofs.StmtImages.{HasNoRows, list_images}
use Rattle.jr_image_code.proofs.MemberImages.{Of, params_below, place_of, same_length}

module _ {A : Type 0} (tells : A → ℕ → Span) (last : A → ℕ → ℕ) (rows : List Row) (R : Region A) (super_at : Context → ℕ) (S : Spotted A) (At : Standing A)
    (stands : AreStanding tells rows R (choosing (λ m b. (tells m b).from) rows R super_at) S At) (begin : AreBeginning tells rows R (choosing (λ m b. (tells m b).from) rows R super_at) S At)
    (parts : (c d : Context) → At.Known c d → PartsBecome (λ m b. (tells m b).from) rows R S c d) (worlds : (c d : Context) → StandsFor R rows c d → RegionWorld A rows R c d)
    (keys : KeyMap RunKeys) (D : core_rows.Rows RunKeys) (X : Relations) (by_images : GoesByImages rows R keys D X) (stmts : AreStmtsRelated keys D X) (no_rows : HasNoRows rows)
    (casts : (c d : Context) → IsPlace rows c → At.Known c d → CastsCoded tells rows R X (choosing (λ m b. (tells m b).from) rows R super_at) S c d)
    (spots : (c d : Context) → At.Known c d → SpotsCoded (λ m b. (tells m b).from) rows R X S c d) (size : ℕ)
    (coded : StatementsCoded tells last rows R X (choosing (λ m b. (tells m b).from) rows R super_at) S At size) (own : X.own) (places places' : MemberKey → ℕ)
    (old_are : AreRows rows) (implicit : (c d : Context) → At.Known c d → (q n : CtorKey) → ImplicitFinds rows c q → ImplicitFinds (rows_in R) d n → n ≡ ctor_in R q) where
  abbrev begins : A → ℕ → ℕ
  begins m b = (tells m b).from

  abbrev Chosen : Choosing A
  Chosen = choosing (λ m b. (tells m b).from) rows R super_at

  pub in_front_image : (ss ts : List StatementCode) (x y : ListCode) → AllTo X ss ts → X.stmts x y → X.stmts (in_front ss x) (in_front ts y)
  in_front_image [] [] x y all h = h
  in_front_image [] (t ∷ ts) x y all h = absurd all
  in_front_image (s ∷ ss) [] x y all h = absurd all
  in_front_image (s ∷ ss) (t ∷ ts) x y all h = stmts.of_more_stmts s t (in_front ss x) (in_front ts y) all.0 (in_front_image ss ts x y all.1 h)

  -- ---- `super(..)`

  world : (c d : Context) → At.Known c d → RegionWorld A rows R c d
  world c d stand = worlds c d (stands.stand c d stand)

  super_once : (c d : Context) (stand : At.Known c d) (es : tree.Exps A) (x y : Decl) → SuperCtorFinds (rows_in R) d es (one x) → SuperCtorFinds (rows_in R) d es (one y) → x ≡ y
  super_once c d stand es x y a b = let w = world c d stand in one_super (rows_in R) w.images.are w.one_new d w.new es x y a b

  super_row : (c : Context) (args : tree.Exps A) (q : CtorKey) → SuperCtorFinds rows c args (one (constructor_decl q)) → (j : ℕ) × IsRowOf rows (constructor_decl q) j
  super_row c args q (inl (k, over, inl (ts, types, (a, finds, shows)))) = shown_row rows a (constructor_decl q) shows
  super_row c args q (inl (k, over, inr (not, is))) = absurd cc
  super_row c args q (inr (not, is)) = absurd cc

  pub implicit_row : (c : Context) (q : CtorKey) → ImplicitFinds rows c q → (j : ℕ) × IsRowOf rows (constructor_decl q) j
  implicit_row c q (inl (k, over, (a, finds, shows))) = shown_row rows a (constructor_decl q) shows
  implicit_row c q (inr (not, is)) = absurd cc

  -- what a written one finds
  super_found : (c d : Context) (stand : At.Known c d) (args es : tree.Exps A) → ((ts : List Ty) → HaveTypes rows c args ts → HaveTypes (rows_in R) d es (R.types_now c args ts))
      → (h : Choice) → SuperCtorChoice (λ m b. (tells m b).from) rows R (super_at c) c args h → losses_of h ≡ [] → (q n : CtorKey)
      → SuperCtorFinds rows c args (one (constructor_decl q)) → SuperCtorFinds (rows_in R) d es (one (constructor_decl n)) → ((k : CtorKey) (ts : List Ty) → SuperCtorFinds rows c args (one (constructor_decl k)) → k ≡ q)
      → n ≡ ctor_in R q
  super_found c d stand args es args_to h (k, ts, finds, types, inl (f, taken, is)) none q n old new same =
      let there = one_form (λ f. Binds (rows_in R) (scope_of d) (reference ref.AsAsked [] None (R.types_now c args ts)) (constructor_decl (ctor_in R k)) f → SuperCtorFinds (rows_in R) d es (one (constructor_decl (ctor_in R k))))
      (λ (p, over, found). inl (p, over, inl (R.types_now c args ts, args_to ts types, found)))
      taken.place f taken.stands (to_scope tells rows R c d (world c d stand) (reference ref.AsAsked [] None (R.types_now c args ts)) (constructor_decl (ctor_in R k)) f taken.binds) in
      let p = super_once c d stand es (constructor_decl n) (constructor_decl (ctor_in R k)) new there in
      let ctor : n ≡ ctor_in R k = cc in
      ctor ∙ ap (ctor_in R) (same k ts finds)
  super_found c d stand args es args_to h (k, ts, finds, types, inr (none_binds, (f, found, is))) none q n old new same = absurd (lost_some _ (sym (ap losses_of is) ∙ none))

  pub parent_by : (q n : CtorKey) (j : ℕ) → IsRowOf rows (constructor_decl q) j → n ≡ ctor_in R q → (p o : At_of RunKeys) (es fs : core.Exps RunKeys) → X.exps es fs → (s t : StatementCode)
      → s ≡ core.eval p (core.super_constructor p (core.this None) q es) → t ≡ core.eval o (core.super_constructor o (core.this None) n fs) → X.stmt s t
  parent_by q n j row is p o es fs args s t a b =
      subst (λ (z : StatementCode). X.stmt z t) (sym a) (subst (λ (z : StatementCode). X.stmt (core.eval p (core.super_constructor p (core.this None) q es)) z) (sym b)
      (stmts.of_eval p o (core.super_constructor p (core.this None) q es) (core.super_constructor o (core.this None) n fs)
      (subst (λ (z : CtorKey). X.exp (core.super_constructor p (core.this None) q es) (core.super_constructor o (core.this None) z fs)) (by_images.maps.constructor q j row ∙ sym is)
      (by_images.exps.of_super_constructor p o (core.this None) (core.this None) q es fs (by_images.has.constructor q j row) (by_images.exps.of_this own None None) args))))

  parent_image : (k : CtorKey) (c d : Context) → At.Known c d → AreBelow size c.locals → IsPlace rows c → (base : ℕ) (args : Option (tree.Exps A)) (o : Rewritten (Option (tree.Exps A))) → TransformsSuper tells Chosen S c base args o → o.losses ≡ []
      → (i : ℕ) (p q : Place) (s t : StatementCode) → ParentCoded begins last rows places k c base p args s → ParentCoded begins last (rows_in R) places' (ctor_in R k) d i q o.tree t → X.stmt s t
  parent_image k c d stand below place base None o is none i p q s t (x, finds, old) new =
      let there = subst (λ (z : Rewritten (Option (tree.Exps A))). ParentCoded begins last (rows_in R) places' (ctor_in R k) d i q z.tree t) is new in
      let row = implicit_row c x finds in
      parent_by x there.0 row.0 row.1 (implicit c d stand x there.0 finds there.1) (Some p) (Some q) core.Exps.end core.Exps.end by_images.exps.of_no_exps s t old there.2
  parent_image k c d stand below place base (Some args) o (h, v, spells, made, is) none i p q s t (x, es, finds, codes, old) new =
      let there = subst (λ (y : Rewritten (Option (tree.Exps A))). ParentCoded begins last (rows_in R) places' (ctor_in R k) d i q y.tree t) is new in
      let all = lost_none o _ is none in
      let inner = right_none (losses_of h) v.losses all in
      let w = world c d stand in
      let row = super_row c args x finds in
      parent_by x there.0 row.0 row.1
      (super_found c d stand args v.tree (λ ts have. kept_row tells rows R c d w super_at S (parts c d stand) base args v made inner ts (R.types_now c args ts) (w.args c args ts) have) h spells (left_none (losses_of h) v.losses all) x there.0 finds there.2
      (λ j ts found. let e = one_super rows old_are w.one_old c w.old args (constructor_decl j) (constructor_decl x) found finds in cc))
      (Some _) (Some _) es there.1
      (row_images tells rows R c d w keys D X by_images (coded.locals c d stand below) super_at S (casts c d place stand) (parts c d stand) (spots c d stand) base args v made inner i es there.1 codes there.3)
      s t old there.4

  pub constructor_image : (k : CtorKey) → HasRow rows (class_decl k.class) → ((t : Ty) → Of t k.params → IsKnown rows t)
      → (base : ℕ) (m : A) (mods : List (syntax.Modifier A)) (w : tree.Word A) (ps : List (syntax.Param A)) (args : Option (tree.Exps A)) (body : statement.Stmts A) → At.Written (member.constructor k) base (syntax.constructor m mods w ps args body) → length ps + locals_in_row body ≤ size
      → (o : Rewritten (syntax.Member A)) → TransformsMember tells Chosen S (member.constructor k) base (syntax.constructor m mods w ps args body) o → o.losses ≡ [] → (i : ℕ) (ss ts : List StatementCode)
      → AllTo X ss ts → (x y : core.Code RunKeys)
      → ConstructorCoded begins last rows places k base ss (syntax.constructor m mods w ps args body) x → ConstructorCoded begins last (rows_in R) places' (ctor_in R k) i ts o.tree y → CodesTo X size x y
  constructor_image k row types base m mods w ps args body here fits o (v, q, p, z, declared, params, super_part, made, is) none i ss ts inits x y (s, l, parent, code, old) new =
      let all = lost_none o (joined (λ (u : tree.Word A × List (syntax.Param A)) (x : Option (tree.Exps A) × statement.Stmts A). syntax.constructor m mods u.0 u.1 x.0 x.1) (joined (λ u x. (u, x)) v q) (joined (λ u x. (u, x)) p z)) is none in
      let back = right_none (v.losses ++ q.losses) (p.losses ++ z.losses) all in
      let n = subst (λ (u : Rewritten (syntax.Member A)). ConstructorCoded begins last (rows_in R) places' (ctor_in R k) i ts u.tree y) is new in
      let count = same_length tells Chosen (member.constructor k) 0 ((tells m base).from) ps q params in
      let few : 0 + length ps ≤ size = omega (arith, fits) in
      let no_more : length ps ≤ size = omega (arith, fits) in
      let below : AreBelow size (with_parameters (member.constructor k) true ps).locals = params_below size (member.constructor k) 0 ps k.params few in
      subst (λ (u : core.Code RunKeys). CodesTo X size u y) (sym old) (subst (λ (u : core.Code RunKeys). CodesTo X size (record { params = length ps; body = core.Stmts.more s (in_front ss l) }) u) (sym n.4) (
        count,
        no_more,
        stmts.of_more_stmts s n.0 (in_front ss l) (in_front ts n.1)
            (parent_image k (with_parameters (member.constructor k) true ps) (with_parameters (member_in R (member.constructor k)) true q.tree) (begin.super_args (member.constructor k) base m mods w ps args body q here params)
            below (place_of rows (member.constructor k) true ps row types) _ args p super_part (left_none p.losses z.losses back) _ _ _ s n.0 parent n.2)
            (in_front_image ss ts l n.1 inits
            (list_images tells last rows R super_at S At stands parts worlds keys D X by_images stmts no_rows casts spots size coded (length ps) (length ps)
            (with_parameters (member.constructor k) false ps) (with_parameters (member_in R (member.constructor k)) false q.tree) _ body (begin.constructor (member.constructor k) base m mods w ps args body q here params)
            below (place_of rows (member.constructor k) false ps row types) z made (right_none p.losses z.losses back) fits _ l n.1 code
            (subst (λ (j : ℕ). StmtsCode begins last (rows_in R) j (with_parameters (member_in R (member.constructor k)) false q.tree) ((tells m i).from) z.tree n.1) count n.3))),
      ))
