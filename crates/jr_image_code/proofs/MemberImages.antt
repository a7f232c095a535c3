-- Members: the code of a rewritten member is the image of the code of the old one.
use Rattle.std.proofs.Common.{◌≡◌, ◌≤◌, ℕ, zero, suc, ◌+◌, List, [], ◌∷◌, ◌++◌, Option, Some, None, Bool, true, false, sym, ap, subst, ◌∙◌, inl, inr, length, arith}
use Rattle.std.specs.Prelude.{slice_get, option_map, ◌⊎◌}
use Rattle.jr_text.specs.declared.spans.Span.{Span}
use Rattle.jr_ast.specs.Tree as tree
use Rattle.jr_ast.specs.StatementTree as statement
use Rattle.jr_ast.specs.MemberTree as syntax
use Rattle.jr_runs.specs.Keys.{At as At_of}
use Rattle.jr_runs.specs.Values as core_value
use Rattle.jr_runs.specs.Core as core
use Rattle.jr_runs.specs.Rows as core_rows
use Rattle.jr_runs.specs.KeyMaps.{KeyMap}
use Rattle.jr_runs.specs.MemberTranslation.{is_synchronized, locked, monitor}
use Rattle.jr_table.specs.Keys.{ClassKey, MethodKey, Ty}
use Rattle.jr_table.specs.Decls.{MemberKey, class_decl}
use Rattle.jr_table.specs.Decls as member
use Rattle.jr_table.specs.Rows.{Row}
use Rattle.jr_table.specs.Entries.{IsRowOf, class_of_member}
use Rattle.jr_table.specs.Context.{known as known_type}
use Rattle.jr_table.specs.Context.{Context, Local, parameters, locals_in_row}
use Rattle.jr_code.specs.RunRows.{HasRow}
use Rattle.jr_table.specs.HeadRules.{with_parameters, types_of, is_static_member}
use Rattle.jr_rewrite.specs.Rewritten.{Rewritten, joined}
use Rattle.jr_rewrite.specs.Spots.{Spotted}
use Rattle.jr_rewrite.specs.Rewrites.{Choosing, RewritesParams, TransformsMember}
use Rattle.jr_images.specs.Regions.{Region}
use Rattle.jr_images.specs.Spelling.{choosing}
use Rattle.jr_images.proofs.Chosen.{right_none, lost_none}
use Rattle.jr_kept_references.proofs.RegionWorlds.{RegionWorld}
use Rattle.jr_kept_references.specs.InRegions.{rows_in, class_in, method_in, member_in, StandsFor}
use Rattle.jr_kept_references.specs.KeptInRegions.{PartsBecome}
use Rattle.jr_kept_references.specs.RegionPlaces.{Standing, AreStanding, AreBeginning}
use Rattle.jr_code.specs.RunKeys.{RunKeys}
use Rattle.jr_code.specs.Coded.{Code}
use Rattle.jr_code.specs.CodedStatements.{ListCode, StmtsCode}
use Rattle.jr_code.specs.CodedMembers.{MethodCoded}
use Rattle.jr_image_code.specs.KnownPlaces.{IsKnown, IsPlace}
use Rattle.jr_image_code.specs.CodeRelations.{Relations, AreStmtsRelated}
use Rattle.jr_image_code.specs.CodedSpots.{CastsCoded, GoesByImages, SpotsCoded, AreBelow, StatementsCoded}
use Rattle.jr_image_code.specs.MemberCodes.{CodesTo, MethodsTo}
use Rattle.jr_image_code.proofs.StmtImages.{HasNoRows, list_images}

-- a type is one of these
abbrev pub Of : Ty → List Ty → Type 0
Of t [] = ⊥
Of t (u ∷ us) = (u ≡ t) ⊎ Of t us

-- parameters have numbers below
pub params_below : {A : Type 0} (size : ℕ) (k : MemberKey) (n : ℕ) (ps : List (syntax.Param A)) (ts : List Ty) → n + length ps ≤ size → AreBelow size (parameters k n ps ts)
params_below size k n [] ts fits i l e = absurd cc
params_below size k n (p ∷ ps) [] fits i l e = absurd cc
params_below size k n (p ∷ ps) (t ∷ ts) fits zero l e = let is : n ≡ l.key.number = number_is in omega (arith, fits, is)
  where
    own : Option Local → ℕ
    own None = n
    own (Some x) = x.key.number

    number_is : n ≡ l.key.number
    number_is = ap own e
params_below size k n (p ∷ ps) (t ∷ ts) fits (suc i) l e = params_below size k (suc n) ps ts (omega (arith, fits)) i l e

pub same_length : {A : Type 0} (tells : A → ℕ → Span) (C : Choosing A) (k : MemberKey) (n b : ℕ) (ps : List (syntax.Param A)) (q : Rewritten (List (syntax.Param A))) → RewritesParams tells C k n b ps q → length q.tree ≡ length ps
same_length {A} tells C k n b [] q is = ap (λ (y : Rewritten (List (syntax.Param A))). length y.tree) is
same_length {A} tells C k n b (p ∷ ps) q (t, v, rest, types, declared, made, is) = ap (λ (y : Rewritten (List (syntax.Param A))). length y.tree) is ∙ ap suc (same_length tells C k (suc n) b ps rest made)

-- the beginning of a member that is declared is a place
params_known : {A : Type 0} (rows : List Row) (k : MemberKey) (n : ℕ) (ps : List (syntax.Param A)) (ts : List Ty) → ((t : Ty) → Of t ts → IsKnown rows t) → (i : ℕ) (l : Local) → slice_get (parameters k n ps ts) i ≡ Some l → (t : Ty) → l.type ≡ known_type t → IsKnown rows t
params_known rows k n [] ts each i l e t is = absurd cc
params_known rows k n (p ∷ ps) [] each i l e t is = absurd cc
params_known rows k n (p ∷ ps) (u ∷ us) each zero l e t is =
    let own : Some (known_type u) ≡ Some l.type = ap (option_map (λ (x : Local). x.type)) e in
    let both : Some (known_type u) ≡ Some (known_type t) = own ∙ ap Some is in
    let same : u ≡ t = cc in
    each t (inl same)
params_known rows k n (p ∷ ps) (u ∷ us) each (suc i) l e t is = params_known rows k (suc n) ps us (λ v h. each v (inr h)) i l e t is

pub place_of : {A : Type 0} (rows : List Row) (k : MemberKey) (static : Bool) (ps : List (syntax.Param A)) → HasRow rows (class_decl (class_of_member k)) → ((t : Ty) → Of t (types_of k) → IsKnown rows t) → IsPlace rows (with_parameters k static ps)
place_of rows k static ps row each = record { class = row; locals = params_known rows k 0 ps (types_of k) each }

module _ {A : Type 0} (tells : A → ℕ → Span) (last : A → ℕ → ℕ) (rows : List Row) (R : Region A) (super_at : Context → ℕ) (S : Spotted A) (At : Standing A)
    (stands : AreStanding tells rows R (choosing (λ m b. (tells m b).from) rows R super_at) S At) (begin : AreBeginning tells rows R (choosing (λ m b. (tells m b).from) rows R super_at) S At)
    (parts : (c d : Context) → At.Known c d → PartsBecome (λ m b. (tells m b).from) rows R S c d) (worlds : (c d : Context) → StandsFor R rows c d → RegionWorld A rows R c d)
    (keys : KeyMap RunKeys) (D : core_rows.Rows RunKeys) (X : Relations) (by_images : GoesByImages rows R keys D X) (stmts : AreStmtsRelated keys D X) (no_rows : HasNoRows rows)
    (casts : (c d : Context) → IsPlace rows c → At.Known c d → CastsCoded tells rows R X (choosing (λ m b. (tells m b).from) rows R super_at) S c d)
    (spots : (c d : Context) → At.Known c d → SpotsCoded (λ m b. (tells m b).from) rows R X S c d) (size : ℕ)
    (coded : StatementsCoded tells last rows R X (choosing (λ m b. (tells m b).from) rows R super_at) S At size) (own : X.own) (places places' : MemberKey → ℕ) where
  abbrev begins : A → ℕ → ℕ
  begins m b = (tells m b).from

  abbrev Chosen : Choosing A
  Chosen = choosing (λ m b. (tells m b).from) rows R super_at

  -- a monitor around code
  locked_image : (b : Bool) (p q u v : At_of RunKeys) (x y : Code) (s t : ListCode) → X.exp x y → X.stmts s t → X.stmts (locked b p q x s) (locked b u v y t)
  locked_image true p q u v x y s t e h = stmts.of_more_stmts (core.sync p q x s) (core.sync u v y t) core.Stmts.end core.Stmts.end (stmts.of_sync p q u v x y s t e h) stmts.of_no_stmts
  locked_image false p q u v x y s t e h = h

  monitor_image : (k n : ClassKey) → n ≡ class_in R k → (j : ℕ) → IsRowOf rows (class_decl k) j → (b : Bool) → X.exp (monitor k b) (monitor n b)
  monitor_image k n is j i true = subst (λ (z : ClassKey). X.exp (core.literal None (core_value.class_object k)) (core.literal None (core_value.class_object z))) (by_images.maps.class k j i ∙ sym is) (by_images.exps.of_literal None None (core_value.class_object k))
  monitor_image k n is j i false = by_images.exps.of_this own None None

  method_by : (c d : core.Code RunKeys) (x y : core.Method RunKeys) → x ≡ core.written c → y ≡ core.written d → CodesTo X size c d → MethodsTo X size x y
  method_by c d x y a b h = subst (λ (z : core.Method RunKeys). MethodsTo X size z y) (sym a) (subst (λ (z : core.Method RunKeys). MethodsTo X size (core.written c) z) (sym b) h)

  -- the method's image is of the image of its class
  pub method_image : (k : MethodKey) → (method_in R k).class ≡ class_in R k.class → (j : ℕ) → IsRowOf rows (class_decl k.class) j → ((t : Ty) → Of t k.params → IsKnown rows t)
      → (base : ℕ) (m : A) (mods : List (syntax.Modifier A)) (t : Option (tree.TypeName A)) (w : tree.Word A) (ps : List (syntax.Param A)) (body : statement.Stmts A) → At.Written (member.method k) base (syntax.method m mods t w ps body) → length ps + locals_in_row body ≤ size
      → (o : Rewritten (syntax.Member A)) → TransformsMember tells Chosen S (member.method k) base (syntax.method m mods t w ps body) o → o.losses ≡ [] → (i : ℕ) (x y : core.Method RunKeys)
      → MethodCoded begins last rows places k base (syntax.method m mods t w ps body) x → MethodCoded begins last (rows_in R) places' (method_in R k) i o.tree y → MethodsTo X size x y
  method_image k owner j row types base m mods t w ps body here fits o (p, v, q, z, result, declared, params, made, is) none i x y (s, code, old) new =
      let whole_out = joined (λ (u : Option (tree.TypeName A) × tree.Word A) (x : List (syntax.Param A) × statement.Stmts A). syntax.method m mods u.0 u.1 x.0 x.1) (joined (λ u x. (u, x)) p v) (joined (λ u x. (u, x)) q z) in
      let all = lost_none o whole_out is none in
      let back = right_none (p.losses ++ v.losses) (q.losses ++ z.losses) all in
      let n = subst (λ (u : Rewritten (syntax.Member A)). MethodCoded begins last (rows_in R) places' (method_in R k) i u.tree y) is new in
      let count = same_length tells Chosen (member.method k) 0 ((tells m base).from) ps q params in
      let few : 0 + length ps ≤ size = omega (arith, fits) in
      let no_more : length ps ≤ size = omega (arith, fits) in
      method_by _ _ x y old n.2 (
        count,
        no_more,
        locked_image (is_synchronized mods) _ _ _ _ (monitor k.class (is_static_member begins mods)) (monitor (method_in R k).class (is_static_member begins mods)) s n.0
            (monitor_image k.class (method_in R k).class owner j row (is_static_member begins mods))
            (list_images tells last rows R super_at S At stands parts worlds keys D X by_images stmts no_rows casts spots size coded (length ps) (length ps)
            (with_parameters (member.method k) (is_static_member begins mods) ps) (with_parameters (member_in R (member.method k)) (is_static_member begins mods) q.tree)
            _ body (begin.method (member.method k) base m mods t w ps body q here params)
            (params_below size (member.method k) 0 ps k.params few) (place_of rows (member.method k) (is_static_member begins mods) ps (j, row) types) z made (right_none q.losses z.losses back) fits _ s n.0 code
            (subst (λ (l : ℕ). StmtsCode begins last (rows_in R) l (with_parameters (member_in R (member.method k)) (is_static_member begins mods) q.tree) ((tells m i).from) z.tree n.0) count n.1)),
      )
