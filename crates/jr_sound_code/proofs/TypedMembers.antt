-- The code of members that break no rule is well typed: methods, constructors, and the initializers that they run.
use Rattle.std.proofs.Common.{◌≡◌, ◌≢◌, ℕ, zero, suc, ◌+◌, ◌≤◌, List, [], ◌∷◌, ◌++◌, length, map, Option, Some, None, Bool, true, false, cond, refl, sym, ap, subst, ◌∙◌, inl, inr, arith, eq-eqb, eqb-true}
use Rattle.std.specs.Prelude.{◌⊎◌, nat_eq, slice_get, option_and_then, IsTrue}
use Rattle.jr_ast.specs.Tree as tree
use Rattle.jr_ast.specs.StatementTree as statement
use Rattle.jr_ast.specs.MemberTree as syntax
use Rattle.jr_runs.specs.Values.{reference}
use Rattle.jr_runs.specs.Rows as core_rows
use Rattle.jr_runs.specs.Core as core
use Rattle.jr_runs.specs.MemberTranslation.{is_synchronized, locked, monitor, in_front}
use Rattle.jr_runs.specs.Typing as typing
use Rattle.jr_runs.specs.Typing.{type_of, param_context, StmtTyped, StmtsTyped, AllMayComplete, CodeTyped, MethodTyped}
use Rattle.jr_table.specs.Keys.{ClassKey, MethodKey, CtorKey, Ty, void}
use Rattle.jr_table.specs.Decls.{MemberKey, head, field, method, constructor, LocalKey, field_decl, method_decl, constructor_decl, local_decl}
use Rattle.jr_table.specs.Rows.{Row}
use Rattle.jr_table.specs.Entries.{IsRowOf}
use Rattle.jr_table.specs.Conditions.{AreRows}
use Rattle.jr_table.specs.Found.{one}
use Rattle.jr_table.specs.Scope.{ScopeLocal}
use Rattle.jr_table.specs.LookupLaws.{EachHasOne, KeysAreFound}
use Rattle.jr_table.specs.Context.{Context, Local, LocalType, known, scope_of, scope_local, parameters, IsLocalType, IsTypeOf, IsSuperclass, IsStaticDecl, IsInstanceDecl}
use Rattle.jr_table.specs.Binding.{HasType, SuperCtorFinds, value}
use Rattle.jr_table.specs.Somewhere.{Somewhere}
use Rattle.jr_table.specs.ExpressionRules.{ExpBreaks, Suits}
use Rattle.jr_table.specs.Completing.{ListCompletes}
use Rattle.jr_table.specs.HeadRules.{plain, with_parameters, types_of, is_static_member}
use Rattle.jr_table.specs.Meanings as meaning
use Rattle.jr_table.specs.Meanings.{type_of_decl}
use Rattle.jr_table.specs.Notes.{suits}
use Rattle.jr_table.specs.declared.rules.Rule.TheVariants as rule
use Rattle.jr_table.proofs.TypeTests.{suits_iff}
use Rattle.jr_table.proofs.RowTypes.{decl_type_iff}
use Rattle.jr_table.proofs.Typing.{typed}
use Rattle.jr_code.specs.RunKeys.{RunKeys, Place}
use Rattle.jr_code.specs.RunRows.{run_type, held_type, param_type, AreRunRows}
use Rattle.jr_code.specs.Coded.{Code}
use Rattle.jr_code.specs.CodedStatements.{StatementCode, ListCode}
use Rattle.jr_code.specs.CodedMembers.{MemberCode, ImplicitFinds, MethodCoded, InitBy, InitsCoded, ParentCoded, ConstructorCoded, DefaultCoded}
use Rattle.jr_code.proofs.OneFound.{same_row}
use Rattle.jr_sound_code.proofs.Finding.{AllAssign, ctor_of}
use Rattle.jr_sound_code.proofs.Answers.{surely}
use Rattle.jr_sound_code.proofs.StatementsStand.{CleanExp}
use Rattle.jr_sound_code.proofs.MembersStand.{SoundMember, SoundFields}
use Rattle.jr_sound_code.proofs.Fitting.{RunTy, Proper, AllProper, ProperRows, parent_above, field_type_is}
use Rattle.jr_sound_code.proofs.TypedCode.{LocalsTyped, exp_typed, args_typed}
use Rattle.jr_sound_code.proofs.TypedStatements.{IsTyped, stmts_typed}
use Rattle.jr_sound_code.proofs.Completing.{all_complete}

-- ---- parameters

map_length : (ts : List Ty) → length ts ≡ length (map param_type ts)
map_length [] = refl
map_length (t ∷ ts) = ap suc (map_length ts)

-- the local at a place of the parameters
param_at : {A : Type 0} (k : MemberKey) (n : ℕ) (ps : List (syntax.Param A)) (ts : List Ty) (i : ℕ) (l : Local) → slice_get (parameters k n ps ts) i ≡ Some l
    → (l.key ≡ record { member = k; number = n + i }) × ((u : Ty) × (slice_get ts i ≡ Some u) × (l.type ≡ known u))
param_at k n [] ts i l e = absurd cc
param_at k n (p ∷ ps) [] i l e = absurd cc
param_at k n (p ∷ ps) (t ∷ ts) zero l e =
    let same : record { name = p.name.text; key = record { member = k; number = n }; is_final = p.is_final; type = known t; has_init = false } ≡ l = cc in
    let number : n ≡ n + 0 = omega arith in
    (ap (λ (z : Local). z.key) (sym same) ∙ ap (λ (m : ℕ). record { member = k; number = m }) number, (t, refl, ap (λ (z : Local). z.type) (sym same)))
param_at k n (p ∷ ps) (t ∷ ts) (suc i) l e =
    let later = param_at k (suc n) ps ts i l e in
    let number : suc n + i ≡ n + suc i = omega arith in
    (later.0 ∙ ap (λ (m : ℕ). record { member = k; number = m }) number, later.1)

-- and its type
type_at : (n : ℕ) (ts : List Ty) (i : ℕ) (u : Ty) → slice_get ts i ≡ Some u → type_of (param_context n (map param_type ts)) (n + i) ≡ Some (param_type u)
type_at n [] i u e = absurd cc
type_at n (t ∷ ts) zero u e =
    let same : t ≡ u = cc in
    let number : n ≡ n + 0 = omega arith in
    ap (λ (b : Bool). cond b (Some (param_type t)) (type_of (param_context (suc n) (map param_type ts)) (n + 0))) (eq-eqb n (n + 0) number) ∙ ap (λ (z : Ty). Some (param_type z)) same
type_at n (t ∷ ts) (suc i) u e =
    let number : suc n + i ≡ n + suc i = omega arith in
    by (nat_eq n (n + suc i)) refl (ap (type_of (param_context (suc n) (map param_type ts))) (sym number) ∙ type_at (suc n) ts i u e)
  where
    by : (b : Bool) → nat_eq n (n + suc i) ≡ b → type_of (param_context (suc n) (map param_type ts)) (n + suc i) ≡ Some (param_type u)
        → cond (nat_eq n (n + suc i)) (Some (param_type t)) (type_of (param_context (suc n) (map param_type ts)) (n + suc i)) ≡ Some (param_type u)
    by true f h = (let same = eqb-true n (n + suc i) f in absurd (omega (arith, same)))
    by false f h = ap (λ (b : Bool). cond b (Some (param_type t)) (type_of (param_context (suc n) (map param_type ts)) (n + suc i))) f ∙ h

above_all : (n : ℕ) (ts : List Ty) (k : ℕ) → n + length ts ≤ k → type_of (param_context n (map param_type ts)) k ≡ None
above_all n [] k le = refl
above_all n (t ∷ ts) k le = by (nat_eq n k) refl (above_all (suc n) ts k (omega (arith, le)))
  where
    by : (b : Bool) → nat_eq n k ≡ b → type_of (param_context (suc n) (map param_type ts)) k ≡ None → cond (nat_eq n k) (Some (param_type t)) (type_of (param_context (suc n) (map param_type ts)) k) ≡ None
    by true e h = (let same = eqb-true n k e in absurd (omega (arith, le, same)))
    by false e h = ap (λ (b : Bool). cond b (Some (param_type t)) (type_of (param_context (suc n) (map param_type ts)) k)) e ∙ h

proper_at : (ts : List Ty) (i : ℕ) (u : Ty) → AllProper ts → slice_get ts i ≡ Some u → run_type u ≡ Some (param_type u)
proper_at [] i u h e = absurd cc
proper_at (t ∷ ts) zero u h e = let same : t ≡ u = cc in subst (λ (z : Ty). run_type z ≡ Some (param_type z)) same (h.0.1 ∙ ap (λ (o : Option RunTy). Some (held_type o)) (sym h.0.1))
proper_at (t ∷ ts) (suc i) u h e = proper_at ts i u h.1 e

get_map : (xs : List Local) (i : ℕ) (y : ScopeLocal) → slice_get (map scope_local xs) i ≡ Some y → (x : Local) × (slice_get xs i ≡ Some x) × (scope_local x ≡ y)
get_map [] i y e = absurd cc
get_map (x ∷ xs) zero y e = (x, refl, cc)
get_map (x ∷ xs) (suc i) y e = get_map xs i y e

same_some : (o : Option Ty) (a b : Ty) → o ≡ Some a → o ≡ Some b → a ≡ b
same_some o a b x y = let p : Some a ≡ Some b = sym x ∙ y in cc

module _ (rows : List Row) where
  pub params_typed : {A : Type 0} (k : MemberKey) (is_static : Bool) (ps : List (syntax.Param A)) → AllProper (types_of k) → LocalsTyped rows (with_parameters k is_static ps) (param_context 0 (map param_type (types_of k)))
  params_typed k is_static ps proper key name finds never =
      let c = with_parameters k is_static ps in
      let l = get_map (parameters k 0 ps (types_of k)) finds.place finds.local finds.stands in
      let at = param_at k 0 ps (types_of k) finds.place l.0 l.1 in
      let key_is : key ≡ record { member = k; number = 0 + finds.place } = sym finds.is ∙ ap (λ (z : ScopeLocal). z.key) (sym l.2) ∙ at.0 in
      let u = at.1 in
      (param_type u.0, ap (type_of (param_context 0 (map param_type (types_of k)))) (ap (λ (z : LocalKey). z.number) key_is) ∙ type_at 0 (types_of k) finds.place u.0 u.1, each key_is u.0 u.1)
    where
      each : key ≡ record { member = k; number = 0 + finds.place } → (u : Ty) → slice_get (types_of k) finds.place ≡ Some u → (t : Ty) → IsTypeOf rows (with_parameters k is_static ps) (local_decl key) t → run_type t ≡ Some (param_type u)
      each key_is u at t (x, knows, is) =
          let other = param_at k 0 ps (types_of k) knows.number x knows.stands in
          let numbers : 0 + knows.number ≡ 0 + finds.place = ap (λ (z : LocalKey). z.number) (sym other.0 ∙ knows.is ∙ key_is) in
          let number : knows.number ≡ finds.place = omega (arith, numbers) in
          let v = other.1 in
          let same : v.0 ≡ u = same_some (slice_get (types_of k) finds.place) v.0 u (ap (slice_get (types_of k)) (sym number) ∙ v.1) at in
          let t_is : t ≡ v.0 = subst (λ (z : LocalType). IsLocalType rows (scope_of (with_parameters k is_static ps)) z t) v.2 is in
          ap run_type (t_is ∙ same) ∙ proper_at (types_of k) finds.place u proper at

  -- where no local is known, any are
  pub plain_typed : (k : MemberKey) (is_static : Bool) (G : List (ℕ × RunTy)) → LocalsTyped rows (plain k is_static) G
  plain_typed k is_static G key name finds never = absurd (let e = finds.stands in cc)

module _ {A : Type 0} (begins ends : A → ℕ → ℕ) (rows : List Row) (are : AreRows rows) (each : EachHasOne rows) (found : KeysAreFound rows) (R : core_rows.Rows RunKeys) (run : AreRunRows rows R) (proper : ProperRows rows) (super_at : MemberKey → ℕ) where
  -- ---- initializers

  -- each is typed among any locals
  abbrev pub InitsTyped : ClassKey → List StatementCode → Type 0
  InitsTyped of [] = Unit {0}
  InitsTyped of (s ∷ ss) = ((G : List (ℕ × RunTy)) → StmtTyped R G (Some of) None s G) × InitsTyped of ss

  inits_join : (of : ClassKey) (ss ts : List StatementCode) → InitsTyped of ss → InitsTyped of ts → InitsTyped of (ss ++ ts)
  inits_join of [] ts h g = g
  inits_join of (s ∷ ss) ts h g = (h.0, inits_join of ss ts h.1 g)

  init_by_typed : (is : Bool) (of : ClassKey) (b : ℕ) (m : A) (mods : List (syntax.Modifier A)) (t : tree.TypeName A) (w : tree.Word A) (e : tree.Exp A) → is_static_member begins mods ≡ is
      → SoundMember begins rows super_at (field (record { class = of; name = w.text })) b (syntax.field m mods t w (Some e)) → (ss : List StatementCode) → InitBy begins ends rows super_at is of b m w e ss → InitsTyped of ss
  init_by_typed true of b m mods t w e is sound ss code = subst (InitsTyped of) (sym code) tt
  init_by_typed false of b m mods t w e is sound ss (z, code, ss_is) = subst (InitsTyped of) (sym ss_is) (typed_here, tt)
    where
      clean : CleanExp begins rows (plain (field (record { class = of; name = w.text })) false) value (begins m b) e
      clean at q h = sound at q (inr (subst (λ (x : Bool). Somewhere begins (λ s i y. ExpBreaks begins rows (plain (field (record { class = of; name = w.text })) x) s i y at q) value (begins m b) e) (sym is) h))

      suited : Suits rows (plain (field (record { class = of; name = w.text })) false) e (IsTypeOf rows (plain (field (record { class = of; name = w.text })) false) (field_decl (record { class = of; name = w.text })))
      suited = surely (suits rows (meaning.type_of rows (plain (field (record { class = of; name = w.text })) false) e) (type_of_decl rows (plain (field (record { class = of; name = w.text })) false) (field_decl (record { class = of; name = w.text }))))
          (Suits rows (plain (field (record { class = of; name = w.text })) false) e (IsTypeOf rows (plain (field (record { class = of; name = w.text })) false) (field_decl (record { class = of; name = w.text }))))
          (suits_iff rows are (meaning.type_of rows (plain (field (record { class = of; name = w.text })) false) e) (type_of_decl rows (plain (field (record { class = of; name = w.text })) false) (field_decl (record { class = of; name = w.text })))
          (HasType rows (plain (field (record { class = of; name = w.text })) false) e) (IsTypeOf rows (plain (field (record { class = of; name = w.text })) false) (field_decl (record { class = of; name = w.text })))
          (typed rows are found (plain (field (record { class = of; name = w.text })) false) e) (decl_type_iff rows are found (plain (field (record { class = of; name = w.text })) false) (field_decl (record { class = of; name = w.text }))))
          (λ fails. sound _ rule.TypeMismatch (inl (refl, subst (λ (x : Bool). Suits rows (plain (field (record { class = of; name = w.text })) x) e (IsTypeOf rows (plain (field (record { class = of; name = w.text })) x) (field_decl (record { class = of; name = w.text }))) → ⊥) (sym is) fails)))

      typed_here : (G : List (ℕ × RunTy)) → StmtTyped R G (Some of) None (core.eval (Some (record { member = field (record { class = of; name = w.text }); at = begins w.mark (begins m b) }))
          (core.assign (Some (record { member = field (record { class = of; name = w.text }); at = begins w.mark (begins m b) }))
          (core.field_of (Some (record { member = field (record { class = of; name = w.text }); at = begins w.mark (begins m b) })) (core.this None) (record { class = of; name = w.text })) z)) G
      typed_here G = (
        (
          R.field_type (record { class = of; name = w.text }),
          (of, (run.is_subclass of of).1 (inl refl), refl),
          exp_typed begins rows are each found R run proper (plain (field (record { class = of; name = w.text })) false) G (Some of) (plain_typed rows (field (record { class = of; name = w.text })) false G) (λ e. refl) value (begins m b) (begins m b) e clean z code
              (Some (R.field_type (record { class = of; name = w.text }))) (suited.0, suited.2, (suited.1, suited.4, field_type_is rows R run proper (plain (field (record { class = of; name = w.text })) false) (record { class = of; name = w.text }) suited.1 suited.3)),
          tt,
        ),
        refl,
      )

  pub inits_typed : (of : ClassKey) (b : ℕ) (xs : syntax.Members A) → SoundFields begins rows super_at of b xs → (ss : List StatementCode) → InitsCoded begins ends rows super_at of b xs ss → InitsTyped of ss
  unfolding InitsCoded
  inits_typed of b syntax.end sound ss is = subst (InitsTyped of) (sym is) tt
  inits_typed of b (syntax.more (syntax.field m mods t w None) xs) sound ss (here, rest, code, codes, is) =
      subst (InitsTyped of) (sym is) (inits_join of here rest (subst (InitsTyped of) (sym code) tt) (inits_typed of b xs sound.1 rest codes))
  inits_typed of b (syntax.more (syntax.field m mods t w (Some e)) xs) sound ss (here, rest, code, codes, is) =
      subst (InitsTyped of) (sym is) (inits_join of here rest (init_by_typed (is_static_member begins mods) of b m mods t w e refl sound.0 here code) (inits_typed of b xs sound.1 rest codes))
  inits_typed of b (syntax.more (syntax.method m mods t w ps body) xs) sound ss (here, rest, code, codes, is) =
      subst (InitsTyped of) (sym is) (inits_join of here rest (subst (InitsTyped of) (sym code) tt) (inits_typed of b xs sound rest codes))
  inits_typed of b (syntax.more (syntax.constructor m mods w ps args body) xs) sound ss (here, rest, code, codes, is) =
      subst (InitsTyped of) (sym is) (inits_join of here rest (subst (InitsTyped of) (sym code) tt) (inits_typed of b xs sound rest codes))
  inits_typed of b (syntax.more (syntax.inner m c) xs) sound ss (here, rest, code, codes, is) =
      subst (InitsTyped of) (sym is) (inits_join of here rest (subst (InitsTyped of) (sym code) tt) (inits_typed of b xs sound rest codes))

  front_typed : (of : ClassKey) (G : List (ℕ × RunTy)) (ss : List StatementCode) (z : ListCode) → InitsTyped of ss → StmtsTyped R G (Some of) None z → StmtsTyped R G (Some of) None (in_front ss z)
  front_typed of G [] z h body = body
  front_typed of G (s ∷ ss) z h body = (G, h.0 G, front_typed of G ss z h.1 body)

  -- ---- the superclass's constructor

  -- on `this`, with arguments of its types
  super_typed : (of : ClassKey) (k : ClassKey) → IsSuperclass rows of k → (q : CtorKey) (j : ℕ) → IsRowOf rows (constructor_decl q) j → q.class ≡ k → (G : List (ℕ × RunTy)) (p : Option Place) (es : core.Exps RunKeys)
      → typing.HaveTypes R G (Some of) es (map param_type q.params) → typing.HasType R G (Some of) (core.super_constructor p (core.this None) q es) None
  super_typed of k (n, i, is) q j row class_is G p es args = (
    (run.has_constructor q).1 (j, row),
    subst (λ (z : ClassKey). IsTrue (R.is_subclass of z)) (sym (run.constructor_class q ∙ class_is)) ((run.is_subclass of k).1 (inr (parent_above rows are of k n i is))),
    subst (typing.HaveTypes R G (Some of) es) (sym (run.constructor_params q (j, row))) args,
    tt,
  )

  no_args : (us : List Ty) → AllAssign rows [] us → us ≡ []
  no_args [] h = refl
  no_args (u ∷ us) h = absurd h

  implicit_typed : (c : Context) (q : CtorKey) → ImplicitFinds rows c q → (G : List (ℕ × RunTy)) (p : Option Place) → typing.HasType R G (Some (scope_of c).class) (core.super_constructor p (core.this None) q core.Exps.end) None
  implicit_typed c q (inl (k, over, finds)) G p =
      let n = ctor_of rows are (scope_of c) k [] (constructor_decl q) finds in
      let keys : constructor_decl q ≡ constructor_decl n.key = n.is in
      let same : n.key ≡ q = cc in
      super_typed (scope_of c).class k over q n.number (subst (λ (z : CtorKey). IsRowOf rows (constructor_decl z) n.number) same n.row) (ap (λ (z : CtorKey). z.class) (sym same) ∙ n.class) G p core.Exps.end
      (ap (map param_type) (no_args q.params (subst (λ (z : CtorKey). AllAssign rows [] z.params) same n.fit)))
  implicit_typed c q (inr (not, is)) G p = absurd cc

  -- ---- constructors

  ctor_place : (q : CtorKey) (is_static : Bool) (ps : List (syntax.Param A)) → length ps ≡ length q.params → AllProper q.params
      → IsTyped begins ends rows are each found R run proper (Some q.class) None (length ps) (with_parameters (constructor q) is_static ps) (param_context 0 (map param_type q.params))
  ctor_place q is_static ps count all = record {
    locals = params_typed rows (constructor q) is_static ps all;
    under = λ k le. above_all 0 q.params k (let n = count in omega (arith, le, n));
    own = refl;
    object = λ e. refl;
    result = inr ((λ t h. h), refl);
  }

  parent_typed : (q : CtorKey) (b : ℕ) (m : A) (mods : List (syntax.Modifier A)) (w : tree.Word A) (ps : List (syntax.Param A)) (args : Option (tree.Exps A)) (body : statement.Stmts A) → length ps ≡ length q.params → AllProper q.params
      → SoundMember begins rows super_at (constructor q) b (syntax.constructor m mods w ps args body) → (name : Place) (s : StatementCode) → ParentCoded begins ends rows super_at q (with_parameters (constructor q) true ps) (begins m b) name args s
      → StmtTyped R (param_context 0 (map param_type q.params)) (Some q.class) None s (param_context 0 (map param_type q.params))
  parent_typed q b m mods w ps None body count all sound name s (n, finds, is) =
      subst (λ (v : StatementCode). StmtTyped R (param_context 0 (map param_type q.params)) (Some q.class) None v (param_context 0 (map param_type q.params))) (sym is)
      (implicit_typed (with_parameters (constructor q) true ps) n finds (param_context 0 (map param_type q.params)) (Some name), refl)
  parent_typed q b m mods w ps (Some args) body count all sound name s (n, es, finds, row, is) =
      subst (λ (v : StatementCode). StmtTyped R (param_context 0 (map param_type q.params)) (Some q.class) None v (param_context 0 (map param_type q.params))) (sym is) (by finds, refl)
    where
      by : SuperCtorFinds rows (with_parameters (constructor q) true ps) args (one (constructor_decl n)) → typing.HasType R (param_context 0 (map param_type q.params)) (Some q.class)
          (core.super_constructor (Some (record { member = constructor q; at = super_at (constructor q) })) (core.this None) n es) None
      by (inl (k, over, inl (ts, types, g))) =
          let c = with_parameters (constructor q) true ps in
          let t = ctor_of rows are (scope_of c) k ts (constructor_decl n) g in
          let keys : constructor_decl n ≡ constructor_decl t.key = t.is in
          let same : t.key ≡ n = cc in
          let place = ctor_place q true ps count all in
          let there : IsRowOf rows (constructor_decl n) t.number = subst (λ (z : CtorKey). IsRowOf rows (constructor_decl z) t.number) same t.row in
          super_typed q.class k over n t.number there (ap (λ (z : CtorKey). z.class) (sym same) ∙ t.class) (param_context 0 (map param_type q.params)) (Some (record { member = constructor q; at = super_at (constructor q) })) es
          (args_typed begins rows are each found R run proper c (param_context 0 (map param_type q.params)) (Some q.class) place.locals place.object (begins m b) (begins m b) args (λ at r h. sound at r (inr (inl h))) es row ts n.params types
          (subst (λ (z : CtorKey). AllAssign rows ts z.params) same t.fit) (proper.params (constructor_decl n) t.number there))
      by (inl (k, over, inr (not, e))) = absurd cc
      by (inr (not, e)) = absurd cc

  code_by : (q : CtorKey) (n : ℕ) (c : MemberCode) (body : ListCode) → c ≡ record { params = n; body = body } → n ≡ length q.params → (j : ℕ) → IsRowOf rows (constructor_decl q) j
      → StmtsTyped R (param_context 0 (map param_type q.params)) (Some q.class) None body → CodeTyped R (Some (R.constructor_class q)) (R.constructor_params q) None c
  code_by q n c body is count j row typed_body = subst (CodeTyped R (Some (R.constructor_class q)) (R.constructor_params q) None) (sym is)
      (subst (λ (k : ClassKey). CodeTyped R (Some k) (R.constructor_params q) None (record { params = n; body = body })) (sym (run.constructor_class q))
      (subst (λ (Ts : List RunTy). CodeTyped R (Some q.class) Ts None (record { params = n; body = body })) (sym (run.constructor_params q (j, row)))
      (record { count = count ∙ map_length q.params; body = typed_body; completes = λ U e. absurd cc })))

  pub constructor_typed : (q : CtorKey) (j : ℕ) → IsRowOf rows (constructor_decl q) j → (b : ℕ) (inits : List StatementCode) → InitsTyped q.class inits → (m : A) (mods : List (syntax.Modifier A)) (w : tree.Word A) (ps : List (syntax.Param A)) (args : Option (tree.Exps A))
      (body : statement.Stmts A) → length ps ≡ length q.params → SoundMember begins rows super_at (constructor q) b (syntax.constructor m mods w ps args body)
      → (c : MemberCode) → ConstructorCoded begins ends rows super_at q b inits (syntax.constructor m mods w ps args body) c → CodeTyped R (Some (R.constructor_class q)) (R.constructor_params q) None c
  constructor_typed q j row b inits ready m mods w ps args body count sound c (s, z, parent, code, is) =
      let all = proper.params (constructor_decl q) j row in
      let G = param_context 0 (map param_type q.params) in
      code_by q (length ps) c (core.Stmts.more s (in_front inits z)) is count j row (
        G,
        parent_typed q b m mods w ps args body count all sound _ s parent,
        front_typed q.class G inits z ready (stmts_typed begins ends rows are each found R run proper (Some q.class) None (length ps) (with_parameters (constructor q) false ps) (begins m b) body z G code (λ at r h. sound at r (inr (inr (inr h)))) (ctor_place q false ps count all)),
      )

  pub default_typed : (of : ClassKey) (j : ℕ) → IsRowOf rows (constructor_decl (record { class = of; params = [] })) j → (inits : List StatementCode) → InitsTyped of inits
      → (c : MemberCode) → DefaultCoded begins ends rows super_at of inits c → CodeTyped R (Some (R.constructor_class (record { class = of; params = [] }))) (R.constructor_params (record { class = of; params = [] })) None c
  default_typed of j row inits ready c (q, finds, is) =
      code_by (record { class = of; params = [] }) 0 c (core.Stmts.more (core.eval None (core.super_constructor None (core.this None) q core.Exps.end)) (in_front inits core.Stmts.end)) is refl j row
      ([], (implicit_typed (plain (head of) true) q finds [] None, refl), front_typed of [] inits core.Stmts.end ready tt)

  -- ---- methods

  -- what is known of a method's row and of its result
  pub record MethodKnown (k : MethodKey) (mods : List (syntax.Modifier A)) (t : Option (tree.TypeName A)) (ps : List (syntax.Param A)) : Type 0 where
    pub number : ℕ
    pub row : IsRowOf rows (method_decl k) number
    pub words : (is_static_member begins mods ≡ true → IsStaticDecl rows (method_decl k)) × (is_static_member begins mods ≡ false → IsInstanceDecl rows (method_decl k))
    pub count : length ps ≡ length k.params
    pub result : ((t ≡ None) × (row.row.type ≡ Some void)) ⊎ ((n : tree.TypeName A) × (u : Ty) × (t ≡ Some n) × (row.row.type ≡ Some u) × Proper u)

  module _ (k : MethodKey) (mods : List (syntax.Modifier A)) (t : Option (tree.TypeName A)) (ps : List (syntax.Param A)) (known_of : MethodKnown k mods t ps) where
    owner_is : (b : Bool) → is_static_member begins mods ≡ b → R.owner k ≡ cond b None (Some k.class)
    owner_is true e = run.static k (known_of.words.0 e)
    owner_is false e = run.instance k (known_of.words.1 e)

    result_type : R.result k ≡ option_and_then run_type known_of.row.row.type
    result_type = run.result k known_of.number known_of.row

    method_place : IsTyped begins ends rows are each found R run proper (R.owner k) (R.result k) (length ps) (with_parameters (method k) (is_static_member begins mods) ps) (param_context 0 (map param_type k.params))
    method_place = record {
      locals = params_typed rows (method k) (is_static_member begins mods) ps (proper.params (method_decl k) known_of.number known_of.row);
      under = λ n le. above_all 0 k.params n (let c = known_of.count in omega (arith, le, c));
      own = refl;
      object = λ e. owner_is false e;
      result = elim known_of.result [
        | inl (none, is) ↦ inr ((λ u h. h.1 (one_type u h.0 is)), result_type ∙ ap (option_and_then run_type) is)
        | inr (n, u, some, is, W) ↦ inl (u, ((known_of.number, known_of.row, is), not_void u W), (W.0, result_type ∙ ap (option_and_then run_type) is ∙ W.1, W.1))
      ];
    }
      where
        one_type : (u : Ty) → IsTypeOf rows (record { member = method k; is_static = false; locals = []; own = None }) (method_decl k) u → known_of.row.row.type ≡ Some void → u ≡ void
        one_type u (j, i, e) is = same_some i.row.type u void e (ap (λ (r : Row). r.type) (same_row rows are (method_decl k) j known_of.number i known_of.row) ∙ is)

        not_void : (u : Ty) → Proper u → u ≢ void
        not_void u W e = (let p : Some W.0 ≡ None = sym W.1 ∙ ap run_type e in cc)

    -- a synchronized method's body
    locked_typed : (G : List (ℕ × RunTy)) (b : Bool) (entered exited : Option Place) (z : ListCode) → StmtsTyped R G (R.owner k) (R.result k) z → StmtsTyped R G (R.owner k) (R.result k) (locked b entered exited (monitor k.class (is_static_member begins mods)) z)
    locked_typed G false entered exited z h = h
    locked_typed G true entered exited z h = (G, by (is_static_member begins mods) refl, tt)
      where
        by : (b : Bool) → is_static_member begins mods ≡ b → StmtTyped R G (R.owner k) (R.result k) (core.sync entered exited (monitor k.class b) z) G
        by true e = (R.class_class, (run.is_subclass R.class_class R.class_class).1 (inl refl), h, refl)
        by false e = (k.class, subst (λ (o : Option ClassKey). typing.ThisHas R o (Some (reference k.class))) (sym (owner_is false e)) ((run.is_subclass k.class k.class).1 (inl refl)), h, refl)

    locked_completes : (b : Bool) (entered exited : Option Place) (l : Code) (z : ListCode) → AllMayComplete (locked b entered exited l z) → AllMayComplete z
    locked_completes false entered exited l z h = h
    locked_completes true entered exited l z h = h.0

    pub method_typed : (b : ℕ) (m : A) (w : tree.Word A) (body : statement.Stmts A) → SoundMember begins rows super_at (method k) b (syntax.method m mods t w ps body)
        → (code : core.Method RunKeys) → MethodCoded begins ends rows super_at k b (syntax.method m mods t w ps body) code → MethodTyped R (R.owner k) (R.params k) (R.result k) code
    method_typed b m w body sound code (z, coded, is) = subst (MethodTyped R (R.owner k) (R.params k) (R.result k)) (sym is)
        (subst (λ (Ts : List RunTy). CodeTyped R (R.owner k) Ts (R.result k) (record {
          params = length ps;
          body = locked (is_synchronized mods) (Some (record { member = method k; at = begins w.mark (begins m b) })) (Some (record { member = method k; at = ends m b })) (monitor k.class (is_static_member begins mods)) z;
        })) (sym (run.params k (known_of.number, known_of.row))) (record {
          count = known_of.count ∙ map_length k.params;
          body = locked_typed (param_context 0 (map param_type k.params)) (is_synchronized mods) (Some (record { member = method k; at = begins w.mark (begins m b) })) (Some (record { member = method k; at = ends m b })) z
              (stmts_typed begins ends rows are each found R run proper (R.owner k) (R.result k) (length ps) (with_parameters (method k) (is_static_member begins mods) ps) (begins m b) body z (param_context 0 (map param_type k.params)) coded (λ at r h. sound at r (inr (inr h))) method_place);
          completes = λ U e h. never U e (all_complete begins ends rows (length ps) (with_parameters (method k) (is_static_member begins mods) ps) (begins m b) body z coded (locked_completes (is_synchronized mods) _ _ _ z h)) known_of.result;
        }))
      where
        missing : (n : tree.TypeName A) → t ≡ Some n → ListCompletes body → ⊥
        missing n e h = by t e sound
          where
            by : (o : Option (tree.TypeName A)) → o ≡ Some n → SoundMember begins rows super_at (method k) b (syntax.method m mods o w ps body) → ⊥
            by None e clean = absurd cc
            by (Some x) e clean = clean _ rule.MissingReturn (inl (refl, h))

        never : (U : RunTy) → R.result k ≡ Some U → ListCompletes body → (((t ≡ None) × (known_of.row.row.type ≡ Some void)) ⊎ ((n : tree.TypeName A) × (u : Ty) × (t ≡ Some n) × (known_of.row.row.type ≡ Some u) × Proper u)) → ⊥
        never U e h (inl (none, v)) = (let p : None ≡ Some U = sym (result_type ∙ ap (option_and_then run_type) v) ∙ e in absurd cc)
        never U e h (inr (n, u, some, v, W)) = missing n some h
