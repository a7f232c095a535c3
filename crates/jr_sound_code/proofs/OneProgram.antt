-- Sources are one resolved program at most: what is declared has one code and one row, and what isn't has fixed ones.
use Rattle.std.proofs.Common.{◌≡◌, ℕ, zero, suc, List, [], ◌∷◌, Option, Some, None, Bool, true, false, refl, sym, ap, subst, ◌∙◌, inl, inr}
use Rattle.std.specs.Prelude.{◌↔◌, slice_get, IsTrue}
use Rattle.jr_ast.specs.MemberTree as syntax
use Rattle.jr_runs.specs.Core as core
use Rattle.jr_runs.specs.Rows as core_rows
use Rattle.jr_table.specs.Keys.{ClassKey, MethodKey, CtorKey}
use Rattle.jr_table.specs.Decls.{MemberKey, head, method, constructor, Decl, field_decl, method_decl, constructor_decl}
use Rattle.jr_table.specs.Rows.{Row}
use Rattle.jr_table.specs.Entries.{IsRowOf}
use Rattle.jr_table.specs.DeclaredItems.{DeclaredItem, class_key, writes_ctor, declarations_of}
use Rattle.jr_table.specs.ProgramRows.{AreProgramRows}
use Rattle.jr_table.specs.Errors.{Part, class_part, member_part, Declares, InClass, InMembers, InInner, InClasses}
use Rattle.jr_members.specs.WrittenLaws.{IsWritten}
use Rattle.jr_members.proofs.Anywhere.{IsAt}
use Rattle.jr_code.specs.RunKeys.{RunKeys}
use Rattle.jr_code.specs.RunRows.{HasRow, AreRunRows}
use Rattle.jr_code.specs.CodedStatements.{StatementCode}
use Rattle.jr_code.specs.CodedMembers.{DefaultCoded, ConstructorCoded, ClassCoded, MembersCoded, InnerCoded, ClassesCoded, UnitsCoded}
use Rattle.jr_code.specs.Programs.{IsCodeOf}
use Rattle.jr_code.specs.Laws.{EachHasOneCode}
use Rattle.jr_sound_code.proofs.Finding.{static_or}
use Rattle.jr_code.proofs.RunRowsStand.{row_or}
use Rattle.jr_sound_code.proofs.Reached.{LacksCtor, method_is_of, ctor_is_of}

-- ---- answers that say the same are one

bool_one : (a b : Bool) (X : Type 0) → (IsTrue a ↔ X) → (IsTrue b ↔ X) → a ≡ b
bool_one true true X f g = refl
bool_one true false X f g = (let e = g.1 (f.0 refl) in absurd cc)
bool_one false true X f g = (let e = f.1 (g.0 refl) in absurd cc)
bool_one false false X f g = refl

option_one : {Y : Type 0} (a b : Option Y) (D : Y → Type 0) → ((y : Y) → (a ≡ Some y) ↔ D y) → ((y : Y) → (b ≡ Some y) ↔ D y) → a ≡ b
option_one (Some y) b D f g = sym ((g y).1 ((f y).0 refl))
option_one None (Some y) D f g = (f y).1 ((g y).0 refl)
option_one None None D f g = refl

module _ (rows : List Row) (R S : core_rows.Rows RunKeys) (r : AreRunRows rows R) (s : AreRunRows rows S) where
  by_row : {X : Type 0} (d : Decl) (a b : X) → ((j : ℕ) → IsRowOf rows d j → a ≡ b) → ((HasRow rows d → ⊥) → a ≡ b) → a ≡ b
  by_row d a b some none = elim (row_or rows d) [
    | inl (j, i) ↦ some j i
    | inr not ↦ none not
  ]

  owner_one : (m : MethodKey) → R.owner m ≡ S.owner m
  owner_one m = by_row (method_decl m) (R.owner m) (S.owner m)
      (λ j i. elim (static_or rows (method_decl m) j i) [
        | inl static ↦ r.static m static ∙ sym (s.static m static)
        | inr instance ↦ r.instance m instance ∙ sym (s.instance m instance)
      ])
      (λ not. (r.no_method m not).0 ∙ sym (s.no_method m not).0)

  pub rows_one : R ≡ S
  rows_one = λ t. record {
    same_class = λ c d. bool_one (R.same_class c d) (S.same_class c d) (c ≡ d) (r.same_class c d) (s.same_class c d) t;
    is_subclass = λ c d. bool_one (R.is_subclass c d) (S.is_subclass c d) _ (r.is_subclass c d) (s.is_subclass c d) t;
    text_class = (r.text_class ∙ sym s.text_class) t;
    class_class = (r.class_class ∙ sym s.class_class) t;
    field_kind = λ k. by_row (field_decl k) (R.field_kind k) (S.field_kind k) (λ j i. r.field_kind k j i ∙ sym (s.field_kind k j i)) (λ not. (r.no_field k not).0 ∙ sym (s.no_field k not).0) t;
    field_type = λ k. by_row (field_decl k) (R.field_type k) (S.field_type k) (λ j i. r.field_type k j i ∙ sym (s.field_type k j i)) (λ not. (r.no_field k not).1 ∙ sym (s.no_field k not).1) t;
    dispatch = λ c m. option_one (R.dispatch c m) (S.dispatch c m) _ (r.dispatch c m) (s.dispatch c m) t;
    has_method = λ m. bool_one (R.has_method m) (S.has_method m) (HasRow rows (method_decl m)) (r.has_method m) (s.has_method m) t;
    owner = λ m. owner_one m t;
    params = λ m. by_row (method_decl m) (R.params m) (S.params m) (λ j i. r.params m (j, i) ∙ sym (s.params m (j, i))) (λ not. (r.no_method m not).1 ∙ sym (s.no_method m not).1) t;
    result = λ m. by_row (method_decl m) (R.result m) (S.result m) (λ j i. r.result m j i ∙ sym (s.result m j i)) (λ not. (r.no_method m not).2 ∙ sym (s.no_method m not).2) t;
    has_constructor = λ q. bool_one (R.has_constructor q) (S.has_constructor q) (HasRow rows (constructor_decl q)) (r.has_constructor q) (s.has_constructor q) t;
    constructor_class = λ q. (r.constructor_class q ∙ sym (s.constructor_class q)) t;
    constructor_params = λ q. by_row (constructor_decl q) (R.constructor_params q) (S.constructor_params q) (λ j i. r.constructor_params q (j, i) ∙ sym (s.constructor_params q (j, i))) (λ not. r.no_constructor q not ∙ sym (s.no_constructor q not)) t;
  }

-- ---- what two programs write

module _ {A : Type 0} (begins ends : A → ℕ → ℕ) (rows : List Row) (super_at : MemberKey → ℕ) (ds : List DeclaredItem) (one : EachHasOneCode begins ends rows super_at) (P Q : core.Program RunKeys) where
  abbrev BothAt : MemberKey → ℕ → Part A → Type 0
  BothAt k b (class_part (syntax.class m mods w t ms)) = (o : Option (List ℕ)) × (k ≡ head (class_key begins o w.text))
      × (writes_ctor begins ms ≡ false → P.constructor (record { class = class_key begins o w.text; params = [] }) ≡ Q.constructor (record { class = class_key begins o w.text; params = [] }))
  BothAt k b (member_part x) = (of : ClassKey) × Declares begins ds b of x k × ((j : MethodKey) → Declares begins ds b of x (method j) → P.method j ≡ Q.method j) × ((j : CtorKey) → Declares begins ds b of x (constructor j) → P.constructor j ≡ Q.constructor j)

  module _ (n : ℕ) (q : Part A) (k : MemberKey) where
    moved : (base : ℕ) (p : Part A) → base ≡ n → p ≡ q → BothAt k base p → BothAt k n q
    moved base p e f h = subst (λ (i : ℕ). BothAt k i q) e (subst (λ (x : Part A). BothAt k base x) f h)

    mutual
      unfolding ClassCoded MembersCoded InnerCoded InClass InMembers InInner

      class_both : (b : ℕ) (o : Option (List ℕ)) (c : syntax.Class A) → ClassCoded begins ends rows super_at ds P b o c → ClassCoded begins ends rows super_at ds Q b o c → InClass begins ds (IsAt n q) b o c k → BothAt k n q
      class_both b o (syntax.class m mods w t ms) (inits, code, default, members) (others, other, also, rest) (inl (key, (e, f))) =
          let same : inits ≡ others = one.initializers (class_key begins o w.text) (begins m b) ms inits others code other in
          moved b (class_part (syntax.class m mods w t ms)) e f
          (o, key, λ none. one.default (class_key begins o w.text) others _ _ (subst (λ (z : List StatementCode). DefaultCoded begins ends rows super_at (class_key begins o w.text) z (P.constructor (record { class = class_key begins o w.text; params = [] }))) same (default none)) (also none))
      class_both b o (syntax.class m mods w t ms) (inits, code, default, members) (others, other, also, rest) (inr h) =
          members_both (begins m b) (class_key begins o w.text) inits others (one.initializers (class_key begins o w.text) (begins m b) ms inits others code other) ms members rest h

      members_both : (b : ℕ) (of : ClassKey) (inits others : List StatementCode) → inits ≡ others → (xs : syntax.Members A) → MembersCoded begins ends rows super_at ds P b of inits xs → MembersCoded begins ends rows super_at ds Q b of others xs
          → InMembers begins ds (IsAt n q) b of xs k → BothAt k n q
      members_both b of inits others same syntax.end coded also h = absurd h
      members_both b of inits others same (syntax.more x xs) (inner, first, rest) (inner', second, rest') (inl (inl (d, (e, f)))) = moved b (member_part x) e f (
        of,
        d,
        (λ j declares. one.method j b x _ _ (first.0 j declares) (second.0 j declares)),
        λ j declares. one.constructor j b others x _ _ (subst (λ (z : List StatementCode). ConstructorCoded begins ends rows super_at j b z x (P.constructor j)) same (first.1 j declares)) (second.1 j declares),
      )
      members_both b of inits others same (syntax.more x xs) (inner, first, rest) (inner', second, rest') (inl (inr h)) = inner_both b of x inner inner' h
      members_both b of inits others same (syntax.more x xs) (inner, first, rest) (inner', second, rest') (inr h) = members_both b of inits others same xs rest rest' h

      inner_both : (b : ℕ) (of : ClassKey) (x : syntax.Member A) → InnerCoded begins ends rows super_at ds P b of x → InnerCoded begins ends rows super_at ds Q b of x → InInner begins ds (IsAt n q) b of x k → BothAt k n q
      inner_both b of (syntax.inner m c) coded also h = class_both (begins m b) (Some of.name) c coded also h
      inner_both b of (syntax.field m mods t w init) coded also h = absurd h
      inner_both b of (syntax.method m mods t w ps body) coded also h = absurd h
      inner_both b of (syntax.constructor m mods w ps args body) coded also h = absurd h

    classes_both : (b : ℕ) (cs : List (syntax.Class A)) → ClassesCoded begins ends rows super_at ds P b cs → ClassesCoded begins ends rows super_at ds Q b cs → InClasses begins ds (IsAt n q) b cs k → BothAt k n q
    classes_both b [] coded also h = absurd h
    classes_both b (c ∷ cs) coded also (inl h) = class_both b None c coded.0 also.0 h
    classes_both b (c ∷ cs) coded also (inr h) = classes_both b cs coded.1 also.1 h

  pub unit_coded : (X : core.Program RunKeys) (us : List (syntax.Unit A)) → UnitsCoded begins ends rows super_at ds X us → (i : ℕ) (u : syntax.Unit A) → slice_get us i ≡ Some u → ClassesCoded begins ends rows super_at ds X (begins u.mark 0) u.classes
  unit_coded X [] coded i u e = absurd cc
  unit_coded X (v ∷ us) coded zero u e = let same : v ≡ u = cc in subst (λ (x : syntax.Unit A). ClassesCoded begins ends rows super_at ds X (begins x.mark 0) x.classes) same coded.0
  unit_coded X (v ∷ us) coded (suc i) u e = unit_coded X us coded.1 i u e

module _ {A : Type 0} (begins ends : A → ℕ → ℕ) (rows : List Row) (super_at : MemberKey → ℕ) (units : List (syntax.Unit A)) (program : AreProgramRows (declarations_of begins units) rows) (one : EachHasOneCode begins ends rows super_at)
    (P Q : core.Program RunKeys) (p : IsCodeOf begins ends rows super_at units P) (q : IsCodeOf begins ends rows super_at units Q) where
  abbrev Both : MemberKey → ℕ → Part A → Type 0
  Both = BothAt begins ends rows super_at (declarations_of begins units) one P Q

  both_at : (file : ℕ) (k : MemberKey) (n : ℕ) (x : Part A) → IsWritten begins units file k n x → Both k n x
  both_at file k n x w = classes_both begins ends rows super_at (declarations_of begins units) one P Q n x k (begins w.unit.mark 0) w.unit.classes
      (unit_coded begins ends rows super_at (declarations_of begins units) one P Q P units p.members file w.unit w.stands) (unit_coded begins ends rows super_at (declarations_of begins units) one P Q Q units q.members file w.unit w.stands) w.writes

  method_at : (k : MethodKey) (n : ℕ) (x : Part A) → Both (method k) n x → P.method k ≡ Q.method k
  method_at k n (class_part (syntax.class m mods w t ms)) (o, key, rest) = absurd cc
  method_at k n (member_part x) (of, declares, methods, ctors) = methods k declares

  ctor_at : (k : CtorKey) (n : ℕ) (x : Part A) → Both (constructor k) n x → P.constructor k ≡ Q.constructor k
  ctor_at k n (class_part (syntax.class m mods w t ms)) (o, key, rest) = absurd cc
  ctor_at k n (member_part x) (of, declares, methods, ctors) = ctors k declares

  default_at : (c : ClassKey) (n : ℕ) (x : Part A) → LacksCtor begins (declarations_of begins units) x → Both (head c) n x → P.constructor (record { class = c; params = [] }) ≡ Q.constructor (record { class = c; params = [] })
  default_at c n (class_part (syntax.class m mods w t ms)) lacks (o, key, default) =
      let same : class_key begins o w.text ≡ c = cc in
      subst (λ (z : ClassKey). P.constructor (record { class = z; params = [] }) ≡ Q.constructor (record { class = z; params = [] })) same (default lacks)
  default_at c n (member_part x) lacks h = absurd lacks

  methods_one : (k : MethodKey) → P.method k ≡ Q.method k
  methods_one k = elim (row_or rows (method_decl k)) [
    | inr not ↦ p.others.method k not ∙ sym (q.others.method k not)
    | inl (j, i) ↦ elim (method_is_of begins units rows program k j i) [
      | inl (inl e) ↦ ap P.method e ∙ p.prelude.run ∙ sym q.prelude.run ∙ sym (ap Q.method e)
      | inl (inr e) ↦ ap P.method e ∙ p.prelude.start ∙ sym q.prelude.start ∙ sym (ap Q.method e)
      | inr (inl (file, n, x, w)) ↦ method_at k n x (both_at file (method k) n x w)
      | inr (inr (c, file, n, x, w, lacks, e)) ↦ absurd cc
    ]
  ]

  constructors_one : (k : CtorKey) → P.constructor k ≡ Q.constructor k
  constructors_one k = elim (row_or rows (constructor_decl k)) [
    | inr not ↦ p.others.constructor k not ∙ sym (q.others.constructor k not)
    | inl (j, i) ↦ elim (ctor_is_of begins units rows program k j i) [
      | inl (inl e) ↦ ap P.constructor e ∙ p.prelude.object ∙ sym q.prelude.object ∙ sym (ap Q.constructor e)
      | inl (inr e) ↦ ap P.constructor e ∙ p.prelude.thread ∙ sym q.prelude.thread ∙ sym (ap Q.constructor e)
      | inr (inl (file, n, x, w)) ↦ ctor_at k n x (both_at file (constructor k) n x w)
      | inr (inr (c, file, n, x, w, lacks, e)) ↦ (let same : k ≡ record { class = c; params = [] } = cc in ap P.constructor same ∙ default_at c n x lacks (both_at file (head c) n x w) ∙ sym (ap Q.constructor same))
    ]
  ]

  pub programs_one : P ≡ Q
  programs_one = λ t. record {
    rows = rows_one rows P.rows Q.rows p.declarations q.declarations t;
    method = λ k. methods_one k t;
    constructor = λ k. constructors_one k t;
  }
