-- The resolved program of one file of top-level classes, computed: what is computed is its code.
use Rattle.std.proofs.lemmas.Bool.{and_parts}
use Rattle.std.proofs.Common.{◌≡◌, ℕ, List, [], ◌∷◌, map, Option, Some, None, Bool, true, false, cond, ◌&&◌, refl, sym, subst, ◌∙◌}
use Rattle.std.specs.Prelude.{unwrap_or, is_some, codes}
use Rattle.jr_ast.specs.Tree as tree
use Rattle.jr_ast.specs.MemberTree as syntax
use Rattle.jr_runs.specs.Core as core
use Rattle.jr_runs.specs.MemberTranslation.{no_code}
use Rattle.jr_table.specs.Keys.{ClassKey, MethodKey, CtorKey}
use Rattle.jr_table.specs.SameKeys.{same_method, method_decides, same_ctor, ctor_decides}
use Rattle.jr_table.specs.Decls.{MemberKey, method, constructor, method_decl, constructor_decl}
use Rattle.jr_table.specs.Rows.{Row}
use Rattle.jr_table.specs.Prelude.{thread_key}
use Rattle.jr_table.specs.Entries.{number_of}
use Rattle.jr_table.specs.Conditions.{AreRows}
use Rattle.jr_table.specs.LookupLaws.{KeysAreFound}
use Rattle.jr_table.specs.DeclaredItems.{DeclaredItem, param_declaration, class_key, writes_ctor, declarations_of}
use Rattle.jr_table.proofs.RowLaws.{number_stands}
use Rattle.jr_code.specs.RunKeys.{RunKeys}
use Rattle.jr_code.specs.RunRows.{HasRow}
use Rattle.jr_code.specs.CodedStatements.{StatementCode}
use Rattle.jr_code.specs.CodedMembers.{MemberCode, MethodCoded, ConstructorCoded, OneCoded, ClassCoded, MembersCoded, InnerCoded, ClassesCoded, HasPrelude}
use Rattle.jr_code.specs.Programs.{IsCodeOf}
use Rattle.jr_code_cases.proofs.TopTypes.{all_top, meanings, have_meanings, one_mean}
use Rattle.jr_code.proofs.RunRowsStand.{run_rows, are_run_rows}
use Rattle.jr_code_cases.proofs.ComputedMembers.{method_code, method_is, inits_code, inits_are, ctor_code, ctor_is, default_code, default_is}

abbrev MethodRow : Type 0
MethodRow = MethodKey × core.Method RunKeys

abbrev CtorRow : Type 0
CtorRow = CtorKey × MemberCode

-- the first of the key; what isn't there does nothing
abbrev method_in : List MethodRow → MethodKey → core.Method RunKeys
method_in [] k = core.written no_code
method_in (e ∷ es) k = cond (same_method e.0 k) e.1 (method_in es k)

abbrev ctor_in : List CtorRow → CtorKey → MemberCode
ctor_in [] k = no_code
ctor_in (e ∷ es) k = cond (same_ctor e.0 k) e.1 (ctor_in es k)

module _ (rows : List Row) where
  abbrev pub methods_declared : List MethodRow → Bool
  methods_declared [] = true
  methods_declared (e ∷ es) = is_some (number_of rows (method_decl e.0)) && methods_declared es

  abbrev pub ctors_declared : List CtorRow → Bool
  ctors_declared [] = true
  ctors_declared (e ∷ es) = is_some (number_of rows (constructor_decl e.0)) && ctors_declared es

  method_row : (k : MethodKey) → is_some (number_of rows (method_decl k)) ≡ true → HasRow rows (method_decl k)
  method_row k has = by (number_of rows (method_decl k)) refl has
    where
      by : (o : Option ℕ) → number_of rows (method_decl k) ≡ o → is_some o ≡ true → HasRow rows (method_decl k)
      by None e t = absurd cc
      by (Some j) e t = (j, number_stands rows (method_decl k) j e)

  ctor_row : (k : CtorKey) → is_some (number_of rows (constructor_decl k)) ≡ true → HasRow rows (constructor_decl k)
  ctor_row k has = by (number_of rows (constructor_decl k)) refl has
    where
      by : (o : Option ℕ) → number_of rows (constructor_decl k) ≡ o → is_some o ≡ true → HasRow rows (constructor_decl k)
      by None e t = absurd cc
      by (Some j) e t = (j, number_stands rows (constructor_decl k) j e)

  no_method : (es : List MethodRow) → methods_declared es ≡ true → (k : MethodKey) → (HasRow rows (method_decl k) → ⊥) → method_in es k ≡ core.written no_code
  no_method [] all k never = refl
  no_method (e ∷ es) all k never = by (same_method e.0 k) refl (no_method es (and_parts (is_some (number_of rows (method_decl e.0))) (methods_declared es) all).1 k never)
    where
      by : (b : Bool) → same_method e.0 k ≡ b → method_in es k ≡ core.written no_code → cond b e.1 (method_in es k) ≡ core.written no_code
      by false is rest = rest
      by true is rest = absurd (never (subst (λ (j : MethodKey). HasRow rows (method_decl j)) ((method_decides e.0 k).0 is) (method_row e.0 (and_parts (is_some (number_of rows (method_decl e.0))) (methods_declared es) all).0)))

  no_ctor : (es : List CtorRow) → ctors_declared es ≡ true → (k : CtorKey) → (HasRow rows (constructor_decl k) → ⊥) → ctor_in es k ≡ no_code
  no_ctor [] all k never = refl
  no_ctor (e ∷ es) all k never = by (same_ctor e.0 k) refl (no_ctor es (and_parts (is_some (number_of rows (constructor_decl e.0))) (ctors_declared es) all).1 k never)
    where
      by : (b : Bool) → same_ctor e.0 k ≡ b → ctor_in es k ≡ no_code → cond b e.1 (ctor_in es k) ≡ no_code
      by false is rest = rest
      by true is rest = absurd (never (subst (λ (j : CtorKey). HasRow rows (constructor_decl j)) ((ctor_decides e.0 k).0 is) (ctor_row e.0 (and_parts (is_some (number_of rows (constructor_decl e.0))) (ctors_declared es) all).0)))

module _ {A : Type 0} (begins ends : A → ℕ → ℕ) (rows : List Row) where
  abbrev pub method_key : (base : ℕ) → ClassKey → A → tree.Word A → List (syntax.Param A) → MethodKey
  method_key b of m w ps = record { class = of; name = w.text; params = meanings (map (param_declaration begins (begins m b)) ps) }

  abbrev pub ctor_key : (base : ℕ) → ClassKey → A → List (syntax.Param A) → CtorKey
  ctor_key b of m ps = record { class = of; params = meanings (map (param_declaration begins (begins m b)) ps) }

  abbrev inits_of : (base : ℕ) → ClassKey → syntax.Members A → List StatementCode
  inits_of b of ms = unwrap_or (inits_code begins ends rows of b ms) []

  -- ---- the code of each member, by its key

  abbrev member_methods : (base : ℕ) → ClassKey → syntax.Member A → List MethodRow → List MethodRow
  member_methods b of (syntax.method m mods t w ps body) rest = (method_key b of m w ps, unwrap_or (method_code begins ends rows (method_key b of m w ps) b m mods w ps body) (core.written no_code)) ∷ rest
  member_methods b of _ rest = rest

  abbrev members_methods : (base : ℕ) → ClassKey → syntax.Members A → List MethodRow → List MethodRow
  members_methods b of syntax.end rest = rest
  members_methods b of (syntax.more x xs) rest = member_methods b of x (members_methods b of xs rest)

  abbrev classes_methods : (base : ℕ) → List (syntax.Class A) → List MethodRow
  classes_methods b [] = (thread_key (codes "start"), core.starts) ∷ []
  classes_methods b (syntax.class m mods w t ms ∷ cs) = members_methods (begins m b) (class_key begins None w.text) ms (classes_methods b cs)

  abbrev member_ctors : (base : ℕ) → ClassKey → List StatementCode → syntax.Member A → List CtorRow → List CtorRow
  member_ctors b of inits (syntax.constructor m mods w ps args body) rest = (ctor_key b of m ps, unwrap_or (ctor_code begins ends rows (ctor_key b of m ps) b inits m w ps args body) no_code) ∷ rest
  member_ctors b of inits _ rest = rest

  abbrev members_ctors : (base : ℕ) → ClassKey → List StatementCode → syntax.Members A → List CtorRow → List CtorRow
  members_ctors b of inits syntax.end rest = rest
  members_ctors b of inits (syntax.more x xs) rest = member_ctors b of inits x (members_ctors b of inits xs rest)

  abbrev default_ctors : Bool → ClassKey → List StatementCode → List CtorRow → List CtorRow
  default_ctors true of inits rest = rest
  default_ctors false of inits rest = (record { class = of; params = [] }, unwrap_or (default_code begins ends rows of inits) no_code) ∷ rest

  abbrev classes_ctors : (base : ℕ) → List (syntax.Class A) → List CtorRow
  classes_ctors b [] = []
  classes_ctors b (syntax.class m mods w t ms ∷ cs) =
      default_ctors (writes_ctor begins ms) (class_key begins None w.text) (inits_of (begins m b) (class_key begins None w.text) ms)
      (members_ctors (begins m b) (class_key begins None w.text) (inits_of (begins m b) (class_key begins None w.text) ms) ms (classes_ctors b cs))

  abbrev pub methods_of : syntax.Unit A → List MethodRow
  methods_of u = classes_methods (begins u.mark 0) u.classes

  abbrev pub ctors_of : syntax.Unit A → List CtorRow
  ctors_of u = classes_ctors (begins u.mark 0) u.classes

  abbrev pub program : syntax.Unit A → core.Program RunKeys
  program u = record { rows = run_rows rows; method = method_in (methods_of u); constructor = ctor_in (ctors_of u) }

  -- ---- what has to hold of each member: its code was computed, and is that of its key

  module _ (ds : List DeclaredItem) (P : core.Program RunKeys) where
    abbrev MemberChecks : (base : ℕ) → ClassKey → List StatementCode → syntax.Member A → Type 0
    MemberChecks b of inits (syntax.field m mods t w init) = Unit {0}
    MemberChecks b of inits (syntax.method m mods t w ps body) =
        (have_meanings ds (map (param_declaration begins (begins m b)) ps) ≡ true) × (method_code begins ends rows (method_key b of m w ps) b m mods w ps body ≡ Some (P.method (method_key b of m w ps)))
    MemberChecks b of inits (syntax.constructor m mods w ps args body) =
        (have_meanings ds (map (param_declaration begins (begins m b)) ps) ≡ true) × (ctor_code begins ends rows (ctor_key b of m ps) b inits m w ps args body ≡ Some (P.constructor (ctor_key b of m ps)))
    MemberChecks b of inits (syntax.inner m c) = ⊥

    abbrev MembersCheck : (base : ℕ) → ClassKey → List StatementCode → syntax.Members A → Type 0
    MembersCheck b of inits syntax.end = Unit {0}
    MembersCheck b of inits (syntax.more x xs) = MemberChecks b of inits x × MembersCheck b of inits xs

    abbrev DefaultChecks : Bool → ClassKey → List StatementCode → Type 0
    DefaultChecks true of inits = Unit {0}
    DefaultChecks false of inits = default_code begins ends rows of inits ≡ Some (P.constructor (record { class = of; params = [] }))

    abbrev pub ClassesCheck : (base : ℕ) → List (syntax.Class A) → Type 0
    ClassesCheck b [] = Unit {0}
    ClassesCheck b (syntax.class m mods w t ms ∷ cs) =
        (inits_code begins ends rows (class_key begins None w.text) (begins m b) ms ≡ Some (inits_of (begins m b) (class_key begins None w.text) ms))
        × DefaultChecks (writes_ctor begins ms) (class_key begins None w.text) (inits_of (begins m b) (class_key begins None w.text) ms)
        × MembersCheck (begins m b) (class_key begins None w.text) (inits_of (begins m b) (class_key begins None w.text) ms) ms × ClassesCheck b cs

pub same_method_key : (j k : MethodKey) → method j ≡ method k → j ≡ k
same_method_key j k e = cc

pub same_ctor_key : (j k : CtorKey) → constructor j ≡ constructor k → j ≡ k
same_ctor_key j k e = cc

module _ {A : Type 0} (begins ends : A → ℕ → ℕ) (rows : List Row) (are : AreRows rows) (found : KeysAreFound rows) (super_at : MemberKey → ℕ) (ds : List DeclaredItem) (top : all_top ds ≡ true) (P : core.Program RunKeys) where
  one_coded : (b : ℕ) (of : ClassKey) → of.outer ≡ None → (inits : List StatementCode) (x : syntax.Member A) → MemberChecks begins ends rows ds P b of inits x → OneCoded begins ends rows super_at ds P of b inits x
  one_coded b of outer inits (syntax.field m mods t w init) h = (λ k e. absurd cc, λ k e. absurd cc)
  one_coded b of outer inits (syntax.method m mods t w ps body) (have, is) = (
    λ k d.
        let params : d.0 ≡ meanings (map (param_declaration begins (begins m b)) ps) = one_mean ds top of outer (map (param_declaration begins (begins m b)) ps) d.0 have d.1 in
        let key : k ≡ method_key begins ends rows b of m w ps = same_method_key k (record { class = of; name = w.text; params = d.0 }) d.2 ∙ (λ i. record { class = of; name = w.text; params = params i }) in
        subst (λ (j : MethodKey). MethodCoded begins ends rows super_at j b (syntax.method m mods t w ps body) (P.method j)) (sym key)
        (method_is begins ends rows are found super_at (method_key begins ends rows b of m w ps) b m mods t w ps body (P.method (method_key begins ends rows b of m w ps)) is),
    λ k d. let e : constructor k ≡ method (record { class = of; name = w.text; params = d.0 }) = d.2 in absurd cc,
  )
  one_coded b of outer inits (syntax.constructor m mods w ps args body) (have, is) = (
    λ k d. let e : method k ≡ constructor (record { class = of; params = d.0 }) = d.2 in absurd cc,
    λ k d.
        let params : d.0 ≡ meanings (map (param_declaration begins (begins m b)) ps) = one_mean ds top of outer (map (param_declaration begins (begins m b)) ps) d.0 have d.1 in
        let key : k ≡ ctor_key begins ends rows b of m ps = same_ctor_key k (record { class = of; params = d.0 }) d.2 ∙ (λ i. record { class = of; params = params i }) in
        subst (λ (j : CtorKey). ConstructorCoded begins ends rows super_at j b inits (syntax.constructor m mods w ps args body) (P.constructor j)) (sym key)
        (ctor_is begins ends rows are found super_at (ctor_key begins ends rows b of m ps) b inits m mods w ps args body (P.constructor (ctor_key begins ends rows b of m ps)) is),
  )
  one_coded b of outer inits (syntax.inner m c) h = absurd h

  inner_coded : (b : ℕ) (of : ClassKey) (inits : List StatementCode) (x : syntax.Member A) → MemberChecks begins ends rows ds P b of inits x → InnerCoded begins ends rows super_at ds P b of x
  unfolding InnerCoded
  inner_coded b of inits (syntax.field m mods t w init) h = tt
  inner_coded b of inits (syntax.method m mods t w ps body) h = tt
  inner_coded b of inits (syntax.constructor m mods w ps args body) h = tt
  inner_coded b of inits (syntax.inner m c) h = absurd h

  members_coded : (b : ℕ) (of : ClassKey) → of.outer ≡ None → (inits : List StatementCode) (xs : syntax.Members A) → MembersCheck begins ends rows ds P b of inits xs → MembersCoded begins ends rows super_at ds P b of inits xs
  unfolding MembersCoded
  members_coded b of outer inits syntax.end h = tt
  members_coded b of outer inits (syntax.more x xs) h = (inner_coded b of inits x h.0, one_coded b of outer inits x h.0, members_coded b of outer inits xs h.1)

  default_coded : (of : ClassKey) (inits : List StatementCode) (writes : Bool) → DefaultChecks begins ends rows ds P writes of inits → writes ≡ false → default_code begins ends rows of inits ≡ Some (P.constructor (record { class = of; params = [] }))
  default_coded of inits true h e = absurd cc
  default_coded of inits false h e = h

  classes_coded : (b : ℕ) (cs : List (syntax.Class A)) → ClassesCheck begins ends rows ds P b cs → ClassesCoded begins ends rows super_at ds P b cs
  unfolding ClassCoded
  classes_coded b [] h = tt
  classes_coded b (syntax.class m mods w t ms ∷ cs) (inits, default, members, rest) = (
    (
      inits_of begins ends rows (begins m b) (class_key begins None w.text) ms,
      inits_are begins ends rows are found super_at (class_key begins None w.text) (begins m b) ms (inits_of begins ends rows (begins m b) (class_key begins None w.text) ms) inits,
      λ none. default_is begins ends rows are found super_at (class_key begins None w.text) (inits_of begins ends rows (begins m b) (class_key begins None w.text) ms) (P.constructor (record { class = class_key begins None w.text; params = [] }))
          (default_coded (class_key begins None w.text) (inits_of begins ends rows (begins m b) (class_key begins None w.text) ms) (writes_ctor begins ms) default none),
      members_coded (begins m b) (class_key begins None w.text) refl (inits_of begins ends rows (begins m b) (class_key begins None w.text) ms) ms members,
    ),
    classes_coded b cs rest,
  )

module _ {A : Type 0} (begins ends : A → ℕ → ℕ) (rows : List Row) (are : AreRows rows) (found : KeysAreFound rows) (u : syntax.Unit A) (top : all_top (declarations_of begins (u ∷ [])) ≡ true) where
  pub is_code : ClassesCheck begins ends rows (declarations_of begins (u ∷ [])) (program begins ends rows u) (begins u.mark 0) u.classes → methods_declared rows (methods_of begins ends rows u) ≡ true → ctors_declared rows (ctors_of begins ends rows u) ≡ true
      → HasPrelude (program begins ends rows u) → (super_at : MemberKey → ℕ) → IsCodeOf begins ends rows super_at (u ∷ []) (program begins ends rows u)
  is_code checks methods ctors prelude super_at = record {
    declarations = are_run_rows rows are;
    members = (classes_coded begins ends rows are found super_at (declarations_of begins (u ∷ [])) top (program begins ends rows u) (begins u.mark 0) u.classes checks, tt);
    prelude = prelude;
    others = record {
      method = λ k never. no_method rows (methods_of begins ends rows u) methods k never;
      constructor = λ k never. no_ctor rows (ctors_of begins ends rows u) ctors k never;
    };
  }
