-- What the rows of a sound program have: subclasses of subclasses are ones, and what a class runs for a method has its types.
use Rattle.std.proofs.Common.{◌≡◌, ◌≢◌, ℕ, List, [], ◌∷◌, map, Option, Some, None, Bool, true, false, refl, sym, ap, subst, ◌∙◌, inl, inr, arith}
use Rattle.std.specs.Prelude.{◌⊎◌, slice_get, codes, IsTrue, option_and_then}
use Rattle.std.specs.List.{list_any}
use Rattle.jr_ast.specs.MemberTree as syntax
use Rattle.jr_runs.specs.Rows as core_rows
use Rattle.jr_runs.specs.Typing.{SoundRows}
use Rattle.jr_table.specs.declared.entries.Entry.{Entry}
use Rattle.jr_table.specs.Keys.{ClassKey, MethodKey, Ty}
use Rattle.jr_table.specs.SameKeys.{same_class, class_decides, same_ty, ty_decides}
use Rattle.jr_table.specs.Decls.{MemberKey, head, method, Decl, class_decl, method_decl}
use Rattle.jr_table.specs.Rows.{Row}
use Rattle.jr_table.specs.Prelude.{top_key, object_key, class_row}
use Rattle.jr_table.specs.Entries.{IsRowOf, number_of, class_number, kind_of, class_of, name_of, params_of, entry_of, entries_of, is_private_word}
use Rattle.jr_table.specs.Conditions.{AreRows}
use Rattle.jr_table.specs.Chains.{IsChain, GoesUp, In, IsSubclassAt, parent_of}
use Rattle.jr_table.specs.Members.{NearestAmong, DeclaresVirtual}
use Rattle.jr_table.specs.Keyed.{IsSubclass, DispatchesTo}
use Rattle.jr_table.specs.Context.{IsInstanceDecl}
use Rattle.jr_table.specs.HeadRules.{OverridesBadly}
use Rattle.jr_table.specs.DeclaredItems.{DeclaredItem, class_key, declarations_of}
use Rattle.jr_table.specs.ProgramRows.{AreProgramRows}
use Rattle.jr_table.specs.Errors.{Part, class_part, Declares, InClass, InMembers, InInner, InClasses}
use Rattle.jr_table.proofs.RowLaws.{row_at, entry_stands, the_number}
use Rattle.jr_table.proofs.OneEach.{class_stands, one_params}
use Rattle.jr_table.proofs.Chaining.{one_chain}
use Rattle.jr_members.specs.WrittenMembers.{decl_of_member, written_members}
use Rattle.jr_members.specs.WrittenLaws.{IsWritten, AreWritten}
use Rattle.jr_members.proofs.Anywhere.{IsAt}
use Rattle.jr_code.specs.RunKeys.{RunKeys}
use Rattle.jr_code.specs.RunRows.{run_type, param_type, AreRunRows}
use Rattle.jr_code.proofs.OneFound.{same_row}
use Rattle.jr_sound_code.proofs.Answers.{is_false}
use Rattle.jr_sound_code.proofs.Finding.{declarer, subclass_at}
use Rattle.jr_sound_code.proofs.Fitting.{subclass_trans}
use Rattle.jr_sound_code.proofs.Unwritten.{prelude_row, not_prelude}
use Rattle.jr_sound_code.proofs.Reached.{method_is_of}

-- a method that is written stands in a class that is
module _ {A : Type 0} (begins : A → ℕ → ℕ) (ds : List DeclaredItem) (n : ℕ) (q : Part A) (k : MethodKey) where
  abbrev Around : ((MemberKey → ℕ → Part A → Type 0) → MemberKey → Type 0) → Type 0
  Around In = (m : ℕ) × (p : Part A) × In (IsAt m p) (head k.class)

  class_is : (b : ℕ) (of : ClassKey) (x : syntax.Member A) → Declares begins ds b of x (method k) → k.class ≡ of
  class_is b of (syntax.field m mods t w init) h = absurd cc
  class_is b of (syntax.method m mods t w ps body) (ts, mean, h) = cc
  class_is b of (syntax.constructor m mods w ps args body) (ts, mean, h) = absurd cc
  class_is b of (syntax.inner m c) h = absurd h

  mutual
    unfolding InClass InMembers InInner

    class_around : (b : ℕ) (o : Option (List ℕ)) (c : syntax.Class A) → InClass begins ds (IsAt n q) b o c (method k) → Around (λ P j. InClass begins ds P b o c j)
    class_around b o (syntax.class m mods w t ms) (inl h) = (let e = h.0 in absurd cc)
    class_around b o (syntax.class m mods w t ms) (inr h) = elim (members_around (begins m b) (class_key begins o w.text) ms h) [
      | inl same ↦ (b, class_part (syntax.class m mods w t ms), inl (ap head same, (refl, refl)))
      | inr a ↦ (a.0, a.1, inr a.2)
    ]

    members_around : (b : ℕ) (of : ClassKey) (xs : syntax.Members A) → InMembers begins ds (IsAt n q) b of xs (method k) → (k.class ≡ of) ⊎ Around (λ P j. InMembers begins ds P b of xs j)
    members_around b of syntax.end h = absurd h
    members_around b of (syntax.more x xs) (inl (inl h)) = inl (class_is b of x h.0)
    members_around b of (syntax.more x xs) (inl (inr h)) = (let a = inner_around b of x h in inr (a.0, a.1, inl (inr a.2)))
    members_around b of (syntax.more x xs) (inr h) = elim (members_around b of xs h) [
      | inl same ↦ inl same
      | inr a ↦ inr (a.0, a.1, inr a.2)
    ]

    inner_around : (b : ℕ) (of : ClassKey) (x : syntax.Member A) → InInner begins ds (IsAt n q) b of x (method k) → Around (λ P j. InInner begins ds P b of x j)
    inner_around b of (syntax.inner m c) h = class_around (begins m b) (Some of.name) c h
    inner_around b of (syntax.field m mods t w init) h = absurd h
    inner_around b of (syntax.method m mods t w ps body) h = absurd h
    inner_around b of (syntax.constructor m mods w ps args body) h = absurd h

  pub classes_around : (b : ℕ) (cs : List (syntax.Class A)) → InClasses begins ds (IsAt n q) b cs (method k) → Around (λ P j. InClasses begins ds P b cs j)
  classes_around b [] h = absurd h
  classes_around b (c ∷ cs) (inl h) = (let a = class_around b None c h in (a.0, a.1, inl a.2))
  classes_around b (c ∷ cs) (inr h) = (let a = classes_around b cs h in (a.0, a.1, inr a.2))

-- the nearest of a chain that declares something stands at or below each class of it that does
module _ (es : List Entry) (Own : ℕ → ℕ → Type 0) (k dd j : ℕ) (own : Own dd j) where
  abbrev Below : List ℕ → Type 0
  Below chain = (e : ℕ) × Own e k × IsSubclassAt es e dd × In chain e

  nearest_below : (c : ℕ) (chain : List ℕ) → IsChain es c chain → NearestAmong es Own chain k → In chain dd → Below chain
  nearest_below c [] goes near among = absurd near
  nearest_below c (x ∷ xs) goes (inl here) among = (x, here, record { chain = x ∷ xs; goes_up = (refl, subst (λ (z : ℕ). GoesUp (parent_of es z) xs (λ p. IsChain es p xs)) goes.0 goes.1); among = among }, inl refl)
  nearest_below c (x ∷ xs) goes (inr (none, near)) (inl same) = absurd (none j (subst (λ (z : ℕ). Own z j) (sym same) own))
  nearest_below c (x ∷ xs) goes (inr (none, near)) (inr later) = up (parent_of es c) goes.1 (λ p h. nearest_below p xs h near later)
    where
      none_in : (ys : List ℕ) → ys ≡ [] → In ys dd → ⊥
      none_in [] e h = h
      none_in (y ∷ ys) e h = absurd cc

      up : (o : Option ℕ) → GoesUp o xs (λ p. IsChain es p xs) → ((p : ℕ) → IsChain es p xs → Below xs) → Below (x ∷ xs)
      up None h more = absurd (none_in xs h later)
      up (Some p) h more = let b = more p h in (b.0, b.1, b.2, inr b.3)

same_type_or : (x y : Option Ty) → (x ≡ y) ⊎ (x ≢ y)
same_type_or None None = inl refl
same_type_or None (Some t) = inr (λ e. cc)
same_type_or (Some t) None = inr (λ e. cc)
same_type_or (Some s) (Some t) = by (same_ty s t) refl
  where
    by : (b : Bool) → same_ty s t ≡ b → (Some s ≡ Some t) ⊎ (Some s ≢ Some t)
    by true e = inl (ap Some ((ty_decides s t).0 e))
    by false e = inr (λ h. (let same : s ≡ t = cc in let p = sym e ∙ (ty_decides s t).1 same in cc))

module _ {A : Type 0} (begins : A → ℕ → ℕ) (units : List (syntax.Unit A)) (rows : List Row) (are : AreRows rows) (program : AreProgramRows (declarations_of begins units) rows) (written : AreWritten begins units rows (written_members begins rows units))
    (R : core_rows.Rows RunKeys) (run : AreRunRows rows R) (overrides : (k : MethodKey) (file b : ℕ) (p : Part A) → IsWritten begins units file (method k) b p → OverridesBadly rows k → ⊥) where
  abbrev es : List Entry
  es = entries_of rows

  -- ---- nothing of the prelude is above Thread but Object, which has no methods

  object_row : IsRowOf rows (class_decl object_key) 0
  object_row = prelude_row rows are 0 (class_row [] (codes "Object") None) (class_decl object_key) refl refl

  thread_class : IsRowOf rows (class_decl (top_key (codes "Thread"))) 4
  thread_class = prelude_row rows are 4 (class_row [] (codes "Thread") (Some object_key)) (class_decl (top_key (codes "Thread"))) refl refl

  object_top : parent_of es 0 ≡ None
  unfolding object_row prelude_row
  object_top = ap (option_and_then (λ (r : Entry). r.parent)) (entry_stands rows 0 object_row.row object_row.stands)

  thread_up : parent_of es 4 ≡ Some 0
  unfolding number_of thread_class prelude_row
  thread_up = ap (option_and_then (λ (r : Entry). r.parent)) (entry_stands rows 4 thread_class.row thread_class.stands) ∙ the_number rows are (class_decl object_key) 0 object_row

  above_object : (ds : List ℕ) (e : ℕ) → IsChain es 0 ds → In ds e → 0 ≡ e
  above_object [] e goes among = absurd goes
  above_object (d ∷ ds) e goes (inl is) = goes.0 ∙ is
  above_object (d ∷ ds) e goes (inr later) = absurd (none ds (subst (λ (o : Option ℕ). GoesUp o ds (λ p. IsChain es p ds)) object_top goes.1) later)
    where
      none : (ds : List ℕ) → ds ≡ [] → In ds e → ⊥
      none [] is h = h
      none (x ∷ xs) is h = absurd cc

  above_thread : (ds : List ℕ) (e : ℕ) → IsChain es 4 ds → In ds e → (4 ≡ e) ⊎ (0 ≡ e)
  above_thread [] e goes among = absurd goes
  above_thread (d ∷ ds) e goes (inl is) = inl (goes.0 ∙ is)
  above_thread (d ∷ ds) e goes (inr later) = inr (above_object ds e (subst (λ (o : Option ℕ). GoesUp o ds (λ p. IsChain es p ds)) thread_up goes.1) later)

  class_at : (j k : ClassKey) (n : ℕ) → IsRowOf rows (class_decl j) n → IsRowOf rows (class_decl k) n → j ≡ k
  class_at j k n x y =
      let both : Some x.row ≡ Some y.row = sym x.stands ∙ y.stands in
      let row : x.row ≡ y.row = cc in
      let keys : class_decl j ≡ class_decl k = sym x.declares ∙ ap (λ (r : Row). r.decl) row ∙ y.declares in
      cc

  -- Object declares no method
  object_methods : (m : MethodKey) (j : ℕ) → IsRowOf rows (method_decl m) j → m.class ≡ object_key → ⊥
  object_methods m j i is = elim (method_is_of begins units rows program m j i) [
    | inl pre ↦ thread_no (elim pre [
      | inl e ↦ ap (λ (z : MethodKey). z.class) e
      | inr e ↦ ap (λ (z : MethodKey). z.class) e
    ])
    | inr (inl (file, n, q, w)) ↦ (let a = classes_around begins (declarations_of begins units) n q m (begins w.unit.mark 0) w.unit.classes w.writes in
        let v = written.all file (head m.class) a.0 a.1 (record { unit = w.unit; stands = w.stands; writes = a.2 }) in
        not_prelude begins rows are units v.0 v.1 (written.row v.0 v.1) 0 (omega arith)
        (subst (λ (k : MemberKey). IsRowOf rows (decl_of_member k) 0) (sym v.3) (subst (λ (c : ClassKey). IsRowOf rows (class_decl c) 0) (sym is) object_row)))
    | inr (inr (c, file, n, q, w, lacks, e)) ↦ absurd cc
  ]
    where
      thread_no : m.class ≡ top_key (codes "Thread") → ⊥
      thread_no e = (let f = are.one_each (class_decl object_key) 0 4 object_row (subst (λ (c : ClassKey). IsRowOf rows (class_decl c) 4) (sym e ∙ is) thread_class) in absurd (omega (arith, f)))

  -- ---- what is run for a method

  moved_type : (a b : MethodKey) → a ≡ b → (i j : ℕ) (x : IsRowOf rows (method_decl a) i) (y : IsRowOf rows (method_decl b) j) → x.row.type ≡ y.row.type
  moved_type a b e i j x y = ap (λ (r : Row). r.type) (same_row rows are (method_decl b) i j (record { row = x.row; stands = x.stands; declares = x.declares ∙ ap method_decl e }) y)

  module _ (d : ClassKey) (m found : MethodKey) (x : DispatchesTo rows d m found) where
    abbrev Own : ℕ → ℕ → Type 0
    Own = DeclaresVirtual es m.name (map (kind_of rows) m.params)

    chain_is : IsChain es x.c x.nearest.chain
    chain_is = x.nearest.goes_up

    among : In x.nearest.chain x.d
    among = subst (λ (ds : List ℕ). In ds x.d) (one_chain es x.c x.below.chain x.nearest.chain x.below.goes_up x.nearest.goes_up) x.below.among

    near : Below es Own x.k x.d x.j x.virtual x.nearest.chain
    near = nearest_below es Own x.k x.d x.j x.virtual x.c x.nearest.chain chain_is x.nearest.among among

    entry_is : (e : Decl) (j : ℕ) (i : IsRowOf rows e j) (y : Entry) → slice_get es j ≡ Some y → y ≡ entry_of rows i.row
    entry_is e j i y stands =
        let at = row_at rows j y stands in
        let both : Some at.row ≡ Some i.row = sym at.stands ∙ i.stands in
        let same : at.row ≡ i.row = cc in
        at.is ∙ ap (entry_of rows) same

    found_entry : near.1.declared.row ≡ entry_of rows x.found_row.row
    found_entry = entry_is (method_decl found) x.k x.found_row near.1.declared.row near.1.declared.stands

    m_entry : x.virtual.declared.row ≡ entry_of rows x.row.row
    m_entry = entry_is (method_decl m) x.j x.row x.virtual.declared.row x.virtual.declared.stands

    found_class : near.0 ≡ class_number rows found.class
    found_class = sym near.1.declared.class ∙ ap (λ (e : Entry). e.class) found_entry ∙ ap (λ (z : Decl). class_number rows (class_of z)) x.found_row.declares

    m_class : x.d ≡ class_number rows m.class
    m_class = sym x.virtual.declared.class ∙ ap (λ (e : Entry). e.class) m_entry ∙ ap (λ (z : Decl). class_number rows (class_of z)) x.row.declares

    pub name_is : found.name ≡ m.name
    name_is = sym (ap name_of x.found_row.declares) ∙ sym (ap (λ (e : Entry). e.name) found_entry) ∙ near.1.declared.named

    pub params_are : found.params ≡ m.params
    params_are =
        let kinds : map (kind_of rows) (params_of x.found_row.row.decl) ≡ map (kind_of rows) (params_of x.row.row.decl) = sym (ap (λ (e : Entry). e.params) found_entry) ∙ near.1.declared.takes ∙ sym x.virtual.declared.takes ∙ ap (λ (e : Entry). e.params) m_entry in
        sym (ap params_of x.found_row.declares) ∙ one_params rows are x.k x.j x.found_row.row x.row.row x.found_row.stands x.row.stands kinds ∙ ap params_of x.row.declares

    d_number : x.c ≡ class_number rows d
    d_number = sym (class_stands rows are d x.c x.place)

    -- the class of what is found is the class, or above it, and below the method's
    pub class_above : IsSubclass rows d found.class
    class_above = subclass_at rows are d found.class (declarer rows are (method_decl found) x.k x.found_row)
        (subst (λ (n : ℕ). IsSubclassAt es n (class_number rows found.class)) d_number (subst (λ (n : ℕ). IsSubclassAt es x.c n) found_class (record { chain = x.nearest.chain; goes_up = chain_is; among = near.3 })))

    class_below : IsSubclass rows found.class m.class
    class_below = subclass_at rows are found.class m.class (declarer rows are (method_decl m) x.j x.row)
        (subst (λ (n : ℕ). IsSubclassAt es n (class_number rows m.class)) found_class (subst (λ (n : ℕ). IsSubclassAt es near.0 n) m_class near.2))

    pub instance_found : IsInstanceDecl rows (method_decl found)
    instance_found = (x.k, x.found_row, ap (λ (e : Entry). e.is_static) (sym found_entry) ∙ is_false near.1.declared.row.is_static (λ h. near.1.instance (record { row = near.1.declared.row; stands = near.1.declared.stands; static = h })))

    visible : list_any is_private_word x.row.row.modifiers ≡ false
    visible = ap (λ (e : Entry). e.is_private) (sym m_entry) ∙ is_false x.virtual.declared.row.is_private (λ h. x.virtual.visible (record { row = x.virtual.declared.row; stands = x.virtual.declared.stands; private = h }))

    same_method : found.class ≡ m.class → found ≡ m
    same_method e = λ i. record { class = e i; name = name_is i; params = params_are i }

    bad : found.class ≢ m.class → x.found_row.row.type ≢ x.row.row.type → OverridesBadly rows found
    bad strict differs = (m, record { above = class_below; strict = strict; named = sym name_is; takes = sym params_are; i = x.k; j = x.j; own = x.found_row; over = x.row; visible = visible }, inr (inr (inl differs)))

    -- of the prelude's methods nothing is above
    prelude_top : found.class ≡ top_key (codes "Thread") → found.class ≢ m.class → ⊥
    prelude_top is strict =
        let below = subst (λ (c : ClassKey). IsSubclass rows c m.class) is class_below in
        let four : below.c ≡ 4 = are.one_each (class_decl (top_key (codes "Thread"))) below.c 4 below.below thread_class in
        elim (above_thread below.climbs.chain below.d (subst (λ (n : ℕ). IsChain es n below.climbs.chain) four below.climbs.goes_up) below.climbs.among) [
          | inl same ↦ strict (is ∙ class_at (top_key (codes "Thread")) m.class 4 thread_class (subst (λ (n : ℕ). IsRowOf rows (class_decl m.class) n) (sym same) below.over))
          | inr same ↦ object_methods m x.j x.row (class_at m.class object_key 0 (subst (λ (n : ℕ). IsRowOf rows (class_decl m.class) n) (sym same) below.over) object_row)
        ]

    type_same : x.found_row.row.type ≡ x.row.row.type
    type_same = by (same_class found.class m.class) refl
      where
        strict_case : found.class ≢ m.class → x.found_row.row.type ≡ x.row.row.type
        strict_case strict = elim (same_type_or x.found_row.row.type x.row.row.type) [
          | inl same ↦ same
          | inr differs ↦ elim (method_is_of begins units rows program found x.k x.found_row) [
            | inl (inl e) ↦ absurd (prelude_top (ap (λ (z : MethodKey). z.class) e) strict)
            | inl (inr e) ↦ absurd (prelude_top (ap (λ (z : MethodKey). z.class) e) strict)
            | inr (inl (file, n, q, w)) ↦ absurd (overrides found file n q w (bad strict differs))
            | inr (inr (c, file, n, q, w, lacks, e)) ↦ absurd cc
          ]
        ]

        by : (b : Bool) → same_class found.class m.class ≡ b → x.found_row.row.type ≡ x.row.row.type
        by true e = moved_type found m (same_method ((class_decides found.class m.class).0 e)) x.k x.j x.found_row x.row
        by false e = strict_case (λ h. (let t = sym e ∙ (class_decides found.class m.class).1 h in cc))

    pub result_same : R.result found ≡ R.result m
    result_same = run.result found x.k x.found_row ∙ ap (option_and_then run_type) type_same ∙ sym (run.result m x.j x.row)

    pub params_same : R.params found ≡ R.params m
    params_same = run.params found (x.k, x.found_row) ∙ ap (map param_type) params_are ∙ sym (run.params m (x.j, x.row))

  -- ---- all

  below_is : (c d : ClassKey) → IsTrue (R.is_subclass c d) → (c ≡ d) ⊎ IsSubclass rows c d
  below_is c d h = (run.is_subclass c d).0 h

  chain_of : (c d e : ClassKey) → (c ≡ d) ⊎ IsSubclass rows c d → (d ≡ e) ⊎ IsSubclass rows d e → (c ≡ e) ⊎ IsSubclass rows c e
  chain_of c d e (inl same) h = subst (λ (z : ClassKey). (z ≡ e) ⊎ IsSubclass rows z e) (sym same) h
  chain_of c d e (inr x) (inl same) = inr (subst (IsSubclass rows c) same x)
  chain_of c d e (inr x) (inr y) = inr (subclass_trans rows are c d e x y)

  pub sound_rows : SoundRows R
  sound_rows = record {
    same = λ c d h. (run.same_class c d).0 h;
    itself = λ c. (run.is_subclass c c).1 (inl refl);
    chain = λ c d e h g. (run.is_subclass c e).1 (chain_of c d e (below_is c d h) (below_is d e g));
    dispatch = λ c d m found owner below runs has.
        (let x = (run.dispatch d m found).0 runs in
        ((run.has_method found).1 (x.k, x.found_row), (found.class, run.instance found (instance_found d m found x), (run.is_subclass d found.class).1 (inr (class_above d m found x))), params_same d m found x, result_same d m found x));
  }
