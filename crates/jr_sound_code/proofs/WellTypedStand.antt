-- The resolved program that sound sources are is well typed.
use Rattle.std.proofs.Common.{◌≡◌, ℕ, zero, suc, List, [], ◌∷◌, length, map, Option, Some, None, false, refl, sym, ap, subst, ◌∙◌, inl, inr}
use Rattle.std.specs.Prelude.{◌⊎◌, slice_get, option_map, IsTrue, codes}
use Rattle.std.specs.List.{list_any}
use Rattle.jr_ast.specs.Tree as tree
use Rattle.jr_ast.specs.StatementTree as statement
use Rattle.jr_ast.specs.MemberTree as syntax
use Rattle.jr_grammar.specs.MemberShape.{UnitShaped}
use Rattle.jr_runs.specs.Core as core
use Rattle.jr_runs.specs.MemberTranslation.{no_code}
use Rattle.jr_runs.specs.Typing.{CodeTyped, MethodTyped, WellTyped}
use Rattle.jr_table.specs.Keys.{ClassKey, MethodKey, CtorKey, Ty, void}
use Rattle.jr_table.specs.Decls.{MemberKey, head, method, constructor, method_decl, constructor_decl}
use Rattle.jr_table.specs.Rows.{Row}
use Rattle.jr_table.specs.Prelude.{thread_key, thread_row}
use Rattle.jr_ast.specs.declared.operators.ModWord.TheVariants as word
use Rattle.jr_table.specs.Entries.{IsRowOf, is_static_word}
use Rattle.jr_table.specs.Conditions.{AreRows}
use Rattle.jr_table.specs.LookupLaws.{EachHasOne, KeysAreFound}
use Rattle.jr_table.specs.HeadRules.{OverridesBadly}
use Rattle.jr_table.specs.DeclaredItems.{DeclaredParam, Item, method_item, DeclaredItem, class_key, writes_ctor, word_at, words, written as as_written, param_declaration, member_declarations, declarations_of}
use Rattle.jr_table.specs.ProgramRows.{MeanTypes, MeansResult, IsMethodRow, AreProgramRows}
use Rattle.jr_table.specs.Errors.{Part, class_part, member_part, Declares, InClass, InMembers, InInner, InClasses}
use Rattle.jr_table.specs.declared.rules.Rule.TheVariants as rule
use Rattle.jr_build_rows.proofs.Apart.{In, in_stands}
use Rattle.jr_members.specs.WrittenMembers.{written_members}
use Rattle.jr_members.specs.WrittenLaws.{IsWritten, AreWritten}
use Rattle.jr_members.proofs.Anywhere.{IsAt}
use Rattle.jr_members.proofs.DeclarationRows.{once, not_reserved}
use Rattle.jr_members.proofs.Meaning.{one_meanings}
use Rattle.jr_program_laws.proofs.RowsOfDeclarations.{gives}
use Rattle.jr_program_laws.proofs.StandsDeclared.{StandsDeclared, written_sited}
use Rattle.jr_code.specs.RunKeys.{RunKeys}
use Rattle.jr_code.specs.RunRows.{param_type}
use Rattle.jr_code.specs.CodedStatements.{StatementCode}
use Rattle.jr_code.specs.CodedMembers.{DefaultCoded, OneCoded, ClassCoded, MembersCoded, InnerCoded, ClassesCoded, UnitsCoded}
use Rattle.jr_code.specs.Programs.{IsCodeOf}
use Rattle.jr_sound_code.proofs.MembersStand.{Sound}
use Rattle.jr_sound_code.proofs.Meeting.{Meets, fields_sound, classes_meet}
use Rattle.jr_sound_code.proofs.Fitting.{RunTy, Proper}
use Rattle.jr_sound_code.proofs.Unwritten.{prelude_row}
use Rattle.jr_sound_code.proofs.RowsProper.{means_proper, rows_proper}
use Rattle.jr_sound_code.proofs.Reached.{LacksCtor, method_is_of, ctor_is_of}
use Rattle.jr_sound_code.proofs.SoundRowsStand.{sound_rows}
use Rattle.jr_sound_code.proofs.TypedMembers.{InitsTyped, inits_typed, constructor_typed, default_typed, MethodKnown, method_typed}

mean_length : {A : Type 0} (ds : List DeclaredItem) (c : ClassKey) (f : syntax.Param A → DeclaredParam) (ps : List (syntax.Param A)) (ts : List Ty) → MeanTypes ds c (map f ps) ts → length ps ≡ length ts
mean_length ds c f [] [] h = refl
mean_length ds c f [] (t ∷ ts) h = absurd h
mean_length ds c f (p ∷ ps) [] h = absurd h
mean_length ds c f (p ∷ ps) (t ∷ ts) h = ap suc (mean_length ds c f ps ts h.1)

module _ {A : Type 0} (begins ends : A → ℕ → ℕ) (rows : List Row) (are : AreRows rows) (each : EachHasOne rows) (found : KeysAreFound rows) (super_at : MemberKey → ℕ) (units : List (syntax.Unit A))
    (program : AreProgramRows (declarations_of begins units) rows) (written : AreWritten begins units rows (written_members begins rows units))
    (shaped : (n : ℕ) (u : syntax.Unit A) → slice_get units n ≡ Some u → UnitShaped u)
    (sound : (file : ℕ) (k : MemberKey) (b : ℕ) (p : Part A) → IsWritten begins units file k b p → Sound begins rows super_at k b p)
    (P : core.Program RunKeys) (is : IsCodeOf begins ends rows super_at units P) where
  abbrev ds : List DeclaredItem
  ds = declarations_of begins units

  abbrev InitsAre : ClassKey → List StatementCode → Type 0
  InitsAre of ss = InitsTyped begins ends rows are each found P.rows is.declarations (rows_proper ds rows program) super_at of ss

  -- ---- what is coded where a member is written

  abbrev CodedAt : MemberKey → ℕ → Part A → Type 0
  CodedAt k b (class_part (syntax.class m mods w t ms)) = (o : Option (List ℕ)) × (k ≡ head (class_key begins o w.text)) × (inits : List StatementCode) × InitsAre (class_key begins o w.text) inits
      × (writes_ctor begins ms ≡ false → DefaultCoded begins ends rows super_at (class_key begins o w.text) inits (P.constructor (record { class = class_key begins o w.text; params = [] })))
  CodedAt k b (member_part x) = (of : ClassKey) × (inits : List StatementCode) × Declares begins ds b of x k × InitsAre of inits × OneCoded begins ends rows super_at ds P of b inits x

  module _ (n : ℕ) (q : Part A) (k : MemberKey) where
    moved : (base : ℕ) (p : Part A) → base ≡ n → p ≡ q → CodedAt k base p → CodedAt k n q
    moved base p e f h = subst (λ (i : ℕ). CodedAt k i q) e (subst (λ (x : Part A). CodedAt k base x) f h)

    mutual
      unfolding ClassCoded MembersCoded InnerCoded InClass InMembers InInner

      class_at : (b : ℕ) (o : Option (List ℕ)) (c : syntax.Class A) → ClassCoded begins ends rows super_at ds P b o c → ((j : MemberKey) (i : ℕ) (p : Part A) → InClass begins ds (IsAt i p) b o c j → Sound begins rows super_at j i p)
          → InClass begins ds (IsAt n q) b o c k → CodedAt k n q
      class_at b o (syntax.class m mods w t ms) (inits, code, default, members) all (inl (key, (e, f))) = moved b (class_part (syntax.class m mods w t ms)) e f (
        o,
        key,
        inits,
        inits_typed begins ends rows are each found P.rows is.declarations (rows_proper ds rows program) super_at (class_key begins o w.text) (begins m b) ms
            (fields_sound begins rows super_at ds (begins m b) (class_key begins o w.text) ms (λ j i p h. all j i p (inr h))) inits code,
        default,
      )
      class_at b o (syntax.class m mods w t ms) (inits, code, default, members) all (inr h) = members_at (begins m b) (class_key begins o w.text) inits
          (inits_typed begins ends rows are each found P.rows is.declarations (rows_proper ds rows program) super_at (class_key begins o w.text) (begins m b) ms
          (fields_sound begins rows super_at ds (begins m b) (class_key begins o w.text) ms (λ j i p g. all j i p (inr g))) inits code) ms members (λ j i p g. all j i p (inr g)) h

      members_at : (b : ℕ) (of : ClassKey) (inits : List StatementCode) → InitsAre of inits → (xs : syntax.Members A) → MembersCoded begins ends rows super_at ds P b of inits xs
          → ((j : MemberKey) (i : ℕ) (p : Part A) → InMembers begins ds (IsAt i p) b of xs j → Sound begins rows super_at j i p) → InMembers begins ds (IsAt n q) b of xs k → CodedAt k n q
      members_at b of inits ready syntax.end coded all h = absurd h
      members_at b of inits ready (syntax.more x xs) (inner, one, rest) all (inl (inl (d, (e, f)))) = moved b (member_part x) e f (of, inits, d, ready, one)
      members_at b of inits ready (syntax.more x xs) (inner, one, rest) all (inl (inr h)) = inner_at b of x inner (λ j i p g. all j i p (inl (inr g))) h
      members_at b of inits ready (syntax.more x xs) (inner, one, rest) all (inr h) = members_at b of inits ready xs rest (λ j i p g. all j i p (inr g)) h

      inner_at : (b : ℕ) (of : ClassKey) (x : syntax.Member A) → InnerCoded begins ends rows super_at ds P b of x → ((j : MemberKey) (i : ℕ) (p : Part A) → InInner begins ds (IsAt i p) b of x j → Sound begins rows super_at j i p)
          → InInner begins ds (IsAt n q) b of x k → CodedAt k n q
      inner_at b of (syntax.inner m c) coded all h = class_at (begins m b) (Some of.name) c coded all h
      inner_at b of (syntax.field m mods t w init) coded all h = absurd h
      inner_at b of (syntax.method m mods t w ps body) coded all h = absurd h
      inner_at b of (syntax.constructor m mods w ps args body) coded all h = absurd h

    classes_at : (b : ℕ) (cs : List (syntax.Class A)) → ClassesCoded begins ends rows super_at ds P b cs → ((j : MemberKey) (i : ℕ) (p : Part A) → InClasses begins ds (IsAt i p) b cs j → Sound begins rows super_at j i p)
        → InClasses begins ds (IsAt n q) b cs k → CodedAt k n q
    classes_at b [] coded all h = absurd h
    classes_at b (c ∷ cs) coded all (inl h) = class_at b None c coded.0 (λ j i p g. all j i p (inl g)) h
    classes_at b (c ∷ cs) coded all (inr h) = classes_at b cs coded.1 (λ j i p g. all j i p (inr g)) h

  unit_coded : (us : List (syntax.Unit A)) → UnitsCoded begins ends rows super_at ds P us → (i : ℕ) (u : syntax.Unit A) → slice_get us i ≡ Some u → ClassesCoded begins ends rows super_at ds P (begins u.mark 0) u.classes
  unit_coded [] coded i u e = absurd cc
  unit_coded (v ∷ us) coded zero u e = let same : v ≡ u = cc in subst (λ (x : syntax.Unit A). ClassesCoded begins ends rows super_at ds P (begins x.mark 0) x.classes) same coded.0
  unit_coded (v ∷ us) coded (suc i) u e = unit_coded us coded.1 i u e

  coded_at : (file : ℕ) (k : MemberKey) (n : ℕ) (q : Part A) → IsWritten begins units file k n q → CodedAt k n q
  coded_at file k n q w = classes_at n q k (begins w.unit.mark 0) w.unit.classes (unit_coded units is.members file w.unit w.stands)
      (λ j i p h. sound file j i p (record { unit = w.unit; stands = w.stands; writes = h })) w.writes

  meets : (file : ℕ) (k : MemberKey) (n : ℕ) (q : Part A) → IsWritten begins units file k n q → Meets begins rows super_at ds k n q
  meets file k n q w = classes_meet begins rows super_at ds n q (begins w.unit.mark 0) w.unit.classes k (shaped file w.unit w.stands)
      (λ j i p h. sound file j i p (record { unit = w.unit; stands = w.stands; writes = h })) w.writes

  no_override : (k : MethodKey) (n : ℕ) (q : Part A) → Meets begins rows super_at ds (method k) n q → Sound begins rows super_at (method k) n q → OverridesBadly rows k → ⊥
  no_override k n (class_part (syntax.class m mods w t ms)) (o, nested, key, shape, fields) clean bad = absurd cc
  no_override k n (member_part (syntax.field m mods t w init)) (of, nested, name, key, shape) clean bad = absurd cc
  no_override k n (member_part (syntax.method m mods t w ps body)) h clean bad = clean _ rule.Override (inl (refl, bad))
  no_override k n (member_part (syntax.constructor m mods w ps args body)) (of, nested, name, (ts, mean, key), shape) clean bad = absurd cc
  no_override k n (member_part (syntax.inner m c)) (of, nested, name, key, shape) clean bad = key

  overrides : (k : MethodKey) (file n : ℕ) (q : Part A) → IsWritten begins units file (method k) n q → OverridesBadly rows k → ⊥
  overrides k file n q w bad = no_override k n q (meets file (method k) n q w) (sound file (method k) n q w) bad

  -- ---- methods

  same_types : (c : ClassKey) (ps : List DeclaredParam) (ts us : List Ty) → MeanTypes ds c ps ts → MeanTypes ds c ps us → ts ≡ us
  same_types c ps ts us a b = one_meanings ds (once ds rows are program) (not_reserved ds rows are program) c ps ts us a b

  known_by : (k : MethodKey) (b : ℕ) (m : A) (mods : List (syntax.Modifier A)) (t : Option (tree.TypeName A)) (w : tree.Word A) (ps : List (syntax.Param A)) (body : statement.Stmts A)
      → StandsDeclared begins ds (method k) b (member_part (syntax.method m mods t w ps body)) → MethodKnown begins ends rows are each found P.rows is.declarations (rows_proper ds rows program) super_at k mods t ps
  unfolding member_declarations
  known_by k b m mods t w ps body (of, (ts, mean, key), all) = by (gives ds rows program stands.0 stands.1 item stands.2)
    where
      item : Item
      item = method_item (record { at = word_at begins (begins m b) w; of = of; name = w.text; modifiers = words begins mods; result = option_map (as_written begins (begins m b)) t; params = map (param_declaration begins (begins m b)) ps })

      stands : (i : ℕ) × (file : ℕ) × (slice_get (declarations_of begins units) i ≡ Some (record { file = file; item = method_item (record { at = word_at begins (begins m b) w; of = of; name = w.text; modifiers = words begins mods; result = option_map (as_written begins (begins m b)) t; params = map (param_declaration begins (begins m b)) ps }) }))
      stands = all _ (inl refl)

      key_is : k ≡ record { class = of; name = w.text; params = ts }
      key_is = cc

      result_is : (o : Option (tree.TypeName A)) (r : Row) (u : Ty) → r.type ≡ Some u → MeansResult (declarations_of begins units) of (option_map (as_written begins (begins m b)) o) u
          → ((o ≡ None) × (r.type ≡ Some void)) ⊎ ((n : tree.TypeName A) × (v : Ty) × (o ≡ Some n) × (r.type ≡ Some v) × Proper v)
      result_is None r u type h = inl (refl, type ∙ ap Some h)
      result_is (Some n) r u type h = inr (n, u, refl, type, means_proper (declarations_of begins units) of (as_written begins (begins m b) n) u h)

      by : (r : Row) × In rows r × IsMethodRow (declarations_of begins units) (record { at = word_at begins (begins m b) w; of = of; name = w.text; modifiers = words begins mods; result = option_map (as_written begins (begins m b)) t; params = map (param_declaration begins (begins m b)) ps }) r
          → MethodKnown begins ends rows are each found P.rows is.declarations (rows_proper (declarations_of begins units) rows program) super_at k mods t ps
      by (r, inside, row) =
          let at = in_stands rows r inside in
          let types : row.params ≡ ts = same_types of (map (param_declaration begins (begins m b)) ps) row.params ts row.mean mean in
          let declares : r.decl ≡ method_decl k = ap (λ (z : Row). z.decl) row.is ∙ ap (λ (us : List Ty). method_decl (record { class = of; name = w.text; params = us })) types ∙ ap method_decl (sym key_is) in
          let this : IsRowOf rows (method_decl k) at.0 = record { row = r; stands = at.1; declares = declares } in
          let modifiers : r.modifiers ≡ words begins mods = ap (λ (z : Row). z.modifiers) row.is in
          record {
            number = at.0;
            row = this;
            words = ((λ e. (at.0, this, ap (list_any is_static_word) modifiers ∙ e)), (λ e. (at.0, this, ap (list_any is_static_word) modifiers ∙ e)));
            count = mean_length (declarations_of begins units) of (param_declaration begins (begins m b)) ps ts mean ∙ ap (λ (z : MethodKey). length z.params) (sym key_is);
            result = result_is t r row.result (ap (λ (z : Row). z.type) row.is) row.means;
          }

  method_by : (k : MethodKey) (n : ℕ) (q : Part A) → CodedAt (method k) n q → Sound begins rows super_at (method k) n q → StandsDeclared begins ds (method k) n q → MethodTyped P.rows (P.rows.owner k) (P.rows.params k) (P.rows.result k) (P.method k)
  method_by k n (class_part (syntax.class m mods w t ms)) (o, key, inits, ready, default) clean sited = absurd cc
  method_by k n (member_part (syntax.field m mods t w init)) (of, inits, key, ready, one) clean sited = absurd cc
  method_by k n (member_part (syntax.method m mods t w ps body)) (of, inits, key, ready, one) clean sited =
      method_typed begins ends rows are each found P.rows is.declarations (rows_proper ds rows program) super_at k mods t ps (known_by k n m mods t w ps body sited) n m w body clean (P.method k) (one.0 k key)
  method_by k n (member_part (syntax.constructor m mods w ps args body)) (of, inits, (ts, mean, key), ready, one) clean sited = absurd cc
  method_by k n (member_part (syntax.inner m c)) (of, inits, key, ready, one) clean sited = absurd key

  run_row : IsRowOf rows (method_decl (thread_key (codes "run"))) 6
  run_row = prelude_row rows are 6 (thread_row (word.Public ∷ []) (codes "run")) (method_decl (thread_key (codes "run"))) refl refl

  start_row : IsRowOf rows (method_decl (thread_key (codes "start"))) 7
  start_row = prelude_row rows are 7 (thread_row (word.Public ∷ []) (codes "start")) (method_decl (thread_key (codes "start"))) refl refl

  -- the prelude's members do nothing
  nothing_typed : (C : Option ClassKey) (Ts : List RunTy) (T : Option RunTy) → Ts ≡ [] → T ≡ None → CodeTyped P.rows C Ts T no_code
  nothing_typed C Ts T none void_is = record { count = ap length (sym none); body = tt; completes = λ U e h. (let p : None ≡ Some U = sym void_is ∙ e in cc) }

  run_typed : MethodTyped P.rows (P.rows.owner (thread_key (codes "run"))) (P.rows.params (thread_key (codes "run"))) (P.rows.result (thread_key (codes "run"))) (P.method (thread_key (codes "run")))
  unfolding run_row prelude_row
  run_typed = subst (MethodTyped P.rows (P.rows.owner (thread_key (codes "run"))) (P.rows.params (thread_key (codes "run"))) (P.rows.result (thread_key (codes "run")))) (sym is.prelude.run)
      (nothing_typed (P.rows.owner (thread_key (codes "run"))) (P.rows.params (thread_key (codes "run"))) (P.rows.result (thread_key (codes "run"))) (is.declarations.params (thread_key (codes "run")) (6, run_row)) (is.declarations.result (thread_key (codes "run")) 6 run_row))

  start_typed : MethodTyped P.rows (P.rows.owner (thread_key (codes "start"))) (P.rows.params (thread_key (codes "start"))) (P.rows.result (thread_key (codes "start"))) (P.method (thread_key (codes "start")))
  unfolding start_row prelude_row
  start_typed = subst (MethodTyped P.rows (P.rows.owner (thread_key (codes "start"))) (P.rows.params (thread_key (codes "start"))) (P.rows.result (thread_key (codes "start")))) (sym is.prelude.start)
      (is.declarations.result (thread_key (codes "start")) 7 start_row)

  methods : (k : MethodKey) → IsTrue (P.rows.has_method k) → MethodTyped P.rows (P.rows.owner k) (P.rows.params k) (P.rows.result k) (P.method k)
  methods k has = by ((is.declarations.has_method k).0 has)
    where
      by : (j : ℕ) × IsRowOf rows (method_decl k) j → MethodTyped P.rows (P.rows.owner k) (P.rows.params k) (P.rows.result k) (P.method k)
      by (j, i) = elim (method_is_of begins units rows program k j i) [
        | inl (inl e) ↦ subst (λ (z : MethodKey). MethodTyped P.rows (P.rows.owner z) (P.rows.params z) (P.rows.result z) (P.method z)) (sym e) run_typed
        | inl (inr e) ↦ subst (λ (z : MethodKey). MethodTyped P.rows (P.rows.owner z) (P.rows.params z) (P.rows.result z) (P.method z)) (sym e) start_typed
        | inr (inl (file, n, q, w)) ↦ method_by k n q (coded_at file (method k) n q w) (sound file (method k) n q w) (written_sited begins units file (method k) n q w)
        | inr (inr (c, file, n, q, w, lacks, e)) ↦ absurd cc
      ]

  -- ---- constructors

  abbrev CtorTyped : CtorKey → Type 0
  CtorTyped q = CodeTyped P.rows (Some (P.rows.constructor_class q)) (P.rows.constructor_params q) None (P.constructor q)

  ctor_by : (q : CtorKey) (j : ℕ) → IsRowOf rows (constructor_decl q) j → (n : ℕ) (p : Part A) → CodedAt (constructor q) n p → Sound begins rows super_at (constructor q) n p → CtorTyped q
  ctor_by q j i n (class_part (syntax.class m mods w t ms)) (o, key, inits, ready, default) clean = absurd cc
  ctor_by q j i n (member_part (syntax.field m mods t w init)) (of, inits, key, ready, one) clean = absurd cc
  ctor_by q j i n (member_part (syntax.method m mods t w ps body)) (of, inits, (ts, mean, key), ready, one) clean = absurd cc
  ctor_by q j i n (member_part (syntax.constructor m mods w ps args body)) (of, inits, (ts, mean, key), ready, one) clean =
      let same : q ≡ record { class = of; params = ts } = cc in
      let class_is : of ≡ q.class = ap (λ (z : CtorKey). z.class) (sym same) in
      constructor_typed begins ends rows are each found P.rows is.declarations (rows_proper ds rows program) super_at q j i n inits (subst (λ (c : ClassKey). InitsAre c inits) class_is ready) m mods w ps args body
      (mean_length ds of (param_declaration begins (begins m n)) ps ts mean ∙ ap (λ (z : CtorKey). length z.params) (sym same)) clean (P.constructor q) (one.1 q (ts, mean, key))
  ctor_by q j i n (member_part (syntax.inner m c)) (of, inits, key, ready, one) clean = absurd key

  default_by : (c : ClassKey) (j : ℕ) → IsRowOf rows (constructor_decl (record { class = c; params = [] })) j → (n : ℕ) (p : Part A) → LacksCtor begins ds p → CodedAt (head c) n p → CtorTyped (record { class = c; params = [] })
  default_by c j i n (class_part (syntax.class m mods w t ms)) lacks (o, key, inits, ready, default) =
      let same : c ≡ class_key begins o w.text = cc in
      default_typed begins ends rows are each found P.rows is.declarations (rows_proper ds rows program) super_at c j i inits (subst (λ (z : ClassKey). InitsAre z inits) (sym same) ready) (P.constructor (record { class = c; params = [] }))
      (subst (λ (z : ClassKey). DefaultCoded begins ends rows super_at z inits (P.constructor (record { class = z; params = [] }))) (sym same) (default lacks))
  default_by c j i n (member_part x) lacks coded = absurd lacks

  empty_ctor : (q : CtorKey) (j : ℕ) → IsRowOf rows (constructor_decl q) j → q.params ≡ [] → P.constructor q ≡ no_code → CtorTyped q
  empty_ctor q j i none code = subst (CodeTyped P.rows (Some (P.rows.constructor_class q)) (P.rows.constructor_params q) None) (sym code)
      (nothing_typed (Some (P.rows.constructor_class q)) (P.rows.constructor_params q) None (is.declarations.constructor_params q (j, i) ∙ ap (map param_type) none) refl)

  constructors : (q : CtorKey) → IsTrue (P.rows.has_constructor q) → CtorTyped q
  constructors q has = by ((is.declarations.has_constructor q).0 has)
    where
      by : (j : ℕ) × IsRowOf rows (constructor_decl q) j → CtorTyped q
      by (j, i) = elim (ctor_is_of begins units rows program q j i) [
        | inl (inl e) ↦ empty_ctor q j i (ap (λ (z : CtorKey). z.params) e) (ap P.constructor e ∙ is.prelude.object)
        | inl (inr e) ↦ empty_ctor q j i (ap (λ (z : CtorKey). z.params) e) (ap P.constructor e ∙ is.prelude.thread)
        | inr (inl (file, n, p, w)) ↦ ctor_by q j i n p (coded_at file (constructor q) n p w) (sound file (constructor q) n p w)
        | inr (inr (c, file, n, p, w, lacks, e)) ↦ (let same : q ≡ record { class = c; params = [] } = cc in
            subst (λ (z : CtorKey). CtorTyped z) (sym same) (default_by c j (subst (λ (z : CtorKey). IsRowOf rows (constructor_decl z) j) same i) n p lacks (coded_at file (head c) n p w)))
      ]

  pub well_typed : WellTyped P
  well_typed = record {
    rows = sound_rows begins units rows are program written P.rows is.declarations overrides;
    methods = methods;
    constructors = constructors;
  }
