-- Which static fields begin with what is written: those that have a row with an initializer. Such values exist, and are one.
use Rattle.std.proofs.Common.{◌≡◌, ℕ, List, [], ◌∷◌, Some, None, Bool, true, false, refl, sym, ap, subst, ◌∙◌, inl, inr}
use Rattle.std.specs.Prelude.{◌⊎◌, slice_get}
use Rattle.std.specs.List.{list_any}
use Rattle.jr_ast.specs.declared.operators.ModWord.{ModWord}
use Rattle.jr_ast.specs.declared.operators.ModWord.TheVariants as word
use Rattle.jr_ast.specs.Tree as tree
use Rattle.jr_ast.specs.MemberTree as syntax
use Rattle.jr_ast.specs.Marks.{exp_mark}
use Rattle.jr_runs.specs.Values.{null}
use Rattle.jr_runs.specs.FirstValues.{First, gives, default_of}
use Rattle.jr_runs.specs.Rows as core
use Rattle.jr_table.specs.declared.kinds.DeclKind.TheVariants as kind
use Rattle.jr_table.specs.Keys.{FieldKey}
use Rattle.jr_table.specs.Decls.{MemberKey, head, field, method, constructor, Decl, field_decl}
use Rattle.jr_table.specs.Rows.{Row}
use Rattle.jr_table.specs.Entries.{IsRowOf, is_static_word, number_of}
use Rattle.jr_table.specs.Conditions.{AreRows}
use Rattle.jr_table.specs.Resolving.{HasWord}
use Rattle.jr_table.specs.HeadRules.{is_static_member}
use Rattle.jr_table.specs.DeclaredItems.{Item, field_item, DeclaredItem, word_at, words, written as written_type, init_declaration, is_simple, member_declarations, declarations_of}
use Rattle.jr_table.specs.ProgramRows.{AreProgramRows}
use Rattle.jr_table.specs.Faults.{IsClean}
use Rattle.jr_table.specs.Errors.{Part, class_part, member_part}
use Rattle.jr_table.proofs.RowLaws.{number_stands}
use Rattle.jr_members.specs.WrittenMembers.{WrittenMember, decl_of_member, written_members}
use Rattle.jr_members.specs.WrittenLaws.{IsWritten, AreWritten}
use Rattle.jr_members.proofs.Anywhere.{IsAt, member_written, written_member}
use Rattle.jr_program_laws.proofs.StandsDeclared.{written_sited}
use Rattle.jr_code.specs.RunKeys.{RunKeys}
use Rattle.jr_code.specs.CodedFields.{FirstOf, StaticFirst, HasFirst, AreFirstValues}
use Rattle.jr_code.proofs.RunRowsStand.{row_or}
use Rattle.jr_first_values.proofs.Forms.{value_of, first_value, simple_first}
use Rattle.jr_first_values.proofs.FieldsReached.{IsFieldPart, field_written}
use Rattle.jr_first_values.proofs.WrittenFirsts.{Holds, units_hold, units_firsts}

static_stands : (ws : List ModWord) → list_any is_static_word ws ≡ true → HasWord ws word.Static
static_stands [] h = absurd cc
static_stands (word.Static ∷ ws) h = inl refl
static_stands (word.Public ∷ ws) h = inr (static_stands ws h)
static_stands (word.Protected ∷ ws) h = inr (static_stands ws h)
static_stands (word.Private ∷ ws) h = inr (static_stands ws h)
static_stands (word.Final ∷ ws) h = inr (static_stands ws h)
static_stands (word.Volatile ∷ ws) h = inr (static_stands ws h)
static_stands (word.Synchronized ∷ ws) h = inr (static_stands ws h)

-- ---- a static field with an initializer, as a tree

module _ {A : Type 0} (begins : A → ℕ → ℕ) where
  abbrev pub StaticInit : syntax.Member A → Type 0
  StaticInit (syntax.field m mods t w (Some e)) = is_static_member begins mods ≡ true
  StaticInit (syntax.field m mods t w None) = ⊥
  StaticInit (syntax.method m mods t w ps body) = ⊥
  StaticInit (syntax.constructor m mods w ps args body) = ⊥
  StaticInit (syntax.inner m c) = ⊥

  abbrev pub IsInit : Part A → Type 0
  IsInit (class_part c) = ⊥
  IsInit (member_part x) = StaticInit x

  -- what its initializer stands for; of another part, null
  abbrev pub value_in : syntax.Member A → First RunKeys
  value_in (syntax.field m mods t w (Some e)) = value_of e
  value_in (syntax.field m mods t w None) = gives null
  value_in (syntax.method m mods t w ps body) = gives null
  value_in (syntax.constructor m mods w ps args body) = gives null
  value_in (syntax.inner m c) = gives null

  abbrev pub part_value : Part A → First RunKeys
  part_value (class_part c) = gives null
  part_value (member_part x) = value_in x

  -- by its row
  init_part : (row : Row) (k : MemberKey) (b : ℕ) (p : Part A) → IsFieldPart begins row k b p → list_any is_static_word row.modifiers ≡ true → row.has_init ≡ true → IsInit p
  init_part row k b (class_part c) h static init = absurd h
  init_part row k b (member_part (syntax.field m mods t w (Some e))) h static init = ap (list_any is_static_word) (sym h.0) ∙ static
  init_part row k b (member_part (syntax.field m mods t w None)) h static init = (let e = sym init ∙ h.1 in absurd cc)
  init_part row k b (member_part (syntax.method m mods t w ps body)) h static init = absurd h
  init_part row k b (member_part (syntax.constructor m mods w ps args body)) h static init = absurd h
  init_part row k b (member_part (syntax.inner m c)) h static init = absurd h

  part_init : (row : Row) (k : MemberKey) (b : ℕ) (p : Part A) → IsFieldPart begins row k b p → IsInit p → (list_any is_static_word row.modifiers ≡ true) × (row.has_init ≡ true)
  part_init row k b (class_part c) h is = absurd h
  part_init row k b (member_part (syntax.field m mods t w (Some e))) h is = (ap (list_any is_static_word) h.0 ∙ is, h.1)
  part_init row k b (member_part (syntax.field m mods t w None)) h is = absurd is
  part_init row k b (member_part (syntax.method m mods t w ps body)) h is = absurd h
  part_init row k b (member_part (syntax.constructor m mods w ps args body)) h is = absurd h
  part_init row k b (member_part (syntax.inner m c)) h is = absurd h

-- ---- which fields have a row that is static and has an initializer

module _ (rows : List Row) (are : AreRows rows) where
  pub one_row : (d : Decl) (i j : ℕ) (x : IsRowOf rows d i) (y : IsRowOf rows d j) → x.row ≡ y.row
  one_row d i j x y =
      let n = are.one_each d i j x y in
      let same : Some x.row ≡ Some y.row = sym x.stands ∙ ap (slice_get rows) n ∙ y.stands in
      cc

  pub first_or : (k : FieldKey) → HasFirst rows k ⊎ (HasFirst rows k → ⊥)
  first_or k = elim (row_or rows (field_decl k)) [
    | inl (j, i) ↦ by j i (list_any is_static_word i.row.modifiers) refl i.row.has_init refl
    | inr not ↦ inr (λ h. not (h.number, h.row))
  ]
    where
      by : (j : ℕ) (i : IsRowOf rows (field_decl k) j) (s : Bool) → list_any is_static_word i.row.modifiers ≡ s → (n : Bool) → i.row.has_init ≡ n → HasFirst rows k ⊎ (HasFirst rows k → ⊥)
      by j i true e true f = inl (record { number = j; row = i; static = (j, i, e); init = f })
      by j i false e n f = inr (λ h. let p = sym e ∙ ap (λ (r : Row). list_any is_static_word r.modifiers) (one_row (field_decl k) j h.static.0 i h.static.1) ∙ h.static.2 in absurd cc)
      by j i true e false f = inr (λ h. let p = sym f ∙ ap (λ (r : Row). r.has_init) (one_row (field_decl k) j h.number i h.row) ∙ h.init in absurd cc)

-- ---- they are written so

module _ {A : Type 0} (begins : A → ℕ → ℕ) (units : List (syntax.Unit A)) (rows : List Row) (are : AreRows rows) (program : AreProgramRows (declarations_of begins units) rows) (written : AreWritten begins units rows (written_members begins rows units)) where
  abbrev declarations : List DeclaredItem
  declarations = declarations_of begins units

  abbrev pub Initialized : FieldKey → Type 0
  Initialized k = (file : ℕ) × (b : ℕ) × (p : Part A) × IsWritten begins units file (field k) b p × IsInit begins p

  -- one tree for each key
  one_part : (k : MemberKey) (file b : ℕ) (p : Part A) (number n : ℕ) (q : Part A) → IsWritten begins units file k b p → IsWritten begins units number k n q → p ≡ q
  one_part k file b p number n q h g =
      let v = written.all file k b p h in
      let w = written.all number k n q g in
      let same : v.0 ≡ w.0 = written.one v.0 w.0 v.1 w.1 (v.3 ∙ sym w.3) in
      sym v.5 ∙ ap (λ (z : WrittenMember A). z.part) same ∙ w.5

  pub initialized : (k : FieldKey) → HasFirst rows k → Initialized k
  initialized k h =
      let w = member_written begins units (IsFieldPart begins h.row.row) (field k) (field_written begins units rows program k h.number h.row) in
      let static = ap (λ (r : Row). list_any is_static_word r.modifiers) (one_row rows are (field_decl k) h.number h.static.0 h.row h.static.1) ∙ h.static.2 in
      (w.0, w.1, w.2, w.3, init_part begins h.row.row (field k) w.1 w.2 w.4 static h.init)

  has_first : (k : FieldKey) → Initialized k → HasFirst rows k
  has_first k (file, b, p, is, init) =
      let v = written.all file (field k) b p is in
      let row : IsRowOf rows (field_decl k) v.0.row = number_stands rows (field_decl k) v.0.row (subst (λ (j : MemberKey). number_of rows (decl_of_member j) ≡ Some v.0.row) v.3 (written.row v.0 v.1)) in
      let w = member_written begins units (IsFieldPart begins row.row) (field k) (field_written begins units rows program k v.0.row row) in
      let same : w.2 ≡ p = one_part (field k) w.0 w.1 w.2 file b p w.3 is in
      let has = part_init begins row.row (field k) w.1 p (subst (λ (q : Part A). IsFieldPart begins row.row (field k) w.1 q) same w.4) init in
      record { number = v.0.row; row = row; static = (v.0.row, row, has.0); init = has.1 }

  -- ---- each begins with one thing

  module _ (R : core.Rows RunKeys) (first : FieldKey → First RunKeys) (firsts : AreFirstValues begins rows units R first) where
    held : (k : FieldKey) (p : Part A) → Holds begins first (field k) p → IsInit begins p → first k ≡ part_value begins p
    held k (class_part c) h is = absurd is
    held k (member_part (syntax.field m mods t w (Some e))) h is =
        first_value e (first k) (subst (λ (s : Bool). StaticFirst begins first s k.class (record { mark = w.mark; text = k.name }) e) is h)
    held k (member_part (syntax.field m mods t w None)) h is = absurd is
    held k (member_part (syntax.method m mods t w ps body)) h is = absurd is
    held k (member_part (syntax.constructor m mods w ps args body)) h is = absurd is
    held k (member_part (syntax.inner m c)) h is = absurd is

    pub first_is : (k : FieldKey) (i : Initialized k) → first k ≡ part_value begins i.2
    first_is k (file, b, p, is, init) =
        let here = written_member begins units (IsAt b p) file (field k) b p is (refl, refl) in
        let w = member_written begins units (λ l n q. IsAt b p l n q × Holds begins first l q) (field k) (units_hold begins first (declarations_of begins units) (IsAt b p) units firsts.initializers (field k) here) in
        held k p (subst (λ (q : Part A). Holds begins first (field k) q) w.4.0.1 w.4.1) init

  pub one_first : (R : core.Rows RunKeys) (first other : FieldKey → First RunKeys) → AreFirstValues begins rows units R first → AreFirstValues begins rows units R other → (k : FieldKey) → first k ≡ other k
  one_first R first other mine yours k = elim (first_or rows are k) [
    | inl h ↦ (let i = initialized k h in first_is R first mine k i ∙ sym (first_is R other yours k i))
    | inr not ↦ mine.default k not ∙ sym (yours.default k not)
  ]

  -- ---- there are such values

  module _ (clean : IsClean [] (declarations_of begins units)) (R : core.Rows RunKeys) where
    first_by : (k : FieldKey) → HasFirst rows k ⊎ (HasFirst rows k → ⊥) → First RunKeys
    first_by k (inl h) = part_value begins (initialized k h).2
    first_by k (inr not) = gives (default_of (R.field_type k))

    abbrev first : FieldKey → First RunKeys
    first k = first_by k (first_or rows are k)

    of_written : (k : FieldKey) (i : Initialized k) → first k ≡ part_value begins i.2
    unfolding first_by
    of_written k i = by (first_or rows are k)
      where
        by : (o : HasFirst rows k ⊎ (HasFirst rows k → ⊥)) → first_by k o ≡ part_value begins i.2
        by (inl h) = (let j = initialized k h in ap (part_value begins) (one_part (field k) j.0 j.1 j.2 i.0 i.1 i.2 j.3 i.3))
        by (inr not) = absurd (not (has_first k i))

    -- an initializer of another form is a fault
    simple : (k : FieldKey) (file b : ℕ) (m : A) (mods : List (syntax.Modifier A)) (t : tree.TypeName A) (w : tree.Word A) (e : tree.Exp A) → IsWritten begins units file (field k) b (member_part (syntax.field m mods t w (Some e)))
        → is_static_member begins mods ≡ true → is_simple begins e ≡ true
    unfolding member_declarations
    simple k file b m mods t w e is static = by (is_simple begins e) refl
      where
        by : (s : Bool) → is_simple begins e ≡ s → s ≡ true
        by true same = refl
        by false same =
            let sited = written_sited begins units file (field k) b (member_part (syntax.field m mods t w (Some e))) is in
            let item : Item = field_item (record {
              at = word_at begins (begins m b) w;
              of = sited.0;
              name = w.text;
              modifiers = words begins mods;
              type = written_type begins (begins m b) t;
              init = Some (init_declaration begins (begins m b) e);
            }) in
            let there = sited.2 item (inl refl) in
            absurd (clean kind.StaticInit (record { file = there.1; at = begins (exp_mark e) (begins m b) })
            (there.0, item, record { stands = there.2 }, (static_stands (words begins mods) static, (init_declaration begins (begins m b) e, refl, same, refl))))

    holds : (k : MemberKey) (b : ℕ) (p : Part A) (file : ℕ) → IsWritten begins units file k b p → Holds begins first k p
    holds k b (class_part c) file is = tt
    holds (field k) b (member_part (syntax.field m mods t w (Some e))) file is = by (is_static_member begins mods) refl
      where
        by : (s : Bool) → is_static_member begins mods ≡ s → StaticFirst begins first s k.class (record { mark = w.mark; text = k.name }) e
        by true static = subst (λ (x : First RunKeys). FirstOf e x) (sym (of_written k (file, b, member_part (syntax.field m mods t w (Some e)), is, static))) (simple_first begins e (simple k file b m mods t w e is static))
        by false other = tt
    holds (head k) b (member_part (syntax.field m mods t w (Some e))) file is = tt
    holds (method k) b (member_part (syntax.field m mods t w (Some e))) file is = tt
    holds (constructor k) b (member_part (syntax.field m mods t w (Some e))) file is = tt
    holds k b (member_part (syntax.field m mods t w None)) file is = tt
    holds k b (member_part (syntax.method m mods t w ps body)) file is = tt
    holds k b (member_part (syntax.constructor m mods w ps args body)) file is = tt
    holds k b (member_part (syntax.inner m c)) file is = tt

    default : (k : FieldKey) → (HasFirst rows k → ⊥) → first k ≡ gives (default_of (R.field_type k))
    unfolding first_by
    default k none = by (first_or rows are k)
      where
        by : (o : HasFirst rows k ⊎ (HasFirst rows k → ⊥)) → first_by k o ≡ gives (default_of (R.field_type k))
        by (inl h) = absurd (none h)
        by (inr not) = refl

    pub firsts_stand : (first : FieldKey → First RunKeys) × AreFirstValues begins rows units R first
    firsts_stand = (
      first,
      record {
        initializers = units_firsts begins first (declarations_of begins units) units (λ k b p h.
            let w = member_written begins units (IsAt b p) k h in
            subst (λ (q : Part A). Holds begins first k q) w.4.1 (holds k w.1 w.2 w.0 w.3));
        default = default;
      },
    )
