-- Each field that has a row is written, with the row's modifiers, and with an initializer where the row tells one.
use Rattle.std.proofs.Common.{◌≡◌, ℕ, zero, suc, List, [], ◌∷◌, ◌++◌, Option, Some, None, Bool, true, false, refl, sym, ap, subst, ◌∙◌, inl, inr}
use Rattle.std.specs.Prelude.{slice_get, option_map, is_some, ◌⊎◌, codes}
use Rattle.std.proofs.lemmas.List.{append_assoc, map-append}
use Rattle.jr_ast.specs.declared.operators.ModWord.{ModWord}
use Rattle.jr_ast.specs.Tree as tree
use Rattle.jr_ast.specs.StatementTree as statement
use Rattle.jr_ast.specs.MemberTree as syntax
use Rattle.jr_table.specs.Keys.{ClassKey, FieldKey}
use Rattle.jr_table.specs.Decls.{MemberKey, field, Decl, class_decl, field_decl, method_decl, constructor_decl}
use Rattle.jr_table.specs.Rows.{Row}
use Rattle.jr_table.specs.Prelude.{prelude_rows, top_key, object_key, thread_key}
use Rattle.jr_table.specs.Entries.{IsRowOf}
use Rattle.jr_table.specs.DeclaredItems.{Written, init_declaration, Item, class_item, DeclaredItem, class_key, writes_ctor, word_at, words, written, member_declarations, class_declarations, members_declarations, classes_declarations, declarations_from, declarations_of}
use Rattle.jr_table.specs.ProgramRows.{AreRowsOfDeclarations, AreProgramRows}
use Rattle.jr_table.specs.Errors.{Part, class_part, member_part, Declares, InClass, InMembers, InInner, InClasses, InUnits}
use Rattle.jr_members.proofs.Walking.{in_file}

first_or : (own : List Row) (x : Row) (after : List Row) (n : ℕ) (r : Row) → own ≡ x ∷ after → slice_get own n ≡ Some r → (x ≡ r) ⊎ ((m : ℕ) × (slice_get after m ≡ Some r))
first_or own x after n r is at = by n (subst (λ (z : List Row). slice_get z n ≡ Some r) is at)
  where
    by : (n : ℕ) → slice_get (x ∷ after) n ≡ Some r → (x ≡ r) ⊎ ((m : ℕ) × (slice_get after m ≡ Some r))
    by zero e = inl cc
    by (suc m) e = inr (m, e)

module _ {A : Type 0} (begins : A → ℕ → ℕ) (r : Row) where
  -- a field with the row's modifiers, and an initializer where the row tells one
  abbrev pub IsField : syntax.Member A → Type 0
  IsField (syntax.field m mods t w init) = (r.modifiers ≡ words begins mods) × (r.has_init ≡ is_some init)
  IsField (syntax.method m mods t w ps body) = ⊥
  IsField (syntax.constructor m mods w ps args body) = ⊥
  IsField (syntax.inner m c) = ⊥

  abbrev pub IsFieldPart : MemberKey → (base : ℕ) → Part A → Type 0
  IsFieldPart k b (class_part c) = ⊥
  IsFieldPart k b (member_part x) = IsField x

  some_same : (b : ℕ) (o : Option (tree.Exp A)) → is_some (option_map (init_declaration begins b) o) ≡ is_some o
  some_same b None = refl
  some_same b (Some e) = refl

  module _ (declarations : List DeclaredItem) where
    abbrev Reaches : (MemberKey → Type 0) → Type 0
    Reaches In = (k : FieldKey) → r.decl ≡ field_decl k → In (field k)

    -- it is among the rows of these declarations
    record Later (rest : List DeclaredItem) : Type 0 where
      own : List Row
      are : AreRowsOfDeclarations declarations rest own
      number : ℕ
      stands : slice_get own number ≡ Some r

    abbrev Outcome : List DeclaredItem → (MemberKey → Type 0) → Type 0
    Outcome rest In = Reaches In ⊎ Later rest

    wider : (rest : List DeclaredItem) (In Out : MemberKey → Type 0) → ((k : MemberKey) → In k → Out k) → Outcome rest In → Outcome rest Out
    wider rest In Out f (inl h) = inl (λ k e. f (field k) (h k e))
    wider rest In Out f (inr h) = inr h

    -- a row of another sort
    apart : (d : Decl) (In : MemberKey → Type 0) → ((k : FieldKey) → d ≡ field_decl k → ⊥) → r.decl ≡ d → Reaches In
    apart d In none is = λ k e. absurd (none k (sym is ∙ e))

    -- a member itself, or what a member class has
    abbrev OneMember : (b : ℕ) → ClassKey → syntax.Member A → MemberKey → Type 0
    OneMember b of x k = (Declares begins declarations b of x k × IsFieldPart k b (member_part x)) ⊎ InInner begins declarations IsFieldPart b of x k

    module _ (file : ℕ) where
      abbrev Stands : List Item → List DeclaredItem → List Row → Type 0
      Stands items rest own = AreRowsOfDeclarations declarations (in_file file items ++ rest) own

      field_reached : (b : ℕ) (of : ClassKey) (m : A) (mods : List (syntax.Modifier A)) (t : tree.TypeName A) (w : tree.Word A) (init : Option (tree.Exp A)) (rest : List DeclaredItem) (own : List Row) (n : ℕ)
          → Stands (member_declarations begins b of (syntax.field m mods t w init)) rest own → slice_get own n ≡ Some r → Outcome rest (OneMember b of (syntax.field m mods t w init))
      unfolding member_declarations
      field_reached b of m mods t w init rest own n (x, after, is, row_is, are) at = elim (first_or own x after n r is at) [
        | inl same ↦ inl (λ k e.
            let key : FieldKey = record { class = of; name = w.text } in
            let p : field_decl k ≡ field_decl key = sym e ∙ ap (λ (z : Row). z.decl) (sym same ∙ row_is.is) in
            let keys : k ≡ key = cc in
            inl (ap field keys, (ap (λ (z : Row). z.modifiers) (sym same ∙ row_is.is), ap (λ (z : Row). z.has_init) (sym same ∙ row_is.is) ∙ some_same (begins m b) init)))
        | inr (k, there) ↦ inr (record { own = after; are = are; number = k; stands = there })
      ]

      method_reached : (b : ℕ) (of : ClassKey) (m : A) (mods : List (syntax.Modifier A)) (t : Option (tree.TypeName A)) (w : tree.Word A) (ps : List (syntax.Param A)) (body : statement.Stmts A) (rest : List DeclaredItem) (own : List Row) (n : ℕ)
          → Stands (member_declarations begins b of (syntax.method m mods t w ps body)) rest own → slice_get own n ≡ Some r → Outcome rest (OneMember b of (syntax.method m mods t w ps body))
      unfolding member_declarations
      method_reached b of m mods t w ps body rest own n (x, after, is, row_is, are) at = elim (first_or own x after n r is at) [
        | inl same ↦ inl (apart (method_decl (record { class = of; name = w.text; params = row_is.params })) (OneMember b of (syntax.method m mods t w ps body)) (λ k e. cc) (ap (λ (z : Row). z.decl) (sym same ∙ row_is.is)))
        | inr (k, there) ↦ inr (record { own = after; are = are; number = k; stands = there })
      ]

      ctor_reached : (b : ℕ) (of : ClassKey) (m : A) (mods : List (syntax.Modifier A)) (w : tree.Word A) (ps : List (syntax.Param A)) (args : Option (tree.Exps A)) (body : statement.Stmts A) (rest : List DeclaredItem) (own : List Row) (n : ℕ)
          → Stands (member_declarations begins b of (syntax.constructor m mods w ps args body)) rest own → slice_get own n ≡ Some r → Outcome rest (OneMember b of (syntax.constructor m mods w ps args body))
      unfolding member_declarations
      ctor_reached b of m mods w ps args body rest own n (x, after, is, row_is, are) at = elim (first_or own x after n r is at) [
        | inl same ↦ inl (apart (constructor_decl (record { class = of; params = row_is.params })) (OneMember b of (syntax.constructor m mods w ps args body)) (λ k e. cc) (ap (λ (z : Row). z.decl) (sym same ∙ row_is.is)))
        | inr (k, there) ↦ inr (record { own = after; are = are; number = k; stands = there })
      ]

      -- a class, and the constructor that it has where none is written
      head_passed : (key : ClassKey) (place : ℕ) (modifiers : List ModWord) (parent : Option Written) (has : Bool) (rest : List DeclaredItem) (own : List Row) (n : ℕ)
          → AreRowsOfDeclarations declarations (record { file = file; item = class_item (record { at = place; key = key; modifiers = modifiers; parent = parent; has_ctor = has }) } ∷ rest) own → slice_get own n ≡ Some r
          → Outcome rest (λ k. ⊥)
      head_passed key place modifiers parent true rest own n (x, after, is, row_is, are) at = elim (first_or own x after n r is at) [
        | inl same ↦ inl (apart (class_decl key) (λ k. ⊥) (λ k e. cc) (ap (λ (z : Row). z.decl) (sym same) ∙ row_is.decl))
        | inr (k, there) ↦ inr (record { own = after; are = are; number = k; stands = there })
      ]
      head_passed key place modifiers parent false rest own n (x, after, is, row_is, are) at = elim (first_or own x _ n r is at) [
        | inl same ↦ inl (apart (class_decl key) (λ k. ⊥) (λ k e. cc) (ap (λ (z : Row). z.decl) (sym same) ∙ row_is.decl))
        | inr (k, there) ↦ elim (first_or _ _ after k r refl there) [
          | inl same ↦ inl (apart (constructor_decl (record { class = key; params = [] })) (λ k. ⊥) (λ k e. cc) (ap (λ (z : Row). z.decl) (sym same)))
          | inr (l, later) ↦ inr (record { own = after; are = are; number = l; stands = later })
        ]
      ]

      mutual
        unfolding member_declarations class_declarations members_declarations InClass InMembers InInner

        class_reached : (b : ℕ) (o : Option (List ℕ)) (c : syntax.Class A) (rest : List DeclaredItem) (own : List Row) (n : ℕ) → Stands (class_declarations begins b o c) rest own → slice_get own n ≡ Some r
            → Outcome rest (InClass begins declarations IsFieldPart b o c)
        class_reached b o (syntax.class m mods w t ms) rest own n are at =
            let key = class_key begins o w.text in
            elim (head_passed key (word_at begins (begins m b) w) (words begins mods) (option_map (written begins (begins m b)) t) (writes_ctor begins ms) (in_file file (members_declarations begins (begins m b) key ms) ++ rest) own n are at) [
              | inl h ↦ inl (λ k e. absurd (h k e))
              | inr later ↦ wider rest (InMembers begins declarations IsFieldPart (begins m b) key ms) (InClass begins declarations IsFieldPart b o (syntax.class m mods w t ms)) (λ k i. inr i)
                  (members_reached (begins m b) key ms rest later.own later.number later.are later.stands)
            ]

        members_reached : (b : ℕ) (of : ClassKey) (xs : syntax.Members A) (rest : List DeclaredItem) (own : List Row) (n : ℕ) → Stands (members_declarations begins b of xs) rest own → slice_get own n ≡ Some r
            → Outcome rest (InMembers begins declarations IsFieldPart b of xs)
        members_reached b of syntax.end rest own n are at = inr (record { own = own; are = are; number = n; stands = at })
        members_reached b of (syntax.more x xs) rest own n are at =
            elim (member_reached b of x (in_file file (members_declarations begins b of xs) ++ rest) own n (subst (λ (ss : List DeclaredItem). AreRowsOfDeclarations declarations ss own)
            (ap (λ (ss : List DeclaredItem). ss ++ rest) (map-append (λ (i : Item). record { file = file; item = i }) (member_declarations begins b of x) (members_declarations begins b of xs))
            ∙ append_assoc (in_file file (member_declarations begins b of x)) (in_file file (members_declarations begins b of xs)) rest) are) at) [
              | inl h ↦ inl (λ k e. inl (h k e))
              | inr later ↦ wider rest (InMembers begins declarations IsFieldPart b of xs) (InMembers begins declarations IsFieldPart b of (syntax.more x xs)) (λ k i. inr i) (members_reached b of xs rest later.own later.number later.are later.stands)
            ]

        member_reached : (b : ℕ) (of : ClassKey) (x : syntax.Member A) (rest : List DeclaredItem) (own : List Row) (n : ℕ) → Stands (member_declarations begins b of x) rest own → slice_get own n ≡ Some r → Outcome rest (OneMember b of x)
        member_reached b of (syntax.field m mods t w init) rest own n are at = field_reached b of m mods t w init rest own n are at
        member_reached b of (syntax.method m mods t w ps body) rest own n are at = method_reached b of m mods t w ps body rest own n are at
        member_reached b of (syntax.constructor m mods w ps args body) rest own n are at = ctor_reached b of m mods w ps args body rest own n are at
        member_reached b of (syntax.inner m c) rest own n are at =
            wider rest (InClass begins declarations IsFieldPart (begins m b) (Some of.name) c) (OneMember b of (syntax.inner m c)) (λ k i. inr i) (class_reached (begins m b) (Some of.name) c rest own n are at)

      classes_reached : (b : ℕ) (cs : List (syntax.Class A)) (rest : List DeclaredItem) (own : List Row) (n : ℕ) → Stands (classes_declarations begins b cs) rest own → slice_get own n ≡ Some r → Outcome rest (InClasses begins declarations IsFieldPart b cs)
      classes_reached b [] rest own n are at = inr (record { own = own; are = are; number = n; stands = at })
      classes_reached b (c ∷ cs) rest own n are at =
          elim (class_reached b None c (in_file file (classes_declarations begins b cs) ++ rest) own n (subst (λ (ss : List DeclaredItem). AreRowsOfDeclarations declarations ss own)
          (ap (λ (ss : List DeclaredItem). ss ++ rest) (map-append (λ (i : Item). record { file = file; item = i }) (class_declarations begins b None c) (classes_declarations begins b cs))
          ∙ append_assoc (in_file file (class_declarations begins b None c)) (in_file file (classes_declarations begins b cs)) rest) are) at) [
            | inl h ↦ inl (λ k e. inl (h k e))
            | inr later ↦ wider rest (InClasses begins declarations IsFieldPart b cs) (InClasses begins declarations IsFieldPart b (c ∷ cs)) (λ k i. inr i) (classes_reached b cs rest later.own later.number later.are later.stands)
          ]

    units_reached : (file : ℕ) (us : List (syntax.Unit A)) (own : List Row) (n : ℕ) → AreRowsOfDeclarations declarations (declarations_from begins file us) own → slice_get own n ≡ Some r → Reaches (InUnits begins declarations IsFieldPart us)
    units_reached file [] own n are at = absurd (let p = ap (λ (z : List Row). slice_get z n) (sym are) ∙ at in cc)
    units_reached file (u ∷ us) own n are at =
        elim (classes_reached file (begins u.mark 0) u.classes (declarations_from begins (suc file) us) own n are at) [
          | inl h ↦ (λ k e. inl (h k e))
          | inr later ↦ (let h = units_reached (suc file) us later.own later.number later.are later.stands in (λ k e. inr (h k e)))
        ]

-- ---- the prelude declares no field

decl_there : (n : ℕ) (r : Row) (d : Decl) → slice_get prelude_rows n ≡ Some r → r.decl ≡ d → option_map (λ (z : Row). z.decl) (slice_get prelude_rows n) ≡ Some d
decl_there n r d at is = ap (option_map (λ (z : Row). z.decl)) at ∙ ap Some is

prelude_fields : (n : ℕ) (r : Row) (k : FieldKey) → slice_get prelude_rows n ≡ Some r → r.decl ≡ field_decl k → ⊥
prelude_fields zero r k at is = (let p : Some (class_decl (top_key (codes "Object"))) ≡ Some (field_decl k) = decl_there 0 r (field_decl k) at is in cc)
prelude_fields (suc zero) r k at is = (let p : Some (constructor_decl (record { class = object_key; params = [] })) ≡ Some (field_decl k) = decl_there 1 r (field_decl k) at is in cc)
prelude_fields (suc (suc zero)) r k at is = (let p : Some (class_decl (top_key (codes "String"))) ≡ Some (field_decl k) = decl_there 2 r (field_decl k) at is in cc)
prelude_fields (suc (suc (suc zero))) r k at is = (let p : Some (class_decl (top_key (codes "Class"))) ≡ Some (field_decl k) = decl_there 3 r (field_decl k) at is in cc)
prelude_fields (suc (suc (suc (suc zero)))) r k at is = (let p : Some (class_decl (top_key (codes "Thread"))) ≡ Some (field_decl k) = decl_there 4 r (field_decl k) at is in cc)
prelude_fields (suc (suc (suc (suc (suc zero))))) r k at is = (let p : Some (constructor_decl (record { class = top_key (codes "Thread"); params = [] })) ≡ Some (field_decl k) = decl_there 5 r (field_decl k) at is in cc)
prelude_fields (suc (suc (suc (suc (suc (suc zero)))))) r k at is = (let p : Some (method_decl (thread_key (codes "run"))) ≡ Some (field_decl k) = decl_there 6 r (field_decl k) at is in cc)
prelude_fields (suc (suc (suc (suc (suc (suc (suc zero))))))) r k at is = (let p : Some (method_decl (thread_key (codes "start"))) ≡ Some (field_decl k) = decl_there 7 r (field_decl k) at is in cc)
prelude_fields (suc (suc (suc (suc (suc (suc (suc (suc n)))))))) r k at is = cc

front_or : (xs ys : List Row) (n : ℕ) (r : Row) → slice_get (xs ++ ys) n ≡ Some r → (slice_get xs n ≡ Some r) ⊎ ((m : ℕ) × (slice_get ys m ≡ Some r))
front_or [] ys n r at = inr (n, at)
front_or (x ∷ xs) ys zero r at = inl at
front_or (x ∷ xs) ys (suc n) r at = front_or xs ys n r at

-- ---- of a program

module _ {A : Type 0} (begins : A → ℕ → ℕ) (units : List (syntax.Unit A)) (rows : List Row) (program : AreProgramRows (declarations_of begins units) rows) where
  pub field_written : (k : FieldKey) (j : ℕ) (i : IsRowOf rows (field_decl k) j) → InUnits begins (declarations_of begins units) (IsFieldPart begins i.row) units (field k)
  unfolding declarations_of
  field_written k j i = elim (front_or prelude_rows program.0 j i.row (subst (λ (z : List Row). slice_get z j ≡ Some i.row) program.1 i.stands)) [
    | inl at ↦ absurd (prelude_fields j i.row k at i.declares)
    | inr (m, at) ↦ units_reached begins i.row (declarations_of begins units) 0 units program.0 m program.2 at k i.declares
  ]
