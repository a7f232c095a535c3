-- Each method and constructor that has a row is written, or is the constructor that a class has in which none is written, or is of
-- the prelude.
use Rattle.std.proofs.Common.{◌≡◌, ℕ, zero, suc, List, [], ◌∷◌, ◌++◌, Option, Some, None, Bool, true, false, refl, sym, ap, subst, ◌∙◌, inl, inr}
use Rattle.std.specs.Prelude.{slice_get, option_map, ◌⊎◌, codes}
use Rattle.std.proofs.lemmas.List.{append_assoc, map-append}
use Rattle.jr_ast.specs.declared.operators.ModWord.{ModWord}
use Rattle.jr_ast.specs.Tree as tree
use Rattle.jr_ast.specs.StatementTree as statement
use Rattle.jr_ast.specs.MemberTree as syntax
use Rattle.jr_table.specs.Keys.{ClassKey, MethodKey, CtorKey}
use Rattle.jr_table.specs.Decls.{MemberKey, head, method, constructor, Decl, class_decl, field_decl, method_decl, constructor_decl}
use Rattle.jr_table.specs.Rows.{Row}
use Rattle.jr_table.specs.Prelude.{prelude_rows, top_key, object_key, thread_key}
use Rattle.jr_table.specs.Entries.{IsRowOf}
use Rattle.jr_table.specs.DeclaredItems.{Written, Item, class_item, DeclaredItem, class_key, writes_ctor, word_at, words, written, member_declarations, class_declarations, members_declarations, classes_declarations, declarations_from, declarations_of}
use Rattle.jr_table.specs.ProgramRows.{AreRowsOfDeclarations, AreProgramRows}
use Rattle.jr_table.specs.Errors.{Part, class_part, member_part, Declares, InClass, InMembers, InInner, InClasses}
use Rattle.jr_members.specs.WrittenLaws.{IsWritten}
use Rattle.jr_members.proofs.Anywhere.{IsAt}
use Rattle.jr_members.proofs.Walking.{in_file}

-- a row of a method or constructor has one of these keys
abbrev Reaches : Row → (MemberKey → Type 0) → Type 0
Reaches r P = ((k : MethodKey) → r.decl ≡ method_decl k → P (method k)) × ((q : CtorKey) → r.decl ≡ constructor_decl q → P (constructor q))

-- of the rows of these declarations
record Later (declarations rest : List DeclaredItem) (r : Row) : Type 0 where
  own : List Row
  are : AreRowsOfDeclarations declarations rest own
  number : ℕ
  stands : slice_get own number ≡ Some r

abbrev Outcome : List DeclaredItem → List DeclaredItem → Row → (MemberKey → Type 0) → Type 0
Outcome declarations rest r P = Reaches r P ⊎ Later declarations rest r

wider : (declarations rest : List DeclaredItem) (r : Row) (P Q : MemberKey → Type 0) → ((k : MemberKey) → P k → Q k) → Outcome declarations rest r P → Outcome declarations rest r Q
wider declarations rest r P Q f (inl h) = inl ((λ k e. f (method k) (h.0 k e)), (λ q e. f (constructor q) (h.1 q e)))
wider declarations rest r P Q f (inr h) = inr h

first_or : (own : List Row) (x : Row) (after : List Row) (n : ℕ) (r : Row) → own ≡ x ∷ after → slice_get own n ≡ Some r → (x ≡ r) ⊎ ((m : ℕ) × (slice_get after m ≡ Some r))
first_or own x after n r is at = by n (subst (λ (z : List Row). slice_get z n ≡ Some r) is at)
  where
    by : (n : ℕ) → slice_get (x ∷ after) n ≡ Some r → (x ≡ r) ⊎ ((m : ℕ) × (slice_get after m ≡ Some r))
    by zero e = inl cc
    by (suc m) e = inr (m, e)

-- a row of another sort
apart : (r : Row) (d : Decl) (P : MemberKey → Type 0) → ((k : MethodKey) → d ≡ method_decl k → ⊥) → ((q : CtorKey) → d ≡ constructor_decl q → ⊥) → r.decl ≡ d → Reaches r P
apart r d P no_method no_ctor is = ((λ k e. absurd (no_method k (sym is ∙ e))), (λ q e. absurd (no_ctor q (sym is ∙ e))))

module _ {A : Type 0} (begins : A → ℕ → ℕ) (declarations : List DeclaredItem) where
  abbrev pub LacksCtor : Part A → Type 0
  LacksCtor (class_part (syntax.class m mods w t ms)) = writes_ctor begins ms ≡ false
  LacksCtor (member_part x) = ⊥

  -- it is written among these, or a class is in which no constructor is written
  abbrev Reach : ((MemberKey → ℕ → Part A → Type 0) → MemberKey → Type 0) → MemberKey → Type 0
  Reach In k = ((n : ℕ) × (q : Part A) × In (IsAt n q) k) ⊎ ((j : ClassKey) × (n : ℕ) × (q : Part A) × In (IsAt n q) (head j) × LacksCtor q × (k ≡ constructor (record { class = j; params = [] })))

  reach_wider : (In Out : (MemberKey → ℕ → Part A → Type 0) → MemberKey → Type 0) → ((P : MemberKey → ℕ → Part A → Type 0) (k : MemberKey) → In P k → Out P k) → (k : MemberKey) → Reach In k → Reach Out k
  reach_wider In Out f k (inl (n, q, h)) = inl (n, q, f (IsAt n q) k h)
  reach_wider In Out f k (inr (j, n, q, h, lacks, is)) = inr (j, n, q, f (IsAt n q) (head j) h, lacks, is)

  -- a member itself, or what a member class has
  abbrev OneMember : (b : ℕ) → ClassKey → syntax.Member A → (MemberKey → ℕ → Part A → Type 0) → MemberKey → Type 0
  OneMember b of x P k = (Declares begins declarations b of x k × P k b (member_part x)) ⊎ InInner begins declarations P b of x k

  module _ (file : ℕ) where
    abbrev Stands : List Item → List DeclaredItem → List Row → Type 0
    Stands items rest own = AreRowsOfDeclarations declarations (in_file file items ++ rest) own

    field_reached : (b : ℕ) (of : ClassKey) (m : A) (mods : List (syntax.Modifier A)) (t : tree.TypeName A) (w : tree.Word A) (init : Option (tree.Exp A)) (rest : List DeclaredItem) (own : List Row) (n : ℕ) (r : Row)
        → Stands (member_declarations begins b of (syntax.field m mods t w init)) rest own → slice_get own n ≡ Some r → Outcome declarations rest r (Reach (OneMember b of (syntax.field m mods t w init)))
    unfolding member_declarations
    field_reached b of m mods t w init rest own n r (x, after, is, row_is, are) at = elim (first_or own x after n r is at) [
      | inl same ↦ inl (apart r (field_decl (record { class = of; name = w.text })) (Reach (OneMember b of (syntax.field m mods t w init))) (λ k e. cc) (λ q e. cc) (ap (λ (z : Row). z.decl) (sym same ∙ row_is.is)))
      | inr (k, there) ↦ inr (record { own = after; are = are; number = k; stands = there })
    ]

    method_reached : (b : ℕ) (of : ClassKey) (m : A) (mods : List (syntax.Modifier A)) (t : Option (tree.TypeName A)) (w : tree.Word A) (ps : List (syntax.Param A)) (body : statement.Stmts A) (rest : List DeclaredItem) (own : List Row) (n : ℕ) (r : Row)
        → Stands (member_declarations begins b of (syntax.method m mods t w ps body)) rest own → slice_get own n ≡ Some r → Outcome declarations rest r (Reach (OneMember b of (syntax.method m mods t w ps body)))
    unfolding member_declarations
    method_reached b of m mods t w ps body rest own n r (x, after, is, row_is, are) at = elim (first_or own x after n r is at) [
      | inl same ↦ inl (
        (λ k e.
            let key : MethodKey = record { class = of; name = w.text; params = row_is.params } in
            let p : method_decl k ≡ method_decl key = sym e ∙ ap (λ (z : Row). z.decl) (sym same ∙ row_is.is) in
            let keys : k ≡ key = cc in
            inl (b, member_part (syntax.method m mods t w ps body), inl ((row_is.params, row_is.mean, ap method keys), (refl, refl)))),
        (λ q e.
            let key : MethodKey = record { class = of; name = w.text; params = row_is.params } in
            let p : constructor_decl q ≡ method_decl key = sym e ∙ ap (λ (z : Row). z.decl) (sym same ∙ row_is.is) in
            absurd cc),
      )
      | inr (k, there) ↦ inr (record { own = after; are = are; number = k; stands = there })
    ]

    ctor_reached : (b : ℕ) (of : ClassKey) (m : A) (mods : List (syntax.Modifier A)) (w : tree.Word A) (ps : List (syntax.Param A)) (args : Option (tree.Exps A)) (body : statement.Stmts A) (rest : List DeclaredItem) (own : List Row) (n : ℕ) (r : Row)
        → Stands (member_declarations begins b of (syntax.constructor m mods w ps args body)) rest own → slice_get own n ≡ Some r → Outcome declarations rest r (Reach (OneMember b of (syntax.constructor m mods w ps args body)))
    unfolding member_declarations
    ctor_reached b of m mods w ps args body rest own n r (x, after, is, row_is, are) at = elim (first_or own x after n r is at) [
      | inl same ↦ inl (
        (λ k e.
            let key : CtorKey = record { class = of; params = row_is.params } in
            let p : method_decl k ≡ constructor_decl key = sym e ∙ ap (λ (z : Row). z.decl) (sym same ∙ row_is.is) in
            absurd cc),
        (λ q e.
            let key : CtorKey = record { class = of; params = row_is.params } in
            let p : constructor_decl q ≡ constructor_decl key = sym e ∙ ap (λ (z : Row). z.decl) (sym same ∙ row_is.is) in
            let keys : q ≡ key = cc in
            inl (b, member_part (syntax.constructor m mods w ps args body), inl ((row_is.params, row_is.mean, ap constructor keys), (refl, refl)))),
      )
      | inr (k, there) ↦ inr (record { own = after; are = are; number = k; stands = there })
    ]

    -- the constructor that a class has where none is written
    abbrev Default : ClassKey → Bool → MemberKey → Type 0
    Default key has k = (has ≡ false) × (k ≡ constructor (record { class = key; params = [] }))

    head_reached : (key : ClassKey) (place : ℕ) (modifiers : List ModWord) (parent : Option Written) (has : Bool) (rest : List DeclaredItem) (own : List Row) (n : ℕ) (r : Row)
        → AreRowsOfDeclarations declarations (record { file = file; item = class_item (record { at = place; key = key; modifiers = modifiers; parent = parent; has_ctor = has }) } ∷ rest) own → slice_get own n ≡ Some r
        → Outcome declarations rest r (Default key has)
    head_reached key place modifiers parent true rest own n r (x, after, is, row_is, are) at = elim (first_or own x after n r is at) [
      | inl same ↦ inl (apart r (class_decl key) (Default key true) (λ k e. cc) (λ q e. cc) (ap (λ (z : Row). z.decl) (sym same) ∙ row_is.decl))
      | inr (k, there) ↦ inr (record { own = after; are = are; number = k; stands = there })
    ]
    head_reached key place modifiers parent false rest own n r (x, after, is, row_is, are) at = elim (first_or own x _ n r is at) [
      | inl same ↦ inl (apart r (class_decl key) (Default key false) (λ k e. cc) (λ q e. cc) (ap (λ (z : Row). z.decl) (sym same) ∙ row_is.decl))
      | inr (k, there) ↦ elim (first_or _ _ after k r refl there) [
        | inl same ↦ inl (
          (λ j e. let p : constructor_decl (record { class = key; params = [] }) ≡ method_decl j = ap (λ (z : Row). z.decl) same ∙ e in absurd cc),
          (λ q e.
              let unwritten : CtorKey = record { class = key; params = [] } in
              let p : constructor_decl unwritten ≡ constructor_decl q = ap (λ (z : Row). z.decl) same ∙ e in
              let keys : q ≡ unwritten = cc in
              (refl, ap constructor keys)),
        )
        | inr (l, later) ↦ inr (record { own = after; are = are; number = l; stands = later })
      ]
    ]

    mutual
      unfolding member_declarations class_declarations members_declarations InClass InMembers InInner

      class_reached : (b : ℕ) (o : Option (List ℕ)) (c : syntax.Class A) (rest : List DeclaredItem) (own : List Row) (n : ℕ) (r : Row) → Stands (class_declarations begins b o c) rest own → slice_get own n ≡ Some r
          → Outcome declarations rest r (Reach (λ P k. InClass begins declarations P b o c k))
      class_reached b o (syntax.class m mods w t ms) rest own n r are at =
          let key = class_key begins o w.text in
          elim (head_reached key (word_at begins (begins m b) w) (words begins mods) (option_map (written begins (begins m b)) t) (writes_ctor begins ms) (in_file file (members_declarations begins (begins m b) key ms) ++ rest) own n r are at) [
            | inl h ↦ inl ((λ k e. (let d = h.0 k e in inr (key, b, class_part (syntax.class m mods w t ms), inl (refl, (refl, refl)), d.0, d.1))), (λ q e. (let d = h.1 q e in inr (key, b, class_part (syntax.class m mods w t ms), inl (refl, (refl, refl)), d.0, d.1))))
            | inr later ↦ wider declarations rest r (Reach (λ P k. InMembers begins declarations P (begins m b) key ms k)) (Reach (λ P k. InClass begins declarations P b o (syntax.class m mods w t ms) k))
                (reach_wider (λ P k. InMembers begins declarations P (begins m b) key ms k) (λ P k. InClass begins declarations P b o (syntax.class m mods w t ms) k) (λ P k i. inr i))
                (members_reached (begins m b) key ms rest later.own later.number r later.are later.stands)
          ]

      members_reached : (b : ℕ) (of : ClassKey) (xs : syntax.Members A) (rest : List DeclaredItem) (own : List Row) (n : ℕ) (r : Row) → Stands (members_declarations begins b of xs) rest own → slice_get own n ≡ Some r
          → Outcome declarations rest r (Reach (λ P k. InMembers begins declarations P b of xs k))
      members_reached b of syntax.end rest own n r are at = inr (record { own = own; are = are; number = n; stands = at })
      members_reached b of (syntax.more x xs) rest own n r are at =
          elim (member_reached b of x (in_file file (members_declarations begins b of xs) ++ rest) own n r (subst (λ (ss : List DeclaredItem). AreRowsOfDeclarations declarations ss own)
          (ap (λ (ss : List DeclaredItem). ss ++ rest) (map-append (λ (i : Item). record { file = file; item = i }) (member_declarations begins b of x) (members_declarations begins b of xs))
          ∙ append_assoc (in_file file (member_declarations begins b of x)) (in_file file (members_declarations begins b of xs)) rest) are) at) [
            | inl h ↦ inl (
              (λ k e. reach_wider (OneMember b of x) (λ P j. InMembers begins declarations P b of (syntax.more x xs) j) (λ P j i. inl i) (method k) (h.0 k e)),
              (λ q e. reach_wider (OneMember b of x) (λ P j. InMembers begins declarations P b of (syntax.more x xs) j) (λ P j i. inl i) (constructor q) (h.1 q e)),
            )
            | inr later ↦ wider declarations rest r (Reach (λ P k. InMembers begins declarations P b of xs k)) (Reach (λ P k. InMembers begins declarations P b of (syntax.more x xs) k))
                (reach_wider (λ P k. InMembers begins declarations P b of xs k) (λ P k. InMembers begins declarations P b of (syntax.more x xs) k) (λ P k i. inr i)) (members_reached b of xs rest later.own later.number r later.are later.stands)
          ]

      member_reached : (b : ℕ) (of : ClassKey) (x : syntax.Member A) (rest : List DeclaredItem) (own : List Row) (n : ℕ) (r : Row) → Stands (member_declarations begins b of x) rest own → slice_get own n ≡ Some r → Outcome declarations rest r (Reach (OneMember b of x))
      member_reached b of (syntax.field m mods t w init) rest own n r are at = field_reached b of m mods t w init rest own n r are at
      member_reached b of (syntax.method m mods t w ps body) rest own n r are at = method_reached b of m mods t w ps body rest own n r are at
      member_reached b of (syntax.constructor m mods w ps args body) rest own n r are at = ctor_reached b of m mods w ps args body rest own n r are at
      member_reached b of (syntax.inner m c) rest own n r are at = wider declarations rest r (Reach (λ P k. InClass begins declarations P (begins m b) (Some of.name) c k)) (Reach (OneMember b of (syntax.inner m c)))
          (reach_wider (λ P k. InClass begins declarations P (begins m b) (Some of.name) c k) (OneMember b of (syntax.inner m c)) (λ P k i. inr i)) (class_reached (begins m b) (Some of.name) c rest own n r are at)

    classes_reached : (b : ℕ) (cs : List (syntax.Class A)) (rest : List DeclaredItem) (own : List Row) (n : ℕ) (r : Row) → Stands (classes_declarations begins b cs) rest own → slice_get own n ≡ Some r
        → Outcome declarations rest r (Reach (λ P k. InClasses begins declarations P b cs k))
    classes_reached b [] rest own n r are at = inr (record { own = own; are = are; number = n; stands = at })
    classes_reached b (c ∷ cs) rest own n r are at =
        elim (class_reached b None c (in_file file (classes_declarations begins b cs) ++ rest) own n r (subst (λ (ss : List DeclaredItem). AreRowsOfDeclarations declarations ss own)
        (ap (λ (ss : List DeclaredItem). ss ++ rest) (map-append (λ (i : Item). record { file = file; item = i }) (class_declarations begins b None c) (classes_declarations begins b cs))
        ∙ append_assoc (in_file file (class_declarations begins b None c)) (in_file file (classes_declarations begins b cs)) rest) are) at) [
          | inl h ↦ inl (
            (λ k e. reach_wider (λ P j. InClass begins declarations P b None c j) (λ P j. InClasses begins declarations P b (c ∷ cs) j) (λ P j i. inl i) (method k) (h.0 k e)),
            (λ q e. reach_wider (λ P j. InClass begins declarations P b None c j) (λ P j. InClasses begins declarations P b (c ∷ cs) j) (λ P j i. inl i) (constructor q) (h.1 q e)),
          )
          | inr later ↦ wider declarations rest r (Reach (λ P k. InClasses begins declarations P b cs k)) (Reach (λ P k. InClasses begins declarations P b (c ∷ cs) k))
              (reach_wider (λ P k. InClasses begins declarations P b cs k) (λ P k. InClasses begins declarations P b (c ∷ cs) k) (λ P k i. inr i)) (classes_reached b cs rest later.own later.number r later.are later.stands)
        ]

-- ---- the prelude's

decl_there : (n : ℕ) (r : Row) (d : Decl) → slice_get prelude_rows n ≡ Some r → r.decl ≡ d → option_map (λ (z : Row). z.decl) (slice_get prelude_rows n) ≡ Some d
decl_there n r d at is = ap (option_map (λ (z : Row). z.decl)) at ∙ ap Some is

prelude_method : (n : ℕ) (r : Row) (k : MethodKey) → slice_get prelude_rows n ≡ Some r → r.decl ≡ method_decl k → (k ≡ thread_key (codes "run")) ⊎ (k ≡ thread_key (codes "start"))
prelude_method zero r k at is = (let p : Some (class_decl (top_key (codes "Object"))) ≡ Some (method_decl k) = decl_there 0 r (method_decl k) at is in absurd cc)
prelude_method (suc zero) r k at is = (let p : Some (constructor_decl (record { class = object_key; params = [] })) ≡ Some (method_decl k) = decl_there 1 r (method_decl k) at is in absurd cc)
prelude_method (suc (suc zero)) r k at is = (let p : Some (class_decl (top_key (codes "String"))) ≡ Some (method_decl k) = decl_there 2 r (method_decl k) at is in absurd cc)
prelude_method (suc (suc (suc zero))) r k at is = (let p : Some (class_decl (top_key (codes "Class"))) ≡ Some (method_decl k) = decl_there 3 r (method_decl k) at is in absurd cc)
prelude_method (suc (suc (suc (suc zero)))) r k at is = (let p : Some (class_decl (top_key (codes "Thread"))) ≡ Some (method_decl k) = decl_there 4 r (method_decl k) at is in absurd cc)
prelude_method (suc (suc (suc (suc (suc zero))))) r k at is = (let p : Some (constructor_decl (record { class = top_key (codes "Thread"); params = [] })) ≡ Some (method_decl k) = decl_there 5 r (method_decl k) at is in absurd cc)
prelude_method (suc (suc (suc (suc (suc (suc zero)))))) r k at is = inl (let p : Some (method_decl (thread_key (codes "run"))) ≡ Some (method_decl k) = decl_there 6 r (method_decl k) at is in cc)
prelude_method (suc (suc (suc (suc (suc (suc (suc zero))))))) r k at is = inr (let p : Some (method_decl (thread_key (codes "start"))) ≡ Some (method_decl k) = decl_there 7 r (method_decl k) at is in cc)
prelude_method (suc (suc (suc (suc (suc (suc (suc (suc n)))))))) r k at is = absurd cc

prelude_ctor : (n : ℕ) (r : Row) (q : CtorKey) → slice_get prelude_rows n ≡ Some r → r.decl ≡ constructor_decl q → (q ≡ record { class = object_key; params = [] }) ⊎ (q ≡ record { class = top_key (codes "Thread"); params = [] })
prelude_ctor zero r q at is = (let p : Some (class_decl (top_key (codes "Object"))) ≡ Some (constructor_decl q) = decl_there 0 r (constructor_decl q) at is in absurd cc)
prelude_ctor (suc zero) r q at is = inl (let p : Some (constructor_decl (record { class = object_key; params = [] })) ≡ Some (constructor_decl q) = decl_there 1 r (constructor_decl q) at is in cc)
prelude_ctor (suc (suc zero)) r q at is = (let p : Some (class_decl (top_key (codes "String"))) ≡ Some (constructor_decl q) = decl_there 2 r (constructor_decl q) at is in absurd cc)
prelude_ctor (suc (suc (suc zero))) r q at is = (let p : Some (class_decl (top_key (codes "Class"))) ≡ Some (constructor_decl q) = decl_there 3 r (constructor_decl q) at is in absurd cc)
prelude_ctor (suc (suc (suc (suc zero)))) r q at is = (let p : Some (class_decl (top_key (codes "Thread"))) ≡ Some (constructor_decl q) = decl_there 4 r (constructor_decl q) at is in absurd cc)
prelude_ctor (suc (suc (suc (suc (suc zero))))) r q at is = inr (let p : Some (constructor_decl (record { class = top_key (codes "Thread"); params = [] })) ≡ Some (constructor_decl q) = decl_there 5 r (constructor_decl q) at is in cc)
prelude_ctor (suc (suc (suc (suc (suc (suc zero)))))) r q at is = (let p : Some (method_decl (thread_key (codes "run"))) ≡ Some (constructor_decl q) = decl_there 6 r (constructor_decl q) at is in absurd cc)
prelude_ctor (suc (suc (suc (suc (suc (suc (suc zero))))))) r q at is = (let p : Some (method_decl (thread_key (codes "start"))) ≡ Some (constructor_decl q) = decl_there 7 r (constructor_decl q) at is in absurd cc)
prelude_ctor (suc (suc (suc (suc (suc (suc (suc (suc n)))))))) r q at is = absurd cc

front_or : (xs ys : List Row) (n : ℕ) (r : Row) → slice_get (xs ++ ys) n ≡ Some r → (slice_get xs n ≡ Some r) ⊎ ((m : ℕ) × (slice_get ys m ≡ Some r))
front_or [] ys n r at = inr (n, at)
front_or (x ∷ xs) ys zero r at = inl at
front_or (x ∷ xs) ys (suc n) r at = front_or xs ys n r at

-- ---- of a program

module _ {A : Type 0} (begins : A → ℕ → ℕ) (units : List (syntax.Unit A)) where
  -- a file writes it, or a class in which no constructor is written
  abbrev pub Of : MemberKey → Type 0
  Of k = ((file : ℕ) × (n : ℕ) × (q : Part A) × IsWritten begins units file k n q)
      ⊎ ((j : ClassKey) × (file : ℕ) × (n : ℕ) × (q : Part A) × IsWritten begins units file (head j) n q × LacksCtor begins (declarations_of begins units) q × (k ≡ constructor (record { class = j; params = [] })))

  of_file : (file : ℕ) (u : syntax.Unit A) → slice_get units file ≡ Some u → (k : MemberKey) → Reach begins (declarations_of begins units) (λ P j. InClasses begins (declarations_of begins units) P (begins u.mark 0) u.classes j) k → Of k
  of_file file u stands k (inl (n, q, h)) = inl (file, n, q, record { unit = u; stands = stands; writes = h })
  of_file file u stands k (inr (j, n, q, h, lacks, is)) = inr (j, file, n, q, record { unit = u; stands = stands; writes = h }, lacks, is)

  units_reached : (first : ℕ) (us : List (syntax.Unit A)) → ((n : ℕ) (u : syntax.Unit A) → slice_get us n ≡ Some u → (file : ℕ) × (slice_get units file ≡ Some u)) → (own : List Row) (n : ℕ) (r : Row)
      → AreRowsOfDeclarations (declarations_of begins units) (declarations_from begins first us) own → slice_get own n ≡ Some r → Reaches r Of
  units_reached first [] at_file own n r are at = absurd (let p = ap (λ (z : List Row). slice_get z n) (sym are) ∙ at in cc)
  units_reached first (u ∷ us) at_file own n r are at =
      let here = at_file 0 u refl in
      elim (classes_reached begins (declarations_of begins units) first (begins u.mark 0) u.classes (declarations_from begins (suc first) us) own n r are at) [
        | inl h ↦ ((λ k e. of_file here.0 u here.1 (method k) (h.0 k e)), (λ q e. of_file here.0 u here.1 (constructor q) (h.1 q e)))
        | inr later ↦ units_reached (suc first) us (λ m v e. at_file (suc m) v e) later.own later.number r later.are later.stands
      ]

  whole : (own : List Row) → AreRowsOfDeclarations (declarations_of begins units) (declarations_of begins units) own → AreRowsOfDeclarations (declarations_of begins units) (declarations_from begins 0 units) own
  unfolding declarations_of
  whole own h = h

  module _ (rows : List Row) (program : AreProgramRows (declarations_of begins units) rows) where
    own_reached : (n : ℕ) (r : Row) → slice_get program.0 n ≡ Some r → Reaches r Of
    own_reached n r at = units_reached 0 units (λ m u e. (m, e)) program.0 n r (whole program.0 program.2) at

    there : (d : Decl) (j : ℕ) (i : IsRowOf rows d j) → slice_get (prelude_rows ++ program.0) j ≡ Some i.row
    there d j i = subst (λ (z : List Row). slice_get z j ≡ Some i.row) program.1 i.stands

    pub method_is_of : (k : MethodKey) (j : ℕ) → IsRowOf rows (method_decl k) j → ((k ≡ thread_key (codes "run")) ⊎ (k ≡ thread_key (codes "start"))) ⊎ Of (method k)
    method_is_of k j i = elim (front_or prelude_rows program.0 j i.row (there (method_decl k) j i)) [
      | inl at ↦ inl (prelude_method j i.row k at i.declares)
      | inr (m, at) ↦ inr ((own_reached m i.row at).0 k i.declares)
    ]

    pub ctor_is_of : (q : CtorKey) (j : ℕ) → IsRowOf rows (constructor_decl q) j → ((q ≡ record { class = object_key; params = [] }) ⊎ (q ≡ record { class = top_key (codes "Thread"); params = [] })) ⊎ Of (constructor q)
    ctor_is_of q j i = elim (front_or prelude_rows program.0 j i.row (there (constructor_decl q) j i)) [
      | inl at ↦ inl (prelude_ctor j i.row q at i.declares)
      | inr (m, at) ↦ inr ((own_reached m i.row at).1 q i.declares)
    ]
