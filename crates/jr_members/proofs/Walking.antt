-- One walk over trees, declarations and rows: which members it finds.
use Rattle.std.proofs.Common.{◌≡◌, ℕ, suc, ◌+◌, ◌<◌, ◌≤◌, List, [], ◌∷◌, ◌++◌, drop, map, Option, Some, None, Bool, true, false, add-one, refl, sym, ap, subst, ◌∙◌, inl, inr, arith}
use Rattle.std.specs.Prelude.{slice_get, option_map, ◌⊎◌, if◌then◌else◌}
use Rattle.std.proofs.lemmas.List.{append_assoc}
use Rattle.jr_ast.specs.Tree as tree
use Rattle.jr_ast.specs.MemberTree as syntax
use Rattle.jr_table.specs.Keys.{ClassKey}
use Rattle.jr_table.specs.Decls.{MemberKey, head, field, method, constructor, Decl}
use Rattle.jr_table.specs.Rows.{Row}
use Rattle.jr_table.specs.DeclaredItems.{Item, class_item, DeclaredItem, class_key, writes_ctor, word_at, words, written, param_declaration, member_declarations, class_declarations, members_declarations, classes_declarations}
use Rattle.jr_table.specs.ProgramRows.{AreRowsOfDeclarations}
use Rattle.jr_table.specs.Errors.{Part, class_part, member_part, Declares, InClass, InMembers, InInner, InClasses}
use Rattle.jr_members.specs.Parts.{Placed, placed, class_parts, members_parts, member_parts, classes_parts}
use Rattle.jr_members.specs.WrittenMembers.{WrittenMember, member_of_decl, decl_of_member, row_count, put_member, members_at}
use Rattle.jr_members.proofs.Meaning.{OneClass, Unreserved, one_meanings}
use Rattle.jr_members.proofs.DeclarationRows.{next_is}

-- an element of a list
abbrev pub In : {X : Type 0} → List X → X → Type 0
In [] x = ⊥
In (y ∷ ys) x = (y ≡ x) ⊎ In ys x

pub in_left : {X : Type 0} (xs ys : List X) (x : X) → In xs x → In (xs ++ ys) x
in_left [] ys x h = absurd h
in_left (y ∷ xs) ys x (inl e) = inl e
in_left (y ∷ xs) ys x (inr h) = inr (in_left xs ys x h)

pub in_right : {X : Type 0} (xs ys : List X) (x : X) → In ys x → In (xs ++ ys) x
in_right [] ys x h = h
in_right (y ∷ xs) ys x h = inr (in_right xs ys x h)

pub in_either : {X : Type 0} (xs ys : List X) (x : X) → In (xs ++ ys) x → In xs x ⊎ In ys x
in_either [] ys x h = inr h
in_either (y ∷ xs) ys x (inl e) = inl (inl e)
in_either (y ∷ xs) ys x (inr h) = elim (in_either xs ys x h) [
  | inl a ↦ inl (inr a)
  | inr b ↦ inr b
]

module _ {A : Type 0} where
  -- the rows of members rise, from one on and up to another
  abbrev pub Rises : ℕ → List (WrittenMember A) → ℕ → Type 0
  Rises low [] high = low ≤ high
  Rises low (w ∷ ws) high = (low ≤ w.row) × Rises (suc w.row) ws high

  pub rises_join : (low mid high : ℕ) (xs ys : List (WrittenMember A)) → Rises low xs mid → Rises mid ys high → Rises low (xs ++ ys) high
  rises_join low mid high [] [] a b = omega (arith, a, b)
  rises_join low mid high [] (y ∷ ys) a b = (let l = b.0 in omega (arith, a, l), b.1)
  rises_join low mid high (x ∷ xs) ys a b = (a.0, rises_join (suc x.row) mid high xs ys a.1 b)

  pub low_is : (low high : ℕ) (xs : List (WrittenMember A)) → Rises low xs high → (w : WrittenMember A) → In xs w → low ≤ w.row
  low_is low high [] h w k = absurd k
  low_is low high (x ∷ xs) h w (inl e) = subst (λ (v : WrittenMember A). low ≤ v.row) e h.0
  low_is low high (x ∷ xs) h w (inr k) = let l = h.0 in let m = low_is (suc x.row) high xs h.1 w k in omega (arith, l, m)

  -- one of each row
  pub one_of_row : (low high : ℕ) (xs : List (WrittenMember A)) → Rises low xs high → (v w : WrittenMember A) → In xs v → In xs w → v.row ≡ w.row → v ≡ w
  one_of_row low high [] h v w k l e = absurd k
  one_of_row low high (x ∷ xs) h v w (inl a) (inl b) e = sym a ∙ b
  one_of_row low high (x ∷ xs) h v w (inl a) (inr b) e =
      let m = low_is (suc x.row) high xs h.1 w b in
      let f : x.row ≡ v.row = ap (λ (y : WrittenMember A). y.row) a in
      absurd (omega (arith, m, e, f))
  one_of_row low high (x ∷ xs) h v w (inr a) (inl b) e =
      let m = low_is (suc x.row) high xs h.1 v a in
      let f : x.row ≡ w.row = ap (λ (y : WrittenMember A). y.row) b in
      absurd (omega (arith, m, e, f))
  one_of_row low high (x ∷ xs) h v w (inr a) (inr b) e = one_of_row (suc x.row) high xs h.1 v w a b e

-- which members of a file are written, each with where its parent begins and with its tree
abbrev pub Writes : Type 0 → Type 1
Writes A = (file : ℕ) (k : MemberKey) (base : ℕ) (part : Part A) → Type 0

module _ {A : Type 0} (begins : A → ℕ → ℕ) (declarations : List DeclaredItem) (rows : List Row) where
  pub record IsOf (W : (file : ℕ) (k : MemberKey) (base : ℕ) (part : Part A) → Type 0) (w : WrittenMember A) : Type 0 where
    pub is_written : W w.file w.key w.base w.part
    pub row : Row
    pub stands : slice_get rows w.row ≡ Some row
    pub declares : row.decl ≡ decl_of_member w.key

  pub record Has (members : List (WrittenMember A)) (file : ℕ) (k : MemberKey) (base : ℕ) (part : Part A) : Type 0 where
    pub member : WrittenMember A
    pub there : In members member
    pub file_is : member.file ≡ file
    pub key_is : member.key ≡ k
    pub base_is : member.base ≡ base
    pub part_is : member.part ≡ part

  -- from a row on, these parts become members, exactly those that are written; behind them stand
  -- the rows of the declarations that are left
  pub record Walked (W : (file : ℕ) (k : MemberKey) (base : ℕ) (part : Part A) → Type 0) (parts : List (Placed A)) (rest : List DeclaredItem) (row : ℕ) : Type 0 where
    pub members : List (WrittenMember A)
    pub next : ℕ
    pub are : (more : List (Placed A)) → members_at begins rows row (parts ++ more) ≡ members ++ members_at begins rows next more
    pub left : AreRowsOfDeclarations declarations rest (drop next rows)
    pub rises : Rises row members next
    pub each : (w : WrittenMember A) → In members w → IsOf W w
    pub all : (file : ℕ) (k : MemberKey) (base : ℕ) (part : Part A) → W file k base part → Has members file k base part

  -- no part
  pub none_walked : (W : (file : ℕ) (k : MemberKey) (base : ℕ) (part : Part A) → Type 0) → ((file : ℕ) (k : MemberKey) (base : ℕ) (part : Part A) → W file k base part → ⊥)
      → (rest : List DeclaredItem) (row : ℕ) → AreRowsOfDeclarations declarations rest (drop row rows) → Walked W [] rest row
  none_walked W none rest row left = record {
    members = [];
    next = row;
    are = λ more. refl;
    left = left;
    rises = omega arith;
    each = λ w k. absurd k;
    all = λ file k base part h. absurd (none file k base part h);
  }

  -- one part behind others
  pub walked_on : (V W : (file : ℕ) (k : MemberKey) (base : ℕ) (part : Part A) → Type 0) (ps qs : List (Placed A)) (mid rest : List DeclaredItem) (row : ℕ)
      → (first : Walked V ps mid row) → Walked W qs rest (first.next)
      → Walked (λ file k base part. V file k base part ⊎ W file k base part) (ps ++ qs) rest row
  walked_on V W ps qs mid rest row first second = record {
    members = first.members ++ second.members;
    next = second.next;
    are = λ more. ap (members_at begins rows row) (append_assoc ps qs more) ∙ first.are (qs ++ more) ∙ ap (λ ms. first.members ++ ms) (second.are more)
        ∙ sym (append_assoc first.members second.members (members_at begins rows second.next more));
    left = second.left;
    rises = rises_join row first.next second.next first.members second.members first.rises second.rises;
    each = λ w k. elim (in_either first.members second.members w k) [
      | inl a ↦ (let e = first.each w a in record { is_written = inl e.is_written; row = e.row; stands = e.stands; declares = e.declares })
      | inr b ↦ (let e = second.each w b in record { is_written = inr e.is_written; row = e.row; stands = e.stands; declares = e.declares })
    ];
    all = λ file k base part h. elim h [
      | inl a ↦ (let f = first.all file k base part a in record { member = f.member; there = in_left first.members second.members f.member f.there; file_is = f.file_is; key_is = f.key_is; base_is = f.base_is; part_is = f.part_is })
      | inr b ↦ (let f = second.all file k base part b in record { member = f.member; there = in_right first.members second.members f.member f.there; file_is = f.file_is; key_is = f.key_is; base_is = f.base_is; part_is = f.part_is })
    ];
  }

  -- the same of what is as well written so
  pub walked_as : (V W : (file : ℕ) (k : MemberKey) (base : ℕ) (part : Part A) → Type 0) → ((file : ℕ) (k : MemberKey) (base : ℕ) (part : Part A) → V file k base part → W file k base part)
      → ((file : ℕ) (k : MemberKey) (base : ℕ) (part : Part A) → W file k base part → V file k base part)
      → (ps : List (Placed A)) (rest : List DeclaredItem) (row : ℕ) → Walked V ps rest row → Walked W ps rest row
  walked_as V W to from ps rest row h = record {
    members = h.members;
    next = h.next;
    are = h.are;
    left = h.left;
    rises = h.rises;
    each = λ w k. let e = h.each w k in record { is_written = to w.file w.key w.base w.part e.is_written; row = e.row; stands = e.stands; declares = e.declares };
    all = λ file k base part x. h.all file k base part (from file k base part x);
  }

  -- one part, whose row stands here
  pub one_walked : (W : (file : ℕ) (k : MemberKey) (base : ℕ) (part : Part A) → Type 0) (file base : ℕ) (part : Part A) (k : MemberKey) (rest : List DeclaredItem) (row : ℕ) (r : Row)
      → slice_get rows row ≡ Some r → r.decl ≡ decl_of_member k → member_of_decl r.decl ≡ k → 0 < row_count begins part
      → AreRowsOfDeclarations declarations rest (drop (row + row_count begins part) rows)
      → W file k base part → ((f : ℕ) (j : MemberKey) (b : ℕ) (p : Part A) → W f j b p → (file ≡ f) × (k ≡ j) × (base ≡ b) × (part ≡ p))
      → Walked W (placed file base part ∷ []) rest row
  unfolding members_at
  one_walked W file base part k rest row r stands declares is some left written only = record {
    members = own ∷ [];
    next = row + row_count begins part;
    are = λ more. (λ i. put_member begins (stands i) row (placed file base part) (members_at begins rows (row + row_count begins part) more))
        ∙ ap (λ (j : MemberKey). record { file = file; key = j; row = row; base = base; part = part } ∷ members_at begins rows (row + row_count begins part) more) is;
    left = left;
    rises = (omega arith, omega (arith, some));
    each = λ w h. elim h [
      | inl e ↦ subst (IsOf W) e (record { is_written = written; row = r; stands = stands; declares = declares })
      | inr z ↦ absurd z
    ];
    all = λ f j b p h. let e = only f j b p h in record { member = own; there = inl refl; file_is = e.0; key_is = e.1; base_is = e.2; part_is = e.3 };
  }
    where
      own : WrittenMember A
      own = record { file = file; key = k; row = row; base = base; part = part }

pub decl_back : (k : MemberKey) (d : Decl) → d ≡ decl_of_member k → member_of_decl d ≡ k
decl_back k d e = ap member_of_decl e ∙ back k
  where
    back : (k : MemberKey) → member_of_decl (decl_of_member k) ≡ k
    back (head k) = refl
    back (field k) = refl
    back (method k) = refl
    back (constructor k) = refl

abbrev pub in_file : ℕ → List Item → List DeclaredItem
in_file file items = map (λ (i : Item). record { file = file; item = i }) items

pub map_join : {S U : Type 0} (f : S → U) (xs ys : List S) → map f (xs ++ ys) ≡ map f xs ++ map f ys
map_join f [] ys = refl
map_join f (x ∷ xs) ys = ap (λ zs. f x ∷ zs) (map_join f xs ys)

-- classes and their members
module _ {A : Type 0} (begins : A → ℕ → ℕ) (declarations : List DeclaredItem) (rows : List Row) (one_class : OneClass declarations) (unreserved : Unreserved declarations) (file : ℕ) where
  abbrev IsAt : (base : ℕ) → Part A → MemberKey → (b : ℕ) → Part A → Type 0
  IsAt base part k b p = (b ≡ base) × (p ≡ part)

  abbrev OfMember : (base : ℕ) → ClassKey → syntax.Member A → (f : ℕ) (k : MemberKey) (b : ℕ) (p : Part A) → Type 0
  OfMember base of x f k b p = (file ≡ f) × ((Declares begins declarations base of x k × IsAt b p k base (member_part x)) ⊎ InInner begins declarations (IsAt b p) base of x k)

  abbrev OfMembers : (base : ℕ) → ClassKey → syntax.Members A → (f : ℕ) (k : MemberKey) (b : ℕ) (p : Part A) → Type 0
  OfMembers base of xs f k b p = (file ≡ f) × InMembers begins declarations (IsAt b p) base of xs k

  abbrev pub OfClass : (base : ℕ) → Option (List ℕ) → syntax.Class A → (f : ℕ) (k : MemberKey) (b : ℕ) (p : Part A) → Type 0
  OfClass base outer c f k b p = (file ≡ f) × InClass begins declarations (IsAt b p) base outer c k

  -- where the rows of these declarations stand, and then others
  abbrev Stands : List Item → List DeclaredItem → (row : ℕ) → Type 0
  Stands items rest row = AreRowsOfDeclarations declarations (in_file file items ++ rest) (drop row rows)

  field_walked : (base : ℕ) (of : ClassKey) (m : A) (mods : List (syntax.Modifier A)) (t : tree.TypeName A) (w : tree.Word A) (init : Option (tree.Exp A)) (rest : List DeclaredItem) (row : ℕ)
      → Stands (member_declarations begins base of (syntax.field m mods t w init)) rest row
      → Walked begins declarations rows (OfMember base of (syntax.field m mods t w init)) (member_parts begins file base (syntax.field m mods t w init)) rest row
  unfolding member_declarations class_declarations members_declarations member_parts class_parts members_parts InClass InMembers InInner
  field_walked base of m mods t w init rest row (r, after, is, row_is, are) =
      let k : MemberKey = field (record { class = of; name = w.text }) in
      let n = next_is rows row r after is in
      let d : r.decl ≡ decl_of_member k = ap (λ (x : Row). x.decl) row_is.is in
      one_walked begins declarations rows (OfMember base of (syntax.field m mods t w init)) file base (member_part (syntax.field m mods t w init)) k rest row r n.0 d (decl_back k r.decl d) (omega arith)
      (subst (AreRowsOfDeclarations declarations rest) (sym n.1 ∙ ap (λ n. drop n rows) (sym (add-one row))) are) (refl, inl (refl, (refl, refl)))
      (λ f j b p h. elim h.1 [
        | inl e ↦ (h.0, sym e.0, e.1.0, e.1.1)
        | inr z ↦ absurd z
      ])

  method_walked : (base : ℕ) (of : ClassKey) (m : A) (mods : List (syntax.Modifier A)) (t : Option (tree.TypeName A)) (w : tree.Word A) (ps : List (syntax.Param A)) (body : _) (rest : List DeclaredItem) (row : ℕ)
      → Stands (member_declarations begins base of (syntax.method m mods t w ps body)) rest row
      → Walked begins declarations rows (OfMember base of (syntax.method m mods t w ps body)) (member_parts begins file base (syntax.method m mods t w ps body)) rest row
  unfolding member_declarations class_declarations members_declarations member_parts class_parts members_parts InClass InMembers InInner
  method_walked base of m mods t w ps body rest row (r, after, is, row_is, are) =
      let k : MemberKey = method (record { class = of; name = w.text; params = row_is.params }) in
      let n = next_is rows row r after is in
      let d : r.decl ≡ decl_of_member k = ap (λ (x : Row). x.decl) row_is.is in
      one_walked begins declarations rows (OfMember base of (syntax.method m mods t w ps body)) file base (member_part (syntax.method m mods t w ps body)) k rest row r n.0 d (decl_back k r.decl d) (omega arith)
      (subst (AreRowsOfDeclarations declarations rest) (sym n.1 ∙ ap (λ n. drop n rows) (sym (add-one row))) are) (refl, inl ((row_is.params, row_is.mean, refl), (refl, refl)))
      (λ f j b p h. elim h.1 [
        | inl e ↦ (
          h.0,
          (let same = one_meanings declarations one_class unreserved of (map (param_declaration begins (begins m base)) ps) row_is.params e.0.0 row_is.mean e.0.1 in
              ap (λ ts. method (record { class = of; name = w.text; params = ts })) same ∙ sym e.0.2),
          e.1.0,
          e.1.1,
        )
        | inr z ↦ absurd z
      ])

  ctor_walked : (base : ℕ) (of : ClassKey) (m : A) (mods : List (syntax.Modifier A)) (w : tree.Word A) (ps : List (syntax.Param A)) (args : Option (tree.Exps A)) (body : _) (rest : List DeclaredItem) (row : ℕ)
      → Stands (member_declarations begins base of (syntax.constructor m mods w ps args body)) rest row
      → Walked begins declarations rows (OfMember base of (syntax.constructor m mods w ps args body)) (member_parts begins file base (syntax.constructor m mods w ps args body)) rest row
  unfolding member_declarations class_declarations members_declarations member_parts class_parts members_parts InClass InMembers InInner
  ctor_walked base of m mods w ps args body rest row (r, after, is, row_is, are) =
      let k : MemberKey = constructor (record { class = of; params = row_is.params }) in
      let n = next_is rows row r after is in
      let d : r.decl ≡ decl_of_member k = ap (λ (x : Row). x.decl) row_is.is in
      one_walked begins declarations rows (OfMember base of (syntax.constructor m mods w ps args body)) file base (member_part (syntax.constructor m mods w ps args body)) k rest row r n.0 d (decl_back k r.decl d) (omega arith)
      (subst (AreRowsOfDeclarations declarations rest) (sym n.1 ∙ ap (λ n. drop n rows) (sym (add-one row))) are) (refl, inl ((row_is.params, row_is.mean, refl), (refl, refl)))
      (λ f j b p h. elim h.1 [
        | inl e ↦ (
          h.0,
          (let same = one_meanings declarations one_class unreserved of (map (param_declaration begins (begins m base)) ps) row_is.params e.0.0 row_is.mean e.0.1 in
              ap (λ ts. constructor (record { class = of; params = ts })) same ∙ sym e.0.2),
          e.1.0,
          e.1.1,
        )
        | inr z ↦ absurd z
      ])

  -- the head of a class, by whether a constructor is written
  abbrev OfHead : (base : ℕ) → ClassKey → syntax.Class A → (f : ℕ) (k : MemberKey) (b : ℕ) (p : Part A) → Type 0
  OfHead base key c f k b p = (file ≡ f) × (k ≡ head key) × (base ≡ b) × (class_part c ≡ p)

  head_walked : (base : ℕ) (key : ClassKey) (at : ℕ) (modifiers : List _) (parent : Option _) (m : A) (mods : List (syntax.Modifier A)) (w : tree.Word A) (t : Option (tree.TypeName A)) (ms : syntax.Members A)
      → (has_ctor : Bool) → writes_ctor begins ms ≡ has_ctor → (rest : List DeclaredItem) (row : ℕ)
      → AreRowsOfDeclarations declarations (record { file = file; item = class_item (record { at = at; key = key; modifiers = modifiers; parent = parent; has_ctor = has_ctor }) } ∷ rest) (drop row rows)
      → Walked begins declarations rows (OfHead base key (syntax.class m mods w t ms)) (placed file base (class_part (syntax.class m mods w t ms)) ∷ []) rest row
  head_walked base key at modifiers parent m mods w t ms true has rest row (r, after, is, row_is, are) =
      let k : MemberKey = head key in
      let n = next_is rows row r after is in
      let count : row_count begins (class_part (syntax.class m mods w t ms)) ≡ 1 = ap (λ b. if b then 1 else 2) has in
      one_walked begins declarations rows (OfHead base key (syntax.class m mods w t ms)) file base (class_part (syntax.class m mods w t ms)) k rest row r n.0 row_is.decl (decl_back k r.decl row_is.decl) (omega (arith, count))
      (subst (AreRowsOfDeclarations declarations rest) (sym n.1 ∙ ap (λ n. drop n rows) (sym (add-one row)) ∙ ap (λ n. drop (row + n) rows) (sym count)) are) (refl, refl, refl, refl)
      (λ f j b p h. (h.0, sym h.1, h.2, h.3))
  head_walked base key at modifiers parent m mods w t ms false has rest row (r, after, is, row_is, are) =
      let k : MemberKey = head key in
      let n = next_is rows row r _ is in
      let further = next_is rows (suc row) _ after n.1 in
      let count : row_count begins (class_part (syntax.class m mods w t ms)) ≡ 2 = ap (λ b. if b then 1 else 2) has in
      let two : suc (suc row) ≡ row + row_count begins (class_part (syntax.class m mods w t ms)) = omega (arith, count) in
      one_walked begins declarations rows (OfHead base key (syntax.class m mods w t ms)) file base (class_part (syntax.class m mods w t ms)) k rest row r n.0 row_is.decl (decl_back k r.decl row_is.decl) (omega (arith, count))
      (subst (AreRowsOfDeclarations declarations rest) (sym further.1 ∙ ap (λ n. drop n rows) two) are) (refl, refl, refl, refl)
      (λ f j b p h. (h.0, sym h.1, h.2, h.3))

  mutual
    unfolding member_declarations class_declarations members_declarations member_parts class_parts members_parts InClass InMembers InInner

    pub class_walked : (base : ℕ) (outer : Option (List ℕ)) (c : syntax.Class A) (rest : List DeclaredItem) (row : ℕ) → Stands (class_declarations begins base outer c) rest row
        → Walked begins declarations rows (OfClass base outer c) (class_parts begins file base c) rest row
    class_walked base outer (syntax.class m mods w t ms) rest row are =
        let key = class_key begins outer w.text in
        let within = in_file file (members_declarations begins (begins m base) key ms) ++ rest in
        let first = head_walked base key (word_at begins (begins m base) w) (words begins mods) (option_map (written begins (begins m base)) t) m mods w t ms (writes_ctor begins ms) refl within row are in
        let second = members_walked (begins m base) key ms rest first.next first.left in
        walked_as begins declarations rows _ (OfClass base outer (syntax.class m mods w t ms))
        (λ f k b p h. elim h [
          | inl a ↦ (a.0, inl (a.1, (a.2, a.3)))
          | inr b ↦ (b.0, inr b.1)
        ])
        (λ f k b p h. elim h.1 [
          | inl a ↦ inl (h.0, a.0, a.1.0, a.1.1)
          | inr b ↦ inr (h.0, b)
        ])
        _ rest row (walked_on begins declarations rows (OfHead base key (syntax.class m mods w t ms)) (OfMembers (begins m base) key ms) _ _ within rest row first second)

    members_walked : (base : ℕ) (of : ClassKey) (xs : syntax.Members A) (rest : List DeclaredItem) (row : ℕ) → Stands (members_declarations begins base of xs) rest row
        → Walked begins declarations rows (OfMembers base of xs) (members_parts begins file base xs) rest row
    members_walked base of syntax.end rest row are = none_walked begins declarations rows (OfMembers base of syntax.end) (λ f k b p h. h.1) rest row are
    members_walked base of (syntax.more x xs) rest row are =
        let within = in_file file (members_declarations begins base of xs) ++ rest in
        let first = member_walked base of x within row (subst (λ ss. AreRowsOfDeclarations declarations ss (drop row rows))
        (ap (λ ss. ss ++ rest) (map_join _ (member_declarations begins base of x) (members_declarations begins base of xs)) ∙ append_assoc (in_file file (member_declarations begins base of x)) (in_file file (members_declarations begins base of xs)) rest) are) in
        let second = members_walked base of xs rest first.next first.left in
        walked_as begins declarations rows _ (OfMembers base of (syntax.more x xs))
        (λ f k b p h. elim h [
          | inl a ↦ (a.0, inl a.1)
          | inr b ↦ (b.0, inr b.1)
        ])
        (λ f k b p h. elim h.1 [
          | inl a ↦ inl (h.0, a)
          | inr b ↦ inr (h.0, b)
        ])
        _ rest row (walked_on begins declarations rows (OfMember base of x) (OfMembers base of xs) _ _ within rest row first second)

    member_walked : (base : ℕ) (of : ClassKey) (x : syntax.Member A) (rest : List DeclaredItem) (row : ℕ) → Stands (member_declarations begins base of x) rest row
        → Walked begins declarations rows (OfMember base of x) (member_parts begins file base x) rest row
    member_walked base of (syntax.field m mods t w init) rest row are = field_walked base of m mods t w init rest row are
    member_walked base of (syntax.method m mods t w ps body) rest row are = method_walked base of m mods t w ps body rest row are
    member_walked base of (syntax.constructor m mods w ps args body) rest row are = ctor_walked base of m mods w ps args body rest row are
    member_walked base of (syntax.inner m c) rest row are =
        walked_as begins declarations rows (OfClass (begins m base) (Some of.name) c) (OfMember base of (syntax.inner m c))
        (λ f k b p h. (h.0, inr h.1))
        (λ f k b p h. elim h.1 [
          | inl a ↦ absurd a.0
          | inr b ↦ (h.0, b)
        ])
        _ rest row (class_walked (begins m base) (Some of.name) c rest row are)

  abbrev pub OfClasses : (base : ℕ) → List (syntax.Class A) → (f : ℕ) (k : MemberKey) (b : ℕ) (p : Part A) → Type 0
  OfClasses base cs f k b p = (file ≡ f) × InClasses begins declarations (IsAt b p) base cs k

  pub classes_walked : (base : ℕ) (cs : List (syntax.Class A)) (rest : List DeclaredItem) (row : ℕ) → Stands (classes_declarations begins base cs) rest row
      → Walked begins declarations rows (OfClasses base cs) (classes_parts begins file base cs) rest row
  classes_walked base [] rest row are = none_walked begins declarations rows (OfClasses base []) (λ f k b p h. h.1) rest row are
  classes_walked base (c ∷ cs) rest row are =
      let within = in_file file (classes_declarations begins base cs) ++ rest in
      let first = class_walked base None c within row (subst (λ ss. AreRowsOfDeclarations declarations ss (drop row rows))
      (ap (λ ss. ss ++ rest) (map_join _ (class_declarations begins base None c) (classes_declarations begins base cs)) ∙ append_assoc (in_file file (class_declarations begins base None c)) (in_file file (classes_declarations begins base cs)) rest) are) in
      let second = classes_walked base cs rest first.next first.left in
      walked_as begins declarations rows _ (OfClasses base (c ∷ cs))
      (λ f k b p h. elim h [
        | inl a ↦ (a.0, inl a.1)
        | inr b ↦ (b.0, inr b.1)
      ])
      (λ f k b p h. elim h.1 [
        | inl a ↦ inl (h.0, a)
        | inr b ↦ inr (h.0, b)
      ])
      _ rest row (walked_on begins declarations rows (OfClass base None c) (OfClasses base cs) _ _ within rest row first second)
