-- The written members of a program stand in the order of its trees, each with its key.
use Rattle.std.proofs.Common.{◌≡◌, ℕ, suc, ◌+◌, List, [], ◌∷◌, ◌++◌, drop, length, Option, Some, None, Bool, true, false, add-one, refl, sym, ap, subst, ◌∙◌, arith}
use Rattle.std.specs.Prelude.{slice_get, option_map, if◌then◌else◌}
use Rattle.std.proofs.lemmas.List.{append_assoc, append-nil}
use Rattle.std.proofs.Math.Seq.{drop-append_seam}
use Rattle.jr_ast.specs.Tree as tree
use Rattle.jr_ast.specs.MemberTree as syntax
use Rattle.jr_table.specs.Keys.{ClassKey}
use Rattle.jr_table.specs.Decls.{MemberKey, head, field, method, constructor}
use Rattle.jr_table.specs.Rows.{Row}
use Rattle.jr_table.specs.Prelude.{prelude_rows}
use Rattle.jr_table.specs.DeclaredItems.{Item, class_item, DeclaredItem, class_key, writes_ctor, word_at, words, written, member_declarations, class_declarations, members_declarations, classes_declarations, declarations_from, declarations_of}
use Rattle.jr_table.specs.ProgramRows.{AreRowsOfDeclarations, AreProgramRows}
use Rattle.jr_table.specs.Errors.{Part, class_part, member_part, Declares}
use Rattle.jr_members.specs.Parts.{Placed, placed, class_parts, members_parts, member_parts, classes_parts, parts_from, units_parts}
use Rattle.jr_members.specs.WrittenMembers.{WrittenMember, member_of_decl, decl_of_member, row_count, put_member, members_at, written_members}
use Rattle.jr_members.proofs.DeclarationRows.{next_is}
use Rattle.jr_members.proofs.Walking.{decl_back, map_join, in_file}

module _ {A : Type 0} where
  -- all are of the file
  abbrev pub OfFile : ℕ → List (WrittenMember A) → Type 0
  OfFile file [] = Unit {0}
  OfFile file (w ∷ ws) = (w.file ≡ file) × OfFile file ws

  pub of_file_join : (file : ℕ) (us vs : List (WrittenMember A)) → OfFile file us → OfFile file vs → OfFile file (us ++ vs)
  of_file_join file [] vs h k = k
  of_file_join file (u ∷ us) vs h k = (h.0, of_file_join file us vs h.1 k)

  pub record IsAs (w : WrittenMember A) (k : MemberKey) (base : ℕ) (part : Part A) : Type 0 where
    pub key : w.key ≡ k
    pub place : w.base ≡ base
    pub tree : w.part ≡ part

module _ {A : Type 0} (begins : A → ℕ → ℕ) (declarations : List DeclaredItem) where
  -- a field, method or constructor of the class
  abbrev pub OfOne : (base : ℕ) → ClassKey → syntax.Member A → List (WrittenMember A) → Type 0
  OfOne base of x ws =
      (w : WrittenMember A) × (k : MemberKey) × (ws ≡ w ∷ []) × Declares begins declarations base of x k × IsAs w k base (member_part x)

  unfoldable mutual
    pub OfClass : (base : ℕ) → Option (List ℕ) → syntax.Class A → List (WrittenMember A) → Type 0
    OfClass base outer (syntax.class m mods w t ms) ws =
        (h : WrittenMember A) × (rest : List (WrittenMember A)) × (ws ≡ h ∷ rest) × IsAs h (head (class_key begins outer w.text)) base (class_part (syntax.class m mods w t ms))
        × OfMembers (begins m base) (class_key begins outer w.text) ms rest

    pub OfMembers : (base : ℕ) → ClassKey → syntax.Members A → List (WrittenMember A) → Type 0
    OfMembers base of syntax.end ws = ws ≡ []
    OfMembers base of (syntax.more x xs) ws =
        (us : List (WrittenMember A)) × (vs : List (WrittenMember A)) × (ws ≡ us ++ vs) × OfMember base of x us × OfMembers base of xs vs

    pub OfMember : (base : ℕ) → ClassKey → syntax.Member A → List (WrittenMember A) → Type 0
    OfMember base of (syntax.inner m c) ws = OfClass (begins m base) (Some of.name) c ws
    OfMember base of (syntax.field m mods t w init) ws = OfOne base of (syntax.field m mods t w init) ws
    OfMember base of (syntax.method m mods t w ps body) ws = OfOne base of (syntax.method m mods t w ps body) ws
    OfMember base of (syntax.constructor m mods w ps args body) ws = OfOne base of (syntax.constructor m mods w ps args body) ws

  abbrev pub OfClasses : (base : ℕ) → List (syntax.Class A) → List (WrittenMember A) → Type 0
  OfClasses base [] ws = ws ≡ []
  OfClasses base (c ∷ cs) ws =
      (us : List (WrittenMember A)) × (vs : List (WrittenMember A)) × (ws ≡ us ++ vs) × OfClass base None c us × OfClasses base cs vs

  -- of files, the first of which has this number
  abbrev pub OfUnits : (first : ℕ) → List (syntax.Unit A) → List (WrittenMember A) → Type 0
  OfUnits first [] ws = ws ≡ []
  OfUnits first (u ∷ us) ws = (xs : List (WrittenMember A)) × (ys : List (WrittenMember A)) × (ws ≡ xs ++ ys)
      × OfFile first xs × OfClasses (begins u.mark 0) u.classes xs × OfUnits (suc first) us ys

module _ {A : Type 0} (begins : A → ℕ → ℕ) (declarations : List DeclaredItem) (rows : List Row) (file : ℕ) where
  -- from a row on, these parts become members of the file that have the property; behind them stand
  -- the rows of the declarations that are left
  record Kept (Q : List (WrittenMember A) → Type 0) (parts : List (Placed A)) (rest : List DeclaredItem) (row : ℕ) : Type 0 where
    members : List (WrittenMember A)
    next : ℕ
    are : (more : List (Placed A)) → members_at begins rows row (parts ++ more) ≡ members ++ members_at begins rows next more
    left : AreRowsOfDeclarations declarations rest (drop next rows)
    files : OfFile file members
    has : Q members

  -- one part, whose row stands here
  one_kept : (Q : List (WrittenMember A) → Type 0) (base : ℕ) (part : Part A) (k : MemberKey) (rest : List DeclaredItem) (row : ℕ) (r : Row)
      → slice_get rows row ≡ Some r → member_of_decl r.decl ≡ k
      → AreRowsOfDeclarations declarations rest (drop (row + row_count begins part) rows)
      → ((w : WrittenMember A) → IsAs w k base part → Q (w ∷ [])) → Kept Q (placed file base part ∷ []) rest row
  unfolding members_at
  one_kept Q base part k rest row r stands is left has = record {
    members = own ∷ [];
    next = row + row_count begins part;
    are = λ more. (λ i. put_member begins (stands i) row (placed file base part) (members_at begins rows (row + row_count begins part) more))
        ∙ ap (λ (j : MemberKey). record { file = file; key = j; row = row; base = base; part = part } ∷ members_at begins rows (row + row_count begins part) more) is;
    left = left;
    files = (refl, tt);
    has = has own (record { key = refl; place = refl; tree = refl });
  }
    where
      own : WrittenMember A
      own = record { file = file; key = k; row = row; base = base; part = part }

  none_kept : (Q : List (WrittenMember A) → Type 0) (rest : List DeclaredItem) (row : ℕ) → AreRowsOfDeclarations declarations rest (drop row rows) → Q [] → Kept Q [] rest row
  none_kept Q rest row left has = record { members = []; next = row; are = λ more. refl; left = left; files = tt; has = has }

  kept_on : (P Q R : List (WrittenMember A) → Type 0) (ps qs : List (Placed A)) (mid rest : List DeclaredItem) (row : ℕ)
      → (first : Kept P ps mid row) → Kept Q qs rest (first.next)
      → ((us vs : List (WrittenMember A)) → P us → Q vs → R (us ++ vs)) → Kept R (ps ++ qs) rest row
  kept_on P Q R ps qs mid rest row first second to = record {
    members = first.members ++ second.members;
    next = second.next;
    are = λ more. ap (members_at begins rows row) (append_assoc ps qs more) ∙ first.are (qs ++ more) ∙ ap (λ ms. first.members ++ ms) (second.are more)
        ∙ sym (append_assoc first.members second.members (members_at begins rows second.next more));
    left = second.left;
    files = of_file_join file first.members second.members first.files second.files;
    has = to first.members second.members first.has second.has;
  }

  kept_as : (P Q : List (WrittenMember A) → Type 0) (ps : List (Placed A)) (rest : List DeclaredItem) (row : ℕ) → ((ws : List (WrittenMember A)) → P ws → Q ws) → Kept P ps rest row → Kept Q ps rest row
  kept_as P Q ps rest row to h = record { members = h.members; next = h.next; are = h.are; left = h.left; files = h.files; has = to h.members h.has }

  abbrev Stands : List Item → List DeclaredItem → (row : ℕ) → Type 0
  Stands items rest row = AreRowsOfDeclarations declarations (in_file file items ++ rest) (drop row rows)

  field_kept : (base : ℕ) (of : ClassKey) (m : A) (mods : List (syntax.Modifier A)) (t : tree.TypeName A) (w : tree.Word A) (init : Option (tree.Exp A)) (rest : List DeclaredItem) (row : ℕ)
      → Stands (member_declarations begins base of (syntax.field m mods t w init)) rest row
      → Kept (OfMember begins declarations base of (syntax.field m mods t w init)) (member_parts begins file base (syntax.field m mods t w init)) rest row
  unfolding member_declarations class_declarations members_declarations member_parts class_parts members_parts OfClass OfMembers OfMember
  field_kept base of m mods t w init rest row (r, after, is, row_is, are) =
      let k : MemberKey = field (record { class = of; name = w.text }) in
      let n = next_is rows row r after is in
      let d : r.decl ≡ decl_of_member k = ap (λ (x : Row). x.decl) row_is.is in
      one_kept (OfMember begins declarations base of (syntax.field m mods t w init)) base (member_part (syntax.field m mods t w init)) k rest row r n.0 (decl_back k r.decl d)
      (subst (AreRowsOfDeclarations declarations rest) (sym n.1 ∙ ap (λ n. drop n rows) (sym (add-one row))) are) (λ h as_is. (h, k, refl, refl, as_is))

  method_kept : (base : ℕ) (of : ClassKey) (m : A) (mods : List (syntax.Modifier A)) (t : Option (tree.TypeName A)) (w : tree.Word A) (ps : List (syntax.Param A)) (body : _) (rest : List DeclaredItem) (row : ℕ)
      → Stands (member_declarations begins base of (syntax.method m mods t w ps body)) rest row
      → Kept (OfMember begins declarations base of (syntax.method m mods t w ps body)) (member_parts begins file base (syntax.method m mods t w ps body)) rest row
  unfolding member_declarations class_declarations members_declarations member_parts class_parts members_parts OfClass OfMembers OfMember
  method_kept base of m mods t w ps body rest row (r, after, is, row_is, are) =
      let k : MemberKey = method (record { class = of; name = w.text; params = row_is.params }) in
      let n = next_is rows row r after is in
      let d : r.decl ≡ decl_of_member k = ap (λ (x : Row). x.decl) row_is.is in
      one_kept (OfMember begins declarations base of (syntax.method m mods t w ps body)) base (member_part (syntax.method m mods t w ps body)) k rest row r n.0 (decl_back k r.decl d)
      (subst (AreRowsOfDeclarations declarations rest) (sym n.1 ∙ ap (λ n. drop n rows) (sym (add-one row))) are) (λ h as_is. (h, k, refl, (row_is.params, row_is.mean, refl), as_is))

  ctor_kept : (base : ℕ) (of : ClassKey) (m : A) (mods : List (syntax.Modifier A)) (w : tree.Word A) (ps : List (syntax.Param A)) (args : Option (tree.Exps A)) (body : _) (rest : List DeclaredItem) (row : ℕ)
      → Stands (member_declarations begins base of (syntax.constructor m mods w ps args body)) rest row
      → Kept (OfMember begins declarations base of (syntax.constructor m mods w ps args body)) (member_parts begins file base (syntax.constructor m mods w ps args body)) rest row
  unfolding member_declarations class_declarations members_declarations member_parts class_parts members_parts OfClass OfMembers OfMember
  ctor_kept base of m mods w ps args body rest row (r, after, is, row_is, are) =
      let k : MemberKey = constructor (record { class = of; params = row_is.params }) in
      let n = next_is rows row r after is in
      let d : r.decl ≡ decl_of_member k = ap (λ (x : Row). x.decl) row_is.is in
      one_kept (OfMember begins declarations base of (syntax.constructor m mods w ps args body)) base (member_part (syntax.constructor m mods w ps args body)) k rest row r n.0 (decl_back k r.decl d)
      (subst (AreRowsOfDeclarations declarations rest) (sym n.1 ∙ ap (λ n. drop n rows) (sym (add-one row))) are) (λ h as_is. (h, k, refl, (row_is.params, row_is.mean, refl), as_is))

  -- the head of a class, by whether a constructor is written
  abbrev OfHead : (base : ℕ) → ClassKey → syntax.Class A → List (WrittenMember A) → Type 0
  OfHead base key c ws = (h : WrittenMember A) × (ws ≡ h ∷ []) × IsAs h (head key) base (class_part c)

  head_kept : (base : ℕ) (key : ClassKey) (at : ℕ) (modifiers : List _) (parent : Option _) (m : A) (mods : List (syntax.Modifier A)) (w : tree.Word A) (t : Option (tree.TypeName A)) (ms : syntax.Members A)
      → (has_ctor : Bool) → writes_ctor begins ms ≡ has_ctor → (rest : List DeclaredItem) (row : ℕ)
      → AreRowsOfDeclarations declarations (record { file = file; item = class_item (record { at = at; key = key; modifiers = modifiers; parent = parent; has_ctor = has_ctor }) } ∷ rest) (drop row rows)
      → Kept (OfHead base key (syntax.class m mods w t ms)) (placed file base (class_part (syntax.class m mods w t ms)) ∷ []) rest row
  head_kept base key at modifiers parent m mods w t ms true has rest row (r, after, is, row_is, are) =
      let n = next_is rows row r after is in
      let count : row_count begins (class_part (syntax.class m mods w t ms)) ≡ 1 = ap (λ b. if b then 1 else 2) has in
      one_kept (OfHead base key (syntax.class m mods w t ms)) base (class_part (syntax.class m mods w t ms)) (head key) rest row r n.0 (decl_back (head key) r.decl row_is.decl)
      (subst (AreRowsOfDeclarations declarations rest) (sym n.1 ∙ ap (λ n. drop n rows) (sym (add-one row)) ∙ ap (λ n. drop (row + n) rows) (sym count)) are) (λ h as_is. (h, refl, as_is))
  head_kept base key at modifiers parent m mods w t ms false has rest row (r, after, is, row_is, are) =
      let n = next_is rows row r _ is in
      let further = next_is rows (suc row) _ after n.1 in
      let count : row_count begins (class_part (syntax.class m mods w t ms)) ≡ 2 = ap (λ b. if b then 1 else 2) has in
      let two : suc (suc row) ≡ row + row_count begins (class_part (syntax.class m mods w t ms)) = omega (arith, count) in
      one_kept (OfHead base key (syntax.class m mods w t ms)) base (class_part (syntax.class m mods w t ms)) (head key) rest row r n.0 (decl_back (head key) r.decl row_is.decl)
      (subst (AreRowsOfDeclarations declarations rest) (sym further.1 ∙ ap (λ n. drop n rows) two) are) (λ h as_is. (h, refl, as_is))

  mutual
    unfolding member_declarations class_declarations members_declarations member_parts class_parts members_parts OfClass OfMembers OfMember

    class_kept : (base : ℕ) (outer : Option (List ℕ)) (c : syntax.Class A) (rest : List DeclaredItem) (row : ℕ) → Stands (class_declarations begins base outer c) rest row
        → Kept (OfClass begins declarations base outer c) (class_parts begins file base c) rest row
    class_kept base outer (syntax.class m mods w t ms) rest row are =
        let key = class_key begins outer w.text in
        let within = in_file file (members_declarations begins (begins m base) key ms) ++ rest in
        let first = head_kept base key (word_at begins (begins m base) w) (words begins mods) (option_map (written begins (begins m base)) t) m mods w t ms (writes_ctor begins ms) refl within row are in
        let second = members_kept (begins m base) key ms rest first.next first.left in
        kept_on (OfHead base key (syntax.class m mods w t ms)) (OfMembers begins declarations (begins m base) key ms) (OfClass begins declarations base outer (syntax.class m mods w t ms)) _ _ within rest row first second
        (λ us vs h k. (h.0, vs, ap (λ xs. xs ++ vs) h.1, h.2, k))

    members_kept : (base : ℕ) (of : ClassKey) (xs : syntax.Members A) (rest : List DeclaredItem) (row : ℕ) → Stands (members_declarations begins base of xs) rest row
        → Kept (OfMembers begins declarations base of xs) (members_parts begins file base xs) rest row
    members_kept base of syntax.end rest row are = none_kept (OfMembers begins declarations base of syntax.end) rest row are refl
    members_kept base of (syntax.more x xs) rest row are =
        let within = in_file file (members_declarations begins base of xs) ++ rest in
        let first = member_kept base of x within row (subst (λ ss. AreRowsOfDeclarations declarations ss (drop row rows))
        (ap (λ ss. ss ++ rest) (map_join _ (member_declarations begins base of x) (members_declarations begins base of xs)) ∙ append_assoc (in_file file (member_declarations begins base of x)) (in_file file (members_declarations begins base of xs)) rest) are) in
        let second = members_kept base of xs rest first.next first.left in
        kept_on (OfMember begins declarations base of x) (OfMembers begins declarations base of xs) (OfMembers begins declarations base of (syntax.more x xs)) _ _ within rest row first second
        (λ us vs h k. (us, vs, refl, h, k))

    member_kept : (base : ℕ) (of : ClassKey) (x : syntax.Member A) (rest : List DeclaredItem) (row : ℕ) → Stands (member_declarations begins base of x) rest row
        → Kept (OfMember begins declarations base of x) (member_parts begins file base x) rest row
    member_kept base of (syntax.field m mods t w init) rest row are = field_kept base of m mods t w init rest row are
    member_kept base of (syntax.method m mods t w ps body) rest row are = method_kept base of m mods t w ps body rest row are
    member_kept base of (syntax.constructor m mods w ps args body) rest row are = ctor_kept base of m mods w ps args body rest row are
    member_kept base of (syntax.inner m c) rest row are =
        kept_as (OfClass begins declarations (begins m base) (Some of.name) c) (OfMember begins declarations base of (syntax.inner m c)) _ rest row (λ ws h. h) (class_kept (begins m base) (Some of.name) c rest row are)

  classes_kept : (base : ℕ) (cs : List (syntax.Class A)) (rest : List DeclaredItem) (row : ℕ) → Stands (classes_declarations begins base cs) rest row
      → Kept (OfClasses begins declarations base cs) (classes_parts begins file base cs) rest row
  classes_kept base [] rest row are = none_kept (OfClasses begins declarations base []) rest row are refl
  classes_kept base (c ∷ cs) rest row are =
      let within = in_file file (classes_declarations begins base cs) ++ rest in
      let first = class_kept base None c within row (subst (λ ss. AreRowsOfDeclarations declarations ss (drop row rows))
      (ap (λ ss. ss ++ rest) (map_join _ (class_declarations begins base None c) (classes_declarations begins base cs)) ∙ append_assoc (in_file file (class_declarations begins base None c)) (in_file file (classes_declarations begins base cs)) rest) are) in
      let second = classes_kept base cs rest first.next first.left in
      kept_on (OfClass begins declarations base None c) (OfClasses begins declarations base cs) (OfClasses begins declarations base (c ∷ cs)) _ _ within rest row first second
      (λ us vs h k. (us, vs, refl, h, k))

module _ {A : Type 0} (begins : A → ℕ → ℕ) (declarations : List DeclaredItem) (rows : List Row) where
  units_kept : (first : ℕ) (us : List (syntax.Unit A)) (row : ℕ) → AreRowsOfDeclarations declarations (declarations_from begins first us) (drop row rows)
      → (ws : List (WrittenMember A)) × (next : ℕ) × ((more : List (Placed A)) → members_at begins rows row (parts_from begins first us ++ more) ≡ ws ++ members_at begins rows next more) × OfUnits begins declarations first us ws
  units_kept first [] row are = ([], row, (λ more. refl), refl)
  units_kept first (u ∷ us) row are =
      let here = classes_kept begins declarations rows first (begins u.mark 0) u.classes (declarations_from begins (suc first) us) row are in
      let there = units_kept (suc first) us here.next here.left in (
        here.members ++ there.0,
        there.1,
        (λ more. ap (members_at begins rows row) (append_assoc (classes_parts begins first (begins u.mark 0) u.classes) (parts_from begins (suc first) us) more)
            ∙ here.are (parts_from begins (suc first) us ++ more) ∙ ap (λ ms. here.members ++ ms) (there.2 more) ∙ sym (append_assoc here.members there.0 (members_at begins rows there.1 more))),
        (here.members, there.0, refl, here.files, here.has, there.3),
      )

module _ {A : Type 0} (begins : A → ℕ → ℕ) (units : List (syntax.Unit A)) (rows : List Row) (program : AreProgramRows (declarations_of begins units) rows) where
  own_rows : drop (length prelude_rows) rows ≡ program.0
  own_rows = ap (drop (length prelude_rows)) program.1 ∙ drop-append_seam prelude_rows program.0

  pub members_in_order : OfUnits begins (declarations_of begins units) 0 units (written_members begins rows units)
  unfolding declarations_of units_parts written_members members_at
  members_in_order =
      let h = units_kept begins (declarations_of begins units) rows 0 units (length prelude_rows) (subst (AreRowsOfDeclarations (declarations_of begins units) (declarations_from begins 0 units)) (sym own_rows) program.2) in
      subst (OfUnits begins (declarations_of begins units) 0 units)
      (sym (ap (members_at begins rows (length prelude_rows)) (sym (append-nil (units_parts begins units))) ∙ h.2 [] ∙ append-nil h.0)) h.3
