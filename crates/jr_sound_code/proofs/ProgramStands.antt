-- The resolved program that sources are, where no member breaks a rule.
use Rattle.std.proofs.Common.{◌≡◌, ℕ, suc, ◌<◌, List, [], ◌∷◌, length, Option, Some, None, Bool, true, false, refl, sym, ap, subst, ◌∙◌, inl, inr, arith}
use Rattle.std.specs.Prelude.{◌⊎◌, slice_get, codes}
use Rattle.jr_ast.specs.declared.operators.ModWord.TheVariants as word
use Rattle.jr_ast.specs.Tree as tree
use Rattle.jr_ast.specs.MemberTree as syntax
use Rattle.jr_grammar.specs.MemberShape.{UnitShaped}
use Rattle.jr_runs.specs.Core as core
use Rattle.jr_runs.specs.MemberTranslation.{no_code}
use Rattle.jr_table.specs.Keys.{ClassKey, MethodKey, CtorKey, Ty}
use Rattle.jr_table.specs.SameKeys.{same_method, method_decides}
use Rattle.jr_table.specs.SameDecls.{same_member, member_decides}
use Rattle.jr_table.specs.Decls.{MemberKey, head, method, constructor, class_decl, method_decl, constructor_decl}
use Rattle.jr_table.specs.Rows.{Row}
use Rattle.jr_table.specs.Prelude.{prelude_rows, top_key, object_key, thread_key, class_row, ctor_row, thread_row}
use Rattle.jr_table.specs.Entries.{IsRowOf, number_of}
use Rattle.jr_table.specs.Conditions.{AreRows}
use Rattle.jr_table.specs.LookupLaws.{KeysAreFound}
use Rattle.jr_table.specs.DeclaredItems.{DeclaredItem, class_key, writes_ctor, declarations_of}
use Rattle.jr_table.specs.ProgramRows.{AreProgramRows}
use Rattle.jr_table.specs.Errors.{Part, class_part, member_part, Declares, InClass, InMembers, InInner, InClasses}
use Rattle.jr_table.proofs.RowLaws.{number_stands}
use Rattle.jr_members.specs.WrittenMembers.{WrittenMember, decl_of_member, written_members}
use Rattle.jr_members.specs.WrittenLaws.{IsWritten, AreWritten}
use Rattle.jr_members.proofs.Anywhere.{IsAt}
use Rattle.jr_members.proofs.Walking as walking
use Rattle.jr_members.proofs.UnitsWalked.{contains_in, in_contains}
use Rattle.jr_program_laws.proofs.StandsDeclared.{StandsDeclared, written_sited}
use Rattle.jr_code.specs.RunKeys.{RunKeys}
use Rattle.jr_code.specs.RunRows.{HasRow}
use Rattle.jr_code.specs.CodedStatements.{StatementCode}
use Rattle.jr_code.specs.CodedMembers.{MemberCode, MethodCoded, InitsCoded, ConstructorCoded, DefaultCoded, ClassCoded, MembersCoded, InnerCoded, ClassesCoded, UnitsCoded, HasPrelude}
use Rattle.jr_code.specs.Programs.{HasNoMore, IsCodeOf}
use Rattle.jr_sound_code.proofs.MembersStand.{Sound, SoundFields, method_stands, constructor_stands, default_stands, inits_stand}
use Rattle.jr_sound_code.proofs.Meeting.{Meets, classes_meet}
use Rattle.jr_sound_code.proofs.Unwritten.{unwritten_stands, prelude_row, not_prelude}
use Rattle.jr_code.proofs.RunRowsStand.{run_rows, are_run_rows}

abbrev FoundIn : {A : Type 0} → List (WrittenMember A) → MemberKey → Type 0
FoundIn {A} ws k = (w : WrittenMember A) × walking.In ws w × (w.key ≡ k)

find_in : {A : Type 0} (ws : List (WrittenMember A)) (k : MemberKey) → FoundIn ws k ⊎ (FoundIn ws k → ⊥)
find_in [] k = inr (λ h. h.1)
find_in {A} (w ∷ ws) k = by (same_member w.key k) refl (find_in ws k)
  where
    by : (b : Bool) → same_member w.key k ≡ b → FoundIn ws k ⊎ (FoundIn ws k → ⊥) → FoundIn (w ∷ ws) k ⊎ (FoundIn (w ∷ ws) k → ⊥)
    by true e rest = inl (w, inl refl, (member_decides w.key k).0 e)
    by false e (inl (v, there, is)) = inl (v, inr there, is)
    by false e (inr not) = inr none
      where
        none : FoundIn (w ∷ ws) k → ⊥
        none (v, inl same, is) = (let t = sym e ∙ (member_decides w.key k).1 (ap (λ (z : WrittenMember A). z.key) same ∙ is) in absurd cc)
        none (v, inr there, is) = not (v, there, is)

module _ {A : Type 0} (begins ends : A → ℕ → ℕ) (rows : List Row) (are : AreRows rows) (found : KeysAreFound rows) (super_at : MemberKey → ℕ) (units : List (syntax.Unit A))
    (program : AreProgramRows (declarations_of begins units) rows) (written : AreWritten begins units rows (written_members begins rows units))
    (shaped : (n : ℕ) (u : syntax.Unit A) → slice_get units n ≡ Some u → UnitShaped u)
    (sound : (file : ℕ) (k : MemberKey) (b : ℕ) (p : Part A) → IsWritten begins units file k b p → Sound begins rows super_at k b p) where
  abbrev ds : List DeclaredItem
  ds = declarations_of begins units

  abbrev ws : List (WrittenMember A)
  ws = written_members begins rows units

  abbrev Has : MemberKey → Type 0
  Has k = FoundIn ws k

  abbrev search : (k : MemberKey) → Has k ⊎ (Has k → ⊥)
  search k = find_in ws k

  there : (k : MemberKey) (h : Has k) → IsWritten begins units h.0.file k h.0.base h.0.part
  there k h = subst (λ (j : MemberKey). IsWritten begins units h.0.file j h.0.base h.0.part) h.2 (written.each h.0 (in_contains ws h.0 h.1))

  -- one place and one tree for each key
  same_place : (k : MemberKey) (h : Has k) (file b : ℕ) (p : Part A) → IsWritten begins units file k b p → (P : ℕ → Part A → Type 0) → P h.0.base h.0.part → P b p
  same_place k h file b p is P holds =
      let w = written.all file k b p is in
      let same : h.0 ≡ w.0 = written.one h.0 w.0 (in_contains ws h.0 h.1) w.1 (h.2 ∙ sym w.3) in
      subst (λ (q : Part A). P b q) w.5 (subst (λ (n : ℕ). P n w.0.part) w.4 (subst (λ (v : WrittenMember A). P v.base v.part) same holds))

  has_key : (file : ℕ) (k : MemberKey) (b : ℕ) (p : Part A) → IsWritten begins units file k b p → Has k
  has_key file k b p is = let w = written.all file k b p is in (w.0, contains_in ws w.0 w.1, w.3)

  meets : (file : ℕ) (k : MemberKey) (b : ℕ) (p : Part A) → IsWritten begins units file k b p → Meets begins rows super_at ds k b p
  meets file k b p is = classes_meet begins rows super_at ds b p (begins is.unit.mark 0) is.unit.classes k (shaped file is.unit is.stands)
      (λ j n q h. sound file j n q (record { unit = is.unit; stands = is.stands; writes = h })) is.writes

  -- ---- methods

  abbrev MethodAt : MethodKey → ℕ → Part A → core.Method RunKeys → Type 0
  MethodAt k b (class_part c) code = ⊥
  MethodAt k b (member_part x) code = MethodCoded begins ends rows super_at k b x code

  method_at : (k : MethodKey) (b : ℕ) (p : Part A) → Meets begins rows super_at ds (method k) b p → Sound begins rows super_at (method k) b p → (code : core.Method RunKeys) × MethodAt k b p code
  method_at k b (class_part (syntax.class m mods w t ms)) (o, nested, is, shape, fields) clean = absurd cc
  method_at k b (member_part (syntax.field m mods t w init)) (of, nested, name, is, shape) clean = absurd cc
  method_at k b (member_part (syntax.method m mods t w ps body)) (of, nested, name, is, shape) clean = method_stands begins ends rows are found super_at k b m mods t w ps body shape clean
  method_at k b (member_part (syntax.constructor m mods w ps args body)) (of, nested, name, (ts, mean, is), shape) clean = absurd cc
  method_at k b (member_part (syntax.inner m c)) (of, nested, name, is, shape) clean = absurd is

  method_code : (k : MethodKey) (h : Has (method k)) → (code : core.Method RunKeys) × MethodAt k h.0.base h.0.part code
  method_code k h =
      let is = there (method k) h in
      method_at k h.0.base h.0.part (meets h.0.file (method k) h.0.base h.0.part is) (sound h.0.file (method k) h.0.base h.0.part is)

  start_or : Bool → core.Method RunKeys
  start_or true = core.starts
  start_or false = core.written no_code

  method_by : (k : MethodKey) → Has (method k) ⊎ (Has (method k) → ⊥) → core.Method RunKeys
  method_by k (inl h) = (method_code k h).0
  method_by k (inr not) = start_or (same_method k (thread_key (codes "start")))

  -- ---- initializers of a class

  abbrev InitsAt : ClassKey → ℕ → Part A → List StatementCode → Type 0
  InitsAt k b (class_part (syntax.class m mods w t ms)) ss = InitsCoded begins ends rows super_at k (begins m b) ms ss
  InitsAt k b (member_part x) ss = ⊥

  inits_at : (k : ClassKey) (b : ℕ) (p : Part A) → Meets begins rows super_at ds (head k) b p → (ss : List StatementCode) × InitsAt k b p ss
  inits_at k b (class_part (syntax.class m mods w t ms)) (o, nested, is, shape, fields) =
      let same : k ≡ class_key begins o w.text = cc in
      inits_stand begins ends rows are found super_at nested w.text k (begins m b) ms shape (subst (λ (j : ClassKey). SoundFields begins rows super_at j (begins m b) ms) (sym same) fields)
  inits_at k b (member_part (syntax.field m mods t w init)) (of, nested, name, is, shape) = absurd cc
  inits_at k b (member_part (syntax.method m mods t w ps body)) (of, nested, name, (ts, mean, is), shape) = absurd cc
  inits_at k b (member_part (syntax.constructor m mods w ps args body)) (of, nested, name, (ts, mean, is), shape) = absurd cc
  inits_at k b (member_part (syntax.inner m c)) (of, nested, name, is, shape) = absurd is

  class_inits : (k : ClassKey) (h : Has (head k)) → (ss : List StatementCode) × InitsAt k h.0.base h.0.part ss
  class_inits k h = inits_at k h.0.base h.0.part (meets h.0.file (head k) h.0.base h.0.part (there (head k) h))

  inits_by : (k : ClassKey) → Has (head k) ⊎ (Has (head k) → ⊥) → List StatementCode
  inits_by k (inl h) = (class_inits k h).0
  inits_by k (inr not) = []

  inits_of : ClassKey → List StatementCode
  inits_of k = inits_by k (search (head k))

  -- ---- constructors

  abbrev CtorAt : CtorKey → ℕ → List StatementCode → Part A → MemberCode → Type 0
  CtorAt q b inits (class_part c) code = ⊥
  CtorAt q b inits (member_part x) code = ConstructorCoded begins ends rows super_at q b inits x code

  ctor_at : (q : CtorKey) (b : ℕ) (inits : List StatementCode) (p : Part A) → Meets begins rows super_at ds (constructor q) b p → Sound begins rows super_at (constructor q) b p → (code : MemberCode) × CtorAt q b inits p code
  ctor_at q b inits (class_part (syntax.class m mods w t ms)) (o, nested, is, shape, fields) clean = absurd cc
  ctor_at q b inits (member_part (syntax.field m mods t w init)) (of, nested, name, is, shape) clean = absurd cc
  ctor_at q b inits (member_part (syntax.method m mods t w ps body)) (of, nested, name, (ts, mean, is), shape) clean = absurd cc
  ctor_at q b inits (member_part (syntax.constructor m mods w ps args body)) (of, nested, name, is, shape) clean =
      constructor_stands begins ends rows are found super_at q b inits m mods w ps args body shape.1 shape.2 clean
  ctor_at q b inits (member_part (syntax.inner m c)) (of, nested, name, is, shape) clean = absurd is

  ctor_code : (q : CtorKey) (h : Has (constructor q)) → (code : MemberCode) × CtorAt q h.0.base (inits_of q.class) h.0.part code
  ctor_code q h =
      let is = there (constructor q) h in
      ctor_at q h.0.base (inits_of q.class) h.0.part (meets h.0.file (constructor q) h.0.base h.0.part is) (sound h.0.file (constructor q) h.0.base h.0.part is)

  abbrev LacksCtor : Part A → Type 0
  LacksCtor (class_part (syntax.class m mods w t ms)) = writes_ctor begins ms ≡ false
  LacksCtor (member_part x) = ⊥

  lacks_or : (p : Part A) → LacksCtor p ⊎ (LacksCtor p → ⊥)
  lacks_or (class_part (syntax.class m mods w t ms)) = by (writes_ctor begins ms)
    where
      by : (b : Bool) → (b ≡ false) ⊎ ((b ≡ false) → ⊥)
      by true = inr (λ e. cc)
      by false = inl refl
  lacks_or (member_part x) = inr (λ h. h)

  -- the constructor that isn't written, of a class in which none is
  abbrev Default : CtorKey → Type 0
  Default q = (h : Has (head q.class)) × LacksCtor h.0.part × (q.params ≡ [])

  empty_or : (ts : List Ty) → (ts ≡ []) ⊎ ((ts ≡ []) → ⊥)
  empty_or [] = inl refl
  empty_or (t ∷ ts) = inr (λ e. cc)

  default_or : (q : CtorKey) → Default q ⊎ (Default q → ⊥)
  default_or q = by (search (head q.class))
    where
      by : Has (head q.class) ⊎ (Has (head q.class) → ⊥) → Default q ⊎ (Default q → ⊥)
      by (inr not) = inr (λ d. not d.0)
      by (inl h) = elim (lacks_or h.0.part) [
        | inl lacks ↦ elim (empty_or q.params) [
          | inl none ↦ inl (h, lacks, none)
          | inr some ↦ inr (λ d. some d.2)
        ]
        | inr writes ↦ inr (λ d. writes (let is = there (head q.class) h in same_place (head q.class) d.0 h.0.file h.0.base h.0.part is (λ b p. LacksCtor p) d.1))
      ]

  default_at : (of : ClassKey) (inits : List StatementCode) (b : ℕ) (p : Part A) → LacksCtor p → Sound begins rows super_at (head of) b p → (code : MemberCode) × DefaultCoded begins ends rows super_at of inits code
  default_at of inits b (class_part (syntax.class m mods w t ms)) lacks clean = default_stands begins ends rows are found super_at of inits b m mods w t ms lacks clean
  default_at of inits b (member_part x) lacks clean = absurd lacks

  default_code : (q : CtorKey) (d : Default q) → (code : MemberCode) × DefaultCoded begins ends rows super_at q.class (inits_of q.class) code
  default_code q d = default_at q.class (inits_of q.class) d.0.0.base d.0.0.part d.1 (sound d.0.0.file (head q.class) d.0.0.base d.0.0.part (there (head q.class) d.0))

  ctor_by : (q : CtorKey) → Default q ⊎ (Default q → ⊥) → Has (constructor q) ⊎ (Has (constructor q) → ⊥) → MemberCode
  ctor_by q (inl d) o = (default_code q d).0
  ctor_by q (inr no_default) (inl h) = (ctor_code q h).0
  ctor_by q (inr no_default) (inr not) = no_code

  pub resolved : core.Program RunKeys
  resolved = record {
    rows = run_rows rows;
    method = λ k. method_by k (search (method k));
    constructor = λ q. ctor_by q (default_or q) (search (constructor q));
  }

  -- ---- what is written has this code

  method_is : (file : ℕ) (k : MethodKey) (b : ℕ) (x : syntax.Member A) → IsWritten begins units file (method k) b (member_part x) → MethodCoded begins ends rows super_at k b x (method_by k (search (method k)))
  unfolding method_by
  method_is file k b x is = by (search (method k))
    where
      by : (o : Has (method k) ⊎ (Has (method k) → ⊥)) → MethodCoded begins ends rows super_at k b x (method_by k o)
      by (inl h) = same_place (method k) h file b (member_part x) is (λ n p. MethodAt k n p (method_code k h).0) (method_code k h).1
      by (inr not) = absurd (not (has_key file (method k) b (member_part x) is))

  inits_are : (file : ℕ) (k : ClassKey) (b : ℕ) (m : A) (mods : List (syntax.Modifier A)) (w : tree.Word A) (t : Option (tree.TypeName A)) (ms : syntax.Members A)
      → IsWritten begins units file (head k) b (class_part (syntax.class m mods w t ms)) → InitsCoded begins ends rows super_at k (begins m b) ms (inits_of k)
  unfolding inits_of inits_by
  inits_are file k b m mods w t ms is = by (search (head k))
    where
      by : (o : Has (head k) ⊎ (Has (head k) → ⊥)) → InitsCoded begins ends rows super_at k (begins m b) ms (inits_by k o)
      by (inl h) = same_place (head k) h file b (class_part (syntax.class m mods w t ms)) is (λ n p. InitsAt k n p (class_inits k h).0) (class_inits k h).1
      by (inr not) = absurd (not (has_key file (head k) b (class_part (syntax.class m mods w t ms)) is))

  default_is : (file : ℕ) (k : ClassKey) (b : ℕ) (m : A) (mods : List (syntax.Modifier A)) (w : tree.Word A) (t : Option (tree.TypeName A)) (ms : syntax.Members A)
      → IsWritten begins units file (head k) b (class_part (syntax.class m mods w t ms)) → writes_ctor begins ms ≡ false
      → DefaultCoded begins ends rows super_at k (inits_of k) (ctor_by (record { class = k; params = [] }) (default_or (record { class = k; params = [] })) (search (constructor (record { class = k; params = [] }))))
  unfolding ctor_by
  default_is file k b m mods w t ms is none = by (default_or (record { class = k; params = [] }))
    where
      lacks : (h : Has (head k)) → LacksCtor h.0.part
      lacks h =
          let v = written.all file (head k) b (class_part (syntax.class m mods w t ms)) is in
          let same : v.0 ≡ h.0 = written.one v.0 h.0 v.1 (in_contains ws h.0 h.1) (v.3 ∙ sym h.2) in
          subst (λ (z : WrittenMember A). LacksCtor z.part) same (subst LacksCtor (sym v.5) none)

      by : (o : Default (record { class = k; params = [] }) ⊎ (Default (record { class = k; params = [] }) → ⊥)) → DefaultCoded begins ends rows super_at k (inits_of k) (ctor_by (record { class = k; params = [] }) o (search (constructor (record { class = k; params = [] }))))
      by (inl d) = (default_code (record { class = k; params = [] }) d).1
      by (inr not) = (let h = has_key file (head k) b (class_part (syntax.class m mods w t ms)) is in absurd (not (h, lacks h, refl)))

  ctor_is : (file : ℕ) (q : CtorKey) (b : ℕ) (x : syntax.Member A) → IsWritten begins units file (constructor q) b (member_part x) → (Default q → ⊥)
      → ConstructorCoded begins ends rows super_at q b (inits_of q.class) x (ctor_by q (default_or q) (search (constructor q)))
  unfolding ctor_by
  ctor_is file q b x is never = by (default_or q) (search (constructor q))
    where
      by : (o : Default q ⊎ (Default q → ⊥)) (s : Has (constructor q) ⊎ (Has (constructor q) → ⊥)) → ConstructorCoded begins ends rows super_at q b (inits_of q.class) x (ctor_by q o s)
      by (inl d) s = absurd (never d)
      by (inr not) (inl h) = same_place (constructor q) h file b (member_part x) is (λ n p. CtorAt q n (inits_of q.class) p (ctor_code q h).0) (ctor_code q h).1
      by (inr not) (inr none) = absurd (none (has_key file (constructor q) b (member_part x) is))

  -- ---- all trees

  abbrev Lifts : ((MemberKey → ℕ → Part A → Type 0) → MemberKey → Type 0) → ℕ → Type 0
  Lifts In file = (k : MemberKey) (b : ℕ) (p : Part A) → In (IsAt b p) k → IsWritten begins units file k b p

  -- a class in which a constructor stands has no unwritten one
  no_default : (file : ℕ) (q : CtorKey) (k : ClassKey) → q.class ≡ k → (b : ℕ) (m : A) (mods : List (syntax.Modifier A)) (w : tree.Word A) (t : Option (tree.TypeName A)) (ms : syntax.Members A)
      → IsWritten begins units file (head k) b (class_part (syntax.class m mods w t ms)) → writes_ctor begins ms ≡ true → Default q → ⊥
  no_default file q k same b m mods w t ms is writes d =
      let lacks : writes_ctor begins ms ≡ false = same_place (head q.class) d.0 file b (class_part (syntax.class m mods w t ms)) (subst (λ (j : ClassKey). IsWritten begins units file (head j) b (class_part (syntax.class m mods w t ms))) (sym same) is) (λ n p. LacksCtor p) d.1 in
      let e = sym writes ∙ lacks in
      absurd cc

  class_of_ctor : (b : ℕ) (of : ClassKey) (x : syntax.Member A) (q : CtorKey) → Declares begins ds b of x (constructor q) → q.class ≡ of
  class_of_ctor b of (syntax.field m mods t w init) q is = absurd cc
  class_of_ctor b of (syntax.method m mods t w ps body) q (ts, mean, is) = absurd cc
  class_of_ctor b of (syntax.constructor m mods w ps args body) q (ts, mean, is) = cc
  class_of_ctor b of (syntax.inner m c) q is = absurd is

  writes_here : (b : ℕ) (of : ClassKey) (x : syntax.Member A) (xs : syntax.Members A) (q : CtorKey) → Declares begins ds b of x (constructor q) → writes_ctor begins (syntax.more x xs) ≡ true
  writes_here b of (syntax.field m mods t w init) xs q is = absurd cc
  writes_here b of (syntax.method m mods t w ps body) xs q (ts, mean, is) = absurd cc
  writes_here b of (syntax.constructor m mods w ps args body) xs q is = refl
  writes_here b of (syntax.inner m c) xs q is = absurd is

  writes_later : (x : syntax.Member A) (xs : syntax.Members A) → writes_ctor begins xs ≡ true → writes_ctor begins (syntax.more x xs) ≡ true
  writes_later (syntax.field m mods t w init) xs h = h
  writes_later (syntax.method m mods t w ps body) xs h = h
  writes_later (syntax.constructor m mods w ps args body) xs h = refl
  writes_later (syntax.inner m c) xs h = h

  mutual
    unfolding ClassCoded MembersCoded InnerCoded InClass InMembers InInner resolved

    class_coded : (file b : ℕ) (o : Option (List ℕ)) (c : syntax.Class A) → Lifts (λ P k. InClass begins ds P b o c k) file → ClassCoded begins ends rows super_at ds resolved b o c
    class_coded file b o (syntax.class m mods w t ms) up =
        let is = up (head (class_key begins o w.text)) b (class_part (syntax.class m mods w t ms)) (inl (refl, (refl, refl))) in (
          inits_of (class_key begins o w.text),
          inits_are file (class_key begins o w.text) b m mods w t ms is,
          default_is file (class_key begins o w.text) b m mods w t ms is,
          members_coded file (begins m b) (class_key begins o w.text) ms (λ k n p h. up k n p (inr h)) (λ q same writes. no_default file q (class_key begins o w.text) same b m mods w t ms is writes),
        )

    members_coded : (file b : ℕ) (of : ClassKey) (xs : syntax.Members A) → Lifts (λ P k. InMembers begins ds P b of xs k) file → ((q : CtorKey) → q.class ≡ of → writes_ctor begins xs ≡ true → Default q → ⊥)
        → MembersCoded begins ends rows super_at ds resolved b of (inits_of of) xs
    members_coded file b of syntax.end up never = tt
    members_coded file b of (syntax.more x xs) up never = (
      inner_coded file b of x (λ k n p h. up k n p (inl (inr h))),
      (
        (λ k declares. method_is file k b x (up (method k) b (member_part x) (inl (inl (declares, (refl, refl)))))),
        (λ q declares. (let same = class_of_ctor b of x q declares in subst (λ (j : ClassKey). ConstructorCoded begins ends rows super_at q b (inits_of j) x (ctor_by q (default_or q) (search (constructor q)))) same
            (ctor_is file q b x (up (constructor q) b (member_part x) (inl (inl (declares, (refl, refl))))) (never q same (writes_here b of x xs q declares))))),
      ),
      members_coded file b of xs (λ k n p h. up k n p (inr h)) (λ q same writes. never q same (writes_later x xs writes)),
    )

    inner_coded : (file b : ℕ) (of : ClassKey) (x : syntax.Member A) → Lifts (λ P k. InInner begins ds P b of x k) file → InnerCoded begins ends rows super_at ds resolved b of x
    inner_coded file b of (syntax.inner m c) up = class_coded file (begins m b) (Some of.name) c up
    inner_coded file b of (syntax.field m mods t w init) up = tt
    inner_coded file b of (syntax.method m mods t w ps body) up = tt
    inner_coded file b of (syntax.constructor m mods w ps args body) up = tt

  classes_coded : (file b : ℕ) (cs : List (syntax.Class A)) → Lifts (λ P k. InClasses begins ds P b cs k) file → ClassesCoded begins ends rows super_at ds resolved b cs
  classes_coded file b [] up = tt
  classes_coded file b (c ∷ cs) up = (class_coded file b None c (λ k n p h. up k n p (inl h)), classes_coded file b cs (λ k n p h. up k n p (inr h)))

  units_coded : (us : List (syntax.Unit A)) → ((n : ℕ) (u : syntax.Unit A) → slice_get us n ≡ Some u → (file : ℕ) × (slice_get units file ≡ Some u)) → UnitsCoded begins ends rows super_at ds resolved us
  units_coded [] at = tt
  units_coded (u ∷ us) at =
      let here = at 0 u refl in
      (classes_coded here.0 (begins u.mark 0) u.classes (λ k b p h. record { unit = u; stands = here.1; writes = h }), units_coded us (λ n v e. at (suc n) v e))

  -- ---- the prelude, and what isn't declared

  number_is : (k : MemberKey) (h : Has k) → number_of rows (decl_of_member k) ≡ Some h.0.row
  number_is k h = subst (λ (j : MemberKey). number_of rows (decl_of_member j) ≡ Some h.0.row) h.2 (written.row h.0 (in_contains ws h.0 h.1))

  has_row : (k : MemberKey) → Has k → HasRow rows (decl_of_member k)
  has_row k h = (h.0.row, number_stands rows (decl_of_member k) h.0.row (number_is k h))

  never_written : (k : MemberKey) (n : ℕ) → n < length prelude_rows → IsRowOf rows (decl_of_member k) n → Has k → ⊥
  never_written k n less i h = not_prelude begins rows are units h.0 (in_contains ws h.0 h.1) (written.row h.0 (in_contains ws h.0 h.1)) n less (subst (λ (j : MemberKey). IsRowOf rows (decl_of_member j) n) (sym h.2) i)

  no_method_code : (k : MethodKey) → (Has (method k) → ⊥) → method_by k (search (method k)) ≡ start_or (same_method k (thread_key (codes "start")))
  unfolding method_by
  no_method_code k never = by (search (method k))
    where
      by : (o : Has (method k) ⊎ (Has (method k) → ⊥)) → method_by k o ≡ start_or (same_method k (thread_key (codes "start")))
      by (inl h) = absurd (never h)
      by (inr not) = refl

  no_ctor_code : (q : CtorKey) → (Default q → ⊥) → (Has (constructor q) → ⊥) → ctor_by q (default_or q) (search (constructor q)) ≡ no_code
  unfolding ctor_by
  no_ctor_code q no_default never = by (default_or q) (search (constructor q))
    where
      by : (o : Default q ⊎ (Default q → ⊥)) (s : Has (constructor q) ⊎ (Has (constructor q) → ⊥)) → ctor_by q o s ≡ no_code
      by (inl d) s = absurd (no_default d)
      by (inr not) (inl h) = absurd (never h)
      by (inr not) (inr none) = refl

  start_row : IsRowOf rows (method_decl (thread_key (codes "start"))) 7
  start_row = prelude_row rows are 7 (thread_row (word.Public ∷ []) (codes "start")) (method_decl (thread_key (codes "start"))) refl refl

  has_prelude : HasPrelude resolved
  unfolding resolved start_or
  has_prelude = record {
    object = no_ctor_code (record { class = object_key; params = [] }) (λ d. never_written (head object_key) 0 (omega arith) (prelude_row rows are 0 (class_row [] (codes "Object") None) (class_decl object_key) refl refl) d.0)
        (never_written (constructor (record { class = object_key; params = [] })) 1 (omega arith) (prelude_row rows are 1 (ctor_row [] object_key) (constructor_decl (record { class = object_key; params = [] })) refl refl));
    thread = no_ctor_code (record { class = top_key (codes "Thread"); params = [] }) (λ d. never_written (head (top_key (codes "Thread"))) 4 (omega arith) (prelude_row rows are 4 (class_row [] (codes "Thread") (Some object_key)) (class_decl (top_key (codes "Thread"))) refl refl) d.0)
        (never_written (constructor (record { class = top_key (codes "Thread"); params = [] })) 5 (omega arith) (prelude_row rows are 5 (ctor_row [] (top_key (codes "Thread"))) (constructor_decl (record { class = top_key (codes "Thread"); params = [] })) refl refl));
    run = no_method_code (thread_key (codes "run")) (never_written (method (thread_key (codes "run"))) 6 (omega arith) (prelude_row rows are 6 (thread_row (word.Public ∷ []) (codes "run")) (method_decl (thread_key (codes "run"))) refl refl)) ∙ refl;
    start = no_method_code (thread_key (codes "start")) (never_written (method (thread_key (codes "start"))) 7 (omega arith) start_row) ∙ refl;
  }

  -- a constructor that isn't written has a row
  default_row : (q : CtorKey) → Default q → HasRow rows (constructor_decl q)
  default_row q d = by d.0.0.part d.1 (written_sited begins units d.0.0.file (head q.class) d.0.0.base d.0.0.part (there (head q.class) d.0))
    where
      by : (p : Part A) → LacksCtor p → StandsDeclared begins ds (head q.class) d.0.0.base p → HasRow rows (constructor_decl q)
      by (class_part (syntax.class m mods w t ms)) lacks (o, is, (n, file, stands)) =
          let class_is : class_key begins o w.text ≡ q.class = cc in
          let key : record { class = class_key begins o w.text; params = [] } ≡ q = λ i. record { class = class_is i; params = sym d.2 i } in
          subst (λ (z : CtorKey). HasRow rows (constructor_decl z)) key (unwritten_stands ds rows program n file _ (class_key begins o w.text) _ _ (writes_ctor begins ms) lacks stands)
      by (member_part x) lacks h = absurd lacks

  no_start : (k : MethodKey) → (HasRow rows (method_decl k) → ⊥) → (b : Bool) → same_method k (thread_key (codes "start")) ≡ b → start_or b ≡ core.written no_code
  unfolding start_or
  no_start k not true e = absurd (not (subst (λ (z : MethodKey). HasRow rows (method_decl z)) (sym ((method_decides k (thread_key (codes "start"))).0 e)) (7, start_row)))
  no_start k not false e = refl

  no_more : HasNoMore rows resolved
  unfolding resolved
  no_more = record {
    method = λ k not. no_method_code k (λ h. not (has_row (method k) h)) ∙ no_start k not (same_method k (thread_key (codes "start"))) refl;
    constructor = λ q not. no_ctor_code q (λ d. not (default_row q d)) (λ h. not (has_row (constructor q) h));
  }

  pub resolved_is : IsCodeOf begins ends rows super_at units resolved
  unfolding resolved
  resolved_is = record {
    declarations = are_run_rows rows are;
    members = units_coded units (λ n u e. (n, e));
    prelude = has_prelude;
    others = no_more;
  }
