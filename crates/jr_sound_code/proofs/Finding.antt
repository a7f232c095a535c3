-- What a lookup finds is of its sort and has a row; a member stands in the class that is looked in or above it, and arguments fit.
use Rattle.std.proofs.Common.{◌≡◌, ◌≢◌, ℕ, ◌<◌, List, [], ◌∷◌, length, map, Option, Some, None, Bool, true, false, refl, sym, ap, subst, ◌∙◌, inl, inr, arith, eq-eqb, eqb-true}
use Rattle.std.specs.Prelude.{◌⊎◌, nat_eq, slice_get, unwrap_or, option_and_then}
use Rattle.std.specs.List.{list_any}
use Rattle.std.proofs.lemmas.Option.{slice_get_within}
use Rattle.jr_table.specs.declared.answers.Answer.TheVariants as number
use Rattle.jr_table.specs.declared.entries.Kind.{Kind}
use Rattle.jr_table.specs.declared.entries.Kind.TheVariants as kind
use Rattle.jr_table.specs.declared.entries.Sort.TheVariants as sort
use Rattle.jr_table.specs.declared.entries.Entry.{Entry}
use Rattle.jr_table.specs.Keys.{ClassKey, FieldKey, MethodKey, CtorKey, Ty, int, boolean, void, null, class}
use Rattle.jr_table.specs.Decls.{LocalKey, Decl, class_decl, field_decl, method_decl, constructor_decl, local_decl}
use Rattle.jr_table.specs.Rows.{Row}
use Rattle.jr_table.specs.Entries.{IsRowOf, number_of, class_number, kind_of, sort_of, class_of, params_of, entry_of, entries_of, is_static_word}
use Rattle.jr_table.specs.Conditions.{AreRows, TypesName, as_declarer, as_parameter}
use Rattle.jr_table.specs.Chains.{IsChain, GoesUp, In, IsSubclassAt, parent_of}
use Rattle.jr_table.specs.Members.{MemberAmong, IsMemberField, DeclaresField, DeclaresMethod}
use Rattle.jr_table.specs.Access.{IsInstance, LacksObject}
use Rattle.jr_table.specs.Calls.{IsAssignableAt, Fit, IsMethodCandidate, IsCtorCandidate}
use Rattle.jr_table.specs.Keyed.{IsSubclass, IsAssignable}
use Rattle.jr_table.specs.Found.{one}
use Rattle.jr_table.specs.Scope.{Scope, FindsLocal}
use Rattle.jr_table.specs.Lookup.{FindsVariable, FindsFieldIn, FindsMethodNamed, FindsMethodOf, FindsCtorOf}
use Rattle.jr_table.specs.Context.{IsStaticDecl, IsInstanceDecl}
use Rattle.jr_table.proofs.RowLaws.{number_stands, within, row_at, entry_stands, as_many}
use Rattle.jr_table.proofs.OneEach.{is_field_decl, is_method_decl, class_stands, one_class}

-- each type is assignable to the one of its place
abbrev pub AllAssign : List Row → List Ty → List Ty → Type 0
AllAssign rows [] [] = Unit {0}
AllAssign rows (s ∷ ss) (t ∷ ts) = IsAssignable rows s t × AllAssign rows ss ts
AllAssign rows _ _ = ⊥

-- a declaration with a row has the word `static` or lacks it
pub static_or : (rows : List Row) (d : Decl) (j : ℕ) → IsRowOf rows d j → IsStaticDecl rows d ⊎ IsInstanceDecl rows d
static_or rows d j i = by (list_any is_static_word i.row.modifiers) refl
  where
    by : (b : Bool) → list_any is_static_word i.row.modifiers ≡ b → IsStaticDecl rows d ⊎ IsInstanceDecl rows d
    by true e = inl (j, i, e)
    by false e = inr (j, i, e)

pub is_ctor_decl : (d : Decl) → sort_of d ≡ sort.Ctor → (k : CtorKey) × (d ≡ constructor_decl k)
is_ctor_decl (constructor_decl k) e = (k, refl)
is_ctor_decl (method_decl k) e = absurd cc
is_ctor_decl (field_decl k) e = absurd cc
is_ctor_decl (class_decl k) e = absurd cc
is_ctor_decl (local_decl k) e = absurd cc

no_more : {X : Type 0} (xs : List X) (n : ℕ) (x : X) → n ≡ length xs → slice_get xs n ≡ Some x → ⊥
no_more xs n x e h = let less = slice_get_within xs n x h in omega (arith, e, less)

-- a member is declared in one of the classes
pub member_own : (es : List Entry) (Own : ℕ → ℕ → Type 0) (chain : List ℕ) (j : ℕ) → MemberAmong es Own chain j → (e : ℕ) × In chain e × Own e j
member_own es Own [] j h = absurd h
member_own es Own (c ∷ cs) j (inl own) = (c, inl refl, own)
member_own es Own (c ∷ cs) j (inr (not, above, shown)) = let m = member_own es Own cs j above in (m.0, inr m.1, m.2)

-- from a number that no row has, nothing is above
top_alone : (es : List Entry) (c : ℕ) (chain : List ℕ) → c ≡ length es → IsChain es c chain → (e : ℕ) → In chain e → c ≡ e
top_alone es c [] is up e h = absurd up
top_alone es c (d ∷ ds) is up e (inl same) = up.0 ∙ same
top_alone es c (d ∷ ds) is up e (inr later) = by (parent_of es c) refl up.1
  where
    none : (ds : List ℕ) → ds ≡ [] → In ds e → ⊥
    none [] is h = h
    none (x ∷ xs) is h = absurd cc

    empty : (o : Option Entry) → slice_get es c ≡ o → parent_of es c ≡ None
    empty None e = ap (option_and_then (λ (r : Entry). r.parent)) e
    empty (Some r) e = absurd (no_more es c r is e)

    by : (o : Option ℕ) → parent_of es c ≡ o → GoesUp o ds (λ p. IsChain es p ds) → c ≡ e
    by None at h = absurd (none ds h later)
    by (Some p) at h = let q : None ≡ Some p = sym (empty (slice_get es c) refl) ∙ at in absurd cc

module _ (rows : List Row) (are : AreRows rows) where
  abbrev es : List Entry
  es = entries_of rows

  abbrev pub ClassStands : ClassKey → Type 0
  ClassStands k = (n : ℕ) × IsRowOf rows (class_decl k) n

  -- a class whose number is below the end has a row
  numbered : (k : ClassKey) → class_number rows k < length rows → ClassStands k
  numbered k less = by (number_of rows (class_decl k)) refl
    where
      by : (o : Option ℕ) → number_of rows (class_decl k) ≡ o → ClassStands k
      by None e = (let same = ap (λ (o : Option ℕ). unwrap_or o (length rows)) e in absurd (omega (arith, less, same)))
      by (Some n) e = (n, number_stands rows (class_decl k) n e)

  class_within : (k : ClassKey) (n : ℕ) → IsRowOf rows (class_decl k) n → class_number rows k < length rows
  class_within k n i = subst (λ (m : ℕ). m < length rows) (sym (class_stands rows are k n i)) (within rows (class_decl k) n i)

  -- a class that has the number of a row's is that class
  same_class_of : (j k : ClassKey) → ClassStands k → class_number rows j ≡ class_number rows k → j ≡ k
  same_class_of j k (n, i) e =
      let s = numbered j (subst (λ (m : ℕ). m < length rows) (sym e) (class_within k n i)) in
      one_class rows are j k s.0 n s.1 i e

  one_row : (d e : Decl) (j : ℕ) (x : IsRowOf rows d j) (y : IsRowOf rows e j) → d ≡ e
  one_row d e j x y = let both : Some x.row ≡ Some y.row = sym x.stands ∙ y.stands in let same : x.row ≡ y.row = cc in sym x.declares ∙ ap (λ (r : Row). r.decl) same ∙ y.declares

  pub declarer : (d : Decl) (j : ℕ) → IsRowOf rows d j → ClassStands (class_of d)
  declarer d j i = subst (λ (z : Decl). ClassStands (class_of z)) i.declares (are.named j i.row (class_of i.row.decl) i.stands (as_declarer refl))

  -- below by numbers is below
  pub subclass_at : (c d : ClassKey) → ClassStands d → IsSubclassAt es (class_number rows c) (class_number rows d) → IsSubclass rows c d
  subclass_at c d (m, over) climbs = by (number_of rows (class_decl c)) refl
    where
      top : class_number rows d < length rows
      top = class_within d m over

      by : (o : Option ℕ) → number_of rows (class_decl c) ≡ o → IsSubclass rows c d
      by None e =
          let last : class_number rows c ≡ length rows = ap (λ (o : Option ℕ). unwrap_or o (length rows)) e in
          let same = top_alone es (class_number rows c) climbs.chain (last ∙ sym (as_many rows)) climbs.goes_up (class_number rows d) climbs.among in
          absurd (omega (arith, last, same, top))
      by (Some n) e =
          let below = number_stands rows (class_decl c) n e in
          record {
            c = n;
            d = m;
            below = below;
            over = over;
            climbs = subst (λ (x : ℕ). IsSubclassAt es x m) (class_stands rows are c n below) (subst (λ (y : ℕ). IsSubclassAt es (class_number rows c) y) (class_stands rows are d m over) climbs);
          }

  -- ---- assignable by kinds

  abbrev Stands : Ty → Type 0
  Stands t = (k : ClassKey) → t ≡ class k → ClassStands k

  one_number : (a b : ℕ) → kind.Class a ≡ kind.Class b → a ≡ b
  one_number a b e = cc

  assigns_at : (s t : Ty) → Stands t → IsAssignableAt es (kind_of rows s) (kind_of rows t) → IsAssignable rows s t
  assigns_at int int known h = inl refl
  assigns_at int boolean known (inl e) = absurd cc
  assigns_at int boolean known (inr w) = absurd w
  assigns_at int void known (inl e) = absurd cc
  assigns_at int void known (inr w) = absurd w
  assigns_at int null known (inl e) = absurd cc
  assigns_at int null known (inr w) = absurd w
  assigns_at int (class k) known (inl e) = absurd cc
  assigns_at int (class k) known (inr w) = absurd w
  assigns_at boolean int known (inl e) = absurd cc
  assigns_at boolean int known (inr w) = absurd w
  assigns_at boolean boolean known h = inl refl
  assigns_at boolean void known (inl e) = absurd cc
  assigns_at boolean void known (inr w) = absurd w
  assigns_at boolean null known (inl e) = absurd cc
  assigns_at boolean null known (inr w) = absurd w
  assigns_at boolean (class k) known (inl e) = absurd cc
  assigns_at boolean (class k) known (inr w) = absurd w
  assigns_at void int known (inl e) = absurd cc
  assigns_at void int known (inr w) = absurd w
  assigns_at void boolean known (inl e) = absurd cc
  assigns_at void boolean known (inr w) = absurd w
  assigns_at void void known h = inl refl
  assigns_at void null known (inl e) = absurd cc
  assigns_at void null known (inr w) = absurd w
  assigns_at void (class k) known (inl e) = absurd cc
  assigns_at void (class k) known (inr w) = absurd w
  assigns_at null int known (inl e) = absurd cc
  assigns_at null int known (inr w) = absurd w
  assigns_at null boolean known (inl e) = absurd cc
  assigns_at null boolean known (inr w) = absurd w
  assigns_at null void known (inl e) = absurd cc
  assigns_at null void known (inr w) = absurd w
  assigns_at null null known h = inl refl
  assigns_at null (class k) known h = inr tt
  assigns_at (class j) int known (inl e) = absurd cc
  assigns_at (class j) int known (inr w) = absurd w
  assigns_at (class j) boolean known (inl e) = absurd cc
  assigns_at (class j) boolean known (inr w) = absurd w
  assigns_at (class j) void known (inl e) = absurd cc
  assigns_at (class j) void known (inr w) = absurd w
  assigns_at (class j) null known (inl e) = absurd cc
  assigns_at (class j) null known (inr w) = absurd w
  assigns_at (class j) (class k) known (inl e) = inl (ap class (same_class_of j k (known k refl) (one_number (class_number rows j) (class_number rows k) e)))
  assigns_at (class j) (class k) known (inr below) = inr (subclass_at j k (known k refl) below)

  all_assign : (ss ts : List Ty) → ((k : ClassKey) → TypesName ts k → ClassStands k) → Fit es (map (kind_of rows) ss) (map (kind_of rows) ts) → AllAssign rows ss ts
  all_assign [] [] known h = tt
  all_assign [] (t ∷ ts) known h = absurd h
  all_assign (s ∷ ss) [] known h = absurd h
  all_assign (s ∷ ss) (t ∷ ts) known h = (assigns_at s t (λ k e. known k (inl e)) h.0, all_assign ss ts (λ k n. known k (inr n)) h.1)

  -- the types of parameters stand
  pub params_stand : (d : Decl) (j : ℕ) → IsRowOf rows d j → (k : ClassKey) → TypesName (params_of d) k → ClassStands k
  params_stand d j i k named = are.named j i.row k i.stands (as_parameter (subst (λ (z : Decl). TypesName (params_of z) k) (sym i.declares) named))

  -- ---- fields

  pub record FieldThere (d : Decl) : Type 0 where
    pub key : FieldKey
    pub is : d ≡ field_decl key
    pub number : ℕ
    pub row : IsRowOf rows (field_decl key) number

  field_of_row : (d : Decl) (name : List ℕ) (c j : ℕ) → IsRowOf rows d j → DeclaresField es name c j → FieldThere d
  field_of_row d name c j i own =
      let at = row_at rows j own.row own.stands in
      let both : Some at.row ≡ Some i.row = sym at.stands ∙ i.stands in
      let same : at.row ≡ i.row = cc in
      by (is_field_decl d (ap sort_of (sym i.declares) ∙ ap (λ (r : Row). sort_of r.decl) (sym same) ∙ sym (ap (λ (e : Entry). e.sort) at.is) ∙ own.field))
    where
      by : (k : FieldKey) × (d ≡ field_decl k) → FieldThere d
      by (k, is) = record { key = k; is = is; number = j; row = subst (λ (z : Decl). IsRowOf rows z j) is i }

  member_field : (d : Decl) (name : List ℕ) (c j : ℕ) → IsRowOf rows d j → IsMemberField es name c j → FieldThere d
  member_field d name c j i m = let own = member_own es (DeclaresField es name) m.chain j m.among in field_of_row d name own.0 j i own.2

  pub field_in : (s : Scope) (of : ClassKey) (name : List ℕ) (d : Decl) → FindsFieldIn rows s of name (one d) → FieldThere d
  field_in s of name d (number.One j, finds, shows) = member_field d name (class_number rows of) j shows finds.0
  field_in s of name d (number.Nothing, finds, shows) = absurd shows
  field_in s of name d (number.Many j k, finds, shows) = absurd shows
  field_in s of name d (number.NotAccessible j, finds, shows) = absurd shows
  field_in s of name d (number.FromStatic j, finds, shows) = absurd shows

  -- an entry without the word `static` is of an instance
  instance_at : (d : Decl) (j : ℕ) → IsRowOf rows d j → IsInstanceDecl rows d → IsInstance es j
  instance_at d j i (n, x, lacks) =
      let same : n ≡ j = are.one_each d n j x i in
      let rows_same : Some x.row ≡ Some i.row = sym x.stands ∙ ap (slice_get rows) same ∙ i.stands in
      let row_same : x.row ≡ i.row = cc in
      record {
        row = entry_of rows i.row;
        stands = entry_stands rows j i.row i.stands;
        instance = ap (λ (r : Row). list_any is_static_word r.modifiers) (sym row_same) ∙ lacks;
      }

  -- what a simple name finds: a local, or a field; an instance's field where there is an object
  abbrev pub VariableThere : Scope → List ℕ → Decl → Type 0
  VariableThere s name d = ((k : LocalKey) × FindsLocal s.locals name k × (d ≡ local_decl k)) ⊎ ((f : FieldThere d) × (IsInstanceDecl rows d → s.is_static ≡ false))

  has_object : (d : Decl) (j place e : ℕ) (b : Bool) → IsRowOf rows d j → (LacksObject es place b e j → ⊥) → IsInstanceDecl rows d → b ≡ false
  has_object d j place e true i lacks h = absurd (lacks (instance_at d j i h, inl refl))
  has_object d j place e false i lacks h = refl

  inside_one : (x y : Decl) → one x ≡ one y → x ≡ y
  inside_one x y e = cc

  pub variable_there : (s : Scope) (name : List ℕ) (d : Decl) → FindsVariable rows s name (one d) → VariableThere s name d
  variable_there s name d (inl (k, finds, is)) = inl (k, finds, inside_one d (local_decl k) is)
  variable_there s name d (inr (none, (number.One j, (e, inner, m, lacks), shows))) =
      inr (member_field d name e j shows m, has_object d j (class_number rows s.class) e s.is_static shows lacks)
  variable_there s name d (inr (none, (number.Nothing, finds, shows))) = absurd shows
  variable_there s name d (inr (none, (number.Many j k, finds, shows))) = absurd shows
  variable_there s name d (inr (none, (number.NotAccessible j, finds, shows))) = absurd shows
  variable_there s name d (inr (none, (number.FromStatic j, finds, shows))) = absurd shows

  -- ---- methods

  pub record MethodThere (of : ClassKey) (ts : List Ty) (d : Decl) : Type 0 where
    pub key : MethodKey
    pub is : d ≡ method_decl key
    pub number : ℕ
    pub row : IsRowOf rows (method_decl key) number
    pub above : IsSubclass rows of key.class
    pub fit : AllAssign rows ts key.params

  -- the row at a number, by its entry
  the_row : (d : Decl) (j : ℕ) (e : Entry) → IsRowOf rows d j → slice_get es j ≡ Some e → (r : Row) × (r.decl ≡ d) × (e ≡ entry_of rows r)
  the_row d j e i stands =
      let at = row_at rows j e stands in
      let both : Some at.row ≡ Some i.row = sym at.stands ∙ i.stands in
      let same : at.row ≡ i.row = cc in
      (at.row, ap (λ (r : Row). r.decl) same ∙ i.declares, at.is)

  method_at : (of : ClassKey) (ts : List Ty) (d : Decl) (name : List ℕ) (c j : ℕ) → c ≡ class_number rows of → IsRowOf rows d j → IsMethodCandidate es c name (map (kind_of rows) ts) j → MethodThere of ts d
  method_at of ts d name c j c_is i candidate =
      let own = member_own es (DeclaresMethod es name candidate.params) candidate.own.chain j candidate.own.among in
      let at = the_row d j own.2.row i own.2.stands in
      let sort_is : sort_of d ≡ sort.Method = ap sort_of (sym at.1) ∙ sym (ap (λ (e : Entry). e.sort) at.2) ∙ own.2.method in
      let k = is_method_decl d sort_is in
      let row : IsRowOf rows (method_decl k.0) j = subst (λ (z : Decl). IsRowOf rows z j) k.1 i in
      let decl_is : at.0.decl ≡ method_decl k.0 = at.1 ∙ k.1 in
      let takes : candidate.params ≡ map (kind_of rows) k.0.params = sym own.2.takes ∙ ap (λ (e : Entry). e.params) at.2 ∙ ap (λ (z : Decl). map (kind_of rows) (params_of z)) decl_is in
      let declared_in : own.0 ≡ class_number rows k.0.class = sym own.2.class ∙ ap (λ (e : Entry). e.class) at.2 ∙ ap (λ (z : Decl). class_number rows (class_of z)) decl_is in
      let climbs : IsSubclassAt es c own.0 = record { chain = candidate.own.chain; goes_up = candidate.own.goes_up; among = own.1 } in
      record {
        key = k.0;
        is = k.1;
        number = j;
        row = row;
        above = subclass_at of k.0.class (declarer (method_decl k.0) j row) (subst (λ (x : ℕ). IsSubclassAt es x (class_number rows k.0.class)) c_is (subst (λ (y : ℕ). IsSubclassAt es c y) declared_in climbs));
        fit = all_assign ts k.0.params (params_stand (method_decl k.0) j row) (subst (λ (ps : List Kind). Fit es (map (kind_of rows) ts) ps) takes candidate.fit);
      }

  pub method_of : (s : Scope) (of : ClassKey) (name : List ℕ) (ts : List Ty) (d : Decl) → FindsMethodOf rows s of name ts (one d) → MethodThere of ts d
  method_of s of name ts d (number.One j, finds, shows) = method_at of ts d name (class_number rows of) j refl shows finds.best.own.0
  method_of s of name ts d (number.Nothing, finds, shows) = absurd shows
  method_of s of name ts d (number.Many j k, finds, shows) = absurd shows
  method_of s of name ts d (number.NotAccessible j, finds, shows) = absurd shows
  method_of s of name ts d (number.FromStatic j, finds, shows) = absurd shows

  -- by a simple name: an instance's is of this class or above, where there is an object
  pub record PlainThere (s : Scope) (ts : List Ty) (d : Decl) : Type 0 where
    pub key : MethodKey
    pub is : d ≡ method_decl key
    pub number : ℕ
    pub row : IsRowOf rows (method_decl key) number
    pub fit : AllAssign rows ts key.params
    pub above : IsInstanceDecl rows d → IsSubclass rows s.class key.class
    pub object : IsInstanceDecl rows d → s.is_static ≡ false

  nat_or : (m n : ℕ) → (m ≡ n) ⊎ (m ≢ n)
  nat_or m n = by (nat_eq m n) refl
    where
      by : (b : Bool) → nat_eq m n ≡ b → (m ≡ n) ⊎ (m ≢ n)
      by true e = inl (eqb-true m n e)
      by false e = inr (λ same. let t = sym (eq-eqb m n same) ∙ e in absurd cc)

  -- the class that is searched has a number; if it is that of the place the method is in it or above it
  plain_at : (s : Scope) (ts : List Ty) (d : Decl) (name : List ℕ) (e j : ℕ) → IsRowOf rows d j → IsMethodCandidate es e name (map (kind_of rows) ts) j → (LacksObject es (class_number rows s.class) s.is_static e j → ⊥) → PlainThere s ts d
  plain_at s ts d name e j i candidate lacks =
      let own = member_own es (DeclaresMethod es name candidate.params) candidate.own.chain j candidate.own.among in
      let at = the_row d j own.2.row i own.2.stands in
      let sort_is : sort_of d ≡ sort.Method = ap sort_of (sym at.1) ∙ sym (ap (λ (e : Entry). e.sort) at.2) ∙ own.2.method in
      let k = is_method_decl d sort_is in
      let row : IsRowOf rows (method_decl k.0) j = subst (λ (z : Decl). IsRowOf rows z j) k.1 i in
      let decl_is : at.0.decl ≡ method_decl k.0 = at.1 ∙ k.1 in
      let takes : candidate.params ≡ map (kind_of rows) k.0.params = sym own.2.takes ∙ ap (λ (e : Entry). e.params) at.2 ∙ ap (λ (z : Decl). map (kind_of rows) (params_of z)) decl_is in
      record {
        key = k.0;
        is = k.1;
        number = j;
        row = row;
        fit = all_assign ts k.0.params (params_stand (method_decl k.0) j row) (subst (λ (ps : List Kind). Fit es (map (kind_of rows) ts) ps) takes candidate.fit);
        above = λ h. elim (nat_or e (class_number rows s.class)) [
          | inl same ↦ (let m = method_at s.class ts d name e j same i candidate in
              let keys : method_decl m.key ≡ method_decl k.0 = sym m.is ∙ k.1 in
              let key_is : m.key ≡ k.0 = cc in
              subst (λ (z : MethodKey). IsSubclass rows s.class z.class) key_is m.above)
          | inr differs ↦ absurd (lacks (instance_at d j i h, inr differs))
        ];
        object = has_object d j (class_number rows s.class) e s.is_static i lacks;
      }

  pub method_named : (s : Scope) (name : List ℕ) (ts : List Ty) (d : Decl) → FindsMethodNamed rows s name ts (one d) → PlainThere s ts d
  method_named s name ts d (number.One j, (e, inner, finds, lacks), shows) = plain_at s ts d name e j shows finds.best.own.0 lacks
  method_named s name ts d (number.Nothing, finds, shows) = absurd shows
  method_named s name ts d (number.Many j k, finds, shows) = absurd shows
  method_named s name ts d (number.NotAccessible j, finds, shows) = absurd shows
  method_named s name ts d (number.FromStatic j, finds, shows) = absurd shows

  -- ---- constructors

  pub record CtorThere (of : ClassKey) (ts : List Ty) (d : Decl) : Type 0 where
    pub key : CtorKey
    pub is : d ≡ constructor_decl key
    pub number : ℕ
    pub row : IsRowOf rows (constructor_decl key) number
    pub class : key.class ≡ of
    pub fit : AllAssign rows ts key.params

  ctor_at : (of : ClassKey) (ts : List Ty) (d : Decl) (j : ℕ) → IsRowOf rows d j → IsCtorCandidate es (class_number rows of) (map (kind_of rows) ts) j → CtorThere of ts d
  ctor_at of ts d j i candidate =
      let own = candidate.own in
      let at = the_row d j own.row i own.stands in
      let sort_is : sort_of d ≡ sort.Ctor = ap sort_of (sym at.1) ∙ sym (ap (λ (e : Entry). e.sort) at.2) ∙ own.constructor in
      let k = is_ctor_decl d sort_is in
      let row : IsRowOf rows (constructor_decl k.0) j = subst (λ (z : Decl). IsRowOf rows z j) k.1 i in
      let decl_is : at.0.decl ≡ constructor_decl k.0 = at.1 ∙ k.1 in
      let takes : candidate.params ≡ map (kind_of rows) k.0.params = sym own.takes ∙ ap (λ (e : Entry). e.params) at.2 ∙ ap (λ (z : Decl). map (kind_of rows) (params_of z)) decl_is in
      let declared_in : class_number rows of ≡ class_number rows k.0.class = sym own.class ∙ ap (λ (e : Entry). e.class) at.2 ∙ ap (λ (z : Decl). class_number rows (class_of z)) decl_is in
      record {
        key = k.0;
        is = k.1;
        number = j;
        row = row;
        class = sym (same_class_of of k.0.class (declarer (constructor_decl k.0) j row) declared_in);
        fit = all_assign ts k.0.params (params_stand (constructor_decl k.0) j row) (subst (λ (ps : List Kind). Fit es (map (kind_of rows) ts) ps) takes candidate.fit);
      }

  pub ctor_of : (s : Scope) (of : ClassKey) (ts : List Ty) (d : Decl) → FindsCtorOf rows s of ts (one d) → CtorThere of ts d
  ctor_of s of ts d (number.One j, finds, shows) = ctor_at of ts d j shows finds.best.own.0
  ctor_of s of ts d (number.Nothing, finds, shows) = absurd shows
  ctor_of s of ts d (number.Many j k, finds, shows) = absurd shows
  ctor_of s of ts d (number.NotAccessible j, finds, shows) = absurd shows
  ctor_of s of ts d (number.FromStatic j, finds, shows) = absurd shows
