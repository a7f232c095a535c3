-- The spellings of a rename suit their places, where the names of the rows and the new name are
-- identifiers: so the new texts read as the new trees.
use Rattle.std.proofs.Common.{◌≡◌, ℕ, zero, suc, List, [], ◌∷◌, Option, Some, None, Bool, true, false, refl, sym, ap, ◌∙◌, subst, inl, inr}
use Rattle.std.specs.Prelude.{slice_get, if◌then◌else◌}
use Rattle.std.specs.Cmp.Lexicographic.{bytes_decides}
use Rattle.std.proofs.lemmas.Bool.{both_ways}
use Rattle.jr_lex.specs.Replacing.{IsName}
use Rattle.jr_ast.specs.Tree as tree
use Rattle.jr_table.specs.declared.answers.Answer.{Answer}
use Rattle.jr_table.specs.declared.answers.Answer.TheVariants as number
use Rattle.jr_table.specs.Keys.{ClassKey, FieldKey, MethodKey, Ty, int, class}
use Rattle.jr_table.specs.Decls.{Decl, class_decl, field_decl, method_decl, local_decl, LocalKey, head}
use Rattle.jr_table.specs.SameKeys.{same_name}
use Rattle.jr_table.specs.Rows.{Row}
use Rattle.jr_table.specs.Prelude.{top_key}
use Rattle.jr_table.specs.Entries.{IsRowOf, class_of}
use Rattle.jr_table.specs.Found.{Found, one, nothing}
use Rattle.jr_table.specs.Scope.{Scope}
use Rattle.jr_table.specs.Lookup.{Shows, ByKeys, FindsVariable, FindsFieldIn, FindsMethodNamed, FindsMethodOf}
use Rattle.jr_table.specs.Context.{Context, scope_of, IsSuperclass}
use Rattle.jr_table.specs.Binding.{HasType, IsClassName, TargetFinds, HaveTypes, FindsIn, FindsFor, On, Role, value, left, statement}
use Rattle.jr_table.specs.HeadRules.{plain, TopFinds}
use Rattle.jr_spell.specs.declared.spellings.Form.{Form}
use Rattle.jr_spell.specs.declared.spellings.Form.TheVariants.{Asked, OnCastThis, OnCastOperand, OnClass, OnOuterClass, Class, OuterClass, ClassInFront, OuterClassInFront}
use Rattle.jr_spell.specs.References.{Reference}
use Rattle.jr_spell.specs.Spellings.{forms}
use Rattle.jr_rewrite.specs.Respellings.{Front, same, alone, by_class, by_outer_class, Choice, stays, text_of}
use Rattle.jr_rewrite.specs.Suitable.{AreNames, Suits, MayStandAlone, MayStandBeforeVariable, MayStandBeforeMethod, MayStandBeforeType, MayBeCast, IsPath, MayStandFor, SuitsExp, AreSuitable}
use Rattle.jr_rewrite.proofs.Rewriting.{rewritten_reads}
use Rattle.jr_images.specs.Images.{Renaming, is_renamed, name_to, outer_to, class_to, field_to, method_to}
use Rattle.jr_images.specs.Regions.{Images, Region, images_of, region_of}
use Rattle.jr_images.specs.NamedImages.{AreNamedImages}
use Rattle.jr_images.specs.Spelling.{respelled, renamed, outer_front, outer_type, spelled, OfImage, TakenChoice, LeftChoice, VariableChoice, ClassChoice, FieldChoice, MemberClassChoice, SuperFieldChoice, SimpleCallChoice, CallChoice, SuperCallChoice, ExpChoice, TypeChoice, QualifierChoice, ParentChoice, ParentQualifierChoice, choosing, spelling}
use Rattle.jr_images.specs.TextLaws.{IsOuterName, IsNamedClass, AreNamed, RenamedTextsRead}
use Rattle.jr_images.proofs.Forms.{one_form, two_forms, three_forms, front_forms, four_forms, six_forms}

-- ---- what is found has a row

abbrev HasRow : List Row → Decl → Type 0
HasRow rows d = (j : ℕ) × IsRowOf rows d j

keys_row : (rows : List Row) (Finds : Answer → Type 0) (d : Decl) → ByKeys rows Finds (one d) → HasRow rows d
keys_row rows Finds d h = by_answer h.0 h.2
  where
    by_answer : (a : Answer) → Shows rows a (one d) → HasRow rows d
    by_answer (number.One j) s = (j, s)
    by_answer number.Nothing s = absurd s
    by_answer (number.Many j k) s = absurd s
    by_answer (number.NotAccessible j) s = absurd s
    by_answer (number.FromStatic j) s = absurd s

local_field_apart : (k : LocalKey) (q : FieldKey) → one (field_decl q) ≡ one (local_decl k) → ⊥
local_field_apart k q e = cc

own_field_row : (rows : List Row) (s : Scope) (name : List ℕ) (q : FieldKey) → FindsVariable rows s name (one (field_decl q)) → HasRow rows (field_decl q)
own_field_row rows s name q (inl l) = absurd (local_field_apart l.0 q l.2)
own_field_row rows s name q (inr r) = keys_row rows _ (field_decl q) r.1

nothing_apart : (d : Decl) → one d ≡ nothing → ⊥
nothing_apart d e = cc

found_in : (Has : ClassKey → Type 0) (Finds : ClassKey → Found → Type 0) (d : Decl) → FindsIn Has Finds (one d) → (k : ClassKey) × Has k × Finds k (one d)
found_in Has Finds d (inl h) = h
found_in Has Finds d (inr h) = absurd (nothing_apart d h.1)

found_for : (Types : List Ty → Type 0) (Finds : List Ty → Found → Type 0) (d : Decl) → FindsFor Types Finds (one d) → (ts : List Ty) × Types ts × Finds ts (one d)
found_for Types Finds d (inl h) = h
found_for Types Finds d (inr h) = absurd (nothing_apart d h.1)

-- ---- operands

int_apart : (k : ClassKey) → class k ≡ int → ⊥
int_apart k e = cc

module _ {A : Type 0} (rows : List Row) (c : Context) where
  class_path : (e : tree.Exp A) (k : ClassKey) → IsClassName rows c e k → IsPath e
  unfolding HasType IsClassName TargetFinds HaveTypes
  class_path (tree.name m w) k h = tt
  class_path (tree.field m e w) k h = class_path e h.0 h.1
  class_path (tree.number m n) k h = absurd h
  class_path (tree.truth m b) k h = absurd h
  class_path (tree.null m) k h = absurd h
  class_path (tree.string m s) k h = absurd h
  class_path (tree.super_field m w) k h = absurd h
  class_path (tree.this m) k h = absurd h
  class_path (tree.class_literal m t) k h = absurd h
  class_path (tree.call m to w args) k h = absurd h
  class_path (tree.super_call m w args) k h = absurd h
  class_path (tree.create m t args) k h = absurd h
  class_path (tree.paren m e) k h = absurd h
  class_path (tree.cast m t e) k h = absurd h
  class_path (tree.unary m op e) k h = absurd h
  class_path (tree.bump m op e) k h = absurd h
  class_path (tree.binary m op x y) k h = absurd h
  class_path (tree.assign m x y) k h = absurd h
  class_path (tree.compound m op x y) k h = absurd h

  path_cast : (e : tree.Exp A) → IsPath e → MayBeCast e
  path_cast (tree.name m w) h = tt
  path_cast (tree.field m e w) h = path_cast e h
  path_cast (tree.number m n) h = absurd h
  path_cast (tree.truth m b) h = absurd h
  path_cast (tree.null m) h = absurd h
  path_cast (tree.string m s) h = absurd h
  path_cast (tree.super_field m w) h = absurd h
  path_cast (tree.this m) h = absurd h
  path_cast (tree.class_literal m t) h = absurd h
  path_cast (tree.call m to w args) h = absurd h
  path_cast (tree.super_call m w args) h = absurd h
  path_cast (tree.create m t args) h = absurd h
  path_cast (tree.paren m e) h = absurd h
  path_cast (tree.cast m t e) h = absurd h
  path_cast (tree.unary m op e) h = absurd h
  path_cast (tree.bump m op e) h = absurd h
  path_cast (tree.binary m op x y) h = absurd h
  path_cast (tree.assign m x y) h = absurd h
  path_cast (tree.compound m op x y) h = absurd h

  -- a value of a class begins with no number
  typed_cast : (e : tree.Exp A) (k : ClassKey) → HasType rows c e (class k) → MayBeCast e
  unfolding HasType IsClassName TargetFinds HaveTypes
  typed_cast (tree.number m n) k h = absurd (int_apart k h)
  typed_cast (tree.field m e w) k h =
      let found = found_in (On (λ k. IsClassName rows c e k) (λ t. HasType rows c e t)) (λ k f. FindsFieldIn rows (scope_of c) k w.text f) h.0 h.1 in
      elim found.1 [ inl name ↦ path_cast e (class_path e found.0 name) | inr has ↦ typed_cast e found.0 has.1 ]
  typed_cast (tree.call m tree.no_target w args) k h = tt
  typed_cast (tree.call m (tree.on e) w args) k h =
      let found = found_in (On (λ k. IsClassName rows c e k) (λ t. HasType rows c e t)) (λ k. FindsFor (λ ts. HaveTypes rows c args ts) (λ ts f. FindsMethodOf rows (scope_of c) k w.text ts f)) h.0 h.1 in
      elim found.1 [ inl name ↦ path_cast e (class_path e found.0 name) | inr has ↦ typed_cast e found.0 has.1 ]
  typed_cast (tree.truth m b) k h = tt
  typed_cast (tree.null m) k h = tt
  typed_cast (tree.string m s) k h = tt
  typed_cast (tree.name m w) k h = tt
  typed_cast (tree.super_field m w) k h = tt
  typed_cast (tree.this m) k h = tt
  typed_cast (tree.class_literal m t) k h = tt
  typed_cast (tree.super_call m w args) k h = tt
  typed_cast (tree.create m t args) k h = tt
  typed_cast (tree.paren m e) k h = tt
  typed_cast (tree.cast m t e) k h = tt
  typed_cast (tree.unary m op e) k h = tt
  typed_cast (tree.bump m op e) k h = tt
  typed_cast (tree.binary m op x y) k h = tt
  typed_cast (tree.assign m x y) k h = tt
  typed_cast (tree.compound m op x y) k h = tt

-- ---- words

-- where it gets another name, that is an identifier
renamed_suits : (May : Front → Type 0) → May same → (old new : List ℕ) → (same_name old new ≡ false → IsName new) → Suits May (renamed old new)
renamed_suits May may old new name = by (same_name old new) refl
  where
    by : (b : Bool) → same_name old new ≡ b → Suits May (if b then stays else respelled new same)
    by true e = tt
    by false e = (name e, tt, may)

module _ {A : Type 0} (begins : A → ℕ → ℕ) (rows : List Row) (R : Region A) (named : AreNamedImages rows R.seen.images) where
  abbrev images : Images
  images = R.seen.images

  -- a declared name
  kept_suits : (May : Front → Type 0) → May same → (d : Decl) (old : List ℕ) → Suits May (renamed old (images.name_to d old))
  kept_suits May may d old = renamed_suits May may old (images.name_to d old) (named.declared d old)

  -- ---- spellings

  outer_class : (May : Front → Type 0) → ((n : List ℕ) → May (by_class n)) → ((o n : List ℕ) → May (by_outer_class o n)) → (outer : Option (List ℕ)) (name : List ℕ) → IsOuterName outer → IsName name
      → (let k : ClassKey = record { outer = outer; name = name } in AreNames (outer_front k) × May (outer_front k))
  outer_class May by_one by_two None name o n = (n, by_one name)
  outer_class May by_one by_two (Some outer) name o n = ((o, n), by_two outer name)

  outer_of_type : (May : Front → Type 0) → May alone → ((n : List ℕ) → May (by_class n)) → (outer : Option (List ℕ)) (name : List ℕ) → IsOuterName outer
      → (let k : ClassKey = record { outer = outer; name = name } in AreNames (outer_type k) × May (outer_type k))
  outer_of_type May bare by_one None name o = (tt, bare)
  outer_of_type May bare by_one (Some outer) name o = (o, by_one outer)

  -- every form's front may stand there, but a cast of an operand
  on_outer : (May : Front → Type 0) → ((n : List ℕ) → May (by_class n)) → ((o n : List ℕ) → May (by_outer_class o n)) → (old new : List ℕ) (k : ClassKey) → IsName new → IsNamedClass k
      → Suits May (spelled old new k OnOuterClass)
  on_outer May by_one by_two old new k n h = (let o = outer_class May by_one by_two k.outer k.name h.0 h.1 in (n, o.0, o.1))

  -- of a class in front of a dot
  class_in_front : (May : Front → Type 0) → May same → May alone → ((n : List ℕ) → May (by_class n)) → (old : List ℕ) (k : ClassKey) → IsNamedClass k
      → (n : ℕ) (f : Form) → slice_get (Asked ∷ ClassInFront ∷ OuterClassInFront ∷ []) n ≡ Some f → Suits May (spelled old k.name k f)
  class_in_front May may bare by_one old k h =
      let o = outer_of_type May bare by_one k.outer k.name h.0 in
      front_forms (λ f. Suits May (spelled old k.name k f)) (renamed_suits May may old k.name (λ e. h.1)) (h.1, tt, bare) (h.1, o.0, o.1)

  spells_suits : (May : Front → Type 0) (s : Scope) (at : ℕ) (old new : List ℕ) (d i : Decl) (r : Reference) (Finds : Found → Type 0) (h : Choice)
      → ((n : ℕ) (f : Form) → slice_get (forms r.form (i)) n ≡ Some f → Suits May (spelled old new (class_of (i)) f))
      → TakenChoice begins rows R s at old new d i r Finds h → Suits May h
  spells_suits May s at old new d i r Finds h each (inl t) = subst (Suits May) (sym t.2) (each t.1.place t.0 t.1.stands)
  spells_suits May s at old new d i r Finds h each (inr t) = subst (Suits May) (sym t.1.2) tt

  left_suits : (May : Front → Type 0) → May same → (at : ℕ) (old : List ℕ) (k : ClassKey) (Leads : Type 0) (Finds : Found → Type 0) (h : Choice) → HasRow rows (class_decl k)
      → LeftChoice begins rows R at old k Leads Finds h → Suits May h
  left_suits May may at old k Leads Finds h row (inl t) =
      subst (Suits May) (sym t.1) (renamed_suits May may old (images.class_to k).name (λ e. (named.class k row.0 row.1).1))
  left_suits May may at old k Leads Finds h row (inr t) = subst (Suits May) (sym t.1.2) tt

  -- ---- variables

  -- of a local that is kept, and of one that is gone
  of_image : {T : Type 0} {Kept : LocalKey → Type 0} {Gone : Type 0} (k : Option LocalKey) → OfImage k Kept Gone → ((i : LocalKey) → Kept i → T) → (Gone → T) → T
  of_image (Some i) h is_kept is_gone = is_kept i h
  of_image None h is_kept is_gone = is_gone h

  local_suits : (c : Context) (at : ℕ) (old : List ℕ) (h : Choice) → VariableChoice begins rows R c at old h → Suits MayStandBeforeVariable h
  local_suits c at old h (inl t) =
      of_image (R.seen.local_to c t.0) t.1.1
      (λ i u. spells_suits MayStandBeforeVariable _ at old _ (local_decl t.0) _ _ _ h (one_form (λ f. Suits MayStandBeforeVariable (spelled old _ _ f)) (kept_suits MayStandBeforeVariable tt (local_decl t.0) old)) u)
      (λ u. subst (Suits MayStandBeforeVariable) (sym u.2) tt)
  local_suits c at old h (inr t) =
      let q : FieldKey = t.0 in
      let row = own_field_row rows (scope_of c) old q t.1.0 in
      let is = named.field q row.0 row.1 in
      let of = is.0 in
      let new = is.1 in
      spells_suits MayStandBeforeVariable _ at old (images.field_to q).name (field_decl q) _ _ _ h
      (six_forms (λ f. Suits MayStandBeforeVariable (spelled old (images.field_to q).name (images.field_to q).class f))
      (renamed_suits MayStandBeforeVariable tt old (images.field_to q).name (λ e. new)) (new, tt, tt) (new, tt, tt) (new, of.1, tt) (new, of.1, tt)
      (on_outer MayStandBeforeVariable (λ n. tt) (λ o n. tt) old (images.field_to q).name (images.field_to q).class new of)) t.1.1

  class_suits : (c : Context) (r : Role) (at : ℕ) (old : List ℕ) (h : Choice) → ClassChoice begins rows R c r at old h → Suits MayStandBeforeVariable h
  class_suits c left at old h t =
      let row = keys_row rows _ (class_decl t.0) t.2 in
      spells_suits MayStandBeforeVariable _ at old (images.class_to t.0).name (class_decl t.0) _ _ _ h
      (class_in_front MayStandBeforeVariable tt tt (λ n. tt) old (images.class_to t.0) (named.class t.0 row.0 row.1)) t.5
  class_suits c value at old h t = absurd t
  class_suits c statement at old h t = absurd t

  super_field_suits : (c : Context) (at : ℕ) (old : List ℕ) (h : Choice) → SuperFieldChoice begins rows R c at old h → Suits MayStandBeforeVariable h
  super_field_suits c at old h t =
      let q : FieldKey = t.0 in
      let found = found_in (IsSuperclass rows (scope_of c).class) (λ k f. FindsFieldIn rows (scope_of c) k old f) (field_decl q) t.1 in
      let row = keys_row rows _ (field_decl q) found.2 in
      let is = named.field q row.0 row.1 in
      let of = is.0 in
      let new = is.1 in
      spells_suits MayStandBeforeVariable _ at old (images.field_to q).name (field_decl q) _ _ _ h
      (two_forms (λ f. Suits MayStandBeforeVariable (spelled old (images.field_to q).name (images.field_to q).class f)) OnCastThis
      (renamed_suits MayStandBeforeVariable tt old (images.field_to q).name (λ e. new)) (new, of.1, tt)) t.2

  -- ---- behind a dot

  -- a member of a value, or of a class
  on_value : (e : tree.Exp A) (old new : List ℕ) (k : ClassKey) → IsName new → IsNamedClass k → MayBeCast e → (n : ℕ) (f : Form) → slice_get (Asked ∷ OnCastOperand ∷ []) n ≡ Some f
      → Suits (MayStandFor e) (spelled old new k f)
  on_value e old new k n h may = two_forms (λ f. Suits (MayStandFor e) (spelled old new k f)) OnCastOperand (renamed_suits (MayStandFor e) tt old new (λ q. n)) (n, h.1, may)

  through_class : (e : tree.Exp A) (old new : List ℕ) (k : ClassKey) → IsName new → IsNamedClass k → IsPath e → (n : ℕ) (f : Form) → slice_get (Asked ∷ OnClass ∷ OnOuterClass ∷ []) n ≡ Some f
      → Suits (MayStandFor e) (spelled old new k f)
  through_class e old new k n h path =
      three_forms (λ f. Suits (MayStandFor e) (spelled old new k f)) (renamed_suits (MayStandFor e) tt old new (λ q. n)) (n, h.1, path)
      (on_outer (MayStandFor e) (λ m. path) (λ o m. path) old new k n h)

  field_suits : (c : Context) (at : ℕ) (e : tree.Exp A) (old : List ℕ) (h : Choice) → FieldChoice begins rows R c at e old h → Suits (MayStandFor e) h
  field_suits c at e old h t =
      let q : FieldKey = t.0 in
      let found = found_in (On (λ k. IsClassName rows c e k) (λ t. HasType rows c e t)) (λ k f. FindsFieldIn rows (scope_of c) k old f) (field_decl q) t.1 in
      let row = keys_row rows _ (field_decl q) found.2 in
      let is = named.field q row.0 row.1 in
      let of = is.0 in
      let new = is.1 in
      elim t.2 [
        | inl x ↦ spells_suits (MayStandFor e) _ at old (images.field_to q).name (field_decl q) _ _ _ h (through_class e old (images.field_to q).name (images.field_to q).class new of (class_path rows c e x.0 x.1)) x.2.2
        | inr x ↦ spells_suits (MayStandFor e) _ at old (images.field_to q).name (field_decl q) _ _ _ h (on_value e old (images.field_to q).name (images.field_to q).class new of (typed_cast rows c e x.1.0 x.1.1)) x.1.2
      ]

  member_class_suits : (c : Context) (r : Role) (at : ℕ) (e : tree.Exp A) (old : List ℕ) (h : Choice) → MemberClassChoice begins rows R c r at e old h → Suits (MayStandFor e) h
  member_class_suits c left at e old h t =
      let row = keys_row rows _ (class_decl t.1) t.4 in
      let path = class_path rows c e t.0 t.2 in
      spells_suits (MayStandFor e) _ at old (images.class_to t.1).name (class_decl t.1) _ _ _ h
      (class_in_front (MayStandFor e) tt path (λ n. path) old (images.class_to t.1) (named.class t.1 row.0 row.1)) t.9
  member_class_suits c value at e old h t = absurd t
  member_class_suits c statement at e old h t = absurd t

  -- ---- calls

  simple_call_suits : (c : Context) (at : ℕ) (old : List ℕ) (args : tree.Exps A) (h : Choice) → SimpleCallChoice begins rows R c at old args h → Suits MayStandBeforeMethod h
  unfolding TargetFinds
  simple_call_suits c at old args h t =
      let q : MethodKey = t.0 in
      let found = found_for (λ ts. HaveTypes rows c args ts) (λ ts f. FindsMethodNamed rows (scope_of c) old ts f) (method_decl q) t.2 in
      let row = keys_row rows _ (method_decl q) found.2 in
      let is = named.method q row.0 row.1 in
      let of = is.0 in
      let new = is.1 in
      spells_suits MayStandBeforeMethod _ at old (images.method_to q).name (method_decl q) _ _ _ h
      (four_forms (λ f. Suits MayStandBeforeMethod (spelled old (images.method_to q).name (images.method_to q).class f))
      (renamed_suits MayStandBeforeMethod tt old (images.method_to q).name (λ e. new)) (new, tt, tt) (new, of.1, tt)
      (on_outer MayStandBeforeMethod (λ n. tt) (λ o n. tt) old (images.method_to q).name (images.method_to q).class new of)) t.4

  call_suits : (c : Context) (at : ℕ) (e : tree.Exp A) (old : List ℕ) (args : tree.Exps A) (h : Choice) → CallChoice begins rows R c at e old args h → Suits (MayStandFor e) h
  unfolding TargetFinds
  call_suits c at e old args h t =
      let q : MethodKey = t.0 in
      let found = found_in (On (λ k. IsClassName rows c e k) (λ t. HasType rows c e t)) (λ k. FindsFor (λ ts. HaveTypes rows c args ts) (λ ts f. FindsMethodOf rows (scope_of c) k old ts f)) (method_decl q) t.2 in
      let inner = found_for (λ ts. HaveTypes rows c args ts) (λ ts f. FindsMethodOf rows (scope_of c) found.0 old ts f) (method_decl q) found.2 in
      let row = keys_row rows _ (method_decl q) inner.2 in
      let is = named.method q row.0 row.1 in
      let of = is.0 in
      let new = is.1 in
      elim t.4 [
        | inl x ↦ spells_suits (MayStandFor e) _ at old (images.method_to q).name (method_decl q) _ _ _ h (through_class e old (images.method_to q).name (images.method_to q).class new of (class_path rows c e x.0 x.1)) x.2.2
        | inr x ↦ spells_suits (MayStandFor e) _ at old (images.method_to q).name (method_decl q) _ _ _ h (on_value e old (images.method_to q).name (images.method_to q).class new of (typed_cast rows c e x.1.0 x.1.1)) x.1.2
      ]

  super_call_suits : (c : Context) (at : ℕ) (old : List ℕ) (args : tree.Exps A) (h : Choice) → SuperCallChoice begins rows R c at old args h → Suits MayStandAlone h
  super_call_suits c at old args h t =
      let q : MethodKey = t.0 in
      let found = found_in (IsSuperclass rows (scope_of c).class) (λ k. FindsFor (λ ts. HaveTypes rows c args ts) (λ ts f. FindsMethodOf rows (scope_of c) k old ts f)) (method_decl q) t.2 in
      let inner = found_for (λ ts. HaveTypes rows c args ts) (λ ts f. FindsMethodOf rows (scope_of c) found.0 old ts f) (method_decl q) found.2 in
      let row = keys_row rows _ (method_decl q) inner.2 in
      let is = named.method q row.0 row.1 in
      let new = is.1 in
      spells_suits MayStandAlone _ at old (images.method_to q).name (method_decl q) _ _ _ h
      (one_form (λ f. Suits MayStandAlone (spelled old (images.method_to q).name (images.method_to q).class f)) (renamed_suits MayStandAlone tt old (images.method_to q).name (λ e. new))) t.4

  exp_suits : (c : Context) (r : Role) (base : ℕ) (e : tree.Exp A) (h : Choice) → ExpChoice begins rows R c r base e h → SuitsExp e h
  exp_suits c r base (tree.name m w) h (inl t) = local_suits c _ w.text h t
  exp_suits c r base (tree.name m w) h (inr t) = class_suits c r _ w.text h t
  exp_suits c r base (tree.field m e w) h (inl t) = field_suits c _ e w.text h t
  exp_suits c r base (tree.field m e w) h (inr t) = member_class_suits c r _ e w.text h t
  exp_suits c r base (tree.super_field m w) h t = super_field_suits c _ w.text h t
  exp_suits c r base (tree.call m tree.no_target w args) h t = simple_call_suits c _ w.text args h t
  exp_suits c r base (tree.call m (tree.on e) w args) h t = call_suits c _ e w.text args h t
  exp_suits c r base (tree.super_call m w args) h t = super_call_suits c _ w.text args h t
  exp_suits c r base (tree.number m n) h t = tt
  exp_suits c r base (tree.truth m b) h t = tt
  exp_suits c r base (tree.null m) h t = tt
  exp_suits c r base (tree.string m s) h t = tt
  exp_suits c r base (tree.this m) h t = tt
  exp_suits c r base (tree.class_literal m k) h t = tt
  exp_suits c r base (tree.create m k args) h t = tt
  exp_suits c r base (tree.paren m e) h t = tt
  exp_suits c r base (tree.cast m k e) h t = tt
  exp_suits c r base (tree.unary m op e) h t = tt
  exp_suits c r base (tree.bump m op e) h t = tt
  exp_suits c r base (tree.binary m op x y) h t = tt
  exp_suits c r base (tree.assign m x y) h t = tt
  exp_suits c r base (tree.compound m op x y) h t = tt

  -- ---- classes as types

  class_forms : (old : List ℕ) (k : ClassKey) → IsNamedClass k → (n : ℕ) (f : Form) → slice_get (Asked ∷ Class ∷ OuterClass ∷ []) n ≡ Some f → Suits MayStandBeforeType (spelled old k.name k f)
  class_forms old k h zero f q = (let p : Asked ≡ f = cc in subst (λ x. Suits MayStandBeforeType (spelled old k.name k x)) p (renamed_suits MayStandBeforeType tt old k.name (λ e. h.1)))
  class_forms old k h (suc zero) f q = (let p : Class ≡ f = cc in subst (λ x. Suits MayStandBeforeType (spelled old k.name k x)) p (h.1, tt, tt))
  class_forms old k h (suc (suc zero)) f q =
      let p : OuterClass ≡ f = cc in
      let o = outer_of_type MayStandBeforeType tt (λ n. tt) k.outer k.name h.0 in
      subst (λ x. Suits MayStandBeforeType (spelled old k.name k x)) p (h.1, o.0, o.1)
  class_forms old k h (suc (suc (suc n))) f q = absurd cc

  type_suits : (c : Context) (base : ℕ) (t : tree.TypeName A) (h : Choice) → TypeChoice begins rows R c base t h → Suits MayStandBeforeType h
  type_suits c base (tree.int m) h t = absurd t
  type_suits c base (tree.boolean m) h t = absurd t
  type_suits c base (tree.named m None w) h t =
      let row = keys_row rows _ (class_decl t.0) t.1 in
      spells_suits MayStandBeforeType _ _ w.text (images.class_to t.0).name (class_decl t.0) _ _ _ h (class_forms w.text (images.class_to t.0) (named.class t.0 row.0 row.1)) t.2
  type_suits c base (tree.named m (Some v) w) h t =
      let row = keys_row rows _ (class_decl t.1) t.3 in
      spells_suits MayStandBeforeType _ _ w.text (images.class_to t.1).name (class_decl t.1) _ _ _ h (class_forms w.text (images.class_to t.1) (named.class t.1 row.0 row.1)) t.4

  qualifier_suits : (c : Context) (base : ℕ) (t : tree.TypeName A) (h : Choice) → QualifierChoice begins rows R c base t h → Suits MayStandAlone h
  qualifier_suits c base (tree.int m) h t = absurd t
  qualifier_suits c base (tree.boolean m) h t = absurd t
  qualifier_suits c base (tree.named m None w) h t = absurd t
  qualifier_suits c base (tree.named m (Some v) w) h t = left_suits MayStandAlone tt _ v.text t.0 _ _ h (keys_row rows _ (class_decl t.0) t.1) t.2

  top_row : (name : List ℕ) (k : ClassKey) → TopFinds rows name (one (class_decl k)) → HasRow rows (class_decl k)
  top_row name k (inl t) = (t.0, subst (λ d. IsRowOf rows d t.0) (one_same _ _ (sym t.2)) t.1)
    where
      one_same : (d e : Decl) → one d ≡ one e → d ≡ e
      one_same d e q = cc
  top_row name k (inr t) = absurd (nothing_apart (class_decl k) t.1)

  parent_suits : (outer : Option (List ℕ)) (base : ℕ) (t : tree.TypeName A) (h : Choice) → ParentChoice begins rows R outer base t h → Suits MayStandBeforeType h
  parent_suits (Some outer) base t h k = type_suits (plain (head (top_key outer)) false) base t h k
  parent_suits None base (tree.named m None w) h k = left_suits MayStandBeforeType tt _ w.text k.0 _ _ h (top_row w.text k.0 k.1) k.2
  parent_suits None base (tree.named m (Some v) w) h k = absurd k
  parent_suits None base (tree.int m) h k = absurd k
  parent_suits None base (tree.boolean m) h k = absurd k

  parent_qualifier_suits : (outer : Option (List ℕ)) (base : ℕ) (t : tree.TypeName A) (h : Choice) → ParentQualifierChoice begins rows R outer base t h → Suits MayStandAlone h
  parent_qualifier_suits (Some outer) base t h k = qualifier_suits (plain (head (top_key outer)) false) base t h k
  parent_qualifier_suits None base t h k = absurd k

  pub choosing_suits : (super_at : Context → ℕ) → AreSuitable (choosing begins rows R super_at)
  choosing_suits super_at = record {
    expression = exp_suits;
    qualifier = qualifier_suits;
    type = type_suits;
    parent_qualifier = parent_qualifier_suits;
    parent = parent_suits;
    declared = λ d w h k. subst (Suits MayStandAlone) (sym k) (kept_suits MayStandAlone tt d w.text);
    one_name = λ k v w a b e p q.
        ap (λ h. text_of h v.text) p ∙ (λ i. text_of (renamed (e i) (images.name_to (class_decl k) (e i))) (e i)) ∙ sym (ap (λ h. text_of h w.text) q);
  }

-- ---- a rename

module _ (rows : List Row) (g : Renaming) (new_is : IsName g.name) (named : AreNamed rows) where
  name_is : (d : Decl) (old : List ℕ) → IsName old → IsName (name_to g d old)
  name_is d old h = by (is_renamed g d)
    where
      by : (b : Bool) → IsName (if b then g.name else old)
      by true = new_is
      by false = h

  class_named : (k : ClassKey) → IsNamedClass k → IsNamedClass (class_to g k)
  class_named k h = (outer k.outer h.0, name_is (class_decl k) k.name h.1)
    where
      outer : (o : Option (List ℕ)) → IsOuterName o → IsOuterName (outer_to g o)
      outer None n = tt
      outer (Some o) n = name_is (class_decl (top_key o)) o n

  -- what isn't renamed keeps its text
  declared_named : (d : Decl) (old : List ℕ) → same_name old (name_to g d old) ≡ false → IsName (name_to g d old)
  declared_named d old = by (is_renamed g d)
    where
      by : (b : Bool) → same_name old (if b then g.name else old) ≡ false → IsName (if b then g.name else old)
      by true e = new_is
      by false e = absurd (both_ways (same_name old old) e ((bytes_decides old old).1 refl))

  pub rename_named : AreNamedImages rows (images_of rows g)
  rename_named = record {
    class = λ k j row. class_named k (named (class_decl k) j row);
    field = λ k j row. (let is = named (field_decl k) j row in (class_named k.class is.0, name_is (field_decl k) k.name is.1));
    method = λ k j row. (let is = named (method_decl k) j row in (class_named k.class is.0, name_is (method_decl k) k.name is.1));
    declared = declared_named;
  }

pub spelling_suits : {A : Type 0} (begins : A → ℕ → ℕ) (rows : List Row) (g : Renaming) → IsName g.name → AreNamed rows → (super_at : Context → ℕ) → AreSuitable (spelling begins rows g super_at)
spelling_suits begins rows g new_is named super_at = choosing_suits begins rows (region_of rows g) (rename_named rows g new_is named) super_at

-- The text of a file that is renamed reads as its new tree.
pub renamed_texts_read : (A : Type 0) → RenamedTextsRead A
renamed_texts_read A tells rows g super_at declarations bytes u o named new_is h w =
    rewritten_reads tells (spelling (λ m b. (tells m b).from) rows g super_at) (spelling_suits (λ m b. (tells m b).from) rows g new_is named super_at) declarations bytes u o h w
