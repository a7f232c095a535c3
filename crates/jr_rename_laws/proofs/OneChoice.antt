-- For each word of a program one thing is chosen, whatever list the renaming goes by.
use Rattle.std.proofs.Common.{◌≡◌, ℕ, ◌<◌, List, [], ◌∷◌, Option, Some, None, true, false, refl, sym, ap, subst, ◌∙◌, inl, inr}
use Rattle.std.specs.Prelude.{◌⊎◌, slice_get}
use Rattle.std.proofs.lemmas.Bool.{cases_order}
use Rattle.std.proofs.lemmas.Option.{same_Some}
use Rattle.jr_text.specs.declared.spans.Span.{Span}
use Rattle.jr_ast.specs.Tree as tree
use Rattle.jr_table.specs.Keys.{ClassKey, Ty, class}
use Rattle.jr_table.specs.Decls.{MemberKey, head, Decl, class_decl, field_decl, method_decl, constructor_decl, local_decl}
use Rattle.jr_table.specs.Rows.{Row}
use Rattle.jr_table.specs.Entries.{class_of}
use Rattle.jr_table.specs.Conditions.{AreRows}
use Rattle.jr_table.specs.Found.{Found, one, nothing}
use Rattle.jr_table.specs.Scope.{Scope}
use Rattle.jr_table.specs.Lookup.{FindsVariable, FindsTypeNamed, FindsTypeOf, FindsFieldIn, FindsMethodOf, FindsCtorOf, FindsLeft, FindsLeftOf}
use Rattle.jr_table.specs.LookupLaws.{HasOne, EachHasOne}
use Rattle.jr_table.specs.BindingLaws.{IsBound}
use Rattle.jr_table.specs.Context.{Context, scope_of, IsSuperclass, WritesType}
use Rattle.jr_table.specs.Binding.{HasType, IsClassName, HaveTypes, FindsIn, Role, value, left, word_at}
use Rattle.jr_table.specs.Binding as role
use Rattle.jr_table.specs.HeadRules.{plain, with_parameters, TopFinds}
use Rattle.jr_table.specs.Prelude.{top_key}
use Rattle.jr_spell.specs.declared.references.RefForm.TheVariants as ref
use Rattle.jr_spell.specs.declared.spellings.Form.{Form}
use Rattle.jr_spell.specs.References.{Operand, Reference}
use Rattle.jr_spell.specs.Spellings.{forms}
use Rattle.jr_spell.specs.Taken.{IsTaken}
use Rattle.jr_rewrite.specs.Respellings.{Choice, loses}
use Rattle.jr_images.specs.Images.{Renaming, class_to, types_to, rows_to, scope_to}
use Rattle.jr_images.specs.Words.{InFront, class_name, value_of, neither, FindsNext}
use Rattle.jr_images.specs.Spelling.{renamed, spelled, reference, operand_of, behind_words, OnOperand, VariableSpells, ClassSpells, FieldSpells, MemberClassSpells, SuperFieldSpells, SimpleCallSpells, CallSpells, SuperCallSpells, ExpSpells, CreationSpells, SuperCtorSpells, TypeSpells, QualifierSpells, ParentSpells, ParentQualifierSpells, spelling}
use Rattle.jr_new_words.specs.Ways.{Way, local, own_field, field_on, field_through, field_on_none, field_above, method_named, method_on, method_through, method_on_none, method_above, ctor_of, ctor_above, type_named, type_behind, name_in, reference_by, Finds}
use Rattle.jr_new_words.specs.Taking.{Asked, asked, SpellsAt}
use Rattle.jr_new_words.proofs.OneEach.{behind_one}
use Rattle.jr_bind.specs.SuperPlaces.{writes_super}
use Rattle.jr_program_laws.specs.FileParts.{begins}
use Rattle.jr_program_laws.proofs.FoundOnce.{same_decl, field_once, super_field_once, call_once, super_call_once, creation_once, super_ctor_once}
use Rattle.jr_rename_laws.specs.OnePlan.{AreAlike}
use Rattle.jr_rename_laws.proofs.OneRewriting.{Agree}
use Rattle.jr_rename_laws.proofs.WordsOnce.{first_one, next_one, words_one}
use Rattle.jr_rename_laws.proofs.Alike.{Makes, makes, makes_same}

-- ---- the first form that binds, or the loss

taken_once : (rows : List Row) (s : Scope) (r : Reference) (d : Decl) → HasOne (IsTaken rows s r d)
taken_once rows s r d f k x y = by (cases_order x.place y.place)
  where
    by : (x.place ≡ y.place) ⊎ ((x.place < y.place) ⊎ (y.place < x.place)) → f ≡ k
    by (inl e) = same_Some f k (sym x.stands ∙ ap (slice_get (forms r.form d)) e ∙ y.stands)
    by (inr (inl less)) = absurd (y.first x.place f less x.stands x.binds)
    by (inr (inr less)) = absurd (x.first y.place k less y.stands y.binds)

spelled_once : (rows : List Row) (s : Scope) (a : Asked) (at : ℕ) (old : List ℕ) (d : Decl) (Found' : Found → Type 0) → HasOne Found' → HasOne (SpellsAt rows s a at old d Found')
spelled_once rows s a at old d Found' single h k (inl x) (inl y) =
    x.2 ∙ ap (λ (f : Form). spelled old a.name (class_of a.target) f) (taken_once rows s a.reference a.target x.0 y.0 x.1 y.1) ∙ sym y.2
spelled_once rows s a at old d Found' single h k (inl x) (inr y) = absurd (y.0 x.1.place x.0 x.1.stands x.1.binds)
spelled_once rows s a at old d Found' single h k (inr x) (inl y) = absurd (x.0 y.1.place y.0 y.1.stands y.1.binds)
spelled_once rows s a at old d Found' single h k (inr x) (inr y) =
    x.1.2 ∙ ap (λ (f : Found). loses (record { at = at; declaration = d; found = f })) (single x.1.0 y.1.0 x.1.1 y.1.1) ∙ sym y.1.2

-- with what is found by another relation
with_finds : {rows : List Row} {s : Scope} {at : ℕ} {d : Decl} {Finds : Found → Type 0} {h : Choice} (a : Asked) (old : List ℕ) (Others : Found → Type 0) → ((f : Found) → Finds f → Others f)
    → SpellsAt rows s a at old d Finds h → SpellsAt rows s a at old d Others h
with_finds a old Others to (inl x) = inl x
with_finds a old Others to (inr (none, (f, finds, is))) = inr (none, (f, to f finds, is))

-- a class that has no other spelling
abbrev LeftBy : (at : ℕ) → (old : List ℕ) → ClassKey → (name : List ℕ) → (Leads : Type 0) → (Finds : Found → Type 0) → Choice → Type 0
LeftBy at old k name Leads Finds h = (Leads × (h ≡ renamed old name)) ⊎ ((Leads → ⊥) × ((f : Found) × Finds f × (h ≡ loses (record { at = at; declaration = class_decl k; found = f }))))

left_once : (at : ℕ) (old : List ℕ) (k : ClassKey) (name : List ℕ) (Leads : Type 0) (Found' : Found → Type 0) → HasOne Found' → HasOne (LeftBy at old k name Leads Found')
left_once at old k name Leads Found' single h i (inl x) (inl y) = x.1 ∙ sym y.1
left_once at old k name Leads Found' single h i (inl x) (inr y) = absurd (y.0 x.0)
left_once at old k name Leads Found' single h i (inr x) (inl y) = absurd (x.0 y.0)
left_once at old k name Leads Found' single h i (inr x) (inr y) = x.1.2 ∙ ap (λ (f : Found). loses (record { at = at; declaration = class_decl k; found = f })) (single x.1.0 y.1.0 x.1.1 y.1.1) ∙ sym y.1.2

-- ---- what is found

in_once : (Class : ClassKey → Type 0) (In : ClassKey → Found → Type 0) → HasOne Class → ((k : ClassKey) → HasOne (In k)) → HasOne (FindsIn Class In)
in_once Class In c f a b (inl x) (inl y) = f x.0 a b x.2 (subst (λ (k : ClassKey). In k b) (sym (c x.0 y.0 x.1 y.1)) y.2)
in_once Class In c f a b (inl x) (inr y) = absurd (y.0 x.0 x.1)
in_once Class In c f a b (inr x) (inl y) = absurd (x.0 y.0 y.1)
in_once Class In c f a b (inr x) (inr y) = x.1 ∙ sym y.1

top_once : (rows : List Row) (name : List ℕ) → HasOne (TopFinds rows name)
top_once rows name a b (inl x) (inl y) = x.2 ∙ sym y.2
top_once rows name a b (inl x) (inr y) = absurd (y.0 x.0 x.1)
top_once rows name a b (inr x) (inl y) = absurd (x.0 y.0 y.1)
top_once rows name a b (inr x) (inr y) = x.1 ∙ sym y.1

class_key : (j k : ClassKey) → one (class_decl j) ≡ one (class_decl k) → j ≡ k
class_key j k e = cc

module _ (rows : List Row) (fit : AreRows rows) (each : EachHasOne rows) where
  superclass_once : (k : ClassKey) → HasOne (IsSuperclass rows k)
  superclass_once k p q x y =
      let stands : Some x.1.row ≡ Some y.1.row = sym x.1.stands ∙ ap (slice_get rows) (fit.one_each (class_decl k) x.0 y.0 x.1 y.1) ∙ y.1.stands in
      same_Some p q (sym x.2 ∙ ap (λ (r : Row). r.parent) (same_Some x.1.row y.1.row stands) ∙ y.2)

  named_once : (s : Scope) (name : List ℕ) → HasOne (λ (k : ClassKey). FindsTypeNamed rows s name (one (class_decl k)))
  named_once s name j k p q = class_key j k (each.type_named s name (one (class_decl j)) (one (class_decl k)) p q)

  finds_once : (s : Scope) (w : Way) (name : List ℕ) (ts : List Ty) → HasOne (Finds rows s w name ts)
  finds_once s local name ts = each.variable s name
  finds_once s own_field name ts = each.variable s name
  finds_once s (field_on k) name ts = each.field_in s k name
  finds_once s (field_through w k) name ts = behind_one w (λ o f. FindsFieldIn rows s o name f) (λ o. each.field_in s o name)
  finds_once s (field_on_none t) name ts = λ a b x y. x ∙ sym y
  finds_once s field_above name ts = in_once (IsSuperclass rows s.class) (λ k f. FindsFieldIn rows s k name f) (superclass_once s.class) (λ k. each.field_in s k name)
  finds_once s method_named name ts = each.method_named s name ts
  finds_once s (method_on k) name ts = each.method_of s k name ts
  finds_once s (method_through w k) name ts = behind_one w (λ o f. FindsMethodOf rows s o name ts f) (λ o. each.method_of s o name ts)
  finds_once s (method_on_none t) name ts = λ a b x y. x ∙ sym y
  finds_once s method_above name ts = in_once (IsSuperclass rows s.class) (λ k f. FindsMethodOf rows s k name ts f) (superclass_once s.class) (λ k. each.method_of s k name ts)
  finds_once s (ctor_of k) name ts = each.ctor_of s k ts
  finds_once s ctor_above name ts = in_once (IsSuperclass rows s.class) (λ k f. FindsCtorOf rows s k ts f) (superclass_once s.class) (λ k. each.ctor_of s k ts)
  finds_once s type_named name ts = each.type_named s name
  finds_once s (type_behind outer) name ts = in_once (λ k. FindsTypeNamed rows s outer (one (class_decl k))) (λ k f. FindsTypeOf rows s k name f) (named_once s outer) (λ k. each.type_of s k name)

module _ (rows : List Row) (c : Context) (bound : IsBound Span rows c) where
  class_once : (e : tree.Exp Span) → HasOne (IsClassName rows c e)
  class_once e j k p q = same_Some j k (sym ((bound.names e j).1 p) ∙ (bound.names e k).1 q)

  type_once : (e : tree.Exp Span) → HasOne (HasType rows c e)
  type_once e t u p q = same_Some t u (sym ((bound.types e t).1 p) ∙ (bound.types e u).1 q)

  types_once : (args : tree.Exps Span) → HasOne (HaveTypes rows c args)
  unfolding HaveTypes
  types_once tree.end ts us p q = p ∙ sym q
  types_once (tree.more e es) [] us p q = absurd p
  types_once (tree.more e es) (t ∷ ts) [] p q = absurd q
  types_once (tree.more e es) (t ∷ ts) (u ∷ us) p q = λ i. type_once e t u p.0 q.0 i ∷ types_once es ts us p.1 q.1 i

value_key : (j k : ClassKey) → class j ≡ class k → j ≡ k
value_key j k e = cc

-- ---- two renamings that are alike

-- how a word is asked, by what becomes of each key
record Ask : Type 0 where
  way : Makes → Way
  types : List Ty
  decl : Decl

abbrev by_itself : Way → List Ty → Decl → Ask
by_itself w ts d = record { way = λ m. w; types = ts; decl = d }

module _ (rows : List Row) (fit : AreRows rows) (each : EachHasOne rows) (bounds : (c : Context) → IsBound Span rows c) (g h : Renaming) (alike : AreAlike g h)
    (new_fit : AreRows (rows_to g rows)) (new_each : EachHasOne (rows_to g rows)) where
  -- what one renaming says, the other does
  carried : {P : Type 0} (F : Makes → P → Choice → Type 0) → ((p : P) → HasOne (F (makes g) p)) → (p q : P) → p ≡ q → (a b : Choice) → F (makes g) p a → F (makes h) q b → a ≡ b
  carried F single p q e a b x y = single p a b x (subst (λ m. F m p b) (sym (makes_same g h alike)) (subst (λ r. F (makes h) r b) (sym e) y))

  abbrev new_name : Makes → Decl → (old : List ℕ) → List ℕ
  new_name m d old = name_in (m.decls d) (m.names d old)

  abbrev Asks : Context → (at : ℕ) → (old : List ℕ) → Makes → Ask → Choice → Type 0
  Asks c at old m p x = SpellsAt (m.rows rows) (m.scopes c) (asked (reference_by (p.way m) (new_name m p.decl old) (m.types p.types)) (m.decls p.decl) (new_name m p.decl old)) at old p.decl
      (Finds (m.rows rows) (m.scopes c) (p.way m) (new_name m p.decl old) (m.types p.types)) x

  asks_one : (c : Context) (at : ℕ) (old : List ℕ) (p q : Ask) → p ≡ q → (a b : Choice) → Asks c at old (makes g) p a → Asks c at old (makes h) q b → a ≡ b
  asks_one c at old = carried (Asks c at old)
      (λ p. spelled_once (rows_to g rows) (scope_to g c) _ at old p.decl _ (finds_once (rows_to g rows) new_fit new_each (scope_to g c) (p.way (makes g)) (new_name (makes g) p.decl old) (types_to g p.types)))

  -- ---- simple names

  found_var : (c : Context) (at : ℕ) (old : List ℕ) (f : Renaming) (a : Choice) → VariableSpells begins rows f c at old a → (d : Decl) × FindsVariable rows (scope_of c) old (one d)
  found_var c at old f a (inl x) = (local_decl x.0, x.1.0)
  found_var c at old f a (inr x) = (field_decl x.0, x.1.0)

  no_var : (c : Context) (r : Role) (at : ℕ) (old : List ℕ) (f : Renaming) (a : Choice) → ClassSpells begins rows f c r at old a → FindsVariable rows (scope_of c) old nothing
  no_var c left at old f a x = x.1
  no_var c value at old f a x = absurd x
  no_var c role.statement at old f a x = absurd x

  apart : (c : Context) (old : List ℕ) → (d : Decl) × FindsVariable rows (scope_of c) old (one d) → FindsVariable rows (scope_of c) old nothing → ⊥
  apart c old (d, x) y = let e : one d ≡ nothing = each.variable (scope_of c) old (one d) nothing x y in absurd cc

  variable_one : (c : Context) (at : ℕ) (old : List ℕ) (a b : Choice) → VariableSpells begins rows g c at old a → VariableSpells begins rows h c at old b → a ≡ b
  variable_one c at old a b (inl x) (inl y) = asks_one c at old (by_itself local [] (local_decl x.0)) (by_itself local [] (local_decl y.0))
      (ap (λ (d : Decl). by_itself local [] d) (same_decl (local_decl x.0) (local_decl y.0) (each.variable (scope_of c) old (one (local_decl x.0)) (one (local_decl y.0)) x.1.0 y.1.0))) a b x.1.1 y.1.1
  variable_one c at old a b (inr x) (inr y) = asks_one c at old (by_itself own_field [] (field_decl x.0)) (by_itself own_field [] (field_decl y.0))
      (ap (λ (d : Decl). by_itself own_field [] d) (same_decl (field_decl x.0) (field_decl y.0) (each.variable (scope_of c) old (one (field_decl x.0)) (one (field_decl y.0)) x.1.0 y.1.0))) a b x.1.1 y.1.1
  variable_one c at old a b (inl x) (inr y) = let e = same_decl (local_decl x.0) (field_decl y.0) (each.variable (scope_of c) old (one (local_decl x.0)) (one (field_decl y.0)) x.1.0 y.1.0) in absurd cc
  variable_one c at old a b (inr x) (inl y) = let e = same_decl (field_decl x.0) (local_decl y.0) (each.variable (scope_of c) old (one (field_decl x.0)) (one (local_decl y.0)) x.1.0 y.1.0) in absurd cc

  -- a class in front of a dot, by words that stand so; behind a class, or not
  abbrev FrontBy : Makes → Context → (at : ℕ) → (old : List ℕ) → Option Operand → ClassKey → InFront → (Finds : Found → Type 0) → Choice → Type 0
  FrontBy m c at old on k w Finds x = SpellsAt (m.rows rows) (m.scopes c) (asked (behind_words w (reference ref.ClassInFront (m.classes k).name on [])) (class_decl (m.classes k)) (m.classes k).name) at old (class_decl k) Finds x

  class_one : (c : Context) (r : Role) (at : ℕ) (old : List ℕ) (a b : Choice) → ClassSpells begins rows g c r at old a → ClassSpells begins rows h c r at old b → a ≡ b
  class_one c left at old a b x y =
      let k = named_once rows fit each (scope_of c) old x.0 y.0 x.2 y.2 in
      let w = first_one rows each g h alike c new_fit new_each x.0 y.0 k x.3 y.3 x.4 y.4 in
      carried {P = ClassKey × InFront} (λ m p. FrontBy m c at old None p.0 p.1 (FindsLeft (m.rows rows) (m.scopes c) (m.classes p.0).name))
      (λ p. spelled_once (rows_to g rows) (scope_to g c) _ at old (class_decl p.0) _ (new_each.left (scope_to g c) (class_to g p.0).name)) (x.0, x.3) (y.0, y.3) (λ i. (k i, w i)) a b x.5 y.5
  class_one c value at old a b x y = absurd x
  class_one c role.statement at old a b x y = absurd x

  -- ---- behind a dot

  inner_once : (c : Context) (name : List ℕ) (o p : ClassKey) → o ≡ p → (k l : ClassKey) → FindsTypeOf rows (scope_of c) o name (one (class_decl k)) → FindsTypeOf rows (scope_of c) p name (one (class_decl l)) → k ≡ l
  inner_once c name o p e k l x y = class_key k l (each.type_of (scope_of c) o name (one (class_decl k)) (one (class_decl l)) x (subst (λ (z : ClassKey). FindsTypeOf rows (scope_of c) z name (one (class_decl l))) (sym e) y))

  operand_one : {X : Type 0} {V W T U : ClassKey → Type 0} (c : Context) (e : tree.Exp Span) → OnOperand begins rows g c e V T → OnOperand begins rows h c e W U
      → ((k l : ClassKey) → k ≡ l → T k → U l → X) → ((k l : ClassKey) → k ≡ l → V k → W l → X) → X
  operand_one c e (inl x) (inl y) through on = through x.0 y.0 (class_once rows c (bounds c) e x.0 y.0 x.1 y.1) x.2 y.2
  operand_one c e (inl x) (inr y) through on = absurd (y.0 x.0 x.1)
  operand_one c e (inr x) (inl y) through on = absurd (x.0 y.0 y.1)
  operand_one c e (inr x) (inr y) through on = on x.1.0 y.1.0 (value_key x.1.0 y.1.0 (type_once rows c (bounds c) e (class x.1.0) (class y.1.0) x.1.1 y.1.1)) x.1.2 y.1.2

  field_one : (c : Context) (at : ℕ) (e : tree.Exp Span) (old : List ℕ) (a b : Choice) → FieldSpells begins rows g c at e old a → FieldSpells begins rows h c at e old b → a ≡ b
  field_one c at e old a b x y =
      let d = same_decl (field_decl x.0) (field_decl y.0) (field_once rows fit each c (bounds c) e old (one (field_decl x.0)) (one (field_decl y.0)) x.1 y.1) in
      operand_one c e x.2 y.2
      (λ k l s v w. asks_one c at old (record { way = λ m. field_through v.0 (m.classes k); types = []; decl = field_decl x.0 }) (record { way = λ m. field_through w.0 (m.classes l); types = []; decl = field_decl y.0 })
      (λ i. record { way = λ m. field_through (words_one rows each g h alike c new_fit new_each (bounds c) e k l s v.0 w.0 v.1 w.1 i) (m.classes (s i)); types = []; decl = d i }) a b v.2 w.2)
      (λ k l s v w. asks_one c at old (record { way = λ m. field_on (m.classes k); types = []; decl = field_decl x.0 }) (record { way = λ m. field_on (m.classes l); types = []; decl = field_decl y.0 })
      (λ i. record { way = λ m. field_on (m.classes (s i)); types = []; decl = d i }) a b v w)

  -- what is found behind words that stand so, by what becomes of each key
  abbrev NextBy : Makes → Context → InFront → (name : List ℕ) → Found → Type 0
  NextBy m c (class_name k) name f = FindsLeftOf (m.rows rows) (m.scopes c) k name f
  NextBy m c (value_of k) name f = FindsFieldIn (m.rows rows) (m.scopes c) k name f
  NextBy m c neither name f = f ≡ nothing

  next_by : (r : Renaming) (c : Context) (v : InFront) (name : List ℕ) (f : Found) → FindsNext rows r c v name f → NextBy (makes r) c v name f
  next_by r c (class_name k) name f x = x
  next_by r c (value_of k) name f x = x
  next_by r c neither name f x = x

  next_by_once : (c : Context) (v : InFront) (name : List ℕ) → HasOne (NextBy (makes g) c v name)
  next_by_once c (class_name k) name a b x y = new_each.left_of (scope_to g c) k name a b x y
  next_by_once c (value_of k) name a b x y = new_each.field_in (scope_to g c) k name a b x y
  next_by_once c neither name a b x y = x ∙ sym y

  -- a member class in front of a dot is asked so, behind that of its operand
  abbrev asked_so : Renaming → (o k : ClassKey) → InFront → Asked
  asked_so r o k w = asked (behind_words w (reference ref.ClassInFront (class_to r k).name (operand_of (class_to r o)) [])) (class_decl (class_to r k)) (class_to r k).name

  member_class_one : (c : Context) (r : Role) (at : ℕ) (e : tree.Exp Span) (old : List ℕ) (a b : Choice) → MemberClassSpells begins rows g c r at e old a → MemberClassSpells begins rows h c r at e old b → a ≡ b
  member_class_one c left at e old a b x y =
      let o : x.0 ≡ y.0 = class_once rows c (bounds c) e x.0 y.0 x.2 y.2 in
      let k = inner_once c old x.0 y.0 o x.1 y.1 x.4 y.4 in
      let front = words_one rows each g h alike c new_fit new_each (bounds c) e x.0 y.0 o x.5 y.5 x.6 y.6 in
      let w = next_one rows each g h alike c new_fit new_each x.5 y.5 front x.1 y.1 k x.7 y.7 x.8 y.8 in
      carried {P = ClassKey × ClassKey × InFront × InFront}
      (λ m p. FrontBy m c at old (operand_of (m.classes p.0)) p.1 p.3 (NextBy m c p.2 (m.classes p.1).name))
      (λ p. spelled_once (rows_to g rows) (scope_to g c) _ at old (class_decl p.1) _ (next_by_once c p.2 (class_to g p.1).name)) (x.0, x.1, x.5, x.7) (y.0, y.1, y.5, y.7) (λ i. (o i, k i, front i, w i)) a b
      (with_finds (asked_so g x.0 x.1 x.7) old _ (λ f finds. next_by g c x.5 (class_to g x.1).name f finds) x.9)
      (with_finds (asked_so h y.0 y.1 y.7) old _ (λ f finds. next_by h c y.5 (class_to h y.1).name f finds) y.9)
  member_class_one c value at e old a b x y = absurd x
  member_class_one c role.statement at e old a b x y = absurd x

  no_field : (c : Context) (r : Role) (at : ℕ) (e : tree.Exp Span) (old : List ℕ) (f k : Renaming) (a b : Choice) → FieldSpells begins rows f c at e old a → MemberClassSpells begins rows k c r at e old b → ⊥
  no_field c left at e old f k a b x y =
      let never : one (field_decl x.0) ≡ nothing = field_once rows fit each c (bounds c) e old (one (field_decl x.0)) nothing x.1 (inl (y.0, inl y.2, y.3)) in absurd cc
  no_field c value at e old f k a b x y = absurd y
  no_field c role.statement at e old f k a b x y = absurd y

  super_field_one : (c : Context) (at : ℕ) (old : List ℕ) (a b : Choice) → SuperFieldSpells begins rows g c at old a → SuperFieldSpells begins rows h c at old b → a ≡ b
  super_field_one c at old a b x y = asks_one c at old (by_itself field_above [] (field_decl x.0)) (by_itself field_above [] (field_decl y.0))
      (ap (λ (d : Decl). by_itself field_above [] d) (same_decl (field_decl x.0) (field_decl y.0) (super_field_once rows fit each c (bounds c) old (one (field_decl x.0)) (one (field_decl y.0)) x.1 y.1))) a b x.2 y.2

  -- ---- calls

  simple_call_one : (c : Context) (at : ℕ) (old : List ℕ) (args : tree.Exps Span) (a b : Choice) → SimpleCallSpells begins rows g c at old args a → SimpleCallSpells begins rows h c at old args b → a ≡ b
  simple_call_one c at old args a b x y =
      let d = same_decl (method_decl x.0) (method_decl y.0) (call_once rows fit each c (bounds c) tree.no_target old args (one (method_decl x.0)) (one (method_decl y.0)) x.2 y.2) in
      let ts = types_once rows c (bounds c) args x.1 y.1 x.3 y.3 in
      asks_one c at old (by_itself method_named x.1 (method_decl x.0)) (by_itself method_named y.1 (method_decl y.0)) (λ i. by_itself method_named (ts i) (d i)) a b x.4 y.4

  call_one : (c : Context) (at : ℕ) (e : tree.Exp Span) (old : List ℕ) (args : tree.Exps Span) (a b : Choice) → CallSpells begins rows g c at e old args a → CallSpells begins rows h c at e old args b → a ≡ b
  call_one c at e old args a b x y =
      let d = same_decl (method_decl x.0) (method_decl y.0) (call_once rows fit each c (bounds c) (tree.on e) old args (one (method_decl x.0)) (one (method_decl y.0)) x.2 y.2) in
      let ts = types_once rows c (bounds c) args x.1 y.1 x.3 y.3 in
      operand_one c e x.4 y.4
      (λ k l s v w. asks_one c at old (record { way = λ m. method_through v.0 (m.classes k); types = x.1; decl = method_decl x.0 }) (record { way = λ m. method_through w.0 (m.classes l); types = y.1; decl = method_decl y.0 })
      (λ i. record { way = λ m. method_through (words_one rows each g h alike c new_fit new_each (bounds c) e k l s v.0 w.0 v.1 w.1 i) (m.classes (s i)); types = ts i; decl = d i }) a b v.2 w.2)
      (λ k l s v w. asks_one c at old (record { way = λ m. method_on (m.classes k); types = x.1; decl = method_decl x.0 }) (record { way = λ m. method_on (m.classes l); types = y.1; decl = method_decl y.0 })
      (λ i. record { way = λ m. method_on (m.classes (s i)); types = ts i; decl = d i }) a b v w)

  super_call_one : (c : Context) (at : ℕ) (old : List ℕ) (args : tree.Exps Span) (a b : Choice) → SuperCallSpells begins rows g c at old args a → SuperCallSpells begins rows h c at old args b → a ≡ b
  super_call_one c at old args a b x y =
      let d = same_decl (method_decl x.0) (method_decl y.0) (super_call_once rows fit each c (bounds c) old args (one (method_decl x.0)) (one (method_decl y.0)) x.2 y.2) in
      let ts = types_once rows c (bounds c) args x.1 y.1 x.3 y.3 in
      asks_one c at old (by_itself method_above x.1 (method_decl x.0)) (by_itself method_above y.1 (method_decl y.0)) (λ i. by_itself method_above (ts i) (d i)) a b x.4 y.4

  -- ---- all forms

  exp_choice : (c : Context) (r : Role) (base : ℕ) (e : tree.Exp Span) (a b : Choice) → ExpSpells begins rows g c r base e a → ExpSpells begins rows h c r base e b → a ≡ b
  exp_choice c r base (tree.name m w) a b (inl x) (inl y) = variable_one c _ w.text a b x y
  exp_choice c r base (tree.name m w) a b (inl x) (inr y) = absurd (apart c w.text (found_var c _ w.text g a x) (no_var c r _ w.text h b y))
  exp_choice c r base (tree.name m w) a b (inr x) (inl y) = absurd (apart c w.text (found_var c _ w.text h b y) (no_var c r _ w.text g a x))
  exp_choice c r base (tree.name m w) a b (inr x) (inr y) = class_one c r _ w.text a b x y
  exp_choice c r base (tree.field m e w) a b (inl x) (inl y) = field_one c _ e w.text a b x y
  exp_choice c r base (tree.field m e w) a b (inl x) (inr y) = absurd (no_field c r _ e w.text g h a b x y)
  exp_choice c r base (tree.field m e w) a b (inr x) (inl y) = absurd (no_field c r _ e w.text h g b a y x)
  exp_choice c r base (tree.field m e w) a b (inr x) (inr y) = member_class_one c r _ e w.text a b x y
  exp_choice c r base (tree.super_field m w) a b x y = super_field_one c _ w.text a b x y
  exp_choice c r base (tree.call m tree.no_target w args) a b x y = simple_call_one c _ w.text args a b x y
  exp_choice c r base (tree.call m (tree.on e) w args) a b x y = call_one c _ e w.text args a b x y
  exp_choice c r base (tree.super_call m w args) a b x y = super_call_one c _ w.text args a b x y
  exp_choice c r base e a b x y = absurd x

  written_key : (c : Context) (t : tree.TypeName Span) (k l : ClassKey) → WritesType rows (scope_of c) t (class k) → WritesType rows (scope_of c) t (class l) → k ≡ l
  written_key c (tree.int m) k l x y = absurd cc
  written_key c (tree.boolean m) k l x y = absurd cc
  written_key c (tree.named m None w) k l x y =
      value_key k l (x.2 ∙ ap class (named_once rows fit each (scope_of c) w.text x.0 y.0 x.1 y.1) ∙ sym y.2)
  written_key c (tree.named m (Some v) w) k l x y =
      value_key k l (x.2 ∙ ap class (inner_once c w.text x.1.0 y.1.0 (named_once rows fit each (scope_of c) v.text x.1.0 y.1.0 x.1.1 y.1.1) x.0 y.0 x.1.2 y.1.2) ∙ sym y.2)

  creation_choice : (c : Context) (base : ℕ) (e : tree.Exp Span) (a b : Choice) → CreationSpells begins rows g c base e a → CreationSpells begins rows h c base e b → a ≡ b
  creation_choice c base (tree.create m t args) a b x y =
      let k = written_key c t x.0 y.0 x.3 y.3 in
      let d = same_decl (constructor_decl x.1) (constructor_decl y.1) (creation_once rows fit each c (bounds c) t args (one (constructor_decl x.1)) (one (constructor_decl y.1)) x.4 y.4) in
      let ts = types_once rows c (bounds c) args x.2 y.2 x.5 y.5 in
      asks_one c _ [] (record { way = λ m. ctor_of (m.classes x.0); types = x.2; decl = constructor_decl x.1 }) (record { way = λ m. ctor_of (m.classes y.0); types = y.2; decl = constructor_decl y.1 })
      (λ i. record { way = λ m. ctor_of (m.classes (k i)); types = ts i; decl = d i }) a b x.6 y.6
  creation_choice c base e a b x y = absurd x

  super_ctor_choice : (at : ℕ) (c : Context) (args : tree.Exps Span) (a b : Choice) → SuperCtorSpells begins rows g at c args a → SuperCtorSpells begins rows h at c args b → a ≡ b
  super_ctor_choice at c args a b x y =
      let d = same_decl (constructor_decl x.0) (constructor_decl y.0) (super_ctor_once rows fit each c (bounds c) args (one (constructor_decl x.0)) (one (constructor_decl y.0)) x.2 y.2) in
      let ts = types_once rows c (bounds c) args x.1 y.1 x.3 y.3 in
      asks_one c at [] (by_itself ctor_above x.1 (constructor_decl x.0)) (by_itself ctor_above y.1 (constructor_decl y.0)) (λ i. by_itself ctor_above (ts i) (d i)) a b x.4 y.4

  type_choice : (c : Context) (base : ℕ) (t : tree.TypeName Span) (a b : Choice) → TypeSpells begins rows g c base t a → TypeSpells begins rows h c base t b → a ≡ b
  type_choice c base (tree.int m) a b x y = absurd x
  type_choice c base (tree.boolean m) a b x y = absurd x
  type_choice c base (tree.named m None w) a b x y =
      asks_one c _ w.text (by_itself type_named [] (class_decl x.0)) (by_itself type_named [] (class_decl y.0)) (ap (λ (k : ClassKey). by_itself type_named [] (class_decl k)) (named_once rows fit each (scope_of c) w.text x.0 y.0 x.1 y.1)) a b x.2 y.2
  type_choice c base (tree.named m (Some v) w) a b x y =
      let o = named_once rows fit each (scope_of c) v.text x.0 y.0 x.2 y.2 in
      let k = inner_once c w.text x.0 y.0 o x.1 y.1 x.3 y.3 in
      asks_one c _ w.text (record { way = λ m. type_behind (m.classes x.0).name; types = []; decl = class_decl x.1 }) (record { way = λ m. type_behind (m.classes y.0).name; types = []; decl = class_decl y.1 })
      (λ i. record { way = λ m. type_behind (m.classes (o i)).name; types = []; decl = class_decl (k i) }) a b x.4 y.4

  qualifier_choice : (c : Context) (base : ℕ) (t : tree.TypeName Span) (a b : Choice) → QualifierSpells begins rows g c base t a → QualifierSpells begins rows h c base t b → a ≡ b
  qualifier_choice c base (tree.int m) a b x y = absurd x
  qualifier_choice c base (tree.boolean m) a b x y = absurd x
  qualifier_choice c base (tree.named m None w) a b x y = absurd x
  qualifier_choice c base (tree.named m' (Some v) w) a b x y = carried
      (λ m (k : ClassKey). LeftBy (word_at begins m' base v) v.text k (m.classes k).name (FindsTypeNamed (m.rows rows) (m.scopes c) (m.classes k).name (one (class_decl (m.classes k)))) (FindsTypeNamed (m.rows rows) (m.scopes c) (m.classes k).name))
      (λ k. left_once (word_at begins m' base v) v.text k _ _ _ (new_each.type_named (scope_to g c) (class_to g k).name)) x.0 y.0 (named_once rows fit each (scope_of c) v.text x.0 y.0 x.1 y.1) a b x.2 y.2

  parent_choice : (outer : Option (List ℕ)) (base : ℕ) (t : tree.TypeName Span) (a b : Choice) → ParentSpells begins rows g outer base t a → ParentSpells begins rows h outer base t b → a ≡ b
  parent_choice (Some outer) base t a b x y = type_choice (plain (head (top_key outer)) false) base t a b x y
  parent_choice None base (tree.int m) a b x y = absurd x
  parent_choice None base (tree.boolean m) a b x y = absurd x
  parent_choice None base (tree.named m (Some v) w) a b x y = absurd x
  parent_choice None base (tree.named m' None w) a b x y = carried
      (λ m (k : ClassKey). LeftBy (word_at begins m' base w) w.text k (m.classes k).name (TopFinds (m.rows rows) (m.classes k).name (one (class_decl (m.classes k)))) (TopFinds (m.rows rows) (m.classes k).name))
      (λ k. left_once (word_at begins m' base w) w.text k _ _ _ (top_once (rows_to g rows) (class_to g k).name)) x.0 y.0 (class_key x.0 y.0 (top_once rows w.text (one (class_decl x.0)) (one (class_decl y.0)) x.1 y.1)) a b x.2 y.2

  parent_qualifier_choice : (outer : Option (List ℕ)) (base : ℕ) (t : tree.TypeName Span) (a b : Choice) → ParentQualifierSpells begins rows g outer base t a → ParentQualifierSpells begins rows h outer base t b → a ≡ b
  parent_qualifier_choice (Some outer) base t a b x y = qualifier_choice (plain (head (top_key outer)) false) base t a b x y
  parent_qualifier_choice None base t a b x y = absurd x

  -- where a written `super(..)` stands, it stands in both
  pub choices_agree : (s t : MemberKey → ℕ) → Agree (λ k part. writes_super part ≡ true → s k ≡ t k) (spelling begins rows g (λ (c : Context). s c.member)) (spelling begins rows h (λ (c : Context). t c.member))
  choices_agree s t = record {
    expression = exp_choice;
    creation = creation_choice;
    super_call = λ k m mods w ps args body fine a b x y.
        super_ctor_choice (s k) (with_parameters k true ps) args a b x (subst (λ (n : ℕ). SuperCtorSpells begins rows h n (with_parameters k true ps) args b) (sym (fine refl)) y);
    qualifier = qualifier_choice;
    type = type_choice;
    parent_qualifier = parent_qualifier_choice;
    parent = parent_choice;
    declared = λ d w a b x y. x ∙ ap (renamed w.text) (ap (λ (m : Makes). m.names d w.text) (makes_same g h alike)) ∙ sym y;
  }
