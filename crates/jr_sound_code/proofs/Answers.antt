-- What the laws of lookup give: each question has an answer, and what is found is of its sort and has a row.
use Rattle.std.proofs.Common.{◌≡◌, ℕ, List, Option, Some, None, Bool, true, false, refl, sym, ap, subst, ◌∙◌, inl, inr}
use Rattle.std.specs.Prelude.{◌⊎◌, ◌↔◌, slice_get}
use Rattle.jr_ast.specs.Tree as tree
use Rattle.jr_grammar.specs.Shape.{IsNamed}
use Rattle.jr_runs.specs.Core as core
use Rattle.jr_table.specs.declared.answers.Answer.TheVariants as number
use Rattle.jr_table.specs.declared.entries.Sort.TheVariants as sort
use Rattle.jr_table.specs.declared.entries.Entry.{Entry}
use Rattle.jr_table.specs.Keys.{ClassKey, FieldKey, MethodKey, CtorKey, Ty, int, boolean, void, null, class}
use Rattle.jr_table.specs.Decls.{Decl, class_decl, field_decl, method_decl, constructor_decl}
use Rattle.jr_table.specs.Rows.{Row}
use Rattle.jr_table.specs.Entries.{IsRowOf, class_number, sort_of, entries_of}
use Rattle.jr_table.specs.Conditions.{AreRows}
use Rattle.jr_table.specs.Members.{IsMemberType, DeclaresType}
use Rattle.jr_table.specs.Keyed.{IsAssignable}
use Rattle.jr_table.specs.Found.{Found, one, nothing, many, not_accessible, from_static}
use Rattle.jr_table.specs.Scope.{Scope}
use Rattle.jr_table.specs.Lookup.{FindsVariable, FindsTypeNamed, FindsTypeOf, FindsFieldIn, FindsLeft, FindsLeftOf, find_variable, find_type_named, find_type_of}
use Rattle.jr_table.specs.LookupLaws.{KeysAreFound}
use Rattle.jr_table.specs.Context.{Context, scope_of, WritesType, IsStaticDecl, IsInstanceDecl}
use Rattle.jr_table.specs.Binding.{HasType, IsClassName, FieldFinds, SuperFieldFinds, CallFinds, SuperCallFinds, CreationFinds, TargetFinds, TypeRefers, Role, left, variable, type, method}
use Rattle.jr_table.specs.ExpressionRules.{ExpBreaks, IsReference, Casts}
use Rattle.jr_table.specs.Meanings.{class_name_of, class_on, type_of, types_of, field_found, call_found, target_found, ctor_found, own_superclass, created_class, written_type, find_left, find_left_of}
use Rattle.jr_table.specs.Notes.{assigns, comparable}
use Rattle.jr_table.specs.declared.rules.Rule.{Rule}
use Rattle.jr_table.specs.declared.rules.Rule.TheVariants as rule
use Rattle.jr_table.proofs.Typing.{named, left_iff, left_of_iff}
use Rattle.jr_table.proofs.TypeTests.{assigns_iff, casts_iff}
use Rattle.jr_table.proofs.ReferenceLaws.{field_finds, super_field_finds, call_finds, super_call_finds, creation_finds}
use Rattle.jr_table.proofs.OneEach.{is_class_decl}
use Rattle.jr_table.proofs.RowLaws.{row_at}
use Rattle.jr_code.specs.RunKeys.{Place}
use Rattle.jr_code.specs.Coded.{TargetCode, VariableCode}
use Rattle.jr_sound_code.proofs.Finding.{static_or, member_own, FieldThere, VariableThere, variable_there, field_in, method_of, method_named, ctor_of}
use Rattle.jr_sound_code.proofs.CodeStands.{Answers}

-- what a test decides holds where it can't fail
pub surely : (b : Bool) (P : Type 0) → ((b ≡ true) ↔ P) → ((P → ⊥) → ⊥) → P
surely true P decides h = decides.0 refl
surely false P decides h = absurd (h (λ p. let e = decides.1 p in absurd cc))

pub or_not : (b : Bool) (P : Type 0) → ((b ≡ true) ↔ P) → P ⊎ (P → ⊥)
or_not true P decides = inl (decides.0 refl)
or_not false P decides = inr (λ p. let e = decides.1 p in absurd cc)

pub is_false : (b : Bool) → (b ≡ true → ⊥) → b ≡ false
is_false true h = absurd (h refl)
is_false false h = refl

-- just one declaration is found
abbrev pub IsOne : Found → Type 0
IsOne f = (d : Decl) × (f ≡ one d)

module _ (rows : List Row) (are : AreRows rows) where
  class_of_row : (d : Decl) (j : ℕ) (e : Entry) → IsRowOf rows d j → slice_get (entries_of rows) j ≡ Some e → e.sort ≡ sort.Class → (k : ClassKey) × (d ≡ class_decl k)
  class_of_row d j e i stands is =
      let at = row_at rows j e stands in
      let both : Some at.row ≡ Some i.row = sym at.stands ∙ i.stands in
      let same : at.row ≡ i.row = cc in
      is_class_decl d (ap sort_of (sym i.declares) ∙ ap (λ (r : Row). sort_of r.decl) (sym same) ∙ sym (ap (λ (x : Entry). x.sort) at.is) ∙ is)

  member_type : (d : Decl) (name : List ℕ) (e j : ℕ) → IsRowOf rows d j → IsMemberType (entries_of rows) name e j → (k : ClassKey) × (d ≡ class_decl k)
  member_type d name e j i m =
      let own = member_own (entries_of rows) (DeclaresType (entries_of rows) name) m.chain j m.among in
      class_of_row d j own.2.row i own.2.stands own.2.type

  -- a type's name finds a class
  pub class_named : (s : Scope) (name : List ℕ) (d : Decl) → FindsTypeNamed rows s name (one d) → (k : ClassKey) × (d ≡ class_decl k)
  class_named s name d (number.One j, inl (e, inner, m), shows) = member_type d name e j shows m
  class_named s name d (number.One j, inr (none, i), shows) =
      let both : Some i.row ≡ Some shows.row = sym i.stands ∙ shows.stands in
      let same : i.row ≡ shows.row = cc in
      (record { outer = None; name = name }, sym shows.declares ∙ ap (λ (r : Row). r.decl) (sym same) ∙ i.declares)
  class_named s name d (number.Nothing, finds, shows) = absurd shows
  class_named s name d (number.Many j k, finds, shows) = absurd shows
  class_named s name d (number.NotAccessible j, finds, shows) = absurd shows
  class_named s name d (number.FromStatic j, finds, shows) = absurd shows

  pub class_member : (s : Scope) (of : ClassKey) (name : List ℕ) (d : Decl) → FindsTypeOf rows s of name (one d) → (k : ClassKey) × (d ≡ class_decl k)
  class_member s of name d (number.One j, finds, shows) = member_type d name (class_number rows of) j shows finds.0
  class_member s of name d (number.Nothing, finds, shows) = absurd shows
  class_member s of name d (number.Many j k, finds, shows) = absurd shows
  class_member s of name d (number.NotAccessible j, finds, shows) = absurd shows
  class_member s of name d (number.FromStatic j, finds, shows) = absurd shows

abbrev FieldSort : List Row → Decl → Type 0
FieldSort rows d = (k : FieldKey) × (d ≡ field_decl k) × (IsStaticDecl rows (field_decl k) ⊎ IsInstanceDecl rows (field_decl k))

abbrev MethodSort : List Row → Decl → Type 0
MethodSort rows d = (k : MethodKey) × (d ≡ method_decl k) × (IsStaticDecl rows (method_decl k) ⊎ IsInstanceDecl rows (method_decl k))

module _ (rows : List Row) (are : AreRows rows) (c : Context) where
  field_sort : (d : Decl) → FieldThere rows are d → FieldSort rows d
  field_sort d f = (f.key, f.is, static_or rows (field_decl f.key) f.number f.row)

  variable_code : (name : List ℕ) (d : Decl) → VariableThere rows are (scope_of c) name d → (p : Place) → (t : TargetCode) × VariableCode rows d p t
  variable_code name d (inl (k, finds, is)) p = (core.local (Some p) k.number, subst (λ (z : Decl). VariableCode rows z p (core.local (Some p) k.number)) (sym is) refl)
  variable_code name d (inr (f, object)) p = elim (static_or rows (field_decl f.key) f.number f.row) [
    | inl static ↦ (core.static_field (Some p) f.key, subst (λ (z : Decl). VariableCode rows z p (core.static_field (Some p) f.key)) (sym f.is) (inl (static, refl)))
    | inr instance ↦ (core.field_of (Some p) (core.this None) f.key, subst (λ (z : Decl). VariableCode rows z p (core.field_of (Some p) (core.this None) f.key)) (sym f.is) (inr (instance, (core.this None, refl, refl))))
  ]

  super_is : (name : List ℕ) (d : Decl) → SuperFieldFinds rows c name (one d) → FieldSort rows d
  super_is name d (inl (k, over, finds)) = field_sort d (field_in rows are (scope_of c) k name d finds)
  super_is name d (inr (not, is)) = absurd cc

module _ {A : Type 0} (rows : List Row) (are : AreRows rows) (found : KeysAreFound rows) (c : Context) where
  -- a written class, where each of its references finds one declaration
  pub class_is_written : (begins : A → ℕ → ℕ) (base : ℕ) (t : tree.TypeName A) → IsNamed t → ((at : ℕ) (f : Found) → TypeRefers begins rows c base t at f → IsOne f) → (k : ClassKey) × WritesType rows (scope_of c) t (class k)
  class_is_written begins base (tree.int m) shaped each = absurd shaped
  class_is_written begins base (tree.boolean m) shaped each = absurd shaped
  class_is_written begins base (tree.named m None w) shaped each =
      let f = find_type_named rows (scope_of c) w.text in
      let finds = (found.type_named (scope_of c) w.text f).0 refl in
      let d = each _ f (refl, finds) in
      let there = subst (FindsTypeNamed rows (scope_of c) w.text) d.1 finds in
      by d.0 there (class_named rows are (scope_of c) w.text d.0 there)
    where
      by : (d : Decl) → FindsTypeNamed rows (scope_of c) w.text (one d) → (k : ClassKey) × (d ≡ class_decl k) → (k : ClassKey) × WritesType rows (scope_of c) (tree.named m None w) (class k)
      by d there (k, is) = (k, (k, subst (λ (z : Decl). FindsTypeNamed rows (scope_of c) w.text (one z)) is there, refl))
  class_is_written begins base (tree.named m (Some o) w) shaped each =
      let f = find_type_named rows (scope_of c) o.text in
      let finds = (found.type_named (scope_of c) o.text f).0 refl in
      let d = each _ f (inl (refl, finds)) in
      let there = subst (FindsTypeNamed rows (scope_of c) o.text) d.1 finds in
      let j = class_named rows are (scope_of c) o.text d.0 there in
      let front = subst (λ (z : Decl). FindsTypeNamed rows (scope_of c) o.text (one z)) j.1 there in
      let g = find_type_of rows (scope_of c) j.0 w.text in
      let inside = (found.type_of (scope_of c) j.0 w.text g).0 refl in
      let e = each _ g (inr (refl, inl (j.0, front, inside))) in
      let behind = subst (FindsTypeOf rows (scope_of c) j.0 w.text) e.1 inside in
      let k = class_member rows are (scope_of c) j.0 w.text e.0 behind in
      (k.0, (k.0, (j.0, front, subst (λ (z : Decl). FindsTypeOf rows (scope_of c) j.0 w.text (one z)) k.1 behind), refl))

  field_is : (e : tree.Exp A) (name : List ℕ) (d : Decl) → FieldFinds rows c e name (one d) → FieldSort rows d
  field_is e name d (inl (k, on, finds)) = field_sort rows are c d (field_in rows are (scope_of c) k name d finds)
  field_is e name d (inr (not, is)) = absurd cc

  call_is : (to : tree.Target A) (name : List ℕ) (args : tree.Exps A) (d : Decl) → CallFinds rows c to name args (one d) → MethodSort rows d
  unfolding TargetFinds
  call_is tree.no_target name args d (inl (ts, types, finds)) = let m = method_named rows are (scope_of c) name ts d finds in (m.key, m.is, static_or rows (method_decl m.key) m.number m.row)
  call_is tree.no_target name args d (inr (not, is)) = absurd cc
  call_is (tree.on e) name args d (inl (k, on, inl (ts, types, finds))) = let m = method_of rows are (scope_of c) k name ts d finds in (m.key, m.is, static_or rows (method_decl m.key) m.number m.row)
  call_is (tree.on e) name args d (inl (k, on, inr (not, is))) = absurd cc
  call_is (tree.on e) name args d (inr (not, is)) = absurd cc

  super_call_is : (name : List ℕ) (args : tree.Exps A) (d : Decl) → SuperCallFinds rows c name args (one d) → MethodSort rows d
  super_call_is name args d (inl (k, over, inl (ts, types, finds))) = let m = method_of rows are (scope_of c) k name ts d finds in (m.key, m.is, static_or rows (method_decl m.key) m.number m.row)
  super_call_is name args d (inl (k, over, inr (not, is))) = absurd cc
  super_call_is name args d (inr (not, is)) = absurd cc

  class_or_not : (e : tree.Exp A) → ((k : ClassKey) × IsClassName rows c e k) ⊎ ((k : ClassKey) → IsClassName rows c e k → ⊥)
  class_or_not e = by (class_name_of rows c e) refl
    where
      by : (o : Option ClassKey) → class_name_of rows c e ≡ o → ((k : ClassKey) × IsClassName rows c e k) ⊎ ((k : ClassKey) → IsClassName rows c e k → ⊥)
      by (Some k) is = inl (k, (named rows are found c e k).0 is)
      by None is = inr (λ k h. let p = sym is ∙ (named rows are found c e k).1 h in absurd cc)

  module _ (begins : A → ℕ → ℕ) (b : ℕ) (m : A) where
    abbrev Clean : Role → tree.Exp A → Type 0
    Clean r e = (at : ℕ) (q : Rule) → ExpBreaks begins rows c r b e at q → ⊥

    left_name : (w : tree.Word A) → Clean left (tree.name m w) → ((k : ClassKey) × IsClassName rows c (tree.name m w) k) ⊎ ((d : Decl) × FindsVariable rows (scope_of c) w.text (one d))
    unfolding IsClassName
    left_name w clean = by (find_left rows (scope_of c) w.text) ((left_iff rows are found c w.text (find_left rows (scope_of c) w.text)).0 refl)
      where
        type_case : (d : Decl) → FindsVariable rows (scope_of c) w.text nothing → FindsTypeNamed rows (scope_of c) w.text (one d) → (k : ClassKey) × IsClassName rows c (tree.name m w) k
        type_case d none finds =
            let k = class_named rows are (scope_of c) w.text d finds in
            (k.0, inr (none, subst (λ (z : Decl). FindsTypeNamed rows (scope_of c) w.text (one z)) k.1 finds))

        by : (f : Found) → FindsLeft rows (scope_of c) w.text f → ((k : ClassKey) × IsClassName rows c (tree.name m w) k) ⊎ ((d : Decl) × FindsVariable rows (scope_of c) w.text (one d))
        by (one d) (inl (finds, some)) = inr (d, finds)
        by (one d) (inr (none, finds)) = inl (type_case d none finds)
        by nothing h = absurd (clean _ rule.NoType (nothing, (refl, (refl, h)), refl))
        by (many d e) h = absurd (clean _ rule.Ambiguous (type, (many d e, (refl, (refl, h)), tt)))
        by (not_accessible d) h = absurd (clean _ rule.Private (type, (not_accessible d, (refl, (refl, h)), tt)))
        by (from_static d) h = absurd (clean _ rule.StaticContext (inl (type, (from_static d, (refl, (refl, h)), tt))))

    left_field : (e : tree.Exp A) (w : tree.Word A) → Clean left (tree.field m e w) → ((k : ClassKey) × IsClassName rows c (tree.field m e w) k) ⊎ ((d : Decl) × FieldFinds rows c e w.text (one d))
    unfolding IsClassName
    left_field e w clean = elim (class_or_not e) [
      | inl (o, is) ↦ behind o is (find_left_of rows (scope_of c) o w.text) ((left_of_iff rows are found c o w.text (find_left_of rows (scope_of c) o w.text)).0 refl)
      | inr not ↦ of_value not (field_found rows c (class_on rows c e) w.text) ((field_finds rows are found c e w.text (field_found rows c (class_on rows c e) w.text)).0 refl)
    ]
      where
        type_case : (o : ClassKey) → IsClassName rows c e o → (d : Decl) → FindsFieldIn rows (scope_of c) o w.text nothing → FindsTypeOf rows (scope_of c) o w.text (one d) → (k : ClassKey) × IsClassName rows c (tree.field m e w) k
        type_case o is d none finds =
            let k = class_member rows are (scope_of c) o w.text d finds in
            (k.0, (o, is, inr (none, subst (λ (z : Decl). FindsTypeOf rows (scope_of c) o w.text (one z)) k.1 finds)))

        behind : (o : ClassKey) → IsClassName rows c e o → (f : Found) → FindsLeftOf rows (scope_of c) o w.text f → ((k : ClassKey) × IsClassName rows c (tree.field m e w) k) ⊎ ((d : Decl) × FieldFinds rows c e w.text (one d))
        behind o is (one d) (inl (finds, some)) = inr (d, inl (o, inl is, finds))
        behind o is (one d) (inr (none, finds)) = inl (type_case o is d none finds)
        behind o is nothing h = absurd (clean _ rule.NoType (nothing, (refl, inl (o, is, refl, h)), refl))
        behind o is (many d e) h = absurd (clean _ rule.Ambiguous (type, (many d e, (refl, inl (o, is, refl, h)), tt)))
        behind o is (not_accessible d) h = absurd (clean _ rule.Private (type, (not_accessible d, (refl, inl (o, is, refl, h)), tt)))
        behind o is (from_static d) h = absurd (clean _ rule.StaticContext (inl (type, (from_static d, (refl, inl (o, is, refl, h)), tt))))

        of_value : ((o : ClassKey) → IsClassName rows c e o → ⊥) → (f : Found) → FieldFinds rows c e w.text f → ((k : ClassKey) × IsClassName rows c (tree.field m e w) k) ⊎ ((d : Decl) × FieldFinds rows c e w.text (one d))
        of_value not (one d) h = inr (d, h)
        of_value not nothing h = absurd (clean _ rule.NoVariable (nothing, (refl, inr (not, refl, h)), refl))
        of_value not (many d e) h = absurd (clean _ rule.Ambiguous (variable, (many d e, (refl, inr (not, refl, h)), tt)))
        of_value not (not_accessible d) h = absurd (clean _ rule.Private (variable, (not_accessible d, (refl, inr (not, refl, h)), tt)))
        of_value not (from_static d) h = absurd (clean _ rule.StaticContext (inl (variable, (from_static d, (refl, inr (not, refl, h)), tt))))

    -- ---- casts, class literals, creations

    reference_class : (t : Ty) (of : tree.TypeName A) → WritesType rows (scope_of c) of t → IsReference t → (k : ClassKey) × (t ≡ class k)
    reference_class int of writes h = absurd h
    reference_class boolean of writes h = absurd h
    reference_class void of writes h = absurd h
    reference_class null (tree.int n) writes h = absurd cc
    reference_class null (tree.boolean n) writes h = absurd cc
    reference_class null (tree.named n o w) (k, names, is) h = absurd cc
    reference_class (class k) of writes h = (k, refl)

    cast_types : (r : Role) (of : tree.TypeName A) (e : tree.Exp A) → Clean r (tree.cast m of e) → (t u : Ty) × WritesType rows (scope_of c) of t × HasType rows c e u × ((k : ClassKey) × (t ≡ class k))
    cast_types r of e clean =
        let casts = surely (comparable rows (written_type rows (scope_of c) of) (type_of rows c e)) (Casts rows c of e) (casts_iff rows are found c of e) (λ fails. clean _ rule.BadCast (refl, fails)) in
        (casts.0, casts.1, casts.2, casts.3, reference_class casts.0 of casts.2 casts.4.0)

    class_written : (r : Role) (t : tree.TypeName A) → IsNamed t → Clean r (tree.class_literal m t) → (k : ClassKey) × WritesType rows (scope_of c) t (class k)
    class_written r t shaped clean = class_is_written begins (begins m b) t shaped each
      where
        each : (at : ℕ) (f : Found) → TypeRefers begins rows c (begins m b) t at f → IsOne f
        each at (one d) h = (d, refl)
        each at nothing h = absurd (clean at rule.NoType (nothing, (refl, h), refl))
        each at (many d e) h = absurd (clean at rule.Ambiguous (type, (many d e, (refl, h), tt)))
        each at (not_accessible d) h = absurd (clean at rule.Private (type, (not_accessible d, (refl, h), tt)))
        each at (from_static d) h = absurd (clean at rule.StaticContext (inl (type, (from_static d, (refl, h), tt))))

    created : (r : Role) (t : tree.TypeName A) (args : tree.Exps A) → Clean r (tree.create m t args) → (k : ClassKey) × (q : CtorKey) × WritesType rows (scope_of c) t (class k) × CreationFinds rows c t args (one (constructor_decl q))
    created r t args clean = by (ctor_found rows c (created_class rows c t) (types_of rows c args)) ((creation_finds rows are found c t args (ctor_found rows c (created_class rows c t) (types_of rows c args))).0 refl)
      where
        whole : (d : Decl) → CreationFinds rows c t args (one d) → (k : ClassKey) × (q : CtorKey) × WritesType rows (scope_of c) t (class k) × CreationFinds rows c t args (one (constructor_decl q))
        whole d (inl (k, writes, inl (ts, types, finds))) =
            let q = ctor_of rows are (scope_of c) k ts d finds in
            (k, q.key, writes, subst (λ (z : Decl). CreationFinds rows c t args (one z)) q.is (inl (k, writes, inl (ts, types, finds))))
        whole d (inl (k, writes, inr (not, is))) = absurd cc
        whole d (inr (not, is)) = absurd cc

        by : (f : Found) → CreationFinds rows c t args f → (k : ClassKey) × (q : CtorKey) × WritesType rows (scope_of c) t (class k) × CreationFinds rows c t args (one (constructor_decl q))
        by (one d) h = whole d h
        by nothing h = absurd (clean _ rule.NoMethod (nothing, inl (refl, refl, h), refl))
        by (many d e) h = absurd (clean _ rule.Ambiguous (method, (many d e, inl (refl, refl, h), tt)))
        by (not_accessible d) h = absurd (clean _ rule.Private (method, (not_accessible d, inl (refl, refl, h), tt)))
        by (from_static d) h = absurd (clean _ rule.StaticContext (inl (method, (from_static d, inl (refl, refl, h), tt))))

  pub answers : Answers A rows c
  answers = record {
    some_variable = λ name. (find_variable rows (scope_of c) name, (found.variable (scope_of c) name (find_variable rows (scope_of c) name)).0 refl);
    is_variable = λ name d finds p. variable_code rows are c name d (variable_there rows are (scope_of c) name d finds) p;
    some_field = λ e name. (field_found rows c (class_on rows c e) name, (field_finds rows are found c e name (field_found rows c (class_on rows c e) name)).0 refl);
    is_field = field_is;
    some_super = λ name. (field_found rows c (own_superclass rows c) name, (super_field_finds rows are found c name (field_found rows c (own_superclass rows c) name)).0 refl);
    is_super = super_is rows are c;
    some_call = λ to name args. (target_found rows c to name (types_of rows c args), (call_finds rows are found c to name args (target_found rows c to name (types_of rows c args))).0 refl);
    is_method = call_is;
    some_super_call = λ name args. (call_found rows c (own_superclass rows c) name (types_of rows c args), (super_call_finds rows are found c name args (call_found rows c (own_superclass rows c) name (types_of rows c args))).0 refl);
    is_super_method = super_call_is;
    class_or = class_or_not;
    left_name = λ begins b m w clean. left_name begins b m w clean;
    left_field = λ begins b m e w clean. left_field begins b m e w clean;
    assignable_or = λ t u. or_not (assigns rows t u) (IsAssignable rows t u) (assigns_iff rows are t u);
    cast_types = λ r b begins m of e clean. cast_types begins b m r of e clean;
    class_written = λ r b begins m t shaped clean. class_written begins b m r t shaped clean;
    created = λ r b begins m t args clean. created begins b m r t args clean;
  }
