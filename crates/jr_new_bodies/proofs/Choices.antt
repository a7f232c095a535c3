-- Where what a reference finds is one declaration, something is chosen for it, and that is what
-- `jr_rename: Spelling` relates.
use Rattle.std.proofs.Common.{◌≡◌, ◌≢◌, ℕ, List, [], Option, Some, None, refl, sym, ap, subst, ◌∙◌, inl, inr}
use Rattle.std.specs.Prelude.{◌⊎◌, IsSome, option_map}
use Rattle.jr_ast.specs.Tree as tree
use Rattle.jr_table.specs.Keys.{ClassKey, FieldKey, MethodKey, CtorKey, Ty, void, class}
use Rattle.jr_table.specs.Decls.{LocalKey, Decl, class_decl, field_decl, method_decl, constructor_decl, local_decl}
use Rattle.jr_table.specs.Rows.{Row}
use Rattle.jr_table.specs.Conditions.{AreRows}
use Rattle.jr_table.specs.Found.{Found, one, nothing}
use Rattle.jr_table.specs.LookupLaws.{Decided, KeysAreFound}
use Rattle.jr_table.specs.BindingLaws.{IsBound}
use Rattle.jr_table.specs.Lookup.{FindsVariable, FindsTypeNamed, FindsTypeOf, FindsFieldIn, FindsMethodNamed, FindsMethodOf, FindsCtorOf, FindsLeft, FindsLeftOf, find_variable, find_type_named, find_type_of, find_field_in, find_method_named, find_method_of, find_ctor_of}
use Rattle.jr_table.specs.Context.{Context, scope_of, WritesType, IsSuperclass}
use Rattle.jr_table.specs.Binding.{Role, value, left, statement, variable, type, HasType, IsClassName, IsOn, HaveTypes, FindsIn, FindsFor, TargetFinds, FieldFinds, SuperFieldFinds, CallFinds, SuperCallFinds, CreationFinds, SuperCtorFinds}
use Rattle.jr_table.specs.Meanings.{find_left, find_left_of, own_superclass, field_found, call_found, target_found, ctor_found, created_class, types_of}
use Rattle.jr_table.proofs.Typing.{left_iff, left_of_iff, own_super_iff}
use Rattle.jr_rewrite.specs.Respellings.{Choice}
use Rattle.jr_new_words.specs.Mappings.{Mapping, type_now, types_now}
use Rattle.jr_images.specs.Words.{InFront}
use Rattle.jr_new_words.specs.Spelled.{WordsStand}
use Rattle.jr_new_words.specs.Spelled as spells
use Rattle.jr_new_words.specs.Chosen.{unmarked, ChoosesOf, VariableIsChosen, ClassIsChosen, FieldIsChosen, StaticFieldIsChosen, MemberClassIsChosen, SuperFieldIsChosen, SimpleCallIsChosen, CallIsChosen, StaticCallIsChosen, SuperCallIsChosen, CreationIsChosen, SuperCtorIsChosen, TypeIsChosen, QualifierIsChosen, QualifiedTypeIsChosen}
use Rattle.jr_new_bodies.specs.Known.{IsOne, NameIsBound, NameSpells, DottedIsBound, DottedSpells, SuperFieldIsBound, CallIsBound, SuperCallIsBound, CreationIsBound, SuperCtorIsBound, TypeNameIsBound, InnerNameIsBound, IsValueOf, NoField, Creates}
use Rattle.jr_new_bodies.proofs.Sorts.{found_variable, found_field, found_type, found_inner, found_method, found_call, found_ctor}

-- what is found, where it is one declaration
pub the_one : (find : Found) (Finds : Found → Type 0) → Decided find Finds → ((f : Found) → Finds f → IsOne f) → (d : Decl) × Finds (one d)
the_one find Finds exact bound = let h = (exact find).0 refl in let o = bound find h in (o.0, subst Finds o.1 h)

-- something is there, as nothing isn't
pub some_where : {X Y : Type 0} (f : X → Y) (o : Option X) (P : Option Y → Type 0) → P (option_map f o) → (P None → ⊥) → IsSome o
some_where f None P h none = absurd (none h)
some_where f (Some x) P h none = refl

-- the same of what is there as it is
pub some_here : {X : Type 0} (o : Option X) (P : Option X → Type 0) → P o → (P None → ⊥) → IsSome o
some_here None P h none = absurd (none h)
some_here (Some x) P h none = refl

-- and it has the property
pub of_some : {X Y : Type 0} (f : X → Y) (o : Option X) (x : X) (P : Option Y → Type 0) → o ≡ Some x → P (option_map f o) → P (Some (f x))
of_some f o x P is h = subst (λ p. P (option_map f p)) is h

module _ (rows : List Row) (are : AreRows rows) (keys : KeysAreFound rows) (g : Mapping) (c : Context) where
  -- ---- simple names

  pub no_variable : (name : List ℕ) (at : ℕ) (d : Decl) → VariableIsChosen rows g c at name None → FindsVariable rows (scope_of c) name (one d) → ⊥
  no_variable name at d none h = by (found_variable rows (scope_of c) name d h)
    where
      by : (((k : LocalKey) × (d ≡ local_decl k)) ⊎ ((k : FieldKey) × (d ≡ field_decl k))) → ⊥
      by (inl (k, is)) = none.0 k (subst (λ x. FindsVariable rows (scope_of c) name (one x)) is h)
      by (inr (k, is)) = none.1 k (subst (λ x. FindsVariable rows (scope_of c) name (one x)) is h)

  pub never_value : (name : List ℕ) (at : ℕ) → NameIsBound rows c value name → VariableIsChosen rows g c at name None → ⊥
  never_value name at bound none =
      let o = the_one (find_variable rows (scope_of c) name) (FindsVariable rows (scope_of c) name) (keys.variable (scope_of c) name) (λ f h. bound variable f (refl, h)) in
      no_variable name at o.0 none o.1

  pub never_statement : (name : List ℕ) (at : ℕ) → NameIsBound rows c statement name → VariableIsChosen rows g c at name None → ⊥
  never_statement name at bound none =
      let o = the_one (find_variable rows (scope_of c) name) (FindsVariable rows (scope_of c) name) (keys.variable (scope_of c) name) (λ f h. bound variable f (refl, h)) in
      no_variable name at o.0 none o.1

  pub class_there : (name : List ℕ) (at : ℕ) → NameIsBound rows c left name → VariableIsChosen rows g c at name None → ClassIsChosen rows g c at name None → ⊥
  class_there name at bound none no_class =
      let o = the_one (find_left rows (scope_of c) name) (FindsLeft rows (scope_of c) name) (left_iff rows are keys c name) (λ f h. bound type f (refl, h)) in
      by o.0 o.1
    where
      by : (d : Decl) → FindsLeft rows (scope_of c) name (one d) → ⊥
      by d (inl h) = no_variable name at d none h.0
      by d (inr h) = let k = found_type rows (scope_of c) name d h.1 in no_class k.0 h.0 (subst (λ x. FindsTypeNamed rows (scope_of c) name (one x)) k.1 h.1)

  -- ---- behind a dot

  module _ {A : Type 0} (begins : A → ℕ → ℕ) (e : tree.Exp A) (name : List ℕ) where
    on_value : (k : ClassKey) → IsValueOf rows c e k → IsOn rows c e k
    on_value k h = inr h

    pub field_there : (role : Role) (k : ClassKey) (t : Ty) (at : ℕ) → IsValueOf rows c e k → DottedIsBound begins rows c role e name → FieldIsChosen rows g c at k t name None → ⊥
    field_there role k t at on bound none =
        let o = the_one (find_field_in rows (scope_of c) k name) (FindsFieldIn rows (scope_of c) k name) (keys.field_in (scope_of c) k name) (λ f h. by role bound f (inl (k, on_value k on, h))) in
        let d = found_field rows (scope_of c) k name o.0 o.1 in
        none d.0 (subst (λ x. FindsFieldIn rows (scope_of c) k name (one x)) d.1 o.1)
      where
        by : (r : Role) → DottedIsBound begins rows c r e name → (f : Found) → FieldFinds rows c e name f → IsOne f
        by value bound f h = bound variable f (refl, h)
        by left bound f h = bound variable f (inr (on.0, refl, h))
        by statement bound f h = bound variable f (refl, h)

    pub field_chosen : (role : Role) (k : ClassKey) (at : ℕ) (h : Choice) → IsValueOf rows c e k → FieldIsChosen rows g c at k (type_now g c e (class k)) name (Some h) → DottedSpells begins rows g c role at e name h
    field_chosen role k at h on (f, finds, chosen) = inl (f, inl (k, on_value k on, finds), inr (on.0, (k, on.1, chosen)))

    pub class_field_chosen : (role : Role) (k : ClassKey) (w : InFront) (at : ℕ) (h : Choice) → IsClassName rows c e k → WordsStand rows g c e k w
        → StaticFieldIsChosen rows g c at w k name (Some h) → DottedSpells begins rows g c role at e name h
    class_field_chosen role k w at h on words (f, finds, chosen) = inl (f, inl (k, inl on, finds), inl (k, on, (w, words, chosen)))

    pub no_field : (k : ClassKey) (w : InFront) (at : ℕ) → StaticFieldIsChosen rows g c at w k name None → NoField rows c k name
    no_field k w at none = none

    no_one_field : (k : ClassKey) (d : Decl) → NoField rows c k name → FindsFieldIn rows (scope_of c) k name (one d) → ⊥
    no_one_field k d none h = let f = found_field rows (scope_of c) k name d h in none f.0 (subst (λ x. FindsFieldIn rows (scope_of c) k name (one x)) f.1 h)

    pub never_field : (k : ClassKey) → IsClassName rows c e k → NoField rows c k name → ((f : Found) → FieldFinds rows c e name f → IsOne f) → ⊥
    never_field k on none bound =
        let o = the_one (find_field_in rows (scope_of c) k name) (FindsFieldIn rows (scope_of c) k name) (keys.field_in (scope_of c) k name) (λ f h. bound f (inl (k, inl on, h))) in
        no_one_field k o.0 none o.1

    pub inner_there : (k : ClassKey) (v : InFront) (at : ℕ) → IsClassName rows c e k → NoField rows c k name → DottedIsBound begins rows c left e name → MemberClassIsChosen rows g c at v k name None → ⊥
    inner_there k v at on none bound no_class =
        let o = the_one (find_left_of rows (scope_of c) k name) (FindsLeftOf rows (scope_of c) k name) (left_of_iff rows are keys c k name) (λ f h. bound type f (inl (k, on, refl, h))) in
        by o.0 o.1
      where
        by : (d : Decl) → FindsLeftOf rows (scope_of c) k name (one d) → ⊥
        by d (inl h) = no_one_field k d none h.0
        by d (inr h) = let m = found_inner rows (scope_of c) k name d h.1 in no_class m.0 (h.0, subst (λ x. FindsTypeOf rows (scope_of c) k name (one x)) m.1 h.1)

    pub inner_chosen : (k : ClassKey) (v : InFront) (at : ℕ) (h : Choice) → IsClassName rows c e k → WordsStand rows g c e k v → MemberClassIsChosen rows g c at v k name (Some h) → DottedSpells begins rows g c left at e name h
    inner_chosen k v at h on words (m, finds, chosen) = inr (k, m, on, finds.0, finds.1, v, words, chosen.0, chosen.1, chosen.2)

    pub never_neither : (role : Role) → DottedIsBound begins rows c role e name → ((k : ClassKey) → IsOn rows c e k → ⊥) → ⊥
    never_neither role bound none = by role bound
      where
        nowhere : FieldFinds rows c e name nothing
        nowhere = inr (none, refl)

        no_name : (k : ClassKey) → IsClassName rows c e k → ⊥
        no_name k h = none k (inl h)

        never : IsOne nothing → ⊥
        never (d, is) = absurd cc

        by : (r : Role) → DottedIsBound begins rows c r e name → ⊥
        by value bound = never (bound variable nothing (refl, nowhere))
        by left bound = never (bound variable nothing (inr (no_name, refl, nowhere)))
        by statement bound = never (bound variable nothing (refl, nowhere))

  -- ---- fields behind `super`

  pub super_field_there : (name : List ℕ) (at : ℕ) → Decided (field_found rows c (own_superclass rows c) name) (SuperFieldFinds rows c name)
      → SuperFieldIsBound rows c name → SuperFieldIsChosen rows g c at name None → ⊥
  super_field_there name at exact bound none =
      let o = the_one (field_found rows c (own_superclass rows c) name) (SuperFieldFinds rows c name) exact bound in
      by o.0 o.1
    where
      never : (d : Decl) → one d ≡ nothing → ⊥
      never d e = absurd cc

      by : (d : Decl) → SuperFieldFinds rows c name (one d) → ⊥
      by d (inl (k, is, finds)) =
          let f = found_field rows (scope_of c) k name d finds in
          none f.0 (inl (k, is, subst (λ x. FindsFieldIn rows (scope_of c) k name (one x)) f.1 finds))
      by d (inr (lacks, is)) = never d is

  -- ---- calls

  module _ {A : Type 0} (begins : A → ℕ → ℕ) (name : List ℕ) (args : tree.Exps A) where
    never : (d : Decl) → one d ≡ nothing → ⊥
    never d e = absurd cc

    not_one : IsOne nothing → ⊥
    not_one (d, is) = absurd cc

    -- each argument has a type
    pub types_there : CallIsBound begins rows c tree.no_target name args → ((ts : List Ty) → HaveTypes rows c args ts → ⊥) → ⊥
    unfolding TargetFinds
    types_there bound none = not_one (bound nothing (inr (none, refl)))

    pub call_types_there : (e : tree.Exp A) (k : ClassKey) → IsOn rows c e k → CallIsBound begins rows c (tree.on e) name args → ((ts : List Ty) → HaveTypes rows c args ts → ⊥) → ⊥
    unfolding TargetFinds
    call_types_there e k on bound none = not_one (bound nothing (inl (k, on, inr (none, refl))))

    pub simple_there : (ts us : List Ty) (at : ℕ) → HaveTypes rows c args ts → CallIsBound begins rows c tree.no_target name args → SimpleCallIsChosen rows g c at name ts us None → ⊥
    unfolding TargetFinds
    simple_there ts us at have bound none =
        let o = the_one (find_method_named rows (scope_of c) name ts) (FindsMethodNamed rows (scope_of c) name ts) (keys.method_named (scope_of c) name ts) (λ f h. bound f (inl (ts, have, h))) in
        let m = found_call rows (scope_of c) name ts o.0 o.1 in
        none m.0 (subst (λ x. FindsMethodNamed rows (scope_of c) name ts (one x)) m.1 o.1)

    pub simple_chosen : (ts : List Ty) (at : ℕ) (h : Choice) → HaveTypes rows c args ts → SimpleCallIsChosen rows g c at name ts (types_now g c args ts) (Some h) → spells.SimpleCallSpells begins rows g c at name args h
    unfolding TargetFinds
    simple_chosen ts at h have (q, finds, chosen) = (q, ts, inl (ts, have, finds), have, chosen)

    pub call_there : (e : tree.Exp A) (k : ClassKey) (t : Ty) (ts us : List Ty) (at : ℕ) → IsOn rows c e k → HaveTypes rows c args ts → CallIsBound begins rows c (tree.on e) name args → CallIsChosen rows g c at k t name ts us None → ⊥
    unfolding TargetFinds
    call_there e k t ts us at on have bound none =
        let o = the_one (find_method_of rows (scope_of c) k name ts) (FindsMethodOf rows (scope_of c) k name ts) (keys.method_of (scope_of c) k name ts) (λ f h. bound f (inl (k, on, inl (ts, have, h)))) in
        let m = found_method rows (scope_of c) k name ts o.0 o.1 in
        none m.0 (subst (λ x. FindsMethodOf rows (scope_of c) k name ts (one x)) m.1 o.1)

    pub static_call_there : (e : tree.Exp A) (w : InFront) (k : ClassKey) (ts us : List Ty) (at : ℕ) → IsOn rows c e k → HaveTypes rows c args ts → CallIsBound begins rows c (tree.on e) name args → StaticCallIsChosen rows g c at w k name ts us None → ⊥
    static_call_there e w k ts us at on have bound none = call_there e k void ts us at on have bound none

    pub call_chosen : (e : tree.Exp A) (k : ClassKey) (ts : List Ty) (at : ℕ) (h : Choice) → IsValueOf rows c e k → HaveTypes rows c args ts → CallIsChosen rows g c at k (type_now g c e (class k)) name ts (types_now g c args ts) (Some h) → spells.CallSpells begins rows g c at e name args h
    unfolding TargetFinds
    call_chosen e k ts at h on have (q, finds, chosen) = (q, ts, inl (k, inr on, inl (ts, have, finds)), have, inr (on.0, (k, on.1, chosen)))

    pub static_call_chosen : (e : tree.Exp A) (k : ClassKey) (w : InFront) (ts : List Ty) (at : ℕ) (h : Choice) → IsClassName rows c e k → WordsStand rows g c e k w → HaveTypes rows c args ts
        → StaticCallIsChosen rows g c at w k name ts (types_now g c args ts) (Some h) → spells.CallSpells begins rows g c at e name args h
    unfolding TargetFinds
    static_call_chosen e k w ts at h on words have (q, finds, chosen) = (q, ts, inl (k, inl on, inl (ts, have, finds)), have, inl (k, on, (w, words, chosen)))

    pub no_call : (e : tree.Exp A) → CallIsBound begins rows c (tree.on e) name args → ((k : ClassKey) → IsOn rows c e k → ⊥) → ⊥
    unfolding TargetFinds
    no_call e bound none = not_one (bound nothing (inr (none, refl)))

    -- the call has an operand of a class, if it has one
    pub on_types_there : (e : tree.Exp A) → Decided (target_found rows c (tree.on e) name (types_of rows c args)) (CallFinds rows c (tree.on e) name args)
        → CallIsBound begins rows c (tree.on e) name args → ((ts : List Ty) → HaveTypes rows c args ts → ⊥) → ⊥
    unfolding TargetFinds
    on_types_there e exact bound none =
        let o = the_one (target_found rows c (tree.on e) name (types_of rows c args)) (CallFinds rows c (tree.on e) name args) exact bound in
        by o.0 o.1
      where
        by : (d : Decl) → CallFinds rows c (tree.on e) name args (one d) → ⊥
        by d (inl (k, on, inl (ts, have, finds))) = none ts have
        by d (inl (k, on, inr (lacks, is))) = never d is
        by d (inr (lacks, is)) = never d is

    -- behind `super`
    super_is : (exact : Decided (call_found rows c (own_superclass rows c) name (types_of rows c args)) (SuperCallFinds rows c name args)) → SuperCallIsBound begins rows c name args
        → (k : ClassKey) × (ts : List Ty) × IsSuperclass rows (scope_of c).class k × HaveTypes rows c args ts
    super_is exact bound =
        let o = the_one (call_found rows c (own_superclass rows c) name (types_of rows c args)) (SuperCallFinds rows c name args) exact bound in
        by o.0 o.1
      where
        by : (d : Decl) → SuperCallFinds rows c name args (one d) → (k : ClassKey) × (ts : List Ty) × IsSuperclass rows (scope_of c).class k × HaveTypes rows c args ts
        by d (inl (k, is, inl (ts, have, finds))) = (k, ts, is, have)
        by d (inl (k, is, inr (lacks, e))) = absurd (never d e)
        by d (inr (lacks, e)) = absurd (never d e)

    pub super_types_there : (exact : Decided (call_found rows c (own_superclass rows c) name (types_of rows c args)) (SuperCallFinds rows c name args)) → SuperCallIsBound begins rows c name args
        → ((ts : List Ty) → HaveTypes rows c args ts → ⊥) → ⊥
    super_types_there exact bound none = let h = super_is exact bound in none h.1 h.3

    pub super_call_there : (exact : Decided (call_found rows c (own_superclass rows c) name (types_of rows c args)) (SuperCallFinds rows c name args)) → (ts us : List Ty) (at : ℕ) → HaveTypes rows c args ts
        → SuperCallIsBound begins rows c name args → SuperCallIsChosen rows g c at name ts us None → ⊥
    super_call_there exact ts us at have bound none =
        let k = super_is exact bound in
        let o = the_one (find_method_of rows (scope_of c) k.0 name ts) (FindsMethodOf rows (scope_of c) k.0 name ts) (keys.method_of (scope_of c) k.0 name ts) (λ f h. bound f (inl (k.0, k.2, inl (ts, have, h)))) in
        let m = found_method rows (scope_of c) k.0 name ts o.0 o.1 in
        none m.0 (inl (k.0, k.2, subst (λ x. FindsMethodOf rows (scope_of c) k.0 name ts (one x)) m.1 o.1))

    pub super_call_chosen : (ts : List Ty) (at : ℕ) (h : Choice) → HaveTypes rows c args ts → SuperCallIsChosen rows g c at name ts (types_now g c args ts) (Some h) → spells.SuperCallSpells begins rows g c at name args h
    super_call_chosen ts at h have (q, finds, chosen) = (q, ts, by finds, have, chosen)
      where
        by : FindsIn (IsSuperclass rows (scope_of c).class) (λ k x. FindsMethodOf rows (scope_of c) k name ts x) (one (method_decl q)) → SuperCallFinds rows c name args (one (method_decl q))
        by (inl (k, is, found)) = inl (k, is, inl (ts, have, found))
        by (inr (lacks, is)) = inr (lacks, is)

  -- ---- creations and `super(..)`

  module _ {A : Type 0} (begins : A → ℕ → ℕ) (args : tree.Exps A) where
    nothing_one : IsOne nothing → ⊥
    nothing_one (d, is) = absurd cc

    one_nothing : (d : Decl) → one d ≡ nothing → ⊥
    one_nothing d e = absurd cc

    -- a creation names a class, its arguments have types, and one constructor is found
    pub creation_is : (t : tree.TypeName A) → Decided (ctor_found rows c (created_class rows c t) (types_of rows c args)) (CreationFinds rows c t args) → CreationIsBound begins rows c t args
        → (k : ClassKey) × (d : Decl) × (ts : List Ty) × WritesType rows (scope_of c) t (class k) × HaveTypes rows c args ts × FindsCtorOf rows (scope_of c) k ts (one d)
    creation_is t exact bound =
        let o = the_one (ctor_found rows c (created_class rows c t) (types_of rows c args)) (CreationFinds rows c t args) exact bound in
        by o.0 o.1
      where
        by : (d : Decl) → CreationFinds rows c t args (one d) → (k : ClassKey) × (e : Decl) × (ts : List Ty) × WritesType rows (scope_of c) t (class k) × HaveTypes rows c args ts × FindsCtorOf rows (scope_of c) k ts (one e)
        by d (inl (k, is, inl (ts, have, finds))) = (k, d, ts, is, have, finds)
        by d (inl (k, is, inr (lacks, e))) = absurd (one_nothing d e)
        by d (inr (lacks, e)) = absurd (one_nothing d e)

    pub creation_types : (t : tree.TypeName A) → Decided (ctor_found rows c (created_class rows c t) (types_of rows c args)) (CreationFinds rows c t args) → CreationIsBound begins rows c t args → ((ts : List Ty) → HaveTypes rows c args ts → ⊥) → ⊥
    creation_types t exact bound none = let h = creation_is t exact bound in none h.2 h.4

    pub creation_there : (t : tree.TypeName A) (k : ClassKey) (ts us : List Ty) (at : ℕ) → WritesType rows (scope_of c) t (class k) → HaveTypes rows c args ts → CreationIsBound begins rows c t args → CreationIsChosen rows g c at k ts us None → ⊥
    creation_there t k ts us at is have bound none =
        let o = the_one (find_ctor_of rows (scope_of c) k ts) (FindsCtorOf rows (scope_of c) k ts) (keys.ctor_of (scope_of c) k ts) (λ f h. bound f (inl (k, is, inl (ts, have, h)))) in
        let m = found_ctor rows (scope_of c) k ts o.0 o.1 in
        none m.0 (subst (λ x. FindsCtorOf rows (scope_of c) k ts (one x)) m.1 o.1)

    pub creation_chosen : (t : tree.TypeName A) (k : ClassKey) (ts : List Ty) (at : ℕ) (h : Choice) → WritesType rows (scope_of c) t (class k) → HaveTypes rows c args ts → CreationIsChosen rows g c at k ts (types_now g c args ts) (Some h) → Creates begins rows g c at t args h
    creation_chosen t k ts at h is have (q, finds, chosen) = (k, q, ts, is, inl (k, is, inl (ts, have, finds)), have, chosen)

    ctor_is : (k : Option ClassKey) → ((j : ClassKey) → (k ≡ Some j) → IsSuperclass rows (scope_of c).class j) → ((j : ClassKey) → IsSuperclass rows (scope_of c).class j → k ≡ Some j)
        → SuperCtorIsBound rows c args → (j : ClassKey) × IsSuperclass rows (scope_of c).class j
    ctor_is None to back bound = absurd (nothing_one (bound nothing (inr ((λ j is. let e = back j is in absurd cc), refl))))
    ctor_is (Some j) to back bound = (j, to j refl)

    superclass_is : SuperCtorIsBound rows c args → (j : ClassKey) × IsSuperclass rows (scope_of c).class j
    superclass_is bound = ctor_is (own_superclass rows c) (λ j e. (own_super_iff rows are keys c j).0 e) (λ j e. (own_super_iff rows are keys c j).1 e) bound

    pub super_ctor_types : SuperCtorIsBound rows c args → ((ts : List Ty) → HaveTypes rows c args ts → ⊥) → ⊥
    super_ctor_types bound none = let k = superclass_is bound in nothing_one (bound nothing (inl (k.0, k.1, inr (none, refl))))

    pub super_ctor_there : (ts us : List Ty) (at : ℕ) → HaveTypes rows c args ts → SuperCtorIsBound rows c args → SuperCtorIsChosen rows g c at ts us None → ⊥
    super_ctor_there ts us at have bound none =
        let k = superclass_is bound in
        let o = the_one (find_ctor_of rows (scope_of c) k.0 ts) (FindsCtorOf rows (scope_of c) k.0 ts) (keys.ctor_of (scope_of c) k.0 ts) (λ f h. bound f (inl (k.0, k.1, inl (ts, have, h)))) in
        let m = found_ctor rows (scope_of c) k.0 ts o.0 o.1 in
        none m.0 (inl (k.0, k.1, subst (λ x. FindsCtorOf rows (scope_of c) k.0 ts (one x)) m.1 o.1))

    pub super_ctor_chosen : (ts : List Ty) (at : ℕ) (h : Choice) → HaveTypes rows c args ts → SuperCtorIsChosen rows g c at ts (types_now g c args ts) (Some h) → spells.SuperCtorSpells begins rows g at c args h
    super_ctor_chosen ts at h have (q, finds, chosen) = (q, ts, by finds, have, chosen)
      where
        by : FindsIn (IsSuperclass rows (scope_of c).class) (λ k x. FindsCtorOf rows (scope_of c) k ts x) (one (constructor_decl q)) → SuperCtorFinds rows c args (one (constructor_decl q))
        by (inl (k, is, found)) = inl (k, is, inl (ts, have, found))
        by (inr (lacks, is)) = inr (lacks, is)

  -- ---- types

  type_is : (name : List ℕ) → TypeNameIsBound rows c name → (k : ClassKey) × FindsTypeNamed rows (scope_of c) name (one (class_decl k))
  type_is name bound =
      let o = the_one (find_type_named rows (scope_of c) name) (FindsTypeNamed rows (scope_of c) name) (keys.type_named (scope_of c) name) bound in
      let k = found_type rows (scope_of c) name o.0 o.1 in
      (k.0, subst (λ x. FindsTypeNamed rows (scope_of c) name (one x)) k.1 o.1)

  pub type_there : (name : List ℕ) (at : ℕ) → TypeNameIsBound rows c name → TypeIsChosen rows g c at name None → ⊥
  type_there name at bound none = let k = type_is name bound in none k.0 k.1

  pub qualifier_there : (name : List ℕ) (at : ℕ) → TypeNameIsBound rows c name → QualifierIsChosen rows g c at name None → ⊥
  qualifier_there name at bound none = let k = type_is name bound in none k.0 k.1

  pub inner_type_there : (outer name : List ℕ) (at : ℕ) → TypeNameIsBound rows c outer → InnerNameIsBound rows c outer name → QualifiedTypeIsChosen rows g c at outer name None → ⊥
  inner_type_there outer name at first bound none =
      let k = type_is outer first in
      let o = the_one (find_type_of rows (scope_of c) k.0 name) (FindsTypeOf rows (scope_of c) k.0 name) (keys.type_of (scope_of c) k.0 name) (λ f h. bound f (inl (k.0, k.1, h))) in
      let m = found_inner rows (scope_of c) k.0 name o.0 o.1 in
      none (k.0, m.0) (k.1, subst (λ x. FindsTypeOf rows (scope_of c) k.0 name (one x)) m.1 o.1)
