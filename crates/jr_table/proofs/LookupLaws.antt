-- Lookup by keys: what is found is what the relations say, and each question has one answer.
use Rattle.std.proofs.Common.{◌≡◌, ◌≢◌, ℕ, List, map, Option, Some, None, refl, sym, ap, subst, ◌∙◌, inl, inr}
use Rattle.std.specs.Prelude.{◌⊎◌, ◌↔◌}
use Rattle.jr_table.specs.declared.answers.Answer.{Answer}
use Rattle.jr_table.specs.Keys.{ClassKey, Ty}
use Rattle.jr_table.specs.Decls.{LocalKey, local_decl}
use Rattle.jr_table.specs.Rows.{Row}
use Rattle.jr_table.specs.Found.{Found, one, nothing}
use Rattle.jr_table.specs.Entries.{entries_of, class_number, kind_of}
use Rattle.jr_table.specs.Conditions.{AreRows}
use Rattle.jr_table.specs.Scope.{Scope, FindsLocal, HasNoLocal, last_named}
use Rattle.jr_table.specs.Fields.{FindsField, find_field, FindsFieldOf, find_field_of, FindsMemberType, find_member_type}
use Rattle.jr_table.specs.TypeNames.{FindsType, find_type}
use Rattle.jr_table.specs.Calls.{FindsMethod, find_method, FindsCall, find_call, FindsCtor, find_ctor}
use Rattle.jr_table.specs.Lookup.{ByKeys, FindsVariable, FindsTypeNamed, FindsTypeOf, FindsFieldIn, FindsMethodNamed, FindsMethodOf, FindsCtorOf, FindsLeft, FindsLeftOf, shown, local_or, find_variable, find_type_named, find_type_of, find_field_in, find_method_named, find_method_of, find_ctor_of}
use Rattle.jr_table.specs.LookupLaws.{Decided, HasOne, NumbersAreFound, KeysAreFound, EachHasOne}
use Rattle.jr_table.proofs.ScopeLaws.{SaysLast, last_is, no_local, the_local}
use Rattle.jr_table.proofs.ShowingLaws.{AllStand, by_keys, field_all, field_of_all, member_type_all, type_all, method_all, ctor_all, call_all}
use Rattle.jr_table.proofs.FieldLaws.{field_is, field_of_is, member_type_is, type_is_found}
use Rattle.jr_table.proofs.CallLaws.{method_is, ctor_is, call_is}

-- where a function decides, there is one answer
one_each : {A : Type 0} (found : A) (Finds : A → Type 0) → Decided found Finds → HasOne Finds
one_each found Finds law a b h k = sym ((law a).1 h) ∙ (law b).1 k

-- of two questions the second is asked where the first finds nothing
first_or_second : (First Second : Found → Type 0) → HasOne First → HasOne Second → HasOne (λ f. (First f × (f ≢ nothing)) ⊎ (First nothing × Second f))
first_or_second First Second one_first one_second f g (inl h) (inl k) = one_first f g h.0 k.0
first_or_second First Second one_first one_second f g (inl h) (inr k) = absurd (h.1 (one_first f nothing h.0 k.0))
first_or_second First Second one_first one_second f g (inr h) (inl k) = absurd (k.1 (one_first g nothing k.0 h.0))
first_or_second First Second one_first one_second f g (inr h) (inr k) = one_second f g h.1 k.1

module _ (rows : List Row) (are : AreRows rows) where
  pub numbers_found : NumbersAreFound rows
  numbers_found = record {
    field = λ c is_static name. field_is rows are c is_static name;
    field_of = λ place c name. field_of_is rows are place c name;
    type = λ c name. type_is_found rows are c name;
    member_type = λ place c name. member_type_is rows are place c name;
    call = λ c is_static name args. call_is rows are c is_static name args;
    method = λ place c name args. method_is rows are name c place args;
    ctor = λ place c args. ctor_is rows are c place args;
  }

  type_named_is : (s : Scope) (name : List ℕ) → Decided (find_type_named rows s name) (FindsTypeNamed rows s name)
  unfolding find_type_named
  type_named_is s name f =
      let law = type_is_found rows are (class_number rows s.class) name in
      let a = find_type rows (class_number rows s.class) name in
      by_keys rows (FindsType rows (class_number rows s.class) name) a law (type_all rows (class_number rows s.class) name a ((law a).0 refl)) f

  type_of_is : (s : Scope) (of : ClassKey) (name : List ℕ) → Decided (find_type_of rows s of name) (FindsTypeOf rows s of name)
  unfolding find_type_of
  type_of_is s of name f =
      let place = class_number rows s.class in
      let c = class_number rows of in
      let law = member_type_is rows are place c name in
      let a = find_member_type (entries_of rows) place c name in
      by_keys rows (FindsMemberType (entries_of rows) place c name) a law (member_type_all rows place c name a ((law a).0 refl)) f

  field_in_is : (s : Scope) (of : ClassKey) (name : List ℕ) → Decided (find_field_in rows s of name) (FindsFieldIn rows s of name)
  unfolding find_field_in
  field_in_is s of name f =
      let place = class_number rows s.class in
      let c = class_number rows of in
      let law = field_of_is rows are place c name in
      let a = find_field_of (entries_of rows) place c name in
      by_keys rows (FindsFieldOf (entries_of rows) place c name) a law (field_of_all rows place c name a ((law a).0 refl)) f

  method_named_is : (s : Scope) (name : List ℕ) (args : List Ty) → Decided (find_method_named rows s name args) (FindsMethodNamed rows s name args)
  unfolding find_method_named
  method_named_is s name args f =
      let c = class_number rows s.class in
      let kinds = map (kind_of rows) args in
      let law = call_is rows are c s.is_static name kinds in
      let a = find_call (entries_of rows) c s.is_static name kinds in
      by_keys rows (FindsCall (entries_of rows) c s.is_static name kinds) a law (call_all rows c s.is_static name kinds a ((law a).0 refl)) f

  method_of_is : (s : Scope) (of : ClassKey) (name : List ℕ) (args : List Ty) → Decided (find_method_of rows s of name args) (FindsMethodOf rows s of name args)
  unfolding find_method_of
  method_of_is s of name args f =
      let place = class_number rows s.class in
      let c = class_number rows of in
      let kinds = map (kind_of rows) args in
      let law = method_is rows are name c place kinds in
      let a = find_method (entries_of rows) place c name kinds in
      by_keys rows (FindsMethod (entries_of rows) place c name kinds) a law (method_all rows place c name kinds a ((law a).0 refl)) f

  ctor_of_is : (s : Scope) (of : ClassKey) (args : List Ty) → Decided (find_ctor_of rows s of args) (FindsCtorOf rows s of args)
  unfolding find_ctor_of
  ctor_of_is s of args f =
      let place = class_number rows s.class in
      let c = class_number rows of in
      let kinds = map (kind_of rows) args in
      let law = ctor_is rows are c place kinds in
      let a = find_ctor (entries_of rows) place c kinds in
      by_keys rows (FindsCtor (entries_of rows) place c kinds) a law (ctor_all rows place c kinds a ((law a).0 refl)) f

  module _ (s : Scope) (name : List ℕ) where
    abbrev c : ℕ
    c = class_number rows s.class

    abbrev a : Answer
    a = find_field (entries_of rows) c s.is_static name

    keyed : (f : Found) → (shown rows a ≡ f) ↔ ByKeys rows (FindsField (entries_of rows) c s.is_static name) f
    keyed f = let law = field_is rows are c s.is_static name in by_keys rows (FindsField (entries_of rows) c s.is_static name) a law (field_all rows c s.is_static name a ((law a).0 refl)) f

    variable_is : Decided (find_variable rows s name) (FindsVariable rows s name)
    unfolding find_variable
    variable_is f = (to (last_named name s.locals) (last_is s.locals name), back)
      where
        to : (o : Option LocalKey) → SaysLast s.locals name o → local_or rows a o ≡ f → FindsVariable rows s name f
        to None none e = inr (none, (keyed f).0 e)
        to (Some k) h e = inl (k, h, sym e)

        back : FindsVariable rows s name f → local_or rows a (last_named name s.locals) ≡ f
        back (inl (k, h, e)) = ap (local_or rows a) (the_local s.locals name k h) ∙ sym e
        back (inr (none, h)) = ap (local_or rows a) (no_local s.locals name none) ∙ (keyed f).1 h

  pub keys_found : KeysAreFound rows
  keys_found = record {
    variable = variable_is;
    type_named = type_named_is;
    type_of = type_of_is;
    field_in = field_in_is;
    method_named = method_named_is;
    method_of = method_of_is;
    ctor_of = ctor_of_is;
  }

  pub one_answers : EachHasOne rows
  one_answers = record {
    variable = λ s name. one_each (find_variable rows s name) (FindsVariable rows s name) (variable_is s name);
    type_named = λ s name. one_each (find_type_named rows s name) (FindsTypeNamed rows s name) (type_named_is s name);
    type_of = λ s of name. one_each (find_type_of rows s of name) (FindsTypeOf rows s of name) (type_of_is s of name);
    field_in = λ s of name. one_each (find_field_in rows s of name) (FindsFieldIn rows s of name) (field_in_is s of name);
    method_named = λ s name args. one_each (find_method_named rows s name args) (FindsMethodNamed rows s name args) (method_named_is s name args);
    method_of = λ s of name args. one_each (find_method_of rows s of name args) (FindsMethodOf rows s of name args) (method_of_is s of name args);
    ctor_of = λ s of args. one_each (find_ctor_of rows s of args) (FindsCtorOf rows s of args) (ctor_of_is s of args);
    left = λ s name. first_or_second (FindsVariable rows s name) (FindsTypeNamed rows s name)
        (one_each (find_variable rows s name) (FindsVariable rows s name) (variable_is s name)) (one_each (find_type_named rows s name) (FindsTypeNamed rows s name) (type_named_is s name));
    left_of = λ s of name. first_or_second (FindsFieldIn rows s of name) (FindsTypeOf rows s of name)
        (one_each (find_field_in rows s of name) (FindsFieldIn rows s of name) (field_in_is s of name)) (one_each (find_type_of rows s of name) (FindsTypeOf rows s of name) (type_of_is s of name));
  }
