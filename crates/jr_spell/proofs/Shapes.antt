-- Each shape of a reference, bound again.
use Rattle.std.proofs.Common.{◌≡◌, ℕ, List, Some, true, false, refl, sym, subst, ◌∙◌, inl, inr}
use Rattle.jr_ast.specs.Tree as tree
use Rattle.jr_table.specs.Keys.{ClassKey}
use Rattle.jr_table.specs.Decls.{Decl}
use Rattle.jr_table.specs.Rows.{Row}
use Rattle.jr_table.specs.Found.{Found, one, nothing}
use Rattle.jr_table.specs.Lookup.{FindsVariable, FindsFieldIn, FindsLeft, FindsLeftOf}
use Rattle.jr_table.specs.LookupLaws.{Decided, EachHasOne}
use Rattle.jr_table.specs.Context.{Context, scope_of, IsStaticDecl, IsInstanceDecl}
use Rattle.jr_table.specs.Binding.{IsClassName, FieldFinds, SuperFieldFinds, CallFinds, SuperCallFinds, Role, value, left, statement, Sought, variable, type, method, word_at, DottedFinds, Refers, BindsItself}
use Rattle.jr_table.specs.BindingLaws.{IsBound}
use Rattle.jr_table.specs.ExpressionRules.{IsFromStatic, NamesObject, StaticContext}
use Rattle.jr_spell.specs.Rebound.{IsRebound}

-- two answers of what is decided are one
unique : (find : Found) (Finds : Found → Type 0) → Decided find Finds → (f g : Found) → Finds f → Finds g → f ≡ g
unique find Finds exact f g a b = sym ((exact f).1 a) ∙ (exact g).1 b

same_decl : (d e : Decl) → one d ≡ one e → d ≡ e
same_decl d e p = cc

one_is_not_nothing : (d : Decl) → one d ≡ nothing → ⊥
one_is_not_nothing d e = cc

module _ {A : Type 0} (begins : A → ℕ → ℕ) (rows : List Row) (c : Context) where
  -- a reference that finds nothing else breaks no rule on static contexts
  no_static_context : (d : Decl) (x : tree.Exp A)
      → ((role : Role) (base at : ℕ) (q : Sought) (f : Found) → Refers begins rows c role base x at q f → f ≡ one d)
      → ((role : Role) (base at : ℕ) → c.is_static ≡ true → NamesObject begins rows c role base x at → ⊥)
      → (role : Role) (base at : ℕ) → StaticContext begins rows c role base x at → ⊥
  no_static_context d x only object role base at (inl y) = subst IsFromStatic (only role base at y.0 y.1.0 y.1.1) y.1.2
  no_static_context d x only object role base at (inr y) = object role base at y.0 y.1

  module _ (one_each : EachHasOne rows) (exact : IsBound A rows c) (d : Decl) where
    -- a simple name
    module _ (m : A) (w : tree.Word A) (finds : FindsVariable rows (scope_of c) w.text (one d)) where
      name_left : FindsLeft rows (scope_of c) w.text (one d)
      name_left = inl (finds, one_is_not_nothing d)

      name_binds : (role : Role) (base : ℕ) → BindsItself begins rows c role base (tree.name m w) (word_at begins m base w) d
      name_binds left base = (type, (refl, (refl, name_left)))
      name_binds value base = (variable, (refl, (refl, finds)))
      name_binds statement base = (variable, (refl, (refl, finds)))

      name_only : (role : Role) (base at : ℕ) (q : Sought) (f : Found) → Refers begins rows c role base (tree.name m w) at q f → f ≡ one d
      name_only left base at q f refers = one_each.left (scope_of c) w.text f (one d) refers.1.1 name_left
      name_only value base at q f refers = one_each.variable (scope_of c) w.text f (one d) refers.1.1 finds
      name_only statement base at q f refers = one_each.variable (scope_of c) w.text f (one d) refers.1.1 finds

      pub name_rebound : IsRebound begins rows c d (tree.name m w)
      name_rebound = record {
        bound = λ role base. (word_at begins m base w, name_binds role base);
        static_context = no_static_context d (tree.name m w) name_only (λ role base at static object. object);
        through_value = λ role base at broken. broken.1.1;
        through_class = λ role base at broken. broken.1.1;
      }

    -- a call without a target
    module _ (m : A) (w : tree.Word A) (args : tree.Exps A) (finds : CallFinds rows c tree.no_target w.text args (one d)) where
      pub call_rebound : IsRebound begins rows c d (tree.call m tree.no_target w args)
      call_rebound = record {
        bound = λ role base. (word_at begins m base w, (method, (refl, refl, finds)));
        static_context = no_static_context d (tree.call m tree.no_target w args)
            (λ role base at q f refers. unique _ _ (exact.calls tree.no_target w.text args) f (one d) refers.2 finds)
            (λ role base at static object. object);
        through_value = λ role base at broken. broken.1.1;
        through_class = λ role base at broken. broken.1.1;
      }

    -- a field on a value
    module _ (m : A) (y : tree.Exp A) (w : tree.Word A) (finds : FieldFinds rows c y w.text (one d))
        (no_class : (k : ClassKey) → IsClassName rows c y k → ⊥) (instance : IsStaticDecl rows d → ⊥) where
      field_only_found : (f : Found) → FieldFinds rows c y w.text f → f ≡ one d
      field_only_found f other = unique _ _ (exact.fields y w.text) f (one d) other finds

      field_binds : (role : Role) (base : ℕ) → BindsItself begins rows c role base (tree.field m y w) (word_at begins m base w) d
      field_binds left base = (variable, (refl, inr (no_class, refl, finds)))
      field_binds value base = (variable, (refl, (refl, finds)))
      field_binds statement base = (variable, (refl, (refl, finds)))

      left_only : (q : Sought) (f : Found) → DottedFinds begins rows c left y w.text q f → f ≡ one d
      left_only q f (inl x) = absurd (no_class x.0 x.1)
      left_only q f (inr x) = field_only_found f x.2

      field_only : (role : Role) (base at : ℕ) (q : Sought) (f : Found) → Refers begins rows c role base (tree.field m y w) at q f → f ≡ one d
      field_only left base at q f refers = left_only q f refers.1
      field_only value base at q f refers = field_only_found f refers.1.1
      field_only statement base at q f refers = field_only_found f refers.1.1

      pub field_rebound : IsRebound begins rows c d (tree.field m y w)
      field_rebound = record {
        bound = λ role base. (word_at begins m base w, field_binds role base);
        static_context = no_static_context d (tree.field m y w) field_only (λ role base at static object. object);
        through_value = λ role base at broken.
            instance (subst (IsStaticDecl rows) (same_decl _ _ (field_only_found (one broken.1.0) broken.1.1.0)) broken.1.2);
        through_class = λ role base at broken. no_class broken.1.1.1.0 broken.1.1.1.1;
      }

    -- a call on a value
    module _ (m : A) (y : tree.Exp A) (w : tree.Word A) (args : tree.Exps A) (finds : CallFinds rows c (tree.on y) w.text args (one d))
        (no_class : (k : ClassKey) → IsClassName rows c y k → ⊥) (instance : IsStaticDecl rows d → ⊥) where
      call_only_found : (f : Found) → CallFinds rows c (tree.on y) w.text args f → f ≡ one d
      call_only_found f other = unique _ _ (exact.calls (tree.on y) w.text args) f (one d) other finds

      pub call_on_rebound : IsRebound begins rows c d (tree.call m (tree.on y) w args)
      call_on_rebound = record {
        bound = λ role base. (word_at begins m base w, (method, (refl, refl, finds)));
        static_context = no_static_context d (tree.call m (tree.on y) w args)
            (λ role base at q f refers. call_only_found f refers.2) (λ role base at static object. object);
        through_value = λ role base at broken.
            instance (subst (IsStaticDecl rows) (same_decl _ _ (call_only_found (one broken.1.0) broken.1.1.0)) broken.1.2);
        through_class = λ role base at broken. no_class broken.1.1.1.0 broken.1.1.1.1;
      }

    -- a field of a class
    module _ (m : A) (y : tree.Exp A) (w : tree.Word A) (k : ClassKey) (named : IsClassName rows c y k)
        (finds : FindsFieldIn rows (scope_of c) k w.text (one d)) (static : IsInstanceDecl rows d → ⊥) where
      class_field : FieldFinds rows c y w.text (one d)
      class_field = inl (k, inl named, finds)

      class_left : FindsLeftOf rows (scope_of c) k w.text (one d)
      class_left = inl (finds, one_is_not_nothing d)

      class_only_found : (f : Found) → FieldFinds rows c y w.text f → f ≡ one d
      class_only_found f other = unique _ _ (exact.fields y w.text) f (one d) other class_field

      class_binds : (role : Role) (base : ℕ) → BindsItself begins rows c role base (tree.field m y w) (word_at begins m base w) d
      class_binds left base = (type, (refl, inl (k, named, refl, class_left)))
      class_binds value base = (variable, (refl, (refl, class_field)))
      class_binds statement base = (variable, (refl, (refl, class_field)))

      same_class : (o : ClassKey) → IsClassName rows c y o → o ≡ k
      same_class o other =
          let e : Some o ≡ Some k = sym ((exact.names y o).1 other) ∙ (exact.names y k).1 named in
          cc

      class_left_only : (q : Sought) (f : Found) → DottedFinds begins rows c left y w.text q f → f ≡ one d
      class_left_only q f (inl x) =
          one_each.left_of (scope_of c) k w.text f (one d) (subst (λ o. FindsLeftOf rows (scope_of c) o w.text f) (same_class x.0 x.1) x.3) class_left
      class_left_only q f (inr x) = absurd (x.0 k named)

      class_only : (role : Role) (base at : ℕ) (q : Sought) (f : Found) → Refers begins rows c role base (tree.field m y w) at q f → f ≡ one d
      class_only left base at q f refers = class_left_only q f refers.1
      class_only value base at q f refers = class_only_found f refers.1.1
      class_only statement base at q f refers = class_only_found f refers.1.1

      pub class_field_rebound : IsRebound begins rows c d (tree.field m y w)
      class_field_rebound = record {
        bound = λ role base. (word_at begins m base w, class_binds role base);
        static_context = no_static_context d (tree.field m y w) class_only (λ role base at is object. object);
        through_value = λ role base at broken. broken.1.1.1 k named;
        through_class = λ role base at broken.
            static (subst (IsInstanceDecl rows) (same_decl _ _ (class_only_found (one broken.1.0) broken.1.1.0)) broken.1.2);
      }

    -- a call on a class
    module _ (m : A) (y : tree.Exp A) (w : tree.Word A) (args : tree.Exps A) (k : ClassKey) (named : IsClassName rows c y k)
        (finds : CallFinds rows c (tree.on y) w.text args (one d)) (static : IsInstanceDecl rows d → ⊥) where
      class_call_found : (f : Found) → CallFinds rows c (tree.on y) w.text args f → f ≡ one d
      class_call_found f other = unique _ _ (exact.calls (tree.on y) w.text args) f (one d) other finds

      pub class_call_rebound : IsRebound begins rows c d (tree.call m (tree.on y) w args)
      class_call_rebound = record {
        bound = λ role base. (word_at begins m base w, (method, (refl, refl, finds)));
        static_context = no_static_context d (tree.call m (tree.on y) w args)
            (λ role base at q f refers. class_call_found f refers.2) (λ role base at is object. object);
        through_value = λ role base at broken. broken.1.1.1 k named;
        through_class = λ role base at broken.
            static (subst (IsInstanceDecl rows) (same_decl _ _ (class_call_found (one broken.1.0) broken.1.1.0)) broken.1.2);
      }

    not_both : c.is_static ≡ false → c.is_static ≡ true → ⊥
    not_both a b = let e : false ≡ true = sym a ∙ b in cc

    -- a field by `super`
    module _ (m : A) (w : tree.Word A) (finds : SuperFieldFinds rows c w.text (one d))
        (object : c.is_static ≡ false) (instance : IsStaticDecl rows d → ⊥) where
      super_found : (f : Found) → SuperFieldFinds rows c w.text f → f ≡ one d
      super_found f other = unique _ _ (exact.super_fields w.text) f (one d) other finds

      pub super_field_rebound : IsRebound begins rows c d (tree.super_field m w)
      super_field_rebound = record {
        bound = λ role base. (word_at begins m base w, (variable, (refl, refl, finds)));
        static_context = no_static_context d (tree.super_field m w)
            (λ role base at q f refers. super_found f refers.2) (λ role base at is named. not_both object is);
        through_value = λ role base at broken.
            instance (subst (IsStaticDecl rows) (same_decl _ _ (super_found (one broken.1.0) broken.1.1)) broken.1.2);
        through_class = λ role base at broken. broken.1.1;
      }

    -- a call by `super`
    module _ (m : A) (w : tree.Word A) (args : tree.Exps A) (finds : SuperCallFinds rows c w.text args (one d))
        (object : c.is_static ≡ false) (instance : IsStaticDecl rows d → ⊥) where
      super_call_found : (f : Found) → SuperCallFinds rows c w.text args f → f ≡ one d
      super_call_found f other = unique _ _ (exact.super_calls w.text args) f (one d) other finds

      pub super_call_rebound : IsRebound begins rows c d (tree.super_call m w args)
      super_call_rebound = record {
        bound = λ role base. (word_at begins m base w, (method, (refl, refl, finds)));
        static_context = no_static_context d (tree.super_call m w args)
            (λ role base at q f refers. super_call_found f refers.2) (λ role base at is named. not_both object is);
        through_value = λ role base at broken.
            instance (subst (IsStaticDecl rows) (same_decl _ _ (super_call_found (one broken.1.0) broken.1.1)) broken.1.2);
        through_class = λ role base at broken. broken.1.1;
      }
