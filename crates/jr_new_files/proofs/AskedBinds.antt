-- When the asked spelling binds it is taken.
use Rattle.std.proofs.Common.{◌≡◌, ℕ, List, [], Option, Some, None, false, refl, sym, subst, arith}
use Rattle.jr_table.specs.Keys.{ClassKey, FieldKey, MethodKey, CtorKey, Ty}
use Rattle.jr_table.specs.Decls.{LocalKey, class_decl, field_decl, method_decl, constructor_decl, local_decl}
use Rattle.jr_table.specs.Rows.{Row}
use Rattle.jr_table.specs.Found.{one}
use Rattle.jr_table.specs.Scope.{Scope}
use Rattle.jr_table.specs.Lookup.{FindsVariable, FindsTypeNamed, FindsTypeOf, FindsFieldIn, FindsMethodNamed, FindsMethodOf, FindsCtorOf}
use Rattle.jr_table.specs.Context.{NamesClass, IsStaticDecl, IsInstanceDecl, IsSuperclass}
use Rattle.jr_spell.specs.declared.references.RefForm.TheVariants as ref
use Rattle.jr_spell.specs.declared.spellings.Form.TheVariants.{Asked}
use Rattle.jr_spell.specs.Binds.{LeadsIn, last_word}
use Rattle.jr_spell.specs.Taken.{IsTaken}
use Rattle.jr_images.specs.Words.{class_name}
use Rattle.jr_images.specs.Spelling.{reference, operand_of, behind_words, dotted}
use Rattle.jr_images.proofs.Dotted.{IsWhole, whole_front, whole_last, dotted_front, dotted_last}

module _ (rows : List Row) (s : Scope) where
  pub local_taken : (name : List ℕ) (q : LocalKey) → FindsVariable rows s name (one (local_decl q)) → IsTaken rows s (reference ref.AsAsked name None []) (local_decl q) Asked
  local_taken name q h = record { place = 0; stands = refl; binds = h; first = λ i f below at b. omega arith }

  pub variable_taken : (q : FieldKey) → FindsVariable rows s q.name (one (field_decl q)) → IsTaken rows s (reference ref.FieldSimple q.name None []) (field_decl q) Asked
  variable_taken q h = record { place = 0; stands = refl; binds = h; first = λ i f below at b. omega arith }

  pub field_taken : (of : ClassKey) (q : FieldKey) → FindsFieldIn rows s of q.name (one (field_decl q)) → (IsStaticDecl rows (field_decl q) → ⊥) → IsTaken rows s (reference ref.FieldOn q.name (operand_of of) []) (field_decl q) Asked
  field_taken of q h never = record { place = 0; stands = refl; binds = (of, refl, record { finds = h; instance = never }); first = λ i f below at b. omega arith }

  pub static_field_taken : (of : ClassKey) (q : FieldKey) → FindsFieldIn rows s of q.name (one (field_decl q)) → (IsInstanceDecl rows (field_decl q) → ⊥)
      → IsTaken rows s (behind_words (class_name of) (reference ref.ThroughClass q.name (operand_of of) [])) (field_decl q) Asked
  static_field_taken of q h never = record { place = 0; stands = refl; binds = (of, refl, record { finds = h; static = never }, (of, refl, record { finds = h; static = never })); first = λ i f below at b. omega arith }

  pub super_field_taken : (of : ClassKey) (q : FieldKey) → s.is_static ≡ false → IsSuperclass rows s.class of → FindsFieldIn rows s of q.name (one (field_decl q)) → (IsStaticDecl rows (field_decl q) → ⊥)
      → IsTaken rows s (reference ref.FieldSuper q.name None []) (field_decl q) Asked
  super_field_taken of q object is h never = record { place = 0; stands = refl; binds = (object, (of, is, record { finds = h; instance = never })); first = λ i f below at b. omega arith }

  pub call_taken : (q : MethodKey) (ts : List Ty) → FindsMethodNamed rows s q.name ts (one (method_decl q)) → IsTaken rows s (reference ref.MethodSimple q.name None ts) (method_decl q) Asked
  call_taken q ts h = record { place = 0; stands = refl; binds = h; first = λ i f below at b. omega arith }

  pub method_taken : (of : ClassKey) (q : MethodKey) (ts : List Ty) → FindsMethodOf rows s of q.name ts (one (method_decl q)) → (IsStaticDecl rows (method_decl q) → ⊥)
      → IsTaken rows s (reference ref.MethodOn q.name (operand_of of) ts) (method_decl q) Asked
  method_taken of q ts h never = record { place = 0; stands = refl; binds = (of, refl, record { finds = h; instance = never }); first = λ i f below at b. omega arith }

  pub static_method_taken : (of : ClassKey) (q : MethodKey) (ts : List Ty) → FindsMethodOf rows s of q.name ts (one (method_decl q)) → (IsInstanceDecl rows (method_decl q) → ⊥)
      → IsTaken rows s (behind_words (class_name of) (reference ref.ThroughClass q.name (operand_of of) ts)) (method_decl q) Asked
  static_method_taken of q ts h never = record { place = 0; stands = refl; binds = (of, refl, record { finds = h; static = never }, (of, refl, record { finds = h; static = never })); first = λ i f below at b. omega arith }

  pub super_method_taken : (of : ClassKey) (q : MethodKey) (ts : List Ty) → s.is_static ≡ false → IsSuperclass rows s.class of → FindsMethodOf rows s of q.name ts (one (method_decl q)) → (IsStaticDecl rows (method_decl q) → ⊥)
      → IsTaken rows s (reference ref.AsAsked q.name None ts) (method_decl q) Asked
  super_method_taken of q ts object is h never = record { place = 0; stands = refl; binds = (object, (of, is, record { finds = h; instance = never })); first = λ i f below at b. omega arith }

  pub ctor_taken : (of : ClassKey) (q : CtorKey) (ts : List Ty) → FindsCtorOf rows s of ts (one (constructor_decl q)) → IsTaken rows s (reference ref.AsAsked [] (operand_of of) ts) (constructor_decl q) Asked
  ctor_taken of q ts h = record { place = 0; stands = refl; binds = h; first = λ i f below at b. omega arith }

  pub super_ctor_taken : (of : ClassKey) (q : CtorKey) (ts : List Ty) → IsSuperclass rows s.class of → FindsCtorOf rows s of ts (one (constructor_decl q)) → IsTaken rows s (reference ref.AsAsked [] None ts) (constructor_decl q) Asked
  super_ctor_taken of q ts is h = record { place = 0; stands = refl; binds = (of, is, h); first = λ i f below at b. omega arith }

  pub class_taken : (q : ClassKey) → IsWhole q.name → FindsTypeNamed rows s q.name (one (class_decl q)) → IsTaken rows s (reference ref.ClassName q.name None []) (class_decl q) Asked
  class_taken q whole h = record {
    place = 0;
    stands = refl;
    binds = subst (λ (o : Option (List ℕ)). NamesClass rows s o (last_word q.name) q) (sym (whole_front q.name whole)) (subst (λ (n : List ℕ). NamesClass rows s None n q) (sym (whole_last q.name whole)) h);
    first = λ i f below at b. omega arith;
  }

  pub inner_taken : (o q : ClassKey) → IsWhole o.name → FindsTypeNamed rows s o.name (one (class_decl o)) → FindsTypeOf rows s o q.name (one (class_decl q))
      → IsTaken rows s (reference ref.ClassName (dotted o.name q.name) None []) (class_decl q) Asked
  inner_taken o q whole h inner = record {
    place = 0;
    stands = refl;
    binds = subst (λ (x : Option (List ℕ)). NamesClass rows s x (last_word (dotted o.name q.name)) q) (sym (dotted_front o.name q.name whole))
        (subst (λ (n : List ℕ). NamesClass rows s (Some o.name) n q) (sym (dotted_last o.name q.name whole)) (o, h, inner));
    first = λ i f below at b. omega arith;
  }

  -- a class in front of a dot, whose words find it
  pub front_taken : (q : ClassKey) → IsTaken rows s (behind_words (class_name q) (reference ref.ClassInFront q.name None [])) (class_decl q) Asked
  front_taken q = record { place = 0; stands = refl; binds = (refl, tt); first = λ i f below at b. omega arith }

  pub inner_front_taken : (o q : ClassKey) → LeadsIn rows s o q.name q → IsTaken rows s (behind_words (class_name q) (reference ref.ClassInFront q.name (operand_of o) [])) (class_decl q) Asked
  inner_front_taken o q behind = record { place = 0; stands = refl; binds = (refl, behind); first = λ i f below at b. omega arith }
