-- What a respelling puts in front of a word, as code: `this` and a cast of it are `this`, a cast of a value that can't fail is the value, and a class is nothing.
use Rattle.std.proofs.Common.{◌≡◌, ℕ, List, [], ◌∷◌, Option, Some, None, refl, sym, ap, subst, ◌∙◌, inl, inr}
use Rattle.std.specs.Prelude.{slice_get, ◌⊎◌}
use Rattle.jr_text.specs.declared.spans.Span.{Span}
use Rattle.jr_ast.specs.Tree as tree
use Rattle.jr_runs.specs.Core as core
use Rattle.jr_table.specs.Keys.{ClassKey, FieldKey, Ty, class}
use Rattle.jr_table.specs.Decls.{Decl, class_decl, field_decl}
use Rattle.jr_table.specs.Rows.{Row}
use Rattle.jr_table.specs.Keyed.{IsAssignable, IsSubclass}
use Rattle.jr_table.specs.Found.{one}
use Rattle.jr_table.specs.Context.{Context, scope_of, NamesClass, IsInstanceDecl}
use Rattle.jr_table.specs.Binding.{HasType}
use Rattle.jr_spell.specs.declared.references.RefForm.TheVariants as ref
use Rattle.jr_spell.specs.declared.spellings.Form.{Form}
use Rattle.jr_spell.specs.declared.spellings.Form.TheVariants.{Asked, OnThis, OnSuper, OnCastThis, OnCastOperand, OnClass, OnOuterClass}
use Rattle.jr_spell.specs.References.{Reference}
use Rattle.jr_spell.specs.Binds.{Binds}
use Rattle.jr_rewrite.specs.Respellings.{Front, front_of}
use Rattle.jr_rewrite.specs.Rewritten.{word_to, operand_to, variable_to, super_to, new_word, cast_tree}
use Rattle.jr_images.specs.Regions.{Region}
use Rattle.jr_images.specs.Spelling.{spelled}
use Rattle.jr_images.proofs.Chosen.{outer_front_is}
use Rattle.jr_images.proofs.Forms.{two_forms, three_forms, four_forms, six_forms, with_name}
use Rattle.jr_images.proofs.OneBound.{has_one_type}
use Rattle.jr_kept_references.specs.InRegions.{rows_in}
use Rattle.jr_kept_references.proofs.RegionWorlds.{RegionWorld}
use Rattle.jr_code.specs.RunKeys.{Place}
use Rattle.jr_code.specs.Coded.{Code, ExpCode}

module _ {A : Type 0} (tells : A → ℕ → Span) (rows : List Row) (R : Region A) (c d : Context) (w : RegionWorld A rows R c d) where
  abbrev at_mark : A → ℕ → ℕ
  at_mark m b = (tells m b).from

  abbrev new_rows : List Row
  new_rows = rows_in R

  -- each code of e, wherever it stands, has the property
  abbrev pub Each : (Code → Type 0) → tree.Exp A → Type 0
  Each P e = (i : ℕ) (z : Code) → ExpCode (λ m b. (tells m b).from) (rows_in R) d i e z → P z

  abbrev pub IsThis : Code → Type 0
  IsThis z = (p : Place) × (z ≡ core.this (Some p))

  -- it is code of x
  abbrev pub IsOf : tree.Exp A → Code → Type 0
  IsOf x z = (i : ℕ) × ExpCode (λ m b. (tells m b).from) (rows_in R) d i x z

  one_class : (name : List ℕ) (j k : ClassKey) → NamesClass (rows_in R) (scope_of d) None name j → NamesClass (rows_in R) (scope_of d) None name k → j ≡ k
  one_class name j k a b = let p = w.one_new.type_named (scope_of d) name (one (class_decl j)) (one (class_decl k)) a b in cc

  -- a cast to a superclass is dropped
  cast_gone : (m l n : A) (k : tree.Word A) (x : tree.Exp A) (o s : ClassKey) → HasType (rows_in R) d x (class o) → NamesClass (rows_in R) (scope_of d) None k.text s → IsSubclass (rows_in R) o s
      → Each (IsOf x) (tree.paren m (tree.cast l (tree.named n None k) x))
  unfolding ExpCode
  cast_gone m l n k x o s type named above i z (t, u, y, has, (j, other, is), code, inl (assignable, same)) = ((tells l ((tells m i).from)).from, subst (λ (v : Code). ExpCode (λ m b. (tells m b).from) (rows_in R) d ((tells l ((tells m i).from)).from) x v) (sym same) code)
  cast_gone m l n k x o s type named above i z (t, u, y, has, (j, other, is), code, inr (fails, other_code)) = absurd (fails assignable)
    where
      from : t ≡ class o
      from = has_one_type (λ m b. (tells m b).from) (rows_in R) d w.one_new w.new x t (class o) has type

      to : u ≡ class s
      to = is ∙ ap class (one_class k.text j s other named)

      assignable : IsAssignable (rows_in R) t u
      assignable = subst (λ (a : Ty). IsAssignable (rows_in R) a u) (sym from) (subst (λ (b : Ty). IsAssignable (rows_in R) (class o) b) (sym to) (inr above))

  this_code : (m : A) → Each IsThis (tree.this m)
  unfolding ExpCode
  this_code m i z code = (_, code)

  this_type : (m : A) → HasType (rows_in R) d (tree.this m) (class (scope_of d).class)
  unfolding HasType
  this_type m = refl

  cast_this : (m l n a : A) (k : tree.Word A) (s : ClassKey) → NamesClass (rows_in R) (scope_of d) None k.text s → IsSubclass (rows_in R) (scope_of d).class s
      → Each IsThis (tree.paren m (tree.cast l (tree.named n None k) (tree.this a)))
  cast_this m l n a k s named above i z code = let inner = cast_gone m l n k (tree.this a) (scope_of d).class s (this_type a) named above i z code in this_code a inner.0 z inner.1

  -- ---- a field by its simple name

  abbrev pub OwnForms : FieldKey → tree.Exp A → Type 0
  OwnForms k y = ((m : A) × (v : tree.Word A) × (y ≡ tree.name m v))
      ⊎ (((m : A) × (v : tree.Word A) × (y ≡ tree.super_field m v))
      ⊎ (((m : A) × (e : tree.Exp A) × (v : tree.Word A) × (y ≡ tree.field m e v) × Each IsThis e)
      ⊎ ((m : A) × (e : tree.Exp A) × (v : tree.Word A) × (y ≡ tree.field m e v) × (IsInstanceDecl (rows_in R) (field_decl k) → ⊥))))

  module _ (m n : A) (old : List ℕ) (k : FieldKey) where
    abbrev simple : Reference
    simple = record { form = ref.FieldSimple; asked = k.name; operand = None; front = None; args = [] }

    abbrev SimpleTo : Form → Type 0
    SimpleTo f = Binds (rows_in R) (scope_of d) simple (field_decl k) f
        → OwnForms k (variable_to m (front_of (spelled old k.name k.class f)) None (word_to (spelled old k.name k.class f) (record { mark = n; text = old })))

    pub own_forms : (place : ℕ) (f : Form) → slice_get (Asked ∷ OnThis ∷ OnSuper ∷ OnCastThis ∷ OnClass ∷ OnOuterClass ∷ []) place ≡ Some f → SimpleTo f
    own_forms place f there = six_forms SimpleTo
        (λ binds. subst (λ (y : tree.Exp A). OwnForms k y) (sym (with_name (λ front v. variable_to m front None v) old k.name n)) (inl (m, record { mark = n; text = k.name }, refl)))
        (λ binds. inr (inr (inl (m, tree.this m, record { mark = n; text = k.name }, refl, this_code m))))
        (λ binds. inr (inl (m, record { mark = n; text = k.name }, refl)))
        (λ binds. inr (inr (inl (m, cast_tree m k.class.name (tree.this m), record { mark = n; text = k.name }, refl, cast_this m m m m (new_word m k.class.name) k.class binds.1.named binds.1.above))))
        (λ binds. inr (inr (inr (m, tree.name m (new_word m k.class.name), record { mark = n; text = k.name }, refl, binds.1.static))))
        (λ binds. subst (λ (front : Front). OwnForms k (variable_to m front None (record { mark = n; text = k.name }))) (sym (outer_front_is k.class.outer k.class.name binds.0 binds.1))
        (inr (inr (inr (m, tree.field m (tree.name m (new_word m binds.0)) (new_word m k.class.name), record { mark = n; text = k.name }, refl, binds.3.static)))))
        place f there

    -- ---- by `super`

    abbrev of_super : Reference
    of_super = record { form = ref.FieldSuper; asked = k.name; operand = None; front = None; args = [] }

    abbrev SuperTo : Form → Type 0
    SuperTo f = Binds (rows_in R) (scope_of d) of_super (field_decl k) f
        → OwnForms k (super_to m (front_of (spelled old k.name k.class f)) (word_to (spelled old k.name k.class f) (record { mark = n; text = old })))

    pub super_forms : (place : ℕ) (f : Form) → slice_get (Asked ∷ OnCastThis ∷ []) place ≡ Some f → SuperTo f
    super_forms place f there = two_forms SuperTo OnCastThis
        (λ binds. subst (λ (y : tree.Exp A). OwnForms k y) (sym (with_name (λ front v. super_to m front v) old k.name n)) (inr (inl (m, record { mark = n; text = k.name }, refl))))
        (λ binds. inr (inr (inl (m, cast_tree m k.class.name (tree.this m), record { mark = n; text = k.name }, refl, cast_this m m m m (new_word m k.class.name) k.class binds.1.named binds.1.above))))
        place f there

  -- ---- behind a dot

  -- what stands in front has code of x alone, or the declaration is static
  abbrev pub DottedForms : Decl → tree.Exp A → Option (tree.Exp A) → Type 0
  DottedForms x e z = (y : tree.Exp A) × (z ≡ Some y) × (Each (IsOf e) y ⊎ (IsInstanceDecl (rows_in R) x → ⊥))

  -- nothing, or `this`, or the declaration is static
  abbrev pub SimpleFront : Decl → Option (tree.Exp A) → Type 0
  SimpleFront x z = (z ≡ None) ⊎ ((y : tree.Exp A) × (z ≡ Some y) × (Each IsThis y ⊎ (IsInstanceDecl (rows_in R) x → ⊥)))

  itself_of : (x : tree.Exp A) → Each (IsOf x) x
  itself_of x i z code = (i, code)

  module _ (m n : A) (old new : List ℕ) (x : Decl) (k : ClassKey) (e : tree.Exp A) where
    abbrev Front_to : Form → Type 0
    Front_to f = DottedForms x e (operand_to m (front_of (spelled old new k f)) (Some e))

    asked_front : Each (IsOf e) e → Front_to Asked
    asked_front h = subst (λ (z : Option (tree.Exp A)). DottedForms x e z) (sym (with_name (λ front v. operand_to m front (Some e)) old new n)) (e, refl, inl h)

    -- on a value of class o
    pub value_front : (o : ClassKey) → HasType (rows_in R) d e (class o) → (place : ℕ) (f : Form) → slice_get (Asked ∷ OnCastOperand ∷ []) place ≡ Some f
        → (f ≡ OnCastOperand → NamesClass (rows_in R) (scope_of d) None k.name k × IsSubclass (rows_in R) o k) → Front_to f
    value_front o type place f there = two_forms (λ f. (f ≡ OnCastOperand → NamesClass (rows_in R) (scope_of d) None k.name k × IsSubclass (rows_in R) o k) → Front_to f) OnCastOperand
        (λ cast. asked_front (itself_of e))
        (λ cast. (cast_tree m k.name e, refl, inl (cast_gone m m m (new_word m k.name) e o k type (cast refl).0 (cast refl).1)))
        place f there

    -- through a class
    pub class_front : (place : ℕ) (f : Form) → slice_get (Asked ∷ OnClass ∷ OnOuterClass ∷ []) place ≡ Some f → (IsInstanceDecl (rows_in R) x → ⊥)
        → (f ≡ OnOuterClass → (o : List ℕ) × (k.outer ≡ Some o)) → Front_to f
    class_front place f there static = three_forms (λ f. (f ≡ OnOuterClass → (o : List ℕ) × (k.outer ≡ Some o)) → Front_to f)
        (λ outer. asked_front (itself_of e))
        (λ outer. (tree.name m (new_word m k.name), refl, inr static))
        (λ outer. subst (λ (front : Front). DottedForms x e (operand_to m front (Some e))) (sym (outer_front_is k.outer k.name (outer refl).0 (outer refl).1))
        (tree.field m (tree.name m (new_word m (outer refl).0)) (new_word m k.name), refl, inr static))
        place f there

    -- a call by its simple name
    pub simple_front : (place : ℕ) (f : Form) → slice_get (Asked ∷ OnThis ∷ OnClass ∷ OnOuterClass ∷ []) place ≡ Some f
        → (f ≡ OnClass → IsInstanceDecl (rows_in R) x → ⊥) → (f ≡ OnOuterClass → (IsInstanceDecl (rows_in R) x → ⊥) × ((o : List ℕ) × (k.outer ≡ Some o)))
        → SimpleFront x (operand_to m (front_of (spelled old new k f)) None)
    simple_front place f there = four_forms (λ f. (f ≡ OnClass → IsInstanceDecl (rows_in R) x → ⊥) → (f ≡ OnOuterClass → (IsInstanceDecl (rows_in R) x → ⊥) × ((o : List ℕ) × (k.outer ≡ Some o)))
        → SimpleFront x (operand_to m (front_of (spelled old new k f)) None))
        (λ a b. subst (λ (z : Option (tree.Exp A)). SimpleFront x z) (sym (with_name (λ front v. operand_to m front None) old new n)) (inl refl))
        (λ a b. inr (tree.this m, refl, inl (this_code m)))
        (λ a b. inr (tree.name m (new_word m k.name), refl, inr (a refl)))
        (λ a b. subst (λ (front : Front). SimpleFront x (operand_to m front None)) (sym (outer_front_is k.outer k.name (b refl).1.0 (b refl).1.1))
        (inr (tree.field m (tree.name m (new_word m (b refl).1.0)) (new_word m k.name), refl, inr (b refl).0)))
        place f there
