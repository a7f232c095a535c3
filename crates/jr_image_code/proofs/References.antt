-- What the code of a reference is, by what the reference is bound to; and its image, where the new one is bound to the image.
use Rattle.std.proofs.Common.{◌≡◌, ℕ, List, Some, None, true, false, sym, ap, subst, ◌∙◌, inl, inr}
use Rattle.std.specs.Prelude.{slice_get}
use Rattle.std.specs.List.{list_any}
use Rattle.jr_text.specs.declared.spans.Span.{Span}
use Rattle.jr_ast.specs.Tree as tree
use Rattle.jr_runs.specs.Core as core
use Rattle.jr_runs.specs.Rows as core_rows
use Rattle.jr_runs.specs.KeyMaps.{KeyMap}
use Rattle.jr_table.specs.Keys.{ClassKey, FieldKey, MethodKey}
use Rattle.jr_table.specs.Decls.{Decl, class_decl, field_decl, method_decl, constructor_decl, local_decl}
use Rattle.jr_table.specs.Rows.{Row}
use Rattle.jr_table.specs.Entries.{is_static_word}
use Rattle.jr_table.specs.Context.{Context, IsStaticDecl, IsInstanceDecl}
use Rattle.jr_table.specs.Binding.{value, BindsItself, word_at}
use Rattle.jr_images.specs.Regions.{Region}
use Rattle.jr_images.proofs.OneBound.{name_only, field_only, super_field_only}
use Rattle.jr_images.proofs.Rebound.{Stands}
use Rattle.jr_kept_references.specs.InRegions.{rows_in, field_in, method_in}
use Rattle.jr_kept_references.proofs.RegionWorlds.{RegionWorld}
use Rattle.jr_code.specs.RunKeys.{RunKeys, Place}
use Rattle.jr_code.specs.Coded.{Code, TargetCode, IsOwn, FieldCode, VariableCode, CallCode, SuperCallCode, place, NameTarget, SuperTarget, DottedTarget}
use Rattle.jr_image_code.specs.CodeRelations.{Relations}
use Rattle.jr_image_code.specs.CodedSpots.{GoesByImages}

-- no code is that of a class or constructor
pub variable_no_class : (rows : List Row) (y : Decl) (p : Place) (t : TargetCode) → VariableCode rows y p t → (k : ClassKey) → y ≡ class_decl k → ⊥
variable_no_class rows (local_decl k) p t h j e = cc
variable_no_class rows (field_decl k) p t h j e = cc
variable_no_class rows (class_decl k) p t h j e = h
variable_no_class rows (method_decl k) p t h j e = h
variable_no_class rows (constructor_decl k) p t h j e = h

pub field_no_class : (rows : List Row) (Receiver : Code → Type 0) (y : Decl) (p : Place) (t : TargetCode) → FieldCode rows Receiver y p t → (k : ClassKey) → y ≡ class_decl k → ⊥
field_no_class rows Receiver (field_decl k) p t h j e = cc
field_no_class rows Receiver (local_decl k) p t h j e = h
field_no_class rows Receiver (class_decl k) p t h j e = h
field_no_class rows Receiver (method_decl k) p t h j e = h
field_no_class rows Receiver (constructor_decl k) p t h j e = h

pub call_no_class : (rows : List Row) (Receiver : Code → Type 0) (y : Decl) (p : Place) (es : core.Exps RunKeys) (x : Code) → CallCode rows Receiver y p es x → (k : ClassKey) → y ≡ class_decl k → ⊥
call_no_class rows Receiver (method_decl k) p es x h j e = cc
call_no_class rows Receiver (local_decl k) p es x h j e = h
call_no_class rows Receiver (class_decl k) p es x h j e = h
call_no_class rows Receiver (field_decl k) p es x h j e = h
call_no_class rows Receiver (constructor_decl k) p es x h j e = h

pub super_no_class : (rows : List Row) (y : Decl) (p : Place) (es : core.Exps RunKeys) (x : Code) → SuperCallCode rows y p es x → (k : ClassKey) → y ≡ class_decl k → ⊥
super_no_class rows (method_decl k) p es x h j e = cc
super_no_class rows (local_decl k) p es x h j e = h
super_no_class rows (class_decl k) p es x h j e = h
super_no_class rows (field_decl k) p es x h j e = h
super_no_class rows (constructor_decl k) p es x h j e = h

module _ {A : Type 0} (tells : A → ℕ → Span) (rows : List Row) (R : Region A) (c d : Context) (w : RegionWorld A rows R c d) where
  abbrev pub at_mark : A → ℕ → ℕ
  at_mark m b = (tells m b).from

  abbrev pub To : Decl → tree.Exp A → Type 0
  To x y = Stands (λ m b. (tells m b).from) (rows_in R) w.images.are w.one_new d w.new w.rebind w.fronts x y

  -- what the code of a new reference speaks of is the image
  module _ (x : Decl) (y : tree.Exp A) (to : To x y) (i : ℕ) where
    abbrev At : ℕ
    At = (to.reads value 0).0

    abbrev There : BindsItself (λ m b. (tells m b).from) (rows_in R) d value 0 y At x
    There = (to.reads value 0).1

  pub name_new : (x : Decl) (m : A) (v : tree.Word A) → To x (tree.name m v) → (i : ℕ) (u : TargetCode) → NameTarget at_mark (rows_in R) d i m v u
      → VariableCode (rows_in R) x (place at_mark (rows_in R) d (word_at at_mark m i v)) u
  name_new x m v to i u (y, finds, code) = subst (λ (z : Decl). VariableCode (rows_in R) z (place at_mark (rows_in R) d (word_at at_mark m i v)) u)
      (sym (name_only (λ m b. (tells m b).from) (rows_in R) d w.one_new w.new y (variable_no_class (rows_in R) y (place at_mark (rows_in R) d (word_at at_mark m i v)) u code) m v finds value 0 (to.reads value 0).0 x (to.reads value 0).1)) code

  pub dotted_new : (x : Decl) (m : A) (e : tree.Exp A) (v : tree.Word A) → To x (tree.field m e v) → (Operand : Code → Type 0) (i : ℕ) (u : TargetCode) → DottedTarget at_mark (rows_in R) d Operand i m e v u
      → FieldCode (rows_in R) Operand x (place at_mark (rows_in R) d (word_at at_mark m i v)) u
  dotted_new x m e v to Operand i u (y, finds, code) = subst (λ (z : Decl). FieldCode (rows_in R) Operand z (place at_mark (rows_in R) d (word_at at_mark m i v)) u)
      (sym (field_only (λ m b. (tells m b).from) (rows_in R) d w.one_new w.new y (field_no_class (rows_in R) Operand y (place at_mark (rows_in R) d (word_at at_mark m i v)) u code) m e v finds value 0 (to.reads value 0).0 x (to.reads value 0).1)) code

  pub super_new : (x : Decl) (m : A) (v : tree.Word A) → To x (tree.super_field m v) → (i : ℕ) (u : TargetCode) → SuperTarget at_mark (rows_in R) d i m v u
      → FieldCode (rows_in R) IsOwn x (place at_mark (rows_in R) d (word_at at_mark m i v)) u
  super_new x m v to i u (y, finds, code) = subst (λ (z : Decl). FieldCode (rows_in R) IsOwn z (place at_mark (rows_in R) d (word_at at_mark m i v)) u)
      (sym (super_field_only (λ m b. (tells m b).from) (rows_in R) d w.one_new w.new y (field_no_class (rows_in R) IsOwn y (place at_mark (rows_in R) d (word_at at_mark m i v)) u code) m v finds value 0 (to.reads value 0).0 x (to.reads value 0).1)) code

  -- ---- images of what is bound

  module _ (r : KeyMap RunKeys) (D : core_rows.Rows RunKeys) (X : Relations) (by_images : GoesByImages rows R r D X) where
    targets_by : (t T u U : TargetCode) → t ≡ T → u ≡ U → X.target T U → X.target t u
    targets_by t T u U a b h = subst (λ (x : TargetCode). X.target x u) (sym a) (subst (λ (y : TargetCode). X.target T y) (sym b) h)

    pub exps_by : (x Y z Z : Code) → x ≡ Y → z ≡ Z → X.exp Y Z → X.exp x z
    exps_by x Y z Z a b h = subst (λ (q : Code). X.exp q z) (sym a) (subst (λ (y : Code). X.exp Y y) (sym b) h)

    -- no declaration is both
    both_words : (x : Decl) → IsStaticDecl (rows_in R) x → IsInstanceDecl (rows_in R) x → ⊥
    both_words x (j, i, is) (n, o, lacks) =
        let same : j ≡ n = w.images.are.one_each x j n i o in
        let rows_same : Some i.row ≡ Some o.row = sym i.stands ∙ ap (slice_get (rows_in R)) same ∙ o.stands in
        let row : i.row ≡ o.row = cc in
        let no : true ≡ false = sym is ∙ ap (λ (z : Row). list_any is_static_word z.modifiers) row ∙ lacks in
        cc

    pub field_image : (k : FieldKey) (Old New : Code → Type 0) (p q : Place) (t u : TargetCode) → FieldCode rows Old (field_decl k) p t → FieldCode (rows_in R) New (field_decl (field_in R k)) q u
        → (IsInstanceDecl rows (field_decl k) → (x z : Code) → Old x → New z → X.exp x z) → X.target t u
    field_image k Old New p q t u (inl ((j, i, is), a)) (inl (other, b)) same =
        targets_by t (core.static_field (Some p) k) u (core.static_field (Some q) (field_in R k)) a b
        (subst (λ (f : FieldKey). X.target (core.static_field (Some p) k) (core.static_field (Some q) f)) (by_images.maps.field k j i) (by_images.exps.of_static_field (Some p) (Some q) k))
    field_image k Old New p q t u (inr ((j, i, is), (x, old, a))) (inr (other, (z, new, b))) same =
        targets_by t (core.field_of (Some p) x k) u (core.field_of (Some q) z (field_in R k)) a b
        (subst (λ (f : FieldKey). X.target (core.field_of (Some p) x k) (core.field_of (Some q) z f)) (by_images.maps.field k j i) (by_images.exps.of_field (Some p) (Some q) x z k (same (j, i, is) x z old new)))
    field_image k Old New p q t u (inl (is, a)) (inr (lacks, b)) same = absurd (both_words (field_decl (field_in R k)) (by_images.words.static_field k is) lacks)
    field_image k Old New p q t u (inr (lacks, a)) (inl (is, b)) same = absurd (both_words (field_decl (field_in R k)) is (by_images.words.instance_field k lacks))

    pub call_image : (k : MethodKey) (Old New : Code → Type 0) (p q : Place) (es fs : core.Exps RunKeys) (x z : Code) → CallCode rows Old (method_decl k) p es x
        → CallCode (rows_in R) New (method_decl (method_in R k)) q fs z → (IsInstanceDecl rows (method_decl k) → (y v : Code) → Old y → New v → X.exp y v) → X.exps es fs → X.exp x z
    call_image k Old New p q es fs x z (inl ((j, i, is), a)) (inl (other, b)) same args =
        exps_by x (core.static_call (Some p) k es) z (core.static_call (Some q) (method_in R k) fs) a b
        (subst (λ (n : MethodKey). X.exp (core.static_call (Some p) k es) (core.static_call (Some q) n fs)) (by_images.maps.method k j i) (by_images.exps.of_static_call (Some p) (Some q) k es fs (by_images.has.method k j i) args))
    call_image k Old New p q es fs x z (inr ((j, i, is), (y, old, a))) (inr (other, (v, new, b))) same args =
        exps_by x (core.instance_call (Some p) y k es) z (core.instance_call (Some q) v (method_in R k) fs) a b
        (subst (λ (n : MethodKey). X.exp (core.instance_call (Some p) y k es) (core.instance_call (Some q) v n fs)) (by_images.maps.method k j i) (by_images.exps.of_instance_call (Some p) (Some q) y v k es fs (by_images.has.method k j i) (same (j, i, is) y v old new) args))
    call_image k Old New p q es fs x z (inl (is, a)) (inr (lacks, b)) same args = absurd (both_words (method_decl (method_in R k)) (by_images.words.static_method k is) lacks)
    call_image k Old New p q es fs x z (inr (lacks, a)) (inl (is, b)) same args = absurd (both_words (method_decl (method_in R k)) is (by_images.words.instance_method k lacks))

    pub super_call_image : (k : MethodKey) → (IsInstanceDecl rows (method_decl k) → X.own) → (p q : Place) (es fs : core.Exps RunKeys) (x z : Code) → SuperCallCode rows (method_decl k) p es x
        → SuperCallCode (rows_in R) (method_decl (method_in R k)) q fs z → X.exps es fs → X.exp x z
    super_call_image k own p q es fs x z (inl ((j, i, is), a)) (inl (other, b)) args =
        exps_by x (core.static_call (Some p) k es) z (core.static_call (Some q) (method_in R k) fs) a b
        (subst (λ (n : MethodKey). X.exp (core.static_call (Some p) k es) (core.static_call (Some q) n fs)) (by_images.maps.method k j i) (by_images.exps.of_static_call (Some p) (Some q) k es fs (by_images.has.method k j i) args))
    super_call_image k own p q es fs x z (inr ((j, i, is), a)) (inr (other, b)) args =
        exps_by x (core.super_call (Some p) (core.this None) k es) z (core.super_call (Some q) (core.this None) (method_in R k) fs) a b
        (subst (λ (n : MethodKey). X.exp (core.super_call (Some p) (core.this None) k es) (core.super_call (Some q) (core.this None) n fs)) (by_images.maps.method k j i)
        (by_images.exps.of_super_call (Some p) (Some q) (core.this None) (core.this None) k es fs (by_images.has.method k j i) (by_images.exps.of_this (own (j, i, is)) None None) args))
    super_call_image k own p q es fs x z (inl (is, a)) (inr (lacks, b)) args = absurd (both_words (method_decl (method_in R k)) (by_images.words.static_method k is) lacks)
    super_call_image k own p q es fs x z (inr (lacks, a)) (inl (is, b)) args = absurd (both_words (method_decl (method_in R k)) is (by_images.words.instance_method k lacks))
