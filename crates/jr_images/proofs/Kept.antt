-- Expressions: their types go to their images, and each reference stays bound to the image of what
-- it was bound to.
use Rattle.std.proofs.Common.{◌≡◌, ℕ, List, [], ◌∷◌, ◌++◌, Some, None, Bool, false, refl, sym, ap, subst, ◌∙◌, inl, inr}
use Rattle.std.specs.Prelude.{slice_get, if◌then◌else◌}
use Rattle.jr_text.specs.declared.spans.Span.{Span}
use Rattle.jr_ast.specs.Tree as tree
use Rattle.jr_ast.specs.declared.operators.UnOp.{UnOp}
use Rattle.jr_ast.specs.declared.operators.UnOp.TheVariants as sign
use Rattle.jr_ast.specs.declared.operators.BinOp.{BinOp}
use Rattle.jr_ast.specs.declared.operators.BinOp.TheVariants as op
use Rattle.jr_table.specs.Keys.{ClassKey, FieldKey, CtorKey, Ty, class}
use Rattle.jr_table.specs.Decls.{Decl, class_decl, field_decl, method_decl, constructor_decl, local_decl, LocalKey}
use Rattle.jr_table.specs.Rows.{Row}
use Rattle.jr_table.specs.Entries.{class_of}
use Rattle.jr_table.specs.Found.{Found, one, nothing}
use Rattle.jr_table.specs.Scope.{Scope}
use Rattle.jr_table.specs.Lookup.{FindsVariable, FindsTypeOf, FindsFieldIn, FindsLeft, FindsCtorOf}
use Rattle.jr_table.specs.Context.{Context, scope_of, IsTypeOf, WritesType}
use Rattle.jr_table.specs.Binding.{HasType, IsClassName, HaveTypes, FieldFinds, SuperFieldFinds, CallFinds, SuperCallFinds, CreationFinds, method, Role, value, left, statement, BindsItself, sign_type, operator_type}
use Rattle.jr_table.specs.Binding as binding
use Rattle.jr_spell.specs.declared.references.RefForm.TheVariants as ref
use Rattle.jr_spell.specs.declared.spellings.Form.{Form}
use Rattle.jr_spell.specs.declared.spellings.Form.TheVariants.{Asked, OnCastOperand, OnClass, OnOuterClass}
use Rattle.jr_spell.specs.References.{Reference}
use Rattle.jr_spell.specs.Binds.{Binds}
use Rattle.jr_rewrite.specs.Respellings.{Loss, Choice, front_of}
use Rattle.jr_rewrite.specs.Rewritten.{Rewritten, within, joined, word_to, variable_to, variable_on, operand_to, super_to, target_of, drops_operand, losses_of, word_out, name_out, field_out, super_field_out, simple_call_out, dotted_call_out, operand_losses, Called}
use Rattle.jr_rewrite.specs.Rewrites.{Choosing, RewritesExp, RewritesRow, TransformsExp, TransformsTarget, TransformsRow}
use Rattle.jr_images.specs.Images.{Renaming, class_to, type_to, types_to, field_to, method_to, ctor_to, decl_to, local_to, name_to, rows_to, scope_to}
use Rattle.jr_images.specs.Words.{InFront, class_name, value_of, neither, named_class, FirstStands}
use Rattle.jr_images.specs.Spelling.{renamed, spelled, reference, behind_words, operand_of, spelling, LocalSpells, OwnFieldSpells, ClassSpells, FieldSpells, MemberClassSpells, SuperFieldSpells, SimpleCallSpells, CallSpells, SuperCallSpells, CreationSpells}
use Rattle.jr_images.specs.Keeping.{WasOnClass, IsKept, IsBoundTo}
use Rattle.jr_images.proofs.Chosen.{renamed_front, lost_some, left_none, right_none, lost_none}
use Rattle.jr_images.proofs.Forms.{one_form, two_forms, with_name}
use Rattle.jr_images.proofs.Places.{scope_image, type_image}
use Rattle.jr_images.proofs.World.{World}
use Rattle.jr_images.proofs.Types.{to_scope, writes_one, type_kept}
use Rattle.jr_images.proofs.OneBound.{one_decl, not_nothing, class_one, name_only, field_only, super_field_only, call_only, super_call_only, name_type, name_no_class, field_type, field_no_class, super_field_type, call_type, super_call_type}
use Rattle.jr_images.proofs.Rebound.{IsNamed, Stands, simple_local, simple_field, field_on_value, field_by_super, field_through, class_in_front, call_by_name, call_on_value, call_through_class, call_by_super}

sign_stays : (g : Renaming) (o : UnOp) → type_to g (sign_type o) ≡ sign_type o
sign_stays g sign.Plus = refl
sign_stays g sign.Minus = refl
sign_stays g sign.Not = refl

operator_stays : (g : Renaming) (o : BinOp) → type_to g (operator_type o) ≡ operator_type o
operator_stays g op.Add = refl
operator_stays g op.Sub = refl
operator_stays g op.Mul = refl
operator_stays g op.Div = refl
operator_stays g op.Rem = refl
operator_stays g op.Or = refl
operator_stays g op.And = refl
operator_stays g op.Eq = refl
operator_stays g op.Ne = refl
operator_stays g op.Lt = refl
operator_stays g op.Gt = refl
operator_stays g op.Le = refl
operator_stays g op.Ge = refl

module _ {A : Type 0} (tells : A → ℕ → Span) (rows : List Row) (g : Renaming) (c d : Context) (w : World A rows g c d) where
  -- x has become y: its type goes to the image, and so does the class that it names
  pub record Kept (r : Role) (x y : tree.Exp A) : Type 0 where
    pub typed : (t : Ty) → HasType rows c x t → HasType (rows_to g rows) d y (type_to g t)
    pub named : (k : ClassKey) → IsClassName rows c x k → IsClassName (rows_to g rows) d y (class_to g k)
    pub apart : ((k : ClassKey) → IsClassName rows c x k → ⊥) → (k : ClassKey) → IsClassName (rows_to g rows) d y k → ⊥
    pub bound : (b i : ℕ) → IsKept (λ m b. (tells m b).from) (λ m b. (tells m b).from) g rows c d r b x i y

  -- it is bound to the declaration
  abbrev To : Decl → tree.Exp A → Type 0
  To x y = Stands (λ m b. (tells m b).from) (rows_to g rows) w.are w.one_new d w.new w.rebind w.fronts x y

  -- a reference that is bound, and stays so
  goes : (r : Role) (e y : tree.Exp A) (x z : Decl) → z ≡ x → To (decl_to g x) y → (i : ℕ) → (at : ℕ) × BindsItself (λ m b. (tells m b).from) (rows_to g rows) d r i y at (decl_to g z)
  goes r e y x z equal to i = subst (λ (u : Decl). (at : ℕ) × BindsItself (λ m b. (tells m b).from) (rows_to g rows) d r i y at (decl_to g u)) (sym equal) (to.reads r i)

  -- where nothing stands in front of a field any more, a class stood there
  abbrev WasOn : tree.Exp A → tree.Exp A → Type 0
  WasOn (tree.field m e v) y = WasOnClass rows c e y
  WasOn _ y = Unit {0}

  was_on_class : (e : tree.Exp A) (o : ClassKey) → IsClassName rows c e o → (y : tree.Exp A) → WasOnClass rows c e y
  was_on_class e o named (tree.name m v) = (o, named)
  was_on_class e o named _ = tt

  own_kept : (r : Role) (e y : tree.Exp A) (x : Decl) → IsNamed e → WasOn e y → ((b at : ℕ) (z : Decl) → BindsItself (λ m b. (tells m b).from) rows c r b e at z → z ≡ x) → To (decl_to g x) y
      → (b i : ℕ) → IsKept (λ m b. (tells m b).from) (λ m b. (tells m b).from) g rows c d r b e i y
  own_kept r (tree.name m v) y x ok was only to b i = λ at z h. goes r (tree.name m v) y x z (only b at z h) to i
  own_kept r (tree.field m e v) y x ok was only to b i = (λ at z h. goes r (tree.field m e v) y x z (only b at z h) to i, was)
  own_kept r (tree.super_field m v) y x ok was only to b i = λ at z h. goes r (tree.super_field m v) y x z (only b at z h) to i
  own_kept r (tree.call m to2 v args) y x ok was only to b i = λ at z h. goes r (tree.call m to2 v args) y x z (only b at z h) to i
  own_kept r (tree.super_call m v args) y x ok was only to b i = λ at z h. goes r (tree.super_call m v args) y x z (only b at z h) to i
  own_kept r _ y x ok was only to b i = absurd ok

  kept_bound : (r : Role) (e y : tree.Exp A) (x : Decl) → IsNamed e → WasOn e y → ((t : Ty) → HasType rows c e t → IsTypeOf rows c x t) → ((k : ClassKey) → IsClassName rows c e k → ⊥)
      → ((b at : ℕ) (z : Decl) → BindsItself (λ m b. (tells m b).from) rows c r b e at z → z ≡ x) → ((k : ClassKey) → decl_to g x ≡ class_decl k → ⊥) → To (decl_to g x) y → Kept r e y
  kept_bound r e y x ok was found apart only not to = record {
    typed = λ t h. to.types (type_to g t) (type_image g rows c d w.stand x t (found t h));
    named = λ k h. absurd (apart k h);
    apart = λ _ k h. to.apart not k h;
    bound = own_kept r e y x ok was only to;
  }

  kept_name : (r : Role) (m : A) (v : tree.Word A) (y : tree.Exp A) (x : Decl) → FindsVariable rows (scope_of c) v.text (one x) → ((k : ClassKey) → x ≡ class_decl k → ⊥)
      → ((k : ClassKey) → decl_to g x ≡ class_decl k → ⊥) → To (decl_to g x) y → Kept r (tree.name m v) y
  kept_name r m v y x finds never not to = kept_bound r (tree.name m v) y x tt tt (name_type (λ m b. (tells m b).from) rows c w.one_old w.old x never m v finds)
      (name_no_class (λ m b. (tells m b).from) rows c w.one_old w.old x never m v finds) (name_only (λ m b. (tells m b).from) rows c w.one_old w.old x never m v finds r) not to

  kept_field : (r : Role) (m : A) (e : tree.Exp A) (v : tree.Word A) (y : tree.Exp A) (x : Decl) → WasOnClass rows c e y → FieldFinds rows c e v.text (one x) → ((k : ClassKey) → x ≡ class_decl k → ⊥)
      → ((k : ClassKey) → decl_to g x ≡ class_decl k → ⊥) → To (decl_to g x) y → Kept r (tree.field m e v) y
  kept_field r m e v y x was finds never not to = kept_bound r (tree.field m e v) y x tt was (field_type (λ m b. (tells m b).from) rows c w.one_old w.old x never m e v finds)
      (field_no_class (λ m b. (tells m b).from) rows c w.one_old w.old x never m e v finds) (field_only (λ m b. (tells m b).from) rows c w.one_old w.old x never m e v finds r) not to

  kept_super : (r : Role) (m : A) (v : tree.Word A) (y : tree.Exp A) (x : Decl) → SuperFieldFinds rows c v.text (one x) → ((k : ClassKey) → x ≡ class_decl k → ⊥)
      → ((k : ClassKey) → decl_to g x ≡ class_decl k → ⊥) → To (decl_to g x) y → Kept r (tree.super_field m v) y
  unfolding IsClassName
  kept_super r m v y x finds never not to = kept_bound r (tree.super_field m v) y x tt tt (super_field_type (λ m b. (tells m b).from) rows c w.one_old w.old x never m v finds)
      (λ j named. named) (super_field_only (λ m b. (tells m b).from) rows c w.one_old w.old x never m v finds r) not to

  kept_call : (r : Role) (m : A) (to2 : tree.Target A) (v : tree.Word A) (args : tree.Exps A) (y : tree.Exp A) (x : Decl) → CallFinds rows c to2 v.text args (one x) → ((k : ClassKey) → x ≡ class_decl k → ⊥)
      → ((k : ClassKey) → decl_to g x ≡ class_decl k → ⊥) → To (decl_to g x) y → Kept r (tree.call m to2 v args) y
  unfolding IsClassName
  kept_call r m to2 v args y x finds never not to = kept_bound r (tree.call m to2 v args) y x tt tt (call_type (λ m b. (tells m b).from) rows c w.one_old w.old x never m to2 v args finds)
      (λ j named. named) (call_only (λ m b. (tells m b).from) rows c w.one_old w.old x never m to2 v args finds r) not to

  kept_super_call : (r : Role) (m : A) (v : tree.Word A) (args : tree.Exps A) (y : tree.Exp A) (x : Decl) → SuperCallFinds rows c v.text args (one x) → ((k : ClassKey) → x ≡ class_decl k → ⊥)
      → ((k : ClassKey) → decl_to g x ≡ class_decl k → ⊥) → To (decl_to g x) y → Kept r (tree.super_call m v args) y
  unfolding IsClassName
  kept_super_call r m v args y x finds never not to = kept_bound r (tree.super_call m v args) y x tt tt (super_call_type (λ m b. (tells m b).from) rows c w.one_old w.old x never m v args finds)
      (λ j named. named) (super_call_only (λ m b. (tells m b).from) rows c w.one_old w.old x never m v args finds r) not to

  -- what is the name of a class is bound to it in front of a dot
  class_bound : (i : ℕ) (y : tree.Exp A) (k : ClassKey) → IsClassName (rows_to g rows) d y k → IsBoundTo (λ m b. (tells m b).from) g rows d left i y (class_decl k)
  unfolding IsClassName
  class_bound i (tree.name m v) k finds = (_, (binding.type, (refl, (refl, finds))))
  class_bound i (tree.field m e v) k (o, named, finds) = (_, (binding.type, (refl, inl (o, named, refl, finds))))
  class_bound i _ k named = absurd named

  -- where the first word of a class finds it, it does so in front of a dot
  first_named : (k : ClassKey) (u : InFront) → FirstStands rows g c k u → named_class u ≡ Some (class_to g k) → FindsLeft (rows_to g rows) (scope_to g c) (class_to g k).name (one (class_decl (class_to g k)))
  first_named k (class_name b) (found, finds, stands) e =
      let same : b ≡ class_to g k = cc in
      subst (λ (x : Found). FindsLeft (rows_to g rows) (scope_to g c) (class_to g k).name x) (stands ∙ ap (λ (z : ClassKey). one (class_decl z)) same) finds
  first_named k (value_of b) stands e = absurd cc
  first_named k neither stands e = absurd cc

  -- ---- simple names

  module _ (r : Role) (m : A) (v : tree.Word A) (at : ℕ) (h : Choice) (none : losses_of h ≡ []) where
    local_kept : (k : LocalKey) → LocalSpells (λ m b. (tells m b).from) rows g c at v.text k h → Kept r (tree.name m v) (variable_to m (front_of h) None (word_to h v))
    local_kept k (finds, inl (f, taken, is)) = kept_name r m v (variable_to m (front_of h) None (word_to h v)) (local_decl k) finds (λ i e. cc) (λ i e. cc)
        (subst (λ (x : Choice). To (local_decl (local_to g k)) (variable_to m (front_of x) None (word_to x v))) (sym is)
        (one_form (λ f. Bound f → To (local_decl (local_to g k)) (variable_to m (front_of (spelled v.text (name_to g (local_decl k) v.text) (class_of (local_decl (local_to g k))) f)) None (word_to (spelled v.text (name_to g (local_decl k) v.text) (class_of (local_decl (local_to g k))) f) v)))
        (λ binds. simple_local (λ m b. (tells m b).from) (rows_to g rows) w.are w.one_new d w.new w.rebind w.fronts m v.mark v.text (local_to g k) (name_to g (local_decl k) v.text) binds)
        taken.place f taken.stands (to_scope tells rows g c d w own (local_decl (local_to g k)) f taken.binds)))
      where
        own : Reference
        own = reference ref.AsAsked (name_to g (local_decl k) v.text) None []

        Bound : Form → Type 0
        Bound f = Binds (rows_to g rows) (scope_of d) own (local_decl (local_to g k)) f
    local_kept k (finds, inr (none_binds, (f, found, is))) = absurd (lost_some _ (sym (ap losses_of is) ∙ none))

    own_field_kept : (k : FieldKey) → OwnFieldSpells (λ m b. (tells m b).from) rows g c at v.text k h → Kept r (tree.name m v) (variable_to m (front_of h) None (word_to h v))
    own_field_kept k (finds, inl (f, taken, is)) = kept_name r m v (variable_to m (front_of h) None (word_to h v)) (field_decl k) finds (λ i e. cc) (λ i e. cc)
        (subst (λ (x : Choice). To (field_decl (field_to g k)) (variable_to m (front_of x) None (word_to x v))) (sym is)
        (simple_field (λ m b. (tells m b).from) (rows_to g rows) w.are w.one_new d w.new w.rebind w.fronts m v.mark v.text (field_to g k) taken.place f taken.stands
        (to_scope tells rows g c d w (reference ref.FieldSimple (field_to g k).name None []) (field_decl (field_to g k)) f taken.binds)))
    own_field_kept k (finds, inr (none_binds, (f, found, is))) = absurd (lost_some _ (sym (ap losses_of is) ∙ none))

    abbrev NewName : tree.Exp A
    NewName = variable_to m (front_of h) None (word_to h v)

    -- a class in front of a dot
    class_kept : (o : Role) → ClassSpells (λ m b. (tells m b).from) rows g c o at v.text h → Kept o (tree.name m v) (variable_to m (front_of h) None (word_to h v))
    unfolding HasType IsClassName
    class_kept left (k, free, finds, words, stands, inl (f, taken, is)) = record {
      typed = λ t type. absurd (no_type t type);
      named = λ j other. goes j (same_class j other);
      apart = λ not. absurd (not k here);
      bound = own;
    }
      where
        here : IsClassName rows c (tree.name m v) k
        here = inr (free, finds)

        no_type : (t : Ty) → HasType rows c (tree.name m v) t → ⊥
        no_type t (x, found, type) = not_nothing x (w.one_old.variable (scope_of c) v.text (one x) nothing found free)

        same_class : (j : ClassKey) → IsClassName rows c (tree.name m v) j → k ≡ j
        same_class j other = class_one (λ m b. (tells m b).from) rows c w.one_old w.old (tree.name m v) k j here other

        there : IsClassName (rows_to g rows) d NewName (class_to g k)
        there = subst (λ (x : Choice). IsClassName (rows_to g rows) d (variable_to m (front_of x) None (word_to x v)) (class_to g k)) (sym is)
            (class_in_front (λ m b. (tells m b).from) (rows_to g rows) w.are w.one_new d w.new w.rebind w.fronts m v.mark v.text (class_to g k) words None (λ front z. variable_to m front None z)
            refl (λ o. refl) taken.place f taken.stands
            (λ asked binds. subst (λ (y : tree.Exp A). IsClassName (rows_to g rows) d y (class_to g k)) (sym (with_name (λ front z. variable_to m front None z) v.text (class_to g k).name v.mark))
            (subst (λ (s : Scope). FindsLeft (rows_to g rows) s (class_to g k).name (one (class_decl (class_to g k)))) (sym (scope_image g rows c d w.stand)) (first_named k words stands binds.0)))
            (to_scope tells rows g c d w (behind_words words (reference ref.ClassInFront (class_to g k).name None [])) (class_decl (class_to g k)) f taken.binds))

        only : (at : ℕ) (x : Decl) (b : ℕ) → BindsItself (λ m b. (tells m b).from) rows c left b (tree.name m v) at x → class_decl k ≡ x
        only at x b (q, (place, (sort, inl (found, some)))) = absurd (not_nothing x (w.one_old.variable (scope_of c) v.text (one x) nothing found free))
        only at x b (q, (place, (sort, inr (nothing_there, found)))) = one_decl (class_decl k) x (w.one_old.type_named (scope_of c) v.text (one (class_decl k)) (one x) finds found)

        own : (b i : ℕ) (at : ℕ) (x : Decl) → BindsItself (λ m b. (tells m b).from) rows c left b (tree.name m v) at x
            → IsBoundTo (λ m b. (tells m b).from) g rows d left i NewName (decl_to g x)
        own b i at x here2 = subst (λ (z : Decl). IsBoundTo (λ m b. (tells m b).from) g rows d left i NewName (decl_to g z)) (only at x b here2) (class_bound i NewName (class_to g k) there)

        goes : (j : ClassKey) → k ≡ j → IsClassName (rows_to g rows) d NewName (class_to g j)
        goes j e = subst (λ (x : ClassKey). IsClassName (rows_to g rows) d NewName (class_to g x)) e there
    class_kept left (k, free, finds, words, stands, inr (none_binds, (f, found, is))) = absurd (lost_some _ (sym (ap losses_of is) ∙ none))
    class_kept value spells = absurd spells
    class_kept statement spells = absurd spells

  -- ---- behind a dot

  -- what stands in front is kept, where it isn't dropped
  abbrev Holds : Choice → tree.Exp A → tree.Exp A → Type 0
  Holds h e x = drops_operand (front_of h) ≡ false → Kept left e x

  -- a name alone, or a cast, drops nothing
  renamed_holds : (old new : List ℕ) → drops_operand (front_of (renamed old new)) ≡ false
  renamed_holds old new = ap drops_operand (renamed_front old new)

  value_holds : (old new : List ℕ) (k : ClassKey) (place : ℕ) (f : Form) → slice_get (Asked ∷ OnCastOperand ∷ []) place ≡ Some f → drops_operand (front_of (spelled old new k f)) ≡ false
  value_holds old new k place f there = two_forms (λ f. drops_operand (front_of (spelled old new k f)) ≡ false) OnCastOperand (renamed_holds old new) refl place f there

  module _ (r : Role) (m : A) (e x : tree.Exp A) (v : tree.Word A) (at : ℕ) (h : Choice) (none : losses_of h ≡ []) (holds : Holds h e x) where
    abbrev NewField : tree.Exp A
    NewField = variable_on m (operand_to m (front_of h) (Some x)) (word_to h v)

    field_on_kept : (k : FieldKey) → FieldFinds rows c e v.text (one (field_decl k)) → ((j : ClassKey) → IsClassName rows c e j → ⊥) → (o : ClassKey) → HasType rows c e (class o)
        → (place : ℕ) (f : Form) → slice_get (Asked ∷ OnCastOperand ∷ []) place ≡ Some f
        → Binds (rows_to g rows) (scope_of d) (reference ref.FieldOn (field_to g k).name (operand_of (class_to g o)) []) (field_decl (field_to g k)) f
        → h ≡ spelled v.text (field_to g k).name (field_to g k).class f → To (field_decl (field_to g k)) NewField
    field_on_kept k finds not o type place f there binds is =
        let part = holds (ap (λ (y : Choice). drops_operand (front_of y)) is ∙ value_holds v.text (field_to g k).name (field_to g k).class place f there) in
        subst (λ (y : Choice). To (field_decl (field_to g k)) (variable_on m (operand_to m (front_of y) (Some x)) (word_to y v))) (sym is)
        (field_on_value (λ m b. (tells m b).from) (rows_to g rows) w.are w.one_new d w.new w.rebind w.fronts m v.mark v.text (field_to g k) x (class_to g o)
        (part.typed (class o) type) (part.apart not) place f there binds)

    -- the value stays in front
    field_on_stays : (k : FieldKey) (place : ℕ) (f : Form) → slice_get (Asked ∷ OnCastOperand ∷ []) place ≡ Some f → h ≡ spelled v.text (field_to g k).name (field_to g k).class f → WasOnClass rows c e NewField
    field_on_stays k place f there is = subst (λ (y : Choice). WasOnClass rows c e (variable_on m (operand_to m (front_of y) (Some x)) (word_to y v))) (sym is)
        (two_forms (λ f. WasOnClass rows c e (variable_on m (operand_to m (front_of (spelled v.text (field_to g k).name (field_to g k).class f)) (Some x)) (word_to (spelled v.text (field_to g k).name (field_to g k).class f) v))) OnCastOperand
        (subst (λ (y : tree.Exp A). WasOnClass rows c e y) (sym (with_name (λ front z. variable_on m (operand_to m front (Some x)) z) v.text (field_to g k).name v.mark)) tt) tt place f there)

    field_through_kept : (k : FieldKey) (o : ClassKey) → IsClassName rows c e o → (words : InFront) (place : ℕ) (f : Form) → slice_get (Asked ∷ OnClass ∷ OnOuterClass ∷ []) place ≡ Some f
        → Binds (rows_to g rows) (scope_of d) (behind_words words (reference ref.ThroughClass (field_to g k).name (operand_of (class_to g o)) [])) (field_decl (field_to g k)) f
        → h ≡ spelled v.text (field_to g k).name (field_to g k).class f → To (field_decl (field_to g k)) NewField
    field_through_kept k o named words place f there binds is =
        subst (λ (y : Choice). To (field_decl (field_to g k)) (variable_on m (operand_to m (front_of y) (Some x)) (word_to y v))) (sym is)
        (field_through (λ m b. (tells m b).from) (rows_to g rows) w.are w.one_new d w.new w.rebind w.fronts m v.mark v.text (field_to g k) x (class_to g o) words place f there
        (λ asked. (holds (ap (λ (y : Choice). drops_operand (front_of y)) (is ∙ ap (spelled v.text (field_to g k).name (field_to g k).class) asked) ∙ renamed_holds v.text (field_to g k).name)).named o named) binds)

    pub field_kept : FieldSpells (λ m b. (tells m b).from) rows g c at e v.text h → Kept r (tree.field m e v) NewField
    field_kept (k, finds, inl (o, named, (words, stands, inl (f, taken, is)))) = kept_field r m e v NewField (field_decl k) (was_on_class e o named NewField) finds (λ i e. cc) (λ i e. cc)
        (field_through_kept k o named words taken.place f taken.stands
        (to_scope tells rows g c d w (behind_words words (reference ref.ThroughClass (field_to g k).name (operand_of (class_to g o)) [])) (field_decl (field_to g k)) f taken.binds) is)
    field_kept (k, finds, inl (o, named, (words, stands, inr (none_binds, (f, found, is))))) = absurd (lost_some _ (sym (ap losses_of is) ∙ none))
    field_kept (k, finds, inr (not, (o, type, inl (f, taken, is)))) = kept_field r m e v NewField (field_decl k) (field_on_stays k taken.place f taken.stands is) finds (λ i e. cc) (λ i e. cc)
        (field_on_kept k finds not o type taken.place f taken.stands
        (to_scope tells rows g c d w (reference ref.FieldOn (field_to g k).name (operand_of (class_to g o)) []) (field_decl (field_to g k)) f taken.binds) is)
    field_kept (k, finds, inr (not, (o, type, inr (none_binds, (f, found, is))))) = absurd (lost_some _ (sym (ap losses_of is) ∙ none))

    -- a member class in front of a further dot
    pub member_class_kept : (o : Role) → MemberClassSpells (λ m b. (tells m b).from) rows g c o at e v.text h → Kept o (tree.field m e v) NewField
    unfolding HasType IsClassName
    member_class_kept left (o, k, owner, free, finds, front, before, words, stands, inl (f, taken, is)) = record {
      typed = λ t type. absurd (no_type t type);
      named = λ j other. goes j (class_one (λ m b. (tells m b).from) rows c w.one_old w.old (tree.field m e v) k j here other);
      apart = λ not. absurd (not k here);
      bound = λ b i. (own b i, was_on_class e o owner NewField);
    }
      where
        here : IsClassName rows c (tree.field m e v) k
        here = (o, owner, inr (free, finds))

        on_class : (x : Decl) → FieldFinds rows c e v.text (one x) → ⊥
        on_class x (inl (i, inl other, found)) = not_nothing x (w.one_old.field_in (scope_of c) o v.text (one x) nothing
            (subst (λ (z : ClassKey). FindsFieldIn rows (scope_of c) z v.text (one x)) (class_one (λ m b. (tells m b).from) rows c w.one_old w.old e i o other owner) found) free)
        on_class x (inl (i, inr (not, type), found)) = not o owner
        on_class x (inr (not, is)) = not_nothing x is

        no_type : (t : Ty) → HasType rows c (tree.field m e v) t → ⊥
        no_type t (x, found, type) = on_class x found

        there : IsClassName (rows_to g rows) d NewField (class_to g k)
        there = subst (λ (y : Choice). IsClassName (rows_to g rows) d (variable_on m (operand_to m (front_of y) (Some x)) (word_to y v)) (class_to g k)) (sym is)
            (class_in_front (λ m b. (tells m b).from) (rows_to g rows) w.are w.one_new d w.new w.rebind w.fronts m v.mark v.text (class_to g k) words (operand_of (class_to g o)) (λ front z. variable_on m (operand_to m front (Some x)) z)
            refl (λ o. refl) taken.place f taken.stands
            (λ asked binds.
            let part = holds (ap (λ (y : Choice). drops_operand (front_of y)) (is ∙ ap (spelled v.text (class_to g k).name (class_to g k)) asked) ∙ renamed_holds v.text (class_to g k).name) in
            subst (λ (y : tree.Exp A). IsClassName (rows_to g rows) d y (class_to g k)) (sym (with_name (λ front z. variable_on m (operand_to m front (Some x)) z) v.text (class_to g k).name v.mark))
            (class_to g o, part.named o owner, inr binds.1))
            (to_scope tells rows g c d w (behind_words words (reference ref.ClassInFront (class_to g k).name (operand_of (class_to g o)) [])) (class_decl (class_to g k)) f taken.binds))

        only : (at : ℕ) (x : Decl) (b : ℕ) → BindsItself (λ m b. (tells m b).from) rows c left b (tree.field m e v) at x → class_decl k ≡ x
        only at x b (q, (place, inl (i, other, sort, inl (found, some)))) = absurd (not_nothing x (w.one_old.field_in (scope_of c) o v.text (one x) nothing
            (subst (λ (z : ClassKey). FindsFieldIn rows (scope_of c) z v.text (one x)) (class_one (λ m b. (tells m b).from) rows c w.one_old w.old e i o other owner) found) free))
        only at x b (q, (place, inl (i, other, sort, inr (nothing_there, found)))) = one_decl (class_decl k) x (w.one_old.type_of (scope_of c) o v.text (one (class_decl k)) (one x) finds
            (subst (λ (z : ClassKey). FindsTypeOf rows (scope_of c) z v.text (one x)) (class_one (λ m b. (tells m b).from) rows c w.one_old w.old e i o other owner) found))
        only at x b (q, (place, inr (not, sort, found))) = absurd (not o owner)

        own : (b i : ℕ) (at : ℕ) (z : Decl) → BindsItself (λ m b. (tells m b).from) rows c left b (tree.field m e v) at z → IsBoundTo (λ m b. (tells m b).from) g rows d left i NewField (decl_to g z)
        own b i at z here2 = subst (λ (u : Decl). IsBoundTo (λ m b. (tells m b).from) g rows d left i NewField (decl_to g u)) (only at z b here2) (class_bound i NewField (class_to g k) there)

        goes : (j : ClassKey) → k ≡ j → IsClassName (rows_to g rows) d NewField (class_to g j)
        goes j e = subst (λ (z : ClassKey). IsClassName (rows_to g rows) d NewField (class_to g z)) e there
    member_class_kept left (o, k, owner, free, finds, front, before, words, stands, inr (none_binds, (f, found, is))) = absurd (lost_some _ (sym (ap losses_of is) ∙ none))
    member_class_kept value spells = absurd spells
    member_class_kept statement spells = absurd spells

  -- ---- by `super`

  module _ (r : Role) (m : A) (v : tree.Word A) (at : ℕ) (h : Choice) (none : losses_of h ≡ []) where
    pub super_field_kept : SuperFieldSpells (λ m b. (tells m b).from) rows g c at v.text h → Kept r (tree.super_field m v) (super_to m (front_of h) (word_to h v))
    unfolding IsClassName
    super_field_kept (k, finds, inl (f, taken, is)) = kept_super r m v (super_to m (front_of h) (word_to h v)) (field_decl k) finds (λ i e. cc) (λ i e. cc)
        (subst (λ (x : Choice). To (field_decl (field_to g k)) (super_to m (front_of x) (word_to x v))) (sym is)
        (field_by_super (λ m b. (tells m b).from) (rows_to g rows) w.are w.one_new d w.new w.rebind w.fronts m v.mark v.text (field_to g k) taken.place f taken.stands
        (to_scope tells rows g c d w (reference ref.FieldSuper (field_to g k).name None []) (field_decl (field_to g k)) f taken.binds)))
    super_field_kept (k, finds, inr (none_binds, (f, found, is))) = absurd (lost_some _ (sym (ap losses_of is) ∙ none))

  -- ---- calls

  -- the arguments' types have gone to their images
  abbrev ArgsTo : tree.Exps A → tree.Exps A → Type 0
  ArgsTo args es = (ts : List Ty) → HaveTypes rows c args ts → HaveTypes (rows_to g rows) d es (types_to g ts)

  module _ (r : Role) (m : A) (v : tree.Word A) (args es : tree.Exps A) (args_to : ArgsTo args es) (at : ℕ) (h : Choice) (none : losses_of h ≡ []) where
    pub simple_call_kept : SimpleCallSpells (λ m b. (tells m b).from) rows g c at v.text args h
        → Kept r (tree.call m tree.no_target v args) (tree.call m (target_of (operand_to m (front_of h) None)) (word_to h v) es)
    unfolding IsClassName
    simple_call_kept (k, ts, finds, types, inl (f, taken, is)) = kept_call r m tree.no_target v args (tree.call m (target_of (operand_to m (front_of h) None)) (word_to h v) es) (method_decl k) finds (λ i e. cc) (λ i e. cc)
        (subst (λ (x : Choice). To (method_decl (method_to g k)) (tree.call m (target_of (operand_to m (front_of x) None)) (word_to x v) es)) (sym is)
        (call_by_name (λ m b. (tells m b).from) (rows_to g rows) w.are w.one_new d w.new w.rebind w.fronts m v.mark v.text (method_to g k) es (types_to g ts) (args_to ts types) taken.place f taken.stands
        (to_scope tells rows g c d w (reference ref.MethodSimple (method_to g k).name None (types_to g ts)) (method_decl (method_to g k)) f taken.binds)))
    simple_call_kept (k, ts, finds, types, inr (none_binds, (f, found, is))) = absurd (lost_some _ (sym (ap losses_of is) ∙ none))

    pub super_call_kept : SuperCallSpells (λ m b. (tells m b).from) rows g c at v.text args h → Kept r (tree.super_call m v args) (tree.super_call m (word_to h v) es)
    unfolding IsClassName
    super_call_kept (k, ts, finds, types, inl (f, taken, is)) = kept_super_call r m v args (tree.super_call m (word_to h v) es) (method_decl k) finds (λ i e. cc) (λ i e. cc)
        (subst (λ (x : Choice). To (method_decl (method_to g k)) (tree.super_call m (word_to x v) es)) (sym is)
        (one_form (λ f. Binds (rows_to g rows) (scope_of d) (reference ref.AsAsked (method_to g k).name None (types_to g ts)) (method_decl (method_to g k)) f
        → To (method_decl (method_to g k)) (tree.super_call m (word_to (spelled v.text (method_to g k).name (method_to g k).class f) v) es))
        (λ binds. call_by_super (λ m b. (tells m b).from) (rows_to g rows) w.are w.one_new d w.new w.rebind w.fronts m v.mark v.text (method_to g k) es (types_to g ts) (args_to ts types) binds)
        taken.place f taken.stands
        (to_scope tells rows g c d w (reference ref.AsAsked (method_to g k).name None (types_to g ts)) (method_decl (method_to g k)) f taken.binds)))
    super_call_kept (k, ts, finds, types, inr (none_binds, (f, found, is))) = absurd (lost_some _ (sym (ap losses_of is) ∙ none))

    module _ (e x : tree.Exp A) (holds : Holds h e x) where
      abbrev NewCall : tree.Exp A
      NewCall = tree.call m (target_of (operand_to m (front_of h) (Some x))) (word_to h v) es

      pub call_kept : CallSpells (λ m b. (tells m b).from) rows g c at e v.text args h → Kept r (tree.call m (tree.on e) v args) NewCall
      unfolding IsClassName
      call_kept (k, ts, finds, types, inl (o, named, (words, stands, inl (f, taken, is)))) = kept_call r m (tree.on e) v args NewCall (method_decl k) finds (λ i e. cc) (λ i e. cc)
          (subst (λ (y : Choice). To (method_decl (method_to g k)) (tree.call m (target_of (operand_to m (front_of y) (Some x))) (word_to y v) es)) (sym is)
          (call_through_class (λ m b. (tells m b).from) (rows_to g rows) w.are w.one_new d w.new w.rebind w.fronts m v.mark v.text (method_to g k) es (types_to g ts) (args_to ts types)
          x (class_to g o) words taken.place f taken.stands
          (λ asked. (holds (ap (λ (y : Choice). drops_operand (front_of y)) (is ∙ ap (spelled v.text (method_to g k).name (method_to g k).class) asked) ∙ renamed_holds v.text (method_to g k).name)).named o named)
          (to_scope tells rows g c d w (behind_words words (reference ref.ThroughClass (method_to g k).name (operand_of (class_to g o)) (types_to g ts))) (method_decl (method_to g k)) f taken.binds)))
      call_kept (k, ts, finds, types, inl (o, named, (words, stands, inr (none_binds, (f, found, is))))) = absurd (lost_some _ (sym (ap losses_of is) ∙ none))
      call_kept (k, ts, finds, types, inr (not, (o, type, inl (f, taken, is)))) =
          let part = holds (ap (λ (y : Choice). drops_operand (front_of y)) is ∙ value_holds v.text (method_to g k).name (method_to g k).class taken.place f taken.stands) in
          kept_call r m (tree.on e) v args NewCall (method_decl k) finds (λ i e. cc) (λ i e. cc)
          (subst (λ (y : Choice). To (method_decl (method_to g k)) (tree.call m (target_of (operand_to m (front_of y) (Some x))) (word_to y v) es)) (sym is)
          (call_on_value (λ m b. (tells m b).from) (rows_to g rows) w.are w.one_new d w.new w.rebind w.fronts m v.mark v.text (method_to g k) es (types_to g ts) (args_to ts types)
          x (class_to g o) (part.typed (class o) type) (part.apart not) taken.place f taken.stands
          (to_scope tells rows g c d w (reference ref.MethodOn (method_to g k).name (operand_of (class_to g o)) (types_to g ts)) (method_decl (method_to g k)) f taken.binds)))
      call_kept (k, ts, finds, types, inr (not, (o, type, inr (none_binds, (f, found, is))))) = absurd (lost_some _ (sym (ap losses_of is) ∙ none))

  -- ---- creations

  module _ (m : A) (t u : tree.TypeName A) (args es : tree.Exps A) (type_goes : (k : Ty) → WritesType rows (scope_of c) t k → WritesType (rows_to g rows) (scope_of d) u (type_to g k))
      (args_to : ArgsTo args es) (base : ℕ) (h : Choice) (none : losses_of h ≡ []) where
    -- the constructor that the new creation finds
    new_ctor : (k : ClassKey) (q : CtorKey) (ts : List Ty) → WritesType rows (scope_of c) t (class k) → HaveTypes rows c args ts
        → FindsCtorOf (rows_to g rows) (scope_of d) (class_to g k) (types_to g ts) (one (constructor_decl (ctor_to g q)))
        → CreationFinds (rows_to g rows) d u es (one (constructor_decl (ctor_to g q)))
    new_ctor k q ts written types finds = inl (class_to g k, type_goes (class k) written, inl (types_to g ts, args_to ts types, finds))

    creates : (r : Role) (k : ClassKey) (q : CtorKey) (ts : List Ty) → WritesType rows (scope_of c) t (class k) → CreationFinds rows c t args (one (constructor_decl q)) → HaveTypes rows c args ts
        → FindsCtorOf (rows_to g rows) (scope_of d) (class_to g k) (types_to g ts) (one (constructor_decl (ctor_to g q))) → Kept r (tree.create m t args) (tree.create m u es)
    unfolding HasType IsClassName
    creates r k q ts written finds types found = record {
      typed = λ ty (j, x, class_is, has, is). (
        class_to g k,
        constructor_decl (ctor_to g q),
        type_goes (class k) written,
        inl (types_to g ts, args_to ts types, found),
        ap (type_to g) is ∙ ap (λ (z : ClassKey). class (class_to g z)) (writes_one tells rows g c d w t j k class_is written),
      );
      named = λ j named. named;
      apart = λ _ j named. named;
      bound = λ b i x other. subst (λ (z : Decl). IsBoundTo (λ m b. (tells m b).from) g rows d r i (tree.create m u es) (decl_to g z))
          (creation_one (constructor_decl q) x finds other) (_, (method, inl (refl, refl, new_ctor k q ts written types found)));
    }
      where
        creation_one : (x y : Decl) → CreationFinds rows c t args (one x) → CreationFinds rows c t args (one y) → x ≡ y
        creation_one x y a b = one_decl x y (sym ((w.old.creations t args (one x)).1 a) ∙ (w.old.creations t args (one y)).1 b)

    pub creation_kept : (r : Role) → CreationSpells (λ m b. (tells m b).from) rows g c base (tree.create m t args) h → Kept r (tree.create m t args) (tree.create m u es)
    creation_kept r (k, q, ts, written, finds, types, inl (f, taken, is)) = creates r k q ts written finds types
        (one_form (λ f. Binds (rows_to g rows) (scope_of d) (reference ref.AsAsked [] (operand_of (class_to g k)) (types_to g ts)) (constructor_decl (ctor_to g q)) f
        → FindsCtorOf (rows_to g rows) (scope_of d) (class_to g k) (types_to g ts) (one (constructor_decl (ctor_to g q)))) (λ binds. binds)
        taken.place f taken.stands
        (to_scope tells rows g c d w (reference ref.AsAsked [] (operand_of (class_to g k)) (types_to g ts)) (constructor_decl (ctor_to g q)) f taken.binds))
    creation_kept r (k, q, ts, written, finds, types, inr (none_binds, (f, found, is))) = absurd (lost_some _ (sym (ap losses_of is) ∙ none))

  -- ---- all expressions

  -- what has no reference of its own
  module _ (super_at : Context → ℕ) where
    abbrev Chosen : Choosing A
    Chosen = spelling (λ m b. (tells m b).from) rows g super_at

    move : (r : Role) (e : tree.Exp A) (o p : Rewritten (tree.Exp A)) → o ≡ p → Kept r e p.tree → Kept r e o.tree
    move r e o p is kept = subst (λ (z : Rewritten (tree.Exp A)). Kept r e z.tree) (sym is) kept

    -- of an operand, where it stays
    pub operand_none : (h : Choice) (ls : List Loss) → operand_losses tells h ls ++ losses_of h ≡ [] → drops_operand (front_of h) ≡ false → ls ≡ []
    operand_none h ls none stays = sym (ap (λ (b : Bool). if b then [] else ls) stays) ∙ left_none (operand_losses tells h ls) (losses_of h) none

    mutual
      unfolding TransformsExp TransformsTarget TransformsRow HasType IsClassName HaveTypes

      pub kept : (r : Role) (base : ℕ) (e : tree.Exp A) (o : Rewritten (tree.Exp A)) → RewritesExp tells Chosen c r base e o → o.losses ≡ [] → Kept r e o.tree
      kept r base (tree.number m n) o is none = move r _ o _ is (record { typed = λ t h. ap (type_to g) h; named = λ k h. h; apart = λ _ k h. h; bound = λ b i at x h. absurd h.1 })
      kept r base (tree.truth m n) o is none = move r _ o _ is (record { typed = λ t h. ap (type_to g) h; named = λ k h. h; apart = λ _ k h. h; bound = λ b i at x h. absurd h.1 })
      kept r base (tree.null m) o is none = move r _ o _ is (record { typed = λ t h. ap (type_to g) h; named = λ k h. h; apart = λ _ k h. h; bound = λ b i at x h. absurd h.1 })
      kept r base (tree.string m s) o is none = move r _ o _ is (record { typed = λ t h. ap (type_to g) h ∙ ap class w.string; named = λ k h. h; apart = λ _ k h. h; bound = λ b i at x h. absurd h.1 })
      kept r base (tree.this m) o is none = move r _ o _ is (record {
        typed = λ t h. ap (type_to g) h ∙ ap (λ (s : Scope). class s.class) (sym (scope_image g rows c d w.stand));
        named = λ k h. h;
        apart = λ _ k h. h;
        bound = λ b i at x h. absurd h.1;
      })
      kept r base (tree.name m v) o (h, inl (inl (k, spells)), is) none = move r (tree.name m v) o (name_out tells h m base v) is (local_kept r m v _ h (lost_none o (name_out tells h m base v) is none) k spells)
      kept r base (tree.name m v) o (h, inl (inr (k, spells)), is) none = move r (tree.name m v) o (name_out tells h m base v) is (own_field_kept r m v _ h (lost_none o (name_out tells h m base v) is none) k spells)
      kept r base (tree.name m v) o (h, inr spells, is) none = move r (tree.name m v) o (name_out tells h m base v) is (class_kept r m v _ h (lost_none o (name_out tells h m base v) is none) r spells)
      kept r base (tree.field m e v) o (h, p, inl spells, inner, is) none = let all = lost_none o (field_out tells h m base e p v) is none in
          move r (tree.field m e v) o (field_out tells h m base e p v) is (field_kept r m e p.tree v _ h (right_none (operand_losses tells h p.losses) (losses_of h) all)
          (λ stays. kept left _ e p inner (operand_none h p.losses all stays)) spells)
      kept r base (tree.field m e v) o (h, p, inr spells, inner, is) none = let all = lost_none o (field_out tells h m base e p v) is none in
          move r (tree.field m e v) o (field_out tells h m base e p v) is (member_class_kept r m e p.tree v _ h (right_none (operand_losses tells h p.losses) (losses_of h) all)
          (λ stays. kept left _ e p inner (operand_none h p.losses all stays)) r spells)
      kept r base (tree.super_field m v) o (h, spells, is) none = move r (tree.super_field m v) o (super_field_out tells h m base v) is (super_field_kept r m v _ h (lost_none o (super_field_out tells h m base v) is none) spells)
      kept r base (tree.class_literal m t) o (p, types, is) none = move r (tree.class_literal m t) o _ is (record {
        typed = λ t h. ap (type_to g) h ∙ ap class w.class;
        named = λ k h. h;
        apart = λ _ k h. h;
        bound = λ b i. tt;
      })
      kept r base (tree.call m tree.no_target v args) o (h, p, q, spells, target, row, is) none =
          let out = is ∙ ap (λ (z : Rewritten (Called tells)). joined (λ (t : Called tells) es. tree.call m t.target t.word es) z q) target in
          let all = lost_none o (joined (λ (t : Called tells) es. tree.call m t.target t.word es) (simple_call_out tells h m base v) q) out none in
          move r (tree.call m tree.no_target v args) o (joined (λ (t : Called tells) es. tree.call m t.target t.word es) (simple_call_out tells h m base v) q) out
          (simple_call_kept r m v args q.tree (λ ts types. kept_row _ args q row (right_none (losses_of h) q.losses all) ts types) _ h (left_none (losses_of h) q.losses all) spells)
      kept r base (tree.call m (tree.on e) v args) o (h, p, q, spells, (x, inner, target), row, is) none =
          let out = is ∙ ap (λ (z : Rewritten (Called tells)). joined (λ (t : Called tells) es. tree.call m t.target t.word es) z q) target in
          let all = lost_none o (joined (λ (t : Called tells) es. tree.call m t.target t.word es) (dotted_call_out tells h m base e x v) q) out none in
          let front = left_none (operand_losses tells h x.losses ++ losses_of h) q.losses all in
          move r (tree.call m (tree.on e) v args) o (joined (λ (t : Called tells) es. tree.call m t.target t.word es) (dotted_call_out tells h m base e x v) q) out
          (call_kept r m v args q.tree (λ ts types. kept_row _ args q row (right_none (operand_losses tells h x.losses ++ losses_of h) q.losses all) ts types) _ h
          (right_none (operand_losses tells h x.losses) (losses_of h) front) e x.tree (λ stays. kept left _ e x inner (operand_none h x.losses front stays)) spells)
      kept r base (tree.super_call m v args) o (h, q, spells, row, is) none =
          let all = lost_none o (joined (λ v es. tree.super_call m v es) (word_out tells h ((tells m base).from) v) q) is none in
          move r (tree.super_call m v args) o (joined (λ v es. tree.super_call m v es) (word_out tells h ((tells m base).from) v) q) is
          (super_call_kept r m v args q.tree (λ ts types. kept_row _ args q row (right_none (losses_of h) q.losses all) ts types) _ h (left_none (losses_of h) q.losses all) spells)
      kept r base (tree.create m t args) o (h, p, q, spells, types, row, is) none =
          let all = lost_none o _ is none in
          let parts = right_none (losses_of h) (p.losses ++ q.losses) all in
          move r (tree.create m t args) o _ is
          (creation_kept m t p.tree args q.tree (type_kept tells rows g c d w super_at _ t p types (left_none p.losses q.losses parts)) (λ ts have. kept_row _ args q row (right_none p.losses q.losses parts) ts have)
          base h (left_none (losses_of h) (p.losses ++ q.losses) all) r spells)
      kept r base (tree.paren m e) o (p, inner, is) none = let part = kept value _ e p inner (lost_none o (within (λ x. tree.paren m x) p) is none) in
          move r (tree.paren m e) o (within (λ x. tree.paren m x) p) is (record { typed = part.typed; named = λ k h. h; apart = λ _ k h. h; bound = λ b i at x h. absurd h.1 })
      kept r base (tree.cast m t e) o (p, q, types, inner, is) none = let all = lost_none o (joined (λ u x. tree.cast m u x) p q) is none in
          move r (tree.cast m t e) o (joined (λ u x. tree.cast m u x) p q) is
          (record { typed = type_kept tells rows g c d w super_at _ t p types (left_none p.losses q.losses all); named = λ k h. h; apart = λ _ k h. h; bound = λ b i. tt })
      kept r base (tree.unary m s e) o (p, inner, is) none = move r (tree.unary m s e) o _ is (record { typed = λ t h. ap (type_to g) h ∙ sign_stays g s; named = λ k h. h; apart = λ _ k h. h; bound = λ b i at x h. absurd h.1 })
      kept r base (tree.bump m s e) o (p, inner, is) none = move r (tree.bump m s e) o _ is (record { typed = λ t h. ap (type_to g) h; named = λ k h. h; apart = λ _ k h. h; bound = λ b i at x h. absurd h.1 })
      kept r base (tree.binary m s e f) o (p, q, one_side, other, is) none = move r (tree.binary m s e f) o _ is
          (record { typed = λ t h. ap (type_to g) h ∙ operator_stays g s; named = λ k h. h; apart = λ _ k h. h; bound = λ b i at x h. absurd h.1 })
      kept r base (tree.assign m e f) o (p, q, one_side, other, is) none = let all = lost_none o (joined (λ u v. tree.assign m u v) p q) is none in let part = kept value _ e p one_side (left_none p.losses q.losses all) in
          move r (tree.assign m e f) o (joined (λ u v. tree.assign m u v) p q) is (record { typed = part.typed; named = λ k h. h; apart = λ _ k h. h; bound = λ b i at x h. absurd h.1 })
      kept r base (tree.compound m s e f) o (p, q, one_side, other, is) none = move r (tree.compound m s e f) o _ is
          (record { typed = λ t h. ap (type_to g) h; named = λ k h. h; apart = λ _ k h. h; bound = λ b i at x h. absurd h.1 })

      pub kept_row : (at : ℕ) (es : tree.Exps A) (q : Rewritten (tree.Exps A)) → RewritesRow tells Chosen c at es q → q.losses ≡ [] → (ts : List Ty) → HaveTypes rows c es ts
          → HaveTypes (rows_to g rows) d q.tree (types_to g ts)
      kept_row at tree.end q is none ts h = subst (λ (z : Rewritten (tree.Exps A)). HaveTypes (rows_to g rows) d z.tree (types_to g ts)) (sym is) (ap (types_to g) h)
      kept_row at (tree.more e es) q (x, xs, inner, rest, is) none [] h = absurd h
      kept_row at (tree.more e es) q (x, xs, inner, rest, is) none (t ∷ ts) h = let all = lost_none q (joined (λ y ys. tree.more y ys) x xs) is none in
          subst (λ (z : Rewritten (tree.Exps A)). HaveTypes (rows_to g rows) d z.tree (type_to g t ∷ types_to g ts)) (sym is)
          ((kept value at e x inner (left_none x.losses xs.losses all)).typed t h.0, kept_row at es xs rest (right_none x.losses xs.losses all) ts h.1)
