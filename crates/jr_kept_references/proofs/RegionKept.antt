-- Expressions in a region: what stands there has the types that the region tells, and each
-- reference stays bound to the image of what it was bound to, beside spots.
use Rattle.std.proofs.Common.{◌≡◌, ℕ, List, [], ◌∷◌, Option, Some, None, false, refl, sym, ap, subst, ◌∙◌, inl, inr}
use Rattle.std.specs.Prelude.{slice_get, option_map}
use Rattle.jr_text.specs.declared.spans.Span.{Span}
use Rattle.jr_ast.specs.Tree as tree
use Rattle.jr_table.specs.Keys.{ClassKey, FieldKey, CtorKey, Ty, int, boolean, void, null, class}
use Rattle.jr_table.specs.Decls.{Decl, class_decl, field_decl, method_decl, constructor_decl, local_decl, LocalKey}
use Rattle.jr_table.specs.Rows.{Row}
use Rattle.jr_table.specs.Entries.{class_of}
use Rattle.jr_table.specs.Found.{Found, one, nothing}
use Rattle.jr_table.specs.Scope.{Scope}
use Rattle.jr_table.specs.Lookup.{FindsVariable, FindsTypeOf, FindsFieldIn, FindsLeft, FindsCtorOf}
use Rattle.jr_table.specs.Context.{Context, scope_of, IsTypeOf, WritesType}
use Rattle.jr_table.specs.Binding.{HasType, IsClassName, HaveTypes, FieldFinds, SuperFieldFinds, CallFinds, SuperCallFinds, CreationFinds, method, Role, value, left, statement, BindsItself, sign_type, operator_type}
use Rattle.jr_table.specs.Binding as binding
use Rattle.jr_spell.specs.declared.references.RefForm.TheVariants as ref
use Rattle.jr_spell.specs.declared.spellings.Form.{Form}
use Rattle.jr_spell.specs.declared.spellings.Form.TheVariants.{Asked, OnCastOperand, OnClass, OnOuterClass}
use Rattle.jr_spell.specs.References.{Reference, class_of_type}
use Rattle.jr_spell.specs.Binds.{Binds}
use Rattle.jr_rewrite.specs.Respellings.{Choice, front_of}
use Rattle.jr_rewrite.specs.Rewritten.{word_to, variable_to, variable_on, operand_to, super_to, target_of, drops_operand, losses_of}
use Rattle.jr_images.specs.Regions.{image_at, Region}
use Rattle.jr_images.specs.Words.{InFront, class_name, value_of, neither, named_class, FirstWord}
use Rattle.jr_images.specs.Spelling.{renamed, spelled, reference, behind_words, operand_of, on_type, OfImage, lost, TakenChoice, LocalChoice, OwnFieldChoice, ClassChoice, FieldChoice, MemberClassChoice, SuperFieldChoice, SimpleCallChoice, CallChoice, SuperCallChoice, CreationChoice}
use Rattle.jr_images.specs.Keeping.{WasOnClass}
use Rattle.jr_images.proofs.Chosen.{renamed_front, lost_some}
use Rattle.jr_images.proofs.Forms.{one_form, two_forms, with_name}
use Rattle.jr_images.proofs.OneBound.{one_decl, not_nothing, class_one, name_only, field_only, super_field_only, call_only, super_call_only, name_type, name_no_class, field_type, field_no_class, super_field_type, call_type, super_call_type}
use Rattle.jr_images.proofs.Rebound.{IsNamed, Stands, simple_local, simple_field, field_on_value, field_by_super, field_through, class_in_front, call_by_name, call_on_value, call_through_class, call_by_super}
use Rattle.jr_kept_references.specs.InRegions.{rows_in, class_in, field_in, method_in, ctor_in, name_in, type_in, scope_in, FindsItself}
use Rattle.jr_kept_references.specs.KeptInRegions.{Becomes, IsBoundToImage, IsKeptIn, KeptIn}
use Rattle.jr_kept_references.proofs.RegionWorlds.{RegionWorld, decl_type_goes}
use Rattle.jr_kept_references.proofs.RegionTypes.{to_scope, writes_one}

-- ---- a member on a value: the value is of a class

class_of_on : (t : Ty) (o : ClassKey) → class_of_type t ≡ Some o → t ≡ class o
class_of_on int o e = absurd cc
class_of_on boolean o e = absurd cc
class_of_on void o e = absurd cc
class_of_on null o e = absurd cc
class_of_on (class k) o e = (let p : k ≡ o = cc in ap class p)

field_value : (rows : List Row) (s : Scope) (name : List ℕ) (t : Ty) (x : Decl) (place : ℕ) (f : Form) → slice_get (Asked ∷ OnCastOperand ∷ []) place ≡ Some f
    → Binds rows s (reference ref.FieldOn name (on_type t) []) x f → (o : ClassKey) × (t ≡ class o)
field_value rows s name t x place f there = two_forms (λ f. Binds rows s (reference ref.FieldOn name (on_type t) []) x f → (o : ClassKey) × (t ≡ class o)) OnCastOperand
    (λ binds. (binds.0, class_of_on t binds.0 binds.1)) (λ binds. (binds.0, class_of_on t binds.0 binds.1)) place f there

call_value : (rows : List Row) (s : Scope) (name : List ℕ) (t : Ty) (ts : List Ty) (x : Decl) (place : ℕ) (f : Form) → slice_get (Asked ∷ OnCastOperand ∷ []) place ≡ Some f
    → Binds rows s (reference ref.MethodOn name (on_type t) ts) x f → (o : ClassKey) × (t ≡ class o)
call_value rows s name t ts x place f there = two_forms (λ f. Binds rows s (reference ref.MethodOn name (on_type t) ts) x f → (o : ClassKey) × (t ≡ class o)) OnCastOperand
    (λ binds. (binds.0, class_of_on t binds.0 binds.1)) (λ binds. (binds.0, class_of_on t binds.0 binds.1)) place f there

module _ {A : Type 0} (tells : A → ℕ → Span) (rows : List Row) (R : Region A) (c d : Context) (w : RegionWorld A rows R c d) where
  abbrev Keeps : Role → tree.Exp A → tree.Exp A → Type 0
  Keeps r x y = KeptIn (λ m b. (tells m b).from) rows R c d r x y

  abbrev Gives : tree.Exp A → tree.Exp A → Type 0
  Gives x y = Becomes (λ m b. (tells m b).from) rows R c d x y

  -- it is bound to the declaration
  abbrev To : Decl → tree.Exp A → Type 0
  To x y = Stands (λ m b. (tells m b).from) (rows_in R) w.images.are w.one_new d w.new w.rebind w.fronts x y

  -- where nothing stands in front of a field any more, a class stood there
  abbrev WasOn : tree.Exp A → tree.Exp A → Type 0
  WasOn (tree.field m e v) y = WasOnClass rows c e y
  WasOn _ y = Unit {0}

  was_on_class : (e : tree.Exp A) (o : ClassKey) → IsClassName rows c e o → (y : tree.Exp A) → WasOnClass rows c e y
  was_on_class e o named (tree.name m v) = (o, named)
  was_on_class e o named _ = tt

  -- a reference that is bound to one declaration, and what it has become to that one's image
  module _ (r : Role) (y : tree.Exp A) (x u : Decl) (image : image_at R.seen c x ≡ Some u) (to : To u y) where
    goes : (z : Decl) → z ≡ x → (i : ℕ) → IsBoundToImage (λ m b. (tells m b).from) rows R c d r i y z
    goes z equal i = (u, ap (image_at R.seen c) equal ∙ image, to.reads r i)

    own_kept : (e : tree.Exp A) → IsNamed e → WasOn e y → ((b at : ℕ) (z : Decl) → BindsItself (λ m b. (tells m b).from) rows c r b e at z → z ≡ x) → (b i : ℕ) → IsKeptIn (λ m b. (tells m b).from) rows R c d r b e i y
    own_kept (tree.name m v) ok was only b i = λ at z h. goes z (only b at z h) i
    own_kept (tree.field m e v) ok was only b i = (λ at z h. goes z (only b at z h) i, was)
    own_kept (tree.super_field m v) ok was only b i = λ at z h. goes z (only b at z h) i
    own_kept (tree.call m to2 v args) ok was only b i = λ at z h. goes z (only b at z h) i
    own_kept (tree.super_call m v args) ok was only b i = λ at z h. goes z (only b at z h) i
    own_kept _ ok was only b i = absurd ok

    kept_bound : (e : tree.Exp A) → IsNamed e → FindsItself rows c e x → WasOn e y → ((t : Ty) → HasType rows c e t → IsTypeOf rows c x t) → ((k : ClassKey) → IsClassName rows c e k → ⊥)
        → ((b at : ℕ) (z : Decl) → BindsItself (λ m b. (tells m b).from) rows c r b e at z → z ≡ x) → ((k : ClassKey) → u ≡ class_decl k → ⊥) → Keeps r e y
    kept_bound e ok finds was found apart only not = record {
      becomes = record {
        typed = λ t h. subst (λ (s : Ty). HasType (rows_in R) d y s) (sym (w.types.bound c e t x u finds image (found t h)))
            (to.types (type_in R t) (decl_type_goes rows R c d w x u t image (found t h)));
        named = λ k h. absurd (apart k h);
        apart = λ _ k h. to.apart not k h;
      };
      bound = own_kept e ok was only;
    }

  pub kept_name : (r : Role) (m : A) (v : tree.Word A) (y : tree.Exp A) (x u : Decl) → image_at R.seen c x ≡ Some u → FindsVariable rows (scope_of c) v.text (one x) → ((k : ClassKey) → x ≡ class_decl k → ⊥)
      → ((k : ClassKey) → u ≡ class_decl k → ⊥) → To u y → Keeps r (tree.name m v) y
  kept_name r m v y x u image finds never not to = kept_bound r y x u image to (tree.name m v) tt finds tt (name_type (λ m b. (tells m b).from) rows c w.one_old w.old x never m v finds)
      (name_no_class (λ m b. (tells m b).from) rows c w.one_old w.old x never m v finds) (name_only (λ m b. (tells m b).from) rows c w.one_old w.old x never m v finds r) not

  kept_field : (r : Role) (m : A) (e : tree.Exp A) (v : tree.Word A) (y : tree.Exp A) (x u : Decl) → image_at R.seen c x ≡ Some u → WasOnClass rows c e y → FieldFinds rows c e v.text (one x)
      → ((k : ClassKey) → x ≡ class_decl k → ⊥) → ((k : ClassKey) → u ≡ class_decl k → ⊥) → To u y → Keeps r (tree.field m e v) y
  kept_field r m e v y x u image was finds never not to = kept_bound r y x u image to (tree.field m e v) tt finds was (field_type (λ m b. (tells m b).from) rows c w.one_old w.old x never m e v finds)
      (field_no_class (λ m b. (tells m b).from) rows c w.one_old w.old x never m e v finds) (field_only (λ m b. (tells m b).from) rows c w.one_old w.old x never m e v finds r) not

  kept_super : (r : Role) (m : A) (v : tree.Word A) (y : tree.Exp A) (x u : Decl) → image_at R.seen c x ≡ Some u → SuperFieldFinds rows c v.text (one x) → ((k : ClassKey) → x ≡ class_decl k → ⊥)
      → ((k : ClassKey) → u ≡ class_decl k → ⊥) → To u y → Keeps r (tree.super_field m v) y
  unfolding IsClassName
  kept_super r m v y x u image finds never not to = kept_bound r y x u image to (tree.super_field m v) tt finds tt (super_field_type (λ m b. (tells m b).from) rows c w.one_old w.old x never m v finds)
      (λ j named. named) (super_field_only (λ m b. (tells m b).from) rows c w.one_old w.old x never m v finds r) not

  pub kept_call : (r : Role) (m : A) (to2 : tree.Target A) (v : tree.Word A) (args : tree.Exps A) (y : tree.Exp A) (x u : Decl) → image_at R.seen c x ≡ Some u → CallFinds rows c to2 v.text args (one x)
      → ((k : ClassKey) → x ≡ class_decl k → ⊥) → ((k : ClassKey) → u ≡ class_decl k → ⊥) → To u y → Keeps r (tree.call m to2 v args) y
  unfolding IsClassName
  kept_call r m to2 v args y x u image finds never not to = kept_bound r y x u image to (tree.call m to2 v args) tt finds tt (call_type (λ m b. (tells m b).from) rows c w.one_old w.old x never m to2 v args finds)
      (λ j named. named) (call_only (λ m b. (tells m b).from) rows c w.one_old w.old x never m to2 v args finds r) not

  kept_super_call : (r : Role) (m : A) (v : tree.Word A) (args : tree.Exps A) (y : tree.Exp A) (x u : Decl) → image_at R.seen c x ≡ Some u → SuperCallFinds rows c v.text args (one x)
      → ((k : ClassKey) → x ≡ class_decl k → ⊥) → ((k : ClassKey) → u ≡ class_decl k → ⊥) → To u y → Keeps r (tree.super_call m v args) y
  unfolding IsClassName
  kept_super_call r m v args y x u image finds never not to = kept_bound r y x u image to (tree.super_call m v args) tt finds tt (super_call_type (λ m b. (tells m b).from) rows c w.one_old w.old x never m v args finds)
      (λ j named. named) (super_call_only (λ m b. (tells m b).from) rows c w.one_old w.old x never m v args finds r) not

  -- what is the name of a class is bound to it in front of a dot
  class_bound : (i : ℕ) (y : tree.Exp A) (k : ClassKey) → IsClassName (rows_in R) d y k → (at : ℕ) × BindsItself (λ m b. (tells m b).from) (rows_in R) d left i y at (class_decl k)
  unfolding IsClassName
  class_bound i (tree.name m v) k finds = (_, (binding.type, (refl, (refl, finds))))
  class_bound i (tree.field m e v) k (o, named, finds) = (_, (binding.type, (refl, inl (o, named, refl, finds))))
  class_bound i _ k named = absurd named

  -- where the first word of a class finds it, it does so in front of a dot
  first_named : (k : ClassKey) (u : InFront) → FirstWord R.seen c k u → named_class u ≡ Some (class_in R k) → FindsLeft (rows_in R) (scope_in R c) (class_in R k).name (one (class_decl (class_in R k)))
  first_named k (class_name b) (found, finds, stands) e =
      let same : b ≡ class_in R k = cc in
      subst (λ (x : Found). FindsLeft (rows_in R) (scope_in R c) (class_in R k).name x) (stands ∙ ap (λ (z : ClassKey). one (class_decl z)) same) finds
  first_named k (value_of b) stands e = absurd cc
  first_named k neither stands e = absurd cc

  -- ---- simple names

  module _ (r : Role) (m : A) (v : tree.Word A) (at : ℕ) (h : Choice) (none : losses_of h ≡ []) where
    pub local_kept : (k : LocalKey) → LocalChoice (λ m b. (tells m b).from) rows R c at v.text k h → Keeps r (tree.name m v) (variable_to m (front_of h) None (word_to h v))
    local_kept k (finds, choice) = by (R.seen.local_to c k) refl choice
      where
        own : Reference
        own = reference ref.AsAsked (name_in R (local_decl k) v.text) None []

        Gone : Type 0
        Gone = (f : Found) × FindsVariable (rows_in R) (scope_in R c) (name_in R (local_decl k) v.text) f × (h ≡ lost (λ m b. (tells m b).from) rows R at (local_decl k) f)

        Stays : LocalKey → Type 0
        Stays i = TakenChoice (λ m b. (tells m b).from) rows R (scope_in R c) at v.text (name_in R (local_decl k) v.text) (local_decl k) (local_decl i) own (FindsVariable (rows_in R) (scope_in R c) (name_in R (local_decl k) v.text)) h

        by : (o : Option LocalKey) → R.seen.local_to c k ≡ o → OfImage o Stays Gone → Keeps r (tree.name m v) (variable_to m (front_of h) None (word_to h v))
        by None image (f, found, is) = absurd (lost_some _ (sym (ap losses_of is) ∙ none))
        by (Some i) image (inr (none_binds, (f, found, is))) = absurd (lost_some _ (sym (ap losses_of is) ∙ none))
        by (Some i) image (inl (f, taken, is)) = kept_name r m v (variable_to m (front_of h) None (word_to h v)) (local_decl k) (local_decl i) (ap (option_map (λ (l : LocalKey). local_decl l)) image) finds (λ j e. cc) (λ j e. cc)
            (subst (λ (x : Choice). To (local_decl i) (variable_to m (front_of x) None (word_to x v))) (sym is)
            (one_form (λ f. Binds (rows_in R) (scope_of d) own (local_decl i) f → To (local_decl i) (variable_to m (front_of (spelled v.text (name_in R (local_decl k) v.text) (class_of (local_decl i)) f)) None (word_to (spelled v.text (name_in R (local_decl k) v.text) (class_of (local_decl i)) f) v)))
            (λ binds. simple_local (λ m b. (tells m b).from) (rows_in R) w.images.are w.one_new d w.new w.rebind w.fronts m v.mark v.text i (name_in R (local_decl k) v.text) binds)
            taken.place f taken.stands (to_scope tells rows R c d w own (local_decl i) f taken.binds)))

    pub own_field_kept : (k : FieldKey) → OwnFieldChoice (λ m b. (tells m b).from) rows R c at v.text k h → Keeps r (tree.name m v) (variable_to m (front_of h) None (word_to h v))
    own_field_kept k (finds, inl (f, taken, is)) = kept_name r m v (variable_to m (front_of h) None (word_to h v)) (field_decl k) (field_decl (field_in R k)) refl finds (λ i e. cc) (λ i e. cc)
        (subst (λ (x : Choice). To (field_decl (field_in R k)) (variable_to m (front_of x) None (word_to x v))) (sym is)
        (simple_field (λ m b. (tells m b).from) (rows_in R) w.images.are w.one_new d w.new w.rebind w.fronts m v.mark v.text (field_in R k) taken.place f taken.stands
        (to_scope tells rows R c d w (reference ref.FieldSimple (field_in R k).name None []) (field_decl (field_in R k)) f taken.binds)))
    own_field_kept k (finds, inr (none_binds, (f, found, is))) = absurd (lost_some _ (sym (ap losses_of is) ∙ none))

    abbrev NewName : tree.Exp A
    NewName = variable_to m (front_of h) None (word_to h v)

    -- a class in front of a dot
    pub class_kept : (o : Role) → ClassChoice (λ m b. (tells m b).from) rows R c o at v.text h → Keeps o (tree.name m v) (variable_to m (front_of h) None (word_to h v))
    unfolding HasType IsClassName
    class_kept left (k, free, finds, words, stands, inl (f, taken, is)) = record {
      becomes = record { typed = λ t type. absurd (no_type t type); named = λ j other. goes j (same_class j other); apart = λ not. absurd (not k here) };
      bound = own;
    }
      where
        here : IsClassName rows c (tree.name m v) k
        here = inr (free, finds)

        no_type : (t : Ty) → HasType rows c (tree.name m v) t → ⊥
        no_type t (x, found, type) = not_nothing x (w.one_old.variable (scope_of c) v.text (one x) nothing found free)

        same_class : (j : ClassKey) → IsClassName rows c (tree.name m v) j → k ≡ j
        same_class j other = class_one (λ m b. (tells m b).from) rows c w.one_old w.old (tree.name m v) k j here other

        there : IsClassName (rows_in R) d NewName (class_in R k)
        there = subst (λ (x : Choice). IsClassName (rows_in R) d (variable_to m (front_of x) None (word_to x v)) (class_in R k)) (sym is)
            (class_in_front (λ m b. (tells m b).from) (rows_in R) w.images.are w.one_new d w.new w.rebind w.fronts m v.mark v.text (class_in R k) words None (λ front z. variable_to m front None z)
            refl (λ o. refl) taken.place f taken.stands
            (λ asked binds. subst (λ (y : tree.Exp A). IsClassName (rows_in R) d y (class_in R k)) (sym (with_name (λ front z. variable_to m front None z) v.text (class_in R k).name v.mark))
            (subst (λ (s : Scope). FindsLeft (rows_in R) s (class_in R k).name (one (class_decl (class_in R k)))) (sym (w.stand.scope)) (first_named k words stands binds.0)))
            (to_scope tells rows R c d w (behind_words words (reference ref.ClassInFront (class_in R k).name None [])) (class_decl (class_in R k)) f taken.binds))

        only : (at : ℕ) (x : Decl) (b : ℕ) → BindsItself (λ m b. (tells m b).from) rows c left b (tree.name m v) at x → class_decl k ≡ x
        only at x b (q, (place, (sort, inl (found, some)))) = absurd (not_nothing x (w.one_old.variable (scope_of c) v.text (one x) nothing found free))
        only at x b (q, (place, (sort, inr (nothing_there, found)))) = one_decl (class_decl k) x (w.one_old.type_named (scope_of c) v.text (one (class_decl k)) (one x) finds found)

        own : (b i : ℕ) (at : ℕ) (x : Decl) → BindsItself (λ m b. (tells m b).from) rows c left b (tree.name m v) at x → IsBoundToImage (λ m b. (tells m b).from) rows R c d left i NewName x
        own b i at x here2 = (class_decl (class_in R k), ap (image_at R.seen c) (sym (only at x b here2)), class_bound i NewName (class_in R k) there)

        goes : (j : ClassKey) → k ≡ j → IsClassName (rows_in R) d NewName (class_in R j)
        goes j e = subst (λ (x : ClassKey). IsClassName (rows_in R) d NewName (class_in R x)) e there
    class_kept left (k, free, finds, words, stands, inr (none_binds, (f, found, is))) = absurd (lost_some _ (sym (ap losses_of is) ∙ none))
    class_kept value spells = absurd spells
    class_kept statement spells = absurd spells

  -- ---- behind a dot

  -- what stands in front is kept, where it isn't dropped
  abbrev Holds : Choice → tree.Exp A → tree.Exp A → Type 0
  Holds h e x = drops_operand (front_of h) ≡ false → Becomes (λ m b. (tells m b).from) rows R c d e x

  -- a name alone, or a cast, drops nothing
  renamed_holds : (old new : List ℕ) → drops_operand (front_of (renamed old new)) ≡ false
  renamed_holds old new = ap drops_operand (renamed_front old new)

  value_holds : (old new : List ℕ) (k : ClassKey) (place : ℕ) (f : Form) → slice_get (Asked ∷ OnCastOperand ∷ []) place ≡ Some f → drops_operand (front_of (spelled old new k f)) ≡ false
  value_holds old new k place f there = two_forms (λ f. drops_operand (front_of (spelled old new k f)) ≡ false) OnCastOperand (renamed_holds old new) refl place f there

  module _ (r : Role) (m : A) (e x : tree.Exp A) (v : tree.Word A) (at : ℕ) (h : Choice) (none : losses_of h ≡ []) (holds : Holds h e x) where
    abbrev NewField : tree.Exp A
    NewField = variable_on m (operand_to m (front_of h) (Some x)) (word_to h v)

    field_on_kept : (k : FieldKey) → FieldFinds rows c e v.text (one (field_decl k)) → ((j : ClassKey) → IsClassName rows c e j → ⊥) → (o : ClassKey) → HasType rows c e (class o)
        → (place : ℕ) (f : Form) → slice_get (Asked ∷ OnCastOperand ∷ []) place ≡ Some f
        → Binds (rows_in R) (scope_of d) (reference ref.FieldOn (field_in R k).name (on_type (R.type_now c e (class o))) []) (field_decl (field_in R k)) f
        → h ≡ spelled v.text (field_in R k).name (field_in R k).class f → To (field_decl (field_in R k)) NewField
    field_on_kept k finds not o type place f there binds is =
        let part = holds (ap (λ (y : Choice). drops_operand (front_of y)) is ∙ value_holds v.text (field_in R k).name (field_in R k).class place f there) in
        let of = field_value (rows_in R) (scope_of d) (field_in R k).name (R.type_now c e (class o)) (field_decl (field_in R k)) place f there binds in
        subst (λ (y : Choice). To (field_decl (field_in R k)) (variable_on m (operand_to m (front_of y) (Some x)) (word_to y v))) (sym is)
        (field_on_value (λ m b. (tells m b).from) (rows_in R) w.images.are w.one_new d w.new w.rebind w.fronts m v.mark v.text (field_in R k) x of.0
        (subst (λ (s : Ty). HasType (rows_in R) d x s) of.1 (part.typed (class o) type)) (part.apart not) place f there
        (subst (λ (s : Ty). Binds (rows_in R) (scope_of d) (reference ref.FieldOn (field_in R k).name (on_type s) []) (field_decl (field_in R k)) f) of.1 binds))

    -- the value stays in front
    field_on_stays : (k : FieldKey) (place : ℕ) (f : Form) → slice_get (Asked ∷ OnCastOperand ∷ []) place ≡ Some f → h ≡ spelled v.text (field_in R k).name (field_in R k).class f → WasOnClass rows c e NewField
    field_on_stays k place f there is = subst (λ (y : Choice). WasOnClass rows c e (variable_on m (operand_to m (front_of y) (Some x)) (word_to y v))) (sym is)
        (two_forms (λ f. WasOnClass rows c e (variable_on m (operand_to m (front_of (spelled v.text (field_in R k).name (field_in R k).class f)) (Some x)) (word_to (spelled v.text (field_in R k).name (field_in R k).class f) v))) OnCastOperand
        (subst (λ (y : tree.Exp A). WasOnClass rows c e y) (sym (with_name (λ front z. variable_on m (operand_to m front (Some x)) z) v.text (field_in R k).name v.mark)) tt) tt place f there)

    field_through_kept : (k : FieldKey) (o : ClassKey) → IsClassName rows c e o → (words : InFront) (place : ℕ) (f : Form) → slice_get (Asked ∷ OnClass ∷ OnOuterClass ∷ []) place ≡ Some f
        → Binds (rows_in R) (scope_of d) (behind_words words (reference ref.ThroughClass (field_in R k).name (operand_of (class_in R o)) [])) (field_decl (field_in R k)) f
        → h ≡ spelled v.text (field_in R k).name (field_in R k).class f → To (field_decl (field_in R k)) NewField
    field_through_kept k o named words place f there binds is =
        subst (λ (y : Choice). To (field_decl (field_in R k)) (variable_on m (operand_to m (front_of y) (Some x)) (word_to y v))) (sym is)
        (field_through (λ m b. (tells m b).from) (rows_in R) w.images.are w.one_new d w.new w.rebind w.fronts m v.mark v.text (field_in R k) x (class_in R o) words place f there
        (λ asked. (holds (ap (λ (y : Choice). drops_operand (front_of y)) (is ∙ ap (spelled v.text (field_in R k).name (field_in R k).class) asked) ∙ renamed_holds v.text (field_in R k).name)).named o named) binds)

    pub field_kept : FieldChoice (λ m b. (tells m b).from) rows R c at e v.text h → Keeps r (tree.field m e v) NewField
    field_kept (k, finds, inl (o, named, (words, stands, inl (f, taken, is)))) = kept_field r m e v NewField (field_decl k) (field_decl (field_in R k)) refl (was_on_class e o named NewField) finds (λ i e. cc) (λ i e. cc)
        (field_through_kept k o named words taken.place f taken.stands
        (to_scope tells rows R c d w (behind_words words (reference ref.ThroughClass (field_in R k).name (operand_of (class_in R o)) [])) (field_decl (field_in R k)) f taken.binds) is)
    field_kept (k, finds, inl (o, named, (words, stands, inr (none_binds, (f, found, is))))) = absurd (lost_some _ (sym (ap losses_of is) ∙ none))
    field_kept (k, finds, inr (not, (o, type, inl (f, taken, is)))) = kept_field r m e v NewField (field_decl k) (field_decl (field_in R k)) refl (field_on_stays k taken.place f taken.stands is) finds (λ i e. cc) (λ i e. cc)
        (field_on_kept k finds not o type taken.place f taken.stands
        (to_scope tells rows R c d w (reference ref.FieldOn (field_in R k).name (on_type (R.type_now c e (class o))) []) (field_decl (field_in R k)) f taken.binds) is)
    field_kept (k, finds, inr (not, (o, type, inr (none_binds, (f, found, is))))) = absurd (lost_some _ (sym (ap losses_of is) ∙ none))

    -- a member class in front of a further dot
    pub member_class_kept : (o : Role) → MemberClassChoice (λ m b. (tells m b).from) rows R c o at e v.text h → Keeps o (tree.field m e v) NewField
    unfolding HasType IsClassName
    member_class_kept left (o, k, owner, free, finds, front, before, words, stands, inl (f, taken, is)) = record {
      becomes = record { typed = λ t type. absurd (no_type t type); named = λ j other. goes j (class_one (λ m b. (tells m b).from) rows c w.one_old w.old (tree.field m e v) k j here other); apart = λ not. absurd (not k here) };
      bound = λ b i. (own b i, was_on_class e o owner NewField);
    }
      where
        here : IsClassName rows c (tree.field m e v) k
        here = (o, owner, inr (free, finds))

        on_class : (x : Decl) → FieldFinds rows c e v.text (one x) → ⊥
        on_class x (inl (i, inl other, found)) = not_nothing x (w.one_old.field_in (scope_of c) o v.text (one x) nothing
            (subst (λ (z : ClassKey). FindsFieldIn rows (scope_of c) z v.text (one x)) (class_one (λ m b. (tells m b).from) rows c w.one_old w.old e i o other owner) found) free)
        on_class x (inl (i, inr (not, type), found)) = not o owner
        on_class x (inr (not, is)) = not_nothing x is

        no_type : (t : Ty) → HasType rows c (tree.field m e v) t → ⊥
        no_type t (x, found, type) = on_class x found

        there : IsClassName (rows_in R) d NewField (class_in R k)
        there = subst (λ (y : Choice). IsClassName (rows_in R) d (variable_on m (operand_to m (front_of y) (Some x)) (word_to y v)) (class_in R k)) (sym is)
            (class_in_front (λ m b. (tells m b).from) (rows_in R) w.images.are w.one_new d w.new w.rebind w.fronts m v.mark v.text (class_in R k) words (operand_of (class_in R o)) (λ front z. variable_on m (operand_to m front (Some x)) z)
            refl (λ o. refl) taken.place f taken.stands
            (λ asked binds.
            let part = holds (ap (λ (y : Choice). drops_operand (front_of y)) (is ∙ ap (spelled v.text (class_in R k).name (class_in R k)) asked) ∙ renamed_holds v.text (class_in R k).name) in
            subst (λ (y : tree.Exp A). IsClassName (rows_in R) d y (class_in R k)) (sym (with_name (λ front z. variable_on m (operand_to m front (Some x)) z) v.text (class_in R k).name v.mark))
            (class_in R o, part.named o owner, inr binds.1))
            (to_scope tells rows R c d w (behind_words words (reference ref.ClassInFront (class_in R k).name (operand_of (class_in R o)) [])) (class_decl (class_in R k)) f taken.binds))

        only : (at : ℕ) (x : Decl) (b : ℕ) → BindsItself (λ m b. (tells m b).from) rows c left b (tree.field m e v) at x → class_decl k ≡ x
        only at x b (q, (place, inl (i, other, sort, inl (found, some)))) = absurd (not_nothing x (w.one_old.field_in (scope_of c) o v.text (one x) nothing
            (subst (λ (z : ClassKey). FindsFieldIn rows (scope_of c) z v.text (one x)) (class_one (λ m b. (tells m b).from) rows c w.one_old w.old e i o other owner) found) free))
        only at x b (q, (place, inl (i, other, sort, inr (nothing_there, found)))) = one_decl (class_decl k) x (w.one_old.type_of (scope_of c) o v.text (one (class_decl k)) (one x) finds
            (subst (λ (z : ClassKey). FindsTypeOf rows (scope_of c) z v.text (one x)) (class_one (λ m b. (tells m b).from) rows c w.one_old w.old e i o other owner) found))
        only at x b (q, (place, inr (not, sort, found))) = absurd (not o owner)

        own : (b i : ℕ) (at : ℕ) (z : Decl) → BindsItself (λ m b. (tells m b).from) rows c left b (tree.field m e v) at z → IsBoundToImage (λ m b. (tells m b).from) rows R c d left i NewField z
        own b i at z here2 = (class_decl (class_in R k), ap (image_at R.seen c) (sym (only at z b here2)), class_bound i NewField (class_in R k) there)

        goes : (j : ClassKey) → k ≡ j → IsClassName (rows_in R) d NewField (class_in R j)
        goes j e = subst (λ (z : ClassKey). IsClassName (rows_in R) d NewField (class_in R z)) e there
    member_class_kept left (o, k, owner, free, finds, front, before, words, stands, inr (none_binds, (f, found, is))) = absurd (lost_some _ (sym (ap losses_of is) ∙ none))
    member_class_kept value spells = absurd spells
    member_class_kept statement spells = absurd spells

  -- ---- by `super`

  module _ (r : Role) (m : A) (v : tree.Word A) (at : ℕ) (h : Choice) (none : losses_of h ≡ []) where
    pub super_field_kept : SuperFieldChoice (λ m b. (tells m b).from) rows R c at v.text h → Keeps r (tree.super_field m v) (super_to m (front_of h) (word_to h v))
    unfolding IsClassName
    super_field_kept (k, finds, inl (f, taken, is)) = kept_super r m v (super_to m (front_of h) (word_to h v)) (field_decl k) (field_decl (field_in R k)) refl finds (λ i e. cc) (λ i e. cc)
        (subst (λ (x : Choice). To (field_decl (field_in R k)) (super_to m (front_of x) (word_to x v))) (sym is)
        (field_by_super (λ m b. (tells m b).from) (rows_in R) w.images.are w.one_new d w.new w.rebind w.fronts m v.mark v.text (field_in R k) taken.place f taken.stands
        (to_scope tells rows R c d w (reference ref.FieldSuper (field_in R k).name None []) (field_decl (field_in R k)) f taken.binds)))
    super_field_kept (k, finds, inr (none_binds, (f, found, is))) = absurd (lost_some _ (sym (ap losses_of is) ∙ none))

  -- ---- calls

  -- the arguments' types have gone to their images
  abbrev ArgsTo : tree.Exps A → tree.Exps A → Type 0
  ArgsTo args es = (ts : List Ty) → HaveTypes rows c args ts → HaveTypes (rows_in R) d es (R.types_now c args ts)

  module _ (r : Role) (m : A) (v : tree.Word A) (args es : tree.Exps A) (args_to : ArgsTo args es) (at : ℕ) (h : Choice) (none : losses_of h ≡ []) where
    pub simple_call_kept : SimpleCallChoice (λ m b. (tells m b).from) rows R c at v.text args h
        → Keeps r (tree.call m tree.no_target v args) (tree.call m (target_of (operand_to m (front_of h) None)) (word_to h v) es)
    unfolding IsClassName
    simple_call_kept (k, ts, finds, types, inl (f, taken, is)) = kept_call r m tree.no_target v args (tree.call m (target_of (operand_to m (front_of h) None)) (word_to h v) es) (method_decl k) (method_decl (method_in R k)) refl finds (λ i e. cc) (λ i e. cc)
        (subst (λ (x : Choice). To (method_decl (method_in R k)) (tree.call m (target_of (operand_to m (front_of x) None)) (word_to x v) es)) (sym is)
        (call_by_name (λ m b. (tells m b).from) (rows_in R) w.images.are w.one_new d w.new w.rebind w.fronts m v.mark v.text (method_in R k) es (R.types_now c args ts) (args_to ts types) taken.place f taken.stands
        (to_scope tells rows R c d w (reference ref.MethodSimple (method_in R k).name None (R.types_now c args ts)) (method_decl (method_in R k)) f taken.binds)))
    simple_call_kept (k, ts, finds, types, inr (none_binds, (f, found, is))) = absurd (lost_some _ (sym (ap losses_of is) ∙ none))

    pub super_call_kept : SuperCallChoice (λ m b. (tells m b).from) rows R c at v.text args h → Keeps r (tree.super_call m v args) (tree.super_call m (word_to h v) es)
    unfolding IsClassName
    super_call_kept (k, ts, finds, types, inl (f, taken, is)) = kept_super_call r m v args (tree.super_call m (word_to h v) es) (method_decl k) (method_decl (method_in R k)) refl finds (λ i e. cc) (λ i e. cc)
        (subst (λ (x : Choice). To (method_decl (method_in R k)) (tree.super_call m (word_to x v) es)) (sym is)
        (one_form (λ f. Binds (rows_in R) (scope_of d) (reference ref.AsAsked (method_in R k).name None (R.types_now c args ts)) (method_decl (method_in R k)) f
        → To (method_decl (method_in R k)) (tree.super_call m (word_to (spelled v.text (method_in R k).name (method_in R k).class f) v) es))
        (λ binds. call_by_super (λ m b. (tells m b).from) (rows_in R) w.images.are w.one_new d w.new w.rebind w.fronts m v.mark v.text (method_in R k) es (R.types_now c args ts) (args_to ts types) binds)
        taken.place f taken.stands
        (to_scope tells rows R c d w (reference ref.AsAsked (method_in R k).name None (R.types_now c args ts)) (method_decl (method_in R k)) f taken.binds)))
    super_call_kept (k, ts, finds, types, inr (none_binds, (f, found, is))) = absurd (lost_some _ (sym (ap losses_of is) ∙ none))

    module _ (e x : tree.Exp A) (holds : Holds h e x) where
      abbrev NewCall : tree.Exp A
      NewCall = tree.call m (target_of (operand_to m (front_of h) (Some x))) (word_to h v) es

      pub call_kept : CallChoice (λ m b. (tells m b).from) rows R c at e v.text args h → Keeps r (tree.call m (tree.on e) v args) NewCall
      unfolding IsClassName
      call_kept (k, ts, finds, types, inl (o, named, (words, stands, inl (f, taken, is)))) = kept_call r m (tree.on e) v args NewCall (method_decl k) (method_decl (method_in R k)) refl finds (λ i e. cc) (λ i e. cc)
          (subst (λ (y : Choice). To (method_decl (method_in R k)) (tree.call m (target_of (operand_to m (front_of y) (Some x))) (word_to y v) es)) (sym is)
          (call_through_class (λ m b. (tells m b).from) (rows_in R) w.images.are w.one_new d w.new w.rebind w.fronts m v.mark v.text (method_in R k) es (R.types_now c args ts) (args_to ts types)
          x (class_in R o) words taken.place f taken.stands
          (λ asked. (holds (ap (λ (y : Choice). drops_operand (front_of y)) (is ∙ ap (spelled v.text (method_in R k).name (method_in R k).class) asked) ∙ renamed_holds v.text (method_in R k).name)).named o named)
          (to_scope tells rows R c d w (behind_words words (reference ref.ThroughClass (method_in R k).name (operand_of (class_in R o)) (R.types_now c args ts))) (method_decl (method_in R k)) f taken.binds)))
      call_kept (k, ts, finds, types, inl (o, named, (words, stands, inr (none_binds, (f, found, is))))) = absurd (lost_some _ (sym (ap losses_of is) ∙ none))
      call_kept (k, ts, finds, types, inr (not, (o, type, inl (f, taken, is)))) =
          let part = holds (ap (λ (y : Choice). drops_operand (front_of y)) is ∙ value_holds v.text (method_in R k).name (method_in R k).class taken.place f taken.stands) in
          let binds = to_scope tells rows R c d w (reference ref.MethodOn (method_in R k).name (on_type (R.type_now c e (class o))) (R.types_now c args ts)) (method_decl (method_in R k)) f taken.binds in
          let of = call_value (rows_in R) (scope_of d) (method_in R k).name (R.type_now c e (class o)) (R.types_now c args ts) (method_decl (method_in R k)) taken.place f taken.stands binds in
          kept_call r m (tree.on e) v args NewCall (method_decl k) (method_decl (method_in R k)) refl finds (λ i e. cc) (λ i e. cc)
          (subst (λ (y : Choice). To (method_decl (method_in R k)) (tree.call m (target_of (operand_to m (front_of y) (Some x))) (word_to y v) es)) (sym is)
          (call_on_value (λ m b. (tells m b).from) (rows_in R) w.images.are w.one_new d w.new w.rebind w.fronts m v.mark v.text (method_in R k) es (R.types_now c args ts) (args_to ts types)
          x of.0 (subst (λ (s : Ty). HasType (rows_in R) d x s) of.1 (part.typed (class o) type)) (part.apart not) taken.place f taken.stands
          (subst (λ (s : Ty). Binds (rows_in R) (scope_of d) (reference ref.MethodOn (method_in R k).name (on_type s) (R.types_now c args ts)) (method_decl (method_in R k)) f) of.1 binds)))
      call_kept (k, ts, finds, types, inr (not, (o, type, inr (none_binds, (f, found, is))))) = absurd (lost_some _ (sym (ap losses_of is) ∙ none))

  -- ---- creations

  module _ (m : A) (t u : tree.TypeName A) (args es : tree.Exps A) (type_goes : (k : Ty) → WritesType rows (scope_of c) t k → WritesType (rows_in R) (scope_of d) u (type_in R k))
      (args_to : ArgsTo args es) (base : ℕ) (h : Choice) (none : losses_of h ≡ []) where
    -- the constructor that the new creation finds
    new_ctor : (k : ClassKey) (q : CtorKey) (ts : List Ty) → WritesType rows (scope_of c) t (class k) → HaveTypes rows c args ts
        → FindsCtorOf (rows_in R) (scope_of d) (class_in R k) (R.types_now c args ts) (one (constructor_decl (ctor_in R q)))
        → CreationFinds (rows_in R) d u es (one (constructor_decl (ctor_in R q)))
    new_ctor k q ts written types finds = inl (class_in R k, type_goes (class k) written, inl (R.types_now c args ts, args_to ts types, finds))

    creates : (r : Role) (k : ClassKey) (q : CtorKey) (ts : List Ty) → WritesType rows (scope_of c) t (class k) → CreationFinds rows c t args (one (constructor_decl q)) → HaveTypes rows c args ts
        → FindsCtorOf (rows_in R) (scope_of d) (class_in R k) (R.types_now c args ts) (one (constructor_decl (ctor_in R q))) → Keeps r (tree.create m t args) (tree.create m u es)
    unfolding HasType IsClassName
    creates r k q ts written finds types found = record {
      becomes = record {
        typed = λ ty h. subst (λ (s : Ty). HasType (rows_in R) d (tree.create m u es) s) (sym (w.types.own c (tree.create m t args) ty tt h)) (made ty h);
        named = λ j named. named;
        apart = λ _ j named. named;
      };
      bound = λ b i x other. (
        constructor_decl (ctor_in R q),
        ap (image_at R.seen c) (sym (creation_one (constructor_decl q) x finds other)),
        (_, (method, inl (refl, refl, new_ctor k q ts written types found))),
      );
    }
      where
        made : (ty : Ty) → HasType rows c (tree.create m t args) ty → HasType (rows_in R) d (tree.create m u es) (type_in R ty)
        made ty (j, x, class_is, has, is) = (
          class_in R k,
          constructor_decl (ctor_in R q),
          type_goes (class k) written,
          inl (R.types_now c args ts, args_to ts types, found),
          ap (type_in R) is ∙ ap (λ (z : ClassKey). class (class_in R z)) (writes_one tells rows R c d w t j k class_is written),
        )

        creation_one : (x y : Decl) → CreationFinds rows c t args (one x) → CreationFinds rows c t args (one y) → x ≡ y
        creation_one x y a b = one_decl x y (sym ((w.old.creations t args (one x)).1 a) ∙ (w.old.creations t args (one y)).1 b)

    pub creation_kept : (r : Role) → CreationChoice (λ m b. (tells m b).from) rows R c base (tree.create m t args) h → Keeps r (tree.create m t args) (tree.create m u es)
    creation_kept r (k, q, ts, written, finds, types, inl (f, taken, is)) = creates r k q ts written finds types
        (one_form (λ f. Binds (rows_in R) (scope_of d) (reference ref.AsAsked [] (operand_of (class_in R k)) (R.types_now c args ts)) (constructor_decl (ctor_in R q)) f
        → FindsCtorOf (rows_in R) (scope_of d) (class_in R k) (R.types_now c args ts) (one (constructor_decl (ctor_in R q)))) (λ binds. binds)
        taken.place f taken.stands
        (to_scope tells rows R c d w (reference ref.AsAsked [] (operand_of (class_in R k)) (R.types_now c args ts)) (constructor_decl (ctor_in R q)) f taken.binds))
    creation_kept r (k, q, ts, written, finds, types, inr (none_binds, (f, found, is))) = absurd (lost_some _ (sym (ap losses_of is) ∙ none))
