-- Variables: the code of a respelled one is the image of the old code.
use Rattle.std.proofs.Common.{◌≡◌, ◌<◌, ℕ, List, [], ◌∷◌, Option, Some, None, false, refl, sym, ap, subst, ◌∙◌, inl, inr}
use Rattle.std.specs.Prelude.{slice_get, ◌⊎◌}
use Rattle.jr_text.specs.declared.spans.Span.{Span}
use Rattle.jr_ast.specs.Tree as tree
use Rattle.jr_runs.specs.Core as core
use Rattle.jr_runs.specs.Rows as core_rows
use Rattle.jr_runs.specs.Keys.{At}
use Rattle.jr_runs.specs.KeyMaps.{KeyMap}
use Rattle.jr_table.specs.Keys.{ClassKey, FieldKey, Ty, int, boolean, void, null, class}
use Rattle.jr_table.specs.Decls.{Decl, field_decl, local_decl, LocalKey}
use Rattle.jr_table.specs.Rows.{Row}
use Rattle.jr_table.specs.Entries.{class_of}
use Rattle.jr_table.specs.Found.{Found, one, nothing}
use Rattle.jr_table.specs.Lookup.{FindsVariable, FindsFieldIn}
use Rattle.jr_table.specs.Context.{Context, scope_of, NamesClass, IsInstanceDecl}
use Rattle.jr_table.specs.Keyed.{IsSubclass}
use Rattle.jr_table.specs.Binding.{HasType, IsClassName, FieldFinds, SuperFieldFinds, Role, value, left, statement, word_at}
use Rattle.jr_spell.specs.declared.references.RefForm.{RefForm}
use Rattle.jr_spell.specs.declared.references.RefForm.TheVariants as ref
use Rattle.jr_spell.specs.declared.spellings.Form.{Form}
use Rattle.jr_spell.specs.declared.spellings.Form.TheVariants.{Asked, OnCastOperand, OnClass, OnOuterClass}
use Rattle.jr_spell.specs.References.{Reference, class_of_type}
use Rattle.jr_spell.specs.Binds.{Binds}
use Rattle.jr_rewrite.specs.Respellings.{Choice, front_of}
use Rattle.jr_rewrite.specs.Rewritten.{word_to, operand_to, variable_on, variable_to, super_to, drops_operand, losses_of}
use Rattle.jr_images.specs.Regions.{image_at, Region}
use Rattle.jr_images.specs.Words.{InFront}
use Rattle.jr_images.specs.Spelling.{spelled, renamed, reference, behind_words, operand_of, on_type, OfImage, lost, TakenChoice, LocalChoice, OwnFieldChoice, ClassChoice, FieldChoice, MemberClassChoice, SuperFieldChoice}
use Rattle.jr_images.proofs.Chosen.{lost_some, renamed_front}
use Rattle.jr_images.proofs.Forms.{one_form, two_forms, three_forms, with_name}
use Rattle.jr_images.proofs.OneBound.{one_decl, not_nothing, class_one}
use Rattle.jr_code.proofs.OneFound.{decided_one}
use Rattle.jr_images.proofs.Rebound.{simple_field, field_on_value, field_by_super, field_through}
use Rattle.jr_kept_references.proofs.RegionTypes.{to_scope}
use Rattle.jr_kept_references.specs.InRegions.{rows_in, class_in, field_in, name_in, scope_in}
use Rattle.jr_kept_references.specs.KeptInRegions.{Becomes}
use Rattle.jr_kept_references.proofs.RegionWorlds.{RegionWorld}
use Rattle.jr_code.specs.RunKeys.{RunKeys, Place}
use Rattle.jr_code.specs.Coded.{Code, TargetCode, IsOwn, FieldCode, VariableCode, place, NameTarget, SuperTarget, ExpCode, TargetOf}
use Rattle.jr_image_code.specs.CodeRelations.{Relations}
use Rattle.jr_image_code.specs.CodedSpots.{GoesByImages, LocalsStay, IsOnThis, ExpsCoded, TargetsCoded}
use Rattle.jr_image_code.proofs.References.{To, name_new, dotted_new, super_new, exps_by, field_image}
use Rattle.jr_image_code.proofs.Fronts.{Each, IsThis, IsOf, OwnForms, own_forms, super_forms, DottedForms, value_front, class_front}

-- a variable, as it may be assigned
abbrev pub IsVariable : {A : Type 0} → tree.Exp A → Type 0
IsVariable (tree.name m v) = Unit {0}
IsVariable (tree.field m e v) = Unit {0}
IsVariable (tree.super_field m v) = Unit {0}
IsVariable _ = ⊥

-- the code of a variable reads it
pub reads : {A : Type 0} (begins : A → ℕ → ℕ) (rows : List Row) (c : Context) (i : ℕ) (y : tree.Exp A) → IsVariable y → (z : Code) → ExpCode begins rows c i y z
    → (p : At RunKeys) × (u : TargetCode) × TargetOf begins rows c i y u × (z ≡ core.read p u)
unfolding ExpCode TargetOf
reads begins rows c i (tree.name m v) ok z (u, at, is) = (_, u, at, is)
reads begins rows c i (tree.field m e v) ok z (u, at, is) = (_, u, at, is)
reads begins rows c i (tree.super_field m v) ok z (u, at, is) = (_, u, at, is)
reads begins rows c i _ ok z h = absurd ok

module _ {A : Type 0} (tells : A → ℕ → Span) (rows : List Row) (R : Region A) (c d : Context) (w : RegionWorld A rows R c d)
    (r : KeyMap RunKeys) (D : core_rows.Rows RunKeys) (X : Relations) (by_images : GoesByImages rows R r D X) (locals : LocalsStay rows R X c) where
  abbrev at_mark : A → ℕ → ℕ
  at_mark m b = (tells m b).from

  abbrev pub ExpGoal : (b : ℕ) → tree.Exp A → tree.Exp A → Type 0
  ExpGoal b e y = ExpsCoded (λ m b. (tells m b).from) rows R X c d b e y

  abbrev pub TargetGoal : (b : ℕ) → tree.Exp A → tree.Exp A → Type 0
  TargetGoal b e y = TargetsCoded (λ m b. (tells m b).from) rows R X c d b e y

  -- as a value it is read
  pub value_goal : (b : ℕ) (e y : tree.Exp A) → IsVariable e → IsVariable y → TargetGoal b e y → ExpGoal b e y
  value_goal b e y ok fine goal i x z old new =
      let a = reads (λ m b. (tells m b).from) rows c b e ok x old in
      let n = reads (λ m b. (tells m b).from) (rows_in R) d i y fine z new in
      exps_by tells rows R c d w r D X by_images x (core.read a.0 a.1) z (core.read n.0 n.1) a.3 n.3 (by_images.exps.of_read a.0 n.0 a.1 n.1 (goal i a.1 n.1 a.2 n.2))

  pub own_pair : X.own → (x z : Code) → IsOwn x → IsOwn z → X.exp x z
  own_pair own x z a b = exps_by tells rows R c d w r D X by_images x (core.this None) z (core.this None) a b (by_images.exps.of_this own None None)

  pub this_pair : X.own → (x z : Code) → IsOwn x → (p : Place) × (z ≡ core.this (Some p)) → X.exp x z
  this_pair own x z a (p, b) = exps_by tells rows R c d w r D X by_images x (core.this None) z (core.this (Some p)) a b (by_images.exps.of_this own None (Some p))

  -- what is static has no receiver
  pub static_alone : (New : Code → Type 0) (k : FieldKey) (q : Place) (u : TargetCode) → FieldCode (rows_in R) New (field_decl k) q u → (IsInstanceDecl (rows_in R) (field_decl k) → ⊥)
      → FieldCode (rows_in R) (λ z. ⊥) (field_decl k) q u
  static_alone New k q u (inl h) never = inl h
  static_alone New k q u (inr (lacks, h)) never = absurd (never lacks)

  -- ---- a field of `this`

  module _ (k : FieldKey) (own : IsInstanceDecl rows (field_decl k) → X.own) (p : Place) (t : TargetCode) (old : FieldCode rows IsOwn (field_decl k) p t) (i : ℕ) (u : TargetCode) where
    own_name : (m : A) (v : tree.Word A) → To tells rows R c d w (field_decl (field_in R k)) (tree.name m v) → TargetOf (λ m b. (tells m b).from) (rows_in R) d i (tree.name m v) u → X.target t u
    unfolding TargetOf
    own_name m v to new = field_image tells rows R c d w r D X by_images k IsOwn IsOwn p _ t u old (name_new tells rows R c d w (field_decl (field_in R k)) m v to i u new) (λ has. own_pair (own has))

    own_super : (m : A) (v : tree.Word A) → To tells rows R c d w (field_decl (field_in R k)) (tree.super_field m v) → TargetOf (λ m b. (tells m b).from) (rows_in R) d i (tree.super_field m v) u → X.target t u
    unfolding TargetOf
    own_super m v to new = field_image tells rows R c d w r D X by_images k IsOwn IsOwn p _ t u old (super_new tells rows R c d w (field_decl (field_in R k)) m v to i u new) (λ has. own_pair (own has))

    own_this : (m : A) (e : tree.Exp A) (v : tree.Word A) → Each tells rows R c d w (IsThis tells rows R c d w) e → To tells rows R c d w (field_decl (field_in R k)) (tree.field m e v)
        → TargetOf (λ m b. (tells m b).from) (rows_in R) d i (tree.field m e v) u → X.target t u
    unfolding TargetOf
    own_this m e v each to new = field_image tells rows R c d w r D X by_images k IsOwn _ p _ t u old (dotted_new tells rows R c d w (field_decl (field_in R k)) m e v to _ i u new) (λ has x z a b. this_pair (own has) x z a (each _ z b))

    own_static : (m : A) (e : tree.Exp A) (v : tree.Word A) → (IsInstanceDecl (rows_in R) (field_decl (field_in R k)) → ⊥) → To tells rows R c d w (field_decl (field_in R k)) (tree.field m e v)
        → TargetOf (λ m b. (tells m b).from) (rows_in R) d i (tree.field m e v) u → X.target t u
    unfolding TargetOf
    own_static m e v never to new = field_image tells rows R c d w r D X by_images k IsOwn (λ z. ⊥) p _ t u old (static_alone _ (field_in R k) _ u (dotted_new tells rows R c d w (field_decl (field_in R k)) m e v to _ i u new) never) (λ has x z a b. absurd b)

    own_target : (y : tree.Exp A) → OwnForms tells rows R c d w (field_in R k) y → To tells rows R c d w (field_decl (field_in R k)) y → TargetOf (λ m b. (tells m b).from) (rows_in R) d i y u → X.target t u
    own_target y (inl (m, v, is)) to new = own_name m v (subst (λ (z : tree.Exp A). To tells rows R c d w (field_decl (field_in R k)) z) is to) (subst (λ (z : tree.Exp A). TargetOf (λ m b. (tells m b).from) (rows_in R) d i z u) is new)
    own_target y (inr (inl (m, v, is))) to new = own_super m v (subst (λ (z : tree.Exp A). To tells rows R c d w (field_decl (field_in R k)) z) is to) (subst (λ (z : tree.Exp A). TargetOf (λ m b. (tells m b).from) (rows_in R) d i z u) is new)
    own_target y (inr (inr (inl (m, e, v, is, each)))) to new =
        own_this m e v each (subst (λ (z : tree.Exp A). To tells rows R c d w (field_decl (field_in R k)) z) is to) (subst (λ (z : tree.Exp A). TargetOf (λ m b. (tells m b).from) (rows_in R) d i z u) is new)
    own_target y (inr (inr (inr (m, e, v, is, never)))) to new =
        own_static m e v never (subst (λ (z : tree.Exp A). To tells rows R c d w (field_decl (field_in R k)) z) is to) (subst (λ (z : tree.Exp A). TargetOf (λ m b. (tells m b).from) (rows_in R) d i z u) is new)

  own_shape : (k : FieldKey) (y : tree.Exp A) → OwnForms tells rows R c d w k y → IsVariable y
  own_shape k y (inl (m, v, is)) = subst (λ (z : tree.Exp A). IsVariable z) (sym is) tt
  own_shape k y (inr (inl (m, v, is))) = subst (λ (z : tree.Exp A). IsVariable z) (sym is) tt
  own_shape k y (inr (inr (inl (m, e, v, is, each)))) = subst (λ (z : tree.Exp A). IsVariable z) (sym is) tt
  own_shape k y (inr (inr (inr (m, e, v, is, never)))) = subst (λ (z : tree.Exp A). IsVariable z) (sym is) tt

  -- both: as a value, and as a target
  abbrev pub Goals : (b : ℕ) → tree.Exp A → tree.Exp A → Type 0
  Goals b e y = ExpGoal b e y × TargetGoal b e y

  goals : (b : ℕ) (e y : tree.Exp A) → IsVariable e → IsVariable y → TargetGoal b e y → Goals b e y
  goals b e y ok fine goal = (value_goal b e y ok fine goal, goal)

  -- ---- simple names

  -- the old code of a field's simple name
  pub old_name : (m : A) (v : tree.Word A) (k : FieldKey) → FindsVariable rows (scope_of c) v.text (one (field_decl k)) → (b : ℕ) (t : TargetCode) → NameTarget (λ m b. (tells m b).from) rows c b m v t
      → FieldCode rows IsOwn (field_decl k) (place (λ m b. (tells m b).from) rows c (word_at (λ m b. (tells m b).from) m b v)) t
  old_name m v k finds b t (x, found, code) = subst (λ (z : Decl). VariableCode rows z (place (λ m b. (tells m b).from) rows c (word_at (λ m b. (tells m b).from) m b v)) t)
      (one_decl x (field_decl k) (w.one_old.variable (scope_of c) v.text (one x) (one (field_decl k)) found finds)) code

  module _ (base : ℕ) (m : A) (v : tree.Word A) (at : ℕ) (h : Choice) (none : losses_of h ≡ []) where
    abbrev NewName : Choice → tree.Exp A
    NewName x = variable_to m (front_of x) None (word_to x v)

    local_named : (k j : LocalKey) (new : List ℕ) → R.seen.local_to c k ≡ Some j → FindsVariable rows (scope_of c) v.text (one (local_decl k)) → FindsVariable (rows_in R) (scope_of d) new (one (local_decl j))
        → Goals base (tree.name m v) (tree.name m (record { mark = v.mark; text = new }))
    unfolding TargetOf
    local_named k j new image finds found = goals base (tree.name m v) (tree.name m (record { mark = v.mark; text = new })) tt tt (λ i t u (x, old, a) (y, other, n).
        let one_old : x ≡ local_decl k = one_decl x (local_decl k) (w.one_old.variable (scope_of c) v.text (one x) (one (local_decl k)) old finds) in
        let one_new : y ≡ local_decl j = one_decl y (local_decl j) (w.one_new.variable (scope_of d) new (one y) (one (local_decl j)) other found) in
        let p = place (λ m b. (tells m b).from) rows c (word_at (λ m b. (tells m b).from) m base v) in
        let q = place (λ m b. (tells m b).from) (rows_in R) d (word_at (λ m b. (tells m b).from) m i v) in
        let stays = locals k j v.text finds image in
        let is : t ≡ core.local (Some p) k.number = subst (λ (z : Decl). VariableCode rows z p t) one_old a in
        let was : u ≡ core.local (Some q) j.number = subst (λ (z : Decl). VariableCode (rows_in R) z q u) one_new n in
        subst (λ (z : TargetCode). X.target z u) (sym is) (subst (λ (z : TargetCode). X.target (core.local (Some p) k.number) z) (sym (was ∙ ap (core.local (Some q)) stays.1))
        (by_images.exps.of_local (Some p) (Some q) k.number stays.0)))

    pub local_goals : (k : LocalKey) → LocalChoice (λ m b. (tells m b).from) rows R c at v.text k h → Goals base (tree.name m v) (NewName h)
    local_goals k (finds, choice) = by (R.seen.local_to c k) refl choice
      where
        asked : Reference
        asked = reference ref.AsAsked (name_in R (local_decl k) v.text) None []

        Gone : Type 0
        Gone = (f : Found) × FindsVariable (rows_in R) (scope_in R c) (name_in R (local_decl k) v.text) f × (h ≡ lost (λ m b. (tells m b).from) rows R at (local_decl k) f)

        Stays : LocalKey → Type 0
        Stays j = TakenChoice (λ m b. (tells m b).from) rows R (scope_in R c) at v.text (name_in R (local_decl k) v.text) (local_decl k) (local_decl j) asked (FindsVariable (rows_in R) (scope_in R c) (name_in R (local_decl k) v.text)) h

        by : (o : Option LocalKey) → R.seen.local_to c k ≡ o → OfImage o Stays Gone → Goals base (tree.name m v) (NewName h)
        by None image (f, found, is) = absurd (lost_some _ (sym (ap losses_of is) ∙ none))
        by (Some j) image (inr (none_binds, (f, found, is))) = absurd (lost_some _ (sym (ap losses_of is) ∙ none))
        by (Some j) image (inl (f, taken, is)) = subst (λ (x : Choice). Goals base (tree.name m v) (NewName x)) (sym is)
            (one_form (λ f. Binds (rows_in R) (scope_of d) asked (local_decl j) f → Goals base (tree.name m v) (NewName (spelled v.text (name_in R (local_decl k) v.text) (class_of (local_decl j)) f)))
            (λ binds. subst (λ (y : tree.Exp A). Goals base (tree.name m v) y) (sym (with_name (λ front z. variable_to m front None z) v.text (name_in R (local_decl k) v.text) v.mark))
            (local_named k j (name_in R (local_decl k) v.text) image finds binds))
            taken.place f taken.stands (to_scope tells rows R c d w asked (local_decl j) f taken.binds))

    pub own_field_goals : (IsOnThis rows c (tree.name m v) → X.own) → (k : FieldKey) → OwnFieldChoice (λ m b. (tells m b).from) rows R c at v.text k h → Goals base (tree.name m v) (NewName h)
    unfolding TargetOf
    own_field_goals on_this k (finds, inl (f, taken, is)) = subst (λ (x : Choice). Goals base (tree.name m v) (NewName x)) (sym is) (goals base (tree.name m v) (NewName (spelled v.text (field_in R k).name (field_in R k).class f)) tt (own_shape (field_in R k) _ forms)
        (λ i t u old new. own_target k (λ has. on_this (k, finds, has)) _ t (old_name m v k finds base t old) i u _ forms (simple_field (λ m b. (tells m b).from) (rows_in R) w.images.are w.one_new d w.new w.rebind w.fronts m v.mark v.text (field_in R k) taken.place f taken.stands binds) new))
      where
        binds : Binds (rows_in R) (scope_of d) (reference ref.FieldSimple (field_in R k).name None []) (field_decl (field_in R k)) f
        binds = to_scope tells rows R c d w (reference ref.FieldSimple (field_in R k).name None []) (field_decl (field_in R k)) f taken.binds

        forms : OwnForms tells rows R c d w (field_in R k) (NewName (spelled v.text (field_in R k).name (field_in R k).class f))
        forms = own_forms tells rows R c d w m v.mark v.text (field_in R k) taken.place f taken.stands binds
    own_field_goals on_this k (finds, inr (none_binds, (f, found, is))) = absurd (lost_some _ (sym (ap losses_of is) ∙ none))

    -- a class has no code
    pub class_goals : (o : Role) → ClassChoice (λ m b. (tells m b).from) rows R c o at v.text h → (y : tree.Exp A) → Goals base (tree.name m v) y
    unfolding ExpCode TargetOf
    class_goals left (k, free, finds, words, stands, spells) y = (
      λ i x z (t, (q, found, code), is) new. absurd (not_nothing q (w.one_old.variable (scope_of c) v.text (one q) nothing found free)),
      λ i t u (q, found, code) new. absurd (not_nothing q (w.one_old.variable (scope_of c) v.text (one q) nothing found free)),
    )
    class_goals value spells y = absurd spells
    class_goals statement spells y = absurd spells

    -- ---- by `super`

    abbrev NewSuper : Choice → tree.Exp A
    NewSuper x = super_to m (front_of x) (word_to x v)

    old_super : (k : FieldKey) → SuperFieldFinds rows c v.text (one (field_decl k)) → (b : ℕ) (t : TargetCode) → SuperTarget (λ m b. (tells m b).from) rows c b m v t
        → FieldCode rows IsOwn (field_decl k) (place (λ m b. (tells m b).from) rows c (word_at (λ m b. (tells m b).from) m b v)) t
    old_super k finds b t (x, found, code) = subst (λ (z : Decl). FieldCode rows IsOwn z (place (λ m b. (tells m b).from) rows c (word_at (λ m b. (tells m b).from) m b v)) t)
        (decided_one _ (SuperFieldFinds rows c v.text) (w.old.super_fields v.text) x (field_decl k) found finds) code

    pub super_field_goals : (IsOnThis rows c (tree.super_field m v) → X.own) → SuperFieldChoice (λ m b. (tells m b).from) rows R c at v.text h → Goals base (tree.super_field m v) (NewSuper h)
    unfolding TargetOf
    super_field_goals on_this (k, finds, inl (f, taken, is)) = subst (λ (x : Choice). Goals base (tree.super_field m v) (NewSuper x)) (sym is) (goals base (tree.super_field m v) (NewSuper (spelled v.text (field_in R k).name (field_in R k).class f)) tt (own_shape (field_in R k) _ forms)
        (λ i t u old new. own_target k (λ has. on_this (k, finds, has)) _ t (old_super k finds base t old) i u _ forms (field_by_super (λ m b. (tells m b).from) (rows_in R) w.images.are w.one_new d w.new w.rebind w.fronts m v.mark v.text (field_in R k) taken.place f taken.stands binds) new))
      where
        binds : Binds (rows_in R) (scope_of d) (reference ref.FieldSuper (field_in R k).name None []) (field_decl (field_in R k)) f
        binds = to_scope tells rows R c d w (reference ref.FieldSuper (field_in R k).name None []) (field_decl (field_in R k)) f taken.binds

        forms : OwnForms tells rows R c d w (field_in R k) (NewSuper (spelled v.text (field_in R k).name (field_in R k).class f))
        forms = super_forms tells rows R c d w m v.mark v.text (field_in R k) taken.place f taken.stands binds
    super_field_goals on_this (k, finds, inr (none_binds, (f, found, is))) = absurd (lost_some _ (sym (ap losses_of is) ∙ none))

  -- ---- behind a dot

  pub renamed_holds : (old new : List ℕ) → drops_operand (front_of (renamed old new)) ≡ false
  renamed_holds old new = ap drops_operand (renamed_front old new)

  pub value_holds : (old new : List ℕ) (k : ClassKey) (place : ℕ) (f : Form) → slice_get (Asked ∷ OnCastOperand ∷ []) place ≡ Some f → drops_operand (front_of (spelled old new k f)) ≡ false
  value_holds old new k place f there = two_forms (λ f. drops_operand (front_of (spelled old new k f)) ≡ false) OnCastOperand (renamed_holds old new) refl place f there

  -- a member on a value: the value is of a class
  class_is : (t : Ty) (o : ClassKey) → class_of_type t ≡ Some o → t ≡ class o
  class_is int o e = absurd cc
  class_is boolean o e = absurd cc
  class_is void o e = absurd cc
  class_is null o e = absurd cc
  class_is (class k) o e = (let p : k ≡ o = cc in ap class p)

  field_class : (name : List ℕ) (t : Ty) (x : Decl) (place : ℕ) (f : Form) → slice_get (Asked ∷ OnCastOperand ∷ []) place ≡ Some f
      → Binds (rows_in R) (scope_of d) (reference ref.FieldOn name (on_type t) []) x f → (o : ClassKey) × (t ≡ class o)
  field_class name t x place f there = two_forms (λ f. Binds (rows_in R) (scope_of d) (reference ref.FieldOn name (on_type t) []) x f → (o : ClassKey) × (t ≡ class o)) OnCastOperand
      (λ binds. (binds.0, class_is t binds.0 binds.1)) (λ binds. (binds.0, class_is t binds.0 binds.1)) place f there

  pub call_class : (name : List ℕ) (t : Ty) (ts : List Ty) (x : Decl) (place : ℕ) (f : Form) → slice_get (Asked ∷ OnCastOperand ∷ []) place ≡ Some f
      → Binds (rows_in R) (scope_of d) (reference ref.MethodOn name (on_type t) ts) x f → (o : ClassKey) × (t ≡ class o)
  call_class name t ts x place f there = two_forms (λ f. Binds (rows_in R) (scope_of d) (reference ref.MethodOn name (on_type t) ts) x f → (o : ClassKey) × (t ≡ class o)) OnCastOperand
      (λ binds. (binds.0, class_is t binds.0 binds.1)) (λ binds. (binds.0, class_is t binds.0 binds.1)) place f there

  -- a cast of the operand is one to a superclass
  pub cast_above : (o : ClassKey) (form : RefForm) (asked : List ℕ) (args : List Ty) (x : Decl) (f : Form) → Binds (rows_in R) (scope_of d) (reference form asked (operand_of o) args) x f → f ≡ OnCastOperand
      → NamesClass (rows_in R) (scope_of d) None (class_of x).name (class_of x) × IsSubclass (rows_in R) o (class_of x)
  cast_above o form asked args x f binds is = by (subst (λ (z : Form). Binds (rows_in R) (scope_of d) (reference form asked (operand_of o) args) x z) is binds)
    where
      by : Binds (rows_in R) (scope_of d) (reference form asked (operand_of o) args) x OnCastOperand → NamesClass (rows_in R) (scope_of d) None (class_of x).name (class_of x) × IsSubclass (rows_in R) o (class_of x)
      by (q, class_is, through) = let same : o ≡ q = cc in (through.named, subst (λ (z : ClassKey). IsSubclass (rows_in R) z (class_of x)) (sym same) through.above)

  -- through a class it is no instance member, and the outer class is the one that it has
  pub class_static : (o : ClassKey) (words : InFront) (asked : List ℕ) (args : List Ty) (x : Decl) (place : ℕ) (f : Form) → slice_get (Asked ∷ OnClass ∷ OnOuterClass ∷ []) place ≡ Some f
      → Binds (rows_in R) (scope_of d) (behind_words words (reference ref.ThroughClass asked (operand_of o) args)) x f → IsInstanceDecl (rows_in R) x → ⊥
  class_static o words asked args x place f there = three_forms (λ f. Binds (rows_in R) (scope_of d) (behind_words words (reference ref.ThroughClass asked (operand_of o) args)) x f → IsInstanceDecl (rows_in R) x → ⊥)
      (λ binds. binds.2.static) (λ binds. binds.1.static) (λ binds. binds.3.static) place f there

  pub class_outer : (r2 : Reference) (x : Decl) (f : Form) → Binds (rows_in R) (scope_of d) r2 x f → f ≡ OnOuterClass → (o : List ℕ) × ((class_of x).outer ≡ Some o)
  class_outer r2 x f binds is = let b = subst (λ (z : Form). Binds (rows_in R) (scope_of d) r2 x z) is binds in (b.0, b.1)

  module _ (base : ℕ) (m : A) (e y : tree.Exp A) (v : tree.Word A) (at : ℕ) (h : Choice) (none : losses_of h ≡ [])
      (holds : drops_operand (front_of h) ≡ false → Becomes (λ m b. (tells m b).from) rows R c d e y × ExpGoal ((tells m base).from) e y) where
    abbrev NewField : Choice → tree.Exp A
    NewField x = variable_on m (operand_to m (front_of x) (Some y)) (word_to x v)

    old_field : (k : FieldKey) → FieldFinds rows c e v.text (one (field_decl k)) → (b : ℕ) (t : TargetCode) → TargetOf (λ m b. (tells m b).from) rows c b (tree.field m e v) t
        → FieldCode rows (λ z. ExpCode (λ m b. (tells m b).from) rows c ((tells m b).from) e z) (field_decl k) (place (λ m b. (tells m b).from) rows c (word_at (λ m b. (tells m b).from) m b v)) t
    unfolding TargetOf
    old_field k finds b t (x, found, code) = subst (λ (z : Decl). FieldCode rows (λ z. ExpCode (λ m b. (tells m b).from) rows c ((tells m b).from) e z) z (place (λ m b. (tells m b).from) rows c (word_at (λ m b. (tells m b).from) m b v)) t)
        (decided_one _ (FieldFinds rows c e v.text) (w.old.fields e v.text) x (field_decl k) found finds) code

    dotted_shape : (z : Option (tree.Exp A)) (u : tree.Exp A) (word : tree.Word A) → z ≡ Some u → IsVariable (variable_on m z word)
    dotted_shape z u word is = subst (λ (q : Option (tree.Exp A)). IsVariable (variable_on m q word)) (sym is) tt

    module _ (k : FieldKey) (finds : FieldFinds rows c e v.text (one (field_decl k))) (word : tree.Word A) where
      -- the operand stands there yet
      on_value : ExpGoal ((tells m base).from) e y → (u : tree.Exp A) → Each tells rows R c d w (IsOf tells rows R c d w y) u → To tells rows R c d w (field_decl (field_in R k)) (tree.field m u word) → TargetGoal base (tree.field m e v) (tree.field m u word)
      unfolding TargetOf
      on_value goal u each to i t q old new = field_image tells rows R c d w r D X by_images k _ _ _ _ t q (old_field k finds base t old) (dotted_new tells rows R c d w (field_decl (field_in R k)) m u word to _ i q new)
          (λ has x z a n. let there = each _ z n in goal there.0 x z a there.1)

      on_class : (IsInstanceDecl (rows_in R) (field_decl (field_in R k)) → ⊥) → (u : tree.Exp A) → To tells rows R c d w (field_decl (field_in R k)) (tree.field m u word) → TargetGoal base (tree.field m e v) (tree.field m u word)
      unfolding TargetOf
      on_class never u to i t q old new = field_image tells rows R c d w r D X by_images k _ (λ z. ⊥) _ _ t q (old_field k finds base t old)
          (static_alone _ (field_in R k) _ q (dotted_new tells rows R c d w (field_decl (field_in R k)) m u word to _ i q new) never) (λ has x z a n. absurd n)

      dotted_target : (z : Option (tree.Exp A)) → (ExpGoal ((tells m base).from) e y ⊎ (IsInstanceDecl (rows_in R) (field_decl (field_in R k)) → ⊥)) → DottedForms tells rows R c d w (field_decl (field_in R k)) y z
          → To tells rows R c d w (field_decl (field_in R k)) (variable_on m z word) → Goals base (tree.field m e v) (variable_on m z word)
      dotted_target z how (u, is, form) to = subst (λ (q : Option (tree.Exp A)). Goals base (tree.field m e v) (variable_on m q word)) (sym is) (goals base (tree.field m e v) (tree.field m u word) tt tt
          (by how form (subst (λ (q : Option (tree.Exp A)). To tells rows R c d w (field_decl (field_in R k)) (variable_on m q word)) is to)))
        where
          by : (ExpGoal ((tells m base).from) e y ⊎ (IsInstanceDecl (rows_in R) (field_decl (field_in R k)) → ⊥)) → (Each tells rows R c d w (IsOf tells rows R c d w y) u ⊎ (IsInstanceDecl (rows_in R) (field_decl (field_in R k)) → ⊥))
              → To tells rows R c d w (field_decl (field_in R k)) (tree.field m u word) → TargetGoal base (tree.field m e v) (tree.field m u word)
          by (inr never) form to = on_class never u to
          by (inl goal) (inr never) to = on_class never u to
          by (inl goal) (inl each) to = on_value goal u each to

    value_field : (k : FieldKey) → FieldFinds rows c e v.text (one (field_decl k)) → ((j : ClassKey) → IsClassName rows c e j → ⊥) → (o : ClassKey) → HasType rows c e (class o)
        → (n : ℕ) (f : Form) → slice_get (Asked ∷ OnCastOperand ∷ []) n ≡ Some f
        → Binds (rows_in R) (scope_of d) (reference ref.FieldOn (field_in R k).name (on_type (R.type_now c e (class o))) []) (field_decl (field_in R k)) f
        → h ≡ spelled v.text (field_in R k).name (field_in R k).class f → Goals base (tree.field m e v) (NewField (spelled v.text (field_in R k).name (field_in R k).class f))
    value_field k finds not o type n f there binds is =
        let part = holds (ap (λ (q : Choice). drops_operand (front_of q)) is ∙ value_holds v.text (field_in R k).name (field_in R k).class n f there) in
        let of = field_class (field_in R k).name (R.type_now c e (class o)) (field_decl (field_in R k)) n f there binds in
        let typed = subst (λ (t : Ty). HasType (rows_in R) d y t) of.1 (part.0.typed (class o) type) in
        let bound = subst (λ (t : Ty). Binds (rows_in R) (scope_of d) (reference ref.FieldOn (field_in R k).name (on_type t) []) (field_decl (field_in R k)) f) of.1 binds in
        dotted_target k finds (word_to (spelled v.text (field_in R k).name (field_in R k).class f) v) (operand_to m (front_of (spelled v.text (field_in R k).name (field_in R k).class f)) (Some y)) (inl part.1)
        (value_front tells rows R c d w m v.mark v.text (field_in R k).name (field_decl (field_in R k)) (field_in R k).class y of.0 typed n f there
        (cast_above of.0 ref.FieldOn (field_in R k).name [] (field_decl (field_in R k)) f bound))
        (field_on_value (λ m b. (tells m b).from) (rows_in R) w.images.are w.one_new d w.new w.rebind w.fronts m v.mark v.text (field_in R k) y of.0 typed (part.0.apart not) n f there bound)

    class_field : (k : FieldKey) → FieldFinds rows c e v.text (one (field_decl k)) → (o : ClassKey) → IsClassName rows c e o → (words : InFront)
        → (n : ℕ) (f : Form) → slice_get (Asked ∷ OnClass ∷ OnOuterClass ∷ []) n ≡ Some f
        → Binds (rows_in R) (scope_of d) (behind_words words (reference ref.ThroughClass (field_in R k).name (operand_of (class_in R o)) [])) (field_decl (field_in R k)) f
        → h ≡ spelled v.text (field_in R k).name (field_in R k).class f → Goals base (tree.field m e v) (NewField (spelled v.text (field_in R k).name (field_in R k).class f))
    class_field k finds o named words n f there binds is =
        let never = class_static (class_in R o) words (field_in R k).name [] (field_decl (field_in R k)) n f there binds in
        dotted_target k finds (word_to (spelled v.text (field_in R k).name (field_in R k).class f) v) (operand_to m (front_of (spelled v.text (field_in R k).name (field_in R k).class f)) (Some y)) (inr never)
        (class_front tells rows R c d w m v.mark v.text (field_in R k).name (field_decl (field_in R k)) (field_in R k).class y n f there never
        (class_outer (behind_words words (reference ref.ThroughClass (field_in R k).name (operand_of (class_in R o)) [])) (field_decl (field_in R k)) f binds))
        (field_through (λ m b. (tells m b).from) (rows_in R) w.images.are w.one_new d w.new w.rebind w.fronts m v.mark v.text (field_in R k) y (class_in R o) words n f there
        (λ asked. (holds (ap (λ (q : Choice). drops_operand (front_of q)) (is ∙ ap (spelled v.text (field_in R k).name (field_in R k).class) asked) ∙ renamed_holds v.text (field_in R k).name)).0.named o named) binds)

    pub field_goals : FieldChoice (λ m b. (tells m b).from) rows R c at e v.text h → Goals base (tree.field m e v) (NewField h)
    field_goals (k, finds, inl (o, named, (words, stand, inl (f, taken, is)))) = subst (λ (x : Choice). Goals base (tree.field m e v) (NewField x)) (sym is)
        (class_field k finds o named words taken.place f taken.stands
        (to_scope tells rows R c d w (behind_words words (reference ref.ThroughClass (field_in R k).name (operand_of (class_in R o)) [])) (field_decl (field_in R k)) f taken.binds) is)
    field_goals (k, finds, inl (o, named, (words, stand, inr (none_binds, (f, found, is))))) = absurd (lost_some _ (sym (ap losses_of is) ∙ none))
    field_goals (k, finds, inr (not, (o, type, inl (f, taken, is)))) = subst (λ (x : Choice). Goals base (tree.field m e v) (NewField x)) (sym is)
        (value_field k finds not o type taken.place f taken.stands
        (to_scope tells rows R c d w (reference ref.FieldOn (field_in R k).name (on_type (R.type_now c e (class o))) []) (field_decl (field_in R k)) f taken.binds) is)
    field_goals (k, finds, inr (not, (o, type, inr (none_binds, (f, found, is))))) = absurd (lost_some _ (sym (ap losses_of is) ∙ none))

    -- a member class in front of a further dot has no code
    no_member_class : (o : ClassKey) → IsClassName rows c e o → FindsFieldIn rows (scope_of c) o v.text nothing → (x : Decl) → FieldFinds rows c e v.text (one x) → ⊥
    no_member_class o owner free x (inl (i, inl other, found)) = not_nothing x (w.one_old.field_in (scope_of c) o v.text (one x) nothing
        (subst (λ (z : ClassKey). FindsFieldIn rows (scope_of c) z v.text (one x)) (class_one (λ m b. (tells m b).from) rows c w.one_old w.old e i o other owner) found) free)
    no_member_class o owner free x (inl (i, inr (not, type), found)) = not o owner
    no_member_class o owner free x (inr (not, is)) = not_nothing x is

    pub member_class_goals : (o : Role) → MemberClassChoice (λ m b. (tells m b).from) rows R c o at e v.text h → (z : tree.Exp A) → Goals base (tree.field m e v) z
    unfolding ExpCode TargetOf
    member_class_goals left (o, k, owner, free, finds, front, before, words, stands, spells) z = (
      λ i x q (t, (n, found, code), is) new. absurd (no_member_class o owner free n found),
      λ i t u (n, found, code) new. absurd (no_member_class o owner free n found),
    )
    member_class_goals value spells z = absurd spells
    member_class_goals statement spells z = absurd spells
