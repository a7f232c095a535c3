-- Where a local of the new place stands for `this` (`jr_kept_references: Receivers`): the code of `this`, of a field by its simple name
-- and of a call without a target is the image, if a read of that local is one of `this`.
use Rattle.std.proofs.Common.{◌≡◌, ℕ, List, [], ◌∷◌, Option, Some, None, refl, sym, ap, subst, ◌∙◌, inl, inr}
use Rattle.std.specs.Prelude.{slice_get, ◌⊎◌}
use Rattle.jr_text.specs.declared.spans.Span.{Span}
use Rattle.jr_ast.specs.Tree as tree
use Rattle.jr_runs.specs.Keys.{At}
use Rattle.jr_runs.specs.Core as core
use Rattle.jr_runs.specs.Rows as core_rows
use Rattle.jr_runs.specs.KeyMaps.{KeyMap}
use Rattle.jr_table.specs.Keys.{ClassKey, FieldKey, MethodKey, Ty, class}
use Rattle.jr_table.specs.Decls.{LocalKey, Decl, field_decl, method_decl, local_decl}
use Rattle.jr_table.specs.Rows.{Row}
use Rattle.jr_table.specs.Found.{one}
use Rattle.jr_table.specs.Lookup.{FindsVariable}
use Rattle.jr_table.specs.Context.{Context, scope_of, IsInstanceDecl}
use Rattle.jr_table.specs.Binding.{HasType, IsClassName, CallFinds, HaveTypes, word_at}
use Rattle.jr_spell.specs.declared.references.RefForm.TheVariants as ref
use Rattle.jr_spell.specs.declared.spellings.Form.{Form}
use Rattle.jr_spell.specs.Binds.{Binds}
use Rattle.jr_rewrite.specs.Respellings.{front_of}
use Rattle.jr_rewrite.specs.Rewritten.{word_to, variable_on, operand_to, target_of}
use Rattle.jr_images.specs.Regions.{Region}
use Rattle.jr_images.specs.Spelling.{spelled, reference, on_type}
use Rattle.jr_images.proofs.OneBound.{one_decl, name_no_class}
use Rattle.jr_images.proofs.Rebound.{field_on_value, call_on_value}
use Rattle.jr_kept_references.specs.InRegions.{rows_in, field_in, method_in}
use Rattle.jr_kept_references.specs.Receivers.{StandsIn, receiver_name, FieldOnReceiver, CallOnReceiver, OnReceiver}
use Rattle.jr_kept_references.proofs.RegionWorlds.{RegionWorld}
use Rattle.jr_code.specs.RunKeys.{RunKeys}
use Rattle.jr_code.specs.Coded.{Code, IsOwn, VariableCode, place, ExpCode, TargetOf, ReceiverCode}
use Rattle.jr_image_code.specs.CodeRelations.{Relations}
use Rattle.jr_image_code.specs.CodedSpots.{GoesByImages, LocalsStay, ExpsCoded, TargetsCoded, AreCoded}
use Rattle.jr_image_code.proofs.References.{To, dotted_new, exps_by, field_image}
use Rattle.jr_image_code.proofs.Fronts.{Each, IsOf, DottedForms, value_front}
use Rattle.jr_image_code.proofs.VariableImages.{IsVariable, value_goal, old_name, static_alone, cast_above}
use Rattle.jr_image_code.proofs.CallImages.{RowGoal, ReceiverGoal, IsNever, call_goal}

module _ {A : Type 0} (tells : A → ℕ → Span) (rows : List Row) (R : Region A) (c d : Context) (w : RegionWorld A rows R c d)
    (r : KeyMap RunKeys) (D : core_rows.Rows RunKeys) (X : Relations) (by_images : GoesByImages rows R r D X) (locals : LocalsStay rows R X c)
    (k : LocalKey) (name : List ℕ) (o : ClassKey) (s : StandsIn rows R c d k name o) (m : A)
    (stands : (p q u : At RunKeys) → X.exp (core.this p) (core.read q (core.local u k.number))) where
  abbrev Local : tree.Exp A
  Local = receiver_name rows R c d m name o

  abbrev Both : (b : ℕ) → tree.Exp A → tree.Exp A → Type 0
  Both b e y = AreCoded (λ m b. (tells m b).from) rows R X c d b e y

  -- its code reads the local
  local_code : (i : ℕ) (z : Code) → ExpCode (λ m b. (tells m b).from) (rows_in R) d i Local z → (q u : At RunKeys) × (z ≡ core.read q (core.local u k.number))
  unfolding ExpCode
  local_code i z (t, (x, finds, code), is) =
      let same : x ≡ local_decl k = one_decl x (local_decl k) (w.one_new.variable (scope_of d) name (one x) (one (local_decl k)) finds s.finds) in
      let p = place (λ m b. (tells m b).from) (rows_in R) d (word_at (λ m b. (tells m b).from) m i (record { mark = m; text = name })) in
      let target : t ≡ core.local (Some p) k.number = subst (λ (y : Decl). VariableCode (rows_in R) y p t) same code in
      (Some (place (λ m b. (tells m b).from) (rows_in R) d ((tells m i).from)), Some p, is ∙ ap (core.read (Some (place (λ m b. (tells m b).from) (rows_in R) d ((tells m i).from)))) target)

  stands_for : (x z : Code) (i : ℕ) → (p : At RunKeys) → x ≡ core.this p → ExpCode (λ m b. (tells m b).from) (rows_in R) d i Local z → X.exp x z
  stands_for x z i p is code = let there = local_code i z code in
      exps_by tells rows R c d w r D X by_images x (core.this p) z (core.read there.0 (core.local there.1 k.number)) is there.2 (stands p there.0 there.1)

  -- ---- it is a value of the class

  has_class : HasType (rows_in R) d Local (class o)
  unfolding HasType
  has_class = (local_decl k, s.finds, s.type)

  no_name : (z : ClassKey) → IsClassName (rows_in R) d Local z → ⊥
  no_name = name_no_class (λ m b. (tells m b).from) (rows_in R) d w.one_new w.new (local_decl k) (λ j e. cc) m (record { mark = m; text = name }) s.finds

  -- ---- fields

  module _ (b : ℕ) (n : A) (v : tree.Word A) (q : FieldKey) (finds : FindsVariable rows (scope_of c) v.text (one (field_decl q))) (word : tree.Word A) where
    field_target : (u : tree.Exp A) → (Each tells rows R c d w (IsOf tells rows R c d w Local) u ⊎ (IsInstanceDecl (rows_in R) (field_decl (field_in R q)) → ⊥))
        → To tells rows R c d w (field_decl (field_in R q)) (tree.field m u word) → TargetsCoded (λ m b. (tells m b).from) rows R X c d b (tree.name n v) (tree.field m u word)
    unfolding TargetOf
    field_target u (inl each) to i t p old new = field_image tells rows R c d w r D X by_images q IsOwn _ _ _ t p (old_name tells rows R c d w r D X by_images locals n v q finds b t old)
        (dotted_new tells rows R c d w (field_decl (field_in R q)) m u word to _ i p new) (λ has x z a code. let there = each _ z code in stands_for x z there.0 None a there.1)
    field_target u (inr never) to i t p old new = field_image tells rows R c d w r D X by_images q IsOwn (λ z. ⊥) _ _ t p (old_name tells rows R c d w r D X by_images locals n v q finds b t old)
        (static_alone tells rows R c d w r D X by_images locals _ (field_in R q) _ p (dotted_new tells rows R c d w (field_decl (field_in R q)) m u word to _ i p new) never) (λ has x z a code. absurd code)

    field_both : (z : Option (tree.Exp A)) → DottedForms tells rows R c d w (field_decl (field_in R q)) Local z → To tells rows R c d w (field_decl (field_in R q)) (variable_on m z word) → Both b (tree.name n v) (variable_on m z word)
    field_both z (u, is, form) to = subst (λ (x : Option (tree.Exp A)). Both b (tree.name n v) (variable_on m x word)) (sym is)
        (let target = field_target u form (subst (λ (x : Option (tree.Exp A)). To tells rows R c d w (field_decl (field_in R q)) (variable_on m x word)) is to) in
        (value_goal tells rows R c d w r D X by_images locals b (tree.name n v) (tree.field m u word) tt tt target, target))

  field_images : (b : ℕ) (n : A) (v : tree.Word A) (y : tree.Exp A) (q : FieldKey) → FindsVariable rows (scope_of c) v.text (one (field_decl q)) → FieldOnReceiver rows R c d m name o (field_in R q) y → Both b (tree.name n v) y
  field_images b n v y q finds (f, taken, is) = subst (λ (z : tree.Exp A). Both b (tree.name n v) z) (sym is)
      (field_both b n v q finds (word_to (spelled (field_in R q).name (field_in R q).name (field_in R q).class f) (record { mark = m; text = (field_in R q).name })) _
      (value_front tells rows R c d w m m (field_in R q).name (field_in R q).name (field_decl (field_in R q)) (field_in R q).class Local o has_class taken.place f taken.stands
      (cast_above tells rows R c d w r D X by_images locals o ref.FieldOn (field_in R q).name [] (field_decl (field_in R q)) f taken.binds))
      (field_on_value (λ m b. (tells m b).from) (rows_in R) w.images.are w.one_new d w.new w.rebind w.fronts m m (field_in R q).name (field_in R q) Local o has_class no_name taken.place f taken.stands taken.binds))

  -- ---- calls

  module _ (b : ℕ) (n : A) (v : tree.Word A) (args es : tree.Exps A) (row : RowGoal tells rows R c d w r D X by_images locals ((tells n b).from) args es) (q : MethodKey) (finds : CallFinds rows c tree.no_target v.text args (one (method_decl q))) (word : tree.Word A) where
    call_by : (z : Option (tree.Exp A)) → DottedForms tells rows R c d w (method_decl (method_in R q)) Local z → To tells rows R c d w (method_decl (method_in R q)) (tree.call m (target_of z) word es)
        → ExpsCoded (λ m b. (tells m b).from) rows R X c d b (tree.call n tree.no_target v args) (tree.call m (target_of z) word es)
    unfolding ReceiverCode
    call_by z (u, is, form) to = subst (λ (x : Option (tree.Exp A)). ExpsCoded (λ m b. (tells m b).from) rows R X c d b (tree.call n tree.no_target v args) (tree.call m (target_of x) word es)) (sym is)
        (call_goal tells rows R c d w r D X by_images locals b n m v word args es row q tree.no_target (tree.on u) finds
        (subst (λ (x : Option (tree.Exp A)). To tells rows R c d w (method_decl (method_in R q)) (tree.call m (target_of x) word es)) is to) (by form))
      where
        by : (Each tells rows R c d w (IsOf tells rows R c d w Local) u ⊎ (IsInstanceDecl (rows_in R) (method_decl (method_in R q)) → ⊥))
            → (IsInstanceDecl rows (method_decl q) → ReceiverGoal tells rows R c d w r D X by_images locals ((tells n b).from) tree.no_target (tree.on u)) ⊎ IsNever tells rows R c d w r D X by_images locals q
        by (inl each) = inl (λ has i x z a code. let there = each i z code in stands_for x z there.0 None a there.1)
        by (inr never) = inr never

  call_images : (b : ℕ) (n : A) (v : tree.Word A) (args es : tree.Exps A) → RowGoal tells rows R c d w r D X by_images locals ((tells n b).from) args es → (y : tree.Exp A) (q : MethodKey) → CallFinds rows c tree.no_target v.text args (one (method_decl q))
      → (ts : List Ty) → HaveTypes (rows_in R) d es ts → CallOnReceiver rows R c d m name o (method_in R q) ts es y → ExpsCoded (λ m b. (tells m b).from) rows R X c d b (tree.call n tree.no_target v args) y
  call_images b n v args es row y q finds ts types (f, taken, is) = subst (λ (z : tree.Exp A). ExpsCoded (λ m b. (tells m b).from) rows R X c d b (tree.call n tree.no_target v args) z) (sym is)
      (call_by b n v args es row q finds (word_to (spelled (method_in R q).name (method_in R q).name (method_in R q).class f) (record { mark = m; text = (method_in R q).name })) _
      (value_front tells rows R c d w m m (method_in R q).name (method_in R q).name (method_decl (method_in R q)) (method_in R q).class Local o has_class taken.place f taken.stands
      (cast_above tells rows R c d w r D X by_images locals o ref.MethodOn (method_in R q).name ts (method_decl (method_in R q)) f taken.binds))
      (call_on_value (λ m b. (tells m b).from) (rows_in R) w.images.are w.one_new d w.new w.rebind w.fronts m m (method_in R q).name (method_in R q) es ts types Local o has_class no_name taken.place f taken.stands taken.binds))

  -- ---- all of them

  -- arguments es of a call that has become y
  abbrev pub HasArgs : tree.Exp A → tree.Exps A → Type 0
  HasArgs (tree.call n to v args) es = es ≡ args
  HasArgs _ es = ⊥

  -- the code of the arguments of a call is related too
  abbrev pub ArgsCoded : (b : ℕ) (e y : tree.Exp A) → Type 0
  ArgsCoded b (tree.call n to v args) y = (es : tree.Exps A) → HasArgs y es → RowGoal tells rows R c d w r D X by_images locals ((tells n b).from) args es
  ArgsCoded b _ y = Unit {0}

  pub receiver_images : (b : ℕ) (e y : tree.Exp A) → OnReceiver rows R c d m name o e y → ArgsCoded b e y → Both b e y
  unfolding ExpCode TargetOf
  receiver_images b (tree.this n) y is args = subst (λ (z : tree.Exp A). Both b (tree.this n) z) (sym is) ((λ i x z old new. stands_for x z i (Some _) old new), (λ i t u old new. absurd old))
  receiver_images b (tree.name n v) y (q, finds, on) args = field_images b n v y q finds on
  receiver_images b (tree.call n tree.no_target v xs) y (q, ts, es, finds, types, (f, taken, is)) args =
      (call_images b n v xs es (args es (subst (λ (z : tree.Exp A). HasArgs z es) (sym is) refl)) y q finds ts types (f, taken, is), (λ i t u old new. absurd old))
  receiver_images b (tree.call n (tree.on e) v xs) y h args = absurd h
  receiver_images b (tree.number n i) y h args = absurd h
  receiver_images b (tree.truth n t) y h args = absurd h
  receiver_images b (tree.null n) y h args = absurd h
  receiver_images b (tree.string n t) y h args = absurd h
  receiver_images b (tree.class_literal n t) y h args = absurd h
  receiver_images b (tree.field n e v) y h args = absurd h
  receiver_images b (tree.super_field n v) y h args = absurd h
  receiver_images b (tree.super_call n v xs) y h args = absurd h
  receiver_images b (tree.create n t xs) y h args = absurd h
  receiver_images b (tree.paren n e) y h args = absurd h
  receiver_images b (tree.cast n t e) y h args = absurd h
  receiver_images b (tree.unary n p e) y h args = absurd h
  receiver_images b (tree.bump n p e) y h args = absurd h
  receiver_images b (tree.binary n p e f) y h args = absurd h
  receiver_images b (tree.assign n e f) y h args = absurd h
  receiver_images b (tree.compound n p e f) y h args = absurd h
