-- Calls: the code of a respelled one is the image of the old code.
use Rattle.std.proofs.Common.{◌≡◌, ◌<◌, ℕ, List, [], Option, Some, None, false, sym, ap, subst, ◌∙◌, inl, inr}
use Rattle.std.specs.Prelude.{◌⊎◌}
use Rattle.jr_text.specs.declared.spans.Span.{Span}
use Rattle.jr_ast.specs.Tree as tree
use Rattle.jr_runs.specs.Core as core
use Rattle.jr_runs.specs.Rows as core_rows
use Rattle.jr_runs.specs.KeyMaps.{KeyMap}
use Rattle.jr_table.specs.Keys.{ClassKey, MethodKey, Ty, class}
use Rattle.jr_table.specs.Decls.{Decl, method_decl, local_decl, LocalKey}
use Rattle.jr_table.specs.Rows.{Row}
use Rattle.jr_table.specs.Found.{one}
use Rattle.jr_table.specs.Lookup.{FindsVariable}
use Rattle.jr_table.specs.Context.{Context, scope_of, IsInstanceDecl}
use Rattle.jr_table.specs.Binding.{HasType, HaveTypes, CallFinds, SuperCallFinds, value, left, word_at}
use Rattle.jr_spell.specs.declared.references.RefForm.TheVariants as ref
use Rattle.jr_spell.specs.declared.spellings.Form.{Form}
use Rattle.jr_spell.specs.declared.spellings.Form.TheVariants.{Asked, OnClass, OnOuterClass}
use Rattle.jr_spell.specs.Binds.{Binds}
use Rattle.jr_rewrite.specs.Respellings.{Choice, front_of}
use Rattle.jr_rewrite.specs.Rewritten.{word_to, operand_to, target_of, drops_operand, losses_of}
use Rattle.jr_images.specs.Regions.{image_at, Region}
use Rattle.jr_images.specs.Spelling.{spelled, reference, behind_words, operand_of, on_type, SimpleCallChoice, CallChoice, SuperCallChoice}
use Rattle.jr_images.proofs.Chosen.{lost_some}
use Rattle.jr_images.proofs.Forms.{one_form}
use Rattle.jr_images.proofs.OneBound.{call_only, super_call_only}
use Rattle.jr_code.proofs.OneFound.{decided_one}
use Rattle.jr_images.proofs.Rebound.{call_by_name, call_on_value, call_through_class, call_by_super}
use Rattle.jr_kept_references.proofs.RegionTypes.{to_scope}
use Rattle.jr_kept_references.specs.InRegions.{rows_in, class_in, method_in}
use Rattle.jr_kept_references.specs.KeptInRegions.{Becomes}
use Rattle.jr_kept_references.proofs.RegionWorlds.{RegionWorld}
use Rattle.jr_code.specs.RunKeys.{RunKeys}
use Rattle.jr_code.specs.Coded.{Code, CallCode, SuperCallCode, place, ExpCode, ReceiverCode, RowCode}
use Rattle.jr_image_code.specs.CodeRelations.{Relations}
use Rattle.jr_image_code.specs.CodedSpots.{GoesByImages, LocalsStay, IsOnThis, ExpsCoded}
use Rattle.jr_image_code.proofs.References.{To, call_no_class, super_no_class, call_image, super_call_image}
use Rattle.jr_image_code.proofs.Fronts.{Each, IsThis, IsOf, DottedForms, SimpleFront, value_front, class_front, simple_front}
use Rattle.jr_image_code.proofs.VariableImages.{call_class, own_pair, this_pair, renamed_holds, value_holds, cast_above, class_static, class_outer}

module _ {A : Type 0} (tells : A → ℕ → Span) (rows : List Row) (R : Region A) (c d : Context) (w : RegionWorld A rows R c d)
    (r : KeyMap RunKeys) (D : core_rows.Rows RunKeys) (X : Relations) (by_images : GoesByImages rows R r D X) (locals : LocalsStay rows R X c) where
  abbrev at_mark : A → ℕ → ℕ
  at_mark m b = (tells m b).from

  abbrev Goal : (b : ℕ) → tree.Exp A → tree.Exp A → Type 0
  Goal b e y = ExpsCoded (λ m b. (tells m b).from) rows R X c d b e y

  abbrev pub RowGoal : (b : ℕ) → tree.Exps A → tree.Exps A → Type 0
  RowGoal b es ys = (i : ℕ) (xs zs : core.Exps RunKeys) → RowCode (λ m b. (tells m b).from) rows c b es xs → RowCode (λ m b. (tells m b).from) (rows_in R) d i ys zs → X.exps xs zs

  -- the code of each new receiver is the image of that of the old one
  abbrev pub ReceiverGoal : (b : ℕ) → tree.Target A → tree.Target A → Type 0
  ReceiverGoal b to goal = (i : ℕ) (x z : Code) → ReceiverCode (λ m b. (tells m b).from) rows c b to x → ReceiverCode (λ m b. (tells m b).from) (rows_in R) d i goal z → X.exp x z

  abbrev pub IsNever : MethodKey → Type 0
  IsNever k = IsInstanceDecl (rows_in R) (method_decl (method_in R k)) → ⊥

  -- what is static has no receiver
  static_alone : (New : Code → Type 0) (k : MethodKey) → IsNever k → (q : _) (zs : core.Exps RunKeys) (z : Code) → CallCode (rows_in R) New (method_decl (method_in R k)) q zs z
      → CallCode (rows_in R) (λ s. ⊥) (method_decl (method_in R k)) q zs z
  static_alone New k never q zs z (inl h) = inl h
  static_alone New k never q zs z (inr (lacks, h)) = absurd (never lacks)

  -- what the code of a new call speaks of is the image
  call_new : (k : MethodKey) (m : A) (to : tree.Target A) (v : tree.Word A) (es : tree.Exps A) → To tells rows R c d w (method_decl (method_in R k)) (tree.call m to v es) → (i : ℕ) (z : Code)
      → ExpCode (λ m b. (tells m b).from) (rows_in R) d i (tree.call m to v es) z
      → (zs : core.Exps RunKeys) × RowCode (λ m b. (tells m b).from) (rows_in R) d ((tells m i).from) es zs
      × CallCode (rows_in R) (λ s. ReceiverCode (λ m b. (tells m b).from) (rows_in R) d ((tells m i).from) to s) (method_decl (method_in R k)) (place (λ m b. (tells m b).from) (rows_in R) d (word_at (λ m b. (tells m b).from) m i v)) zs z
  unfolding ExpCode
  call_new k m to v es stands i z (y, zs, finds, row, code) = (
    zs,
    row,
    subst (λ (q : Decl). CallCode (rows_in R) (λ s. ReceiverCode (λ m b. (tells m b).from) (rows_in R) d ((tells m i).from) to s) q (place (λ m b. (tells m b).from) (rows_in R) d (word_at (λ m b. (tells m b).from) m i v)) zs z)
        (sym (call_only (λ m b. (tells m b).from) (rows_in R) d w.one_new w.new y (call_no_class (rows_in R) _ y _ zs z code) m to v es finds value 0 (stands.reads value 0).0 (method_decl (method_in R k)) (stands.reads value 0).1)) code,
  )

  -- l: the new mark
  module _ (base : ℕ) (m l : A) (v word : tree.Word A) (args es : tree.Exps A) (row : RowGoal ((tells m base).from) args es) where
    pub call_goal : (k : MethodKey) (to goal : tree.Target A) → CallFinds rows c to v.text args (one (method_decl k)) → To tells rows R c d w (method_decl (method_in R k)) (tree.call l goal word es)
        → ((IsInstanceDecl rows (method_decl k) → ReceiverGoal ((tells m base).from) to goal) ⊎ IsNever k) → Goal base (tree.call m to v args) (tree.call l goal word es)
    unfolding ExpCode
    call_goal k to goal finds stands how i x z (y, xs, found, codes, code) new =
        let n = call_new k l goal word es stands i z new in
        let old = subst (λ (q : Decl). CallCode rows (λ s. ReceiverCode (λ m b. (tells m b).from) rows c ((tells m base).from) to s) q (place (λ m b. (tells m b).from) rows c (word_at (λ m b. (tells m b).from) m base v)) xs x)
        (decided_one _ (CallFinds rows c to v.text args) (w.old.calls to v.text args) y (method_decl k) found finds) code in
        elim how [
          | inl same ↦ call_image tells rows R c d w r D X by_images k _ _ _ _ xs n.0 x z old n.2 (λ has q s a t. same has _ q s a t) (row _ xs n.0 codes n.1)
          | inr never ↦ call_image tells rows R c d w r D X by_images k _ (λ s. ⊥) _ _ xs n.0 x z old (static_alone _ k never _ n.0 z n.2) (λ has q s a t. absurd t) (row _ xs n.0 codes n.1)
        ]

    -- nothing, or `this`, or a class in front
    simple_goal : (k : MethodKey) → (IsInstanceDecl rows (method_decl k) → X.own) → (z : Option (tree.Exp A)) → SimpleFront tells rows R c d w (method_decl (method_in R k)) z → CallFinds rows c tree.no_target v.text args (one (method_decl k))
        → To tells rows R c d w (method_decl (method_in R k)) (tree.call l (target_of z) word es) → Goal base (tree.call m tree.no_target v args) (tree.call l (target_of z) word es)
    unfolding ReceiverCode
    simple_goal k own z (inl is) finds stands = subst (λ (q : Option (tree.Exp A)). Goal base (tree.call m tree.no_target v args) (tree.call l (target_of q) word es)) (sym is)
        (call_goal k tree.no_target tree.no_target finds (subst (λ (q : Option (tree.Exp A)). To tells rows R c d w (method_decl (method_in R k)) (tree.call l (target_of q) word es)) is stands)
        (inl (λ has i x s a t. own_pair tells rows R c d w r D X by_images locals (own has) x s a t)))
    simple_goal k own z (inr (y, is, front)) finds stands = subst (λ (q : Option (tree.Exp A)). Goal base (tree.call m tree.no_target v args) (tree.call l (target_of q) word es)) (sym is)
        (call_goal k tree.no_target (tree.on y) finds (subst (λ (q : Option (tree.Exp A)). To tells rows R c d w (method_decl (method_in R k)) (tree.call l (target_of q) word es)) is stands) (by front))
      where
        by : (Each tells rows R c d w (IsThis tells rows R c d w) y ⊎ IsNever k) → (IsInstanceDecl rows (method_decl k) → ReceiverGoal ((tells m base).from) tree.no_target (tree.on y)) ⊎ IsNever k
        by (inl each) = inl (λ has i x s a t. this_pair tells rows R c d w r D X by_images locals (own has) x s a (each i s t))
        by (inr never) = inr never

    dotted_goal : (k : MethodKey) (e u : tree.Exp A) (z : Option (tree.Exp A)) → DottedForms tells rows R c d w (method_decl (method_in R k)) u z → (Goal ((tells m base).from) e u ⊎ IsNever k) → CallFinds rows c (tree.on e) v.text args (one (method_decl k))
        → To tells rows R c d w (method_decl (method_in R k)) (tree.call l (target_of z) word es) → Goal base (tree.call m (tree.on e) v args) (tree.call l (target_of z) word es)
    unfolding ReceiverCode
    dotted_goal k e u z (y, is, front) how finds stands = subst (λ (q : Option (tree.Exp A)). Goal base (tree.call m (tree.on e) v args) (tree.call l (target_of q) word es)) (sym is)
        (call_goal k (tree.on e) (tree.on y) finds (subst (λ (q : Option (tree.Exp A)). To tells rows R c d w (method_decl (method_in R k)) (tree.call l (target_of q) word es)) is stands) (by how front))
      where
        by : (Goal ((tells m base).from) e u ⊎ IsNever k) → (Each tells rows R c d w (IsOf tells rows R c d w u) y ⊎ IsNever k) → (IsInstanceDecl rows (method_decl k) → ReceiverGoal ((tells m base).from) (tree.on e) (tree.on y)) ⊎ IsNever k
        by (inr never) front = inr never
        by (inl goal) (inr never) = inr never
        by (inl goal) (inl each) = inl (λ has i x s a t. let there = each i s t in goal there.0 x s a there.1)

    super_goal : (k : MethodKey) → (IsInstanceDecl rows (method_decl k) → X.own) → SuperCallFinds rows c v.text args (one (method_decl k)) → To tells rows R c d w (method_decl (method_in R k)) (tree.super_call l word es) → Goal base (tree.super_call m v args) (tree.super_call l word es)
    unfolding ExpCode
    super_goal k own finds stands i x z (y, xs, found, codes, code) (n, zs, other, new_codes, new) =
        let old = subst (λ (q : Decl). SuperCallCode rows q (place (λ m b. (tells m b).from) rows c (word_at (λ m b. (tells m b).from) m base v)) xs x)
        (decided_one _ (SuperCallFinds rows c v.text args) (w.old.super_calls v.text args) y (method_decl k) found finds) code in
        let image = subst (λ (q : Decl). SuperCallCode (rows_in R) q (place (λ m b. (tells m b).from) (rows_in R) d (word_at (λ m b. (tells m b).from) l i word)) zs z)
        (sym (super_call_only (λ m b. (tells m b).from) (rows_in R) d w.one_new w.new n (super_no_class (rows_in R) n _ zs z new) l word es other value 0 (stands.reads value 0).0 (method_decl (method_in R k)) (stands.reads value 0).1)) new in
        super_call_image tells rows R c d w r D X by_images k own _ _ xs zs x z old image (row _ xs zs codes new_codes)

  -- the arguments' types have gone to their images
  abbrev ArgsTo : tree.Exps A → tree.Exps A → Type 0
  ArgsTo args es = (ts : List Ty) → HaveTypes rows c args ts → HaveTypes (rows_in R) d es (R.types_now c args ts)

  module _ (base : ℕ) (m : A) (v : tree.Word A) (args es : tree.Exps A) (args_to : ArgsTo args es) (row : RowGoal ((tells m base).from) args es) (at : ℕ) (h : Choice) (none : losses_of h ≡ []) where
    abbrev Simple : Choice → tree.Exp A
    Simple x = tree.call m (target_of (operand_to m (front_of x) None)) (word_to x v) es

    pub simple_call_goal : (IsOnThis rows c (tree.call m tree.no_target v args) → X.own) → SimpleCallChoice (λ m b. (tells m b).from) rows R c at v.text args h → Goal base (tree.call m tree.no_target v args) (Simple h)
    simple_call_goal on_this (k, ts, finds, types, inl (f, taken, is)) = subst (λ (x : Choice). Goal base (tree.call m tree.no_target v args) (Simple x)) (sym is)
        (simple_goal base m m v (word_to (spelled v.text (method_in R k).name (method_in R k).class f) v) args es row k (λ has. on_this (k, finds, has)) _ front finds
        (call_by_name (λ m b. (tells m b).from) (rows_in R) w.images.are w.one_new d w.new w.rebind w.fronts m v.mark v.text (method_in R k) es (R.types_now c args ts) (args_to ts types) taken.place f taken.stands binds))
      where
        binds : Binds (rows_in R) (scope_of d) (reference ref.MethodSimple (method_in R k).name None (R.types_now c args ts)) (method_decl (method_in R k)) f
        binds = to_scope tells rows R c d w (reference ref.MethodSimple (method_in R k).name None (R.types_now c args ts)) (method_decl (method_in R k)) f taken.binds

        on_class : f ≡ OnClass → IsNever k
        on_class e = (subst (λ (z : Form). Binds (rows_in R) (scope_of d) (reference ref.MethodSimple (method_in R k).name None (R.types_now c args ts)) (method_decl (method_in R k)) z) e binds).1.static

        on_outer : f ≡ OnOuterClass → IsNever k × ((o : List ℕ) × ((method_in R k).class.outer ≡ Some o))
        on_outer e = let b = subst (λ (z : Form). Binds (rows_in R) (scope_of d) (reference ref.MethodSimple (method_in R k).name None (R.types_now c args ts)) (method_decl (method_in R k)) z) e binds in (b.3.static, (b.0, b.1))

        front : SimpleFront tells rows R c d w (method_decl (method_in R k)) (operand_to m (front_of (spelled v.text (method_in R k).name (method_in R k).class f)) None)
        front = simple_front tells rows R c d w m v.mark v.text (method_in R k).name (method_decl (method_in R k)) (method_in R k).class (tree.this m) taken.place f taken.stands on_class on_outer
    simple_call_goal on_this (k, ts, finds, types, inr (none_binds, (f, found, is))) = absurd (lost_some _ (sym (ap losses_of is) ∙ none))

    pub super_call_goal : (IsOnThis rows c (tree.super_call m v args) → X.own) → SuperCallChoice (λ m b. (tells m b).from) rows R c at v.text args h → Goal base (tree.super_call m v args) (tree.super_call m (word_to h v) es)
    super_call_goal on_this (k, ts, finds, types, inl (f, taken, is)) = subst (λ (x : Choice). Goal base (tree.super_call m v args) (tree.super_call m (word_to x v) es)) (sym is)
        (one_form (λ f. Binds (rows_in R) (scope_of d) (reference ref.AsAsked (method_in R k).name None (R.types_now c args ts)) (method_decl (method_in R k)) f
        → Goal base (tree.super_call m v args) (tree.super_call m (word_to (spelled v.text (method_in R k).name (method_in R k).class f) v) es))
        (λ binds. super_goal base m m v (word_to (spelled v.text (method_in R k).name (method_in R k).class Asked) v) args es row k (λ has. on_this (k, finds, has)) finds
        (call_by_super (λ m b. (tells m b).from) (rows_in R) w.images.are w.one_new d w.new w.rebind w.fronts m v.mark v.text (method_in R k) es (R.types_now c args ts) (args_to ts types) binds))
        taken.place f taken.stands
        (to_scope tells rows R c d w (reference ref.AsAsked (method_in R k).name None (R.types_now c args ts)) (method_decl (method_in R k)) f taken.binds))
    super_call_goal on_this (k, ts, finds, types, inr (none_binds, (f, found, is))) = absurd (lost_some _ (sym (ap losses_of is) ∙ none))

    module _ (e y : tree.Exp A) (holds : drops_operand (front_of h) ≡ false → Becomes (λ m b. (tells m b).from) rows R c d e y × Goal ((tells m base).from) e y) where
      abbrev Dotted : Choice → tree.Exp A
      Dotted x = tree.call m (target_of (operand_to m (front_of x) (Some y))) (word_to x v) es

      pub dotted_call_goal : CallChoice (λ m b. (tells m b).from) rows R c at e v.text args h → Goal base (tree.call m (tree.on e) v args) (Dotted h)
      dotted_call_goal (k, ts, finds, types, inl (o, named, (words, stand, inl (f, taken, is)))) = subst (λ (x : Choice). Goal base (tree.call m (tree.on e) v args) (Dotted x)) (sym is)
          (dotted_goal base m m v (word_to (spelled v.text (method_in R k).name (method_in R k).class f) v) args es row k e y _
          (class_front tells rows R c d w m v.mark v.text (method_in R k).name (method_decl (method_in R k)) (method_in R k).class y taken.place f taken.stands never
          (class_outer tells rows R c d w r D X by_images locals (behind_words words (reference ref.ThroughClass (method_in R k).name (operand_of (class_in R o)) (R.types_now c args ts))) (method_decl (method_in R k)) f binds))
          (inr never) finds
          (call_through_class (λ m b. (tells m b).from) (rows_in R) w.images.are w.one_new d w.new w.rebind w.fronts m v.mark v.text (method_in R k) es (R.types_now c args ts) (args_to ts types)
          y (class_in R o) words taken.place f taken.stands
          (λ asked. (holds (ap (λ (q : Choice). drops_operand (front_of q)) (is ∙ ap (spelled v.text (method_in R k).name (method_in R k).class) asked) ∙ renamed_holds tells rows R c d w r D X by_images locals v.text (method_in R k).name)).0.named o named)
          binds))
        where
          binds : Binds (rows_in R) (scope_of d) (behind_words words (reference ref.ThroughClass (method_in R k).name (operand_of (class_in R o)) (R.types_now c args ts))) (method_decl (method_in R k)) f
          binds = to_scope tells rows R c d w (behind_words words (reference ref.ThroughClass (method_in R k).name (operand_of (class_in R o)) (R.types_now c args ts))) (method_decl (method_in R k)) f taken.binds

          never : IsNever k
          never = class_static tells rows R c d w r D X by_images locals (class_in R o) words (method_in R k).name (R.types_now c args ts) (method_decl (method_in R k)) taken.place f taken.stands binds
      dotted_call_goal (k, ts, finds, types, inl (o, named, (words, stand, inr (none_binds, (f, found, is))))) = absurd (lost_some _ (sym (ap losses_of is) ∙ none))
      dotted_call_goal (k, ts, finds, types, inr (not, (o, type, inl (f, taken, is)))) = subst (λ (x : Choice). Goal base (tree.call m (tree.on e) v args) (Dotted x)) (sym is)
          (dotted_goal base m m v (word_to (spelled v.text (method_in R k).name (method_in R k).class f) v) args es row k e y _
          (value_front tells rows R c d w m v.mark v.text (method_in R k).name (method_decl (method_in R k)) (method_in R k).class y of.0 typed taken.place f taken.stands
          (cast_above tells rows R c d w r D X by_images locals of.0 ref.MethodOn (method_in R k).name (R.types_now c args ts) (method_decl (method_in R k)) f binds))
          (inl part.1) finds
          (call_on_value (λ m b. (tells m b).from) (rows_in R) w.images.are w.one_new d w.new w.rebind w.fronts m v.mark v.text (method_in R k) es (R.types_now c args ts) (args_to ts types)
          y of.0 typed (part.0.apart not) taken.place f taken.stands binds))
        where
          asked : Binds (rows_in R) (scope_of d) (reference ref.MethodOn (method_in R k).name (on_type (R.type_now c e (class o))) (R.types_now c args ts)) (method_decl (method_in R k)) f
          asked = to_scope tells rows R c d w (reference ref.MethodOn (method_in R k).name (on_type (R.type_now c e (class o))) (R.types_now c args ts)) (method_decl (method_in R k)) f taken.binds

          of : (j : ClassKey) × (R.type_now c e (class o) ≡ class j)
          of = call_class tells rows R c d w r D X by_images locals (method_in R k).name (R.type_now c e (class o)) (R.types_now c args ts) (method_decl (method_in R k)) taken.place f taken.stands asked

          binds : Binds (rows_in R) (scope_of d) (reference ref.MethodOn (method_in R k).name (on_type (class of.0)) (R.types_now c args ts)) (method_decl (method_in R k)) f
          binds = subst (λ (t : Ty). Binds (rows_in R) (scope_of d) (reference ref.MethodOn (method_in R k).name (on_type t) (R.types_now c args ts)) (method_decl (method_in R k)) f) of.1 asked

          part : Becomes (λ m b. (tells m b).from) rows R c d e y × Goal ((tells m base).from) e y
          part = holds (ap (λ (q : Choice). drops_operand (front_of q)) is ∙ value_holds tells rows R c d w r D X by_images locals v.text (method_in R k).name (method_in R k).class taken.place f taken.stands)

          typed : HasType (rows_in R) d y (class of.0)
          typed = subst (λ (t : Ty). HasType (rows_in R) d y t) of.1 (part.0.typed (class o) type)
      dotted_call_goal (k, ts, finds, types, inr (not, (o, type, inr (none_binds, (f, found, is))))) = absurd (lost_some _ (sym (ap losses_of is) ∙ none))
