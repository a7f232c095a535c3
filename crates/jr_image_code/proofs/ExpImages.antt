-- Expressions: the code of a rewritten expression is the image of the code of the old one.
use Rattle.std.proofs.Common.{◌≡◌, ℕ, suc, List, [], ◌++◌, Some, None, false, pos, refl, sym, ap, subst, ◌∙◌, inl, inr}
use Rattle.jr_text.specs.declared.spans.Span.{Span}
use Rattle.jr_ast.specs.declared.operators.BinOp.{BinOp}
use Rattle.jr_ast.specs.declared.operators.BinOp.TheVariants as op
use Rattle.jr_ast.specs.Tree as tree
use Rattle.jr_runs.specs.Values as core_value
use Rattle.jr_runs.specs.Core as core
use Rattle.jr_runs.specs.Rows as core_rows
use Rattle.jr_runs.specs.Arithmetic.{wrapped}
use Rattle.jr_runs.specs.Translation.{unescaped, sign_of, bump_of, operation}
use Rattle.jr_runs.specs.KeyMaps.{KeyMap, value_image}
use Rattle.jr_grammar.specs.Shape.{unsigned_level, sign_level, rank_of}
use Rattle.jr_table.specs.Keys.{ClassKey, CtorKey, Ty, class}
use Rattle.jr_table.specs.Decls.{Decl, class_decl, field_decl, method_decl, constructor_decl, local_decl, LocalKey}
use Rattle.jr_table.specs.Rows.{Row}
use Rattle.jr_table.specs.Entries.{IsRowOf}
use Rattle.jr_table.specs.Keyed.{IsAssignable}
use Rattle.jr_table.specs.Found.{one}
use Rattle.jr_table.specs.Scope.{Scope}
use Rattle.jr_table.specs.Lookup.{FindsVariable, FindsCtorOf, Shows}
use Rattle.jr_table.specs.declared.answers.Answer.{Answer}
use Rattle.jr_table.specs.declared.answers.Answer.TheVariants as number
use Rattle.jr_table.specs.Context.{Context, scope_of, WritesType}
use Rattle.jr_table.specs.Binding.{HasType, HaveTypes, CreationFinds, Role, value, left}
use Rattle.jr_spell.specs.declared.references.RefForm.TheVariants as ref
use Rattle.jr_spell.specs.Binds.{Binds}
use Rattle.jr_rewrite.specs.Respellings.{Choice, front_of}
use Rattle.jr_rewrite.specs.Rewritten.{Rewritten, plain, within, joined, losses_of, word_out, name_out, field_out, super_field_out, simple_call_out, dotted_call_out, operand_losses, Called}
use Rattle.jr_rewrite.specs.Spots.{Asks, level, a_target, operand_asks, Spotted, nowhere, spotted, OrThis, OrPart}
use Rattle.jr_rewrite.specs.Rewrites.{Choosing, TransformsExp, TransformsTarget, TransformsRow, TransformsPart}
use Rattle.jr_images.specs.Regions.{Region}
use Rattle.jr_images.specs.Spelling.{choosing, reference, operand_of, CreationChoice}
use Rattle.jr_images.proofs.Chosen.{lost_some, left_none, right_none, lost_none}
use Rattle.jr_images.proofs.Forms.{one_form}
use Rattle.jr_images.proofs.OneBound.{has_one_type}
use Rattle.jr_code.proofs.OneFound.{decided_one, written_once}
use Rattle.jr_kept_references.proofs.RegionTypes.{to_scope, type_kept}
use Rattle.jr_kept_references.specs.InRegions.{rows_in, class_in, ctor_in, type_in}
use Rattle.jr_kept_references.specs.KeptInRegions.{Becomes, PartsBecome}
use Rattle.jr_kept_references.specs.AlongSpots.{SpotStands}
use Rattle.jr_kept_references.proofs.RegionExpressions.{kept, kept_row, of_part, operand_none}
use Rattle.jr_kept_references.proofs.RegionWorlds.{RegionWorld}
use Rattle.jr_code.specs.RunKeys.{RunKeys, Place}
use Rattle.jr_code.specs.Coded.{Code, TargetCode, IsOwn, FieldCode, VariableCode, CastCode, place, ExpCode, TargetOf, RowCode}
use Rattle.jr_image_code.specs.KnownPlaces.{IsKnown}
use Rattle.jr_image_code.specs.CodeRelations.{Relations, IsFreeTarget, AreExpsRelated}
use Rattle.jr_image_code.specs.CodedSpots.{CastIs, CastsCoded, GoesByImages, LocalsStay, ThisStays, PartStays, IsOnThis, IsLocal, ExpsCoded, AreCoded, SpotsCoded}
use Rattle.jr_image_code.proofs.References.{exps_by}
use Rattle.jr_image_code.proofs.VariableImages.{local_goals, own_field_goals, class_goals, super_field_goals, field_goals, member_class_goals}
use Rattle.jr_image_code.proofs.CallImages.{RowGoal, simple_call_goal, super_call_goal, dotted_call_goal}

-- what is found has a row
pub shown_row : (rows : List Row) (a : Answer) (x : Decl) → Shows rows a (one x) → (j : ℕ) × IsRowOf rows x j
shown_row rows (number.One j) x h = (j, h)
shown_row rows number.Nothing x h = absurd h
shown_row rows (number.Many j k) x h = absurd h
shown_row rows (number.NotAccessible j) x h = absurd h
shown_row rows (number.FromStatic j) x h = absurd h

-- a class that is written has a row
pub written_row : {A : Type 0} (rows : List Row) (s : Scope) (t : tree.TypeName A) (k : ClassKey) → WritesType rows s t (class k) → (j : ℕ) × IsRowOf rows (class_decl k) j
written_row rows s (tree.int m) k h = absurd cc
written_row rows s (tree.boolean m) k h = absurd cc
written_row rows s (tree.named m None w) k (j, (a, finds, shows), is) = let same : j ≡ k = cc in subst (λ (z : ClassKey). (n : ℕ) × IsRowOf rows (class_decl z) n) same (shown_row rows a (class_decl j) shows)
written_row rows s (tree.named m (Some o) w) k (j, (i, front, (a, finds, shows)), is) = let same : j ≡ k = cc in subst (λ (z : ClassKey). (n : ℕ) × IsRowOf rows (class_decl z) n) same (shown_row rows a (class_decl j) shows)

-- binary operators
module _ (r : KeyMap RunKeys) (D : core_rows.Rows RunKeys) (X : Relations) (all : AreExpsRelated r D X) where
  operation_image : (p q : Place) (o : BinOp) (a x b z : Code) → X.exp a x → X.exp b z → X.exp (operation p o a b) (operation q o x z)
  operation_image p q op.Or a x b z f h = all.of_either (Some p) (Some q) a x b z f h
  operation_image p q op.And a x b z f h = all.of_both (Some p) (Some q) a x b z f h
  operation_image p q op.Eq a x b z f h = all.of_binary (Some p) (Some q) core.equal a x b z f h
  operation_image p q op.Ne a x b z f h = all.of_binary (Some p) (Some q) core.different a x b z f h
  operation_image p q op.Lt a x b z f h = all.of_binary (Some p) (Some q) (core.comparison core.less) a x b z f h
  operation_image p q op.Gt a x b z f h = all.of_binary (Some p) (Some q) (core.comparison core.greater) a x b z f h
  operation_image p q op.Le a x b z f h = all.of_binary (Some p) (Some q) (core.comparison core.at_most) a x b z f h
  operation_image p q op.Ge a x b z f h = all.of_binary (Some p) (Some q) (core.comparison core.at_least) a x b z f h
  operation_image p q op.Add a x b z f h = all.of_binary (Some p) (Some q) (core.arithmetic core.add) a x b z f h
  operation_image p q op.Sub a x b z f h = all.of_binary (Some p) (Some q) (core.arithmetic core.subtract) a x b z f h
  operation_image p q op.Mul a x b z f h = all.of_binary (Some p) (Some q) (core.arithmetic core.multiply) a x b z f h
  operation_image p q op.Div a x b z f h = all.of_binary (Some p) (Some q) (core.arithmetic core.divide) a x b z f h
  operation_image p q op.Rem a x b z f h = all.of_binary (Some p) (Some q) (core.arithmetic core.remainder) a x b z f h

module _ {A : Type 0} (tells : A → ℕ → Span) (rows : List Row) (R : Region A) (c d : Context) (w : RegionWorld A rows R c d)
    (keys : KeyMap RunKeys) (D : core_rows.Rows RunKeys) (X : Relations) (by_images : GoesByImages rows R keys D X) (locals : LocalsStay rows R X c)
    (super_at : Context → ℕ) (S : Spotted A) (casts : CastsCoded tells rows R X (choosing (λ m b. (tells m b).from) rows R super_at) S c d)
    (parts : PartsBecome (λ m b. (tells m b).from) rows R S c d) (spots : SpotsCoded (λ m b. (tells m b).from) rows R X S c d) where
  abbrev Chosen : Choosing A
  Chosen = choosing (λ m b. (tells m b).from) rows R super_at

  abbrev Value : (b : ℕ) → tree.Exp A → tree.Exp A → Type 0
  Value b e y = ExpsCoded (λ m b. (tells m b).from) rows R X c d b e y

  abbrev Both : (b : ℕ) → tree.Exp A → tree.Exp A → Type 0
  Both b e y = AreCoded (λ m b. (tells m b).from) rows R X c d b e y

  abbrev Row_to : (b : ℕ) → tree.Exps A → tree.Exps A → Type 0
  Row_to b es ys = RowGoal tells rows R c d w keys D X by_images locals b es ys

  by : (x Y z Z : Code) → x ≡ Y → z ≡ Z → X.exp Y Z → X.exp x z
  by x Y z Z a b h = exps_by tells rows R c d w keys D X by_images x Y z Z a b h

  -- ---- creations

  module _ (m : A) (t u : tree.TypeName A) (args es : tree.Exps A) (type_goes : (k : Ty) → WritesType rows (scope_of c) t k → WritesType (rows_in R) (scope_of d) u (type_in R k))
      (args_to : (ts : List Ty) → HaveTypes rows c args ts → HaveTypes (rows_in R) d es (R.types_now c args ts)) (base : ℕ) (row : Row_to ((tells m base).from) args es) (h : Choice) (none : losses_of h ≡ []) where
    created : (k : ClassKey) (q : CtorKey) → WritesType rows (scope_of c) t (class k) → CreationFinds rows c t args (one (constructor_decl q))
        → CreationFinds (rows_in R) d u es (one (constructor_decl (ctor_in R q))) → ((j : ℕ) × IsRowOf rows (constructor_decl q) j) → Value base (tree.create m t args) (tree.create m u es)
    unfolding ExpCode
    created k q written finds found (j, there) i x z (o, p, xs, type, old, codes, is) (s, v, zs, other, new, others, was) =
        let old_type = written_once rows w.one_old (scope_of c) t (class o) (class k) type written in
        let class_old : o ≡ k = cc in
        let new_type = written_once (rows_in R) w.one_new (scope_of d) u (class s) (class (class_in R k)) other (type_goes (class k) written) in
        let class_new : s ≡ class_in R k = cc in
        let decl_old = decided_one _ (CreationFinds rows c t args) (w.old.creations t args) (constructor_decl p) (constructor_decl q) old finds in
        let ctor_old : p ≡ q = cc in
        let decl_new = decided_one _ (CreationFinds (rows_in R) d u es) (w.new.creations u es) (constructor_decl v) (constructor_decl (ctor_in R q)) new found in
        let ctor_new : v ≡ ctor_in R q = cc in
        let here = written_row rows (scope_of c) t k written in
        let at = Some _ in
        let to_at = Some _ in
        by x (core.create at k q xs) z (core.create to_at (class_in R k) (ctor_in R q) zs)
        (is ∙ (λ l. core.create at (class_old l) (ctor_old l) xs)) (was ∙ (λ l. core.create to_at (class_new l) (ctor_new l) zs))
        (subst (λ (n : ClassKey). X.exp (core.create at k q xs) (core.create to_at n (ctor_in R q) zs)) (by_images.maps.class k here.0 here.1)
        (subst (λ (n : CtorKey). X.exp (core.create at k q xs) (core.create to_at (keys.class k) n zs)) (by_images.maps.constructor q j there)
        (by_images.exps.of_create at to_at k q xs zs (by_images.has.constructor q j there) (row _ xs zs codes others))))

    created_row : (q : CtorKey) → CreationFinds rows c t args (one (constructor_decl q)) → (j : ℕ) × IsRowOf rows (constructor_decl q) j
    created_row q (inl (k, written, inl (ts, types, (a, finds, shows)))) = shown_row rows a (constructor_decl q) shows
    created_row q (inl (k, written, inr (not, is))) = absurd cc
    created_row q (inr (not, is)) = absurd cc

    creation_goal : CreationChoice (λ m b. (tells m b).from) rows R c base (tree.create m t args) h → Value base (tree.create m t args) (tree.create m u es)
    creation_goal (k, q, ts, written, finds, types, inl (f, taken, is)) = created k q written finds
        (inl (
          class_in R k,
          type_goes (class k) written,
          inl (
            R.types_now c args ts,
            args_to ts types,
            one_form (λ f. Binds (rows_in R) (scope_of d) (reference ref.AsAsked [] (operand_of (class_in R k)) (R.types_now c args ts)) (constructor_decl (ctor_in R q)) f
                → FindsCtorOf (rows_in R) (scope_of d) (class_in R k) (R.types_now c args ts) (one (constructor_decl (ctor_in R q)))) (λ binds. binds)
                taken.place f taken.stands
                (to_scope tells rows R c d w (reference ref.AsAsked [] (operand_of (class_in R k)) (R.types_now c args ts)) (constructor_decl (ctor_in R q)) f taken.binds),
          ),
        ))
        (created_row q finds)
    creation_goal (k, q, ts, written, finds, types, inr (none_binds, (f, found, is))) = absurd (lost_some _ (sym (ap losses_of is) ∙ none))

  -- ---- casts

  module _ (e y : tree.Exp A) (t u : tree.TypeName A) (typed : (k : Ty) → HasType rows c e k → HasType (rows_in R) d y (R.type_now c e k))
      (type_goes : (k : Ty) → WritesType rows (scope_of c) t k → WritesType (rows_in R) (scope_of d) u (type_in R k)) where
    type_from : (a n : Ty) → HasType rows c e a → HasType (rows_in R) d y n → n ≡ R.type_now c e a
    type_from a n has new_has = has_one_type (λ m b. (tells m b).from) (rows_in R) d w.one_new w.new y n (R.type_now c e a) new_has (typed a has)

    type_written : (b o : Ty) → WritesType rows (scope_of c) t b → WritesType (rows_in R) (scope_of d) u o → o ≡ type_in R b
    type_written b o written new_written = written_once (rows_in R) w.one_new (scope_of d) u o (type_in R b) new_written (type_goes b written)

    cast_pair : (a b n o : Ty) (j i : ℕ) (p q : Place) (z s x v : Code) → CastIs tells rows R X Chosen S c d j e y a b → ExpCode (λ m b. (tells m b).from) rows c j e z → ExpCode (λ m b. (tells m b).from) (rows_in R) d i y s
        → HasType rows c e a → WritesType rows (scope_of c) t b → HasType (rows_in R) d y n → WritesType (rows_in R) (scope_of d) u o
        → CastCode rows a b p z x → CastCode (rows_in R) n o q s v → X.exp z s → X.exp x v
    cast_pair a b n o j i p q z s x v (inr related) code new_code has written new_has new_written old new same = related i p q z s x v code new_code same old
        (subst (λ (l : Ty). CastCode (rows_in R) l (type_in R b) q s v) (type_from a n has new_has) (subst (λ (l : Ty). CastCode (rows_in R) n l q s v) (type_written b o written new_written) new))
    cast_pair a b n o j i p q z s x v (inl agree) code new_code has written new_has new_written old new same = pair old new
      where
        from : n ≡ R.type_now c e a
        from = type_from a n has new_has

        to : o ≡ type_in R b
        to = type_written b o written new_written

        known_type : IsKnown rows b
        known_type k is = written_row rows (scope_of c) t k (subst (λ (i : Ty). WritesType rows (scope_of c) t i) is written)

        there : IsAssignable rows a b → IsAssignable (rows_in R) n o
        there h = subst (λ (i : Ty). IsAssignable (rows_in R) i o) (sym from) (subst (λ (i : Ty). IsAssignable (rows_in R) (R.type_now c e a) i) (sym to) (agree.0 h))

        here : IsAssignable (rows_in R) n o → IsAssignable rows a b
        here h = agree.1 (subst (λ (i : Ty). IsAssignable (rows_in R) i (type_in R b)) from (subst (λ (i : Ty). IsAssignable (rows_in R) n i) to h))

        pair : CastCode rows a b p z x → CastCode (rows_in R) n o q s v → X.exp x v
        pair (inl (sure, is)) (inl (sure_too, was)) = by x z v s is was same
        pair (inl (sure, is)) (inr (fails, code)) = absurd (fails (there sure))
        pair (inr (fails, code)) (inl (sure, was)) = absurd (fails (here sure))
        pair (inr (fails, (k, class_is, is))) (inr (fails_too, (i, class_was, was))) =
            let e1 : class i ≡ class (class_in R k) = sym class_was ∙ to ∙ ap (type_in R) class_is in
            let same_class : i ≡ class_in R k = cc in
            let row = known_type k class_is in
            by x (core.cast (Some p) k z) v (core.cast (Some q) (class_in R k) s) is (was ∙ ap (λ (l : ClassKey). core.cast (Some q) l s) same_class)
            (subst (λ (l : ClassKey). X.exp (core.cast (Some p) k z) (core.cast (Some q) l s)) (by_images.maps.class k row.0 row.1) (by_images.exps.of_cast (Some p) (Some q) k z s same))

  -- ---- all expressions

  -- it may be rewritten node by node, whatever is asked of it
  abbrev pub Stays : Role → (base : ℕ) → tree.Exp A → Type 0
  Stays r base e = (k : Asks) × PartStays S k c r base e

  -- node by node, or as a spot has it
  pub part_goals : (k : Asks) (r : Role) (base : ℕ) (e : tree.Exp A) (p : Rewritten (tree.Exp A)) → TransformsPart tells Chosen S k c r base e p → p.losses ≡ []
      → (TransformsExp tells Chosen S c r base e p → Stays r base e → Both base e p.tree) → Both base e p.tree
  part_goals k r base e p made none by_node = by_spots S (λ stays. (k, stays)) made (λ spot. spots.parts k r base e 0 p.tree spot)
    where
      by_spots : (s : Spotted A) → (PartStays s k c r base e → Stays r base e) → OrPart s k c r base e p (TransformsExp tells Chosen S c r base e p) → (SpotStands s k c d r base e 0 p.tree → Both base e p.tree) → Both base e p.tree
      by_spots nowhere own inner is = by_node inner (own tt)
      by_spots (spotted s) own (inl (stays, inner)) is = by_node inner (own stays)
      by_spots (spotted s) own (inr spot) is = is (p, spot, none, refl)

  part_becomes : (k : Asks) (r : Role) (base : ℕ) (e : tree.Exp A) (p : Rewritten (tree.Exp A)) → TransformsPart tells Chosen S k c r base e p → p.losses ≡ [] → Becomes (λ m b. (tells m b).from) rows R c d e p.tree
  part_becomes k r base e p made none = of_part tells rows R c d w super_at S parts k r base e p made none (λ inner. (kept tells rows R c d w super_at S parts r base e p inner none).becomes)

  -- a member on `this` that stays has its receiver
  own_by : (r : Role) (base : ℕ) (e : tree.Exp A) → Stays r base e → IsOnThis rows c e → X.own
  own_by r base e held h = spots.on_this held.0 r base e held.1 h

  -- where `this` stays, it is `this`
  this_here : (s : Spotted A) → (ThisStays s → X.own) → {N : Type 0} → OrThis s N → X.own × N
  this_here nowhere own h = (own tt, h)
  this_here (spotted s) own h = (own h.0, h.1)

  -- a local that is assigned may be written
  field_free : (Receiver : Code → Type 0) (x : Decl) (p : Place) (t : TargetCode) → FieldCode rows Receiver x p t → IsFreeTarget X.free t
  field_free Receiver (field_decl k) p t (inl (static, is)) = subst (λ (z : TargetCode). IsFreeTarget X.free z) (sym is) tt
  field_free Receiver (field_decl k) p t (inr (lacks, (z, has, is))) = subst (λ (z : TargetCode). IsFreeTarget X.free z) (sym is) tt
  field_free Receiver (local_decl k) p t h = absurd h
  field_free Receiver (class_decl k) p t h = absurd h
  field_free Receiver (method_decl k) p t h = absurd h
  field_free Receiver (constructor_decl k) p t h = absurd h

  variable_free : (x : Decl) (p : Place) (t : TargetCode) → VariableCode rows x p t → ((k : LocalKey) → x ≡ local_decl k → X.free k.number) → IsFreeTarget X.free t
  variable_free (local_decl k) p t is free = subst (λ (z : TargetCode). IsFreeTarget X.free z) (sym is) (free k refl)
  variable_free (field_decl k) p t code free = field_free IsOwn (field_decl k) p t code
  variable_free (class_decl k) p t h free = absurd h
  variable_free (method_decl k) p t h free = absurd h
  variable_free (constructor_decl k) p t h free = absurd h

  free_target : (e : tree.Exp A) → ((k : LocalKey) → IsLocal rows c e k → X.free k.number) → (j : ℕ) (t : TargetCode) → TargetOf (λ m b. (tells m b).from) rows c j e t → IsFreeTarget X.free t
  unfolding TargetOf
  free_target (tree.name m v) free j t (x, finds, code) = variable_free x _ t code (λ k e. free k (subst (λ (z : Decl). FindsVariable rows (scope_of c) v.text (one z)) e finds))
  free_target (tree.field m e v) free j t (x, finds, code) = field_free _ x _ t code
  free_target (tree.super_field m v) free j t (x, finds, code) = field_free IsOwn x _ t code
  free_target (tree.number m n) free j t h = absurd h
  free_target (tree.truth m b) free j t h = absurd h
  free_target (tree.null m) free j t h = absurd h
  free_target (tree.string m s) free j t h = absurd h
  free_target (tree.this m) free j t h = absurd h
  free_target (tree.class_literal m u) free j t h = absurd h
  free_target (tree.call m to v args) free j t h = absurd h
  free_target (tree.super_call m v args) free j t h = absurd h
  free_target (tree.create m u args) free j t h = absurd h
  free_target (tree.paren m e) free j t h = absurd h
  free_target (tree.cast m u e) free j t h = absurd h
  free_target (tree.unary m o e) free j t h = absurd h
  free_target (tree.bump m o e) free j t h = absurd h
  free_target (tree.binary m o e f) free j t h = absurd h
  free_target (tree.assign m e f) free j t h = absurd h
  free_target (tree.compound m o e f) free j t h = absurd h

  part_free : (base : ℕ) (e : tree.Exp A) (p : Rewritten (tree.Exp A)) → TransformsPart tells Chosen S a_target c value base e p → p.losses ≡ [] → (t : TargetCode)
      → TargetOf (λ m b. (tells m b).from) rows c base e t → IsFreeTarget X.free t
  part_free base e p made none t code = by_spots S (λ stays k h. spots.written base e k stays h) made (λ spot. spots.targets base e 0 p.tree spot t code)
    where
      by_spots : (s : Spotted A) → (PartStays s a_target c value base e → (k : LocalKey) → IsLocal rows c e k → X.free k.number) → OrPart s a_target c value base e p (TransformsExp tells Chosen S c value base e p)
          → (SpotStands s a_target c d value base e 0 p.tree → IsFreeTarget X.free t) → IsFreeTarget X.free t
      by_spots nowhere free inner is = free_target e (free tt) base t code
      by_spots (spotted s) free (inl (stays, inner)) is = free_target e (free stays) base t code
      by_spots (spotted s) free (inr spot) is = is (p, spot, none, refl)

  move : (base : ℕ) (e : tree.Exp A) (o p : Rewritten (tree.Exp A)) → o ≡ p → Both base e p.tree → Both base e o.tree
  move base e o p is goal = subst (λ (z : Rewritten (tree.Exp A)). Both base e z.tree) (sym is) goal

  abbrev here : A → ℕ → Place
  here m b = place (λ m b. (tells m b).from) rows c ((tells m b).from)

  abbrev there : A → ℕ → Place
  there m i = place (λ m b. (tells m b).from) (rows_in R) d ((tells m i).from)

  literal_pair : (p q : Place) (v : core_value.Value RunKeys) (x z : Code) → x ≡ core.literal (Some p) v → z ≡ core.literal (Some q) (value_image keys v) → X.exp x z
  literal_pair p q v x z a b = by x (core.literal (Some p) v) z (core.literal (Some q) (value_image keys v)) a b (by_images.exps.of_literal (Some p) (Some q) v)

  rows_by : (x Y z Z : core.Exps RunKeys) → x ≡ Y → z ≡ Z → X.exps Y Z → X.exps x z
  rows_by x Y z Z a b h = subst (λ (q : core.Exps RunKeys). X.exps q z) (sym a) (subst (λ (y : core.Exps RunKeys). X.exps Y y) (sym b) h)

  ends : (x z : core.Exps RunKeys) → x ≡ core.Exps.end → z ≡ core.Exps.end → X.exps x z
  ends x z a b = rows_by x core.Exps.end z core.Exps.end a b by_images.exps.of_no_exps

  mutual
    unfolding TransformsExp TransformsTarget TransformsRow ExpCode TargetOf RowCode

    pub images : (r : Role) (base : ℕ) (e : tree.Exp A) (o : Rewritten (tree.Exp A)) → TransformsExp tells Chosen S c r base e o → Stays r base e → o.losses ≡ [] → Both base e o.tree
    images r base (tree.number m n) o is held none = move base (tree.number m n) o (plain (tree.number m n)) is ((λ i x z old new. literal_pair (here m base) (there m i) (core_value.int (wrapped (pos n))) x z old new), (λ i t u old new. absurd old))
    images r base (tree.truth m n) o is held none = move base (tree.truth m n) o (plain (tree.truth m n)) is ((λ i x z old new. literal_pair (here m base) (there m i) (core_value.truth n) x z old new), (λ i t u old new. absurd old))
    images r base (tree.null m) o is held none = move base (tree.null m) o (plain (tree.null m)) is ((λ i x z old new. literal_pair (here m base) (there m i) core_value.null x z old new), (λ i t u old new. absurd old))
    images r base (tree.string m s) o is held none = move base (tree.string m s) o (plain (tree.string m s)) is ((λ i x z old new. literal_pair (here m base) (there m i) (core_value.text (unescaped false s)) x z old new), (λ i t u old new. absurd old))
    images r base (tree.this m) o made held none = let here_is = this_here S spots.this made in move base (tree.this m) o (plain (tree.this m)) here_is.1 (
      (λ i x z old new. by x (core.this (Some (here m base))) z (core.this (Some (there m i))) old new (by_images.exps.of_this here_is.0 (Some (here m base)) (Some (there m i)))),
      (λ i t u old new. absurd old),
    )
    images r base (tree.name m v) o (h, inl (inl (k, spells)), is) held none = move base (tree.name m v) o (name_out tells h m base v) is (local_goals tells rows R c d w keys D X by_images locals base m v _ h (lost_none o (name_out tells h m base v) is none) k spells)
    images r base (tree.name m v) o (h, inl (inr (k, spells)), is) held none = move base (tree.name m v) o (name_out tells h m base v) is (own_field_goals tells rows R c d w keys D X by_images locals base m v _ h (lost_none o (name_out tells h m base v) is none) (own_by r base (tree.name m v) held) k spells)
    images r base (tree.name m v) o (h, inr spells, is) held none = class_goals tells rows R c d w keys D X by_images locals base m v _ h (lost_none o (name_out tells h m base v) is none) r spells o.tree
    images r base (tree.field m e v) o (h, p, inl spells, inner, is) held none = let all = lost_none o (field_out tells h m base e p v) is none in
        move base (tree.field m e v) o (field_out tells h m base e p v) is (field_goals tells rows R c d w keys D X by_images locals base m e p.tree v _ h (right_none (operand_losses tells h p.losses) (losses_of h) all)
        (λ stays. let left_none_lost = operand_none tells rows R c d w super_at S parts h p.losses all stays in (part_becomes (operand_asks (front_of h)) left ((tells m base).from) e p inner left_none_lost, (part_goals (operand_asks (front_of h)) left ((tells m base).from) e p inner left_none_lost (λ x own. images left ((tells m base).from) e p x own left_none_lost)).0)) spells)
    images r base (tree.field m e v) o (h, p, inr spells, inner, is) held none = let all = lost_none o (field_out tells h m base e p v) is none in
        member_class_goals tells rows R c d w keys D X by_images locals base m e p.tree v _ h (right_none (operand_losses tells h p.losses) (losses_of h) all)
        (λ stays. let left_none_lost = operand_none tells rows R c d w super_at S parts h p.losses all stays in (part_becomes (operand_asks (front_of h)) left ((tells m base).from) e p inner left_none_lost, (part_goals (operand_asks (front_of h)) left ((tells m base).from) e p inner left_none_lost (λ x own. images left ((tells m base).from) e p x own left_none_lost)).0)) r spells o.tree
    images r base (tree.super_field m v) o (h, spells, is) held none = move base (tree.super_field m v) o (super_field_out tells h m base v) is (super_field_goals tells rows R c d w keys D X by_images locals base m v _ h (lost_none o (super_field_out tells h m base v) is none) (own_by r base (tree.super_field m v) held) spells)
    images r base (tree.class_literal m t) o (p, types, is) held none = move base (tree.class_literal m t) o (within (λ u. tree.class_literal m u) p) is (
      (λ i x z (k, written, old) (n, other, new).
          let all = lost_none o (within (λ u. tree.class_literal m u) p) is none in
          let type = written_once (rows_in R) w.one_new (scope_of d) p.tree (class n) (class (class_in R k)) other (type_kept tells rows R c d w super_at _ t p types all (class k) written) in
          let same : n ≡ class_in R k = cc in
          let row = written_row rows (scope_of c) t k written in
          literal_pair (here m base) (there m i) (core_value.class_object k) x z old (new ∙ ap (λ (l : ClassKey). core.literal (Some (there m i)) (core_value.class_object l)) (same ∙ sym (by_images.maps.class k row.0 row.1)))),
      (λ i t u old new. absurd old),
    )
    images r base (tree.call m tree.no_target v args) o (h, p, q, spells, target, row, is) held none =
        let out = is ∙ ap (λ (z : Rewritten (Called tells)). joined (λ (t : Called tells) es. tree.call m t.target t.word es) z q) target in
        let all = lost_none o (joined (λ (t : Called tells) es. tree.call m t.target t.word es) (simple_call_out tells h m base v) q) out none in
        move base (tree.call m tree.no_target v args) o (joined (λ (t : Called tells) es. tree.call m t.target t.word es) (simple_call_out tells h m base v) q) out (
          simple_call_goal tells rows R c d w keys D X by_images locals base m v args q.tree (λ ts types. kept_row tells rows R c d w super_at S parts _ args q row (right_none (losses_of h) q.losses all) ts (R.types_now c args ts) (w.args c args ts) types)
              (row_images _ args q row (right_none (losses_of h) q.losses all)) _ h (left_none (losses_of h) q.losses all) (own_by r base (tree.call m tree.no_target v args) held) spells,
          (λ i t u old new. absurd old),
        )
    images r base (tree.call m (tree.on e) v args) o (h, p, q, spells, (x, inner, target), row, is) held none =
        let out = is ∙ ap (λ (z : Rewritten (Called tells)). joined (λ (t : Called tells) es. tree.call m t.target t.word es) z q) target in
        let all = lost_none o (joined (λ (t : Called tells) es. tree.call m t.target t.word es) (dotted_call_out tells h m base e x v) q) out none in
        let front = left_none (operand_losses tells h x.losses ++ losses_of h) q.losses all in
        let back = right_none (operand_losses tells h x.losses ++ losses_of h) q.losses all in
        move base (tree.call m (tree.on e) v args) o (joined (λ (t : Called tells) es. tree.call m t.target t.word es) (dotted_call_out tells h m base e x v) q) out (
          dotted_call_goal tells rows R c d w keys D X by_images locals base m v args q.tree (λ ts types. kept_row tells rows R c d w super_at S parts _ args q row back ts (R.types_now c args ts) (w.args c args ts) types)
              (row_images _ args q row back) _ h (right_none (operand_losses tells h x.losses) (losses_of h) front) e x.tree
              (λ stays. let left_none_lost = operand_none tells rows R c d w super_at S parts h x.losses front stays in (part_becomes (operand_asks (front_of h)) left ((tells m base).from) e x inner left_none_lost, (part_goals (operand_asks (front_of h)) left ((tells m base).from) e x inner left_none_lost (λ y own. images left ((tells m base).from) e x y own left_none_lost)).0)) spells,
          (λ i t u old new. absurd old),
        )
    images r base (tree.super_call m v args) o (h, q, spells, row, is) held none =
        let all = lost_none o (joined (λ v es. tree.super_call m v es) (word_out tells h ((tells m base).from) v) q) is none in
        move base (tree.super_call m v args) o (joined (λ v es. tree.super_call m v es) (word_out tells h ((tells m base).from) v) q) is (
          super_call_goal tells rows R c d w keys D X by_images locals base m v args q.tree (λ ts types. kept_row tells rows R c d w super_at S parts _ args q row (right_none (losses_of h) q.losses all) ts (R.types_now c args ts) (w.args c args ts) types)
              (row_images _ args q row (right_none (losses_of h) q.losses all)) _ h (left_none (losses_of h) q.losses all) (own_by r base (tree.super_call m v args) held) spells,
          (λ i t u old new. absurd old),
        )
    images r base (tree.create m t args) o (h, p, q, spells, types, row, is) held none =
        let all = lost_none o _ is none in
        let inside = right_none (losses_of h) (p.losses ++ q.losses) all in
        move base (tree.create m t args) o _ is (
          creation_goal m t p.tree args q.tree (type_kept tells rows R c d w super_at _ t p types (left_none p.losses q.losses inside))
              (λ ts have. kept_row tells rows R c d w super_at S parts _ args q row (right_none p.losses q.losses inside) ts (R.types_now c args ts) (w.args c args ts) have) base (row_images _ args q row (right_none p.losses q.losses inside)) h (left_none (losses_of h) (p.losses ++ q.losses) all) spells,
          (λ i t u old new. absurd old),
        )
    images r base (tree.paren m e) o (p, inner, is) held none =
        let all = lost_none o (within (λ x. tree.paren m x) p) is none in
        move base (tree.paren m e) o (within (λ x. tree.paren m x) p) is ((λ i x z old new. (part_goals (level 0) value ((tells m base).from) e p inner all (λ x own. images value ((tells m base).from) e p x own all)).0 _ x z old new), (λ i t u old new. absurd old))
    images r base (tree.cast m t e) o (p, q, types, inner, is) held none =
        let all = lost_none o (joined (λ u x. tree.cast m u x) p q) is none in
        let back = right_none p.losses q.losses all in
        move base (tree.cast m t e) o (joined (λ u x. tree.cast m u x) p q) is (
          (λ i x z (a, u, y, has, written, code, old) (n, l, s, new_has, new_written, new_code, new).
              cast_pair e q.tree t p.tree (part_becomes (level unsigned_level) value ((tells m base).from) e q inner back).typed (type_kept tells rows R c d w super_at _ t p types (left_none p.losses q.losses all))
              a u n l ((tells m base).from) _ _ _ y s x z (casts held.0 r base m t e q a u held.1 inner back has written) code new_code has written new_has new_written old new ((part_goals (level unsigned_level) value ((tells m base).from) e q inner back (λ x own. images value ((tells m base).from) e q x own back)).0 _ y s code new_code)),
          (λ i t u old new. absurd old),
        )
    images r base (tree.unary m s e) o (p, inner, is) held none =
        let all = lost_none o (within (λ x. tree.unary m s x) p) is none in
        move base (tree.unary m s e) o (within (λ x. tree.unary m s x) p) is (
          (λ i x z (y, code, old) (n, new_code, new). by x _ z _ old new (by_images.exps.of_signed _ _ (sign_of s) y n ((part_goals (level sign_level) value ((tells m base).from) e p inner all (λ x own. images value ((tells m base).from) e p x own all)).0 _ y n code new_code))),
          (λ i t u old new. absurd old),
        )
    images r base (tree.bump m s e) o (p, inner, is) held none =
        let all = lost_none o (within (λ x. tree.bump m s x) p) is none in
        move base (tree.bump m s e) o (within (λ x. tree.bump m s x) p) is (
          (λ i x z (t, code, old) (u, new_code, new). by x _ z _ old new (by_images.exps.of_bump _ _ (bump_of s) t u ((part_goals a_target value ((tells m base).from) e p inner all (λ x own. images value ((tells m base).from) e p x own all)).1 _ t u code new_code) (part_free ((tells m base).from) e p inner all t code))),
          (λ i t u old new. absurd old),
        )
    images r base (tree.binary m s e f) o (p, q, first, second, is) held none =
        let all = lost_none o (joined (λ u v. tree.binary m s u v) p q) is none in
        move base (tree.binary m s e f) o (joined (λ u v. tree.binary m s u v) p q) is (
          (λ i x z (y, n, one_code, other_code, old) (s1, t1, new_one, new_other, new). by x _ z _ old new (operation_image keys D X by_images.exps _ _ s y s1 n t1
              ((part_goals (level (rank_of s)) value ((tells m base).from) e p first (left_none p.losses q.losses all) (λ x own. images value ((tells m base).from) e p x own (left_none p.losses q.losses all))).0 _ y s1 one_code new_one) ((part_goals (level (suc (rank_of s))) value ((tells m base).from) f q second (right_none p.losses q.losses all) (λ x own. images value ((tells m base).from) f q x own (right_none p.losses q.losses all))).0 _ n t1 other_code new_other))),
          (λ i t u old new. absurd old),
        )
    images r base (tree.assign m e f) o (p, q, first, second, is) held none =
        let all = lost_none o (joined (λ u v. tree.assign m u v) p q) is none in
        move base (tree.assign m e f) o (joined (λ u v. tree.assign m u v) p q) is (
          (λ i x z (y, n, one_code, other_code, old) (s1, t1, new_one, new_other, new). by x _ z _ old new (by_images.exps.of_assign _ _ y s1 n t1
              ((part_goals a_target value ((tells m base).from) e p first (left_none p.losses q.losses all) (λ x own. images value ((tells m base).from) e p x own (left_none p.losses q.losses all))).1 _ y s1 one_code new_one) (part_free ((tells m base).from) e p first (left_none p.losses q.losses all) y one_code) ((part_goals (level 0) value ((tells m base).from) f q second (right_none p.losses q.losses all) (λ x own. images value ((tells m base).from) f q x own (right_none p.losses q.losses all))).0 _ n t1 other_code new_other))),
          (λ i t u old new. absurd old),
        )
    images r base (tree.compound m s e f) o (p, q, first, second, is) held none =
        let all = lost_none o (joined (λ u v. tree.compound m s u v) p q) is none in
        move base (tree.compound m s e f) o (joined (λ u v. tree.compound m s u v) p q) is (
          (λ i x z (a, y, n, arithmetic, one_code, other_code, old) (l, s1, t1, other_arithmetic, new_one, new_other, new).
              let same_some = sym other_arithmetic ∙ arithmetic in
              let same : l ≡ a = cc in
              by x _ z _ old (new ∙ ap (λ (k : core.Arithmetic). core.compound (Some (there m i)) k s1 t1) same) (by_images.exps.of_compound _ _ a y s1 n t1
              ((part_goals a_target value ((tells m base).from) e p first (left_none p.losses q.losses all) (λ x own. images value ((tells m base).from) e p x own (left_none p.losses q.losses all))).1 _ y s1 one_code new_one) (part_free ((tells m base).from) e p first (left_none p.losses q.losses all) y one_code) ((part_goals (level 0) value ((tells m base).from) f q second (right_none p.losses q.losses all) (λ x own. images value ((tells m base).from) f q x own (right_none p.losses q.losses all))).0 _ n t1 other_code new_other))),
          (λ i t u old new. absurd old),
        )

    pub row_images : (at : ℕ) (es : tree.Exps A) (q : Rewritten (tree.Exps A)) → TransformsRow tells Chosen S c at es q → q.losses ≡ [] → Row_to at es q.tree
    row_images at tree.end q is none = subst (λ (z : Rewritten (tree.Exps A)). Row_to at tree.end z.tree) (sym is) (λ i xs zs old new. ends xs zs old new)
    row_images at (tree.more e es) q (x, xs, inner, rest, is) none =
        let all = lost_none q (joined (λ y ys. tree.more y ys) x xs) is none in
        subst (λ (z : Rewritten (tree.Exps A)). Row_to at (tree.more e es) z.tree) (sym is) (λ i xs2 zs2 (y, ys, code, codes, old) (n, ns, new_code, new_codes, new).
        rows_by xs2 _ zs2 _ old new (by_images.exps.of_more_exps y n ys ns ((part_goals (level 0) value at e x inner (left_none x.losses xs.losses all) (λ u own. images value at e x u own (left_none x.losses xs.losses all))).0 _ y n code new_code) (row_images _ es xs rest (right_none x.losses xs.losses all) _ ys ns codes new_codes)))
