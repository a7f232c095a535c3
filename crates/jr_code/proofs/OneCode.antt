-- An expression has one code: what its references find is one, and so are the types that decide on a cast.
use Rattle.std.proofs.Common.{◌≡◌, ℕ, List, Some, sym, ap, subst, ◌∙◌, inl, inr}
use Rattle.jr_ast.specs.Tree as tree
use Rattle.jr_runs.specs.Values as value
use Rattle.jr_runs.specs.Core as core
use Rattle.jr_runs.specs.Translation.{sign_of, bump_of, operation}
use Rattle.jr_table.specs.Keys.{ClassKey, CtorKey, Ty, class}
use Rattle.jr_table.specs.Decls.{Decl, class_decl, field_decl, method_decl, constructor_decl, local_decl}
use Rattle.jr_table.specs.Rows.{Row}
use Rattle.jr_table.specs.Keyed.{IsAssignable}
use Rattle.jr_table.specs.Conditions.{AreRows}
use Rattle.jr_table.specs.Found.{one}
use Rattle.jr_table.specs.LookupLaws.{EachHasOne}
use Rattle.jr_table.specs.Context.{Context, scope_of}
use Rattle.jr_table.specs.Binding.{FieldFinds, SuperFieldFinds, CallFinds, SuperCallFinds, CreationFinds, word_at}
use Rattle.jr_table.specs.BindingLaws.{IsBound}
use Rattle.jr_code.specs.RunKeys.{RunKeys, Place}
use Rattle.jr_code.specs.Coded.{Code, TargetCode, IsOwn, FieldCode, VariableCode, CallCode, SuperCallCode, CastCode, NameTarget, SuperTarget, DottedTarget, ExpCode, TargetOf, ReceiverCode, RowCode}
use Rattle.jr_code.proofs.OneFound.{one_decl, decided_one, written_once, class_once, words_differ, type_once}

abbrev pub Once : {X : Type 0} → (X → Type 0) → Type 0
Once {X} P = (x z : X) → P x → P z → x ≡ z

own_once : Once IsOwn
own_once x z a b = a ∙ sym b

module _ (rows : List Row) (are : AreRows rows) where
  field_once : (Receiver : Code → Type 0) → Once Receiver → (d : Decl) (p : Place) → Once (FieldCode rows Receiver d p)
  field_once Receiver once (field_decl k) p t u (inl (static, is)) (inl (also, was)) = is ∙ sym was
  field_once Receiver once (field_decl k) p t u (inl (static, is)) (inr (lacks, other)) = absurd (words_differ rows are (field_decl k) static lacks)
  field_once Receiver once (field_decl k) p t u (inr (lacks, other)) (inl (static, was)) = absurd (words_differ rows are (field_decl k) static lacks)
  field_once Receiver once (field_decl k) p t u (inr (lacks, (x, code, is))) (inr (also, (z, other, was))) =
      is ∙ ap (λ (y : Code). core.field_of (Some p) y k) (once x z code other) ∙ sym was
  field_once Receiver once (class_decl k) p t u h g = absurd h
  field_once Receiver once (method_decl k) p t u h g = absurd h
  field_once Receiver once (constructor_decl k) p t u h g = absurd h
  field_once Receiver once (local_decl k) p t u h g = absurd h

  variable_once : (d : Decl) (p : Place) → Once (VariableCode rows d p)
  variable_once (local_decl k) p t u h g = h ∙ sym g
  variable_once (field_decl k) p t u h g = field_once IsOwn own_once (field_decl k) p t u h g
  variable_once (class_decl k) p t u h g = absurd h
  variable_once (method_decl k) p t u h g = absurd h
  variable_once (constructor_decl k) p t u h g = absurd h

  call_once : (Receiver : Code → Type 0) → Once Receiver → (d : Decl) (p : Place) (es : core.Exps RunKeys) → Once (CallCode rows Receiver d p es)
  call_once Receiver once (method_decl k) p es x z (inl (static, is)) (inl (also, was)) = is ∙ sym was
  call_once Receiver once (method_decl k) p es x z (inl (static, is)) (inr (lacks, other)) = absurd (words_differ rows are (method_decl k) static lacks)
  call_once Receiver once (method_decl k) p es x z (inr (lacks, other)) (inl (static, was)) = absurd (words_differ rows are (method_decl k) static lacks)
  call_once Receiver once (method_decl k) p es x z (inr (lacks, (y, code, is))) (inr (also, (v, other, was))) =
      is ∙ ap (λ (q : Code). core.instance_call (Some p) q k es) (once y v code other) ∙ sym was
  call_once Receiver once (class_decl k) p es x z h g = absurd h
  call_once Receiver once (field_decl k) p es x z h g = absurd h
  call_once Receiver once (constructor_decl k) p es x z h g = absurd h
  call_once Receiver once (local_decl k) p es x z h g = absurd h

  super_call_once : (d : Decl) (p : Place) (es : core.Exps RunKeys) → Once (SuperCallCode rows d p es)
  super_call_once (method_decl k) p es x z (inl (static, is)) (inl (also, was)) = is ∙ sym was
  super_call_once (method_decl k) p es x z (inl (static, is)) (inr (lacks, was)) = absurd (words_differ rows are (method_decl k) static lacks)
  super_call_once (method_decl k) p es x z (inr (lacks, is)) (inl (static, was)) = absurd (words_differ rows are (method_decl k) static lacks)
  super_call_once (method_decl k) p es x z (inr (lacks, is)) (inr (also, was)) = is ∙ sym was
  super_call_once (class_decl k) p es x z h g = absurd h
  super_call_once (field_decl k) p es x z h g = absurd h
  super_call_once (constructor_decl k) p es x z h g = absurd h
  super_call_once (local_decl k) p es x z h g = absurd h

  cast_once : (t s u v : Ty) (y z : Code) → s ≡ t → v ≡ u → z ≡ y → (p : Place) (x w : Code) → CastCode rows t u p y x → CastCode rows s v p z w → x ≡ w
  cast_once t s u v y z from to code p x w (inl (sure, is)) (inl (also, was)) = is ∙ sym code ∙ sym was
  cast_once t s u v y z from to code p x w (inl (sure, is)) (inr (fails, was)) =
      absurd (fails (subst (λ (a : Ty). IsAssignable rows a v) (sym from) (subst (λ (b : Ty). IsAssignable rows t b) (sym to) sure)))
  cast_once t s u v y z from to code p x w (inr (fails, is)) (inl (sure, was)) =
      absurd (fails (subst (λ (a : Ty). IsAssignable rows a u) from (subst (λ (b : Ty). IsAssignable rows s b) to sure)))
  cast_once t s u v y z from to code p x w (inr (fails, (k, class_is, is))) (inr (also, (l, class_was, was))) =
      let e : class k ≡ class l = sym class_is ∙ sym to ∙ class_was in
      let same : k ≡ l = cc in
      is ∙ ap (λ (j : ClassKey). core.cast (Some p) j y) same ∙ ap (λ (q : Code). core.cast (Some p) l q) (sym code) ∙ sym was

module _ {A : Type 0} (begins : A → ℕ → ℕ) (rows : List Row) (are : AreRows rows) (each : EachHasOne rows) (c : Context) (exact : IsBound A rows c) where
  abbrev here : ℕ → Place
  here at = record { member = c.member; at = at }

  name_once : (b : ℕ) (m : A) (w : tree.Word A) → Once (NameTarget begins rows c b m w)
  name_once b m w t u (d, finds, code) (e, found, other) =
      let same = one_decl d e (each.variable (scope_of c) w.text (one d) (one e) finds found) in
      variable_once rows are d (here (word_at begins m b w)) t u code (subst (λ (z : Decl). VariableCode rows z (here (word_at begins m b w)) u) (sym same) other)

  super_field_once : (b : ℕ) (m : A) (w : tree.Word A) → Once (SuperTarget begins rows c b m w)
  super_field_once b m w t u (d, finds, code) (e, found, other) =
      let same = decided_one _ (SuperFieldFinds rows c w.text) (exact.super_fields w.text) d e finds found in
      field_once rows are IsOwn own_once d (here (word_at begins m b w)) t u code (subst (λ (z : Decl). FieldCode rows IsOwn z (here (word_at begins m b w)) u) (sym same) other)

  dotted_once : (Operand : Code → Type 0) → Once Operand → (b : ℕ) (m : A) (e : tree.Exp A) (w : tree.Word A) → Once (DottedTarget begins rows c Operand b m e w)
  dotted_once Operand once b m e w t u (d, finds, code) (f, found, other) =
      let same = decided_one _ (FieldFinds rows c e w.text) (exact.fields e w.text) d f finds found in
      field_once rows are Operand once d (here (word_at begins m b w)) t u code (subst (λ (z : Decl). FieldCode rows Operand z (here (word_at begins m b w)) u) (sym same) other)

  mutual
    unfolding ExpCode TargetOf ReceiverCode RowCode

    pub exp_once : (b : ℕ) (e : tree.Exp A) (x z : Code) → ExpCode begins rows c b e x → ExpCode begins rows c b e z → x ≡ z
    exp_once b (tree.number m n) x z h g = h ∙ sym g
    exp_once b (tree.truth m v) x z h g = h ∙ sym g
    exp_once b (tree.null m) x z h g = h ∙ sym g
    exp_once b (tree.string m s) x z h g = h ∙ sym g
    exp_once b (tree.this m) x z h g = h ∙ sym g
    exp_once b (tree.class_literal m of) x z (k, written, is) (l, other, was) =
        is ∙ ap (λ (j : ClassKey). core.literal (Some (here (begins m b))) (value.class_object j)) (class_once rows each (scope_of c) of k l written other) ∙ sym was
    exp_once b (tree.name m w) x z (t, at, is) (u, other, was) =
        is ∙ ap (λ (q : TargetCode). core.read (Some (here (begins m b))) q) (name_once b m w t u at other) ∙ sym was
    exp_once b (tree.field m e w) x z (t, at, is) (u, other, was) =
        is ∙ ap (λ (q : TargetCode). core.read (Some (here (begins m b))) q) (dotted_once _ (λ y v g h. exp_once (begins m b) e y v g h) b m e w t u at other) ∙ sym was
    exp_once b (tree.super_field m w) x z (t, at, is) (u, other, was) =
        is ∙ ap (λ (q : TargetCode). core.read (Some (here (begins m b))) q) (super_field_once b m w t u at other) ∙ sym was
    exp_once b (tree.call m to w args) x z (d, es, finds, row, code) (f, fs, found, rows', other) =
        let same = decided_one _ (CallFinds rows c to w.text args) (exact.calls to w.text args) d f finds found in
        let all = row_once (begins m b) args es fs row rows' in
        call_once rows are _ (λ y v g h. receiver_once (begins m b) to y v g h) d (here (word_at begins m b w)) es x z code
        (subst (λ (q : Decl). CallCode rows (λ y. ReceiverCode begins rows c (begins m b) to y) q (here (word_at begins m b w)) es z) (sym same)
        (subst (λ (q : core.Exps RunKeys). CallCode rows (λ y. ReceiverCode begins rows c (begins m b) to y) f (here (word_at begins m b w)) q z) (sym all) other))
    exp_once b (tree.super_call m w args) x z (d, es, finds, row, code) (f, fs, found, rows', other) =
        let same = decided_one _ (SuperCallFinds rows c w.text args) (exact.super_calls w.text args) d f finds found in
        let all = row_once (begins m b) args es fs row rows' in
        super_call_once rows are d (here (word_at begins m b w)) es x z code
        (subst (λ (q : Decl). SuperCallCode rows q (here (word_at begins m b w)) es z) (sym same)
        (subst (λ (q : core.Exps RunKeys). SuperCallCode rows f (here (word_at begins m b w)) q z) (sym all) other))
    exp_once b (tree.create m of args) x z (k, q, es, written, finds, row, is) (l, n, fs, other, found, rows', was) =
        let decl = decided_one _ (CreationFinds rows c of args) (exact.creations of args) (constructor_decl q) (constructor_decl n) finds found in
        let ctor : q ≡ n = cc in
        is ∙ ap (λ (j : ClassKey). core.create (Some (here (begins m b))) j q es) (class_once rows each (scope_of c) of k l written other)
        ∙ ap (λ (j : CtorKey). core.create (Some (here (begins m b))) l j es) ctor
        ∙ ap (λ (j : core.Exps RunKeys). core.create (Some (here (begins m b))) l n j) (row_once (begins m b) args es fs row rows') ∙ sym was
    exp_once b (tree.paren m e) x z h g = exp_once (begins m b) e x z h g
    exp_once b (tree.cast m of e) x z (t, u, y, has, written, code, is) (s, v, w, also, other, same, was) =
        cast_once rows are t s u v y w (type_once rows are each c exact e s t also has) (written_once rows each (scope_of c) of v u other written)
        (exp_once (begins m b) e w y same code) (here (begins m b)) x z is was
    exp_once b (tree.unary m o e) x z (y, code, is) (v, other, was) =
        is ∙ ap (λ (q : Code). core.signed (Some (here (begins m b))) (sign_of o) q) (exp_once (begins m b) e y v code other) ∙ sym was
    exp_once b (tree.bump m o e) x z (t, at, is) (u, other, was) =
        is ∙ ap (λ (q : TargetCode). core.bump (Some (here (begins m b))) (bump_of o) q) (target_once (begins m b) e t u at other) ∙ sym was
    exp_once b (tree.binary m o l r) x z (y, n, first, second, is) (v, s, one_side, other, was) =
        is ∙ ap (λ (q : Code). operation (here (begins m b)) o q n) (exp_once (begins m b) l y v first one_side)
        ∙ ap (λ (q : Code). operation (here (begins m b)) o v q) (exp_once (begins m b) r n s second other) ∙ sym was
    exp_once b (tree.assign m l r) x z (t, y, at, code, is) (u, v, other, same, was) =
        is ∙ ap (λ (q : TargetCode). core.assign (Some (here (begins m b))) q y) (target_once (begins m b) l t u at other)
        ∙ ap (λ (q : Code). core.assign (Some (here (begins m b))) u q) (exp_once (begins m b) r y v code same) ∙ sym was
    exp_once b (tree.compound m o l r) x z (a, t, y, sort, at, code, is) (e, u, v, sorts, other, same, was) =
        let ops : Some a ≡ Some e = sym sort ∙ sorts in
        let op : a ≡ e = cc in
        is ∙ ap (λ (q : core.Arithmetic). core.compound (Some (here (begins m b))) q t y) op
        ∙ ap (λ (q : TargetCode). core.compound (Some (here (begins m b))) e q y) (target_once (begins m b) l t u at other)
        ∙ ap (λ (q : Code). core.compound (Some (here (begins m b))) e u q) (exp_once (begins m b) r y v code same) ∙ sym was

    pub target_once : (b : ℕ) (e : tree.Exp A) (t u : TargetCode) → TargetOf begins rows c b e t → TargetOf begins rows c b e u → t ≡ u
    target_once b (tree.name m w) t u h g = name_once b m w t u h g
    target_once b (tree.field m e w) t u h g = dotted_once _ (λ y v k l. exp_once (begins m b) e y v k l) b m e w t u h g
    target_once b (tree.super_field m w) t u h g = super_field_once b m w t u h g
    target_once b _ t u h g = absurd h

    pub receiver_once : (at : ℕ) (to : tree.Target A) (x z : Code) → ReceiverCode begins rows c at to x → ReceiverCode begins rows c at to z → x ≡ z
    receiver_once at tree.no_target x z h g = h ∙ sym g
    receiver_once at (tree.on e) x z h g = exp_once at e x z h g

    pub row_once : (at : ℕ) (es : tree.Exps A) (xs zs : core.Exps RunKeys) → RowCode begins rows c at es xs → RowCode begins rows c at es zs → xs ≡ zs
    row_once at tree.end xs zs h g = h ∙ sym g
    row_once at (tree.more e es) xs zs (y, ys, code, codes, is) (v, vs, other, others, was) =
        is ∙ ap (λ (q : Code). core.Exps.more q ys) (exp_once at e y v code other)
        ∙ ap (λ (q : core.Exps RunKeys). core.Exps.more v q) (row_once at es ys vs codes others) ∙ sym was
