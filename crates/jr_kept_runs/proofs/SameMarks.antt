-- Expressions that are the same but for marks have code that is the same but for places.
use Rattle.std.proofs.Common.{◌≡◌, ℕ, List, Some, None, refl, sym, ap, subst, ◌∙◌, inl, inr}
use Rattle.jr_ast.specs.declared.operators.BinOp.{BinOp}
use Rattle.jr_ast.specs.declared.operators.BinOp.TheVariants as op
use Rattle.jr_ast.specs.Tree as tree
use Rattle.jr_ast.specs.Remarked.{map_exp, map_exps, map_target}
use Rattle.jr_grammar.specs.Bare.{Bare, bare, bare_word, bare_type, bare_target, bare_args}
use Rattle.jr_runs.specs.Core as core
use Rattle.jr_runs.specs.Translation.{operation, sign_of, bump_of}
use Rattle.jr_table.specs.Keys.{Ty, class}
use Rattle.jr_table.specs.Decls.{Decl, class_decl, field_decl, method_decl, constructor_decl, local_decl}
use Rattle.jr_table.specs.Rows.{Row}
use Rattle.jr_table.specs.Found.{Found, one}
use Rattle.jr_table.specs.Lookup.{FindsVariable}
use Rattle.jr_table.specs.Context.{Context, scope_of, WritesType}
use Rattle.jr_table.specs.Binding.{HasType, FieldFinds, SuperFieldFinds, CallFinds, SuperCallFinds, CreationFinds, word_at}
use Rattle.jr_code.specs.RunKeys.{RunKeys, Place}
use Rattle.jr_code.specs.Coded.{Code, TargetCode, IsOwn, FieldCode, VariableCode, CallCode, SuperCallCode, CastCode, place, ExpCode, TargetOf, ReceiverCode, RowCode}
use Rattle.jr_rename_laws.proofs.BareBinding.{writes_bare, type_bare, field_bare, call_bare, super_call_bare, creation_bare}

-- ---- code without places

abbrev mutual
  pub no_places : Code → Code
  no_places (core.literal p v) = core.literal None v
  no_places (core.this p) = core.this None
  no_places (core.read p t) = core.read None (no_target_places t)
  no_places (core.assign p t e) = core.assign None (no_target_places t) (no_places e)
  no_places (core.compound p o t e) = core.compound None o (no_target_places t) (no_places e)
  no_places (core.bump p o t) = core.bump None o (no_target_places t)
  no_places (core.signed p o e) = core.signed None o (no_places e)
  no_places (core.binary p o a b) = core.binary None o (no_places a) (no_places b)
  no_places (core.both p a b) = core.both None (no_places a) (no_places b)
  no_places (core.either p a b) = core.either None (no_places a) (no_places b)
  no_places (core.cast p k e) = core.cast None k (no_places e)
  no_places (core.static_call p m es) = core.static_call None m (no_row_places es)
  no_places (core.instance_call p e m es) = core.instance_call None (no_places e) m (no_row_places es)
  no_places (core.super_call p e m es) = core.super_call None (no_places e) m (no_row_places es)
  no_places (core.create p k q es) = core.create None k q (no_row_places es)
  no_places (core.super_constructor p e q es) = core.super_constructor None (no_places e) q (no_row_places es)

  pub no_target_places : TargetCode → TargetCode
  no_target_places (core.local p n) = core.local None n
  no_target_places (core.static_field p f) = core.static_field None f
  no_target_places (core.field_of p e f) = core.field_of None (no_places e) f

  pub no_row_places : core.Exps RunKeys → core.Exps RunKeys
  no_row_places core.Exps.end = core.Exps.end
  no_row_places (core.Exps.more e es) = core.Exps.more (no_places e) (no_row_places es)

along : (P Q : Type 0) → P ≡ Q → P → Q
along P Q same h = subst (λ (X : Type 0). X) same h

-- what is said of a tree without its marks holds of each that has the same
pub move : {T U : Type 0} (F : T → Type 0) (G : U → Type 0) (b : T → U) → ((x : T) → F x ≡ G (b x)) → (x y : T) → b x ≡ b y → F x → F y
move F G b same x y e h = along (G (b y)) (F y) (sym (same y)) (subst G e (along (F x) (G (b x)) (same x) h))

module _ (rows : List Row) where
  field_recode : (Old New : Code → Type 0) → ((z : Code) → Old z → (u : Code) × New u × (no_places z ≡ no_places u)) → (d : Decl) (p q : Place) (t : TargetCode) → FieldCode rows Old d p t
      → (u : TargetCode) × FieldCode rows New d q u × (no_target_places t ≡ no_target_places u)
  field_recode Old New again (field_decl k) p q t (inl (is, e)) = (core.static_field (Some q) k, inl (is, refl), ap no_target_places e)
  field_recode Old New again (field_decl k) p q t (inr (is, (z, old, e))) =
      let n = again z old in (core.field_of (Some q) n.0 k, inr (is, (n.0, n.1, refl)), ap no_target_places e ∙ ap (λ (x : Code). core.field_of None x k) n.2)
  field_recode Old New again (local_decl k) p q t h = absurd h
  field_recode Old New again (class_decl k) p q t h = absurd h
  field_recode Old New again (method_decl k) p q t h = absurd h
  field_recode Old New again (constructor_decl k) p q t h = absurd h

  own_again : (z : Code) → IsOwn z → (u : Code) × IsOwn u × (no_places z ≡ no_places u)
  own_again z e = (core.this None, refl, ap no_places e)

  variable_recode : (d : Decl) (p q : Place) (t : TargetCode) → VariableCode rows d p t → (u : TargetCode) × VariableCode rows d q u × (no_target_places t ≡ no_target_places u)
  variable_recode (local_decl k) p q t e = (core.local (Some q) k.number, refl, ap no_target_places e)
  variable_recode (field_decl k) p q t h = field_recode IsOwn IsOwn own_again (field_decl k) p q t h
  variable_recode (class_decl k) p q t h = absurd h
  variable_recode (method_decl k) p q t h = absurd h
  variable_recode (constructor_decl k) p q t h = absurd h

  call_recode : (Old New : Code → Type 0) → ((z : Code) → Old z → (u : Code) × New u × (no_places z ≡ no_places u)) → (d : Decl) (p q : Place) (es fs : core.Exps RunKeys) → no_row_places es ≡ no_row_places fs → (x : Code) → CallCode rows Old d p es x
      → (y : Code) × CallCode rows New d q fs y × (no_places x ≡ no_places y)
  call_recode Old New again (method_decl k) p q es fs args x (inl (is, e)) = (core.static_call (Some q) k fs, inl (is, refl), ap no_places e ∙ ap (λ (l : core.Exps RunKeys). core.static_call None k l) args)
  call_recode Old New again (method_decl k) p q es fs args x (inr (is, (z, old, e))) =
      let n = again z old in (core.instance_call (Some q) n.0 k fs, inr (is, (n.0, n.1, refl)), ap no_places e ∙ (λ i. core.instance_call None (n.2 i) k (args i)))
  call_recode Old New again (local_decl k) p q es fs args x h = absurd h
  call_recode Old New again (class_decl k) p q es fs args x h = absurd h
  call_recode Old New again (field_decl k) p q es fs args x h = absurd h
  call_recode Old New again (constructor_decl k) p q es fs args x h = absurd h

  super_recode : (d : Decl) (p q : Place) (es fs : core.Exps RunKeys) → no_row_places es ≡ no_row_places fs → (x : Code) → SuperCallCode rows d p es x → (y : Code) × SuperCallCode rows d q fs y × (no_places x ≡ no_places y)
  super_recode (method_decl k) p q es fs args x (inl (is, e)) = (core.static_call (Some q) k fs, inl (is, refl), ap no_places e ∙ ap (λ (l : core.Exps RunKeys). core.static_call None k l) args)
  super_recode (method_decl k) p q es fs args x (inr (is, e)) = (core.super_call (Some q) (core.this None) k fs, inr (is, refl), ap no_places e ∙ ap (λ (l : core.Exps RunKeys). core.super_call None (core.this None) k l) args)
  super_recode (local_decl k) p q es fs args x h = absurd h
  super_recode (class_decl k) p q es fs args x h = absurd h
  super_recode (field_decl k) p q es fs args x h = absurd h
  super_recode (constructor_decl k) p q es fs args x h = absurd h

  cast_recode : (t u : Ty) (p q : Place) (z n x : Code) → no_places z ≡ no_places n → CastCode rows t u p z x → (y : Code) × CastCode rows t u q n y × (no_places x ≡ no_places y)
  cast_recode t u p q z n x same (inl (is, e)) = (n, inl (is, refl), ap no_places e ∙ same)
  cast_recode t u p q z n x same (inr (fails, (k, is, e))) = (core.cast (Some q) k n, inr (fails, (k, is, refl)), ap no_places e ∙ ap (λ (l : Code). core.cast None k l) same)

operation_recode : (o : BinOp) (p q : Place) (a b x y : Code) → no_places a ≡ no_places x → no_places b ≡ no_places y → no_places (operation p o a b) ≡ no_places (operation q o x y)
operation_recode op.Or p q a b x y e f = λ i. core.either None (e i) (f i)
operation_recode op.And p q a b x y e f = λ i. core.both None (e i) (f i)
operation_recode op.Eq p q a b x y e f = λ i. core.binary None core.equal (e i) (f i)
operation_recode op.Ne p q a b x y e f = λ i. core.binary None core.different (e i) (f i)
operation_recode op.Lt p q a b x y e f = λ i. core.binary None (core.comparison core.less) (e i) (f i)
operation_recode op.Gt p q a b x y e f = λ i. core.binary None (core.comparison core.greater) (e i) (f i)
operation_recode op.Le p q a b x y e f = λ i. core.binary None (core.comparison core.at_most) (e i) (f i)
operation_recode op.Ge p q a b x y e f = λ i. core.binary None (core.comparison core.at_least) (e i) (f i)
operation_recode op.Add p q a b x y e f = λ i. core.binary None (core.arithmetic core.add) (e i) (f i)
operation_recode op.Sub p q a b x y e f = λ i. core.binary None (core.arithmetic core.subtract) (e i) (f i)
operation_recode op.Mul p q a b x y e f = λ i. core.binary None (core.arithmetic core.multiply) (e i) (f i)
operation_recode op.Div p q a b x y e f = λ i. core.binary None (core.arithmetic core.divide) (e i) (f i)
operation_recode op.Rem p q a b x y e f = λ i. core.binary None (core.arithmetic core.remainder) (e i) (f i)

module _ {A : Type 0} (begins : A → ℕ → ℕ) (rows : List Row) (c : Context) where
  abbrev Again : ℕ → tree.Exp A → Code → Type 0
  Again i y z = (u : Code) × ExpCode begins rows c i y u × (no_places z ≡ no_places u)

  abbrev TargetAgain : ℕ → tree.Exp A → TargetCode → Type 0
  TargetAgain i y t = (u : TargetCode) × TargetOf begins rows c i y u × (no_target_places t ≡ no_target_places u)

  abbrev RowAgain : ℕ → tree.Exps A → core.Exps RunKeys → Type 0
  RowAgain i ys zs = (us : core.Exps RunKeys) × RowCode begins rows c i ys us × (no_row_places zs ≡ no_row_places us)

  pub text_of : (v w : tree.Word A) → bare_word v ≡ bare_word w → v.text ≡ w.text
  text_of v w e = ap (λ (x : tree.Word Bare). x.text) e

  type_move : (t : Ty) (x y : tree.Exp A) → bare x ≡ bare y → HasType rows c x t → HasType rows c y t
  type_move t x y e h = move (λ z. HasType rows c z t) (λ z. HasType rows c z t) bare (λ z. type_bare rows c z t) x y e h

  written_move : (k : Ty) (t u : tree.TypeName A) → bare_type t ≡ bare_type u → WritesType rows (scope_of c) t k → WritesType rows (scope_of c) u k
  written_move k t u e h = move (λ y. WritesType rows (scope_of c) y k) (λ y. WritesType rows (scope_of c) y k) bare_type (λ y. writes_bare rows (scope_of c) y k) t u e h

  field_move : (name other : List ℕ) → name ≡ other → (f : Found) (x y : tree.Exp A) → bare x ≡ bare y → FieldFinds rows c x name f → FieldFinds rows c y other f
  field_move name other n f x y e h = subst (λ (w : List ℕ). FieldFinds rows c y w f) n (move (λ z. FieldFinds rows c z name f) (λ z. FieldFinds rows c z name f) bare (λ z. field_bare rows c z name f) x y e h)

  call_move : (name other : List ℕ) → name ≡ other → (f : Found) (to goal : tree.Target A) → bare_target to ≡ bare_target goal → (x y : tree.Exps A) → bare_args x ≡ bare_args y → CallFinds rows c to name x f → CallFinds rows c goal other y f
  call_move name other n f to goal p x y e h =
      along (CallFinds rows c (bare_target goal) other (bare_args y) f) (CallFinds rows c goal other y f) (sym (call_bare rows c goal other y f))
      (along (CallFinds rows c (bare_target to) name (bare_args x) f) (CallFinds rows c (bare_target goal) other (bare_args y) f) (λ i. CallFinds rows c (p i) (n i) (e i) f)
      (along (CallFinds rows c to name x f) (CallFinds rows c (bare_target to) name (bare_args x) f) (call_bare rows c to name x f) h))

  super_call_move : (name other : List ℕ) → name ≡ other → (f : Found) (x y : tree.Exps A) → bare_args x ≡ bare_args y → SuperCallFinds rows c name x f → SuperCallFinds rows c other y f
  super_call_move name other n f x y e h = subst (λ (w : List ℕ). SuperCallFinds rows c w y f) n (move (λ z. SuperCallFinds rows c name z f) (λ z. SuperCallFinds rows c name z f) bare_args (λ z. super_call_bare rows c name z f) x y e h)

  creation_move : (f : Found) (t u : tree.TypeName A) → bare_type t ≡ bare_type u → (x y : tree.Exps A) → bare_args x ≡ bare_args y → CreationFinds rows c t x f → CreationFinds rows c u y f
  creation_move f t u p x y e h =
      along (CreationFinds rows c (bare_type u) (bare_args y) f) (CreationFinds rows c u y f) (sym (creation_bare rows c u y f))
      (along (CreationFinds rows c (bare_type t) (bare_args x) f) (CreationFinds rows c (bare_type u) (bare_args y) f) (λ i. CreationFinds rows c (p i) (e i) f)
      (along (CreationFinds rows c t x f) (CreationFinds rows c (bare_type t) (bare_args x) f) (creation_bare rows c t x f) h))

  -- a literal is one at another place
  literal_again : (v : _) (p q : Place) (z : Code) → z ≡ core.literal (Some p) v → (u : Code) × (u ≡ core.literal (Some q) v) × (no_places z ≡ no_places u)
  literal_again v p q z e = (core.literal (Some q) v, refl, ap no_places e)

  mutual
    unfolding ExpCode TargetOf ReceiverCode RowCode map_exp map_exps map_target

    pub recode : (b i : ℕ) (x y : tree.Exp A) → bare x ≡ bare y → (z : Code) → ExpCode begins rows c b x z → Again i y z
    recode b i (tree.number m n) (tree.number k l) e z h = let same : n ≡ l = cc in subst (λ (j : ℕ). Again i (tree.number k j) z) same (literal_again _ _ _ z h)
    recode b i (tree.truth m n) (tree.truth k l) e z h = let same : n ≡ l = cc in subst (λ j. Again i (tree.truth k j) z) same (literal_again _ _ _ z h)
    recode b i (tree.null m) (tree.null k) e z h = literal_again _ _ _ z h
    recode b i (tree.string m s) (tree.string k t) e z h = let same : s ≡ t = cc in subst (λ (j : List ℕ). Again i (tree.string k j) z) same (literal_again _ _ _ z h)
    recode b i (tree.this m) (tree.this k) e z h = (core.this (Some (place begins rows c (begins k i))), refl, ap no_places h)
    recode b i (tree.class_literal m t) (tree.class_literal k u) e z (j, written, h) = let types : bare_type t ≡ bare_type u = cc in let n = literal_again _ _ (place begins rows c (begins k i)) z h in (n.0, (j, written_move (class j) t u types written, n.1), n.2)
    recode b i (tree.name m w) (tree.name k v) e z (t, (d, finds, code), h) =
        let words : bare_word w ≡ bare_word v = cc in
        let n = variable_recode rows d (place begins rows c (word_at begins m b w)) (place begins rows c (word_at begins k i v)) t code in
        (core.read (Some (place begins rows c (begins k i))) n.0, (n.0, (d, subst (λ (s : List ℕ). FindsVariable rows (scope_of c) s (one d)) (text_of w v words) finds, n.1), refl), ap no_places h ∙ ap (λ (l : TargetCode). core.read None l) n.2)
    recode b i (tree.field m o w) (tree.field k p v) e z (t, (d, finds, code), h) =
        let words : bare_word w ≡ bare_word v = cc in
        let values : bare o ≡ bare p = cc in
        let n = field_recode rows _ (λ u. ExpCode begins rows c (begins k i) p u) (λ l code. recode (begins m b) (begins k i) o p values l code) d (place begins rows c (word_at begins m b w)) (place begins rows c (word_at begins k i v)) t code in
        (core.read (Some (place begins rows c (begins k i))) n.0, (n.0, (d, field_move w.text v.text (text_of w v words) (one d) o p values finds, n.1), refl), ap no_places h ∙ ap (λ (l : TargetCode). core.read None l) n.2)
    recode b i (tree.super_field m w) (tree.super_field k v) e z (t, (d, finds, code), h) =
        let words : bare_word w ≡ bare_word v = cc in
        let n = field_recode rows IsOwn IsOwn (own_again rows) d (place begins rows c (word_at begins m b w)) (place begins rows c (word_at begins k i v)) t code in
        (core.read (Some (place begins rows c (begins k i))) n.0, (n.0, (d, subst (λ (s : List ℕ). SuperFieldFinds rows c s (one d)) (text_of w v words) finds, n.1), refl), ap no_places h ∙ ap (λ (l : TargetCode). core.read None l) n.2)
    recode b i (tree.call m to w args) (tree.call k goal v others) e z (d, es, finds, row, code) =
        let words : bare_word w ≡ bare_word v = cc in
        let targets : bare_target to ≡ bare_target goal = cc in
        let rests : bare_args args ≡ bare_args others = cc in
        let r = recode_row (begins m b) (begins k i) args others rests es row in
        let n = call_recode rows _ (λ u. ReceiverCode begins rows c (begins k i) goal u) (λ l h. recode_receiver (begins m b) (begins k i) to goal targets l h) d (place begins rows c (word_at begins m b w)) (place begins rows c (word_at begins k i v)) es r.0 r.2 z code in
        (n.0, (d, r.0, call_move w.text v.text (text_of w v words) (one d) to goal targets args others rests finds, r.1, n.1), n.2)
    recode b i (tree.super_call m w args) (tree.super_call k v others) e z (d, es, finds, row, code) =
        let words : bare_word w ≡ bare_word v = cc in
        let rests : bare_args args ≡ bare_args others = cc in
        let r = recode_row (begins m b) (begins k i) args others rests es row in
        let n = super_recode rows d (place begins rows c (word_at begins m b w)) (place begins rows c (word_at begins k i v)) es r.0 r.2 z code in
        (n.0, (d, r.0, super_call_move w.text v.text (text_of w v words) (one d) args others rests finds, r.1, n.1), n.2)
    recode b i (tree.create m t args) (tree.create k u others) e z (j, q, es, written, finds, row, h) =
        let types : bare_type t ≡ bare_type u = cc in
        let rests : bare_args args ≡ bare_args others = cc in
        let r = recode_row (begins m b) (begins k i) args others rests es row in
        (core.create (Some (place begins rows c (begins k i))) j q r.0, (j, q, r.0, written_move (class j) t u types written, creation_move (one (constructor_decl q)) t u types args others rests finds, r.1, refl), ap no_places h ∙ ap (λ (l : core.Exps RunKeys). core.create None j q l) r.2)
    recode b i (tree.paren m o) (tree.paren k p) e z h = let values : bare o ≡ bare p = cc in recode (begins m b) (begins k i) o p values z h
    recode b i (tree.cast m t o) (tree.cast k u p) e z (s, v, x, type, written, code, h) =
        let types : bare_type t ≡ bare_type u = cc in
        let values : bare o ≡ bare p = cc in
        let n = recode (begins m b) (begins k i) o p values x code in
        let l = cast_recode rows s v (place begins rows c (begins m b)) (place begins rows c (begins k i)) x n.0 z n.2 h in
        (l.0, (s, v, n.0, type_move s o p values type, written_move v t u types written, n.1, l.1), l.2)
    recode b i (tree.unary m s o) (tree.unary k t p) e z (x, code, h) =
        let values : bare o ≡ bare p = cc in
        let ops : s ≡ t = cc in
        let n = recode (begins m b) (begins k i) o p values x code in
        subst (λ j. Again i (tree.unary k j p) z) ops (core.signed (Some (place begins rows c (begins k i))) (sign_of s) n.0, (n.0, n.1, refl), ap no_places h ∙ ap (λ (l : Code). core.signed None (sign_of s) l) n.2)
    recode b i (tree.bump m s o) (tree.bump k t p) e z (x, code, h) =
        let values : bare o ≡ bare p = cc in
        let ops : s ≡ t = cc in
        let n = recode_target (begins m b) (begins k i) o p values x code in
        subst (λ j. Again i (tree.bump k j p) z) ops (core.bump (Some (place begins rows c (begins k i))) (bump_of s) n.0, (n.0, n.1, refl), ap no_places h ∙ ap (λ (l : TargetCode). core.bump None (bump_of s) l) n.2)
    recode b i (tree.binary m s o f) (tree.binary k t p g) e z (x, y, first, second, h) =
        let values : bare o ≡ bare p = cc in
        let others : bare f ≡ bare g = cc in
        let ops : s ≡ t = cc in
        let n = recode (begins m b) (begins k i) o p values x first in
        let l = recode (begins m b) (begins k i) f g others y second in
        subst (λ j. Again i (tree.binary k j p g) z) ops (operation (place begins rows c (begins k i)) s n.0 l.0, (n.0, l.0, n.1, l.1, refl {a = operation (place begins rows c (begins k i)) s n.0 l.0}), ap no_places h ∙ operation_recode s _ (place begins rows c (begins k i)) x y n.0 l.0 n.2 l.2)
    recode b i (tree.assign m o f) (tree.assign k p g) e z (x, y, first, second, h) =
        let values : bare o ≡ bare p = cc in
        let others : bare f ≡ bare g = cc in
        let n = recode_target (begins m b) (begins k i) o p values x first in
        let l = recode (begins m b) (begins k i) f g others y second in
        (core.assign (Some (place begins rows c (begins k i))) n.0 l.0, (n.0, l.0, n.1, l.1, refl), ap no_places h ∙ (λ j. core.assign None (n.2 j) (l.2 j)))
    recode b i (tree.compound m s o f) (tree.compound k t p g) e z (a, x, y, arithmetic, first, second, h) =
        let values : bare o ≡ bare p = cc in
        let others : bare f ≡ bare g = cc in
        let ops : s ≡ t = cc in
        let n = recode_target (begins m b) (begins k i) o p values x first in
        let l = recode (begins m b) (begins k i) f g others y second in
        subst (λ j. Again i (tree.compound k j p g) z) ops (core.compound (Some (place begins rows c (begins k i))) a n.0 l.0, (a, n.0, l.0, arithmetic, n.1, l.1, refl), ap no_places h ∙ (λ j. core.compound None a (n.2 j) (l.2 j)))
    recode b i (tree.number m n) _ e z h = absurd cc
    recode b i (tree.truth m n) _ e z h = absurd cc
    recode b i (tree.null m) _ e z h = absurd cc
    recode b i (tree.string m n) _ e z h = absurd cc
    recode b i (tree.this m) _ e z h = absurd cc
    recode b i (tree.class_literal m t) _ e z h = absurd cc
    recode b i (tree.name m w) _ e z h = absurd cc
    recode b i (tree.field m o w) _ e z h = absurd cc
    recode b i (tree.super_field m w) _ e z h = absurd cc
    recode b i (tree.call m to w args) _ e z h = absurd cc
    recode b i (tree.super_call m w args) _ e z h = absurd cc
    recode b i (tree.create m t args) _ e z h = absurd cc
    recode b i (tree.paren m o) _ e z h = absurd cc
    recode b i (tree.cast m t o) _ e z h = absurd cc
    recode b i (tree.unary m s o) _ e z h = absurd cc
    recode b i (tree.bump m s o) _ e z h = absurd cc
    recode b i (tree.binary m s o f) _ e z h = absurd cc
    recode b i (tree.assign m o f) _ e z h = absurd cc
    recode b i (tree.compound m s o f) _ e z h = absurd cc

    pub recode_target : (b i : ℕ) (x y : tree.Exp A) → bare x ≡ bare y → (t : TargetCode) → TargetOf begins rows c b x t → TargetAgain i y t
    recode_target b i (tree.name m w) (tree.name k v) e t (d, finds, code) =
        let words : bare_word w ≡ bare_word v = cc in
        let n = variable_recode rows d (place begins rows c (word_at begins m b w)) (place begins rows c (word_at begins k i v)) t code in
        (n.0, (d, subst (λ (s : List ℕ). FindsVariable rows (scope_of c) s (one d)) (text_of w v words) finds, n.1), n.2)
    recode_target b i (tree.field m o w) (tree.field k p v) e t (d, finds, code) =
        let words : bare_word w ≡ bare_word v = cc in
        let values : bare o ≡ bare p = cc in
        let n = field_recode rows _ (λ u. ExpCode begins rows c (begins k i) p u) (λ l code. recode (begins m b) (begins k i) o p values l code) d (place begins rows c (word_at begins m b w)) (place begins rows c (word_at begins k i v)) t code in
        (n.0, (d, field_move w.text v.text (text_of w v words) (one d) o p values finds, n.1), n.2)
    recode_target b i (tree.super_field m w) (tree.super_field k v) e t (d, finds, code) =
        let words : bare_word w ≡ bare_word v = cc in
        let n = field_recode rows IsOwn IsOwn (own_again rows) d (place begins rows c (word_at begins m b w)) (place begins rows c (word_at begins k i v)) t code in
        (n.0, (d, subst (λ (s : List ℕ). SuperFieldFinds rows c s (one d)) (text_of w v words) finds, n.1), n.2)
    recode_target b i (tree.name m w) _ e t h = absurd cc
    recode_target b i (tree.field m o w) _ e t h = absurd cc
    recode_target b i (tree.super_field m w) _ e t h = absurd cc
    recode_target b i (tree.number m n) y e t h = absurd h
    recode_target b i (tree.truth m n) y e t h = absurd h
    recode_target b i (tree.null m) y e t h = absurd h
    recode_target b i (tree.string m n) y e t h = absurd h
    recode_target b i (tree.this m) y e t h = absurd h
    recode_target b i (tree.class_literal m u) y e t h = absurd h
    recode_target b i (tree.call m to w args) y e t h = absurd h
    recode_target b i (tree.super_call m w args) y e t h = absurd h
    recode_target b i (tree.create m u args) y e t h = absurd h
    recode_target b i (tree.paren m o) y e t h = absurd h
    recode_target b i (tree.cast m u o) y e t h = absurd h
    recode_target b i (tree.unary m s o) y e t h = absurd h
    recode_target b i (tree.bump m s o) y e t h = absurd h
    recode_target b i (tree.binary m s o f) y e t h = absurd h
    recode_target b i (tree.assign m o f) y e t h = absurd h
    recode_target b i (tree.compound m s o f) y e t h = absurd h

    recode_receiver : (b i : ℕ) (x y : tree.Target A) → bare_target x ≡ bare_target y → (z : Code) → ReceiverCode begins rows c b x z → (u : Code) × ReceiverCode begins rows c i y u × (no_places z ≡ no_places u)
    recode_receiver b i tree.no_target tree.no_target e z h = own_again rows z h
    recode_receiver b i (tree.on o) (tree.on p) e z h = let values : bare o ≡ bare p = cc in recode b i o p values z h
    recode_receiver b i tree.no_target (tree.on p) e z h = absurd cc
    recode_receiver b i (tree.on o) tree.no_target e z h = absurd cc

    pub recode_row : (b i : ℕ) (xs ys : tree.Exps A) → bare_args xs ≡ bare_args ys → (zs : core.Exps RunKeys) → RowCode begins rows c b xs zs → RowAgain i ys zs
    recode_row b i tree.end tree.end e zs h = (core.Exps.end, refl, ap no_row_places h)
    recode_row b i (tree.more x xs) (tree.more y ys) e zs (u, us, first, rest, h) =
        let values : bare x ≡ bare y = cc in
        let others : bare_args xs ≡ bare_args ys = cc in
        let n = recode b i x y values u first in
        let l = recode_row b i xs ys others us rest in
        (core.Exps.more n.0 l.0, (n.0, l.0, n.1, l.1, refl), ap no_row_places h ∙ (λ j. core.Exps.more (n.2 j) (l.2 j)))
    recode_row b i tree.end (tree.more y ys) e zs h = absurd cc
    recode_row b i (tree.more x xs) tree.end e zs h = absurd cc
