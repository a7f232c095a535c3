-- Trees that are equal but for their marks refer to the same, each at its own place.
use Rattle.std.proofs.Common.{◌≡◌, ℕ, List, refl, sym, ap, ◌∙◌, subst, inl, inr}
use Rattle.std.specs.Prelude.{◌⊎◌, Option, Some, None}
use Rattle.jr_ast.specs.Tree as tree
use Rattle.jr_ast.specs.Remarked.{map_exp, map_exps, map_target}
use Rattle.jr_grammar.specs.Bare.{Bare, bare, bare_word, bare_type, bare_target, bare_args}
use Rattle.jr_table.specs.Keys.{ClassKey, Ty}
use Rattle.jr_table.specs.Decls.{Decl, class_decl}
use Rattle.jr_table.specs.Rows.{Row}
use Rattle.jr_table.specs.Scope.{Scope}
use Rattle.jr_table.specs.Found.{Found, one}
use Rattle.jr_table.specs.Lookup.{FindsTypeNamed, FindsTypeOf, FindsLeftOf}
use Rattle.jr_table.specs.Context.{Context, scope_of, WritesType}
use Rattle.jr_table.specs.Binding.{Role, value, left, Sought, FindsIn, IsClassName, FieldFinds, CallFinds, SuperCallFinds, CreationFinds, SuperCtorFinds, SuperFieldFinds, word_at, TypeRefers, NameFinds, DottedFinds, Refers}
use Rattle.jr_table.specs.Binding as role
use Rattle.jr_images.specs.Images.{Renaming, rows_to}
use Rattle.jr_images.specs.Keeping.{IsBoundTo}
use Rattle.jr_rename_laws.proofs.BareBinding.{writes_bare, class_bare, field_bare, call_bare, super_call_bare, creation_bare, super_ctor_bare}

along : (P Q : Type 0) → P ≡ Q → P → Q
along P Q same h = subst (λ (X : Type 0). X) same h

-- what is said of a tree without its marks holds of each that has the same
move : {T U : Type 0} (F : T → Type 0) (G : U → Type 0) (b : T → U) → ((x : T) → F x ≡ G (b x)) → (x y : T) → b x ≡ b y → F x → F y
move F G b same x y e h = along (G (b y)) (F y) (sym (same y)) (subst G e (along (F x) (G (b x)) (same x) h))

module _ {B : Type 0} where
  text_bare : (v w : tree.Word B) → bare_word v ≡ bare_word w → v.text ≡ w.text
  text_bare v w e = ap (λ (x : tree.Word Bare). x.text) e

  pub written_move : (rows : List Row) (s : Scope) (k : Ty) (t u : tree.TypeName B) → bare_type t ≡ bare_type u → WritesType rows s t k → WritesType rows s u k
  written_move rows s k t u e h = move (λ y. WritesType rows s y k) (λ y. WritesType rows s y k) bare_type (λ y. writes_bare rows s y k) t u e h

  pub super_ctor_move : (rows : List Row) (c : Context) (f : Found) (x y : tree.Exps B) → bare_args x ≡ bare_args y → SuperCtorFinds rows c x f → SuperCtorFinds rows c y f
  super_ctor_move rows c f x y e h = move (λ z. SuperCtorFinds rows c z f) (λ z. SuperCtorFinds rows c z f) bare_args (λ z. super_ctor_bare rows c z f) x y e h

module _ {B : Type 0} (begins : B → ℕ → ℕ) (rows : List Row) (c : Context) where
  pub class_move : (k : ClassKey) (x y : tree.Exp B) → bare x ≡ bare y → IsClassName rows c x k → IsClassName rows c y k
  class_move k x y e h = move (λ z. IsClassName rows c z k) (λ z. IsClassName rows c z k) bare (λ z. class_bare rows c z k) x y e h

  field_move : (name other : List ℕ) → name ≡ other → (f : Found) (x y : tree.Exp B) → bare x ≡ bare y → FieldFinds rows c x name f → FieldFinds rows c y other f
  field_move name other n f x y e h = subst (λ (w : List ℕ). FieldFinds rows c y w f) n (move (λ z. FieldFinds rows c z name f) (λ z. FieldFinds rows c z name f) bare (λ z. field_bare rows c z name f) x y e h)

  call_move : (name other : List ℕ) → name ≡ other → (f : Found) (to goal : tree.Target B) → bare_target to ≡ bare_target goal → (x y : tree.Exps B) → bare_args x ≡ bare_args y → CallFinds rows c to name x f → CallFinds rows c goal other y f
  call_move name other n f to goal p x y e h =
      along (CallFinds rows c (bare_target goal) other (bare_args y) f) (CallFinds rows c goal other y f) (sym (call_bare rows c goal other y f))
      (along (CallFinds rows c (bare_target to) name (bare_args x) f) (CallFinds rows c (bare_target goal) other (bare_args y) f) (λ i. CallFinds rows c (p i) (n i) (e i) f)
      (along (CallFinds rows c to name x f) (CallFinds rows c (bare_target to) name (bare_args x) f) (call_bare rows c to name x f) h))

  super_call_move : (name other : List ℕ) → name ≡ other → (f : Found) (x y : tree.Exps B) → bare_args x ≡ bare_args y → SuperCallFinds rows c name x f → SuperCallFinds rows c other y f
  super_call_move name other n f x y e h = subst (λ (w : List ℕ). SuperCallFinds rows c w y f) n (move (λ z. SuperCallFinds rows c name z f) (λ z. SuperCallFinds rows c name z f) bare_args (λ z. super_call_bare rows c name z f) x y e h)

  creation_move : (f : Found) (t u : tree.TypeName B) → bare_type t ≡ bare_type u → (x y : tree.Exps B) → bare_args x ≡ bare_args y → CreationFinds rows c t x f → CreationFinds rows c u y f
  creation_move f t u p x y e h =
      along (CreationFinds rows c (bare_type u) (bare_args y) f) (CreationFinds rows c u y f) (sym (creation_bare rows c u y f))
      (along (CreationFinds rows c (bare_type t) (bare_args x) f) (CreationFinds rows c (bare_type u) (bare_args y) f) (λ i. CreationFinds rows c (p i) (e i) f)
      (along (CreationFinds rows c t x f) (CreationFinds rows c (bare_type t) (bare_args x) f) (creation_bare rows c t x f) h))

  -- ---- where references stand is another place

  type_referred : (i j : ℕ) (t u : tree.TypeName B) → bare_type t ≡ bare_type u → (at : ℕ) (f : Found) → TypeRefers begins rows c i t at f → (to : ℕ) × TypeRefers begins rows c j u to f
  type_referred i j (tree.int m) u e at f h = absurd h
  type_referred i j (tree.boolean m) u e at f h = absurd h
  type_referred i j (tree.named m None w) (tree.named k None v) e at f h =
      let words : bare_word w ≡ bare_word v = cc in
      (word_at begins k j v, (refl, subst (λ n. FindsTypeNamed rows (scope_of c) n f) (text_bare w v words) h.1))
  type_referred i j (tree.named m (Some o) w) (tree.named k (Some p) v) e at f (inl h) =
      let outers : bare_word o ≡ bare_word p = cc in
      (word_at begins k j p, inl (refl, subst (λ n. FindsTypeNamed rows (scope_of c) n f) (text_bare o p outers) h.1))
  type_referred i j (tree.named m (Some o) w) (tree.named k (Some p) v) e at f (inr h) =
      let outers : bare_word o ≡ bare_word p = cc in
      let words : bare_word w ≡ bare_word v = cc in
      let a = text_bare o p outers in
      let b = text_bare w v words in
      (word_at begins k j v, inr (refl, along _ _ (λ l. FindsIn (λ q. FindsTypeNamed rows (scope_of c) (a l) (one (class_decl q))) (λ q g. FindsTypeOf rows (scope_of c) q (b l) g) f) h.1))
  type_referred i j (tree.named m None w) _ e at f h = absurd cc
  type_referred i j (tree.named m (Some o) w) _ e at f h = absurd cc

  dotted : (r : Role) (x y : tree.Exp B) → bare x ≡ bare y → (n o : List ℕ) → n ≡ o → (q : Sought) (f : Found) → DottedFinds begins rows c r x n q f → DottedFinds begins rows c r y o q f
  dotted value x y e n o same q f h = (h.0, field_move n o same f x y e h.1)
  dotted role.statement x y e n o same q f h = (h.0, field_move n o same f x y e h.1)
  dotted left x y e n o same q f (inl h) = inl (h.0, class_move h.0 x y e h.1, h.2, subst (λ w. FindsLeftOf rows (scope_of c) h.0 w f) same h.3)
  dotted left x y e n o same q f (inr h) = inr ((λ k is. h.0 k (class_move k y x (sym e) is)), h.1, field_move n o same f x y e h.2)

  pub referred : (r : Role) (i j : ℕ) (y z : tree.Exp B) → bare y ≡ bare z → (at : ℕ) (q : Sought) (f : Found) → Refers begins rows c r i y at q f → (to : ℕ) × Refers begins rows c r j z to q f
  unfolding map_exp map_exps map_target
  referred r i j (tree.name m w) (tree.name k v) e at q f h =
      let words : bare_word w ≡ bare_word v = cc in
      (word_at begins k j v, (refl, subst (λ n. NameFinds begins rows c r n q f) (text_bare w v words) h.1))
  referred r i j (tree.field m x w) (tree.field k y v) e at q f h =
      let words : bare_word w ≡ bare_word v = cc in
      let values : bare x ≡ bare y = cc in
      (word_at begins k j v, (refl, dotted r x y values w.text v.text (text_bare w v words) q f h.1))
  referred r i j (tree.super_field m w) (tree.super_field k v) e at q f h =
      let words : bare_word w ≡ bare_word v = cc in
      (word_at begins k j v, (refl, h.1, subst (λ n. SuperFieldFinds rows c n f) (text_bare w v words) h.2))
  referred r i j (tree.class_literal m t) (tree.class_literal k u) e at q f h =
      let types : bare_type t ≡ bare_type u = cc in
      let g = type_referred (begins m i) (begins k j) t u types at f h.1 in
      (g.0, (h.0, g.1))
  referred r i j (tree.call m to w args) (tree.call k goal v others) e at q f h =
      let words : bare_word w ≡ bare_word v = cc in
      let targets : bare_target to ≡ bare_target goal = cc in
      let rests : bare_args args ≡ bare_args others = cc in
      (word_at begins k j v, (refl, h.1, call_move w.text v.text (text_bare w v words) f to goal targets args others rests h.2))
  referred r i j (tree.super_call m w args) (tree.super_call k v others) e at q f h =
      let words : bare_word w ≡ bare_word v = cc in
      let rests : bare_args args ≡ bare_args others = cc in
      (word_at begins k j v, (refl, h.1, super_call_move w.text v.text (text_bare w v words) f args others rests h.2))
  referred r i j (tree.create m t args) (tree.create k u others) e at q f (inl h) =
      let types : bare_type t ≡ bare_type u = cc in
      let rests : bare_args args ≡ bare_args others = cc in
      (begins k j, inl (refl, h.1, creation_move f t u types args others rests h.2))
  referred r i j (tree.create m t args) (tree.create k u others) e at q f (inr h) =
      let types : bare_type t ≡ bare_type u = cc in
      let g = type_referred (begins m i) (begins k j) t u types at f h.1 in
      (g.0, inr (h.0, g.1))
  referred r i j (tree.cast m t x) (tree.cast k u y) e at q f h =
      let types : bare_type t ≡ bare_type u = cc in
      let g = type_referred (begins m i) (begins k j) t u types at f h.1 in
      (g.0, (h.0, g.1))
  referred r i j (tree.number m n) z e at q f h = absurd h
  referred r i j (tree.truth m t) z e at q f h = absurd h
  referred r i j (tree.null m) z e at q f h = absurd h
  referred r i j (tree.string m t) z e at q f h = absurd h
  referred r i j (tree.this m) z e at q f h = absurd h
  referred r i j (tree.paren m x) z e at q f h = absurd h
  referred r i j (tree.unary m o x) z e at q f h = absurd h
  referred r i j (tree.bump m o x) z e at q f h = absurd h
  referred r i j (tree.binary m o l v) z e at q f h = absurd h
  referred r i j (tree.assign m l v) z e at q f h = absurd h
  referred r i j (tree.compound m o l v) z e at q f h = absurd h
  referred r i j (tree.name m w) _ e at q f h = absurd cc
  referred r i j (tree.field m x w) _ e at q f h = absurd cc
  referred r i j (tree.super_field m w) _ e at q f h = absurd cc
  referred r i j (tree.class_literal m t) _ e at q f h = absurd cc
  referred r i j (tree.call m to w args) _ e at q f h = absurd cc
  referred r i j (tree.super_call m w args) _ e at q f h = absurd cc
  referred r i j (tree.create m t args) _ e at q f h = absurd cc
  referred r i j (tree.cast m t x) _ e at q f h = absurd cc

module _ {B : Type 0} (begins : B → ℕ → ℕ) (g : Renaming) (rows : List Row) where
  -- a reference that is bound is so in the other tree
  pub bound_bare : (d : Context) (r : Role) (i j : ℕ) (y z : tree.Exp B) → bare y ≡ bare z → (x : Decl) → IsBoundTo begins g rows d r i y x → IsBoundTo begins g rows d r j z x
  bound_bare d r i j y z e x h = (let k = referred begins (rows_to g rows) d r i j y z e h.0 h.1.0 (one x) h.1.1 in (k.0, (h.1.0, k.1)))
