-- A rewritten expression is shaped where the old one is.
use Rattle.std.proofs.Common.{◌≡◌, inl, inr, suc, ℕ, ◌≤◌, Bool, false, Option, Some, None, refl, sym, ap, ◌∙◌, subst, arith}
use Rattle.jr_text.specs.declared.spans.Span.{Span}
use Rattle.jr_ast.specs.declared.operators.BinOp.{BinOp}
use Rattle.jr_ast.specs.declared.operators.BinOp.TheVariants.{Or, And, Eq, Ne, Lt, Gt, Le, Ge, Add, Sub, Mul, Div, Rem}
use Rattle.jr_ast.specs.declared.operators.BumpOp.{BumpOp}
use Rattle.jr_ast.specs.declared.operators.BumpOp.TheVariants.{PreInc, PreDec, PostInc, PostDec}
use Rattle.jr_ast.specs.Tree as tree
use Rattle.jr_grammar.specs.Shape.{rank_of, bump_level, level_of, IsPrimary, IsTarget, IsNamed, IsStatementForm, is_minus, behind_of, ShapedBehind, ShapedTarget, AllShaped}
use Rattle.jr_table.specs.Context.{Context}
use Rattle.jr_table.specs.Binding.{Role, value, left}
use Rattle.jr_rewrite.specs.Respellings.{Front, same, alone, by_this, by_super, by_cast_this, by_class, by_outer_class, by_cast, Choice, stays, becomes, loses, front_of}
use Rattle.jr_rewrite.specs.Rewritten.{Rewritten, word_to, operand_to, variable_on, variable_to, super_to, target_of, Called}
use Rattle.jr_rewrite.specs.Suitable.{Suits, MayStandFor, MayBeCast, SuitsCall, AreSuitable}
use Rattle.jr_rewrite.specs.Spots.{Asks, level, a_target, a_statement, Takes, operand_asks, Spotted, nowhere, spotted, OrThis, OrPart}
use Rattle.jr_rewrite.specs.Rewrites.{Choosing, TypeOut, TransformsExp, TransformsTarget, TransformsRow, TransformsPart}
use Rattle.jr_rewrite.specs.Woven.{Weaving}
use Rattle.jr_rewrite.specs.SuitableSpots.{SpotsSuit}

-- ---- new nodes

-- what stands in front of a dot, if anything does
abbrev Before : {A : Type 0} → Bool → Option (tree.Exp A) → Type 0
Before minus None = Unit {0}
Before minus (Some e) = IsPrimary e × ShapedBehind minus e

module _ {A : Type 0} (m : A) where
  on_level : (x : Option (tree.Exp A)) (w : tree.Word A) → level_of (variable_on m x w) ≡ 10
  on_level None w = refl
  on_level (Some e) w = refl

  on_target : (x : Option (tree.Exp A)) (w : tree.Word A) → IsTarget (variable_on m x w)
  on_target None w = tt
  on_target (Some e) w = tt

  on_shaped : (minus : Bool) (x : Option (tree.Exp A)) (w : tree.Word A) → Before minus x → ShapedBehind minus (variable_on m x w)
  on_shaped minus None w h = tt
  on_shaped minus (Some e) w h = h

  target_shaped : (minus : Bool) (x : Option (tree.Exp A)) → Before minus x → ShapedTarget minus (target_of x)
  target_shaped minus None h = tt
  target_shaped minus (Some e) h = h

  -- what is put in front where nothing stood
  put_before : (minus : Bool) (f : Front) → Before minus (operand_to m f None)
  put_before minus same = tt
  put_before minus alone = tt
  put_before minus by_this = (omega arith, tt)
  put_before minus by_super = tt
  put_before minus (by_cast_this k) = (omega arith, (tt, omega arith, tt))
  put_before minus (by_class k) = (omega arith, tt)
  put_before minus (by_outer_class o k) = (omega arith, (omega arith, tt))
  put_before minus (by_cast k) = tt

  -- and where e stood
  stood_before : (minus : Bool) (f : Front) (old e : tree.Exp A) → MayStandFor old f → Takes (operand_asks f) e → ShapedBehind minus e → (MayBeCast old → ShapedBehind false e)
      → Before minus (operand_to m f (Some e))
  stood_before minus same old e may tight shaped alone_too = (tight, shaped)
  stood_before minus alone old e may tight shaped alone_too = tt
  stood_before minus by_this old e may tight shaped alone_too = (omega arith, tt)
  stood_before minus by_super old e may tight shaped alone_too = absurd may
  stood_before minus (by_cast_this k) old e may tight shaped alone_too = (omega arith, (tt, omega arith, tt))
  stood_before minus (by_class k) old e may tight shaped alone_too = (omega arith, tt)
  stood_before minus (by_outer_class o k) old e may tight shaped alone_too = (omega arith, (omega arith, tt))
  stood_before minus (by_cast k) old e may tight shaped alone_too = (omega arith, (tt, omega (arith, tight), alone_too may))

  chosen_before : (minus : Bool) (h : Choice) (old e : tree.Exp A) → Suits (MayStandFor old) h → Takes (operand_asks (front_of h)) e → ShapedBehind minus e → (MayBeCast old → ShapedBehind false e)
      → Before minus (operand_to m (front_of h) (Some e))
  chosen_before minus stays old e suits tight shaped alone_too = (tight, shaped)
  chosen_before minus (loses l) old e suits tight shaped alone_too = (tight, shaped)
  chosen_before minus (becomes r) old e suits tight shaped alone_too = stood_before minus r.front old e suits.2 tight shaped alone_too

  -- a variable with nothing in front of it
  variable_level : (f : Front) (w : tree.Word A) → level_of (variable_to m f None w) ≡ 10
  variable_level by_super w = refl
  variable_level same w = refl
  variable_level alone w = refl
  variable_level by_this w = refl
  variable_level (by_cast_this k) w = refl
  variable_level (by_class k) w = refl
  variable_level (by_outer_class o k) w = refl
  variable_level (by_cast k) w = refl

  variable_target : (f : Front) (w : tree.Word A) → IsTarget (variable_to m f None w)
  variable_target by_super w = tt
  variable_target same w = tt
  variable_target alone w = tt
  variable_target by_this w = tt
  variable_target (by_cast_this k) w = tt
  variable_target (by_class k) w = tt
  variable_target (by_outer_class o k) w = tt
  variable_target (by_cast k) w = tt

  variable_shaped : (minus : Bool) (f : Front) (w : tree.Word A) → ShapedBehind minus (variable_to m f None w)
  variable_shaped minus by_super w = tt
  variable_shaped minus same w = tt
  variable_shaped minus alone w = tt
  variable_shaped minus by_this w = put_before minus by_this
  variable_shaped minus (by_cast_this k) w = put_before minus (by_cast_this k)
  variable_shaped minus (by_class k) w = put_before minus (by_class k)
  variable_shaped minus (by_outer_class o k) w = put_before minus (by_outer_class o k)
  variable_shaped minus (by_cast k) w = tt

  -- a variable behind `super`
  super_level : (f : Front) (w : tree.Word A) → level_of (super_to m f w) ≡ 10
  super_level same w = refl
  super_level alone w = refl
  super_level by_this w = refl
  super_level by_super w = refl
  super_level (by_cast_this k) w = refl
  super_level (by_class k) w = refl
  super_level (by_outer_class o k) w = refl
  super_level (by_cast k) w = refl

  super_target : (f : Front) (w : tree.Word A) → IsTarget (super_to m f w)
  super_target same w = tt
  super_target alone w = tt
  super_target by_this w = tt
  super_target by_super w = tt
  super_target (by_cast_this k) w = tt
  super_target (by_class k) w = tt
  super_target (by_outer_class o k) w = tt
  super_target (by_cast k) w = tt

  super_shaped : (minus : Bool) (f : Front) (w : tree.Word A) → ShapedBehind minus (super_to m f w)
  super_shaped minus same w = tt
  super_shaped minus alone w = tt
  super_shaped minus by_this w = put_before minus by_this
  super_shaped minus by_super w = tt
  super_shaped minus (by_cast_this k) w = put_before minus (by_cast_this k)
  super_shaped minus (by_class k) w = put_before minus (by_class k)
  super_shaped minus (by_outer_class o k) w = put_before minus (by_outer_class o k)
  super_shaped minus (by_cast k) w = tt

-- what begins with no number is shaped without a minus in front of it, too
shaped_alone : {A : Type 0} (minus : Bool) (e : tree.Exp A) → MayBeCast e → IsPrimary e → ShapedBehind minus e → ShapedBehind false e
shaped_alone minus (tree.number m n) may primary h = absurd may
shaped_alone minus (tree.field m e w) may primary h = (h.0, shaped_alone minus e may h.0 h.1)
shaped_alone minus (tree.call m tree.no_target w args) may primary h = h
shaped_alone minus (tree.call m (tree.on e) w args) may primary h = ((h.0.0, shaped_alone minus e may h.0.0 h.0.1), h.1)
shaped_alone minus (tree.truth m b) may primary h = h
shaped_alone minus (tree.null m) may primary h = h
shaped_alone minus (tree.string m s) may primary h = h
shaped_alone minus (tree.name m w) may primary h = h
shaped_alone minus (tree.super_field m w) may primary h = h
shaped_alone minus (tree.this m) may primary h = h
shaped_alone minus (tree.class_literal m t) may primary h = h
shaped_alone minus (tree.super_call m w args) may primary h = h
shaped_alone minus (tree.create m t args) may primary h = h
shaped_alone minus (tree.paren m e) may primary h = h
shaped_alone minus (tree.cast m t e) may primary h = h
shaped_alone minus (tree.unary m op e) may primary h = h
shaped_alone minus (tree.bump m op e) may primary h = absurd (bump_looser op primary)
  where
    bump_looser : (op : BumpOp) → 10 ≤ bump_level op → ⊥
    bump_looser PreInc low = omega (arith, low)
    bump_looser PreDec low = omega (arith, low)
    bump_looser PostInc low = omega (arith, low)
    bump_looser PostDec low = omega (arith, low)
shaped_alone minus (tree.binary m op x y) may primary h = absurd (binary_looser op primary)
  where
    binary_looser : (op : BinOp) → 10 ≤ rank_of op → ⊥
    binary_looser Or low = omega (arith, low)
    binary_looser And low = omega (arith, low)
    binary_looser Eq low = omega (arith, low)
    binary_looser Ne low = omega (arith, low)
    binary_looser Lt low = omega (arith, low)
    binary_looser Gt low = omega (arith, low)
    binary_looser Le low = omega (arith, low)
    binary_looser Ge low = omega (arith, low)
    binary_looser Add low = omega (arith, low)
    binary_looser Sub low = omega (arith, low)
    binary_looser Mul low = omega (arith, low)
    binary_looser Div low = omega (arith, low)
    binary_looser Rem low = omega (arith, low)
shaped_alone minus (tree.assign m x y) may primary h = absurd (omega (arith, primary))
shaped_alone minus (tree.compound m op x y) may primary h = absurd (omega (arith, primary))

-- what stood in front of a dot does for what is put in front of the word, too
primary_takes : {A : Type 0} (f : Front) (e : tree.Exp A) → IsPrimary e → Takes (operand_asks f) e
primary_takes same e primary = primary
primary_takes alone e primary = primary
primary_takes by_this e primary = primary
primary_takes by_super e primary = primary
primary_takes (by_cast_this k) e primary = primary
primary_takes (by_class k) e primary = primary
primary_takes (by_outer_class o k) e primary = primary
primary_takes (by_cast k) e primary = omega (arith, primary)

-- what a spot makes of an expression, or the other way
or_takes : {A : Type 0} (tells : A → ℕ → Span) (S : Spotted A) (C : Choosing A) (W : Weaving) → SpotsSuit tells C W S → {N : Type 0} (k : Asks) (c : Context) (r : Role) (base : ℕ) (e : tree.Exp A)
    (o : Rewritten (tree.Exp A)) → OrPart S k c r base e o N → Takes k e → (N → Takes k o.tree) → Takes k o.tree
or_takes tells nowhere C W suit k c r base e o w h go = go w
or_takes tells (spotted s) C W suit k c r base e o w h go = elim w [ inl x ↦ go x.1 | inr x ↦ suit.part_takes k c r base e o x h ]

or_shaped : {A : Type 0} (tells : A → ℕ → Span) (S : Spotted A) (C : Choosing A) (W : Weaving) → SpotsSuit tells C W S → (k : Asks) {N : Type 0} (minus : Bool) (c : Context) (r : Role) (base : ℕ)
    (e : tree.Exp A) (o : Rewritten (tree.Exp A)) → OrPart S k c r base e o N → ShapedBehind minus e → (N → ShapedBehind minus o.tree) → ShapedBehind minus o.tree
or_shaped tells nowhere C W suit k minus c r base e o w h go = go w
or_shaped tells (spotted s) C W suit k minus c r base e o w h go = elim w [ inl x ↦ go x.1 | inr x ↦ suit.part_shaped k c r base e o x minus h ]

-- where `this` stays
pub this_is : {A : Type 0} (S : Spotted A) {N : Type 0} → OrThis S N → N
this_is nowhere h = h
this_is (spotted s) h = h.1

module _ {A : Type 0} (tells : A → ℕ → Span) (C : Choosing A) where
  -- ---- types

  pub type_named : (Q N : Choice → Type 0) (base : ℕ) (t : tree.TypeName A) (o : Rewritten (tree.TypeName A)) → TypeOut tells C Q N base t o → IsNamed t → IsNamed o.tree
  type_named Q N base (tree.int m) o w h = absurd h
  type_named Q N base (tree.boolean m) o w h = absurd h
  type_named Q N base (tree.named m None v) o w h = subst (λ z. IsNamed z.tree) (sym w.2) tt
  type_named Q N base (tree.named m (Some u) v) o w h = subst (λ z. IsNamed z.tree) (sym w.4) tt

  module _ (S : Spotted A) where
    -- ---- forms

    exp_level : (c : Context) (r : Role) (base : ℕ) (e : tree.Exp A) (o : Rewritten (tree.Exp A)) → TransformsExp tells C S c r base e o → level_of o.tree ≡ level_of e
    unfolding TransformsExp TransformsTarget TransformsRow
    exp_level c r base (tree.number m n) o w = ap (λ z. level_of z.tree) w
    exp_level c r base (tree.truth m b) o w = ap (λ z. level_of z.tree) w
    exp_level c r base (tree.null m) o w = ap (λ z. level_of z.tree) w
    exp_level c r base (tree.string m s) o w = ap (λ z. level_of z.tree) w
    exp_level c r base (tree.this m) o w = ap (λ z. level_of z.tree) (this_is S w)
    exp_level c r base (tree.name m v) o w = ap (λ z. level_of z.tree) w.2 ∙ variable_level m (front_of w.0) (word_to w.0 v)
    exp_level c r base (tree.field m e v) o w = ap (λ z. level_of z.tree) w.4 ∙ on_level m (operand_to m (front_of w.0) (Some w.1.tree)) (word_to w.0 v)
    exp_level c r base (tree.super_field m v) o w = ap (λ z. level_of z.tree) w.2 ∙ super_level m (front_of w.0) (word_to w.0 v)
    exp_level c r base (tree.class_literal m t) o w = ap (λ z. level_of z.tree) w.2
    exp_level c r base (tree.call m to v args) o w = ap (λ z. level_of z.tree) w.6
    exp_level c r base (tree.super_call m v args) o w = ap (λ z. level_of z.tree) w.4
    exp_level c r base (tree.create m t args) o w = ap (λ z. level_of z.tree) w.6
    exp_level c r base (tree.paren m e) o w = ap (λ z. level_of z.tree) w.2
    exp_level c r base (tree.cast m t e) o w = ap (λ z. level_of z.tree) w.4
    exp_level c r base (tree.unary m op e) o w = ap (λ z. level_of z.tree) w.2
    exp_level c r base (tree.bump m op e) o w = ap (λ z. level_of z.tree) w.2
    exp_level c r base (tree.binary m op x y) o w = ap (λ z. level_of z.tree) w.4
    exp_level c r base (tree.assign m x y) o w = ap (λ z. level_of z.tree) w.4
    exp_level c r base (tree.compound m op x y) o w = ap (λ z. level_of z.tree) w.4

    exp_target : (c : Context) (r : Role) (base : ℕ) (e : tree.Exp A) (o : Rewritten (tree.Exp A)) → TransformsExp tells C S c r base e o → IsTarget e → IsTarget o.tree
    unfolding TransformsExp TransformsTarget TransformsRow
    exp_target c r base (tree.name m v) o w h = subst (λ z. IsTarget z.tree) (sym w.2) (variable_target m (front_of w.0) (word_to w.0 v))
    exp_target c r base (tree.field m e v) o w h = subst (λ z. IsTarget z.tree) (sym w.4) (on_target m (operand_to m (front_of w.0) (Some w.1.tree)) (word_to w.0 v))
    exp_target c r base (tree.super_field m v) o w h = subst (λ z. IsTarget z.tree) (sym w.2) (super_target m (front_of w.0) (word_to w.0 v))
    exp_target c r base (tree.number m n) o w h = absurd h
    exp_target c r base (tree.truth m b) o w h = absurd h
    exp_target c r base (tree.null m) o w h = absurd h
    exp_target c r base (tree.string m s) o w h = absurd h
    exp_target c r base (tree.this m) o w h = absurd h
    exp_target c r base (tree.class_literal m t) o w h = absurd h
    exp_target c r base (tree.call m to v args) o w h = absurd h
    exp_target c r base (tree.super_call m v args) o w h = absurd h
    exp_target c r base (tree.create m t args) o w h = absurd h
    exp_target c r base (tree.paren m e) o w h = absurd h
    exp_target c r base (tree.cast m t e) o w h = absurd h
    exp_target c r base (tree.unary m op e) o w h = absurd h
    exp_target c r base (tree.bump m op e) o w h = absurd h
    exp_target c r base (tree.binary m op x y) o w h = absurd h
    exp_target c r base (tree.assign m x y) o w h = absurd h
    exp_target c r base (tree.compound m op x y) o w h = absurd h

    pub exp_form : (c : Context) (r : Role) (base : ℕ) (e : tree.Exp A) (o : Rewritten (tree.Exp A)) → TransformsExp tells C S c r base e o → IsStatementForm e → IsStatementForm o.tree
    unfolding TransformsExp TransformsTarget TransformsRow
    exp_form c r base (tree.call m to v args) o w h = subst (λ z. IsStatementForm z.tree) (sym w.6) tt
    exp_form c r base (tree.super_call m v args) o w h = subst (λ z. IsStatementForm z.tree) (sym w.4) tt
    exp_form c r base (tree.create m t args) o w h = subst (λ z. IsStatementForm z.tree) (sym w.6) tt
    exp_form c r base (tree.bump m op e) o w h = subst (λ z. IsStatementForm z.tree) (sym w.2) tt
    exp_form c r base (tree.assign m x y) o w h = subst (λ z. IsStatementForm z.tree) (sym w.4) tt
    exp_form c r base (tree.compound m op x y) o w h = subst (λ z. IsStatementForm z.tree) (sym w.4) tt
    exp_form c r base (tree.name m v) o w h = absurd h
    exp_form c r base (tree.field m e v) o w h = absurd h
    exp_form c r base (tree.super_field m v) o w h = absurd h
    exp_form c r base (tree.number m n) o w h = absurd h
    exp_form c r base (tree.truth m b) o w h = absurd h
    exp_form c r base (tree.null m) o w h = absurd h
    exp_form c r base (tree.string m s) o w h = absurd h
    exp_form c r base (tree.this m) o w h = absurd h
    exp_form c r base (tree.class_literal m t) o w h = absurd h
    exp_form c r base (tree.paren m e) o w h = absurd h
    exp_form c r base (tree.cast m t e) o w h = absurd h
    exp_form c r base (tree.unary m op e) o w h = absurd h
    exp_form c r base (tree.binary m op x y) o w h = absurd h

    -- what is asked of the old one is true of the new one
    kept_takes : (k : Asks) (c : Context) (r : Role) (base : ℕ) (e : tree.Exp A) (o : Rewritten (tree.Exp A)) → TransformsExp tells C S c r base e o → Takes k e → Takes k o.tree
    kept_takes (level n) c r base e o w h = subst (λ k. n ≤ k) (sym (exp_level c r base e o w)) h
    kept_takes a_target c r base e o w h = exp_target c r base e o w h
    kept_takes a_statement c r base e o w h = exp_form c r base e o w h

    -- ---- shape

    module _ (W : Weaving) (fit : AreSuitable C) (suit : SpotsSuit tells C W S) where
      pub takes : (k : Asks) (c : Context) (r : Role) (base : ℕ) (e : tree.Exp A) (o : Rewritten (tree.Exp A)) → TransformsPart tells C S k c r base e o → Takes k e → Takes k o.tree
      takes k c r base e o w h = or_takes tells S C W suit k c r base e o w h (λ x. kept_takes k c r base e o x h)

      in_shaped : (k : Asks) {N : Type 0} (minus : Bool) (c : Context) (r : Role) (base : ℕ) (e : tree.Exp A) (o : Rewritten (tree.Exp A)) → OrPart S k c r base e o N
          → ShapedBehind minus e → (N → ShapedBehind minus o.tree) → ShapedBehind minus o.tree
      in_shaped k minus c r base e o w h go = or_shaped tells S C W suit k minus c r base e o w h go

      mutual
        unfolding TransformsExp TransformsTarget TransformsRow

        pub exp_shaped : (minus : Bool) (c : Context) (r : Role) (base : ℕ) (e : tree.Exp A) (o : Rewritten (tree.Exp A)) → TransformsExp tells C S c r base e o
            → ShapedBehind minus e → ShapedBehind minus o.tree
        exp_shaped minus c r base (tree.number m n) o w h = subst (λ z. ShapedBehind minus z.tree) (sym w) h
        exp_shaped minus c r base (tree.truth m b) o w h = subst (λ z. ShapedBehind minus z.tree) (sym w) tt
        exp_shaped minus c r base (tree.null m) o w h = subst (λ z. ShapedBehind minus z.tree) (sym w) tt
        exp_shaped minus c r base (tree.string m s) o w h = subst (λ z. ShapedBehind minus z.tree) (sym w) tt
        exp_shaped minus c r base (tree.this m) o w h = subst (λ z. ShapedBehind minus z.tree) (sym (this_is S w)) tt
        exp_shaped minus c r base (tree.name m v) o w h = subst (λ z. ShapedBehind minus z.tree) (sym w.2) (variable_shaped m minus (front_of w.0) (word_to w.0 v))
        exp_shaped minus c r base (tree.field m e v) o w h =
            let at : ℕ = (tells m base).from in
            subst (λ z. ShapedBehind minus z.tree) (sym w.4)
            (on_shaped m minus (operand_to m (front_of w.0) (Some w.1.tree)) (word_to w.0 v)
            (chosen_before m minus w.0 e w.1.tree (fit.expression c r base (tree.field m e v) w.0 w.2) (takes (operand_asks (front_of w.0)) c left at e w.1 w.3 (primary_takes (front_of w.0) e h.0)) (in_shaped _ minus c left at e w.1 w.3 h.1 (λ x0. exp_shaped minus c left at e w.1 x0 h.1))
            (λ may. in_shaped _ false c left at e w.1 w.3 (shaped_alone minus e may h.0 h.1) (λ x0. exp_shaped false c left at e w.1 x0 (shaped_alone minus e may h.0 h.1)))))
        exp_shaped minus c r base (tree.super_field m v) o w h = subst (λ z. ShapedBehind minus z.tree) (sym w.2) (super_shaped m minus (front_of w.0) (word_to w.0 v))
        exp_shaped minus c r base (tree.class_literal m t) o w h =
            subst (λ z. ShapedBehind minus z.tree) (sym w.2) (type_named (C.qualifier c (tells m base).from t) (C.type c (tells m base).from t) (tells m base).from t w.0 w.1 h)
        exp_shaped minus c r base (tree.call m to v args) o w h =
            subst (λ z. ShapedBehind minus z.tree) (sym w.6)
            (target_stays minus c w.0 m base to v w.1 w.4 (fit.expression c r base (tree.call m to v args) w.0 w.3) h.0, row_shaped c (tells m base).from args w.2 w.5 h.1)
        exp_shaped minus c r base (tree.super_call m v args) o w h = subst (λ z. ShapedBehind minus z.tree) (sym w.4) (row_shaped c (tells m base).from args w.1 w.3 h)
        exp_shaped minus c r base (tree.create m t args) o w h =
            let at : ℕ = (tells m base).from in
            subst (λ z. ShapedBehind minus z.tree) (sym w.6) (type_named (C.qualifier c at t) (C.type c at t) at t w.1 w.4 h.0, row_shaped c at args w.2 w.5 h.1)
        exp_shaped minus c r base (tree.paren m e) o w h = subst (λ z. ShapedBehind minus z.tree) (sym w.2) (in_shaped _ false c value (tells m base).from e w.0 w.1 h (λ x0. exp_shaped false c value (tells m base).from e w.0 x0 h))
        exp_shaped minus c r base (tree.cast m t e) o w h =
            let at : ℕ = (tells m base).from in
            subst (λ z. ShapedBehind minus z.tree) (sym w.4)
            (type_named (C.qualifier c at t) (C.type c at t) at t w.0 w.2 h.0, takes (level 9) c value at e w.1 w.3 h.1, in_shaped _ false c value at e w.1 w.3 h.2 (λ x0. exp_shaped false c value at e w.1 x0 h.2))
        exp_shaped minus c r base (tree.unary m op e) o w h =
            let at : ℕ = (tells m base).from in
            subst (λ z. ShapedBehind minus z.tree) (sym w.2) (takes (level 8) c value at e w.0 w.1 h.0, in_shaped _ (is_minus op) c value at e w.0 w.1 h.1 (λ x0. exp_shaped (is_minus op) c value at e w.0 x0 h.1))
        exp_shaped minus c r base (tree.bump m op e) o w h =
            let at : ℕ = (tells m base).from in
            subst (λ z. ShapedBehind minus z.tree) (sym w.2) (takes a_target c value at e w.0 w.1 h.0, in_shaped _ (behind_of minus op) c value at e w.0 w.1 h.1 (λ x0. exp_shaped (behind_of minus op) c value at e w.0 x0 h.1))
        exp_shaped minus c r base (tree.binary m op x y) o w h =
            let at : ℕ = (tells m base).from in
            subst (λ z. ShapedBehind minus z.tree) (sym w.4) (
              (takes (level (rank_of op)) c value at x w.0 w.2 h.0.0, takes (level (suc (rank_of op))) c value at y w.1 w.3 h.0.1),
              in_shaped _ minus c value at x w.0 w.2 h.1 (λ x0. exp_shaped minus c value at x w.0 x0 h.1),
              in_shaped _ false c value at y w.1 w.3 h.2 (λ x0. exp_shaped false c value at y w.1 x0 h.2),
            )
        exp_shaped minus c r base (tree.assign m x y) o w h =
            let at : ℕ = (tells m base).from in
            subst (λ z. ShapedBehind minus z.tree) (sym w.4) (takes a_target c value at x w.0 w.2 h.0, in_shaped _ minus c value at x w.0 w.2 h.1 (λ x0. exp_shaped minus c value at x w.0 x0 h.1), in_shaped _ false c value at y w.1 w.3 h.2 (λ x0. exp_shaped false c value at y w.1 x0 h.2))
        exp_shaped minus c r base (tree.compound m op x y) o w h =
            let at : ℕ = (tells m base).from in
            subst (λ z. ShapedBehind minus z.tree) (sym w.4)
            (h.0, takes a_target c value at x w.0 w.2 h.1, in_shaped _ minus c value at x w.0 w.2 h.2 (λ x0. exp_shaped minus c value at x w.0 x0 h.2), in_shaped _ false c value at y w.1 w.3 h.3 (λ x0. exp_shaped false c value at y w.1 x0 h.3))

        target_stays : (minus : Bool) (c : Context) (h : Choice) (m : A) (base : ℕ) (to : tree.Target A) (v : tree.Word A) (o : Rewritten (Called tells)) → TransformsTarget tells C S c h m base to v o
            → SuitsCall to h → ShapedTarget minus to → ShapedTarget minus o.tree.target
        target_stays minus c h m base tree.no_target v o w suits shaped =
            subst (λ z. ShapedTarget minus z.tree.target) (sym w) (target_shaped m minus (operand_to m (front_of h) None) (put_before m minus (front_of h)))
        target_stays minus c h m base (tree.on e) v o w suits shaped =
            let at : ℕ = (tells m base).from in
            subst (λ z. ShapedTarget minus z.tree.target) (sym w.2)
            (target_shaped m minus (operand_to m (front_of h) (Some w.0.tree))
            (chosen_before m minus h e w.0.tree suits (takes (operand_asks (front_of h)) c left at e w.0 w.1 (primary_takes (front_of h) e shaped.0)) (in_shaped _ minus c left at e w.0 w.1 shaped.1 (λ x0. exp_shaped minus c left at e w.0 x0 shaped.1)) (λ may. in_shaped _ false c left at e w.0 w.1 (shaped_alone minus e may shaped.0 shaped.1) (λ x0. exp_shaped false c left at e w.0 x0 (shaped_alone minus e may shaped.0 shaped.1)))))

        pub row_shaped : (c : Context) (at : ℕ) (es : tree.Exps A) (o : Rewritten (tree.Exps A)) → TransformsRow tells C S c at es o → AllShaped es → AllShaped o.tree
        row_shaped c at tree.end o w h = subst (λ z. AllShaped z.tree) (sym w) tt
        row_shaped c at (tree.more e es) o w h = subst (λ z. AllShaped z.tree) (sym w.4) (in_shaped _ false c value at e w.0 w.2 h.0 (λ x0. exp_shaped false c value at e w.0 x0 h.0), row_shaped c at es w.1 w.3 h.1)

      pub part_shaped : (minus : Bool) (k : Asks) (c : Context) (r : Role) (base : ℕ) (e : tree.Exp A) (o : Rewritten (tree.Exp A)) → TransformsPart tells C S k c r base e o
          → ShapedBehind minus e → ShapedBehind minus o.tree
      part_shaped minus k c r base e o w h = in_shaped k minus c r base e o w h (λ x. exp_shaped minus c r base e o x h)
