-- The words of a class in front of a dot stand one way, seen from a place where a local is of one
-- class.
use Rattle.std.proofs.Common.{◌≡◌, ℕ, List, sym, ap, subst, ◌∙◌}
use Rattle.std.proofs.lemmas.Option.{same_Some}
use Rattle.jr_text.specs.declared.spans.Span.{Span}
use Rattle.jr_ast.specs.Tree as tree
use Rattle.jr_table.specs.Keys.{ClassKey, class}
use Rattle.jr_table.specs.Decls.{LocalKey, class_decl, field_decl, method_decl, constructor_decl, local_decl}
use Rattle.jr_table.specs.Rows.{Row}
use Rattle.jr_table.specs.Conditions.{AreRows}
use Rattle.jr_table.specs.Found.{Found, one, nothing, many, not_accessible, from_static}
use Rattle.jr_table.specs.Lookup.{FindsLeft}
use Rattle.jr_table.specs.LookupLaws.{HasOne, EachHasOne}
use Rattle.jr_table.specs.BindingLaws.{IsBound}
use Rattle.jr_table.specs.Context.{Context}
use Rattle.jr_table.specs.Binding.{IsClassName}
use Rattle.jr_images.specs.Regions.{Seen}
use Rattle.jr_images.specs.Words.{InFront, class_name, value_of, neither, IsOfClass, Stands, FindsBetween, FirstWord, NextWord, AreWords}
use Rattle.jr_one_plans.proofs.FoundOnce.{class_key, value_key, same_row}

-- what is seen has one answer each
pub record SeenOnce (V : Seen) : Type 0 where
  pub are : AreRows V.images.rows
  pub each : EachHasOne V.images.rows
  pub classes : (c : Context) (k : LocalKey) → HasOne (V.HasClass c k)

module _ (V : Seen) (seen : SeenOnce V) (c : Context) where
  value_once : (f : Found) → HasOne (IsOfClass V c f)
  value_once (one (local_decl k)) a b x y = seen.classes c k a b x y
  value_once (one (field_decl q)) a b (j, i, type) (k, h, other) =
      value_key a b (same_Some (class a) (class b) (sym type ∙ ap (λ (r : Row). r.type) (same_row V.images.rows seen.are (field_decl q) j k i h) ∙ other))
  value_once (one (class_decl q)) a b x y = absurd x
  value_once (one (method_decl q)) a b x y = absurd x
  value_once (one (constructor_decl q)) a b x y = absurd x
  value_once nothing a b x y = absurd x
  value_once (many d e) a b x y = absurd x
  value_once (not_accessible d) a b x y = absurd x
  value_once (from_static d) a b x y = absurd x

  no_value : (f : Found) (a b : ClassKey) → f ≡ one (class_decl a) → IsOfClass V c f b → ⊥
  no_value f a b e v = subst (λ (x : Found). IsOfClass V c x b) e v

  stands_once : (f : Found) → HasOne (Stands V c f)
  stands_once f (class_name a) (class_name b) x y = ap class_name (class_key a b (sym x ∙ y))
  stands_once f (class_name a) (value_of b) x y = absurd (no_value f a b x y)
  stands_once f (class_name a) neither x y = absurd (y.0 a x)
  stands_once f (value_of a) (class_name b) x y = absurd (no_value f b a y x)
  stands_once f (value_of a) (value_of b) x y = ap value_of (value_once f a b x y)
  stands_once f (value_of a) neither x y = absurd (y.1 a x)
  stands_once f neither (class_name b) x y = absurd (x.0 b y)
  stands_once f neither (value_of b) x y = absurd (x.1 b y)
  stands_once f neither neither x y = λ i. neither

  -- what is found stands one way
  found_once : (Finds : Found → Type 0) → HasOne Finds → HasOne (λ (w : InFront). (f : Found) × Finds f × Stands V c f w)
  found_once Finds single v w (f, x, stands) (k, y, other) = stands_once f v w stands (subst (λ (z : Found). Stands V c z w) (sym (single f k x y)) other)

  pub first_once : (k : ClassKey) → HasOne (FirstWord V c k)
  first_once k = found_once (FindsLeft V.images.rows (V.scope c) (V.images.class_to k).name) (seen.each.left (V.scope c) (V.images.class_to k).name)

  pub between_once : (v : InFront) (name : List ℕ) → HasOne (FindsBetween V c v name)
  between_once (class_name k) name a b x y = seen.each.left_of (V.scope c) k name a b x y
  between_once (value_of k) name a b x y = seen.each.field_in (V.scope c) k name a b x y
  between_once neither name a b x y = x ∙ sym y

  pub next_once : (v : InFront) (k : ClassKey) → HasOne (NextWord V c v k)
  next_once v k = found_once (FindsBetween V c v (V.images.class_to k).name) (between_once v (V.images.class_to k).name)

  module _ (rows : List Row) (bound : IsBound Span rows c) where
    pub class_once : (e : tree.Exp Span) → HasOne (IsClassName rows c e)
    class_once e j k p q = same_Some j k (sym ((bound.names e j).1 p) ∙ (bound.names e k).1 q)

    pub words_once : (e : tree.Exp Span) (k : ClassKey) → HasOne (AreWords rows V c e k)
    words_once (tree.field m e x) k v w (o, named, u, words, stands) (p, other, z, theirs, those) =
        let class_is : o ≡ p = class_once e o p named other in
        let front : u ≡ z = words_once e o u z words (subst (λ (q : ClassKey). AreWords rows V c e q z) (sym class_is) theirs) in
        next_once u k v w stands (subst (λ (q : InFront). NextWord V c q k w) (sym front) those)
    words_once e k v w x y = first_once k v w x y
