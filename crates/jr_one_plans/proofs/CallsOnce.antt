-- For a call and for a constructor one thing is chosen.
use Rattle.std.proofs.Common.{◌≡◌, ℕ, List, [], ◌∷◌, None, sym, subst, ◌∙◌}
use Rattle.std.proofs.lemmas.Option.{same_Some}
use Rattle.jr_text.specs.declared.spans.Span.{Span}
use Rattle.jr_ast.specs.Tree as tree
use Rattle.jr_table.specs.Keys.{ClassKey, MethodKey, CtorKey, Ty}
use Rattle.jr_table.specs.Decls.{method_decl, constructor_decl}
use Rattle.jr_table.specs.Rows.{Row}
use Rattle.jr_table.specs.Conditions.{AreRows}
use Rattle.jr_table.specs.Found.{Found, one}
use Rattle.jr_table.specs.Lookup.{FindsMethodNamed, FindsMethodOf, FindsCtorOf}
use Rattle.jr_table.specs.LookupLaws.{HasOne, EachHasOne}
use Rattle.jr_table.specs.BindingLaws.{IsBound}
use Rattle.jr_table.specs.Context.{Context, scope_of, IsSuperclass}
use Rattle.jr_table.specs.Binding.{HasType, HaveTypes, FindsIn}
use Rattle.jr_spell.specs.declared.references.RefForm.TheVariants as ref
use Rattle.jr_rewrite.specs.Respellings.{Choice}
use Rattle.jr_images.specs.Regions.{Region}
use Rattle.jr_images.specs.Words.{InFront, FindsBehind, AreWords}
use Rattle.jr_images.specs.Spelling.{reference, operand_of, behind_words, on_type, FindsOn, TakenChoice, OnValueOrClass, SimpleCallChoice, CallChoice, SuperCallChoice, CreationChoice, SuperCtorChoice}
use Rattle.jr_program_laws.specs.FileParts.{begins}
use Rattle.jr_program_laws.proofs.FoundOnce.{call_once as one_call, super_call_once as one_super_call, creation_once as one_creation, super_ctor_once as one_super_ctor}
use Rattle.jr_one_plans.proofs.FoundOnce.{method_key, ctor_key, above_once, behind_once, written_once}
use Rattle.jr_one_plans.proofs.TakenOnce.{choice_once, on_once}
use Rattle.jr_one_plans.proofs.WordsOnce.{SeenOnce}
use Rattle.jr_one_plans.proofs.NamesOnce.{on_either_once, through_once}

-- a method with the types of the arguments that it is called with, and a constructor with these
record Called : Type 0 where
  method : MethodKey
  types : List Ty

record Created : Type 0 where
  class : ClassKey
  ctor : CtorKey
  types : List Ty

module _ (rows : List Row) (fit : AreRows rows) (each : EachHasOne rows) (bounds : (c : Context) → IsBound Span rows c) (R : Region Span) (seen : SeenOnce R.seen) (c : Context) where
  type_once : (e : tree.Exp Span) → HasOne (HasType rows c e)
  type_once e t u p q = same_Some t u (sym (((bounds c).types e t).1 p) ∙ ((bounds c).types e u).1 q)

  types_once : (args : tree.Exps Span) → HasOne (HaveTypes rows c args)
  unfolding HaveTypes
  types_once tree.end ts us p q = p ∙ sym q
  types_once (tree.more e es) [] us p q = absurd p
  types_once (tree.more e es) (t ∷ ts) [] p q = absurd q
  types_once (tree.more e es) (t ∷ ts) (u ∷ us) p q = λ i. type_once e t u p.0 q.0 i ∷ types_once es ts us p.1 q.1 i

  abbrev name_now : Called → List ℕ
  name_now p = (R.seen.images.method_to p.method).name

  -- the call is a reference of this form, asked on an operand and behind words that stand so
  module _ (at : ℕ) (old : List ℕ) (args : tree.Exps Span) where
    abbrev types_now : Called → List Ty
    types_now p = R.types_now c args p.types

    -- ---- without a target

    abbrev Simple : Called → Choice → Type 0
    Simple p = TakenChoice begins rows R (R.seen.scope c) at old (name_now p) (method_decl p.method) (method_decl (R.seen.images.method_to p.method)) (reference ref.MethodSimple (name_now p) None (types_now p))
        (FindsMethodNamed R.seen.images.rows (R.seen.scope c) (name_now p) (types_now p))

    simple_once : (p : Called) → HasOne (Simple p)
    simple_once p = choice_once rows R (R.seen.scope c) at old _ (method_decl p.method) _ _ _ (seen.each.method_named (R.seen.scope c) (name_now p) (types_now p))

    pub simple_call_once : HasOne (SimpleCallChoice begins rows R c at old args)
    simple_call_once a b x y =
        let q : x.0 ≡ y.0 = method_key x.0 y.0 (one_call rows fit each c (bounds c) tree.no_target old args (one (method_decl x.0)) (one (method_decl y.0)) x.2 y.2) in
        let ts : x.1 ≡ y.1 = types_once args x.1 y.1 x.3 y.3 in
        let here : Called = record { method = x.0; types = x.1 } in
        let same : here ≡ record { method = y.0; types = y.1 } = λ i. record { method = q i; types = ts i } in
        simple_once here a b x.4 (subst (λ (p : Called). Simple p b) (sym same) y.4)

    -- ---- by `super`

    abbrev Above : Called → Choice → Type 0
    Above p = TakenChoice begins rows R (R.seen.scope c) at old (name_now p) (method_decl p.method) (method_decl (R.seen.images.method_to p.method)) (reference ref.AsAsked (name_now p) None (types_now p))
        (FindsIn (IsSuperclass R.seen.images.rows (R.seen.scope c).class) (λ k f. FindsMethodOf R.seen.images.rows (R.seen.scope c) k (name_now p) (types_now p) f))

    above : (p : Called) → HasOne (Above p)
    above p = choice_once rows R (R.seen.scope c) at old _ (method_decl p.method) _ _ _ (above_once R.seen.images.rows seen.are (R.seen.scope c).class _ (λ k. seen.each.method_of (R.seen.scope c) k (name_now p) (types_now p)))

    pub super_call_once : HasOne (SuperCallChoice begins rows R c at old args)
    super_call_once a b x y =
        let q : x.0 ≡ y.0 = method_key x.0 y.0 (one_super_call rows fit each c (bounds c) old args (one (method_decl x.0)) (one (method_decl y.0)) x.2 y.2) in
        let ts : x.1 ≡ y.1 = types_once args x.1 y.1 x.3 y.3 in
        let here : Called = record { method = x.0; types = x.1 } in
        let same : here ≡ record { method = y.0; types = y.1 } = λ i. record { method = q i; types = ts i } in
        above here a b x.4 (subst (λ (p : Called). Above p b) (sym same) y.4)

    -- ---- on a value, or through a class

    module _ (e : tree.Exp Span) where
      abbrev OnValue : Called → Ty → Choice → Type 0
      OnValue p t = TakenChoice begins rows R (R.seen.scope c) at old (name_now p) (method_decl p.method) (method_decl (R.seen.images.method_to p.method)) (reference ref.MethodOn (name_now p) (on_type t) (types_now p))
          (FindsOn t (λ k. FindsMethodOf R.seen.images.rows (R.seen.scope c) k (name_now p) (types_now p)))

      abbrev ByWords : Called → ClassKey → InFront → Choice → Type 0
      ByWords p k w = TakenChoice begins rows R (R.seen.scope c) at old (name_now p) (method_decl p.method) (method_decl (R.seen.images.method_to p.method))
          (behind_words w (reference ref.ThroughClass (name_now p) (operand_of (R.seen.images.class_to k)) (types_now p))) (FindsBehind w (λ o. FindsMethodOf R.seen.images.rows (R.seen.scope c) o (name_now p) (types_now p)))

      abbrev Either : Called → Choice → Type 0
      Either p h = OnValueOrClass begins rows R c e (λ t. OnValue p t h) (λ k. (w : InFront) × AreWords rows R.seen c e k w × ByWords p k w h)

      of_class_once : (p : Called) (k : ClassKey) → HasOne (λ (f : Found). FindsMethodOf R.seen.images.rows (R.seen.scope c) k (name_now p) (types_now p) f)
      of_class_once p k = seen.each.method_of (R.seen.scope c) k (name_now p) (types_now p)

      either_once : (p : Called) → HasOne (Either p)
      either_once p = on_either_once rows fit each bounds R seen c e (λ t h. OnValue p t h) (λ k h. (w : InFront) × AreWords rows R.seen c e k w × ByWords p k w h)
          (λ t. choice_once rows R (R.seen.scope c) at old _ (method_decl p.method) _ _ _ (on_once t _ (of_class_once p)))
          (λ k. through_once rows fit each bounds R seen c e k (λ w h. ByWords p k w h) (λ w. choice_once rows R (R.seen.scope c) at old _ (method_decl p.method) _ _ _ (behind_once w _ (of_class_once p))))

      pub call_once : HasOne (CallChoice begins rows R c at e old args)
      call_once a b x y =
          let q : x.0 ≡ y.0 = method_key x.0 y.0 (one_call rows fit each c (bounds c) (tree.on e) old args (one (method_decl x.0)) (one (method_decl y.0)) x.2 y.2) in
          let ts : x.1 ≡ y.1 = types_once args x.1 y.1 x.3 y.3 in
          let here : Called = record { method = x.0; types = x.1 } in
          let same : here ≡ record { method = y.0; types = y.1 } = λ i. record { method = q i; types = ts i } in
          either_once here a b x.4 (subst (λ (p : Called). Either p b) (sym same) y.4)

  -- ---- constructors

  module _ (at : ℕ) (args : tree.Exps Span) where
    abbrev Creates : Created → Choice → Type 0
    Creates p = TakenChoice begins rows R (R.seen.scope c) at [] [] (constructor_decl p.ctor) (constructor_decl (R.seen.images.ctor_to p.ctor)) (reference ref.AsAsked [] (operand_of (R.seen.images.class_to p.class)) (R.types_now c args p.types))
        (FindsCtorOf R.seen.images.rows (R.seen.scope c) (R.seen.images.class_to p.class) (R.types_now c args p.types))

    creates_once : (p : Created) → HasOne (Creates p)
    creates_once p = choice_once rows R (R.seen.scope c) at [] [] (constructor_decl p.ctor) _ _ _ (seen.each.ctor_of (R.seen.scope c) (R.seen.images.class_to p.class) (R.types_now c args p.types))

    abbrev CreatesAbove : Created → Choice → Type 0
    CreatesAbove p = TakenChoice begins rows R (R.seen.scope c) at [] [] (constructor_decl p.ctor) (constructor_decl (R.seen.images.ctor_to p.ctor)) (reference ref.AsAsked [] None (R.types_now c args p.types))
        (FindsIn (IsSuperclass R.seen.images.rows (R.seen.scope c).class) (λ k f. FindsCtorOf R.seen.images.rows (R.seen.scope c) k (R.types_now c args p.types) f))

    creates_above_once : (p : Created) → HasOne (CreatesAbove p)
    creates_above_once p = choice_once rows R (R.seen.scope c) at [] [] (constructor_decl p.ctor) _ _ _ (above_once R.seen.images.rows seen.are (R.seen.scope c).class _ (λ k. seen.each.ctor_of (R.seen.scope c) k (R.types_now c args p.types)))

    pub super_ctor_once : HasOne (SuperCtorChoice begins rows R at c args)
    super_ctor_once a b x y =
        let q : x.0 ≡ y.0 = ctor_key x.0 y.0 (one_super_ctor rows fit each c (bounds c) args (one (constructor_decl x.0)) (one (constructor_decl y.0)) x.2 y.2) in
        let ts : x.1 ≡ y.1 = types_once args x.1 y.1 x.3 y.3 in
        let here : Created = record { class = x.0.class; ctor = x.0; types = x.1 } in
        let same : here ≡ record { class = y.0.class; ctor = y.0; types = y.1 } = λ i. record { class = (q i).class; ctor = q i; types = ts i } in
        creates_above_once here a b x.4 (subst (λ (p : Created). CreatesAbove p b) (sym same) y.4)

  pub creation_once : (base : ℕ) (e : tree.Exp Span) → HasOne (CreationChoice begins rows R c base e)
  creation_once base (tree.create m t args) a b x y =
      let k : x.0 ≡ y.0 = written_once rows each (scope_of c) t x.0 y.0 x.3 y.3 in
      let q : x.1 ≡ y.1 = ctor_key x.1 y.1 (one_creation rows fit each c (bounds c) t args (one (constructor_decl x.1)) (one (constructor_decl y.1)) x.4 y.4) in
      let ts : x.2 ≡ y.2 = types_once args x.2 y.2 x.5 y.5 in
      let here : Created = record { class = x.0; ctor = x.1; types = x.2 } in
      let same : here ≡ record { class = y.0; ctor = y.1; types = y.2 } = λ i. record { class = k i; ctor = q i; types = ts i } in
      creates_once (begins m base) args here a b x.6 (subst (λ (p : Created). Creates (begins m base) args p b) (sym same) y.6)
  creation_once base e a b x y = absurd x
