-- For a class as a type, in front of a dot or behind it, and for a superclass, one thing is chosen.
use Rattle.std.proofs.Common.{◌≡◌, ℕ, List, [], Option, Some, None, false, sym, subst}
use Rattle.jr_text.specs.declared.spans.Span.{Span}
use Rattle.jr_ast.specs.Tree as tree
use Rattle.jr_table.specs.Keys.{ClassKey}
use Rattle.jr_table.specs.Decls.{head, class_decl}
use Rattle.jr_table.specs.Rows.{Row}
use Rattle.jr_table.specs.Found.{one}
use Rattle.jr_table.specs.Prelude.{top_key}
use Rattle.jr_table.specs.Lookup.{FindsTypeNamed}
use Rattle.jr_table.specs.LookupLaws.{HasOne, EachHasOne}
use Rattle.jr_table.specs.Context.{Context, scope_of}
use Rattle.jr_table.specs.Binding.{word_at}
use Rattle.jr_table.specs.HeadRules.{plain, TopFinds}
use Rattle.jr_spell.specs.declared.references.RefForm.TheVariants as ref
use Rattle.jr_rewrite.specs.Respellings.{Choice}
use Rattle.jr_images.specs.Regions.{Region}
use Rattle.jr_images.specs.Spelling.{reference, dotted, TakenChoice, LeftChoice, QualifiedThere, TypeChoice, QualifierChoice, ParentChoice, ParentQualifierChoice}
use Rattle.jr_program_laws.specs.FileParts.{begins}
use Rattle.jr_one_plans.proofs.FoundOnce.{class_key, top_once, named_once, inner_once, qualified_once}
use Rattle.jr_one_plans.proofs.TakenOnce.{choice_once, left_once}
use Rattle.jr_one_plans.proofs.WordsOnce.{SeenOnce}

record Pair : Type 0 where
  outer : ClassKey
  inner : ClassKey

module _ (rows : List Row) (each : EachHasOne rows) (R : Region Span) (seen : SeenOnce R.seen) where
  abbrev name_now : ClassKey → List ℕ
  name_now k = (R.seen.images.class_to k).name

  -- ---- a type's name

  abbrev Simple : Context → (at : ℕ) → (old : List ℕ) → ClassKey → Choice → Type 0
  Simple c at old k = TakenChoice begins rows R (R.seen.scope c) at old (name_now k) (class_decl k) (class_decl (R.seen.images.class_to k)) (reference ref.ClassName (name_now k) None [])
      (FindsTypeNamed R.seen.images.rows (R.seen.scope c) (name_now k))

  simple_once : (c : Context) (at : ℕ) (old : List ℕ) (k : ClassKey) → HasOne (Simple c at old k)
  simple_once c at old k = choice_once rows R (R.seen.scope c) at old _ (class_decl k) _ _ _ (seen.each.type_named (R.seen.scope c) (name_now k))

  abbrev Behind : Context → (at : ℕ) → (old : List ℕ) → Pair → Choice → Type 0
  Behind c at old p = TakenChoice begins rows R (R.seen.scope c) at old (name_now p.inner) (class_decl p.inner) (class_decl (R.seen.images.class_to p.inner)) (reference ref.ClassName (dotted (name_now p.outer) (name_now p.inner)) None [])
      (QualifiedThere begins rows R (R.seen.scope c) (name_now p.outer) (name_now p.inner))

  behind_once : (c : Context) (at : ℕ) (old : List ℕ) (p : Pair) → HasOne (Behind c at old p)
  behind_once c at old p = choice_once rows R (R.seen.scope c) at old _ (class_decl p.inner) _ _ _ (qualified_once R.seen.images.rows seen.each (R.seen.scope c) (name_now p.outer) (name_now p.inner))

  pub type_once : (c : Context) (base : ℕ) (t : tree.TypeName Span) → HasOne (TypeChoice begins rows R c base t)
  type_once c base (tree.int m) a b x y = absurd x
  type_once c base (tree.boolean m) a b x y = absurd x
  type_once c base (tree.named m None w) a b x y =
      simple_once c (word_at begins m base w) w.text x.0 a b x.2 (subst (λ (k : ClassKey). Simple c (word_at begins m base w) w.text k b) (sym (named_once rows each (scope_of c) w.text x.0 y.0 x.1 y.1)) y.2)
  type_once c base (tree.named m (Some v) w) a b x y =
      let o : x.0 ≡ y.0 = named_once rows each (scope_of c) v.text x.0 y.0 x.2 y.2 in
      let k : x.1 ≡ y.1 = inner_once rows each (scope_of c) w.text x.0 y.0 o x.1 y.1 x.3 y.3 in
      let here : Pair = record { outer = x.0; inner = x.1 } in
      let same : here ≡ record { outer = y.0; inner = y.1 } = λ i. record { outer = o i; inner = k i } in
      behind_once c (word_at begins m base w) w.text here a b x.4 (subst (λ (p : Pair). Behind c (word_at begins m base w) w.text p b) (sym same) y.4)

  -- ---- the name in front of the dot

  abbrev Front : Context → (at : ℕ) → (old : List ℕ) → ClassKey → Choice → Type 0
  Front c at old k = LeftChoice begins rows R at old k (FindsTypeNamed R.seen.images.rows (R.seen.scope c) (name_now k) (one (class_decl (R.seen.images.class_to k)))) (FindsTypeNamed R.seen.images.rows (R.seen.scope c) (name_now k))

  front_once : (c : Context) (at : ℕ) (old : List ℕ) (k : ClassKey) → HasOne (Front c at old k)
  front_once c at old k = left_once rows R at old k _ _ (seen.each.type_named (R.seen.scope c) (name_now k))

  pub qualifier_once : (c : Context) (base : ℕ) (t : tree.TypeName Span) → HasOne (QualifierChoice begins rows R c base t)
  qualifier_once c base (tree.int m) a b x y = absurd x
  qualifier_once c base (tree.boolean m) a b x y = absurd x
  qualifier_once c base (tree.named m None w) a b x y = absurd x
  qualifier_once c base (tree.named m (Some v) w) a b x y =
      front_once c (word_at begins m base v) v.text x.0 a b x.2 (subst (λ (k : ClassKey). Front c (word_at begins m base v) v.text k b) (sym (named_once rows each (scope_of c) v.text x.0 y.0 x.1 y.1)) y.2)

  -- ---- superclasses

  abbrev Top : (at : ℕ) → (old : List ℕ) → ClassKey → Choice → Type 0
  Top at old k = LeftChoice begins rows R at old k (TopFinds R.seen.images.rows (name_now k) (one (class_decl (R.seen.images.class_to k)))) (TopFinds R.seen.images.rows (name_now k))

  pub parent_once : (outer : Option (List ℕ)) (base : ℕ) (t : tree.TypeName Span) → HasOne (ParentChoice begins rows R outer base t)
  parent_once (Some outer) base t a b x y = type_once (plain (head (top_key outer)) false) base t a b x y
  parent_once None base (tree.int m) a b x y = absurd x
  parent_once None base (tree.boolean m) a b x y = absurd x
  parent_once None base (tree.named m (Some v) w) a b x y = absurd x
  parent_once None base (tree.named m None w) a b x y =
      left_once rows R (word_at begins m base w) w.text x.0 _ _ (top_once R.seen.images.rows (name_now x.0)) a b x.2
      (subst (λ (k : ClassKey). Top (word_at begins m base w) w.text k b) (sym (class_key x.0 y.0 (top_once rows w.text (one (class_decl x.0)) (one (class_decl y.0)) x.1 y.1))) y.2)

  pub parent_qualifier_once : (outer : Option (List ℕ)) (base : ℕ) (t : tree.TypeName Span) → HasOne (ParentQualifierChoice begins rows R outer base t)
  parent_qualifier_once (Some outer) base t a b x y = qualifier_once (plain (head (top_key outer)) false) base t a b x y
  parent_qualifier_once None base t a b x y = absurd x
