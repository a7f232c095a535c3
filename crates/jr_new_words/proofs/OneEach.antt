-- What a name finds this way: one thing, with and without locals.
use Rattle.std.proofs.Common.{◌≡◌, ℕ, List, [], true, false, sym, ◌∙◌}
use Rattle.jr_table.specs.Keys.{ClassKey, Ty}
use Rattle.jr_table.specs.Decls.{class_decl}
use Rattle.jr_table.specs.Rows.{Row}
use Rattle.jr_table.specs.Found.{Found, one}
use Rattle.jr_table.specs.Conditions.{AreRows}
use Rattle.jr_table.specs.Scope.{Scope}
use Rattle.jr_table.specs.Lookup.{FindsVariable, FindsTypeNamed, FindsTypeOf, FindsFieldIn, FindsMethodOf, FindsCtorOf}
use Rattle.jr_table.specs.LookupLaws.{EachHasOne}
use Rattle.jr_images.specs.Words.{InFront, class_name, value_of, neither, FindsBehind}
use Rattle.jr_new_words.specs.Ways.{Way, local, own_field, field_on, field_through, field_on_none, field_above, method_named, method_on, method_through, method_on_none, method_above, ctor_of, ctor_above, type_named, type_behind, is_simple, Finds}
use Rattle.jr_new_words.proofs.Above.{in_one, super_one}

-- behind what stands in front of a dot
pub behind_one : (w : InFront) (Finds : ClassKey → Found → Type 0) → ((k : ClassKey) (a b : Found) → Finds k a → Finds k b → a ≡ b) → (a b : Found) → FindsBehind w Finds a → FindsBehind w Finds b → a ≡ b
behind_one (class_name k) Finds each a b x y = each k a b x y
behind_one (value_of k) Finds each a b x y = each k a b x y
behind_one neither Finds each a b x y = x ∙ sym y

module _ (rows : List Row) (s : Scope) where
  pub one_class : EachHasOne rows → (outer : List ℕ) (a b : ClassKey) → FindsTypeNamed rows s outer (one (class_decl a)) → FindsTypeNamed rows s outer (one (class_decl b)) → a ≡ b
  one_class each outer a b x y = let e : one (class_decl a) ≡ one (class_decl b) = each.type_named s outer (one (class_decl a)) (one (class_decl b)) x y in cc

  pub one_each : AreRows rows → EachHasOne rows → (w : Way) (name : List ℕ) (ts : List Ty) (a b : Found) → Finds rows s w name ts a → Finds rows s w name ts b → a ≡ b
  one_each are each local name ts = each.variable s name
  one_each are each own_field name ts = each.variable s name
  one_each are each (field_on k) name ts = each.field_in s k name
  one_each are each (field_through w k) name ts = behind_one w (λ o. FindsFieldIn rows s o name) (λ o. each.field_in s o name)
  one_each are each (field_on_none t) name ts = λ a b x y. x ∙ sym y
  one_each are each field_above name ts = super_one rows are s.class (λ k x. FindsFieldIn rows s k name x) (λ k. each.field_in s k name)
  one_each are each method_named name ts = each.method_named s name ts
  one_each are each (method_on k) name ts = each.method_of s k name ts
  one_each are each (method_through w k) name ts = behind_one w (λ o. FindsMethodOf rows s o name ts) (λ o. each.method_of s o name ts)
  one_each are each (method_on_none t) name ts = λ a b x y. x ∙ sym y
  one_each are each method_above name ts = super_one rows are s.class (λ k x. FindsMethodOf rows s k name ts x) (λ k. each.method_of s k name ts)
  one_each are each (ctor_of k) name ts = each.ctor_of s k ts
  one_each are each ctor_above name ts = super_one rows are s.class (λ k x. FindsCtorOf rows s k ts x) (λ k. each.ctor_of s k ts)
  one_each are each type_named name ts = each.type_named s name
  one_each are each (type_behind outer) name ts =
      in_one (λ k. FindsTypeNamed rows s outer (one (class_decl k))) (one_class each outer) (λ k x. FindsTypeOf rows s k name x) (λ k. each.type_of s k name)

  -- a simple name is a variable
  pub simple_finds : (w : Way) → is_simple w ≡ true → (name : List ℕ) (ts : List Ty) (f : Found) → FindsVariable rows s name f → Finds rows s w name ts f
  simple_finds local e name ts f h = h
  simple_finds own_field e name ts f h = h
  simple_finds (field_on k) e name ts f h = absurd cc
  simple_finds (field_through w k) e name ts f h = absurd cc
  simple_finds (field_on_none t) e name ts f h = absurd cc
  simple_finds field_above e name ts f h = absurd cc
  simple_finds method_named e name ts f h = absurd cc
  simple_finds (method_on k) e name ts f h = absurd cc
  simple_finds (method_through w k) e name ts f h = absurd cc
  simple_finds (method_on_none t) e name ts f h = absurd cc
  simple_finds method_above e name ts f h = absurd cc
  simple_finds (ctor_of k) e name ts f h = absurd cc
  simple_finds ctor_above e name ts f h = absurd cc
  simple_finds type_named e name ts f h = absurd cc
  simple_finds (type_behind outer) e name ts f h = absurd cc

  abbrev pub bare : Scope
  bare = record { class = s.class; is_static = s.is_static; locals = [] }

  -- locals bear on nothing else
  pub bare_finds : (w : Way) → is_simple w ≡ false → (name : List ℕ) (ts : List Ty) (f : Found) → Finds rows bare w name ts f → Finds rows s w name ts f
  bare_finds local e name ts f h = absurd cc
  bare_finds own_field e name ts f h = absurd cc
  bare_finds (field_on k) e name ts f h = h
  bare_finds (field_through w k) e name ts f h = h
  bare_finds (field_on_none t) e name ts f h = h
  bare_finds field_above e name ts f h = h
  bare_finds method_named e name ts f h = h
  bare_finds (method_on k) e name ts f h = h
  bare_finds (method_through w k) e name ts f h = h
  bare_finds (method_on_none t) e name ts f h = h
  bare_finds method_above e name ts f h = h
  bare_finds (ctor_of k) e name ts f h = h
  bare_finds ctor_above e name ts f h = h
  bare_finds type_named e name ts f h = h
  bare_finds (type_behind outer) e name ts f h = h
