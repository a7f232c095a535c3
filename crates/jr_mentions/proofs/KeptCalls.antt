-- What a call or a creation finds is at the same rows where names alone change, and not the one that
-- is looked for.
use Rattle.std.proofs.Common.{◌≡◌, ℕ, List, [], ◌∷◌, map, refl, ap, ◌∙◌, Option, Some, None, Bool, ◌&&◌, ◌||◌, ◌==◌}
use Rattle.std.specs.Prelude.{option_map, slice_get, filter, if◌then◌else◌}
use Rattle.std.specs.List.{list_any}
use Rattle.jr_table.specs.declared.entries.Kind.{Kind}
use Rattle.jr_table.specs.declared.entries.Kind.TheVariants.{Int, Boolean, Void, Null, Class}
use Rattle.jr_table.specs.declared.entries.Sort.TheVariants as sort
use Rattle.jr_table.specs.declared.entries.Entry.{Entry}
use Rattle.jr_table.specs.declared.answers.Answer.{Answer}
use Rattle.jr_table.specs.declared.answers.Answer.TheVariants.{One, Nothing, Many, NotAccessible, FromStatic}
use Rattle.jr_table.specs.Chains.{outer_of}
use Rattle.jr_table.specs.Looking.{same_kind, is_sort, is_number, is_method, member}
use Rattle.jr_table.specs.Choice.{choose}
use Rattle.jr_table.specs.Calls.{widens, assignable, fits, params_in, params_at, as_specific, passing, is_named_entry, is_named, is_ctor_entry, is_ctor, methods_named, ctors_in, fitting, choose_at, find_method, find_ctor, from_object, call_in, call_around, call_from, find_call}
use Rattle.jr_mentions.proofs.Keeping.{Keeps, KeepsName, get_map, length_map, outer, chain}
use Rattle.jr_mentions.proofs.KeptMembers.{method, member_same}
use Rattle.jr_mentions.proofs.KeptFindings.{accessible, lacks}

module _ (h : Entry → Entry) (k : Keeps h) (rows : List Entry) where
  widening : (s t : Kind) → widens (map h rows) s t ≡ widens rows s t
  widening (Class c) (Class d) = ap (λ cs. list_any (λ x. x == d) cs) (chain h k rows c)
  widening (Class c) Int = refl
  widening (Class c) Boolean = refl
  widening (Class c) Void = refl
  widening (Class c) Null = refl
  widening Null (Class d) = refl
  widening Null Int = refl
  widening Null Boolean = refl
  widening Null Void = refl
  widening Null Null = refl
  widening Int t = refl
  widening Boolean t = refl
  widening Void t = refl

  pub assigns : (s t : Kind) → assignable (map h rows) s t ≡ assignable rows s t
  unfolding assignable
  assigns s t = λ i. same_kind s t || widening s t i

  fit : (ss ts : List Kind) → fits (map h rows) ss ts ≡ fits rows ss ts
  fit [] [] = refl
  fit [] (t ∷ ts) = refl
  fit (s ∷ ss) [] = refl
  fit (s ∷ ss) (t ∷ ts) = λ i. assigns s t i && fit ss ts i

  params_of : (o : Option Entry) → params_in (option_map h o) ≡ params_in o
  params_of None = refl
  params_of (Some e) = k.params e

  params : (j : ℕ) → params_at (map h rows) j ≡ params_at rows j
  params j = ap params_in (get_map h rows j) ∙ params_of (slice_get rows j)

  specific : (j l : ℕ) → as_specific (map h rows) j l ≡ as_specific rows j l
  unfolding as_specific
  specific j l = (λ i. fits (map h rows) (params j i) (params l i)) ∙ fit (params_at rows j) (params_at rows l)

  ctor_of : (c : ℕ) (o : Option Entry) → is_ctor_entry c (option_map h o) ≡ is_ctor_entry c o
  ctor_of c None = refl
  ctor_of c (Some e) = λ i. is_sort (k.sort e i) sort.Ctor && (k.class e i == c)

  ctor : (c j : ℕ) → is_ctor (map h rows) c j ≡ is_ctor rows c j
  unfolding is_ctor
  ctor c j = ap (is_ctor_entry c) (get_map h rows j) ∙ ctor_of c (slice_get rows j)

  pub ctors : (c : ℕ) → ctors_in (map h rows) c ≡ ctors_in rows c
  unfolding ctors_in
  ctors c = λ i. passing (λ j. ctor c j i) (length_map h rows i)

  fittings : (args : List Kind) (js : List ℕ) → fitting (map h rows) args js ≡ fitting rows args js
  fittings args js = λ i. filter (λ j. ((ap (fits (map h rows) args) (params j) ∙ fit args (params_at rows j)) i)) js

  pub chooses : (place : ℕ) (args : List Kind) (js : List ℕ)
      → choose_at (map h rows) place args js ≡ choose_at rows place args js
  unfolding choose_at
  chooses place args js = λ i. choose (λ j l. specific j l i) (fittings args js i)
      (filter (λ j. accessible h k rows place j i) (fittings args js i))

  pub ctor_found : (place c : ℕ) (args : List Kind)
      → find_ctor (map h rows) place c args ≡ find_ctor rows place c args
  unfolding find_ctor
  ctor_found place c args = ap (choose_at (map h rows) place args) (ctors c)
      ∙ chooses place args (ctors_in rows c)

  object : (c : ℕ) (is_static : Bool) (e : ℕ) (a : Answer)
      → from_object (map h rows) c is_static e a ≡ from_object rows c is_static e a
  object c is_static e (One j) = ap (λ b. if b then FromStatic j else One j) (lacks h k rows c is_static e j)
  object c is_static e Nothing = refl
  object c is_static e (Many i j) = refl
  object c is_static e (NotAccessible j) = refl
  object c is_static e (FromStatic j) = refl

  pub inside : (c : ℕ) (is_static : Bool) (args : List Kind) (e : ℕ) (js : List ℕ)
      → call_in (map h rows) c is_static args e js ≡ call_in rows c is_static args e js
  inside c is_static args e js = ap (from_object (map h rows) c is_static e) (chooses c args js)
      ∙ object c is_static e (choose_at rows c args js)

module _ (name : List ℕ) (h : Entry → Entry) (k : Keeps h) (n : KeepsName name h) (rows : List Entry) where
  named_of : (c j : ℕ) (o : Option Entry)
      → is_named_entry (map h rows) name c j (option_map h o) ≡ is_named_entry rows name c j o
  named_of c j None = refl
  named_of c j (Some e) = λ i. n e i && is_number ((ap (λ ps. member (map h rows) (is_method name ps) c) (k.params e)
      ∙ member_same h k rows (is_method name e.params) (method name h k n e.params) c) i) j

  named : (c j : ℕ) → is_named (map h rows) name c j ≡ is_named rows name c j
  unfolding is_named
  named c j = ap (is_named_entry (map h rows) name c j) (get_map h rows j) ∙ named_of c j (slice_get rows j)

  pub methods : (c : ℕ) → methods_named (map h rows) name c ≡ methods_named rows name c
  unfolding methods_named
  methods c = λ i. passing (λ j. named c j i) (length_map h rows i)

  pub method_found : (place c : ℕ) (args : List Kind)
      → find_method (map h rows) place c name args ≡ find_method rows place c name args
  unfolding find_method
  method_found place c args = ap (choose_at (map h rows) place args) (methods c)
      ∙ chooses h k rows place args (methods_named rows name c)

  around : (c : ℕ) (is_static : Bool) (args : List Kind) (o : Option ℕ)
      → call_around (map h rows) c is_static name args o ≡ call_around rows c is_static name args o
  around c is_static args None = refl
  around c is_static args (Some e) = ap (call_in (map h rows) c is_static args e) (methods e)
      ∙ inside h k rows c is_static args e (methods_named rows name e)

  from : (c : ℕ) (is_static : Bool) (args : List Kind) (js : List ℕ)
      → call_from (map h rows) c is_static name args js ≡ call_from rows c is_static name args js
  from c is_static args [] = ap (call_around (map h rows) c is_static name args) (outer h k rows c)
      ∙ around c is_static args (outer_of rows c)
  from c is_static args (j ∷ js) = inside h k rows c is_static args c (j ∷ js)

  pub call_found : (c : ℕ) (is_static : Bool) (args : List Kind)
      → find_call (map h rows) c is_static name args ≡ find_call rows c is_static name args
  unfolding find_call
  call_found c is_static args = ap (call_from (map h rows) c is_static name args) (methods c)
      ∙ from c is_static args (methods_named rows name c)
