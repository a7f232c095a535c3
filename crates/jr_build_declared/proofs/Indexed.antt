-- An index by keys, one declaration after another.
use Rattle.std.proofs.Common.{◌≡◌, ℕ, ◌+◌, ◌<◌, ◌≤◌, List, Option, Some, None, Bool, true, false, cond, length, refl, sym, ap, subst, ◌∙◌, inl, inr, arith}
use Rattle.std.specs.Prelude.{slice_get, ◌⊎◌, nat_eq, option_map, option_and_then}
use Rattle.std.specs.Option.{MatchOption, option_eq}
use Rattle.std.specs.Cmp.Lexicographic.{pointwise}
use Rattle.std.proofs.lemmas.Option.{slice_get_within}
use Rattle.jr_table.specs.Keys.{ClassKey}
use Rattle.jr_table.specs.SameKeys.{same_class, class_decides, maybe_name_decides}
use Rattle.jr_table.specs.DeclaredItems.{Item, class_item, field_item, method_item, ctor_item, DeclaredClass, DeclaredItem}
use Rattle.jr_table.specs.Faults.{At, IsNamedAsOuter, HasItsName}
use Rattle.jr_build_declared.specs.KeyIndex.{number_at, PutsKey, PutsMaybe, class_key_at, key_in, name_key_at, HasKey, IsIndexOf}
use Rattle.jr_build_declared.specs.DeclarationFaults.{HasEarlier, TwiceClassAt, MemberNamedAt, IsLeastAt, named_twice, twice_of, member_named}
use Rattle.jr_build_declared.specs.declared.key_index.KeyIndex.{KeyIndex}
use Rattle.jr_build_declared.proofs.Earliest.{one_declaration, inside}

module _ (key_of : Item → Option ClassKey) (declarations : List DeclaredItem) where
  abbrev Knows : ℕ → ClassKey → Option ℕ → Type 0
  Knows n k o = MatchOption o ((i : ℕ) → HasKey key_of declarations n k i → ⊥) (HasKey key_of declarations n k)

  split : (m n : ℕ) → m < n + 1 → (m < n) ⊎ (m ≡ n)
  split m n h = grind arith

  pub no_keys : (t : KeyIndex) → ((k : ClassKey) → number_at t k ≡ None) → IsIndexOf key_of declarations 0 t
  no_keys t none = λ k. subst (Knows 0 k) (sym (none k)) (λ i (file, item, lt, at, is). omega (arith, lt))

  nothing : (k : ClassKey) → None ≡ Some k → ⊥
  nothing k e = cc

  -- where declaration n hasn't the key, nothing changes
  kept : (n file : ℕ) (item : Item) (k : ClassKey) (o : Option ℕ) → slice_get declarations n ≡ Some (record { file = file; item = item }) → (key_of item ≡ Some k → ⊥) → Knows n k o → Knows (n + 1) k o
  kept n file item k (Some i) here other (f, x, lt, at, is) = (f, x, omega (arith, lt), at, is)
  kept n file item k None here other none = λ i (f, x, lt, at, is). by i f x at is (split i n lt)
    where
      by : (i f : ℕ) (x : Item) → At declarations i f x → key_of x ≡ Some k → ((i < n) ⊎ (i ≡ n)) → ⊥
      by i f x at is (inl lt) = none i (f, x, lt, at, is)
      by i f x at is (inr e) = other (ap key_of (sym (one_declaration declarations n f file x item (ap (slice_get declarations) (sym e) ∙ at.stands) here).1) ∙ is)

  -- declaration n has a key
  with_key : (n file : ℕ) (item : Item) (own k : ClassKey) (old new : Option ℕ) (same : Bool) → same_class own k ≡ same → new ≡ cond same (Some n) old
      → slice_get declarations n ≡ Some (record { file = file; item = item }) → key_of item ≡ Some own → Knows n k old → Knows (n + 1) k new
  with_key n file item own k old new true e is here has h = subst (Knows (n + 1) k) (sym is) (file, item, omega arith, record { stands = here }, has ∙ ap Some ((class_decides own k).0 e))
  with_key n file item own k old new false e is here has h = subst (Knows (n + 1) k) (sym is) (kept n file item k old here other h)
    where
      other : key_of item ≡ Some k → ⊥
      other key = let same = inside own k (sym has ∙ key) in let t = (class_decides own k).1 same in absurd cc

  pub key_more : (n file : ℕ) (item : Item) (own : Option ClassKey) (old new : KeyIndex) → slice_get declarations n ≡ Some (record { file = file; item = item })
      → own ≡ key_of item → PutsMaybe old own n new → IsIndexOf key_of declarations n old → IsIndexOf key_of declarations (n + 1) new
  key_more n file item None old new here is puts h = λ k. subst (Knows (n + 1) k) (sym (puts k)) (kept n file item k (number_at old k) here (λ e. nothing k (is ∙ e)) (h k))
  key_more n file item (Some own) old new here is puts h = λ k. with_key n file item own k (number_at old k) (number_at new k) (same_class own k) refl (puts k) here (sym is) (h k)

  -- past the last declaration nothing is new
  pub at_end : (n m : ℕ) (t : KeyIndex) → length declarations ≤ n → length declarations ≤ m → IsIndexOf key_of declarations n t → IsIndexOf key_of declarations m t
  at_end n m t past end h = λ k. by k (number_at t k) (h k)
    where
      inside : (i file : ℕ) (item : Item) → At declarations i file item → i < length declarations
      inside i file item at = slice_get_within declarations i _ at.stands

      by : (k : ClassKey) (o : Option ℕ) → Knows n k o → Knows m k o
      by k None none = λ i (f, x, lt, at, is). none i (f, x, (let l = inside i f x at in omega (arith, l, past)), at, is)
      by k (Some i) (f, x, lt, at, is) = (f, x, (let l = inside i f x at in omega (arith, l, end)), at, is)

module _ (declarations : List DeclaredItem) where
  -- a declaration with a class's key declares the class
  class_has : (item : Item) (k : ClassKey) → class_key_at item ≡ Some k → (c : DeclaredClass) × (item ≡ class_item c) × (c.key ≡ k)
  class_has (class_item c) k e = (c, refl, cc)
  class_has (field_item f) k e = absurd cc
  class_has (method_item m) k e = absurd cc
  class_has (ctor_item c) k e = absurd cc

  earlier_from : (n : ℕ) (k : ClassKey) (i : ℕ) → HasKey class_key_at declarations n k i → HasEarlier declarations n k
  earlier_from n k i (file, item, lt, at, is) = let h = class_has item k is in (i, file, h.0, lt, subst (At declarations i file) h.1 at, h.2)

  to_earlier : (n : ℕ) (k : ClassKey) → HasEarlier declarations n k → (i : ℕ) × HasKey class_key_at declarations n k i
  to_earlier n k (i, file, d, lt, at, is) = (i, (file, class_item d, lt, at, ap Some is))

  -- the fault of a class
  outer_decides : (k : ClassKey) (same : Bool) → option_eq (pointwise nat_eq) k.outer (Some k.name) ≡ same → (n : ℕ) (c : DeclaredClass) → c.key ≡ k → (HasEarlier declarations n k → ⊥)
      → IsLeastAt (TwiceClassAt declarations n (class_item c)) (cond same (Some c.at) None)
  outer_decides k true e n c is none = ((refl, inr (subst IsNamedAsOuter (sym is) ((maybe_name_decides k.outer (Some k.name)).0 e))), λ b h. let e = h.0 in omega (arith, e))
  outer_decides k false e n c is none = λ at h. by h.1
    where
      by : (HasEarlier declarations n c.key ⊎ IsNamedAsOuter c.key) → ⊥
      by (inl early) = none (subst (HasEarlier declarations n) is early)
      by (inr own) = let t = (maybe_name_decides k.outer (Some k.name)).1 (subst IsNamedAsOuter is own) in absurd cc

  class_twice : (n : ℕ) (c : DeclaredClass) (before : Option ℕ) → MatchOption before ((i : ℕ) → HasKey class_key_at declarations n c.key i → ⊥) (HasKey class_key_at declarations n c.key)
      → IsLeastAt (TwiceClassAt declarations n (class_item c)) (named_twice c.key c.at before)
  class_twice n c (Some i) h = ((refl, inl (earlier_from n c.key i h)), λ b h. let e = h.0 in omega (arith, e))
  class_twice n c None none = outer_decides c.key (option_eq (pointwise nat_eq) c.key.outer (Some c.key.name)) refl n c refl (λ h. let i = to_earlier n c.key h in none i.0 i.1)

  pub twice_or_not : (n : ℕ) (item : Item) (t : KeyIndex) (before : Option ℕ) → IsIndexOf class_key_at declarations n t → before ≡ option_and_then (number_at t) (class_key_at item)
      → IsLeastAt (TwiceClassAt declarations n item) (twice_of item before)
  twice_or_not n (class_item c) t before h e = class_twice n c before (subst (λ o. MatchOption o ((i : ℕ) → HasKey class_key_at declarations n c.key i → ⊥) (HasKey class_key_at declarations n c.key)) (sym e) (h c.key))
  twice_or_not n (field_item f) t before h e = λ at k. k
  twice_or_not n (method_item m) t before h e = λ at k. k
  twice_or_not n (ctor_item c) t before h e = λ at k. k

  -- a field or method of a class's name
  in_top : (outer : Option (List ℕ)) (of name : List ℕ) (k : ClassKey) → key_in outer of name ≡ Some k → (outer ≡ None) × (k.outer ≡ Some of) × (name ≡ k.name)
  in_top None of name k e =
      let same = inside _ _ e in
      (refl, sym (ap (λ (x : ClassKey). x.outer) same), ap (λ (x : ClassKey). x.name) same)
  in_top (Some outer) of name k e = absurd cc

  top_in : (outer : Option (List ℕ)) (of name : List ℕ) (k : ClassKey) → (outer ≡ None) × (k.outer ≡ Some of) × (name ≡ k.name) → key_in outer of name ≡ Some k
  top_in None of name k (e, o, n) = λ i. Some (record { outer = sym o i; name = n i })
  top_in (Some outer) of name k (e, o, n) = absurd cc

  its_name : (k : ClassKey) (m : Item) → name_key_at m ≡ Some k → HasItsName k m
  its_name k (field_item f) e = in_top f.of.outer f.of.name f.name k e
  its_name k (method_item m) e = in_top m.of.outer m.of.name m.name k e
  its_name k (class_item c) e = absurd cc
  its_name k (ctor_item c) e = absurd cc

  name_its : (k : ClassKey) (m : Item) → HasItsName k m → name_key_at m ≡ Some k
  name_its k (field_item f) h = top_in f.of.outer f.of.name f.name k h
  name_its k (method_item m) h = top_in m.of.outer m.of.name m.name k h
  name_its k (class_item c) h = absurd h
  name_its k (ctor_item c) h = absurd h

  class_named : (n : ℕ) → length declarations ≤ n → (c : DeclaredClass) (o : Option ℕ) → MatchOption o ((i : ℕ) → HasKey name_key_at declarations n c.key i → ⊥) (HasKey name_key_at declarations n c.key)
      → IsLeastAt (MemberNamedAt declarations (class_item c)) (option_map (λ j. c.at) o)
  class_named n end c (Some j) (file, m, lt, at, is) = ((refl, (j, file, m, at, its_name c.key m is)), λ b h. let e = h.0 in omega (arith, e))
  class_named n end c None none = λ at (e, (j, file, m, stands, its)). none j (file, m, (let l = slice_get_within declarations j _ stands.stands in omega (arith, l, end)), stands, name_its c.key m its)

  pub named_or_not : (n : ℕ) → length declarations ≤ n → (item : Item) (t : KeyIndex) → IsIndexOf name_key_at declarations n t → IsLeastAt (MemberNamedAt declarations item) (member_named t item)
  named_or_not n end (class_item c) t h = class_named n end c (number_at t c.key) (h c.key)
  named_or_not n end (field_item f) t h = λ at k. k
  named_or_not n end (method_item m) t h = λ at k. k
  named_or_not n end (ctor_item c) t h = λ at k. k
