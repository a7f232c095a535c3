-- One file of top-level classes without faults of declarations, computed.
use Rattle.std.proofs.lemmas.Bool.{and_parts, and_from, or_left, or_right}
use Rattle.std.proofs.Common.{◌≡◌, ℕ, zero, suc, ◌<◌, List, [], ◌∷◌, Option, Some, None, Bool, true, false, ◌&&◌, ◌||◌, refl, sym, ap, subst, ◌∙◌, inl, inr}
use Rattle.std.specs.Prelude.{is_none, slice_get, not, codes}
use Rattle.std.specs.List.{list_any}
use Rattle.std.specs.Cmp.Lexicographic.{bytes_decides}
use Rattle.jr_ast.specs.declared.operators.ModWord.{ModWord}
use Rattle.jr_ast.specs.declared.operators.ModWord.TheVariants as word
use Rattle.jr_table.specs.declared.kinds.DeclKind.TheVariants as kind
use Rattle.jr_table.specs.Keys.{ClassKey}
use Rattle.jr_table.specs.SameKeys.{same_name, same_class, class_decides, same_types, types_decide}
use Rattle.jr_table.specs.Entries.{is_static_word}
use Rattle.jr_table.specs.DeclaredItems.{Written, named, DeclaredParam, DeclaredInit, DeclaredClass, Item, class_item, field_item, method_item, ctor_item, DeclaredItem}
use Rattle.jr_table.specs.Resolving.{HasWord, IsPreludeSubclass, IsPreludeClass, Means}
use Rattle.jr_table.specs.Faults.{At, IsReserved, ClassWordsBad, WordsBad, Writes, WritesType, SameTypes, SameMember, params_of, ParamTwice, HasItsName, InitIsBad, IsClean}
use Rattle.jr_code_cases.proofs.TopTypes.{is_prelude, all_top, meaning, meanings, has_meaning, have_meanings, means, one_meaning, none_is}
use Rattle.jr_code_cases.proofs.DeclaredRows.{parent_in, has_result, item_passes, all_pass, is_parent}
use Rattle.jr_code_cases.proofs.Pairing.{all_items, item_at, pairs, pairs_at, all_pairs, pair_at}
use Rattle.jr_code_cases.proofs.CleanWords.{words_pass, top_word, field_word, method_word, is_access, top_clean, field_clean, method_clean, ctor_clean, false_true}
use Rattle.jr_code_cases.proofs.NoCycle.{all_rise, no_cycle}

-- ---- reserved names

abbrev reserved : List ℕ → Bool
reserved name = is_prelude name || same_name name (codes "Runnable")

abbrev is_subclass_name : List ℕ → Bool
is_subclass_name name = same_name name (codes "String") || (same_name name (codes "Class") || same_name name (codes "Thread"))

subclass_has : (name : List ℕ) → IsPreludeSubclass name → is_subclass_name name ≡ true
subclass_has name (inl is) = or_left (same_name name (codes "String")) _ ((bytes_decides name (codes "String")).1 is)
subclass_has name (inr (inl is)) = or_right (same_name name (codes "String")) _ (or_left (same_name name (codes "Class")) _ ((bytes_decides name (codes "Class")).1 is))
subclass_has name (inr (inr is)) = or_right (same_name name (codes "String")) _ (or_right (same_name name (codes "Class")) _ ((bytes_decides name (codes "Thread")).1 is))

prelude_has : (name : List ℕ) → IsPreludeClass name → is_prelude name ≡ true
prelude_has name (inl is) = or_left (same_name name (codes "Object")) _ ((bytes_decides name (codes "Object")).1 is)
prelude_has name (inr h) = or_right (same_name name (codes "Object")) _ (subclass_has name h)

reserved_has : (name : List ℕ) → IsReserved name → reserved name ≡ true
reserved_has name (inl h) = or_left (is_prelude name) _ (prelude_has name h)
reserved_has name (inr is) = or_right (is_prelude name) _ ((bytes_decides name (codes "Runnable")).1 is)

-- ---- what is asked of each item, and of each two

abbrev static_passes : List ModWord → Option DeclaredInit → Bool
static_passes ws None = true
static_passes ws (Some i) = not (list_any is_static_word ws) || i.is_simple

abbrev names_differ : List DeclaredParam → Bool
names_differ ps = pairs (λ (p q : DeclaredParam). not (same_name p.name q.name)) ps

abbrev item_clean : Item → Bool
item_clean (class_item c) = not (reserved c.key.name) && words_pass top_word c.modifiers
item_clean (field_item f) = words_pass field_word f.modifiers && static_passes f.modifiers f.init
item_clean (method_item m) = words_pass method_word m.modifiers && names_differ m.params
item_clean (ctor_item c) = words_pass is_access c.modifiers && names_differ c.params

abbrev same_item : Item → Item → Bool
same_item (class_item c) (class_item d) = same_class c.key d.key
same_item (field_item f) (field_item g) = same_class f.of g.of && same_name f.name g.name
same_item (method_item m) (method_item n) = same_class m.of n.of && (same_name m.name n.name && same_types (meanings m.params) (meanings n.params))
same_item (ctor_item c) (ctor_item d) = same_class c.of d.of && same_types (meanings c.params) (meanings d.params)
same_item _ _ = false

abbrev items_differ : Item → Item → Bool
items_differ x y = not (same_item x y)

abbrev pub is_clean : List DeclaredItem → Bool
is_clean ds = all_items ds item_clean && (all_pairs ds items_differ && all_rise ds)

pass_at : (ds xs : List DeclaredItem) (i : ℕ) (x : DeclaredItem) → all_pass ds xs ≡ true → slice_get xs i ≡ Some x → item_passes ds x.item ≡ true
pass_at ds [] i x e at = absurd cc
pass_at ds (y ∷ ys) zero x e at = let same : y ≡ x = cc in subst (λ (z : DeclaredItem). item_passes ds z.item ≡ true) same (and_parts (item_passes ds y.item) (all_pass ds ys) e).0
pass_at ds (y ∷ ys) (suc i) x e at = pass_at ds ys i x (and_parts (item_passes ds y.item) (all_pass ds ys) e).1 at

module _ (ds : List DeclaredItem) (top : all_top ds ≡ true) (pass : all_pass ds ds ≡ true) (clean : is_clean ds ≡ true) where
  items_clean : (i file : ℕ) (x : Item) → At ds i file x → item_clean x ≡ true
  items_clean i file x at = item_at ds item_clean (and_parts (all_items ds item_clean) _ clean).0 i file x at

  differ : (i j f g : ℕ) (x y : Item) → i < j → At ds i f x → At ds j g y → same_item x y ≡ true → ⊥
  differ i j f g x y less at other same = false_true (same_item x y) same (pair_at ds items_differ (and_parts (all_pairs ds items_differ) _ (and_parts (all_items ds item_clean) _ clean).1).0 i j f g x y less at other)

  passes : (i file : ℕ) (x : Item) → At ds i file x → item_passes ds x ≡ true
  passes i file x at = pass_at ds ds i (record { file = file; item = x }) pass at.stands

  top_key_at : (i file : ℕ) (c : DeclaredClass) → At ds i file (class_item c) → c.key.outer ≡ None
  top_key_at i file c at = none_is c.key.outer (and_parts (is_none c.key.outer) _ (passes i file (class_item c) at)).0

  -- ---- types

  writes_mean : (ps : List DeclaredParam) (w : Written) → have_meanings ds ps ≡ true → Writes ps w → has_meaning ds w ≡ true
  writes_mean [] w e h = absurd h
  writes_mean (p ∷ ps) w e (inl is) = subst (λ (x : Written). has_meaning ds x ≡ true) is (and_parts (has_meaning ds p.type) (have_meanings ds ps) e).0
  writes_mean (p ∷ ps) w e (inr h) = writes_mean ps w (and_parts (has_meaning ds p.type) (have_meanings ds ps) e).1 h

  result_means : (r : Option Written) (w : Written) → has_result ds r ≡ true → r ≡ Some w → has_meaning ds w ≡ true
  result_means None w e is = absurd cc
  result_means (Some x) w e is = let same : x ≡ w = cc in subst (λ (y : Written). has_meaning ds y ≡ true) same e

  means_at : (k of : ClassKey) → of ≡ k → of.outer ≡ None → (w : Written) → has_meaning ds w ≡ true → Means ds k w (meaning w)
  means_at k of is outer w e = means ds top k (sym (ap (λ (x : ClassKey). x.outer) is) ∙ outer) w e

  written_means : (x : Item) → item_passes ds x ≡ true → (k : ClassKey) (w : Written) → WritesType x k w → Means ds k w (meaning w)
  written_means (class_item c) e k w h = absurd h
  written_means (field_item f) e k w (of, is) =
      let t = and_parts (is_none f.of.outer) (has_meaning ds f.type) e in
      means_at k f.of of (none_is f.of.outer t.0) w (subst (λ (y : Written). has_meaning ds y ≡ true) is t.1)
  written_means (method_item m) e k w (of, h) =
      let t = and_parts (is_none m.of.outer) (has_result ds m.result && have_meanings ds m.params) e in
      let u = and_parts (has_result ds m.result) (have_meanings ds m.params) t.1 in
      means_at k m.of of (none_is m.of.outer t.0) w (elim h [ inl is ↦ result_means m.result w u.0 is | inr writes ↦ writes_mean m.params w u.1 writes ])
  written_means (ctor_item c) e k w (of, writes) =
      let t = and_parts (is_none c.of.outer) (have_meanings ds c.params) e in
      means_at k c.of of (none_is c.of.outer t.0) w (writes_mean c.params w t.1 writes)

  same_meanings : (k : ClassKey) → k.outer ≡ None → (ps qs : List DeclaredParam) → have_meanings ds ps ≡ true → have_meanings ds qs ≡ true → SameTypes ds k ps qs → meanings ps ≡ meanings qs
  same_meanings k outer [] [] e f h = refl
  same_meanings k outer [] (q ∷ qs) e f h = absurd h
  same_meanings k outer (p ∷ ps) [] e f h = absurd h
  same_meanings k outer (p ∷ ps) (q ∷ qs) e f ((t, a, b), rest) =
      let u = and_parts (has_meaning ds p.type) (have_meanings ds ps) e in
      let v = and_parts (has_meaning ds q.type) (have_meanings ds qs) f in
      let first = sym (one_meaning ds top k outer p.type t u.0 a) ∙ one_meaning ds top k outer q.type t v.0 b in
      λ i. first i ∷ same_meanings k outer ps qs u.1 v.1 rest i

  -- ---- members

  same_is : (x y : Item) → item_passes ds x ≡ true → item_passes ds y ≡ true → SameMember ds x y → same_item x y ≡ true
  same_is (field_item f) (field_item g) e d (of, name) = and_from (same_class f.of g.of) (same_name f.name g.name) ((class_decides f.of g.of).1 of) ((bytes_decides f.name g.name).1 name)
  same_is (method_item m) (method_item n) e d (of, name, types) =
      let t = and_parts (is_none m.of.outer) (has_result ds m.result && have_meanings ds m.params) e in
      let u = and_parts (is_none n.of.outer) (has_result ds n.result && have_meanings ds n.params) d in
      let same = same_meanings m.of (none_is m.of.outer t.0) m.params n.params (and_parts (has_result ds m.result) (have_meanings ds m.params) t.1).1 (and_parts (has_result ds n.result) (have_meanings ds n.params) u.1).1 types in
      and_from (same_class m.of n.of) (same_name m.name n.name && same_types (meanings m.params) (meanings n.params)) ((class_decides m.of n.of).1 of)
      (and_from (same_name m.name n.name) (same_types (meanings m.params) (meanings n.params)) ((bytes_decides m.name n.name).1 name) ((types_decide (meanings m.params) (meanings n.params)).1 same))
  same_is (ctor_item c) (ctor_item b) e d (of, types) =
      let t = and_parts (is_none c.of.outer) (have_meanings ds c.params) e in
      let u = and_parts (is_none b.of.outer) (have_meanings ds b.params) d in
      let same = same_meanings c.of (none_is c.of.outer t.0) c.params b.params t.1 u.1 types in
      and_from (same_class c.of b.of) (same_types (meanings c.params) (meanings b.params)) ((class_decides c.of b.of).1 of) ((types_decide (meanings c.params) (meanings b.params)).1 same)
  same_is (class_item c) y e d h = absurd h
  same_is (field_item f) (class_item c) e d h = absurd h
  same_is (field_item f) (method_item m) e d h = absurd h
  same_is (field_item f) (ctor_item c) e d h = absurd h
  same_is (method_item m) (class_item c) e d h = absurd h
  same_is (method_item m) (field_item f) e d h = absurd h
  same_is (method_item m) (ctor_item c) e d h = absurd h
  same_is (ctor_item c) (class_item b) e d h = absurd h
  same_is (ctor_item c) (field_item f) e d h = absurd h
  same_is (ctor_item c) (method_item m) e d h = absurd h

  no_param_twice : (ps : List DeclaredParam) (at : ℕ) → names_differ ps ≡ true → ParamTwice ps at → ⊥
  no_param_twice ps at e h =
      false_true (same_name h.first.name h.second.name) ((bytes_decides h.first.name h.second.name).1 h.same)
      (pairs_at (λ (p q : DeclaredParam). not (same_name p.name q.name)) ps h.i h.j h.first h.second e h.before h.one h.other)

  no_twice_at : (x : Item) (at : ℕ) → item_clean x ≡ true → ParamTwice (params_of x) at → ⊥
  no_twice_at (method_item m) at e h = no_param_twice m.params at (and_parts (words_pass method_word m.modifiers) (names_differ m.params) e).1 h
  no_twice_at (ctor_item c) at e h = no_param_twice c.params at (and_parts (words_pass is_access c.modifiers) (names_differ c.params) e).1 h
  no_twice_at (class_item c) at e h = absurd cc
  no_twice_at (field_item f) at e h = absurd cc

  -- ---- words and initializers

  words_clean : (i file : ℕ) (x : Item) → At ds i file x → item_clean x ≡ true → WordsBad x → ⊥
  words_clean i file (class_item c) at e h = top_clean c.modifiers (and_parts (not (reserved c.key.name)) (words_pass top_word c.modifiers) e).1 (subst (λ (o : Option (List ℕ)). ClassWordsBad c o) (top_key_at i file c at) h)
  words_clean i file (field_item f) at e h = field_clean f.modifiers (and_parts (words_pass field_word f.modifiers) (static_passes f.modifiers f.init) e).0 h
  words_clean i file (method_item m) at e h = method_clean m.modifiers (and_parts (words_pass method_word m.modifiers) (names_differ m.params) e).0 h
  words_clean i file (ctor_item c) at e h = ctor_clean c.modifiers (and_parts (words_pass is_access c.modifiers) (names_differ c.params) e).0 h

  has_static : (ws : List ModWord) → HasWord ws word.Static → list_any is_static_word ws ≡ true
  has_static [] h = absurd h
  has_static (w ∷ ws) (inl is) = or_left (is_static_word w) _ (ap is_static_word is)
  has_static (w ∷ ws) (inr h) = or_right (is_static_word w) _ (has_static ws h)

  simple : (s b : Bool) → s ≡ true → not s || b ≡ true → b ≡ true
  simple true b e f = f
  simple false b e f = absurd cc

  init_clean : (ws : List ModWord) (o : Option DeclaredInit) (i : DeclaredInit) → static_passes ws o ≡ true → HasWord ws word.Static → o ≡ Some i → i.is_simple ≡ false → ⊥
  init_clean ws None i e has is bad = absurd cc
  init_clean ws (Some j) i e has is bad =
      let same : j ≡ i = cc in
      let t = simple (list_any is_static_word ws) j.is_simple (has_static ws has) e in
      let u = sym t ∙ ap (λ (x : DeclaredInit). x.is_simple) same ∙ bad in
      absurd cc

  static_clean : (x : Item) (at : ℕ) → item_clean x ≡ true → InitIsBad x at → ⊥
  static_clean (field_item f) at e (has, (i, is, bad, place)) = init_clean f.modifiers f.init i (and_parts (words_pass field_word f.modifiers) (static_passes f.modifiers f.init) e).1 has is bad
  static_clean (class_item c) at e h = h
  static_clean (method_item m) at e h = h
  static_clean (ctor_item c) at e h = h

  no_such : (k : ClassKey) (x : Item) → k.outer ≡ None → HasItsName k x → ⊥
  no_such k (field_item f) outer (none, of, name) = absurd (let e = sym outer ∙ of in cc)
  no_such k (method_item m) outer (none, of, name) = absurd (let e = sym outer ∙ of in cc)
  no_such k (class_item c) outer h = h
  no_such k (ctor_item c) outer h = h

  pub clean_is : IsClean [] ds
  clean_is kind.PackageDiffers p (first, own, at, other, names, place) = absurd cc
  clean_is kind.PreludeName p (i, c, at, name, place) = false_true (reserved c.key.name) (reserved_has c.key.name name) (and_parts (not (reserved c.key.name)) (words_pass top_word c.modifiers) (items_clean i p.file (class_item c) at)).0
  clean_is kind.TwiceClass p (j, c, at, place, inl (i, file, d, less, other, same)) = differ i j file p.file (class_item d) (class_item c) less other at ((class_decides d.key c.key).1 same)
  clean_is kind.TwiceClass p (j, c, at, place, inr own) = absurd (let e = sym (top_key_at j p.file c at) ∙ own in cc)
  clean_is kind.NoSuperclass p (i, c, outer, name, at, is, never) = never (parent_in _) (is_parent ds c.key (passes i p.file (class_item c) at))
  clean_is kind.Cycle p (i, c, steps, at, climbs, place) = no_cycle ds top (and_parts (all_pairs ds items_differ) (all_rise ds) (and_parts (all_items ds item_clean) _ clean).1).1 steps c.key climbs
  clean_is kind.NoTy p (i, x, k, outer, name, at, writes, never) = never (meaning (named p.at outer name)) (written_means x (passes i p.file x at) k (named p.at outer name) writes)
  clean_is kind.TwiceMember p (j, m, at, inl (i, file, l, less, other, same, place)) = differ i j file p.file l m less other at (same_is l m (passes i file l other) (passes j p.file m at) same)
  clean_is kind.TwiceMember p (j, m, at, inr twice) = no_twice_at m p.at (items_clean j p.file m at) twice
  clean_is kind.MemberTypeName p (i, j, file, c, m, at, other, its, place) = no_such c.key m (top_key_at i p.file c at) its
  clean_is kind.BadModifiers p (i, x, at, bad, place) = words_clean i p.file x at (items_clean i p.file x at) bad
  clean_is kind.StaticInit p (i, x, at, bad) = static_clean x p.at (items_clean i p.file x at) bad
