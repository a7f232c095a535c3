-- An initializer that a static field may have stays one.
use Rattle.std.proofs.Common.{◌≡◌, ℕ, List, Option, Some, None, Bool, true, false, refl, sym, ap, subst, ◌∙◌}
use Rattle.std.specs.Prelude.{◌&&◌, option_map, codes}
use Rattle.std.specs.Cmp.Lexicographic.{bytes_decides}
use Rattle.std.proofs.lemmas.Option.{same_Some}
use Rattle.jr_text.specs.declared.spans.Span.{Span}
use Rattle.jr_ast.specs.Tree as tree
use Rattle.jr_ast.specs.Remarked.{map_exp}
use Rattle.jr_table.specs.Keys.{ClassKey, class}
use Rattle.jr_table.specs.Decls.{class_decl}
use Rattle.jr_table.specs.Rows.{Row}
use Rattle.jr_table.specs.Prelude.{object_key}
use Rattle.jr_table.specs.SameKeys.{same_name}
use Rattle.jr_table.specs.Found.{one}
use Rattle.jr_table.specs.Scope.{Scope}
use Rattle.jr_table.specs.Lookup.{FindsTypeNamed, FindsTypeOf}
use Rattle.jr_table.specs.Context.{Context, scope_of, WritesType}
use Rattle.jr_table.specs.Binding.{Role, value}
use Rattle.jr_table.specs.DeclaredItems.{DeclaredInit, init_declaration, is_minus, is_number, is_object, has_none, is_simple}
use Rattle.jr_rewrite.specs.Rewritten.{Rewritten}
use Rattle.jr_rewrite.specs.Rewrites.{Choosing, RewritesExp, RewritesMaybe, TransformsExp}
use Rattle.jr_rewrite.specs.Along.{Along, AlongRow, AlongMaybe}
use Rattle.jr_images.specs.Images.{Renaming, class_to, rows_to}
use Rattle.jr_rename_laws.specs.ImageLaws.{no_mark}
use Rattle.jr_images.specs.Keeping.{IsKept, IsWritten}
use Rattle.jr_images.specs.Spelling.{spelling}
use Rattle.jr_rename_laws.proofs.BareTrees.{nowhere, simple_bare}
use Rattle.jr_rename_laws.proofs.Renamed.{Keeps, object_stays}

both : (a b : Bool) → a && b ≡ true → (a ≡ true) × (b ≡ true)
both true b e = (refl, e)
both false b e = absurd cc

module _ (rows : List Row) (g : Renaming) (keeps : Keeps rows g) {A B : Type 0} (tells : A → ℕ → Span) (begins' : B → ℕ → ℕ) (super_at : Context → ℕ) where
  abbrev begins : A → ℕ → ℕ
  begins m b = (tells m b).from

  abbrev Chosen : Choosing A
  Chosen = spelling begins rows g super_at

  abbrev ExpAlong : Context → Context → Role → (b n : ℕ) → tree.Exp A → tree.Exp A → Type 0
  ExpAlong = Along begins begins (IsKept begins begins g rows) (IsWritten begins begins g rows)

  number_goes : (c d : Context) (r : Role) (at n : ℕ) (e y : tree.Exp A) → ExpAlong c d r at n e y → is_number begins e ≡ true → is_number begins y ≡ true
  unfolding Along
  number_goes c d r at n (tree.number m v) y (k, is) h = ap (is_number begins) is
  number_goes c d r at n (tree.truth m b) y along h = absurd cc
  number_goes c d r at n (tree.null m) y along h = absurd cc
  number_goes c d r at n (tree.string m s) y along h = absurd cc
  number_goes c d r at n (tree.name m w) y along h = absurd cc
  number_goes c d r at n (tree.field m e w) y along h = absurd cc
  number_goes c d r at n (tree.super_field m w) y along h = absurd cc
  number_goes c d r at n (tree.this m) y along h = absurd cc
  number_goes c d r at n (tree.class_literal m t) y along h = absurd cc
  number_goes c d r at n (tree.call m to w args) y along h = absurd cc
  number_goes c d r at n (tree.super_call m w args) y along h = absurd cc
  number_goes c d r at n (tree.create m t args) y along h = absurd cc
  number_goes c d r at n (tree.paren m e) y along h = absurd cc
  number_goes c d r at n (tree.cast m t e) y along h = absurd cc
  number_goes c d r at n (tree.unary m op e) y along h = absurd cc
  number_goes c d r at n (tree.bump m op e) y along h = absurd cc
  number_goes c d r at n (tree.binary m op e f) y along h = absurd cc
  number_goes c d r at n (tree.assign m e f) y along h = absurd cc
  number_goes c d r at n (tree.compound m op e f) y along h = absurd cc

  -- a type that means Object is its name
  class_of_type : (j k : ClassKey) → class j ≡ class k → j ≡ k
  class_of_type j k e = cc

  object_new : (s : Scope) (u : tree.TypeName A) → WritesType (rows_to g rows) s u (class object_key) → is_object begins u ≡ true
  object_new s (tree.int m) h = absurd cc
  object_new s (tree.boolean m) h = absurd cc
  object_new s (tree.named m None w) (k, finds, is) =
      let same = class_of_type object_key k is in
      (bytes_decides w.text (codes "Object")).1 (keeps.object_named s w.text (subst (λ (x : ClassKey). FindsTypeNamed (rows_to g rows) s w.text (one (class_decl x))) (sym same) finds))
  object_new s (tree.named m (Some v) w) (k, (o, front, back), is) =
      let same = class_of_type object_key k is in
      absurd (keeps.object_of s o w.text (subst (λ (x : ClassKey). FindsTypeOf (rows_to g rows) s o w.text (one (class_decl x))) (sym same) back))

  none_goes : (c d : Context) (at n : ℕ) (args es : tree.Exps A) → AlongRow begins begins (IsKept begins begins g rows) (IsWritten begins begins g rows) c d at n args es → has_none begins args ≡ true → has_none begins es ≡ true
  unfolding AlongRow
  none_goes c d at n tree.end es along h = ap (has_none begins) along
  none_goes c d at n (tree.more e args) es along h = absurd cc

  simple_goes : (c d : Context) (r : Role) (at n : ℕ) (e y : tree.Exp A) (o : Rewritten (tree.Exp A)) → RewritesExp tells Chosen c r at e o → ExpAlong c d r at n e y → is_simple begins e ≡ true → is_simple begins y ≡ true
  unfolding Along TransformsExp
  simple_goes c d r at n (tree.number m v) y o made (k, is) h = ap (is_simple begins) is
  simple_goes c d r at n (tree.truth m b) y o made (k, is) h = ap (is_simple begins) is
  simple_goes c d r at n (tree.null m) y o made (k, is) h = ap (is_simple begins) is
  simple_goes c d r at n (tree.string m s) y o made (k, is) h = ap (is_simple begins) is
  simple_goes c d r at n (tree.name m w) y o made along h = absurd cc
  simple_goes c d r at n (tree.field m e w) y o made along h = absurd cc
  simple_goes c d r at n (tree.super_field m w) y o made along h = absurd cc
  simple_goes c d r at n (tree.this m) y o made along h = absurd cc
  simple_goes c d r at n (tree.class_literal m t) y o made along h = absurd cc
  simple_goes c d r at n (tree.call m to w args) y o made along h = absurd cc
  simple_goes c d r at n (tree.super_call m w args) y o made along h = absurd cc
  simple_goes c d r at n (tree.create m (tree.int l) args) y o made along h = absurd cc
  simple_goes c d r at n (tree.create m (tree.boolean l) args) y o made along h = absurd cc
  simple_goes c d r at n (tree.create m (tree.named l (Some v) w) args) y o made along h = absurd cc
  simple_goes c d r at n (tree.create m (tree.named l None w) args) y o (a, p, q, creates, (b, (j, finds, spells), named), row, made) (k, u, es, is, goes, more, found) h =
      let two = both (same_name w.text (codes "Object")) (has_none begins args) h in
      let text = (bytes_decides w.text (codes "Object")).0 two.0 in
      let same = keeps.object_old (scope_of c) j (subst (λ (x : List ℕ). FindsTypeNamed rows (scope_of c) x (one (class_decl j))) text finds) in
      let new = goes.means (class j) (j, finds, refl) in
      let object = object_new (scope_of d) u (subst (λ (x : ClassKey). WritesType (rows_to g rows) (scope_of d) u (class x)) (ap (class_to g) same ∙ object_stays rows g keeps) new) in
      let none = none_goes c d (begins m at) (begins k n) args es more two.1 in
      ap (is_simple begins) is ∙ (λ i. object i && none i)
  simple_goes c d r at n (tree.paren m e) y o made along h = absurd cc
  simple_goes c d r at n (tree.cast m t e) y o made along h = absurd cc
  simple_goes c d r at n (tree.unary m op e) y o made (k, x, is, along) h =
      let two = both (is_minus begins op) (is_number begins e) h in
      let inner = number_goes c d value (begins m at) (begins k n) e x along two.1 in
      ap (is_simple begins) is ∙ (λ i. two.0 i && inner i)
  simple_goes c d r at n (tree.bump m op e) y o made along h = absurd cc
  simple_goes c d r at n (tree.binary m op e f) y o made along h = absurd cc
  simple_goes c d r at n (tree.assign m e f) y o made along h = absurd cc
  simple_goes c d r at n (tree.compound m op e f) y o made along h = absurd cc

  declaration_simple : (x y : DeclaredInit) → Some x ≡ Some y → x.is_simple ≡ y.is_simple
  declaration_simple x y e = ap (λ (z : DeclaredInit). z.is_simple) (same_Some x y e)

  pub init_goes : (c d : Context) (at n j : ℕ) (init z : Option (tree.Exp A)) (q : Rewritten (Option (tree.Exp A))) → RewritesMaybe tells Chosen c at init q
      → AlongMaybe begins begins (IsKept begins begins g rows) (IsWritten begins begins g rows) c d at n init z → (last : Option (tree.Exp B)) → option_map (map_exp no_mark) last ≡ option_map (map_exp no_mark) z
      → (x y : DeclaredInit) → option_map (init_declaration begins at) init ≡ Some x → option_map (init_declaration begins' j) last ≡ Some y → x.is_simple ≡ true → y.is_simple ≡ true
  init_goes c d at n j None z q made along last e x y f h simple = absurd cc
  init_goes c d at n j (Some v) z q made along None e x y f h simple = absurd cc
  init_goes c d at n j (Some v) z q (p, inner, is) (w, same, along) (Some l) e x y f h simple =
      let bare : map_exp no_mark l ≡ map_exp no_mark w = same_Some _ _ (e ∙ ap (option_map (map_exp no_mark)) same) in
      let old : is_simple begins v ≡ true = declaration_simple (init_declaration begins at v) x f ∙ simple in
      let new : is_simple begins w ≡ true = simple_goes c d value at n v w p inner along old in
      sym (declaration_simple (init_declaration begins' j l) y h) ∙ sym (simple_bare begins' l) ∙ ap (is_simple nowhere) bare ∙ simple_bare begins w ∙ new
