-- Whether an initializer has a form that a static field's may have stays as it is.
use Rattle.std.proofs.Common.{◌≡◌, ℕ, List, [], ◌++◌, Option, Some, None, Bool, false, refl, sym, ap, ◌∙◌}
use Rattle.std.specs.Prelude.{◌&&◌, option_map}
use Rattle.jr_text.specs.declared.spans.Span.{Span}
use Rattle.jr_ast.specs.Tree as tree
use Rattle.jr_ast.specs.Remarked.{map_type}
use Rattle.jr_table.specs.Rows.{Row}
use Rattle.jr_table.specs.Context.{Context}
use Rattle.jr_table.specs.Binding.{Role, value}
use Rattle.jr_table.specs.DeclaredItems.{is_minus, is_number, is_object, has_none, is_simple}
use Rattle.jr_rewrite.specs.Respellings.{Front, same, alone, by_this, by_super, by_cast_this, by_class, by_outer_class, by_cast, front_of}
use Rattle.jr_rewrite.specs.Rewritten.{Rewritten, word_to, variable_on, variable_to, super_to, operand_to, losses_of}
use Rattle.jr_rewrite.specs.Rewrites.{Choosing, RewritesExp, RewritesRow, RewritesMaybe, TransformsExp, TransformsRow}
use Rattle.jr_images.specs.Images.{Renaming}
use Rattle.jr_rename_laws.specs.ImageLaws.{no_mark}
use Rattle.jr_images.specs.Spelling.{spelling}
use Rattle.jr_rename_laws.proofs.BareTrees.{nowhere, object_bare}
use Rattle.jr_images.proofs.Chosen.{left_none, right_none}
use Rattle.jr_rename_laws.proofs.TypesStay.{TypesKeep, type_stays}

-- ---- a reference has none of these forms, whatever it becomes

module _ {A : Type 0} (begins : A → ℕ → ℕ) (m : A) (w : tree.Word A) where
  on_simple : (x : Option (tree.Exp A)) → is_simple begins (variable_on m x w) ≡ false
  on_simple None = refl
  on_simple (Some e) = refl

  on_number : (x : Option (tree.Exp A)) → is_number begins (variable_on m x w) ≡ false
  on_number None = refl
  on_number (Some e) = refl

  variable_simple : (f : Front) → is_simple begins (variable_to m f None w) ≡ false
  variable_simple same = refl
  variable_simple alone = refl
  variable_simple by_this = refl
  variable_simple by_super = refl
  variable_simple (by_cast_this k) = refl
  variable_simple (by_class k) = refl
  variable_simple (by_outer_class o k) = refl
  variable_simple (by_cast k) = refl

  super_simple : (f : Front) → is_simple begins (super_to m f w) ≡ false
  super_simple same = refl
  super_simple alone = refl
  super_simple by_this = refl
  super_simple by_super = refl
  super_simple (by_cast_this k) = refl
  super_simple (by_class k) = refl
  super_simple (by_outer_class o k) = refl
  super_simple (by_cast k) = refl

  variable_number : (f : Front) → is_number begins (variable_to m f None w) ≡ false
  variable_number same = refl
  variable_number alone = refl
  variable_number by_this = refl
  variable_number by_super = refl
  variable_number (by_cast_this k) = refl
  variable_number (by_class k) = refl
  variable_number (by_outer_class o k) = refl
  variable_number (by_cast k) = refl

  super_number : (f : Front) → is_number begins (super_to m f w) ≡ false
  super_number same = refl
  super_number alone = refl
  super_number by_this = refl
  super_number by_super = refl
  super_number (by_cast_this k) = refl
  super_number (by_class k) = refl
  super_number (by_outer_class o k) = refl
  super_number (by_cast k) = refl

module _ (rows : List Row) (g : Renaming) (keep : TypesKeep rows g) {A : Type 0} (tells : A → ℕ → Span) (super_at : Context → ℕ) where
  abbrev begins : A → ℕ → ℕ
  begins m b = (tells m b).from

  abbrev Chosen : Choosing A
  Chosen = spelling begins rows g super_at

  number_stays : (c : Context) (r : Role) (at : ℕ) (e : tree.Exp A) (o : Rewritten (tree.Exp A)) → RewritesExp tells Chosen c r at e o → is_number begins o.tree ≡ is_number begins e
  unfolding TransformsExp
  number_stays c r at (tree.number m n) o is = ap (λ (x : Rewritten (tree.Exp A)). is_number begins x.tree) is
  number_stays c r at (tree.truth m b) o is = ap (λ (x : Rewritten (tree.Exp A)). is_number begins x.tree) is
  number_stays c r at (tree.null m) o is = ap (λ (x : Rewritten (tree.Exp A)). is_number begins x.tree) is
  number_stays c r at (tree.string m s) o is = ap (λ (x : Rewritten (tree.Exp A)). is_number begins x.tree) is
  number_stays c r at (tree.name m w) o (h, spells, is) = ap (λ (x : Rewritten (tree.Exp A)). is_number begins x.tree) is ∙ variable_number begins m (word_to h w) (front_of h)
  number_stays c r at (tree.field m e w) o (h, p, spells, inner, is) = ap (λ (x : Rewritten (tree.Exp A)). is_number begins x.tree) is ∙ on_number begins m (word_to h w) (operand_to m (front_of h) (Some p.tree))
  number_stays c r at (tree.super_field m w) o (h, spells, is) = ap (λ (x : Rewritten (tree.Exp A)). is_number begins x.tree) is ∙ super_number begins m (word_to h w) (front_of h)
  number_stays c r at (tree.this m) o is = ap (λ (x : Rewritten (tree.Exp A)). is_number begins x.tree) is
  number_stays c r at (tree.class_literal m t) o (p, inner, is) = ap (λ (x : Rewritten (tree.Exp A)). is_number begins x.tree) is
  number_stays c r at (tree.call m to w args) o (h, p, q, spells, target, row, is) = ap (λ (x : Rewritten (tree.Exp A)). is_number begins x.tree) is
  number_stays c r at (tree.super_call m w args) o (h, q, spells, row, is) = ap (λ (x : Rewritten (tree.Exp A)). is_number begins x.tree) is
  number_stays c r at (tree.create m t args) o (h, p, q, spells, type, row, is) = ap (λ (x : Rewritten (tree.Exp A)). is_number begins x.tree) is
  number_stays c r at (tree.paren m e) o (p, inner, is) = ap (λ (x : Rewritten (tree.Exp A)). is_number begins x.tree) is
  number_stays c r at (tree.cast m t e) o (p, q, type, inner, is) = ap (λ (x : Rewritten (tree.Exp A)). is_number begins x.tree) is
  number_stays c r at (tree.unary m op e) o (p, inner, is) = ap (λ (x : Rewritten (tree.Exp A)). is_number begins x.tree) is
  number_stays c r at (tree.bump m op e) o (p, inner, is) = ap (λ (x : Rewritten (tree.Exp A)). is_number begins x.tree) is
  number_stays c r at (tree.binary m op x y) o (p, q, left, right, is) = ap (λ (x : Rewritten (tree.Exp A)). is_number begins x.tree) is
  number_stays c r at (tree.assign m x y) o (p, q, left, right, is) = ap (λ (x : Rewritten (tree.Exp A)). is_number begins x.tree) is
  number_stays c r at (tree.compound m op x y) o (p, q, left, right, is) = ap (λ (x : Rewritten (tree.Exp A)). is_number begins x.tree) is

  none_stays : (c : Context) (at : ℕ) (es : tree.Exps A) (o : Rewritten (tree.Exps A)) → RewritesRow tells Chosen c at es o → has_none begins o.tree ≡ has_none begins es
  unfolding TransformsRow
  none_stays c at tree.end o is = ap (λ (x : Rewritten (tree.Exps A)). has_none begins x.tree) is
  none_stays c at (tree.more e es) o (p, q, inner, row, is) = ap (λ (x : Rewritten (tree.Exps A)). has_none begins x.tree) is

  object_stays : (t u : tree.TypeName A) → map_type no_mark u ≡ map_type no_mark t → is_object begins u ≡ is_object begins t
  object_stays t u e = sym (object_bare begins u) ∙ ap (is_object nowhere) e ∙ object_bare begins t

  pub simple_stays : (c : Context) (r : Role) (at : ℕ) (e : tree.Exp A) (o : Rewritten (tree.Exp A)) → RewritesExp tells Chosen c r at e o → o.losses ≡ [] → is_simple begins o.tree ≡ is_simple begins e
  unfolding TransformsExp
  simple_stays c r at (tree.number m n) o is none = ap (λ (x : Rewritten (tree.Exp A)). is_simple begins x.tree) is
  simple_stays c r at (tree.truth m b) o is none = ap (λ (x : Rewritten (tree.Exp A)). is_simple begins x.tree) is
  simple_stays c r at (tree.null m) o is none = ap (λ (x : Rewritten (tree.Exp A)). is_simple begins x.tree) is
  simple_stays c r at (tree.string m s) o is none = ap (λ (x : Rewritten (tree.Exp A)). is_simple begins x.tree) is
  simple_stays c r at (tree.name m w) o (h, spells, is) none = ap (λ (x : Rewritten (tree.Exp A)). is_simple begins x.tree) is ∙ variable_simple begins m (word_to h w) (front_of h)
  simple_stays c r at (tree.field m e w) o (h, p, spells, inner, is) none = ap (λ (x : Rewritten (tree.Exp A)). is_simple begins x.tree) is ∙ on_simple begins m (word_to h w) (operand_to m (front_of h) (Some p.tree))
  simple_stays c r at (tree.super_field m w) o (h, spells, is) none = ap (λ (x : Rewritten (tree.Exp A)). is_simple begins x.tree) is ∙ super_simple begins m (word_to h w) (front_of h)
  simple_stays c r at (tree.this m) o is none = ap (λ (x : Rewritten (tree.Exp A)). is_simple begins x.tree) is
  simple_stays c r at (tree.class_literal m t) o (p, inner, is) none = ap (λ (x : Rewritten (tree.Exp A)). is_simple begins x.tree) is
  simple_stays c r at (tree.call m to w args) o (h, p, q, spells, target, row, is) none = ap (λ (x : Rewritten (tree.Exp A)). is_simple begins x.tree) is
  simple_stays c r at (tree.super_call m w args) o (h, q, spells, row, is) none = ap (λ (x : Rewritten (tree.Exp A)). is_simple begins x.tree) is
  simple_stays c r at (tree.create m t args) o (h, p, q, spells, type, row, is) none =
      let all : losses_of h ++ (p.losses ++ q.losses) ≡ [] = sym (ap (λ (x : Rewritten (tree.Exp A)). x.losses) is) ∙ none in
      let parts = right_none (losses_of h) (p.losses ++ q.losses) all in
      let typed = object_stays t p.tree (type_stays rows g keep tells super_at c (begins m at) t p type (left_none p.losses q.losses parts)) in
      let rest = none_stays c (begins m at) args q row in
      ap (λ (x : Rewritten (tree.Exp A)). is_simple begins x.tree) is ∙ (λ i. typed i && rest i)
  simple_stays c r at (tree.paren m e) o (p, inner, is) none = ap (λ (x : Rewritten (tree.Exp A)). is_simple begins x.tree) is
  simple_stays c r at (tree.cast m t e) o (p, q, type, inner, is) none = ap (λ (x : Rewritten (tree.Exp A)). is_simple begins x.tree) is
  simple_stays c r at (tree.unary m op e) o (p, inner, is) none = ap (λ (x : Rewritten (tree.Exp A)). is_simple begins x.tree) is ∙ ap (λ (b : Bool). is_minus begins op && b) (number_stays c value (begins m at) e p inner)
  simple_stays c r at (tree.bump m op e) o (p, inner, is) none = ap (λ (x : Rewritten (tree.Exp A)). is_simple begins x.tree) is
  simple_stays c r at (tree.binary m op x y) o (p, q, left, right, is) none = ap (λ (x : Rewritten (tree.Exp A)). is_simple begins x.tree) is
  simple_stays c r at (tree.assign m x y) o (p, q, left, right, is) none = ap (λ (x : Rewritten (tree.Exp A)). is_simple begins x.tree) is
  simple_stays c r at (tree.compound m op x y) o (p, q, left, right, is) none = ap (λ (x : Rewritten (tree.Exp A)). is_simple begins x.tree) is

  -- an initializer, if there is one
  pub forms_stay : (c : Context) (at : ℕ) (e : Option (tree.Exp A)) (o : Rewritten (Option (tree.Exp A))) → RewritesMaybe tells Chosen c at e o → o.losses ≡ []
      → option_map (is_simple begins) o.tree ≡ option_map (is_simple begins) e
  forms_stay c at None o is none = ap (λ (x : Rewritten (Option (tree.Exp A))). option_map (is_simple begins) x.tree) is
  forms_stay c at (Some e) o (p, inner, is) none =
      ap (λ (x : Rewritten (Option (tree.Exp A))). option_map (is_simple begins) x.tree) is
      ∙ ap (λ (b : Bool). Some b) (simple_stays c value at e p inner (sym (ap (λ (x : Rewritten (Option (tree.Exp A))). x.losses) is) ∙ none))
