-- The words of a class in front of a dot stand one way in the new program, whatever list the
-- renaming goes by.
use Rattle.std.proofs.Common.{◌≡◌, ℕ, List, Option, Some, None, sym, ap, subst, ◌∙◌}
use Rattle.std.specs.Prelude.{slice_get}
use Rattle.std.proofs.lemmas.Option.{same_Some}
use Rattle.jr_text.specs.declared.spans.Span.{Span}
use Rattle.jr_ast.specs.Tree as tree
use Rattle.jr_table.specs.Keys.{ClassKey, class}
use Rattle.jr_table.specs.Decls.{LocalKey, class_decl, field_decl, method_decl, constructor_decl, local_decl}
use Rattle.jr_table.specs.Rows.{Row}
use Rattle.jr_table.specs.Entries.{IsRowOf}
use Rattle.jr_table.specs.Conditions.{AreRows}
use Rattle.jr_table.specs.Found.{Found, one, nothing, many, not_accessible, from_static}
use Rattle.jr_table.specs.Scope.{Scope}
use Rattle.jr_table.specs.Lookup.{FindsTypeOf, FindsFieldIn, FindsLeft, FindsLeftOf}
use Rattle.jr_table.specs.LookupLaws.{HasOne, EachHasOne}
use Rattle.jr_table.specs.BindingLaws.{IsBound}
use Rattle.jr_table.specs.Context.{Context, Local, LocalType, known, written, IsLocalType, NamesClass, scope_of}
use Rattle.jr_table.specs.Binding.{IsClassName}
use Rattle.jr_images.specs.Images.{Renaming, class_to, rows_to, scope_to}
use Rattle.jr_images.specs.Words.{InFront, class_name, value_of, neither, HasImage, IsValueOf, StandsSo, FindsNext, FirstStands, NextStands, WordsStand}
use Rattle.jr_new_words.proofs.ValuesInFront.{has_one}
use Rattle.jr_rename_laws.specs.OnePlan.{AreAlike}
use Rattle.jr_rename_laws.proofs.Alike.{Makes, makes_same, class_same, local_same, rows_same}

class_key : (j k : ClassKey) → one (class_decl j) ≡ one (class_decl k) → j ≡ k
class_key j k e = cc

value_key : (j k : ClassKey) → class j ≡ class k → j ≡ k
value_key j k e = cc

-- ---- one renaming

module _ (rows : List Row) (each : EachHasOne rows) (s : Scope) where
  named_once : (outer : Option (List ℕ)) (name : List ℕ) → HasOne (NamesClass rows s outer name)
  named_once None name j k x y = class_key j k (each.type_named s name (one (class_decl j)) (one (class_decl k)) x y)
  named_once (Some outer) name j k (o, front, x) (p, other, y) =
      let same : o ≡ p = class_key o p (each.type_named s outer (one (class_decl o)) (one (class_decl p)) front other) in
      class_key j k (each.type_of s o name (one (class_decl j)) (one (class_decl k)) x (subst (λ (z : ClassKey). FindsTypeOf rows s z name (one (class_decl k))) (sym same) y))

  -- the class of a local
  held_once : (l : LocalType) (t u : ClassKey) → IsLocalType rows s l (class t) → IsLocalType rows s l (class u) → t ≡ u
  held_once (known ty) t u x y = value_key t u (x ∙ sym y)
  held_once (written outer name) t u (j, x, e) (k, y, f) = value_key t u (e ∙ ap class (named_once outer name j k x y) ∙ sym f)

module _ (rows : List Row) (each : EachHasOne rows) (g : Renaming) (c : Context) (new_fit : AreRows (rows_to g rows)) (new_each : EachHasOne (rows_to g rows)) where
  value_once : (f : Found) → HasOne (IsValueOf rows g c f)
  value_once (one (local_decl k)) a b (l, t, j, image, type, row, is) (m, u, i, other, held, row', was) =
      let same : l ≡ m = has_one rows g c k l m image other in
      let type' = subst (λ (x : Local). IsLocalType rows (scope_of c) x.type (class u)) (sym same) held in
      is ∙ ap (class_to g) (held_once rows each (scope_of c) l.type t u type type') ∙ sym was
  value_once (one (field_decl q)) a b (j, i, type) (k, h, other) =
      let number : j ≡ k = new_fit.one_each (field_decl q) j k i h in
      let stands : Some i.row ≡ Some h.row = sym i.stands ∙ ap (slice_get (rows_to g rows)) number ∙ h.stands in
      let row : i.row ≡ h.row = same_Some i.row h.row stands in
      value_key a b (same_Some (class a) (class b) (sym type ∙ ap (λ (r : Row). r.type) row ∙ other))
  value_once (one (class_decl q)) a b x y = absurd x
  value_once (one (method_decl q)) a b x y = absurd x
  value_once (one (constructor_decl q)) a b x y = absurd x
  value_once nothing a b x y = absurd x
  value_once (many d e) a b x y = absurd x
  value_once (not_accessible d) a b x y = absurd x
  value_once (from_static d) a b x y = absurd x

  no_value : (f : Found) (a b : ClassKey) → f ≡ one (class_decl a) → IsValueOf rows g c f b → ⊥
  no_value f a b e v = subst (λ (x : Found). IsValueOf rows g c x b) e v

  stands_once : (f : Found) → HasOne (StandsSo rows g c f)
  stands_once f (class_name a) (class_name b) x y = ap class_name (class_key a b (sym x ∙ y))
  stands_once f (class_name a) (value_of b) x y = absurd (no_value f a b x y)
  stands_once f (class_name a) neither x y = absurd (y.0 a x)
  stands_once f (value_of a) (class_name b) x y = absurd (no_value f b a y x)
  stands_once f (value_of a) (value_of b) x y = ap value_of (value_once f a b x y)
  stands_once f (value_of a) neither x y = absurd (y.1 a x)
  stands_once f neither (class_name b) x y = absurd (x.0 b y)
  stands_once f neither (value_of b) x y = absurd (x.1 b y)
  stands_once f neither neither x y = λ i. neither

  -- what is found stands one way
  found_once : (Finds : Found → Type 0) → HasOne Finds → HasOne (λ (w : InFront). (f : Found) × Finds f × StandsSo rows g c f w)
  found_once Finds single v w (f, x, stands) (k, y, other) = stands_once f v w stands (subst (λ (z : Found). StandsSo rows g c z w) (sym (single f k x y)) other)

  first_once : (k : ClassKey) → HasOne (FirstStands rows g c k)
  first_once k = found_once (FindsLeft (rows_to g rows) (scope_to g c) (class_to g k).name) (new_each.left (scope_to g c) (class_to g k).name)

  pub next_finds_once : (v : InFront) (name : List ℕ) → HasOne (FindsNext rows g c v name)
  next_finds_once (class_name k) name a b x y = new_each.left_of (scope_to g c) k name a b x y
  next_finds_once (value_of k) name a b x y = new_each.field_in (scope_to g c) k name a b x y
  next_finds_once neither name a b x y = x ∙ sym y

  next_once : (v : InFront) (k : ClassKey) → HasOne (NextStands rows g c v k)
  next_once v k = found_once (FindsNext rows g c v (class_to g k).name) (next_finds_once v (class_to g k).name)

  module _ (bound : IsBound Span rows c) where
    class_once : (e : tree.Exp Span) → HasOne (IsClassName rows c e)
    class_once e j k p q = same_Some j k (sym ((bound.names e j).1 p) ∙ (bound.names e k).1 q)

    words_once : (e : tree.Exp Span) (k : ClassKey) → HasOne (WordsStand rows g c e k)
    words_once (tree.field m e x) k v w (o, named, u, words, stands) (p, other, z, theirs, those) =
        let class_is : o ≡ p = class_once e o p named other in
        let front : u ≡ z = words_once e o u z words (subst (λ (q : ClassKey). WordsStand rows g c e q z) (sym class_is) theirs) in
        next_once u k v w stands (subst (λ (q : InFront). NextStands rows g c q k w) (sym front) those)
    words_once e k v w x y = first_once k v w x y

-- ---- two renamings that are alike

module _ (rows : List Row) (g h : Renaming) (alike : AreAlike g h) (c : Context) where
  image_over : (k : LocalKey) (l : Local) → HasImage rows g c k l → HasImage rows h c k l
  image_over k l x = record {
    number = x.number;
    stands = x.stands;
    is = sym (local_same g h alike l.key) ∙ x.is;
    last = λ i other less at e. x.last i other less at (local_same g h alike other.key ∙ e);
  }

  value_over : (f : Found) (b : ClassKey) → IsValueOf rows g c f b → IsValueOf rows h c f b
  value_over (one (local_decl k)) b (l, t, j, image, type, row, is) = (l, t, j, image_over k l image, type, row, is ∙ class_same g h alike t)
  value_over (one (field_decl q)) b x = subst (λ (rs : List Row). (j : ℕ) × (i : IsRowOf rs (field_decl q) j) × (i.row.type ≡ Some (class b))) (rows_same g h alike rows) x
  value_over (one (class_decl q)) b x = absurd x
  value_over (one (method_decl q)) b x = absurd x
  value_over (one (constructor_decl q)) b x = absurd x
  value_over nothing b x = absurd x
  value_over (many d e) b x = absurd x
  value_over (not_accessible d) b x = absurd x
  value_over (from_static d) b x = absurd x

  stands_over : ((f : Found) (b : ClassKey) → IsValueOf rows h c f b → IsValueOf rows g c f b) → (f : Found) (w : InFront) → StandsSo rows g c f w → StandsSo rows h c f w
  stands_over back f (class_name b) x = x
  stands_over back f (value_of b) x = value_over f b x
  stands_over back f neither x = (x.0, λ b v. x.1 b (back f b v))

  next_finds_over : (v : InFront) (k : ClassKey) (f : Found) → FindsNext rows g c v (class_to g k).name f → FindsNext rows h c v (class_to h k).name f
  next_finds_over (class_name o) k f x = subst (λ (m : Makes). FindsLeftOf (m.rows rows) (m.scopes c) o (m.classes k).name f) (makes_same g h alike) x
  next_finds_over (value_of o) k f x = subst (λ (m : Makes). FindsFieldIn (m.rows rows) (m.scopes c) o (m.classes k).name f) (makes_same g h alike) x
  next_finds_over neither k f x = x

module _ (rows : List Row) (g h : Renaming) (alike : AreAlike g h) (back : AreAlike h g) (c : Context) where
  first_over : (k : ClassKey) (w : InFront) → FirstStands rows g c k w → FirstStands rows h c k w
  first_over k w (f, x, stands) = (
    f,
    subst (λ (m : Makes). FindsLeft (m.rows rows) (m.scopes c) (m.classes k).name f) (makes_same g h alike) x,
    stands_over rows g h alike c (value_over rows h g back c) f w stands,
  )

  next_over : (v : InFront) (k : ClassKey) (w : InFront) → NextStands rows g c v k w → NextStands rows h c v k w
  next_over v k w (f, x, stands) = (f, next_finds_over rows g h alike c v k f x, stands_over rows g h alike c (value_over rows h g back c) f w stands)

  words_over : {A : Type 0} (e : tree.Exp A) (k : ClassKey) (w : InFront) → WordsStand rows g c e k w → WordsStand rows h c e k w
  words_over (tree.field m e x) k w (o, named, u, words, stands) = (o, named, u, words_over e o u words, next_over u k w stands)
  words_over e k w x = first_over k w x

module _ (rows : List Row) (each : EachHasOne rows) (g h : Renaming) (alike : AreAlike g h) (c : Context) (new_fit : AreRows (rows_to g rows)) (new_each : EachHasOne (rows_to g rows)) where
  back : AreAlike h g
  back = record { members = λ d. ((alike.members d).1, (alike.members d).0); name = sym alike.name }

  pub first_one : (k l : ClassKey) → k ≡ l → (v w : InFront) → FirstStands rows g c k v → FirstStands rows h c l w → v ≡ w
  first_one k l e v w x y = first_once rows each g c new_fit new_each k v w x (first_over rows h g back alike c k w (subst (λ (z : ClassKey). FirstStands rows h c z w) (sym e) y))

  pub next_one : (u z : InFront) → u ≡ z → (k l : ClassKey) → k ≡ l → (v w : InFront) → NextStands rows g c u k v → NextStands rows h c z l w → v ≡ w
  next_one u z front k l e v w x y = next_once rows each g c new_fit new_each u k v w x
      (next_over rows h g back alike c u k w (subst (λ (q : ClassKey). NextStands rows h c u q w) (sym e) (subst (λ (q : InFront). NextStands rows h c q l w) (sym front) y)))

  pub words_one : IsBound Span rows c → (e : tree.Exp Span) (k l : ClassKey) → k ≡ l → (v w : InFront) → WordsStand rows g c e k v → WordsStand rows h c e l w → v ≡ w
  words_one bound e k l same v w x y = words_once rows each g c new_fit new_each bound e k v w x (words_over rows h g back alike c e k w (subst (λ (z : ClassKey). WordsStand rows h c e z w) (sym same) y))
