-- Trees without marks: what each has, and that marks say nothing of an initializer's form.
use Rattle.std.proofs.Common.{◌≡◌, ℕ, List, [], ◌∷◌, Option, Some, None, Bool, refl, sym, ap}
use Rattle.std.specs.Prelude.{◌&&◌, option_map}
use Rattle.jr_ast.specs.Tree as tree
use Rattle.jr_ast.specs.MemberTree as syntax
use Rattle.jr_ast.specs.Remarked.{map_word, map_type, map_exp, map_exps}
use Rattle.jr_table.specs.DeclaredItems.{is_minus, is_number, is_object, has_none, is_simple}
use Rattle.jr_rename_laws.specs.ImageLaws.{no_mark}

pub cons_head : {T : Type 0} (x y : T) (xs ys : List T) → x ∷ xs ≡ y ∷ ys → x ≡ y
cons_head x y xs ys e = let p : x ≡ y = cc in p

pub cons_rest : {T : Type 0} (x y : T) (xs ys : List T) → x ∷ xs ≡ y ∷ ys → xs ≡ ys
cons_rest x y xs ys e = let p : xs ≡ ys = cc in p

-- ---- what a tree without marks has

abbrev pub Bare : Type 0
Bare = Unit {0}

abbrev pub mods_in : syntax.Member Bare → List (syntax.Modifier Bare)
mods_in (syntax.field m mods t w init) = mods
mods_in (syntax.method m mods t w ps body) = mods
mods_in (syntax.constructor m mods w ps args body) = mods
mods_in (syntax.inner m c) = []

abbrev pub name_in : syntax.Member Bare → List ℕ
name_in (syntax.field m mods t w init) = w.text
name_in (syntax.method m mods t w ps body) = w.text
name_in (syntax.constructor m mods w ps args body) = w.text
name_in (syntax.inner m c) = []

abbrev pub params_in : {A : Type 0} → syntax.Member A → List (syntax.Param A)
params_in (syntax.field m mods t w init) = []
params_in (syntax.method m mods t w ps body) = ps
params_in (syntax.constructor m mods w ps args body) = ps
params_in (syntax.inner m c) = []

abbrev pub type_in : syntax.Member Bare → Option (tree.TypeName Bare)
type_in (syntax.field m mods t w init) = Some t
type_in (syntax.method m mods t w ps body) = t
type_in (syntax.constructor m mods w ps args body) = None
type_in (syntax.inner m c) = None

abbrev pub init_in : syntax.Member Bare → Option (tree.Exp Bare)
init_in (syntax.field m mods t w init) = init
init_in (syntax.method m mods t w ps body) = None
init_in (syntax.constructor m mods w ps args body) = None
init_in (syntax.inner m c) = None

abbrev pub class_mods : syntax.Class Bare → List (syntax.Modifier Bare)
class_mods (syntax.class m mods w t ms) = mods

abbrev pub class_name : syntax.Class Bare → List ℕ
class_name (syntax.class m mods w t ms) = w.text

abbrev pub class_parent : syntax.Class Bare → Option (tree.TypeName Bare)
class_parent (syntax.class m mods w t ms) = t

abbrev pub class_members : {A : Type 0} → syntax.Class A → syntax.Members A
class_members (syntax.class m mods w t ms) = ms

abbrev pub front_in : tree.TypeName Bare → Option (List ℕ)
front_in (tree.int m) = None
front_in (tree.boolean m) = None
front_in (tree.named m o w) = option_map (λ (v : tree.Word Bare). v.text) o

abbrev pub word_in : tree.TypeName Bare → List ℕ
word_in (tree.int m) = []
word_in (tree.boolean m) = []
word_in (tree.named m o w) = w.text

pub same_front : {A B : Type 0} (o : Option (tree.Word A)) (p : Option (tree.Word B))
    → option_map (λ (v : tree.Word Bare). v.text) (option_map (map_word no_mark) p) ≡ option_map (λ (v : tree.Word Bare). v.text) (option_map (map_word no_mark) o)
    → option_map (λ (v : tree.Word A). v.text) o ≡ option_map (λ (v : tree.Word B). v.text) p
same_front None None e = refl
same_front None (Some w) e = absurd cc
same_front (Some v) None e = absurd cc
same_front (Some v) (Some w) e = sym e

-- ---- marks say nothing of it

abbrev pub nowhere : Unit {0} → ℕ → ℕ
nowhere m b = 0

module _ {A : Type 0} (begins : A → ℕ → ℕ) where
  number_bare : (e : tree.Exp A) → is_number nowhere (map_exp no_mark e) ≡ is_number begins e
  unfolding map_exp
  number_bare (tree.number m n) = refl
  number_bare (tree.truth m b) = refl
  number_bare (tree.null m) = refl
  number_bare (tree.string m s) = refl
  number_bare (tree.name m w) = refl
  number_bare (tree.field m e w) = refl
  number_bare (tree.super_field m w) = refl
  number_bare (tree.this m) = refl
  number_bare (tree.class_literal m t) = refl
  number_bare (tree.call m to w args) = refl
  number_bare (tree.super_call m w args) = refl
  number_bare (tree.create m t args) = refl
  number_bare (tree.paren m e) = refl
  number_bare (tree.cast m t e) = refl
  number_bare (tree.unary m op e) = refl
  number_bare (tree.bump m op e) = refl
  number_bare (tree.binary m op x y) = refl
  number_bare (tree.assign m x y) = refl
  number_bare (tree.compound m op x y) = refl

  pub object_bare : (t : tree.TypeName A) → is_object nowhere (map_type no_mark t) ≡ is_object begins t
  object_bare (tree.int m) = refl
  object_bare (tree.boolean m) = refl
  object_bare (tree.named m None w) = refl
  object_bare (tree.named m (Some v) w) = refl

  none_bare : (es : tree.Exps A) → has_none nowhere (map_exps no_mark es) ≡ has_none begins es
  unfolding map_exps
  none_bare tree.end = refl
  none_bare (tree.more e es) = refl

  pub simple_bare : (e : tree.Exp A) → is_simple nowhere (map_exp no_mark e) ≡ is_simple begins e
  unfolding map_exp map_exps
  simple_bare (tree.number m n) = refl
  simple_bare (tree.truth m b) = refl
  simple_bare (tree.null m) = refl
  simple_bare (tree.string m s) = refl
  simple_bare (tree.name m w) = refl
  simple_bare (tree.field m e w) = refl
  simple_bare (tree.super_field m w) = refl
  simple_bare (tree.this m) = refl
  simple_bare (tree.class_literal m t) = refl
  simple_bare (tree.call m to w args) = refl
  simple_bare (tree.super_call m w args) = refl
  simple_bare (tree.create m t args) = λ i. object_bare t i && none_bare args i
  simple_bare (tree.paren m e) = refl
  simple_bare (tree.cast m t e) = refl
  simple_bare (tree.unary m op e) = ap (λ (b : Bool). is_minus begins op && b) (number_bare e)
  simple_bare (tree.bump m op e) = refl
  simple_bare (tree.binary m op x y) = refl
  simple_bare (tree.assign m x y) = refl
  simple_bare (tree.compound m op x y) = refl
