-- Trees without marks: what each has.
use Rattle.std.proofs.Common.{◌≡◌, ℕ, List, [], ◌∷◌, Option, Some, None, refl, sym}
use Rattle.std.specs.Prelude.{option_map}
use Rattle.jr_ast.specs.Tree as tree
use Rattle.jr_ast.specs.MemberTree as syntax
use Rattle.jr_ast.specs.Remarked.{map_word}
use Rattle.jr_rename_laws.specs.ImageLaws.{no_mark}

pub cons_head : {T : Type 0} (x y : T) (xs ys : List T) → x ∷ xs ≡ y ∷ ys → x ≡ y
cons_head x y xs ys e = let p : x ≡ y = cc in p

pub cons_rest : {T : Type 0} (x y : T) (xs ys : List T) → x ∷ xs ≡ y ∷ ys → xs ≡ ys
cons_rest x y xs ys e = let p : xs ≡ ys = cc in p

-- ---- what a tree without marks has

abbrev pub Bare : Type 0
Bare = Unit {0}

abbrev pub mods_in : syntax.Member Bare → List (syntax.Modifier Bare)
mods_in (syntax.field m mods t w init) = mods
mods_in (syntax.method m mods t w ps body) = mods
mods_in (syntax.constructor m mods w ps args body) = mods
mods_in (syntax.inner m c) = []

abbrev pub name_in : syntax.Member Bare → List ℕ
name_in (syntax.field m mods t w init) = w.text
name_in (syntax.method m mods t w ps body) = w.text
name_in (syntax.constructor m mods w ps args body) = w.text
name_in (syntax.inner m c) = []

abbrev pub params_in : {A : Type 0} → syntax.Member A → List (syntax.Param A)
params_in (syntax.field m mods t w init) = []
params_in (syntax.method m mods t w ps body) = ps
params_in (syntax.constructor m mods w ps args body) = ps
params_in (syntax.inner m c) = []

abbrev pub type_in : syntax.Member Bare → Option (tree.TypeName Bare)
type_in (syntax.field m mods t w init) = Some t
type_in (syntax.method m mods t w ps body) = t
type_in (syntax.constructor m mods w ps args body) = None
type_in (syntax.inner m c) = None

abbrev pub init_in : syntax.Member Bare → Option (tree.Exp Bare)
init_in (syntax.field m mods t w init) = init
init_in (syntax.method m mods t w ps body) = None
init_in (syntax.constructor m mods w ps args body) = None
init_in (syntax.inner m c) = None

abbrev pub class_mods : syntax.Class Bare → List (syntax.Modifier Bare)
class_mods (syntax.class m mods w t ms) = mods

abbrev pub class_name : syntax.Class Bare → List ℕ
class_name (syntax.class m mods w t ms) = w.text

abbrev pub class_parent : syntax.Class Bare → Option (tree.TypeName Bare)
class_parent (syntax.class m mods w t ms) = t

abbrev pub class_members : {A : Type 0} → syntax.Class A → syntax.Members A
class_members (syntax.class m mods w t ms) = ms

abbrev pub front_in : tree.TypeName Bare → Option (List ℕ)
front_in (tree.int m) = None
front_in (tree.boolean m) = None
front_in (tree.named m o w) = option_map (λ (v : tree.Word Bare). v.text) o

abbrev pub word_in : tree.TypeName Bare → List ℕ
word_in (tree.int m) = []
word_in (tree.boolean m) = []
word_in (tree.named m o w) = w.text

pub same_front : {A B : Type 0} (o : Option (tree.Word A)) (p : Option (tree.Word B))
    → option_map (λ (v : tree.Word Bare). v.text) (option_map (map_word no_mark) p) ≡ option_map (λ (v : tree.Word Bare). v.text) (option_map (map_word no_mark) o)
    → option_map (λ (v : tree.Word A). v.text) o ≡ option_map (λ (v : tree.Word B). v.text) p
same_front None None e = refl
same_front None (Some w) e = absurd cc
same_front (Some v) None e = absurd cc
same_front (Some v) (Some w) e = sym e
