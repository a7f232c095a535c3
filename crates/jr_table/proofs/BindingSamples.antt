-- Small programs for cases of binding. A node's mark is the place of its first byte. The rows are those of the classes, where
-- each type is a class of the program or the prelude by its simple name, or a member class of the class around.
use Rattle.std.proofs.Common.{ℕ, List, [], ◌∷◌, Option, Some, None, Bool, true, false, map}
use Rattle.std.specs.Prelude.{◌&&◌, ◌||◌, ◌==◌, ◌++◌, nat_lt, filter, is_some, unwrap_or, if◌then◌else◌}
use Rattle.std.specs.List.{list_any}
use Rattle.jr_ast.specs.declared.operators.ModWord.{ModWord}
use Rattle.jr_ast.specs.Tree as tree
use Rattle.jr_ast.specs.StatementTree as statement
use Rattle.jr_ast.specs.MemberTree as syntax
use Rattle.jr_table.specs.Keys.{ClassKey, Ty, int, boolean, void, class}
use Rattle.jr_table.specs.Decls.{MemberKey, head, field, method, constructor, Decl, class_decl, field_decl, method_decl, constructor_decl}
use Rattle.jr_table.specs.SameKeys.{same_class}
use Rattle.jr_table.specs.Rows.{Row}
use Rattle.jr_table.specs.Prelude.{prelude_rows, object_key}
use Rattle.jr_table.specs.ProgramRows.{is_access}
use Rattle.jr_table.specs.DeclaredItems.{words, writes_ctor}
use Rattle.jr_table.specs.Errors.{rule_rank, class_part, member_part}
use Rattle.jr_table.specs.Notes.{Note, refers, breaks}
use Rattle.jr_table.specs.Walks.{part_notes}

abbrev pub at_mark : ℕ → ℕ → ℕ
at_mark m base = m

abbrev pub w : ℕ → List ℕ → tree.Word ℕ
w m text = record { mark = m; text = text }

abbrev pub modifier : ℕ → ModWord → syntax.Modifier ℕ
modifier m v = record { mark = m; word = v }

abbrev pub param : ℕ → Bool → tree.TypeName ℕ → tree.Word ℕ → syntax.Param ℕ
param m f t v = record { mark = m; is_final = f; type = t; name = v }

abbrev pub key_in : Option (List ℕ) → List ℕ → ClassKey
key_in outer name = record { outer = outer; name = name }

-- the classes of a program

abbrev pub member_keys : List ℕ → syntax.Members ℕ → List ClassKey
member_keys outer syntax.end = []
member_keys outer (syntax.more (syntax.inner m (syntax.class n mods v t ms)) rest) = key_in (Some outer) v.text ∷ member_keys outer rest
member_keys outer (syntax.more _ rest) = member_keys outer rest

abbrev pub class_keys : List (syntax.Class ℕ) → List ClassKey
class_keys [] = []
class_keys (syntax.class m mods v t ms ∷ cs) = key_in None v.text ∷ (member_keys v.text ms ++ class_keys cs)

abbrev pub outer_or_own : ClassKey → List ℕ
outer_or_own k = unwrap_or k.outer k.name

abbrev pub resolved : List ClassKey → ClassKey → Option (tree.Word ℕ) → List ℕ → ClassKey
resolved ks k (Some o) name = key_in (Some o.text) name
resolved ks k None name = if list_any (λ q. same_class q (key_in (Some (outer_or_own k)) name)) ks then key_in (Some (outer_or_own k)) name else key_in None name

abbrev pub type_in : List ClassKey → ClassKey → tree.TypeName ℕ → Ty
type_in ks k (tree.int m) = int
type_in ks k (tree.boolean m) = boolean
type_in ks k (tree.named m o v) = class (resolved ks k o v.text)

abbrev pub result_in : List ClassKey → ClassKey → Option (tree.TypeName ℕ) → Ty
result_in ks k None = void
result_in ks k (Some t) = type_in ks k t

abbrev pub params_in : List ClassKey → ClassKey → List (syntax.Param ℕ) → List Ty
params_in ks k ps = map (λ (p : syntax.Param ℕ). type_in ks k p.type) ps

abbrev pub parent_in : List ClassKey → ClassKey → Option (tree.TypeName ℕ) → ClassKey
parent_in ks k None = object_key
parent_in ks k (Some (tree.named m o v)) = resolved ks k o v.text
parent_in ks k (Some _) = object_key

-- its rows

abbrev pub row : Decl → List ModWord → Option Ty → Option ClassKey → Bool → Row
row d ws t p i = record { decl = d; modifiers = ws; type = t; parent = p; has_init = i }

abbrev pub default_ctor : ClassKey → List ModWord → Bool → List Row
default_ctor k ws true = []
default_ctor k ws false = row (constructor_decl (record { class = k; params = [] })) (filter is_access ws) None None false ∷ []

module _ (ks : List ClassKey) where
  unfoldable mutual
    pub class_rows : Option (List ℕ) → syntax.Class ℕ → List Row
    class_rows outer (syntax.class m mods v t ms) = row (class_decl (key_in outer v.text)) (words at_mark mods) None (Some (parent_in ks (key_in outer v.text) t)) false
        ∷ (default_ctor (key_in outer v.text) (words at_mark mods) (writes_ctor at_mark ms) ++ members_rows (key_in outer v.text) ms)

    pub members_rows : ClassKey → syntax.Members ℕ → List Row
    members_rows k syntax.end = []
    members_rows k (syntax.more x xs) = member_rows k x ++ members_rows k xs

    pub member_rows : ClassKey → syntax.Member ℕ → List Row
    member_rows k (syntax.field m mods t v init) = row (field_decl (record { class = k; name = v.text })) (words at_mark mods) (Some (type_in ks k t)) None (is_some init) ∷ []
    member_rows k (syntax.method m mods t v ps body) = row (method_decl (record { class = k; name = v.text; params = params_in ks k ps })) (words at_mark mods) (Some (result_in ks k t)) None false ∷ []
    member_rows k (syntax.constructor m mods v ps args body) = row (constructor_decl (record { class = k; params = params_in ks k ps })) (words at_mark mods) None None false ∷ []
    member_rows k (syntax.inner m c) = class_rows (Some k.name) c

  abbrev pub classes_rows : List (syntax.Class ℕ) → List Row
  classes_rows [] = []
  classes_rows (c ∷ cs) = class_rows None c ++ classes_rows cs

-- what is noted of it

module _ (ks : List ClassKey) (rows : List Row) (super_at : ℕ) where
  abbrev pub key_of_member : ClassKey → syntax.Member ℕ → MemberKey
  key_of_member k (syntax.field m mods t v init) = field (record { class = k; name = v.text })
  key_of_member k (syntax.method m mods t v ps body) = method (record { class = k; name = v.text; params = params_in ks k ps })
  key_of_member k (syntax.constructor m mods v ps args body) = constructor (record { class = k; params = params_in ks k ps })
  key_of_member k (syntax.inner m c) = head k

  unfoldable mutual
    pub class_notes : Option (List ℕ) → syntax.Class ℕ → List Note
    class_notes outer (syntax.class m mods v t ms) = part_notes at_mark rows super_at (head (key_in outer v.text)) 0 (class_part (syntax.class m mods v t ms)) ++ members_notes (key_in outer v.text) ms

    pub members_notes : ClassKey → syntax.Members ℕ → List Note
    members_notes k syntax.end = []
    members_notes k (syntax.more x xs) = one_notes k x ++ members_notes k xs

    pub one_notes : ClassKey → syntax.Member ℕ → List Note
    one_notes k (syntax.field m mods t v init) = part_notes at_mark rows super_at (key_of_member k (syntax.field m mods t v init)) 0 (member_part (syntax.field m mods t v init))
    one_notes k (syntax.method m mods t v ps body) = part_notes at_mark rows super_at (key_of_member k (syntax.method m mods t v ps body)) 0 (member_part (syntax.method m mods t v ps body))
    one_notes k (syntax.constructor m mods v ps args body) = part_notes at_mark rows super_at (key_of_member k (syntax.constructor m mods v ps args body)) 0 (member_part (syntax.constructor m mods v ps args body))
    one_notes k (syntax.inner m c) = class_notes (Some k.name) c

  abbrev pub classes_notes : List (syntax.Class ℕ) → List Note
  classes_notes [] = []
  classes_notes (c ∷ cs) = class_notes None c ++ classes_notes cs

abbrev pub notes : (super_at : ℕ) → List (syntax.Class ℕ) → List Note
notes super_at cs = classes_notes (class_keys cs) (prelude_rows ++ classes_rows (class_keys cs) cs) super_at cs

-- by place; at one place a reference first, and errors by rule
abbrev pub place_of : Note → ℕ
place_of (refers at d) = at
place_of (breaks at r) = at

abbrev pub rank_of : Note → ℕ
rank_of (refers at d) = 0
rank_of (breaks at r) = rule_rank r

abbrev pub comes_before : Note → Note → Bool
comes_before x y = nat_lt (place_of x) (place_of y) || ((place_of x == place_of y) && nat_lt (rank_of x) (rank_of y))

abbrev pub put : Note → List Note → List Note
put x [] = x ∷ []
put x (y ∷ ys) = if comes_before y x then y ∷ put x ys else x ∷ (y ∷ ys)

abbrev pub sorted : List Note → List Note
sorted [] = []
sorted (x ∷ xs) = put x (sorted xs)

abbrev pub is_error : Note → Bool
is_error (refers at d) = false
is_error (breaks at r) = true

-- the errors of a program
abbrev pub errors : (super_at : ℕ) → List (syntax.Class ℕ) → List Note
errors super_at cs = sorted (filter is_error (notes super_at cs))

-- what its references are bound to, and its errors
abbrev pub all : (super_at : ℕ) → List (syntax.Class ℕ) → List Note
all super_at cs = sorted (notes super_at cs)
