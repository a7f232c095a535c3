-- `class C { static int a = 1; static int b = 2; }`: neither begins with the value of the other. What is no constant is no
-- first value, and an instance field's initializer isn't one.
use Rattle.std.proofs.Common.{◌≡◌, ℕ, List, [], ◌∷◌, Some, None, sym, ◌∙◌}
use Rattle.std.specs.Prelude.{pos, codes}
use Rattle.jr_ast.specs.declared.operators.BinOp.TheVariants.{Add}
use Rattle.jr_ast.specs.declared.operators.ModWord.TheVariants as word
use Rattle.jr_ast.specs.Tree as tree
use Rattle.jr_ast.specs.MemberTree as syntax
use Rattle.jr_runs.specs.Values.{int}
use Rattle.jr_runs.specs.FirstValues.{First, gives}
use Rattle.jr_table.specs.Keys.{FieldKey}
use Rattle.jr_table.specs.Prelude.{top_key}
use Rattle.jr_code.specs.RunKeys.{RunKeys}
use Rattle.jr_code.specs.CodedFields.{FirstOf, ClassFirsts, MembersFirsts, MemberFirst, UnitsFirsts}

abbrev at_mark : ℕ → ℕ → ℕ
at_mark m base = m

abbrev w : List ℕ → tree.Word ℕ
w text = record { mark = 0; text = text }

abbrev static : List (syntax.Modifier ℕ)
static = record { mark = 0; word = word.Static } ∷ []

abbrev a_field : List (syntax.Modifier ℕ) → List ℕ → tree.Exp ℕ → syntax.Member ℕ
a_field mods name e = syntax.field 0 mods (tree.int 0) (w name) (Some e)

abbrev unit_of : syntax.Members ℕ → syntax.Unit ℕ
unit_of ms = record { mark = 0; package_name = []; classes = syntax.class 0 [] (w (codes "C")) None ms ∷ [] }

abbrev two : syntax.Unit ℕ
two = unit_of (syntax.more (a_field static (codes "a") (tree.number 0 1)) (syntax.more (a_field static (codes "b") (tree.number 0 2)) syntax.end))

abbrev field_of : List ℕ → FieldKey
field_of name = record { class = top_key (codes "C"); name = name }

abbrev gives_int : ℕ → First RunKeys
gives_int n = gives (int (pos n))

number_in : First RunKeys → ℕ
number_in (gives (int (pos n))) = n
number_in x = 0

-- each begins with its own value
own_values : (first : FieldKey → First RunKeys) → UnitsFirsts at_mark first (two ∷ []) → (first (field_of (codes "a")) ≡ gives_int 1) × (first (field_of (codes "b")) ≡ gives_int 2)
unfolding ClassFirsts MembersFirsts MemberFirst
own_values first h = (h.0.0.0, h.0.0.1.0)

-- and not with that of another field
others_value : (first : FieldKey → First RunKeys) → UnitsFirsts at_mark first (two ∷ []) → first (field_of (codes "b")) ≡ gives_int 1 → ⊥
others_value first h e =
    let p : gives_int 2 ≡ gives_int 1 = sym (own_values first h).1 ∙ e in
    cc

-- a sum, a name, a call, a bracketed number, and the negative of a bracketed one are no constants
no_sum : (x : First RunKeys) → FirstOf {A = ℕ} (tree.binary 0 Add (tree.number 0 1) (tree.number 0 2)) x → ⊥
no_sum x h = h

no_name : (x : First RunKeys) → FirstOf {A = ℕ} (tree.name 0 (w (codes "a"))) x → ⊥
no_name x h = h

no_call : (x : First RunKeys) → FirstOf {A = ℕ} (tree.call 0 tree.no_target (w (codes "m")) tree.end) x → ⊥
no_call x h = h

no_bracket : (x : First RunKeys) → FirstOf {A = ℕ} (tree.paren 0 (tree.number 0 1)) x → ⊥
no_bracket x h = h

-- so a program with `static int a = 1 + 2;` has no first values
no_first_values : (first : FieldKey → First RunKeys) → UnitsFirsts at_mark first (unit_of (syntax.more (a_field static (codes "a") (tree.binary 0 Add (tree.number 0 1) (tree.number 0 2))) syntax.end) ∷ []) → ⊥
unfolding ClassFirsts MembersFirsts MemberFirst
no_first_values first h = h.0.0.0

-- and with `int a = 1 + 2;` anything will do, as constructors run it
instance_fields_are_free : (first : FieldKey → First RunKeys) → UnitsFirsts at_mark first (unit_of (syntax.more (a_field [] (codes "a") (tree.binary 0 Add (tree.number 0 1) (tree.number 0 2))) syntax.end) ∷ [])
unfolding ClassFirsts MembersFirsts MemberFirst
instance_fields_are_free first = (((tt, tt), tt), tt)
