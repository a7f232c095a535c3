-- Small examples of inline method: the numbers that locals have, the value of a last `return`, and the
-- texts of the block.
use Rattle.std.proofs.Common.{◌≡◌, ℕ, List, [], ◌∷◌, ◌++◌, Some, None, codes, refl}
use Rattle.jr_text.specs.declared.spans.Span.{Span}
use Rattle.jr_ast.specs.Tree as tree
use Rattle.jr_ast.specs.StatementTree as statement
use Rattle.jr_table.specs.Keys.{ClassKey, int, boolean, class}
use Rattle.jr_table.specs.Decls.{MemberKey, method, LocalKey}
use Rattle.jr_inline_method.specs.Refusing.{last_value}
use Rattle.jr_inline_method.specs.Regions.{behind_all, among_callers}
use Rattle.jr_inline_method.specs.Inlining.{in_braces, if_any, first_text, in_front, last_return, list_span}

abbrev top : List ℕ → ClassKey
top name = record { outer = None; name = name }

abbrev caller : MemberKey
caller = method (record { class = top (codes "A"); name = codes "m"; params = [] })

abbrev other : MemberKey
other = method (record { class = top (codes "A"); name = codes "k"; params = int ∷ [] })

abbrev local : MemberKey → ℕ → LocalKey
local m n = record { member = m; number = n }

-- ---- numbers: two locals of the method come from 1 on

in_front_stays : behind_all caller 1 2 (local caller 0) ≡ local caller 0
in_front_stays = refl

behind_makes_room : behind_all caller 1 2 (local caller 1) ≡ local caller 3
behind_makes_room = refl

others_stay : behind_all caller 1 2 (local other 1) ≡ local other 1
others_stay = refl

method_local_comes : among_callers caller 1 (local other 1) ≡ local caller 2
method_local_comes = refl

-- ---- int k(int a){f=a;return f;}

abbrev span : ℕ → ℕ → Span
span from to = record { from = from; to = to }

abbrev name : ℕ → ℕ → List ℕ → tree.Exp Span
name from to text = tree.name (span from to) (record { mark = span from to; text = text })

abbrev first : statement.Stmt Span
first = statement.eval (span 13 17) (tree.assign (span 13 16) (name 13 14 (codes "f")) (name 15 16 (codes "a")))

abbrev body : statement.Stmts Span
body = statement.more first (statement.more (statement.return (span 17 26) (Some (name 24 25 (codes "f")))) statement.end)

last_returns : last_return body ≡ Some (record { mark = span 17 26; value = name 24 25 (codes "f") })
last_returns = refl

last_is_told : last_value body ≡ Some (span 17 26)
last_is_told = refl

front_is_left : in_front body ≡ statement.more first statement.end
front_is_left = refl

whole_span : list_span body ≡ Some (span 13 26)
whole_span = refl

-- a `return` without a value is none
no_last_value : last_value (statement.more (statement.return (span 0 7) None) statement.end) ≡ None
no_last_value = refl

-- ---- texts

block_of_parts : in_braces ((codes "int a = 1;" ∷ []) ++ if_any (codes "f=a;r = f;")) ≡ codes "{ int a = 1; f=a;r = f; }"
block_of_parts = refl

empty_block : in_braces (if_any []) ≡ codes "{ }"
empty_block = refl

first_values : first_text int ++ (first_text boolean ++ first_text (class (top (codes "A")))) ≡ codes "0falsenull"
first_values = refl
