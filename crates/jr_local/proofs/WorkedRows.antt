-- Worked examples, each a small class: which sites stand in front of an expression or between a
-- declaration and a read, what bars it, and which text comes of it.
use Rattle.std.proofs.Common.{◌≡◌, ℕ, ◌+◌, Bool, true, false, List, [], ◌∷◌, ◌++◌, Some, None, codes, refl, inl, inr, arith}
use Rattle.jr_text.specs.declared.spans.Span.{Span}
use Rattle.jr_text.specs.declared.spans.Place.{Place}
use Rattle.jr_text.specs.Splices.{splice}
use Rattle.jr_lex.specs.declared.items.Item.{Item}
use Rattle.jr_lex.specs.declared.items.ItemKind.TheVariants.{Token as TokenItem}
use Rattle.jr_lex.specs.declared.items.TokenKind.{TokenKind}
use Rattle.jr_lex.specs.declared.items.TokenKind.TheVariants.{Word, Mark}
use Rattle.jr_lex.specs.declared.items.Symbol.TheVariants as symbol
use Rattle.jr_ast.specs.declared.operators.BinOp.TheVariants.{Add, Lt}
use Rattle.jr_ast.specs.declared.operators.ModWord.TheVariants.{Volatile}
use Rattle.jr_ast.specs.Tree as tree
use Rattle.jr_ast.specs.StatementTree as statement
use Rattle.jr_grammar.specs.Shape.{rank_of}
use Rattle.jr_sync.specs.declared.kinds.Kind.TheVariants.{Load, Store, VolatileLoad, Enter, Exit}
use Rattle.jr_sync.specs.declared.sites.Site.TheVariants.{Read, Access, Check}
use Rattle.jr_table.specs.Keys.{ClassKey, FieldKey, Ty, int, class}
use Rattle.jr_table.specs.Decls.{MemberKey, method, Decl, field_decl, local_decl}
use Rattle.jr_table.specs.Rows.{Row}
use Rattle.jr_table.specs.Entries.{number_of}
use Rattle.jr_table.specs.HeadRules.{plain}
use Rattle.jr_names.specs.Sites.{SiteAt}
use Rattle.jr_bind.specs.Bounds.{Reference}
use Rattle.jr_bind.specs.Programs.{Program}
use Rattle.jr_code.specs.RunKeys.{RunKeys}
use Rattle.jr_cover.specs.Ways.{sites_of}
use Rattle.jr_cover.specs.Sites.{Site, Known, exp_way}
use Rattle.jr_rewrite.specs.Rewritten.{Rewritten, plain as unchanged, change}
use Rattle.jr_rewrite.specs.Spots.{level}
use Rattle.jr_rewrite.specs.Edited.{entries_of}
use Rattle.jr_pieces.specs.Ways.{here, in_left, in_right, in_value, StmtWay, in_eval, in_returned, in_turning, ListWay, first, later}
use Rattle.jr_pieces.specs.Bars.{stmt_barred, list_barred}
use Rattle.jr_pieces.specs.Before.{stmt_before, between}
use Rattle.jr_local.specs.Bodies.{begins, Body}
use Rattle.jr_local.specs.BodyFacts.{known}
use Rattle.jr_local.specs.Crossing.{site_at}
use Rattle.jr_local.specs.Extracted.{put_name, put_declaration}
use Rattle.jr_local.specs.Inlined.{Copy, Becomes, put, in_parentheses}

-- ---- a class with its fields, and one of its methods

abbrev span : ℕ → ℕ → Span
span from to = record { from = from; to = to }

abbrev word : ℕ → ℕ → List ℕ → tree.Word Span
word from to text = record { mark = span from to; text = text }

abbrev item : TokenKind → ℕ → ℕ → Item
item k from to = record { kind = TokenItem k; span = span from to }

abbrev A : ClassKey
A = record { outer = None; name = codes "A" }

abbrev field : List ℕ → FieldKey
field name = record { class = A; name = name }

abbrev row : Bool → List ℕ → Row
row false name = record { decl = field_decl (field name); modifiers = []; type = Some int; parent = None; has_init = false }
row true name = record { decl = field_decl (field name); modifiers = Volatile ∷ []; type = Some int; parent = None; has_init = false }

-- f, g and h are plain, v is volatile
abbrev p : Program Span
p = record { files = []; rows = row false (codes "f") ∷ row false (codes "g") ∷ row false (codes "h") ∷ row true (codes "v") ∷ []; super_at = λ k. 0; bounds = [] }

abbrev m : List Ty → MemberKey
m params = method (record { class = A; name = codes "m"; params = params })

abbrev refers : ℕ → Decl → Reference
refers at d = record { at = at; decl = d }

abbrev local_number : List Ty → ℕ → Decl
local_number params n = local_decl (record { member = m params; number = n })

-- The method begins at a byte. So many parameters stand in front of its locals.
abbrev body : List Ty → (start count : ℕ) → statement.Stmts Span → List Reference → Body
body params start count list references = record {
  key = m params;
  at = record { next = count; context = plain (m params) false; base = start };
  list = list;
  front = 0;
  bound = record { member = m params; references = references; errors = []; types = [] };
}

-- `this` alone is never null here
abbrev is_this : tree.Exp Span → Bool
is_this (tree.this k) = true
is_this _ = false

abbrev of_this : (from : ℕ) → List ℕ → tree.Exp Span
of_this from name = tree.field (span from (6 + from)) (tree.this (span from (4 + from))) (word (5 + from) (6 + from) name)

abbrev named : (from : ℕ) → List ℕ → tree.Exp Span
named from name = tree.name (span from (1 + from)) (word from (1 + from) name)

abbrev there : ℕ → Place
there at = record { file = 0; at = at }

-- what is known of a body, and its sites as they are told
abbrev of_body : Body → Known RunKeys Span
of_body b = known p b is_this

abbrev told : Body → List (Site RunKeys) → List SiteAt
told b [] = []
told b (s ∷ ss) = site_at p 0 b s ∷ told b ss

-- ---- class A{int f;volatile int v;int m(){return this.f+this.v;}}

abbrev plain_first : tree.Exp Span
plain_first = tree.binary (span 44 57) Add (of_this 44 (codes "f")) (of_this 51 (codes "v"))

abbrev first_body : Body
first_body = body [] 29 0 (statement.more (statement.return (span 37 58) (Some plain_first)) statement.end)
    (refers 20 (field_decl (field (codes "f"))) ∷ refers 27 (field_decl (field (codes "v"))) ∷ [])

abbrev second_operand : StmtWay (of_this 51 (codes "v")) (statement.return (span 37 58) (Some plain_first))
second_operand = in_returned (span 37 58) plain_first (in_right (span 44 57) Add (of_this 44 (codes "f")) (of_this 51 (codes "v")) here)

-- a load of f stands in front of the volatile one
load_in_front : told first_body (stmt_before (of_body first_body) second_operand) ≡ (record { place = there 49; site = Access Load (Some (field (codes "f"))) }) ∷ []
unfolding number_of
load_in_front = refl

volatile_load : told first_body (sites_of (exp_way (of_body first_body) (of_this 51 (codes "v")))) ≡ (record { place = there 56; site = Access VolatileLoad (Some (field (codes "v"))) }) ∷ []
unfolding number_of
volatile_load = refl

nothing_bars : stmt_barred begins 29 None second_operand ≡ None
nothing_bars = refl

-- the declaration goes in front of `return`, and the name behind the sum's sign needs no space
declaration_in_front : splice (codes "class A{int f;volatile int v;int m(){return this.f+this.v;}}")
    (entries_of (put_declaration (codes "t") (span 37 58) (tree.int (span 37 58)) (codes "this.v") (codes " ")
    ∷ put_name (codes "t") (item (Mark symbol.Plus) 50 51 ∷ item (Mark symbol.Semicolon) 57 58 ∷ []) (span 51 57) ∷ []))
    ≡ codes "class A{int f;volatile int v;int m(){int t = this.v; return this.f+t;}}"
declaration_in_front = refl

-- ---- class A{int f;int g;int h;void m(){int t=this.f;synchronized(this){this.g=1;}this.h=t;}}

abbrev assigns : (from : ℕ) → (name : List ℕ) → (to : ℕ) → tree.Exp Span → statement.Stmt Span
assigns from name to e = statement.eval (span from (1 + to)) (tree.assign (span from to) (of_this from name) e)

abbrev monitor : statement.Stmt Span
monitor = statement.sync (span 51 77) (tree.this (span 64 68)) (statement.more (assigns 67 (codes "g") 75 (tree.number (span 74 75) 1)) statement.end)

abbrev monitor_body : Body
monitor_body = body [] 26 0
    (statement.more (statement.local (span 35 48) false (tree.int (span 35 38)) (word 39 40 (codes "t")) (of_this 41 (codes "f")))
    (statement.more monitor (statement.more (assigns 77 (codes "h") 85 (named 84 (codes "t"))) statement.end)))
    (refers 20 (field_decl (field (codes "f"))) ∷ refers 46 (field_decl (field (codes "g"))) ∷ refers 56 (field_decl (field (codes "h"))) ∷ refers 58 (local_number [] 0) ∷ [])

abbrev read_behind : ListWay (named 84 (codes "t")) (statement.more monitor (statement.more (assigns 77 (codes "h") 85 (named 84 (codes "t"))) statement.end))
read_behind = later monitor (statement.more (assigns 77 (codes "h") 85 (named 84 (codes "t"))) statement.end)
    (first (assigns 77 (codes "h") 85 (named 84 (codes "t"))) statement.end
    (in_eval (span 77 86) (tree.assign (span 77 85) (of_this 77 (codes "h")) (named 84 (codes "t"))) (in_value (span 77 85) (of_this 77 (codes "h")) (named 84 (codes "t")) here)))

moved_load : told monitor_body (sites_of (exp_way (of_body monitor_body) (of_this 41 (codes "f")))) ≡ (record { place = there 46; site = Access Load (Some (field (codes "f"))) }) ∷ []
unfolding number_of
moved_load = refl

-- between the declaration and the read the monitor is entered and left
monitor_between : told monitor_body (between (of_body monitor_body) (list_barred begins 26 None read_behind) read_behind)
    ≡ (record { place = there 51; site = Access Enter None }) ∷ (record { place = there 72; site = Access Store (Some (field (codes "g"))) }) ∷ (record { place = there 76; site = Access Exit None }) ∷ []
unfolding number_of
monitor_between = refl

-- ---- class A{int f;int g;int h;void m(A p){int t=this.f;p.g=1;this.h=t;}}

abbrev of_p : tree.Exp Span
of_p = tree.field (span 51 54) (named 51 (codes "p")) (word 53 54 (codes "g"))

abbrev through_p : statement.Stmt Span
through_p = statement.eval (span 51 57) (tree.assign (span 51 56) of_p (tree.number (span 55 56) 1))

abbrev param_body : Body
param_body = body (class A ∷ []) 26 1
    (statement.more (statement.local (span 38 51) false (tree.int (span 38 41)) (word 42 43 (codes "t")) (of_this 44 (codes "f")))
    (statement.more through_p (statement.more (assigns 57 (codes "h") 65 (named 64 (codes "t"))) statement.end)))
    (refers 23 (field_decl (field (codes "f"))) ∷ refers 25 (local_number (class A ∷ []) 0) ∷ refers 27 (field_decl (field (codes "g"))) ∷ refers 36 (field_decl (field (codes "h"))) ∷ refers 38 (local_number (class A ∷ []) 1) ∷ [])

abbrev behind_p : ListWay (named 64 (codes "t")) (statement.more through_p (statement.more (assigns 57 (codes "h") 65 (named 64 (codes "t"))) statement.end))
behind_p = later through_p (statement.more (assigns 57 (codes "h") 65 (named 64 (codes "t"))) statement.end)
    (first (assigns 57 (codes "h") 65 (named 64 (codes "t"))) statement.end
    (in_eval (span 57 66) (tree.assign (span 57 65) (of_this 57 (codes "h")) (named 64 (codes "t"))) (in_value (span 57 65) (of_this 57 (codes "h")) (named 64 (codes "t")) here)))

-- a parameter is read, tested for null behind the right side, and then comes the store
test_between : told param_body (between (of_body param_body) (list_barred begins 26 None behind_p) behind_p)
    ≡ (record { place = there 51; site = Read (record { member = m (class A ∷ []); number = 0 }) }) ∷ (record { place = there 53; site = Check }) ∷ (record { place = there 53; site = Access Store (Some (field (codes "g"))) }) ∷ []
unfolding number_of
test_between = refl

-- ---- class A{int f;int g;void m(){while(this.f<3){this.g=1;}}}

abbrev condition : tree.Exp Span
condition = tree.binary (span 35 43) Lt (of_this 35 (codes "f")) (tree.number (span 42 43) 3)

abbrev turning : statement.Stmt Span
turning = statement.loop (span 29 55) condition (statement.block (span 44 55) (statement.more (assigns 45 (codes "g") 53 (tree.number (span 52 53) 1)) statement.end))

abbrev in_condition : StmtWay (of_this 35 (codes "f")) turning
in_condition = in_turning (span 29 55) condition (statement.block (span 44 55) (statement.more (assigns 45 (codes "g") 53 (tree.number (span 52 53) 1)) statement.end))
    (in_left (span 35 43) Lt (of_this 35 (codes "f")) (tree.number (span 42 43) 3) here)

loop_bars : stmt_barred begins 20 None in_condition ≡ Some 29
loop_bars = refl

-- ---- class A{int g;int h;void m(A p,int i){int t=i+1;p.g=1;this.h=t+t;}}

abbrev adding : List ℕ
adding = codes "class A{int g;int h;void m(A p,int i){int t=i+1;p.g=1;this.h=t+t;}}"

abbrev sum : tree.Exp Span
sum = tree.binary (span 44 47) Add (named 44 (codes "i")) (tree.number (span 46 47) 1)

abbrev copy_at : ℕ → Copy
copy_at at = record { read = span at (1 + at); of = unchanged sum }

abbrev beside_sign : List Item
beside_sign = item (Mark symbol.Equals) 60 61 ∷ item Word 61 62 ∷ item (Mark symbol.Plus) 62 63 ∷ item Word 63 64 ∷ item (Mark symbol.Semicolon) 64 65 ∷ []

-- the left operand of a sum may be a sum, the right one is put in parentheses
abbrev left_copy : Rewritten (tree.Exp Span)
left_copy = put adding beside_sign (span 44 47) (copy_at 61) sum (codes "i+1")

abbrev right_copy : Rewritten (tree.Exp Span)
right_copy = put adding beside_sign (span 44 47) (copy_at 63) (in_parentheses (copy_at 63)) (codes "(i+1)")

left_becomes : Becomes adding beside_sign (span 44 47) (level (rank_of Add)) (copy_at 61) left_copy
left_becomes = inl (omega arith, refl)

right_becomes : Becomes adding beside_sign (span 44 47) (level (1 + rank_of Add)) (copy_at 63) right_copy
right_becomes = inr (λ le. omega (arith, le), refl)

both_copied : splice adding (entries_of (change (span 38 48) [] ∷ (left_copy.changes ++ right_copy.changes)))
    ≡ codes "class A{int g;int h;void m(A p,int i){p.g=1;this.h=i+1+(i+1);}}"
both_copied = refl
