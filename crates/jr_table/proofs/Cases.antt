-- Faults of small programs, with their places. A node's mark is the place of its first byte.
use Rattle.std.proofs.Common.{◌≡◌, ℕ, List, [], ◌∷◌, Option, Some, None, refl, inl, inr, arith}
use Rattle.std.specs.Prelude.{codes, false}
use Rattle.jr_ast.specs.declared.operators.ModWord.TheVariants as word
use Rattle.jr_ast.specs.Tree as tree
use Rattle.jr_ast.specs.StatementTree as statement
use Rattle.jr_ast.specs.MemberTree as syntax
use Rattle.jr_table.specs.declared.kinds.DeclKind.{DeclKind}
use Rattle.jr_table.specs.declared.kinds.DeclKind.TheVariants as kind
use Rattle.jr_table.specs.DeclaredItems.{DeclaredItem, DeclaredClass, declarations_of, class_declarations, class_item, field_item, method_item, named}
use Rattle.jr_table.specs.Prelude.{top_key}
use Rattle.jr_table.specs.Resolving.{DeclaresClass, IsParent, TopParent, HasTopMemberType, IsTopClass, Climbs}
use Rattle.jr_table.specs.Faults.{Place, PackageLine, At, HasFault}

abbrev at_mark : ℕ → ℕ → ℕ
at_mark m base = m

abbrev word_at : ℕ → List ℕ → tree.Word ℕ
word_at m text = record { mark = m; text = text }

abbrev type_at : ℕ → List ℕ → tree.TypeName ℕ
type_at m text = tree.named m None (word_at m text)

abbrev file_of : List (syntax.Class ℕ) → syntax.Unit ℕ
file_of classes = record { mark = 0; package_name = []; classes = classes }

abbrev place : ℕ → ℕ → Place
place file at = record { file = file; at = at }

-- a program of files without a package line
abbrev Faulty : List (syntax.Unit ℕ) → DeclKind → Place → Type 0
Faulty units k p = HasFault (None ∷ None ∷ []) (declarations_of at_mark units) k p

-- `class A extends B{}class B extends A{}`
abbrev a_and_b : List (syntax.Unit ℕ)
a_and_b = file_of (
    syntax.class 0 [] (word_at 6 (codes "A")) (Some (type_at 16 (codes "B"))) syntax.end
    ∷ syntax.class 19 [] (word_at 25 (codes "B")) (Some (type_at 35 (codes "A"))) syntax.end
    ∷ []) ∷ []

abbrev declaration_a : DeclaredClass
declaration_a = record { at = 6; key = top_key (codes "A"); modifiers = []; parent = Some (named 16 None (codes "B")); has_ctor = false }

abbrev declaration_b : DeclaredClass
declaration_b = record { at = 25; key = top_key (codes "B"); modifiers = []; parent = Some (named 35 None (codes "A")); has_ctor = false }

a_stands : DeclaresClass (declarations_of at_mark a_and_b) (top_key (codes "A")) declaration_a
unfolding declarations_of class_declarations
a_stands = record { number = 0; file = 0; stands = refl; is = refl }

b_stands : DeclaresClass (declarations_of at_mark a_and_b) (top_key (codes "B")) declaration_b
unfolding declarations_of class_declarations
b_stands = record { number = 1; file = 0; stands = refl; is = refl }

a_up : IsParent (declarations_of at_mark a_and_b) (top_key (codes "A")) (top_key (codes "B"))
a_up = inl (refl, inl (declaration_a, a_stands, (refl, inl (declaration_b, b_stands))))

b_up : IsParent (declarations_of at_mark a_and_b) (top_key (codes "B")) (top_key (codes "A"))
b_up = inl (refl, inl (declaration_b, b_stands, (refl, inl (declaration_a, a_stands))))

-- the cycle of two stands at the first class's name
cycle : Faulty a_and_b kind.Cycle (place 0 6)
unfolding declarations_of class_declarations
cycle = (0, declaration_a, 1, record { stands = refl }, (top_key (codes "B"), a_up, (top_key (codes "A"), b_up, refl)), refl)

-- `class A extends A{}`
abbrev itself : List (syntax.Unit ℕ)
itself = file_of (syntax.class 0 [] (word_at 6 (codes "A")) (Some (type_at 16 (codes "A"))) syntax.end ∷ []) ∷ []

abbrev declaration_itself : DeclaredClass
declaration_itself = record { at = 6; key = top_key (codes "A"); modifiers = []; parent = Some (named 16 None (codes "A")); has_ctor = false }

itself_stands : DeclaresClass (declarations_of at_mark itself) (top_key (codes "A")) declaration_itself
unfolding declarations_of class_declarations
itself_stands = record { number = 0; file = 0; stands = refl; is = refl }

cycle_of_one : Faulty itself kind.Cycle (place 0 6)
unfolding declarations_of class_declarations
cycle_of_one = (0, declaration_itself, 0, record { stands = refl }, (top_key (codes "A"), inl (refl, inl (declaration_itself, itself_stands, (refl, inl (declaration_itself, itself_stands)))), refl), refl)

-- `class A{}` in each of two files
abbrev twice : List (syntax.Unit ℕ)
twice = file_of (syntax.class 0 [] (word_at 6 (codes "A")) None syntax.end ∷ []) ∷ file_of (syntax.class 0 [] (word_at 6 (codes "A")) None syntax.end ∷ []) ∷ []

abbrev declaration_plain : DeclaredClass
declaration_plain = record { at = 6; key = top_key (codes "A"); modifiers = []; parent = None; has_ctor = false }

twice_a_class : Faulty twice kind.TwiceClass (place 1 6)
unfolding declarations_of class_declarations
twice_a_class = (1, declaration_plain, record { stands = refl }, refl, inl (0, 0, declaration_plain, omega arith, record { stands = refl }, refl))

-- `class A{static class A{}}`: a member class with the name of the class around it
abbrev nested : List (syntax.Unit ℕ)
nested = file_of (syntax.class 0 [] (word_at 6 (codes "A")) None
    (syntax.more (syntax.inner 8 (syntax.class 8 (record { mark = 8; word = word.Static } ∷ []) (word_at 21 (codes "A")) None syntax.end)) syntax.end) ∷ []) ∷ []

twice_by_nesting : Faulty nested kind.TwiceClass (place 0 21)
unfolding declarations_of class_declarations
twice_by_nesting = (1, _, record { stands = refl }, refl, inr refl)

-- `class A{static int f=(1);}`: parentheses are none of the forms
abbrev summed : List (syntax.Unit ℕ)
summed = file_of (syntax.class 0 [] (word_at 6 (codes "A")) None
    (syntax.more (syntax.field 8 (record { mark = 8; word = word.Static } ∷ []) (tree.int 15) (word_at 19 (codes "f")) (Some (tree.paren 21 (tree.number 22 1)))) syntax.end) ∷ []) ∷ []

static_init : Faulty summed kind.StaticInit (place 0 21)
unfolding declarations_of class_declarations
static_init = (1, _, record { stands = refl }, (inl refl, (_, refl, refl, refl)))

-- `class A{private public int f;}`
abbrev accesses : List (syntax.Unit ℕ)
accesses = file_of (syntax.class 0 [] (word_at 6 (codes "A")) None
    (syntax.more (syntax.field 8 (record { mark = 8; word = word.Private } ∷ record { mark = 16; word = word.Public } ∷ []) (tree.int 23) (word_at 27 (codes "f")) None) syntax.end) ∷ []) ∷ []

two_accesses : Faulty accesses kind.BadModifiers (place 0 27)
unfolding declarations_of class_declarations
two_accesses = (1, _, record { stands = refl }, inr (inl (word.Private, word.Public, (λ e. absurd cc), tt, tt, inl refl, inr (inl refl))), refl)
