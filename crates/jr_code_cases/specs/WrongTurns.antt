-- The turns that an account of types could take wrong, as texts: three that are no programs, each
-- by the rule that it breaks, and one that is. `javac` refuses the three too, for what stands above
-- each.
use Rattle.std.specs.Prelude.{ℕ, List, [], ◌∷◌, codes}
use Rattle.jr_runs.specs.Actions.{plain, load, store}
use Rattle.jr_table.specs.declared.rules.Rule.TheVariants as rule
use Rattle.jr_code_cases.specs.Shown.{Refuses, NeverEnds}
use Rattle.jr_code_cases.specs.Cases.{a, go_of, static_of, number}

-- `while (true)` doesn't complete normally, so that no return is missing (JLS 14.21)
abbrev pub text_of_endless : List ℕ
text_of_endless = codes "class A { static int n; static int go() { while (true) n = n + 1; } }"

abbrev pub Endless : Type 0
Endless = NeverEnds text_of_endless (go_of a) (
    load plain (static_of a (codes "n")) (number 0)
    ∷ store plain (static_of a (codes "n")) (number 1)
    ∷ load plain (static_of a (codes "n")) (number 1)
    ∷ [])

-- incompatible types: void cannot be converted to int
abbrev pub text_of_void_value : List ℕ
text_of_void_value =
    codes "class A { static void m() { } static int go() { int x = m(); return x; } }"

abbrev pub VoidValue : Type 0
VoidValue = Refuses text_of_void_value rule.VoidValue

-- missing return statement
abbrev pub text_of_missing_return : List ℕ
text_of_missing_return =
    codes "class A { static boolean b; static int go() { if (b) return 1; } }"

abbrev pub MissingReturn : Type 0
MissingReturn = Refuses text_of_missing_return rule.MissingReturn

-- incompatible types: A cannot be converted to B
abbrev pub text_of_down : List ℕ
text_of_down = codes "class A { } class B extends A { static void go(A a) { B b = a; } }"

abbrev pub Down : Type 0
Down = Refuses text_of_down rule.TypeMismatch
