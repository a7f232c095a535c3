-- The programs: of each its text, what is run, the actions, and how it ends. `java` shows the same
-- (bench/traces.py): fields' accesses with their values, results and exceptions.
use Rattle.std.specs.Prelude.{ℕ, List, [], ◌∷◌, ◌++◌, true, false, pos, negsuc, codes}
use Rattle.jr_runs.specs.Values.{Value, int, truth, null, object}
use Rattle.jr_runs.specs.Actions.{plain, volatile, Location, part, shared, load, store, enter, exit}
use Rattle.jr_runs.specs.Actions.{create, start, Action}
use Rattle.jr_runs.specs.Arithmetic.{null_reference, zero_divisor, failed_cast, started_before}
use Rattle.jr_runs.specs.Running.{Start, of_method, gave, threw}
use Rattle.jr_table.specs.Keys.{ClassKey}
use Rattle.jr_table.specs.Prelude.{top_key}
use Rattle.jr_histories.specs.Histories.{Step}
use Rattle.jr_code.specs.RunKeys.{RunKeys}
use Rattle.jr_code_cases.specs.Shown.{Shows, ShowsOnly, ShowsBoth}

abbrev pub a : ClassKey
a = top_key (codes "A")

abbrev pub b : ClassKey
b = top_key (codes "B")

-- `go()` of the class, which is static
abbrev pub go_of : ClassKey → Start RunKeys
go_of k = of_method (record { class = k; name = codes "go"; params = [] }) null []

-- a static field, and one of an object
abbrev pub static_of : ClassKey → List ℕ → Location RunKeys
static_of k name = shared (record { class = k; name = name })

abbrev pub part_of : Value RunKeys → ClassKey → List ℕ → Location RunKeys
part_of o k name = part o (record { class = k; name = name })

abbrev pub number : ℕ → Value RunKeys
number n = int (pos n)

-- the first object that is made, where it is of this class
abbrev pub an_a : Value RunKeys
an_a = object 1 a

abbrev pub a_b : Value RunKeys
a_b = object 1 b

-- A flag that is volatile is stored and loaded as such (JLS 8.3.1.4).
abbrev pub text_of_volatile_flag : List ℕ
text_of_volatile_flag =
    codes "class A { static volatile boolean flag; static int data; "
    ++ codes "static int go() { data = 42; flag = true; if (flag) return data; return 0; } }"

abbrev pub VolatileFlag : Type 0
VolatileFlag = Shows text_of_volatile_flag (go_of a) (
    store plain (static_of a (codes "data")) (number 42)
    ∷ store volatile (static_of a (codes "flag")) (truth true)
    ∷ load volatile (static_of a (codes "flag")) (truth true)
    ∷ load plain (static_of a (codes "data")) (number 42)
    ∷ []) (gave (number 42))

-- Ints have 32 bits and wrap, and division rounds towards 0 (JLS 4.2.2, 15.17).
abbrev pub text_of_overflow : List ℕ
text_of_overflow =
    codes "class A { static int go() { int x = 2147483647; x += 1; int y = -x; "
    ++ codes "return y / 3 % 10; } }"

abbrev pub Overflow : Type 0
Overflow = ShowsOnly text_of_overflow (go_of a) [] (gave (int (negsuc 1)))

-- A division by zero throws in front of the store (JLS 15.17.2, 15.26.1).
abbrev pub text_of_zero_divisor : List ℕ
text_of_zero_divisor =
    codes "class A { static int d; "
    ++ codes "static int go() { d = 1; d = 7 / (d - 1); return d; } }"

abbrev pub ZeroDivisor : Type 0
ZeroDivisor = Shows text_of_zero_divisor (go_of a) (
    store plain (static_of a (codes "d")) (number 1)
    ∷ load plain (static_of a (codes "d")) (number 1)
    ∷ []) (threw zero_divisor)

-- A null receiver throws behind the evaluation of what is stored (JLS 15.26.1).
abbrev pub text_of_null_receiver : List ℕ
text_of_null_receiver =
    codes "class A { int f; static int n; static int next() { n = n + 1; return n; } "
    ++ codes "static int go() { A a = null; a.f = next(); return n; } }"

abbrev pub NullReceiver : Type 0
NullReceiver = Shows text_of_null_receiver (go_of a) (
    load plain (static_of a (codes "n")) (number 0)
    ∷ store plain (static_of a (codes "n")) (number 1)
    ∷ load plain (static_of a (codes "n")) (number 1)
    ∷ []) (threw null_reference)

-- A loop turns while its condition holds (JLS 14.12), and `s += i` loads before it stores.
abbrev pub text_of_counted_loop : List ℕ
text_of_counted_loop =
    codes "class A { static int s; "
    ++ codes "static int go() { int i = 0; while (i < 3) { s += i; i++; } return s; } }"

abbrev pub CountedLoop : Type 0
CountedLoop = Shows text_of_counted_loop (go_of a) (
    load plain (static_of a (codes "s")) (number 0)
    ∷ store plain (static_of a (codes "s")) (number 0)
    ∷ load plain (static_of a (codes "s")) (number 0)
    ∷ store plain (static_of a (codes "s")) (number 1)
    ∷ load plain (static_of a (codes "s")) (number 1)
    ∷ store plain (static_of a (codes "s")) (number 3)
    ∷ load plain (static_of a (codes "s")) (number 3)
    ∷ []) (gave (number 3))

-- A synchronized method enters the monitor of `this`, and exits it behind its result (JLS 8.4.3.6).
abbrev pub text_of_monitor : List ℕ
text_of_monitor =
    codes "class A { int f; synchronized int up() { f++; return f; } "
    ++ codes "static int go() { A a = new A(); return a.up(); } }"

abbrev pub Monitor : Type 0
Monitor = Shows text_of_monitor (go_of a) (
    create an_a
    ∷ enter an_a
    ∷ load plain (part_of an_a a (codes "f")) (number 0)
    ∷ store plain (part_of an_a a (codes "f")) (number 1)
    ∷ load plain (part_of an_a a (codes "f")) (number 1)
    ∷ exit an_a
    ∷ []) (gave (number 1))

-- `m()` runs what stands nearest in the object's class, `super.m()` what stands in the superclass
-- (JLS 15.12.4.4).
abbrev pub text_of_dispatch : List ℕ
text_of_dispatch =
    codes "class A { int m() { return 1; } int k() { return m(); } } "
    ++ codes "class B extends A { int m() { return super.m() + 10; } "
    ++ codes "static int go() { A a = new B(); return a.k(); } }"

abbrev pub Dispatch : Type 0
Dispatch = Shows text_of_dispatch (go_of b) (
    create a_b
    ∷ []) (gave (number 11))

-- The superclass's constructor is run before the initializers, so that it sees `y` as 0 (JLS 12.5).
abbrev pub text_of_initializers : List ℕ
text_of_initializers =
    codes "class A { static int n; int x = 1; A() { m(); } void m() { n = x; } } "
    ++ codes "class B extends A { int y = 5; void m() { n = y; } "
    ++ codes "static int go() { B b = new B(); return n * 10 + b.y; } }"

abbrev pub Initializers : Type 0
Initializers = Shows text_of_initializers (go_of b) (
    create a_b
    ∷ store plain (part_of a_b a (codes "x")) (number 1)
    ∷ load plain (part_of a_b b (codes "y")) (number 0)
    ∷ store plain (static_of a (codes "n")) (number 0)
    ∷ store plain (part_of a_b b (codes "y")) (number 5)
    ∷ load plain (static_of a (codes "n")) (number 0)
    ∷ load plain (part_of a_b b (codes "y")) (number 5)
    ∷ []) (gave (number 5))

-- Static fields begin with what their initializers say (JLS 12.4.2), which is no action.
abbrev pub text_of_first_values : List ℕ
text_of_first_values =
    codes "class A { static int t = 7; static boolean b = true; static int u; "
    ++ codes "static int go() { if (b) u = t * 3; return u; } }"

abbrev pub FirstValues : Type 0
FirstValues = Shows text_of_first_values (go_of a) (
    load plain (static_of a (codes "b")) (truth true)
    ∷ load plain (static_of a (codes "t")) (number 7)
    ∷ store plain (static_of a (codes "u")) (number 21)
    ∷ load plain (static_of a (codes "u")) (number 21)
    ∷ []) (gave (number 21))

-- String literals of the same characters are one object (JLS 3.10.5, 15.21.3).
abbrev pub text_of_literals : List ℕ
text_of_literals =
    codes "class A { static int go() { String s = \"ab\"; String t = \"ab\"; "
    ++ codes "if (s == t) return 1; return 0; } }"

abbrev pub Literals : Type 0
Literals = ShowsOnly text_of_literals (go_of a) [] (gave (number 1))

-- A thread is started once; a second start throws (JLS 17.2; java.lang.Thread.start).
abbrev pub text_of_second_start : List ℕ
text_of_second_start =
    codes "class A extends Thread { static int n; public void run() { n = 1; } "
    ++ codes "static int go() { A a = new A(); a.start(); a.start(); return 0; } }"

abbrev pub SecondStart : Type 0
SecondStart = Shows text_of_second_start (go_of a) (
    create an_a
    ∷ start an_a (truth false)
    ∷ start an_a (truth true)
    ∷ []) (threw started_before)

-- `a.f++` is the value before, `a.f += x` loads once more (JLS 15.14.2, 15.26.2).
abbrev pub text_of_bumps : List ℕ
text_of_bumps =
    codes "class A { int f; static int go() { A a = new A(); a.f = 5; "
    ++ codes "int x = a.f++; a.f += x; return a.f; } }"

abbrev pub Bumps : Type 0
Bumps = Shows text_of_bumps (go_of a) (
    create an_a
    ∷ store plain (part_of an_a a (codes "f")) (number 5)
    ∷ load plain (part_of an_a a (codes "f")) (number 5)
    ∷ store plain (part_of an_a a (codes "f")) (number 6)
    ∷ load plain (part_of an_a a (codes "f")) (number 6)
    ∷ store plain (part_of an_a a (codes "f")) (number 11)
    ∷ load plain (part_of an_a a (codes "f")) (number 11)
    ∷ []) (gave (number 11))

-- An object of a superclass is none of the subclass (JLS 15.16).
abbrev pub text_of_failed_cast : List ℕ
text_of_failed_cast =
    codes "class A { } class B extends A { "
    ++ codes "static int go() { A a = new A(); B b = (B) a; return 0; } }"

abbrev pub FailedCast : Type 0
FailedCast = Shows text_of_failed_cast (go_of b) (
    create an_a
    ∷ []) (threw failed_cast)

-- What was stored before a volatile store is there behind the load that sees it (JLS 17.4.5). Here
-- the loop turns twice; under `java` it turns some times more.
abbrev pub text_of_handed_over : List ℕ
text_of_handed_over =
    codes "class A extends Thread { static volatile boolean done; static int n; "
    ++ codes "public void run() { n = 1; done = true; } "
    ++ codes "static int go() { A a = new A(); a.start(); while (!done) { } return n; } }"

abbrev pub by_thread : ℕ → Action RunKeys → Step RunKeys
by_thread i x = record { thread = i; action = x }

abbrev pub run_of_a : Start RunKeys
run_of_a = of_method (record { class = a; name = codes "run"; params = [] }) an_a []

abbrev pub HandedOver : Type 0
HandedOver = ShowsBoth text_of_handed_over (go_of a) run_of_a an_a (
    by_thread 0 (create an_a)
    ∷ by_thread 0 (start an_a (truth false))
    ∷ by_thread 0 (load volatile (static_of a (codes "done")) (truth false))
    ∷ by_thread 1 (store plain (static_of a (codes "n")) (number 1))
    ∷ by_thread 0 (load volatile (static_of a (codes "done")) (truth false))
    ∷ by_thread 1 (store volatile (static_of a (codes "done")) (truth true))
    ∷ by_thread 0 (load volatile (static_of a (codes "done")) (truth true))
    ∷ by_thread 0 (load plain (static_of a (codes "n")) (number 1))
    ∷ [])
    (gave (number 1))
