-- The rows of a small program, for cases of lookup:     class A { int f; static int sf; private int
-- p; void m() {} private void q() {} static class T {} }     class O { static int x; int y; int f;
-- private static int s; void m(int a) {} void n() {} static void g() {}         static class K {}
--       private static class H { private int h; private H(int i) {} }         static class C
-- extends A { int w; } }     class D extends O {}     class Q extends A {}     class M { void b(A
-- a) {} void b(Q q) {} void c(A a, Q q) {} void c(Q q, A a) {} void c(A a, A b) {} void d(int i) {}
--         private void e(Q q) {} void e(A a) {} private void h(int i) {} }
use Rattle.std.specs.Prelude.{ℕ, List, [], ◌∷◌, ◌++◌, Option, Some, None, Bool, false, codes}
use Rattle.jr_ast.specs.declared.operators.ModWord.{ModWord}
use Rattle.jr_ast.specs.declared.operators.ModWord.TheVariants as word
use Rattle.jr_table.specs.Keys.{ClassKey, FieldKey, MethodKey, CtorKey, Ty, int, void, class}
use Rattle.jr_table.specs.Decls.{Decl, class_decl, field_decl, method_decl, constructor_decl}
use Rattle.jr_table.specs.Rows.{Row}
use Rattle.jr_table.specs.Prelude.{prelude_rows, top_key, object_key}

abbrev pub a : ClassKey
a = top_key (codes "A")

abbrev pub o : ClassKey
o = top_key (codes "O")

abbrev pub d : ClassKey
d = top_key (codes "D")

abbrev pub q : ClassKey
q = top_key (codes "Q")

abbrev pub m : ClassKey
m = top_key (codes "M")

-- a member class of O
abbrev pub inner : List ℕ → ClassKey
inner name = record { outer = Some (codes "O"); name = name }

abbrev pub t : ClassKey
t = record { outer = Some (codes "A"); name = codes "T" }

abbrev pub c : ClassKey
c = inner (codes "C")

abbrev pub h : ClassKey
h = inner (codes "H")

abbrev pub k : ClassKey
k = inner (codes "K")

-- declarations
abbrev pub field_of : ClassKey → List ℕ → Decl
field_of of name = field_decl (record { class = of; name = name })

abbrev pub method_of : ClassKey → List ℕ → List Ty → Decl
method_of of name params = method_decl (record { class = of; name = name; params = params })

abbrev pub ctor_of : ClassKey → List Ty → Decl
ctor_of of params = constructor_decl (record { class = of; params = params })

-- rows
abbrev pub class_at : List ModWord → ClassKey → ClassKey → Row
class_at words of parent = record {
  decl = class_decl of;
  modifiers = words;
  type = None;
  parent =
      Some parent;
  has_init = false;
}

-- a field of type int
abbrev pub field_at : List ModWord → ClassKey → List ℕ → Row
field_at words of name = record {
  decl = field_of of name;
  modifiers = words;
  type = Some int;
  parent = None;
  has_init = false;
}

-- a method without result
abbrev pub method_at : List ModWord → ClassKey → List ℕ → List Ty → Row
method_at words of name params = record {
  decl = method_of of name params;
  modifiers = words;
  type =
      Some void;
  parent = None;
  has_init = false;
}

abbrev pub ctor_at : List ModWord → ClassKey → List Ty → Row
ctor_at words of params = record {
  decl = ctor_of of params;
  modifiers = words;
  type = None;
  parent = None;
  has_init = false;
}

abbrev pub a_rows : List Row
a_rows =
    class_at [] a object_key
    ∷ ctor_at [] a []
    ∷ field_at [] a (codes "f")
    ∷ field_at (word.Static ∷ []) a (codes "sf")
    ∷ field_at (word.Private ∷ []) a (codes "p")
    ∷ method_at [] a (codes "m") []
    ∷ method_at (word.Private ∷ []) a (codes "q") []
    ∷ class_at (word.Static ∷ []) t object_key
    ∷ ctor_at [] t []
    ∷ []

abbrev pub o_rows : List Row
o_rows =
    class_at [] o object_key
    ∷ ctor_at [] o []
    ∷ field_at (word.Static ∷ []) o (codes "x")
    ∷ field_at [] o (codes "y")
    ∷ field_at [] o (codes "f")
    ∷ field_at (word.Private ∷ word.Static ∷ []) o (codes "s")
    ∷ method_at [] o (codes "m") (int ∷ [])
    ∷ method_at [] o (codes "n") []
    ∷ method_at (word.Static ∷ []) o (codes "g") []
    ∷ []

abbrev pub inner_rows : List Row
inner_rows =
    class_at (word.Static ∷ []) k object_key
    ∷ ctor_at [] k []
    ∷ class_at (word.Private ∷ word.Static ∷ []) h object_key
    ∷ field_at (word.Private ∷ []) h (codes "h")
    ∷ ctor_at (word.Private ∷ []) h (int ∷ [])
    ∷ class_at (word.Static ∷ []) c a
    ∷ ctor_at [] c []
    ∷ field_at [] c (codes "w")
    ∷ class_at [] d o
    ∷ ctor_at [] d []
    ∷ class_at [] q a
    ∷ ctor_at [] q []
    ∷ []

abbrev pub m_rows : List Row
m_rows =
    class_at [] m object_key
    ∷ ctor_at [] m []
    ∷ method_at [] m (codes "b") (class a ∷ [])
    ∷ method_at [] m (codes "b") (class q ∷ [])
    ∷ method_at [] m (codes "c") (class a ∷ class q ∷ [])
    ∷ method_at [] m (codes "c") (class q ∷ class a ∷ [])
    ∷ method_at [] m (codes "c") (class a ∷ class a ∷ [])
    ∷ method_at [] m (codes "d") (int ∷ [])
    ∷ method_at (word.Private ∷ []) m (codes "e") (class q ∷ [])
    ∷ method_at [] m (codes "e") (class a ∷ [])
    ∷ method_at (word.Private ∷ []) m (codes "h") (int ∷ [])
    ∷ []

abbrev pub own_rows : List Row
own_rows = a_rows ++ (o_rows ++ (inner_rows ++ m_rows))

abbrev pub lookup_rows : List Row
lookup_rows = prelude_rows ++ own_rows
