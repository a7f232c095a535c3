-- The first local or parameter with which a new name collides, as one walk over a member finds it:
-- exact.
use Rattle.std.specs.Prelude.{
  ℕ,
  suc,
  ◌==◌,
  ◌++◌,
  ◌&&◌,
  ◌||◌,
  not,
  nat_lt,
  List,
  [],
  ◌∷◌,
  map,
  take,
  length,
  Option,
  Some,
  None,
  Bool,
  false,
  if◌then◌else◌,
}
use Rattle.std.specs.List.{list_any}
use Rattle.jr_ast.specs.StatementTree as statement
use Rattle.jr_ast.specs.MemberTree as syntax
use Rattle.jr_table.specs.Decls.{MemberKey}
use Rattle.jr_table.specs.HeadRules.{types_of}
use Rattle.jr_table.specs.SameKeys.{same_name}
use Rattle.jr_rename.specs.declared.walks.Asked as raw_asked
use Rattle.jr_rename.specs.declared.walks.Held as raw_held
use Rattle.jr_rename.specs.declared.walks.Walk as raw_walk

-- the local of the number is to get the name
pub record Asked : Type 0 where
  pub number : ℕ
  pub name : List ℕ

-- a local or parameter in scope
pub record Held : Type 0 where
  pub number : ℕ
  pub name : List ℕ

-- what a walk knows: those in scope, the number of the next one, whether the local has the name
-- already, and the least number of one that it would meet
pub record Walk : Type 0 where
  pub scope : List Held
  pub next : ℕ
  pub is_named : Bool
  pub least : Option ℕ

abbrev pub asked_of : raw_asked.Asked → Asked
asked_of a = record { number = a.number; name = a.name.now }

abbrev pub held_of : raw_held.Held → Held
held_of h = record { number = h.number; name = h.name.now }

abbrev pub walk_of : raw_walk.Walk → Walk
walk_of w = record {
  scope = map held_of w.scope.items;
  next = w.next;
  is_named = w.is_named;
  least = w.least;
}

-- ---- numbers

abbrev pub least_of : Option ℕ → Option ℕ → Option ℕ
least_of None o = o
least_of (Some m) None = Some m
least_of (Some m) (Some n) = if nat_lt n m then Some n else Some m

abbrev pub if_so : Bool → ℕ → Option ℕ
if_so b n = if b then Some n else None

-- ---- what is met where a local is declared

abbrev pub is_met : Asked → Held → Bool
is_met a h = same_name h.name a.name && not (h.number == a.number)

-- the least of those in scope that have the name, but for the local itself
abbrev pub named_in : Asked → Option ℕ → List Held → Option ℕ
named_in a o [] = o
named_in a o (h ∷ hs) = named_in a (least_of o (if_so (is_met a h) h.number)) hs

abbrev pub has_number : ℕ → List Held → Bool
has_number k hs = list_any (λ (h : Held). h.number == k) hs

-- one in scope where the local is declared, or one that is declared in the local's scope
abbrev pub met : Asked → List Held → (number : ℕ) → (name : List ℕ) → Option ℕ
met a scope n name = if n == a.number then named_in a None scope
    else if_so (same_name name a.name && has_number a.number scope) n

-- whether the local itself is declared with the name
abbrev pub is_declared : Asked → (number : ℕ) → (name : List ℕ) → Bool
is_declared a n name = n == a.number && same_name name a.name

-- ---- the walk

abbrev pub start : Walk
start = record { scope = []; next = 0; is_named = false; least = None }

abbrev pub in_scope : Walk → (name : List ℕ) → List Held
in_scope w name = w.scope ++ record { number = w.next; name = name } ∷ []

-- behind a local's declaration
abbrev pub declare : Asked → Walk → (name : List ℕ) → Walk
declare a w name = record {
  scope = in_scope w name;
  next = suc w.next;
  is_named = w.is_named || is_declared a w.next name;
  least = least_of w.least (met a w.scope w.next name);
}

-- what a parameter meets, where the local is a parameter
abbrev pub met_param : Asked → (is_param : Bool) → (number : ℕ) → (name : List ℕ) → Option ℕ
met_param a is_param n name = if_so (is_param && is_met a (record { number = n; name = name })) n

-- behind a parameter; those that have a type are in scope
abbrev pub declare_param : Asked → (is_param : Bool) → (types : ℕ) → Walk → (name : List ℕ) → Walk
declare_param a is_param types w name = record {
  scope = if nat_lt w.next types then in_scope w name else w.scope;
  next = suc w.next;
  is_named = w.is_named || is_declared a w.next name;
  least = least_of w.least (met_param a is_param w.next name);
}

-- what is declared behind the old walk is gone again
abbrev pub restored : Walk → Walk → Walk
restored w v = record {
  scope = take (length w.scope) v.scope;
  next = v.next;
  is_named = v.is_named;
  least = v.least;
}

module _ {A : Type 0} where
  abbrev pub in_params : Asked → (is_param : Bool) → (types : ℕ) → Walk → List (syntax.Param A)
      → Walk
  in_params a is_param types w [] = w
  in_params a is_param types w (p ∷ ps) =
      in_params a is_param types (declare_param a is_param types w p.name.text) ps

  unfoldable mutual
    pub in_stmt : Asked → Walk → statement.Stmt A → Walk
    in_stmt a w (statement.local m f t i e) = declare a w i.text
    in_stmt a w (statement.eval m e) = w
    in_stmt a w (statement.branch m e x other) = in_else a (restored w (in_stmt a w x)) other
    in_stmt a w (statement.loop m e x) = restored w (in_stmt a w x)
    in_stmt a w (statement.return m e) = w
    in_stmt a w (statement.block m body) = restored w (in_stmts a w body)
    in_stmt a w (statement.sync m e body) = restored w (in_stmts a w body)
    in_stmt a w (statement.empty m) = w

    pub in_else : Asked → Walk → statement.Else A → Walk
    in_else a w statement.no_else = w
    in_else a w (statement.otherwise x) = restored w (in_stmt a w x)

    pub in_stmts : Asked → Walk → statement.Stmts A → Walk
    in_stmts a w statement.end = w
    in_stmts a w (statement.more x xs) = in_stmts a (in_stmt a w x) xs

  -- the parameters of a member, of which so many have types, and then its body
  abbrev pub in_code : Asked → (types : ℕ) → List (syntax.Param A) → statement.Stmts A → Walk
  in_code a types ps body =
      in_stmts a (in_params a (nat_lt a.number (length ps)) types start ps) body

  abbrev pub in_member : Asked → MemberKey → syntax.Member A → Walk
  in_member a k (syntax.field m mods t w init) = start
  in_member a k (syntax.method m mods t w ps body) = in_code a (length (types_of k)) ps body
  in_member a k (syntax.constructor m mods w ps args body) =
      in_code a (length (types_of k)) ps body
  in_member a k (syntax.inner m of) = start
