-- What is asked of choices and spots so that a part of a program stays as it was: that `stays` may
-- be chosen for each of its words, and that no spot has to be used in it.
use Rattle.std.specs.Prelude.{◌≡◌, ℕ, Some, None, Bool}
use Rattle.jr_ast.specs.Tree as tree
use Rattle.jr_ast.specs.StatementTree as statement
use Rattle.jr_table.specs.Decls.{local_decl}
use Rattle.jr_table.specs.Binding.{Role}
use Rattle.jr_table.specs.Context.{Context, local_of, local_key, in_own, with_local}
use Rattle.jr_rewrite.specs.Respellings.{Choice, stays}
use Rattle.jr_rewrite.specs.Rewritten.{Rewritten}
use Rattle.jr_rewrite.specs.Spots.{Asks, Spotted, nowhere, spotted}
use Rattle.jr_rewrite.specs.Rewrites.{Choosing}
use Rattle.jr_kept_references.specs.StatementsAlong.{ListStays}
use Rattle.jr_new_bodies.specs.Effects.{no_effect, effect_of}

-- ---- effects

-- the same changes, count and losses
abbrev pub HasEffectOf : {T U : Type 0} → Rewritten U → Rewritten T → Type 0
HasEffectOf q o = effect_of o ≡ effect_of q

-- nothing changes, is respelled or is lost
abbrev pub IsUntouched : {T : Type 0} → Rewritten T → Type 0
IsUntouched o = effect_of o ≡ no_effect

-- ---- words

module _ {A : Type 0} where
  -- the names of a written type, by what may be chosen for that in front of its dot and for its own
  abbrev pub TypeMayStay : (Qualifier Name : Choice → Type 0) → tree.TypeName A → Type 0
  TypeMayStay Q N (tree.int m) = Unit {0}
  TypeMayStay Q N (tree.boolean m) = Unit {0}
  TypeMayStay Q N (tree.named m None w) = N stays
  TypeMayStay Q N (tree.named m (Some v) w) = Q stays × N stays

  module _ (begins : A → ℕ → ℕ) (C : Choosing A) where
    abbrev pub WrittenMayStay : Context → (base : ℕ) → tree.TypeName A → Type 0
    WrittenMayStay c base t = TypeMayStay (C.qualifier c base t) (C.type c base t) t

    -- the words of an expression itself
    abbrev pub ItselfMayStay : Context → Role → (base : ℕ) → tree.Exp A → Type 0
    ItselfMayStay c r base (tree.name m w) = C.expression c r base (tree.name m w) stays
    ItselfMayStay c r base (tree.field m e w) = C.expression c r base (tree.field m e w) stays
    ItselfMayStay c r base (tree.super_field m w) =
        C.expression c r base (tree.super_field m w) stays
    ItselfMayStay c r base (tree.call m to w args) =
        C.expression c r base (tree.call m to w args) stays
    ItselfMayStay c r base (tree.super_call m w args) =
        C.expression c r base (tree.super_call m w args) stays
    ItselfMayStay c r base (tree.create m t args) =
        C.creation c base (tree.create m t args) stays × WrittenMayStay c (begins m base) t
    ItselfMayStay c r base (tree.class_literal m t) = WrittenMayStay c (begins m base) t
    ItselfMayStay c r base (tree.cast m t e) = WrittenMayStay c (begins m base) t
    ItselfMayStay c r base _ = Unit {0}

-- ---- spots

-- an expression, and `this`, may be rewritten node by node; of lists, members and classes
-- `jr_kept_references` says the same
abbrev pub PartStays : {A : Type 0} → Spotted A → Asks → Context → Role → (base : ℕ) → tree.Exp A
    → Type 0
PartStays nowhere k c r base e = Unit {0}
PartStays (spotted s) k c r base e = s.part_stays k c r base e

abbrev pub ThisStays : {A : Type 0} → Spotted A → Type 0
ThisStays nowhere = Unit {0}
ThisStays (spotted s) = s.this_stays

-- ---- what is known beside

-- What is known of places, of the numbers of locals that are declared there, of statements, and of
-- lists of statements.
pub record Beside (A : Type 0) : Type 1 where
  pub Here : Context → Type 0
  pub Declares : (number : ℕ) → Type 0
  pub Single : statement.Stmt A → Type 0
  pub Lists : statement.Stmts A → Type 0

-- It goes down: into the initializer of a local and behind its declaration, and from a statement to
-- its parts.
pub record GoesDown {A : Type 0} (K : Beside A) : Type 0 where
  pub to_own : (c : Context) (n : ℕ) (f : Bool) (t : tree.TypeName A) (w : tree.Word A) → K.Here c
      → K.Declares n → K.Here (in_own c (local_of c n f t w))
  pub to_behind : (c : Context) (n : ℕ) (f : Bool) (t : tree.TypeName A) (w : tree.Word A)
      → K.Here c → K.Declares n → K.Here (with_local c (local_of c n f t w))
  pub to_then : (m : A) (e : tree.Exp A) (x : statement.Stmt A) (o : statement.Else A)
      → K.Single (statement.branch m e x o) → K.Single x
  pub to_other : (m : A) (e : tree.Exp A) (x y : statement.Stmt A)
      → K.Single (statement.branch m e x (statement.otherwise y)) → K.Single y
  pub to_body : (m : A) (e : tree.Exp A) (x : statement.Stmt A)
      → K.Single (statement.loop m e x) → K.Single x
  pub to_block : (m : A) (b : statement.Stmts A) → K.Single (statement.block m b) → K.Lists b
  pub to_lock : (m : A) (e : tree.Exp A) (b : statement.Stmts A)
      → K.Single (statement.sync m e b) → K.Lists b
  pub to_first : (x : statement.Stmt A) (xs : statement.Stmts A)
      → K.Lists (statement.more x xs) → K.Single x
  pub to_rest : (x : statement.Stmt A) (xs : statement.Stmts A)
      → K.Lists (statement.more x xs) → K.Lists xs

-- Where nothing is broken, of these properties of expressions, statements and lists, each word may
-- stay; and no expression and no list that is known so has to be used as a spot.
module _ {A I : Type 0} (begins : A → ℕ → ℕ) (C : Choosing A) (S : Spotted A)
    (OnExp : I → Context → Role → (base : ℕ) → tree.Exp A → Type 0)
    (OnStmt : I → (number : ℕ) → Context → (base : ℕ) → statement.Stmt A → Type 0) where
  pub record MayStay (K : Beside A) : Type 0 where
    pub own_words : (c : Context) (r : Role) (base : ℕ) (e : tree.Exp A) → K.Here c
        → ((i : I) → OnExp i c r base e → ⊥) → ItselfMayStay begins C c r base e
    pub written : (n : ℕ) (c : Context) (base : ℕ) (m : A) (f : Bool) (t : tree.TypeName A)
        (w : tree.Word A) (e : tree.Exp A) → K.Here c
        → ((i : I) → OnStmt i n c base (statement.local m f t w e) → ⊥)
        → WrittenMayStay begins C c (begins m base) t
    pub declared : (c : Context) (n : ℕ) (w : tree.Word A) → K.Here c → K.Declares n
        → C.declared (local_decl (local_key c n)) w stays
    pub part : (k : Asks) (c : Context) (r : Role) (base : ℕ) (e : tree.Exp A) → K.Here c
        → PartStays S k c r base e
    pub list : (n : ℕ) (c : Context) (base : ℕ) (xs : statement.Stmts A) → K.Here c → K.Lists xs
        → ListStays S n c base xs
    pub this : ThisStays S
