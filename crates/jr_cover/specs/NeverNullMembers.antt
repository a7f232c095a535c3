-- What is never null in a member gives no null in its runs: the locals of a member, by its trees,
-- and the laws.
use Rattle.std.specs.Prelude.{◌≡◌, ◌⊎◌, ◌<◌, ℕ, Bool, true, List, [], ◌∷◌, Option, Some, None}
use Rattle.jr_ast.specs.Tree as tree
use Rattle.jr_ast.specs.Tree.{Word}
use Rattle.jr_ast.specs.StatementTree as statement
use Rattle.jr_ast.specs.MemberTree.{Modifier, Param}
use Rattle.jr_runs.specs.Keys.{Keys, keys_of}
use Rattle.jr_runs.specs.Values.{Value, null, Ty}
use Rattle.jr_cover.specs.Facts.{Facts, Created}
use Rattle.jr_runs.specs.Core.{Exp, Stmt, Code, Program}
use Rattle.jr_cover.specs.Translation.{exp_code, mark_of_type}
use Rattle.jr_cover.specs.MemberTranslation.{method_code, Parent, constructor_code}
use Rattle.jr_runs.specs.Evaluation.{first_locals, exp}
use Rattle.jr_runs.specs.Starting.{IsReceiver, ArgsFit}
use Rattle.jr_runs.specs.Typing.{SoundRows, CodeTyped}
use Rattle.jr_cover.specs.Ways.{Way, sites_of}
use Rattle.jr_cover.specs.Sites.{writes, Site, Known, exp_way, exps_way}
use Rattle.jr_cover.specs.Covering.{site_at}
use Rattle.jr_cover.specs.Evaluated.{an_exp, a_list, Gives, Evaluated}
use Rattle.jr_cover.specs.NeverNull.{CarefulStmt}
use Rattle.jr_cover.specs.NeverNullTrees.{NeverNull}

-- ---- the locals of a member

-- some site of an expression writes the local
abbrev pub WrittenIn : {K : Keys} → ℕ → Way (Site K) → Type 0
WrittenIn {K = K} n w = (i : ℕ) × (s : Site K) × (site_at (sites_of w) i ≡ Some s)
    × (s.what ≡ writes n)

abbrev pub ExpAssigns : {K : Keys} {A : Type 0} → Known K A → ℕ → tree.Exp A → Type 0
ExpAssigns X n e = WrittenIn n (exp_way X e)

abbrev pub MaybeAssigns : {K : Keys} {A : Type 0} → Known K A → ℕ → Option (tree.Exp A) → Type 0
MaybeAssigns X n None = ⊥
MaybeAssigns X n (Some e) = ExpAssigns X n e

abbrev pub ArgsAssign : {K : Keys} {A : Type 0} → Known K A → ℕ → Option (tree.Exps A) → Type 0
ArgsAssign X n None = ⊥
ArgsAssign X n (Some es) = WrittenIn n (exps_way X es)

-- by an assignment, `op=` or bump in it; a declaration is none
abbrev mutual
  pub StmtAssigns : {K : Keys} {A : Type 0} → Known K A → ℕ → statement.Stmt A → Type 0
  StmtAssigns X n (statement.local a is_final t w e) = ExpAssigns X n e
  StmtAssigns X n (statement.eval a e) = ExpAssigns X n e
  StmtAssigns X n (statement.branch a c s o) =
      ExpAssigns X n c ⊎ StmtAssigns X n s ⊎ ElseAssigns X n o
  StmtAssigns X n (statement.loop a c s) = ExpAssigns X n c ⊎ StmtAssigns X n s
  StmtAssigns X n (statement.return a v) = MaybeAssigns X n v
  StmtAssigns X n (statement.block a b) = StmtsAssign X n b
  StmtAssigns X n (statement.sync a e b) = ExpAssigns X n e ⊎ StmtsAssign X n b
  StmtAssigns X n (statement.empty a) = ⊥

  pub ElseAssigns : {K : Keys} {A : Type 0} → Known K A → ℕ → statement.Else A → Type 0
  ElseAssigns X n statement.no_else = ⊥
  ElseAssigns X n (statement.otherwise s) = StmtAssigns X n s

  pub StmtsAssign : {K : Keys} {A : Type 0} → Known K A → ℕ → statement.Stmts A → Type 0
  StmtsAssign X n statement.end = ⊥
  StmtsAssign X n (statement.more s b) = StmtAssigns X n s ⊎ StmtsAssign X n b

-- a statement in it declares the local, with this initializer
abbrev mutual
  pub StmtDeclares : {K : Keys} {A : Type 0} → Facts K A → ℕ → tree.Exp A → statement.Stmt A
      → Type 0
  StmtDeclares F n init (statement.local a is_final t w e) = (F.number w.mark ≡ n) × (e ≡ init)
  StmtDeclares F n init (statement.eval a e) = ⊥
  StmtDeclares F n init (statement.branch a c s o) =
      StmtDeclares F n init s ⊎ ElseDeclares F n init o
  StmtDeclares F n init (statement.loop a c s) = StmtDeclares F n init s
  StmtDeclares F n init (statement.return a v) = ⊥
  StmtDeclares F n init (statement.block a b) = StmtsDeclare F n init b
  StmtDeclares F n init (statement.sync a e b) = StmtsDeclare F n init b
  StmtDeclares F n init (statement.empty a) = ⊥

  pub ElseDeclares : {K : Keys} {A : Type 0} → Facts K A → ℕ → tree.Exp A → statement.Else A
      → Type 0
  ElseDeclares F n init statement.no_else = ⊥
  ElseDeclares F n init (statement.otherwise s) = StmtDeclares F n init s

  pub StmtsDeclare : {K : Keys} {A : Type 0} → Facts K A → ℕ → tree.Exp A → statement.Stmts A
      → Type 0
  StmtsDeclare F n init statement.end = ⊥
  StmtsDeclare F n init (statement.more s b) =
      StmtDeclares F n init s ⊎ StmtsDeclare F n init b

-- A `new` or a class literal is bound, as in a sound program each is. What isn't bound has the code
-- of null.
abbrev pub IsBound : {K : Keys} {A : Type 0} → Facts K A → tree.Exp A → Type 0
IsBound {K = K} F (tree.create a t es) = (k : Created K) × (F.created a ≡ Some k)
IsBound {K = K} F (tree.class_literal a t) = (c : K.class) × (F.class (mark_of_type t) ≡ Some c)
IsBound F (tree.paren a e) = IsBound F e
IsBound F (tree.number a n) = Unit {0}
IsBound F (tree.truth a b) = Unit {0}
IsBound F (tree.null a) = Unit {0}
IsBound F (tree.string a s) = Unit {0}
IsBound F (tree.name a w) = Unit {0}
IsBound F (tree.field a e w) = Unit {0}
IsBound F (tree.super_field a w) = Unit {0}
IsBound F (tree.this a) = Unit {0}
IsBound F (tree.call a t w es) = Unit {0}
IsBound F (tree.super_call a w es) = Unit {0}
IsBound F (tree.cast a t e) = Unit {0}
IsBound F (tree.unary a op e) = Unit {0}
IsBound F (tree.bump a op t) = Unit {0}
IsBound F (tree.binary a op l r) = Unit {0}
IsBound F (tree.assign a t e) = Unit {0}
IsBound F (tree.compound a op t e) = Unit {0}

-- init and is_assigned tell of the locals of a member what its trees do; args: those of `super(..)`
pub record LocalsAre {K : Keys} {A : Type 0} (X : Known K A) (init : ℕ → Option (tree.Exp A))
    (is_assigned : ℕ → Bool) (params : ℕ) (args : Option (tree.Exps A))
    (body : statement.Stmts A) : Type 0 where
  pub declares : (n : ℕ) (e : tree.Exp A) → StmtsDeclare X.facts n e body → init n ≡ Some e
  pub assigns : (n : ℕ) → ArgsAssign X n args ⊎ StmtsAssign X n body → is_assigned n ≡ true
  pub parameters : (n : ℕ) → n < params → init n ≡ None
  pub bound : (n : ℕ) (e : tree.Exp A) → init n ≡ Some e → IsBound X.facts e

abbrev pub AllCareful : {K : Keys} → (ℕ → Bool) → List (Stmt K) → Type 0
AllCareful N [] = Unit {0}
AllCareful N (s ∷ ss) = CarefulStmt N s × AllCareful N ss

-- The code is that of a method or constructor with these trees. The field initializers in it write
-- no locals.
pub data HasBody {K : Keys} {A : Type 0} (F : Facts K A) (args : Option (tree.Exps A))
    (body : statement.Stmts A) (c : Code K) : Type 0 where
  of_method : (class : K.class) (a : A) (modifiers : List (Modifier A)) (name : Word A)
      (params : List (Param A)) → c ≡ method_code F class a modifiers name params body
      → HasBody F args body c
  of_constructor : (p : Parent K) (fields : List (Stmt K)) (params : List (Param A))
      → ((N : ℕ → Bool) → AllCareful N fields)
      → c ≡ constructor_code F p fields params args body → HasBody F args body c

-- ---- the laws

-- in no run of the code on this receiver with these arguments the expression comes to null
abbrev pub ComesToNoNull : {K : Keys} → Program K → (me : Value K) → Code K → List (Value K)
    → Exp K → Type 0
ComesToNoNull {K = K} P me c args e = (l m : List (Value K)) (v : Value K)
    → Evaluated P me (a_list c.body (first_locals c.params args)) (an_exp e l)
    → Gives P me (exp P.rows me e l) (v, m) → v ≡ null → ⊥

-- in a method or constructor
abbrev pub NeverNullGivesNoNull : (C F M N L A : Type 0) → Type 0
NeverNullGivesNoNull C F M N L A = (P : Program (keys_of C F M N L)) → SoundRows P.rows
    → (X : Known (keys_of C F M N L) A) (init : ℕ → Option (tree.Exp A)) (is_assigned : ℕ → Bool)
    (args : Option (tree.Exps A)) (body : statement.Stmts A) (c : Code (keys_of C F M N L))
    → HasBody X.facts args body c → LocalsAre X init is_assigned c.params args body
    → (class : Option C) (params : List (Ty (keys_of C F M N L)))
    (result : Option (Ty (keys_of C F M N L))) → CodeTyped P.rows class params result c
    → (e : tree.Exp A) → NeverNull X.facts init is_assigned e → IsBound X.facts e
    → (me : Value (keys_of C F M N L)) (vs : List (Value (keys_of C F M N L)))
    → IsReceiver P.rows class me → ArgsFit P.rows params vs
    → ComesToNoNull P me c vs (exp_code X.facts e)

-- in a field's initializer, which has no locals: wherever it is run
abbrev pub NeverNullInitializersGiveNoNull : (C F M N L A : Type 0) → Type 0
NeverNullInitializersGiveNoNull C F M N L A = (P : Program (keys_of C F M N L))
    → SoundRows P.rows → (facts : Facts (keys_of C F M N L) A) (is_assigned : ℕ → Bool)
    (c : Code (keys_of C F M N L)) (class : Option C) (params : List (Ty (keys_of C F M N L)))
    (result : Option (Ty (keys_of C F M N L))) → CodeTyped P.rows class params result c
    → (e : tree.Exp A) → NeverNull facts (λ n. None) is_assigned e → IsBound facts e
    → (me : Value (keys_of C F M N L)) (vs : List (Value (keys_of C F M N L)))
    → IsReceiver P.rows class me → ArgsFit P.rows params vs
    → ComesToNoNull P me c vs (exp_code facts e)
