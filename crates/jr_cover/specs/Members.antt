-- A program that has a member, and the law of its actions.
use Rattle.std.specs.Prelude.{◌≡◌, ℕ, Bool, true, false, List, Option, Some, None, IsTrue}
use Rattle.jr_ast.specs.Tree as tree
use Rattle.jr_ast.specs.Tree.{Word}
use Rattle.jr_ast.specs.StatementTree as statement
use Rattle.jr_ast.specs.MemberTree as member
use Rattle.jr_ast.specs.MemberTree.{Modifier, Param, Member}
use Rattle.jr_runs.specs.Keys.{Keys, keys_of}
use Rattle.jr_runs.specs.Values.{Value}
use Rattle.jr_runs.specs.Core as core
use Rattle.jr_runs.specs.Core.{Exp, Stmt, Stmts, Code, Method, written, starts, Program}
use Rattle.jr_runs.specs.MemberTranslation.{in_front}
use Rattle.jr_cover.specs.MemberTranslation.{
  is_static,
  method_code,
  initializer_code,
  Parent,
  constructor_code,
}
use Rattle.jr_runs.specs.Running.{Start, run_of}
use Rattle.jr_cover.specs.Ways.{Way, pass, row}
use Rattle.jr_cover.specs.Sites.{
  What,
  Site,
  at_place,
  Known,
  exp_way,
  exps_way,
  stmts_way,
  method_way,
}
use Rattle.jr_cover.specs.Covering.{FollowEdges}
use Rattle.jr_cover.specs.Dependences.{Cover}
use Rattle.jr_cover.specs.Elsewhere.{StmtOutside, StmtsOutside, EachOutside}

-- `super(..)`, written or implicit, and the body; the initializers between them are members of
-- their own
abbrev pub super_way : {K : Keys} {A : Type 0} → Known K A → Option (tree.Exps A) → Way (Site K)
super_way X None = pass
super_way X (Some es) = exps_way X es

abbrev pub constructor_way : {K : Keys} {A : Type 0} → Known K A → (called : K.place)
    → Option (tree.Exps A) → statement.Stmts A → Way (Site K)
constructor_way X p args body =
    row (row (super_way X args) (at_place p What.calls)) (stmts_way X body)

-- an instance field's initializer, and the store
abbrev pub initializer_way : {K : Keys} {A : Type 0} → Known K A → K.field → Word A → tree.Exp A
    → Way (Site K)
initializer_way X f name e = row (exp_way X e) (at_place (X.facts.first name.mark) (What.stores f))

-- A field: the sites of its initializer, and of an instance field's the store behind them. Without an
-- initializer there is no site.
abbrev pub field_way : {K : Keys} {A : Type 0} → Known K A → (is_shared : Bool) → K.field → Word A
    → Option (tree.Exp A) → Way (Site K)
field_way X is_shared f name None = pass
field_way X true f name (Some e) = exp_way X e
field_way X false f name (Some e) = initializer_way X f name e

-- Any member, by its mark: the key of a field, and where a constructor's `super(..)` stands. A member
-- class has members of its own.
abbrev pub member_way : {K : Keys} {A : Type 0} → Known K A → (field : A → K.field)
    → (called : A → K.place) → Member A → Way (Site K)
member_way X field called (member.field a modifiers t name init) =
    field_way X (is_static modifiers) (field a) name init
member_way X field called (member.method a modifiers result name params body) =
    method_way X a modifiers name body
member_way X field called (member.constructor a modifiers name params args body) =
    constructor_way X (called a) args body
member_way X field called (member.inner a c) = pass

-- what a method or constructor has to do with the member: its code is the member's, or holds it as
-- a field's initializer, or stands outside
module _ {K : Keys} {A : Type 0} (X : Known K A) (Outside : K.place → Type 0) where
  pub data IsOf (c : Code K) (w : Way (Site K)) : Type 0 where
    outside : StmtsOutside K Outside c.body → IsOf c w
    of_method : (class : K.class) (a : A) (modifiers : List (Modifier A)) (name : Word A)
        (params : List (Param A)) (body : statement.Stmts A)
        → c ≡ method_code X.facts class a modifiers name params body
        → w ≡ method_way X a modifiers name body → IsOf c w
    of_constructor : (p : Parent K) (called : K.place) (fields : List (Stmt K))
        (params : List (Param A)) (args : Option (tree.Exps A)) (body : statement.Stmts A)
        → p.at ≡ Some called → EachOutside K Outside fields
        → c ≡ constructor_code X.facts p fields params args body
        → w ≡ constructor_way X called args body → IsOf c w
    of_field : (before after : List (Stmt K)) (first : Stmt K) (f : K.field) (name : Word A)
        (e : tree.Exp A) (rest : Stmts K) → StmtOutside K Outside first
        → EachOutside K Outside before → EachOutside K Outside after → StmtsOutside K Outside rest
        → c.body ≡ core.Stmts.more first (in_front before
        (core.Stmts.more (initializer_code X.facts f name e) (in_front after rest)))
        → w ≡ initializer_way X f name e → IsOf c w

  abbrev pub MethodIsOf : Method K → Way (Site K) → Type 0
  MethodIsOf (written c) w = IsOf c w
  MethodIsOf starts w = Unit {0}

  -- the program has the member, whose sites are these
  pub record HasMember (P : Program K) (w : Way (Site K)) : Type 0 where
    pub methods : (m : K.method) → MethodIsOf (P.method m) w
    pub constructors : (k : K.constructor) → IsOf (P.constructor k) w

-- In each run of a program that has the member, the actions that stand in it follow its edges.
abbrev pub ActionsFollowEdges : (C F M N L A : Type 0) → Type 0
ActionsFollowEdges C F M N L A = (X : Known (keys_of C F M N L) A) (is_outside : L → Bool)
    (w : Way (Site (keys_of C F M N L))) (P : Program (keys_of C F M N L))
    → HasMember X (λ p. IsTrue (is_outside p)) P w
    → (c : Start (keys_of C F M N L)) (answers : List (Value (keys_of C F M N L))) (fuel : ℕ)
    → FollowEdges P.rows (λ p. IsTrue (is_outside p)) w (run_of P c answers fuel).trace

-- And those that may not change places depend on one another.
abbrev pub ActionsAreCovered : (C F M N L A : Type 0) → Type 0
ActionsAreCovered C F M N L A = (X : Known (keys_of C F M N L) A) (is_outside : L → Bool)
    (w : Way (Site (keys_of C F M N L))) (P : Program (keys_of C F M N L))
    → HasMember X (λ p. IsTrue (is_outside p)) P w
    → (c : Start (keys_of C F M N L)) (answers : List (Value (keys_of C F M N L))) (fuel : ℕ)
    → Cover P.rows (λ p. IsTrue (is_outside p)) w (run_of P c answers fuel).trace
