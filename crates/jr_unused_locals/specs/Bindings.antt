-- Code in which each name means something, each static member stands behind a class or by its
-- simple name, and each instance member doesn't stand behind one (JLS 6.5, 15.11, 15.12, 15.16).
-- Code of which this doesn't hold does less than its sites say.
use Rattle.std.specs.Prelude.{Bool, true, false, Option, Some, None}
use Rattle.jr_ast.specs.Tree as tree
use Rattle.jr_ast.specs.StatementTree as statement
use Rattle.jr_runs.specs.Keys.{Keys}
use Rattle.jr_cover.specs.Facts.{Variable, is_local, is_static_field, is_instance_field, Called, is_static_method, is_instance_method}
use Rattle.jr_runs.specs.Translation.{arithmetic_of}
use Rattle.jr_cover.specs.Translation.{mark_of_type}
use Rattle.jr_cover.specs.Sites.{Known, is_class_name}

abbrev pub IsThere : {T : Type 0} → Option T → Type 0
IsThere None = ⊥
IsThere (Some t) = Unit {0}

-- what is said of an operand, unless it is a class
abbrev pub UnlessClass : Bool → Type 0 → Type 0
UnlessClass true T = Unit {0}
UnlessClass false T = T

-- behind a dot: is the left part a class, and what the word means
abbrev pub FieldBinds : {K : Keys} → (is_class : Bool) → Option (Variable K) → Type 0
FieldBinds true None = ⊥
FieldBinds false None = ⊥
FieldBinds true (Some (is_local n)) = ⊥
FieldBinds false (Some (is_local n)) = ⊥
FieldBinds true (Some (is_static_field f)) = Unit {0}
FieldBinds false (Some (is_static_field f)) = ⊥
FieldBinds true (Some (is_instance_field f)) = ⊥
FieldBinds false (Some (is_instance_field f)) = Unit {0}

abbrev pub CallBinds : {K : Keys} → (is_class : Bool) → Option (Called K) → Type 0
CallBinds true None = ⊥
CallBinds false None = ⊥
CallBinds true (Some (is_static_method m)) = Unit {0}
CallBinds false (Some (is_static_method m)) = ⊥
CallBinds true (Some (is_instance_method m)) = ⊥
CallBinds false (Some (is_instance_method m)) = Unit {0}

-- behind `super.`
abbrev pub SuperBinds : {K : Keys} → Option (Variable K) → Type 0
SuperBinds None = ⊥
SuperBinds (Some (is_local n)) = ⊥
SuperBinds (Some (is_static_field f)) = Unit {0}
SuperBinds (Some (is_instance_field f)) = Unit {0}

-- a cast that may fail is to a class
abbrev pub CastBinds : {C : Type 0} → (is_checked : Bool) → Option C → Type 0
CastBinds true None = ⊥
CastBinds true (Some c) = Unit {0}
CastBinds false None = Unit {0}
CastBinds false (Some c) = Unit {0}

abbrev mutual
  pub ExpBinds : {K : Keys} {A : Type 0} → Known K A → tree.Exp A → Type 0
  ExpBinds X (tree.number a n) = Unit {0}
  ExpBinds X (tree.truth a b) = Unit {0}
  ExpBinds X (tree.null a) = Unit {0}
  ExpBinds X (tree.string a s) = Unit {0}
  ExpBinds X (tree.name a w) = IsThere (X.facts.variable w.mark)
  ExpBinds X (tree.field a e w) = FieldBinds (is_class_name X e) (X.facts.variable w.mark)
      × UnlessClass (is_class_name X e) (ExpBinds X e)
  ExpBinds X (tree.super_field a w) = SuperBinds (X.facts.variable w.mark)
  ExpBinds X (tree.this a) = Unit {0}
  ExpBinds X (tree.class_literal a t) = Unit {0}
  ExpBinds X (tree.call a t w es) = ReceiverBinds X t (X.facts.called w.mark) × ExpsBind X es
  ExpBinds X (tree.super_call a w es) = IsThere (X.facts.called w.mark) × ExpsBind X es
  ExpBinds X (tree.create a t es) = IsThere (X.facts.created a) × ExpsBind X es
  ExpBinds X (tree.paren a e) = ExpBinds X e
  ExpBinds X (tree.cast a t e) =
      CastBinds (X.facts.is_checked a) (X.facts.class (mark_of_type t)) × ExpBinds X e
  ExpBinds X (tree.unary a op e) = ExpBinds X e
  ExpBinds X (tree.bump a op t) = TargetBinds X t
  ExpBinds X (tree.binary a op l r) = ExpBinds X l × ExpBinds X r
  ExpBinds X (tree.assign a t e) = TargetBinds X t × ExpBinds X e
  ExpBinds X (tree.compound a op t e) =
      IsThere (arithmetic_of op) × TargetBinds X t × ExpBinds X e

  -- what a call is made on
  pub ReceiverBinds : {K : Keys} {A : Type 0} → Known K A → tree.Target A → Option (Called K)
      → Type 0
  ReceiverBinds X tree.no_target m = IsThere m
  ReceiverBinds X (tree.on e) m =
      CallBinds (is_class_name X e) m × UnlessClass (is_class_name X e) (ExpBinds X e)

  pub ExpsBind : {K : Keys} {A : Type 0} → Known K A → tree.Exps A → Type 0
  ExpsBind X tree.end = Unit {0}
  ExpsBind X (tree.more e es) = ExpBinds X e × ExpsBind X es

  -- what is assigned or bumped: a name or a field (JLS 15.26)
  pub TargetBinds : {K : Keys} {A : Type 0} → Known K A → tree.Exp A → Type 0
  TargetBinds X (tree.name a w) = IsThere (X.facts.variable w.mark)
  TargetBinds X (tree.field a e w) = FieldBinds (is_class_name X e) (X.facts.variable w.mark)
      × UnlessClass (is_class_name X e) (ExpBinds X e)
  TargetBinds X (tree.super_field a w) = SuperBinds (X.facts.variable w.mark)
  TargetBinds X (tree.number a n) = ⊥
  TargetBinds X (tree.truth a b) = ⊥
  TargetBinds X (tree.null a) = ⊥
  TargetBinds X (tree.string a s) = ⊥
  TargetBinds X (tree.this a) = ⊥
  TargetBinds X (tree.class_literal a t) = ⊥
  TargetBinds X (tree.call a t w es) = ⊥
  TargetBinds X (tree.super_call a w es) = ⊥
  TargetBinds X (tree.create a t es) = ⊥
  TargetBinds X (tree.paren a e) = ⊥
  TargetBinds X (tree.cast a t e) = ⊥
  TargetBinds X (tree.unary a op e) = ⊥
  TargetBinds X (tree.bump a op t) = ⊥
  TargetBinds X (tree.binary a op l r) = ⊥
  TargetBinds X (tree.assign a t e) = ⊥
  TargetBinds X (tree.compound a op t e) = ⊥

abbrev pub ValueBinds : {K : Keys} {A : Type 0} → Known K A → Option (tree.Exp A) → Type 0
ValueBinds X None = Unit {0}
ValueBinds X (Some e) = ExpBinds X e

abbrev mutual
  pub StmtBinds : {K : Keys} {A : Type 0} → Known K A → statement.Stmt A → Type 0
  StmtBinds X (statement.local a is_final t w e) = ExpBinds X e
  StmtBinds X (statement.eval a e) = ExpBinds X e
  StmtBinds X (statement.branch a c t o) = ExpBinds X c × StmtBinds X t × ElseBinds X o
  StmtBinds X (statement.loop a c b) = ExpBinds X c × StmtBinds X b
  StmtBinds X (statement.return a v) = ValueBinds X v
  StmtBinds X (statement.block a b) = StmtsBind X b
  StmtBinds X (statement.sync a e b) = ExpBinds X e × StmtsBind X b
  StmtBinds X (statement.empty a) = Unit {0}

  pub ElseBinds : {K : Keys} {A : Type 0} → Known K A → statement.Else A → Type 0
  ElseBinds X statement.no_else = Unit {0}
  ElseBinds X (statement.otherwise s) = StmtBinds X s

  pub StmtsBind : {K : Keys} {A : Type 0} → Known K A → statement.Stmts A → Type 0
  StmtsBind X statement.end = Unit {0}
  StmtsBind X (statement.more s b) = StmtBinds X s × StmtsBind X b
