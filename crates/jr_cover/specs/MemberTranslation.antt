-- The code of members, by what binding says of marks.
use Rattle.std.specs.Prelude.{zero, Bool, true, false, ◌||◌, List, [], ◌∷◌, length, Option, Some}
use Rattle.std.specs.Prelude.{None}
use Rattle.jr_ast.specs.declared.operators.ModWord.{ModWord}
use Rattle.jr_ast.specs.declared.operators.ModWord.TheVariants.{Public, Protected, Private, Static}
use Rattle.jr_ast.specs.declared.operators.ModWord.TheVariants.{Final, Volatile, Synchronized}
use Rattle.jr_ast.specs.Tree as tree
use Rattle.jr_ast.specs.Tree.{Word}
use Rattle.jr_ast.specs.StatementTree as statement
use Rattle.jr_ast.specs.MemberTree as member
use Rattle.jr_ast.specs.MemberTree.{Modifier, Param, Member, Members}
use Rattle.jr_runs.specs.Keys.{Keys, At}
use Rattle.jr_runs.specs.Core as core
use Rattle.jr_runs.specs.Core.{this, assign, field_of, super_constructor, Exps, Stmt, eval, Stmts}
use Rattle.jr_runs.specs.Core.{Code}
use Rattle.jr_runs.specs.MemberTranslation.{is_synchronized, monitor, locked, in_front}
use Rattle.jr_cover.specs.Facts.{Facts}
use Rattle.jr_cover.specs.Translation.{exp_code, exps_code}
use Rattle.jr_cover.specs.StatementTranslation.{stmts_code}

abbrev pub is_static_word : ModWord → Bool
is_static_word Public = false
is_static_word Protected = false
is_static_word Private = false
is_static_word Static = true
is_static_word Final = false
is_static_word Volatile = false
is_static_word Synchronized = false

abbrev pub is_static : {A : Type 0} → List (Modifier A) → Bool
is_static [] = false
is_static (m ∷ ms) = is_static_word m.word || is_static ms

-- A method: its monitor is entered at its name and exited at its last brace.
abbrev pub method_code : {K : Keys} {A : Type 0} → Facts K A → K.class → A
    → List (Modifier A) → Word A
    → List (Param A) → statement.Stmts A → Code K
method_code F c a modifiers name params body = record {
  params = length params;
  body = locked (is_synchronized modifiers) (Some (F.first name.mark)) (Some (F.last a))
      (monitor c (is_static modifiers)) (stmts_code F body);
}

-- An instance field's initializer is a store to the field of `this`, at the field's name (JLS
-- 8.3.2).
abbrev pub initializer_code : {K : Keys} {A : Type 0} → Facts K A → K.field → Word A
    → tree.Exp A → Stmt K
initializer_code F f name e =
    eval (Some (F.first name.mark))
    (assign (Some (F.first name.mark)) (field_of (Some (F.first name.mark)) (this None) f)
    (exp_code F e))

-- what is known of a field by its member's mark: its key, and what binding says of its initializer
pub record FieldFacts (K : Keys) (A : Type 0) : Type 0 where
  pub field : K.field
  pub facts : Facts K A

abbrev pub unless_static : {K : Keys} → Bool → Stmt K → List (Stmt K) → List (Stmt K)
unless_static true s b = b
unless_static false s b = s ∷ b

-- the initializers of a class's instance fields, in text order; those of static fields are no
-- actions of a run
abbrev pub initializers : {K : Keys} {A : Type 0} → (A → FieldFacts K A) → Members A → List (Stmt K)
initializers F member.Members.end = []
initializers F (member.Members.more (member.field a modifiers t name (Some e)) ms) =
    unless_static (is_static modifiers) (initializer_code (F a).facts (F a).field name e)
    (initializers F ms)
initializers F (member.Members.more (member.field a modifiers t name None) ms) = initializers F ms
initializers F (member.Members.more (member.method a modifiers result name params body) ms) =
    initializers F ms
initializers F (member.Members.more (member.constructor a modifiers name params args body) ms) =
    initializers F ms
initializers F (member.Members.more (member.inner a c) ms) = initializers F ms

-- the superclass's constructor that is run, and where its run stands: at `super`, or at the
-- constructor's name where it is implicit
pub record Parent (K : Keys) : Type 0 where
  pub constructor : K.constructor
  pub at : At K

abbrev pub parent_args : {K : Keys} {A : Type 0} → Facts K A → Option (tree.Exps A) → Exps K
parent_args F None = core.Exps.end
parent_args F (Some es) = exps_code F es

-- A constructor: the superclass's constructor, the field initializers, the body (JLS 12.5).
abbrev pub constructed_by : {K : Keys} → Parent K → Exps K → List (Stmt K) → Stmts K → Stmts K
constructed_by p args fields body =
    core.Stmts.more (eval p.at (super_constructor p.at (this None) p.constructor args))
    (in_front fields body)

abbrev pub constructor_code : {K : Keys} {A : Type 0} → Facts K A → Parent K → List (Stmt K)
    → List (Param A)
    → Option (tree.Exps A) → statement.Stmts A → Code K
constructor_code F p fields params args body = record {
  params = length params;
  body =
      constructed_by p (parent_args F args) fields (stmts_code F body);
}

-- of a class that declares none (JLS 8.8.9)
abbrev pub default_constructor : {K : Keys} → Parent K → List (Stmt K) → Code K
default_constructor p fields =
    record { params = zero; body = constructed_by p core.Exps.end fields core.Stmts.end }
