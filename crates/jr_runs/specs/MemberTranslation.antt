-- What code there is in resolved members beside that of their own text: monitors, and no code.
use Rattle.std.specs.Prelude.{zero, Bool, true, false, ◌||◌, List, [], ◌∷◌, None}
use Rattle.jr_ast.specs.declared.operators.ModWord.{ModWord}
use Rattle.jr_ast.specs.declared.operators.ModWord.TheVariants.{Public, Protected, Private, Static}
use Rattle.jr_ast.specs.declared.operators.ModWord.TheVariants.{Final, Volatile, Synchronized}
use Rattle.jr_ast.specs.MemberTree.{Modifier}
use Rattle.jr_runs.specs.Keys.{Keys, At}
use Rattle.jr_runs.specs.Values.{class_object}
use Rattle.jr_runs.specs.Core as core
use Rattle.jr_runs.specs.Core.{Exp, literal, this, Stmt, sync, Stmts, Code}

abbrev pub is_synchronized_word : ModWord → Bool
is_synchronized_word Public = false
is_synchronized_word Protected = false
is_synchronized_word Private = false
is_synchronized_word Static = false
is_synchronized_word Final = false
is_synchronized_word Volatile = false
is_synchronized_word Synchronized = true

abbrev pub is_synchronized : {A : Type 0} → List (Modifier A) → Bool
is_synchronized [] = false
is_synchronized (m ∷ ms) = is_synchronized_word m.word || is_synchronized ms

-- what a synchronized method locks: its class's Class object where it is static, and else `this`
-- (JLS 8.4.3.6)
abbrev pub monitor : {K : Keys} → K.class → Bool → Exp K
monitor c true = literal None (class_object c)
monitor c false = this None

-- the body of a synchronized method stands between an entry and an exit
abbrev pub locked : {K : Keys} → Bool → At K → At K → Exp K → Stmts K → Stmts K
locked true entered exited lock b = core.Stmts.more (sync entered exited lock b) core.Stmts.end
locked false entered exited lock b = b

abbrev pub in_front : {K : Keys} → List (Stmt K) → Stmts K → Stmts K
in_front [] b = b
in_front (s ∷ ss) b = core.Stmts.more s (in_front ss b)

-- the prelude's constructors, and Thread's `run`: they do nothing
abbrev pub no_code : {K : Keys} → Code K
no_code = record { params = zero; body = core.Stmts.end }
