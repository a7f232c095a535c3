-- The front of a statement list, or the value of a statement, becomes a call of a method that is
-- made of it.
use Rattle.std.specs.Prelude.{◌≡◌, ◌⊎◌, ℕ, List, IsTrue}
use Rattle.jr_runs.specs.Keys.{Keys, keys_of, At}
use Rattle.jr_runs.specs.Core as core
use Rattle.jr_runs.specs.Core.{Exp, read, assign, local, Stmt, declare, eval, return, Stmts}
use Rattle.jr_runs.specs.Core.{Program}
use Rattle.jr_runs.specs.KeyMaps.{same_keys}
use Rattle.jr_runs.specs.Sets.{NumberSet}
use Rattle.jr_runs.specs.Standing.{In, Standing}
use Rattle.jr_runs.specs.Images.{ExpTo, StmtsTo, NoSpot, ProgramTo, lists_alone, exps_alone}
use Rattle.jr_runs.specs.TypedImages.{TypedProgramTo}
use Rattle.jr_runs.specs.Typing.{WellTyped}
use Rattle.jr_runs.specs.Pairs.{SomeReturns}
use Rattle.jr_runs.specs.Alike.{AlikeExactly}
use Rattle.jr_runs_calls.specs.MadeMethods.{MadeMethod, made_standing, made_exp}

-- ---- statements

abbrev pub then : {K : Keys} → Stmts K → Stmts K → Stmts K
then core.Stmts.end c = c
then (core.Stmts.more a b) c = core.Stmts.more a (then b c)

-- what comes of the piece: nothing, or a local that is assigned or declared with it
pub data Given : Type 0 where
  nothing : Given
  assigned : (x : ℕ) → Given
  declared : (x : ℕ) → Given

abbrev pub given_stmt : {K : Keys} → At K → (ℕ → ℕ) → Given → Exp K → Stmt K
given_stmt p at nothing e = eval p e
given_stmt p at (assigned x) e = eval p (assign p (local p (at x)) e)
given_stmt p at (declared x) e = declare p (at x) e

abbrev pub returned : {K : Keys} → At K → Exp K → Stmts K
returned p e = core.Stmts.more (return p e) core.Stmts.end

abbrev pub given_body : {K : Keys} → At K → (ℕ → ℕ) → Given → Stmts K → Stmts K
given_body p at nothing b = b
given_body p at (assigned x) b = then b (returned p (read p (local p (at x))))
given_body p at (declared x) b = then b (returned p (read p (local p (at x))))

-- the local is one of both, and agrees behind the piece
abbrev pub GivenFits : {K : Keys} → Standing K → List ℕ → NumberSet → Given → Type 0
GivenFits s mine ends nothing = Unit {0}
GivenFits s mine ends (assigned x) = In x s.code.mine × (In x s.code.known → ⊥) × In x mine
    × IsTrue (ends x)
GivenFits s mine ends (declared x) = In x s.code.mine × (In x s.code.known → ⊥) × In x mine
    × IsTrue (ends x)

abbrev pub IsGiven : Given → ℕ → Type 0
IsGiven nothing i = ⊥
IsGiven (assigned x) i = i ≡ x
IsGiven (declared x) i = i ≡ x

-- A: which locals agree before the list, B: behind it
pub record Extracts {K : Keys} (P Q : Program K) (s : Standing K) (A : NumberSet)
    (old new : Stmts K) (B : NumberSet) : Type 0 where
  pub made : MadeMethod Q s A
  pub piece : Stmts K
  pub new_piece : Stmts K
  pub ends : NumberSet
  pub piece_to : StmtsTo same_keys P.rows NoSpot (made_standing made) made.begins piece new_piece
      ends
  pub given : Given
  pub fits : GivenFits s made.mine ends given
  pub return_at : At K
  pub body_is : made.code.body ≡ given_body return_at made.at given new_piece
  pub no_return : SomeReturns piece → ⊥
  -- behind the piece what it doesn't write agrees as before, and what it gives does
  pub behind : NumberSet
  pub still : (i : ℕ) → IsTrue (behind i) → IsGiven given i ⊎ (IsTrue (A i) × In i made.known)
  pub rest : Stmts K
  pub new_rest : Stmts K
  pub rest_to : StmtsTo same_keys P.rows NoSpot s behind rest new_rest B
  pub eval_at : At K
  pub old_is : old ≡ then piece rest
  pub new_is : new ≡ core.Stmts.more (given_stmt eval_at s.code.at given (made_exp made)) new_rest

-- Any number of lists may have changed so. Statically: the types play no part.
abbrev pub ExtractedProgramsAreAlike : (C F M N A : Type 0) → Type 0
ExtractedProgramsAreAlike C F M N A = (P Q : Program (keys_of C F M N A))
    → ProgramTo same_keys (Extracts P Q) P Q → AlikeExactly same_keys P Q

-- In instance methods too.
abbrev pub ExtractedMethodsAreAlike : (C F M N A : Type 0) → Type 0
ExtractedMethodsAreAlike C F M N A = (P Q : Program (keys_of C F M N A)) → WellTyped P → WellTyped Q
    → TypedProgramTo same_keys (lists_alone (Extracts P Q)) P Q → AlikeExactly same_keys P Q

-- ---- expressions

-- The expression of which the call is made. It gives its value; of the locals those agree behind it
-- that agreed and that it doesn't write.
pub record ExtractsExp {K : Keys} (P Q : Program K) (s : Standing K) (A : NumberSet)
    (old new : Exp K) (B : NumberSet) : Type 0 where
  pub made : MadeMethod Q s A
  pub piece : Exp K
  pub ends : NumberSet
  pub piece_to : ExpTo same_keys P.rows (made_standing made).code made.begins old piece ends
  pub return_at : At K
  pub body_is : made.code.body ≡ returned return_at piece
  pub still : (i : ℕ) → IsTrue (B i) → IsTrue (A i) × In i made.known
  pub new_is : new ≡ made_exp made

-- Any number of expressions may have become calls, at any depth.
abbrev pub ExtractedValuesAreAlike : (C F M N A : Type 0) → Type 0
ExtractedValuesAreAlike C F M N A = (P Q : Program (keys_of C F M N A)) → WellTyped P → WellTyped Q
    → TypedProgramTo same_keys (exps_alone (ExtractsExp P Q)) P Q → AlikeExactly same_keys P Q
