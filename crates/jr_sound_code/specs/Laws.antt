-- The laws on sound programs and their code, as statements.
use Rattle.std.specs.Prelude.{◌≡◌, ◌-◌, ℕ}
use Rattle.jr_text.specs.declared.spans.Span.{Span}
use Rattle.jr_grammar.specs.Layout.{itself}
use Rattle.jr_runs.specs.Core as core
use Rattle.jr_runs.specs.Typing.{WellTyped}
use Rattle.jr_bind.specs.Programs.{Program, IsProgram, units_of}
use Rattle.jr_program_laws.specs.FileParts.{begins}
use Rattle.jr_code.specs.RunKeys.{RunKeys}
use Rattle.jr_code.specs.Programs.{IsCodeOf}
use Rattle.jr_sound_code.specs.Misfits.{RunsFit}

-- the places of such a mark fit, wherever the parent begins
abbrev pub Anywhere : Span → ℕ → Type 0
Anywhere m base = Unit {0}

-- a node's last byte
abbrev pub last_of : Span → ℕ → ℕ
last_of m base = m.to - 1

-- P is what the program's sources are
abbrev pub IsItsCode : Program Span → core.Program RunKeys → Type 0
IsItsCode p P = IsCodeOf begins last_of p.rows p.super_at (units_of p) P

-- each program without faults, of which no member breaks a rule, has resolved code
abbrev pub ProgramsHaveCode : Type 0
ProgramsHaveCode = (p : Program Span) → IsProgram itself Anywhere p
    → (P : core.Program RunKeys) × IsItsCode p P

-- and just one
abbrev pub CodeOfProgramsIsOne : Type 0
CodeOfProgramsIsOne = (p : Program Span) → IsProgram itself Anywhere p
    → (P Q : core.Program RunKeys) → IsItsCode p P → IsItsCode p Q → P ≡ Q

-- any code of its is well typed
abbrev pub SoundProgramsAreWellTyped : Type 0
SoundProgramsAreWellTyped = (p : Program Span) → IsProgram itself Anywhere p
    → (P : core.Program RunKeys) → IsItsCode p P → WellTyped P

-- and so its runs fit
abbrev pub SoundRunsFit : Type 0
SoundRunsFit = (p : Program Span) → IsProgram itself Anywhere p
    → (P : core.Program RunKeys) → IsItsCode p P → RunsFit P
