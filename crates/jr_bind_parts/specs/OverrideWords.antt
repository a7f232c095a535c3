-- What a modifier says of access: exact.
use Rattle.std.specs.Prelude.{ℕ, Option, Some, None}
use Rattle.jr_ast.specs.declared.operators.ModWord.{ModWord}
use Rattle.jr_ast.specs.declared.operators.ModWord.TheVariants as word

abbrev pub word_access : ModWord → Option ℕ
word_access word.Private = Some 0
word_access word.Protected = Some 2
word_access word.Public = Some 3
word_access word.Static = None
word_access word.Final = None
word_access word.Volatile = None
word_access word.Synchronized = None
