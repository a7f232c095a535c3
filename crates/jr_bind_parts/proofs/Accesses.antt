-- The access of modifiers, word by word.
use Rattle.std.proofs.Common.{◌≡◌, ℕ, List, ◌∷◌, Some, None, refl}
use Rattle.jr_ast.specs.declared.operators.ModWord.{ModWord}
use Rattle.jr_ast.specs.declared.operators.ModWord.TheVariants as word
use Rattle.jr_table.specs.HeadRules.{access_of}
use Rattle.jr_bind_parts.specs.OverrideWords.{word_access}

pub access_none : (w : ModWord) (ws : List ModWord) → word_access w ≡ None → access_of (w ∷ ws) ≡ access_of ws
access_none word.Private ws h = absurd cc
access_none word.Protected ws h = absurd cc
access_none word.Public ws h = absurd cc
access_none word.Static ws h = refl
access_none word.Final ws h = refl
access_none word.Volatile ws h = refl
access_none word.Synchronized ws h = refl

pub access_some : (w : ModWord) (ws : List ModWord) (n : ℕ) → word_access w ≡ Some n → n ≡ access_of (w ∷ ws)
access_some word.Private ws n h = cc
access_some word.Protected ws n h = cc
access_some word.Public ws n h = cc
access_some word.Static ws n h = absurd cc
access_some word.Final ws n h = absurd cc
access_some word.Volatile ws n h = absurd cc
access_some word.Synchronized ws n h = absurd cc
