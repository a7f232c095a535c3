use Rattle.std.proofs.Common.{◌≡◌, ◌∷◌, take, map, string_bytes}
use Rattle.jr_table.specs.TypeView.{ty_of}
use Rattle.jr_names.specs.DeclTexts.{types_text}
use Rattle.jr_names.proofs.decl_texts.joined_text.Given as goal

abbrev pub invariant-loop-ty : goal.invariant-loop-ty
invariant-loop-ty l = string_bytes l.text ≡ types_text (ty_of l.first ∷ map ty_of (take l.ty-index l.rest))
