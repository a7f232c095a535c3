-- Spots of small trees, as theorems by computation.
use Rattle.std.proofs.Common.{◌≡◌, ℕ, ◌+◌, [], ◌∷◌, refl}
use Rattle.jr_ast.specs.Tree as tree
use Rattle.jr_cover.specs.Spots.{spot_exp}

begins : ℕ → ℕ → ℕ
begins m base = base + m

ends : ℕ → ℕ → ℕ
ends m base = base + m + 1

word : ℕ → tree.Word ℕ
word a = record { mark = a; text = [] }

-- `p.f`, 3 bytes behind its parent
field_spots : spot_exp begins ends (tree.field 3 (tree.name 0 (word 0)) (word 2)) 10 (1 ∷ [])
    ≡ tree.field (record { first = 13; last = 14; path = 1 ∷ [] }) (tree.name (record { first = 13; last = 14; path = 1 ∷ 0 ∷ [] })
    (record { mark = record { first = 13; last = 14; path = 1 ∷ 0 ∷ 0 ∷ [] }; text = [] })) (record { mark = record { first = 15; last = 16; path = 1 ∷ 1 ∷ [] }; text = [] })
unfolding begins ends word spot_exp
field_spots = refl
