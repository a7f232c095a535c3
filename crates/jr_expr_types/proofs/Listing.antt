-- Parts one behind the other, as a list of trees.
use Rattle.std.proofs.Common.{◌≡◌, ℕ, zero, suc, ◌+◌, ◌<◌, ◌≤◌, List, [], ◌∷◌, map, Option, Some, None, Bool, true, false, refl, sym, ap, subst, ◌∙◌, inl, inr, arith}
use Rattle.std.specs.Prelude.{slice_get, ◌⊎◌, ◌==◌, if◌then◌else◌}
use Rattle.std.proofs.lemmas.Bool.{eqb-true, eq-eqb}
use Rattle.jr_expr_types.specs.Trees.{Tree, Parts, none, put, count, part_at}
use Rattle.jr_expr_types.proofs.Leading.{neither, none_there}

-- parts, and then these trees
abbrev pub listed : Parts → List Tree → Parts
listed ps [] = ps
listed ps (t ∷ ts) = listed (put ps t) ts

earlier : (ps : Parts) (t : Tree) (i : ℕ) → i < count ps → part_at (put ps t) i ≡ part_at ps i
earlier ps t i lt = ap (λ b. if b then Some t else part_at ps i) (neither i (count ps) (i == count ps) refl (λ e. omega (arith, lt, e)))

last_is : (ps : Parts) (t : Tree) (i : ℕ) → i ≡ count ps → part_at (put ps t) i ≡ Some t
last_is ps t i e = ap (λ b. if b then Some t else part_at ps i) (eq-eqb i (count ps) e)

kept : (ps : Parts) (ts : List Tree) (i : ℕ) → i < count ps → part_at (listed ps ts) i ≡ part_at ps i
kept ps [] i lt = refl
kept ps (t ∷ ts) i lt = kept (put ps t) ts i (omega (arith, lt)) ∙ earlier ps t i lt

behind : (ps : Parts) (ts : List Tree) (i j : ℕ) → i ≡ count ps + j → part_at (listed ps ts) i ≡ slice_get ts j
behind ps [] i j e = none_there ps i (omega (arith, e))
behind ps (t ∷ ts) i zero e = let f : i ≡ count ps = omega (arith, e) in kept (put ps t) ts i (omega (arith, f)) ∙ last_is ps t i f
behind ps (t ∷ ts) i (suc j) e = behind (put ps t) ts i j (omega (arith, e))

pub listed_at : (ts : List Tree) (i : ℕ) → part_at (listed none ts) i ≡ slice_get ts i
listed_at ts i = behind none ts i i (omega arith)
