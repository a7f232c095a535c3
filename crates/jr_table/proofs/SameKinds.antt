-- The derived test of types.
use Rattle.std.proofs.Common.{◌≡◌, ◌||◌, ◌&&◌, Bor, List, [], ◌∷◌, refl}
use Rattle.std.specs.List.{list_any}
use Rattle.std.specs.Cmp.Lexicographic.{pointwise}
use Rattle.jr_table.specs.declared.entries.Kind.{Kind}
use Rattle.jr_table.specs.declared.entries.Kind.TheVariants.{Int, Boolean, Void, Null, Class}
use Rattle.jr_table.specs.contracts.entries.KindPartialEq.TheImpl.{ghosts}
use Rattle.jr_table.specs.Looking.{same_kind, same_kinds}

eq_is : (x y : Kind) → ghosts.eq x y ≡ same_kind x y
eq_is Int Int = refl
eq_is Int Boolean = refl
eq_is Int Void = refl
eq_is Int Null = refl
eq_is Int (Class d) = refl
eq_is Boolean Int = refl
eq_is Boolean Boolean = refl
eq_is Boolean Void = refl
eq_is Boolean Null = refl
eq_is Boolean (Class d) = refl
eq_is Void Int = refl
eq_is Void Boolean = refl
eq_is Void Void = refl
eq_is Void Null = refl
eq_is Void (Class d) = refl
eq_is Null Int = refl
eq_is Null Boolean = refl
eq_is Null Void = refl
eq_is Null Null = refl
eq_is Null (Class d) = refl
eq_is (Class c) Int = refl
eq_is (Class c) Boolean = refl
eq_is (Class c) Void = refl
eq_is (Class c) Null = refl
eq_is (Class c) (Class d) = refl

all_is : (xs ys : List Kind) → pointwise ghosts.eq xs ys ≡ same_kinds xs ys
all_is [] [] = refl
all_is [] (y ∷ ys) = refl
all_is (x ∷ xs) [] = refl
all_is (x ∷ xs) (y ∷ ys) = λ i. eq_is x y i && all_is xs ys i

pub derived_is : (ks : List (Bor (List Kind))) (q : List Kind) → list_any (λ k. pointwise ghosts.eq q k.now) ks ≡ list_any (λ k. same_kinds q k.now) ks
derived_is [] q = refl
derived_is (k ∷ ks) q = λ i. all_is q k.now i || derived_is ks q i
