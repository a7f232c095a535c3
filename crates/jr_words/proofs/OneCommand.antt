-- Words mean one command at most.
use Rattle.std.proofs.Common.{◌≡◌, ◌∙◌, ◌+◌, ◌<◌, ℕ, refl, sym, ap, ap₂, subst, arith, List, [], ◌∷◌, ◌++◌, length, Option, Some, None, codes}
use Rattle.std.specs.List.{AllByRecursion}
use Rattle.jr_words.specs.Words.{Command, Operand, ArePlain, HaveOperands, IsPlain, MeanOneAtMost, Mean, numbered, out_word, rename, run}

pub no_option_word : IsPlain out_word → ⊥
no_option_word plain = plain.no_option refl

-- the option isn't among plain words
pub no_option_in : (front back : List (List ℕ)) → ArePlain (front ++ out_word ∷ back) → ⊥
no_option_in [] back plain = no_option_word plain.0
no_option_in (f ∷ fs) back plain = no_option_in fs back plain.1

head_of : (x y : List ℕ) (xs ys : List (List ℕ)) → x ∷ xs ≡ y ∷ ys → x ≡ y
head_of x y xs ys e = cc

tail_of : (x y : List ℕ) (xs ys : List (List ℕ)) → x ∷ xs ≡ y ∷ ys → xs ≡ ys
tail_of x y xs ys e = cc

operand_head : (x y : Operand) (xs ys : List Operand) → x ∷ xs ≡ y ∷ ys → x ≡ y
operand_head x y xs ys e = cc

pub operand_tail : (x y : Operand) (xs ys : List Operand) → x ∷ xs ≡ y ∷ ys → xs ≡ ys
operand_tail x y xs ys e = cc

-- plain words end where the first option stands
pub one_split : (front other back behind : List (List ℕ)) → ArePlain front → ArePlain other → front ++ out_word ∷ back ≡ other ++ out_word ∷ behind → (front ≡ other) × (back ≡ behind)
one_split [] [] back behind p q e = (refl, tail_of _ _ _ _ e)
one_split [] (o ∷ os) back behind p q e = absurd (no_option_word (subst IsPlain (sym (head_of _ _ _ _ e)) q.0))
one_split (f ∷ fs) [] back behind p q e = absurd (no_option_word (subst IsPlain (head_of _ _ _ _ e) p.0))
one_split (f ∷ fs) (o ∷ os) back behind p q e =
    let rest = one_split fs os back behind p.1 q.1 (tail_of _ _ _ _ e) in
    ((λ i. head_of _ _ _ _ e i ∷ rest.0 i), rest.1)

pub one_operands : (words : List (List ℕ)) (out other : Option (List ℕ)) (operands others : List Operand) → HaveOperands words out operands → HaveOperands words other others → (out ≡ other) × (operands ≡ others)
one_operands words None None operands others a b = (refl, a.1 ∙ sym b.1)
one_operands words None (Some dir) operands others a (front, back, split, front_plain, dir_plain, back_plain, are) = absurd (no_option_in front (dir ∷ back) (subst ArePlain split a.0))
one_operands words (Some dir) None operands others (front, back, split, front_plain, dir_plain, back_plain, are) b = absurd (no_option_in front (dir ∷ back) (subst ArePlain split b.0))
one_operands words (Some dir) (Some to) operands others (front, back, split, front_plain, dir_plain, back_plain, are) (before, behind, cut, before_plain, to_plain, behind_plain, are') =
    let same = one_split front before (dir ∷ back) (to ∷ behind) front_plain before_plain (sym split ∙ cut) in
    let dirs = head_of _ _ _ _ same.1 in
    let backs = tail_of _ _ _ _ same.1 in
    (ap Some dirs, are ∙ (λ i. numbered 1 (same.0 i) ++ numbered (length (same.0 i) + 3) (backs i)) ∙ sym are')

pub one_run : (words rest rest' : List (List ℕ)) → words ≡ codes "run" ∷ rest → words ≡ codes "run" ∷ rest' → rest ≡ rest'
one_run words rest rest' a b = tail_of _ _ _ _ (sym a ∙ b)

pub one_command : MeanOneAtMost
one_command words (rename f a n) (rename g b m) one other =
    cc (one.names.words_are, other.names.words_are, one.names.is_place.value, other.names.is_place.value)
one_command words (rename f a n) (run out script files) one other = absurd cc
one_command words (run out script files) (rename f a n) one other = absurd cc
one_command words (run out script files) (run to script' files') one other =
    let rests = one_run words one.names.rest other.names.rest one.names.begins other.names.begins in
    let same = one_operands other.names.rest out to (script ∷ files) (script' ∷ files') (subst (λ r. HaveOperands r out (script ∷ files)) rests one.names.operands) other.names.operands in
    let scripts : script ≡ script' = operand_head _ _ _ _ same.1 in
    let rest_same : files ≡ files' = operand_tail _ _ _ _ same.1 in
    λ i. run (same.0 i) (scripts i) (rest_same i)
