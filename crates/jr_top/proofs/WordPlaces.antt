-- The operands of a command stand at their words.
use Rattle.std.proofs.Common.{◌≡◌, ◌∙◌, ◌<◌, ◌≤◌, ◌+◌, ◌^◌, ℕ, zero, suc, ap, arith, refl, subst, sym, List, [], ◌∷◌, ◌++◌, length, Option, None, Some, codes, slice_get}
use Rattle.std.proofs.lemmas.List.{length-append}
use Rattle.jr_words.specs.Words.{Command, HaveOperands, Mean, Operand, fetched_of, numbered, out_word, rename, run}

some_same : {A : Type 0} (a b : A) → Some a ≡ Some b → a ≡ b
some_same a b e = cc

-- the operand stands so many words behind the first
record Behind (words : List (List ℕ)) (first : ℕ) (o : Operand) : Type 0 where
  pub place : ℕ
  pub word : o.word ≡ first + place
  pub stands : slice_get words place ≡ Some o.text

numbered_at : (n : ℕ) (words : List (List ℕ)) (k : ℕ) (o : Operand) → slice_get (numbered n words) k ≡ Some o → Behind words n o
numbered_at n [] k o at = absurd cc
numbered_at n (w ∷ ws) zero o at =
    let same : record { word = n; text = w } ≡ o = some_same _ _ at in
    record { place = 0; word = sym (ap (λ (p : Operand). p.word) same) ∙ omega arith; stands = ap (λ (p : Operand). Some p.text) same }
numbered_at n (w ∷ ws) (suc k) o at =
    let rest = numbered_at (n + 1) ws k o at in
    record { place = suc rest.place; word = let e = rest.word in omega (arith, e); stands = rest.stands }

around : (front back : List (List ℕ)) (x y : List ℕ) (n m : ℕ) (k : ℕ) (o : Operand) → m ≡ n + length front + 2 → slice_get (numbered n front ++ numbered m back) k ≡ Some o → Behind (front ++ x ∷ y ∷ back) n o
around [] back x y n m k o is at =
    let rest = numbered_at m back k o at in
    record { place = suc (suc rest.place); word = let e = rest.word in omega (arith, e, is); stands = rest.stands }
around (f ∷ fs) back x y n m zero o is at =
    let same : record { word = n; text = f } ≡ o = some_same _ _ at in
    record { place = 0; word = sym (ap (λ (p : Operand). p.word) same) ∙ omega arith; stands = ap (λ (p : Operand). Some p.text) same }
around (f ∷ fs) back x y n m (suc k) o is at =
    let rest = around fs back x y (n + 1) m k o (omega (arith, is)) at in
    record { place = suc rest.place; word = let e = rest.word in omega (arith, e); stands = rest.stands }

of_run : (rest : List (List ℕ)) (out : Option (List ℕ)) (operands : List Operand) → HaveOperands rest out operands → (k : ℕ) (o : Operand) → slice_get operands k ≡ Some o → Behind rest 1 o
of_run rest None operands have k o at = numbered_at 1 rest k o (subst (λ os. slice_get os k ≡ Some o) have.1 at)
of_run rest (Some dir) operands (front, back, split, front_plain, dir_plain, back_plain, are) k o at =
    subst (λ ws. Behind ws 1 o) (sym split) (around front back out_word dir 1 (length front + 3) k o (omega arith) (subst (λ os. slice_get os k ≡ Some o) are at))

pub operand_in_words : (words : List (List ℕ)) (command : Command) → Mean words command → (k : ℕ) (o : Operand) → slice_get (fetched_of command) k ≡ Some o → slice_get words o.word ≡ Some o.text
operand_in_words words (rename file place name) mean zero o at =
    let same : record { word = 1; text = file } ≡ o = some_same _ _ at in
    subst (λ (p : Operand). slice_get words p.word ≡ Some p.text) same (ap (λ ws. slice_get ws 1) mean.names.words_are)
operand_in_words words (rename file place name) mean (suc k) o at = absurd cc
operand_in_words words (run out script files) mean k o at =
    let behind = of_run mean.names.rest out (script ∷ files) mean.names.operands k o at in
    let word : o.word ≡ suc behind.place = behind.word ∙ omega arith in
    ap (slice_get words) word ∙ ap (λ ws. slice_get ws (suc behind.place)) mean.names.begins ∙ behind.stands

numbered_length : (n : ℕ) (words : List (List ℕ)) → length (numbered n words) ≡ length words
numbered_length n [] = refl
numbered_length n (w ∷ ws) = let rest = numbered_length (n + 1) ws in omega (arith, rest)

no_more_operands : (rest : List (List ℕ)) (out : Option (List ℕ)) (operands : List Operand) → HaveOperands rest out operands → length operands ≤ length rest
no_more_operands rest None operands have =
    let same = ap length have.1 in
    let all = numbered_length 1 rest in
    omega (arith, same, all)
no_more_operands rest (Some dir) operands (front, back, split, front_plain, dir_plain, back_plain, are) =
    let whole = ap length split ∙ length-append front (out_word ∷ dir ∷ back) in
    let parts = ap length are ∙ length-append (numbered 1 front) (numbered (length front + 3) back) in
    let before = numbered_length 1 front in
    let behind = numbered_length (length front + 3) back in
    omega (arith, whole, parts, before, behind)

-- the files of a run are as many as there are words at most
pub few_files : (words : List (List ℕ)) (out : Option (List ℕ)) (script : Operand) (files : List Operand) → Mean words (run out script files) → length files < 2 ^ 32
few_files words out script files mean =
    let some = no_more_operands mean.names.rest out (script ∷ files) mean.names.operands in
    let begins = ap length mean.names.begins in
    let few = mean.well_formed.count in
    omega (arith, some, begins, few)
