-- From the arguments of a run to its operands.
use Rattle.std.proofs.Common.{◌≡◌, ◌∙◌, ◌<◌, ◌≤◌, ◌+◌, ◌⊎◌, ℕ, suc, Bool, cond, true, false, refl, sym, ap, ap₂, arith, subst, nat_lt, List, [], ◌∷◌, ◌++◌, get_or, remove, length, map, Option, None, Some, codes, inl, inr}
use Rattle.std.specs.List.{AllByRecursion}
use Rattle.std.specs.Str.{bytes_eq}
use Rattle.std.proofs.lemmas.Bool.{lt-ltb, le-ltb, false_from_ne_true}
use Rattle.std.proofs.lemmas.List.{append-nil, length-map, map-append}
use Rattle.std.proofs.lemmas.Slice.Eq.{bytes_eq-Decides}
use Rattle.jr_words.specs.declared.words.Operand as raw
use Rattle.jr_words.specs.declared.words.WordsFault.{WordsFault}
use Rattle.jr_words.specs.declared.words.WordsFault.TheVariants.{Usage, Memory}
use Rattle.jr_words.specs.Asked.{HaveTexts, IsArgumentsFault, IsWordsFault, operand_of, option_place, placed}
use Rattle.jr_words.specs.Words.{ArePlain, AreWords, Command, Differ, HaveOperands, IsPlain, MayWantMemory, Mean, MeanNothing, Operand, numbered, out_word, rename, run}
use Rattle.jr_words.proofs.OneCommand.{no_option_word, one_operands, operand_tail, one_run as rest_same}

-- ---- numbers of operands

-- in front of the option
placed_front : (option number : ℕ) (front back : List (List ℕ)) → number + length front ≤ option → placed option number (front ++ back) ≡ numbered number front ++ placed option (number + length front) back
placed_front option number [] back within = ap (λ n. placed option n back) (omega arith)
placed_front option number (f ∷ fs) back within =
    let here : nat_lt number option ≡ true = lt-ltb number option (omega (arith, within)) in
    let rest = placed_front option (number + 1) fs back (omega (arith, within)) in
    let same : number + 1 + length fs ≡ number + length (f ∷ fs) = omega arith in
    λ i. record { word = cond (here i) number (number + 2); text = f } ∷ (rest ∙ ap (λ n. numbered (number + 1) fs ++ placed option n back) same) i

-- behind it
placed_back : (option number : ℕ) (back : List (List ℕ)) → option ≤ number → placed option number back ≡ numbered (number + 2) back
placed_back option number [] past = refl
placed_back option number (b ∷ bs) past =
    let here : nat_lt number option ≡ false = le-ltb number option past in
    let rest = placed_back option (number + 1) bs (omega (arith, past)) in
    let same : number + 1 + 2 ≡ number + 2 + 1 = omega arith in
    λ i. record { word = cond (here i) number (number + 2); text = b } ∷ (rest ∙ ap (λ n. numbered n bs) same) i

no_option : (word : List ℕ) → IsPlain word → bytes_eq word out_word ≡ false
no_option word plain = false_from_ne_true _ (λ e. no_option_word (subst IsPlain ((bytes_eq-Decides word out_word).0 e) plain))

place_behind : (front back : List (List ℕ)) → ArePlain front → option_place (front ++ out_word ∷ back) ≡ length front
place_behind [] back plain = refl
place_behind (f ∷ fs) back plain =
    ap (λ (b : Bool). cond b 0 (suc (option_place (fs ++ out_word ∷ back)))) (no_option f plain.0) ∙ ap (λ n. suc n) (place_behind fs back plain.1)

no_place : (words : List (List ℕ)) → ArePlain words → option_place words ≡ length words
no_place [] plain = refl
no_place (w ∷ ws) plain = ap (λ (b : Bool). cond b 0 (suc (option_place ws))) (no_option w plain.0) ∙ ap (λ n. suc n) (no_place ws plain.1)

-- the arguments of a run are its operands, with the numbers of their words
pub operands_are : (rest : List (List ℕ)) (out : Option (List ℕ)) (texts : List (List ℕ)) → HaveTexts rest out texts → HaveOperands rest out (placed (option_place (codes "run" ∷ rest)) 1 texts)
operands_are rest None texts have =
    let place : option_place (codes "run" ∷ rest) ≡ 1 + length rest = ap (λ n. suc n) (no_place rest have.0) ∙ omega arith in
    let all = placed_front (1 + length rest) 1 rest [] (omega arith) in
    (have.0, ap₂ (λ n ts. placed n 1 ts) place (have.1 ∙ sym (append-nil rest)) ∙ all ∙ append-nil (numbered 1 rest))
operands_are rest (Some dir) texts (front, back, split, front_plain, dir_plain, back_plain, joined) =
    let place : option_place (codes "run" ∷ rest) ≡ 1 + length front = ap (λ ws. option_place (codes "run" ∷ ws)) split ∙ ap (λ n. suc n) (place_behind front (dir ∷ back) front_plain) ∙ omega arith in
    let fronts = placed_front (1 + length front) 1 front back (omega arith) in
    let backs = placed_back (1 + length front) (1 + length front) back (omega arith) in
    let same : 1 + length front + 2 ≡ length front + 3 = omega arith in (
      front,
      back,
      split,
      front_plain,
      dir_plain,
      back_plain,
      ap₂ (λ n ts. placed n 1 ts) place joined ∙ fronts ∙ ap (λ os. numbered 1 front ++ os) (backs ∙ ap (λ n. numbered n back) same),
    )

-- ---- and back

numbered_texts : (n : ℕ) (words : List (List ℕ)) → map (λ (o : Operand). o.text) (numbered n words) ≡ words
numbered_texts n [] = refl
numbered_texts n (w ∷ ws) = ap (λ vs. w ∷ vs) (numbered_texts (n + 1) ws)

-- what has operands has arguments
pub texts_are : (rest : List (List ℕ)) (out : Option (List ℕ)) (operands : List Operand) → HaveOperands rest out operands → HaveTexts rest out (map (λ (o : Operand). o.text) operands)
texts_are rest None operands have = (have.0, ap (map (λ (o : Operand). o.text)) have.1 ∙ numbered_texts 1 rest)
texts_are rest (Some dir) operands (front, back, split, front_plain, dir_plain, back_plain, are) = (
  front,
  back,
  split,
  front_plain,
  dir_plain,
  back_plain,
  ap (map (λ (o : Operand). o.text)) are ∙ map-append (λ (o : Operand). o.text) (numbered 1 front) (numbered (length front + 3) back)
      ∙ ap₂ (λ a b. a ++ b) (numbered_texts 1 front) (numbered_texts (length front + 3) back),
)

-- the words of a run with no arguments mean nothing
pub unread_run : (words rest : List (List ℕ)) → words ≡ codes "run" ∷ rest → ((out : Option (List ℕ)) (texts : List (List ℕ)) → 0 < length texts → HaveTexts rest out texts → ⊥) → MeanNothing words
unread_run words rest begins none (rename file at name) mean = let e : codes "run" ∷ rest ≡ codes "rename" ∷ _ = sym begins ∙ mean.names.words_are in absurd cc
unread_run words rest begins none (run out script files) mean =
    let same : mean.names.rest ≡ rest = rest_same words mean.names.rest rest mean.names.begins begins in
    none out _ (omega arith) (texts_are rest out (script ∷ files) (subst (λ r. HaveOperands r out (script ∷ files)) same mean.names.operands))

-- nor do those of a run with two equal files
pub same_files : (words rest : List (List ℕ)) (out : Option (List ℕ)) (script : Operand) (files : List Operand) → words ≡ codes "run" ∷ rest → HaveOperands rest out (script ∷ files) → (Differ files → ⊥) → MeanNothing words
same_files words rest out script files begins have same (rename file at name) mean = let e : codes "run" ∷ rest ≡ codes "rename" ∷ _ = sym begins ∙ mean.names.words_are in absurd cc
same_files words rest out script files begins have same (run to script' files') mean =
    let rests : mean.names.rest ≡ rest = rest_same words mean.names.rest rest mean.names.begins begins in
    let one = one_operands rest to out (script' ∷ files') (script ∷ files) (subst (λ r. HaveOperands r to (script' ∷ files')) rests mean.names.operands) have in
    same (subst Differ (operand_tail _ _ _ _ one.1) mean.names.differ)

pub is_run : (words rest : List (List ℕ)) (out : Option (List ℕ)) (script : Operand) (files : List Operand) → words ≡ codes "run" ∷ rest → AreWords words → HaveOperands rest out (script ∷ files) → Differ files
    → Mean words (run out script files)
is_run words rest out script files begins are have differ = record {
  well_formed = are;
  names = record { rest = rest; begins = begins; operands = have; differ = differ };
}

-- ---- the operands as they are made

pub some_same : {A : Type 0} (a b : A) → Some a ≡ Some b → a ≡ b
some_same a b e = cc

placed_length : (option number : ℕ) (texts : List (List ℕ)) → length (placed option number texts) ≡ length texts
placed_length option number [] = refl
placed_length option number (t ∷ ts) = let rest = placed_length option (number + 1) ts in omega (arith, rest)

pub some_operands : (operands : List raw.Operand) (found texts : List (List ℕ)) (option : ℕ) → map operand_of operands ≡ placed option 1 found → found ≡ texts → 0 < length texts → 0 < length operands
some_operands operands found texts option are same some =
    let size = ap length are ∙ placed_length option 1 found ∙ ap length same in
    let raw_size = length-map operands operand_of in
    omega (arith, size, raw_size, some)

pub headed : (items : List raw.Operand) (script : raw.Operand) (rest : List raw.Operand) → 0 < length items → script ≡ get_or items 0 script → rest ≡ remove items 0
    → map operand_of items ≡ operand_of script ∷ map operand_of rest
headed [] script rest some first others = absurd (omega (arith, some))
headed (x ∷ xs) script rest some first others = λ i. operand_of (sym first i) ∷ map operand_of (sym others i)

pub widened : (words : List (List ℕ)) → MayWantMemory words → (fault : WordsFault) → IsArgumentsFault words fault → IsWordsFault words fault
widened words may Usage none = unread_run words may.rest may.begins (λ out texts some have. none may.rest out texts may.begins some have)
widened words may Memory memory = memory

-- all operands of a run
pub made_operands : (words rest : List (List ℕ)) (out : Option (List ℕ)) (texts found : List (List ℕ)) (option : ℕ) (operands : List Operand) → words ≡ codes "run" ∷ rest → HaveTexts rest out texts → found ≡ texts
    → option ≡ option_place words → operands ≡ placed option 1 found → HaveOperands rest out operands
made_operands words rest out texts found option operands begins have same at are =
    subst (λ os. HaveOperands rest out os) (sym (are ∙ ap₂ (λ n ts. placed n 1 ts) (at ∙ ap option_place begins) same)) (operands_are rest out texts have)
