-- Command lines of four words, and words that mean nothing.
use Rattle.std.proofs.Common.{◌≡◌, ◌≢◌, ◌∙◌, ap, drop, slice_get, Some, ◌⊎◌, ℕ, ◌<◌, ◌≤◌, List, [], ◌∷◌, length, get_or, map, slice_index, arith, codes, subst, refl, inl, string_bytes, String, zero, suc}
use Rattle.std.specs.List.{AllByRecursion}
use Rattle.std.specs.Char.{digit_value}
use Rattle.jr_words.specs.Asked.{IsNoRename}
use Rattle.jr_words.specs.Words.{IsPlain, IsPlace, Mean, MeanNothing, rename, run}

-- a list of four is its four elements
pub four : {A : Type 0} (xs : List A) (a b c d : A) → 4 ≤ length xs → length xs < 5 → a ≡ get_or xs 0 a → b ≡ get_or xs 1 b → c ≡ get_or xs 2 c → d ≡ get_or xs 3 d → xs ≡ a ∷ b ∷ c ∷ d ∷ []
four [] a b c d least below p q r s = absurd (omega arith)
four (x ∷ []) a b c d least below p q r s = absurd (omega arith)
four (x ∷ y ∷ []) a b c d least below p q r s = absurd (omega arith)
four (x ∷ y ∷ z ∷ []) a b c d least below p q r s = absurd (omega arith)
four (x ∷ y ∷ z ∷ w ∷ []) a b c d least below p q r s = cc
four (x ∷ y ∷ z ∷ w ∷ v ∷ rest) a b c d least below p q r s = absurd (omega arith)

-- the first byte of decimal digits is no `-`
no_option : (word : List ℕ) (at : ℕ) → IsPlace word at → slice_index word 0 ≢ 45
no_option [] at place first = absurd (omega (arith, place.numeral.0))
no_option (c ∷ cs) at place first = absurd (omega (arith, subst (λ d. digit_value d < 10) first place.numeral.1.0))

-- the words `rename FILE AT NAME` mean a rename
pub Mean-rename : (command file at name : List ℕ) (place : ℕ) → command ≡ codes "rename" → IsPlain file → IsPlain name → IsPlace at place → Mean (command ∷ file ∷ at ∷ name ∷ []) (rename file place name)
Mean-rename command file at name place first file_plain name_plain is_place =
    let at_plain : IsPlain at = record { some = is_place.numeral.0; no_option = no_option at place is_place } in
    let command_plain : IsPlain command = rw first (record { some = omega arith; no_option = λ e. cc }) in
    record {
      well_formed = record { count = omega arith; each = (inl command_plain, (inl file_plain, (inl at_plain, (inl name_plain, tt)))) };
      names = record { place = at; is_place = is_place; words_are = rw first refl; plain = (command_plain, (file_plain, (at_plain, (name_plain, tt)))) };
    }

-- words that are no rename and don't begin with `run` mean nothing
pub no_mean : (words : List (List ℕ)) → IsNoRename words → ((rest : List (List ℕ)) → words ≡ codes "run" ∷ rest → ⊥) → MeanNothing words
no_mean words is_none other (rename file at name) mean = is_none file at name mean.names
no_mean words is_none other (run out script files) mean = other mean.names.rest mean.names.begins

-- ---- each word

pub each_word : {Z : Type 0} (P : List ℕ → Type 0) (words : List (String Z)) → ((k : ℕ) (d : String Z) → k < length words → P (string_bytes (get_or words k d))) → AllByRecursion P (map string_bytes words)
each_word P [] at = tt
each_word P (w ∷ ws) at = (at 0 w (omega arith), each_word P ws (λ k d below. at (suc k) d (omega arith)))

pub word_at : {Z : Type 0} (P : List ℕ → Type 0) (words : List (String Z)) (k : ℕ) (d : String Z) → k < length words → AllByRecursion P (map string_bytes words) → P (string_bytes (get_or words k d))
word_at P [] k d below all = absurd (omega arith)
word_at P (w ∷ ws) zero d below all = all.0
word_at P (w ∷ ws) (suc k) d below all = word_at P ws k d (omega arith) all.1

-- a fact of all words of a line is one of its words, without the first
pub not_rename : (words : List (List ℕ)) → ((first : List ℕ) (rest : List (List ℕ)) → words ≡ first ∷ rest → first ≡ codes "run") → IsNoRename words
not_rename words begins file at name renames =
    let run_word : codes "rename" ≡ codes "run" = begins (codes "rename") _ renames.words_are in
    absurd cc

pub first_word : {Z : Type 0} (words : List (String Z)) (first : String Z) (text : List ℕ) → slice_get words 0 ≡ Some first → string_bytes first ≡ text
    → map string_bytes words ≡ text ∷ map string_bytes (drop 1 words)
first_word [] first text at is = absurd cc
first_word (w ∷ ws) first text at is = let same : w ≡ first = cc in ap (λ t. t ∷ map string_bytes ws) (ap string_bytes same ∙ is)
