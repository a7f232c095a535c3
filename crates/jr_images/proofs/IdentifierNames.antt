-- Names that are identifiers: they have no dot, and the prelude's are such.
use Rattle.std.proofs.Common.{◌≡◌, ℕ, zero, suc, ◌<◌, List, [], ◌∷◌, length, Bool, true, false, ◌&&◌, refl, sym, ap, subst, ◌∙◌, inl, inr, arith}
use Rattle.std.specs.Prelude.{codes, nat_lt}
use Rattle.std.specs.List.{position_or_len, list_any, slice_index}
use Rattle.std.specs.Str.{NoCharPasses, NonePass, chars}
use Rattle.std.proofs.lemmas.Bool.{cases_Bool, eqb-true, both_ways, ltb-true}
use Rattle.std.proofs.lemmas.List.Sums.{position_or_len_is}
use Rattle.std.proofs.lemmas.Str.{encodes-chars, IsUtf8-from_ascii, chars-IsAscii, NoCharPasses-byte}
use Rattle.std.proofs.Math.ListN.{get_or}
use Rattle.unicode_ident.proofs.Computing.{unicode_ident}
use Rattle.jr_lex.specs.declared.items.Keyword.{Keyword}
use Rattle.jr_lex.specs.declared.items.Keyword.TheVariants as keyword
use Rattle.jr_lex.specs.Characters.{is_word_start, is_word_part, all_pass}
use Rattle.jr_lex.specs.Words.{IsWord, keyword_text}
use Rattle.jr_lex.specs.Replacing.{IsName}
use Rattle.jr_table.specs.SameKeys.{same_name}
use Rattle.jr_spell.specs.Binds.{is_dot}

-- ---- no dot

dot_starts_none : is_word_start 46 ≡ false
unfolding is_word_start unicode_ident
dot_starts_none = refl

dot_is_no_part : is_word_part 46 ≡ false
unfolding is_word_part unicode_ident
dot_is_no_part = refl

-- a character that passes a test which a dot doesn't is none
no_dot : (p : ℕ → Bool) (c : ℕ) → p 46 ≡ false → p c ≡ true → is_dot c ≡ false
no_dot p c out h =
    elim (cases_Bool (is_dot c)) [
      | inl e ↦ absurd (both_ways (p 46) out (subst (λ (n : ℕ). p n ≡ true) (eqb-true c 46 e) h))
      | inr e ↦ e
    ]

first_of : (a b : Bool) → a && b ≡ true → a ≡ true
first_of true b h = refl
first_of false b h = absurd cc

second_of : (a b : Bool) → a && b ≡ true → b ≡ true
second_of true b h = h
second_of false b h = absurd cc

none_in : (cs : List ℕ) → all_pass is_word_part cs ≡ true → NonePass is_dot cs
none_in [] h = tt
none_in (c ∷ cs) h =
    (no_dot is_word_part c dot_is_no_part (first_of (is_word_part c) (all_pass is_word_part cs) h), none_in cs (second_of (is_word_part c) (all_pass is_word_part cs) h))

none_in_word : (cs : List ℕ) → IsWord cs → NonePass is_dot cs
none_in_word [] h = absurd h
none_in_word (c ∷ cs) h = (no_dot is_word_start c dot_starts_none h.0, none_in cs h.1)

-- no byte of an identifier is a dot
pub without_dot : (name : List ℕ) → IsName name → position_or_len is_dot name ≡ length name
without_dot name n =
    let none : NoCharPasses is_dot name = (chars name, encodes-chars name n.is_text, none_in_word (chars name) n.is_identifier.is_word) in
    position_or_len_is is_dot name (length name) 0 (omega arith) (λ k inside. byte none k inside) (λ h. absurd (omega (arith, h)))
  where
    byte : NoCharPasses is_dot name → (k : ℕ) → k < length name → is_dot (get_or name k 0) ≡ false
    byte none k inside =
        elim (cases_Bool (is_dot (get_or name k 0))) [
          | inl e ↦ let is : get_or name k 0 ≡ 46 = eqb-true (get_or name k 0) 46 e in NoCharPasses-byte is_dot name k none inside (omega (arith, is))
          | inr e ↦ e
        ]

-- ---- the prelude's names

abbrev prelude_names : List (List ℕ)
prelude_names = codes "Object" ∷ codes "String" ∷ codes "Class" ∷ codes "Thread" ∷ codes "run" ∷ codes "start" ∷ []

abbrev is_prelude_name : List ℕ → Bool
is_prelude_name name = list_any (same_name name) prelude_names

keyword_is_none : (k : Keyword) → is_prelude_name (keyword_text k) ≡ false
keyword_is_none keyword.Abstract = refl
keyword_is_none keyword.Assert = refl
keyword_is_none keyword.Boolean = refl
keyword_is_none keyword.Break = refl
keyword_is_none keyword.Byte = refl
keyword_is_none keyword.Case = refl
keyword_is_none keyword.Catch = refl
keyword_is_none keyword.Char = refl
keyword_is_none keyword.Class = refl
keyword_is_none keyword.Const = refl
keyword_is_none keyword.Continue = refl
keyword_is_none keyword.Default = refl
keyword_is_none keyword.Do = refl
keyword_is_none keyword.Double = refl
keyword_is_none keyword.Else = refl
keyword_is_none keyword.Enum = refl
keyword_is_none keyword.Extends = refl
keyword_is_none keyword.Final = refl
keyword_is_none keyword.Finally = refl
keyword_is_none keyword.Float = refl
keyword_is_none keyword.For = refl
keyword_is_none keyword.Goto = refl
keyword_is_none keyword.If = refl
keyword_is_none keyword.Implements = refl
keyword_is_none keyword.Import = refl
keyword_is_none keyword.Instanceof = refl
keyword_is_none keyword.Int = refl
keyword_is_none keyword.Interface = refl
keyword_is_none keyword.Long = refl
keyword_is_none keyword.Native = refl
keyword_is_none keyword.New = refl
keyword_is_none keyword.Package = refl
keyword_is_none keyword.Private = refl
keyword_is_none keyword.Protected = refl
keyword_is_none keyword.Public = refl
keyword_is_none keyword.Return = refl
keyword_is_none keyword.Short = refl
keyword_is_none keyword.Static = refl
keyword_is_none keyword.Strictfp = refl
keyword_is_none keyword.Super = refl
keyword_is_none keyword.Switch = refl
keyword_is_none keyword.Synchronized = refl
keyword_is_none keyword.This = refl
keyword_is_none keyword.Throw = refl
keyword_is_none keyword.Throws = refl
keyword_is_none keyword.Transient = refl
keyword_is_none keyword.Try = refl
keyword_is_none keyword.Void = refl
keyword_is_none keyword.Volatile = refl
keyword_is_none keyword.While = refl
keyword_is_none keyword.True = refl
keyword_is_none keyword.False = refl
keyword_is_none keyword.Null = refl

abbrev are_ascii : List ℕ → Bool
are_ascii [] = true
are_ascii (c ∷ cs) = nat_lt c 128 && are_ascii cs

ascii_at : (bs : List ℕ) → are_ascii bs ≡ true → (i : ℕ) → slice_index bs i < 128
ascii_at [] h zero = omega arith
ascii_at [] h (suc i) = omega arith
ascii_at (c ∷ cs) h zero = ltb-true c 128 (first_of (nat_lt c 128) (are_ascii cs) h)
ascii_at (c ∷ cs) h (suc i) = ascii_at cs (second_of (nat_lt c 128) (are_ascii cs) h) i

-- ASCII letters that are a word and a name of the prelude are an identifier
prelude_name : (name : List ℕ) → are_ascii name ≡ true → IsWord name → is_prelude_name name ≡ true → IsName name
prelude_name name plain word is = let same : chars name ≡ name = chars-IsAscii name (ascii_at name plain) in record {
  is_text = IsUtf8-from_ascii name (ascii_at name plain);
  is_identifier = record {
    is_word = subst IsWord (sym same) word;
    is_no_keyword = λ k e. both_ways (is_prelude_name name) (ap is_prelude_name (sym same ∙ e) ∙ keyword_is_none k) is;
  };
}

pub object_name : IsName (codes "Object")
unfolding is_word_start is_word_part unicode_ident
object_name = prelude_name (codes "Object") refl (refl, refl) refl

pub string_name : IsName (codes "String")
unfolding is_word_start is_word_part unicode_ident
string_name = prelude_name (codes "String") refl (refl, refl) refl

pub class_name : IsName (codes "Class")
unfolding is_word_start is_word_part unicode_ident
class_name = prelude_name (codes "Class") refl (refl, refl) refl

pub thread_name : IsName (codes "Thread")
unfolding is_word_start is_word_part unicode_ident
thread_name = prelude_name (codes "Thread") refl (refl, refl) refl

pub run_name : IsName (codes "run")
unfolding is_word_start is_word_part unicode_ident
run_name = prelude_name (codes "run") refl (refl, refl) refl

pub start_name : IsName (codes "start")
unfolding is_word_start is_word_part unicode_ident
start_name = prelude_name (codes "start") refl (refl, refl) refl
