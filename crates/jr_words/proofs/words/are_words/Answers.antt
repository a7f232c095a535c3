use Rattle.std.proofs.Common.{◌≡◌, ◌≤◌, ◌⊎◌, ◌∙◌, ◌<◌, ap, arith, length, refl, rules, string_bytes, subst, sym}
use Rattle.std.proofs.lemmas.Bool.{false≢true}
use Rattle.std.proofs.lemmas.List.{length-map}
use Rattle.jr_words.specs.Words.{IsPlain, out_word}
use Rattle.jr_words.proofs.WordLaws.{each_word, word_at}
use Rattle.jr_words.proofs.words.are_words.Goals as goal

pub returns-then-not-is_word : goal.returns-then-not-is_word
returns-then-not-is_word c =
    let below : c.loop-word.word-index < length c.args.words.now = search rules in (
      (λ e. absurd (false≢true e)),
      λ are.
          let such = word_at (λ word. IsPlain word ⊎ (word ≡ out_word)) c.args.words.now c.loop-word.word-index c.word-item.result below are.each in
          sym c.if-not-is_word.true ∙ c.is_word.ensures.1 (subst (λ word. IsPlain word ⊎ (word ≡ out_word)) (sym (c.as_str.ensures.value ∙ ap string_bytes c.word-item.is)) such),
    )

pub returns : goal.returns
returns c = (
  (λ e. record {
    count = subst (λ n. n ≤ 65536) (sym (length-map c.args.words.now string_bytes)) c.if-words.false;
    each = each_word _ c.args.words.now (λ k d below. c.loop-word.invariant k d (omega (arith, below, c.loop-word-test.false)));
  }),
  λ are. refl,
)
