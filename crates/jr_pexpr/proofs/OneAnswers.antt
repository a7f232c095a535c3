-- What is read from an item on is one.
use Rattle.std.proofs.Common.{◌≡◌, ℕ, List, drop, take, sym, ap, subst, ◌∙◌}
use Rattle.jr_text.specs.declared.spans.Span.{Span}
use Rattle.jr_lex.specs.declared.items.Item.{Item}
use Rattle.jr_ast.specs.Tree.{Exp}
use Rattle.jr_grammar.specs.Tokens.{Token, kinds}
use Rattle.jr_grammar.specs.Stands.{Tokens}
use Rattle.jr_grammar.specs.Bare.{Bare, bare}
use Rattle.jr_pexpr.specs.Parsing.{tokens_from, item_of_token, item_behind, byte_of_item, StopsAt, IsReadFrom, IsNoneFrom, OneAnswer}

module _ (IsLongest : List Token → ℕ → Exp Bare → Type 0) (HasNone : List Token → Type 0) (IsStop : List Token → ℕ → Type 0) (IsMarked : Tokens → Exp Span → Type 0)
    (one_stop : (ts : List Token) (n m : ℕ) → IsStop ts n → IsStop ts m → n ≡ m)
    (one_longest : (ts : List Token) (n m : ℕ) (a b : Exp Bare) → IsLongest ts n a → IsLongest ts m b → n ≡ m)
    (never_both : (ts : List Token) (n : ℕ) (tree : Exp Bare) → IsLongest ts n tree → HasNone ts → ⊥)
    (one_marked : (ts : Tokens) (a b : Exp Span) → IsMarked ts a → IsMarked ts b → a ≡ b) where
  stops : (bytes : List ℕ) (items : List Item) (from i j : ℕ) → StopsAt IsLongest HasNone IsStop IsMarked bytes items from i → StopsAt IsLongest HasNone IsStop IsMarked bytes items from j → i ≡ j
  stops bytes items from i j s t =
      s.item ∙ ap (item_of_token items from) (one_stop (kinds (tokens_from bytes items from)) s.tokens_read t.tokens_read s.exact t.exact) ∙ sym t.item

  pub one_answer : OneAnswer (IsReadFrom IsLongest HasNone IsStop IsMarked) (IsNoneFrom IsLongest HasNone IsStop IsMarked)
  one_answer = record {
    tree = λ bytes items from a b i j m n x y.
        let ts = tokens_from bytes items from in
        let taken = one_longest (kinds ts) x.tokens_taken y.tokens_taken (bare a) (bare b) x.longest y.longest in
        one_marked (take y.tokens_taken ts) a b (subst (λ (k : ℕ). IsMarked (take k ts) a) taken x.marked) y.marked;
    behind = λ bytes items from a b i j m n x y.
        x.ends ∙ ap (item_behind items from) (one_longest (kinds (tokens_from bytes items from)) x.tokens_taken y.tokens_taken (bare a) (bare b) x.longest y.longest) ∙ sym y.ends;
    stop = λ bytes items from a b i j m n x y. stops bytes items from m n x.stops y.stops;
    fault = λ bytes items from i j x y. x.byte ∙ ap (byte_of_item bytes items) (stops bytes items from x.stop y.stop x.stops y.stops) ∙ sym y.byte;
    never_both = λ bytes items from a i m at x y. never_both (kinds (tokens_from bytes items from)) x.tokens_taken (bare a) x.longest y.none;
  }
