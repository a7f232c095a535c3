-- What a walk from an item on finds: the longest tree, the item behind it, and where reading stops.
use Rattle.std.proofs.Common.{◌≡◌, ℕ, suc, zero, ◌+◌, ◌-◌, ◌<◌, ◌≤◌, Bool, true, false, List, [], ◌∷◌, ◌++◌, length, take, drop, get_or, Option, Some, None, refl, sym, ap, subst, ◌∙◌, arith, length-drop}
use Rattle.std.proofs.lemmas.List.{length-take-le}
use Rattle.std.specs.Prelude.{is_some, option_map, option_and_then, slice_range, IfSome, map}
use Rattle.jr_text.specs.declared.spans.Span.{Span}
use Rattle.jr_lex.specs.declared.items.Item.{Item}
use Rattle.jr_lex.specs.declared.items.ItemKind.{ItemKind}
use Rattle.jr_lex.specs.declared.items.ItemKind.TheVariants.{Token as TokenItem, Blank, Comment}
use Rattle.jr_ast.specs.Tree.{Exp}
use Rattle.jr_grammar.specs.Tokens.{Token, Placed, kinds, token_of, token_of_kind, with_placed, placed_of}
use Rattle.jr_grammar.specs.Stands.{Tokens}
use Rattle.jr_pexpr.specs.declared.rules.Rule.{Rule}
use Rattle.jr_pexpr.specs.declared.rules.Rule.TheVariants.{Expression, StatementExpression}
use Rattle.jr_pexpr.specs.Machine.{State, want}
use Rattle.jr_pexpr.specs.Marked.{span_whole}
use Rattle.jr_pexpr.specs.Runs.{best}
use Rattle.jr_pexpr.specs.Parsing.{with_number, token_numbers, tokens_from, item_of_token, item_behind}
use Rattle.jr_pexpr.specs.Walks.{rule_step, rule_whole, rule_run, rule_length, rule_stop, walk_end, walk_stop, walk_last}
use Rattle.jr_pexpr.proofs.Found.{at_some}
use Rattle.jr_pexpr.proofs.Marks.{kept_whole}
use Rattle.jr_pexpr.proofs.Scans.{Found, longest_found}
use Rattle.jr_pexpr.proofs.WalkLaws.{or_else, later, length_is, end_is, stop_is, last_is, whole_is}

-- ---- items up to a token

-- the items through token number m are so many, and hold so many tokens
record Through (bytes : List ℕ) (at : ℕ) (is : List Item) (m d : ℕ) : Type 0 where
  pub count : ℕ
  pub number : get_or (token_numbers at is) m d + 1 ≡ at + count
  pub within : count ≤ length is
  pub tokens : placed_of bytes (take count is) ≡ take (suc m) (placed_of bytes is)

through : (bytes : List ℕ) (at : ℕ) (is : List Item) (m d : ℕ) → m < length (placed_of bytes is) → Through bytes at is m d
through bytes at [] m d h = absurd (omega arith)
through bytes at (i ∷ is) m d h =
    let g = go i.kind m (λ n k. through bytes (at + 1) is n d k) h in
    record { count = suc g.0; number = g.1; within = omega (arith, g.2); tokens = g.3 }
  where
    Kind : ItemKind → ℕ → Type 0
    Kind k m =
        (c : ℕ) × (get_or (with_number k at (token_numbers (at + 1) is)) m d + 1 ≡ at + suc c) × (c ≤ length is)
        × (with_placed i.span (token_of bytes i.span k) (placed_of bytes (take c is)) ≡ take (suc m) (with_placed i.span (token_of bytes i.span k) (placed_of bytes is)))

    more : (c m : ℕ) → get_or (token_numbers (at + 1) is) m d + 1 ≡ at + 1 + c → get_or (token_numbers (at + 1) is) m d + 1 ≡ at + suc c
    more c m e = omega arith

    go : (k : ItemKind) (m : ℕ) → ((n : ℕ) → n < length (placed_of bytes is) → Through bytes (at + 1) is n d) → m < length (with_placed i.span (token_of bytes i.span k) (placed_of bytes is)) → Kind k m
    go (TokenItem k) zero f l = (0, refl, omega arith, refl)
    go (TokenItem k) (suc m) f l =
        let t = f m (omega arith) in
        (t.count, more t.count m t.number, t.within, ap (λ (ps : Tokens). record { mark = i.span; token = token_of_kind bytes i.span k } ∷ ps) t.tokens)
    go Blank m f l = let t = f m l in (t.count, more t.count m t.number, t.within, t.tokens)
    go Comment m f l = let t = f m l in (t.count, more t.count m t.number, t.within, t.tokens)

through_to : (bytes : List ℕ) (at : ℕ) (is : List Item) (m d : ℕ) (t : Through bytes at is m d) (k : ℕ) → k ≡ t.count → placed_of bytes (take k is) ≡ take (suc m) (placed_of bytes is)
through_to bytes at is m d t k e = ap (λ (k : ℕ). placed_of bytes (take k is)) e ∙ t.tokens

-- a token's number is that of an item
number_within : (at : ℕ) (is : List Item) (k d : ℕ) → at + length is ≤ d → get_or (token_numbers at is) k d ≤ d
number_within at [] k d h = omega arith
number_within at (i ∷ is) k d h = go i.kind k (λ n. number_within (at + 1) is n d (omega arith))
  where
    go : (kind : ItemKind) (k : ℕ) → ((n : ℕ) → get_or (token_numbers (at + 1) is) n d ≤ d) → get_or (with_number kind at (token_numbers (at + 1) is)) k d ≤ d
    go (TokenItem kind) zero f = omega arith
    go (TokenItem kind) (suc k) f = f k
    go Blank k f = f k
    go Comment k f = f k

-- ---- what is found

found_more : (f : ℕ → ℕ) (l : Option ℕ) (b : ℕ) → or_else None (option_map f l) ≡ Some b → (m : ℕ) × (l ≡ Some m) × (b ≡ f m)
found_more f (Some m) b h = (m, refl, cc)
found_more f None b h = absurd cc

found_none : (f : ℕ → ℕ) (l : Option ℕ) → or_else None (option_map f l) ≡ None → l ≡ None
found_none f (Some m) h = absurd cc
found_none f None h = refl

whole_want : (r : Rule) → rule_whole r (want []) ≡ None
whole_want Expression = refl
whole_want StatementExpression = refl

next_to : (from : ℕ) (is : List Item) (m d : ℕ) → get_or (token_numbers from is) m d + 1 ≡ get_or (token_numbers from is) (suc m - 1) d + 1
next_to from is m d =
    let n : m ≡ suc m - 1 = omega arith in
    ap (λ (k : ℕ). get_or (token_numbers from is) k d + 1) n

module _ (r : Rule) (bytes : List ℕ) (items : List Item) (from : ℕ) where
  abbrev ts : Tokens
  ts = tokens_from bytes items from

  abbrev is : List Item
  is = drop from items

  -- the longest tree, which the items up to this one spell
  pub record Finds (behind : ℕ) : Type 0 where
    pub taken : ℕ
    pub found : rule_length r (want []) ts ≡ Some taken
    pub ends : behind ≡ item_behind items from taken
    pub state : State Span
    pub tree : Exp Span
    pub run_to : rule_run r (want []) (take taken ts) ≡ Some state
    pub is_whole : rule_whole r state ≡ Some tree
    pub tokens : placed_of bytes (slice_range items from behind) ≡ take taken ts
    pub within : behind ≤ length items

  length_want : (l : Option ℕ) → later r bytes (want []) ts ≡ l → rule_length r (want []) ts ≡ best {T = Exp Span} None l
  length_want l e =
      length_is r bytes (want []) ts ∙ ap (λ (w : Option (Exp Span)). best w (later r bytes (want []) ts)) (whole_want r) ∙ ap (best {T = Exp Span} None) e

  pub finds : (b : ℕ) → from ≤ length items → walk_end r bytes (want []) from None is ≡ Some b → Finds b
  finds b h e =
      let d = length items in
      let g = found_more (λ m. get_or (token_numbers from is) m d + 1) (later r bytes (want []) ts) b (sym (end_is r bytes d (want []) from None is) ∙ e) in
      let m = g.0 in
      let l : rule_length r (want []) ts ≡ Some (suc m) = length_want (Some m) g.1 in
      let f = at_some (rule_length r (want []) ts) (suc m) (Found (State Span) (Placed Span) (Exp Span) (rule_step r) (rule_whole r) (want []) ts) l
      (longest_found (State Span) (Placed Span) (Exp Span) (rule_step r) (rule_whole r) (want []) ts) in
      let t = through bytes from is m d (omega (arith, f.within)) in
      let n : b - from ≡ t.count = omega (arith, g.2, t.number) in
      record {
        taken = suc m;
        found = l;
        ends = g.2 ∙ next_to from is m d;
        state = f.state;
        tree = f.tree;
        run_to = f.run_to;
        is_whole = f.is_whole;
        tokens = through_to bytes from is m d t (b - from) n;
        within = omega (arith, g.2, t.number, t.within, length-drop from items);
      }

  pub finds_none : walk_end r bytes (want []) from None is ≡ None → rule_length r (want []) ts ≡ None
  finds_none e =
      length_want None (found_none (λ m. get_or (token_numbers from is) m 0 + 1) (later r bytes (want []) ts) (sym (end_is r bytes 0 (want []) from None is) ∙ e))

  pub stops : from ≤ length items → walk_stop r bytes (want []) from is ≡ item_of_token items from (rule_stop r (want []) ts)
  stops h =
      stop_is r bytes (want []) from is
      ∙ ap (λ (d : ℕ). get_or (token_numbers from is) (rule_stop r (want []) ts) d) (omega (arith, length-drop from items))

  pub stop_within : from ≤ length items → walk_stop r bytes (want []) from is ≤ length items
  stop_within h =
      let le = number_within from is (rule_stop r (want []) ts) (length items) (omega (arith, length-drop from items)) in
      omega (arith, le, stops h)

  pub whole_found : (b : ℕ) → Finds b → (s : State Span) → s ≡ walk_last r bytes (want []) is → is_some (rule_whole r s) ≡ true → rule_run r (want []) (placed_of bytes (slice_range items from b)) ≡ Some s
  whole_found b f s e w =
      let all = whole_is r bytes (want []) is (subst (λ (s : State Span). is_some (rule_whole r s) ≡ true) e w) in
      let same : Some f.taken ≡ Some (rule_stop r (want []) ts) = sym f.found ∙ all in
      let n : f.taken ≡ rule_stop r (want []) ts = cc in
      ap (rule_run r (want [])) (f.tokens ∙ ap (λ (k : ℕ). take k ts) n) ∙ last_is r bytes (want []) is ∙ ap (λ (s : State Span). Some s) (sym e)

-- what is whole for a rule is whole
pub whole_for : (r : Rule) (s : State Span) (e : Exp Span) → rule_whole r s ≡ Some e → span_whole s ≡ Some e
whole_for Expression s e h = h
whole_for StatementExpression s e h = kept_whole (span_whole s) e h

pub tree_is : (r : Rule) (bytes : List ℕ) (items : List Item) (from b : ℕ) → (f : Finds r bytes items from b) → option_and_then span_whole (rule_run r (want []) (placed_of bytes (slice_range items from b))) ≡ Some f.tree
tree_is r bytes items from b f =
    ap (λ (ps : Tokens). option_and_then span_whole (rule_run r (want []) ps)) f.tokens ∙ ap (option_and_then span_whole) f.run_to ∙ whole_for r f.state f.tree f.is_whole
