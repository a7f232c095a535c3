-- What a walk over items finds, by what the machine finds over their tokens.
use Rattle.std.proofs.Common.{◌≡◌, ℕ, suc, ◌+◌, ◌-◌, ◌<◌, ◌≤◌, Bool, true, false, List, [], ◌∷◌, ◌++◌, length, take, drop, get_or, Option, Some, None, refl, sym, ap, subst, ◌∙◌, arith}
use Rattle.std.specs.Prelude.{is_some, option_map, option_and_then, unwrap_or}
use Rattle.jr_text.specs.declared.spans.Span.{Span}
use Rattle.jr_lex.specs.declared.items.Item.{Item}
use Rattle.jr_lex.specs.declared.items.ItemKind.{ItemKind}
use Rattle.jr_lex.specs.declared.items.ItemKind.TheVariants.{Token as TokenItem, Blank, Comment}
use Rattle.jr_ast.specs.Tree.{Exp}
use Rattle.jr_grammar.specs.Tokens.{Token, Placed, token_of, token_of_kind, with_placed, placed_of}
use Rattle.jr_grammar.specs.Stands.{Tokens}
use Rattle.jr_pexpr.specs.declared.rules.Rule.{Rule}
use Rattle.jr_pexpr.specs.Machine.{State, want}
use Rattle.jr_pexpr.specs.Runs.{best, one_more}
use Rattle.jr_pexpr.specs.ExpView.{placed}
use Rattle.jr_pexpr.specs.Parsing.{with_number, token_numbers}
use Rattle.jr_pexpr.specs.Walks.{rule_step, rule_whole, rule_run, rule_length, rule_stop, next_of, end_at, walk_end, walk_stop, walk_last}

-- what was found before, unless more is found
abbrev pub or_else : Option ℕ → Option ℕ → Option ℕ
or_else end None = end
or_else end (Some n) = Some n

module _ (r : Rule) (bytes : List ℕ) where
  -- how many tokens behind the next the longest takes that takes the next
  abbrev pub later : State Span → Tokens → Option ℕ
  later s [] = None
  later s (t ∷ ts) = option_and_then (λ (n : State Span). rule_length r n ts) (rule_step r s t)

  pub length_is : (s : State Span) (ts : Tokens) → rule_length r s ts ≡ best (rule_whole r s) (later s ts)
  length_is s [] = refl
  length_is s (t ∷ ts) = refl

  -- ---- the end

  -- the item behind a token
  abbrev behind : ℕ → List ℕ → Option ℕ → Option ℕ
  behind d numbers o = option_map (λ m. get_or numbers m d + 1) o

  end_here : (d at : ℕ) (numbers : List ℕ) (end : Option ℕ) (n : State Span) (w : Option (Exp Span)) (l : Option ℕ) → rule_whole r n ≡ w
      → or_else (end_at r bytes n (at + 1) end) (behind d numbers l) ≡ or_else end (behind d (at ∷ numbers) (best w l))
  end_here d at numbers end n None (Some m) h = refl
  end_here d at numbers end n (Some e) (Some m) h = refl
  end_here d at numbers end n None None h = rw h refl
  end_here d at numbers end n (Some e) None h = rw h refl

  pub end_is : (d : ℕ) (s : State Span) (at : ℕ) (end : Option ℕ) (is : List Item) → walk_end r bytes s at end is ≡ or_else end (behind d (token_numbers at is) (later s (placed_of bytes is)))
  end_is d s at end [] = refl
  end_is d s at end (i ∷ is) = go i.kind (λ n e. end_is d n (at + 1) e is)
    where
      stepped : (t : Placed Span) (o : Option (State Span))
          → ((n : State Span) (e : Option ℕ) → walk_end r bytes n (at + 1) e is ≡ or_else e (behind d (token_numbers (at + 1) is) (later n (placed_of bytes is))))
          → unwrap_or (option_map (λ (n : State Span). walk_end r bytes n (at + 1) (end_at r bytes n (at + 1) end) is) o) end
          ≡ or_else end (behind d (at ∷ token_numbers (at + 1) is) (option_and_then (λ (n : State Span). rule_length r n (placed_of bytes is)) o))
      stepped t None f = refl
      stepped t (Some n) f =
          f n (end_at r bytes n (at + 1) end)
          ∙ end_here d at (token_numbers (at + 1) is) end n (rule_whole r n) (later n (placed_of bytes is)) refl
          ∙ ap (λ (l : Option ℕ). or_else end (behind d (at ∷ token_numbers (at + 1) is) l)) (sym (length_is n (placed_of bytes is)))

      go : (k : ItemKind) → ((n : State Span) (e : Option ℕ) → walk_end r bytes n (at + 1) e is ≡ or_else e (behind d (token_numbers (at + 1) is) (later n (placed_of bytes is))))
          → unwrap_or
          (option_map (λ (token : Token). unwrap_or (option_map (λ (n : State Span). walk_end r bytes n (at + 1) (end_at r bytes n (at + 1) end) is) (rule_step r s (placed i.span token))) end) (token_of bytes i.span k))
          (walk_end r bytes s (at + 1) end is)
          ≡ or_else end (behind d (with_number k at (token_numbers (at + 1) is)) (later s (with_placed i.span (token_of bytes i.span k) (placed_of bytes is))))
      go (TokenItem k) f = let t = placed i.span (token_of_kind bytes i.span k) in stepped t (rule_step r s t) f
      go Blank f = f s end
      go Comment f = f s end

  -- ---- the stop

  pub stop_is : (s : State Span) (at : ℕ) (is : List Item) → walk_stop r bytes s at is ≡ get_or (token_numbers at is) (rule_stop r s (placed_of bytes is)) (at + length is)
  stop_is s at [] = omega arith
  stop_is s at (i ∷ is) = go i.kind (λ n. stop_is n (at + 1) is)
    where
      more : at + 1 + length is ≡ at + length (i ∷ is)
      more = omega arith

      stepped : (o : Option (State Span)) → ((n : State Span) → walk_stop r bytes n (at + 1) is ≡ get_or (token_numbers (at + 1) is) (rule_stop r n (placed_of bytes is)) (at + 1 + length is))
          → unwrap_or (option_map (λ (n : State Span). walk_stop r bytes n (at + 1) is) o) at
          ≡ get_or (at ∷ token_numbers (at + 1) is) (one_more (option_map (λ (n : State Span). rule_stop r n (placed_of bytes is)) o)) (at + length (i ∷ is))
      stepped None f = refl
      stepped (Some n) f = f n ∙ ap (λ (d : ℕ). get_or (token_numbers (at + 1) is) (rule_stop r n (placed_of bytes is)) d) more

      go : (k : ItemKind) → ((n : State Span) → walk_stop r bytes n (at + 1) is ≡ get_or (token_numbers (at + 1) is) (rule_stop r n (placed_of bytes is)) (at + 1 + length is))
          → unwrap_or (option_map (λ (n : State Span). walk_stop r bytes n (at + 1) is) (next_of r s i.span (token_of bytes i.span k))) at
          ≡ get_or (with_number k at (token_numbers (at + 1) is)) (rule_stop r s (with_placed i.span (token_of bytes i.span k) (placed_of bytes is))) (at + length (i ∷ is))
      go (TokenItem k) f = stepped (rule_step r s (placed i.span (token_of_kind bytes i.span k))) f
      go Blank f = f s ∙ ap (λ (d : ℕ). get_or (token_numbers (at + 1) is) (rule_stop r s (placed_of bytes is)) d) more
      go Comment f = f s ∙ ap (λ (d : ℕ). get_or (token_numbers (at + 1) is) (rule_stop r s (placed_of bytes is)) d) more

  -- ---- the state there

  abbrev Reached : State Span → Tokens → State Span → Type 0
  Reached s ts last = rule_run r s (take (rule_stop r s ts) ts) ≡ Some last

  pub last_is : (s : State Span) (is : List Item) → Reached s (placed_of bytes is) (walk_last r bytes s is)
  last_is s [] = refl
  last_is s (i ∷ is) = go i.kind (λ n. last_is n is)
    where
      stepped : (t : Placed Span) (o : Option (State Span)) → rule_step r s t ≡ o → ((n : State Span) → Reached n (placed_of bytes is) (walk_last r bytes n is))
          → rule_run r s (take (one_more (option_map (λ (n : State Span). rule_stop r n (placed_of bytes is)) o)) (t ∷ placed_of bytes is)) ≡ Some (unwrap_or (option_map (λ (n : State Span). walk_last r bytes n is) o) s)
      stepped t None e f = refl
      stepped t (Some n) e f = ap (option_and_then (λ (n2 : State Span). rule_run r n2 (take (rule_stop r n (placed_of bytes is)) (placed_of bytes is)))) e ∙ f n

      go : (k : ItemKind) → ((n : State Span) → Reached n (placed_of bytes is) (walk_last r bytes n is))
          → Reached s (with_placed i.span (token_of bytes i.span k) (placed_of bytes is)) (unwrap_or (option_map (λ (n : State Span). walk_last r bytes n is) (next_of r s i.span (token_of bytes i.span k))) s)
      go (TokenItem k) f = let t = placed i.span (token_of_kind bytes i.span k) in stepped t (rule_step r s t) refl f
      go Blank f = f s
      go Comment f = f s

  best_here : (w : Option (Exp Span)) → is_some w ≡ true → best w None ≡ Some 0
  best_here (Some e) h = refl
  best_here None h = absurd cc

  best_on : (w : Option (Exp Span)) (l : Option ℕ) (n : ℕ) → l ≡ Some n → best w l ≡ Some (suc n)
  best_on w l n e = ap (best w) e

  abbrev Whole : State Span → Type 0
  Whole s = is_some (rule_whole r s) ≡ true

  -- where what has been read is whole there, all of it is the longest
  pub whole_is : (s : State Span) (is : List Item) → Whole (walk_last r bytes s is) → rule_length r s (placed_of bytes is) ≡ Some (rule_stop r s (placed_of bytes is))
  whole_is s [] h = best_here (rule_whole r s) h
  whole_is s (i ∷ is) h = go i.kind (λ n. whole_is n is) h
    where
      stepped : (t : Placed Span) (o : Option (State Span)) → rule_step r s t ≡ o → ((n : State Span) → Whole (walk_last r bytes n is) → rule_length r n (placed_of bytes is) ≡ Some (rule_stop r n (placed_of bytes is)))
          → Whole (unwrap_or (option_map (λ (n : State Span). walk_last r bytes n is) o) s)
          → best (rule_whole r s) (option_and_then (λ (n : State Span). rule_length r n (placed_of bytes is)) o) ≡ Some (one_more (option_map (λ (n : State Span). rule_stop r n (placed_of bytes is)) o))
      stepped t None e f w = best_here (rule_whole r s) w
      stepped t (Some n) e f w = best_on (rule_whole r s) (rule_length r n (placed_of bytes is)) (rule_stop r n (placed_of bytes is)) (f n w)

      go : (k : ItemKind) → ((n : State Span) → Whole (walk_last r bytes n is) → rule_length r n (placed_of bytes is) ≡ Some (rule_stop r n (placed_of bytes is)))
          → Whole (unwrap_or (option_map (λ (n : State Span). walk_last r bytes n is) (next_of r s i.span (token_of bytes i.span k))) s)
          → rule_length r s (with_placed i.span (token_of bytes i.span k) (placed_of bytes is)) ≡ Some (rule_stop r s (with_placed i.span (token_of bytes i.span k) (placed_of bytes is)))
      go (TokenItem k) f w = let t = placed i.span (token_of_kind bytes i.span k) in stepped t (rule_step r s t) refl f w
      go Blank f w = f s w
      go Comment f w = f s w
