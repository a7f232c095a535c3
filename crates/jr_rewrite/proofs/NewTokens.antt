-- What the new nodes spell, by what is chosen for their words.
use Rattle.std.proofs.Common.{◌≡◌, ℕ, List, [], ◌∷◌, ◌++◌, Some, None, refl, sym, ap, ◌∙◌, append_assoc}
use Rattle.jr_lex.specs.declared.items.Symbol.TheVariants.{OpenParen, CloseParen, Dot}
use Rattle.jr_lex.specs.declared.items.Keyword.TheVariants.{Super}
use Rattle.jr_ast.specs.Tree as tree
use Rattle.jr_grammar.specs.Tokens.{word, symbol, keyword}
use Rattle.jr_grammar.specs.Spelling.{toks, target_toks, type_toks}
use Rattle.jr_rewrite.specs.Respellings.{Front, same, alone, by_this, by_super, by_cast_this, by_class, by_outer_class, by_cast, Choice, stays, becomes, loses, front_of, text_of}
use Rattle.jr_rewrite.specs.Rewritten.{word_to, operand_to, variable_on, variable_to, super_to, target_of, qualifier_to}
use Rattle.jr_rewrite.specs.Suitable.{Suits, MayStandAlone, MayStandBeforeVariable, MayStandBeforeMethod, MayStandBeforeType, MayStandFor}
use Rattle.jr_rewrite.proofs.Parts.{respelled_parts, tokens}
use Rattle.jr_rewrite.proofs.WordSteps.{chosen, behind_dot, dotted_chosen, qualified_chosen, super_chosen}

-- a word with nothing in front
pub chosen_alone : (h : Choice) (t : List ℕ) → Suits MayStandAlone h → chosen h t ≡ word (text_of h t) ∷ []
chosen_alone stays t suits = refl
chosen_alone (loses l) t suits = refl
chosen_alone (becomes r) t suits = by_front r.front suits.2
  where
    by_front : (f : Front) → MayStandAlone f → tokens (respelled_parts f r.text) ≡ word r.text ∷ []
    by_front same may = refl
    by_front alone may = refl
    by_front by_this may = absurd may
    by_front by_super may = absurd may
    by_front (by_cast_this k) may = absurd may
    by_front (by_class k) may = absurd may
    by_front (by_outer_class o k) may = absurd may
    by_front (by_cast k) may = absurd may

module _ {A : Type 0} (m : A) (w : tree.Word A) where
  -- `x`
  pub name_toks : (h : Choice) → Suits MayStandBeforeVariable h → chosen h w.text ≡ toks (variable_to m (front_of h) None (word_to h w))
  name_toks stays suits = refl
  name_toks (loses l) suits = refl
  name_toks (becomes r) suits = by_front r.front suits.2
    where
      by_front : (f : Front) → MayStandBeforeVariable f → tokens (respelled_parts f r.text) ≡ toks (variable_to m f None (record { mark = w.mark; text = r.text }))
      by_front same may = refl
      by_front alone may = refl
      by_front by_this may = refl
      by_front by_super may = refl
      by_front (by_cast_this k) may = refl
      by_front (by_class k) may = refl
      by_front (by_outer_class o k) may = refl
      by_front (by_cast k) may = absurd may

  -- `super.x`
  pub super_field_toks : (h : Choice) → Suits MayStandBeforeVariable h → super_chosen h w.text (keyword Super ∷ []) ≡ toks (super_to m (front_of h) (word_to h w))
  super_field_toks stays suits = refl
  super_field_toks (loses l) suits = refl
  super_field_toks (becomes r) suits = by_front r.front suits.2
    where
      by_front : (f : Front) → MayStandBeforeVariable f
          → super_chosen (becomes (record { text = r.text; front = f })) w.text (keyword Super ∷ []) ≡ toks (super_to m f (record { mark = w.mark; text = r.text }))
      by_front same may = refl
      by_front alone may = refl
      by_front by_this may = refl
      by_front by_super may = refl
      by_front (by_cast_this k) may = refl
      by_front (by_class k) may = refl
      by_front (by_outer_class o k) may = refl
      by_front (by_cast k) may = absurd may

  -- `m`, of a call
  pub simple_call_toks : (h : Choice) → Suits MayStandBeforeMethod h
      → chosen h w.text ≡ target_toks (target_of (operand_to m (front_of h) None)) ++ (word (text_of h w.text) ∷ [])
  simple_call_toks stays suits = refl
  simple_call_toks (loses l) suits = refl
  simple_call_toks (becomes r) suits = by_front r.front suits.2
    where
      by_front : (f : Front) → MayStandBeforeMethod f → tokens (respelled_parts f r.text) ≡ target_toks (target_of (operand_to m f None)) ++ (word r.text ∷ [])
      by_front same may = refl
      by_front alone may = refl
      by_front by_this may = refl
      by_front by_super may = absurd may
      by_front (by_cast_this k) may = refl
      by_front (by_class k) may = refl
      by_front (by_outer_class o k) may = refl
      by_front (by_cast k) may = absurd may

  -- a class as a type
  pub simple_type_toks : (h : Choice) → Suits MayStandBeforeType h → chosen h w.text ≡ type_toks (tree.named m (qualifier_to m (front_of h) None) (word_to h w))
  simple_type_toks stays suits = refl
  simple_type_toks (loses l) suits = refl
  simple_type_toks (becomes r) suits = by_front r.front suits.2
    where
      by_front : (f : Front) → MayStandBeforeType f → tokens (respelled_parts f r.text) ≡ type_toks (tree.named m (qualifier_to m f None) (record { mark = w.mark; text = r.text }))
      by_front same may = refl
      by_front alone may = refl
      by_front by_this may = absurd may
      by_front by_super may = absurd may
      by_front (by_cast_this k) may = absurd may
      by_front (by_class k) may = refl
      by_front (by_outer_class o k) may = absurd may
      by_front (by_cast k) may = absurd may

  pub qualified_type_toks : (v : tree.Word A) (p h : Choice) → Suits MayStandBeforeType h
      → qualified_chosen h w.text (word (text_of p v.text) ∷ []) ≡ type_toks (tree.named m (qualifier_to m (front_of h) (Some (word_to p v))) (word_to h w))
  qualified_type_toks v p stays suits = refl
  qualified_type_toks v p (loses l) suits = refl
  qualified_type_toks v p (becomes r) suits = by_front r.front suits.2
    where
      by_front : (f : Front) → MayStandBeforeType f
          → qualified_chosen (becomes (record { text = r.text; front = f })) w.text (word (text_of p v.text) ∷ [])
          ≡ type_toks (tree.named m (qualifier_to m f (Some (word_to p v))) (record { mark = w.mark; text = r.text }))
      by_front same may = refl
      by_front alone may = refl
      by_front by_this may = absurd may
      by_front by_super may = absurd may
      by_front (by_cast_this k) may = absurd may
      by_front (by_class k) may = refl
      by_front (by_outer_class o k) may = absurd may
      by_front (by_cast k) may = absurd may

  -- `e.x`, where e was old and becomes e
  module _ (old e : tree.Exp A) where
    pub field_toks : (h : Choice) → Suits (MayStandFor old) h → dotted_chosen h w.text (toks e) ≡ toks (variable_on m (operand_to m (front_of h) (Some e)) (word_to h w))
    field_toks stays suits = refl
    field_toks (loses l) suits = refl
    field_toks (becomes r) suits = by_front r.front suits.2
      where
        by_front : (f : Front) → MayStandFor old f → behind_dot f r.text (toks e) ≡ toks (variable_on m (operand_to m f (Some e)) (record { mark = w.mark; text = r.text }))
        by_front same may = refl
        by_front alone may = refl
        by_front by_this may = refl
        by_front by_super may = absurd may
        by_front (by_cast_this k) may = refl
        by_front (by_class k) may = refl
        by_front (by_outer_class o k) may = refl
        by_front (by_cast k) may =
            ap (λ ts. symbol OpenParen ∷ symbol OpenParen ∷ word k ∷ symbol CloseParen ∷ ts) (sym (append_assoc (toks e) (symbol CloseParen ∷ []) (symbol Dot ∷ word r.text ∷ [])))

    pub dotted_call_toks : (h : Choice) → Suits (MayStandFor old) h
        → dotted_chosen h w.text (toks e) ≡ target_toks (target_of (operand_to m (front_of h) (Some e))) ++ (word (text_of h w.text) ∷ [])
    dotted_call_toks stays suits = sym (append_assoc (toks e) (symbol Dot ∷ []) (word w.text ∷ []))
    dotted_call_toks (loses l) suits = sym (append_assoc (toks e) (symbol Dot ∷ []) (word w.text ∷ []))
    dotted_call_toks (becomes r) suits = by_front r.front suits.2
      where
        by_front : (f : Front) → MayStandFor old f → behind_dot f r.text (toks e) ≡ target_toks (target_of (operand_to m f (Some e))) ++ (word r.text ∷ [])
        by_front same may = sym (append_assoc (toks e) (symbol Dot ∷ []) (word r.text ∷ []))
        by_front alone may = refl
        by_front by_this may = refl
        by_front by_super may = absurd may
        by_front (by_cast_this k) may = refl
        by_front (by_class k) may = refl
        by_front (by_outer_class o k) may = refl
        by_front (by_cast k) may =
            ap (λ ts. symbol OpenParen ∷ symbol OpenParen ∷ word k ∷ symbol CloseParen ∷ ts)
            (sym (append_assoc (toks e ++ (symbol CloseParen ∷ [])) (symbol Dot ∷ []) (word r.text ∷ []) ∙ append_assoc (toks e) (symbol CloseParen ∷ []) (symbol Dot ∷ word r.text ∷ [])))
