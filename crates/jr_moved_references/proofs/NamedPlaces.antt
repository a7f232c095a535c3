-- References of an expression that is rewritten: each at a place that no change touches stands in
-- the new text where that place has moved to, and is bound there to the image.
use Rattle.std.proofs.Common.{◌≡◌, ℕ, true, false, List, [], ◌∷◌, ◌++◌, Option, Some, None, refl, sym, ap, ◌∙◌, subst, inl, inr}
use Rattle.std.specs.Prelude.{◌⊎◌}
use Rattle.std.proofs.lemmas.List.{append-nil}
use Rattle.jr_text.specs.declared.spans.Span.{Span}
use Rattle.jr_lex.specs.Replacing.{IsName}
use Rattle.jr_lex.specs.declared.items.Keyword.TheVariants.{Super, Class, New as NewWord}
use Rattle.jr_lex.specs.declared.items.Symbol.TheVariants.{OpenParen, CloseParen, Dot, Comma, Equals, PlusPlus, MinusMinus}
use Rattle.jr_ast.specs.declared.operators.BumpOp.TheVariants.{PreInc, PreDec, PostInc, PostDec}
use Rattle.jr_ast.specs.Tree as tree
use Rattle.jr_ast.specs.Marks.{exp_mark}
use Rattle.jr_grammar.specs.Bare.{bare, bare_type, bare_target, bare_args}
use Rattle.jr_grammar.specs.Tokens.{Token, word, keyword, symbol, kinds}
use Rattle.jr_grammar.specs.Spelling.{toks, target_toks, args_toks, unary_symbol, binary_symbol, compound_symbol}
use Rattle.jr_grammar.specs.Layout.{itself, spans_from}
use Rattle.jr_grammar.specs.ExpressionLayout.{word_layout, type_layout, exp_layout, target_layout, args_layout, more_args_layout}
use Rattle.jr_grammar.specs.Stands.{Tokens, span_of, IsAlone, InOrder, IsNode, Stands}
use Rattle.jr_grammar.proofs.Layouts.{spans_from-span}
use Rattle.jr_table.specs.Keys.{ClassKey}
use Rattle.jr_table.specs.Decls.{Decl}
use Rattle.jr_table.specs.Rows.{Row}
use Rattle.jr_table.specs.Found.{one}
use Rattle.jr_table.specs.Context.{Context}
use Rattle.jr_table.specs.Binding.{Role, value, left, TypeRefers, IsClassName, BindsItself}
use Rattle.jr_table.specs.Somewhere.{Somewhere, InTarget, InRow}
use Rattle.jr_program_laws.specs.FileParts.{begins}
use Rattle.jr_program_laws.proofs.TokenOrder.{StartsIn, Rising}
use Rattle.jr_rewrite.specs.Respellings.{Front, same, alone, by_this, by_super, by_cast_this, by_class, by_outer_class, by_cast, Choice, stays, becomes, loses, Loss, Respelling, front_of, text_of, front_text, cast_text, Change}
use Rattle.jr_rewrite.specs.Rewritten.{Rewritten, change, within, joined, losses_of, word_to, new_word, cast_tree, operand_to, variable_on, variable_to, super_to, target_of, word_out, name_out, field_out, super_field_out, dotted_changes, from_to, before, behind_to, operand_losses, Called, simple_call_out, dotted_call_out}
use Rattle.jr_rewrite.specs.Suitable.{AreSuitable, AreNames, Suits, MayStandFor}
use Rattle.jr_rewrite.specs.Spots.{nowhere}
use Rattle.jr_rewrite.specs.Rewrites.{Choosing, RewritesExp, RewritesRow, RewritesType, TransformsExp, TransformsTarget, TransformsRow}
use Rattle.jr_rewrite.proofs.ExpressionSteps.{exp_steps}
use Rattle.jr_rewrite.proofs.Steps.{Stepped}
use Rattle.jr_rewrite.proofs.Stepping.{stepped_new, dotted}
use Rattle.jr_images.specs.Images.{Renaming, decl_to, rows_to}
use Rattle.jr_images.specs.Keeping.{IsBoundTo}
use Rattle.jr_images.proofs.Chosen.{left_none, right_none, lost_none}
use Rattle.jr_moved_tokens.proofs.StepRuns.{never}
use Rattle.jr_moved_references.proofs.Carrying.{Carries, Nothing, AreNone, WordStands, word_starts, idle, nothing, a_token, alike, turn, node, both, pass, only, last, touched, spanned}
use Rattle.jr_moved_references.proofs.Dotted.{dropped, CastParts, parts_more, cast_parts_of, cast_around}
use Rattle.jr_moved_references.proofs.BareReferences.{bound_bare, class_move}
use Rattle.jr_moved_references.proofs.Backs.{exp_kinds, name_back, field_back, paren_back, cast_back, simple_back}
use Rattle.jr_moved_references.proofs.Worded.{alone_of, chosen_word, same_word, named_word, exp_span, some_exp}
use Rattle.jr_moved_references.proofs.Starting.{Own, Within, exp_starts}
use Rattle.jr_moved_references.proofs.KeptAt.{spelled, KeptAt, within_value}

module _ (rows : List Row) (g : Renaming) (super_at : Context → ℕ) (fit : AreSuitable (spelled rows g super_at)) (x : Decl) (c d : Context) (kept : KeptAt rows g super_at c d) where
  abbrev pub C : Choosing Span
  C = spelled rows g super_at

  abbrev pub Old : Role → (base : ℕ) → tree.Exp Span → (at : ℕ) → Type 0
  Old r b e at = Within rows c x r b e at

  abbrev pub New : Role → (base : ℕ) → tree.Exp Span → (at : ℕ) → Type 0
  New r b e at = Within (rows_to g rows) d (decl_to g x) r b e at

  abbrev pub OldOwn : Role → (base : ℕ) → tree.Exp Span → (at : ℕ) → Type 0
  OldOwn r b e at = Own rows c x r b e at

  abbrev pub NewOwn : Role → (base : ℕ) → tree.Exp Span → (at : ℕ) → Type 0
  NewOwn r b e at = Own (rows_to g rows) d (decl_to g x) r b e at

  abbrev pub Bound : Role → (base : ℕ) → tree.Exp Span → Type 0
  Bound r i y = IsBoundTo begins g rows d r i y (decl_to g x)

  -- ---- the steps of an expression

  pub exp_step : (r : Role) (b : ℕ) (e : tree.Exp Span) (o : Rewritten (tree.Exp Span)) (y : tree.Exp Span) → RewritesExp itself C c r b e o → bare y ≡ bare o.tree → (ps ps' : Tokens) → Stands (exp_layout e) ps → Stands (exp_layout y) ps'
      → Stepped never false ps o.changes (kinds ps')
  exp_step r b e o y made eq ps ps' h k = stepped_new ps o.changes (toks o.tree) (kinds ps') (sym (exp_kinds y o.tree eq ps' k)) (exp_steps itself C nowhere never fit tt c r b e o ps made (subst (λ z. Stands z ps) (sym (spans_from-span b (exp_layout e))) h))

  -- the same of a result that is equal
  pub moved : {L L' : Tokens → Type 0} {P N : ℕ → Type 0} {T : Type 0} (o p : Rewritten T) → o ≡ p → Carries false L L' p.changes P N → Carries false L L' o.changes P N
  moved {L = L} {L' = L'} {P = P} {N = N} o p is h = subst (λ z. Carries false L L' z.changes P N) (sym is) h

  -- ---- a simple name

  at_name : (r : Role) (i : ℕ) (k : Span) (v : tree.Word Span) → Bound r i (tree.name k v) → NewOwn r i (tree.name k v) v.mark.from
  at_name r i k v h = (h.1.0, (refl, h.1.1.1))

  pub name_carries : (r : Role) (b i : ℕ) (m : Span) (w : tree.Word Span) (y : tree.Exp Span) (h : Choice) → C.expression c r b (tree.name m w) h → losses_of h ≡ [] → bare y ≡ bare (name_out itself h m b w).tree
      → Carries false (Stands (exp_layout (tree.name m w))) (Stands (exp_layout y)) (name_out itself h m b w).changes (OldOwn r b (tree.name m w)) (NewOwn r i y)
  unfolding TransformsExp
  name_carries r b i m w y h chosen none eq =
      chosen_word h w.mark w.text none (λ ps l. alone_of ps l.parts) (exp_step r b (tree.name m w) (name_out itself h m b w) y made eq) (λ at o. o.1.0) keeps
    where
      made : RewritesExp itself C c r b (tree.name m w) (name_out itself h m b w)
      made = (h, chosen, refl)

      keeps : h ≡ stays → Carries false (Stands (exp_layout (tree.name m w))) (Stands (exp_layout y)) [] (OldOwn r b (tree.name m w)) (NewOwn r i y)
      keeps e =
          let n = name_back y m (word_to stays w) (eq ∙ ap (λ (z : Choice). bare (variable_to m (front_of z) None (word_to z w))) e) in
          let bound : (at : ℕ) → OldOwn r b (tree.name m w) at → Bound r i y = λ at o. bound_bare begins g rows d r i i (name_out itself h m b w).tree y (sym eq) (decl_to g x) (kept.own r b (tree.name m w) (name_out itself h m b w) made none i at x o) in
          subst (λ (z : tree.Exp Span). Carries false (Stands (exp_layout (tree.name m w))) (Stands (exp_layout z)) [] (OldOwn r b (tree.name m w)) (NewOwn r i z)) (sym n.2)
          (node (last (same_word w n.1 n.3 (λ at o. o.1.0) (λ at o. at_name r i n.0 n.1 (subst (λ (z : tree.Exp Span). Bound r i z) n.2 (bound at o))))))

  -- ---- a name behind a dot

  -- a tree that is equal but for its marks names the same class
  class_again : (z y : tree.Exp Span) → bare z ≡ bare y → (k : ClassKey) → IsClassName (rows_to g rows) d z k → IsClassName (rows_to g rows) d y k
  class_again z y e k h = class_move begins (rows_to g rows) d k z y e h

  pub some_loss : (ls : List Loss) (l : Loss) → ls ++ l ∷ [] ≡ [] → ⊥
  some_loss [] l e = cc
  some_loss (k ∷ ls) l e = cc

  at_field : (r : Role) (i : ℕ) (k : Span) (z : tree.Exp Span) (v : tree.Word Span) → Bound r i (tree.field k z v) → NewOwn r i (tree.field k z v) v.mark.from
  at_field r i k z v h = (h.1.0, (refl, h.1.1.1))

  -- what is in front of the dot, if it stays: as whatever tree it is read again
  abbrev pub InFront : (b : ℕ) → tree.Exp Span → Rewritten (tree.Exp Span) → Type 0
  InFront b e p = (z : tree.Exp Span) (j : ℕ) → bare z ≡ bare p.tree → p.losses ≡ [] → Carries false (Stands (exp_layout e)) (Stands (exp_layout z)) p.changes (Old left b e) (New left j z)

  module _ (r : Role) (b i : ℕ) (m : Span) (e : tree.Exp Span) (w : tree.Word Span) (p : Rewritten (tree.Exp Span)) (inner : RewritesExp itself C c left m.from e p) (again : InFront m.from e p) where
    abbrev OldField : ℕ → Type 0
    OldField at = OldOwn r b (tree.field m e w) at ⊎ Old left m.from e at

    abbrev NewField : tree.Exp Span → ℕ → Type 0
    NewField y to = New r i y to

    abbrev Field : tree.Exp Span → Choice → Type 0
    Field y h = Carries false (Stands (exp_layout (tree.field m e w))) (Stands (exp_layout y)) (field_out itself h m b e p w).changes OldField (NewField y)

    swapped : {P Q : Type 0} → P ⊎ Q → Q ⊎ P
    swapped (inl a) = inr a
    swapped (inr a) = inl a

    made_field : (h : Choice) → C.expression c r b (tree.field m e w) h → RewritesExp itself C c r b (tree.field m e w) (field_out itself h m b e p w)
    unfolding TransformsExp
    made_field h chosen = (h, p, chosen, inner, refl)

    field_bound : (y : tree.Exp Span) (h : Choice) (chosen : C.expression c r b (tree.field m e w) h) → (field_out itself h m b e p w).losses ≡ [] → bare y ≡ bare (field_out itself h m b e p w).tree → (at : ℕ) → OldOwn r b (tree.field m e w) at → Bound r i y
    field_bound y h chosen none eq at o = bound_bare begins g rows d r i i (field_out itself h m b e p w).tree y (sym eq) (decl_to g x) ((kept.own r b (tree.field m e w) (field_out itself h m b e p w) (made_field h chosen) none i).0 at x o)

    -- what it drops is touched
    field_dropped : (y : tree.Exp Span) (h : Choice) (chosen : C.expression c r b (tree.field m e w) h) → bare y ≡ bare (field_out itself h m b e p w).tree → (text : List ℕ) → (field_out itself h m b e p w).changes ≡ change (from_to (exp_mark e) w.mark) text ∷ [] → Field y h
    field_dropped y h chosen eq text is =
        let step : (ps ps' : Tokens) → Stands (exp_layout (tree.field m e w)) ps → Stands (exp_layout y) ps' → Stepped never false ps (change (from_to (exp_mark e) w.mark) text ∷ []) (kinds ps') =
        λ ps ps' l k. subst (λ cs. Stepped never false ps cs (kinds ps')) is (exp_step r b (tree.field m e w) (field_out itself h m b e p w) y (made_field h chosen) eq ps ps' l k) in
        alike (change (from_to (exp_mark e) w.mark) text ∷ []) (field_out itself h m b e p w).changes (sym is) (λ at o. swapped o) (λ to n. n)
        (dropped {E = Stands (exp_layout e)} {Old = Old left m.from e} {Own = OldOwn r b (tree.field m e w)} (exp_mark e) w.mark w.text (λ ps l. dotted w.mark w.text ps l.parts) (exp_span e) (some_exp e) (λ ps l at o. exp_starts rows c x left m.from e at o ps l) (λ at o. o.1.0) text step)

    -- it stays with what is in front of it, by a name of its own or the same
    field_same : (y : tree.Exp Span) (h : Choice) (k : Span) (z : tree.Exp Span) (v : tree.Word Span) (ds : List Change) → y ≡ tree.field k z v → Carries false (Stands (exp_layout e)) (Stands (exp_layout z)) p.changes (Old left m.from e) (New left k.from z)
        → Carries false (Stands (word_layout w)) (Stands (word_layout v)) ds (OldOwn r b (tree.field m e w)) (NewOwn r i (tree.field k z v)) → p.changes ++ ds ≡ (field_out itself h m b e p w).changes → Field y h
    unfolding Somewhere
    field_same y h k z v ds is inside own cs =
        subst (λ (u : tree.Exp Span). Field u h) (sym is)
        (node (alike (p.changes ++ ds) (field_out itself h m b e p w).changes cs (λ at o. swapped o) (λ to n. swapped n) (both inside (pass (a_token (symbol Dot)) (last own)))))

    -- a cast goes around what is in front
    field_cast : (y : tree.Exp Span) (f text : List ℕ) (chosen : C.expression c r b (tree.field m e w) (becomes (record { text = text; front = by_cast f }))) → p.losses ≡ [] → IsName text → IsName f
        → bare y ≡ bare (field_out itself (becomes (record { text = text; front = by_cast f })) m b e p w).tree → Field y (becomes (record { text = text; front = by_cast f }))
    unfolding Somewhere
    field_cast y f text chosen none name class eq =
        let h : Choice = becomes (record { text = text; front = by_cast f }) in
        let n = field_back y m (cast_tree m f p.tree) (word_to h w) eq in
        let q = paren_back n.1 m (tree.cast m (tree.named m None (new_word m f)) p.tree) n.4 in
        let s = cast_back q.1 m (tree.named m None (new_word m f)) p.tree q.3 in
        let t = simple_back s.1 m (new_word m f) s.4 in
        let z : tree.Exp Span = s.2 in
        let whole : y ≡ tree.field n.0 (tree.paren q.0 (tree.cast s.0 (tree.named t.0 None t.1) z)) n.2 =
        n.3 ∙ ap (λ (u : tree.Exp Span). tree.field n.0 u n.2) (q.2 ∙ ap (λ (u : tree.Exp Span). tree.paren q.0 u) (s.3 ∙ ap (λ (u : tree.TypeName Span). tree.cast s.0 u z) t.2)) in
        let not : (k : ClassKey) → IsClassName (rows_to g rows) d z k → ⊥ = λ k is. kept.apart left m.from e p inner none (kept.field_value r b m e w h f chosen refl) k (class_again z p.tree s.5 k is) in
        let inside : Carries false (Stands (exp_layout e)) (Stands (exp_layout z)) p.changes (Old left m.from e) (New left s.0.from z) = again z s.0.from s.5 none in
        let y' : tree.Exp Span = tree.field n.0 (tree.paren q.0 (tree.cast s.0 (tree.named t.0 None t.1) z)) n.2 in
        let step : (ps ps' : Tokens) → Stands (exp_layout (tree.field m e w)) ps → Stands (exp_layout y') ps' → Stepped never false ps (field_out itself h m b e p w).changes (kinds ps') =
        exp_step r b (tree.field m e w) (field_out itself h m b e p w) y' (made_field h chosen) (ap bare (sym whole) ∙ eq) in
        let parts : (ps : Tokens) → Stands (exp_layout y') ps → CastParts f (Stands (exp_layout z)) ps =
        λ ps l. parts_more ps l.parts.front l.parts.back l.parts.whole (subst (λ name. CastParts name (Stands (exp_layout z)) l.parts.front) t.3 (cast_parts_of q.0 s.0 t.0 t.1.mark t.1.text (Stands (exp_layout z)) l.parts.front l.parts.first)) in
        subst (λ (u : tree.Exp Span). Field u h) (sym whole)
        (alike (field_out itself h m b e p w).changes (field_out itself h m b e p w).changes refl (λ at o. swapped o) (λ to n. n)
        (cast_around {Own = OldOwn r b (tree.field m e w)} {New' = New r i y'} inside (exp_mark e) w.mark w.text f text (λ ps l. dotted w.mark w.text ps l.parts) parts (exp_span e) (some_exp e) (λ at o. o.1.0)
        (λ to n. inr (inr (inr (within_value (rows_to g rows) d (decl_to g x) z s.0.from not to n)))) name class step))

    pub field_carries : (y : tree.Exp Span) (h : Choice) → C.expression c r b (tree.field m e w) h → (field_out itself h m b e p w).losses ≡ [] → bare y ≡ bare (field_out itself h m b e p w).tree → Field y h
    field_carries y stays chosen none eq =
        let n = field_back y m p.tree (word_to stays w) eq in
        let inside = again n.1 n.0.from n.4 (left_none p.losses [] none) in
        field_same y stays n.0 n.1 n.2 [] n.3 inside
        (same_word w n.2 n.5 (λ at o. o.1.0) (λ at o. at_field r i n.0 n.1 n.2 (subst (λ (z : tree.Exp Span). Bound r i z) n.3 (field_bound y stays chosen none eq at o)))) (append-nil p.changes)
    field_carries y (loses l) chosen none eq = absurd (some_loss p.losses l none)
    field_carries y (becomes r') chosen none eq = by_front r'.front r'.text chosen none eq (fit.expression c r b (tree.field m e w) (becomes r') chosen)
      where
        by_front : (f : Front) (text : List ℕ) → (let h : Choice = becomes (record { text = text; front = f }) in C.expression c r b (tree.field m e w) h → (field_out itself h m b e p w).losses ≡ [] → bare y ≡ bare (field_out itself h m b e p w).tree → Suits (MayStandFor e) h → Field y h)
        by_front same text chosen none eq suits =
            let h : Choice = becomes (record { text = text; front = same }) in
            let n = field_back y m p.tree (word_to h w) eq in
            field_same y h n.0 n.1 n.2 (change w.mark text ∷ []) n.3 (again n.1 n.0.from n.4 (left_none p.losses [] none)) (named_word w n.2 text n.5 suits.0 (λ at o. o.1.0)) refl
        by_front (by_cast f) text chosen none eq suits = field_cast y f text chosen (left_none p.losses [] none) suits.0 suits.1 eq
        by_front alone text chosen none eq suits = field_dropped y (becomes (record { text = text; front = alone })) chosen eq (front_text alone ++ text) refl
        by_front by_this text chosen none eq suits = field_dropped y (becomes (record { text = text; front = by_this })) chosen eq (front_text by_this ++ text) refl
        by_front by_super text chosen none eq suits = field_dropped y (becomes (record { text = text; front = by_super })) chosen eq (front_text by_super ++ text) refl
        by_front (by_cast_this k) text chosen none eq suits = field_dropped y (becomes (record { text = text; front = by_cast_this k })) chosen eq (front_text (by_cast_this k) ++ text) refl
        by_front (by_class k) text chosen none eq suits = field_dropped y (becomes (record { text = text; front = by_class k })) chosen eq (front_text (by_class k) ++ text) refl
        by_front (by_outer_class o k) text chosen none eq suits = field_dropped y (becomes (record { text = text; front = by_outer_class o k })) chosen eq (front_text (by_outer_class o k) ++ text) refl
