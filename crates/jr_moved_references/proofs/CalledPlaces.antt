-- The references of calls that are rewritten.
use Rattle.std.proofs.Common.{◌≡◌, ℕ, true, false, List, [], ◌∷◌, ◌++◌, Option, Some, None, refl, sym, ap, ◌∙◌, subst, inl, inr}
use Rattle.std.specs.Prelude.{◌⊎◌}
use Rattle.std.proofs.lemmas.List.{append-nil}
use Rattle.jr_text.specs.declared.spans.Span.{Span}
use Rattle.jr_lex.specs.Replacing.{IsName}
use Rattle.jr_lex.specs.declared.items.Keyword.TheVariants.{Super}
use Rattle.jr_lex.specs.declared.items.Symbol.TheVariants.{OpenParen, CloseParen, Dot}
use Rattle.jr_ast.specs.Tree as tree
use Rattle.jr_ast.specs.Marks.{exp_mark}
use Rattle.jr_grammar.specs.Bare.{bare, bare_target, bare_args}
use Rattle.jr_grammar.specs.Tokens.{Token, word, keyword, symbol, kinds}
use Rattle.jr_grammar.specs.Spelling.{toks, target_toks, args_toks}
use Rattle.jr_grammar.specs.Layout.{itself, spans_from}
use Rattle.jr_grammar.specs.ExpressionLayout.{word_layout, exp_layout, target_layout, args_layout}
use Rattle.jr_grammar.specs.Stands.{Tokens, IsAlone, InOrder, IsNode, Stands}
use Rattle.jr_grammar.proofs.Layouts.{spans_from-span}
use Rattle.jr_table.specs.Keys.{ClassKey}
use Rattle.jr_table.specs.Decls.{Decl}
use Rattle.jr_table.specs.Rows.{Row}
use Rattle.jr_table.specs.Context.{Context}
use Rattle.jr_table.specs.Binding.{Role, value, left, IsClassName}
use Rattle.jr_table.specs.Somewhere.{Somewhere, InTarget, InRow}
use Rattle.jr_program_laws.specs.FileParts.{begins}
use Rattle.jr_rewrite.specs.Respellings.{Front, same, alone, by_this, by_super, by_cast_this, by_class, by_outer_class, by_cast, Choice, stays, becomes, loses, Loss, front_of, text_of, front_text, Change}
use Rattle.jr_rewrite.specs.Rewritten.{Rewritten, change, joined, losses_of, word_to, word_changes, new_word, cast_tree, operand_to, target_of, dotted_changes, from_to, Called, simple_call_out, dotted_call_out}
use Rattle.jr_rewrite.specs.Suitable.{AreSuitable, Suits, MayStandFor, MayStandBeforeMethod}
use Rattle.jr_rewrite.specs.Spots.{nowhere}
use Rattle.jr_rewrite.specs.Rewrites.{Choosing, RewritesExp, RewritesRow, TransformsExp, TransformsTarget, TransformsRow}
use Rattle.jr_rewrite.proofs.ExpressionSteps.{exp_steps}
use Rattle.jr_rewrite.proofs.Steps.{Stepped}
use Rattle.jr_rewrite.proofs.Stepping.{stepped_new, one_word, dotted_target}
use Rattle.jr_rewrite.proofs.WordSteps.{chosen, dotted_chosen, word_steps}
use Rattle.jr_rewrite.proofs.NewTokens.{simple_call_toks, dotted_call_toks}
use Rattle.jr_images.specs.Images.{Renaming, decl_to, rows_to}
use Rattle.jr_images.specs.Keeping.{IsBoundTo}
use Rattle.jr_images.proofs.Chosen.{left_none, right_none}
use Rattle.jr_moved_tokens.proofs.StepRuns.{never}
use Rattle.jr_moved_references.proofs.Carrying.{Carries, AreNone, WordStands, nothing, a_token, alike, turn, node, both, pass, only, last, kinds-append, word_kinds}
use Rattle.jr_moved_references.proofs.Dotted.{dropped, CastParts, parts_more, cast_parts_of, cast_around}
use Rattle.jr_moved_references.proofs.BareReferences.{bound_bare, class_move}
use Rattle.jr_moved_references.proofs.Backs.{call_back, on_back, none_back, paren_back, cast_back, simple_back}
use Rattle.jr_moved_references.proofs.Worded.{behind_none, to_left, chosen_word, same_word, named_word, method_variable, exp_span, some_exp}
use Rattle.jr_moved_references.proofs.Starting.{Own, Within, WithinTarget, WithinRow, exp_starts}
use Rattle.jr_moved_references.proofs.KeptAt.{spelled, KeptAt, within_value}
use Rattle.jr_moved_references.proofs.NamedPlaces.{some_loss, InFront}
use Rattle.jr_moved_references.proofs.DottedSteps.{operand_steps, target_kinds}

module _ (rows : List Row) (g : Renaming) (super_at : Context → ℕ) (fit : AreSuitable (spelled rows g super_at)) (x : Decl) (c d : Context) (kept : KeptAt rows g super_at c d) where
  abbrev C : Choosing Span
  C = spelled rows g super_at

  abbrev OldOwn : Role → (base : ℕ) → tree.Exp Span → (at : ℕ) → Type 0
  OldOwn r b e at = Own rows c x r b e at

  abbrev NewOwn : Role → (base : ℕ) → tree.Exp Span → (at : ℕ) → Type 0
  NewOwn r b e at = Own (rows_to g rows) d (decl_to g x) r b e at

  abbrev New : Role → (base : ℕ) → tree.Exp Span → (at : ℕ) → Type 0
  New r b e at = Within (rows_to g rows) d (decl_to g x) r b e at

  abbrev Bound : Role → (base : ℕ) → tree.Exp Span → Type 0
  Bound r i y = IsBoundTo begins g rows d r i y (decl_to g x)

  abbrev pub Call : (m : Span) → Rewritten (Called itself) → Rewritten (tree.Exps Span) → Rewritten (tree.Exp Span)
  Call m p q = joined (λ (t : Called itself) es. tree.call m t.target t.word es) p q

  at_call : (r : Role) (i : ℕ) (k : Span) (aim : tree.Target Span) (v : tree.Word Span) (es : tree.Exps Span) → Bound r i (tree.call k aim v es) → NewOwn r i (tree.call k aim v es) v.mark.from
  at_call r i k aim v es h = (h.1.0, (refl, h.1.1.1, h.1.1.2))

  -- the arguments with their parentheses
  abbrev Args : tree.Exps Span → Tokens → Type 0
  Args es = InOrder (IsAlone (symbol OpenParen)) (InOrder (Stands (args_layout es)) (InOrder (IsAlone (symbol CloseParen)) AreNone))

  abbrev RowMoves : (b i : ℕ) → tree.Exps Span → tree.Exps Span → List Change → Type 0
  RowMoves b i es ys cs = Carries false (Stands (args_layout es)) (Stands (args_layout ys)) cs (WithinRow rows c x b es) (WithinRow (rows_to g rows) d (decl_to g x) i ys)

  pub in_parens : (b i : ℕ) (es ys : tree.Exps Span) (cs : List Change) → RowMoves b i es ys cs → Carries false (Args es) (Args ys) cs (WithinRow rows c x b es) (WithinRow (rows_to g rows) d (decl_to g x) i ys)
  in_parens b i es ys cs h = pass (a_token (symbol OpenParen)) (only h (last (a_token (symbol CloseParen))))

  module _ (r : Role) (b i : ℕ) (m : Span) (to : tree.Target Span) (w : tree.Word Span) (args : tree.Exps Span) (p : Rewritten (Called itself)) (q : Rewritten (tree.Exps Span)) where
    abbrev OldCall : ℕ → Type 0
    OldCall at = OldOwn r b (tree.call m to w args) at ⊎ (WithinTarget rows c x m.from to at ⊎ WithinRow rows c x m.from args at)

    -- a target and a word, and what comes of them
    abbrev Aimed : (k : Span) → tree.Target Span → tree.Word Span → tree.Exps Span → List Change → Type 0
    Aimed k aim v es cs = Carries false (InOrder (Stands (target_layout to)) (Stands (word_layout w))) (InOrder (Stands (target_layout aim)) (Stands (word_layout v))) cs
        (λ at. OldOwn r b (tree.call m to w args) at ⊎ WithinTarget rows c x m.from to at) (λ at. NewOwn r i (tree.call k aim v es) at ⊎ WithinTarget (rows_to g rows) d (decl_to g x) k.from aim at)

    -- with the arguments behind it
    whole_call : (y : tree.Exp Span) (k : Span) (aim : tree.Target Span) (v : tree.Word Span) (es : tree.Exps Span) → y ≡ tree.call k aim v es → Aimed k aim v es p.changes → RowMoves m.from k.from args es q.changes
        → Carries false (Stands (exp_layout (tree.call m to w args))) (Stands (exp_layout y)) (p.changes ++ q.changes) OldCall (New r i y)
    unfolding Somewhere
    whole_call y k aim v es is aimed row =
        subst (λ (u : tree.Exp Span). Carries false (Stands (exp_layout (tree.call m to w args))) (Stands (exp_layout u)) (p.changes ++ q.changes) OldCall (New r i u)) (sym is)
        (node (turn to_left to_left (alike (p.changes ++ q.changes) (p.changes ++ q.changes) refl
        (λ at o. elim o [ inl own ↦ inl (inl own) | inr rest ↦ elim rest [ inl there ↦ inl (inr there) | inr there ↦ inr there ] ])
        (λ at n. elim n [ inl first ↦ elim first [ inl own ↦ inl own | inr there ↦ inr (inl there) ] | inr there ↦ inr (inr there) ])
        (both aimed (in_parens m.from k.from args es q.changes row)))))

    call_bound : (h : Choice) (y : tree.Exp Span) → RewritesExp itself C c r b (tree.call m to w args) (Call m p q) → (Call m p q).losses ≡ [] → bare y ≡ bare (Call m p q).tree → (at : ℕ) → OldOwn r b (tree.call m to w args) at → Bound r i y
    call_bound h y made none eq at o = bound_bare begins g rows d r i i (Call m p q).tree y (sym eq) (decl_to g x) (kept.own r b (tree.call m to w args) (Call m p q) made none i at x o)

  -- ---- a simple name

  module _ (r : Role) (b i : ℕ) (m : Span) (w : tree.Word Span) (args : tree.Exps Span) (q : Rewritten (tree.Exps Span)) (h : Choice) (chosen_so : C.expression c r b (tree.call m tree.no_target w args) h) (row : RewritesRow itself C c m.from args q) (y : tree.Exp Span)
      (none : (Call m (simple_call_out itself h m b w) q).losses ≡ []) (eq : bare y ≡ bare (Call m (simple_call_out itself h m b w) q).tree)
      (again : (ys : tree.Exps Span) (j : ℕ) → bare_args ys ≡ bare_args q.tree → q.losses ≡ [] → RowMoves m.from j args ys q.changes) where
    abbrev out : Rewritten (Called itself)
    out = simple_call_out itself h m b w

    made_simple : RewritesExp itself C c r b (tree.call m tree.no_target w args) (Call m out q)
    unfolding TransformsExp TransformsTarget
    made_simple = (h, out, q, chosen_so, refl, row, refl)

    pub simple_call : Carries false (Stands (exp_layout (tree.call m tree.no_target w args))) (Stands (exp_layout y)) (Call m out q).changes (OldCall r b i m tree.no_target w args out q) (New r i y)
    unfolding InTarget
    simple_call =
        let n = call_back y m out.tree.target out.tree.word q.tree eq in
        let suits : Suits MayStandBeforeMethod h = fit.expression c r b (tree.call m tree.no_target w args) h chosen_so in
        let step : (ps ps' : Tokens) → InOrder AreNone (Stands (word_layout w)) ps → InOrder (Stands (target_layout n.1)) (Stands (word_layout n.2)) ps' → Stepped never false ps (word_changes h w.mark) (kinds ps') =
        λ ps ps' l k. stepped_new ps (word_changes h w.mark) (chosen h w.text) (kinds ps')
        (simple_call_toks m w h suits ∙ sym (ap kinds k.whole ∙ kinds-append k.front k.back ∙ (λ j. target_kinds n.1 out.tree.target n.5 k.front k.first j ++ (word_kinds n.2.mark n.2.text k.back k.rest ∙ ap (λ t. word t ∷ []) n.6) j)))
        (word_steps MayStandBeforeMethod method_variable h w.mark w.text ps suits (one_word w.mark w.text ps (behind_none ps l))) in
        let keeps : h ≡ stays → Carries false (InOrder AreNone (Stands (word_layout w))) (InOrder (Stands (target_layout n.1)) (Stands (word_layout n.2))) [] (OldOwn r b (tree.call m tree.no_target w args)) (NewOwn r i (tree.call n.0 n.1 n.2 n.3)) =
        λ e.
        (let aim : n.1 ≡ tree.no_target = none_back n.1 (n.5 ∙ ap (λ (z : Choice). bare_target (target_of (operand_to m (front_of z) None))) e) in
        subst (λ (u : tree.Target Span). Carries false (InOrder AreNone (Stands (word_layout w))) (InOrder (Stands (target_layout u)) (Stands (word_layout n.2))) [] (OldOwn r b (tree.call m tree.no_target w args)) (NewOwn r i (tree.call n.0 n.1 n.2 n.3))) (sym aim)
        (pass nothing (same_word w n.2 (n.6 ∙ ap (λ (z : Choice). text_of z w.text) e) (λ at o. o.1.0)
        (λ at o. at_call r i n.0 n.1 n.2 n.3 (subst (λ (z : tree.Exp Span). Bound r i z) n.4 (call_bound r b i m tree.no_target w args out q h y made_simple none eq at o)))))) in
        let aimed : Aimed r b i m tree.no_target w args out q n.0 n.1 n.2 n.3 out.changes =
        alike (word_changes h w.mark) out.changes refl (λ at o. elim o [ inl own ↦ own | inr there ↦ absurd there ]) (λ at own. inl own)
        (chosen_word h w.mark w.text (left_none (losses_of h) q.losses none) behind_none step (λ at o. o.1.0) keeps) in
        whole_call r b i m tree.no_target w args out q y n.0 n.1 n.2 n.3 n.4 aimed (again n.3 n.0.from n.7 (right_none (losses_of h) q.losses none))

  -- ---- behind a dot

  module _ (r : Role) (b i : ℕ) (m : Span) (e : tree.Exp Span) (w : tree.Word Span) (args : tree.Exps Span) (p : Rewritten (tree.Exp Span)) (inner : RewritesExp itself C c left m.from e p) (again : InFront rows g super_at fit x c d kept m.from e p)
      (q : Rewritten (tree.Exps Span)) (row : RewritesRow itself C c m.from args q) where
    abbrev aimed_at : Choice → Rewritten (Called itself)
    aimed_at h = dotted_call_out itself h m b e p w

    abbrev whole : Choice → Rewritten (tree.Exp Span)
    whole h = Call m (aimed_at h) q

    made_dotted : (h : Choice) → C.expression c r b (tree.call m (tree.on e) w args) h → RewritesExp itself C c r b (tree.call m (tree.on e) w args) (whole h)
    unfolding TransformsExp TransformsTarget
    made_dotted h chosen_so = (h, aimed_at h, q, chosen_so, (p, inner, refl), row, refl)

    abbrev Both : (k : Span) → tree.Target Span → tree.Word Span → tree.Exps Span → List Change → Type 0
    Both k aim v es cs = Aimed r b i m (tree.on e) w args (aimed_at stays) q k aim v es cs

    -- the steps of what is in front and of the name
    aimed_steps : (h : Choice) → Suits (MayStandFor e) h → (aim : tree.Target Span) (v : tree.Word Span) → bare_target aim ≡ bare_target (aimed_at h).tree.target → v.text ≡ text_of h w.text
        → (ps ps' : Tokens) → InOrder (Stands (target_layout (tree.on e))) (Stands (word_layout w)) ps → InOrder (Stands (target_layout aim)) (Stands (word_layout v)) ps' → Stepped never false ps (aimed_at h).changes (kinds ps')
    aimed_steps h suits aim v e1 e2 ps ps' l k =
        let dots = dotted_target {P = Stands (exp_layout e)} w.mark w.text ps l in
        stepped_new ps (aimed_at h).changes (dotted_chosen h w.text (toks p.tree)) (kinds ps')
        (dotted_call_toks m w e p.tree h suits ∙ sym (ap kinds k.whole ∙ kinds-append k.front k.back ∙ (λ j. target_kinds aim (aimed_at h).tree.target e1 k.front k.first j ++ (word_kinds v.mark v.text k.back k.rest ∙ ap (λ t. word t ∷ []) e2) j)))
        (operand_steps e w.mark w.text ps dots p.changes (toks p.tree) (exp_steps itself C nowhere never fit tt c left m.from e p dots.front inner (subst (λ z. Stands z dots.front) (sym (spans_from-span m.from (exp_layout e))) dots.operand)) h suits)

    aimed_kept : (k : Span) (z : tree.Exp Span) (v : tree.Word Span) (es : tree.Exps Span) (ds : List Change) → Carries false (Stands (exp_layout e)) (Stands (exp_layout z)) p.changes (Within rows c x left m.from e) (New left k.from z)
        → Carries false (Stands (word_layout w)) (Stands (word_layout v)) ds (OldOwn r b (tree.call m (tree.on e) w args)) (NewOwn r i (tree.call k (tree.on z) v es)) → Both k (tree.on z) v es (p.changes ++ ds)
    unfolding InTarget
    aimed_kept k z v es ds inside own =
        alike (p.changes ++ ds) (p.changes ++ ds) refl (λ at o. elim o [ inl a ↦ inr a | inr a ↦ inl a ]) (λ at n. elim n [ inl a ↦ inr a | inr a ↦ inl a ])
        (both (only inside (last (a_token (symbol Dot)))) own)

    aimed_dropped : (h : Choice) → Suits (MayStandFor e) h → (k : Span) (aim : tree.Target Span) (v : tree.Word Span) (es : tree.Exps Span) → bare_target aim ≡ bare_target (aimed_at h).tree.target → v.text ≡ text_of h w.text
        → (text : List ℕ) → (aimed_at h).changes ≡ change (from_to (exp_mark e) w.mark) text ∷ [] → Both k aim v es (aimed_at h).changes
    unfolding InTarget
    aimed_dropped h suits k aim v es e1 e2 text is =
        let step : (ps ps' : Tokens) → InOrder (Stands (target_layout (tree.on e))) (Stands (word_layout w)) ps → InOrder (Stands (target_layout aim)) (Stands (word_layout v)) ps' → Stepped never false ps (change (from_to (exp_mark e) w.mark) text ∷ []) (kinds ps') =
        λ ps ps' l n. subst (λ cs. Stepped never false ps cs (kinds ps')) is (aimed_steps h suits aim v e1 e2 ps ps' l n) in
        alike (change (from_to (exp_mark e) w.mark) text ∷ []) (aimed_at h).changes (sym is) (λ at o. elim o [ inl a ↦ inr a | inr a ↦ inl a ]) (λ at n. n)
        (dropped {E = Stands (exp_layout e)} {Old = Within rows c x left m.from e} {Own = OldOwn r b (tree.call m (tree.on e) w args)} (exp_mark e) w.mark w.text (λ ps l. dotted_target w.mark w.text ps l) (exp_span e) (some_exp e)
        (λ ps l at o. exp_starts rows c x left m.from e at o ps l) (λ at o. o.1.0) text step)

    aimed_cast : (f text : List ℕ) (chosen_so : C.expression c r b (tree.call m (tree.on e) w args) (becomes (record { text = text; front = by_cast f }))) → p.losses ≡ [] → IsName text → IsName f
        → (k : Span) (aim : tree.Target Span) (v : tree.Word Span) (es : tree.Exps Span) → bare_target aim ≡ bare_target (tree.on (cast_tree m f p.tree)) → v.text ≡ text → Both k aim v es (aimed_at (becomes (record { text = text; front = by_cast f }))).changes
    unfolding InTarget Somewhere
    aimed_cast f text chosen_so none name class k aim v es e1 e2 =
        let h : Choice = becomes (record { text = text; front = by_cast f }) in
        let n = on_back aim (cast_tree m f p.tree) e1 in
        let a = paren_back n.0 m (tree.cast m (tree.named m None (new_word m f)) p.tree) n.2 in
        let s = cast_back a.1 m (tree.named m None (new_word m f)) p.tree a.3 in
        let t = simple_back s.1 m (new_word m f) s.4 in
        let z : tree.Exp Span = s.2 in
        let z' : tree.Exp Span = tree.paren a.0 (tree.cast s.0 (tree.named t.0 None t.1) z) in
        let is : aim ≡ tree.on z' = n.1 ∙ ap (λ (u : tree.Exp Span). tree.on u) (a.2 ∙ ap (λ (u : tree.Exp Span). tree.paren a.0 u) (s.3 ∙ ap (λ (u : tree.TypeName Span). tree.cast s.0 u z) t.2)) in
        let not : (j : ClassKey) → IsClassName (rows_to g rows) d z j → ⊥ = λ j there. kept.apart left m.from e p inner none (kept.call_value r b m e w args h f chosen_so refl) j (class_move begins (rows_to g rows) d j z p.tree s.5 there) in
        let suits : Suits (MayStandFor e) h = fit.expression c r b (tree.call m (tree.on e) w args) h chosen_so in
        let step : (ps ps' : Tokens) → InOrder (Stands (target_layout (tree.on e))) (Stands (word_layout w)) ps → InOrder (Stands (target_layout (tree.on z'))) (Stands (word_layout v)) ps' → Stepped never false ps (aimed_at h).changes (kinds ps') =
        aimed_steps h suits (tree.on z') v (ap bare_target (sym is) ∙ e1) e2 in
        let parts : (ps : Tokens) → InOrder (Stands (target_layout (tree.on z'))) (Stands (word_layout v)) ps → CastParts f (Stands (exp_layout z)) ps =
        λ ps l. parts_more ps l.front l.back l.whole (parts_more l.front l.first.front l.first.back l.first.whole
        (subst (λ word. CastParts word (Stands (exp_layout z)) l.first.front) t.3 (cast_parts_of a.0 s.0 t.0 t.1.mark t.1.text (Stands (exp_layout z)) l.first.front l.first.first))) in
        subst (λ (u : tree.Target Span). Both k u v es (aimed_at h).changes) (sym is)
        (alike (aimed_at h).changes (aimed_at h).changes refl (λ at o. elim o [ inl o1 ↦ inr o1 | inr o1 ↦ inl o1 ]) (λ at n1. n1)
        (cast_around {Own = OldOwn r b (tree.call m (tree.on e) w args)} {New' = λ at. NewOwn r i (tree.call k (tree.on z') v es) at ⊎ New left k.from z' at} (again z s.0.from s.5 none) (exp_mark e) w.mark w.text f text
        (λ ps l. dotted_target w.mark w.text ps l) parts (exp_span e) (some_exp e) (λ at o. o.1.0) (λ at n1. inr (inr (inr (within_value (rows_to g rows) d (decl_to g x) z s.0.from not at n1)))) name class step))

    module _ (y : tree.Exp Span) (rest : (ys : tree.Exps Span) (j : ℕ) → bare_args ys ≡ bare_args q.tree → q.losses ≡ [] → RowMoves m.from j args ys q.changes) where
      abbrev IsCarried : Choice → Type 0
      IsCarried h = Carries false (Stands (exp_layout (tree.call m (tree.on e) w args))) (Stands (exp_layout y)) (whole h).changes (OldCall r b i m (tree.on e) w args (aimed_at h) q) (New r i y)

      front_none : (h : Choice) → (whole h).losses ≡ [] → (aimed_at h).losses ≡ []
      front_none h none = left_none (aimed_at h).losses q.losses none

      row_none : (h : Choice) → (whole h).losses ≡ [] → q.losses ≡ []
      row_none h none = right_none (aimed_at h).losses q.losses none

      pub dotted_call : (h : Choice) → C.expression c r b (tree.call m (tree.on e) w args) h → (whole h).losses ≡ [] → bare y ≡ bare (whole h).tree → IsCarried h
      dotted_call stays chosen_so none eq =
          let n = call_back y m (tree.on p.tree) (word_to stays w) q.tree eq in
          let o = on_back n.1 p.tree n.5 in
          let is : y ≡ tree.call n.0 (tree.on o.0) n.2 n.3 = n.4 ∙ ap (λ (u : tree.Target Span). tree.call n.0 u n.2 n.3) o.1 in
          let own = same_word w n.2 n.6 (λ at z. z.1.0) (λ at z. at_call r i n.0 (tree.on o.0) n.2 n.3 (subst (λ (u : tree.Exp Span). Bound r i u) is (call_bound r b i m (tree.on e) w args (aimed_at stays) q stays y (made_dotted stays chosen_so) none eq at z))) in
          let kept_so : Both n.0 (tree.on o.0) n.2 n.3 (p.changes ++ []) = aimed_kept n.0 o.0 n.2 n.3 [] (again o.0 n.0.from o.2 (left_none p.losses [] (front_none stays none))) own in
          whole_call r b i m (tree.on e) w args (aimed_at stays) q y n.0 (tree.on o.0) n.2 n.3 is (alike (p.changes ++ []) p.changes (append-nil p.changes) (λ at z. z) (λ at z. z) kept_so) (rest n.3 n.0.from n.7 (row_none stays none))
      dotted_call (loses l) chosen_so none eq = absurd (some_loss rows g super_at fit x c d kept p.losses l (front_none (loses l) none))
      dotted_call (becomes z) chosen_so none eq = by_front z.front z.text chosen_so none eq (fit.expression c r b (tree.call m (tree.on e) w args) (becomes z) chosen_so)
        where
          dropped_so : (h : Choice) → C.expression c r b (tree.call m (tree.on e) w args) h → (whole h).losses ≡ [] → bare y ≡ bare (whole h).tree → Suits (MayStandFor e) h → (text : List ℕ) → (aimed_at h).changes ≡ change (from_to (exp_mark e) w.mark) text ∷ [] → IsCarried h
          dropped_so h chosen_so none eq suits text is =
              let n = call_back y m (aimed_at h).tree.target (word_to h w) q.tree eq in
              whole_call r b i m (tree.on e) w args (aimed_at h) q y n.0 n.1 n.2 n.3 n.4 (aimed_dropped h suits n.0 n.1 n.2 n.3 n.5 n.6 text is) (rest n.3 n.0.from n.7 (row_none h none))

          by_front : (f : Front) (text : List ℕ)
              → (let h : Choice = becomes (record { text = text; front = f }) in C.expression c r b (tree.call m (tree.on e) w args) h → (whole h).losses ≡ [] → bare y ≡ bare (whole h).tree → Suits (MayStandFor e) h → IsCarried h)
          by_front same text chosen_so none eq suits =
              let h : Choice = becomes (record { text = text; front = same }) in
              let n = call_back y m (tree.on p.tree) (word_to h w) q.tree eq in
              let o = on_back n.1 p.tree n.5 in
              let is : y ≡ tree.call n.0 (tree.on o.0) n.2 n.3 = n.4 ∙ ap (λ (u : tree.Target Span). tree.call n.0 u n.2 n.3) o.1 in
              let kept_so : Both n.0 (tree.on o.0) n.2 n.3 (p.changes ++ change w.mark text ∷ []) = aimed_kept n.0 o.0 n.2 n.3 (change w.mark text ∷ []) (again o.0 n.0.from o.2 (left_none p.losses [] (front_none h none))) (named_word w n.2 text n.6 suits.0 (λ at z. z.1.0)) in
              whole_call r b i m (tree.on e) w args (aimed_at h) q y n.0 (tree.on o.0) n.2 n.3 is kept_so (rest n.3 n.0.from n.7 (row_none h none))
          by_front (by_cast f) text chosen_so none eq suits =
              let h : Choice = becomes (record { text = text; front = by_cast f }) in
              let n = call_back y m (tree.on (cast_tree m f p.tree)) (word_to h w) q.tree eq in
              whole_call r b i m (tree.on e) w args (aimed_at h) q y n.0 n.1 n.2 n.3 n.4 (aimed_cast f text chosen_so (left_none p.losses [] (front_none h none)) suits.0 suits.1 n.0 n.1 n.2 n.3 n.5 n.6) (rest n.3 n.0.from n.7 (row_none h none))
          by_front alone text chosen_so none eq suits = dropped_so (becomes (record { text = text; front = alone })) chosen_so none eq suits (front_text alone ++ text) refl
          by_front by_this text chosen_so none eq suits = dropped_so (becomes (record { text = text; front = by_this })) chosen_so none eq suits (front_text by_this ++ text) refl
          by_front by_super text chosen_so none eq suits = dropped_so (becomes (record { text = text; front = by_super })) chosen_so none eq suits (front_text by_super ++ text) refl
          by_front (by_cast_this k) text chosen_so none eq suits = dropped_so (becomes (record { text = text; front = by_cast_this k })) chosen_so none eq suits (front_text (by_cast_this k) ++ text) refl
          by_front (by_class k) text chosen_so none eq suits = dropped_so (becomes (record { text = text; front = by_class k })) chosen_so none eq suits (front_text (by_class k) ++ text) refl
          by_front (by_outer_class o k) text chosen_so none eq suits = dropped_so (becomes (record { text = text; front = by_outer_class o k })) chosen_so none eq suits (front_text (by_outer_class o k) ++ text) refl
