-- All references of an expression that is rewritten, in one recursion.
use Rattle.std.proofs.Common.{◌≡◌, ℕ, ◌<◌, true, false, List, [], ◌∷◌, ◌++◌, Option, Some, None, refl, sym, ap, ◌∙◌, subst, inl, inr, arith}
use Rattle.std.specs.Prelude.{◌⊎◌}
use Rattle.std.proofs.lemmas.List.{append-nil}
use Rattle.jr_text.specs.declared.spans.Span.{Span}
use Rattle.jr_lex.specs.declared.items.Keyword.TheVariants.{Super, Class, New as NewWord}
use Rattle.jr_lex.specs.declared.items.Symbol.TheVariants.{OpenParen, CloseParen, Dot, Comma, Equals, PlusPlus, MinusMinus}
use Rattle.jr_ast.specs.declared.operators.BumpOp.TheVariants.{PreInc, PreDec, PostInc, PostDec}
use Rattle.jr_ast.specs.Tree as tree
use Rattle.jr_grammar.specs.Bare.{bare, bare_type, bare_args}
use Rattle.jr_grammar.specs.Tokens.{Token, word, keyword, symbol, kinds}
use Rattle.jr_grammar.specs.Spelling.{unary_symbol, binary_symbol, compound_symbol}
use Rattle.jr_grammar.specs.Layout.{itself}
use Rattle.jr_grammar.specs.ExpressionLayout.{word_layout, type_layout, exp_layout, args_layout, more_args_layout}
use Rattle.jr_grammar.specs.Stands.{Tokens, first_from, last_to, span_of, IsAlone, InOrder, IsNode, Stands}
use Rattle.jr_table.specs.Keys.{CtorKey}
use Rattle.jr_table.specs.Decls.{Decl, class_decl, constructor_decl}
use Rattle.jr_table.specs.Rows.{Row}
use Rattle.jr_table.specs.Found.{one}
use Rattle.jr_table.specs.Context.{Context}
use Rattle.jr_table.specs.Binding.{Role, value, left, TypeRefers, CreationFinds, type as a_type, method as a_method}
use Rattle.jr_table.specs.Somewhere.{Somewhere, InTarget, InRow}
use Rattle.jr_program_laws.specs.FileParts.{begins}
use Rattle.jr_program_laws.proofs.TokenOrder.{StartsIn, Rising}
use Rattle.jr_rewrite.specs.Respellings.{Front, same, alone, by_this, by_super, by_cast_this, by_class, by_outer_class, by_cast, Choice, stays, becomes, loses, front_of, text_of, front_text, Change}
use Rattle.jr_rewrite.specs.Rewritten.{Rewritten, change, plain, within, joined, losses_of, word_to, word_out, name_out, field_out, super_field_out, super_changes, super_to, from_to, word_changes, Called, simple_call_out, dotted_call_out}
use Rattle.jr_rewrite.specs.Suitable.{AreSuitable, Suits, MayStandAlone}
use Rattle.jr_rewrite.specs.Spots.{nowhere}
use Rattle.jr_rewrite.specs.Rewrites.{Choosing, RewritesExp, RewritesRow, RewritesType, with_losses, TransformsExp, TransformsTarget, TransformsRow}
use Rattle.jr_rewrite.proofs.ExpressionSteps.{alone_word_steps}
use Rattle.jr_rewrite.proofs.Steps.{Stepped}
use Rattle.jr_rewrite.proofs.Stepping.{stepped_new, dotted, alone_some}
use Rattle.jr_images.specs.Images.{Renaming, ctor_to, decl_to, rows_to}
use Rattle.jr_images.specs.Keeping.{IsBoundTo}
use Rattle.jr_images.proofs.Chosen.{left_none, right_none, lost_none}
use Rattle.jr_moved_tokens.proofs.StepRuns.{never}
use Rattle.jr_moved_tokens.proofs.MovedTokens.{Untouched}
use Rattle.jr_moved_references.proofs.Carrying.{Split, Carries, AreNone, WordStands, idle, nothing, a_token, alike, turn, node, both, pass, only, last, touched, spanned, word_kinds}
use Rattle.jr_moved_references.proofs.Dotted.{last_more, word_wide, word_there}
use Rattle.jr_moved_references.proofs.BareReferences.{bound_bare}
use Rattle.jr_moved_references.proofs.Backs.{super_field_back, literal_back, super_call_back, create_back, paren_back, cast_back, unary_back, bump_back, binary_back, assign_back, compound_back, end_back, more_back}
use Rattle.jr_moved_references.proofs.Worded.{chosen_word, same_word}
use Rattle.jr_moved_references.proofs.Starting.{WithinRow, exp_starts}
use Rattle.jr_moved_references.proofs.FoundTypes.{found_creation, refers_class}
use Rattle.jr_moved_references.proofs.KeptAt.{spelled, KeptAt}
use Rattle.jr_moved_references.proofs.NamedPlaces.{C, Old, New, OldOwn, NewOwn, Bound, exp_step, moved, name_carries, field_carries}
use Rattle.jr_moved_references.proofs.CalledPlaces.{Call, in_parens, simple_call, dotted_call}

-- the first token of a node, which begins where the node does
pub record Leads (m : Span) (t : Token) (ps : Tokens) : Type 0 where
  pub alone : IsAlone t ps
  pub from : m.from ≡ first_from ps

pub leads : {m : Span} {t : Token} {L : Tokens → Type 0} (ps : Tokens) → IsNode m (InOrder (IsAlone t) L) ps → InOrder (Leads m t) L ps
leads {m = m} ps h =
    let whole : ps ≡ h.parts.first.placed ∷ h.parts.back = h.parts.whole ∙ ap (λ (xs : Tokens). xs ++ h.parts.back) h.parts.first.alone in
    let from : m.from ≡ first_from h.parts.front = ap (λ (s : Span). s.from) h.mark ∙ ap first_from whole ∙ sym (ap first_from h.parts.first.alone) in
    record { front = h.parts.front; back = h.parts.back; whole = h.parts.whole; first = record { alone = h.parts.first; from = from }; rest = h.parts.rest }

module _ (rows : List Row) (g : Renaming) (super_at : Context → ℕ) (fit : AreSuitable (spelled rows g super_at)) (x : Decl) (c d : Context) (kept : KeptAt rows g super_at c d) where
  abbrev Made : Role → (base : ℕ) → tree.Exp Span → Rewritten (tree.Exp Span) → Type 0
  Made r b e o = RewritesExp itself (spelled rows g super_at) c r b e o

  abbrev Was : Role → (base : ℕ) → tree.Exp Span → (at : ℕ) → Type 0
  Was r b e at = Old rows g super_at fit x c d kept r b e at

  abbrev Is : Role → (base : ℕ) → tree.Exp Span → (at : ℕ) → Type 0
  Is r b e at = New rows g super_at fit x c d kept r b e at

  abbrev IsOwn : Role → (base : ℕ) → tree.Exp Span → (at : ℕ) → Type 0
  IsOwn r b e at = NewOwn rows g super_at fit x c d kept r b e at

  abbrev WasOwn : Role → (base : ℕ) → tree.Exp Span → (at : ℕ) → Type 0
  WasOwn r b e at = OldOwn rows g super_at fit x c d kept r b e at

  abbrev IsBound : Role → (base : ℕ) → tree.Exp Span → Type 0
  IsBound r i y = Bound rows g super_at fit x c d kept r i y

  abbrev Carried : Role → (b i : ℕ) → (e y : tree.Exp Span) → List Change → Type 0
  Carried r b i e y cs = Carries false (Stands (exp_layout e)) (Stands (exp_layout y)) cs (Was r b e) (Is r i y)

  abbrev RowCarried : (b i : ℕ) → (es ys : tree.Exps Span) → List Change → Type 0
  RowCarried b i es ys cs = Carries false (Stands (args_layout es)) (Stands (args_layout ys)) cs (WithinRow rows c x b es) (WithinRow (rows_to g rows) d (decl_to g x) i ys)

  abbrev MoreCarried : (b i : ℕ) → (es ys : tree.Exps Span) → List Change → Type 0
  MoreCarried b i es ys cs = Carries false (Stands (more_args_layout es)) (Stands (more_args_layout ys)) cs (WithinRow rows c x b es) (WithinRow (rows_to g rows) d (decl_to g x) i ys)

  -- of written types
  abbrev TypesCarry : Type 0
  TypesCarry = (b i : ℕ) (t u : tree.TypeName Span) (o : Rewritten (tree.TypeName Span)) → RewritesType itself (spelled rows g super_at) c b t o → o.losses ≡ [] → bare_type u ≡ bare_type o.tree
      → Carries false (Stands (type_layout t)) (Stands (type_layout u)) o.changes (λ at. TypeRefers begins rows c b t at (one x)) (λ to. TypeRefers begins (rows_to g rows) d i u to (one (decl_to g x)))

  -- its own reference is one within it
  own_within : (r : Role) (i : ℕ) (y : tree.Exp Span) (to : ℕ) → IsOwn r i y to → Is r i y to
  unfolding Somewhere
  own_within r i (tree.number m n) to h = h
  own_within r i (tree.truth m n) to h = h
  own_within r i (tree.null m) to h = h
  own_within r i (tree.string m n) to h = h
  own_within r i (tree.this m) to h = h
  own_within r i (tree.name m w) to h = h
  own_within r i (tree.super_field m w) to h = h
  own_within r i (tree.class_literal m t) to h = h
  own_within r i (tree.field m e w) to h = inl h
  own_within r i (tree.call m aim w args) to h = inl h
  own_within r i (tree.super_call m w args) to h = inl h
  own_within r i (tree.create m t args) to h = inl h
  own_within r i (tree.paren m e) to h = inl h
  own_within r i (tree.cast m t e) to h = inl h
  own_within r i (tree.unary m o e) to h = inl h
  own_within r i (tree.bump m o e) to h = inl h
  own_within r i (tree.binary m o e f) to h = inl h
  own_within r i (tree.assign m e f) to h = inl h
  own_within r i (tree.compound m o e f) to h = inl h

  -- read as another tree
  read_as : (r : Role) (b i : ℕ) (e y u : tree.Exp Span) (cs : List Change) → y ≡ u → Carried r b i e u cs → Carried r b i e y cs
  read_as r b i e y u cs is h = subst (λ (z : tree.Exp Span). Carried r b i e z cs) (sym is) h

  -- ---- a field by `super`

  at_super : (r : Role) (i : ℕ) (k : Span) (v : tree.Word Span) → IsBound r i (tree.super_field k v) → IsOwn r i (tree.super_field k v) v.mark.from
  at_super r i k v h = (h.1.0, (refl, h.1.1.1, h.1.1.2))

  module _ (r : Role) (b i : ℕ) (m : Span) (w : tree.Word Span) (y : tree.Exp Span) where
    made_super : (h : Choice) → (spelled rows g super_at).expression c r b (tree.super_field m w) h → Made r b (tree.super_field m w) (super_field_out itself h m b w)
    unfolding TransformsExp
    made_super h chosen = (h, chosen, refl)

    super_touched : (h : Choice) → (spelled rows g super_at).expression c r b (tree.super_field m w) h → bare y ≡ bare (super_field_out itself h m b w).tree
        → ((ps : Tokens) → Rising ps → Stands (exp_layout (tree.super_field m w)) ps → Untouched (super_changes h m w.mark) w.mark.from → ⊥) → Carried r b i (tree.super_field m w) y (super_changes h m w.mark)
    unfolding Somewhere
    super_touched h chosen eq gone =
        touched (exp_step rows g super_at fit x c d kept r b (tree.super_field m w) (super_field_out itself h m b w) y (made_super h chosen) eq) (λ ps l at o. exp_starts rows c x r b (tree.super_field m w) at o ps l)
        (λ ps rising l at o u. gone ps rising l (subst (λ n. Untouched (super_changes h m w.mark) n) o.1.0 u))

    -- the name alone, or all
    name_gone : (text : List ℕ) (ps : Tokens) → Rising ps → Stands (exp_layout (tree.super_field m w)) ps → Untouched (change w.mark text ∷ []) w.mark.from → ⊥
    name_gone text ps rising l u =
        let s = dotted {P = IsAlone (keyword Super)} w.mark w.text ps l.parts in
        let wide = word_wide (span_of s.front) w.mark w.text ps s rising refl (alone_some (keyword Super) s.front s.operand) in
        u.0 (omega arith, wide)

    all_gone : (text : List ℕ) (ps : Tokens) → Rising ps → Stands (exp_layout (tree.super_field m w)) ps → Untouched (change (from_to m w.mark) text ∷ []) w.mark.from → ⊥
    all_gone text ps rising l u =
        let s = dotted {P = IsAlone (keyword Super)} w.mark w.text ps l.parts in
        let from : m.from ≡ first_from ps = ap (λ (z : Span). z.from) l.mark in
        let to : last_to ps ≡ w.mark.to = ap last_to s.whole ∙ last_more s.front s.dot s.last ∙ sym (ap (λ (z : Span). z.to) s.mark) in
        spanned ps w.mark (change (from_to m w.mark) text) [] rising (omega arith) (omega arith) w.mark.from (word_there w.mark w.text ps s) u

    super_carries : (h : Choice) → (spelled rows g super_at).expression c r b (tree.super_field m w) h → losses_of h ≡ [] → bare y ≡ bare (super_field_out itself h m b w).tree → Carried r b i (tree.super_field m w) y (super_field_out itself h m b w).changes
    unfolding Somewhere
    super_carries stays chosen none eq =
        let n = super_field_back y m (word_to stays w) eq in
        let bound : (at : ℕ) → WasOwn r b (tree.super_field m w) at → IsBound r i y = λ at o. bound_bare begins g rows d r i i (super_field_out itself stays m b w).tree y (sym eq) (decl_to g x) (kept.own r b (tree.super_field m w) (super_field_out itself stays m b w) (made_super stays chosen) none i at x o) in
        read_as r b i (tree.super_field m w) y (tree.super_field n.0 n.1) [] n.2
        (node (pass (a_token (keyword Super)) (pass (a_token (symbol Dot)) (last (same_word w n.1 n.3 (λ at o. o.1.0) (λ at o. at_super r i n.0 n.1 (subst (λ (z : tree.Exp Span). IsBound r i z) n.2 (bound at o))))))))
    super_carries (loses l) chosen none eq = (let lost : l ∷ [] ≡ [] = none in absurd cc)
    super_carries (becomes s) chosen none eq = by_front s.front s.text chosen eq
      where
        by_front : (f : Front) (text : List ℕ)
            → (let h : Choice = becomes (record { text = text; front = f }) in (spelled rows g super_at).expression c r b (tree.super_field m w) h → bare y ≡ bare (super_field_out itself h m b w).tree → Carried r b i (tree.super_field m w) y (super_field_out itself h m b w).changes)
        by_front same text chosen eq = super_touched (becomes (record { text = text; front = same })) chosen eq (name_gone text)
        by_front alone text chosen eq = super_touched (becomes (record { text = text; front = alone })) chosen eq (all_gone (front_text alone ++ text))
        by_front by_this text chosen eq = super_touched (becomes (record { text = text; front = by_this })) chosen eq (all_gone (front_text by_this ++ text))
        by_front by_super text chosen eq = super_touched (becomes (record { text = text; front = by_super })) chosen eq (all_gone (front_text by_super ++ text))
        by_front (by_cast_this k) text chosen eq = super_touched (becomes (record { text = text; front = by_cast_this k })) chosen eq (all_gone (front_text (by_cast_this k) ++ text))
        by_front (by_class k) text chosen eq = super_touched (becomes (record { text = text; front = by_class k })) chosen eq (all_gone (front_text (by_class k) ++ text))
        by_front (by_outer_class o k) text chosen eq = super_touched (becomes (record { text = text; front = by_outer_class o k })) chosen eq (all_gone (front_text (by_outer_class o k) ++ text))
        by_front (by_cast k) text chosen eq = super_touched (becomes (record { text = text; front = by_cast k })) chosen eq (all_gone (front_text (by_cast k) ++ text))

  -- ---- a call by `super`

  at_super_call : (r : Role) (i : ℕ) (k : Span) (v : tree.Word Span) (es : tree.Exps Span) → IsBound r i (tree.super_call k v es) → IsOwn r i (tree.super_call k v es) v.mark.from
  at_super_call r i k v es h = (h.1.0, (refl, h.1.1.1, h.1.1.2))

  module _ (r : Role) (b i : ℕ) (m : Span) (w : tree.Word Span) (args : tree.Exps Span) (y : tree.Exp Span) (h : Choice) (q : Rewritten (tree.Exps Span)) (chosen : (spelled rows g super_at).expression c r b (tree.super_call m w args) h) (row : RewritesRow itself (spelled rows g super_at) c m.from args q)
      (again : (ys : tree.Exps Span) (j : ℕ) → bare_args ys ≡ bare_args q.tree → q.losses ≡ [] → RowCarried m.from j args ys q.changes) where
    abbrev super_out : Rewritten (tree.Exp Span)
    super_out = joined (λ v es. tree.super_call m v es) (word_out itself h m.from w) q

    made_super_call : Made r b (tree.super_call m w args) super_out
    unfolding TransformsExp
    made_super_call = (h, q, chosen, row, refl)

    super_call_carries : super_out.losses ≡ [] → bare y ≡ bare super_out.tree → Carried r b i (tree.super_call m w args) y super_out.changes
    unfolding Somewhere
    super_call_carries none eq =
        let n = super_call_back y m (word_to h w) q.tree eq in
        let suits : Suits MayStandAlone h = fit.expression c r b (tree.super_call m w args) h chosen in
        let bound : (at : ℕ) → WasOwn r b (tree.super_call m w args) at → IsBound r i y = λ at o. bound_bare begins g rows d r i i super_out.tree y (sym eq) (decl_to g x) (kept.own r b (tree.super_call m w args) super_out made_super_call none i at x o) in
        let step : (ps ps' : Tokens) → Stands (word_layout w) ps → Stands (word_layout n.1) ps' → Stepped never false ps (word_changes h w.mark) (kinds ps') =
        λ ps ps' l k. stepped_new ps (word_changes h w.mark) (word (text_of h w.text) ∷ []) (kinds ps') (sym (word_kinds n.1.mark n.1.text ps' k ∙ ap (λ t. word t ∷ []) n.4))
        (alone_word_steps itself (spelled rows g super_at) nowhere never fit tt m.from w h ps suits l) in
        let own : Carries false (Stands (word_layout w)) (Stands (word_layout n.1)) (word_changes h w.mark) (WasOwn r b (tree.super_call m w args)) (IsOwn r i (tree.super_call n.0 n.1 n.2)) =
        chosen_word h w.mark w.text (left_none (losses_of h) q.losses none) (λ ps l. l) step (λ at o. o.1.0)
        (λ e. same_word w n.1 (n.4 ∙ ap (λ (z : Choice). text_of z w.text) e) (λ at o. o.1.0) (λ at o. at_super_call r i n.0 n.1 n.2 (subst (λ (z : tree.Exp Span). IsBound r i z) n.3 (bound at o)))) in
        read_as r b i (tree.super_call m w args) y (tree.super_call n.0 n.1 n.2) super_out.changes n.3
        (node (pass (a_token (keyword Super)) (pass (a_token (symbol Dot)) (both own (in_parens rows g super_at fit x c d kept m.from n.0.from args n.2 q.changes (again n.2 n.0.from n.5 (right_none (losses_of h) q.losses none)))))))

  -- ---- a creation

  -- its constructor's place is that of `new`
  at_create : (r : Role) (i : ℕ) (k : Span) (u : tree.TypeName Span) (es : tree.Exps Span) → ((j : CtorKey) × (decl_to g x ≡ constructor_decl j)) → IsBound r i (tree.create k u es) → CreationFinds (rows_to g rows) d u es (one (decl_to g x))
  at_create r i k u es ctor (to, (q, inl h)) = h.2
  at_create r i k u es ctor (to, (q, inr h)) =
      let class = refers_class (rows_to g rows) begins d k.from u to (decl_to g x) h.1 in
      let same : class_decl class.0 ≡ constructor_decl ctor.0 = sym class.1 ∙ ctor.1 in
      absurd cc

  new_token : {P Q : Type 0} (m k : Span) → (P → Q) → Carries false (Leads m (keyword NewWord)) (Leads k (keyword NewWord)) [] (λ at. (at ≡ m.from) × P) (λ to. (to ≡ k.from) × Q)
  new_token m k gives = record {
    step = λ ps ps' h n. (a_token (keyword NewWord)).step ps ps' h.alone n.alone;
    starts = λ ps h at o. subst (λ (qs : Tokens). StartsIn qs at) (sym h.alone.alone) (inl (o.0 ∙ h.from ∙ ap first_from h.alone.alone));
    carry = λ ps ps' rising h n at o u. (
      k.from,
      (refl, gives o.1),
      record {
        before = [];
        after = [];
        placed = h.alone.placed;
        front = [];
        back = [];
        other = n.alone.placed;
        olds_are = sym h.alone.alone;
        changes_are = refl;
        flow = tt;
        tight = tt;
        new_are = n.alone.alone;
        before_are = refl;
        old_at = sym (o.0 ∙ h.from ∙ ap first_from h.alone.alone);
        new_at = sym (n.from ∙ ap first_from n.alone.alone);
      },
    );
  }

  module _ (types : TypesCarry) where
    module _ (r : Role) (b i : ℕ) (m : Span) (t : tree.TypeName Span) (args : tree.Exps Span) (y : tree.Exp Span) (h : Choice) (p : Rewritten (tree.TypeName Span)) (q : Rewritten (tree.Exps Span)) (chosen : (spelled rows g super_at).creation c b (tree.create m t args) h)
        (written : RewritesType itself (spelled rows g super_at) c m.from t p) (row : RewritesRow itself (spelled rows g super_at) c m.from args q)
        (again : (ys : tree.Exps Span) (j : ℕ) → bare_args ys ≡ bare_args q.tree → q.losses ≡ [] → RowCarried m.from j args ys q.changes) where
      abbrev create_out : Rewritten (tree.Exp Span)
      create_out = with_losses itself (spelled rows g super_at) h (joined (λ u es. tree.create m u es) p q)

      made_create : Made r b (tree.create m t args) create_out
      unfolding TransformsExp
      made_create = (h, p, q, chosen, written, row, refl)

      create_carries : create_out.losses ≡ [] → bare y ≡ bare create_out.tree → Carried r b i (tree.create m t args) y create_out.changes
      unfolding Somewhere
      create_carries none eq =
          let n = create_back y m p.tree q.tree eq in
          let inside : p.losses ++ q.losses ≡ [] = right_none (losses_of h) (p.losses ++ q.losses) none in
          let finds : CreationFinds rows c t args (one x) → CreationFinds (rows_to g rows) d n.1 n.2 (one (decl_to g x)) =
          λ f.
          (let old = found_creation rows c t args x f in
          at_create r i n.0 n.1 n.2 (ctor_of old) (subst (λ (z : tree.Exp Span). IsBound r i z) n.3 (bound_bare begins g rows d r i i create_out.tree y (sym eq) (decl_to g x) (kept.own r b (tree.create m t args) create_out made_create none i x f)))) in
          read_as r b i (tree.create m t args) y (tree.create n.0 n.1 n.2) create_out.changes n.3
          (turn leads leads (alike (p.changes ++ q.changes) (p.changes ++ q.changes) refl
          (λ at o. elim o [ inl own ↦ elim own.1 [ inl a ↦ inl (a.0, a.2) | inr a ↦ inr (inl a.1) ] | inr a ↦ inr (inr a) ])
          (λ to o. elim o [ inl a ↦ inl (a_method, inl (a.0, refl, a.1)) | inr z ↦ elim z [ inl a ↦ inl (a_type, inr (refl, a)) | inr a ↦ inr a ] ])
          (both (new_token m n.0 finds) (both (types m.from n.0.from t n.1 p written (left_none p.losses q.losses inside) n.4) (in_parens rows g super_at fit x c d kept m.from n.0.from args n.2 q.changes (again n.2 n.0.from n.5 (right_none p.losses q.losses inside)))))))
        where
          ctor_of : ((j : CtorKey) × (x ≡ constructor_decl j)) → ((j : CtorKey) × (decl_to g x ≡ constructor_decl j))
          ctor_of (j, is) = (ctor_to g j, ap (decl_to g) is)

    -- ---- all

    mutual
      unfolding TransformsExp TransformsTarget TransformsRow Somewhere InTarget InRow

      pub exp_carries : (r : Role) (b i : ℕ) (e y : tree.Exp Span) (o : Rewritten (tree.Exp Span)) → Made r b e o → o.losses ≡ [] → bare y ≡ bare o.tree → Carried r b i e y o.changes
      exp_carries r b i (tree.number m n) y o made none eq = idle (exp_step rows g super_at fit x c d kept r b (tree.number m n) o y made eq) (λ at h. h.1)
      exp_carries r b i (tree.truth m n) y o made none eq = idle (exp_step rows g super_at fit x c d kept r b (tree.truth m n) o y made eq) (λ at h. h.1)
      exp_carries r b i (tree.null m) y o made none eq = idle (exp_step rows g super_at fit x c d kept r b (tree.null m) o y made eq) (λ at h. h.1)
      exp_carries r b i (tree.string m n) y o made none eq = idle (exp_step rows g super_at fit x c d kept r b (tree.string m n) o y made eq) (λ at h. h.1)
      exp_carries r b i (tree.this m) y o made none eq = idle (exp_step rows g super_at fit x c d kept r b (tree.this m) o y made eq) (λ at h. h.1)
      exp_carries r b i (tree.name m w) y o (h, chosen, is) none eq =
          let out : Rewritten (tree.Exp Span) = name_out itself h m b w in
          moved rows g super_at fit x c d kept o out is
          (alike out.changes out.changes refl (λ at z. z) (own_within r i y) (name_carries rows g super_at fit x c d kept r b i m w y h chosen (lost_none o out is none) (eq ∙ ap (λ (z : Rewritten (tree.Exp Span)). bare z.tree) is)))
      exp_carries r b i (tree.field m e w) y o (h, p, chosen, inner, is) none eq =
          let out : Rewritten (tree.Exp Span) = field_out itself h m b e p w in
          moved rows g super_at fit x c d kept o out is
          (field_carries rows g super_at fit x c d kept r b i m e w p inner (λ z j same all. exp_carries left m.from j e z p inner all same) y h chosen (lost_none o out is none) (eq ∙ ap (λ (z : Rewritten (tree.Exp Span)). bare z.tree) is))
      exp_carries r b i (tree.super_field m w) y o (h, chosen, is) none eq =
          let out : Rewritten (tree.Exp Span) = super_field_out itself h m b w in
          moved rows g super_at fit x c d kept o out is (super_carries r b i m w y h chosen (lost_none o out is none) (eq ∙ ap (λ (z : Rewritten (tree.Exp Span)). bare z.tree) is))
      exp_carries r b i (tree.class_literal m t) y o (p, written, is) none eq =
          let out : Rewritten (tree.Exp Span) = within (λ u. tree.class_literal m u) p in
          let n = literal_back y m p.tree (eq ∙ ap (λ (z : Rewritten (tree.Exp Span)). bare z.tree) is) in
          moved rows g super_at fit x c d kept o out is (read_as r b i (tree.class_literal m t) y (tree.class_literal n.0 n.1) p.changes n.2
          (node (alike p.changes p.changes refl (λ at z. z.1.1) (λ to z. (a_type, (refl, z))) (only (types m.from n.0.from t n.1 p written (lost_none o out is none) n.3) (pass (a_token (symbol Dot)) (last (a_token (keyword Class))))))))
      exp_carries r b i (tree.call m tree.no_target w args) y o (h, p, q, chosen, target, row, is) none eq =
          let out : Rewritten (tree.Exp Span) = Call rows g super_at fit x c d kept m (simple_call_out itself h m b w) q in
          let there : o ≡ out = is ∙ ap (λ (z : Rewritten (Called itself)). joined (λ (t : Called itself) es. tree.call m t.target t.word es) z q) target in
          moved rows g super_at fit x c d kept o out there
          (simple_call rows g super_at fit x c d kept r b i m w args q h chosen row y (lost_none o out there none) (eq ∙ ap (λ (z : Rewritten (tree.Exp Span)). bare z.tree) there) (λ ys j same all. args_carries m.from j args ys q row all same))
      exp_carries r b i (tree.call m (tree.on e) w args) y o (h, p, q, chosen, (z, inner, target), row, is) none eq =
          let out : Rewritten (tree.Exp Span) = Call rows g super_at fit x c d kept m (dotted_call_out itself h m b e z w) q in
          let there : o ≡ out = is ∙ ap (λ (u : Rewritten (Called itself)). joined (λ (t : Called itself) es. tree.call m t.target t.word es) u q) target in
          moved rows g super_at fit x c d kept o out there
          (dotted_call rows g super_at fit x c d kept r b i m e w args z inner (λ u j same all. exp_carries left m.from j e u z inner all same) q row y (λ ys j same all. args_carries m.from j args ys q row all same) h chosen (lost_none o out there none)
          (eq ∙ ap (λ (u : Rewritten (tree.Exp Span)). bare u.tree) there))
      exp_carries r b i (tree.super_call m w args) y o (h, q, chosen, row, is) none eq =
          let out : Rewritten (tree.Exp Span) = joined (λ v es. tree.super_call m v es) (word_out itself h m.from w) q in
          moved rows g super_at fit x c d kept o out is (super_call_carries r b i m w args y h q chosen row (λ ys j same all. args_carries m.from j args ys q row all same) (lost_none o out is none) (eq ∙ ap (λ (z : Rewritten (tree.Exp Span)). bare z.tree) is))
      exp_carries r b i (tree.create m t args) y o (h, p, q, chosen, written, row, is) none eq =
          let out : Rewritten (tree.Exp Span) = with_losses itself (spelled rows g super_at) h (joined (λ u es. tree.create m u es) p q) in
          moved rows g super_at fit x c d kept o out is (create_carries r b i m t args y h p q chosen written row (λ ys j same all. args_carries m.from j args ys q row all same) (lost_none o out is none) (eq ∙ ap (λ (z : Rewritten (tree.Exp Span)). bare z.tree) is))
      exp_carries r b i (tree.paren m e) y o (p, inner, is) none eq =
          let out : Rewritten (tree.Exp Span) = within (λ z. tree.paren m z) p in
          let n = paren_back y m p.tree (eq ∙ ap (λ (z : Rewritten (tree.Exp Span)). bare z.tree) is) in
          moved rows g super_at fit x c d kept o out is (read_as r b i (tree.paren m e) y (tree.paren n.0 n.1) p.changes n.2
          (node (alike p.changes p.changes refl (λ at z. elim z [ inl a ↦ absurd a.1 | inr a ↦ a ]) (λ to z. inr z)
          (pass (a_token (symbol OpenParen)) (only (exp_carries value m.from n.0.from e n.1 p inner (lost_none o out is none) n.3) (last (a_token (symbol CloseParen))))))))
      exp_carries r b i (tree.cast m t e) y o (p, q, written, inner, is) none eq =
          let out : Rewritten (tree.Exp Span) = joined (λ u z. tree.cast m u z) p q in
          let all = lost_none o out is none in
          let n = cast_back y m p.tree q.tree (eq ∙ ap (λ (z : Rewritten (tree.Exp Span)). bare z.tree) is) in
          moved rows g super_at fit x c d kept o out is (read_as r b i (tree.cast m t e) y (tree.cast n.0 n.1 n.2) (p.changes ++ q.changes) n.3
          (node (alike (p.changes ++ q.changes) (p.changes ++ q.changes) refl (λ at z. elim z [ inl a ↦ inl a.1.1 | inr a ↦ inr a ]) (λ to z. elim z [ inl a ↦ inl (a_type, (refl, a)) | inr a ↦ inr a ])
          (pass (a_token (symbol OpenParen)) (both (types m.from n.0.from t n.1 p written (left_none p.losses q.losses all) n.4) (pass (a_token (symbol CloseParen)) (last (exp_carries value m.from n.0.from e n.2 q inner (right_none p.losses q.losses all) n.5))))))))
      exp_carries r b i (tree.unary m s e) y o (p, inner, is) none eq =
          let out : Rewritten (tree.Exp Span) = within (λ z. tree.unary m s z) p in
          let n = unary_back y m s p.tree (eq ∙ ap (λ (z : Rewritten (tree.Exp Span)). bare z.tree) is) in
          moved rows g super_at fit x c d kept o out is (read_as r b i (tree.unary m s e) y (tree.unary n.0 s n.1) p.changes n.2
          (node (alike p.changes p.changes refl (λ at z. elim z [ inl a ↦ absurd a.1 | inr a ↦ a ]) (λ to z. inr z) (pass (a_token (symbol (unary_symbol s))) (last (exp_carries value m.from n.0.from e n.1 p inner (lost_none o out is none) n.3))))))
      exp_carries r b i (tree.bump m PreInc e) y o (p, inner, is) none eq =
          let out : Rewritten (tree.Exp Span) = within (λ z. tree.bump m PreInc z) p in
          let n = bump_back y m PreInc p.tree (eq ∙ ap (λ (z : Rewritten (tree.Exp Span)). bare z.tree) is) in
          moved rows g super_at fit x c d kept o out is (read_as r b i (tree.bump m PreInc e) y (tree.bump n.0 PreInc n.1) p.changes n.2
          (node (alike p.changes p.changes refl (λ at z. elim z [ inl a ↦ absurd a.1 | inr a ↦ a ]) (λ to z. inr z) (pass (a_token (symbol PlusPlus)) (last (exp_carries value m.from n.0.from e n.1 p inner (lost_none o out is none) n.3))))))
      exp_carries r b i (tree.bump m PreDec e) y o (p, inner, is) none eq =
          let out : Rewritten (tree.Exp Span) = within (λ z. tree.bump m PreDec z) p in
          let n = bump_back y m PreDec p.tree (eq ∙ ap (λ (z : Rewritten (tree.Exp Span)). bare z.tree) is) in
          moved rows g super_at fit x c d kept o out is (read_as r b i (tree.bump m PreDec e) y (tree.bump n.0 PreDec n.1) p.changes n.2
          (node (alike p.changes p.changes refl (λ at z. elim z [ inl a ↦ absurd a.1 | inr a ↦ a ]) (λ to z. inr z) (pass (a_token (symbol MinusMinus)) (last (exp_carries value m.from n.0.from e n.1 p inner (lost_none o out is none) n.3))))))
      exp_carries r b i (tree.bump m PostInc e) y o (p, inner, is) none eq =
          let out : Rewritten (tree.Exp Span) = within (λ z. tree.bump m PostInc z) p in
          let n = bump_back y m PostInc p.tree (eq ∙ ap (λ (z : Rewritten (tree.Exp Span)). bare z.tree) is) in
          moved rows g super_at fit x c d kept o out is (read_as r b i (tree.bump m PostInc e) y (tree.bump n.0 PostInc n.1) p.changes n.2
          (node (alike p.changes p.changes refl (λ at z. elim z [ inl a ↦ absurd a.1 | inr a ↦ a ]) (λ to z. inr z) (only (exp_carries value m.from n.0.from e n.1 p inner (lost_none o out is none) n.3) (last (a_token (symbol PlusPlus)))))))
      exp_carries r b i (tree.bump m PostDec e) y o (p, inner, is) none eq =
          let out : Rewritten (tree.Exp Span) = within (λ z. tree.bump m PostDec z) p in
          let n = bump_back y m PostDec p.tree (eq ∙ ap (λ (z : Rewritten (tree.Exp Span)). bare z.tree) is) in
          moved rows g super_at fit x c d kept o out is (read_as r b i (tree.bump m PostDec e) y (tree.bump n.0 PostDec n.1) p.changes n.2
          (node (alike p.changes p.changes refl (λ at z. elim z [ inl a ↦ absurd a.1 | inr a ↦ a ]) (λ to z. inr z) (only (exp_carries value m.from n.0.from e n.1 p inner (lost_none o out is none) n.3) (last (a_token (symbol MinusMinus)))))))
      exp_carries r b i (tree.binary m s e f) y o (p, q, one_side, other, is) none eq =
          let out : Rewritten (tree.Exp Span) = joined (λ u v. tree.binary m s u v) p q in
          let all = lost_none o out is none in
          let n = binary_back y m s p.tree q.tree (eq ∙ ap (λ (z : Rewritten (tree.Exp Span)). bare z.tree) is) in
          moved rows g super_at fit x c d kept o out is (read_as r b i (tree.binary m s e f) y (tree.binary n.0 s n.1 n.2) (p.changes ++ q.changes) n.3
          (node (alike (p.changes ++ q.changes) (p.changes ++ q.changes) refl (λ at z. elim z [ inl a ↦ absurd a.1 | inr a ↦ a ]) (λ to z. inr z)
          (both (exp_carries value m.from n.0.from e n.1 p one_side (left_none p.losses q.losses all) n.4) (pass (a_token (symbol (binary_symbol s))) (last (exp_carries value m.from n.0.from f n.2 q other (right_none p.losses q.losses all) n.5)))))))
      exp_carries r b i (tree.assign m e f) y o (p, q, one_side, other, is) none eq =
          let out : Rewritten (tree.Exp Span) = joined (λ u v. tree.assign m u v) p q in
          let all = lost_none o out is none in
          let n = assign_back y m p.tree q.tree (eq ∙ ap (λ (z : Rewritten (tree.Exp Span)). bare z.tree) is) in
          moved rows g super_at fit x c d kept o out is (read_as r b i (tree.assign m e f) y (tree.assign n.0 n.1 n.2) (p.changes ++ q.changes) n.3
          (node (alike (p.changes ++ q.changes) (p.changes ++ q.changes) refl (λ at z. elim z [ inl a ↦ absurd a.1 | inr a ↦ a ]) (λ to z. inr z)
          (both (exp_carries value m.from n.0.from e n.1 p one_side (left_none p.losses q.losses all) n.4) (pass (a_token (symbol Equals)) (last (exp_carries value m.from n.0.from f n.2 q other (right_none p.losses q.losses all) n.5)))))))
      exp_carries r b i (tree.compound m s e f) y o (p, q, one_side, other, is) none eq =
          let out : Rewritten (tree.Exp Span) = joined (λ u v. tree.compound m s u v) p q in
          let all = lost_none o out is none in
          let n = compound_back y m s p.tree q.tree (eq ∙ ap (λ (z : Rewritten (tree.Exp Span)). bare z.tree) is) in
          moved rows g super_at fit x c d kept o out is (read_as r b i (tree.compound m s e f) y (tree.compound n.0 s n.1 n.2) (p.changes ++ q.changes) n.3
          (node (alike (p.changes ++ q.changes) (p.changes ++ q.changes) refl (λ at z. elim z [ inl a ↦ absurd a.1 | inr a ↦ a ]) (λ to z. inr z)
          (both (exp_carries value m.from n.0.from e n.1 p one_side (left_none p.losses q.losses all) n.4) (pass (a_token (symbol (compound_symbol s))) (last (exp_carries value m.from n.0.from f n.2 q other (right_none p.losses q.losses all) n.5)))))))

      pub args_carries : (b i : ℕ) (es ys : tree.Exps Span) (q : Rewritten (tree.Exps Span)) → RewritesRow itself (spelled rows g super_at) c b es q → q.losses ≡ [] → bare_args ys ≡ bare_args q.tree → RowCarried b i es ys q.changes
      args_carries b i tree.end ys q is none eq =
          let ends : ys ≡ tree.end = end_back ys (eq ∙ ap (λ (z : Rewritten (tree.Exps Span)). bare_args z.tree) is) in
          moved rows g super_at fit x c d kept q (plain tree.end) is (subst (λ (z : tree.Exps Span). RowCarried b i tree.end z []) (sym ends) nothing)
      args_carries b i (tree.more e es) ys q (p, z, inner, rest, is) none eq =
          let out : Rewritten (tree.Exps Span) = joined (λ u us. tree.more u us) p z in
          let all = lost_none q out is none in
          let n = more_back ys p.tree z.tree (eq ∙ ap (λ (u : Rewritten (tree.Exps Span)). bare_args u.tree) is) in
          moved rows g super_at fit x c d kept q out is (subst (λ (u : tree.Exps Span). RowCarried b i (tree.more e es) u (p.changes ++ z.changes)) (sym n.2)
          (both (exp_carries value b i e n.0 p inner (left_none p.losses z.losses all) n.3) (last (more_carries b i es n.1 z rest (right_none p.losses z.losses all) n.4))))

      more_carries : (b i : ℕ) (es ys : tree.Exps Span) (q : Rewritten (tree.Exps Span)) → RewritesRow itself (spelled rows g super_at) c b es q → q.losses ≡ [] → bare_args ys ≡ bare_args q.tree → MoreCarried b i es ys q.changes
      more_carries b i tree.end ys q is none eq =
          let ends : ys ≡ tree.end = end_back ys (eq ∙ ap (λ (z : Rewritten (tree.Exps Span)). bare_args z.tree) is) in
          moved rows g super_at fit x c d kept q (plain tree.end) is (subst (λ (z : tree.Exps Span). MoreCarried b i tree.end z []) (sym ends) nothing)
      more_carries b i (tree.more e es) ys q (p, z, inner, rest, is) none eq =
          let out : Rewritten (tree.Exps Span) = joined (λ u us. tree.more u us) p z in
          let all = lost_none q out is none in
          let n = more_back ys p.tree z.tree (eq ∙ ap (λ (u : Rewritten (tree.Exps Span)). bare_args u.tree) is) in
          moved rows g super_at fit x c d kept q out is (subst (λ (u : tree.Exps Span). MoreCarried b i (tree.more e es) u (p.changes ++ z.changes)) (sym n.2)
          (pass (a_token (symbol Comma)) (both (exp_carries value b i e n.0 p inner (left_none p.losses z.losses all) n.3) (last (more_carries b i es n.1 z rest (right_none p.losses z.losses all) n.4)))))
