-- The references of a written type that is rewritten.
use Rattle.std.proofs.Common.{◌≡◌, ℕ, true, false, if◌then◌else◌, List, [], ◌∷◌, ◌++◌, Option, Some, None, refl, sym, ap, ◌∙◌, subst, inl, inr}
use Rattle.std.specs.Prelude.{◌⊎◌}
use Rattle.std.proofs.lemmas.List.{append-nil}
use Rattle.jr_text.specs.declared.spans.Span.{Span}
use Rattle.jr_lex.specs.declared.items.Symbol.TheVariants.{Dot}
use Rattle.jr_ast.specs.Tree as tree
use Rattle.jr_grammar.specs.Bare.{bare_type}
use Rattle.jr_grammar.specs.Tokens.{Token, word, symbol, kinds}
use Rattle.jr_grammar.specs.Spelling.{type_toks}
use Rattle.jr_grammar.specs.Layout.{itself}
use Rattle.jr_grammar.specs.ExpressionLayout.{word_layout, type_layout}
use Rattle.jr_grammar.specs.Stands.{Tokens, span_of, InOrder, IsNode, Stands}
use Rattle.jr_grammar.proofs.Layouts.{spans_from-span}
use Rattle.jr_table.specs.Keys.{ClassKey, Ty, class}
use Rattle.jr_table.specs.Decls.{Decl, class_decl}
use Rattle.jr_table.specs.Rows.{Row}
use Rattle.jr_table.specs.Found.{one, nothing}
use Rattle.jr_table.specs.Lookup.{FindsTypeNamed, FindsTypeOf}
use Rattle.jr_table.specs.Context.{Context, scope_of, WritesType}
use Rattle.jr_table.specs.Binding.{TypeRefers, FindsIn}
use Rattle.jr_program_laws.specs.FileParts.{begins}
use Rattle.jr_program_laws.proofs.TokenOrder.{StartsIn}
use Rattle.jr_rewrite.specs.Respellings.{Front, same, alone, by_this, by_super, by_cast_this, by_class, by_outer_class, by_cast, Choice, stays, becomes, loses, front_of, text_of, front_text, Change}
use Rattle.jr_rewrite.specs.Rewritten.{Rewritten, change, plain, losses_of, word_to, word_changes, qualifier_to, from_to, simple_type_out, qualified_type_out, drops_qualifier}
use Rattle.jr_rewrite.specs.Suitable.{AreSuitable, Suits, MayStandAlone, MayStandBeforeType}
use Rattle.jr_rewrite.specs.Spots.{nowhere}
use Rattle.jr_rewrite.specs.Rewrites.{Choosing, RewritesType}
use Rattle.jr_rewrite.proofs.ExpressionSteps.{type_in, alone_word_steps}
use Rattle.jr_rewrite.proofs.Steps.{Stepped}
use Rattle.jr_rewrite.proofs.Stepping.{stepped_new, one_word, dotted}
use Rattle.jr_images.specs.Images.{Renaming, class_to, type_to, decl_to, rows_to}
use Rattle.jr_images.proofs.Chosen.{left_none, right_none, lost_none}
use Rattle.jr_moved_tokens.proofs.StepRuns.{never}
use Rattle.jr_moved_references.proofs.Carrying.{Carries, AreNone, WordStands, word_starts, idle, a_token, alike, node, both, pass, last, word_kinds}
use Rattle.jr_moved_references.proofs.Dotted.{dropped}
use Rattle.jr_moved_references.proofs.BareReferences.{written_move}
use Rattle.jr_moved_references.proofs.Backs.{type_kinds, simple_back, qualified_back}
use Rattle.jr_moved_references.proofs.Worded.{alone_of, chosen_word, same_word, named_word}
use Rattle.jr_moved_references.proofs.FoundTypes.{found_type, found_inner}
use Rattle.jr_moved_references.proofs.KeptAt.{spelled}

module _ (rows : List Row) (g : Renaming) (super_at : Context → ℕ) (c d : Context) where
  -- what is known of written types: each means the image, and so does the class in front of a dot
  pub record TypesAt : Type 0 where
    pub means : (b : ℕ) (t : tree.TypeName Span) (p : Rewritten (tree.TypeName Span)) → RewritesType itself (spelled rows g super_at) c b t p → p.losses ≡ [] → (k : Ty) → WritesType rows (scope_of c) t k → WritesType (rows_to g rows) (scope_of d) p.tree (type_to g k)
    pub front : (b : ℕ) (m : Span) (o w : tree.Word Span) (q : Choice) → (spelled rows g super_at).qualifier c b (tree.named m (Some o) w) q → losses_of q ≡ [] → (k : ClassKey) → FindsTypeNamed rows (scope_of c) o.text (one (class_decl k))
        → FindsTypeNamed (rows_to g rows) (scope_of d) (text_of q o.text) (one (class_decl (class_to g k)))

module _ (rows : List Row) (g : Renaming) (super_at : Context → ℕ) (fit : AreSuitable (spelled rows g super_at)) (x : Decl) (c d : Context) (at_types : TypesAt rows g super_at c d) where
  abbrev C : Choosing Span
  C = spelled rows g super_at

  abbrev Was : (base : ℕ) → tree.TypeName Span → (at : ℕ) → Type 0
  Was b t at = TypeRefers begins rows c b t at (one x)

  abbrev Is : (base : ℕ) → tree.TypeName Span → (at : ℕ) → Type 0
  Is i u to = TypeRefers begins (rows_to g rows) d i u to (one (decl_to g x))

  type_step : (b : ℕ) (t u : tree.TypeName Span) (o : Rewritten (tree.TypeName Span)) → RewritesType itself C c b t o → bare_type u ≡ bare_type o.tree → (ps ps' : Tokens) → Stands (type_layout t) ps → Stands (type_layout u) ps' → Stepped never false ps o.changes (kinds ps')
  type_step b t u o made eq ps ps' h k = stepped_new ps o.changes (type_toks o.tree) (kinds ps') (sym (type_kinds u o.tree eq ps' k)) (type_in itself C nowhere never fit tt c b t o ps made (subst (λ z. Stands z ps) (sym (spans_from-span b (type_layout t))) h))

  -- what a written type means in the new tree
  means_again : (b : ℕ) (t u : tree.TypeName Span) (o : Rewritten (tree.TypeName Span)) → RewritesType itself C c b t o → o.losses ≡ [] → bare_type u ≡ bare_type o.tree → (k : ClassKey) → WritesType rows (scope_of c) t (class k)
      → WritesType (rows_to g rows) (scope_of d) u (class (class_to g k))
  means_again b t u o made none eq k h = written_move (rows_to g rows) (scope_of d) (class (class_to g k)) o.tree u (sym eq) (at_types.means b t o made none (class k) h)

  same_class : (j k : ClassKey) → class j ≡ class k → j ≡ k
  same_class j k e = cc

  one_nothing : one x ≡ nothing → ⊥
  one_nothing e = cc

  -- ---- a simple name

  module _ (b i : ℕ) (m : Span) (w : tree.Word Span) (u : tree.TypeName Span) (h : Choice) (chosen : C.type c b (tree.named m None w) h) where
    abbrev simple_out : Rewritten (tree.TypeName Span)
    simple_out = simple_type_out itself h m b w

    simple_found : simple_out.losses ≡ [] → bare_type u ≡ bare_type simple_out.tree → (k : Span) (v : tree.Word Span) → u ≡ tree.named k None v → FindsTypeNamed rows (scope_of c) w.text (one x) → Is i (tree.named k None v) v.mark.from
    simple_found none eq k v is finds =
        let j = found_type rows (scope_of c) w.text x finds in
        let writes : WritesType rows (scope_of c) (tree.named m None w) (class j.0) = (j.0, subst (λ (z : Decl). FindsTypeNamed rows (scope_of c) w.text (one z)) j.1 finds, refl) in
        let new = subst (λ (z : tree.TypeName Span). WritesType (rows_to g rows) (scope_of d) z (class (class_to g j.0))) is (means_again b (tree.named m None w) u simple_out (h, chosen, refl) none eq j.0 writes) in
        let image : class_decl new.0 ≡ decl_to g x = ap class_decl (sym (same_class (class_to g j.0) new.0 new.2)) ∙ ap (decl_to g) (sym j.1) in
        (refl, subst (λ (z : Decl). FindsTypeNamed (rows_to g rows) (scope_of d) v.text (one z)) image new.1)

    simple_carries : simple_out.losses ≡ [] → bare_type u ≡ bare_type simple_out.tree → Carries false (Stands (type_layout (tree.named m None w))) (Stands (type_layout u)) simple_out.changes (Was b (tree.named m None w)) (Is i u)
    simple_carries none eq =
        chosen_word h w.mark w.text none (λ ps l. alone_of ps l.parts) (type_step b (tree.named m None w) u simple_out (h, chosen, refl) eq) (λ at o. o.0)
        (λ e.
        (let n = simple_back u m (word_to stays w) (eq ∙ ap (λ (z : Choice). bare_type (tree.named m (qualifier_to m (front_of z) None) (word_to z w))) e) in
        subst (λ (z : tree.TypeName Span). Carries false (Stands (type_layout (tree.named m None w))) (Stands (type_layout z)) [] (Was b (tree.named m None w)) (Is i z)) (sym n.2)
        (node (last (same_word w n.1 n.3 (λ at o. o.0) (λ at o. simple_found none eq n.0 n.1 n.2 o.1))))))

  -- ---- a class behind the one around it

  module _ (b i : ℕ) (m : Span) (o w : tree.Word Span) (p : Choice) (in_front : C.qualifier c b (tree.named m (Some o) w) p) where
    abbrev Qualified : tree.TypeName Span
    Qualified = tree.named m (Some o) w

    abbrev whole_out : Choice → Rewritten (tree.TypeName Span)
    whole_out h = qualified_type_out itself p h m b o w

    abbrev WasFront : ℕ → Type 0
    WasFront at = (at ≡ o.mark.from) × FindsTypeNamed rows (scope_of c) o.text (one x)

    abbrev WasName : ℕ → Type 0
    WasName at = (at ≡ w.mark.from) × FindsIn (λ k. FindsTypeNamed rows (scope_of c) o.text (one (class_decl k))) (λ k f. FindsTypeOf rows (scope_of c) k w.text f) (one x)

    abbrev IsFront : tree.Word Span → ℕ → Type 0
    IsFront v to = (to ≡ v.mark.from) × FindsTypeNamed (rows_to g rows) (scope_of d) v.text (one (decl_to g x))

    abbrev IsName : (outer v : tree.Word Span) → ℕ → Type 0
    IsName outer v to = (to ≡ v.mark.from) × FindsIn (λ k. FindsTypeNamed (rows_to g rows) (scope_of d) outer.text (one (class_decl k))) (λ k f. FindsTypeOf (rows_to g rows) (scope_of d) k v.text f) (one (decl_to g x))

    front_carries : losses_of p ≡ [] → (v : tree.Word Span) → v.text ≡ text_of p o.text → Carries false (Stands (word_layout o)) (Stands (word_layout v)) (word_changes p o.mark) WasFront (IsFront v)
    front_carries none v e =
        chosen_word p o.mark o.text none (λ ps l. l)
        (λ ps ps' l k. stepped_new ps (word_changes p o.mark) (word (text_of p o.text) ∷ []) (kinds ps') (sym (word_kinds v.mark v.text ps' k ∙ ap (λ t. word t ∷ []) e)) (alone_word_steps itself C nowhere never fit tt m.from o p ps (fit.qualifier c b Qualified p in_front) l))
        (λ at z. z.0)
        (λ stay. same_word o v (e ∙ ap (λ (z : Choice). text_of z o.text) stay) (λ at z. z.0)
        (λ at z.
        (let j = found_type rows (scope_of c) o.text x z.1 in
        let new = at_types.front b m o w p in_front none j.0 (subst (λ (y : Decl). FindsTypeNamed rows (scope_of c) o.text (one y)) j.1 z.1) in
        (refl, subst (λ (y : Decl). FindsTypeNamed (rows_to g rows) (scope_of d) v.text (one y)) (ap (decl_to g) (sym j.1)) (subst (λ t. FindsTypeNamed (rows_to g rows) (scope_of d) t (one (class_decl (class_to g j.0)))) (sym e) new)))))

    module _ (h : Choice) (chosen : C.type c b Qualified h) (none : (whole_out h).losses ≡ []) (u : tree.TypeName Span) (eq : bare_type u ≡ bare_type (whole_out h).tree) where
      made : RewritesType itself C c b Qualified (whole_out h)
      made = (p, h, in_front, chosen, refl)

      name_found : (k : Span) (outer v : tree.Word Span) → u ≡ tree.named k (Some outer) v → (at : ℕ) → WasName at → IsName outer v v.mark.from
      name_found k outer v is at (here, inr (never_so, nothing_is)) = absurd (one_nothing nothing_is)
      name_found k outer v is at (here, inl (z, named, finds)) =
          let j = found_inner rows (scope_of c) z w.text x finds in
          let writes : WritesType rows (scope_of c) Qualified (class j.0) = (j.0, (z, named, subst (λ (y : Decl). FindsTypeOf rows (scope_of c) z w.text (one y)) j.1 finds), refl) in
          let new = subst (λ (y : tree.TypeName Span). WritesType (rows_to g rows) (scope_of d) y (class (class_to g j.0))) is (means_again b Qualified u (whole_out h) made none eq j.0 writes) in
          let image : class_decl new.0 ≡ decl_to g x = ap class_decl (sym (same_class (class_to g j.0) new.0 new.2)) ∙ ap (decl_to g) (sym j.1) in
          (refl, inl (new.1.0, new.1.1, subst (λ (y : Decl). FindsTypeOf (rows_to g rows) (scope_of d) new.1.0 v.text (one y)) image new.1.2))

      abbrev IsCarried : Type 0
      IsCarried = Carries false (Stands (type_layout Qualified)) (Stands (type_layout u)) (whole_out h).changes (Was b Qualified) (Is i u)

      -- with what is in front of it
      with_front : (k : Span) (outer v : tree.Word Span) (ds : List Change) → u ≡ tree.named k (Some outer) v → outer.text ≡ text_of p o.text → losses_of p ≡ []
          → Carries false (Stands (word_layout w)) (Stands (word_layout v)) ds WasName (IsName outer v) → word_changes p o.mark ++ ds ≡ (whole_out h).changes → IsCarried
      with_front k outer v ds is e front_none own cs =
          subst (λ (y : tree.TypeName Span). Carries false (Stands (type_layout Qualified)) (Stands (type_layout y)) (whole_out h).changes (Was b Qualified) (Is i y)) (sym is)
          (node (alike (word_changes p o.mark ++ ds) (whole_out h).changes cs (λ at z. z) (λ to z. z) (both (front_carries front_none outer e) (pass (a_token (symbol Dot)) (last own)))))

      -- without it
      without : (text : List ℕ) → (whole_out h).changes ≡ change (from_to o.mark w.mark) text ∷ [] → IsCarried
      without text is =
          let step : (ps ps' : Tokens) → Stands (type_layout Qualified) ps → Stands (type_layout u) ps' → Stepped never false ps (change (from_to o.mark w.mark) text ∷ []) (kinds ps') =
          λ ps ps' l k. subst (λ cs. Stepped never false ps cs (kinds ps')) is (type_step b Qualified u (whole_out h) made eq ps ps' l k) in
          alike (change (from_to o.mark w.mark) text ∷ []) (whole_out h).changes (sym is) (λ at z. z) (λ to z. z)
          (dropped {E = Stands (word_layout o)} {Old = WasFront} {Own = WasName} o.mark w.mark w.text (λ ps l. dotted w.mark w.text ps l.parts) (λ ps l. l.mark) (λ ps l. (let s = one_word o.mark o.text ps l in (s.placed, [], s.whole)))
          (λ ps l at z. subst (StartsIn ps) (sym z.0) (word_starts o.mark o.text ps l)) (λ at z. z.0) text step)

    qualified_carries : (h : Choice) → C.type c b Qualified h → (whole_out h).losses ≡ [] → (u : tree.TypeName Span) → bare_type u ≡ bare_type (whole_out h).tree
        → Carries false (Stands (type_layout Qualified)) (Stands (type_layout u)) (whole_out h).changes (Was b Qualified) (Is i u)
    qualified_carries stays chosen none u eq =
        let n = qualified_back u m (word_to p o) (word_to stays w) eq in
        with_front stays chosen none u eq n.0 n.1 n.2 [] n.3 n.4 (left_none (losses_of p) [] none) (same_word w n.2 n.5 (λ at z. z.0) (λ at z. name_found stays chosen none u eq n.0 n.1 n.2 n.3 at z)) (append-nil (word_changes p o.mark))
    qualified_carries (loses l) chosen none u eq = (let lost : l ∷ [] ≡ [] = right_none (losses_of p) (l ∷ []) none in absurd cc)
    qualified_carries (becomes r) chosen none u eq = by_front r.front r.text chosen none eq (fit.type c b Qualified (becomes r) chosen)
      where
        by_front : (f : Front) (text : List ℕ)
            → (let h : Choice = becomes (record { text = text; front = f }) in C.type c b Qualified h → (whole_out h).losses ≡ [] → bare_type u ≡ bare_type (whole_out h).tree → Suits MayStandBeforeType h
            → Carries false (Stands (type_layout Qualified)) (Stands (type_layout u)) (whole_out h).changes (Was b Qualified) (Is i u))
        by_front same text chosen none eq suits =
            let h : Choice = becomes (record { text = text; front = same }) in
            let n = qualified_back u m (word_to p o) (word_to h w) eq in
            with_front h chosen none u eq n.0 n.1 n.2 (change w.mark text ∷ []) n.3 n.4 (left_none (losses_of p) [] none) (named_word w n.2 text n.5 suits.0 (λ at z. z.0)) refl
        by_front alone text chosen none eq suits = without (becomes (record { text = text; front = alone })) chosen none u eq (front_text alone ++ text) refl
        by_front (by_class k) text chosen none eq suits = without (becomes (record { text = text; front = by_class k })) chosen none u eq (front_text (by_class k) ++ text) refl
        by_front by_this text chosen none eq suits = absurd suits.2
        by_front by_super text chosen none eq suits = absurd suits.2
        by_front (by_cast_this k) text chosen none eq suits = absurd suits.2
        by_front (by_outer_class z k) text chosen none eq suits = absurd suits.2
        by_front (by_cast k) text chosen none eq suits = absurd suits.2

  -- ---- all

  pub type_carries : (b i : ℕ) (t u : tree.TypeName Span) (o : Rewritten (tree.TypeName Span)) → RewritesType itself C c b t o → o.losses ≡ [] → bare_type u ≡ bare_type o.tree
      → Carries false (Stands (type_layout t)) (Stands (type_layout u)) o.changes (Was b t) (Is i u)
  type_carries b i (tree.int m) u o made none eq = idle (type_step b (tree.int m) u o made eq) (λ at z. z)
  type_carries b i (tree.boolean m) u o made none eq = idle (type_step b (tree.boolean m) u o made eq) (λ at z. z)
  type_carries b i (tree.named m None w) u o (h, chosen, is) none eq =
      subst (λ (z : Rewritten (tree.TypeName Span)). Carries false (Stands (type_layout (tree.named m None w))) (Stands (type_layout u)) z.changes (Was b (tree.named m None w)) (Is i u)) (sym is)
      (simple_carries b i m w u h chosen (lost_none o (simple_type_out itself h m b w) is none) (eq ∙ ap (λ (z : Rewritten (tree.TypeName Span)). bare_type z.tree) is))
  type_carries b i (tree.named m (Some v) w) u o (p, h, in_front, chosen, is) none eq =
      subst (λ (z : Rewritten (tree.TypeName Span)). Carries false (Stands (type_layout (tree.named m (Some v) w))) (Stands (type_layout u)) z.changes (Was b (tree.named m (Some v) w)) (Is i u)) (sym is)
      (qualified_carries b i m v w p in_front h chosen (lost_none o (qualified_type_out itself p h m b v w) is none) u (eq ∙ ap (λ (z : Rewritten (tree.TypeName Span)). bare_type z.tree) is))
