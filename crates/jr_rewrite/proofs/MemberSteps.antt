-- Steps of members, classes and units.
use Rattle.std.proofs.Common.{◌≡◌, inl, inr, ℕ, suc, true, false, List, [], ◌∷◌, ◌++◌, length, Option, Some, None, sym, subst}
use Rattle.jr_text.specs.declared.spans.Span.{Span}
use Rattle.jr_lex.specs.declared.items.Symbol.TheVariants.{OpenParen, CloseParen, OpenBrace, CloseBrace, Semicolon}
use Rattle.jr_lex.specs.declared.items.Keyword.TheVariants.{Class as ClassWord}
use Rattle.jr_ast.specs.Tree as tree
use Rattle.jr_ast.specs.MemberTree as syntax
use Rattle.jr_grammar.specs.Tokens.{Token, word, keyword, symbol}
use Rattle.jr_grammar.specs.Spelling.{toks, type_toks, args_toks}
use Rattle.jr_grammar.specs.StatementSpelling.{final_toks, stmts_toks}
use Rattle.jr_grammar.specs.MemberSpelling.{modifier_keyword, modifiers_toks, param_toks, more_params_toks, params_toks, init_toks, result_toks, super_toks, extends_toks, class_toks, member_toks, members_toks, more_words_toks, package_toks, classes_toks, unit_toks}
use Rattle.jr_grammar.specs.Layout.{spans_from, all_spans_from}
use Rattle.jr_grammar.specs.ExpressionLayout.{word_layout}
use Rattle.jr_grammar.specs.MemberLayout.{modifiers_layout, param_layout, more_params_layout, params_layout, init_layout, result_layout, parent_call_layout, extends_layout, class_layout, member_layout, members_layout, more_words_layout, package_layout, classes_layout, unit_layouts}
use Rattle.jr_grammar.specs.Stands.{Tokens, Stands, StandInOrder}
use Rattle.jr_table.specs.Keys.{ClassKey}
use Rattle.jr_table.specs.Decls.{MemberKey, class_decl, local_decl}
use Rattle.jr_table.specs.Binding.{value}
use Rattle.jr_table.specs.Context.{Context}
use Rattle.jr_table.specs.HeadRules.{plain as no_locals, with_parameters, is_static_member}
use Rattle.jr_table.specs.DeclaredItems.{DeclaredItem, class_key}
use Rattle.jr_rewrite.specs.Respellings.{Change}
use Rattle.jr_rewrite.specs.Rewritten.{Rewritten}
use Rattle.jr_rewrite.specs.Suitable.{AreSuitable}
use Rattle.jr_rewrite.specs.Spots.{level, Spotted, nowhere, spotted, OrMembers, OrClass}
use Rattle.jr_rewrite.specs.Rewrites.{declared_by, Choosing, begins, DeclaredOut, RewritesType, TransformsMaybe, RewritesParams, RewritesResult, TransformsSuper, TransformsMember, RewritesParent, TransformsClass, TransformsMembers, TransformsOne, TransformsClasses, TransformsUnit}
use Rattle.jr_rewrite.specs.Woven.{Weaving}
use Rattle.jr_rewrite.specs.SuitableSpots.{SpotsSuit}
use Rattle.jr_rewrite.proofs.Steps.{Stepped, loosened}
use Rattle.jr_rewrite.proofs.Stepping.{list_woven, none_steps, both_steps, token_steps, closing_steps, last_steps, end_steps}
use Rattle.jr_rewrite.proofs.ExpressionSteps.{type_steps, args_steps}
use Rattle.jr_rewrite.proofs.StatementSteps.{final_steps, in_value, in_type, three, declared_steps, list_steps}

module _ {A : Type 0} (tells : A → ℕ → Span) where
  modifiers_steps : {W : Weaving} (base : ℕ) (ms : List (syntax.Modifier A)) (ps : Tokens) → Stands (spans_from tells base (modifiers_layout ms)) ps → Stepped W true ps [] (modifiers_toks ms)
  modifiers_steps base [] ps h = none_steps ps h
  modifiers_steps base (x ∷ xs) ps h =
      both_steps ps [] [] (keyword (modifier_keyword x.word) ∷ []) (modifiers_toks xs) h (λ qs k. end_steps qs k.parts) (λ qs k. last_steps qs [] (modifiers_toks xs) k (modifiers_steps base xs))

  word_stays : {W : Weaving} (base : ℕ) (w : tree.Word A) (ps : Tokens) → Stands (spans_from tells base (word_layout w)) ps → Stepped W true ps [] (word w.text ∷ [])
  word_stays base w ps h = end_steps ps h.parts

  more_words_steps : {W : Weaving} (base : ℕ) (ws : List (tree.Word A)) (ps : Tokens) → Stands (spans_from tells base (more_words_layout ws)) ps → Stepped W true ps [] (more_words_toks ws)
  more_words_steps base [] ps h = none_steps ps h
  more_words_steps base (w ∷ ws) ps h =
      token_steps ps [] (word w.text ∷ more_words_toks ws) h
      (λ qs k. both_steps qs [] [] (word w.text ∷ []) (more_words_toks ws) k (word_stays base w) (λ rs l. last_steps rs [] (more_words_toks ws) l (more_words_steps base ws)))

  package_steps : {W : Weaving} (base : ℕ) (ws : List (tree.Word A)) (ps : Tokens) → Stands (spans_from tells base (package_layout ws)) ps → Stepped W true ps [] (package_toks ws)
  package_steps base [] ps h = none_steps ps h
  package_steps base (w ∷ ws) ps h =
      token_steps ps [] (word w.text ∷ (more_words_toks ws ++ (symbol Semicolon ∷ []))) h
      (λ qs k. both_steps qs [] [] (word w.text ∷ []) (more_words_toks ws ++ (symbol Semicolon ∷ [])) k (word_stays base w)
      (λ rs l. both_steps rs [] [] (more_words_toks ws) (symbol Semicolon ∷ []) l (more_words_steps base ws) end_steps))

  -- what a spot makes of the rest of a class's members, or the other way
  or_members : (S : Spotted A) (C : Choosing A) (W : Weaving) → SpotsSuit tells C W S → {N : Type 0} (base : ℕ) (of : ClassKey) (xs : syntax.Members A) (o : Rewritten (syntax.Members A)) (ps : Tokens)
      → OrMembers S base of xs o N → Stands (spans_from tells base (members_layout xs)) ps → (N → Stepped W true ps o.changes (members_toks o.tree)) → Stepped W true ps o.changes (members_toks o.tree)
  or_members nowhere C W suit base of xs o ps w h go = go w
  or_members (spotted s) C W suit base of xs o ps w h go =
      elim w [ inl x ↦ go x.1 | inr x ↦ list_woven ps o.changes (members_toks o.tree) (suit.members base of xs o ps x h) ]

  or_class : (S : Spotted A) (C : Choosing A) (W : Weaving) → SpotsSuit tells C W S → {N : Type 0} (base : ℕ) (outer : Option (List ℕ)) (x : syntax.Class A) (o : Rewritten (syntax.Class A)) (ps : Tokens)
      → OrClass S base outer x o N → Stands (spans_from tells base (class_layout x)) ps → (N → Stepped W true ps o.changes (class_toks o.tree)) → Stepped W true ps o.changes (class_toks o.tree)
  or_class nowhere C W suit base outer x o ps w h go = go w
  or_class (spotted s) C W suit base outer x o ps w h go =
      elim w [ inl y ↦ go y.1 | inr y ↦ list_woven ps o.changes (class_toks o.tree) (suit.whole base outer x o ps y h) ]

  module _ (C : Choosing A) (S : Spotted A) (W : Weaving) (fit : AreSuitable C) (suit : SpotsSuit tells C W S) where
    in_class : {N : Type 0} (base : ℕ) (outer : Option (List ℕ)) (x : syntax.Class A) (o : Rewritten (syntax.Class A)) (ps : Tokens) → OrClass S base outer x o N
        → Stands (spans_from tells base (class_layout x)) ps → (N → Stepped W true ps o.changes (class_toks o.tree)) → Stepped W true ps o.changes (class_toks o.tree)
    in_class base outer x o ps w h go = or_class S C W suit base outer x o ps w h go

    in_members : {N : Type 0} (base : ℕ) (of : ClassKey) (xs : syntax.Members A) (o : Rewritten (syntax.Members A)) (ps : Tokens) → OrMembers S base of xs o N
        → Stands (spans_from tells base (members_layout xs)) ps → (N → Stepped W true ps o.changes (members_toks o.tree)) → Stepped W true ps o.changes (members_toks o.tree)
    in_members base of xs o ps w h go = or_members S C W suit base of xs o ps w h go

    -- changes of four parts, two and two
    four : (ps : Tokens) (es bs cs ds : List Change) (ts : List Token) → Stepped W true ps (es ++ (bs ++ (cs ++ ds))) ts → Stepped W true ps ((es ++ bs) ++ (cs ++ ds)) ts
    four ps es bs cs ds ts s = three tells C S W fit suit ps es bs (cs ++ ds) ts s

    param_steps : (k : MemberKey) (n base : ℕ) (p : syntax.Param A) (t : Rewritten (tree.TypeName A)) (v : Rewritten (tree.Word A)) (ps : Tokens)
        → RewritesType tells C (no_locals k false) (begins tells C p.mark base) p.type t → DeclaredOut tells C (local_decl (record { member = k; number = n })) (begins tells C p.mark base) p.name v
        → Stands (spans_from tells base (param_layout p)) ps → Stepped W true ps (t.changes ++ v.changes) (param_toks (record { mark = p.mark; is_final = p.is_final; type = t.tree; name = v.tree }))
    param_steps k n base p t v ps w u h =
        let at : ℕ = (tells p.mark base).from in
        both_steps ps [] (t.changes ++ v.changes) (final_toks p.is_final) (type_toks t.tree ++ (word v.tree.text ∷ [])) h.parts (final_steps tells at p.is_final)
        (λ qs g. both_steps qs t.changes v.changes (type_toks t.tree) (word v.tree.text ∷ []) g (λ rs l. in_type tells C S W fit suit (no_locals k false) at p.type t rs w l)
        (λ rs l. last_steps rs v.changes (word v.tree.text ∷ []) l (λ xs i. declared_steps tells C S W fit suit (local_decl (record { member = k; number = n })) at p.name v xs u i)))

    more_params_steps : (k : MemberKey) (n base : ℕ) (xs : List (syntax.Param A)) (o : Rewritten (List (syntax.Param A))) (ps : Tokens) → RewritesParams tells C k n base xs o
        → Stands (spans_from tells base (more_params_layout xs)) ps → Stepped W true ps o.changes (more_params_toks o.tree)
    more_params_steps k n base [] o ps w h = subst (λ z. Stepped W true ps z.changes (more_params_toks z.tree)) (sym w) (none_steps ps h)
    more_params_steps k n base (x ∷ xs) o ps w h =
        let ts : List Token = param_toks (record { mark = x.mark; is_final = x.is_final; type = w.0.tree; name = w.1.tree }) in
        subst (λ z. Stepped W true ps z.changes (more_params_toks z.tree)) (sym w.6)
        (token_steps ps ((w.0.changes ++ w.1.changes) ++ w.2.changes) (ts ++ more_params_toks w.2.tree) h
        (λ qs g. both_steps qs (w.0.changes ++ w.1.changes) w.2.changes ts (more_params_toks w.2.tree) g (λ rs l. param_steps k n base x w.0 w.1 rs w.3 w.4 l)
        (λ rs l. last_steps rs w.2.changes (more_params_toks w.2.tree) l (λ us i. more_params_steps k (suc n) base xs w.2 us w.5 i))))

    params_steps : (k : MemberKey) (n base : ℕ) (xs : List (syntax.Param A)) (o : Rewritten (List (syntax.Param A))) (ps : Tokens) → RewritesParams tells C k n base xs o
        → Stands (spans_from tells base (params_layout xs)) ps → Stepped W true ps o.changes (params_toks o.tree)
    params_steps k n base [] o ps w h = subst (λ z. Stepped W true ps z.changes (params_toks z.tree)) (sym w) (none_steps ps h)
    params_steps k n base (x ∷ xs) o ps w h =
        let ts : List Token = param_toks (record { mark = x.mark; is_final = x.is_final; type = w.0.tree; name = w.1.tree }) in
        subst (λ z. Stepped W true ps z.changes (params_toks z.tree)) (sym w.6)
        (both_steps ps (w.0.changes ++ w.1.changes) w.2.changes ts (more_params_toks w.2.tree) h (λ rs l. param_steps k n base x w.0 w.1 rs w.3 w.4 l)
        (λ rs l. last_steps rs w.2.changes (more_params_toks w.2.tree) l (λ us i. more_params_steps k (suc n) base xs w.2 us w.5 i)))

    init_steps : (c : Context) (base : ℕ) (e : Option (tree.Exp A)) (o : Rewritten (Option (tree.Exp A))) (ps : Tokens) → TransformsMaybe tells C S c base e o
        → Stands (spans_from tells base (init_layout e)) ps → Stepped W true ps o.changes (init_toks o.tree)
    init_steps c base None o ps w h = subst (λ z. Stepped W true ps z.changes (init_toks z.tree)) (sym w) (none_steps ps h)
    init_steps c base (Some e) o ps w h =
        subst (λ z. Stepped W true ps z.changes (init_toks z.tree)) (sym w.2)
        (token_steps ps w.0.changes (toks w.0.tree) h (λ qs g. last_steps qs w.0.changes (toks w.0.tree) g (λ rs l. in_value tells C S W fit suit (level 0) c value base e w.0 rs w.1 l)))

    result_steps : (k : MemberKey) (base : ℕ) (t : Option (tree.TypeName A)) (o : Rewritten (Option (tree.TypeName A))) (ps : Tokens) → RewritesResult tells C k base t o
        → Stands (spans_from tells base (result_layout t)) ps → Stepped W true ps o.changes (result_toks o.tree)
    result_steps k base None o ps w h = subst (λ z. Stepped W true ps z.changes (result_toks z.tree)) (sym w) (end_steps ps h)
    result_steps k base (Some t) o ps w h =
        subst (λ z. Stepped W true ps z.changes (result_toks z.tree)) (sym w.2) (last_steps ps w.0.changes (type_toks w.0.tree) h (λ qs g. in_type tells C S W fit suit (no_locals k false) base t w.0 qs w.1 g))

    parent_call_steps : (c : Context) (base : ℕ) (args : Option (tree.Exps A)) (o : Rewritten (Option (tree.Exps A))) (ps : Tokens) → TransformsSuper tells C S c base args o
        → Stands (spans_from tells base (parent_call_layout args)) ps → Stepped W true ps o.changes (super_toks o.tree)
    parent_call_steps c base None o ps w h = subst (λ z. Stepped W true ps z.changes (super_toks z.tree)) (sym w) (none_steps ps h)
    parent_call_steps c base (Some args) o ps w h =
        let rest : List Token = args_toks w.1.tree ++ (symbol CloseParen ∷ symbol Semicolon ∷ []) in
        subst (λ z. Stepped W true ps z.changes (super_toks z.tree)) (sym w.4)
        (token_steps ps w.1.changes (symbol OpenParen ∷ rest) h
        (λ qs g. token_steps qs w.1.changes rest g
        (λ rs l. closing_steps rs w.1.changes (args_toks w.1.tree) (symbol CloseParen ∷ symbol Semicolon ∷ []) l (λ us i. loosened us w.1.changes (args_toks w.1.tree) (args_steps tells C S W fit suit c base args w.1 us w.3 i))
        (λ us i. token_steps us [] (symbol Semicolon ∷ []) i end_steps))))

    extends_steps : (outer : Option (List ℕ)) (base : ℕ) (t : Option (tree.TypeName A)) (o : Rewritten (Option (tree.TypeName A))) (ps : Tokens) → RewritesParent tells C outer base t o
        → Stands (spans_from tells base (extends_layout t)) ps → Stepped W true ps o.changes (extends_toks o.tree)
    extends_steps outer base None o ps w h = subst (λ z. Stepped W true ps z.changes (extends_toks z.tree)) (sym w) (none_steps ps h)
    extends_steps outer base (Some t) o ps w h =
        subst (λ z. Stepped W true ps z.changes (extends_toks z.tree)) (sym w.2)
        (token_steps ps w.0.changes (type_toks w.0.tree) h
        (λ qs g. last_steps qs w.0.changes (type_toks w.0.tree) g
        (λ rs l. loosened rs w.0.changes (type_toks w.0.tree) (type_steps tells C S W fit suit (C.parent_qualifier outer base t) (C.parent outer base t) (fit.parent_qualifier outer base t) (fit.parent outer base t) base t w.0 rs w.1 l))))

    plain_member_steps : (k : MemberKey) (base : ℕ) (x : syntax.Member A) (o : Rewritten (syntax.Member A)) (ps : Tokens) → TransformsMember tells C S k base x o
        → Stands (spans_from tells base (member_layout x)) ps → Stepped W true ps o.changes (member_toks o.tree)
    plain_member_steps k base (syntax.field m mods t v init) o ps w h =
        let at : ℕ = (tells m base).from in
        let rest : List Token = init_toks w.2.tree ++ (symbol Semicolon ∷ []) in
        let typed : List Token = type_toks w.0.tree ++ (word w.1.tree.text ∷ rest) in
        subst (λ z. Stepped W true ps z.changes (member_toks z.tree)) (sym w.6)
        (three tells C S W fit suit ps w.0.changes w.1.changes w.2.changes (modifiers_toks mods ++ typed)
        (both_steps ps [] (w.0.changes ++ (w.1.changes ++ w.2.changes)) (modifiers_toks mods) typed h.parts (modifiers_steps at mods)
        (λ qs g. both_steps qs w.0.changes (w.1.changes ++ w.2.changes) (type_toks w.0.tree) (word w.1.tree.text ∷ rest) g (λ rs l. in_type tells C S W fit suit (no_locals k false) at t w.0 rs w.3 l)
        (λ rs l. both_steps rs w.1.changes w.2.changes (word w.1.tree.text ∷ []) rest l (λ us i. declared_steps tells C S W fit suit (declared_by k) at v w.1 us w.4 i)
        (λ us i. closing_steps us w.2.changes (init_toks w.2.tree) (symbol Semicolon ∷ []) i
        (λ xs j. init_steps (no_locals k (is_static_member (begins tells C) mods)) at init w.2 xs w.5 j) end_steps)))))
    plain_member_steps k base (syntax.method m mods t v params body) o ps w h =
        let at : ℕ = (tells m base).from in
        let inner : List Token = stmts_toks w.3.tree ++ (symbol CloseBrace ∷ []) in
        let closed : List Token = symbol CloseParen ∷ symbol OpenBrace ∷ inner in
        let rest : List Token = symbol OpenParen ∷ (params_toks w.2.tree ++ closed) in
        let cs : List Change = w.2.changes ++ w.3.changes in
        subst (λ z. Stepped W true ps z.changes (member_toks z.tree)) (sym w.8)
        (four ps w.0.changes w.1.changes w.2.changes w.3.changes (modifiers_toks mods ++ (result_toks w.0.tree ++ (word w.1.tree.text ∷ rest)))
        (both_steps ps [] (w.0.changes ++ (w.1.changes ++ cs)) (modifiers_toks mods) (result_toks w.0.tree ++ (word w.1.tree.text ∷ rest)) h.parts (modifiers_steps at mods)
        (λ qs g. both_steps qs w.0.changes (w.1.changes ++ cs) (result_toks w.0.tree) (word w.1.tree.text ∷ rest) g (λ rs l. result_steps k at t w.0 rs w.4 l)
        (λ rs l. both_steps rs w.1.changes cs (word w.1.tree.text ∷ []) rest l (λ us i. declared_steps tells C S W fit suit (declared_by k) at v w.1 us w.5 i)
        (λ us i. token_steps us cs (params_toks w.2.tree ++ closed) i
        (λ xs j. both_steps xs w.2.changes w.3.changes (params_toks w.2.tree) closed j (λ ys n. params_steps k 0 at params w.2 ys w.6 n)
        (λ ys n. token_steps ys w.3.changes (symbol OpenBrace ∷ inner) n
        (λ zs b. token_steps zs w.3.changes inner b
        (λ vs d. closing_steps vs w.3.changes (stmts_toks w.3.tree) (symbol CloseBrace ∷ []) d
        (λ bs f. list_steps tells C S W fit suit (length params) (with_parameters k (is_static_member (begins tells C) mods) params) at body w.3 bs w.7 f) end_steps)))))))))
    plain_member_steps k base (syntax.constructor m mods v params args body) o ps w h =
        let at : ℕ = (tells m base).from in
        let inner : List Token = stmts_toks w.3.tree ++ (symbol CloseBrace ∷ []) in
        let closed : List Token = symbol CloseParen ∷ symbol OpenBrace ∷ (super_toks w.2.tree ++ inner) in
        let rest : List Token = symbol OpenParen ∷ (params_toks w.1.tree ++ closed) in
        let cs : List Change = w.2.changes ++ w.3.changes in
        subst (λ z. Stepped W true ps z.changes (member_toks z.tree)) (sym w.8)
        (four ps w.0.changes w.1.changes w.2.changes w.3.changes (modifiers_toks mods ++ (word w.0.tree.text ∷ rest))
        (both_steps ps [] (w.0.changes ++ (w.1.changes ++ cs)) (modifiers_toks mods) (word w.0.tree.text ∷ rest) h.parts (modifiers_steps at mods)
        (λ qs g. both_steps qs w.0.changes (w.1.changes ++ cs) (word w.0.tree.text ∷ []) rest g (λ rs l. declared_steps tells C S W fit suit (declared_by k) at v w.0 rs w.4 l)
        (λ rs l. token_steps rs (w.1.changes ++ cs) (params_toks w.1.tree ++ closed) l
        (λ us i. both_steps us w.1.changes cs (params_toks w.1.tree) closed i (λ xs j. params_steps k 0 at params w.1 xs w.5 j)
        (λ xs j. token_steps xs cs (symbol OpenBrace ∷ (super_toks w.2.tree ++ inner)) j
        (λ ys n. token_steps ys cs (super_toks w.2.tree ++ inner) n
        (λ zs b. both_steps zs w.2.changes w.3.changes (super_toks w.2.tree) inner b (λ vs d. parent_call_steps (with_parameters k true params) at args w.2 vs w.6 d)
        (λ vs d. closing_steps vs w.3.changes (stmts_toks w.3.tree) (symbol CloseBrace ∷ []) d
        (λ bs f. list_steps tells C S W fit suit (length params) (with_parameters k false params) at body w.3 bs w.7 f) end_steps)))))))))
    plain_member_steps k base (syntax.inner m of) o ps w h = absurd w

    module _ (declarations : List DeclaredItem) where
      mutual
        unfolding TransformsClass TransformsMembers TransformsOne

        class_steps : (base : ℕ) (outer : Option (List ℕ)) (x : syntax.Class A) (o : Rewritten (syntax.Class A)) (ps : Tokens) → TransformsClass tells C S declarations base outer x o
            → Stands (spans_from tells base (class_layout x)) ps → Stepped W true ps o.changes (class_toks o.tree)
        class_steps base outer (syntax.class m mods v t ms) o ps w h =
            let at : ℕ = (tells m base).from in
            let head = w.2 in
            let inner : List Token = symbol OpenBrace ∷ (members_toks w.1.tree ++ (symbol CloseBrace ∷ [])) in
            let named : Rewritten (tree.Word A) = head.0 in
            let parent : Rewritten (Option (tree.TypeName A)) = head.1 in
            let rest : List Token = extends_toks parent.tree ++ inner in
            let cs : List Change = w.1.changes in
            subst (λ z. Stepped W true ps z.changes (class_toks z.tree)) (sym w.4)
            (subst (λ (z : Rewritten (tree.Word A × Option (tree.TypeName A))). Stepped W true ps (z.changes ++ cs) (class_toks (syntax.class m mods z.tree.0 z.tree.1 w.1.tree))) (sym head.4)
            (three tells C S W fit suit ps named.changes parent.changes cs (modifiers_toks mods ++ (keyword ClassWord ∷ word named.tree.text ∷ rest))
            (both_steps ps [] (named.changes ++ (parent.changes ++ cs)) (modifiers_toks mods) (keyword ClassWord ∷ word named.tree.text ∷ rest) h.parts (modifiers_steps at mods)
            (λ qs g. token_steps qs (named.changes ++ (parent.changes ++ cs)) (word named.tree.text ∷ rest) g
            (λ rs l. both_steps rs named.changes (parent.changes ++ cs) (word named.tree.text ∷ []) rest l
            (λ us i. declared_steps tells C S W fit suit (class_decl (class_key (begins tells C) outer v.text)) at v named us head.2 i)
            (λ us i. both_steps us parent.changes cs (extends_toks parent.tree) inner i (λ xs j. extends_steps outer at t parent xs head.3 j)
            (λ xs j. token_steps xs cs (members_toks w.1.tree ++ (symbol CloseBrace ∷ [])) j
            (λ ys n. closing_steps ys cs (members_toks w.1.tree) (symbol CloseBrace ∷ []) n
            (λ zs b. in_members at (class_key (begins tells C) outer v.text) ms w.1 zs w.3 b (λ x0. members_steps at (class_key (begins tells C) outer v.text) ms w.1 zs x0 b)) end_steps))))))))

        members_steps : (base : ℕ) (of : ClassKey) (xs : syntax.Members A) (o : Rewritten (syntax.Members A)) (ps : Tokens) → TransformsMembers tells C S declarations base of xs o
            → Stands (spans_from tells base (members_layout xs)) ps → Stepped W true ps o.changes (members_toks o.tree)
        members_steps base of syntax.end o ps w h = subst (λ z. Stepped W true ps z.changes (members_toks z.tree)) (sym w) (none_steps ps h)
        members_steps base of (syntax.more x xs) o ps w h =
            subst (λ z. Stepped W true ps z.changes (members_toks z.tree)) (sym w.4)
            (both_steps ps w.0.changes w.1.changes (member_toks w.0.tree) (members_toks w.1.tree) h (λ qs g. one_steps base of x w.0 qs w.2 g)
            (λ qs g. last_steps qs w.1.changes (members_toks w.1.tree) g (λ rs l. in_members base of xs w.1 rs w.3 l (λ x0. members_steps base of xs w.1 rs x0 l))))

        one_steps : (base : ℕ) (of : ClassKey) (x : syntax.Member A) (o : Rewritten (syntax.Member A)) (ps : Tokens) → TransformsOne tells C S declarations base of x o
            → Stands (spans_from tells base (member_layout x)) ps → Stepped W true ps o.changes (member_toks o.tree)
        one_steps base of (syntax.inner m c) o ps w h =
            subst (λ z. Stepped W true ps z.changes (member_toks z.tree)) (sym w.2)
            (last_steps ps w.0.changes (class_toks w.0.tree) h.parts (λ qs g. in_class (tells m base).from (Some of.name) c w.0 qs w.1 g (λ y. class_steps (tells m base).from (Some of.name) c w.0 qs y g)))
        one_steps base of (syntax.field m mods t v init) o ps w h = plain_member_steps w.0 base (syntax.field m mods t v init) o ps w.2 h
        one_steps base of (syntax.method m mods t v params body) o ps w h = plain_member_steps w.0 base (syntax.method m mods t v params body) o ps w.2 h
        one_steps base of (syntax.constructor m mods v params args body) o ps w h = plain_member_steps w.0 base (syntax.constructor m mods v params args body) o ps w.2 h

      classes_steps : (base : ℕ) (xs : List (syntax.Class A)) (o : Rewritten (List (syntax.Class A))) (ps : Tokens) → TransformsClasses tells C S declarations base xs o
          → Stands (spans_from tells base (classes_layout xs)) ps → Stepped W true ps o.changes (classes_toks o.tree)
      classes_steps base [] o ps w h = subst (λ z. Stepped W true ps z.changes (classes_toks z.tree)) (sym w) (none_steps ps h)
      classes_steps base (x ∷ xs) o ps w h =
          subst (λ z. Stepped W true ps z.changes (classes_toks z.tree)) (sym w.4)
          (both_steps ps w.0.changes w.1.changes (class_toks w.0.tree) (classes_toks w.1.tree) h (λ qs g. in_class base None x w.0 qs w.2 g (λ y. class_steps base None x w.0 qs y g))
          (λ qs g. last_steps qs w.1.changes (classes_toks w.1.tree) g (λ rs l. classes_steps base xs w.1 rs w.3 l)))

      pub unit_steps : (u : syntax.Unit A) (o : Rewritten (syntax.Unit A)) (ps : Tokens) → (tells u.mark 0).from ≡ 0 → TransformsUnit tells C S declarations u o
          → StandInOrder (all_spans_from tells 0 (unit_layouts u)) ps → Stepped W true ps o.changes (unit_toks o.tree)
      unit_steps u o ps at w h =
          subst (λ z. Stepped W true ps z.changes (unit_toks z.tree)) (sym w.2)
          (both_steps ps [] w.0.changes (package_toks u.package_name) (classes_toks w.0.tree) h (package_steps 0 u.package_name)
          (λ qs g. last_steps qs w.0.changes (classes_toks w.0.tree) g (λ rs l. classes_steps 0 u.classes w.0 rs (subst (λ n. TransformsClasses tells C S declarations n u.classes w.0) at w.1) l)))
