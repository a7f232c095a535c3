-- The references of members that are rewritten by a rename, apart from a written `super(..)`.
use Rattle.std.proofs.Common.{◌≡◌, ℕ, suc, Bool, true, false, List, [], ◌∷◌, ◌++◌, length, Option, Some, None, refl, sym, ap, ◌∙◌, subst, inl, inr}
use Rattle.std.specs.Prelude.{◌⊎◌}
use Rattle.std.proofs.lemmas.List.{append_assoc}
use Rattle.jr_text.specs.declared.spans.Span.{Span}
use Rattle.jr_lex.specs.declared.items.Keyword.TheVariants.{Super, Void}
use Rattle.jr_lex.specs.declared.items.Symbol.TheVariants.{OpenParen, CloseParen, OpenBrace, CloseBrace, Equals, Semicolon, Comma}
use Rattle.jr_ast.specs.declared.operators.ModWord.{ModWord}
use Rattle.jr_ast.specs.Tree as tree
use Rattle.jr_ast.specs.StatementTree as statement
use Rattle.jr_ast.specs.MemberTree as syntax
use Rattle.jr_ast.specs.Remarked.{map_class, map_member, map_members}
use Rattle.jr_grammar.specs.Bare.{Bare, no_mark, bare, bare_word, bare_type, bare_args, bare_stmts, bare_member}
use Rattle.jr_grammar.specs.Tokens.{Token, word, keyword, symbol, kinds}
use Rattle.jr_grammar.specs.MemberSpelling.{modifier_keyword}
use Rattle.jr_grammar.specs.Layout.{itself}
use Rattle.jr_grammar.specs.ExpressionLayout.{type_layout}
use Rattle.jr_grammar.specs.StatementLayout.{final_layout, stmts_layout}
use Rattle.jr_grammar.specs.MemberLayout.{modifier_layout, modifiers_layout, param_layout, more_params_layout, params_layout, init_layout, result_layout, parent_call_layout, member_layout}
use Rattle.jr_grammar.specs.Stands.{Tokens, Stands}
use Rattle.jr_table.specs.Decls.{Decl, MemberKey, local_decl}
use Rattle.jr_table.specs.Rows.{Row}
use Rattle.jr_table.specs.Found.{one}
use Rattle.jr_table.specs.Context.{Context}
use Rattle.jr_table.specs.Binding.{value, TypeRefers, BindsItself}
use Rattle.jr_table.specs.HeadRules.{plain as no_locals, with_parameters, is_static_member, ParamsRefer, MaybeTypeRefers}
use Rattle.jr_table.specs.StatementRules.{StmtBindsItself}
use Rattle.jr_table.specs.Errors.{InSuper, InMember}
use Rattle.jr_program_laws.specs.FileParts.{begins}
use Rattle.jr_rewrite.specs.Respellings.{Change}
use Rattle.jr_rewrite.specs.Rewritten.{Rewritten, plain, within, joined, losses_of}
use Rattle.jr_rewrite.specs.Suitable.{AreSuitable}
use Rattle.jr_rewrite.specs.Spots.{nowhere}
use Rattle.jr_rewrite.specs.Rewrites.{declared_by, DeclaredOut, RewritesType, RewritesMaybe, RewritesParams, RewritesResult, TransformsSuper, RewritesMember, with_losses}
use Rattle.jr_rewrite.proofs.BareForms.{bare_maybe, none_back, some_back}
use Rattle.jr_images.specs.Images.{Renaming, member_to, decl_to, rows_to}
use Rattle.jr_images.specs.RenameLaws.{IsFair}
use Rattle.jr_images.specs.Standing.{ContextTo}
use Rattle.jr_images.proofs.Chosen.{left_none, right_none, lost_none}
use Rattle.jr_images.proofs.Members.{plain_to, with_params_to}
use Rattle.jr_images.proofs.World.{World}
use Rattle.jr_moved_references.proofs.Carrying.{Carries, Nothing, AreNone, nothing, a_token, alike, turn, node, both, pass, only, last, loose}
use Rattle.jr_moved_references.proofs.SameContexts.{bare_param, bare_params, with_parameters_bare}
use Rattle.jr_moved_references.proofs.MemberBacks.{bare_modifiers, bare_maybe_type, bare_maybe_args, static_bare, modifiers_back, no_modifiers_back, params_back, no_params_back, no_type_back, type_back, no_args_back, args_back, field_back, method_back, constructor_back}
use Rattle.jr_moved_references.proofs.Starting.{WithinRow}
use Rattle.jr_moved_references.proofs.KeptAt.{spelled}
use Rattle.jr_moved_references.proofs.KeptNow.{kept_at, types_at}
use Rattle.jr_moved_references.proofs.TypePlaces.{type_carries}
use Rattle.jr_moved_references.proofs.ExpressionPlaces.{args_carries}
use Rattle.jr_moved_references.proofs.StatementPlaces.{C, Here, WasMaybe, IsMaybe, WasStmts, IsStmts, exp_moves, type_moves, declared_moves, final_moves, moved, maybe_moves, stmts_moves}

-- ---- what has no reference

modifier_moves : (m n : syntax.Modifier Span) → n.word ≡ m.word → Carries true (Stands (modifier_layout m)) (Stands (modifier_layout n)) [] Nothing Nothing
modifier_moves m n e =
    subst (λ (w : ModWord). Carries true (Stands (modifier_layout m)) (Stands (modifier_layout (record { mark = n.mark; word = w }))) [] Nothing Nothing) (sym e) (node (last (a_token (keyword (modifier_keyword m.word)))))

pub modifiers_move : (ms ns : List (syntax.Modifier Span)) → bare_modifiers ns ≡ bare_modifiers ms → Carries true (Stands (modifiers_layout ms)) (Stands (modifiers_layout ns)) [] Nothing Nothing
modifiers_move [] ns e = (let k = no_modifiers_back ns e in subst (λ (us : List (syntax.Modifier Span)). Carries true (Stands (modifiers_layout {A = Span} [])) (Stands (modifiers_layout us)) [] Nothing Nothing) (sym k) nothing)
modifiers_move (m ∷ ms) ns e =
    let k = modifiers_back ns (record { mark = tt; word = m.word }) (bare_modifiers ms) e in
    subst (λ (us : List (syntax.Modifier Span)). Carries true (Stands (modifiers_layout (m ∷ ms))) (Stands (modifiers_layout us)) [] Nothing Nothing) (sym k.2)
    (pass (modifier_moves m k.0 (ap (λ (z : syntax.Modifier Bare). z.word) k.3)) (last (modifiers_move ms k.1 k.4)))

abbrev InParts : (rows : List Row) → Decl → MemberKey → (base : ℕ) → syntax.Member Span → ℕ → Type 0
InParts rows x k b y at = InMember begins (λ c r b e. BindsItself begins rows c r b e at x) (λ n c b s. StmtBindsItself begins rows n c b s at x) (λ b ss. ⊥) k b y

-- a reference of a member's declaration that has a mark of its own
abbrev pub MarkedRefers : (rows : List Row) → Decl → MemberKey → (base : ℕ) → syntax.Member Span → ℕ → Type 0
MarkedRefers rows x k b (syntax.field m mods t w init) at = TypeRefers begins rows (no_locals k false) m.from t at (one x)
MarkedRefers rows x k b (syntax.method m mods t w ps body) at = MaybeTypeRefers begins rows (no_locals k false) m.from t at (one x) ⊎ ParamsRefer begins rows (no_locals k false) m.from ps at (one x)
MarkedRefers rows x k b (syntax.constructor m mods w ps args body) at = ParamsRefer begins rows (no_locals k false) m.from ps at (one x)
MarkedRefers rows x k b (syntax.inner m c) at = ⊥

abbrev pub Marked : (rows : List Row) → Decl → MemberKey → (base : ℕ) → syntax.Member Span → ℕ → Type 0
Marked rows x k b y at = MarkedRefers rows x k b y at ⊎ InParts rows x k b y at

module _ (rows : List Row) (g : Renaming) (super_at : Context → ℕ) (fit : AreSuitable (spelled rows g super_at)) (fair : IsFair rows g) (worlds : (c d : Context) → ContextTo g rows c d → World Span rows g c d) (x : Decl) where
  -- ---- parts of members

  final_as : (f h : Bool) → h ≡ f → Carries true (Stands (final_layout f)) (Stands (final_layout h)) [] Nothing Nothing
  final_as f h e = subst (λ (z : Bool). Carries true (Stands (final_layout f)) (Stands (final_layout z)) [] Nothing Nothing) (sym e) (final_moves rows g super_at fit fair worlds x f)

  at_head : (k : MemberKey) → ContextTo g rows (no_locals k false) (no_locals (member_to g k) false)
  at_head k = plain_to itself rows g super_at worlds k false

  param_moves : (k : MemberKey) (n b i : ℕ) (p y : syntax.Param Span) (t : Rewritten (tree.TypeName Span)) (v : Rewritten (tree.Word Span)) → RewritesType itself (spelled rows g super_at) (no_locals k false) p.mark.from p.type t → t.losses ≡ []
      → DeclaredOut itself (spelled rows g super_at) (local_decl (record { member = k; number = n })) p.mark.from p.name v → bare_param y ≡ bare_param (record { mark = p.mark; is_final = p.is_final; type = t.tree; name = v.tree })
      → Carries true (Stands (param_layout p)) (Stands (param_layout y)) (t.changes ++ v.changes) (λ at. TypeRefers begins rows (no_locals k false) p.mark.from p.type at (one x)) (λ to. TypeRefers begins (rows_to g rows) (no_locals (member_to g k) false) y.mark.from y.type to (one (decl_to g x)))
  param_moves k n b i p y t v types none declared eq =
      node (pass (final_as p.is_final y.is_final (ap (λ (z : syntax.Param Bare). z.is_final) eq))
      (alike (t.changes ++ v.changes) (t.changes ++ v.changes) refl (λ at o. inl o) (λ to z. elim z [ inl a ↦ a | inr l ↦ absurd l ])
      (both (type_moves rows g super_at fit fair worlds x (no_locals k false) (no_locals (member_to g k) false) (at_head k) p.mark.from y.mark.from p.type y.type t types none (ap (λ (z : syntax.Param Bare). z.type) eq))
      (last (declared_moves rows g super_at fit fair worlds x (local_decl (record { member = k; number = n })) p.mark.from p.name y.name v declared (ap (λ (z : syntax.Param Bare). z.name) eq))))))

  abbrev ParamsMove : (layout : List (syntax.Param Span) → Tokens → Type 0) → (k : MemberKey) → (b i : ℕ) → (ps ys : List (syntax.Param Span)) → List Change → Type 0
  ParamsMove layout k b i ps ys cs = Carries true (layout ps) (layout ys) cs (λ at. ParamsRefer begins rows (no_locals k false) b ps at (one x)) (λ to. ParamsRefer begins (rows_to g rows) (no_locals (member_to g k) false) i ys to (one (decl_to g x)))

  more_params_move : (k : MemberKey) (n b i : ℕ) (ps ys : List (syntax.Param Span)) (o : Rewritten (List (syntax.Param Span))) → RewritesParams itself (spelled rows g super_at) k n b ps o → o.losses ≡ [] → bare_params ys ≡ bare_params o.tree
      → ParamsMove (λ qs. Stands (more_params_layout qs)) k b i ps ys o.changes
  more_params_move k n b i [] ys o is none eq =
      let z = no_params_back ys (eq ∙ ap (λ (u : Rewritten (List (syntax.Param Span))). bare_params u.tree) is) in
      moved rows g super_at fit fair worlds x o (plain []) is (subst (λ (us : List (syntax.Param Span)). ParamsMove (λ qs. Stands (more_params_layout qs)) k b i [] us []) (sym z) nothing)
  more_params_move k n b i (p ∷ ps) ys o (t, v, q, types, declared, rest, is) none eq =
      let first : Rewritten (syntax.Param Span) = joined (λ u w. record { mark = p.mark; is_final = p.is_final; type = u; name = w }) t v in
      let out : Rewritten (List (syntax.Param Span)) = joined (λ y ys. y ∷ ys) first q in
      let all = lost_none o out is none in
      let z = params_back ys (bare_param first.tree) (bare_params q.tree) (eq ∙ ap (λ (u : Rewritten (List (syntax.Param Span))). bare_params u.tree) is) in
      moved rows g super_at fit fair worlds x o out is (subst (λ (us : List (syntax.Param Span)). ParamsMove (λ qs. Stands (more_params_layout qs)) k b i (p ∷ ps) us out.changes) (sym z.2)
      (pass (a_token (symbol Comma)) (both (param_moves k n b i p z.0 t v types (left_none t.losses v.losses (left_none first.losses q.losses all)) declared z.3) (last (more_params_move k (suc n) b i ps z.1 q rest (right_none first.losses q.losses all) z.4)))))

  params_move : (k : MemberKey) (n b i : ℕ) (ps ys : List (syntax.Param Span)) (o : Rewritten (List (syntax.Param Span))) → RewritesParams itself (spelled rows g super_at) k n b ps o → o.losses ≡ [] → bare_params ys ≡ bare_params o.tree
      → ParamsMove (λ qs. Stands (params_layout qs)) k b i ps ys o.changes
  params_move k n b i [] ys o is none eq =
      let z = no_params_back ys (eq ∙ ap (λ (u : Rewritten (List (syntax.Param Span))). bare_params u.tree) is) in
      moved rows g super_at fit fair worlds x o (plain []) is (subst (λ (us : List (syntax.Param Span)). ParamsMove (λ qs. Stands (params_layout qs)) k b i [] us []) (sym z) nothing)
  params_move k n b i (p ∷ ps) ys o (t, v, q, types, declared, rest, is) none eq =
      let first : Rewritten (syntax.Param Span) = joined (λ u w. record { mark = p.mark; is_final = p.is_final; type = u; name = w }) t v in
      let out : Rewritten (List (syntax.Param Span)) = joined (λ y ys. y ∷ ys) first q in
      let all = lost_none o out is none in
      let z = params_back ys (bare_param first.tree) (bare_params q.tree) (eq ∙ ap (λ (u : Rewritten (List (syntax.Param Span))). bare_params u.tree) is) in
      moved rows g super_at fit fair worlds x o out is (subst (λ (us : List (syntax.Param Span)). ParamsMove (λ qs. Stands (params_layout qs)) k b i (p ∷ ps) us out.changes) (sym z.2)
      (both (param_moves k n b i p z.0 t v types (left_none t.losses v.losses (left_none first.losses q.losses all)) declared z.3) (last (more_params_move k (suc n) b i ps z.1 q rest (right_none first.losses q.losses all) z.4))))

  -- as many parameters
  as_many : (k : MemberKey) (n b : ℕ) (ps ys : List (syntax.Param Span)) (o : Rewritten (List (syntax.Param Span))) → RewritesParams itself (spelled rows g super_at) k n b ps o → bare_params ys ≡ bare_params o.tree → length ps ≡ length ys
  as_many k n b [] ys o is eq = sym (ap length (no_params_back ys (eq ∙ ap (λ (u : Rewritten (List (syntax.Param Span))). bare_params u.tree) is)))
  as_many k n b (p ∷ ps) ys o (t, v, q, types, declared, rest, is) eq =
      let z = params_back ys (bare_param (record { mark = p.mark; is_final = p.is_final; type = t.tree; name = v.tree })) (bare_params q.tree) (eq ∙ ap (λ (u : Rewritten (List (syntax.Param Span))). bare_params u.tree) is) in
      ap suc (as_many k (suc n) b ps z.1 q rest z.4) ∙ sym (ap length z.2)

  -- what is known behind parameters
  params_at : (k : MemberKey) (f h : Bool) (b : ℕ) (ps ys : List (syntax.Param Span)) (o : Rewritten (List (syntax.Param Span))) → h ≡ f → RewritesParams itself (spelled rows g super_at) k 0 b ps o → bare_params ys ≡ bare_params o.tree
      → ContextTo g rows (with_parameters k f ps) (with_parameters (member_to g k) h ys)
  params_at k f h b ps ys o same made eq =
      subst (λ (z : Bool). ContextTo g rows (with_parameters k f ps) (with_parameters (member_to g k) z ys)) (sym same)
      (subst (λ (z : Context). ContextTo g rows (with_parameters k f ps) z) (sym (with_parameters_bare (member_to g k) f ys o.tree eq)) (with_params_to itself rows g super_at worlds k f b ps o made))

  result_moves : (k : MemberKey) (b i : ℕ) (t y : Option (tree.TypeName Span)) (o : Rewritten (Option (tree.TypeName Span))) → RewritesResult itself (spelled rows g super_at) k b t o → o.losses ≡ [] → bare_maybe_type y ≡ bare_maybe_type o.tree
      → Carries true (Stands (result_layout t)) (Stands (result_layout y)) o.changes (λ at. MaybeTypeRefers begins rows (no_locals k false) b t at (one x)) (λ to. MaybeTypeRefers begins (rows_to g rows) (no_locals (member_to g k) false) i y to (one (decl_to g x)))
  result_moves k b i None y o is none eq =
      let z = no_type_back y (eq ∙ ap (λ (u : Rewritten (Option (tree.TypeName Span))). bare_maybe_type u.tree) is) in
      moved rows g super_at fit fair worlds x o (plain None) is
      (subst (λ (u : Option (tree.TypeName Span)). Carries true (Stands (result_layout {A = Span} None)) (Stands (result_layout u)) [] Nothing (λ to. MaybeTypeRefers begins (rows_to g rows) (no_locals (member_to g k) false) i u to (one (decl_to g x)))) (sym z) (last (a_token (keyword Void))))
  result_moves k b i (Some t) y o (p, made, is) none eq =
      let out : Rewritten (Option (tree.TypeName Span)) = within (λ (u : tree.TypeName Span). Some u) p in
      let z = type_back y (bare_type p.tree) (eq ∙ ap (λ (u : Rewritten (Option (tree.TypeName Span))). bare_maybe_type u.tree) is) in
      moved rows g super_at fit fair worlds x o out is
      (subst (λ (u : Option (tree.TypeName Span)). Carries true (Stands (result_layout (Some t))) (Stands (result_layout u)) p.changes (λ at. TypeRefers begins rows (no_locals k false) b t at (one x))
      (λ to. MaybeTypeRefers begins (rows_to g rows) (no_locals (member_to g k) false) i u to (one (decl_to g x)))) (sym z.1)
      (last (type_moves rows g super_at fit fair worlds x (no_locals k false) (no_locals (member_to g k) false) (at_head k) b i t z.0 p made (lost_none o out is none) z.2)))

  init_moves : (c d : Context) → ContextTo g rows c d → (b i : ℕ) (e y : Option (tree.Exp Span)) (o : Rewritten (Option (tree.Exp Span))) → RewritesMaybe itself (spelled rows g super_at) c b e o → o.losses ≡ [] → bare_maybe y ≡ bare_maybe o.tree
      → Carries true (Stands (init_layout e)) (Stands (init_layout y)) o.changes (WasMaybe rows g super_at fit fair worlds x c b e) (IsMaybe rows g super_at fit fair worlds x d i y)
  init_moves c d at b i None y o is none eq =
      let z = none_back y (eq ∙ ap (λ (u : Rewritten (Option (tree.Exp Span))). bare_maybe u.tree) is) in
      moved rows g super_at fit fair worlds x o (plain None) is (subst (λ (u : Option (tree.Exp Span)). Carries true (Stands (init_layout {A = Span} None)) (Stands (init_layout u)) [] Nothing (IsMaybe rows g super_at fit fair worlds x d i u)) (sym z) nothing)
  init_moves c d at b i (Some e) y o (p, made, is) none eq =
      let out : Rewritten (Option (tree.Exp Span)) = within (λ (u : tree.Exp Span). Some u) p in
      let z = some_back y (bare p.tree) (eq ∙ ap (λ (u : Rewritten (Option (tree.Exp Span))). bare_maybe u.tree) is) in
      moved rows g super_at fit fair worlds x o out is
      (subst (λ (u : Option (tree.Exp Span)). Carries true (Stands (init_layout (Some e))) (Stands (init_layout u)) p.changes (WasMaybe rows g super_at fit fair worlds x c b (Some e)) (IsMaybe rows g super_at fit fair worlds x d i u)) (sym z.1)
      (pass (a_token (symbol Equals)) (last (exp_moves rows g super_at fit fair worlds x c d at value b i e z.0 p made (lost_none o out is none) z.2))))

  -- the arguments of a written `super(..)`
  abbrev WasSuper : Context → (base : ℕ) → Option (tree.Exps Span) → ℕ → Type 0
  WasSuper c b es at = InSuper begins (λ c r b e. BindsItself begins rows c r b e at x) (λ n c b s. StmtBindsItself begins rows n c b s at x) (λ b ss. ⊥) c b es

  abbrev IsSuper : Context → (base : ℕ) → Option (tree.Exps Span) → ℕ → Type 0
  IsSuper c b es at = InSuper begins (λ c r b e. BindsItself begins (rows_to g rows) c r b e at (decl_to g x)) (λ n c b s. StmtBindsItself begins (rows_to g rows) n c b s at (decl_to g x)) (λ b ss. ⊥) c b es

  super_moves : (c d : Context) → ContextTo g rows c d → (b i : ℕ) (es y : Option (tree.Exps Span)) (o : Rewritten (Option (tree.Exps Span))) → TransformsSuper itself (spelled rows g super_at) nowhere c b es o → o.losses ≡ [] → bare_maybe_args y ≡ bare_maybe_args o.tree
      → Carries true (Stands (parent_call_layout es)) (Stands (parent_call_layout y)) o.changes (WasSuper c b es) (IsSuper d i y)
  super_moves c d at b i None y o is none eq =
      let z = no_args_back y (eq ∙ ap (λ (u : Rewritten (Option (tree.Exps Span))). bare_maybe_args u.tree) is) in
      moved rows g super_at fit fair worlds x o (plain None) is (subst (λ (u : Option (tree.Exps Span)). Carries true (Stands (parent_call_layout {A = Span} None)) (Stands (parent_call_layout u)) [] Nothing (IsSuper d i u)) (sym z) nothing)
  super_moves c d at b i (Some es) y o (h, p, chosen, made, is) none eq =
      let inner : Rewritten (Option (tree.Exps Span)) = within (λ (u : tree.Exps Span). Some u) p in
      let out : Rewritten (Option (tree.Exps Span)) = with_losses itself (spelled rows g super_at) h inner in
      let all = lost_none o out is none in
      let z = args_back y (bare_args p.tree) (eq ∙ ap (λ (u : Rewritten (Option (tree.Exps Span))). bare_maybe_args u.tree) is) in
      let row = loose (args_carries rows g super_at fit x c d (kept_at rows g super_at fair c d at (worlds c d at)) (type_carries rows g super_at fit x c d (types_at rows g super_at fair c d at (worlds c d at))) b i es z.0 p made (right_none (losses_of h) p.losses all) z.2) in
      moved rows g super_at fit fair worlds x o out is
      (subst (λ (u : Option (tree.Exps Span)). Carries true (Stands (parent_call_layout (Some es))) (Stands (parent_call_layout u)) p.changes (WasSuper c b (Some es)) (IsSuper d i u)) (sym z.1)
      (pass (a_token (keyword Super)) (pass (a_token (symbol OpenParen)) (only row (pass (a_token (symbol CloseParen)) (last (a_token (symbol Semicolon))))))))

  -- ---- members

  abbrev MemberMoves : MemberKey → (b i : ℕ) → (s y : syntax.Member Span) → List Change → Type 0
  MemberMoves k b i s y cs = Carries true (Stands (member_layout s)) (Stands (member_layout y)) cs (Marked rows x k b s) (Marked (rows_to g rows) (decl_to g x) (member_to g k) i y)

  as_member : (k : MemberKey) (b i : ℕ) (s y u : syntax.Member Span) (cs : List Change) → y ≡ u → MemberMoves k b i s u cs → MemberMoves k b i s y cs
  as_member k b i s y u cs is h = subst (λ (v : syntax.Member Span). MemberMoves k b i s v cs) (sym is) h

  pub member_moves : (k : MemberKey) (b i : ℕ) (s y : syntax.Member Span) (o : Rewritten (syntax.Member Span)) → RewritesMember itself (spelled rows g super_at) k b s o → o.losses ≡ [] → bare_member y ≡ bare_member o.tree → MemberMoves k b i s y o.changes
  unfolding map_member map_members map_class
  member_moves k b i (syntax.field m mods t w init) y o (p, v, q, types, declared, inner, is) none eq =
      let head : Rewritten (tree.TypeName Span × tree.Word Span) = joined (λ u z. (u, z)) p v in
      let out : Rewritten (syntax.Member Span) = joined (λ (u : tree.TypeName Span × tree.Word Span) a. syntax.field m mods u.0 u.1 a) head q in
      let all = lost_none o out is none in
      let z = field_back y (bare_modifiers mods) (bare_type p.tree) (bare_word v.tree) (bare_maybe q.tree) (eq ∙ ap (λ (u : Rewritten (syntax.Member Span)). bare_member u.tree) is) in
      let statics : is_static_member begins z.1 ≡ is_static_member begins mods = sym (static_bare begins begins mods z.1 z.6) in
      let own : Context = no_locals k (is_static_member begins mods) in
      let there : Context = no_locals (member_to g k) (is_static_member begins z.1) in
      let at : ContextTo g rows own there = subst (λ (f : Bool). ContextTo g rows own (no_locals (member_to g k) f)) (sym statics) (plain_to itself rows g super_at worlds k (is_static_member begins mods)) in
      moved rows g super_at fit fair worlds x o out is (as_member k b i (syntax.field m mods t w init) y (syntax.field z.0 z.1 z.2 z.3 z.4) out.changes z.5
      (node (alike (p.changes ++ (v.changes ++ q.changes)) out.changes (sym (append_assoc p.changes v.changes q.changes)) (λ to a. elim a [ inl l ↦ inl l | inr l ↦ inr (inr l) ]) (λ to a. elim a [ inl l ↦ inl l | inr l ↦ elim l [ inl none_so ↦ absurd none_so | inr r ↦ inr r ] ])
      (pass (modifiers_move mods z.1 z.6) (both (type_moves rows g super_at fit fair worlds x (no_locals k false) (no_locals (member_to g k) false) (at_head k) m.from z.0.from t z.2 p types (left_none p.losses v.losses (left_none head.losses q.losses all)) z.7)
      (both (declared_moves rows g super_at fit fair worlds x (declared_by k) m.from w z.3 v declared z.8) (only (init_moves own there at m.from z.0.from init z.4 q inner (right_none head.losses q.losses all) z.9) (last (a_token (symbol Semicolon))))))))))
  member_moves k b i (syntax.method m mods t w ps body) y o (p, v, q, l, result, declared, params, inner, is) none eq =
      let head : Rewritten (Option (tree.TypeName Span) × tree.Word Span) = joined (λ u a. (u, a)) p v in
      let rest : Rewritten (List (syntax.Param Span) × statement.Stmts Span) = joined (λ u a. (u, a)) q l in
      let out : Rewritten (syntax.Member Span) = joined (λ (u : Option (tree.TypeName Span) × tree.Word Span) (a : List (syntax.Param Span) × statement.Stmts Span). syntax.method m mods u.0 u.1 a.0 a.1) head rest in
      let all = lost_none o out is none in
      let z = method_back y (bare_modifiers mods) (bare_maybe_type p.tree) (bare_word v.tree) (bare_params q.tree) (bare_stmts l.tree) (eq ∙ ap (λ (u : Rewritten (syntax.Member Span)). bare_member u.tree) is) in
      let statics : is_static_member begins z.1 ≡ is_static_member begins mods = sym (static_bare begins begins mods z.1 z.7) in
      let own : Context = with_parameters k (is_static_member begins mods) ps in
      let there : Context = with_parameters (member_to g k) (is_static_member begins z.1) z.4 in
      let at : Here rows g super_at fit fair worlds x (length ps) (length z.4) own there = (as_many k 0 m.from ps z.4 q params z.10, params_at k (is_static_member begins mods) (is_static_member begins z.1) m.from ps z.4 q statics params z.10) in
      let rest_none : rest.losses ≡ [] = right_none head.losses rest.losses all in
      moved rows g super_at fit fair worlds x o out is (as_member k b i (syntax.method m mods t w ps body) y (syntax.method z.0 z.1 z.2 z.3 z.4 z.5) out.changes z.6
      (node (alike (p.changes ++ (v.changes ++ (q.changes ++ l.changes))) out.changes (sym (append_assoc p.changes v.changes (q.changes ++ l.changes)))
      (λ to a. elim a [ inl f ↦ elim f [ inl r ↦ inl r | inr r ↦ inr (inr (inl r)) ] | inr f ↦ elim f [ inl none_so ↦ absurd none_so | inr r ↦ inr (inr (inr r)) ] ])
      (λ to a. elim a [ inl r ↦ inl (inl r) | inr f ↦ elim f [ inl none_so ↦ absurd none_so | inr h ↦ elim h [ inl r ↦ inl (inr r) | inr r ↦ inr (inr r) ] ] ])
      (pass (modifiers_move mods z.1 z.7) (both (result_moves k m.from z.0.from t z.2 p result (left_none p.losses v.losses (left_none head.losses rest.losses all)) z.8)
      (both (declared_moves rows g super_at fit fair worlds x (declared_by k) m.from w z.3 v declared z.9) (pass (a_token (symbol OpenParen)) (both (params_move k 0 m.from z.0.from ps z.4 q params (left_none q.losses l.losses rest_none) z.10)
      (pass (a_token (symbol CloseParen)) (pass (a_token (symbol OpenBrace)) (only (stmts_moves rows g super_at fit fair worlds x (length ps) (length z.4) own there at m.from z.0.from body z.5 l inner (right_none q.losses l.losses rest_none) z.11) (last (a_token (symbol CloseBrace))))))))))))))
  member_moves k b i (syntax.constructor m mods w ps args body) y o (v, q, p, l, declared, params, parent, inner, is) none eq =
      let head : Rewritten (tree.Word Span × List (syntax.Param Span)) = joined (λ u a. (u, a)) v q in
      let rest : Rewritten (Option (tree.Exps Span) × statement.Stmts Span) = joined (λ u a. (u, a)) p l in
      let out : Rewritten (syntax.Member Span) = joined (λ (u : tree.Word Span × List (syntax.Param Span)) (a : Option (tree.Exps Span) × statement.Stmts Span). syntax.constructor m mods u.0 u.1 a.0 a.1) head rest in
      let all = lost_none o out is none in
      let z = constructor_back y (bare_modifiers mods) (bare_word v.tree) (bare_params q.tree) (bare_maybe_args p.tree) (bare_stmts l.tree) (eq ∙ ap (λ (u : Rewritten (syntax.Member Span)). bare_member u.tree) is) in
      let outside : ContextTo g rows (with_parameters k true ps) (with_parameters (member_to g k) true z.3) = params_at k true true m.from ps z.3 q refl params z.9 in
      let at : Here rows g super_at fit fair worlds x (length ps) (length z.3) (with_parameters k false ps) (with_parameters (member_to g k) false z.3) = (as_many k 0 m.from ps z.3 q params z.9, params_at k false false m.from ps z.3 q refl params z.9) in
      let rest_none : rest.losses ≡ [] = right_none head.losses rest.losses all in
      moved rows g super_at fit fair worlds x o out is (as_member k b i (syntax.constructor m mods w ps args body) y (syntax.constructor z.0 z.1 z.2 z.3 z.4 z.5) out.changes z.6
      (node (alike (v.changes ++ (q.changes ++ (p.changes ++ l.changes))) out.changes (sym (append_assoc v.changes q.changes (p.changes ++ l.changes)))
      (λ to a. elim a [ inl r ↦ inr (inl r) | inr f ↦ elim f [ inl r ↦ inr (inr (inl r)) | inr h ↦ elim h [ inl none_so ↦ absurd none_so | inr r ↦ inr (inr (inr r)) ] ] ])
      (λ to a. elim a [ inl none_so ↦ absurd none_so | inr f ↦ elim f [ inl r ↦ inl r | inr h ↦ elim h [ inl r ↦ inr (inl r) | inr r ↦ inr (inr (inr r)) ] ] ])
      (pass (modifiers_move mods z.1 z.7) (both (declared_moves rows g super_at fit fair worlds x (declared_by k) m.from w z.2 v declared z.8) (pass (a_token (symbol OpenParen)) (both (params_move k 0 m.from z.0.from ps z.3 q params (right_none v.losses q.losses (left_none head.losses rest.losses all)) z.9)
      (pass (a_token (symbol CloseParen)) (pass (a_token (symbol OpenBrace)) (both (super_moves (with_parameters k true ps) (with_parameters (member_to g k) true z.3) outside m.from z.0.from args z.4 p parent (left_none p.losses l.losses rest_none) z.10)
      (only (stmts_moves rows g super_at fit fair worlds x (length ps) (length z.3) (with_parameters k false ps) (with_parameters (member_to g k) false z.3) at m.from z.0.from body z.5 l inner (right_none p.losses l.losses rest_none) z.11) (last (a_token (symbol CloseBrace))))))))))))))
  member_moves k b i (syntax.inner m c) y o never_so none eq = absurd never_so
