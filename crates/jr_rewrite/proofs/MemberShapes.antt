-- Rewritten statements, members and units are shaped where the old ones are.
use Rattle.std.proofs.Common.{◌≡◌, inl, inr, ℕ, ◌+◌, Bool, true, false, List, [], ◌∷◌, length, Option, Some, None, sym, ap, ◌∙◌, subst}
use Rattle.jr_text.specs.declared.spans.Span.{Span}
use Rattle.jr_ast.specs.Tree as tree
use Rattle.jr_ast.specs.StatementTree as statement
use Rattle.jr_ast.specs.MemberTree as syntax
use Rattle.jr_grammar.specs.StatementShape.{IsNoDeclaration, TakesNoElse, EndsTaken, ShapedValue, StmtShaped, ElseShaped, StmtsShaped}
use Rattle.jr_grammar.specs.MemberShape.{IsParent, ShapedArgs, ClassShaped, MemberShaped, MembersShaped, ClassesShaped, UnitShaped}
use Rattle.jr_table.specs.Keys.{ClassKey}
use Rattle.jr_table.specs.Decls.{MemberKey, Decl, class_decl}
use Rattle.jr_table.specs.Binding.{value}
use Rattle.jr_table.specs.Binding as role
use Rattle.jr_table.specs.Context.{Context, local_of, in_own, after, locals_in}
use Rattle.jr_table.specs.HeadRules.{plain as no_locals, with_parameters, is_static_member}
use Rattle.jr_table.specs.DeclaredItems.{DeclaredItem, class_key}
use Rattle.jr_rewrite.specs.Respellings.{text_of}
use Rattle.jr_rewrite.specs.Rewritten.{Rewritten}
use Rattle.jr_rewrite.specs.Suitable.{AreSuitable}
use Rattle.jr_rewrite.specs.Spots.{level, a_statement, Spotted, nowhere, spotted, OrList, OrMembers, OrClass}
use Rattle.jr_rewrite.specs.Rewrites.{declared_by, Choosing, begins, TransformsMaybe, TransformsSuper, TransformsStmt, TransformsElse, TransformsStmts, RewritesParent, TransformsClass, TransformsMembers, TransformsOne, TransformsClasses, TransformsUnit, TransformsList}
use Rattle.jr_rewrite.specs.Woven.{Weaving}
use Rattle.jr_rewrite.specs.SuitableSpots.{BecomesName, SpotsSuit}
use Rattle.jr_rewrite.proofs.ExpressionShapes.{type_named, takes, part_shaped, row_shaped}

-- what a spot makes of a list, or the other way
or_list : {A : Type 0} (tells : A → ℕ → Span) (S : Spotted A) (C : Choosing A) (W : Weaving) → SpotsSuit tells C W S → {N : Type 0} (n : ℕ) (c : Context) (base : ℕ) (xs : statement.Stmts A)
    (o : Rewritten (statement.Stmts A)) → OrList S n c base xs o N → StmtsShaped xs → (N → StmtsShaped o.tree) → StmtsShaped o.tree
or_list tells nowhere C W suit n c base xs o w h go = go w
or_list tells (spotted s) C W suit n c base xs o w h go = elim w [ inl x ↦ go x.1 | inr x ↦ suit.list_shaped n c base xs o x h ]

or_members : {A : Type 0} (tells : A → ℕ → Span) (S : Spotted A) (C : Choosing A) (W : Weaving) → SpotsSuit tells C W S → {N : Type 0} (nested : Bool) (name new : List ℕ) (base : ℕ) (of : ClassKey)
    (xs : syntax.Members A) (o : Rewritten (syntax.Members A)) → OrMembers S base of xs o N → BecomesName C of name new → MembersShaped nested name xs → (N → MembersShaped nested new o.tree)
    → MembersShaped nested new o.tree
or_members tells nowhere C W suit nested name new base of xs o w renames h go = go w
or_members tells (spotted s) C W suit nested name new base of xs o w renames h go = elim w [ inl x ↦ go x.1 | inr x ↦ suit.members_shaped base of xs o x nested name new renames h ]

or_class : {A : Type 0} (tells : A → ℕ → Span) (S : Spotted A) (C : Choosing A) (W : Weaving) → SpotsSuit tells C W S → {N : Type 0} (nested : Bool) (base : ℕ) (outer : Option (List ℕ))
    (x : syntax.Class A) (o : Rewritten (syntax.Class A)) → OrClass S base outer x o N → ClassShaped nested x → (N → ClassShaped nested o.tree) → ClassShaped nested o.tree
or_class tells nowhere C W suit nested base outer x o w h go = go w
or_class tells (spotted s) C W suit nested base outer x o w h go = elim w [ inl y ↦ go y.1 | inr y ↦ suit.whole_shaped base outer x o y nested h ]

module _ {A : Type 0} (tells : A → ℕ → Span) (C : Choosing A) (S : Spotted A) where
  -- ---- statements

  no_declaration : (n : ℕ) (c : Context) (base : ℕ) (s : statement.Stmt A) (o : Rewritten (statement.Stmt A)) → TransformsStmt tells C S n c base s o → IsNoDeclaration s → IsNoDeclaration o.tree
  unfolding TransformsStmt TransformsElse TransformsStmts
  no_declaration n c base (statement.local m f t v e) o w h = absurd h
  no_declaration n c base (statement.eval m e) o w h = subst (λ z. IsNoDeclaration z.tree) (sym w.2) tt
  no_declaration n c base (statement.branch m e x other) o w h = subst (λ z. IsNoDeclaration z.tree) (sym w.6) tt
  no_declaration n c base (statement.loop m e x) o w h = subst (λ z. IsNoDeclaration z.tree) (sym w.4) tt
  no_declaration n c base (statement.return m e) o w h = subst (λ z. IsNoDeclaration z.tree) (sym w.2) tt
  no_declaration n c base (statement.block m body) o w h = subst (λ z. IsNoDeclaration z.tree) (sym w.2) tt
  no_declaration n c base (statement.sync m e body) o w h = subst (λ z. IsNoDeclaration z.tree) (sym w.4) tt
  no_declaration n c base (statement.empty m) o w h = subst (λ z. IsNoDeclaration z.tree) (sym w) tt

  mutual
    unfolding TransformsStmt TransformsElse TransformsStmts

    no_else : (n : ℕ) (c : Context) (base : ℕ) (s : statement.Stmt A) (o : Rewritten (statement.Stmt A)) → TransformsStmt tells C S n c base s o → TakesNoElse s → TakesNoElse o.tree
    no_else n c base (statement.local m f t v e) o w h = subst (λ z. TakesNoElse z.tree) (sym w.6) tt
    no_else n c base (statement.eval m e) o w h = subst (λ z. TakesNoElse z.tree) (sym w.2) tt
    no_else n c base (statement.branch m e x other) o w h = subst (λ z. TakesNoElse z.tree) (sym w.6) (ends_taken (n + locals_in x) c (tells m base).from other w.2 w.5 h)
    no_else n c base (statement.loop m e x) o w h = subst (λ z. TakesNoElse z.tree) (sym w.4) (no_else n c (tells m base).from x w.1 w.3 h)
    no_else n c base (statement.return m e) o w h = subst (λ z. TakesNoElse z.tree) (sym w.2) tt
    no_else n c base (statement.block m body) o w h = subst (λ z. TakesNoElse z.tree) (sym w.2) tt
    no_else n c base (statement.sync m e body) o w h = subst (λ z. TakesNoElse z.tree) (sym w.4) tt
    no_else n c base (statement.empty m) o w h = subst (λ z. TakesNoElse z.tree) (sym w) tt

    ends_taken : (n : ℕ) (c : Context) (base : ℕ) (s : statement.Else A) (o : Rewritten (statement.Else A)) → TransformsElse tells C S n c base s o → EndsTaken s → EndsTaken o.tree
    ends_taken n c base statement.no_else o w h = absurd h
    ends_taken n c base (statement.otherwise x) o w h = subst (λ z. EndsTaken z.tree) (sym w.2) (no_else n c base x w.0 w.1 h)

  module _ (W : Weaving) (fit : AreSuitable C) (suit : SpotsSuit tells C W S) where
    in_list : {N : Type 0} (n : ℕ) (c : Context) (base : ℕ) (xs : statement.Stmts A) (o : Rewritten (statement.Stmts A)) → OrList S n c base xs o N → StmtsShaped xs
        → (N → StmtsShaped o.tree) → StmtsShaped o.tree
    in_list n c base xs o w h go = or_list tells S C W suit n c base xs o w h go

    maybe_shaped : (c : Context) (at : ℕ) (e : Option (tree.Exp A)) (o : Rewritten (Option (tree.Exp A))) → TransformsMaybe tells C S c at e o → ShapedValue e → ShapedValue o.tree
    maybe_shaped c at None o w h = subst (λ z. ShapedValue z.tree) (sym w) tt
    maybe_shaped c at (Some e) o w h = subst (λ z. ShapedValue z.tree) (sym w.2) (part_shaped tells C S W fit suit false (level 0) c value at e w.0 w.1 h)

    mutual
      unfolding TransformsStmt TransformsElse TransformsStmts

      stmt_shaped : (n : ℕ) (c : Context) (base : ℕ) (s : statement.Stmt A) (o : Rewritten (statement.Stmt A)) → TransformsStmt tells C S n c base s o → StmtShaped s → StmtShaped o.tree
      stmt_shaped n c base (statement.local m f t v e) o w h =
          subst (λ z. StmtShaped z.tree) (sym w.6) (part_shaped tells C S W fit suit false (level 0) (in_own c (local_of c n f t v)) value (tells m base).from e w.2 w.5 h)
      stmt_shaped n c base (statement.eval m e) o w h =
          subst (λ z. StmtShaped z.tree) (sym w.2)
          (takes tells C S W fit suit a_statement c role.statement (tells m base).from e w.0 w.1 h.0, part_shaped tells C S W fit suit false a_statement c role.statement (tells m base).from e w.0 w.1 h.1)
      stmt_shaped n c base (statement.branch m e x other) o w h =
          let at : ℕ = (tells m base).from in
          subst (λ z. StmtShaped z.tree) (sym w.6) (
            part_shaped tells C S W fit suit false (level 0) c value at e w.0 w.3 h.0,
            no_declaration n c at x w.1 w.4 h.1,
            stmt_shaped n c at x w.1 w.4 h.2,
            else_shaped n c at x w.1 w.4 (n + locals_in x) other w.2 w.5 h.3,
          )
      stmt_shaped n c base (statement.loop m e x) o w h =
          let at : ℕ = (tells m base).from in
          subst (λ z. StmtShaped z.tree) (sym w.4) (part_shaped tells C S W fit suit false (level 0) c value at e w.0 w.2 h.0, no_declaration n c at x w.1 w.3 h.1, stmt_shaped n c at x w.1 w.3 h.2)
      stmt_shaped n c base (statement.return m e) o w h = subst (λ z. StmtShaped z.tree) (sym w.2) (maybe_shaped c (tells m base).from e w.0 w.1 h)
      stmt_shaped n c base (statement.block m body) o w h = subst (λ z. StmtShaped z.tree) (sym w.2) (in_list n c (tells m base).from body w.0 w.1 h (λ x0. stmts_shaped n c (tells m base).from body w.0 x0 h))
      stmt_shaped n c base (statement.sync m e body) o w h =
          subst (λ z. StmtShaped z.tree) (sym w.4) (part_shaped tells C S W fit suit false (level 0) c value (tells m base).from e w.0 w.2 h.0, in_list n c (tells m base).from body w.1 w.3 h.1 (λ x0. stmts_shaped n c (tells m base).from body w.1 x0 h.1))
      stmt_shaped n c base (statement.empty m) o w h = subst (λ z. StmtShaped z.tree) (sym w) tt

      else_shaped : (n : ℕ) (c : Context) (base : ℕ) (x : statement.Stmt A) (p : Rewritten (statement.Stmt A)) → TransformsStmt tells C S n c base x p → (k : ℕ) (s : statement.Else A)
          (o : Rewritten (statement.Else A)) → TransformsElse tells C S k c base s o → ElseShaped x s → ElseShaped p.tree o.tree
      else_shaped n c base x p r k statement.no_else o w h = subst (λ z. ElseShaped p.tree z.tree) (sym w) tt
      else_shaped n c base x p r k (statement.otherwise s) o w h =
          subst (λ z. ElseShaped p.tree z.tree) (sym w.2) (no_else n c base x p r h.0, no_declaration k c base s w.0 w.1 h.1, stmt_shaped k c base s w.0 w.1 h.2)

      stmts_shaped : (n : ℕ) (c : Context) (base : ℕ) (s : statement.Stmts A) (o : Rewritten (statement.Stmts A)) → TransformsStmts tells C S n c base s o → StmtsShaped s → StmtsShaped o.tree
      stmts_shaped n c base statement.end o w h = subst (λ z. StmtsShaped z.tree) (sym w) tt
      stmts_shaped n c base (statement.more x xs) o w h =
          subst (λ z. StmtsShaped z.tree) (sym w.4) (stmt_shaped n c base x w.0 w.2 h.0, in_list (n + locals_in x) (after n c x) base xs w.1 w.3 h.1 (λ x0. stmts_shaped (n + locals_in x) (after n c x) base xs w.1 x0 h.1))

    list_shaped : (n : ℕ) (c : Context) (base : ℕ) (xs : statement.Stmts A) (o : Rewritten (statement.Stmts A)) → TransformsList tells C S n c base xs o → StmtsShaped xs → StmtsShaped o.tree
    list_shaped n c base xs o w h = in_list n c base xs o w h (λ x. stmts_shaped n c base xs o x h)

    -- ---- members

    super_call_shaped : (c : Context) (base : ℕ) (args : Option (tree.Exps A)) (o : Rewritten (Option (tree.Exps A))) → TransformsSuper tells C S c base args o → ShapedArgs args → ShapedArgs o.tree
    super_call_shaped c base None o w h = subst (λ z. ShapedArgs z.tree) (sym w) tt
    super_call_shaped c base (Some args) o w h = subst (λ z. ShapedArgs z.tree) (sym w.4) (row_shaped tells C S W fit suit c base args w.1 w.3 h)

    parent_shaped : (outer : Option (List ℕ)) (base : ℕ) (t : Option (tree.TypeName A)) (o : Rewritten (Option (tree.TypeName A))) → RewritesParent tells C outer base t o → IsParent t → IsParent o.tree
    parent_shaped outer base None o w h = subst (λ z. IsParent z.tree) (sym w) tt
    parent_shaped outer base (Some t) o w h = subst (λ z. IsParent z.tree) (sym w.2) (type_named tells C (C.parent_qualifier outer base t) (C.parent outer base t) base t w.0 w.1 h)

    module _ (declarations : List DeclaredItem) where
      in_class : {N : Type 0} (nested : Bool) (base : ℕ) (outer : Option (List ℕ)) (x : syntax.Class A) (o : Rewritten (syntax.Class A)) → OrClass S base outer x o N → ClassShaped nested x
          → (N → ClassShaped nested o.tree) → ClassShaped nested o.tree
      in_class nested base outer x o w h go = or_class tells S C W suit nested base outer x o w h go

      in_members : {N : Type 0} (nested : Bool) (name new : List ℕ) (base : ℕ) (of : ClassKey) (xs : syntax.Members A) (o : Rewritten (syntax.Members A)) → OrMembers S base of xs o N
          → BecomesName C of name new → MembersShaped nested name xs → (N → MembersShaped nested new o.tree) → MembersShaped nested new o.tree
      in_members nested name new base of xs o w renames h go = or_members tells S C W suit nested name new base of xs o w renames h go

      mutual
        unfolding TransformsClass TransformsMembers TransformsOne

        class_shaped : (nested : Bool) (base : ℕ) (outer : Option (List ℕ)) (x : syntax.Class A) (o : Rewritten (syntax.Class A)) → TransformsClass tells C S declarations base outer x o
            → ClassShaped nested x → ClassShaped nested o.tree
        class_shaped nested base outer (syntax.class m mods v t ms) o w h =
            let at : ℕ = (tells m base).from in
            let of : ClassKey = class_key (begins tells C) outer v.text in
            let head = w.2 in
            let named = head.2 in
            let new : List ℕ = text_of named.0 v.text in
            let renames : BecomesName C of v.text new = λ u g same declared. fit.one_name of u v g named.0 same declared named.1 in
            let members : MembersShaped nested new w.1.tree = in_members nested v.text new at of ms w.1 w.3 renames h.1 (λ x0. members_shaped nested v.text new at of renames ms w.1 x0 h.1) in
            subst (λ z. ClassShaped nested z.tree) (sym w.4)
            (subst (λ (z : Rewritten (tree.Word A × Option (tree.TypeName A))). ClassShaped nested (syntax.class m mods z.tree.0 z.tree.1 w.1.tree)) (sym head.4)
            (parent_shaped outer at t head.1 head.3 h.0, subst (λ (z : Rewritten (tree.Word A)). MembersShaped nested z.tree.text w.1.tree) (sym named.2) members))

        members_shaped : (nested : Bool) (name new : List ℕ) → (base : ℕ) (of : ClassKey) → BecomesName C of name new → (xs : syntax.Members A) (o : Rewritten (syntax.Members A))
            → TransformsMembers tells C S declarations base of xs o → MembersShaped nested name xs → MembersShaped nested new o.tree
        members_shaped nested name new base of renames syntax.end o w h = subst (λ z. MembersShaped nested new z.tree) (sym w) tt
        members_shaped nested name new base of renames (syntax.more x xs) o w h =
            subst (λ z. MembersShaped nested new z.tree) (sym w.4)
            (one_shaped nested name new base of renames x w.0 w.2 h.0, in_members nested name new base of xs w.1 w.3 renames h.1 (λ x0. members_shaped nested name new base of renames xs w.1 x0 h.1))

        one_shaped : (nested : Bool) (name new : List ℕ) → (base : ℕ) (of : ClassKey) → BecomesName C of name new → (x : syntax.Member A) (o : Rewritten (syntax.Member A))
            → TransformsOne tells C S declarations base of x o → MemberShaped nested name x → MemberShaped nested new o.tree
        one_shaped nested name new base of renames (syntax.inner m c) o w h =
            subst (λ z. MemberShaped nested new z.tree) (sym w.2) (h.0, in_class true (tells m base).from (Some of.name) c w.0 w.1 h.1 (λ y. class_shaped true (tells m base).from (Some of.name) c w.0 y h.1))
        one_shaped nested name new base of renames (syntax.field m mods t v init) o w h =
            let r = w.2 in
            subst (λ z. MemberShaped nested new z.tree) (sym r.6) (maybe_shaped (no_locals w.0 (is_static_member (begins tells C) mods)) (tells m base).from init r.2 r.5 h)
        one_shaped nested name new base of renames (syntax.method m mods t v ps body) o w h =
            let r = w.2 in
            subst (λ z. MemberShaped nested new z.tree) (sym r.8) (list_shaped (length ps) (with_parameters w.0 (is_static_member (begins tells C) mods) ps) (tells m base).from body r.3 r.7 h)
        one_shaped nested name new base of renames (syntax.constructor m mods v ps args body) o w h =
            let at : ℕ = (tells m base).from in
            let k : MemberKey = w.0 in
            let r = w.2 in
            let named = r.4 in
            let declared : C.declared (class_decl of) v named.0 = subst (λ (d : Decl). C.declared d v named.0) (ap declared_by w.1.2) named.1 in
            let text : r.0.tree.text ≡ new = ap (λ (z : Rewritten (tree.Word A)). z.tree.text) named.2 ∙ renames v named.0 h.0 declared in
            subst (λ z. MemberShaped nested new z.tree) (sym r.8)
            (text, super_call_shaped (with_parameters k true ps) at args r.2 r.6 h.1, list_shaped (length ps) (with_parameters k false ps) at body r.3 r.7 h.2)

      classes_shaped : (base : ℕ) (xs : List (syntax.Class A)) (o : Rewritten (List (syntax.Class A))) → TransformsClasses tells C S declarations base xs o → ClassesShaped xs → ClassesShaped o.tree
      classes_shaped base [] o w h = subst (λ z. ClassesShaped z.tree) (sym w) tt
      classes_shaped base (x ∷ xs) o w h = subst (λ z. ClassesShaped z.tree) (sym w.4) (in_class false base None x w.0 w.2 h.0 (λ y. class_shaped false base None x w.0 y h.0), classes_shaped base xs w.1 w.3 h.1)

      pub unit_shaped : (u : syntax.Unit A) (o : Rewritten (syntax.Unit A)) → TransformsUnit tells C S declarations u o → UnitShaped u → UnitShaped o.tree
      unit_shaped u o w h = subst (λ z. UnitShaped z.tree) (sym w.2) (classes_shaped (begins tells C u.mark 0) u.classes w.0 w.1 h)
