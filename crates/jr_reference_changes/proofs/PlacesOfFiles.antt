-- The places of members, classes and files that are rewritten.
use Rattle.std.proofs.Common.{◌≡◌, ℕ, suc, List, [], ◌∷◌, length, Option, Some, None, true, false, refl, sym, ap, subst}
use Rattle.std.specs.Prelude.{◌⊎◌}
use Rattle.jr_text.specs.declared.spans.Span.{Span}
use Rattle.jr_lex.specs.declared.items.Symbol.TheVariants.{OpenParen, CloseParen, OpenBrace, CloseBrace}
use Rattle.jr_ast.specs.Tree as tree
use Rattle.jr_ast.specs.StatementTree as statement
use Rattle.jr_ast.specs.MemberTree as syntax
use Rattle.jr_grammar.specs.Layout.{itself, token, done, ◌then◌}
use Rattle.jr_grammar.specs.Tokens.{symbol}
use Rattle.jr_grammar.specs.Stands.{Tokens, IsAlone, InOrder, Stands, StandInOrder}
use Rattle.jr_grammar.specs.ExpressionLayout.{word_layout, type_layout, args_layout}
use Rattle.jr_grammar.specs.StatementLayout.{stmts_layout}
use Rattle.jr_grammar.specs.MemberLayout.{modifiers_layout, param_layout, params_layout, more_params_layout, init_layout, result_layout, parent_call_layout, extends_layout, class_layout, member_layout, members_layout, classes_layout, unit_layouts}
use Rattle.jr_table.specs.Keys.{ClassKey}
use Rattle.jr_table.specs.Decls.{MemberKey, Decl, class_decl, local_decl}
use Rattle.jr_table.specs.Binding.{value}
use Rattle.jr_table.specs.HeadRules.{plain as no_locals, with_parameters, is_static_member}
use Rattle.jr_table.specs.DeclaredItems.{DeclaredItem, class_key}
use Rattle.jr_table.specs.Errors.{Declares}
use Rattle.jr_program_laws.proofs.TokenOrder.{StartsIn, Rising, rising_front, rising_back, starts_first}
use Rattle.jr_program_laws.proofs.Filling.{member_fills}
use Rattle.jr_rewrite.specs.Respellings.{Choice}
use Rattle.jr_rewrite.specs.Rewritten.{Rewritten, within, joined, losses_of}
use Rattle.jr_rewrite.specs.Rewrites.{Choosing, declared_by, with_losses, RewritesMaybe, RewritesParams, RewritesResult, RewritesMember, RewritesParent, RewritesOne, RewritesMembers, RewritesClass, RewritesClasses, RewritesUnit, TransformsClass, TransformsMembers, TransformsOne}
use Rattle.jr_reference_changes.specs.Places.{Place, with_choice, of_super, of_parent, of_parent_qualifier, of_declared, WrittenStays, ExpStays, RowStays}
use Rattle.jr_reference_changes.specs.PlacesInFiles.{MaybeStays, StmtsStays, ParamsStay, ResultStays, MemberStays, ParentStays, KeyedStays, ClassStays, MembersStay, OneStays, ClassesStay, UnitStays}
use Rattle.jr_reference_changes.proofs.PlacesJoined.{both, OneEach, joined_places, own_places}
use Rattle.jr_rewrite.specs.Suitable.{AreSuitable}
use Rattle.jr_reference_changes.proofs.PlacesApart.{HasWord, AnyPlace, Placed, plain_placed, moved_placed, alike_placed, within_placed, weaker, turn, pass, only, node, join, assoc, with_super}
use Rattle.jr_reference_changes.proofs.PlacesOfExpressions.{type_places, written_places, exp_places, args_places}
use Rattle.jr_reference_changes.proofs.PlacesOfStatements.{pair, declared_places, stmts_places}

module _ (C : Choosing Span) (one : OneEach itself C) (suits : AreSuitable C) where
  abbrev Of : {T : Type 0} → (L : Tokens → Type 0) → (Place Span → Type 0) → Rewritten T → Type 0
  Of {T} L P o = Placed C HasWord L P {T = T} o

  -- also with a `super(..)`
  abbrev Any : {T : Type 0} → (L : Tokens → Type 0) → (Place Span → Type 0) → Rewritten T → Type 0
  Any {T} L P o = Placed C AnyPlace L P {T = T} o

  abbrev begins : Span → ℕ → ℕ
  begins m b = (itself m b).from

  -- ---- heads of members

  abbrev param_of : syntax.Param Span → tree.TypeName Span → tree.Word Span → syntax.Param Span
  param_of p u w = record { mark = p.mark; is_final = p.is_final; type = u; name = w }

  abbrev ParamStays : MemberKey → (n b : ℕ) → syntax.Param Span → Place Span → Type 0
  ParamStays k n b p s = WrittenStays itself C (no_locals k false) p.mark.from p.type s ⊎ (s ≡ of_declared (local_decl (record { member = k; number = n })) p.mark.from p.name)

  param_places : (k : MemberKey) (n b : ℕ) (p : syntax.Param Span) (t : Rewritten (tree.TypeName Span)) (v : Rewritten (tree.Word Span)) → Of (Stands (type_layout p.type)) (WrittenStays itself C (no_locals k false) p.mark.from p.type) t
      → Of (Stands (word_layout p.name)) (λ s. s ≡ of_declared (local_decl (record { member = k; number = n })) p.mark.from p.name) v → Of (Stands (param_layout p)) (ParamStays k n b p) (joined (param_of p) t v)
  param_places k n b p t v types declared = node C (pass C (join C (WrittenStays itself C (no_locals k false) p.mark.from p.type) (λ s. s ≡ of_declared (local_decl (record { member = k; number = n })) p.mark.from p.name) (param_of p) t v types (only C declared)))

  more_params_places : (k : MemberKey) (n b : ℕ) (ps : List (syntax.Param Span)) (o : Rewritten (List (syntax.Param Span))) → RewritesParams itself C k n b ps o → Of (Stands (more_params_layout ps)) (ParamsStay itself C k n b ps) o
  more_params_places k n b [] o is = moved_placed C _ o _ is (plain_placed C [])
  more_params_places k n b (p ∷ ps) o (t, v, q, types, declared, made, is) =
      let d : Decl = local_decl (record { member = k; number = n }) in
      let own = param_places k n b p t v (written_places C one suits (no_locals k false) p.mark.from p.type t types) (declared_places C one suits d p.mark.from p.name v declared) in
      moved_placed C _ o _ is (pass C (join C (ParamStays k n b p) (ParamsStay itself C k (suc n) b ps) (λ x xs. x ∷ xs) (joined (param_of p) t v) q own (only C (more_params_places k (suc n) b ps q made))))

  params_places : (k : MemberKey) (n b : ℕ) (ps : List (syntax.Param Span)) (o : Rewritten (List (syntax.Param Span))) → RewritesParams itself C k n b ps o → Of (Stands (params_layout ps)) (ParamsStay itself C k n b ps) o
  params_places k n b [] o is = moved_placed C _ o _ is (plain_placed C [])
  params_places k n b (p ∷ ps) o (t, v, q, types, declared, made, is) =
      let d : Decl = local_decl (record { member = k; number = n }) in
      let own = param_places k n b p t v (written_places C one suits (no_locals k false) p.mark.from p.type t types) (declared_places C one suits d p.mark.from p.name v declared) in
      moved_placed C _ o _ is (join C (ParamStays k n b p) (ParamsStay itself C k (suc n) b ps) (λ x xs. x ∷ xs) (joined (param_of p) t v) q own (only C (more_params_places k (suc n) b ps q made)))

  result_places : (k : MemberKey) (b : ℕ) (t : Option (tree.TypeName Span)) (o : Rewritten (Option (tree.TypeName Span))) → RewritesResult itself C k b t o → Of (Stands (result_layout t)) (ResultStays itself C k b t) o
  result_places k b None o is = moved_placed C _ o _ is (plain_placed C None)
  result_places k b (Some t) o (p, made, is) = moved_placed C _ o _ is (only C (within_placed C (WrittenStays itself C (no_locals k false) b t) (λ (u : tree.TypeName Span). Some u) p (written_places C one suits (no_locals k false) b t p made)))

  init_places : (k : MemberKey) (mods : List (syntax.Modifier Span)) (b : ℕ) (e : Option (tree.Exp Span)) (o : Rewritten (Option (tree.Exp Span))) → RewritesMaybe itself C (no_locals k (is_static_member begins mods)) b e o
      → Of (Stands (init_layout e)) (MaybeStays itself C (no_locals k (is_static_member begins mods)) b e) o
  init_places k mods b None o is = moved_placed C _ o _ is (plain_placed C None)
  init_places k mods b (Some e) o (p, made, is) =
      moved_placed C _ o _ is (pass C (only C (within_placed C (ExpStays itself C (no_locals k (is_static_member begins mods)) value b e) (λ (x : tree.Exp Span). Some x) p (exp_places C one suits (no_locals k (is_static_member begins mods)) value b e p made))))

  -- ---- constructors

  module _ (k : MemberKey) (m : Span) (mods : List (syntax.Modifier Span)) (w : tree.Word Span) (ps : List (syntax.Param Span)) (body : statement.Stmts Span) (v : Rewritten (tree.Word Span)) (q : Rewritten (List (syntax.Param Span))) (z : Rewritten (statement.Stmts Span)) where
    abbrev D : Place Span → Type 0
    D s = s ≡ of_declared (declared_by k) m.from w

    abbrev P : Place Span → Type 0
    P s = ParamsStay itself C k 0 m.from ps s

    abbrev S : Place Span → Type 0
    S s = StmtsStays itself C (length ps) (with_parameters k false ps) m.from body s

    -- its tokens up to the body's brace
    abbrev Head : Tokens → Type 0
    Head = InOrder (InOrder (Stands (word_layout w)) (IsAlone (symbol OpenParen))) (Stands (params_layout ps))

    module _ (named : Of (Stands (word_layout w)) D v) (params : Of (Stands (params_layout ps)) P q) (statements : Of (Stands (stmts_layout body)) S z) where
      head : Of Head (λ s. D s ⊎ P s) (pair v q)
      head = join C D P both v q (only C named) params

      abbrev with_parts : tree.Word Span × List (syntax.Param Span) → Option (tree.Exps Span) × statement.Stmts Span → syntax.Member Span
      with_parts u x = syntax.constructor m mods u.0 u.1 x.0 x.1

      -- without a written `super(..)`
      plain_ctor : (p : Rewritten (Option (tree.Exps Span))) → Of (Stands (parent_call_layout {A = Span} None)) (λ s. ⊥) p → Of (Stands (member_layout (syntax.constructor m mods w ps None body))) (λ s. (D s ⊎ P s) ⊎ (⊥ ⊎ S s)) (joined with_parts (pair v q) (pair p z))
      plain_ctor p none =
          let back = join C (λ s. ⊥) S both p z none (only C statements) in
          node C (pass C (turn C (λ s. (D s ⊎ P s) ⊎ (⊥ ⊎ S s)) (joined with_parts (pair v q) (pair p z)) (λ ts h. assoc ts (assoc ts h)) (join C (λ s. D s ⊎ P s) (λ s. ⊥ ⊎ S s) with_parts (pair v q) (pair p z) head (pass C (pass C back)))))

      -- with one
      module _ (args : tree.Exps Span) (h : Choice) (chosen : C.super_call (with_parameters k true ps) args h) (p : Rewritten (tree.Exps Span)) (row : Of (Stands (args_layout args)) (RowStays itself C (with_parameters k true ps) m.from args) p) where
        abbrev R : Place Span → Type 0
        R s = RowStays itself C (with_parameters k true ps) m.from args s

        abbrev it : Place Span
        it = of_super k m.from ps args

        abbrev lost : Rewritten (Unit {0})
        lost = record { tree = tt; changes = []; respelled = 0; losses = losses_of h }

        abbrev some : Rewritten (Option (tree.Exps Span))
        some = within (λ (xs : tree.Exps Span). Some xs) p

        abbrev called : Rewritten (Option (tree.Exps Span))
        called = with_losses itself C h some

        row_some : Of (Stands (parent_call_layout (Some args))) R some
        row_some = pass C (pass C (only C (within_placed C R (λ (xs : tree.Exps Span). Some xs) p row)))

        abbrev Back : Tokens → Type 0
        Back = InOrder (Stands (parent_call_layout (Some args))) (StandInOrder (stmts_layout body then token (symbol CloseBrace) then done))

        abbrev behind : Of Back (λ s. R s ⊎ S s) (pair some z)
        behind = join C R S both some z row_some (only C statements)

        abbrev Modified : Tokens → Type 0
        Modified = InOrder (Stands (modifiers_layout mods)) Head

        abbrev Rest : Tokens → Type 0
        Rest = InOrder (IsAlone (symbol CloseParen)) (InOrder (IsAlone (symbol OpenBrace)) Back)

        abbrev modified : Of Modified (λ s. D s ⊎ P s) (pair v q)
        modified = pass C head

        abbrev rest : Of Rest (λ s. R s ⊎ S s) (pair some z)
        rest = pass C (pass C behind)

        split : (ts : Tokens) → Stands (member_layout (syntax.constructor m mods w ps (Some args) body)) ts → InOrder Modified Rest ts
        split ts l = assoc ts (record { front = l.parts.front; back = l.parts.back; whole = l.parts.whole; first = l.parts.first; rest = assoc l.parts.back (assoc l.parts.back l.parts.rest) })

        super_ctor : Any (Stands (member_layout (syntax.constructor m mods w ps (Some args) body))) (λ s. (D s ⊎ P s) ⊎ (((s ≡ it) ⊎ R s) ⊎ S s)) (joined with_parts (pair v q) (pair called z))
        unfolding pass only join joined_places own_places
        super_ctor = record {
          places = joined_places itself C (λ s. D s ⊎ P s) (λ s. ((s ≡ it) ⊎ R s) ⊎ S s) with_parts (pair v q) (pair called z) modified.places
              (joined_places itself C (λ s. (s ≡ it) ⊎ R s) S both called z
              (joined_places itself C (λ s. s ≡ it) R (λ (x : Unit {0}) t. t) lost some (own_places itself C one it h chosen lost refl refl refl) row_some.places) statements.places);
          apart = λ ts rising l.
              let t = split ts l in
              let two = subst Rising t.whole rising in
              with_super C modified.places.all rest.places.all (with_choice it h) refl refl t.front t.back ts t.whole rising (modified.apart t.front (rising_front t.front t.back two) t.first) (rest.apart t.back (rising_back t.front t.back two) t.rest)
              (subst (StartsIn ts) (sym (ap (λ (s : Span). s.from) l.mark)) (starts_first ts ((member_fills (syntax.constructor m mods w ps (Some args) body)).fills ts l)));
        }

  -- ---- members

  pub member_places : (k : MemberKey) (b : ℕ) (x : syntax.Member Span) (o : Rewritten (syntax.Member Span)) → RewritesMember itself C k b x o → Any (Stands (member_layout x)) (MemberStays itself C k b x) o
  member_places k b (syntax.field m mods t w init) o (p, v, q, types, declared, made, is) =
      let W : Place Span → Type 0 = WrittenStays itself C (no_locals k false) m.from t in
      let D : Place Span → Type 0 = λ s. s ≡ of_declared (declared_by k) m.from w in
      let I : Place Span → Type 0 = MaybeStays itself C (no_locals k (is_static_member begins mods)) m.from init in
      let front : Of (InOrder (Stands (type_layout t)) (Stands (word_layout w))) (λ s. W s ⊎ D s) (pair p v) = join C W D both p v (written_places C one suits (no_locals k false) m.from t p types) (declared_places C one suits (declared_by k) m.from w v declared) in
      let whole : Rewritten (syntax.Member Span) = joined (λ (u : tree.TypeName Span × tree.Word Span) x. syntax.field m mods u.0 u.1 x) (pair p v) q in
      moved_placed C _ o whole is (weaker C _ whole (node C (pass C (turn C (λ s. (W s ⊎ D s) ⊎ I s) whole assoc
      (join C (λ s. W s ⊎ D s) I (λ (u : tree.TypeName Span × tree.Word Span) x. syntax.field m mods u.0 u.1 x) (pair p v) q front (only C (init_places k mods m.from init q made)))))))
  member_places k b (syntax.method m mods t w ps body) o (p, v, q, z, result, declared, params, made, is) =
      let W : Place Span → Type 0 = ResultStays itself C k m.from t in
      let D : Place Span → Type 0 = λ s. s ≡ of_declared (declared_by k) m.from w in
      let P : Place Span → Type 0 = ParamsStay itself C k 0 m.from ps in
      let S : Place Span → Type 0 = StmtsStays itself C (length ps) (with_parameters k (is_static_member begins mods) ps) m.from body in
      let front : Of (InOrder (Stands (result_layout t)) (Stands (word_layout w))) (λ s. W s ⊎ D s) (pair p v) = join C W D both p v (result_places k m.from t p result) (declared_places C one suits (declared_by k) m.from w v declared) in
      let back = join C P S both q z (params_places k 0 m.from ps q params) (pass C (pass C (only C (stmts_places C one suits (length ps) (with_parameters k (is_static_member begins mods) ps) m.from body z made)))) in
      let whole : Rewritten (syntax.Member Span) = joined (λ (u : Option (tree.TypeName Span) × tree.Word Span) (x : List (syntax.Param Span) × statement.Stmts Span). syntax.method m mods u.0 u.1 x.0 x.1) (pair p v) (pair q z) in
      moved_placed C _ o whole is (weaker C _ whole (node C (pass C (turn C (λ s. (W s ⊎ D s) ⊎ (P s ⊎ S s)) whole assoc
      (join C (λ s. W s ⊎ D s) (λ s. P s ⊎ S s) (λ (u : Option (tree.TypeName Span) × tree.Word Span) (x : List (syntax.Param Span) × statement.Stmts Span). syntax.method m mods u.0 u.1 x.0 x.1) (pair p v) (pair q z) front (pass C back))))))
  member_places k b (syntax.constructor m mods w ps None body) o (v, q, p, z, declared, params, none, made, is) =
      let named = declared_places C one suits (declared_by k) m.from w v declared in
      let statements = stmts_places C one suits (length ps) (with_parameters k false ps) m.from body z made in
      moved_placed C _ o _ is (weaker C _ _ (plain_ctor k m mods w ps body v q z named (params_places k 0 m.from ps q params) statements p (moved_placed C (λ s. ⊥) p _ none (plain_placed C None))))
  member_places k b (syntax.constructor m mods w ps (Some args) body) o (v, q, p, z, declared, params, (h, r, chosen, row, called), made, is) =
      let named = declared_places C one suits (declared_by k) m.from w v declared in
      let statements = stmts_places C one suits (length ps) (with_parameters k false ps) m.from body z made in
      let ctor = super_ctor k m mods w ps body v q z named (params_places k 0 m.from ps q params) statements args h chosen r (args_places C one suits (with_parameters k true ps) m.from args r row) in
      moved_placed C _ o _ is
      (subst (λ (x : Rewritten (Option (tree.Exps Span))). Any (Stands (member_layout (syntax.constructor m mods w ps (Some args) body))) (MemberStays itself C k b (syntax.constructor m mods w ps (Some args) body))
      (joined (λ (u : tree.Word Span × List (syntax.Param Span)) (y : Option (tree.Exps Span) × statement.Stmts Span). syntax.constructor m mods u.0 u.1 y.0 y.1) (pair v q) (pair x z))) (sym called) ctor)
  member_places k b (syntax.inner m of) o made = absurd made

  -- ---- classes and files

  parent_places : (outer : Option (List ℕ)) (b : ℕ) (t : Option (tree.TypeName Span)) (o : Rewritten (Option (tree.TypeName Span))) → RewritesParent itself C outer b t o → Of (Stands (extends_layout t)) (ParentStays itself C outer b t) o
  parent_places outer b None o is = moved_placed C _ o _ is (plain_placed C None)
  parent_places outer b (Some t) o (p, made, is) = moved_placed C _ o _ is
      (pass C (only C (within_placed C (ParentStays itself C outer b (Some t)) (λ (u : tree.TypeName Span). Some u) p
      (type_places C one suits (of_parent outer b t) (of_parent_qualifier outer b t) b t p (λ h. refl) (λ h. refl) (λ h. refl) (λ h. refl) refl refl refl refl made))))

  module _ (declarations : List DeclaredItem) (once : (b : ℕ) (of : ClassKey) (x : syntax.Member Span) (j k : MemberKey) → Declares begins declarations b of x j → Declares begins declarations b of x k → j ≡ k) where
    keyed_places : (b : ℕ) (of : ClassKey) (x : syntax.Member Span) (o : Rewritten (syntax.Member Span)) (k : MemberKey) → Declares begins declarations b of x k → RewritesMember itself C k b x o → Any (Stands (member_layout x)) (KeyedStays itself C declarations b of x) o
    keyed_places b of x o k declares made =
        alike_placed C (MemberStays itself C k b x) (KeyedStays itself C declarations b of x) o
        (λ s. (λ h. (k, declares, h), λ u. subst (λ (j : MemberKey). MemberStays itself C j b x s) (once b of x u.0 k u.1 declares) u.2)) (member_places k b x o made)

    mutual
      unfolding TransformsClass TransformsMembers TransformsOne ClassStays MembersStay OneStays

      pub class_places : (b : ℕ) (outer : Option (List ℕ)) (x : syntax.Class Span) (o : Rewritten (syntax.Class Span)) → RewritesClass itself C declarations b outer x o → Any (Stands (class_layout x)) (ClassStays itself C declarations b outer x) o
      class_places b outer (syntax.class m mods w t ms) o (p, z, (v, u, declared, parent, word), members, is) =
          let k : ClassKey = class_key begins outer w.text in
          let D : Place Span → Type 0 = λ s. s ≡ of_declared (class_decl k) m.from w in
          let H : Place Span → Type 0 = ParentStays itself C outer m.from t in
          let M : Place Span → Type 0 = MembersStay itself C declarations m.from k ms in
          let head : Any (InOrder (Stands (word_layout w)) (Stands (extends_layout t))) (λ s. D s ⊎ H s) p = moved_placed C (λ s. D s ⊎ H s) p (pair v u) word
          (weaker C _ (pair v u) (join C D H both v u (declared_places C one suits (class_decl k) m.from w v declared) (parent_places outer m.from t u parent))) in
          let whole : Rewritten (syntax.Class Span) = joined (λ (u : tree.Word Span × Option (tree.TypeName Span)) xs. syntax.class m mods u.0 u.1 xs) p z in
          moved_placed C _ o whole is (node C (pass C (pass C (turn C (λ s. (D s ⊎ H s) ⊎ M s) whole assoc
          (join C (λ s. D s ⊎ H s) M (λ (u : tree.Word Span × Option (tree.TypeName Span)) xs. syntax.class m mods u.0 u.1 xs) p z head (pass C (only C (members_places m.from k ms z members))))))))

      pub members_places : (b : ℕ) (of : ClassKey) (xs : syntax.Members Span) (o : Rewritten (syntax.Members Span)) → RewritesMembers itself C declarations b of xs o → Any (Stands (members_layout xs)) (MembersStay itself C declarations b of xs) o
      members_places b of syntax.end o is = moved_placed C _ o _ is (plain_placed C syntax.end)
      members_places b of (syntax.more x xs) o (p, z, made, rest, is) = moved_placed C _ o _ is
          (join C (OneStays itself C declarations b of x) (MembersStay itself C declarations b of xs) (λ y ys. syntax.more y ys) p z (one_places b of x p made) (only C (members_places b of xs z rest)))

      one_places : (b : ℕ) (of : ClassKey) (x : syntax.Member Span) (o : Rewritten (syntax.Member Span)) → RewritesOne itself C declarations b of x o → Any (Stands (member_layout x)) (OneStays itself C declarations b of x) o
      one_places b of (syntax.inner m c) o (p, made, is) = moved_placed C _ o _ is
          (node C (only C (within_placed C (ClassStays itself C declarations m.from (Some of.name) c) (λ d. syntax.inner m d) p (class_places m.from (Some of.name) c p made))))
      one_places b of (syntax.field m mods t w init) o (k, declares, made) = keyed_places b of (syntax.field m mods t w init) o k declares made
      one_places b of (syntax.method m mods t w ps body) o (k, declares, made) = keyed_places b of (syntax.method m mods t w ps body) o k declares made
      one_places b of (syntax.constructor m mods w ps args body) o (k, declares, made) = keyed_places b of (syntax.constructor m mods w ps args body) o k declares made

    classes_places : (b : ℕ) (cs : List (syntax.Class Span)) (o : Rewritten (List (syntax.Class Span))) → RewritesClasses itself C declarations b cs o → Any (Stands (classes_layout cs)) (ClassesStay itself C declarations b cs) o
    classes_places b [] o is = moved_placed C _ o _ is (plain_placed C [])
    classes_places b (c ∷ cs) o (p, z, made, rest, is) = moved_placed C _ o _ is
        (join C (ClassStays itself C declarations b None c) (ClassesStay itself C declarations b cs) (λ d ds. d ∷ ds) p z (class_places b None c p made) (only C (classes_places b cs z rest)))

    pub unit_places : (u : syntax.Unit Span) (o : Rewritten (syntax.Unit Span)) → RewritesUnit itself C declarations u o → Any (StandInOrder (unit_layouts u)) (UnitStays itself C declarations u) o
    unit_places u o (p, made, is) = moved_placed C _ o (within (λ cs. record { mark = u.mark; package_name = u.package_name; classes = cs }) p) is
        (pass C (only C (within_placed C (ClassesStay itself C declarations u.mark.from u.classes) (λ cs. record { mark = u.mark; package_name = u.package_name; classes = cs }) p (classes_places u.mark.from u.classes p made))))
