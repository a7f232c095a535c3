-- Where what is chosen for each word is one thing, a tree is rewritten in one way.
use Rattle.std.proofs.Common.{◌≡◌, ℕ, zero, suc, ◌+◌, List, [], ◌∷◌, length, Option, Some, None, true, false, refl, sym, ap, subst, ◌∙◌, inl, inr}
use Rattle.std.specs.Prelude.{◌⊎◌, slice_get}
use Rattle.jr_text.specs.declared.spans.Span.{Span}
use Rattle.jr_ast.specs.Tree as tree
use Rattle.jr_ast.specs.StatementTree as statement
use Rattle.jr_ast.specs.MemberTree as syntax
use Rattle.jr_table.specs.Keys.{ClassKey}
use Rattle.jr_table.specs.Decls.{MemberKey, Decl, class_decl, local_decl}
use Rattle.jr_table.specs.LookupLaws.{HasOne}
use Rattle.jr_table.specs.Binding.{Role, value, left}
use Rattle.jr_table.specs.Binding as role
use Rattle.jr_table.specs.Context.{Context, local_of, local_key, in_own, after, locals_in}
use Rattle.jr_table.specs.HeadRules.{plain as no_locals, with_parameters, is_static_member}
use Rattle.jr_table.specs.DeclaredItems.{DeclaredItem, class_key}
use Rattle.jr_table.specs.Errors.{Part, member_part, Declares, InClass, InMembers, InInner, InClasses}
use Rattle.jr_members.proofs.Anywhere.{IsAt}
use Rattle.jr_rewrite.specs.Respellings.{Choice}
use Rattle.jr_rewrite.specs.Rewritten.{Rewritten, within, joined, word_out, name_out, field_out, super_field_out, Called, simple_call_out, dotted_call_out, simple_type_out, qualified_type_out}
use Rattle.jr_rewrite.specs.Rewrites.{Choosing, declared_by, DeclaredOut, TypeOut, RewritesType, with_losses, RewritesExp, RewritesTarget, RewritesRow, RewritesMaybe, RewritesStmt, RewritesElse, RewritesStmts, RewritesParams, RewritesResult, RewritesSuper, RewritesMember, RewritesParent, RewritesHead, ByKey, RewritesClass, RewritesMembers, RewritesOne, RewritesClasses, RewritesUnit, RewritesUnits, TransformsExp, TransformsTarget, TransformsRow, TransformsStmt, TransformsElse, TransformsStmts, TransformsClass, TransformsMembers, TransformsOne}

-- two choose the same; for a written `super(..)` where its member is fine
pub record Agree {A : Type 0} (Fine : MemberKey → Part A → Type 0) (C D : Choosing A) : Type 0 where
  pub expression : (c : Context) (r : Role) (base : ℕ) (e : tree.Exp A) (h k : Choice) → C.expression c r base e h → D.expression c r base e k → h ≡ k
  pub creation : (c : Context) (base : ℕ) (e : tree.Exp A) (h k : Choice) → C.creation c base e h → D.creation c base e k → h ≡ k
  pub super_call : (k : MemberKey) (m : A) (mods : List (syntax.Modifier A)) (w : tree.Word A) (ps : List (syntax.Param A)) (args : tree.Exps A) (body : statement.Stmts A)
      → Fine k (member_part (syntax.constructor m mods w ps (Some args) body)) → (h i : Choice) → C.super_call (with_parameters k true ps) args h → D.super_call (with_parameters k true ps) args i → h ≡ i
  pub qualifier : (c : Context) (base : ℕ) (t : tree.TypeName A) (h k : Choice) → C.qualifier c base t h → D.qualifier c base t k → h ≡ k
  pub type : (c : Context) (base : ℕ) (t : tree.TypeName A) (h k : Choice) → C.type c base t h → D.type c base t k → h ≡ k
  pub parent_qualifier : (outer : Option (List ℕ)) (base : ℕ) (t : tree.TypeName A) (h k : Choice) → C.parent_qualifier outer base t h → D.parent_qualifier outer base t k → h ≡ k
  pub parent : (outer : Option (List ℕ)) (base : ℕ) (t : tree.TypeName A) (h k : Choice) → C.parent outer base t h → D.parent outer base t k → h ≡ k
  pub declared : (d : Decl) (w : tree.Word A) (h k : Choice) → C.declared d w h → D.declared d w k → h ≡ k

-- ---- a whole of parts that are the same

of_one : {T U : Type 0} (F : T → U) {s t : T} {o p : U} → s ≡ t → o ≡ F s → p ≡ F t → o ≡ p
of_one F e x y = x ∙ ap F e ∙ sym y

of_two : {S T U : Type 0} (F : S → T → U) {q r : S} {s t : T} {o p : U} → q ≡ r → s ≡ t → o ≡ F q s → p ≡ F r t → o ≡ p
of_two F d e x y = x ∙ (λ i. F (d i) (e i)) ∙ sym y

of_three : {R S T U : Type 0} (F : R → S → T → U) {l m : R} {q r : S} {s t : T} {o p : U} → l ≡ m → q ≡ r → s ≡ t → o ≡ F l q s → p ≡ F m r t → o ≡ p
of_three F c d e x y = x ∙ (λ i. F (c i) (d i) (e i)) ∙ sym y

of_four : {Q R S T U : Type 0} (F : Q → R → S → T → U) {j k : Q} {l m : R} {q r : S} {s t : T} {o p : U} → j ≡ k → l ≡ m → q ≡ r → s ≡ t → o ≡ F j l q s → p ≡ F k m r t → o ≡ p
of_four F b c d e x y = x ∙ (λ i. F (b i) (c i) (d i) (e i)) ∙ sym y

module _ {A : Type 0} (tells : A → ℕ → Span) (Fine : MemberKey → Part A → Type 0) (C D : Choosing A) (agree : Agree Fine C D) where
  abbrev begins : A → ℕ → ℕ
  begins m base = (tells m base).from

  abbrev E : Type 0
  E = Rewritten (tree.Exp A)

  abbrev Es : Type 0
  Es = Rewritten (tree.Exps A)

  abbrev T : Type 0
  T = Rewritten (tree.TypeName A)

  abbrev W : Type 0
  W = Rewritten (tree.Word A)

  word_one : (d : Decl) (at : ℕ) (w : tree.Word A) (o p : W) → DeclaredOut tells C d at w o → DeclaredOut tells D d at w p → o ≡ p
  word_one d at w o p x y = of_one (λ (h : Choice). word_out tells h at w) (agree.declared d w x.0 y.0 x.1 y.1) x.2 y.2

  type_out : (P Q M N : Choice → Type 0) → ((h k : Choice) → P h → Q k → h ≡ k) → ((h k : Choice) → M h → N k → h ≡ k) → (base : ℕ) (t : tree.TypeName A) (o p : T)
      → TypeOut tells C P M base t o → TypeOut tells D Q N base t p → o ≡ p
  type_out P Q M N front own base (tree.int m) o p x y = x ∙ sym y
  type_out P Q M N front own base (tree.boolean m) o p x y = x ∙ sym y
  type_out P Q M N front own base (tree.named m None w) o p x y = of_one (λ (h : Choice). simple_type_out tells h m base w) (own x.0 y.0 x.1 y.1) x.2 y.2
  type_out P Q M N front own base (tree.named m (Some v) w) o p x y = of_two (λ (g h : Choice). qualified_type_out tells g h m base v w) (front x.0 y.0 x.2 y.2) (own x.1 y.1 x.3 y.3) x.4 y.4

  type_one : (c : Context) (base : ℕ) (t : tree.TypeName A) (o p : T) → RewritesType tells C c base t o → RewritesType tells D c base t p → o ≡ p
  type_one c base t = type_out (C.qualifier c base t) (D.qualifier c base t) (C.type c base t) (D.type c base t) (agree.qualifier c base t) (agree.type c base t) base t

  -- ---- expressions

  mutual
    unfolding TransformsExp TransformsTarget TransformsRow

    exp_one : (c : Context) (r : Role) (base : ℕ) (e : tree.Exp A) (o p : E) → RewritesExp tells C c r base e o → RewritesExp tells D c r base e p → o ≡ p
    exp_one c r base (tree.number m n) o p x y = x ∙ sym y
    exp_one c r base (tree.truth m b) o p x y = x ∙ sym y
    exp_one c r base (tree.null m) o p x y = x ∙ sym y
    exp_one c r base (tree.string m s) o p x y = x ∙ sym y
    exp_one c r base (tree.this m) o p x y = x ∙ sym y
    exp_one c r base (tree.name m w) o p x y = of_one (λ (h : Choice). name_out tells h m base w) (agree.expression c r base (tree.name m w) x.0 y.0 x.1 y.1) x.2 y.2
    exp_one c r base (tree.field m e w) o p x y =
        of_two (λ (h : Choice) (q : E). field_out tells h m base e q w) (agree.expression c r base (tree.field m e w) x.0 y.0 x.2 y.2) (exp_one c left (begins m base) e x.1 y.1 x.3 y.3) x.4 y.4
    exp_one c r base (tree.super_field m w) o p x y = of_one (λ (h : Choice). super_field_out tells h m base w) (agree.expression c r base (tree.super_field m w) x.0 y.0 x.1 y.1) x.2 y.2
    exp_one c r base (tree.class_literal m t) o p x y = of_one (λ (q : T). within (λ u. tree.class_literal m u) q) (type_one c (begins m base) t x.0 y.0 x.1 y.1) x.2 y.2
    exp_one c r base (tree.call m to w args) o p x y =
        let h = agree.expression c r base (tree.call m to w args) x.0 y.0 x.3 y.3 in
        of_two (λ (q : Rewritten (Called tells)) (es : Es). joined (λ (t : Called tells) es. tree.call m t.target t.word es) q es)
        (target_one c x.0 y.0 h m base to w x.1 y.1 x.4 y.4) (row_one c (begins m base) args x.2 y.2 x.5 y.5) x.6 y.6
    exp_one c r base (tree.super_call m w args) o p x y =
        of_two (λ (h : Choice) (q : Es). joined (λ v es. tree.super_call m v es) (word_out tells h (begins m base) w) q)
        (agree.expression c r base (tree.super_call m w args) x.0 y.0 x.2 y.2) (row_one c (begins m base) args x.1 y.1 x.3 y.3) x.4 y.4
    exp_one c r base (tree.create m t args) o p x y =
        of_three (λ (h : Choice) (q : T) (es : Es). with_losses tells C h (joined (λ u es. tree.create m u es) q es))
        (agree.creation c base (tree.create m t args) x.0 y.0 x.3 y.3) (type_one c (begins m base) t x.1 y.1 x.4 y.4) (row_one c (begins m base) args x.2 y.2 x.5 y.5) x.6 y.6
    exp_one c r base (tree.paren m e) o p x y = of_one (λ (q : E). within (λ z. tree.paren m z) q) (exp_one c value (begins m base) e x.0 y.0 x.1 y.1) x.2 y.2
    exp_one c r base (tree.cast m t e) o p x y =
        of_two (λ (q : T) (s : E). joined (λ u z. tree.cast m u z) q s) (type_one c (begins m base) t x.0 y.0 x.2 y.2) (exp_one c value (begins m base) e x.1 y.1 x.3 y.3) x.4 y.4
    exp_one c r base (tree.unary m op e) o p x y = of_one (λ (q : E). within (λ z. tree.unary m op z) q) (exp_one c value (begins m base) e x.0 y.0 x.1 y.1) x.2 y.2
    exp_one c r base (tree.bump m op e) o p x y = of_one (λ (q : E). within (λ z. tree.bump m op z) q) (exp_one c value (begins m base) e x.0 y.0 x.1 y.1) x.2 y.2
    exp_one c r base (tree.binary m op e f) o p x y =
        of_two (λ (q s : E). joined (λ u v. tree.binary m op u v) q s) (exp_one c value (begins m base) e x.0 y.0 x.2 y.2) (exp_one c value (begins m base) f x.1 y.1 x.3 y.3) x.4 y.4
    exp_one c r base (tree.assign m e f) o p x y =
        of_two (λ (q s : E). joined (λ u v. tree.assign m u v) q s) (exp_one c value (begins m base) e x.0 y.0 x.2 y.2) (exp_one c value (begins m base) f x.1 y.1 x.3 y.3) x.4 y.4
    exp_one c r base (tree.compound m op e f) o p x y =
        of_two (λ (q s : E). joined (λ u v. tree.compound m op u v) q s) (exp_one c value (begins m base) e x.0 y.0 x.2 y.2) (exp_one c value (begins m base) f x.1 y.1 x.3 y.3) x.4 y.4

    target_one : (c : Context) (h k : Choice) → h ≡ k → (m : A) (base : ℕ) (to : tree.Target A) (w : tree.Word A) (o p : Rewritten (Called tells)) → RewritesTarget tells C c h m base to w o → RewritesTarget tells D c k m base to w p → o ≡ p
    target_one c h k same m base tree.no_target w o p x y = of_one (λ (h : Choice). simple_call_out tells h m base w) same x y
    target_one c h k same m base (tree.on e) w o p x y = of_two (λ (h : Choice) (q : E). dotted_call_out tells h m base e q w) same (exp_one c left (begins m base) e x.0 y.0 x.1 y.1) x.2 y.2

    row_one : (c : Context) (at : ℕ) (es : tree.Exps A) (o p : Es) → RewritesRow tells C c at es o → RewritesRow tells D c at es p → o ≡ p
    row_one c at tree.end o p x y = x ∙ sym y
    row_one c at (tree.more e es) o p x y = of_two (λ (q : E) (s : Es). joined (λ z zs. tree.more z zs) q s) (exp_one c value at e x.0 y.0 x.2 y.2) (row_one c at es x.1 y.1 x.3 y.3) x.4 y.4

  maybe_one : (c : Context) (at : ℕ) (e : Option (tree.Exp A)) (o p : Rewritten (Option (tree.Exp A))) → RewritesMaybe tells C c at e o → RewritesMaybe tells D c at e p → o ≡ p
  maybe_one c at None o p x y = x ∙ sym y
  maybe_one c at (Some e) o p x y = of_one (λ (q : E). within (λ (z : tree.Exp A). Some z) q) (exp_one c value at e x.0 y.0 x.1 y.1) x.2 y.2

  -- ---- statements

  abbrev S : Type 0
  S = Rewritten (statement.Stmt A)

  abbrev Ss : Type 0
  Ss = Rewritten (statement.Stmts A)

  mutual
    unfolding TransformsStmt TransformsElse TransformsStmts

    stmt_one : (n : ℕ) (c : Context) (base : ℕ) (s : statement.Stmt A) (o p : S) → RewritesStmt tells C n c base s o → RewritesStmt tells D n c base s p → o ≡ p
    stmt_one n c base (statement.local m f t w e) o p x y =
        of_three (λ (q : T) (v : W) (s : E). joined (λ (u : tree.TypeName A × tree.Word A) z. statement.local m f u.0 u.1 z) (joined (λ u z. (u, z)) q v) s)
        (type_one c (begins m base) t x.0 y.0 x.3 y.3) (word_one (local_decl (local_key c n)) (begins m base) w x.1 y.1 x.4 y.4) (exp_one (in_own c (local_of c n f t w)) value (begins m base) e x.2 y.2 x.5 y.5) x.6 y.6
    stmt_one n c base (statement.eval m e) o p x y = of_one (λ (q : E). within (λ z. statement.eval m z) q) (exp_one c role.statement (begins m base) e x.0 y.0 x.1 y.1) x.2 y.2
    stmt_one n c base (statement.branch m e s other) o p x y =
        of_three (λ (q : E) (r : S) (z : Rewritten (statement.Else A)). joined (λ (u : tree.Exp A × statement.Stmt A) v. statement.branch m u.0 u.1 v) (joined (λ u v. (u, v)) q r) z)
        (exp_one c value (begins m base) e x.0 y.0 x.3 y.3) (stmt_one n c (begins m base) s x.1 y.1 x.4 y.4) (else_one (n + locals_in s) c (begins m base) other x.2 y.2 x.5 y.5) x.6 y.6
    stmt_one n c base (statement.loop m e s) o p x y =
        of_two (λ (q : E) (r : S). joined (λ u v. statement.loop m u v) q r) (exp_one c value (begins m base) e x.0 y.0 x.2 y.2) (stmt_one n c (begins m base) s x.1 y.1 x.3 y.3) x.4 y.4
    stmt_one n c base (statement.return m e) o p x y = of_one (λ (q : Rewritten (Option (tree.Exp A))). within (λ z. statement.return m z) q) (maybe_one c (begins m base) e x.0 y.0 x.1 y.1) x.2 y.2
    stmt_one n c base (statement.block m body) o p x y = of_one (λ (q : Ss). within (λ z. statement.block m z) q) (stmts_one n c (begins m base) body x.0 y.0 x.1 y.1) x.2 y.2
    stmt_one n c base (statement.sync m e body) o p x y =
        of_two (λ (q : E) (r : Ss). joined (λ u v. statement.sync m u v) q r) (exp_one c value (begins m base) e x.0 y.0 x.2 y.2) (stmts_one n c (begins m base) body x.1 y.1 x.3 y.3) x.4 y.4
    stmt_one n c base (statement.empty m) o p x y = x ∙ sym y

    else_one : (n : ℕ) (c : Context) (base : ℕ) (s : statement.Else A) (o p : Rewritten (statement.Else A)) → RewritesElse tells C n c base s o → RewritesElse tells D n c base s p → o ≡ p
    else_one n c base statement.no_else o p x y = x ∙ sym y
    else_one n c base (statement.otherwise s) o p x y = of_one (λ (q : S). within (λ z. statement.otherwise z) q) (stmt_one n c base s x.0 y.0 x.1 y.1) x.2 y.2

    stmts_one : (n : ℕ) (c : Context) (base : ℕ) (s : statement.Stmts A) (o p : Ss) → RewritesStmts tells C n c base s o → RewritesStmts tells D n c base s p → o ≡ p
    stmts_one n c base statement.end o p x y = x ∙ sym y
    stmts_one n c base (statement.more s ss) o p x y =
        of_two (λ (q : S) (r : Ss). joined (λ z zs. statement.more z zs) q r) (stmt_one n c base s x.0 y.0 x.2 y.2) (stmts_one (n + locals_in s) (after n c s) base ss x.1 y.1 x.3 y.3) x.4 y.4

  -- ---- members

  abbrev Ps : Type 0
  Ps = Rewritten (List (syntax.Param A))

  params_one : (k : MemberKey) (n base : ℕ) (ps : List (syntax.Param A)) (o p : Ps) → RewritesParams tells C k n base ps o → RewritesParams tells D k n base ps p → o ≡ p
  params_one k n base [] o p x y = x ∙ sym y
  params_one k n base (q ∷ qs) o p x y =
      of_three (λ (t : T) (v : W) (r : Ps). joined (λ z zs. z ∷ zs) (joined (λ u w. record { mark = q.mark; is_final = q.is_final; type = u; name = w }) t v) r)
      (type_one (no_locals k false) (begins q.mark base) q.type x.0 y.0 x.3 y.3) (word_one (local_decl (record { member = k; number = n })) (begins q.mark base) q.name x.1 y.1 x.4 y.4) (params_one k (suc n) base qs x.2 y.2 x.5 y.5) x.6 y.6

  result_one : (k : MemberKey) (base : ℕ) (t : Option (tree.TypeName A)) (o p : Rewritten (Option (tree.TypeName A))) → RewritesResult tells C k base t o → RewritesResult tells D k base t p → o ≡ p
  result_one k base None o p x y = x ∙ sym y
  result_one k base (Some t) o p x y = of_one (λ (q : T). within (λ (u : tree.TypeName A). Some u) q) (type_one (no_locals k false) base t x.0 y.0 x.1 y.1) x.2 y.2

  super_one : (c : Context) (base : ℕ) (args : Option (tree.Exps A)) → ((es : tree.Exps A) → args ≡ Some es → (h i : Choice) → C.super_call c es h → D.super_call c es i → h ≡ i) → (o p : Rewritten (Option (tree.Exps A)))
      → RewritesSuper tells C c base args o → RewritesSuper tells D c base args p → o ≡ p
  super_one c base None one o p x y = x ∙ sym y
  super_one c base (Some args) one o p x y =
      of_two (λ (h : Choice) (q : Es). with_losses tells C h (within (λ (zs : tree.Exps A). Some zs) q)) (one args refl x.0 y.0 x.2 y.2) (row_one c base args x.1 y.1 x.3 y.3) x.4 y.4

  member_one : (k : MemberKey) (base : ℕ) (q : syntax.Member A) → Fine k (member_part q) → (o p : Rewritten (syntax.Member A)) → RewritesMember tells C k base q o → RewritesMember tells D k base q p → o ≡ p
  member_one k base (syntax.field m mods t w init) fine o p x y =
      of_three (λ (q : T) (v : W) (r : Rewritten (Option (tree.Exp A))). joined (λ (u : tree.TypeName A × tree.Word A) z. syntax.field m mods u.0 u.1 z) (joined (λ u z. (u, z)) q v) r)
      (type_one (no_locals k false) (begins m base) t x.0 y.0 x.3 y.3) (word_one (declared_by k) (begins m base) w x.1 y.1 x.4 y.4) (maybe_one (no_locals k (is_static_member begins mods)) (begins m base) init x.2 y.2 x.5 y.5) x.6 y.6
  member_one k base (syntax.method m mods t w ps body) fine o p x y =
      of_four (λ (q : Rewritten (Option (tree.TypeName A))) (v : W) (r : Ps) (s : Ss).
      joined (λ (u : Option (tree.TypeName A) × tree.Word A) (z : List (syntax.Param A) × statement.Stmts A). syntax.method m mods u.0 u.1 z.0 z.1) (joined (λ u z. (u, z)) q v) (joined (λ u z. (u, z)) r s))
      (result_one k (begins m base) t x.0 y.0 x.4 y.4) (word_one (declared_by k) (begins m base) w x.1 y.1 x.5 y.5) (params_one k 0 (begins m base) ps x.2 y.2 x.6 y.6)
      (stmts_one (length ps) (with_parameters k (is_static_member begins mods) ps) (begins m base) body x.3 y.3 x.7 y.7) x.8 y.8
  member_one k base (syntax.constructor m mods w ps args body) fine o p x y =
      of_four (λ (v : W) (q : Ps) (r : Rewritten (Option (tree.Exps A))) (s : Ss).
      joined (λ (u : tree.Word A × List (syntax.Param A)) (z : Option (tree.Exps A) × statement.Stmts A). syntax.constructor m mods u.0 u.1 z.0 z.1) (joined (λ u z. (u, z)) v q) (joined (λ u z. (u, z)) r s))
      (word_one (declared_by k) (begins m base) w x.0 y.0 x.4 y.4) (params_one k 0 (begins m base) ps x.1 y.1 x.5 y.5) (super_one (with_parameters k true ps) (begins m base) args
      (λ es e. agree.super_call k m mods w ps es body (subst (λ (given : Option (tree.Exps A)). Fine k (member_part (syntax.constructor m mods w ps given body))) e fine)) x.2 y.2 x.6 y.6)
      (stmts_one (length ps) (with_parameters k false ps) (begins m base) body x.3 y.3 x.7 y.7) x.8 y.8
  member_one k base (syntax.inner m of) fine o p x y = absurd x

  parent_one : (outer : Option (List ℕ)) (base : ℕ) (t : Option (tree.TypeName A)) (o p : Rewritten (Option (tree.TypeName A))) → RewritesParent tells C outer base t o → RewritesParent tells D outer base t p → o ≡ p
  parent_one outer base None o p x y = x ∙ sym y
  parent_one outer base (Some t) o p x y = of_one (λ (q : T). within (λ (u : tree.TypeName A). Some u) q)
      (type_out (C.parent_qualifier outer base t) (D.parent_qualifier outer base t) (C.parent outer base t) (D.parent outer base t) (agree.parent_qualifier outer base t) (agree.parent outer base t) base t x.0 y.0 x.1 y.1) x.2 y.2

  abbrev H : Type 0
  H = Rewritten (tree.Word A × Option (tree.TypeName A))

  head_one : (outer : Option (List ℕ)) (base : ℕ) (q : syntax.Class A) (o p : H) → RewritesHead tells C outer base q o → RewritesHead tells D outer base q p → o ≡ p
  head_one outer base (syntax.class m mods w t ms) o p x y =
      of_two (λ (v : W) (q : Rewritten (Option (tree.TypeName A))). joined (λ u z. (u, z)) v q) (word_one (class_decl (class_key begins outer w.text)) (begins m base) w x.0 y.0 x.2 y.2) (parent_one outer (begins m base) t x.1 y.1 x.3 y.3) x.4 y.4

  -- ---- programs

  module _ (declarations : List DeclaredItem) (keys : (base : ℕ) (of : ClassKey) (q : syntax.Member A) → HasOne (Declares begins declarations base of q)) where
    keyed : (base : ℕ) (of : ClassKey) (q : syntax.Member A) → ((k : MemberKey) → Declares begins declarations base of q k → Fine k (member_part q)) → (o p : Rewritten (syntax.Member A))
        → ByKey tells C declarations base of q o → ByKey tells D declarations base of q p → o ≡ p
    keyed base of q fine o p x y = member_one x.0 base q (fine x.0 x.1) o p x.2 (subst (λ (k : MemberKey). RewritesMember tells D k base q p) (sym (keys base of q x.0 y.0 x.1 y.1)) y.2)

    -- each member that is written there is fine
    abbrev AllFine : ((MemberKey → ℕ → Part A → Type 0) → MemberKey → Type 0) → Type 0
    AllFine In = (k : MemberKey) (base : ℕ) (part : Part A) → In (IsAt base part) k → Fine k part

    mutual
      unfolding TransformsClass TransformsMembers TransformsOne InClass InMembers InInner

      class_one : (base : ℕ) (outer : Option (List ℕ)) (q : syntax.Class A) → AllFine (λ P. InClass begins declarations P base outer q) → (o p : Rewritten (syntax.Class A)) → RewritesClass tells C declarations base outer q o → RewritesClass tells D declarations base outer q p → o ≡ p
      class_one base outer (syntax.class m mods w t ms) fine o p x y =
          of_two (λ (q : H) (r : Rewritten (syntax.Members A)). joined (λ (u : tree.Word A × Option (tree.TypeName A)) zs. syntax.class m mods u.0 u.1 zs) q r)
          (head_one outer base (syntax.class m mods w t ms) x.0 y.0 x.2 y.2) (members_one (begins m base) (class_key begins outer w.text) ms (λ k b part h. fine k b part (inr h)) x.1 y.1 x.3 y.3) x.4 y.4

      members_one : (base : ℕ) (of : ClassKey) (q : syntax.Members A) → AllFine (λ P. InMembers begins declarations P base of q) → (o p : Rewritten (syntax.Members A)) → RewritesMembers tells C declarations base of q o → RewritesMembers tells D declarations base of q p → o ≡ p
      members_one base of syntax.end fine o p x y = x ∙ sym y
      members_one base of (syntax.more q qs) fine o p x y =
          of_two (λ (r : Rewritten (syntax.Member A)) (s : Rewritten (syntax.Members A)). joined (λ z zs. syntax.more z zs) r s)
          (one_one base of q (λ k b part h. fine k b part (inl h)) x.0 y.0 x.2 y.2) (members_one base of qs (λ k b part h. fine k b part (inr h)) x.1 y.1 x.3 y.3) x.4 y.4

      one_one : (base : ℕ) (of : ClassKey) (q : syntax.Member A) → AllFine (λ P k. (Declares begins declarations base of q k × P k base (member_part q)) ⊎ InInner begins declarations P base of q k) → (o p : Rewritten (syntax.Member A))
          → RewritesOne tells C declarations base of q o → RewritesOne tells D declarations base of q p → o ≡ p
      one_one base of (syntax.inner m c) fine o p x y =
          of_one (λ (r : Rewritten (syntax.Class A)). within (λ z. syntax.inner m z) r) (class_one (begins m base) (Some of.name) c (λ k b part h. fine k b part (inr h)) x.0 y.0 x.1 y.1) x.2 y.2
      one_one base of (syntax.field m mods t w init) fine o p x y = keyed base of (syntax.field m mods t w init) (λ k d. fine k base _ (inl (d, (refl, refl)))) o p x y
      one_one base of (syntax.method m mods t w ps body) fine o p x y = keyed base of (syntax.method m mods t w ps body) (λ k d. fine k base _ (inl (d, (refl, refl)))) o p x y
      one_one base of (syntax.constructor m mods w ps args body) fine o p x y = keyed base of (syntax.constructor m mods w ps args body) (λ k d. fine k base _ (inl (d, (refl, refl)))) o p x y

    classes_one : (base : ℕ) (cs : List (syntax.Class A)) → AllFine (λ P. InClasses begins declarations P base cs) → (o p : Rewritten (List (syntax.Class A))) → RewritesClasses tells C declarations base cs o → RewritesClasses tells D declarations base cs p → o ≡ p
    classes_one base [] fine o p x y = x ∙ sym y
    classes_one base (c ∷ cs) fine o p x y =
        of_two (λ (q : Rewritten (syntax.Class A)) (r : Rewritten (List (syntax.Class A))). joined (λ z zs. z ∷ zs) q r)
        (class_one base None c (λ k b part h. fine k b part (inl h)) x.0 y.0 x.2 y.2) (classes_one base cs (λ k b part h. fine k b part (inr h)) x.1 y.1 x.3 y.3) x.4 y.4

    abbrev UnitFine : syntax.Unit A → Type 0
    UnitFine u = AllFine (λ P. InClasses begins declarations P (begins u.mark 0) u.classes)

    unit_one : (u : syntax.Unit A) → UnitFine u → (o p : Rewritten (syntax.Unit A)) → RewritesUnit tells C declarations u o → RewritesUnit tells D declarations u p → o ≡ p
    unit_one u fine o p x y = of_one (λ (q : Rewritten (List (syntax.Class A))). within (λ cs. record { mark = u.mark; package_name = u.package_name; classes = cs }) q) (classes_one (begins u.mark 0) u.classes fine x.0 y.0 x.1 y.1) x.2 y.2

    pub units_one : (us : List (syntax.Unit A)) → ((n : ℕ) (u : syntax.Unit A) → slice_get us n ≡ Some u → UnitFine u) → (os ps : List (Rewritten (syntax.Unit A))) → RewritesUnits tells C declarations us os → RewritesUnits tells D declarations us ps → os ≡ ps
    units_one [] fine os ps x y = x ∙ sym y
    units_one (u ∷ us) fine os ps x y =
        of_two (λ (o : Rewritten (syntax.Unit A)) (rest : List (Rewritten (syntax.Unit A))). o ∷ rest) (unit_one u (fine zero u refl) x.0 y.0 x.2 y.2) (units_one us (λ n v e. fine (suc n) v e) x.1 y.1 x.3 y.3) x.4 y.4
