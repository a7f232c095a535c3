-- Where what is chosen for each word is one thing, and where spots make one thing, an expression, a
-- statement and a list are rewritten in one way.
use Rattle.std.proofs.Common.{◌≡◌, ℕ, suc, ◌+◌, List, Option, Some, None, true, sym, ap, ◌∙◌}
use Rattle.jr_text.specs.declared.spans.Span.{Span}
use Rattle.jr_ast.specs.Tree as tree
use Rattle.jr_ast.specs.StatementTree as statement
use Rattle.jr_ast.specs.MemberTree as syntax
use Rattle.jr_grammar.specs.Shape.{unsigned_level, sign_level, rank_of}
use Rattle.jr_table.specs.Decls.{MemberKey, Decl, local_decl}
use Rattle.jr_table.specs.Binding.{Role, value, left}
use Rattle.jr_table.specs.Binding as role
use Rattle.jr_table.specs.Context.{Context, local_of, local_key, in_own, after, locals_in}
use Rattle.jr_table.specs.HeadRules.{with_parameters}
use Rattle.jr_table.specs.Errors.{Part, member_part}
use Rattle.jr_rewrite.specs.Respellings.{Choice}
use Rattle.jr_rewrite.specs.Rewritten.{Rewritten, within, joined, word_out, name_out, field_out, super_field_out, Called, simple_call_out, dotted_call_out, simple_type_out, qualified_type_out}
use Rattle.jr_rewrite.specs.Spots.{Asks, level, a_target, a_statement, Spotted}
use Rattle.jr_rewrite.specs.Rewrites.{Choosing, DeclaredOut, TypeOut, RewritesType, with_losses, TransformsExp, TransformsTarget, TransformsRow, TransformsPart, TransformsMaybe, TransformsStmt, TransformsElse, TransformsStmts, TransformsList}
use Rattle.jr_rewrite.proofs.ExpressionShapes.{this_is}
use Rattle.jr_one_plans.proofs.OneSpot.{SpottedAgree, or_part, or_operand, or_list}

-- two choose the same; for a written `super(..)` where its member is fine
pub record Agree {A : Type 0} (Fine : MemberKey → Part A → Type 0) (C D : Choosing A) : Type 0 where
  pub expression : (c : Context) (r : Role) (base : ℕ) (e : tree.Exp A) (h k : Choice) → C.expression c r base e h → D.expression c r base e k → h ≡ k
  pub creation : (c : Context) (base : ℕ) (e : tree.Exp A) (h k : Choice) → C.creation c base e h → D.creation c base e k → h ≡ k
  pub super_call : (k : MemberKey) (m : A) (mods : List (syntax.Modifier A)) (w : tree.Word A) (ps : List (syntax.Param A)) (args : tree.Exps A) (body : statement.Stmts A)
      → Fine k (member_part (syntax.constructor m mods w ps (Some args) body)) → (h i : Choice) → C.super_call (with_parameters k true ps) args h → D.super_call (with_parameters k true ps) args i → h ≡ i
  pub qualifier : (c : Context) (base : ℕ) (t : tree.TypeName A) (h k : Choice) → C.qualifier c base t h → D.qualifier c base t k → h ≡ k
  pub type : (c : Context) (base : ℕ) (t : tree.TypeName A) (h k : Choice) → C.type c base t h → D.type c base t k → h ≡ k
  pub parent_qualifier : (outer : Option (List ℕ)) (base : ℕ) (t : tree.TypeName A) (h k : Choice) → C.parent_qualifier outer base t h → D.parent_qualifier outer base t k → h ≡ k
  pub parent : (outer : Option (List ℕ)) (base : ℕ) (t : tree.TypeName A) (h k : Choice) → C.parent outer base t h → D.parent outer base t k → h ≡ k
  pub declared : (d : Decl) (w : tree.Word A) (h k : Choice) → C.declared d w h → D.declared d w k → h ≡ k

-- ---- a whole of parts that are the same

pub of_one : {T U : Type 0} (F : T → U) {s t : T} {o p : U} → s ≡ t → o ≡ F s → p ≡ F t → o ≡ p
of_one F e x y = x ∙ ap F e ∙ sym y

pub of_two : {S T U : Type 0} (F : S → T → U) {q r : S} {s t : T} {o p : U} → q ≡ r → s ≡ t → o ≡ F q s → p ≡ F r t → o ≡ p
of_two F d e x y = x ∙ (λ i. F (d i) (e i)) ∙ sym y

pub of_three : {R S T U : Type 0} (F : R → S → T → U) {l m : R} {q r : S} {s t : T} {o p : U} → l ≡ m → q ≡ r → s ≡ t → o ≡ F l q s → p ≡ F m r t → o ≡ p
of_three F c d e x y = x ∙ (λ i. F (c i) (d i) (e i)) ∙ sym y

pub of_four : {Q R S T U : Type 0} (F : Q → R → S → T → U) {j k : Q} {l m : R} {q r : S} {s t : T} {o p : U} → j ≡ k → l ≡ m → q ≡ r → s ≡ t → o ≡ F j l q s → p ≡ F k m r t → o ≡ p
of_four F b c d e x y = x ∙ (λ i. F (b i) (c i) (d i) (e i)) ∙ sym y

module _ {A : Type 0} (tells : A → ℕ → Span) (Fine : MemberKey → Part A → Type 0) (C D : Choosing A) (K L : Spotted A) (agree : Agree Fine C D) (spots : SpottedAgree K L) where
  abbrev begins : A → ℕ → ℕ
  begins m base = (tells m base).from

  abbrev E : Type 0
  E = Rewritten (tree.Exp A)

  abbrev Es : Type 0
  Es = Rewritten (tree.Exps A)

  abbrev T : Type 0
  T = Rewritten (tree.TypeName A)

  abbrev W : Type 0
  W = Rewritten (tree.Word A)

  pub word_one : (d : Decl) (at : ℕ) (w : tree.Word A) (o p : W) → DeclaredOut tells C d at w o → DeclaredOut tells D d at w p → o ≡ p
  word_one d at w o p x y = of_one (λ (h : Choice). word_out tells h at w) (agree.declared d w x.0 y.0 x.1 y.1) x.2 y.2

  pub type_out : (P Q M N : Choice → Type 0) → ((h k : Choice) → P h → Q k → h ≡ k) → ((h k : Choice) → M h → N k → h ≡ k) → (base : ℕ) (t : tree.TypeName A) (o p : T)
      → TypeOut tells C P M base t o → TypeOut tells D Q N base t p → o ≡ p
  type_out P Q M N front own base (tree.int m) o p x y = x ∙ sym y
  type_out P Q M N front own base (tree.boolean m) o p x y = x ∙ sym y
  type_out P Q M N front own base (tree.named m None w) o p x y = of_one (λ (h : Choice). simple_type_out tells h m base w) (own x.0 y.0 x.1 y.1) x.2 y.2
  type_out P Q M N front own base (tree.named m (Some v) w) o p x y = of_two (λ (g h : Choice). qualified_type_out tells g h m base v w) (front x.0 y.0 x.2 y.2) (own x.1 y.1 x.3 y.3) x.4 y.4

  pub type_one : (c : Context) (base : ℕ) (t : tree.TypeName A) (o p : T) → RewritesType tells C c base t o → RewritesType tells D c base t p → o ≡ p
  type_one c base t = type_out (C.qualifier c base t) (D.qualifier c base t) (C.type c base t) (D.type c base t) (agree.qualifier c base t) (agree.type c base t) base t

  -- ---- expressions

  mutual
    unfolding TransformsExp TransformsTarget TransformsRow

    pub exp_one : (c : Context) (r : Role) (base : ℕ) (e : tree.Exp A) (o p : E) → TransformsExp tells C K c r base e o → TransformsExp tells D L c r base e p → o ≡ p
    exp_one c r base (tree.number m n) o p x y = x ∙ sym y
    exp_one c r base (tree.truth m b) o p x y = x ∙ sym y
    exp_one c r base (tree.null m) o p x y = x ∙ sym y
    exp_one c r base (tree.string m s) o p x y = x ∙ sym y
    exp_one c r base (tree.this m) o p x y = this_is K x ∙ sym (this_is L y)
    exp_one c r base (tree.name m w) o p x y = of_one (λ (h : Choice). name_out tells h m base w) (agree.expression c r base (tree.name m w) x.0 y.0 x.1 y.1) x.2 y.2
    exp_one c r base (tree.field m e w) o p x y =
        let h = agree.expression c r base (tree.field m e w) x.0 y.0 x.2 y.2 in
        of_two (λ (h : Choice) (q : E). field_out tells h m base e q w) h (or_operand K L spots x.0 y.0 h c (begins m base) e x.1 y.1 x.3 y.3 (exp_one c left (begins m base) e x.1 y.1)) x.4 y.4
    exp_one c r base (tree.super_field m w) o p x y = of_one (λ (h : Choice). super_field_out tells h m base w) (agree.expression c r base (tree.super_field m w) x.0 y.0 x.1 y.1) x.2 y.2
    exp_one c r base (tree.class_literal m t) o p x y = of_one (λ (q : T). within (λ u. tree.class_literal m u) q) (type_one c (begins m base) t x.0 y.0 x.1 y.1) x.2 y.2
    exp_one c r base (tree.call m to w args) o p x y =
        let h = agree.expression c r base (tree.call m to w args) x.0 y.0 x.3 y.3 in
        of_two (λ (q : Rewritten (Called tells)) (es : Es). joined (λ (t : Called tells) es. tree.call m t.target t.word es) q es)
        (target_one c x.0 y.0 h m base to w x.1 y.1 x.4 y.4) (row_one c (begins m base) args x.2 y.2 x.5 y.5) x.6 y.6
    exp_one c r base (tree.super_call m w args) o p x y =
        of_two (λ (h : Choice) (q : Es). joined (λ v es. tree.super_call m v es) (word_out tells h (begins m base) w) q)
        (agree.expression c r base (tree.super_call m w args) x.0 y.0 x.2 y.2) (row_one c (begins m base) args x.1 y.1 x.3 y.3) x.4 y.4
    exp_one c r base (tree.create m t args) o p x y =
        of_three (λ (h : Choice) (q : T) (es : Es). with_losses tells C h (joined (λ u es. tree.create m u es) q es))
        (agree.creation c base (tree.create m t args) x.0 y.0 x.3 y.3) (type_one c (begins m base) t x.1 y.1 x.4 y.4) (row_one c (begins m base) args x.2 y.2 x.5 y.5) x.6 y.6
    exp_one c r base (tree.paren m e) o p x y = of_one (λ (q : E). within (λ z. tree.paren m z) q) (or_part K L spots (level 0) c value (begins m base) e x.0 y.0 x.1 y.1 (exp_one c value (begins m base) e x.0 y.0)) x.2 y.2
    exp_one c r base (tree.cast m t e) o p x y =
        of_two (λ (q : T) (s : E). joined (λ u z. tree.cast m u z) q s) (type_one c (begins m base) t x.0 y.0 x.2 y.2) (or_part K L spots (level unsigned_level) c value (begins m base) e x.1 y.1 x.3 y.3 (exp_one c value (begins m base) e x.1 y.1)) x.4 y.4
    exp_one c r base (tree.unary m op e) o p x y = of_one (λ (q : E). within (λ z. tree.unary m op z) q) (or_part K L spots (level sign_level) c value (begins m base) e x.0 y.0 x.1 y.1 (exp_one c value (begins m base) e x.0 y.0)) x.2 y.2
    exp_one c r base (tree.bump m op e) o p x y = of_one (λ (q : E). within (λ z. tree.bump m op z) q) (or_part K L spots (a_target) c value (begins m base) e x.0 y.0 x.1 y.1 (exp_one c value (begins m base) e x.0 y.0)) x.2 y.2
    exp_one c r base (tree.binary m op e f) o p x y =
        of_two (λ (q s : E). joined (λ u v. tree.binary m op u v) q s) (or_part K L spots (level (rank_of op)) c value (begins m base) e x.0 y.0 x.2 y.2 (exp_one c value (begins m base) e x.0 y.0)) (or_part K L spots (level (suc (rank_of op))) c value (begins m base) f x.1 y.1 x.3 y.3 (exp_one c value (begins m base) f x.1 y.1)) x.4 y.4
    exp_one c r base (tree.assign m e f) o p x y =
        of_two (λ (q s : E). joined (λ u v. tree.assign m u v) q s) (or_part K L spots (a_target) c value (begins m base) e x.0 y.0 x.2 y.2 (exp_one c value (begins m base) e x.0 y.0)) (or_part K L spots (level 0) c value (begins m base) f x.1 y.1 x.3 y.3 (exp_one c value (begins m base) f x.1 y.1)) x.4 y.4
    exp_one c r base (tree.compound m op e f) o p x y =
        of_two (λ (q s : E). joined (λ u v. tree.compound m op u v) q s) (or_part K L spots (a_target) c value (begins m base) e x.0 y.0 x.2 y.2 (exp_one c value (begins m base) e x.0 y.0)) (or_part K L spots (level 0) c value (begins m base) f x.1 y.1 x.3 y.3 (exp_one c value (begins m base) f x.1 y.1)) x.4 y.4

    target_one : (c : Context) (h k : Choice) → h ≡ k → (m : A) (base : ℕ) (to : tree.Target A) (w : tree.Word A) (o p : Rewritten (Called tells)) → TransformsTarget tells C K c h m base to w o → TransformsTarget tells D L c k m base to w p → o ≡ p
    target_one c h k same m base tree.no_target w o p x y = of_one (λ (h : Choice). simple_call_out tells h m base w) same x y
    target_one c h k same m base (tree.on e) w o p x y = of_two (λ (h : Choice) (q : E). dotted_call_out tells h m base e q w) same (or_operand K L spots h k same c (begins m base) e x.0 y.0 x.1 y.1 (exp_one c left (begins m base) e x.0 y.0)) x.2 y.2

    pub row_one : (c : Context) (at : ℕ) (es : tree.Exps A) (o p : Es) → TransformsRow tells C K c at es o → TransformsRow tells D L c at es p → o ≡ p
    row_one c at tree.end o p x y = x ∙ sym y
    row_one c at (tree.more e es) o p x y = of_two (λ (q : E) (s : Es). joined (λ z zs. tree.more z zs) q s) (or_part K L spots (level 0) c value at e x.0 y.0 x.2 y.2 (exp_one c value at e x.0 y.0)) (row_one c at es x.1 y.1 x.3 y.3) x.4 y.4

  pub maybe_one : (c : Context) (at : ℕ) (e : Option (tree.Exp A)) (o p : Rewritten (Option (tree.Exp A))) → TransformsMaybe tells C K c at e o → TransformsMaybe tells D L c at e p → o ≡ p
  maybe_one c at None o p x y = x ∙ sym y
  maybe_one c at (Some e) o p x y = of_one (λ (q : E). within (λ (z : tree.Exp A). Some z) q) (or_part K L spots (level 0) c value at e x.0 y.0 x.1 y.1 (exp_one c value at e x.0 y.0)) x.2 y.2

  -- ---- statements

  abbrev S : Type 0
  S = Rewritten (statement.Stmt A)

  abbrev Ss : Type 0
  Ss = Rewritten (statement.Stmts A)

  mutual
    unfolding TransformsStmt TransformsElse TransformsStmts

    pub stmt_one : (n : ℕ) (c : Context) (base : ℕ) (s : statement.Stmt A) (o p : S) → TransformsStmt tells C K n c base s o → TransformsStmt tells D L n c base s p → o ≡ p
    stmt_one n c base (statement.local m f t w e) o p x y =
        of_three (λ (q : T) (v : W) (s : E). joined (λ (u : tree.TypeName A × tree.Word A) z. statement.local m f u.0 u.1 z) (joined (λ u z. (u, z)) q v) s)
        (type_one c (begins m base) t x.0 y.0 x.3 y.3) (word_one (local_decl (local_key c n)) (begins m base) w x.1 y.1 x.4 y.4) (or_part K L spots (level 0) (in_own c (local_of c n f t w)) value (begins m base) e x.2 y.2 x.5 y.5 (exp_one (in_own c (local_of c n f t w)) value (begins m base) e x.2 y.2)) x.6 y.6
    stmt_one n c base (statement.eval m e) o p x y = of_one (λ (q : E). within (λ z. statement.eval m z) q) (or_part K L spots (a_statement) c role.statement (begins m base) e x.0 y.0 x.1 y.1 (exp_one c role.statement (begins m base) e x.0 y.0)) x.2 y.2
    stmt_one n c base (statement.branch m e s other) o p x y =
        of_three (λ (q : E) (r : S) (z : Rewritten (statement.Else A)). joined (λ (u : tree.Exp A × statement.Stmt A) v. statement.branch m u.0 u.1 v) (joined (λ u v. (u, v)) q r) z)
        (or_part K L spots (level 0) c value (begins m base) e x.0 y.0 x.3 y.3 (exp_one c value (begins m base) e x.0 y.0)) (stmt_one n c (begins m base) s x.1 y.1 x.4 y.4) (else_one (n + locals_in s) c (begins m base) other x.2 y.2 x.5 y.5) x.6 y.6
    stmt_one n c base (statement.loop m e s) o p x y =
        of_two (λ (q : E) (r : S). joined (λ u v. statement.loop m u v) q r) (or_part K L spots (level 0) c value (begins m base) e x.0 y.0 x.2 y.2 (exp_one c value (begins m base) e x.0 y.0)) (stmt_one n c (begins m base) s x.1 y.1 x.3 y.3) x.4 y.4
    stmt_one n c base (statement.return m e) o p x y = of_one (λ (q : Rewritten (Option (tree.Exp A))). within (λ z. statement.return m z) q) (maybe_one c (begins m base) e x.0 y.0 x.1 y.1) x.2 y.2
    stmt_one n c base (statement.block m body) o p x y = of_one (λ (q : Ss). within (λ z. statement.block m z) q) (or_list K L spots n c (begins m base) body x.0 y.0 x.1 y.1 (stmts_one n c (begins m base) body x.0 y.0)) x.2 y.2
    stmt_one n c base (statement.sync m e body) o p x y =
        of_two (λ (q : E) (r : Ss). joined (λ u v. statement.sync m u v) q r) (or_part K L spots (level 0) c value (begins m base) e x.0 y.0 x.2 y.2 (exp_one c value (begins m base) e x.0 y.0)) (or_list K L spots n c (begins m base) body x.1 y.1 x.3 y.3 (stmts_one n c (begins m base) body x.1 y.1)) x.4 y.4
    stmt_one n c base (statement.empty m) o p x y = x ∙ sym y

    else_one : (n : ℕ) (c : Context) (base : ℕ) (s : statement.Else A) (o p : Rewritten (statement.Else A)) → TransformsElse tells C K n c base s o → TransformsElse tells D L n c base s p → o ≡ p
    else_one n c base statement.no_else o p x y = x ∙ sym y
    else_one n c base (statement.otherwise s) o p x y = of_one (λ (q : S). within (λ z. statement.otherwise z) q) (stmt_one n c base s x.0 y.0 x.1 y.1) x.2 y.2

    pub stmts_one : (n : ℕ) (c : Context) (base : ℕ) (s : statement.Stmts A) (o p : Ss) → TransformsStmts tells C K n c base s o → TransformsStmts tells D L n c base s p → o ≡ p
    stmts_one n c base statement.end o p x y = x ∙ sym y
    stmts_one n c base (statement.more s ss) o p x y =
        of_two (λ (q : S) (r : Ss). joined (λ z zs. statement.more z zs) q r) (stmt_one n c base s x.0 y.0 x.2 y.2) (or_list K L spots (n + locals_in s) (after n c s) base ss x.1 y.1 x.3 y.3 (stmts_one (n + locals_in s) (after n c s) base ss x.1 y.1)) x.4 y.4

  -- an expression of which so much is asked, and a list
  pub part_one : (k : Asks) (c : Context) (r : Role) (base : ℕ) (e : tree.Exp A) (o p : E) → TransformsPart tells C K k c r base e o → TransformsPart tells D L k c r base e p → o ≡ p
  part_one k c r base e o p x y = or_part K L spots k c r base e o p x y (exp_one c r base e o p)

  pub list_one : (n : ℕ) (c : Context) (base : ℕ) (s : statement.Stmts A) (o p : Ss) → TransformsList tells C K n c base s o → TransformsList tells D L n c base s p → o ≡ p
  list_one n c base s o p x y = or_list K L spots n c base s o p x y (stmts_one n c base s o p)
