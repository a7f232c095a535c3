-- What stands along one tree stands along each that is equal to it but for its marks.
use Rattle.std.proofs.Common.{◌≡◌, ℕ, ◌+◌, Bool, true, Option, Some, None, refl, sym, ap, ◌∙◌, subst, inl, inr}
use Rattle.jr_ast.specs.Tree as tree
use Rattle.jr_ast.specs.StatementTree as statement
use Rattle.jr_ast.specs.Remarked.{map_exp, map_exps, map_target, map_stmt, map_else, map_stmts}
use Rattle.jr_grammar.specs.Bare.{Bare, bare, bare_word, bare_type, bare_target, bare_args, bare_stmt, bare_stmts}
use Rattle.jr_table.specs.Context.{Context, local_of, local_key, local_type, written, in_own, after, locals_in, with_local}
use Rattle.jr_table.specs.Binding.{Role, value, left}
use Rattle.jr_table.specs.Binding as role
use Rattle.jr_rewrite.specs.Along.{IsClassWords, OperandAlong, Along, AlongTarget, AlongRow, AlongMaybe, AlongStmt, AlongElse, AlongStmts}
use Rattle.jr_rewrite.proofs.BareForms.{bare_else, bare_maybe, number_back, truth_back, null_back, string_back, name_back, field_back, this_back, class_literal_back, call_back, super_call_back, create_back, paren_back, cast_back, unary_back, bump_back, binary_back, assign_back, compound_back, no_target_back, on_back, end_back, more_back, none_back, some_back, local_back_stmt, eval_back_stmt, branch_back_stmt, loop_back_stmt, return_back_stmt, block_back_stmt, sync_back_stmt, empty_back_stmt, no_else_back, otherwise_back, end_back_stmts, more_back_stmts}

-- ---- the parts of what is known

local_type_bare : {B D : Type 0} (t : tree.TypeName B) (u : tree.TypeName D) → bare_type t ≡ bare_type u → local_type t ≡ local_type u
local_type_bare (tree.int k) (tree.int l) q = refl
local_type_bare (tree.boolean k) (tree.boolean l) q = refl
local_type_bare (tree.named k None v) (tree.named l None w) q = (let words : bare_word v ≡ bare_word w = cc in ap (λ (s : tree.Word Bare). written None s.text) words)
local_type_bare (tree.named k (Some o) v) (tree.named l (Some p) w) q =
    let words : bare_word v ≡ bare_word w = cc in
    let outers : bare_word o ≡ bare_word p = cc in
    (λ i. let outer : tree.Word Bare = outers i in let word : tree.Word Bare = words i in written (Some outer.text) word.text)
local_type_bare (tree.int k) _ q = absurd cc
local_type_bare (tree.boolean k) _ q = absurd cc
local_type_bare (tree.named k None v) _ q = absurd cc
local_type_bare (tree.named k (Some o) v) _ q = absurd cc

local_bare : {B D : Type 0} (c : Context) (n : ℕ) (f : Bool) (t : tree.TypeName B) (u : tree.TypeName D) (v : tree.Word B) (w : tree.Word D) → bare_type t ≡ bare_type u → bare_word v ≡ bare_word w
    → local_of c n f t v ≡ local_of c n f u w
local_bare c n f t u v w q r =
    let words : v.text ≡ w.text = ap (λ (x : tree.Word Bare). x.text) r in
    let types = local_type_bare t u q in
    λ i. record { name = words i; key = local_key c n; is_final = f; type = types i; has_init = true }

after_bare : {B D : Type 0} (n : ℕ) (c : Context) (s : statement.Stmt B) (z : statement.Stmt D) → bare_stmt s ≡ bare_stmt z → after n c s ≡ after n c z
unfolding map_stmt map_else map_stmts
after_bare n c (statement.local m f t w e) (statement.local k g u v x) q =
    let finals : f ≡ g = cc in
    let types : bare_type t ≡ bare_type u = cc in
    let words : bare_word w ≡ bare_word v = cc in
    ap (λ h. with_local c (local_of c n h t w)) finals ∙ ap (with_local c) (local_bare c n g t u w v types words)
after_bare n c (statement.eval m e) (statement.eval k x) q = refl
after_bare n c (statement.branch m e s o) (statement.branch k x z p) q = refl
after_bare n c (statement.loop m e s) (statement.loop k x z) q = refl
after_bare n c (statement.return m e) (statement.return k x) q = refl
after_bare n c (statement.block m s) (statement.block k z) q = refl
after_bare n c (statement.sync m e s) (statement.sync k x z) q = refl
after_bare n c (statement.empty m) (statement.empty k) q = refl
after_bare n c (statement.local m f t w e) _ q = absurd cc
after_bare n c (statement.eval m e) _ q = absurd cc
after_bare n c (statement.branch m e s o) _ q = absurd cc
after_bare n c (statement.loop m e s) _ q = absurd cc
after_bare n c (statement.return m e) _ q = absurd cc
after_bare n c (statement.block m s) _ q = absurd cc
after_bare n c (statement.sync m e s) _ q = absurd cc
after_bare n c (statement.empty m) _ q = absurd cc

-- ---- in front of a dot

words_bare : {B D : Type 0} (y : tree.Exp B) (z : tree.Exp D) → bare y ≡ bare z → IsClassWords y → IsClassWords z
unfolding map_exp map_exps map_target
words_bare y z q (inl h) =
    let b = name_back z (bare_word h.1) (sym q ∙ ap bare h.2) in
    inl (b.0, b.1, b.2)
words_bare y z q (inr h) =
    let b = field_back z (tree.name tt (bare_word h.2)) (bare_word h.3) (sym q ∙ ap bare h.4) in
    let o = name_back b.1 (bare_word h.2) b.4 in
    inr (b.0, o.0, o.1, b.2, subst (λ x. z ≡ tree.field b.0 x b.2) o.2 b.3)

operand_bare : {B D : Type 0} (Old : tree.Exp B → Type 0) (New : tree.Exp D → Type 0) → ((x : tree.Exp B) (z : tree.Exp D) → bare x ≡ bare z → Old x → New z)
    → (y : tree.Exp B) (z : tree.Exp D) → bare y ≡ bare z → OperandAlong Old y → OperandAlong New z
unfolding map_exp map_exps map_target
operand_bare Old New on y z q (inl h) = inl (on y z q h)
operand_bare Old New on y z q (inr (inl h)) =
    let p = paren_back z (tree.cast tt (bare_type h.2) (bare h.3)) (sym q ∙ ap bare h.4) in
    let c = cast_back p.1 (bare_type h.2) (bare h.3) p.3 in
    inr (inl (p.0, c.0, c.1, c.2, subst (λ x. z ≡ tree.paren p.0 x) c.3 p.2, on h.3 c.2 (sym c.5) h.5))
operand_bare Old New on y z q (inr (inr h)) = inr (inr (words_bare y z q h))

-- ---- trees

-- P and T hold of what is equal but for marks, wherever it begins
module _ {A B D : Type 0} (begins : A → ℕ → ℕ) (begins' : B → ℕ → ℕ) (begins'' : D → ℕ → ℕ)
    (P : Context → Context → Role → (base : ℕ) → tree.Exp A → (base' : ℕ) → tree.Exp B → Type 0)
    (T : Context → Context → (base : ℕ) → tree.TypeName A → (base' : ℕ) → tree.TypeName B → Type 0)
    (P' : Context → Context → Role → (base : ℕ) → tree.Exp A → (base' : ℕ) → tree.Exp D → Type 0)
    (T' : Context → Context → (base : ℕ) → tree.TypeName A → (base' : ℕ) → tree.TypeName D → Type 0)
    (p : (c d : Context) (r : Role) (b : ℕ) (e : tree.Exp A) (i j : ℕ) (y : tree.Exp B) (z : tree.Exp D) → bare y ≡ bare z → P c d r b e i y → P' c d r b e j z)
    (t : (c d : Context) (b : ℕ) (u : tree.TypeName A) (i j : ℕ) (y : tree.TypeName B) (z : tree.TypeName D) → bare_type y ≡ bare_type z → T c d b u i y → T' c d b u j z)
  where
    mutual
      unfolding Along AlongTarget AlongRow map_exp map_exps map_target

      pub along_bare : (c d : Context) (r : Role) (b i j : ℕ) (e : tree.Exp A) (y : tree.Exp B) (z : tree.Exp D) → bare y ≡ bare z → Along begins begins' P T c d r b i e y
          → Along begins begins'' P' T' c d r b j e z
      along_bare c d r b i j (tree.number m n) y z q h = number_back z n (sym q ∙ ap bare h.1)
      along_bare c d r b i j (tree.truth m x) y z q h = truth_back z x (sym q ∙ ap bare h.1)
      along_bare c d r b i j (tree.null m) y z q h = null_back z (sym q ∙ ap bare h.1)
      along_bare c d r b i j (tree.string m s) y z q h = string_back z s (sym q ∙ ap bare h.1)
      along_bare c d r b i j (tree.this m) y z q h = this_back z (sym q ∙ ap bare h.1)
      along_bare c d r b i j (tree.class_literal m u) y z q h =
          let k = class_literal_back z (bare_type h.1) (sym q ∙ ap bare h.2) in
          (k.0, k.1, k.2, t c d (begins m b) u (begins' h.0 i) (begins'' k.0 j) h.1 k.1 (sym k.3) h.3)
      along_bare c d r b i j (tree.name m w) y z q h = p c d r b (tree.name m w) i j y z q h
      along_bare c d r b i j (tree.super_field m w) y z q h = p c d r b (tree.super_field m w) i j y z q h
      along_bare c d r b i j (tree.field m e w) y z q (inr h) =
          let k = name_back z (bare_word h.1) (sym q ∙ ap bare h.3) in
          inr (k.0, k.1, h.2, k.2, p c d r b (tree.field m e w) i j (tree.name h.0 h.1) (tree.name k.0 k.1) (sym (ap bare h.3) ∙ q ∙ ap bare k.2) h.4)
      along_bare c d r b i j (tree.field m e w) y z q (inl h) =
          let k = field_back z (bare h.1) (bare_word h.2) (sym q ∙ ap bare h.3) in
          inl (
            k.0,
            k.1,
            k.2,
            k.3,
            operand_bare _ _ (λ x v s g. along_bare c d left (begins m b) (begins' h.0 i) (begins'' k.0 j) e x v s g) h.1 k.1 (sym k.4) h.4,
            p c d r b (tree.field m e w) i j (tree.field h.0 h.1 h.2) (tree.field k.0 k.1 k.2) (sym (ap bare h.3) ∙ q ∙ ap bare k.3) h.5,
          )
      along_bare c d r b i j (tree.call m to w args) y z q h =
          let k = call_back z (bare_target h.1) (bare_word h.2) (bare_args h.3) (sym q ∙ ap bare h.4) in (
            k.0,
            k.1,
            k.2,
            k.3,
            k.4,
            target_bare c d (begins m b) (begins' h.0 i) (begins'' k.0 j) to h.1 k.1 (sym k.5) h.5,
            row_bare c d (begins m b) (begins' h.0 i) (begins'' k.0 j) args h.3 k.3 (sym k.7) h.6,
            p c d r b (tree.call m to w args) i j (tree.call h.0 h.1 h.2 h.3) (tree.call k.0 k.1 k.2 k.3) (sym (ap bare h.4) ∙ q ∙ ap bare k.4) h.7,
          )
      along_bare c d r b i j (tree.super_call m w args) y z q h =
          let k = super_call_back z (bare_word h.1) (bare_args h.2) (sym q ∙ ap bare h.3) in (
            k.0,
            k.1,
            k.2,
            k.3,
            row_bare c d (begins m b) (begins' h.0 i) (begins'' k.0 j) args h.2 k.2 (sym k.5) h.4,
            p c d r b (tree.super_call m w args) i j (tree.super_call h.0 h.1 h.2) (tree.super_call k.0 k.1 k.2) (sym (ap bare h.3) ∙ q ∙ ap bare k.3) h.5,
          )
      along_bare c d r b i j (tree.create m u args) y z q h =
          let k = create_back z (bare_type h.1) (bare_args h.2) (sym q ∙ ap bare h.3) in (
            k.0,
            k.1,
            k.2,
            k.3,
            t c d (begins m b) u (begins' h.0 i) (begins'' k.0 j) h.1 k.1 (sym k.4) h.4,
            row_bare c d (begins m b) (begins' h.0 i) (begins'' k.0 j) args h.2 k.2 (sym k.5) h.5,
            p c d r b (tree.create m u args) i j (tree.create h.0 h.1 h.2) (tree.create k.0 k.1 k.2) (sym (ap bare h.3) ∙ q ∙ ap bare k.3) h.6,
          )
      along_bare c d r b i j (tree.paren m e) y z q h =
          let k = paren_back z (bare h.1) (sym q ∙ ap bare h.2) in
          (k.0, k.1, k.2, along_bare c d value (begins m b) (begins' h.0 i) (begins'' k.0 j) e h.1 k.1 (sym k.3) h.3)
      along_bare c d r b i j (tree.cast m u e) y z q h =
          let k = cast_back z (bare_type h.1) (bare h.2) (sym q ∙ ap bare h.3) in (
            k.0,
            k.1,
            k.2,
            k.3,
            t c d (begins m b) u (begins' h.0 i) (begins'' k.0 j) h.1 k.1 (sym k.4) h.4,
            along_bare c d value (begins m b) (begins' h.0 i) (begins'' k.0 j) e h.2 k.2 (sym k.5) h.5,
          )
      along_bare c d r b i j (tree.unary m op e) y z q h =
          let k = unary_back z op (bare h.1) (sym q ∙ ap bare h.2) in
          (k.0, k.1, k.2, along_bare c d value (begins m b) (begins' h.0 i) (begins'' k.0 j) e h.1 k.1 (sym k.3) h.3)
      along_bare c d r b i j (tree.bump m op e) y z q h =
          let k = bump_back z op (bare h.1) (sym q ∙ ap bare h.2) in
          (k.0, k.1, k.2, along_bare c d value (begins m b) (begins' h.0 i) (begins'' k.0 j) e h.1 k.1 (sym k.3) h.3)
      along_bare c d r b i j (tree.binary m op e f) y z q h =
          let k = binary_back z op (bare h.1) (bare h.2) (sym q ∙ ap bare h.3) in (
            k.0,
            k.1,
            k.2,
            k.3,
            along_bare c d value (begins m b) (begins' h.0 i) (begins'' k.0 j) e h.1 k.1 (sym k.4) h.4,
            along_bare c d value (begins m b) (begins' h.0 i) (begins'' k.0 j) f h.2 k.2 (sym k.5) h.5,
          )
      along_bare c d r b i j (tree.assign m e f) y z q h =
          let k = assign_back z (bare h.1) (bare h.2) (sym q ∙ ap bare h.3) in (
            k.0,
            k.1,
            k.2,
            k.3,
            along_bare c d value (begins m b) (begins' h.0 i) (begins'' k.0 j) e h.1 k.1 (sym k.4) h.4,
            along_bare c d value (begins m b) (begins' h.0 i) (begins'' k.0 j) f h.2 k.2 (sym k.5) h.5,
          )
      along_bare c d r b i j (tree.compound m op e f) y z q h =
          let k = compound_back z op (bare h.1) (bare h.2) (sym q ∙ ap bare h.3) in (
            k.0,
            k.1,
            k.2,
            k.3,
            along_bare c d value (begins m b) (begins' h.0 i) (begins'' k.0 j) e h.1 k.1 (sym k.4) h.4,
            along_bare c d value (begins m b) (begins' h.0 i) (begins'' k.0 j) f h.2 k.2 (sym k.5) h.5,
          )

      target_bare : (c d : Context) (b i j : ℕ) (to : tree.Target A) (y : tree.Target B) (z : tree.Target D) → bare_target y ≡ bare_target z → AlongTarget begins begins' P T c d b i to y
          → AlongTarget begins begins'' P' T' c d b j to z
      target_bare c d b i j tree.no_target y z q (inl h) = inl (no_target_back z (sym q ∙ ap bare_target h))
      target_bare c d b i j tree.no_target y z q (inr (inl h)) =
          let k = on_back z (tree.this tt) (sym q ∙ ap bare_target h.1) in
          let this = this_back k.0 k.2 in
          inr (inl (this.0, subst (λ x. z ≡ tree.on x) this.1 k.1))
      target_bare c d b i j tree.no_target y z q (inr (inr h)) =
          let k = on_back z (bare h.0) (sym q ∙ ap bare_target h.1) in
          inr (inr (k.0, k.1, words_bare h.0 k.0 (sym k.2) h.2))
      target_bare c d b i j (tree.on e) y z q h =
          let k = on_back z (bare h.0) (sym q ∙ ap bare_target h.1) in
          (k.0, k.1, operand_bare _ _ (λ x v s g. along_bare c d left b i j e x v s g) h.0 k.0 (sym k.2) h.2)

      pub row_bare : (c d : Context) (b i j : ℕ) (es : tree.Exps A) (y : tree.Exps B) (z : tree.Exps D) → bare_args y ≡ bare_args z → AlongRow begins begins' P T c d b i es y
          → AlongRow begins begins'' P' T' c d b j es z
      row_bare c d b i j tree.end y z q h = end_back z (sym q ∙ ap bare_args h)
      row_bare c d b i j (tree.more e es) y z q h =
          let k = more_back z (bare h.0) (bare_args h.1) (sym q ∙ ap bare_args h.2) in
          (k.0, k.1, k.2, along_bare c d value b i j e h.0 k.0 (sym k.3) h.3, row_bare c d b i j es h.1 k.1 (sym k.4) h.4)

    pub maybe_bare : (c d : Context) (b i j : ℕ) (e : Option (tree.Exp A)) (y : Option (tree.Exp B)) (z : Option (tree.Exp D)) → bare_maybe y ≡ bare_maybe z
        → AlongMaybe begins begins' P T c d b i e y → AlongMaybe begins begins'' P' T' c d b j e z
    maybe_bare c d b i j None y z q h = none_back z (sym q ∙ ap bare_maybe h)
    maybe_bare c d b i j (Some e) y z q h =
        let k = some_back z (bare h.0) (sym q ∙ ap bare_maybe h.1) in
        (k.0, k.1, along_bare c d value b i j e h.0 k.0 (sym k.2) h.2)

    mutual
      unfolding AlongStmt AlongElse AlongStmts map_stmt map_else map_stmts

      pub stmt_bare : (n : ℕ) (c d : Context) (b i j : ℕ) (s : statement.Stmt A) (y : statement.Stmt B) (z : statement.Stmt D) → bare_stmt y ≡ bare_stmt z
          → AlongStmt begins begins' P T n c d b i s y → AlongStmt begins begins'' P' T' n c d b j s z
      stmt_bare n c d b i j (statement.local m f u w e) y z q h =
          let k = local_back_stmt z f (bare_type h.1) (bare_word h.2) (bare h.3) (sym q ∙ ap bare_stmt h.4) in
          let same = local_bare d n f h.1 k.1 h.2 k.2 (sym k.5) (sym k.6) in
          let there = along_bare (in_own c (local_of c n f u w)) (in_own d (local_of d n f h.1 h.2)) value (begins m b) (begins' h.0 i) (begins'' k.0 j) e h.3 k.3 (sym k.7) h.6 in (
            k.0,
            k.1,
            k.2,
            k.3,
            k.4,
            t c d (begins m b) u (begins' h.0 i) (begins'' k.0 j) h.1 k.1 (sym k.5) h.5,
            subst (λ l. Along begins begins'' P' T' (in_own c (local_of c n f u w)) (in_own d l) value (begins m b) (begins'' k.0 j) e k.3) same there,
          )
      stmt_bare n c d b i j (statement.eval m e) y z q h =
          let k = eval_back_stmt z (bare h.1) (sym q ∙ ap bare_stmt h.2) in
          (k.0, k.1, k.2, along_bare c d role.statement (begins m b) (begins' h.0 i) (begins'' k.0 j) e h.1 k.1 (sym k.3) h.3)
      stmt_bare n c d b i j (statement.branch m e s other) y z q h =
          let k = branch_back_stmt z (bare h.1) (bare_stmt h.2) (bare_else h.3) (sym q ∙ ap bare_stmt h.4) in (
            k.0,
            k.1,
            k.2,
            k.3,
            k.4,
            along_bare c d value (begins m b) (begins' h.0 i) (begins'' k.0 j) e h.1 k.1 (sym k.5) h.5,
            stmt_bare n c d (begins m b) (begins' h.0 i) (begins'' k.0 j) s h.2 k.2 (sym k.6) h.6,
            else_bare (n + locals_in s) c d (begins m b) (begins' h.0 i) (begins'' k.0 j) other h.3 k.3 (sym k.7) h.7,
          )
      stmt_bare n c d b i j (statement.loop m e s) y z q h =
          let k = loop_back_stmt z (bare h.1) (bare_stmt h.2) (sym q ∙ ap bare_stmt h.3) in (
            k.0,
            k.1,
            k.2,
            k.3,
            along_bare c d value (begins m b) (begins' h.0 i) (begins'' k.0 j) e h.1 k.1 (sym k.4) h.4,
            stmt_bare n c d (begins m b) (begins' h.0 i) (begins'' k.0 j) s h.2 k.2 (sym k.5) h.5,
          )
      stmt_bare n c d b i j (statement.return m e) y z q h =
          let k = return_back_stmt z (bare_maybe h.1) (sym q ∙ ap bare_stmt h.2) in
          (k.0, k.1, k.2, maybe_bare c d (begins m b) (begins' h.0 i) (begins'' k.0 j) e h.1 k.1 (sym k.3) h.3)
      stmt_bare n c d b i j (statement.block m body) y z q h =
          let k = block_back_stmt z (bare_stmts h.1) (sym q ∙ ap bare_stmt h.2) in
          (k.0, k.1, k.2, stmts_bare n c d (begins m b) (begins' h.0 i) (begins'' k.0 j) body h.1 k.1 (sym k.3) h.3)
      stmt_bare n c d b i j (statement.sync m e body) y z q h =
          let k = sync_back_stmt z (bare h.1) (bare_stmts h.2) (sym q ∙ ap bare_stmt h.3) in (
            k.0,
            k.1,
            k.2,
            k.3,
            along_bare c d value (begins m b) (begins' h.0 i) (begins'' k.0 j) e h.1 k.1 (sym k.4) h.4,
            stmts_bare n c d (begins m b) (begins' h.0 i) (begins'' k.0 j) body h.2 k.2 (sym k.5) h.5,
          )
      stmt_bare n c d b i j (statement.empty m) y z q h = empty_back_stmt z (sym q ∙ ap bare_stmt h.1)

      else_bare : (n : ℕ) (c d : Context) (b i j : ℕ) (s : statement.Else A) (y : statement.Else B) (z : statement.Else D) → bare_else y ≡ bare_else z
          → AlongElse begins begins' P T n c d b i s y → AlongElse begins begins'' P' T' n c d b j s z
      else_bare n c d b i j statement.no_else y z q h = no_else_back z (sym q ∙ ap bare_else h)
      else_bare n c d b i j (statement.otherwise s) y z q h =
          let k = otherwise_back z (bare_stmt h.0) (sym q ∙ ap bare_else h.1) in
          (k.0, k.1, stmt_bare n c d b i j s h.0 k.0 (sym k.2) h.2)

      pub stmts_bare : (n : ℕ) (c d : Context) (b i j : ℕ) (s : statement.Stmts A) (y : statement.Stmts B) (z : statement.Stmts D) → bare_stmts y ≡ bare_stmts z
          → AlongStmts begins begins' P T n c d b i s y → AlongStmts begins begins'' P' T' n c d b j s z
      stmts_bare n c d b i j statement.end y z q h = end_back_stmts z (sym q ∙ ap bare_stmts h)
      stmts_bare n c d b i j (statement.more s ss) y z q h =
          let k = more_back_stmts z (bare_stmt h.0) (bare_stmts h.1) (sym q ∙ ap bare_stmts h.2) in
          let next = stmts_bare (n + locals_in s) (after n c s) (after n d h.0) b i j ss h.1 k.1 (sym k.4) h.4 in (
            k.0,
            k.1,
            k.2,
            stmt_bare n c d b i j s h.0 k.0 (sym k.3) h.3,
            subst (λ l. AlongStmts begins begins'' P' T' (n + locals_in s) (after n c s) l b j ss k.1) (after_bare n d h.0 k.0 (sym k.3)) next,
          )
