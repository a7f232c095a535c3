-- The places of a statement that is rewritten.
use Rattle.std.proofs.Common.{◌≡◌, ℕ, ◌+◌, Some, None, refl}
use Rattle.std.specs.Prelude.{◌⊎◌}
use Rattle.jr_text.specs.declared.spans.Span.{Span}
use Rattle.jr_lex.specs.declared.items.Symbol.TheVariants.{CloseParen}
use Rattle.jr_ast.specs.Tree as tree
use Rattle.jr_ast.specs.StatementTree as statement
use Rattle.jr_grammar.specs.Layout.{itself}
use Rattle.jr_grammar.specs.Tokens.{symbol}
use Rattle.jr_grammar.specs.Stands.{Tokens, IsAlone, InOrder, Stands}
use Rattle.jr_grammar.specs.ExpressionLayout.{word_layout, type_layout, exp_layout}
use Rattle.jr_grammar.specs.StatementLayout.{stmt_layout, else_layout, stmts_layout}
use Rattle.jr_table.specs.Decls.{Decl, local_decl}
use Rattle.jr_table.specs.Context.{Context, local_of, local_key, in_own, after, locals_in}
use Rattle.jr_table.specs.Binding.{value}
use Rattle.jr_table.specs.Binding as role
use Rattle.jr_rewrite.specs.Rewritten.{Rewritten, joined, word_out}
use Rattle.jr_rewrite.specs.Rewrites.{Choosing, DeclaredOut, RewritesStmt, RewritesElse, RewritesStmts, TransformsStmt, TransformsElse, TransformsStmts}
use Rattle.jr_reference_changes.specs.Places.{Place, of_declared, WrittenStays, ExpStays}
use Rattle.jr_reference_changes.specs.PlacesInFiles.{StmtStays, ElseStays, StmtsStays}
use Rattle.jr_reference_changes.proofs.PlacesJoined.{both, OneEach}
use Rattle.jr_rewrite.specs.Suitable.{AreSuitable}
use Rattle.jr_reference_changes.proofs.PlaceNames.{word_lies}
use Rattle.jr_reference_changes.proofs.PlacesApart.{HasWord, Placed, plain_placed, moved_placed, within_placed, turn, pass, only, node, join, own_placed, word_starts, assoc}
use Rattle.jr_reference_changes.proofs.PlacesOfExpressions.{written_places, exp_places}

-- what is rewritten of two parts, as a pair
abbrev pub pair : {T U : Type 0} → Rewritten T → Rewritten U → Rewritten (T × U)
pair p q = joined (λ u v. (u, v)) p q

module _ (C : Choosing Span) (one : OneEach itself C) (suits : AreSuitable C) where
  abbrev Of : {T : Type 0} → (L : Tokens → Type 0) → (Place Span → Type 0) → Rewritten T → Type 0
  Of {T} L P o = Placed C HasWord L P {T = T} o

  -- a declared name
  pub declared_places : (d : Decl) (at : ℕ) (w : tree.Word Span) (o : Rewritten (tree.Word Span)) → DeclaredOut itself C d at w o → Of (Stands (word_layout w)) (λ s. s ≡ of_declared d at w) o
  declared_places d at w o (h, chosen, is) = moved_placed C _ o (word_out itself h at w) is (own_placed C one (of_declared d at w) h chosen refl (word_out itself h at w) (word_starts w) (λ ps rising l. word_lies w h ps l) refl refl refl)

  mutual
    unfolding TransformsStmt TransformsElse TransformsStmts StmtStays ElseStays StmtsStays

    pub stmt_places : (n : ℕ) (c : Context) (b : ℕ) (x : statement.Stmt Span) (q : Rewritten (statement.Stmt Span)) → RewritesStmt itself C n c b x q → Of (Stands (stmt_layout x)) (StmtStays itself C n c b x) q
    stmt_places n c b (statement.local m f t w e) q (p, v, z, types, declared, inner, is) =
        let W : Place Span → Type 0 = WrittenStays itself C c m.from t in
        let D : Place Span → Type 0 = λ s. s ≡ of_declared (local_decl (local_key c n)) m.from w in
        let E : Place Span → Type 0 = ExpStays itself C (in_own c (local_of c n f t w)) value m.from e in
        let front : Of (InOrder (Stands (type_layout t)) (Stands (word_layout w))) (λ s. W s ⊎ D s) (pair p v) = join C W D both p v (written_places C one suits c m.from t p types) (declared_places (local_decl (local_key c n)) m.from w v declared) in
        let whole : Rewritten (statement.Stmt Span) = joined (λ (u : tree.TypeName Span × tree.Word Span) x. statement.local m f u.0 u.1 x) (pair p v) z in
        moved_placed C _ q whole is
        (node C (pass C (turn C (λ s. (W s ⊎ D s) ⊎ E s) whole assoc
        (join C (λ s. W s ⊎ D s) E (λ (u : tree.TypeName Span × tree.Word Span) x. statement.local m f u.0 u.1 x) (pair p v) z front (pass C (only C (exp_places C one suits (in_own c (local_of c n f t w)) value m.from e z inner)))))))
    stmt_places n c b (statement.eval m e) q (p, inner, is) = moved_placed C _ q _ is (node C (only C (within_placed C (ExpStays itself C c role.statement m.from e) (λ x. statement.eval m x) p (exp_places C one suits c role.statement m.from e p inner))))
    stmt_places n c b (statement.branch m e x other) q (p, y, z, inner, one_side, other_side, is) =
        let E : Place Span → Type 0 = ExpStays itself C c value m.from e in
        let X : Place Span → Type 0 = StmtStays itself C n c m.from x in
        let O : Place Span → Type 0 = ElseStays itself C (n + locals_in x) c m.from other in
        let front : Of (InOrder (InOrder (Stands (exp_layout e)) (IsAlone (symbol CloseParen))) (Stands (stmt_layout x))) (λ s. E s ⊎ X s) (pair p y) = join C E X both p y (only C (exp_places C one suits c value m.from e p inner)) (stmt_places n c m.from x y one_side) in
        let whole : Rewritten (statement.Stmt Span) = joined (λ (u : tree.Exp Span × statement.Stmt Span) v. statement.branch m u.0 u.1 v) (pair p y) z in
        moved_placed C _ q whole is
        (node C (pass C (pass C (turn C (λ s. (E s ⊎ X s) ⊎ O s) whole (λ ps h. assoc ps (assoc ps h))
        (join C (λ s. E s ⊎ X s) O (λ (u : tree.Exp Span × statement.Stmt Span) v. statement.branch m u.0 u.1 v) (pair p y) z front (only C (else_places (n + locals_in x) c m.from other z other_side)))))))
    stmt_places n c b (statement.loop m e x) q (p, y, inner, body, is) = moved_placed C _ q _ is
        (node C (pass C (pass C (join C (ExpStays itself C c value m.from e) (StmtStays itself C n c m.from x) (λ u v. statement.loop m u v) p y (exp_places C one suits c value m.from e p inner) (pass C (only C (stmt_places n c m.from x y body)))))))
    stmt_places n c b (statement.return m None) q (p, inner, is) = moved_placed C _ q _ is (within_placed C (λ s. ⊥) (λ x. statement.return m x) p (moved_placed C (λ s. ⊥) p _ inner (plain_placed C None)))
    stmt_places n c b (statement.return m (Some e)) q (p, (o, inner, some), is) = moved_placed C _ q _ is
        (node C (pass C (only C (within_placed C (ExpStays itself C c value m.from e) (λ x. statement.return m x) p (moved_placed C (ExpStays itself C c value m.from e) p _ some
        (within_placed C (ExpStays itself C c value m.from e) (λ (x : tree.Exp Span). Some x) o (exp_places C one suits c value m.from e o inner)))))))
    stmt_places n c b (statement.block m body) q (p, inner, is) = moved_placed C _ q _ is (node C (pass C (only C (within_placed C (StmtsStays itself C n c m.from body) (λ x. statement.block m x) p (stmts_places n c m.from body p inner)))))
    stmt_places n c b (statement.sync m e body) q (p, y, inner, rest, is) = moved_placed C _ q _ is
        (node C (pass C (pass C (join C (ExpStays itself C c value m.from e) (StmtsStays itself C n c m.from body) (λ u v. statement.sync m u v) p y (exp_places C one suits c value m.from e p inner) (pass C (pass C (only C (stmts_places n c m.from body y rest))))))))
    stmt_places n c b (statement.empty m) q is = moved_placed C _ q _ is (plain_placed C (statement.empty m))

    else_places : (n : ℕ) (c : Context) (b : ℕ) (x : statement.Else Span) (q : Rewritten (statement.Else Span)) → RewritesElse itself C n c b x q → Of (Stands (else_layout x)) (ElseStays itself C n c b x) q
    else_places n c b statement.no_else q is = moved_placed C _ q _ is (plain_placed C statement.no_else)
    else_places n c b (statement.otherwise x) q (p, inner, is) = moved_placed C _ q _ is (pass C (only C (within_placed C (StmtStays itself C n c b x) (λ y. statement.otherwise y) p (stmt_places n c b x p inner))))

    pub stmts_places : (n : ℕ) (c : Context) (b : ℕ) (xs : statement.Stmts Span) (q : Rewritten (statement.Stmts Span)) → RewritesStmts itself C n c b xs q → Of (Stands (stmts_layout xs)) (StmtsStays itself C n c b xs) q
    stmts_places n c b statement.end q is = moved_placed C _ q _ is (plain_placed C statement.end)
    stmts_places n c b (statement.more x xs) q (p, z, inner, rest, is) = moved_placed C _ q _ is
        (join C (StmtStays itself C n c b x) (StmtsStays itself C (n + locals_in x) (after n c x) b xs) (λ y ys. statement.more y ys) p z (stmt_places n c b x p inner) (only C (stmts_places (n + locals_in x) (after n c x) b xs z rest)))
