-- A local of a body is declared with an initializer exactly where this stands in the row of the
-- initializers of its locals, in the order of their numbers.
use Rattle.std.proofs.Common.{◌≡◌, ◌⊎◌, inl, inr, ℕ, zero, suc, ◌+◌, ◌==◌, nat_eq, Bool, true, false, List, [], ◌∷◌, ◌++◌, map, length, Option, Some, None, refl, sym, ap, subst, ◌∙◌, arith, length-append}
use Rattle.std.specs.Prelude.{◌↔◌, slice_get, unwrap_or, if◌then◌else◌}
use Rattle.std.proofs.lemmas.Bool.{cases_eq, eq-eqb, ne_eqb}
use Rattle.std.proofs.lemmas.Option.{none-some, same_Some}
use Rattle.jr_text.specs.declared.spans.Span.{Span}
use Rattle.jr_ast.specs.Tree as tree
use Rattle.jr_ast.specs.StatementTree as statement
use Rattle.jr_grammar.specs.StatementShape.{IsNoDeclaration, StmtShaped, ElseShaped, StmtsShaped}
use Rattle.jr_table.specs.Context.{locals_in, locals_in_else, locals_in_row}
use Rattle.jr_never_null.specs.Flags.{init_of}
use Rattle.jr_bind.specs.Programs.{Program}
use Rattle.jr_member_graphs.specs.FlagRows.{nones, behind_nones}
use Rattle.jr_member_graphs.specs.MemberLocals.{stmt_inits, else_inits, stmts_inits}
use Rattle.jr_local_search.specs.Declarations.{Declaration, declarations, declarations_behind, declarations_in, numbered, first_wanted}
use Rattle.jr_local_search.specs.DeclarationLaws.{DeclarationsHaveWays, WaysAreDeclared}
use Rattle.jr_pieces.specs.Nearest.{nearest}
use Rattle.jr_local.specs.Bodies.{begins, Body}
use Rattle.jr_local.specs.BodyFacts.{Declares}

-- ---- how many

mutual
  unfolding stmt_inits else_inits stmts_inits locals_in locals_in_else locals_in_row

  inits_long : (s : statement.Stmt Span) → length (stmt_inits s) ≡ locals_in s
  inits_long (statement.local m f t w e) = refl
  inits_long (statement.eval m e) = refl
  inits_long (statement.branch m c s o) = let a = length-append (stmt_inits s) (else_inits o) in let b = inits_long s in let d = else_long o in omega (arith, a, b, d)
  inits_long (statement.loop m c s) = inits_long s
  inits_long (statement.return m e) = refl
  inits_long (statement.block m b) = list_long b
  inits_long (statement.sync m e b) = list_long b
  inits_long (statement.empty m) = refl

  else_long : (o : statement.Else Span) → length (else_inits o) ≡ locals_in_else o
  else_long statement.no_else = refl
  else_long (statement.otherwise s) = inits_long s

  list_long : (b : statement.Stmts Span) → length (stmts_inits b) ≡ locals_in_row b
  list_long statement.end = refl
  list_long (statement.more s ss) = let a = length-append (stmt_inits s) (stmts_inits ss) in let b = inits_long s in let d = list_long ss in omega (arith, a, b, d)

-- ---- declarations beside initializers

-- it begins a list, and has the initializer
record IsInit (d : Declaration) (e : tree.Exp Span) : Type 0 where
  mark : Span
  is_final : Bool
  type : tree.TypeName Span
  word : tree.Word Span
  rest : statement.Stmts Span
  is : d.list ≡ Some (statement.more (statement.local mark is_final type word e) rest)

-- one each, with the numbers from this one on
abbrev DeclaredAs : ℕ → List Declaration → List (tree.Exp Span) → Type 0
DeclaredAs n [] [] = Unit {0}
DeclaredAs n [] (e ∷ es) = ⊥
DeclaredAs n (d ∷ ds) [] = ⊥
DeclaredAs n (d ∷ ds) (e ∷ es) = (d.number ≡ n) × IsInit d e × DeclaredAs (suc n) ds es

declared_both : (n k : ℕ) (ds fs : List Declaration) (es gs : List (tree.Exp Span)) → k ≡ n + length es → DeclaredAs n ds es → DeclaredAs k fs gs → DeclaredAs n (ds ++ fs) (es ++ gs)
declared_both n k [] fs [] gs e a b = subst (λ (i : ℕ). DeclaredAs i fs gs) (let same : k ≡ n = omega (arith, e) in same) b
declared_both n k [] fs (x ∷ es) gs e a b = absurd a
declared_both n k (d ∷ ds) fs [] gs e a b = absurd a
declared_both n k (d ∷ ds) fs (x ∷ es) gs e a b = (a.0, a.1, declared_both (suc n) k ds fs es gs (omega (arith, e)) a.2 b)

-- a statement is no declaration, or stands at the head of the list
abbrev IsPlaced : Option (statement.Stmts Span) → statement.Stmt Span → Type 0
IsPlaced whole s = IsNoDeclaration s ⊎ ((ss : statement.Stmts Span) × (whole ≡ Some (statement.more s ss)))

mutual
  unfolding stmt_inits else_inits stmts_inits

  stmt_declared : (whole : Option (statement.Stmts Span)) (n : ℕ) (s : statement.Stmt Span) → IsPlaced whole s → StmtShaped s → DeclaredAs n (declarations whole n s) (stmt_inits s)
  stmt_declared whole n (statement.local m f t w e) (inl un) h = absurd un
  stmt_declared whole n (statement.local m f t w e) (inr (ss, is)) h = (refl, record { mark = m; is_final = f; type = t; word = w; rest = ss; is = is }, tt)
  stmt_declared whole n (statement.eval m e) at h = tt
  stmt_declared whole n (statement.branch m c s o) at h =
      declared_both n (n + locals_in s) (declarations None n s) (declarations_behind (n + locals_in s) o) (stmt_inits s) (else_inits o) (let long = inits_long s in omega (arith, long)) (stmt_declared None n s (inl h.1) h.2) (else_declared (n + locals_in s) s o h.3)
  stmt_declared whole n (statement.loop m c s) at h = stmt_declared None n s (inl h.1) h.2
  stmt_declared whole n (statement.return m e) at h = tt
  stmt_declared whole n (statement.block m b) at h = list_declared n b h
  stmt_declared whole n (statement.sync m e b) at h = list_declared n b h.1
  stmt_declared whole n (statement.empty m) at h = tt

  else_declared : (n : ℕ) (s : statement.Stmt Span) (o : statement.Else Span) → ElseShaped s o → DeclaredAs n (declarations_behind n o) (else_inits o)
  else_declared n s statement.no_else h = tt
  else_declared n s (statement.otherwise y) h = stmt_declared None n y (inl h.1) h.2

  list_declared : (n : ℕ) (b : statement.Stmts Span) → StmtsShaped b → DeclaredAs n (declarations_in n b) (stmts_inits b)
  list_declared n statement.end h = tt
  list_declared n (statement.more s ss) h =
      declared_both n (n + locals_in s) (declarations (Some (statement.more s ss)) n s) (declarations_in (n + locals_in s) ss) (stmt_inits s) (stmts_inits ss) (let long = inits_long s in omega (arith, long))
      (stmt_declared (Some (statement.more s ss)) n s (inr (ss, refl)) h.0) (list_declared (n + locals_in s) ss h.1)

-- ---- the declaration of a number

record FoundAt (n k : ℕ) (d : Declaration) (es : List (tree.Exp Span)) : Type 0 where
  at : ℕ
  number : k ≡ n + at
  init : tree.Exp Span
  stands : slice_get es at ≡ Some init
  is : IsInit d init

found_at : (n k : ℕ) (ds : List Declaration) (es : List (tree.Exp Span)) → DeclaredAs n ds es → (d : Declaration) → first_wanted (numbered k) ds ≡ Some d → FoundAt n k d es
found_at n k [] es h d e = absurd (none-some d e)
found_at n k (x ∷ ds) [] h d e = absurd h
found_at n k (x ∷ ds) (i ∷ es) h d e = by (cases_eq x.number k) (λ f. found_at (suc n) k ds es h.2 d f)
  where
    by : ((x.number ≡ k) ⊎ (x.number ≡ k → ⊥)) → (first_wanted (numbered k) ds ≡ Some d → FoundAt (suc n) k d es) → FoundAt n k d (i ∷ es)
    by (inl same) go =
        let here : x ≡ d = same_Some x d (sym (ap (λ (c : Bool). if c then Some x else first_wanted (numbered k) ds) (eq-eqb x.number k same)) ∙ e) in
        record { at = zero; number = (let first = h.0 in omega (arith, first, same)); init = i; stands = refl; is = subst (λ (z : Declaration). IsInit z i) here h.1 }
    by (inr other) go =
        let r = go (sym (ap (λ (c : Bool). if c then Some x else first_wanted (numbered k) ds) (ne_eqb x.number k other)) ∙ e) in
        record { at = suc r.at; number = (let later = r.number in omega (arith, later)); init = r.init; stands = r.stands; is = r.is }

record FindsAt (k : ℕ) (ds : List Declaration) (i : tree.Exp Span) : Type 0 where
  of : Declaration
  found : first_wanted (numbered k) ds ≡ Some of
  is : IsInit of i

finds_at : (n k at : ℕ) (ds : List Declaration) (es : List (tree.Exp Span)) → DeclaredAs n ds es → k ≡ n + at → (i : tree.Exp Span) → slice_get es at ≡ Some i → FindsAt k ds i
finds_at n k at [] [] h number i e = absurd (none-some i e)
finds_at n k at [] (y ∷ es) h number i e = absurd h
finds_at n k at (x ∷ ds) [] h number i e = absurd h
finds_at n k zero (x ∷ ds) (y ∷ es) h number i e =
    let own = h.0 in record {
      of = x;
      found = ap (λ (c : Bool). if c then Some x else first_wanted (numbered k) ds) (eq-eqb x.number k (let same : x.number ≡ k = omega (arith, own, number) in same));
      is = subst (IsInit x) (same_Some y i e) h.1;
    }
finds_at n k (suc at) (x ∷ ds) (y ∷ es) h number i e =
    let r = finds_at (suc n) k at ds es h.2 (omega (arith, number)) i e in
    let own = h.0 in record {
      of = r.of;
      found = ap (λ (c : Bool). if c then Some x else first_wanted (numbered k) ds) (ne_eqb x.number k (λ same. let z : x.number ≡ k = same in omega (arith, own, number, z))) ∙ r.found;
      is = r.is;
    }

-- ---- in a row behind parameters

behind_get : {Z : Type 0} (n at : ℕ) (es : List Z) (k : ℕ) → k ≡ n + at → init_of (behind_nones n es) k ≡ slice_get es at
behind_get zero at es k e = own es k ∙ ap (slice_get es) (let same : k ≡ at = omega (arith, e) in same)
  where
    own : {Z : Type 0} (xs : List Z) (j : ℕ) → init_of (map (λ z. Some z) xs) j ≡ slice_get xs j
    own [] j = refl
    own (x ∷ xs) zero = refl
    own (x ∷ xs) (suc j) = own xs j
behind_get (suc n) at es zero e = absurd (omega (arith, e))
behind_get (suc n) at es (suc k) e = behind_get n at es k (omega (arith, e))

behind_there : {Z : Type 0} (n : ℕ) (es : List Z) (k : ℕ) (z : Z) → init_of (behind_nones n es) k ≡ Some z → (at : ℕ) × (k ≡ n + at)
behind_there zero es k z e = (k, omega arith)
behind_there (suc n) es zero z e = absurd (none-some z e)
behind_there (suc n) es (suc k) z e = let r = behind_there n es k z e in (r.0, let s = r.1 in omega (arith, s))

-- ---- so it is in a body

same_local : (m n : Span) (f g : Bool) (t u : tree.TypeName Span) (w v : tree.Word Span) (x y : tree.Exp Span) (r s : statement.Stmts Span)
    → Some (statement.more (statement.local m f t w x) r) ≡ Some (statement.more (statement.local n g u v y) s) → x ≡ y
same_local m n f g t u w v x y r s e = cc

module _ (have : DeclarationsHaveWays) (are : WaysAreDeclared) (p : Program Span) (b : Body) (shaped : StmtsShaped b.list) where
  abbrev ds : List Declaration
  ds = declarations_in b.at.next b.list

  abbrev es : List (tree.Exp Span)
  es = stmts_inits b.list

  pub begins_with : (n : ℕ) (i : tree.Exp Span) → Declares p b n i → init_of (behind_nones b.at.next es) n ≡ Some i
  begins_with n i d =
      let found = are b.list i d.way b.at d.mark d.is_final d.type d.word i d.is in
      let r = found_at b.at.next _ ds es (list_declared b.at.next b.list shaped) _ found in
      let number : n ≡ b.at.next + r.at = sym d.number ∙ r.number in
      let same : r.init ≡ i = same_local r.is.mark d.mark r.is.is_final d.is_final r.is.type d.type r.is.word d.word r.init i r.is.rest (nearest begins b.at d.way).rest (sym r.is.is ∙ ap (λ (z : statement.Stmt Span). Some (statement.more z (nearest begins b.at d.way).rest)) d.is) in
      behind_get b.at.next r.at es n number ∙ r.stands ∙ ap Some same

  pub is_declared : (n : ℕ) (i : tree.Exp Span) → init_of (behind_nones b.at.next es) n ≡ Some i → Declares p b n i
  is_declared n i e =
      let k = behind_there b.at.next es n i e in
      let stands : slice_get es k.0 ≡ Some i = sym (behind_get b.at.next k.0 es n k.1) ∙ e in
      let r = finds_at b.at.next n k.0 ds es (list_declared b.at.next b.list shaped) k.1 i stands in
      let w = have b.list b.at.next n r.of _ r.found r.is.is in
      let same : w.init ≡ i = sym (same_local r.is.mark w.mark r.is.is_final w.is_final r.is.type w.type r.is.word w.word i w.init r.is.rest w.rest (ap Some w.is)) in
      subst (Declares p b n) same (let at = w.element b.at refl in record { way = w.way; mark = w.mark; is_final = w.is_final; type = w.type; word = w.word; is = at.0; number = at.2 })

  pub declares_or_not : (n : ℕ) (i : tree.Exp Span) → (init_of (behind_nones b.at.next es) n ≡ Some i) ↔ Declares p b n i
  declares_or_not n i = (is_declared n i, begins_with n i)
