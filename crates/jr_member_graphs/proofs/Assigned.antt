-- The locals that are gathered as written are those that the member assigns.
use Rattle.std.proofs.Common.{◌≡◌, ◌⊎◌, ℕ, zero, suc, nat_eq, Bool, true, false, ◌||◌, List, [], ◌∷◌, ◌++◌, Option, Some, None, refl, sym, ap, subst, ◌∙◌, inl, inr}
use Rattle.std.specs.Prelude.{◌↔◌}
use Rattle.std.proofs.lemmas.Bool.{cases_eq, eq-eqb, ne_eqb, or_left, or_right, false≢true}
use Rattle.std.proofs.lemmas.List.Folds.{list_any-append}
use Rattle.jr_text.specs.declared.spans.Span.{Span}
use Rattle.jr_ast.specs.Tree as tree
use Rattle.jr_ast.specs.StatementTree as statement
use Rattle.jr_ast.specs.MemberTree as declared
use Rattle.jr_runs.specs.Keys.{Keys}
use Rattle.jr_code.specs.RunKeys.{RunKeys}
use Rattle.jr_cover.specs.Covering.{site_at}
use Rattle.jr_cover.specs.NeverNullMembers.{WrittenIn, ExpAssigns, MaybeAssigns, ArgsAssign, StmtAssigns, ElseAssigns, StmtsAssign}
use Rattle.jr_cover.specs.Sites as sites
use Rattle.jr_cover.specs.Sites.{What, Site, Known, exp_way, exps_way}
use Rattle.jr_cover.specs.Spots.{Spot, onto, spot_exp, spot_exps, spot_maybe, spot_args, spot_stmt, spot_else, spot_stmts, spot_member, spot_class, spot_members}
use Rattle.jr_cover.specs.Ways.{Way, sites_of}
use Rattle.jr_expr_sites.specs.KnownFacts.{Given, Others, known_of, meaning_at}
use Rattle.jr_expr_sites.specs.Meanings.{Meaning}
use Rattle.jr_expr_sites.specs.Routes.{begins_by, ends_by}
use Rattle.jr_member_graphs.specs.FlagRows.{is_among}
use Rattle.jr_member_graphs.specs.MemberLocals.{Assigns}
use Rattle.jr_member_graphs.specs.Notes.{exp_locals, exps_locals, maybe_locals, args_locals, stmt_notes, else_notes, stmts_notes, member_locals}
use Rattle.jr_member_graphs.specs.NotesView.{with_written, written}
use Rattle.jr_member_graphs.specs.OwnFlags.{spotted}
use Rattle.jr_member_graphs.proofs.Writes.{Written, exp_written, exps_written}

-- ---- among sites

abbrev Among : List ℕ → ℕ → Type 0
Among ns n = is_among ns n ≡ true

or_true : (b c : Bool) → (b || c) ≡ true → (b ≡ true) ⊎ (c ≡ true)
or_true true c e = inl refl
or_true false c e = inr e

first_or_rest : (k n : ℕ) (l : List ℕ) → Among (k ∷ l) n → (k ≡ n) ⊎ Among l n
first_or_rest k n l e = by (cases_eq n k)
  where
    by : ((n ≡ k) ⊎ (n ≡ k → ⊥)) → (k ≡ n) ⊎ Among l n
    by (inl same) = inl (sym same)
    by (inr other) = inr (sym (ap (λ (b : Bool). b || is_among l n) (ne_eqb n k other)) ∙ e)

among_first : (n : ℕ) (l : List ℕ) → Among (n ∷ l) n
among_first n l = ap (λ (b : Bool). b || is_among l n) (eq-eqb n n refl)

module _ {K : Keys} where
  found : (w : What K) (l : List ℕ) (n : ℕ) → Among (with_written w l) n → (w ≡ sites.writes n) ⊎ Among l n
  found (sites.reads k) l n e = inr e
  found (sites.writes k) l n e = by (first_or_rest k n l e)
    where
      by : ((k ≡ n) ⊎ Among l n) → (◌≡◌ {A = What K} (sites.writes k) (sites.writes n)) ⊎ Among l n
      by (inl same) = inl (ap (λ (j : ℕ). sites.writes j) same)
      by (inr h) = inr h
  found (sites.loads f) l n e = inr e
  found (sites.stores f) l n e = inr e
  found sites.enters l n e = inr e
  found sites.exits l n e = inr e
  found sites.creates l n e = inr e
  found sites.checks l n e = inr e
  found sites.calls l n e = inr e
  found sites.loops l n e = inr e

  kept : (w : What K) (l : List ℕ) (n : ℕ) → Among l n → Among (with_written w l) n
  kept (sites.reads k) l n e = e
  kept (sites.writes k) l n e = or_right (nat_eq n k) (is_among l n) e
  kept (sites.loads f) l n e = e
  kept (sites.stores f) l n e = e
  kept sites.enters l n e = e
  kept sites.exits l n e = e
  kept sites.creates l n e = e
  kept sites.checks l n e = e
  kept sites.calls l n e = e
  kept sites.loops l n e = e

  abbrev At : List (Site K) → ℕ → Type 0
  At ss n = (i : ℕ) × (s : Site K) × (site_at ss i ≡ Some s) × (s.what ≡ sites.writes n)

  written_at : (ss : List (Site K)) (n : ℕ) → Among (written ss) n → At ss n
  written_at [] n e = absurd (false≢true e)
  written_at (s ∷ ss) n e = by (λ h. written_at ss n h) (found s.what (written ss) n e)
    where
      by : (Among (written ss) n → At ss n) → ((s.what ≡ sites.writes n) ⊎ Among (written ss) n) → At (s ∷ ss) n
      by rest (inl is) = (zero, s, refl, is)
      by rest (inr h) = let a = rest h in (suc a.0, a.1, a.2, a.3)

  one_same : (s t : Site K) → Some s ≡ Some t → s ≡ t
  one_same s t e = cc

  none_there : (s : Site K) → ◌≡◌ {A = Option (Site K)} None (Some s) → ⊥
  none_there s e = cc

  at_written : (ss : List (Site K)) (n i : ℕ) (s : Site K) → site_at ss i ≡ Some s → s.what ≡ sites.writes n → Among (written ss) n
  at_written [] n i s at is = absurd (none_there s at)
  at_written (t ∷ ss) n zero s at is =
      subst (λ (w : What K). Among (with_written w (written ss)) n) (sym is ∙ ap (λ (z : Site K). z.what) (sym (one_same t s at))) (among_first n (written ss))
  at_written (t ∷ ss) n (suc i) s at is = kept t.what (written ss) n (at_written ss n i s at is)

  in_way : (w : Way (Site K)) (ns : List ℕ) (n : ℕ) → Written w ns → Among ns n ↔ WrittenIn n w
  in_way w ns n h = (
    λ e. written_at (sites_of w) n (subst (λ (l : List ℕ). Among l n) (sym h.is) e),
    λ a. subst (λ (l : List ℕ). Among l n) h.is (at_written (sites_of w) n a.0 a.1 a.2 a.3),
  )

-- ---- of parts

split : (xs ys : List ℕ) (n : ℕ) → Among (xs ++ ys) n → Among xs n ⊎ Among ys n
split xs ys n e = or_true (is_among xs n) (is_among ys n) (sym (list_any-append (nat_eq n) xs ys) ∙ e)

joined : (xs ys : List ℕ) (n : ℕ) → (Among xs n ⊎ Among ys n) → Among (xs ++ ys) n
joined xs ys n (inl e) = list_any-append (nat_eq n) xs ys ∙ or_left (is_among xs n) (is_among ys n) e
joined xs ys n (inr e) = list_any-append (nat_eq n) xs ys ∙ or_right (is_among xs n) (is_among ys n) e

in_one : {P Q R S : Type 0} → (P → R) → (Q → S) → (P ⊎ Q) → R ⊎ S
in_one f g (inl x) = inl (f x)
in_one f g (inr x) = inr (g x)

in_two : (xs ys : List ℕ) (n : ℕ) {P Q : Type 0} → (Among xs n ↔ P) → (Among ys n ↔ Q) → Among (xs ++ ys) n ↔ (P ⊎ Q)
in_two xs ys n p q = (λ e. in_one p.0 q.0 (split xs ys n e), λ h. joined xs ys n (in_one p.1 q.1 h))

nowhere : (n : ℕ) → Among [] n ↔ ⊥
nowhere n = (λ e. absurd (false≢true e), λ h. absurd h)

-- ---- of trees

module _ {A : Type 0} (tells : A → ℕ → Span) (g : Given) (o : Others) (n : ℕ) where
  abbrev B : A → ℕ → ℕ
  B = begins_by tells

  abbrev E : A → ℕ → ℕ
  E = ends_by tells

  abbrev X : Known RunKeys Spot
  X = known_of g o

  abbrev M : ℕ → Meaning
  M = meaning_at g

  exp_told : (e : tree.Exp A) (at : ℕ) (p : List ℕ) → Among (exp_locals tells M at e) n ↔ ExpAssigns X n (spot_exp B E e at p)
  exp_told e at p = in_way (exp_way X (spot_exp B E e at p)) (exp_locals tells M at e) n (exp_written tells g o e at p)

  maybe_told : (v : Option (tree.Exp A)) (at : ℕ) (p : List ℕ) → Among (maybe_locals tells M at v) n ↔ MaybeAssigns X n (spot_maybe B E v at p)
  maybe_told None at p = nowhere n
  maybe_told (Some e) at p = exp_told e at p

  args_told : (args : Option (tree.Exps A)) (at : ℕ) (p : List ℕ) (i : ℕ) → Among (args_locals tells M at args) n ↔ ArgsAssign X n (spot_args B E args at p i)
  args_told None at p i = nowhere n
  args_told (Some es) at p i = in_way (exps_way X (spot_exps B E es at p i)) (exps_locals tells M at es) n (exps_written tells g o es at p i)

  mutual
    unfolding spot_stmt spot_else spot_stmts stmt_notes else_notes stmts_notes

    stmt_told : (s : statement.Stmt A) (base : ℕ) (p : List ℕ) → Among (stmt_notes tells M base s).writes n ↔ StmtAssigns X n (spot_stmt B E s base p)
    stmt_told (statement.local m is_final t w e) base p = exp_told e (B m base) (onto p 2)
    stmt_told (statement.eval m e) base p = exp_told e (B m base) (onto p 0)
    stmt_told (statement.branch m c s other) base p =
        let at = B m base in
        in_two (exp_locals tells M at c) ((stmt_notes tells M at s).writes ++ (else_notes tells M at other).writes) n (exp_told c at (onto p 0))
        (in_two (stmt_notes tells M at s).writes (else_notes tells M at other).writes n (stmt_told s at (onto p 1)) (else_told other at (onto p 2)))
    stmt_told (statement.loop m c s) base p =
        let at = B m base in
        in_two (exp_locals tells M at c) (stmt_notes tells M at s).writes n (exp_told c at (onto p 0)) (stmt_told s at (onto p 1))
    stmt_told (statement.«return» m v) base p = maybe_told v (B m base) (onto p 0)
    stmt_told (statement.block m body) base p = stmts_told body (B m base) p 0
    stmt_told (statement.sync m e body) base p =
        let at = B m base in
        in_two (exp_locals tells M at e) (stmts_notes tells M at body).writes n (exp_told e at (onto p 0)) (stmts_told body at p 1)
    stmt_told (statement.empty m) base p = nowhere n

    else_told : (other : statement.Else A) (at : ℕ) (p : List ℕ) → Among (else_notes tells M at other).writes n ↔ ElseAssigns X n (spot_else B E other at p)
    else_told statement.no_else at p = nowhere n
    else_told (statement.otherwise s) at p = stmt_told s at p

    stmts_told : (ss : statement.Stmts A) (at : ℕ) (p : List ℕ) (i : ℕ) → Among (stmts_notes tells M at ss).writes n ↔ StmtsAssign X n (spot_stmts B E ss at p i)
    stmts_told statement.end at p i = nowhere n
    stmts_told (statement.more s ss) at p i =
        in_two (stmt_notes tells M at s).writes (stmts_notes tells M at ss).writes n (stmt_told s at (onto p i)) (stmts_told ss at p (suc i))

  pub member_told : (m : declared.Member A) (base : ℕ) → Among (member_locals tells M base m) n ↔ Assigns X n (spotted tells base m)
  unfolding spot_member spot_class spot_members
  member_told (declared.field m mods t w init) base = maybe_told init (B m base) _
  member_told (declared.method m mods t w ps body) base = stmts_told body (B m base) [] _
  member_told (declared.constructor m mods w ps args body) base =
      in_two (args_locals tells M (B m base) args) (stmts_notes tells M (B m base) body).writes n (args_told args (B m base) [] _) (stmts_told body (B m base) [] _)
  member_told (declared.inner m c) base = nowhere n
