-- Where a way leads to a statement in a list whose spot can't stay unused, what comes of the whole has
-- the changes of a list that a spot makes.
use Rattle.std.proofs.Common.{◌≡◌, ◌⊎◌, ℕ, List, [], ◌∷◌, ◌++◌, Option, Some, None, refl, sym, ap, subst, inl, inr}
use Rattle.std.proofs.lemmas.Option.{none-some, same_Some}
use Rattle.jr_text.specs.declared.spans.Span.{Span}
use Rattle.jr_ast.specs.Tree as tree
use Rattle.jr_ast.specs.StatementTree as statement
use Rattle.jr_table.specs.Context.{Context}
use Rattle.jr_rewrite.specs.Respellings.{Change}
use Rattle.jr_rewrite.specs.Rewritten.{Rewritten}
use Rattle.jr_rewrite.specs.Spots.{Spots, spotted}
use Rattle.jr_rewrite.specs.Rewrites.{Choosing, TransformsStmt, TransformsElse, TransformsStmts, TransformsList}
use Rattle.jr_pieces.specs.Ways.{StmtWay, in_init, in_eval, in_condition, in_then, in_else, in_turning, in_body, in_returned, in_block, in_lock, in_locked, ListWay, first, later}
use Rattle.jr_pieces.specs.Standings.{Standing, inside, behind, in_other}
use Rattle.jr_pieces.specs.Nearest.{Element, or_element, element_within, nearest}

-- ---- among changes

abbrev pub Has : Change → List Change → Type 0
Has c [] = ⊥
Has c (d ∷ ds) = (d ≡ c) ⊎ Has c ds

pub has_left : (xs ys : List Change) (c : Change) → Has c xs → Has c (xs ++ ys)
has_left [] ys c h = absurd h
has_left (x ∷ xs) ys c (inl e) = inl e
has_left (x ∷ xs) ys c (inr h) = inr (has_left xs ys c h)

pub has_right : (xs ys : List Change) (c : Change) → Has c ys → Has c (xs ++ ys)
has_right [] ys c h = h
has_right (x ∷ xs) ys c h = inr (has_right xs ys c h)

-- a spot makes a list, whose changes are among these
pub record Meets {A : Type 0} (s : Spots A) (cs : List Change) : Type 0 where
  pub next : ℕ
  pub context : Context
  pub base : ℕ
  pub list : statement.Stmts A
  pub made : Rewritten (statement.Stmts A)
  pub is : s.list next context base list made
  pub has : (c : Change) → Has c made.changes → Has c cs

pub widen : {A : Type 0} (s : Spots A) (cs ds : List Change) → ((c : Change) → Has c cs → Has c ds) → Meets s cs → Meets s ds
widen s cs ds go m = record { next = m.next; context = m.context; base = m.base; list = m.list; made = m.made; is = m.is; has = λ c h. go c (m.has c h) }

-- of two parts, and of what becomes of both
pub of_left : {A : Type 0} (s : Spots A) (xs ys cs : List Change) → cs ≡ xs ++ ys → Meets s xs → Meets s cs
of_left s xs ys cs e m = subst (Meets s) (sym e) (widen s xs (xs ++ ys) (has_left xs ys) m)

pub of_right : {A : Type 0} (s : Spots A) (xs ys cs : List Change) → cs ≡ xs ++ ys → Meets s ys → Meets s cs
of_right s xs ys cs e m = subst (Meets s) (sym e) (widen s ys (xs ++ ys) (has_right xs ys) m)

-- ---- on the way to a list

module _ {A : Type 0} (tells : A → ℕ → Span) (C : Choosing A) (s : Spots A) (Held : ℕ → Context → statement.Stmts A → Type 0)
    (barred : (n : ℕ) (c : Context) (base : ℕ) (xs : statement.Stmts A) → Held n c xs → s.list_stays n c base xs → ⊥) where
  abbrev begins : A → ℕ → ℕ
  begins m base = (tells m base).from

  -- the list that is held begins there
  abbrev pub HeldAt : {f : tree.Exp A} → Element f → Type 0
  HeldAt x = Held x.at.next x.at.context (statement.more x.stmt x.rest)

  at_first : {f : tree.Exp A} (p : Standing) (t : statement.Stmt A) (ss : statement.Stmts A) (d : StmtWay f t)
      → ((x : Element f) → element_within begins p d ≡ Some x → HeldAt x → (o : Rewritten (statement.Stmt A)) → TransformsStmt tells C (spotted s) p.next p.context p.base t o → Meets s o.changes)
      → (x : Option (Element f)) → element_within begins p d ≡ x → HeldAt (or_element x (record { at = p; stmt = t; rest = ss; way = d }))
      → (o : Rewritten (statement.Stmts A)) → s.list_stays p.next p.context p.base (statement.more t ss) → TransformsStmts tells C (spotted s) p.next p.context p.base (statement.more t ss) o → Meets s o.changes
  unfolding TransformsStmts
  at_first p t ss d go None is held o stays v = absurd (barred p.next p.context p.base (statement.more t ss) held stays)
  at_first p t ss d go (Some x) is held o stays (q, u, one, rest, e) =
      of_left s q.changes u.changes o.changes (ap (λ (r : Rewritten (statement.Stmts A)). r.changes) e) (go x is held q one)

  mutual
    unfolding TransformsStmt TransformsElse TransformsStmts

    within_stmt : {f : tree.Exp A} {t : statement.Stmt A} (p : Standing) (d : StmtWay f t) (x : Element f) → element_within begins p d ≡ Some x → HeldAt x
        → (o : Rewritten (statement.Stmt A)) → TransformsStmt tells C (spotted s) p.next p.context p.base t o → Meets s o.changes
    within_stmt p (in_init m is_final t w e d) x is held o v = absurd (none-some x is)
    within_stmt p (in_eval m e d) x is held o v = absurd (none-some x is)
    within_stmt p (in_condition m c t n d) x is held o v = absurd (none-some x is)
    within_stmt p (in_then m c t n d) x is held o (q, u, z, test, one, other, e) =
        of_left s (q.changes ++ u.changes) z.changes o.changes (ap (λ (r : Rewritten (statement.Stmt A)). r.changes) e)
        (of_right s q.changes u.changes (q.changes ++ u.changes) refl (within_stmt (inside begins m p) d x is held u one))
    within_stmt p (in_else m c t n d) x is held o (q, u, z, test, one, (y, other, same), e) =
        of_right s (q.changes ++ u.changes) z.changes o.changes (ap (λ (r : Rewritten (statement.Stmt A)). r.changes) e)
        (subst (Meets s) (sym (ap (λ (r : Rewritten (statement.Else A)). r.changes) same)) (within_stmt (in_other begins m t p) d x is held y other))
    within_stmt p (in_turning m c t d) x is held o v = absurd (none-some x is)
    within_stmt p (in_body m c t d) x is held o (q, u, test, one, e) =
        of_right s q.changes u.changes o.changes (ap (λ (r : Rewritten (statement.Stmt A)). r.changes) e) (within_stmt (inside begins m p) d x is held u one)
    within_stmt p (in_returned m e d) x is held o v = absurd (none-some x is)
    within_stmt p (in_block m b d) x is held o (q, body, e) =
        subst (Meets s) (sym (ap (λ (r : Rewritten (statement.Stmt A)). r.changes) e)) (meets (inside begins m p) d (subst HeldAt (sym (same_Some _ _ is)) held) q body)
    within_stmt p (in_lock m e b d) x is held o v = absurd (none-some x is)
    within_stmt p (in_locked m e b d) x is held o (q, u, lock, body, same) =
        of_right s q.changes u.changes o.changes (ap (λ (r : Rewritten (statement.Stmt A)). r.changes) same) (meets (inside begins m p) d (subst HeldAt (sym (same_Some _ _ is)) held) u body)

    pub meets : {f : tree.Exp A} {b : statement.Stmts A} (p : Standing) (way : ListWay f b) → HeldAt (nearest begins p way) → (o : Rewritten (statement.Stmts A)) → TransformsList tells C (spotted s) p.next p.context p.base b o → Meets s o.changes
    meets p (first t ss d) held o (inr spot) =
        record { next = p.next; context = p.context; base = p.base; list = statement.more t ss; made = o; is = spot; has = λ c h. h }
    meets p (first t ss d) held o (inl (stays, v)) = at_first p t ss d (λ x is there q one. within_stmt p d x is there q one) (element_within begins p d) refl held o stays v
    meets p (later t ss d) held o (inr spot) =
        record { next = p.next; context = p.context; base = p.base; list = statement.more t ss; made = o; is = spot; has = λ c h. h }
    meets p (later t ss d) held o (inl (stays, (q, u, one, rest, e))) =
        of_right s q.changes u.changes o.changes (ap (λ (r : Rewritten (statement.Stmts A)). r.changes) e) (meets (behind begins t p) d held u rest)
