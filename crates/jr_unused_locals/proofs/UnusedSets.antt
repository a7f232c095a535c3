-- The sets of a member in which a piece has locals that aren't used: by the ways round the piece, one
-- statement after another.
use Rattle.std.proofs.Common.{◌≡◌, ◌<◌, ℕ, suc, ◌+◌, Bool, true, false, not, IsTrue, Some, refl, subst, inl, inr}
use Rattle.jr_ast.specs.StatementTree as statement
use Rattle.jr_runs.specs.Keys.{Keys}
use Rattle.jr_runs.specs.Rows.{Rows}
use Rattle.jr_runs.specs.Core as core
use Rattle.jr_runs.specs.KeyMaps.{KeyMap}
use Rattle.jr_cover.specs.Translation.{exp_code}
use Rattle.jr_cover.specs.StatementTranslation.{all_declared, stmt_code, else_code, stmts_code}
use Rattle.jr_runs.specs.Sets.{NumberSet, everything}
use Rattle.jr_runs.specs.Standing.{Standing}
use Rattle.jr_runs.specs.Images.{Spots, NoSpot, StmtTo, to_branch, to_loop, to_block, to_sync, StmtsTo, to_list, to_spot}
use Rattle.jr_runs.proofs.Locals.{within_all}
use Rattle.jr_cover.specs.Ways.{Way, row, fork, inside, size, sites_of, Edge}
use Rattle.jr_cover.specs.Sites.{Site, Known, exp_way, stmt_way, else_way, stmts_way}
use Rattle.jr_unused_locals.specs.Agreement.{here, in_second, in_left, in_right, in_monitor, Ok, Round, Stays, Stands}
use Rattle.jr_unused_locals.specs.SiteLocals.{reads_at, writes_at}
use Rattle.jr_unused_locals.specs.Bindings.{StmtBinds, StmtsBind}
use Rattle.jr_unused_locals.specs.CodeAgreement.{ExpAgrees, StmtsAgree}
use Rattle.jr_unused_locals.specs.Pieces.{Surround, nothing, front, monitor, surrounded, body_begin, stands_in_member, joined, loop_site, lock_check, enter_site, exit_site, StmtHolds, holds_then, holds_else, holds_turned, holds_within, holds_locked, StmtsHold, holds_here, holds_first, holds_later, stmt_around, stmts_around, stmt_begin, stmts_begin, stmt_stands, stmts_stands}
use Rattle.jr_unused_locals.specs.Unused.{HoldsNothing, OneSpot, member_around, IsUsed, HasSets, UnusedLocalsHaveSets, ImagesHaveSets}
use Rattle.jr_unused_locals.proofs.Agreeing.{unused_in_part}
use Rattle.jr_unused_locals.proofs.Families.{Told, Oks, oks_check}
use Rattle.jr_unused_locals.proofs.ExpSets.{exp_keeps}
use Rattle.jr_unused_locals.proofs.StmtSets.{stmt_keeps, else_keeps, stmts_keep}
use Rattle.jr_unused_locals.proofs.BySets.{exp_by, stmt_by, stmts_by}
use Rattle.jr_unused_locals.proofs.Around.{OkHere, here_itself, Each, each_first, each_second, each_left, each_right, each_body, each_monitor}
use Rattle.jr_unused_locals.proofs.Tables.{told, body_told, quiet, all_calm}

split_binds : {K : Keys} {A : Type 0} (X : Known K A) (a b : statement.Stmts A) → StmtsBind X (joined a b) → StmtsBind X a × StmtsBind X b
split_binds X statement.end b h = (tt, h)
split_binds X (statement.more s a) b h =
    let d = split_binds X a b h.1 in
    ((h.0, d.0), d.1)

module _ {K : Keys} {A : Type 0} (X : Known K A) (r : KeyMap K) (R : Rows K) (s : Standing K) (none : HoldsNothing s.code) (piece rest : statement.Stmts A) (new_list : core.Stmts K) (rd wr : ℕ → ℕ → Bool) (D : NumberSet) where
  abbrev P : Way (Site K)
  P = stmts_way X piece

  abbrev Allowed : NumberSet → NumberSet → Spots K
  Allowed before list_end = OneSpot before (stmts_code X.facts (joined piece rest)) new_list list_end

  -- the sets at the piece, and what they give where it stands
  record Found (Image : (before list_end : NumberSet) → Type 0) : Type 0 where
    before : NumberSet
    ends : NumberSet
    list_end : NumberSet
    others_before : (x : ℕ) → D x ≡ false → IsTrue (before x)
    others_end : (x : ℕ) → D x ≡ false → IsTrue (ends x)
    piece_agrees : StmtsAgree (stmts_code X.facts piece) before ends
    rest_agrees : StmtsAgree (stmts_code X.facts rest) (λ x. not (D x)) list_end
    image : Image before list_end

  further : (I J : NumberSet → NumberSet → Type 0) → ((b l : NumberSet) → I b l → J b l) → Found I → Found J
  further I J go f = record {
    before = f.before;
    ends = f.ends;
    list_end = f.list_end;
    others_before = f.others_before;
    others_end = f.others_end;
    piece_agrees = f.piece_agrees;
    rest_agrees = f.rest_agrees;
    image = go f.before f.list_end f.image;
  }

  abbrev StmtGoal : statement.Stmt A → core.Stmt K → (B C before list_end : NumberSet) → Type 0
  StmtGoal a a' B C before list_end = StmtTo r R (Allowed before list_end) s B (stmt_code X.facts a) a' C

  abbrev StmtsGoal : statement.Stmts A → core.Stmts K → (B C before list_end : NumberSet) → Type 0
  StmtsGoal b b' B C before list_end = StmtsTo r R (Allowed before list_end) s B (stmts_code X.facts b) b' C

  itself : StmtsBind X (joined piece rest) → (n : ℕ) → Told rd wr n (row P (stmts_way X rest)) → (B C M : NumberSet) → Each rd wr P D n n P here B M → Oks rd wr (n + size P) (stmts_way X rest) M C → Found (StmtsGoal (joined piece rest) new_list B C)
  itself b n t B C M h k = record {
    before = B;
    ends = λ x. (ending x).0;
    list_end = C;
    others_before = λ x e. ((ending x).3 e).0;
    others_end = λ x e. ((ending x).3 e).1;
    piece_agrees = stmts_keep X rd wr piece (split_binds X piece rest b).0 n t.0 B (λ x. (ending x).0) (λ x. (ending x).1);
    rest_agrees = subst (λ (Z : NumberSet). StmtsAgree (stmts_code X.facts rest) Z C) left (stmts_keep X rd wr rest (split_binds X piece rest b).1 (n + size P) t.1 M C k);
    image = to_spot B C (stmts_code X.facts (joined piece rest)) new_list (refl, refl, refl, refl);
  }
    where
      ending : (x : ℕ) → (E : Bool) × Ok (rd x) (wr x) n P (B x) E × (M x ≡ not (D x)) × (D x ≡ false → (B x ≡ true) × (E ≡ true))
      ending x = here_itself rd wr P (D x) x n (B x) (M x) (h x)

      left : M ≡ (λ x. not (D x))
      left = λ i x. (ending x).2 i

  mutual
    stmt_found : {a : statement.Stmt A} {a' : core.Stmt K} (h : StmtHolds X r R s piece rest new_list a a') → StmtBinds X a → (n : ℕ) → Told rd wr n (stmt_around X r R s piece rest new_list h) → (B C : NumberSet)
        → Each rd wr P D (stmt_begin X r R s piece rest new_list h n) n (stmt_around X r R s piece rest new_list h) (stmt_stands X r R s piece rest new_list h n) B C → Found (StmtGoal a a' B C)
    stmt_found (holds_then a p c c' t t' o o' x h y) b = λ n d B C g.
        let m : ℕ = n + size (exp_way X c) in
        let u = each_second rd wr P D (stmt_begin X r R s piece rest new_list h m) n (exp_way X c) (fork (stmt_around X r R s piece rest new_list h) (else_way X o)) (in_left m (stmt_around X r R s piece rest new_list h) (else_way X o) (stmt_stands X r R s piece rest new_list h m)) B C g in
        let v = each_left rd wr P D (stmt_begin X r R s piece rest new_list h m) m (stmt_around X r R s piece rest new_list h) (else_way X o) (stmt_stands X r R s piece rest new_list h m) u.0 C u.2 in
        further (StmtGoal t t' u.0 v.0) (StmtGoal (statement.branch a c t o) (core.branch p c' t' o') B C)
        (λ k l i. to_branch B u.0 v.0 v.1 C (Some (X.facts.first a)) p (exp_code X.facts c) c' (stmt_code X.facts t) t' (else_code X.facts o) o' (exp_by r R s.code none (exp_code X.facts c) c' x.2 B u.0 (exp_keeps X rd wr c b.0 n d.0 B u.0 u.1))
        i (stmt_by r R (Allowed k l) s none (else_code X.facts o) o' y.2 u.0 v.1 (else_keeps X rd wr o b.2 (m + size (stmt_around X r R s piece rest new_list h)) d.1.1 u.0 v.1 v.3)) v.4 v.5)
        (stmt_found h b.1 m d.1.0 u.0 v.0 v.2)
    stmt_found (holds_else a p c c' t t' o o' x y h) b = λ n d B C g.
        let m : ℕ = n + size (exp_way X c) in
        let e : ℕ = m + size (stmt_way X t) in
        let u = each_second rd wr P D (stmt_begin X r R s piece rest new_list h e) n (exp_way X c) (fork (stmt_way X t) (stmt_around X r R s piece rest new_list h)) (in_right m (stmt_way X t) (stmt_around X r R s piece rest new_list h) (stmt_stands X r R s piece rest new_list h e)) B C g in
        let v = each_right rd wr P D (stmt_begin X r R s piece rest new_list h e) m (stmt_way X t) (stmt_around X r R s piece rest new_list h) (stmt_stands X r R s piece rest new_list h e) u.0 C u.2 in
        further (StmtGoal o o' u.0 v.1) (StmtGoal (statement.branch a c t (statement.otherwise o)) (core.branch p c' t' o') B C)
        (λ k l i. to_branch B u.0 v.0 v.1 C (Some (X.facts.first a)) p (exp_code X.facts c) c' (stmt_code X.facts t) t' (stmt_code X.facts o) o' (exp_by r R s.code none (exp_code X.facts c) c' x.2 B u.0 (exp_keeps X rd wr c b.0 n d.0 B u.0 u.1))
        (stmt_by r R (Allowed k l) s none (stmt_code X.facts t) t' y.2 u.0 v.0 (stmt_keeps X rd wr t b.1 m d.1.0 u.0 v.0 v.2)) i v.4 v.5)
        (stmt_found h b.2 e d.1.1 u.0 v.1 v.3)
    stmt_found (holds_turned a p c c' t t' x h) b = λ n d B C g.
        let m : ℕ = suc n + size (exp_way X c) in
        let u = each_body rd wr P D (stmt_begin X r R s piece rest new_list h m) n (loop_site X a) (exp_way X c) (stmt_around X r R s piece rest new_list h) (stmt_stands X r R s piece rest new_list h m) B C g in
        further (StmtGoal t t' C u.1) (StmtGoal (statement.loop a c t) (core.loop p c' t') B C)
        (λ k l i. to_loop B u.0 C u.1 (Some (X.facts.first a)) p (exp_code X.facts c) c' (stmt_code X.facts t) t' u.2 (exp_by r R s.code none (exp_code X.facts c) c' x.2 u.0 C (exp_keeps X rd wr c b.0 (suc n) d.1 u.0 C u.3)) i u.5)
        (stmt_found h b.1 m d.2 C u.1 u.4)
    stmt_found (holds_within a p ns t t' q h) b = λ n d B C g.
        further (StmtsGoal t t' B C) (StmtGoal (statement.block a t) (core.block p ns t') B C)
        (λ k l i. to_block B B C (Some (X.facts.first a)) p (all_declared X.facts t) ns (stmts_code X.facts t) t' q (within_all B (all_declared X.facts t)) i)
        (stmts_found h b n d B C g)
    stmt_found (holds_locked a p q e e' t t' x h) b = λ n d B C g.
        let m : ℕ = n + size (exp_way X e) in
        let z : ℕ = m + size (lock_check X a e) in
        let w : Way (Site K) = inside (enter_site X a) (stmts_around X r R s piece rest new_list h) (exit_site X a) in
        let j = in_monitor z (enter_site X a) (exit_site X a) (stmts_around X r R s piece rest new_list h) (stmts_stands X r R s piece rest new_list h (suc z)) in
        let u = each_second rd wr P D (stmts_begin X r R s piece rest new_list h (suc z)) n (exp_way X e) (row (lock_check X a e) w) (in_second m (lock_check X a e) w j) B C g in
        let v = each_second rd wr P D (stmts_begin X r R s piece rest new_list h (suc z)) m (lock_check X a e) w j u.0 C u.2 in
        let f : u.0 ≡ v.0 = oks_check rd wr m (X.never_null e) (X.facts.first a) d.1.0 u.0 v.0 v.1 in
        further (StmtsGoal t t' v.0 C) (StmtGoal (statement.sync a e t) (core.sync p q e' t') B C)
        (λ k l i. to_sync B v.0 C (Some (X.facts.first a)) (Some (X.facts.last a)) p q (exp_code X.facts e) e' (stmts_code X.facts t) t'
        (exp_by r R s.code none (exp_code X.facts e) e' x.2 B v.0 (subst (λ (Z : NumberSet). ExpAgrees (exp_code X.facts e) B Z) f (exp_keeps X rd wr e b.0 n d.0 B u.0 u.1))) i)
        (stmts_found h b.1 (suc z) d.1.1.2 v.0 C (each_monitor rd wr P D (stmts_begin X r R s piece rest new_list h (suc z)) z (enter_site X a) (exit_site X a) (stmts_around X r R s piece rest new_list h) (stmts_stands X r R s piece rest new_list h (suc z)) v.0 C v.2))

    stmts_found : {b : statement.Stmts A} {b' : core.Stmts K} (h : StmtsHold X r R s piece rest new_list b b') → StmtsBind X b → (n : ℕ) → Told rd wr n (stmts_around X r R s piece rest new_list h) → (B C : NumberSet)
        → Each rd wr P D (stmts_begin X r R s piece rest new_list h n) n (stmts_around X r R s piece rest new_list h) (stmts_stands X r R s piece rest new_list h n) B C → Found (StmtsGoal b b' B C)
    stmts_found holds_here b = λ n d B C g.
        let u = each_first rd wr P D n n P (stmts_way X rest) here B C g in
        itself b n d B C u.0 u.1 u.2
    stmts_found (holds_first t t' c c' h y) b = λ n d B C g.
        let u = each_first rd wr P D (stmt_begin X r R s piece rest new_list h n) n (stmt_around X r R s piece rest new_list h) (stmts_way X c) (stmt_stands X r R s piece rest new_list h n) B C g in
        further (StmtGoal t t' B u.0) (StmtsGoal (statement.more t c) (core.Stmts.more t' c') B C)
        (λ k l i. to_list B u.0 C (stmt_code X.facts t) t' (stmts_code X.facts c) c' i (stmts_by r R (Allowed k l) s none (stmts_code X.facts c) c' y.2 u.0 C (stmts_keep X rd wr c b.1 (n + size (stmt_around X r R s piece rest new_list h)) d.1 u.0 C u.2)))
        (stmt_found h b.0 n d.0 B u.0 u.1)
    stmts_found (holds_later t t' c c' y h) b = λ n d B C g.
        let m : ℕ = n + size (stmt_way X t) in
        let u = each_second rd wr P D (stmts_begin X r R s piece rest new_list h m) n (stmt_way X t) (stmts_around X r R s piece rest new_list h) (stmts_stands X r R s piece rest new_list h m) B C g in
        further (StmtsGoal c c' u.0 C) (StmtsGoal (statement.more t c) (core.Stmts.more t' c') B C)
        (λ k l i. to_list B u.0 C (stmt_code X.facts t) t' (stmts_code X.facts c) c' (stmt_by r R (Allowed k l) s none (stmt_code X.facts t) t' y.2 B u.0 (stmt_keeps X rd wr t b.0 n d.0 B u.0 u.1)) i)
        (stmts_found h b.1 m d.1 u.0 C u.2)

-- ---- the laws

-- the edges of the body are the member's, and so are those round the piece
body_edges : {S : Type 0} (u : Surround S) (w : Way S) (i j : ℕ) → Edge (body_begin u) w i j → Edge 0 (surrounded u w) i j
body_edges nothing w i j e = e
body_edges (front f) w i j e = inr (inl e)
body_edges (monitor y x) w i j e = inl e

body_rounds : {S : Type 0} {a : ℕ} {p : Way S} (u : Surround S) (w : Way S) (t : Stands a p (body_begin u) w) (i j : ℕ) → Round a p (body_begin u) w t i j → Round a p 0 (surrounded u w) (stands_in_member u t) i j
body_rounds nothing w t i j e = e
body_rounds (front f) w t i j e = inr (inl e)
body_rounds (monitor y x) w t i j e = inl e

module _ {K : Keys} {A : Type 0} (X : Known K A) (r : KeyMap K) (R : Rows K) (s : Standing K) (none : HoldsNothing s.code) (piece rest : statement.Stmts A) (new_list : core.Stmts K) {b : statement.Stmts A} {b' : core.Stmts K} (h : StmtsHold X r R s piece rest new_list b b') (u : Surround (Site K)) (D : NumberSet) where
  abbrev Whole : Way (Site K)
  Whole = member_around X r R s piece rest new_list u h

  abbrev Body : Way (Site K)
  Body = stmts_around X r R s piece rest new_list h

  abbrev rd : ℕ → ℕ → Bool
  rd = reads_at (sites_of Whole)

  abbrev wr : ℕ → ℕ → Bool
  wr = writes_at (sites_of Whole)

  abbrev from : ℕ
  from = body_begin u

  abbrev place : Stands (stmts_begin X r R s piece rest new_list h from) (stmts_way X piece) from Body
  place = stmts_stands X r R s piece rest new_list h from

  tables : Told rd wr from Body
  tables = body_told rd wr u Body (told Whole)

  -- of each local, what agrees behind the body
  chosen : Stays (stmts_way X piece) → 0 < size (stmts_way X piece) → (x : ℕ) (d : Bool) → (d ≡ true → IsUsed X r R s piece rest new_list u h x → ⊥) → (C : Bool) × OkHere rd wr (stmts_way X piece) d x (stmts_begin X r R s piece rest new_list h from) from Body place true C
  chosen stays sized x true unused =
      unused_in_part (rd x) (wr x) Whole (stmts_begin X r R s piece rest new_list h from) (stmts_way X piece) (stands_in_member u place) stays sized (unused refl) from Body place
      (quiet rd wr x Body from tables (all_calm X r R s piece rest new_list h)) (λ i j e. body_edges u Body i j e) (λ i j e. body_rounds u Body place i j e)
  chosen stays sized x false unused = (true, (refl, refl))

  sets : StmtsBind X b → Stays (stmts_way X piece) → 0 < size (stmts_way X piece) → ((x : ℕ) → IsTrue (D x) → IsUsed X r R s piece rest new_list u h x → ⊥) → HasSets X r R s piece rest new_list b b' D
  sets binds stays sized unused =
      let C : NumberSet = λ x. (chosen stays sized x (D x) (λ e. unused x e)).0 in
      let f = stmts_found X r R s none piece rest new_list rd wr D h binds from tables everything C (λ x. (chosen stays sized x (D x) (λ e. unused x e)).1) in
      record {
        before = f.before;
        ends = f.ends;
        list_end = f.list_end;
        end = C;
        others_before = f.others_before;
        others_end = f.others_end;
        piece_agrees = f.piece_agrees;
        rest_agrees = f.rest_agrees;
        image = f.image;
      }

pub unused_locals_have_sets : {C F M N L A : Type 0} → UnusedLocalsHaveSets C F M N L A
unused_locals_have_sets X r R s none piece rest b new_list b' h u binds stays sized D unused = sets X r R s none piece rest new_list h u D binds stays sized unused

pub images_have_sets : {C F M N L : Type 0} → ImagesHaveSets C F M N L
images_have_sets r R s none old new A B before behind d g = stmts_by r R (NoSpot) s none old new d before behind g
