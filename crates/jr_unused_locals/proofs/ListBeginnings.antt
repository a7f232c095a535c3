-- What may differ where a list begins: of each local apart the answers of its ways, then as sets.
use Rattle.std.proofs.Common.{◌≡◌, ◌⊎◌, ℕ, Bool, true, false, not, IsTrue, refl, sym, ◌∙◌, inl, inr, ⊎_elim}
use Rattle.jr_ast.specs.StatementTree as statement
use Rattle.jr_runs.specs.Keys.{Keys}
use Rattle.jr_runs.specs.Sets.{NumberSet}
use Rattle.jr_cover.specs.Ways.{Way, Passes, First, Last, Edge}
use Rattle.jr_cover.specs.Sites.{Site, Known, stmts_way}
use Rattle.jr_cover.specs.Dependences as paths
use Rattle.jr_cover.specs.Dependences.{PathBetween}
use Rattle.jr_unused_locals.specs.Agreement.{Ok, Quiet, Comes, reads_here, onward}
use Rattle.jr_unused_locals.specs.Bindings.{StmtsBind}
use Rattle.jr_unused_locals.specs.Beginnings.{ReadFirst, UnwrittenPath, list_reads, list_writes, IsReadFirst, SetsOfList, UnreadLocalsMayDiffer}
use Rattle.jr_unused_locals.proofs.Keeping.{no_falsehood, kept}
use Rattle.jr_unused_locals.proofs.UsedPaths.{not_both}
use Rattle.jr_unused_locals.proofs.Families.{all_agree}
use Rattle.jr_unused_locals.proofs.StmtSets.{stmts_keep}
use Rattle.jr_unused_locals.proofs.Tables.{told, quiet, stmts_calm}

-- ---- one local

module _ {S : Type 0} (reads writes : ℕ → Bool) (w : Way S) where
  -- the site is met on a path from where the way begins, and no site before it writes the local
  data Reached : ℕ → Type 0 where
    begins : (j : ℕ) → First 0 w j → Reached j
    follows : (k j : ℕ) → Reached k → writes k ≡ false → Edge 0 w k j → Reached j

  next : (k j : ℕ) → Reached k → writes k ≡ false → Edge 0 w k j → Reached j
  next k j b n e = follows k j b n e

  read_first : (j : ℕ) → Reached j → Comes reads writes (Edge 0 w) j → ReadFirst reads writes w
  read_first j (begins k f) c = record { at = k; begins = f; comes = c }
  read_first j (follows k l b n e) c = read_first k b (onward k l n e c)

  abbrev Led : ℕ → Type 0
  Led j = (i : ℕ) × First 0 w i × ((i ≡ j) ⊎ ((writes i ≡ false) × PathBetween (Edge 0 w) (λ k. writes k ≡ true) i j))

  -- by the path behind the site
  before_path : (j k : ℕ) → Reached j → writes j ≡ false → PathBetween (Edge 0 w) (λ i. writes i ≡ true) j k → Led k
  before_path j k (begins i f) n p = (i, f, inr (n, p))
  before_path j k (follows i l b m e) n p = before_path i k b m (paths.onward i l k e (not_both (writes l) n) p)

  led : (j : ℕ) → Reached j → Led j
  led j (begins k f) = (k, f, inl refl)
  led j (follows k l b n e) = before_path k l b n (paths.edge k l e)

  ending : (i : ℕ) → Last 0 w i → Reached i → writes i ≡ false → UnwrittenPath writes w
  ending i l b n = let d = led i b in record {
    from = d.0;
    to = i;
    begins = d.1;
    ends = l;
    path = d.2;
    unwritten = n;
  }

  abbrev Stays : Type 0
  Stays = Passes w ⊎ UnwrittenPath writes w

  -- A: does the local agree before the way
  abbrev Answer : Bool → Type 0
  Answer A = (B : Bool) × Ok reads writes 0 w A B × (A ≡ true → B ≡ true) × ((Stays → ⊥) → B ≡ true)

  true_unless : (B : Bool) → (B ≡ false → Stays) → (Stays → ⊥) → B ≡ true
  true_unless true h n = refl
  true_unless false h n = absurd (n (h refl))

  answer : Quiet reads writes 0 w → (ReadFirst reads writes w → ⊥) → Answer false
  answer q unread =
      let u = kept reads writes (Edge 0 w) Reached next (λ j b r. unread (read_first j b (reads_here j r))) w 0 false q (λ i j e. e) (λ e j f. begins j f) in (
        u.0,
        u.1,
        (λ e. no_falsehood (sym e)),
        true_unless u.0 (λ e. ⊎_elim (λ (l : (i : ℕ) × Last 0 w i × (Reached i × (writes i ≡ false))). inr (ending l.0 l.1 l.2.0 l.2.1)) (λ (l : Passes w × (false ≡ false)). inl l.0) (u.2 e)),
      )

-- ---- the law

module _ {K : Keys} {A : Type 0} (X : Known K A) (list : statement.Stmts A) (D : NumberSet) where
  abbrev W : Way (Site K)
  W = stmts_way X list

  abbrev rd : ℕ → ℕ → Bool
  rd = list_reads X list

  abbrev wr : ℕ → ℕ → Bool
  wr = list_writes X list

  chosen : (x : ℕ) (d : Bool) → (d ≡ true → IsReadFirst X list x → ⊥) → Answer (rd x) (wr x) W (not d)
  chosen x true unread = answer (rd x) (wr x) W (quiet rd wr x W 0 (told W) (stmts_calm X list)) (unread refl)
  chosen x false unread = (true, all_agree (rd x) (wr x) W 0, (λ e. e), (λ n. refl))

  as_not : (d : Bool) → d ≡ false → not d ≡ true
  as_not true e = sym e
  as_not false e = refl

  sets : StmtsBind X list → ((x : ℕ) → IsTrue (D x) → IsReadFirst X list x → ⊥) → SetsOfList X list D
  sets binds unread =
      let of : (x : ℕ) → Answer (rd x) (wr x) W (not (D x)) = λ x. chosen x (D x) (λ e. unread x e) in
      record {
        ends = λ x. (of x).0;
        agrees = stmts_keep X rd wr list binds 0 (told W) (λ x. not (D x)) (λ x. (of x).0) (λ x. (of x).1);
        others_end = λ x e. (of x).2 (as_not (D x) e);
        written_end = λ x n. (of x).3 n;
      }

pub unread_locals_may_differ : {C F M N L A : Type 0} → UnreadLocalsMayDiffer C F M N L A
unread_locals_may_differ X list binds D unread = sets X list D binds unread
