-- The beginning of a list of statements, as of a piece that becomes a method of its own: a local
-- that no path from there reads before it is written may differ there.
use Rattle.std.specs.Prelude.{◌≡◌, ◌⊎◌, ℕ, Bool, true, false, not, IsTrue}
use Rattle.jr_ast.specs.StatementTree as statement
use Rattle.jr_runs.specs.Keys.{Keys, keys_of}
use Rattle.jr_runs.specs.Sets.{NumberSet}
use Rattle.jr_cover.specs.StatementTranslation.{stmts_code}
use Rattle.jr_cover.specs.Ways.{Way, sites_of, Passes, First, Last, Edge}
use Rattle.jr_cover.specs.Sites.{Known, stmts_way}
use Rattle.jr_cover.specs.Dependences.{PathBetween}
use Rattle.jr_unused_locals.specs.Agreement.{Comes}
use Rattle.jr_unused_locals.specs.SiteLocals.{reads_at, writes_at}
use Rattle.jr_unused_locals.specs.Bindings.{StmtsBind}
use Rattle.jr_unused_locals.specs.CodeAgreement.{StmtsAgree}

module _ {S : Type 0} (reads writes : ℕ → Bool) (w : Way S) where
  -- from where the way begins the local is read before it is written
  pub record ReadFirst : Type 0 where
    pub at : ℕ
    pub begins : First 0 w at
    pub comes : Comes reads writes (Edge 0 w) at

module _ {S : Type 0} (writes : ℕ → Bool) (w : Way S) where
  -- a path from where the way begins to its end, no site of which writes the local
  pub record UnwrittenPath : Type 0 where
    pub from : ℕ
    pub to : ℕ
    pub begins : First 0 w from
    pub ends : Last 0 w to
    pub path : (from ≡ to) ⊎ ((writes from ≡ false)
        × PathBetween (Edge 0 w) (λ i. writes i ≡ true) from to)
    pub unwritten : writes to ≡ false

module _ {K : Keys} {A : Type 0} (X : Known K A) (list : statement.Stmts A) where
  abbrev pub list_reads : (x i : ℕ) → Bool
  list_reads = reads_at (sites_of (stmts_way X list))

  abbrev pub list_writes : (x i : ℕ) → Bool
  list_writes = writes_at (sites_of (stmts_way X list))

  abbrev pub IsReadFirst : (x : ℕ) → Type 0
  IsReadFirst x = ReadFirst (list_reads x) (list_writes x) (stmts_way X list)

  -- the local may be behind the list what it was before it
  abbrev pub MayStay : (x : ℕ) → Type 0
  MayStay x = Passes (stmts_way X list)
      ⊎ UnwrittenPath (list_writes x) (stmts_way X list)

  -- D: the locals that may differ before the list
  pub record SetsOfList (D : NumberSet) : Type 0 where
    pub ends : NumberSet
    pub agrees : StmtsAgree (stmts_code X.facts list) (λ x. not (D x)) ends
    -- behind it the others agree, and those that are written on each path
    pub others_end : (x : ℕ) → D x ≡ false → IsTrue (ends x)
    pub written_end : (x : ℕ) → (MayStay x → ⊥) → IsTrue (ends x)

-- D: locals that aren't read first
abbrev pub UnreadLocalsMayDiffer : (C F M N L A : Type 0) → Type 0
UnreadLocalsMayDiffer C F M N L A = (X : Known (keys_of C F M N L) A)
    (list : statement.Stmts A) → StmtsBind X list
    → (D : NumberSet) → ((x : ℕ) → IsTrue (D x) → IsReadFirst X list x → ⊥) → SetsOfList X list D
