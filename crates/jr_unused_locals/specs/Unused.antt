-- Where no path from a piece of a member reaches a read of a local past its writes, its value
-- behind the piece doesn't matter: sets of locals that agree, for the image of the member's code.
use Rattle.std.specs.Prelude.{◌≡◌, ◌⊎◌, ◌↔◌, ◌<◌, ℕ, Bool, true, false, not, IsTrue}
use Rattle.jr_ast.specs.StatementTree as statement
use Rattle.jr_runs.specs.Keys.{Keys, keys_of}
use Rattle.jr_runs.specs.Rows.{Rows}
use Rattle.jr_runs.specs.Core.{Exp, Stmts}
use Rattle.jr_runs.specs.KeyMaps.{KeyMap}
use Rattle.jr_runs.specs.Sets.{NumberSet, everything}
use Rattle.jr_runs.specs.Standing.{Renumbering, Standing, IsHeld, IsCast}
use Rattle.jr_runs.specs.Images.{Spots, NoSpot, StmtsTo}
use Rattle.jr_cover.specs.StatementTranslation.{stmts_code}
use Rattle.jr_cover.specs.Ways.{Way, sites_of, size, Edge}
use Rattle.jr_cover.specs.Sites.{Site, Known, stmts_way}
use Rattle.jr_cover.specs.Dependences.{PathBetween}
use Rattle.jr_unused_locals.specs.Agreement.{Stands, Round, Comes, Used, Stays}
use Rattle.jr_unused_locals.specs.SiteLocals.{reads_at, writes_at}
use Rattle.jr_unused_locals.specs.Bindings.{StmtsBind}
use Rattle.jr_unused_locals.specs.CodeAgreement.{StmtsAgree}
use Rattle.jr_unused_locals.specs.Pieces.{
  Surround,
  surrounded,
  body_begin,
  stands_in_member,
  joined,
  StmtsHold,
  stmts_around,
  stmts_begin,
  stmts_stands,
}

-- no local stands for an expression
pub record HoldsNothing {K : Keys} (s : Renumbering K) : Type 0 where
  pub no_locals : (e : Exp K) (k : ℕ) → IsHeld e k s.holds → ⊥
  pub no_casts : (c : K.class) (e : Exp K) (k : ℕ) → IsCast c e k s.casts → ⊥

-- What is the image of code is so too with sets by which the code agrees.
abbrev pub ImagesHaveSets : (C F M N L : Type 0) → Type 0
ImagesHaveSets C F M N L = (r : KeyMap (keys_of C F M N L)) (R : Rows (keys_of C F M N L))
    (s : Standing (keys_of C F M N L)) → HoldsNothing s.code
    → (old new : Stmts (keys_of C F M N L)) (A B before behind : NumberSet)
    → StmtsTo r R (NoSpot {K = keys_of C F M N L}) s A old new B
    → StmtsAgree old before behind
    → StmtsTo r R (NoSpot {K = keys_of C F M N L}) s before old new behind

-- one list may change, and becomes another, where these locals agree before and behind it
abbrev pub OneSpot : {K : Keys} → NumberSet → (old new : Stmts K) → NumberSet → Spots K
OneSpot before old new behind s A b b' B =
    (A ≡ before) × (b ≡ old) × (b' ≡ new) × (B ≡ behind)

module _ {K : Keys} {A : Type 0} (X : Known K A) (r : KeyMap K) (R : Rows K) (s : Standing K)
    (piece rest : statement.Stmts A) (new_list : Stmts K) where
  -- the way of a member whose body holds the piece, in which the piece is one part
  abbrev pub member_around : {b : statement.Stmts A} {b' : Stmts K} → Surround (Site K)
      → StmtsHold X r R s piece rest new_list b b' → Way (Site K)
  member_around u h = surrounded u (stmts_around X r R s piece rest new_list h)

  -- An edge round the piece leads from it to a site from which the local is read before it is
  -- written: an edge to a site outside of it, or one that a loop round the piece makes.
  abbrev pub IsUsed : {b : statement.Stmts A} {b' : Stmts K} (u : Surround (Site K))
      → StmtsHold X r R s piece rest new_list b b' → (x : ℕ) → Type 0
  IsUsed u h x = Used (reads_at (sites_of (member_around u h)) x)
      (writes_at (sites_of (member_around u h)) x) (member_around u h)
      (stmts_begin X r R s piece rest new_list h (body_begin u)) (stmts_way X piece)
      (stands_in_member u (stmts_stands X r R s piece rest new_list h (body_begin u)))

  -- D: the locals that may differ behind the piece. All others agree before it and behind it.
  pub record HasSets (b : statement.Stmts A) (b' : Stmts K) (D : NumberSet) : Type 0 where
    -- before the piece, behind it in the old code, behind its list, behind the whole
    pub before : NumberSet
    pub ends : NumberSet
    pub list_end : NumberSet
    pub end : NumberSet
    pub others_before : (x : ℕ) → D x ≡ false → IsTrue (before x)
    pub others_end : (x : ℕ) → D x ≡ false → IsTrue (ends x)
    pub piece_agrees : StmtsAgree (stmts_code X.facts piece) before ends
    pub rest_agrees : StmtsAgree (stmts_code X.facts rest) (λ x. not (D x)) list_end
    -- so the new code is the image, if its list may stand for the old one
    pub image : StmtsTo r R
        (OneSpot before (stmts_code X.facts (joined piece rest)) new_list list_end) s everything
        (stmts_code X.facts b) b' end

-- The member's body b holds a piece without returns, and the new body b' its image but for the list
-- in which the piece stands. u: what stands around the body. D: locals that aren't used behind the
-- piece.
abbrev pub UnusedLocalsHaveSets : (C F M N L A : Type 0) → Type 0
UnusedLocalsHaveSets C F M N L A = (X : Known (keys_of C F M N L) A)
    (r : KeyMap (keys_of C F M N L)) (R : Rows (keys_of C F M N L))
    (s : Standing (keys_of C F M N L)) → HoldsNothing s.code
    → (piece rest b : statement.Stmts A) (new_list b' : Stmts (keys_of C F M N L))
    (h : StmtsHold X r R s piece rest new_list b b') (u : Surround (Site (keys_of C F M N L)))
    → StmtsBind X b → Stays (stmts_way X piece) → 0 < size (stmts_way X piece)
    → (D : NumberSet) → ((x : ℕ) → IsTrue (D x) → IsUsed X r R s piece rest new_list u h x → ⊥)
    → HasSets X r R s piece rest new_list b b' D

-- A read comes from a site on where the site reads, or where it doesn't write and a path without a
-- write strictly between leads from it to a read.
abbrev pub ComesByPaths : (S : Type 0) → Type 0
ComesByPaths S = (reads writes : ℕ → Bool) (m : Way S) (j : ℕ)
    → Comes reads writes (Edge 0 m) j ↔ ((reads j ≡ true)
    ⊎ ((writes j ≡ false) × (k : ℕ) × PathBetween (Edge 0 m) (λ i. writes i ≡ true) j k
    × (reads k ≡ true)))

-- The edges of a member are those of the piece and those round it.
abbrev pub EdgesAreInOrRound : (S : Type 0) → Type 0
EdgesAreInOrRound S = (m : Way S) (a : ℕ) (p : Way S) (s : Stands a p 0 m) (i j : ℕ)
    → Edge 0 m i j ↔ (Edge a p i j ⊎ Round a p 0 m s i j)

-- The way in which the piece is one part has the sites and the edges of the member's.
abbrev pub GroupingKeepsEdges : (C F M N L A : Type 0) → Type 0
GroupingKeepsEdges C F M N L A = (X : Known (keys_of C F M N L) A)
    (r : KeyMap (keys_of C F M N L)) (R : Rows (keys_of C F M N L))
    (s : Standing (keys_of C F M N L)) (piece rest b : statement.Stmts A)
    (new_list b' : Stmts (keys_of C F M N L)) (h : StmtsHold X r R s piece rest new_list b b')
    (u : Surround (Site (keys_of C F M N L)))
    → (sites_of (member_around X r R s piece rest new_list u h)
    ≡ sites_of (surrounded u (stmts_way X b)))
    × ((i j : ℕ) → Edge 0 (member_around X r R s piece rest new_list u h) i j
    ↔ Edge 0 (surrounded u (stmts_way X b)) i j)
