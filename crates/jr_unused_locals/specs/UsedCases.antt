-- When a local is used behind a piece, and when a list reads it first: small ways, each with its
-- code, in which the piece stands in brackets and x is the local.
use Rattle.std.specs.Prelude.{ℕ, zero, suc, Bool, true, false, not, List, [], ◌∷◌, Option, Some, None}
use Rattle.jr_cover.specs.Ways.{Way, pass, one, row, fork, turns, sites_of, Edge}
use Rattle.jr_unused_locals.specs.Agreement.{
  Stands,
  here,
  in_first,
  in_body,
  Comes,
  InPiece,
  Used,
}
use Rattle.jr_unused_locals.specs.Beginnings.{ReadFirst, UnwrittenPath}

-- a site reads x, writes it, or does neither
abbrev pub Use : Type 0
Use = Option Bool

abbrev pub read_site : Way Use
read_site = one (Some true)

abbrev pub write_site : Way Use
write_site = one (Some false)

abbrev pub other_site : Way Use
other_site = one None

abbrev pub is_reading : Use → Bool
is_reading None = false
is_reading (Some b) = b

abbrev pub is_writing : Use → Bool
is_writing None = false
is_writing (Some b) = not b

abbrev pub by_number : (Use → Bool) → List Use → ℕ → Bool
by_number f [] i = false
by_number f (s ∷ all) zero = f s
by_number f (s ∷ all) (suc i) = by_number f all i

abbrev pub reads_in : Way Use → ℕ → Bool
reads_in m i = by_number is_reading (sites_of m) i

abbrev pub writes_in : Way Use → ℕ → Bool
writes_in m i = by_number is_writing (sites_of m) i

abbrev pub IsUsedIn : (m : Way Use) (a : ℕ) (p : Way Use) → Stands a p 0 m → Type 0
IsUsedIn m a p s = Used (reads_in m) (writes_in m) m a p s

-- `x=f;`
abbrev pub piece : Way Use
piece = row other_site write_site

-- the piece first, and the rest behind it
abbrev pub IsUsedBy : Way Use → Type 0
IsUsedBy rest = IsUsedIn (row piece rest) 0 piece (in_first 0 piece rest here)

-- `while(true||(x=1)>0){[f=10/(5-x);x=x+1;]}`: Loop 0, Write 1, and in the body Read 2, Check 3,
-- Store 4, Read 5, Write 6
abbrev pub condition : Way Use
condition = row pass (fork write_site pass)

abbrev pub body : Way Use
body = row read_site (row other_site (row other_site (row read_site write_site)))

abbrev pub loop_way : Way Use
loop_way = turns None condition body

-- an edge to a site outside of the piece, and no other, leads to a read
abbrev pub IsUsedOutside : (m : Way Use) (a : ℕ) (p : Way Use) → Type 0
IsUsedOutside m a p = (i j : ℕ) × InPiece a p i × (InPiece a p j → ⊥) × Edge 0 m i j
    × Comes (reads_in m) (writes_in m) (Edge 0 m) j

-- ---- a list alone

abbrev pub IsReadFirstIn : Way Use → Type 0
IsReadFirstIn w = ReadFirst (reads_in w) (writes_in w) w

abbrev pub StaysIn : Way Use → Type 0
StaysIn w = UnwrittenPath (writes_in w) w

pub record UsedCases : Type 0 where
  -- `[x=f;]return x;`
  pub read_behind : IsUsedBy read_site
  -- `[x=f;]x=2;return x;`
  pub not_where_written_again : IsUsedBy (row write_site read_site) → ⊥
  -- `[x=f;]if(b)x=2;return x;`, and so `[x=f;]if(b&&(x=2)>1);return x;`
  pub written_in_one_branch : IsUsedBy (row (row other_site (fork write_site pass)) read_site)
  -- `[x=f;]while(b)x=2;return x;`
  pub written_in_a_loop : IsUsedBy (row (turns None other_site write_site) read_site)
  -- in the loop above the way back meets no site, and reads in the piece
  pub round_a_loop : IsUsedIn loop_way 2 body (in_body 0 None condition body here)
  pub not_by_a_site_outside : IsUsedOutside loop_way 2 body → ⊥
  -- `x=2;return x;`, `if(b)x=2;return x;`
  pub not_first_behind_a_write : IsReadFirstIn (row write_site read_site) → ⊥
  pub first_past_a_branch : IsReadFirstIn (row (row other_site (fork write_site pass)) read_site)
  -- `x=f;`, `if(b)x=2;`
  pub written_on_each_path : StaysIn piece → ⊥
  pub may_stay : StaysIn (row other_site (fork write_site pass))
