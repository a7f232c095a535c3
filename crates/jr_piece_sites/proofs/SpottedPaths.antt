-- Paths lead on spots where they lead on the tree itself.
use Rattle.std.proofs.Common.{◌≡◌, ℕ, zero, suc, ◌-◌, ◌≤◌, List, [], ◌∷◌, Option, Some, None, option_map, refl, ap, subst, sym, ◌∙◌}
use Rattle.std.specs.Prelude.{option_and_then}
use Rattle.std.proofs.lemmas.Option.{none-some, same_Some}
use Rattle.jr_text.specs.declared.spans.Span.{Span}
use Rattle.jr_ast.specs.MemberTree as declared
use Rattle.jr_ast.specs.Tree as tree
use Rattle.jr_cover.specs.Spots.{Spot, onto, spot_exp, spot_member}
use Rattle.jr_expr_sites.specs.Routes.{begins_by, ends_by}
use Rattle.jr_piece_sites.specs.Leads.{AllStmts, IsStmt, Leads, LeadsToExp, LeadsToParts, spots_of}
use Rattle.jr_piece_sites.specs.Pieces as piece
use Rattle.jr_piece_sites.specs.Pieces.{IsOwner, Piece, mark_of, part_of, piece_at, spotted}
use Rattle.jr_piece_sites.proofs.Descents.{part_spots, step_down, step_end}
use Rattle.jr_piece_sites.proofs.Leading.{exp_leads, piece_leads, stmts_there}
use Rattle.jr_piece_sites.proofs.Spotting.{part_same}

module _ {A : Type 0} (tells : A → ℕ → Span) where
  -- the piece that is reached, on spots
  record Reached (x : Piece A) (base : ℕ) (place : List ℕ) (path : List ℕ) (y : Piece A) : Type 0 where
    at : ℕ
    there : List ℕ
    leads : piece_at (spotted tells base place x) path ≡ Some (spotted tells at there y)

  reaches : (path : List ℕ) (x y : Piece A) (base : ℕ) (place : List ℕ) → piece_at x path ≡ Some y → Reached x base place path y
  unfolding piece_at
  reaches [] x y base place e = record {
    at = base;
    there = place;
    leads = step_end (spotted tells base place x) ∙ ap (λ (z : Piece A). Some (spotted tells base place z)) (same_Some x y e);
  }
  reaches (i ∷ path) x y base place e = go (part_of x i) refl (λ c b p. reaches path c y b p) e
    where
      go : (o : Option (Piece A)) → part_of x i ≡ o → ((c : Piece A) (b : ℕ) (p : List ℕ) → piece_at c path ≡ Some y → Reached c b p path y) → option_and_then (λ c. piece_at c path) o ≡ Some y → Reached x base place (i ∷ path) y
      go None is on h = absurd (none-some y h)
      go (Some c) is on h =
          let b = begins_by tells (mark_of x) base in
          let r = on c b (onto place i) h in record {
            at = r.at;
            there = r.there;
            leads = step_down (spotted tells base place x) (spotted tells b (onto place i) c) i path (part_spots tells x c base place i is) ∙ r.leads;
          }

  pub owner : (m : declared.Member A) (base : ℕ) → IsOwner m → IsOwner (spots_of tells base m)
  unfolding spot_member
  owner (declared.field m mods t w init) base own = own
  owner (declared.method m mods t w ps body) base own = own
  owner (declared.constructor m mods w ps args body) base own = own
  owner (declared.inner m c) base own = absurd own

  -- what stands at a path of the member
  pub record At (m : declared.Member A) (base : ℕ) (path : List ℕ) : Type 0 where
    pub to : Piece Spot
    pub leads : piece_at (piece.member (spots_of tells base m)) path ≡ Some to

  pub some_at : (m : declared.Member A) (base : ℕ) (path : List ℕ) → Leads m path → At m base path
  some_at m base path (own, (y, e)) =
      let r = reaches path (piece.member m) y base [] (piece_leads (piece.member m) own path y e) in
      record { to = spotted tells r.at r.there y; leads = r.leads }

  pub exp_at : (m : declared.Member A) (base : ℕ) (path : List ℕ) → LeadsToExp m path → (f : tree.Exp Spot) × (piece_at (piece.member (spots_of tells base m)) path ≡ Some (piece.exp f))
  exp_at m base path (own, (e, is)) =
      let r = reaches path (piece.member m) (piece.exp e) base [] (exp_leads (piece.member m) own path e is) in
      (spot_exp (begins_by tells) (ends_by tells) e r.at r.there, r.leads)

  is_stmt : (b : ℕ) (p : List ℕ) (o : Option (Piece A)) → IsStmt o → IsStmt (option_map (spotted tells b p) o)
  is_stmt b p None h = h
  is_stmt b p (Some (piece.member m)) h = h
  is_stmt b p (Some (piece.stmt s)) h = tt
  is_stmt b p (Some (piece.exp e)) h = h

  all_spotted : (y : Piece A) (base : ℕ) (path : List ℕ) (i n : ℕ) → AllStmts y i n → AllStmts (spotted tells base path y) i n
  all_spotted y base path i zero h = tt
  all_spotted y base path i (suc n) h =
      (subst IsStmt (sym (part_same tells y base path i)) (is_stmt (begins_by tells (mark_of y) base) (onto path i) (part_of y i) h.0), all_spotted y base path (suc i) n h.1)

  -- a piece at a path of which so many parts are statements
  pub record PartsAt (m : declared.Member A) (base : ℕ) (path : List ℕ) (from to : ℕ) : Type 0 where
    pub of : Piece Spot
    pub leads : piece_at (piece.member (spots_of tells base m)) path ≡ Some of
    pub all : AllStmts of from (to - from)

  pub parts_at : (m : declared.Member A) (base : ℕ) (path : List ℕ) (from to : ℕ) → LeadsToParts m path from to → PartsAt m base path from to
  parts_at m base path from to (own, (y, e, (ss, are))) =
      let r = reaches path (piece.member m) y base [] (piece_leads (piece.member m) own path y e) in
      record {
        of = spotted tells r.at r.there y;
        leads = r.leads;
        all = all_spotted y r.at r.there from (to - from) (stmts_there y from (to - from) ss are.are are.all);
      }

pub ordered : {A : Type 0} (m : declared.Member A) (path : List ℕ) (from to : ℕ) → LeadsToParts m path from to → from ≤ to
ordered m path from to (own, (y, e, (ss, are))) = are.ordered
