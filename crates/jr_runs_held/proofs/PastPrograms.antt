-- Programs of which the one has locals that hold calm expressions, where what lies between may change places with them, have
-- the same runs up to exchanges that the grid allows: with the local as the new one, and as the old one. No piece may access
-- a field of `this` here, since nothing is known of `this` without types; `calm_match` asks that it isn't null there.
use Rattle.std.proofs.Common.{◌≡◌, ℕ, true, false, IsTrue}
use Rattle.jr_runs.specs.Keys.{Keys}
use Rattle.jr_runs.specs.Values.{Value, null}
use Rattle.jr_runs.specs.Core.{Program}
use Rattle.jr_runs.specs.KeyMaps.{same_keys}
use Rattle.jr_runs.specs.Reordering.{Reordered}
use Rattle.jr_runs.specs.Images.{Spots, ProgramTo}
use Rattle.jr_runs.specs.Alike.{Alike, AlikeReordered}
use Rattle.jr_runs.proofs.ImagePrograms.{Changes, setting, turns_in, programs_match}
use Rattle.jr_runs.proofs.Halves.{alike, starts_match}
use Rattle.jr_runs_held.specs.Footprint.{AllMayPass}
use Rattle.jr_runs_held.proofs.HeldLocal.{same_undoes}
use Rattle.jr_runs_held.proofs.Turned.{turned}
use Rattle.jr_runs_held.proofs.Passing.{Comes, Goes, comes_joins, goes_joins, comes_images, goes_images, comes_crossed, goes_crossed}
use Rattle.jr_runs_held.proofs.PastCalm.{HoldsPastCalm, calm_match}

-- The local comes: what is done before the expression and the expression may change places, in this order.
abbrev pub HoldsCome : {K : Keys} → Program K → ℕ → Spots K
HoldsCome P n s A few many B = (x : HoldsPastCalm false same_keys P.rows n s A few many B) × AllMayPass P.rows x.piece_accesses x.e_accesses

-- The local goes: the expression, and what it goes past.
abbrev pub HoldsGo : {K : Keys} → Program K → ℕ → Spots K
HoldsGo P n s A few many B = (x : HoldsPastCalm false same_keys P.rows n s A few many B) × AllMayPass P.rows x.e_accesses x.piece_accesses

no_own : {K : Keys} (v : Value K) → IsTrue false → v ≡ null → ⊥
no_own v h e = apart h
  where
    apart : false ≡ true → ⊥
    apart i = cc

pub calm_locals_come : {K : Keys} (n : ℕ) (P Q : Program K) → ProgramTo same_keys (HoldsCome P n) P Q → AlikeReordered same_keys n P Q
calm_locals_come {K = K} n P Q to =
    let c : Changes same_keys same_keys (HoldsCome P n) n Comes P Q = record { there = same_undoes; joins = comes_joins; images = comes_images; programs = to } in
    alike same_keys same_keys same_undoes n Comes (λ u t. Reordered u t) (λ t u e. e) P Q to.rows.field_kind
    (starts_match same_keys (HoldsCome P n) n Comes P Q (programs_match same_keys same_keys (HoldsCome P n) n Comes P Q c
    (λ Z tables answered s stands frame me me' im A b b' B x l l' h.
    calm_match (setting same_keys same_keys (HoldsCome P n) n Comes P Q c Z answered) (HoldsCome P n) (turns_in same_keys same_keys (HoldsCome P n) n Comes P Q c Z answered) s stands frame me me' im false (no_own me) (no_own me') A b b' B x.0
    (λ u u' v v' i j k m. comes_crossed P.rows x.0.piece_accesses x.0.e_accesses u u' v v' i j k m x.1) l l' h)))

-- read from the program without the local
gone : {K : Keys} (n : ℕ) (P Q : Program K) → ProgramTo same_keys (HoldsGo P n) P Q → Alike same_keys (λ u t. Reordered t u) n P Q
gone {K = K} n P Q to =
    let c : Changes same_keys same_keys (HoldsGo P n) n Goes P Q = record { there = same_undoes; joins = goes_joins; images = goes_images; programs = to } in
    alike same_keys same_keys same_undoes n Goes (λ u t. Reordered t u) (λ t u e. e) P Q to.rows.field_kind
    (starts_match same_keys (HoldsGo P n) n Goes P Q (programs_match same_keys same_keys (HoldsGo P n) n Goes P Q c
    (λ Z tables answered s stands frame me me' im A b b' B x l l' h.
    calm_match (setting same_keys same_keys (HoldsGo P n) n Goes P Q c Z answered) (HoldsGo P n) (turns_in same_keys same_keys (HoldsGo P n) n Goes P Q c Z answered) s stands frame me me' im false (no_own me) (no_own me') A b b' B x.0
    (λ u u' v v' i j k m. goes_crossed P.rows x.0.piece_accesses x.0.e_accesses u u' v v' i j k m x.1) l l' h)))

pub calm_locals_go : {K : Keys} (n : ℕ) (P Q : Program K) → Q.rows ≡ P.rows → ProgramTo same_keys (HoldsGo P n) P Q → AlikeReordered same_keys n Q P
calm_locals_go n P Q rows to = turned (λ u t. Reordered t u) n P Q rows (gone n P Q to)
