-- Edges and the stack of pieces grow.
use Rattle.std.proofs.Common.{◌≡◌, ℕ, ◌+◌, ◌-◌, List, [], ◌∷◌, ◌++◌, refl, sym, ap, ◌∙◌, append_assoc}
use Rattle.std.proofs.lemmas.List.{append-nil}
use Rattle.jr_cover.specs.Flows.{fan, product}
use Rattle.jr_way_graph.specs.declared.pieces.Piece.{Piece}
use Rattle.jr_way_graph.specs.PieceView.{piece_view, onto, stack_view}
use Rattle.jr_way_graph.specs.Pieces as pure

abbrev Edges : Type 0
Edges = List (ℕ × ℕ)

fan_more : (i j : ℕ) (js : List ℕ) → fan i (js ++ j ∷ []) ≡ fan i js ++ (i, j) ∷ []
fan_more i j [] = refl
fan_more i j (k ∷ js) = ap (λ (e : Edges). (i, k) ∷ e) (fan_more i j js)

product_more : (i : ℕ) (is js : List ℕ) → product (is ++ i ∷ []) js ≡ product is js ++ fan i js
product_more i [] js = append-nil (fan i js)
product_more i (k ∷ is) js = ap (λ (e : Edges). fan k js ++ e) (product_more i is js) ∙ sym (append_assoc (fan k js) (product is js) (fan i js))

pub fan_goes : (start now new : Edges) (i j : ℕ) (js ks : List ℕ) → now ≡ start ++ fan i js → new ≡ now ++ (i, j) ∷ [] → ks ≡ js ++ j ∷ [] → new ≡ start ++ fan i ks
fan_goes start now new i j js ks so_far one more =
    one ∙ ap (λ (e : Edges). e ++ (i, j) ∷ []) so_far ∙ append_assoc start (fan i js) ((i, j) ∷ [])
    ∙ ap (λ (e : Edges). start ++ e) (sym (fan_more i j js)) ∙ ap (λ (l : List ℕ). start ++ fan i l) (sym more)

pub product_goes : (start now new : Edges) (i : ℕ) (is ks js : List ℕ) → now ≡ start ++ product is js → new ≡ now ++ fan i js → ks ≡ is ++ i ∷ [] → new ≡ start ++ product ks js
product_goes start now new i is ks js so_far one more =
    one ∙ ap (λ (e : Edges). e ++ fan i js) so_far ∙ append_assoc start (product is js) (fan i js)
    ∙ ap (λ (e : Edges). start ++ e) (sym (product_more i is js)) ∙ ap (λ (l : List ℕ). start ++ product l js) (sym more)

-- ---- the stack

onto-append : (ps : List Piece) (p : Piece) (below : List pure.Piece) → onto (ps ++ p ∷ []) below ≡ piece_view p ∷ onto ps below
onto-append [] p below = refl
onto-append (q ∷ ps) p below = onto-append ps p (piece_view q ∷ below)

pub pushed : (ps qs : List Piece) (p : Piece) → qs ≡ ps ++ p ∷ [] → stack_view qs ≡ piece_view p ∷ stack_view ps
pushed ps qs p e = ap stack_view e ∙ onto-append ps p []

abbrev machine : ℕ → List pure.Piece → Edges → pure.Machine
machine n s e = record { count = n; stack = s; edges = e }

pub push_goes : (count more next : ℕ) (edges : Edges) (ps qs : List Piece) (p : Piece) → qs ≡ ps ++ p ∷ [] → next ≡ count + more
    → machine next (stack_view qs) edges ≡ pure.pushed more (piece_view p) (machine count (stack_view ps) edges)
push_goes count more next edges ps qs p e same = λ i. machine (same i) (pushed ps qs p e i) edges

module _ (P : pure.Piece → pure.Piece → pure.Piece) (E : pure.Piece → pure.Piece → Edges) (count : ℕ) (old mid rest new : List Piece) (edges after : Edges) (f g p : Piece) where
  -- the last two, f and then g, have become one
  pub join_goes : old ≡ mid ++ g ∷ [] → mid ≡ rest ++ f ∷ [] → new ≡ rest ++ p ∷ [] → piece_view p ≡ P (piece_view f) (piece_view g) → after ≡ edges ++ E (piece_view f) (piece_view g)
      → machine count (stack_view new) after ≡ pure.joined P E (machine count (stack_view old) edges) (stack_view old)
  join_goes last next made is added =
      let there : stack_view old ≡ piece_view g ∷ (piece_view f ∷ stack_view rest) = pushed mid old g last ∙ ap (λ (s : List pure.Piece). piece_view g ∷ s) (pushed rest mid f next) in
      let here : stack_view new ≡ P (piece_view f) (piece_view g) ∷ stack_view rest = pushed rest new p made ∙ ap (λ (q : pure.Piece). q ∷ stack_view rest) is in
      (λ i. machine count (here i) (added i)) ∙ ap (λ (s : List pure.Piece). pure.joined P E (machine count (stack_view old) edges) s) (sym there)

pub close_goes : (count next : ℕ) (old rest new : List Piece) (edges after : Edges) (g p : Piece) → next ≡ count + 1 → old ≡ rest ++ g ∷ [] → new ≡ rest ++ p ∷ [] → piece_view p ≡ pure.inside_piece ((piece_view g).begin - 1) count (piece_view g)
    → after ≡ edges ++ pure.inside_edges ((piece_view g).begin - 1) count (piece_view g) → machine next (stack_view new) after ≡ pure.closed (machine count (stack_view old) edges) (stack_view old)
close_goes count next old rest new edges after g p more last made is added =
    let here : stack_view new ≡ pure.inside_piece ((piece_view g).begin - 1) count (piece_view g) ∷ stack_view rest = pushed rest new p made ∙ ap (λ (q : pure.Piece). q ∷ stack_view rest) is in
    (λ i. machine (more i) (here i) (added i)) ∙ ap (λ (s : List pure.Piece). pure.closed (machine count (stack_view old) edges) s) (sym (pushed rest old g last))
