-- Going through the shapes of a way leaves one piece more, which is the way's flow, and its edges.
--
-- By induction on the way: each part leaves its piece (`after`), and the shape behind them joins
-- what is on the stack. Numbers are made the same by `omega`, lists by `append_assoc`.
use Rattle.std.proofs.Common.{◌≡◌, ℕ, zero, suc, ◌+◌, ◌-◌, ◌≤◌, true, false, List, [], ◌∷◌, ◌++◌, refl, sym, ap, ◌∙◌, append_assoc, arith}
use Rattle.std.specs.Prelude.{nat_eq}
use Rattle.std.proofs.lemmas.Bool.{eq-eqb, ne_eqb}
use Rattle.std.proofs.lemmas.List.{append-nil}
use Rattle.jr_cover.specs.Ways.{Way, pass, one, row, fork, leave, turns, inside, size}
use Rattle.jr_cover.specs.Flows.{Flow, product, flow_of, turns_flow}
use Rattle.jr_way_graph.specs.declared.shapes.Shape.{Shape}
use Rattle.jr_way_graph.specs.declared.shapes.Shape.TheVariants as shape
use Rattle.jr_way_graph.specs.Shapes.{shapes_of}
use Rattle.jr_way_graph.specs.Pieces.{Piece, Machine, piece_of, turns_piece, turns_edges, loop_piece, loop_edges, inside_edges, inside_piece, step, run, none, joined, closed, row_piece, row_edges, fork_piece, no_edges}

abbrev Edges : Type 0
Edges = List (ℕ × ℕ)

abbrev machine : ℕ → List Piece → Edges → Machine
machine n s e = record { count = n; stack = s; edges = e }

same : (k l : ℕ) (s t : List Piece) (e f : Edges) → k ≡ l → s ≡ t → e ≡ f → machine k s e ≡ machine l t f
same k l s t e f p q r = λ i. machine (p i) (q i) (r i)

-- what the shapes of a way leave
abbrev pub after : {S : Type 0} → Way S → Machine → Machine
after w m = machine (m.count + size w) (piece_of m.count (flow_of m.count w) ∷ m.stack) (m.edges ++ (flow_of m.count w).edges)

run_append : (xs ys : List Shape) (m : Machine) → run (xs ++ ys) m ≡ run ys (run xs m)
run_append [] ys m = refl
run_append (x ∷ xs) ys m = run_append xs ys (step x m)

pub run_more : (xs : List Shape) (x : Shape) (m : Machine) → run (xs ++ x ∷ []) m ≡ step x (run xs m)
run_more xs x m = run_append xs (x ∷ []) m

joined_count : (P : Piece → Piece → Piece) (E : Piece → Piece → Edges) (m : Machine) (s : List Piece) → (joined P E m s).count ≡ m.count
joined_count P E m [] = refl
joined_count P E m (g ∷ []) = refl
joined_count P E m (g ∷ f ∷ rest) = refl

closed_count : (m : Machine) (s : List Piece) → (closed m s).count ≡ m.count + 1
closed_count m [] = refl
closed_count m (g ∷ rest) = refl

-- a step has one site more at most
pub step_count : (x : Shape) (m : Machine) → (step x m).count ≤ m.count + 1
step_count shape.Pass m = omega arith
step_count shape.Site m = omega arith
step_count shape.Opens m = omega arith
step_count shape.Row m = let e = joined_count row_piece row_edges m m.stack in omega (arith, e)
step_count shape.Fork m = let e = joined_count fork_piece no_edges m m.stack in omega (arith, e)
step_count shape.Leave m = omega arith
step_count shape.Turns m = let e = joined_count loop_piece loop_edges m m.stack in omega (arith, e)
step_count shape.Closes m = let e = closed_count m m.stack in omega (arith, e)

three : (m a b c : Edges) → ((m ++ a) ++ b) ++ c ≡ m ++ (a ++ (b ++ c))
three m a b c = append_assoc (m ++ a) b c ∙ append_assoc m a (b ++ c)

-- ---- a loop, whose condition f has k sites, and a monitor

loop_joined : (k n : ℕ) (f g : Flow) → loop_piece (piece_of (suc n) f) (piece_of (suc n + k) g) ≡ piece_of n (turns_flow k n f g)
loop_joined zero n f g =
    let bare : nat_eq (suc n + zero) (suc n) ≡ true = eq-eqb (suc n + zero) (suc n) (omega arith) in
    let number : suc n - 1 ≡ n = omega arith in
    λ i. turns_piece (bare i) (number i) (piece_of (suc n) f) (piece_of (suc n + zero) g)
loop_joined (suc k) n f g =
    let bare : nat_eq (suc n + suc k) (suc n) ≡ false = ne_eqb (suc n + suc k) (suc n) (λ e. omega (arith, e)) in
    let number : suc n - 1 ≡ n = omega arith in
    λ i. turns_piece (bare i) (number i) (piece_of (suc n) f) (piece_of (suc n + suc k) g)

-- the edges that a loop puts behind those of its parts
loop_added : (k n : ℕ) (f g : Flow) → f.edges ++ (g.edges ++ loop_edges (piece_of (suc n) f) (piece_of (suc n + k) g)) ≡ (turns_flow k n f g).edges
loop_added zero n f g =
    let bare : nat_eq (suc n + zero) (suc n) ≡ true = eq-eqb (suc n + zero) (suc n) (omega arith) in
    let number : suc n - 1 ≡ n = omega arith in
    λ i. f.edges ++ (g.edges ++ turns_edges (bare i) (number i) (piece_of (suc n) f) (piece_of (suc n + zero) g))
loop_added (suc k) n f g =
    let bare : nat_eq (suc n + suc k) (suc n) ≡ false = ne_eqb (suc n + suc k) (suc n) (λ e. omega (arith, e)) in
    let number : suc n - 1 ≡ n = omega arith in
    λ i. f.edges ++ (g.edges ++ turns_edges (bare i) (number i) (piece_of (suc n) f) (piece_of (suc n + suc k) g))

-- ---- all shapes of a way

pub leaves_flow : {S : Type 0} (w : Way S) (m : Machine) → run (shapes_of w) m ≡ after w m
leaves_flow pass m = same (m.count + 0) (m.count + 0) _ _ m.edges (m.edges ++ []) refl refl (sym (append-nil m.edges))
leaves_flow (one s) m = same (m.count + 1) (m.count + 1) _ _ m.edges (m.edges ++ []) refl refl (sym (append-nil m.edges))
leaves_flow (row a b) m =
    let n = m.count in
    let f = flow_of n a in
    let g = flow_of (n + size a) b in
    run_append (shapes_of a) (shapes_of b ++ shape.Row ∷ []) m
    ∙ ap (run (shapes_of b ++ shape.Row ∷ [])) (leaves_flow a m)
    ∙ run_append (shapes_of b) (shape.Row ∷ []) (after a m)
    ∙ ap (run (shape.Row ∷ [])) (leaves_flow b (after a m))
    ∙ same ((n + size a) + size b) (n + (size a + size b)) _ _ _ _ (omega arith) refl (three m.edges f.edges g.edges (product f.lasts g.firsts))
leaves_flow (fork a b) m =
    let n = m.count in
    let f = flow_of n a in
    let g = flow_of (n + size a) b in
    run_append (shapes_of a) (shapes_of b ++ shape.Fork ∷ []) m
    ∙ ap (run (shapes_of b ++ shape.Fork ∷ [])) (leaves_flow a m)
    ∙ run_append (shapes_of b) (shape.Fork ∷ []) (after a m)
    ∙ ap (run (shape.Fork ∷ [])) (leaves_flow b (after a m))
    ∙ same ((n + size a) + size b) (n + (size a + size b)) _ _ _ _ (omega arith) refl (append-nil ((m.edges ++ f.edges) ++ g.edges) ∙ append_assoc m.edges f.edges g.edges)
leaves_flow leave m = same (m.count + 0) (m.count + 0) _ _ m.edges (m.edges ++ []) refl refl (sym (append-nil m.edges))
leaves_flow (turns s c b) m =
    let n = m.count in
    let opened : Machine = machine (suc n) m.stack m.edges in
    let f = flow_of (suc n) c in
    let g = flow_of (suc n + size c) b in
    run_append (shapes_of c) (shapes_of b ++ shape.Turns ∷ []) opened
    ∙ ap (run (shapes_of b ++ shape.Turns ∷ [])) (leaves_flow c opened)
    ∙ run_append (shapes_of b) (shape.Turns ∷ []) (after c opened)
    ∙ ap (run (shape.Turns ∷ [])) (leaves_flow b (after c opened))
    ∙ same ((suc n + size c) + size b) (n + suc (size c + size b)) _ _ _ _ (omega arith)
    (ap (λ (p : Piece). p ∷ m.stack) (loop_joined (size c) n f g))
    (three m.edges f.edges g.edges (loop_edges (piece_of (suc n) f) (piece_of (suc n + size c) g)) ∙ ap (λ (e : Edges). m.edges ++ e) (loop_added (size c) n f g))
leaves_flow (inside e b x) m =
    let n = m.count in
    let opened : Machine = machine (suc n) m.stack m.edges in
    let g = flow_of (suc n) b in
    let entry : suc n - 1 ≡ n = omega arith in
    run_append (shapes_of b) (shape.Closes ∷ []) opened
    ∙ ap (run (shape.Closes ∷ [])) (leaves_flow b opened)
    ∙ same ((suc n + size b) + 1) (n + suc (suc (size b))) _ _ _ _ (omega arith)
    (λ i. inside_piece (entry i) (suc n + size b) (piece_of (suc n) g) ∷ m.stack)
    (append_assoc m.edges g.edges (inside_edges (suc n - 1) (suc n + size b) (piece_of (suc n) g))
    ∙ (λ i. m.edges ++ (g.edges ++ inside_edges (entry i) (suc n + size b) (piece_of (suc n) g))))

-- from nothing on
pub flows_run : {S : Type 0} (w : Way S) → run (shapes_of w) none ≡ machine (0 + size w) (piece_of 0 (flow_of 0 w) ∷ []) (flow_of 0 w).edges
flows_run w = leaves_flow w none
