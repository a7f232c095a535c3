-- The statement, in which the name comes, and those behind it.
use Rattle.std.proofs.Common.{◌≡◌, ℕ, zero, suc, ◌+◌, ◌-◌, ◌≤◌, List, [], ◌∷◌, ◌++◌, take, length, refl, sym, ap, subst, ◌∙◌, arith}
use Rattle.jr_text.specs.declared.spans.Span.{Span}
use Rattle.jr_ast.specs.StatementTree as statement
use Rattle.jr_ast.specs.Marks.{exp_mark}
use Rattle.jr_grammar.specs.Layout.{itself}
use Rattle.jr_table.specs.Context.{after, locals_in}
use Rattle.jr_bind.specs.Programs.{Program}
use Rattle.jr_pieces.specs.Finding.{stmt_path, list_path}
use Rattle.jr_rewrite.specs.Rewritten.{Rewritten, change}
use Rattle.jr_rewrite.specs.Rewrites.{TransformsStmt, TransformsList}
use Rattle.jr_images.specs.Spelling.{choosing as chosen_by}
use Rattle.jr_new_words.specs.Mappings.{Renumbering, region_of}
use Rattle.jr_new_bodies.specs.declared.here.Here as raw_here
use Rattle.jr_new_bodies.specs.Known.{rows_of, context_of, mapping_of}
use Rattle.jr_new_bodies.specs.Ready.{StmtReady, StmtsReady, StmtReadyIn, StmtsReadyIn}
use Rattle.jr_new_bodies.specs.Bodies.{StmtGathers, StmtsGather}
use Rattle.jr_new_bodies.specs.Effects.{Effect}
use Rattle.jr_new_bodies.specs.Spotting.{PartSpot, at_parts, no_spots, Unseen, spots_of}
use Rattle.jr_new_bodies.specs.SpotView.{spotting_of}
use Rattle.jr_bodies.specs.Bodies.{begins}
use Rattle.jr_local.specs.Extracted.{name_tree}
use Rattle.jr_local_ways.specs.ReadyWays.{ElementReady}
use Rattle.jr_local_parts.specs.declared.elements.ElementPlace.{ElementPlace}
use Rattle.jr_local_walks.specs.Mappings.{moved, behind}
use Rattle.jr_local_walks.specs.Walked.{number, NamesPiece, ExtractIsWalked}
use Rattle.jr_local_premises.specs.SelectedPremises.{SelectedAreReady}
use Rattle.jr_extract_lists.specs.declared.targets.Target as raw
use Rattle.jr_extract_lists.specs.Targets.{IsTarget}
use Rattle.jr_extract_lists.specs.Walked.{it, held, depth, from_there, AtStatement, AtRest, IsElement, PutsName, GivesFirst, GivesRest}
use Rattle.jr_extract_lists.proofs.Places.{path_is}
use Rattle.jr_extract_lists.proofs.Pieces.{Anywhere, Where, Chooses, chooses_of}

-- ---- paths

pub taken : (front tail : List ℕ) (step n : ℕ) → suc (length front) ≡ n → take n (front ++ step ∷ tail) ≡ front ++ step ∷ []
taken [] tail step zero e = absurd (omega (arith, e))
taken [] tail step (suc zero) e = refl
taken [] tail step (suc (suc n)) e = let l : 1 ≡ suc (suc n) = e in absurd (omega (arith, l))
taken (i ∷ front) tail step zero e = absurd (omega (arith, e))
taken (i ∷ front) tail step (suc n) e = ap (λ (l : List ℕ). i ∷ l) (taken front tail step n (let d : suc (length front) ≡ n = omega (arith, e) in d))

pub before_it : (front tail : List ℕ) (step n : ℕ) → suc (length front) ≡ n → take (n - 1) (front ++ step ∷ tail) ≡ front
before_it front tail step n e = by front (n - 1) (let d : length front ≡ n - 1 = omega (arith, e) in d)
  where
    by : (us : List ℕ) (k : ℕ) → length us ≡ k → take k (us ++ step ∷ tail) ≡ us
    by [] zero e = refl
    by [] (suc k) e = let l : 0 ≡ suc k = e in absurd (omega (arith, l))
    by (u ∷ us) zero e = absurd (omega (arith, e))
    by (u ∷ us) (suc k) e = ap (λ (l : List ℕ). u ∷ l) (by us k (let d : length us ≡ k = omega (arith, e) in d))

pub long : (front tail : List ℕ) (step n : ℕ) → suc (length front) ≡ n → n ≤ length (front ++ step ∷ tail)
long [] tail step n e = omega (arith, e)
long (i ∷ front) tail step zero e = absurd (omega (arith, e))
long (i ∷ front) tail step (suc n) e = let l : n ≤ length (front ++ step ∷ tail) = long front tail step n (let d : suc (length front) ≡ n = omega (arith, e) in d) in omega (arith, l)

module _ (p : Program Span) (t : raw.Target) (x : IsTarget p t) (at : ElementPlace) (e : IsElement x at) (ready : SelectedAreReady) where
  abbrev items : List ℕ
  items = t.path.now.steps.items

  pub front_path : take at.depth items ≡ e.front ++ at.step ∷ []
  front_path = ap (take at.depth) e.path ∙ taken e.front (stmt_path (held x).way) at.step at.depth e.steps

  pub around_path : take (at.depth - 1) items ≡ e.front
  around_path = ap (take (at.depth - 1)) e.path ∙ before_it e.front (stmt_path (held x).way) at.step at.depth e.steps

  pub deep : at.depth ≤ length items
  deep = subst (λ (l : List ℕ). at.depth ≤ length l) (sym e.path) (long e.front (stmt_path (held x).way) at.step at.depth e.steps)

  element_ready : ElementReady itself Anywhere p.rows (it x).body.bound (it x).body.at.base (list_path (it x).body.front (it x).way) (held x) e.front at.step
  element_ready = (ready p x.program t.request.file t.request.from t.request.to t.request.name.now (it x)).element_ready e.front at.step (sym (path_is p t x) ∙ e.path)

  pub first_ready : (h : raw_here.Here) → AtStatement x (from_there x) h → StmtReady itself Anywhere h at.next (take at.depth items) at.base (held x).stmt
  first_ready h a =
      subst (λ (q : List ℕ). StmtReadyIn itself Anywhere (rows_of h) h.bound.now h.from at.next (context_of h) q at.base (held x).stmt) (sym front_path)
      (subst (λ (w : Where). StmtReadyIn itself Anywhere w.rows w.bound w.from at.next w.context (e.front ++ at.step ∷ []) at.base (held x).stmt)
      (λ i. record { rows = sym a.rows i; bound = sym a.bound i; from = sym a.from_is i; context = sym a.context i })
      (subst (λ (n : ℕ). StmtReadyIn itself Anywhere p.rows (it x).body.bound (it x).body.at.base n (held x).at.context (e.front ++ at.step ∷ []) at.base (held x).stmt) e.next
      (subst (λ (b : ℕ). StmtReadyIn itself Anywhere p.rows (it x).body.bound (it x).body.at.base (held x).at.next (held x).at.context (e.front ++ at.step ∷ []) b (held x).stmt) e.base element_ready.stmt)))

  pub rest_ready : (h : raw_here.Here) (n : ℕ) → AtRest x h n → StmtsReady itself Anywhere h n (take (at.depth - 1) items) (at.step + 1) at.base (held x).rest
  rest_ready h n a =
      subst (λ (q : List ℕ). StmtsReadyIn itself Anywhere (rows_of h) h.bound.now h.from n (context_of h) q (at.step + 1) at.base (held x).rest) (sym around_path)
      (subst (λ (w : Where). StmtsReadyIn itself Anywhere w.rows w.bound w.from n w.context e.front (at.step + 1) at.base (held x).rest)
      (λ i. record { rows = sym a.rows i; bound = sym a.bound i; from = sym a.from_is i; context = sym a.context i })
      (subst (λ (k : ℕ). StmtsReadyIn itself Anywhere p.rows (it x).body.bound (it x).body.at.base k (after (held x).at.next (held x).at.context (held x).stmt) e.front (at.step + 1) at.base (held x).rest) (sym a.number)
      (subst (λ (b : ℕ). StmtsReadyIn itself Anywhere p.rows (it x).body.bound (it x).body.at.base ((held x).at.next + locals_in (held x).stmt) (after (held x).at.next (held x).at.context (held x).stmt) e.front (at.step + 1) b (held x).rest) e.base element_ready.rest)))

-- ---- what becomes of them

module _ (p : Program Span) (t : raw.Target) (x : IsTarget p t) (ready : SelectedAreReady) (walked : ExtractIsWalked) where
  abbrev name : List ℕ
  name = t.request.name.now

  numbers_are : from_there x ≡ behind (number p t.request.file t.request.from t.request.to name (it x)) name (it x).type (depth x)
  numbers_are = λ i. behind (sym x.found.next i) name (x.type i) (depth x)

  -- the name comes at the spot
  abbrev unseen : Unseen Span
  unseen = record { super_at = λ c. p.super_at c.member; part = λ at least. name_tree name (exp_mark (it x).value) }

  names_piece : (ps : List PartSpot) (h : PutsName x ps) → NamesPiece p t.request.file t.request.from t.request.to name (it x) t.items.now h.one unseen
  names_piece ps h = record {
    at = h.at;
    puts = λ least i. record { tree = name_tree name (exp_mark (it x).value); changes = change (h.at i) (h.text least i) ∷ []; respelled = h.count i; losses = [] };
    alone = (ready p x.program t.request.file t.request.from t.request.to name (it x)).alone;
  }

  abbrev First : Chooses → (n base : ℕ) → Rewritten (statement.Stmt Span) → Type 0
  First w n base o = TransformsStmt itself (chosen_by begins w.rows (region_of w.rows w.mapping) unseen.super_at) (spots_of itself unseen w.spots) n w.context base (held x).stmt o

  pub first_gives : (h : raw_here.Here) (n base : ℕ) (ps : List PartSpot) → rows_of h ≡ p.rows → mapping_of h ≡ moved p.rows (from_there x) → context_of h ≡ (held x).at.context → spotting_of h.spots ≡ at_parts ps → (held x).at.next ≡ n → (held x).at.base ≡ base
      → PutsName x ps → (old new : Effect) → StmtGathers itself h n base (held x).stmt old new → GivesFirst x old new
  first_gives h n base ps rows mapping context spots next at puts old new gathers =
      let g = gathers unseen in
      let of = ready p x.program t.request.file t.request.from t.request.to name (it x) in
      let there : Chooses = record { rows = p.rows; mapping = moved p.rows (from_there x); spots = at_parts ps; context = (held x).at.context } in
      let chooses : chooses_of h ≡ there = λ i. record { rows = rows i; mapping = mapping i; spots = spots i; context = context i } in
      let a = subst (λ (w : Chooses). First w n base g.0) chooses g.1 in
      let b = subst (λ (k : ℕ). First there k base g.0) (sym next) a in
      let c = subst (λ (k : ℕ). First there (held x).at.next k g.0) (sym at) b in
      let d = subst (λ (qs : List PartSpot). First (record { rows = p.rows; mapping = moved p.rows (from_there x); spots = at_parts qs; context = (held x).at.context }) (held x).at.next (held x).at.base g.0) puts.is c in
      let e = subst (λ (r : Renumbering). First (record { rows = p.rows; mapping = moved p.rows r; spots = at_parts (puts.one ∷ []); context = (held x).at.context }) (held x).at.next (held x).at.base g.0) numbers_are d in
      (g.0, (walked p t.request.file t.request.from t.request.to name (it x)).1 (depth x) unseen.super_at t.items.now puts.one unseen g.0 of.typed of.ordered (names_piece ps puts) e, g.2)

  abbrev Rest : Chooses → (n base : ℕ) → Rewritten (statement.Stmts Span) → Type 0
  Rest w n base o = TransformsList itself (chosen_by begins w.rows (region_of w.rows w.mapping) unseen.super_at) (spots_of itself unseen w.spots) n w.context base (held x).rest o

  pub rest_gives : (h : raw_here.Here) (n base : ℕ) → AtRest x h n → spotting_of h.spots ≡ no_spots → (held x).at.base ≡ base → (old new : Effect) → StmtsGather itself h n base (held x).rest old new → GivesRest x old new
  rest_gives h n base a spots at old new gathers =
      let g = gathers unseen in
      let of = ready p x.program t.request.file t.request.from t.request.to name (it x) in
      let behind_it = after (held x).at.next (held x).at.context (held x).stmt in
      let there : Chooses = record { rows = p.rows; mapping = moved p.rows (from_there x); spots = no_spots; context = behind_it } in
      let chooses : chooses_of h ≡ there = λ i. record { rows = a.rows i; mapping = a.mapping i; spots = spots i; context = a.context i } in
      let b = subst (λ (w : Chooses). Rest w n base g.0) chooses g.1 in
      let c = subst (λ (k : ℕ). Rest there k base g.0) a.number b in
      let d = subst (λ (k : ℕ). Rest there ((held x).at.next + locals_in (held x).stmt) k g.0) (sym at) c in
      let e = subst (λ (r : Renumbering). Rest (record { rows = p.rows; mapping = moved p.rows r; spots = no_spots; context = behind_it }) ((held x).at.next + locals_in (held x).stmt) (held x).at.base g.0) numbers_are d in
      (g.0, (walked p t.request.file t.request.from t.request.to name (it x)).2 (depth x) unseen.super_at g.0 of.typed of.ordered e, g.2)
