-- Walks of the statement and of those behind it, step by step.
use Rattle.std.proofs.Common.{◌≡◌, ℕ, ◌+◌, ◌-◌, ◌≤◌, List, take, length, sym, ap, subst, ◌∙◌, arith}
use Rattle.std.proofs.lemmas.List.{append_assoc}
use Rattle.jr_text.specs.declared.spans.Span.{Span}
use Rattle.jr_ast.specs.StatementTree as statement
use Rattle.jr_ast.specs.View.{stmts_of}
use Rattle.jr_grammar.specs.Layout.{itself}
use Rattle.jr_table.specs.Context.{after, locals_in}
use Rattle.jr_bind.specs.Programs.{Program}
use Rattle.jr_new_bodies.specs.declared.here.Here as raw_here
use Rattle.jr_new_bodies.specs.declared.spots.Spots as raw_spots
use Rattle.jr_new_bodies.specs.Known.{IsKnown}
use Rattle.jr_new_bodies.specs.Ready.{StmtReady, StmtsReady}
use Rattle.jr_new_bodies.specs.Bodies.{StmtGathers, StmtsGather}
use Rattle.jr_new_bodies.specs.Moves.{StmtPasses, BodyPasses}
use Rattle.jr_new_bodies.specs.Effects.{Effect, both, effect_of}
use Rattle.jr_new_bodies.specs.Spotting.{PartSpot, at_parts, no_spots}
use Rattle.jr_new_bodies.specs.SpotView.{spotting_of}
use Rattle.jr_local_parts.specs.declared.elements.ElementPlace.{ElementPlace}
use Rattle.jr_local_walks.specs.Walked.{ExtractIsWalked}
use Rattle.jr_local_premises.specs.SelectedPremises.{SelectedAreReady}
use Rattle.jr_extract_lists.specs.declared.targets.Target as raw
use Rattle.jr_extract_lists.specs.Targets.{IsTarget}
use Rattle.jr_extract_lists.specs.Walked.{CanWalk, WalksStatements, WalksRest, with_spots, from_there, AtStatement, AtRest, IsElement, PutsName, GivesFirst, GivesRest, PassesFirst, IsListed}
use Rattle.jr_extract_lists.proofs.Pieces.{Anywhere}
use Rattle.jr_extract_lists.proofs.Lists.{deep, first_ready, rest_ready, first_gives, rest_gives}
use Rattle.jr_extract_lists.proofs.Walking.{first_is, rest_is}

pub statements_can : (t : raw.Target) (at : ElementPlace) (h : raw_here.Here) (ps : List PartSpot) → WalksStatements t at h ps → CanWalk t
statements_can t at h ps (p, (x, (a, e, puts))) = (p, (x, tt))

pub rest_can : (t : raw.Target) (at : ElementPlace) (h : raw_here.Here) (n : ℕ) → WalksRest t at h n → CanWalk t
rest_can t at h n (p, (x, (a, e))) = (p, (x, tt))

pub statements_deep : SelectedAreReady → (t : raw.Target) (at : ElementPlace) (h : raw_here.Here) (ps : List PartSpot) → WalksStatements t at h ps → at.depth ≤ length t.path.now.steps.items
statements_deep ready t at h ps (p, (x, (a, e, puts))) = deep p t x at e ready

module _ (ready : SelectedAreReady) (t : raw.Target) (at : ElementPlace) (h i : raw_here.Here) (s : statement.Stmt Span) (ss : statement.Stmts Span) (is : stmts_of t.list.now ≡ statement.more s ss) where
  pub first_may : (spots : raw_spots.Spots) → i ≡ with_spots h spots → (ps : List PartSpot) → WalksStatements t at h ps → (path : List ℕ) → path ≡ take at.depth t.path.now.steps.items → StmtReady itself Anywhere i at.next path at.base s
  first_may spots same ps (p, (x, (a, e, puts))) path path_is =
      subst (λ (j : raw_here.Here). StmtReady itself Anywhere j at.next path at.base s) (sym same)
      (subst (λ (q : List ℕ). StmtReady itself Anywhere (with_spots h spots) at.next q at.base s) (sym path_is)
      (subst (λ (y : statement.Stmt Span). StmtReady itself Anywhere (with_spots h spots) at.next (take at.depth t.path.now.steps.items) at.base y) (sym (first_is p t x s ss is)) (first_ready p t x at e ready h a)))

  pub rest_may : (spots : raw_spots.Spots) → i ≡ with_spots h spots → (n : ℕ) → WalksRest t at h n → (path : List ℕ) (step : ℕ) → path ≡ take (at.depth - 1) t.path.now.steps.items → step ≡ at.step + 1 → StmtsReady itself Anywhere i n path step at.base ss
  rest_may spots same n (p, (x, (a, e))) path step path_is step_is =
      subst (λ (j : raw_here.Here). StmtsReady itself Anywhere j n path step at.base ss) (sym same)
      (subst (λ (q : List ℕ). StmtsReady itself Anywhere (with_spots h spots) n q step at.base ss) (sym path_is)
      (subst (λ (k : ℕ). StmtsReady itself Anywhere (with_spots h spots) n (take (at.depth - 1) t.path.now.steps.items) k at.base ss) (sym step_is)
      (subst (λ (ys : statement.Stmts Span). StmtsReady itself Anywhere (with_spots h spots) n (take (at.depth - 1) t.path.now.steps.items) (at.step + 1) at.base ys) (sym (rest_is p t x s ss is)) (rest_ready p t x at e ready h n a))))

  module _ (walked : ExtractIsWalked) (p : Program Span) (x : IsTarget p t) (e : IsElement x at) (old new : Effect) (j : raw_here.Here) where
    pub first_passes : (spots : raw_spots.Spots) → i ≡ with_spots h spots → (ps : List PartSpot) → spotting_of spots ≡ at_parts ps → AtStatement x (from_there x) h → PutsName x ps → (n : ℕ) → StmtPasses itself at.next i at.base s n j old new → PassesFirst x n h j old new
    first_passes spots same ps spots_are a puts n passes =
        let q = subst (λ (k : raw_here.Here). StmtPasses itself at.next k at.base s n j old new) same passes in
        let it_is = first_is p t x s ss is in
        record {
          behind = record {
            number = q.number ∙ (λ k. sym e.next k + locals_in (it_is k));
            known = q.goes.known;
            context = q.goes.context ∙ (λ k. after (sym e.next k) (a.context k) (it_is k));
            rows = q.goes.rows ∙ a.rows;
            mapping = q.goes.mapping ∙ a.mapping;
            bound = q.goes.bound ∙ a.bound;
            from_is = q.goes.from_is ∙ a.from_is;
          };
          gives = first_gives p t x ready walked (with_spots h spots) at.next at.base ps a.rows a.mapping a.context spots_are e.next e.base puts old new
              (subst (λ (y : statement.Stmt Span). StmtGathers itself (with_spots h spots) at.next at.base y old new) it_is q.gives);
        }

    pub rest_passes : (spots : raw_spots.Spots) → i ≡ with_spots h spots → spotting_of spots ≡ no_spots → (n : ℕ) → AtRest x h n → (k : ℕ) → BodyPasses itself n i at.base ss k j old new → GivesRest x old new
    rest_passes spots same none n a k passes =
        let q = subst (λ (l : raw_here.Here). BodyPasses itself n l at.base ss k j old new) same passes in
        let after_it : AtRest x (with_spots h spots) n = record { number = a.number; known = a.known; context = a.context; rows = a.rows; mapping = a.mapping; bound = a.bound; from_is = a.from_is } in
        rest_gives p t x ready walked (with_spots h spots) n at.base after_it none e.base old new
        (subst (λ (ys : statement.Stmts Span). StmtsGather itself (with_spots h spots) n at.base ys old new) (rest_is p t x s ss is) q.gives)

-- ---- both

-- the statement is passed, of whichever program this is
abbrev pub Passes : (t : raw.Target) (at : ElementPlace) (h i : raw_here.Here) (ps : List PartSpot) (n : ℕ) (old new : Effect) → Type 0
Passes t at h i ps n old new = (p : Program Span) (x : IsTarget p t) → AtStatement x (from_there x) h → IsElement x at → PutsName x ps → PassesFirst x n h i old new

pub first_known : (t : raw.Target) (at : ElementPlace) (h i : raw_here.Here) (ps : List PartSpot) (n : ℕ) (old new : Effect) → WalksStatements t at h ps → Passes t at h i ps n old new → IsKnown i
first_known t at h i ps n old new (p, (x, (a, e, puts))) passes = (passes p x a e puts).behind.known

pub first_then : (t : raw.Target) (at : ElementPlace) (h i : raw_here.Here) (ps : List PartSpot) (n : ℕ) (old new : Effect) → WalksStatements t at h ps → Passes t at h i ps n old new → WalksRest t at i n
first_then t at h i ps n old new (p, (x, (a, e, puts))) passes = (p, (x, ((passes p x a e puts).behind, e)))

pub both_listed : (p : Program Span) (t : raw.Target) (x : IsTarget p t) (old mid new : Effect) → GivesFirst x old mid → GivesRest x mid new → IsListed x old new
both_listed p t x old mid new (first, first_is, one) (rest, rest_is, two) =
    record { first = first; rest = rest; first_is = first_is; rest_is = rest_is; is = two ∙ ap (λ (e : Effect). both e (effect_of rest)) one ∙ joined old (effect_of first) (effect_of rest) }
  where
    joined : (a b c : Effect) → both (both a b) c ≡ both a (both b c)
    joined a b c = λ i. record { changes = append_assoc a.changes b.changes c.changes i; respelled = (let e : (a.respelled + b.respelled) + c.respelled ≡ a.respelled + (b.respelled + c.respelled) = omega arith in e) i; losses = append_assoc a.losses b.losses c.losses i }
