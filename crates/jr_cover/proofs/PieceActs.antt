-- Each action of a piece's own activation is done at one of the piece's sites.
use Rattle.std.proofs.Common.{◌≡◌, ◌<◌, ℕ, true, false, List, [], ◌∷◌, ◌++◌, Option, Some, nat_eq, refl, sym, ap, subst, inl, inr, ⊎_elim}
use Rattle.std.proofs.lemmas.Bool.{eq-eqb}
use Rattle.jr_plans.specs.Numbered.{Numbered}
use Rattle.jr_ast.specs.Tree as tree
use Rattle.jr_ast.specs.StatementTree as statement
use Rattle.jr_runs.specs.Keys.{Keys, At}
use Rattle.jr_runs.specs.Values.{Value}
use Rattle.jr_runs.specs.Actions.{Event}
use Rattle.jr_runs.specs.Arithmetic.{Out}
use Rattle.jr_runs.specs.Core.{Exp, Stmt, Program}
use Rattle.jr_runs.specs.Evaluation.{Flow, Call, invoke, construct, turn, Step, exp, stmts, table}
use Rattle.jr_cover.specs.Translation.{exp_code}
use Rattle.jr_cover.specs.StatementTranslation.{stmts_code}
use Rattle.jr_runs.specs.Running.{is_activation}
use Rattle.jr_cover.specs.Paths as paths
use Rattle.jr_cover.specs.Ways.{Way, sites_of}
use Rattle.jr_cover.specs.Visiting.{Visits, MovesOwn, Follows}
use Rattle.jr_cover.specs.Sites.{Site, Known, exp_way, stmts_way}
use Rattle.jr_cover.specs.Covering.{DoneAt, site_at}
use Rattle.jr_cover.specs.Footprints.{piece_run, DoneAmong, ExpressionsActAtTheirSites, StatementsActAtTheirSites}
use Rattle.jr_cover.proofs.WayLaws.{Fair}
use Rattle.jr_cover.proofs.Visits.{visits_piece}
use Rattle.jr_cover.proofs.Parts.{Part, Ready}
use Rattle.jr_cover.proofs.Going as going
use Rattle.jr_cover.proofs.ExpGoes.{exp_goes}
use Rattle.jr_cover.proofs.StmtGoes.{stmts_goes, turn_goes}
use Rattle.jr_cover.proofs.Cover.{stands_in, exp_fair, stmts_fair}

-- all: the piece's sites. Any may follow any other, and nothing stands outside.
module _ {K : Keys} {A : Type 0} (X : Known K A) (P : Program K) (all : List (Site K)) where
  abbrev Anywhere : ℕ → ℕ → Type 0
  Anywhere i j = Unit {0}

  abbrev In : ℕ → Site K → Type 0
  In i s = site_at all i ≡ Some s

  abbrev Nowhere : At K → Type 0
  Nowhere p = ⊥

  abbrev NoTurn : Exp K → Stmt K → Type 0
  NoTurn c b = ⊥

  abbrev MovesOf : Event K → Option ℕ → Option ℕ → Type 0
  MovesOf x p q = going.Moves P.rows X Anywhere In Nowhere x p q

  abbrev PreOf : Call K → Option ℕ → Type 0
  PreOf c p = going.Pre P.rows X Anywhere In Nowhere NoTurn c p

  abbrev PostOf : (c : Call K) (p : Option ℕ) → PreOf c p → Out (Flow K) → Option ℕ → Type 0
  PostOf c p h r q = going.Post P.rows X Anywhere In Nowhere NoTurn c p h r q

  no : {B : Type 0} → true ≡ false → B
  no e = absurd (true_is_not_false e)
    where
      true_is_not_false : true ≡ false → ⊥
      true_is_not_false i = cc

  for_caller : (c : Call K) → is_activation c ≡ true → (p : Option ℕ) (h : PreOf c p) (r : Out (Flow K)) → PostOf c p h r p
  for_caller (invoke m me args) e p h r = refl
  for_caller (construct k me args) e p h r = refl
  for_caller (turn me c b l) e p h r = no (sym e)

  turns_go : (c : Call K) → is_activation c ≡ false → (p : Option ℕ) (h : PreOf c p) → Visits MovesOf PreOf PostOf (λ r q. PostOf c p h r q) (table P c) p
  turns_go (invoke m me args) e p h = no e
  turns_go (construct k me args) e p h = no e
  turns_go (turn me c b l) e p (inl t) = turn_goes P.rows X Anywhere In Nowhere NoTurn me c b l p t
  turns_go (turn me c b l) e p (inr t) = absurd t

  own_moves : (x : Numbered (Event K)) (k : ℕ) (p q : Option ℕ) → x.activation ≡ k → MovesOwn MovesOf k (nat_eq x.activation k) x.action p q → MovesOf x.action p q
  own_moves x k p q e m = subst (λ b. MovesOwn MovesOf k b x.action p q) (eq-eqb x.activation k e) m

  met : (k : ℕ) (t u : List (Numbered (Event K))) (x : Numbered (Event K)) (p r : Option ℕ) → Follows MovesOf k (t ++ x ∷ u) p r → x.activation ≡ k
      → (i : ℕ) × (a : Site K) × (site_at all i ≡ Some a) × DoneAt P.rows a x.action
  met k [] u x p r f e = ⊎_elim (λ n. absurd n.0) (λ d. (d.0, d.1, d.2, d.3)) (own_moves x k p f.0 e f.1)
  met k (y ∷ t) u x p r f e = met k t u x f.0 r f.2 e

  pub acts_among : {B : Type 0} (Q : Out B → Option ℕ → Type 0) (x : Step K B) → Visits MovesOf PreOf PostOf Q x (Some 0)
      → (own next fuel : ℕ) (answers : List (Value K)) → own < next → DoneAmong P.rows all own (piece_run P x own next answers fuel).trace
  acts_among {B = B} Q x v own next fuel answers l t u y e i =
      let d = visits_piece MovesOf PreOf PostOf is_activation (table P) for_caller turns_go Q fuel x own next answers l (Some 0) v in
      met own t u y (Some 0) d.0 (subst (λ z. Follows MovesOf own z (Some 0) d.0) e d.1) i

module _ {K : Keys} {A : Type 0} (X : Known K A) (P : Program K) where
  append_nil : {T : Type 0} (l : List T) → l ++ [] ≡ l
  append_nil [] = refl
  append_nil (x ∷ l) = ap (λ t. x ∷ t) (append_nil l)

  itself : (w : Way (Site K)) → Fair w → Part (Anywhere X P (sites_of w)) (In X P (sites_of w)) 0 w
  itself w f = record { edges = λ i j e. tt; sites = stands_in (sites_of w) w [] [] 0 refl (sym (append_nil (sites_of w))); fair = f }

  ready : (w : Way (Site K)) → Ready (Anywhere X P (sites_of w)) (In X P (sites_of w)) 0 w (Some 0)
  ready w f h = paths.edge 0 f tt

  pub exp_acts : (e : tree.Exp A) (me : Value K) (l answers : List (Value K)) (own next fuel : ℕ) → own < next
      → DoneAmong P.rows (sites_of (exp_way X e)) own (piece_run P (exp P.rows me (exp_code X.facts e) l) own next answers fuel).trace
  exp_acts e me l answers own next fuel i = acts_among X P (sites_of w) (going.ExpPost P.rows X E Is Out' No 0 w (λ (r : Value K × List (Value K)). Unit {0}) (Some 0)) (exp P.rows me (exp_code X.facts e) l)
      (exp_goes P.rows X E Is Out' No me e 0 l (Some 0) (itself w (exp_fair X e)) (ready w)) own next fuel answers i
    where
      w : Way (Site K)
      w = exp_way X e

      E : ℕ → ℕ → Type 0
      E = Anywhere X P (sites_of w)

      Is : ℕ → Site K → Type 0
      Is = In X P (sites_of w)

      Out' : At K → Type 0
      Out' = Nowhere X P (sites_of w)

      No : Exp K → Stmt K → Type 0
      No = NoTurn X P (sites_of w)

  pub stmts_act : (b : statement.Stmts A) (me : Value K) (l answers : List (Value K)) (own next fuel : ℕ) → own < next
      → DoneAmong P.rows (sites_of (stmts_way X b)) own (piece_run P (stmts P.rows me (stmts_code X.facts b) l) own next answers fuel).trace
  stmts_act b me l answers own next fuel i = acts_among X P (sites_of w) (going.FlowPost P.rows X E Is Out' 0 w (Some 0)) (stmts P.rows me (stmts_code X.facts b) l)
      (stmts_goes P.rows X E Is Out' No me b 0 l (Some 0) (itself w (stmts_fair X b)) (ready w)) own next fuel answers i
    where
      w : Way (Site K)
      w = stmts_way X b

      E : ℕ → ℕ → Type 0
      E = Anywhere X P (sites_of w)

      Is : ℕ → Site K → Type 0
      Is = In X P (sites_of w)

      Out' : At K → Type 0
      Out' = Nowhere X P (sites_of w)

      No : Exp K → Stmt K → Type 0
      No = NoTurn X P (sites_of w)

pub expressions_act_at_their_sites : {C F M N L A : Type 0} → ExpressionsActAtTheirSites C F M N L A
expressions_act_at_their_sites X P e me l answers own next fuel i = exp_acts X P e me l answers own next fuel i

pub statements_act_at_their_sites : {C F M N L A : Type 0} → StatementsActAtTheirSites C F M N L A
statements_act_at_their_sites X P b me l answers own next fuel i = stmts_act X P b me l answers own next fuel i
