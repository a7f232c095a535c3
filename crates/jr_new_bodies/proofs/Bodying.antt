-- What is gathered of the parts of statements is what their rewriting gives; lists, one by one.
use Rattle.std.proofs.Common.{◌≡◌, ℕ, suc, ◌+◌, ◌<◌, ◌≤◌, List, [], ◌∷◌, ◌++◌, length, take, drop, get_or, Option, Some, None, Bool, refl, sym, ap, subst, ◌∙◌, inl, inr, arith}
use Rattle.std.proofs.lemmas.List.{drop_all, drop_more}
use Rattle.std.specs.Prelude.{◌↔◌}
use Rattle.jr_text.specs.declared.spans.Span.{Span}
use Rattle.jr_ast.specs.Tree as tree
use Rattle.jr_ast.specs.StatementTree as statement
use Rattle.jr_ast.specs.declared.stmts.Stmt.{Stmt}
use Rattle.jr_ast.specs.View.{stmt_of, stmts_of}
use Rattle.jr_table.specs.Rows.{Row}
use Rattle.jr_table.specs.Context.{Context, local_of, in_own, after, locals_in, locals_in_else, locals_in_row}
use Rattle.jr_table.specs.Binding.{Role, value, statement as whole}
use Rattle.jr_table.specs.Somewhere.{InStmt, InElse, InStmts}
use Rattle.jr_table.specs.TypesAt.{TypeBelow, TypeInStmt, TypeInElse, TypeInStmts}
use Rattle.jr_rewrite.specs.Rewritten.{Rewritten, plain, joined}
use Rattle.jr_rewrite.specs.Spots.{level, a_statement, Spotted}
use Rattle.jr_rewrite.specs.Rewrites.{Choosing, TransformsExp, TransformsPart, TransformsMaybe, TransformsStmt, TransformsElse, TransformsStmts, TransformsList}
use Rattle.jr_expr_types.specs.Slots.{find_type}
use Rattle.jr_bind.specs.Bounds.{Bound}
use Rattle.jr_bind_expr.specs.Fits.{FitsType, FitsStmt, FitsElse, FitsStmts}
use Rattle.jr_bind_parts.proofs.Bodies.{Inside, inside_same, inside_after}
use Rattle.jr_new_words.specs.Mappings.{Mapping}
use Rattle.jr_new_words.specs.Spelled.{spelling}
use Rattle.jr_new_bodies.specs.declared.here.Here as raw
use Rattle.jr_new_bodies.specs.Effects.{Effect, both, effect_of, Gathers}
use Rattle.jr_new_bodies.specs.Known.{rows_of, mapping_of, context_of, IsKnown, ExpReady, TypeIsBound}
use Rattle.jr_new_bodies.specs.declared.spots.Spots.{Spots}
use Rattle.jr_new_bodies.specs.Spotting.{Unseen, spots_of}
use Rattle.jr_new_bodies.specs.SpotView.{spotting_of}
use Rattle.jr_new_bodies.specs.Walks.{choosing, spotted, ExpGathers, PartGathers}
use Rattle.jr_new_bodies.specs.Bodies.{MaybeGathers, StmtGathers, ElseGathers, StmtsGather}
use Rattle.jr_new_bodies.specs.Ready.{SoundElse, RefersElse, TypesElse, ExpReadyIn, StmtsReadyIn, MaybeReady, StmtReady, ElseReady, StmtsReady, BranchReady, TurnsReady, SyncReady}
use Rattle.jr_new_bodies.specs.Moves.{Goes, cut, own_key, StmtPasses, InnerPasses, BodyPasses}
use Rattle.jr_new_bodies.specs.Locals.{LocalGathers}
use Rattle.jr_table.specs.declared.rules.Rule.TheVariants as rule
use Rattle.jr_new_bodies.proofs.Bound.{type_bound}
use Rattle.jr_new_bodies.proofs.Typed.{part}
use Rattle.jr_new_bodies.proofs.Spotted.{by_node, list_by_node}
use Rattle.jr_new_bodies.proofs.Joining.{gathers_none, gathers_as, gathers_within, gathers_joined, both_assoc}

-- what holds at another place of the same member, where the same is known
pub moved_back : (P : List Row → Bound → ℕ → Context → Type 0) (h i : raw.Here) (c : Context) → Goes h i c → P (rows_of h) h.bound.now h.from c → P (rows_of i) i.bound.now i.from (context_of i)
moved_back P h i c goes x =
    subst (λ d. P (rows_of i) i.bound.now i.from d) (sym goes.context) (subst (λ n. P (rows_of i) i.bound.now n c) (sym goes.from_is) (subst (λ b. P (rows_of i) b h.from c) (sym goes.bound) (subst (λ r. P r h.bound.now h.from c) (sym goes.rows) x)))

-- what is said of the rows, the mapping and the spots alone
pub moved : (P : List Row → Mapping → Spots → Context → Type 0) (h i : raw.Here) (c : Context) → Goes h i c → P (rows_of i) (mapping_of i) i.spots (context_of i) → P (rows_of h) (mapping_of h) h.spots c
moved P h i c goes x =
    subst (λ r. P r (mapping_of h) h.spots c) goes.rows (subst (λ g. P (rows_of i) g h.spots c) goes.mapping (subst (λ z. P (rows_of i) (mapping_of i) z c) goes.spots (subst (λ d. P (rows_of i) (mapping_of i) i.spots d) goes.context x)))

pub then_goes : (h i j : raw.Here) (c d : Context) → Goes h i c → Goes i j d → Goes h j d
then_goes h i j c d a b = record { known = b.known; context = b.context; rows = b.rows ∙ a.rows; mapping = b.mapping ∙ a.mapping; bound = b.bound ∙ a.bound; from_is = b.from_is ∙ a.from_is; spots = b.spots ∙ a.spots }

pub goes_as : (h i : raw.Here) (c d : Context) → Goes h i c → c ≡ d → Goes h i d
goes_as h i c d a e = record { known = a.known; context = a.context ∙ e; rows = a.rows; mapping = a.mapping; bound = a.bound; from_is = a.from_is; spots = a.spots }

pub stays_here : (h : raw.Here) → IsKnown h → Goes h h (context_of h)
stays_here h known = record { known = known; context = refl; rows = refl; mapping = refl; bound = refl; from_is = refl; spots = refl }

module _ {A : Type 0} (tells : A → ℕ → Span) (h : raw.Here) (n base : ℕ) (m : A) where
  abbrev pub at : ℕ
  at = (tells m base).from

  abbrev pub C : Unseen A → Choosing A
  C s = choosing tells h s.super_at

  abbrev pub S : Unseen A → Spotted A
  S s = spotted tells h s

  pub local_gives : (f : Bool) (t : tree.TypeName A) (w : tree.Word A) (e : tree.Exp A) (old new : Effect) → LocalGathers tells h n at f t w e old new → StmtGathers tells h n base (statement.local m f t w e) old new
  unfolding TransformsStmt TransformsElse TransformsStmts
  local_gives f t w e old new (mid, (first, type, word), init) = λ s.
      let p = type s.super_at in let v = word s.super_at in let q = init s in (
        joined (λ (u : tree.TypeName A × tree.Word A) x. statement.local m f u.0 u.1 x) (joined (λ u z. (u, z)) p.0 v.0) q.0,
        (p.0, v.0, q.0, p.1, v.1, q.1, refl),
        q.2 ∙ ap (λ d. both d (effect_of q.0)) (v.2 ∙ ap (λ d. both d (effect_of v.0)) p.2 ∙ both_assoc old (effect_of p.0) (effect_of v.0))
            ∙ both_assoc old (both (effect_of p.0) (effect_of v.0)) (effect_of q.0),
      )

  pub eval_gives : (e : tree.Exp A) (old new : Effect) → ExpGathers tells h whole at e old new → StmtGathers tells h n base (statement.eval m e) old new
  unfolding TransformsStmt TransformsElse TransformsStmts
  eval_gives e old new part = λ s.
      gathers_within (λ x. statement.eval m x) (TransformsPart tells (C s) (S s) a_statement (context_of h) whole at e) old new
      (gathers_as (TransformsExp tells (C s) (S s) (context_of h) whole at e) (TransformsPart tells (C s) (S s) a_statement (context_of h) whole at e) old new (λ o x. by_node tells s (spotting_of h.spots) a_statement (context_of h) whole at e o (TransformsExp tells (C s) (S s) (context_of h) whole at e o) tt x) (part s))

  pub branch_gives : (e : tree.Exp A) (x : statement.Stmt A) (other : statement.Else A) (old one two new : Effect) → PartGathers tells h (level 0) value at e old one → StmtGathers tells h n at x one two
      → ElseGathers tells h (n + locals_in x) at other two new → StmtGathers tells h n base (statement.branch m e x other) old new
  unfolding TransformsStmt TransformsElse TransformsStmts
  branch_gives e x other old one two new test body last = λ s.
      let p = test s in let q = body s in let z = last s in (
        joined (λ (u : tree.Exp A × statement.Stmt A) v. statement.branch m u.0 u.1 v) (joined (λ u v. (u, v)) p.0 q.0) z.0,
        (p.0, q.0, z.0, p.1, q.1, z.1, refl),
        z.2 ∙ ap (λ d. both d (effect_of z.0)) (q.2 ∙ ap (λ d. both d (effect_of q.0)) p.2 ∙ both_assoc old (effect_of p.0) (effect_of q.0))
            ∙ both_assoc old (both (effect_of p.0) (effect_of q.0)) (effect_of z.0),
      )

  pub loop_gives : (e : tree.Exp A) (x : statement.Stmt A) (old one new : Effect) → PartGathers tells h (level 0) value at e old one → StmtGathers tells h n at x one new → StmtGathers tells h n base (statement.loop m e x) old new
  unfolding TransformsStmt TransformsElse TransformsStmts
  loop_gives e x old one new test body = λ s. gathers_joined (λ u v. statement.loop m u v) (TransformsPart tells (C s) (S s) (level 0) (context_of h) value at e) (TransformsStmt tells (C s) (S s) n (context_of h) at x) old one new (test s) (body s)

  pub return_gives : (e : Option (tree.Exp A)) (old new : Effect) → MaybeGathers tells h at e old new → StmtGathers tells h n base (statement.return m e) old new
  unfolding TransformsStmt TransformsElse TransformsStmts
  return_gives e old new part = λ s. gathers_within (λ x. statement.return m x) (TransformsMaybe tells (C s) (S s) (context_of h) at e) old new (part s)

  pub block_gives : (body : statement.Stmts A) (old new : Effect) → StmtsGather tells h n at body old new → StmtGathers tells h n base (statement.block m body) old new
  unfolding TransformsStmt TransformsElse TransformsStmts
  block_gives body old new part = λ s. gathers_within (λ x. statement.block m x) (TransformsList tells (C s) (S s) n (context_of h) at body) old new (part s)

  pub sync_gives : (e : tree.Exp A) (body : statement.Stmts A) (old one new : Effect) → PartGathers tells h (level 0) value at e old one → StmtsGather tells h n at body one new → StmtGathers tells h n base (statement.sync m e body) old new
  unfolding TransformsStmt TransformsElse TransformsStmts
  sync_gives e body old one new lock part = λ s. gathers_joined (λ u v. statement.sync m u v) (TransformsPart tells (C s) (S s) (level 0) (context_of h) value at e) (TransformsList tells (C s) (S s) n (context_of h) at body) old one new (lock s) (part s)

  pub empty_gives : (e : Effect) → StmtGathers tells h n base (statement.empty m) e e
  unfolding TransformsStmt TransformsElse TransformsStmts
  empty_gives e = λ s. gathers_none (statement.empty m) e

module _ {A : Type 0} (tells : A → ℕ → Span) (h : raw.Here) (n at : ℕ) where
  pub no_else_gives : (e : Effect) → ElseGathers tells h n at statement.no_else e e
  unfolding TransformsStmt TransformsElse TransformsStmts
  no_else_gives e = λ s. gathers_none statement.no_else e

  pub else_gives : (x : statement.Stmt A) (old new : Effect) → StmtGathers tells h n at x old new → ElseGathers tells h n at (statement.otherwise x) old new
  unfolding TransformsStmt TransformsElse TransformsStmts
  else_gives x old new part = λ s. gathers_within (λ y. statement.otherwise y) (TransformsStmt tells (choosing tells h s.super_at) (spotted tells h s) n (context_of h) at x) old new (part s)

-- ---- what the parts rest on

module _ {A : Type 0} (tells : A → ℕ → Span) (Fits : A → ℕ → Type 0) (h : raw.Here) (n : ℕ) (path : List ℕ) (base : ℕ) (m : A) where
  abbrev pub here_at : ℕ
  here_at = (tells m base).from

  abbrev pub Ready : statement.Stmt A → Type 0
  Ready x = StmtReady tells Fits h n path base x

  abbrev pub Part : Role → (step : ℕ) → tree.Exp A → Type 0
  Part r step e = ExpReady tells Fits h r (path ++ step ∷ []) here_at e

  pub in_eval : (e : tree.Exp A) → Ready (statement.eval m e) → Part whole 0 e
  unfolding FitsStmt FitsElse FitsStmts InStmt InElse InStmts TypeInStmt TypeInElse TypeInStmts
  in_eval e (fits, sound, refers, types) = (fits.1, λ i r z. sound i r (inr z), λ i d z. refers i d (inr z), part h path 0 (λ q t. TypeBelow (rows_of h) (context_of h) e q t) (λ q t. types (0 ∷ q) t))

  pub in_branch : (e : tree.Exp A) (x : statement.Stmt A) (other : statement.Else A) → Ready (statement.branch m e x other) → BranchReady tells Fits h n path here_at e x other
  unfolding FitsStmt FitsElse FitsStmts InStmt InElse InStmts TypeInStmt TypeInElse TypeInStmts
  in_branch e x other (fits, sound, refers, types) = (
    (fits.1, λ i r z. sound i r (inr (inl z)), λ i d z. refers i d (inr (inl z)), part h path 0 (λ q t. TypeBelow (rows_of h) (context_of h) e q t) (λ q t. types (0 ∷ q) t)),
    (
      (fits.2, λ i r z. sound i r (inr (inr (inl z))), λ i d z. refers i d (inr (inr (inl z))), part h path 1 (λ q t. TypeInStmt (rows_of h) n (context_of h) x q t) (λ q t. types (1 ∷ q) t)),
      (fits.3, λ i r z. sound i r (inr (inr (inr z))), λ i d z. refers i d (inr (inr (inr z))), part h path 2 (λ q t. TypeInElse (rows_of h) (n + locals_in x) (context_of h) other q t) (λ q t. types (2 ∷ q) t)),
    ),
  )

  pub in_loop : (e : tree.Exp A) (x : statement.Stmt A) → Ready (statement.loop m e x) → TurnsReady tells Fits h n path here_at e x
  unfolding FitsStmt FitsElse FitsStmts InStmt InElse InStmts TypeInStmt TypeInElse TypeInStmts
  in_loop e x (fits, sound, refers, types) =
      ((fits.1, λ i r z. sound i r (inr (inl z)), λ i d z. refers i d (inr (inl z)), part h path 0 (λ q t. TypeBelow (rows_of h) (context_of h) e q t) (λ q t. types (0 ∷ q) t)), (fits.2, λ i r z. sound i r (inr (inr z)), λ i d z. refers i d (inr (inr z)), part h path 1 (λ q t. TypeInStmt (rows_of h) n (context_of h) x q t) (λ q t. types (1 ∷ q) t)))

  pub in_return : (e : Option (tree.Exp A)) → Ready (statement.return m e) → MaybeReady tells Fits h path 0 here_at e
  unfolding FitsStmt FitsElse FitsStmts InStmt InElse InStmts TypeInStmt TypeInElse TypeInStmts
  in_return None (fits, sound, refers, types) = tt
  in_return (Some e) (fits, sound, refers, types) = (fits.1, λ i r z. sound i r (inr z), λ i d z. refers i d (inr z), part h path 0 (λ q t. TypeBelow (rows_of h) (context_of h) e q t) (λ q t. types (0 ∷ q) t))

  pub in_block : (body : statement.Stmts A) → Ready (statement.block m body) → StmtsReady tells Fits h n path 0 here_at body
  unfolding FitsStmt FitsElse FitsStmts InStmt InElse InStmts TypeInStmt TypeInElse TypeInStmts
  in_block body (fits, sound, refers, types) =
      (fits.1, λ i r z. sound i r (inr (inr z)), λ i d z. refers i d (inr (inr z)), λ k step is q t. let e : step ≡ k = omega (arith, is) in subst (λ i. (find_type h.bound.now.types (path ++ i ∷ q) ≡ Some t) ↔ TypeInStmts (rows_of h) n (context_of h) body step q t) e (types (step ∷ q) t))

  pub in_sync : (e : tree.Exp A) (body : statement.Stmts A) → Ready (statement.sync m e body) → SyncReady tells Fits h n path here_at e body
  unfolding FitsStmt FitsElse FitsStmts InStmt InElse InStmts TypeInStmt TypeInElse TypeInStmts
  in_sync e body (fits, sound, refers, types) = (
    (fits.1, λ i r z. sound i r (inr (inl z)), λ i d z. refers i d (inr (inl z)), part h path 0 (λ q t. TypeBelow (rows_of h) (context_of h) e q t) (λ q t. types (0 ∷ q) t)),
    (fits.2, λ i r z. sound i r (inr (inr (inr z))), λ i d z. refers i d (inr (inr (inr z))), λ k step is q t. let e : suc step ≡ k = omega (arith, is) in subst (λ i. (find_type h.bound.now.types (path ++ i ∷ q) ≡ Some t) ↔ TypeInStmts (rows_of h) n (context_of h) body step q t) e (types (suc step ∷ q) t)),
  )

  abbrev pub inside_own : (f : Bool) (t : tree.TypeName A) (w : tree.Word A) → Context
  inside_own f t w = in_own (context_of h) (local_of (context_of h) n f t w)

  pub in_local : (f : Bool) (u : tree.TypeName A) (w : tree.Word A) (e : tree.Exp A) → Ready (statement.local m f u w e)
      → FitsType (λ m b. (tells m b).from) Fits here_at u × (Fits w.mark here_at × ExpReadyIn tells Fits (rows_of h) h.bound.now h.from (inside_own f u w) value (path ++ 2 ∷ []) here_at e)
  unfolding FitsStmt FitsElse FitsStmts InStmt InElse InStmts TypeInStmt TypeInElse TypeInStmts
  in_local f u w e (fits, sound, refers, types) = (fits.1, (fits.2, (fits.3, λ i r z. sound i r (inr z), λ i d z. refers i d (inr z), part h path 2 (λ q t. TypeBelow (rows_of h) (inside_own f u w) e q t) (λ q t. types (2 ∷ q) t))))

  pub local_bound : (f : Bool) (u : tree.TypeName A) (w : tree.Word A) (e : tree.Exp A) → Ready (statement.local m f u w e) → TypeIsBound (λ m b. (tells m b).from) (rows_of h) (context_of h) here_at u
  unfolding FitsStmt FitsElse FitsStmts InStmt InElse InStmts TypeInStmt TypeInElse TypeInStmts
  local_bound f u w e (fits, sound, refers, types) = type_bound (λ m b. (tells m b).from) (rows_of h) (context_of h) here_at u (λ i x. sound i rule.NoType (inl x)) (λ i d x. sound i rule.Private (inl (d, x)))

module _ {A : Type 0} (tells : A → ℕ → Span) (Fits : A → ℕ → Type 0) (h : raw.Here) (n : ℕ) (path : List ℕ) (at : ℕ) where
  pub in_else : (x : statement.Stmt A) → ElseReady tells Fits h n path at (statement.otherwise x) → StmtReady tells Fits h n path at x
  unfolding FitsStmt FitsElse FitsStmts InStmt InElse InStmts TypeInStmt TypeInElse TypeInStmts
  in_else x (fits, sound, refers, types) = (fits, sound, refers, types)

-- ---- a list

left_is : {A : Type 0} (xs : List (Stmt A)) (i : ℕ) (x : Stmt A) → i < length xs → x ≡ get_or xs i x → stmts_of (drop i xs) ≡ statement.more (stmt_of x) (stmts_of (drop (i + 1) xs))
left_is xs i x lt is = ap stmts_of (drop_more xs i x lt) ∙ ap (λ (y : Stmt _). statement.more (stmt_of y) (stmts_of (drop (i + 1) xs))) (sym is)

module _ {A : Type 0} (tells : A → ℕ → Span) (Fits : A → ℕ → Type 0) (number : ℕ) (h : raw.Here) (path : List ℕ) (at : ℕ) (all : statement.Stmts A) (start : Effect) where
  -- where the rest of the list is still to be walked
  pub record Going (next : ℕ) (i : raw.Here) (step : ℕ) (now : Effect) (rest : statement.Stmts A) : Type 0 where
    pub known : IsKnown i
    pub rows : rows_of i ≡ rows_of h
    pub mapping : mapping_of i ≡ mapping_of h
    pub bound : i.bound.now ≡ h.bound.now
    pub from_is : i.from ≡ h.from
    pub spots : i.spots ≡ h.spots
    pub inside : Inside (context_of h) (context_of i)
    pub count : next + locals_in_row rest ≡ number + locals_in_row all
    pub ready : StmtsReady tells Fits i next path step at rest
    pub gives : (s : Unseen A) (new : Effect) → Gathers (TransformsList tells (choosing tells h s.super_at) (spotted tells h s) next (context_of i) at rest) now new
        → Gathers (TransformsList tells (choosing tells h s.super_at) (spotted tells h s) number (context_of h) at all) start new

  pub going_start : (first : ℕ) → IsKnown h → StmtsReady tells Fits h number path first at all → Going number h first start all
  going_start first known ready = record {
    known = known;
    rows = refl;
    mapping = refl;
    bound = refl;
    from_is = refl;
    spots = refl;
    inside = inside_same (context_of h);
    count = refl;
    ready = ready;
    gives = λ s new x. x;
  }

  pub first_ready : (next : ℕ) (i : raw.Here) (step : ℕ) (now : Effect) (x : statement.Stmt A) (rest : statement.Stmts A) → Going next i step now (statement.more x rest) → StmtReady tells Fits i next (path ++ step ∷ []) at x
  unfolding FitsStmt FitsElse FitsStmts InStmt InElse InStmts TypeInStmt TypeInElse TypeInStmts
  first_ready next i step now x rest g =
      let r = g.ready in
      (r.0.0, λ b q z. r.1 b q (inl z), λ b d z. r.2 b d (inl z), part i path step (λ q t. TypeInStmt (rows_of i) next (context_of i) x q t) (λ q t. r.3 step 0 (omega arith) q t))

  rest_ready : (next : ℕ) (i : raw.Here) (step : ℕ) (x : statement.Stmt A) (rest : statement.Stmts A) → StmtsReady tells Fits i next path step at (statement.more x rest)
      → StmtsReadyIn tells Fits (rows_of i) i.bound.now i.from (next + locals_in x) (after next (context_of i) x) path (step + 1) at rest
  unfolding FitsStmt FitsElse FitsStmts InStmt InElse InStmts TypeInStmt TypeInElse TypeInStmts
  rest_ready next i step x rest r = (r.0.1, λ b q z. r.1 b q (inr z), λ b d z. r.2 b d (inr z), λ k j is q t. r.3 k (suc j) (omega (arith, is)) q t)

  abbrev First : Unseen A → ℕ → raw.Here → statement.Stmt A → Rewritten (statement.Stmt A) → Type 0
  First s next i x = TransformsStmt tells (choosing tells h s.super_at) (spotted tells h s) next (context_of i) at x

  abbrev Rest : Unseen A → ℕ → Context → statement.Stmts A → Rewritten (statement.Stmts A) → Type 0
  Rest s next c xs = TransformsList tells (choosing tells h s.super_at) (spotted tells h s) next c at xs

  abbrev Whole : Unseen A → ℕ → raw.Here → statement.Stmt A → statement.Stmts A → Rewritten (statement.Stmts A) → Type 0
  Whole s next i x rest = TransformsStmts tells (choosing tells h s.super_at) (spotted tells h s) next (context_of i) at (statement.more x rest)

  pub going_step : (next after_it : ℕ) (i j : raw.Here) (step : ℕ) (now then_it : Effect) (x : statement.Stmt A) (rest : statement.Stmts A)
      → Going next i step now (statement.more x rest) → StmtPasses tells next i at x after_it j now then_it → Going after_it j (step + 1) then_it rest
  unfolding locals_in locals_in_else locals_in_row TransformsStmt TransformsElse TransformsStmts
  going_step next after_it i j step now then_it x rest g p =
      let n = p.number in
      let count = g.count in
      record {
        known = p.goes.known;
        rows = p.goes.rows ∙ g.rows;
        mapping = p.goes.mapping ∙ g.mapping;
        bound = p.goes.bound ∙ g.bound;
        from_is = p.goes.from_is ∙ g.from_is;
        spots = p.goes.spots ∙ g.spots;
        inside = subst (λ (d : Context). Inside (context_of h) d) (sym p.goes.context) (inside_after next (context_of h) (context_of i) x g.inside);
        count = turn next (locals_in x) (locals_in_row rest) after_it (number + locals_in_row all) n count;
        ready = subst (λ k. StmtsReady tells Fits j k path (step + 1) at rest) (sym n)
            (moved_back (λ rs b f d. StmtsReadyIn tells Fits rs b f (next + locals_in x) d path (step + 1) at rest) i j (after next (context_of i) x) p.goes (rest_ready next i step x rest g.ready));
        gives = λ s new y.
            g.gives s new (gathers_as (Whole s next i x rest) (Rest s next (context_of i) (statement.more x rest)) now new (λ o z. list_by_node tells s (spotting_of h.spots) next (context_of i) at (statement.more x rest) o (Whole s next i x rest o) z)
            (gathers_joined (λ z zs. statement.more z zs) (First s next i x) (Rest s (next + locals_in x) (after next (context_of i) x) rest) now then_it new
            (subst (λ rs. Gathers (TransformsStmt tells (spelling (λ m b. (tells m b).from) rs (mapping_of h) s.super_at) (spotted tells h s) next (context_of i) at x) now then_it) g.rows
            (subst (λ k. Gathers (TransformsStmt tells (spelling (λ m b. (tells m b).from) (rows_of i) k s.super_at) (spotted tells h s) next (context_of i) at x) now then_it) g.mapping
            (subst (λ z. Gathers (TransformsStmt tells (choosing tells i s.super_at) (spots_of tells s (spotting_of z)) next (context_of i) at x) now then_it) g.spots (p.gives s))))
            (subst (λ k. Gathers (Rest s k (after next (context_of i) x) rest) then_it new) n
            (subst (λ d. Gathers (Rest s after_it d rest) then_it new) p.goes.context y))));
      }
    where
      turn : (a b r a' t : ℕ) → a' ≡ a + b → a + (b + r) ≡ t → a' + r ≡ t
      turn a b r a' t e f = omega (arith, e, f)

  -- behind the list
  pub going_end : (next : ℕ) (i j : raw.Here) (step : ℕ) (now : Effect) (depth : ℕ) (own : Option ℕ) → Going next i step now statement.end → depth ≡ length (context_of h).locals → (context_of h).own ≡ own_key (context_of h).member own
      → Goes i j (cut depth own (context_of i)) → BodyPasses tells number h at all next j start now
  unfolding locals_in locals_in_else locals_in_row TransformsStmt TransformsElse TransformsStmts
  going_end next i j step now depth own g deep is cuts =
      let count = g.count in
      record {
        number = omega (arith, count);
        goes = record {
          known = cuts.known;
          context = cuts.context ∙ (λ k. record {
            member = g.inside.member_is k;
            is_static = g.inside.static_is k;
            locals = (ap (λ d. take d (context_of i).locals) deep ∙ g.inside.front) k;
            own = (ap (λ m. own_key m own) g.inside.member_is ∙ sym is) k;
          });
          rows = cuts.rows ∙ g.rows;
          mapping = cuts.mapping ∙ g.mapping;
          bound = cuts.bound ∙ g.bound;
          from_is = cuts.from_is ∙ g.from_is;
          spots = cuts.spots ∙ g.spots;
        };
        gives = λ s. g.gives s now
            (gathers_as (λ (o : Rewritten (statement.Stmts A)). o ≡ plain statement.end) (Rest s next (context_of i) statement.end) now now (λ o z. list_by_node tells s (spotting_of h.spots) next (context_of i) at statement.end o (o ≡ plain statement.end) z) (gathers_none statement.end now));
      }

-- of Rust lists
module _ {A : Type 0} (tells : A → ℕ → Span) (Fits : A → ℕ → Type 0) (number : ℕ) (h : raw.Here) (path : List ℕ) (at : ℕ) (body : List (Stmt A)) (start : Effect) where
  pub item_ready : (k : ℕ) (x : Stmt A) → k < length body → x ≡ get_or body k x → (next : ℕ) (i : raw.Here) (step : ℕ) (now : Effect)
      → Going tells Fits number h path at (stmts_of body) start next i step now (stmts_of (drop k body)) → StmtReady tells Fits i next (path ++ step ∷ []) at (stmt_of x)
  item_ready k x lt is next i step now g = first_ready tells Fits number h path at (stmts_of body) start next i step now (stmt_of x) (stmts_of (drop (k + 1) body))
      (subst (λ (z : statement.Stmts A). Going tells Fits number h path at (stmts_of body) start next i step now z) (left_is body k x lt is) g)

  pub item_goes : (k : ℕ) (x : Stmt A) → k < length body → x ≡ get_or body k x → (next after_it : ℕ) (i j : raw.Here) (step : ℕ) (now then_it : Effect)
      → Going tells Fits number h path at (stmts_of body) start next i step now (stmts_of (drop k body)) → StmtPasses tells next i at (stmt_of x) after_it j now then_it
      → Going tells Fits number h path at (stmts_of body) start after_it j (step + 1) then_it (stmts_of (drop (k + 1) body))
  item_goes k x lt is next after_it i j step now then_it g p = going_step tells Fits number h path at (stmts_of body) start next after_it i j step now then_it (stmt_of x) (stmts_of (drop (k + 1) body))
      (subst (λ (z : statement.Stmts A). Going tells Fits number h path at (stmts_of body) start next i step now z) (left_is body k x lt is) g) p

  pub list_ends : (k : ℕ) → length body ≤ k → (next : ℕ) (i j : raw.Here) (step : ℕ) (now : Effect) (depth : ℕ) (own : Option ℕ)
      → Going tells Fits number h path at (stmts_of body) start next i step now (stmts_of (drop k body)) → depth ≡ length (context_of h).locals → (context_of h).own ≡ own_key (context_of h).member own
      → Goes i j (cut depth own (context_of i)) → BodyPasses tells number h at (stmts_of body) next j start now
  list_ends k past next i j step now depth own g deep is cuts = going_end tells Fits number h path at (stmts_of body) start next i j step now depth own
      (subst (λ (z : List (Stmt A)). Going tells Fits number h path at (stmts_of body) start next i step now (stmts_of z)) (drop_all k body past) g) deep is cuts

-- ---- a statement that is no element of a list

module _ {A : Type 0} (tells : A → ℕ → Span) (number : ℕ) (h : raw.Here) (at : ℕ) (x : statement.Stmt A) where
  pub inner_passes : (n : ℕ) (i j : raw.Here) (old new : Effect) (depth : ℕ) (own : Option ℕ) → depth ≡ length (context_of h).locals → (context_of h).own ≡ own_key (context_of h).member own
      → StmtPasses tells number h at x n i old new → Goes i j (cut depth own (context_of i)) → InnerPasses tells number h at x n j old new
  inner_passes n i j old new depth own deep is p cuts =
      let inside = subst (λ (d : Context). Inside (context_of h) d) (sym p.goes.context) (inside_after number (context_of h) (context_of h) x (inside_same (context_of h))) in
      record {
        number = p.number;
        goes = record {
          known = cuts.known;
          context = cuts.context ∙ (λ k. record {
            member = inside.member_is k;
            is_static = inside.static_is k;
            locals = (ap (λ d. take d (context_of i).locals) deep ∙ inside.front) k;
            own = (ap (λ m. own_key m own) inside.member_is ∙ sym is) k;
          });
          rows = cuts.rows ∙ p.goes.rows;
          mapping = cuts.mapping ∙ p.goes.mapping;
          bound = cuts.bound ∙ p.goes.bound;
          from_is = cuts.from_is ∙ p.goes.from_is;
          spots = cuts.spots ∙ p.goes.spots;
        };
        gives = p.gives;
      }

-- ---- what stands behind `else`

pub else_moved : {A : Type 0} (tells : A → ℕ → Span) (Fits : A → ℕ → Type 0) (h i : raw.Here) → Goes h i (context_of h) → (n : ℕ) (path : List ℕ) (at : ℕ) (other : statement.Else A) → ElseReady tells Fits h n path at other → ElseReady tells Fits i n path at other
else_moved tells Fits h i goes n path at other ready =
    moved_back (λ rs b f d. FitsElse (λ m b. (tells m b).from) Fits at other × SoundElse (λ m b. (tells m b).from) rs n d at other × RefersElse (λ m b. (tells m b).from) rs b f n d at other × TypesElse rs b n d path other) h i (context_of h) goes ready
