-- A walk over statements among the parts of a piece.
use Rattle.std.proofs.Common.{◌≡◌, ℕ, zero, suc, ◌+◌, ◌-◌, ◌<◌, List, [], ◌∷◌, ◌++◌, Option, Some, None, option_map, refl, sym, ap, subst, ◌∙◌, append_assoc, arith}
use Rattle.std.specs.Prelude.{IfSome}
use Rattle.std.proofs.lemmas.List.{append-nil}
use Rattle.jr_text.specs.declared.spans.Span.{Span}
use Rattle.jr_ast.specs.StatementTree as statement
use Rattle.jr_table.specs.Context.{locals_in}
use Rattle.jr_code.specs.RunKeys.{RunKeys}
use Rattle.jr_cover.specs.Ways.{sites_of}
use Rattle.jr_cover.specs.Sites.{Site}
use Rattle.jr_cover.specs.Spots.{Spot, onto}
use Rattle.jr_expr_sites.specs.Steps.{sites_in, steps_of}
use Rattle.jr_expr_sites.specs.StepView.{steps_in}
use Rattle.jr_expr_sites.specs.KnownFacts.{Given, Others, known_of}
use Rattle.jr_expr_sites.specs.Routes.{Steps, begins_by}
use Rattle.jr_cfg.specs.StatementRoutes as list
use Rattle.jr_cfg.specs.StatementRoutes.{Passed, Numbered}
use Rattle.jr_cfg.proofs.StepLaws.{sites_append, sites_of_steps}
use Rattle.jr_piece_sites.specs.Leads.{AllStmts, IsStmt}
use Rattle.jr_piece_sites.specs.PartSites.{part_sites, parts_sites, PartPut}
use Rattle.jr_piece_sites.specs.Pieces as piece
use Rattle.jr_piece_sites.specs.Pieces.{Piece, mark_of, part_of, spotted, first_number, NumbersPiece}
use Rattle.jr_piece_sites.proofs.Spotting.{part_same}
use Rattle.jr_piece_sites.proofs.Numbers.{Both, Numbers, part_numbers, next_number}

abbrev pub seen : Given → Steps → List (Site RunKeys)
seen g l = sites_in (steps_in g.member l)

module _ {A : Type 0} (tells : A → ℕ → Span) (g : Given) (n base : ℕ) (path : List ℕ) (y : Piece A) (from to : ℕ) (old : Steps) where
  abbrev On : Piece Spot
  On = spotted tells base path y

  pub record Putting (i k : ℕ) (now : Steps) : Type 0 where
    pub number : i < to → k ≡ first_number n y i
    pub all : AllStmts y i (to - i)
    pub sites : (o : Others) → NumbersPiece tells n base path y o → seen g now ++ parts_sites (known_of g o) On i (to - i) ≡ seen g old ++ parts_sites (known_of g o) On from (to - from)

  pub put_none : (k : ℕ) → k ≡ first_number n y from → AllStmts y from (to - from) → Putting from k old
  put_none k first all = record { number = λ lt. first; all = all; sites = λ o h. refl }

  left : (i : ℕ) → i < to → to - i ≡ suc (to - suc i)
  left i lt = omega (arith, lt)

  is_next : (p q : Option (Piece A)) (s : statement.Stmt A) (P : statement.Stmt A → Type 0) → p ≡ Some (piece.stmt s) → IsStmt q → Both p q P → P s
  is_next p (Some (piece.stmt z)) s P e is h = subst (λ (x : Option (Piece A)). Both x (Some (piece.stmt z)) P) e h
  is_next p (Some (piece.member m)) s P e is h = absurd is
  is_next p (Some (piece.exp x)) s P e is h = absurd is
  is_next p None s P e is h = absurd is

  one_part : (i k at l : ℕ) (now new : Steps) (s : statement.Stmt A) → Putting i k now → i < to → at ≡ begins_by tells (mark_of y) base → part_of y i ≡ Some (piece.stmt s)
      → Passed g (Numbered tells k (path ++ i ∷ []) at s) (list.stmt tells (path ++ i ∷ []) at s) (k + locals_in s) l now new → Putting (suc i) l new
  one_part i k at l now new s h lt there is p =
      let rest = subst (λ (m : ℕ). AllStmts y i m) (left i lt) h.all in record {
        number = λ more.
            let further = subst (λ (m : ℕ). AllStmts y (suc i) m) (left (suc i) more) rest.1 in
            p.number ∙ ap (λ (m : ℕ). m + locals_in s) (h.number lt) ∙ sym (is_next (part_of y i) (part_of y (suc i)) s (λ z. first_number n y (suc i) ≡ first_number n y i + locals_in z) is further.0 (next_number n y i));
        all = rest.1;
        sites = λ o q.
            let X = known_of g o in
            let B = begins_by tells (mark_of y) base in
            let numbers = subst (λ (b : ℕ). Numbered tells k (path ++ i ∷ []) b s o) (sym there) (subst (λ (m : ℕ). Numbered tells m (path ++ i ∷ []) B s o) (sym (h.number lt)) (subst (Numbers tells o B path (first_number n y i) i) is (part_numbers tells o n base path y q i))) in
            let w = list.stmt tells (path ++ i ∷ []) at s g o in
            let put : seen g new ≡ seen g now ++ sites_of w = ap sites_in (p.walked o numbers) ∙ sites_append (steps_in g.member now) (steps_of w) ∙ ap (λ (m : List (Site RunKeys)). seen g now ++ m) (sites_of_steps w) in
            let spots : part_of On i ≡ Some (spotted tells B (onto path i) (piece.stmt s)) = part_same tells y base path i ∙ ap (option_map (spotted tells B (onto path i))) is in
            let own : part_sites X (part_of On i) ≡ sites_of w = ap (part_sites X) spots ∙ ap (λ (b : ℕ). sites_of (list.stmt tells (path ++ i ∷ []) b s g o)) (sym there) in
            let r = parts_sites X On (suc i) (to - suc i) in
            ap (λ (m : List (Site RunKeys)). m ++ r) put ∙ append_assoc (seen g now) (sites_of w) r
            ∙ ap (λ (m : List (Site RunKeys)). seen g now ++ (m ++ r)) (sym own)
            ∙ ap (λ (m : ℕ). seen g now ++ parts_sites X On i m) (sym (left i lt))
            ∙ h.sites o q;
      }

  pub put_more : (i k at l further : ℕ) (now new : Steps) → Putting i k now → i < to → further ≡ suc i → at ≡ begins_by tells (mark_of y) base → (o : Option (Piece A)) → o ≡ part_of y i → PartPut tells g k at (path ++ i ∷ []) o l now new → Putting further l new
  put_more i k at l further now new h lt next there o is p =
      subst (λ (m : ℕ). Putting m l new) (sym next) (go o is (subst IsStmt (sym is) (subst (λ (m : ℕ). AllStmts y i m) (left i lt) h.all).0) p)
    where
      go : (o : Option (Piece A)) → o ≡ part_of y i → IsStmt o → PartPut tells g k at (path ++ i ∷ []) o l now new → Putting (suc i) l new
      go None e s q = absurd s
      go (Some (piece.member m)) e s q = absurd s
      go (Some (piece.exp x)) e s q = absurd s
      go (Some (piece.stmt z)) e s q = one_part i k at l now new z h lt there (sym e) q

  pub put_all : (i k : ℕ) (now : Steps) → Putting i k now → i ≡ to → (o : Others) → NumbersPiece tells n base path y o → seen g now ≡ seen g old ++ parts_sites (known_of g o) On from (to - from)
  put_all i k now h end o q =
      let none : to - i ≡ 0 = omega (arith, end) in
      sym (append-nil (seen g now)) ∙ ap (λ (m : ℕ). seen g now ++ parts_sites (known_of g o) On i m) (sym none) ∙ h.sites o q

module _ {A : Type 0} (tells : A → ℕ → Span) where
  -- what is a statement on spots is one
  is_stmt : (b : ℕ) (p : List ℕ) (o : Option (Piece A)) → IsStmt (option_map (spotted tells b p) o) → IsStmt o
  is_stmt b p None h = h
  is_stmt b p (Some (piece.member m)) h = h
  is_stmt b p (Some (piece.stmt s)) h = tt
  is_stmt b p (Some (piece.exp e)) h = h

  pub all_there : (y : Piece A) (base : ℕ) (path : List ℕ) (i n : ℕ) → AllStmts (spotted tells base path y) i n → AllStmts y i n
  all_there y base path i zero h = tt
  all_there y base path i (suc n) h = (is_stmt (begins_by tells (mark_of y) base) (onto path i) (part_of y i) (subst IsStmt (part_same tells y base path i) h.0), all_there y base path (suc i) n h.1)

-- of a reference's piece as of the piece itself
pub some_of : {X Y : Type 0} (f : X → Y) (P : Y → Type 0) (o : Option X) → ((y : Y) → option_map f o ≡ Some y → P y) → IfSome o (λ x. P (f x))
some_of f P None h = tt
some_of f P (Some x) h = h (f x) refl
