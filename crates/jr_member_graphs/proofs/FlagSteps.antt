-- Flags that are made one by one, and rows of marks.
use Rattle.std.proofs.Common.{◌≡◌, ◌⊎◌, ℕ, zero, suc, ◌+◌, ◌<◌, ◌≤◌, nat_eq, Bool, true, false, not, ◌||◌, List, [], ◌∷◌, ◌++◌, map, length, get_or, take, Option, Some, None, refl, sym, ap, subst, ◌∙◌, inl, inr, append_assoc, length-append, arith}
use Rattle.std.specs.Prelude.{◌&&◌, slice_get, unwrap_or}
use Rattle.std.proofs.Math.ListN.{set, replicate}
use Rattle.std.proofs.lemmas.Bool.{cases_eq, eq-eqb, ne_eqb}
use Rattle.std.proofs.lemmas.List.{append-nil, map-append, length-replicate, length-set}
use Rattle.std.proofs.lemmas.List.Folds.{list_any-append}
use Rattle.jr_index.proofs.Setting.{set_at, set_there}
use Rattle.jr_text.specs.declared.spans.Span.{Span}
use Rattle.jr_ast.specs.Tree as tree
use Rattle.jr_ast.specs.StatementTree as statement
use Rattle.jr_runs.specs.Keys.{Keys}
use Rattle.jr_bind_expr.specs.Fits.{FitsExp, FitsStmt, FitsElse, FitsStmts}
use Rattle.jr_cover.specs.Facts.{Facts}
use Rattle.jr_cover.specs.Spots.{Spot, onto, spot_stmt, spot_else, spot_stmts}
use Rattle.jr_never_null.specs.Flags.{is_safe, next_flag, flags_behind}
use Rattle.jr_expr_sites.specs.Meanings.{Meaning}
use Rattle.jr_expr_sites.specs.Routes.{begins_by, ends_by}
use Rattle.jr_member_graphs.specs.FlagRows.{is_among, marked, MarksMore, MarksLocals, nones, behind_nones, IsSpotted, AreSpotted, AllFit}
use Rattle.jr_member_graphs.specs.MemberLocals.{stmt_inits, else_inits, stmts_inits}
use Rattle.jr_member_graphs.specs.Notes.{Begin, stmt_notes, else_notes, stmts_notes}

-- ---- flags

module _ {K : Keys} {A : Type 0} (F : Facts K A) (a : ℕ → Bool) where
  one_more : (flags : List Bool) (xs : List (Option (tree.Exp A))) (x : Option (tree.Exp A))
      → flags_behind F a flags (xs ++ x ∷ []) ≡ flags_behind F a flags xs ++ next_flag F a (flags_behind F a flags xs) x ∷ []
  one_more flags [] x = refl
  one_more flags (y ∷ xs) x = one_more (flags ++ next_flag F a flags y ∷ []) xs x

  pub flags_length : (flags : List Bool) (xs : List (Option (tree.Exp A))) → length (flags_behind F a flags xs) ≡ length flags + length xs
  flags_length flags [] = omega arith
  flags_length flags (x ∷ xs) =
      let rest = flags_length (flags ++ next_flag F a flags x ∷ []) xs in
      let one = length-append flags (next_flag F a flags x ∷ []) in
      omega (arith, rest, one)

  nones_false : (flags : List Bool) (n : ℕ) → flags_behind F a flags (nones n) ≡ flags ++ replicate n false
  nones_false flags zero = sym (append-nil flags)
  nones_false flags (suc n) = nones_false (flags ++ false ∷ []) n ∙ append_assoc flags (false ∷ []) (replicate n false)

  -- of parameters alone
  pub flags_begin : (n : ℕ) (flags : List Bool) → flags ≡ replicate n false → flags ≡ flags_behind F a [] (behind_nones n [])
  flags_begin n flags e = e ∙ sym (ap (flags_behind F a []) (append-nil (nones n)) ∙ nones_false [] n)

  pub flags_more : (n : ℕ) (es more : List (tree.Exp A)) (e : tree.Exp A) (flags front new : List Bool) (told r : Bool) → more ≡ es ++ e ∷ [] → flags ≡ flags_behind F a [] (behind_nones n es) → front ≡ flags → told ≡ a (length flags)
      → r ≡ next_flag F (λ _. told) front (Some e) → new ≡ flags ++ r ∷ [] → new ≡ flags_behind F a [] (behind_nones n more)
  flags_more n es more e flags front new told r longer made same is next put =
      let step : r ≡ next_flag F a flags (Some e) = next ∙ (λ i. not (is i) && is_safe F (same i) e) in
      put ∙ ap (λ (b : Bool). flags ++ b ∷ []) step ∙ ap (λ (l : List Bool). l ++ next_flag F a l (Some e) ∷ []) made
      ∙ sym (one_more [] (behind_nones n es) (Some e))
      ∙ ap (flags_behind F a []) (append_assoc (nones n) (map (λ x. Some x) es) (Some e ∷ []) ∙ ap (λ (l : List (Option (tree.Exp A))). nones n ++ l) (sym (map-append (λ x. Some x) es (e ∷ []))))
      ∙ ap (λ (l : List (tree.Exp A)). flags_behind F a [] (behind_nones n l)) (sym longer)

module _ {K : Keys} {A : Type 0} (F : Facts K A) (a b : ℕ → Bool) where
  next_same : (flags : List Bool) (x : Option (tree.Exp A)) → a (length flags) ≡ b (length flags) → next_flag F a flags x ≡ next_flag F b flags x
  next_same flags None e = refl
  next_same flags (Some x) e = ap (λ (c : Bool). not c && is_safe F flags x) e

  all_same : (flags : List Bool) (xs : List (Option (tree.Exp A))) → ((n : ℕ) → n < length flags + length xs → a n ≡ b n) → flags_behind F a flags xs ≡ flags_behind F b flags xs
  all_same flags [] same = refl
  all_same flags (x ∷ xs) same =
      let more = λ (y : Bool). length-append flags (y ∷ []) in
      all_same (flags ++ next_flag F a flags x ∷ []) xs (λ n lt. same n (longer n (next_flag F a flags x) lt))
      ∙ ap (λ (y : Bool). flags_behind F b (flags ++ y ∷ []) xs) (next_same flags x (same (length flags) (omega arith)))
    where
      longer : (n : ℕ) (y : Bool) → n < length (flags ++ y ∷ []) + length xs → n < length flags + suc (length xs)
      longer n y lt = let e = length-append flags (y ∷ []) in omega (arith, lt, e)

  -- only whether each local itself is assigned matters
  pub flags_same : (xs : List (Option (tree.Exp A))) → ((n : ℕ) → n < length xs → a n ≡ b n) → flags_behind F a [] xs ≡ flags_behind F b [] xs
  flags_same xs same = all_same [] xs (λ n lt. same n (omega (arith, lt)))

pub nones_length : (X : Type 0) (n : ℕ) → length (nones {X = X} n) ≡ n
nones_length X zero = refl
nones_length X (suc n) = ap suc (nones_length X n)

pub behind_length : {X : Type 0} (n : ℕ) (es : List X) → length (behind_nones n es) ≡ n + length es
behind_length n es = let e = length-append (nones n) (map (λ x. Some x) es) in let f = nones_length _ n in let h = mapped es in e ∙ (λ i. f i + h i)
  where
    mapped : {Y : Type 0} (ys : List Y) → length (map (λ x. Some x) ys) ≡ length ys
    mapped [] = refl
    mapped (y ∷ ys) = ap suc (mapped ys)

-- ---- marks

pub mark_none : (marks : List Bool) → MarksMore [] marks marks
mark_none marks = record { size = refl; marks = λ n lt. or_nothing (marked marks n) }
  where
    or_nothing : (b : Bool) → b ≡ (b || false)
    or_nothing true = refl
    or_nothing false = refl

-- past the end nothing is marked
pub mark_past : (k : ℕ) (marks : List Bool) → length marks ≤ k → MarksMore (k ∷ []) marks marks
mark_past k marks past = record {
  size = refl;
  marks = λ n lt. or_other (marked marks n) (nat_eq n k) (ne_eqb n k (λ e. let is : n ≡ k = e in absurd (omega (arith, lt, past, is))));
}
  where
    or_other : (b c : Bool) → c ≡ false → b ≡ (b || (c || false))
    or_other true c e = refl
    or_other false c e = sym (ap (λ (d : Bool). d || false) e)

pub mark_set : (k : ℕ) (marks : List Bool) → k < length marks → MarksMore (k ∷ []) marks (set marks k true)
mark_set k marks lt = record { size = length-set marks k true; marks = λ n within. by n (cases_eq n k) }
  where
    or_true : (b c : Bool) → c ≡ true → true ≡ (b || (c || false))
    or_true true c e = refl
    or_true false c e = sym (ap (λ (d : Bool). d || false) e)

    or_other : (b c : Bool) → c ≡ false → b ≡ (b || (c || false))
    or_other true c e = refl
    or_other false c e = sym (ap (λ (d : Bool). d || false) e)

    by : (n : ℕ) → ((n ≡ k) ⊎ (n ≡ k → ⊥)) → marked (set marks k true) n ≡ (marked marks n || (nat_eq n k || false))
    by n (inl e) =
        ap (λ (j : ℕ). unwrap_or (slice_get (set marks k true) j) false) e ∙ ap (λ (o : Option Bool). unwrap_or o false) (set_at marks k true lt) ∙ or_true (marked marks n) (nat_eq n k) (eq-eqb n k e)
    by n (inr other) = ap (λ (o : Option Bool). unwrap_or o false) (set_there marks k n true other) ∙ or_other (marked marks n) (nat_eq n k) (ne_eqb n k other)

-- what is marked so far, of so many locals
pub record Marks (ns : List ℕ) (count : ℕ) (marks : List Bool) : Type 0 where
  pub size : length marks ≡ count
  pub told : MarksLocals ns count marks

unmarked : (count n : ℕ) → marked (replicate count false) n ≡ false
unmarked zero n = refl
unmarked (suc count) zero = refl
unmarked (suc count) (suc n) = unmarked count n

pub marks_begin : (count : ℕ) (marks : List Bool) → marks ≡ replicate count false → Marks [] count marks
marks_begin count marks e = record {
  size = ap length e ∙ length-replicate count false;
  told = λ n lt. ap (λ (l : List Bool). marked l n) e ∙ unmarked count n;
}

pub marks_more : (ns ks more : List ℕ) (count : ℕ) (marks new : List Bool) → more ≡ ns ++ ks → Marks ns count marks → MarksMore ks marks new → Marks more count new
marks_more ns ks more count marks new longer h m = record {
  size = m.size ∙ h.size;
  told = λ n lt.
      m.marks n (subst (λ (k : ℕ). n < k) (sym h.size) lt) ∙ ap (λ (b : Bool). b || is_among ks n) (h.told n lt) ∙ sym (list_any-append (nat_eq n) ns ks) ∙ ap (λ (l : List ℕ). is_among l n) (sym longer);
}

-- ---- what locals begin with

module _ {A : Type 0} (tells : A → ℕ → Span) where
  spotted_both : (bs cs : List (Begin A)) (es ds : List (tree.Exp Spot)) → AreSpotted tells bs es → AreSpotted tells cs ds → AreSpotted tells (bs ++ cs) (es ++ ds)
  spotted_both [] cs [] ds h k = k
  spotted_both [] cs (e ∷ es) ds h k = absurd h
  spotted_both (b ∷ bs) cs [] ds h k = absurd h
  spotted_both (b ∷ bs) cs (e ∷ es) ds h k = (h.0, spotted_both bs cs es ds h.1 k)

  pub spotted_length : (bs : List (Begin A)) (es : List (tree.Exp Spot)) → AreSpotted tells bs es → length bs ≡ length es
  spotted_length [] [] h = refl
  spotted_length [] (e ∷ es) h = absurd h
  spotted_length (b ∷ bs) [] h = absurd h
  spotted_length (b ∷ bs) (e ∷ es) h = ap suc (spotted_length bs es h.1)

  -- one initializer more
  pub record OneMore (b : Begin A) (es : List (tree.Exp Spot)) (i : ℕ) : Type 0 where
    pub e : tree.Exp Spot
    pub more : take (suc i) es ≡ take i es ++ e ∷ []
    pub spotted : IsSpotted tells b e

  pub spotted_at : {Y : Type 0} (f : Y → Begin A) (ys : List Y) (es : List (tree.Exp Spot)) (i : ℕ) (y : Y) → i < length ys → y ≡ get_or ys i y → AreSpotted tells (map f ys) es → OneMore (f y) es i
  spotted_at f [] es i y lt is h = absurd (omega arith)
  spotted_at f (z ∷ ys) [] i y lt is h = absurd h
  spotted_at f (z ∷ ys) (e ∷ es) zero y lt is h = record { e = e; more = refl; spotted = subst (λ (x : _). IsSpotted tells (f x) e) (sym is) h.0 }
  spotted_at f (z ∷ ys) (e ∷ es) (suc i) y lt is h = let m = spotted_at f ys es i y (omega arith) is h.1 in record { e = m.e; more = ap (λ (l : List (tree.Exp Spot)). e ∷ l) m.more; spotted = m.spotted }

  module _ (means : ℕ → Meaning) where
    abbrev B : A → ℕ → ℕ
    B = begins_by tells

    abbrev E : A → ℕ → ℕ
    E = ends_by tells

    mutual
      unfolding spot_stmt spot_else spot_stmts stmt_notes else_notes stmts_notes stmt_inits else_inits stmts_inits

      stmt_spotted : (s : statement.Stmt A) (base : ℕ) (p : List ℕ) → AreSpotted tells (stmt_notes tells means base s).begins (stmt_inits (spot_stmt B E s base p))
      stmt_spotted (statement.local m f t w e) base p = ((onto p 2, refl), tt)
      stmt_spotted (statement.eval m e) base p = tt
      stmt_spotted (statement.branch m c s other) base p =
          let at = B m base in
          spotted_both (stmt_notes tells means at s).begins (else_notes tells means at other).begins (stmt_inits (spot_stmt B E s at (onto p 1))) (else_inits (spot_else B E other at (onto p 2))) (stmt_spotted s at (onto p 1)) (else_spotted other at (onto p 2))
      stmt_spotted (statement.loop m c s) base p = stmt_spotted s (B m base) (onto p 1)
      stmt_spotted (statement.«return» m v) base p = tt
      stmt_spotted (statement.block m body) base p = stmts_spotted body (B m base) p 0
      stmt_spotted (statement.sync m e body) base p = stmts_spotted body (B m base) p 1
      stmt_spotted (statement.empty m) base p = tt

      else_spotted : (other : statement.Else A) (at : ℕ) (p : List ℕ) → AreSpotted tells (else_notes tells means at other).begins (else_inits (spot_else B E other at p))
      else_spotted statement.no_else at p = tt
      else_spotted (statement.otherwise s) at p = stmt_spotted s at p

      pub stmts_spotted : (ss : statement.Stmts A) (at : ℕ) (p : List ℕ) (i : ℕ) → AreSpotted tells (stmts_notes tells means at ss).begins (stmts_inits (spot_stmts B E ss at p i))
      stmts_spotted statement.end at p i = tt
      stmts_spotted (statement.more s ss) at p i =
          spotted_both (stmt_notes tells means at s).begins (stmts_notes tells means at ss).begins (stmt_inits (spot_stmt B E s at (onto p i))) (stmts_inits (spot_stmts B E ss at p (suc i))) (stmt_spotted s at (onto p i)) (stmts_spotted ss at p (suc i))

    -- ---- they fit

    module _ (Fits : A → ℕ → Type 0) where
      fit_both : (bs cs : List (Begin A)) → AllFit tells Fits bs → AllFit tells Fits cs → AllFit tells Fits (bs ++ cs)
      fit_both [] cs h k = k
      fit_both (b ∷ bs) cs h k = (h.0, fit_both bs cs h.1 k)

      mutual
        unfolding FitsStmt FitsElse FitsStmts stmt_notes else_notes stmts_notes

        stmt_fits : (s : statement.Stmt A) (base : ℕ) → FitsStmt B Fits base s → AllFit tells Fits (stmt_notes tells means base s).begins
        stmt_fits (statement.local m f t w e) base h = (h.3, tt)
        stmt_fits (statement.eval m e) base h = tt
        stmt_fits (statement.branch m c s other) base h =
            fit_both (stmt_notes tells means (B m base) s).begins (else_notes tells means (B m base) other).begins (stmt_fits s (B m base) h.2) (else_fits other (B m base) h.3)
        stmt_fits (statement.loop m c s) base h = stmt_fits s (B m base) h.2
        stmt_fits (statement.«return» m v) base h = tt
        stmt_fits (statement.block m body) base h = stmts_fit body (B m base) h.1
        stmt_fits (statement.sync m e body) base h = stmts_fit body (B m base) h.2
        stmt_fits (statement.empty m) base h = tt

        else_fits : (other : statement.Else A) (at : ℕ) → FitsElse B Fits at other → AllFit tells Fits (else_notes tells means at other).begins
        else_fits statement.no_else at h = tt
        else_fits (statement.otherwise s) at h = stmt_fits s at h

        pub stmts_fit : (ss : statement.Stmts A) (at : ℕ) → FitsStmts B Fits at ss → AllFit tells Fits (stmts_notes tells means at ss).begins
        stmts_fit statement.end at h = tt
        stmts_fit (statement.more s ss) at h = fit_both (stmt_notes tells means at s).begins (stmts_notes tells means at ss).begins (stmt_fits s at h.0) (stmts_fit ss at h.1)

  -- one of those that fit
  pub fits_at : {Y : Type 0} (Fits : A → ℕ → Type 0) (f : Y → Begin A) (ys : List Y) (i : ℕ) (y : Y) → i < length ys → y ≡ get_or ys i y → AllFit tells Fits (map f ys) → FitsExp (begins_by tells) Fits (f y).base (f y).of
  fits_at Fits f [] i y lt is h = absurd (omega arith)
  fits_at Fits f (z ∷ ys) zero y lt is h = subst (λ (x : _). FitsExp (begins_by tells) Fits (f x).base (f x).of) (sym is) h.0
  fits_at Fits f (z ∷ ys) (suc i) y lt is h = fits_at Fits f ys i y (omega arith) is h.1
