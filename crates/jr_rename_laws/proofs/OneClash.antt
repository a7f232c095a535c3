-- A new name collides first with one declaration.
use Rattle.std.proofs.Common.{◌≡◌, ℕ, zero, suc, ◌+◌, List, [], ◌∷◌, ◌++◌, length, Some, None, false, refl, sym, ap, subst, ◌∙◌, inl, inr, le_antisymm, arith}
use Rattle.std.specs.Prelude.{◌⊎◌, slice_get}
use Rattle.std.proofs.lemmas.Option.{none-some, same_Some}
use Rattle.jr_text.specs.declared.spans.Span.{Span}
use Rattle.jr_ast.specs.StatementTree as statement
use Rattle.jr_ast.specs.MemberTree as syntax
use Rattle.jr_table.specs.Keys.{ClassKey, Ty}
use Rattle.jr_table.specs.Decls.{MemberKey, LocalKey, Decl, class_decl, field_decl, method_decl, constructor_decl, local_decl}
use Rattle.jr_table.specs.Rows.{Row}
use Rattle.jr_table.specs.Entries.{IsRowOf}
use Rattle.jr_table.specs.DeclaredItems.{declarations_of}
use Rattle.jr_table.specs.Context.{Context, Local, local_of, parameters, after, locals_in}
use Rattle.jr_table.specs.Somewhere.{InStmt, InElse, InStmts}
use Rattle.jr_table.specs.HeadRules.{with_parameters, is_static_member, types_of}
use Rattle.jr_table.specs.Errors.{Part, class_part, member_part, InUnits}
use Rattle.jr_members.proofs.Anywhere.{classes_found}
use Rattle.jr_program_laws.specs.FileParts.{begins}
use Rattle.jr_images.specs.Clashes.{DeclaresUnder, IsUnder, TakesPlace, ClassClashes, LocalClashes, Under, HasRow, HasPlace, Collides, ClashesWith}
use Rattle.jr_cursor.proofs.Nowhere.{exp_none, row_none}

-- ---- locals in scope are the member's

abbrev Own : Context → Type 0
Own c = (i : ℕ) (l : Local) → slice_get c.locals i ≡ Some l → l.key.member ≡ c.member

own_more : (c : Context) (m : Local) → m.key.member ≡ c.member → Own c → (i : ℕ) (l : Local) → slice_get (c.locals ++ m ∷ []) i ≡ Some l → l.key.member ≡ c.member
own_more c m is own = in_list c.locals own
  where
    in_list : (ls : List Local) → ((i : ℕ) (l : Local) → slice_get ls i ≡ Some l → l.key.member ≡ c.member) → (i : ℕ) (l : Local) → slice_get (ls ++ m ∷ []) i ≡ Some l → l.key.member ≡ c.member
    in_list [] each zero l e = sym (ap (λ (x : Local). x.key.member) (same_Some m l e)) ∙ is
    in_list [] each (suc i) l e = absurd (none-some l e)
    in_list (x ∷ ls) each zero l e = each zero l e
    in_list (x ∷ ls) each (suc i) l e = in_list ls (λ j. each (suc j)) i l e

own_after : (n : ℕ) (c : Context) (s : statement.Stmt Span) → Own c → Own (after n c s)
own_after n c (statement.local m f t w e) own = own_more c (local_of c n f t w) refl own
own_after n c (statement.eval m e) own = own
own_after n c (statement.branch m e x other) own = own
own_after n c (statement.loop m e x) own = own
own_after n c (statement.return m e) own = own
own_after n c (statement.block m body) own = own
own_after n c (statement.sync m e body) own = own
own_after n c (statement.empty m) own = own

own_params : (k : MemberKey) (n : ℕ) (ps : List (syntax.Param Span)) (ts : List Ty) (i : ℕ) (l : Local) → slice_get (parameters k n ps ts) i ≡ Some l → l.key.member ≡ k
own_params k n [] ts i l e = absurd (none-some l e)
own_params k n (p ∷ ps) [] i l e = absurd (none-some l e)
own_params k n (p ∷ ps) (t ∷ ts) zero l e = sym (ap (λ (x : Local). x.key.member) (same_Some _ l e))
own_params k n (p ∷ ps) (t ∷ ts) (suc i) l e = own_params k (suc n) ps ts i l e

module _ (k j : LocalKey) (name other : List ℕ) where
  abbrev Leaf : ℕ → Context → ℕ → statement.Stmt Span → Type 0
  Leaf n c b s = DeclaresUnder begins n c s k name j other

  mutual
    unfolding InStmt InElse InStmts

    stmt_own : (n : ℕ) (c : Context) (base : ℕ) (s : statement.Stmt Span) → Own c → InStmt begins (λ c r b e. ⊥) Leaf (λ b ss. ⊥) n c base s → j.member ≡ k.member
    stmt_own n c base (statement.local m f t w e) own (inl h) = sym (ap (λ (x : LocalKey). x.member) h.2.3) ∙ own h.2.0 h.2.1 h.2.2 ∙ ap (λ (x : LocalKey). x.member) h.0
    stmt_own n c base (statement.local m f t w e) own (inr h) = absurd (exp_none begins _ _ e h)
    stmt_own n c base (statement.eval m e) own (inl h) = absurd h
    stmt_own n c base (statement.eval m e) own (inr h) = absurd (exp_none begins _ _ e h)
    stmt_own n c base (statement.branch m e x y) own (inl h) = absurd h
    stmt_own n c base (statement.branch m e x y) own (inr (inl h)) = absurd (exp_none begins _ _ e h)
    stmt_own n c base (statement.branch m e x y) own (inr (inr (inl h))) = stmt_own n c (begins m base) x own h
    stmt_own n c base (statement.branch m e x y) own (inr (inr (inr h))) = else_own (n + locals_in x) c (begins m base) y own h
    stmt_own n c base (statement.loop m e x) own (inl h) = absurd h
    stmt_own n c base (statement.loop m e x) own (inr (inl h)) = absurd (exp_none begins _ _ e h)
    stmt_own n c base (statement.loop m e x) own (inr (inr h)) = stmt_own n c (begins m base) x own h
    stmt_own n c base (statement.return m o) own (inl h) = absurd h
    stmt_own n c base (statement.return m None) own (inr h) = absurd h
    stmt_own n c base (statement.return m (Some e)) own (inr h) = absurd (exp_none begins _ _ e h)
    stmt_own n c base (statement.block m body) own (inl h) = absurd h
    stmt_own n c base (statement.block m body) own (inr (inl h)) = absurd h
    stmt_own n c base (statement.block m body) own (inr (inr h)) = stmts_own n c (begins m base) body own h
    stmt_own n c base (statement.sync m e body) own (inl h) = absurd h
    stmt_own n c base (statement.sync m e body) own (inr (inl h)) = absurd (exp_none begins _ _ e h)
    stmt_own n c base (statement.sync m e body) own (inr (inr (inl h))) = absurd h
    stmt_own n c base (statement.sync m e body) own (inr (inr (inr h))) = stmts_own n c (begins m base) body own h
    stmt_own n c base (statement.empty m) own h = absurd h

    else_own : (n : ℕ) (c : Context) (base : ℕ) (s : statement.Else Span) → Own c → InElse begins (λ c r b e. ⊥) Leaf (λ b ss. ⊥) n c base s → j.member ≡ k.member
    else_own n c base statement.no_else own h = absurd h
    else_own n c base (statement.otherwise x) own h = stmt_own n c base x own h

    stmts_own : (n : ℕ) (c : Context) (base : ℕ) (s : statement.Stmts Span) → Own c → InStmts begins (λ c r b e. ⊥) Leaf (λ b ss. ⊥) n c base s → j.member ≡ k.member
    stmts_own n c base statement.end own h = absurd h
    stmts_own n c base (statement.more x xs) own (inl h) = stmt_own n c base x own h
    stmts_own n c base (statement.more x xs) own (inr h) = stmts_own (n + locals_in x) (after n c x) base xs (own_after n c x own) h

  of_part : (i : MemberKey) (base : ℕ) (part : Part Span) → IsUnder begins k name j other i base part → j.member ≡ k.member
  of_part i base (class_part c) h = absurd h
  of_part i base (member_part (syntax.field m mods t w init)) (inl h) = absurd h
  of_part i base (member_part (syntax.field m mods t w None)) (inr h) = absurd h
  of_part i base (member_part (syntax.field m mods t w (Some e))) (inr h) = absurd (exp_none begins _ _ e h)
  of_part i base (member_part (syntax.method m mods t w ps body)) (inl h) = h.1 ∙ sym h.0
  of_part i base (member_part (syntax.method m mods t w ps body)) (inr (inl h)) = absurd h
  of_part i base (member_part (syntax.method m mods t w ps body)) (inr (inr h)) =
      stmts_own (length ps) (with_parameters i (is_static_member begins mods) ps) (begins m base) body (own_params i 0 ps (types_of i)) h
  of_part i base (member_part (syntax.constructor m mods w ps args body)) (inl h) = h.1 ∙ sym h.0
  of_part i base (member_part (syntax.constructor m mods w ps None body)) (inr (inl h)) = absurd h
  of_part i base (member_part (syntax.constructor m mods w ps (Some args) body)) (inr (inl h)) = absurd (row_none begins _ args h)
  of_part i base (member_part (syntax.constructor m mods w ps args body)) (inr (inr (inl h))) = absurd h
  of_part i base (member_part (syntax.constructor m mods w ps args body)) (inr (inr (inr h))) =
      stmts_own (length ps) (with_parameters i false ps) (begins m base) body (own_params i 0 ps (types_of i)) h
  of_part i base (member_part (syntax.inner m of)) (inl h) = absurd h
  of_part i base (member_part (syntax.inner m of)) (inr h) = absurd h

-- ---- places

pub one_of_row : (rows : List Row) (d e : Decl) (i j : ℕ) → i ≡ j → IsRowOf rows d i → IsRowOf rows e j → d ≡ e
one_of_row rows d e i j same x y = sym x.declares ∙ ap (λ (r : Row). r.decl) (same_Some x.row y.row (sym x.stands ∙ ap (slice_get rows) same ∙ y.stands)) ∙ y.declares

member_no_local : (r : Decl) (new : List ℕ) (j : LocalKey) → TakesPlace r new (local_decl j) → ⊥
member_no_local (field_decl f) new j (inl e) = absurd cc
member_no_local (field_decl f) new j (inr e) = absurd (let t = e.1 in cc)
member_no_local (method_decl m) new j (inl e) = absurd cc
member_no_local (method_decl m) new j (inr e) = absurd (let t = e.1 in cc)
member_no_local (class_decl k) new j h = h
member_no_local (constructor_decl k) new j h = h
member_no_local (local_decl k) new j h = h

module _ (rows : List Row) (units : List (syntax.Unit Span)) where
  -- a local's place is its number, that of anything else goes by its row
  abbrev Placed : Decl → ℕ → Type 0
  Placed d n = ((j : LocalKey) × (d ≡ local_decl j)) ⊎ (((i : ℕ) × IsRowOf rows d i × (n ≡ suc i)) ⊎ ((HasRow begins rows units d → ⊥) × (n ≡ 0)))

  placed : (d : Decl) (n : ℕ) → HasPlace begins rows units d n → Placed d n
  placed (class_decl k) n h = inr h
  placed (field_decl k) n h = inr h
  placed (method_decl k) n h = inr h
  placed (constructor_decl k) n h = inr h
  placed (local_decl k) n h = inl (k, refl)

  same_place : (d e : Decl) (m n : ℕ) → m ≡ n → HasPlace begins rows units d m → HasPlace begins rows units e n → ((j : LocalKey) → d ≡ local_decl j → ⊥) → ((j : LocalKey) → e ≡ local_decl j → ⊥) → HasRow begins rows units e → d ≡ e
  same_place d e m n same x y first second has = by (placed d m x) (placed e n y)
    where
      by : Placed d m → Placed e n → d ≡ e
      by (inl a) b = absurd (first a.0 a.1)
      by (inr a) (inl b) = absurd (second b.0 b.1)
      by (inr a) (inr (inr b)) = absurd (b.0 has)
      by (inr (inl a)) (inr (inl b)) = one_of_row rows d e a.0 b.0 (let p = a.2 in let q = b.2 in omega (arith, same, p, q)) a.1 b.1
      by (inr (inr a)) (inr (inl b)) = absurd (let p = a.1 in let q = b.2 in omega (arith, same, p, q))

  -- ---- the first collision

  in_units : (us : List (syntax.Unit Span)) (k j : LocalKey) (name other : List ℕ) (i : MemberKey) → InUnits begins (declarations_of begins units) (λ i base part. IsUnder begins k name j other i base part) us i → j.member ≡ k.member
  in_units [] k j name other i h = absurd h
  in_units (u ∷ us) k j name other i (inl h) =
      let f = classes_found begins (declarations_of begins units) (λ i base part. IsUnder begins k name j other i base part) (begins u.mark 0) u.classes i h in
      of_part k j name other i f.base f.part f.has
  in_units (u ∷ us) k j name other i (inr h) = in_units us k j name other i h

  of_local : (k j : LocalKey) (new : List ℕ) → LocalClashes begins rows units k new j → j.member ≡ k.member
  of_local k j new x = by x.meets
    where
      by : Under begins rows units k x.old j new ⊎ Under begins rows units j new k x.old → j.member ≡ k.member
      by (inl h) = in_units units k j x.old new h.0 h.1
      by (inr h) = sym (in_units units j k new x.old h.0 h.1)

  class_no_local : (k : ClassKey) (new : List ℕ) (d : Decl) → ClassClashes k new d → (j : LocalKey) → d ≡ local_decl j → ⊥
  class_no_local k new d h j e = subst (ClassClashes k new) e h

  place_no_local : (r : Decl) (new : List ℕ) (d : Decl) → TakesPlace r new d → (j : LocalKey) → d ≡ local_decl j → ⊥
  place_no_local r new d h j e = member_no_local r new j (subst (TakesPlace r new) e h)

  reserved_no_local : (d : Decl) (k : ClassKey) → d ≡ class_decl k → (j : LocalKey) → d ≡ local_decl j → ⊥
  reserved_no_local d k e j f = let t = sym e ∙ f in absurd cc

  module _ (new : List ℕ) (d e : Decl) (m n : ℕ) (same : m ≡ n) (at : HasPlace begins rows units d m) (there : HasPlace begins rows units e n) where
    one_collision : (target : Decl) → Collides begins rows units target new d → Collides begins rows units target new e → d ≡ e
    one_collision (local_decl k) x y =
        let p : m ≡ x.0.number = subst (λ (z : Decl). HasPlace begins rows units z m) x.2 at in
        let q : n ≡ y.0.number = subst (λ (z : Decl). HasPlace begins rows units z n) y.2 there in
        let number : x.0.number ≡ y.0.number = sym p ∙ same ∙ q in
        let member : x.0.member ≡ y.0.member = of_local k x.0 new x.1 ∙ sym (of_local k y.0 new y.1) in
        x.2 ∙ (λ i. local_decl (record { member = member i; number = number i })) ∙ sym y.2
    one_collision (class_decl k) (inl x) (inl y) = x.0 ∙ sym y.0
    one_collision (class_decl k) (inl x) (inr y) = same_place d e m n same at there (reserved_no_local d _ x.0) (class_no_local k new e y.1) y.0
    one_collision (class_decl k) (inr x) (inl y) = sym (same_place e d n m (sym same) there at (reserved_no_local e _ y.0) (class_no_local k new d x.1) x.0)
    one_collision (class_decl k) (inr x) (inr y) = same_place d e m n same at there (class_no_local k new d x.1) (class_no_local k new e y.1) y.0
    one_collision (field_decl k) x y = same_place d e m n same at there (place_no_local x.1.0 new d x.1.2) (place_no_local y.1.0 new e y.1.2) y.0
    one_collision (method_decl k) x y = same_place d e m n same at there (place_no_local x.1.0 new d x.1.2) (place_no_local y.1.0 new e y.1.2) y.0
    one_collision (constructor_decl k) x y = same_place d e m n same at there (place_no_local x.1.0 new d x.1.2) (place_no_local y.1.0 new e y.1.2) y.0

  pub one_clash : (target : Decl) (new : List ℕ) (d e : Decl) → ClashesWith begins rows units target new d → ClashesWith begins rows units target new e → d ≡ e
  one_clash target new d e (inl x) (inl y) = x.1 ∙ sym y.1
  one_clash target new d e (inl x) (inr y) = absurd (y.0 x.0)
  one_clash target new d e (inr x) (inl y) = absurd (x.0 y.0)
  one_clash target new d e (inr x) (inr y) =
      one_collision new d e x.1.place y.1.place (le_antisymm (x.1.first e y.1.place y.1.collides y.1.stands) (y.1.first d x.1.place x.1.collides x.1.stands)) x.1.stands y.1.stands target x.1.collides y.1.collides
