-- The flags of a member's own locals tell what is never null in its body.
use Rattle.std.proofs.Common.{◌≡◌, ◌⊎◌, inl, inr, ℕ, zero, suc, ◌+◌, ◌-◌, ◌≤◌, nat_eq, Bool, true, false, not, ◌&&◌, ◌||◌, List, [], ◌∷◌, ◌++◌, map, length, Option, Some, None, refl, sym, ap, subst, ◌∙◌, arith, length-append}
use Rattle.std.specs.Prelude.{◌↔◌, IsTrue, slice_get}
use Rattle.std.proofs.lemmas.List.Folds.{list_any-append}
use Rattle.std.proofs.lemmas.Option.{none-some, same_Some}
use Rattle.jr_text.specs.declared.spans.Span.{Span}
use Rattle.jr_ast.specs.Tree as tree
use Rattle.jr_ast.specs.StatementTree as statement
use Rattle.jr_ast.specs.MemberTree as syntax
use Rattle.jr_grammar.specs.Layout.{itself}
use Rattle.jr_runs.specs.Keys.{Keys, keys_of}
use Rattle.jr_table.specs.Keys.{ClassKey, FieldKey, MethodKey, CtorKey}
use Rattle.jr_table.specs.Decls.{MemberKey}
use Rattle.jr_bind.specs.Bounds.{Bound, decl_in}
use Rattle.jr_bind.specs.Programs.{Program}
use Rattle.jr_expr_types.specs.Slots.{find_type}
use Rattle.jr_code.specs.RunKeys.{RunKeys, Place}
use Rattle.jr_cover.specs.Facts.{Facts}
use Rattle.jr_cover.specs.NeverNullTrees.{NeverNull}
use Rattle.jr_cover.specs.Spots.{Spot, onto, spot_exp, spot_exps, spot_params, result_count, args_count, spot_stmt, spot_else, spot_stmts, spot_member, spot_class, spot_members}
use Rattle.jr_never_null.specs.Flags.{local_flag, is_safe, next_flag, flags_behind, init_of, FlagsTellNeverNull}
use Rattle.jr_expr_sites.specs.KnownFacts as known_facts
use Rattle.jr_expr_sites.specs.KnownFacts.{Given, known_of, is_never_null}
use Rattle.jr_expr_sites.specs.Meanings.{Meaning, meaning_of, variable_of}
use Rattle.jr_expr_sites.specs.Routes.{begins_by, ends_by, spots}
use Rattle.jr_cfg.specs.MemberRoutes.{known}
use Rattle.jr_member_graphs.specs.FlagRows.{is_among, nones, behind_nones}
use Rattle.jr_member_graphs.specs.GivenFlags.{FlagsTellTheMember}
use Rattle.jr_member_graphs.specs.MemberLocals.{inits, stmt_inits, else_inits, stmts_inits}
use Rattle.jr_member_graphs.specs.Notes.{args_locals, stmts_notes, member_locals}
use Rattle.jr_member_graphs.specs.OwnFlags.{spotted, no_others, own_flags}
use Rattle.jr_bodies.proofs.Coded.{no_body, same_body}
use Rattle.jr_local.specs.Bodies.{Body, body_of_member}
use Rattle.jr_local.specs.BodyFacts.{facts, meaning_at, Declares, Assigns, IsNeverNull}
use Rattle.jr_local_footprints.specs.Givens.{IsMemberOf, given_of, FlagsTell}
use Rattle.jr_local_footprints.proofs.Roots.{B, E, RootOf, root_of}

-- ---- flags made of rows that are alike

-- nothing, or an expression and its spots
abbrev IsAlike : Option (tree.Exp Span) → Option (tree.Exp Spot) → Type 0
IsAlike None None = Unit {0}
IsAlike None (Some y) = ⊥
IsAlike (Some x) None = ⊥
IsAlike (Some x) (Some y) = (at : ℕ) × (path : List ℕ) × (y ≡ spots itself path at x)

abbrev AreAlike : List (Option (tree.Exp Span)) → List (Option (tree.Exp Spot)) → Type 0
AreAlike [] [] = Unit {0}
AreAlike [] (y ∷ ys) = ⊥
AreAlike (x ∷ xs) [] = ⊥
AreAlike (x ∷ xs) (y ∷ ys) = IsAlike x y × AreAlike xs ys

module _ (F : Facts RunKeys Span) (G : Facts RunKeys Spot) (same : (s : Span) (at : ℕ) (path : List ℕ) → F.variable s ≡ G.variable (record { first = B s at; last = E s at; path = path })) where
  safe_same : (fs : List Bool) (e : tree.Exp Span) (at : ℕ) (path : List ℕ) → is_safe F fs e ≡ is_safe G fs (spots itself path at e)
  unfolding spot_exp spot_exps
  safe_same fs (tree.number m v) at path = refl
  safe_same fs (tree.truth m v) at path = refl
  safe_same fs (tree.null m) at path = refl
  safe_same fs (tree.string m s) at path = refl
  safe_same fs (tree.name m w) at path = ap (local_flag fs) (same w.mark (B m at) (onto path 0))
  safe_same fs (tree.field m e w) at path = refl
  safe_same fs (tree.super_field m w) at path = refl
  safe_same fs (tree.this m) at path = refl
  safe_same fs (tree.class_literal m t) at path = refl
  safe_same fs (tree.call m tree.no_target w es) at path = refl
  safe_same fs (tree.call m (tree.on e) w es) at path = refl
  safe_same fs (tree.super_call m w es) at path = refl
  safe_same fs (tree.create m t es) at path = refl
  safe_same fs (tree.paren m e) at path = safe_same fs e (B m at) (onto path 0)
  safe_same fs (tree.cast m t e) at path = refl
  safe_same fs (tree.unary m o e) at path = refl
  safe_same fs (tree.bump m o e) at path = refl
  safe_same fs (tree.binary m o x y) at path = refl
  safe_same fs (tree.assign m x y) at path = refl
  safe_same fs (tree.compound m o x y) at path = refl

  module _ (a c : ℕ → Bool) where
    -- one flag: the local of its number is assigned alike, if it has an initializer
    flag_same : (fs : List Bool) (x : Option (tree.Exp Span)) (y : Option (tree.Exp Spot)) → IsAlike x y → ((i : tree.Exp Span) → x ≡ Some i → a (length fs) ≡ c (length fs)) → next_flag F a fs x ≡ next_flag G c fs y
    flag_same fs None None h agree = refl
    flag_same fs None (Some y) h agree = absurd h
    flag_same fs (Some x) None h agree = absurd h
    flag_same fs (Some x) (Some y) h agree =
        let safe : is_safe F fs x ≡ is_safe G fs y = safe_same fs x h.0 h.1 ∙ ap (is_safe G fs) (sym h.2) in
        λ i. not (agree x refl i) && safe i

    pub flags_same : (fs : List Bool) (xs : List (Option (tree.Exp Span))) (ys : List (Option (tree.Exp Spot))) → AreAlike xs ys → ((k n : ℕ) (i : tree.Exp Span) → n ≡ length fs + k → slice_get xs k ≡ Some (Some i) → a n ≡ c n)
        → flags_behind F a fs xs ≡ flags_behind G c fs ys
    flags_same fs [] [] h agree = refl
    flags_same fs [] (y ∷ ys) h agree = absurd h
    flags_same fs (x ∷ xs) [] h agree = absurd h
    flags_same fs (x ∷ xs) (y ∷ ys) h agree =
        let flag = flag_same fs x y h.0 (λ i e. agree zero (length fs) i (omega arith) (ap Some e)) in
        let more = fs ++ next_flag F a fs x ∷ [] in
        let long = length-append fs (next_flag F a fs x ∷ []) in
        flags_same more xs ys h.1 (λ k n i e there. agree (suc k) n i (omega (arith, e, long)) there) ∙ ap (λ (b : Bool). flags_behind G c (fs ++ b ∷ []) ys) flag

-- ---- initializers

alike_both : (ws xs : List (tree.Exp Span)) (ys zs : List (tree.Exp Spot)) → AreAlike (map (λ e. Some e) ws) (map (λ e. Some e) ys) → AreAlike (map (λ e. Some e) xs) (map (λ e. Some e) zs) → AreAlike (map (λ e. Some e) (ws ++ xs)) (map (λ e. Some e) (ys ++ zs))
alike_both [] xs [] zs a b = b
alike_both [] xs (y ∷ ys) zs a b = absurd a
alike_both (w ∷ ws) xs [] zs a b = absurd a
alike_both (w ∷ ws) xs (y ∷ ys) zs a b = (a.0, alike_both ws xs ys zs a.1 b)

abbrev InitsAlike : List (tree.Exp Span) → List (tree.Exp Spot) → Type 0
InitsAlike xs ys = AreAlike (map (λ e. Some e) xs) (map (λ e. Some e) ys)

mutual
  unfolding spot_stmt spot_else spot_stmts stmt_inits else_inits stmts_inits

  stmt_alike : (s : statement.Stmt Span) (at : ℕ) (p : List ℕ) → InitsAlike (stmt_inits s) (stmt_inits (spot_stmt B E s at p))
  stmt_alike (statement.local m f t w e) at p = ((B m at, onto p 2, refl), tt)
  stmt_alike (statement.eval m e) at p = tt
  stmt_alike (statement.branch m c s o) at p = alike_both (stmt_inits s) (else_inits o) (stmt_inits (spot_stmt B E s (B m at) (onto p 1))) (else_inits (spot_else B E o (B m at) (onto p 2))) (stmt_alike s (B m at) (onto p 1)) (else_alike o (B m at) (onto p 2))
  stmt_alike (statement.loop m c s) at p = stmt_alike s (B m at) (onto p 1)
  stmt_alike (statement.return m v) at p = tt
  stmt_alike (statement.block m b) at p = list_alike b (B m at) p 0
  stmt_alike (statement.sync m e b) at p = list_alike b (B m at) p 1
  stmt_alike (statement.empty m) at p = tt

  else_alike : (o : statement.Else Span) (at : ℕ) (p : List ℕ) → InitsAlike (else_inits o) (else_inits (spot_else B E o at p))
  else_alike statement.no_else at p = tt
  else_alike (statement.otherwise s) at p = stmt_alike s at p

  list_alike : (b : statement.Stmts Span) (at : ℕ) (p : List ℕ) (i : ℕ) → InitsAlike (stmts_inits b) (stmts_inits (spot_stmts B E b at p i))
  list_alike statement.end at p i = tt
  list_alike (statement.more s ss) at p i = alike_both (stmt_inits s) (stmts_inits ss) (stmt_inits (spot_stmt B E s at (onto p i))) (stmts_inits (spot_stmts B E ss at p (suc i))) (stmt_alike s at (onto p i)) (list_alike ss at p (suc i))

params_alike : (ps : List (syntax.Param Span)) (at : ℕ) (p : List ℕ) (i : ℕ) (xs : List (tree.Exp Span)) (ys : List (tree.Exp Spot)) → InitsAlike xs ys
    → AreAlike (behind_nones (length ps) xs) (map (λ q. None) (spot_params B E ps at p i) ++ map (λ e. Some e) ys)
params_alike [] at p i xs ys h = h
params_alike (x ∷ ps) at p i xs ys h = (tt, params_alike ps at p (suc i) xs ys h)

-- ---- of a member

-- the arguments of a written `super(..)`
abbrev pub written_args : syntax.Member Span → Option (tree.Exps Span)
written_args (syntax.constructor m mods w ps args body) = args
written_args (syntax.field m mods t w init) = None
written_args (syntax.method m mods t w ps body) = None
written_args (syntax.inner m c) = None

module _ (M : ℕ → Meaning) where
  -- no local of the body is written by them
  abbrev pub ArgsSpare : Body → syntax.Member Span → Type 0
  ArgsSpare b m = (n : ℕ) → b.at.next ≤ n → is_among (args_locals itself M b.at.base (written_args m)) n ≡ true → ⊥

  record InitsOf (b : Body) (base : ℕ) (m : syntax.Member Span) : Type 0 where
    alike : AreAlike (behind_nones b.at.next (stmts_inits b.list)) (inits (spotted itself base m))
    agree : ArgsSpare b m → (n : ℕ) → b.at.next ≤ n → is_among (stmts_notes itself M b.at.base b.list).writes n ≡ is_among (member_locals itself M base m) n

  without_front : (xs ys : List ℕ) (n : ℕ) → (is_among xs n ≡ true → ⊥) → is_among ys n ≡ is_among (xs ++ ys) n
  without_front xs ys n none = by (is_among xs n) refl ∙ sym (list_any-append (nat_eq n) xs ys)
    where
      by : (c : Bool) → is_among xs n ≡ c → is_among ys n ≡ (is_among xs n || is_among ys n)
      by true e = absurd (none e)
      by false e = ap (λ (d : Bool). d || is_among ys n) (sym e)

  inits_of : (k : MemberKey) (base : ℕ) (m : syntax.Member Span) (bound : Bound) (b : Body) → body_of_member k base m bound ≡ Some b → InitsOf b base m
  unfolding spot_member spot_class spot_members
  inits_of k base (syntax.field m mods t w init) bound b e = absurd (no_body b e)
  inits_of k base (syntax.inner m c) bound b e = absurd (no_body b e)
  inits_of k base (syntax.method m mods t w ps body) bound b e =
      subst (λ (x : Body). InitsOf x base (syntax.method m mods t w ps body)) (same_body _ b e) (record {
        alike = (
            let first = suc (length mods + result_count B E t) in
            params_alike ps (B m base) [] first (stmts_inits body) (stmts_inits (spot_stmts B E body (B m base) [] (first + length ps))) (list_alike body (B m base) [] (first + length ps))
            );
        agree = λ spare n le. refl;
      })
  inits_of k base (syntax.constructor m mods w ps args body) bound b e =
      subst (λ (x : Body). InitsOf x base (syntax.constructor m mods w ps args body)) (same_body _ b e) (record {
        alike = (
            let first = suc (length mods) in
            let call = first + length ps + args_count B E args in
            params_alike ps (B m base) [] first (stmts_inits body) (stmts_inits (spot_stmts B E body (B m base) [] call)) (list_alike body (B m base) [] call)
            );
        agree = λ spare n le. without_front (args_locals itself M m.from args) (stmts_notes itself M m.from body).writes n (spare n le);
      })

-- ---- what behind parameters has an initializer

behind_some : (n : ℕ) (es : List (tree.Exp Span)) (k : ℕ) (i : tree.Exp Span) → slice_get (behind_nones n es) k ≡ Some (Some i) → n ≤ k
behind_some zero es k i e = omega arith
behind_some (suc n) es zero i e = absurd (apart e)
  where
    apart : (let no : Option (tree.Exp Span) = None in Some no ≡ Some (Some i)) → ⊥
    apart h = cc
behind_some (suc n) es (suc k) i e = let le = behind_some n es k i e in omega (arith, le)

-- ---- two functions that answer alike

option_same : {Z : Type 0} (x y : Option Z) → ((z : Z) → (x ≡ Some z) → (y ≡ Some z)) → ((z : Z) → (y ≡ Some z) → (x ≡ Some z)) → x ≡ y
option_same None None to from = refl
option_same None (Some z) to from = from z refl
option_same (Some z) y to from = sym (to z refl)

bool_same : (x y : Bool) → ((x ≡ true) → (y ≡ true)) → ((y ≡ true) → (x ≡ true)) → x ≡ y
bool_same true y to from = sym (to refl)
bool_same false true to from = from refl
bool_same false false to from = refl

module _ (member_flags : FlagsTellTheMember) (flags : FlagsTellNeverNull ClassKey FieldKey MethodKey CtorKey Place Span) (flags_on : FlagsTellNeverNull ClassKey FieldKey MethodKey CtorKey Place Spot)
    (p : Program Span) (b : Body) (base : ℕ) (m : syntax.Member Span) (is : IsMemberOf b base m)
    (declares : (n : ℕ) (i : tree.Exp Span) → (init_of (behind_nones b.at.next (stmts_inits b.list)) n ≡ Some i) ↔ Declares p b n i)
    (assigns : (n : ℕ) → (is_among (stmts_notes itself (meaning_at p b) b.at.base b.list).writes n ≡ true) ↔ Assigns p b n) (spare : ArgsSpare (meaning_at p b) b m) where
  abbrev own : List Bool
  own = own_flags itself p.rows b.key (decl_in b.bound.references) (find_type b.bound.types) base m

  abbrev G : Given
  G = given_of p b own base m

  abbrev FG : Facts RunKeys Spot
  FG = (known_of G no_others).facts

  abbrev rows_on : List (Option (tree.Exp Spot))
  rows_on = inits (spotted itself base m)

  abbrev assigned_on : ℕ → Bool
  assigned_on = is_among (member_locals itself (known_facts.meaning_at G) base m)

  abbrev rows : List (Option (tree.Exp Span))
  rows = behind_nones b.at.next (stmts_inits b.list)

  abbrev assigned : ℕ → Bool
  assigned = is_among (stmts_notes itself (meaning_at p b) b.at.base b.list).writes

  root : RootOf b base m
  root = root_of b.key base m b.bound b is

  means : meaning_at p b ≡ known_facts.meaning_at G
  means = λ i at. meaning_of (decl_in b.bound.references (at - sym root.start i))

  agree : (n : ℕ) → b.at.next ≤ n → assigned n ≡ assigned_on n
  agree n le = (inits_of (meaning_at p b) b.key base m b.bound b is).agree spare n le ∙ ap (λ (M : ℕ → Meaning). is_among (member_locals itself M base m) n) means

  all_same : flags_behind (facts p b) assigned [] rows ≡ flags_behind FG assigned_on [] rows_on
  all_same =
      flags_same (facts p b) FG (λ s at path i. variable_of p.rows (means i s.from)) assigned assigned_on [] rows rows_on (inits_of (meaning_at p b) b.key base m b.bound b is).alike
      (λ k n i e there. let le = behind_some b.at.next (stmts_inits b.list) k i there in agree n (let more : b.at.next ≤ n = omega (arith, e, le) in more))

  -- by the rules on spans
  abbrev Never : tree.Exp Span → Type 0
  Never e = NeverNull (facts p b) (init_of rows) assigned e

  told : (e : tree.Exp Span) (at : ℕ) (path : List ℕ) → IsTrue (is_never_null G (spots itself path at e)) ↔ Never e
  told e at path =
      let here = flags (facts p b) assigned rows e in
      let there = flags_on FG assigned_on rows_on (spots itself path at e) in
      let own_there = member_flags G no_others assigned_on rows_on refl (spots itself path at e) in
      let safe : is_safe (facts p b) (flags_behind (facts p b) assigned [] rows) e ≡ is_safe FG (flags_behind FG assigned_on [] rows_on) (spots itself path at e) =
      safe_same (facts p b) FG (λ s k q i. variable_of p.rows (means i s.from)) (flags_behind (facts p b) assigned [] rows) e at path ∙ ap (λ (fs : List Bool). is_safe FG fs (spots itself path at e)) all_same in
      (λ t. here.0 (subst IsTrue (sym safe) (there.1 (own_there.0 t))), λ h. own_there.1 (there.0 (subst IsTrue safe (here.1 h))))

  pub own_flags_tell : FlagsTell p b own base m
  own_flags_tell e at path = (to, back)
    where
      to : IsTrue (is_never_null G (spots itself path at e)) → IsNeverNull p b e
      to t = record { init = init_of rows; is_assigned = assigned; declared = declares; assigned = assigns; never = (told e at path).0 t }

      back : IsNeverNull p b e → IsTrue (is_never_null G (spots itself path at e))
      back h =
          let begin : h.init ≡ init_of rows = λ j n. option_same (h.init n) (init_of rows n) (λ z x. (declares n z).1 ((h.declared n z).0 x)) (λ z x. (h.declared n z).1 ((declares n z).0 x)) j in
          let write : h.is_assigned ≡ assigned = λ j n. bool_same (h.is_assigned n) (assigned n) (λ x. (assigns n).1 ((h.assigned n).0 x)) (λ x. (h.assigned n).1 ((assigns n).0 x)) j in
          (told e at path).1 (subst (λ (a : ℕ → Bool). NeverNull (facts p b) (init_of rows) a e) write (subst (λ (a : ℕ → Option (tree.Exp Span)). NeverNull (facts p b) a h.is_assigned e) begin h.never))
