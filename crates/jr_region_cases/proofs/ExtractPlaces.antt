-- `void m(){ { f(); g(h+1); } int y=1; }`, where `h+1` becomes a local: the places stand as the laws ask for, in the region of extract local in
-- which that local isn't in scope. It has the number of y, and y the next one: the contexts at `f();` and at y are equal.
use Rattle.std.proofs.Common.{◌≡◌, ◌<◌, ℕ, zero, suc, ◌+◌, List, [], ◌∷◌, Some, None, Bool, false, codes, refl, sym, ap, subst, ◌∙◌, inl, inr, arith, map, Option, ◌≤◌}
use Rattle.std.specs.Prelude.{slice_get, ◌⊎◌, option_map}
use Rattle.std.proofs.lemmas.Option.{slice_get-map}
use Rattle.jr_runs.specs.Rows as core_rows
use Rattle.jr_runs.specs.KeyMaps.{KeyMap}
use Rattle.jr_runs.specs.Standing.{In, whole}
use Rattle.jr_runs.specs.Images.{AllSpots, BlockTo}
use Rattle.jr_text.specs.declared.spans.Span.{Span}
use Rattle.jr_ast.specs.Tree as tree
use Rattle.jr_ast.specs.StatementTree as statement
use Rattle.jr_grammar.specs.Layout.{itself}
use Rattle.jr_table.specs.Keys.{ClassKey, Ty, int}
use Rattle.jr_table.specs.Decls.{MemberKey, method, LocalKey, local_decl}
use Rattle.jr_table.specs.Rows.{Row}
use Rattle.jr_table.specs.Context.{Context, Local, LocalType, known, written, IsLocalType, WritesType, scope_of, local_of, local_key, local_type, in_own, after, locals_in, locals_in_row, scope_local}
use Rattle.jr_table.specs.Scope.{ScopeLocal}
use Rattle.jr_rewrite.specs.Rewritten.{Rewritten}
use Rattle.jr_rewrite.specs.Spots.{Spots, Spotted, spotted}
use Rattle.jr_rewrite.specs.Rewrites.{Choosing, TransformsStmt, TransformsStmts, TransformsList}
use Rattle.jr_images.specs.Regions.{Region}
use Rattle.jr_images.proofs.Sides.{local_written, written_local}
use Rattle.jr_local.specs.Scopes.{room, around_made}
use Rattle.jr_kept_references.specs.InRegions.{name_in, type_in, StandsFor}
use Rattle.jr_kept_references.specs.StatementsAlong.{ListSpotStands, ListStays}
use Rattle.jr_kept_references.specs.RegionPlaces.{Standing, Becomes, AreStanding}
use Rattle.jr_code.specs.RunKeys.{RunKeys}
use Rattle.jr_code.specs.CodedStatements.{numbers}
use Rattle.jr_image_code.specs.KnownPlaces.{IsPlace}
use Rattle.jr_image_code.specs.CodeRelations.{Relations}
use Rattle.jr_image_code.specs.CodedSpots.{LocalsStay, AreBelow, ListsCoded, StatementsCoded}
use Rattle.jr_image_code.specs.FlowImages.{Bounds, flowing}
use Rattle.jr_image_code.proofs.ExpImages.{shown_row}
use Rattle.jr_image_code.proofs.StmtImages.{HasNoRows}

abbrev owner : ClassKey
owner = record { outer = None; name = codes "A" }

abbrev m : MemberKey
m = method (record { class = owner; name = codes "m"; params = [] })

abbrev made : LocalKey
made = record { member = m; number = 0 }

abbrev there : Context
there = record { member = m; is_static = false; locals = []; own = None }

-- the numbers of the next locals, and what is known on both sides
record Place : Type 0 where
  n : ℕ
  z : ℕ
  c : Context
  d : Context

abbrev place : (n z : ℕ) (c d : Context) → Place
place n z c d = record { n = n; z = z; c = c; d = d }

-- types of locals look at the class of the place alone
without_local : (rows : List Row) (l : Local) (u : LocalType) (t : Ty) → IsLocalType rows (scope_of (in_own there l)) u t → IsLocalType rows (scope_of there) u t
without_local rows l (known k) t h = h
without_local rows l (written None name) t h = h
without_local rows l (written (Some o) name) t h = h

with_local : (rows : List Row) (l : Local) (u : LocalType) (t : Ty) → IsLocalType rows (scope_of there) u t → IsLocalType rows (scope_of (in_own there l)) u t
with_local rows l (known k) t h = h
with_local rows l (written None name) t h = h
with_local rows l (written (Some o) name) t h = h

only : (l x : Local) (i : ℕ) → slice_get (l ∷ []) i ≡ Some x → l ≡ x
only l x zero e = cc
only l x (suc i) e = absurd cc

module _ (rows : List Row) where
  abbrev R : Region Span
  R = around_made rows made (codes "t") int

  abbrev key : ℕ → LocalKey
  key n = record { member = m; number = n }

  abbrev OnlyY : Context → Type 0
  OnlyY c = (i : ℕ) (l : Local) → slice_get c.locals i ≡ Some l → l.key ≡ key 0

  none_there : (l : Local) (i : ℕ) → slice_get there.locals i ≡ Some l → ⊥
  none_there l zero e = cc
  none_there l (suc i) e = cc

  start_only : OnlyY there
  start_only i l e = absurd (none_there l i e)

  -- where no local is known, and behind the declaration of y
  start_stands : StandsFor R rows there there
  start_stands = record { scope = refl; local_types = λ k j t is (l, knows, type). absurd (none_there l knows.number knows.stands) }

  module _ (f : Bool) (t u : tree.TypeName Span) (w v : tree.Word Span) where
    abbrev old : Local
    old = local_of there 0 f t w

    abbrev new : Local
    new = local_of there 1 f u v

    own_stands : v.text ≡ w.text → ((k : Ty) → WritesType rows (scope_of there) t k → WritesType rows (scope_of there) u (type_in R k)) → StandsFor R rows (in_own there old) (in_own there new)
    own_stands named goes = record {
      scope = λ i. record { class = owner; is_static = false; locals = record { name = named i; key = key 1 } ∷ [] };
      local_types = λ k j s is (l, knows, type). (
          let same : old ≡ l = only old l knows.number knows.stands in
          let old_key : key 0 ≡ k = ap (λ (x : Local). x.key) same ∙ knows.is in
          let image : Some (key 1) ≡ Some j = ap (room rows made (codes "t") int) old_key ∙ is in
          let new_key : key 1 ≡ j = cc in (
            new,
            record { number = 0; stands = refl; is = new_key; last = λ i other later e. no_other i other later e },
            with_local rows new (local_type u) (type_in R s) (written_local rows (scope_of there) u (type_in R s)
                (goes s (local_written rows (scope_of there) t s (without_local rows old (local_type t) s (subst (λ (x : Local). IsLocalType rows (scope_of (in_own there old)) x.type s) (sym same) type))))),
          ));
    }
      where
        no_other : {k : LocalKey} (i : ℕ) (other : Local) → 0 < i → slice_get (new ∷ []) i ≡ Some other → other.key ≡ k → ⊥
        no_other zero other later e is = absurd (omega (arith, later))
        no_other (suc i) other later e is = cc

  -- ---- the tree, by what its calls and its initializer are

  module _ (a b g h : Span) (f_call g_call init : tree.Exp Span) (type : tree.TypeName Span) (w : tree.Word Span) where
    abbrev first : statement.Stmt Span
    first = statement.eval a f_call

    abbrev second : statement.Stmt Span
    second = statement.eval b g_call

    abbrev nothing : statement.Stmts Span
    nothing = statement.end

    abbrev held : statement.Stmts Span
    held = statement.more second statement.end

    abbrev inner : statement.Stmts Span
    inner = statement.more first held

    abbrev around : statement.Stmt Span
    around = statement.block g inner

    abbrev y : statement.Stmt Span
    y = statement.local h false type w init

    abbrev rest : statement.Stmts Span
    rest = statement.more y statement.end

    abbrev body : statement.Stmts Span
    body = statement.more around rest

    -- the list from the second call on is a spot, whose new list declares one local
    module _ (Out : Rewritten (statement.Stmts Span) → Type 0) (one_more : (o : Rewritten (statement.Stmts Span)) → Out o → locals_in_row o.tree ≡ 1) (C : Choosing Span) where
      abbrev IsHeld : ℕ → Context → statement.Stmts Span → Type 0
      IsHeld n c xs = (n ≡ 0) × (c ≡ there) × (xs ≡ held)

      abbrev spots : Spots Span
      spots = record {
        part = λ k c r base e o. ⊥;
        part_stays = λ k c r base e. Unit {0};
        list = λ n c base xs o. IsHeld n c xs × Out o;
        list_stays = λ n c base xs. IsHeld n c xs → ⊥;
        members = λ base of ys o. ⊥;
        members_stay = λ base of ys. Unit {0};
        whole = λ base outer x o. ⊥;
        whole_stays = λ base outer x. Unit {0};
        this_stays = Unit {0};
      }

      abbrev S : Spotted Span
      S = spotted spots

      abbrev AtStart : ℕ → ℕ → Context → Context → Type 0
      AtStart n z c d = place n z c d ≡ place 0 0 there there

      abbrev AtY : ℕ → ℕ → Context → Context → Type 0
      AtY n z c d = place n z c d ≡ place 0 1 there there

      -- places stand for one another, and no local but y is in scope
      abbrev Knows_there : Context → Context → Type 0
      Knows_there c d = StandsFor R rows c d × OnlyY c

      abbrev At : Standing Span
      At = record {
        Known = Knows_there;
        Lists = λ n z c d xs. (AtStart n z c d × ((xs ≡ body) ⊎ ((xs ≡ inner) ⊎ (xs ≡ held)))) ⊎ ((AtY n z c d × (xs ≡ rest)) ⊎ (xs ≡ statement.end));
        Single = λ n z c d x. (AtStart n z c d × ((x ≡ around) ⊎ (x ≡ first))) ⊎ (AtY n z c d × (x ≡ y));
        Classes = λ base outer x. ⊥;
        Members = λ base of xs. ⊥;
        Written = λ k base x. ⊥;
      }

      -- what becomes of the first call, and of the block
      first_becomes : (n : ℕ) (c : Context) (base : ℕ) (q : Rewritten (statement.Stmt Span)) → TransformsStmt itself C S n c base first q → (k : Span) × (e : tree.Exp Span) × (q.tree ≡ statement.eval k e)
      unfolding TransformsStmt
      first_becomes n c base q (p, inner_made, is) = (a, p.tree, ap (λ (o : Rewritten (statement.Stmt Span)). o.tree) is)

      inner_becomes : (base : ℕ) (p : Rewritten (statement.Stmts Span)) → TransformsList itself C S 0 there base inner p → locals_in_row p.tree ≡ 1
      unfolding TransformsStmts locals_in locals_in_row
      inner_becomes base p (inr ((n0, c0, is_held), out)) = absurd (let tails : held ≡ nothing = cc in cc)
      inner_becomes base p (inl (stays, (p1, p2, one, inl (held_stays, others), is2))) = absurd (held_stays (refl, refl, refl))
      inner_becomes base p (inl (stays, (p1, p2, one, inr (is_held, out), is2))) =
          let call = first_becomes 0 there base p1 one in
          ap (λ (o : Rewritten (statement.Stmts Span)). locals_in_row o.tree) is2 ∙ (λ i. locals_in (call.2 i) + one_more p2 out i)

      around_becomes : (base : ℕ) (q : Rewritten (statement.Stmt Span)) → TransformsStmt itself C S 0 there base around q → (k : Span) × (xs : statement.Stmts Span) × (q.tree ≡ statement.block k xs) × (locals_in_row xs ≡ 1)
      unfolding TransformsStmt
      around_becomes base q (p, inside, is) = (g, p.tree, ap (λ (o : Rewritten (statement.Stmt Span)). o.tree) is, inner_becomes g.from p inside)

      stands : AreStanding itself rows R C S At
      unfolding locals_in locals_in_row
      stands = record {
        stand = λ c d h. h.0;
        first = λ n z c d base x xs at stays. first_stands n z c d base x xs at stays;
        behind = λ n z c d base x xs q at stays made. behind_stands n z c d base x xs q at stays made;
        known = λ n z c d x at. known_stands n z c d x at;
        in_initializer = λ n z c d k f t u w v e at goes named. own n z c d k f t u w v e at goes named;
        in_block = λ n z c d k xs at. block_stands n z c d k xs at;
        in_sync = λ n z c d k e xs at. sync_stands n z c d k e xs at;
        in_loop = λ n z c d k e x at. loop_stands n z c d k e x at;
        in_branch = λ n z c d k e x other at. branch_stands n z c d k e x other at;
        in_else = λ n z c d base k e x o q at made. else_stands n z c d k e x (statement.otherwise o) at;
      }
        where
          first_stands : (n z : ℕ) (c d : Context) (base : ℕ) (x : statement.Stmt Span) (xs : statement.Stmts Span) → At.Lists n z c d (statement.more x xs) → ListStays S n c base (statement.more x xs) → At.Single n z c d x
          first_stands n z c d base x xs (inl (at, inl is)) stays = (let same : x ≡ around = cc in inl (at, inl same))
          first_stands n z c d base x xs (inl (at, inr (inl is))) stays = (let same : x ≡ first = cc in inl (at, inr same))
          first_stands n z c d base x xs (inl (at, inr (inr is))) stays = absurd (stays (ap (λ (q : Place). q.n) at, ap (λ (q : Place). q.c) at, is))
          first_stands n z c d base x xs (inr (inl (at, is))) stays = (let same : x ≡ y = cc in inr (at, same))
          first_stands n z c d base x xs (inr (inr is)) stays = absurd cc

          behind_stands : (n z : ℕ) (c d : Context) (base : ℕ) (x : statement.Stmt Span) (xs : statement.Stmts Span) (q : Rewritten (statement.Stmt Span)) → At.Lists n z c d (statement.more x xs)
              → ListStays S n c base (statement.more x xs) → Becomes itself rows R C S n c base x q → At.Lists (n + locals_in x) (z + locals_in q.tree) (after n c x) (after z d q.tree) xs
          behind_stands n z c d base x xs q (inl (at, inl is)) stays made =
              let same : x ≡ around = cc in
              let tail : xs ≡ rest = cc in
              let becomes = around_becomes base q (subst (λ (s : statement.Stmt Span). TransformsStmt itself C S 0 there base s q) same (subst (λ (p : Place). TransformsStmt itself C S p.n p.c base x q) at made.0)) in
              let count : locals_in q.tree ≡ 1 = ap (λ (s : statement.Stmt Span). locals_in s) becomes.2 ∙ becomes.3 in
              inr (inl (
                (λ i. place ((at i).n + locals_in (same i)) ((at i).z + count i) (after (at i).n (at i).c (same i)) (after (at i).z (at i).d (becomes.2 i))),
                tail,
              ))
          behind_stands n z c d base x xs q (inl (at, inr (inl is))) stays made =
              let same : x ≡ first = cc in
              let tail : xs ≡ held = cc in
              let becomes = first_becomes n c base q (subst (λ (s : statement.Stmt Span). TransformsStmt itself C S n c base s q) same made.0) in
              inl (
                (λ i. place ((at i).n + locals_in (same i)) ((at i).z + locals_in (becomes.2 i)) (after (at i).n (at i).c (same i)) (after (at i).z (at i).d (becomes.2 i))),
                inr (inr tail),
              )
          behind_stands n z c d base x xs q (inl (at, inr (inr is))) stays made = absurd (stays (ap (λ (p : Place). p.n) at, ap (λ (p : Place). p.c) at, is))
          behind_stands n z c d base x xs q (inr (inl (at, is))) stays made = (let tail : xs ≡ statement.end = cc in inr (inr tail))
          behind_stands n z c d base x xs q (inr (inr is)) stays made = absurd cc

          known_stands : (n z : ℕ) (c d : Context) (x : statement.Stmt Span) → At.Single n z c d x → Knows_there c d
          known_stands n z c d x (inl (at, is)) = subst (λ (p : Place). Knows_there p.c p.d) (sym at) (start_stands, start_only)
          known_stands n z c d x (inr (at, is)) = subst (λ (p : Place). Knows_there p.c p.d) (sym at) (start_stands, start_only)

          own : (n z : ℕ) (c d : Context) (k : Span) (f : Bool) (t u : tree.TypeName Span) (w v : tree.Word Span) (e : tree.Exp Span) → At.Single n z c d (statement.local k f t w e)
              → ((s : Ty) → WritesType rows (scope_of c) t s → WritesType rows (scope_of d) u (type_in R s)) → v.text ≡ name_in R (local_decl (local_key c n)) w.text
              → Knows_there (in_own c (local_of c n f t w)) (in_own d (local_of d z f u v))
          own n z c d k f t u w v e (inl (at, inl is)) goes named = absurd cc
          own n z c d k f t u w v e (inl (at, inr is)) goes named = absurd cc
          own n z c d k f t u w v e (inr (at, is)) goes named = subst (λ (p : Place). ((s : Ty) → WritesType rows (scope_of p.c) t s → WritesType rows (scope_of p.d) u (type_in R s))
              → Knows_there (in_own p.c (local_of p.c p.n f t w)) (in_own p.d (local_of p.d p.z f u v))) (sym at) (λ to. (own_stands f t u w v named to, λ i l e. ap (λ (x : Local). x.key) (sym (only (old f t u w v) l i e)))) goes

          block_stands : (n z : ℕ) (c d : Context) (k : Span) (xs : statement.Stmts Span) → At.Single n z c d (statement.block k xs) → At.Lists n z c d xs
          block_stands n z c d k xs (inl (at, inl is)) = (let same : xs ≡ inner = cc in inl (at, inr (inl same)))
          block_stands n z c d k xs (inl (at, inr is)) = absurd cc
          block_stands n z c d k xs (inr (at, is)) = absurd cc

          sync_stands : (n z : ℕ) (c d : Context) (k : Span) (e : tree.Exp Span) (xs : statement.Stmts Span) → At.Single n z c d (statement.sync k e xs) → At.Lists n z c d xs
          sync_stands n z c d k e xs (inl (at, inl is)) = absurd cc
          sync_stands n z c d k e xs (inl (at, inr is)) = absurd cc
          sync_stands n z c d k e xs (inr (at, is)) = absurd cc

          loop_stands : (n z : ℕ) (c d : Context) (k : Span) (e : tree.Exp Span) (x : statement.Stmt Span) → At.Single n z c d (statement.loop k e x) → At.Single n z c d x
          loop_stands n z c d k e x (inl (at, inl is)) = absurd cc
          loop_stands n z c d k e x (inl (at, inr is)) = absurd cc
          loop_stands n z c d k e x (inr (at, is)) = absurd cc

          branch_stands : (n z : ℕ) (c d : Context) (k : Span) (e : tree.Exp Span) (x : statement.Stmt Span) (other : statement.Else Span) → At.Single n z c d (statement.branch k e x other) → At.Single n z c d x
          branch_stands n z c d k e x other (inl (at, inl is)) = absurd cc
          branch_stands n z c d k e x other (inl (at, inr is)) = absurd cc
          branch_stands n z c d k e x other (inr (at, is)) = absurd cc

          else_stands : {D : Type 0} (n z : ℕ) (c d : Context) (k : Span) (e : tree.Exp Span) (x : statement.Stmt Span) (other : statement.Else Span) → At.Single n z c d (statement.branch k e x other) → D
          else_stands n z c d k e x other (inl (at, inl is)) = absurd cc
          else_stands n z c d k e x other (inl (at, inr is)) = absurd cc
          else_stands n z c d k e x other (inr (at, is)) = absurd cc

      -- ---- code: y's number is one more

      module _ (last : Span → ℕ → ℕ) (no_rows : HasNoRows rows) (r : KeyMap RunKeys) (D : core_rows.Rows RunKeys) (Spot : AllSpots RunKeys) (May : Bounds) where
        abbrev X : Relations
        X = flowing r D Spot (whole 1 (λ n. suc n)) May

        found_key : (c : Context) → OnlyY c → (at : ℕ) (x : ScopeLocal) → slice_get (map scope_local c.locals) at ≡ Some x → x.key ≡ key 0
        found_key c alone at x e = by (slice_get c.locals at) refl
          where
            by : (o : Option Local) → slice_get c.locals at ≡ o → x.key ≡ key 0
            by None is = absurd (let p = sym e ∙ slice_get-map scope_local c.locals at ∙ ap (option_map scope_local) is in cc)
            by (Some l) is = let p : Some x ≡ Some (scope_local l) = sym e ∙ slice_get-map scope_local c.locals at ∙ ap (option_map scope_local) is in
                let same : x ≡ scope_local l = cc in ap (λ (y : ScopeLocal). y.key) same ∙ alone at l is

        locals_stay : (c : Context) → OnlyY c → LocalsStay rows R X c
        locals_stay c alone k j name (inl (i, found, is)) image =
            let same : k ≡ i = cc in
            let zero_key : key 0 ≡ k = sym (found_key c alone found.place found.local found.stands) ∙ found.is ∙ sym same in
            let to : Some (key 1) ≡ Some j = ap (room rows made (codes "t") int) zero_key ∙ image in
            let one_key : key 1 ≡ j = cc in
            (inl (ap (λ (l : LocalKey). l.number) (sym zero_key)), (λ l. (sym one_key l).number) ∙ ap (λ (l : LocalKey). suc l.number) zero_key)
        locals_stay c alone k j name (inr (none, (a, finds, shows))) image = let row = shown_row rows a (local_decl k) shows in absurd (no_rows k row.0 row.1)

        block_to : BlockTo {K = RunKeys} (whole 1 (λ n. suc n)) (numbers 0 0) (numbers 0 1)
        unfolding numbers
        block_to = record { all = λ i a b. absurd b; only = λ i a b. no_later i b; others = λ i a b. a; known = λ i a b. a }
          where
            no_later : {E : Type 0} (i : ℕ) → In (suc i) (numbers 0 1) → E
            no_later i (inl e) = absurd cc
            no_later i (inr e) = absurd e

        declared : (n z : ℕ) (c d : Context) (k : Span) (f : Bool) (t : tree.TypeName Span) (w : tree.Word Span) (e : tree.Exp Span) → At.Single n z c d (statement.local k f t w e) → X.mine n × X.free n × (z ≡ X.at n)
        declared n z c d k f t w e (inl (at, inl is)) = absurd cc
        declared n z c d k f t w e (inl (at, inr is)) = absurd cc
        declared n z c d k f t w e (inr (at, is)) = (inl (ap (λ (p : Place). p.n) at), (λ a. a), ap (λ (p : Place). p.z) at ∙ sym (ap (λ (p : Place). suc p.n) at))

        blocks : (n z : ℕ) (c d : Context) (base : ℕ) (k : Span) (xs : statement.Stmts Span) (q : Rewritten (statement.Stmts Span)) → At.Single n z c d (statement.block k xs) → TransformsList itself C S n c base xs q
            → X.block (numbers n (locals_in_row xs)) (numbers z (locals_in_row q.tree))
        unfolding locals_in locals_in_row
        blocks n z c d base k xs q (inl (at, inl is)) made =
            let same : xs ≡ inner = cc in
            let count = inner_becomes base q (subst (λ (s : statement.Stmts Span). TransformsList itself C S 0 there base s q) same (subst (λ (p : Place). TransformsList itself C S p.n p.c base xs q) at made)) in
            subst (λ (ms : List ℕ). X.block (numbers n (locals_in_row xs)) ms) (λ i. numbers ((sym at i).z) (sym count i))
            (subst (λ (ns : List ℕ). X.block ns (numbers 0 1)) (λ i. numbers ((sym at i).n) (locals_in_row (sym same i))) block_to)
        blocks n z c d base k xs q (inl (at, inr is)) made = absurd cc
        blocks n z c d base k xs q (inr (at, is)) made = absurd cc

        -- where the new list's code is related to that of the spot's list
        coded : ((n z : ℕ) (c d : Context) (base : ℕ) (xs : statement.Stmts Span) (i : ℕ) (ys : statement.Stmts Span) → At.Lists n z c d xs → ListSpotStands S n z c d base xs i ys → AreBelow 1 c.locals → IsPlace rows c → n + locals_in_row xs ≤ 1
            → ListsCoded itself last rows R X C S At 1 n z c d base xs ys) → StatementsCoded itself last rows R X C S At 1
        coded lists = record {
          locals = λ c d at below. locals_stay c at.1;
          declared = λ n z c d k f t w e at small. declared n z c d k f t w e at;
          block = λ n z c d base k xs q at made none fits. blocks n z c d base k xs q at made;
          lists = lists;
        }
