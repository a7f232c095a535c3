-- Outside of the list that is made anew places stand for one another: they have the same locals, with numbers
-- that are one higher behind the list. The way leads to the list; beside it the numbers stay in front of the
-- list, and are one higher behind it.
use Rattle.std.proofs.Common.{◌≡◌, ◌⊎◌, ℕ, suc, ◌+◌, ◌<◌, ◌≤◌, List, [], ◌∷◌, ◌++◌, map, Option, Some, None, Bool, true, false, length, refl, sym, ap, subst, ◌∙◌, inl, inr, arith}
use Rattle.jr_text.specs.declared.spans.Span.{Span}
use Rattle.jr_ast.specs.Tree as tree
use Rattle.jr_ast.specs.StatementTree as statement
use Rattle.jr_ast.specs.MemberTree as syntax
use Rattle.jr_grammar.specs.Layout.{itself}
use Rattle.jr_table.specs.Keys.{Ty}
use Rattle.jr_table.specs.Decls.{MemberKey, head, field, method, constructor, LocalKey, local_decl}
use Rattle.jr_table.specs.Prelude.{top_key}
use Rattle.jr_table.specs.DeclaredItems.{DeclaredItem}
use Rattle.jr_table.specs.HeadRules.{plain as no_locals, types_of, with_parameters, is_static_member}
use Rattle.jr_table.specs.Errors.{Part, member_part, InClass, InMembers, InInner, InClasses}
use Rattle.jr_table.specs.Rows.{Row}
use Rattle.jr_table.specs.Scope.{ScopeLocal}
use Rattle.jr_table.specs.Context.{Context, Local, WritesType, scope_of, scope_local, local_of, local_key, in_own, with_local, parameters, after, locals_in, locals_in_else, locals_in_row}
use Rattle.jr_rewrite.specs.Respellings.{Choice, text_of}
use Rattle.jr_rewrite.specs.Rewritten.{Rewritten, joined, word_to}
use Rattle.jr_rewrite.specs.Spots.{Spotted, OrList}
use Rattle.jr_members.proofs.Anywhere.{IsAt}
use Rattle.jr_rewrite.specs.Rewrites.{Choosing, RewritesParams, TransformsStmt}
use Rattle.jr_images.specs.Regions.{Region}
use Rattle.jr_images.specs.Spelling.{choosing}
use Rattle.jr_images.proofs.Chosen.{renamed_text, left_none, lost_none}
use Rattle.jr_pieces.specs.Ways.{StmtWay, in_init, in_condition, in_then, in_else, in_turning, in_body, in_block, in_lock, in_locked, ListWay, first, later}
use Rattle.jr_pieces.specs.Standings.{inside, behind, in_other}
use Rattle.jr_pieces.specs.Nearest.{Element, or_element, element_within, nearest}
use Rattle.jr_bodies.specs.Bodies.{begins}
use Rattle.jr_local.specs.Scopes.{kept_locals, around_made}
use Rattle.jr_kept_references.specs.InRegions.{name_in, type_in, member_in, StandsFor}
use Rattle.jr_kept_references.specs.StatementsAlong.{ListStays}
use Rattle.jr_kept_references.specs.RegionPlaces.{Standing, AreStanding, AreBeginning, AreWalked, AllWalked}
use Rattle.jr_kept_references.proofs.RegionWorlds.{RegionWorld}
use Rattle.jr_kept_references.proofs.RegionTypes.{written_kept}
use Rattle.jr_untouched_parts.specs.Around.{held}
use Rattle.jr_untouched_parts.proofs.OneWay.{OneStmt, OneList, one_first, one_later, none_behind, none_in_front, one_then, none_else, one_else, none_then, one_body, one_block, one_locked, meets}
use Rattle.jr_untouched_parts.proofs.Numbers.{Among, among_stmt, among_list}
use Rattle.jr_extracted_references.proofs.Worlds.{same_type}
use Rattle.jr_extracted_references.proofs.Locals as scopes
use Rattle.jr_extracted_references.proofs.Locals.{LocalsAre, bare, Beside, local_goes, stands_for, more_own, more_behind}
use Rattle.jr_extracted_references.proofs.Rooms.{made_key, to, from_is, from_not, room_from, room_not, kept_key, once, kept_more}
use Rattle.jr_extracted_references.proofs.Counts.{after_member, away, same_locals, place, stmt_apart, on_stmt}

-- ---- numbers below that of the next local

abbrev pub Below : ℕ → List Local → Type 0
Below n [] = Unit {0}
Below n (l ∷ ls) = (l.key.number < n) × Below n ls

pub below_all : (n m : ℕ) (ls : List Local) → n ≤ m → Below n ls → Below m ls
below_all n m [] le h = tt
below_all n m (l ∷ ls) le h = (omega (arith, le, h.0), below_all n m ls le h.1)

pub below_more : (n m : ℕ) (ls : List Local) (l : Local) → n ≤ m → l.key.number < m → Below n ls → Below m (ls ++ l ∷ [])
below_more n m [] l le own h = (own, tt)
below_more n m (x ∷ ls) l le own h = (omega (arith, le, h.0), below_more n m ls l le own h.1)

pub below_after : (n m : ℕ) (c : Context) (s : statement.Stmt Span) → n + locals_in s ≤ m → Below n c.locals → Below m (after n c s).locals
unfolding locals_in
below_after n m c (statement.local p f t w e) le h = below_more n m c.locals (local_of c n f t w) (omega (arith, le)) (omega (arith, le)) h
below_after n m c (statement.eval p e) le h = below_all n m c.locals (omega (arith, le)) h
below_after n m c (statement.branch p e s o) le h = below_all n m c.locals (omega (arith, le)) h
below_after n m c (statement.loop p e s) le h = below_all n m c.locals (omega (arith, le)) h
below_after n m c (statement.return p e) le h = below_all n m c.locals (omega (arith, le)) h
below_after n m c (statement.block p b) le h = below_all n m c.locals (omega (arith, le)) h
below_after n m c (statement.sync p e b) le h = below_all n m c.locals (omega (arith, le)) h
below_after n m c (statement.empty p) le h = below_all n m c.locals (omega (arith, le)) h

none_there : {f : tree.Exp Span} (x : Element f) → (let none : Option (Element f) = None in none ≡ Some x) → ⊥
none_there x e = cc

some_there : {f : tree.Exp Span} (x y : Element f) → Some x ≡ Some y → x ≡ y
some_there x y e = cc

module _ (rows : List Row) (super_at : Context → ℕ) (k : MemberKey) (name : List ℕ) (type : Ty) (S : Spotted Span) {f : tree.Exp Span} (x : Element f) (straight : meets x.way ≡ false) (here : Type 0)
    (node : (n : ℕ) (c : Context) (b : ℕ) (xs : statement.Stmts Span) (o : Rewritten (statement.Stmts Span)) (N : Type 0) → (c.member ≡ k → xs ≡ held x → ⊥) → OrList S n c b xs o N → N)
    (put : here → (b : ℕ) (o : Rewritten (statement.Stmts Span)) (N : Type 0) → OrList S x.at.next x.at.context b (held x) o N → locals_in_row o.tree ≡ suc (locals_in_row (held x)))
    (holds : here → (b : ℕ) → ListStays S x.at.next x.at.context b (held x) → ⊥)
    (worlds : (c d : Context) → StandsFor (around_made rows (made_key rows k x.at.next name type) name type) rows c d → RegionWorld Span rows (around_made rows (made_key rows k x.at.next name type) name type) c d) where
  abbrev R : Region Span
  R = around_made rows (made_key rows k x.at.next name type) name type

  abbrev C : Choosing Span
  C = choosing (λ (m : Span) b. (itself m b).from) rows R super_at

  abbrev image : LocalKey → Option LocalKey
  image = to rows k x.at.next name type

  -- the new place has the same locals, with their images
  abbrev pub Kept : Context → Context → Type 0
  Kept = Beside rows image (kept_locals image) (λ q b. ⊥) (λ l. ⊥)

  -- ---- numbers of the next locals

  abbrev pub Counted : (n z : ℕ) → Context → (count : ℕ) → Type 0
  Counted n z c count = ((z ≡ n) × (c.member ≡ k → n + count ≤ x.at.next)) ⊎ ((z ≡ suc n) × (c.member ≡ k) × (x.at.next ≤ n))

  -- beside the way: in front of the list, or behind it
  pub record Far (n z : ℕ) (c : Context) (count : ℕ) (Leads : Type 0) : Type 0 where
    pub apart : c.member ≡ k → Leads → ⊥
    pub counted : Counted n z c count

  -- on the way
  pub record OnStmt (n z : ℕ) (c : Context) (s : statement.Stmt Span) : Type 0 where
    pub is_here : here
    pub of : c.member ≡ k
    pub number : z ≡ n
    pub base : ℕ
    pub way : StmtWay f s
    pub one : OneStmt way
    pub within_is : element_within begins (place n c base) way ≡ Some x

  pub record OnList (n z : ℕ) (c : Context) (xs : statement.Stmts Span) : Type 0 where
    pub is_here : here
    pub of : c.member ≡ k
    pub number : z ≡ n
    pub base : ℕ
    pub way : ListWay f xs
    pub one : OneList way
    pub nearest_is : nearest begins (place n c base) way ≡ x

  abbrev pub StmtIs : (n z : ℕ) → Context → statement.Stmt Span → Type 0
  StmtIs n z c s = Far n z c (locals_in s) (StmtWay f s) ⊎ OnStmt n z c s

  abbrev pub ListIs : (n z : ℕ) → Context → statement.Stmts Span → Type 0
  ListIs n z c xs = Far n z c (locals_in_row xs) (ListWay f xs) ⊎ OnList n z c xs

  pub record AtStmt (n z : ℕ) (c d : Context) (s : statement.Stmt Span) : Type 0 where
    pub beside : Kept c d
    pub below : Below n c.locals
    pub is : StmtIs n z c s

  pub record AtList (n z : ℕ) (c d : Context) (xs : statement.Stmts Span) : Type 0 where
    pub beside : Kept c d
    pub below : Below n c.locals
    pub is : ListIs n z c xs

  narrow : {P Q : Type 0} (n z m l : ℕ) (c : Context) → l ≤ m → (Q → P) → Far n z c m P → Far n z c l Q
  narrow n z m l c le leads far = record { apart = λ of q. far.apart of (leads q); counted = by far.counted }
    where
      by : Counted n z c m → Counted n z c l
      by (inl (same, less)) = inl (same, λ of. omega (arith, le, less of))
      by (inr h) = inr h

  further : {P Q : Type 0} (n z m l a : ℕ) (c e : Context) → e.member ≡ c.member → a ≡ m → (Q → P) → Far n z c (m + l) P → Far (n + m) (z + a) e l Q
  further n z m l a c e same many leads far = record { apart = λ of q. far.apart (sym same ∙ of) (leads q); counted = by far.counted }
    where
      by : Counted n z c (m + l) → Counted (n + m) (z + a) e l
      by (inl (number, less)) = inl (omega (arith, number, many), λ of. omega (arith, less (sym same ∙ of)))
      by (inr (number, of, le)) = inr (omega (arith, number, many), same ∙ of, omega (arith, le))

  -- ---- what is declared

  other : (n : ℕ) (c : Context) (b : ℕ) (xs : statement.Stmts Span) (o : Rewritten (statement.Stmts Span)) (N : Type 0) → (xs ≡ held x → ⊥) → OrList S n c b xs o N → N
  other n c b xs o N h made = node n c b xs o N (λ of e. h e) made

  as_many : {P : Type 0} (n z m b : ℕ) (c : Context) (s : statement.Stmt Span) (q : Rewritten (statement.Stmt Span)) → (StmtWay f s → P) → Far n z c m P → TransformsStmt itself C S n c b s q → locals_in q.tree ≡ locals_in s
  as_many n z m b c s q leads far made = same_locals C S c.member (away (c.member ≡ k) f) beside n c b s q refl (λ of d. far.apart of (leads d)) made
    where
      beside : (n : ℕ) (e : Context) (b : ℕ) (xs : statement.Stmts Span) (o : Rewritten (statement.Stmts Span)) (N : Type 0) → e.member ≡ c.member → (c.member ≡ k → ListWay f xs → ⊥) → OrList S n e b xs o N → N
      beside n e b xs o N same h made = node n e b xs o N (λ of is. h (sym same ∙ of) (subst (λ (ys : statement.Stmts Span). ListWay f ys) (sym is) (first x.stmt x.rest x.way))) made

  init_not : (n : ℕ) (c : Context) (b : ℕ) (m : Span) (g : Bool) (t : tree.TypeName Span) (w : tree.Word Span) (e : tree.Exp Span) (d : StmtWay f (statement.local m g t w e)) → element_within begins (place n c b) d ≡ Some x → ⊥
  init_not n c b m g t w e (in_init m2 g2 t2 w2 e2 d) is = none_there x is

  -- the key of a local that is declared there
  declares : (n z : ℕ) (c d : Context) (m : Span) (g : Bool) (t : tree.TypeName Span) (w : tree.Word Span) (e : tree.Exp Span) → AtStmt n z c d (statement.local m g t w e) → image (local_key c n) ≡ Some (local_key d z)
  unfolding locals_in
  declares n z c d m g t w e at = by at.is
    where
      counted : Counted n z c 1 → image (local_key c n) ≡ Some (local_key d z)
      counted (inl (same, less)) = room_not rows k x.at.next name type (local_key c n) (from_not k x.at.next (local_key c n) (λ of. omega (arith, less of))) ∙ (λ i. Some (record { member = sym at.beside.member i; number = sym same i }))
      counted (inr (same, of, le)) = room_from rows k x.at.next name type (local_key c n) (from_is k x.at.next (local_key c n) of le) ∙ (λ i. Some (record { member = sym at.beside.member i; number = sym same i }))

      by : StmtIs n z c (statement.local m g t w e) → image (local_key c n) ≡ Some (local_key d z)
      by (inl far) = counted far.counted
      by (inr on) = absurd (init_not n c on.base m g t w e on.way on.within_is)

  -- in scope behind it, and in its initializer
  module _ (n z : ℕ) (c d : Context) (stand : Kept c d) (g : Bool) (t u : tree.TypeName Span) (w v : tree.Word Span) (key : image (local_key c n) ≡ Some (local_key d z)) (named : v.text ≡ w.text)
      (means : (s : Ty) → WritesType rows (scope_of c) t s → WritesType rows (scope_of d) u (type_in R s)) where
    goes : (s : Ty) → WritesType rows (scope_of c) t s → WritesType rows (scope_of d) u s
    goes s h = subst (λ (r : Ty). WritesType rows (scope_of d) u r) (sym (same_type rows image (kept_locals image) (λ q b. ⊥) s)) (means s h)

    puts : (ls : List ScopeLocal) → kept_locals image (ls ++ scope_local (local_of c n g t w) ∷ []) ≡ kept_locals image ls ++ scope_local (local_of d z g u v) ∷ []
    puts ls = kept_more rows k x.at.next name type ls (scope_local (local_of c n g t w)) (local_key d z) key ∙ (λ i. kept_locals image ls ++ record { name = sym named i; key = local_key d z } ∷ [])

    own_kept : Kept (in_own c (local_of c n g t w)) (in_own d (local_of d z g u v))
    own_kept = more_own rows image (kept_locals image) (λ q b. ⊥) (λ l. ⊥) c d stand (local_of c n g t w) (local_of d z g u v) (local_goes rows image c d stand.member n z g t u w v named key goes) puts

    behind_kept : Kept (with_local c (local_of c n g t w)) (with_local d (local_of d z g u v))
    behind_kept = more_behind rows image (kept_locals image) (λ q b. ⊥) (λ l. ⊥) c d stand (local_of c n g t w) (local_of d z g u v) (local_goes rows image c d stand.member n z g t u w v named key goes) puts

  pub kept_stand : (c d : Context) → Kept c d → StandsFor R rows c d
  kept_stand c d stand = stands_for rows image (kept_locals image) (λ q b. ⊥) (λ l. ⊥) (once rows k x.at.next name type) (λ m h. absurd h) c d stand

  after_kept : (n z : ℕ) (c d : Context) (b : ℕ) (s : statement.Stmt Span) (q : Rewritten (statement.Stmt Span)) → AtStmt n z c d s → TransformsStmt itself C S n c b s q → q.losses ≡ [] → Kept (after n c s) (after z d q.tree)
  unfolding TransformsStmt
  after_kept n z c d b (statement.local m g t w e) q at (p, v, y, types, (h, declared, word), inner, is) none =
      let all = lost_none q (joined (λ (u : tree.TypeName Span × tree.Word Span) x. statement.local m g u.0 u.1 x) (joined (λ u z. (u, z)) p v) y) is none in
      let there = ap (λ (y : Rewritten (statement.Stmt Span)). y.tree) is ∙ ap (λ (u : Rewritten (tree.Word Span)). statement.local m g p.tree u.tree y.tree) word in
      let goes_on = written_kept itself rows R c d (worlds c d (kept_stand c d at.beside)) super_at ((itself m b).from) t p types (left_none p.losses v.losses (left_none (p.losses ++ v.losses) y.losses all)) in
      let named = ap (λ (x : Choice). text_of x w.text) declared ∙ renamed_text w.text w.text in
      subst (λ (u : statement.Stmt Span). Kept (with_local c (local_of c n g t w)) (after z d u)) (sym there)
      (behind_kept n z c d at.beside g t p.tree w (word_to h w) (declares n z c d m g t w e at) named goes_on.means)
  after_kept n z c d b (statement.eval m e) q at (p, inner, is) none = subst (λ (y : Rewritten (statement.Stmt Span)). Kept c (after z d y.tree)) (sym is) at.beside
  after_kept n z c d b (statement.branch m e s o) q at (p, y, r, inner, one_side, other_side, is) none = subst (λ (y : Rewritten (statement.Stmt Span)). Kept c (after z d y.tree)) (sym is) at.beside
  after_kept n z c d b (statement.loop m e s) q at (p, y, inner, body, is) none = subst (λ (y : Rewritten (statement.Stmt Span)). Kept c (after z d y.tree)) (sym is) at.beside
  after_kept n z c d b (statement.return m e) q at (p, inner, is) none = subst (λ (y : Rewritten (statement.Stmt Span)). Kept c (after z d y.tree)) (sym is) at.beside
  after_kept n z c d b (statement.block m body) q at (p, inner, is) none = subst (λ (y : Rewritten (statement.Stmt Span)). Kept c (after z d y.tree)) (sym is) at.beside
  after_kept n z c d b (statement.sync m e body) q at (p, y, inner, rest, is) none = subst (λ (y : Rewritten (statement.Stmt Span)). Kept c (after z d y.tree)) (sym is) at.beside
  after_kept n z c d b (statement.empty m) q at is none = subst (λ (y : Rewritten (statement.Stmt Span)). Kept c (after z d y.tree)) (sym is) at.beside

  -- ---- lists

  module _ (n z : ℕ) (c : Context) (b e : ℕ) (is_here : here) (of : c.member ≡ k) (number : z ≡ n) where
    -- the list isn't the one that is made anew
    within_first : (s : statement.Stmt Span) (ss : statement.Stmts Span) → ListStays S n c b (statement.more s ss) → (d : StmtWay f s) (o : Option (Element f)) → element_within begins (place n c e) d ≡ o → or_element o (record { at = place n c e; stmt = s; rest = ss; way = d }) ≡ x
        → element_within begins (place n c e) d ≡ Some x
    within_first s ss stays d None is there = absurd (holds is_here b (subst (λ (y : Element f). ListStays S y.at.next y.at.context b (held y)) there stays))
    within_first s ss stays d (Some y) is there = is ∙ ap (λ (z : Element f). Some z) there

    first_on : (s : statement.Stmt Span) (ss : statement.Stmts Span) → ListStays S n c b (statement.more s ss) → (way : ListWay f (statement.more s ss)) → OneList way → nearest begins (place n c e) way ≡ x → StmtIs n z c s
    unfolding locals_in_row
    first_on s ss stays (first s2 ss2 d) one is = inr (record {
      is_here = is_here;
      of = of;
      number = number;
      base = e;
      way = d;
      one = one_first d one;
      within_is = within_first s ss stays d (element_within begins (place n c e) d) refl is;
    })
    first_on s ss stays (later s2 ss2 d) one is =
        let among = subst (λ (y : Element f). Among (n + locals_in s) (locals_in_row ss) y) is (among_list begins (behind begins s (place n c e)) d) in
        inl (record { apart = λ of w. none_in_front d one w; counted = inl (number, λ of. among.0) })

    rest_on : (s : statement.Stmt Span) (ss : statement.Stmts Span) → ListStays S n c b (statement.more s ss) → (way : ListWay f (statement.more s ss)) → OneList way → nearest begins (place n c e) way ≡ x → (q : Rewritten (statement.Stmt Span)) → TransformsStmt itself C S n c b s q
        → ListIs (n + locals_in s) (z + locals_in q.tree) (after n c s) ss
    unfolding locals_in_row
    rest_on s ss stays (first s2 ss2 d) one is q made =
        let within_is = within_first s ss stays d (element_within begins (place n c e) d) refl is in
        let more = on_stmt C S x straight other (put is_here) n c b e d (one_first d one) within_is q made in
        let among = among_stmt begins (place n c e) d x within_is in
        inl (record { apart = λ of w. none_behind d one w; counted = inr (omega (arith, number, more), after_member n c s ∙ of, omega (arith, among.1)) })
    rest_on s ss stays (later s2 ss2 d) one is q made = inr (record {
      is_here = is_here;
      of = after_member n c s ∙ of;
      number = (let many = stmt_apart C S x straight other (put is_here) n c b s q (none_in_front d one) made in omega (arith, number, many));
      base = e;
      way = d;
      one = one_later d one;
      nearest_is = is;
    })

  first_stands : (n z : ℕ) (c d : Context) (b : ℕ) (s : statement.Stmt Span) (ss : statement.Stmts Span) → AtList n z c d (statement.more s ss) → ListStays S n c b (statement.more s ss) → AtStmt n z c d s
  unfolding locals_in_row
  first_stands n z c d b s ss at stays = record { beside = at.beside; below = at.below; is = by at.is }
    where
      by : ListIs n z c (statement.more s ss) → StmtIs n z c s
      by (inl far) = inl (narrow n z (locals_in s + locals_in_row ss) (locals_in s) c (omega arith) (λ w. first s ss w) far)
      by (inr on) = first_on n z c b on.base on.is_here on.of on.number s ss stays on.way on.one on.nearest_is

  rest_stands : (n z : ℕ) (c d : Context) (b : ℕ) (s : statement.Stmt Span) (ss : statement.Stmts Span) (q : Rewritten (statement.Stmt Span)) → AtList n z c d (statement.more s ss) → ListStays S n c b (statement.more s ss) → TransformsStmt itself C S n c b s q → q.losses ≡ []
      → AtList (n + locals_in s) (z + locals_in q.tree) (after n c s) (after z d q.tree) ss
  unfolding locals_in_row
  rest_stands n z c d b s ss q at stays made none = record {
    beside = after_kept n z c d b s q (first_stands n z c d b s ss at stays) made none;
    below = below_after n (n + locals_in s) c s (omega arith) at.below;
    is = by at.is;
  }
    where
      by : ListIs n z c (statement.more s ss) → ListIs (n + locals_in s) (z + locals_in q.tree) (after n c s) ss
      by (inl far) = inl (further n z (locals_in s) (locals_in_row ss) (locals_in q.tree) c (after n c s) (after_member n c s) (as_many n z (locals_in s + locals_in_row ss) b c s q (λ w. first s ss w) far made) (λ w. later s ss w) far)
      by (inr on) = rest_on n z c b on.base on.is_here on.of on.number s ss stays on.way on.one on.nearest_is q made

  -- ---- parts of statements

  block_on : (n z : ℕ) (c : Context) (e : ℕ) (m : Span) (b : statement.Stmts Span) → here → c.member ≡ k → z ≡ n → (d : StmtWay f (statement.block m b)) → OneStmt d → element_within begins (place n c e) d ≡ Some x → OnList n z c b
  block_on n z c e m b h of number (in_block m2 b2 d) one is = record {
    is_here = h;
    of = of;
    number = number;
    base = begins m e;
    way = d;
    one = one_block m b d one;
    nearest_is = some_there (nearest begins (inside begins m (place n c e)) d) x is;
  }

  lock_on : (n z : ℕ) (c : Context) (e : ℕ) (m : Span) (y : tree.Exp Span) (b : statement.Stmts Span) → here → c.member ≡ k → z ≡ n → (d : StmtWay f (statement.sync m y b)) → OneStmt d → element_within begins (place n c e) d ≡ Some x → OnList n z c b
  lock_on n z c e m y b h of number (in_lock m2 y2 b2 d) one is = absurd (none_there x is)
  lock_on n z c e m y b h of number (in_locked m2 y2 b2 d) one is = record {
    is_here = h;
    of = of;
    number = number;
    base = begins m e;
    way = d;
    one = one_locked m y b d one;
    nearest_is = some_there (nearest begins (inside begins m (place n c e)) d) x is;
  }

  loop_on : (n z : ℕ) (c : Context) (e : ℕ) (m : Span) (y : tree.Exp Span) (s : statement.Stmt Span) → here → c.member ≡ k → z ≡ n → (d : StmtWay f (statement.loop m y s)) → OneStmt d → element_within begins (place n c e) d ≡ Some x → OnStmt n z c s
  loop_on n z c e m y s h of number (in_turning m2 y2 s2 d) one is = absurd (none_there x is)
  loop_on n z c e m y s h of number (in_body m2 y2 s2 d) one is = record { is_here = h; of = of; number = number; base = begins m e; way = d; one = one_body m y s d one; within_is = is }

  then_on : (n z : ℕ) (c : Context) (e : ℕ) (m : Span) (y : tree.Exp Span) (s : statement.Stmt Span) (o : statement.Else Span) → here → c.member ≡ k → z ≡ n → (d : StmtWay f (statement.branch m y s o)) → OneStmt d → element_within begins (place n c e) d ≡ Some x → StmtIs n z c s
  then_on n z c e m y s o h of number (in_condition m2 y2 s2 o2 d) one is = absurd (none_there x is)
  then_on n z c e m y s o h of number (in_then m2 y2 s2 o2 d) one is = inr (record { is_here = h; of = of; number = number; base = begins m e; way = d; one = one_then m y s o d one; within_is = is })
  then_on n z c e m y s (statement.otherwise u) h of number (in_else m2 y2 s2 u2 d) one is =
      let among = among_stmt begins (in_other begins m s (place n c e)) d x is in
      inl (record { apart = λ of w. none_then m y s u d one w; counted = inl (number, λ of. among.0) })

  else_on : (n z : ℕ) (c : Context) (b e : ℕ) (m : Span) (y : tree.Exp Span) (s u : statement.Stmt Span) → here → c.member ≡ k → z ≡ n → (d : StmtWay f (statement.branch m y s (statement.otherwise u))) → OneStmt d → element_within begins (place n c e) d ≡ Some x
      → (q : Rewritten (statement.Stmt Span)) → TransformsStmt itself C S n c b s q → StmtIs (n + locals_in s) (z + locals_in q.tree) c u
  else_on n z c b e m y s u h of number (in_condition m2 y2 s2 o2 d) one is q made = absurd (none_there x is)
  else_on n z c b e m y s u h of number (in_then m2 y2 s2 o2 d) one is q made =
      let more = on_stmt C S x straight other (put h) n c b (begins m e) d (one_then m y s (statement.otherwise u) d one) is q made in
      let among = among_stmt begins (inside begins m (place n c e)) d x is in
      inl (record { apart = λ of w. none_else m y s u d one w; counted = inr (omega (arith, number, more), of, omega (arith, among.1)) })
  else_on n z c b e m y s u h of number (in_else m2 y2 s2 u2 d) one is q made = inr (record {
    is_here = h;
    of = of;
    number = (let many = stmt_apart C S x straight other (put h) n c b s q (none_then m y s u d one) made in omega (arith, number, many));
    base = begins m e;
    way = d;
    one = one_else m y s u d one;
    within_is = is;
  })

  block_stands : (n z : ℕ) (c d : Context) (m : Span) (b : statement.Stmts Span) → AtStmt n z c d (statement.block m b) → AtList n z c d b
  unfolding locals_in
  block_stands n z c d m b at = record { beside = at.beside; below = at.below; is = by at.is }
    where
      by : StmtIs n z c (statement.block m b) → ListIs n z c b
      by (inl far) = inl (narrow n z (locals_in_row b) (locals_in_row b) c (omega arith) (λ w. in_block m b w) far)
      by (inr on) = inr (block_on n z c on.base m b on.is_here on.of on.number on.way on.one on.within_is)

  lock_stands : (n z : ℕ) (c d : Context) (m : Span) (y : tree.Exp Span) (b : statement.Stmts Span) → AtStmt n z c d (statement.sync m y b) → AtList n z c d b
  unfolding locals_in
  lock_stands n z c d m y b at = record { beside = at.beside; below = at.below; is = by at.is }
    where
      by : StmtIs n z c (statement.sync m y b) → ListIs n z c b
      by (inl far) = inl (narrow n z (locals_in_row b) (locals_in_row b) c (omega arith) (λ w. in_locked m y b w) far)
      by (inr on) = inr (lock_on n z c on.base m y b on.is_here on.of on.number on.way on.one on.within_is)

  loop_stands : (n z : ℕ) (c d : Context) (m : Span) (y : tree.Exp Span) (s : statement.Stmt Span) → AtStmt n z c d (statement.loop m y s) → AtStmt n z c d s
  unfolding locals_in
  loop_stands n z c d m y s at = record { beside = at.beside; below = at.below; is = by at.is }
    where
      by : StmtIs n z c (statement.loop m y s) → StmtIs n z c s
      by (inl far) = inl (narrow n z (locals_in s) (locals_in s) c (omega arith) (λ w. in_body m y s w) far)
      by (inr on) = inr (loop_on n z c on.base m y s on.is_here on.of on.number on.way on.one on.within_is)

  then_stands : (n z : ℕ) (c d : Context) (m : Span) (y : tree.Exp Span) (s : statement.Stmt Span) (o : statement.Else Span) → AtStmt n z c d (statement.branch m y s o) → AtStmt n z c d s
  unfolding locals_in
  then_stands n z c d m y s o at = record { beside = at.beside; below = at.below; is = by at.is }
    where
      by : StmtIs n z c (statement.branch m y s o) → StmtIs n z c s
      by (inl far) = inl (narrow n z (locals_in s + locals_in_else o) (locals_in s) c (omega arith) (λ w. in_then m y s o w) far)
      by (inr on) = then_on n z c on.base m y s o on.is_here on.of on.number on.way on.one on.within_is

  else_stands : (n z : ℕ) (c d : Context) (b : ℕ) (m : Span) (y : tree.Exp Span) (s u : statement.Stmt Span) (q : Rewritten (statement.Stmt Span)) → AtStmt n z c d (statement.branch m y s (statement.otherwise u)) → TransformsStmt itself C S n c b s q
      → AtStmt (n + locals_in s) (z + locals_in q.tree) c d u
  unfolding locals_in locals_in_else
  else_stands n z c d b m y s u q at made = record { beside = at.beside; below = below_all n (n + locals_in s) c.locals (omega arith) at.below; is = by at.is }
    where
      by : StmtIs n z c (statement.branch m y s (statement.otherwise u)) → StmtIs (n + locals_in s) (z + locals_in q.tree) c u
      by (inl far) = inl (further n z (locals_in s) (locals_in u) (locals_in q.tree) c c refl (as_many n z (locals_in s + locals_in u) b c s q (λ w. in_then m y s (statement.otherwise u) w) far made) (λ w. in_else m y s u w) far)
      by (inr on) = else_on n z c b on.base m y s u on.is_here on.of on.number on.way on.one on.within_is q made

  own_stands : (n z : ℕ) (c d : Context) (m : Span) (g : Bool) (t u : tree.TypeName Span) (w v : tree.Word Span) (e : tree.Exp Span) → AtStmt n z c d (statement.local m g t w e) → ((s : Ty) → WritesType rows (scope_of c) t s → WritesType rows (scope_of d) u (type_in R s))
      → v.text ≡ name_in R (local_decl (local_key c n)) w.text → Kept (in_own c (local_of c n g t w)) (in_own d (local_of d z g u v))
  own_stands n z c d m g t u w v e at means named = own_kept n z c d at.beside g t u w v (declares n z c d m g t w e at) named means

  -- ---- members

  same_key : (j : MemberKey) → j ≡ member_in R j
  same_key (head q) = refl
  same_key (field q) = refl
  same_key (method q) = refl
  same_key (constructor q) = refl

  plain_kept : (j : MemberKey) (s : Bool) → Kept (no_locals j s) (no_locals (member_in R j) s)
  plain_kept j s = subst (λ (i : MemberKey). Kept (no_locals j s) (no_locals i s)) (same_key j) (record { member = refl; static = refl; names = refl; locals = scopes.none refl refl })

  abbrev param_key : MemberKey → ℕ → LocalKey
  param_key j n = record { member = j; number = n }

  abbrev ParamsKept : MemberKey → (n : ℕ) → (ps qs : List (syntax.Param Span)) → List Ty → Type 0
  ParamsKept j n ps qs ts = LocalsAre rows image (bare j) (λ l. ⊥) (parameters j n ps ts) (parameters j n qs ts) × (map scope_local (parameters j n qs ts) ≡ kept_locals image (map scope_local (parameters j n ps ts)))

  params_both : (j : MemberKey) (n b : ℕ) (ps : List (syntax.Param Span)) (ts : List Ty) (q : Rewritten (List (syntax.Param Span))) → (j ≡ k → n + length ps ≤ x.at.next) → RewritesParams itself C j n b ps q → ParamsKept j n ps q.tree ts
  params_both j n b [] ts q le is = subst (λ (y : Rewritten (List (syntax.Param Span))). ParamsKept j n [] y.tree ts) (sym is) (scopes.none refl refl, refl)
  params_both j n b (p ∷ ps) [] q le (t, v, rest, types, declared, made, is) = subst (λ (y : Rewritten (List (syntax.Param Span))). ParamsKept j n (p ∷ ps) y.tree []) (sym is) (scopes.none refl refl, refl)
  params_both j n b (p ∷ ps) (ty ∷ ts) q le (t, v, rest, types, (h, declared, word), made, is) =
      let inner = params_both j (suc n) b ps ts rest (λ e. omega (arith, le e)) made in
      let isnt = from_not k x.at.next (param_key j n) (λ e. omega (arith, le e)) in
      let named = ap (λ (y : Rewritten (tree.Word Span)). y.tree.text) word ∙ ap (λ (y : Choice). text_of y p.name.text) declared ∙ renamed_text p.name.text p.name.text in
      subst (λ (y : Rewritten (List (syntax.Param Span))). ParamsKept j n (p ∷ ps) y.tree (ty ∷ ts)) (sym is) (
        scopes.kept (record { named = named; key = room_not rows k x.at.next name type (param_key j n) isnt; type = λ u e. e }) inner.0,
        λ i. record { name = named i; key = kept_key rows k x.at.next name type (param_key j n) isnt i } ∷ inner.1 i,
      )

  params_kept : (j : MemberKey) (s : Bool) (b : ℕ) (ps : List (syntax.Param Span)) (q : Rewritten (List (syntax.Param Span))) → (j ≡ k → length ps ≤ x.at.next) → RewritesParams itself C j 0 b ps q → Kept (with_parameters j s ps) (with_parameters (member_in R j) s q.tree)
  params_kept j s b ps q le made =
      let both = params_both j 0 b ps (types_of j) q (λ e. omega (arith, le e)) made in
      subst (λ (i : MemberKey). Kept (with_parameters j s ps) (with_parameters i s q.tree)) (same_key j) (record { member = refl; static = refl; names = both.1; locals = both.0 })

  below_params : (j : MemberKey) (n m : ℕ) (ps : List (syntax.Param Span)) (ts : List Ty) → n + length ps ≤ m → Below m (parameters j n ps ts)
  below_params j n m [] ts le = tt
  below_params j n m (p ∷ ps) [] le = tt
  below_params j n m (p ∷ ps) (t ∷ ts) le = (omega (arith, le), below_params j (suc n) m ps ts (omega (arith, le)))

  -- what is known where a body begins
  abbrev pub Starts : MemberKey → syntax.Member Span → Type 0
  Starts j (syntax.method m mods t w ps body) = (j ≡ k → length ps ≤ x.at.next) × ListIs (length ps) (length ps) (with_parameters j (is_static_member begins mods) ps) body
  Starts j (syntax.constructor m mods w ps args body) = (j ≡ k → length ps ≤ x.at.next) × ListIs (length ps) (length ps) (with_parameters j false ps) body
  Starts j (syntax.field m mods t w init) = Unit {0}
  Starts j (syntax.inner m c) = Unit {0}

  module _ (ss : List DeclaredItem) (Good : MemberKey → (base : ℕ) → Part Span → Type 0) (bodies : (j : MemberKey) (b : ℕ) (y : syntax.Member Span) → Good j b (member_part y) → Starts j y) where
    -- each member that is written there is good
    abbrev pub AllGood : ((MemberKey → ℕ → Part Span → Type 0) → MemberKey → Type 0) → Type 0
    AllGood In = (j : MemberKey) (b : ℕ) (q : Part Span) → In (IsAt b q) j → Good j b q

    abbrev pub At : Standing Span
    At = record {
      Known = Kept;
      Lists = AtList;
      Single = AtStmt;
      Classes = λ b outer c. AllGood (λ P. InClass begins ss P b outer c);
      Members = λ b of xs. AllGood (λ P. InMembers begins ss P b of xs);
      Written = λ j b y. Good j b (member_part y);
    }

    pub are_standing : AreStanding itself rows R C S At
    are_standing = record {
      stand = λ c d at. kept_stand c d at;
      first = λ n z c d b s xs at stays. first_stands n z c d b s xs at stays;
      behind = λ n z c d b s xs q at stays made. rest_stands n z c d b s xs q at stays made.0 made.1;
      known = λ n z c d s at. at.beside;
      in_initializer = λ n z c d m g t u w v e at means named. own_stands n z c d m g t u w v e at means named;
      in_block = λ n z c d m xs at. block_stands n z c d m xs at;
      in_sync = λ n z c d m e xs at. lock_stands n z c d m e xs at;
      in_loop = λ n z c d m e s at. loop_stands n z c d m e s at;
      in_branch = λ n z c d m e s o at. then_stands n z c d m e s o at;
      in_else = λ n z c d b m e s y q at made. else_stands n z c d b m e s y q at made.0;
    }

    pub are_beginning : AreBeginning itself rows R C S At
    are_beginning = record {
      heads = λ j b y s good. plain_kept j s;
      method = λ j b m mods t w ps body q good made.
          (let start = bodies j b (syntax.method m mods t w ps body) good in
          record {
            beside = params_kept j (is_static_member begins mods) ((itself m b).from) ps q start.0 made;
            below = below_params j 0 (length ps) ps (types_of j) (omega arith);
            is = start.1;
          });
      constructor = λ j b m mods w ps args body q good made.
          (let start = bodies j b (syntax.constructor m mods w ps args body) good in
          record {
            beside = params_kept j false ((itself m b).from) ps q start.0 made;
            below = below_params j 0 (length ps) ps (types_of j) (omega arith);
            is = start.1;
          });
      super_args = λ j b m mods w ps args body q good made. params_kept j true ((itself m b).from) ps q (bodies j b (syntax.constructor m mods w ps args body) good).0 made;
    }

    pub are_walked : AreWalked itself rows R C S ss At
    unfolding InClass InMembers InInner
    are_walked = record {
      around = λ b o c at stays. plain_kept (head (top_key o)) false;
      members = λ b outer m mods w t ms at stays j e q h. at j e q (inr h);
      more = λ b of y ys at stays j e q h. at j e q (inr h);
      inner = λ b of m c ys at stays j e q h. at j e q (inl (inr h));
      declared = λ b of y ys j at stays declares. at j b (member_part y) (inl (inl (declares, (refl, refl))));
    }

    pub all_walked : (b : ℕ) (cs : List (syntax.Class Span)) → AllGood (λ P. InClasses begins ss P b cs) → AllWalked At b cs
    all_walked b [] good = tt
    all_walked b (c ∷ cs) good = (λ j e q h. good j e q (inl h), all_walked b cs (λ j e q h. good j e q (inr h)))
