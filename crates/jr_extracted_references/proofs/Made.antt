-- Places where the made local is in scope: in the statement in front of which it is declared, and behind that.
-- Old locals from its number on have numbers one higher, and it keeps its own.
use Rattle.std.proofs.Common.{◌≡◌, ◌≢◌, ◌⊎◌, ℕ, zero, suc, ◌+◌, ◌<◌, ◌≤◌, List, [], ◌∷◌, ◌++◌, Option, Some, Bool, true, false, refl, sym, ap, subst, ◌∙◌, inl, inr, arith, if◌then◌else◌}
use Rattle.std.specs.Prelude.{slice_get}
use Rattle.jr_text.specs.declared.spans.Span.{Span}
use Rattle.jr_ast.specs.Tree as tree
use Rattle.jr_ast.specs.StatementTree as statement
use Rattle.jr_grammar.specs.Layout.{itself}
use Rattle.jr_table.specs.Keys.{ClassKey, Ty}
use Rattle.jr_table.specs.Decls.{MemberKey, LocalKey, local_decl}
use Rattle.jr_table.specs.Rows.{Row}
use Rattle.jr_table.specs.Found.{one}
use Rattle.jr_table.specs.Entries.{class_of_member}
use Rattle.jr_table.specs.Scope.{ScopeLocal, FindsLocal, HasNoLocal}
use Rattle.jr_table.specs.Lookup.{FindsVariable}
use Rattle.jr_table.specs.Context.{Context, Local, WritesType, IsLocalType, IsTypeOf, scope_of, scope_local, local_of, local_key, in_own, with_local, after, locals_in}
use Rattle.jr_rewrite.specs.Respellings.{Choice, text_of}
use Rattle.jr_rewrite.specs.Rewritten.{Rewritten, joined, word_to}
use Rattle.jr_rewrite.specs.Spots.{Spotted, OrList}
use Rattle.jr_rewrite.specs.Rewrites.{Choosing, TransformsStmt}
use Rattle.jr_images.specs.Regions.{Region}
use Rattle.jr_images.specs.Spelling.{choosing}
use Rattle.jr_images.proofs.Chosen.{renamed_text, left_none, lost_none}
use Rattle.jr_local.specs.Scopes.{put_kept, kept_locals, with_made_local, made_room, is_from, with_made, IsOfMadeClass}
use Rattle.jr_kept_references.specs.InRegions.{type_in, StandsFor}
use Rattle.jr_kept_references.specs.RegionPlaces.{Standing, AreStanding}
use Rattle.jr_kept_references.proofs.RegionWorlds.{RegionWorld}
use Rattle.jr_kept_references.proofs.RegionTypes.{written_kept}
use Rattle.jr_local_ways.specs.Elements.{entered}
use Rattle.jr_untouched_parts.proofs.LocalSights.{AllKept, none_kept}
use Rattle.jr_extracted_references.proofs.Worlds.{same_type}
use Rattle.jr_extracted_references.proofs.Locals.{bare, same_scope, Beside, local_goes, stands_for, more_own, more_behind}
use Rattle.jr_extracted_references.proofs.Rooms.{made_key, to, new, from_is, room_from, once, fresh, made_more}
use Rattle.jr_extracted_references.proofs.Counts.{anywhere, same_locals}

-- ---- one more at the end of a list

pub there_more : {X : Type 0} (xs : List X) (y : X) (i : ℕ) (x : X) → slice_get xs i ≡ Some x → slice_get (xs ++ y ∷ []) i ≡ Some x
there_more [] y zero x e = absurd cc
there_more [] y (suc i) x e = absurd cc
there_more (z ∷ xs) y zero x e = e
there_more (z ∷ xs) y (suc i) x e = there_more xs y i x e

one_of : {X : Type 0} (y x : X) → Some y ≡ Some x → y ≡ x
one_of y x e = cc

pub there_less : {X : Type 0} (xs : List X) (y : X) (i : ℕ) (x : X) → slice_get (xs ++ y ∷ []) i ≡ Some x → (slice_get xs i ≡ Some x) ⊎ (y ≡ x)
there_less [] y zero x e = inr (one_of y x e)
there_less [] y (suc i) x e = absurd cc
there_less (z ∷ xs) y zero x e = inl e
there_less (z ∷ xs) y (suc i) x e = there_less xs y i x e

pub record IsLast {X : Type 0} (xs : List X) (y : X) : Type 0 where
  pub place : ℕ
  pub stands : slice_get xs place ≡ Some y
  pub last : (j : ℕ) (x : X) → place < j → slice_get xs j ≡ Some x → ⊥

last_alone : {X : Type 0} (y : X) → IsLast (y ∷ []) y
last_alone {X} y = record { place = 0; stands = refl; last = λ j x less at. past j x less at }
  where
    past : (j : ℕ) (x : X) → 0 < j → slice_get (y ∷ []) j ≡ Some x → ⊥
    past zero x less at = absurd (omega (arith, less))
    past (suc j) x less at = absurd cc

last_further : {X : Type 0} (z : X) (xs : List X) (y : X) → IsLast xs y → IsLast (z ∷ xs) y
last_further {X} z xs y h = record { place = suc h.place; stands = h.stands; last = λ j x less at. past j x less at }
  where
    past : (j : ℕ) (x : X) → suc h.place < j → slice_get (z ∷ xs) j ≡ Some x → ⊥
    past zero x less at = absurd (omega (arith, less))
    past (suc j) x less at = h.last j x (omega (arith, less)) at

pub there_last : {X : Type 0} (xs : List X) (y : X) → IsLast (xs ++ y ∷ []) y
there_last [] y = last_alone y
there_last (z ∷ xs) y = last_further z (xs ++ y ∷ []) y (there_last xs y)

module _ (rows : List Row) (super_at : Context → ℕ) (k : MemberKey) (number : ℕ) (name : List ℕ) (type : Ty) where
  abbrev R : Region Span
  R = with_made rows (made_key rows k number name type) name type

  abbrev C : Choosing Span
  C = choosing (λ (m : Span) b. (itself m b).from) rows R super_at

  abbrev made : LocalKey
  made = made_key rows k number name type

  abbrev image : LocalKey → Option LocalKey
  image = to rows k number name type

  abbrev scope_to : List ScopeLocal → List ScopeLocal
  scope_to = with_made_local image (new rows k number name type)

  abbrev HasMade : LocalKey → ClassKey → Type 0
  HasMade = IsOfMadeClass rows made name type

  abbrev IsMade : Local → Type 0
  IsMade l = l.key ≡ made

  -- the made local is in scope
  pub record IsPut (ls : List Local) : Type 0 where
    pub place : ℕ
    pub local : Local
    pub stands : slice_get ls place ≡ Some local
    pub is : local.key ≡ made
    pub last : (i : ℕ) (l : Local) → place < i → slice_get ls i ≡ Some l → l.key ≢ made
    pub means : IsLocalType rows (bare k) local.type type

  pub put_more : (ls : List Local) (l : Local) → l.key ≢ made → IsPut ls → IsPut (ls ++ l ∷ [])
  put_more ls l apart h = record {
    place = h.place;
    local = h.local;
    stands = there_more ls l h.place h.local h.stands;
    is = h.is;
    last = λ i o less at. by i o less (there_less ls l i o at);
    means = h.means;
  }
    where
      by : (i : ℕ) (o : Local) → h.place < i → (slice_get ls i ≡ Some o) ⊎ (l ≡ o) → o.key ≢ made
      by i o less (inl at) = h.last i o less at
      by i o less (inr same) = λ e. apart (ap (λ (q : Local). q.key) same ∙ e)

  pub record With (c d : Context) : Type 0 where
    pub beside : Beside rows image scope_to HasMade IsMade c d
    pub put : IsPut d.locals
    pub of : c.member ≡ k

  pub record AtMade (n z : ℕ) (c d : Context) : Type 0 where
    pub there : With c d
    pub number_is : z ≡ suc n
    pub late : number ≤ n

  pub with_stand : (c d : Context) → With c d → StandsFor R rows c d
  with_stand c d w = stands_for rows image scope_to HasMade IsMade (once rows k number name type) (λ m is q e. fresh rows k number name type q (e ∙ ap (λ (l : LocalKey). Some l) is)) c d w.beside

  module _ (n z : ℕ) (c d : Context) (at : AtMade n z c d) (g : Bool) (t u : tree.TypeName Span) (w v : tree.Word Span) (named : v.text ≡ w.text) (means : (s : Ty) → WritesType rows (scope_of c) t s → WritesType rows (scope_of d) u (type_in R s)) where
    stand : Beside rows image scope_to HasMade IsMade c d
    stand = at.there.beside

    late_key : is_from k number (local_key c n) ≡ true
    late_key = from_is k number (local_key c n) at.there.of at.late

    key : image (local_key c n) ≡ Some (local_key d z)
    key = room_from rows k number name type (local_key c n) late_key ∙ (λ i. Some (record { member = sym stand.member i; number = sym at.number_is i }))

    goes : (s : Ty) → WritesType rows (scope_of c) t s → WritesType rows (scope_of d) u s
    goes s h = subst (λ (r : Ty). WritesType rows (scope_of d) u r) (sym (same_type rows image scope_to HasMade s)) (means s h)

    puts : (ls : List ScopeLocal) → scope_to (ls ++ scope_local (local_of c n g t w) ∷ []) ≡ scope_to ls ++ scope_local (local_of d z g u v) ∷ []
    puts ls = made_more rows k number name type ls (scope_local (local_of c n g t w)) (local_key d z) late_key key ∙ (λ i. scope_to ls ++ record { name = sym named i; key = local_key d z } ∷ [])

    apart : (local_of d z g u v).key ≢ made
    apart e = let number_of : z ≡ number = ap (λ (l : LocalKey). l.number) e in absurd (omega (arith, number_of, at.number_is, at.late))

    pub own_with : With (in_own c (local_of c n g t w)) (in_own d (local_of d z g u v))
    own_with = record {
      beside = more_own rows image scope_to HasMade IsMade c d stand (local_of c n g t w) (local_of d z g u v) (local_goes rows image c d stand.member n z g t u w v named key goes) puts;
      put = put_more d.locals (local_of d z g u v) (λ e. apart e) at.there.put;
      of = at.there.of;
    }

    pub behind_with : With (with_local c (local_of c n g t w)) (with_local d (local_of d z g u v))
    behind_with = record {
      beside = more_behind rows image scope_to HasMade IsMade c d stand (local_of c n g t w) (local_of d z g u v) (local_goes rows image c d stand.member n z g t u w v named key goes) puts;
      put = put_more d.locals (local_of d z g u v) (λ e. apart e) at.there.put;
      of = at.there.of;
    }

  module _ (worlds : (c d : Context) → StandsFor R rows c d → RegionWorld Span rows R c d) (S : Spotted Span) (node : (n : ℕ) (c : Context) (b : ℕ) (xs : statement.Stmts Span) (o : Rewritten (statement.Stmts Span)) (N : Type 0) → OrList S n c b xs o N → N) where
    as_many : (n : ℕ) (c : Context) (b : ℕ) (s : statement.Stmt Span) (q : Rewritten (statement.Stmt Span)) → TransformsStmt itself C S n c b s q → locals_in q.tree ≡ locals_in s
    as_many n c b s q made = same_locals C S c.member anywhere (λ n e b xs o N of h. node n e b xs o N) n c b s q refl tt made

    -- what a declaration has become
    declared_with : (n z : ℕ) (c d : Context) (b : ℕ) (m : Span) (g : Bool) (t : tree.TypeName Span) (w : tree.Word Span) (e : tree.Exp Span) (q : Rewritten (statement.Stmt Span)) → AtMade n z c d → TransformsStmt itself C S n c b (statement.local m g t w e) q → q.losses ≡ []
        → (u : tree.TypeName Span) × (v : tree.Word Span) × (y : tree.Exp Span) × (q.tree ≡ statement.local m g u v y) × (v.text ≡ w.text) × ((s : Ty) → WritesType rows (scope_of c) t s → WritesType rows (scope_of d) u (type_in R s))
    unfolding TransformsStmt
    declared_with n z c d b m g t w e q at (p, v, y, types, (h, declared, word), inner, is) lossless =
        let all = lost_none q (joined (λ (u : tree.TypeName Span × tree.Word Span) x. statement.local m g u.0 u.1 x) (joined (λ u z. (u, z)) p v) y) is lossless in
        let goes_on = written_kept itself rows R c d (worlds c d (with_stand c d at.there)) super_at ((itself m b).from) t p types (left_none p.losses v.losses (left_none (p.losses ++ v.losses) y.losses all)) in (
          p.tree,
          word_to h w,
          y.tree,
          ap (λ (y : Rewritten (statement.Stmt Span)). y.tree) is ∙ ap (λ (u : Rewritten (tree.Word Span)). statement.local m g p.tree u.tree y.tree) word,
          ap (λ (x : Choice). text_of x w.text) declared ∙ renamed_text w.text w.text,
          goes_on.means,
        )

    after_with : (n z : ℕ) (c d : Context) (b : ℕ) (s : statement.Stmt Span) (q : Rewritten (statement.Stmt Span)) → AtMade n z c d → TransformsStmt itself C S n c b s q → q.losses ≡ [] → With (after n c s) (after z d q.tree)
    unfolding TransformsStmt
    after_with n z c d b (statement.local m g t w e) q at made lossless =
        let h = declared_with n z c d b m g t w e q at made lossless in
        subst (λ (u : statement.Stmt Span). With (with_local c (local_of c n g t w)) (after z d u)) (sym h.3) (behind_with n z c d at g t h.0 w h.1 h.4 h.5)
    after_with n z c d b (statement.eval m e) q at (p, inner, is) lossless = subst (λ (y : Rewritten (statement.Stmt Span)). With c (after z d y.tree)) (sym is) at.there
    after_with n z c d b (statement.branch m e s o) q at (p, y, r, inner, one_side, other_side, is) lossless = subst (λ (y : Rewritten (statement.Stmt Span)). With c (after z d y.tree)) (sym is) at.there
    after_with n z c d b (statement.loop m e s) q at (p, y, inner, body, is) lossless = subst (λ (y : Rewritten (statement.Stmt Span)). With c (after z d y.tree)) (sym is) at.there
    after_with n z c d b (statement.return m e) q at (p, inner, is) lossless = subst (λ (y : Rewritten (statement.Stmt Span)). With c (after z d y.tree)) (sym is) at.there
    after_with n z c d b (statement.block m body) q at (p, inner, is) lossless = subst (λ (y : Rewritten (statement.Stmt Span)). With c (after z d y.tree)) (sym is) at.there
    after_with n z c d b (statement.sync m e body) q at (p, y, inner, rest, is) lossless = subst (λ (y : Rewritten (statement.Stmt Span)). With c (after z d y.tree)) (sym is) at.there
    after_with n z c d b (statement.empty m) q at is lossless = subst (λ (y : Rewritten (statement.Stmt Span)). With c (after z d y.tree)) (sym is) at.there

    -- in the initializer of what it declares, or where it stands
    pub entered_with : (n z : ℕ) (c d : Context) (b : ℕ) (s : statement.Stmt Span) (q : Rewritten (statement.Stmt Span)) → AtMade n z c d → TransformsStmt itself C S n c b s q → q.losses ≡ [] → With (entered n s c) (entered z q.tree d)
    unfolding TransformsStmt
    entered_with n z c d b (statement.local m g t w e) q at made lossless =
        let h = declared_with n z c d b m g t w e q at made lossless in
        subst (λ (u : statement.Stmt Span). With (in_own c (local_of c n g t w)) (entered z u d)) (sym h.3) (own_with n z c d at g t h.0 w h.1 h.4 h.5)
    entered_with n z c d b (statement.eval m e) q at (p, inner, is) lossless = subst (λ (y : Rewritten (statement.Stmt Span)). With c (entered z y.tree d)) (sym is) at.there
    entered_with n z c d b (statement.branch m e s o) q at (p, y, r, inner, one_side, other_side, is) lossless = subst (λ (y : Rewritten (statement.Stmt Span)). With c (entered z y.tree d)) (sym is) at.there
    entered_with n z c d b (statement.loop m e s) q at (p, y, inner, body, is) lossless = subst (λ (y : Rewritten (statement.Stmt Span)). With c (entered z y.tree d)) (sym is) at.there
    entered_with n z c d b (statement.return m e) q at (p, inner, is) lossless = subst (λ (y : Rewritten (statement.Stmt Span)). With c (entered z y.tree d)) (sym is) at.there
    entered_with n z c d b (statement.block m body) q at (p, inner, is) lossless = subst (λ (y : Rewritten (statement.Stmt Span)). With c (entered z y.tree d)) (sym is) at.there
    entered_with n z c d b (statement.sync m e body) q at (p, y, inner, rest, is) lossless = subst (λ (y : Rewritten (statement.Stmt Span)). With c (entered z y.tree d)) (sym is) at.there
    entered_with n z c d b (statement.empty m) q at is lossless = subst (λ (y : Rewritten (statement.Stmt Span)). With c (entered z y.tree d)) (sym is) at.there

    pub rest_with : (n z : ℕ) (c d : Context) (b : ℕ) (s : statement.Stmt Span) (q : Rewritten (statement.Stmt Span)) → AtMade n z c d → TransformsStmt itself C S n c b s q → q.losses ≡ [] → AtMade (n + locals_in s) (z + locals_in q.tree) (after n c s) (after z d q.tree)
    rest_with n z c d b s q at made lossless = record {
      there = after_with n z c d b s q at made lossless;
      number_is = (let many = as_many n c b s q made in let is = at.number_is in omega (arith, many, is));
      late = (let le = at.late in omega (arith, le));
    }

    abbrev pub At : Standing Span
    At = record {
      Known = With;
      Lists = λ n z c d xs. AtMade n z c d;
      Single = λ n z c d s. AtMade n z c d;
      Classes = λ b outer c. ⊥;
      Members = λ b of xs. ⊥;
      Written = λ j b y. ⊥;
    }

    pub are_standing : AreStanding itself rows R C S At
    are_standing = record {
      stand = λ c d at. with_stand c d at;
      first = λ n z c d b s xs at stays. at;
      behind = λ n z c d b s xs q at stays made. rest_with n z c d b s q at made.0 made.1;
      known = λ n z c d s at. at.there;
      in_initializer = λ n z c d m g t u w v e at means named. own_with n z c d at g t u w v named means;
      in_block = λ n z c d m xs at. at;
      in_sync = λ n z c d m e xs at. at;
      in_loop = λ n z c d m e s at. at;
      in_branch = λ n z c d m e s o at. at;
      in_else = λ n z c d b m e s y q at made. record {
        there = at.there;
        number_is = (let many = as_many n c b s q made.0 in let is = at.number_is in omega (arith, many, is));
        late = (let le = at.late in omega (arith, le));
      };
    }

  -- ---- what the name finds

  abbrev all_kept : (ls : List ScopeLocal) → AllKept image ls
  all_kept ls = λ i l at. (made_room k number l.key, refl)

  one_scope : (x y : ScopeLocal) → Some x ≡ Some y → x ≡ y
  one_scope x y e = cc

  -- behind the made one none has the name
  none_past : (ls : List ScopeLocal) → HasNoLocal ls name → (i : ℕ) (o : ScopeLocal) → 0 < i → slice_get (new rows k number name type ∷ kept_locals image ls) i ≡ Some o → o.name ≢ name
  none_past ls lacks zero o less at = absurd (omega (arith, less))
  none_past ls lacks (suc i) o less at = none_kept image ls (all_kept ls) name lacks i o at

  finds_first : (ls : List ScopeLocal) → HasNoLocal ls name → FindsLocal (new rows k number name type ∷ kept_locals image ls) name made
  finds_first ls lacks = record { place = 0; local = new rows k number name type; stands = refl; named = refl; is = refl; last = λ i o less at. none_past ls lacks i o less at }

  finds_further : (l : ScopeLocal) (ls : List ScopeLocal) → FindsLocal ls name made → FindsLocal (l ∷ ls) name made
  finds_further l ls h = record { place = suc h.place; local = h.local; stands = h.stands; named = h.named; is = h.is; last = λ i o less at. past i o less at }
    where
      past : (i : ℕ) (o : ScopeLocal) → suc h.place < i → slice_get (l ∷ ls) i ≡ Some o → o.name ≢ name
      past zero o less at = absurd (omega (arith, less))
      past (suc i) o less at = h.last i o (omega (arith, less)) at

  finds_made : (ls : List ScopeLocal) → HasNoLocal ls name → FindsLocal (scope_to ls) name made
  finds_made [] lacks = finds_first [] lacks
  finds_made (l ∷ ls) lacks = by (is_from k number l.key) (finds_made ls (λ i o at. lacks (suc i) o at))
    where
      by : (b : Bool) → FindsLocal (scope_to ls) name made → FindsLocal (if b then new rows k number name type ∷ kept_locals image (l ∷ ls) else put_kept l.name (image l.key) (scope_to ls)) name made
      by true h = finds_first (l ∷ ls) lacks
      by false h = finds_further (record { name = l.name; key = made_room k number l.key }) (scope_to ls) h

  pub name_finds : (c d : Context) → With c d → HasNoLocal (scope_of c).locals name → FindsVariable rows (scope_of d) name (one (local_decl made))
  name_finds c d w lacks = inl (made, subst (λ (ls : List ScopeLocal). FindsLocal ls name made) (sym w.beside.names) (finds_made (scope_of c).locals lacks), refl)

  pub made_typed : (c d : Context) → With c d → IsTypeOf rows d (local_decl made) type
  made_typed c d w = (
    w.put.local,
    record { number = w.put.place; stands = w.put.stands; is = w.put.is; last = w.put.last },
    same_scope rows (bare k) (scope_of d) (ap class_of_member (w.beside.member ∙ w.of)) w.put.local.type type w.put.means,
  )
