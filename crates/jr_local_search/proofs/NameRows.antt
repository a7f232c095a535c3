-- The names in a list: what a search by a span finds where a name has it, how names are gathered,
-- and which of them is the one read.
use Rattle.std.proofs.Common.{◌≡◌, ◌≢◌, ℕ, zero, suc, ◌+◌, ◌<◌, ◌≤◌, ◌^◌, ◌==◌, ◌&&◌, not, ◌⊎◌, inl, inr, Bool, true, false, List, [], ◌∷◌, ◌++◌, length, get_or, drop, take, map, Option, Some, None, option_map, if◌then◌else◌, slice_get, refl, ap, sym, subst, ◌∙◌, arith}
use Rattle.std.proofs.lemmas.Bool.{eqb-true, eq-eqb}
use Rattle.std.proofs.lemmas.Option.{slice_get_within, slice_get-get_or}
use Rattle.jr_text.specs.declared.spans.Span.{Span}
use Rattle.jr_ast.specs.Tree as tree
use Rattle.jr_ast.specs.StatementTree as statement
use Rattle.jr_ast.specs.Marks.{exp_mark}
use Rattle.jr_grammar.specs.Layout.{itself}
use Rattle.jr_pieces.specs.Ways.{ListWay}
use Rattle.jr_pieces.specs.Nesting.{ListNested, SpansTellWays}
use Rattle.jr_pieces.specs.Finding.{find_list, list_path}
use Rattle.jr_pieces.specs.Uses.{Use, list_use}
use Rattle.jr_pieces.specs.Bars.{list_barred}
use Rattle.jr_piece_search.specs.Sought.{begins}
use Rattle.jr_piece_search.specs.SoughtStatements.{Found, IsFound, IsPlace}
use Rattle.jr_piece_search.proofs.Absent.{none_has_the_span}
use Rattle.jr_local_search.specs.Namings.{Naming, first_byte, IsNaming, Among, RisesBy, AreNamings, is_read, is_target, IsOnlyRead, first_read, first_target}
use Rattle.jr_local_search.specs.NamingView.{is_name, naming_there, named_in, IsNamedAt, listed, AddsNaming, is_read_elsewhere, all_read_at}
use Rattle.jr_local_search.specs.declared.names.Naming as raw
use Rattle.jr_local_search.specs.NamingView.{naming_of}
use Rattle.jr_local_search.proofs.Descents.{left_read, if_true, if_false}
use Rattle.jr_local_search.proofs.Paths.{paths_tell, list_ends}

-- ---- one span

-- a name, by its mark and word
pub record Named (e : tree.Exp Span) : Type 0 where
  pub mark : Span
  pub word : tree.Word Span
  pub is : e ≡ tree.name mark word

false_true : {X : Type 0} → false ≡ true → X
false_true e = absurd (apart e)
  where
    apart : false ≡ true → ⊥
    apart j = cc

name_of : (e : tree.Exp Span) → is_name e ≡ true → Named e
name_of (tree.name m w) h = record { mark = m; word = w; is = refl }
name_of (tree.number m n) h = false_true h
name_of (tree.truth m b) h = false_true h
name_of (tree.null m) h = false_true h
name_of (tree.string m t) h = false_true h
name_of (tree.field m x w) h = false_true h
name_of (tree.super_field m w) h = false_true h
name_of (tree.this m) h = false_true h
name_of (tree.class_literal m t) h = false_true h
name_of (tree.call m t w es) h = false_true h
name_of (tree.super_call m w es) h = false_true h
name_of (tree.create m t es) h = false_true h
name_of (tree.paren m x) h = false_true h
name_of (tree.cast m t x) h = false_true h
name_of (tree.unary m o x) h = false_true h
name_of (tree.bump m o x) h = false_true h
name_of (tree.binary m o l r) h = false_true h
name_of (tree.assign m l r) h = false_true h
name_of (tree.compound m o l r) h = false_true h

module _ (s : Span) (b : statement.Stmts Span) where
  abbrev Shown : tree.Exp Span → Use → Option ℕ → Type 0
  Shown e u o = (way : ListWay e b) → u ≡ list_use way → ((base : ℕ) → o ≡ list_barred begins base None way) → exp_mark e ≡ s → IsNaming b (record { span = s; usage = u; bar = o })

  of_name : (m : Span) (w : tree.Word Span) (u : Use) (o : Option ℕ) → m ≡ s → (way : ListWay (tree.name m w) b) → u ≡ list_use way → ((base : ℕ) → o ≡ list_barred begins base None way) → IsNaming b (record { span = s; usage = u; bar = o })
  of_name m w u o is = subst (λ (t : Span). (way : ListWay (tree.name t w) b) → u ≡ list_use way → ((base : ℕ) → o ≡ list_barred begins base None way) → IsNaming b (record { span = s; usage = u; bar = o })) (sym is)
      (λ way used barred. record { text = w.text; word = w.mark; way = way; used = used; barred = barred })

  shown : (e : tree.Exp Span) (u : Use) (o : Option ℕ) → Named e → Shown e u o
  shown e u o n = subst (λ (x : tree.Exp Span). Shown x u o) (sym n.is) (λ way used barred mark. of_name n.mark n.word u o mark way used barred)

  -- a name of the span is what is found
  name_is_found : SpansTellWays Span → (x : Found) (new : List ℕ) → exp_mark x.value ≡ s → IsPlace b 0 [] new x → (whole : Span) (lo : ℕ) → ListNested itself whole lo b
      → (mark : Span) (word : tree.Word Span) → ListWay (tree.name mark word) b → mark ≡ s → x.value ≡ tree.name mark word
  name_is_found tell x new is place whole lo nested mark word d same =
      paths_tell b 0 x.value (tree.name mark word) place.way d
      (some (list_path 0 place.way) (list_path 0 d) (sym (told x.value place.way is) ∙ told (tree.name mark word) d same))
    where
      told : (f : tree.Exp Span) (way : ListWay f b) → exp_mark f ≡ s → find_list itself s whole.from 0 b ≡ Some (list_path 0 way)
      told f way e = tell itself whole lo 0 b nested f way s (list_ends f b way whole.from ∙ e)

      some : (x y : List ℕ) → Some x ≡ Some y → x ≡ y
      some x y j = cc

  pub is_named_at : SpansTellWays Span → (o : Option Found) (new : List ℕ) → IsFound s b 0 [] new o → IsNamedAt s b (named_in s o)
  is_named_at tell None new none = λ whole lo nested mark word d same. none_has_the_span tell s whole lo 0 b nested none (tree.name mark word) d same
  is_named_at tell (Some x) new (is, place) = by (is_name x.value) refl
    where
      by : (q : Bool) → is_name x.value ≡ q → IsNamedAt s b (if q then Some (naming_there s x) else None)
      by true e = (shown x.value x.usage x.bars.outer (name_of x.value e) place.way place.used place.outer is, refl)
      by false e = λ whole lo nested mark word d same. false_true (sym e ∙ ap is_name (name_is_found tell x new is place whole lo nested mark word d same))

-- ---- rows

none_there : {X : Type 0} (i : ℕ) (x : X) → slice_get [] i ≡ Some x → ⊥
none_there i x e = cc

-- an element of a row with something behind it
behind_or : {X : Type 0} (xs ys : List X) (i : ℕ) (x : X) → slice_get (xs ++ ys) i ≡ Some x → (slice_get xs i ≡ Some x) ⊎ ((j : ℕ) × (i ≡ length xs + j) × (slice_get ys j ≡ Some x))
behind_or [] ys i x e = inr (i, omega arith, e)
behind_or (y ∷ xs) ys zero x e = inl e
behind_or (y ∷ xs) ys (suc i) x e = one_further (behind_or xs ys i x e)
  where
    one_further : (slice_get xs i ≡ Some x) ⊎ ((j : ℕ) × (i ≡ length xs + j) × (slice_get ys j ≡ Some x)) → (slice_get (y ∷ xs) (suc i) ≡ Some x) ⊎ ((j : ℕ) × (suc i ≡ suc (length xs) + j) × (slice_get ys j ≡ Some x))
    one_further (inl h) = inl h
    one_further (inr (j, at, h)) = inr (j, (let k = at in omega (arith, k)), h)

pub among_front : {X : Type 0} (xs ys : List X) (x : X) → Among xs x → Among (xs ++ ys) x
among_front {X = X} xs ys x (i, e) = (i, front xs i e)
  where
    front : (zs : List X) (k : ℕ) → slice_get zs k ≡ Some x → slice_get (zs ++ ys) k ≡ Some x
    front [] k h = absurd (none_there k x h)
    front (z ∷ zs) zero h = h
    front (z ∷ zs) (suc k) h = front zs k h

pub plain : {X : Type 0} (xs : List X) → xs ++ [] ≡ xs
plain [] = refl
plain (x ∷ xs) = ap (λ ys. x ∷ ys) (plain xs)

among_last : {X : Type 0} (xs : List X) (x : X) → Among (xs ++ x ∷ []) x
among_last [] x = (0, refl)
among_last (y ∷ xs) x = let r = among_last xs x in (suc r.0, r.1)

same_naming : (a c : Naming) → Some a ≡ Some c → a ≡ c
same_naming a c e = cc

some_none : {X : Type 0} (x : Naming) → Some x ≡ None → X
some_none x e = absurd (apart e)
  where
    apart : Some x ≡ None → ⊥
    apart j = cc

-- ---- gathering

module _ (places : List ℕ) (size : ℕ) (b : statement.Stmts Span) where
  -- from the first places
  pub record Gathered (n : ℕ) (xs : List Naming) : Type 0 where
    pub each : (x : Naming) → Among xs x → IsNaming b x × ((j : ℕ) × (j < n) × (slice_get places j ≡ Some x.span.from)) × (x.span.to ≡ x.span.from + size)
    pub all : (whole : Span) (lo : ℕ) → ListNested itself whole lo b → (mark : Span) (word : tree.Word Span) → ListWay (tree.name mark word) b
        → (j : ℕ) → j < n → slice_get places j ≡ Some mark.from → mark.to ≡ mark.from + size → mark.to < 2 ^ 32 → (x : Naming) × Among xs x × (x.span ≡ mark)
    pub rise : RisesBy (λ (at : ℕ). at) places → RisesBy first_byte xs

  pub gathered_none : Gathered 0 []
  gathered_none = record {
    each = λ x among. absurd (none_there among.0 x among.1);
    all = λ whole lo nested mark word way j lt at to few. absurd (omega (arith, lt));
    rise = λ rises i j x y le at other. absurd (none_there i x at);
  }

  some_is : (m n : ℕ) → Some m ≡ Some n → m ≡ n
  some_is m n e = cc

  last_or : (n j : ℕ) → j < n + 1 → (j < n) ⊎ (j ≡ n)
  last_or zero zero lt = inr refl
  last_or zero (suc j) lt = absurd (omega (arith, lt))
  last_or (suc n) zero lt = inl (omega arith)
  last_or (suc n) (suc j) lt = one_more (last_or n j (omega (arith, lt)))
    where
      one_more : (j < n) ⊎ (j ≡ n) → (suc j < suc n) ⊎ (suc j ≡ suc n)
      one_more (inl h) = inl (omega (arith, h))
      one_more (inr h) = inr (ap suc h)

  module _ (n at : ℕ) (here : slice_get places n ≡ Some at) (xs : List Naming) (g : Gathered n xs) where
    more_places : (x : Naming) → IsNaming b x × ((j : ℕ) × (j < n) × (slice_get places j ≡ Some x.span.from)) × (x.span.to ≡ x.span.from + size)
        → IsNaming b x × ((j : ℕ) × (j < n + 1) × (slice_get places j ≡ Some x.span.from)) × (x.span.to ≡ x.span.from + size)
    more_places x (is, (j, lt, stands), to) = (is, (j, omega (arith, lt), stands), to)

    passed : ((whole : Span) (lo : ℕ) → ListNested itself whole lo b → (mark : Span) (word : tree.Word Span) → ListWay (tree.name mark word) b → mark.from ≡ at → mark.to ≡ at + size → mark.to < 2 ^ 32 → ⊥) → Gathered (n + 1) xs
    passed absent = record {
      each = λ x among. more_places x (g.each x among);
      all = λ whole lo nested mark word way j lt stands to few. by whole lo nested mark word way j stands to few (last_or n j lt);
      rise = g.rise;
    }
      where
        by : (whole : Span) (lo : ℕ) → ListNested itself whole lo b → (mark : Span) (word : tree.Word Span) → ListWay (tree.name mark word) b → (j : ℕ) → slice_get places j ≡ Some mark.from
            → mark.to ≡ mark.from + size → mark.to < 2 ^ 32 → (j < n) ⊎ (j ≡ n) → (x : Naming) × Among xs x × (x.span ≡ mark)
        by whole lo nested mark word way j stands to few (inl lt) = g.all whole lo nested mark word way j lt stands to few
        by whole lo nested mark word way j stands to few (inr is) =
            let from : mark.from ≡ at = some_is mark.from at (sym stands ∙ ap (slice_get places) is ∙ here) in
            absurd (absent whole lo nested mark word way from (to ∙ ap (λ m. m + size) from) few)

    -- one more
    module _ (x : Naming) (is : IsNaming b x) (span : x.span ≡ record { from = at; to = at + size }) where
      abbrev more : List Naming
      more = xs ++ x ∷ []

      abbrev IsEach : Naming → Type 0
      IsEach y = IsNaming b y × ((j : ℕ) × (j < n + 1) × (slice_get places j ≡ Some y.span.from)) × (y.span.to ≡ y.span.from + size)

      from_is : at ≡ x.span.from
      from_is = ap (λ (s : Span). s.from) (sym span)

      own : IsEach x
      own = (is, (n, omega arith, here ∙ ap Some from_is), ap (λ (s : Span). s.to) span ∙ ap (λ m. m + size) from_is)

      alone : (j : ℕ) (y : Naming) → slice_get (x ∷ []) j ≡ Some y → x ≡ y
      alone zero y e = same_naming x y e
      alone (suc j) y e = absurd (none_there j y e)

      put_each : (y : Naming) (i : ℕ) → slice_get more i ≡ Some y → IsEach y
      put_each y i e = by (behind_or xs (x ∷ []) i y e)
        where
          by : (slice_get xs i ≡ Some y) ⊎ ((j : ℕ) × (i ≡ length xs + j) × (slice_get (x ∷ []) j ≡ Some y)) → IsEach y
          by (inl h) = more_places y (g.each y (i, h))
          by (inr (j, k, h)) = subst IsEach (alone j y h) own

      put_all : (whole : Span) (lo : ℕ) → ListNested itself whole lo b → (mark : Span) (word : tree.Word Span) → ListWay (tree.name mark word) b → (j : ℕ) → slice_get places j ≡ Some mark.from
          → mark.to ≡ mark.from + size → mark.to < 2 ^ 32 → (j < n) ⊎ (j ≡ n) → (y : Naming) × Among more y × (y.span ≡ mark)
      put_all whole lo nested mark word way j stands to few (inl lt) =
          let r = g.all whole lo nested mark word way j lt stands to few in
          (r.0, among_front xs (x ∷ []) r.0 r.1, r.2)
      put_all whole lo nested mark word way j stands to few (inr e) =
          let from : mark.from ≡ at = some_is mark.from at (sym stands ∙ ap (slice_get places) e ∙ here) in
          let to_is : mark.to ≡ at + size = to ∙ ap (λ m. m + size) from in
          (x, among_last xs x, span ∙ (λ i. record { from = sym from i; to = sym to_is i }))

      put_rise : RisesBy (λ (m : ℕ). m) places → RisesBy first_byte more
      put_rise rises i j y z le first second = by (behind_or xs (x ∷ []) i y first) (behind_or xs (x ∷ []) j z second)
        where
          by : (slice_get xs i ≡ Some y) ⊎ ((k : ℕ) × (i ≡ length xs + k) × (slice_get (x ∷ []) k ≡ Some y)) → (slice_get xs j ≡ Some z) ⊎ ((k : ℕ) × (j ≡ length xs + k) × (slice_get (x ∷ []) k ≡ Some z))
              → y.span.from ≤ z.span.from
          by (inl h) (inl k) = g.rise rises i j y z le h k
          by (inl h) (inr (k, e, last)) =
              let r = (g.each y (i, h)).1 in
              let lt = r.1 in
              let low = rises r.0 n y.span.from at (omega (arith, lt)) r.2 here in
              let of = from_is ∙ ap first_byte (alone k z last) in
              omega (arith, low, of)
          by (inr (k, e, last)) (inl h) = let within = slice_get_within xs j z h in absurd (omega (arith, e, le, within))
          by (inr (k, e, last)) (inr (m, o, next)) = let of = ap first_byte (sym (alone k y last) ∙ alone m z next) in omega (arith, of)

      put : Gathered (n + 1) more
      put = record {
        each = λ y among. put_each y among.0 among.1;
        all = λ whole lo nested mark word way j lt stands to few. put_all whole lo nested mark word way j stands to few (last_or n j lt);
        rise = put_rise;
      }

    pub gathers : (ys : List Naming) → AddsNaming at size b xs ys → Gathered (n + 1) ys
    gathers ys a = subst (Gathered (n + 1)) (sym a.is) (by a.put refl)
      where
        by : (o : Option Naming) → a.put ≡ o → Gathered (n + 1) (xs ++ listed o)
        by None e = subst (Gathered (n + 1)) (sym (plain xs)) (passed (a.absent e))
        by (Some x) e = let t = a.there x e in put x t.0 t.1

  -- from a place that is read, whatever is read past the end
  pub gathers_read : (n d : ℕ) → n < length places → (xs ys : List Naming) → Gathered n xs → AddsNaming (get_or places n d) size b xs ys → Gathered (n + 1) ys
  gathers_read n d lt xs ys g a = gathers n (get_or places n d) (slice_get-get_or places n d lt) xs g ys a

  pub gathered_all : (n : ℕ) (xs : List Naming) → length places ≤ n → Gathered n xs → AreNamings places size b xs
  gathered_all n xs past g = record {
    each = λ x among. let r = g.each x among in (r.0, (r.1.0, r.1.2), r.2);
    all = λ whole lo nested mark word way there to few. let lt = slice_get_within places there.0 mark.from there.1 in g.all whole lo nested mark word way there.0 (omega (arith, lt, past)) there.1 to few;
    rise = g.rise;
  }

-- ---- what comes of one place

module _ (at size : ℕ) (b : statement.Stmts Span) (xs : List Naming) where
  pub nothing_added : (at + size < 2 ^ 32 → ⊥) → AddsNaming at size b xs xs
  nothing_added over = record {
    put = None;
    is = sym (plain xs);
    there = λ x e. absurd (none x e);
    absent = λ e whole lo nested mark word way from to few. over (let k = to in omega (arith, k, few));
  }
    where
      none : (x : Naming) → None ≡ Some x → ⊥
      none x j = cc

  pub one_added : (o : Option Naming) (ys : List Naming) → IsNamedAt (record { from = at; to = at + size }) b o → ys ≡ xs ++ listed o → AddsNaming at size b xs ys
  one_added None ys h is = record {
    put = None;
    is = is;
    there = λ x e. absurd (none x e);
    absent = λ e whole lo nested mark word way from to few. h whole lo nested mark word way (λ i. record { from = from i; to = to i });
  }
    where
      none : (x : Naming) → None ≡ Some x → ⊥
      none x j = cc
  one_added (Some x) ys h is = record {
    put = Some x;
    is = is;
    there = λ y e. subst (λ (z : Naming). IsNaming b z × (z.span ≡ record { from = at; to = at + size })) (same_naming x y e) h;
    absent = λ e. some_none x e;
  }

-- ---- the one read, and the first target

none_read : (ys : List Naming) → first_read ys ≡ None → (i : ℕ) (y : Naming) → slice_get ys i ≡ Some y → is_read y.usage ≡ true → ⊥
none_read [] e i y at reads = none_there i y at
none_read (z ∷ ys) e i y at reads = by (is_read z.usage) refl e i at (none_read ys)
  where
    by : (q : Bool) → is_read z.usage ≡ q → (if q then Some z else first_read ys) ≡ None → (i : ℕ) → slice_get (z ∷ ys) i ≡ Some y
        → (first_read ys ≡ None → (i : ℕ) (y : Naming) → slice_get ys i ≡ Some y → is_read y.usage ≡ true → ⊥) → ⊥
    by true r e i at on = some_none z e
    by false r e zero at on = false_true (sym r ∙ ap (λ (u : Naming). is_read u.usage) (same_naming z y at) ∙ reads)
    by false r e (suc i) at on = on e i y at reads

module _ (xs : List Naming) where
  pub no_read : first_read xs ≡ None → (x : Naming) → IsOnlyRead xs x → ⊥
  no_read e x h = none_read xs e h.number x h.stands h.reads

  -- where the first read stands
  pub record FirstRead (x : Naming) : Type 0 where
    pub number : ℕ
    pub stands : slice_get xs number ≡ Some x
    pub reads : is_read x.usage ≡ true

pub read_first : (xs : List Naming) (x : Naming) → first_read xs ≡ Some x → FirstRead xs x
read_first [] x e = absurd (none e)
  where
    none : None ≡ Some x → ⊥
    none j = cc
read_first (z ∷ xs) x e = by (is_read z.usage) refl e (read_first xs x)
  where
    by : (q : Bool) → is_read z.usage ≡ q → (if q then Some z else first_read xs) ≡ Some x → (first_read xs ≡ Some x → FirstRead xs x) → FirstRead (z ∷ xs) x
    by true r h on = record { number = 0; stands = h; reads = ap (λ (u : Naming). is_read u.usage) (sym (same_naming z x h)) ∙ r }
    by false r h on = let f = on h in record { number = suc f.number; stands = f.stands; reads = f.reads }

-- all reads begin at the byte
abbrev AreAllAt : (at : ℕ) → List Naming → Type 0
AreAllAt at xs = (i : ℕ) (y : Naming) → slice_get xs i ≡ Some y → is_read y.usage ≡ true → y.span.from ≡ at

true_false : {X : Type 0} → true ≡ false → X
true_false e = false_true (sym e)

elsewhere : (r q : Bool) → (r && not q) ≡ false → r ≡ true → q ≡ true
elsewhere true true e h = refl
elsewhere true false e h = true_false e
elsewhere false q e h = false_true h

not_there : (r q : Bool) → (r && not q) ≡ true → (r ≡ true) × (q ≡ false)
not_there true false e = (refl, refl)
not_there true true e = false_true e
not_there false q e = false_true e

all_at : (at : ℕ) (xs : List Naming) → all_read_at at xs ≡ true → AreAllAt at xs
all_at at [] e i y here reads = absurd (none_there i y here)
all_at at (x ∷ xs) e i y here reads = by (is_read_elsewhere at x) refl e i here (all_at at xs)
  where
    by : (q : Bool) → is_read_elsewhere at x ≡ q → (if q then false else all_read_at at xs) ≡ true → (i : ℕ) → slice_get (x ∷ xs) i ≡ Some y → (all_read_at at xs ≡ true → AreAllAt at xs) → y.span.from ≡ at
    by true r h i here on = false_true h
    by false r h zero here on =
        let is = same_naming x y here in
        ap first_byte (sym is) ∙ eqb-true x.span.from at (elsewhere (is_read x.usage) (x.span.from == at) r (ap (λ (u : Naming). is_read u.usage) is ∙ reads))
    by false r h (suc i) here on = on h i y here reads

not_all : (at : ℕ) (xs : List Naming) → all_read_at at xs ≡ false → AreAllAt at xs → ⊥
not_all at [] e all = true_false e
not_all at (x ∷ xs) e all = by (is_read_elsewhere at x) refl e (not_all at xs)
  where
    by : (q : Bool) → is_read_elsewhere at x ≡ q → (if q then false else all_read_at at xs) ≡ false → (all_read_at at xs ≡ false → AreAllAt at xs → ⊥) → ⊥
    by true r h on =
        let p = not_there (is_read x.usage) (x.span.from == at) r in
        true_false (sym (eq-eqb x.span.from at (all 0 x refl p.0)) ∙ p.1)
    by false r h on = on h (λ i y here reads. all (suc i) y here reads)

module _ (xs : List Naming) (x : Naming) (e : first_read xs ≡ Some x) where
  pub is_only : all_read_at x.span.from xs ≡ true → IsOnlyRead xs x
  is_only all = let f = read_first xs x e in record { number = f.number; stands = f.stands; reads = f.reads; only = all_at x.span.from xs all }

  pub not_only : all_read_at x.span.from xs ≡ false → (y : Naming) → IsOnlyRead xs y → ⊥
  not_only late y h =
      let f = read_first xs x e in
      not_all x.span.from xs late (λ i z here reads. h.only i z here reads ∙ sym (h.only f.number x f.stands f.reads))

-- ---- the loops over names, which read an element, whatever is read past the end

module _ (xs : List raw.Naming) (i : ℕ) (d : raw.Naming) (lt : i < length xs) where
  abbrev item : Naming
  item = naming_of (get_or xs i d)

  abbrev rest : List Naming
  rest = map naming_of (drop (i + 1) xs)

  split : map naming_of (drop i xs) ≡ item ∷ rest
  split = ap (map naming_of) (left_read xs i d lt)

  pub read_here : is_read item.usage ≡ true → first_read (map naming_of (drop i xs)) ≡ Some item
  read_here e = ap first_read split ∙ if_true (is_read item.usage) (Some item) (first_read rest) e

  pub read_later : is_read item.usage ≡ false → first_read (map naming_of (drop i xs)) ≡ first_read rest
  read_later e = ap first_read split ∙ if_false (is_read item.usage) (Some item) (first_read rest) e

  pub target_here : is_target item.usage ≡ true → first_target (map naming_of (drop i xs)) ≡ Some item
  target_here e = ap first_target split ∙ if_true (is_target item.usage) (Some item) (first_target rest) e

  pub target_later : is_target item.usage ≡ false → first_target (map naming_of (drop i xs)) ≡ first_target rest
  target_later e = ap first_target split ∙ if_false (is_target item.usage) (Some item) (first_target rest) e

  pub elsewhere_here : (at : ℕ) → is_read_elsewhere at item ≡ true → all_read_at at (map naming_of (drop i xs)) ≡ false
  elsewhere_here at e = ap (all_read_at at) split ∙ if_true (is_read_elsewhere at item) false (all_read_at at rest) e

  pub elsewhere_later : (at : ℕ) → is_read_elsewhere at item ≡ false → all_read_at at (map naming_of (drop i xs)) ≡ all_read_at at rest
  elsewhere_later at e = ap (all_read_at at) split ∙ if_false (is_read_elsewhere at item) false (all_read_at at rest) e
