-- The declarations of a list: their names, their numbers, and the ways to their initializers.
use Rattle.std.proofs.Common.{◌≡◌, ℕ, zero, suc, ◌+◌, ◌<◌, ◌≤◌, ◌==◌, ◌⊎◌, inl, inr, Bool, true, false, List, [], ◌∷◌, ◌++◌, map, Option, Some, None, option_map, if◌then◌else◌, refl, ap, sym, subst, ◌∙◌, arith}
use Rattle.std.proofs.lemmas.Bool.{eqb-true, eq-eqb}
use Rattle.jr_text.specs.declared.spans.Span.{Span}
use Rattle.jr_ast.specs.Tree as tree
use Rattle.jr_ast.specs.StatementTree as statement
use Rattle.jr_table.specs.SameKeys.{same_name}
use Rattle.jr_table.specs.Decls.{MemberKey, LocalKey}
use Rattle.jr_table.specs.Scope.{ScopeLocal}
use Rattle.jr_table.specs.Context.{locals_in, locals_in_else, locals_in_row}
use Rattle.jr_pieces.specs.Ways.{here, StmtWay, in_init, in_eval, in_condition, in_then, in_else, in_turning, in_body, in_returned, in_block, in_lock, in_locked, ListWay, first, later}
use Rattle.jr_pieces.specs.Standings.{Standing, inside, behind, in_other}
use Rattle.jr_pieces.specs.Nearest.{Element, or_element, element_within, nearest}
use Rattle.jr_pieces.specs.Declared.{declared_in, declared_behind, declared_in_list, first_named}
use Rattle.jr_piece_search.specs.Sought.{begins}
use Rattle.jr_local_search.specs.Declarations.{Declaration, declarations, declarations_behind, declarations_in, Wanted, named, numbered, is_wanted, first_wanted}
use Rattle.jr_local_search.specs.DeclarationLaws.{key_in, DeclaredNames, StandsDeclared, DeclarationsHaveWays, WaysAreDeclared}
use Rattle.jr_local_search.proofs.Descents.{apart, if_false}
use Rattle.jr_local_search.proofs.Walks.{none_first, some_first}

-- ---- names

module _ (k : MemberKey) where
  abbrev local_in : Declaration → ScopeLocal
  local_in d = record { name = d.name; key = key_in k d }

  both : (xs ys : List Declaration) (ls ms : List ScopeLocal) → ls ≡ map local_in xs → ms ≡ map local_in ys → ls ++ ms ≡ map local_in (xs ++ ys)
  both xs ys ls ms e h = (λ i. e i ++ h i) ∙ joined xs
    where
      joined : (zs : List Declaration) → map local_in zs ++ map local_in ys ≡ map local_in (zs ++ ys)
      joined [] = refl
      joined (z ∷ zs) = ap (λ us. local_in z ∷ us) (joined zs)

  mutual
    names_of : (whole : Option (statement.Stmts Span)) (n : ℕ) (s : statement.Stmt Span) → declared_in k n s ≡ map local_in (declarations whole n s)
    names_of whole n (statement.local m f t w e) = refl
    names_of whole n (statement.eval m e) = refl
    names_of whole n (statement.branch m c s o) = both (declarations None n s) (declarations_behind (n + locals_in s) o) (declared_in k n s) (declared_behind k (n + locals_in s) o) (names_of None n s) (names_behind (n + locals_in s) o)
    names_of whole n (statement.loop m c s) = names_of None n s
    names_of whole n (statement.return m e) = refl
    names_of whole n (statement.block m b) = names_in n b
    names_of whole n (statement.sync m e b) = names_in n b
    names_of whole n (statement.empty m) = refl

    names_behind : (n : ℕ) (o : statement.Else Span) → declared_behind k n o ≡ map local_in (declarations_behind n o)
    names_behind n statement.no_else = refl
    names_behind n (statement.otherwise s) = names_of None n s

    names_in : (n : ℕ) (b : statement.Stmts Span) → declared_in_list k n b ≡ map local_in (declarations_in n b)
    names_in n statement.end = refl
    names_in n (statement.more s ss) = both (declarations (Some (statement.more s ss)) n s) (declarations_in (n + locals_in s) ss) (declared_in k n s) (declared_in_list k (n + locals_in s) ss) (names_of (Some (statement.more s ss)) n s) (names_in (n + locals_in s) ss)

  first_of : (name : List ℕ) (ds : List Declaration) → first_named name (map local_in ds) ≡ option_map (key_in k) (first_wanted (named name) ds)
  first_of name [] = refl
  first_of name (d ∷ ds) = by (same_name d.name name) (first_of name ds)
    where
      by : (b : Bool) → first_named name (map local_in ds) ≡ option_map (key_in k) (first_wanted (named name) ds) → (if b then Some (key_in k d) else first_named name (map local_in ds)) ≡ option_map (key_in k) (if b then Some d else first_wanted (named name) ds)
      by true on = refl
      by false on = on

pub declared_names : DeclaredNames
declared_names = λ k name next b. ap (first_named name) (names_in k next b) ∙ first_of k name (declarations_in next b)

-- ---- rows

abbrev In : Declaration → List Declaration → Type 0
In d [] = ⊥
In d (e ∷ es) = (e ≡ d) ⊎ In d es

in_either : (d : Declaration) (xs ys : List Declaration) → In d (xs ++ ys) → In d xs ⊎ In d ys
in_either d [] ys h = inr h
in_either d (x ∷ xs) ys (inl h) = inl (inl h)
in_either d (x ∷ xs) ys (inr h) = by (in_either d xs ys h)
  where
    by : In d xs ⊎ In d ys → In d (x ∷ xs) ⊎ In d ys
    by (inl k) = inl (inr k)
    by (inr k) = inr k

in_left : (d : Declaration) (xs ys : List Declaration) → In d xs → In d (xs ++ ys)
in_left d [] ys h = absurd h
in_left d (x ∷ xs) ys (inl h) = inl h
in_left d (x ∷ xs) ys (inr h) = inr (in_left d xs ys h)

in_right : (d : Declaration) (xs ys : List Declaration) → In d ys → In d (xs ++ ys)
in_right d [] ys h = h
in_right d (x ∷ xs) ys h = inr (in_right d xs ys h)

-- what is found is one that is looked for
found_in_row : (n : ℕ) (ds : List Declaration) (d : Declaration) → first_wanted (numbered n) ds ≡ Some d → In d ds × (d.number ≡ n)
found_in_row n [] d e = absurd (none e)
  where
    none : None ≡ Some d → ⊥
    none j = cc
found_in_row n (x ∷ xs) d e = by (x.number == n) refl e (found_in_row n xs d)
  where
    same : (a c : Declaration) → Some a ≡ Some c → a ≡ c
    same a c j = cc

    by : (b : Bool) → (x.number == n) ≡ b → (if b then Some x else first_wanted (numbered n) xs) ≡ Some d → (first_wanted (numbered n) xs ≡ Some d → In d xs × (d.number ≡ n)) → In d (x ∷ xs) × (d.number ≡ n)
    by true t h on = (inl (same x d h), ap (λ (z : Declaration). z.number) (sym (same x d h)) ∙ eqb-true x.number n t)
    by false t h on = let r = on h in (inr r.0, r.1)

-- all have numbers from lo up to and without hi
abbrev Between : (lo hi : ℕ) → List Declaration → Type 0
Between lo hi ds = (d : Declaration) → In d ds → (lo ≤ d.number) × (d.number < hi)

between_both : (lo mid hi : ℕ) (xs ys : List Declaration) → lo ≤ mid → mid ≤ hi → Between lo mid xs → Between mid hi ys → Between lo hi (xs ++ ys)
between_both lo mid hi xs ys l h f g d i = by (in_either d xs ys i)
  where
    by : In d xs ⊎ In d ys → (lo ≤ d.number) × (d.number < hi)
    by (inl k) = let r = f d k in let a = r.0 in let c = r.1 in (a, omega (arith, c, h))
    by (inr k) = let r = g d k in let a = r.0 in let c = r.1 in (omega (arith, a, l), c)

mutual
  unfolding locals_in locals_in_else locals_in_row

  numbers_of : (whole : Option (statement.Stmts Span)) (n : ℕ) (s : statement.Stmt Span) → Between n (n + locals_in s) (declarations whole n s)
  numbers_of whole n (statement.local m f t w e) d (inl is) = let k = ap (λ (z : Declaration). z.number) is in (omega (arith, k), omega (arith, k))
  numbers_of whole n (statement.local m f t w e) d (inr i) = absurd i
  numbers_of whole n (statement.eval m e) d i = absurd i
  numbers_of whole n (statement.branch m c s o) d i =
      let r = between_both n (n + locals_in s) ((n + locals_in s) + locals_in_else o) (declarations None n s) (declarations_behind (n + locals_in s) o) (omega arith) (omega arith) (numbers_of None n s) (numbers_behind (n + locals_in s) o) d i in
      let a = r.0 in let c = r.1 in (a, omega (arith, c))
  numbers_of whole n (statement.loop m c s) d i = numbers_of None n s d i
  numbers_of whole n (statement.return m e) d i = absurd i
  numbers_of whole n (statement.block m b) d i = numbers_in n b d i
  numbers_of whole n (statement.sync m e b) d i = numbers_in n b d i
  numbers_of whole n (statement.empty m) d i = absurd i

  numbers_behind : (n : ℕ) (o : statement.Else Span) → Between n (n + locals_in_else o) (declarations_behind n o)
  numbers_behind n statement.no_else d i = absurd i
  numbers_behind n (statement.otherwise s) d i = numbers_of None n s d i

  numbers_in : (n : ℕ) (b : statement.Stmts Span) → Between n (n + locals_in_row b) (declarations_in n b)
  numbers_in n statement.end d i = absurd i
  numbers_in n (statement.more s ss) d i =
      let r = between_both n (n + locals_in s) ((n + locals_in s) + locals_in_row ss) (declarations (Some (statement.more s ss)) n s) (declarations_in (n + locals_in s) ss) (omega arith) (omega arith) (numbers_of (Some (statement.more s ss)) n s) (numbers_in (n + locals_in s) ss) d i in
      let a = r.0 in let c = r.1 in (a, omega (arith, c))

-- none of a row has the number
none_has : (k : ℕ) (ds : List Declaration) → ((d : Declaration) → In d ds → d.number ≡ k → ⊥) → first_wanted (numbered k) ds ≡ None
none_has k [] h = refl
none_has k (x ∷ xs) h = if_false (x.number == k) (Some x) (first_wanted (numbered k) xs) (apart x.number k (h x (inl refl))) ∙ none_has k xs (λ d i. h d (inr i))

-- each of a row is found by its number
abbrev EachFound : List Declaration → Type 0
EachFound ds = (d : Declaration) → In d ds → first_wanted (numbered d.number) ds ≡ Some d

each_both : (lo mid hi : ℕ) (xs ys : List Declaration) → Between lo mid xs → Between mid hi ys → EachFound xs → EachFound ys → EachFound (xs ++ ys)
each_both lo mid hi xs ys f g p q d i = by (in_either d xs ys i)
  where
    by : In d xs ⊎ In d ys → first_wanted (numbered d.number) (xs ++ ys) ≡ Some d
    by (inl k) = some_first (numbered d.number) xs ys d (p d k)
    by (inr k) =
        let low = (g d k).0 in
        none_first (numbered d.number) xs ys (none_has d.number xs (λ e j is. let high = (f e j).1 in absurd (omega (arith, low, high, is)))) ∙ q d k

one_found : (d : Declaration) → EachFound (d ∷ [])
one_found d e (inl is) = ap (λ (b : Bool). if b then Some d else None) (eq-eqb d.number e.number (ap (λ (z : Declaration). z.number) is)) ∙ ap Some is
one_found d e (inr i) = absurd i

mutual
  found_of : (whole : Option (statement.Stmts Span)) (n : ℕ) (s : statement.Stmt Span) → EachFound (declarations whole n s)
  found_of whole n (statement.local m f t w e) d i = one_found (record { number = n; name = w.text; list = whole }) d i
  found_of whole n (statement.eval m e) d i = absurd i
  found_of whole n (statement.branch m c s o) d i = each_both n (n + locals_in s) ((n + locals_in s) + locals_in_else o) (declarations None n s) (declarations_behind (n + locals_in s) o) (numbers_of None n s) (numbers_behind (n + locals_in s) o) (found_of None n s) (found_behind (n + locals_in s) o) d i
  found_of whole n (statement.loop m c s) d i = found_of None n s d i
  found_of whole n (statement.return m e) d i = absurd i
  found_of whole n (statement.block m b) d i = found_list n b d i
  found_of whole n (statement.sync m e b) d i = found_list n b d i
  found_of whole n (statement.empty m) d i = absurd i

  found_behind : (n : ℕ) (o : statement.Else Span) → EachFound (declarations_behind n o)
  found_behind n statement.no_else d i = absurd i
  found_behind n (statement.otherwise s) d i = found_of None n s d i

  found_list : (n : ℕ) (b : statement.Stmts Span) → EachFound (declarations_in n b)
  found_list n statement.end d i = absurd i
  found_list n (statement.more s ss) d i = each_both n (n + locals_in s) ((n + locals_in s) + locals_in_row ss) (declarations (Some (statement.more s ss)) n s) (declarations_in (n + locals_in s) ss) (numbers_of (Some (statement.more s ss)) n s) (numbers_in (n + locals_in s) ss) (found_of (Some (statement.more s ss)) n s) (found_list (n + locals_in s) ss) d i

-- ---- from a declaration to its way

either : {X Y Z : Type 0} → X ⊎ Y → (X → Z) → (Y → Z) → Z
either (inl x) f g = f x
either (inr y) f g = g y

-- a list within the statement, from the declaration on
record Deeper (s : statement.Stmt Span) (n k : ℕ) (list : statement.Stmts Span) : Type 0 where
  mark : Span
  is_final : Bool
  type : tree.TypeName Span
  word : tree.Word Span
  init : tree.Exp Span
  rest : statement.Stmts Span
  is : list ≡ statement.more (statement.local mark is_final type word init) rest
  way : StmtWay init s
  element : (p : Standing) → p.next ≡ n → (el : Element init) × (element_within begins p way ≡ Some el) × (el.stmt ≡ statement.local mark is_final type word init) × (el.rest ≡ rest) × (el.at.next ≡ k)

no_list : {X : Type 0} (l : statement.Stmts Span) → None ≡ Some l → X
no_list l e = absurd (apart e)
  where
    apart : None ≡ Some l → ⊥
    apart j = cc

module _ (n k : ℕ) (l : statement.Stmts Span) where
  in_first : (m : Span) (c : tree.Exp Span) (s : statement.Stmt Span) (o : statement.Else Span) → Deeper s n k l → Deeper (statement.branch m c s o) n k l
  in_first m c s o r = record { mark = r.mark; is_final = r.is_final; type = r.type; word = r.word; init = r.init; rest = r.rest; is = r.is; way = in_then m c s o r.way; element = λ p e. r.element (inside begins m p) e }

  in_second : (m : Span) (c : tree.Exp Span) (s o : statement.Stmt Span) → Deeper o (n + locals_in s) k l → Deeper (statement.branch m c s (statement.otherwise o)) n k l
  in_second m c s o r = record { mark = r.mark; is_final = r.is_final; type = r.type; word = r.word; init = r.init; rest = r.rest; is = r.is; way = in_else m c s o r.way; element = λ p e. r.element (in_other begins m s p) (ap (λ j. j + locals_in s) e) }

  in_loop : (m : Span) (c : tree.Exp Span) (s : statement.Stmt Span) → Deeper s n k l → Deeper (statement.loop m c s) n k l
  in_loop m c s r = record { mark = r.mark; is_final = r.is_final; type = r.type; word = r.word; init = r.init; rest = r.rest; is = r.is; way = in_body m c s r.way; element = λ p e. r.element (inside begins m p) e }

  in_braces : (m : Span) (b : statement.Stmts Span) → StandsDeclared b n k l → Deeper (statement.block m b) n k l
  in_braces m b r = record { mark = r.mark; is_final = r.is_final; type = r.type; word = r.word; init = r.init; rest = r.rest; is = r.is; way = in_block m b r.way; element = λ p e. let q = r.element (inside begins m p) e in (nearest begins (inside begins m p) r.way, refl, q.0, q.1, q.2) }

  in_lock_of : (m : Span) (x : tree.Exp Span) (b : statement.Stmts Span) → StandsDeclared b n k l → Deeper (statement.sync m x b) n k l
  in_lock_of m x b r = record { mark = r.mark; is_final = r.is_final; type = r.type; word = r.word; init = r.init; rest = r.rest; is = r.is; way = in_locked m x b r.way; element = λ p e. let q = r.element (inside begins m p) e in (nearest begins (inside begins m p) r.way, refl, q.0, q.1, q.2) }

  -- in an element, and behind one
  in_element : (s : statement.Stmt Span) (ss : statement.Stmts Span) → Deeper s n k l → StandsDeclared (statement.more s ss) n k l
  in_element s ss r = record {
    mark = r.mark;
    is_final = r.is_final;
    type = r.type;
    word = r.word;
    init = r.init;
    rest = r.rest;
    is = r.is;
    way = first s ss r.way;
    element = λ p e. let q = r.element p e in let at = ap (λ o. or_element o (record { at = p; stmt = s; rest = ss; way = r.way })) q.1 in
        (ap (λ (x : Element r.init). x.stmt) at ∙ q.2, ap (λ (x : Element r.init). x.rest) at ∙ q.3, ap (λ (x : Element r.init). x.at.next) at ∙ q.4);
  }

  in_later : (s : statement.Stmt Span) (ss : statement.Stmts Span) → StandsDeclared ss (n + locals_in s) k l → StandsDeclared (statement.more s ss) n k l
  in_later s ss r = record { mark = r.mark; is_final = r.is_final; type = r.type; word = r.word; init = r.init; rest = r.rest; is = r.is; way = later s ss r.way; element = λ p e. r.element (behind begins s p) (ap (λ j. j + locals_in s) e) }

  -- the element itself
  itself_declared : (m : Span) (f : Bool) (t : tree.TypeName Span) (w : tree.Word Span) (x : tree.Exp Span) (ss : statement.Stmts Span) → n ≡ k → Some (statement.more (statement.local m f t w x) ss) ≡ Some l
      → StandsDeclared (statement.more (statement.local m f t w x) ss) n k l
  itself_declared m f t w x ss number list = record {
    mark = m;
    is_final = f;
    type = t;
    word = w;
    init = x;
    rest = ss;
    is = sym (same _ _ list);
    way = first (statement.local m f t w x) ss (in_init m f t w x here);
    element = λ p e. (refl, refl, e ∙ number);
  }
    where
      same : (a c : statement.Stmts Span) → Some a ≡ Some c → a ≡ c
      same a c j = cc

-- the element itself, or one that is declared within it
own_or : (n : ℕ) (s : statement.Stmt Span) (ss : statement.Stmts Span) (d : Declaration) (l : statement.Stmts Span) → d.list ≡ Some l → In d (declarations (Some (statement.more s ss)) n s)
    → StandsDeclared (statement.more s ss) n d.number l ⊎ In d (declarations None n s)
own_or n (statement.local m f t w x) ss d l e (inl is) = inl (itself_declared n d.number l m f t w x ss (ap (λ (z : Declaration). z.number) is) (ap (λ (z : Declaration). z.list) is ∙ e))
own_or n (statement.local m f t w x) ss d l e (inr i) = absurd i
own_or n (statement.eval m x) ss d l e i = absurd i
own_or n (statement.branch m c s o) ss d l e i = inr i
own_or n (statement.loop m c s) ss d l e i = inr i
own_or n (statement.return m x) ss d l e i = absurd i
own_or n (statement.block m b) ss d l e i = inr i
own_or n (statement.sync m x b) ss d l e i = inr i
own_or n (statement.empty m) ss d l e i = absurd i

mutual
  deeper_in : (n : ℕ) (s : statement.Stmt Span) (d : Declaration) (l : statement.Stmts Span) → d.list ≡ Some l → In d (declarations None n s) → Deeper s n d.number l
  deeper_in n (statement.local m f t w x) d l e (inl is) = no_list l (ap (λ (z : Declaration). z.list) is ∙ e)
  deeper_in n (statement.local m f t w x) d l e (inr i) = absurd i
  deeper_in n (statement.eval m x) d l e i = absurd i
  deeper_in n (statement.branch m c s o) d l e i = either (in_either d (declarations None n s) (declarations_behind (n + locals_in s) o) i) (λ h. in_first n d.number l m c s o (deeper_in n s d l e h)) (λ h. behind_else n m c s o d l e h)
  deeper_in n (statement.loop m c s) d l e i = in_loop n d.number l m c s (deeper_in n s d l e i)
  deeper_in n (statement.return m x) d l e i = absurd i
  deeper_in n (statement.block m b) d l e i = in_braces n d.number l m b (stands_in n b d l e i)
  deeper_in n (statement.sync m x b) d l e i = in_lock_of n d.number l m x b (stands_in n b d l e i)
  deeper_in n (statement.empty m) d l e i = absurd i

  behind_else : (n : ℕ) (m : Span) (c : tree.Exp Span) (s : statement.Stmt Span) (o : statement.Else Span) (d : Declaration) (l : statement.Stmts Span) → d.list ≡ Some l → In d (declarations_behind (n + locals_in s) o) → Deeper (statement.branch m c s o) n d.number l
  behind_else n m c s statement.no_else d l e i = absurd i
  behind_else n m c s (statement.otherwise y) d l e i = in_second n d.number l m c s y (deeper_in (n + locals_in s) y d l e i)

  stands_in : (n : ℕ) (b : statement.Stmts Span) (d : Declaration) (l : statement.Stmts Span) → d.list ≡ Some l → In d (declarations_in n b) → StandsDeclared b n d.number l
  stands_in n statement.end d l e i = absurd i
  stands_in n (statement.more s ss) d l e i = either (in_either d (declarations (Some (statement.more s ss)) n s) (declarations_in (n + locals_in s) ss) i) (λ h. either (own_or n s ss d l e h) (λ r. r) (λ k. in_element n d.number l s ss (deeper_in n s d l e k))) (λ h. in_later n d.number l s ss (stands_in (n + locals_in s) ss d l e h))

pub declarations_have_ways : DeclarationsHaveWays
declarations_have_ways = λ b next number d list e l.
    let r = found_in_row number (declarations_in next b) d e in
    subst (λ k. StandsDeclared b next k list) r.1 (stands_in next b d list l r.0)

-- ---- from a way to the declaration

abbrev declared_at : {f : tree.Exp Span} → Element f → tree.Word Span → Declaration
declared_at el w = record { number = el.at.next; name = w.text; list = Some (statement.more el.stmt el.rest) }

module _ (f : tree.Exp Span) (m : Span) (fin : Bool) (t : tree.TypeName Span) (w : tree.Word Span) (x : tree.Exp Span) where
  abbrev IsIt : Element f → Type 0
  IsIt el = el.stmt ≡ statement.local m fin t w x

  no_element : {X : Type 0} (el : Element f) → None ≡ Some el → X
  no_element el e = absurd (apart e)
    where
      apart : None ≡ Some el → ⊥
      apart j = cc

  same_element : (a c : Element f) → Some a ≡ Some c → a ≡ c
  same_element a c j = cc

  its_own : (whole : Option (statement.Stmts Span)) (n : ℕ) (s : statement.Stmt Span) → s ≡ statement.local m fin t w x → In (record { number = n; name = w.text; list = whole }) (declarations whole n s)
  its_own whole n s is = subst (λ (z : statement.Stmt Span). In (record { number = n; name = w.text; list = whole }) (declarations whole n z)) (sym is) (inl refl)

  by_element : (s : statement.Stmt Span) (ss : statement.Stmts Span) (d : StmtWay f s) (p : Standing) (o : Option (Element f)) → element_within begins p d ≡ o
      → ((el : Element f) → element_within begins p d ≡ Some el → IsIt el → In (declared_at el w) (declarations (Some (statement.more s ss)) p.next s))
      → IsIt (or_element o (record { at = p; stmt = s; rest = ss; way = d })) → In (declared_at (or_element o (record { at = p; stmt = s; rest = ss; way = d })) w) (declarations (Some (statement.more s ss)) p.next s)
  by_element s ss d p None e within is = its_own (Some (statement.more s ss)) p.next s is
  by_element s ss d p (Some el) e within is = within el e is

  mutual
    in_stmt : (whole : Option (statement.Stmts Span)) (s : statement.Stmt Span) (d : StmtWay f s) (p : Standing) (el : Element f) → element_within begins p d ≡ Some el → IsIt el → In (declared_at el w) (declarations whole p.next s)
    in_stmt whole s (in_init n g u v e d) p el k is = no_element el k
    in_stmt whole s (in_eval n e d) p el k is = no_element el k
    in_stmt whole s (in_condition n c y o d) p el k is = no_element el k
    in_stmt whole s (in_then n c y o d) p el k is = in_left (declared_at el w) (declarations None p.next y) (declarations_behind (p.next + locals_in y) o) (in_stmt None y d (inside begins n p) el k is)
    in_stmt whole s (in_else n c y o d) p el k is = in_right (declared_at el w) (declarations None p.next y) (declarations None (p.next + locals_in y) o) (in_stmt None o d (in_other begins n y p) el k is)
    in_stmt whole s (in_turning n c y d) p el k is = no_element el k
    in_stmt whole s (in_body n c y d) p el k is = in_stmt None y d (inside begins n p) el k is
    in_stmt whole s (in_returned n e d) p el k is = no_element el k
    in_stmt whole s (in_block n b d) p el k is =
        let same = same_element (nearest begins (inside begins n p) d) el k in
        subst (λ (z : Element f). In (declared_at z w) (declarations_in p.next b)) same (in_list b d (inside begins n p) (ap (λ (z : Element f). z.stmt) same ∙ is))
    in_stmt whole s (in_lock n e b d) p el k is = no_element el k
    in_stmt whole s (in_locked n e b d) p el k is =
        let same = same_element (nearest begins (inside begins n p) d) el k in
        subst (λ (z : Element f). In (declared_at z w) (declarations_in p.next b)) same (in_list b d (inside begins n p) (ap (λ (z : Element f). z.stmt) same ∙ is))

    in_list : (b : statement.Stmts Span) (d : ListWay f b) (p : Standing) → IsIt (nearest begins p d) → In (declared_at (nearest begins p d) w) (declarations_in p.next b)
    in_list b (first s ss d) p is =
        in_left (declared_at (nearest begins p (first s ss d)) w) (declarations (Some (statement.more s ss)) p.next s) (declarations_in (p.next + locals_in s) ss)
        (by_element s ss d p (element_within begins p d) refl (λ el k i. in_stmt (Some (statement.more s ss)) s d p el k i) is)
    in_list b (later s ss d) p is = in_right (declared_at (nearest begins (behind begins s p) d) w) (declarations (Some (statement.more s ss)) p.next s) (declarations_in (p.next + locals_in s) ss) (in_list ss d (behind begins s p) is)

pub ways_are_declared : WaysAreDeclared
ways_are_declared = λ b f way p mark is_final type word init is.
    found_list p.next b (declared_at (nearest begins p way) word) (in_list f mark is_final type word init b way p is)
