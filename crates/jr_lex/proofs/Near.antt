-- What stands at a place stays what it is, whatever comes behind the character that follows it, but
-- for a dot.
use Rattle.std.proofs.Common.{◌≡◌, ℕ, ◌+◌, ◌==◌, Bool, true, false, ◌&&◌, ◌||◌, cond, List, [], ◌∷◌, ◌++◌, length, Option, Some, None, Ok, Err, refl, sym, ap, ◌∙◌, inl, inr, subst, arith}
use Rattle.std.specs.Prelude.{nat_lt}
use Rattle.std.proofs.lemmas.Bool.{cases_Bool, or_parts, and_parts, eqb-true, cond-true, cond-false, false≢true}
use Rattle.std.proofs.lemmas.List.{append_assoc, append_cancel_right, append-nil, length-append}
use Rattle.jr_lex.specs.declared.items.ItemKind.{ItemKind}
use Rattle.jr_lex.specs.declared.items.ItemKind.TheVariants as item
use Rattle.jr_lex.specs.declared.items.TokenKind.TheVariants as token
use Rattle.jr_lex.specs.declared.items.Symbol.{Symbol}
use Rattle.jr_lex.specs.declared.items.Symbol.TheVariants as symbol
use Rattle.jr_lex.specs.declared.faults.LexFault.{LexFault}
use Rattle.jr_lex.specs.Characters.{is_blank, is_digit, is_word_part, all_pass, first_passes}
use Rattle.jr_lex.specs.Numbers.{number_of}
use Rattle.jr_lex.specs.Scan.{scan, Scanned, front_of, rest_after, spoils, is_not_line_end, number_at, scanned_word, word_kind, string_at, string_behind, string_rest, string_wrong, escape_or, line_comment_at, line_escape, block_comment_at, block_behind, block_rest, block_escape, extended, grown, marked, two_dots, dots, scanned_dot, slash_at, backslash_at}
use Rattle.jr_lex.proofs.RunLaws.{front_of-rest_after, all_pass-front_of, first_passes-rest_after, rest_after-append, front_of-append, rest_after-none, front_of-none, length-rest_after}
use Rattle.jr_lex.proofs.StringLaws.{string_rest-append, string-ended}
use Rattle.jr_lex.proofs.CommentLaws.{escape_in, with_rest, line_escape-append, block_escape-append, block_rest-ends, block_rest-append}
use Rattle.jr_lex.proofs.SymbolLaws.{grown-grew, two_dots-parts}
use Rattle.jr_lex.proofs.FirstLaws.{First, first_of, scan-blank, scan-digit, scan-quote, scan-dot, scan-slash, scan-backslash, scan-symbol, scan-word, scan-bad}
use Rattle.jr_lex.proofs.EndLaws.{no_wrong}
use Rattle.jr_lex.proofs.ScanLaws.{Taken, kind_same, rest_same, same_ok}
use Rattle.jr_lex.specs.Near.{Near, NoNewDot, EndsLine}

-- ---- what is seen of what follows

near_dot : (rest other : List ℕ) → Near rest other → NoNewDot rest other
near_dot [] [] h e = e
near_dot [] (d ∷ ds) h e = absurd h
near_dot (c ∷ cs) [] h e = absurd h
near_dot (c ∷ cs) (d ∷ ds) h e = ap (λ n. n == 46) h.0 ∙ e

pub near_append : (front rest other : List ℕ) → Near rest other → Near (front ++ rest) (front ++ other)
near_append [] rest other h = h
near_append (c ∷ []) rest other h = (refl, λ _. near_dot rest other h)
near_append (c ∷ d ∷ cs) rest other h = (refl, λ _ e. e)

-- a test that a character fails in whose place the same stands
halts : (p : ℕ → Bool) → (rest other : List ℕ) → Near rest other → first_passes p rest ≡ false → first_passes p other ≡ false
halts p [] [] h e = refl
halts p [] (d ∷ ds) h e = absurd h
halts p (c ∷ cs) [] h e = absurd h
halts p (c ∷ cs) (d ∷ ds) h e = ap p (sym h.0) ∙ e

-- ---- runs

-- a run that ends where the rest begins
record Run (p : ℕ → Bool) (tail rest : List ℕ) : Type 0 where
  all : all_pass p tail ≡ true
  stops : first_passes p rest ≡ false

run_of : (p : ℕ → Bool) (tail rest : List ℕ) → rest_after p (tail ++ rest) ≡ rest → Run p tail rest
run_of p tail rest e =
    let whole : front_of p (tail ++ rest) ++ rest ≡ tail ++ rest = ap (λ r. front_of p (tail ++ rest) ++ r) (sym e) ∙ front_of-rest_after p (tail ++ rest) in
    let front : front_of p (tail ++ rest) ≡ tail = append_cancel_right (front_of p (tail ++ rest)) tail rest whole in
    record {
      all = subst (λ xs. all_pass p xs ≡ true) front (all_pass-front_of p (tail ++ rest));
      stops = subst (λ xs. first_passes p xs ≡ false) e (first_passes-rest_after p (tail ++ rest));
    }

run_rest : (p : ℕ → Bool) (tail rest : List ℕ) → Run p tail rest → rest_after p (tail ++ rest) ≡ rest
run_rest p tail rest run = rest_after-append p tail rest run.all ∙ rest_after-none p rest run.stops

run_front : (p : ℕ → Bool) (tail rest : List ℕ) → Run p tail rest → front_of p (tail ++ rest) ≡ tail
run_front p tail rest run = front_of-append p tail rest run.all ∙ ap (λ xs. tail ++ xs) (front_of-none p rest run.stops) ∙ append-nil tail

run_on : (p : ℕ → Bool) → (tail rest other : List ℕ) → Near rest other → Run p tail rest → Run p tail other
run_on p tail rest other h run = record { all = run.all; stops = halts p rest other h run.stops }

-- ---- what Ok says

err_ok : (f : LexFault) (x : Taken) → (let a : Scanned = Err f in let b : Scanned = Ok x in a ≡ b) → ⊥
err_ok f x e = cc

-- a test that leads to a fault has not passed
unspoilt : (b : Bool) (f : LexFault) (t : Scanned) (x : Taken) → cond b (Err f) t ≡ Ok x → (b ≡ false) × (t ≡ Ok x)
unspoilt true f t x e = absurd (err_ok f x e)
unspoilt false f t x e = (refl, e)

no_escape : (at : ℕ) (whole : List ℕ) (found : Option (List ℕ)) (t : Scanned) (x : Taken) → escape_or at whole found t ≡ Ok x → (found ≡ None) × (t ≡ Ok x)
no_escape at whole (Some w) t x e = absurd (err_ok _ x e)
no_escape at whole None t x e = (refl, e)

-- ---- blanks, words and numbers

blank_local : (k : ItemKind) (tail rest other : List ℕ) → Near rest other → (let a : Scanned = Ok (item.Blank, rest_after is_blank (tail ++ rest)) in a ≡ Ok (k, rest))
    → (let a : Scanned = Ok (item.Blank, rest_after is_blank (tail ++ other)) in a ≡ Ok (k, other))
blank_local k tail rest other h e =
    let run = run_of is_blank tail rest (rest_same _ _ _ _ e) in
    same_ok _ _ _ _ (kind_same _ _ _ _ e) (run_rest is_blank tail other (run_on is_blank tail rest other h run))

word_local : (c : ℕ) (k : ItemKind) (tail rest other : List ℕ) → Near rest other → scanned_word c (tail ++ rest) ≡ Ok (k, rest) → scanned_word c (tail ++ other) ≡ Ok (k, other)
word_local c k tail rest other h e =
    let run = run_of is_word_part tail rest (rest_same _ _ _ _ e) in
    let there = run_on is_word_part tail rest other h run in
    let fronts : front_of is_word_part (tail ++ other) ≡ front_of is_word_part (tail ++ rest) = run_front is_word_part tail other there ∙ sym (run_front is_word_part tail rest run) in
    same_ok _ _ _ _ (ap (λ xs. item.Token (word_kind (c ∷ xs))) fronts ∙ kind_same _ _ _ _ e) (run_rest is_word_part tail other there)

-- a word that is taken ends where the rest begins, and so does a number
pub word_run : (c : ℕ) (k : ItemKind) (tail rest : List ℕ) → scanned_word c (tail ++ rest) ≡ Ok (k, rest) → first_passes is_word_part rest ≡ false
word_run c k tail rest e = (run_of is_word_part tail rest (rest_same _ _ _ _ e)).stops

first_digit : (tail rest other : List ℕ) → first_passes is_digit rest ≡ false → first_passes is_digit other ≡ false → first_passes is_digit (tail ++ other) ≡ first_passes is_digit (tail ++ rest)
first_digit [] rest other h g = g ∙ sym h
first_digit (c ∷ tail) rest other h g = refl

abbrev is_spoilt : ℕ → Bool → Bool → List ℕ → Bool
is_spoilt d go_on stuck front = ((d == 48) && go_on) || stuck || nat_lt 2147483648 (number_of (d ∷ front))

spoilt_same : (d : ℕ) (a b x y : Bool) (f g : List ℕ) → a ≡ b → x ≡ y → f ≡ g → is_spoilt d a x f ≡ is_spoilt d b y g
spoilt_same d a b x y f g e h k = ap (λ z. is_spoilt d z x f) e ∙ ap (λ z. is_spoilt d b z f) h ∙ ap (λ z. is_spoilt d b y z) k

pub number_run : (at d : ℕ) (k : ItemKind) (tail rest : List ℕ) → number_at at d (tail ++ rest) ≡ Ok (k, rest) → first_passes spoils rest ≡ false
number_run at d k tail rest e =
    let parts = unspoilt (is_spoilt d (first_passes is_digit (tail ++ rest)) (first_passes spoils (rest_after is_digit (tail ++ rest))) (front_of is_digit (tail ++ rest))) _ _ (k, rest) e in
    let run = run_of is_digit tail rest (rest_same _ _ _ _ parts.1) in
    let here : rest_after is_digit (tail ++ rest) ≡ rest = run_rest is_digit tail rest run in
    let whole = or_parts (((d == 48) && first_passes is_digit (tail ++ rest)) || first_passes spoils (rest_after is_digit (tail ++ rest))) (nat_lt 2147483648 (number_of (d ∷ front_of is_digit (tail ++ rest)))) parts.0 in
    ap (first_passes spoils) (sym here) ∙ (or_parts ((d == 48) && first_passes is_digit (tail ++ rest)) (first_passes spoils (rest_after is_digit (tail ++ rest))) whole.0).1

number_local : (at d : ℕ) (k : ItemKind) (tail rest other : List ℕ) → Near rest other → number_at at d (tail ++ rest) ≡ Ok (k, rest) → number_at at d (tail ++ other) ≡ Ok (k, other)
number_local at d k tail rest other h e =
    let parts = unspoilt (is_spoilt d (first_passes is_digit (tail ++ rest)) (first_passes spoils (rest_after is_digit (tail ++ rest))) (front_of is_digit (tail ++ rest))) _ _ (k, rest) e in
    let run = run_of is_digit tail rest (rest_same _ _ _ _ parts.1) in
    let there = run_on is_digit tail rest other h run in
    let fronts : front_of is_digit (tail ++ other) ≡ front_of is_digit (tail ++ rest) = run_front is_digit tail other there ∙ sym (run_front is_digit tail rest run) in
    let rests : rest_after is_digit (tail ++ other) ≡ other = run_rest is_digit tail other there in
    let here : rest_after is_digit (tail ++ rest) ≡ rest = run_rest is_digit tail rest run in
    let stuck : first_passes spoils (rest_after is_digit (tail ++ rest)) ≡ false = ap (first_passes spoils) here ∙ number_run at d k tail rest e in
    let free : first_passes spoils (rest_after is_digit (tail ++ other)) ≡ false =
    ap (first_passes spoils) rests ∙ halts spoils rest other h (ap (first_passes spoils) (sym here) ∙ stuck) in
    let test : is_spoilt d (first_passes is_digit (tail ++ other)) (first_passes spoils (rest_after is_digit (tail ++ other))) (front_of is_digit (tail ++ other)) ≡ false =
    spoilt_same d _ _ _ _ _ _ (first_digit tail rest other run.stops there.stops) (free ∙ sym stuck) fronts ∙ parts.0 in
    cond-false _ _ _ test ∙ same_ok _ _ _ _ (ap (λ xs. item.Token (token.Int (number_of (d ∷ xs)))) fronts ∙ kind_same _ _ _ _ parts.1) rests

-- ---- strings

none_some : {X : Type 0} (x : X) → (let none : Option X = None in none ≡ Some x) → ⊥
none_some x e = cc

closed_local : (at : ℕ) (k : ItemKind) (tail rest other : List ℕ) (found : Option (List ℕ)) → string_rest (tail ++ rest) ≡ found
    → string_behind at (tail ++ rest) found ≡ Ok (k, rest) → string_at at (tail ++ other) ≡ Ok (k, other)
closed_local at k tail rest other None e scanned = absurd (err_ok _ _ scanned)
closed_local at k tail rest other (Some left) e scanned =
    let parts = no_escape (at + 1) (tail ++ rest) (string_wrong (tail ++ rest)) (Ok (item.Token token.Text, left)) (k, rest) scanned in
    let left_same : left ≡ rest = rest_same _ _ _ _ parts.1 in
    let ended = string-ended (tail ++ rest) left e in
    let content : List ℕ = ended.content in
    let quoted : tail ++ rest ≡ (content ++ 34 ∷ []) ++ rest =
    ended.closes.parts ∙ ap (λ r. content ++ 34 ∷ r) left_same ∙ sym (append_assoc content (34 ∷ []) rest) in
    let tails : tail ≡ content ++ 34 ∷ [] = append_cancel_right tail (content ++ 34 ∷ []) rest quoted in
    let text : tail ++ other ≡ content ++ 34 ∷ other = ap (λ xs. xs ++ other) tails ∙ append_assoc content (34 ∷ []) other in
    let closes : string_rest (tail ++ other) ≡ Some other = ap string_rest text ∙ string_rest-append content other ended.closes.taken in
    let right : string_wrong (tail ++ other) ≡ None = ap string_wrong text ∙ no_wrong content other (ended.right parts.0) in
    rw (closes, right) (same_ok _ _ _ _ (kind_same _ _ _ _ parts.1) refl)

string_local : (at : ℕ) (k : ItemKind) (tail rest other : List ℕ) → string_at at (tail ++ rest) ≡ Ok (k, rest) → string_at at (tail ++ other) ≡ Ok (k, other)
string_local at k tail rest other e = closed_local at k tail rest other (string_rest (tail ++ rest)) refl e

-- ---- comments

with_rest-none : (rest : List ℕ) (found : Option (List ℕ)) → with_rest rest found ≡ None → found ≡ None
with_rest-none rest None e = refl
with_rest-none rest (Some w) e = absurd (none_some _ (sym e))

pub line_local : (at : ℕ) (k : ItemKind) (tail rest other : List ℕ) → EndsLine k rest other → line_comment_at at (tail ++ rest) ≡ Ok (k, rest) → line_comment_at at (tail ++ other) ≡ Ok (k, other)
line_local at k tail rest other line e =
    let parts = no_escape (at + 2) (tail ++ rest) (line_escape false (tail ++ rest)) (Ok (item.Comment, rest_after is_not_line_end (tail ++ rest))) (k, rest) e in
    let run = run_of is_not_line_end tail rest (rest_same _ _ _ _ parts.1) in
    let there : Run is_not_line_end tail other = record { all = run.all; stops = line (sym (kind_same _ _ _ _ parts.1)) run.stops } in
    let none : escape_in false tail ≡ None = with_rest-none rest (escape_in false tail) (sym (line_escape-append false tail rest run.all run.stops) ∙ parts.0) in
    let none_on : line_escape false (tail ++ other) ≡ None = line_escape-append false tail other there.all there.stops ∙ ap (with_rest other) none in
    rw none_on (same_ok _ _ _ _ (kind_same _ _ _ _ parts.1) (run_rest is_not_line_end tail other there))

ended_local : (at : ℕ) (k : ItemKind) (tail rest other : List ℕ) (found : Option (List ℕ)) → block_rest (tail ++ rest) ≡ found
    → block_behind at (tail ++ rest) found ≡ Ok (k, rest) → block_comment_at at (tail ++ other) ≡ Ok (k, other)
ended_local at k tail rest other None e scanned = absurd (err_ok _ _ scanned)
ended_local at k tail rest other (Some left) e scanned =
    let parts = no_escape (at + 2) (tail ++ rest) (block_escape false (tail ++ rest)) (Ok (item.Comment, left)) (k, rest) scanned in
    let left_same : left ≡ rest = rest_same _ _ _ _ parts.1 in
    let ends = block_rest-ends (tail ++ rest) left e in
    let body : List ℕ = ends.body in
    let closed : List ℕ = body ++ 42 ∷ 47 ∷ [] in
    let whole : tail ++ rest ≡ closed ++ rest = ends.parts ∙ ap (λ r. body ++ 42 ∷ 47 ∷ r) left_same ∙ sym (append_assoc body (42 ∷ 47 ∷ []) rest) in
    let tails : tail ≡ closed = append_cancel_right tail closed rest whole in
    let text : tail ++ other ≡ closed ++ other = ap (λ xs. xs ++ other) tails in
    let none : escape_in false closed ≡ None =
    with_rest-none rest (escape_in false closed) (sym (block_escape-append false body rest ends.first_close) ∙ ap (block_escape false) (sym whole) ∙ parts.0) in
    let none_on : block_escape false (tail ++ other) ≡ None = ap (block_escape false) text ∙ block_escape-append false body other ends.first_close ∙ ap (with_rest other) none in
    let ends_on : block_rest (tail ++ other) ≡ Some other = ap block_rest (text ∙ append_assoc body (42 ∷ 47 ∷ []) other) ∙ block_rest-append body other ends.first_close in
    rw (ends_on, none_on) (same_ok _ _ _ _ (kind_same _ _ _ _ parts.1) refl)

pub block_local : (at : ℕ) (k : ItemKind) (tail rest other : List ℕ) → block_comment_at at (tail ++ rest) ≡ Ok (k, rest) → block_comment_at at (tail ++ other) ≡ Ok (k, other)
block_local at k tail rest other e = ended_local at k tail rest other (block_rest (tail ++ rest)) refl e

-- ---- symbols

-- what a symbol doesn't go on with
stopped : (s : Symbol) (rest : List ℕ) → length (grown s rest).1 ≡ length rest → grown s rest ≡ (s, rest)
stopped s [] e = refl
stopped s (c ∷ cs) e = go (extended s c) refl
  where
    go : (found : Option Symbol) → extended s c ≡ found → grown s (c ∷ cs) ≡ (s, c ∷ cs)
    go None same = rw same refl
    go (Some t) same = absurd (omega (arith, (rw same at e), (grown-grew t cs).shorter))

stopped_there : (s : Symbol) (rest other : List ℕ) → Near rest other → grown s rest ≡ (s, rest) → grown s other ≡ (s, other)
stopped_there s [] [] alike e = refl
stopped_there s [] (d ∷ ds) alike e = absurd alike
stopped_there s (c ∷ cs) [] alike e = absurd alike
stopped_there s (c ∷ cs) (d ∷ ds) alike e =
    go (extended s c) refl alike.0
  where
    go : (found : Option Symbol) → extended s c ≡ found → c ≡ d → grown s (d ∷ ds) ≡ (s, d ∷ ds)
    go None none same = rw (ap (extended s) (sym same) ∙ none) refl
    go (Some t) some same = absurd (omega (arith, (grown-grew t cs).shorter, ap (λ (g : Symbol × List ℕ). length g.1) (rw some at e)))

abbrev Growth : Type 0
Growth = Symbol × List ℕ

growth_same : (x y : Growth) → x.0 ≡ y.0 → x.1 ≡ y.1 → x ≡ y
growth_same x y e f = subst (λ k. (let z : Growth = (k, y.1) in x ≡ z)) e (subst (λ r. (let z : Growth = (x.0, r) in x ≡ z)) f refl)

grown_local : (s g : Symbol) (tail rest other : List ℕ) → Near rest other → grown s (tail ++ rest) ≡ (g, rest) → grown s (tail ++ other) ≡ (g, other)
grown_local s g [] rest other alike e =
    let here = stopped s rest (ap (λ (x : Growth). length x.1) e) in
    stopped_there s rest other alike here ∙ growth_same (s, other) (g, other) (ap (λ (x : Growth). x.0) (sym here ∙ e)) refl
grown_local s g (c ∷ tail) rest other alike e = go (extended s c) refl (λ t h. grown_local t g tail rest other alike h)
  where
    go : (found : Option Symbol) → extended s c ≡ found → ((t : Symbol) → grown t (tail ++ rest) ≡ (g, rest) → grown t (tail ++ other) ≡ (g, other))
        → grown s (c ∷ (tail ++ other)) ≡ (g, other)
    go None same again = (let stuck : (let x : Growth = (s, c ∷ (tail ++ rest)) in x ≡ (g, rest)) = rw same at e in
        absurd (omega (arith, ap (λ (x : Growth). length x.1) stuck, length-append tail rest)))
    go (Some t) same again = rw same (again t (rw same at e))

mark_local : (s : Symbol) (k : ItemKind) (tail rest other : List ℕ) → Near rest other → marked (grown s (tail ++ rest)) ≡ Ok (k, rest) → marked (grown s (tail ++ other)) ≡ Ok (k, other)
mark_local s k tail rest other alike e =
    let left : (grown s (tail ++ rest)).1 ≡ rest = rest_same _ _ _ _ e in
    let whole : grown s (tail ++ rest) ≡ ((grown s (tail ++ rest)).0, rest) = growth_same (grown s (tail ++ rest)) ((grown s (tail ++ rest)).0, rest) refl left in
    ap marked (grown_local s (grown s (tail ++ rest)).0 tail rest other alike whole) ∙ same_ok _ _ _ _ (kind_same _ _ _ _ e) refl

pub line_too_short : (at c : ℕ) (cs : List ℕ) (k : ItemKind) → line_comment_at at cs ≡ Ok (k, c ∷ cs) → ⊥
line_too_short at c cs k e =
    let parts = no_escape (at + 2) cs (line_escape false cs) (Ok (item.Comment, rest_after is_not_line_end cs)) (k, c ∷ cs) e in
    absurd (omega (arith, ap length (rest_same _ _ _ _ parts.1), length-rest_after is_not_line_end cs))

pub block_too_short : (at c : ℕ) (cs : List ℕ) (k : ItemKind) (found : Option (List ℕ)) → block_rest cs ≡ found → block_behind at cs found ≡ Ok (k, c ∷ cs) → ⊥
block_too_short at c cs k None e scanned = err_ok _ _ scanned
block_too_short at c cs k (Some left) e scanned =
    let parts = no_escape (at + 2) cs (block_escape false cs) (Ok (item.Comment, left)) (k, c ∷ cs) scanned in
    let ends = block_rest-ends cs left e in
    absurd (omega (arith, ap length (rest_same _ _ _ _ parts.1), ap length ends.parts, length-append ends.body (42 ∷ 47 ∷ left)))

pub slash_symbol : (at d : ℕ) (ds : List ℕ) → (d == 47) ≡ false → (d == 42) ≡ false → slash_at at (d ∷ ds) ≡ marked (grown symbol.Slash (d ∷ ds))
slash_symbol at d ds no_slash no_star = cond-false (d == 47) _ _ no_slash ∙ cond-false (d == 42) _ _ no_star

slash_alone : (at : ℕ) (k : ItemKind) (rest other : List ℕ) → Near rest other → slash_at at rest ≡ Ok (k, rest) → slash_at at other ≡ Ok (k, other)
slash_alone at k [] [] alike e = e
slash_alone at k [] (d ∷ ds) alike e = absurd alike
slash_alone at k (c ∷ cs) [] alike e = absurd alike
slash_alone at k (c ∷ cs) (d ∷ ds) alike e =
    elim (cases_Bool (c == 47)) [
      | inl slash ↦ absurd (line_too_short at c cs k (sym (cond-true (c == 47) _ _ slash) ∙ e))
      | inr no_slash ↦ elim (cases_Bool (c == 42)) [
        | inl star ↦ absurd (block_too_short at c cs k (block_rest cs) refl (sym (cond-true (c == 42) _ _ star) ∙ (sym (cond-false (c == 47) _ _ no_slash) ∙ e)))
        | inr no_star ↦
            (let here : marked (grown symbol.Slash (c ∷ cs)) ≡ Ok (k, c ∷ cs) = sym (slash_symbol at c cs no_slash no_star) ∙ e in
            let there : marked (grown symbol.Slash (d ∷ ds)) ≡ Ok (k, d ∷ ds) = mark_local symbol.Slash k [] (c ∷ cs) (d ∷ ds) alike here in
            slash_symbol at d ds (subst (λ n. (n == 47) ≡ false) alike.0 no_slash) (subst (λ n. (n == 42) ≡ false) alike.0 no_star) ∙ there)
      ]
    ]

slash_local : (at : ℕ) (k : ItemKind) (tail rest other : List ℕ) → Near rest other → EndsLine k rest other → slash_at at (tail ++ rest) ≡ Ok (k, rest) → slash_at at (tail ++ other) ≡ Ok (k, other)
slash_local at k [] rest other alike line e = slash_alone at k rest other alike e
slash_local at k (c ∷ tail) rest other alike line e =
    elim (cases_Bool (c == 47)) [
      | inl slash ↦ cond-true (c == 47) _ _ slash ∙ line_local at k tail rest other line (sym (cond-true (c == 47) _ _ slash) ∙ e)
      | inr no_slash ↦ elim (cases_Bool (c == 42)) [
        | inl star ↦ cond-false (c == 47) _ _ no_slash ∙ (cond-true (c == 42) _ _ star
            ∙ block_local at k tail rest other (sym (cond-true (c == 42) _ _ star) ∙ (sym (cond-false (c == 47) _ _ no_slash) ∙ e)))
        | inr no_star ↦ slash_symbol at c (tail ++ other) no_slash no_star
            ∙ mark_local symbol.Slash k (c ∷ tail) rest other alike (sym (slash_symbol at c (tail ++ rest) no_slash no_star) ∙ e)
      ]
    ]

-- ---- dots

and_both : (a b : Bool) → a ≡ true → b ≡ true → (a && b) ≡ true
and_both true b e f = f
and_both false b e f = absurd (false≢true e)

two_dots-there : (rest other : List ℕ) → Near rest other → two_dots rest ≡ None → two_dots other ≡ None
two_dots-there [] [] alike e = refl
two_dots-there [] (d ∷ ds) alike e = absurd alike
two_dots-there (c ∷ cs) [] alike e = absurd alike
two_dots-there (c ∷ cs) (d ∷ []) alike e = refl
two_dots-there (c ∷ cs) (d ∷ y ∷ ys) alike e =
    elim (cases_Bool ((d == 46) && (y == 46))) [
      | inr other ↦ cond-false _ _ _ other
      | inl both ↦
          (let parts = and_parts (d == 46) (y == 46) both in
          let first : (c == 46) ≡ true = ap (λ n. n == 46) alike.0 ∙ parts.0 in
          absurd (two cs first (alike.1 (eqb-true c 46 first) parts.1) e))
    ]
  where
    two : (cs : List ℕ) → (c == 46) ≡ true → first_passes (λ x. x == 46) cs ≡ true → two_dots (c ∷ cs) ≡ None → ⊥
    two [] first second e = false≢true second
    two (x ∷ xs) first second e = none_some xs (sym e ∙ cond-true _ _ _ (and_both (c == 46) (x == 46) first second))

nothing_before : (tail rest : List ℕ) → tail ++ rest ≡ rest → tail ≡ []
nothing_before tail rest e = append_cancel_right tail [] rest e

dots_local : (at : ℕ) (k : ItemKind) (tail rest other : List ℕ) (found : Option (List ℕ)) → Near rest other → two_dots (tail ++ rest) ≡ found
    → dots (tail ++ rest) found ≡ Ok (k, rest) → dots (tail ++ other) (two_dots (tail ++ other)) ≡ Ok (k, other)
dots_local at k tail rest other None alike e scanned =
    let none : tail ≡ [] = nothing_before tail rest (rest_same _ _ _ _ scanned) in
    let here : two_dots rest ≡ None = ap (λ xs. two_dots (xs ++ rest)) (sym none) ∙ e in
    let there : two_dots (tail ++ other) ≡ None = ap (λ xs. two_dots (xs ++ other)) none ∙ two_dots-there rest other alike here in
    rw there (same_ok _ _ _ _ (kind_same _ _ _ _ scanned) (ap (λ xs. xs ++ other) none))
dots_local at k tail rest other (Some left) alike e scanned =
    let parts : tail ++ rest ≡ (46 ∷ 46 ∷ []) ++ rest = two_dots-parts (tail ++ rest) left e ∙ ap (λ r. 46 ∷ 46 ∷ r) (rest_same _ _ _ _ scanned) in
    let tails : tail ≡ 46 ∷ 46 ∷ [] = append_cancel_right tail (46 ∷ 46 ∷ []) rest parts in
    let there : two_dots (tail ++ other) ≡ Some other = ap (λ xs. two_dots (xs ++ other)) tails in
    rw there (same_ok _ _ _ _ (kind_same _ _ _ _ scanned) refl)

dot_local : (at : ℕ) (k : ItemKind) (tail rest other : List ℕ) → Near rest other → scanned_dot at (tail ++ rest) ≡ Ok (k, rest) → scanned_dot at (tail ++ other) ≡ Ok (k, other)
dot_local at k tail rest other alike e =
    let parts = unspoilt (first_passes is_digit (tail ++ rest)) _ _ (k, rest) e in
    cond-false _ _ _ (halts is_digit (tail ++ rest) (tail ++ other) (near_append tail rest other alike) parts.0) ∙ dots_local at k tail rest other (two_dots (tail ++ rest)) alike refl parts.1

-- ---- all

backslash_never : (at : ℕ) (cs : List ℕ) (x : Taken) → backslash_at at cs ≡ Ok x → ⊥
backslash_never at cs x e =
    elim (cases_Bool (first_passes (λ d. d == 117) cs)) [ inl u ↦ err_ok _ x (sym (cond-true _ _ _ u) ∙ e) | inr no_u ↦ err_ok _ x (sym (cond-false _ _ _ no_u) ∙ e) ]

-- What is taken is taken in front of any text that may take the place of what followed.
pub scan_there : (at c : ℕ) (k : ItemKind) (tail rest other : List ℕ) → Near rest other → EndsLine k rest other → scan at c (tail ++ rest) ≡ Ok (k, rest) → scan at c (tail ++ other) ≡ Ok (k, other)
scan_there at c k tail rest other alike line e =
    elim (first_of c) [
      | First.blank is ↦ scan-blank at c _ is ∙ blank_local k tail rest other alike (sym (scan-blank at c _ is) ∙ e)
      | First.digit is ↦ scan-digit at c _ is ∙ number_local at c k tail rest other alike (sym (scan-digit at c _ is) ∙ e)
      | First.quote is ↦ subst (λ x. scan at x (tail ++ other) ≡ Ok (k, other)) (sym is)
          (scan-quote at _ ∙ string_local at k tail rest other (sym (scan-quote at _) ∙ (ap (λ x. scan at x (tail ++ rest)) (sym is) ∙ e)))
      | First.dot is ↦ subst (λ x. scan at x (tail ++ other) ≡ Ok (k, other)) (sym is)
          (scan-dot at _ ∙ dot_local at k tail rest other alike (sym (scan-dot at _) ∙ (ap (λ x. scan at x (tail ++ rest)) (sym is) ∙ e)))
      | First.slash is ↦ subst (λ x. scan at x (tail ++ other) ≡ Ok (k, other)) (sym is)
          (scan-slash at _ ∙ slash_local at k tail rest other alike line (sym (scan-slash at _) ∙ (ap (λ x. scan at x (tail ++ rest)) (sym is) ∙ e)))
      | First.backslash is ↦ absurd (backslash_never at (tail ++ rest) (k, rest) (sym (scan-backslash at _) ∙ (ap (λ x. scan at x (tail ++ rest)) (sym is) ∙ e)))
      | First.mark s is ↦ scan-symbol at c _ s is ∙ mark_local s k tail rest other alike (sym (scan-symbol at c _ s is) ∙ e)
      | First.word is ↦ scan-word at c _ is ∙ word_local c k tail rest other alike (sym (scan-word at c _ is) ∙ e)
      | First.bad is ↦ absurd (err_ok _ (k, rest) (sym (scan-bad at c _ is) ∙ e))
    ]
