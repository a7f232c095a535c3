-- Where the tokens of lexemes stand that are put one behind the other, and how long what changes
-- make of a text is.
use Rattle.std.proofs.Common.{◌≡◌, ℕ, suc, ◌+◌, ◌-◌, ◌≤◌, ◌<◌, List, [], ◌∷◌, ◌++◌, length, drop, Option, None, Some, refl, sym, ap, ◌∙◌, subst, arith}
use Rattle.std.specs.Prelude.{slice_range}
use Rattle.std.proofs.lemmas.Bool.{le-leb, lt-leb, cond-true, cond-false}
use Rattle.std.proofs.lemmas.List.{append_assoc, length-append, length-drop, length-take-le}
use Rattle.std.proofs.lemmas.List.Sums.{sum_by-cons}
use Rattle.jr_text.specs.declared.spans.Span.{Span}
use Rattle.jr_text.specs.Edits.{Entry}
use Rattle.jr_text.specs.Splices.{added, removed, those_before, moved_to}
use Rattle.jr_lex.specs.Lexes.{span_of}
use Rattle.jr_lex.specs.Beside.{Piece, join_pieces, items_from}
use Rattle.jr_grammar.specs.Tokens.{Token, with_placed, placed_of, kinds}
use Rattle.jr_grammar.specs.Stands.{Tokens}
use Rattle.jr_splice.specs.Cutting.{with_token, own_token, tokens_in}
use Rattle.jr_splice.proofs.Cut.{own_inside}
use Rattle.jr_rewrite.specs.Respellings.{Change}
use Rattle.jr_rewrite.specs.Edited.{entries_from, entries_of}
use Rattle.jr_rewrite.specs.Woven.{join_changes, Fit}
use Rattle.jr_moved_tokens.proofs.Runs.{EndBy}

-- ---- the tokens of lexemes, with their places

abbrev pub placed_from : ℕ → List Piece → Tokens
placed_from at [] = []
placed_from at (p ∷ ps) = with_placed (span_of at (at + length p.text)) (own_token p.kind p.text) (placed_from (at + length p.text) ps)

pub pieces_placed : (ps : List Piece) (pre : List ℕ) → placed_of (pre ++ join_pieces ps) (items_from (length pre) ps) ≡ placed_from (length pre) ps
pieces_placed [] pre = refl
pieces_placed (p ∷ ps) pre =
    let w : List ℕ = p.text in
    let post : List ℕ = join_pieces ps in
    let again : placed_of (pre ++ (w ++ post)) (items_from (length pre + length w) ps) ≡ placed_from (length pre + length w) ps =
    ap (λ b. placed_of b (items_from (length pre + length w) ps)) (sym (append_assoc pre w post))
    ∙ ap (λ n. placed_of ((pre ++ w) ++ post) (items_from n ps)) (sym (length-append pre w))
    ∙ pieces_placed ps (pre ++ w)
    ∙ ap (λ n. placed_from n ps) (length-append pre w) in
    λ i. with_placed (span_of (length pre) (length pre + length w)) (own_inside pre w post p.kind i) (again i)

with_more : (s : Span) (o : Option Token) (ps qs : Tokens) → with_placed s o (ps ++ qs) ≡ with_placed s o ps ++ qs
with_more s None ps qs = refl
with_more s (Some t) ps qs = refl

pub placed-append : (ps qs : List Piece) (at : ℕ) → placed_from at (ps ++ qs) ≡ placed_from at ps ++ placed_from (at + length (join_pieces ps)) qs
placed-append [] qs at = ap (λ n. placed_from n qs) (let e : at ≡ at + length (join_pieces []) = omega arith in e)
placed-append (p ∷ ps) qs at =
    let there : at + length p.text + length (join_pieces ps) ≡ at + length (p.text ++ join_pieces ps) = omega (arith, length-append p.text (join_pieces ps)) in
    ap (with_placed (span_of at (at + length p.text)) (own_token p.kind p.text)) (placed-append ps qs (at + length p.text) ∙ ap (λ n. placed_from (at + length p.text) ps ++ placed_from n qs) there)
    ∙ with_more (span_of at (at + length p.text)) (own_token p.kind p.text) (placed_from (at + length p.text) ps) (placed_from (at + length (p.text ++ join_pieces ps)) qs)

kinds_with : (s : Span) (o : Option Token) (ps : Tokens) → kinds (with_placed s o ps) ≡ with_token o (kinds ps)
kinds_with s None ps = refl
kinds_with s (Some t) ps = refl

pub kinds_placed : (ps : List Piece) (at : ℕ) → kinds (placed_from at ps) ≡ tokens_in ps
kinds_placed [] at = refl
kinds_placed (p ∷ ps) at = kinds_with (span_of at (at + length p.text)) (own_token p.kind p.text) (placed_from (at + length p.text) ps) ∙ ap (with_token (own_token p.kind p.text)) (kinds_placed ps (at + length p.text))

-- ---- how long a text is

-- the bytes that changes put in, and those that they take out
abbrev pub put_in : List Change → ℕ
put_in [] = 0
put_in (c ∷ cs) = length c.text + put_in cs

abbrev pub taken_out : List Change → ℕ
taken_out [] = 0
taken_out (c ∷ cs) = (c.span.to - c.span.from) + taken_out cs

pub put-append : (cs ds : List Change) → put_in (cs ++ ds) ≡ put_in cs + put_in ds
put-append [] ds = omega arith
put-append (c ∷ cs) ds = let more = put-append cs ds in omega arith

pub taken-append : (cs ds : List Change) → taken_out (cs ++ ds) ≡ taken_out cs + taken_out ds
taken-append [] ds = omega arith
taken-append (c ∷ cs) ds = let more = taken-append cs ds in omega arith

within : (at : ℕ) (bytes : List ℕ) (cs : List Change) → Fit at bytes cs → at ≤ length bytes
within at bytes [] h = h
within at bytes (c ∷ cs) h = let rest = within c.span.to bytes cs h.4 in omega (arith, h.0, h.1)

pub joined_length : (at : ℕ) (bytes : List ℕ) (cs : List Change) → Fit at bytes cs → length (join_changes at bytes cs) + taken_out cs + at ≡ length bytes + put_in cs
joined_length at bytes [] h = let long = length-drop at bytes in let in' : at ≤ length bytes = h in omega arith
joined_length at bytes (c ∷ cs) h =
    let rest = joined_length c.span.to bytes cs h.4 in
    let in' : c.span.to ≤ length bytes = within c.span.to bytes cs h.4 in
    let gap : List ℕ = slice_range bytes at c.span.from in
    let tail : List ℕ = join_changes c.span.to bytes cs in
    let begins : at ≤ c.span.from = h.0 in
    let ends : c.span.from ≤ c.span.to = h.1 in
    let left = length-drop at bytes in
    let short : c.span.from - at ≤ length (drop at bytes) = omega arith in
    let long : length gap ≡ c.span.from - at = length-take-le (c.span.from - at) (drop at bytes) short in
    let whole : length (gap ++ c.text ++ tail) ≡ length gap + length c.text + length tail = simp length-append in
    omega arith

-- ---- where a byte has moved to

early : (n : ℕ) (cs : List Change) → (added (entries_from n cs) ≡ put_in cs) × (removed (entries_from n cs) ≡ taken_out cs)
early n [] = (refl, refl)
early n (c ∷ cs) =
    let e : Entry = record { span = c.span; text = c.text; order = n } in
    let more = early (suc n) cs in
    let a = sum_by-cons (λ (x : Entry). length x.text) e (entries_from (suc n) cs) in
    let r = sum_by-cons (λ (x : Entry). x.span.to - x.span.from) e (entries_from (suc n) cs) in
    (a ∙ ap (λ k. length c.text + k) more.0, r ∙ ap (λ k. (c.span.to - c.span.from) + k) more.1)

-- none of the changes behind a place ends there or in front of it
none_late : (k at n : ℕ) (bytes : List ℕ) (cs : List Change) → k < at → Fit at bytes cs → those_before k (entries_from n cs) ≡ []
none_late k at n bytes [] l h = refl
none_late k at n bytes (c ∷ cs) l h =
    let e : Entry = record { span = c.span; text = c.text; order = n } in
    let es : List Entry = entries_from (suc n) cs in
    cond-false _ (e ∷ those_before k es) (those_before k es) (lt-leb c.span.to k (omega (arith, h.0, h.1))) ∙ none_late k c.span.to (suc n) bytes cs (omega (arith, h.0, h.1)) h.4

those_early : (k at n : ℕ) (bytes : List ℕ) (cs ds : List Change) → k < at → EndBy cs k → Fit at bytes ds → those_before k (entries_from n (cs ++ ds)) ≡ entries_from n cs
those_early k at n bytes [] ds l early h = none_late k at n bytes ds l h
those_early k at n bytes (c ∷ cs) ds l early h =
    let e : Entry = record { span = c.span; text = c.text; order = n } in
    let es : List Entry = entries_from (suc n) (cs ++ ds) in
    cond-true _ (e ∷ those_before k es) (those_before k es) (le-leb c.span.to k early.0) ∙ ap (λ xs. e ∷ xs) (those_early k at (suc n) bytes cs ds l early.1 h)

-- what stands behind some changes and in front of all others has moved by their growth
pub moved_behind : (k at new : ℕ) (bytes : List ℕ) (cs ds : List Change) → k < at → EndBy cs k → Fit at bytes ds → new + taken_out cs ≡ k + put_in cs → moved_to (entries_of (cs ++ ds)) k ≡ new
moved_behind k at new bytes cs ds l ends h grown =
    let those = those_early k at 0 bytes cs ds l ends h in
    let counts = early 0 cs in
    let a : added (those_before k (entries_of (cs ++ ds))) ≡ put_in cs = ap added those ∙ counts.0 in
    let r : removed (those_before k (entries_of (cs ++ ds))) ≡ taken_out cs = ap removed those ∙ counts.1 in
    omega arith
