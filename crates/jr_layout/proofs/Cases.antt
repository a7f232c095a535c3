-- Where bytes go in small texts, as theorems; what is expected was worked out from the rules by hand.
use Rattle.std.proofs.Common.{ℕ, List, [], ◌∷◌, ◌++◌, codes, refl, inl, inr}
use Rattle.jr_text.specs.declared.spans.Span.{Span}
use Rattle.jr_layout.specs.declared.lines.LineEnd.TheVariants.{Lf, Cr, CrLf}
use Rattle.jr_layout.specs.Lines.{IsLineEndOf, IsFirstOnLine}
use Rattle.jr_layout.specs.Layouts.{IsGap, IsClassEnd, IsRemoval, IsWithBlank}
use Rattle.jr_layout.proofs.Computing.{is_indent, no_indent, is_last, is_last_at_end, is_not_last, takes_lines, takes_own_front, takes_own_back, is_first_end, has_no_end, is_new_line, is_with_blank}

abbrev lf : List ℕ
lf = 10 ∷ []

abbrev cr : List ℕ
cr = 13 ∷ []

abbrev crlf : List ℕ
crlf = 13 ∷ 10 ∷ []

abbrev tab : List ℕ
tab = 9 ∷ []

abbrev span : ℕ → ℕ → Span
span from to = record { from = from; to = to }

-- tabs and CR LF: the bytes of the second statement are 9 and 10, its line's are 8 to 12, the brace is byte 13
abbrev tabbed : List ℕ
tabbed = (codes "{") ++ crlf ++ tab ++ (codes "a;") ++ crlf ++ tab ++ (codes "b;") ++ crlf ++ (codes "}")

tabbed_end : IsLineEndOf tabbed CrLf
tabbed_end = is_first_end tabbed 1 CrLf refl refl

tabbed_removal : IsRemoval tabbed (span 9 11) (span 8 13)
tabbed_removal = takes_lines tabbed (span 9 11) (span 8 13) (is_indent tabbed 8 9 refl refl refl) (is_last tabbed 11 11 CrLf refl refl refl)

tabbed_gap : IsGap tabbed 9 (13 ∷ 10 ∷ 9 ∷ [])
tabbed_gap = inl (is_new_line tabbed 8 9 CrLf tabbed_end (is_indent tabbed 8 9 refl refl refl))

tabbed_class_end : IsClassEnd tabbed 13 (codes "m") ((codes "    m") ++ crlf)
tabbed_class_end = inl (crlf, is_new_line tabbed 13 13 CrLf tabbed_end (is_indent tabbed 13 13 refl refl refl), refl)

-- all on one line, without a line end
abbrev flat : List ℕ
flat = codes "{a; b;}"

flat_end : IsLineEndOf flat Lf
flat_end = has_no_end flat refl

flat_gap : IsGap flat 1 (codes " ")
flat_gap = inr (no_indent flat 1 1 refl refl refl refl, refl)

flat_gap_behind_space : IsGap flat 4 (codes " ")
flat_gap_behind_space = inr (no_indent flat 3 4 refl refl refl refl, refl)

flat_removal : IsRemoval flat (span 1 3) (span 1 3)
flat_removal = takes_own_front flat (span 1 3) (no_indent flat 1 1 refl refl refl refl)

flat_class_end : IsClassEnd flat 6 (codes "m") (codes " m ")
flat_class_end = inr (no_indent flat 6 6 refl refl refl refl, refl)

-- two statements on one line: each goes alone, both take the line
abbrev pair : List ℕ
pair = (codes "a; b;") ++ lf

pair_first : IsRemoval pair (span 0 2) (span 0 2)
pair_first = takes_own_back pair (span 0 2) (is_not_last pair 2 3 refl refl refl refl refl)

pair_second : IsRemoval pair (span 3 5) (span 3 5)
pair_second = takes_own_front pair (span 3 5) (no_indent pair 2 3 refl refl refl refl)

pair_both : IsRemoval pair (span 0 5) (span 0 6)
pair_both = takes_lines pair (span 0 5) (span 0 6) (is_indent pair 0 0 refl refl refl) (is_last pair 5 5 Lf refl refl refl)

-- a comment behind, a comment in front
abbrev comment_behind : List ℕ
comment_behind = (codes "  a; // c") ++ lf

comment_behind_stays : IsRemoval comment_behind (span 2 4) (span 2 4)
comment_behind_stays = takes_own_back comment_behind (span 2 4) (is_not_last comment_behind 4 5 refl refl refl refl refl)

abbrev comment_in_front : List ℕ
comment_in_front = (codes "/* */ a;") ++ lf

comment_in_front_stays : IsRemoval comment_in_front (span 6 8) (span 6 8)
comment_in_front_stays = takes_own_front comment_in_front (span 6 8) (no_indent comment_in_front 5 6 refl refl refl refl)

comment_in_front_gap : IsGap comment_in_front 6 (codes " ")
comment_in_front_gap = inr (no_indent comment_in_front 5 6 refl refl refl refl, refl)

-- a CR alone, spaces and tabs behind the first statement, and a last line without a line end
abbrev bare : List ℕ
bare = (codes "a; ") ++ tab ++ cr ++ (codes " b;")

bare_end : IsLineEndOf bare Cr
bare_end = is_first_end bare 4 Cr refl refl

bare_first : IsRemoval bare (span 0 2) (span 0 5)
bare_first = takes_lines bare (span 0 2) (span 0 5) (is_indent bare 0 0 refl refl refl) (is_last bare 2 4 Cr refl refl refl)

bare_last : IsRemoval bare (span 6 8) (span 5 8)
bare_last = takes_lines bare (span 6 8) (span 5 8) (is_indent bare 5 6 refl refl refl) (is_last_at_end bare 8 refl refl)

bare_gap : IsGap bare 6 (13 ∷ 32 ∷ [])
bare_gap = inl (is_new_line bare 5 6 Cr bare_end (is_indent bare 5 6 refl refl refl))

-- over two lines
abbrev broken : List ℕ
broken = (codes "a(") ++ lf ++ (codes " b);") ++ lf

broken_removal : IsRemoval broken (span 0 7) (span 0 8)
broken_removal = takes_lines broken (span 0 7) (span 0 8) (is_indent broken 0 0 refl refl refl) (is_last broken 7 7 Lf refl refl refl)

-- a form feed is no indent
abbrev fed : List ℕ
fed = 12 ∷ (codes "a;") ++ lf

fed_removal : IsRemoval fed (span 1 3) (span 1 3)
fed_removal = takes_own_front fed (span 1 3) (no_indent fed 1 1 refl refl refl refl)

-- between a CR and its LF no line begins
split_line_end : ¬ IsFirstOnLine (crlf ++ (codes "a")) 1
split_line_end = no_indent (crlf ++ (codes "a")) 1 1 refl refl refl refl

-- the empty text
empty_end : IsLineEndOf [] Lf
empty_end = has_no_end [] refl

empty_gap : IsGap [] 0 lf
empty_gap = inl (is_new_line [] 0 0 Lf empty_end (is_indent [] 0 0 refl refl refl))

empty_removal : IsRemoval [] (span 0 0) (span 0 0)
empty_removal = takes_lines [] (span 0 0) (span 0 0) (is_indent [] 0 0 refl refl refl) (is_last_at_end [] 0 refl refl)

-- a modifier with the blank behind it, over a line end; a comment directly behind it; the text's end
abbrev modified : List ℕ
modified = (codes "final ") ++ tab ++ crlf ++ (codes " int")

modified_blank : IsWithBlank modified (span 0 5) (span 0 10)
modified_blank = is_with_blank modified 0 5 10 refl refl refl

remarked_blank : IsWithBlank (codes "a/**/ b") (span 0 1) (span 0 1)
remarked_blank = is_with_blank (codes "a/**/ b") 0 1 1 refl refl refl

final_blank : IsWithBlank (codes "a ") (span 0 1) (span 0 2)
final_blank = is_with_blank (codes "a ") 0 1 2 refl refl refl
