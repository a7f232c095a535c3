-- A program has fewer members than numbers count: each has a token of its own, and a text has no more
-- tokens than bytes.
use Rattle.std.proofs.Common.{ℕ, suc, ◌*◌, ◌<◌, ◌≤◌, ◌^◌, List, [], ◌∷◌, ◌++◌, length, length-append, ap, ◌∙◌, arith}
use Rattle.std.specs.Prelude.{Option, Some, None, All}
use Rattle.std.proofs.lemmas.List.{length-map}
use Rattle.std.proofs.lemmas.List.Elements.{All-head, All-tail}
use Rattle.std.proofs.lemmas.Slice.Zip.{AllZip-long}
use Rattle.jr_text.specs.declared.spans.Span.{Span}
use Rattle.jr_text.specs.Texts.{text_limit}
use Rattle.jr_lex.specs.declared.items.Item.{Item}
use Rattle.jr_lex.specs.declared.items.Keyword.TheVariants as keywords
use Rattle.jr_lex.specs.declared.items.Symbol.TheVariants as symbols
use Rattle.jr_lex.specs.Places.{ItemsPlaced, LastPlaced}
use Rattle.jr_ast.specs.MemberTree as syntax
use Rattle.jr_ast.specs.MemberTree.{Unit as UnitTree}
use Rattle.jr_grammar.specs.MemberSpelling.{modifiers_toks, extends_toks, result_toks, package_toks, class_toks, member_toks, members_toks, classes_toks}
use Rattle.jr_grammar.specs.Spelling.{type_toks}
use Rattle.jr_grammar.specs.Tokens.{Token, word, keyword, symbol, with_placed, placed_of, token_of}
use Rattle.jr_members.specs.Parts.{class_parts, members_parts, member_parts, classes_parts, parts_from, units_parts}
use Rattle.jr_members.specs.WrittenMembers.{written_members}
use Rattle.jr_pexpr.proofs.Few.{few}
use Rattle.jr_program_laws.specs.FileParts.{begins}
use Rattle.jr_program.specs.Members.{IsEachBound}
use Rattle.jr_sources.specs.declared.analyses.Analysis.{Analysis}
use Rattle.jr_sources.specs.Analysed.{IsAnalysis}
use Rattle.jr_sources.specs.FirstFault.{AreRead}
use Rattle.jr_sources.specs.ReadingFaults.{ReadsAs}
use Rattle.jr_sources.specs.Sources.{Source, AreSources, texts_of}
use Rattle.jr_sources.proofs.Analysing.{written_few}

-- ---- tokens

behind : (xs ys : List Token) → length ys ≤ length (xs ++ ys)
behind xs ys = let e = length-append xs ys in omega (arith, e)

front : (xs ys : List Token) → length xs ≤ length (xs ++ ys)
front xs ys = let e = length-append xs ys in omega (arith, e)

-- a word behind others
some_behind : (xs ys : List Token) (t : Token) → 1 ≤ length (xs ++ t ∷ ys)
some_behind xs ys t = let e = behind xs (t ∷ ys) in omega (arith, e)

some_further : (xs ys zs : List Token) (t : Token) → 1 ≤ length (xs ++ (ys ++ t ∷ zs))
some_further xs ys zs t =
    let e = behind xs (ys ++ t ∷ zs) in
    let f = behind ys (t ∷ zs) in
    omega (arith, e, f)

class_room : (mods ext inside close : List Token) (k w brace : Token) → suc (length inside) ≤ length (mods ++ (k ∷ w ∷ (ext ++ (brace ∷ (inside ++ close)))))
class_room mods ext inside close k w brace =
    let p = behind mods (k ∷ w ∷ (ext ++ (brace ∷ (inside ++ close)))) in
    let q = behind ext (brace ∷ (inside ++ close)) in
    let r = front inside close in
    omega (arith, p, q, r)

mutual
  unfolding class_parts members_parts member_parts

  class_few : (file base : ℕ) (c : syntax.Class Span) → length (class_parts begins file base c) ≤ length (class_toks c)
  class_few file base (syntax.class m mods w t ms) =
      let h = members_few file (begins m base) ms in
      let r = class_room (modifiers_toks mods) (extends_toks t) (members_toks ms) (symbol symbols.CloseBrace ∷ []) (keyword keywords.Class) (word w.text) (symbol symbols.OpenBrace) in
      omega (arith, h, r)

  members_few : (file base : ℕ) (ms : syntax.Members Span) → length (members_parts begins file base ms) ≤ length (members_toks ms)
  members_few file base syntax.end = omega arith
  members_few file base (syntax.more x xs) =
      let g = member_few file base x in
      let h = members_few file base xs in
      let d = length-append (member_parts begins file base x) (members_parts begins file base xs) in
      let e = length-append (member_toks x) (members_toks xs) in
      omega (arith, g, h, d, e)

  member_few : (file base : ℕ) (x : syntax.Member Span) → length (member_parts begins file base x) ≤ length (member_toks x)
  member_few file base (syntax.field m mods t w init) = some_further (modifiers_toks mods) (type_toks t) _ _
  member_few file base (syntax.method m mods t w ps body) = some_further (modifiers_toks mods) (result_toks t) _ _
  member_few file base (syntax.constructor m mods w ps args body) = some_behind (modifiers_toks mods) _ _
  member_few file base (syntax.inner m c) = class_few file (begins m base) c

classes_few : (file base : ℕ) (cs : List (syntax.Class Span)) → length (classes_parts begins file base cs) ≤ length (classes_toks cs)
classes_few file base [] = omega arith
classes_few file base (c ∷ cs) =
    let g = class_few file base c in
    let h = classes_few file base cs in
    let d = length-append (class_parts begins file base c) (classes_parts begins file base cs) in
    let e = length-append (class_toks c) (classes_toks cs) in
    omega (arith, g, h, d, e)

-- ---- texts

placed_few : (bytes : List ℕ) (items : List Item) → length (placed_of bytes items) ≤ length items
placed_few bytes [] = omega arith
placed_few bytes (i ∷ is) = by (token_of bytes i.span i.kind) (placed_few bytes is)
  where
    by : (o : Option Token) → length (placed_of bytes is) ≤ length is → length (with_placed i.span o (placed_of bytes is)) ≤ suc (length is)
    by (Some t) h = omega (arith, h)
    by None h = omega (arith, h)

module _ (law : ItemsPlaced) (last : LastPlaced) where
  unit_few : (text : List ℕ) (u : UnitTree Span) (w file : ℕ) → ReadsAs text u w → length (classes_parts begins file (begins u.mark 0) u.classes) ≤ length text
  unit_few text u w file h =
      let g = classes_few file (begins u.mark 0) u.classes in
      let b = behind (package_toks u.package_name) (classes_toks u.classes) in
      let e = ap length h.is.spells ∙ length-map (placed_of text h.items) (λ p. p.token) in
      let p = placed_few text h.items in
      let f = few text h.items law last h.lexes in
      omega (arith, g, b, e, p, f)

  files_few : (ss : List Source) (us : List (UnitTree Span)) (ws : List ℕ) (file : ℕ) → AreRead ss us ws → All (λ (t : List ℕ). length t ≤ text_limit) (texts_of ss) → length (parts_from begins file us) ≤ length ss * 1048576
  files_few [] us ws file h all = let e = ap (λ (l : List (UnitTree Span)). length (parts_from begins file l)) h.0 in omega (arith, e)
  files_few (s ∷ ss) us ws file (u, vs, w, xs, eu, ew, r, rest) all =
      let e = ap (λ (l : List (UnitTree Span)). length (parts_from begins file l)) eu in
      let g = unit_few s.text u w file r in
      let t = All-head (λ (t : List ℕ). length t ≤ text_limit) s.text (texts_of ss) all in
      let h = files_few ss vs xs (suc file) rest (All-tail (λ (t : List ℕ). length t ≤ text_limit) s.text (texts_of ss) all) in
      let d = length-append (classes_parts begins file (begins u.mark 0) u.classes) (parts_from begins (suc file) vs) in
      omega (arith, e, g, t, h, d)

  program_few : (ss : List Source) (us : List (UnitTree Span)) (ws : List ℕ) → AreRead ss us ws → All (λ (t : List ℕ). length t ≤ text_limit) (texts_of ss) → length (units_parts begins us) ≤ length ss * 1048576
  unfolding units_parts
  program_few ss us ws read all = files_few ss us ws 0 read all

  pub bounds_few : (sources : List Source) (a : Analysis) (is : IsAnalysis sources a) → AreSources sources → All (λ (t : List ℕ). length t ≤ text_limit) (texts_of sources) → length a.members.items < 2 ^ 32
  bounds_few sources a is valid all =
      let e = AllZip-long (IsEachBound a.table is.tokens) (written_members begins a.table is.units) a.members.items is.each in
      let w = written_few a.table is.units in
      let n = program_few sources is.units is.words is.program.read all in
      let few : length sources ≤ 256 = valid.few in
      omega (arith, e, w, n, few)
