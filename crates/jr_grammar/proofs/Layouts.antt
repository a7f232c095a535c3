-- Layouts over tokens: what stands spells the tokens, and stands there in one way.
use Rattle.std.proofs.Common.{◌≡◌, ℕ, zero, suc, List, [], ◌∷◌, ◌++◌, length, take, drop, refl, sym, ap, ◌∙◌}
use Rattle.std.proofs.lemmas.List.{map-append, length-map, take-append-drop}
use Rattle.std.proofs.Math.Seq.{take-append_seam, drop-append_seam}
use Rattle.jr_text.specs.declared.spans.Span.{Span}
use Rattle.jr_grammar.specs.Tokens.{Token, Placed, kinds}
use Rattle.jr_grammar.specs.Layout.{Layout, token, node, row, Layouts, done, ◌then◌, laid, all_laid, itself, spans_from, all_spans_from}
use Rattle.jr_grammar.specs.Bare.{no_mark}
use Rattle.jr_grammar.specs.MarksAreOne.{TellsApart}
use Rattle.jr_grammar.specs.Stands.{Tokens, span_of, IsAlone, Stands, StandInOrder}

-- ---- other marks

abbrev mutual
  pub map_layout : {A B : Type 0} (h : A → B) → Layout A → Layout B
  map_layout h (token t) = token t
  map_layout h (node m parts) = node (h m) (map_layouts h parts)
  map_layout h (row parts) = row (map_layouts h parts)

  pub map_layouts : {A B : Type 0} (h : A → B) → Layouts A → Layouts B
  map_layouts h done = done
  map_layouts h (x then xs) = map_layout h x then map_layouts h xs

mutual
  pub laid-map : {A B : Type 0} (h : A → B) (x : Layout A) → laid (map_layout h x) ≡ laid x
  laid-map h (token t) = refl
  laid-map h (node m parts) = all_laid-map h parts
  laid-map h (row parts) = all_laid-map h parts

  pub all_laid-map : {A B : Type 0} (h : A → B) (xs : Layouts A) → all_laid (map_layouts h xs) ≡ all_laid xs
  all_laid-map h done = refl
  all_laid-map h (x then xs) = λ i. laid-map h x i ++ all_laid-map h xs i

-- ---- what stands spells the tokens

both : (a b : Tokens) (x y : List Token) → kinds a ≡ x → kinds b ≡ y → kinds (a ++ b) ≡ x ++ y
both a b x y p q = map-append (λ (p : Placed Span). p.token) a b ∙ (λ i. p i ++ q i)

mutual
  pub stands_laid : (x : Layout Span) (ps : Tokens) → Stands x ps → kinds ps ≡ laid x
  stands_laid (token t) ps h = ap kinds h.alone ∙ (λ i. h.is i ∷ [])
  stands_laid (node m parts) ps h = stand_laid parts ps h.parts
  stands_laid (row parts) ps h = stand_laid parts ps h

  pub stand_laid : (xs : Layouts Span) (ps : Tokens) → StandInOrder xs ps → kinds ps ≡ all_laid xs
  stand_laid done ps h = ap kinds h
  stand_laid (x then xs) ps h = ap kinds h.whole ∙ both h.front h.back _ _ (stands_laid x h.front h.first) (stand_laid xs h.back h.rest)

-- ---- the one way in which it stands

-- how many tokens
abbrev pub size : {A : Type 0} → Layout A → ℕ
size x = length (laid x)

-- its tokens, where others stand behind them, and those others
abbrev pub front : {A : Type 0} → Layout A → Tokens → Tokens
front x ps = take (size x) ps

abbrev pub back : {A : Type 0} → Layout A → Tokens → Tokens
back x ps = drop (size x) ps

abbrev mutual
  -- with the marks that it has over the tokens
  pub lay : {A : Type 0} → Layout A → Tokens → Layout Span
  lay (token t) ps = token t
  lay (node m parts) ps = node (span_of ps) (lay_all parts ps)
  lay (row parts) ps = row (lay_all parts ps)

  pub lay_all : {A : Type 0} → Layouts A → Tokens → Layouts Span
  lay_all done ps = done
  lay_all (x then xs) ps = lay x (front x ps) then lay_all xs (back x ps)

mutual
  pub lay-map : {A B : Type 0} (h : A → B) (x : Layout A) (ps : Tokens) → lay (map_layout h x) ps ≡ lay x ps
  lay-map h (token t) ps = refl
  lay-map h (node m parts) ps = λ i. node (span_of ps) (lay_all-map h parts ps i)
  lay-map h (row parts) ps = λ i. row (lay_all-map h parts ps i)

  pub lay_all-map : {A B : Type 0} (h : A → B) (xs : Layouts A) (ps : Tokens) → lay_all (map_layouts h xs) ps ≡ lay_all xs ps
  lay_all-map h done ps = refl
  lay_all-map h (x then xs) ps = λ i. lay-map h x (take (length (laid-map h x i)) ps) i then lay_all-map h xs (drop (length (laid-map h x i)) ps) i

-- as many tokens as the part has
as_many : (x : Layout Span) (ps : Tokens) → Stands x ps → size x ≡ length ps
as_many x ps h = ap length (sym (stands_laid x ps h)) ∙ length-map ps (λ (p : Placed Span). p.token)

front_is : (n : ℕ) (ps front back : Tokens) → n ≡ length front → ps ≡ front ++ back → take n ps ≡ front
front_is n ps front back e w = (λ i. take (e i) (w i)) ∙ take-append_seam front back

back_is : (n : ℕ) (ps front back : Tokens) → n ≡ length front → ps ≡ front ++ back → drop n ps ≡ back
back_is n ps front back e w = (λ i. drop (e i) (w i)) ∙ drop-append_seam front back

mutual
  pub stands_so : (x : Layout Span) (ps : Tokens) → Stands x ps → lay x ps ≡ x
  stands_so (token t) ps h = refl
  stands_so (node m parts) ps h = let e = sym h.mark in λ i. node (e i) (stand_so parts ps h.parts i)
  stands_so (row parts) ps h = λ i. row (stand_so parts ps h i)

  pub stand_so : (xs : Layouts Span) (ps : Tokens) → StandInOrder xs ps → lay_all xs ps ≡ xs
  stand_so done ps h = refl
  stand_so (x then xs) ps h =
      let n = as_many x h.front h.first in
      let a = front_is (size x) ps h.front h.back n h.whole in
      let b = back_is (size x) ps h.front h.back n h.whole in
      (λ i. lay x (a i) then lay_all xs (b i)) ∙ (λ i. stands_so x h.front h.first i then stand_so xs h.back h.rest i)

-- ---- it stands there

kinds-take : (n : ℕ) (ps : Tokens) → kinds (take n ps) ≡ take n (kinds ps)
kinds-take zero ps = refl
kinds-take (suc n) [] = refl
kinds-take (suc n) (p ∷ ps) = λ i. p.token ∷ kinds-take n ps i

kinds-drop : (n : ℕ) (ps : Tokens) → kinds (drop n ps) ≡ drop n (kinds ps)
kinds-drop zero ps = refl
kinds-drop (suc n) [] = refl
kinds-drop (suc n) (p ∷ ps) = kinds-drop n ps

alone : (t : Token) (ps : Tokens) → kinds ps ≡ t ∷ [] → IsAlone t ps
alone t [] e = absurd cc
alone t (p ∷ []) e = record { placed = p; alone = refl; is = cc }
alone t (p ∷ q ∷ ps) e = absurd cc

nothing : (ps : Tokens) → kinds ps ≡ [] → ps ≡ []
nothing [] e = refl
nothing (p ∷ ps) e = absurd cc

mutual
  pub lay_stands : {A : Type 0} (x : Layout A) (ps : Tokens) → kinds ps ≡ laid x → Stands (lay x ps) ps
  lay_stands (token t) ps e = alone t ps e
  lay_stands (node m parts) ps e = record { mark = refl; parts = lay_stand parts ps e }
  lay_stands (row parts) ps e = lay_stand parts ps e

  pub lay_stand : {A : Type 0} (xs : Layouts A) (ps : Tokens) → kinds ps ≡ all_laid xs → StandInOrder (lay_all xs ps) ps
  lay_stand done ps e = nothing ps e
  lay_stand (x then xs) ps e =
      record {
        front = take (size x) ps;
        back = drop (size x) ps;
        whole = sym (take-append-drop (size x) ps);
        first = lay_stands x (take (size x) ps) (kinds-take (size x) ps ∙ ap (take (size x)) e ∙ take-append_seam (laid x) (all_laid xs));
        rest = lay_stand xs (drop (size x) ps) (kinds-drop (size x) ps ∙ ap (drop (size x)) e ∙ drop-append_seam (laid x) (all_laid xs));
      }

-- ---- marks that are spans tell themselves

mutual
  pub spans_from-span : (base : ℕ) (x : Layout Span) → spans_from itself base x ≡ x
  spans_from-span base (token t) = refl
  spans_from-span base (node m parts) = λ i. node m (all_spans_from-span m.from parts i)
  spans_from-span base (row parts) = λ i. row (all_spans_from-span base parts i)

  pub all_spans_from-span : (base : ℕ) (xs : Layouts Span) → all_spans_from itself base xs ≡ xs
  all_spans_from-span base done = refl
  all_spans_from-span base (x then xs) = λ i. spans_from-span base x i then all_spans_from-span base xs i

-- ---- marks and parts of a layout

-- `d` where there is none
abbrev pub mark_of : {A : Type 0} → A → Layout A → A
mark_of d (token t) = d
mark_of d (node m parts) = m
mark_of d (row parts) = d

abbrev pub parts_of : {A : Type 0} → Layout A → Layouts A
parts_of (token t) = done
parts_of (node m parts) = parts
parts_of (row parts) = parts

abbrev behind : {A : Type 0} → Layouts A → Layouts A
behind done = done
behind (x then xs) = xs

abbrev pub part0 : {A : Type 0} → Layouts A → Layout A
part0 done = row done
part0 (x then xs) = x

abbrev pub part1 : {A : Type 0} → Layouts A → Layout A
part1 xs = part0 (behind xs)

abbrev pub part2 : {A : Type 0} → Layouts A → Layout A
part2 xs = part1 (behind xs)

abbrev pub part3 : {A : Type 0} → Layouts A → Layout A
part3 xs = part2 (behind xs)

abbrev pub part4 : {A : Type 0} → Layouts A → Layout A
part4 xs = part3 (behind xs)

abbrev pub part5 : {A : Type 0} → Layouts A → Layout A
part5 xs = part4 (behind xs)

abbrev pub part6 : {A : Type 0} → Layouts A → Layout A
part6 xs = part5 (behind xs)

abbrev pub part7 : {A : Type 0} → Layouts A → Layout A
part7 xs = part6 (behind xs)

-- ---- marks that tell their spans apart

mutual
  pub spans_from-map : {A : Type 0} (tells : A → ℕ → Span) (base : ℕ) (x : Layout A) → map_layout no_mark (spans_from tells base x) ≡ map_layout no_mark x
  spans_from-map tells base (token t) = refl
  spans_from-map tells base (node m parts) = λ i. node tt (all_spans_from-map tells (tells m base).from parts i)
  spans_from-map tells base (row parts) = λ i. row (all_spans_from-map tells base parts i)

  pub all_spans_from-map : {A : Type 0} (tells : A → ℕ → Span) (base : ℕ) (xs : Layouts A) → map_layouts no_mark (all_spans_from tells base xs) ≡ map_layouts no_mark xs
  all_spans_from-map tells base done = refl
  all_spans_from-map tells base (x then xs) = λ i. spans_from-map tells base x i then all_spans_from-map tells base xs i

module _ {A : Type 0} (tells : A → ℕ → Span) (apart : TellsApart tells) where
  mutual
    pub told_apart : (base : ℕ) (x y : Layout A) → map_layout no_mark x ≡ map_layout no_mark y → spans_from tells base x ≡ spans_from tells base y → x ≡ y
    told_apart base (token t) (token u) e s = let q : t ≡ u = cc in λ i. token (q i)
    told_apart base (node m xs) (node n ys) e s =
        let q : map_layouts no_mark xs ≡ map_layouts no_mark ys = cc in
        let told : tells m base ≡ tells n base = cc in
        let parts : all_spans_from tells (tells m base).from xs ≡ all_spans_from tells (tells n base).from ys = cc in
        let k : m ≡ n = apart m n base told in
        let more = all_told_apart (tells m base).from xs ys q (parts ∙ (λ i. all_spans_from tells (sym told i).from ys)) in
        λ i. node (k i) (more i)
    told_apart base (row xs) (row ys) e s =
        let q : map_layouts no_mark xs ≡ map_layouts no_mark ys = cc in
        let parts : all_spans_from tells base xs ≡ all_spans_from tells base ys = cc in
        λ i. row (all_told_apart base xs ys q parts i)
    told_apart base (token t) (node n ys) e s = absurd cc
    told_apart base (token t) (row ys) e s = absurd cc
    told_apart base (node m xs) (token u) e s = absurd cc
    told_apart base (node m xs) (row ys) e s = absurd cc
    told_apart base (row xs) (token u) e s = absurd cc
    told_apart base (row xs) (node n ys) e s = absurd cc

    pub all_told_apart : (base : ℕ) (xs ys : Layouts A) → map_layouts no_mark xs ≡ map_layouts no_mark ys → all_spans_from tells base xs ≡ all_spans_from tells base ys → xs ≡ ys
    all_told_apart base done done e s = refl
    all_told_apart base (x then xs) (y then ys) e s =
        let p : map_layout no_mark x ≡ map_layout no_mark y = cc in
        let q : map_layouts no_mark xs ≡ map_layouts no_mark ys = cc in
        let first : spans_from tells base x ≡ spans_from tells base y = cc in
        let more : all_spans_from tells base xs ≡ all_spans_from tells base ys = cc in
        λ i. told_apart base x y p first i then all_told_apart base xs ys q more i
    all_told_apart base done (y then ys) e s = absurd cc
    all_told_apart base (x then xs) done e s = absurd cc
