-- What a changed text leaves of the sources, and what a further file adds.
use Rattle.std.proofs.Common.{◌≡◌, ◌≢◌, ℕ, zero, suc, ◌+◌, ◌<◌, ◌≤◌, List, [], ◌∷◌, ◌++◌, map, length, get_or, set, take, refl, sym, ap, subst, ◌∙◌, arith}
use Rattle.std.specs.List.{slice_get, sum_by, All, AllPairs}
use Rattle.std.specs.Prelude.{Some, None, option_map}
use Rattle.std.proofs.lemmas.List.{map-append}
use Rattle.std.proofs.lemmas.List.Quantifiers.{all_pairs_push}
use Rattle.std.proofs.lemmas.Option.{none-some, slice_get_within, get_or_from_slice_get}
use Rattle.jr_sources.specs.Sources.{HaveSameName, HasName, Source, names_of, texts_of, total_of, file_limit, IsFile, LacksFile, Differ, with_text, AreSources}

pub names-with_text : (ss : List Source) (i : ℕ) (t : List ℕ) → names_of (with_text ss i t) ≡ names_of ss
names-with_text [] i t = refl
names-with_text (s ∷ ss) zero t = refl
names-with_text (s ∷ ss) (suc i) t = ap (λ (ns : List (List ℕ)). s.name ∷ ns) (names-with_text ss i t)

pub texts-with_text : (ss : List Source) (i : ℕ) (t : List ℕ) → texts_of (with_text ss i t) ≡ set (texts_of ss) i t
texts-with_text [] i t = refl
texts-with_text (s ∷ ss) zero t = refl
texts-with_text (s ∷ ss) (suc i) t = ap (λ (ts : List (List ℕ)). s.text ∷ ts) (texts-with_text ss i t)

pub length-with_text : (ss : List Source) (i : ℕ) (t : List ℕ) → length (with_text ss i t) ≡ length ss
length-with_text [] i t = refl
length-with_text (s ∷ ss) zero t = refl
length-with_text (s ∷ ss) (suc i) t = ap suc (length-with_text ss i t)

pub keeps-with_text : (ss : List Source) (i : ℕ) (t : List ℕ) → AreSources ss → AreSources (with_text ss i t)
keeps-with_text ss i t h = record {
  few = subst (λ (n : ℕ). n ≤ file_limit) (sym (length-with_text ss i t)) h.few;
  differ = subst (λ (ns : List (List ℕ)). AllPairs (λ (a b : List ℕ). a ≢ b) ns) (sym (names-with_text ss i t)) h.differ;
}

-- the sources with a file behind the others
names-pushed : (ss : List Source) (s : Source) → names_of (ss ++ s ∷ []) ≡ names_of ss ++ s.name ∷ []
names-pushed [] s = refl
names-pushed (x ∷ xs) s = ap (λ (ns : List (List ℕ)). x.name ∷ ns) (names-pushed xs s)

length-names : (ss : List Source) → length (names_of ss) ≡ length ss
length-names [] = refl
length-names (x ∷ xs) = ap suc (length-names xs)

pub length-texts : (ss : List Source) → length (texts_of ss) ≡ length ss
length-texts [] = refl
length-texts (x ∷ xs) = ap suc (length-texts xs)

length-pushed : (ss : List Source) (s : Source) → length (ss ++ s ∷ []) ≡ length ss + 1
length-pushed [] s = refl
length-pushed (x ∷ xs) s = ap suc (length-pushed xs s) ∙ omega arith

pub keeps-pushed : (ss : List Source) (s : Source) → length ss < file_limit → LacksFile ss s.name → AreSources ss → AreSources (ss ++ s ∷ [])
keeps-pushed ss s room lacks h = record {
  few = let e = length-pushed ss s in omega arith;
  differ = subst (λ (ns : List (List ℕ)). AllPairs (λ (a b : List ℕ). a ≢ b) ns) (sym (names-pushed ss s)) (all_pairs_push (λ (a b : List ℕ). a ≢ b) (names_of ss) s.name h.differ lacks);
}

-- a file whose name an earlier one has, where those before it have names of their own
named_before : (ys zs : List Source) (i : ℕ) (name : List ℕ) → i < length ys → HasName (ys ++ zs) i name → HasName ys i name
named_before [] zs i name l h = absurd (omega arith)
named_before (y ∷ ys) zs zero name l h = h
named_before (y ∷ ys) zs (suc i) name l h = named_before ys zs i name (omega arith) h

named_still : (ys zs : List Source) (i : ℕ) (name : List ℕ) → HasName ys i name → HasName (ys ++ zs) i name
named_still [] zs i name h = absurd (none-some name h)
named_still (y ∷ ys) zs zero name h = h
named_still (y ∷ ys) zs (suc i) name h = named_still ys zs i name h

named_behind : (ys zs : List Source) (s : Source) → HasName (ys ++ s ∷ zs) (length ys) s.name
named_behind [] zs s = refl
named_behind (y ∷ ys) zs s = named_behind ys zs s

named_within : (ys : List Source) (i : ℕ) (name : List ℕ) → HasName ys i name → i < length ys
named_within ys i name h = let a = slice_get_within (names_of ys) i name h in let b = length-names ys in omega arith

pub same_name : (ys zs : List Source) (s : Source) (first : ℕ) → Differ ys → HasName ys first s.name → HaveSameName (ys ++ s ∷ zs) first (length ys)
same_name ys zs s first differ h = record {
  name = s.name;
  one = named_still ys (s ∷ zs) first s.name h;
  other = named_behind ys zs s;
  before = named_within ys first s.name h;
  earliest = λ i j a b p q x y e.
      let x' = named_before ys (s ∷ zs) i a (omega arith) x in
      let y' = named_before ys (s ∷ zs) j b q y in
      let n = length-names ys in
      differ i j a p (omega arith)
      (get_or_from_slice_get (names_of ys) i a a x' ∙ e ∙ sym (get_or_from_slice_get (names_of ys) j b a y'));
}
