-- Stores one behind the other.
use Rattle.std.proofs.Common.{◌≡◌, ◌∙◌, ◌<◌, ◌+◌, ℕ, zero, suc, ap, arith, refl, sym, subst, true, false, List, [], ◌∷◌, ◌++◌, drop, get_or, length, map, take, Option, Result, Ok, Err, OnOk, OnErr, is_err}
use Rattle.std.proofs.Math.Seq.{drop-cons}
use Rattle.std.proofs.lemmas.Bool.{false≢true}
use Rattle.std.proofs.lemmas.List.{length-map, map-append, take-append-drop, take_more}
use Rattle.jr_shelf.specs.Counts.{one_more, served_after}
use Rattle.jr_shelf.specs.Shelf.{Files, StoredInPart, with_file}
use Rattle.jr_files.specs.declared.stores.Store as raw
use Rattle.jr_files.specs.Storing.{Store, StoredUpTo, with_stores}
use Rattle.jr_files.specs.Views.{store_of}

-- one store more
pub one_store : (files : Option Files) (stores : List Store) (s : Store) → with_stores files (stores ++ s ∷ []) ≡ with_file (with_stores files stores) s.name s.text
one_store files [] s = refl
one_store files (t ∷ ts) s = one_store (with_file files t.name t.text) ts s

-- ---- by the answer

pub on_err : {T E : Type 0} (r : Result T E) (P : Type 0) → is_err r ≡ true → OnErr r P → P
on_err (Ok x) P e h = absurd (false≢true e)
on_err (Err x) P e h = h

pub on_ok : {T E : Type 0} (r : Result T E) (P : Type 0) → is_err r ≡ false → OnOk r P → P
on_ok (Ok x) P e h = h
on_ok (Err x) P e h = absurd (false≢true (sym e))

pub served_ok : {T E : Type 0} (r : Result T E) → is_err r ≡ false → (before : ℕ) → served_after r before ≡ one_more before
served_ok (Ok x) e before = refl
served_ok (Err x) e before = absurd (false≢true (sym e))

-- ---- stores as they are made

pub stored_more : (files so_far after : Option Files) (stores : List raw.Store) (n : ℕ) (item : raw.Store) → n < length stores → item ≡ get_or stores n item → so_far ≡ with_stores files (map store_of (take n stores))
    → after ≡ with_file so_far (store_of item).name (store_of item).text → after ≡ with_stores files (map store_of (take (n + 1) stores))
stored_more files so_far after stores n item below is held put =
    let all : map store_of (take (n + 1) stores) ≡ map store_of (take n stores) ++ store_of item ∷ [] =
    ap (map store_of) (take_more stores n item below) ∙ map-append store_of (take n stores) (get_or stores n item ∷ []) ∙ ap (λ s. map store_of (take n stores) ++ store_of s ∷ []) (sym is) in
    put ∙ ap (λ f. with_file f (store_of item).name (store_of item).text) held ∙ sym (one_store files (map store_of (take n stores)) (store_of item)) ∙ ap (with_stores files) (sym all)

taken : (k : ℕ) (ss : List raw.Store) → k < length ss → length (take k ss) ≡ k
taken zero ss within = refl
taken (suc k) [] within = absurd (omega (arith, within))
taken (suc k) (s ∷ ss) within = let rest = taken k ss (omega (arith, within)) in omega (arith, rest)

pub stored_part : (files so_far after : Option Files) (stores : List raw.Store) (n : ℕ) (item : raw.Store) → n < length stores → item ≡ get_or stores n item → so_far ≡ with_stores files (map store_of (take n stores))
    → StoredInPart so_far after (store_of item).name (store_of item).text → StoredUpTo files after (map store_of stores) n
stored_part files so_far after stores n item below is held part = record {
  front = map store_of (take n stores);
  next = store_of item;
  back = map store_of (drop (suc n) stores);
  split = ap (map store_of) (sym (take-append-drop n stores)) ∙ map-append store_of (take n stores) (drop n stores)
      ∙ ap (λ ss. map store_of (take n stores) ++ map store_of ss) (drop-cons stores n item below) ∙ ap (λ s. map store_of (take n stores) ++ store_of s ∷ map store_of (drop (suc n) stores)) (sym is);
  count = sym (length-map (take n stores) store_of ∙ taken n stores below);
  in_part = subst (λ f. StoredInPart f after (store_of item).name (store_of item).text) held part;
}
