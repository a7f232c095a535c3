-- Which files changed, one file after another.
use Rattle.std.proofs.Common.{◌≡◌, ◌≢◌, ◌∙◌, ◌<◌, ◌≤◌, ◌+◌, ◌⊎◌, ℕ, zero, suc, refl, sym, ap, arith, subst, inl, inr, List, [], ◌∷◌, ◌++◌, length, drop, map, get_or, All, AllPairs, Option, None, Some, slice_get, append_assoc, drop_of_length-le, option_map, Vec, Bor}
use Rattle.std.proofs.lemmas.List.{append-nil, length-map}
use Rattle.std.proofs.lemmas.Bool.{cases_order}
use Rattle.std.proofs.lemmas.Option.{slice_get_within, get_or_from_slice_get, slice_get-get_or, slice_get-map, slice_get_read}
use Rattle.jr_sources.specs.Sources.{Source, IsFile, LacksFile, names_of}
use Rattle.jr_words.specs.declared.words.Operand as raw
use Rattle.jr_words.specs.Asked.{operand_of}
use Rattle.jr_words.specs.Words.{Operand, Differ}
use Rattle.jr_files.specs.Storing.{Store}
use Rattle.jr_top.specs.OutputView.{IsChangedText, text_of}
use Rattle.jr_top.specs.Scripts.{AreStores, sources_from, stored_name}

-- ---- places in lists

some_same : {A : Type 0} (a b : A) → Some a ≡ Some b → a ≡ b
some_same a b e = cc

pub drop_get : {A : Type 0} (xs : List A) (n : ℕ) (x : A) → slice_get xs n ≡ Some x → drop n xs ≡ x ∷ drop (suc n) xs
drop_get [] n x e = absurd cc
drop_get (y ∷ ys) zero x e = ap (λ z. z ∷ ys) (some_same y x e)
drop_get (y ∷ ys) (suc n) x e = drop_get ys n x e

get_map : {A B : Type 0} (f : A → B) (xs : List A) (n : ℕ) (x : A) → slice_get xs n ≡ Some x → slice_get (map f xs) n ≡ Some (f x)
get_map f [] n x e = absurd cc
get_map f (y ∷ ys) zero x e = ap (λ z. Some (f z)) (some_same y x e)
get_map f (y ∷ ys) (suc n) x e = get_map f ys n x e

pub sources_at : (operands : List Operand) (texts : List (List ℕ)) (n : ℕ) (o : Operand) (t : List ℕ) → slice_get operands n ≡ Some o → slice_get texts n ≡ Some t
    → slice_get (sources_from operands texts) n ≡ Some (record { name = o.text; text = t })
sources_at [] texts n o t p q = absurd cc
sources_at (x ∷ xs) [] n o t p q = absurd cc
sources_at (x ∷ xs) (y ∷ ys) zero o t p q = λ i. Some (record { name = (some_same x o p i).text; text = some_same y t q i })
sources_at (x ∷ xs) (y ∷ ys) (suc n) o t p q = sources_at xs ys n o t p q

-- the operand of a number names the file of that number
pub file_at : (files : List Source) (operands : List Operand) → names_of files ≡ map (λ (o : Operand). o.text) operands → Differ operands
    → (n number : ℕ) (o : Operand) (text : List ℕ) → slice_get operands n ≡ Some o → IsFile files number o.text text → slice_get files n ≡ Some (record { name = o.text; text = text })
file_at files operands names differ n number o text at stands = subst (λ k. slice_get files k ≡ Some (record { name = o.text; text = text })) same stands
  where
    here : slice_get (map (λ (p : Operand). p.text) operands) n ≡ Some o.text
    here = get_map (λ (p : Operand). p.text) operands n o at

    there : slice_get (map (λ (p : Operand). p.text) operands) number ≡ Some o.text
    there = subst (λ ns. slice_get ns number ≡ Some o.text) names (get_map (λ (s : Source). s.name) files number (record { name = o.text; text = text }) stands)

    apart : (i j : ℕ) → i < j → slice_get (map (λ (p : Operand). p.text) operands) i ≡ Some o.text → slice_get (map (λ (p : Operand). p.text) operands) j ≡ Some o.text → ⊥
    apart i j below p q = differ i j o.text below (slice_get_within (map (λ (p : Operand). p.text) operands) j o.text q)
        (get_or_from_slice_get (map (λ (p : Operand). p.text) operands) i o.text o.text p ∙ sym (get_or_from_slice_get (map (λ (p : Operand). p.text) operands) j o.text o.text q))

    same : number ≡ n
    same = elim (cases_order number n) [
      | inl e ↦ e
      | inr other ↦ elim other [ inl below ↦ absurd (apart number n below there here) | inr above ↦ absurd (apart n number above here there) ]
    ]

-- an operand's file is there
pub not_lacking : (files : List Source) (operands : List Operand) → names_of files ≡ map (λ (o : Operand). o.text) operands → (n : ℕ) (o : Operand) → slice_get operands n ≡ Some o → LacksFile files o.text → ⊥
not_lacking files operands names n o at lacks =
    let here : slice_get (names_of files) n ≡ Some o.text = subst (λ ns. slice_get ns n ≡ Some o.text) (sym names) (get_map (λ (p : Operand). p.text) operands n o at) in
    lacks n o.text (slice_get_within (names_of files) n o.text here) (get_or_from_slice_get (names_of files) n o.text o.text here)

-- ---- stores

-- what changed among the first n files, so that with what changed among the others it is all
abbrev pub StoresUpTo : Option (List ℕ) → List Source → List Source → ℕ → List Store → Type 0
StoresUpTo out olds news n stores = (rest : List Store) → AreStores out (drop n olds) (drop n news) rest → AreStores out olds news (stores ++ rest)

pub none_stored : (out : Option (List ℕ)) (olds news : List Source) → StoresUpTo out olds news 0 []
none_stored out olds news rest all = all

pub file_stays : (out : Option (List ℕ)) (olds news : List Source) (n : ℕ) (stores : List Store) (name text : List ℕ) → slice_get olds n ≡ Some (record { name = name; text = text })
    → slice_get news n ≡ Some (record { name = name; text = text }) → StoresUpTo out olds news n stores → StoresUpTo out olds news (suc n) stores
file_stays out olds news n stores name text was is so_far rest all =
    let old : Source = record { name = name; text = text } in
    let here : AreStores out (old ∷ drop (suc n) olds) (old ∷ drop (suc n) news) rest = inl (refl, all) in
    so_far rest (subst (λ ns. AreStores out (drop n olds) ns rest) (sym (drop_get news n old is)) (subst (λ os. AreStores out os (old ∷ drop (suc n) news) rest) (sym (drop_get olds n old was)) here))

pub file_changes : (out : Option (List ℕ)) (olds news : List Source) (n : ℕ) (stores : List Store) (name text new : List ℕ) → slice_get olds n ≡ Some (record { name = name; text = text })
    → slice_get news n ≡ Some (record { name = name; text = new }) → new ≢ text → StoresUpTo out olds news n stores
    → StoresUpTo out olds news (suc n) (stores ++ record { name = stored_name out name; text = new } ∷ [])
file_changes out olds news n stores name text new was is differs so_far rest all =
    let old : Source = record { name = name; text = text } in
    let now : Source = record { name = name; text = new } in
    let store : Store = record { name = stored_name out name; text = new } in
    let here : AreStores out (old ∷ drop (suc n) olds) (now ∷ drop (suc n) news) (store ∷ rest) = inr (differs, rest, refl, all) in
    subst (λ ss. AreStores out olds news ss) (sym (append_assoc stores (store ∷ []) rest))
    (so_far (store ∷ rest) (subst (λ ns. AreStores out (drop n olds) ns (store ∷ rest)) (sym (drop_get news n now is)) (subst (λ os. AreStores out os (now ∷ drop (suc n) news) (store ∷ rest)) (sym (drop_get olds n old was)) here)))

none_left : (out : Option (List ℕ)) (olds news : List Source) (n : ℕ) → length olds ≤ n → length news ≤ n → AreStores out (drop n olds) (drop n news) []
none_left out olds news n p q =
    let none : AreStores out [] [] [] = refl in
    subst (λ os. AreStores out os (drop n news) []) (sym (drop_of_length-le olds p)) (subst (λ ns. AreStores out [] ns []) (sym (drop_of_length-le news q)) none)

pub all_stored : (out : Option (List ℕ)) (olds news : List Source) (n : ℕ) (stores : List Store) → length olds ≤ n → length news ≤ n → StoresUpTo out olds news n stores → AreStores out olds news stores
all_stored out olds news n stores p q so_far = subst (λ ss. AreStores out olds news ss) (append-nil stores) (so_far [] (none_left out olds news n p q))

-- no more stores than files
pub few_stores : (out : Option (List ℕ)) (olds news : List Source) (stores : List Store) → AreStores out olds news stores → length stores ≤ length olds
few_stores out [] [] stores all = omega (arith, ap length all)
few_stores out [] (t ∷ ts) stores all = absurd all
few_stores out (s ∷ ss) [] stores all = absurd all
few_stores out (s ∷ ss) (t ∷ ts) stores (inl (same, all)) = let few = few_stores out ss ts stores all in omega (arith, few)
few_stores out (s ∷ ss) (t ∷ ts) stores (inr (differs, rest, is, all)) = let few = few_stores out ss ts rest all in let size = ap length is in omega (arith, few, size)

pub sources_length : (operands : List Operand) (texts : List (List ℕ)) → length texts ≡ length operands → length (sources_from operands texts) ≡ length operands
sources_length [] texts e = refl
sources_length (o ∷ os) [] e = absurd (omega (arith, e))
sources_length (o ∷ os) (t ∷ ts) e = let rest = sources_length os ts (omega (arith, e)) in omega (arith, rest)

pub sources_names : (operands : List Operand) (texts : List (List ℕ)) → length texts ≡ length operands → names_of (sources_from operands texts) ≡ map (λ (o : Operand). o.text) operands
sources_names [] texts e = refl
sources_names (o ∷ os) [] e = absurd (omega (arith, e))
sources_names (o ∷ os) (t ∷ ts) e = ap (λ ns. o.text ∷ ns) (sources_names os ts (omega (arith, e)))

-- ---- one file, as it is looked at

pub same_names : (files : List raw.Operand) → map text_of files ≡ map (λ (o : Operand). o.text) (map operand_of files)
same_names [] = refl
same_names (f ∷ fs) = ap (λ ns. f.text.now ∷ ns) (same_names fs)

operand_at : (files : List raw.Operand) (n : ℕ) (d : raw.Operand) → n < length files → slice_get (map operand_of files) n ≡ Some (operand_of (get_or files n d))
operand_at files n d below = slice_get-map operand_of files n ∙ ap (option_map operand_of) (slice_get-get_or files n d below)

default_none : (files : List Source) (file read : List ℕ) (r : Option (Bor (List ℕ))) → ((text : Bor (List ℕ)) → r ≡ Some text → ⊥) → IsChangedText files file read r → IsChangedText files file read None
default_none files file read None other is = is
default_none files file read (Some text) other is = absurd (other text refl)

module _ {Z : Type 0} where
  abbrev pub olds_of : List raw.Operand → List (Vec ℕ Z) → List Source
  olds_of files read = sources_from (map operand_of files) (map (λ b. b.items) read)

  old_at : (files : List raw.Operand) (read : List (Vec ℕ Z)) (n : ℕ) (d : raw.Operand) (bytes : Vec ℕ Z) → n < length files → length read ≡ length files → bytes ≡ get_or read n bytes
      → slice_get (olds_of files read) n ≡ Some (record { name = (get_or files n d).text.now; text = bytes.items })
  old_at files read n d bytes below same is =
      let in_read : n < length read = omega (arith, below, same) in
      sources_at (map operand_of files) (map (λ b. b.items) read) n (operand_of (get_or files n d)) bytes.items (operand_at files n d below)
      (slice_get-map (λ b. b.items) read n ∙ ap (option_map (λ b. b.items)) (slice_get_read read (length read) n bytes refl in_read is))

  pub unchanged_here : (out : Option (List ℕ)) (files : List raw.Operand) (read : List (Vec ℕ Z)) (news : List Source) (n : ℕ) (d : raw.Operand) (bytes : Vec ℕ Z) (now : List ℕ) (stores : List Store) (r : Option (Bor (List ℕ)))
      → n < length files → length read ≡ length files → bytes ≡ get_or read n bytes → Differ (map operand_of files) → names_of news ≡ map text_of files
      → now ≡ bytes.items → IsChangedText news (get_or files n d).text.now now r → ((text : Bor (List ℕ)) → r ≡ Some text → ⊥)
      → StoresUpTo out (olds_of files read) news n stores → StoresUpTo out (olds_of files read) news (n + 1) stores
  unchanged_here out files read news n d bytes now stores r below same is differ names value text none so_far =
      let o = operand_of (get_or files n d) in
      let names' = names ∙ same_names files in
      let here : slice_get news n ≡ Some (record { name = o.text; text = bytes.items }) = elim (subst (λ t. IsChangedText news o.text t None) value (default_none news o.text now r none text)) [
        | inl lacks ↦ absurd (not_lacking news (map operand_of files) names' n o (operand_at files n d below) lacks)
        | inr there ↦ file_at news (map operand_of files) names' differ n there.0 o bytes.items (operand_at files n d below) there.1
      ] in
      let next : suc n ≡ n + 1 = omega arith in
      subst (λ k. StoresUpTo out (olds_of files read) news k stores) next
      (file_stays out (olds_of files read) news n stores o.text bytes.items (old_at files read n d bytes below same is) here so_far)

  pub changed_here : (out : Option (List ℕ)) (files : List raw.Operand) (read : List (Vec ℕ Z)) (news : List Source) (n : ℕ) (d : raw.Operand) (bytes : Vec ℕ Z) (now : List ℕ) (stores stores' : List Store) (r : Option (Bor (List ℕ))) (text : Bor (List ℕ)) (store : Store)
      → n < length files → length read ≡ length files → bytes ≡ get_or read n bytes → Differ (map operand_of files) → names_of news ≡ map text_of files
      → now ≡ bytes.items → IsChangedText news (get_or files n d).text.now now r → r ≡ Some text
      → store.name ≡ stored_name out (get_or files n d).text.now → store.text ≡ text.now → stores' ≡ stores ++ store ∷ []
      → StoresUpTo out (olds_of files read) news n stores → StoresUpTo out (olds_of files read) news (n + 1) stores'
  changed_here out files read news n d bytes now stores stores' r text store below same is differ names value found some named given pushed so_far =
      let o = operand_of (get_or files n d) in
      let new : IsChangedText news o.text bytes.items (Some text) = subst (IsChangedText news o.text bytes.items) some (subst (λ t. IsChangedText news o.text t r) value found) in
      let names' = names ∙ same_names files in
      let here = file_at news (map operand_of files) names' differ n new.1.0 o text.now (operand_at files n d below) new.1.1 in
      let all : stores' ≡ stores ++ record { name = stored_name out o.text; text = text.now } ∷ [] = pushed ∙ (λ i. stores ++ record { name = named i; text = given i } ∷ []) in
      let next : suc n ≡ n + 1 = omega arith in
      subst (λ ss. StoresUpTo out (olds_of files read) news (n + 1) ss) (sym all) (subst (λ k. StoresUpTo out (olds_of files read) news k (stores ++ record { name = stored_name out o.text; text = text.now } ∷ [])) next
      (file_changes out (olds_of files read) news n stores o.text bytes.items text.now (old_at files read n d bytes below same is) here new.0 so_far))

  pub all_here : (out : Option (List ℕ)) (files : List raw.Operand) (read : List (Vec ℕ Z)) (news : List Source) (n : ℕ) (stores : List Store) → length files ≤ n → length read ≡ length files → names_of news ≡ map text_of files
      → StoresUpTo out (olds_of files read) news n stores → AreStores out (olds_of files read) news stores
  all_here out files read news n stores past same names so_far =
      let ops : length (map operand_of files) ≡ length files = length-map files operand_of in
      let texts : length (map (λ b. b.items) read) ≡ length read = length-map read (λ b. b.items) in
      let olds = sources_length (map operand_of files) (map (λ b. b.items) read) (texts ∙ same ∙ sym ops) in
      let news_names : length (names_of news) ≡ length news = length-map news (λ (s : Source). s.name) in
      let file_names : length (map text_of files) ≡ length files = length-map files text_of in
      let both = ap length names in
      all_stored out (olds_of files read) news n stores (omega (arith, past, olds, ops)) (omega (arith, past, news_names, both, file_names)) so_far
