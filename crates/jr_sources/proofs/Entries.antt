-- What the entries of a map say of the sources that they stand for.
use Rattle.std.proofs.Common.{◌≡◌, ◌≢◌, ℕ, zero, suc, ◌+◌, ◌<◌, ◌≤◌, List, [], ◌∷◌, ◌++◌, map, length, get_or, set, cond, Bool, true, false, true≢false, refl, sym, ap, subst, ◌∙◌, arith, string_bytes}
use Rattle.std.specs.List.{slice_get, All, position}
use Rattle.std.specs.Prelude.{Option, Some, None, option_map, is_some}
use Rattle.std.specs.declared.string.String.{String}
use Rattle.std.specs.String.{string_eq}
use Rattle.std.specs.Str.{bytes_eq}
use Rattle.std.proofs.lemmas.Slice.Eq.{bytes_eq-Decides}
use Rattle.std.proofs.lemmas.Option.{slice_get-map, slice_get-get_or, none-some, same_Some}
use Rattle.std.specs.List.{position_from}
use Rattle.std.proofs.lemmas.Bool.{false_from_ne_true, cond-false}
use Rattle.std.proofs.lemmas.Iterator.Adapters.{position_from-zero}
use Rattle.std.proofs.lemmas.List.Elements.{All-nil, All-cons, All-head, All-tail, All-map, All-weaker, All-same}
use Rattle.std.proofs.lemmas.List.{map-append}
use Rattle.std.proofs.lemmas.List.Quantifiers.{position-Some}
use Rattle.indexmap.specs.IndexMap.{insert_entry}
use Rattle.indexmap.specs.Layout.{set_value_at}
use Rattle.std.proofs.Common.{append_assoc, length-append}
use Rattle.std.proofs.lemmas.List.{append-nil}
use Rattle.jr_sources.specs.Sources.{HaveSameName, Source, names_of, texts_of, LacksFile, HasName, Differ, with_text}
use Rattle.jr_sources.proofs.SourceLaws.{same_name}
use Rattle.jr_sources.specs.SourceView.{source_of, sources_of}

pub sources-set : {Y : Type 0} (es : List (String Y × List ℕ)) (i : ℕ) (w : List ℕ) → sources_of (set_value_at es i w) ≡ with_text (sources_of es) i w
sources-set [] i w = refl
sources-set (e ∷ es) zero w = refl
sources-set (e ∷ es) (suc i) w = ap (λ (l : List Source). source_of e ∷ l) (sources-set es i w)

pub texts-values : {Y : Type 0} (es : List (String Y × List ℕ)) → texts_of (sources_of es) ≡ map (λ e. e.1) es
texts-values [] = refl
texts-values (e ∷ es) = ap (λ (l : List (List ℕ)). e.1 ∷ l) (texts-values es)

pub names-keys : {Y : Type 0} (es : List (String Y × List ℕ)) → names_of (sources_of es) ≡ map (λ (k : String Y). string_bytes k) (map (λ e. e.0) es)
names-keys [] = refl
names-keys (e ∷ es) = ap (λ (l : List (List ℕ)). string_bytes e.0 ∷ l) (names-keys es)

pub name_at : {Y : Type 0} (es : List (String Y × List ℕ)) (i : ℕ) (e : String Y × List ℕ) → slice_get es i ≡ Some e → HasName (sources_of es) i (string_bytes e.0)
name_at [] i e h = absurd (none-some e h)
name_at (x ∷ xs) zero e h = ap (λ o. Some (string_bytes o.0)) (same_Some x e h)
name_at (x ∷ xs) (suc i) e h = name_at xs i e h

-- the first element that passes a test, and that none does
at_position : {X : Type 0} (p : X → Bool) (xs : List X) (i : ℕ) → position p xs ≡ Some i → (x : X) × (slice_get xs i ≡ Some x) × (p x ≡ true)
at_position p [] i e = absurd (none-some i e)
at_position p (x ∷ xs) i e =
    let h = position-Some p (x ∷ xs) i x e in
    (get_or (x ∷ xs) i x, slice_get-get_or (x ∷ xs) i x h.0, h.1)

pub named_at : {Y : Type 0} (es : List (String Y × List ℕ)) (name : List ℕ) (i : ℕ) → position (λ (k : String Y). bytes_eq name (string_bytes k)) (map (λ e. e.0) es) ≡ Some i → HasName (sources_of es) i name
named_at {Y} es name i e =
    let found = at_position (λ (k : String Y). bytes_eq name (string_bytes k)) (map (λ e. e.0) es) i e in
    let same : name ≡ string_bytes found.0 = (bytes_eq-Decides name (string_bytes found.0)).0 found.2 in
    ap (λ (ns : List (List ℕ)). slice_get ns i) (names-keys es)
    ∙ slice_get-map (λ (k : String Y). string_bytes k) (map (λ e. e.0) es) i
    ∙ ap (option_map (λ (k : String Y). string_bytes k)) found.1
    ∙ ap (λ (n : List ℕ). Some n) (sym same)

absent : {X : Type 0} (p : X → Bool) (n : ℕ) (xs : List X) → position_from p n xs ≡ None → All (λ x. p x ≡ false) xs
absent p n [] h = All-nil (λ x. p x ≡ false)
absent p n (x ∷ xs) h = by (p x) refl (absent p (n + 1) xs)
  where
    by : (b : Bool) → p x ≡ b → (position_from p (n + 1) xs ≡ None → All (λ y. p y ≡ false) xs) → All (λ y. p y ≡ false) (x ∷ xs)
    by true e rest = absurd (none-some n (sym h ∙ ap (λ t. cond t (Some n) (position_from p (n + 1) xs)) e))
    by false e rest = All-cons (λ y. p y ≡ false) x xs e (rest (sym (ap (λ t. cond t (Some n) (position_from p (n + 1) xs)) e) ∙ h))

pub unnamed : {Y : Type 0} (es : List (String Y × List ℕ)) (name : List ℕ) → position (λ (k : String Y). bytes_eq name (string_bytes k)) (map (λ e. e.0) es) ≡ None → LacksFile (sources_of es) name
unnamed {Y} es name e =
    let p : String Y → Bool = λ k. bytes_eq name (string_bytes k) in
    let keys : List (String Y) = map (λ e. e.0) es in
    let fail = absent p 0 keys (sym (position_from-zero p keys) ∙ e) in
    let differ : All (λ (k : String Y). string_bytes k ≢ name) keys =
    All-weaker (λ k. p k ≡ false) (λ (k : String Y). string_bytes k ≢ name)
    (λ k f same. true≢false (sym ((bytes_eq-Decides name (string_bytes k)).1 (sym same)) ∙ f)) keys fail in
    All-same (λ (n : List ℕ). n ≢ name) (names_of (sources_of es)) (map (λ (k : String Y). string_bytes k) keys) (names-keys es)
    (All-map (λ (n : List ℕ). n ≢ name) (λ (k : String Y). string_bytes k) keys differ)

-- a new key goes last
pub inserted : {Y : Type 0} (es : List (String Y × List ℕ)) (k : String Y) (v : List ℕ) → LacksFile (sources_of es) (string_bytes k) → insert_entry string_eq es k v ≡ es ++ (k, v) ∷ []
inserted [] k v h = refl
inserted (e ∷ es) k v h =
    let other : string_eq k e.0 ≡ false = false_from_ne_true (string_eq k e.0) (λ t. All-head (λ (n : List ℕ). n ≢ string_bytes k) (string_bytes e.0) (names_of (sources_of es)) h (sym ((bytes_eq-Decides (string_bytes k) (string_bytes e.0)).0 t))) in
    cond-false (string_eq k e.0) ((e.0, v) ∷ es) (e ∷ insert_entry string_eq es k v) other
    ∙ ap (λ l. e ∷ l) (inserted es k v (All-tail (λ (n : List ℕ). n ≢ string_bytes k) (string_bytes e.0) (names_of (sources_of es)) h))

pub sources-inserted : {Y : Type 0} (es : List (String Y × List ℕ)) (k : String Y) (v : List ℕ) → LacksFile (sources_of es) (string_bytes k) → sources_of (insert_entry string_eq es k v) ≡ sources_of es ++ source_of (k, v) ∷ []
sources-inserted {Y} es k v h = ap sources_of (inserted es k v h) ∙ map-append source_of es ((k, v) ∷ [])

-- the first files are gathered, and those that are left come behind them
pub record Gathered {Y : Type 0} (files done left : List (String Y × List ℕ)) (sources : List Source) : Type 0 where
  pub are : sources ≡ sources_of done
  pub all : files ≡ done ++ left

pub length-sources : {Y : Type 0} (es : List (String Y × List ℕ)) → length (sources_of es) ≡ length es
length-sources [] = refl
length-sources (e ∷ es) = ap suc (length-sources es)

module _ {Y : Type 0} (files : List (String Y × List ℕ)) where
  pub none_gathered : Gathered files [] files []
  none_gathered = record { are = refl; all = refl }

  module _ (done left : List (String Y × List ℕ)) (sources : List Source) (g : Gathered files done left sources) where
    pub gathered_all : left ≡ [] → sources ≡ sources_of files
    gathered_all e = g.are ∙ ap sources_of (sym (g.all ∙ ap (λ l. done ++ l) e ∙ append-nil done))

    module _ (x : String Y × List ℕ) (rest : List (String Y × List ℕ)) (is : left ≡ x ∷ rest) where
      pub gathered_more : (next : List Source) → next ≡ sources ++ source_of x ∷ [] → Gathered files (done ++ x ∷ []) rest next
      gathered_more next e = record {
        are = e ∙ ap (λ (ss : List Source). ss ++ source_of x ∷ []) g.are ∙ sym (map-append source_of done (x ∷ []));
        all = g.all ∙ ap (λ l. done ++ l) is ∙ sym (append_assoc done (x ∷ []) rest);
      }

      split : sources_of files ≡ sources ++ source_of x ∷ sources_of rest
      split = ap sources_of (g.all ∙ ap (λ l. done ++ l) is) ∙ map-append source_of done (x ∷ rest) ∙ ap (λ (ss : List Source). ss ++ source_of x ∷ sources_of rest) (sym g.are)

      pub room_for_more : (n : ℕ) → length files ≤ n → length sources < n
      room_for_more n few =
          let a = length-sources files in
          let b = ap (λ (ss : List Source). length ss) split in
          let c = length-append sources (source_of x ∷ sources_of rest) in
          omega arith

      pub gathered_same : (first second : ℕ) → Differ sources → HasName sources first (string_bytes x.0) → second ≡ length sources → HaveSameName (sources_of files) first second
      gathered_same first second differ h e =
          subst (λ (k : ℕ). HaveSameName (sources_of files) first k) (sym e)
          (subst (λ (ss : List Source). HaveSameName ss first (length sources)) (sym split)
          (same_name sources (sources_of rest) (source_of x) first differ h))
