-- Sources that are fetched one behind the other.
use Rattle.std.proofs.Common.{◌≡◌, ◌∙◌, ◌+◌, ◌<◌, ◌≤◌, ◌^◌, ℕ, suc, ap, ap₂, arith, refl, sym, subst, List, [], ◌∷◌, ◌++◌, drop, get_or, length, map, take, Option, None, Some, OnSome, IsSomeAnd, String, Vec, option_map, slice_get, string_bytes}
use Rattle.std.proofs.Math.Seq.{drop-cons}
use Rattle.std.proofs.lemmas.List.{length-map, map-append, take-append-drop, take_all, take_more}
use Rattle.std.proofs.lemmas.List.Sums.{sum_by_push}
use Rattle.std.proofs.lemmas.Option.{slice_get-get_or, slice_get-map, slice_get_within}
use Rattle.jr_shelf.specs.Counts.{Rose, RoseBy}
use Rattle.jr_shelf.specs.Shelf.{Files}
use Rattle.jr_text.specs.Texts.{IsText}
use Rattle.jr_words.specs.declared.words.Operand as raw
use Rattle.jr_words.specs.Asked.{operand_of}
use Rattle.jr_words.specs.Words.{Operand}
use Rattle.jr_files.specs.declared.faults.FilesFault.{FilesFault}
use Rattle.jr_files.specs.declared.faults.FilesFault.TheVariants.{Unread, BadSource, Memory}
use Rattle.jr_files.specs.declared.faults.SourceFault.{SourceFault}
use Rattle.jr_files.specs.declared.faults.SourceFault.TheVariants.{TooMany, TooLong, NotUtf8, TotalTooLong}
use Rattle.jr_files.specs.Fetching.{IsFilesFault, IsInOrder, IsOneFault, IsUnread, OnUnread}
use Rattle.jr_files.specs.Sources.{AreFetched, AreSources, AreTooMany, HasFault, HoldsFault, IsFirstBad, IsSource, file_limit, total_limit, total_of}

sources_more : (files : Option Files) (operands : List Operand) (texts : List (List ℕ)) (o : Operand) (t : List ℕ) → AreSources files operands texts → IsSource files o.text t
    → AreSources files (operands ++ o ∷ []) (texts ++ t ∷ [])
sources_more files [] [] o t all one = (one, tt)
sources_more files [] (u ∷ us) o t all one = absurd all
sources_more files (p ∷ ps) [] o t all one = absurd all
sources_more files (p ∷ ps) (u ∷ us) o t all one = (all.0, sources_more files ps us o t all.1 one)

total_more : (texts : List (List ℕ)) (t : List ℕ) → total_of (texts ++ t ∷ []) ≡ total_of texts + length t
total_more texts t = sum_by_push (λ (u : List ℕ). length u) texts t

-- ---- operands

more_operands : (operands : List raw.Operand) (i : ℕ) (d : raw.Operand) → i < length operands → map operand_of (take (i + 1) operands) ≡ map operand_of (take i operands) ++ operand_of (get_or operands i d) ∷ []
more_operands operands i d below = ap (map operand_of) (take_more operands i d below) ∙ map-append operand_of (take i operands) (get_or operands i d ∷ [])

parts : (operands : List raw.Operand) (i : ℕ) (d : raw.Operand) → i < length operands
    → map operand_of operands ≡ map operand_of (take i operands) ++ operand_of (get_or operands i d) ∷ map operand_of (drop (suc i) operands)
parts operands i d below =
    ap (map operand_of) (sym (take-append-drop i operands)) ∙ map-append operand_of (take i operands) (drop i operands)
    ∙ ap (λ (os : List raw.Operand). map operand_of (take i operands) ++ map operand_of os) (drop-cons operands i d below)

operand_at : (operands : List raw.Operand) (i : ℕ) (o : raw.Operand) → slice_get operands i ≡ Some o → slice_get (map operand_of operands) i ≡ Some (operand_of o)
operand_at operands i o at = slice_get-map operand_of operands i ∙ ap (option_map operand_of) at

-- ---- too many

pub too_many : (operands : List raw.Operand) (surplus : raw.Operand) → slice_get operands file_limit ≡ Some surplus → AreTooMany (map operand_of operands) surplus.word (length operands)
too_many operands surplus at =
    let stands = operand_at operands file_limit surplus at in
    record {
      beyond = slice_get_within (map operand_of operands) file_limit (operand_of surplus) stands;
      counted = sym (length-map operands operand_of);
      surplus = operand_of surplus;
      stands = stands;
      told = refl;
    }

-- ---- what was fetched so far

module _ {Y Z : Type 0} where
  pub record SoFar (files : Option Files) (operands : List raw.Operand) (i : ℕ) (sources : List (String Y × List ℕ)) (bytes : List (Vec ℕ Z)) (total : ℕ) : Type 0 where
    pub few : length operands ≤ file_limit
    pub are : AreSources files (map operand_of (take i operands)) (map (λ s. s.1) sources)
    pub names : map (λ s. string_bytes s.0) sources ≡ map (λ (o : Operand). o.text) (map operand_of (take i operands))
    pub kept : map (λ b. b.items) bytes ≡ map (λ s. s.1) sources
    pub counted : total ≡ total_of (map (λ s. s.1) sources)
    pub within : total ≤ total_limit

  pub none_fetched : (files : Option Files) (operands : List raw.Operand) (sources : List (String Y × List ℕ)) (bytes : List (Vec ℕ Z)) → length operands ≤ file_limit → sources ≡ [] → bytes ≡ [] → SoFar files operands 0 sources bytes 0
  none_fetched files operands sources bytes few no_sources no_bytes = record {
    few = few;
    are = subst (λ (ss : List (String Y × List ℕ)). AreSources files [] (map (λ s. s.1) ss)) (sym no_sources) tt;
    names = ap (map (λ s. string_bytes s.0)) no_sources;
    kept = ap (map (λ b. b.items)) no_bytes ∙ sym (ap (map (λ s. s.1)) no_sources);
    counted = sym (ap (λ (ss : List (String Y × List ℕ)). total_of (map (λ s. s.1) ss)) no_sources);
    within = omega arith;
  }

  pub one_fetched : (files files' : Option Files) → files' ≡ files → (operands : List raw.Operand) (i : ℕ) (d : raw.Operand) (sources sources' : List (String Y × List ℕ)) (bytes bytes' : List (Vec ℕ Z)) (total total' : ℕ) (name : String Y) (text : List ℕ) (b : Vec ℕ Z)
      → i < length operands → SoFar files operands i sources bytes total → string_bytes name ≡ (get_or operands i d).text.now → IsSource files' (get_or operands i d).text.now text → b.items ≡ text
      → total' ≡ total + length text → total' ≤ total_limit → sources' ≡ sources ++ (name, text) ∷ [] → bytes' ≡ bytes ++ b ∷ [] → SoFar files operands (i + 1) sources' bytes' total'
  one_fetched files files' same operands i d sources sources' bytes bytes' total total' name text b below so_far named source same_bytes counts within pushed pushed_bytes =
      let o = get_or operands i d in
      let ops = more_operands operands i d below in
      let texts : map (λ s. s.1) sources' ≡ map (λ s. s.1) sources ++ text ∷ [] = ap (map (λ s. s.1)) pushed ∙ map-append (λ s. s.1) sources ((name, text) ∷ []) in
      record {
        few = so_far.few;
        are = subst (λ os. AreSources files os (map (λ s. s.1) sources')) (sym ops) (subst (AreSources files (map operand_of (take i operands) ++ operand_of o ∷ [])) (sym texts)
            (sources_more files (map operand_of (take i operands)) (map (λ s. s.1) sources) (operand_of o) text so_far.are (subst (λ f. IsSource f o.text.now text) same source)));
        names = ap (map (λ s. string_bytes s.0)) pushed ∙ map-append (λ s. string_bytes s.0) sources ((name, text) ∷ []) ∙ (λ j. so_far.names j ++ named j ∷ [])
            ∙ sym (map-append (λ (p : Operand). p.text) (map operand_of (take i operands)) (operand_of o ∷ [])) ∙ sym (ap (map (λ (p : Operand). p.text)) ops);
        kept = ap (map (λ c. c.items)) pushed_bytes ∙ map-append (λ c. c.items) bytes (b ∷ []) ∙ (λ j. so_far.kept j ++ same_bytes j ∷ []) ∙ sym texts;
        counted = counts ∙ ap (λ n. n + length text) so_far.counted ∙ sym (total_more (map (λ s. s.1) sources) text) ∙ sym (ap total_of texts);
        within = within;
      }

  pub all_fetched : (files : Option Files) (operands : List raw.Operand) (i : ℕ) (sources : List (String Y × List ℕ)) (bytes : List (Vec ℕ Z)) (total : ℕ) → length operands ≤ i → SoFar files operands i sources bytes total
      → AreFetched files (map operand_of operands) (map (λ s. s.1) sources)
  all_fetched files operands i sources bytes total past so_far = record {
    few = subst (λ n. n ≤ file_limit) (sym (length-map operands operand_of)) so_far.few;
    sources = subst (λ (os : List raw.Operand). AreSources files (map operand_of os) (map (λ s. s.1) sources)) (take_all i operands past) so_far.are;
    within = subst (λ n. n ≤ total_limit) so_far.counted so_far.within;
  }

  -- the next file is the first that has a fault
  pub first_bad : (files : Option Files) (operands : List raw.Operand) (i : ℕ) (d : raw.Operand) (sources : List (String Y × List ℕ)) (bytes : List (Vec ℕ Z)) (total : ℕ) (fault : SourceFault) (word : ℕ)
      → i < length operands → SoFar files operands i sources bytes total → word ≡ (get_or operands i d).word → HoldsFault (total_of (map (λ s. s.1) sources)) files (get_or operands i d).text.now fault
      → IsFirstBad files (map operand_of operands) word fault
  first_bad files operands i d sources bytes total fault word below so_far told has = record {
    few = subst (λ n. n ≤ file_limit) (sym (length-map operands operand_of)) so_far.few;
    front = map operand_of (take i operands);
    operand = operand_of (get_or operands i d);
    back = map operand_of (drop (suc i) operands);
    split = parts operands i d below;
    told = told;
    texts = map (λ s. s.1) sources;
    sources = so_far.are;
    within = subst (λ n. n ≤ total_limit) so_far.counted so_far.within;
    has = has;
  }

  -- the next file is the first that can't be read
  pub first_unread : (files files' : Option Files) (operands : List raw.Operand) (i : ℕ) (d : raw.Operand) (sources : List (String Y × List ℕ)) (bytes : List (Vec ℕ Z)) (total : ℕ) → i < length operands
      → SoFar files operands i sources bytes total → (missed : Option (List ℕ)) (faults faults' served served' : ℕ)
      → (fault : FilesFault) → OnUnread fault (λ word. (word ≡ (get_or operands i d).word) × Rose faults faults' × OnSome files' (missed ≡ Some (get_or operands i d).text.now) × (served' ≡ served))
      → OnUnread fault (IsInOrder files (map operand_of operands))
  first_unread files files' operands i d sources bytes total below so_far missed faults faults' served served' (Unread word) failed = record {
    few = subst (λ n. n ≤ file_limit) (sym (length-map operands operand_of)) so_far.few;
    front = map operand_of (take i operands);
    operand = operand_of (get_or operands i d);
    back = map operand_of (drop (suc i) operands);
    split = parts operands i d below;
    told = failed.0;
    texts = map (λ s. s.1) sources;
    sources = so_far.are;
    within = subst (λ n. n ≤ total_limit) so_far.counted so_far.within;
  }
  first_unread files files' operands i d sources bytes total below so_far missed faults faults' served served' (BadSource word fault) failed = tt
  first_unread files files' operands i d sources bytes total below so_far missed faults faults' served served' Memory failed = tt

  pub one_bad : (files files' : Option Files) → files' ≡ files → (operands : List raw.Operand) (i : ℕ) (d : raw.Operand) (sources : List (String Y × List ℕ)) (bytes : List (Vec ℕ Z)) (total : ℕ) → i < length operands
      → SoFar files operands i sources bytes total → (fault : FilesFault) → IsOneFault fault files' (operand_of (get_or operands i d)) → IsFilesFault files (map operand_of operands) fault
  one_bad files files' same operands i d sources bytes total below so_far (Unread word) one = tt
  one_bad files files' same operands i d sources bytes total below so_far (BadSource word TooLong) one =
      first_bad files operands i d sources bytes total TooLong word below so_far one.told (subst (λ f. HoldsFault (total_of (map (λ s. s.1) sources)) f (get_or operands i d).text.now TooLong) same (one.has (total_of (map (λ s. s.1) sources))))
  one_bad files files' same operands i d sources bytes total below so_far (BadSource word (NotUtf8 valid)) one =
      first_bad files operands i d sources bytes total (NotUtf8 valid) word below so_far one.told (subst (λ f. HoldsFault (total_of (map (λ s. s.1) sources)) f (get_or operands i d).text.now (NotUtf8 valid)) same (one.has (total_of (map (λ s. s.1) sources))))
  one_bad files files' same operands i d sources bytes total below so_far (BadSource word (TooMany count)) one = absurd one.single
  one_bad files files' same operands i d sources bytes total below so_far (BadSource word (TotalTooLong len)) one = absurd one.single
  one_bad files files' same operands i d sources bytes total below so_far Memory one = tt

-- where it is known what is held, the source that is one too many has the fault
pub too_long_together : (before len : ℕ) (files : Option Files) (name text : List ℕ) → IsSource files name text → len ≡ before + length text → total_limit < len → HoldsFault before files name (TotalTooLong len)
too_long_together before len None name text source counted beyond = tt
too_long_together before len (Some held) name text source counted beyond =
    subst (λ (o : Option (List ℕ)). IsSomeAnd o (λ b. HasFault before b (TotalTooLong len))) (sym source.held) (source.text, counted, beyond)

-- ---- a fetch that failed

pub unread_at : (files files' : Option Files) → files' ≡ files → (operands : List raw.Operand) (i : ℕ) (d : raw.Operand) → i < length operands
    → (missed : Option (List ℕ)) (faults faults' faults'' served served' served'' : ℕ) → faults' ≡ faults → RoseBy i served served'
    → (fault : FilesFault) → OnUnread fault (λ word. (word ≡ (get_or operands i d).word) × Rose faults' faults'' × OnSome files' (missed ≡ Some (get_or operands i d).text.now) × (served'' ≡ served'))
    → OnUnread fault (λ word. IsUnread files (map operand_of operands) word missed faults faults'' served served'')
unread_at files files' same operands i d below missed faults faults' faults'' served served' served'' stay count (Unread word) failed = record {
  number = i;
  operand = operand_of (get_or operands i d);
  stands = operand_at operands i (get_or operands i d) (slice_get-get_or operands i d below);
  told = failed.0;
  rose = subst (λ n. Rose n faults'') stay failed.1;
  names = subst (λ f. OnSome f (missed ≡ Some (get_or operands i d).text.now)) same failed.2;
  count = subst (RoseBy i served) (sym failed.3) count;
}
unread_at files files' same operands i d below missed faults faults' faults'' served served' served'' stay count (BadSource word fault) failed = tt
unread_at files files' same operands i d below missed faults faults' faults'' served served' served'' stay count Memory failed = tt

-- the next file is one too many
pub too_long_bad : {Y Z : Type 0} (files files' : Option Files) → files' ≡ files → (operands : List raw.Operand) (i : ℕ) (d : raw.Operand) (sources : List (String Y × List ℕ)) (bytes : List (Vec ℕ Z)) (total len : ℕ) (text : List ℕ)
    → i < length operands → SoFar files operands i sources bytes total → IsSource files' (get_or operands i d).text.now text → len ≡ length text → total_limit < total + len
    → IsFirstBad files (map operand_of operands) (get_or operands i d).word (TotalTooLong (total + len))
too_long_bad files files' same operands i d sources bytes total len text below so_far source size beyond =
    let name = (get_or operands i d).text.now in
    let counted : total + len ≡ total_of (map (λ s. s.1) sources) + length text = ap₂ (λ a b. a + b) so_far.counted size in
    first_bad files operands i d sources bytes total (TotalTooLong (total + len)) (get_or operands i d).word below so_far refl
    (too_long_together (total_of (map (λ s. s.1) sources)) (total + len) files name text (subst (λ f. IsSource f name text) same source) counted beyond)
