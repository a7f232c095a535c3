-- The locals of the new place, while locals are put and taken away.
use Rattle.std.proofs.Common.{◌≡◌, ℕ, zero, suc, ◌+◌, ◌<◌, ◌≤◌, List, [], ◌∷◌, ◌++◌, map, take, drop, length, flat_map, Option, Some, option_to_list, refl, sym, ap, subst, ◌∙◌, arith}
use Rattle.std.specs.Prelude.{◌⊎◌, slice_get}
use Rattle.std.proofs.Common.{inl, inr, get_or}
use Rattle.std.proofs.lemmas.Bool.{cases_order}
use Rattle.std.proofs.lemmas.List.{append_assoc, append-nil, map-append, take-append-drop, take-append-le, drop-append-le, length-append, length-map, length-take-le, take_all, take_at, drop_all}
use Rattle.std.proofs.lemmas.Grind.{flat_map-append}
use Rattle.std.proofs.Math.Seq.{take-suc}
use Rattle.jr_table.specs.Decls.{MemberKey}
use Rattle.jr_table.specs.Context.{Local}
use Rattle.jr_scopes.specs.declared.helds.Held as raw
use Rattle.jr_scopes.specs.Helds.{Held, held_of, local_of}
use Rattle.jr_new_words.specs.Mappings.{KeyMapping, MadeLocal, Renumbering, LocalMapping, all_stay, renumbered, renumber, number_by, image_local, if_kept, made_local, locals_by, member_by, Mapping, member_to}
use Rattle.jr_new_words.specs.Scopes.{new_locals, made_held, IsDeep, IsBare, Makes, AreDepths, PutsDepth}

pub map_push : {X Y : Type 0} (f : X → Y) (xs : List X) (x : X) → map f (xs ++ x ∷ []) ≡ map f xs ++ f x ∷ []
map_push f [] x = refl
map_push f (y ∷ ys) x = ap (λ zs. f y ∷ zs) (map_push f ys x)

pub map_take : {X Y : Type 0} (f : X → Y) (n : ℕ) (xs : List X) → map f (take n xs) ≡ take n (map f xs)
map_take f zero [] = refl
map_take f zero (x ∷ xs) = refl
map_take f (suc n) [] = refl
map_take f (suc n) (x ∷ xs) = ap (λ zs. f x ∷ zs) (map_take f n xs)

take_twice : {X : Type 0} (n d : ℕ) (xs : List X) → n ≤ d → take n (take d xs) ≡ take n xs
take_twice zero zero [] h = refl
take_twice zero (suc d) [] h = refl
take_twice zero zero (x ∷ xs) h = refl
take_twice zero (suc d) (x ∷ xs) h = refl
take_twice (suc n) zero xs h = absurd (omega (arith, h))
take_twice (suc n) (suc d) [] h = refl
take_twice (suc n) (suc d) (x ∷ xs) h = ap (λ zs. x ∷ zs) (take_twice n d xs (omega (arith, h)))

-- ---- lists by their places

get_front : {X : Type 0} (xs ys : List X) (n : ℕ) → n < length xs → slice_get (xs ++ ys) n ≡ slice_get xs n
get_front [] ys n h = absurd (omega (arith, h))
get_front (x ∷ xs) ys zero h = refl
get_front (x ∷ xs) ys (suc n) h = get_front xs ys n (omega (arith, h))

get_seam : {X : Type 0} (xs : List X) (y : X) → slice_get (xs ++ y ∷ []) (length xs) ≡ Some y
get_seam [] y = refl
get_seam (x ∷ xs) y = get_seam xs y

get_take : {X : Type 0} (j n : ℕ) (xs : List X) → n < j → slice_get (take j xs) n ≡ slice_get xs n
get_take zero n xs h = absurd (omega (arith, h))
get_take (suc j) n [] h = refl
get_take (suc j) zero (x ∷ xs) h = refl
get_take (suc j) (suc n) (x ∷ xs) h = get_take j n xs (omega (arith, h))

-- ---- the locals of the new place

module _ (x : KeyMapping) (k : MemberKey) where
  locals_append : (r : Renumbering) (ls ms : List Local) → r.depth ≤ length ls
      → locals_by x (renumbered r) k (ls ++ ms) ≡ locals_by x (renumbered r) k ls ++ flat_map (λ (l : Local). if_kept x (renumber r l.key.number) l) ms
  locals_append r ls ms deep =
      let F = λ (l : Local). if_kept x (renumber r l.key.number) l in
      let M = map (made_local (member_by x k)) r.made in
      let front = flat_map F (take r.depth ls) in
      let back = flat_map F (drop r.depth ls) in
      (λ i. flat_map F (take-append-le r.depth ls ms deep i) ++ (M ++ flat_map F (drop-append-le r.depth ls ms deep i)))
      ∙ ap (λ z. front ++ (M ++ z)) (flat_map-append F (drop r.depth ls) ms)
      ∙ ap (λ z. front ++ z) (sym (append_assoc M back (flat_map F ms)))
      ∙ sym (append_assoc front (M ++ back) (flat_map F ms))

  -- one more
  locals_push : (y : LocalMapping) (ls : List Local) (l : Local) → IsDeep y (length ls)
      → locals_by x y k (ls ++ l ∷ []) ≡ locals_by x y k ls ++ if_kept x (number_by y l.key.number) l
  locals_push all_stay ls l deep = map_push (λ (l : Local). image_local x l.key.number l) ls l
  locals_push (renumbered r) ls l deep =
      locals_append r ls (l ∷ []) deep ∙ ap (λ z. locals_by x (renumbered r) k ls ++ z) (append-nil (if_kept x (renumber r l.key.number) l))

  -- the first ones
  locals_take : (y : LocalMapping) (ls : List Local) (d : ℕ) → IsDeep y d → d ≤ length ls
      → take (length (locals_by x y k (take d ls))) (locals_by x y k ls) ≡ locals_by x y k (take d ls)
  locals_take all_stay ls d deep le =
      let F = λ (l : Local). image_local x l.key.number l in
      ap (λ n. take n (map F ls)) (length-map (take d ls) F ∙ length-take-le d ls le) ∙ sym (map_take F d ls)
  locals_take (renumbered r) ls d deep le =
      let A = take d ls in
      let count = length-take-le d ls le in
      let within : r.depth ≤ length A = omega (arith, deep, count) in
      let whole = ap (locals_by x (renumbered r) k) (sym (take-append-drop d ls)) ∙ locals_append r A (drop d ls) within in
      let first = locals_by x (renumbered r) k A in
      ap (take (length first)) whole ∙ take_at first (flat_map (λ (l : Local). if_kept x (renumber r l.key.number) l) (drop d ls)) (length first) refl

module _ (m : Mapping) (k : MemberKey) where
  pub new_push : (hs : List Held) (h : Held) → IsDeep m.locals (length hs)
      → new_locals m k (hs ++ h ∷ []) ≡ new_locals m k hs ++ if_kept m.keys (number_by m.locals h.number) (local_of k h)
  new_push hs h deep =
      ap (locals_by m.keys m.locals k) (map_push (local_of k) hs h)
      ∙ locals_push m.keys k m.locals (map (local_of k) hs) (local_of k h) (subst (IsDeep m.locals) (sym (length-map hs (local_of k))) deep)

  pub new_take : (hs : List Held) (d : ℕ) → IsDeep m.locals d → d ≤ length hs
      → take (length (new_locals m k (take d hs))) (new_locals m k hs) ≡ new_locals m k (take d hs)
  new_take hs d deep le =
      let count = length-map hs (local_of k) in
      let within : d ≤ length (map (local_of k) hs) = omega (arith, le, count) in
      subst (λ zs. take (length (locals_by m.keys m.locals k zs)) (new_locals m k hs) ≡ locals_by m.keys m.locals k zs) (sym (map_take (local_of k) d hs))
      (locals_take m.keys k m.locals (map (local_of k) hs) d deep within)

  abbrev pub AreNew : (new old : List raw.Held) → Type 0
  AreNew rs hs = map (local_of (member_to m k)) (map held_of rs) ≡ new_locals m k (map held_of hs)

  -- one more, and its image, if it has one
  pub push_new : (rs hs new_rs new_hs : List raw.Held) (o : Option raw.Held) (h : raw.Held) → new_rs ≡ rs ++ option_to_list o → new_hs ≡ hs ++ h ∷ []
      → map (local_of (member_to m k)) (map held_of (option_to_list o)) ≡ if_kept m.keys (number_by m.locals h.number) (local_of k (held_of h))
      → IsDeep m.locals (length (map held_of hs)) → AreNew rs hs → AreNew new_rs new_hs
  push_new rs hs new_rs new_hs o h rs_are hs_are is deep same =
      let L = local_of (member_to m k) in
      ap (λ xs. map L (map held_of xs)) rs_are
      ∙ ap (map L) (map-append held_of rs (option_to_list o))
      ∙ map-append L (map held_of rs) (map held_of (option_to_list o))
      ∙ (λ i. same i ++ is i)
      ∙ sym (new_push (map held_of hs) (held_of h) deep)
      ∙ sym (ap (new_locals m k) (map_push held_of hs h))
      ∙ sym (ap (λ xs. new_locals m k (map held_of xs)) hs_are)

  -- the first ones on both sides
  pub take_new : (d n : ℕ) (rs hs new_rs new_hs : List raw.Held) → new_rs ≡ take n rs → new_hs ≡ take d hs → n ≡ length (new_locals m k (take d (map held_of hs)))
      → IsDeep m.locals d → d ≤ length (map held_of hs) → AreNew rs hs → AreNew new_rs new_hs
  take_new d n rs hs new_rs new_hs rs_are hs_are count deep le same =
      let L = local_of (member_to m k) in
      ap (λ xs. map L (map held_of xs)) rs_are
      ∙ ap (map L) (map_take held_of n rs)
      ∙ map_take L n (map held_of rs)
      ∙ ap (take n) same
      ∙ ap (λ j. take j (new_locals m k (map held_of hs))) count
      ∙ new_take (map held_of hs) d deep le
      ∙ sym (ap (new_locals m k) (ap (map held_of) hs_are ∙ map_take held_of d hs))

  -- ---- how many there are

  -- where all stay
  pub count_all : (hs : List Held) (d : ℕ) → m.locals ≡ all_stay → d ≤ length hs → d ≡ length (new_locals m k (take d hs))
  count_all hs d stay le =
      let F = λ (l : Local). image_local m.keys l.key.number l in
      sym (ap (λ (y : LocalMapping). length (locals_by m.keys y k (map (local_of k) (take d hs)))) stay
      ∙ length-map (map (local_of k) (take d hs)) F ∙ length-map (take d hs) (local_of k) ∙ length-take-le d hs le)

  -- as many as are held
  pub count_new : (rs hs : List raw.Held) (n : ℕ) → n ≡ length rs → AreNew rs hs → n ≡ length (new_locals m k (map held_of hs))
  count_new rs hs n e same = e ∙ sym (length-map (map held_of rs) (local_of (member_to m k)) ∙ length-map rs held_of) ∙ ap length same

  pub put_depths : (y : LocalMapping) (hs : List Held) (h : Held) (ds es : List ℕ) (n : ℕ) → PutsDepth y n ds es → n ≡ length (new_locals m k hs)
      → AreDepths m y k hs ds → AreDepths m y k (hs ++ h ∷ []) es
  put_depths all_stay hs h ds es n puts count are = tt
  put_depths (renumbered r) hs h ds es n puts count (size, at) =
      let more = length-append ds (n ∷ []) in
      let es_size = ap length puts in (
        omega (arith, size, all, more, es_size),
        λ j deep less. by j deep less (cases_order j (length hs)),
      )
    where
      all : length (hs ++ h ∷ []) ≡ length hs + 1
      all = length-append hs (h ∷ [])

      by : (j : ℕ) → r.depth ≤ j → j < length (hs ++ h ∷ []) → (j ≡ length hs) ⊎ ((j < length hs) ⊎ (length hs < j)) → slice_get es j ≡ Some (length (new_locals m k (take j (hs ++ h ∷ []))))
      by j deep less (inl e) =
          let whole = take-append-le j hs (h ∷ []) (omega (arith, e)) ∙ take_all j hs (omega (arith, e)) in
          ap (λ zs. slice_get zs j) puts ∙ ap (slice_get (ds ++ n ∷ [])) (e ∙ sym size) ∙ get_seam ds n ∙ ap Some (count ∙ sym (ap (λ zs. length (new_locals m k zs)) whole))
      by j deep less (inr (inl within)) =
          ap (λ zs. slice_get zs j) puts ∙ get_front ds (n ∷ []) j (omega (arith, within, size)) ∙ at j deep within
          ∙ ap (λ zs. Some (length (new_locals m k zs))) (sym (take-append-le j hs (h ∷ []) (omega (arith, within))))
      by j deep less (inr (inr more)) = absurd (omega (arith, more, less, all))

  pub cut_depths : (y : LocalMapping) (hs : List Held) (ds es : List ℕ) (d : ℕ) → es ≡ take d ds → d ≤ length hs → AreDepths m y k hs ds → AreDepths m y k (take d hs) es
  cut_depths all_stay hs ds es d is le are = tt
  cut_depths (renumbered r) hs ds es d is le (size, at) =
      let count = length-take-le d hs le in
      let kept = length-take-le d ds (omega (arith, size, le)) in
      let es_size = ap length is in (
        omega (arith, count, kept, es_size),
        λ j deep within.
            let small : j < d = omega (arith, within, count) in
            ap (λ zs. slice_get zs j) is ∙ get_take d j ds small ∙ at j deep (omega (arith, small, le))
            ∙ ap (λ zs. Some (length (new_locals m k zs))) (sym (take_twice j d hs (omega (arith, small)))),
      )

-- ---- before any local is declared

nothing_new : (x : KeyMapping) (y : LocalMapping) (k : MemberKey) → IsBare y → locals_by x y k [] ≡ []
nothing_new x all_stay k bare = refl
nothing_new x (renumbered r) k (made, depth) =
    let F = λ (l : Local). if_kept x (renumber r l.key.number) l in
    λ i. flat_map F (take (depth i) []) ++ (map (made_local (member_by x k)) (made i) ++ flat_map F (drop (depth i) []))

pub first_new : (m : Mapping) (k : MemberKey) → IsBare m.locals → (rs hs : List Held) → hs ≡ [] → rs ≡ [] → map (local_of (member_to m k)) rs ≡ new_locals m k hs
first_new m k bare rs hs no_old no_new = ap (map (local_of (member_to m k))) no_new ∙ sym (nothing_new m.keys m.locals k bare) ∙ sym (ap (new_locals m k) no_old)

pub first_deep : (y : LocalMapping) → IsBare y → (hs : List Held) → hs ≡ [] → IsDeep y (length hs)
first_deep all_stay bare hs none = tt
first_deep (renumbered r) (made, depth) hs none = omega (arith, depth)

pub first_depths : (m : Mapping) (y : LocalMapping) (k : MemberKey) (hs : List Held) (ds : List ℕ) → hs ≡ [] → ds ≡ [] → AreDepths m y k hs ds
first_depths m all_stay k hs ds no_old no_depth = tt
first_depths m (renumbered r) k hs ds no_old no_depth =
    let size = ap length no_old in (
      ap length no_depth ∙ sym size,
      λ n deep less. absurd (omega (arith, less, size)),
    )

-- a place with more locals is as deep
pub deeper : (y : LocalMapping) (n j : ℕ) → n ≤ j → IsDeep y n → IsDeep y j
deeper all_stay n j le deep = tt
deeper (renumbered r) n j le deep = omega (arith, le, deep)

-- ---- those that are made come into scope

made_are : (image : MemberKey) (ms : List MadeLocal) → map (local_of image) (map made_held ms) ≡ map (made_local image) ms
made_are image [] = refl
made_are image (m ∷ ms) = ap (λ zs. made_local image m ∷ zs) (made_are image ms)

module _ (x : KeyMapping) (k : MemberKey) (q r : Renumbering) (ls : List Local) where
  pub all_made : q.firsts ≡ r.firsts → q.next ≡ r.next → q.made ≡ [] → r.depth ≡ length ls
      → locals_by x (renumbered q) k ls ++ map (made_local (member_by x k)) r.made ≡ locals_by x (renumbered r) k ls
  all_made firsts next none deep =
      let F = λ (l : Local). if_kept x (renumber q l.key.number) l in
      let G = λ (l : Local). if_kept x (renumber r l.key.number) l in
      let M = map (made_local (member_by x k)) r.made in
      let same : F ≡ G = λ i l. if_kept x (renumber (record { firsts = firsts i; next = next i; made = q.made; depth = q.depth; gone = q.gone }) l.key.number) l in
      let old : locals_by x (renumbered q) k ls ≡ flat_map F ls =
      (λ i. flat_map F (take q.depth ls) ++ (map (made_local (member_by x k)) (none i) ++ flat_map F (drop q.depth ls)))
      ∙ sym (flat_map-append F (take q.depth ls) (drop q.depth ls)) ∙ ap (flat_map F) (take-append-drop q.depth ls) in
      let new : locals_by x (renumbered r) k ls ≡ flat_map G ls ++ M =
      (λ i. flat_map G (take (deep i) ls) ++ (M ++ flat_map G (drop (deep i) ls)))
      ∙ (λ i. flat_map G (take_all (length ls) ls (omega arith) i) ++ (M ++ flat_map G (drop_all (length ls) ls (omega arith) i)))
      ∙ ap (λ z. flat_map G ls ++ z) (append-nil M) in
      ap (λ z. z ++ M) (old ∙ ap (λ H. flat_map H ls) same) ∙ sym new

-- one more of them
pub one_made : {X : Type 0} (f : X → Held) (start : List Held) (rs new_rs : List raw.Held) (r : raw.Held) (xs : List X) (i : ℕ) (x : X) → new_rs ≡ rs ++ r ∷ [] → held_of r ≡ f x
    → i < length xs → x ≡ get_or xs i x → map held_of rs ≡ start ++ map f (take i xs) → map held_of new_rs ≡ start ++ map f (take (i + 1) xs)
one_made f start rs new_rs r xs i x pushed is less at so_far =
    let next : take (i + 1) xs ≡ take i xs ++ x ∷ [] = ap (λ n. take n xs) (let h : i + 1 ≡ suc i = omega arith in h) ∙ take-suc xs i x less ∙ ap (λ z. take i xs ++ z ∷ []) (sym at) in
    ap (map held_of) pushed ∙ map_push held_of rs r ∙ (λ j. so_far j ++ is j ∷ [])
    ∙ append_assoc start (map f (take i xs)) (f x ∷ [])
    ∙ ap (λ z. start ++ z) (sym (ap (map f) next ∙ map_push f (take i xs) x))

-- ---- where those that are made have come into scope

map_both : {X Y Z : Type 0} (f : Y → Z) (g : X → Y) (xs : List X) → map f (map g xs) ≡ map (λ x. f (g x)) xs
map_both f g [] = refl
map_both f g (x ∷ xs) = ap (λ zs. f (g x) ∷ zs) (map_both f g xs)

made_by : (x : KeyMapping) (y : LocalMapping) (k : MemberKey) (r : Renumbering) (ls : List Local) → Makes y r (length ls)
    → locals_by x y k ls ++ map (made_local (member_by x k)) r.made ≡ locals_by x (renumbered r) k ls
made_by x all_stay k r ls makes = absurd makes
made_by x (renumbered q) k r ls (firsts, next, none, deep) = all_made x k q r ls firsts next none deep

pub made_new : {X : Type 0} (m : Mapping) (k : MemberKey) (r : Renumbering) (of : X → MadeLocal) (ms : List X) (hs rs new_rs : List Held) → r.made ≡ map of ms → Makes m.locals r (length hs)
    → new_rs ≡ rs ++ map (λ z. made_held (of z)) ms → map (local_of (member_to m k)) rs ≡ new_locals m k hs
    → map (local_of (member_to m k)) new_rs ≡ locals_by m.keys (renumbered r) k (map (local_of k) hs)
made_new m k r of ms hs rs new_rs are makes put same =
    let L = local_of (member_to m k) in
    ap (map L) (put ∙ ap (λ zs. rs ++ zs) (sym (map_both made_held of ms) ∙ ap (map made_held) (sym are)))
    ∙ map-append L rs (map made_held r.made)
    ∙ (λ i. same i ++ made_are (member_to m k) r.made i)
    ∙ made_by m.keys m.locals k r (map (local_of k) hs) (subst (Makes m.locals r) (sym (length-map hs (local_of k))) makes)

pub made_deep : (y : LocalMapping) (r : Renumbering) (n : ℕ) → Makes y r n → IsDeep (renumbered r) n
made_deep all_stay r n makes = absurd makes
made_deep (renumbered q) r n (firsts, next, none, deep) = omega (arith, deep)

pub made_depths : (m o : Mapping) (y : LocalMapping) (k : MemberKey) (r : Renumbering) (hs : List Held) (ds : List ℕ) → Makes y r (length hs) → AreDepths m y k hs ds → AreDepths o (renumbered r) k hs ds
made_depths m o all_stay k r hs ds makes are = absurd makes
made_depths m o (renumbered q) k r hs ds (firsts, next, none, deep) (size, at) = (size, λ n above below. absurd (omega (arith, deep, above, below)))
