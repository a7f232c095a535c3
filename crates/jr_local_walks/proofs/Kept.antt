-- The locals of a new place as the walk has them, beside those that a region has: where the numbers
-- of the walk and the images of the region agree.
use Rattle.std.proofs.Common.{◌≡◌, ℕ, List, [], ◌∷◌, ◌++◌, map, Option, Some, None, option_map, refl, sym, ap, subst, ◌∙◌, inl, inr}
use Rattle.jr_table.specs.Decls.{LocalKey}
use Rattle.jr_table.specs.Scope.{ScopeLocal}
use Rattle.jr_table.specs.Context.{Local, scope_local}
use Rattle.jr_new_words.specs.Mappings.{same_keys, Renumbering, renumber, numbered_key, image_local, if_kept, seen_local}
use Rattle.jr_new_words.specs.Mappings as walk
use Rattle.jr_local.specs.Scopes.{put_kept}
use Rattle.jr_local.specs.Scopes as region
use Rattle.jr_local_walks.specs.Contexts.{Each}
use Rattle.jr_local_walks.proofs.Lasts.{NoneHas, LastHas}

some_is : {X : Type 0} {x y : X} → (let a : Option X = Some x in a ≡ Some y) → x ≡ y
some_is e = cc

none_is : {X P : Type 0} {x : X} → (let a : Option X = None in a ≡ Some x) → P
none_is e = absurd cc

-- the image of a key by this number
abbrev pub by_number : Renumbering → LocalKey → Option LocalKey
by_number r k = option_map (numbered_key same_keys k) (renumber r k.number)

-- the numbers of the walk give the images of the region
abbrev pub Agrees : Renumbering → (LocalKey → Option LocalKey) → Local → Type 0
Agrees r to l = by_number r l.key ≡ to l.key

abbrev pub HasKey : LocalKey → Local → Type 0
HasKey k l = l.key ≡ k

module _ (r : Renumbering) where
  abbrev pub kept : List Local → List Local
  kept ls = walk.kept_locals same_keys r ls

  -- ---- what lookup sees

  pub kept_alike : (to : LocalKey → Option LocalKey) (ls : List Local) → Each (Agrees r to) ls → map seen_local (kept ls) ≡ region.kept_locals to (map scope_local ls)
  kept_alike to [] h = refl
  kept_alike to (l ∷ ls) h =
      by (renumber r l.key.number) ∙ ap (λ (rest : List ScopeLocal). put_kept l.name (by_number r l.key) rest) (kept_alike to ls h.1)
      ∙ ap (λ (o : Option LocalKey). put_kept l.name o (region.kept_locals to (map scope_local ls))) h.0
    where
      by : (o : Option ℕ) → map seen_local (if_kept same_keys o l ++ kept ls) ≡ put_kept l.name (option_map (numbered_key same_keys l.key) o) (map seen_local (kept ls))
      by None = refl
      by (Some n) = refl

  -- ---- the last of a key

  abbrev pub Becomes : LocalKey → Local → Type 0
  Becomes k l = by_number r l.key ≡ Some k

  none_put : (k : LocalKey) (l : Local) (ls : List Local) (o : Option ℕ) → NoneHas (HasKey k) (if_kept same_keys o l ++ ls)
      → ((option_map (numbered_key same_keys l.key) o ≡ Some k) → ⊥) × NoneHas (HasKey k) ls
  none_put k l ls None h = (λ e. none_is e, h)
  none_put k l ls (Some n) h = (λ e. h.0 (some_is e), h.1)

  put_none : (k : LocalKey) (l : Local) (ls : List Local) (o : Option ℕ) → ((option_map (numbered_key same_keys l.key) o ≡ Some k) → ⊥) → NoneHas (HasKey k) ls
      → NoneHas (HasKey k) (if_kept same_keys o l ++ ls)
  put_none k l ls None none h = h
  put_none k l ls (Some n) none h = (λ e. none (ap (λ (x : LocalKey). Some x) e), h)

  pub none_there : (k : LocalKey) (ls : List Local) → NoneHas (HasKey k) (kept ls) → NoneHas (Becomes k) ls
  none_there k [] h = tt
  none_there k (l ∷ ls) h = let x = none_put k l (kept ls) (renumber r l.key.number) h in (x.0, none_there k ls x.1)

  pub none_back : (k : LocalKey) (ls : List Local) → NoneHas (Becomes k) ls → NoneHas (HasKey k) (kept ls)
  none_back k [] h = tt
  none_back k (l ∷ ls) h = put_none k l (kept ls) (renumber r l.key.number) h.0 (none_back k ls h.1)

  -- with its type
  abbrev pub Like : LocalKey → List Local → Local → Type 0
  Like k ls m = (l : Local) × LastHas (Becomes k) ls l × (m.type ≡ l.type)

  last_put : (k : LocalKey) (l : Local) (ls : List Local) (m : Local) (o : Option ℕ) → (renumber r l.key.number ≡ o) → (LastHas (HasKey k) (kept ls) m → Like k ls m)
      → LastHas (HasKey k) (if_kept same_keys o l ++ kept ls) m → Like k (l ∷ ls) m
  last_put k l ls m None is more h = let x = more h in (x.0, inl x.1, x.2)
  last_put k l ls m (Some n) is more (inl h) = let x = more h in (x.0, inl x.1, x.2)
  last_put k l ls m (Some n) is more (inr (same, has, none)) = (
    l,
    inr (refl, subst (λ (o : Option ℕ). option_map (numbered_key same_keys l.key) o ≡ Some k) (sym is) (ap (λ (x : LocalKey). Some x) (ap (λ (x : Local). x.key) same ∙ has)), none_there k ls none),
    ap (λ (x : Local). x.type) (sym same),
  )

  pub last_there : (k : LocalKey) (ls : List Local) (m : Local) → LastHas (HasKey k) (kept ls) m → Like k ls m
  last_there k [] m h = absurd h
  last_there k (l ∷ ls) m h = last_put k l ls m (renumber r l.key.number) refl (last_there k ls m) h

  abbrev pub Back : LocalKey → List Local → Local → Type 0
  Back k ms l = (m : Local) × LastHas (HasKey k) ms m × (m.type ≡ l.type)

  more_put : (k : LocalKey) (x l : Local) (ls : List Local) (o : Option ℕ) → Back k ls l → Back k (if_kept same_keys o x ++ ls) l
  more_put k x l ls None b = b
  more_put k x l ls (Some n) b = (b.0, inl b.1, b.2)

  first_put : (k : LocalKey) (x l : Local) (ls : List Local) (o : Option ℕ) → x ≡ l → option_map (numbered_key same_keys x.key) o ≡ Some k → NoneHas (HasKey k) ls → Back k (if_kept same_keys o x ++ ls) l
  first_put k x l ls None is e none = none_is e
  first_put k x l ls (Some n) is e none = (image_local same_keys n x, inr (refl, some_is e, none), ap (λ (y : Local). y.type) is)

  pub last_back : (k : LocalKey) (ls : List Local) (l : Local) → LastHas (Becomes k) ls l → Back k (kept ls) l
  last_back k [] l h = absurd h
  last_back k (x ∷ ls) l (inl h) = more_put k x l (kept ls) (renumber r x.key.number) (last_back k ls l h)
  last_back k (x ∷ ls) l (inr (is, becomes, none)) =
      first_put k x l (kept ls) (renumber r x.key.number) is (subst (Becomes k) (sym is) becomes) (none_back k ls none)
