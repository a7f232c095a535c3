-- What is kept at a place, as lookups see it.
use Rattle.std.proofs.Common.{◌≡◌, ℕ, List, [], ◌∷◌, ◌++◌, map, Option, Some, None, refl, sym, ap, subst, ◌∙◌}
use Rattle.std.specs.Prelude.{option_map}
use Rattle.jr_table.specs.Decls.{MemberKey}
use Rattle.jr_table.specs.Rows.{Row}
use Rattle.jr_table.specs.Scope.{Scope, ScopeLocal, last_named}
use Rattle.jr_lookup.specs.ScopeView as view
use Rattle.jr_table.specs.Context.{Local, scope_of, scope_local}
use Rattle.jr_scopes.specs.Helds.{Held, key_of, local_of, last_number}
use Rattle.jr_scopes.specs.Tracked.{helds_of}
use Rattle.jr_new_words.specs.Mappings.{KeyMapping, LocalMapping, all_stay, renumbered, image_local, locals_by, seen_local, seen_image, seen_locals_by, member_to}
use Rattle.jr_new_words.specs.declared.scopes.Scopes as raw
use Rattle.jr_new_words.specs.Scopes.{rows_to, mapping_of, member_of, locals_in, context_of, place_to, seen, IsKept}
use Rattle.jr_new_words.specs.Near.{if_found, if_maybe_found}
use Rattle.jr_new_words.proofs.NearLocals.{last_is, Sound, none_yet, sound_step, still_found, now_found}

seen_images : (x : KeyMapping) (ls : List Local) → map (seen_image x) ls ≡ map seen_local (map (λ (l : Local). image_local x l.key.number l) ls)
seen_images x [] = refl
seen_images x (l ∷ ls) = ap (λ zs. seen_image x l ∷ zs) (seen_images x ls)

-- lookup sees the locals of the new place
seen_is : (x : KeyMapping) (y : LocalMapping) (k : MemberKey) (ls : List Local) → seen_locals_by x y k ls ≡ map seen_local (locals_by x y k ls)
seen_is x all_stay k ls = seen_images x ls
seen_is x (renumbered r) k ls = refl

locals_seen : (k : MemberKey) (hs : List Held) → map scope_local (map (local_of k) hs) ≡ map (seen k) hs
locals_seen k [] = refl
locals_seen k (h ∷ hs) = ap (λ ls. seen k h ∷ ls) (locals_seen k hs)

-- the local that a name finds, in the new program
pub image_last : (s : raw.Scopes) → IsKept s → (q : List ℕ) → last_named q (place_to s).locals ≡ option_map (key_of (member_to (mapping_of s) (member_of s))) (last_number q (helds_of s.renamed))
unfolding context_of
image_last s kept q =
    ap (last_named q) (seen_is (mapping_of s).keys (mapping_of s).locals (member_of s) (map (local_of (member_of s)) (locals_in s)) ∙ ap (map seen_local) (sym kept.renamed)
    ∙ locals_seen (member_to (mapping_of s) (member_of s)) (helds_of s.renamed))
    ∙ last_is (member_to (mapping_of s) (member_of s)) q (helds_of s.renamed)

-- and in the old one
pub own_last : (s : raw.Scopes) (q : List ℕ) → last_named q (scope_of (context_of s)).locals ≡ option_map (key_of (member_of s)) (last_number q (locals_in s))
unfolding context_of
own_last s q = ap (last_named q) (locals_seen (member_of s) (locals_in s)) ∙ last_is (member_of s) q (locals_in s)

pub end : (xs : List ScopeLocal) → xs ++ [] ≡ xs
end [] = refl
end (x ∷ xs) = ap (λ ys. x ∷ ys) (end xs)

-- three names, one after the other
module _ (ls : List ScopeLocal) (first name : List ℕ) (outer : Option (List ℕ)) where
  abbrev one : List ScopeLocal
  one = [] ++ if_found first (last_named first ls)

  abbrev two : List ScopeLocal
  two = one ++ if_found name (last_named name ls)

  abbrev pub three : List ScopeLocal
  three = two ++ if_maybe_found outer ls

  sound_one : Sound ls one
  sound_one = sound_step ls [] first (none_yet ls)

  sound_two : Sound ls two
  sound_two = sound_step ls one name sound_one

  maybe : (q : List ℕ) → last_named q two ≡ last_named q ls → (o : Option (List ℕ)) → last_named q (two ++ if_maybe_found o ls) ≡ last_named q ls
  maybe q found None = ap (last_named q) (end two) ∙ found
  maybe q found (Some p) = still_found ls two p q found

  pub first_found : last_named first three ≡ last_named first ls
  first_found = maybe first (still_found ls one name first (now_found ls [] first (none_yet ls))) outer

  pub name_found : last_named name three ≡ last_named name ls
  name_found = maybe name (now_found ls one name sound_one) outer

  pub outer_found : (o : List ℕ) → outer ≡ Some o → last_named o three ≡ last_named o ls
  outer_found o is = ap (λ x. last_named o (two ++ if_maybe_found x ls)) is ∙ now_found ls two o sound_two

-- ---- without locals, lookups see what is kept

module _ (s : raw.Scopes) (kept : IsKept s) where
  abbrev pub bare_to : Scope
  bare_to = record { class = (place_to s).class; is_static = (place_to s).is_static; locals = [] }

  abbrev pub bare_of : Scope
  bare_of = record { class = (scope_of (context_of s)).class; is_static = (scope_of (context_of s)).is_static; locals = [] }

  after_is : view.scope_of s.after ≡ bare_to
  unfolding context_of
  after_is = λ i. record { class = kept.image_class i; is_static = kept.image_static i; locals = kept.image_locals i }

  before_is : view.scope_of s.before ≡ bare_of
  unfolding context_of
  before_is = λ i. record { class = kept.class i; is_static = s.before.is_static; locals = kept.no_locals i }

  -- what is found in the table and the scope that are kept
  pub moved : (P : List Row → Scope → Type 0) → P s.programs.after.now (view.scope_of s.after) → P (rows_to s) bare_to
  moved P h = subst (λ (x : List Row × Scope). P x.0 x.1) (λ i. (kept.rows i, after_is i)) h

  pub moved_old : (P : Scope → Type 0) → P (view.scope_of s.before) → P bare_of
  moved_old P h = subst P before_is h
