-- How places change.
use Rattle.std.proofs.Common.{◌≡◌, ℕ, List, [], ◌∷◌, ◌++◌, length, take, map, Option, Some, None, Bool, true, refl, sym, ap, subst, ◌∙◌}
use Rattle.std.proofs.lemmas.List.{map-append, take-map, length-map}
use Rattle.std.specs.Prelude.{option_map}
use Rattle.jr_ast.specs.Tree as tree
use Rattle.jr_table.specs.Decls.{MemberKey}
use Rattle.jr_table.specs.Context.{Context, local_type, in_own, local_of}
use Rattle.jr_scopes.specs.Helds.{Held, key_of}
use Rattle.jr_scopes.specs.Helds as helds
use Rattle.jr_new_words.specs.declared.scopes.Scopes.{Scopes}
use Rattle.jr_new_words.specs.Scopes as scopes
use Rattle.jr_new_words.specs.Mappings.{Mapping}
use Rattle.jr_new_words.specs.Scopes.{IsKept, IsDeep, AreBeside, locals_in, member_of}
use Rattle.jr_new_bodies.specs.declared.here.Here as raw
use Rattle.jr_new_bodies.specs.Known.{context_of, mapping_of}
use Rattle.jr_new_bodies.specs.Moves.{Goes, IsHeld, cut, without_own}

-- what is known at a place of scopes beside another
beside_context : (s u : Scopes) → AreBeside s u → (hs : List Held) → locals_in u ≡ hs → (own : Option ℕ) → u.own ≡ own
    → scopes.context_of u ≡ record { member = member_of s; is_static = s.before.is_static; locals = map (helds.local_of (member_of s)) hs; own = option_map (key_of (member_of s)) own }
unfolding scopes.context_of
beside_context s u b hs are own is = λ i. record {
  member = b.member i;
  is_static = b.is_static i;
  locals = map (helds.local_of (b.member i)) (are i);
  own = option_map (key_of (b.member i)) (is i);
}

beside_then : (s t u : Scopes) → AreBeside s t → AreBeside t u → AreBeside s u
beside_then s t u a b = record { rows = b.rows ∙ a.rows; mapping = b.mapping ∙ a.mapping; member = b.member ∙ a.member; is_static = b.is_static ∙ a.is_static }

local_is : {A : Type 0} (k : MemberKey) (n : ℕ) (f : Bool) (t : tree.TypeName A) (w : tree.Word A) (h : Held) → IsHeld n f t w h
    → helds.local_of k h ≡ record { name = w.text; key = key_of k n; is_final = f; type = local_type t; has_init = true }
local_is k n f t w h is = λ i. record { name = is.name i; key = key_of k (is.number_is i); is_final = is.final i; type = is.type i; has_init = is.init i }

goes_to : (h : raw.Here) (u : Scopes) (c : Context) → AreBeside h.scopes u → IsKept u → scopes.context_of u ≡ c
    → Goes h (record { scopes = u; bound = h.bound; from = h.from; spots = h.spots }) c
goes_to h u c b kept is = record { known = kept; context = is; rows = b.rows; mapping = b.mapping; bound = refl; from_is = refl; spots = refl }

module _ (h : raw.Here) where
  pub declared : {A : Type 0} (t u : Scopes) (n : ℕ) (f : Bool) (ty : tree.TypeName A) (w : tree.Word A) (hd : Held)
      → IsHeld n f ty w hd → AreBeside h.scopes t → locals_in t ≡ locals_in h.scopes ++ hd ∷ []
      → AreBeside t u → locals_in u ≡ locals_in t → u.own ≡ Some n → IsKept u
      → Goes h (record { scopes = u; bound = h.bound; from = h.from; spots = h.spots }) (in_own (context_of h) (local_of (context_of h) n f ty w))
  unfolding scopes.context_of
  declared t u n f ty w hd held b pushed d same own kept =
      let s = h.scopes in
      let k = member_of s in
      let all : map (helds.local_of k) (locals_in s ++ hd ∷ []) ≡ map (helds.local_of k) (locals_in s) ++ local_of (context_of h) n f ty w ∷ [] =
      map-append (helds.local_of k) (locals_in s) (hd ∷ []) ∙ ap (λ l. map (helds.local_of k) (locals_in s) ++ l ∷ []) (local_is k n f ty w hd held) in
      goes_to h u (in_own (context_of h) (local_of (context_of h) n f ty w)) (beside_then s t u b d) kept
      (beside_context s u (beside_then s t u b d) (locals_in s ++ hd ∷ []) (same ∙ pushed) (Some n) own ∙ (λ i. record { member = k; is_static = s.before.is_static; locals = all i; own = Some (key_of k n) }))

  pub left_own : (u : Scopes) → AreBeside h.scopes u → locals_in u ≡ locals_in h.scopes → u.own ≡ None → IsKept u
      → Goes h (record { scopes = u; bound = h.bound; from = h.from; spots = h.spots }) (without_own (context_of h))
  unfolding scopes.context_of
  left_own u b same own kept = goes_to h u (without_own (context_of h)) b kept (beside_context h.scopes u b (locals_in h.scopes) same None own)

  pub cut_to : (t u : Scopes) (n : ℕ) (own : Option ℕ) → AreBeside h.scopes t → locals_in t ≡ take n (locals_in h.scopes) → AreBeside t u → locals_in u ≡ locals_in t → u.own ≡ own → IsKept u
      → Goes h (record { scopes = u; bound = h.bound; from = h.from; spots = h.spots }) (cut n own (context_of h))
  unfolding scopes.context_of
  cut_to t u n own b fewer d same owned kept =
      let s = h.scopes in
      let k = member_of s in
      let all : map (helds.local_of k) (take n (locals_in s)) ≡ take n (map (helds.local_of k) (locals_in s)) = sym (take-map (helds.local_of k) n (locals_in s)) in
      goes_to h u (cut n own (context_of h)) (beside_then s t u b d) kept
      (beside_context s u (beside_then s t u b d) (take n (locals_in s)) (same ∙ fewer) own owned ∙ (λ i. record { member = k; is_static = s.before.is_static; locals = all i; own = option_map (key_of k) own }))

  pub depth_is : length (locals_in h.scopes) ≡ length (context_of h).locals
  unfolding scopes.context_of
  depth_is = sym (length-map (locals_in h.scopes) (helds.local_of (member_of h.scopes)))

  -- another place of the region, where no more locals are taken away
  pub deep_there : (i : raw.Here) (depth : ℕ) → IsKept h.scopes → mapping_of i ≡ mapping_of h → depth ≡ length (context_of h).locals → IsDeep (mapping_of i).locals depth
  deep_there i depth kept is e =
      subst (λ (g : Mapping). IsDeep g.locals depth) (sym is) (subst (IsDeep (mapping_of h).locals) (depth_is ∙ sym e) kept.deep)

  pub own_is : (context_of h).own ≡ option_map (key_of (context_of h).member) h.scopes.own
  unfolding scopes.context_of
  own_is = refl
