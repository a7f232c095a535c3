-- Written members as a function has them, and what a program says of them.
use Rattle.std.proofs.Common.{◌≡◌, List, Option, Some, None, map, refl, sym, ap, subst, ◌∙◌}
use Rattle.std.specs.Prelude.{slice_get, Contains, option_map, MatchOption}
use Rattle.std.proofs.lemmas.Option.{same_Some, slice_get-map, slice_get_within, slice_get-get_or, get_or_from_slice_get}
use Rattle.jr_table.specs.Decls.{Decl, MemberKey}
use Rattle.jr_table.specs.declared.decls.Decl as raw_decl
use Rattle.jr_table.specs.KeyView.{decl_of}
use Rattle.jr_images.proofs.Imaging.{map_some}
use Rattle.jr_members.specs.declared.keyed.WrittenMember as raw
use Rattle.jr_members.specs.PartView.{written_of}
use Rattle.jr_members.specs.WrittenMembers.{WrittenMember}

contains_map : {X Y : Type 0} (f : X → Y) (xs : List X) (x : X) → Contains xs x → Contains (map f xs) (f x)
contains_map f xs x (k, lt, is) =
    let e : slice_get (map f xs) k ≡ Some (f x) = slice_get-map f xs k ∙ ap (option_map f) (slice_get-get_or xs k x lt ∙ ap Some is) in
    (k, slice_get_within (map f xs) k (f x) e, get_or_from_slice_get (map f xs) k (f x) (f x) e)

map_contains : {X Y : Type 0} (f : X → Y) (xs : List X) (y : Y) → Contains (map f xs) y → (x : X) × Contains xs x × (f x ≡ y)
map_contains f xs y (k, lt, is) =
    let r = map_some f (slice_get xs k) y (sym (slice_get-map f xs k) ∙ slice_get-get_or (map f xs) k y lt ∙ ap Some is) in
    (r.0, (k, slice_get_within xs k r.0 r.1, get_or_from_slice_get xs k r.0 r.0 r.1), r.2)

pub shown_contains : {A : Type 0} (xs : List (raw.WrittenMember A)) (x : raw.WrittenMember A) → Contains xs x → Contains (map written_of xs) (written_of x)
shown_contains xs x h = contains_map written_of xs x h

-- no member has the key, of those that are shown
pub none_has : {A : Type 0} (xs : List (raw.WrittenMember A)) (k : MemberKey) → ((x : raw.WrittenMember A) → Contains xs x → (written_of x).key ≡ k → ⊥) → (w : WrittenMember A) → Contains (map written_of xs) w → w.key ≡ k → ⊥
none_has xs k lacks w has key = let r = map_contains written_of xs w has in lacks r.0 r.1 (ap (λ (x : WrittenMember _). x.key) r.2 ∙ key)

pub at_none : {X : Type 0} (N : Type 0) (S : X → Type 0) (o : Option X) → o ≡ None → MatchOption o N S → N
at_none N S None e h = h
at_none N S (Some x) e h = absurd cc

pub at_some : {X : Type 0} (N : Type 0) (S : X → Type 0) (o : Option X) (x : X) → o ≡ Some x → MatchOption o N S → S x
at_some N S None x e h = absurd cc
at_some N S (Some y) x e h = subst S (same_Some y x e) h

-- an answer as it is told
pub told_so : (Tells : Option Decl → Type 0) (o : Option raw_decl.Decl) → Tells (option_map decl_of o) → MatchOption o (Tells None) (λ d. Tells (Some (decl_of d)))
told_so Tells None h = h
told_so Tells (Some d) h = h
