-- Worked examples: of a small body the sites of two pieces, which footprints have them, and the pair
-- that they lose.
use Rattle.std.proofs.Common.{◌≡◌, ℕ, zero, suc, ◌+◌, ◌<◌, Bool, true, false, List, [], ◌∷◌, Option, Some, None, codes, refl, sym, ap, subst, ◌∙◌, ◌⊎◌, inl, inr, arith}
use Rattle.std.specs.Prelude.{slice_get}
use Rattle.std.proofs.lemmas.Bool.{false≢true, true≢false}
use Rattle.std.proofs.lemmas.Option.{same_Some, none-some}
use Rattle.jr_text.specs.declared.spans.Span.{Span}
use Rattle.jr_text.specs.declared.spans.Place.{Place}
use Rattle.jr_ast.specs.declared.operators.BinOp.TheVariants.{Add}
use Rattle.jr_ast.specs.declared.operators.ModWord.TheVariants.{Volatile}
use Rattle.jr_ast.specs.Tree as tree
use Rattle.jr_ast.specs.StatementTree as statement
use Rattle.jr_sync.specs.declared.kinds.Kind.TheVariants.{Load, VolatileLoad}
use Rattle.jr_sync.specs.declared.sites.Site as shown
use Rattle.jr_sync.specs.declared.sites.Site.TheVariants.{Access}
use Rattle.jr_sync.specs.declared.sites.DepKind.{DepKind}
use Rattle.jr_sync.specs.declared.sites.DepKind.TheVariants.{Order, Field, Sync, Flow, Anti, Output}
use Rattle.jr_sync.specs.Sites.{is_store}
use Rattle.jr_sync.specs.Relations.{Related, AreInConflict}
use Rattle.jr_table.specs.declared.keys.FieldKey as raw_field
use Rattle.jr_table.specs.Keys.{ClassKey, FieldKey, int}
use Rattle.jr_table.specs.Decls.{LocalKey, MemberKey, method, field_decl}
use Rattle.jr_table.specs.Rows.{Row}
use Rattle.jr_table.specs.Entries.{number_of}
use Rattle.jr_table.specs.HeadRules.{plain}
use Rattle.jr_names.specs.Sites.{DepPair}
use Rattle.jr_bind.specs.Programs.{Program}
use Rattle.jr_cover.specs.Ways.{sites_of}
use Rattle.jr_cover.specs.Sites.{exp_way}
use Rattle.jr_effect.specs.Plain.{Same}
use Rattle.jr_sites.specs.declared.sites.PlacedSite as raw
use Rattle.jr_pieces.specs.Ways.{here, in_right, StmtWay, in_returned}
use Rattle.jr_pieces.specs.Before.{stmt_before}
use Rattle.jr_local.specs.Bodies.{Body}
use Rattle.jr_local.specs.BodyFacts.{known}
use Rattle.jr_local_footprints.specs.LostPairs.{AreSitesOf, IsLostPair, Stands}

-- ---- class A{int f;volatile int v;int m(){return this.v+this.f;}}

abbrev span : ℕ → ℕ → Span
span from to = record { from = from; to = to }

abbrev A : ClassKey
A = record { outer = None; name = codes "A" }

abbrev field : List ℕ → FieldKey
field name = record { class = A; name = name }

abbrev p : Program Span
p = record {
  files = [];
  rows = record { decl = field_decl (field (codes "f")); modifiers = []; type = Some int; parent = None; has_init = false }
      ∷ record { decl = field_decl (field (codes "v")); modifiers = Volatile ∷ []; type = Some int; parent = None; has_init = false } ∷ [];
  super_at = λ k. 0;
  bounds = [];
}

abbrev m : MemberKey
m = method (record { class = A; name = codes "m"; params = [] })

-- `this` alone is never null here
abbrev is_this : tree.Exp Span → Bool
is_this (tree.this k) = true
is_this _ = false

abbrev of_this : (from : ℕ) → List ℕ → tree.Exp Span
of_this from name = tree.field (span from (6 + from)) (tree.this (span from (4 + from))) (record { mark = span (5 + from) (6 + from); text = name })

abbrev sum : tree.Exp Span
sum = tree.binary (span 44 57) Add (of_this 44 (codes "v")) (of_this 51 (codes "f"))

-- The method begins at byte 29.
abbrev b : Body
b = record {
  key = m;
  at = record { next = 0; context = plain m false; base = 29 };
  list = statement.more (statement.return (span 37 58) (Some sum)) statement.end;
  front = 0;
  bound = record {
    member = m;
    references = record { at = 20; decl = field_decl (field (codes "v")) } ∷ record { at = 27; decl = field_decl (field (codes "f")) } ∷ [];
    errors = [];
    types = [];
  };
}

abbrev right_operand : StmtWay (of_this 51 (codes "f")) (statement.return (span 37 58) (Some sum))
right_operand = in_returned (span 37 58) sum (in_right (span 44 57) Add (of_this 44 (codes "v")) (of_this 51 (codes "f")) here)

-- ---- footprints, with bytes from the member's first one

abbrev shown_field : List ℕ → raw_field.FieldKey
shown_field name = record { class = record { outer = None; name = codes "A" }; name = name }

abbrev volatile_load : raw.PlacedSite
volatile_load = record { at = 20; site = Access VolatileLoad (Some (shown_field (codes "v"))) }

abbrev load : raw.PlacedSite
load = record { at = 27; site = Access Load (Some (shown_field (codes "f"))) }

front_has : AreSitesOf p 0 b (stmt_before (known p b is_this) right_operand) (volatile_load ∷ [])
unfolding number_of
front_has = record { are = refl; places = refl }

piece_has : AreSitesOf p 0 b (sites_of (exp_way (known p b is_this) (of_this 51 (codes "f")))) (load ∷ [])
unfolding number_of
piece_has = record { are = refl; places = refl }

-- ---- one site in front of another

abbrev Shown : Type 0
Shown = shown.Site FieldKey LocalKey

abbrev loads_v : Shown
loads_v = Access VolatileLoad (Some (field (codes "v")))

abbrev loads_f : Shown
loads_f = Access Load (Some (field (codes "f")))

one_of : {X : Type 0} (x y : X) (i : ℕ) → slice_get (x ∷ []) i ≡ Some y → x ≡ y
one_of x y zero e = same_Some x y e
one_of x y (suc i) e = absurd (none-some y e)

-- what the three tests ask of two sites
abbrev Asks : Type 1
Asks = DepKind → Shown → Shown → Type 0

abbrev asks_wild : Asks
asks_wild kind x y = (kind ≡ Order) × Related Same Same Order x y

abbrev asks_accesses : Asks
asks_accesses kind x y = ((kind ≡ Field) × Related Same Same Field x y) ⊎ ((kind ≡ Sync) × (Related Same Same Field x y → ⊥) × Related Same Same Sync x y)

abbrev asks_locals : Asks
asks_locals kind x y = ((kind ≡ Flow) × Related Same Same Flow x y) ⊎ ((kind ≡ Anti) × Related Same Same Anti x y) ⊎ ((kind ≡ Output) × Related Same Same Output x y)

abbrev Free : Asks → Shown → Shown → Type 0
Free asks x y = (kind : DepKind) → asks kind x y → ⊥

nowhere : (asks : Asks) (x y : Shown) → Free asks x y → (i j : ℕ) (kind : DepKind) → (a b : Shown) × (slice_get (x ∷ []) i ≡ Some a) × (slice_get (y ∷ []) j ≡ Some b) × asks kind a b → ⊥
nowhere asks x y free i j kind (a, b, at_i, at_j, found) =
    free kind (subst (λ (z : Shown). asks kind z y) (sym (one_of x a i at_i)) (subst (λ (z : Shown). asks kind a z) (sym (one_of y b j at_j)) found))

-- ---- a volatile load stays in front of a plain one

loads_store_nothing : (x y : Shown) → AreInConflict Same x y → is_store x ≡ false → is_store y ≡ false → ⊥
loads_store_nothing x y (agree, inl stores) no_x no_y = false≢true (sym no_x ∙ stores)
loads_store_nothing x y (agree, inr stores) no_x no_y = false≢true (sym no_y ∙ stores)

never_wild : Free asks_wild loads_v loads_f
never_wild kind (is, ordered) = false≢true ordered

stays : asks_accesses Sync loads_v loads_f
stays = inr (refl, (λ conflict. loads_store_nothing loads_v loads_f conflict refl refl), refl)

no_earlier : (m n : ℕ) → ((m < 0) ⊎ ((m ≡ 0) × (n < 0))) → ⊥
no_earlier m n (inl l) = omega (arith, l)
no_earlier m n (inr (e, l)) = omega (arith, l)

abbrev kept : DepPair
kept = record {
  kind = Sync;
  first = record { place = record { file = 0; at = 49 }; site = loads_v };
  second = record { place = record { file = 0; at = 56 }; site = loads_f };
}

pair_is_lost : IsLostPair 0 29 (volatile_load ∷ []) (load ∷ []) (Some kept)
pair_is_lost = record {
  i = 0;
  j = 0;
  crossing = inr (inl (nowhere asks_wild loads_v loads_f never_wild, ((loads_v, loads_f, refl, refl, stays), (λ m n kind at earlier. no_earlier m n earlier))));
  first = record { of = volatile_load; stands = refl; site = refl; place = refl };
  second = record { of = load; stands = refl; site = refl; place = refl };
}

-- bytes of footprints aren't counted from the file's first one
not_from_the_file : Stands 0 0 (volatile_load ∷ []) 0 kept.first → ⊥
not_from_the_file h = let s : volatile_load ≡ h.of = same_Some volatile_load h.of h.stands in
    let e : 49 ≡ 0 + h.of.at = ap (λ (x : Place). x.at) h.place in
    let n : 20 ≡ h.of.at = ap (λ (x : raw.PlacedSite). x.at) s in
    omega (arith, e, n)

-- ---- a plain load that is in front of a volatile one may go behind it

not_wild : Free asks_wild loads_f loads_v
not_wild kind (is, ordered) = false≢true ordered

not_kept : Free asks_accesses loads_f loads_v
not_kept kind (inl (is, conflict)) = loads_store_nothing loads_f loads_v conflict refl refl
not_kept kind (inr (is, apart, keeps)) = true≢false keeps

not_local : Free asks_locals loads_f loads_v
not_local kind (inl (is, agree)) = agree
not_local kind (inr (inl (is, agree))) = agree
not_local kind (inr (inr (is, agree))) = agree

nothing_is_lost : IsLostPair 0 29 (load ∷ []) (volatile_load ∷ []) None
nothing_is_lost = record {
  ordered = nowhere asks_wild loads_f loads_v not_wild;
  accesses = nowhere asks_accesses loads_f loads_v not_kept;
  locals = nowhere asks_locals loads_f loads_v not_local;
}
