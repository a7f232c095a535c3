-- Which dependences there can't be between two sites: none but of locals on a site of a local, and
-- none of locals on another.
use Rattle.std.proofs.Common.{◌≡◌, ℕ, Bool, true, false, true≢false, Option, Some, None, refl, sym, subst, ◌∙◌}
use Rattle.std.specs.Prelude.{IsTrue, ◌↔◌, ◌&&◌, ◌||◌}
use Rattle.std.proofs.lemmas.Bool.{and_from, and_parts, false≢true}
use Rattle.jr_sync.specs.declared.sites.Site.{Site}
use Rattle.jr_sync.specs.declared.sites.Site.TheVariants.{Read, Write, Access, Check, Call, Loop}
use Rattle.jr_sync.specs.declared.sites.DepKind.{DepKind}
use Rattle.jr_sync.specs.declared.sites.DepKind.TheVariants.{Order, Field, Sync, Flow, Anti, Output}
use Rattle.jr_sync.specs.Sites.{is_access, is_wild, kind_of, field_of}
use Rattle.jr_sync.specs.Relations.{Agree, is_ordered, Related}
use Rattle.jr_flow.specs.declared.reached.Reached.{Reached}
use Rattle.jr_dependences.specs.Kinds.{has, none, ordered}
use Rattle.jr_dependences.specs.Known.{is_local, Gives}

pub never : (kind : DepKind) → IsTrue (has none kind) → ⊥
never Order e = false≢true e
never Field e = false≢true e
never Sync e = false≢true e
never Flow e = false≢true e
never Anti e = false≢true e
never Output e = false≢true e

-- two tests that hold together
pub both : {P Q : Type 0} (a b : Bool) → (IsTrue a ↔ P) → (IsTrue b ↔ Q) → (IsTrue (a && b) ↔ (P × Q))
both a b p q = (λ e. let parts = and_parts a b e in (p.0 parts.0, q.0 parts.1), λ h. and_from a b (p.1 h.0) (q.1 h.1))

no_key : {X : Type 0} (R : X → X → Type 0) (o p : Option X) → p ≡ None → Agree R o p → ⊥
no_key {X = X} R None p is h = h
no_key {X = X} R (Some x) p is h = subst (λ (q : Option X). Agree R (Some x) q) is h

-- what is wild, in front of what isn't of a local
wild_first : {K L : Type 0} (b : Site K L) → is_local b ≡ false → (is_wild b || is_access b) || false ≡ true
wild_first (Read l) o = absurd (true≢false o)
wild_first (Write l) o = absurd (true≢false o)
wild_first (Access k f) o = refl
wild_first Check o = refl
wild_first Call o = refl
wild_first Loop o = refl

module _ {K L : Type 0} (F : K → K → Type 0) (M : L → L → Type 0) where
  local_order : (a b : Site K L) → is_local a ≡ true → Related F M Order a b → ⊥
  local_order (Read l) b e h = true≢false (sym h)
  local_order (Write l) b e h = true≢false (sym h)
  local_order (Access k f) b e h = true≢false (sym e)
  local_order Check b e h = true≢false (sym e)
  local_order Call b e h = true≢false (sym e)
  local_order Loop b e h = true≢false (sym e)

  local_field : (a b : Site K L) → is_local a ≡ true → Related F M Field a b → ⊥
  local_field (Read l) b e h = h.0
  local_field (Write l) b e h = h.0
  local_field (Access k f) b e h = true≢false (sym e)
  local_field Check b e h = true≢false (sym e)
  local_field Call b e h = true≢false (sym e)
  local_field Loop b e h = true≢false (sym e)

  local_sync : (a b : Site K L) → is_local a ≡ true → Related F M Sync a b → ⊥
  local_sync (Read l) b e h = h
  local_sync (Write l) b e h = h
  local_sync (Access k f) b e h = true≢false (sym e)
  local_sync Check b e h = true≢false (sym e)
  local_sync Call b e h = true≢false (sym e)
  local_sync Loop b e h = true≢false (sym e)

  other_flow : (a b : Site K L) → is_local a ≡ false → Related F M Flow a b → ⊥
  other_flow (Read l) b e h = true≢false e
  other_flow (Write l) b e h = true≢false e
  other_flow (Access k f) b e h = h
  other_flow Check b e h = h
  other_flow Call b e h = h
  other_flow Loop b e h = h

  other_anti : (a b : Site K L) → is_local a ≡ false → Related F M Anti a b → ⊥
  other_anti (Read l) b e h = true≢false e
  other_anti (Write l) b e h = true≢false e
  other_anti (Access k f) b e h = h
  other_anti Check b e h = h
  other_anti Call b e h = h
  other_anti Loop b e h = h

  other_output : (a b : Site K L) → is_local a ≡ false → Related F M Output a b → ⊥
  other_output (Read l) b e h = true≢false e
  other_output (Write l) b e h = true≢false e
  other_output (Access k f) b e h = h
  other_output Check b e h = h
  other_output Call b e h = h
  other_output Loop b e h = h

  unordered : (a b : Site K L) → is_local b ≡ true → is_ordered a b ≡ false
  unordered (Read l) (Read m) e = refl
  unordered (Read l) (Write m) e = refl
  unordered (Write l) (Read m) e = refl
  unordered (Write l) (Write m) e = refl
  unordered (Access k f) (Read m) e = refl
  unordered (Access k f) (Write m) e = refl
  unordered Check (Read m) e = refl
  unordered Check (Write m) e = refl
  unordered Call (Read m) e = refl
  unordered Call (Write m) e = refl
  unordered Loop (Read m) e = refl
  unordered Loop (Write m) e = refl
  unordered a (Access k f) e = absurd (false≢true e)
  unordered a Check e = absurd (false≢true e)
  unordered a Call e = absurd (false≢true e)
  unordered a Loop e = absurd (false≢true e)

  no_field : (b : Site K L) → is_local b ≡ true → field_of b ≡ None
  no_field (Read m) e = refl
  no_field (Write m) e = refl
  no_field (Access k f) e = absurd (false≢true e)
  no_field Check e = refl
  no_field Call e = refl
  no_field Loop e = refl

  no_kind : (b : Site K L) → is_local b ≡ true → kind_of b ≡ None
  no_kind (Read m) e = refl
  no_kind (Write m) e = refl
  no_kind (Access k f) e = absurd (false≢true e)
  no_kind Check e = refl
  no_kind Call e = refl
  no_kind Loop e = refl

  wild_order : (a b : Site K L) → is_local a ≡ false → is_local b ≡ false → (is_wild b || is_wild a) ≡ true → is_ordered a b ≡ true
  wild_order (Read l) b e o w = absurd (true≢false e)
  wild_order (Write l) b e o w = absurd (true≢false e)
  wild_order (Access k f) (Read l) e o w = absurd (true≢false o)
  wild_order (Access k f) (Write l) e o w = absurd (true≢false o)
  wild_order (Access k f) (Access n g) e o w = absurd (false≢true w)
  wild_order (Access k f) Check e o w = refl
  wild_order (Access k f) Call e o w = refl
  wild_order (Access k f) Loop e o w = refl
  wild_order Check b e o w = wild_first b o
  wild_order Call b e o w = wild_first b o
  wild_order Loop b e o w = wild_first b o

  wild_field : (a b : Site K L) → (is_wild b || is_wild a) ≡ true → Agree F (field_of a) (field_of b) → ⊥
  wild_field (Read l) b w h = h
  wild_field (Write l) b w h = h
  wild_field (Access k f) (Read l) w h = no_key F f None refl h
  wild_field (Access k f) (Write l) w h = no_key F f None refl h
  wild_field (Access k f) (Access n g) w h = false≢true w
  wild_field (Access k f) Check w h = no_key F f None refl h
  wild_field (Access k f) Call w h = no_key F f None refl h
  wild_field (Access k f) Loop w h = no_key F f None refl h
  wild_field Check b w h = h
  wild_field Call b w h = h
  wild_field Loop b w h = h

  wild_kind : (a b : Site K L) → (is_wild b || is_wild a) ≡ true → Related F M Sync a b → ⊥
  wild_kind (Read l) b w h = h
  wild_kind (Write l) b w h = h
  wild_kind (Access k f) (Read l) w h = h
  wild_kind (Access k f) (Write l) w h = h
  wild_kind (Access k f) (Access n g) w h = false≢true w
  wild_kind (Access k f) Check w h = h
  wild_kind (Access k f) Call w h = h
  wild_kind (Access k f) Loop w h = h
  wild_kind Check b w h = h
  wild_kind Call b w h = h
  wild_kind Loop b w h = h

  tame_order : (a b : Site K L) → (is_wild b || is_wild a) ≡ false → is_ordered a b ≡ false
  tame_order a Check w = absurd (true≢false w)
  tame_order a Call w = absurd (true≢false w)
  tame_order a Loop w = absurd (true≢false w)
  tame_order (Read l) (Read m) w = refl
  tame_order (Read l) (Write m) w = refl
  tame_order (Read l) (Access n g) w = refl
  tame_order (Write l) (Read m) w = refl
  tame_order (Write l) (Write m) w = refl
  tame_order (Write l) (Access n g) w = refl
  tame_order (Access k f) (Read m) w = refl
  tame_order (Access k f) (Write m) w = refl
  tame_order (Access k f) (Access n g) w = refl
  tame_order Check (Read m) w = absurd (true≢false w)
  tame_order Check (Write m) w = absurd (true≢false w)
  tame_order Check (Access n g) w = absurd (true≢false w)
  tame_order Call (Read m) w = absurd (true≢false w)
  tame_order Call (Write m) w = absurd (true≢false w)
  tame_order Call (Access n g) w = absurd (true≢false w)
  tame_order Loop (Read m) w = absurd (true≢false w)
  tame_order Loop (Write m) w = absurd (true≢false w)
  tame_order Loop (Access n g) w = absurd (true≢false w)

  module _ (a b : Site K L) where
    pub of_local : (given : Option Reached) (second : ℕ) → is_local a ≡ true → (flow anti output : Bool) → (IsTrue flow ↔ (Gives given Flow second × Related F M Flow a b)) → (IsTrue anti ↔ Related F M Anti a b)
        → (IsTrue output ↔ Related F M Output a b) → (kind : DepKind)
        → (IsTrue (has (record { order = false; field = false; sync = false; flow = flow; anti = anti; output = output }) kind) ↔ (Gives given kind second × Related F M kind a b))
    of_local given second is flow anti output f n o Order = (λ e. absurd (false≢true e), λ p. absurd (local_order a b is p.1))
    of_local given second is flow anti output f n o Field = (λ e. absurd (false≢true e), λ p. absurd (local_field a b is p.1))
    of_local given second is flow anti output f n o Sync = (λ e. absurd (false≢true e), λ p. absurd (local_sync a b is p.1))
    of_local given second is flow anti output f n o Flow = f
    of_local given second is flow anti output f n o Anti = (λ e. (tt, n.0 e), λ p. n.1 p.1)
    of_local given second is flow anti output f n o Output = (λ e. (tt, o.0 e), λ p. o.1 p.1)

    -- on a site of no local: beside one of a local in no way
    pub beside_local : is_local a ≡ false → is_local b ≡ true → (kind : DepKind) → (IsTrue (has none kind) ↔ Related F M kind a b)
    beside_local is other kind = (λ e. absurd (never kind e), λ h. absurd (apart kind h))
      where
        apart : (k : DepKind) → Related F M k a b → ⊥
        apart Order h = true≢false (sym h ∙ unordered a b other)
        apart Field h = no_key F (field_of a) (field_of b) (no_field b other) h.0
        apart Sync h = no_key _ (kind_of a) (kind_of b) (no_kind b other) h
        apart Flow h = other_flow a b is h
        apart Anti h = other_anti a b is h
        apart Output h = other_output a b is h

    -- beside one that is wild, or as one, in order alone
    pub beside_wild : is_local a ≡ false → is_local b ≡ false → (is_wild b || is_wild a) ≡ true → (kind : DepKind) → (IsTrue (has ordered kind) ↔ Related F M kind a b)
    beside_wild is other wild Order = (λ e. wild_order a b is other wild, λ h. refl)
    beside_wild is other wild Field = (λ e. absurd (false≢true e), λ h. absurd (wild_field a b wild h.0))
    beside_wild is other wild Sync = (λ e. absurd (false≢true e), λ h. absurd (wild_kind a b wild h))
    beside_wild is other wild Flow = (λ e. absurd (false≢true e), λ h. absurd (other_flow a b is h))
    beside_wild is other wild Anti = (λ e. absurd (false≢true e), λ h. absurd (other_anti a b is h))
    beside_wild is other wild Output = (λ e. absurd (false≢true e), λ h. absurd (other_output a b is h))

    -- and else both are accesses
    pub of_accesses : is_local a ≡ false → (is_wild b || is_wild a) ≡ false → (field sync : Bool) → (IsTrue field ↔ Related F M Field a b) → (IsTrue sync ↔ Related F M Sync a b) → (kind : DepKind)
        → (IsTrue (has (record { order = false; field = field; sync = sync; flow = false; anti = false; output = false }) kind) ↔ Related F M kind a b)
    of_accesses is tame field sync f s Order = (λ e. absurd (false≢true e), λ h. absurd (true≢false (sym h ∙ tame_order a b tame)))
    of_accesses is tame field sync f s Field = f
    of_accesses is tame field sync f s Sync = s
    of_accesses is tame field sync f s Flow = (λ e. absurd (false≢true e), λ h. absurd (other_flow a b is h))
    of_accesses is tame field sync f s Anti = (λ e. absurd (false≢true e), λ h. absurd (other_anti a b is h))
    of_accesses is tame field sync f s Output = (λ e. absurd (false≢true e), λ h. absurd (other_output a b is h))

    -- on a site of no local nothing has to be given
    gives_other : is_local a ≡ false → (given : Option Reached) (second : ℕ) (kind : DepKind) → Related F M kind a b → Gives given kind second
    gives_other is given second Flow h = absurd (other_flow a b is h)
    gives_other is given second Order h = tt
    gives_other is given second Field h = tt
    gives_other is given second Sync h = tt
    gives_other is given second Anti h = tt
    gives_other is given second Output h = tt

    pub given_other : is_local a ≡ false → (given : Option Reached) (second : ℕ) (kind : DepKind) (holds : Bool) → (IsTrue holds ↔ Related F M kind a b) → (IsTrue holds ↔ (Gives given kind second × Related F M kind a b))
    given_other is given second kind holds h = (λ e. (gives_other is given second kind (h.0 e), h.0 e), λ p. h.1 p.1)
