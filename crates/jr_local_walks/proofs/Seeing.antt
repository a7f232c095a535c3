-- A region in which kept locals have images and expressions keep their types, beside a mapping of
-- the walk.
use Rattle.std.proofs.Common.{◌≡◌, ℕ, List, [], ◌∷◌, map, Option, None, refl, ap, ◌∙◌}
use Rattle.std.specs.Prelude.{◌⊎◌}
use Rattle.jr_text.specs.declared.spans.Span.{Span}
use Rattle.jr_table.specs.Keys.{ClassKey, Ty, int, boolean, void, null, class}
use Rattle.jr_table.specs.Decls.{LocalKey}
use Rattle.jr_table.specs.Rows.{Row}
use Rattle.jr_table.specs.Entries.{class_of_member}
use Rattle.jr_table.specs.Scope.{ScopeLocal}
use Rattle.jr_table.specs.Context.{Context, scope_local}
use Rattle.jr_new_words.specs.Mappings.{same_keys, type_by, types_by, GoneLocal, Renumbering, renumbered, type_where, types_where, seen_locals_by, region_of}
use Rattle.jr_new_words.specs.Mappings as walk
use Rattle.jr_local.specs.Scopes.{HasKeptClass, seen_by, plain_region}
use Rattle.jr_local_walks.specs.Contexts.{Each}
use Rattle.jr_local_walks.specs.Mappings.{moved}
use Rattle.jr_local_walks.proofs.Agreeing.{Agree}
use Rattle.jr_local_walks.proofs.Kept.{Agrees}

pub same_type : (t : Ty) → type_by same_keys t ≡ t
same_type int = refl
same_type boolean = refl
same_type void = refl
same_type null = refl
same_type (class k) = refl

pub same_types : (ts : List Ty) → types_by same_keys ts ≡ ts
same_types [] = refl
same_types (t ∷ ts) = λ i. same_type t i ∷ same_types ts i

pub agree_by : (begins : Span → ℕ → ℕ) (rows : List Row) (r : Renumbering) (to : LocalKey → Option LocalKey) (locals_to : List ScopeLocal → List ScopeLocal) (HasMade : LocalKey → ClassKey → Type 0) (c : Context)
    → seen_locals_by same_keys (renumbered r) c.member c.locals ≡ locals_to (map scope_local c.locals) → Each (Agrees r to) c.locals
    → ((k : LocalKey) (b : ClassKey) → walk.HasClass rows (moved rows r) c k b → HasKeptClass rows to c k b ⊎ HasMade k b)
    → ((k : LocalKey) (b : ClassKey) → HasKeptClass rows to c k b ⊎ HasMade k b → walk.HasClass rows (moved rows r) c k b) → r.gone ≡ None
    → Agree begins rows (region_of rows (moved rows r)) (plain_region (seen_by rows to locals_to HasMade)) c
agree_by begins rows r to locals_to HasMade c scope locals there back gone = record {
  images = refl;
  scope = λ i. record { class = class_of_member c.member; is_static = c.is_static; locals = scope i };
  locals = locals;
  there = there;
  back = back;
  type = λ e u. ap (λ (g : Option GoneLocal). type_by same_keys (type_where g c e u)) gone ∙ same_type u;
  types = λ es us have. ap (λ (g : Option GoneLocal). types_by same_keys (types_where g c es us)) gone ∙ same_types us;
}
