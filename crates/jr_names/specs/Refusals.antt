-- Why a step is refused, as contracts see it: plain data over pure keys.
use Rattle.std.specs.Prelude.{ℕ, List}
use Rattle.jr_text.specs.declared.spans.Place.{Place}
use Rattle.jr_sync.specs.declared.sites.DepKind.{DepKind}
use Rattle.jr_table.specs.Keys.{ClassKey, MethodKey}
use Rattle.jr_table.specs.Decls.{MemberKey, LocalKey, Decl}
use Rattle.jr_table.specs.Found.{Found}
use Rattle.jr_names.specs.Sites.{SiteAt}

pub data Refusal : Type 0 where
  no_such_file : (name : List ℕ) → Refusal
  bad_place : (file : List ℕ) (at : ℕ) → Refusal
  bad_name : (name : List ℕ) → Refusal
  source_error : (file : List ℕ) (at : ℕ) (kind : List ℕ) → Refusal
  bad_target : (at : Place) (need : List ℕ) → Refusal
  prelude_method : (method : List ℕ) → Refusal
  conditional : (at : Place) → Refusal
  has_return : (at : Place) → Refusal
  two_results : (first : LocalKey) (second : LocalKey) → Refusal
  many_targets : (call : Place) (method : MethodKey) → Refusal
  may_be_null : (at : Place) → Refusal
  recursive : (call : Place) → Refusal
  assigned : (local : LocalKey) (at : Place) → Refusal
  clash : (with : Decl) → Refusal
  override_changed : (class : ClassKey) (method : MethodKey) → Refusal
  lost_binding : (reference : Place) (declaration : Decl) (found : Found) → Refusal
  would_not_compile : (at : Place) (rule : List ℕ) → Refusal
  lost_dependence : (kind : DepKind) (first : SiteAt) (second : SiteAt) → Refusal
  bad_span : (from : ℕ) (to : ℕ) → Refusal
  too_long : (len : ℕ) → Refusal
  nothing_to_undo : Refusal
  nothing_to_redo : Refusal
  report_full : (len : ℕ) → Refusal
  too_many_sites : (member : MemberKey) (count : ℕ) → Refusal
