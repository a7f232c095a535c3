-- The pure refusal that a refusal stands for.
use Rattle.jr_table.specs.TypeView.{class_key_of}
use Rattle.jr_table.specs.KeyView.{method_key_of, member_key_of, local_key_of, decl_of}
use Rattle.jr_table.specs.FoundView.{found_of}
use Rattle.jr_names.specs.declared.refusals.Refusal as raw
use Rattle.jr_names.specs.declared.refusals.Refusal.TheVariants as shown
use Rattle.jr_names.specs.SiteView.{site_at_of}
use Rattle.jr_names.specs.Refusals.{Refusal, no_such_file, bad_place, bad_name, source_error}
use Rattle.jr_names.specs.Refusals.{bad_target, prelude_method, conditional, has_return}
use Rattle.jr_names.specs.Refusals.{two_results, many_targets, may_be_null, recursive, assigned}
use Rattle.jr_names.specs.Refusals.{clash, override_changed, lost_binding, would_not_compile}
use Rattle.jr_names.specs.Refusals.{lost_dependence, bad_span, too_long, nothing_to_undo}
use Rattle.jr_names.specs.Refusals.{nothing_to_redo, report_full, too_many_sites}

abbrev pub refusal_of : raw.Refusal → Refusal
refusal_of (shown.NoSuchFile name) = no_such_file name
refusal_of (shown.BadPlace file at) = bad_place file at
refusal_of (shown.BadName name) = bad_name name
refusal_of (shown.SourceError file at kind) = source_error file at kind
refusal_of (shown.BadTarget at need) = bad_target at need
refusal_of (shown.PreludeMethod method) = prelude_method method
refusal_of (shown.Conditional at) = conditional at
refusal_of (shown.HasReturn at) = has_return at
refusal_of (shown.TwoResults first second) = two_results (local_key_of first) (local_key_of second)
refusal_of (shown.ManyTargets call method) = many_targets call (method_key_of method)
refusal_of (shown.MayBeNull at) = may_be_null at
refusal_of (shown.Recursive call) = recursive call
refusal_of (shown.Assigned local at) = assigned (local_key_of local) at
refusal_of (shown.Clash with) = clash (decl_of with)
refusal_of (shown.OverrideChanged class method) =
    override_changed (class_key_of class) (method_key_of method)
refusal_of (shown.LostBinding reference declaration found) =
    lost_binding reference (decl_of declaration) (found_of found)
refusal_of (shown.WouldNotCompile at rule) = would_not_compile at rule
refusal_of (shown.LostDependence kind first second) =
    lost_dependence kind (site_at_of first) (site_at_of second)
refusal_of (shown.BadSpan from to) = bad_span from to
refusal_of (shown.TooLong len) = too_long len
refusal_of shown.NothingToUndo = nothing_to_undo
refusal_of shown.NothingToRedo = nothing_to_redo
refusal_of (shown.ReportFull len) = report_full len
refusal_of (shown.TooManySites member count) = too_many_sites (member_key_of member) count
