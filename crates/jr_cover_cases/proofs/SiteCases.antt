-- Each by computation.
use Rattle.std.proofs.Common.{refl}
use Rattle.jr_cover_cases.specs.SiteCases.{LocalSites, FieldSites, FieldSitesWithoutCheck, DivisionSites, CastSites, CallSites, CreationSites, MonitorSites, StatementSites, InitializerSites, UnboundSites, SiteCases}

local_sites : LocalSites
local_sites = record {
  local_read = refl;
  local_write = refl;
  declaration = refl;
  compound_write = refl;
  bump_behind = refl;
  bump_before = refl;
}

field_sites : FieldSites
field_sites = record {
  field_load = refl;
  field_store = refl;
  compound_store = refl;
  field_bump = refl;
  static_by_value = refl;
}

field_sites_without_check : FieldSitesWithoutCheck
field_sites_without_check = record {
  load_never_null = refl;
  store_never_null = refl;
  by_name = refl;
  store_by_name = refl;
  by_this = refl;
  by_super = refl;
  store_by_super = refl;
  by_class = refl;
  store_by_class = refl;
  by_member_class = refl;
}

division_sites : DivisionSites
division_sites = record {
  quotient = refl;
  remainder = refl;
  by_two = refl;
  by_zero = refl;
  by_two_in_parentheses = refl;
  by_minus_two = refl;
  addition = refl;
  local_op = refl;
  field_op = refl;
  value_op = refl;
  local_op_by_two = refl;
}

cast_sites : CastSites
cast_sites = record {
  may_fail = refl;
  cannot_fail = refl;
}

call_sites : CallSites
call_sites = record {
  on_value = refl;
  without_target = refl;
  on_never_null = refl;
  on_this = refl;
  on_super = refl;
  on_class = refl;
  arguments_in_order = refl;
}

creation_sites : CreationSites
creation_sites = record {
  creation = refl;
  written_super = refl;
  implicit_super = refl;
}

monitor_sites : MonitorSites
monitor_sites = record {
  of_statement = refl;
  never_null_lock = refl;
  synchronized_method = refl;
  other_method = refl;
}

statement_sites : StatementSites
statement_sites = record {
  of_loop = refl;
  of_branch = refl;
  of_return = refl;
  of_empty_return = refl;
}

initializer_sites : InitializerSites
initializer_sites = record {
  of_instance = refl;
  of_static = refl;
  of_none = refl;
}

unbound_sites : UnboundSites
unbound_sites = record {
  unbound_name = refl;
  unbound_field = refl;
  unbound_target = refl;
  unbound_op = refl;
  call_on_unbound = refl;
}

pub site_cases : SiteCases
site_cases = record {
  of_locals = local_sites;
  of_fields = field_sites;
  without_check = field_sites_without_check;
  of_division = division_sites;
  of_casts = cast_sites;
  of_calls = call_sites;
  of_creation = creation_sites;
  of_monitors = monitor_sites;
  of_statements = statement_sites;
  of_initializers = initializer_sites;
  of_what_is_unbound = unbound_sites;
}
