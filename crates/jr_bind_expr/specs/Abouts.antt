-- What is known of a variable that is found.
use Rattle.std.specs.Prelude.{
  ◌≡◌,
  ℕ,
  List,
  Option,
  Some,
  None,
  option_map,
  option_and_then,
  Bool,
  true,
  false,
  not,
  ◌&&◌,
  ◌==◌,
  nat_lt,
}
use Rattle.std.specs.List.{list_any}
use Rattle.jr_table.specs.declared.entries.Kind.{Kind}
use Rattle.jr_table.specs.declared.entries.Entry.{Entry}
use Rattle.jr_table.specs.Decls.{MemberKey, head, field, method, constructor}
use Rattle.jr_table.specs.Rows.{Row}
use Rattle.jr_table.specs.Entries.{kind_of}
use Rattle.jr_table.specs.Found.{Found}
use Rattle.jr_table.specs.Context.{Context, is_final_word}
use Rattle.jr_table.specs.Meanings.{type_of_found}
use Rattle.jr_table.specs.Notes.{test_found, is_final_decl, is_fixed, is_constant_found, is_forward}
use Rattle.jr_bind_expr.specs.declared.abouts.About.{About}
use Rattle.jr_bind_expr.specs.declared.abouts.LocalFacts.{LocalFacts}
use Rattle.jr_scopes.specs.Helds.{Held}

-- this is known of what is found
pub record IsAbout (rows : List Row) (c : Context) (f : Found) (a : About) : Type 0 where
  pub kind : a.kind ≡ option_map (kind_of rows) (type_of_found rows c f)
  pub final : a.is_final ≡ test_found (is_final_decl rows c) f
  pub fixed : a.is_fixed ≡ test_found (is_fixed rows c) f
  pub constant : a.is_constant ≡ is_constant_found rows c f
  pub forward : a.is_forward ≡ test_found (is_forward rows c) f

-- exact

abbrev pub nothing : About
nothing = record {
  kind = None;
  is_final = false;
  is_fixed = false;
  is_constant = false;
  is_forward = false;
}

abbrev pub is_own : Option ℕ → ℕ → Bool
is_own None number = false
is_own (Some own) number = own == number

abbrev pub facts_of : Held → LocalFacts
facts_of h = record { kind = h.kind; is_final = h.is_final; has_init = h.has_init }

abbrev pub about_local : Bool → Option LocalFacts → About
about_local is_forward None = record {
  kind = None;
  is_final = false;
  is_fixed = false;
  is_constant = false;
  is_forward = is_forward;
}
about_local is_forward (Some h) = record {
  kind = h.kind;
  is_final = h.is_final;
  is_fixed = h.is_final;
  is_constant = h.is_final && h.has_init;
  is_forward = is_forward;
}

abbrev pub is_ctor : MemberKey → Bool
is_ctor (constructor k) = true
is_ctor (head k) = false
is_ctor (field k) = false
is_ctor (method k) = false

abbrev pub is_field : MemberKey → Bool
is_field (field k) = true
is_field (head k) = false
is_field (method k) = false
is_field (constructor k) = false

abbrev pub is_instance_of : Option Entry → ℕ → Bool
is_instance_of None c = false
is_instance_of (Some e) c = (c == e.class) && not e.is_static

abbrev pub kind_at : Option Entry → Option Kind
kind_at e = option_and_then (λ (x : Entry). x.kind) e

abbrev pub has_final : Row → Bool
has_final r = list_any is_final_word r.modifiers

-- of a field at row `number`, in a member k at row `own` of class c
abbrev pub about_field : Option Entry → MemberKey → (is_static : Bool) → (c own number : ℕ) → Row
    → About
about_field e k is_static c own number r = record {
  kind = kind_at e;
  is_final = has_final r;
  is_fixed = has_final r && not (is_ctor k && is_instance_of e c && not r.has_init);
  is_constant = has_final r && r.has_init;
  is_forward = not is_static && (is_field k && is_instance_of e c && not (nat_lt number own));
}

abbrev pub about_other : Option Entry → Row → About
about_other e r = record {
  kind = kind_at e;
  is_final = has_final r;
  is_fixed = has_final r;
  is_constant = has_final r && r.has_init;
  is_forward = false;
}
