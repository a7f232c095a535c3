-- How refusals are written, and which places they have.
use Rattle.std.specs.Prelude.{ℕ, ◌<◌, List, [], ◌∷◌, ◌++◌, length, codes, decimal, All}
use Rattle.std.specs.List.{join_with_byte}
use Rattle.jr_text.specs.declared.spans.Place.{Place}
use Rattle.jr_names.specs.DeclTexts.{class_text, method_text, member_text, local_text, decl_text}
use Rattle.jr_names.specs.Refusals.{Refusal, no_such_file, bad_place, bad_name, source_error}
use Rattle.jr_names.specs.Refusals.{bad_target, prelude_method, conditional, has_return}
use Rattle.jr_names.specs.Refusals.{two_results, many_targets, may_be_null, recursive, assigned}
use Rattle.jr_names.specs.Refusals.{clash, override_changed, lost_binding, would_not_compile}
use Rattle.jr_names.specs.Refusals.{lost_dependence, bad_span, too_long, nothing_to_undo}
use Rattle.jr_names.specs.Refusals.{nothing_to_redo, report_full, too_many_sites}
use Rattle.jr_names.specs.RefusalNames.{refusal_name}
use Rattle.jr_dependences.specs.KindNames.{kind_name}
use Rattle.jr_script.specs.Texts.{at_text, place_text, found_text, site_at_text}

-- the fields in their order; a file and a place in it are one, and a word stands before what was
-- found and between two sites
abbrev pub fields_of : List (List ℕ) → Refusal → List (List ℕ)
fields_of files (no_such_file name) = name ∷ []
fields_of files (bad_place file at) = at_text file at ∷ []
fields_of files (bad_name name) = name ∷ []
fields_of files (source_error file at kind) = at_text file at ∷ kind ∷ []
fields_of files (bad_target at need) = place_text files at ∷ need ∷ []
fields_of files (prelude_method method) = method ∷ []
fields_of files (conditional at) = place_text files at ∷ []
fields_of files (has_return at) = place_text files at ∷ []
fields_of files (two_results first second) = local_text first ∷ local_text second ∷ []
fields_of files (many_targets call method) = place_text files call ∷ method_text method ∷ []
fields_of files (may_be_null at) = place_text files at ∷ []
fields_of files (recursive call) = place_text files call ∷ []
fields_of files (assigned local at) = local_text local ∷ place_text files at ∷ []
fields_of files (clash with) = decl_text with ∷ []
fields_of files (override_changed class method) = class_text class ∷ method_text method ∷ []
fields_of files (lost_binding reference declaration found) =
    place_text files reference ∷ decl_text declaration ∷ codes "found" ∷ found_text found ∷ []
fields_of files (would_not_compile at rule) = place_text files at ∷ rule ∷ []
fields_of files (lost_dependence kind first second) =
    kind_name kind ∷ site_at_text files first ∷ codes "before" ∷ site_at_text files second ∷ []
fields_of files (bad_span from to) = decimal from ∷ decimal to ∷ []
fields_of files (too_long len) = decimal len ∷ []
fields_of files nothing_to_undo = []
fields_of files nothing_to_redo = []
fields_of files (report_full len) = decimal len ∷ []
fields_of files (too_many_sites member count) = member_text member ∷ decimal count ∷ []

-- the refusal's name and then its fields, with one space between
abbrev pub refusal_text : List (List ℕ) → Refusal → List ℕ
refusal_text files refusal = join_with_byte 32 (refusal_name refusal ∷ fields_of files refusal)

abbrev pub places_of : Refusal → List Place
places_of (no_such_file name) = []
places_of (bad_place file at) = []
places_of (bad_name name) = []
places_of (source_error file at kind) = []
places_of (bad_target at need) = at ∷ []
places_of (prelude_method method) = []
places_of (conditional at) = at ∷ []
places_of (has_return at) = at ∷ []
places_of (two_results first second) = []
places_of (many_targets call method) = call ∷ []
places_of (may_be_null at) = at ∷ []
places_of (recursive call) = call ∷ []
places_of (assigned local at) = at ∷ []
places_of (clash with) = []
places_of (override_changed class method) = []
places_of (lost_binding reference declaration found) = reference ∷ []
places_of (would_not_compile at rule) = at ∷ []
places_of (lost_dependence kind first second) = first.place ∷ second.place ∷ []
places_of (bad_span from to) = []
places_of (too_long len) = []
places_of nothing_to_undo = []
places_of nothing_to_redo = []
places_of (report_full len) = []
places_of (too_many_sites member count) = []

-- each place is in one of the files
abbrev pub ArePlacesIn : List (List ℕ) → List Place → Type 0
ArePlacesIn files places = All (λ place. place.file < length files) places

-- each field behind a space; only private clauses cite this
abbrev pub spaced : List (List ℕ) → List ℕ
spaced [] = []
spaced (field ∷ []) = 32 ∷ field
spaced (field ∷ next ∷ fields) = 32 ∷ (field ++ spaced (next ∷ fields))
