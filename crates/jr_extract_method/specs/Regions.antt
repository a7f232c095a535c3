-- What is seen of the new program around a piece that becomes a method, in it, and in the new
-- method's head: rows, and the numbers that locals have.
use Rattle.std.specs.Prelude.{ℕ, suc, ◌+◌, ◌-◌, nat_eq, nat_lt, Bool, true, false, not, ◌&&◌, List, [], ◌∷◌, ◌++◌, take, drop, Option, Some, None, option_map, if◌then◌else◌}
use Rattle.jr_text.specs.declared.spans.Span.{Span}
use Rattle.jr_ast.specs.declared.operators.ModWord.{ModWord}
use Rattle.jr_ast.specs.declared.operators.ModWord.TheVariants.{Private, Static}
use Rattle.jr_table.specs.Keys.{ClassKey, MethodKey, Ty}
use Rattle.jr_table.specs.Decls.{MemberKey, LocalKey, method_decl}
use Rattle.jr_table.specs.SameDecls.{same_member}
use Rattle.jr_table.specs.Rows.{Row}
use Rattle.jr_table.specs.Context.{scope_of}
use Rattle.jr_images.specs.Regions.{Region}
use Rattle.jr_local.specs.Scopes.{same_images, HasKeptClass, kept_locals, plain_region}

-- ---- rows

abbrev pub method_words : (is_static : Bool) → List ModWord
method_words false = Private ∷ []
method_words true = Private ∷ Static ∷ []

abbrev pub method_row : MethodKey → (is_static : Bool) → Ty → Row
method_row k is_static result = record {
  decl = method_decl k;
  modifiers = method_words is_static;
  type = Some result;
  parent = None;
  has_init = false;
}

-- behind the row of a number
abbrev pub put_behind_number : ℕ → Row → List Row → List Row
put_behind_number n r rows = take (suc n) rows ++ (r ∷ drop (suc n) rows)

-- ---- numbers: so many locals are declared in the piece, from a number on; one of them may stay

abbrev pub is_among : (from count : ℕ) → ℕ → Bool
is_among from count n = not (nat_lt n from) && nat_lt n (from + count)

abbrev pub is_that : Option ℕ → ℕ → Bool
is_that None n = false
is_that (Some m) n = nat_eq m n

abbrev pub gone_count : (count : ℕ) → Option ℕ → ℕ
gone_count count None = count
gone_count count (Some m) = count - 1

abbrev pub number_around : (from count : ℕ) → (stays : Option ℕ) → ℕ → Option ℕ
number_around from count stays n =
    if is_among from count n then (if is_that stays n then Some from else None)
    else Some (if nat_lt n from then n else n - gone_count count stays)

-- In the new method the locals that are declared outside come first, as parameters.
abbrev pub position : List ℕ → ℕ → Option ℕ
position [] n = None
position (m ∷ ms) n = if nat_eq m n then Some 0 else option_map suc (position ms n)

abbrev pub or_number : Option ℕ → Option ℕ → Option ℕ
or_number None b = b
or_number (Some n) b = Some n

abbrev pub inner_number : (params from count : ℕ) → ℕ → Option ℕ
inner_number params from count n =
    if is_among from count n then Some (params + (n - from)) else None

-- ---- regions

-- locals of a member are renumbered, or are another member's
abbrev pub local_by : MemberKey → (new : MemberKey) → (ℕ → Option ℕ) → LocalKey → Option LocalKey
local_by old new to k = if same_member k.member old
    then option_map (λ (n : ℕ). record { member = new; number = n }) (to k.number) else Some k

-- Places keep their class and whether there is an object; kept locals keep their types.
abbrev pub renumbered : (old_rows rows : List Row) → (LocalKey → Option LocalKey) → Region Span
renumbered old_rows rows to = plain_region (record {
  images = same_images rows;
  scope = λ c. record {
    class = (scope_of c).class;
    is_static = c.is_static;
    locals = kept_locals to (scope_of c).locals;
  };
  local_to = λ c k. to k;
  HasClass = λ c k b. HasKeptClass old_rows to c k b;
})

-- in a head, no local is seen
abbrev pub in_head : (rows : List Row) → ClassKey → (is_static : Bool) → Region Span
in_head rows of is_static = plain_region (record {
  images = same_images rows;
  scope = λ c. record { class = of; is_static = is_static; locals = [] };
  local_to = λ c k. None;
  HasClass = λ c k b. ⊥;
})
