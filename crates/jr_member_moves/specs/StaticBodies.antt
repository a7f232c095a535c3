-- What is seen in a method's body where it is the body of a static method of another class, whose
-- first parameter stands for `this` (JLS 8.4.3.2, 15.8.3).
use Rattle.std.specs.Prelude.{◌≡◌, ◌⊎◌, ℕ, suc, true, List, ◌∷◌, map, Some}
use Rattle.jr_text.specs.declared.spans.Span.{Span}
use Rattle.jr_table.specs.Keys.{MethodKey}
use Rattle.jr_table.specs.Decls.{method, LocalKey}
use Rattle.jr_table.specs.Rows.{Row}
use Rattle.jr_table.specs.Scope.{ScopeLocal}
use Rattle.jr_table.specs.Context.{scope_of}
use Rattle.jr_bind.specs.Programs.{Program}
use Rattle.jr_images.specs.Regions.{Seen, Region, stand_in}
use Rattle.jr_local.specs.Scopes.{same_images, HasKeptClass}

-- ---- locals: the parameter comes in front of all others

abbrev pub receiver_key : MethodKey → LocalKey
receiver_key new = record { member = method new; number = 0 }

abbrev pub behind_receiver : MethodKey → LocalKey → LocalKey
behind_receiver new k = record { member = method new; number = suc k.number }

abbrev pub with_receiver : MethodKey → (name : List ℕ) → List ScopeLocal → List ScopeLocal
with_receiver new name ls = (record { name = name; key = receiver_key new })
    ∷ map (λ (l : ScopeLocal). record { name = l.name; key = behind_receiver new l.key }) ls

-- the method `old` of the program, the method `new` to which its body goes, whose first parameter has
-- this name, and the rows of the new program
module _ (p : Program Span) (old new : MethodKey) (name : List ℕ) (rows : List Row) where
  -- ---- what is seen in the body

  abbrev pub seen_there : Seen
  seen_there = record {
    images = same_images rows;
    scope = λ c. record {
      class = new.class;
      is_static = true;
      locals = with_receiver new name (scope_of c).locals;
    };
    local_to = λ c k. Some (behind_receiver new k);
    HasClass = λ c k b. ((k ≡ receiver_key new) × (b ≡ old.class))
        ⊎ HasKeptClass p.rows (λ l. Some (behind_receiver new l)) c k b;
  }

  -- the parameter has the type that `this` had
  abbrev pub in_body : Region Span
  in_body = record {
    seen = seen_there;
    type_now = λ c e t. t;
    types_now = λ c es ts. ts;
    receiver = stand_in (receiver_key new) name;
  }
