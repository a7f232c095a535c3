-- What is seen of the new program around a call that is inlined, in its arguments, and in the copied
-- body: the numbers that locals have, and what is in scope (JLS 6.3).
use Rattle.std.specs.Prelude.{◌≡◌, ◌⊎◌, ℕ, ◌+◌, nat_lt, Bool, true, false, not, ◌&&◌, List, [], ◌∷◌, ◌++◌, map, take, Some, Option, slice_get, if◌then◌else◌}
use Rattle.jr_text.specs.declared.spans.Span.{Span}
use Rattle.jr_ast.specs.MemberTree as syntax
use Rattle.jr_ast.specs.Tree as tree
use Rattle.jr_table.specs.Keys.{ClassKey, MethodKey, Ty, class}
use Rattle.jr_table.specs.Decls.{MemberKey, LocalKey}
use Rattle.jr_table.specs.SameDecls.{same_member}
use Rattle.jr_table.specs.Scope.{ScopeLocal}
use Rattle.jr_table.specs.Entries.{class_of_member}
use Rattle.jr_table.specs.Context.{Context, scope_of}
use Rattle.jr_bind.specs.Programs.{Program}
use Rattle.jr_images.specs.Regions.{Region, Receiver}
use Rattle.jr_local.specs.Scopes.{same_images, HasKeptClass, kept_locals, plain_region}

-- the caller's local of a number is another one where the method's come in front of it
abbrev pub behind_all : (old : MemberKey) → (first count : ℕ) → LocalKey → LocalKey
behind_all old first count k = if same_member k.member old && not (nat_lt k.number first)
    then record { member = old; number = k.number + count } else k

-- a local of the method is one of the caller
abbrev pub among_callers : (old : MemberKey) → (first : ℕ) → LocalKey → LocalKey
among_callers old first k = record { member = old; number = first + k.number }

-- the first so many parameters, as locals of the caller
abbrev pub params_from : (old : MemberKey) → (number : ℕ) → List (syntax.Param Span)
    → List ScopeLocal
params_from old n [] = []
params_from old n (q ∷ qs) =
    (record { name = q.name.text; key = record { member = old; number = n } })
    ∷ params_from old (n + 1) qs

-- such a parameter has the type that the method's key tells
abbrev pub HasParamClass : (old : MemberKey) → (first : ℕ) → List Ty → LocalKey → ClassKey → Type 0
HasParamClass old first types k b = (i : ℕ) × (slice_get types i ≡ Some (class b))
    × (k ≡ record { member = old; number = first + i })

-- The caller's member, the number that the method's first local has there, how many locals that has,
-- its key and parameters, and what is known at the statement.
module _ (p : Program Span) (old : MemberKey) (first count : ℕ) (q : MethodKey)
    (params : List (syntax.Param Span)) (at : Context) where
  abbrev pub callers : LocalKey → Option LocalKey
  callers k = Some (behind_all old first count k)

  abbrev pub around : Region Span
  around = plain_region (record {
    images = same_images p.rows;
    scope = λ c. record {
      class = (scope_of c).class;
      is_static = c.is_static;
      locals = kept_locals callers (scope_of c).locals;
    };
    local_to = λ c k. callers k;
    HasClass = λ c k b. HasKeptClass p.rows callers c k b;
  })

  -- an argument is the initializer of its parameter, so this one and those in front are in scope
  abbrev pub in_argument : (number : ℕ) → Region Span
  in_argument i = plain_region (record {
    images = same_images p.rows;
    scope = λ c. record {
      class = (scope_of c).class;
      is_static = c.is_static;
      locals = kept_locals callers (scope_of c).locals
          ++ params_from old first (take (i + 1) params);
    };
    local_to = λ c k. callers k;
    HasClass = λ c k b. HasKeptClass p.rows callers c k b
        ⊎ HasParamClass old first q.params k b;
  })

  -- the copied body: what is in scope at the statement, with these more, and then the method's own
  -- locals; `this` has this class there
  module _ (more : List ScopeLocal) (HasMore : LocalKey → ClassKey → Type 0) (this_class : ClassKey)
      (receiver : Receiver) where
    abbrev pub copied_locals : List ScopeLocal → List ScopeLocal
    copied_locals ls = (scope_of at).locals ++ (more
        ++ map (λ (l : ScopeLocal). record { name = l.name; key = among_callers old first l.key }) ls)

    -- `this`, in parentheses or not
    abbrev pub is_this : tree.Exp Span → Bool
    is_this (tree.this m) = true
    is_this (tree.paren m e) = is_this e
    is_this _ = false

    abbrev pub type_there : tree.Exp Span → Ty → Ty
    type_there e t = if is_this e then class this_class else t

    abbrev pub types_there : tree.Exps Span → List Ty → List Ty
    types_there tree.end us = us
    types_there (tree.more e es) [] = []
    types_there (tree.more e es) (u ∷ us) = type_there e u ∷ types_there es us

    abbrev pub in_body : Region Span
    in_body = record {
      seen = record {
        images = same_images p.rows;
        scope = λ c. record {
          class = class_of_member old;
          is_static = at.is_static;
          locals = copied_locals (scope_of c).locals;
        };
        local_to = λ c k. Some (among_callers old first k);
        HasClass = λ c k b. HasKeptClass p.rows (λ l. Some (among_callers old first l)) c k b
            ⊎ (HasKeptClass p.rows (λ l. Some l) at k b ⊎ HasMore k b);
      };
      type_now = λ c e t. type_there e t;
      types_now = λ c es ts. types_there es ts;
      receiver = receiver;
    }
