-- A part of a program: whether it declares a local with a name, and the least that this one meets.
use Rattle.std.proofs.Common.{◌≡◌, ℕ, List, Option, Some, None, true, false, inl, inr}
use Rattle.std.specs.Prelude.{◌⊎◌, ◌≢◌}
use Rattle.jr_ast.specs.StatementTree as statement
use Rattle.jr_ast.specs.MemberTree as syntax
use Rattle.jr_ast.specs.Tree as tree
use Rattle.jr_table.specs.Decls.{MemberKey, LocalKey}
use Rattle.jr_table.specs.HeadRules.{is_static_member}
use Rattle.jr_table.specs.Errors.{Part, class_part, member_part}
use Rattle.jr_images.specs.Clashes.{HasLocal, IsUnder}
use Rattle.jr_rename.specs.LocalAnswers.{asked_local, part_walk}
use Rattle.jr_cursor.proofs.Nowhere.{exp_none, row_none}
use Rattle.jr_rename.proofs.Least.{LeastOf, least_to}
use Rattle.jr_rename.proofs.Codes.{CodeNames, CodeUnder, CodeMeets, names_of, under_names, over_names, code_named, code_names, code_least}

module _ {A : Type 0} (begins : A → ℕ → ℕ) where
  -- ---- a method or constructor is its parameters and its body

  local_method : (m : A) (mods : List (syntax.Modifier A)) (t : Option (tree.TypeName A)) (w : tree.Word A) (ps : List (syntax.Param A)) (body : statement.Stmts A) (k : LocalKey) (name : List ℕ) (i : MemberKey) (base : ℕ)
      → HasLocal begins k name i base (member_part (syntax.method m mods t w ps body)) → CodeNames begins (is_static_member begins mods) ps (begins m base) body i k name
  local_method m mods t w ps body k name i base (inl h) = inl h
  local_method m mods t w ps body k name i base (inr (inl h)) = absurd h
  local_method m mods t w ps body k name i base (inr (inr h)) = inr h

  method_local : (m : A) (mods : List (syntax.Modifier A)) (t : Option (tree.TypeName A)) (w : tree.Word A) (ps : List (syntax.Param A)) (body : statement.Stmts A) (k : LocalKey) (name : List ℕ) (i : MemberKey) (base : ℕ)
      → CodeNames begins (is_static_member begins mods) ps (begins m base) body i k name → HasLocal begins k name i base (member_part (syntax.method m mods t w ps body))
  method_local m mods t w ps body k name i base (inl h) = inl h
  method_local m mods t w ps body k name i base (inr h) = inr (inr h)

  local_ctor : (m : A) (mods : List (syntax.Modifier A)) (w : tree.Word A) (ps : List (syntax.Param A)) (args : Option (tree.Exps A)) (body : statement.Stmts A) (k : LocalKey) (name : List ℕ) (i : MemberKey) (base : ℕ)
      → HasLocal begins k name i base (member_part (syntax.constructor m mods w ps args body)) → CodeNames begins false ps (begins m base) body i k name
  local_ctor m mods w ps args body k name i base (inl h) = inl h
  local_ctor m mods w ps None body k name i base (inr (inl h)) = absurd h
  local_ctor m mods w ps (Some args) body k name i base (inr (inl h)) = absurd (row_none begins _ args h)
  local_ctor m mods w ps args body k name i base (inr (inr (inl h))) = absurd h
  local_ctor m mods w ps args body k name i base (inr (inr (inr h))) = inr h

  ctor_local : (m : A) (mods : List (syntax.Modifier A)) (w : tree.Word A) (ps : List (syntax.Param A)) (args : Option (tree.Exps A)) (body : statement.Stmts A) (k : LocalKey) (name : List ℕ) (i : MemberKey) (base : ℕ)
      → CodeNames begins false ps (begins m base) body i k name → HasLocal begins k name i base (member_part (syntax.constructor m mods w ps args body))
  ctor_local m mods w ps args body k name i base (inl h) = inl h
  ctor_local m mods w ps args body k name i base (inr h) = inr (inr (inr h))

  under_method : (m : A) (mods : List (syntax.Modifier A)) (t : Option (tree.TypeName A)) (w : tree.Word A) (ps : List (syntax.Param A)) (body : statement.Stmts A) (k : LocalKey) (name : List ℕ) (j : LocalKey) (other : List ℕ) (i : MemberKey) (base : ℕ)
      → IsUnder begins k name j other i base (member_part (syntax.method m mods t w ps body)) → CodeUnder begins (is_static_member begins mods) ps (begins m base) body i k name j other
  under_method m mods t w ps body k name j other i base (inl h) = inl h
  under_method m mods t w ps body k name j other i base (inr (inl h)) = absurd h
  under_method m mods t w ps body k name j other i base (inr (inr h)) = inr h

  method_under : (m : A) (mods : List (syntax.Modifier A)) (t : Option (tree.TypeName A)) (w : tree.Word A) (ps : List (syntax.Param A)) (body : statement.Stmts A) (k : LocalKey) (name : List ℕ) (j : LocalKey) (other : List ℕ) (i : MemberKey) (base : ℕ)
      → CodeUnder begins (is_static_member begins mods) ps (begins m base) body i k name j other → IsUnder begins k name j other i base (member_part (syntax.method m mods t w ps body))
  method_under m mods t w ps body k name j other i base (inl h) = inl h
  method_under m mods t w ps body k name j other i base (inr h) = inr (inr h)

  under_ctor : (m : A) (mods : List (syntax.Modifier A)) (w : tree.Word A) (ps : List (syntax.Param A)) (args : Option (tree.Exps A)) (body : statement.Stmts A) (k : LocalKey) (name : List ℕ) (j : LocalKey) (other : List ℕ) (i : MemberKey) (base : ℕ)
      → IsUnder begins k name j other i base (member_part (syntax.constructor m mods w ps args body)) → CodeUnder begins false ps (begins m base) body i k name j other
  under_ctor m mods w ps args body k name j other i base (inl h) = inl h
  under_ctor m mods w ps None body k name j other i base (inr (inl h)) = absurd h
  under_ctor m mods w ps (Some args) body k name j other i base (inr (inl h)) = absurd (row_none begins _ args h)
  under_ctor m mods w ps args body k name j other i base (inr (inr (inl h))) = absurd h
  under_ctor m mods w ps args body k name j other i base (inr (inr (inr h))) = inr h

  ctor_under : (m : A) (mods : List (syntax.Modifier A)) (w : tree.Word A) (ps : List (syntax.Param A)) (args : Option (tree.Exps A)) (body : statement.Stmts A) (k : LocalKey) (name : List ℕ) (j : LocalKey) (other : List ℕ) (i : MemberKey) (base : ℕ)
      → CodeUnder begins false ps (begins m base) body i k name j other → IsUnder begins k name j other i base (member_part (syntax.constructor m mods w ps args body))
  ctor_under m mods w ps args body k name j other i base (inl h) = inl h
  ctor_under m mods w ps args body k name j other i base (inr h) = inr (inr (inr h))

  -- a field declares no local
  no_local : (m : A) (mods : List (syntax.Modifier A)) (t : tree.TypeName A) (w : tree.Word A) (init : Option (tree.Exp A)) (k : LocalKey) (name : List ℕ) (i : MemberKey) (base : ℕ)
      → HasLocal begins k name i base (member_part (syntax.field m mods t w init)) → ⊥
  no_local m mods t w init k name i base (inl h) = h
  no_local m mods t w None k name i base (inr h) = h
  no_local m mods t w (Some e) k name i base (inr h) = exp_none begins _ _ e h

  no_under : (m : A) (mods : List (syntax.Modifier A)) (t : tree.TypeName A) (w : tree.Word A) (init : Option (tree.Exp A)) (k : LocalKey) (name : List ℕ) (j : LocalKey) (other : List ℕ) (i : MemberKey) (base : ℕ)
      → IsUnder begins k name j other i base (member_part (syntax.field m mods t w init)) → ⊥
  no_under m mods t w init k name j other i base (inl h) = h
  no_under m mods t w None k name j other i base (inr h) = h
  no_under m mods t w (Some e) k name j other i base (inr h) = exp_none begins _ _ e h

  no_inner : (m : A) (of : syntax.Class A) (k : LocalKey) (name : List ℕ) (i : MemberKey) (base : ℕ) → HasLocal begins k name i base (member_part (syntax.inner m of)) → ⊥
  no_inner m of k name i base (inl h) = h
  no_inner m of k name i base (inr h) = h

  no_inner_under : (m : A) (of : syntax.Class A) (k : LocalKey) (name : List ℕ) (j : LocalKey) (other : List ℕ) (i : MemberKey) (base : ℕ) → IsUnder begins k name j other i base (member_part (syntax.inner m of)) → ⊥
  no_inner_under m of k name j other i base (inl h) = h
  no_inner_under m of k name j other i base (inr h) = h

  -- ---- of any part

  pub part_of : (k : LocalKey) (name : List ℕ) (i : MemberKey) (base : ℕ) (part : Part A) → HasLocal begins k name i base part → k.member ≡ i
  part_of k name i base (class_part c) h = absurd h
  part_of k name i base (member_part (syntax.field m mods t w init)) h = absurd (no_local m mods t w init k name i base h)
  part_of k name i base (member_part (syntax.method m mods t w ps body)) h =
      names_of begins (is_static_member begins mods) ps (begins m base) body i k name (local_method m mods t w ps body k name i base h)
  part_of k name i base (member_part (syntax.constructor m mods w ps args body)) h = names_of begins false ps (begins m base) body i k name (local_ctor m mods w ps args body k name i base h)
  part_of k name i base (member_part (syntax.inner m of)) h = absurd (no_inner m of k name i base h)

  pub under_has : (k : LocalKey) (name : List ℕ) (j : LocalKey) (other : List ℕ) (i : MemberKey) (base : ℕ) (part : Part A) → IsUnder begins k name j other i base part → HasLocal begins k name i base part
  under_has k name j other i base (class_part c) h = absurd h
  under_has k name j other i base (member_part (syntax.field m mods t w init)) h = absurd (no_under m mods t w init k name j other i base h)
  under_has k name j other i base (member_part (syntax.method m mods t w ps body)) h =
      method_local m mods t w ps body k name i base (under_names begins (is_static_member begins mods) ps (begins m base) body i k name j other (under_method m mods t w ps body k name j other i base h))
  under_has k name j other i base (member_part (syntax.constructor m mods w ps args body)) h =
      ctor_local m mods w ps args body k name i base (under_names begins false ps (begins m base) body i k name j other (under_ctor m mods w ps args body k name j other i base h))
  under_has k name j other i base (member_part (syntax.inner m of)) h = absurd (no_inner_under m of k name j other i base h)

  pub over_has : (j : LocalKey) (new : List ℕ) (k : LocalKey) (old : List ℕ) (i : MemberKey) (base : ℕ) (part : Part A) → IsUnder begins j new k old i base part → HasLocal begins k old i base part
  over_has j new k old i base (class_part c) h = absurd h
  over_has j new k old i base (member_part (syntax.field m mods t w init)) h = absurd (no_under m mods t w init j new k old i base h)
  over_has j new k old i base (member_part (syntax.method m mods t w ps body)) h =
      method_local m mods t w ps body k old i base (over_names begins (is_static_member begins mods) ps (begins m base) body i j new k old (under_method m mods t w ps body j new k old i base h))
  over_has j new k old i base (member_part (syntax.constructor m mods w ps args body)) h =
      ctor_local m mods w ps args body k old i base (over_names begins false ps (begins m base) body i j new k old (under_ctor m mods w ps args body j new k old i base h))
  over_has j new k old i base (member_part (syntax.inner m of)) h = absurd (no_inner_under m of j new k old i base h)

  -- ---- of the member of the local

  module _ (k : LocalKey) (new : List ℕ) where
    -- the local meets this one in the part
    abbrev pub PartMeets : (base : ℕ) → Part A → LocalKey → Type 0
    PartMeets base part j = (k ≢ j) × ((old : List ℕ) × (IsUnder begins k old j new k.member base part ⊎ IsUnder begins j new k old k.member base part))

    pub part_named : (base : ℕ) (part : Part A) → HasLocal begins k new k.member base part → (part_walk (asked_local k new) k.member part).is_named ≡ true
    part_named base (class_part c) h = absurd h
    part_named base (member_part (syntax.field m mods t w init)) h = absurd (no_local m mods t w init k new k.member base h)
    part_named base (member_part (syntax.method m mods t w ps body)) h =
        code_named begins (is_static_member begins mods) ps (begins m base) body k new (local_method m mods t w ps body k new k.member base h)
    part_named base (member_part (syntax.constructor m mods w ps args body)) h = code_named begins false ps (begins m base) body k new (local_ctor m mods w ps args body k new k.member base h)
    part_named base (member_part (syntax.inner m of)) h = absurd (no_inner m of k new k.member base h)

    pub part_names : (base : ℕ) (part : Part A) → (part_walk (asked_local k new) k.member part).is_named ≡ true → HasLocal begins k new k.member base part
    part_names base (class_part c) h = absurd cc
    part_names base (member_part (syntax.field m mods t w init)) h = absurd cc
    part_names base (member_part (syntax.method m mods t w ps body)) h =
        method_local m mods t w ps body k new k.member base (code_names begins (is_static_member begins mods) ps (begins m base) body k new h)
    part_names base (member_part (syntax.constructor m mods w ps args body)) h = ctor_local m mods w ps args body k new k.member base (code_names begins false ps (begins m base) body k new h)
    part_names base (member_part (syntax.inner m of)) h = absurd cc

    nothing : (base : ℕ) (part : Part A) → ((i j : LocalKey) (x y : List ℕ) → IsUnder begins i x j y k.member base part → ⊥) → LeastOf k.member (PartMeets base part) None
    nothing base part lacks j (other, (old, inl h)) = lacks k j old new h
    nothing base part lacks j (other, (old, inr h)) = lacks j k new old h

    method_to : (base : ℕ) (m : A) (mods : List (syntax.Modifier A)) (t : Option (tree.TypeName A)) (w : tree.Word A) (ps : List (syntax.Param A)) (body : statement.Stmts A) (j : LocalKey)
        → CodeMeets begins (is_static_member begins mods) ps (begins m base) body k new j → PartMeets base (member_part (syntax.method m mods t w ps body)) j
    method_to base m mods t w ps body j (other, (old, inl h)) = (other, (old, inl (method_under m mods t w ps body k old j new k.member base h)))
    method_to base m mods t w ps body j (other, (old, inr h)) = (other, (old, inr (method_under m mods t w ps body j new k old k.member base h)))

    method_back : (base : ℕ) (m : A) (mods : List (syntax.Modifier A)) (t : Option (tree.TypeName A)) (w : tree.Word A) (ps : List (syntax.Param A)) (body : statement.Stmts A) (j : LocalKey)
        → PartMeets base (member_part (syntax.method m mods t w ps body)) j → CodeMeets begins (is_static_member begins mods) ps (begins m base) body k new j
    method_back base m mods t w ps body j (other, (old, inl h)) = (other, (old, inl (under_method m mods t w ps body k old j new k.member base h)))
    method_back base m mods t w ps body j (other, (old, inr h)) = (other, (old, inr (under_method m mods t w ps body j new k old k.member base h)))

    ctor_to : (base : ℕ) (m : A) (mods : List (syntax.Modifier A)) (w : tree.Word A) (ps : List (syntax.Param A)) (args : Option (tree.Exps A)) (body : statement.Stmts A) (j : LocalKey)
        → CodeMeets begins false ps (begins m base) body k new j → PartMeets base (member_part (syntax.constructor m mods w ps args body)) j
    ctor_to base m mods w ps args body j (other, (old, inl h)) = (other, (old, inl (ctor_under m mods w ps args body k old j new k.member base h)))
    ctor_to base m mods w ps args body j (other, (old, inr h)) = (other, (old, inr (ctor_under m mods w ps args body j new k old k.member base h)))

    ctor_back : (base : ℕ) (m : A) (mods : List (syntax.Modifier A)) (w : tree.Word A) (ps : List (syntax.Param A)) (args : Option (tree.Exps A)) (body : statement.Stmts A) (j : LocalKey)
        → PartMeets base (member_part (syntax.constructor m mods w ps args body)) j → CodeMeets begins false ps (begins m base) body k new j
    ctor_back base m mods w ps args body j (other, (old, inl h)) = (other, (old, inl (under_ctor m mods w ps args body k old j new k.member base h)))
    ctor_back base m mods w ps args body j (other, (old, inr h)) = (other, (old, inr (under_ctor m mods w ps args body j new k old k.member base h)))

    pub part_least : (base : ℕ) (part : Part A) → LeastOf k.member (PartMeets base part) (part_walk (asked_local k new) k.member part).least
    part_least base (class_part c) = nothing base (class_part c) (λ i j x y h. h)
    part_least base (member_part (syntax.field m mods t w init)) = nothing base (member_part (syntax.field m mods t w init)) (λ i j x y h. no_under m mods t w init i x j y k.member base h)
    part_least base (member_part (syntax.method m mods t w ps body)) =
        least_to k.member (CodeMeets begins (is_static_member begins mods) ps (begins m base) body k new) (PartMeets base (member_part (syntax.method m mods t w ps body))) _
        (method_to base m mods t w ps body) (method_back base m mods t w ps body) (code_least begins (is_static_member begins mods) ps (begins m base) body k new)
    part_least base (member_part (syntax.constructor m mods w ps args body)) =
        least_to k.member (CodeMeets begins false ps (begins m base) body k new) (PartMeets base (member_part (syntax.constructor m mods w ps args body))) _
        (ctor_to base m mods w ps args body) (ctor_back base m mods w ps args body) (code_least begins false ps (begins m base) body k new)
    part_least base (member_part (syntax.inner m of)) = nothing base (member_part (syntax.inner m of)) (λ i j x y h. no_inner_under m of i x j y k.member base h)
