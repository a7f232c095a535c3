-- The names that a part declares, and what is found of them at a byte.
use Rattle.std.proofs.Common.{◌≡◌, ℕ, List, Option, Some, None, Bool, true, false, length, refl, sym, ap, subst, inl, inr, arith}
use Rattle.std.specs.Prelude.{◌⊎◌, ◌==◌, if◌then◌else◌, option_map}
use Rattle.jr_text.specs.declared.spans.Span.{Span}
use Rattle.jr_ast.specs.StatementTree as statement
use Rattle.jr_ast.specs.MemberTree as syntax
use Rattle.jr_table.specs.Decls.{MemberKey, head, field, method, constructor, Decl, class_decl}
use Rattle.jr_table.specs.Context.{Context}
use Rattle.jr_table.specs.HeadRules.{with_parameters, is_static_member}
use Rattle.jr_table.specs.Errors.{Part, class_part, member_part, InMember}
use Rattle.jr_program_laws.specs.FileParts.{begins}
use Rattle.jr_images.specs.Targets.{LocalDeclares, ParamDeclares, MemberDeclares, PartDeclares}
use Rattle.jr_rewrite.specs.Rewrites.{declared_by}
use Rattle.jr_cursor.specs.Searches.{start, in_params, in_code, in_member}
use Rattle.jr_cursor.specs.Names.{member_begins, own_name, local_there}
use Rattle.jr_cursor.proofs.Nowhere.{neither, exp_none, row_none}
use Rattle.jr_cursor.proofs.SearchLaws.{numbered, eq_is, is_eq, Stmts_have, params_next, params_some, params_none, stmts_some, stmts_none}

-- ---- parameters and a body

module _ (at : ℕ) (k : MemberKey) (base : ℕ) (ps : List (syntax.Param Span)) (body : statement.Stmts Span) where
  begins_body : (in_params at start ps).next ≡ length ps
  begins_body = let e = params_next at k base start ps in omega (arith, e)

  code_none : in_code at ps body ≡ None
      → ((d : Decl) → ParamDeclares begins k 0 base ps at d → ⊥) × ((c : Context) (d : Decl) → Stmts_have at d (length ps) c base body → ⊥)
  code_none is =
      let r = stmts_none at (in_params at start ps) body is in
      let q = params_none at k base start ps r.0 in
      (q.1, λ c d h. r.1 c base d (subst (λ (n : ℕ). Stmts_have at d n c base body) (sym begins_body) h))

  code_some : (n : ℕ) → in_code at ps body ≡ Some n
      → ParamDeclares begins k 0 base ps at (numbered k n) ⊎ ((c : Context) → c.member ≡ k → Stmts_have at (numbered k n) (length ps) c base body)
  code_some n is = by (stmts_some at (in_params at start ps) body n is)
    where
      first : ((in_params at start ps).found ≡ Some n) → ParamDeclares begins k 0 base ps at (numbered k n) ⊎ ((c : Context) → c.member ≡ k → Stmts_have at (numbered k n) (length ps) c base body)
      first e = elim (params_some at k base start ps n e) [ inl f ↦ absurd cc | inr h ↦ inl h ]

      by : ((in_params at start ps).found ≡ Some n) ⊎ ((c : Context) (b : ℕ) → Stmts_have at (numbered c.member n) (in_params at start ps).next c b body)
          → ParamDeclares begins k 0 base ps at (numbered k n) ⊎ ((c : Context) → c.member ≡ k → Stmts_have at (numbered k n) (length ps) c base body)
      by (inl e) = first e
      by (inr h) = inr (λ c same. subst (λ (j : MemberKey). Stmts_have at (numbered j n) (length ps) c base body) same (subst (λ (i : ℕ). Stmts_have at (numbered c.member n) i c base body) begins_body (h c base)))

-- ---- a member

-- what a member declares by its own name
abbrev pub OwnDeclares : MemberKey → (at : ℕ) → syntax.Member Span → Decl → Type 0
OwnDeclares k at x d = (member_begins at x ≡ true) × (d ≡ declared_by k)

-- what it declares besides: a parameter or local
abbrev pub InsideDeclares : MemberKey → (base at : ℕ) → syntax.Member Span → Decl → Type 0
InsideDeclares k base at x d = (MemberDeclares begins k base x at d)
    ⊎ InMember begins (λ c role b e. ⊥) (λ n c b s. LocalDeclares begins n c b s at d) (λ b ss. ⊥) k base x

-- at which key doesn't matter
pub to_part : (k : MemberKey) (base : ℕ) (x : syntax.Member Span) (at : ℕ) (d : Decl) → InsideDeclares k base at x d → PartDeclares begins k base (member_part x) at d
to_part (head k) base x at d h = h
to_part (field k) base x at d h = h
to_part (method k) base x at d h = h
to_part (constructor k) base x at d h = h

pub from_part : (k : MemberKey) (base : ℕ) (x : syntax.Member Span) (at : ℕ) (d : Decl) → PartDeclares begins k base (member_part x) at d → InsideDeclares k base at x d
from_part (head k) base x at d h = h
from_part (field k) base x at d h = h
from_part (method k) base x at d h = h
from_part (constructor k) base x at d h = h

own_member : (k : MemberKey) (base at : ℕ) (x : syntax.Member Span) (d : Decl) → OwnDeclares k at x d → MemberDeclares begins k base x at d
own_member k base at (syntax.field m mods t w init) d (e, is) = (sym (eq_is w.mark.from at e), is)
own_member k base at (syntax.method m mods t w ps body) d (e, is) = inl (sym (eq_is w.mark.from at e), is)
own_member k base at (syntax.constructor m mods w ps args body) d (e, is) = inl (sym (eq_is w.mark.from at e), is)
own_member k base at (syntax.inner m of) d (e, is) = absurd cc

local_member : (k : MemberKey) (base at : ℕ) (x : syntax.Member Span) (n : ℕ) → in_member at x ≡ Some n → InsideDeclares k base at x (numbered k n)
local_member k base at (syntax.field m mods t w init) n is = absurd cc
local_member k base at (syntax.method m mods t w ps body) n is =
    elim (code_some at k (begins m base) ps body n is) [ inl h ↦ inl (inr h) | inr h ↦ inr (inr (h (with_parameters k (is_static_member begins mods) ps) refl)) ]
local_member k base at (syntax.constructor m mods w ps args body) n is =
    elim (code_some at k (begins m base) ps body n is) [ inl h ↦ inl (inr h) | inr h ↦ inr (inr (inr (h (with_parameters k false ps) refl))) ]
local_member k base at (syntax.inner m of) n is = absurd cc

-- what a member declares, its own name or one that is found
by_member : (k : MemberKey) (base at : ℕ) (x : syntax.Member Span) (d : Decl) → InsideDeclares k base at x d → (in_member at x ≡ None → ⊥) ⊎ OwnDeclares k at x d
by_member k base at (syntax.field m mods t w init) d (inl h) = inr (is_eq w.mark.from at (sym h.0), h.1)
by_member k base at (syntax.field m mods t w None) d (inr h) = absurd h
by_member k base at (syntax.field m mods t w (Some e)) d (inr h) = absurd (exp_none begins _ _ e h)
by_member k base at (syntax.method m mods t w ps body) d (inl (inl h)) = inr (is_eq w.mark.from at (sym h.0), h.1)
by_member k base at (syntax.method m mods t w ps body) d (inl (inr h)) = inl (λ is. (code_none at k (begins m base) ps body is).0 d h)
by_member k base at (syntax.method m mods t w ps body) d (inr h) = inl (λ is. neither (λ x. x) ((code_none at k (begins m base) ps body is).1 (with_parameters k (is_static_member begins mods) ps) d) h)
by_member k base at (syntax.constructor m mods w ps args body) d (inl (inl h)) = inr (is_eq w.mark.from at (sym h.0), h.1)
by_member k base at (syntax.constructor m mods w ps args body) d (inl (inr h)) = inl (λ is. (code_none at k (begins m base) ps body is).0 d h)
by_member k base at (syntax.constructor m mods w ps None body) d (inr h) =
    inl (λ is. neither (λ x. x) (neither (λ x. x) ((code_none at k (begins m base) ps body is).1 (with_parameters k false ps) d)) h)
by_member k base at (syntax.constructor m mods w ps (Some args) body) d (inr h) =
    inl (λ is. neither (row_none begins _ args) (neither (λ x. x) ((code_none at k (begins m base) ps body is).1 (with_parameters k false ps) d)) h)
by_member k base at (syntax.inner m of) d (inl h) = absurd h
by_member k base at (syntax.inner m of) d (inr h) = absurd h

-- ---- a part

if_some : {X : Type 0} (b : Bool) (x y : X) → (if b then Some x else None) ≡ Some y → (b ≡ true) × (y ≡ x)
if_some true x y e = (refl, cc)
if_some false x y e = absurd cc

is_if : {X : Type 0} (b : Bool) (x y : X) → b ≡ true → y ≡ x → (if b then Some x else None) ≡ Some y
is_if true x y e is = cc
is_if false x y e is = absurd cc

-- what is found is declared
pub own_declares : (at : ℕ) (k : MemberKey) (base : ℕ) (part : Part Span) (d : Decl) → own_name at k part ≡ Some d → PartDeclares begins k base part at d
own_declares at (head k) base (class_part (syntax.class m mods w t ms)) d e =
    let r = if_some (w.mark.from == at) (class_decl k) d e in
    (sym (eq_is w.mark.from at r.0), r.1)
own_declares at (field k) base (class_part c) d e = absurd cc
own_declares at (method k) base (class_part c) d e = absurd cc
own_declares at (constructor k) base (class_part c) d e = absurd cc
own_declares at k base (member_part x) d e =
    let r = if_some (member_begins at x) (declared_by k) d e in
    to_part k base x at d (inl (own_member k base at x d r))

local_of : (k : MemberKey) (o : Option ℕ) (d : Decl) → option_map (λ (n : ℕ). numbered k n) o ≡ Some d → (n : ℕ) × (o ≡ Some n) × (d ≡ numbered k n)
local_of k None d e = absurd cc
local_of k (Some n) d e = (n, refl, cc)

pub local_declares : (at : ℕ) (k : MemberKey) (base : ℕ) (part : Part Span) (d : Decl) → local_there at k part ≡ Some d → PartDeclares begins k base part at d × ((n : ℕ) × (d ≡ numbered k n))
local_declares at k base (class_part c) d e = absurd cc
local_declares at k base (member_part x) d e =
    let r = local_of k (in_member at x) d e in
    (subst (λ (y : Decl). PartDeclares begins k base (member_part x) at y) (sym r.2) (to_part k base x at (numbered k r.0) (local_member k base at x r.0 r.1)), (r.0, r.2))

-- what is declared is found, it or a local
number_of : (o : Option ℕ) → (o ≡ None → ⊥) → (n : ℕ) × (o ≡ Some n)
number_of None h = absurd (h refl)
number_of (Some n) h = (n, refl)

pub declares_found : (at : ℕ) (k : MemberKey) (base : ℕ) (part : Part Span) (d : Decl) → PartDeclares begins k base part at d
    → (own_name at k part ≡ Some d) ⊎ ((n : ℕ) × (local_there at k part ≡ Some (numbered k n)))
declares_found at (head k) base (class_part (syntax.class m mods w t ms)) d h = inl (is_if (w.mark.from == at) (class_decl k) d (is_eq w.mark.from at (sym h.0)) h.1)
declares_found at (field k) base (class_part c) d h = absurd h
declares_found at (method k) base (class_part c) d h = absurd h
declares_found at (constructor k) base (class_part c) d h = absurd h
declares_found at k base (member_part x) d h = by (by_member k base at x d (from_part k base x at d h))
  where
    by : (in_member at x ≡ None → ⊥) ⊎ OwnDeclares k at x d → (own_name at k (member_part x) ≡ Some d) ⊎ ((n : ℕ) × (local_there at k (member_part x) ≡ Some (numbered k n)))
    by (inl g) = let r = number_of (in_member at x) g in inr (r.0, ap (option_map (λ (n : ℕ). numbered k n)) r.1)
    by (inr g) = inl (is_if (member_begins at x) (declared_by k) d g.0 g.1)
