-- The first local of a name: among parameters, and where a declaration comes.
use Rattle.std.proofs.Common.{◌≡◌, ℕ, zero, suc, ◌+◌, ◌-◌, ◌<◌, ◌≤◌, Bool, true, false, List, [], ◌∷◌, ◌++◌, length, get_or, drop, map, Option, Some, None, option_map, if◌then◌else◌, refl, ap, sym, subst, ◌∙◌, arith}
use Rattle.std.proofs.lemmas.List.{drop_all}
use Rattle.jr_text.specs.declared.spans.Span.{Span}
use Rattle.jr_ast.specs.declared.parts.Param.{Param}
use Rattle.jr_ast.specs.MemberTree as syntax
use Rattle.jr_ast.specs.StatementTree as statement
use Rattle.jr_ast.specs.View.{param_of}
use Rattle.jr_table.specs.SameKeys.{same_name}
use Rattle.jr_table.specs.Keys.{Ty}
use Rattle.jr_table.specs.Decls.{MemberKey, LocalKey}
use Rattle.jr_table.specs.Scope.{ScopeLocal}
use Rattle.jr_table.specs.Context.{scope_local, scope_of, local_key, parameters}
use Rattle.jr_table.specs.HeadRules.{types_of, with_parameters}
use Rattle.jr_pieces.specs.Standings.{Standing}
use Rattle.jr_pieces.specs.Declared.{declared_in_list, first_named}
use Rattle.jr_piece_search.proofs.Choosing.{left_is}
use Rattle.jr_local_search.specs.Declarations as wanted
use Rattle.jr_local_search.specs.Declarations.{Declaration, declarations_in, first_wanted}
use Rattle.jr_local_search.specs.declared.declarations.Declaration as raw
use Rattle.jr_local_search.specs.Walking.{declaration_of}
use Rattle.jr_local_search.specs.DeclarationLaws.{key_in, DeclaredNames}
use Rattle.jr_local_search.specs.Scopes.{AtElement, IsAt, first_param, in_body}
use Rattle.jr_local_search.proofs.Descents.{if_true, if_false}

-- ---- parameters

module _ (name : List ℕ) (k : MemberKey) where
  abbrev key : ℕ → LocalKey
  key n = record { member = k; number = n }

  params_named : (n : ℕ) (ps : List (syntax.Param Span)) (ts : List Ty) → first_named name (map scope_local (parameters k n ps ts)) ≡ option_map key (first_param name n (length ts) ps)
  params_named n [] ts = refl
  params_named n (p ∷ ps) [] = refl
  params_named n (p ∷ ps) (t ∷ ts) = by (same_name p.name.text name) (params_named (suc n) ps ts)
    where
      by : (b : Bool) → first_named name (map scope_local (parameters k (suc n) ps ts)) ≡ option_map key (first_param name (suc n) (length ts) ps)
          → (if b then Some (key n) else first_named name (map scope_local (parameters k (suc n) ps ts))) ≡ option_map key (if b then Some n else first_param name (suc n) (length ts) ps)
      by true on = refl
      by false on = on

  pub is_at_body : (is_static : Bool) (base : ℕ) (ps : List (syntax.Param Span)) (types : ℕ) (x : AtElement) → length (types_of k) ≡ types → x.next ≡ length ps → x.named ≡ first_param name 0 types ps
      → IsAt name (in_body k is_static base ps) x
  is_at_body is_static base ps types x count next is = record {
    next = sym next;
    named = params_named 0 ps (types_of k) ∙ ap (λ (t : ℕ). option_map key (first_param name 0 t ps)) count ∙ ap (option_map key) (sym is);
  }

pub counted : (xs : List (Param Span)) (n : ℕ) → n ≡ length xs → n ≡ length (map param_of xs)
counted xs n e = e ∙ same xs
  where
    same : (ys : List (Param Span)) → length ys ≡ length (map param_of ys)
    same [] = refl
    same (y ∷ ys) = ap suc (same ys)

-- ---- the loop

pub some_left : (n : ℕ) → (n ≡ 0 → ⊥) → 0 < n
some_left zero none = absurd (none refl)
some_left (suc n) none = omega arith

pub one_less : (n : ℕ) → (n ≡ 0 → ⊥) → (n - 1) + 1 ≡ n
one_less zero none = absurd (none refl)
one_less (suc n) none = omega arith

module _ (name : List ℕ) (xs : List (Param Span)) (i n : ℕ) where
  abbrev left : ℕ → Option ℕ
  left types = first_param name n types (map param_of (drop i xs))

  at_item : (x : Param Span) (types : ℕ) → i < length xs → x ≡ get_or xs i x → left types ≡ first_param name n types (param_of x ∷ map param_of (drop (i + 1) xs))
  at_item x types lt is = ap (λ (z : List (Param Span)). first_param name n types (map param_of z)) (left_is xs i x lt is)

  pub no_types : (x : Param Span) → i < length xs → x ≡ get_or xs i x → left 0 ≡ None
  no_types x lt is = at_item x 0 lt is

  pub param_met : (x : Param Span) (types : ℕ) → i < length xs → x ≡ get_or xs i x → 0 < types → same_name (param_of x).name.text name ≡ true → left types ≡ Some n
  param_met x zero lt is some e = absurd (omega (arith, some))
  param_met x (suc types) lt is some e = at_item x (suc types) lt is ∙ if_true (same_name (param_of x).name.text name) (Some n) (first_param name (suc n) types (map param_of (drop (i + 1) xs))) e

  pub param_passed : (x : Param Span) (types less : ℕ) → i < length xs → x ≡ get_or xs i x → less + 1 ≡ types → same_name (param_of x).name.text name ≡ false
      → left types ≡ first_param name (suc n) less (map param_of (drop (i + 1) xs))
  param_passed x types less lt is one e =
      let more : types ≡ suc less = omega (arith, one) in
      at_item x types lt is ∙ ap (λ (t : ℕ). first_param name n t (param_of x ∷ map param_of (drop (i + 1) xs))) more
      ∙ if_false (same_name (param_of x).name.text name) (Some n) (first_param name (suc n) less (map param_of (drop (i + 1) xs))) e

  pub params_end : (types : ℕ) → length xs ≤ i → left types ≡ None
  params_end types past = ap (λ (z : List (Param Span)). first_param name n types (map param_of z)) (drop_all i xs past)

-- ---- where a declaration comes

abbrev or_key : Option LocalKey → Option LocalKey → Option LocalKey
or_key None o = o
or_key (Some k) o = Some k

first_both : (name : List ℕ) (xs ys : List ScopeLocal) → first_named name (xs ++ ys) ≡ or_key (first_named name xs) (first_named name ys)
first_both name [] ys = refl
first_both name (x ∷ xs) ys = by (same_name x.name name) (first_both name xs ys)
  where
    by : (b : Bool) → first_named name (xs ++ ys) ≡ or_key (first_named name xs) (first_named name ys) → (if b then Some x.key else first_named name (xs ++ ys)) ≡ or_key (if b then Some x.key else first_named name xs) (first_named name ys)
    by true on = refl
    by false on = on

module _ (name : List ℕ) (x : AtElement) (held : statement.Stmts Span) (p : Standing) (at : IsAt name p x) where
  abbrev all : List ScopeLocal
  all = (scope_of p.context).locals ++ declared_in_list p.context.member p.next held

  pub in_scope : (n : ℕ) → x.named ≡ Some n → first_named name all ≡ option_map (local_key p.context) (Some n)
  in_scope n is = first_both name (scope_of p.context).locals (declared_in_list p.context.member p.next held)
      ∙ ap (λ o. or_key o (first_named name (declared_in_list p.context.member p.next held))) (at.named ∙ ap (option_map (local_key p.context)) is)

  pub declared_there : DeclaredNames → x.named ≡ None → (d : Option Declaration) → d ≡ first_wanted (wanted.named name) (declarations_in x.next held)
      → first_named name all ≡ option_map (local_key p.context) (option_map (λ (z : Declaration). z.number) d)
  declared_there names none d found =
      first_both name (scope_of p.context).locals (declared_in_list p.context.member p.next held)
      ∙ ap (λ o. or_key o (first_named name (declared_in_list p.context.member p.next held))) (at.named ∙ ap (option_map (local_key p.context)) none)
      ∙ ap (λ (n : ℕ). first_named name (declared_in_list p.context.member n held)) at.next
      ∙ names p.context.member name x.next held
      ∙ ap (option_map (key_in p.context.member)) (sym found)
      ∙ keyed d
    where
      keyed : (o : Option Declaration) → option_map (key_in p.context.member) o ≡ option_map (local_key p.context) (option_map (λ (z : Declaration). z.number) o)
      keyed None = refl
      keyed (Some z) = refl

pub numbers : (o : Option raw.Declaration) → option_map (λ (z : Declaration). z.number) (option_map declaration_of o) ≡ option_map (λ (z : raw.Declaration). z.number) o
numbers None = refl
numbers (Some z) = refl
