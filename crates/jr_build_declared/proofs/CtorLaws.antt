-- A constructor among members.
use Rattle.std.proofs.Common.{◌≡◌, ℕ, ◌+◌, ◌<◌, ◌≤◌, List, [], ◌∷◌, length, get_or, drop, Bool, true, false, refl, sym, ap, ◌∙◌}
use Rattle.std.proofs.lemmas.List.{drop_all}
use Rattle.jr_ast.specs.MemberTree as syntax
use Rattle.jr_ast.specs.declared.members.Member.{Member}
use Rattle.jr_ast.specs.View.{member_of, members_of}
use Rattle.jr_table.specs.DeclaredItems.{writes_ctor}
use Rattle.jr_build_declared.proofs.DeclarationLists.{rest_is}

pub first_is : {A : Type 0} (b : A → ℕ → ℕ) (m : syntax.Member A) (ms : syntax.Members A) → writes_ctor b (syntax.more m syntax.end) ≡ true → writes_ctor b (syntax.more m ms) ≡ true
first_is b (syntax.constructor m mods w ps args body) ms e = refl
first_is b (syntax.field m mods t w init) ms e = absurd cc
first_is b (syntax.method m mods t w ps body) ms e = absurd cc
first_is b (syntax.inner m c) ms e = absurd cc

first_is_none : {A : Type 0} (b : A → ℕ → ℕ) (m : syntax.Member A) (ms : syntax.Members A) → writes_ctor b (syntax.more m syntax.end) ≡ false → writes_ctor b (syntax.more m ms) ≡ writes_ctor b ms
first_is_none b (syntax.constructor m mods w ps args body) ms e = absurd cc
first_is_none b (syntax.field m mods t w init) ms e = refl
first_is_none b (syntax.method m mods t w ps body) ms e = refl
first_is_none b (syntax.inner m c) ms e = refl

module _ {A : Type 0} (begins : A → ℕ → ℕ) (row : List (Member A)) (i : ℕ) where
  pub found : (x : Member A) (b : Bool) → i < length row → x ≡ get_or row i x → b ≡ writes_ctor begins (members_of (x ∷ [])) → b ≡ true
      → writes_ctor begins (members_of (drop i row)) ≡ writes_ctor begins (members_of row) → true ≡ writes_ctor begins (members_of row)
  found x b lt at is yes' rest =
      sym (first_is begins (member_of x) (members_of (drop (i + 1) row)) (sym is ∙ yes')) ∙ ap (λ xs. writes_ctor begins (members_of xs)) (sym (rest_is row i x lt at)) ∙ rest

  pub goes_on : (x : Member A) (b : Bool) → i < length row → x ≡ get_or row i x → b ≡ writes_ctor begins (members_of (x ∷ [])) → b ≡ false
      → writes_ctor begins (members_of (drop i row)) ≡ writes_ctor begins (members_of row) → writes_ctor begins (members_of (drop (i + 1) row)) ≡ writes_ctor begins (members_of row)
  goes_on x b lt at is none rest =
      sym (first_is_none begins (member_of x) (members_of (drop (i + 1) row)) (sym is ∙ none)) ∙ ap (λ xs. writes_ctor begins (members_of xs)) (sym (rest_is row i x lt at)) ∙ rest

  pub none_left : length row ≤ i → writes_ctor begins (members_of (drop i row)) ≡ writes_ctor begins (members_of row) → false ≡ writes_ctor begins (members_of row)
  none_left past rest = ap (λ xs. writes_ctor begins (members_of xs)) (sym (drop_all i row past)) ∙ rest
