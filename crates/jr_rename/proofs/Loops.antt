-- Loops over statements and parameters, as walks over what is left of them; and a scope that is cut.
use Rattle.std.proofs.Common.{◌≡◌, ℕ, ◌+◌, ◌<◌, ◌≤◌, List, [], ◌∷◌, ◌++◌, Option, Bool, Vec, Global, length, map, take, get_or, drop, refl, ap, sym, ◌∙◌, suc, add-one}
use Rattle.std.specs.Prelude.{◌||◌}
use Rattle.std.specs.List.{list_any}
use Rattle.std.proofs.Math.Seq.{drop-cons}
use Rattle.std.proofs.lemmas.List.{drop_all, take-map, length-map, map-append}
use Rattle.jr_ast.specs.declared.stmts.Stmt.{Stmt}
use Rattle.jr_ast.specs.declared.parts.Param.{Param}
use Rattle.jr_ast.specs.View.{stmt_of, stmts_of, param_of}
use Rattle.jr_rename.specs.declared.walks.Held as held
use Rattle.jr_rename.specs.declared.walks.Walk as raw
use Rattle.jr_rename.specs.Walks.{Asked, Held, Walk, held_of, walk_of, restored, in_stmt, in_else, in_stmts, in_params, declare_param, least_of, if_so, is_met, named_in}

left_is : {T : Type 0} (xs : List T) (i : ℕ) (x : T) → i < length xs → x ≡ get_or xs i x → drop i xs ≡ x ∷ drop (i + 1) xs
left_is xs i x lt is = drop-cons xs i x lt ∙ ap (λ z. z ∷ drop (suc i) xs) (sym is) ∙ ap (λ n. x ∷ drop n xs) (sym (add-one i))

module _ {A : Type 0} where
  pub stmts_go : (a : Asked) (w : Walk) (body : List (Stmt A)) (i : ℕ) (x : Stmt A) → i < length body → x ≡ get_or body i x
      → in_stmts a w (stmts_of (drop i body)) ≡ in_stmts a (in_stmt a w (stmt_of x)) (stmts_of (drop (i + 1) body))
  unfolding in_stmt in_else in_stmts
  stmts_go a w body i x lt is = ap (λ z. in_stmts a w (stmts_of z)) (left_is body i x lt is)

  pub stmts_end : (a : Asked) (w : Walk) (body : List (Stmt A)) (i : ℕ) → length body ≤ i → in_stmts a w (stmts_of (drop i body)) ≡ w
  unfolding in_stmt in_else in_stmts
  stmts_end a w body i past = ap (λ z. in_stmts a w (stmts_of z)) (drop_all i body past)

-- what was declared behind the old walk is cut off
pub cut : (w v : raw.Walk) (scope : Vec held.Held Global) → scope.items ≡ take (length w.scope.items) v.scope.items
    → walk_of (record { scope = scope; next = v.next; is_named = v.is_named; least = v.least }) ≡ restored (walk_of w) (walk_of v)
cut w v scope is =
    let shown = ap (map held_of) is ∙ sym (take-map held_of (length w.scope.items) v.scope.items) ∙ ap (λ n. take n (map held_of v.scope.items)) (sym (length-map w.scope.items held_of)) in
    λ i. record { scope = shown i; next = v.next; is_named = v.is_named; least = v.least }

-- what is declared stands behind the others
pub grown : (old scope : List held.Held) (h : held.Held) → scope ≡ old ++ h ∷ [] → map held_of scope ≡ map held_of old ++ held_of h ∷ []
grown old scope h is = ap (map held_of) is ∙ map-append held_of old (h ∷ [])

pub any_shown : (p : Held → Bool) (hs : List held.Held) → list_any (λ h. p (held_of h)) hs ≡ list_any p (map held_of hs)
any_shown p [] = refl
any_shown p (h ∷ hs) = λ i. p (held_of h) || any_shown p hs i

pub params_go : {A : Type 0} (a : Asked) (is_param : Bool) (types : ℕ) (w : Walk) (ps : List (Param A)) (i : ℕ) (p : Param A) → i < length ps → p ≡ get_or ps i p
    → in_params a is_param types w (map param_of (drop i ps)) ≡ in_params a is_param types (declare_param a is_param types w (param_of p).name.text) (map param_of (drop (i + 1) ps))
params_go a is_param types w ps i p lt is = ap (λ z. in_params a is_param types w (map param_of z)) (left_is ps i p lt is)

pub params_end : {A : Type 0} (a : Asked) (is_param : Bool) (types : ℕ) (w : Walk) (ps : List (Param A)) (i : ℕ) → length ps ≤ i → in_params a is_param types w (map param_of (drop i ps)) ≡ w
params_end a is_param types w ps i past = ap (λ z. in_params a is_param types w (map param_of z)) (drop_all i ps past)

pub named_goes : (a : Asked) (o : Option ℕ) (hs : List held.Held) (i : ℕ) (h : held.Held) → i < length hs → h ≡ get_or hs i h
    → named_in a o (map held_of (drop i hs)) ≡ named_in a (least_of o (if_so (is_met a (held_of h)) h.number)) (map held_of (drop (i + 1) hs))
named_goes a o hs i h lt is = ap (λ z. named_in a o (map held_of z)) (left_is hs i h lt is)

pub named_ends : (a : Asked) (o : Option ℕ) (hs : List held.Held) (i : ℕ) → length hs ≤ i → named_in a o (map held_of (drop i hs)) ≡ o
named_ends a o hs i past = ap (λ z. named_in a o (map held_of z)) (drop_all i hs past)
