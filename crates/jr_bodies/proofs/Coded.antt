-- The body that a member has is of its code.
use Rattle.std.proofs.Common.{◌≡◌, ℕ, Bool, false, Option, Some, None}
use Rattle.jr_text.specs.declared.spans.Span.{Span}
use Rattle.jr_ast.specs.MemberTree as syntax
use Rattle.jr_table.specs.Decls.{MemberKey}
use Rattle.jr_table.specs.HeadRules.{is_static_member}
use Rattle.jr_table.specs.Errors.{Part, class_part, member_part}
use Rattle.jr_bind.specs.Bounds.{Bound}
use Rattle.jr_bodies.specs.MemberCode.{Code, code_of}
use Rattle.jr_bodies.specs.Bodies.{begins, Body, body_of}
use Rattle.jr_bodies.specs.CodedBodies.{body_with}

pub no_body : (b : Body) → (let none : Option Body = None in none ≡ Some b) → ⊥
no_body b e = cc

pub same_body : (a b : Body) → (let o : Option Body = Some a in o ≡ Some b) → a ≡ b
same_body a b e = cc

no_code : (x : Code) → (let none : Option Code = None in none ≡ Some x) → ⊥
no_code x e = cc

same_code : (x y : Code) → (let o : Option Code = Some x in o ≡ Some y) → x ≡ y
same_code x y e = cc

-- The part has the body of this code, whatever binding knows of it.
pub record Codes (k : MemberKey) (base : ℕ) (part : Part Span) (x : Code) : Type 0 where
  pub is_static : Bool
  pub at : ℕ
  pub is : (b : Bound) → body_of k base part b ≡ Some (body_with k is_static at x b)

pub codes_of : (k : MemberKey) (base : ℕ) (part : Part Span) (x : Code) → code_of part ≡ Some x → Codes k base part x
codes_of k base (class_part c) x e = absurd (no_code x e)
codes_of k base (member_part (syntax.field m mods t w init)) x e = absurd (no_code x e)
codes_of k base (member_part (syntax.method m mods t w ps body)) x e = record {
  is_static = is_static_member begins mods;
  at = begins m base;
  is = λ b i. Some (body_with k (is_static_member begins mods) (begins m base) (same_code _ x e i) b);
}
codes_of k base (member_part (syntax.constructor m mods w ps args body)) x e = record {
  is_static = false;
  at = begins m base;
  is = λ b i. Some (body_with k false (begins m base) (same_code _ x e i) b);
}
codes_of k base (member_part (syntax.inner m c)) x e = absurd (no_code x e)

-- without code it has none
pub no_codes : (k : MemberKey) (base : ℕ) (part : Part Span) (b : Bound) (x : Body) → (let none : Option Code = None in code_of part ≡ none) → body_of k base part b ≡ Some x → ⊥
no_codes k base (class_part c) b x n e = no_body x e
no_codes k base (member_part (syntax.field m mods t w init)) b x n e = no_body x e
no_codes k base (member_part (syntax.method m mods t w ps body)) b x n e = cc
no_codes k base (member_part (syntax.constructor m mods w ps args body)) b x n e = cc
no_codes k base (member_part (syntax.inner m c)) b x n e = no_body x e

-- a body has its member's key
pub key_of : (k : MemberKey) (base : ℕ) (part : Part Span) (bound : Bound) (b : Body) → body_of k base part bound ≡ Some b → k ≡ b.key
key_of k base (class_part c) bound b e = absurd (no_body b e)
key_of k base (member_part (syntax.field m mods t w init)) bound b e = absurd (no_body b e)
key_of k base (member_part (syntax.method m mods t w ps body)) bound b e = λ i. (same_body _ b e i).key
key_of k base (member_part (syntax.constructor m mods w ps args body)) bound b e = λ i. (same_body _ b e i).key
key_of k base (member_part (syntax.inner m c)) bound b e = absurd (no_body b e)
