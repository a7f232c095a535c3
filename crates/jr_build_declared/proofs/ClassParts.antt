-- What of a class fits where the class does.
use Rattle.std.proofs.Common.{◌≡◌, ℕ, map, option_map, subst}
use Rattle.jr_ast.specs.MemberTree as syntax
use Rattle.jr_ast.specs.declared.members.Class.{Class, out-Class}
use Rattle.jr_ast.specs.declared.members.Member.{Member}
use Rattle.jr_ast.specs.Marks.{member_mark}
use Rattle.jr_ast.specs.View.{word_of, type_of, class_of, member_of, members_of}
use Rattle.jr_ast.proofs.Rows.{class_of-out, member_mark_is}
use Rattle.jr_build_declared.specs.Fitting.{WordFits, MaybeTypeFits, MemberFits, ClassFits, MembersFit}

pub class_parts : {A : Type 0} (B : A → ℕ → ℕ) (F : A → ℕ → Type 0) (base : ℕ) (x : Class A) → ClassFits B F base (class_of x)
    → F (out-Class A x).mark base × WordFits B F (B (out-Class A x).mark base) (word_of (out-Class A x).name)
    × MaybeTypeFits B F (B (out-Class A x).mark base) (option_map type_of (out-Class A x).parent) × MembersFit B F (B (out-Class A x).mark base) (members_of (out-Class A x).members.items)
unfolding MemberFits ClassFits MembersFit
class_parts {A} B F base x h = subst (λ (d : syntax.Class A). ClassFits B F base d) (class_of-out A x) h

own_fits : {A : Type 0} (B : A → ℕ → ℕ) (F : A → ℕ → Type 0) (base : ℕ) (m : syntax.Member A) → MemberFits B F base m → F (member_mark m) base
unfolding MemberFits ClassFits MembersFit
own_fits B F base (syntax.field m mods t w init) h = h.0
own_fits B F base (syntax.method m mods t w ps body) h = h.0
own_fits B F base (syntax.constructor m mods w ps args body) h = h.0
own_fits B F base (syntax.inner m c) h = h.0

pub member_begins : {A : Type 0} (B : A → ℕ → ℕ) (F : A → ℕ → Type 0) (base : ℕ) (x : Member A) → MemberFits B F base (member_of x) → F x.mark base
member_begins B F base x h = subst (λ m. F m base) (member_mark_is x) (own_fits B F base (member_of x) h)
