-- The member of a declared local: its number, what binding knows of it, and where it begins.
use Rattle.std.proofs.Common.{◌≡◌, ℕ, ◌-◌, ◌<◌, Bool, true, false, List, [], ◌∷◌, length, map, Option, Some, None, option_map, refl, sym, ap, subst, ◌∙◌}
use Rattle.std.specs.Prelude.{slice_get}
use Rattle.std.proofs.lemmas.Option.{none-some, same_Some, slice_get_within, slice_get-map}
use Rattle.std.proofs.lemmas.List.{length-map}
use Rattle.jr_text.specs.declared.spans.Span.{Span}
use Rattle.jr_ast.specs.declared.stmts.Stmt.{Stmt}
use Rattle.jr_ast.specs.Tree as tree
use Rattle.jr_ast.specs.MemberTree as syntax
use Rattle.jr_ast.specs.View.{stmts_of}
use Rattle.jr_grammar.specs.Layout.{itself}
use Rattle.jr_table.specs.Decls.{MemberKey, LocalKey}
use Rattle.jr_table.specs.Errors.{Part, class_part, member_part, part_mark}
use Rattle.jr_members.specs.WrittenMembers.{WrittenMember}
use Rattle.jr_members.specs.declared.keyed.WrittenMember as raw
use Rattle.jr_members.specs.PartView.{written_of}
use Rattle.jr_bind.specs.Bounds.{Bound}
use Rattle.jr_bind.specs.Programs.{Program, IsProgram}
use Rattle.jr_pieces.specs.Ways.{ListWay}
use Rattle.jr_bodies.specs.Bodies.{Body, body_of}
use Rattle.jr_bodies.specs.CodedBodies.{body_with}
use Rattle.jr_bodies.proofs.Coded.{no_body, same_body}
use Rattle.jr_local.specs.Crossing.{DoesReadAlone}
use Rattle.jr_local_asked.specs.Declaring.{DeclaredLocal, members_of, IsThere}
use Rattle.jr_local_uses.specs.declared.namings.Head as raw_head
use Rattle.jr_local_uses.specs.Heads.{Head, declaration_head}
use Rattle.jr_local_uses.specs.HeadView.{head_of}
use Rattle.jr_local_uses.specs.PlainValues.{HasValue, TellsPlain}
use Rattle.jr_local_uses.specs.LocalNamings.{declared_by}
use Rattle.jr_local_uses.specs.Inlines.{TellsReads}

-- ---- a body stands in a member that begins where it does

starts_at : (k : MemberKey) (base : ℕ) (part : Part Span) (bound : Bound) (b : Body) → body_of k base part bound ≡ Some b → (part_mark part).from ≡ b.at.base
starts_at k base (class_part c) bound b e = absurd (no_body b e)
starts_at k base (member_part (syntax.field m mods t w init)) bound b e = absurd (no_body b e)
starts_at k base (member_part (syntax.inner m c)) bound b e = absurd (no_body b e)
starts_at k base (member_part (syntax.method m mods t w ps body)) bound b e = ap (λ (x : Body). x.at.base) (same_body _ b e)
starts_at k base (member_part (syntax.constructor m mods w ps args body)) bound b e = ap (λ (x : Body). x.at.base) (same_body _ b e)

a_member : (k : MemberKey) (base : ℕ) (part : Part Span) (bound : Bound) (b : Body) → body_of k base part bound ≡ Some b → (m : syntax.Member Span) × (part ≡ member_part m)
a_member k base (class_part c) bound b e = absurd (no_body b e)
a_member k base (member_part m) bound b e = (m, refl)

-- ---- heads of lists

pub no_head : (xs : List (Stmt Span)) → length xs ≡ 0 → None ≡ declaration_head (stmts_of xs)
no_head [] e = refl
no_head (x ∷ xs) e = absurd cc

-- ---- a local that is there

module _ (p : Program Span) (file : ℕ) (k : LocalKey) (x : DeclaredLocal) (h : IsThere p file k x) where
  abbrev pub body : Body
  body = body_with k.member h.is_static h.base x.code h.bound

  pub bound_there : x.member < length p.bounds
  bound_there = subst (λ (n : ℕ). n < length p.bounds) h.number (slice_get_within p.bounds h.has.number h.bound h.has.bound)

  pub bound_is : (b : Bound) → slice_get p.bounds x.member ≡ Some b → b ≡ h.bound
  bound_is b e = same_Some b h.bound (sym e ∙ ap (slice_get p.bounds) (sym h.number) ∙ h.has.bound)

  module _ (members : List (raw.WrittenMember Span)) (are : map written_of members ≡ members_of p) where
    pub is_member : x.member < length members
    is_member =
        let lt = slice_get_within (members_of p) h.has.number h.has.member h.has.written in
        subst (λ (n : ℕ). n < length members) h.number (subst (λ (l : ℕ). h.has.number < l) (ap length (sym are) ∙ length-map members written_of) lt)

    pub written_is : (w : raw.WrittenMember Span) → slice_get members x.member ≡ Some w → written_of w ≡ h.has.member
    written_is w e =
        let there = slice_get-map written_of members x.member ∙ ap (option_map written_of) e in
        same_Some (written_of w) h.has.member (sym there ∙ ap (λ (xs : List (WrittenMember Span)). slice_get xs x.member) are ∙ ap (slice_get (members_of p)) (sym h.number) ∙ h.has.written)

    pub start_is : (w : raw.WrittenMember Span) → slice_get members x.member ≡ Some w → (start : ℕ) → start ≡ (part_mark (written_of w).part).from → start ≡ h.base
    start_is w e start is =
        is ∙ ap (λ (y : WrittenMember Span). (part_mark y.part).from) (written_is w e)
        ∙ starts_at h.has.member.key h.has.member.base h.has.member.part h.bound body h.has.is

  -- it has code
  pub has_member : (m : syntax.Member Span) × (h.has.member.part ≡ member_part m)
  has_member = a_member h.has.member.key h.has.member.base h.has.member.part h.bound body h.has.is

  -- the head of its list
  abbrev pub own_head : Head
  own_head = record { size = h.stands.word.mark.to - h.stands.word.mark.from; init = h.stands.init; rest = h.stands.rest }

  pub head_there : declaration_head x.list ≡ Some own_head
  head_there = ap declaration_head h.stands.is

  pub head_is : (o : Option raw_head.Head) (y : raw_head.Head) → option_map head_of o ≡ declaration_head x.list → o ≡ Some y → head_of y ≡ own_head
  head_is o y told is = same_Some (head_of y) own_head (sym (ap (option_map head_of) is) ∙ told ∙ head_there)

  pub is_headed : (o : Option raw_head.Head) → option_map head_of o ≡ declaration_head x.list → o ≡ None → ⊥
  is_headed o told is = none-some own_head (sym (ap (option_map head_of) is) ∙ told ∙ head_there)

  -- the initializer, in the member's code
  pub has_value : IsProgram itself (λ m b. Unit {0}) p → (m : syntax.Member Span) → h.has.member.part ≡ member_part m → (bound : Bound) → bound ≡ h.bound → (init : tree.Exp Span) → init ≡ h.stands.init
      → HasValue p bound m x.code init
  has_value program m part bound bound_so init init_is = record {
    program = program;
    file = file;
    body = body;
    has = h.has;
    part = part;
    bound_is = sym bound_so;
    list = refl;
    front = refl;
    way = subst (λ (e : tree.Exp Span). ListWay e x.code.list) (sym init_is) h.stands.way;
  }

  pub tells_reads : (program : IsProgram itself (λ m b. Unit {0}) p) (m : syntax.Member Span) (part : h.has.member.part ≡ member_part m) (bound : Bound) (bound_so : bound ≡ h.bound) (init : tree.Exp Span) (init_is : init ≡ h.stands.init) (q : Bool)
      → TellsPlain p (has_value program m part bound bound_so init init_is) q → TellsReads (declared_by h) q
  unfolding has_value
  tells_reads program m part bound bound_so init init_is true t = subst (λ (e : tree.Exp Span). DoesReadAlone p file body e) init_is t
  tells_reads program m part bound bound_so init init_is false t = subst (λ (e : tree.Exp Span). DoesReadAlone p file body e → ⊥) init_is t
