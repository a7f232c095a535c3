-- In two programs of the same files: a body of the one is a body of the other, but for what binding
-- knows of it, and this answers alike.
use Rattle.std.proofs.Common.{◌≡◌, ℕ, zero, suc, List, [], ◌∷◌, Some, refl, sym, ap, ◌∙◌, subst}
use Rattle.std.specs.Prelude.{slice_get}
use Rattle.jr_text.specs.declared.spans.Span.{Span}
use Rattle.jr_lex.specs.Places.{ItemsPlaced}
use Rattle.jr_ast.specs.Tree as tree
use Rattle.jr_ast.specs.Marks.{exp_mark}
use Rattle.jr_grammar.specs.Layout.{itself}
use Rattle.jr_table.specs.Decls.{MemberKey}
use Rattle.jr_table.specs.Rows.{Row}
use Rattle.jr_table.specs.LookupLaws.{KeysFound, OneAnswer}
use Rattle.jr_table.specs.BindingLaws.{AreBound as BindingIsExact}
use Rattle.jr_members.specs.WrittenMembers.{WrittenMember, written_members}
use Rattle.jr_members.specs.WrittenLaws.{MembersAreWritten}
use Rattle.jr_bind.specs.Bounds.{Bound}
use Rattle.jr_bind.specs.Programs.{Program, AreBound, units_of}
use Rattle.jr_pieces.specs.Ways.{ListWay}
use Rattle.jr_pieces.specs.Finding.{list_end}
use Rattle.jr_pieces.specs.Nesting.{StandingListsAreNested}
use Rattle.jr_told_ways.specs.Told.{In, OneWayHasASpan}
use Rattle.jr_local.specs.Bodies.{begins, Body, body_of, HasBody}
use Rattle.jr_local_texts.proofs.StandingBodies.{contains_at}
use Rattle.jr_one_plans.specs.OneAnswer.{AnswerAlike}
use Rattle.jr_one_plans.proofs.Beside.{beside, IsWhole, one_beside}
use Rattle.jr_local_plans.proofs.BodyLists.{body_nested}
use Rattle.jr_local_plans.proofs.OneSelected.{list_ends}
use Rattle.jr_local_plans.proofs.Frames.{Frame, frame_of, with_bound, Placed, placed, one_frame, bound_again, has_key}
use Rattle.jr_local_plans.proofs.OneMember.{HoldsByte}
use Rattle.jr_local_plans.proofs.InMember.{begins_within, member_once}

-- the laws that what is found stands on
pub record Laws : Type 0 where
  pub items : ItemsPlaced
  pub written : MembersAreWritten Span
  pub nested : StandingListsAreNested Span
  pub ways : OneWayHasASpan Span
  pub keys : KeysFound
  pub one : OneAnswer
  pub binding : BindingIsExact Span

nothing_stands : {X : Type 0} (n : ℕ) (x : X) → (let none : List X = [] in slice_get none n ≡ Some x) → ⊥
nothing_stands n x e = cc

-- each member has what is known of it
bound_there : (rows : List Row) (s : MemberKey → ℕ) (ws : List (WrittenMember Span)) (bs : List Bound) (n : ℕ) (w : WrittenMember Span) → AreBound itself (λ (m : Span) (k : ℕ). Unit {0}) rows s ws bs → slice_get ws n ≡ Some w → (c : Bound) × (slice_get bs n ≡ Some c)
bound_there rows s [] bs n w are e = absurd (nothing_stands n w e)
bound_there rows s (v ∷ ws) [] n w are e = absurd are
bound_there rows s (v ∷ ws) (c ∷ bs) zero w are e = (c, refl)
bound_there rows s (v ∷ ws) (c ∷ bs) (suc n) w are e = bound_there rows s ws bs n w are.1 e

-- an expression of the list, with the way to it
abbrev placed_in : (f : Frame) → In (λ (h : tree.Exp Span). ListWay h f.list) → Placed
placed_in f i = record { frame = f; value = i.value; way = i.way }

module _ (laws : Laws) (p : Program Span) (s : MemberKey → ℕ) (bs : List Bound) (is : IsWhole p) (also : IsWhole (beside p s bs)) where
  abbrev q : Program Span
  q = beside p s bs

  abbrev members : List (WrittenMember Span)
  members = written_members begins p.rows (units_of p)

  -- the same body of the other program
  pub record HasThere (file : ℕ) (a : Body) : Type 0 where
    pub bound : Bound
    pub has : HasBody q file (with_bound (frame_of a) bound)
    pub alike : AnswerAlike a.bound bound

  pub has_there : (file : ℕ) (a : Body) → HasBody p file a → HasThere file a
  has_there file a h =
      let c = bound_there p.rows s members bs h.number h.member also.bound h.written in
      record {
        bound = c.0;
        has = record {
          number = h.number;
          member = h.member;
          written = h.written;
          in_file = h.in_file;
          bound = c.1;
          is = bound_again h.member.key h.member.base h.member.part a.bound c.0 a h.is;
        };
        alike = (one_beside laws.written p s bs is also).bounds h.number h.number h.member a.bound c.0 h.written h.written h.bound c.1;
      }

  -- two bodies of one member
  pub record AreOneBody (a b : Body) : Type 0 where
    pub frames : frame_of a ≡ frame_of b
    pub alike : AnswerAlike a.bound b.bound

  of_member : (file : ℕ) (a b : Body) (h : HasBody p file a) (k : HasBody q file b) → h.member ≡ k.member → AreOneBody a b
  of_member file a b h k same =
      let there = subst (λ (w : WrittenMember Span). body_of w.key w.base w.part b.bound ≡ Some b) (sym same) k.is in
      record {
        frames = one_frame h.member.key h.member.base h.member.part a.bound b.bound a b h.is there;
        alike = (one_beside laws.written p s bs is also).bounds h.number k.number h.member a.bound b.bound h.written (k.written ∙ ap (λ (w : WrittenMember Span). Some w) (sym same)) h.bound k.bound;
      }

  -- of one key
  pub body_by_key : (file : ℕ) (a b : Body) → HasBody p file a → HasBody q file b → a.key ≡ b.key → AreOneBody a b
  body_by_key file a b h k same =
      let are = laws.written begins (units_of p) p.rows is.are_rows is.rows in
      let key : h.member.key ≡ k.member.key = sym (has_key h.member.key h.member.base h.member.part a.bound a h.is) ∙ same ∙ has_key k.member.key k.member.base k.member.part b.bound b k.is in
      of_member file a b h k (are.one h.member k.member (contains_at members h.number h.member h.written) (contains_at members k.number k.member k.written) key)

  -- in which expressions begin at one byte
  pub body_by_byte : (file : ℕ) (a b : Body) → HasBody p file a → HasBody q file b → (f g : tree.Exp Span) → ListWay f a.list → ListWay g b.list → (exp_mark f).from ≡ (exp_mark g).from → AreOneBody a b
  body_by_byte file a b h k f g d e same =
      of_member file a b h k (member_once laws.items laws.written p is h.member k.member h.number k.number h.written k.written (h.in_file ∙ sym k.in_file) (exp_mark f).from (begins_within laws.items laws.written p is file a h d)
      (subst (λ (n : ℕ). HoldsByte n k.member.part) (sym same) (begins_within laws.items laws.written q also file b k e)))

  -- and so of one span: the expression, with the way to it
  abbrev Alike : (a : Body) (f : tree.Exp Span) → ListWay f a.list → Frame → Type 0
  Alike a f d r = (g : tree.Exp Span) (e : ListWay g r.list) → exp_mark f ≡ exp_mark g → placed a f d ≡ record { frame = r; value = g; way = e }

  pub placed_once : (file : ℕ) (a b : Body) → HasBody p file a → frame_of a ≡ frame_of b → (f g : tree.Exp Span) (d : ListWay f a.list) (e : ListWay g b.list) → exp_mark f ≡ exp_mark g → placed a f d ≡ placed b g e
  placed_once file a b h same f g d e = subst (Alike a f d) same here g e
    where
      here : Alike a f d (frame_of a)
      here g e span =
          let n = body_nested laws.items laws.written laws.nested p is file a h in
          let ends : list_end itself 0 d ≡ list_end itself 0 e = list_ends 0 d ∙ span ∙ sym (list_ends 0 e) in
          ap (placed_in (frame_of a)) (laws.ways itself (record { from = 0; to = n.to }) 1 a.list n.nested f g d e ends)
