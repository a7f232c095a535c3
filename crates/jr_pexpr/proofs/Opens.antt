-- What can no longer become a statement expression never can again.
use Rattle.std.proofs.Common.{◌≡◌, ℕ, true, cond, ltb, List, [], ◌∷◌, Option, Some, None, refl, sym, ◌∙◌}
use Rattle.std.specs.Prelude.{IfSome}
use Rattle.std.proofs.lemmas.Bool.{cond_both}
use Rattle.jr_ast.specs.declared.operators.UnOp.TheVariants.{Plus, Minus, Not}
use Rattle.jr_ast.specs.declared.operators.BinOp.{BinOp}
use Rattle.jr_ast.specs.declared.operators.BinOp.TheVariants.{Add, Sub}
use Rattle.jr_ast.specs.Tree.{Word, TypeName, named, Exp, name, field, super_field, bump, no_target, on, end}
use Rattle.jr_ast.specs.Marks.{exp_mark}
use Rattle.jr_grammar.specs.Tokens.{Token}
use Rattle.jr_grammar.specs.Shape.{rank_of, level_of}
use Rattle.jr_pexpr.specs.Pieces.{Way, Piece, a_word, an_atom, a_super, a_new, a_class, an_open, a_close, a_comma, a_dot, a_bang, a_bump, an_operator, an_equals, a_compound, piece_of}
use Rattle.jr_pexpr.specs.Machine.{call_head, super_head, create_head, Frame, in_unary, in_bump, in_assign, in_compound, in_paren, in_args, State, want, have, dotted, at_super, super_dotted, at_new, new_named, new_dotted, with_last, behind, binds, needed, behind_minus, plug, fits, reduced, operated, closed, continued, at_most, atom_exp, atom_fits, signed, emptied, begun, name_type, cast_of, casted, opened, is_target, is_compound, assigned, bumped, extended, literal_of, member, behind_super, super_member, behind_new, new_outer, behind_new_name, new_inner, stepped, step, is_bottom, is_open, frames_of}

-- what was open stays what it was
abbrev pub Opens : {A : Type 0} → List (Frame A) → Option (State A) → Type 0
Opens {A} fs o = IfSome o (λ (n : State A). is_open (frames_of n) ≡ true → is_open fs ≡ true)

pub open_tail : {A : Type 0} (f : Frame A) (fs : List (Frame A)) → is_open (f ∷ fs) ≡ true → is_open fs ≡ true
open_tail f [] h = refl
open_tail f (g ∷ fs) h = h

open_bracket : {A : Type 0} (f : Frame A) (fs : List (Frame A)) → is_bottom f ≡ true → is_open fs ≡ true → is_open (f ∷ fs) ≡ true
open_bracket f [] b h = b
open_bracket f (g ∷ fs) b h = h

abbrev IsMore : {A : Type 0} → List (Frame A) → Type 0
IsMore [] = ⊥
IsMore (f ∷ fs) = Unit {0}

-- the same frame is at the bottom, if any is left
abbrev SameBottom : {A : Type 0} → List (Frame A) → Option (State A) → Type 0
SameBottom {A} fs o = IfSome o (λ (n : State A). IsMore (frames_of n) → is_open (frames_of n) ≡ is_open fs)

same_more : {A : Type 0} (f g : Frame A) (fs : List (Frame A)) (o : Option (State A)) → SameBottom (g ∷ fs) o → SameBottom (f ∷ g ∷ fs) o
same_more f g fs None h = tt
same_more f g fs (Some n) h = h

pub reduced_bottom : {A : Type 0} (join : A → A → A) (k : ℕ) (fs : List (Frame A)) (e : Exp A) → SameBottom fs (reduced join k fs e)
reduced_bottom join k [] e = λ h. absurd h
reduced_bottom {A} join k (f ∷ fs) e =
    cond_both (ltb (binds f) k) (Some (have (f ∷ fs) e)) (cond (fits f e) (reduced join k fs (plug join f e)) None) (SameBottom (f ∷ fs))
    (λ _ _. refl)
    (λ _. cond_both (fits f e) (reduced join k fs (plug join f e)) None (SameBottom (f ∷ fs)) (λ _. go fs (reduced_bottom join k fs (plug join f e))) (λ _. tt))
  where
    go : (gs : List (Frame A)) → SameBottom gs (reduced join k gs (plug join f e)) → SameBottom (f ∷ gs) (reduced join k gs (plug join f e))
    go [] h = λ m. absurd m
    go (g ∷ gs) h = same_more f g gs (reduced join k (g ∷ gs) (plug join f e)) h

operated_opens : {A : Type 0} (o : BinOp) (fs : List (Frame A)) (r : Option (State A)) → SameBottom fs r → Opens fs (operated o r)
operated_opens o fs (Some (have [] e)) h = λ k. absurd cc
operated_opens o fs (Some (have (g ∷ gs) e)) h = λ k. sym (h tt) ∙ k
operated_opens o fs _ h = tt

closed_opens : {A : Type 0} (join : A → A → A) (at : A) (fs : List (Frame A)) (r : Option (State A)) → SameBottom fs r → Opens fs (closed join at r)
closed_opens join at fs (Some (have (in_paren m ∷ gs) e)) h = λ k. sym (h tt) ∙ open_bracket (in_paren m) gs refl k
closed_opens join at fs (Some (have (in_args c es ∷ gs) e)) h = λ k. sym (h tt) ∙ open_bracket (in_args c es) gs refl k
closed_opens join at fs _ h = tt

continued_opens : {A : Type 0} (fs : List (Frame A)) (r : Option (State A)) → SameBottom fs r → Opens fs (continued r)
continued_opens fs (Some (have (in_args c es ∷ gs) e)) h = λ k. sym (h tt) ∙ open_bracket (in_args c es) gs refl (open_tail (in_args c (with_last es e)) gs k)
continued_opens fs _ h = tt

at_most_opens : {A : Type 0} (k : ℕ) (fs gs : List (Frame A)) (s : State A) → (is_open (frames_of s) ≡ true → is_open gs ≡ true) → Opens gs (at_most k fs s)
at_most_opens k fs gs s h = cond_both (ltb k (needed fs)) None (Some s) (Opens gs) (λ _. tt) (λ _. h)

signed_opens : {A : Type 0} (fs : List (Frame A)) (at : A) (o : BinOp) → Opens fs (signed fs at o)
signed_opens fs at Add = at_most_opens 8 fs fs (want (in_unary at Plus ∷ fs)) (open_tail (in_unary at Plus) fs)
signed_opens fs at Sub = at_most_opens 8 fs fs (want (in_unary at Minus ∷ fs)) (open_tail (in_unary at Minus) fs)
signed_opens fs at _ = tt

emptied_opens : {A : Type 0} (join : A → A → A) (at : A) (fs : List (Frame A)) → Opens fs (emptied join at fs)
emptied_opens join at (in_args c end ∷ fs) = open_bracket (in_args c end) fs refl
emptied_opens join at _ = tt

begun_opens : {A : Type 0} (join : A → A → A) (fs : List (Frame A)) (at : A) (p : Piece) → Opens fs (begun join fs at p)
unfolding begun
begun_opens join fs at (a_word w) = λ h. h
begun_opens join fs at (an_atom a) = cond_both (atom_fits (behind_minus fs) a) (Some (have fs (atom_exp at a))) None (Opens fs) (λ _ h. h) (λ _. tt)
begun_opens join fs at a_super = λ h. h
begun_opens join fs at a_new = λ h. h
begun_opens join fs at an_open = open_tail (in_paren at) fs
begun_opens join fs at a_close = emptied_opens join at fs
begun_opens join fs at a_bang = at_most_opens 9 fs fs (want (in_unary at Not ∷ fs)) (open_tail (in_unary at Not) fs)
begun_opens join fs at (a_bump w) = at_most_opens 8 fs fs (want (in_bump at w ∷ fs)) (open_tail (in_bump at w) fs)
begun_opens join fs at (an_operator o) = signed_opens fs at o
begun_opens join fs at _ = tt

opens_more : {A : Type 0} (f : Frame A) (fs : List (Frame A)) (o : Option (State A)) → Opens (f ∷ fs) o → Opens fs o
opens_more f fs None h = tt
opens_more f fs (Some n) h = λ k. open_tail f fs (h k)

casted_opens : {A : Type 0} (join : A → A → A) (c : Option (Frame A)) (fs : List (Frame A)) (at : A) (p : Piece) → Opens fs (casted join c fs at p)
casted_opens join (Some f) fs at p =
    cond_both (ltb 9 (needed fs)) None (begun join (f ∷ fs) at p) (Opens fs) (λ _. tt) (λ _. opens_more f fs (begun join (f ∷ fs) at p) (begun_opens join (f ∷ fs) at p))
casted_opens join None fs at p = tt

opened_opens : {A : Type 0} (join : A → A → A) (fs : List (Frame A)) (e : Exp A) (at : A) → Opens fs (opened join fs e at)
opened_opens join fs (name m w) at = open_tail (in_args (call_head m no_target w) end) fs
opened_opens join fs (field m e w) at = open_tail (in_args (call_head m (on e) w) end) fs
opened_opens join fs (super_field m w) at = open_tail (in_args (super_head m w) end) fs
opened_opens join fs e at = casted_opens join (cast_of e) fs at an_open

assigned_opens : {A : Type 0} (fs : List (Frame A)) (e : Exp A) (f : Frame A) → Opens fs (assigned fs e f)
assigned_opens fs e f = cond_both (is_target e) (at_most 1 fs (want (f ∷ fs))) None (Opens fs) (λ _. at_most_opens 1 fs fs (want (f ∷ fs)) (open_tail f fs)) (λ _. tt)

bumped_opens : {A : Type 0} (join : A → A → A) (fs : List (Frame A)) (e : Exp A) (at : A) (w : Way) → Opens fs (bumped join fs e at w)
bumped_opens join fs e at w =
    cond_both (is_target e) (at_most 9 fs (have fs (bump (join (exp_mark e) at) (behind w) e))) None (Opens fs)
    (λ _. at_most_opens 9 fs fs (have fs (bump (join (exp_mark e) at) (behind w) e)) (λ h. h))
    (λ _. tt)

extended_opens : {A : Type 0} (join : A → A → A) (fs : List (Frame A)) (e : Exp A) (at : A) (p : Piece) → Opens fs (extended join fs e at p)
unfolding extended
extended_opens join fs e at a_dot = cond_both (ltb (level_of e) 10) None (Some (dotted fs e)) (Opens fs) (λ _. tt) (λ _ h. h)
extended_opens join fs e at (a_bump w) = bumped_opens join fs e at w
extended_opens join fs e at (an_operator o) = operated_opens o fs (reduced join (rank_of o) fs e) (reduced_bottom join (rank_of o) fs e)
extended_opens join fs e at an_equals = assigned_opens fs e (in_assign e)
extended_opens join fs e at (a_compound o) = cond_both (is_compound o) (assigned fs e (in_compound o e)) None (Opens fs) (λ _. assigned_opens fs e (in_compound o e)) (λ _. tt)
extended_opens join fs e at a_close = closed_opens join at fs (reduced join 1 fs e) (reduced_bottom join 1 fs e)
extended_opens join fs e at a_comma = continued_opens fs (reduced join 1 fs e) (reduced_bottom join 1 fs e)
extended_opens join fs e at an_open = opened_opens join fs e at
extended_opens join fs e at (a_word w) = casted_opens join (cast_of e) fs at (a_word w)
extended_opens join fs e at (an_atom a) = casted_opens join (cast_of e) fs at (an_atom a)
extended_opens join fs e at a_super = casted_opens join (cast_of e) fs at a_super
extended_opens join fs e at a_new = casted_opens join (cast_of e) fs at a_new
extended_opens join fs e at a_bang = casted_opens join (cast_of e) fs at a_bang
extended_opens join fs e at _ = tt

literal_opens : {A : Type 0} (fs : List (Frame A)) (m : A) (t : Option (TypeName A)) → Opens fs (literal_of fs m t)
literal_opens fs m (Some t) = λ h. h
literal_opens fs m None = tt

member_opens : {A : Type 0} (join : A → A → A) (fs : List (Frame A)) (e : Exp A) (at : A) (p : Piece) → Opens fs (member join fs e at p)
member_opens join fs e at (a_word w) = λ h. h
member_opens join fs e at a_class = literal_opens fs (join (exp_mark e) at) (name_type e)
member_opens join fs e at _ = tt

behind_super_opens : {A : Type 0} (fs : List (Frame A)) (m : A) (p : Piece) → Opens fs (behind_super fs m p)
behind_super_opens fs m a_dot = λ h. h
behind_super_opens fs m _ = tt

super_member_opens : {A : Type 0} (join : A → A → A) (fs : List (Frame A)) (m at : A) (p : Piece) → Opens fs (super_member join fs m at p)
super_member_opens join fs m at (a_word w) = λ h. h
super_member_opens join fs m at _ = tt

behind_new_opens : {A : Type 0} (fs : List (Frame A)) (m at : A) (p : Piece) → Opens fs (behind_new fs m at p)
behind_new_opens fs m at (a_word w) = λ h. h
behind_new_opens fs m at _ = tt

new_outer_opens : {A : Type 0} (fs : List (Frame A)) (m : A) (t : TypeName A) → Opens fs (new_outer fs m t)
new_outer_opens fs m (named n None w) = λ h. h
new_outer_opens fs m _ = tt

behind_new_name_opens : {A : Type 0} (fs : List (Frame A)) (m : A) (t : TypeName A) (p : Piece) → Opens fs (behind_new_name fs m t p)
behind_new_name_opens fs m t a_dot = new_outer_opens fs m t
behind_new_name_opens fs m t an_open = open_tail (in_args (create_head m t) end) fs
behind_new_name_opens fs m t _ = tt

new_inner_opens : {A : Type 0} (join : A → A → A) (fs : List (Frame A)) (m : A) (o : Word A) (at : A) (p : Piece) → Opens fs (new_inner join fs m o at p)
new_inner_opens join fs m o at (a_word w) = λ h. h
new_inner_opens join fs m o at _ = tt

pub piece_opens : {A : Type 0} (join : A → A → A) (s : State A) (at : A) (p : Piece) → Opens (frames_of s) (stepped join s at p)
piece_opens join (want fs) at p = begun_opens join fs at p
piece_opens join (have fs e) at p = extended_opens join fs e at p
piece_opens join (dotted fs e) at p = member_opens join fs e at p
piece_opens join (at_super fs m) at p = behind_super_opens fs m p
piece_opens join (super_dotted fs m) at p = super_member_opens join fs m at p
piece_opens join (at_new fs m) at p = behind_new_opens fs m at p
piece_opens join (new_named fs m t) at p = behind_new_name_opens fs m t p
piece_opens join (new_dotted fs m o) at p = new_inner_opens join fs m o at p

pub step_opens : {A : Type 0} (join : A → A → A) (s : State A) (at : A) (t : Token) → Opens (frames_of s) (step join s at t)
step_opens join s at t = piece_opens join s at (piece_of t)
