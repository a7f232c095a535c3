-- The machine with marks steps as the one without.
use Rattle.std.proofs.Common.{◌≡◌, ℕ, Bool, true, false, cond, ltb, List, [], ◌∷◌, Option, Some, None, refl, sym, ap, ◌∙◌}
use Rattle.std.specs.Prelude.{option_map}
use Rattle.jr_ast.specs.declared.operators.UnOp.TheVariants.{Plus, Minus, Not}
use Rattle.jr_ast.specs.declared.operators.BinOp.{BinOp}
use Rattle.jr_ast.specs.declared.operators.BinOp.TheVariants.{Add, Sub}
use Rattle.jr_ast.specs.Tree.{Word, TypeName, named, Exp, number, name, field, super_field, call, super_call, create, paren, cast, unary, bump, binary, assign, compound, Exps, end, more}
use Rattle.jr_ast.specs.Marks.{exp_mark}
use Rattle.jr_ast.specs.Remarked.{map_exp, map_target, map_exps}
use Rattle.jr_grammar.specs.Tokens.{Token}
use Rattle.jr_grammar.specs.Shape.{rank_of, level_of}
use Rattle.jr_pexpr.specs.Pieces.{Way, Atom, a_number, a_truth, a_null, a_string, a_this, Piece, a_word, an_atom, a_super, a_new, a_class, an_open, a_close, a_comma, a_dot, a_bang, a_bump, an_operator, an_equals, a_compound, piece_of}
use Rattle.jr_pexpr.specs.Machine.{Head, call_head, super_head, create_head, Frame, in_unary, in_bump, in_assign, in_compound, in_paren, in_args, State, want, have, dotted, at_super, super_dotted, at_new, new_named, new_dotted, with_last, behind, binds, needed, behind_minus, plug, fits, applied, reduced, operated, closed, continued, at_most, atom_exp, atom_fits, signed, emptied, begun, name_type, cast_frame, cast_of, casted, opened, is_target, is_compound, assigned, bumped, extended, literal_of, member, behind_super, super_member, behind_new, new_outer, behind_new_name, new_inner, stepped, step, whole_of, whole, is_bottom, is_open, frames_of, kept_open, statement_step, is_statement, kept_statement, statement_whole}
use Rattle.jr_grammar.specs.Bare.{Bare, bare_word, bare_type, bare, bare_args}
use Rattle.jr_pexpr.specs.BareMachine.{no_join, bare_head, bare_frame, bare_stack, bare_state, bare_step, bare_whole, bare_statement_step, bare_statement_whole}

level_of-bare : {A : Type 0} (e : Exp A) → level_of (bare e) ≡ level_of e
unfolding map_exp map_target map_exps
level_of-bare (cast m t e) = refl
level_of-bare (unary m o e) = refl
level_of-bare (bump m o e) = refl
level_of-bare (binary m o l r) = refl
level_of-bare (assign m t e) = refl
level_of-bare (compound m o t e) = refl
level_of-bare _ = refl

is_target-bare : {A : Type 0} (e : Exp A) → is_target (bare e) ≡ is_target e
unfolding map_exp map_target map_exps
is_target-bare (name m w) = refl
is_target-bare (field m e w) = refl
is_target-bare (super_field m w) = refl
is_target-bare _ = refl

is_statement-bare : {A : Type 0} (e : Exp A) → is_statement (bare e) ≡ is_statement e
unfolding map_exp map_target map_exps
is_statement-bare (assign m t e) = refl
is_statement-bare (compound m o t e) = refl
is_statement-bare (bump m o e) = refl
is_statement-bare (call m t w es) = refl
is_statement-bare (super_call m w es) = refl
is_statement-bare (create m t es) = refl
is_statement-bare _ = refl

abbrev pub bare_some : {A : Type 0} → Option (State A) → Option (State Bare)
bare_some o = option_map bare_state o

-- ---- parts

bare_args-with_last : {A : Type 0} (es : Exps A) (e : Exp A) → bare_args (with_last es e) ≡ with_last (bare_args es) (bare e)
unfolding map_exp map_target map_exps
bare_args-with_last end e = refl
bare_args-with_last (more d es) e = ap (more (bare d)) (bare_args-with_last es e)

bare-applied : {A : Type 0} (join : A → A → A) (at : A) (d : Head A) (es : Exps A) → bare (applied join at d es) ≡ applied no_join tt (bare_head d) (bare_args es)
unfolding map_exp map_target map_exps
bare-applied join at (call_head m t w) es = refl
bare-applied join at (super_head m w) es = refl
bare-applied join at (create_head m t) es = refl

binds-bare : {A : Type 0} (f : Frame A) → binds (bare_frame f) ≡ binds f
unfolding map_exp map_target map_exps
binds-bare (in_unary m o) = refl
binds-bare _ = refl

fits-bare : {A : Type 0} (f : Frame A) (e : Exp A) → fits (bare_frame f) (bare e) ≡ fits f e
unfolding map_exp map_target map_exps
fits-bare (in_bump m w) e = is_target-bare e
fits-bare _ e = refl

plug-bare : {A : Type 0} (join : A → A → A) (f : Frame A) (e : Exp A) → plug no_join (bare_frame f) (bare e) ≡ bare (plug join f e)
unfolding map_exp map_target map_exps
plug-bare join (in_unary m o) e = refl
plug-bare join _ e = refl

needed-bare : {A : Type 0} (fs : List (Frame A)) → needed (bare_stack fs) ≡ needed fs
unfolding map_exp map_target map_exps
needed-bare [] = refl
needed-bare (in_unary m o ∷ fs) = refl
needed-bare (_ ∷ fs) = refl

behind_minus-bare : {A : Type 0} (fs : List (Frame A)) → behind_minus (bare_stack fs) ≡ behind_minus fs
unfolding map_exp map_target map_exps
behind_minus-bare [] = refl
behind_minus-bare (in_unary m o ∷ fs) = refl
behind_minus-bare (_ ∷ fs) = refl

is_open-bare : {A : Type 0} (fs : List (Frame A)) → is_open (bare_stack fs) ≡ is_open fs
unfolding map_exp map_target map_exps
is_open-bare [] = refl
is_open-bare (f ∷ []) = go f
  where
    go : {A : Type 0} (f : Frame A) → is_bottom (bare_frame f) ≡ is_bottom f
    go (in_unary m o) = refl
    go _ = refl
is_open-bare (f ∷ g ∷ fs) = is_open-bare (g ∷ fs)

frames_of-bare : {A : Type 0} (s : State A) → frames_of (bare_state s) ≡ bare_stack (frames_of s)
unfolding map_exp map_target map_exps
frames_of-bare (want fs) = refl
frames_of-bare _ = refl

bare_word-outer : {A : Type 0} (e : Exp A) → name_type (bare e) ≡ option_map bare_type (name_type e)
unfolding map_exp map_target map_exps
bare_word-outer (name m w) = refl
bare_word-outer (field m (name n o) w) = refl
bare_word-outer _ = refl

-- ---- choices

if_none : {A : Type 0} (b : Bool) (s : Option (State A)) → bare_some (cond b None s) ≡ cond b None (bare_some s)
unfolding map_exp map_target map_exps
if_none true s = refl
if_none false s = refl

if_some : {A : Type 0} (b : Bool) (s : Option (State A)) → bare_some (cond b s None) ≡ cond b (bare_some s) None
unfolding map_exp map_target map_exps
if_some true s = refl
if_some false s = refl

at_most-bare : {A : Type 0} (k : ℕ) (fs : List (Frame A)) (s : State A) → bare_some (at_most k fs s) ≡ at_most k (bare_stack fs) (bare_state s)
unfolding map_exp map_target map_exps
at_most-bare k fs s = if_none (ltb k (needed fs)) (Some s) ∙ ap (λ (n : ℕ). cond (ltb k n) None (Some (bare_state s))) (sym (needed-bare fs))

-- ---- reducing

either : {A : Type 0} (b c : Bool) (s : State A) (r : Option (State A)) → bare_some (cond b (Some s) (cond c r None)) ≡ cond b (Some (bare_state s)) (cond c (bare_some r) None)
unfolding map_exp map_target map_exps
either true c s r = refl
either false true s r = refl
either false false s r = refl

pub reduced-bare : {A : Type 0} (join : A → A → A) (k : ℕ) (fs : List (Frame A)) (e : Exp A) → bare_some (reduced join k fs e) ≡ reduced no_join k (bare_stack fs) (bare e)
unfolding map_exp map_target map_exps
reduced-bare join k [] e = refl
reduced-bare join k (f ∷ fs) e =
    let here = have (bare_frame f ∷ bare_stack fs) (bare e) in
    either (ltb (binds f) k) (fits f e) (have (f ∷ fs) e) (reduced join k fs (plug join f e))
    ∙ ap (λ (r : Option (State Bare)). cond (ltb (binds f) k) (Some here) (cond (fits f e) r None)) (reduced-bare join k fs (plug join f e))
    ∙ ap (λ (d : Exp Bare). cond (ltb (binds f) k) (Some here) (cond (fits f e) (reduced no_join k (bare_stack fs) d) None)) (sym (plug-bare join f e))
    ∙ ap (λ (c : Bool). cond (ltb (binds f) k) (Some here) (cond c (reduced no_join k (bare_stack fs) (plug no_join (bare_frame f) (bare e))) None)) (sym (fits-bare f e))
    ∙ ap (λ (n : ℕ). cond (ltb n k) (Some here) (cond (fits (bare_frame f) (bare e)) (reduced no_join k (bare_stack fs) (plug no_join (bare_frame f) (bare e))) None)) (sym (binds-bare f))

operated-bare : {A : Type 0} (o : BinOp) (r : Option (State A)) → bare_some (operated o r) ≡ operated o (bare_some r)
unfolding map_exp map_target map_exps
operated-bare o (Some (have fs e)) = refl
operated-bare o _ = refl

closed-bare : {A : Type 0} (join : A → A → A) (at : A) (r : Option (State A)) → bare_some (closed join at r) ≡ closed no_join tt (bare_some r)
unfolding map_exp map_target map_exps
closed-bare join at (Some (have (in_paren m ∷ fs) e)) = refl
closed-bare join at (Some (have (in_args d es ∷ fs) e)) =
    ap (λ (x : Exp Bare). Some (have (bare_stack fs) x)) (bare-applied join at d (with_last es e) ∙ ap (applied no_join tt (bare_head d)) (bare_args-with_last es e))
closed-bare join at _ = refl

continued-bare : {A : Type 0} (r : Option (State A)) → bare_some (continued r) ≡ continued (bare_some r)
unfolding map_exp map_target map_exps
continued-bare (Some (have (in_args d es ∷ fs) e)) = ap (λ (xs : Exps Bare). Some (want (in_args (bare_head d) xs ∷ bare_stack fs))) (bare_args-with_last es e)
continued-bare _ = refl

-- ---- where an expression is to come

atom-bare : {A : Type 0} (fs : List (Frame A)) (at : A) (a : Atom)
    → bare_some (cond (atom_fits (behind_minus fs) a) (Some (have fs (atom_exp at a))) None) ≡ cond (atom_fits (behind_minus (bare_stack fs)) a) (Some (have (bare_stack fs) (atom_exp tt a))) None
unfolding map_exp map_target map_exps
atom-bare fs at (a_number n) =
    if_some (atom_fits (behind_minus fs) (a_number n)) (Some (have fs (number at n)))
    ∙ ap (λ (b : Bool). cond (atom_fits b (a_number n)) (Some (have (bare_stack fs) (number tt n))) None) (sym (behind_minus-bare fs))
atom-bare fs at (a_truth b) = refl
atom-bare fs at a_null = refl
atom-bare fs at (a_string s) = refl
atom-bare fs at a_this = refl

signed-bare : {A : Type 0} (fs : List (Frame A)) (at : A) (o : BinOp) → bare_some (signed fs at o) ≡ signed (bare_stack fs) tt o
unfolding map_exp map_target map_exps
signed-bare fs at Add = at_most-bare 8 fs (want (in_unary at Plus ∷ fs))
signed-bare fs at Sub = at_most-bare 8 fs (want (in_unary at Minus ∷ fs))
signed-bare fs at _ = refl

emptied-bare : {A : Type 0} (join : A → A → A) (at : A) (fs : List (Frame A)) → bare_some (emptied join at fs) ≡ emptied no_join tt (bare_stack fs)
unfolding map_exp map_target map_exps
emptied-bare join at (in_args d end ∷ fs) = ap (λ (x : Exp Bare). Some (have (bare_stack fs) x)) (bare-applied join at d end)
emptied-bare join at _ = refl

begun-bare : {A : Type 0} (join : A → A → A) (fs : List (Frame A)) (at : A) (p : Piece) → bare_some (begun join fs at p) ≡ begun no_join (bare_stack fs) tt p
unfolding begun map_exp map_target map_exps
begun-bare join fs at (an_atom a) = atom-bare fs at a
begun-bare join fs at a_close = emptied-bare join at fs
begun-bare join fs at a_bang = at_most-bare 9 fs (want (in_unary at Not ∷ fs))
begun-bare join fs at (a_bump w) = at_most-bare 8 fs (want (in_bump at w ∷ fs))
begun-bare join fs at (an_operator o) = signed-bare fs at o
begun-bare join fs at _ = refl

-- ---- behind an expression

cast_of-bare : {A : Type 0} (e : Exp A) → cast_of (bare e) ≡ option_map bare_frame (cast_of e)
unfolding map_exp map_target map_exps
cast_of-bare {A} (paren m e) = ap (cast_frame tt) (bare_word-outer e) ∙ go (name_type e)
  where
    go : (t : Option (TypeName A)) → cast_frame tt (option_map bare_type t) ≡ option_map bare_frame (cast_frame m t)
    go (Some t) = refl
    go None = refl
cast_of-bare _ = refl

casted-some : {A : Type 0} (join : A → A → A) (c : Option (Frame A)) (fs : List (Frame A)) (at : A) (p : Piece) → bare_some (casted join c fs at p) ≡ casted no_join (option_map bare_frame c) (bare_stack fs) tt p
unfolding map_exp map_target map_exps
casted-some join (Some f) fs at p =
    if_none (ltb 9 (needed fs)) (begun join (f ∷ fs) at p)
    ∙ ap (λ (r : Option (State Bare)). cond (ltb 9 (needed fs)) None r) (begun-bare join (f ∷ fs) at p)
    ∙ ap (λ (n : ℕ). cond (ltb 9 n) None (begun no_join (bare_frame f ∷ bare_stack fs) tt p)) (sym (needed-bare fs))
casted-some join None fs at p = refl

casted-bare : {A : Type 0} (join : A → A → A) (e : Exp A) (fs : List (Frame A)) (at : A) (p : Piece) → bare_some (casted join (cast_of e) fs at p) ≡ casted no_join (cast_of (bare e)) (bare_stack fs) tt p
unfolding map_exp map_target map_exps
casted-bare join e fs at p = casted-some join (cast_of e) fs at p ∙ ap (λ (c : Option (Frame Bare)). casted no_join c (bare_stack fs) tt p) (sym (cast_of-bare e))

opened-bare : {A : Type 0} (join : A → A → A) (fs : List (Frame A)) (e : Exp A) (at : A) → bare_some (opened join fs e at) ≡ opened no_join (bare_stack fs) (bare e) tt
unfolding map_exp map_target map_exps
opened-bare join fs (name m w) at = refl
opened-bare join fs (field m e w) at = refl
opened-bare join fs (super_field m w) at = refl
opened-bare join fs (paren m e) at = casted-bare join (paren m e) fs at an_open
opened-bare join fs _ at = refl

assigned-bare : {A : Type 0} (fs : List (Frame A)) (e : Exp A) (f : Frame A) → bare_some (assigned fs e f) ≡ assigned (bare_stack fs) (bare e) (bare_frame f)
unfolding map_exp map_target map_exps
assigned-bare fs e f =
    if_some (is_target e) (at_most 1 fs (want (f ∷ fs)))
    ∙ ap (λ (r : Option (State Bare)). cond (is_target e) r None) (at_most-bare 1 fs (want (f ∷ fs)))
    ∙ ap (λ (b : Bool). cond b (at_most 1 (bare_stack fs) (want (bare_frame f ∷ bare_stack fs))) None) (sym (is_target-bare e))

compound-bare : {A : Type 0} (fs : List (Frame A)) (e : Exp A) (o : BinOp)
    → bare_some (cond (is_compound o) (assigned fs e (in_compound o e)) None) ≡ cond (is_compound o) (assigned (bare_stack fs) (bare e) (in_compound o (bare e))) None
unfolding map_exp map_target map_exps
compound-bare fs e o =
    if_some (is_compound o) (assigned fs e (in_compound o e)) ∙ ap (λ (r : Option (State Bare)). cond (is_compound o) r None) (assigned-bare fs e (in_compound o e))

bumped-bare : {A : Type 0} (join : A → A → A) (fs : List (Frame A)) (e : Exp A) (at : A) (w : Way) → bare_some (bumped join fs e at w) ≡ bumped no_join (bare_stack fs) (bare e) tt w
unfolding map_exp map_target map_exps
bumped-bare join fs e at w =
    if_some (is_target e) (at_most 9 fs (have fs (bump (join (exp_mark e) at) (behind w) e)))
    ∙ ap (λ (r : Option (State Bare)). cond (is_target e) r None) (at_most-bare 9 fs (have fs (bump (join (exp_mark e) at) (behind w) e)))
    ∙ ap (λ (b : Bool). cond b (at_most 9 (bare_stack fs) (have (bare_stack fs) (bump tt (behind w) (bare e)))) None) (sym (is_target-bare e))

dotted-bare : {A : Type 0} (fs : List (Frame A)) (e : Exp A) → bare_some (cond (ltb (level_of e) 10) None (Some (dotted fs e))) ≡ cond (ltb (level_of (bare e)) 10) None (Some (dotted (bare_stack fs) (bare e)))
unfolding map_exp map_target map_exps
dotted-bare fs e =
    if_none (ltb (level_of e) 10) (Some (dotted fs e)) ∙ ap (λ (n : ℕ). cond (ltb n 10) None (Some (dotted (bare_stack fs) (bare e)))) (sym (level_of-bare e))

extended-bare : {A : Type 0} (join : A → A → A) (fs : List (Frame A)) (e : Exp A) (at : A) (p : Piece) → bare_some (extended join fs e at p) ≡ extended no_join (bare_stack fs) (bare e) tt p
unfolding extended map_exp map_target map_exps
extended-bare join fs e at a_dot = dotted-bare fs e
extended-bare join fs e at (a_bump w) = bumped-bare join fs e at w
extended-bare join fs e at (an_operator o) = operated-bare o (reduced join (rank_of o) fs e) ∙ ap (operated o) (reduced-bare join (rank_of o) fs e)
extended-bare join fs e at an_equals = assigned-bare fs e (in_assign e)
extended-bare join fs e at (a_compound o) = compound-bare fs e o
extended-bare join fs e at a_close = closed-bare join at (reduced join 1 fs e) ∙ ap (closed no_join tt) (reduced-bare join 1 fs e)
extended-bare join fs e at a_comma = continued-bare (reduced join 1 fs e) ∙ ap continued (reduced-bare join 1 fs e)
extended-bare join fs e at an_open = opened-bare join fs e at
extended-bare join fs e at (a_word w) = casted-bare join e fs at (a_word w)
extended-bare join fs e at (an_atom a) = casted-bare join e fs at (an_atom a)
extended-bare join fs e at a_super = casted-bare join e fs at a_super
extended-bare join fs e at a_new = casted-bare join e fs at a_new
extended-bare join fs e at a_bang = casted-bare join e fs at a_bang
extended-bare join fs e at _ = refl

-- ---- the rest

member-bare : {A : Type 0} (join : A → A → A) (fs : List (Frame A)) (e : Exp A) (at : A) (p : Piece) → bare_some (member join fs e at p) ≡ member no_join (bare_stack fs) (bare e) tt p
unfolding map_exp map_target map_exps
member-bare {A} join fs e at a_class = go (name_type e) ∙ ap (literal_of (bare_stack fs) tt) (sym (bare_word-outer e))
  where
    go : (t : Option (TypeName A)) → bare_some (literal_of fs (join (exp_mark e) at) t) ≡ literal_of (bare_stack fs) tt (option_map bare_type t)
    go (Some t) = refl
    go None = refl
member-bare join fs e at _ = refl

behind_super-bare : {A : Type 0} (fs : List (Frame A)) (m : A) (p : Piece) → bare_some (behind_super fs m p) ≡ behind_super (bare_stack fs) tt p
unfolding map_exp map_target map_exps
behind_super-bare fs m a_dot = refl
behind_super-bare fs m _ = refl

super_member-bare : {A : Type 0} (join : A → A → A) (fs : List (Frame A)) (m at : A) (p : Piece) → bare_some (super_member join fs m at p) ≡ super_member no_join (bare_stack fs) tt tt p
unfolding map_exp map_target map_exps
super_member-bare join fs m at (a_word w) = refl
super_member-bare join fs m at _ = refl

behind_new-bare : {A : Type 0} (fs : List (Frame A)) (m at : A) (p : Piece) → bare_some (behind_new fs m at p) ≡ behind_new (bare_stack fs) tt tt p
unfolding map_exp map_target map_exps
behind_new-bare fs m at (a_word w) = refl
behind_new-bare fs m at _ = refl

new_outer-bare : {A : Type 0} (fs : List (Frame A)) (m : A) (t : TypeName A) → bare_some (new_outer fs m t) ≡ new_outer (bare_stack fs) tt (bare_type t)
unfolding map_exp map_target map_exps
new_outer-bare fs m (named n None w) = refl
new_outer-bare fs m (named n (Some o) w) = refl
new_outer-bare fs m _ = refl

behind_new_name-bare : {A : Type 0} (fs : List (Frame A)) (m : A) (t : TypeName A) (p : Piece) → bare_some (behind_new_name fs m t p) ≡ behind_new_name (bare_stack fs) tt (bare_type t) p
unfolding map_exp map_target map_exps
behind_new_name-bare fs m t a_dot = new_outer-bare fs m t
behind_new_name-bare fs m t _ = refl

new_inner-bare : {A : Type 0} (join : A → A → A) (fs : List (Frame A)) (m : A) (o : Word A) (at : A) (p : Piece) → bare_some (new_inner join fs m o at p) ≡ new_inner no_join (bare_stack fs) tt (bare_word o) tt p
unfolding map_exp map_target map_exps
new_inner-bare join fs m o at (a_word w) = refl
new_inner-bare join fs m o at _ = refl

stepped-bare : {A : Type 0} (join : A → A → A) (s : State A) (at : A) (p : Piece) → bare_some (stepped join s at p) ≡ stepped no_join (bare_state s) tt p
unfolding map_exp map_target map_exps
stepped-bare join (want fs) at p = begun-bare join fs at p
stepped-bare join (have fs e) at p = extended-bare join fs e at p
stepped-bare join (dotted fs e) at p = member-bare join fs e at p
stepped-bare join (at_super fs m) at p = behind_super-bare fs m p
stepped-bare join (super_dotted fs m) at p = super_member-bare join fs m at p
stepped-bare join (at_new fs m) at p = behind_new-bare fs m at p
stepped-bare join (new_named fs m t) at p = behind_new_name-bare fs m t p
stepped-bare join (new_dotted fs m o) at p = new_inner-bare join fs m o at p

pub step-bare : {A : Type 0} (join : A → A → A) (s : State A) (at : A) (t : Token) → bare_some (step join s at t) ≡ bare_step (bare_state s) t
unfolding map_exp map_target map_exps
step-bare join s at t = stepped-bare join s at (piece_of t)

kept_open-bare : {A : Type 0} (r : Option (State A)) → bare_some (kept_open r) ≡ kept_open (bare_some r)
unfolding map_exp map_target map_exps
kept_open-bare None = refl
kept_open-bare (Some s) =
    if_some (is_open (frames_of s)) (Some s)
    ∙ ap (λ (b : Bool). cond b (Some (bare_state s)) None) (sym (ap is_open (frames_of-bare s) ∙ is_open-bare (frames_of s)))

pub statement_step-bare : {A : Type 0} (join : A → A → A) (s : State A) (at : A) (t : Token) → bare_some (statement_step join s at t) ≡ bare_statement_step (bare_state s) t
unfolding map_exp map_target map_exps
statement_step-bare join s at t = kept_open-bare (step join s at t) ∙ ap kept_open (step-bare join s at t)

whole_of-bare : {A : Type 0} (r : Option (State A)) → option_map bare (whole_of r) ≡ whole_of (bare_some r)
unfolding map_exp map_target map_exps
whole_of-bare (Some (have [] e)) = refl
whole_of-bare (Some (have (f ∷ fs) e)) = refl
whole_of-bare _ = refl

pub whole-bare : {A : Type 0} (join : A → A → A) (s : State A) → option_map bare (whole join s) ≡ bare_whole (bare_state s)
unfolding map_exp map_target map_exps
whole-bare join (have fs e) = whole_of-bare (reduced join 1 fs e) ∙ ap whole_of (reduced-bare join 1 fs e)
whole-bare join _ = refl

kept_statement-bare : {A : Type 0} (r : Option (Exp A)) → option_map bare (kept_statement r) ≡ kept_statement (option_map bare r)
unfolding map_exp map_target map_exps
kept_statement-bare None = refl
kept_statement-bare (Some e) = go (is_statement e) ∙ ap (λ (b : Bool). cond b (Some (bare e)) None) (sym (is_statement-bare e))
  where
    go : (b : Bool) → option_map bare (cond b (Some e) None) ≡ cond b (Some (bare e)) None
    go true = refl
    go false = refl

pub statement_whole-bare : {A : Type 0} (join : A → A → A) (s : State A) → option_map bare (statement_whole join s) ≡ bare_statement_whole (bare_state s)
unfolding map_exp map_target map_exps
statement_whole-bare join s = kept_statement-bare (whole join s) ∙ ap kept_statement (whole-bare join s)
