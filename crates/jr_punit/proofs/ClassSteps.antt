-- Steps of classes, members and units, as code takes them.
use Rattle.std.proofs.Common.{◌≡◌, ℕ, Bool, true, false, cond, List, [], ◌∷◌, ◌++◌, Option, Some, None, refl, sym, ap, subst, ◌∙◌}
use Rattle.std.specs.Prelude.{◌&&◌, not, is_some, option_map, option_and_then, unwrap_or}
use Rattle.jr_text.specs.declared.spans.Span.{Span}
use Rattle.jr_ast.specs.declared.members.Member.{Member}
use Rattle.jr_ast.specs.Tree.{Word, TypeName}
use Rattle.jr_ast.specs.MemberTree as tree
use Rattle.jr_ast.specs.View.{member_of, members_of}
use Rattle.jr_grammar.specs.Tokens.{Token}
use Rattle.jr_pexpr.specs.Marked.{join}
use Rattle.jr_pstmt.specs.declared.cues.Cue as rust
use Rattle.jr_pstmt.specs.declared.cues.Cue.TheVariants as cue
use Rattle.jr_pstmt.specs.CueView.{cue_view}
use Rattle.jr_pstmt.specs.Cues.{Cue, a_word, a_modifier, a_class, a_close_brace, an_open_brace, a_package, cue_of, at_close_brace, at_open_brace}
use Rattle.jr_pstmt.specs.CueTests.{is_close_brace}
use Rattle.jr_pstmt.specs.Inside.{inner, settled}
use Rattle.jr_pstmt.specs.TypeMachine as T
use Rattle.jr_pstmt.specs.OwnMachine as Own
use Rattle.jr_punit_laws.specs.ClassMachine as Classes
use Rattle.jr_punit_laws.specs.MemberMachine as Members
use Rattle.jr_punit_laws.specs.UnitMachine as Units
use Rattle.jr_punit.specs.UnitView.{is_package}
use Rattle.jr_punit_members.specs.OwnView.{begun}
use Rattle.jr_punit.specs.declared.class_heads.ClassStart.{ClassStart}
use Rattle.jr_punit.specs.declared.class_heads.ClassStart.TheVariants as starts
use Rattle.jr_punit.specs.ClassView.{class_start, closed_at, inner_read, inner_members, top_read, top_members, is_modified, is_class, begins_class, inner_parent, top_parent}

pub members-append : (ds : List (Member Span)) (d : Member Span) → members_of (ds ++ d ∷ []) ≡ Classes.with_member (members_of ds) (member_of d)
members-append [] d = refl
members-append (e ∷ ds) d = ap (tree.more (member_of e)) (members-append ds d)

-- ---- what has become whole is taken

pub settles : {S T N : Type 0} (within : S → N) (behind : T → N) (whole : S → Option T) (s : S) → is_some (whole s) ≡ true → Some (settled within behind whole s) ≡ option_map behind (whole s)
settles {S} {T} {N} within behind whole s h = go (whole s) h
  where
    go : (o : Option T) → is_some o ≡ true → Some (unwrap_or (option_map behind o) (within s)) ≡ option_map behind o
    go (Some t) h = refl
    go None h = absurd cc

pub stays : {S T N : Type 0} (within : S → N) (behind : T → N) (whole : S → Option T) (s : S) → is_some (whole s) ≡ false → settled within behind whole s ≡ within s
stays {S} {T} {N} within behind whole s h = go (whole s) h
  where
    go : (o : Option T) → is_some o ≡ false → unwrap_or (option_map behind o) (within s) ≡ within s
    go (Some t) h = absurd cc
    go None h = refl

-- in a member, and behind it, of a member class and of a top-level one
abbrev pub inner_within : Classes.Head Span → tree.Members Span → Own.State Span → Classes.State Span (Own.State Span)
inner_within h all s = Classes.in_members h all s

abbrev pub inner_behind : Classes.Head Span → tree.Members Span → tree.Member Span → Classes.State Span (Own.State Span)
inner_behind h all d = Classes.in_members h (Classes.with_member all d) Own.start

abbrev pub top_within : Classes.Head Span → tree.Members Span → Members.State Span → Units.ClassState Span
top_within h all s = Classes.in_members h all s

abbrev pub top_behind : Classes.Head Span → tree.Members Span → tree.Member Span → Units.ClassState Span
top_behind h all d = Classes.in_members h (Classes.with_member all d) Members.start

-- where nothing is taken, only what is inside goes on
pub no_taking : {S N : Type 0} (within : S → N) (o : Option S) (taken : Option N) → taken ≡ None → inner within taken o ≡ option_map within o
no_taking within (Some s) taken h = refl
no_taking within None taken h = h

-- ---- the name of a superclass

not_open : {N : Type 0} (c : rust.Cue) (n : N) → (c ≡ cue.OpenBrace → ⊥) → at_open_brace (cue_view c) n ≡ None
not_open cue.OpenBrace n h = absurd (h refl)
not_open (cue.Word w) n h = refl
not_open _ n h = refl

no_head : {S N : Type 0} (o : Option S) (f : S → Option N) → ((s : S) → f s ≡ None) → option_and_then f o ≡ None
no_head (Some s) f h = h s
no_head None f h = refl

pub inner_parent_goes : (l : Own.Lead Span) (w : Word Span) (s : T.State Span) (at : Span) (c : rust.Cue) → (c ≡ cue.OpenBrace → ⊥)
    → inner_parent l w s at (cue_view c) ≡ option_map (Classes.in_parent l w) (T.cue_step join s at (cue_view c))
inner_parent_goes l w s at c h = no_taking (Classes.in_parent l w) (T.cue_step join s at (cue_view c)) _ (no_head (T.whole s) _ (λ t. not_open c _ h))

pub top_parent_goes : (l : Own.Lead Span) (w : Word Span) (s : T.State Span) (at : Span) (c : rust.Cue) → (c ≡ cue.OpenBrace → ⊥)
    → top_parent l w s at (cue_view c) ≡ option_map (Classes.in_parent l w) (T.cue_step join s at (cue_view c))
top_parent_goes l w s at c h = no_taking (Classes.in_parent l w) (T.cue_step join s at (cue_view c)) _ (no_head (T.whole s) _ (λ t. not_open c _ h))

-- ---- the `}` of a class

not_brace : {N : Type 0} (c : Cue) (n : N) → is_close_brace c ≡ false → at_close_brace c n ≡ None
not_brace a_close_brace n h = absurd cc
not_brace (a_word w) n h = refl
not_brace _ n h = refl

brace : (c : Cue) → is_close_brace c ≡ true → c ≡ a_close_brace
brace a_close_brace h = refl
brace (a_word w) h = absurd cc
brace _ h = absurd cc

not_closed : {N : Type 0} (b : Bool) (c : Cue) (n : N) → (b && is_close_brace c) ≡ false → cond b (at_close_brace c n) None ≡ None
not_closed true c n h = not_brace c n h
not_closed false c n h = refl

both : (a b : Bool) → (a && b) ≡ true → (a ≡ true) × (b ≡ true)
both true b h = (refl, h)
both false b h = absurd cc

own_start : (s : Own.State Span) → Own.is_start s ≡ true → s ≡ Own.start
own_start (Own.modified []) h = refl
own_start (Own.modified (m ∷ ms)) h = absurd cc
own_start _ h = absurd cc

member_start : (s : Members.State Span) → Members.is_start s ≡ true → s ≡ Members.start
member_start (Members.own s) h = ap Members.own (own_start s h)
member_start (Members.in_class s) h = absurd cc

pub inner_goes : (h : Classes.Head Span) (all : tree.Members Span) (s : Own.State Span) (at : Span) (t : Token) → (Own.is_start s && is_close_brace (cue_of t)) ≡ false
    → inner_members h all s at t (cue_of t) ≡ option_map (inner_read h all) (Own.step join h.word.text s at t)
inner_goes h all s at t n = no_taking (inner_read h all) (Own.step join h.word.text s at t) _ (not_closed (Own.is_start s) (cue_of t) (Classes.done (Classes.class_of join h at all)) n)

pub top_goes : (h : Classes.Head Span) (all : tree.Members Span) (s : Members.State Span) (at : Span) (t : Token) → (Members.is_start s && is_close_brace (cue_of t)) ≡ false
    → top_members h all s at t (cue_of t) ≡ option_map (top_read h all) (Members.step join false h.word.text s at t)
top_goes h all s at t n = no_taking (top_read h all) (Members.step join false h.word.text s at t) _ (not_closed (Members.is_start s) (cue_of t) (Classes.done (Classes.class_of join h at all)) n)

-- no member begins with `}`
inner_start : (h : Classes.Head Span) (all : tree.Members Span) (at : Span) (t : Token) (c : Cue) → c ≡ cue_of t → c ≡ a_close_brace → inner_members h all Own.start at t c ≡ Some (Classes.done (Classes.class_of join h at all))
inner_start h all at t c e b = go c (cue_of t) b (sym e ∙ b)
  where
    go : (c d : Cue) → c ≡ a_close_brace → d ≡ a_close_brace
        → inner (inner_read h all) (at_close_brace c (Classes.done (Classes.class_of join h at all))) (Own.cue_step join h.word.text Own.start at t d) ≡ Some (Classes.done (Classes.class_of join h at all))
    go c d e f = rw (e, f) refl

pub inner_ends : (h : Classes.Head Span) (all : tree.Members Span) (s : Own.State Span) (at : Span) (t : Token) → (Own.is_start s && is_close_brace (cue_of t)) ≡ true
    → inner_members h all s at t (cue_of t) ≡ Some (Classes.done (Classes.class_of join h at all))
inner_ends h all s at t n =
    let p = both (Own.is_start s) (is_close_brace (cue_of t)) n in
    ap (λ (s : Own.State Span). inner_members h all s at t (cue_of t)) (own_start s p.0) ∙ inner_start h all at t (cue_of t) refl (brace (cue_of t) p.1)

top_start : (h : Classes.Head Span) (all : tree.Members Span) (at : Span) (t : Token) (c : Cue) → c ≡ cue_of t → c ≡ a_close_brace → top_members h all Members.start at t c ≡ Some (Classes.done (Classes.class_of join h at all))
top_start h all at t c e b = go c (cue_of t) b (sym e ∙ b)
  where
    go : (c d : Cue) → c ≡ a_close_brace → d ≡ a_close_brace
        → inner (top_read h all) (at_close_brace c (Classes.done (Classes.class_of join h at all)))
        (inner Members.own (Members.begin_class false Own.start at d) (Own.cue_step join h.word.text Own.start at t d)) ≡ Some (Classes.done (Classes.class_of join h at all))
    go c d e f = rw (e, f) refl

pub top_ends : (h : Classes.Head Span) (all : tree.Members Span) (s : Members.State Span) (at : Span) (t : Token) → (Members.is_start s && is_close_brace (cue_of t)) ≡ true
    → top_members h all s at t (cue_of t) ≡ Some (Classes.done (Classes.class_of join h at all))
top_ends h all s at t n =
    let p = both (Members.is_start s) (is_close_brace (cue_of t)) n in
    ap (λ (s : Members.State Span). top_members h all s at t (cue_of t)) (member_start s p.0) ∙ top_start h all at t (cue_of t) refl (brace (cue_of t) p.1)

-- where no member has been begun, the class doesn't end
pub unclosed : {S : Type 0} (start : ClassStart) (at : Span) → closed_at {S = S} (class_start start) at ≡ None
unclosed (starts.Modified ms) at = refl
unclosed (starts.AtClass lead) at = refl
unclosed (starts.Named lead name) at = refl
unclosed (starts.InParent lead name type) at = refl

-- ---- `class` in a class

a_class_is : (c : Cue) → is_class c ≡ true → c ≡ a_class
a_class_is a_class h = refl
a_class_is (a_word w) h = absurd cc
a_class_is _ h = absurd cc

no_class : {A : Type 0} (nested : Bool) (s : Own.State A) (at : A) (c : Cue) → ((not nested && is_modified s) && is_class c) ≡ false → Members.begin_class nested s at c ≡ None
no_class true s at a_class h = refl
no_class false (Own.modified ms) at a_class h = absurd cc
no_class false _ at a_class h = refl
no_class nested s at (a_word w) h = refl
no_class nested s at _ h = refl

pub own_goes : (nested : Bool) (name : List ℕ) (s : Own.State Span) (at : Span) (t : Token) → begins_class nested s t ≡ false → Members.step join nested name (Members.own s) at t ≡ option_map Members.own (Own.step join name s at t)
own_goes nested name s at t h = no_taking Members.own (Own.step join name s at t) (Members.begin_class nested s at (cue_of t)) (no_class nested s at (cue_of t) h)

class_at : (nested : Bool) (name : List ℕ) (s : Own.State Span) (at : Span) (t : Token) (c : Cue) → c ≡ a_class → not nested ≡ true → is_modified s ≡ true
    → inner Members.own (Members.begin_class nested s at c) (Own.cue_step join name s at t c) ≡ option_map (λ (l : Own.Lead Span). Members.in_class (Classes.at_class l)) (begun s at)
class_at false name (Own.modified ms) at t c e n m = rw e refl
class_at false name _ at t c e n m = absurd cc
class_at true name s at t c e n m = absurd cc

pub class_begins : (nested : Bool) (name : List ℕ) (s : Own.State Span) (at : Span) (t : Token) → begins_class nested s t ≡ true
    → Members.step join nested name (Members.own s) at t ≡ option_map (λ (l : Own.Lead Span). Members.in_class (Classes.at_class l)) (begun s at)
class_begins nested name s at t h =
    let p = both (not nested && is_modified s) (is_class (cue_of t)) h in
    let q = both (not nested) (is_modified s) p.0 in
    class_at nested name s at t (cue_of t) (a_class_is (cue_of t) p.1) q.0 q.1

-- ---- `package`

pub package_is : (c : Cue) → is_package c ≡ true → c ≡ a_package
package_is a_package h = refl
package_is (a_word w) h = absurd cc
package_is _ h = absurd cc

pub no_package : {A : Type 0} (join : A → A → A) (at : A) (t : Token) (c : Cue) → is_package c ≡ false → Units.from_start join at t c ≡ Units.from_classes join [] [] Classes.start at t
no_package join at t a_package h = absurd cc
no_package join at t (a_word w) h = refl
no_package join at t _ h = refl
