-- The first word `super` among tokens, and what of a tree has none.
use Rattle.std.proofs.Common.{◌≡◌, ◌≢◌, ℕ, ◌≤◌, List, [], ◌∷◌, ◌++◌, Some, None, Bool, true, false, refl, sym, ap, subst, ◌∙◌, inl, inr, arith}
use Rattle.std.specs.Prelude.{◌⊎◌}
use Rattle.jr_text.specs.declared.spans.Span.{Span}
use Rattle.jr_lex.specs.declared.items.Keyword.TheVariants.{Super}
use Rattle.jr_ast.specs.Tree as tree
use Rattle.jr_ast.specs.MemberTree as syntax
use Rattle.jr_ast.specs.declared.operators.ModWord.{ModWord}
use Rattle.jr_ast.specs.declared.operators.ModWord.TheVariants as modifier
use Rattle.jr_grammar.specs.Tokens.{Token, Placed, keyword}
use Rattle.jr_grammar.specs.MemberSpelling.{modifier_keyword}
use Rattle.jr_grammar.specs.Stands.{Tokens, IsAlone, InOrder, IsNode, Stands}
use Rattle.jr_grammar.specs.ExpressionLayout.{word_layout, type_layout}
use Rattle.jr_grammar.specs.StatementLayout.{final_layout}
use Rattle.jr_grammar.specs.MemberLayout.{modifiers_layout, param_layout, more_params_layout, params_layout}
use Rattle.jr_table.specs.Decls.{Decl}
use Rattle.jr_program_laws.proofs.TokenOrder.{StartsIn, Rising, before, from_first, rising_front, rising_back, front_piece, back_piece}
use Rattle.jr_program_laws.proofs.Holding.{Over, both_hold, back_holds}

-- a `super` of them begins there
abbrev pub SuperIn : Tokens → ℕ → Type 0
SuperIn [] at = ⊥
SuperIn (p ∷ ps) at = ((p.token ≡ keyword Super) × (at ≡ p.mark.from)) ⊎ SuperIn ps at

pub record IsFirstSuper (s : ℕ) (ps : Tokens) : Type 0 where
  pub has : SuperIn ps s
  pub first : (at : ℕ) → SuperIn ps at → s ≤ at

pub super_starts : (ps : Tokens) (at : ℕ) → SuperIn ps at → StartsIn ps at
super_starts [] at h = absurd h
super_starts (p ∷ ps) at (inl h) = inl h.1
super_starts (p ∷ ps) at (inr h) = inr (super_starts ps at h)

pub super_front : (a b : Tokens) (at : ℕ) → SuperIn a at → SuperIn (a ++ b) at
super_front [] b at h = absurd h
super_front (p ∷ a) b at (inl h) = inl h
super_front (p ∷ a) b at (inr h) = inr (super_front a b at h)

pub super_back : (a b : Tokens) (at : ℕ) → SuperIn b at → SuperIn (a ++ b) at
super_back [] b at h = h
super_back (p ∷ a) b at h = inr (super_back a b at h)

pub super_parts : (a b : Tokens) (at : ℕ) → SuperIn (a ++ b) at → SuperIn a at ⊎ SuperIn b at
super_parts [] b at h = inr h
super_parts (p ∷ a) b at (inl h) = inl (inl h)
super_parts (p ∷ a) b at (inr h) = further (super_parts a b at h)
  where
    further : SuperIn a at ⊎ SuperIn b at → SuperIn (p ∷ a) at ⊎ SuperIn b at
    further (inl k) = inl (inr k)
    further (inr k) = inr k

-- ---- what has none

pub record Lacks (P : Tokens → Type 0) : Type 0 where
  pub none : (ps : Tokens) (at : ℕ) → P ps → SuperIn ps at → ⊥

pub lacks_token : {t : Token} → t ≢ keyword Super → Lacks (IsAlone t)
lacks_token {t} other = record { none = λ ps at h s. none h.placed at h.is (subst (λ (x : Tokens). SuperIn x at) h.alone s) }
  where
    none : (p : Placed Span) (at : ℕ) → p.token ≡ t → SuperIn (p ∷ []) at → ⊥
    none p at is (inl h) = other (sym is ∙ h.0)
    none p at is (inr h) = h

pub lacks_both : {P Q : Tokens → Type 0} → Lacks P → Lacks Q → Lacks (InOrder P Q)
lacks_both {P} {Q} f g = record { none = λ ps at h s. none h.front h.back at h.first h.rest (super_parts h.front h.back at (subst (λ (x : Tokens). SuperIn x at) h.whole s)) }
  where
    none : (a b : Tokens) (at : ℕ) → P a → Q b → SuperIn a at ⊎ SuperIn b at → ⊥
    none a b at p q (inl s) = f.none a at p s
    none a b at p q (inr s) = g.none b at q s

pub lacks_nothing : Lacks (λ ps. ps ≡ [])
lacks_nothing = record { none = λ ps at h s. subst (λ (x : Tokens). SuperIn x at) h s }

pub lacks_node : {m : Span} {P : Tokens → Type 0} → Lacks P → Lacks (IsNode m P)
lacks_node f = record { none = λ ps at h s. f.none ps at h.parts s }

pub word_lacks : (w : tree.Word Span) → Lacks (Stands (word_layout w))
word_lacks w = lacks_node (lacks_both (lacks_token (λ e. cc)) lacks_nothing)

type_lacks : (t : tree.TypeName Span) → Lacks (Stands (type_layout t))
type_lacks (tree.int m) = lacks_node (lacks_both (lacks_token (λ e. cc)) lacks_nothing)
type_lacks (tree.boolean m) = lacks_node (lacks_both (lacks_token (λ e. cc)) lacks_nothing)
type_lacks (tree.named m None w) = lacks_node (lacks_both (word_lacks w) lacks_nothing)
type_lacks (tree.named m (Some o) w) = lacks_node (lacks_both (word_lacks o) (lacks_both (lacks_token (λ e. cc)) (lacks_both (word_lacks w) lacks_nothing)))

no_super : (w : ModWord) → keyword (modifier_keyword w) ≢ keyword Super
no_super modifier.Public e = cc
no_super modifier.Protected e = cc
no_super modifier.Private e = cc
no_super modifier.Static e = cc
no_super modifier.Final e = cc
no_super modifier.Volatile e = cc
no_super modifier.Synchronized e = cc

pub modifiers_lack : (ms : List (syntax.Modifier Span)) → Lacks (Stands (modifiers_layout ms))
modifiers_lack [] = lacks_nothing
modifiers_lack (x ∷ xs) = lacks_both (lacks_node (lacks_both (lacks_token (no_super x.word)) lacks_nothing)) (lacks_both (modifiers_lack xs) lacks_nothing)

final_lacks : (f : Bool) → Lacks (Stands (final_layout f))
final_lacks true = lacks_both (lacks_token (λ e. cc)) lacks_nothing
final_lacks false = lacks_nothing

param_lacks : (x : syntax.Param Span) → Lacks (Stands (param_layout x))
param_lacks x = lacks_node (lacks_both (final_lacks x.is_final) (lacks_both (type_lacks x.type) (lacks_both (word_lacks x.name) lacks_nothing)))

more_params_lack : (xs : List (syntax.Param Span)) → Lacks (Stands (more_params_layout xs))
more_params_lack [] = lacks_nothing
more_params_lack (x ∷ xs) = lacks_both (lacks_token (λ e. cc)) (lacks_both (param_lacks x) (lacks_both (more_params_lack xs) lacks_nothing))

pub params_lack : (xs : List (syntax.Param Span)) → Lacks (Stands (params_layout xs))
params_lack [] = lacks_nothing
params_lack (x ∷ xs) = lacks_both (param_lacks x) (lacks_both (more_params_lack xs) lacks_nothing)

-- ---- where the first one is

module _ (s : ℕ) (a b ps : Tokens) (w : ps ≡ a ++ b) (is : IsFirstSuper s ps) where
  in_whole : (at : ℕ) → SuperIn (a ++ b) at → s ≤ at
  in_whole at h = is.first at (subst (λ (x : Tokens). SuperIn x at) (sym w) h)

  parts : SuperIn a s ⊎ SuperIn b s
  parts = super_parts a b s (subst (λ (x : Tokens). SuperIn x s) w is.has)

  -- behind what has none
  pub first_behind : ((at : ℕ) → SuperIn a at → ⊥) → IsFirstSuper s b
  first_behind none = record { has = there parts; first = λ at h. in_whole at (super_back a b at h) }
    where
      there : SuperIn a s ⊎ SuperIn b s → SuperIn b s
      there (inl h) = absurd (none s h)
      there (inr h) = h

  -- in what has one
  pub first_in : Rising ps → (t : ℕ) → SuperIn a t → IsFirstSuper s a
  first_in rising t one = record { has = there parts; first = λ at h. in_whole at (super_front a b at h) }
    where
      there : SuperIn a s ⊎ SuperIn b s → SuperIn a s
      there (inl h) = h
      there (inr h) =
          let less = before a b (subst Rising w rising) t s (super_starts a t one) (super_starts b s h) in
          let least = in_whole t (super_front a b t one) in
          absurd (omega arith)

-- over tokens whose first `super` is there
pub record Knowing (s : ℕ) (P : Tokens → Type 0) (ps : Tokens) : Type 0 where
  pub is : P ps
  pub first : IsFirstSuper s ps

module _ {all : Tokens} {s : ℕ} where
  pub knowing_node : {m : Span} {P : Tokens → Type 0} {R : ℕ → Decl → Type 0} → Over all (Knowing s P) R → Over all (Knowing s (IsNode m P)) R
  knowing_node f = record { over = λ ps rising piece h. f.over ps rising piece (record { is = h.is.parts; first = h.first }) }

  -- nothing in the first part
  pub beyond : {P Q : Tokens → Type 0} {R : ℕ → Decl → Type 0} → Lacks P → Over all (Knowing s Q) R → Over all (Knowing s (InOrder P Q)) R
  beyond {P} {Q} {R} none g = record {
    over = λ ps rising piece h.
        let a = h.is.front in
        let b = h.is.back in
        back_holds R a b ps h.is.whole (g.over b (rising_back a b (subst Rising h.is.whole rising)) (back_piece all a b ps h.is.whole piece)
        (record { is = h.is.rest; first = first_behind s a b ps h.is.whole h.first (λ at k. none.none a at h.is.first k) }));
  }

  pub beyond_with : {P Q : Tokens → Type 0} {R S : ℕ → Decl → Type 0} → Lacks P → Over all P R → Over all (Knowing s Q) S → Over all (Knowing s (InOrder P Q)) (λ at d. R at d ⊎ S at d)
  beyond_with {P} {Q} {R} {S} none f g = record {
    over = λ ps rising piece h.
        let a = h.is.front in
        let b = h.is.back in
        let two = subst Rising h.is.whole rising in
        both_hold R S a b ps h.is.whole rising (f.over a (rising_front a b two) (front_piece all a b ps h.is.whole piece) h.is.first)
        (g.over b (rising_back a b two) (back_piece all a b ps h.is.whole piece) (record { is = h.is.rest; first = first_behind s a b ps h.is.whole h.first (λ at k. none.none a at h.is.first k) }));
  }

  -- the first part begins with it
  pub within_with : {P Q : Tokens → Type 0} {R S : ℕ → Decl → Type 0} → Over all (Knowing s (InOrder (IsAlone (keyword Super)) P)) R → Over all Q S
      → Over all (Knowing s (InOrder (InOrder (IsAlone (keyword Super)) P) Q)) (λ at d. R at d ⊎ S at d)
  within_with {P} {Q} {R} {S} f g = record {
    over = λ ps rising piece h.
        let a = h.is.front in
        let b = h.is.back in
        let two = subst Rising h.is.whole rising in
        let p = h.is.first.first.placed in
        both_hold R S a b ps h.is.whole rising
        (f.over a (rising_front a b two) (front_piece all a b ps h.is.whole piece)
        (record { is = h.is.first; first = first_in s a b ps h.is.whole h.first rising p.mark.from (begins_with h.is.first.front h.is.first.back a h.is.first.whole h.is.first.first) }))
        (g.over b (rising_back a b two) (back_piece all a b ps h.is.whole piece) h.is.rest);
  }
    where
      begins_with : (x y a : Tokens) → a ≡ x ++ y → (is : IsAlone (keyword Super) x) → SuperIn a is.placed.mark.from
      begins_with x y a w is = subst (λ (z : Tokens). SuperIn z is.placed.mark.from) (sym w) (super_front x y is.placed.mark.from (subst (λ (z : Tokens). SuperIn z is.placed.mark.from) (sym is.alone) (inl (is.is, refl))))

  -- what begins with it, and what else is behind it
  pub super_leads : {Q : Tokens → Type 0} {R S : ℕ → Decl → Type 0} → ((at : ℕ) (d : Decl) → R at d → at ≡ s) → ((at : ℕ) (d e : Decl) → R at d → R at e → d ≡ e) → Over all Q S
      → Over all (Knowing s (InOrder (IsAlone (keyword Super)) Q)) (λ at d. R at d ⊎ S at d)
  super_leads {Q} {R} {S} there one g = record {
    over = λ ps rising piece h.
        let a = h.is.front in
        let b = h.is.back in
        let two = subst Rising h.is.whole rising in
        both_hold R S a b ps h.is.whole rising (record { within = λ at d r. subst (StartsIn a) (sym (there at d r)) (starts_there ps a b h.is.whole rising h.is.first h.first); one = one })
        (g.over b (rising_back a b two) (back_piece all a b ps h.is.whole piece) h.is.rest);
  }
    where
      its_from : (p : Placed Span) (b : Tokens) → p.token ≡ keyword Super → Rising (p ∷ b) → IsFirstSuper s (p ∷ b) → s ≡ p.mark.from
      its_from p b is rising first =
          let least = first.first p.mark.from (inl (is, refl)) in
          let from = from_first (p ∷ b) rising s (super_starts (p ∷ b) s first.has) in
          omega arith

      starts_there : (ps a b : Tokens) → ps ≡ a ++ b → Rising ps → IsAlone (keyword Super) a → IsFirstSuper s ps → StartsIn a s
      starts_there ps a b w rising is first =
          let p = is.placed in
          let whole : ps ≡ p ∷ b = w ∙ ap (λ (x : Tokens). x ++ b) is.alone in
          let from = its_from p b is.is (subst Rising whole rising) (subst (IsFirstSuper s) whole first) in
          subst (λ (x : Tokens). StartsIn x s) (sym is.alone) (inl from)

-- ---- what has one

pub record HasSuper (P : Tokens → Type 0) : Type 0 where
  pub first : (ps : Tokens) → Rising ps → P ps → (s : ℕ) × IsFirstSuper s ps

pub token_is_super : HasSuper (IsAlone (keyword Super))
token_is_super = record { first = λ ps rising h. (h.placed.mark.from, subst (IsFirstSuper h.placed.mark.from) (sym h.alone) (record { has = inl (h.is, refl); first = least h.placed })) }
  where
    least : (p : Placed Span) (at : ℕ) → ((p.token ≡ keyword Super) × (at ≡ p.mark.from)) ⊎ ⊥ → p.mark.from ≤ at
    least p at (inl h) = let e = h.1 in omega arith
    least p at (inr h) = absurd h

pub node_has : {m : Span} {P : Tokens → Type 0} → HasSuper P → HasSuper (IsNode m P)
node_has f = record { first = λ ps rising h. f.first ps rising h.parts }

pub first_has : {P Q : Tokens → Type 0} → HasSuper P → HasSuper (InOrder P Q)
first_has f = record {
  first = λ ps rising h.
      let two = subst Rising h.whole rising in
      let r = f.first h.front (rising_front h.front h.back two) h.first in
      (r.0, subst (IsFirstSuper r.0) (sym h.whole) (still r.0 h.front h.back two r.1));
}
  where
    still : (s : ℕ) (a b : Tokens) → Rising (a ++ b) → IsFirstSuper s a → IsFirstSuper s (a ++ b)
    still s a b rising is = record { has = super_front a b s is.has; first = λ at h. least at (super_parts a b at h) }
      where
        least : (at : ℕ) → SuperIn a at ⊎ SuperIn b at → s ≤ at
        least at (inl h) = is.first at h
        least at (inr h) = let less = before a b rising s at (super_starts a s is.has) (super_starts b at h) in omega arith

pub rest_has : {P Q : Tokens → Type 0} → Lacks P → HasSuper Q → HasSuper (InOrder P Q)
rest_has none f = record {
  first = λ ps rising h.
      let two = subst Rising h.whole rising in
      let r = f.first h.back (rising_back h.front h.back two) h.rest in
      (r.0, subst (IsFirstSuper r.0) (sym h.whole) (still r.0 h.front h.back (λ at k. none.none h.front at h.first k) r.1));
}
  where
    still : (s : ℕ) (a b : Tokens) → ((at : ℕ) → SuperIn a at → ⊥) → IsFirstSuper s b → IsFirstSuper s (a ++ b)
    still s a b never is = record { has = super_back a b s is.has; first = λ at h. least at (super_parts a b at h) }
      where
        least : (at : ℕ) → SuperIn a at ⊎ SuperIn b at → s ≤ at
        least at (inl h) = absurd (never at h)
        least at (inr h) = is.first at h
