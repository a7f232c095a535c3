-- Which forms a reference's row has, and a word that only gets a name.
use Rattle.std.proofs.Common.{◌≡◌, ℕ, zero, suc, List, [], ◌∷◌, Some, Bool, true, false, refl, ap, subst}
use Rattle.std.specs.Prelude.{slice_get, if◌then◌else◌}
use Rattle.std.specs.Cmp.Lexicographic.{bytes_decides}
use Rattle.jr_ast.specs.Tree as tree
use Rattle.jr_table.specs.SameKeys.{same_name}
use Rattle.jr_spell.specs.declared.spellings.Form.{Form}
use Rattle.jr_spell.specs.declared.spellings.Form.TheVariants.{Asked, OnThis, OnSuper, OnCastThis, OnClass, OnOuterClass, ClassInFront, OuterClassInFront}
use Rattle.jr_rewrite.specs.Respellings.{Front, same, stays, front_of}
use Rattle.jr_rewrite.specs.Rewritten.{word_to}
use Rattle.jr_images.specs.Spelling.{respelled, renamed}

-- ---- which forms a row has

pub one_form : (P : Form → Type 0) → P Asked → (n : ℕ) (f : Form) → slice_get (Asked ∷ []) n ≡ Some f → P f
one_form P a zero f q = let p : Asked ≡ f = cc in subst P p a
one_form P a (suc n) f q = absurd cc

pub two_forms : (P : Form → Type 0) (x : Form) → P Asked → P x → (n : ℕ) (f : Form) → slice_get (Asked ∷ x ∷ []) n ≡ Some f → P f
two_forms P x a b zero f q = let p : Asked ≡ f = cc in subst P p a
two_forms P x a b (suc zero) f q = let p : x ≡ f = cc in subst P p b
two_forms P x a b (suc (suc n)) f q = absurd cc

pub three_forms : (P : Form → Type 0) → P Asked → P OnClass → P OnOuterClass → (n : ℕ) (f : Form) → slice_get (Asked ∷ OnClass ∷ OnOuterClass ∷ []) n ≡ Some f → P f
three_forms P a b c zero f q = let p : Asked ≡ f = cc in subst P p a
three_forms P a b c (suc zero) f q = let p : OnClass ≡ f = cc in subst P p b
three_forms P a b c (suc (suc zero)) f q = let p : OnOuterClass ≡ f = cc in subst P p c
three_forms P a b c (suc (suc (suc n))) f q = absurd cc

pub front_forms : (P : Form → Type 0) → P Asked → P ClassInFront → P OuterClassInFront → (n : ℕ) (f : Form) → slice_get (Asked ∷ ClassInFront ∷ OuterClassInFront ∷ []) n ≡ Some f → P f
front_forms P a b c zero f q = let p : Asked ≡ f = cc in subst P p a
front_forms P a b c (suc zero) f q = let p : ClassInFront ≡ f = cc in subst P p b
front_forms P a b c (suc (suc zero)) f q = let p : OuterClassInFront ≡ f = cc in subst P p c
front_forms P a b c (suc (suc (suc n))) f q = absurd cc

pub four_forms : (P : Form → Type 0) → P Asked → P OnThis → P OnClass → P OnOuterClass → (n : ℕ) (f : Form) → slice_get (Asked ∷ OnThis ∷ OnClass ∷ OnOuterClass ∷ []) n ≡ Some f → P f
four_forms P a b c d zero f q = let p : Asked ≡ f = cc in subst P p a
four_forms P a b c d (suc zero) f q = let p : OnThis ≡ f = cc in subst P p b
four_forms P a b c d (suc (suc zero)) f q = let p : OnClass ≡ f = cc in subst P p c
four_forms P a b c d (suc (suc (suc zero))) f q = let p : OnOuterClass ≡ f = cc in subst P p d
four_forms P a b c d (suc (suc (suc (suc n)))) f q = absurd cc

pub six_forms : (P : Form → Type 0) → P Asked → P OnThis → P OnSuper → P OnCastThis → P OnClass → P OnOuterClass → (n : ℕ) (f : Form)
    → slice_get (Asked ∷ OnThis ∷ OnSuper ∷ OnCastThis ∷ OnClass ∷ OnOuterClass ∷ []) n ≡ Some f → P f
six_forms P a b c d e g zero f q = let p : Asked ≡ f = cc in subst P p a
six_forms P a b c d e g (suc zero) f q = let p : OnThis ≡ f = cc in subst P p b
six_forms P a b c d e g (suc (suc zero)) f q = let p : OnSuper ≡ f = cc in subst P p c
six_forms P a b c d e g (suc (suc (suc zero))) f q = let p : OnCastThis ≡ f = cc in subst P p d
six_forms P a b c d e g (suc (suc (suc (suc zero)))) f q = let p : OnClass ≡ f = cc in subst P p e
six_forms P a b c d e g (suc (suc (suc (suc (suc zero))))) f q = let p : OnOuterClass ≡ f = cc in subst P p g
six_forms P a b c d e g (suc (suc (suc (suc (suc (suc n)))))) f q = absurd cc

module _ {A : Type 0} where
  -- a word that only gets a name: nothing changes in front
  pub with_name : {T : Type 0} (f : Front → tree.Word A → T) (old new : List ℕ) (m : A)
      → f (front_of (renamed old new)) (word_to (renamed old new) (record { mark = m; text = old })) ≡ f same (record { mark = m; text = new })
  with_name {T} f old new m = by (same_name old new) refl
    where
      by : (b : Bool) → same_name old new ≡ b
          → f (front_of (if b then stays else respelled new same)) (word_to (if b then stays else respelled new same) (record { mark = m; text = old })) ≡ f same (record { mark = m; text = new })
      by true h = ap (λ (n : List ℕ). f same (record { mark = m; text = n })) ((bytes_decides old new).0 h)
      by false h = refl
