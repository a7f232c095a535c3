-- Edits of files, and the losses of one.
use Rattle.std.proofs.Common.{◌≡◌, ◌⊎◌, inl, inr, ℕ, zero, suc, ◌+◌, ◌<◌, ◌==◌, List, [], ◌∷◌, ◌++◌, length, get_or, Option, Some, None, refl, sym, ap, subst, ◌∙◌, arith}
use Rattle.std.specs.Prelude.{slice_get, option_map}
use Rattle.std.proofs.lemmas.List.{length-append, length-map}
use Rattle.std.proofs.lemmas.Option.{slice_get_cases, slice_get_read, slice_get_within, slice_get-map, none-some, same_Some}
use Rattle.jr_text.specs.Edits.{Entry}
use Rattle.jr_rewrite.specs.Respellings.{Loss}
use Rattle.jr_local_search.proofs.Descents.{same, apart, if_true, if_false}
use Rattle.jr_new_words.specs.declared.choices.Lost as raw
use Rattle.jr_new_words.specs.ChoiceView.{lost_of}
use Rattle.jr_new_bodies.specs.OutputView.{losses_in}
use Rattle.jr_new_files.specs.Lost.{IsLeast}
use Rattle.jr_local_parts.specs.Answers.{AreFileEdits, edits_if, with_other, IsWithOther, IsFirst}

-- ---- lists that grow

seam : {X : Type 0} (xs : List X) (x e : X) (i : ℕ) → slice_get (xs ++ x ∷ []) i ≡ Some e → (slice_get xs i ≡ Some e) ⊎ ((i ≡ length xs) × (e ≡ x))
seam [] x e zero h = inr (refl, sym (same_Some x e h))
seam [] x e (suc i) h = absurd (none-some e h)
seam (y ∷ ys) x e zero h = inl h
seam (y ∷ ys) x e (suc i) h =
    elim (seam ys x e i h) [
      | inl within ↦ inl within
      | inr p ↦ inr (ap suc p.0, p.1)
    ]

module _ (file : ℕ) (of : List Entry) where
  -- those of the first files
  pub record AreFirst (n : ℕ) (all : List (List Entry)) : Type 0 where
    pub many : length all ≡ n
    pub each : (i : ℕ) (es : List Entry) → slice_get all i ≡ Some es → es ≡ edits_if (i == file) of

  pub none_yet : (all : List (List Entry)) → all ≡ [] → AreFirst 0 all
  none_yet all none = record {
    many = ap length none;
    each = λ i es e. absurd (none-some es (ap (λ (x : List (List Entry)). slice_get x i) (sym none) ∙ e));
  }

  pub one_more : (n : ℕ) (old new : List (List Entry)) (list : List Entry) → new ≡ old ++ list ∷ [] → list ≡ edits_if (n == file) of → AreFirst n old → AreFirst (n + 1) new
  one_more n old new list put is h = record {
    many = ap length put ∙ length-append old (list ∷ []) ∙ ap (λ (k : ℕ). k + 1) h.many;
    each = λ i es e.
        elim (seam old list es i (ap (λ (x : List (List Entry)). slice_get x i) (sym put) ∙ e)) [
          | inl within ↦ h.each i es within
          | inr p ↦ p.1 ∙ is ∙ ap (λ (k : ℕ). edits_if (k == file) of) (sym (p.0 ∙ h.many))
        ];
  }

  pub all_are : (n count : ℕ) (all : List (List Entry)) → n ≡ count → file < count → AreFirst n all → AreFileEdits count file of all
  all_are n count all is inside h = record {
    many = h.many ∙ is;
    own =
        elim (slice_get_cases all file).1 [
          | inl found ↦ found.2 ∙ ap Some (h.each file found.0 found.2 ∙ if_true (file == file) of [] (same file file refl))
          | inr past ↦ absurd (let many = h.many in omega (arith, inside, past.0, is, many))
        ];
    others = λ i es other e. h.each i es e ∙ if_false (i == file) of [] (apart i file other);
  }

-- ---- losses

pub none_kept : (kept : List Loss) (other : Option Loss) → kept ≡ [] → IsFirst kept other other
none_kept kept None none = (none, refl)
none_kept kept (Some x) none = inl (none, refl)

same_loss : (a b : Loss) → Some a ≡ Some b → a ≡ b
same_loss a b e = cc

pub first_kept : (kept : List Loss) (number : ℕ) (other : Option Loss) (x : Loss) → ((l : Loss) × IsLeast kept number l) → IsWithOther kept number other x → IsFirst kept other (Some x)
first_kept kept number other x (l, least) (first, stands, is) = inr (number, l, least, is ∙ ap (λ (y : Loss). with_other y other) (same_loss first l (sym stands ∙ least.stands)))

pub inside_kept : (kept : List raw.Lost) (number : ℕ) → ((l : Loss) × IsLeast (losses_in kept) number l) → number < length kept
inside_kept kept number (l, least) = subst (λ (k : ℕ). number < k) (length-map kept lost_of) (slice_get_within (losses_in kept) number l least.stands)

-- the one that is taken out
pub taken : (kept : List raw.Lost) (number : ℕ) (x : raw.Lost) → number < length kept → x ≡ get_or kept number x → slice_get (losses_in kept) number ≡ Some (lost_of x)
taken kept number x lt is = slice_get-map lost_of kept number ∙ ap (option_map lost_of) (slice_get_read kept (length kept) number x refl lt is)
