-- The steps of a script are those that a session answers.
use Rattle.std.proofs.Common.{◌≡◌, ℕ, zero, suc, Bool, true, false, true≢false, ◌||◌, refl, sym, subst, ◌∙◌, arith, List, [], ◌∷◌, codes, bytes_eq, All, Contains}
use Rattle.std.specs.List.{AllZip}
use Rattle.serde_json.specs.Data.{Data}
use Rattle.jr_names.specs.declared.steps.Step.{Step}
use Rattle.jr_names.specs.declared.steps.Step.TheVariants.{Edit, Rename, ExtractLocal, ExtractMethod, InlineLocal, InlineMethod, PullUp, MoveStatic, MoveInstance, Show, Undo, Redo}
use Rattle.jr_script.specs.Rows.{Row, rows}
use Rattle.jr_script.specs.Steps.{Means, word_of}
use Rattle.jr_session.specs.Serving.{IsServed}

-- a word that a row has is the word of a step that is answered
is_built : List ℕ → Bool
is_built word = bytes_eq word (codes "edit") || bytes_eq word (codes "rename") || bytes_eq word (codes "show") || bytes_eq word (codes "undo") || bytes_eq word (codes "redo") || bytes_eq word (codes "extract_local")

built_from_row : (r : Row) → Contains rows r → is_built r.word ≡ true
unfolding is_built
built_from_row r (zero, l, e) = subst (λ (x : Row). is_built x.word ≡ true) e refl
built_from_row r (suc zero, l, e) = subst (λ (x : Row). is_built x.word ≡ true) e refl
built_from_row r (suc (suc zero), l, e) = subst (λ (x : Row). is_built x.word ≡ true) e refl
built_from_row r (suc (suc (suc zero)), l, e) = subst (λ (x : Row). is_built x.word ≡ true) e refl
built_from_row r (suc (suc (suc (suc zero))), l, e) = subst (λ (x : Row). is_built x.word ≡ true) e refl
built_from_row r (suc (suc (suc (suc (suc zero)))), l, e) = subst (λ (x : Row). is_built x.word ≡ true) e refl
built_from_row r (suc (suc (suc (suc (suc (suc k))))), l, e) = absurd (omega (arith, l))

unbuilt : (d : Data) (s : Step) → Means d s → is_built (word_of s) ≡ false → ⊥
unbuilt d s means other = true≢false (sym (built_from_row _ means.built) ∙ other)

pub means_served : (d : Data) (s : Step) → Means d s → IsServed s
unfolding is_built
means_served d (Edit file from to text) means = tt
means_served d (Show file of) means = tt
means_served d Undo means = tt
means_served d Redo means = tt
means_served d (Rename file at new) means = tt
means_served d (ExtractLocal file from to new) means = tt
means_served d (ExtractMethod file from to new) means = absurd (unbuilt d (ExtractMethod file from to new) means refl)
means_served d (InlineLocal file at) means = absurd (unbuilt d (InlineLocal file at) means refl)
means_served d (InlineMethod file at) means = absurd (unbuilt d (InlineMethod file at) means refl)
means_served d (PullUp file at) means = absurd (unbuilt d (PullUp file at) means refl)
means_served d (MoveStatic file at class) means = absurd (unbuilt d (MoveStatic file at class) means refl)
means_served d (MoveInstance file at class new) means = absurd (unbuilt d (MoveInstance file at class new) means refl)

pub all_served : (elements : List Data) (steps : List Step) → AllZip Means elements steps → All IsServed steps
all_served [] [] all k d below = absurd (omega (arith, below))
all_served [] (s ∷ ss) all k d below = absurd all
all_served (e ∷ es) [] all k d below = absurd all
all_served (e ∷ es) (s ∷ ss) all zero d below = means_served e s all.0
all_served (e ∷ es) (s ∷ ss) all (suc k) d below = all_served es ss all.1 k d (omega (arith, below))
