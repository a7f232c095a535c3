-- What a change, and a change taken back, leaves of what can be undone.
use Rattle.std.proofs.Common.{◌≡◌, ℕ, List, [], ◌∷◌, ◌++◌, set, length, refl, sym, ap, ◌∙◌, arith}
use Rattle.std.specs.Prelude.{Bool, true, false, not, IsTrue, ◌↔◌, ◌==◌, ◌≢◌}
use Rattle.std.proofs.Common.{true≢false}
use Rattle.std.proofs.lemmas.Bool.{false_from_ne_true}
use Rattle.std.proofs.lemmas.Bool.Decides.{Decides-eqb}
use Rattle.jr_sources.specs.Sources.{Source, names_of, texts_of, with_text}
use Rattle.jr_sources.proofs.SourceLaws.{names-with_text, texts-with_text, length-with_text}
use Rattle.jr_session.specs.declared.changes.Change.{Change}
use Rattle.jr_session.specs.declared.changes.Earlier.{Earlier}
use Rattle.jr_session.specs.Changes.{before, history, put_texts, put_back}

pub texts-put : (ss : List Source) (cs : List Change) → texts_of (put_back ss cs) ≡ put_texts (texts_of ss) cs
texts-put ss [] = refl
texts-put ss (c ∷ cs) = texts-with_text (put_back ss cs) c.file c.text ∙ ap (λ (ts : List (List ℕ)). set ts c.file c.text) (texts-put ss cs)

pub names-put : (ss : List Source) (cs : List Change) → names_of (put_back ss cs) ≡ names_of ss
names-put ss [] = refl
names-put ss (c ∷ cs) = names-with_text (put_back ss cs) c.file c.text ∙ names-put ss cs

pub length-put : (ss : List Source) (cs : List Change) → length (put_back ss cs) ≡ length ss
length-put ss [] = refl
length-put ss (c ∷ cs) = length-with_text (put_back ss cs) c.file c.text ∙ length-put ss cs

-- those of two lists, the second first
pub put-append : (ss : List Source) (cs ds : List Change) → put_back ss (cs ++ ds) ≡ put_back (put_back ss ds) cs
put-append ss [] ds = refl
put-append ss (c ∷ cs) ds = ap (λ (xs : List Source). with_text xs c.file c.text) (put-append ss cs ds)

pub before-pushed : (texts : List (List ℕ)) (es : List Earlier) (e : Earlier) → before texts (es ++ e ∷ []) ≡ before (put_texts texts e.changes.items) es
before-pushed texts [] e = refl
before-pushed texts (x ∷ xs) e = ap (λ (ts : List (List ℕ)). put_texts ts x.changes.items) (before-pushed texts xs e)

-- the last step is the last entry
pub history-pushed : (texts : List (List ℕ)) (es : List Earlier) (e : Earlier) → history texts (es ++ e ∷ []) ≡ history (put_texts texts e.changes.items) es ++ put_texts texts e.changes.items ∷ []
history-pushed texts [] e = refl
history-pushed texts (x ∷ xs) e = λ i. put_texts (before-pushed texts xs e i) x.changes.items ∷ history-pushed texts xs e i

-- there is a history exactly where there are changes
pub some_history : (texts : List (List ℕ)) (cs : List Earlier) (b : Bool) → b ≡ (length cs == 0) → IsTrue (not b) ↔ (history texts cs ≢ [])
some_history texts [] b e =
    let n : b ≡ true = e ∙ (Decides-eqb 0 0).1 refl in
    (λ t h. true≢false (sym t ∙ ap not n), λ h. absurd (h refl))
some_history texts (c ∷ cs) b e =
    let n : b ≡ false = e ∙ false_from_ne_true (length (c ∷ cs) == 0) (λ t. let z : length (c ∷ cs) ≡ 0 = (Decides-eqb (length (c ∷ cs)) 0).0 t in absurd (omega arith)) in
    (λ t h. cc, λ h. ap not n)

pub no_history : (texts : List (List ℕ)) (cs : List Earlier) → history texts cs ≡ [] → cs ≡ []
no_history texts [] h = refl
no_history texts (c ∷ cs) h = cc
