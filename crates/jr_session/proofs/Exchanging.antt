-- Files' texts are exchanged one after the other, the last first.
use Rattle.std.proofs.Common.{◌≡◌, ℕ, zero, suc, ◌+◌, ◌<◌, ◌≤◌, List, [], ◌∷◌, ◌++◌, length, length-append, append_assoc, refl, sym, ap, subst, ◌∙◌, arith}
use Rattle.std.specs.List.{slice_get}
use Rattle.std.specs.Prelude.{Some}
use Rattle.std.proofs.lemmas.List.{append-nil}
use Rattle.std.proofs.lemmas.List.Elements.{All-push, All-pop, All-append}
use Rattle.std.proofs.lemmas.Option.{same_Some}
use Rattle.std.proofs.lemmas.Slice.Zip.{AllZip-long}
use Rattle.jr_sources.specs.Sources.{Source, texts_of, with_text}
use Rattle.jr_sources.proofs.SourceLaws.{length-with_text}
use Rattle.jr_session.specs.declared.changes.Change.{Change}
use Rattle.jr_session.specs.Changes.{put_back, AreOfFiles}
use Rattle.jr_sources.specs.declared.kept.Readings.{Readings}
use Rattle.jr_sources.specs.declared.readings.Reading.{Reading}
use Rattle.jr_sources.specs.KeptReadings.{AreReadings}
use Rattle.jr_session.specs.Turns.{AreExchanged, IsChangeReading, AreChangeReadings}
use Rattle.jr_session.proofs.Histories.{put-append, length-put}

-- a text that is put back gives the sources that there were
pub with_text-back : (ss : List Source) (n : ℕ) (new old : List ℕ) → slice_get (texts_of ss) n ≡ Some old → with_text (with_text ss n new) n old ≡ ss
with_text-back [] n new old h = refl
with_text-back (s ∷ ss) zero new old h = ap (λ (t : List ℕ). record { name = s.name; text = t } ∷ ss) (sym (same_Some s.text old h))
with_text-back (s ∷ ss) (suc n) new old h = ap (λ (xs : List Source). s ∷ xs) (with_text-back ss n new old h)

pub one_exchanged : (ss ts : List Source) (c : Change) (old : List ℕ) (had had' : List Change) → ts ≡ with_text ss c.file c.text → slice_get (texts_of ss) c.file ≡ Some old → c.file < length ss → had' ≡ had ++ record { file = c.file; text = old } ∷ [] → AreExchanged ss (c ∷ []) had ts had'
one_exchanged ss ts c old had had' becomes was within kept = record {
  behind = record { file = c.file; text = old } ∷ [];
  becomes = becomes;
  kept = kept;
  back = ap (λ (xs : List Source). with_text xs c.file old) becomes ∙ with_text-back ss c.file c.text old was;
  files = All-push (λ (d : Change). d.file < length ss) [] (record { file = c.file; text = old }) (λ k d l. absurd (omega arith)) within;
  many = refl;
}

pub none_exchanged : (ss : List Source) (had : List Change) → AreExchanged ss [] had ss had
none_exchanged ss had = record { behind = []; becomes = refl; kept = sym (append-nil had); back = refl; files = λ k d l. absurd (omega arith); many = refl }

-- one more in front of those that were exchanged
pub more_exchanged : (ss ts us : List Source) (c : Change) (done had mid had' : List Change) → AreExchanged ss done had ts mid → AreExchanged ts (c ∷ []) mid us had' → AreExchanged ss (c ∷ done) had us had'
more_exchanged ss ts us c done had mid had' g h = record {
  behind = g.behind ++ h.behind;
  becomes = h.becomes ∙ ap (λ (xs : List Source). with_text xs c.file c.text) g.becomes;
  kept = h.kept ∙ ap (λ (xs : List Change). xs ++ h.behind) g.kept ∙ append_assoc had g.behind h.behind;
  back = put-append us g.behind h.behind ∙ ap (λ (xs : List Source). put_back xs g.behind) h.back ∙ g.back;
  files = All-append (λ (d : Change). d.file < length ss) g.behind h.behind g.files (subst (λ (n : ℕ). AreOfFiles n h.behind) (ap length g.becomes ∙ length-put ss done) h.files);
  many = let e = length-append g.behind h.behind in let m = g.many in let n = h.many in omega (arith, e, m, n);
}

-- ---- one after the other

-- some of the texts are exchanged, those behind the ones that are left, and what stands behind the others reads so
pub record IsUnderWay (sources : List Source) (texts had : List Change) (now : List Source) (readings : Readings) (left : List Change) (with : List Reading) (had' : List Change) (were : List Reading) (room space : ℕ) : Type 0 where
  pub done : List Change
  pub split : texts ≡ left ++ done
  pub exchanged : AreExchanged sources done had now had'
  pub reads : AreChangeReadings left with
  pub kept : AreReadings (texts_of now) readings
  pub before : AreChangeReadings had' were
  pub files : AreOfFiles (length now) left
  pub fits : length had' + length left ≤ room
  pub has_space : length were + length left ≤ space

pub begin_way : (sources : List Source) (texts had : List Change) (readings : Readings) (with were : List Reading) (room space : ℕ) → AreOfFiles (length sources) texts → length had + length texts ≤ room → length were + length texts ≤ space → AreReadings (texts_of sources) readings → AreChangeReadings texts with → AreChangeReadings had were
    → IsUnderWay sources texts had sources readings texts with had were room space
begin_way sources texts had readings with were room space files fits more kept reads before = record { done = []; split = sym (append-nil texts); exchanged = none_exchanged sources had; reads = reads; kept = kept; before = before; files = files; fits = fits; has_space = more }

pub end_way : (sources : List Source) (texts had : List Change) (now : List Source) (readings : Readings) (left : List Change) (with : List Reading) (had' : List Change) (were : List Reading) (room space : ℕ) → left ≡ [] → IsUnderWay sources texts had now readings left with had' were room space → AreExchanged sources texts had now had'
end_way sources texts had now readings left with had' were room space e w =
    let all : w.done ≡ texts = sym (w.split ∙ ap (λ (l : List Change). l ++ w.done) e) in
    subst (λ (ds : List Change). AreExchanged sources ds had now had') all w.exchanged

-- the texts of changes are as many as their readings
pub count_readings : (changes : List Change) (readings : List Reading) → AreChangeReadings changes readings → length readings ≡ length changes
count_readings changes readings h = AllZip-long IsChangeReading changes readings h

pub step_way : (sources : List Source) (texts had : List Change) (now next : List Source) (readings readings' : Readings) (left left' : List Change) (with with' : List Reading) (mid had' : List Change) (were were' : List Reading) (room room' space space' : ℕ) (c : Change)
    → room' ≡ room → space' ≡ space → left ≡ left' ++ c ∷ [] → AreChangeReadings left' with' → AreExchanged now (c ∷ []) mid next had' → AreReadings (texts_of next) readings' → AreChangeReadings had' were' → IsUnderWay sources texts had now readings left with mid were room space → IsUnderWay sources texts had next readings' left' with' had' were' room' space'
step_way sources texts had now next readings readings' left left' with with' mid had' were were' room room' space space' c same_room same_space e reads ex kept before w =
    let same : length next ≡ length now = ap length ex.becomes ∙ length-with_text now c.file c.text in
    let files = All-pop (λ (d : Change). d.file < length now) left left' (Some c) e w.files in
    let fits = w.fits in
    let more = w.has_space in
    let n = ap length e ∙ length-append left' (c ∷ []) in
    let one = ap length ex.kept ∙ length-append mid ex.behind in
    let many = ex.many in
    let these = count_readings mid were w.before in
    let those = count_readings had' were' before in
    record {
      done = c ∷ w.done;
      split = w.split ∙ ap (λ (l : List Change). l ++ w.done) e ∙ append_assoc left' (c ∷ []) w.done;
      exchanged = more_exchanged sources now next c w.done had mid had' w.exchanged ex;
      reads = reads;
      kept = kept;
      before = before;
      files = subst (λ (k : ℕ). AreOfFiles k left') (sym same) files.0;
      fits = omega (arith, fits, n, one, many, same_room);
      has_space = omega (arith, more, n, one, many, these, those, same_space);
    }
