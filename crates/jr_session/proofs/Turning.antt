-- Readings of the texts of changes, and steps that are put behind others and taken back.
use Rattle.std.proofs.Common.{◌≡◌, ◌<◌, List, [], ◌∷◌, ◌++◌, length, length-append, sym, ap, subst, ◌∙◌, arith}
use Rattle.std.proofs.lemmas.Slice.Zip.{AllZip-long}
use Rattle.jr_sources.specs.declared.readings.Reading.{Reading}
use Rattle.jr_sources.specs.Sources.{Source}
use Rattle.jr_session.specs.declared.changes.Change.{Change}
use Rattle.jr_session.specs.declared.changes.Earlier.{Earlier}
use Rattle.jr_session.specs.Changes.{put_back, AreOfFiles}
use Rattle.jr_session.specs.Turns.{IsChangeReading, AreChangeReadings, AreLastReadings, AreExchanged, IsChanged, IsTurn}

-- ---- readings

pub more_readings : (cs : List Change) (c : Change) (rs : List Reading) (r : Reading) → AreChangeReadings cs rs → IsChangeReading c r → AreChangeReadings (cs ++ c ∷ []) (rs ++ r ∷ [])
more_readings [] c [] r h g = (g, tt)
more_readings [] c (x ∷ xs) r h g = absurd h
more_readings (b ∷ bs) c [] r h g = absurd h
more_readings (b ∷ bs) c (x ∷ xs) r h g = (h.0, more_readings bs c xs r h.1 g)

pub some_reading : (cs : List Change) (c : Change) (rs : List Reading) → AreChangeReadings (cs ++ c ∷ []) rs → 0 < length rs
some_reading cs c rs h =
    let a = AllZip-long IsChangeReading (cs ++ c ∷ []) rs h in
    let b = length-append cs (c ∷ []) in
    omega (arith, a, b)

none_left : (cs : List Change) (c : Change) → AreChangeReadings (cs ++ c ∷ []) [] → ⊥
none_left [] c h = h
none_left (b ∷ bs) c h = h

-- those of all but the last, and that of the last
pub split_readings : (cs : List Change) (c : Change) (rs : List Reading) (r : Reading) → AreChangeReadings (cs ++ c ∷ []) (rs ++ r ∷ []) → AreChangeReadings cs rs × IsChangeReading c r
split_readings [] c [] r h = (tt, h.0)
split_readings [] c (x ∷ []) r h = absurd h.1
split_readings [] c (x ∷ y ∷ ys) r h = absurd h.1
split_readings (b ∷ bs) c [] r h = absurd (none_left bs c h.1)
split_readings (b ∷ bs) c (x ∷ xs) r h = let m = split_readings bs c xs r h.1 in ((h.0, m.0), m.1)

-- ---- steps

module _ (sources sources' : List Source) (texts had had' : List Change) (none : had ≡ []) (exchanged : AreExchanged sources texts had sources' had') (was : Earlier) (is : was.changes.items ≡ had') where
  behind : was.changes.items ≡ exchanged.behind
  behind = is ∙ exchanged.kept ∙ ap (λ (cs : List Change). cs ++ exchanged.behind) none

  -- what puts the texts back stands behind the steps
  pub changed_by : (steps steps' : List Earlier) → steps' ≡ steps ++ was ∷ [] → IsChanged sources steps (put_back sources texts) sources' steps'
  changed_by steps steps' kept = record {
    was = was;
    are = exchanged.becomes;
    back = ap (put_back sources') behind ∙ exchanged.back;
    files = subst (λ (cs : List Change). AreOfFiles (length sources) cs) (sym behind) exchanged.files;
    kept = kept;
  }

-- and a step that is taken back goes from the one list behind the other
pub turned_by : (sources sources' : List Source) (from from' onto onto' : List Earlier) (step was : Earlier) (had had' : List Change) → had ≡ [] → AreExchanged sources step.changes.items had sources' had' → was.changes.items ≡ had' → from ≡ from' ++ step ∷ [] → onto' ≡ onto ++ was ∷ [] → IsTurn sources from onto sources' from' onto'
turned_by sources sources' from from' onto onto' step was had had' none exchanged is e kept =
    record { step = step; had = e; changed = changed_by sources sources' step.changes.items had had' none exchanged was is onto onto' kept }

-- the texts of the last step are as many as their readings
pub last_count : (steps front : List Earlier) (step : Earlier) (rs : List Reading) → AreLastReadings steps rs → steps ≡ front ++ step ∷ [] → length rs ≡ length step.changes.items
last_count steps front step rs h e = AllZip-long IsChangeReading step.changes.items rs (h front step e)
