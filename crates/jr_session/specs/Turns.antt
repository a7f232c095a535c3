-- Texts are exchanged for others, forwards or back. Only private clauses cite this.
use Rattle.std.specs.Prelude.{◌≡◌, List, [], ◌∷◌, ◌++◌, length}
use Rattle.std.specs.List.{AllZip}
use Rattle.jr_ast.specs.View.{unit_of}
use Rattle.jr_sources.specs.declared.readings.Reading.{Reading}
use Rattle.jr_sources.specs.ReadingFaults.{IsReading}
use Rattle.jr_sources.specs.Sources.{Source}
use Rattle.jr_session.specs.declared.changes.Change.{Change}
use Rattle.jr_session.specs.declared.changes.Earlier.{Earlier}
use Rattle.jr_session.specs.Changes.{put_back, AreOfFiles}

-- what the text of a change reads as
abbrev pub IsChangeReading : Change → Reading → Type 0
IsChangeReading c r = IsReading c.text (unit_of r.unit) r.word r.tokens r.fault

abbrev pub AreChangeReadings : List Change → List Reading → Type 0
AreChangeReadings changes readings = AllZip IsChangeReading changes readings

-- the sources have these texts, and what they had stands behind the changes
pub record AreExchanged (sources : List Source) (texts had : List Change) (sources' : List Source)
    (had' : List Change) : Type 0 where
  pub behind : List Change
  pub becomes : sources' ≡ put_back sources texts
  pub kept : had' ≡ had ++ behind
  pub back : put_back sources' behind ≡ sources
  pub files : AreOfFiles (length sources) behind
  pub many : length behind ≡ length texts

-- the sources become these, and what puts them back stands behind the steps
pub record IsChanged (sources : List Source) (steps : List Earlier) (becomes : List Source)
    (sources' : List Source) (steps' : List Earlier) : Type 0 where
  pub was : Earlier
  pub are : sources' ≡ becomes
  pub back : put_back sources' was.changes.items ≡ sources
  pub files : AreOfFiles (length sources) was.changes.items
  pub kept : steps' ≡ steps ++ was ∷ []

-- the last step of one list is taken back, and what it takes away stands behind the other
pub record IsTurn (sources : List Source) (from onto : List Earlier) (sources' : List Source)
    (from' onto' : List Earlier) : Type 0 where
  pub step : Earlier
  pub had : from ≡ from' ++ step ∷ []
  pub changed : IsChanged sources onto (put_back sources step.changes.items) sources' onto'

-- these are what the texts of the last step read as
abbrev pub AreLastReadings : List Earlier → List Reading → Type 0
AreLastReadings steps readings = (front : List Earlier) (step : Earlier)
    → steps ≡ front ++ step ∷ [] → AreChangeReadings step.changes.items readings

-- nothing changed
pub record AreAsBefore (sources : List Source) (from onto : List Earlier) (sources' : List Source)
    (from' onto' : List Earlier) : Type 0 where
  pub files : sources' ≡ sources
  pub left : from' ≡ from
  pub behind : onto' ≡ onto
