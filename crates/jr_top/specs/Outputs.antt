-- What a command line asks to be written, and how much of it was.
use Rattle.std.specs.Prelude.{◌≡◌, ℕ, ◌+◌, ◌⊎◌, List, length, Option}
use Rattle.jr_shelf.specs.Counts.{Rose, RoseBy}
use Rattle.jr_shelf.specs.Shelf.{Files}
use Rattle.jr_shelf.specs.Sink.{AppendedInPart, with_bytes}
use Rattle.jr_words.specs.Words.{Command, fetched_of}
use Rattle.jr_files.specs.Storing.{Store, StoredUpTo, with_stores}

-- the files to store, in order, and the bytes for the sink
pub record Output : Type 0 where
  pub stores : List Store
  pub report : List ℕ

-- an output of which this is so was written, all of it: each word of the command that names a file
-- was fetched, the files were stored, and the sink took the report
pub record WroteAll (command : Command) (Is : Output → Type 0) (files files' : Option Files)
    (served served' : ℕ) (taken taken' : Option (List ℕ)) : Type 0 where
  pub output : Output
  pub is_output : Is output
  pub stored : files' ≡ with_stores files output.stores
  pub took : taken' ≡ with_bytes taken output.report
  pub count : RoseBy (length (fetched_of command) + length output.stores) served served'

-- a store failed, and the shelf's count rose: those before it are whole, and the sink took nothing
pub record FailedInStores (stores : List Store) (stored : ℕ) (files files' : Option Files)
    (shelf_faults shelf_faults' : ℕ) (taken taken' : Option (List ℕ))
    (sink_faults sink_faults' : ℕ) : Type 0 where
  pub up_to : StoredUpTo files files' stores stored
  pub rose : Rose shelf_faults shelf_faults'
  pub took_nothing : taken' ≡ taken
  pub sink_faults_stay : sink_faults' ≡ sink_faults

-- the put failed, and the sink's count rose: all stores are whole, and the sink took a prefix of
-- the report
pub record FailedInReport (output : Output) (stored : ℕ) (files files' : Option Files)
    (shelf_faults shelf_faults' : ℕ) (taken taken' : Option (List ℕ))
    (sink_faults sink_faults' : ℕ) : Type 0 where
  pub all : stored ≡ length output.stores
  pub whole : files' ≡ with_stores files output.stores
  pub shelf_faults_stay : shelf_faults' ≡ shelf_faults
  pub rose : Rose sink_faults sink_faults'
  pub took : AppendedInPart taken taken' output.report

-- an output of which this is so was written in part: a fault came once `stored` files were stored
pub record WroteInPart (command : Command) (Is : Output → Type 0) (stored : ℕ)
    (files files' : Option Files) (served served' : ℕ) (shelf_faults shelf_faults' : ℕ)
    (taken taken' : Option (List ℕ)) (sink_faults sink_faults' : ℕ) : Type 0 where
  pub output : Output
  pub is_output : Is output
  pub part : FailedInStores output.stores stored files files' shelf_faults shelf_faults' taken
      taken' sink_faults sink_faults'
      ⊎ FailedInReport output stored files files' shelf_faults shelf_faults' taken taken'
      sink_faults sink_faults'
  pub count : RoseBy (length (fetched_of command) + stored) served served'
