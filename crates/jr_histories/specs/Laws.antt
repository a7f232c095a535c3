-- The law on histories, at any types of keys.
use Rattle.std.specs.Prelude.{◌≡◌, ◌↔◌, ℕ, List, map, IsTrue}
use Rattle.jr_runs.specs.Keys.{Keys, keys_of}
use Rattle.jr_runs.specs.Values.{Value}
use Rattle.jr_runs.specs.Rows.{Rows}
use Rattle.jr_runs.specs.Core.{Program}
use Rattle.jr_runs.specs.Running.{Start}
use Rattle.jr_runs.specs.Starting.{IsStart}
use Rattle.jr_runs.specs.Images.{SameRows}
use Rattle.jr_runs.specs.KeyMaps.{KeyMap, Undoes, value_image, type_image, action_image}
use Rattle.jr_runs.specs.KeyMaps.{start_image}
use Rattle.jr_runs.specs.Alike.{AlikeExactly, AlikeReordered}
use Rattle.jr_runs.specs.FirstValues.{First, gives, makes}
use Rattle.jr_histories.specs.Histories.{Thread, begins, started, Runs, Step}
use Rattle.jr_histories.specs.Histories.{History, AreThreads}

abbrev pub thread_image : {K : Keys} → KeyMap K → Thread K → Thread K
thread_image r (begins c) = begins (start_image r c)
thread_image r (started o) = started (value_image r o)

abbrev pub step_image : {K : Keys} → KeyMap K → Step K → Step K
step_image r e = record { thread = e.thread; action = action_image r e.action }

abbrev pub first_image : {K : Keys} → KeyMap K → First K → First K
first_image r (gives v) = gives (value_image r v)
first_image r (makes c) = makes (r.class c)

-- Fields begin with the images of what they began with, and a thread runs the image of what it ran.
pub record KeepsBeginnings {K : Keys} (r : KeyMap K) (old new : Rows K) (run run' : K.method)
    (first first' : K.field → First K) : Type 0 where
  pub field_type : (f : K.field) → new.field_type (r.field f) ≡ type_image r (old.field_type f)
  pub first_value : (f : K.field) → first' (r.field f) ≡ first_image r (first f)
  pub runs : (o : Value K) (c d : Start K) → Runs old run (started o) c
      → Runs new run' (started (value_image r o)) d
      → d ≡ start_image r c

-- Each history of the new program is one of the old program.
abbrev pub HistoriesAreOld : (C F M N A : Type 0) → Type 0
HistoriesAreOld C F M N A =
    (r s : KeyMap (keys_of C F M N A)) → Undoes r s → Undoes s r → (n : ℕ)
    → (P Q : Program (keys_of C F M N A)) → AlikeReordered r n P Q → (run run' : M)
    → (first first' : F → First (keys_of C F M N A))
    → KeepsBeginnings r P.rows Q.rows run run' first first'
    → (threads : List (Thread (keys_of C F M N A))) → AreThreads P run threads
    → (h : List (Step (keys_of C F M N A)))
    → History Q run' first' (map (thread_image r) threads) (map (step_image r) h)
    → History P run first threads h

abbrev pub ExactRunsAreReordered : (C F M N A : Type 0) → Type 0
ExactRunsAreReordered C F M N A =
    (r : KeyMap (keys_of C F M N A)) (P Q : Program (keys_of C F M N A))
    → AlikeExactly r P Q → AlikeReordered r 0 P Q

-- Threads that are run on what fits have the same histories in both programs: each history of the
-- old one has its image in the new one, and each of the new one is the image of one of the old one.
pub record SameHistories {K : Keys} (r : KeyMap K) (P Q : Program K) (run run' : K.method)
    (first first' : K.field → First K) : Type 0 where
  pub forth : (threads : List (Thread K)) → AreThreads P run threads → (h : List (Step K))
      → History P run first threads h → AreThreads Q run' (map (thread_image r) threads)
      × History Q run' first' (map (thread_image r) threads) (map (step_image r) h)
  pub back : (threads : List (Thread K)) → AreThreads Q run' threads → (h : List (Step K))
      → History Q run' first' threads h
      → (before : List (Thread K)) × (steps : List (Step K))
      × (threads ≡ map (thread_image r) before) × (h ≡ map (step_image r) steps)
      × AreThreads P run before × History P run first before steps

-- So it is where the runs are the same, and fields begin with the images of what they began with.
abbrev pub ExactHistoriesAgree : (C F M N A : Type 0) → Type 0
ExactHistoriesAgree C F M N A =
    (r s : KeyMap (keys_of C F M N A)) → Undoes r s → Undoes s r
    → (P Q : Program (keys_of C F M N A)) → AlikeExactly r P Q → SameRows r P.rows Q.rows
    → ((c : Start (keys_of C F M N A)) → IsStart P.rows c ↔ IsStart Q.rows (start_image r c))
    → (run : M) → IsTrue (P.rows.has_method run)
    → (first first' : F → First (keys_of C F M N A))
    → ((f : F) → first' (r.field f) ≡ first_image r (first f))
    → SameHistories r P Q run (r.method run) first first'
