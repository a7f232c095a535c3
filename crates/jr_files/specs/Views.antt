-- Fetched files and stores, as contracts see them.
use Rattle.std.specs.Prelude.{◌≡◌, ℕ, List, map, string_bytes}
use Rattle.jr_words.specs.Words.{Operand}
use Rattle.jr_files.specs.declared.fetches.Fetched.{Fetched}
use Rattle.jr_files.specs.declared.stores.Store as raw_store
use Rattle.jr_files.specs.Storing.{Store}

-- the texts that were fetched
abbrev pub texts_of : Fetched → List (List ℕ)
texts_of fetched = map (λ s. s.1) fetched.sources.items

-- each text has its operand's name, and its bytes are kept beside it
pub record AreOf (operands : List Operand) (fetched : Fetched) : Type 0 where
  pub names : map (λ s. string_bytes s.0) fetched.sources.items
      ≡ map (λ (o : Operand). o.text) operands
  pub bytes : map (λ b. b.items) fetched.bytes.items ≡ texts_of fetched

abbrev pub store_of : raw_store.Store → Store
store_of store = record { name = string_bytes store.name; text = store.text.now }
