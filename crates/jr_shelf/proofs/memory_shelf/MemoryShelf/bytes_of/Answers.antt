use Rattle.std.proofs.Common.{List, ℕ, String, Vec, Global, nat_cmp, sym, ap, ◌∙◌}
use Rattle.std.specs.Cmp.Lexicographic.{slice_cmp}
use Rattle.std.specs.FinMap.{find}
use Rattle.jr_shelf.specs.Files.{entries_of}
use Rattle.jr_shelf.proofs.Lookups.{get-found, get-missed}
use Rattle.jr_shelf.proofs.memory_shelf.MemoryShelf.bytes_of.Goals as goal

pub returns-in-Some : goal.returns-in-Some
returns-in-Some c = sym (get-found c.args.name.now c.args.self.now.log.entries (entries_of c.args.self.now.files.items) c.in-Some.bytes.now (sym c.in-Some.ensures))

pub returns-in-None : goal.returns-in-None
returns-in-None c =
    c.find_file.ensures
    ∙ ap (λ (files : List (String Global × Vec ℕ Global)). find (slice_cmp nat_cmp) c.args.name.now (entries_of files)) c.as_slice.ensures.value
    ∙ sym (get-missed c.args.name.now c.args.self.now.log.entries (entries_of c.args.self.now.files.items) (sym c.in-None.ensures))
