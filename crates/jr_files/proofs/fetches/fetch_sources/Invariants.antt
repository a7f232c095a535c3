use Rattle.jr_files.specs.Fetching.{Served}
use Rattle.jr_files.proofs.FetchLaws.{SoFar}
use Rattle.jr_files.proofs.fetches.fetch_sources.Given as goal

-- the sources so far, with their names and bytes, and what the shelf is behind their fetches
abbrev pub invariant-loop-file : goal.invariant-loop-file
invariant-loop-file g l = record {
  so_far : SoFar (g.S.Shelf.holds l.fn.shelf) l.files l.file-index l.sources.items l.all_bytes.items l.total;
  served : Served l.file-index (g.S.Shelf.holds l.fn.shelf) (g.S.Shelf.holds l.shelf) (g.S.Shelf.missed l.fn.shelf) (g.S.Shelf.missed l.shelf)
      (g.S.Shelf.faults l.fn.shelf) (g.S.Shelf.faults l.shelf) (g.S.Shelf.served l.fn.shelf) (g.S.Shelf.served l.shelf);
}
