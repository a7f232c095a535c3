use Rattle.jr_program_laws.specs.FileParts.{BindsAt, BreaksAt}
use Rattle.jr_program_laws.specs.PlaceLaws.{FilesHaveParts}
use Rattle.jr_program_laws.proofs.PartsHave.{part_has, has_part}
use Rattle.jr_program_laws.proofs.place_laws.files_have_parts.Goals as goal

have_parts : FilesHaveParts
have_parts units file rows items = record {
  binds = λ at d. (part_has units file (λ k base part. BindsAt rows items k base part at d), λ h. has_part units file (λ k base part. BindsAt rows items k base part at d) h.0 h.1 h.2 h.3 h.4);
  breaks = λ at r. (part_has units file (λ k base part. BreaksAt rows items k base part at r), λ h. has_part units file (λ k base part. BreaksAt rows items k base part at r) h.0 h.1 h.2 h.3 h.4);
}

pub returns : goal.returns
returns c = have_parts
