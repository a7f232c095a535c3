use Rattle.jr_images.proofs.SuitableSpelling.{renamed_texts_read}
use Rattle.jr_images.proofs.text_laws.renamed_texts_read.Goals as goal

pub returns : goal.returns
returns g c = renamed_texts_read _
