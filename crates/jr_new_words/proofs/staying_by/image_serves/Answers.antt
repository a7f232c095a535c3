use Rattle.jr_new_words.proofs.staying_by.image_serves.Goals as goal

pub returns-then-becomes : goal.returns-then-becomes
returns-then-becomes c = λ t. (c.becomes.ensures c.if-becomes.true, c.serves_at.ensures t)
