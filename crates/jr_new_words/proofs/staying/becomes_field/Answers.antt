use Rattle.jr_new_words.proofs.staying.becomes_field.Goals as goal

pub returns-then-becomes : goal.returns-then-becomes
returns-then-becomes c = λ t. (c.becomes.ensures c.if-becomes.true, c.declares_field.ensures t)
