use Rattle.jr_new_words.proofs.staying.finds_image.Goals as goal

pub returns-in-Some : goal.returns-in-Some
returns-in-Some c = λ t.
    let h = c.becomes_field.ensures t in
    record {
      no_image = c.requires.free;
      number = c.args.number;
      image = c.in-Some.image;
      before = c.requires.finds;
      after = c.in-Some.ensures;
      becomes = h.0;
      declares = h.1;
    }
