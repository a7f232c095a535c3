-- The pure choices that Rust values stand for.
use Rattle.jr_table.specs.KeyView.{decl_of}
use Rattle.jr_table.specs.FoundView.{found_of}
use Rattle.jr_rewrite.specs.Respellings as pure
use Rattle.jr_new_words.specs.declared.choices.ChosenFront as raw_front
use Rattle.jr_new_words.specs.declared.choices.ChosenFront.TheVariants as front
use Rattle.jr_new_words.specs.declared.choices.Chosen as raw_chosen
use Rattle.jr_new_words.specs.declared.choices.Lost as raw_lost
use Rattle.jr_new_words.specs.declared.choices.Choice as raw
use Rattle.jr_new_words.specs.declared.choices.Choice.TheVariants as choice

abbrev pub front_of : raw_front.ChosenFront → pure.Front
front_of front.Same = pure.same
front_of front.Alone = pure.alone
front_of front.ByThis = pure.by_this
front_of front.BySuper = pure.by_super
front_of (front.ByCastThis k) = pure.by_cast_this k
front_of (front.ByClass k) = pure.by_class k
front_of (front.ByOuterClass o k) = pure.by_outer_class o k
front_of (front.ByCast k) = pure.by_cast k

abbrev pub chosen_of : raw_chosen.Chosen → pure.Respelling
chosen_of r = record { text = r.text; front = front_of r.front }

abbrev pub lost_of : raw_lost.Lost → pure.Loss
lost_of l = record { at = l.at; declaration = decl_of l.declaration; found = found_of l.found }

abbrev pub choice_of : raw.Choice → pure.Choice
choice_of choice.Stays = pure.stays
choice_of (choice.Becomes r) = pure.becomes (chosen_of r)
choice_of (choice.Loses l) = pure.loses (lost_of l)
