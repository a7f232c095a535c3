-- The pure value of what stands in front of a dot.
use Rattle.jr_table.specs.TypeView.{class_key_of}
use Rattle.jr_images.specs.Words.{InFront, class_name, value_of, neither}
use Rattle.jr_new_words.specs.declared.fronts.InFront as raw
use Rattle.jr_new_words.specs.declared.fronts.InFront.TheVariants as variant

abbrev pub in_front_of : raw.InFront → InFront
in_front_of (variant.Class k) = class_name (class_key_of k.now)
in_front_of (variant.Value k) = value_of (class_key_of k.now)
in_front_of variant.Neither = neither
