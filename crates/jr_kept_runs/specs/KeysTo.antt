-- What becomes of keys by a renaming.
use Rattle.jr_runs.specs.KeyMaps.{KeyMap}
use Rattle.jr_images.specs.Images.{Renaming, class_to, field_to, method_to, ctor_to}
use Rattle.jr_code.specs.RunKeys.{RunKeys}

-- a renaming's images
abbrev pub keys_to : Renaming → KeyMap RunKeys
keys_to g = record {
  class = class_to g;
  field = field_to g;
  method = method_to g;
  constructor = ctor_to g;
}
