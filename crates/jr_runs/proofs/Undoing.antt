-- What undoes a key map undoes it on values.
use Rattle.std.proofs.Common.{◌≡◌, refl, ap}
use Rattle.jr_runs.specs.Keys.{Keys}
use Rattle.jr_runs.specs.Values.{Value, int, truth, null, text, class_object, object}
use Rattle.jr_runs.specs.KeyMaps.{KeyMap, Undoes, value_image}

pub value_back : {K : Keys} (r s : KeyMap K) → Undoes r s → (v : Value K) → value_image s (value_image r v) ≡ v
value_back r s u (int z) = refl
value_back r s u (truth b) = refl
value_back r s u null = refl
value_back r s u (text t) = refl
value_back r s u (class_object c) = ap class_object (u.class c)
value_back r s u (object n c) = ap (object n) (u.class c)
