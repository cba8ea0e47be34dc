-- Internal: which names were seen.
use Rattle.std.specs.Prelude.{◌≡◌, ℕ, List, String}
use Rattle.std.specs.BTreeMap.{BTreeMap, get_by_text}
use Rattle.std.specs.List.{list_any}
use Rattle.std.specs.Option.{is_some}
use Rattle.std.specs.Str.{bytes_eq}
use Rattle.std.specs.declared.alloc.Global.{Global}
use Rattle.res_model.specs.declared.table.TableSignal.{TableSignal}

-- the map has the names of these signals and no others
abbrev pub AreSeen : List TableSignal → BTreeMap (String Global) (Unit {0}) → Type 0
AreSeen before seen = (name : List ℕ) → is_some (get_by_text seen name) ≡ list_any (λ s. bytes_eq s.name name) before
