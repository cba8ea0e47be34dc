-- One more name that was seen.
use Rattle.std.proofs.Common.{◌≡◌, ℕ, List, [], ◌∷◌, ◌++◌, Bool, true, false, cond, Option, Some, refl, sym, ap, ◌∙◌, ◌||◌}
use Rattle.std.specs.Prelude.{String, string_bytes}
use Rattle.std.specs.BTreeMap.{BTreeMap, UpdatesBy, get_by_text}
use Rattle.std.specs.List.{list_any}
use Rattle.std.specs.Option.{is_some}
use Rattle.std.specs.Ordering.{nat_cmp}
use Rattle.std.specs.Cmp.Lexicographic.{slice_cmp}
use Rattle.std.specs.String.{string_cmp}
use Rattle.std.specs.Str.{bytes_eq}
use Rattle.std.specs.declared.alloc.Global.{Global}
use Rattle.std.proofs.lemmas.List.Folds.{list_any-append}
use Rattle.std.proofs.lemmas.Map.Text.{btree_map_updates_text}
use Rattle.res_model.specs.declared.table.TableSignal.{TableSignal}
use Rattle.mcu_tables.specs.Seen.{AreSeen}

or_last : (t b : Bool) → cond b true t ≡ (t || (b || false))
or_last true true = refl
or_last true false = refl
or_last false true = refl
or_last false false = refl

some_of : (b : Bool) (o : Option (Unit {0})) → is_some (cond b (Some tt) o) ≡ cond b true (is_some o)
some_of true o = refl
some_of false o = refl

pub seen_more : (before : List TableSignal) (s : TableSignal) (key : String Global) (m n : BTreeMap (String Global) (Unit {0})) → string_bytes key ≡ s.name
    → UpdatesBy string_cmp (λ k. slice_cmp nat_cmp (string_bytes key) (string_bytes k)) m n (Some tt) → AreSeen before m → AreSeen (before ++ s ∷ []) n
seen_more before s key m n is up h name =
    let e = btree_map_updates_text (string_bytes key) m n (Some tt) up name in
    ap (λ (o : Option (Unit {0})). is_some o) e
    ∙ some_of (bytes_eq (string_bytes key) name) (get_by_text m name)
    ∙ ap (λ (t : Bool). cond (bytes_eq (string_bytes key) name) true t) (h name)
    ∙ ap (λ (w : List ℕ). cond (bytes_eq w name) true (list_any (λ (u : TableSignal). bytes_eq u.name name) before)) is
    ∙ or_last (list_any (λ (u : TableSignal). bytes_eq u.name name) before) (bytes_eq s.name name)
    ∙ sym (list_any-append (λ (u : TableSignal). bytes_eq u.name name) before (s ∷ []))
