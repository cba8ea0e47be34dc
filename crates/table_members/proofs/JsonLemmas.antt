-- The entries of an array, and the value of a text.
use Rattle.std.proofs.Common.{◌≡◌, ℕ, List, [], ◌∷◌, length, Option, Some, None, refl, sym, ap, ◌∙◌}
use Rattle.std.specs.Str.{IsUtf8}
use Rattle.std.specs.Prelude.{option_map, option_and_then}
use Rattle.std.proofs.lemmas.Str.{utf8_valid_len-IsUtf8}
use Rattle.std.proofs.Common.{eq-eqb}
use Rattle.serde_json.specs.Data.{Data, Items}
use Rattle.serde_json.specs.Read.{read}
use Rattle.serde_json.specs.View.{items_of}
use Rattle.serde_json.specs.Find.{as_array}
use Rattle.table_members.specs.Json.{list_of, json_of, entries}

pub list_of_items : (ds : List Data) → list_of (items_of ds) ≡ ds
list_of_items [] = refl
list_of_items (d ∷ ds) = ap (λ (xs : List Data). d ∷ xs) (list_of_items ds)

pub json_of_text : (bytes : List ℕ) → IsUtf8 bytes → json_of bytes ≡ read bytes
unfolding json_of
json_of_text bytes h = rw (utf8_valid_len-IsUtf8 bytes h, eq-eqb (length bytes) (length bytes) refl) refl

seen : {V : Type 0} (f : V → List Data) (o : Option V) → option_map f o ≡ option_and_then (λ ds. Some (list_of ds)) (option_map (λ v. items_of (f v)) o)
seen f None = refl
seen f (Some v) = ap Some (sym (list_of_items (f v)))

pub entries_seen : {V : Type 0} (f : V → List Data) (o : Option V) (d : Data) → option_map (λ v. items_of (f v)) o ≡ as_array d → option_map f o ≡ entries d
unfolding entries
entries_seen f o d h = seen f o ∙ ap (λ (a : Option Items). option_and_then (λ ds. Some (list_of ds)) a) h
