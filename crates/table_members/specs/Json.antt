-- What is taken of a JSON value, as `serde_json` reads it.
use Rattle.std.specs.Prelude.{ℕ, ◌==◌, ◌&&◌, List, [], ◌∷◌, length, Bool, true, false, nat_le, if◌then◌else◌, Option, Some, None, option_and_then}
use Rattle.std.specs.List.{list_all}
use Rattle.std.specs.Str.Lossy.{utf8_valid_len}
use Rattle.serde_json.specs.Data.{Data, null, boolean, string, array, object, Items, no_items, item}
use Rattle.serde_json.specs.Data as json
use Rattle.serde_json.specs.Find.{get, at, as_array, as_str, as_number, as_u64}
use Rattle.serde_json.specs.Read.{read}

-- the value of the bytes, where they are UTF-8 and JSON
unfoldable pub json_of : List ℕ → Option Data
json_of bytes = if utf8_valid_len bytes == length bytes then read bytes else None

abbrev pub is_object : Data → Bool
is_object null = false
is_object (boolean b) = false
is_object (json.number n) = false
is_object (string s) = false
is_object (array ds) = false
is_object (object ms) = true

-- the member of a member
unfoldable pub inside : List ℕ → List ℕ → Data → Option Data
inside group key d = option_and_then (get key) (get group d)

-- the entries of a list, in order
abbrev pub list_of : Items → List Data
list_of no_items = []
list_of (item d ds) = d ∷ list_of ds

unfoldable pub entries : Data → Option (List Data)
entries d = option_and_then (λ ds. Some (list_of ds)) (as_array d)

-- what is there, where nothing is at a further place
abbrev pub and_no_more : {X : Type 0} → Option Data → X → Option X
and_no_more None x = Some x
and_no_more (Some d) x = None

-- the entries of a list of two
unfoldable pub two : Data → Option (Data × Data)
two d = option_and_then (λ a. option_and_then (λ b. and_no_more (at 2 d) (a, b)) (at 1 d)) (at 0 d)

-- a number that is a u64
abbrev pub number : Data → Option ℕ
number d = option_and_then as_u64 (as_number d)

-- 1 to 64 bytes, each a printing one of ASCII but the blank
abbrev pub is_printing : ℕ → Bool
is_printing b = nat_le 33 b && nat_le b 126

unfoldable pub is_word : List ℕ → Bool
is_word bytes = nat_le 1 (length bytes) && nat_le (length bytes) 64 && list_all is_printing bytes

unfoldable pub word : Data → Option (List ℕ)
word d = option_and_then (λ s. if is_word s then Some s else None) (as_str d)
