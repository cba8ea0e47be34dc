-- What is read of a member of a table: the forms of members and of lists, and the first fault by its path.
use Rattle.std.specs.Prelude.{ℕ, ◌==◌, ◌-◌, ◌&&◌, List, [], ◌∷◌, ◌++◌, length, Bool, true, nat_lt, nat_le, if◌then◌else◌, Option, Some, None, Result, Ok, Err, find, decimal, slice_get, ⊤}
use Rattle.std.specs.List.{list_any}
use Rattle.std.specs.Str.{bytes_eq}
use Rattle.res_model.specs.Steps.{◌>>=◌}
use Rattle.table_members.specs.Json.{is_object, inside, entries, two, number, word}
use Rattle.table_members.specs.declared.fault.TableFault.{TableFault}
use Rattle.table_members.specs.declared.fault.TableFault.TheVariants.{Missing, BadField, Repeated}
use Rattle.serde_json.specs.Data.{Data}
use Rattle.serde_json.specs.Find.{get, as_bool}

-- what is read of a value at a path, or its fault; and of an entry, after those before it
abbrev pub Form : Type 0 → Type 0
Form X = List ℕ → Data → Result X TableFault

abbrev pub EntryForm : Type 0 → Type 0
EntryForm X = List X → Form X

-- ---- paths and faults

-- the path of a part below a path, as in `/clock/hpre/0`
abbrev pub below : List ℕ → List ℕ → List ℕ
below path part = path ++ 47 ∷ part

-- what is there, or else the fault
abbrev pub due : {X : Type 0} → TableFault → Option X → Result X TableFault
due fault None = Err fault
due fault (Some x) = Ok x

-- x, where the test holds
abbrev pub must : {X : Type 0} → TableFault → Bool → X → Result X TableFault
must fault holds x = if holds then Ok x else Err fault

-- ---- members

-- a member that has to be there
abbrev pub need : {X : Type 0} → Form X → List ℕ → Option Data → Result X TableFault
need form path found = do
  d ← due (Missing path) found
  form path d

-- a member that may be absent; null is not absent
abbrev pub may : {X : Type 0} → Form X → X → List ℕ → Option Data → Result X TableFault
may form absent path None = Ok absent
may form absent path (Some d) = form path d

-- the member of the object at this path
abbrev pub member : {X : Type 0} → Form X → List ℕ → List ℕ → Data → Result X TableFault
member form path key d = need form (below path key) (get key d)

abbrev pub optional : {X : Type 0} → Form X → X → List ℕ → List ℕ → Data → Result X TableFault
optional form absent path key d = may form absent (below path key) (get key d)

-- a member of the table
abbrev pub top : {X : Type 0} → Form X → List ℕ → Data → Result X TableFault
top form key d = member form [] key d

-- a member of a member of the table, which is missing too where the outer one is absent or no object
abbrev pub nested : {X : Type 0} → Form X → List ℕ → List ℕ → Data → Result X TableFault
nested form group key d = need form (below (below [] group) key) (inside group key d)

-- ---- forms of a member

unfoldable pub text : Form (List ℕ)
text path d = due (BadField path) (word d)

unfoldable pub flag : Form Bool
flag path d = due (BadField path) (as_bool d)

unfoldable pub object : Form Data
object path d = must (BadField path) (is_object d) d

-- an object, where it is there
unfoldable pub object_if_there : List ℕ → Option Data → Result ⊤ TableFault
object_if_there path None = Ok tt
object_if_there path (Some d) = must (BadField path) (is_object d) tt

unfoldable pub number_within : ℕ → ℕ → Form ℕ
number_within low high path d = do
  n ← due (BadField path) (number d)
  must (BadField path) (nat_le low n && nat_le n high) n

-- one of these numbers
unfoldable pub number_among : List ℕ → Form ℕ
number_among these path d = do
  n ← due (BadField path) (number d)
  due (BadField path) (find (λ x. x == n) these)

-- a least and a greatest number within a range
unfoldable pub pair_within : ℕ → ℕ → Form (ℕ × ℕ)
pair_within low high path d = do
  ds ← due (BadField path) (two d)
  m ← due (BadField path) (number ds.0)
  n ← due (BadField path) (number ds.1)
  must (BadField path) (nat_le low m && nat_le m n && nat_le n high) (m, n)

-- the entries, each judged after those before it
abbrev pub entries_after : {X : Type 0} → EntryForm X → List ℕ → List X → List Data → Result (List X) TableFault
entries_after entry path before [] = Ok before
entries_after entry path before (d ∷ ds) = do
  x ← entry before (below path (decimal (length before))) d
  entries_after entry path (before ++ x ∷ []) ds

-- so many entries at least and at most
unfoldable pub counted : ℕ → ℕ → Form (List Data)
counted least most path d = do
  ds ← due (BadField path) (entries d)
  must (BadField path) (nat_le least (length ds) && nat_le (length ds) most) ds

-- a list of so many entries
unfoldable pub list : {X : Type 0} → ℕ → ℕ → EntryForm X → Form (List X)
list least most entry path d = do
  ds ← counted least most path d
  entries_after entry path [] ds

-- ---- entries of lists

-- x, where no entry before equals it
abbrev pub fresh : {X : Type 0} → List ℕ → Bool → X → Result X TableFault
fresh path repeated x = if repeated then Err (Repeated path) else Ok x

unfoldable pub any_text : EntryForm (List ℕ)
any_text before path d = text path d

unfoldable pub distinct_text : EntryForm (List ℕ)
distinct_text before path d = do
  name ← text path d
  fresh path (list_any (λ x. bytes_eq x name) before) name

-- n is above the last, where there is one
abbrev pub is_above_last : Option ℕ → ℕ → Bool
is_above_last None n = true
is_above_last (Some m) n = nat_lt m n

abbrev pub is_above : List ℕ → ℕ → Bool
is_above before n = is_above_last (slice_get before (length before - 1)) n

unfoldable pub above : EntryForm ℕ
above before path d = do
  n ← due (BadField path) (number d)
  must (BadField path) (is_above before n) n

-- the next of an ascending list within these numbers
unfoldable pub next_among : List ℕ → EntryForm ℕ
next_among these before path d = do
  n ← number_among these path d
  must (BadField path) (is_above before n) n

-- an ascending list within these numbers, with at least one
unfoldable pub some_among : List ℕ → Form (List ℕ)
some_among these path d = do
  ds ← due (BadField path) (entries d)
  ns ← entries_after (next_among these) path [] ds
  must (BadField path) (nat_lt 0 (length ns)) ns

-- an ascending list within these numbers, with 1 in it
unfoldable pub one_among : List ℕ → Form (List ℕ)
one_among these path d = do
  ds ← due (BadField path) (entries d)
  ns ← entries_after (next_among these) path [] ds
  must (BadField path) (list_any (λ n. n == 1) ns) ns
