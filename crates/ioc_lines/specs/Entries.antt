-- What lines of a project's text say, whatever their numbers: named keys with their values.
use Rattle.std.specs.Prelude.{◌≡◌, ◌≢◌, ◌⊎◌, ℕ, ◌+◌, ◌∷◌, ◌++◌, [], List, map, take, drop, if◌then◌else◌, Option, Some, None, Ok}
use Rattle.std.specs.BTreeMap.{insert_entry}
use Rattle.std.specs.Ordering.{nat_cmp}
use Rattle.std.specs.Str.{bytes_eq}
use Rattle.res_base.specs.Lists.{Pairwise}
use Rattle.ioc_text.specs.Lines.{equals_at, is_named, is_quiet, line_of, pin_number, undone}
use Rattle.ioc_text.specs.declared.line.Line.{Line}

-- a named key and its value, escapes undone
abbrev pub Entry : Type 0
Entry = List ℕ × List ℕ

abbrev pub valued : List ℕ → Option (List ℕ) → Option Entry
valued key None = None
valued key (Some value) = Some (key, value)

abbrev pub of_key : Option (List ℕ) → List ℕ → Option Entry
of_key None value = None
of_key (Some key) value = if is_named key then valued key (undone value) else None

abbrev pub of_parts : List ℕ → Option ℕ → Option Entry
of_parts bytes None = None
of_parts bytes (Some at) = of_key (undone (take at bytes)) (drop (at + 1) bytes)

-- what a line says, if it has a named key and no fault
unfoldable pub entry_of : List ℕ → Option Entry
entry_of bytes = if is_quiet bytes then None else of_parts bytes (equals_at bytes)

abbrev pub numbered_entry : ℕ → Entry → Line
numbered_entry n e = record { number = n; key = e.0; value = e.1 }

abbrev pub numbered_if : ℕ → Option Entry → Option Line
numbered_if n None = None
numbered_if n (Some e) = Some (numbered_entry n e)

-- the line is read without a fault, whatever its number
abbrev pub Reads : List ℕ → Type 0
Reads bytes = (n : ℕ) → line_of n bytes ≡ Ok (numbered_if n (entry_of bytes))

abbrev pub lines_if : ℕ → Option Entry → List Line
lines_if n None = []
lines_if n (Some e) = numbered_entry n e ∷ []

-- the entries of lines of which the first has this number
abbrev pub lines_from : ℕ → List (List ℕ) → List Line
lines_from n [] = []
lines_from n (b ∷ bs) = lines_if n (entry_of b) ++ lines_from (n + 1) bs

abbrev pub entry_if : Option Entry → List Entry
entry_if None = []
entry_if (Some e) = e ∷ []

abbrev pub entries : List (List ℕ) → List Entry
entries [] = []
entries (b ∷ bs) = entry_if (entry_of b) ++ entries bs

-- no key stands twice
abbrev pub Differ : Line → Line → Type 0
Differ a b = a.key ≢ b.key

abbrev pub AreApart : List Entry → Type 0
AreApart es = Pairwise (λ (a b : Entry). a.0 ≢ b.0) es

abbrev pub entry_on : Line → Entry
entry_on l = (l.key, l.value)

-- the value of a key
abbrev pub lookup : List Entry → List ℕ → Option (List ℕ)
lookup [] key = None
lookup (e ∷ es) key = if bytes_eq key e.0 then Some e.1 else lookup es key

abbrev pub value_of : Option Line → Option (List ℕ)
value_of None = None
value_of (Some l) = Some l.value

-- a value, or that with a CR behind it
abbrev pub Near : List ℕ → List ℕ → Type 0
Near v w = (v ≡ w) ⊎ (v ≡ w ++ 13 ∷ [])

abbrev pub NearIf : Option Entry → Option Entry → Type 0
NearIf None None = Unit {0}
NearIf None (Some f) = ⊥
NearIf (Some e) None = ⊥
NearIf (Some e) (Some f) = (e.0 ≡ f.0) × Near e.1 f.1

-- ---- keys Mcu.Pin<k>

abbrev pub pinned_by : Option ℕ → List ℕ → List (ℕ × List ℕ)
pinned_by None value = []
pinned_by (Some k) value = (k, value) ∷ []

-- k and the value of each
abbrev pub pinned : List Entry → List (ℕ × List ℕ)
pinned [] = []
pinned (e ∷ es) = pinned_by (pin_number e.0) e.1 ++ pinned es

-- each put in its place by k
abbrev pub inserted : List (ℕ × List ℕ) → List (ℕ × List ℕ) → List (ℕ × List ℕ)
inserted placed [] = placed
inserted placed (e ∷ es) = inserted (insert_entry nat_cmp placed e.0 e.1) es

-- their values, with k ascending
abbrev pub pin_values : List Entry → List (List ℕ)
pin_values es = map (λ (e : ℕ × List ℕ). e.1) (inserted [] (pinned es))
