-- Files in memory, and how often each has failed.
use Rattle.std.specs.Prelude.{ℕ, List, [], Option, Some, None, position, slice_get, slice_index, option_map, option_and_then, unwrap_or}
use Rattle.std.specs.Str.{bytes_eq}
use Rattle.res_io.specs.declared.memory.MemFile.{MemFile}

-- the place of a name: the first of two equal names counts
abbrev pub place_in : List MemFile → List ℕ → Option ℕ
place_in files name = position (λ f. bytes_eq f.name name) files

-- the bytes at a place
abbrev pub bytes_at : List MemFile → ℕ → Option (List ℕ)
bytes_at files place = option_map (λ f. f.bytes) (slice_get files place)

-- the bytes of a name
abbrev pub bytes_in : List MemFile → List ℕ → Option (List ℕ)
bytes_in files name = option_and_then (bytes_at files) (place_in files name)

-- what a place has, and nothing at a place beyond the files
abbrev pub bytes_from : List MemFile → ℕ → List ℕ
bytes_from files place = unwrap_or (bytes_at files place) []

-- the count of a file, or of all other names together; a count that is not there is 0
abbrev pub count_at : List ℕ → ℕ → Option ℕ → ℕ
count_at counts others None = others
count_at counts others (Some i) = slice_index counts i
