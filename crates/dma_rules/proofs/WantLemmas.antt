-- Words one by one, and what the requests that they name keep.
use Rattle.std.proofs.Common.{◌≡◌, ◌≢◌, ℕ, zero, suc, ◌+◌, ◌-◌, ◌<◌, ◌≤◌, List, [], ◌∷◌, ◌++◌, length, map, take, get_or, ◌||◌, Bool, true, false, Option, Some, None, cond, inl, inr, refl, sym, ap, subst, ◌∙◌, arith}
use Rattle.std.specs.Prelude.{find, option_map, MatchOption}
use Rattle.std.specs.List.{list_any}
use Rattle.std.specs.Str.{bytes_eq}
use Rattle.std.proofs.lemmas.Grind.{common_steps}
use Rattle.std.proofs.lemmas.List.{length-take-le, get_or-take, take_more}
use Rattle.std.proofs.lemmas.List.Folds.{list_any_at}
use Rattle.std.proofs.lemmas.Slice.Eq.{bytes_eq-Decides}
use Rattle.res_base.specs.Lists.{Each, Member, Pairwise}
use Rattle.res_base.proofs.ListLemmas.{each_in, each_map, each_push, pairs_push}
use Rattle.res_base.proofs.SumLemmas.{bool_cases}
use Rattle.res_model.proofs.PlaceLaws.{differ}
use Rattle.dma_model.specs.Requests.{AreRequests, IsRequest, IsRow}
use Rattle.dma_model.specs.declared.table.DmaRequest.{DmaRequest}
use Rattle.dma_model.specs.declared.table.DmaRow.{DmaRow}
use Rattle.choice_rank.specs.Choices.{IsShape}
use Rattle.choice_rank.specs.declared.variable.VarShape.{VarShape}
use Rattle.dma_rules.specs.Judged.{CanBeJudged, HasRows, IsStream}
use Rattle.dma_rules.specs.Lawful.{shape_is}
use Rattle.dma_rules.specs.Streams.{shape_of}
use Rattle.dma_rules.specs.Wanted.{AreWanted, IsAsked, IsBad, IsFirstBad, IsRepeated, IsWant, NamesNone, word_at}

-- ---- texts

equal : (a b : List ℕ) → bytes_eq a b ≡ true → a ≡ b
equal a b h = grind (arith, common_steps, bytes_eq-Decides a b)

same_text : (a b : List ℕ) → a ≡ b → bytes_eq a b ≡ true
same_text a b e = grind (arith, common_steps, bytes_eq-Decides a b)

contradict : {A : Type 0} (b : Bool) → b ≡ true → b ≡ false → A
contradict b e f = let q : true ≡ false = sym e ∙ f in cc

-- ---- a request of a name

found_names : (table : List DmaRequest) (name : List ℕ) (r : DmaRequest) → find (λ s. bytes_eq s.name name) table ≡ Some r → (r.name ≡ name) × Member r table
found_names [] name r h = absurd cc
found_names (s ∷ ss) name r h =
    elim (bytes_eq s.name name) as (λ b. bytes_eq s.name name ≡ b → cond b (Some s) (find (λ t. bytes_eq t.name name) ss) ≡ Some r → (r.name ≡ name) × Member r (s ∷ ss)) [
      | true ↦ λ e k. let same : s ≡ r = cc (k) in (ap (λ (t : DmaRequest). t.name) (sym same) ∙ equal s.name name e, inl (sym same))
      | false ↦ λ e k. let rest = found_names ss name r k in (rest.0, inr rest.1)
    ] refl h

none_named : (table : List DmaRequest) (name : List ℕ) → find (λ s. bytes_eq s.name name) table ≡ None → NamesNone table name
none_named [] name h = tt
none_named (s ∷ ss) name h =
    elim (bytes_eq s.name name) as (λ b. bytes_eq s.name name ≡ b → cond b (Some s) (find (λ t. bytes_eq t.name name) ss) ≡ None → NamesNone (s ∷ ss) name) [
      | true ↦ λ e k. absurd cc
      | false ↦ λ e k. (differ s.name name e, none_named ss name k)
    ] refl h

-- ---- a word that was there before

second_of : (a b : Bool) → a ≡ false → (a || b) ≡ true → b ≡ true
second_of true b e h = cc
second_of false b e h = h

some_at : {X : Type 0} (p : X → Bool) (xs : List X) (d : X) → list_any p xs ≡ true → (i : ℕ) × (i < length xs) × (p (get_or xs i d) ≡ true)
some_at p [] d h = absurd cc
some_at p (x ∷ xs) d h = elim (bool_cases (p x)) [
  | inl e ↦ (0, omega arith, e)
  | inr e ↦ let rest = some_at p xs d (second_of (p x) (list_any p xs) e h) in (suc rest.0, omega (arith, rest.1), rest.2)
]

module _ (words : List (List ℕ)) (place : ℕ) (within : place < length words) where
  long : length (take place words) ≡ place
  long = length-take-le place words (omega (arith, within))

  pub is_repeated : list_any (λ w. bytes_eq w (word_at words place)) (take place words) ≡ true → IsRepeated words place
  is_repeated h =
      let s = some_at (λ w. bytes_eq w (word_at words place)) (take place words) [] h in
      let l : s.0 < place = omega (arith, s.1, long) in
      (s.0, l, sym (get_or-take place words s.0 [] l) ∙ equal (get_or (take place words) s.0 []) (word_at words place) s.2)

  pub is_new : list_any (λ w. bytes_eq w (word_at words place)) (take place words) ≡ false → IsRepeated words place → ⊥
  is_new h r =
      contradict (list_any (λ w. bytes_eq w (word_at words place)) (take place words))
      (list_any_at (λ w. bytes_eq w (word_at words place)) (take place words) r.0 [] (omega (arith, r.1, long)) (same_text (get_or (take place words) r.0 []) (word_at words place) (get_or-take place words r.0 [] r.1 ∙ r.2))) h

  -- what the request of a word's name says of the word
  pub asked : {X : Type 0} (look : X → DmaRequest) (table : List DmaRequest) (found : Option X)
      → list_any (λ w. bytes_eq w (word_at words place)) (take place words) ≡ false
      → option_map look found ≡ find (λ r. bytes_eq r.name (word_at words place)) table
      → MatchOption found (IsBad table words place) (λ x. IsAsked table words place (look x))
  asked look table None h e = inl (none_named table (word_at words place) (sym e))
  asked look table (Some x) h e =
      let f = found_names table (word_at words place) (look x) (sym e) in
      record { named = f.0; of_table = f.1; new = is_new h }

-- ---- one word more

word_of : (words : List (List ℕ)) (place : ℕ) → place < length words → take (place + 1) words ≡ take place words ++ word_at words place ∷ []
word_of words place l = take_more words place [] l

map_push : {X Y : Type 0} (f : X → Y) (xs : List X) (x : X) → map f (xs ++ x ∷ []) ≡ map f xs ++ f x ∷ []
map_push f [] x = refl
map_push {X} {Y} f (y ∷ ys) x = ap (λ (rest : List Y). f y ∷ rest) (map_push f ys x)

each_of : {X : Type 0} (P : X → Type 0) (xs : List X) (d : X) → ((i : ℕ) → i < length xs → P (get_or xs i d)) → Each P xs
each_of P [] d h = tt
each_of P (x ∷ xs) d h = (h 0 (omega arith), each_of P xs d (λ i l. h (suc i) (omega (arith, l))))

pub wanted_none : (table : List DmaRequest) (words : List (List ℕ)) → AreWanted table (take 0 words) []
wanted_none table words = record { named = refl; of_table = tt; differ = tt }

pub wanted_more : (table : List DmaRequest) (words : List (List ℕ)) (place : ℕ) (found more : List DmaRequest) (r : DmaRequest) → place < length words
    → AreWanted table (take place words) found → IsAsked table words place r → more ≡ found ++ r ∷ [] → AreWanted table (take (place + 1) words) more
wanted_more table words place found more r l w a e =
    let prefix = take place words in
    let word = word_at words place in
    let long : length prefix ≡ place = length-take-le place words (omega (arith, l)) in
    subst (λ (rs : List DmaRequest). AreWanted table (take (place + 1) words) rs) (sym e)
    (subst (λ (ws : List (List ℕ)). AreWanted table ws (found ++ r ∷ [])) (sym (word_of words place l)) record {
      named = map_push (λ (s : DmaRequest). s.name) found r ∙ ap (λ (ws : List (List ℕ)). ws ++ r.name ∷ []) w.named ∙ ap (λ (x : List ℕ). prefix ++ x ∷ []) a.named;
      of_table = each_push (λ (s : DmaRequest). Member s table) found r w.of_table a.of_table;
      differ = pairs_push ◌≢◌ prefix word w.differ (each_of (λ (x : List ℕ). x ≢ word) prefix [] (λ i k same. let m : i < place = omega (arith, k, long) in a.new (i, m, sym (get_or-take place words i [] m) ∙ same)));
    })

pub wanted_all : (table : List DmaRequest) (words : List (List ℕ)) (n : ℕ) (found : List DmaRequest) → length words ≤ n → AreWanted table (take n words) found → AreWanted table words found
wanted_all table words n found l w = subst (λ (ws : List (List ℕ)). AreWanted table ws found) (all n words l) w
  where
    all : (n : ℕ) (xs : List (List ℕ)) → length xs ≤ n → take n xs ≡ xs
    all zero [] l = refl
    all zero (x ∷ xs) l = absurd (omega arith)
    all (suc n) [] l = refl
    all (suc n) (x ∷ xs) l = ap (λ (ys : List (List ℕ)). x ∷ ys) (all n xs (omega (arith, l)))

-- ---- the first bad word

none_in : (table : List DmaRequest) (name : List ℕ) (r : DmaRequest) → NamesNone table name → Member r table → r.name ≢ name
none_in table name r n m = each_in (λ (s : DmaRequest). s.name ≢ name) r table n m

pair_at : (words : List (List ℕ)) (i j : ℕ) → Pairwise ◌≢◌ words → i < j → j < length words → get_or words i [] ≢ get_or words j []
pair_at [] i j p l k = absurd (omega arith)
pair_at (w ∷ ws) i zero p l k = absurd (omega arith)
pair_at (w ∷ ws) zero (suc j) p l k = at ws j p.0 (omega (arith, k))
  where
    at : (xs : List (List ℕ)) (j : ℕ) → Each (λ x. w ≢ x) xs → j < length xs → w ≢ get_or xs j []
    at [] j e k = absurd (omega arith)
    at (x ∷ xs) zero e k = e.0
    at (x ∷ xs) (suc j) e k = at xs j e.1 (omega (arith, k))
pair_at (w ∷ ws) (suc i) (suc j) p l k = pair_at ws i j p.1 (omega (arith, l)) (omega (arith, k))

name_at : (rs : List DmaRequest) (i : ℕ) (d : DmaRequest) → i < length rs → get_or (map (λ (r : DmaRequest). r.name) rs) i [] ≡ (get_or rs i d).name
name_at [] i d l = absurd (omega arith)
name_at (r ∷ rs) zero d l = refl
name_at (r ∷ rs) (suc i) d l = name_at rs i d (omega (arith, l))

each_at : {X : Type 0} (P : X → Type 0) (xs : List X) (i : ℕ) (d : X) → i < length xs → Each P xs → P (get_or xs i d)
each_at P [] i d l h = absurd (omega arith)
each_at P (x ∷ xs) zero d l h = h.0
each_at P (x ∷ xs) (suc i) d l h = each_at P xs i d (omega (arith, l)) h.1

length_map : {X Y : Type 0} (f : X → Y) (xs : List X) → length (map f xs) ≡ length xs
length_map f [] = refl
length_map f (x ∷ xs) = ap suc (length_map f xs)

-- a word among those that were wanted is not bad
not_bad : (table : List DmaRequest) (words : List (List ℕ)) (place : ℕ) (found : List DmaRequest) → place < length words → AreWanted table (take place words) found → (k : ℕ) → k < place → IsBad table words k → ⊥
not_bad table words place found l w k m bad =
    let long : length (take place words) ≡ place = length-take-le place words (omega (arith, l)) in
    let here = get_or-take place words k [] m in
    elim bad [
      | inl none ↦
          let many : length found ≡ place = sym (length_map (λ (r : DmaRequest). r.name) found) ∙ ap length w.named ∙ long in
          let inside : k < length found = omega (arith, m, many) in
          let d : DmaRequest = record { name = []; at = [] } in
          let r = get_or found k d in
          let name : r.name ≡ word_at words k = sym (name_at found k d inside) ∙ ap (λ (ws : List (List ℕ)). get_or ws k []) w.named ∙ here in
          none_in table (word_at words k) r none (each_at (λ (s : DmaRequest). Member s table) found k d inside w.of_table) name
      | inr again ↦
          let n : again.0 < place = omega (arith, again.1, m) in
          pair_at (take place words) again.0 k w.differ again.1 (omega (arith, m, long)) (get_or-take place words again.0 [] n ∙ again.2 ∙ sym here)
    ]

pub first_bad : (table : List DmaRequest) (words : List (List ℕ)) (place number : ℕ) (found : List DmaRequest) → place < length words → number ≡ place + 1 → AreWanted table (take place words) found → IsBad table words place → IsFirstBad table words number
first_bad table words place number found l e w bad =
    let back : number - 1 ≡ place = omega (arith, e) in
    record {
      counted = (omega (arith, e), omega (arith, e, l));
      bad = subst (IsBad table words) (sym back) bad;
      first = λ k m h. not_bad table words place found l w k (omega (arith, m, e)) h;
    }

-- ---- what wanted requests keep

others : {X Y : Type 0} (f : X → Y) (x : X) (xs : List X) → Each (λ (y : Y). f x ≢ y) (map f xs) → Each (λ (y : X). f x ≢ f y) xs
others f x [] h = tt
others f x (y ∷ ys) h = (h.0, others f x ys h.1)

pub pairs_map : {X Y : Type 0} (f : X → Y) (xs : List X) → Pairwise ◌≢◌ (map f xs) → Pairwise (λ (x y : X). f x ≢ f y) xs
pairs_map f [] h = tt
pairs_map f (x ∷ xs) h = (others f x xs h.0, pairs_map f xs h.1)

pub wanted_keep : (table : List DmaRequest) (words : List (List ℕ)) (rs : List DmaRequest) → AreRequests table → 1 ≤ length words → length words ≤ 16 → AreWanted table words rs → IsWant rs
wanted_keep table words rs t some few w =
    let many : length rs ≡ length words = sym (length_map (λ (r : DmaRequest). r.name) rs) ∙ ap length w.named in
    record {
      some = omega (arith, some, many);
      few = omega (arith, few, many);
      each = each_map (λ (r : DmaRequest). Member r table) IsRequest rs (λ r m. each_in IsRequest r table t.each m) w.of_table;
      names_differ = pairs_map (λ (r : DmaRequest). r.name) rs (subst (Pairwise ◌≢◌) (sym w.named) w.differ);
    }

stream_of_row : (r : DmaRow) → IsRow r → IsStream r
stream_of_row r h = record { low = h.controller.0; high = h.controller.1; stream = h.stream }

rows_of_request : (r : DmaRequest) → IsRequest r → HasRows r
rows_of_request r h = record { some = h.some_row; few = h.few_rows; streams = each_map IsRow IsStream r.at stream_of_row h.rows }

pub want_is_judged : (rs : List DmaRequest) → IsWant rs → CanBeJudged rs
want_is_judged rs w = record { few = w.few; rows = each_map IsRequest HasRows rs rows_of_request w.each }

-- the variables that were made of wanted requests
pub vars_shape : (vars : List VarShape) (read rs : List DmaRequest) → vars ≡ shape_of read → read ≡ rs → IsWant rs → IsShape vars
vars_shape vars read rs e f w = subst IsShape (sym (e ∙ ap shape_of f)) (shape_is rs (want_is_judged rs w))
