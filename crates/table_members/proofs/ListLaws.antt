-- What lists of texts and of numbers keep that are read entry by entry.
use Rattle.std.proofs.Common.{◌≡◌, ◌≢◌, ℕ, suc, ◌<◌, ◌≤◌, ◌-◌, List, [], ◌∷◌, ◌++◌, length, true, false, Option, Some, Ok, refl, subst, arith, ltb-true, eqb-true}
use Rattle.std.specs.Prelude.{◌==◌, nat_lt, slice_get}
use Rattle.std.specs.List.{list_any}
use Rattle.std.specs.Str.{bytes_eq}
use Rattle.std.proofs.lemmas.Grind.{common_steps}
use Rattle.res_base.specs.Lists.{Each, Member, Pairwise}
use Rattle.res_base.proofs.ListLemmas.{each_map}
use Rattle.table_members.specs.Json.{entries, number}
use Rattle.table_members.specs.Forms.{due, text, distinct_text, number_among, entries_after, is_above_last, is_above, above, next_among, some_among, one_among}
use Rattle.res_model.specs.Valid.{IsText, AreAmong}
use Rattle.res_model.proofs.PlaceLaws.{differ}
use Rattle.table_members.proofs.FormLaws.{bound, must_holds, fresh_new, none_passes, text_keeps, among_keeps, entries_keep, AreKept, one_more}
use Rattle.serde_json.specs.Data.{Data}
use Rattle.table_members.specs.declared.fault.TableFault.TheVariants.{BadField}

-- ---- distinct texts

abbrev pub DifferTexts : List ℕ → List ℕ → Type 0
DifferTexts a b = a ≢ b

pub distinct_keeps : (before : List (List ℕ)) (path : List ℕ) (d : Data) (w : List ℕ) → AreKept IsText DifferTexts before → distinct_text before path d ≡ Ok w → AreKept IsText DifferTexts (before ++ w ∷ [])
unfolding distinct_text
distinct_keeps before path d w kept h =
    let t = bound (text path d) _ w h in
    let f = fresh_new path (list_any (λ x. bytes_eq x t.0) before) t.0 w t.2 in
    one_more IsText DifferTexts before w kept (subst IsText f.1 (text_keeps path d t.0 t.1))
    (each_map (λ x. bytes_eq x t.0 ≡ false) (λ x. DifferTexts x w) before (λ x e. subst (λ (y : List ℕ). DifferTexts x y) f.1 (differ x t.0 e)) (none_passes (λ x. bytes_eq x t.0) before f.0))

-- ---- ascending lists

abbrev pub final : {X : Type 0} → X → List X → X
final x [] = x
final x (y ∷ ys) = final y ys

pub last_is : {X : Type 0} (x : X) (xs : List X) → slice_get (x ∷ xs) (length (x ∷ xs) - 1) ≡ Some (final x xs)
last_is x [] = refl
last_is x (y ∷ ys) =
    let e : length (x ∷ y ∷ ys) - 1 ≡ suc (length (y ∷ ys) - 1) = omega arith in
    rw e (last_is y ys)

-- n is above the end of each where it is above the last's, and each ends at its start or later
pub above_each : {X : Type 0} (start end : X → ℕ) (n : ℕ) (x : X) (xs : List X) → Each (λ y. start y ≤ end y) (x ∷ xs) → Pairwise (λ a b. end a < start b) (x ∷ xs) → end (final x xs) < n → Each (λ y. end y < n) (x ∷ xs)
above_each start end n x [] fits apart h = (h, tt)
above_each start end n x (y ∷ ys) fits apart h =
    let r = above_each start end n y ys fits.1 apart.1 h in
    (omega (arith, apart.0.0, fits.1.0, r.0), r)

self_fits : (xs : List ℕ) → Each (λ (x : ℕ). x ≤ x) xs
self_fits [] = tt
self_fits (x ∷ xs) = (omega arith, self_fits xs)

pub all_below : (ms : List ℕ) (n : ℕ) → Pairwise ◌<◌ ms → is_above ms n ≡ true → Each (λ (m : ℕ). m < n) ms
all_below [] n p h = tt
all_below (x ∷ xs) n p h =
    let e : is_above_last (Some (final x xs)) n ≡ true = subst (λ (o : Option ℕ). is_above_last o n ≡ true) (last_is x xs) h in
    above_each (λ (y : ℕ). y) (λ (y : ℕ). y) n x xs (self_fits (x ∷ xs)) p (ltb-true (final x xs) n e)

abbrev pub Ascend : ℕ → ℕ → Type 0
Ascend m n = m < n

abbrev pub Any : ℕ → Type 0
Any n = Unit {0}

pub above_keeps : (before path : List ℕ) (d : Data) (n : ℕ) → AreKept Any Ascend before → above before path d ≡ Ok n → AreKept Any Ascend (before ++ n ∷ [])
unfolding above
above_keeps before path d n kept h =
    let m = bound (due (BadField path) (number d)) _ n h in
    let t = must_holds (BadField path) (is_above before m.0) m.0 n m.2 in
    one_more Any Ascend before n kept tt (subst (λ (k : ℕ). Each (λ (x : ℕ). x < k) before) t.1 (all_below before m.0 kept.1 t.0))

next_keeps : (these before path : List ℕ) (d : Data) (n : ℕ) → AreKept (λ n. Member n these) Ascend before → next_among these before path d ≡ Ok n → AreKept (λ n. Member n these) Ascend (before ++ n ∷ [])
unfolding next_among
next_keeps these before path d n kept h =
    let m = bound (number_among these path d) _ n h in
    let t = must_holds (BadField path) (is_above before m.0) m.0 n m.2 in
    one_more (λ n. Member n these) Ascend before n kept (subst (λ (k : ℕ). Member k these) t.1 (among_keeps these path d m.0 m.1))
    (subst (λ (k : ℕ). Each (λ (x : ℕ). x < k) before) t.1 (all_below before m.0 kept.1 t.0))

are_among : (these path : List ℕ) (ds : List Data) (ns : List ℕ) → entries_after (next_among these) path [] ds ≡ Ok ns → AreAmong these ns
are_among these path ds ns h =
    let k = entries_keep (AreKept (λ n. Member n these) Ascend) (next_among these) path (next_keeps these) [] ds ns (tt, tt) h in
    record { known = k.0; ascending = k.1 }

pub record AreSome (these ns : List ℕ) : Type 0 where
  pub among : AreAmong these ns
  pub some : 1 ≤ length ns

pub record AreWithOne (these ns : List ℕ) : Type 0 where
  pub among : AreAmong these ns
  pub one : Member 1 ns

has_one : (ns : List ℕ) → list_any (λ n. n == 1) ns ≡ true → Member 1 ns
has_one [] h = absurd cc
has_one (n ∷ ns) h = grind (arith, common_steps, has_one ns, eqb-true n 1)

pub some_keep : (these path : List ℕ) (d : Data) (ns : List ℕ) → some_among these path d ≡ Ok ns → AreSome these ns
unfolding some_among
some_keep these path d ns h =
    let ds = bound (due (BadField path) (entries d)) _ ns h in
    let es = bound (entries_after (next_among these) path [] ds.0) _ ns ds.2 in
    let m = must_holds (BadField path) (nat_lt 0 (length es.0)) es.0 ns es.2 in
    let l = ltb-true 0 (length es.0) m.0 in
    let fine : AreSome these es.0 = record { among = are_among these path ds.0 es.0 es.1; some = omega (arith, l) } in
    subst (AreSome these) m.1 fine

pub one_keep : (these path : List ℕ) (d : Data) (ns : List ℕ) → one_among these path d ≡ Ok ns → AreWithOne these ns
unfolding one_among
one_keep these path d ns h =
    let ds = bound (due (BadField path) (entries d)) _ ns h in
    let es = bound (entries_after (next_among these) path [] ds.0) _ ns ds.2 in
    let m = must_holds (BadField path) (list_any (λ n. n == 1) es.0) es.0 ns es.2 in
    let fine : AreWithOne these es.0 = record { among = are_among these path ds.0 es.0 es.1; one = has_one es.0 m.0 } in
    subst (AreWithOne these) m.1 fine
