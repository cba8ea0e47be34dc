-- What each member that is read keeps, by its form.
use Rattle.std.proofs.Common.{◌≡◌, ℕ, ◌≤◌, ◌+◌, List, [], ◌∷◌, ◌++◌, length, Bool, true, false, Option, Some, None, Result, Ok, Err, refl, ap, subst, arith, ◌⊎◌, inl, inr, ◌&&◌, ◌||◌, leb-true}
use Rattle.std.specs.Prelude.{nat_le, ◌==◌, option_and_then, find, if◌then◌else◌, decimal}
use Rattle.std.specs.List.{list_any, list_all}
use Rattle.std.proofs.lemmas.Grind.{common_steps}
use Rattle.res_base.specs.Lists.{Each, Member, Pairwise}
use Rattle.res_base.proofs.ListLemmas.{each_map, each_push, pairs_push}
use Rattle.res_model.specs.Steps.{◌>>=◌}
use Rattle.table_members.specs.Json.{inside, word, is_word, is_printing, number, two, entries}
use Rattle.table_members.specs.Forms.{below, due, must, fresh, need, may, nested, text, number_within, number_among, pair_within, counted, list, entries_after}
use Rattle.res_model.specs.Valid.{IsText, IsPrinting, IsRange}
use Rattle.serde_json.specs.Data.{Data}
use Rattle.serde_json.specs.Find.{as_str}
use Rattle.table_members.specs.declared.fault.TableFault.{TableFault}
use Rattle.table_members.specs.declared.fault.TableFault.TheVariants.{BadField}

-- ---- steps

-- what a step gives on, where the whole gives something
pub bound : {A B E : Type 0} (r : Result A E) (f : A → Result B E) (y : B) → (r >>= f) ≡ Ok y → (x : A) × (r ≡ Ok x) × (f x ≡ Ok y)
bound (Ok x) f y h = (x, refl, h)
bound (Err e) f y h = absurd cc

abbrev pub reads : {A : Type 0} → A → Result A TableFault
reads x = Ok x

pub same_ok : {A : Type 0} (x y : A) → reads x ≡ reads y → x ≡ y
same_ok x y h = cc

pub due_some : {X : Type 0} (fault : TableFault) (o : Option X) (x : X) → due fault o ≡ Ok x → o ≡ Some x
due_some fault None x h = absurd cc
due_some fault (Some y) x h = cc

pub must_holds : {X : Type 0} (fault : TableFault) (b : Bool) (x y : X) → must fault b x ≡ Ok y → (b ≡ true) × (x ≡ y)
must_holds fault true x y h = (refl, cc)
must_holds fault false x y h = absurd cc

pub fresh_new : {X : Type 0} (path : List ℕ) (b : Bool) (x y : X) → fresh path b x ≡ Ok y → (b ≡ false) × (x ≡ y)
fresh_new path true x y h = absurd cc
fresh_new path false x y h = (refl, cc)

pub need_keeps : {X : Type 0} (P : X → Type 0) (form : List ℕ → Data → Result X TableFault) (path : List ℕ) (found : Option Data) (x : X) → ((d : Data) → form path d ≡ Ok x → P x) → need form path found ≡ Ok x → P x
need_keeps P form path None x keeps h = absurd cc
need_keeps P form path (Some d) x keeps h = keeps d h

pub may_keeps : {X : Type 0} (P : X → Type 0) (form : List ℕ → Data → Result X TableFault) (absent : X) (path : List ℕ) (found : Option Data) (x : X) → P absent → ((d : Data) → form path d ≡ Ok x → P x) → may form absent path found ≡ Ok x → P x
may_keeps P form absent path None x here keeps h = subst P (same_ok absent x h) here
may_keeps P form absent path (Some d) x here keeps h = keeps d h

pub nested_keeps : {X : Type 0} (P : X → Type 0) (form : List ℕ → Data → Result X TableFault) (group key : List ℕ) (d : Data) (x : X) → ((path : List ℕ) (v : Data) → form path v ≡ Ok x → P x) → nested form group key d ≡ Ok x → P x
nested_keeps P form group key d x keeps h = need_keeps P form (below (below [] group) key) (inside group key d) x (λ v e. keeps (below (below [] group) key) v e) h

-- ---- tests

pub both : (a b : Bool) → (a && b) ≡ true → (a ≡ true) × (b ≡ true)
both true b h = (refl, h)
both false b h = absurd cc

pub neither : (a b : Bool) → (a || b) ≡ false → (a ≡ false) × (b ≡ false)
neither true b h = absurd cc
neither false b h = (refl, h)

pub between : (low n high : ℕ) → (nat_le low n && nat_le n high) ≡ true → (low ≤ n) × (n ≤ high)
between low n high h = let b = both (nat_le low n) (nat_le n high) h in (leb-true low n b.0, leb-true n high b.1)

pub none_passes : {X : Type 0} (p : X → Bool) (xs : List X) → list_any p xs ≡ false → Each (λ x. p x ≡ false) xs
none_passes p [] h = tt
none_passes p (x ∷ xs) h = let n = neither (p x) (list_any p xs) h in (n.0, none_passes p xs n.1)

pub each_passes : {X : Type 0} (p : X → Bool) (xs : List X) → list_all p xs ≡ true → Each (λ x. p x ≡ true) xs
each_passes p [] h = tt
each_passes p (x ∷ xs) h = let b = both (p x) (list_all p xs) h in (b.0, each_passes p xs b.1)

pub found_member : (n : ℕ) (these : List ℕ) (x : ℕ) → find (λ y. y == n) these ≡ Some x → Member x these
found_member n [] x h = absurd cc
found_member n (y ∷ ys) x h =
    elim (y == n) as (λ b. (if b then Some y else find (λ z. z == n) ys) ≡ Some x → (x ≡ y) ⊎ Member x ys) [
      | true ↦ λ e. inl cc
      | false ↦ λ e. inr (found_member n ys x e)
    ] h

-- ---- texts

pub is_text : (w : List ℕ) → is_word w ≡ true → IsText w
unfolding is_word
is_text w h =
    let a = both (nat_le 1 (length w) && nat_le (length w) 64) (list_all is_printing w) h in
    let n = between 1 (length w) 64 a.0 in
    record { some_byte = n.0; short = n.1; printing = each_map (λ b. is_printing b ≡ true) IsPrinting w (λ b e. between 33 b 126 e) (each_passes is_printing w a.1) }

word_of : (o : Option (List ℕ)) (w : List ℕ) → option_and_then (λ s. if is_word s then Some s else None) o ≡ Some w → IsText w
word_of None w h = absurd cc
word_of (Some s) w h =
    elim (is_word s) as (λ b. is_word s ≡ b → (if b then Some s else None) ≡ Some w → IsText w) [
      | true ↦ λ t e. let same : s ≡ w = cc in subst IsText same (is_text s t)
      | false ↦ λ t e. absurd cc
    ] refl h

pub word_text : (d : Data) (w : List ℕ) → word d ≡ Some w → IsText w
unfolding word
word_text d w h = word_of (as_str d) w h

pub text_keeps : (path : List ℕ) (d : Data) (w : List ℕ) → text path d ≡ Ok w → IsText w
unfolding text
text_keeps path d w h = word_text d w (due_some (BadField path) (word d) w h)

-- ---- numbers

pub number_keeps : (low high : ℕ) (path : List ℕ) (d : Data) (n : ℕ) → number_within low high path d ≡ Ok n → (low ≤ n) × (n ≤ high)
unfolding number_within
number_keeps low high path d n h =
    let b = bound (due (BadField path) (number d)) _ n h in
    let m = must_holds (BadField path) (nat_le low b.0 && nat_le b.0 high) b.0 n b.2 in
    subst (λ (k : ℕ). (low ≤ k) × (k ≤ high)) m.1 (between low b.0 high m.0)

pub among_keeps : (these path : List ℕ) (d : Data) (n : ℕ) → number_among these path d ≡ Ok n → Member n these
unfolding number_among
among_keeps these path d n h =
    let b = bound (due (BadField path) (number d)) _ n h in
    found_member b.0 these n (due_some (BadField path) (find (λ x. x == b.0) these) n b.2)

pub pair_keeps : (low high : ℕ) (path : List ℕ) (d : Data) (p : ℕ × ℕ) → pair_within low high path d ≡ Ok p → IsRange low high p
unfolding pair_within
pair_keeps low high path d p h =
    let a = bound (due (BadField path) (two d)) _ p h in
    let b = bound (due (BadField path) (number a.0.0)) _ p a.2 in
    let c = bound (due (BadField path) (number a.0.1)) _ p b.2 in
    let m = must_holds (BadField path) (nat_le low b.0 && nat_le b.0 c.0 && nat_le c.0 high) (b.0, c.0) p c.2 in
    let t = both (nat_le low b.0 && nat_le b.0 c.0) (nat_le c.0 high) m.0 in
    let r = between low b.0 c.0 t.0 in
    let fine : IsRange low high (b.0, c.0) = record { least = r.0; ordered = r.1; greatest = leb-true c.0 high t.1 } in
    subst (IsRange low high) m.1 fine

-- ---- lists

-- what holds of no entries, and with each further one, holds of all
pub entries_keep : {X : Type 0} (I : List X → Type 0) (entry : List X → List ℕ → Data → Result X TableFault) (path : List ℕ)
    → ((before : List X) (at : List ℕ) (d : Data) (x : X) → I before → entry before at d ≡ Ok x → I (before ++ x ∷ []))
    → (before : List X) (ds : List Data) (xs : List X) → I before → entries_after entry path before ds ≡ Ok xs → I xs
entries_keep I entry path step before [] xs here h = subst I (same_ok before xs h) here
entries_keep I entry path step before (d ∷ ds) xs here h =
    let b = bound (entry before (below path (decimal (length before))) d) _ xs h in
    entries_keep I entry path step (before ++ b.0 ∷ []) ds xs (step before (below path (decimal (length before))) d b.0 here b.1) b.2

pub entries_long : {X : Type 0} (entry : List X → List ℕ → Data → Result X TableFault) (path : List ℕ) (before : List X) (ds : List Data) (xs : List X) → entries_after entry path before ds ≡ Ok xs → length xs ≡ length before + length ds
entries_long entry path before [] xs h = let e = ap length (same_ok before xs h) in omega arith
entries_long entry path before (d ∷ ds) xs h =
    let b = bound (entry before (below path (decimal (length before))) d) _ xs h in
    let e = entries_long entry path (before ++ b.0 ∷ []) ds xs b.2 in
    grind (arith, common_steps)

pub record Kept {X : Type 0} (I : List X → Type 0) (least most : ℕ) (xs : List X) : Type 0 where
  pub low : least ≤ length xs
  pub high : length xs ≤ most
  pub kept : I xs

pub list_keeps : {X : Type 0} (I : List X → Type 0) (least most : ℕ) (entry : List X → List ℕ → Data → Result X TableFault) (path : List ℕ) (d : Data) (xs : List X)
    → I [] → ((before : List X) (at : List ℕ) (v : Data) (x : X) → I before → entry before at v ≡ Ok x → I (before ++ x ∷ []))
    → list least most entry path d ≡ Ok xs → Kept I least most xs
unfolding list counted
list_keeps I least most entry path d xs here step h =
    let c = bound (counted least most path d) _ xs h in
    let e = bound (due (BadField path) (entries d)) _ c.0 c.1 in
    let m = must_holds (BadField path) (nat_le least (length e.0) && nat_le (length e.0) most) e.0 c.0 e.2 in
    let r = between least (length e.0) most m.0 in
    let same : length e.0 ≡ length c.0 = ap length m.1 in
    let long : length xs ≡ 0 + length c.0 = entries_long entry path [] c.0 xs c.2 in
    record { low = omega (arith, r.0, same, long); high = omega (arith, r.1, same, long); kept = entries_keep I entry path step [] c.0 xs here c.2 }

-- each keeps P, and any two keep R
abbrev pub AreKept : {X : Type 0} → (X → Type 0) → (X → X → Type 0) → List X → Type 0
AreKept P R xs = Each P xs × Pairwise R xs

-- one more
pub one_more : {X : Type 0} (P : X → Type 0) (R : X → X → Type 0) (xs : List X) (x : X) → AreKept P R xs → P x → Each (λ y. R y x) xs → AreKept P R (xs ++ x ∷ [])
one_more P R xs x h p r = (each_push P xs x h.0 p, pairs_push R xs x h.1 r)
