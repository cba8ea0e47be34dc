-- Those that compete, by their places.
use Rattle.std.proofs.Common.{◌≡◌, ℕ, zero, suc, ◌+◌, ◌-◌, ◌<◌, ◌≤◌, ◌==◌, ◌++◌, List, [], ◌∷◌, length, get_or, take, drop, Bool, true, false, ◌&&◌, ◌||◌, cond, Option, inl, inr, refl, sym, subst, ap, ◌∙◌, arith}
use mathlib.Core.Path.{fun_ext}
use Rattle.std.specs.Prelude.{option_map}
use Rattle.std.specs.List.{list_any}
use Rattle.std.proofs.lemmas.List.{drop_all, take_all}
use Rattle.res_base.specs.declared.var_set.VarSet.{VarSet}
use Rattle.res_base.specs.Lists.{Each}
use Rattle.res_base.specs.VarSet.{in_set, IsWords}
use Rattle.res_base.proofs.VarSetLemmas.{same_set}
use Rattle.res_base.proofs.SumLemmas.{le_or}
use Rattle.box_split.specs.BoxIn.{runs_in}
use Rattle.box_split.specs.Boxes.{Run}
use Rattle.pin_match.specs.Hall.{any_below}
use Rattle.pin_match.specs.Largest.{hall_of, set_where}
use Rattle.pin_match.specs.Sets.{fits_in}
use Rattle.pin_match.proofs.WordLemmas.{set_test, set_words}
use Rattle.pin_match.proofs.SetLemmas as sets
use Rattle.res_model.specs.declared.table.PinUse.{PinUse}
use Rattle.res_model.specs.declared.table.TableParts.{TableParts}
use Rattle.search_api.specs.declared.verdict.Class.{Class}
use Rattle.box_rules.specs.Contest.{Contestant, competes, contestants, hall_in, joined, members_of, named, resource_of, uses_in, variable_at, wants}
use Rattle.box_rules.specs.Inside.{AreInside}

abbrev pub no_run : Run
no_run = record { low = 0; high = 0 }

pub as_many : (class : Class) (v s : ℕ) (uses : List (List PinUse)) (rs : List Run) → AreInside uses rs → length (contestants class v uses rs) ≡ length (members_of class s uses)
as_many class v s [] rs h = refl
as_many class v s (us ∷ uss) [] h = absurd h
as_many class v s (us ∷ uss) (r ∷ rs) h = case (competes class us) (as_many class (v + 1) (s + 1) uss rs h.1)
  where
    case : (b : Bool) → length (contestants class (v + 1) uss rs) ≡ length (members_of class (s + 1) uss)
        → length (joined b record { variable = v; uses = uses_in us r } (contestants class (v + 1) uss rs)) ≡ length (cond b (s ∷ members_of class (s + 1) uss) (members_of class (s + 1) uss))
    case true e = ap suc e
    case false e = e

-- the contestant at a place is the signal that the member there says
pub record IsMember (t : TableParts) (class : Class) (v s : ℕ) (uses : List (List PinUse)) (rs : List Run) (cs : List Contestant) (m i : ℕ) : Type 0 where
  pub low : s ≤ m
  pub within : m - s < length uses
  pub variable : variable_at cs i ≡ v + (m - s)
  pub wanted : (r : ℕ) → wants t class cs i r ≡ list_any (λ u. resource_of t class u == r) (uses_in (get_or uses (m - s) []) (get_or rs (m - s) no_run))

further : (t : TableParts) (class : Class) (v s : ℕ) (us : List PinUse) (uss : List (List PinUse)) (r : Run) (rs : List Run) (cs ds : List Contestant) (m i j : ℕ) → variable_at ds j ≡ variable_at cs i → ((q : ℕ) → wants t class ds j q ≡ wants t class cs i q) → IsMember t class (v + 1) (s + 1) uss rs cs m i → IsMember t class v s (us ∷ uss) (r ∷ rs) ds m j
further t class v s us uss r rs cs ds m i j e w h =
    let one : m - s ≡ suc (m - (s + 1)) = omega (arith, h.low) in
    record {
      low = omega (arith, h.low);
      within = omega (arith, h.low, h.within);
      variable = omega (arith, e, h.variable, h.low);
      wanted = λ q. w q ∙ h.wanted q ∙ ap (λ (k : ℕ). list_any (λ u. resource_of t class u == q) (uses_in (get_or (us ∷ uss) k []) (get_or (r ∷ rs) k no_run))) (sym one);
    }

pub member : (t : TableParts) (class : Class) (v s : ℕ) (uses : List (List PinUse)) (rs : List Run) → AreInside uses rs → (i : ℕ) → i < length (contestants class v uses rs) → IsMember t class v s uses rs (contestants class v uses rs) (get_or (members_of class s uses) i 0) i
member t class v s [] rs h i l = absurd (omega arith)
member t class v s (us ∷ uss) [] h i l = absurd h
member t class v s (us ∷ uss) (r ∷ rs) h i l = case (competes class us) i l (member t class (v + 1) (s + 1) uss rs h.1)
  where
    case : (b : Bool) (i : ℕ) → i < length (joined b record { variable = v; uses = uses_in us r } (contestants class (v + 1) uss rs))
        → ((j : ℕ) → j < length (contestants class (v + 1) uss rs) → IsMember t class (v + 1) (s + 1) uss rs (contestants class (v + 1) uss rs) (get_or (members_of class (s + 1) uss) j 0) j)
        → IsMember t class v s (us ∷ uss) (r ∷ rs) (joined b record { variable = v; uses = uses_in us r } (contestants class (v + 1) uss rs)) (get_or (cond b (s ∷ members_of class (s + 1) uss) (members_of class (s + 1) uss)) i 0) i
    case true zero l rest =
        let none : s - s ≡ 0 = omega arith in
        record {
          low = omega arith;
          within = omega arith;
          variable = omega arith;
          wanted = λ q. ap (λ (k : ℕ). list_any (λ u. resource_of t class u == q) (uses_in (get_or (us ∷ uss) k []) (get_or (r ∷ rs) k no_run))) (sym none);
        }
    case true (suc i) l rest = further t class v s us uss r rs (contestants class (v + 1) uss rs) (record { variable = v; uses = uses_in us r } ∷ contestants class (v + 1) uss rs) (get_or (members_of class (s + 1) uss) i 0) i (suc i) refl (λ q. refl) (rest i (omega (arith, l)))
    case false i l rest = further t class v s us uss r rs (contestants class (v + 1) uss rs) (contestants class (v + 1) uss rs) (get_or (members_of class (s + 1) uss) i 0) i i refl (λ q. refl) (rest i l)

-- ---- runs by their places

pub run_at : (n : ℕ) (lo hi : List ℕ) (k : ℕ) → k < n → n ≤ length lo → n ≤ length hi → get_or (runs_in n lo hi) k no_run ≡ record { low = get_or lo k 0; high = get_or hi k 0 }
run_at zero lo hi k l p q = absurd (omega arith)
run_at (suc n) [] hi k l p q = absurd (omega arith)
run_at (suc n) (x ∷ lo) [] k l p q = absurd (omega arith)
run_at (suc n) (x ∷ lo) (y ∷ hi) zero l p q = refl
run_at (suc n) (x ∷ lo) (y ∷ hi) (suc k) l p q = run_at n lo hi k (omega arith) (omega arith) (omega arith)

pub inside_at : (uses : List (List PinUse)) (rs : List Run) (k : ℕ) → AreInside uses rs → k < length uses → ((get_or rs k no_run).low ≤ (get_or rs k no_run).high) × ((get_or rs k no_run).high < length (get_or uses k []))
inside_at [] rs k h l = absurd (omega arith)
inside_at (us ∷ uss) [] k h l = absurd h
inside_at (us ∷ uss) (r ∷ rs) zero h l = h.0
inside_at (us ∷ uss) (r ∷ rs) (suc k) h l = inside_at uss rs k h.1 (omega arith)

each_drop : (P : PinUse → Type 0) (k : ℕ) (us : List PinUse) → Each P us → Each P (drop k us)
each_drop P zero us h = h
each_drop P (suc k) [] h = tt
each_drop P (suc k) (u ∷ us) h = each_drop P k us h.1

each_take : (P : PinUse → Type 0) (k : ℕ) (us : List PinUse) → Each P us → Each P (take k us)
each_take P zero us h = tt
each_take P (suc k) [] h = tt
each_take P (suc k) (u ∷ us) h = (h.0, each_take P k us h.1)

each_at : (P : PinUse → Type 0) (uses : List (List PinUse)) (k : ℕ) → Each (Each P) uses → Each P (get_or uses k [])
each_at P [] k h = tt
each_at P (us ∷ uss) zero h = h.0
each_at P (us ∷ uss) (suc k) h = each_at P uss k h.1

pub each_in_run : (P : PinUse → Type 0) (uses : List (List PinUse)) (k : ℕ) (r : Run) → Each (Each P) uses → Each P (uses_in (get_or uses k []) r)
each_in_run P uses k r h = each_take P (r.high + 1 - r.low) (drop r.low (get_or uses k [])) (each_drop P r.low (get_or uses k []) (each_at P uses k h))

-- ---- the sets are what is wanted

past_fits : (ss : List VarSet) (i : ℕ) → length ss ≤ i → ◌≡◌ {A = ℕ → Bool} (fits_in ss i) (λ r. false)
unfolding fits_in
past_fits [] i l = refl
past_fits (s ∷ ss) zero l = absurd (omega arith)
past_fits (s ∷ ss) (suc i) l = past_fits ss i (omega arith)

past_wants : (t : TableParts) (class : Class) (cs : List Contestant) (i : ℕ) → length cs ≤ i → ◌≡◌ {A = ℕ → Bool} (wants t class cs i) (λ r. false)
past_wants t class [] i l = refl
past_wants t class (c ∷ cs) zero l = absurd (omega arith)
past_wants t class (c ∷ cs) (suc i) l = past_wants t class cs i (omega arith)

pub all_filled : (t : TableParts) (class : Class) (ss : List VarSet) (cs : List Contestant) → length ss ≡ length cs → ((i : ℕ) → i < length cs → (r : ℕ) → in_set (get_or ss i sets.nothing) r ≡ wants t class cs i r) → fits_in ss ≡ wants t class cs
all_filled t class ss cs n h = fun_ext (λ i. elim (le_or i (length cs)) [
  | inl l ↦ sets.fits_at ss i (omega (arith, l, n)) ∙ fun_ext (h i l)
  | inr l ↦ past_fits ss i (omega (arith, l, n)) ∙ sym (past_wants t class cs i l)
])

-- the set at a place is that of its member
abbrev pub IsFilled : TableParts → Class → List VarSet → List ℕ → List (List PinUse) → List ℕ → List ℕ → ℕ → Type 0
IsFilled t class ss ms uses lo hi k =
    (r : ℕ) → in_set (get_or ss k sets.nothing) r ≡ list_any (λ u. resource_of t class u == r) (uses_in (get_or uses (get_or ms k 0) []) record { low = get_or lo (get_or ms k 0) 0; high = get_or hi (get_or ms k 0) 0 })

module _ (t : TableParts) (class : Class) (uses : List (List PinUse)) (lo hi : List ℕ) (l : length uses ≤ length lo) (h : length uses ≤ length hi) (inside : AreInside uses (runs_in (length uses) lo hi)) where
  pub member_within : (ms : List ℕ) → ms ≡ members_of class 0 uses → (i : ℕ) → i < length ms → get_or ms i 0 < length uses
  member_within ms is i k =
      let rs = runs_in (length uses) lo hi in
      let n : length (contestants class 0 uses rs) ≡ length ms = as_many class 0 0 uses rs inside ∙ ap length (sym is) in
      let m = member t class 0 0 uses rs inside i (omega (arith, k, n)) in
      subst (λ (l : List ℕ). get_or l i 0 < length uses) (sym is) (omega (arith, m.within))

  pub filled : (ss : List VarSet) (ms : List ℕ) → ms ≡ members_of class 0 uses → length ss ≡ length ms → ((k : ℕ) → k < length ms → IsFilled t class ss ms uses lo hi k) → (v : ℕ) → fits_in ss ≡ wants t class (contestants class v uses (runs_in (length uses) lo hi))
  filled ss ms is n inv v =
      let rs = runs_in (length uses) lo hi in
      let many : length (contestants class v uses rs) ≡ length ms = as_many class v 0 uses rs inside ∙ ap length (sym is) in
      all_filled t class ss (contestants class v uses rs) (n ∙ sym many) (λ i k r.
      let m = member t class v 0 uses rs inside i k in
      let here : i < length ms = omega (arith, k, many) in
      let place : get_or (members_of class 0 uses) i 0 - 0 ≡ get_or ms i 0 = omega (arith, ap (λ (l : List ℕ). get_or l i 0) is) in
      let run = run_at (length uses) lo hi (get_or ms i 0) (member_within ms is i here) l h in
      inv i here r
      ∙ ap (λ (q : Run). list_any (λ u. resource_of t class u == r) (uses_in (get_or uses (get_or ms i 0) []) q)) (sym run)
      ∙ ap (λ (j : ℕ). list_any (λ u. resource_of t class u == r) (uses_in (get_or uses j []) (get_or rs j no_run))) (sym place)
      ∙ sym (m.wanted r))

pub few_members : (class : Class) (s : ℕ) (uses : List (List PinUse)) → length (members_of class s uses) ≤ length uses
few_members class s [] = omega arith
few_members class s (us ∷ uss) = case (competes class us) (few_members class (s + 1) uss)
  where
    case : (b : Bool) → length (members_of class (s + 1) uss) ≤ length uss → length (cond b (s ∷ members_of class (s + 1) uss) (members_of class (s + 1) uss)) ≤ suc (length uss)
    case true h = omega (arith, h)
    case false h = omega (arith, h)

any_same : (n : ℕ) (p q : ℕ → Bool) → ((i : ℕ) → i < n → p i ≡ q i) → any_below n p ≡ any_below n q
any_same zero p q h = refl
any_same (suc n) p q h = ap (λ b. b || p n) (any_same n p q (λ i l. h i (omega arith))) ∙ ap (λ b. any_below n q || b) (h n (omega arith))

module _ (t : TableParts) (class : Class) (first : ℕ) (uses : List (List PinUse)) (rs : List Run) (inside : AreInside uses rs) (ms : List ℕ) (is : ms ≡ members_of class 0 uses) where
  pub count : length (contestants class first uses rs) ≡ length ms
  count = as_many class first 0 uses rs inside ∙ ap length (sym is)

  pub variable_is : (i : ℕ) → i < length ms → variable_at (contestants class first uses rs) i ≡ first + get_or ms i 0
  variable_is i l =
      let m = member t class first 0 uses rs inside i (omega (arith, l, count)) in
      omega (arith, m.variable, ap (λ (k : List ℕ). get_or k i 0) is)

  pub variable_small : first + length uses ≤ 192 → (i : ℕ) → i < length ms → first + get_or ms i 0 < 192
  variable_small few i l =
      let m = member t class first 0 uses rs inside i (omega (arith, l, count)) in
      omega (arith, m.within, few, ap (λ (k : List ℕ). get_or k i 0) is)

  -- the variables of the members at some places
  pub named_is : (s found : VarSet) → IsWords found → ((v : ℕ) → in_set found v ≡ any_below (length ms) (λ i. in_set s i && (first + get_or ms i 0 == v))) → found ≡ named (contestants class first uses rs) s
  unfolding named
  named_is s found words h =
      let cs = contestants class first uses rs in
      let p : ℕ → Bool = λ v. any_below (length cs) (λ i. in_set s i && (variable_at cs i == v)) in
      same_set found (set_where p) words (set_words p) (λ v l.
      h v
      ∙ any_same (length ms) (λ i. in_set s i && (first + get_or ms i 0 == v)) (λ i. in_set s i && (variable_at cs i == v)) (λ i k. ap (λ (x : ℕ). in_set s i && (x == v)) (sym (variable_is i k)))
      ∙ ap (λ (n : ℕ). any_below n (λ i. in_set s i && (variable_at cs i == v))) (sym count)
      ∙ sym (set_test p v l))

  -- what the matcher answers, as the answer for those that compete
  pub hall_is : (ss : List VarSet) → fits_in ss ≡ wants t class (contestants class first uses rs) → (o : Option VarSet) → o ≡ hall_of (length ms) 192 (fits_in ss) → (found : Option VarSet) → option_map (named (contestants class first uses rs)) o ≡ found → found ≡ hall_in t class (contestants class first uses rs)
  unfolding hall_in
  hall_is ss fit o e found f =
      let cs = contestants class first uses rs in
      sym f ∙ ap (λ (x : Option VarSet). option_map (named cs) x) (e ∙ ap (λ (g : ℕ → ℕ → Bool). hall_of (length ms) 192 g) fit ∙ ap (λ (n : ℕ). hall_of n 192 (wants t class cs)) (sym count))

-- what a vector holds after all of it was written
pub whole : (n : ℕ) (new items : List VarSet) → length new ≡ n → length items ≡ n → take n (new ++ drop (length new) items) ≡ new
whole n new items e f =
    let past : drop (length new) items ≡ [] = drop_all (length new) items (omega (arith, e, f)) in
    ap (λ (l : List VarSet). take n (new ++ l)) past ∙ ap (λ (l : List VarSet). take n l) (no_more new) ∙ take_all n new (omega (arith, e))
  where
    no_more : (l : List VarSet) → l ++ [] ≡ l
    no_more [] = refl
    no_more (x ∷ xs) = ap (λ (r : List VarSet). x ∷ r) (no_more xs)
