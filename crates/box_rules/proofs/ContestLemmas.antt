-- Those that compete in a box, beside the uses of a choice in it.
use Rattle.std.proofs.Common.{◌≡◌, ℕ, zero, suc, ◌+◌, ◌-◌, ◌<◌, ◌≤◌, ◌++◌, ◌==◌, List, [], ◌∷◌, length, get_or, drop, Bool, true, false, ◌&&◌, ◌||◌, not, leb, Option, refl, sym, subst, ap, ◌∙◌, arith}
use Rattle.std.specs.Prelude.{slice_get, slice_range}
use Rattle.std.specs.List.{list_all, list_any}
use Rattle.std.specs.Option.{option_to_list}
use Rattle.std.proofs.lemmas.Bool.Decides.{nat_tests}
use Rattle.std.proofs.lemmas.List.{get_or-take, get_or-drop, length-take, length-drop}
use Rattle.std.proofs.lemmas.List.Folds.{list_any_at, list_all_at}
use Rattle.std.proofs.lemmas.Option.{slice_get-get_or}
use Rattle.box_split.specs.Boxes.{Run, IsBox, LiesIn, is_single, lows}
use Rattle.choice_rank.specs.declared.variable.VarShape.{VarShape}
use Rattle.res_base.specs.Lists.{Each}
use Rattle.problem.specs.Problem.{HaveValues, are_alike}
use Rattle.res_model.specs.declared.table.PinUse.{PinUse}
use Rattle.res_model.specs.declared.table.TableParts.{TableParts}
use Rattle.res_model.specs.Placement.{is_exti, uses_at}
use Rattle.search_api.specs.declared.verdict.Class.{Class}
use Rattle.search_api.specs.declared.verdict.Class.TheVariants.{Pins, Exti}
use Rattle.box_rules.specs.Contest.{Contestant, competes, contestants, joined, resource_of, uses_in, variable_at, wants}
use Rattle.box_rules.specs.Inside.{AreInside}
use Rattle.box_rules.proofs.CountLemmas.{both}

-- ---- the variables ascend

pub least_variable : (class : Class) (v : ℕ) (uses : List (List PinUse)) (rs : List Run) (i : ℕ) → i < length (contestants class v uses rs) → v ≤ variable_at (contestants class v uses rs) i
least_variable class v [] rs i l = absurd (omega arith)
least_variable class v (us ∷ uss) [] i l = absurd (omega arith)
least_variable class v (us ∷ uss) (r ∷ rs) i l = case (competes class us) i l (least_variable class (v + 1) uss rs)
  where
    case : (b : Bool) (i : ℕ) → i < length (joined b record { variable = v; uses = uses_in us r } (contestants class (v + 1) uss rs)) → ((j : ℕ) → j < length (contestants class (v + 1) uss rs) → v + 1 ≤ variable_at (contestants class (v + 1) uss rs) j) → v ≤ variable_at (joined b record { variable = v; uses = uses_in us r } (contestants class (v + 1) uss rs)) i
    case true zero l rest = omega arith
    case true (suc i) l rest = omega (arith, rest i (omega arith))
    case false i l rest = omega (arith, rest i l)

pub apart_variables : (class : Class) (v : ℕ) (uses : List (List PinUse)) (rs : List Run) (i j : ℕ) → i < length (contestants class v uses rs) → j < length (contestants class v uses rs) → variable_at (contestants class v uses rs) i ≡ variable_at (contestants class v uses rs) j → i ≡ j
apart_variables class v [] rs i j l k e = absurd (omega arith)
apart_variables class v (us ∷ uss) [] i j l k e = absurd (omega arith)
apart_variables class v (us ∷ uss) (r ∷ rs) i j l k e = case (competes class us) i j l k e (least_variable class (v + 1) uss rs) (apart_variables class (v + 1) uss rs)
  where
    case : (b : Bool) (i j : ℕ) → i < length (joined b record { variable = v; uses = uses_in us r } (contestants class (v + 1) uss rs)) → j < length (joined b record { variable = v; uses = uses_in us r } (contestants class (v + 1) uss rs))
        → variable_at (joined b record { variable = v; uses = uses_in us r } (contestants class (v + 1) uss rs)) i ≡ variable_at (joined b record { variable = v; uses = uses_in us r } (contestants class (v + 1) uss rs)) j
        → ((j : ℕ) → j < length (contestants class (v + 1) uss rs) → v + 1 ≤ variable_at (contestants class (v + 1) uss rs) j)
        → ((i j : ℕ) → i < length (contestants class (v + 1) uss rs) → j < length (contestants class (v + 1) uss rs) → variable_at (contestants class (v + 1) uss rs) i ≡ variable_at (contestants class (v + 1) uss rs) j → i ≡ j) → i ≡ j
    case true zero zero l k e low rest = refl
    case true zero (suc j) l k e low rest = absurd (omega (arith, low j (omega arith), e))
    case true (suc i) zero l k e low rest = absurd (omega (arith, low i (omega arith), e))
    case true (suc i) (suc j) l k e low rest = ap suc (rest i j (omega arith) (omega arith) e)
    case false i j l k e low rest = rest i j l k e

-- ---- the runs lie within the values

pub box_inside : (vs : List VarShape) (uses : List (List PinUse)) (rs : List Run) → HaveValues vs uses → IsBox vs rs → AreInside uses rs
box_inside [] [] [] h b = tt
box_inside [] [] (r ∷ rs) h b = absurd b
box_inside [] (us ∷ uss) rs h b = absurd h
box_inside (v ∷ vs) [] rs h b = absurd h
box_inside (v ∷ vs) (us ∷ uss) [] h b = absurd b
box_inside (v ∷ vs) (us ∷ uss) (r ∷ rs) h b = ((b.0, omega (arith, b.1, h.0)), box_inside vs uss rs h.1 b.2)

-- ---- the uses of a choice

first_use : (us : List PinUse) (x : ℕ) (rest : List PinUse) (d : PinUse) → x < length us → option_to_list (slice_get us x) ++ rest ≡ get_or us x d ∷ rest
first_use us x rest d l = ap (λ (o : Option PinUse). option_to_list o ++ rest) (slice_get-get_or us x d l)

pub range_long : {X : Type 0} (us : List X) (low high : ℕ) → low ≤ high → high < length us → length (slice_range us low (high + 1)) ≡ high + 1 - low
range_long us low high o l = omega (arith, length-take (high + 1 - low) (drop low us), length-drop low us)

pub range_at : {X : Type 0} (us : List X) (low high x : ℕ) (d : X) → low ≤ x → x ≤ high → get_or (slice_range us low (high + 1)) (x - low) d ≡ get_or us x d
range_at us low high x d o l =
    let place : low + (x - low) ≡ x = omega arith in
    get_or-take (high + 1 - low) (drop low us) (x - low) d (omega arith) ∙ get_or-drop low us (x - low) d ∙ ap (λ (k : ℕ). get_or us k d) place

is_same : (n : ℕ) → (n == n) ≡ true
is_same n = grind (arith, nat_tests)

one_wanted : (f : PinUse → ℕ) (us : List PinUse) (low high x : ℕ) (d : PinUse) → low ≤ x → x ≤ high → high < length us → list_any (λ u. f u == f (get_or us x d)) (slice_range us low (high + 1)) ≡ true
one_wanted f us low high x d o l k =
    let long = range_long us low high (omega arith) k in
    list_any_at (λ u. f u == f (get_or us x d)) (slice_range us low (high + 1)) (x - low) d (omega (arith, long))
    (ap (λ (u : PinUse). f u == f (get_or us x d)) (range_at us low high x d o l) ∙ is_same (f (get_or us x d)))

all_at : (p : PinUse → Bool) (us : List PinUse) (x : ℕ) (d : PinUse) → x < length us → list_all p us ≡ true → p (get_or us x d) ≡ true
all_at p us x d l h = case (p (get_or us x d)) refl
  where
    case : (b : Bool) → p (get_or us x d) ≡ b → p (get_or us x d) ≡ true
    case true e = e
    case false e = let q : true ≡ false = sym h ∙ list_all_at p us x d l e in cc

-- what a single position wants is its own resource
only_of : (f : PinUse → ℕ) (us : List PinUse) (low high : ℕ) (d : PinUse) (r : ℕ) → low ≤ high → high ≤ low → high < length us → list_any (λ u. f u == r) (slice_range us low (high + 1)) ≡ true → f (get_or us low d) ≡ r
only_of f us low high d r o l k e = one (slice_range us low (high + 1)) (range_long us low high o k ∙ (omega arith)) (ap (λ (i : ℕ). get_or (slice_range us low (high + 1)) i d) zero_is ∙ range_at us low high low d (omega arith) o) e
  where
    zero_is : zero ≡ low - low
    zero_is = omega arith

    one : (ws : List PinUse) → length ws ≡ 1 → get_or ws 0 d ≡ get_or us low d → list_any (λ u. f u == r) ws ≡ true → f (get_or us low d) ≡ r
    one [] n g h = absurd (omega (arith, n))
    one (w ∷ []) n g h = case (f w == r) refl h
      where
        case : (b : Bool) → (f w == r) ≡ b → (b || false) ≡ true → f (get_or us low d) ≡ r
        case true q t = let s : f w ≡ r = grind (arith, nat_tests, q) in ap f (sym g) ∙ s
        case false q t = absurd cc
    one (w ∷ x ∷ ws) n g h = absurd (omega (arith, n))

-- ---- the one at a place, beside its use in a choice

-- the contestant at a place is the signal whose use is at another, and wants its resource; where each variable has one
-- position, it wants no other
pub record IsChosen (t : TableParts) (class : Class) (v : ℕ) (us : List PinUse) (cs : List Contestant) (single : Bool) (d : PinUse) (i : ℕ) : Type 0 where
  pub place : ℕ
  pub within : place < length us
  pub is : variable_at cs i ≡ v + place
  pub wanted : wants t class cs i (resource_of t class (get_or us place d)) ≡ true
  pub only : single ≡ true → (r : ℕ) → wants t class cs i r ≡ true → resource_of t class (get_or us place d) ≡ r
  pub competing : class ≡ Exti → is_exti (get_or us place d).mode ≡ true

module _ (t : TableParts) (class : Class) (d : PinUse) where
  later : (v : ℕ) (us : List PinUse) (u : PinUse) (c : Contestant) (cs : List Contestant) (a b : Bool) (i : ℕ) → IsChosen t class (v + 1) us cs b d i → IsChosen t class v (u ∷ us) (c ∷ cs) (a && b) d (suc i)
  later v us u c cs a b i h = record {
    place = suc h.place;
    within = omega (arith, h.within);
    is = omega (arith, h.is);
    wanted = h.wanted;
    only = λ e. h.only (both a b e).1;
    competing = h.competing;
  }

  passed : (v : ℕ) (us : List PinUse) (u : PinUse) (cs : List Contestant) (a b : Bool) (i : ℕ) → IsChosen t class (v + 1) us cs b d i → IsChosen t class v (u ∷ us) cs (a && b) d i
  passed v us u cs a b i h = record {
    place = suc h.place;
    within = omega (arith, h.within);
    is = omega (arith, h.is);
    wanted = h.wanted;
    only = λ e. h.only (both a b e).1;
    competing = h.competing;
  }

  lines_at : (us : List PinUse) (x : ℕ) → x < length us → competes class us ≡ true → class ≡ Exti → is_exti (get_or us x d).mode ≡ true
  lines_at us x l h e = all_at (λ u. is_exti u.mode) us x d l (subst (λ (k : Class). competes k us ≡ true) e h)

  pub chosen : (v : ℕ) (uses : List (List PinUse)) (rs : List Run) (choice : List ℕ) → AreInside uses rs → LiesIn rs choice → (i : ℕ) → i < length (contestants class v uses rs) → IsChosen t class v (uses_at uses choice) (contestants class v uses rs) (is_single rs) d i
  chosen v [] [] choice h o i l = absurd (omega arith)
  chosen v [] (r ∷ rs) choice h o i l = absurd h
  chosen v (us ∷ uss) [] choice h o i l = absurd h
  chosen v (us ∷ uss) (r ∷ rs) [] h o i l = absurd o
  chosen v (us ∷ uss) (r ∷ rs) (x ∷ xs) h o i l =
      let c : Contestant = record { variable = v; uses = uses_in us r } in
      let cs = contestants class (v + 1) uss rs in
      let all = uses_at uss xs in
      subst (λ (ws : List PinUse). IsChosen t class v ws (joined (competes class us) c cs) (leb r.high r.low && is_single rs) d i) (sym (first_use us x all d (omega (arith, o.1, h.0.1))))
      (case (competes class us) refl i l (chosen (v + 1) uss rs xs h.1 o.2))
    where
      case : (b : Bool) → competes class us ≡ b → (i : ℕ) → i < length (joined b record { variable = v; uses = uses_in us r } (contestants class (v + 1) uss rs))
          → ((j : ℕ) → j < length (contestants class (v + 1) uss rs) → IsChosen t class (v + 1) (uses_at uss xs) (contestants class (v + 1) uss rs) (is_single rs) d j)
          → IsChosen t class v (get_or us x d ∷ uses_at uss xs) (joined b record { variable = v; uses = uses_in us r } (contestants class (v + 1) uss rs)) (leb r.high r.low && is_single rs) d i
      case true e zero l rest = record {
        place = 0;
        within = omega arith;
        is = omega arith;
        wanted = one_wanted (resource_of t class) us r.low r.high x d o.0 o.1 h.0.1;
        only = λ s q w.
            let one : leb r.high r.low ≡ true = (both (leb r.high r.low) (is_single rs) s).0 in
            let same : r.high ≤ r.low = grind (arith, nat_tests, one) in
            let at : x ≡ r.low = omega (arith, same, o.0, o.1) in
            ap (λ (y : ℕ). resource_of t class (get_or us y d)) at ∙ only_of (resource_of t class) us r.low r.high d q h.0.0 same h.0.1 w;
        competing = lines_at us x (omega (arith, o.1, h.0.1)) e;
      }
      case true e (suc i) l rest = later v (uses_at uss xs) (get_or us x d) record { variable = v; uses = uses_in us r } (contestants class (v + 1) uss rs) (leb r.high r.low) (is_single rs) i (rest i (omega (arith, l)))
      case false e i l rest = passed v (uses_at uss xs) (get_or us x d) (contestants class (v + 1) uss rs) (leb r.high r.low) (is_single rs) i (rest i l)

  alike_at : (us : List PinUse) (x : ℕ) → x < length us → are_alike us ≡ true → is_exti (get_or us x d).mode ≡ true → list_all (λ (u : PinUse). is_exti u.mode) us ≡ true
  alike_at us x l h e = case (list_any (λ (u : PinUse). is_exti u.mode) us) (list_all (λ (u : PinUse). is_exti u.mode) us) (list_any_at (λ (u : PinUse). is_exti u.mode) us x d l e) h
    where
      case : (a b : Bool) → a ≡ true → (not a || b) ≡ true → b ≡ true
      case true b e h = h
      case false b e h = cc

-- one competes for what its use is
competes_at : (t : TableParts) (class : Class) (d : PinUse) (us : List PinUse) (x : ℕ) → x < length us → are_alike us ≡ true → (class ≡ Exti → is_exti (get_or us x d).mode ≡ true) → competes class us ≡ true
competes_at t Pins d us x l h e = refl
competes_at t Exti d us x l h e = alike_at t Exti d us x l h (e refl)

here : (v : ℕ) (one : Contestant) (cs : List Contestant) → one.variable ≡ v → (b : Bool) → b ≡ true → (i : ℕ) × (i < length (joined b one cs)) × (variable_at (joined b one cs) i ≡ v + 0)
here v one cs is true p = (0, omega arith, omega (arith, is))
here v one cs is false p = cc

there : (v : ℕ) (one : Contestant) (cs : List Contestant) (b : Bool) (k : ℕ) → ((i : ℕ) × (i < length cs) × (variable_at cs i ≡ v + 1 + k)) → (i : ℕ) × (i < length (joined b one cs)) × (variable_at (joined b one cs) i ≡ v + suc k)
there v one cs true k p = (suc p.0, omega (arith, p.1), omega (arith, p.2))
there v one cs false k p = (p.0, p.1, omega (arith, p.2))

module _ (t : TableParts) (class : Class) (d : PinUse) where
  -- each use that counts for the class is that of a contestant
  pub placed : (v : ℕ) (uses : List (List PinUse)) (rs : List Run) (choice : List ℕ) → AreInside uses rs → LiesIn rs choice → list_all are_alike uses ≡ true → (j : ℕ) → j < length (uses_at uses choice) → (class ≡ Exti → is_exti (get_or (uses_at uses choice) j d).mode ≡ true) → (i : ℕ) × (i < length (contestants class v uses rs)) × (variable_at (contestants class v uses rs) i ≡ v + j)
  placed v [] [] choice h o a j l e = absurd (omega arith)
  placed v [] (r ∷ rs) choice h o a j l e = absurd h
  placed v (us ∷ uss) [] choice h o a j l e = absurd h
  placed v (us ∷ uss) (r ∷ rs) [] h o a j l e = absurd o
  placed v (us ∷ uss) (r ∷ rs) (x ∷ xs) h o a j l e =
      let first : uses_at (us ∷ uss) (x ∷ xs) ≡ get_or us x d ∷ uses_at uss xs = first_use us x (uses_at uss xs) d (omega (arith, o.1, h.0.1)) in
      case j (subst (λ (ws : List PinUse). j < length ws) first l) (λ q. subst (λ (ws : List PinUse). is_exti (get_or ws j d).mode ≡ true) first (e q)) (placed (v + 1) uss rs xs h.1 o.2 (both (are_alike us) (list_all are_alike uss) a).1)
    where
      case : (j : ℕ) → j < length (get_or us x d ∷ uses_at uss xs) → (class ≡ Exti → is_exti (get_or (get_or us x d ∷ uses_at uss xs) j d).mode ≡ true)
          → ((k : ℕ) → k < length (uses_at uss xs) → (class ≡ Exti → is_exti (get_or (uses_at uss xs) k d).mode ≡ true) → (i : ℕ) × (i < length (contestants class (v + 1) uss rs)) × (variable_at (contestants class (v + 1) uss rs) i ≡ v + 1 + k))
          → (i : ℕ) × (i < length (joined (competes class us) record { variable = v; uses = uses_in us r } (contestants class (v + 1) uss rs))) × (variable_at (joined (competes class us) record { variable = v; uses = uses_in us r } (contestants class (v + 1) uss rs)) i ≡ v + j)
      case zero l e rest = here v record { variable = v; uses = uses_in us r } (contestants class (v + 1) uss rs) refl (competes class us) (competes_at t class d us x (omega (arith, o.1, h.0.1)) (both (are_alike us) (list_all are_alike uss) a).0 e)
      case (suc k) l e rest = there v record { variable = v; uses = uses_in us r } (contestants class (v + 1) uss rs) (competes class us) k (rest k (omega (arith, l)) e)

-- ---- bounds

pub most_variable : (class : Class) (v : ℕ) (uses : List (List PinUse)) (rs : List Run) (i : ℕ) → i < length (contestants class v uses rs) → variable_at (contestants class v uses rs) i < v + length uses
most_variable class v [] rs i l = absurd (omega arith)
most_variable class v (us ∷ uss) [] i l = absurd (omega arith)
most_variable class v (us ∷ uss) (r ∷ rs) i l = case (competes class us) i l (most_variable class (v + 1) uss rs)
  where
    case : (b : Bool) (i : ℕ) → i < length (joined b record { variable = v; uses = uses_in us r } (contestants class (v + 1) uss rs)) → ((j : ℕ) → j < length (contestants class (v + 1) uss rs) → variable_at (contestants class (v + 1) uss rs) j < v + 1 + length uss) → variable_at (joined b record { variable = v; uses = uses_in us r } (contestants class (v + 1) uss rs)) i < v + suc (length uss)
    case true zero l rest = omega arith
    case true (suc i) l rest = omega (arith, rest i (omega arith))
    case false i l rest = omega (arith, rest i l)

pub few_contestants : (class : Class) (v : ℕ) (uses : List (List PinUse)) (rs : List Run) → length (contestants class v uses rs) ≤ length uses
few_contestants class v [] rs = omega arith
few_contestants class v (us ∷ uss) [] = omega arith
few_contestants class v (us ∷ uss) (r ∷ rs) = case (competes class us) (few_contestants class (v + 1) uss rs)
  where
    case : (b : Bool) → length (contestants class (v + 1) uss rs) ≤ length uss → length (joined b record { variable = v; uses = uses_in us r } (contestants class (v + 1) uss rs)) ≤ suc (length uss)
    case true h = omega (arith, h)
    case false h = omega (arith, h)

-- each use of a choice has what each value has
pub use_has : (P : PinUse → Type 0) (d : PinUse) (uses : List (List PinUse)) (rs : List Run) (choice : List ℕ) → AreInside uses rs → LiesIn rs choice → Each (Each P) uses → (j : ℕ) → j < length (uses_at uses choice) → P (get_or (uses_at uses choice) j d)
use_has P d [] [] choice h o e j l = absurd (omega arith)
use_has P d [] (r ∷ rs) choice h o e j l = absurd h
use_has P d (us ∷ uss) [] choice h o e j l = absurd h
use_has P d (us ∷ uss) (r ∷ rs) [] h o e j l = absurd o
use_has P d (us ∷ uss) (r ∷ rs) (x ∷ xs) h o e j l =
    let first : uses_at (us ∷ uss) (x ∷ xs) ≡ get_or us x d ∷ uses_at uss xs = first_use us x (uses_at uss xs) d (omega (arith, o.1, h.0.1)) in
    subst (λ (ws : List PinUse). P (get_or ws j d)) (sym first) (case j (subst (λ (ws : List PinUse). j < length ws) first l) (use_has P d uss rs xs h.1 o.2 e.1))
  where
    within : (ws : List PinUse) (k : ℕ) → k < length ws → Each P ws → P (get_or ws k d)
    within [] k l q = absurd (omega arith)
    within (w ∷ ws) zero l q = q.0
    within (w ∷ ws) (suc k) l q = within ws k (omega arith) q.1

    case : (j : ℕ) → j < length (get_or us x d ∷ uses_at uss xs) → ((k : ℕ) → k < length (uses_at uss xs) → P (get_or (uses_at uss xs) k d)) → P (get_or (get_or us x d ∷ uses_at uss xs) j d)
    case zero l rest = within us x (omega (arith, o.1, h.0.1)) e.0
    case (suc k) l rest = rest k (omega (arith, l))

-- ---- the positions of the signals in a box

pub box_drop : (k : ℕ) (vs : List VarShape) (rs : List Run) → IsBox vs rs → IsBox (drop k vs) (drop k rs)
box_drop zero vs rs h = h
box_drop (suc k) [] [] h = tt
box_drop (suc k) [] (r ∷ rs) h = absurd h
box_drop (suc k) (v ∷ vs) [] h = absurd h
box_drop (suc k) (v ∷ vs) (r ∷ rs) h = box_drop k vs rs h.2

pub lies_drop : (k : ℕ) (rs : List Run) (xs : List ℕ) → LiesIn rs xs → LiesIn (drop k rs) (drop k xs)
lies_drop zero rs xs h = h
lies_drop (suc k) [] [] h = tt
lies_drop (suc k) [] (x ∷ xs) h = absurd h
lies_drop (suc k) (r ∷ rs) [] h = absurd h
lies_drop (suc k) (r ∷ rs) (x ∷ xs) h = lies_drop k rs xs h.2

pub single_drop : (k : ℕ) (rs : List Run) → is_single rs ≡ true → is_single (drop k rs) ≡ true
single_drop zero rs h = h
single_drop (suc k) [] h = refl
single_drop (suc k) (r ∷ rs) h = single_drop k rs (both (leb r.high r.low) (is_single rs) h).1

pub as_many_values : {X : Type 0} (vs : List VarShape) (uses : List (List X)) → HaveValues vs uses → length uses ≡ length vs
as_many_values [] [] h = refl
as_many_values [] (us ∷ uss) h = absurd h
as_many_values (v ∷ vs) [] h = absurd h
as_many_values (v ∷ vs) (us ∷ uss) h = ap suc (as_many_values vs uss h.1)

pub lows_lie : (vs : List VarShape) (rs : List Run) → IsBox vs rs → LiesIn rs (lows rs)
lows_lie [] [] h = tt
lows_lie [] (r ∷ rs) h = absurd h
lows_lie (v ∷ vs) [] h = absurd h
lows_lie (v ∷ vs) (r ∷ rs) h = (omega arith, h.0, lows_lie vs rs h.2)
