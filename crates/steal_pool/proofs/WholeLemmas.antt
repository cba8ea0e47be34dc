-- When all that came is what went on and path 1, the closed boxes are those of a whole search.
use Rattle.std.proofs.Common.{◌≡◌, ◌≢◌, ℕ, zero, suc, ◌+◌, ◌*◌, ◌-◌, ◌/◌, ◌^◌, ◌<◌, ◌≤◌, List, [], ◌∷◌, ◌++◌, ◌⊎◌, inl, inr, length, Option, Some, None, sym, refl, ap, ◌∙◌, subst, ⊎_elim, arith, length-append}
use Rattle.std.specs.Prelude.{MatchOption}
use Rattle.std.proofs.lemmas.Nat.{div_below, pow_pos}
use Rattle.std.proofs.lemmas.Grind.{pow_more}
use Rattle.res_base.specs.Lists.{Each, Member}
use Rattle.res_base.proofs.ListLemmas.{each_map, each_in, member_left, member_split, member_last}
use Rattle.res_base.proofs.SumLemmas.{split, le_or}
use Rattle.box_split.specs.Boxes.{Run}
use Rattle.box_split.specs.Paths.{box_of, covers}
use Rattle.box_split.proofs.LawLemmas.{whole_covers}
use Rattle.box_split.proofs.RunLemmas.{positive}
use Rattle.box_split.proofs.PrefixLemmas.{half_first}
use Rattle.best_word.specs.declared.part.Part.TheVariants.{First}
use Rattle.best_word.specs.declared.word.View.{View}
use Rattle.best_word.specs.Word.{SeesRank, SeesNone}
use Rattle.search_api.specs.declared.verdict.Verdict.{Verdict}
use Rattle.search_api.specs.declared.verdict.Verdict.TheVariants as verdict
use Rattle.search_api.specs.declared.outcome.Closed.{Closed}
use Rattle.search_api.specs.Meaning.{Meaning}
use Rattle.search_api.specs.Accounts.{IsEntry, IsBest, OpenAbove, Accounted, CoverOnce}
use Rattle.steal_worker.specs.Flows.{weight_closed, Flows, PassesOn}
use Rattle.steal_worker.specs.Walks.{IfCut, known}
use Rattle.steal_worker.proofs.WalkActs.{entry_more}
use Rattle.steal_pool.specs.Joined.{Joined}
use Rattle.steal_pool.specs.Known.{Knows}
use Rattle.steal_pool.proofs.JoinedLemmas.{cut_more}

each_of : {X : Type 0} (P : X → Type 0) (xs : List X) → ((x : X) → Member x xs → P x) → Each P xs
each_of P [] h = tt
each_of P (x ∷ xs) h = (h x (inl refl), each_of P xs (λ y i. h y (inr i)))

-- x where k is more than 0
abbrev mask : ℕ → ℕ → ℕ
mask zero x = 0
mask (suc k) x = x

mask_all : (k x : ℕ) → 0 < k → mask k x ≡ x
mask_all zero x h = absurd (omega arith)
mask_all (suc k) x h = refl

mask_none : (k x : ℕ) → k ≡ 0 → mask k x ≡ 0
mask_none zero x h = refl
mask_none (suc k) x h = absurd (omega arith)

mask_nothing : (k x : ℕ) → x ≡ 0 → mask k x ≡ 0
mask_nothing zero x h = refl
mask_nothing (suc k) x h = h

-- the weight h of the paths below n
abbrev cut : ℕ → (ℕ → ℕ) → ℕ → ℕ
cut n h p = mask (n - p) (h p)

-- what comes from path 1 by halving open boxes weighs nothing, where path 1 weighs nothing and halves weigh no more than their box
module _ (m : Meaning) (h : ℕ → ℕ) (passes : PassesOn m h h) (one : h 1 ≡ 0) where
  cut_passes : (n k : ℕ) → k ≤ n + 1 → PassesOn m (cut n h) (cut k h)
  cut_passes n k le path box at wide z =
      let pos = positive m.shape path box at in
      elim (le_or path n) [
        | inl l ↦
            let s = passes path box at wide (sym (mask_all (n - path) (h path) (omega (arith, l))) ∙ z) in
            (mask_nothing (k - 2 * path) (h (2 * path)) s.0, mask_nothing (k - (2 * path + 1)) (h (2 * path + 1)) s.1)
        | inr g ↦ (mask_none (k - 2 * path) (h (2 * path)) (omega (arith, le, pos, g)), mask_none (k - (2 * path + 1)) (h (2 * path + 1)) (omega (arith, le, pos, g)))
      ]

  module _ (came went : (ℕ → ℕ) → ℕ) (closed : List Closed) (flows : Flows m came went [] [] closed) (all : (g : ℕ → ℕ) → came g ≡ went g + g 1) (nothing : (g : ℕ → ℕ) → ((p : ℕ) → g p ≡ 0) → came g ≡ 0) where
    cut_one : (n : ℕ) → cut n h 1 ≡ 0
    cut_one n = mask_nothing (n - 1) (h 1) one

    none_came : (n : ℕ) → came (cut n h) ≡ 0
    none_came zero = nothing (cut zero h) (λ p. mask_none (zero - p) (h p) (omega arith))
    none_came (suc n) =
        let s = flows.sourced (cut n h) (cut (suc n) h) (cut_passes n n (omega arith)) (cut_passes n (suc n) (omega arith)) (cut_one (suc n)) (none_came n) in
        let w = s.went_on in let a = all (cut (suc n) h) in let o = cut_one (suc n) in omega (arith, w, a, o)

    none_closed : (n : ℕ) → weight_closed (cut n h) closed ≡ 0
    none_closed n = (flows.sourced (cut n h) (cut n h) (cut_passes n n (omega arith)) (cut_passes n n (omega arith)) (cut_one n) (none_came n)).in_closed

    each_nothing : (xs : List Closed) → ((n : ℕ) → weight_closed (cut n h) xs ≡ 0) → Each (λ (e : Closed). h e.path ≡ 0) xs
    each_nothing [] f = tt
    each_nothing (e ∷ es) f = (
      let a : cut (e.path + 1) h e.path + weight_closed (cut (e.path + 1) h) es ≡ 0 = f (e.path + 1) in let b : cut (e.path + 1) h e.path ≡ h e.path = mask_all (e.path + 1 - e.path) (h e.path) (omega arith) in omega (arith, a, b),
      each_nothing es (λ n. let a : cut n h e.path + weight_closed (cut n h) es ≡ 0 = f n in omega (arith, a)),
    )

    pub weigh_nothing : Each (λ (e : Closed). h e.path ≡ 0) closed
    weigh_nothing = each_nothing closed none_closed

-- 1 where two numbers are the same
abbrev pick : {a b : ℕ} → (a ≡ b) ⊎ (a ≢ b) → ℕ
pick (inl e) = 1
pick (inr d) = 0

pick_not : {a b : ℕ} (s : (a ≡ b) ⊎ (a ≢ b)) → pick s ≡ 0 → a ≢ b
pick_not (inl e) h = absurd (omega (arith, h))
pick_not (inr d) h = d

pick_none : {a b : ℕ} (s : (a ≡ b) ⊎ (a ≢ b)) → a ≢ b → pick s ≡ 0
pick_none (inl e) d = absurd (d e)
pick_none (inr d) h = refl

-- how many of the n paths above p are q
abbrev above : ℕ → ℕ → ℕ → ℕ
above zero q p = 0
above (suc n) q p = pick (split (p / 2 ^ suc n) q) + above n q p

above_not : (n q p : ℕ) → above n q p ≡ 0 → (k : ℕ) → k < n → p / 2 ^ suc k ≢ q
above_not zero q p z k l = absurd (omega arith)
above_not (suc n) q p z k l = elim (split k n) [
  | inl e ↦ subst (λ (i : ℕ). p / 2 ^ suc i ≢ q) (sym e) (pick_not (split (p / 2 ^ suc n) q) (omega (arith, z)))
  | inr d ↦ above_not n q p (omega (arith, z)) k (omega (arith, l, d))
]

none_above : (n q p : ℕ) → ((k : ℕ) → k < n → p / 2 ^ suc k ≢ q) → above n q p ≡ 0
none_above zero q p f = refl
none_above (suc n) q p f = omega (arith, pick_none (split (p / 2 ^ suc n) q) (f n (omega arith)), none_above n q p (λ k l. f k (omega (arith, l))))

small : (k : ℕ) → k < 2 ^ k
small zero = omega arith
small (suc k) = let p : 2 ^ suc k ≡ 2 ^ k * 2 = ap (λ (n : ℕ). 2 ^ n) (omega arith) ∙ pow_more 2 k in omega (arith, p, small k)

far : (p k q : ℕ) → 0 < q → p ≤ k → p / 2 ^ suc k ≢ q
far p k q pos le e = let s = small (suc k) in let d = div_below p (2 ^ suc k) 1 (pow_pos (suc k)) (omega (arith, s, le)) in omega (arith, d, e, pos)

one_half : (j q : ℕ) → 0 < q → 1 / 2 ^ suc j ≢ q
one_half j q pos e = let s = small (suc j) in let d = div_below 1 (2 ^ suc j) 1 (pow_pos (suc j)) (omega (arith, s)) in omega (arith, d, e, pos)

never_above : (q p : ℕ) → 0 < q → above p q p ≡ 0 → (k : ℕ) → p / 2 ^ suc k ≢ q
never_above q p pos z k = elim (le_or k p) [ inl l ↦ above_not p q p z k l | inr g ↦ far p k q pos g ]

open_or : (v : Verdict) → (v ≡ verdict.Open) ⊎ (v ≢ verdict.Open)
open_or (verdict.Bad reason) = inr (λ e. cc)
open_or verdict.Legal = inr (λ e. cc)
open_or verdict.Open = inl refl

some_same : (box b : List Run) → ◌≡◌ {A = Option (List Run)} (Some box) (Some b) → box ≡ b
some_same box b e = cc

module _ (m : Meaning) (came went : (ℕ → ℕ) → ℕ) (closed : List Closed) (flows : Flows m came went [] [] closed) (all : (g : ℕ → ℕ) → came g ≡ went g + g 1) (nothing : (g : ℕ → ℕ) → ((p : ℕ) → g p ≡ 0) → came g ≡ 0) where
  pub cover_once : CoverOnce m.shape closed
  cover_once choice is =
      let b = flows.balance choice in
      let a = all (λ p. covers m.shape p choice) in
      omega (arith, a, b, whole_covers m.shape choice is)

  -- a box whose verdict is not open has no closed path below it
  passes_not : (q : ℕ) (box : List Run) → box_of m.shape q ≡ Some box → m.verdict box ≢ verdict.Open → PassesOn m (λ p. above p q p) (λ p. above p q p)
  passes_not q box at shut path other there wide z =
      let pos = positive m.shape q box at in
      let up : (bit : ℕ) → bit < 2 → (k : ℕ) → (2 * path + bit) / 2 ^ suc k ≢ q = λ bit l k. half bit l k pos in
      (none_above (2 * path) q (2 * path) (λ k l. subst (λ (n : ℕ). n / 2 ^ suc k ≢ q) (omega arith) (up 0 (omega arith) k)), none_above (2 * path + 1) q (2 * path + 1) (λ k l. up 1 (omega arith) k))
    where
      half : (bit : ℕ) → bit < 2 → (k : ℕ) → 0 < q → (2 * path + bit) / 2 ^ suc k ≢ q
      half bit l zero pos e =
          let s : (2 * path + bit) / 2 ^ 1 ≡ path = omega arith in
          let same : other ≡ box = some_same other box (sym there ∙ (ap (box_of m.shape) (sym s ∙ e) ∙ at)) in
          shut (ap m.verdict (sym same) ∙ wide)
      half bit l (suc k) pos e =
          let s : (2 * path + bit) / 2 ≡ path = omega arith in
          never_above q path pos z k (ap (λ n. n / 2 ^ suc k) (sym s) ∙ (sym (half_first (2 * path + bit) (suc k)) ∙ e))

  open_there : (e : Closed) → Member e closed → (k : ℕ) (box : List Run) → 0 < k → box_of m.shape (e.path / 2 ^ k) ≡ Some box → m.verdict box ≡ verdict.Open
  open_there e i zero box pos at = absurd (omega arith)
  open_there e i (suc k) box pos at =
      let q = e.path / 2 ^ suc k in
      let first = positive m.shape q box at in
      elim (open_or (m.verdict box)) [
        | inl o ↦ o
        | inr shut ↦
            let h : ℕ → ℕ = λ p. above p q p in
            let one : h 1 ≡ 0 = none_above 1 q 1 (λ j l. one_half j q first) in
            let none = weigh_nothing m h (passes_not q box at shut) one came went closed flows all nothing in
            absurd (never_above q e.path first (each_in (λ (x : Closed). h x.path ≡ 0) e closed none i) k refl)
      ]

  pub open_above : Each (λ (e : Closed). OpenAbove m e.path) closed
  open_above = each_of (λ (e : Closed). OpenAbove m e.path) closed open_there

-- a seat that sees no rank kept none
pub none_kept : {J : Type 0} (v w : View J) (best : Option ℕ) → MatchOption best (SeesNone v w) (λ r. SeesRank v r w) → best ≡ None → v.kept ≡ []
none_kept v w None s e = s.1
none_kept v w (Some r) s e = absurd cc

module _ {J : Type 0} (m : Meaning) (k : ℕ) (came went : (ℕ → ℕ) → ℕ) (v w : View J) (closed : List Closed) (joined : Joined m k came went v closed) (all : (g : ℕ → ℕ) → came g ≡ went g + g 1) (nothing : (g : ℕ → ℕ) → ((p : ℕ) → g p ≡ 0) → came g ≡ 0) (first : v.part ≡ First) (none_out : v.out ≡ 0) where
  account : (best : Option ℕ) → ((r : ℕ) → Member r v.saw → Member r v.kept) → IsBest v.kept best → Accounted m best v.kept closed
  account best saw is = record {
    cover = cover_once m came went closed joined.flows all nothing;
    entries = each_map (IsEntry m (known v)) (IsEntry m v.kept) closed (entry_more m (known v) v.kept (λ r x. ⊎_elim (λ a. a) (λ a. saw r a) (member_split r v.kept v.saw x))) joined.boxes.entries;
    legal = joined.boxes.legal;
    best_is = is;
    open_above = open_above m came went closed joined.flows all nothing;
    in_time = joined.boxes.in_time;
  }

  -- the last load of the first seat, when no other is out, is the least kept rank
  pub ends : (best : Option ℕ) → MatchOption best (SeesNone v w) (λ r. SeesRank v r w) → Accounted m best v.kept closed × Knows v.kept closed w
  ends None s = (
    account None (λ r x. absurd (subst (Member r) s.2 x)) s.1,
    record {
      first = ap (λ (x : View J). x.part) s.0 ∙ first;
      none_out = ap (λ (x : View J). x.out) s.0 ∙ none_out;
      kept_is = ap (λ (x : View J). x.kept) s.0;
      saw = each_map (λ (e : Closed). IfCut e.cause (λ rank. Member rank v.saw)) (λ (e : Closed). IfCut e.cause (λ rank. Member rank w.saw)) closed (λ e c. cut_more e.cause v.saw w.saw (λ r x. subst (Member r) (sym (ap (λ (x : View J). x.saw) s.0)) x) c) joined.boxes.cuts;
      loads = (let a : w.blank ≡ v.blank + 1 = ap (λ (x : View J). x.blank) s.0 in let b : length w.saw ≡ length v.saw = ap (λ (x : View J). length x.saw) s.0 in let c = joined.boxes.loads in omega (arith, a, b, c));
    },
  )
  ends (Some r) s =
      let is : w.saw ≡ v.saw ++ r ∷ [] = ap (λ (x : View J). x.saw) s.0 in
      let kept : (x : ℕ) → Member x w.saw → Member x v.kept = s.3 first none_out in (
        account (Some r) (λ x i. kept x (subst (Member x) (sym is) (member_left x v.saw (r ∷ []) i)))
            (kept r (subst (Member r) (sym is) (member_last r v.saw)), each_of (λ k. r ≤ k) v.kept s.1),
        record {
          first = ap (λ (x : View J). x.part) s.0 ∙ first;
          none_out = ap (λ (x : View J). x.out) s.0 ∙ none_out;
          kept_is = ap (λ (x : View J). x.kept) s.0;
          saw = each_map (λ (e : Closed). IfCut e.cause (λ rank. Member rank v.saw)) (λ (e : Closed). IfCut e.cause (λ rank. Member rank w.saw)) closed (λ e c. cut_more e.cause v.saw w.saw (λ x i. subst (Member x) (sym is) (member_left x v.saw (r ∷ []) i)) c) joined.boxes.cuts;
          loads = (let a : w.blank ≡ v.blank = ap (λ (x : View J). x.blank) s.0 in let b : length w.saw ≡ length (v.saw ++ r ∷ []) = ap (length {A = ℕ}) is in let c = joined.boxes.loads in omega (arith, a, b, c, length-append v.saw (r ∷ [])));
        },
      )
