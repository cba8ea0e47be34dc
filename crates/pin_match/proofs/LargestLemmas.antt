-- What the functions compute is what assignments say.
use Rattle.std.proofs.Common.{◌≡◌, ◌≢◌, ◌↔◌, ℕ, zero, suc, ◌+◌, ◌<◌, ◌≤◌, Bool, true, false, not, cond, eqb, Option, Some, None, inl, inr, refl, sym, ap, ◌∙◌, arith}
use Rattle.std.specs.Prelude.{is_some, nat_lt, ◌==◌}
use Rattle.std.proofs.lemmas.Bool.Decides.{nat_tests}
use Rattle.res_base.specs.declared.var_set.VarSet.{VarSet}
use Rattle.res_base.specs.Sums.{one_if}
use Rattle.res_base.specs.VarSet.{in_set, IsWords}
use Rattle.res_base.proofs.SumLemmas.{split, le_or, bool_cases, sum_same, sum_le, sum_lt}
use Rattle.res_base.proofs.VarSetLemmas.{same_set}
use Rattle.pin_match.specs.Assignments.{IsAssignment, IsLargest, CanBeLeftOut, IsFull, size_of}
use Rattle.pin_match.specs.Hall.{IsHall}
use Rattle.pin_match.specs.Largest.{greatest_below, without, emptied, most, is_left_out, set_where, hall_of}
use Rattle.pin_match.proofs.CountLemmas.{both, and_yes, at_most}
use Rattle.pin_match.proofs.HallLemmas.{full_size}
use Rattle.pin_match.proofs.PairLemmas.{ones_sum}
use Rattle.pin_match.proofs.WordLemmas.{set_words, set_test}

greatest_ge : (m : ℕ) (f : ℕ → ℕ) (r : ℕ) → r < m → f r ≤ greatest_below m f
greatest_ge zero f r l = absurd (omega arith)
greatest_ge (suc m) f r l = elim (split r m) [
  | inl e ↦ omega (arith, ap f e)
  | inr d ↦ omega (arith, greatest_ge m f r (omega (arith, d)))
]

greatest_at : (m : ℕ) (f : ℕ → ℕ) → 0 < greatest_below m f → (r : ℕ) × (r < m) × (f r ≡ greatest_below m f)
greatest_at zero f l = absurd (omega arith)
greatest_at (suc m) f l = elim (le_or (greatest_below m f) (f m)) [
  | inl k ↦ (m, omega arith, omega (arith, k))
  | inr k ↦ let h = greatest_at m f (omega (arith, k)) in (h.0, omega (arith, h.1), omega (arith, h.2, k))
]

not_equal : (x y : ℕ) → x ≢ y → not (x == y) ≡ true
not_equal x y d = let t : (x == y) ≡ false = grind (arith, nat_tests) in ap not t

are_apart : (x y : ℕ) → not (x == y) ≡ true → x ≢ y
are_apart x y t e = let q : (x == y) ≡ true = grind (arith, nat_tests) in let f : false ≡ true = sym (ap not q) ∙ t in cc

-- an assignment of one variable fewer
shorter : (n m : ℕ) (fits : ℕ → ℕ → Bool) (g : ℕ → Option ℕ) → IsAssignment (suc n) m fits g → IsAssignment n m fits g
shorter n m fits g a = record {
  in_set = λ v r l. a.in_set v r (omega arith);
  in_range = λ v r l. a.in_range v r (omega arith);
  apart = λ v w r l h. a.apart v w r (omega arith) (omega arith);
}

-- the others do without the last one's resource
others : (n m : ℕ) (fits : ℕ → ℕ → Bool) (g : ℕ → Option ℕ) (r : ℕ) → IsAssignment (suc n) m fits g → g n ≡ Some r → IsAssignment n m (without fits r) g
others n m fits g r a e = record {
  in_set = λ v x l q. and_yes (fits v x) (not (x == r)) (a.in_set v x (omega arith) q) (not_equal x r (λ p.
      let same : v ≡ n = a.apart v n x (omega arith) (omega arith) q (e ∙ ap Some (sym p)) in omega (arith, same, l)));
  in_range = λ v x l. a.in_range v x (omega arith);
  apart = λ v w x l h. a.apart v w x (omega arith) (omega arith);
}

upper_at : (n m : ℕ) (fits : ℕ → ℕ → Bool) (g : ℕ → Option ℕ) → IsAssignment (suc n) m fits g → (o : Option ℕ) → g n ≡ o → ((sets : ℕ → ℕ → Bool) → IsAssignment n m sets g → size_of n g ≤ most n m sets) → size_of (suc n) g ≤ most (suc n) m fits
unfolding most
upper_at n m fits g a None e ih =
    let none : one_if (is_some (g n)) ≡ 0 = ap (λ q. one_if (is_some q)) e in
    omega (arith, none, ih fits (shorter n m fits g a))
upper_at n m fits g a (Some r) e ih =
    let one : one_if (is_some (g n)) ≡ 1 = ap (λ q. one_if (is_some q)) e in
    let gain : ℕ → ℕ = λ x. cond (fits n x) (1 + most n m (without fits x)) 0 in
    let here : gain r ≡ 1 + most n m (without fits r) = ap (λ b. cond b (1 + most n m (without fits r)) 0) (a.in_set n r (omega arith) e) in
    omega (arith, one, ih (without fits r) (others n m fits g r a e), greatest_ge m gain r (a.in_range n r (omega arith) e), here)

-- no assignment serves more
pub most_upper : (n m : ℕ) (fits : ℕ → ℕ → Bool) (g : ℕ → Option ℕ) → IsAssignment n m fits g → size_of n g ≤ most n m fits
unfolding most
most_upper zero m fits g a = omega arith
most_upper (suc n) m fits g a = upper_at n m fits g a (g n) refl (λ sets b. most_upper n m sets g b)

-- the last variable has this
extended : ℕ → Option ℕ → (ℕ → Option ℕ) → ℕ → Option ℕ
extended n o f = λ v. cond (eqb v n) o (f v)

at_last : (n : ℕ) (o : Option ℕ) (f : ℕ → Option ℕ) (v : ℕ) → v ≡ n → extended n o f v ≡ o
unfolding extended
at_last n o f v e = let t : eqb v n ≡ true = grind (arith, nat_tests) in ap (λ b. cond b o (f v)) t

before : (n : ℕ) (o : Option ℕ) (f : ℕ → Option ℕ) (v : ℕ) → v ≢ n → extended n o f v ≡ f v
unfolding extended
before n o f v d = let t : eqb v n ≡ false = grind (arith, nat_tests) in ap (λ b. cond b o (f v)) t

size_extended : (n : ℕ) (o : Option ℕ) (f : ℕ → Option ℕ) → size_of (suc n) (extended n o f) ≡ size_of n f + one_if (is_some o)
size_extended n o f =
    let same = sum_same n (λ v. one_if (is_some (extended n o f v))) (λ v. one_if (is_some (f v))) (λ v l. ap (λ q. one_if (is_some q)) (before n o f v (λ e. omega (arith, e, l)))) in
    let last : one_if (is_some (extended n o f n)) ≡ one_if (is_some o) = ap (λ q. one_if (is_some q)) (at_last n o f n refl) in
    omega (arith, same, last)

Attains : ℕ → ℕ → (ℕ → ℕ → Bool) → Type 0
Attains n m fits = (f : ℕ → Option ℕ) × IsAssignment n m fits f × (size_of n f ≡ most n m fits)

abbrev gain_of : (n m : ℕ) (fits : ℕ → ℕ → Bool) → ℕ → ℕ
gain_of n m fits = λ r. cond (fits n r) (1 + most n m (without fits r)) 0

leaves_last : (n m : ℕ) (fits : ℕ → ℕ → Bool) (f : ℕ → Option ℕ) → IsAssignment n m fits f → IsAssignment (suc n) m fits (extended n None f)
leaves_last n m fits f a = record {
  in_set = λ v r l e. elim (split v n) [
    | inl p ↦ let q : ◌≡◌ {A = Option ℕ} None (Some r) = sym (at_last n None f v p) ∙ e in cc
    | inr d ↦ a.in_set v r (omega (arith, l, d)) (sym (before n None f v d) ∙ e)
  ];
  in_range = λ v r l e. elim (split v n) [
    | inl p ↦ let q : ◌≡◌ {A = Option ℕ} None (Some r) = sym (at_last n None f v p) ∙ e in cc
    | inr d ↦ a.in_range v r (omega (arith, l, d)) (sym (before n None f v d) ∙ e)
  ];
  apart = λ v w r l h e q. elim (split v n) [
    | inl p ↦ let t : ◌≡◌ {A = Option ℕ} None (Some r) = sym (at_last n None f v p) ∙ e in cc
    | inr d ↦ elim (split w n) [
      | inl p ↦ let t : ◌≡◌ {A = Option ℕ} None (Some r) = sym (at_last n None f w p) ∙ q in cc
      | inr c ↦ a.apart v w r (omega (arith, l, d)) (omega (arith, h, c)) (sym (before n None f v d) ∙ e) (sym (before n None f w c) ∙ q)
    ]
  ];
}

some_same : (x y : ℕ) → ◌≡◌ {A = Option ℕ} (Some x) (Some y) → x ≡ y
some_same x y e = cc

module _ (n m : ℕ) (fits : ℕ → ℕ → Bool) (r : ℕ) (lr : r < m) (fit : fits n r ≡ true) (f : ℕ → Option ℕ) (a : IsAssignment n m (without fits r) f) where
  -- what the last one has, and what another has
  last_has : (v x : ℕ) → v ≡ n → extended n (Some r) f v ≡ Some x → r ≡ x
  last_has v x p e = some_same r x (sym (at_last n (Some r) f v p) ∙ e)

  other_has : (v x : ℕ) → v ≢ n → extended n (Some r) f v ≡ Some x → f v ≡ Some x
  other_has v x d e = sym (before n (Some r) f v d) ∙ e

  other_than : (v x : ℕ) → v < n → f v ≡ Some x → x ≢ r
  other_than v x l e = are_apart x r (both (fits v x) (not (x == r)) (a.in_set v x l e)).1

  serves_last : IsAssignment (suc n) m fits (extended n (Some r) f)
  serves_last = record {
    in_set = λ v x l e. elim (split v n) [
      | inl p ↦ let q = last_has v x p e in ap (fits v) (sym q) ∙ ap (λ (w : ℕ). fits w r) p ∙ fit
      | inr d ↦ (both (fits v x) (not (x == r)) (a.in_set v x (omega (arith, l, d)) (other_has v x d e))).0
    ];
    in_range = λ v x l e. elim (split v n) [
      | inl p ↦ omega (arith, lr, last_has v x p e)
      | inr d ↦ a.in_range v x (omega (arith, l, d)) (other_has v x d e)
    ];
    apart = λ v w x l h e q. elim (split v n) [
      | inl p ↦ elim (split w n) [
        | inl s ↦ p ∙ sym s
        | inr c ↦ absurd (other_than w x (omega (arith, h, c)) (other_has w x c q) (sym (last_has v x p e)))
      ]
      | inr d ↦ elim (split w n) [
        | inl s ↦ absurd (other_than v x (omega (arith, l, d)) (other_has v x d e) (sym (last_has w x s q)))
        | inr c ↦ a.apart v w x (omega (arith, l, d)) (omega (arith, h, c)) (other_has v x d e) (other_has w x c q)
      ]
    ];
  }

attains_gain : (n m : ℕ) (fits : ℕ → ℕ → Bool) (r : ℕ) → r < m → 0 < gain_of n m fits r → most n m fits ≤ gain_of n m fits r → gain_of n m fits r ≡ greatest_below m (gain_of n m fits) → Attains n m (without fits r) → Attains (suc n) m fits
unfolding Attains most
attains_gain n m fits r l some more is rest = elim (bool_cases (fits n r)) [
  | inl t ↦
      let here : gain_of n m fits r ≡ 1 + most n m (without fits r) = ap (λ b. cond b (1 + most n m (without fits r)) 0) t in
      (extended n (Some r) rest.0, serves_last n m fits r l t rest.0 rest.1, omega (arith, size_extended n (Some r) rest.0, rest.2, here, more, is))
  | inr t ↦
      let here : gain_of n m fits r ≡ 0 = ap (λ b. cond b (1 + most n m (without fits r)) 0) t in
      absurd (omega (arith, some, here))
]

attains_more : (n m : ℕ) (fits : ℕ → ℕ → Bool) → ((sets : ℕ → ℕ → Bool) → Attains n m sets) → Attains (suc n) m fits
unfolding Attains most
attains_more n m fits ih = elim (le_or (most n m fits) (greatest_below m (gain_of n m fits))) [
  | inl l ↦
      let h = greatest_at m (gain_of n m fits) (omega (arith, l)) in
      attains_gain n m fits h.0 h.1 (omega (arith, h.2, l)) (omega (arith, h.2, l)) h.2 (ih (without fits h.0))
  | inr l ↦
      let f = ih fits in
      (extended n None f.0, leaves_last n m fits f.0 f.1, omega (arith, size_extended n None f.0, f.2, l))
]

nobody : (m : ℕ) (fits : ℕ → ℕ → Bool) → IsAssignment zero m fits (λ v. None)
nobody m fits = record {
  in_set = λ v r l e. absurd (omega (arith, l));
  in_range = λ v r l e. absurd (omega (arith, l));
  apart = λ v w r l. absurd (omega (arith, l));
}

-- some assignment serves as many
pub most_attained : (n m : ℕ) (fits : ℕ → ℕ → Bool) → (f : ℕ → Option ℕ) × IsAssignment n m fits f × (size_of n f ≡ most n m fits)
unfolding Attains most
most_attained zero m fits = (λ v. None, nobody m fits, refl)
most_attained (suc n) m fits = attains_more n m fits (λ sets. most_attained n m sets)

-- a largest assignment has that size
pub largest_size : (n m : ℕ) (fits : ℕ → ℕ → Bool) (f : ℕ → Option ℕ) → IsLargest n m fits f → size_of n f ≡ most n m fits
largest_size n m fits f l =
    let g = most_attained n m fits in
    omega (arith, l.largest g.0 g.1, g.2, most_upper n m fits f l.is_assignment)

module _ (n m : ℕ) (fits : ℕ → ℕ → Bool) (v : ℕ) (lv : v < n) where
  -- an assignment of the sets with one emptied is one of the sets, and leaves that one out
  widened : (f : ℕ → Option ℕ) → IsAssignment n m (emptied fits v) f → IsAssignment n m fits f
  widened f a = record {
    in_set = λ w r l e. (both (fits w r) (not (w == v)) (a.in_set w r l e)).0;
    in_range = a.in_range;
    apart = a.apart;
  }

  has_none : (f : ℕ → Option ℕ) → IsAssignment n m (emptied fits v) f → (o : Option ℕ) → f v ≡ o → f v ≡ None
  has_none f a None e = e
  has_none f a (Some r) e = absurd (are_apart v v (both (fits v r) (not (v == v)) (a.in_set v r lv e)).1 refl)

  narrowed : (f : ℕ → Option ℕ) → IsAssignment n m fits f → f v ≡ None → IsAssignment n m (emptied fits v) f
  narrowed f a none = record {
    in_set = λ w r l e. and_yes (fits w r) (not (w == v)) (a.in_set w r l e) (not_equal w v (λ p. let q : ◌≡◌ {A = Option ℕ} None (Some r) = sym none ∙ ap f (sym p) ∙ e in cc));
    in_range = a.in_range;
    apart = a.apart;
  }

  can_be_left_out : is_left_out n m fits v ≡ true → CanBeLeftOut n m fits v
  can_be_left_out t =
      let same : most n m (emptied fits v) ≡ most n m fits = grind (arith, nat_tests, (both (nat_lt v n) (most n m (emptied fits v) == most n m fits) t).1) in
      let f = most_attained n m (emptied fits v) in
      let a = widened f.0 f.1 in
      let large : IsLargest n m fits f.0 = record { is_assignment = a; largest = λ g b. omega (arith, most_upper n m fits g b, f.2, same) } in
      (f.0, large, has_none f.0 f.1 (f.0 v) refl)

  left_out_where : CanBeLeftOut n m fits v → is_left_out n m fits v ≡ true
  left_out_where h =
      let f = h.0 in
      let large = h.1 in
      let none = h.2 in
      let low = most_upper n m (emptied fits v) f (narrowed f large.is_assignment none) in
      let g = most_attained n m (emptied fits v) in
      let high = most_upper n m fits g.0 (widened g.0 g.1) in
      let same : most n m (emptied fits v) ≡ most n m fits = omega (arith, low, high, g.2, largest_size n m fits f large) in
      let t : (most n m (emptied fits v) == most n m fits) ≡ true = grind (arith, nat_tests, same) in
      let l : nat_lt v n ≡ true = grind (arith, nat_tests, lv) in
      and_yes (nat_lt v n) (most n m (emptied fits v) == most n m fits) l t

  -- what is computed is what some largest assignment leaves out
  pub left_out_is : (is_left_out n m fits v ≡ true) ↔ CanBeLeftOut n m fits v
  left_out_is = (can_be_left_out, left_out_where)

pub serves_all : (n m : ℕ) (fits : ℕ → ℕ → Bool) → most n m fits ≡ n → IsFull n m fits
serves_all n m fits e =
    let f = most_attained n m fits in
    (f.0, f.1, λ v l. has_some n f.0 (omega (arith, f.2, e)) v l (f.0 v) refl)
  where
    has_some : (k : ℕ) (f : ℕ → Option ℕ) → size_of k f ≡ k → (v : ℕ) → v < k → (o : Option ℕ) → f v ≡ o → (r : ℕ) × (f v ≡ Some r)
    has_some k f size v l (Some r) q = (r, q)
    has_some k f size v l None q =
        let none : one_if (is_some (f v)) ≡ 0 = ap (λ t. one_if (is_some t)) q in
        absurd (omega (arith, size, sum_lt k v (λ w. one_if (is_some (f w))) (λ w. 1) l (λ w h. at_most (is_some (f w))) (omega (arith, none)), ones_sum k))

pub full_most : (n m : ℕ) (fits : ℕ → ℕ → Bool) → IsFull n m fits → most n m fits ≡ n
full_most n m fits full =
    let f = most_attained n m fits in
    let above = sum_le n (λ v. one_if (is_some (f.0 v))) (λ v. 1) (λ v l. at_most (is_some (f.0 v))) in
    omega (arith, most_upper n m fits full.0 full.1, full_size n m fits full, f.2, above, ones_sum n)

-- none is computed where all are served
pub hall_none : (n m : ℕ) (fits : ℕ → ℕ → Bool) → IsFull n m fits → hall_of n m fits ≡ None
unfolding hall_of
hall_none n m fits full =
    let t : (most n m fits == n) ≡ true = grind (arith, nat_tests, full_most n m fits full) in
    ap (λ b. cond b None (Some (set_where (is_left_out n m fits)))) t

hall_some : (n m : ℕ) (fits : ℕ → ℕ → Bool) → (IsFull n m fits → ⊥) → hall_of n m fits ≡ Some (set_where (is_left_out n m fits))
unfolding hall_of
hall_some n m fits never =
    let t : (most n m fits == n) ≡ false = elim (bool_cases (most n m fits == n)) [
      | inl e ↦ let q : most n m fits ≡ n = grind (arith, nat_tests, e) in absurd (never (serves_all n m fits q))
      | inr e ↦ e
    ] in
    ap (λ b. cond b None (Some (set_where (is_left_out n m fits)))) t

pub true_both : (a b : Bool) → (a ≡ true → b ≡ true) → (b ≡ true → a ≡ true) → a ≡ b
true_both true b f g = sym (f refl)
true_both false true f g = g refl
true_both false false f g = refl

-- a set of what can be left out is the one that is computed
pub hall_is : (n m : ℕ) (fits : ℕ → ℕ → Bool) (s : VarSet) → n ≤ 192 → (IsFull n m fits → ⊥) → IsHall n m fits s → IsWords s → Some s ≡ hall_of n m fits
hall_is n m fits s few never h words =
    let p = is_left_out n m fits in
    let below : (v : ℕ) → p v ≡ true → v < n = λ v e. let t : nat_lt v n ≡ true = (both (nat_lt v n) (most n m (emptied fits v) == most n m fits) e).0 in grind (arith, nat_tests) in
    let same : (v : ℕ) → v < 192 → in_set s v ≡ in_set (set_where p) v = λ v l.
    true_both (in_set s v) (p v) (λ e. let k = h.below v e in (left_out_is n m fits v k).1 ((h.exact v k).0 e)) (λ e. let k = below v e in (h.exact v k).1 ((left_out_is n m fits v k).0 e))
    ∙ sym (set_test p v l) in
    ap Some (same_set s (set_where p) words (set_words p) same) ∙ sym (hall_some n m fits never)
