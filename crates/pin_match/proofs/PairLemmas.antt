-- A resource given.
use Rattle.std.proofs.Common.{◌≡◌, ◌≢◌, ℕ, zero, suc, ◌+◌, ◌<◌, ◌≤◌, List, length, length-set, get_or, Bool, true, false, eqb, cond, Option, Some, None, ◌⊎◌, inl, inr, refl, sym, subst, ap, ◌∙◌, arith}
use Rattle.std.specs.Prelude.{is_some}
use Rattle.std.proofs.lemmas.Bool.Decides.{nat_tests}
use Rattle.std.proofs.lemmas.List.{get_or-set_same, get_or-set_other}
use Rattle.pin_match.specs.declared.matching.Match.{Match}
use Rattle.pin_match.specs.declared.walk.Walk.{Walk}
use Rattle.res_base.specs.Sums.{sum_below, one_if}
use Rattle.pin_match.specs.Assignments.{IsAssignment, size_of}
use Rattle.pin_match.specs.Walks.{IsWalk, place_in, from_in}
use Rattle.pin_match.specs.Pairs.{IsMatch, IsOffer, Carried, given_in, owner_in, released, gave}
use Rattle.res_base.proofs.SumLemmas.{split, sum_same, sum_put, sum_le}
use Rattle.pin_match.proofs.WalkLemmas.{wrote}

pub assignment : (n m : ℕ) (fits : ℕ → ℕ → Bool) (a : Match) → IsMatch n m fits a → IsAssignment n m fits (given_in a)
assignment n m fits a k = record {
  in_set = k.in_set;
  in_range = λ v r l e. (k.paired.given v r l e).0;
  apart = λ v w r l h e d.
      let p = k.paired.given v r l e in
      let q = k.paired.given w r h d in
      let s : ◌≡◌ {A = Option ℕ} (Some v) (Some w) = sym p.1 ∙ q.1 in
      cc;
}

pub same_or : (o : Option ℕ) (x : ℕ) → (o ≡ Some x) ⊎ (o ≡ Some x → ⊥)
same_or None x = inr (λ e. let q : ◌≡◌ {A = Option ℕ} None (Some x) = e in cc)
same_or (Some y) x = elim (split y x) [ inl p ↦ inl (ap Some p) | inr d ↦ inr (λ e. let q : ◌≡◌ {A = Option ℕ} (Some y) (Some x) = e in let p : y ≡ x = cc in d p) ]

released_long : (ow : List (Option ℕ)) (old : Option ℕ) → length (released ow old) ≡ length ow
released_long ow None = refl
released_long ow (Some s) = rw length-set refl

released_left : (ow : List (Option ℕ)) (old : Option ℕ) (s : ℕ) → old ≡ Some s → s < length ow → get_or (released ow old) s None ≡ None
released_left ow None s e l = let q : ◌≡◌ {A = Option ℕ} None (Some s) = e in cc
released_left ow (Some y) s e l =
    let q : ◌≡◌ {A = Option ℕ} (Some y) (Some s) = e in
    let p : y ≡ s = cc in
    rw p (get_or-set_same ow s None None l)

released_other : (ow : List (Option ℕ)) (old : Option ℕ) (x : ℕ) → (old ≡ Some x → ⊥) → get_or (released ow old) x None ≡ get_or ow x None
released_other ow None x h = refl
released_other ow (Some y) x h = get_or-set_other ow y x None None (λ e. h (ap Some (sym e)))

by_test : (b : Bool) (r : ℕ) (o : Option ℕ) → one_if (is_some (cond b (Some r) o)) ≡ cond b 1 (one_if (is_some o))
by_test true r o = refl
by_test false r o = refl

pub some_not_none : {A : Type 0} (o : Option ℕ) (x : ℕ) → o ≡ Some x → o ≡ None → A
some_not_none o x e d = let q : ◌≡◌ {A = Option ℕ} (Some x) None = sym e ∙ d in cc

module _ (n m : ℕ) (fits : ℕ → ℕ → Bool) (a : Match) (k : IsMatch n m fits a) (v r : ℕ) (o : IsOffer n m fits a v r) where
  given_is : (w : ℕ) → given_in (gave a v r) w ≡ cond (eqb w v) (Some r) (given_in a w)
  given_is w = wrote a.given v w (Some r) None (omega (arith, k.paired.given_long, k.paired.few, o.variable))

  given_new : (w : ℕ) → w ≡ v → given_in (gave a v r) w ≡ Some r
  given_new w e = let t : eqb w v ≡ true = grind (arith, nat_tests) in given_is w ∙ ap (λ b. cond b (Some r) (given_in a w)) t

  pub given_other : (w : ℕ) → w ≢ v → given_in (gave a v r) w ≡ given_in a w
  given_other w d = let t : eqb w v ≡ false = grind (arith, nat_tests) in given_is w ∙ ap (λ b. cond b (Some r) (given_in a w)) t

  long : length (released a.owner (given_in a v)) ≡ 192
  long = released_long a.owner (given_in a v) ∙ k.paired.owner_long

  owner_new : (x : ℕ) → x ≡ r → owner_in (gave a v r) x ≡ Some v
  owner_new x e = rw e (get_or-set_same (released a.owner (given_in a v)) r (Some v) None (omega (arith, long, k.paired.few_resources, o.resource)))

  owner_left : (s : ℕ) → given_in a v ≡ Some s → s ≢ r → owner_in (gave a v r) s ≡ None
  owner_left s e d =
      get_or-set_other (released a.owner (given_in a v)) r s (Some v) None d
      ∙ released_left a.owner (given_in a v) s e (omega (arith, (k.paired.given v s o.variable e).0, k.paired.owner_long, k.paired.few_resources))

  owner_other : (x : ℕ) → x ≢ r → (given_in a v ≡ Some x → ⊥) → owner_in (gave a v r) x ≡ owner_in a x
  owner_other x d h =
      get_or-set_other (released a.owner (given_in a v)) r x (Some v) None d
      ∙ released_other a.owner (given_in a v) x h

  -- the offered resource is in no hand
  not_offered : (w x : ℕ) → owner_in a x ≡ Some w → x ≢ r
  not_offered w x e p = some_not_none (owner_in a x) w e (ap (owner_in a) p ∙ o.free)

  given_back : (w x : ℕ) → w < n → given_in (gave a v r) w ≡ Some x → (x < m) × (owner_in (gave a v r) x ≡ Some w)
  given_back w x l e = elim (split w v) [
    | inl p ↦
        let q : ◌≡◌ {A = Option ℕ} (Some r) (Some x) = sym (given_new w p) ∙ e in
        let s : x ≡ r = cc in
        (omega (arith, s, o.resource), owner_new x s ∙ ap Some (sym p))
    | inr d ↦
        let old = sym (given_other w d) ∙ e in
        let h = k.paired.given w x l old in
        let other : given_in a v ≡ Some x → ⊥ = λ t.
        let q : ◌≡◌ {A = Option ℕ} (Some w) (Some v) = sym h.1 ∙ (k.paired.given v x o.variable t).1 in
        let same : w ≡ v = cc in d same in
        (h.0, owner_other x (not_offered w x h.1) other ∙ h.1)
  ]

  owned_back : (w x : ℕ) → x < m → owner_in (gave a v r) x ≡ Some w → (w < n) × (given_in (gave a v r) w ≡ Some x)
  owned_back w x l e = elim (split x r) [
    | inl p ↦
        let q : ◌≡◌ {A = Option ℕ} (Some v) (Some w) = sym (owner_new x p) ∙ e in
        let s : w ≡ v = cc in
        (omega (arith, s, o.variable), given_new w s ∙ ap Some (sym p))
    | inr d ↦ elim (same_or (given_in a v) x) [
      | inl t ↦ some_not_none (owner_in (gave a v r) x) w e (owner_left x t d)
      | inr t ↦
          let h = k.paired.owned w x l (sym (owner_other x d t) ∙ e) in
          (h.0, given_other w (λ p. absurd (t (ap (given_in a) (sym p) ∙ h.1))) ∙ h.1)
    ]
  ]

  pub gave_match : IsMatch n m fits (gave a v r)
  gave_match = record {
    paired = record {
      few = k.paired.few;
      few_resources = k.paired.few_resources;
      given_long = rw length-set k.paired.given_long;
      owner_long = rw length-set long;
      given = given_back;
      owned = owned_back;
    };
    in_set = λ w x l e. elim (split w v) [
      | inl p ↦
          let q : ◌≡◌ {A = Option ℕ} (Some r) (Some x) = sym (given_new w p) ∙ e in
          let s : x ≡ r = cc in
          subst (λ y. fits w y ≡ true) (sym s) (subst (λ y. fits y r ≡ true) (sym p) o.fit)
      | inr d ↦ k.in_set w x l (sym (given_other w d) ∙ e)
    ];
  }

  pub gave_free : (s : ℕ) → given_in a v ≡ Some s → owner_in (gave a v r) s ≡ None
  gave_free s e = owner_left s e (not_offered v s (k.paired.given v s o.variable e).1)

  sizes : size_of n (given_in (gave a v r)) + one_if (is_some (given_in a v)) ≡ size_of n (given_in a) + 1
  sizes =
      let b : ℕ → ℕ = λ w. one_if (is_some (given_in a w)) in
      let same = sum_same n (λ w. one_if (is_some (given_in (gave a v r) w))) (λ w. cond (eqb w v) 1 (b w)) (λ w l. ap (λ o. one_if (is_some o)) (given_is w) ∙ by_test (eqb w v) r (given_in a w)) in
      omega (arith, same, sum_put n v 1 b o.variable)

  pub size_same : (s : ℕ) → given_in a v ≡ Some s → size_of n (given_in (gave a v r)) ≡ size_of n (given_in a)
  size_same s e = let t : one_if (is_some (given_in a v)) ≡ 1 = ap (λ q. one_if (is_some q)) e in omega (arith, sizes, t)

  pub size_more : given_in a v ≡ None → size_of n (given_in (gave a v r)) ≡ size_of n (given_in a) + 1
  size_more e = let t : one_if (is_some (given_in a v)) ≡ 0 = ap (λ q. one_if (is_some q)) e in omega (arith, sizes, t)

at_most : (b : Bool) → one_if b ≤ 1
at_most true = omega arith
at_most false = omega arith

pub ones_sum : (n : ℕ) → sum_below n (λ v. 1) ≡ n
ones_sum zero = refl
ones_sum (suc n) = omega (arith, ones_sum n)

pub size_le : (n : ℕ) (f : ℕ → Option ℕ) → size_of n f ≤ n
size_le n f = omega (arith, sum_le n (λ v. one_if (is_some (f v))) (λ v. 1) (λ v l. at_most (is_some (f v))), ones_sum n)

module _ (n m : ℕ) (fits : ℕ → ℕ → Bool) (f : ℕ → Option ℕ) (w : Walk) (i : IsWalk n fits f w) (a : Match) (v r : ℕ) (c : Carried n m fits f w a v r) where
  -- one step along the walk
  pub carried_next : (s : ℕ) → given_in a v ≡ Some s → Carried n m fits f w (gave a v r) (from_in w v) s
  carried_next s e =
      let k = c.is_match in
      let o = c.offer in
      let b = i.back v s o.variable c.reached (sym (c.same v o.variable c.reached (omega arith)) ∙ e) in
      record {
        is_match = gave_match n m fits a k v r o;
        offer = record { variable = b.0; resource = (k.paired.given v s o.variable e).0; fit = b.2; free = gave_free n m fits a k v r o s e };
        reached = b.1;
        same = λ x l h q. given_other n m fits a k v r o x (λ p. absurd (omega (arith, b.3, q, ap (place_in w) p))) ∙ c.same x l h (omega (arith, q, b.3));
        size = size_same n m fits a k v r o s e ∙ c.size;
      }

  pub carried_less : (s : ℕ) → given_in a v ≡ Some s → place_in w (from_in w v) < place_in w v
  carried_less s e = (i.back v s c.offer.variable c.reached (sym (c.same v c.offer.variable c.reached (omega arith)) ∙ e)).3

  pub carried_end : given_in a v ≡ None → IsMatch n m fits (gave a v r) × (size_of n (given_in (gave a v r)) ≡ size_of n f + 1)
  carried_end e = (gave_match n m fits a c.is_match v r c.offer, omega (arith, size_more n m fits a c.is_match v r c.offer e, c.size))
