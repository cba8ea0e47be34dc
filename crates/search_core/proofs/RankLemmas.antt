-- Kept ranks, owed ranks and the word.
use Rattle.std.proofs.Common.{◌≡◌, ℕ, ◌+◌, ◌≤◌, min, List, [], ◌∷◌, ◌++◌, ◌⊎◌, inl, inr, eqb, Option, Some, None, refl, sym, subst, ap, arith, lt_of_not-le}
use mathlib.Core.Logic.{dite}
use native.Mathlib.Decide.{dec_le}
use Rattle.res_base.specs.Lists.{Each, Member, total}
use Rattle.res_base.specs.Sums.{one_if}
use Rattle.res_base.proofs.ListLemmas.{each_in, each_map, member_left, member_last, member_one, member_split, total_snoc}
use Rattle.res_base.proofs.SumLemmas.{pos_cases}
use Rattle.search_core.specs.Events.{least_of}
use Rattle.search_core.specs.Fits.{times, NoneTwice, WasOffered, IsWord, IsSeen}
use Rattle.search_core.proofs.ChangeLemmas.{same_or, once_itself, member_times, times_member, each_within}

pub record AreRanks (kept debts : List ℕ) (word : Option ℕ) : Type 0 where
  pub owed_kept : Each (λ rank. Member rank kept) debts
  pub owed_once : NoneTwice debts
  pub kept_once : NoneTwice kept
  pub word_is : IsWord kept debts word

pub no_ranks : AreRanks [] [] None
no_ranks = record { owed_kept = tt; owed_once = λ x. omega arith; kept_once = λ x. omega arith; word_is = λ x o. o.0 }

-- one more number, which did not stand there
once_more : (xs ys : List ℕ) (r : ℕ) → (Member r xs → ⊥) → ((h : ℕ → ℕ) → total h ys ≡ total h xs + h r) → NoneTwice xs → NoneTwice ys
once_more xs ys r fresh w once x = elim (same_or r x) [
  | inl s ↦ elim (pos_cases (times r xs)) [
    | inl p ↦ absurd (fresh (member_times r xs p))
    | inr z ↦ subst (λ y. times y ys ≤ 1) s.0 (omega (arith, w (λ y. one_if (eqb y r)), once_itself r, z))
  ]
  | inr d ↦ omega (arith, w (λ y. one_if (eqb y x)), once x, ap one_if d.1)
]

-- what stands in a list stands in one that has as many of it or more
member_more : (xs ys : List ℕ) (x : ℕ) → times x xs ≤ times x ys → Member x xs → Member x ys
member_more xs ys x le i = member_times x ys (omega (arith, times_member x xs i))

same_word : (kept debts more left : List ℕ) → ((x : ℕ) → WasOffered kept debts x → WasOffered more left x) → ((x : ℕ) → WasOffered more left x → WasOffered kept debts x) → (word : Option ℕ) → IsWord kept debts word → IsWord more left word
same_word kept debts more left there back None h = λ x o. h x (back x o)
same_word kept debts more left there back (Some w) h = (there w h.0, (λ x o. h.1 x (back x o)))

-- a rank that is kept is owed at first
pub ranks_keep : (kept debts left : List ℕ) (word : Option ℕ) (r : ℕ) → AreRanks kept debts word → (Member r kept → ⊥) → ((h : ℕ → ℕ) → total h left ≡ total h debts + h r) → AreRanks (kept ++ r ∷ []) left word
ranks_keep kept debts left word r a fresh w =
    let unowed : Member r debts → ⊥ = λ i. fresh (each_in (λ x. Member x kept) r debts a.owed_kept i) in
    let owes : Member r left = member_times r left (omega (arith, w (λ y. one_if (eqb y r)), once_itself r)) in
    let longer : (x : ℕ) → Member x debts → Member x left = λ x i. member_more debts left x (omega (arith, w (λ y. one_if (eqb y x)))) i in
    record {
      owed_kept = each_within (λ x. Member x (kept ++ r ∷ [])) debts (r ∷ []) left (λ h. omega (arith, w h)) (each_map (λ x. Member x kept) (λ x. Member x (kept ++ r ∷ [])) debts (λ x i. member_left x kept (r ∷ []) i) a.owed_kept) (member_last r kept, tt);
      owed_once = once_more debts left r unowed w a.owed_once;
      kept_once = once_more kept (kept ++ r ∷ []) r fresh (λ h. total_snoc h kept r) a.kept_once;
      word_is = same_word kept debts (kept ++ r ∷ []) left
          (λ x o. (
            member_left x kept (r ∷ []) o.0,
            (λ i. elim (same_or r x) [
              | inl s ↦ fresh (subst (λ y. Member y kept) (sym s.0) o.0)
              | inr d ↦ o.1 (member_more left debts x (omega (arith, w (λ y. one_if (eqb y x)), ap one_if d.1)) i)
            ]),
          ))
          (λ x o. (
            elim (member_split x kept (r ∷ []) o.0) [
              | inl k ↦ k
              | inr e ↦ absurd (o.1 (subst (λ y. Member y left) (sym (member_one x r e)) owes))
            ],
            (λ i. o.1 (longer x i)),
          ))
          word a.word_is;
    }

least_of_two : (n k : ℕ) → (min n k ≡ n) ⊎ (min n k ≡ k)
least_of_two n k = dite (dec_le n k) (λ le. inl (omega arith)) (λ not. let l = lt_of_not-le not in inr (omega arith))

lesser_word : (kept debts left : List ℕ) (r : ℕ) → WasOffered kept left r → ((x : ℕ) → WasOffered kept debts x → WasOffered kept left x) → ((x : ℕ) → WasOffered kept left x → (x ≡ r) ⊎ WasOffered kept debts x) → (word : Option ℕ) → IsWord kept debts word → IsWord kept left (least_of word r)
lesser_word kept debts left r mine older newer None h = (mine, (λ x o. elim (newer x o) [ inl e ↦ omega (arith, e) | inr k ↦ absurd (h x k) ]))
lesser_word kept debts left r mine older newer (Some w) h = (
  elim (least_of_two w r) [ inl e ↦ subst (WasOffered kept left) (sym e) (older w h.0) | inr e ↦ subst (WasOffered kept left) (sym e) mine ],
  (λ x o. elim (newer x o) [ inl e ↦ omega (arith, e) | inr k ↦ omega (arith, h.1 x k) ]),
)

-- a rank that is offered is owed no more
pub ranks_offer : (kept debts left : List ℕ) (word : Option ℕ) (r : ℕ) → AreRanks kept debts word → ((h : ℕ → ℕ) → total h left + h r ≡ total h debts) → AreRanks kept left (least_of word r)
ranks_offer kept debts left word r a w =
    let shorter : (x : ℕ) → Member x left → Member x debts = λ x i. member_more left debts x (omega (arith, w (λ y. one_if (eqb y x)))) i in
    let owed : Member r debts = member_times r debts (omega (arith, w (λ y. one_if (eqb y r)), once_itself r)) in
    let gone : Member r left → ⊥ = λ i. absurd (omega (arith, w (λ y. one_if (eqb y r)), once_itself r, a.owed_once r, times_member r left i)) in
    record {
      owed_kept = each_within (λ x. Member x kept) debts [] left (λ h. omega (arith, w h)) a.owed_kept tt;
      owed_once = λ x. omega (arith, w (λ y. one_if (eqb y x)), a.owed_once x);
      kept_once = a.kept_once;
      word_is = lesser_word kept debts left r (each_in (λ x. Member x kept) r debts a.owed_kept owed, gone)
          (λ x o. (o.0, (λ i. o.1 (shorter x i))))
          (λ x o. elim (same_or r x) [
            | inl s ↦ inl (sym s.0)
            | inr d ↦ inr (o.0, (λ i. o.1 (member_more debts left x (omega (arith, w (λ y. one_if (eqb y x)), ap one_if d.1)) i)))
          ])
          word a.word_is;
    }

pub ranks_same : (kept debts left : List ℕ) (word : Option ℕ) → AreRanks kept debts word → left ≡ debts → AreRanks kept left word
ranks_same kept debts left word a e = subst (λ ds. AreRanks kept ds word) (sym e) a

-- what was seen
pub seen_more : (kept more : List ℕ) (word seen : Option ℕ) → IsSeen kept word seen → IsSeen (kept ++ more) word seen
seen_more kept more word None h = tt
seen_more kept more word (Some r) h = (member_left r kept more h.0, h.1)

pub seen_less : (kept : List ℕ) (r : ℕ) (word seen : Option ℕ) → IsSeen kept word seen → IsSeen kept (least_of word r) seen
seen_less kept r word None h = tt
seen_less kept r word (Some s) h = (h.0, (min h.1.0 r, ap (λ o. least_of o r) h.1.1, omega (arith, h.1.2)))

pub seen_word : (kept debts : List ℕ) (word : Option ℕ) → IsWord kept debts word → IsSeen kept word word
seen_word kept debts None h = tt
seen_word kept debts (Some w) h = (h.0.0, (w, refl, omega arith))
