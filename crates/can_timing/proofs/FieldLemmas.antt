-- What the least choice says of all timings.
use Rattle.std.proofs.Common.{◌≡◌, ℕ, List, true, ◌⊎◌, inl, inr, sym, ap, subst, ◌∙◌, arith}
use Rattle.std.proofs.lemmas.Bool.{cases_lt}
use Rattle.choice_rank.specs.Choices.{rank_of}
use Rattle.choice_rank.specs.Least.{IsLeast, NoneLegal}
use Rattle.choice_rank.proofs.ChoiceLemmas.{rank_same}
use Rattle.can_timing.specs.declared.request.Request.{Request}
use Rattle.can_timing.specs.declared.timing.Timing.{Timing}
use Rattle.can_timing.specs.Timings.{IsTiming, can_shape, serves, timing_of}
use Rattle.can_timing.specs.Judged.{legal}
use Rattle.can_timing.specs.Order.{ComesBefore}
use Rattle.can_timing.proofs.OrderLemmas.{comes_first}
use Rattle.can_timing.proofs.TimingLemmas.{in_ranges, has_choice}

module _ (q : Request) where
  pub no_timing : NoneLegal can_shape (legal q) → (t : Timing) → IsTiming t → serves q t ≡ true → ⊥
  no_timing none t r s = let c = has_choice t r in none c.0 c.1 (subst (λ u. serves q u ≡ true) (sym c.2) s)

  pub no_choice : ((t : Timing) → IsTiming t → serves q t ≡ true → ⊥) → NoneLegal can_shape (legal q)
  no_choice none = λ c i l. none (timing_of c) (in_ranges c i) l

  pub first : (c : List ℕ) → IsLeast can_shape (legal q) c → (t : Timing) → IsTiming t → serves q t ≡ true → (timing_of c ≡ t) ⊎ ComesBefore (timing_of c) t
  first c least t r s =
      let d = has_choice t r in
      let low = least.is_lowest d.0 d.1 (subst (λ u. serves q u ≡ true) (sym d.2) s) in
      elim (cases_lt (rank_of can_shape c) (rank_of can_shape d.0)) [
        | inl y ↦ inr (subst (λ u. ComesBefore (timing_of c) u) d.2 (comes_first c d.0 least.is_choice d.1 (omega (arith, y))))
        | inr n ↦
            let same : rank_of can_shape c ≡ rank_of can_shape d.0 = omega (arith, low, n) in
            inl (ap timing_of (rank_same can_shape c d.0 least.is_choice d.1 same) ∙ d.2)
      ]
