-- The parts of the law of pins and clocks.
use Rattle.std.proofs.Common.{◌≡◌, ◌⊎◌, inl, inr, ℕ, ◌+◌, ◌*◌, ◌++◌, ◌&&◌, List, length, map, Bool, true, false, refl, sym, ap, ◌∙◌, arith}
use Rattle.std.specs.Prelude.{◌↔◌}
use Rattle.choice_rank.specs.Choices.{IsChoice, choices_of, cost_of, index_of}
use Rattle.choice_rank.specs.Least.{IsLeast, NoneLegal}
use Rattle.choice_rank.specs.declared.variable.VarShape.{VarShape}
use Rattle.problem.specs.Meets.{meets}
use Rattle.problem.specs.Problem.{clock_shape}
use Rattle.problem.specs.declared.parts.Part.TheVariants.{Whole}
use Rattle.report.specs.Placed.{uses_of}
use Rattle.res_model.specs.Values.{pin_variables}
use Rattle.res_model.specs.declared.opts.Opts.{Opts}
use Rattle.res_model.specs.declared.project.Project.{Project}
use Rattle.res_model.specs.declared.table.TableParts.{TableParts}
use Rattle.board_fit.specs.Parts.{IsBoard, alone, alone_variables, clocks_of, firsts, joined, one_value, pins_of, whole_of}
use Rattle.joined_choices.proofs.JoinLemmas as joins
use Rattle.board_fit.proofs.PartLemmas as parts
use Rattle.board_fit.proofs.SomeLemmas.{HasLegal, some_or_none}

swapped : (c a : Bool) → (c && a) ≡ (a && (c && a))
swapped true true = refl
swapped true false = refl
swapped false true = refl
swapped false false = refl

with_true : (c a : Bool) → a ≡ true → (c && a) ≡ c
with_true true a e = e
with_true false a e = refl

module _ (t : TableParts) (p : Project) (opts : Opts) where
  pub whole_shape : IsBoard t p opts → (whole_of t p opts).shape ≡ clock_shape t p opts Whole ++ (pins_of t p opts).shape
  whole_shape board = parts.whole_shape t p opts board ∙ ap (λ (vs : List VarShape). clock_shape t p opts Whole ++ vs) (sym (parts.pins_shape t p opts board))

  module _ (clocks at : List ℕ) (board : IsBoard t p opts) (chosen : IsChoice (clock_shape t p opts Whole) clocks) (placement : IsChoice (pins_of t p opts).shape at) where
    cs : List VarShape
    cs = clock_shape t p opts Whole

    ps : List VarShape
    ps = pin_variables t p.signals

    n : ℕ
    n = length p.signals

    pub both : meets (whole_of t p opts) (joined clocks at) ≡ (meets (pins_of t p opts) at && meets (clocks_of t p opts at) (alone p clocks))
    both =
        parts.whole_meet t p opts board clocks at chosen
        ∙ swapped (parts.met_clocks t p opts board clocks) (meets (pins_of t p opts) at)
        ∙ ap (λ (b : Bool). meets (pins_of t p opts) at && b) (sym (parts.clocks_meet t p opts board at placement clocks chosen))

    pub clocks_alone : meets (pins_of t p opts) at ≡ true → meets (clocks_of t p opts at) (alone p clocks) ≡ parts.met_clocks t p opts board clocks
    clocks_alone ok = parts.clocks_meet t p opts board at placement clocks chosen ∙ with_true (parts.met_clocks t p opts board clocks) (meets (pins_of t p opts) at) ok

    pub cost : cost_of (whole_of t p opts).shape (joined clocks at) ≡ cost_of (clocks_of t p opts at).shape (alone p clocks) + cost_of (pins_of t p opts).shape at
    unfolding cs ps n
    cost =
        let w : cost_of (whole_of t p opts).shape (joined clocks at) ≡ cost_of cs clocks + cost_of ps at = ap (λ (vs : List VarShape). cost_of vs (joined clocks at)) (parts.whole_shape t p opts board) ∙ joins.cost_join cs ps clocks at chosen in
        let q : cost_of (pins_of t p opts).shape at ≡ cost_of ps at = ap (λ (vs : List VarShape). cost_of vs at) (parts.pins_shape t p opts board) in
        let c : cost_of (clocks_of t p opts at).shape (alone p clocks) ≡ cost_of cs clocks + cost_of (alone_variables n) (firsts n) =
        ap (λ (vs : List VarShape). cost_of vs (alone p clocks)) (parts.clocks_shape t p opts board at placement) ∙ joins.cost_join cs (alone_variables n) clocks (firsts n) chosen in
        omega (arith, w, q, c, parts.alone_cost n)

    clocks_index : index_of (clocks_of t p opts at).shape (alone p clocks) ≡ index_of cs clocks
    unfolding cs n
    clocks_index =
        let c : index_of (clocks_of t p opts at).shape (alone p clocks) ≡ index_of cs clocks * choices_of (alone_variables n) + index_of (alone_variables n) (firsts n) =
        ap (λ (vs : List VarShape). index_of vs (alone p clocks)) (parts.clocks_shape t p opts board at placement) ∙ joins.index_join cs (alone_variables n) clocks (firsts n) chosen in
        let one : index_of cs clocks * choices_of (alone_variables n) ≡ index_of cs clocks * 1 = ap (λ (m : ℕ). index_of cs clocks * m) (parts.alone_choices n) in
        omega (arith, c, one, parts.alone_index n)

    pub index : index_of (whole_of t p opts).shape (joined clocks at) ≡ index_of (clocks_of t p opts at).shape (alone p clocks) * choices_of (pins_of t p opts).shape + index_of (pins_of t p opts).shape at
    unfolding cs ps
    index =
        ap (λ (vs : List VarShape). index_of vs (joined clocks at)) (parts.whole_shape t p opts board)
        ∙ joins.index_join cs ps clocks at chosen
        ∙ ap (λ (i : ℕ). i * choices_of ps + index_of ps at) (sym clocks_index)
        ∙ ap (λ (vs : List VarShape). index_of (clocks_of t p opts at).shape (alone p clocks) * choices_of vs + index_of vs at) (sym (parts.pins_shape t p opts board))

    pub least : IsLeast (whole_of t p opts).shape (meets (whole_of t p opts)) (joined clocks at) ↔ (IsLeast (pins_of t p opts).shape (meets (pins_of t p opts)) at × IsLeast (clocks_of t p opts at).shape (meets (clocks_of t p opts at)) (alone p clocks))
    least = (λ l. parts.parts_of_least t p opts board at placement clocks chosen l, λ h. parts.least_of_parts t p opts board at placement clocks chosen h.0 h.1)

  pub none : (at : List ℕ) → IsBoard t p opts → IsChoice (pins_of t p opts).shape at → meets (pins_of t p opts) at ≡ true → NoneLegal (whole_of t p opts).shape (meets (whole_of t p opts)) ↔ NoneLegal (clocks_of t p opts at).shape (meets (clocks_of t p opts at))
  none at board placement ok = (λ n. parts.none_of_whole t p opts board at placement ok n, λ n. parts.none_beside t p opts board at placement ok n)

  -- either no placement meets them, or no clocks do beside one that does
  pub either : IsBoard t p opts → NoneLegal (whole_of t p opts).shape (meets (whole_of t p opts))
      ↔ (NoneLegal (pins_of t p opts).shape (meets (pins_of t p opts)) ⊎ ((at : List ℕ) × IsChoice (pins_of t p opts).shape at × (meets (pins_of t p opts) at ≡ true) × NoneLegal (clocks_of t p opts at).shape (meets (clocks_of t p opts at))))
  either board = (λ n. there n (some_or_none (pins_of t p opts).shape (meets (pins_of t p opts))), back)
    where
      there : NoneLegal (whole_of t p opts).shape (meets (whole_of t p opts)) → NoneLegal (pins_of t p opts).shape (meets (pins_of t p opts)) ⊎ HasLegal (pins_of t p opts).shape (meets (pins_of t p opts))
          → NoneLegal (pins_of t p opts).shape (meets (pins_of t p opts)) ⊎ ((at : List ℕ) × IsChoice (pins_of t p opts).shape at × (meets (pins_of t p opts) at ≡ true) × NoneLegal (clocks_of t p opts at).shape (meets (clocks_of t p opts at)))
      there n (inl none) = inl none
      there n (inr h) = inr (h.at, h.choice, h.is_legal, parts.none_of_whole t p opts board h.at h.choice h.is_legal n)

      back : NoneLegal (pins_of t p opts).shape (meets (pins_of t p opts)) ⊎ ((at : List ℕ) × IsChoice (pins_of t p opts).shape at × (meets (pins_of t p opts) at ≡ true) × NoneLegal (clocks_of t p opts at).shape (meets (clocks_of t p opts at)))
          → NoneLegal (whole_of t p opts).shape (meets (whole_of t p opts))
      back (inl none) = parts.none_placed t p opts board none
      back (inr h) = parts.none_beside t p opts board h.0 h.1 h.2 h.3

  pub uses : (at : List ℕ) → IsBoard t p opts → IsChoice (pins_of t p opts).shape at → (clocks_of t p opts at).uses ≡ map one_value (uses_of (pins_of t p opts) at)
  uses at board placement = parts.clocks_uses t p opts board at placement
