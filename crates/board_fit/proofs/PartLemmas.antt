-- A board's problem, and the problems of its parts.
use Rattle.std.proofs.Common.{◌≡◌, ℕ, zero, suc, ◌<◌, ◌++◌, ◌&&◌, List, [], ◌∷◌, length, drop, Bool, true, false, refl, sym, subst, ap, ◌∙◌, arith}
use Rattle.std.specs.Prelude.{is_none, map, slice_index, slice_index_or}
use Rattle.std.proofs.Math.Seq.{drop-append_seam}
use Rattle.std.proofs.lemmas.List.{get_or_append_left}
use Rattle.choice_rank.specs.Choices.{IsChoice, choices_of, cost_of, index_of, rank_of}
use Rattle.choice_rank.specs.Least.{IsLeast, NoneLegal}
use Rattle.choice_rank.specs.declared.variable.VarShape.{VarShape}
use Rattle.choice_rank.proofs.ChoiceLemmas.{choice_length}
use Rattle.problem.specs.ClockValues.{clock_at, clock_domains, clock_value, clock_variables}
use Rattle.problem.specs.Meets.{meets}
use Rattle.problem.specs.Problem.{clock_of, clock_shape, problem_of, shape_of}
use Rattle.problem.specs.declared.parts.Part.TheVariants.{Whole}
use Rattle.problem.proofs.AgreeLemmas.{ten_domains}
use Rattle.ioc_project.specs.Project.{fixes_clock}
use Rattle.report.specs.Placed.{uses_of}
use Rattle.res_model.specs.Clock.{facts_of}
use Rattle.res_model.specs.Limits.{broken_limit}
use Rattle.res_model.specs.Placement.{fits, uses_at}
use Rattle.res_model.specs.Values.{pin_values, pin_variables}
use Rattle.res_model.specs.declared.clock.ClockChoice.{ClockChoice}
use Rattle.res_model.specs.declared.clock.Facts.{Facts}
use Rattle.res_model.specs.declared.opts.Opts.{Opts}
use Rattle.res_model.specs.declared.project.Home.{Home}
use Rattle.res_model.specs.declared.project.Project.{Project}
use Rattle.res_model.specs.declared.table.PinUse.{PinUse}
use Rattle.res_model.specs.declared.table.TableParts.{TableParts}
use Rattle.board_fit.specs.Fixed.{all_settled, fixed}
use Rattle.board_fit.specs.Parts.{IsBoard, alone, alone_variables, clocks_of, firsts, home_alone, joined, one_value, pins_of, whole_of}
use Rattle.board_fit.proofs.FactsLemmas.{facts_kept}
use Rattle.joined_choices.proofs.JoinLemmas as joins
use Rattle.joined_choices.specs.Joined.{IsJoined}
use Rattle.board_fit.proofs.SettledLemmas.{AreSettled, all_settled_are}

-- ---- signals with one value

pub map_alone : (us : List PinUse) → map (λ (u : PinUse). home_alone) us ≡ alone_variables (length us)
map_alone [] = refl
map_alone (u ∷ us) = ap (λ (vs : List VarShape). home_alone ∷ vs) (map_alone us)

pub firsts_choice : (n : ℕ) → IsChoice (alone_variables n) (firsts n)
firsts_choice zero = tt
firsts_choice (suc n) = (omega arith, firsts_choice n)

pub only_firsts : (n : ℕ) (at : List ℕ) → IsChoice (alone_variables n) at → at ≡ firsts n
only_firsts zero [] h = refl
only_firsts zero (x ∷ at) h = absurd h
only_firsts (suc n) [] h = absurd h
only_firsts (suc n) (x ∷ at) h =
    let first : x ≡ 0 = omega (arith, h.0) in
    ap (λ (y : ℕ). y ∷ at) first ∙ ap (λ (l : List ℕ). 0 ∷ l) (only_firsts n at h.1)

pub alone_choices : (n : ℕ) → choices_of (alone_variables n) ≡ 1
alone_choices zero = refl
alone_choices (suc n) = omega (arith, alone_choices n)

pub alone_cost : (n : ℕ) → cost_of (alone_variables n) (firsts n) ≡ 0
alone_cost zero = refl
alone_cost (suc n) = omega (arith, alone_cost n)

pub alone_index : (n : ℕ) → index_of (alone_variables n) (firsts n) ≡ 0
alone_index zero = refl
alone_index (suc n) = omega (arith, alone_index n)

-- the first of each one value is the value
pub first_uses : (us : List PinUse) → uses_at (map one_value us) (firsts (length us)) ≡ us
first_uses [] = refl
first_uses (u ∷ us) = ap (λ (l : List PinUse). u ∷ l) (first_uses us)

-- ---- the clock variables read their own positions alone

value_joined : (values : List (List ℕ)) (ks xs : List ℕ) (k : ℕ) → k < length ks → clock_value values (ks ++ xs) k ≡ clock_value values ks k
value_joined values ks xs k l = ap (λ (i : ℕ). slice_index (slice_index_or values k []) i) (get_or_append_left ks xs 0 k l)

pub clock_joined : (values : List (List ℕ)) (ks xs : List ℕ) → length ks ≡ 10 → clock_at values (ks ++ xs) ≡ clock_at values ks
unfolding clock_at
clock_joined values ks xs ten =
    cc (
      value_joined values ks xs 0 (omega (arith, ten)),
      value_joined values ks xs 1 (omega (arith, ten)),
      value_joined values ks xs 2 (omega (arith, ten)),
      value_joined values ks xs 3 (omega (arith, ten)),
      value_joined values ks xs 4 (omega (arith, ten)),
      value_joined values ks xs 5 (omega (arith, ten)),
      value_joined values ks xs 6 (omega (arith, ten)),
      value_joined values ks xs 7 (omega (arith, ten)),
      value_joined values ks xs 8 (omega (arith, ten)),
      value_joined values ks xs 9 (omega (arith, ten)),
    )

pub drop_ten : (ks xs : List ℕ) → length ks ≡ 10 → drop 10 (ks ++ xs) ≡ xs
drop_ten ks xs ten = ap (λ (n : ℕ). drop n (ks ++ xs)) (sym ten) ∙ drop-append_seam ks xs

-- ---- the parts

variables_length : (fixes : Bool) (ds : List (List ℕ)) (hs : List Home) → length hs ≡ length ds → length (clock_variables fixes ds hs) ≡ length ds
variables_length fixes [] hs e = refl
variables_length fixes (d ∷ ds) [] e = absurd (omega (arith, e))
variables_length fixes (d ∷ ds) (h ∷ hs) e = ap suc (variables_length fixes ds hs (omega (arith, e)))

module _ (t : TableParts) (p : Project) (opts : Opts) (board : IsBoard t p opts) where
  -- the clock variables, and those of the signals
  abbrev pub clocks : List VarShape
  clocks = clock_shape t p opts Whole

  abbrev pub pins : List VarShape
  pins = pin_variables t p.signals

  abbrev pub values : List (List ℕ)
  values = clock_of t p opts Whole

  pub ten_clocks : length clocks ≡ 10
  ten_clocks = variables_length (fixes_clock opts.free) (clock_domains t) p.clock (board.ten ∙ sym (ten_domains t)) ∙ ten_domains t

  pub ten_places : (ks : List ℕ) → IsChoice clocks ks → length ks ≡ 10
  ten_places ks choice = choice_length clocks ks choice ∙ ten_clocks

  pub whole_shape : (whole_of t p opts).shape ≡ clocks ++ pins
  unfolding problem_of shape_of
  whole_shape = refl

  pub pins_shape : (pins_of t p opts).shape ≡ pins
  unfolding problem_of shape_of
  pins_shape = refl

  -- whether clocks meet their limits
  pub met_clocks : List ℕ → Bool
  met_clocks ks = is_none (broken_limit t (facts_of t p opts) (clock_at values ks))

  pub pins_meet : (at : List ℕ) → meets (pins_of t p opts) at ≡ fits t (uses_at (pin_values t p.signals) at)
  unfolding problem_of meets
  pins_meet at = and_true (fits t (uses_at (pin_values t p.signals) at))
    where
      and_true : (b : Bool) → (b && true) ≡ b
      and_true true = refl
      and_true false = refl

  pub whole_meet : (ks at : List ℕ) → IsChoice clocks ks → meets (whole_of t p opts) (ks ++ at) ≡ (met_clocks ks && meets (pins_of t p opts) at)
  unfolding problem_of meets met_clocks
  whole_meet ks at choice =
      let ten = ten_places ks choice in
      ap (λ (l : List ℕ). fits t (uses_at (pin_values t p.signals) l) && is_none (broken_limit t (facts_of t p opts) (clock_at values (ks ++ at)))) (drop_ten ks at ten)
      ∙ ap (λ (c : ClockChoice). fits t (uses_at (pin_values t p.signals) at) && is_none (broken_limit t (facts_of t p opts) c)) (clock_joined values ks at ten)
      ∙ swap (fits t (uses_at (pin_values t p.signals) at)) (is_none (broken_limit t (facts_of t p opts) (clock_at values ks)))
    where
      swap : (a b : Bool) → (a && b) ≡ (b && (a && true))
      swap true true = refl
      swap true false = refl
      swap false true = refl
      swap false false = refl

  module _ (at : List ℕ) (placement : IsChoice (pins_of t p opts).shape at) where
    abbrev pub us : List PinUse
    us = uses_of (pins_of t p opts) at

    uses_are : us ≡ uses_at (pin_values t p.signals) at
    unfolding problem_of
    uses_are = refl

    pub settled_are : AreSettled t p.signals us
    settled_are = subst (AreSettled t p.signals) (sym uses_are) (all_settled_are t p.signals at board.valid (subst (λ (vs : List VarShape). IsChoice vs at) pins_shape placement))

    fixed_shape : (clocks_of t p opts at).shape ≡ clocks ++ pin_variables t (all_settled p.signals us)
    unfolding problem_of shape_of fixed
    fixed_shape = refl

    pub clocks_shape : (clocks_of t p opts at).shape ≡ clocks ++ alone_variables (length p.signals)
    clocks_shape =
        fixed_shape
        ∙ ap (λ (vs : List VarShape). clocks ++ vs) (settled_are.variables ∙ map_alone us ∙ ap alone_variables settled_are.many)

    pub clocks_uses : (clocks_of t p opts at).uses ≡ map one_value us
    unfolding problem_of fixed
    clocks_uses = settled_are.values

    pub clocks_facts : (clocks_of t p opts at).facts ≡ (whole_of t p opts).facts
    unfolding problem_of
    clocks_facts = facts_kept t p us opts

    pub clocks_values : (clocks_of t p opts at).clock ≡ (whole_of t p opts).clock
    unfolding problem_of fixed
    clocks_values = refl

    pub clocks_first : (clocks_of t p opts at).first ≡ 10
    unfolding problem_of
    clocks_first = refl

    pub clocks_tables : (clocks_of t p opts at).tables ≡ t
    unfolding problem_of
    clocks_tables = refl

    pub many_uses : length us ≡ length p.signals
    many_uses = settled_are.many

    -- the clocks beside a placement meet where they meet their limits and the placement meets
    pub clocks_meet : (ks : List ℕ) → IsChoice clocks ks → meets (clocks_of t p opts at) (alone p ks) ≡ (met_clocks ks && meets (pins_of t p opts) at)
    unfolding problem_of meets fixed met_clocks
    clocks_meet ks choice =
        let ten = ten_places ks choice in
        let n : ℕ = length p.signals in
        let kept : uses_at (pin_values t (all_settled p.signals us)) (firsts n) ≡ us =
        ap (λ (vss : List (List PinUse)). uses_at vss (firsts n)) settled_are.values ∙ ap (λ (m : ℕ). uses_at (map one_value us) (firsts m)) (sym many_uses) ∙ first_uses us in
        ap (λ (l : List ℕ). fits t (uses_at (pin_values t (all_settled p.signals us)) l) && is_none (broken_limit t (facts_of t (fixed p us) opts) (clock_at values (ks ++ firsts n)))) (drop_ten ks (firsts n) ten)
        ∙ ap (λ (l : List PinUse). fits t l && is_none (broken_limit t (facts_of t (fixed p us) opts) (clock_at values (ks ++ firsts n)))) kept
        ∙ ap (λ (c : ClockChoice). fits t us && is_none (broken_limit t (facts_of t (fixed p us) opts) c)) (clock_joined values ks (firsts n) ten)
        ∙ ap (λ (f : Facts). fits t us && is_none (broken_limit t f (clock_at values ks))) (facts_kept t p us opts)
        ∙ swapped (fits t us) (is_none (broken_limit t (facts_of t p opts) (clock_at values ks)))
      where
        swapped : (a b : Bool) → (a && b) ≡ (b && (a && true))
        swapped true true = refl
        swapped true false = refl
        swapped false true = refl
        swapped false false = refl

    -- the same of every choice of the part of the clocks
    fixed_parts : (xs ys : List ℕ) → IsChoice clocks xs → IsChoice (alone_variables (length p.signals)) ys → meets (clocks_of t p opts at) (xs ++ ys) ≡ (met_clocks xs && meets (pins_of t p opts) at)
    fixed_parts xs ys hx hy = ap (λ (l : List ℕ). meets (clocks_of t p opts at) (xs ++ l)) (only_firsts (length p.signals) ys hy) ∙ clocks_meet xs hx

    whole_parts : (xs ys : List ℕ) → IsChoice clocks xs → IsChoice pins ys → meets (whole_of t p opts) (xs ++ ys) ≡ (met_clocks xs && meets (pins_of t p opts) ys)
    whole_parts xs ys hx hy = whole_meet xs ys hx

    placement_of : IsChoice pins at
    placement_of = subst (λ (vs : List VarShape). IsChoice vs at) pins_shape placement

    -- a choice of the part of the clocks
    pub alone_choice : (ks : List ℕ) → IsChoice clocks ks → IsChoice (clocks_of t p opts at).shape (alone p ks)
    alone_choice ks choice = subst (λ (vs : List VarShape). IsChoice vs (alone p ks)) (sym clocks_shape) (joins.choice_join clocks (alone_variables (length p.signals)) ks (firsts (length p.signals)) choice (firsts_choice (length p.signals)))

    -- each is so
    pub choice_alone : (k : List ℕ) → IsChoice (clocks_of t p opts at).shape k → (ks : List ℕ) × IsChoice clocks ks × (k ≡ alone p ks)
    choice_alone k choice =
        let r : IsJoined clocks (alone_variables (length p.signals)) k = joins.choice_parts clocks (alone_variables (length p.signals)) k (subst (λ (vs : List VarShape). IsChoice vs k) clocks_shape choice) in
        (r.prefix, r.prefix_choice, r.is ∙ ap (λ (l : List ℕ). r.prefix ++ l) (only_firsts (length p.signals) r.suffix r.suffix_choice))

    firsts_least : meets (pins_of t p opts) at ≡ true → IsLeast (alone_variables (length p.signals)) (λ ys. meets (pins_of t p opts) at) (firsts (length p.signals))
    firsts_least ok = record {
      is_choice = firsts_choice (length p.signals);
      is_legal = ok;
      is_lowest = λ other choice e.
          let same : rank_of (alone_variables (length p.signals)) other ≡ rank_of (alone_variables (length p.signals)) (firsts (length p.signals)) = ap (rank_of (alone_variables (length p.signals))) (only_firsts (length p.signals) other choice) in
          omega (arith, same);
    }

    -- the least clocks beside a placement that meets are the least clocks
    pub least_clocks : (ks : List ℕ) → IsChoice clocks ks → IsLeast (clocks_of t p opts at).shape (meets (clocks_of t p opts at)) (alone p ks) → IsLeast clocks met_clocks ks
    least_clocks ks choice l =
        joins.least_prefix clocks (alone_variables (length p.signals)) (meets (clocks_of t p opts at)) met_clocks (λ ys. meets (pins_of t p opts) at) fixed_parts ks (firsts (length p.signals)) choice (firsts_choice (length p.signals))
        (subst (λ (vs : List VarShape). IsLeast vs (meets (clocks_of t p opts at)) (alone p ks)) clocks_shape l)

    pub clocks_least : (ks : List ℕ) → meets (pins_of t p opts) at ≡ true → IsLeast clocks met_clocks ks → IsLeast (clocks_of t p opts at).shape (meets (clocks_of t p opts at)) (alone p ks)
    clocks_least ks ok l =
        subst (λ (vs : List VarShape). IsLeast vs (meets (clocks_of t p opts at)) (alone p ks)) (sym clocks_shape)
        (joins.least_joined clocks (alone_variables (length p.signals)) (meets (clocks_of t p opts at)) met_clocks (λ ys. meets (pins_of t p opts) at) fixed_parts ks (firsts (length p.signals)) l (firsts_least ok))

    -- ---- least

    pub least_of_parts : (ks : List ℕ) → IsChoice clocks ks → IsLeast (pins_of t p opts).shape (meets (pins_of t p opts)) at → IsLeast (clocks_of t p opts at).shape (meets (clocks_of t p opts at)) (alone p ks) → IsLeast (whole_of t p opts).shape (meets (whole_of t p opts)) (joined ks at)
    least_of_parts ks choice l m =
        subst (λ (vs : List VarShape). IsLeast vs (meets (whole_of t p opts)) (joined ks at)) (sym whole_shape)
        (joins.least_joined clocks pins (meets (whole_of t p opts)) met_clocks (meets (pins_of t p opts)) whole_parts ks at (least_clocks ks choice m)
        (subst (λ (vs : List VarShape). IsLeast vs (meets (pins_of t p opts)) at) pins_shape l))

    pub parts_of_least : (ks : List ℕ) → IsChoice clocks ks → IsLeast (whole_of t p opts).shape (meets (whole_of t p opts)) (joined ks at) → IsLeast (pins_of t p opts).shape (meets (pins_of t p opts)) at × IsLeast (clocks_of t p opts at).shape (meets (clocks_of t p opts at)) (alone p ks)
    parts_of_least ks choice l =
        let low = subst (λ (vs : List VarShape). IsLeast vs (meets (whole_of t p opts)) (joined ks at)) whole_shape l in
        let suffix : IsLeast pins (meets (pins_of t p opts)) at = joins.least_suffix clocks pins (meets (whole_of t p opts)) met_clocks (meets (pins_of t p opts)) whole_parts ks at choice placement_of low in
        let prefix : IsLeast clocks met_clocks ks = joins.least_prefix clocks pins (meets (whole_of t p opts)) met_clocks (meets (pins_of t p opts)) whole_parts ks at choice placement_of low in (
          subst (λ (vs : List VarShape). IsLeast vs (meets (pins_of t p opts)) at) (sym pins_shape) suffix,
          clocks_least ks suffix.is_legal prefix,
        )

    -- ---- none

    pub none_beside : meets (pins_of t p opts) at ≡ true → NoneLegal (clocks_of t p opts at).shape (meets (clocks_of t p opts at)) → NoneLegal (whole_of t p opts).shape (meets (whole_of t p opts))
    none_beside ok none =
        let no_clocks : NoneLegal clocks met_clocks =
        joins.no_prefix clocks (alone_variables (length p.signals)) (meets (clocks_of t p opts at)) met_clocks (λ ys. meets (pins_of t p opts) at) fixed_parts (firsts (length p.signals)) (firsts_choice (length p.signals)) ok
        (subst (λ (vs : List VarShape). NoneLegal vs (meets (clocks_of t p opts at))) clocks_shape none) in
        subst (λ (vs : List VarShape). NoneLegal vs (meets (whole_of t p opts))) (sym whole_shape)
        (joins.none_prefix clocks pins (meets (whole_of t p opts)) met_clocks (meets (pins_of t p opts)) whole_parts no_clocks)

    pub none_of_whole : meets (pins_of t p opts) at ≡ true → NoneLegal (whole_of t p opts).shape (meets (whole_of t p opts)) → NoneLegal (clocks_of t p opts at).shape (meets (clocks_of t p opts at))
    none_of_whole ok none =
        let no_clocks : NoneLegal clocks met_clocks =
        joins.no_prefix clocks pins (meets (whole_of t p opts)) met_clocks (meets (pins_of t p opts)) whole_parts at placement_of ok
        (subst (λ (vs : List VarShape). NoneLegal vs (meets (whole_of t p opts))) whole_shape none) in
        subst (λ (vs : List VarShape). NoneLegal vs (meets (clocks_of t p opts at))) (sym clocks_shape)
        (joins.none_prefix clocks (alone_variables (length p.signals)) (meets (clocks_of t p opts at)) met_clocks (λ ys. meets (pins_of t p opts) at) fixed_parts no_clocks)

  whole_split : (xs ys : List ℕ) → IsChoice clocks xs → IsChoice pins ys → meets (whole_of t p opts) (xs ++ ys) ≡ (met_clocks xs && meets (pins_of t p opts) ys)
  whole_split xs ys hx hy = whole_meet xs ys hx

  pub none_placed : NoneLegal (pins_of t p opts).shape (meets (pins_of t p opts)) → NoneLegal (whole_of t p opts).shape (meets (whole_of t p opts))
  none_placed none =
      subst (λ (vs : List VarShape). NoneLegal vs (meets (whole_of t p opts))) (sym whole_shape)
      (joins.none_suffix clocks pins (meets (whole_of t p opts)) met_clocks (meets (pins_of t p opts)) whole_split
      (subst (λ (vs : List VarShape). NoneLegal vs (meets (pins_of t p opts))) pins_shape none))
