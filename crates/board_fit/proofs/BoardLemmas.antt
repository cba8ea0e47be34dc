-- The project of a placement makes a board again, whose parts judge as they should.
use Rattle.std.proofs.Common.{◌≡◌, ◌≢◌, ℕ, zero, suc, ◌+◌, ◌<◌, ◌≤◌, ◌++◌, List, [], ◌∷◌, length, get_or, true, Option, Some, None, refl, sym, subst, ap, ◌∙◌, arith}
use Rattle.std.specs.Prelude.{map, slice_get}
use Rattle.std.specs.Option.{option_map_or}
use Rattle.res_base.specs.Lists.{Each}
use Rattle.res_base.proofs.ListLemmas.{each_map}
use Rattle.res_base.specs.declared.var_set.VarSet.{VarSet}
use Rattle.choice_rank.specs.Choices.{HasPositions, IsChoice, IsNarrow}
use Rattle.choice_rank.specs.Least.{NoneLegal}
use Rattle.choice_rank.specs.declared.variable.VarShape.{VarShape}
use Rattle.box_rules.specs.Contest.{contestants, hall_in, resource_of}
use Rattle.box_rules.specs.Inside.{AreInside}
use Rattle.box_rules.specs.Judged.{HasResources, IsWhole, whole_meaning}
use Rattle.box_rules.proofs.ContestLemmas.{box_inside, use_has}
use Rattle.box_rules.proofs.JudgeLemmas.{found_hall_refutes, no_choice_fits, nothing}
use Rattle.box_rules.proofs.WholeLemmas.{whole_lawful}
use Rattle.box_split.specs.Boxes.{IsBox, LiesIn, Run, is_single, whole}
use Rattle.box_split.proofs.PathLemmas.{whole_box}
use Rattle.ioc_project.specs.Project.{fixes_clock}
use Rattle.problem.specs.Meets.{meets}
use Rattle.problem.specs.Problem.{HaveValues, IsProblem, clock_shape, problem_of, shape_of}
use Rattle.problem.specs.declared.parts.Part.TheVariants.{PinsOnly, Whole}
use Rattle.problem.proofs.AgreeLemmas as agreed
use Rattle.refutation.specs.Canonical.{IsCanonicalOf}
use Rattle.refutation.specs.Trees.{IsAccepted}
use Rattle.refutation.specs.declared.node.Node.{Node}
use Rattle.report.specs.Placed.{uses_of}
use Rattle.res_model.specs.Placement.{fits, uses_at}
use Rattle.res_model.specs.Valid.{IsPin, IsValid}
use Rattle.res_model.specs.Values.{pin_values, pin_variables}
use Rattle.res_model.specs.declared.clock.Facts.{Facts}
use Rattle.res_model.specs.declared.opts.Opts.{Opts}
use Rattle.res_model.specs.declared.project.Project.{Project}
use Rattle.res_model.specs.declared.project.Signal.{Signal}
use Rattle.res_model.specs.declared.table.Pin.{Pin}
use Rattle.res_model.specs.declared.table.PinUse.{PinUse}
use Rattle.res_model.specs.declared.table.TableParts.{TableParts}
use Rattle.search_api.specs.declared.verdict.Class.{Class}
use Rattle.search_api.specs.declared.verdict.Class.TheVariants.{Exti, Pins}
use Rattle.board_fit.specs.Fixed.{all_settled, fixed}
use Rattle.board_fit.specs.Parts.{IsBoard, alone_variables, clocks_of, firsts, one_value, pins_of, whole_of}
use Rattle.board_fit.proofs.CanonLemmas as canon
use Rattle.board_fit.proofs.FactsLemmas.{facts_kept}
use Rattle.board_fit.proofs.NarrowLemmas.{clocks_narrow}
use Rattle.board_fit.proofs.PartLemmas as parts
use Rattle.board_fit.proofs.SettledLemmas.{AreSettled, all_placed, members_within, settled_length}

-- ---- resources

numbers_small : (ps : List Pin) → Each IsPin ps → (i : ℕ) → option_map_or (λ (p : Pin). p.number) (slice_get ps i) 0 < 192
numbers_small [] h i = omega arith
numbers_small (p ∷ ps) h zero = omega (arith, h.0.on_port.number)
numbers_small (p ∷ ps) h (suc i) = numbers_small ps h.1 i

has_resources : (t : TableParts) → IsValid t → (u : PinUse) → u.pin < length t.pins → HasResources t u
has_resources t valid u l = (omega (arith, l, valid.pins.few), numbers_small t.pins valid.pins.each u.pin)

have_resources : (t : TableParts) → IsValid t → (uses : List (List PinUse)) → Each (Each (λ (u : PinUse). u.pin < length t.pins)) uses → Each (Each (HasResources t)) uses
have_resources t valid uses h = each_map (Each (λ (u : PinUse). u.pin < length t.pins)) (Each (HasResources t)) uses (λ us k. each_map (λ (u : PinUse). u.pin < length t.pins) (HasResources t) us (has_resources t valid) k) h

small_of : (t : TableParts) (class : Class) (u : PinUse) → HasResources t u → resource_of t class u < 192
small_of t Pins u h = h.0
small_of t Exti u h = h.1

-- where a choice of a box fits, no signals of it are too many
pub placed_none : (t : TableParts) (class : Class) (uses : List (List PinUse)) (rs : List Run) (choice : List ℕ) → AreInside uses rs → LiesIn rs choice → Each (Each (HasResources t)) uses → 10 + length uses ≤ 192 → fits t (uses_at uses choice) ≡ true → hall_in t class (contestants class 10 uses rs) ≡ None
placed_none t class uses rs choice inside lies resources few ok = case (hall_in t class (contestants class 10 uses rs)) refl
  where
    small : (j : ℕ) → j < length (uses_at uses choice) → resource_of t class (get_or (uses_at uses choice) j nothing) < 192
    small j l = small_of t class (get_or (uses_at uses choice) j nothing) (use_has (HasResources t) nothing uses rs choice inside lies resources j l)

    case : (o : Option VarSet) → hall_in t class (contestants class 10 uses rs) ≡ o → hall_in t class (contestants class 10 uses rs) ≡ None
    case None e = e
    case (Some vars) e = absurd (no_choice_fits t class 10 uses rs choice inside lies small vars (found_hall_refutes t class 10 uses rs few vars e) ok)

pub lies_whole : (vs : List VarShape) (xs : List ℕ) → IsChoice vs xs → LiesIn (whole vs) xs
lies_whole [] [] h = tt
lies_whole [] (x ∷ xs) h = absurd h
lies_whole (v ∷ vs) [] h = absurd h
lies_whole (v ∷ vs) (x ∷ xs) h = (omega arith, omega (arith, h.0), lies_whole vs xs h.1)

pub values_for : (t : TableParts) (ss : List Signal) → HaveValues (pin_variables t ss) (pin_values t ss)
values_for t [] = tt
values_for t (s ∷ ss) = (refl, values_for t ss)

pub values_many : (t : TableParts) (ss : List Signal) → length (pin_values t ss) ≡ length ss
values_many t [] = refl
values_many t (s ∷ ss) = ap suc (values_many t ss)

pub ones_single : (n : ℕ) → is_single (whole (alone_variables n)) ≡ true
ones_single zero = refl
ones_single (suc n) = ones_single n

pub ones_positions : (n : ℕ) → HasPositions (alone_variables n)
ones_positions zero = tt
ones_positions (suc n) = (omega arith, ones_positions n)

module _ (t : TableParts) (p : Project) (opts : Opts) (board : IsBoard t p opts) where
  pub pins_positions : HasPositions (pin_variables t p.signals)
  unfolding shape_of
  pins_positions = agreed.shape_positions t p opts PinsOnly board.valid board.ten board.few board.placed tt

  pub whole_positions : HasPositions (clock_shape t p opts Whole ++ pin_variables t p.signals)
  unfolding shape_of
  whole_positions = agreed.shape_positions t p opts Whole board.valid board.ten board.few board.placed board.homes

  pub pinned : Each (Each (λ (u : PinUse). u.pin < length t.pins)) (pin_values t p.signals)
  pinned = agreed.all_pinned t p.signals board.valid board.placed

  pub resources : Each (Each (HasResources t)) (pin_values t p.signals)
  resources = have_resources t board.valid (pin_values t p.signals) pinned

  pub inside : AreInside (pin_values t p.signals) (whole (pin_variables t p.signals))
  inside = box_inside (pin_variables t p.signals) (pin_values t p.signals) (whole (pin_variables t p.signals)) (values_for t p.signals) (whole_box (pin_variables t p.signals) pins_positions)

  pub few_uses : 10 + length (pin_values t p.signals) ≤ 192
  few_uses = omega (arith, values_many t p.signals, board.few)

  pub clocks_positions : HasPositions (clock_shape t p opts Whole)
  clocks_positions = prefix (clock_shape t p opts Whole) (pin_variables t p.signals) whole_positions
    where
      prefix : (vs ws : List VarShape) → HasPositions (vs ++ ws) → HasPositions vs
      prefix [] ws h = tt
      prefix (v ∷ vs) ws h = (h.0, prefix vs ws h.1)

  pub clocks_box : IsBox (clock_shape t p opts Whole) (whole (clock_shape t p opts Whole))
  clocks_box = whole_box (clock_shape t p opts Whole) clocks_positions

  module _ (at : List ℕ) (placement : IsChoice (pins_of t p opts).shape at) where
    abbrev us : List PinUse
    us = uses_of (pins_of t p opts) at

    settled_are : AreSettled t p.signals us
    settled_are = parts.settled_are t p opts board at placement

    -- the project of the placement makes a board
    pub fixed_board : IsBoard t (fixed p us) opts
    unfolding fixed
    fixed_board = record {
      valid = board.valid;
      ten = board.ten;
      few = omega (arith, settled_length p.signals us, board.few);
      placed = all_placed t p.signals us board.placed (members_within (λ (u : PinUse). u.pin < length t.pins) us (pin_values t p.signals) pinned settled_are.members) settled_are.members;
      hertz = board.hertz;
      homes = board.homes;
    }

    pub fixed_narrow : IsNarrow (clocks_of t p opts at).shape
    fixed_narrow =
        subst IsNarrow (sym (parts.clocks_shape t p opts board at placement))
        (clocks_narrow (fixes_clock opts.free) t p.clock (length p.signals) board.valid.clock (board.ten ∙ sym (agreed.ten_domains t)) (parts.ten_clocks t p opts board))

    fixed_problem : IsProblem (clocks_of t p opts at)
    unfolding problem_of
    fixed_problem =
        let b = fixed_board in
        agreed.agree t (fixed p us) opts Whole b.valid b.ten b.few b.placed b.homes (shape_narrow fixed_narrow) b.hertz
      where
        shape_narrow : IsNarrow (clocks_of t p opts at).shape → IsNarrow (shape_of t (fixed p us) opts Whole)
        shape_narrow n = n

    fixed_uses : (clocks_of t p opts at).uses ≡ pin_values t (all_settled p.signals us)
    unfolding problem_of fixed
    fixed_uses = refl

    fixed_resources : Each (Each (HasResources t)) (clocks_of t p opts at).uses
    unfolding fixed
    fixed_resources = subst (Each (Each (HasResources t))) (sym fixed_uses) (have_resources t board.valid (pin_values t (all_settled p.signals us)) (pinned_again fixed_board))
      where
        pinned_again : IsBoard t (fixed p us) opts → Each (Each (λ (u : PinUse). u.pin < length t.pins)) (pin_values t (all_settled p.signals us))
        pinned_again b = agreed.all_pinned t (all_settled p.signals us) b.valid b.placed

    fixed_whole : IsWhole (clocks_of t p opts at)
    fixed_whole =
        let a = fixed_problem in
        let first : (clocks_of t p opts at).first ≡ 10 = parts.clocks_first t p opts board at placement in
        let some : (clocks_of t p opts at).first ≢ 0 = λ e. absurd (omega (arith, first, e)) in
        record {
          ready = record {
            shape = a.is_shape;
            first = omega (arith, first);
            sizes = a.use_sizes;
            resources = subst (λ (x : TableParts). Each (Each (HasResources x)) (clocks_of t p opts at).uses) (sym (parts.clocks_tables t p opts board at placement)) fixed_resources;
            alike = a.alike;
          };
          first = first;
          clock = a.clock some;
          clock_sizes = a.clock_sizes;
          facts = a.facts;
        }

    -- ---- the canonical tree

    module _ (ok : meets (pins_of t p opts) at ≡ true) where
      uses_fit : fits t us ≡ true
      unfolding problem_of
      uses_fit = sym (parts.pins_meet t p opts board at) ∙ ok

      fits_here : fits t (uses_at (pin_values t p.signals) at) ≡ true
      fits_here = sym (parts.pins_meet t p opts board at) ∙ ok

      whole_uses : (whole_of t p opts).uses ≡ pin_values t p.signals
      unfolding problem_of
      whole_uses = refl

      whole_tables : (whole_of t p opts).tables ≡ t
      unfolding problem_of
      whole_tables = refl

      whole_first : (whole_of t p opts).first ≡ 10
      unfolding problem_of
      whole_first = refl

      whole_placed : (class : Class) → hall_in (whole_of t p opts).tables class (contestants class 10 (whole_of t p opts).uses (whole (pin_variables t p.signals))) ≡ None
      whole_placed class =
          let lies : LiesIn (whole (pin_variables t p.signals)) at = lies_whole (pin_variables t p.signals) at (subst (λ (vs : List VarShape). IsChoice vs at) (parts.pins_shape t p opts board) placement) in
          ap (λ (x : TableParts). hall_in x class (contestants class 10 (whole_of t p opts).uses (whole (pin_variables t p.signals)))) whole_tables
          ∙ ap (λ (vss : List (List PinUse)). hall_in t class (contestants class 10 vss (whole (pin_variables t p.signals)))) whole_uses
          ∙ placed_none t class (pin_values t p.signals) (whole (pin_variables t p.signals)) at inside lies resources few_uses fits_here

      ones : List VarShape
      ones = alone_variables (length p.signals)

      settled_variables : pin_variables t (all_settled p.signals us) ≡ alone_variables (length p.signals)
      settled_variables = settled_are.variables ∙ parts.map_alone us ∙ ap alone_variables settled_are.many

      settled_uses : uses_at (pin_values t (all_settled p.signals us)) (firsts (length p.signals)) ≡ us
      settled_uses =
          ap (λ (vss : List (List PinUse)). uses_at vss (firsts (length p.signals))) settled_are.values
          ∙ ap (λ (m : ℕ). uses_at (map one_value us) (firsts m)) (sym settled_are.many)
          ∙ parts.first_uses us

      fixed_placed : (class : Class) → hall_in (clocks_of t p opts at).tables class (contestants class 10 (clocks_of t p opts at).uses (whole ones)) ≡ None
      unfolding ones
      fixed_placed class =
          let n : ℕ = length p.signals in
          let vss : List (List PinUse) = pin_values t (all_settled p.signals us) in
          let have : HaveValues (alone_variables n) vss = subst (λ (vs : List VarShape). HaveValues vs vss) settled_variables (values_for t (all_settled p.signals us)) in
          let in_ones : AreInside vss (whole (alone_variables n)) = box_inside (alone_variables n) vss (whole (alone_variables n)) have (whole_box (alone_variables n) (ones_positions n)) in
          let lies : LiesIn (whole (alone_variables n)) (firsts n) = lies_whole (alone_variables n) (firsts n) (parts.firsts_choice n) in
          let few : 10 + length vss ≤ 192 = omega (arith, values_many t (all_settled p.signals us), settled_length p.signals us, board.few) in
          let resources_too : Each (Each (HasResources t)) vss = subst (Each (Each (HasResources t))) fixed_uses fixed_resources in
          ap (λ (x : TableParts). hall_in x class (contestants class 10 (clocks_of t p opts at).uses (whole (alone_variables n)))) (parts.clocks_tables t p opts board at placement)
          ∙ ap (λ (u : List (List PinUse)). hall_in t class (contestants class 10 u (whole (alone_variables n)))) fixed_uses
          ∙ placed_none t class vss (whole (alone_variables n)) (firsts n) in_ones lies resources_too few (ap (fits t) settled_uses ∙ uses_fit)

      limits : (cb : List Run) → canon.limit_of (clocks_of t p opts at) cb ≡ canon.limit_of (whole_of t p opts) cb
      unfolding problem_of fixed
      limits cb =
          ap (λ (f : Facts). canon.limit_with t f (whole_of t p opts).clock cb) (facts_kept t p us opts)

      -- where no clocks meet beside the placement, the canonical tree of the board is that of its clocks
      pub kept_nodes : (nodes : List Node) → NoneLegal (clocks_of t p opts at).shape (meets (clocks_of t p opts at)) → IsCanonicalOf (whole_meaning (clocks_of t p opts at)) None nodes → IsCanonicalOf (whole_meaning (whole_of t p opts)) None nodes × IsAccepted (whole_meaning (whole_of t p opts)) None nodes
      unfolding ones
      kept_nodes nodes none canonical =
          let n : ℕ = length p.signals in
          canon.kept_nodes (clock_shape t p opts Whole) (alone_variables n) (pin_variables t p.signals) (clocks_of t p opts at) (whole_of t p opts) (parts.ten_clocks t p opts board)
          (parts.clocks_shape t p opts board at placement) (parts.whole_shape t p opts board) (parts.clocks_first t p opts board at placement) whole_first
          fixed_placed whole_placed limits (ones_single n) (whole_box (alone_variables n) (ones_positions n))
          (whole_lawful (clocks_of t p opts at) fixed_whole) none nodes clocks_box canonical
