-- The canonical tree of a board whose pins can not be placed is that of its pins, which is one leaf.
use Rattle.std.proofs.Common.{◌≡◌, ℕ, ◌-◌, ◌<◌, ◌≤◌, ◌++◌, ◌==◌, ◌&&◌, List, [], ◌∷◌, length, drop, map, true, Option, Some, None, inl, inr, refl, sym, subst, ap, ◌∙◌, arith}
use Rattle.std.specs.Prelude.{Ok, nat_le, option_map}
use Rattle.std.proofs.lemmas.Bool.Decides.{nat_tests}
use Rattle.res_base.specs.declared.var_set.VarSet.{VarSet}
use Rattle.res_base.specs.Lists.{Each}
use Rattle.res_base.specs.VarSet.{in_set}
use Rattle.res_base.proofs.SumLemmas.{le_or}
use Rattle.choice_rank.specs.Choices.{IsChoice}
use Rattle.choice_rank.specs.Least.{NoneLegal}
use Rattle.choice_rank.specs.declared.variable.VarShape.{VarShape}
use Rattle.box_rules.specs.Contest.{Contestant, contestants, hall_in, named, hall_refutes, variable_at, wants}
use Rattle.box_rules.specs.Judged.{clock_box, contest, pin_meaning, pin_verdict, verdict_from, whole_meaning, whole_verdict, whole_verdict_from}
use Rattle.box_rules.proofs.ContestLemmas.{most_variable}
use Rattle.box_rules.proofs.CountLemmas.{both, some_any}
use Rattle.box_rules.proofs.JudgeLemmas.{found_hall_refutes}
use Rattle.box_split.specs.Boxes.{Run, is_single, whole}
use Rattle.clock_limits.specs.Ranges.{refuting_limit}
use Rattle.pin_match.specs.Largest.{hall_of}
use Rattle.pin_match.specs.Hall.{any_below}
use Rattle.pin_match.proofs.WordLemmas.{in_words, set_test}
use Rattle.problem.specs.Meets.{meets}
use Rattle.problem.specs.Problem.{clock_shape, problem_of}
use Rattle.problem.specs.declared.parts.Part.TheVariants.{Whole}
use Rattle.problem.specs.declared.parts.ProblemParts.{ProblemParts}
use Rattle.refutation.specs.Canonical.{IsCanonical, IsCanonicalOf, NotBad}
use Rattle.refutation.specs.Forms.{form_of}
use Rattle.refutation.specs.Reading.{proof_of}
use Rattle.refutation.specs.Spelling.{spelling}
use Rattle.refutation.specs.Trees.{BadLeaf, Fork, IsAccepted, RankLeaf, Tree, WitnessLeaf, nodes_of}
use Rattle.refutation.specs.declared.node.Node.{Node}
use Rattle.refutation.specs.declared.node.Node.TheVariants as node
use Rattle.res_model.specs.Values.{pin_values, pin_variables}
use Rattle.res_model.specs.declared.opts.Opts.{Opts}
use Rattle.res_model.specs.declared.project.Project.{Project}
use Rattle.res_model.specs.declared.table.PinUse.{PinUse}
use Rattle.res_model.specs.declared.table.TableParts.{TableParts}
use Rattle.search_api.specs.Meaning.{Meaning}
use Rattle.search_api.specs.declared.verdict.Class.{Class}
use Rattle.search_api.specs.declared.verdict.Class.TheVariants.{Exti, Pins}
use Rattle.search_api.specs.declared.verdict.Reason.{Reason}
use Rattle.search_api.specs.declared.verdict.Reason.TheVariants.{Hall}
use Rattle.search_api.specs.declared.verdict.Verdict.TheVariants.{Bad}
use Rattle.board_fit.specs.Leaf.{IsHallLeaf}
use Rattle.board_fit.specs.Parts.{IsBoard, pins_of, whole_of}
use Rattle.proof_shift.specs.Raised.{IsLow, IsLowSet, raised_node, raised_set}
use Rattle.board_fit.proofs.BoardLemmas as boards
use Rattle.board_fit.proofs.BoxLemmas.{drop_join, box_length, whole_join}
use Rattle.board_fit.proofs.LeafLemmas.{has_members, read_leaf}
use Rattle.board_fit.proofs.PartLemmas as parts
use Rattle.board_fit.proofs.PlaceLemmas as places
use Rattle.board_fit.proofs.RaisedLemmas.{hall_raised}

-- where the verdict is a reason, the canonical tree is its leaf
leaf_is : (m : Meaning) (tree : Tree) (box : List Run) (reason : Reason) → m.verdict box ≡ Bad reason → IsCanonical m None tree box → tree ≡ BadLeaf reason
leaf_is m RankLeaf box reason e c = absurd cc
leaf_is m (BadLeaf other) box reason e c = let same : Bad other ≡ Bad reason = sym c.1 ∙ e in let is : other ≡ reason = cc (same) in ap BadLeaf is
leaf_is m WitnessLeaf box reason e c = absurd (subst NotBad e c.1)
leaf_is m (Fork v k l r) box reason e c = absurd (subst NotBad e c.1)

-- the variables of a Hall set are of signals
low_vars : (t : TableParts) (class : Class) (uses : List (List PinUse)) (rs : List Run) (vars : VarSet) → length uses ≤ 160 → hall_in t class (contestants class 0 uses rs) ≡ Some vars → IsLowSet vars
unfolding hall_in named
low_vars t class uses rs vars few e = case (hall_of (length (contestants class 0 uses rs)) 192 (wants t class (contestants class 0 uses rs))) e
  where
    low : (s : VarSet) (v : ℕ) → in_set (named (contestants class 0 uses rs) s) v ≡ true → v < 160
    low s v h = elim (le_or v 192) [
      | inr more ↦ absurd (in_words (λ w. any_below (length (contestants class 0 uses rs)) (λ i. in_set s i && (variable_at (contestants class 0 uses rs) i == w))) v more h)
      | inl less ↦
          let some = some_any (length (contestants class 0 uses rs)) (λ i. in_set s i && (variable_at (contestants class 0 uses rs) i == v)) (sym (set_test (λ w. any_below (length (contestants class 0 uses rs)) (λ i. in_set s i && (variable_at (contestants class 0 uses rs) i == w))) v less) ∙ h) in
          let tests = both (in_set s some.0) (variable_at (contestants class 0 uses rs) some.0 == v) some.2 in
          let is : variable_at (contestants class 0 uses rs) some.0 ≡ v = grind (arith, nat_tests, tests.1) in
          omega (arith, is, most_variable class 0 uses rs some.0 some.1, few)
    ]

    case : (o : Option VarSet) → option_map (named (contestants class 0 uses rs)) o ≡ Some vars → IsLowSet vars
    case None q = absurd cc
    case (Some s) q = let same : named (contestants class 0 uses rs) s ≡ vars = cc in subst IsLowSet same (low s)

-- with ten added they are variables of the board
raised_small : (vars : VarSet) → IsLowSet vars → (v : ℕ) → in_set (raised_set vars) v ≡ true → v < 170
unfolding raised_set
raised_small vars low v e = elim (le_or v 192) [
  | inr more ↦ absurd (in_words (λ w. nat_le 10 w && in_set vars (w - 10)) v more e)
  | inl less ↦
      let tests = both (nat_le 10 v) (in_set vars (v - 10)) (sym (set_test (λ w. nat_le 10 w && in_set vars (w - 10)) v less) ∙ e) in
      omega (arith, low (v - 10) tests.1)
]

module _ (t : TableParts) (p : Project) (opts : Opts) (board : IsBoard t p opts) where
  abbrev uses : List (List PinUse)
  uses = pin_values t p.signals

  abbrev rs : List Run
  rs = whole (pin_variables t p.signals)

  few : length uses ≤ 160
  few = omega (arith, boards.values_many t p.signals, board.few)

  pins_first : (pins_of t p opts).first ≡ 0
  unfolding problem_of
  pins_first = refl

  pins_uses : (pins_of t p opts).uses ≡ uses
  unfolding problem_of
  pins_uses = refl

  pins_tables : (pins_of t p opts).tables ≡ t
  unfolding problem_of
  pins_tables = refl

  whole_first : (whole_of t p opts).first ≡ 10
  unfolding problem_of
  whole_first = refl

  whole_uses : (whole_of t p opts).uses ≡ uses
  unfolding problem_of
  whole_uses = refl

  whole_tables : (whole_of t p opts).tables ≡ t
  unfolding problem_of
  whole_tables = refl

  clocks_runs : length (whole (clock_shape t p opts Whole)) ≡ 10
  clocks_runs = box_length (clock_shape t p opts Whole) (whole (clock_shape t p opts Whole)) (boards.clocks_box t p opts board) ∙ parts.ten_clocks t p opts board

  -- who competes, in the box of all choices
  pins_contest : (class : Class) → contest (pins_of t p opts) class (whole (pins_of t p opts).shape) ≡ contestants class 0 uses rs
  pins_contest class =
      ap (λ (vs : List VarShape). contest (pins_of t p opts) class (whole vs)) (parts.pins_shape t p opts board)
      ∙ ap (λ (n : ℕ). contestants class n (pins_of t p opts).uses (drop n rs)) pins_first
      ∙ ap (λ (vss : List (List PinUse)). contestants class 0 vss rs) pins_uses

  whole_contest : (class : Class) → contest (whole_of t p opts) class (whole (whole_of t p opts).shape) ≡ contestants class 10 uses rs
  whole_contest class =
      ap (λ (vs : List VarShape). contest (whole_of t p opts) class (whole vs)) (parts.whole_shape t p opts board)
      ∙ ap (λ (b : List Run). contest (whole_of t p opts) class b) (whole_join (clock_shape t p opts Whole) (pin_variables t p.signals))
      ∙ ap (λ (n : ℕ). contestants class n (whole_of t p opts).uses (drop n (whole (clock_shape t p opts Whole) ++ rs))) whole_first
      ∙ ap (λ (vss : List (List PinUse)). contestants class 10 vss (drop 10 (whole (clock_shape t p opts Whole) ++ rs))) whole_uses
      ∙ ap (contestants class 10 uses) (drop_join 10 (whole (clock_shape t p opts Whole)) rs clocks_runs)

  pins_hall : (class : Class) → hall_in (pins_of t p opts).tables class (contest (pins_of t p opts) class (whole (pins_of t p opts).shape)) ≡ hall_in t class (contestants class 0 uses rs)
  pins_hall class = ap (λ (x : TableParts). hall_in x class (contest (pins_of t p opts) class (whole (pins_of t p opts).shape))) pins_tables ∙ ap (hall_in t class) (pins_contest class)

  whole_hall : (class : Class) → hall_in (whole_of t p opts).tables class (contest (whole_of t p opts) class (whole (whole_of t p opts).shape)) ≡ option_map raised_set (hall_in t class (contestants class 0 uses rs))
  whole_hall class =
      ap (λ (x : TableParts). hall_in x class (contest (whole_of t p opts) class (whole (whole_of t p opts).shape))) whole_tables
      ∙ ap (hall_in t class) (whole_contest class)
      ∙ hall_raised t class uses rs (boards.inside t p opts board)

  -- a Hall set over the pins is a leaf of both trees
  pub record IsLeaf (nodes : List Node) : Type 0 where
    pub canonical : IsCanonicalOf (whole_meaning (whole_of t p opts)) None (map raised_node nodes)
    pub accepted : IsAccepted (whole_meaning (whole_of t p opts)) None (map raised_node nodes)
    pub low : Each IsLow nodes
    pub read : proof_of (spelling None (map form_of (map raised_node nodes))) ≡ Ok (None, map form_of (map raised_node nodes))
    pub is_hall : IsHallLeaf nodes

  hall_leaf : (class : Class) (vars : VarSet) (nodes : List Node) → hall_in t class (contestants class 0 uses rs) ≡ Some vars
      → pin_verdict (pins_of t p opts) (whole (pins_of t p opts).shape) ≡ Bad (Hall class vars)
      → whole_verdict (whole_of t p opts) (whole (whole_of t p opts).shape) ≡ Bad (Hall class (raised_set vars))
      → IsCanonicalOf (pin_meaning (pins_of t p opts)) None nodes → IsLeaf nodes
  hall_leaf class vars nodes hall pins all c =
      let tree : c.tree ≡ BadLeaf (Hall class vars) = leaf_is (pin_meaning (pins_of t p opts)) c.tree (whole (pins_of t p opts).shape) (Hall class vars) pins c.canonical in
      let is : node.Bad (Hall class vars) ∷ [] ≡ nodes = ap nodes_of (sym tree) ∙ c.nodes_are in
      let refuted : hall_refutes (whole_of t p opts).tables class (contest (whole_of t p opts) class (whole (whole_of t p opts).shape)) (raised_set vars) ≡ true =
      ap (λ (x : TableParts). hall_refutes x class (contest (whole_of t p opts) class (whole (whole_of t p opts).shape)) (raised_set vars)) whole_tables
      ∙ ap (λ (cs : List Contestant). hall_refutes t class cs (raised_set vars)) (whole_contest class)
      ∙ found_hall_refutes t class 10 uses rs (boards.few_uses t p opts board) (raised_set vars) (hall_raised t class uses rs (boards.inside t p opts board) ∙ ap (option_map raised_set) hall) in
      let low : IsLowSet vars = low_vars t class uses rs vars few hall in
      subst IsLeaf is record {
        canonical = record { tree = BadLeaf (Hall class (raised_set vars)); nodes_are = refl; canonical = (refl, all) };
        accepted = record { tree = BadLeaf (Hall class (raised_set vars)); nodes_are = refl; accepts = refuted; witness = tt };
        low = (low, tt);
        read = read_leaf class (raised_set vars) (has_members (whole_of t p opts).tables class (contest (whole_of t p opts) class (whole (whole_of t p opts).shape)) (raised_set vars) refuted (λ v e. raised_small vars low v e));
        is_hall = record { class = class; vars = vars; is = refl };
      }

  module _ (none : NoneLegal (pins_of t p opts).shape (meets (pins_of t p opts))) (nodes : List Node) (c : IsCanonicalOf (pin_meaning (pins_of t p opts)) None nodes) where
    never : {A : Type 0} → hall_in t Pins (contestants Pins 0 uses rs) ≡ None → hall_in t Exti (contestants Exti 0 uses rs) ≡ None → A
    never no_pins no_lines =
        let found =
        places.placed_somewhere t uses (pin_variables t p.signals) (boards.values_for t p.signals) (boards.inside t p opts board) (places.all_alike t p.signals board.valid) (places.all_one_line t p.signals board.valid) (omega (arith, few))
        no_pins no_lines in
        absurd (none found.0 (subst (λ (vs : List VarShape). IsChoice vs found.0) (sym (parts.pins_shape t p opts board)) found.1) (parts.pins_meet t p opts board found.0 ∙ found.2))

    leaf : (pins lines : Option VarSet) → hall_in t Pins (contestants Pins 0 uses rs) ≡ pins → hall_in t Exti (contestants Exti 0 uses rs) ≡ lines → IsLeaf nodes
    leaf (Some vars) lines e f =
        let q : ProblemParts = pins_of t p opts in
        let w : ProblemParts = whole_of t p opts in
        let lines_q : Option VarSet = hall_in q.tables Exti (contest q Exti (whole q.shape)) in
        let lines_w : Option VarSet = hall_in w.tables Exti (contest w Exti (whole w.shape)) in
        let limit : Option ℕ = refuting_limit w.tables w.facts w.clock (clock_box (whole w.shape)) in
        hall_leaf Pins vars nodes e
        (ap (λ (o : Option VarSet). verdict_from o lines_q (is_single (whole q.shape))) (pins_hall Pins ∙ e))
        (ap (λ (o : Option VarSet). whole_verdict_from o lines_w limit (is_single (whole w.shape))) (whole_hall Pins ∙ ap (option_map raised_set) e))
        c
    leaf None (Some vars) e f =
        let q : ProblemParts = pins_of t p opts in
        let w : ProblemParts = whole_of t p opts in
        let lines_q : Option VarSet = hall_in q.tables Exti (contest q Exti (whole q.shape)) in
        let lines_w : Option VarSet = hall_in w.tables Exti (contest w Exti (whole w.shape)) in
        let limit : Option ℕ = refuting_limit w.tables w.facts w.clock (clock_box (whole w.shape)) in
        let none_q = ap (λ (o : Option VarSet). verdict_from o lines_q (is_single (whole q.shape))) (pins_hall Pins ∙ e) in
        let none_w = ap (λ (o : Option VarSet). whole_verdict_from o lines_w limit (is_single (whole w.shape))) (whole_hall Pins ∙ ap (option_map raised_set) e) in
        hall_leaf Exti vars nodes f
        (none_q ∙ ap (λ (o : Option VarSet). verdict_from None o (is_single (whole q.shape))) (pins_hall Exti ∙ f))
        (none_w ∙ ap (λ (o : Option VarSet). whole_verdict_from None o limit (is_single (whole w.shape))) (whole_hall Exti ∙ ap (option_map raised_set) f))
        c
    leaf None None e f = never e f

    pub unplaced_leaf : IsLeaf nodes
    unplaced_leaf = leaf (hall_in t Pins (contestants Pins 0 uses rs)) (hall_in t Exti (contestants Exti 0 uses rs)) refl refl
