-- Where the ranks of the whole problem fit, a board says what is said of it.
use Rattle.std.proofs.Common.{◌≡◌, ◌∙◌, ℕ, ◌+◌, ◌*◌, ◌≤◌, ◌++◌, List, [], ◌∷◌, false, None, map, refl, sym, subst, ap, arith}
use Rattle.std.proofs.lemmas.Nat.{mul-le}
use Rattle.answers.specs.Said.{answered}
use Rattle.answers.specs.declared.answer.Answer.{Answer}
use Rattle.answers.specs.declared.answer.Status.TheVariants.{Done, NoChoice}
use Rattle.c_print.specs.Text.{c_text_of}
use Rattle.choice_rank.specs.Choices.{HasPositions, IsNarrow, choices_of, cost_of, costs_most, rank_of}
use Rattle.choice_rank.specs.Least.{IsLeast, NoneLegal}
use Rattle.choice_rank.specs.declared.variable.VarShape.{VarShape}
use Rattle.choice_rank.proofs.ChoiceLemmas.{choices_pos, rank_same}
use Rattle.choice_setup.specs.SetUp.{setting_of}
use Rattle.init_gen.specs.Writes.{writes_of}
use Rattle.joined_choices.proofs.JoinLemmas.{choices_join}
use Rattle.box_rules.specs.Judged.{whole_meaning}
use Rattle.problem.specs.ClockValues.{clock_at}
use Rattle.problem.specs.Meets.{meets}
use Rattle.problem.specs.Problem.{clock_shape}
use Rattle.problem.specs.declared.parts.Part.TheVariants.{Whole}
use Rattle.problem.specs.declared.parts.ProblemParts.{ProblemParts}
use Rattle.refutation.specs.Forms.{form_of}
use Rattle.refutation.specs.Spelling.{spelling}
use Rattle.refutation.specs.declared.node.Node.{Node}
use Rattle.refutation.proofs.OneLemmas.{same_nodes}
use Rattle.report.specs.PinText.{pins_text, rank_line}
use Rattle.report.specs.Placed.{placement_text, uses_of}
use Rattle.report.specs.Reported.{report_text, tree_text}
use Rattle.res_model.specs.Values.{pin_variables}
use Rattle.res_model.specs.declared.opts.Opts.{Opts}
use Rattle.res_model.specs.declared.project.Project.{Project}
use Rattle.res_model.specs.declared.table.TableParts.{TableParts}
use Rattle.solver.specs.Owed as owed
use Rattle.solver.specs.Owed.{OfProblem, OfWhole, report_of}
use Rattle.solver.specs.Refutation.{IsRefutation}
use Rattle.board_fit.specs.Board as due
use Rattle.board_fit.specs.Board.{OfBoard, OfFit}
use Rattle.board_fit.specs.Parts.{IsBoard, pins_of, whole_of}
use Rattle.board_fit.specs.Same.{SayTheSame, of_choice, of_none}
use Rattle.board_fit.specs.Texts.{board_text, cost_line}
use Rattle.board_fit.proofs.BoardLemmas as boards
use Rattle.board_fit.proofs.PartLemmas as parts

-- ---- the pins of a narrow problem are narrow

costs_join : (vs ws : List VarShape) → costs_most ws ≤ costs_most (vs ++ ws)
costs_join [] ws = omega arith
costs_join (v ∷ vs) ws = omega (arith, costs_join vs ws)

choices_suffix : (vs ws : List VarShape) → HasPositions vs → choices_of ws ≤ choices_of (vs ++ ws)
choices_suffix vs ws h =
    let more : 1 * choices_of ws ≤ choices_of vs * choices_of ws = mul-le 1 (choices_of ws) (choices_of vs) (choices_of ws) (choices_pos vs h) (omega arith) in
    omega (arith, more, choices_join vs ws)

narrow_suffix : (vs ws : List VarShape) → HasPositions vs → IsNarrow (vs ++ ws) → IsNarrow ws
narrow_suffix vs ws h n =
    omega (arith, n, mul-le (1 + costs_most ws) (choices_of ws) (1 + costs_most (vs ++ ws)) (choices_of (vs ++ ws)) (omega (arith, costs_join vs ws)) (choices_suffix vs ws h))

-- ---- texts

-- a report without its rank line
abbrev rest_of : ProblemParts → List ℕ → List ℕ
rest_of w c = pins_text w.tables w.signals (uses_of w c) ++ tree_text w (clock_at w.clock c) ++ c_text_of (writes_of (setting_of w c))

no_more : (xs : List ℕ) → xs ++ [] ≡ xs
no_more [] = refl
no_more (x ∷ xs) = ap (λ (l : List ℕ). x ∷ l) (no_more xs)

joins : (ws bs cs : List ℕ) → (ws ++ bs) ++ cs ≡ ws ++ (bs ++ cs)
joins [] bs cs = refl
joins (x ∷ ws) bs cs = ap (λ (l : List ℕ). x ∷ l) (joins ws bs cs)

four : (ws bs cs ds : List ℕ) → ws ++ bs ++ cs ++ ds ≡ ws ++ (bs ++ cs ++ ds)
four ws bs cs ds = ap (λ (l : List ℕ). l ++ ds) (joins ws bs cs) ∙ joins ws (bs ++ cs) ds

-- text of a choice: the cost, and the rest
board_is : (w : ProblemParts) (c : List ℕ) → board_text w c ≡ cost_line (cost_of w.shape c) ++ rest_of w c
unfolding board_text
board_is w c = four (cost_line (cost_of w.shape c)) (pins_text w.tables w.signals (uses_of w c)) (tree_text w (clock_at w.clock c)) (c_text_of (writes_of (setting_of w c)))

report_is : (w : ProblemParts) (c : List ℕ) → report_of w c ≡ rank_line (rank_of w.shape c) (cost_of w.shape c) (choices_of w.shape) ++ rest_of w c
unfolding report_text placement_text
report_is w c = four (rank_line (rank_of w.shape c) (cost_of w.shape c) (choices_of w.shape)) (pins_text w.tables w.signals (uses_of w c)) (tree_text w (clock_at w.clock c)) (c_text_of (writes_of (setting_of w c)))

module _ (w : ProblemParts) (board resolved : Answer) where
  -- one choice is the least
  one_least : (c d : List ℕ) → IsLeast w.shape (meets w) c → IsLeast w.shape (meets w) d → c ≡ d
  one_least c d l m =
      let there : rank_of w.shape c ≤ rank_of w.shape d = l.is_lowest d m.is_choice m.is_legal in
      let back : rank_of w.shape d ≤ rank_of w.shape c = m.is_lowest c l.is_choice l.is_legal in
      rank_same w.shape c d l.is_choice m.is_choice (omega (arith, there, back))

  choice_too : (c : List ℕ) → IsLeast w.shape (meets w) c → board ≡ answered Done (board_text w c) → OfWhole false w resolved → SayTheSame w board resolved
  choice_too c l e (owed.solved d more m sound read asked f) =
      let is : d ≡ c = one_least d c m l in
      let text : report_of w d ++ more ≡ rank_line (rank_of w.shape c) (cost_of w.shape c) (choices_of w.shape) ++ rest_of w c =
      ap (λ (x : List ℕ). report_of w d ++ x) asked ∙ no_more (report_of w d) ∙ ap (report_of w) is ∙ report_is w c in
      of_choice c (rest_of w c) (e ∙ ap (answered Done) (board_is w c)) (f ∙ ap (answered Done) text)
  choice_too c l e (owed.refuted other no_legal r f) = absurd (no_legal c l.is_choice l.is_legal)

  none_too : (text : List ℕ) → NoneLegal w.shape (meets w) → IsRefutation (whole_meaning w) None [] text → board ≡ answered NoChoice text → OfWhole false w resolved → SayTheSame w board resolved
  none_too text none r e (owed.solved d more m sound read asked f) = absurd (none d m.is_choice m.is_legal)
  none_too text none r e (owed.refuted other no_legal s f) =
      let nodes : s.nodes ≡ r.nodes = same_nodes (whole_meaning w) None s.nodes r.nodes s.canonical r.canonical in
      let is : other ≡ text = s.text_is ∙ ap (λ (ns : List Node). spelling None (map form_of ns)) nodes ∙ sym r.text_is in
      of_none text e (f ∙ ap (answered NoChoice) is)

  of_fit : OfFit w board → OfWhole false w resolved → SayTheSame w board resolved
  of_fit (due.solved c l sound read e) whole = choice_too c l e whole
  of_fit (due.refuted text none r e) whole = none_too text none r e whole

  of_narrow : IsNarrow w.shape → OfFit w board → OfProblem w (OfWhole false w) resolved → SayTheSame w board resolved
  of_narrow n fit (owed.wide v not_narrow first says) = absurd (not_narrow n)
  of_narrow n fit (owed.narrow is_narrow whole) = of_fit fit whole

module _ (t : TableParts) (p : Project) (opts : Opts) (board : IsBoard t p opts) (is_narrow : IsNarrow (whole_of t p opts).shape) where
  pins_narrow : IsNarrow (pins_of t p opts).shape
  pins_narrow =
      let joined : IsNarrow (clock_shape t p opts Whole ++ pin_variables t p.signals) = subst IsNarrow (parts.whole_shape t p opts board) is_narrow in
      subst IsNarrow (sym (parts.pins_shape t p opts board)) (narrow_suffix (clock_shape t p opts Whole) (pin_variables t p.signals) (boards.clocks_positions t p opts board) joined)

  pub same : (a b : Answer) → OfBoard (pins_of t p opts) (whole_of t p opts) a → OfProblem (whole_of t p opts) (OfWhole false (whole_of t p opts)) b → SayTheSame (whole_of t p opts) a b
  same a b (due.wide v not_narrow first says) whole = absurd (not_narrow pins_narrow)
  same a b (due.narrow n fit) whole = of_narrow (whole_of t p opts) a b is_narrow fit whole
