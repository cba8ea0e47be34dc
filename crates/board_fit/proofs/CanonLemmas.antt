-- The canonical tree of a board whose pins can be placed is that of its clocks.
use Rattle.std.proofs.Common.{◌≡◌, ℕ, ◌++◌, List, length, take, drop, Bool, true, false, Option, Some, None, refl, sym, subst, ap, ◌∙◌}
use Rattle.std.specs.Prelude.{not}
use Rattle.choice_rank.specs.Least.{NoneLegal}
use Rattle.choice_rank.specs.declared.variable.VarShape.{VarShape}
use Rattle.box_rules.specs.Contest.{contestants, hall_in}
use Rattle.box_rules.specs.Judged.{clock_box, contest, refutes_whole, whole_meaning, whole_verdict, whole_verdict_from}
use Rattle.box_split.specs.Boxes.{IsBox, Run, highs, is_single, lows, whole}
use Rattle.box_split.specs.Paths.{lower, split_from, upper}
use Rattle.box_split.proofs.PathLemmas.{lower_box, lows_choice, upper_box}
use Rattle.clock_limits.proofs.LeastLemmas.{refuting_is_least}
use Rattle.clock_limits.specs.Laws.{IsLeastBroken}
use Rattle.clock_limits.specs.Ranges.{refuting_limit, limit_refutes}
use Rattle.problem.specs.Meets.{meets}
use Rattle.problem.specs.declared.parts.ProblemParts.{ProblemParts}
use Rattle.refutation.specs.Canonical.{IsCanonical, IsCanonicalOf, NotBad}
use Rattle.refutation.specs.Trees.{Accepts, BadLeaf, Fork, IsAccepted, RankLeaf, Tree, WitnessLeaf}
use Rattle.refutation.specs.declared.node.Node.{Node}
use Rattle.refutation.proofs.AcceptLemmas as accept
use Rattle.res_base.specs.declared.var_set.VarSet.{VarSet}
use Rattle.res_model.specs.declared.clock.ClockBox.{ClockBox}
use Rattle.res_model.specs.declared.clock.Facts.{Facts}
use Rattle.res_model.specs.declared.table.TableParts.{TableParts}
use Rattle.search_api.specs.Meaning.{IsLawful}
use Rattle.search_api.specs.declared.verdict.Class.{Class}
use Rattle.search_api.specs.declared.verdict.Class.TheVariants.{Exti, Pins}
use Rattle.search_api.specs.declared.verdict.Reason.{Reason}
use Rattle.search_api.specs.declared.verdict.Reason.TheVariants.{Limit}
use Rattle.search_api.specs.declared.verdict.Verdict.TheVariants.{Bad, Legal}
use Rattle.board_fit.proofs.BoxLemmas.{box_join, box_length, drop_join, highs_join, highs_length, lower_join, lows_join, lows_length, not_single_join, single_join, split_join, take_join, upper_join, whole_join}

not_false : (b : Bool) → not b ≡ false → b ≡ true
not_false true e = refl
not_false false e = cc

limits_refute : (t : TableParts) (f : Facts) (values : List (List ℕ)) (b : ClockBox) (k : ℕ) → refuting_limit t f values b ≡ Some k → limit_refutes t f values b k ≡ true
limits_refute t f values b k e =
    let least = subst (λ (o : Option ℕ). IsLeastBroken (λ j. not (limit_refutes t f values b j)) o) e (refuting_is_least t f values b) in
    not_false (limit_refutes t f values b k) least.1

-- ---- verdicts where signals can be placed

bad_limit : (limit : Option ℕ) (single : Bool) (reason : Reason) → whole_verdict_from None None limit single ≡ Bad reason → (k : ℕ) × (limit ≡ Some k) × (reason ≡ Limit k)
bad_limit (Some k) single reason e = (k, refl, cc)
bad_limit None true reason e = cc
bad_limit None false reason e = cc

still_bad : (limit : Option ℕ) (single : Bool) (k : ℕ) → limit ≡ Some k → whole_verdict_from None None limit single ≡ Bad (Limit k)
still_bad (Some j) single k e = cc
still_bad None single k e = absurd cc

still_not_bad : (limit : Option ℕ) (single other : Bool) → NotBad (whole_verdict_from None None limit single) → NotBad (whole_verdict_from None None limit other)
still_not_bad (Some k) single other h = absurd h
still_not_bad None single true h = tt
still_not_bad None single false h = tt

is_legal : (limit : Option ℕ) (single : Bool) → single ≡ true → NotBad (whole_verdict_from None None limit single) → whole_verdict_from None None limit single ≡ Legal
is_legal (Some k) single e h = absurd h
is_legal None true e h = refl
is_legal None false e h = absurd cc

-- the limit that the runs of the clock variables show
abbrev pub limit_with : TableParts → Facts → List (List ℕ) → List Run → Option ℕ
limit_with t f values cb = refuting_limit t f values record { lo = lows cb; hi = highs cb }

abbrev pub limit_of : ProblemParts → List Run → Option ℕ
limit_of x cb = limit_with x.tables x.facts x.clock cb

module _ (x : ProblemParts) (tail : List Run) (first : x.first ≡ 10) (placed : (class : Class) → hall_in x.tables class (contestants class 10 x.uses tail) ≡ None) where
  clock_runs : (cb : List Run) → length cb ≡ 10 → clock_box (cb ++ tail) ≡ record { lo = lows cb; hi = highs cb }
  clock_runs cb ten =
      let lo : take 10 (lows (cb ++ tail)) ≡ lows cb = ap (take 10) (lows_join cb tail) ∙ take_join 10 (lows cb) (lows tail) (lows_length cb ∙ ten) in
      let hi : take 10 (highs (cb ++ tail)) ≡ highs cb = ap (take 10) (highs_join cb tail) ∙ take_join 10 (highs cb) (highs tail) (highs_length cb ∙ ten) in
      ap (λ (l : List ℕ). (let b : ClockBox = record { lo = l; hi = take 10 (highs (cb ++ tail)) } in b)) lo ∙ ap (λ (h : List ℕ). (let b : ClockBox = record { lo = lows cb; hi = h } in b)) hi

  limit_is : (cb : List Run) → length cb ≡ 10 → refuting_limit x.tables x.facts x.clock (clock_box (cb ++ tail)) ≡ limit_of x cb
  limit_is cb ten = ap (refuting_limit x.tables x.facts x.clock) (clock_runs cb ten)

  no_hall : (class : Class) (cb : List Run) → length cb ≡ 10 → hall_in x.tables class (contest x class (cb ++ tail)) ≡ None
  no_hall class cb ten =
      ap (λ (n : ℕ). hall_in x.tables class (contestants class n x.uses (drop n (cb ++ tail)))) first
      ∙ ap (λ (rs : List Run). hall_in x.tables class (contestants class 10 x.uses rs)) (drop_join 10 cb tail ten)
      ∙ placed class

  pub verdict_is : (cb : List Run) → length cb ≡ 10 → whole_verdict x (cb ++ tail) ≡ whole_verdict_from None None (limit_of x cb) (is_single (cb ++ tail))
  verdict_is cb ten =
      ap (λ (o : Option VarSet). whole_verdict_from o (hall_in x.tables Exti (contest x Exti (cb ++ tail))) (refuting_limit x.tables x.facts x.clock (clock_box (cb ++ tail))) (is_single (cb ++ tail))) (no_hall Pins cb ten)
      ∙ ap (λ (o : Option VarSet). whole_verdict_from None o (refuting_limit x.tables x.facts x.clock (clock_box (cb ++ tail))) (is_single (cb ++ tail))) (no_hall Exti cb ten)
      ∙ ap (λ (o : Option ℕ). whole_verdict_from None None o (is_single (cb ++ tail))) (limit_is cb ten)

  pub limit_is_refuting : (cb : List Run) (k : ℕ) → length cb ≡ 10 → limit_of x cb ≡ Some k → refutes_whole x (Limit k) (cb ++ tail) ≡ true
  limit_is_refuting cb k ten e = limits_refute x.tables x.facts x.clock (clock_box (cb ++ tail)) k (limit_is cb ten ∙ e)

-- ---- the trees

-- a problem of clocks whose signals stay, and one of the same clocks with other signals
module _
    (clocks ones pins : List VarShape) (f w : ProblemParts) (ten : length clocks ≡ 10)
    (f_shape : f.shape ≡ clocks ++ ones) (w_shape : w.shape ≡ clocks ++ pins) (f_first : f.first ≡ 10) (w_first : w.first ≡ 10)
    (f_placed : (class : Class) → hall_in f.tables class (contestants class 10 f.uses (whole ones)) ≡ None)
    (w_placed : (class : Class) → hall_in w.tables class (contestants class 10 w.uses (whole pins)) ≡ None)
    (limits : (cb : List Run) → limit_of f cb ≡ limit_of w cb)
    (ones_single : is_single (whole ones) ≡ true) (ones_box : IsBox ones (whole ones))
    (lawful : IsLawful (whole_meaning f)) (none : NoneLegal f.shape (meets f)) where
  ten_runs : (cb : List Run) → IsBox clocks cb → length cb ≡ 10
  ten_runs cb b = box_length clocks cb b ∙ ten

  f_verdict : (cb : List Run) → IsBox clocks cb → whole_verdict f (cb ++ whole ones) ≡ whole_verdict_from None None (limit_of w cb) (is_single (cb ++ whole ones))
  f_verdict cb b = verdict_is f (whole ones) f_first f_placed cb (ten_runs cb b) ∙ ap (λ (o : Option ℕ). whole_verdict_from None None o (is_single (cb ++ whole ones))) (limits cb)

  w_verdict : (cb : List Run) → IsBox clocks cb → whole_verdict w (cb ++ whole pins) ≡ whole_verdict_from None None (limit_of w cb) (is_single (cb ++ whole pins))
  w_verdict cb b = verdict_is w (whole pins) w_first w_placed cb (ten_runs cb b)

  -- the same tree, which is accepted too
  abbrev IsKept : Tree → List Run → Type 0
  IsKept tree cb = IsCanonical (whole_meaning w) None tree (cb ++ whole pins) × Accepts (whole_meaning w) None tree (cb ++ whole pins)

  kept_bad : (reason : Reason) (cb : List Run) → IsBox clocks cb → whole_verdict f (cb ++ whole ones) ≡ Bad reason → IsKept (BadLeaf reason) cb
  kept_bad reason cb b e =
      let h = bad_limit (limit_of w cb) (is_single (cb ++ whole ones)) reason (sym (f_verdict cb b) ∙ e) in
      let is : reason ≡ Limit h.0 = h.2 in
      let bad : whole_verdict w (cb ++ whole pins) ≡ Bad (Limit h.0) = w_verdict cb b ∙ still_bad (limit_of w cb) (is_single (cb ++ whole pins)) h.0 h.1 in
      subst (λ (r : Reason). IsKept (BadLeaf r) cb) (sym is) ((refl, bad), limit_is_refuting w (whole pins) w_first w_placed cb h.0 (ten_runs cb b) h.1)

  no_witness : {A : Type 0} (cb : List Run) → IsBox clocks cb → NotBad (whole_verdict f (cb ++ whole ones)) → is_single (cb ++ whole ones) ≡ true → A
  no_witness cb b fine single =
      let box : IsBox f.shape (cb ++ whole ones) = subst (λ (vs : List VarShape). IsBox vs (cb ++ whole ones)) (sym f_shape) (box_join clocks ones cb (whole ones) b ones_box) in
      let open_to : NotBad (whole_verdict_from None None (limit_of w cb) (is_single (cb ++ whole ones))) = subst NotBad (f_verdict cb b) fine in
      let legal : whole_verdict f (cb ++ whole ones) ≡ Legal = f_verdict cb b ∙ is_legal (limit_of w cb) (is_single (cb ++ whole ones)) single open_to in
      absurd (none (lows (cb ++ whole ones)) (lows_choice f.shape (cb ++ whole ones) box) (lawful.legal_is_one (cb ++ whole ones) box legal).1)

  kept_fork : (v k : ℕ) (l r : Tree) (cb : List Run) → IsBox clocks cb → is_single cb ≡ false → NotBad (whole_verdict f (cb ++ whole ones)) → split_from 0 cb ≡ Some (v, k) → IsKept l (lower cb) → IsKept r (upper cb) → IsKept (Fork v k l r) cb
  kept_fork v k l r cb b two_choices fine split left right =
      let box : List Run = cb ++ whole pins in
      let split_too : split_from 0 box ≡ Some (v, k) = split_join 0 cb (whole pins) two_choices ∙ split in
      let two : is_single box ≡ false = not_single_join cb (whole pins) two_choices in
      let fine_too : NotBad (whole_verdict w box) = subst NotBad (sym (w_verdict cb b)) (still_not_bad (limit_of w cb) (is_single (cb ++ whole ones)) (is_single box) (subst NotBad (f_verdict cb b) fine)) in
      let low : lower box ≡ lower cb ++ whole pins = lower_join cb (whole pins) two_choices in
      let high : upper box ≡ upper cb ++ whole pins = upper_join cb (whole pins) two_choices in
      let p : accept.Parts box v k = accept.parts box v k split_too in (
        (refl, fine_too, two, split_too, subst (IsCanonical (whole_meaning w) None l) (sym low) left.0, subst (IsCanonical (whole_meaning w) None r) (sym high) right.0),
        (p.can, subst (Accepts (whole_meaning w) None l) (sym (p.low_is ∙ low)) left.1, subst (Accepts (whole_meaning w) None r) (sym (p.high_is ∙ high)) right.1),
      )

  kept : (tree : Tree) (cb : List Run) → IsBox clocks cb → IsCanonical (whole_meaning f) None tree (cb ++ whole ones) → IsKept tree cb
  kept RankLeaf cb b c = absurd cc
  kept (BadLeaf reason) cb b c = kept_bad reason cb b c.1
  kept WitnessLeaf cb b c = no_witness cb b c.1 c.2
  kept (Fork v k l r) cb b c =
      let two_choices : is_single cb ≡ false = sym (single_join cb (whole ones) ones_single) ∙ c.2 in
      let split : split_from 0 cb ≡ Some (v, k) = sym (split_join 0 cb (whole ones) two_choices) ∙ c.3 in
      kept_fork v k l r cb b two_choices c.1 split
      (kept l (lower cb) (lower_box clocks cb b) (subst (IsCanonical (whole_meaning f) None l) (lower_join cb (whole ones) two_choices) c.4))
      (kept r (upper cb) (upper_box clocks cb b) (subst (IsCanonical (whole_meaning f) None r) (upper_join cb (whole ones) two_choices) c.5))

  pub kept_nodes : (nodes : List Node) → IsBox clocks (whole clocks) → IsCanonicalOf (whole_meaning f) None nodes → IsCanonicalOf (whole_meaning w) None nodes × IsAccepted (whole_meaning w) None nodes
  kept_nodes nodes b c =
      let f_whole : whole f.shape ≡ whole clocks ++ whole ones = ap whole f_shape ∙ whole_join clocks ones in
      let w_whole : whole w.shape ≡ whole clocks ++ whole pins = ap whole w_shape ∙ whole_join clocks pins in
      let k : IsKept c.tree (whole clocks) = kept c.tree (whole clocks) b (subst (IsCanonical (whole_meaning f) None c.tree) f_whole c.canonical) in (
        record { tree = c.tree; nodes_are = c.nodes_are; canonical = subst (IsCanonical (whole_meaning w) None c.tree) (sym w_whole) k.0 },
        record { tree = c.tree; nodes_are = c.nodes_are; accepts = subst (Accepts (whole_meaning w) None c.tree) (sym w_whole) k.1; witness = tt },
      )
